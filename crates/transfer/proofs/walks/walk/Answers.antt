-- The walk: its refusals, the end, and the first line, which decides between a block and a stray run. Assumes nothing.
use mathlib.Core.Path.{sym, ap}
use Rattle.format.specs.Walking.{walk_result}
use Rattle.format.proofs.WalkLaws.{walk_long, walk_beyond}
use Rattle.transfer.proofs.PassLaws.{turn_passes, title_passes}
use Rattle.transfer.proofs.StepLaws.{walk_end, walk_block, walk_stray}
use Rattle.transfer.specs.Shown.{shown}
use Rattle.transfer.proofs.walks.walk.Goals as goal

pub returns-then-file-gt-FILE : goal.returns-then-file-gt-FILE
unfolding shown
returns-then-file-gt-FILE c = ap walk_result (sym (walk_long _ _ c.if-file-gt-FILE.true))

pub returns-then-file-place : goal.returns-then-file-place
unfolding shown
returns-then-file-place c = ap walk_result (sym (walk_beyond _ _ c.if-file-gt-FILE.false c.if-file-place.true))

pub returns-then-place-file : goal.returns-then-place-file
unfolding shown
returns-then-place-file c = ap walk_result (sym (walk_end _ _ c.if-file-gt-FILE.false c.if-place-file.true))

pub end_of-requires : goal.end_of-requires
end_of-requires c = turn_passes

pub end_of-requires-else-is_title_line : goal.end_of-requires-else-is_title_line
end_of-requires-else-is_title_line c = title_passes

pub returns-then-is_title_line : goal.returns-then-is_title_line
unfolding shown
returns-then-is_title_line c = ap walk_result (sym (walk_block _ _ c.if-file-gt-FILE.false _ c.if-file-place.false c.if-place-file.false c.line_end-end.ensures.is _ c.is_title_line.ensures _ c.if-is_title_line.true c.end_of.ensures))

pub returns-else-is_title_line : goal.returns-else-is_title_line
unfolding shown
returns-else-is_title_line c = ap walk_result (sym (walk_stray _ _ c.if-file-gt-FILE.false _ c.if-file-place.false c.if-place-file.false c.line_end-end.ensures.is _ c.is_title_line.ensures _ c.if-is_title_line.false c.end_of-else-is_title_line.ensures))
