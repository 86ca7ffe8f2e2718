-- `judgement::xyz::geometry_turn` meets its contract. Assumes nothing.
use mathlib.Core.Path.{sym, ap, ◌∙◌}
use Rattle.sorted.proofs.HandedLaws.{err_is}
use Rattle.judgement.proofs.XyzTurnLaws.{turn_noted, line_noted}
use Rattle.judgement.proofs.xyz.geometry_turn.Goals as goal

pub returns-in_err-geometry_line : goal.returns-in_err-geometry_line
returns-in_err-geometry_line c = line_noted c.args.line.now c.args.at c.args.code c.args.p c.args.scratch.now c.geometry_line.new.region c.geometry_line.result c.geometry_line.ensures c.requires _ (err_is _ _ c.from_residual.ensures.1 ∙ sym (ap (turn_noted c.args.p) c.in_err-geometry_line.was))

pub returns : goal.returns
returns c = line_noted c.args.line.now c.args.at c.args.code c.args.p c.args.scratch.now c.geometry_line.new.region c.geometry_line.result c.geometry_line.ensures c.requires _ (sym (ap (turn_noted c.args.p) c.in_ok-geometry_line.was))
