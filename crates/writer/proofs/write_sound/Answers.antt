-- `writer::write_sound` meets its contract. Assumes nothing.
use Prim.Native.Nat.{◌≤◌}
use mathlib.Core.Path.{sym, ap, subst}
use mathlib.Core.List.{◌++◌}
use lib.ListN.{length, drop}
use Rattle.writer.specs.Answers.{GroupsGathered}
use Rattle.writer.proofs.AnswerLaws.{too_long, too_short, wrote, copied}
use Rattle.writer.proofs.write_sound.Goals as goal
use Rattle.writer.proofs.write_sound.Goals.{After-entries-entries}

-- the entries are those of the groups
entries_so : (c : After-entries-entries) → GroupsGathered c.args.table.now c.entries-entries.result.now
entries_so c = subst (GroupsGathered c.args.table.now) (sym c.entries-entries.ensures) c.gather_groups.ensures.holds

few_so : (c : After-entries-entries) → length c.entries-entries.result.now ≤ 512
few_so c = rw c.entries-entries.ensures c.gather_groups.ensures.within

pub returns-then-size-gt-BLOCK : goal.returns-then-size-gt-BLOCK
returns-then-size-gt-BLOCK c = let p = (goal.at.returns-then-size-gt-BLOCK c).After-entries-entries in too_long c.args.table.now c.args.bytes.now c.args.buffer.now _ (entries_so p) _ _ _ (c.put_form-size.ensures.0 (c.requires, few_so p)) c.if-size-gt-BLOCK.true

pub returns-then-buffer-size : goal.returns-then-buffer-size
returns-then-buffer-size c = let p = (goal.at.returns-then-buffer-size c).After-entries-entries in too_short c.args.table.now c.args.bytes.now c.args.buffer.now _ (entries_so p) _ _ _ (c.put_form-size.ensures.0 (c.requires, few_so p)) c.if-size-gt-BLOCK.false c.if-buffer-size.true

pub returns-then-size-le-DRAFT : goal.returns-then-size-le-DRAFT
returns-then-size-le-DRAFT c =
    let p = (goal.at.returns-then-size-le-DRAFT c).After-entries-entries in
    copied c.args.table.now c.args.bytes.now c.args.buffer.now _ (entries_so p) _ _ _ (c.put_form-size.ensures.0 (c.requires, few_so p)) c.if-size-gt-BLOCK.false _ c.if-buffer-size.false c.if-size-le-DRAFT.true
    (ap (λ w. w ++ drop c.put_form-size.result c.args.buffer.now) c.copy_from_slice.ensures.after)

pub returns-else-size-le-DRAFT : goal.returns-else-size-le-DRAFT
returns-else-size-le-DRAFT c = let p = (goal.at.returns-else-size-le-DRAFT c).After-entries-entries in wrote c.args.table.now c.args.bytes.now c.args.buffer.now _ (entries_so p) _ _ _ (c.put_form-size.ensures.0 (c.requires, few_so p)) c.if-size-gt-BLOCK.false _ _ c.if-buffer-size.false (c.put_form.ensures.0 (c.requires, few_so p))
