-- `gather::rows_run` meets its contract. Assumes nothing.
use mathlib.Core.Path.{refl, sym, subst}
use native.Mathlib.Omega.{arith}
use borrow.Author.Rules.{rules}
use Rattle.gather.specs.Runs.{RowsRan}
use Rattle.gather.proofs.RunLaws.{run_atoms, run_bonds, run_still}
use Rattle.gather.proofs.rows_run.Goals as goal

pub returns-in-6 : goal.returns-in-6
returns-in-6 c = (
  search rules,
  subst (λ q. RowsRan c.args.last c.args.block.now c.args.at c.args.p c.args.scratch.now c.atom_run-run.new.scratch (record { place = c.atom_run-run.result.place; known = q })) (sym (c.with_count.ensures (omega arith) (omega arith)))
      (run_atoms _ _ _ _ _ _ c.if-p-eq0.false _ c.in-6.is (rw c.in-Some.ensures.cases.same at c.atom_run-run.ensures)),
)

pub returns-in-7 : goal.returns-in-7
returns-in-7 c = (
  search rules,
  subst (λ q. RowsRan c.args.last c.args.block.now c.args.at c.args.p c.args.scratch.now c.bond_run-run.new.scratch (record { place = c.bond_run-run.result.place; known = q })) (sym (c.with_count-in-7.ensures (omega arith) (omega arith)))
      (run_bonds _ _ _ _ _ _ c.if-p-eq0.false _ c.in-7.is (rw c.in-Some.ensures.cases.same at c.bond_run-run.ensures)),
)

pub returns-then-p-eq0 : goal.returns-then-p-eq0
returns-then-p-eq0 c = rw c.in-Some.ensures.cases.same (refl, run_still _ _ _ _ _)

pub returns-in_default-running : goal.returns-in_default-running
returns-in_default-running c = rw c.in-Some.ensures.cases.same (refl, run_still _ _ _ _ _)
