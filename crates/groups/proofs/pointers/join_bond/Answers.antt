-- `groups::pointers::join_bond` meets its contract. Assumes nothing.
use native.Mathlib.Omega.{arith}
use Rattle.std.proofs.Common.{inl, inr}
use Rattle.groups.proofs.BondLaws.{none_joins, weak_joins, unnamed_joins, named_joins}
use Rattle.groups.proofs.pointers.join_bond.Goals as goal

pub returns-then-kind-lt1 : goal.returns-then-kind-lt1
returns-then-kind-lt1 c = elim c.then-kind-lt1.either [
  | inl low ↦ none_joins c.args.table.now _ _ c.requires.0 _ c.cell-kind.ensures low
  | inr high ↦ weak_joins c.args.table.now _ _ c.requires.0 _ c.cell-kind.ensures high.1
]

pub returns-then-first-lt1 : goal.returns-then-first-lt1
returns-then-first-lt1 c =
    unnamed_joins c.args.table.now _ _ c.requires.0 _ c.cell-kind.ensures (omega arith) _ _ c.cell-first.ensures c.cell-second.ensures
    (λ w. elim c.then-first-lt1.either [
      | inl none ↦ omega (arith, w.0.0, none)
      | inr (inl beyond) ↦ omega (arith, w.0.1, beyond.1)
      | inr (inr (inl none)) ↦ omega (arith, w.1.0, none)
      | inr (inr (inr beyond)) ↦ omega (arith, w.1.1, beyond)
    ])

pub returns : goal.returns
returns c = named_joins c.args.table.now _ _ c.requires.0 _ c.cell-kind.ensures (omega arith) _ _ c.cell-first.ensures c.cell-second.ensures (omega arith) _ c.join.ensures
