-- `tally::gather_atoms` meets its contract. Assumes nothing.
use Prim.Native.Nat.{◌*◌, ◌<◌}
use mathlib.Core.Path.{◌≡◌, refl, sym, ◌∙◌}
use native.Mathlib.Omega.{arith}
use lib.ListN.{drop, get_or}
use Rattle.tally.specs.Gathering.{atom_no}
use Rattle.tally.proofs.KeyLaws.{key_given}
use Rattle.tally.proofs.AtomLaws.{key_dropped, implied_dropped}
use Rattle.tally.proofs.GatherLaws.{Passed, passed_none, passed_up, passed_small, passed_roomy, passed_closed, passed_one, no_kind, no_hydrogens, gathered}
use Rattle.tally.proofs.gather_atoms.Goals as goal
use Rattle.tally.proofs.gather_atoms.Goals.{In_ok-own, After-from, then-label-group, else-label-group}

pub loop-i-init : goal.loop-i-init
loop-i-init c = rw c.requires.1 (passed_none _ _)

pub returns-in_err-own-clause-none : goal.returns-in_err-own-clause-none
returns-in_err-own-clause-none c = λ _. no_kind (drop 16 c.args.front.now) c.args.labels.now c.loop-i.i _ c.loop-i-test.true (sym c.in_err-own.was ∙ key_dropped c.args.front.now c.loop-i.i _ c.key_at.ensures)

pub returns-then-more-gt-HYDROGENS-clause-none : goal.returns-then-more-gt-HYDROGENS-clause-none
returns-then-more-gt-HYDROGENS-clause-none c = λ _. no_hydrogens (drop 16 c.args.front.now) c.args.labels.now c.loop-i.i _ c.loop-i-test.true _ (implied_dropped c.args.front.now c.loop-i.i _ c.implied_at-more.ensures) c.if-more-gt-HYDROGENS.true

pub close_group-requires : goal.close_group-requires
close_group-requires c = let l = c.loop-i in (omega (arith, l.invariant.few, c.loop-i-test.true, c.requires.0), passed_up _ _ _ _ _ _ _ l.invariant, λ j. omega (arith, passed_small _ _ _ _ _ _ _ l.invariant j, l.invariant.small, c.loop-i-test.true, c.requires.0))

-- the key that the atom has
keyed_so : (c : In_ok-own) → c.in_ok-own.own < 65536
keyed_so c = (key_given (atom_no c.args.front.now c.loop-i.i).kind c.in_ok-own.own (sym c.in_ok-own.was ∙ c.key_at.ensures)).1

-- the group that runs is the atom's, whether another one had to be closed or not
runs : (c : After-from) → Passed (drop 16 c.args.front.now) c.args.labels.now c.loop-i.i (2 * c.loop-i.i) c.if-label-group.group c.if-label-group.hydrogens c.if-label-group.tally
runs c = elim c.if-label-group.branch [
  | then-label-group w ↦ rw (w.tally-is, w.group-is, w.hydrogens-is) (passed_closed _ _ _ _ _ _ _ c.loop-i.invariant _ _ refl w.close_group.ensures.few w.close_group.ensures.none w.close_group.ensures.shows)
  | else-label-group w ↦ rw (w.tally-is, w.group-is, w.hydrogens-is) (passed_roomy _ _ _ _ _ _ _ c.loop-i.invariant _ (omega arith))
]

own_group : (c : After-from) → c.if-label-group.group ≡ get_or c.args.labels.now c.loop-i.i 0
own_group c = elim c.if-label-group.branch [
  | then-label-group w ↦ w.group-is
  | else-label-group w ↦ w.group-is ∙ sym w.if-label-group.false
]

pub overflow_add-key : goal.overflow_add-key
overflow_add-key c = record { fits = omega (arith, keyed_so (goal.at.overflow_add-key c).In_ok-own, c.from.ensures, own_group (goal.at.overflow_add-key c).After-from, (c.type_inv.labels c.loop-i.i).fits) }

pub bounds-likely-rank : goal.bounds-likely-rank
bounds-likely-rank c = omega (arith, keyed_so (goal.at.bounds-likely-rank c).In_ok-own)

pub bounds-likely-rank-in-loop-i : goal.bounds-likely-rank-in-loop-i
bounds-likely-rank-in-loop-i c = omega (arith, keyed_so (goal.at.bounds-likely-rank-in-loop-i c).In_ok-own)

pub add-requires : goal.add-requires
add-requires c =
    let p = runs (goal.at.add-requires c).After-from in
    (c.find-place.ensures.bound, omega (arith, p.few, c.loop-i-test.true, c.requires.0), omega (arith, passed_small _ _ _ _ _ _ _ p c.find-place.result, c.loop-i-test.true, c.requires.0))

pub loop-i-preserved : goal.loop-i-preserved
loop-i-preserved c =
    let p = runs (goal.at.loop-i-preserved c).After-from in
    let own = sym c.in_ok-own.was ∙ key_dropped c.args.front.now c.loop-i.i _ c.key_at.ensures in
    passed_one _ _ _ _ _ _ _ p c.in_ok-own.own c.find-place.result c.implied_at-more.result _ _ refl (own_group (goal.at.loop-i-preserved c).After-from) (key_given _ _ own).0
    (implied_dropped c.args.front.now c.loop-i.i _ c.implied_at-more.ensures) c.if-more-gt-HYDROGENS.false (omega (arith, c.from.ensures)) (c.find-place.ensures.place (passed_up _ _ _ _ _ _ _ p)) c.add.ensures.few c.add.ensures.shows

pub close_group-requires-2 : goal.close_group-requires-2
close_group-requires-2 c = let l = c.loop-i in (omega (arith, l.invariant.few, l.auto.i-end, c.requires.0), passed_up _ _ _ _ _ _ _ l.invariant, λ j. omega (arith, passed_small _ _ _ _ _ _ _ l.invariant j, l.invariant.small, l.auto.i-end, c.requires.0))

pub returns-clause-holds : goal.returns-clause-holds
returns-clause-holds c = λ _. gathered _ _ c.loop-i.i _ 0 _ (omega (arith, c.loop-i.auto.i-end)) (passed_closed _ _ _ _ _ _ _ c.loop-i.invariant _ _ refl c.close_group-2.ensures.few c.close_group-2.ensures.none c.close_group-2.ensures.shows)
