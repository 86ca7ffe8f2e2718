-- `coordinates::table::position` meets its contract. Assumes nothing.
use mathlib.Core.Path.{◌≡◌, sym, ◌∙◌}
use mathlib.Core.Bool.{true}
use native.Mathlib.Omega.{arith}
use lib.ListN.{length}
use Rattle.coordinates.specs.ShownPositions.{has_place}
use Rattle.coordinates.proofs.PlaceLaws.{place_told, place_room, no_place, read_at, read_not}
use Rattle.coordinates.proofs.table.position.Goals.{Else-not-has_place}
use Rattle.coordinates.proofs.table.position.Goals as goal

has : (c : Else-not-has_place) → has_place (length c.args.positions.now) c.args.atom ≡ true
has c = sym c.has_place.ensures ∙ c.if-not-has_place.false

pub returns-then-not-has_place : goal.returns-then-not-has_place
returns-then-not-has_place c = no_place _ _ (sym c.has_place.ensures ∙ c.if-not-has_place.true)

pub overflow_sub-at : goal.overflow_sub-at
overflow_sub-at c = (place_told _ _ (has (goal.at.overflow_sub-at c).Else-not-has_place)).0

pub bounds-positions-at : goal.bounds-positions-at
bounds-positions-at c = let h = place_room _ _ (has (goal.at.bounds-positions-at c).Else-not-has_place) in omega arith

pub bounds-positions-at-then-positions-at : goal.bounds-positions-at-then-positions-at
bounds-positions-at-then-positions-at c = let h = place_room _ _ (has (goal.at.bounds-positions-at-then-positions-at c).Else-not-has_place) in omega arith

pub bounds-positions-at-then-positions-at-2 : goal.bounds-positions-at-then-positions-at-2
bounds-positions-at-then-positions-at-2 c = let h = place_room _ _ (has (goal.at.bounds-positions-at-then-positions-at-2 c).Else-not-has_place) in omega arith

pub bounds-positions-at-then-positions-at-3 : goal.bounds-positions-at-then-positions-at-3
bounds-positions-at-then-positions-at-3 c = let h = place_room _ _ (has (goal.at.bounds-positions-at-then-positions-at-3 c).Else-not-has_place) in omega arith

pub returns-then-positions-at : goal.returns-then-positions-at
returns-then-positions-at c = read_at _ _ (has (goal.at.returns-then-positions-at c).Else-not-has_place) c.if-positions-at.true

pub returns : goal.returns
returns c = read_not _ _ (has (goal.at.returns c).Else-not-has_place) c.if-positions-at.false
