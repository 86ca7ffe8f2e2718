-- `coordinates::table::place` meets its contract. Assumes nothing.
use mathlib.Core.Path.{◌≡◌, sym, ◌∙◌}
use mathlib.Core.Bool.{true}
use lib.ListN.{length}
use Rattle.coordinates.specs.ShownPositions.{has_place}
use Rattle.coordinates.proofs.PlaceLaws.{place_told, place_room, placed_none, placed_at, placed_not}
use Rattle.coordinates.proofs.table.place.Goals.{Else-not-has_place}
use Rattle.coordinates.proofs.table.place.Goals as goal

has : (c : Else-not-has_place) → has_place (length c.args.positions.now) c.args.atom ≡ true
has c = sym c.has_place.ensures ∙ c.if-not-has_place.false

pub returns-then-not-has_place : goal.returns-then-not-has_place
returns-then-not-has_place c = placed_none _ _ _ (sym c.has_place.ensures ∙ c.if-not-has_place.true)

pub overflow_sub-at : goal.overflow_sub-at
overflow_sub-at c = (place_told _ _ (has (goal.at.overflow_sub-at c).Else-not-has_place)).0

pub put-requires : goal.put-requires
put-requires c = place_room _ _ (has (goal.at.put-requires c).Else-not-has_place)

pub put-requires-in-None : goal.put-requires-in-None
put-requires-in-None c = place_room _ _ (has (goal.at.put-requires-in-None c).Else-not-has_place)

pub returns-in-Some : goal.returns-in-Some
returns-in-Some c = rw c.in-Some.is (placed_at _ _ (has (goal.at.returns-in-Some c).Else-not-has_place) _ _ _ _ c.put.ensures)

pub returns-in-None : goal.returns-in-None
returns-in-None c = rw c.in-None.is (placed_not _ _ (has (goal.at.returns-in-None c).Else-not-has_place) _ c.put-in-None.ensures)
