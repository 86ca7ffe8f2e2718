-- `coordinates::kept::keep` meets its contract. Assumes nothing.
use Prim.Native.Nat.{◌+◌, ◌*◌, ◌≤◌}
use mathlib.Core.Path.{◌≡◌, sym, ◌∙◌}
use mathlib.Core.Bool.{true}
use native.Mathlib.Omega.{arith}
use lib.ListN.{length}
use borrow.Author.Rules.{rules}
use Rattle.coordinates.specs.KeptRows.{has_row, modest}
use Rattle.coordinates.proofs.KeptLaws.{row_told, modest_told, kept_roomless, kept_immodest, kept_written}
use Rattle.coordinates.proofs.kept.keep.Goals.{then-not-has_row-via-then-not-has_row, then-not-has_row-via-else-not-has_row+then-not-is_modest, Else-not-is_modest}
use Rattle.coordinates.proofs.kept.keep.Goals as goal

has : (c : Else-not-is_modest) → has_row (length c.args.store.now) c.args.index ≡ true
has c = sym c.has_row.ensures ∙ c.if-not-has_row.false

fine : (c : Else-not-is_modest) → modest c.args.row ≡ true
fine c = sym c.is_modest.ensures ∙ c.if-not-is_modest.false

room : (c : Else-not-is_modest) → 4 * c.args.index + 4 ≤ length c.args.store.now
room c = row_told _ _ (has c)

pub returns-then-not-has_row : goal.returns-then-not-has_row
returns-then-not-has_row c = elim c.then-not-has_row.branch [
  | then-not-has_row-via-then-not-has_row w ↦ kept_roomless _ _ _ (sym c.has_row.ensures ∙ w.if-not-has_row.true)
  | then-not-has_row-via-else-not-has_row+then-not-is_modest w ↦ kept_immodest _ _ _ (sym w.is_modest.ensures ∙ w.if-not-is_modest.true)
]

pub overflow_mul-at : goal.overflow_mul-at
overflow_mul-at c = let h = room (goal.at.overflow_mul-at c).Else-not-is_modest in search rules

pub overflow_cast-cells : goal.overflow_cast-cells
overflow_cast-cells c = record { sfits = omega (arith, (modest_told _ (fine (goal.at.overflow_cast-cells c).Else-not-is_modest)).0) }

pub overflow_cast-cells-2 : goal.overflow_cast-cells-2
overflow_cast-cells-2 c = record { sfits = omega (arith, (modest_told _ (fine (goal.at.overflow_cast-cells-2 c).Else-not-is_modest)).1) }

pub overflow_cast-cells-3 : goal.overflow_cast-cells-3
overflow_cast-cells-3 c = record { sfits = omega (arith, (modest_told _ (fine (goal.at.overflow_cast-cells-3 c).Else-not-is_modest)).2) }

pub overflow_cast-cells-4 : goal.overflow_cast-cells-4
overflow_cast-cells-4 c = record { sfits = omega (arith, (modest_told _ (fine (goal.at.overflow_cast-cells-4 c).Else-not-is_modest)).3) }

pub overflow_add-at : goal.overflow_add-at
overflow_add-at c = let h = room (goal.at.overflow_add-at c).Else-not-is_modest in search rules

pub offset_bounds-store-at : goal.offset_bounds-store-at
offset_bounds-store-at c = let h = room (goal.at.offset_bounds-store-at c).Else-not-is_modest in search rules

pub slice_bounds-copy_from_slice-end : goal.slice_bounds-copy_from_slice-end
slice_bounds-copy_from_slice-end c = room (goal.at.slice_bounds-copy_from_slice-end c).Else-not-is_modest

pub returns : goal.returns
returns c =
    let w = (goal.at.returns c).Else-not-is_modest in
    rw c.copy_from_slice.ensures.after (kept_written c.args.store.now c.args.index c.args.row (has w) (fine w) _ (omega arith))
