-- A position is given exactly when a row of XYZ names the atom, and is then that row's: of the table of positions after every accepted reading. Document 02, L2, "per
-- atom 1 if given, X, Y, Z; else four 0". Assumes nothing.
use Prim.Native.Nat.{ℕ, ◌+◌, ◌≤◌}
use mathlib.Core.Path.{◌≡◌, sym, ap, ◌∙◌}
use mathlib.Core.Bool.{true, false}
use mathlib.Core.List.{List, [], ◌∷◌, ◌++◌}
use native.Mathlib.Omega.{arith}
use lib.ListN.{get_or, drop}
use lib.Seq.{get_or-take, get_or-drop}
use lib.Ieee.{Float, fin}
use lib.IntN.{pos}
use Rattle.lists.proofs.Bools.{always}
use Rattle.format.specs.Bytes.{Bytes}
use Rattle.format.specs.Coordinates.{position_in, nought, position_numbers, position_table}
use Rattle.format.specs.Table.{Lent, short, ReadResult, read_result}
use Rattle.format.proofs.PositionLaws.{position_at_lem, position_none, position_flag, position_of, position_reverse}
use Rattle.demands.specs.Accepted.{xyz_rows, factor_in, Obeys, ◌exactly_when◌}
use Rattle.demands.specs.ReadAs.{geometry_in}
use Rattle.demands.specs.Positions.{position_place, four_of, row_names, PositionTold}
use Rattle.demands.proofs.Accepted.{accepted_iff}
use Rattle.demands.proofs.ReadAs.{table_is}

module _ (k : ℕ) (b : Bytes) (l : Lent) (wide : short l ≡ false) (accepted : (read_result k b l).number ≡ 0) (n : ℕ) (low : 1 ≤ n) (high : n ≤ 256) where
  obeyed : Obeys k b
  obeyed = (accepted_iff k b l wide).0 accepted

  abbrev table : List Float
  table = (read_result k b l).after.positions

  table_as : table ≡ position_table (geometry_in b) ++ drop 1024 l.positions
  table_as = ap (λ (r : ReadResult). r.after.positions) (table_is k b l wide obeyed)

  four_are : four_of n table ≡ position_numbers (position_in (factor_in b) (xyz_rows b) n)
  four_are =
      ap (four_of n) table_as ∙ position_at_lem (geometry_in b) n (drop 1024 l.positions) low high
      ∙ ap position_numbers (position_reverse (factor_in b) n (xyz_rows b) obeyed.xyz_ascending)

  none_told : row_names b n ≡ false → four_of n table ≡ nought ∷ nought ∷ nought ∷ nought ∷ []
  none_told e = four_are ∙ ap position_numbers (position_none (factor_in b) n (xyz_rows b) e)

  first_is : get_or table (position_place n) nought ≡ get_or (four_of n table) 0 nought
  first_is =
      let q : position_place n ≡ position_place n + 0 = omega arith in
      ap (λ (i : ℕ). get_or table i nought) q ∙ sym (get_or-drop (position_place n) table 0 nought) ∙ sym (get_or-take 4 (drop (position_place n) table) 0 nought (omega arith))

  given_when : (get_or table (position_place n) nought ≡ fin false 1 (pos 0)) exactly_when (row_names b n ≡ true)
  given_when = (
    λ e. always (row_names b n) (λ z. zero_one (sym (first_is ∙ ap (λ (r : List Float). get_or r 0 nought) (none_told z)) ∙ e)),
    λ e. first_is ∙ ap (λ (r : List Float). get_or r 0 nought) four_are ∙ position_flag (factor_in b) n (xyz_rows b) e,
  )
    where
      zero_one : nought ≡ fin false 1 (pos 0) → ⊥
      zero_one e = let z : ◌≡◌ {A = ℕ} 0 1 = cc in omega arith

  pub positions_given : PositionTold b n (read_result k b l).after.positions
  positions_given = record {
    given = given_when;
    row_told = λ i other h e. four_are ∙ ap position_numbers (position_of (factor_in b) n other (xyz_rows b) i obeyed.xyz_ascending h e);
    not_given = none_told;
    position_told = four_are;
  }
