-- How the rows in code are shown as those of the definitions, and the bounds of their numbers: document 01, "Rows", "A row is answered as its values or a refusal
-- with its reason". Assumes nothing.
use Rattle.std.specs.Prelude.{◌≡◌, ◌<◌, [], ◌∷◌, pos, MatchResult}
use Rattle.std.specs.declared.option.Option.{Option}
use Rattle.std.specs.declared.option.Option.TheVariants.{None, Some}
use Rattle.std.specs.declared.result.Result.{Result}
use Rattle.format.specs.declared.refusal.Refusal.{Refusal}
use Rattle.format.specs.declared.refusal.Refusal.TheVariants.{Shape}
use Rattle.format.specs.Rows.{AtomRow, Row, row}
use Rattle.symbols.specs.ShownSymbols.{sym_of_mark}
use Rattle.rows.specs.declared.atom.AtomRow.{AtomRow as AtomKept}
use Rattle.rows.specs.declared.bond.BondRow.{BondRow}
use Rattle.rows.specs.declared.centre.CentreRow.{CentreRow}
use Rattle.rows.specs.declared.pair.PairRow.{PairRow}

-- THE ROW that each struct is
abbrev pub atom_row_of : AtomKept → AtomRow
atom_row_of r = record { number = r.number; symbol = sym_of_mark r.mark; hydrogens = r.hydrogens }

abbrev pub bond_row_of : BondRow → Row
bond_row_of r = row (r.first ∷ r.second ∷ []) (pos r.kind) 0

abbrev pub centre_row_of : CentreRow → Row
centre_row_of r = row (r.atom ∷ []) (pos r.side) r.group

abbrev pub pair_row_of : PairRow → Row
pair_row_of r = row (r.first ∷ r.second ∷ []) (pos r.side) r.group

-- THE BOUNDS of its numbers
abbrev pub AtomSmall : AtomKept → Type 0
AtomSmall r = (r.number < 1000000) × (r.mark.mass < 1000) × (r.hydrogens < 1000000)

abbrev pub BondSmall : BondRow → Type 0
BondSmall r = (r.first < 1000000) × (r.second < 1000000) × (r.kind < 6)

abbrev pub CentreSmall : CentreRow → Type 0
CentreSmall r = (r.atom < 1000000) × (r.side < 3) × (r.group < 123)

abbrev pub PairSmall : PairRow → Type 0
PairSmall r = (r.first < 1000000) × (r.second < 1000000) × (r.side < 3) × (r.group < 123)

-- WHAT A READER PROMISES of its answer to what is asked: the row, or "9 row of the wrong shape" where there is none
abbrev pub ShowsRow : {Kept Row : Type 0} → (Kept → Row) → (asked : Option Row) → Result Kept Refusal → Type 0
ShowsRow row_of asked r = MatchResult r (λ k. asked ≡ Some (row_of k)) (λ e. (asked ≡ None) × (e ≡ Shape))
