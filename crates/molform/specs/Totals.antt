-- A formula's entries as isotopes and counts: document 01, "Rows", MOLFORM. Assumes nothing.
use Rattle.std.specs.Prelude.{ℕ, List, [], map}
use Rattle.std.specs.declared.option.Option.{Option}
use Rattle.std.specs.declared.option.Option.TheVariants.{None, Some}
use Rattle.format.specs.Formula.{Counted}
use Rattle.format.specs.Structure.{isotope, Entry, entry}

-- the entries as Reading's formula_turn keeps them
abbrev pub entry_of : (k : ℕ) → Counted → Entry
entry_of k c = entry (isotope k c.symbol) c.count

abbrev pub formula_entries : (k : ℕ) → Option (List Counted) → List Entry
formula_entries k None = []
formula_entries k (Some cs) = map (λ c. entry (isotope k c.symbol) c.count) cs
