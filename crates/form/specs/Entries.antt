-- What printing the formula promises: document 01, "The one written form", and document 02, L1 ("parted by ` * `"). The entries are those that were gathered of the
-- groups. Assumes nothing.
use Rattle.std.specs.Prelude.{ℕ, ◌/◌, ◌%◌, ◌≡◌, true, false, List, [], ◌∷◌, ◌++◌, get_or, eqb}
use Rattle.lists.specs.Lists.{all, flat}
use Rattle.format.specs.Bytes.{Bytes}
use Rattle.format.specs.Structure.{Atom, atom_ok, entries_of}
use Rattle.format.specs.Writing.{formula_of, print_entry, Fragment, fragment, print_formula, print_record}
use Rattle.tally.specs.declared.entries.Entry.{Entry}
use Rattle.tally.specs.Gathering.{keys_in, Gathered, entry_of}
use Rattle.printing.specs.Printing.{Printed}
use Rattle.printing.specs.declared.Sheet.{Sheet}

-- what stands before an entry: a space within a fragment, ` * ` where another one starts
abbrev pub parted : (before group : ℕ) → Bytes
parted g h = elim (eqb g h) [ true ↦ 32 ∷ [] | false ↦ 32 ∷ 42 ∷ 32 ∷ [] ]

-- entries, each behind what parts it from the one before
unfoldable pub pieces : (before : ℕ) → List Entry → Bytes
pieces g [] = []
pieces g (e ∷ es) = (parted g (e.key / 65536) ++ print_entry (entry_of (e.key % 65536) e.count)) ++ pieces (e.key / 65536) es

-- the group of the first
abbrev pub first_group : List Entry → ℕ
first_group es = get_or (keys_in es) 0 0 / 65536

-- all of them, the first behind a space
abbrev pub entries_text : List Entry → Bytes
entries_text es = pieces (first_group es) es

-- a fragment for each group that has an atom
abbrev pub fragments_of : List (List Atom) → List Fragment
fragments_of gs = flat (λ g. fragment (formula_of (entries_of g))) gs

abbrev pub FormulaLaid : List Entry → (before later : Sheet) → Type 0
FormulaLaid es s s' = (gs : List (List Atom)) → all (all (atom_ok 103)) gs ≡ true → Gathered gs es → Printed s (print_record "##MOLFORM=" (print_formula (fragments_of gs))) s'
