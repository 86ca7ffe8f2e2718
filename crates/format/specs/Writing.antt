-- The one written form: document 01, "The one written form" and the writing part of "Refusal numbers". A form is a function of the structure and of its texts'
-- contents, wherever they stand. Assumes nothing.
use Rattle.std.specs.Prelude.{ℕ, zero, suc, ◌+◌, ◌-◌, ◌/◌, ◌%◌, Bool, true, false, ◌&&◌, ◌||◌, not, List, [], ◌∷◌, ◌++◌, map, length, get_or, drop, ℤ, pos, negsuc, nat_abs, eqb, ltb}
use Prim.Native.String.{String}
use Rattle.lists.specs.Lists.{concat, flat}
use Rattle.lists.specs.Order.{lex_before, sort}
use Rattle.format.specs.Bytes.{Bytes, bytes}
use Rattle.format.specs.Labels.{ListOf, Bonds, Charges, Radicals, Centres, Pairs}
use Rattle.format.specs.Rows.{Row, Sym, sym_of}
use Rattle.format.specs.Formula.{Counted, counted}
use Rattle.format.specs.Structure.{symbols, Isotope, letters, Atom, Entry, Structure, rows_of, lists, total, kinds, entries_of, groups}
use Rattle.format.specs.Table.{sound, decode, spans_of, text_at}

-- "no leading zeros"; in at most k digits
unfoldable pub digits_in : (k n : ℕ) → Bytes
digits_in zero n = []
digits_in (suc k) n = elim (ltb n 10) [ true ↦ (48 + n) ∷ [] | false ↦ digits_in k (n / 10) ++ ((48 + n % 10) ∷ []) ]

unfoldable pub digits : ℕ → Bytes
digits n = digits_in 6 n

-- How an isotope is spelt: "D and T for hydrogen 2 and 3, .. in the atom list too"
abbrev pub symbol_of : (element : ℕ) → Bytes
symbol_of e = get_or symbols (e - 1) []

abbrev pub spelt_by : (deuterium tritium : Bool) → (mass : ℕ) → Bytes → Sym
spelt_by true t m w = sym_of false 0 68 0
spelt_by false true m w = sym_of false 0 84 0
spelt_by false false m w = sym_of (not (eqb m 0)) m (get_or w 0 0) (get_or w 1 0)

unfoldable pub spelt : Isotope → Sym
spelt i = spelt_by (eqb i.element 1 && eqb i.mass 2) (eqb i.element 1 && eqb i.mass 3) i.mass (symbol_of i.element)

abbrev pub print_mass : (caret : Bool) → ℕ → Bytes
print_mass true m = 94 ∷ digits m
print_mass false m = []

unfoldable pub print_sym : Sym → Bytes
print_sym x = print_mass x.caret x.mass ++ letters x

-- "One line feed a line, one space between fields"
unfoldable pub behind : List Bytes → Bytes
behind [] = 10 ∷ []
behind (w ∷ ws) = 32 ∷ (w ++ behind ws)

unfoldable pub line : List Bytes → Bytes
line [] = 10 ∷ []
line (w ∷ ws) = w ++ behind ws

-- "zero hydrogens and group 0 left out"
abbrev pub unless_zero : ℕ → Bytes → List Bytes
unless_zero zero w = []
unless_zero (suc n) w = w ∷ []

unfoldable pub atom_words : (n : ℕ) → Atom → List Bytes
atom_words n a = digits n ∷ print_sym (spelt a.kind) ∷ unless_zero a.hydrogens (digits a.hydrogens)

unfoldable pub print_atoms : (n : ℕ) → List Atom → Bytes
print_atoms n [] = []
print_atoms n (a ∷ rest) = line (atom_words n a) ++ print_atoms (suc n) rest

-- "charges signed, members ascending"
abbrev pub signed_of : ℤ → Bytes
signed_of (pos n) = 43 ∷ digits n
signed_of (negsuc n) = 45 ∷ digits (suc n)

abbrev pub letter_of : String → ℤ → Bytes
letter_of s v = get_or (bytes s) (nat_abs v) 0 ∷ []

unfoldable pub row_words : ListOf → Row → List Bytes
row_words Bonds r = map digits r.atoms ++ (letter_of "-SDTQA" r.value ∷ [])
row_words Charges r = signed_of r.value ∷ map digits r.atoms
row_words Radicals r = digits (nat_abs r.value) ∷ map digits r.atoms
row_words Centres r = map digits r.atoms ++ (letter_of "0PM" r.value ∷ unless_zero r.group (r.group ∷ []))
row_words Pairs r = map digits r.atoms ++ (letter_of "0PM" r.value ∷ unless_zero r.group (r.group ∷ []))

-- "C, H, then by symbol, a shorter symbol before its extension; no mass before ascending masses"
unfoldable pub rank : (element : ℕ) → Bytes
rank e = elim (eqb e 6) [ true ↦ 0 ∷ [] | false ↦ elim (eqb e 1) [ true ↦ 1 ∷ [] | false ↦ symbol_of e ] ]

unfoldable pub formula_before : Isotope → Isotope → Bool
formula_before i j = lex_before (rank i.element) (rank j.element) || (eqb i.element j.element && ltb i.mass j.mass)

unfoldable pub formula_of : List Entry → List Counted
formula_of es = map (λ i. counted (spelt i) (total i es)) (sort formula_before (kinds es))

-- "counts of 1 left out, no `/`"
abbrev pub print_count : ℕ → Bytes
print_count n = elim (eqb n 1) [ true ↦ [] | false ↦ digits n ]

unfoldable pub print_entry : Counted → Bytes
print_entry e = print_sym e.symbol ++ print_count e.count

-- L1: "one fragment for each group of atoms .., parted by ` * `"; a fragment is its first entry and the others, so it is not empty
pub record Fragment : Type 0 where
  pub head : Counted
  pub tail : List Counted

abbrev pub fragment : List Counted → List Fragment
fragment [] = []
fragment (e ∷ es) = record { head = e; tail = es } ∷ []

-- "Each keeps the old order inside"
unfoldable pub fragments : Structure → List Fragment
fragments s = flat (λ g. fragment (formula_of (entries_of g))) (groups s)

unfoldable pub print_fragment : Counted → List Counted → (rest : Bytes) → Bytes
print_fragment e [] rest = print_entry e ++ rest
print_fragment e (f ∷ fs) rest = print_entry e ++ (32 ∷ print_fragment f fs rest)

unfoldable pub print_fragments : Fragment → List Fragment → (rest : Bytes) → Bytes
print_fragments f [] rest = print_fragment f.head f.tail rest
print_fragments f (g ∷ gs) rest = print_fragment f.head f.tail (32 ∷ 42 ∷ 32 ∷ print_fragments g gs rest)

abbrev pub print_formula : List Fragment → Bytes
print_formula [] = []
print_formula (f ∷ fs) = print_fragments f fs []

-- "`=` then a space and the value; no space where there is none"
unfoldable pub valued : Bytes → Bytes
valued [] = 10 ∷ []
valued (b ∷ v) = 32 ∷ ((b ∷ v) ++ (10 ∷ []))

unfoldable pub print_record : (label : String) → Bytes → Bytes
print_record l v = bytes l ++ valued v

-- "empty optional ones left out"
abbrev pub print_id : ℕ → Bytes
print_id zero = []
print_id (suc n) = print_record "##BLOCK_ID=" (digits (suc n))

abbrev pub list_label : ListOf → String
list_label Bonds = "##BONDLIST="
list_label Charges = "##CHARGE="
list_label Radicals = "##RADICAL="
list_label Centres = "##STEREOCENTER="
list_label Pairs = "##STEREOPAIR="

unfoldable pub print_rows : ListOf → List Row → Bytes
print_rows l [] = []
print_rows l (r ∷ rs) = print_record (list_label l) [] ++ flat (λ x. line (row_words l x)) (r ∷ rs)

-- "written as a record after STEREOPAIR with the value on the label line" (document 02, L4)
abbrev pub print_yes : Bool → Bytes
print_yes true = print_record "##STEREOMOLECULE=" (bytes "YES")
print_yes false = []

-- "Records in this order: TITLE, JCAMP-CS, ORIGIN, OWNER, BLOCK_ID, MOLFORM, ATOMLIST, BONDLIST, CHARGE, RADICAL, STEREOCENTER, STEREOPAIR, END, spelt as in
-- the paper's Table I"; STEREOMOLECULE "after STEREOPAIR" (document 02, L4)
unfoldable pub records : Structure → (texts : List Bytes) → List Bytes
records s texts =
    print_record "##TITLE=" (get_or texts 0 [])
    ∷ print_record "##JCAMP-CS=" (bytes "3.7")
    ∷ print_record "##ORIGIN=" (get_or texts 1 [])
    ∷ print_record "##OWNER=" (get_or texts 2 [])
    ∷ print_id s.id
    ∷ print_record "##MOLFORM=" (print_formula (fragments s))
    ∷ print_record "##ATOMLIST=" []
    ∷ print_atoms 1 s.atoms
    ∷ flat (λ l. print_rows l (rows_of l s)) lists
    ∷ print_yes s.handed
    ∷ print_record "##END=" []
    ∷ []

unfoldable pub canonical : Structure → (texts : List Bytes) → Bytes
canonical s texts = concat (records s texts)

unfoldable pub form_of : List ℤ → Bytes → Bytes
form_of t b = canonical (decode t) (map (text_at b) (spans_of t))

-- "Refusals in this order: 1; 21, the table isn't sound ..; 23, the form would pass 32,768 bytes; 22, the buffer is shorter. All four answer 0 bytes and leave
-- the buffer alone as lent. Success answers the count; bytes beyond it stay."
pub record WriteResult : Type 0 where
  pub number : ℕ
  pub count : ℕ
  pub buffer : Bytes

abbrev pub unwritten : ℕ → Bytes → WriteResult
unwritten n buffer = record { number = n; count = 0; buffer = buffer }

abbrev pub written_as : (long short : Bool) → (form buffer : Bytes) → WriteResult
written_as true short form buffer = unwritten 23 buffer
written_as false true form buffer = unwritten 22 buffer
written_as false false form buffer = record { number = 0; count = length form; buffer = form ++ drop (length form) buffer }

unfoldable pub write_result : (k : ℕ) → List ℤ → (texts buffer : Bytes) → WriteResult
write_result k t b buffer =
    elim (ltb (length t) 3856) [
      | true ↦ unwritten 1 buffer
      | false ↦ elim (sound k t b) [
        | false ↦ unwritten 21 buffer
        | true ↦ let form = form_of t b in written_as (ltb 32768 (length form)) (ltb (length buffer) (length form)) form buffer
      ]
    ]
