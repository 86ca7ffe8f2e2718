-- Elements, and what a structure is: document 01, "Rows" and "The structure table". Wherever a symbol is looked up, k is the number of elements in the list, 103
-- now. Where the paper is wider: it lets an atom stand in two charges; document 01 does not. Assumes nothing.
use Rattle.std.specs.Prelude.{ℕ, zero, suc, ◌+◌, ◌-◌, min, Bool, true, false, ◌&&◌, ◌||◌, not, List, [], ◌∷◌, ◌++◌, map, length, get_or, take, ℤ, pos, negsuc, nat_abs, eqb, ltb, leb}
use Rattle.lists.specs.Lists.{is_nil, all, any, pairs, count_up}
use Rattle.lists.specs.Order.{lex_before, ascends}
use Rattle.format.specs.Bytes.{Bytes, bytes, within, is_in, same, fields}
use Rattle.format.specs.Labels.{ListOf, Bonds, Charges, Radicals, Centres, Pairs}
use Rattle.format.specs.Rows.{Sym, Row, upper, lower}

-- "Symbols are those of elements 1 (H) to 103 (Lr)."
unfoldable pub symbols : List Bytes
symbols = fields (bytes "H He Li Be B C N O F Ne Na Mg Al Si P S Cl Ar K Ca Sc Ti V Cr Mn Fe Co Ni Cu Zn Ga Ge As Se Br Kr Rb Sr Y Zr Nb Mo Tc Ru Rh Pd Ag Cd In Sn Sb Te I Xe Cs Ba La Ce Pr Nd Pm Sm Eu Gd Tb Dy Ho Er Tm Yb Lu Hf Ta W Re Os Ir Pt Au Hg Tl Pb Bi Po At Rn Fr Ra Ac Th Pa U Np Pu Am Cm Bk Cf Es Fm Md No Lr")

-- the place of a word among words, counted from n; 0 where it is not there
unfoldable pub place_of : ℕ → Bytes → List Bytes → ℕ
place_of n w [] = 0
place_of n w (x ∷ xs) = elim (same w x) [ true ↦ n | false ↦ place_of (suc n) w xs ]

-- An element and a mass (0 none). Element 0 stands for an unknown symbol: an atom's number is judged before its symbol.
pub record Isotope : Type 0 where
  pub element : ℕ
  pub mass : ℕ

abbrev pub isotope_of : (element mass : ℕ) → Isotope
isotope_of e m = record { element = e; mass = m }

abbrev pub letters : Sym → Bytes
letters x = x.first ∷ elim x.second [ zero ↦ [] | suc b ↦ suc b ∷ [] ]

-- "D and T are hydrogen of mass 2 and 3 and take no `^` (refused 12)."
abbrev pub heavy : (caret : Bool) → ℕ → Isotope
heavy true m = isotope_of 0 0
heavy false m = isotope_of 1 m

unfoldable pub isotope : (k : ℕ) → Sym → Isotope
isotope k x =
    elim (same (letters x) (bytes "D")) [
      | true ↦ heavy x.caret 2
      | false ↦ elim (same (letters x) (bytes "T")) [ true ↦ heavy x.caret 3 | false ↦ isotope_of (place_of 1 (letters x) (take k symbols)) x.mass ]
    ]

unfoldable pub unknown : (k : ℕ) → Sym → Bool
unknown k x = eqb (isotope k x).element 0

-- "mass 1 to 300"
unfoldable pub mass_ok : Sym → Bool
mass_ok x = not x.caret || within 1 300 x.mass

pub record Atom : Type 0 where
  pub kind : Isotope
  pub hydrogens : ℕ

-- handed: the molecule is handed as a whole, as a helicene is (document 02, L4)
pub record Structure : Type 0 where
  pub atoms : List Atom
  pub bonds : List Row
  pub charges : List Row
  pub radicals : List Row
  pub centres : List Row
  pub pairs : List Row
  pub id : ℕ
  pub handed : Bool

unfoldable pub rows_of : ListOf → Structure → List Row
rows_of Bonds s = s.bonds
rows_of Charges s = s.charges
rows_of Radicals s = s.radicals
rows_of Centres s = s.centres
rows_of Pairs s = s.pairs

unfoldable pub lists : List ListOf
lists = Bonds ∷ Charges ∷ Radicals ∷ Centres ∷ Pairs ∷ []

-- How many rows a list holds, and how many atoms a row of it has (0: any number)
unfoldable pub most : ListOf → ℕ
most l = elim l [ Bonds ↦ 512 | Charges ↦ 64 | Radicals ↦ 64 | Centres ↦ 128 | Pairs ↦ 128 ]

unfoldable pub arity : ListOf → ℕ
arity l = elim l [ Bonds ↦ 2 | Charges ↦ 0 | Radicals ↦ 0 | Centres ↦ 1 | Pairs ↦ 2 ]

-- "-99 to 99 and not 0"; "unsigned 1 to 15"; "kind 1 to 5 for S, D, T, Q, A", "1 P or 2 M", "0, 1 P or 2 M" have their ranges by their letters
unfoldable pub ranging : (lowest highest : ℕ) → ℤ → Bool
ranging lowest highest (pos n) = within lowest highest n
ranging lowest highest (negsuc n) = false

unfoldable pub ranged : ListOf → ℤ → Bool
ranged Bonds v = ranging 1 5 v
ranged Charges v = within 1 99 (nat_abs v)
ranged Radicals v = ranging 1 15 v
ranged Centres v = ranging 1 2 v
ranged Pairs v = ranging 0 2 v

-- Two rows of a list meet: the same atom, the same pair; "In each list an atom stands once, and one row at most has no atoms": a common atom, or none in both.
unfoldable pub overlap : List ℕ → List ℕ → Bool
overlap ns ms = (is_nil ns && is_nil ms) || any (λ n. is_in n ms) ns

unfoldable pub meets : ListOf → Row → Row → Bool
meets l r s = elim l [
  | Bonds ↦ same r.atoms s.atoms
  | Charges ↦ overlap r.atoms s.atoms
  | Radicals ↦ overlap r.atoms s.atoms
  | Centres ↦ same r.atoms s.atoms
  | Pairs ↦ same r.atoms s.atoms
]

-- "The same pair and kind again is dropped; another kind for the pair .. is a clash": rows that meet clash, save that a bond may repeat.
unfoldable pub repeats : ListOf → Row → Row → Bool
repeats l r s = elim l [ Bonds ↦ eqb (nat_abs r.value) (nat_abs s.value) | Charges ↦ false | Radicals ↦ false | Centres ↦ false | Pairs ↦ false ]

unfoldable pub clash : ListOf → Row → Row → Bool
clash l r s = meets l r s && not (repeats l r s)

-- "Bonds, centres and pairs ascend by their atoms. Charge and radical rows ascend by lowest atom, the row without atoms last." Rows that do not meet differ in
-- their lowest atom where they are charges, so that the one order says both.
abbrev pub atoms_before : List ℕ → List ℕ → Bool
atoms_before ns ms = not (is_nil ns) && (is_nil ms || lex_before ns ms)

abbrev pub row_before : Row → Row → Bool
row_before r s = atoms_before r.atoms s.atoms

-- So many of one element and mass; the atoms as such entries, "with implied hydrogens counted as hydrogen without mass"
pub record Entry : Type 0 where
  pub kind : Isotope
  pub count : ℕ

abbrev pub entry : Isotope → ℕ → Entry
entry i n = record { kind = i; count = n }

unfoldable pub entries_of : List Atom → List Entry
entries_of [] = []
entries_of (a ∷ rest) = elim a.hydrogens [ zero ↦ entry a.kind 1 ∷ entries_of rest | suc h ↦ entry a.kind 1 ∷ entry (isotope_of 1 0) (suc h) ∷ entries_of rest ]

unfoldable pub same_isotope : Isotope → Isotope → Bool
same_isotope i j = eqb i.element j.element && eqb i.mass j.mass

unfoldable pub total : Isotope → List Entry → ℕ
total i [] = 0
total i (e ∷ es) = elim (same_isotope i e.kind) [ true ↦ e.count + total i es | false ↦ total i es ]

-- each element and mass that stands there, once
unfoldable pub kinds : List Entry → List Isotope
kinds [] = []
kinds (e ∷ es) = elim (any (same_isotope e.kind) (kinds es)) [ true ↦ kinds es | false ↦ e.kind ∷ kinds es ]

-- "for every element and mass, the formula's total over all fragments equals the atoms listed": those that stand on neither side have total 0 on both
unfoldable pub agree : List Entry → List Entry → Bool
agree es fs = all (λ i. eqb (total i es) (total i fs)) (kinds (es ++ fs))

-- GROUPS (L1): "each group of atoms joined by S, D, T or Q bonds, `A` not counting, in order of their lowest atom". For each atom in turn the lowest atom of its
-- group: without bonds it is the atom itself, and a bond that joins gives two groups the lower of their two.
abbrev pub joins : Row → Bool
joins r = within 1 4 (nat_abs r.value)

abbrev pub united : (a b : ℕ) → List ℕ → List ℕ
united a b ls = map (λ l. elim (eqb l a || eqb l b) [ true ↦ min a b | false ↦ l ]) ls

abbrev pub lowest_of : List ℕ → (atom : ℕ) → ℕ
lowest_of ls n = get_or ls (n - 1) 0

abbrev pub joined_by : Row → List ℕ → List ℕ
joined_by r ls = elim (joins r) [ true ↦ united (lowest_of ls (get_or r.atoms 0 0)) (lowest_of ls (get_or r.atoms 1 0)) ls | false ↦ ls ]

unfoldable pub lowest : (n : ℕ) → List Row → List ℕ
lowest n [] = count_up 1 n
lowest n (r ∷ rs) = joined_by r (lowest n rs)

-- the atoms of the group whose lowest atom is i; none where i is not the lowest of its group
unfoldable pub group_of : (i : ℕ) → List ℕ → List Atom → List Atom
group_of i [] rest = []
group_of i (l ∷ ls) [] = []
group_of i (l ∷ ls) (a ∷ rest) = elim (eqb i l) [ true ↦ a ∷ group_of i ls rest | false ↦ group_of i ls rest ]

abbrev pub groups_by : List ℕ → List Atom → List (List Atom)
groups_by ls l = map (λ i. group_of i ls l) (count_up 1 (length l))

unfoldable pub groups : Structure → List (List Atom)
groups s = groups_by (lowest (length s.atoms) s.bonds) s.atoms

-- A well-formed structure: every count, range, order and clash rule, by whatever way the structure came.
unfoldable pub atom_ok : (k : ℕ) → Atom → Bool
atom_ok k a = within 1 k a.kind.element && (leb a.kind.mass 300 && leb a.hydrogens 15)

unfoldable pub group_ok : ListOf → ℕ → Bool
group_ok l g = eqb g 0 || elim l [ Bonds ↦ false | Charges ↦ false | Radicals ↦ false | Centres ↦ upper g || lower g | Pairs ↦ upper g || lower g ]

-- a row of n atoms' structure: value, group and number of atoms as its list has them, its atoms listed and ascending
unfoldable pub row_ok : ListOf → (n : ℕ) → Row → Bool
row_ok l n r =
    ranged l r.value && (group_ok l r.group && ((eqb (arity l) 0 || eqb (length r.atoms) (arity l)) && (all (within 1 n) r.atoms && ascends ltb r.atoms)))

unfoldable pub rows_ok : (n : ℕ) → Structure → ListOf → Bool
rows_ok n s l = leb (length (rows_of l s)) (most l) && (all (row_ok l n) (rows_of l s) && (ascends row_before (rows_of l s) && not (pairs (meets l) (rows_of l s))))

-- handed as a whole and by a centre or a pair: "YES beside any centre or pair row"; "A sound table with 13 set has no centres and no pairs." (document 02, L4)
unfoldable pub handed_twice : Structure → Bool
handed_twice s = s.handed && not (is_nil s.centres && is_nil s.pairs)

unfoldable pub well_formed : (k : ℕ) → Structure → Bool
well_formed k s =
    within 1 256 (length s.atoms) && (all (atom_ok k) s.atoms && (all (rows_ok (length s.atoms) s) lists && (leb s.id 999999 && not (handed_twice s))))
