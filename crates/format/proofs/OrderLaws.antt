-- The order of rows by their atoms, the row without atoms last, is strict, and rows that do not meet have distinct keys; meeting, repeating and clashing are
-- symmetric. So that no two rows meet is all that sorting and accepting a list need: document 01, "Rows" and "The structure table". Assumes nothing.
use Prim.Native.Nat.{ℕ}
use mathlib.Core.Path.{◌≡◌, refl, sym, ap, ◌∙◌}
use mathlib.Core.Bool.{Bool, true, false, not, ◌&&◌, ◌||◌, and_comm, and-true, or-false}
use mathlib.Core.List.{List, [], ◌∷◌, reverse}
use native.Mathlib.Omega.{arith}
use lib.IntN.{nat_abs}
use lib.Dec.{eqb, ltb}
use borrow.Author.Tests.{lt-ltb, le-ltb, eqb-true, not-false}
use Rattle.lists.specs.Lists.{is_nil, any, pairs}
use Rattle.lists.specs.Order.{level, Strict}
use Rattle.lists.specs.Folding.{take_rows, verdict, kept}
use Rattle.lists.proofs.Bools.{torn, never, and_left_false, eqb_same, eqb_symm}
use Rattle.lists.proofs.ListLaws.{any_hit}
use Rattle.lists.proofs.PairLaws.{cross_symm, pairs_within, bytes_equal, bytes_symm, same_nil, same_short, same_long}
use Rattle.lists.proofs.LexLaws.{Sides, less, equal, greater, sides, strict_by, lex_strict, lex_level, lex_less, lex_more}
use Rattle.lists.proofs.FoldLaws.{accepts, accepts_every, accepts_plain}
use Rattle.format.specs.Bytes.{is_in, same}
use Rattle.format.specs.Labels.{ListOf, Bonds, Charges, Radicals, Centres, Pairs}
use Rattle.format.specs.Rows.{Row}
use Rattle.format.specs.Structure.{overlap, meets, repeats, clash, atoms_before, row_before}

-- THE ORDER
atoms_asym : (ns ms : List ℕ) → atoms_before ns ms ≡ true → atoms_before ms ns ≡ false
atoms_asym [] ms h = torn false h refl
atoms_asym (n ∷ ns) [] h = refl
atoms_asym (n ∷ ns) (m ∷ ms) h = lex_strict.asym (n ∷ ns) (m ∷ ms) h

atoms_trans : (ns ms ks : List ℕ) → atoms_before ns ms ≡ true → atoms_before ms ks ≡ true → atoms_before ns ks ≡ true
atoms_trans [] ms ks h k = torn false h refl
atoms_trans (n ∷ ns) [] ks h k = torn false k refl
atoms_trans (n ∷ ns) (m ∷ ms) [] h k = refl
atoms_trans (n ∷ ns) (m ∷ ms) (j ∷ ks) h k = lex_strict.trans (n ∷ ns) (m ∷ ms) (j ∷ ks) h k

pub atoms_strict : Strict atoms_before
atoms_strict = record { asym = atoms_asym; trans = atoms_trans }

pub row_strict : Strict row_before
row_strict = strict_by atoms_before atoms_strict (λ (r : Row). r.atoms)

-- neither before the other: the same atoms
pub atoms_level : (ns ms : List ℕ) → level atoms_before ns ms ≡ same ns ms
atoms_level [] [] = sym (same_nil eqb)
atoms_level [] (m ∷ ms) = sym (same_short eqb m ms)
atoms_level (n ∷ ns) [] = sym (same_long eqb n ns)
atoms_level (n ∷ ns) (m ∷ ms) = lex_level (n ∷ ns) (m ∷ ms)

-- A COMMON ATOM, or none in both
pub overlap_symm : (ns ms : List ℕ) → overlap ns ms ≡ overlap ms ns
unfolding overlap
overlap_symm ns ms = rw (and_comm (is_nil ns) (is_nil ms), cross_symm eqb eqb_symm ns ms)

pub overlap_self : (ns : List ℕ) → overlap ns ns ≡ true
unfolding overlap
overlap_self [] = refl
overlap_self (n ∷ ns) = any_hit (λ m. is_in m (n ∷ ns)) n ns (any_hit (eqb n) n ns (eqb_same n))

pub overlap_first : (n : ℕ) (ns ms : List ℕ) → overlap (n ∷ ns) (n ∷ ms) ≡ true
unfolding overlap
overlap_first n ns ms = any_hit (λ m. is_in m (n ∷ ms)) n ns (any_hit (eqb n) n ms (eqb_same n))

overlap_apart : (ns ms : List ℕ) → overlap ns ms ≡ false → level atoms_before ns ms ≡ false
overlap_apart ns ms h = never (level atoms_before ns ms) (λ e. away (bytes_equal ns ms (sym (atoms_level ns ms) ∙ e)))
  where
    away : ns ≡ ms → ⊥
    away q = torn (overlap ns ms) (ap (overlap ns) (sym q) ∙ overlap_self ns) h

-- rows with atoms that have none in common stand by their first atoms: "ascend by lowest atom"
pub overlap_order : (n m : ℕ) (ns ms : List ℕ) → overlap (n ∷ ns) (m ∷ ms) ≡ false → atoms_before (n ∷ ns) (m ∷ ms) ≡ ltb n m
overlap_order n m ns ms h = go (sides n m)
  where
    go : Sides n m → atoms_before (n ∷ ns) (m ∷ ms) ≡ ltb n m
    go (less a) = lex_less n m ns ms a ∙ sym (lt-ltb n m a)
    go (equal a) = torn (overlap (n ∷ ns) (m ∷ ms)) (ap (λ (k : ℕ). overlap (n ∷ ns) (k ∷ ms)) (sym a) ∙ overlap_first n ns ms) h
    go (greater a) = lex_more n m ns ms a ∙ sym (le-ltb n m (omega arith))

abbrev pub is_bond : ListOf → Bool
is_bond l = elim l [ Bonds ↦ true | Charges ↦ false | Radicals ↦ false | Centres ↦ false | Pairs ↦ false ]

-- MEETING, REPEATING, CLASHING are symmetric
pub meets_symm : (l : ListOf) (r s : Row) → meets l r s ≡ meets l s r
unfolding meets
meets_symm Bonds r s = bytes_symm r.atoms s.atoms
meets_symm Charges r s = overlap_symm r.atoms s.atoms
meets_symm Radicals r s = overlap_symm r.atoms s.atoms
meets_symm Centres r s = bytes_symm r.atoms s.atoms
meets_symm Pairs r s = bytes_symm r.atoms s.atoms

pub repeats_symm : (l : ListOf) (r s : Row) → repeats l r s ≡ repeats l s r
unfolding repeats
repeats_symm Bonds r s = eqb_symm (nat_abs r.value) (nat_abs s.value)
repeats_symm Charges r s = refl
repeats_symm Radicals r s = refl
repeats_symm Centres r s = refl
repeats_symm Pairs r s = refl

pub clash_is : (l : ListOf) (r s : Row) → clash l r s ≡ (meets l r s && not (repeats l r s))
unfolding clash
clash_is l r s = refl

pub clash_symm : (l : ListOf) (r s : Row) → clash l r s ≡ clash l s r
unfolding clash
clash_symm l r s = rw (meets_symm l r s, repeats_symm l r s)

-- DISTINCT KEYS: of rows that do not meet one stands before the other
pub meets_apart : (l : ListOf) (r s : Row) → meets l r s ≡ false → level row_before r s ≡ false
unfolding meets
meets_apart Bonds r s h = atoms_level r.atoms s.atoms ∙ h
meets_apart Charges r s h = overlap_apart r.atoms s.atoms h
meets_apart Radicals r s h = overlap_apart r.atoms s.atoms h
meets_apart Centres r s h = atoms_level r.atoms s.atoms ∙ h
meets_apart Pairs r s h = atoms_level r.atoms s.atoms ∙ h

pub rows_apart : (l : ListOf) (rs : List Row) → pairs (meets l) rs ≡ false → pairs (level row_before) rs ≡ false
rows_apart l rs h = pairs_within (meets l) (level row_before) (meets_apart l) rs h

-- A CLASH is a meeting that is no repeat
pub clash_plain : (l : ListOf) (r s : Row) → repeats l r s ≡ false → clash l r s ≡ meets l r s
clash_plain l r s e = clash_is l r s ∙ ap (λ (t : Bool). meets l r s && not t) e ∙ and-true (meets l r s)

pub clash_none : (l : ListOf) (r s : Row) → meets l r s ≡ false → clash l r s ≡ false
clash_none l r s h = clash_is l r s ∙ and_left_false (meets l r s) (not (repeats l r s)) h

pub clash_repeat : (l : ListOf) (r s : Row) → meets l r s ≡ true → clash l r s ≡ false → repeats l r s ≡ true
clash_repeat l r s m c = not-false (repeats l r s) (sym (ap (λ (t : Bool). t && not (repeats l r s)) m) ∙ sym (clash_is l r s) ∙ c)

pub rows_clear : (l : ListOf) (rs : List Row) → pairs (meets l) rs ≡ false → pairs (clash l) rs ≡ false
rows_clear l rs h = pairs_within (meets l) (clash l) (clash_none l) rs h

-- only a bond can repeat another row
pub repeats_bond : (r s : Row) → repeats Bonds r s ≡ eqb (nat_abs r.value) (nat_abs s.value)
unfolding repeats
repeats_bond r s = refl

pub repeats_none : (l : ListOf) → is_bond l ≡ false → (r s : Row) → repeats l r s ≡ false
unfolding repeats
repeats_none Bonds e r s = torn true refl e
repeats_none Charges e r s = refl
repeats_none Radicals e r s = refl
repeats_none Centres e r s = refl
repeats_none Pairs e r s = refl

pub meets_bond : (r s : Row) → meets Bonds r s ≡ same r.atoms s.atoms
unfolding meets
meets_bond r s = refl

clash_bond : (r s z : Row) → r.atoms ≡ s.atoms → nat_abs r.value ≡ nat_abs s.value → clash Bonds r z ≡ clash Bonds s z
clash_bond r s z a v =
    clash_is Bonds r z ∙ rw (meets_bond r z, repeats_bond r z, a, v) (sym (clash_is Bonds s z ∙ rw (meets_bond s z, repeats_bond s z)))

-- a row that meets another without a clash is its repeat, and clashes with the same rows
pub repeat_alike : (l : ListOf) (r s z : Row) → meets l r s ≡ true → clash l r s ≡ false → clash l r z ≡ true → clash l s z ≡ true
repeat_alike Bonds r s z m c k =
    let a : r.atoms ≡ s.atoms = bytes_equal r.atoms s.atoms (sym (meets_bond r s) ∙ m) in
    let v : nat_abs r.value ≡ nat_abs s.value = eqb-true _ _ (sym (repeats_bond r s) ∙ clash_repeat Bonds r s m c) in
    sym (clash_bond r s z a v) ∙ k
repeat_alike Charges r s z m c k = torn (clash Charges r s) (clash_plain Charges r s (repeats_none Charges refl r s) ∙ m) c
repeat_alike Radicals r s z m c k = torn (clash Radicals r s) (clash_plain Radicals r s (repeats_none Radicals refl r s) ∙ m) c
repeat_alike Centres r s z m c k = torn (clash Centres r s) (clash_plain Centres r s (repeats_none Centres refl r s) ∙ m) c
repeat_alike Pairs r s z m c k = torn (clash Pairs r s) (clash_plain Pairs r s (repeats_none Pairs refl r s) ∙ m) c

-- THE FIVE LISTS: rows are accepted if and only if none is bad by itself and no two clash; those kept do not meet
module _ (l : ListOf) (own : Row → Bool) where
  pub rows_accept : (rs : List Row) → take_rows own (clash l) (meets l) [] rs ≡ verdict (any own rs || pairs (clash l) rs) (kept (meets l) [] rs)
  rows_accept rs = accepts own (clash l) (meets l) (clash_symm l) (repeat_alike l) rs

  -- rows of which no two meet, as they stand written, are all kept
  pub rows_whole : (rs : List Row) → pairs (meets l) rs ≡ false → take_rows own (clash l) (meets l) [] rs ≡ verdict (any own rs) (reverse rs)
  rows_whole rs h =
      accepts_every own (clash l) (meets l) (clash_symm l) (repeat_alike l) (meets_symm l) rs h
      ∙ ap (λ (t : Bool). verdict (any own rs || t) (reverse rs)) (rows_clear l rs h) ∙ ap (λ (t : Bool). verdict t (reverse rs)) (or-false (any own rs))

  -- in all lists but the bonds every row is kept, or the list is refused
  pub rows_plain : is_bond l ≡ false → (rs : List Row) → take_rows own (clash l) (meets l) [] rs ≡ verdict (any own rs || pairs (clash l) rs) (reverse rs)
  rows_plain e rs = accepts_plain own (clash l) (meets l) (clash_symm l) (λ r s h. sym (clash_plain l r s (repeats_none l e r s)) ∙ h) rs
