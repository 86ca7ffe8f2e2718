-- Keys and counts that show entries are the formula's: ascending keys are told by which there are, those of the kinds in the formula's order ascend, and a key's
-- sum is its kind's total. Document 01, "The one written form". Assumes nothing.
use Prim.Native.Nat.{ℕ, ◌+◌, ◌<◌}
use mathlib.Core.Path.{◌≡◌, refl, sym, ap, ap₂, ◌∙◌}
use mathlib.Core.Bool.{Bool, true, false, ◌||◌}
use mathlib.Core.List.{List, [], ◌∷◌, map}
use native.Mathlib.Omega.{arith}
use lib.Dec.{eqb, ltb}
use borrow.Author.Tests.{eqb-true, ltb-true, lt-ltb, le-ltb, eq-eqb, ne_eqb}
use Rattle.lists.specs.Lists.{all, any, pairs}
use Rattle.lists.specs.Order.{insert, sort, ascends, level}
use Rattle.lists.proofs.Bools.{torn, eqb_same}
use Rattle.lists.proofs.ListLaws.{all_nil, all_parts, all_both, any_nil, any_cons, any_hit, any_miss, any_later, any_neither, any_parts}
use Rattle.lists.proofs.PairLaws.{pairs_nil, pairs_parts, pairs_neither}
use Rattle.lists.proofs.PartLaws.{any_map}
use Rattle.lists.proofs.LexLaws.{Sides, less, equal, greater, sides, ltb_strict}
use Rattle.lists.proofs.SortLaws.{insert_nil, insert_here, insert_past, sort_nil, sort_step, sort_any, sort_all, sort_ascends, ascends_parts, ascends_first}
use Rattle.format.specs.Structure.{Isotope, Entry, same_isotope, total, kinds}
use Rattle.format.specs.Writing.{formula_before}
use Rattle.format.proofs.TotalLaws.{isotope_is, total_nil, total_hit, total_miss, kinds_nil, kinds_again, kinds_new, kinds_once}
use Rattle.tally.specs.Ranks.{key_of, fine}
use Rattle.tally.specs.Gathering.{tallied, keyed, sum_of}
use Rattle.tally.proofs.KeyLaws.{key_before, key_same}
use Rattle.tally.proofs.ShowLaws.{sum_nil, sum_hit, sum_miss}
use Rattle.tally.proofs.SumLaws.{plain}

-- ASCENDING NUMBERS are told by which there are
above : (x : ℕ) (ys : List ℕ) → all (ltb x) ys ≡ true → any (eqb x) ys ≡ false
above x [] h = any_nil (eqb x)
above x (y ∷ ys) h =
    let p = all_parts (ltb x) y ys h in
    any_neither (eqb x) y ys (ne_eqb x y (λ q. let a : x < y = ltb-true x y p.0 in omega arith)) (above x ys p.1)

lowest : (x : ℕ) (xs : List ℕ) → ascends ltb (x ∷ xs) ≡ true → any (eqb x) xs ≡ false
lowest x xs h = above x xs (ascends_first ltb ltb_strict x xs h)

-- a number below the first is not there
below : (x y : ℕ) (ys : List ℕ) → x < y → ascends ltb (y ∷ ys) ≡ true → any (eqb x) (y ∷ ys) ≡ false
below x y ys h a = any_neither (eqb x) y ys (ne_eqb x y (λ q. omega arith)) (above x ys (over ys (ascends_first ltb ltb_strict y ys a)))
  where
    over : (zs : List ℕ) → all (ltb y) zs ≡ true → all (ltb x) zs ≡ true
    over [] k = all_nil (ltb x)
    over (z ∷ zs) k =
        let p = all_parts (ltb y) z zs k in
        all_both (ltb x) z zs (lt-ltb x z (let b : y < z = ltb-true y z p.0 in omega arith)) (over zs p.1)

here : (x : ℕ) (xs : List ℕ) → any (eqb x) (x ∷ xs) ≡ true
here x xs = any_hit (eqb x) x xs (eqb_same x)

pub ascending_same : (xs ys : List ℕ) → ascends ltb xs ≡ true → ascends ltb ys ≡ true → ((k : ℕ) → any (eqb k) xs ≡ any (eqb k) ys) → xs ≡ ys
ascending_same [] [] a b f = refl
ascending_same [] (y ∷ ys) a b f = torn (any (eqb y) []) (f y ∙ here y ys) (any_nil (eqb y))
ascending_same (x ∷ xs) [] a b f = torn (any (eqb x) []) (sym (f x) ∙ here x xs) (any_nil (eqb x))
ascending_same (x ∷ xs) (y ∷ ys) a b f = go (sides x y) (ascending_same xs ys (ascends_parts ltb x xs a).1 (ascends_parts ltb y ys b).1)
  where
    rest : x ≡ y → (k : ℕ) (t : Bool) → eqb k x ≡ t → any (eqb k) xs ≡ any (eqb k) ys
    rest e k true q =
        let z : k ≡ x = eqb-true k x q in
        ap (λ (n : ℕ). any (eqb n) xs) z ∙ lowest x xs a ∙ sym (ap (λ (n : ℕ). any (eqb n) ys) (z ∙ e) ∙ lowest y ys b)
    rest e k false q = sym (any_miss (eqb k) x xs q) ∙ f k ∙ any_miss (eqb k) y ys (ap (eqb k) (sym e) ∙ q)

    go : Sides x y → (((k : ℕ) → any (eqb k) xs ≡ any (eqb k) ys) → xs ≡ ys) → x ∷ xs ≡ y ∷ ys
    go (less h) ih = torn (any (eqb x) (y ∷ ys)) (sym (f x) ∙ here x xs) (below x y ys h b)
    go (equal h) ih = ap₂ (λ (z : ℕ) (zs : List ℕ). z ∷ zs) h (ih (λ k. rest h k (eqb k x) refl))
    go (greater h) ih = torn (any (eqb y) (x ∷ xs)) (f y ∙ here y ys) (below y x xs h a)

-- KINDS: what one of them passes, one entry's passes; what all entries' pass, they pass
module _ (p : Isotope → Bool) where
  one_same : (i : Isotope) (l : List Isotope) → any (same_isotope i) l ≡ true → p i ≡ true → any p l ≡ true
  one_same i [] h k = torn (any (same_isotope i) []) h (any_nil (same_isotope i))
  one_same i (j ∷ l) h k = go (same_isotope i j) refl (one_same i l)
    where
      go : (t : Bool) → same_isotope i j ≡ t → (any (same_isotope i) l ≡ true → p i ≡ true → any p l ≡ true) → any p (j ∷ l) ≡ true
      go true q ih = any_hit p j l (ap p (sym (isotope_is i j q)) ∙ k)
      go false q ih = any_later p j l (ih (sym (any_miss (same_isotope i) j l q) ∙ h) k)

  pub kinds_have : (es : List Entry) → any p (kinds es) ≡ any (λ (e : Entry). p e.kind) es
  kinds_have [] = ap (any p) kinds_nil ∙ any_nil p ∙ sym (any_nil (λ (e : Entry). p e.kind))
  kinds_have (e ∷ es) = go (any (same_isotope e.kind) (kinds es)) refl (kinds_have es) ∙ sym (any_cons (λ (f : Entry). p f.kind) e es)
    where
      own : Entry → Bool
      own f = p f.kind

      mid : (t : Bool) → p e.kind ≡ t → any (same_isotope e.kind) (kinds es) ≡ true → any p (kinds es) ≡ (p e.kind || any p (kinds es))
      mid true q h = one_same e.kind (kinds es) h q ∙ sym (ap (λ (t : Bool). t || any p (kinds es)) q)
      mid false q h = sym (ap (λ (t : Bool). t || any p (kinds es)) q)

      go : (t : Bool) → any (same_isotope e.kind) (kinds es) ≡ t → any p (kinds es) ≡ any own es → any p (kinds (e ∷ es)) ≡ (p e.kind || any own es)
      go true h ih = ap (any p) (kinds_again e es h) ∙ mid (p e.kind) refl h ∙ ap (λ (t : Bool). p e.kind || t) ih
      go false h ih = ap (any p) (kinds_new e es h) ∙ any_cons p e.kind (kinds es) ∙ ap (λ (t : Bool). p e.kind || t) ih

  pub kinds_all : (es : List Entry) → all (λ (e : Entry). p e.kind) es ≡ true → all p (kinds es) ≡ true
  kinds_all [] h = ap (all p) kinds_nil ∙ all_nil p
  kinds_all (e ∷ es) h =
      let q = all_parts (λ (f : Entry). p f.kind) e es h in
      go (any (same_isotope e.kind) (kinds es)) refl q.0 (kinds_all es q.1)
    where
      go : (t : Bool) → any (same_isotope e.kind) (kinds es) ≡ t → p e.kind ≡ true → all p (kinds es) ≡ true → all p (kinds (e ∷ es)) ≡ true
      go true h own ih = ap (all p) (kinds_again e es h) ∙ ih
      go false h own ih = ap (all p) (kinds_new e es h) ∙ all_both p e.kind (kinds es) own ih

-- SORTED BY THE FORMULA'S ORDER, the keys are sorted
module _ (i : Isotope) (own : fine i ≡ true) where
  insert_keys : (l : List Isotope) → all fine l ≡ true → map key_of (insert formula_before i l) ≡ insert ltb (key_of i) (map key_of l)
  insert_keys [] h = ap (map key_of) (insert_nil formula_before i) ∙ sym (insert_nil ltb (key_of i))
  insert_keys (j ∷ l) h = let q = all_parts fine j l h in go (formula_before i j) refl (sym (key_before i j own q.0)) (insert_keys l q.1)
    where
      go : (t : Bool) → formula_before i j ≡ t → ltb (key_of i) (key_of j) ≡ formula_before i j → map key_of (insert formula_before i l) ≡ insert ltb (key_of i) (map key_of l)
          → map key_of (insert formula_before i (j ∷ l)) ≡ insert ltb (key_of i) (map key_of (j ∷ l))
      go true e f ih = ap (map key_of) (insert_here formula_before i j l e) ∙ sym (insert_here ltb (key_of i) (key_of j) (map key_of l) (f ∙ e))
      go false e f ih = ap (map key_of) (insert_past formula_before i j l e) ∙ ap (λ (r : List ℕ). key_of j ∷ r) ih ∙ sym (insert_past ltb (key_of i) (key_of j) (map key_of l) (f ∙ e))

  level_key : (j : Isotope) → fine j ≡ true → same_isotope i j ≡ false → level ltb (key_of i) (key_of j) ≡ false
  level_key j f h = go (sides (key_of i) (key_of j))
    where
      go : Sides (key_of i) (key_of j) → level ltb (key_of i) (key_of j) ≡ false
      go (less a) = rw (lt-ltb (key_of i) (key_of j) a)
      go (equal a) = torn (same_isotope i j) (key_same i j own f ∙ eq-eqb (key_of i) (key_of j) a) h
      go (greater a) = rw (le-ltb (key_of i) (key_of j) (omega arith), lt-ltb (key_of j) (key_of i) a)

  level_keys : (l : List Isotope) → all fine l ≡ true → any (same_isotope i) l ≡ false → any (level ltb (key_of i)) (map key_of l) ≡ false
  level_keys [] h d = any_nil (level ltb (key_of i))
  level_keys (j ∷ l) h d =
      let q = all_parts fine j l h in
      let r : (same_isotope i j ≡ false) × (any (same_isotope i) l ≡ false) = any_parts (same_isotope i) j l d in
      any_neither (level ltb (key_of i)) (key_of j) (map key_of l) (level_key j q.0 r.0) (level_keys l q.1 r.1)

sort_keys : (l : List Isotope) → all fine l ≡ true → map key_of (sort formula_before l) ≡ sort ltb (map key_of l)
sort_keys [] h = ap (map key_of) (sort_nil formula_before) ∙ sym (sort_nil ltb)
sort_keys (i ∷ l) h =
    let q = all_parts fine i l h in
    ap (map key_of) (sort_step formula_before i l) ∙ insert_keys i q.0 (sort formula_before l) (sort_all formula_before fine l ∙ q.1)
    ∙ ap (insert ltb (key_of i)) (sort_keys l q.1) ∙ sym (sort_step ltb (key_of i) (map key_of l))

keys_apart : (l : List Isotope) → all fine l ≡ true → pairs same_isotope l ≡ false → pairs (level ltb) (map key_of l) ≡ false
keys_apart [] h d = pairs_nil (level ltb)
keys_apart (i ∷ l) h d =
    let q = all_parts fine i l h in
    let r : (any (same_isotope i) l ≡ false) × (pairs same_isotope l ≡ false) = pairs_parts same_isotope i l d in
    pairs_neither (level ltb) (key_of i) (map key_of l) (level_keys i q.0 l q.1 r.0) (keys_apart l q.1 r.1)

-- SUMS are totals
pub sum_total : (i : Isotope) → fine i ≡ true → (es : List Entry) → all (λ (e : Entry). fine e.kind) es ≡ true → sum_of (key_of i) (plain es) ≡ total i es
sum_total i own [] h = sum_nil (key_of i) ∙ sym (total_nil i)
sum_total i own (e ∷ es) h =
    let q = all_parts (λ (f : Entry). fine f.kind) e es h in
    go (same_isotope i e.kind) refl (sym (key_same i e.kind own q.0)) (sum_total i own es q.1)
  where
    go : (t : Bool) → same_isotope i e.kind ≡ t → eqb (key_of i) (key_of e.kind) ≡ same_isotope i e.kind → sum_of (key_of i) (plain es) ≡ total i es → sum_of (key_of i) (plain (e ∷ es)) ≡ total i (e ∷ es)
    go true w f ih = sum_hit (key_of i) (tallied (key_of e.kind) e.count) (plain es) (f ∙ w) ∙ ap (λ (n : ℕ). e.count + n) ih ∙ sym (total_hit i e es w)
    go false w f ih = sum_miss (key_of i) (tallied (key_of e.kind) e.count) (plain es) (f ∙ w) ∙ ih ∙ sym (total_miss i e es w)

-- THE FORMULA'S entries
module _ (es : List Entry) (h : all (λ (e : Entry). fine e.kind) es ≡ true) where
  pub formula_fine_lem : all fine (sort formula_before (kinds es)) ≡ true
  formula_fine_lem = sort_all formula_before fine (kinds es) ∙ kinds_all fine es h

  pub formula_ascends : ascends ltb (map key_of (sort formula_before (kinds es))) ≡ true
  formula_ascends =
      ap (ascends ltb) (sort_keys (kinds es) (kinds_all fine es h))
      ∙ sort_ascends ltb ltb_strict (map key_of (kinds es)) (keys_apart (kinds es) (kinds_all fine es h) (kinds_once es))

  pub formula_there : (k : ℕ) → any (eqb k) (map key_of (sort formula_before (kinds es))) ≡ any (keyed k) (plain es)
  formula_there k =
      any_map (eqb k) key_of (sort formula_before (kinds es)) ∙ sort_any formula_before (λ i. eqb k (key_of i)) (kinds es) ∙ kinds_have (λ i. eqb k (key_of i)) es
      ∙ sym (any_map (keyed k) (λ e. tallied (key_of e.kind) e.count) es)
