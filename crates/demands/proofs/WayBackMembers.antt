-- Charges and radicals in a table: each atom's record has the number of its row, and from these numbers and the rows' values the rows come back. Serves document
-- 01, "The structure table" ("charge row, radical row (from 1; 0 none)"). Assumes nothing.
use Prim.Native.Nat.{ℕ, suc, ◌+◌, ◌≤◌, ◌<◌}
use mathlib.Core.Path.{◌≡◌, refl, sym, ap, ◌∙◌}
use mathlib.Core.Bool.{Bool, true, false, ◌&&◌}
use mathlib.Core.List.{List, [], ◌∷◌, ◌++◌, map, append_assoc}
use native.Mathlib.Omega.{arith}
use lib.ListN.{length, length-append}
use lib.IntN.{ℤ}
use lib.Dec.{eqb, ltb}
use borrow.Author.Tests.{eq-eqb, ne_eqb, eqb-true, eqb-false, ltb-true, ltb-false, lt-ltb}
use Rattle.lists.specs.Lists.{is_nil, all, any, pairs}
use Rattle.lists.specs.Order.{ascends}
use Rattle.lists.proofs.Bools.{torn, or_parts}
use Rattle.lists.proofs.ListLaws.{all_nil, all_parts, all_both, all_imply, any_nil, any_parts, any_neither, any_miss, any_hit, any_append_parts}
use Rattle.lists.proofs.PairLaws.{pairs_parts}
use Rattle.lists.proofs.LexLaws.{ltb_strict}
use Rattle.lists.proofs.SortLaws.{ascends_first, ascends_parts}
use Rattle.format.specs.Bytes.{within, is_in}
use Rattle.format.specs.Rows.{Row, row}
use Rattle.format.specs.Structure.{overlap}
use Rattle.format.specs.Table.{row_with, cell, members_at, spread_at}
use Rattle.format.proofs.ByteLaws.{within_true, within_is}

-- MEMBERS OF ONE ROW: the atoms, counted from n, that are marked with its number
abbrev pub Marks : (p : ℕ) → (mark : ℕ → ℕ) → (n : ℕ) → List (List ℤ) → Type 0
Marks p mark n [] = Unit {0}
Marks p mark n (a ∷ rest) = (cell a p ≡ mark n) × Marks p mark (suc n) rest

members_in_lem : (p j n : ℕ) (a : List ℤ) (rest : List (List ℤ)) → eqb (cell a p) j ≡ true → members_at p j n (a ∷ rest) ≡ n ∷ members_at p j (suc n) rest
unfolding members_at
members_in_lem p j n a rest e = rw (e, members_at)

members_out : (p j n : ℕ) (a : List ℤ) (rest : List (List ℤ)) → eqb (cell a p) j ≡ false → members_at p j n (a ∷ rest) ≡ members_at p j (suc n) rest
unfolding members_at
members_out p j n a rest e = rw (e, members_at)

above : (a b : ℕ) → a ≤ b → (a ≡ b → ⊥) → suc a ≤ b
above a b l d = by (ltb a b) refl
  where
    by : (t : Bool) → ltb a b ≡ t → suc a ≤ b
    by true e = ltb-true a b e
    by false e = absurd (d (omega (arith, ltb-false a b e)))

-- atoms from n on, of which n is none, are from the next on
later_atoms : (n top : ℕ) (ns : List ℕ) → all (within n top) ns ≡ true → is_in n ns ≡ false → all (within (suc n) top) ns ≡ true
later_atoms n top [] h k = all_nil (within (suc n) top)
later_atoms n top (x ∷ xs) h k =
    let p : (within n top x ≡ true) × (all (within n top) xs ≡ true) = all_parts (within n top) x xs h in
    let q : (eqb n x ≡ false) × (is_in n xs ≡ false) = any_parts (eqb n) x xs k in
    let b : (n ≤ x) × (x ≤ top) = within_true n top x p.0 in
    all_both (within (suc n) top) x xs (within_is (suc n) top x (above n x b.0 (eqb-false n x q.0)) b.1) (later_atoms n top xs p.1 q.1)

-- an atom before all of some is none of them
not_among : (n : ℕ) (ns : List ℕ) → all (ltb n) ns ≡ true → is_in n ns ≡ false
not_among n [] h = any_nil (eqb n)
not_among n (x ∷ xs) h =
    let p : (ltb n x ≡ true) × (all (ltb n) xs ≡ true) = all_parts (ltb n) x xs h in
    let l : n < x = ltb-true n x p.0 in
    any_neither (eqb n) x xs (ne_eqb n x (λ q. omega arith)) (not_among n xs p.1)

less_all : (n x : ℕ) (xs : List ℕ) → n ≤ x → all (ltb x) xs ≡ true → all (ltb n) xs ≡ true
less_all n x xs l h = all_imply (ltb x) (ltb n) (λ y e. lt-ltb n y (omega (arith, ltb-true x y e))) xs h

module _ (p j : ℕ) (mark : ℕ → ℕ) where
  abbrev Says : ℕ → List ℕ → Type 0
  Says n ns = (m : ℕ) → n ≤ m → eqb (mark m) j ≡ is_in m ns

  pub members_back : (n top : ℕ) (records : List (List ℤ)) (ns : List ℕ) → Marks p mark n records → suc top ≡ n + length records → Says n ns → ascends ltb ns ≡ true → all (within n top) ns ≡ true →
      members_at p j n records ≡ ns
  unfolding members_at
  members_back n top [] [] m size says asc h = refl
  members_back n top [] (x ∷ xs) m size says asc h =
      let b : (n ≤ x) × (x ≤ top) = within_true n top x (all_parts (within n top) x xs h).0 in
      absurd (omega (arith, b.0, b.1))
  members_back n top (a ∷ rest) [] m size says asc h =
      members_out p j n a rest (ap (λ (k : ℕ). eqb k j) m.0 ∙ says n (omega arith) ∙ any_nil (eqb n))
      ∙ members_back (suc n) top rest [] m.1 (omega arith) (λ i l. says i (omega arith)) asc (all_nil (within (suc n) top))
  members_back n top (a ∷ rest) (x ∷ xs) m size says asc h = by (eqb n x) refl (members_back (suc n) top rest)
    where
      marked : eqb (cell a p) j ≡ is_in n (x ∷ xs)
      marked = ap (λ (k : ℕ). eqb k j) m.0 ∙ says n (omega arith)

      first : all (ltb x) xs ≡ true
      first = ascends_first ltb ltb_strict x xs asc

      by : (t : Bool) → eqb n x ≡ t
          → ((ns : List ℕ) → Marks p mark (suc n) rest → suc top ≡ suc n + length rest → Says (suc n) ns → ascends ltb ns ≡ true → all (within (suc n) top) ns ≡ true → members_at p j (suc n) rest ≡ ns)
          → members_at p j n (a ∷ rest) ≡ x ∷ xs
      by true e ih =
          let q : n ≡ x = eqb-true n x e in
          let away : is_in n xs ≡ false = ap (λ (k : ℕ). is_in k xs) q ∙ not_among x xs first in
          members_in_lem p j n a rest (marked ∙ any_hit (eqb n) x xs e)
          ∙ ap (λ (l : List ℕ). n ∷ l)
          (ih xs m.1 (omega arith) (λ i l. says i (omega arith) ∙ any_miss (eqb i) x xs (ne_eqb i x (λ r. omega arith))) (ascends_parts ltb x xs asc).1
          (later_atoms n top xs (all_parts (within n top) x xs h).1 away))
          ∙ ap (λ (k : ℕ). k ∷ xs) q
      by false e ih =
          let below : all (ltb n) xs ≡ true = less_all n x xs (within_true n top x (all_parts (within n top) x xs h).0).0 first in
          let away : is_in n (x ∷ xs) ≡ false = any_neither (eqb n) x xs e (not_among n xs below) in
          members_out p j n a rest (marked ∙ away) ∙ ih (x ∷ xs) m.1 (omega arith) (λ i l. says i (omega arith)) asc (later_atoms n top (x ∷ xs) h away)

-- THE ROW OF AN ATOM
module _ (n : ℕ) where
  row_in : (from : ℕ) (r : Row) (rs : List Row) → is_in n r.atoms ≡ true → row_with from n (r ∷ rs) ≡ from
  unfolding row_with
  row_in from r rs e = rw (e, row_with)

  row_out : (from : ℕ) (r : Row) (rs : List Row) → is_in n r.atoms ≡ false → row_with from n (r ∷ rs) ≡ row_with (suc from) n rs
  unfolding row_with
  row_out from r rs e = rw (e, row_with)

  row_none : (from : ℕ) → row_with from n [] ≡ 0
  unfolding row_with
  row_none from = refl

  -- a number below the first is no row's
  row_other : (from k : ℕ) (rs : List Row) → 0 < k → k < from → eqb (row_with from n rs) k ≡ false
  row_other from k [] a b = ap (λ (m : ℕ). eqb m k) (row_none from) ∙ ne_eqb 0 k (λ q. omega arith)
  row_other from k (r ∷ rs) a b = by (is_in n r.atoms) refl (row_other (suc from) k rs a (omega arith))
    where
      by : (t : Bool) → is_in n r.atoms ≡ t → eqb (row_with (suc from) n rs) k ≡ false → eqb (row_with from n (r ∷ rs)) k ≡ false
      by true e ih = ap (λ (m : ℕ). eqb m k) (row_in from r rs e) ∙ ne_eqb from k (λ q. omega arith)
      by false e ih = ap (λ (m : ℕ). eqb m k) (row_out from r rs e) ∙ ih

-- an atom of one row is none of another that does not overlap it
member_apart : (m : ℕ) (p : ℕ → Bool) (ns : List ℕ) → any p ns ≡ false → is_in m ns ≡ true → p m ≡ false
member_apart m p [] h k = torn (is_in m []) k (any_nil (eqb m))
member_apart m p (n ∷ ns) h k = by (eqb m n) refl (any_parts p n ns h) (member_apart m p ns)
  where
    by : (t : Bool) → eqb m n ≡ t → (p n ≡ false) × (any p ns ≡ false) → (any p ns ≡ false → is_in m ns ≡ true → p m ≡ false) → p m ≡ false
    by true e q ih = ap p (eqb-true m n e) ∙ q.0
    by false e q ih = ih q.1 (sym (any_miss (eqb m) n ns e) ∙ k)

overlap_none : (ns ms : List ℕ) → overlap ns ms ≡ false → any (λ n. is_in n ms) ns ≡ false
unfolding overlap
overlap_none ns ms h = (or_parts (is_nil ns && is_nil ms) (any (λ n. is_in n ms) ns) h).1

abbrev pub overlaps : Row → Row → Bool
overlaps r s = overlap r.atoms s.atoms

-- an atom's row number is that of row r if and only if it stands in r
pub mark_is : (m from : ℕ) (pre : List Row) (r : Row) (post : List Row) → 0 < from → pairs overlaps (pre ++ (r ∷ post)) ≡ false →
    eqb (row_with from m (pre ++ (r ∷ post))) (from + length pre) ≡ is_in m r.atoms
mark_is m from [] r post a h = by (is_in m r.atoms) refl
  where
    by : (t : Bool) → is_in m r.atoms ≡ t → eqb (row_with from m (r ∷ post)) (from + 0) ≡ is_in m r.atoms
    by true e = eq-eqb (row_with from m (r ∷ post)) (from + 0) (row_in m from r post e ∙ omega arith) ∙ sym e
    by false e = ap (λ (k : ℕ). eqb k (from + 0)) (row_out m from r post e) ∙ row_other m (suc from) (from + 0) post (omega arith) (omega arith) ∙ sym e
mark_is m from (q ∷ pre) r post a h = by (is_in m q.atoms) refl (mark_is m (suc from) pre r post (omega arith) (pairs_parts overlaps q (pre ++ (r ∷ post)) h).1)
  where
    apart : overlap q.atoms r.atoms ≡ false
    apart = (any_parts (overlaps q) r post (any_append_parts (overlaps q) pre (r ∷ post) (pairs_parts overlaps q (pre ++ (r ∷ post)) h).0).1).0

    by : (t : Bool) → is_in m q.atoms ≡ t → eqb (row_with (suc from) m (pre ++ (r ∷ post))) (suc from + length pre) ≡ is_in m r.atoms →
        eqb (row_with from m (q ∷ (pre ++ (r ∷ post)))) (from + suc (length pre)) ≡ is_in m r.atoms
    by true e ih =
        ne_eqb (row_with from m (q ∷ (pre ++ (r ∷ post)))) (from + suc (length pre)) (λ z. omega (arith, row_in m from q (pre ++ (r ∷ post)) e))
        ∙ sym (member_apart m (λ (n : ℕ). is_in n r.atoms) q.atoms (overlap_none q.atoms r.atoms apart) e)
    by false e ih =
        let n : from + suc (length pre) ≡ suc from + length pre = omega arith in
        ap (λ (k : ℕ). eqb k (from + suc (length pre))) (row_out m from q (pre ++ (r ∷ post)) e) ∙ ap (eqb (row_with (suc from) m (pre ++ (r ∷ post)))) n ∙ ih

-- THE ROWS BACK: what a row of the two lists keeps
pub record SpreadRow (n : ℕ) (r : Row) : Type 0 where
  pub ascending : ascends ltb r.atoms ≡ true
  pub listed : all (within 1 n) r.atoms ≡ true
  pub bare : r.group ≡ 0

abbrev pub SpreadRows : ℕ → List Row → Type 0
SpreadRows n [] = Unit {0}
SpreadRows n (r ∷ rs) = SpreadRow n r × SpreadRows n rs

pub spread_rows_lem : (p : ℕ) (records : List (List ℤ)) (pre post : List Row) → Marks p (λ m. row_with 1 m (pre ++ post)) 1 records → pairs overlaps (pre ++ post) ≡ false →
    SpreadRows (length records) post → spread_at p (suc (length pre)) records (map (λ (r : Row). r.value) post) ≡ post
unfolding spread_at
spread_rows_lem p records pre [] m h f = refl
spread_rows_lem p records pre (r ∷ rs) m h f =
    let j : ℕ = suc (length pre) in
    let n : 1 + length pre ≡ suc (length pre) = omega arith in
    let e : pre ++ (r ∷ rs) ≡ (pre ++ (r ∷ [])) ++ rs = sym (append_assoc pre (r ∷ []) rs) in
    let here : members_at p j 1 records ≡ r.atoms =
    members_back p j (λ i. row_with 1 i (pre ++ (r ∷ rs))) 1 (length records) records r.atoms m (omega arith)
    (λ i l. ap (eqb (row_with 1 i (pre ++ (r ∷ rs)))) (sym n) ∙ mark_is i 1 pre r rs (omega arith) h) f.0.ascending f.0.listed in
    let more : spread_at p (suc (length (pre ++ (r ∷ [])))) records (map (λ (x : Row). x.value) rs) ≡ rs = spread_rows_lem p records (pre ++ (r ∷ [])) rs (rw e at m) (rw e at h) f.1 in
    let k : suc (suc (length pre)) ≡ suc (length (pre ++ (r ∷ []))) = omega (arith, length-append pre (r ∷ [])) in
    ap (λ (ns : List ℕ). row ns r.value 0 ∷ spread_at p (suc j) records (map (λ (x : Row). x.value) rs)) here
    ∙ ap (λ (g : ℕ). row r.atoms r.value g ∷ spread_at p (suc j) records (map (λ (x : Row). x.value) rs)) (sym f.0.bare)
    ∙ ap (λ (i : ℕ). r ∷ spread_at p i records (map (λ (x : Row). x.value) rs)) k ∙ ap (λ (l : List Row). r ∷ l) more
