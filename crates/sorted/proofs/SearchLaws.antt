-- The place of a key among ascending keys: behind all, or where a search among the rows as pairs parts them. Serves the search in src/join.rt: document 01, "Bonds, centres and
-- pairs ascend by their atoms." Assumes nothing.
use Prim.Native.Nat.{ℕ, zero, suc, ◌+◌, ◌-◌, ◌*◌, ◌≤◌, ◌<◌}
use Rattle.std.specs.Prelude.{◌/◌}
use lib.ListN.{length, get_or, take, drop, length-drop}
use lib.Seq.{get_or-take, get_or-drop, length-take-le}
use Rattle.std.specs.Simd.{first_chunks}
use Rattle.std.specs.List.Sorted.{IsPartitionPoint, IsPartitionedBy}
use mathlib.Core.Path.{◌≡◌, refl, sym, ap, ◌∙◌}
use mathlib.Core.Bool.{true, false}
use mathlib.Core.List.{List, []}
use native.Mathlib.Omega.{arith}
use lib.Dec.{eqb, ltb}
use borrow.Author.Tests.{ltb-true, ltb-false, lt-ltb, ne_eqb}
use Rattle.lists.proofs.Bools.{or_other}
use Rattle.lists.proofs.LexLaws.{Sides, less, equal, greater, sides}
use Rattle.sorted.specs.Keyed.{key_at, KeysAscend, Between, behind}

module _ (t : List ℕ) (count key : ℕ) where
  module _ (up : KeysAscend count t) where
    -- keys up to one that is lower, keys from one on that is not
    pub all_lower : (m : ℕ) → m < count → key_at t m < key → (i : ℕ) → i < m + 1 → key_at t i < key
    all_lower m k h i j = go (sides i m)
      where
        go : Sides i m → key_at t i < key
        go (less a) = omega (arith, up i m a k)
        go (equal a) = rw a h
        go (greater a) = absurd (omega arith)

    pub all_others : (m : ℕ) → key ≤ key_at t m → (i : ℕ) → m ≤ i → i < count → key ≤ key_at t i
    all_others m h i j k = go (sides m i)
      where
        go : Sides m i → key ≤ key_at t i
        go (less a) = omega (arith, up m i a k)
        go (equal a) = rw (sym a) h
        go (greater a) = absurd (omega arith)

    -- a key behind all others
    pub behind_all : behind t count key ≡ true → Between t count key count count
    behind_all b = record {
      lower = λ i h. all_lower (count - 1) (omega arith) (ltb-true (key_at t (count - 1)) key (or_other (eqb count 0) (ltb (key_at t (count - 1)) key) b (ne_eqb count 0 (λ e. omega arith)))) i (omega arith);
      others = λ i h k. absurd (omega arith);
    }

-- THE ROWS as pairs, in the part of the region that has them
chunk_key : (k : ℕ) (t : List ℕ) (i : ℕ) (d : List ℕ) → 2 * k ≤ length t → i < k → get_or (get_or (first_chunks 2 k t) i d) 0 0 ≡ get_or t (2 * i) 0
chunk_key zero t i d h l = absurd (omega arith)
chunk_key (suc k) t zero d h l = get_or-take 2 t 0 0 (omega arith)
chunk_key (suc k) t (suc i) d h l =
    let q : 2 * suc i ≡ 2 + 2 * i = omega arith in
    chunk_key k (drop 2 t) i d (simp length-drop (omega arith)) (omega arith) ∙ get_or-drop 2 t (2 * i) 0 ∙ ap (λ (j : ℕ). get_or t j 0) (sym q)

chunks_counted : (k : ℕ) (t : List ℕ) → length (first_chunks 2 k t) ≡ k
chunks_counted zero t = refl
chunks_counted (suc k) t = ap (λ (j : ℕ). suc j) (chunks_counted k (drop 2 t))

module _ (t : List ℕ) (count key : ℕ) (h : 2 * count ≤ length t) (rows : List (List ℕ)) (e : rows ≡ first_chunks 2 (length (take (2 * count) t) / 2) (take (2 * count) t)) where
  half : length (take (2 * count) t) / 2 ≡ count
  half = ap (λ (j : ℕ). j / 2) (length-take-le (2 * count) t h) ∙ omega arith

  pub rows_counted : length rows ≡ count
  rows_counted = ap length e ∙ chunks_counted _ (take (2 * count) t) ∙ half

  row_key : (i : ℕ) (d : List ℕ) → i < count → get_or (get_or rows i d) 0 0 ≡ key_at t i
  row_key i d l =
      ap (λ (r : List (List ℕ)). get_or (get_or r i d) 0 0) e
      ∙ chunk_key _ (take (2 * count) t) i d (rw (half, length-take-le (2 * count) t h) (omega arith)) (omega (arith, half)) ∙ get_or-take (2 * count) t (2 * i) 0 (omega arith)

  pub rows_parted : KeysAscend count t → IsPartitionedBy (λ r. ltb (get_or r 0 0) key) rows
  rows_parted up i j d a b x =
      let l : j < count = omega (arith, rows_counted) in
      let y : key_at t j < key = ltb-true (key_at t j) key (ap (λ (k : ℕ). ltb k key) (sym (row_key j d l)) ∙ x) in
      ap (λ (k : ℕ). ltb k key) (row_key i d (omega arith)) ∙ lt-ltb (key_at t i) key (all_lower t count key up j l y i (omega arith))

  pub rows_between : (p : ℕ) → IsPartitionPoint (λ r. ltb (get_or r 0 0) key ≡ true) (λ r. ltb (get_or r 0 0) key ≡ false) rows p → p ≤ count → Between t count key p p
  rows_between p x b = record {
    lower = λ i l. ltb-true (key_at t i) key (ap (λ (k : ℕ). ltb k key) (sym (row_key i [] (omega arith))) ∙ x.0 i [] (omega arith) l);
    others = λ i l m. ltb-false (key_at t i) key (ap (λ (k : ℕ). ltb k key) (sym (row_key i [] m)) ∙ x.1 i [] l (omega (arith, rows_counted)));
  }
