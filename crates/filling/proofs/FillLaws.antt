-- How a region of the table is filled from the front: zeros, then record after record, each from the scratch's numbers of its row. Document 01, "The structure
-- table" ("unused ones are 0"). Assumes nothing.
use Prim.Native.Nat.{ℕ, zero, suc, ◌+◌, ◌*◌, ◌≤◌, ◌<◌}
use mathlib.Core.Path.{◌≡◌, refl, sym, ap, ◌∙◌}
use mathlib.Core.List.{List, [], ◌∷◌, ◌++◌, map}
use native.Mathlib.Nat.{add-zero, zero-add, suc-add, mul-suc, mul-zero, mul-le-mul_left}
use native.Mathlib.Omega.{arith}
use lib.ListN.{length, get_or, set, take, drop, replicate, length-append}
use lib.IntN.{ℤ, pos}
use lib.Seq.{sets, set_out, length-take-le}
use borrow.Author.Tests.{lt-ltb}
use Rattle.std.proofs.lemmas.List.{take_more, map-append, length-map}
use Rattle.lists.specs.Lists.{concat, filled, rows_from}
use Rattle.lists.proofs.PartLaws.{concat_nil, concat_snoc, filled_nil, filled_length}
use Rattle.lists.proofs.RegionLaws.{rows_zero, rows_snoc, filled_sets}
use Rattle.filling.specs.Filled.{signed_of, placed, copied, FilledWhere}

-- A NUMBER OF THE TABLE
pub signed_small : (n : ℕ) → n < 2147483648 → signed_of n ≡ pos n
unfolding signed_of
signed_small n h = rw (lt-ltb n 2147483648 h, signed_of)

-- NUMBERS ONE BEHIND THE OTHER: none, and one more
pub placed_none : (t : List ℤ) (at : ℕ) (vs : List ℤ) → length t ≤ at → t ≡ placed t at vs
unfolding placed
placed_none t at [] h = refl
placed_none t at (v ∷ vs) h =
    let e : t ≡ set t at v = sym (set_out t at v h) in
    placed_none t (suc at) vs (omega arith) ∙ ap (λ l. sets l (suc at) vs) e

sets_append : (t : List ℤ) (at : ℕ) (vs ws : List ℤ) → sets t at (vs ++ ws) ≡ sets (sets t at vs) (at + length vs) ws
sets_append t at [] ws = ap (λ k. sets t k ws) (sym (add-zero at))
sets_append t at (v ∷ vs) ws = let q : suc at + length vs ≡ at + suc (length vs) = omega arith in sets_append (set t at v) (suc at) vs ws ∙ ap (λ k. sets (sets (set t at v) (suc at) vs) k ws) q

pub placed_more : (t t₁ t₂ : List ℤ) (at i : ℕ) (ns : List ℕ) → i < length ns → t₁ ≡ placed t at (map signed_of (take i ns)) → t₂ ≡ placed t₁ (at + i) (signed_of (get_or ns i 0) ∷ [])
    → t₂ ≡ placed t at (map signed_of (take (i + 1) ns))
unfolding placed
placed_more t t₁ t₂ at i ns h e f =
    let vs : List ℤ = map signed_of (take i ns) in
    let v : List ℤ = signed_of (get_or ns i 0) ∷ [] in
    let q : length vs ≡ i = length-map (take i ns) signed_of ∙ length-take-le i ns (omega arith) in
    f ∙ ap (λ l. sets l (at + i) v) e ∙ ap (λ k. sets (sets t at vs) (at + k) v) (sym q) ∙ sym (sets_append t at vs v)
    ∙ ap (sets t at) (sym (ap (map signed_of) (take_more ns i 0 h) ∙ map-append signed_of (take i ns) (get_or ns i 0 ∷ [])))

-- ZEROS
pub zeros_filled : (n : ℕ) → replicate n (pos 0) ≡ filled (pos 0) n []
zeros_filled n = sym (filled_nil (pos 0) n)

-- A REGION that is filled
pub filled_where : (fits : Type 0) (t t' whole : List ℤ) → fits → t' ≡ whole → FilledWhere fits t t' whole
filled_where fits t t' whole f e = (λ g. e, λ n. absurd (n f))

-- ROWS COPIED ONE BY ONE: w numbers of the scratch a row, k numbers of the table a record
module _ (w k : ℕ) (out : List ℕ → List ℤ) (wide : (s : List ℕ) → length (out s) ≡ k) (size : ℕ) (t : List ℕ) where
  out_length : (n : ℕ) → length (concat (rows_from w out n t)) ≡ k * n
  out_length zero = ap (λ l. length (concat l)) (rows_zero w out t) ∙ ap length concat_nil ∙ sym (mul-zero k)
  out_length (suc n) =
      let q : suc n ≡ n + 1 = omega arith in
      ap (λ i. length (concat (rows_from w out i t))) q ∙ ap (λ l. length (concat l)) (rows_snoc w out n t)
      ∙ ap length (concat_snoc (rows_from w out n t) (out (drop (w * n) t)))
      ∙ omega (arith, length-append (concat (rows_from w out n t)) (out (drop (w * n) t)), out_length n, wide (drop (w * n) t), mul-suc k n)

  pub copied_none : (p p' : List ℤ) → length p ≡ size → p' ≡ replicate (length p) (pos 0) → p' ≡ copied w out size 0 t
  unfolding copied
  copied_none p p' h e = e ∙ ap (λ n. replicate n (pos 0)) h ∙ zeros_filled size ∙ ap (filled (pos 0) size) (sym (ap concat (rows_zero w out t) ∙ concat_nil))

  pub copied_more : (n : ℕ) (p p' : List ℤ) (vs : List ℤ) → k * n + k ≤ size → vs ≡ out (drop (w * n) t) → p ≡ copied w out size n t → p' ≡ placed p (k * n) vs → p' ≡ copied w out size (n + 1) t
  unfolding copied placed
  copied_more n p p' vs h v e f =
      let l : List ℤ = concat (rows_from w out n t) in
      let m : List ℤ = out (drop (w * n) t) in
      f ∙ ap (λ x. sets x (k * n) vs) e ∙ ap (λ x. sets (filled (pos 0) size l) (k * n) x) v ∙ ap (λ i. sets (filled (pos 0) size l) i m) (sym (out_length n))
      ∙ filled_sets (pos 0) size l m (omega (arith, out_length n, wide (drop (w * n) t)))
      ∙ ap (filled (pos 0) size) (sym (ap concat (rows_snoc w out n t) ∙ concat_snoc (rows_from w out n t) m))

  pub copied_length : (n : ℕ) (p : List ℤ) → k * n ≤ size → p ≡ copied w out size n t → length p ≡ size
  unfolding copied
  copied_length n p h e = ap length e ∙ filled_length (pos 0) size (concat (rows_from w out n t)) (omega (arith, out_length n))

-- a row's numbers
pub cell_drop : {A : Type 0} (d : A) (m i : ℕ) (t : List A) → get_or (drop m t) i d ≡ get_or t (m + i) d
cell_drop d zero i t = ap (λ k. get_or t k d) (sym (zero-add i))
cell_drop d (suc m) i [] = refl
cell_drop d (suc m) i (x ∷ t) = cell_drop d m i t ∙ ap (λ k. get_or (x ∷ t) k d) (sym (suc-add m i))

pub row_first : (i : ℕ) (t : List ℕ) → get_or (drop (2 * i) t) 0 0 ≡ get_or t (2 * i) 0
row_first i t = cell_drop 0 (2 * i) 0 t ∙ ap (λ k. get_or t k 0) (add-zero (2 * i))

-- a record has room where it is one of m
pub record_room : (k n m : ℕ) → n < m → k * n + k ≤ k * m
record_room k n m h = let e : k * n + k ≡ k * suc n = omega (arith, mul-suc k n) in rw e (mul-le-mul_left k h)
