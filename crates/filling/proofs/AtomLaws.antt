-- The atoms' records and the charge and radical values as they are put into the table one by one. Document 01, "The structure table". Assumes nothing.
use Prim.Native.Nat.{ℕ, zero, suc, ◌+◌, ◌-◌, ◌*◌, ◌≤◌, ◌<◌}
use mathlib.Core.Path.{◌≡◌, refl, sym, ap, ◌∙◌}
use mathlib.Core.List.{List, [], ◌∷◌, ◌++◌}
use native.Mathlib.Nat.{mul-suc, mul-zero}
use native.Mathlib.Numerals.{add-one}
use native.Mathlib.Omega.{arith}
use borrow.Author.Tests.{lt-ltb, le-ltb}
use lib.ListN.{length, get_or, set, drop, replicate, length-append}
use lib.IntN.{ℤ, pos, neg_ℤ}
use lib.Seq.{sets}
use Rattle.lists.specs.Lists.{filled}
use Rattle.lists.proofs.RegionLaws.{filled_sets}
use Rattle.format.specs.Table.{atom_place}
use Rattle.filling.specs.Filled.{signed_of, placed, copied, value_of, value_out, number_in, atom_out, gathered, atoms_out}
use Rattle.format.proofs.PlaceLaws.{atom_place_lem}
use Rattle.filling.proofs.FillLaws.{zeros_filled, copied_none, copied_more, cell_drop}

-- A VALUE FROM ITS CODE
pub value_low : (c : ℕ) → c < 100 → value_of c ≡ neg_ℤ (pos (100 - c))
unfolding value_of
value_low c h = rw (lt-ltb c 100 h, value_of)

pub value_high : (c : ℕ) → 100 ≤ c → value_of c ≡ signed_of (c - 100)
unfolding value_of
value_high c h = rw (le-ltb c 100 h, value_of)

-- VALUES
module _ (t : List ℕ) where
  pub values_none : (p p' : List ℤ) → length p ≡ 64 → p' ≡ replicate (length p) (pos 0) → p' ≡ copied 1 value_out 64 0 t
  values_none p p' h e = copied_none 1 1 value_out (λ s. refl) 64 t p p' h e

  pub values_more : (i : ℕ) (p : List ℤ) (v : ℤ) → i < 64 → v ≡ value_of (get_or t i 0) → p ≡ copied 1 value_out 64 i t → set p i v ≡ copied 1 value_out 64 (i + 1) t
  unfolding placed
  values_more i p v h f e =
      let q : i ≡ 1 * i = omega arith in
      let r : i ≡ 1 * i + 0 = omega arith in
      let g : v ∷ [] ≡ value_out (drop (1 * i) t) = ap (λ z. z ∷ []) (f ∙ ap (λ k. value_of (get_or t k 0)) r ∙ ap value_of (sym (cell_drop 0 (1 * i) 0 t))) in
      copied_more 1 1 value_out (λ s. refl) 64 t i p (set p i v) (v ∷ []) (omega arith) g e (ap (λ k. set p k v) q)

-- RECORDS GATHERED one by one, k numbers each
pub gathered_nil : (out : ℕ → List ℤ) → gathered out 0 ≡ []
unfolding gathered
gathered_nil out = refl

pub gathered_suc : (out : ℕ → List ℤ) (n : ℕ) → gathered out (suc n) ≡ gathered out n ++ out n
unfolding gathered
gathered_suc out n = refl

module _ (k : ℕ) (out : ℕ → List ℤ) (wide : (i : ℕ) → length (out i) ≡ k) where
  pub gathered_length : (n : ℕ) → length (gathered out n) ≡ k * n
  gathered_length zero = ap length (gathered_nil out) ∙ sym (mul-zero k)
  gathered_length (suc n) = ap length (gathered_suc out n) ∙ omega (arith, length-append (gathered out n) (out n), gathered_length n, wide n, mul-suc k n)

  pub gathered_more : (size n at : ℕ) (p p' : List ℤ) → at ≡ k * n → k * n + k ≤ size → p ≡ filled (pos 0) size (gathered out n) → p' ≡ placed p at (out n) → p' ≡ filled (pos 0) size (gathered out (n + 1))
  unfolding placed
  gathered_more size n at p p' q h e f =
      f ∙ ap (λ x. sets x at (out n)) e ∙ ap (λ i. sets (filled (pos 0) size (gathered out n)) i (out n)) (q ∙ sym (gathered_length n))
      ∙ filled_sets (pos 0) size (gathered out n) (out n) (omega (arith, gathered_length n, wide n))
      ∙ ap (filled (pos 0) size) (sym (gathered_suc out n)) ∙ ap (λ i. filled (pos 0) size (gathered out i)) (sym (add-one n))

-- ATOMS
module _ (ks cs co rs ro : List ℕ) where
  pub atoms_none : (p p' : List ℤ) → length p ≡ 1280 → p' ≡ replicate (length p) (pos 0) → p' ≡ atoms_out ks cs co rs ro 0
  unfolding atoms_out
  atoms_none p p' h e = e ∙ ap (λ n. replicate n (pos 0)) h ∙ zeros_filled 1280 ∙ ap (filled (pos 0) 1280) (sym (gathered_nil (atom_out ks cs co rs ro)))

  pub atoms_more : (i at : ℕ) (p p' : List ℤ) (c r : ℕ) → i < 256 → at ≡ atom_place i → c ≡ number_in cs co i → r ≡ number_in rs ro i → p ≡ atoms_out ks cs co rs ro i
      → p' ≡ placed p (at - 16) (signed_of (get_or ks (3 * i) 0) ∷ signed_of (get_or ks (3 * i + 1) 0) ∷ signed_of (get_or ks (3 * i + 2) 0) ∷ signed_of c ∷ signed_of r ∷ [])
      → p' ≡ atoms_out ks cs co rs ro (i + 1)
  unfolding atoms_out
  atoms_more i at p p' c r h a u v e f =
      gathered_more 5 (atom_out ks cs co rs ro) (λ i. refl) 1280 i (at - 16) p p' (omega (arith, atom_place_lem i h)) (omega arith) e
      (f ∙ ap (λ n. placed p (at - 16) (signed_of (get_or ks (3 * i) 0) ∷ signed_of (get_or ks (3 * i + 1) 0) ∷ signed_of (get_or ks (3 * i + 2) 0) ∷ signed_of n ∷ signed_of r ∷ [])) u
      ∙ ap (λ n. placed p (at - 16) (signed_of (get_or ks (3 * i) 0) ∷ signed_of (get_or ks (3 * i + 1) 0) ∷ signed_of (get_or ks (3 * i + 2) 0) ∷ signed_of (number_in cs co i) ∷ signed_of n ∷ [])) v)
