-- A text copied byte by byte over as many bytes. Serves `copy` of src/lib.rt. Assumes nothing.
use Prim.Native.Nat.{ℕ, suc, ◌+◌, ◌≤◌, ◌<◌}
use mathlib.Core.Path.{◌≡◌, sym, ap, ap₂, ◌∙◌}
use mathlib.Core.List.{List, [], ◌∷◌, ◌++◌, append_assoc, append-nil}
use native.Mathlib.Omega.{arith}
use lib.ListN.{length, get_or, take, drop, set, drop_of_length-le}
use lib.Seq.{take-suc, drop-cons, set_at, length-take-le}
use Rattle.std.proofs.lemmas.List.{take_all}

module _ (text old now : List ℕ) (i : ℕ) (so_far : now ≡ take i text ++ drop i old) where
  -- one byte more is copied
  pub copied_more : i < length text → i < length old → set now i (get_or text i 0) ≡ take (i + 1) text ++ drop (i + 1) old
  copied_more h k =
      let q : suc i ≡ i + 1 = omega arith in
      ap (λ (l : List ℕ). set l i (get_or text i 0)) (so_far ∙ ap (λ (l : List ℕ). take i text ++ l) (drop-cons old i 0 k))
      ∙ set_at (take i text) (get_or old i 0) (drop (suc i) old) (get_or text i 0) i (length-take-le i text (omega arith))
      ∙ sym (append_assoc (take i text) (get_or text i 0 ∷ []) (drop (suc i) old))
      ∙ ap (λ (l : List ℕ). l ++ drop (suc i) old) (sym (take-suc text i 0 h))
      ∙ ap (λ (n : ℕ). take n text ++ drop n old) q

  -- all of them are
  pub copied_all : length text ≤ i → length old ≤ i → now ≡ text
  copied_all h k = so_far ∙ ap₂ (λ (l r : List ℕ). l ++ r) (take_all i text h) (drop_of_length-le old {i = i} k) ∙ append-nil text
