-- Unused numbers looked at in four parts side by side: a part of a table is unused if and only if its four quarters and what is left behind them are, and a turn of the
-- loop takes the next number of each. Serves document 01, "The structure table" ("unused ones are 0"). Assumes nothing.
use Prim.Native.Nat.{ℕ, suc, ◌+◌, ◌-◌, ◌≤◌, ◌<◌, ◌^◌}
use mathlib.Core.Path.{◌≡◌, refl, sym, ap, ap₂, ◌∙◌}
use mathlib.Core.Bool.{Bool, true, false, ◌&&◌, and-true, and_assoc}
use mathlib.Core.List.{List}
use native.Mathlib.Omega.{arith}
use lib.ListN.{length, take, drop, length-drop, take-append-drop}
use lib.Seq.{drop-cons, drop-drop, take_all}
use lib.IntN.{ℤ, pos}
use lib.Bits.{bit_or}
use lib.Dec.{eqb}
use lib.Signed.{mag}
use mir.Syntax.{w32}
use mir.Facts.{Fits-or, Fits-of_z}
use mir.Val.{Fits, of_z, to_z}
use borrow.Author.Rules.{sfits_of}
use Rattle.lists.specs.Lists.{all}
use Rattle.lists.proofs.Bools.{and_left_false, and_shuffle}
use Rattle.lists.proofs.ListLaws.{all_cons, all_append, all_end}
use Rattle.format.specs.Structure.{ranging}
use Rattle.soundness.specs.Sounding.{number_at, unused}
use Rattle.soundness.proofs.TestLaws.{bits_of, bits_are, or_zero_lem, unused_whole}

abbrev pub zeros : List ℤ → Bool
zeros s = all (ranging 0 0) s

abbrev pub bits_at : List ℤ → ℕ → ℕ
bits_at s i = of_z w32 (number_at s i)

-- A TURN
next_zero : (s : List ℤ) (i : ℕ) → i < length s → mag (number_at s i) < 2 ^ 31 → zeros (drop i s) ≡ (eqb (bits_at s i) 0 && zeros (drop (i + 1) s))
next_zero s i h b =
    ap zeros (drop-cons s i (pos 0) h) ∙ all_cons (ranging 0 0) (number_at s i) (drop (suc i) s)
    ∙ ap₂ (λ (t u : Bool). t && u) (sym (bits_are (number_at s i) b)) (let q : suc i ≡ i + 1 = omega arith in ap (λ (n : ℕ). zeros (drop n s)) q)

or_four : (k a b c d : ℕ) → eqb (bit_or k (bit_or a (bit_or b (bit_or c d)))) 0 ≡ (eqb k 0 && (eqb a 0 && (eqb b 0 && (eqb c 0 && eqb d 0))))
or_four k a b c d =
    or_zero_lem k (bit_or a (bit_or b (bit_or c d)))
    ∙ ap (λ (t : Bool). eqb k 0 && t) (or_zero_lem a (bit_or b (bit_or c d)) ∙ ap (λ (t : Bool). eqb a 0 && t) (or_zero_lem b (bit_or c d) ∙ ap (λ (t : Bool). eqb b 0 && t) (or_zero_lem c d)))

beside : (k a b c d x y z w : Bool) → (k && ((a && x) && ((b && y) && ((c && z) && (d && w))))) ≡ ((k && (a && (b && (c && d)))) && (x && (y && (z && w))))
beside k a b c d x y z w =
    ap (λ (t : Bool). k && ((a && x) && ((b && y) && t))) (and_shuffle c z d w) ∙ ap (λ (t : Bool). k && ((a && x) && t)) (and_shuffle b y (c && d) (z && w))
    ∙ ap (λ (t : Bool). k && t) (and_shuffle a x (b && (c && d)) (y && (z && w))) ∙ sym (and_assoc k (a && (b && (c && d))) (x && (y && (z && w))))

-- what is left of the four from a place on
abbrev pub four_zeros : (a b c d : List ℤ) (i : ℕ) → Bool
four_zeros a b c d i = zeros (drop i a) && (zeros (drop i b) && (zeros (drop i c) && zeros (drop i d)))

module _ (a b c d : List ℤ) where
  pub four_whole : (unused a && (unused b && (unused c && unused d))) ≡ four_zeros a b c d 0
  four_whole = ap₂ (λ (t u : Bool). t && u) (unused_whole a 0) (ap₂ (λ (t u : Bool). t && u) (unused_whole b 0) (ap₂ (λ (t u : Bool). t && u) (unused_whole c 0) (unused_whole d 0)))

  module _ (n i : ℕ) (p : length a ≡ n) (q : length b ≡ n) (r : length c ≡ n) (s : length d ≡ n) where
    pub four_turn : i < n → (k : ℕ) → mag (number_at a i) < 2 ^ 31 → mag (number_at b i) < 2 ^ 31 → mag (number_at c i) < 2 ^ 31 → mag (number_at d i) < 2 ^ 31 →
        (eqb k 0 && four_zeros a b c d i) ≡ (eqb (bit_or k (bit_or (bits_at a i) (bit_or (bits_at b i) (bit_or (bits_at c i) (bits_at d i))))) 0 && four_zeros a b c d (i + 1))
    four_turn h k e f g l =
        rw (next_zero a i (omega arith) e, next_zero b i (omega arith) f, next_zero c i (omega arith) g, next_zero d i (omega arith) l)
        (beside (eqb k 0) (eqb (bits_at a i) 0) (eqb (bits_at b i) 0) (eqb (bits_at c i) 0) (eqb (bits_at d i) 0) (zeros (drop (i + 1) a)) (zeros (drop (i + 1) b)) (zeros (drop (i + 1) c)) (zeros (drop (i + 1) d)))
        ∙ ap (λ (t : Bool). t && four_zeros a b c d (i + 1)) (sym (or_four k (bits_at a i) (bits_at b i) (bits_at c i) (bits_at d i)))

    -- the same as the machine keeps them, in a signed number
    pub four_kept : i < n → (k : ℕ) → Fits w32 k → mag (number_at a i) < 2 ^ 31 → mag (number_at b i) < 2 ^ 31 → mag (number_at c i) < 2 ^ 31 → mag (number_at d i) < 2 ^ 31 →
        (eqb (of_z w32 (to_z w32 k)) 0 && four_zeros a b c d i) ≡ (eqb (of_z w32 (to_z w32 (bit_or k (bit_or (bits_at a i) (bit_or (bits_at b i) (bit_or (bits_at c i) (bits_at d i))))))) 0 && four_zeros a b c d (i + 1))
    four_kept h k m e f g l =
        let next : ℕ = bit_or k (bit_or (bits_at a i) (bit_or (bits_at b i) (bit_or (bits_at c i) (bits_at d i)))) in
        let turn : Fits w32 next = Fits-or m (Fits-or (Fits-of_z {z = number_at a i} (sfits_of e)) (Fits-or (Fits-of_z {z = number_at b i} (sfits_of f)) (Fits-or (Fits-of_z {z = number_at c i} (sfits_of g)) (Fits-of_z {z = number_at d i} (sfits_of l))))) in
        ap (λ (t : Bool). t && four_zeros a b c d i) (bits_of k m) ∙ four_turn h k e f g l ∙ ap (λ (t : Bool). t && four_zeros a b c d (i + 1)) (sym (bits_of next turn))

    pub four_end : n ≤ i → (t : Bool) → (t && four_zeros a b c d i) ≡ t
    four_end h t =
        rw (all_end (ranging 0 0) a i (omega arith), all_end (ranging 0 0) b i (omega arith), all_end (ranging 0 0) c i (omega arith), all_end (ranging 0 0) d i (omega arith)) (and-true t)

-- FOUR PARTS AND THE REST
module _ (s : List ℤ) where
  between : (from to : ℕ) → from ≤ to → unused (drop from s) ≡ (unused (take (to - from) (drop from s)) && unused (drop to s))
  unfolding unused
  between from to h =
      let q : from + (to - from) ≡ to = omega arith in
      ap zeros (sym (take-append-drop (to - from) (drop from s))) ∙ all_append (ranging 0 0) (take (to - from) (drop from s)) (drop (to - from) (drop from s))
      ∙ ap (λ (l : List ℤ). zeros (take (to - from) (drop from s)) && zeros l) (drop-drop (to - from) from s ∙ ap (λ (n : ℕ). drop n s) q)

  grouped : (a b c d r : Bool) → (a && (b && (c && (d && r)))) ≡ ((a && (b && (c && d))) && r)
  grouped true true true d r = refl
  grouped true true false d r = refl
  grouped true false c d r = refl
  grouped false b c d r = refl

  -- the code's four parts, and what is left
  module _ (q : ℕ) (r : Bool)
      (e : r ≡ (unused (take (q - 0) (drop 0 s)) && (unused (take (q + q - q) (drop q s)) && (unused (take (q + q + q - (q + q)) (drop (q + q) s)) && unused (take (q + q + q + q - (q + q + q)) (drop (q + q + q) s)))))) where
    parts_are : unused s ≡ (r && unused (drop (q + q + q + q) s))
    parts_are =
        let A : Bool = unused (take (q - 0) (drop 0 s)) in
        let B : Bool = unused (take (q + q - q) (drop q s)) in
        let C : Bool = unused (take (q + q + q - (q + q)) (drop (q + q) s)) in
        let D : Bool = unused (take (q + q + q + q - (q + q + q)) (drop (q + q + q) s)) in
        between 0 q (omega arith)
        ∙ ap (λ (t : Bool). A && t) (between q (q + q) (omega arith) ∙ ap (λ (t : Bool). B && t) (between (q + q) (q + q + q) (omega arith) ∙ ap (λ (t : Bool). C && t) (between (q + q + q) (q + q + q + q) (omega arith))))
        ∙ grouped A B C D (unused (drop (q + q + q + q) s)) ∙ ap (λ (t : Bool). t && unused (drop (q + q + q + q) s)) (sym e)

    pub parts_rest : (x : Bool) → x ≡ unused (take (length s - (q + q + q + q)) (drop (q + q + q + q) s)) → unused s ≡ (r && x)
    parts_rest x f =
        parts_are ∙ ap (λ (t : Bool). r && t) (ap unused (sym (take_all (length s - (q + q + q + q)) (drop (q + q + q + q) s) (omega (arith, length-drop (q + q + q + q) s)))) ∙ sym f)

    pub parts_out : r ≡ false → unused s ≡ false
    parts_out h = parts_are ∙ and_left_false r _ h
