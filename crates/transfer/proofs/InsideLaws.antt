-- A piece that the walk finds ends behind its place and within the file, so a walk from end to end comes to the file's end: document 01, "Walking a transfer
-- file". Assumes nothing.
use Prim.Native.Nat.{ℕ, ◌+◌, ◌-◌, ◌≤◌, ◌<◌}
use mathlib.Core.Path.{◌≡◌, refl, sym, ap, ◌∙◌, subst}
use mathlib.Core.Bool.{Bool, true, false}
use mathlib.Core.List.{List, [], ◌∷◌, ◌++◌}
use native.Mathlib.Omega.{arith}
use lib.ListN.{length, take, drop, length-drop}
use lib.Dec.{ltb}
use borrow.Author.Tests.{ltb-true, ltb-false}
use Rattle.lists.specs.Lists.{concat}
use Rattle.lists.proofs.PartLaws.{concat_length}
use Rattle.format.specs.Bytes.{Bytes, cut, line_len}
use Rattle.format.specs.Labels.{title_line, end_line}
use Rattle.format.specs.Walking.{Piece, Mode, outside, in_block, in_stray, close, ended, next, run, Walked, Found, Finished, NotWalked, first_of, walked_as, walk_at, What, a_piece, the_end, a_refusal, WalkResult, walk_result}
use Rattle.format.proofs.CutLaws.{concat_cut, line_len_le, line_len_pos}
use Rattle.format.proofs.WalkLaws.{ahead, ahead_end, walk_ahead, run_cons, run_none, first_title, first_other}
use Rattle.std.specs.Prelude.{Option, Some, Result, Ok}
use Rattle.format.specs.declared.refusal.Refusal.{Refusal}
use Rattle.transfer.specs.declared.walks.Piece.{Piece as Told}
use Rattle.transfer.specs.Shown.{shown}

-- a piece that is found ends from a on and up to b
abbrev Within : (a b : ℕ) → Walked → Type 0
Within a b (Found p) = (a ≤ p.to) × (p.to ≤ b)
Within a b Finished = Unit {0}
Within a b (NotWalked n) = Unit {0}

wider : (a b c d : ℕ) (w : Walked) → c ≤ a → b ≤ d → Within a b w → Within c d w
wider a b c d (Found p) h k i = (omega (arith, i.0), omega (arith, i.1))
wider a b c d Finished h k i = tt
wider a b c d (NotWalked n) h k i = tt

within_close : (m : Mode) (at n : ℕ) → Within at (at + n) (first_of (close m at))
within_close outside at n = tt
within_close (in_block s) at n = (omega arith, omega arith)
within_close (in_stray s) at n = (omega arith, omega arith)

within_run : (m : Mode) (at : ℕ) (ls : List Bytes) → Within at (at + length (concat ls)) (first_of (run m at ls))
within_run m at [] = subst (λ (ps : List Piece). Within at (at + length (concat {A = ℕ} [])) (first_of ps)) (sym (run_none [] m at)) (within_close m at _)
within_run m at (l ∷ ls) =
    rw (run_cons m at l ls)
    (by (λ (n : Mode). wider (at + length l) (at + length l + length (concat ls)) at (at + length (concat (l ∷ ls))) (first_of (run n (at + length l) ls)) (omega arith) (omega (arith, concat_length l ls)) (within_run n (at + length l) ls)) (title_line l) (end_line l) m)
  where
    by : ((n : Mode) → Within at (at + length (concat (l ∷ ls))) (first_of (run n (at + length l) ls)))
        → (t e : Bool) (m : Mode) → Within at (at + length (concat (l ∷ ls))) (first_of (ended t e m at (at + length l) ++ run (next t e m at) (at + length l) ls))
    by on true e outside = on (in_block at)
    by on true e (in_block s) = (omega arith, omega arith)
    by on true e (in_stray s) = (omega arith, omega arith)
    by on false e outside = on (in_stray at)
    by on false e (in_stray s) = on (in_stray s)
    by on false true (in_block s) = (omega arith, omega (arith, concat_length l ls))
    by on false false (in_block s) = on (in_block s)

-- an answer that is a piece ends behind the place and within the file, which is not too long
abbrev pub EndsIn : Bytes → (place end : ℕ) → What → Type 0
EndsIn s place end (a_piece k) = (place < end) × (end ≤ length s) × (length s ≤ 16777216)
EndsIn s place end the_end = Unit {0}
EndsIn s place end a_refusal = Unit {0}

abbrev pub Ends : Bytes → (place : ℕ) → WalkResult → Type 0
Ends s place r = EndsIn s place r.end r.what

abbrev pub Inside : Bytes → (place : ℕ) → Walked → Type 0
Inside s place w = Ends s place (walk_result w)

module _ (s : Bytes) (place : ℕ) where
  narrowed : (e : ℕ) (w : Walked) → place < e → length s ≤ 16777216 → Within e (length s) w → Inside s place w
  narrowed e (Found p) h k i = (omega (arith, i.0), i.1, k)
  narrowed e Finished h k i = tt
  narrowed e (NotWalked n) h k i = tt

  module _ (short : length s ≤ 16777216) (more : place < length s) where
    abbrev end : ℕ
    end = place + line_len (drop place s)

    high : end ≤ length s
    high = omega (arith, line_len_le (drop place s), length-drop place s)

    rest_inside : (m : Mode) → Inside s place (ahead s m end)
    rest_inside m =
        let z : end + length (concat (cut (drop end s))) ≡ length s = omega (arith, ap length (concat_cut (drop end s)), length-drop end s, high) in
        narrowed end (ahead s m end) (omega (arith, line_len_pos (drop place s) (omega (arith, length-drop place s)))) short
        (subst (λ (n : ℕ). Within end n (ahead s m end)) z (within_run m end (cut (drop end s))))

    ahead_inside : Inside s place (ahead s outside place)
    ahead_inside = by (title_line (take (end - place) (drop place s))) refl
      where
        by : (t : Bool) → title_line (take (end - place) (drop place s)) ≡ t → Inside s place (ahead s outside place)
        by true t = subst (Inside s place) (sym (first_title s place end more refl t)) (rest_inside (in_block place))
        by false t = subst (Inside s place) (sym (first_other s place end more refl t)) (rest_inside (in_stray place))

  pub walk_inside : Inside s place (walk_at s place)
  walk_inside = subst (Inside s place) (sym (walk_ahead s place)) (by (ltb 16777216 (length s)) (ltb (length s) place) refl)
    where
      at : length s ≤ 16777216 → (more : Bool) → ltb place (length s) ≡ more → Inside s place (ahead s outside place)
      at k true m = ahead_inside k (ltb-true place (length s) m)
      at k false m = subst (Inside s place) (sym (ahead_end s outside place (ltb-false place (length s) m))) tt

      by : (long beyond : Bool) → ltb 16777216 (length s) ≡ long → Inside s place (walked_as long beyond (ahead s outside place))
      by true beyond l = tt
      by false true l = tt
      by false false l = at (ltb-false 16777216 (length s) l) (ltb place (length s)) refl

  -- the same of the code's answer
  pub piece_inside : (r : Result (Option Told) Refusal) (p : Told) → shown r ≡ walk_result (walk_at s place) → r ≡ Ok (Some p) → (place < p.to) × (p.to ≤ length s) × (length s ≤ 16777216)
  unfolding shown
  piece_inside r p h e = subst (Ends s place) (sym h ∙ ap shown e) walk_inside
