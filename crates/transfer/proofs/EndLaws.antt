-- Where what goes on from line to line ends, one line at a time, and that so end the definitions' texts, blocks and stray runs. Serves document 01, "Walking a
-- transfer file". Assumes nothing.
use Prim.Native.Nat.{ℕ, ◌+◌, ◌-◌, ◌≤◌, ◌<◌}
use mathlib.Core.Path.{◌≡◌, refl, sym, ap, ◌∙◌}
use mathlib.Core.Bool.{Bool, true, false}
use mathlib.Core.List.{List, [], ◌∷◌}
use native.Mathlib.Omega.{arith}
use lib.ListN.{length, take, drop, length-append, drop_of_length-le}
use Rattle.std.specs.Prelude.{Option, None}
use Rattle.format.specs.Bytes.{Bytes, is_label, cut, line_len}
use Rattle.format.specs.Labels.{title_line, end_line}
use Rattle.format.specs.Walking.{in_block, in_stray, block, stray, piece, run, first_of, Found, until_label}
use Rattle.format.proofs.CutLaws.{cut_nil, cut_at}
use Rattle.format.proofs.WalkLaws.{run_none, run_cons, line, line_is, line_to}
use Rattle.transfer.specs.declared.ends.Side.{Side}
use Rattle.transfer.specs.Skipping.{starts, skipped}
use Rattle.transfer.specs.Ending.{ended_at, ending, label_tells, title_tells, turn_tells}
use Rattle.transfer.specs.Texts.{text_to}
use Rattle.transfer.proofs.SkipLaws.{skip_on}

module _ (tells : Bytes → Option Side) where
  pub ending_nil : (at : ℕ) → ending tells at [] ≡ at
  unfolding ending
  ending_nil at = refl

  pub ending_cons : (at : ℕ) (l : Bytes) (ls : List Bytes) → ending tells at (l ∷ ls) ≡ ended_at (tells l) at (at + length l) (ending tells (at + length l) ls)
  unfolding ending
  ending_cons at l ls = refl

  pub ending_end : (s : Bytes) (at : ℕ) → length s ≤ at → ending tells at (cut (drop at s)) ≡ at
  ending_end s at h = ap (λ l. ending tells at (cut l)) (drop_of_length-le s h) ∙ ap (ending tells at) cut_nil ∙ ending_nil at

  -- lines that are not looked at are passed over
  pub ending_skip : (kind : ℕ → Bool) → ((s : Bytes) → starts kind s ≡ false → tells (take (line_len s) s) ≡ None)
      → (s : Bytes) (at r : ℕ) → r ≡ at + skipped kind true (drop at s) → ending tells at (cut (drop at s)) ≡ ending tells r (cut (drop r s))
  ending_skip kind passes s at r e = skip_on kind (ending tells) (λ at s ls k. ending_cons at (take (line_len s) s) ls ∙ rw (passes s k)) s at r e

  -- the line from `at` to `e` tells
  module _ (s : Bytes) (at e : ℕ) (h : at < length s) (q : e ≡ at + line_len (drop at s)) where
    pub ending_line : (t : Option Side) → tells (take (e - at) (drop at s)) ≡ t → ending tells at (cut (drop at s)) ≡ ended_at t at e (ending tells e (cut (drop e s)))
    ending_line t k =
        ap (ending tells at) (cut_at s at h ∙ ap (λ l. l ∷ cut (drop (at + line_len (drop at s)) s)) (line_is s at e h q) ∙ ap (λ n. line s at e h q ∷ cut (drop n s)) (sym q))
        ∙ ending_cons at (line s at e h q) (cut (drop e s))
        ∙ ap (λ n. ended_at (tells (line s at e h q)) at n (ending tells n (cut (drop e s)))) (line_to s at e h q)
        ∙ ap (λ o. ended_at o at e (ending tells e (cut (drop e s)))) k

-- A TEXT
pub text_ending : (at : ℕ) (ls : List Bytes) → ending label_tells at ls ≡ text_to at ls
unfolding ending text_to until_label
text_ending at [] = omega arith
text_ending at (l ∷ ls) = by (is_label l) refl (text_ending (at + length l) ls)
  where
    by : (t : Bool) → is_label l ≡ t → ending label_tells (at + length l) ls ≡ text_to (at + length l) ls → ending label_tells at (l ∷ ls) ≡ text_to at (l ∷ ls)
    by true e ih = rw (e, ending, until_label) (omega arith)
    by false e ih = rw (e, ending, until_label) (ih ∙ omega (arith, length-append l (until_label ls)))

-- A BLOCK
pub block_ending : (place at : ℕ) (ls : List Bytes) → first_of (run (in_block place) at ls) ≡ Found (piece block place (ending turn_tells at ls))
block_ending place at [] = rw (run_none [] (in_block place) at, ending_nil turn_tells at)
block_ending place at (l ∷ ls) = by (title_line l) (end_line l) refl refl (block_ending place (at + length l) ls)
  where
    by : (t e : Bool) → title_line l ≡ t → end_line l ≡ e → first_of (run (in_block place) (at + length l) ls) ≡ Found (piece block place (ending turn_tells (at + length l) ls))
        → first_of (run (in_block place) at (l ∷ ls)) ≡ Found (piece block place (ending turn_tells at (l ∷ ls)))
    by true e f g ih = rw (run_cons (in_block place) at l ls, ending_cons turn_tells at l ls, f)
    by false true f g ih = rw (run_cons (in_block place) at l ls, ending_cons turn_tells at l ls, f, g)
    by false false f g ih = rw (run_cons (in_block place) at l ls, ending_cons turn_tells at l ls, f, g) ih

-- A STRAY RUN
pub stray_ending : (place at : ℕ) (ls : List Bytes) → first_of (run (in_stray place) at ls) ≡ Found (piece stray place (ending title_tells at ls))
stray_ending place at [] = rw (run_none [] (in_stray place) at, ending_nil title_tells at)
stray_ending place at (l ∷ ls) = by (title_line l) refl (stray_ending place (at + length l) ls)
  where
    by : (t : Bool) → title_line l ≡ t → first_of (run (in_stray place) (at + length l) ls) ≡ Found (piece stray place (ending title_tells (at + length l) ls))
        → first_of (run (in_stray place) at (l ∷ ls)) ≡ Found (piece stray place (ending title_tells at (l ∷ ls)))
    by true f ih = rw (run_cons (in_stray place) at l ls, ending_cons title_tells at l ls, f)
    by false f ih = rw (run_cons (in_stray place) at l ls, ending_cons title_tells at l ls, f) ih
