-- One step of the walk, as the code tests it: document 01, "Walking a transfer file". Assumes nothing.
use Prim.Native.Nat.{ℕ, ◌+◌, ◌-◌, ◌≤◌, ◌<◌}
use mathlib.Core.Path.{◌≡◌, sym, ap, ◌∙◌}
use mathlib.Core.Bool.{Bool, true, false}
use native.Mathlib.Omega.{arith}
use lib.ListN.{length, take, drop}
use Rattle.format.specs.Bytes.{Bytes, cut, line_len}
use Rattle.format.specs.Labels.{title_line}
use Rattle.format.specs.Walking.{outside, block, stray, piece, Found, Finished, walk_at}
use Rattle.format.proofs.WalkLaws.{ahead_end, walk_on, first_title, first_other}
use Rattle.transfer.specs.Ending.{ending, turn_tells, title_tells}
use Rattle.transfer.proofs.EndLaws.{block_ending, stray_ending}

module _ (s : Bytes) (place : ℕ) (short : length s ≤ 16777216) where
  -- "At the end: finished."
  pub walk_end : place ≡ length s → walk_at s place ≡ Finished
  walk_end e = walk_on s place short (omega arith) ∙ ahead_end s outside place (omega arith)

  -- the first line, from `place` to `end`, decides
  module _ (end : ℕ) (within : place ≤ length s) (more : place ≡ length s → ⊥) (is : end ≡ place + line_len (drop place s)) (t : Bool) (told : t ≡ title_line (take (end - place) (drop place s))) where
    before_end : place < length s
    before_end = omega arith

    pub walk_block : (r : ℕ) → t ≡ true → r ≡ ending turn_tells end (cut (drop end s)) → walk_at s place ≡ Found (piece block place r)
    walk_block r k e = walk_on s place short within ∙ first_title s place end before_end is (sym told ∙ k) ∙ block_ending place end (cut (drop end s)) ∙ ap (λ n. Found (piece block place n)) (sym e)

    pub walk_stray : (r : ℕ) → t ≡ false → r ≡ ending title_tells end (cut (drop end s)) → walk_at s place ≡ Found (piece stray place r)
    walk_stray r k e = walk_on s place short within ∙ first_other s place end before_end is (sym told ∙ k) ∙ stray_ending place end (cut (drop end s)) ∙ ap (λ n. Found (piece stray place n)) (sym e)
