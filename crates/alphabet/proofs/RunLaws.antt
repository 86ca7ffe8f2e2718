-- Where a run of bytes of one kind ends, by an index: what the loops over a line's bytes cite. Serves document 01, "Rows". Assumes nothing.
use Prim.Native.Nat.{ℕ, ◌+◌, max, ◌≤◌, ◌<◌}
use mathlib.Core.Path.{◌≡◌, refl}
use mathlib.Core.Bool.{Bool, true, false}
use native.Mathlib.Omega.{arith}
use lib.ListN.{length, drop, length-drop}
use lib.Dec.{leb}
use borrow.Author.Tests.{leb-true, leb-false}
use Rattle.lists.specs.Lists.{span}
use Rattle.lists.proofs.ListLaws.{span_le, span_within, span_end}
use Rattle.format.specs.Bytes.{Bytes}
use Rattle.alphabet.specs.Runs.{RunEnd}

pub runs : (p : ℕ → Bool) (s : Bytes) (at r : ℕ) → r ≡ at + span p (drop at s) → RunEnd p s at r
runs p s at r e = record { is = e; low = omega arith; high = λ h. omega (arith, span_within p s at h); reach = omega (arith, span_le p (drop at s), length-drop at s) }

-- the loop's end: over all places, or none where it starts beyond the bytes
pub run_over : (p : ℕ → Bool) (s : Bytes) (at i r : ℕ) → at + span p (drop at s) ≡ i + span p (drop i s) → length s ≤ i → (at ≤ length s → i ≤ length s) → r ≡ max at (length s) → RunEnd p s at r
run_over p s at i r e h k m = by (leb at (length s)) refl
  where
    by : (t : Bool) → leb at (length s) ≡ t → RunEnd p s at r
    by true f = let q : i ≤ length s = k (leb-true at (length s) f) in runs p s at r (omega (arith, e, m, span_end p s i h, leb-true at (length s) f))
    by false f = let q : length s < at = leb-false at (length s) f in runs p s at r (omega (arith, m, span_end p s at (omega arith)))
