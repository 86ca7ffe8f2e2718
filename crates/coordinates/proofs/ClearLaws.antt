-- Noughts in the front of a lent table. Serves document 02, L2 ("cleared on refusals other than 1"). Assumes nothing.
use Prim.Native.Nat.{◌≤◌, ◌<◌}
use mathlib.Core.Path.{◌≡◌, sym, ap, ◌∙◌}
use mathlib.Core.List.{List, ◌++◌}
use borrow.Author.Tests.{le-leb, lt-leb}
use lib.ListN.{length, take, drop, replicate}
use lib.Seq.{length-take-le}
use lib.Ieee.{Float, binary64, of_bits}
use Rattle.format.specs.Coordinates.{nought}
use Rattle.format.specs.Table.{noughts}
use Rattle.factor.proofs.QuotientLaws.{nought_is}
use Rattle.coordinates.specs.ShownPositions.{fronted}

-- THE FIRST PART OF THE TABLE
module _ (s t : List Float) where
  pub fronted_long : 1024 ≤ length t → fronted s t ≡ s ++ drop 1024 t
  unfolding fronted
  fronted_long h = rw (le-leb 1024 (length t) h, fronted)

  pub fronted_short : length t < 1024 → t ≡ fronted s t
  unfolding fronted
  fronted_short h = sym (rw (lt-leb 1024 (length t) h, fronted))

-- zeros as the fill writes them, in the front of a table
pub cleared : (t front : List Float) {filled : List Float} → 1024 ≤ length t → front ≡ take 1024 t → filled ≡ replicate (length front) (of_bits binary64 0) → filled ++ drop 1024 t ≡ fronted (noughts 1024) t
unfolding noughts
cleared t front h same e =
    let whole : length front ≡ 1024 = ap length same ∙ length-take-le 1024 t h in
    let zeros = ap (λ (l : List Float). l ++ drop 1024 t) (e ∙ ap (λ n. replicate n (of_bits binary64 0)) whole ∙ ap (replicate 1024) nought_is) in
    zeros ∙ sym (fronted_long (noughts 1024) t h)
