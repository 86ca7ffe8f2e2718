-- Where a label line's value starts, as the code comes to it: document 01, "the label runs to the first `=`". Assumes nothing.
use Prim.Native.Nat.{ℕ}
use mathlib.Core.Path.{◌≡◌, sym, ap, ◌∙◌}
use native.Mathlib.Omega.{arith}
use lib.ListN.{length, drop_of_length-le}
use Rattle.format.specs.Bytes.{Bytes}
use Rattle.format.specs.Walking.{value_of}
use Rattle.labels.specs.declared.LineKind.{LineKind}
use Rattle.labels.specs.declared.LineKind.TheVariants as K
use Rattle.labels.specs.ShownLines.{ShowsLine, shown_line}
use Rattle.transfer.specs.Texts.{ValueAt}

module _ (l : Bytes) where
  -- from what is known of the line
  abbrev value_from : LineKind → ℕ
  value_from K.Plain = length l
  value_from K.Unparted = length l
  value_from (K.Labelled code at) = at

  pub value_told : (r k : LineKind) → ShowsLine l r → r ≡ k → ValueAt l (value_from k)
  value_told r K.Plain h e = record { is = drop_of_length-le l {i = length l} (omega arith) ∙ ap (λ (x : LineKind). value_of (shown_line l x)) (sym e) ∙ ap value_of h.is; high = omega arith }
  value_told r K.Unparted h e = record { is = drop_of_length-le l {i = length l} (omega arith) ∙ ap (λ (x : LineKind). value_of (shown_line l x)) (sym e) ∙ ap value_of h.is; high = omega arith }
  value_told r (K.Labelled code at) h e = record { is = ap (λ (x : LineKind). value_of (shown_line l x)) (sym e) ∙ ap value_of h.is; high = h.high code at e }
