-- Two numbers of a table are the same exactly where the test of a sound table says so. Serves document 01, "Refusal numbers" (21). Assumes nothing.
use mathlib.Core.Path.{◌≡◌, refl, ap}
use mathlib.Core.Bool.{true, false}
use lib.IntN.{ℤ, pos, negsuc}
use borrow.Author.Tests.{eqb-true}
use Rattle.lists.proofs.Bools.{torn, eqb_same}
use Rattle.format.specs.Table.{same_number}

pub number_equal : (x y : ℤ) → same_number x y ≡ true → x ≡ y
number_equal (pos m) (pos n) h = ap pos (eqb-true m n h)
number_equal (pos m) (negsuc n) h = torn false h refl
number_equal (negsuc m) (pos n) h = torn false h refl
number_equal (negsuc m) (negsuc n) h = ap negsuc (eqb-true m n h)

pub number_self : (x : ℤ) → same_number x x ≡ true
number_self (pos n) = eqb_same n
number_self (negsuc n) = eqb_same n
