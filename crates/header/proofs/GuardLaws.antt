-- What the guards tell of progress: its counts within their limits, its parts within the block. Serves document 01, "The structure table". Assumes nothing.
use mathlib.Core.Path.{◌≡◌, refl}
use mathlib.Core.Bool.{Bool, true, false, not}
use Rattle.lists.proofs.Bools.{torn}
use Rattle.header.specs.Header.{Tells}

-- an answer that was turned over
pub tells_no : (b : Bool) (P : Type 0) → Tells b P → not b ≡ true → P → ⊥
tells_no true P h e = torn (not true) e refl
tells_no false P h e = h

pub tells_yes : (b : Bool) (P : Type 0) → Tells b P → not b ≡ false → P
tells_yes true P h e = h
tells_yes false P h e = torn (not false) refl e
