-- Demand 1 over the definitions: what a refusal leaves of what was lent. Assumes nothing.
use Prim.Native.Nat.{ℕ, ◌≤◌, ◌<◌}
use mathlib.Core.Path.{◌≡◌, refl, ap, ◌∙◌}
use mathlib.Core.Logic.{◌⊎◌}
use mathlib.Core.Bool.{Bool, true, false}
use mathlib.Core.List.{List, ◌++◌}
use lib.ListN.{length, drop}
use lib.IntN.{ℤ}
use lib.Dec.{ltb}
use lib.Ieee.{Float}
use Rattle.format.specs.Bytes.{Bytes}
use Rattle.format.specs.Reading.{Reading, Read, Unread, strict, read_block}
use Rattle.format.specs.Table.{zeros, sound, Lent, lent, noughts, short, cleared, ReadResult, read_answer, read_into, read_result}
use Rattle.format.proofs.RefusedLaws.{both_long, either_short, long_read}
use Rattle.format.proofs.RefusedLaws as laws
use Rattle.format.specs.Writing.{WriteResult, unwritten, written_as, form_of, write_result}

pub refused_cleared : (k : ℕ) (b : Bytes) (l : Lent) → short l ≡ false → ((read_result k b l).number ≡ 0 → ⊥) → (read_result k b l).after ≡ cleared l
refused_cleared k b l h refused = go (read_block (strict k) b) refl
  where
    go : (r : Reading) → read_block (strict k) b ≡ r → (read_result k b l).after ≡ cleared l
    go (Read s spans p) e = absurd (refused (ap (λ (x : ReadResult). x.number) (long_read k b l h ∙ ap (read_into l) e)))
    go (Unread n p) e = ap (λ (x : ReadResult). x.after) (long_read k b l h ∙ ap (read_into l) e)

-- the same of two tables, number for number: both zeroed in front where both are long enough, both as lent where either is too short
module _ (k : ℕ) (b : Bytes) (t : List ℤ) (p : List Float) where
  pub refused_zero : 3856 ≤ length t → 1024 ≤ length p → ((read_result k b (lent t p)).number ≡ 0 → ⊥) → (read_result k b (lent t p)).after ≡ lent (zeros 3856 ++ drop 3856 t) (noughts 1024 ++ drop 1024 p)
  unfolding cleared
  refused_zero h i = refused_cleared k b (lent t p) (both_long (lent t p) h i)

  pub short_untouched : (length t < 3856) ⊎ (length p < 1024) → read_result k b (lent t p) ≡ read_answer 1 0 (lent t p)
  short_untouched h = laws.short_untouched k b (lent t p) (either_short (lent t p) h)

-- a refused writing answers 0 bytes and changes nothing
abbrev Untouched : Bytes → WriteResult → Type 0
Untouched buffer r = (r.number ≡ 0 → ⊥) → r ≡ unwritten r.number buffer

untouched_as : (long short : Bool) (form buffer : Bytes) → Untouched buffer (written_as long short form buffer)
untouched_as true short form buffer refused = refl
untouched_as false true form buffer refused = refl
untouched_as false false form buffer refused = absurd (refused refl)

pub refused_write : (k : ℕ) (t : List ℤ) (b buffer : Bytes) → ((write_result k t b buffer).number ≡ 0 → ⊥) → write_result k t b buffer ≡ unwritten (write_result k t b buffer).number buffer
unfolding write_result
refused_write k t b buffer = go (ltb (length t) 3856) (sound k t b)
  where
    go : (short fine : Bool) → Untouched buffer (elim short [
      | true ↦ unwritten 1 buffer
      | false ↦ elim fine [
        | false ↦ unwritten 21 buffer
        | true ↦ written_as (ltb 32768 (length (form_of t b))) (ltb (length buffer) (length (form_of t b))) (form_of t b) buffer
      ]
    ])
    go true fine refused = refl
    go false false refused = refl
    go false true refused = untouched_as (ltb 32768 (length (form_of t b))) (ltb (length buffer) (length (form_of t b))) (form_of t b) buffer refused
