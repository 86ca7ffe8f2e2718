-- The place of a reading's answer lies in its block, whichever variant it is: what callers that pack it or count it in a file need. Document 01, "Refusal numbers".
-- Assumes nothing.
use Prim.Native.Nat.{ℕ, ◌≤◌}
use mathlib.Core.Path.{◌≡◌, sym, ap, ◌∙◌}
use native.Mathlib.Omega.{arith}
use Rattle.format.specs.Bytes.{Bytes}
use Rattle.format.specs.Table.{Lent, ReadResult, read_result}
use Rattle.format.proofs.RefusedLaws.{result_placed}
use Rattle.reader.specs.Answers.{shown_read}
use Rattle.std.specs.declared.result.Result.{Result}
use Rattle.format.specs.declared.refusal.Refused.{Refused}

pub place_fits : (n : ℕ) (b : Bytes) (before : Lent) (r k : Result (Unit {0}) Refused) (l : Lent) → shown_read r l ≡ read_result n b before → r ≡ k → (shown_read k l).place ≤ 32768
place_fits n b before r k l h e = omega (arith, ap (λ (x : ReadResult). x.place) (sym (ap (λ (a : Result (Unit {0}) Refused). shown_read a l) e) ∙ h), result_placed n b before)
