-- The reader's promises allow one answer and one pair of tables, and the check's one number, which says one refusal number and one place: document 01, "that two allowed
-- answers are equal is proved". Assumes nothing.
use Prim.Native.Nat.{ℕ, ◌≤◌}
use mathlib.Core.Path.{◌≡◌, refl, sym, ap, ◌∙◌}
use native.Mathlib.Omega.{arith}
use Rattle.format.specs.Bytes.{Bytes}
use Rattle.format.specs.Table.{Lent, ReadResult}
use Rattle.format.specs.Walking.{packed, check_of}
use Rattle.reader.specs.Answers.{shown_read, CaseTold}
use Rattle.std.specs.declared.result.Result.{Result}
use Rattle.std.specs.declared.result.Result.TheVariants.{Ok, Err}
use Rattle.format.specs.declared.refusal.Refused.{Refused}
use Rattle.format.proofs.RefusalLaws.{refused_once}

pub one_answer : (r q : Result (Unit {0}) Refused) (l m : Lent) → CaseTold r → CaseTold q → shown_read r l ≡ shown_read q m → (r ≡ q) × (l ≡ m)
one_answer (Ok x) (Ok y) l m h k e = (refl, ap (λ (a : ReadResult). a.after) e)
one_answer (Ok x) (Err f) l m h k e = absurd (k (sym (ap (λ (a : ReadResult). a.number) e)))
one_answer (Err e) (Ok y) l m h k q = absurd (h (ap (λ (a : ReadResult). a.number) q))
one_answer (Err e) (Err f) l m h k q =
    (ap Err (refused_once e f (ap (λ (a : ReadResult). a.number) q) (ap (λ (a : ReadResult). a.place) q)), ap (λ (a : ReadResult). a.after) q)

-- CHECKING
pub one_check : (b : Bytes) (r q : ℕ) → r ≡ check_of 103 b → q ≡ check_of 103 b → r ≡ q
one_check b r q e f = e ∙ sym f

pub one_packed : (n m p q : ℕ) → p ≤ 32768 → q ≤ 32768 → packed n p ≡ packed m q → (n ≡ m) × (p ≡ q)
one_packed n m p q h k e = (omega arith, omega arith)
