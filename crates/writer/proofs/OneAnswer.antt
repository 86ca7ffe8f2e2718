-- The writer's promise allows one answer and one buffer: document 01, "that two allowed answers are equal is proved". `Ok 0` and the refusal with the
-- number 0 show the same result; the definition has no such result, since no form is empty and no refusal of a writing has the number 0, so that the promise by
-- itself tells the case. Assumes nothing.
use Prim.Native.Nat.{ℕ, ◌+◌, ◌<◌}
use mathlib.Core.Path.{◌≡◌, refl, sym, ap, ◌∙◌, subst}
use mathlib.Core.Bool.{Bool, true, false}
use mathlib.Core.List.{List, ◌++◌}
use native.Mathlib.Omega.{arith}
use lib.Dec.{ltb}
use lib.ListN.{length, length-append}
use lib.IntN.{ℤ}
use Rattle.std.specs.Prelude.{Result, Ok, Err}
use Rattle.lists.specs.Lists.{concat}
use Rattle.format.specs.declared.refusal.Refusal.{Refusal}
use Rattle.format.specs.Bytes.{Bytes, bytes}
use Rattle.format.specs.Table.{sound}
use Rattle.format.specs.Writing.{WriteResult, valued, print_record, records, canonical, form_of, written_as, write_result}
use Rattle.format.proofs.RefusalLaws.{number_once}
use Rattle.writer.specs.Answers.{shown}

-- NO FORM IS EMPTY
title_some : (v rest : Bytes) → 0 < length (print_record "##TITLE=" v ++ rest)
unfolding print_record bytes
title_some v rest = omega (arith, length-append (print_record "##TITLE=" v) rest, length-append (bytes "##TITLE=") (valued v))

form_some : (t : List ℤ) (b : Bytes) → 0 < length (form_of t b)
unfolding form_of canonical records concat
form_some t b = title_some _ _

-- A RESULT tells its case: its number or its count is not 0
abbrev weight : WriteResult → ℕ
weight w = w.number + w.count

as_some : (long short : Bool) (form buffer : Bytes) → 0 < length form → 0 < weight (written_as long short form buffer)
as_some true short form buffer h = omega arith
as_some false true form buffer h = omega arith
as_some false false form buffer h = omega arith

result_some : (t : List ℤ) (b buffer : Bytes) → 0 < weight (write_result 103 t b buffer)
unfolding write_result
result_some t b buffer = go (ltb (length t) 3856) refl
  where
    judge : (x y : Bool) → ltb (length t) 3856 ≡ x → sound 103 t b ≡ y → x ≡ false → 0 < weight (write_result 103 t b buffer)
    judge x true e f g = rw (e ∙ g, f, write_result) (as_some (ltb 32768 (length (form_of t b))) (ltb (length buffer) (length (form_of t b))) (form_of t b) buffer (form_some t b))
    judge x false e f g = rw (e ∙ g, f, write_result) (omega arith)

    go : (x : Bool) → ltb (length t) 3856 ≡ x → 0 < weight (write_result 103 t b buffer)
    go true e = rw (e, write_result) (omega arith)
    go false e = judge false (sound 103 t b) e refl refl

-- ANY TWO ANSWERS that keep the promise, with what each leaves in the buffer
pub one_answer : (t : List ℤ) (b buffer : Bytes) (r q : Result ℕ Refusal) (later after : Bytes) → shown r later ≡ write_result 103 t b buffer → shown q after ≡ write_result 103 t b buffer → (r ≡ q) × (later ≡ after)
one_answer t b buffer r q later after e f =
    let h : 0 < weight (shown r later) = subst (λ w. 0 < weight w) (sym e) (result_some t b buffer) in
    let k : 0 < weight (shown q after) = subst (λ w. 0 < weight w) (sym f) (result_some t b buffer) in
    (cases r q (e ∙ sym f) h k, buffers r q (e ∙ sym f))
  where
    cases : (x y : Result ℕ Refusal) → shown x later ≡ shown y after → 0 < weight (shown x later) → 0 < weight (shown y after) → x ≡ y
    cases (Ok n) (Ok m) s h k = ap Ok (ap (λ w. w.count) s)
    cases (Ok n) (Err d) s h k = absurd (omega (arith, h, ap (λ w. w.count) s))
    cases (Err d) (Ok m) s h k = absurd (omega (arith, k, ap (λ w. w.count) s))
    cases (Err d) (Err g) s h k = ap Err (number_once d g (ap (λ w. w.number) s))

    held : (x : Result ℕ Refusal) (c : Bytes) → (shown x c).buffer ≡ c
    held (Ok n) c = refl
    held (Err d) c = refl

    buffers : (x y : Result ℕ Refusal) → shown x later ≡ shown y after → later ≡ after
    buffers x y s = sym (held x later) ∙ ap (λ w. w.buffer) s ∙ held y after
