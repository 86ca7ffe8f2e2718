-- The writer's answer in each of its cases: document 01, the writing part of "Refusal numbers" ("Refusals in this order: 1; 21 ..; 23 ..; 22"). Assumes nothing.
use Prim.Native.Nat.{ℕ, ◌≤◌, ◌<◌}
use mathlib.Core.Path.{◌≡◌, refl, sym, ap, ap₂, ◌∙◌}
use mathlib.Core.Bool.{Bool, true, false, ◌&&◌}
use mathlib.Core.List.{List, ◌++◌}
use native.Mathlib.Omega.{arith}
use borrow.Author.Tests.{ltb-true, ltb-false, lt-ltb, le-ltb, le-leb}
use lib.Dec.{ltb, leb}
use lib.ListN.{length, take, drop}
use lib.Seq.{take-append_seam}
use lib.IntN.{ℤ}
use Rattle.format.specs.Bytes.{Bytes}
use Rattle.format.specs.Table.{sound}
use Rattle.format.specs.Writing.{form_of, written_as, write_result}
use Rattle.tally.specs.declared.entries.Entry.{Entry}
use Rattle.printing.specs.Printing.{after}
use Rattle.form.specs.Forms.{Printable, FormLaid}
use Rattle.writer.specs.Answers.{shown, SoundWritten, GroupsGathered}
use Rattle.std.specs.Prelude.{Result, Ok, Err}
use Rattle.format.specs.declared.refusal.Refusal.{Refusal}
use Rattle.format.specs.declared.refusal.Refusal.TheVariants.{ShortTable, Unsound, ShortBuffer, LongForm}
use Rattle.printing.proofs.PrintLaws.{over_whole, after_whole, after_over}
use Rattle.writer.proofs.SoundLaws.{sound_printable}

-- HOW LONG A FORM IS, from where its printing ended
module _ (form : Bytes) (r : ℕ) (is : r ≡ after 0 form) where
  long : 32768 < r → 32768 < length form
  long h = go (ltb 32768 (length form)) refl
    where
      go : (t : Bool) → ltb 32768 (length form) ≡ t → 32768 < length form
      go true e = ltb-true 32768 (length form) e
      go false e = absurd (omega (arith, is, ltb-false 32768 (length form) e, after_whole form (omega (arith, ltb-false 32768 (length form) e))))

  exact : r ≤ 32768 → r ≡ length form
  exact h = go (ltb 32768 (length form)) refl
    where
      go : (t : Bool) → ltb 32768 (length form) ≡ t → r ≡ length form
      go true e = absurd (omega (arith, is, after_over form (omega (arith, ltb-true 32768 (length form) e))))
      go false e = is ∙ after_whole form (omega (arith, ltb-false 32768 (length form) e))

-- A SOUND TABLE, its form printed into a draft
module _ (t : List ℤ) (b buffer : Bytes) (es : List Entry) (g : GroupsGathered t es) (draft drafted : Bytes) (size : ℕ) (m : FormLaid t b es draft drafted size) where
  pub too_long : 32768 < size → SoundWritten t b buffer (Err LongForm) buffer
  too_long h s =
      let q : 32768 < length (form_of t b) = long (form_of t b) size (m (sound_printable t b s es g)).place h in
      sym (ap (λ x. written_as x (ltb (length buffer) (length (form_of t b))) (form_of t b) buffer) (lt-ltb 32768 (length (form_of t b)) q))

  module _ (h : size ≤ 32768) where
    sized : sound 103 t b ≡ true → size ≡ length (form_of t b)
    sized s = exact (form_of t b) size (m (sound_printable t b s es g)).place h

    not_long : sound 103 t b ≡ true → ltb 32768 (length (form_of t b)) ≡ false
    not_long s = le-ltb 32768 (length (form_of t b)) (omega (arith, sized s))

    pub too_short : length buffer < size → SoundWritten t b buffer (Err ShortBuffer) buffer
    too_short k s = sym (ap₂ (λ x y. written_as x y (form_of t b) buffer) (not_long s) (lt-ltb (length buffer) (length (form_of t b)) (omega (arith, sized s))))

    there : (later : Bytes) → size ≤ length buffer → (Printable t es → later ≡ form_of t b ++ drop (length (form_of t b)) buffer) → SoundWritten t b buffer (Ok size) later
    there later k q s =
        ap₂ (λ c v. record { number = 0; count = c; buffer = v }) (sized s) (q (sound_printable t b s es g))
        ∙ sym (ap₂ (λ x y. written_as x y (form_of t b) buffer) (not_long s) (le-ltb (length buffer) (length (form_of t b)) (omega (arith, sized s))))

    pub wrote : (later : Bytes) (r : ℕ) → size ≤ length buffer → FormLaid t b es buffer later r → SoundWritten t b buffer (Ok size) later
    wrote later r k l = there later k (λ fit. (l fit).laid ∙ over_whole buffer (form_of t b) (omega (arith, exact (form_of t b) size (m fit).place h)) (omega (arith, exact (form_of t b) size (m fit).place h)))

    -- a draft that holds the whole form has it in front, and is copied
    pub copied : (later : Bytes) → size ≤ length buffer → size ≤ length draft → later ≡ take size drafted ++ drop size buffer → SoundWritten t b buffer (Ok size) later
    copied later e d is = there later e (λ fit.
        let n : size ≡ length (form_of t b) = exact (form_of t b) size (m fit).place h in
        let q : drafted ≡ form_of t b ++ drop (length (form_of t b)) draft = (m fit).laid ∙ over_whole draft (form_of t b) (omega (arith, n)) (omega (arith, n)) in
        is ∙ ap₂ (λ k w. take k w ++ drop k buffer) n q ∙ ap (λ w. w ++ drop (length (form_of t b)) buffer) (take-append_seam (form_of t b) (drop (length (form_of t b)) draft)))

-- EVERY TABLE
module _ (t : List ℤ) (b buffer : Bytes) where
  pub short_table : length t < 3856 → shown (Err ShortTable) buffer ≡ write_result 103 t b buffer
  unfolding write_result
  short_table h = sym (rw (lt-ltb (length t) 3856 h, write_result))

  judged : 3856 ≤ length t → (x : Bool) → x ≡ (leb 3856 (length t) && sound 103 t b) → x ≡ sound 103 t b
  judged h x e = e ∙ ap (λ y. y && sound 103 t b) (le-leb 3856 (length t) h)

  pub not_sound : 3856 ≤ length t → (x : Bool) → x ≡ (leb 3856 (length t) && sound 103 t b) → x ≡ false → shown (Err Unsound) buffer ≡ write_result 103 t b buffer
  unfolding write_result
  not_sound h x e f = sym (rw (le-ltb (length t) 3856 h, sym (judged h x e) ∙ f, write_result))

  pub is_written : 3856 ≤ length t → (x : Bool) → x ≡ (leb 3856 (length t) && sound 103 t b) → x ≡ true → (r : Result ℕ Refusal) (later : Bytes) → SoundWritten t b buffer r later
      → shown r later ≡ write_result 103 t b buffer
  unfolding write_result
  is_written h x e f r later w = w (sym (judged h x e) ∙ f) ∙ sym (rw (le-ltb (length t) 3856 h, sym (judged h x e) ∙ f, write_result))
