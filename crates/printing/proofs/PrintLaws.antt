-- Printing piece by piece is printing the pieces in one: what is laid first and what is laid behind it are laid together. A form that fits stands at the
-- buffer's front, and what was behind it stays. Document 01, "Refusal numbers" ("bytes beyond it stay"). Assumes nothing.
use Prim.Native.Nat.{ℕ, suc, ◌+◌, ◌≤◌, ◌<◌}
use mathlib.Core.Path.{◌≡◌, refl, sym, ap, ap₂, ◌∙◌}
use mathlib.Core.Bool.{Bool, true, false}
use mathlib.Core.List.{List, [], ◌∷◌, ◌++◌, append_assoc, append-nil}
use native.Mathlib.Nat.{zero-add, add-zero}
use native.Mathlib.Numerals.{add-one}
use native.Mathlib.Omega.{arith}
use lib.ListN.{length, get_or, set, length-set, take, drop, take-append-drop}
use lib.Dec.{ltb}
use lib.Seq.{take-suc, set_out, sets, sets-eq, length-sets, length-take-le, take_all, drop-drop}
use borrow.Author.Tests.{ltb-true, ltb-false, lt-ltb, le-ltb}
use Rattle.lists.proofs.PartLaws.{flat_nil, flat_cons}
use Rattle.format.specs.Bytes.{Bytes}
use Rattle.printing.specs.Printing.{next_place, after, over, Laid, Printed, Rests, spaced}
use Rattle.printing.specs.declared.Sheet.{Sheet}

-- ONE BYTE
pub next_in : (at : ℕ) → at < 32769 → at + 1 ≡ next_place at
unfolding next_place
next_in at h = sym (rw (lt-ltb at 32769 h, next_place))

pub next_out : (at : ℕ) → 32769 ≤ at → 32769 ≡ next_place at
unfolding next_place
next_out at h = sym (rw (le-ltb at 32769 h, next_place))

pub laid_byte : {b b' : Bytes} {at r x : ℕ} → b' ≡ set b at x → r ≡ next_place at → Laid b at (x ∷ []) b' r
unfolding after over
laid_byte p q = record { place = q; laid = p }

-- ONE BEHIND THE OTHER
after_append : (at : ℕ) (x y : Bytes) → after at (x ++ y) ≡ after (after at x) y
unfolding after
after_append at [] y = refl
after_append at (c ∷ x) y = after_append (next_place at) x y

over_append : (b : Bytes) (at : ℕ) (x y : Bytes) → over b at (x ++ y) ≡ over (over b at x) (after at x) y
unfolding after over
over_append b at [] y = refl
over_append b at (c ∷ x) y = over_append (set b at c) (next_place at) x y

pub laid_none : {b : Bytes} {at : ℕ} → Laid b at [] b at
unfolding after over
laid_none = record { place = refl; laid = refl }

pub laid_then : {b b₁ b₂ x y : Bytes} {at r₁ r₂ : ℕ} → Laid b at x b₁ r₁ → Laid b₁ r₁ y b₂ r₂ → Laid b at (x ++ y) b₂ r₂
laid_then {b} {b₁} {b₂} {x} {y} {at} {r₁} {r₂} p q = record {
  place = q.place ∙ ap (λ k. after k y) p.place ∙ sym (after_append at x y);
  laid = q.laid ∙ ap (λ l. over l r₁ y) p.laid ∙ ap (λ k. over (over b at x) k y) p.place ∙ sym (over_append b at x y);
}

pub laid_as : {b b' x y : Bytes} {at r : ℕ} → x ≡ y → Laid b at x b' r → Laid b at y b' r
laid_as {b} {b'} {x} {y} {at} {r} e p = record { place = p.place ∙ ap (after at) e; laid = p.laid ∙ ap (over b at) e }

-- THE BUFFER KEEPS ITS LENGTH
pub over_length : (b : Bytes) (at : ℕ) (x : Bytes) → length (over b at x) ≡ length b
unfolding over
over_length b at [] = refl
over_length b at (c ∷ x) = over_length (set b at c) (next_place at) x ∙ length-set b at c

-- ON A SHEET
pub printed_none : {s : Sheet} → Printed s [] s
printed_none = record { lent = refl; print = laid_none }

pub printed_then : {s s₁ s₂ : Sheet} {x y : Bytes} → Printed s x s₁ → Printed s₁ y s₂ → Printed s (x ++ y) s₂
printed_then p q = record { lent = q.lent ∙ p.lent; print = laid_then p.print q.print }

pub printed_as : {s s' : Sheet} {x y : Bytes} → x ≡ y → Printed s x s' → Printed s y s'
printed_as e p = record { lent = p.lent; print = laid_as e p.print }

pub printed_on : {s s₁ s₂ : Sheet} (text : Bytes) (i : ℕ) → i < length text → Printed s (take i text) s₁ → Printed s₁ (get_or text i 0 ∷ []) s₂ → Printed s (take (i + 1) text) s₂
printed_on text i h p q = printed_as (sym (take-suc text i 0 h) ∙ ap (λ k. take k text) (sym (add-one i))) (printed_then p q)

-- what is still to be printed
pub rest_all : {s : Sheet} {whole : Bytes} → Rests s whole s whole
rest_all = record { done = []; parts = refl; printed = printed_none }

pub rest_as : {s s₁ : Sheet} {whole x y : Bytes} → x ≡ y → Rests s whole s₁ x → Rests s whole s₁ y
rest_as e p = record { done = p.done; parts = p.parts ∙ ap (λ w. p.done ++ w) e; printed = p.printed }

pub rest_on : {s s₁ s₂ : Sheet} {whole rest x y : Bytes} → rest ≡ x ++ y → Printed s₁ x s₂ → Rests s whole s₁ rest → Rests s whole s₂ y
rest_on {x = x} {y = y} e l p = record { done = p.done ++ x; parts = p.parts ∙ ap (λ w. p.done ++ w) e ∙ sym (append_assoc p.done x y); printed = printed_then p.printed l }

pub rest_none : {s s₁ : Sheet} {whole rest : Bytes} → rest ≡ [] → Rests s whole s₁ rest → Printed s whole s₁
rest_none e p = printed_as (sym (p.parts ∙ ap (λ w. p.done ++ w) e ∙ append-nil p.done)) p.printed

-- A FORM THAT FITS, and one that does not
after_short : (at : ℕ) (x : Bytes) → at + length x ≤ 32769 → after at x ≡ at + length x
unfolding after
after_short at [] h = omega arith
after_short at (c ∷ x) h =
    let e : at + 1 ≡ next_place at = next_in at (omega arith) in
    ap (λ k. after k x) (sym e) ∙ after_short (at + 1) x (omega arith) ∙ (let q : at + 1 + length x ≡ at + suc (length x) = omega arith in q)

after_stays : (x : Bytes) → after 32769 x ≡ 32769
unfolding after
after_stays [] = refl
after_stays (c ∷ x) = ap (λ k. after k x) (sym (next_out 32769 (omega arith))) ∙ after_stays x

after_long : (at : ℕ) (x : Bytes) → at ≤ 32769 → 32769 ≤ at + length x → after at x ≡ 32769
unfolding after
after_long at [] h k = omega arith
after_long at (c ∷ x) h k = go (ltb at 32769) refl (λ j. after_long (at + 1) x j (omega arith))
  where
    go : (t : Bool) → ltb at 32769 ≡ t → (at + 1 ≤ 32769 → after (at + 1) x ≡ 32769) → after at (c ∷ x) ≡ 32769
    go true e ih = ap (λ n. after n x) (sym (next_in at (ltb-true at 32769 e))) ∙ ih (omega (arith, ltb-true at 32769 e))
    go false e ih = ap (λ n. after n x) (sym (next_out at (ltb-false at 32769 e))) ∙ after_stays x

over_short : (b : Bytes) (at : ℕ) (x : Bytes) → at + length x ≤ 32769 → over b at x ≡ sets b at x
unfolding over
over_short b at [] h = refl
over_short b at (c ∷ x) h = ap (λ k. over (set b at c) k x) (sym (next_in at (omega arith)) ∙ add-one at) ∙ over_short (set b at c) (suc at) x (omega arith)

pub over_whole : (b x : Bytes) → length x ≤ 32769 → length x ≤ length b → over b 0 x ≡ x ++ drop (length x) b
over_whole b x h k =
    over_short b 0 x (omega arith) ∙ sets-eq x b 0 (omega arith) ∙ ap (λ n. x ++ drop n b) (zero-add (length x))

pub after_whole : (x : Bytes) → length x ≤ 32769 → after 0 x ≡ length x
after_whole x h = after_short 0 x (omega arith) ∙ zero-add (length x)

pub after_over : (x : Bytes) → 32769 ≤ length x → after 0 x ≡ 32769
after_over x h = after_long 0 x (omega arith) (omega arith)

-- A TEXT THAT DOES NOT PASS THE LONGEST FORM: so many of its bytes as have a place are laid where they stand
sets_out : (b : Bytes) (at : ℕ) (x : Bytes) → length b ≤ at → sets b at x ≡ b
sets_out b at [] h = refl
sets_out b at (c ∷ x) h = ap (λ l. sets l (suc at) x) (set_out b at c h) ∙ sets_out b (suc at) x (omega arith)

sets_append : (b : Bytes) (at : ℕ) (x y : Bytes) → sets b at (x ++ y) ≡ sets (sets b at x) (at + length x) y
sets_append b at [] y = ap (λ k. sets b k y) (sym (add-zero at))
sets_append b at (c ∷ x) y = let q : suc at + length x ≡ at + suc (length x) = omega arith in sets_append (set b at c) (suc at) x y ∙ ap (λ k. sets (sets (set b at c) (suc at) x) k y) q

pub laid_out : (b : Bytes) (at : ℕ) (x : Bytes) → length b ≤ at → at + length x ≤ 32769 → Laid b at x b (at + length x)
laid_out b at x out h = record { place = sym (after_short at x h); laid = sym (over_short b at x h ∙ sets_out b at x out) }

pub laid_part : {now : Bytes} (b : Bytes) (at n k r : ℕ) (x : Bytes) → r ≡ at + length x → now ≡ take n x → k ≡ n → n ≤ length x → at + n ≤ length b → (n < length x → length b ≤ at + n) → at + length x ≤ 32769
    → Laid b at x (take at b ++ (now ++ drop k (drop at b))) r
laid_part {now} b at n k r x end same so low fits out h =
    record { place = end ∙ sym (after_short at x h); laid = ap₂ (λ w j. take at b ++ (w ++ drop j (drop at b))) same so ∙ sym (over_short b at x h ∙ go (ltb n (length x)) refl) }
  where
    front : length (take n x) ≡ n
    front = length-take-le n x low

    whole : sets b at (take n x) ≡ take at b ++ (take n x ++ drop n (drop at b))
    whole =
        sets-eq (take n x) b at (omega (arith, front)) ∙ ap (λ k. take at b ++ take n x ++ drop (at + k) b) front
        ∙ append_assoc (take at b) (take n x) (drop (at + n) b) ∙ ap (λ w. take at b ++ (take n x ++ w)) (sym (drop-drop n at b))

    go : (t : Bool) → ltb n (length x) ≡ t → sets b at x ≡ take at b ++ (take n x ++ drop n (drop at b))
    go true e =
        ap (sets b at) (sym (take-append-drop n x)) ∙ sets_append b at (take n x) (drop n x)
        ∙ sets_out (sets b at (take n x)) (at + length (take n x)) (drop n x) (omega (arith, length-sets b at (take n x), front, out (ltb-true n (length x) e))) ∙ whole
    go false e = ap (sets b at) (sym (take_all n x (ltb-false n (length x) e))) ∙ whole

-- WORDS EACH BEHIND A SPACE
pub spaced_none : spaced [] ≡ []
unfolding spaced
spaced_none = flat_nil (λ w. 32 ∷ w)

pub spaced_more : (w : Bytes) (ws : List Bytes) → spaced (w ∷ ws) ≡ 32 ∷ (w ++ spaced ws)
unfolding spaced
spaced_more w ws = flat_cons (λ v. 32 ∷ v) w ws
