-- A row's answer handed on as its line's: a refusal gets the line's place, and all else stays. Assumes nothing.
use Prim.Native.Nat.{ℕ}
use mathlib.Core.Path.{◌≡◌, refl, ap, ◌∙◌}
use mathlib.Core.List.{List}
use native.Mathlib.Omega.{arith}
use Rattle.std.specs.Prelude.{Result, Ok, Err, MatchResult, IsErrAnd}
use Rattle.format.specs.declared.refusal.Refusal.{Refusal}
use Rattle.format.specs.declared.refusal.Refused.{Refused}
use Rattle.sorted.specs.Steps.{After, kept, refused}
use Rattle.sorted.specs.Shown.{ShowsAfter, ShowsLine, KeptWithin}

-- an error that is told
pub err_is : {T E : Type 0} (r : Result T E) (e : E) → IsErrAnd r (λ x. x ≡ e) → r ≡ Err e
err_is (Ok x) e h = absurd h
err_is (Err x) e h = ap Err h

abbrev pub at_place : (place : ℕ) → Refusal → Refused
at_place place e = record { refusal = e; place = place }

-- a: the row's answer, y: the line's
module _ (place : ℕ) (P : Refusal → Refused → Type 0) where
  pub handed_within : (limit : ℕ) (a : Result ℕ Refusal) (y : Result ℕ Refused) → MatchResult a (λ x. y ≡ Ok x) (λ e. IsErrAnd y (P e)) → KeptWithin limit a → KeptWithin limit y
  handed_within limit (Ok c) y m h = rw m h
  handed_within limit (Err e) (Ok c) m h = absurd m
  handed_within limit (Err e) (Err f) m h = tt

  pub handed_shows : {A : Type 0} (shown : List A → List ℕ) (u : List ℕ) (next : After A) (a : Result ℕ Refusal) (y : Result ℕ Refused) → MatchResult a (λ x. y ≡ Ok x) (λ e. IsErrAnd y (P e))
      → ((e : Refusal) (f : Refused) → P e f → f ≡ at_place place e) → ShowsAfter shown u a next → ShowsLine shown place u y next
  handed_shows shown u (kept ws) (Ok c) y m at s = (m ∙ again s.0, s.1)
    where
      again : {n : ℕ} → ◌≡◌ {A = Result ℕ Refusal} (Ok c) (Ok n) → ◌≡◌ {A = Result ℕ Refused} (Ok c) (Ok n)
      again {n} q = let w : c ≡ n = cc in ap Ok w
  handed_shows shown u (kept ws) (Err e) y m at s = let w : ◌≡◌ {A = ℕ} 0 1 = cc in absurd (omega arith)
  handed_shows shown u (refused n) (Ok c) y m at s = absurd s
  handed_shows shown u (refused n) (Err e) (Ok c) m at s = absurd m
  handed_shows shown u (refused n) (Err e) (Err f) m at s = rw (at e f m) (s, refl)

-- a count handed on as it is
pub kept_shows : {A : Type 0} (place : ℕ) (shown : List A → List ℕ) (u : List ℕ) (next : After A) (c : ℕ) → ShowsAfter shown u (Ok c) next → ShowsLine shown place u (Ok c) next
kept_shows place shown u next c s = handed_shows place (λ e f. f ≡ at_place place e) shown u next (Ok c) (Ok c) refl (λ e f q. q) s
