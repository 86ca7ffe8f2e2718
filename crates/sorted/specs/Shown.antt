-- What a line's answer and the region after it show of the list: document 01, "A row is answered as its values or a refusal with its reason". Assumes nothing.
use Rattle.std.specs.Prelude.{ℕ, ◌≤◌, ◌≡◌, List, length, Result, Ok, Err, IfOk, OnErr, IsErrAnd}
use Rattle.format.specs.Refusals.{number_of}
use Rattle.format.specs.declared.refusal.Refusal.{Refusal}
use Rattle.format.specs.declared.refusal.Refusal.TheVariants.{Unlent}
use Rattle.format.specs.declared.refusal.Refused.{Refused}
use Rattle.sorted.specs.Steps.{After, kept, refused}

-- `shown` is how the list's rows stand in its region
abbrev pub ShowsAfter : {A : Type 0} → (shown : List A → List ℕ) → (region : List ℕ) → Result ℕ Refusal → After A → Type 0
ShowsAfter shown region r (kept rows) = (r ≡ Ok (length rows)) × (region ≡ shown rows)
ShowsAfter shown region r (refused n) = IsErrAnd r (λ e. number_of e ≡ n)

-- of a line: a refusal is handed on with the line's place
abbrev pub ShowsLine : {A : Type 0} → (shown : List A → List ℕ) → (place : ℕ) → (region : List ℕ) → Result ℕ Refused → After A → Type 0
ShowsLine shown place region r (kept rows) = (r ≡ Ok (length rows)) × (region ≡ shown rows)
ShowsLine shown place region r (refused n) = IsErrAnd r (λ e. (number_of e.refusal ≡ n) × (e.place ≡ place))

-- the count that a row or a line leaves is within the limit
abbrev pub KeptWithin : {E : Type 0} → ℕ → Result ℕ E → Type 0
KeptWithin limit r = IfOk r (λ c. c ≤ limit)

-- a refusal leaves the region as it is
abbrev pub StopLeaves : {E : Type 0} → (before after : List ℕ) → Result ℕ E → Type 0
StopLeaves before after r = OnErr r (after ≡ before)

-- what no reading lends is answered as such with the line's place, and the region is as it was
abbrev pub LineUntouched : (place : ℕ) → (before after : List ℕ) → Result ℕ Refused → Type 0
LineUntouched place before after r = (r ≡ Err (record { refusal = Unlent; place = place })) × (after ≡ before)
