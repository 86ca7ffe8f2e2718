-- Printing into a lent buffer from a place on: document 01, "Refusal numbers" ("23, the form would pass 32,768 bytes; 22, the buffer is shorter"). A byte is laid
-- where the buffer has its place, and the place moves on, so that printing into an empty buffer measures. Places stop one beyond the longest form. Assumes nothing.
use Rattle.std.specs.Prelude.{ℕ, ◌+◌, ◌≡◌, true, false, List, [], ◌∷◌, ◌++◌, set, ltb}
use Rattle.lists.specs.Lists.{flat}
use Rattle.format.specs.Bytes.{Bytes}
use Rattle.printing.specs.declared.Sheet.{Sheet}

-- the place behind a place
unfoldable pub next_place : ℕ → ℕ
next_place at = elim (ltb at 32769) [ true ↦ at + 1 | false ↦ 32769 ]

-- the place behind some bytes, and the buffer with those of them that have a place in it
unfoldable pub after : (at : ℕ) → Bytes → ℕ
after at [] = at
after at (x ∷ form) = after (next_place at) form

unfoldable pub over : (buffer : Bytes) → (at : ℕ) → Bytes → Bytes
over buffer at [] = buffer
over buffer at (x ∷ form) = over (set buffer at x) (next_place at) form

-- what a printer leaves: the buffer with the form over it, and the place behind
pub record Laid (buffer : Bytes) (at : ℕ) (form later : Bytes) (r : ℕ) : Type 0 where
  pub place : r ≡ after at form
  pub laid : later ≡ over buffer at form

-- what a printer leaves that prints nothing: the buffer as it was, and the place that was given
pub record Untouched (buffer : Bytes) (at : ℕ) (later : Bytes) (r : ℕ) : Type 0 where
  pub place : r ≡ at
  pub same : later ≡ buffer

-- what is left of a sheet that is printed on: its buffer is still the one that was lent
pub record Printed (before : Sheet) (form : Bytes) (later : Sheet) : Type 0 where
  pub lent : later.buffer.ghost_name ≡ before.buffer.ghost_name
  pub print : Laid before.buffer.now before.at form later.buffer.now later.at

-- what is still to be printed: with it the whole is there
pub record Rests (before : Sheet) (whole : Bytes) (now : Sheet) (rest : Bytes) : Type 0 where
  pub done : Bytes
  pub parts : whole ≡ done ++ rest
  pub printed : Printed before done now

-- "one space between fields": words, each behind a space
unfoldable pub spaced : List Bytes → Bytes
spaced ws = flat (λ w. 32 ∷ w) ws
