-- What the writer's answer and the buffer behind it say: document 01, the writing part of "Refusal numbers" ("All four answer 0 bytes and leave the buffer alone as
-- lent. Success answers the count; bytes beyond it stay."). Assumes nothing.
use Rattle.std.specs.Prelude.{ℕ, ◌≡◌, true, List, length, ℤ, ltb, Result, Ok, Err}
use Rattle.format.specs.declared.refusal.Refusal.{Refusal}
use Rattle.format.specs.Bytes.{Bytes}
use Rattle.format.specs.Refusals.{number_of}
use Rattle.format.specs.Structure.{groups, well_formed}
use Rattle.format.specs.Table.{decode, sound}
use Rattle.format.specs.Writing.{WriteResult, unwritten, form_of, written_as}
use Rattle.tally.specs.declared.entries.Entry.{Entry}
use Rattle.tally.specs.Gathering.{Gathered}

abbrev pub shown : Result ℕ Refusal → Bytes → WriteResult
shown (Ok n) b = record { number = 0; count = n; buffer = b }
shown (Err e) b = unwritten (number_of e) b

-- a sound table is written, or refused for its form's length
abbrev pub SoundWritten : List ℤ → (texts buffer : Bytes) → Result ℕ Refusal → (later : Bytes) → Type 0
SoundWritten t b buffer r later = sound 103 t b ≡ true → shown r later ≡ written_as (ltb 32768 (length (form_of t b))) (ltb (length buffer) (length (form_of t b))) (form_of t b) buffer

-- the formula's entries of a table whose structure is well-formed, group by group
abbrev pub GroupsGathered : List ℤ → List Entry → Type 0
GroupsGathered t entries = well_formed 103 (decode t) ≡ true → Gathered (groups (decode t)) entries
