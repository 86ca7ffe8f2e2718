-- The answer of a reading, as the definitions have it: document 01, "Refusal numbers". Assumes nothing.
use Rattle.std.specs.Prelude.{ℕ, ◌≤◌, ◌≡◌, false, List, map, length, take, Result, Ok, Err, IfErr}
use Rattle.format.specs.Bytes.{Bytes}
use Rattle.format.specs.Coordinates.{position_table}
use Rattle.format.specs.Reading.{State, finished, span_of}
use Rattle.format.specs.Table.{encode, Lent, short, overlaid, ReadResult, read_answer}
use Rattle.coordinates.specs.KeptRows.{Stored}
use Rattle.gather.specs.Progress.{Bounded, Holding}
use Rattle.gather.specs.declared.progress.Progress.{Progress}
use Rattle.format.specs.Refusals.{number_of}
use Rattle.format.specs.declared.refusal.Refused.{Refused}

-- an answer and the tables after it: "Accepted is 0, place 0."
abbrev pub shown_read : Result (Unit {0}) Refused → Lent → ReadResult
shown_read (Ok x) l = read_answer 0 0 l
shown_read (Err e) l = read_answer (number_of e.refusal) e.place l

-- a refusal's number is not 0, which says "accepted": the parts of an answer shown tell whether it is a refusal
abbrev pub CaseTold : Result (Unit {0}) Refused → Type 0
CaseTold r = IfErr r (λ e. number_of e.refusal ≡ 0 → ⊥)

-- what an accepted block leaves of tables that are long enough, its state in progress and scratch, its rows of XYZ in the table's first 1,024 numbers
abbrev pub Accepts : Bytes → Progress → List ℕ → (before after : Lent) → Type 0
Accepts block p t before after =
    (k : ℕ) (st : State) → short before ≡ false → length block ≤ 32768 → Bounded (length block) p → Holding k block p t st → k ≤ 103 → Stored (take 1024 before.table) st.geometry.rows
    → after ≡ overlaid (encode (finished st.body) (map span_of st.texts)) (position_table st.geometry) before
