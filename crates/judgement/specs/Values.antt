-- What the answer on a block id shows: document 01, "BLOCK_ID: one unsigned number, 1 to 999,999." Assumes nothing.
use Rattle.std.specs.Prelude.{◌≤◌, ◌≡◌, List, ℕ, Result, Ok, Err}
use Rattle.format.specs.Bytes.{Bytes}
use Rattle.format.specs.Reading.{State, Go, Stop, with_body, with_id, id_turn}
use Rattle.format.specs.Refusals.{number_of}
use Rattle.format.specs.declared.refusal.Refusal.{Refusal}

abbrev pub ShowsId : List Bytes → Result ℕ Refusal → Type 0
ShowsId fs (Ok n) = ((st : State) → id_turn st fs ≡ Go (with_body st (with_id n st.body))) × (n ≤ 999999)
ShowsId fs (Err e) = (st : State) → id_turn st fs ≡ Stop (number_of e)
