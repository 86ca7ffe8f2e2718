-- A case: a block, and the refusal's number and place that a reading of it answers; accepted is 0, place 0. Assumes nothing.
use Rattle.std.specs.Prelude.{ℕ}
use Prim.Native.String.{String}
use Rattle.format.specs.Bytes.{bytes}
use Rattle.format.specs.Reading.{Reading, Read, Unread, strict, read_block}

pub record Answer : Type 0 where
  pub number : ℕ
  pub place : ℕ

pub record Case : Type 0 where
  pub block : String
  pub answer : Answer

infix 20 ◌gives◌at◌
abbrev pub ◌gives◌at◌ : String → (number place : ℕ) → Case
b gives n at p = record { block = b; answer = record { number = n; place = p } }

abbrev pub answer_of : Reading → Answer
answer_of (Read s spans p) = record { number = 0; place = 0 }
answer_of (Unread n p) = record { number = n; place = p }

-- what the definitions answer, with the 103 elements of today
unfoldable pub judged : Case → Answer
judged c = answer_of (read_block (strict 103) (bytes c.block))
