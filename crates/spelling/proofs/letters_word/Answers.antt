-- `spelling::letters_word` meets its contract. Assumes nothing.
use native.Mathlib.Omega.{arith}
use Rattle.spelling.proofs.LetterTable.{word_past}
use Rattle.spelling.proofs.letters_word.Goals as goal

pub returns-in_default : goal.returns-in_default
returns-in_default c = word_past _ (omega arith)
