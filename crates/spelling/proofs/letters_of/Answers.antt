-- `spelling::letters_of` meets its contract. Assumes nothing.
use Rattle.spelling.proofs.LetterTable.{letters_in}
use Rattle.spelling.proofs.letters_of.Goals as goal

pub returns : goal.returns
returns c = rw c.to_le_bytes-bytes.ensures (letters_in _ _ c.letters_word.ensures)
