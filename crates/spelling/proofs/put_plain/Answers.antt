-- `spelling::put_plain` meets its contract. Assumes nothing.
use Rattle.spelling.proofs.SpellLaws.{plain_printed}
use Rattle.spelling.proofs.put_plain.Goals as goal

pub returns : goal.returns
returns c = plain_printed _ c.args.mass _ _ c.letters_of.ensures.0 c.letters_of.ensures.1 c.put_mass.ensures c.put_letters.ensures
