-- `judgement::unread` meets its contract. Assumes nothing.
use mathlib.Core.Path.{refl}
use Rattle.judgement.proofs.unread.Goals as goal

pub returns : goal.returns
returns c = refl
