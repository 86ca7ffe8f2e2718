-- `elements::places::entry_at` meets its contract. Assumes nothing.
use Rattle.elements.proofs.PlaceTable.{entry_place}
use Rattle.elements.proofs.places.entry_at.Goals as goal

pub returns-then-row-lt33 : goal.returns-then-row-lt33
returns-then-row-lt33 c = entry_place _ _ c.requires c.early_word.ensures

pub returns : goal.returns
returns c = entry_place _ _ c.requires c.late_word.ensures
