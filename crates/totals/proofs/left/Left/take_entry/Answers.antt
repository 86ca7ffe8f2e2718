-- `totals::Left::take_entry` meets its contract. Assumes nothing.
use Rattle.symbols.specs.ShownSymbols.{sym_of_mark}
use Rattle.totals.proofs.AnswerLaws.{entry_told}
use Rattle.totals.proofs.left.Left.take_entry.Goals as goal

pub returns : goal.returns
returns c = let x = c.args in entry_told x.last (sym_of_mark x.told.mark) x.told.count _ _ _ _ c.requires c.isotope_of-isotope.ensures c.take.ensures
