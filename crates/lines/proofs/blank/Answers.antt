-- `lines::blank` meets its contract. Assumes nothing.
use mathlib.Core.Path.{◌∙◌}
use Rattle.std.proofs.Common.{rules}
use Rattle.std.proofs.lemmas.Iterator.{YieldsList-from_slice}
use Rattle.std.proofs.lemmas.Iterator.Search.{all_from_yields_List}
use Rattle.lists.proofs.LibraryLaws.{all_is}
use Rattle.format.specs.Bytes.{gap}
use Rattle.lines.proofs.blank.Goals as goal

pub returns : goal.returns
returns c = all_from_yields_List gap _ _ _ c.all.ensures.ran (YieldsList-from_slice c.args.line.now cc) (λ x b q k. search rules) ∙ all_is gap _
