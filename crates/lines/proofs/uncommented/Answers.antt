-- `lines::uncommented` meets its contract. Assumes nothing.
use mathlib.Core.Path.{◌∙◌, ap}
use lib.ListN.{length}
use borrow.Author.Tests.{tests}
use Rattle.std.proofs.Common.{rules}
use Rattle.std.specs.Prelude.{unwrap_or}
use Rattle.std.proofs.lemmas.Iterator.Search.{position_from_yields_List}
use Rattle.lists.proofs.LibraryLaws.{twos_given}
use Rattle.lines.proofs.LineLaws.{dollars, uncomments}
use Rattle.lines.proofs.uncommented.Goals as goal

pub returns : goal.returns
returns c =
    let e = position_from_yields_List dollars _ _ _ c.position-comment.ensures.ran (twos_given c.args.line.now _ (search rules) (search rules)) (λ x b q k. search (rules, tests)) in
    uncomments _ _ (c.unwrap_or.ensures ∙ ap (λ o. unwrap_or o (length c.args.line.now)) e)
