-- `fields::texts::trimmed` meets its contract. Assumes nothing.
use mathlib.Core.Path.{◌∙◌}
use Rattle.std.proofs.Common.{rules}
use Rattle.std.proofs.iter.runs.Made.{chains}
use Rattle.lists.proofs.LibraryLaws.{rest_is}
use Rattle.fields.proofs.TrimLaws.{kept_to, kept_none}
use Rattle.fields.proofs.texts.trimmed.Goals as goal

pub returns-in-Some : goal.returns-in-Some
returns-in-Some c = kept_to c.args.text.now _ c.run_end-from.ensures c.iter.result.rest.now (c.iter.ensures.rest ∙ rest_is c.run_end-from.result c.args.text.now) c.in-Some.last (search rules) (search (rules, chains)) (λ k g h. search (rules, chains))

pub returns-in-None : goal.returns-in-None
returns-in-None c = kept_none c.args.text.now _ c.run_end-from.ensures c.iter.result.rest.now (c.iter.ensures.rest ∙ rest_is c.run_end-from.result c.args.text.now) (λ k h. search (rules, chains))
