-- `molform::lower_refusal` meets its contract. Assumes nothing.
use mathlib.Core.Path.{ap, ◌∙◌}
use mathlib.Core.Bool.{Bool, cond}
use borrow.Author.Rules.{rules}
use Rattle.std.specs.Prelude.{Err}
use Rattle.std.proofs.lemmas.List.Sorted.{answers_always}
use Rattle.molform.proofs.VerdictLaws.{less_told}
use Rattle.format.specs.Refusals.{number_of}
use Rattle.molform.proofs.lower_refusal.Goals as goal

pub returns : goal.returns
returns c =
    let e = c.min_by_key.ensures number_of (answers_always _ _ _ (λ f a r g h. search rules)) in
    rw (c.in-Err.is, c.in-Err-other.is) (ap Err (e ∙ ap (λ (t : Bool). cond t c.in-Err-other.second c.in-Err.first) (less_told _ _)))
