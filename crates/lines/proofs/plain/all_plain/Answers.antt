-- `lines::plain::all_plain` meets its contract. Assumes nothing.
use mathlib.Core.Path.{◌≡◌, sym}
use Rattle.std.proofs.Common.{rules}
use Rattle.std.proofs.lemmas.Fn.{fold_over, fronts}
use Rattle.std.proofs.lemmas.Iterator.{YieldsList-from_slice}
use Rattle.lists.specs.Lists.{all}
use Rattle.lists.proofs.ListLaws.{all_nil}
use Rattle.lists.proofs.LibraryLaws.{all_more}
use Rattle.format.specs.Bytes.{within}
use Rattle.lines.proofs.plain.all_plain.Goals as goal

pub returns : goal.returns
returns c = fold_over fronts (λ y. y.now) _ (λ ys a. a ≡ all (within 32 126) ys) _ (λ ys a x b f' j k. (all_more (within 32 126) ys a x.now b j (search rules), search rules)) _ _ _ _ (YieldsList-from_slice c.args.part.now cc).runs (sym (all_nil (within 32 126))) c.fold.ensures.ran
