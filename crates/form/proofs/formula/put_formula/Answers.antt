-- `form::formula::put_formula` meets its contract. Assumes nothing.
use Rattle.format.specs.Bytes.{bytes}
use Rattle.form.proofs.FragmentLaws.{formula_laid}
use Rattle.form.proofs.formula.put_formula.Goals as goal

pub returns : goal.returns
unfolding bytes
returns c = formula_laid c.args.entries.now c.text.ensures c.put_entries.ensures c.byte.ensures
