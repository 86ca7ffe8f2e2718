-- `alphabet::kind::run_end` meets its contract. Assumes nothing.
use mathlib.Core.Path.{sym, ◌∙◌}
use native.Mathlib.Omega.{arith}
use Rattle.lists.proofs.ListLaws.{span_in, span_out}
use Rattle.alphabet.proofs.RunLaws.{runs, run_over}
use Rattle.alphabet.proofs.kind.run_end.Goals as goal

pub loop-i-preserved : goal.loop-i-preserved
loop-i-preserved g c = c.loop-i.invariant ∙ span_in g.K.Kind.holds 0 _ _ c.loop-i-test.true (sym c.has.ensures ∙ c.if-not-has.false)

pub returns-then-not-has : goal.returns-then-not-has
returns-then-not-has g c = runs _ _ _ _ (sym (c.loop-i.invariant ∙ span_out g.K.Kind.holds 0 _ _ c.loop-i-test.true (sym c.has.ensures ∙ c.if-not-has.true)))

pub returns : goal.returns
returns g c = run_over _ _ _ _ _ c.loop-i.invariant (omega arith) c.loop-i.auto.i-end c.max.ensures
