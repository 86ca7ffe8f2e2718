-- `symbols::groups::place_in` meets its contract. Assumes nothing.
use mathlib.Core.Path.{sym, ◌∙◌}
use native.Mathlib.Omega.{arith}
use Rattle.symbols.proofs.LetterLaws.{place_long, place_here, place_on, place_over}
use Rattle.symbols.proofs.groups.place_in.Goals as goal

pub returns-in_default-clause-says : goal.returns-in_default-clause-says
returns-in_default-clause-says c = place_long _ _ _ (omega (arith, c.in_default.len_below))

pub returns-in_default-2-clause-says : goal.returns-in_default-2-clause-says
returns-in_default-2-clause-says c = place_long _ _ _ (omega (arith, c.in_default.len_at_least))

pub returns-then-known-letter-clause-says : goal.returns-then-known-letter-clause-says
returns-then-known-letter-clause-says c = sym (c.loop-i.invariant ∙ place_here _ _ _ _ (omega arith) c.loop-i-test.true c.if-known-letter.true)

pub loop-i-preserved : goal.loop-i-preserved
loop-i-preserved c = c.loop-i.invariant ∙ place_on _ _ _ _ (omega arith) c.loop-i-test.true c.if-known-letter.false

pub returns-clause-says : goal.returns-clause-says
returns-clause-says c = sym (c.loop-i.invariant ∙ place_over _ _ _ _ c.loop-i-test.false)
