-- `lines::plain::plain_to` meets its contract. Assumes nothing.
use mathlib.Core.Path.{refl, sym, ◌∙◌}
use native.Mathlib.Omega.{arith}
use Rattle.lines.proofs.LineLaws.{looks_far}
use Rattle.lines.proofs.plain.plain_to.Goals as goal

pub returns-then-block-lt-EIGHT : goal.returns-then-block-lt-EIGHT
returns-then-block-lt-EIGHT c = (refl, refl)

pub loop-i-init : goal.loop-i-init
loop-i-init c = (refl, refl)

pub returns-then-not-all_plain : goal.returns-then-not-all_plain
returns-then-not-all_plain c = c.loop-i.invariant

pub loop-i-preserved : goal.loop-i-preserved
loop-i-preserved c = looks_far _ _ _ _ c.loop-i.invariant (omega arith) (omega arith) (sym c.all_plain.ensures ∙ c.if-not-all_plain.false)

pub returns : goal.returns
returns c = c.loop-i.invariant
