-- `formula::entry::count_at` meets its contract. Assumes nothing.
use mathlib.Core.Path.{sym, ◌∙◌}
use Rattle.alphabet.proofs.DigitLaws.{digit_some}
use Rattle.formula.proofs.EntryLaws.{count_more, count_ends}
use Rattle.formula.proofs.entry.count_at.Goals.{then-i-at, else-i-at}
use Rattle.formula.proofs.entry.count_at.Goals as goal

pub returns-then-is_gap : goal.returns-then-is_gap
returns-then-is_gap c =
    count_ends _ _ _ _ c.loop-i.invariant c.loop-i-test.true (sym c.is_gap.ensures ∙ c.if-is_gap.true) _
    (λ e. elim c.if-i-at.branch [ then-i-at w ↦ w.told-is | else-i-at w ↦ absurd (w.if-i-at.false e) ])
    (λ n. elim c.if-i-at.branch [ then-i-at w ↦ absurd (n w.if-i-at.true) | else-i-at w ↦ w.told-is ])

pub loop-i-preserved : goal.loop-i-preserved
loop-i-preserved c =
    let d = digit_some _ _ c.digit.ensures _ c.in_ok-count.was in rw d.1 (count_more _ _ _ _ c.loop-i.invariant c.loop-i-test.true c.if-i-at-eq-COUNT_DIGITS.false d.0)
