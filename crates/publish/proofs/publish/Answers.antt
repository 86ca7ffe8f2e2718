-- `publish::publish` meets its contract. Assumes nothing.
use mathlib.Core.Path.{refl}
use native.Mathlib.Omega.{arith}
use Rattle.publish.proofs.publish.Goals.{then-table-lt-SIZE-via-then-table-lt-SIZE, then-table-lt-SIZE-via-else-table-lt-SIZE+then-block-gt-BLOCK, then-table-lt-SIZE-via-else-table-lt-SIZE+else-block-gt-BLOCK+then-not-is_bounded}
use Rattle.publish.proofs.publish.Goals as goal

pub returns-then-table-lt-SIZE : goal.returns-then-table-lt-SIZE
returns-then-table-lt-SIZE c = (
  λ n. refl,
  λ k st h l s b o m. absurd (elim c.then-table-lt-SIZE.branch [
    | then-table-lt-SIZE-via-then-table-lt-SIZE w ↦ omega (arith, h)
    | then-table-lt-SIZE-via-else-table-lt-SIZE+then-block-gt-BLOCK w ↦ omega (arith, s)
    | then-table-lt-SIZE-via-else-table-lt-SIZE+else-block-gt-BLOCK+then-not-is_bounded w ↦ w.if-not-is_bounded.ensures b
  ]),
)

pub returns : goal.returns
returns c = (λ n. absurd (n (omega arith, c.in-Some.ensures.cases.long, omega arith, c.if-not-is_bounded.ensures)), λ k st h l s b o m. c.put_structure.ensures k st (rw c.in-Some.ensures.cases.same o) m)
