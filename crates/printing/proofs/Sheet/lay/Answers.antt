-- `printing::Sheet::lay` meets its contract. Assumes nothing.
use mathlib.Core.Path.{refl}
use native.Mathlib.Omega.{arith}
use Rattle.printing.proofs.PrintLaws.{laid_out, laid_part}
use Rattle.printing.proofs.Sheet.lay.Goals.{then-self, else-self}
use Rattle.printing.proofs.Sheet.lay.Goals as goal

pub returns : goal.returns
returns c = elim c.if-self.branch [
  | then-self w ↦
      rw w.self-is (record { lent = refl; print = laid_part c.args.self.now.buffer.now _ _ _ _ c.args.text.now refl w.copy.ensures (omega arith) (omega (arith, w.min-room.ensures)) (omega (arith, w.min-room.ensures)) (omega (arith, w.min-room.ensures)) (omega arith) })
  | else-self w ↦ rw w.self-is (record { lent = refl; print = laid_out _ _ _ (omega arith) (omega arith) })
]
