-- `printing::Sheet::bytes` meets its contract. Assumes nothing.
use mathlib.Core.Path.{◌≡◌, refl, sym, ◌∙◌}
use native.Mathlib.Omega.{arith}
use lib.ListN.{length}
use lib.Seq.{take_all}
use Rattle.printing.proofs.PrintLaws.{laid_part}
use Rattle.printing.proofs.Sheet.bytes.Goals as goal

pub returns-then-self-2 : goal.returns-then-self-2
returns-then-self-2 g c =
    let long : length c.args.bytes ≡ g.row.N = omega arith in
    record {
      lent = refl;
      print =
          laid_part c.args.self.now.buffer.now _ g.row.N _ _ c.args.bytes (omega (arith, long)) (c.copy_from_slice.ensures.after ∙ sym (take_all g.row.N c.args.bytes (omega (arith, long))))
          (omega arith) (omega (arith, long)) (omega arith) (omega (arith, long)) (omega (arith, long));
    }
