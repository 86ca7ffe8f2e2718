-- `printing::Sheet::byte` meets its contract. Assumes nothing.
use mathlib.Core.Path.{sym, ap, ◌∙◌}
use lib.Seq.{set_out}
use Rattle.printing.specs.Printing.{next_place}
use Rattle.printing.proofs.PrintLaws.{laid_byte}
use Rattle.printing.proofs.Sheet.byte.Goals.{then-self, else-self}
use Rattle.printing.proofs.Sheet.byte.Goals as goal

pub returns : goal.returns
returns c = elim c.if-self.branch [
  | then-self w ↦ record {
    lent = ap (λ s. s.buffer.ghost_name) w.self-is;
    print = laid_byte (ap (λ s. s.buffer.now) w.self-is) (c.next_place-self.ensures ∙ ap (λ s. next_place s.at) w.self-is);
  }
  | else-self w ↦ record {
    lent = ap (λ s. s.buffer.ghost_name) w.self-is;
    print = laid_byte (ap (λ s. s.buffer.now) w.self-is ∙ sym (set_out c.args.self.now.buffer.now c.args.self.now.at c.args.byte w.if-self.false)) (c.next_place-self.ensures ∙ ap (λ s. next_place s.at) w.self-is);
  }
]
