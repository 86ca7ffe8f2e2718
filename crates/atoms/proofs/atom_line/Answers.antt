-- `atoms::atom_line` meets its contract. Assumes nothing.
use native.Mathlib.Omega.{arith}
use Rattle.std.proofs.Common.{rules}
use Rattle.sorted.proofs.HandedLaws.{handed_within, handed_shows}
use Rattle.atoms.proofs.atom_line.Goals as goal

pub returns : goal.returns
returns c =
    let a = c.line_joined.ensures in (
      a.0,
      λ long few. (handed_within c.args.place _ _ _ _ c.map_err.ensures.cases a.1, λ listed len is. handed_shows _ _ _ _ _ _ _ c.map_err.ensures.cases (λ e f k. search rules) (a.2 listed len is)),
      λ other. absurd (other (omega arith) (omega arith)),
    )
