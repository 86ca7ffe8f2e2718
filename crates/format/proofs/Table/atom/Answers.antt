use mathlib.Core.Path.{sym}
use Rattle.format.specs.Table.{atom_place}
use Rattle.format.proofs.Places.{place_in, place_out}
use Rattle.format.proofs.Table.atom.Goals as goal

pub returns-then-index-lt-ATOMS : goal.returns-then-index-lt-ATOMS
unfolding atom_place
returns-then-index-lt-ATOMS c = sym (place_in 16 5 256 _ c.if-index-lt-ATOMS.true)

pub returns : goal.returns
unfolding atom_place
returns c = sym (place_out 16 5 256 _ c.if-index-lt-ATOMS.false)
