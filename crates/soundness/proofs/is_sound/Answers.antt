-- `soundness::is_sound` meets its contract. Assumes nothing.
use native.Mathlib.Omega.{arith}
use Rattle.soundness.proofs.RegionTests.{sound_is}
use Rattle.soundness.proofs.is_sound.Goals as goal

pub returns-then-numbers_sound : goal.returns-then-numbers_sound
returns-then-numbers_sound c = let h = c.in-Some.ensures.cases in grind (arith, h.same, sound_is c.args.table.now c.args.bytes.now h.enough)

pub returns-else-numbers_sound : goal.returns-else-numbers_sound
returns-else-numbers_sound c = let h = c.in-Some.ensures.cases in grind (arith, h.same, sound_is c.args.table.now c.args.bytes.now h.enough)
