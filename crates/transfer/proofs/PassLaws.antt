-- A line that is not looked at ends nothing. Serves document 01, "Walking a transfer file". Assumes nothing.
use mathlib.Core.Path.{◌≡◌}
use mathlib.Core.Bool.{false}
use lib.ListN.{take}
use Rattle.std.specs.Prelude.{None}
use Rattle.format.specs.Bytes.{Bytes, line_len}
use Rattle.transfer.specs.Skipping.{any_byte, turning, starts}
use Rattle.transfer.specs.Ending.{label_tells, turn_tells, title_tells}
use Rattle.transfer.proofs.SkipLaws.{no_hash_first}
use Rattle.transfer.proofs.TurnLaws.{no_label, no_turn}

pub label_passes : (s : Bytes) → starts any_byte s ≡ false → label_tells (take (line_len s) s) ≡ None
label_passes s e = rw (no_label s (no_hash_first s e))

pub turn_passes : (s : Bytes) → starts turning s ≡ false → turn_tells (take (line_len s) s) ≡ None
turn_passes s e = let k = no_turn s e in rw (k.0, k.1)

pub title_passes : (s : Bytes) → starts turning s ≡ false → title_tells (take (line_len s) s) ≡ None
title_passes s e = rw (no_turn s e).0
