-- The three demands at the 103 elements of today: the theorems for every number of elements, with nothing left to ask of it. Restated in Demands.antt. Assumes nothing.
use Prim.Native.Nat.{◌≤◌}
use native.Mathlib.Omega.{arith}
use Rattle.demands.specs.Demands.{Demand1, Demand2, Demand3}
use Rattle.demands.proofs.Accepted as accepted
use Rattle.demands.proofs.AcceptedSound as kept
use Rattle.demands.proofs.ReadAs as read
use Rattle.demands.proofs.PositionsGiven as given
use Rattle.demands.proofs.Handed as handed
use Rattle.demands.proofs.Fragments as groups
use Rattle.demands.proofs.Refused as refused
use Rattle.demands.proofs.Stretches as stretches
use Rattle.demands.proofs.TextsTold as told
use Rattle.demands.proofs.WayBack as back
use Rattle.demands.proofs.WayBackTables as tables
use Rattle.demands.proofs.WayBackSound as again
use Rattle.demands.proofs.WayBackWalk as walk

one : 1 ≤ 103
one = omega arith

most : 103 ≤ 103
most = omega arith

pub demand_1 : Demand1 103
demand_1 = record { refused_zero = refused.refused_zero 103; short_untouched = refused.short_untouched 103; refused_write = refused.refused_write 103 }

pub demand_2 : Demand2 103
demand_2 = record {
  accepted_iff = accepted.accepted_iff 103;
  table_is = read.table_is 103;
  read_sound = λ b s spans g. kept.read_sound 103 b s spans g one;
  accepted_sound = λ b t. kept.accepted_sound 103 b t one;
  positions_given = given.positions_given 103;
  handed_given = handed.handed_given 103;
  handed_alone = handed.handed_alone 103;
  same_group_iff_path = groups.same_group_iff_path 103;
  lowest_of_group = groups.lowest_of_group 103;
  fragment_for_each_group = groups.fragment_for_each_group 103;
  fragments_total = λ s. groups.fragments_total 103 s most;
  read_written = λ b t. kept.read_written 103 b t one;
  read_then_written = λ b t. kept.read_then_written 103 b t one;
  read_written_read = λ b t wide given buffer into. kept.read_written_read 103 b t one wide given buffer into most;
  way_back = λ s title origin owner. back.way_back 103 s title origin owner most;
  table_back = λ t b buffer into. tables.table_back 103 t b buffer into most;
  written_again = λ s title origin owner. again.written_again 103 s title origin owner most;
  canonical_lines = λ s title origin owner. walk.canonical_lines 103 s title origin owner most;
  canonical_piece = λ s title origin owner. walk.canonical_piece 103 s title origin owner most;
}

pub demand_3 : Demand3 103
demand_3 = record {
  three_stretches = stretches.three_stretches 103;
  accepted_texts = told.accepted_texts 103;
  refused_texts = told.refused_texts 103;
  texts_told_lem = λ s. told.texts_told_lem 103 s one;
  accepted_has_end = stretches.accepted_has_end 103;
}
