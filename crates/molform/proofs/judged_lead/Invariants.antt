-- `molform::judged_lead` meets its contract. Assumes nothing.
use Prim.Native.Nat.{◌-◌}
use lib.ListN.{length}
use Rattle.molform.specs.Verdicts.{refusal_with}
use Rattle.molform.specs.Passes.{Leads}
use Rattle.molform.proofs.judged_lead.Given as goal

abbrev pub invariant-loop-quick : goal.invariant-loop-quick
invariant-loop-quick l = Leads (refusal_with l.last) l.value l.lead

abbrev pub decreases-loop-quick : goal.decreases-loop-quick
decreases-loop-quick l = length l.value - l.lead.at
