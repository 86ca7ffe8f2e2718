-- What a line tells of where a block ends: each arm is one case of the label's code. Assumes nothing.
use Rattle.std.proofs.Common.{rules}
use Rattle.transfer.proofs.TellLaws.{turns_before, turns_behind, turns_on}
use Rattle.transfer.proofs.ends.BlockEnds.tells.Goals as goal

pub returns-in-1 : goal.returns-in-1
returns-in-1 c = turns_before _ _ c.line_kind.ensures _ c.code.ensures c.in-1.is

pub returns-in-13 : goal.returns-in-13
returns-in-13 c = turns_behind _ _ c.line_kind.ensures _ c.code.ensures c.in-13.is

pub returns-in_default : goal.returns-in_default
returns-in_default c = turns_on _ _ c.line_kind.ensures _ c.code.ensures (λ k. search rules) (λ k. search rules)
