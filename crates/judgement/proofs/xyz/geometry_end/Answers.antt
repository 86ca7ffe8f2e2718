-- `judgement::xyz::geometry_end` meets its contract. Assumes nothing.
use Rattle.judgement.proofs.XyzTurnLaws.{end_partly, end_exceeds, end_passes}
use Rattle.judgement.proofs.xyz.geometry_end.Goals as goal

pub returns-then-partly : goal.returns-then-partly
returns-then-partly c = rw c.at.ensures (end_partly c.args.at c.args.p c.args.scratch.now c.requires c.partly.result c.partly.ensures c.if-partly.true)

pub returns-then-exceeds : goal.returns-then-exceeds
returns-then-exceeds c = rw c.at-then-exceeds.ensures (end_exceeds c.args.at c.args.p c.args.scratch.now c.requires c.partly.result c.partly.ensures c.if-partly.false c.exceeds.result c.exceeds.ensures c.if-exceeds.true)

pub returns : goal.returns
returns c = end_passes c.args.at c.args.p c.args.scratch.now c.requires c.partly.result c.partly.ensures c.if-partly.false c.exceeds.result c.exceeds.ensures c.if-exceeds.false
