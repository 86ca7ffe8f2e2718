-- `alphabet::is_gap` meets its contract. Assumes nothing.
use mathlib.Core.Path.{sym}
use Rattle.format.proofs.ByteLaws.{gap_space, gap_tab, gap_return}
use Rattle.alphabet.proofs.KindLaws.{gap_last}
use Rattle.alphabet.proofs.is_gap.Goals as goal

pub returns-then-b-eq32 : goal.returns-then-b-eq32
returns-then-b-eq32 c = sym (gap_space _ c.if-b-eq32.true)

pub returns-then-b-eq9 : goal.returns-then-b-eq9
returns-then-b-eq9 c = sym (gap_tab _ c.if-b-eq9.true)

pub returns-then-b-eq13 : goal.returns-then-b-eq13
returns-then-b-eq13 c = sym (gap_return _ c.if-b-eq13.true)

pub returns : goal.returns
returns c = gap_last _ c.if-b-eq32.false c.if-b-eq9.false c.if-b-eq13.false
