-- `elements::letter_element` meets its contract. Assumes nothing.
use mathlib.Core.Path.{refl}
use native.Mathlib.Omega.{arith}
use borrow.Author.Rules.{rules}
use Rattle.lists.specs.Lists.{any, same_by}
use Rattle.format.specs.Bytes.{bytes, blank, gap, cons_to, fields}
use Rattle.format.specs.Structure.{symbols, place_of}
use Rattle.elements.proofs.PlaceTable.{lone, lone_is, lone_gone}
use Rattle.elements.proofs.letter_element.Goals as goal

pub returns-in-66 : goal.returns-in-66
unfolding lone place_of symbols same_by any bytes blank gap cons_to fields
returns-in-66 c = lone_is _ 66 _ c.in-66.is refl

pub returns-in-67 : goal.returns-in-67
unfolding lone place_of symbols same_by any bytes blank gap cons_to fields
returns-in-67 c = lone_is _ 67 _ c.in-67.is refl

pub returns-in-70 : goal.returns-in-70
unfolding lone place_of symbols same_by any bytes blank gap cons_to fields
returns-in-70 c = lone_is _ 70 _ c.in-70.is refl

pub returns-in-72 : goal.returns-in-72
unfolding lone place_of symbols same_by any bytes blank gap cons_to fields
returns-in-72 c = lone_is _ 72 _ c.in-72.is refl

pub returns-in-73 : goal.returns-in-73
unfolding lone place_of symbols same_by any bytes blank gap cons_to fields
returns-in-73 c = lone_is _ 73 _ c.in-73.is refl

pub returns-in-75 : goal.returns-in-75
unfolding lone place_of symbols same_by any bytes blank gap cons_to fields
returns-in-75 c = lone_is _ 75 _ c.in-75.is refl

pub returns-in-78 : goal.returns-in-78
unfolding lone place_of symbols same_by any bytes blank gap cons_to fields
returns-in-78 c = lone_is _ 78 _ c.in-78.is refl

pub returns-in-79 : goal.returns-in-79
unfolding lone place_of symbols same_by any bytes blank gap cons_to fields
returns-in-79 c = lone_is _ 79 _ c.in-79.is refl

pub returns-in-80 : goal.returns-in-80
unfolding lone place_of symbols same_by any bytes blank gap cons_to fields
returns-in-80 c = lone_is _ 80 _ c.in-80.is refl

pub returns-in-83 : goal.returns-in-83
unfolding lone place_of symbols same_by any bytes blank gap cons_to fields
returns-in-83 c = lone_is _ 83 _ c.in-83.is refl

pub returns-in-85 : goal.returns-in-85
unfolding lone place_of symbols same_by any bytes blank gap cons_to fields
returns-in-85 c = lone_is _ 85 _ c.in-85.is refl

pub returns-in-86 : goal.returns-in-86
unfolding lone place_of symbols same_by any bytes blank gap cons_to fields
returns-in-86 c = lone_is _ 86 _ c.in-86.is refl

pub returns-in-87 : goal.returns-in-87
unfolding lone place_of symbols same_by any bytes blank gap cons_to fields
returns-in-87 c = lone_is _ 87 _ c.in-87.is refl

pub returns-in-89 : goal.returns-in-89
unfolding lone place_of symbols same_by any bytes blank gap cons_to fields
returns-in-89 c = lone_is _ 89 _ c.in-89.is refl

pub returns-in_default : goal.returns-in_default
returns-in_default c = lone_gone _ (omega arith) (search rules)
