-- `elements::places::late_word` meets its contract. Assumes nothing.
use borrow.Author.Rules.{rules}
use Rattle.elements.specs.Words.{words}
use Rattle.elements.proofs.PlaceTable.{word_is, late_gone}
use Rattle.elements.proofs.places.late_word.Goals as goal

pub returns-in-33 : goal.returns-in-33
unfolding words
returns-in-33 c = word_is _ 33 c.in-33.is

pub returns-in-34 : goal.returns-in-34
unfolding words
returns-in-34 c = word_is _ 34 c.in-34.is

pub returns-in-35 : goal.returns-in-35
unfolding words
returns-in-35 c = word_is _ 35 c.in-35.is

pub returns-in-36 : goal.returns-in-36
unfolding words
returns-in-36 c = word_is _ 36 c.in-36.is

pub returns-in-37 : goal.returns-in-37
unfolding words
returns-in-37 c = word_is _ 37 c.in-37.is

pub returns-in-39 : goal.returns-in-39
unfolding words
returns-in-39 c = word_is _ 39 c.in-39.is

pub returns-in-40 : goal.returns-in-40
unfolding words
returns-in-40 c = word_is _ 40 c.in-40.is

pub returns-in-42 : goal.returns-in-42
unfolding words
returns-in-42 c = word_is _ 42 c.in-42.is

pub returns-in-44 : goal.returns-in-44
unfolding words
returns-in-44 c = word_is _ 44 c.in-44.is

pub returns-in-45 : goal.returns-in-45
unfolding words
returns-in-45 c = word_is _ 45 c.in-45.is

pub returns-in-46 : goal.returns-in-46
unfolding words
returns-in-46 c = word_is _ 46 c.in-46.is

pub returns-in-47 : goal.returns-in-47
unfolding words
returns-in-47 c = word_is _ 47 c.in-47.is

pub returns-in-51 : goal.returns-in-51
unfolding words
returns-in-51 c = word_is _ 51 c.in-51.is

pub returns-in-52 : goal.returns-in-52
unfolding words
returns-in-52 c = word_is _ 52 c.in-52.is

pub returns-in-53 : goal.returns-in-53
unfolding words
returns-in-53 c = word_is _ 53 c.in-53.is

pub returns-in-54 : goal.returns-in-54
unfolding words
returns-in-54 c = word_is _ 54 c.in-54.is

pub returns-in-55 : goal.returns-in-55
unfolding words
returns-in-55 c = word_is _ 55 c.in-55.is

pub returns-in-56 : goal.returns-in-56
unfolding words
returns-in-56 c = word_is _ 56 c.in-56.is

pub returns-in-57 : goal.returns-in-57
unfolding words
returns-in-57 c = word_is _ 57 c.in-57.is

pub returns-in-58 : goal.returns-in-58
unfolding words
returns-in-58 c = word_is _ 58 c.in-58.is

pub returns-in-60 : goal.returns-in-60
unfolding words
returns-in-60 c = word_is _ 60 c.in-60.is

pub returns-in-63 : goal.returns-in-63
unfolding words
returns-in-63 c = word_is _ 63 c.in-63.is

pub returns-in-66 : goal.returns-in-66
unfolding words
returns-in-66 c = word_is _ 66 c.in-66.is

pub returns-in-69 : goal.returns-in-69
unfolding words
returns-in-69 c = word_is _ 69 c.in-69.is

pub returns-in-72 : goal.returns-in-72
unfolding words
returns-in-72 c = word_is _ 72 c.in-72.is

pub returns-in-76 : goal.returns-in-76
unfolding words
returns-in-76 c = word_is _ 76 c.in-76.is

pub returns-in-77 : goal.returns-in-77
unfolding words
returns-in-77 c = word_is _ 77 c.in-77.is

pub returns-in_default : goal.returns-in_default
returns-in_default c = late_gone _ c.requires.0 c.requires.1 (search rules)
