-- `elements::places::early_word` meets its contract. Assumes nothing.
use borrow.Author.Rules.{rules}
use Rattle.elements.specs.Words.{words}
use Rattle.elements.proofs.PlaceTable.{word_is, early_gone}
use Rattle.elements.proofs.places.early_word.Goals as goal

pub returns-in-0 : goal.returns-in-0
unfolding words
returns-in-0 c = word_is _ 0 c.in-0.is

pub returns-in-1 : goal.returns-in-1
unfolding words
returns-in-1 c = word_is _ 1 c.in-1.is

pub returns-in-2 : goal.returns-in-2
unfolding words
returns-in-2 c = word_is _ 2 c.in-2.is

pub returns-in-3 : goal.returns-in-3
unfolding words
returns-in-3 c = word_is _ 3 c.in-3.is

pub returns-in-4 : goal.returns-in-4
unfolding words
returns-in-4 c = word_is _ 4 c.in-4.is

pub returns-in-5 : goal.returns-in-5
unfolding words
returns-in-5 c = word_is _ 5 c.in-5.is

pub returns-in-6 : goal.returns-in-6
unfolding words
returns-in-6 c = word_is _ 6 c.in-6.is

pub returns-in-7 : goal.returns-in-7
unfolding words
returns-in-7 c = word_is _ 7 c.in-7.is

pub returns-in-8 : goal.returns-in-8
unfolding words
returns-in-8 c = word_is _ 8 c.in-8.is

pub returns-in-11 : goal.returns-in-11
unfolding words
returns-in-11 c = word_is _ 11 c.in-11.is

pub returns-in-14 : goal.returns-in-14
unfolding words
returns-in-14 c = word_is _ 14 c.in-14.is

pub returns-in-15 : goal.returns-in-15
unfolding words
returns-in-15 c = word_is _ 15 c.in-15.is

pub returns-in-16 : goal.returns-in-16
unfolding words
returns-in-16 c = word_is _ 16 c.in-16.is

pub returns-in-17 : goal.returns-in-17
unfolding words
returns-in-17 c = word_is _ 17 c.in-17.is

pub returns-in-18 : goal.returns-in-18
unfolding words
returns-in-18 c = word_is _ 18 c.in-18.is

pub returns-in-21 : goal.returns-in-21
unfolding words
returns-in-21 c = word_is _ 21 c.in-21.is

pub returns-in-22 : goal.returns-in-22
unfolding words
returns-in-22 c = word_is _ 22 c.in-22.is

pub returns-in-24 : goal.returns-in-24
unfolding words
returns-in-24 c = word_is _ 24 c.in-24.is

pub returns-in-25 : goal.returns-in-25
unfolding words
returns-in-25 c = word_is _ 25 c.in-25.is

pub returns-in-26 : goal.returns-in-26
unfolding words
returns-in-26 c = word_is _ 26 c.in-26.is

pub returns-in-30 : goal.returns-in-30
unfolding words
returns-in-30 c = word_is _ 30 c.in-30.is

pub returns-in-32 : goal.returns-in-32
unfolding words
returns-in-32 c = word_is _ 32 c.in-32.is

pub returns-in_default : goal.returns-in_default
returns-in_default c = early_gone _ c.requires (search rules)
