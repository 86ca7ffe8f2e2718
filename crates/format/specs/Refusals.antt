-- The number of each refusal: document 01, "Refusal numbers"; document 02, L2 (41, 42). 0 is no refusal of a block: it tells of what no reading lends. Assumes nothing.
use Rattle.std.specs.Prelude.{ℕ}
use Rattle.format.specs.declared.refusal.Refusal.{Refusal}
use Rattle.format.specs.declared.refusal.Refusal.TheVariants.{Unlent, ShortTable, LongBlock, ForbiddenByte, NoTitle, NoEquals, LabelOrder, Version, Missing, Shape, Range, AtomNumber, Symbol, Clash, Full, Totals, NoEnd, BehindEnd, Unsound, ShortBuffer, LongForm, LongFile, BeyondFile, PartGeometry, AboveGreatest}

abbrev pub number_of : Refusal → ℕ
number_of Unlent = 0
number_of ShortTable = 1
number_of LongBlock = 2
number_of ForbiddenByte = 3
number_of NoTitle = 4
number_of NoEquals = 5
number_of LabelOrder = 6
number_of Version = 7
number_of Missing = 8
number_of Shape = 9
number_of Range = 10
number_of AtomNumber = 11
number_of Symbol = 12
number_of Clash = 13
number_of Full = 14
number_of Totals = 15
number_of NoEnd = 16
number_of BehindEnd = 17
number_of Unsound = 21
number_of ShortBuffer = 22
number_of LongForm = 23
number_of LongFile = 31
number_of BeyondFile = 32
number_of PartGeometry = 41
number_of AboveGreatest = 42
