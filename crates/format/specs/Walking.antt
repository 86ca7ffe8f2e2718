-- Walking a transfer file, the name to show, the check: document 01, "Walking a transfer file". Assumes nothing.
use Rattle.std.specs.Prelude.{ℕ, ◌+◌, ◌-◌, ◌*◌, Bool, true, false, List, [], ◌∷◌, ◌++◌, map, length, take, drop, ltb}
use Rattle.std.specs.declared.option.Option.{Option}
use Rattle.std.specs.declared.option.Option.TheVariants.{None, Some}
use Rattle.format.specs.Bytes.{Bytes, cut, trim, is_label}
use Rattle.format.specs.Labels.{Line, Plain, Unparted, Labelled, line_of, title_line, end_line}
use Rattle.format.specs.Table.{spans_of, text_at, ReadResult, read_result, ample}

pub data Kind : Type 0 where
  block stray : Kind

pub record Piece : Type 0 where
  pub kind : Kind
  pub from : ℕ
  pub to : ℕ

abbrev pub piece : Kind → (from to : ℕ) → Piece
piece k a b = record { kind = k; from = a; to = b }

-- Outside a piece, or in one that started at a place
pub data Mode : Type 0 where
  outside : Mode
  in_block : ℕ → Mode
  in_stray : ℕ → Mode

-- what is open ends at a place
abbrev pub close : Mode → ℕ → List Piece
close outside at = []
close (in_block s) at = piece block s at ∷ []
close (in_stray s) at = piece stray s at ∷ []

-- The piece that a line ends, the line from `at` to `to`, by whether it is a TITLE line and whether it is an END line: "Outside a block, a block starts at a
-- TITLE line. It ends after its first END line, or before the next TITLE line, or with the file. All other stretches, blank ones too, are stray runs, as long
-- as they can be."
abbrev pub ended : (title end : Bool) → Mode → (at to : ℕ) → List Piece
ended true e m at to = close m at
ended false e outside at to = []
ended false e (in_stray s) at to = []
ended false true (in_block s) at to = piece block s to ∷ []
ended false false (in_block s) at to = []

-- and the mode behind it
abbrev pub next : (title end : Bool) → Mode → (at : ℕ) → Mode
next true e m at = in_block at
next false e outside at = in_stray at
next false e (in_stray s) at = in_stray s
next false true (in_block s) at = outside
next false false (in_block s) at = in_block s

unfoldable pub run : Mode → (at : ℕ) → List Bytes → List Piece
run m at [] = close m at
run m at (l ∷ ls) = ended (title_line l) (end_line l) m at (at + length l) ++ run (next (title_line l) (end_line l) m at) (at + length l) ls

unfoldable pub pieces : Bytes → List Piece
pieces s = run outside 0 (cut s)

abbrev pub move : ℕ → Piece → Piece
move n p = piece p.kind (n + p.from) (n + p.to)

-- "The walk takes a file and a place, and treats the bytes from the place as a file, counting its answers in the whole one. Over 16,777,216 bytes: refusal 31.
-- Place beyond the end: 32. At the end: finished." "31 comes first."
pub data Walked : Type 0 where
  Found : Piece → Walked
  Finished : Walked
  NotWalked : ℕ → Walked

abbrev pub first_of : List Piece → Walked
first_of [] = Finished
first_of (p ∷ ps) = Found p

abbrev pub walked_as : (long beyond : Bool) → Walked → Walked
walked_as true beyond w = NotWalked 31
walked_as false true w = NotWalked 32
walked_as false false w = w

unfoldable pub walk_at : (file : Bytes) → (place : ℕ) → Walked
walk_at file place = walked_as (ltb 16777216 (length file)) (ltb (length file) place) (first_of (map (move place) (pieces (drop place file))))

-- What an answer of the walk is, its number, its start and its end: "Finished and these refusals give start and end 0". A piece and the end have number 0.
pub data What : Type 0 where
  a_piece : Kind → What
  the_end a_refusal : What

pub record WalkResult : Type 0 where
  pub what : What
  pub number : ℕ
  pub start : ℕ
  pub end : ℕ

abbrev pub walk_answer : What → (number start end : ℕ) → WalkResult
walk_answer w n a b = record { what = w; number = n; start = a; end = b }

abbrev pub walk_result : Walked → WalkResult
walk_result (Found p) = walk_answer (a_piece p.kind) 0 p.from p.to
walk_result Finished = walk_answer the_end 0 0 0
walk_result (NotWalked n) = walk_answer a_refusal n 0 0

-- "The answers for a file are these from place 0 on, each block with its reading into a long enough table.", and with the bytes of its texts
pub data Told : Type 0 where
  StrayRun : Told
  BlockRead : ReadResult → (texts : List Bytes) → Told

pub record Answer : Type 0 where
  pub of : Piece
  pub told : Told

abbrev pub bytes_of : Piece → Bytes → Bytes
bytes_of p file = take (p.to - p.from) (drop p.from file)

-- the texts that the table names in the block; a refused block's table is zeroed, so that its three are empty
abbrev pub with_texts : Bytes → ReadResult → Told
with_texts b r = BlockRead r (map (text_at b) (spans_of r.after.table))

abbrev pub told_of : (k : ℕ) → Kind → Bytes → Told
told_of k block b = with_texts b (read_result k b ample)
told_of k stray b = StrayRun

unfoldable pub answered : (k : ℕ) → (file : Bytes) → List Piece → List Answer
answered k file ps = map (λ p. record { of = p; told = told_of k p.kind (bytes_of p file) }) ps

-- none: the file is too long, and 31 is its one answer
unfoldable pub answers : (k : ℕ) → (file : Bytes) → Option (List Answer)
answers k file = elim (ltb 16777216 (length file)) [ true ↦ None | false ↦ Some (answered k file (pieces file)) ]

-- "The name to show is a part of the block, its title, or the caller's stand-in bytes where the title is empty or the first line is no TITLE line."
unfoldable pub until_label : List Bytes → Bytes
until_label [] = []
until_label (l ∷ ls) = elim (is_label l) [ true ↦ [] | false ↦ l ++ until_label ls ]

abbrev pub value_of : Line → Bytes
value_of Plain = []
value_of Unparted = []
value_of (Labelled x v) = v

abbrev pub title_by : (title : Bool) → Bytes → List Bytes → Bytes
title_by true l ls = trim (value_of (line_of l) ++ until_label ls)
title_by false l ls = []

abbrev pub title_of : List Bytes → Bytes
title_of [] = []
title_of (l ∷ ls) = title_by (title_line l) l ls

abbrev pub or_else : Bytes → Bytes → Bytes
or_else [] standIn = standIn
or_else (b ∷ s) standIn = b ∷ s

unfoldable pub name_of : (block standIn : Bytes) → Bytes
name_of b standIn = or_else (title_of (cut b)) standIn

-- "one unsigned 64-bit number: refusal number times 2^32, plus the place; it judges as with a long enough table"
abbrev pub packed : (number place : ℕ) → ℕ
packed n p = n * 4294967296 + p

abbrev pub packed_result : ReadResult → ℕ
packed_result r = packed r.number r.place

unfoldable pub check_of : (k : ℕ) → Bytes → ℕ
check_of k b = packed_result (read_result k b ample)
