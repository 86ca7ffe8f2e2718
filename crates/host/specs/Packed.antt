-- What the numbers of the C door say: document 01, "The C host calls a check of one block". Two numbers stand in one of 64 bits, the first times 2^32.
-- Assumes nothing.
use Rattle.std.specs.Prelude.{ℕ, true, false, length, ltb}
use Rattle.format.specs.Bytes.{Bytes, cut}
use Rattle.format.specs.Reading.{Span, span_from}
use Rattle.format.specs.Walking.{block, stray, Piece, Walked, Found, Finished, NotWalked, title_of, packed}
use Rattle.format.specs.Writing.{WriteResult}
use Rattle.transfer.specs.declared.walks.PieceKind.{PieceKind}
use Rattle.transfer.specs.declared.walks.PieceKind.TheVariants as K
use Rattle.transfer.specs.Texts.{title_start}

-- one piece of a transfer file: 1 a block, 2 a stray run, with where it ends; 0 finished, else the refusal's number, with 0
abbrev pub packed_piece : Piece → ℕ
packed_piece p = elim p.kind [ block ↦ packed 1 p.to | stray ↦ packed 2 p.to ]

abbrev pub packed_walk : Walked → ℕ
packed_walk (Found p) = packed_piece p
packed_walk Finished = 0
packed_walk (NotWalked n) = packed n 0

-- the number of a piece's kind
abbrev pub kind_number : PieceKind → ℕ
kind_number K.Block = 1
kind_number K.Stray = 2

-- where the title stands in its block, and its length; 0 where it is empty or the first line is no TITLE line, and where the block has 2^32 bytes or more
abbrev pub packed_span : Span → ℕ
packed_span x = packed x.place x.size

unfoldable pub packed_title : Bytes → ℕ
packed_title b = elim (ltb (length b) 4294967296) [ true ↦ packed_span (span_from (title_start (cut b)) (title_of (cut b))) | false ↦ 0 ]

-- a writing: the refusal's number with 0, or 0 with the count
abbrev pub packed_written : WriteResult → ℕ
packed_written r = packed r.number r.count
