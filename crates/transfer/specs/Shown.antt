-- What the walk's answer says: document 01, "Walking a transfer file". Assumes nothing.
use Rattle.std.specs.Prelude.{Option, Some, None, Result, Ok, Err}
use Rattle.format.specs.declared.refusal.Refusal.{Refusal}
use Rattle.format.specs.Refusals.{number_of}
use Rattle.format.specs.Walking.{Kind, block, stray, a_piece, the_end, a_refusal, WalkResult, walk_answer}
use Rattle.transfer.specs.declared.walks.PieceKind.{PieceKind}
use Rattle.transfer.specs.declared.walks.PieceKind.TheVariants as K
use Rattle.transfer.specs.declared.walks.Piece.{Piece}

abbrev pub kind_of : PieceKind → Kind
kind_of K.Block = block
kind_of K.Stray = stray

unfoldable pub shown : Result (Option Piece) Refusal → WalkResult
shown (Ok (Some p)) = walk_answer (a_piece (kind_of p.kind)) 0 p.from p.to
shown (Ok None) = walk_answer the_end 0 0 0
shown (Err e) = walk_answer a_refusal (number_of e) 0 0
