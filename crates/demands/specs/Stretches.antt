-- What demand 3 of document 01 speaks of: stretches of a file that begin and end as a walk needs it, answers moved along, the texts that an answer tells, pieces
-- that cover a file, stray runs as long as they can be, and the walk step by step. Assumes nothing.
use Rattle.std.specs.Prelude.{ℕ, zero, suc, ◌<◌, ◌≡◌, Bool, true, false, ◌&&◌, ◌||◌, List, [], ◌∷◌, ◌++◌, map, drop}
use Rattle.std.specs.declared.option.Option.{Option}
use Rattle.std.specs.declared.option.Option.TheVariants.{None, Some}
use Rattle.lists.specs.Lists.{is_nil, any}
use Rattle.format.specs.Bytes.{Bytes, cut, whole}
use Rattle.format.specs.Labels.{title_line, end_line}
use Rattle.format.specs.Table.{spans_of, text_at}
use Rattle.format.specs.Walking.{block, stray, Piece, pieces, move, Told, StrayRun, BlockRead, Answer, bytes_of, Found, Finished, NotWalked, walk_at}

-- whether there is a last one and it passes the test; it is told one by one, `passed` by whether the one before did
module _ {A : Type 0} (p : A → Bool) where
  unfoldable pub last_from : (passed : Bool) → List A → Bool
  last_from passed [] = passed
  last_from passed (x ∷ xs) = last_from (p x) xs

  abbrev pub last_is : List A → Bool
  last_is xs = last_from false xs

abbrev pub is_block : Piece → Bool
is_block p = elim p.kind [ block ↦ true | stray ↦ false ]

-- "the first empty or ending with a block closed by its END line and line feed"
unfoldable pub closing : Bytes → Bool
closing s = is_nil s || (whole s && (last_is end_line (cut s) && last_is is_block (pieces s)))

-- "the third empty or starting with a TITLE line"
abbrev pub titled_lines : List Bytes → Bool
titled_lines [] = true
titled_lines (l ∷ ls) = title_line l

abbrev pub opening : Bytes → Bool
opening s = titled_lines (cut s)

-- "only the file places moved along"
abbrev pub along : ℕ → List Answer → List Answer
along n l = map (λ a. record { of = move n a.of; told = a.told }) l

abbrev pub moved : ℕ → Option (List Answer) → Option (List Answer)
moved n None = None
moved n (Some l) = Some (along n l)

-- "one after the other"
infixr 20 ◌then◌
abbrev pub ◌then◌ : Option (List Answer) → Option (List Answer) → Option (List Answer)
None then l = None
Some k then None = None
Some k then Some l = Some (k ++ l)

-- "tables and texts included": the texts that an answer tells, and the bytes that stand in the file where its table has them, counted from the block's start
abbrev pub texts_told : Told → List Bytes
texts_told StrayRun = []
texts_told (BlockRead r texts) = texts

abbrev pub texts_from : (start : ℕ) → (file : Bytes) → Told → List Bytes
texts_from start file StrayRun = []
texts_from start file (BlockRead r texts) = map (text_at (drop start file)) (spans_of r.after.table)

-- "every byte belongs to one answer and the lengths add up to the file's": each piece starts where the one before ended, and none is empty
abbrev pub Chain : ℕ → List Piece → ℕ → Type 0
Chain a [] b = a ≡ b
Chain a (p ∷ ps) b = (p.from ≡ a) × (p.from < p.to) × Chain p.to ps b

-- "stray runs, as long as they can be": whether one stray run stands right behind another; whether a TITLE line, with which a block starts, stands in a stray run
abbrev pub is_stray : Piece → Bool
is_stray p = elim p.kind [ block ↦ false | stray ↦ true ]

abbrev pub stray_first : List Piece → Bool
stray_first [] = false
stray_first (p ∷ ps) = is_stray p

unfoldable pub strays_adjoin : List Piece → Bool
strays_adjoin [] = false
strays_adjoin (p ∷ ps) = (is_stray p && stray_first ps) || strays_adjoin ps

abbrev pub title_in_stray : (file : Bytes) → Piece → Bool
title_in_stray file p = is_stray p && any title_line (cut (bytes_of p file))

-- "these from place 0 on": the walk from a place, then from where its answer ended, at most k times
unfoldable pub steps : (k : ℕ) → (file : Bytes) → (place : ℕ) → List Piece
steps zero file place = []
steps (suc k) file place = elim (walk_at file place) [ Found p ↦ p ∷ steps k file p.to | Finished ↦ [] | NotWalked n ↦ [] ]
