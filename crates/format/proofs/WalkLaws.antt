-- The laws of the walk: document 01, "Walking a transfer file". The walk from a place is that from 0 with the places moved along; then what a loop over the
-- lines cites, one line at a time, up to the first piece. Assumes nothing.
use Prim.Native.Nat.{ℕ, ◌+◌, ◌-◌, ◌≤◌, ◌<◌}
use mathlib.Core.Path.{◌≡◌, refl, sym, ap, ◌∙◌}
use mathlib.Core.Bool.{Bool, true, false}
use mathlib.Core.List.{List, [], ◌∷◌, ◌++◌, map}
use native.Mathlib.Nat.{add-zero, zero-add, add_assoc}
use native.Mathlib.Omega.{arith}
use lib.ListN.{length, take, drop, drop_of_length-le}
use lib.Seq.{length-take-le}
use lib.Dec.{ltb}
use borrow.Author.Tests.{eqb-true, ne_eqb, lt-ltb, le-ltb}
use Rattle.format.specs.Bytes.{Bytes, is_label, cut, line_len}
use Rattle.format.specs.Labels.{Line, Plain, Unparted, Labelled, line_of, has_code, title_line, end_line}
use Rattle.format.specs.Walking.{block, stray, Piece, piece, Mode, outside, in_block, in_stray, close, ended, next, move, run, pieces, Walked, Found, NotWalked, first_of, walked_as, walk_at}
use Rattle.format.proofs.CutLaws.{cut_nil, cut_at, line_len_le}

-- a TITLE line is no END line
codes_apart : (x : Line) → has_code 1 x ≡ true → has_code 13 x ≡ false
codes_apart Plain h = refl
codes_apart Unparted h = refl
codes_apart (Labelled x v) h = ne_eqb 13 x.code (λ e. let q : 1 ≡ x.code = eqb-true 1 x.code h in omega arith)

pub title_no_end : (l : Bytes) → title_line l ≡ true → end_line l ≡ false
unfolding title_line end_line
title_no_end l h = codes_apart (line_of l) h

-- a line that is no label line is neither
module _ (l : Bytes) (e : is_label l ≡ false) where
  pub plain_no_title : title_line l ≡ false
  unfolding title_line line_of
  plain_no_title = rw (e, line_of)

  pub plain_no_end : end_line l ≡ false
  unfolding end_line line_of
  plain_no_end = rw (e, line_of)

-- MOVING
abbrev pub shift : ℕ → List Piece → List Piece
shift n ps = map (move n) ps

abbrev pub move_mode : ℕ → Mode → Mode
move_mode n outside = outside
move_mode n (in_block s) = in_block (n + s)
move_mode n (in_stray s) = in_stray (n + s)

pub close_move : (n : ℕ) (m : Mode) (at : ℕ) → close (move_mode n m) (n + at) ≡ shift n (close m at)
close_move n outside at = refl
close_move n (in_block s) at = refl
close_move n (in_stray s) at = refl

pub ended_move : (t e : Bool) (n : ℕ) (m : Mode) (at to : ℕ) → ended t e (move_mode n m) (n + at) (n + to) ≡ shift n (ended t e m at to)
ended_move true e n m at to = close_move n m at
ended_move false e n outside at to = refl
ended_move false e n (in_stray s) at to = refl
ended_move false true n (in_block s) at to = refl
ended_move false false n (in_block s) at to = refl

pub next_move : (t e : Bool) (n : ℕ) (m : Mode) (at : ℕ) → next t e (move_mode n m) (n + at) ≡ move_mode n (next t e m at)
next_move true e n m at = refl
next_move false e n outside at = refl
next_move false e n (in_stray s) at = refl
next_move false true n (in_block s) at = refl
next_move false false n (in_block s) at = refl

pub shift_append : (n : ℕ) (ps qs : List Piece) → shift n (ps ++ qs) ≡ shift n ps ++ shift n qs
shift_append n [] qs = refl
shift_append n (p ∷ ps) qs = ap (λ (r : List Piece). move n p ∷ r) (shift_append n ps qs)

pub shift_shift : (n k : ℕ) (ps : List Piece) → shift n (shift k ps) ≡ shift (n + k) ps
shift_shift n k [] = refl
shift_shift n k (p ∷ ps) = rw (shift_shift n k ps, add_assoc n k p.from, add_assoc n k p.to)

pub shift_zero : (ps : List Piece) → shift 0 ps ≡ ps
shift_zero [] = refl
shift_zero (p ∷ ps) = rw (shift_zero ps, zero-add p.from, zero-add p.to)

pub run_shift : (n : ℕ) (m : Mode) (at : ℕ) (ls : List Bytes) → run (move_mode n m) (n + at) ls ≡ shift n (run m at ls)
unfolding run
run_shift n m at [] = close_move n m at
run_shift n m at (l ∷ ls) =
    let t : Bool = title_line l in
    let e : Bool = end_line l in
    let q : n + at + length l ≡ n + (at + length l) = omega arith in
    rw (q, ended_move t e n m at (at + length l), next_move t e n m at, run_shift n (next t e m at) (at + length l) ls)
    (sym (shift_append n (ended t e m at (at + length l)) _))

pub run_cons : (m : Mode) (at : ℕ) (l : Bytes) (ls : List Bytes)
    → run m at (l ∷ ls) ≡ ended (title_line l) (end_line l) m at (at + length l) ++ run (next (title_line l) (end_line l) m at) (at + length l) ls
unfolding run
run_cons m at l ls = refl

-- from a place on as from 0
pub at_place : (at : ℕ) (s : Bytes) → run outside at (cut s) ≡ shift at (pieces s)
unfolding pieces
at_place at s = ap (λ (n : ℕ). run outside n (cut s)) (sym (add-zero at)) ∙ run_shift at outside 0 (cut s)

-- LINE BY LINE
module _ (s : Bytes) where
  -- the first piece from a place on, in a mode
  abbrev pub ahead : Mode → ℕ → Walked
  ahead m at = first_of (run m at (cut (drop at s)))

  pub walk_ahead : (place : ℕ) → walk_at s place ≡ walked_as (ltb 16777216 (length s)) (ltb (length s) place) (ahead outside place)
  unfolding walk_at
  walk_ahead place = ap (λ (ps : List Piece). walked_as (ltb 16777216 (length s)) (ltb (length s) place) (first_of ps)) (sym (at_place place (drop place s)))

  -- "Over 16,777,216 bytes: refusal 31." "31 comes first."
  pub walk_long : (place : ℕ) → 16777216 < length s → walk_at s place ≡ NotWalked 31
  walk_long place h = walk_ahead place ∙ rw (lt-ltb 16777216 (length s) h)

  -- "Place beyond the end: 32."
  pub walk_beyond : (place : ℕ) → length s ≤ 16777216 → length s < place → walk_at s place ≡ NotWalked 32
  walk_beyond place h k = walk_ahead place ∙ rw (le-ltb 16777216 (length s) h, lt-ltb (length s) place k)

  pub walk_on : (place : ℕ) → length s ≤ 16777216 → place ≤ length s → walk_at s place ≡ ahead outside place
  walk_on place h k = walk_ahead place ∙ rw (le-ltb 16777216 (length s) h, le-ltb (length s) place k)

  pub run_none : (m : Mode) (at : ℕ) → run m at [] ≡ close m at
  unfolding run
  run_none m at = refl

  pub ahead_end : (m : Mode) (at : ℕ) → length s ≤ at → ahead m at ≡ first_of (close m at)
  ahead_end m at h = ap (λ (l : Bytes). first_of (run m at (cut l))) (drop_of_length-le s h) ∙ ap (λ (l : List Bytes). first_of (run m at l)) cut_nil ∙ ap first_of (run_none m at)

  -- the line from `at` to `e`
  module _ (at e : ℕ) (h : at < length s) (q : e ≡ at + line_len (drop at s)) where
    abbrev pub line : Bytes
    line = take (e - at) (drop at s)

    pub line_is : take (line_len (drop at s)) (drop at s) ≡ line
    line_is = let n : line_len (drop at s) ≡ e - at = omega arith in ap (λ (k : ℕ). take k (drop at s)) n

    pub line_to : at + length line ≡ e
    line_to = omega (arith, ap length (sym line_is), length-take-le (line_len (drop at s)) (drop at s) (line_len_le (drop at s)))

    pub run_line : (m : Mode) → run m at (cut (drop at s)) ≡ ended (title_line line) (end_line line) m at e ++ run (next (title_line line) (end_line line) m at) e (cut (drop e s))
    run_line m =
        ap (run m at) (cut_at s at h ∙ ap (λ (l : Bytes). l ∷ cut (drop (at + line_len (drop at s)) s)) line_is ∙ ap (λ (n : ℕ). line ∷ cut (drop n s)) (sym q))
        ∙ run_cons m at line (cut (drop e s))
        ∙ ap (λ (n : ℕ). ended (title_line line) (end_line line) m at n ++ run (next (title_line line) (end_line line) m at) n (cut (drop e s))) line_to

    pub first_title : title_line line ≡ true → ahead outside at ≡ ahead (in_block at) e
    first_title t = ap first_of (run_line outside) ∙ rw t

    pub first_other : title_line line ≡ false → ahead outside at ≡ ahead (in_stray at) e
    first_other t = ap first_of (run_line outside) ∙ rw t

    module _ (place : ℕ) where
      pub block_title : title_line line ≡ true → ahead (in_block place) at ≡ Found (piece block place at)
      block_title t = ap first_of (run_line (in_block place)) ∙ rw t

      pub block_end : title_line line ≡ false → end_line line ≡ true → ahead (in_block place) at ≡ Found (piece block place e)
      block_end t u = ap first_of (run_line (in_block place)) ∙ rw (t, u)

      pub block_on : title_line line ≡ false → end_line line ≡ false → ahead (in_block place) at ≡ ahead (in_block place) e
      block_on t u = ap first_of (run_line (in_block place)) ∙ rw (t, u)

      pub stray_title : title_line line ≡ true → ahead (in_stray place) at ≡ Found (piece stray place at)
      stray_title t = ap first_of (run_line (in_stray place)) ∙ rw t

      pub stray_on : title_line line ≡ false → ahead (in_stray place) at ≡ ahead (in_stray place) e
      stray_on t = ap first_of (run_line (in_stray place)) ∙ rw t
