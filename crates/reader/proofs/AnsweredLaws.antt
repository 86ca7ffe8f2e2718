-- From a block's judgement to the answer of a reading and to the one number of a check: document 01, "Refusal numbers". Assumes nothing.
use Prim.Native.Nat.{ℕ, ◌≤◌, ◌<◌}
use mathlib.Core.Path.{◌≡◌, refl, sym, ap, ◌∙◌, subst}
use mathlib.Core.Bool.{true, false}
use mathlib.Core.List.{List, ◌++◌, map}
use native.Mathlib.Omega.{arith}
use lib.ListN.{length, take, drop, replicate, length-replicate}
use lib.Seq.{take_at, length-take-le}
use lib.Ieee.{Float}
use lib.IntN.{ℤ}
use borrow.Author.Tests.{lt-ltb, le-ltb}
use Rattle.lists.proofs.PartLaws.{filled_nil}
use Rattle.format.specs.Bytes.{Bytes, cut}
use Rattle.format.specs.Coordinates.{position_table}
use Rattle.format.specs.Reading.{Outcome, Accepted, Refused, Rules, strict, read_lines, start, finished, span_of, Unread, reading_of, read_block}
use Rattle.format.specs.Table.{zeros, noughts, encode, Lent, lent, short, overlaid, cleared, ample, ReadResult, read_answer, read_into, read_result}
use Rattle.format.specs.Walking.{packed, packed_result, check_of}
use Rattle.format.proofs.RefusedLaws.{short_untouched, long_read, result_placed, long_both, ample_long}
use Rattle.coordinates.specs.ShownPositions.{fronted}
use Rattle.gather.specs.declared.progress.Progress.{Progress}
use Rattle.judgement.specs.Lines.{rules_of}
use Rattle.judgement.specs.Judging.{Stands, ShowsJudged, Judges}
use Rattle.judgement.specs.declared.rules.Rules.{Rules as Given}
use Rattle.std.specs.declared.result.Result.{Result}
use Rattle.std.specs.declared.result.Result.TheVariants.{Ok, Err}
use Rattle.format.specs.Refusals.{number_of}
use Rattle.format.specs.declared.refusal.Refusal.TheVariants.{ShortTable, LongBlock}
use Rattle.format.specs.declared.refusal.Refused.{Refused as Told}
use Rattle.reader.specs.Answers.{shown_read, CaseTold, Accepts}
use Rattle.reader.proofs.ToldLaws.{refused_told}
use Rattle.reader.proofs.LentLaws.{same_short, long_over, beyond_over, clears}

-- WHAT A JUDGEMENT SHOWS: 103 elements known, over a scratch of zeros
abbrev pub given : Given
given = record { last = 103; totals = true }

module _ (b : Bytes) (s : List ℕ) (w w' : List ℤ) (j : Result Progress Told) (judges : Judges given b (replicate 2973 0) s w w' j) where
  scratch_long : length s ≡ 2973
  scratch_long = judges.long ∙ length-replicate {A = ℕ} 2973 0

  shown : ShowsJudged given b s w' j
  shown = judges.shows (record { low = omega arith; high = omega arith }) (sym (filled_nil 0 2973))

  stands : (p : Progress) → j ≡ Ok p → Stands given b p s w'
  stands p e = subst (ShowsJudged given b s w') e shown

  refuses : (a : Told) → j ≡ Err a → read_lines (rules_of given) start (cut b) ≡ Refused (number_of a.refusal) a.place
  refuses a e = subst (ShowsJudged given b s w') e shown

-- THE BLOCK'S LENGTH
block_long : (u : Rules) (b : Bytes) → 32768 < length b → read_block u b ≡ Unread 2 0
unfolding read_block
block_long u b h = rw (lt-ltb 32768 (length b) h, read_block)

block_lines : (u : Rules) (b : Bytes) → length b ≤ 32768 → read_block u b ≡ reading_of (read_lines u start (cut b))
unfolding read_block
block_lines u b h = rw (le-ltb 32768 (length b) h, read_block)

-- READING
-- what `read` promises of an answer and the tables after it
abbrev pub Reads : Bytes → (before after : Lent) → Result (Unit {0}) Told → Type 0
Reads b l l' r = (shown_read r l' ≡ read_result 103 b l) × CaseTold r

pub read_short : (b : Bytes) (l : Lent) → short l ≡ true → (a : Told) → a ≡ record { refusal = ShortTable; place = 0 } → Reads b l l (Err a)
read_short b l h a q = rw q (sym (short_untouched 103 b l h), λ e. omega arith)

-- what `refuse` promises
abbrev pub Refuses : Told → (before after : Lent) → Result (Unit {0}) Told → Type 0
Refuses a l l' r =
    (r ≡ Err a) × (3856 ≤ length l.table → l'.table ≡ zeros 3856 ++ drop 3856 l.table) × (l'.positions ≡ fronted (noughts 1024) l.positions)

module _ (b : Bytes) (l : Lent) (long : short l ≡ false) where
  long_told : 32768 < length b → read_result 103 b l ≡ read_answer 2 0 (cleared l)
  long_told h = long_read 103 b l long ∙ ap (read_into l) (block_long (strict 103) b h)

  lines_told : length b ≤ 32768 → (o : Outcome) → read_lines (strict 103) start (cut b) ≡ o → read_result 103 b l ≡ read_into l (reading_of o)
  lines_told h o e = long_read 103 b l long ∙ ap (read_into l) (block_lines (strict 103) b h ∙ ap reading_of e)

  as_refused : (a : Told) → 0 < number_of a.refusal → read_result 103 b l ≡ read_answer (number_of a.refusal) a.place (cleared l) → (l' : Lent) (r : Result (Unit {0}) Told) → (r ≡ Err a) × (l' ≡ cleared l) → Reads b l l' r
  as_refused a told e l' r h = rw h.0 (ap (read_answer (number_of a.refusal) a.place) h.1 ∙ sym e, λ z. omega arith)

  abbrev too_long : Told
  too_long = record { refusal = LongBlock; place = 0 }

  pub read_long : (l' : Lent) (r : Result (Unit {0}) Told) → 32768 < length b → (a : Told) → a ≡ too_long → Refuses a l l' r → Reads b l l' r
  read_long l' r h a q g =
      let f : Refuses too_long l l' r = subst (λ (x : Told). Refuses x l l' r) q g in as_refused too_long (omega arith) (long_told h) l' r (f.0, clears l l' long f.1 f.2)

  -- the table with the kept rows in its first 1,024 numbers
  module _ (s : List ℕ) (w : List ℤ) (j : Result Progress Told) (h : length b ≤ 32768) (judges : Judges given b (replicate 2973 0) s (take 1024 l.table) w j) where
    abbrev pub during : Lent
    during = lent (w ++ drop 1024 l.table) l.positions

    room : length w ≡ 1024
    room = judges.stores ∙ length-take-le 1024 l.table (omega (arith, (long_both l long).0))

    pub judged_long : (length s ≡ 2973) × (3856 ≤ length during.table)
    judged_long =
        let q = long_both l long in
        (scratch_long b s (take 1024 l.table) w j judges, omega (arith, long_over l.table w (omega (arith, q.0)) room, q.0))

    during_long : short during ≡ false
    during_long = same_short l during (long_over l.table w (omega (arith, (long_both l long).0)) room) refl long

    during_front : (t : List ℤ) (p : List Float) → overlaid t p during ≡ overlaid t p l
    during_front t p = ap (λ (x : List ℤ). lent (t ++ x) (p ++ drop 1024 l.positions)) (beyond_over l.table w room)

    pub read_accepted : (l' : Lent) (p : Progress) → j ≡ Ok p → Accepts b p s during l' → Reads b l l' (Ok tt)
    read_accepted l' p e f =
        let g = stands b s (take 1024 l.table) w j judges p e in (
          ap (read_answer 0 0) (f 103 g.state during_long h g.bounded g.holding (omega arith) (rw (take_at w (drop 1024 l.table) 1024 room) g.stored)
              ∙ during_front (encode (finished g.state.body) (map span_of g.state.texts)) (position_table g.state.geometry))
              ∙ sym (lines_told h (Accepted g.state) g.is),
          tt,
        )

    pub read_refused : (l' : Lent) (r : Result (Unit {0}) Told) (a : Told) → j ≡ Err a → Refuses a during l' r → Reads b l l' r
    unfolding cleared
    read_refused l' r a e f =
        let q = refuses b s (take 1024 l.table) w j judges a e in
        as_refused a (refused_told (strict 103) start (cut b) (number_of a.refusal) a.place q) (lines_told h (Refused (number_of a.refusal) a.place) q) l' r (f.0, clears during l' during_long f.1 f.2 ∙ during_front (zeros 3856) (noughts 1024))

-- CHECKING: the same, of tables that are long enough
module _ (b : Bytes) where
  pub check_long : (r : ℕ) → 32768 < length b → (a : Told) → a ≡ record { refusal = LongBlock; place = 0 } → r ≡ packed (number_of a.refusal) a.place → r ≡ check_of 103 b
  unfolding check_of
  check_long r h a q e = e ∙ ap (λ (x : Told). packed (number_of x.refusal) x.place) q ∙ sym (ap packed_result (long_told b ample ample_long h))

  module _ (s : List ℕ) (w w' : List ℤ) (j : Result Progress Told) (h : length b ≤ 32768) (judges : Judges given b (replicate 2973 0) s w w' j) where
    lines_packed : (o : Outcome) → read_lines (strict 103) start (cut b) ≡ o → packed_result (read_into ample (reading_of o)) ≡ check_of 103 b
    unfolding check_of
    lines_packed o e = sym (ap packed_result (lines_told b ample ample_long h o e))

    pub check_accepted : (p : Progress) → j ≡ Ok p → 0 ≡ check_of 103 b
    check_accepted p e = let g = stands b s w w' j judges p e in lines_packed (Accepted g.state) g.is

    pub check_refused : (r : ℕ) (a : Told) → j ≡ Err a → r ≡ packed (number_of a.refusal) a.place → r ≡ check_of 103 b
    check_refused r a e f = f ∙ lines_packed (Refused (number_of a.refusal) a.place) (refuses b s w w' j judges a e)

    pub place_within : (a : Told) → j ≡ Err a → a.place ≤ 32768
    place_within a e =
        let q : (read_result 103 b ample).place ≡ a.place = ap (λ (x : ReadResult). x.place) (lines_told b ample ample_long h (Refused (number_of a.refusal) a.place) (refuses b s w w' j judges a e)) in
        omega (arith, result_placed 103 b ample)
