-- What a refused reading answers: tables of which one is too short are untouched, and a refusal's place lies in its block, so that it fits beside the number. Document 01,
-- "Refusal numbers". Assumes nothing.
use Prim.Native.Nat.{ℕ, ◌+◌, ◌≤◌, ◌<◌}
use mathlib.Core.Path.{◌≡◌, refl, sym, ap, ◌∙◌, subst}
use mathlib.Core.Logic.{◌⊎◌, inl, inr}
use mathlib.Core.Bool.{Bool, true, false}
use mathlib.Core.List.{List, [], ◌∷◌}
use native.Mathlib.Omega.{arith}
use lib.ListN.{length, length-replicate}
use lib.IntN.{pos}
use lib.Dec.{ltb}
use borrow.Author.Tests.{ltb-true, ltb-false, lt-ltb, le-ltb}
use Rattle.lists.specs.Lists.{concat, is_nil}
use Rattle.lists.proofs.Bools.{or_left, or_right, or_neither, or_parts}
use Rattle.lists.proofs.PartLaws.{concat_length}
use Rattle.format.specs.Bytes.{Bytes, cut}
use Rattle.format.specs.Coordinates.{nought}
use Rattle.format.specs.Reading.{State, Rules, Turn, Go, Stop, Outcome, Accepted, Refused, Unread, over, past, ending, line_step, read_lines, start, reading_of, strict, read_block}
use Rattle.format.specs.Table.{zeros, Lent, noughts, short, ample, ReadResult, read_answer, read_into, read_result}
use Rattle.format.proofs.CutLaws.{concat_cut}
use Rattle.format.proofs.ReadingLaws.{read_go, read_stop, read_end, step_at}

-- a refusal's place is at most z
abbrev Placed : ℕ → Outcome → Type 0
Placed z (Accepted st) = Unit {0}
Placed z (Refused n p) = p ≤ z

farther : (y z : ℕ) (o : Outcome) → y ≤ z → Placed y o → Placed z o
farther y z (Accepted st) h k = tt
farther y z (Refused n p) h k = omega arith

ending_placed : (o e : Bool) (st : State) (n : ℕ) → Placed (st.at + n) (ending o e st)
ending_placed true e st n = tt
ending_placed false true st n = omega arith
ending_placed false false st n = omega arith

module _ (u : Rules) where
  lines_placed : (ls : List Bytes) (st : State) → Placed (st.at + length (concat ls)) (read_lines u st ls)
  lines_placed [] st = subst (Placed (st.at + length (concat {A = ℕ} []))) (sym (read_end u st)) (ending_placed (over st.running) (is_nil st.seen) st (length (concat {A = ℕ} [])))
  lines_placed (l ∷ ls) st = by (line_step u st l) refl (λ (next : State). lines_placed ls (past l next))
    where
      by : (t : Turn) → line_step u st l ≡ t → ((next : State) → Placed ((past l next).at + length (concat ls)) (read_lines u (past l next) ls))
          → Placed (st.at + length (concat (l ∷ ls))) (read_lines u st (l ∷ ls))
      by (Go next) e ih =
          subst (Placed (st.at + length (concat (l ∷ ls)))) (sym (read_go u st next l ls e))
          (farther ((past l next).at + length (concat ls)) (st.at + length (concat (l ∷ ls))) (read_lines u (past l next) ls) (omega (arith, step_at u st l next e, concat_length l ls)) (ih next))
      by (Stop n) e ih = subst (Placed (st.at + length (concat (l ∷ ls)))) (sym (read_stop u st n l ls e)) (omega arith)

  block_placed : (b : Bytes) → length b ≤ 32768 → Placed 32768 (read_lines u start (cut b))
  unfolding start
  block_placed b h =
      let z : 0 + length (concat (cut b)) ≤ 32768 = omega (arith, ap length (concat_cut b)) in
      farther (0 + length (concat (cut b))) 32768 (read_lines u start (cut b)) z (lines_placed (cut b) start)

-- the place of a table's reading: of a refusal that of its block, else 0
told_placed : (t : Lent) (o : Outcome) → Placed 32768 o → (read_into t (reading_of o)).place ≤ 32768
told_placed t (Accepted st) h = omega arith
told_placed t (Refused n p) h = h

-- lent tables: both long enough, one of them too short; and those of `ample` are long enough
module _ (l : Lent) where
  pub both_long : 3856 ≤ length l.table → 1024 ≤ length l.positions → short l ≡ false
  unfolding short
  both_long h k = or_neither _ _ (le-ltb (length l.table) 3856 h) (le-ltb (length l.positions) 1024 k)

  pub either_short : (length l.table < 3856) ⊎ (length l.positions < 1024) → short l ≡ true
  unfolding short
  either_short (inl h) = or_left _ (ltb (length l.positions) 1024) (lt-ltb (length l.table) 3856 h)
  either_short (inr h) = or_right (ltb (length l.table) 3856) _ (lt-ltb (length l.positions) 1024 h)

  pub long_both : short l ≡ false → (3856 ≤ length l.table) × (1024 ≤ length l.positions)
  unfolding short
  long_both e =
      let q : (ltb (length l.table) 3856 ≡ false) × (ltb (length l.positions) 1024 ≡ false) = or_parts _ _ e in
      (ltb-false (length l.table) 3856 q.0, ltb-false (length l.positions) 1024 q.1)

pub ample_long : short ample ≡ false
unfolding ample zeros noughts
ample_long = both_long ample (omega (arith, length-replicate 3856 (pos 0))) (omega (arith, length-replicate 1024 nought))

module _ (k : ℕ) (b : Bytes) (t : Lent) where
  -- "1: table shorter than 3,856; untouched"; and a table that is long enough
  pub short_untouched : short t ≡ true → read_result k b t ≡ read_answer 1 0 t
  unfolding read_result
  short_untouched h = rw (h, read_result)

  pub long_read : short t ≡ false → read_result k b t ≡ read_into t (read_block (strict k) b)
  unfolding read_result
  long_read h = rw (h, read_result)

  block_long : 32768 < length b → read_block (strict k) b ≡ Unread 2 0
  unfolding read_block
  block_long h = rw (lt-ltb 32768 (length b) h, read_block)

  block_lines : length b ≤ 32768 → read_block (strict k) b ≡ reading_of (read_lines (strict k) start (cut b))
  unfolding read_block
  block_lines h = rw (le-ltb 32768 (length b) h, read_block)

  pub result_placed : (read_result k b t).place ≤ 32768
  result_placed = by (short t) (ltb 32768 (length b)) refl refl
    where
      by : (s long : Bool) → short t ≡ s → ltb 32768 (length b) ≡ long → (read_result k b t).place ≤ 32768
      by true long e h = subst (λ (x : ReadResult). x.place ≤ 32768) (sym (short_untouched e)) (omega arith)
      by false true e h =
          subst (λ (x : ReadResult). x.place ≤ 32768) (sym (long_read e ∙ ap (read_into t) (block_long (ltb-true 32768 (length b) h)))) (omega arith)
      by false false e h =
          subst (λ (x : ReadResult). x.place ≤ 32768) (sym (long_read e ∙ ap (read_into t) (block_lines (ltb-false 32768 (length b) h))))
          (told_placed t (read_lines (strict k) start (cut b)) (block_placed (strict k) b (ltb-false 32768 (length b) h)))
