-- Demand 3 of document 01, proved: the answers for a file of three stretches are those for each stretch, one after the other; the pieces cover the file, none
-- is empty; the walk step by step gives the pieces. Restated in Demands.antt. Assumes nothing.
use Prim.Native.Nat.{ℕ, zero, suc, ◌+◌, ◌-◌, ◌≤◌, ◌<◌}
use mathlib.Core.Path.{◌≡◌, refl, sym, ap, ◌∙◌}
use mathlib.Core.Bool.{Bool, true, false, ◌&&◌}
use Rattle.std.specs.declared.option.Option.TheVariants.{Some}
use mathlib.Core.List.{List, [], ◌∷◌, ◌++◌, append_assoc, append-nil}
use native.Mathlib.Nat.{zero-add}
use native.Mathlib.Omega.{arith}
use lib.ListN.{length, take, drop, length-append, length-drop}
use lib.Seq.{drop-drop}
use borrow.Author.Tests.{le-ltb}
use Rattle.lists.specs.Lists.{any, concat}
use Rattle.lists.proofs.Bools.{torn, and_parts}
use Rattle.lists.proofs.PartLaws.{concat_length, slice_before, slice_behind}
use Rattle.format.specs.Bytes.{Bytes, bytes, cut, whole, whole_from}
use Rattle.format.specs.Labels.{title_line, end_line}
use Rattle.format.specs.Reading.{strict, Reading, Read, Unread, read_block}
use Rattle.format.specs.Table.{Lent, short, ReadResult, read_answer, read_into, read_result}
use Rattle.format.specs.Walking.{block, stray, Piece, piece, Mode, outside, in_block, in_stray, close, ended, next, run, pieces, move, Found, Finished, first_of, walk_at, Answer, bytes_of, told_of, answered, answers}
use Rattle.format.proofs.Computing.{computing}
use Rattle.format.proofs.AcceptedLaws.{read_has_end, block_refuses}
use Rattle.format.proofs.CutLaws.{concat_cut, cut_append, cut_rest, cut_nil, Solid, cut_solid}
use Rattle.format.proofs.WalkLaws.{shift, shift_shift, shift_zero, at_place, walk_on, title_no_end}
use Rattle.demands.specs.Examples.{neon, wrong_neon}
use Rattle.demands.specs.Stretches.{last_from, last_is, is_block, closing, titled_lines, opening, along, moved, ◌then◌, Chain, steps}

-- how many bytes lines have
abbrev pub total : List Bytes → ℕ
total ls = length (concat ls)

total_cons : (at : ℕ) (l : Bytes) (ls : List Bytes) → at + length l + total ls ≡ at + total (l ∷ ls)
total_cons at l ls = omega (arith, concat_length l ls)

total_nil : total [] ≡ 0
unfolding concat
total_nil = refl

-- the mode in which the walk leaves the lines
unfoldable pub after : Mode → (at : ℕ) → List Bytes → Mode
after m at [] = m
after m at (l ∷ ls) = after (next (title_line l) (end_line l) m at) (at + length l) ls

-- nothing is open at the end, and the last line has its line feed
pub record Closed (s : Bytes) : Type 0 where
  pub ends : whole s ≡ true
  pub out : after outside 0 (cut s) ≡ outside

-- two lists of lines, where the first leaves nothing open, or the second is empty or starts with a TITLE line
join : (m : Mode) (at : ℕ) (ls ms : List Bytes)
    → run (after m at ls) (at + total ls) ms ≡ close (after m at ls) (at + total ls) ++ run outside (at + total ls) ms
    → run m at (ls ++ ms) ≡ run m at ls ++ run outside (at + total ls) ms
unfolding run after
join m at [] ms h =
    let q : at + total [] ≡ at = omega (arith, total_nil) in
    rw q (rw q at h)
join m at (l ∷ ls) ms h =
    let t : Bool = title_line l in
    let e : Bool = end_line l in
    let q : at + total (l ∷ ls) ≡ at + length l + total ls = sym (total_cons at l ls) in
    rw (q, join (next t e m at) (at + length l) ls ms (rw q at h)) (sym (append_assoc (ended t e m at (at + length l)) _ _))

fresh_out : (m : Mode) (at : ℕ) (ms : List Bytes) → m ≡ outside → run m at ms ≡ close m at ++ run outside at ms
fresh_out m at ms e = rw e

fresh_title : (m : Mode) (at : ℕ) (ms : List Bytes) → titled_lines ms ≡ true → run m at ms ≡ close m at ++ run outside at ms
unfolding run
fresh_title m at [] e = sym (append-nil (close m at))
fresh_title m at (l ∷ ls) e = rw e

pub join_closed : (at : ℕ) (ls ms : List Bytes) → after outside at ls ≡ outside → run outside at (ls ++ ms) ≡ run outside at ls ++ run outside (at + total ls) ms
join_closed at ls ms e = join outside at ls ms (fresh_out _ _ ms e)

pub join_titled : (m : Mode) (at : ℕ) (ls ms : List Bytes) → titled_lines ms ≡ true → run m at (ls ++ ms) ≡ run m at ls ++ run outside (at + total ls) ms
join_titled m at ls ms e = join m at ls ms (fresh_title _ _ ms e)

-- THREE STRETCHES
module _ (a b c : Bytes) (A : Closed a) (B : whole b ≡ true) (C : titled_lines (cut c) ≡ true) where
  pub three_pieces : pieces (a ++ (b ++ c))
      ≡ pieces a ++ (shift (length a) (pieces b) ++ shift (length a + length b) (pieces c))
  unfolding pieces
  three_pieces =
      ap (run outside 0) (cut_append a (b ++ c) A.ends ∙ ap (λ (r : List Bytes). cut a ++ r) (cut_append b c B))
      ∙ join_closed 0 (cut a) (cut b ++ cut c) A.out
      ∙ ap (λ (r : List Piece). pieces a ++ r)
      (ap (λ (n : ℕ). run outside n (cut b ++ cut c)) (zero-add (total (cut a)) ∙ ap length (concat_cut a))
      ∙ join_titled outside (length a) (cut b) (cut c) C
      ∙ ap (λ (n : ℕ). run outside (length a) (cut b) ++ run outside (length a + n) (cut c)) (ap length (concat_cut b))
      ∙ ap (λ (r : List Piece). r ++ run outside (length a + length b) (cut c)) (at_place (length a) b)
      ∙ ap (λ (r : List Piece). shift (length a) (pieces b) ++ r) (at_place (length a + length b) c))

-- THE CHAIN: each piece starts where the one before ended, and none is empty
abbrev start_of : Mode → ℕ → ℕ
start_of outside at = at
start_of (in_block s) at = s
start_of (in_stray s) at = s

abbrev Behind : Mode → ℕ → Type 0
Behind outside at = Unit {0}
Behind (in_block s) at = s < at
Behind (in_stray s) at = s < at

chain_close : (m : Mode) (at : ℕ) → Behind m at → (qs : List Piece) (z : ℕ) → Chain at qs z → Chain (start_of m at) (close m at ++ qs) z
chain_close outside at h qs z c = c
chain_close (in_block s) at h qs z c = (refl, h, c)
chain_close (in_stray s) at h qs z c = (refl, h, c)

chain_ended : (t e : Bool) (m : Mode) (at to : ℕ) → at < to → Behind m at → (qs : List Piece) (z : ℕ)
    → Chain (start_of (next t e m at) to) qs z → Chain (start_of m at) (ended t e m at to ++ qs) z
chain_ended true e m at to k h qs z c = chain_close m at h qs z c
chain_ended false e outside at to k h qs z c = c
chain_ended false e (in_stray s) at to k h qs z c = c
chain_ended false true (in_block s) at to k h qs z c = (refl, omega arith, c)
chain_ended false false (in_block s) at to k h qs z c = c

behind_next : (t e : Bool) (m : Mode) (at to : ℕ) → at < to → Behind m at → Behind (next t e m at) to
behind_next true e m at to k h = k
behind_next false e outside at to k h = k
behind_next false e (in_stray s) at to k h = omega arith
behind_next false true (in_block s) at to k h = tt
behind_next false false (in_block s) at to k h = omega arith

pub chain_le : (a : ℕ) (ps : List Piece) (b : ℕ) → Chain a ps b → a ≤ b
chain_le a [] b c = omega arith
chain_le a (p ∷ ps) b c = omega (arith, chain_le p.to ps b c.2)

chain_run : (m : Mode) (at : ℕ) (ls : List Bytes) → Solid ls → Behind m at → Chain (start_of m at) (run m at ls) (at + total ls)
unfolding run
chain_run m at [] s h =
    let q : at ≡ at + total [] = omega (arith, total_nil) in
    rw (append-nil (close m at)) at (chain_close m at h [] (at + total []) q)
chain_run m at (l ∷ ls) s h =
    let t : Bool = title_line l in
    let e : Bool = end_line l in
    let k : at < at + length l = omega (arith, s.0) in
    chain_ended t e m at (at + length l) k h _ _
    (rw (total_cons at l ls) at (chain_run (next t e m at) (at + length l) ls s.1 (behind_next t e m at (at + length l) k h)))

pub chained : (s : Bytes) → Chain 0 (pieces s) (length s)
unfolding pieces
chained s =
    let q : 0 + total (cut s) ≡ length s = zero-add (total (cut s)) ∙ ap length (concat_cut s) in
    rw q at (chain_run outside 0 (cut s) (cut_solid s) tt)

-- THE REST: after its first piece a walk goes on as from outside
record Split (m : Mode) (at : ℕ) (ls : List Bytes) (p : Piece) (ps : List Piece) : Type 0 where
  front : List Bytes
  rest : List Bytes
  lines : ls ≡ front ++ rest
  place : p.to ≡ at + total front
  goes : ps ≡ run outside p.to rest

split_nil : (m : Mode) (at : ℕ) (p : Piece) (ps : List Piece) → close m at ≡ p ∷ ps → Split m at [] p ps
unfolding run
split_nil outside at p ps h = let z : ◌≡◌ {A = ℕ} 0 1 = cc in absurd (omega arith)
split_nil (in_block s) at p ps h =
    let q : piece block s at ≡ p = cc in
    record { front = []; rest = []; lines = refl; place = ap (λ (r : Piece). r.to) (sym q) ∙ omega (arith, total_nil); goes = cc }
split_nil (in_stray s) at p ps h =
    let q : piece stray s at ≡ p = cc in
    record { front = []; rest = []; lines = refl; place = ap (λ (r : Piece). r.to) (sym q) ∙ omega (arith, total_nil); goes = cc }

split : (m : Mode) (at : ℕ) (ls : List Bytes) (p : Piece) (ps : List Piece) → run m at ls ≡ p ∷ ps → Split m at ls p ps
unfolding run
split m at [] p ps h = split_nil m at p ps h
split m at (l ∷ ls) p ps h = go (title_line l) (end_line l) refl refl m h (λ (m : Mode) h. split m (at + length l) ls p ps h)
  where
    on : (m : Mode) → Split m (at + length l) ls p ps → (m₀ : Mode) → Split m₀ at (l ∷ ls) p ps
    on m x m₀ = record { front = l ∷ x.front; rest = x.rest; lines = ap (λ (r : List Bytes). l ∷ r) x.lines; place = x.place ∙ total_cons at l x.front; goes = x.goes }

    here : (m : Mode) (x : Piece) → title_line l ≡ true → x.to ≡ at → x ∷ run (in_block at) (at + length l) ls ≡ p ∷ ps → Split m at (l ∷ ls) p ps
    here m x f k h =
        let q : x ≡ p = cc in
        let g : run (in_block at) (at + length l) ls ≡ ps = cc in
        let r : p.to ≡ at = ap (λ (y : Piece). y.to) (sym q) ∙ k in
        record { front = []; rest = l ∷ ls; lines = refl; place = r ∙ omega (arith, total_nil); goes = rw (r, f) (sym g) }

    past : (m : Mode) (x : Piece) → x.to ≡ at + length l → x ∷ run outside (at + length l) ls ≡ p ∷ ps → Split m at (l ∷ ls) p ps
    past m x k h =
        let q : x ≡ p = cc in
        let g : run outside (at + length l) ls ≡ ps = cc in
        let r : p.to ≡ at + length l = ap (λ (y : Piece). y.to) (sym q) ∙ k in
        record { front = l ∷ []; rest = ls; lines = refl; place = r ∙ omega (arith, total_cons at l [], total_nil); goes = rw r (sym g) }

    go : (t e : Bool) → title_line l ≡ t → end_line l ≡ e → (m : Mode) → ended t e m at (at + length l) ++ run (next t e m at) (at + length l) ls ≡ p ∷ ps
        → ((m : Mode) → run m (at + length l) ls ≡ p ∷ ps → Split m (at + length l) ls p ps) → Split m at (l ∷ ls) p ps
    go true e f g outside h ih = on _ (ih (in_block at) h) outside
    go true e f g (in_block s) h ih = here (in_block s) (piece block s at) f refl h
    go true e f g (in_stray s) h ih = here (in_stray s) (piece stray s at) f refl h
    go false e f g outside h ih = on _ (ih (in_stray at) h) outside
    go false e f g (in_stray s) h ih = on _ (ih (in_stray s) h) (in_stray s)
    go false true f g (in_block s) h ih = past (in_block s) (piece block s (at + length l)) refl h
    go false false f g (in_block s) h ih = on _ (ih (in_block s) h) (in_block s)

pub rest_pieces : (s : Bytes) (p : Piece) (ps : List Piece) → pieces s ≡ p ∷ ps → ps ≡ shift p.to (pieces (drop p.to s))
unfolding pieces
rest_pieces s p ps h =
    let x : Split outside 0 (cut s) p ps = split outside 0 (cut s) p ps h in
    let k : p.to ≡ total x.front = x.place ∙ zero-add (total x.front) in
    let q : cut (drop p.to s) ≡ x.rest = ap (λ (n : ℕ). cut (drop n s)) k ∙ cut_rest x.front x.rest s x.lines in
    x.goes ∙ ap (run outside p.to) (sym q) ∙ at_place p.to (drop p.to s)

-- STEP BY STEP: with as many steps as bytes are left, the walk gives the pieces of what is left
walk_is : (s : Bytes) (place : ℕ) (qs : List Piece) → length s ≤ 16777216 → place ≤ length s → pieces (drop place s) ≡ qs → walk_at s place ≡ first_of (shift place qs)
walk_is s place qs w v e = walk_on s place w v ∙ ap first_of (at_place place (drop place s) ∙ ap (shift place) e)

steps_stop : (k : ℕ) (s : Bytes) (place : ℕ) → walk_at s place ≡ Finished → steps (suc k) s place ≡ []
unfolding steps
steps_stop k s place e = rw (e, steps)

steps_go : (k : ℕ) (s : Bytes) (place : ℕ) (p : Piece) → walk_at s place ≡ Found p → steps (suc k) s place ≡ p ∷ steps k s p.to
unfolding steps
steps_go k s place p e = rw (e, steps)

pieces_nil : pieces [] ≡ []
unfolding pieces run
pieces_nil = ap (run outside 0) cut_nil

empty : (s : Bytes) → length s ≤ 0 → s ≡ []
empty [] h = refl
empty (b ∷ s) h = absurd (omega arith)

pub steps_from : (k : ℕ) (s : Bytes) (place : ℕ) → length s ≤ 16777216 → place ≤ length s → length (drop place s) ≤ k → steps k s place ≡ shift place (pieces (drop place s))
unfolding steps
steps_from zero s place w v h = sym (ap (λ (l : Bytes). shift place (pieces l)) (empty (drop place s) h) ∙ ap (shift place) pieces_nil)
steps_from (suc k) s place w v h = go (pieces (drop place s)) refl (λ (n : ℕ). steps_from k s n w)
  where
    go : (qs : List Piece) → pieces (drop place s) ≡ qs
        → ((n : ℕ) → n ≤ length s → length (drop n s) ≤ k → steps k s n ≡ shift n (pieces (drop n s)))
        → steps (suc k) s place ≡ shift place (pieces (drop place s))
    go [] e ih = steps_stop k s place (walk_is s place [] w v e) ∙ sym (ap (shift place) e)
    go (p ∷ ps) e ih =
        let c : Chain 0 (p ∷ ps) (length (drop place s)) = rw e at (chained (drop place s)) in
        let b : p.to ≤ length (drop place s) = chain_le p.to ps _ c.2 in
        let d : place + p.to ≤ length s = omega (arith, length-drop place s) in
        let f : length (drop (place + p.to) s) ≤ k = omega (arith, c.0, c.1, length-drop (place + p.to) s, length-drop place s) in
        let r : ps ≡ shift p.to (pieces (drop (place + p.to) s)) =
        rest_pieces (drop place s) p ps e ∙ ap (λ (l : Bytes). shift p.to (pieces l)) (drop-drop p.to place s) in
        steps_go k s place (move place p) (walk_is s place (p ∷ ps) w v e)
        ∙ ap (λ (l : List Piece). move place p ∷ l) (ih (place + p.to) d f ∙ sym (shift_shift place p.to (pieces (drop (place + p.to) s))) ∙ ap (shift place) (sym r))
        ∙ sym (ap (shift place) e)

pub steps_are : (s : Bytes) → length s ≤ 16777216 → steps (length s) s 0 ≡ pieces s
steps_are s w = steps_from (length s) s 0 w (omega arith) (omega arith) ∙ shift_zero (pieces s)

-- THE BYTES of a piece, in a longer list
pub bytes_behind : (a s : Bytes) (p : Piece) → bytes_of (move (length a) p) (a ++ s) ≡ bytes_of p s
bytes_behind a s p =
    let q : (length a + p.to) - (length a + p.from) ≡ p.to - p.from = omega arith in
    ap (λ (n : ℕ). take n (drop (length a + p.from) (a ++ s))) q ∙ slice_behind (p.to - p.from) p.from a s

pub bytes_before : (s c : Bytes) (p : Piece) → p.from ≤ p.to → p.to ≤ length s → bytes_of p (s ++ c) ≡ bytes_of p s
bytes_before s c p h k = slice_before (p.to - p.from) p.from s c (omega arith)

-- ANSWERS, in a longer list
module _ (k : ℕ) where
  told_append : (s : Bytes) (ps qs : List Piece) → answered k s (ps ++ qs) ≡ answered k s ps ++ answered k s qs
  unfolding answered
  told_append s [] qs = refl
  told_append s (p ∷ ps) qs = ap (λ (r : List Answer). record { of = p; told = told_of k p.kind (bytes_of p s) } ∷ r) (told_append s ps qs)

  told_behind : (a s : Bytes) (ps : List Piece) → answered k (a ++ s) (shift (length a) ps) ≡ along (length a) (answered k s ps)
  unfolding answered
  told_behind a s [] = refl
  told_behind a s (p ∷ ps) = rw (bytes_behind a s p, told_behind a s ps)

  told_before : (s c : Bytes) (from : ℕ) (ps : List Piece) (to : ℕ) → Chain from ps to → to ≤ length s → answered k (s ++ c) ps ≡ answered k s ps
  unfolding answered
  told_before s c from [] to h w = refl
  told_before s c from (p ∷ ps) to h w =
      let b : p.to ≤ to = chain_le p.to ps to h.2 in
      let f : p.from < p.to = h.1 in
      rw (bytes_before s c p (omega arith) (omega arith), told_before s c p.to ps to h.2 w)

  module _ (a b c : Bytes) (X : Closed a) (B : whole b ≡ true) (C : opening c ≡ true) where
    told_three : answered k (a ++ (b ++ c)) (pieces (a ++ (b ++ c)))
        ≡ answered k a (pieces a) ++ (along (length a) (answered k b (pieces b)) ++ along (length a + length b) (answered k c (pieces c)))
    told_three =
        let s : Bytes = a ++ (b ++ c) in
        let one : answered k s (pieces a) ≡ answered k a (pieces a) = told_before a (b ++ c) 0 (pieces a) (length a) (chained a) (omega arith) in
        let two : answered k s (shift (length a) (pieces b)) ≡ along (length a) (answered k b (pieces b)) =
        told_behind a (b ++ c) (pieces b) ∙ ap (along (length a)) (told_before b c 0 (pieces b) (length b) (chained b) (omega arith)) in
        let three : answered k s (shift (length a + length b) (pieces c)) ≡ along (length a + length b) (answered k c (pieces c)) =
        ap (λ (l : Bytes). answered k l (shift (length a + length b) (pieces c))) (sym (append_assoc a b c))
        ∙ ap (λ (n : ℕ). answered k ((a ++ b) ++ c) (shift n (pieces c))) (sym (length-append a b))
        ∙ told_behind (a ++ b) c (pieces c) ∙ ap (λ (n : ℕ). along n (answered k c (pieces c))) (length-append a b) in
        ap (answered k s) (three_pieces a b c X B C)
        ∙ told_append s (pieces a) _ ∙ ap (λ (r : List Answer). answered k s (pieces a) ++ r) (told_append s (shift (length a) (pieces b)) _)
        ∙ rw (one, two, three)

  answers_short : (s : Bytes) → length s ≤ 16777216 → answers k s ≡ Some (answered k s (pieces s))
  unfolding answers
  answers_short s h = rw (le-ltb 16777216 (length s) h, answers)

-- CLOSED, as document 01 says it
last_append : {A : Type 0} (p : A → Bool) (passed : Bool) (xs ys : List A) → last_from p passed (xs ++ ys) ≡ last_from p (last_from p passed xs) ys
unfolding last_from
last_append p passed [] ys = refl
last_append p passed (x ∷ xs) ys = last_append p (p x) xs ys

-- a block that is open: its last line was no END line
abbrev Open : Mode → (ended : Bool) → Type 0
Open outside e = Unit {0}
Open (in_block s) e = e ≡ false
Open (in_stray s) e = Unit {0}

open_next : (t e : Bool) (m : Mode) (at : ℕ) → (t ≡ true → e ≡ false) → Open (next t e m at) e
open_next true e m at h = h refl
open_next false e outside at h = tt
open_next false e (in_stray s) at h = tt
open_next false true (in_block s) at h = tt
open_next false false (in_block s) at h = refl

-- where the last line is an END line and the last piece a block, nothing is open
last_out : (m : Mode) (at : ℕ) (ls : List Bytes) (e b : Bool) → Open m e → last_from end_line e ls ≡ true → last_from is_block b (run m at ls) ≡ true → after m at ls ≡ outside
unfolding last_from run after
last_out outside at [] e b o f g = refl
last_out (in_block s) at [] e b o f g = torn e f o
last_out (in_stray s) at [] e b o f g = torn false g refl
last_out m at (l ∷ ls) e b o f g =
    let ps : List Piece = ended (title_line l) (end_line l) m at (at + length l) in
    let n : Mode = next (title_line l) (end_line l) m at in
    last_out n (at + length l) ls (end_line l) (last_from is_block b ps) (open_next (title_line l) (end_line l) m at (title_no_end l)) f
    (sym (last_append is_block b ps (run n (at + length l) ls)) ∙ g)

pub closed_nil : Closed []
unfolding cut whole_from after
closed_nil = record { ends = refl; out = refl }

pub closed_by : (s : Bytes) → closing s ≡ true → Closed s
unfolding closing pieces
closed_by [] h = closed_nil
closed_by (b ∷ s) h =
    let w : (whole (b ∷ s) ≡ true) × ((last_is end_line (cut (b ∷ s)) && last_is is_block (pieces (b ∷ s))) ≡ true) = and_parts _ _ h in
    let l : (last_is end_line (cut (b ∷ s)) ≡ true) × (last_is is_block (pieces (b ∷ s)) ≡ true) = and_parts _ _ w.1 in
    record { ends = w.0; out = last_out outside 0 (cut (b ∷ s)) false false tt l.0 l.1 }

-- THE THREE STRETCHES
pub three_stretches : (k : ℕ) (a b c : Bytes) → length (a ++ (b ++ c)) ≤ 16777216 → closing a ≡ true → whole b ≡ true → opening c ≡ true →
    answers k (a ++ (b ++ c)) ≡ answers k a then moved (length a) (answers k b) then moved (length a + length b) (answers k c)
three_stretches k a b c h x y z =
    let q : length (a ++ (b ++ c)) ≡ length a + (length b + length c) = length-append a (b ++ c) ∙ ap (λ (n : ℕ). length a + n) (length-append b c) in
    rw (answers_short k a (omega arith), answers_short k b (omega arith), answers_short k c (omega arith))
    (answers_short k (a ++ (b ++ c)) h ∙ ap Some (told_three k a b c (closed_by a x) y z))

-- the hypotheses are met, by stretches none of which is empty
pub met : (length (bytes neon ++ (bytes wrong_neon ++ bytes neon)) ≤ 16777216) × (closing (bytes neon) ≡ true) × (whole (bytes wrong_neon) ≡ true) × (opening (bytes neon) ≡ true)
unfolding computing closing last_from
met = (omega arith, refl, refl, refl)

-- NO BLOCK WITHOUT AN END LINE: number 0 is the answer to accepted blocks alone
pub accepted_has_end : (k : ℕ) (b : Bytes) (t : Lent) → (read_result k b t).number ≡ 0 → any end_line (cut b) ≡ true
unfolding read_result
accepted_has_end k b t h = by (short t) (read_block (strict k) b) refl h
  where
    answer : (brief : Bool) → Reading → ReadResult
    answer brief r = elim brief [ true ↦ read_answer 1 0 t | false ↦ read_into t r ]

    by : (brief : Bool) (r : Reading) → read_block (strict k) b ≡ r → (answer brief r).number ≡ 0 → any end_line (cut b) ≡ true
    by true r e h = absurd (omega arith)
    by false (Read s spans p) e h = read_has_end (strict k) b s spans p e
    by false (Unread n p) e h = absurd (omega (arith, block_refuses (strict k) b n p e))
