-- Stray runs are as long as they can be: no two of them adjoin, and no TITLE line stands in one. Document 01, "Walking a transfer file". Assumes nothing.
use Prim.Native.Nat.{ℕ, ◌+◌, ◌-◌}
use mathlib.Core.Path.{◌≡◌, refl, sym, ap, ◌∙◌}
use mathlib.Core.Bool.{Bool, true, false}
use mathlib.Core.List.{List, [], ◌∷◌, ◌++◌, append_assoc}
use native.Mathlib.Omega.{arith}
use lib.ListN.{length, take, drop, length-append}
use Rattle.lists.specs.Lists.{any, concat}
use Rattle.lists.proofs.Bools.{or_neither}
use Rattle.lists.proofs.ListLaws.{any_nil, any_one, any_append}
use Rattle.lists.proofs.PartLaws.{concat_nil, concat_one, concat_append}
use Rattle.format.specs.Bytes.{Bytes, cut}
use Rattle.format.specs.Labels.{title_line, end_line}
use Rattle.format.specs.Walking.{Kind, block, stray, piece, Mode, outside, in_block, in_stray, close, ended, next, run, pieces, bytes_of}
use Rattle.format.proofs.CutLaws.{cut_rest, cut_front}
use Rattle.demands.specs.Stretches.{stray_first, strays_adjoin, title_in_stray}
use Rattle.demands.proofs.Stretches.{total}

-- NO TWO ADJOIN: behind a stray run a block is open, which is then the next piece
block_next : (from at : ℕ) (ls : List Bytes) → stray_first (run (in_block from) at ls) ≡ false
unfolding run
block_next from at [] = refl
block_next from at (l ∷ ls) = go (title_line l) (end_line l) (block_next from (at + length l) ls)
  where
    go : (t e : Bool) → stray_first (run (in_block from) (at + length l) ls) ≡ false
        → stray_first (ended t e (in_block from) at (at + length l) ++ run (next t e (in_block from) at) (at + length l) ls) ≡ false
    go true e ih = refl
    go false true ih = refl
    go false false ih = ih

apart_close : (m : Mode) (at : ℕ) → strays_adjoin (close m at) ≡ false
unfolding strays_adjoin
apart_close outside at = refl
apart_close (in_block s) at = refl
apart_close (in_stray s) at = refl

apart_run : (m : Mode) (at : ℕ) (ls : List Bytes) → strays_adjoin (run m at ls) ≡ false
unfolding run strays_adjoin
apart_run m at [] = apart_close m at
apart_run m at (l ∷ ls) = go (title_line l) (end_line l) m (λ (n : Mode). apart_run n (at + length l) ls) (block_next at (at + length l) ls)
  where
    go : (t e : Bool) (m : Mode) → ((n : Mode) → strays_adjoin (run n (at + length l) ls) ≡ false) → stray_first (run (in_block at) (at + length l) ls) ≡ false
        → strays_adjoin (ended t e m at (at + length l) ++ run (next t e m at) (at + length l) ls) ≡ false
    go true e outside ih f = ih (in_block at)
    go true e (in_block s) ih f = ih (in_block at)
    go true e (in_stray s) ih f = or_neither (stray_first (run (in_block at) (at + length l) ls)) (strays_adjoin (run (in_block at) (at + length l) ls)) f (ih (in_block at))
    go false e outside ih f = ih (in_stray at)
    go false e (in_stray s) ih f = ih (in_stray s)
    go false true (in_block s) ih f = ih outside
    go false false (in_block s) ih f = ih (in_block s)

pub strays_apart : (s : Bytes) → strays_adjoin (pieces s) ≡ false
unfolding pieces
strays_apart s = apart_run outside 0 (cut s)

-- NO TITLE LINE IN ONE. How many bytes lines have
total_nil : total [] ≡ 0
total_nil = ap length (concat_nil {A = ℕ})

total_one : (l : Bytes) → total (l ∷ []) ≡ length l
total_one l = ap length (concat_one l)

total_append : (ls ms : List Bytes) → total (ls ++ ms) ≡ total ls + total ms
total_append ls ms = ap length (concat_append ls ms) ∙ length-append (concat ls) (concat ms)

-- what is open is a stray run: it starts behind the lines before it, and none of its own is a TITLE line
abbrev Clear : Mode → (before held : List Bytes) → Type 0
Clear outside before held = Unit {0}
Clear (in_block from) before held = Unit {0}
Clear (in_stray from) before held = (from ≡ total before) × (any title_line held ≡ false)

module _ (s : Bytes) where
  -- where the walk of s stands: the lines before what is open, those of what is open, those to come
  record Stands (m : Mode) (at : ℕ) (ls : List Bytes) : Type 0 where
    before : List Bytes
    held : List Bytes
    lines : cut s ≡ before ++ (held ++ ls)
    place : at ≡ total before + total held
    clear : Clear m before held

  piece_lines : (before held ls : List Bytes) (k : Kind) (from to : ℕ) → cut s ≡ before ++ (held ++ ls) → from ≡ total before → to ≡ total before + total held → cut (bytes_of (piece k from to) s) ≡ held
  piece_lines before held ls k from to e f g =
      let n : to - from ≡ total held = omega arith in
      ap (λ (i : ℕ). cut (take i (drop from s))) n ∙ ap (λ (i : ℕ). cut (take (total held) (drop i s))) f ∙ cut_front held ls (drop (total before) s) (cut_rest before (held ++ ls) s e)

  clear_close : (m : Mode) (at : ℕ) (ls : List Bytes) → Stands m at ls → any (title_in_stray s) (close m at) ≡ false
  clear_close outside at ls x = any_nil (title_in_stray s)
  clear_close (in_block from) at ls x = any_one (title_in_stray s) (piece block from at)
  clear_close (in_stray from) at ls x =
      any_one (title_in_stray s) (piece stray from at) ∙ ap (any title_line) (piece_lines x.before x.held ls stray from at x.lines x.clear.0 x.place) ∙ x.clear.1

  -- what is open goes on by a line, or starts anew with it
  onward : (m n : Mode) (at : ℕ) (l : Bytes) (ls : List Bytes) (x : Stands m at (l ∷ ls)) → Clear n x.before (x.held ++ (l ∷ [])) → Stands n (at + length l) ls
  onward m n at l ls x c = record {
    before = x.before;
    held = x.held ++ (l ∷ []);
    lines = x.lines ∙ ap (λ (r : List Bytes). x.before ++ r) (sym (append_assoc x.held (l ∷ []) ls));
    place = omega (arith, x.place, total_append x.held (l ∷ []), total_one l);
    clear = c;
  }

  anew : (m n : Mode) (at : ℕ) (l : Bytes) (ls : List Bytes) (x : Stands m at (l ∷ ls)) → Clear n (x.before ++ x.held) (l ∷ []) → Stands n (at + length l) ls
  anew m n at l ls x c = record {
    before = x.before ++ x.held;
    held = l ∷ [];
    lines = x.lines ∙ sym (append_assoc x.before x.held (l ∷ ls));
    place = omega (arith, x.place, total_append x.before x.held, total_one l);
    clear = c;
  }

  stands_next : (t e : Bool) (m : Mode) (at : ℕ) (l : Bytes) (ls : List Bytes) → title_line l ≡ t → Stands m at (l ∷ ls) → Stands (next t e m at) (at + length l) ls
  stands_next true e m at l ls f x = anew m (in_block at) at l ls x tt
  stands_next false e outside at l ls f x = anew outside (in_stray at) at l ls x (x.place ∙ sym (total_append x.before x.held), any_one title_line l ∙ f)
  stands_next false e (in_stray from) at l ls f x =
      onward (in_stray from) (in_stray from) at l ls x (x.clear.0, any_append title_line x.held (l ∷ []) ∙ or_neither (any title_line x.held) (any title_line (l ∷ [])) x.clear.1 (any_one title_line l ∙ f))
  stands_next false true (in_block from) at l ls f x = onward (in_block from) outside at l ls x tt
  stands_next false false (in_block from) at l ls f x = onward (in_block from) (in_block from) at l ls x tt

  clear_ended : (t e : Bool) (m : Mode) (at to : ℕ) (ls : List Bytes) → Stands m at ls → any (title_in_stray s) (ended t e m at to) ≡ false
  clear_ended true e m at to ls x = clear_close m at ls x
  clear_ended false e outside at to ls x = any_nil (title_in_stray s)
  clear_ended false e (in_stray from) at to ls x = any_nil (title_in_stray s)
  clear_ended false true (in_block from) at to ls x = any_one (title_in_stray s) (piece block from to)
  clear_ended false false (in_block from) at to ls x = any_nil (title_in_stray s)

  clear_run : (m : Mode) (at : ℕ) (ls : List Bytes) → Stands m at ls → any (title_in_stray s) (run m at ls) ≡ false
  unfolding run
  clear_run m at [] x = clear_close m at [] x
  clear_run m at (l ∷ ls) x =
      let t : Bool = title_line l in
      let e : Bool = end_line l in
      any_append (title_in_stray s) (ended t e m at (at + length l)) (run (next t e m at) (at + length l) ls)
      ∙ or_neither (any (title_in_stray s) (ended t e m at (at + length l))) _ (clear_ended t e m at (at + length l) (l ∷ ls) x) (clear_run (next t e m at) (at + length l) ls (stands_next t e m at l ls refl x))

  pub strays_untitled : any (title_in_stray s) (pieces s) ≡ false
  unfolding pieces
  strays_untitled = clear_run outside 0 (cut s) (record { before = []; held = []; lines = refl; place = omega (arith, total_nil); clear = tt })
