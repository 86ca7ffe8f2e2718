-- Rows by number, in turn: the rows stand in order and none meets another if and only if, atom by atom, each number is one that was met or the next one, and one row at
-- most is left at the end. Serves document 01, "The structure table". Assumes nothing.
use Prim.Native.Nat.{ℕ, zero, suc, ◌+◌, ◌-◌, max, ◌≤◌, ◌<◌}
use mathlib.Core.Path.{◌≡◌, refl, sym, ap, ◌∙◌}
use mathlib.Core.Bool.{Bool, true, false, not, ◌&&◌, ◌||◌}
use mathlib.Core.List.{List, [], ◌∷◌}
use native.Mathlib.Nat.{max-eq_left, max_comm, le-max_left, le-max_right}
use native.Mathlib.Omega.{arith}
use lib.ListN.{length, get_or}
use lib.IntN.{ℤ, pos}
use lib.Dec.{eqb, ltb, leb}
use borrow.Author.Tests.{eq-eqb, ne_eqb, eqb-true, eqb-false, leb-true, le-leb, lt-leb, ltb-true}
use Rattle.lists.specs.Lists.{all, any, pairs}
use Rattle.lists.specs.Order.{ascends, leads}
use Rattle.lists.proofs.Bools.{torn, never, and_left_false, and_parts, or_neither, or_left, or_other}
use Rattle.lists.proofs.ListLaws.{all_nil, all_both, all_parts, all_at, any_nil, any_neither}
use Rattle.lists.proofs.PairLaws.{pairs_nil, pairs_neither}
use Rattle.lists.proofs.LexLaws.{Sides, less, equal, greater, sides, lex_less, lex_more}
use Rattle.lists.proofs.SortLaws.{ascends_nil, ascends_cons, ascends_one, ascends_parts, ascends_first}
use Rattle.format.specs.Bytes.{is_in}
use Rattle.format.specs.Labels.{Charges, Radicals}
use Rattle.format.specs.Rows.{Row, row}
use Rattle.format.specs.Structure.{overlap, meets, atoms_before, row_before}
use Rattle.format.specs.Table.{spread_at}
use Rattle.format.proofs.OrderLaws.{row_strict}
use Rattle.soundness.specs.Numbered.{column, members, rows_by, in_turn, up_to}
use Rattle.soundness.proofs.NumberedLaws.{members_in_lem, members_out, members_nil, rows_nil, rows_cons, later, members_has, rows_length, rows_are}

-- CLAUSES
pub turn_nil : (met rows : ℕ) → in_turn met rows [] ≡ (eqb rows met || eqb rows (suc met))
unfolding in_turn
turn_nil met rows = refl

turn_cons : (met rows c : ℕ) (cs : List ℕ) → in_turn met rows (c ∷ cs) ≡ (leb c (suc met) && in_turn (max met c) rows cs)
unfolding in_turn
turn_cons met rows c cs = refl

module _ (met rows c : ℕ) (cs : List ℕ) where
  pub turn_beyond : suc met < c → in_turn met rows (c ∷ cs) ≡ false
  turn_beyond h = turn_cons met rows c cs ∙ and_left_false (leb c (suc met)) _ (lt-leb c (suc met) h)

  pub turn_on : c ≤ suc met → in_turn met rows (c ∷ cs) ≡ in_turn (max met c) rows cs
  turn_on h = turn_cons met rows c cs ∙ ap (λ (t : Bool). t && in_turn (max met c) rows cs) (le-leb c (suc met) h)

  turn_met : c ≤ met → in_turn met rows (c ∷ cs) ≡ in_turn met rows cs
  turn_met h = turn_on (omega arith) ∙ ap (λ (m : ℕ). in_turn m rows cs) (max-eq_left h)

  turn_next : c ≡ suc met → in_turn met rows (c ∷ cs) ≡ in_turn (suc met) rows cs
  turn_next h = let q : max met c ≡ suc met = max_comm met c ∙ max-eq_left (omega arith) ∙ h in turn_on (omega arith) ∙ ap (λ (m : ℕ). in_turn m rows cs) q

-- THE ROWS
rows_at : (j n : ℕ) (cs : List ℕ) (vs : List ℤ) (d : Row) (i : ℕ) → i < length vs → get_or (rows_by j n cs vs) i d ≡ row (members (j + i) n cs) (get_or vs i (pos 0)) 0
rows_at j n cs [] d i h = absurd (omega arith)
rows_at j n cs (v ∷ vs) d zero h =
    let q : j ≡ j + 0 = omega arith in
    ap (λ (l : List Row). get_or l 0 d) (rows_cons j n cs v vs) ∙ ap (λ (k : ℕ). row (members k n cs) v 0) q
rows_at j n cs (v ∷ vs) d (suc i) h =
    let q : suc j + i ≡ j + suc i = omega arith in
    ap (λ (l : List Row). get_or l (suc i) d) (rows_cons j n cs v vs) ∙ rows_at (suc j) n cs vs d i (omega arith) ∙ ap (λ (k : ℕ). row (members k n cs) (get_or vs i (pos 0)) 0) q

-- an atom whose number is below them stands in none
rows_skip : (j n c : ℕ) (cs : List ℕ) (vs : List ℤ) → c < j → rows_by j n (c ∷ cs) vs ≡ rows_by j (suc n) cs vs
rows_skip j n c cs [] h = rows_nil j n (c ∷ cs) ∙ sym (rows_nil j (suc n) cs)
rows_skip j n c cs (v ∷ vs) h =
    rows_cons j n (c ∷ cs) v vs ∙ rw (members_out j n c cs (λ q. omega arith), rows_skip (suc j) n c cs vs (omega arith)) (sym (rows_cons j (suc n) cs v vs))

-- IN TURN
first_before : (n : ℕ) (ns ms : List ℕ) → all (ltb n) ms ≡ true → atoms_before (n ∷ ns) ms ≡ true
first_before n ns [] h = refl
first_before n ns (m ∷ ms) h = lex_less n m ns ms (ltb-true n m (all_parts (ltb n) m ms h).0)

after_first : (n : ℕ) (ns ms : List ℕ) → all (ltb n) ns ≡ true → atoms_before ns (n ∷ ms) ≡ false
after_first n [] ms h = refl
after_first n (m ∷ ns) ms h = lex_more m n ns ms (ltb-true n m (all_parts (ltb n) m ns h).0)

-- no atom is left: at most one row is
turn_last : (k n : ℕ) (vs : List ℤ) → in_turn k (k + length vs) [] ≡ ascends row_before (rows_by (suc k) n [] vs)
turn_last k n [] = turn_nil k (k + 0) ∙ or_left (eqb (k + 0) k) _ (eq-eqb (k + 0) k (omega arith)) ∙ sym (ap (ascends row_before) (rows_nil (suc k) n []) ∙ ascends_nil row_before)
turn_last k n (v ∷ []) =
    turn_nil k (k + 1) ∙ rw (eq-eqb (k + 1) (suc k) (omega arith), ne_eqb (k + 1) k (omega arith))
    (sym (rw (rows_cons (suc k) n [] v [], rows_nil (suc (suc k)) n []) (ascends_one row_before (row (members (suc k) n []) v 0))))
turn_last k n (v ∷ w ∷ vs) =
    turn_nil k (k + suc (suc (length vs)))
    ∙ or_neither (eqb (k + suc (suc (length vs))) k) (eqb (k + suc (suc (length vs))) (suc k)) (ne_eqb (k + suc (suc (length vs))) k (λ q. omega arith)) (ne_eqb (k + suc (suc (length vs))) (suc k) (λ q. omega arith))
    ∙ sym (rw (rows_cons (suc k) n [] v (w ∷ vs), rows_cons (suc (suc k)) n [] w vs) (ascends_cons row_before (row (members (suc k) n []) v 0) (row (members (suc (suc k)) n []) w 0 ∷ rows_by (suc (suc (suc k))) n [] vs) ∙ rw (members_nil (suc k) n)))

-- a number beyond the next one: the next one's row, whose atoms come later, stands before that number's
out_of_turn : (k n c : ℕ) (cs : List ℕ) (vs : List ℤ) → suc k < c → c ≤ k + length vs → ascends row_before (rows_by (suc k) n (c ∷ cs) vs) ≡ false
out_of_turn k n c cs [] h b = absurd (omega arith)
out_of_turn k n c cs (v ∷ vs) h b = never (ascends row_before (rows_by (suc k) n (c ∷ cs) (v ∷ vs))) (λ a. torn (row_before x y) (before a) (after_first n x.atoms (members c (suc n) cs) behind))
  where
    x : Row
    x = row (members (suc k) n (c ∷ cs)) v 0

    y : Row
    y = row (n ∷ members c (suc n) cs) (get_or vs (c - suc (suc k)) (pos 0)) 0

    rest : List Row
    rest = rows_by (suc (suc k)) n (c ∷ cs) vs

    behind : all (ltb n) x.atoms ≡ true
    behind = ap (all (ltb n)) (members_out (suc k) n c cs (λ q. omega arith)) ∙ later (suc k) n cs

    place : suc (suc k) + (c - suc (suc k)) ≡ c
    place = omega arith

    here : get_or rest (c - suc (suc k)) x ≡ y
    here =
        rows_at (suc (suc k)) n (c ∷ cs) vs x (c - suc (suc k)) (omega arith)
        ∙ ap (λ (ns : List ℕ). row ns (get_or vs (c - suc (suc k)) (pos 0)) 0) (ap (λ (j : ℕ). members j n (c ∷ cs)) place ∙ members_in_lem c n c cs refl)

    before : ascends row_before (rows_by (suc k) n (c ∷ cs) (v ∷ vs)) ≡ true → row_before x y ≡ true
    before a =
        let f : all (row_before x) rest ≡ true = ascends_first row_before row_strict x rest (ap (ascends row_before) (sym (rows_cons (suc k) n (c ∷ cs) v vs)) ∙ a) in
        ap (row_before x) (sym here) ∙ all_at (row_before x) x rest (c - suc (suc k)) f (omega (arith, rows_length (suc (suc k)) n (c ∷ cs) vs))

-- the next number: its row's first atom is this one
row_leads : (j n : ℕ) (ns cs : List ℕ) (v : ℤ) (vs : List ℤ) → leads row_before (row (n ∷ ns) v 0) (rows_by j (suc n) cs vs) ≡ true
row_leads j n ns cs v [] = ap (leads row_before (row (n ∷ ns) v 0)) (rows_nil j (suc n) cs)
row_leads j n ns cs v (w ∷ vs) = ap (leads row_before (row (n ∷ ns) v 0)) (rows_cons j (suc n) cs w vs) ∙ first_before n ns (members j (suc n) cs) (later j n cs)

next_row : (k n : ℕ) (cs : List ℕ) (v : ℤ) (vs : List ℤ) → ascends row_before (rows_by (suc k) n (suc k ∷ cs) (v ∷ vs)) ≡ ascends row_before (rows_by (suc (suc k)) (suc n) cs vs)
next_row k n cs v vs =
    ap (ascends row_before) (rows_cons (suc k) n (suc k ∷ cs) v vs)
    ∙ rw (members_in_lem (suc k) n (suc k) cs refl, rows_skip (suc (suc k)) n (suc k) cs vs (omega arith))
    (ascends_cons row_before (row (n ∷ members (suc k) (suc n) cs) v 0) (rows_by (suc (suc k)) (suc n) cs vs) ∙ rw (row_leads (suc (suc k)) n (members (suc k) (suc n) cs) cs v vs))

turn_ascends : (k n : ℕ) (cs : List ℕ) (vs : List ℤ) → up_to (k + length vs) cs ≡ true → in_turn k (k + length vs) cs ≡ ascends row_before (rows_by (suc k) n cs vs)
turn_ascends k n [] vs h = turn_last k n vs
turn_ascends k n (c ∷ cs) vs h = by (sides c (suc k)) vs (all_parts (λ (m : ℕ). leb m (k + length vs)) c cs h) (turn_ascends k (suc n) cs) (turn_ascends (suc k) (suc n) cs)
  where
    by : Sides c (suc k) → (us : List ℤ) → (leb c (k + length us) ≡ true) × (up_to (k + length us) cs ≡ true)
        → ((ws : List ℤ) → up_to (k + length ws) cs ≡ true → in_turn k (k + length ws) cs ≡ ascends row_before (rows_by (suc k) (suc n) cs ws))
        → ((ws : List ℤ) → up_to (suc k + length ws) cs ≡ true → in_turn (suc k) (suc k + length ws) cs ≡ ascends row_before (rows_by (suc (suc k)) (suc n) cs ws))
        → in_turn k (k + length us) (c ∷ cs) ≡ ascends row_before (rows_by (suc k) n (c ∷ cs) us)
    by (less l) us p ih next = turn_met k (k + length us) c cs (omega arith) ∙ ih us p.1 ∙ sym (ap (ascends row_before) (rows_skip (suc k) n c cs us l))
    by (equal e) [] p ih next = absurd (omega (arith, leb-true c (k + 0) p.0))
    by (equal e) (u ∷ us) p ih next =
        let q : k + suc (length us) ≡ suc k + length us = omega arith in
        turn_next k (k + suc (length us)) c cs e ∙ ap (λ (r : ℕ). in_turn (suc k) r cs) q ∙ next us (ap (λ (r : ℕ). up_to r cs) (sym q) ∙ p.1)
        ∙ sym (ap (λ (m : ℕ). ascends row_before (rows_by (suc k) n (m ∷ cs) (u ∷ us))) e ∙ next_row k n cs u us)
    by (greater l) us p ih next = turn_beyond k (k + length us) c cs l ∙ sym (out_of_turn k n c cs us l (leb-true c (k + length us) p.0))

-- and in turn no number is higher than the rows
pub turn_high : (k rows : ℕ) (cs : List ℕ) → in_turn k rows cs ≡ true → (k ≤ rows) × (up_to rows cs ≡ true)
turn_high k rows [] h = (by (eqb rows k) refl, all_nil (λ (m : ℕ). leb m rows))
  where
    by : (t : Bool) → eqb rows k ≡ t → k ≤ rows
    by true e = omega (arith, eqb-true rows k e)
    by false e = omega (arith, eqb-true rows (suc k) (or_other (eqb rows k) (eqb rows (suc k)) (sym (turn_nil k rows) ∙ h) e))
turn_high k rows (c ∷ cs) h =
    let p : (leb c (suc k) ≡ true) × (in_turn (max k c) rows cs ≡ true) = and_parts (leb c (suc k)) (in_turn (max k c) rows cs) (sym (turn_cons k rows c cs) ∙ h) in
    let q : (max k c ≤ rows) × (up_to rows cs ≡ true) = turn_high (max k c) rows cs p.1 in
    (omega (arith, q.0, le-max_left k c), all_both (λ (m : ℕ). leb m rows) c cs (le-leb c rows (omega (arith, q.0, le-max_right k c))) q.1)

-- without rows there is nothing out of turn
pub turn_none : (rows : ℕ) (cs : List ℕ) → rows ≡ 0 → up_to rows cs ≡ true → true ≡ in_turn 0 rows cs
turn_none rows cs e h = sym (ap (λ (r : ℕ). in_turn 0 r cs) e ∙ go cs (ap (λ (r : ℕ). up_to r cs) (sym e) ∙ h))
  where
    go : (cs : List ℕ) → up_to 0 cs ≡ true → in_turn 0 0 cs ≡ true
    go [] h = turn_nil 0 0
    go (c ∷ cs) h =
        let p : (leb c 0 ≡ true) × (up_to 0 cs ≡ true) = all_parts (λ (m : ℕ). leb m 0) c cs h in
        turn_met 0 0 c cs (leb-true c 0 p.0) ∙ go cs p.1

-- NO TWO ROWS MEET: rows of two numbers have no atom in common, and of rows in order the first has an atom
abbrev pub overlaps : Row → Row → Bool
overlaps r s = overlap r.atoms s.atoms

-- what no atom with the number passes, no member passes
module _ (p : ℕ → Bool) (j : ℕ) where
  members_any : (n : ℕ) (cs : List ℕ) → ((i : ℕ) → get_or cs i 0 ≡ j → p (n + i) ≡ false) → any p (members j n cs) ≡ false
  members_any n [] h = ap (any p) (members_nil j n) ∙ any_nil p
  members_any n (c ∷ cs) h = by (eqb c j) refl (members_any (suc n) cs (λ i l. let q : suc n + i ≡ n + suc i = omega arith in ap p q ∙ h (suc i) l))
    where
      by : (t : Bool) → eqb c j ≡ t → any p (members j (suc n) cs) ≡ false → any p (members j n (c ∷ cs)) ≡ false
      by true e ih =
          let q : n + 0 ≡ n = omega arith in
          ap (any p) (members_in_lem j n c cs (eqb-true c j e)) ∙ any_neither p n (members j (suc n) cs) (ap p (sym q) ∙ h 0 (eqb-true c j e)) ih
      by false e ih = ap (any p) (members_out j n c cs (eqb-false c j e)) ∙ ih

members_apart : (j k n : ℕ) (cs : List ℕ) → j < k → any (λ m. is_in m (members k n cs)) (members j n cs) ≡ false
members_apart j k n cs h = members_any (λ m. is_in m (members k n cs)) j n cs (λ i e. members_has k n cs i (omega arith) ∙ ne_eqb (get_or cs i 0) k (λ q. omega arith))

before_apart : (ns ms : List ℕ) → any (λ n. is_in n ms) ns ≡ false → atoms_before ns ms ≡ true → overlap ns ms ≡ false
unfolding overlap
before_apart [] ms h b = torn false b refl
before_apart (n ∷ ns) ms h b = h

row_apart : (j k n : ℕ) (cs : List ℕ) (v : ℤ) (vs : List ℤ) → j < k → all (row_before (row (members j n cs) v 0)) (rows_by k n cs vs) ≡ true → any (overlaps (row (members j n cs) v 0)) (rows_by k n cs vs) ≡ false
row_apart j k n cs v [] l h = ap (any (overlaps (row (members j n cs) v 0))) (rows_nil k n cs) ∙ any_nil (overlaps (row (members j n cs) v 0))
row_apart j k n cs v (w ∷ vs) l h =
    let r : Row = row (members j n cs) v 0 in
    let s : Row = row (members k n cs) w 0 in
    let p : (row_before r s ≡ true) × (all (row_before r) (rows_by (suc k) n cs vs) ≡ true) = all_parts (row_before r) s (rows_by (suc k) n cs vs) (ap (all (row_before r)) (sym (rows_cons k n cs w vs)) ∙ h) in
    ap (any (overlaps r)) (rows_cons k n cs w vs)
    ∙ any_neither (overlaps r) s (rows_by (suc k) n cs vs) (before_apart (members j n cs) (members k n cs) (members_apart j k n cs l) p.0) (row_apart j (suc k) n cs v vs (omega arith) p.1)

rows_apart : (j n : ℕ) (cs : List ℕ) (vs : List ℤ) → ascends row_before (rows_by j n cs vs) ≡ true → pairs overlaps (rows_by j n cs vs) ≡ false
rows_apart j n cs [] h = ap (pairs overlaps) (rows_nil j n cs) ∙ pairs_nil overlaps
rows_apart j n cs (v ∷ vs) h =
    let r : Row = row (members j n cs) v 0 in
    let rs : List Row = rows_by (suc j) n cs vs in
    let a : ascends row_before (r ∷ rs) ≡ true = ap (ascends row_before) (sym (rows_cons j n cs v vs)) ∙ h in
    ap (pairs overlaps) (rows_cons j n cs v vs)
    ∙ pairs_neither overlaps r rs (row_apart j (suc j) n cs v vs (omega arith) (ascends_first row_before row_strict r rs a)) (rows_apart (suc j) n cs vs (ascends_parts row_before r rs a).1)

-- THE DEFINITIONS' ROWS
-- charges and radicals meet in the same way
pub charges_meet : (rs : List Row) → pairs (meets Charges) rs ≡ pairs overlaps rs
unfolding meets
charges_meet rs = refl

pub radicals_meet : (rs : List Row) → pairs (meets Radicals) rs ≡ pairs overlaps rs
unfolding meets
radicals_meet rs = refl

module _ (p : ℕ) (records : List (List ℤ)) (vs : List ℤ) where
  -- the rows stand in order and no two meet if and only if their numbers come in turn
  pub in_turn_lem : up_to (length vs) (column p records) ≡ true →
      in_turn 0 (length vs) (column p records) ≡ (ascends row_before (spread_at p 1 records vs) && not (pairs overlaps (spread_at p 1 records vs)))
  in_turn_lem h = rw (rows_are p 1 records vs) (by (in_turn 0 (length vs) (column p records)) refl)
    where
      rs : List Row
      rs = rows_by 1 1 (column p records) vs

      z : 0 + length vs ≡ length vs
      z = omega arith

      is : in_turn 0 (length vs) (column p records) ≡ ascends row_before rs
      is = ap (λ (r : ℕ). in_turn 0 r (column p records)) (sym z) ∙ turn_ascends 0 1 (column p records) vs (ap (λ (r : ℕ). up_to r (column p records)) z ∙ h)

      by : (t : Bool) → in_turn 0 (length vs) (column p records) ≡ t → in_turn 0 (length vs) (column p records) ≡ (ascends row_before rs && not (pairs overlaps rs))
      by true e = e ∙ sym (rw (sym is ∙ e, rows_apart 1 1 (column p records) vs (sym is ∙ e)))
      by false e = e ∙ sym (and_left_false (ascends row_before rs) _ (sym is ∙ e))
