-- Rows by the numbers in the atoms' records: each row's atoms are listed and ascend, each atom's row has the number that its record holds, and a row is fine if its value
-- is. Serves document 01, "The structure table". Assumes nothing.
use Prim.Native.Nat.{ℕ, zero, suc, ◌+◌, ◌≤◌, ◌<◌}
use mathlib.Core.Path.{◌≡◌, refl, sym, ap, ◌∙◌}
use mathlib.Core.Bool.{Bool, true, false, and-true}
use mathlib.Core.List.{List, [], ◌∷◌}
use native.Mathlib.Omega.{arith}
use lib.ListN.{length, get_or}
use lib.IntN.{ℤ}
use lib.Dec.{eqb, ltb}
use borrow.Author.Tests.{eq-eqb, ne_eqb, eqb-true, eqb-false, ltb-true, lt-ltb}
use Rattle.lists.specs.Lists.{all, any}
use Rattle.lists.specs.Order.{ascends, leads}
use Rattle.lists.proofs.ListLaws.{all_nil, all_cons, all_both, all_parts, any_nil, any_hit, any_miss, any_neither}
use Rattle.lists.proofs.LexLaws.{Sides, less, equal, greater, sides}
use Rattle.lists.proofs.SortLaws.{ascends_nil, ascends_both}
use Rattle.format.specs.Bytes.{within, is_in}
use Rattle.format.specs.Labels.{ListOf}
use Rattle.format.specs.Rows.{Row, row}
use Rattle.format.specs.Structure.{arity, ranged, group_ok, row_ok}
use Rattle.format.specs.Table.{cell, row_with, members_at, spread_at}
use Rattle.format.proofs.ByteLaws.{within_is}
use Rattle.soundness.specs.Numbered.{column, members, rows_by}

-- CLAUSES
module _ (j n c : ℕ) (cs : List ℕ) where
  pub members_in_lem : c ≡ j → members j n (c ∷ cs) ≡ n ∷ members j (suc n) cs
  unfolding members
  members_in_lem e = rw (eq-eqb c j e, members)

  pub members_out : (c ≡ j → ⊥) → members j n (c ∷ cs) ≡ members j (suc n) cs
  unfolding members
  members_out e = rw (ne_eqb c j e, members)

pub members_nil : (j n : ℕ) → members j n [] ≡ []
unfolding members
members_nil j n = refl

module _ (j n : ℕ) (cs : List ℕ) where
  pub rows_nil : rows_by j n cs [] ≡ []
  unfolding rows_by
  rows_nil = refl

  pub rows_cons : (v : ℤ) (vs : List ℤ) → rows_by j n cs (v ∷ vs) ≡ row (members j n cs) v 0 ∷ rows_by (suc j) n cs vs
  unfolding rows_by
  rows_cons v vs = refl

-- WHAT HOLDS OF EVERY ATOM from n on holds of the members
module _ (p : ℕ → Bool) (j : ℕ) where
  pub members_all : (n : ℕ) (cs : List ℕ) → ((i : ℕ) → i < length cs → p (n + i) ≡ true) → all p (members j n cs) ≡ true
  members_all n [] h = ap (all p) (members_nil j n) ∙ all_nil p
  members_all n (c ∷ cs) h = by (eqb c j) refl (members_all (suc n) cs (λ i l. let q : suc n + i ≡ n + suc i = omega arith in ap p q ∙ h (suc i) (omega arith)))
    where
      by : (t : Bool) → eqb c j ≡ t → all p (members j (suc n) cs) ≡ true → all p (members j n (c ∷ cs)) ≡ true
      by true e ih =
          let q : n + 0 ≡ n = omega arith in
          ap (all p) (members_in_lem j n c cs (eqb-true c j e)) ∙ all_both p n (members j (suc n) cs) (ap p (sym q) ∙ h 0 (omega arith)) ih
      by false e ih = ap (all p) (members_out j n c cs (eqb-false c j e)) ∙ ih

-- members from the next atom on stand behind this one
pub later : (j n : ℕ) (cs : List ℕ) → all (ltb n) (members j (suc n) cs) ≡ true
later j n cs = members_all (ltb n) j (suc n) cs (λ i l. lt-ltb n (suc n + i) (omega arith))

-- EACH ROW'S ATOMS are listed and ascend
pub members_listed : (j n top : ℕ) (cs : List ℕ) → n + length cs ≤ suc top → all (within n top) (members j n cs) ≡ true
members_listed j n top cs h = members_all (within n top) j n cs (λ i l. within_is n top (n + i) (omega arith) (omega arith))

leads_all : (n : ℕ) (ns : List ℕ) → all (ltb n) ns ≡ true → leads ltb n ns ≡ true
leads_all n [] h = refl
leads_all n (m ∷ ns) h = (all_parts (ltb n) m ns h).0

pub members_ascend : (j n : ℕ) (cs : List ℕ) → ascends ltb (members j n cs) ≡ true
members_ascend j n [] = ap (ascends ltb) (members_nil j n) ∙ ascends_nil ltb
members_ascend j n (c ∷ cs) = by (eqb c j) refl (members_ascend j (suc n) cs)
  where
    by : (t : Bool) → eqb c j ≡ t → ascends ltb (members j (suc n) cs) ≡ true → ascends ltb (members j n (c ∷ cs)) ≡ true
    by true e ih = ap (ascends ltb) (members_in_lem j n c cs (eqb-true c j e)) ∙ ascends_both ltb n (members j (suc n) cs) (leads_all n (members j (suc n) cs) (later j n cs)) ih
    by false e ih = ap (ascends ltb) (members_out j n c cs (eqb-false c j e)) ∙ ih

-- an atom is a member if and only if its cell is the number, which is not 0
before_none : (n : ℕ) (ns : List ℕ) → all (ltb n) ns ≡ true → is_in n ns ≡ false
before_none n [] h = any_nil (eqb n)
before_none n (m ∷ ns) h =
    let p : (ltb n m ≡ true) × (all (ltb n) ns ≡ true) = all_parts (ltb n) m ns h in
    any_neither (eqb n) m ns (ne_eqb n m (λ q. omega (arith, ltb-true n m p.0))) (before_none n ns p.1)

pub members_has : (j n : ℕ) (cs : List ℕ) (i : ℕ) → 0 < j → is_in (n + i) (members j n cs) ≡ eqb (get_or cs i 0) j
members_has j n [] i h = ap (any (eqb (n + i))) (members_nil j n) ∙ any_nil (eqb (n + i)) ∙ sym (ne_eqb 0 j (λ q. omega arith))
members_has j n (c ∷ cs) zero h = by (eqb c j) refl
  where
    z : n + 0 ≡ n
    z = omega arith

    by : (t : Bool) → eqb c j ≡ t → is_in (n + 0) (members j n (c ∷ cs)) ≡ eqb c j
    by true e = ap (any (eqb (n + 0))) (members_in_lem j n c cs (eqb-true c j e)) ∙ any_hit (eqb (n + 0)) n (members j (suc n) cs) (eq-eqb (n + 0) n z) ∙ sym e
    by false e = ap (any (eqb (n + 0))) (members_out j n c cs (eqb-false c j e)) ∙ ap (λ (k : ℕ). is_in k (members j (suc n) cs)) z ∙ before_none n (members j (suc n) cs) (later j n cs) ∙ sym e
members_has j n (c ∷ cs) (suc i) h = by (eqb c j) refl (ap (λ (k : ℕ). is_in k (members j (suc n) cs)) z ∙ members_has j (suc n) cs i h)
  where
    z : n + suc i ≡ suc n + i
    z = omega arith

    by : (t : Bool) → eqb c j ≡ t → is_in (n + suc i) (members j (suc n) cs) ≡ eqb (get_or cs i 0) j → is_in (n + suc i) (members j n (c ∷ cs)) ≡ eqb (get_or cs i 0) j
    by true e ih = ap (any (eqb (n + suc i))) (members_in_lem j n c cs (eqb-true c j e)) ∙ any_miss (eqb (n + suc i)) n (members j (suc n) cs) (ne_eqb (n + suc i) n (λ q. omega arith)) ∙ ih
    by false e ih = ap (any (eqb (n + suc i))) (members_out j n c cs (eqb-false c j e)) ∙ ih

-- THE ROWS
pub rows_length : (j n : ℕ) (cs : List ℕ) (vs : List ℤ) → length (rows_by j n cs vs) ≡ length vs
rows_length j n cs [] = ap length (rows_nil j n cs)
rows_length j n cs (v ∷ vs) = ap length (rows_cons j n cs v vs) ∙ ap suc (rows_length (suc j) n cs vs)

pub rows_all : (p : Row → Bool) (j n : ℕ) (cs : List ℕ) (vs : List ℤ) → ((k : ℕ) (v : ℤ) → p (row (members k n cs) v 0) ≡ true) → all p (rows_by j n cs vs) ≡ true
rows_all p j n cs [] h = ap (all p) (rows_nil j n cs) ∙ all_nil p
rows_all p j n cs (v ∷ vs) h = ap (all p) (rows_cons j n cs v vs) ∙ all_both p (row (members j n cs) v 0) (rows_by (suc j) n cs vs) (h j v) (rows_all p (suc j) n cs vs h)

-- THE NUMBER OF AN ATOM'S ROW is the one that its record holds
above : (a b : ℕ) → a ≤ b → (b ≡ a → ⊥) → suc a ≤ b
above a b l d = by (sides a b)
  where
    by : Sides a b → suc a ≤ b
    by (less h) = h
    by (equal h) = absurd (d (sym h))
    by (greater h) = absurd (omega arith)

module _ (m : ℕ) where
  with_in : (from : ℕ) (r : Row) (rs : List Row) → is_in m r.atoms ≡ true → row_with from m (r ∷ rs) ≡ from
  unfolding row_with
  with_in from r rs e = rw (e, row_with)

  with_out : (from : ℕ) (r : Row) (rs : List Row) → is_in m r.atoms ≡ false → row_with from m (r ∷ rs) ≡ row_with (suc from) m rs
  unfolding row_with
  with_out from r rs e = rw (e, row_with)

  with_nil : (from : ℕ) → row_with from m [] ≡ 0
  unfolding row_with
  with_nil from = refl

module _ (n : ℕ) (cs : List ℕ) (i : ℕ) where
  row_passed : (j : ℕ) (vs : List ℤ) → get_or cs i 0 < j → row_with j (n + i) (rows_by j n cs vs) ≡ 0
  row_passed j [] h = ap (row_with j (n + i)) (rows_nil j n cs) ∙ with_nil (n + i) j
  row_passed j (v ∷ vs) h =
      ap (row_with j (n + i)) (rows_cons j n cs v vs)
      ∙ with_out (n + i) j (row (members j n cs) v 0) (rows_by (suc j) n cs vs) (members_has j n cs i (omega arith) ∙ ne_eqb (get_or cs i 0) j (λ q. omega arith)) ∙ row_passed (suc j) vs (omega arith)

  row_found : (j : ℕ) (vs : List ℤ) → 0 < j → j ≤ get_or cs i 0 → get_or cs i 0 < j + length vs → row_with j (n + i) (rows_by j n cs vs) ≡ get_or cs i 0
  row_found j [] p h k = absurd (omega arith)
  row_found j (v ∷ vs) p h k = by (eqb (get_or cs i 0) j) refl (row_found (suc j) vs)
    where
      by : (t : Bool) → eqb (get_or cs i 0) j ≡ t
          → (0 < suc j → suc j ≤ get_or cs i 0 → get_or cs i 0 < suc j + length vs → row_with (suc j) (n + i) (rows_by (suc j) n cs vs) ≡ get_or cs i 0) → row_with j (n + i) (rows_by j n cs (v ∷ vs)) ≡ get_or cs i 0
      by true e ih =
          ap (row_with j (n + i)) (rows_cons j n cs v vs) ∙ with_in (n + i) j (row (members j n cs) v 0) (rows_by (suc j) n cs vs) (members_has j n cs i p ∙ e) ∙ sym (eqb-true (get_or cs i 0) j e)
      by false e ih =
          ap (row_with j (n + i)) (rows_cons j n cs v vs) ∙ with_out (n + i) j (row (members j n cs) v 0) (rows_by (suc j) n cs vs) (members_has j n cs i p ∙ e)
          ∙ ih (omega arith) (above j (get_or cs i 0) h (eqb-false (get_or cs i 0) j e)) (omega arith)

  pub row_number : (vs : List ℤ) → get_or cs i 0 ≤ length vs → row_with 1 (n + i) (rows_by 1 n cs vs) ≡ get_or cs i 0
  row_number vs h = by (eqb (get_or cs i 0) 0) refl
    where
      by : (t : Bool) → eqb (get_or cs i 0) 0 ≡ t → row_with 1 (n + i) (rows_by 1 n cs vs) ≡ get_or cs i 0
      by true e = let q : get_or cs i 0 ≡ 0 = eqb-true (get_or cs i 0) 0 e in row_passed 1 vs (omega arith) ∙ sym q
      by false e = row_found 1 vs (omega arith) (above 0 (get_or cs i 0) (omega arith) (eqb-false (get_or cs i 0) 0 e)) (omega arith)

-- a row of any number of atoms that are listed and ascend is fine if its value is
spread_fine : (l : ListOf) → arity l ≡ 0 → (n : ℕ) (ns : List ℕ) (v : ℤ) → all (within 1 n) ns ≡ true → ascends ltb ns ≡ true → row_ok l n (row ns v 0) ≡ ranged l v
unfolding row_ok group_ok
spread_fine l q n ns v h a = rw (q, h, a) (and-true (ranged l v))

-- THE DEFINITIONS' ROWS
column_nil : (p : ℕ) → column p [] ≡ []
unfolding column
column_nil p = refl

column_cons : (p : ℕ) (a : List ℤ) (records : List (List ℤ)) → column p (a ∷ records) ≡ cell a p ∷ column p records
unfolding column
column_cons p a records = refl

pub column_length : (p : ℕ) (records : List (List ℤ)) → length (column p records) ≡ length records
column_length p [] = ap length (column_nil p)
column_length p (a ∷ records) = ap length (column_cons p a records) ∙ ap suc (column_length p records)

pub column_at : (p : ℕ) (records : List (List ℤ)) (i : ℕ) → get_or (column p records) i 0 ≡ cell (get_or records i []) p
column_at p [] i = ap (λ (l : List ℕ). get_or l i 0) (column_nil p)
column_at p (a ∷ records) zero = ap (λ (l : List ℕ). get_or l 0 0) (column_cons p a records)
column_at p (a ∷ records) (suc i) = ap (λ (l : List ℕ). get_or l (suc i) 0) (column_cons p a records) ∙ column_at p records i

members_are : (p j n : ℕ) (records : List (List ℤ)) → members_at p j n records ≡ members j n (column p records)
unfolding members_at
members_are p j n [] = sym (ap (members j n) (column_nil p) ∙ members_nil j n)
members_are p j n (a ∷ records) = by (eqb (cell a p) j) refl (members_are p j (suc n) records)
  where
    by : (t : Bool) → eqb (cell a p) j ≡ t → members_at p j (suc n) records ≡ members j (suc n) (column p records) → members_at p j n (a ∷ records) ≡ members j n (column p (a ∷ records))
    by true e ih = rw (e, members_at) (ap (λ (l : List ℕ). n ∷ l) ih ∙ sym (ap (members j n) (column_cons p a records) ∙ members_in_lem j n (cell a p) (column p records) (eqb-true (cell a p) j e)))
    by false e ih = rw (e, members_at) (ih ∙ sym (ap (members j n) (column_cons p a records) ∙ members_out j n (cell a p) (column p records) (eqb-false (cell a p) j e)))

pub rows_are : (p j : ℕ) (records : List (List ℤ)) (vs : List ℤ) → spread_at p j records vs ≡ rows_by j 1 (column p records) vs
unfolding spread_at rows_by
rows_are p j records [] = refl
rows_are p j records (v ∷ vs) = rw (members_are p j 1 records, rows_are p (suc j) records vs)

module _ (p : ℕ) (records : List (List ℤ)) (vs : List ℤ) where
  -- each atom's row has the number that its record holds
  pub row_back : (i : ℕ) → cell (get_or records i []) p ≤ length vs → row_with 1 (1 + i) (spread_at p 1 records vs) ≡ cell (get_or records i []) p
  row_back i h =
      ap (row_with 1 (1 + i)) (rows_are p 1 records vs) ∙ row_number 1 (column p records) i vs (omega (arith, column_at p records i)) ∙ column_at p records i

  -- a row of the list is fine if its value is
  module _ (l : ListOf) (q : arity l ≡ 0) where
    pub rows_fine : all (row_ok l (length records)) (spread_at p 1 records vs) ≡ all (ranged l) vs
    rows_fine = ap (all (row_ok l (length records))) (rows_are p 1 records vs) ∙ each 1 vs
      where
        listed : (j : ℕ) → all (within 1 (length records)) (members j 1 (column p records)) ≡ true
        listed j = members_listed j 1 (length records) (column p records) (omega (arith, column_length p records))

        fine : (j : ℕ) (v : ℤ) → row_ok l (length records) (row (members j 1 (column p records)) v 0) ≡ ranged l v
        fine j v = spread_fine l q (length records) (members j 1 (column p records)) v (listed j) (members_ascend j 1 (column p records))

        each : (j : ℕ) (us : List ℤ) → all (row_ok l (length records)) (rows_by j 1 (column p records) us) ≡ all (ranged l) us
        each j [] = ap (all (row_ok l (length records))) (rows_nil j 1 (column p records)) ∙ all_nil (row_ok l (length records)) ∙ sym (all_nil (ranged l))
        each j (u ∷ us) =
            ap (all (row_ok l (length records))) (rows_cons j 1 (column p records) u us)
            ∙ all_cons (row_ok l (length records)) (row (members j 1 (column p records)) u 0) (rows_by (suc j) 1 (column p records) us)
            ∙ rw (fine j u, each (suc j) us) (sym (all_cons (ranged l) u us))
