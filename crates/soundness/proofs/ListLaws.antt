-- A list's region of the table: it is fine if and only if the list's rows are, and the region is theirs. Once for bonds, centres and pairs, once for charges and radicals.
-- Serves document 01, "The structure table". Assumes nothing.
use Prim.Native.Nat.{ℕ, suc, ◌+◌, ◌-◌, ◌*◌, ◌≤◌, ◌<◌}
use mathlib.Core.Path.{◌≡◌, refl, sym, ap, ◌∙◌}
use mathlib.Core.Bool.{Bool, true, false, not, ◌&&◌}
use mathlib.Core.List.{List, [], ◌∷◌}
use native.Mathlib.Nat.{mul-le-mul_left}
use native.Mathlib.Omega.{arith}
use lib.ListN.{length, take, drop, length-drop}
use lib.Seq.{length-take-le}
use lib.IntN.{ℤ, pos}
use lib.Dec.{leb, ltb}
use borrow.Author.Tests.{leb-true, le-leb, not-true}
use Rattle.lists.specs.Lists.{all, pairs, flat, filled, rows_from}
use Rattle.lists.specs.Order.{ascends}
use Rattle.lists.proofs.Bools.{and_parts, and_both}
use Rattle.lists.proofs.ListLaws.{all_same}
use Rattle.lists.proofs.RegionLaws.{rows_length}
use Rattle.format.specs.Labels.{ListOf, Charges, Radicals}
use Rattle.format.specs.Rows.{Row}
use Rattle.format.specs.Structure.{arity, meets, overlap, ranged, row_before, row_ok}
use Rattle.format.specs.Table.{row_cells, spread_at}
use Rattle.soundness.specs.Numbered.{column, in_turn, up_to}
use Rattle.soundness.specs.Sounding.{unused, value_fine}
use Rattle.soundness.proofs.SplitLaws.{region_split, region_joined}
use Rattle.soundness.proofs.KeyLaws.{Keyed}
use Rattle.soundness.proofs.KeyedLaws.{Says, cells_long, keyed_there, keyed_back}
use Rattle.soundness.proofs.NumberedLaws as numbered
use Rattle.soundness.proofs.InTurnLaws.{charges_meet, radicals_meet, in_turn_lem}

-- A LIST'S ROWS, n atoms and m rows at most; the test of the definitions, and its parts
abbrev pub rows_test : ListOf → (n m : ℕ) → List Row → Bool
rows_test l n m rs = leb (length rs) m && (all (row_ok l n) rs && (ascends row_before rs && not (pairs (meets l) rs)))

pub record FineList (l : ListOf) (n m : ℕ) (rs : List Row) : Type 0 where
  pub few : length rs ≤ m
  pub fine : all (row_ok l n) rs ≡ true
  pub ascending : ascends row_before rs ≡ true
  pub apart : pairs (meets l) rs ≡ false

pub list_parts : (l : ListOf) (n m : ℕ) (rs : List Row) → rows_test l n m rs ≡ true → FineList l n m rs
list_parts l n m rs h =
    let p = and_parts (leb (length rs) m) _ h in
    let q = and_parts (all (row_ok l n) rs) _ p.1 in
    let r = and_parts (ascends row_before rs) (not (pairs (meets l) rs)) q.1 in
    record { few = leb-true (length rs) m p.0; fine = q.0; ascending = r.0; apart = not-true (pairs (meets l) rs) r.1 }

pub list_test_lem : (l : ListOf) (n m : ℕ) (rs : List Row) → FineList l n m rs → rows_test l n m rs ≡ true
list_test_lem l n m rs f = rw (le-leb (length rs) m f.few, f.fine, f.ascending, f.apart)

-- BONDS, CENTRES, PAIRS
module _ (l : ListOf) (n w : ℕ) (row_at : List ℤ → Row) (key : List ℤ → ℕ) (S : Says l n w row_at key) (K : Keyed l) (small : n < 1024) (t : List ℤ) (base m c : ℕ) (few : c ≤ m)
    (long : base + w * m ≤ length t) where
  abbrev keyed_rows : List Row
  keyed_rows = rows_from w row_at c (drop base t)

  within_room : w * c ≤ w * m
  within_room = mul-le-mul_left w few

  within_table : w * c ≤ length (drop base t)
  within_table = omega (arith, within_room, length-drop base t)

  cells_are : length (flat (row_cells l) keyed_rows) ≡ w * c
  cells_are = cells_long l n w row_at key S c (drop base t) within_table

  pub keyed_region_lem : (ascends ltb (0 ∷ rows_from w key c (drop base t)) && unused (take (w * m - w * c) (drop (base + w * c) t))) ≡ true →
      FineList l n m keyed_rows × (filled (pos 0) (w * m) (flat (row_cells l) keyed_rows) ≡ take (w * m) (drop base t))
  keyed_region_lem h =
      let p = and_parts (ascends ltb (0 ∷ rows_from w key c (drop base t))) _ h in
      let a = keyed_there l n w row_at key S K small c (drop base t) within_table p.0 in (
        record { few = omega (arith, rows_length w row_at c (drop base t)); fine = a.0; ascending = a.1; apart = a.2 },
        region_joined t (flat (row_cells l) keyed_rows) base (w * m) (w * c) cells_are within_room long a.3 p.1,
      )

  pub region_keyed : FineList l n m keyed_rows → filled (pos 0) (w * m) (flat (row_cells l) keyed_rows) ≡ take (w * m) (drop base t) →
      (ascends ltb (0 ∷ rows_from w key c (drop base t)) && unused (take (w * m - w * c) (drop (base + w * c) t))) ≡ true
  region_keyed f e =
      let p = region_split t (flat (row_cells l) keyed_rows) base (w * m) (w * c) cells_are within_room long e in
      and_both (ascends ltb (0 ∷ rows_from w key c (drop base t))) _ (keyed_back l n w row_at key S K small c (drop base t) within_table f.fine f.ascending p.0) p.1

-- CHARGES, RADICALS
abbrev overlaps : Row → Row → Bool
overlaps r s = overlap r.atoms s.atoms

pub record Spread (l : ListOf) (signed : Bool) : Type 0 where
  pub none : arity l ≡ 0
  pub values_are : (v : ℤ) → value_fine signed v ≡ ranged l v
  pub meeting : (rs : List Row) → pairs (meets l) rs ≡ pairs overlaps rs
  pub cells : (p j : ℕ) (records : List (List ℤ)) (vs : List ℤ) → flat (row_cells l) (spread_at p j records vs) ≡ vs

charge_cells : (p j : ℕ) (records : List (List ℤ)) (vs : List ℤ) → flat (row_cells Charges) (spread_at p j records vs) ≡ vs
unfolding spread_at flat row_cells
charge_cells p j records [] = refl
charge_cells p j records (v ∷ vs) = ap (λ (l : List ℤ). v ∷ l) (charge_cells p (suc j) records vs)

radical_cells : (p j : ℕ) (records : List (List ℤ)) (vs : List ℤ) → flat (row_cells Radicals) (spread_at p j records vs) ≡ vs
unfolding spread_at flat row_cells
radical_cells p j records [] = refl
radical_cells p j records (v ∷ vs) = ap (λ (l : List ℤ). v ∷ l) (radical_cells p (suc j) records vs)

pub charges_spread : Spread Charges true
unfolding arity value_fine ranged
charges_spread = record { none = refl; values_are = λ v. refl; meeting = charges_meet; cells = charge_cells }

pub radicals_spread : Spread Radicals false
unfolding arity value_fine ranged
radicals_spread = record { none = refl; values_are = λ v. refl; meeting = radicals_meet; cells = radical_cells }

pub spread_many : (p : ℕ) (records : List (List ℤ)) (vs : List ℤ) → length (spread_at p 1 records vs) ≡ length vs
spread_many p records vs = ap length (numbered.rows_are p 1 records vs) ∙ numbered.rows_length 1 1 (column p records) vs

module _ (l : ListOf) (signed : Bool) (S : Spread l signed) (p n : ℕ) (records : List (List ℤ)) (recorded : length records ≡ n) (t : List ℤ) (base c : ℕ) (few : c ≤ 64) (long : base + 64 ≤ length t)
    (up : up_to c (column p records) ≡ true) where
  abbrev values : List ℤ
  values = take c (drop base t)

  abbrev spread_rows : List Row
  spread_rows = spread_at p 1 records values

  as_many : length values ≡ c
  as_many = length-take-le c (drop base t) (omega (arith, length-drop base t))

  turn_is : in_turn 0 c (column p records) ≡ (ascends row_before spread_rows && not (pairs (meets l) spread_rows))
  turn_is =
      ap (λ (i : ℕ). in_turn 0 i (column p records)) (sym as_many) ∙ in_turn_lem p records values (ap (λ (i : ℕ). up_to i (column p records)) as_many ∙ up)
      ∙ ap (λ (b : Bool). ascends row_before spread_rows && not b) (sym (S.meeting spread_rows))

  cells_same : length (flat (row_cells l) spread_rows) ≡ c
  cells_same = ap length (S.cells p 1 records values) ∙ as_many

  fine_is : all (row_ok l n) spread_rows ≡ all (value_fine signed) values
  fine_is =
      ap (λ (i : ℕ). all (row_ok l i) spread_rows) (sym recorded) ∙ numbered.rows_fine p records values l S.none ∙ sym (all_same (value_fine signed) (ranged l) S.values_are values)

  pub spread_region_lem : ((all (value_fine signed) values && unused (take (64 - c) (drop (base + c) t))) && in_turn 0 c (column p records)) ≡ true →
      FineList l n 64 spread_rows × (filled (pos 0) 64 (flat (row_cells l) spread_rows) ≡ take 64 (drop base t))
  spread_region_lem h =
      let o = and_parts (all (value_fine signed) values && unused (take (64 - c) (drop (base + c) t))) (in_turn 0 c (column p records)) h in
      let v = and_parts (all (value_fine signed) values) (unused (take (64 - c) (drop (base + c) t))) o.0 in
      let q = and_parts (ascends row_before spread_rows) (not (pairs (meets l) spread_rows)) (sym turn_is ∙ o.1) in (
        record { few = omega (arith, spread_many p records values, as_many); fine = fine_is ∙ v.0; ascending = q.0; apart = not-true (pairs (meets l) spread_rows) q.1 },
        region_joined t (flat (row_cells l) spread_rows) base 64 c cells_same few long (S.cells p 1 records values) v.1,
      )

  pub region_spread : FineList l n 64 spread_rows → filled (pos 0) 64 (flat (row_cells l) spread_rows) ≡ take 64 (drop base t) →
      ((all (value_fine signed) values && unused (take (64 - c) (drop (base + c) t))) && in_turn 0 c (column p records)) ≡ true
  region_spread f e = rw (sym fine_is ∙ f.fine, (region_split t (flat (row_cells l) spread_rows) base 64 c cells_same few long e).1, turn_is, f.ascending, f.apart)
