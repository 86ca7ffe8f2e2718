-- What is lent to a reading: when it is short, what clearing and filling leave of it, and the rows of XYZ in the table's first 1,024 numbers. Document 01, "The structure
-- table"; document 02, L2. Assumes nothing.
use Prim.Native.Nat.{ℕ, ◌+◌, ◌*◌, ◌≤◌}
use mathlib.Core.Path.{◌≡◌, sym, ap, ◌∙◌}
use mathlib.Core.Bool.{Bool, false, ◌||◌}
use mathlib.Core.List.{List, ◌++◌, map}
use native.Mathlib.Omega.{arith}
use lib.ListN.{length, take, drop, get_or, length-append, length-drop}
use lib.Seq.{drop-append-add, drop-drop, length-take-le}
use lib.IntN.{ℤ}
use lib.Ieee.{Float}
use lib.Dec.{ltb}
use borrow.Author.Tests.{le-ltb}
use Rattle.format.specs.Bytes.{Bytes}
use Rattle.format.specs.Coordinates.{factor, position_table}
use Rattle.format.specs.Reading.{State, finished, span_of}
use Rattle.format.specs.Table.{zeros, noughts, encode, Lent, lent, short, cleared}
use Rattle.format.proofs.RefusedLaws.{both_long, long_both}
use Rattle.sorted.specs.GeometryRegion.{geometry_region}
use Rattle.sorted.proofs.GeometryLaws.{few_rows}
use Rattle.factor.specs.ShownFactors.{factor_of, factor_from}
use Rattle.factor.specs.declared.Factor.{Factor as Kept}
use Rattle.coordinates.specs.KeptRows.{rows_in, Stored}
use Rattle.coordinates.specs.ShownPositions.{fronted}
use Rattle.coordinates.specs.Filled.{scaled_table}
use Rattle.coordinates.proofs.ClearLaws.{fronted_long}
use Rattle.coordinates.proofs.FillLaws.{filled_is}
use Rattle.gather.specs.Progress.{Bounded, Holding}
use Rattle.gather.specs.declared.progress.Progress.{Progress}
use Rattle.gather.proofs.LaidLaws.{sized, geometry_seated}
use Rattle.reader.specs.Answers.{Accepts}

-- HOW LONG THE TABLES ARE
pub short_rest : (l : Lent) → 3856 ≤ length l.table → ltb (length l.positions) 1024 ≡ short l
unfolding short
short_rest l h = ap (λ (b : Bool). b || ltb (length l.positions) 1024) (sym (le-ltb (length l.table) 3856 h))

pub same_short : (l m : Lent) → length m.table ≡ length l.table → length m.positions ≡ length l.positions → short l ≡ false → short m ≡ false
same_short l m e f h = let q = long_both l h in both_long m (omega (arith, e, q.0)) (omega (arith, f, q.1))

-- THE ROWS IN THE TABLE'S FRONT
module _ (t w : List ℤ) where
  pub long_over : 1024 ≤ length t → length w ≡ 1024 → length (w ++ drop 1024 t) ≡ length t
  long_over h e = length-append w (drop 1024 t) ∙ omega (arith, e, length-drop 1024 t, h)

  pub beyond_over : length w ≡ 1024 → drop 3856 (w ++ drop 1024 t) ≡ drop 3856 t
  beyond_over e =
      let q : 3856 ≡ length w + 2832 = omega (arith, e) in
      ap (λ (n : ℕ). drop n (w ++ drop 1024 t)) q ∙ drop-append-add w (drop 1024 t) 2832 ∙ drop-drop 2832 1024 t

-- A REFUSAL
pub clears : (l m : Lent) → short l ≡ false → (3856 ≤ length l.table → m.table ≡ zeros 3856 ++ drop 3856 l.table) → m.positions ≡ fronted (noughts 1024) l.positions → m ≡ cleared l
unfolding cleared
clears l m long f g =
    let q = long_both l long in
    ap (λ (x : List ℤ). lent x m.positions) (f q.0) ∙ ap (λ (x : List Float). lent (zeros 3856 ++ drop 3856 l.table) x) (g ∙ fronted_long (noughts 1024) l.positions q.1)

-- AN ACCEPTED BLOCK
module _ (block : Bytes) (p : Progress) (s : List ℕ) (t t' : List ℤ) (q q' : List Float) (digits decimals rows : ℕ) (d : digits ≡ get_or (take 9 (drop 2964 s)) 1 0) (e : decimals ≡ get_or (take 9 (drop 2964 s)) 2 0)
    (n : rows ≡ get_or (take 9 (drop 2964 s)) 3 0) (x : Kept) (made : x ≡ factor_from digits decimals) (f : q' ≡ fronted (scaled_table (factor_of x) (rows_in rows (take 1024 t))) q)
    (g : (k : ℕ) (st : State) → length block ≤ 32768 → Bounded (length block) p → Holding k block p s st → k ≤ 103 → t' ≡ encode (finished st.body) (map span_of st.texts) ++ drop 3856 t) where
  module _ (k : ℕ) (st : State) (b : Bounded (length block) p) (h : Holding k block p s st) where
    part : take 9 (drop 2964 s) ≡ geometry_region st.geometry
    part = ap (λ (x : List ℕ). take 9 (drop 2964 x)) h.scratch ∙ (geometry_seated st (sized p st b.counted h.listed)).0

    digits_is : digits ≡ st.geometry.scale.digits
    unfolding geometry_region
    digits_is = d ∙ ap (λ (x : List ℕ). get_or x 1 0) part

    decimals_is : decimals ≡ st.geometry.scale.decimals
    unfolding geometry_region
    decimals_is = e ∙ ap (λ (x : List ℕ). get_or x 2 0) part

    rows_is : rows ≡ length st.geometry.rows
    unfolding geometry_region
    rows_is = n ∙ ap (λ (x : List ℕ). get_or x 3 0) part

    room : 1024 ≤ length t → 4 * length st.geometry.rows ≤ length (take 1024 t)
    room l = omega (arith, length-take-le 1024 t l, few_rows st.geometry.rows h.geometry.descends, h.geometry.highest, b.counted.atoms)

    table_is : 1024 ≤ length t → Stored (take 1024 t) st.geometry.rows → scaled_table (factor digits decimals) (rows_in rows (take 1024 t)) ≡ position_table st.geometry
    table_is l w =
        ap (λ (m : ℕ). scaled_table (factor m decimals) (rows_in rows (take 1024 t))) digits_is ∙ ap (λ (m : ℕ). scaled_table (factor st.geometry.scale.digits m) (rows_in rows (take 1024 t))) decimals_is
        ∙ ap (λ (m : ℕ). scaled_table st.geometry.scale (rows_in m (take 1024 t))) rows_is ∙ filled_is st.geometry (take 1024 t) w (room l) h.geometry.small h.geometry.decimals

  pub accepts : Accepts block p s (lent t q) (lent t' q')
  accepts k st long short-block b h most w =
      let l = long_both (lent t q) long in
      ap (λ (x : List ℤ). lent x q') (g k st short-block b h most)
      ∙ ap (λ (x : List Float). lent (encode (finished st.body) (map span_of st.texts) ++ drop 3856 t) x) (f ∙ ap (λ (y : Kept). fronted (scaled_table (factor_of y) (rows_in rows (take 1024 t))) q) made ∙ fronted_long _ q l.1 ∙ ap (λ (x : List Float). x ++ drop 1024 q) (table_is k st b h (omega (arith, l.0)) w))
