-- The values of charge or radical rows, put one after another to the places that their rows have in the sorted list, are the values of the sorted rows. Document 01, "The
-- structure table": "64 charge values, 64 radical values". Assumes nothing.
use Prim.Native.Nat.{ℕ, zero, suc, ◌+◌, ◌-◌, ◌≤◌, ◌<◌}
use mathlib.Core.Path.{◌≡◌, refl, sym, ap, ◌∙◌}
use mathlib.Core.Bool.{Bool, true, false}
use mathlib.Core.List.{List, [], ◌∷◌, map}
use native.Mathlib.Omega.{arith}
use lib.ListN.{length, take, drop, get_or, set, replicate, length-set, length-map}
use lib.Seq.{ext_get_or, get_or-set_same, get_or-set_other}
use lib.Dec.{eqb, ltb}
use borrow.Author.Tests.{eqb-true, eqb-false, ltb-true, ltb-false}
use Rattle.lists.proofs.IndexLaws.{noughts_at}
use Rattle.lists.specs.Lists.{filled}
use Rattle.lists.specs.Order.{sort}
use Rattle.lists.proofs.PartLaws.{filled_is, filled_length, get_d_past}
use Rattle.lists.proofs.SortLaws.{sort_length}
use Rattle.format.specs.Rows.{Row}
use Rattle.format.specs.Structure.{row_before}
use Rattle.sorted.specs.Regions.{arrived, coded, spread_region}
use Rattle.spread.proofs.PlaceLaws.{arrived_length, get_d_front, code_of}
use Rattle.numbering.specs.Numbering.{Renumbered, put_at, through}
use Rattle.numbering.proofs.RenumberLaws.{blank_at}
use Rattle.numbering.proofs.OrderingLaws.{put_is, through_nil, through_cons, region_values}

-- A FILLED LIST at an index
filled_front : (n : ℕ) (l : List ℕ) (i : ℕ) → i < length l → get_or (filled 0 n l) i 0 ≡ get_or l i 0
filled_front n l i h = ap (λ (m : List ℕ). get_or m i 0) (filled_is 0 n l) ∙ get_d_front l (replicate (n - length l) 0) i h

filled_behind : (n : ℕ) (l : List ℕ) (i : ℕ) → length l ≤ i → get_or (filled 0 n l) i 0 ≡ 0
filled_behind n l i h = ap (λ (m : List ℕ). get_or m i 0) (filled_is 0 n l) ∙ get_d_past 0 i l (replicate (n - length l) 0) h ∙ noughts_at (n - length l) (i - length l)

module _ (order whole : List ℕ) where
  -- the value of row i stands at its place in the whole
  pub record Placed (i v : ℕ) : Type 0 where
    pub low : 1 ≤ get_or order (suc i) 0
    pub high : get_or order (suc i) 0 ≤ 64
    pub is : get_or whole (get_or order (suc i) 0 - 1) 0 ≡ v

  abbrev EachPlaced : ℕ → List ℕ → Type 0
  EachPlaced i vs = (k : ℕ) → k < length vs → Placed (i + k) (get_or vs k 0)

  first_placed : (i v : ℕ) (vs : List ℕ) → EachPlaced i (v ∷ vs) → Placed i v
  first_placed i v vs h = let e : i + 0 ≡ i = omega arith in rw (← e) (h 0 (omega arith))

  rest_placed : (i v : ℕ) (vs : List ℕ) → EachPlaced i (v ∷ vs) → EachPlaced (suc i) vs
  rest_placed i v vs h k l = let e : i + suc k ≡ suc i + k = omega arith in rw (← e) (h (suc k) (omega arith))

  -- one value put
  module _ (i v : ℕ) (p : Placed i v) (t : List ℕ) (long : length t ≡ 64) where
    put_set : put_at (get_or order (suc i) 0) v t ≡ set t (get_or order (suc i) 0 - 1) v
    put_set = sym (put_is (get_or order (suc i) 0) v t (λ e. omega (arith, e, p.low)) (omega (arith, p.high, long)))

    put_long : length (put_at (get_or order (suc i) 0) v t) ≡ 64
    put_long = ap length put_set ∙ length-set t (get_or order (suc i) 0 - 1) v ∙ long

    put_here : get_or (put_at (get_or order (suc i) 0) v t) (get_or order (suc i) 0 - 1) 0 ≡ get_or whole (get_or order (suc i) 0 - 1) 0
    put_here =
        ap (λ (l : List ℕ). get_or l (get_or order (suc i) 0 - 1) 0) put_set ∙ get_or-set_same t (get_or order (suc i) 0 - 1) v 0 (omega (arith, p.low, p.high, long)) ∙ sym p.is

    put_keeps : (j : ℕ) → get_or t j 0 ≡ get_or whole j 0 → get_or (put_at (get_or order (suc i) 0) v t) j 0 ≡ get_or whole j 0
    put_keeps j e = go (eqb j (get_or order (suc i) 0 - 1)) refl
      where
        go : (b : Bool) → eqb j (get_or order (suc i) 0 - 1) ≡ b → get_or (put_at (get_or order (suc i) 0) v t) j 0 ≡ get_or whole j 0
        go true f = let q : j ≡ get_or order (suc i) 0 - 1 = eqb-true j (get_or order (suc i) 0 - 1) f in rw q put_here
        go false f = ap (λ (l : List ℕ). get_or l j 0) put_set ∙ get_or-set_other t (get_or order (suc i) 0 - 1) j v 0 (eqb-false j (get_or order (suc i) 0 - 1) f) ∙ e

  -- all of them
  through_long : (vs : List ℕ) (i : ℕ) (t : List ℕ) → length t ≡ 64 → EachPlaced i vs → length (through order i vs t) ≡ 64
  through_long [] i t l h = ap length (through_nil order i t) ∙ l
  through_long (v ∷ vs) i t l h =
      ap length (through_cons order i v vs t) ∙ through_long vs (suc i) (put_at (get_or order (suc i) 0) v t) (put_long i v (first_placed i v vs h) t l) (rest_placed i v vs h)

  through_keeps : (vs : List ℕ) (i : ℕ) (t : List ℕ) → length t ≡ 64 → EachPlaced i vs → (j : ℕ) → get_or t j 0 ≡ get_or whole j 0 → get_or (through order i vs t) j 0 ≡ get_or whole j 0
  through_keeps [] i t l h j e = ap (λ (u : List ℕ). get_or u j 0) (through_nil order i t) ∙ e
  through_keeps (v ∷ vs) i t l h j e =
      ap (λ (u : List ℕ). get_or u j 0) (through_cons order i v vs t)
      ∙ through_keeps vs (suc i) (put_at (get_or order (suc i) 0) v t) (put_long i v (first_placed i v vs h) t l) (rest_placed i v vs h) j (put_keeps i v (first_placed i v vs h) t l j e)

  through_reaches : (vs : List ℕ) (i : ℕ) (t : List ℕ) → length t ≡ 64 → EachPlaced i vs → (k : ℕ) → k < length vs
      → get_or (through order i vs t) (get_or order (suc (i + k)) 0 - 1) 0 ≡ get_or whole (get_or order (suc (i + k)) 0 - 1) 0
  through_reaches [] i t l h k g = absurd (omega arith)
  through_reaches (v ∷ vs) i t l h zero g =
      let e : i ≡ i + 0 = omega arith in
      let p = first_placed i v vs h in
      rw (← e) (ap (λ (u : List ℕ). get_or u (get_or order (suc i) 0 - 1) 0) (through_cons order i v vs t)
      ∙ through_keeps vs (suc i) (put_at (get_or order (suc i) 0) v t) (put_long i v p t l) (rest_placed i v vs h) (get_or order (suc i) 0 - 1) (put_here i v p t l))
  through_reaches (v ∷ vs) i t l h (suc k) g =
      let e : suc i + k ≡ i + suc k = omega arith in
      rw (← e) (ap (λ (u : List ℕ). get_or u (get_or order (suc (suc i + k)) 0 - 1) 0) (through_cons order i v vs t)
      ∙ through_reaches vs (suc i) (put_at (get_or order (suc i) 0) v t) (put_long i v (first_placed i v vs h) t l) (rest_placed i v vs h) k (omega arith))

-- THE SORTED VALUES
module _ (rs : List Row) (order : List ℕ) (R : Renumbered rs order) (few : length rs ≤ 64) where
  abbrev sorted_codes : List ℕ
  sorted_codes = map code_of (sort row_before rs)

  codes_length : length sorted_codes ≡ length rs
  codes_length = length-map (sort row_before rs) code_of ∙ sort_length row_before rs

  abbrev table : List ℕ
  table = filled 0 64 sorted_codes

  each : EachPlaced order table 0 (arrived rs)
  each k l =
      let e : 0 + k ≡ k = omega arith in
      let m : k < length rs = omega (arith, arrived_length rs) in
      rw e (record {
        low = R.low k m;
        high = omega (arith, R.high k m);
        is = filled_front 64 sorted_codes (get_or order (suc k) 0 - 1) (omega (arith, codes_length, R.low k m, R.high k m)) ∙ R.values k m;
      })

  pub values_through : through order 0 (arrived rs) (filled 0 64 []) ≡ filled 0 64 (map (λ r. coded r.value) (sort row_before rs))
  values_through = ext_get_or 0 (through order 0 (arrived rs) (filled 0 64 [])) table (long ∙ sym (filled_length 0 64 sorted_codes (omega (arith, codes_length)))) (λ j l. go j (ltb j (length rs)) refl)
    where
      blank : length (filled {A = ℕ} 0 64 []) ≡ 64
      blank = filled_length 0 64 [] (omega arith)

      long : length (through order 0 (arrived rs) (filled 0 64 [])) ≡ 64
      long = through_long order table (arrived rs) 0 (filled 0 64 []) blank each

      go : (j : ℕ) (t : Bool) → ltb j (length rs) ≡ t → get_or (through order 0 (arrived rs) (filled 0 64 [])) j 0 ≡ get_or table j 0
      go j true e =
          let x = R.onto j (ltb-true j (length rs) e) in
          let q : get_or order (suc (0 + x.0)) 0 - 1 ≡ j = ap (λ (n : ℕ). get_or order (suc n) 0 - 1) (let z : 0 + x.0 ≡ x.0 = omega arith in z) ∙ omega (arith, x.2) in
          rw (← q) (through_reaches order table (arrived rs) 0 (filled 0 64 []) blank each x.0 (omega (arith, arrived_length rs, x.1)))
      go j false e =
          through_keeps order table (arrived rs) 0 (filled 0 64 []) blank each j (blank_at 64 j ∙ sym (filled_behind 64 sorted_codes j (omega (arith, codes_length, ltb-false j (length rs) e))))

pub values_are : (region order t t' : List ℕ) (rows : ℕ) → through order 0 (take rows (drop 256 region)) t ≡ t' → rows ≤ 64
    → (rs : List Row) → length rs ≡ rows → region ≡ spread_region rs → Renumbered rs order → t ≡ filled 0 64 [] → t' ≡ filled 0 64 (map (λ r. coded r.value) (sort row_before rs))
values_are region order t t' rows e low rs len is R blank =
    let few : length rs ≤ 64 = omega (arith, len) in
    sym e ∙ ap (λ (l : List ℕ). through order 0 (take rows (drop 256 l)) t) is ∙ ap (λ (n : ℕ). through order 0 (take n (drop 256 (spread_region rs))) t) (sym len)
    ∙ ap (λ (l : List ℕ). through order 0 l t) (region_values rs few) ∙ ap (through order 0 (arrived rs)) blank ∙ values_through rs order R few
