-- The latest row of the region in the store of rows: document 02, L2. Assumes nothing.
use Rattle.std.proofs.Common.{◌≡◌, ℕ, ◌-◌, ◌<◌, ◌≤◌, true, List, ◌∷◌, length, get_or, ℤ, sym, refl, ap, ◌∙◌, subst, arith}
use Rattle.lists.specs.Lists.{all}
use Rattle.lists.proofs.ListLaws.{all_parts}
use Rattle.format.specs.Coordinates.{XyzRow, Geometry, geometry}
use Rattle.rows.specs.Raised.{row_small, xyz_row_of}
use Rattle.rows.specs.declared.xyz.XyzRow.{XyzRow as Raised}
use Rattle.rows.proofs.XyzLaws.{lowered_raised, three_small}
use Rattle.sorted.specs.GeometryRegion.{latest_atom, geometry_region}
use Rattle.coordinates.specs.KeptRows.{kept, Stored}
use Rattle.coordinates.proofs.KeptLaws.{kept_length, kept_stored}
use Rattle.geometry.specs.LatestStored.{LatestStored}
use Rattle.sorted.proofs.GeometryLaws.{region_nine}

pub store_more : (w : List ℤ) (k : Raised) (rs : List XyzRow) (i : ℕ) → i ≡ length rs → row_small (xyz_row_of k) ≡ true → k.atom ≤ 2000000 → Stored w rs → Stored (kept w i k) (xyz_row_of k ∷ rs)
store_more w k rs i e small low s = rw e (kept_stored w k rs small low s)

-- how many rows the region counts
pub count_is : (region : List ℕ) (g : Geometry) → region ≡ geometry_region g → get_or region 3 0 ≡ length g.rows
unfolding geometry_region
count_is region g e = ap (λ (t : List ℕ). get_or t 3 0) e

-- WHERE NOTHING IS TO BE KEPT
module _ (region : List ℕ) (w : List ℤ) where
  pub latest_other : (length region ≡ 9 → ⊥) → LatestStored region w w
  latest_other h = record {
    long = refl;
    other = λ o. refl;
    none = λ g e n. refl;
    more = λ g r rs e f n s. absurd (h (ap length e ∙ region_nine g));
  }

  pub latest_none : length region ≡ 9 → get_or region 3 0 < 1 → LatestStored region w w
  latest_none nine h = record {
    long = refl;
    other = λ o. refl;
    none = λ g e n. refl;
    more = λ g r rs e f n s. absurd (omega (arith, count_is region g e, ap length n));
  }

  -- its cells are the latest row's
  abbrev latest : Raised
  latest = record { atom = get_or region 5 0; x = get_or region 6 0; y = get_or region 7 0; z = get_or region 8 0 }

  latest_is : (g : Geometry) (r : XyzRow) (rs : List XyzRow) → region ≡ geometry_region g → g.rows ≡ r ∷ rs → row_small r ≡ true → xyz_row_of latest ≡ r
  unfolding geometry_region
  latest_is g r rs e n small =
      let q : region ≡ geometry_region (geometry g.greatest g.scale (r ∷ rs)) = e ∙ ap (λ (t : List XyzRow). geometry_region (geometry g.greatest g.scale t)) n in
      let s = three_small r small in
      rw q (rw (lowered_raised r.x s.0, lowered_raised r.y s.1, lowered_raised r.z s.2) refl)

  pub latest_kept : length region ≡ 9 → 1 ≤ get_or region 3 0 → (after : List ℤ) → after ≡ kept w (get_or region 3 0 - 1) latest → LatestStored region w after
  latest_kept nine h after p = record {
    long = ap length p ∙ kept_length w (get_or region 3 0 - 1) latest;
    other = λ o. absurd (o nine);
    none = λ g e n. absurd (omega (arith, count_is region g e, ap length n));
    more = λ g r rs e f n s.
        let small : row_small r ≡ true = (all_parts row_small r rs (sym (ap (all row_small) n) ∙ f.small)).0 in
        let low : r.atom ≤ 256 = subst (λ (t : List XyzRow). latest_atom t ≤ 256) n f.highest in
        let same : xyz_row_of latest ≡ r = latest_is g r rs e n small in
        subst (λ (t : List ℤ). Stored t (r ∷ rs)) (sym p)
        (subst (λ (q : XyzRow). Stored (kept w (get_or region 3 0 - 1) latest) (q ∷ rs)) same
        (store_more w latest rs (get_or region 3 0 - 1) (omega (arith, count_is region g e, ap length n)) (ap row_small same ∙ small) (omega (arith, ap (λ (q : XyzRow). q.atom) same)) s));
  }
