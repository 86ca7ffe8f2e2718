-- Atoms with a mass, taken cell by cell until so many are taken: what is left afterwards, or that there were fewer. Serves document 01, "for every element and
-- mass, the formula's total .. equals the atoms listed". Assumes nothing.
use Prim.Native.Nat.{ℕ, ◌+◌, ◌-◌, ◌≤◌, ◌<◌}
use mathlib.Core.Path.{◌≡◌, refl, sym, ap, ap₂}
use mathlib.Core.Bool.{Bool, true, false}
use mathlib.Core.List.{List}
use native.Mathlib.Omega.{arith}
use lib.ListN.{length, get_or, set, drop}
use lib.Dec.{eqb}
use borrow.Author.Tests.{eqb-true, eqb-false}
use Rattle.format.specs.Structure.{Isotope, isotope_of, entry}
use Rattle.totals.specs.Left.{cell_of, heavy_of, left_of, left_in, Takes}
use Rattle.totals.specs.declared.left.Left.{Left}
use Rattle.totals.proofs.LeftLaws.{total_own, total_other, element_apart, mass_apart, left_heavy, heavy_drop, heavy_past, heavy_struck, takes_none, takes_both}

-- ONE CELL
module _ (es ms : List ℕ) (p e m : ℕ) where
  pub cell_mass : (get_or ms p 0 ≡ m → ⊥) → cell_of (isotope_of e m) (get_or es p 0) (get_or ms p 0) ≡ 0
  cell_mass h = total_other (isotope_of e m) (isotope_of (get_or es p 0) (get_or ms p 0)) 1 (mass_apart (isotope_of e m) (get_or es p 0) (get_or ms p 0) (λ q. h (sym q)))

  pub cell_element : (get_or es p 0 ≡ e → ⊥) → cell_of (isotope_of e m) (get_or es p 0) (get_or ms p 0) ≡ 0
  cell_element h = total_other (isotope_of e m) (isotope_of (get_or es p 0) (get_or ms p 0)) 1 (element_apart (isotope_of e m) (get_or es p 0) (get_or ms p 0) (λ q. h (sym q)))

  pub cell_own : get_or ms p 0 ≡ m → get_or es p 0 ≡ e → cell_of (isotope_of e m) (get_or es p 0) (get_or ms p 0) ≡ 1
  cell_own h k = rw (h, k) (total_own (isotope_of e m) 1)

  pub cell_struck : get_or ms p 0 ≡ m → get_or es p 0 ≡ e → p < length es → p < length ms → 0 < m → (cs : List ℕ) → Takes (left_of cs es ms) (left_of cs es (set ms p 0)) (entry (isotope_of e m) 1) true
  cell_struck h k le lm z cs = rw (← h, ← k) (heavy_struck cs es ms p le lm (omega arith))

-- CELL BY CELL: so many are still owed, and from a cell on stand all that are left
pub record Striking (old : Left) (k : Isotope) (n : ℕ) (now : Left) (owed place : ℕ) : Type 0 where
  pub taken : Takes (left_in old) (left_in now) (entry k (n - owed)) true
  pub ahead : heavy_of k now.elements now.masses ≡ heavy_of k (drop place now.elements) (drop place now.masses)

module _ (k : Isotope) (n : ℕ) where
  pub strike_starts : (l : Left) → Striking l k n l n 0
  strike_starts l =
      let q : 0 ≡ n - n = omega arith in
      record { taken = rw (← q) (takes_none (left_in l) k); ahead = refl }

  module _ (old now : Left) (owed place : ℕ) (g : Striking old k n now owed place) (heavy : 0 < k.mass) (low : owed ≤ n) where
    pub strike_goes : (next : Left) (r : ℕ) → r ≤ owed → place < 256 → next.elements ≡ now.elements → drop (place + 1) next.masses ≡ drop (place + 1) now.masses → cell_of k (get_or now.elements place 0) (get_or now.masses place 0) ≡ r →
        Takes (left_in now) (left_in next) (entry k r) true → Striking old k n next (owed - r) (place + 1)
    strike_goes next r h few el d c t =
        let q : n - owed + r ≡ n - (owed - r) = omega arith in
        let e : heavy_of k (drop (place + 1) next.elements) (drop (place + 1) next.masses) ≡ heavy_of k (drop (place + 1) now.elements) (drop (place + 1) now.masses) = ap₂ (heavy_of k) (ap (drop (place + 1)) el) d in
        record {
          taken = rw (← q) (takes_both (left_in old) (left_in now) (left_in next) k (n - owed) r g.taken t);
          ahead =
              omega (
                arith,
                t k,
                total_own k r,
                left_heavy now.counts now.elements now.masses k heavy,
                left_heavy next.counts next.elements next.masses k heavy,
                g.ahead,
                heavy_drop k now.elements now.masses place (omega (arith, now.elements_long)) (omega (arith, now.masses_long)),
                c,
                e,
              );
        }

    pub strike_done : owed ≡ 0 → Takes (left_in old) (left_in now) (entry k n) true
    strike_done z = let q : n - owed ≡ n = omega arith in rw (← q) g.taken

    strike_short : 0 < owed → 256 ≤ place → Takes (left_in old) (left_in now) (entry k n) false
    strike_short z h =
        omega (arith, g.taken k, total_own k (n - owed), left_heavy now.counts now.elements now.masses k heavy, g.ahead, heavy_past k now.elements now.masses place (omega (arith, now.masses_long)))

    pub strike_ends : 256 ≤ place → Takes (left_in old) (left_in now) (entry k n) (eqb owed 0)
    strike_ends h = go (eqb owed 0) refl
      where
        go : (t : Bool) → eqb owed 0 ≡ t → Takes (left_in old) (left_in now) (entry k n) t
        go true e = strike_done (eqb-true owed 0 e)
        go false e = strike_short (omega (arith, eqb-false owed 0 e)) h
