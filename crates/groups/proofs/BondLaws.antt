-- What one bond of the table does to the lowest atoms, and the bonds from one of them on: document 02, L1. Over plain lists. Assumes nothing.
use Prim.Native.Nat.{ℕ, suc, ◌+◌, ◌-◌, ◌*◌, ◌≤◌, ◌<◌}
use mathlib.Core.Path.{◌≡◌, refl, sym, ap, ◌∙◌, subst}
use mathlib.Core.Bool.{true, false}
use mathlib.Core.List.{List, [], ◌∷◌}
use native.Mathlib.Omega.{arith}
use lib.ListN.{length, get_or, drop}
use lib.Seq.{get_or-drop, drop-drop}
use lib.IntN.{ℤ, pos, nat_abs}
use Rattle.lists.specs.Lists.{all, count_up, rows_from}
use Rattle.lists.proofs.ListLaws.{all_parts}
use Rattle.lists.proofs.RegionLaws.{rows_zero, rows_suc}
use Rattle.format.specs.Bytes.{within}
use Rattle.format.specs.Rows.{Row}
use Rattle.format.specs.Structure.{joins, united, lowest_of, joined_by, lowest}
use Rattle.format.specs.Labels.{Bonds}
use Rattle.format.specs.Table.{row_place, cell, bond_at}
use Rattle.format.proofs.ByteLaws.{within_is, within_low, within_high, within_true}
use Rattle.format.proofs.PlaceLaws.{bond_place}
use Rattle.format.proofs.GroupLaws.{joined_not, joined_is, lowest_nil, lowest_cons}
use Rattle.groups.specs.Pointers.{Pointing, Leads, Joins}
use Rattle.groups.proofs.PointerLaws.{alone_leads}
use Rattle.groups.specs.Grouping.{Named, AllNamed, JoinsBond, JoinsAll}

-- A BOND'S CELLS
first_is : (u : List ℤ) → get_or (bond_at u).atoms 0 0 ≡ nat_abs (get_or u 0 (pos 0))
first_is [] = refl
first_is (x ∷ u) = refl

pub second_is : (u : List ℤ) → get_or (bond_at u).atoms 1 0 ≡ nat_abs (get_or u 1 (pos 0))
second_is [] = refl
second_is (x ∷ []) = refl
second_is (x ∷ y ∷ u) = refl

-- a bond that joins, and names atoms of n, names two
abbrev Within : (n i : ℕ) → Type 0
Within n i = (1 ≤ i) × (i ≤ n)

ends_named : (n : ℕ) (u : List ℤ) → 1 ≤ nat_abs (get_or u 2 (pos 0)) → Named n (bond_at u) → Within n (nat_abs (get_or u 0 (pos 0))) × Within n (nat_abs (get_or u 1 (pos 0)))
ends_named n [] h e = absurd (omega (arith, h))
ends_named n (x ∷ []) h e = absurd (omega (arith, h))
ends_named n (x ∷ y ∷ []) h e = absurd (omega (arith, h))
ends_named n (x ∷ y ∷ z ∷ u) h e =
    let p = all_parts (within 1 n) (nat_abs x) (nat_abs y ∷ []) e in
    (within_true 1 n (nat_abs x) p.0, within_true 1 n (nat_abs y) (all_parts (within 1 n) (nat_abs y) [] p.1).0)

module _ (t : List ℤ) (p : ℕ) where
  abbrev pub bond : Row
  bond = bond_at (drop p t)

  kind_at : nat_abs bond.value ≡ cell t (p + 2)
  kind_at = ap nat_abs (get_or-drop p t 2 (pos 0))

  pub first_at : get_or bond.atoms 0 0 ≡ cell t p
  first_at = let q : p + 0 ≡ p = omega arith in first_is (drop p t) ∙ ap nat_abs (get_or-drop p t 0 (pos 0)) ∙ ap (cell t) q

  pub second_at : get_or bond.atoms 1 0 ≡ cell t (p + 1)
  second_at = second_is (drop p t) ∙ ap nat_abs (get_or-drop p t 1 (pos 0))

  module _ (kind : ℕ) (e : kind ≡ cell t (p + 2)) where
    pub kind_none : kind < 1 → joins bond ≡ false
    kind_none h = ap (within 1 4) (kind_at ∙ sym e) ∙ within_low 1 4 kind h

    pub kind_weak : 4 < kind → joins bond ≡ false
    kind_weak h = ap (within 1 4) (kind_at ∙ sym e) ∙ within_high 1 4 kind h

    pub kind_joins : 1 ≤ kind → kind ≤ 4 → joins bond ≡ true
    kind_joins low high = ap (within 1 4) (kind_at ∙ sym e) ∙ within_is 1 4 kind low high

    module _ (low : 1 ≤ kind) (first second : ℕ) (f : first ≡ cell t p) (g : second ≡ cell t (p + 1)) where
      pub bond_named : (n : ℕ) → Named n bond → Within n first × Within n second
      bond_named n named =
          let w = ends_named n (drop p t) (subst (λ (m : ℕ). 1 ≤ m) (e ∙ sym kind_at) low) named in
          (subst (Within n) (sym (first_is (drop p t)) ∙ first_at ∙ sym f) w.0, subst (Within n) (sym (second_is (drop p t)) ∙ second_at ∙ sym g) w.1)

      pub bond_joins : kind ≤ 4 → (ls : List ℕ) → united (get_or ls (first - 1) 0) (get_or ls (second - 1) 0) ls ≡ joined_by bond ls
      bond_joins high ls =
          sym (joined_is bond ls (kind_joins low high) ∙ ap (λ (m : ℕ). united (lowest_of ls m) (lowest_of ls (get_or bond.atoms 1 0)) ls) (first_at ∙ sym f)
          ∙ ap (λ (m : ℕ). united (lowest_of ls first) (lowest_of ls m) ls) (second_at ∙ sym g))

-- WHAT A BOND DOES TO THE POINTERS: nothing where it does not join, or names no atom; else its two atoms are of one group
module _ (t : List ℤ) (p : ℕ) (ps : List ℕ) (pointing : Pointing ps) (kind : ℕ) (e : kind ≡ cell t (p + 2)) where
  stays : ((ls : List ℕ) → Named (length ps) (bond t p) → joined_by (bond t p) ls ≡ ls) → JoinsBond ps (bond t p) ps
  stays same = ((refl, pointing), λ ls leads named. subst (λ (ms : List ℕ). Leads ms ps) (sym (same ls named)) leads)

  pub none_joins : kind < 1 → JoinsBond ps (bond t p) ps
  none_joins h = stays (λ ls named. joined_not (bond t p) ls (kind_none t p kind e h))

  pub weak_joins : 4 < kind → JoinsBond ps (bond t p) ps
  weak_joins h = stays (λ ls named. joined_not (bond t p) ls (kind_weak t p kind e h))

  module _ (low : 1 ≤ kind) (first second : ℕ) (f : first ≡ cell t p) (g : second ≡ cell t (p + 1)) where
    pub unnamed_joins : (Within (length ps) first × Within (length ps) second → ⊥) → JoinsBond ps (bond t p) ps
    unnamed_joins never = stays (λ ls named. absurd (never (bond_named t p kind e low first second f g (length ps) named)))

    pub named_joins : kind ≤ 4 → (qs : List ℕ) → Joins ps (first - 1) (second - 1) qs → JoinsBond ps (bond t p) qs
    named_joins high qs j = (j.0, λ ls leads named. subst (λ (ms : List ℕ). Leads ms qs) (bond_joins t p kind e low first second f g high ls) (j.1 ls leads))

-- THE BONDS from the i-th on
abbrev pub bonds_from : List ℤ → (bonds i : ℕ) → List Row
bonds_from t bonds i = rows_from 3 bond_at (bonds - i) (drop (1296 + 3 * i) t)

module _ (t : List ℤ) (bonds : ℕ) where
  pub bonds_empty : bonds_from t bonds bonds ≡ []
  bonds_empty = let q : bonds - bonds ≡ 0 = omega arith in ap (λ (m : ℕ). rows_from 3 bond_at m (drop (1296 + 3 * bonds) t)) q ∙ rows_zero 3 bond_at (drop (1296 + 3 * bonds) t)

  pub bonds_split : (i : ℕ) → 0 < i → i ≤ bonds → bonds_from t bonds (i - 1) ≡ bond_at (drop (1296 + 3 * (i - 1)) t) ∷ bonds_from t bonds i
  bonds_split i Some le =
      let q : bonds - (i - 1) ≡ suc (bonds - i) = omega arith in
      let r : 1296 + 3 * (i - 1) + 3 ≡ 1296 + 3 * i = omega arith in
      let u : List ℤ = drop (1296 + 3 * (i - 1)) t in
      let next : rows_from 3 bond_at (bonds - i) (drop 3 u) ≡ bonds_from t bonds i = ap (rows_from 3 bond_at (bonds - i)) (drop-drop 3 (1296 + 3 * (i - 1)) t ∙ ap (λ (k : ℕ). drop k t) r) in
      ap (λ (k : ℕ). rows_from 3 bond_at k u) q ∙ rows_suc 3 bond_at (bonds - i) u ∙ ap (λ (b : List Row). bond_at u ∷ b) next

  pub bonds_all : (i : ℕ) → i ≤ 0 → bonds_from t bonds i ≡ rows_from 3 bond_at bonds (drop 1296 t)
  bonds_all i h =
      let z : i ≡ 0 = omega arith in
      let q : bonds - 0 ≡ bonds = omega arith in
      ap (bonds_from t bonds) z ∙ ap (λ (k : ℕ). rows_from 3 bond_at k (drop 1296 t)) q

  -- one bond more joins
  pub bonds_turn : (n i place : ℕ) (ps qs : List ℕ) → 0 < i → i ≤ bonds → place ≡ 1296 + 3 * (i - 1) → (AllNamed n (bonds_from t bonds i) → Leads (lowest n (bonds_from t bonds i)) ps)
      → ((ls : List ℕ) → Leads ls ps → Named n (bond_at (drop place t)) → Leads (joined_by (bond_at (drop place t)) ls) qs) → AllNamed n (bonds_from t bonds (i - 1)) → Leads (lowest n (bonds_from t bonds (i - 1))) qs
  bonds_turn n i place ps qs Some le e before turn named =
      let r : Row = bond_at (drop (1296 + 3 * (i - 1)) t) in
      let both = all_parts (λ (x : Row). all (within 1 n) x.atoms) r (bonds_from t bonds i) (ap (all (λ (x : Row). all (within 1 n) x.atoms)) (sym (bonds_split i Some le)) ∙ named) in
      let step : Leads (joined_by r (lowest n (bonds_from t bonds i))) qs =
      subst (λ (m : ℕ). (ls : List ℕ) → Leads ls ps → Named n (bond_at (drop m t)) → Leads (joined_by (bond_at (drop m t)) ls) qs) e turn (lowest n (bonds_from t bonds i)) (before both.1) both.0 in
      subst (λ (xs : List ℕ). Leads xs qs) (sym (ap (lowest n) (bonds_split i Some le) ∙ lowest_cons n r (bonds_from t bonds i))) step

-- ALL BONDS, the last one first
module _ (t : List ℤ) (bonds : ℕ) (ps₀ : List ℕ) where
  pub joins_none : Pointing ps₀ → ps₀ ≡ count_up 0 (length ps₀) → JoinsAll ps₀ (bonds_from t bonds bonds) ps₀
  joins_none pointing e =
      ((refl, pointing), λ named. subst (λ (ls : List ℕ). Leads ls ps₀) (sym (ap (lowest (length ps₀)) (bonds_empty t bonds) ∙ lowest_nil (length ps₀))) (subst (λ (ps : List ℕ). Leads (count_up 1 (length ps₀)) ps) (sym e) (alone_leads (length ps₀))))

  pub joins_more : (i place : ℕ) (ps qs : List ℕ) → 0 < i → i ≤ bonds → bonds ≤ 512 → place ≡ row_place Bonds (i - 1) → JoinsAll ps₀ (bonds_from t bonds i) ps → JoinsBond ps (bond_at (drop place t)) qs
      → JoinsAll ps₀ (bonds_from t bonds (i - 1)) qs
  joins_more i place ps qs Some le most e before turn = (
    (turn.0.0 ∙ before.0.0, turn.0.1),
    bonds_turn t bonds (length ps₀) i place ps qs Some le (e ∙ bond_place (i - 1) (omega arith)) before.1
        (λ ls leads named. turn.1 ls leads (subst (λ (m : ℕ). Named m (bond_at (drop place t))) (sym before.0.0) named)),
  )

  pub place_within : (i place : ℕ) → 0 < i → i ≤ bonds → bonds ≤ 512 → place ≡ row_place Bonds (i - 1) → place ≤ 3856
  place_within i place Some le most e = omega (arith, e, bond_place (i - 1) (omega arith))

  pub joins_all : (i : ℕ) (ps : List ℕ) → i ≤ 0 → JoinsAll ps₀ (bonds_from t bonds i) ps → JoinsAll ps₀ (rows_from 3 bond_at bonds (drop 1296 t)) ps
  joins_all i ps h j = subst (λ (rs : List Row). JoinsAll ps₀ rs ps) (bonds_all t bonds i h) j
