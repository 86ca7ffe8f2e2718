-- The atoms tallied one by one: what comes to what is left. Serves document 01, "the atoms listed, with implied hydrogens counted as hydrogen without mass".
-- Assumes nothing.
use Prim.Native.Nat.{ℕ, zero, suc, ◌+◌, ◌-◌, ◌*◌, ◌^◌, ◌≤◌, ◌<◌}
use mathlib.Core.Path.{◌≡◌, refl, ap, ap₂, ◌∙◌}
use mathlib.Core.Bool.{true, ◌&&◌}
use mathlib.Core.List.{List, [], ◌∷◌, ◌++◌}
use native.Mathlib.Numerals.{add-one}
use native.Mathlib.Omega.{arith}
use lib.ListN.{length, get_or, set, take, replicate}
use lib.Seq.{take-suc, length-take-le}
use lib.Dec.{leb}
use borrow.Author.Tests.{leb-true}
use Rattle.lists.specs.Lists.{all, flat}
use Rattle.lists.proofs.Bools.{and_parts}
use Rattle.lists.proofs.ListLaws.{all_parts, all_take, all_at}
use Rattle.lists.proofs.PartLaws.{filled_is}
use Rattle.lists.proofs.RegionLaws.{flat_cell}
use Rattle.format.specs.Bytes.{within}
use Rattle.format.specs.Structure.{Isotope, isotope_of, Atom, atom_ok, Entry, entry, entries_of, total}
use Rattle.format.proofs.ByteLaws.{within_true}
use Rattle.format.proofs.TotalLaws.{total_nil, total_append, entries_bare, entries_implied, entries_append}
use Rattle.sorted.specs.Regions.{kind_cells, kinds_region}
use Rattle.totals.specs.Left.{left_of, left_in, Blank, Adds, Tallied}
use Rattle.totals.specs.declared.left.Left.{Left}
use Rattle.totals.proofs.LeftLaws.{total_most, total_none, left_light, light_added, left_none}

-- ONE ATOM
pub atom_light : (old next : Left) (e m : ℕ) → m ≡ 0 → (next.elements ≡ old.elements) × (next.masses ≡ old.masses) → (e ≤ 103 → get_or old.counts e 0 + 1 < 2 ^ 32 → next.counts ≡ set old.counts e (get_or old.counts e 0 + 1)) →
    e ≤ 103 → get_or old.counts e 0 ≤ 9999 → Adds (left_in old) (left_in next) (entry (isotope_of e m) 1)
atom_light old next e m z k f h l = rw (z, k.0, k.1, f h (omega arith)) (light_added old.counts old.elements old.masses e 1 (omega (arith, old.counts_long)))

-- what an atom's numbers keep to
pub record Numbers (a : Atom) : Type 0 where
  pub element : a.kind.element ≤ 103
  pub hydrogens : a.hydrogens ≤ 15

pub atom_numbers_lem : (a : Atom) → atom_ok 103 a ≡ true → Numbers a
unfolding atom_ok
atom_numbers_lem a h =
    let p : (within 1 103 a.kind.element ≡ true) × ((leb a.kind.mass 300 && leb a.hydrogens 15) ≡ true) = and_parts (within 1 103 a.kind.element) (leb a.kind.mass 300 && leb a.hydrogens 15) h in
    let q : (leb a.kind.mass 300 ≡ true) × (leb a.hydrogens 15 ≡ true) = and_parts (leb a.kind.mass 300) (leb a.hydrogens 15) p.1 in
    record { element = (within_true 1 103 a.kind.element p.0).1; hydrogens = leb-true a.hydrogens 15 q.1 }

-- its entries: itself, and its implied hydrogens
pub atom_total : (k : Isotope) (a : Atom) → total k (entries_of (a ∷ [])) ≡ total k (entry a.kind 1 ∷ []) + total k (entry (isotope_of 1 0) a.hydrogens ∷ [])
unfolding entries_of
atom_total k a = go a.hydrogens refl
  where
    one : List Entry
    one = entry a.kind 1 ∷ []

    go : (h : ℕ) → a.hydrogens ≡ h → total k (entries_of (a ∷ [])) ≡ total k one + total k (entry (isotope_of 1 0) a.hydrogens ∷ [])
    go zero e = ap (total k) (entries_bare a [] e) ∙ omega (arith, ap (λ (h : ℕ). total k (entry (isotope_of 1 0) h ∷ [])) e ∙ total_none k (isotope_of 1 0))
    go (suc h) e = ap (total k) (entries_implied a [] h e) ∙ omega (arith, total_append k one (entry (isotope_of 1 0) (suc h) ∷ []), ap (λ (n : ℕ). total k (entry (isotope_of 1 0) n ∷ [])) e)

pub atoms_most : (k : Isotope) (l : List Atom) → all (atom_ok 103) l ≡ true → total k (entries_of l) ≤ 16 * length l
unfolding entries_of
atoms_most k [] h = omega (arith, total_nil k)
atoms_most k (a ∷ l) h =
    let p : (atom_ok 103 a ≡ true) × (all (atom_ok 103) l ≡ true) = all_parts (atom_ok 103) a l h in
    omega (
      arith,
      ap (total k) (entries_append (a ∷ []) l) ∙ total_append k (entries_of (a ∷ [])) (entries_of l),
      atom_total k a,
      total_most k a.kind 1,
      total_most k (isotope_of 1 0) a.hydrogens,
      (atom_numbers_lem a p.0).hydrogens,
      atoms_most k l p.1,
    )

-- ITS CELLS
abbrev pub no_atom : Atom
no_atom = record { kind = isotope_of 0 0; hydrogens = 0 }

pub kind_cell : (listed : List Atom) (i j : ℕ) → i < length listed → j < 3 → all (atom_ok 103) listed ≡ true → get_or (kinds_region listed) (3 * i + j) 0 ≡ get_or (kind_cells (get_or listed i no_atom)) j 0
unfolding kinds_region
kind_cell listed i j h k f =
    ap (λ (l : List ℕ). get_or l (3 * i + j) 0) (filled_is 0 768 (flat kind_cells listed))
    ∙ flat_cell 3 kind_cells (atom_ok 103) (λ x q. refl) 0 no_atom listed (replicate (768 - length (flat kind_cells listed)) 0) i j h k f

-- THE ATOMS IN TURN
pub tally_starts : (t cs es ms : List ℕ) (atoms : ℕ) → Blank cs → Blank ms → Tallied t atoms 0 (left_of cs es ms)
unfolding entries_of
tally_starts t cs es ms atoms b d listed l e f = left_none cs es ms b d

module _ (t : List ℕ) (atoms i : ℕ) (cs es ms : List ℕ) (more : i < atoms) (few : atoms ≤ 256) (long : length cs ≡ 104) (empty : get_or ms i 0 ≡ 0) (done : Tallied t atoms i (left_of cs es ms)) where
  tally_goes : (cs' : List ℕ) (next : Isotope → ℕ) → (1 ≤ 103 → get_or t (3 * i + 2) 0 ≤ 15 → get_or cs 1 0 ≤ 9999 → cs' ≡ set cs 1 (get_or cs 1 0 + get_or t (3 * i + 2) 0)) →
      (get_or t (3 * i) 0 ≤ 103 → get_or cs' (get_or t (3 * i) 0) 0 ≤ 9999 → get_or ms i 0 ≡ 0 → Adds (left_of cs' es ms) next (entry (isotope_of (get_or t (3 * i) 0) (get_or t (3 * i + 1) 0)) 1)) →
      Tallied t atoms (i + 1) next
  tally_goes cs' next f g listed l e ok k =
      let a : Atom = get_or listed i no_atom in
      let b : List Atom = take i listed in
      let fine : Numbers a = atom_numbers_lem a (all_at (atom_ok 103) no_atom listed i ok (omega arith)) in
      let cell : (j : ℕ) → j < 3 → get_or t (3 * i + j) 0 ≡ get_or (kind_cells a) j 0 = λ j h. ap (λ (r : List ℕ). get_or r (3 * i + j) 0) e ∙ kind_cell listed i j (omega arith) h ok in
      let first : 3 * i ≡ 3 * i + 0 = omega arith in
      let element : get_or t (3 * i) 0 ≡ a.kind.element = ap (λ (n : ℕ). get_or t n 0) first ∙ cell 0 (omega arith) in
      let mass : get_or t (3 * i + 1) 0 ≡ a.kind.mass = cell 1 (omega arith) in
      let hydrogens : get_or t (3 * i + 2) 0 ≡ a.hydrogens = cell 2 (omega arith) in
      let low : (j : Isotope) → left_of cs es ms j ≤ 16 * i =
      λ j. omega (arith, done listed l e ok j, atoms_most j b (all_take (atom_ok 103) i listed ok), length-take-le i listed (omega arith)) in
      let implied : cs' ≡ set cs 1 (get_or cs 1 0 + get_or t (3 * i + 2) 0) = f (omega arith) (omega (arith, fine.hydrogens)) (omega (arith, low (isotope_of 1 0), left_light cs es ms (isotope_of 1 0) refl)) in
      let come : Adds (left_of cs es ms) (left_of cs' es ms) (entry (isotope_of 1 0) (get_or t (3 * i + 2) 0)) = rw implied (light_added cs es ms 1 (get_or t (3 * i + 2) 0) (omega arith)) in
      let room : get_or cs' (get_or t (3 * i) 0) 0 ≤ 9999 =
      omega (
        arith,
        left_light cs' es ms (isotope_of (get_or t (3 * i) 0) 0) refl,
        come (isotope_of (get_or t (3 * i) 0) 0),
        low (isotope_of (get_or t (3 * i) 0) 0),
        total_most (isotope_of (get_or t (3 * i) 0) 0) (isotope_of 1 0) (get_or t (3 * i + 2) 0),
        fine.hydrogens,
      ) in
      let itself : next k ≡ left_of cs' es ms k + total k (entry (isotope_of (get_or t (3 * i) 0) (get_or t (3 * i + 1) 0)) 1 ∷ []) = g (omega (arith, fine.element)) room empty k in
      let kind : total k (entry (isotope_of (get_or t (3 * i) 0) (get_or t (3 * i + 1) 0)) 1 ∷ []) ≡ total k (entry a.kind 1 ∷ []) = ap (λ (j : Isotope). total k (entry j 1 ∷ [])) (ap₂ isotope_of element mass) in
      let number : total k (entry (isotope_of 1 0) (get_or t (3 * i + 2) 0) ∷ []) ≡ total k (entry (isotope_of 1 0) a.hydrogens ∷ []) = ap (λ (n : ℕ). total k (entry (isotope_of 1 0) n ∷ [])) hydrogens in
      let split : take (i + 1) listed ≡ b ++ (a ∷ []) = ap (λ (n : ℕ). take n listed) (add-one i) ∙ take-suc listed i no_atom (omega arith) in
      let whole : total k (entries_of (take (i + 1) listed)) ≡ total k (entries_of b) + total k (entries_of (a ∷ [])) = ap (λ (r : List Atom). total k (entries_of r)) split ∙ ap (total k) (entries_append b (a ∷ [])) ∙ total_append k (entries_of b) (entries_of (a ∷ [])) in
      omega (arith, itself, kind, number, come k, done listed l e ok k, whole, atom_total k a)

module _ (t : List ℕ) (atoms i : ℕ) (old mid next : Left) (more : i < atoms) (few : atoms ≤ 256) (empty : get_or old.masses i 0 ≡ 0) (done : Tallied t atoms i (left_in old)) where
  pub tally_on : (mid.elements ≡ old.elements) × (mid.masses ≡ old.masses) → (1 ≤ 103 → get_or old.counts 1 0 + get_or t (3 * i + 2) 0 < 2 ^ 32 → mid.counts ≡ set old.counts 1 (get_or old.counts 1 0 + get_or t (3 * i + 2) 0)) →
      (get_or t (3 * i) 0 ≤ 103 → get_or mid.counts (get_or t (3 * i) 0) 0 ≤ 9999 → get_or mid.masses i 0 ≡ 0 → Adds (left_in mid) (left_in next) (entry (isotope_of (get_or t (3 * i) 0) (get_or t (3 * i + 1) 0)) 1)) →
      Tallied t atoms (i + 1) (left_in next)
  tally_on k f g =
      tally_goes t atoms i old.counts old.elements old.masses more few old.counts_long empty done mid.counts (left_in next)
      (λ h n l. f h (omega arith))
      (λ h l z. rw (← k.0, ← k.1) (g h l (ap (λ (ms : List ℕ). get_or ms i 0) k.1 ∙ z)))
