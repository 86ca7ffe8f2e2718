-- The labels of a table's atoms, from pointers that each atom starts with to the part of the lent numbers that belongs to them: document 02, L1. Assumes nothing.
use Prim.Native.Nat.{ℕ, suc, ◌-◌, ◌≤◌, ◌<◌}
use mathlib.Core.Path.{◌≡◌, refl, sym, ap, ◌∙◌, subst}
use mathlib.Core.List.{List, ◌++◌, map}
use native.Mathlib.Omega.{arith}
use lib.ListN.{length, take, drop, length-append, length-drop}
use lib.Seq.{take_at, drop_at, length-take-le}
use mathlib.Core.Bool.{true}
use lib.IntN.{ℤ}
use lib.Dec.{ltb}
use Rattle.lists.specs.Lists.{all, count_up, rows_from}
use Rattle.lists.proofs.ListLaws.{all_imply}
use Rattle.lists.proofs.IndexLaws.{map_length, count_long}
use Rattle.lists.proofs.RegionLaws.{rows_length}
use Rattle.format.specs.Bytes.{within}
use Rattle.format.specs.Labels.{Bonds}
use Rattle.format.specs.Rows.{Row}
use Rattle.format.specs.Structure.{row_ok, lowest}
use Rattle.format.specs.Table.{count_at, atom_at, bond_at, atom_records, decode}
use Rattle.format.proofs.RowLaws.{row_fine_lem}
use Rattle.groups.specs.Pointers.{Pointing, Leads, Changed}
use Rattle.groups.specs.Grouping.{AllNamed, AllFine, JoinsAll, LowestAtoms, GroupsOf}
use Rattle.groups.proofs.PointerLaws.{alone_pointing, pointing_all}

-- EACH ATOM BY ITSELF, as the bonds want it
pub started : (ps : List ℕ) (n bonds : ℕ) → ps ≡ count_up 0 n → n ≤ 256 → bonds ≤ 512 → Pointing ps × (length ps ≤ 256) × (bonds ≤ 512) × (ps ≡ count_up 0 (length ps))
started ps n bonds e h k =
    let l : length ps ≡ n = ap length e ∙ count_long 0 n in
    (subst Pointing (sym e) (alone_pointing n), omega (arith, l, h), k, e ∙ ap (count_up 0) (sym l))

-- bonds of a sound table name atoms
fine_named : (n : ℕ) (rs : List Row) → AllFine n rs → AllNamed n rs
fine_named n rs = all_imply (row_ok Bonds n) (λ r. all (within 1 n) r.atoms) (λ r k. (row_fine_lem Bonds n r k).listed) rs

-- and in the end
pub ended : (n m : ℕ) → m ≡ n → (rs : List Row) (ps qs xs : List ℕ) → ps ≡ count_up 0 m → JoinsAll ps rs qs → Changed qs xs → ((ls : List ℕ) → Leads ls qs → map suc xs ≡ ls) → LowestAtoms n rs xs
ended n m same rs ps qs xs e j h settled =
    let l : length ps ≡ n = ap length e ∙ count_long 0 m ∙ same in
    let long : length xs ≡ n = h.0 ∙ j.0.0 ∙ l in
    (long, subst (λ (m : ℕ). all (λ x. ltb x m) xs ≡ true) long (pointing_all xs h.1), λ fine. settled (lowest n rs) (subst (λ (m : ℕ). AllNamed m rs → Leads (lowest m rs) qs) l j.1 (fine_named n rs fine)))

-- THE PART in front that was lent
atoms_are : (t : List ℤ) → length (decode t).atoms ≡ count_at t 0 256
unfolding decode atom_records
atoms_are t = map_length atom_at (rows_from 5 (take 5) (count_at t 0 256) (drop 16 t)) ∙ rows_length 5 (take 5) (count_at t 0 256) (drop 16 t)

bonds_are : (t : List ℤ) → (decode t).bonds ≡ rows_from 3 bond_at (count_at t 1 512) (drop 1296 t)
unfolding decode
bonds_are t = refl

module _ (t : List ℤ) (xs ys : List ℕ) (n m : ℕ) (a : (n ≡ count_at t 0 256) × (n ≤ 256)) (b : m ≡ count_at t 1 512) (size : 256 ≤ length xs) (low : LowestAtoms (length (take (n - 0) (drop 0 xs))) (rows_from 3 bond_at m (drop 1296 t)) ys) where
  lent : length (take (n - 0) xs) ≡ n
  lent = let z : n - 0 ≡ n = omega arith in ap (λ (k : ℕ). length (take k xs)) z ∙ length-take-le n xs (omega (arith, a.1, size))

  own : length ys ≡ n
  own = low.0 ∙ lent

  as_atoms : n ≡ length (decode t).atoms
  as_atoms = a.0 ∙ sym (atoms_are t)

  lows : AllFine (length (decode t).atoms) (decode t).bonds → map suc ys ≡ lowest (length (decode t).atoms) (decode t).bonds
  lows =
      let rows : rows_from 3 bond_at m (drop 1296 t) ≡ (decode t).bonds = ap (λ (k : ℕ). rows_from 3 bond_at k (drop 1296 t)) b ∙ sym (bonds_are t) in
      subst (λ (k : ℕ). AllFine k (decode t).bonds → map suc ys ≡ lowest k (decode t).bonds) (lent ∙ as_atoms)
      (subst (λ (rs : List Row). AllFine (length (take (n - 0) xs)) rs → map suc ys ≡ lowest (length (take (n - 0) xs)) rs) rows low.2)

  abbrev pub later : List ℕ
  later = take 0 xs ++ (ys ++ drop (n - 0) (drop 0 xs))

  long : length later ≡ length xs
  long = length-append ys (drop (n - 0) xs) ∙ omega (arith, length-drop (n - 0) xs, own, size, a.1)

  rest : drop n later ≡ drop n xs
  rest = let z : n - 0 ≡ n = omega arith in drop_at ys (drop (n - 0) xs) n own ∙ ap (λ (k : ℕ). drop k xs) z

  front : take n later ≡ ys
  front = take_at ys (drop (n - 0) xs) n own

  pub grouped : (length xs < 256 → (n ≡ 0) × (later ≡ xs)) × (256 ≤ length xs → GroupsOf t xs n later)
  grouped = (
    λ h. absurd (omega (arith, h, size)),
    λ h. record { few = a.1; long = long; rest = rest; atoms = as_atoms; named = ap (all (λ l. ltb l n)) front ∙ subst (λ (k : ℕ). all (λ l. ltb l k) ys ≡ true) lent low.1; lows = λ fine. ap (map suc) front ∙ lows fine },
  )
