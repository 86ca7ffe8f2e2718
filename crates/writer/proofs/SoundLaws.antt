-- A sound table can be printed: its atoms have letters, its groups are bytes. Document 01, "Refusal numbers" (21). Assumes nothing.
use Prim.Native.Nat.{ℕ, suc, ◌≤◌, ◌<◌}
use mathlib.Core.Path.{◌≡◌, refl, sym, ap, ◌∙◌, subst}
use mathlib.Core.Bool.{Bool, true, false, ◌&&◌, ◌||◌, not}
use mathlib.Core.List.{List, [], ◌∷◌, map}
use native.Mathlib.Omega.{arith}
use borrow.Author.Tests.{eqb-true, lt-ltb}
use lib.Dec.{eqb, ltb, leb}
use lib.ListN.{length, take}
use lib.IntN.{ℤ}
use Rattle.lists.specs.Lists.{all, pairs, same_by}
use Rattle.lists.specs.Order.{ascends}
use Rattle.lists.proofs.Bools.{torn, and_parts, or_other}
use Rattle.lists.proofs.ListLaws.{all_parts, all_imply}
use Rattle.format.specs.Bytes.{Bytes, within}
use Rattle.format.specs.Labels.{ListOf, Bonds, Charges, Radicals, Centres, Pairs}
use Rattle.format.specs.Rows.{upper, lower}
use Rattle.format.specs.Structure.{Structure, lowest, groups_by, groups, rows_of, lists, most, meets, row_before, atom_ok, group_ok, row_ok, rows_ok, well_formed}
use Rattle.format.specs.Table.{decode, encode, spans_of, same_number, sound_numbers, text_ok, sound}
use Rattle.format.proofs.ByteLaws.{within_true}
use Rattle.format.proofs.RowLaws.{row_fine_lem}
use Rattle.groups.specs.Grouping.{AllFine, GroupsOf}
use Rattle.tally.specs.declared.entries.Entry.{Entry}
use Rattle.tally.specs.Gathering.{Gathered, Gathers}
use Rattle.form.specs.Listing.{groups_fit}
use Rattle.form.specs.Forms.{Printable}
use Rattle.writer.specs.Answers.{GroupsGathered}

-- A GROUP IS A BYTE
letter_small : (g : ℕ) → (upper g || lower g) ≡ true → g < 256
letter_small g h = go (upper g) refl
  where
    go : (t : Bool) → upper g ≡ t → g < 256
    go true e = omega (arith, (within_true 65 90 g e).1)
    go false e = omega (arith, (within_true 97 122 g (or_other (upper g) (lower g) h e)).1)

group_small : (l : ListOf) (g : ℕ) → group_ok l g ≡ true → g < 256
unfolding group_ok
group_small l g h = go (eqb g 0) refl
  where
    other : (l : ListOf) → group_ok l g ≡ true → eqb g 0 ≡ false → g < 256
    other Bonds k e = torn (group_ok Bonds g) k (ap (λ t. t || false) e)
    other Charges k e = torn (group_ok Charges g) k (ap (λ t. t || false) e)
    other Radicals k e = torn (group_ok Radicals g) k (ap (λ t. t || false) e)
    other Centres k e = letter_small g (or_other (eqb g 0) (upper g || lower g) k e)
    other Pairs k e = letter_small g (or_other (eqb g 0) (upper g || lower g) k e)

    go : (t : Bool) → eqb g 0 ≡ t → g < 256
    go true e = omega (arith, eqb-true g 0 e)
    go false e = other l h e

rows_small : (n : ℕ) (s : Structure) (l : ListOf) → rows_ok n s l ≡ true → groups_fit (rows_of l s) ≡ true
unfolding rows_ok
rows_small n s l h =
    let p = and_parts (leb (length (rows_of l s)) (most l)) (all (row_ok l n) (rows_of l s) && (ascends row_before (rows_of l s) && not (pairs (meets l) (rows_of l s)))) h in
    let q = and_parts (all (row_ok l n) (rows_of l s)) (ascends row_before (rows_of l s) && not (pairs (meets l) (rows_of l s))) p.1 in
    all_imply (row_ok l n) (λ r. ltb r.group 256) (λ r k. lt-ltb r.group 256 (group_small l r.group (row_fine_lem l n r k).group)) (rows_of l s) q.0

each_list : (p : ListOf → Bool) → all p lists ≡ true → (l : ListOf) → p l ≡ true
unfolding lists
each_list p h =
    let a = all_parts p Bonds (Charges ∷ Radicals ∷ Centres ∷ Pairs ∷ []) h in
    let b = all_parts p Charges (Radicals ∷ Centres ∷ Pairs ∷ []) a.1 in
    let c = all_parts p Radicals (Centres ∷ Pairs ∷ []) b.1 in
    let d = all_parts p Centres (Pairs ∷ []) c.1 in
    λ l. elim l as (λ l. p l ≡ true) [ Bonds ↦ a.0 | Charges ↦ b.0 | Radicals ↦ c.0 | Centres ↦ d.0 | Pairs ↦ (all_parts p Pairs [] d.1).0 ]

-- A WELL-FORMED STRUCTURE: its atoms, its rows, and its bonds
well_parts : (s : Structure) → well_formed 103 s ≡ true → (all (atom_ok 103) s.atoms ≡ true) × (all (rows_ok (length s.atoms) s) lists ≡ true)
unfolding well_formed
well_parts s h =
    let p = and_parts (within 1 256 (length s.atoms)) _ h in
    let q = and_parts (all (atom_ok 103) s.atoms) _ p.1 in
    (q.0, (and_parts (all (rows_ok (length s.atoms) s) lists) _ q.1).0)

bonds_fine_lem : (s : Structure) → well_formed 103 s ≡ true → AllFine (length s.atoms) s.bonds
unfolding rows_ok rows_of
bonds_fine_lem s h =
    let n : ℕ = length s.atoms in
    let r : rows_ok n s Bonds ≡ true = each_list (rows_ok n s) (well_parts s h).1 Bonds in
    let p = and_parts (leb (length s.bonds) (most Bonds)) (all (row_ok Bonds n) s.bonds && (ascends row_before s.bonds && not (pairs (meets Bonds) s.bonds))) r in
    (and_parts (all (row_ok Bonds n) s.bonds) (ascends row_before s.bonds && not (pairs (meets Bonds) s.bonds)) p.1).0

-- GATHERED GROUP BY GROUP, from the labels of the groups
pub groups_gathered : (t : List ℤ) (labels lent : List ℕ) (r : ℕ) (es : List Entry) → 256 ≤ length lent → GroupsOf t lent r labels → Gathers t labels es → GroupsGathered t es
unfolding groups
groups_gathered t labels lent r es long of g h =
    let s : Structure = decode t in
    let lows : map suc (take (length s.atoms) labels) ≡ lowest (length s.atoms) s.bonds = ap (λ (k : ℕ). map suc (take k labels)) (sym of.atoms) ∙ of.lows (bonds_fine_lem s h) in
    subst (λ (ls : List ℕ). Gathered (groups_by ls s.atoms) es) lows
    (g (well_parts s h).0 (record { enough = omega (arith, long, of.long, of.few, of.atoms); named = subst (λ (k : ℕ). all (λ l. ltb l k) (take k labels) ≡ true) of.atoms of.named }))

-- A SOUND TABLE
module _ (t : List ℤ) (b : Bytes) (h : sound 103 t b ≡ true) where
  well : well_formed 103 (decode t) ≡ true
  unfolding sound sound_numbers
  well = (and_parts (well_formed 103 (decode t)) (same_by same_number (encode (decode t) (spans_of t)) (take 3856 t)) (and_parts (sound_numbers 103 t) (all (text_ok b) (spans_of t)) h).0).0

  parts : (all (atom_ok 103) (decode t).atoms ≡ true) × (all (rows_ok (length (decode t).atoms) (decode t)) lists ≡ true)
  parts = well_parts (decode t) well

  pub sound_printable : (es : List Entry) → GroupsGathered t es → Printable t es
  sound_printable es g = record {
    atoms = parts.0;
    groups = λ l. rows_small (length (decode t).atoms) (decode t) l (each_list (rows_ok (length (decode t).atoms) (decode t)) parts.1 l);
    gathered = g well;
  }
