-- The table's first thirteen numbers: they are fine if and only if each count is that of its list in the table's structure, and the texts' places and lengths are none
-- below zero. The three numbers behind them: HandedLaws. Serves document 01, "The structure table". Assumes nothing.
use Prim.Native.Nat.{ℕ, ◌≤◌}
use mathlib.Core.Path.{◌≡◌, refl, sym, ap, ◌∙◌}
use mathlib.Core.Bool.{true, false, not}
use mathlib.Core.List.{List, [], ◌∷◌, map}
use native.Mathlib.Nat.{min-eq_right, min-le_left}
use native.Mathlib.Omega.{arith}
use lib.ListN.{length, take, drop, length-drop, length-map}
use lib.Seq.{length-take-le, get_or-take}
use lib.IntN.{ℤ, pos, negsuc, nat_abs}
use lib.Dec.{eqb}
use Rattle.lists.specs.Lists.{all, flat, rows_from}
use Rattle.lists.proofs.Bools.{torn, and_parts}
use Rattle.lists.proofs.RegionLaws.{rows_length}
use Rattle.format.specs.Structure.{Structure, ranging}
use Rattle.format.specs.Table.{cell, count_at, counts, span_cells, atom_at, marked_at, bond_at, spread_at, atom_records, decode, span_at, spans_of}
use Rattle.cells.specs.Signs.{negative}
use Rattle.soundness.specs.Sounding.{number_at, counts_fine, places_fine}
use Rattle.soundness.proofs.SplitLaws.{Ranged, ranged_of, ranging_of}
use Rattle.soundness.proofs.AtomLaws.{records}
use Rattle.soundness.proofs.ListLaws.{spread_many}

-- THE STRUCTURE of a table, with so many rows in each list
abbrev pub structure_by : (n b c r s p : ℕ) → List ℤ → Structure
structure_by n b c r s p t = record {
  atoms = map atom_at (records n (drop 16 t));
  bonds = rows_from 3 bond_at b (drop 1296 t);
  charges = spread_at 3 1 (records n (drop 16 t)) (take c (drop 2832 t));
  radicals = spread_at 4 1 (records n (drop 16 t)) (take r (drop 2896 t));
  centres = rows_from 3 (marked_at 1) s (drop 2960 t);
  pairs = rows_from 4 (marked_at 2) p (drop 3344 t);
  id = cell t 6;
  handed = eqb (cell t 13) 1;
}

abbrev pub shown : List ℤ → Structure
shown t = structure_by (cell t 0) (cell t 1) (cell t 2) (cell t 3) (cell t 4) (cell t 5) t

decode_is : (t : List ℤ) → decode t ≡ structure_by (count_at t 0 256) (count_at t 1 512) (count_at t 2 64) (count_at t 3 64) (count_at t 4 128) (count_at t 5 128) t
unfolding decode atom_records
decode_is t = refl

-- each count is as the table has it, not cut
pub record Counted (t : List ℤ) : Type 0 where
  pub atoms : count_at t 0 256 ≡ cell t 0
  pub bonds : count_at t 1 512 ≡ cell t 1
  pub charges : count_at t 2 64 ≡ cell t 2
  pub radicals : count_at t 3 64 ≡ cell t 3
  pub centres : count_at t 4 128 ≡ cell t 4
  pub pairs : count_at t 5 128 ≡ cell t 5

pub decode_shown : (t : List ℤ) → Counted t → decode t ≡ shown t
decode_shown t f = decode_is t ∙ rw (f.atoms, f.bonds, f.charges, f.radicals, f.centres, f.pairs)

pub count_most : (t : List ℤ) (p m : ℕ) → count_at t p m ≤ m
unfolding count_at
count_most t p m = min-le_left m (cell t p)

count_kept : (t : List ℤ) (p m : ℕ) → cell t p ≤ m → count_at t p m ≡ cell t p
unfolding count_at
count_kept t p m h = min-eq_right h

module _ (t : List ℤ) (long : 3856 ≤ length t) where
  pub atoms_many : (n : ℕ) → length (map atom_at (records n (drop 16 t))) ≡ n
  atoms_many n = length-map (records n (drop 16 t)) atom_at ∙ rows_length 5 (take 5) n (drop 16 t)

  values_many : (p n base c : ℕ) → base ≤ 2896 → c ≤ 64 → length (spread_at p 1 (records n (drop 16 t)) (take c (drop base t))) ≡ c
  values_many p n base c h k = spread_many p (records n (drop 16 t)) (take c (drop base t)) ∙ length-take-le c (drop base t) (omega (arith, length-drop base t))

  counts_by : (n b c r s p : ℕ) → c ≤ 64 → r ≤ 64 → counts (structure_by n b c r s p t) ≡ n ∷ b ∷ c ∷ r ∷ s ∷ p ∷ cell t 6 ∷ []
  unfolding counts
  counts_by n b c r s p h k =
      rw (
        atoms_many n,
        rows_length 3 bond_at b (drop 1296 t),
        values_many 3 n 2832 c (omega arith) h,
        values_many 4 n 2896 r (omega arith) k,
        rows_length 3 (marked_at 1) s (drop 2960 t),
        rows_length 4 (marked_at 2) p (drop 3344 t),
      )

  -- THE COUNTS, one by one
  pub record Header : Type 0 where
    pub atoms : Ranged 1 256 (number_at t 0)
    pub bonds : Ranged 0 512 (number_at t 1)
    pub charges : Ranged 0 64 (number_at t 2)
    pub radicals : Ranged 0 64 (number_at t 3)
    pub centres : Ranged 0 128 (number_at t 4)
    pub pairs : Ranged 0 128 (number_at t 5)
    pub id : Ranged 0 999999 (number_at t 6)

  pub counts_parts : counts_fine t ≡ true → Header
  unfolding counts_fine
  counts_parts h =
      let a = and_parts (ranging 1 256 (number_at t 0)) _ h in
      let b = and_parts (ranging 0 512 (number_at t 1)) _ a.1 in
      let c = and_parts (ranging 0 64 (number_at t 2)) _ b.1 in
      let d = and_parts (ranging 0 64 (number_at t 3)) _ c.1 in
      let e = and_parts (ranging 0 128 (number_at t 4)) _ d.1 in
      let f = and_parts (ranging 0 128 (number_at t 5)) (ranging 0 999999 (number_at t 6)) e.1 in
      record {
        atoms = ranged_of 1 256 (number_at t 0) a.0;
        bonds = ranged_of 0 512 (number_at t 1) b.0;
        charges = ranged_of 0 64 (number_at t 2) c.0;
        radicals = ranged_of 0 64 (number_at t 3) d.0;
        centres = ranged_of 0 128 (number_at t 4) e.0;
        pairs = ranged_of 0 128 (number_at t 5) f.0;
        id = ranged_of 0 999999 (number_at t 6) f.1;
      }

  ranging_is : (low high : ℕ) (z : ℤ) → Ranged low high z → ranging low high z ≡ true
  ranging_is low high z r = ranging_of low high z r.is r.low_is r.high_is

  pub counts_both : Header → counts_fine t ≡ true
  unfolding counts_fine
  counts_both h =
      rw (
        ranging_is 1 256 (number_at t 0) h.atoms,
        ranging_is 0 512 (number_at t 1) h.bonds,
        ranging_is 0 64 (number_at t 2) h.charges,
        ranging_is 0 64 (number_at t 3) h.radicals,
        ranging_is 0 128 (number_at t 4) h.centres,
        ranging_is 0 128 (number_at t 5) h.pairs,
      )
      (ranging_is 0 999999 (number_at t 6) h.id)

  pub header_counted : Header → Counted t
  header_counted h = record {
    atoms = count_kept t 0 256 h.atoms.high_is;
    bonds = count_kept t 1 512 h.bonds.high_is;
    charges = count_kept t 2 64 h.charges.high_is;
    radicals = count_kept t 3 64 h.radicals.high_is;
    centres = count_kept t 4 128 h.centres.high_is;
    pairs = count_kept t 5 128 h.pairs.high_is;
  }

  -- the counts of the table's structure are its first numbers
  pub counts_there : Header → map pos (counts (shown t)) ≡ take 7 (drop 0 t)
  counts_there h =
      ap (map pos) (counts_by (cell t 0) (cell t 1) (cell t 2) (cell t 3) (cell t 4) (cell t 5) h.charges.high_is h.radicals.high_is)
      ∙ rw (h.atoms.is, h.bonds.is, h.charges.is, h.radicals.is, h.centres.is, h.pairs.is, h.id.is) (sym (seven t (omega arith)))
    where
      seven : (s : List ℤ) → 7 ≤ length s → take 7 s ≡ number_at s 0 ∷ number_at s 1 ∷ number_at s 2 ∷ number_at s 3 ∷ number_at s 4 ∷ number_at s 5 ∷ number_at s 6 ∷ []
      seven [] k = absurd (omega arith)
      seven (a ∷ []) k = absurd (omega arith)
      seven (a ∷ b ∷ []) k = absurd (omega arith)
      seven (a ∷ b ∷ c ∷ []) k = absurd (omega arith)
      seven (a ∷ b ∷ c ∷ d ∷ []) k = absurd (omega arith)
      seven (a ∷ b ∷ c ∷ d ∷ e ∷ []) k = absurd (omega arith)
      seven (a ∷ b ∷ c ∷ d ∷ e ∷ f ∷ []) k = absurd (omega arith)
      seven (a ∷ b ∷ c ∷ d ∷ e ∷ f ∷ g ∷ s) k = refl

  -- a number that is the count of its list, cut to the list's limit
  count_back : (p m : ℕ) → pos (count_at t p m) ≡ number_at t p → (count_at t p m ≡ cell t p) × Ranged 0 m (number_at t p)
  count_back p m e =
      let q : count_at t p m ≡ cell t p = ap nat_abs e in
      (q, record { is = ap pos (sym q) ∙ e; low_is = omega arith; high_is = omega (arith, q, count_most t p m) })

  pub counts_back : map pos (counts (decode t)) ≡ take 7 (drop 0 t) → 1 ≤ length (decode t).atoms → cell t 6 ≤ 999999 → Header
  counts_back e low top =
      let f : map pos (count_at t 0 256 ∷ count_at t 1 512 ∷ count_at t 2 64 ∷ count_at t 3 64 ∷ count_at t 4 128 ∷ count_at t 5 128 ∷ cell t 6 ∷ []) ≡ take 7 t =
      ap (map pos) (sym (ap counts (decode_is t) ∙ counts_by (count_at t 0 256) (count_at t 1 512) (count_at t 2 64) (count_at t 3 64) (count_at t 4 128) (count_at t 5 128) (count_most t 2 64) (count_most t 3 64))) ∙ e in
      let at : (i : ℕ) → i ≤ 6 → number_at (map pos (count_at t 0 256 ∷ count_at t 1 512 ∷ count_at t 2 64 ∷ count_at t 3 64 ∷ count_at t 4 128 ∷ count_at t 5 128 ∷ cell t 6 ∷ [])) i ≡ number_at t i =
      λ i k. ap (λ (l : List ℤ). number_at l i) f ∙ get_or-take 7 t i (pos 0) (omega arith) in
      let n : length (decode t).atoms ≡ count_at t 0 256 = ap (λ (x : Structure). length x.atoms) (decode_is t) ∙ atoms_many (count_at t 0 256) in
      let a = count_back 0 256 (at 0 (omega arith)) in
      record {
        atoms = record { is = a.1.is; low_is = omega (arith, low, n, a.0); high_is = a.1.high_is };
        bonds = (count_back 1 512 (at 1 (omega arith))).1;
        charges = (count_back 2 64 (at 2 (omega arith))).1;
        radicals = (count_back 3 64 (at 3 (omega arith))).1;
        centres = (count_back 4 128 (at 4 (omega arith))).1;
        pairs = (count_back 5 128 (at 5 (omega arith))).1;
        id = record { is = at 6 (omega arith); low_is = omega arith; high_is = top };
      }

-- THE TEXTS' PLACES
natural_there : (s : List ℤ) → all (λ z. not (negative z)) s ≡ true → map (λ z. pos (nat_abs z)) s ≡ s
unfolding all negative
natural_there [] h = refl
natural_there (pos n ∷ s) h = ap (λ (l : List ℤ). pos n ∷ l) (natural_there s h)
natural_there (negsuc n ∷ s) h = torn false h refl

natural_back : (s : List ℤ) → map (λ z. pos (nat_abs z)) s ≡ s → all (λ z. not (negative z)) s ≡ true
unfolding all negative
natural_back [] e = refl
natural_back (pos n ∷ s) e = natural_back s (ap (drop 1) e)
natural_back (negsuc n ∷ s) e = torn (negative (negsuc n)) refl (ap negative (sym (ap (λ (l : List ℤ). number_at l 0) e)))

six : (s : List ℤ) → 6 ≤ length s → flat span_cells (rows_from 2 span_at 3 s) ≡ map (λ z. pos (nat_abs z)) (take 6 s)
unfolding flat rows_from
six [] k = absurd (omega arith)
six (a ∷ []) k = absurd (omega arith)
six (a ∷ b ∷ []) k = absurd (omega arith)
six (a ∷ b ∷ c ∷ []) k = absurd (omega arith)
six (a ∷ b ∷ c ∷ d ∷ []) k = absurd (omega arith)
six (a ∷ b ∷ c ∷ d ∷ e ∷ []) k = absurd (omega arith)
six (a ∷ b ∷ c ∷ d ∷ e ∷ f ∷ s) k = refl

module _ (t : List ℤ) (long : 3856 ≤ length t) where
  spans_are : flat span_cells (spans_of t) ≡ map (λ z. pos (nat_abs z)) (take 6 (drop 7 t))
  unfolding spans_of
  spans_are = six (drop 7 t) (omega (arith, length-drop 7 t))

  pub places_there : places_fine t ≡ true → flat span_cells (spans_of t) ≡ take 6 (drop 7 t)
  unfolding places_fine
  places_there h = spans_are ∙ natural_there (take 6 (drop 7 t)) h

  pub places_back : flat span_cells (spans_of t) ≡ take 6 (drop 7 t) → places_fine t ≡ true
  unfolding places_fine
  places_back e = natural_back (take 6 (drop 7 t)) (sym spans_are ∙ e)
