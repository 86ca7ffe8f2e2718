-- A structure's encoding part by part, and a well-formed structure rule by rule: the encoding is a table's first numbers if and only if each part is the table's. Serves
-- document 01, "The structure table". Assumes nothing.
use Prim.Native.Nat.{ℕ, ◌*◌, ◌≤◌}
use mathlib.Core.Path.{◌≡◌, refl}
use mathlib.Core.Bool.{Bool, true, not}
use mathlib.Core.List.{List, [], ◌++◌, map}
use native.Mathlib.Omega.{arith}
use lib.ListN.{length, take, drop}
use lib.IntN.{ℤ, pos}
use lib.Dec.{leb}
use borrow.Author.Tests.{leb-true, le-leb}
use Rattle.lists.specs.Lists.{all, flat, filled}
use Rattle.lists.proofs.Bools.{and_parts}
use Rattle.format.specs.Bytes.{within}
use Rattle.format.specs.Labels.{ListOf, Bonds, Charges, Radicals, Centres, Pairs}
use Rattle.format.specs.Structure.{Structure, rows_of, lists, most, atom_ok, rows_ok, handed_twice, well_formed}
use Rattle.format.specs.Reading.{Span}
use Rattle.format.specs.Table.{base, width, atom_cells, rows_part, counts, span_cells, derived, encode}
use Rattle.format.proofs.ByteLaws.{within_true, within_is}
use Rattle.soundness.proofs.SplitLaws.{split, joined}
use Rattle.soundness.proofs.ListLaws.{rows_test}

-- RULE BY RULE
pub record WellMade (k : ℕ) (s : Structure) : Type 0 where
  pub low : 1 ≤ length s.atoms
  pub high : length s.atoms ≤ 256
  pub atoms : all (atom_ok k) s.atoms ≡ true
  pub rows : (l : ListOf) → rows_test l (length s.atoms) (most l) (rows_of l s) ≡ true
  pub id : s.id ≤ 999999
  pub handed : not (handed_twice s) ≡ true

module _ (k : ℕ) (s : Structure) where
  abbrev test : ListOf → Bool
  test l = rows_ok (length s.atoms) s l

  each_list : all test lists ≡ true → (l : ListOf) → test l ≡ true
  unfolding all lists
  each_list h =
      let b = and_parts (test Bonds) _ h in
      let c = and_parts (test Charges) _ b.1 in
      let r = and_parts (test Radicals) _ c.1 in
      let d = and_parts (test Centres) _ r.1 in
      let p = and_parts (test Pairs) true d.1 in
      λ l. elim l as (λ l. test l ≡ true) [ Bonds ↦ b.0 | Charges ↦ c.0 | Radicals ↦ r.0 | Centres ↦ d.0 | Pairs ↦ p.0 ]

  every_list : ((l : ListOf) → test l ≡ true) → all test lists ≡ true
  unfolding all lists
  every_list f = rw (f Bonds, f Charges, f Radicals, f Centres, f Pairs)

  pub made_of : well_formed k s ≡ true → WellMade k s
  unfolding well_formed rows_ok
  made_of h =
      let n : ℕ = length s.atoms in
      let a = and_parts (within 1 256 n) _ h in
      let b = and_parts (all (atom_ok k) s.atoms) _ a.1 in
      let c = and_parts (all test lists) _ b.1 in
      let d = and_parts (leb s.id 999999) (not (handed_twice s)) c.1 in
      let w = within_true 1 256 n a.0 in
      record { low = w.0; high = w.1; atoms = b.0; rows = each_list c.0; id = leb-true s.id 999999 d.0; handed = d.1 }

  pub made_back : WellMade k s → well_formed k s ≡ true
  unfolding well_formed rows_ok
  made_back f = rw (within_is 1 256 (length s.atoms) f.low f.high, f.atoms, every_list f.rows, le-leb s.id 999999 f.id) f.handed

-- PART BY PART
pub record Laid (s : Structure) (spans : List Span) (t : List ℤ) : Type 0 where
  pub counts_are : map pos (counts s) ≡ take 7 (drop 0 t)
  pub spans_are : flat span_cells spans ≡ take 6 (drop 7 t)
  pub derived_are : derived s ≡ take 3 (drop 13 t)
  pub atoms_are : filled (pos 0) 1280 (atom_cells 1 s.charges s.radicals s.atoms) ≡ take 1280 (drop 16 t)
  pub rows_are : (l : ListOf) → rows_part s l ≡ take (width l * most l) (drop (base l) t)

module _ (s : Structure) (spans : List Span) (t : List ℤ) where
  abbrev atoms_part : List ℤ
  atoms_part = filled (pos 0) 1280 (atom_cells 1 s.charges s.radicals s.atoms)

  abbrev part : ListOf → List ℤ
  part l = rows_part s l

  pub first_part : 3856 ≤ length t → encode s spans ≡ take 3856 t →
      (map pos (counts s) ≡ take 7 (drop 0 t)) × ((flat span_cells spans ++ (derived s ++ (atoms_part ++ flat part lists))) ≡ take 3849 (drop 7 t))
  unfolding encode counts
  first_part long e = split t (map pos (counts s)) (flat span_cells spans ++ (derived s ++ (atoms_part ++ flat part lists))) 0 7 3849 refl (omega arith) e

  list_parts : 3856 ≤ length t → ((l : ListOf) → length (part l) ≡ width l * most l) → flat part lists ≡ take 2560 (drop 1296 t) → (l : ListOf) → part l ≡ take (width l * most l) (drop (base l) t)
  unfolding flat lists width most base
  list_parts long h e =
      let b = split t (part Bonds) (part Charges ++ (part Radicals ++ (part Centres ++ (part Pairs ++ [])))) 1296 1536 1024 (h Bonds) (omega arith) e in
      let c = split t (part Charges) (part Radicals ++ (part Centres ++ (part Pairs ++ []))) 2832 64 960 (h Charges) (omega arith) b.1 in
      let r = split t (part Radicals) (part Centres ++ (part Pairs ++ [])) 2896 64 896 (h Radicals) (omega arith) c.1 in
      let d = split t (part Centres) (part Pairs ++ []) 2960 384 512 (h Centres) (omega arith) r.1 in
      let p = split t (part Pairs) [] 3344 512 0 (h Pairs) (omega arith) d.1 in
      λ l. elim l as (λ l. part l ≡ take (width l * most l) (drop (base l) t)) [ Bonds ↦ b.0 | Charges ↦ c.0 | Radicals ↦ r.0 | Centres ↦ d.0 | Pairs ↦ p.0 ]

  pub laid_of : 3856 ≤ length t → length (flat span_cells spans) ≡ 6 → length atoms_part ≡ 1280 → ((l : ListOf) → length (part l) ≡ width l * most l) → encode s spans ≡ take 3856 t → Laid s spans t
  unfolding derived
  laid_of long six m h e =
      let a = first_part long e in
      let b = split t (flat span_cells spans) (derived s ++ (atoms_part ++ flat part lists)) 7 6 3843 six (omega arith) a.1 in
      let c = split t (derived s) (atoms_part ++ flat part lists) 13 3 3840 refl (omega arith) b.1 in
      let d = split t atoms_part (flat part lists) 16 1280 2560 m (omega arith) c.1 in
      record { counts_are = a.0; spans_are = b.0; derived_are = c.0; atoms_are = d.0; rows_are = list_parts long h d.1 }

  lists_back : ((l : ListOf) → part l ≡ take (width l * most l) (drop (base l) t)) → flat part lists ≡ take 2560 (drop 1296 t)
  unfolding flat lists width most base
  lists_back f =
      joined t (part Bonds) (part Charges ++ (part Radicals ++ (part Centres ++ (part Pairs ++ [])))) 1296 1536 1024 (f Bonds)
      (joined t (part Charges) (part Radicals ++ (part Centres ++ (part Pairs ++ []))) 2832 64 960 (f Charges)
      (joined t (part Radicals) (part Centres ++ (part Pairs ++ [])) 2896 64 896 (f Radicals)
      (joined t (part Centres) (part Pairs ++ []) 2960 384 512 (f Centres) (joined t (part Pairs) [] 3344 512 0 (f Pairs) refl))))

  pub laid_back : Laid s spans t → encode s spans ≡ take 3856 t
  unfolding encode
  laid_back f =
      joined t (map pos (counts s)) (flat span_cells spans ++ (derived s ++ (atoms_part ++ flat part lists))) 0 7 3849 f.counts_are
      (joined t (flat span_cells spans) (derived s ++ (atoms_part ++ flat part lists)) 7 6 3843 f.spans_are
      (joined t (derived s) (atoms_part ++ flat part lists) 13 3 3840 f.derived_are (joined t atoms_part (flat part lists) 16 1280 2560 f.atoms_are (lists_back f.rows_are))))
