-- The numbers that rows get atom by atom, the row without atoms last, are their numbers in the sorted list: of every atom's row, and of every row's value. Document 01,
-- "The structure table": "Charge and radical rows ascend by lowest atom, the row without atoms last." Assumes nothing.
use Prim.Native.Nat.{ℕ, zero, suc, ◌+◌, ◌-◌, ◌≤◌, ◌<◌}
use mathlib.Core.Path.{◌≡◌, refl, sym, ap, ◌∙◌, subst}
use mathlib.Core.Bool.{Bool, true, false, ◌&&◌, not}
use mathlib.Core.Logic.{inl}
use Rattle.std.specs.declared.option.Option.{Option}
use Rattle.std.specs.declared.option.Option.TheVariants.{None, Some}
use mathlib.Core.List.{List, [], ◌∷◌, map}
use native.Mathlib.Omega.{arith}
use lib.ListN.{length, get_or, set}
use lib.IntN.{pos}
use lib.Seq.{get_or-set_same, get_or-set_other}
use lib.Dec.{eqb}
use borrow.Author.Tests.{eqb-true, eqb-false, eq-eqb, ne_eqb}
use Rattle.lists.specs.Lists.{is_nil, all, any, filled}
use Rattle.lists.specs.Order.{sort}
use Rattle.lists.proofs.Bools.{torn, never, and_left_false, and_right_false, eqb_same}
use Rattle.lists.proofs.ListLaws.{all_parts, all_imply, any_nil, any_hit, any_neither}
use Rattle.lists.proofs.PartLaws.{filled_nil, filled_length}
use Rattle.lists.proofs.IndexLaws.{noughts_at}
use Rattle.lists.proofs.SortLaws.{sort_ascends, sort_any, sort_all, sort_pairs, sort_length}
use Rattle.format.specs.Bytes.{within, is_in}
use Rattle.format.specs.Rows.{Row, row}
use Rattle.format.specs.Structure.{meets, row_before, row_ok}
use Rattle.format.proofs.ByteLaws.{within_true, within_low}
use Rattle.format.proofs.OrderLaws.{row_strict, rows_apart, meets_symm}
use Rattle.sorted.specs.Regions.{Fits, members_from, void_of, arrived}
use Rattle.sorted.proofs.FitLaws.{row_fits_lem}
use Rattle.spread.specs.Members.{list_of}
use Rattle.spread.proofs.SpreadLaws.{members_zero, members_suc}
use Rattle.spread.proofs.PlaceLaws.{has, void, tells, back_of, front_of, code_of, back_none, front_none, back_some, front_some, any_at, back_at, front_at, back_both, front_both, back_same, front_same, back_value, front_value, member_back, void_back, with_front}
use Rattle.numbering.specs.Numbering.{is_new, next_after, order_after, numbered, with_void, Renumbered}
use Rattle.numbering.proofs.AppearLaws.{all_member, tells_alone, rising, InOrder, appears, void_last}
use Rattle.numbering.proofs.NumberingLaws.{numbered_cons, numbered_nil, Numberings, Going, pass}

-- WHAT TELLS a row tells it
abbrev pub mark_of : List ℕ → Option ℕ
mark_of [] = None
mark_of (n ∷ ns) = Some n

pub mark_tells : (r : Row) → tells (mark_of r.atoms) r ≡ true
mark_tells r = go r.atoms refl
  where
    go : (ns : List ℕ) → r.atoms ≡ ns → tells (mark_of ns) r ≡ true
    go [] e = ap is_nil e
    go (n ∷ ns) e = ap (is_in n) e ∙ any_hit (eqb n) n ns (eqb_same n)

-- a row with an atom is not the row without atoms
has_void : (n : ℕ) (rs : List Row) → any (λ r. has n r && void r) rs ≡ false
has_void n [] = any_nil (λ r. has n r && void r)
has_void n (r ∷ rs) = any_neither (λ x. has n x && void x) r rs (go r.atoms refl) (has_void n rs)
  where
    go : (ns : List ℕ) → r.atoms ≡ ns → (has n r && void r) ≡ false
    go [] e = and_left_false (has n r) (void r) (ap (is_in n) e ∙ any_nil (eqb n))
    go (m ∷ ms) e = and_right_false (has n r) (void r) (ap is_nil e)

-- the numbers before any row has one
pub blank_at : (n k : ℕ) → ◌≡◌ {A = ℕ} (get_or {A = ℕ} (filled 0 n []) k 0) 0
blank_at n k = ap (λ (l : List ℕ). get_or l k 0) (filled_nil 0 n) ∙ noughts_at n k

module _ (s : Bool) (atoms : ℕ) (rs : List Row) (fit : Fits (list_of s) atoms rs) (few : length rs ≤ 64) where
  abbrev sorted : List Row
  sorted = sort row_before rs

  in_order_lem : InOrder s sorted
  in_order_lem = record {
    ascend = sort_ascends row_before row_strict rs (rows_apart (list_of s) rs fit.apart);
    unmet = sort_pairs row_before (meets (list_of s)) (meets_symm (list_of s)) rs ∙ fit.apart;
    rise = sort_all row_before rising rs ∙ all_imply (row_ok (list_of s) atoms) rising (λ r e. (row_fits_lem (list_of s) atoms r e).ascend) rs fit.each;
  }

  -- an atom that is not listed has no row
  unlisted : (n : ℕ) → within 1 atoms n ≡ false → any (has n) rs ≡ false
  unlisted n e = go rs fit.each
    where
      go : (xs : List Row) → all (row_ok (list_of s) atoms) xs ≡ true → any (has n) xs ≡ false
      go [] a = any_nil (has n)
      go (x ∷ xs) a =
          let p : (row_ok (list_of s) atoms x ≡ true) × (all (row_ok (list_of s) atoms) xs ≡ true) = all_parts (row_ok (list_of s) atoms) x xs a in
          any_neither (has n) x xs (never (has n x) (λ h. torn (within 1 atoms n) (all_member (within 1 atoms) n x.atoms h (row_fits_lem (list_of s) atoms x p.0).listed) e)) (go xs p.1)

  module _ (p : Row → Bool) where
    told : (back_of p rs ≡ 0 → ⊥) → any p rs ≡ true
    told h = go (any p rs) refl
      where
        go : (t : Bool) → any p rs ≡ t → any p rs ≡ true
        go true e = e
        go false e = absurd (h (back_none p rs e))

    told_sorted : (front_of p 1 sorted ≡ 0 → ⊥) → any p rs ≡ true
    told_sorted h = go (any p rs) refl
      where
        go : (t : Bool) → any p rs ≡ t → any p rs ≡ true
        go true e = e
        go false e = absurd (h (front_none p 1 sorted (sort_any row_before p rs ∙ e)))

    none_back : front_of p 1 sorted ≡ 0 → back_of p rs ≡ 0
    none_back e = go (any p rs) refl
      where
        go : (t : Bool) → any p rs ≡ t → back_of p rs ≡ 0
        go true a = absurd (omega (arith, (front_some p 1 sorted (sort_any row_before p rs ∙ a)).0, e))
        go false a = back_none p rs a

    none_front : back_of p rs ≡ 0 → front_of p 1 sorted ≡ 0
    none_front e = go (any p rs) refl
      where
        go : (t : Bool) → any p rs ≡ t → front_of p 1 sorted ≡ 0
        go true a = absurd (omega (arith, (back_some p rs a).0, e))
        go false a = front_none p 1 sorted (sort_any row_before p rs ∙ a)

    back_few : back_of p rs ≤ length rs
    back_few = go (any p rs) refl
      where
        go : (t : Bool) → any p rs ≡ t → back_of p rs ≤ length rs
        go true a = (back_some p rs a).1
        go false a = omega (arith, back_none p rs a)

  abbrev came : ℕ → ℕ
  came n = back_of (has n) rs

  abbrev stands : ℕ → ℕ
  stands n = front_of (has n) 1 sorted

  numberings : Numberings came stands
  numberings = record {
    none = λ n. none_front (has n);
    some = λ n. none_back (has n);
    same = λ n m h e. front_same (has n) (has m) 1 sorted (tells_alone s (Some n) sorted in_order_lem.unmet) (tells_alone s (Some m) sorted in_order_lem.unmet)
        (sort_any row_before (λ r. has n r && has m r) rs ∙ back_both (has n) (has m) rs (told (has n) h) e);
    back = λ n m h e. back_same (has n) (has m) rs (tells_alone s (Some n) rs fit.apart) (tells_alone s (Some m) rs fit.apart)
        (sym (sort_any row_before (λ r. has n r && has m r) rs) ∙ front_both (has n) (has m) 1 sorted (omega arith) (sort_any row_before (has n) rs ∙ told_sorted (has n) h) e);
    small = λ n. omega (arith, back_few (has n));
    above = λ n h new. (appears s 1 sorted (omega arith) in_order_lem n (sort_any row_before (has n) rs ∙ told_sorted (has n) h) new).above;
    tight = λ n h new. (appears s 1 sorted (omega arith) in_order_lem n (sort_any row_before (has n) rs ∙ told_sorted (has n) h) new).tight;
  }

  no_atom_lem : (n : ℕ) → within 1 atoms n ≡ false → came n ≡ 0
  no_atom_lem n e = back_none (has n) rs (unlisted n e)

  abbrev blank : List ℕ
  blank = filled 0 65 []

  start : Going came stands 1 1 blank
  start =
      let z : came 0 ≡ 0 = no_atom_lem 0 (within_low 1 atoms 0 (omega arith)) in
      record {
        long = filled_length 0 65 [] (omega arith);
        met = λ m l h e. h (let q : m ≡ 0 = omega arith in ap came q ∙ z);
        right = λ m h. absurd (h (blank_at 65 (came m)));
        first = blank_at 65 0;
        low = λ k. omega (arith, blank_at 65 k);
        above = λ m l. let q : m ≡ 0 = omega arith in omega (arith, ap stands q, none_front (has 0) z);
        tight = inl refl;
      }

  goes : (k n next : ℕ) (order : List ℕ) → Going came stands n next order → (x : ℕ) × Going came stands (n + k) x (numbered next (members_from k n rs) order)
  goes zero n next order h =
      let e : n ≡ n + 0 = omega arith in
      (next, subst (λ (l : List ℕ). Going came stands (n + 0) next l) (sym (ap (λ (l : List ℕ). numbered next l order) (members_zero n rs) ∙ numbered_nil next order)) (subst (λ (i : ℕ). Going came stands i next order) e h))
  goes (suc k) n next order h =
      let order' : List ℕ = order_after (is_new (came n) order) (came n) next order in
      let q : numbered next (members_from (suc k) n rs) order ≡ numbered (next_after (is_new (came n) order) next) (members_from k (suc n) rs) order'
      = ap (λ (l : List ℕ). numbered next l order) (members_suc k n rs ∙ ap (λ (m : ℕ). m ∷ members_from k (suc n) rs) (member_back n rs)) ∙ numbered_cons next (came n) (members_from k (suc n) rs) order in
      let e : suc n + k ≡ n + suc k = omega arith in
      let i = goes k (suc n) (next_after (is_new (came n) order) next) order' (pass came stands numberings n next order h) in
      (i.0, subst (λ (l : List ℕ). Going came stands (n + suc k) i.0 l) (sym q) (subst (λ (j : ℕ). Going came stands j i.0 (numbered (next_after (is_new (came n) order) next) (members_from k (suc n) rs) order')) e i.1))

  -- EVERY ATOM'S ROW has its number
  abbrev given : List ℕ
  given = numbered 1 (members_from atoms 1 rs) blank

  atoms_right : (n : ℕ) → get_or given (came n) 0 ≡ stands n
  atoms_right n = go (within 1 atoms n) refl
    where
      all_met : Going came stands (1 + atoms) (goes atoms 1 1 blank start).0 given
      all_met = (goes atoms 1 1 blank start).1

      zero_row : came n ≡ 0 → get_or given (came n) 0 ≡ stands n
      zero_row e = ap (λ (k : ℕ). get_or given k 0) e ∙ all_met.first ∙ sym (none_front (has n) e)

      listed : within 1 atoms n ≡ true → (t : Bool) → eqb (came n) 0 ≡ t → get_or given (came n) 0 ≡ stands n
      listed h true e = zero_row (eqb-true (came n) 0 e)
      listed h false e = all_met.right n (all_met.met n (omega (arith, (within_true 1 atoms n h).1)) (eqb-false (came n) 0 e))

      go : (t : Bool) → within 1 atoms n ≡ t → get_or given (came n) 0 ≡ stands n
      go true h = listed h (eqb (came n) 0) refl
      go false h = zero_row (no_atom_lem n h)

  given_first : get_or given 0 0 ≡ 0
  given_first = (goes atoms 1 1 blank start).1.first

  given_long : length given ≡ 65
  given_long = (goes atoms 1 1 blank start).1.long

  -- AND THE ROW WITHOUT ATOMS the last
  abbrev whole : List ℕ
  whole = with_void (void_of rs) (length rs) given

  whole_none : back_of void rs ≡ 0 → whole ≡ given
  unfolding with_void
  whole_none e = ap (λ (b : Bool). order_after (not b) (void_of rs) (length rs) given) (eq-eqb (void_of rs) 0 (void_back rs ∙ e))

  whole_some : (back_of void rs ≡ 0 → ⊥) → whole ≡ set given (back_of void rs) (length rs)
  unfolding with_void
  whole_some e =
      ap (λ (b : Bool). order_after (not b) (void_of rs) (length rs) given) (ne_eqb (void_of rs) 0 (λ z. e (sym (void_back rs) ∙ z)))
      ∙ ap (λ (v : ℕ). set given v (length rs)) (void_back rs)

  whole_right : (p : Option ℕ) → get_or whole (back_of (tells p) rs) 0 ≡ front_of (tells p) 1 sorted
  whole_right None = go (eqb (back_of void rs) 0) refl
    where
      go : (t : Bool) → eqb (back_of void rs) 0 ≡ t → get_or whole (back_of void rs) 0 ≡ front_of void 1 sorted
      go true e =
          let z : back_of void rs ≡ 0 = eqb-true (back_of void rs) 0 e in
          ap (λ (l : List ℕ). get_or l (back_of void rs) 0) (whole_none z) ∙ ap (λ (k : ℕ). get_or given k 0) z ∙ given_first ∙ sym (none_front void z)
      go false e =
          let z = eqb-false (back_of void rs) 0 e in
          let a : any void sorted ≡ true = sort_any row_before void rs ∙ told void z in
          ap (λ (l : List ℕ). get_or l (back_of void rs) 0) (whole_some z) ∙ get_or-set_same given (back_of void rs) (length rs) 0 (omega (arith, given_long, back_few void))
          ∙ omega (arith, void_last s 1 sorted in_order_lem a, sort_length row_before rs)
  whole_right (Some n) = go (eqb (back_of void rs) 0) refl
    where
      away : (back_of void rs ≡ 0 → ⊥) → came n ≡ back_of void rs → ⊥
      away z e = torn (any (λ r. has n r && void r) rs) (back_both (has n) void rs (told (has n) (λ q. z (sym e ∙ q))) e) (has_void n rs)

      go : (t : Bool) → eqb (back_of void rs) 0 ≡ t → get_or whole (came n) 0 ≡ stands n
      go true e = ap (λ (l : List ℕ). get_or l (came n) 0) (whole_none (eqb-true (back_of void rs) 0 e)) ∙ atoms_right n
      go false e =
          let z = eqb-false (back_of void rs) 0 e in
          ap (λ (l : List ℕ). get_or l (came n) 0) (whole_some z) ∙ get_or-set_other given (back_of void rs) (came n) (length rs) 0 (away z) ∙ atoms_right n

  -- A ROW BY ITS NUMBER, as it came or as it is sorted
  none_row : Row
  none_row = row [] (pos 0) 0

  module _ (i : ℕ) (l : i < length rs) where
    abbrev by : Row → Bool
    by = tells (mark_of (get_or rs (length rs - suc i) none_row).atoms)

    by_number : back_of by rs ≡ suc i
    by_number =
        back_at by none_row rs (length rs - suc i) (tells_alone s (mark_of (get_or rs (length rs - suc i) none_row).atoms) rs fit.apart) (omega arith) (mark_tells (get_or rs (length rs - suc i) none_row))
        ∙ omega arith

    by_any : any by rs ≡ true
    by_any = any_at by none_row rs (length rs - suc i) (omega arith) (mark_tells (get_or rs (length rs - suc i) none_row))

    by_order : get_or whole (suc i) 0 ≡ front_of by 1 sorted
    by_order = ap (λ (k : ℕ). get_or whole k 0) (sym by_number) ∙ whole_right (mark_of (get_or rs (length rs - suc i) none_row).atoms)

    by_bounds : (1 ≤ get_or whole (suc i) 0) × (get_or whole (suc i) 0 ≤ length rs)
    by_bounds =
        let b = front_some by 1 sorted (sort_any row_before by rs ∙ by_any) in
        (omega (arith, by_order, b.0), omega (arith, by_order, b.1, sort_length row_before rs))

    by_value : get_or (map code_of sorted) (get_or whole (suc i) 0 - 1) 0 ≡ get_or (arrived rs) i 0
    by_value =
        let v : ℕ = get_or (arrived rs) (back_of by rs - 1) 0 in
        let k : back_of by rs - 1 ≡ i = omega (arith, by_number) in
        ap (λ (m : ℕ). get_or (map code_of sorted) (m - 1) 0) by_order
        ∙ front_value by 1 v sorted (tells_alone s (mark_of (get_or rs (length rs - suc i) none_row).atoms) sorted in_order_lem.unmet) (sort_any row_before (λ r. by r && eqb (code_of r) v) rs ∙ back_value by rs by_any)
        ∙ ap (λ (m : ℕ). get_or (arrived rs) m 0) k

  module _ (j : ℕ) (l : j < length rs) where
    abbrev at : Row → Bool
    at = tells (mark_of (get_or sorted j none_row).atoms)

    at_number : front_of at 1 sorted ≡ suc j
    at_number =
        front_at at 1 none_row sorted j (tells_alone s (mark_of (get_or sorted j none_row).atoms) sorted in_order_lem.unmet) (omega (arith, sort_length row_before rs)) (mark_tells (get_or sorted j none_row))
        ∙ omega arith

    at_onto : (i : ℕ) × (i < length rs) × (get_or whole (suc i) 0 ≡ suc j)
    at_onto =
        let a : any at rs ≡ true = told_sorted at (λ z. omega (arith, at_number, z)) in
        let k : suc (back_of at rs - 1) ≡ back_of at rs = omega (arith, (back_some at rs a).0) in
        (back_of at rs - 1, omega (arith, (back_some at rs a).0, (back_some at rs a).1), ap (λ (m : ℕ). get_or whole m 0) k ∙ whole_right (mark_of (get_or sorted j none_row).atoms) ∙ at_number)

  pub renumbered : Renumbered rs (with_void (void_of rs) (length rs) (numbered 1 (members_from atoms 1 rs) (filled 0 65 [])))
  renumbered = record {
    members = λ n. ap (λ (k : ℕ). get_or whole k 0) (member_back n rs) ∙ whole_right (Some n) ∙ sym (with_front 1 n sorted);
    low = λ i l. (by_bounds i l).0;
    high = λ i l. (by_bounds i l).1;
    values = by_value;
    onto = at_onto;
  }
