-- The tests of a line, each taken along all lines, and what each says of the lines: their labels, atoms, rows, geometry and YES after all of them. Serves "accepted
-- exactly when". Assumes nothing.
use Prim.Native.Nat.{ℕ, ◌+◌}
use mathlib.Core.Path.{◌≡◌, refl, sym, ap, ◌∙◌}
use mathlib.Core.Bool.{Bool, true, false, not, ◌&&◌, ◌||◌, or-false}
use mathlib.Core.List.{List, [], ◌∷◌, map, reverse}
use native.Mathlib.Omega.{arith}
use lib.ListN.{length, length-map}
use lib.Dec.{eqb, ltb, leb}
use Rattle.lists.specs.Lists.{is_nil, all, any, pairs, flat}
use Rattle.lists.specs.Folding.{kept}
use Rattle.lists.proofs.Bools.{torn, always, and_parts, and_both, not_or}
use Rattle.lists.proofs.ListLaws.{all_same, any_same, any_nil, any_all}
use Rattle.lists.proofs.SortLaws.{sort_all}
use Rattle.format.specs.Bytes.{Bytes, within, gap, allowed}
use Rattle.format.specs.Labels.{ListOf, Bonds, Charges, Radicals, Centres, Pairs, Skipped, line_of, end_line}
use Rattle.format.specs.Rows.{Row, AtomRow}
use Rattle.format.specs.Coordinates.{factor, geometry}
use Rattle.format.specs.Structure.{rows_of, most, meets, clash}
use Rattle.format.specs.Reading.{State, atom_count, lacks, partly, ordered, over, start}
use Rattle.demands.specs.Accepted.{told, unparted, behind_end, labels, named, atom_of, further_rule, numbered, first_or}
use Rattle.demands.proofs.AcceptedContents.{atom_on, row_of, entries_on, greatest_on, factor_on, xyz_on, yes_on}
use Rattle.demands.proofs.AcceptedAfter.{afters}
use Rattle.demands.proofs.AcceptedSteps.{list_passes, value_test, on_line, titled_at, closed_at, next_atom, room_at, listed_at, apart_at, held_at, xyz_listed_at, xyz_above_at, present, along, keeps, along_and, along_all}
use Rattle.demands.proofs.AcceptedLines.{placed, closed_is, own_test, own_is}
use Rattle.demands.proofs.AcceptedRows.{atom_test, numbers_are, atoms_roomy, afters_atoms, along_imply, along_every, line_each, line_every, row_test, free_row, held_row, rows_free, rows_held, afters_rows}
use Rattle.demands.proofs.AcceptedOrder.{Follows, listed_row, rows_listed, seen_any, ready, end_none}
use Rattle.demands.proofs.AcceptedOnce.{formula_is}
use Rattle.demands.proofs.AcceptedGeometry.{xyz_test, afters_xyz, xyz_listed, not_above, xyz_above, greatest_is, factor_is}
use Rattle.demands.proofs.AcceptedYes.{yes_test, once_only, yes_once, afters_yes}

-- THE TESTS, each along all lines
abbrev list_test : (State → ListOf → Row → Bool) → State → Bytes → Bool
list_test test st b = on_line (list_passes (test st)) (list_passes (test st)) st.running b (line_of b)

pub record Tests (k : ℕ) (st : State) (ls : List Bytes) : Type 0 where
  pub fine : along k (λ s l. all allowed l) st ls ≡ true
  pub titled : along k titled_at st ls ≡ true
  pub parted : along k (λ s l. not (unparted (line_of l))) st ls ≡ true
  pub ordered_labels : along k (placed k) st ls ≡ true
  pub closed : along k closed_at st ls ≡ true
  pub own : along k (λ s l. on_line (value_test k) (further_rule k) s.running l (line_of l)) st ls ≡ true
  pub next : along k (atom_test next_atom) st ls ≡ true
  pub room : along k (atom_test room_at) st ls ≡ true
  pub listed : along k (list_test listed_at) st ls ≡ true
  pub apart : along k (list_test apart_at) st ls ≡ true
  pub held : along k (list_test held_at) st ls ≡ true
  pub xyz_named : along k (xyz_test xyz_listed_at) st ls ≡ true
  pub xyz_rising : along k (xyz_test xyz_above_at) st ls ≡ true
  pub yes_first : along k yes_test st ls ≡ true
  pub end : along k (ready k) st ls ≡ true

module _ (k : ℕ) (st : State) (ls : List Bytes) where
  part : (p q : State → Bytes → Bool) → along k (λ s l. p s l && q s l) st ls ≡ true → (along k p st ls ≡ true) × (along k q st ls ≡ true)
  part p q h = and_parts (along k p st ls) (along k q st ls) (sym (along_and k p q st ls) ∙ h)

  both : (p q : State → Bytes → Bool) → along k p st ls ≡ true → along k q st ls ≡ true → along k (λ s l. p s l && q s l) st ls ≡ true
  both p q f g = along_and k p q st ls ∙ and_both (along k p st ls) (along k q st ls) f g

  abbrev from14 : State → Bytes → Bool
  from14 s l = yes_test s l && ready k s l

  abbrev from13 : State → Bytes → Bool
  from13 s l = xyz_test xyz_above_at s l && from14 s l

  abbrev from12 : State → Bytes → Bool
  from12 s l = xyz_test xyz_listed_at s l && from13 s l

  abbrev from11 : State → Bytes → Bool
  from11 s l = list_test held_at s l && from12 s l

  abbrev from10 : State → Bytes → Bool
  from10 s l = list_test apart_at s l && from11 s l

  abbrev from9 : State → Bytes → Bool
  from9 s l = list_test listed_at s l && from10 s l

  abbrev from8 : State → Bytes → Bool
  from8 s l = atom_test room_at s l && from9 s l

  abbrev from7 : State → Bytes → Bool
  from7 s l = atom_test next_atom s l && from8 s l

  abbrev from6 : State → Bytes → Bool
  from6 s l = on_line (value_test k) (further_rule k) s.running l (line_of l) && from7 s l

  abbrev from5 : State → Bytes → Bool
  from5 s l = closed_at s l && from6 s l

  abbrev from4 : State → Bytes → Bool
  from4 s l = placed k s l && from5 s l

  abbrev from3 : State → Bytes → Bool
  from3 s l = not (unparted (line_of l)) && from4 s l

  abbrev from2 : State → Bytes → Bool
  from2 s l = titled_at s l && from3 s l

  pub each_test : along k (keeps k) st ls ≡ true → Tests k st ls
  each_test h =
      let p1 : (along k (λ s l. all allowed l) st ls ≡ true) × (along k from2 st ls ≡ true) = part (λ s l. all allowed l) from2 h in
      let p2 : (along k titled_at st ls ≡ true) × (along k from3 st ls ≡ true) = part titled_at from3 p1.1 in
      let p3 : (along k (λ s l. not (unparted (line_of l))) st ls ≡ true) × (along k from4 st ls ≡ true) = part (λ s l. not (unparted (line_of l))) from4 p2.1 in
      let p4 : (along k (placed k) st ls ≡ true) × (along k from5 st ls ≡ true) = part (placed k) from5 p3.1 in
      let p5 : (along k closed_at st ls ≡ true) × (along k from6 st ls ≡ true) = part closed_at from6 p4.1 in
      let p6 : (along k (λ s l. on_line (value_test k) (further_rule k) s.running l (line_of l)) st ls ≡ true) × (along k from7 st ls ≡ true) = part (λ s l. on_line (value_test k) (further_rule k) s.running l (line_of l)) from7 p5.1 in
      let p7 : (along k (atom_test next_atom) st ls ≡ true) × (along k from8 st ls ≡ true) = part (atom_test next_atom) from8 p6.1 in
      let p8 : (along k (atom_test room_at) st ls ≡ true) × (along k from9 st ls ≡ true) = part (atom_test room_at) from9 p7.1 in
      let p9 : (along k (list_test listed_at) st ls ≡ true) × (along k from10 st ls ≡ true) = part (list_test listed_at) from10 p8.1 in
      let p10 : (along k (list_test apart_at) st ls ≡ true) × (along k from11 st ls ≡ true) = part (list_test apart_at) from11 p9.1 in
      let p11 : (along k (list_test held_at) st ls ≡ true) × (along k from12 st ls ≡ true) = part (list_test held_at) from12 p10.1 in
      let p12 : (along k (xyz_test xyz_listed_at) st ls ≡ true) × (along k from13 st ls ≡ true) = part (xyz_test xyz_listed_at) from13 p11.1 in
      let p13 : (along k (xyz_test xyz_above_at) st ls ≡ true) × (along k from14 st ls ≡ true) = part (xyz_test xyz_above_at) from14 p12.1 in
      let p14 : (along k yes_test st ls ≡ true) × (along k (ready k) st ls ≡ true) = part yes_test (ready k) p13.1 in
      record { fine = p1.0; titled = p2.0; parted = p3.0; ordered_labels = p4.0; closed = p5.0; own = p6.0; next = p7.0; room = p8.0; listed = p9.0; apart = p10.0; held = p11.0; xyz_named = p12.0; xyz_rising = p13.0; yes_first = p14.0; end = p14.1 }

  pub all_tests : Tests k st ls → along k (keeps k) st ls ≡ true
  all_tests x =
      both (λ s l. all allowed l) from2 x.fine
      (both titled_at from3 x.titled
      (both (λ s l. not (unparted (line_of l))) from4 x.parted
      (both (placed k) from5 x.ordered_labels
      (both closed_at from6 x.closed
      (both (λ s l. on_line (value_test k) (further_rule k) s.running l (line_of l)) from7 x.own
      (both (atom_test next_atom) from8 x.next
      (both (atom_test room_at) from9 x.room
      (both (list_test listed_at) from10 x.listed
      (both (list_test apart_at) from11 x.apart
      (both (list_test held_at) from12 x.held
      (both (xyz_test xyz_listed_at) from13 x.xyz_named
      (both (xyz_test xyz_above_at) from14 x.xyz_rising
      (both yes_test (ready k) x.yes_first x.end)))))))))))))

-- AT THE START nothing has been read
pub start_rows : (l : ListOf) → rows_of l start.body ≡ []
unfolding start rows_of
start_rows Bonds = refl
start_rows Charges = refl
start_rows Radicals = refl
start_rows Centres = refl
start_rows Pairs = refl

-- the state after all lines, said of the lines
module _ (k : ℕ) (ls : List Bytes) where
  abbrev last : State
  last = afters k start ls

  abbrev rows_of_atoms : List AtomRow
  rows_of_atoms = flat atom_on (told Skipped ls)

  pub last_atoms : last.body.atoms ≡ map (atom_of k) rows_of_atoms
  unfolding start
  last_atoms = afters_atoms k start ls

  last_count : atom_count last ≡ length rows_of_atoms
  last_count = ap length last_atoms ∙ length-map rows_of_atoms (atom_of k)

  pub last_formula : along k (placed k) start ls ≡ true → last.formula ≡ flat (entries_on k) (told Skipped ls)
  unfolding start
  last_formula h = formula_is k start ls refl h

  pub last_lacks : (c : ℕ) → lacks last.seen c ≡ lacks (labels ls) c
  unfolding lacks start
  last_lacks c = ap not (seen_any k (λ x. eqb x.code c) start ls ∙ ap (λ (t : Bool). named (labels ls) c || t) (any_nil (λ x. eqb x.code c)) ∙ or-false (named (labels ls) c))

  pub last_partly : (cs : List ℕ) → partly last.seen cs ≡ partly (labels ls) cs
  unfolding partly
  last_partly cs =
      ap (λ (t : Bool). t && not (all (lacks last.seen) cs)) (any_same (lacks last.seen) (lacks (labels ls)) last_lacks cs)
      ∙ ap (λ (t : Bool). any (lacks (labels ls)) cs && not t) (all_same (lacks last.seen) (lacks (labels ls)) last_lacks cs)

  pub last_geometry : along k (placed k) start ls ≡ true → last.geometry ≡ geometry (first_or 0 (flat greatest_on (told Skipped ls))) (first_or (factor 0 0) (flat factor_on (told Skipped ls))) (reverse (flat xyz_on (told Skipped ls)))
  unfolding start
  last_geometry h = rw (sym (greatest_is k start ls refl h), sym (factor_is k start ls refl h), sym (afters_xyz k start ls))

  pub last_yes : last.body.handed ≡ not (is_nil (flat yes_on (told Skipped ls)))
  unfolding start
  last_yes = afters_yes k start ls

  pub last_kept : (l : ListOf) → rows_of l last.body ≡ kept (meets l) [] (flat (row_of l) (told Skipped ls))
  unfolding start
  last_kept l = afters_rows k l start ls ∙ ap (λ (rs : List Row). kept (meets l) rs (flat (row_of l) (told Skipped ls))) (start_rows l)

  pub yes_first_is : along k yes_test start ls ≡ once_only false (flat yes_on (told Skipped ls))
  unfolding start
  yes_first_is = yes_once k start ls

  last_named : (c : ℕ) → not (lacks last.seen c) ≡ named (labels ls) c
  unfolding lacks start
  last_named c = not_not (named last.seen c) ∙ seen_any k (λ x. eqb x.code c) start ls ∙ ap (λ (t : Bool). named (labels ls) c || t) (any_nil (λ x. eqb x.code c)) ∙ or-false (named (labels ls) c)
    where
      not_not : (b : Bool) → not (not b) ≡ b
      not_not true = refl
      not_not false = refl

  pub last_present : present last ≡ (all (named (labels ls)) (2 ∷ 3 ∷ 4 ∷ 5 ∷ []) && not (eqb (length rows_of_atoms) 0))
  last_present =
      not_or (any (lacks last.seen) (2 ∷ 3 ∷ 4 ∷ 5 ∷ [])) (eqb (atom_count last) 0)
      ∙ ap (λ (t : Bool). t && not (eqb (atom_count last) 0)) (any_all (lacks last.seen) (2 ∷ 3 ∷ 4 ∷ 5 ∷ []) ∙ all_same (λ c. not (lacks last.seen c)) (named (labels ls)) last_named (2 ∷ 3 ∷ 4 ∷ 5 ∷ []))
      ∙ ap (λ (n : ℕ). all (named (labels ls)) (2 ∷ 3 ∷ 4 ∷ 5 ∷ []) && not (eqb n 0)) last_count

  pub start_over : over start.running ≡ false
  unfolding start
  start_over = refl

  start_follows : Follows k start
  unfolding start
  start_follows h = torn false h refl

  -- the tests of rows, list by list
  listed_order : (st : State) (l : ListOf) (r : Row) → listed_at st l r ≡ listed_row k st (ordered r)
  listed_order st l r = sym (sort_all ltb (within 1 (atom_count st)) r.atoms)

  pub each_listed : along k (list_test listed_at) start ls ≡ true → (l : ListOf) → along k (row_test k l (listed_row k)) start ls ≡ true
  each_listed h l =
      along_imply k (list_test listed_at) (row_test k l (listed_row k)) (λ st b e. line_each (listed_at st) (λ m r. listed_row k st r) (listed_order st) l st.running b (line_of b) e) start ls h

  pub every_listed : ((l : ListOf) → along k (row_test k l (listed_row k)) start ls ≡ true) → along k (list_test listed_at) start ls ≡ true
  every_listed h =
      along_every k (λ l. row_test k l (listed_row k)) (list_test listed_at) (λ st b f. line_every (listed_at st) (λ m r. listed_row k st r) (listed_order st) st.running b (line_of b) f) start ls h

  pub each_apart_lem : along k (list_test apart_at) start ls ≡ true → (l : ListOf) → along k (row_test k l (free_row k l)) start ls ≡ true
  each_apart_lem h l =
      along_imply k (list_test apart_at) (row_test k l (free_row k l)) (λ st b e. line_each (apart_at st) (λ m r. free_row k m st r) (λ m r. refl) l st.running b (line_of b) e) start ls h

  pub every_apart : ((l : ListOf) → along k (row_test k l (free_row k l)) start ls ≡ true) → along k (list_test apart_at) start ls ≡ true
  every_apart h =
      along_every k (λ l. row_test k l (free_row k l)) (list_test apart_at) (λ st b f. line_every (apart_at st) (λ m r. free_row k m st r) (λ m r. refl) st.running b (line_of b) f) start ls h

  pub each_held : along k (list_test held_at) start ls ≡ true → (l : ListOf) → along k (row_test k l (held_row k l)) start ls ≡ true
  each_held h l =
      along_imply k (list_test held_at) (row_test k l (held_row k l)) (λ st b e. line_each (held_at st) (λ m r. held_row k m st r) (λ m r. refl) l st.running b (line_of b) e) start ls h

  pub every_held : ((l : ListOf) → along k (row_test k l (held_row k l)) start ls ≡ true) → along k (list_test held_at) start ls ≡ true
  every_held h =
      along_every k (λ l. row_test k l (held_row k l)) (list_test held_at) (λ st b f. line_every (held_at st) (λ m r. held_row k m st r) (λ m r. refl) st.running b (line_of b) f) start ls h

  -- those of XYZ
  pub xyz_named_is : along k (placed k) start ls ≡ true → along k (xyz_test xyz_listed_at) start ls ≡ all (λ r. within 1 (length rows_of_atoms) r.atom) (flat xyz_on (told Skipped ls))
  unfolding start
  xyz_named_is h = xyz_listed k start ls start_follows h ∙ ap (λ (n : ℕ). all (λ r. within 1 n r.atom) (flat xyz_on (told Skipped ls))) last_count

  pub xyz_rising_is : along k (xyz_test xyz_above_at) start ls ≡ not (pairs (not_above k) (flat xyz_on (told Skipped ls)))
  unfolding start
  xyz_rising_is = xyz_above k start ls refl

  -- and what each says of the rows of its list
  abbrev pub rows_here : ListOf → List Row
  rows_here l = flat (row_of l) (told Skipped ls)

  pub listed_is : (l : ListOf) → along k (placed k) start ls ≡ true → along k (row_test k l (listed_row k)) start ls ≡ all (λ r. all (within 1 (length rows_of_atoms)) r.atoms) (rows_here l)
  unfolding start
  listed_is l h = rows_listed k l start ls start_follows h ∙ ap (λ (n : ℕ). all (λ r. all (within 1 n) r.atoms) (rows_here l)) last_count

  pub apart_is : (l : ListOf) → along k (row_test k l (free_row k l)) start ls ≡ not (pairs (clash l) (rows_here l))
  unfolding start
  apart_is l = rows_free k l start ls (start_rows l)

  pub held_is : (l : ListOf) → along k (row_test k l (held_row k l)) start ls ≡ leb (length (kept (meets l) [] (rows_here l))) (most l)
  unfolding start
  held_is l =
      rows_held k l start ls (omega (arith, ap length (start_rows l))) ∙ ap (λ (rs : List Row). leb (length (kept (meets l) rs (rows_here l))) (most l)) (start_rows l)

  pub numbers_is : along k (atom_test next_atom) start ls ≡ numbered 1 rows_of_atoms
  unfolding start
  numbers_is = numbers_are k start ls

  pub room_is : along k (atom_test room_at) start ls ≡ leb (0 + length rows_of_atoms) 256
  unfolding start
  room_is = atoms_roomy k start ls (omega arith)

  pub fine_is : along k (λ s l. on_line (value_test k) (further_rule k) s.running l (line_of l)) start ls ≡ all (own_test k) (told Skipped ls)
  unfolding start
  fine_is = own_is k start ls

  pub blank_is : along k closed_at start ls ≡ all (all gap) (behind_end ls)
  blank_is = closed_is k start ls start_over

  pub parted_is : along k (λ s l. not (unparted (line_of l))) start ls ≡ not (any (λ l. unparted (line_of l)) ls)
  parted_is = along_all k (λ l. not (unparted (line_of l))) start ls ∙ sym (any_all (λ l. unparted (line_of l)) ls)

  -- END is reached exactly when there is an END line
  pub end_found : over last.running ≡ true → any end_line ls ≡ true
  end_found h = always (any end_line ls) (λ e. torn (over last.running) h (end_none k start ls start_over e))
