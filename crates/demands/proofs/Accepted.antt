-- A block is accepted exactly when its lines and rows obey the rules of document 01 and of document 02, L2 and L4, said without the reading's state: the tests of each
-- line, taken along all lines, are the fields of `Obeys`. Assumes nothing.
use Prim.Native.Nat.{ℕ, zero, suc, ◌+◌, ◌≤◌, ◌<◌}
use mathlib.Core.Path.{◌≡◌, refl, sym, ap, ◌∙◌}
use mathlib.Core.Bool.{Bool, true, false, not, ◌&&◌, ◌||◌}
use Rattle.std.specs.declared.option.Option.{Option}
use Rattle.std.specs.declared.option.Option.TheVariants.{None, Some}
use mathlib.Core.List.{List, [], ◌∷◌, map, reverse}
use native.Mathlib.Omega.{arith}
use lib.ListN.{length}
use lib.Dec.{eqb, ltb, leb}
use borrow.Author.Tests.{ltb-false, le-ltb, leb-true, le-leb, ne_eqb, not-true}
use Rattle.lists.specs.Lists.{is_nil, all, any, pairs, flat}
use Rattle.lists.specs.Folding.{kept}
use Rattle.lists.proofs.Bools.{torn, and_parts, and_both, not_of_false}
use Rattle.lists.proofs.ListLaws.{any_nil}
use Rattle.format.specs.Bytes.{Bytes, bytes, within, allowed, cut}
use Rattle.format.specs.Labels.{ListOf, Centres, Pairs, Skipped, line_of, end_line}
use Rattle.format.specs.Rows.{Row, AtomRow}
use Rattle.format.specs.Coordinates.{XyzRow, geometry, exceeds}
use Rattle.format.specs.Structure.{Atom, rows_of, most, meets, clash, handed_twice, entries_of, total, agree}
use Rattle.format.specs.Reading.{strict, State, lacks, partly, over, start, Outcome, Accepted, Refused, Reading, Read, Unread, reading_of, read_lines, read_block}
use Rattle.format.specs.Table.{Lent, short, ReadResult, read_into, read_result}
use Rattle.format.proofs.AcceptedLaws.{block_refuses}
use Rattle.format.proofs.RefusedLaws.{long_read}
use Rattle.format.proofs.TotalLaws.{agree_every, every_agree}
use Rattle.format.proofs.Computing.{computing}
use Rattle.demands.specs.Examples.{neon, wrong_neon}
use Rattle.demands.specs.Accepted.{told, unparted, title_first, labels, out_of_order, named, entries_as, atom_of, Yes, own_rule, numbered, told_of, atom_rows, list_rows, molforms, xyz_rows, greatest_in, factor_in, yes_rows, Obeys, ◌exactly_when◌}
use Rattle.demands.proofs.AcceptedContents.{xyz_on, atoms_are, rows_are, formula_in, formula_are, greatest_are, factor_are, xyz_are, yes_are}
use Rattle.demands.proofs.AcceptedAfter.{afters}
use Rattle.demands.proofs.AcceptedSteps.{formula_passes, titled_at, closed_at, next_atom, room_at, xyz_listed_at, xyz_above_at, present, together, yes_there, complete, when, along, keeps, accepted_as, read_is, along_all}
use Rattle.demands.proofs.AcceptedLines.{titled_first, placed, placed_ordered}
use Rattle.demands.proofs.AcceptedRows.{atom_test, row_test, free_row, held_row}
use Rattle.demands.proofs.AcceptedOrder.{listed_row, end_is}
use Rattle.demands.proofs.AcceptedFormula.{asked_is, Molform, molform_read, molform_passes, molform_entries}
use Rattle.demands.proofs.AcceptedGeometry.{xyz_test, not_above, exceeds_reverse}
use Rattle.demands.proofs.AcceptedYes.{yes_test, once_only, yes_quiet, once_rows, rows_once, none_beside, beside_none, kept_none}
use Rattle.demands.proofs.AcceptedTests.{Tests, each_test, all_tests, last_atoms, last_formula, last_lacks, last_partly, last_geometry, last_yes, last_kept, yes_first_is, last_present, start_over, each_listed, every_listed, each_apart_lem, every_apart, each_held, every_held, xyz_named_is, xyz_rising_is, rows_here, listed_is, apart_is, held_is, numbers_is, room_is, fine_is, blank_is, parted_is, end_found}

-- THE READING of a block
abbrev good : Reading → Bool
good (Read s spans p) = true
good (Unread n p) = false

is_some : Option State → Bool
is_some None = false
is_some (Some st) = true

good_is : (o : Outcome) → good (reading_of o) ≡ is_some (accepted_as o)
unfolding is_some
good_is (Accepted st) = refl
good_is (Refused n p) = refl

some_when : (b : Bool) (st : State) → is_some (when b st) ≡ b
unfolding is_some
some_when true st = refl
some_when false st = refl

block_good : (k : ℕ) (b : Bytes) → good (read_block (strict k) b) ≡ (not (ltb 32768 (length b)) && (along k (keeps k) start (cut b) && over (afters k start (cut b)).running))
unfolding read_block
block_good k b = by (ltb 32768 (length b))
  where
    by : (long : Bool) → good (elim long as (λ (t : Bool). Reading) [ true ↦ Unread 2 0 | false ↦ reading_of (read_lines (strict k) start (cut b)) ]) ≡ (not long && (along k (keeps k) start (cut b) && over (afters k start (cut b)).running))
    by true = refl
    by false = good_is (read_lines (strict k) start (cut b)) ∙ ap is_some (read_is k start (cut b)) ∙ some_when _ (afters k start (cut b))

titled_back : (k : ℕ) (ls : List Bytes) → title_first ls ≡ true → along k titled_at start ls ≡ true
titled_back k [] h = torn false h refl
titled_back k (l ∷ ls) h = titled_first k l ls ∙ h

titled_there : (k : ℕ) (ls : List Bytes) → any end_line ls ≡ true → along k titled_at start ls ≡ true → title_first ls ≡ true
titled_there k [] e h = torn (any end_line []) e (any_nil end_line)
titled_there k (l ∷ ls) e h = sym (titled_first k l ls) ∙ h

module _ (k : ℕ) (b : Bytes) where
  abbrev lines : List Bytes
  lines = cut b

  -- what the tests say, in the words of `Obeys`
  pub says_atoms : (afters k start lines).body.atoms ≡ map (atom_of k) (atom_rows b)
  says_atoms = last_atoms k lines ∙ ap (map (atom_of k)) (sym (atoms_are b))

  says_formula : along k (placed k) start lines ≡ true → (afters k start lines).formula ≡ formula_in k b
  says_formula h = last_formula k lines h ∙ sym (formula_are k b)

  says_present : present (afters k start lines) ≡ (all (named (labels lines)) (2 ∷ 3 ∷ 4 ∷ 5 ∷ []) && not (eqb (length (atom_rows b)) 0))
  says_present = last_present k lines ∙ ap (λ (rs : List AtomRow). all (named (labels lines)) (2 ∷ 3 ∷ 4 ∷ 5 ∷ []) && not (eqb (length rs) 0)) (sym (atoms_are b))

  says_numbers : along k (atom_test next_atom) start lines ≡ numbered 1 (atom_rows b)
  says_numbers = numbers_is k lines ∙ ap (numbered 1) (sym (atoms_are b))

  says_room : along k (atom_test room_at) start lines ≡ leb (0 + length (atom_rows b)) 256
  says_room = room_is k lines ∙ ap (λ (rs : List AtomRow). leb (0 + length rs) 256) (sym (atoms_are b))

  says_listed : (l : ListOf) → along k (placed k) start lines ≡ true → along k (row_test k l (listed_row k)) start lines ≡ all (λ r. all (within 1 (length (atom_rows b))) r.atoms) (list_rows l b)
  says_listed l h =
      listed_is k lines l h ∙ ap (λ (rs : List AtomRow). all (λ r. all (within 1 (length rs)) r.atoms) (rows_here k lines l)) (sym (atoms_are b))
      ∙ ap (all (λ r. all (within 1 (length (atom_rows b))) r.atoms)) (sym (rows_are l b))

  says_apart : (l : ListOf) → along k (row_test k l (free_row k l)) start lines ≡ not (pairs (clash l) (list_rows l b))
  says_apart l = apart_is k lines l ∙ ap (λ (rs : List Row). not (pairs (clash l) rs)) (sym (rows_are l b))

  says_held : (l : ListOf) → along k (row_test k l (held_row k l)) start lines ≡ leb (length (kept (meets l) [] (list_rows l b))) (most l)
  says_held l = held_is k lines l ∙ ap (λ (rs : List Row). leb (length (kept (meets l) [] rs)) (most l)) (sym (rows_are l b))

  says_xyz_named : along k (placed k) start lines ≡ true → along k (xyz_test xyz_listed_at) start lines ≡ all (λ r. within 1 (length (atom_rows b)) r.atom) (xyz_rows b)
  says_xyz_named h =
      xyz_named_is k lines h ∙ ap (λ (rs : List AtomRow). all (λ r. within 1 (length rs) r.atom) (flat xyz_on (told Skipped lines))) (sym (atoms_are b))
      ∙ ap (all (λ r. within 1 (length (atom_rows b)) r.atom)) (sym (xyz_are b))

  says_xyz_rising : along k (xyz_test xyz_above_at) start lines ≡ not (pairs (not_above k) (xyz_rows b))
  says_xyz_rising = xyz_rising_is k lines ∙ ap (λ (rs : List XyzRow). not (pairs (not_above k) rs)) (sym (xyz_are b))

  pub says_geometry : along k (placed k) start lines ≡ true → (afters k start lines).geometry ≡ geometry (greatest_in b) (factor_in b) (reverse (xyz_rows b))
  says_geometry h = last_geometry k lines h ∙ rw (greatest_are b, factor_are b, xyz_are b)

  says_bounded : along k (placed k) start lines ≡ true → exceeds (afters k start lines).geometry ≡ exceeds (geometry (greatest_in b) (factor_in b) (xyz_rows b))
  says_bounded h = ap exceeds (says_geometry h) ∙ exceeds_reverse (greatest_in b) (factor_in b) (xyz_rows b)

  pub says_yes : (afters k start lines).body.handed ≡ not (is_nil (yes_rows b))
  says_yes = last_yes k lines ∙ ap (λ (ys : List Yes). not (is_nil ys)) (sym (yes_are b))

  says_first : along k yes_test start lines ≡ once_only false (yes_rows b)
  says_first = yes_first_is k lines ∙ ap (once_only false) (sym (yes_are b))

  says_none : (l : ListOf) → is_nil (rows_of l (afters k start lines).body) ≡ is_nil (list_rows l b)
  says_none l = ap is_nil (last_kept k lines l) ∙ kept_none l (rows_here k lines l) ∙ ap is_nil (sym (rows_are l b))

  says_there : yes_there (afters k start lines) ≡ (not (named (labels lines) 17) || not (is_nil (yes_rows b)))
  unfolding lacks
  says_there = ap (λ (t : Bool). t || (afters k start lines).body.handed) (last_lacks k lines 17) ∙ ap (λ (t : Bool). not (named (labels lines) 17) || t) says_yes

  says_twice : handed_twice (afters k start lines).body ≡ (not (is_nil (yes_rows b)) && not (is_nil (list_rows Centres b) && is_nil (list_rows Pairs b)))
  unfolding handed_twice rows_of
  says_twice = rw (says_yes, says_none Centres, says_none Pairs)

  yes_absent : named (labels lines) 17 ≡ false → yes_rows b ≡ []
  yes_absent e = yes_are b ∙ yes_quiet Skipped lines refl e

  obeys : length b ≤ 32768 → Tests k start lines → over (afters k start lines).running ≡ true → Obeys k b
  obeys short x o =
      let e : any end_line lines ≡ true = end_found k lines o in
      let c : complete (afters k start lines) ≡ true = sym (end_is k start lines (start_over k lines) x.closed e).0 ∙ x.end in
      let z : State = afters k start lines in
      let c1 : (present z ≡ true) × ((yes_there z && (not (handed_twice z.body) && (agree z.formula (entries_of z.body.atoms) && (together z && not (exceeds z.geometry))))) ≡ true) = and_parts _ _ c in
      let cy : (yes_there z ≡ true) × ((not (handed_twice z.body) && (agree z.formula (entries_of z.body.atoms) && (together z && not (exceeds z.geometry)))) ≡ true) = and_parts _ _ c1.1 in
      let ct : (not (handed_twice z.body) ≡ true) × ((agree z.formula (entries_of z.body.atoms) && (together z && not (exceeds z.geometry))) ≡ true) = and_parts _ _ cy.1 in
      let c2 : (agree z.formula (entries_of z.body.atoms) ≡ true) × ((together z && not (exceeds z.geometry)) ≡ true) = and_parts _ _ ct.1 in
      let c3 : (together z ≡ true) × (not (exceeds z.geometry) ≡ true) = and_parts _ _ c2.1 in
      let p : (all (named (labels lines)) (2 ∷ 3 ∷ 4 ∷ 5 ∷ []) ≡ true) × (not (eqb (length (atom_rows b)) 0) ≡ true) = and_parts _ _ (sym (says_present) ∙ c1.0) in
      let f : (all (formula_passes k) (molforms b) ≡ true) × (all (own_rule k) (told_of b) ≡ true) = and_parts _ _ (sym (asked_is k b) ∙ sym (fine_is k lines) ∙ x.own) in
      let m : Molform k b = molform_read k b x.ordered_labels p.0 f.0 in
      record {
        short = short;
        allowed_bytes = sym (along_all k (all allowed) start lines) ∙ x.fine;
        title_first_lem = titled_there k lines e x.titled;
        labels_parted = not-true (any (λ l. unparted (line_of l)) lines) (sym (parted_is k lines) ∙ x.parted);
        labels_ordered = not-true (pairs out_of_order (labels lines)) (sym (placed_ordered k lines) ∙ x.ordered_labels);
        lines_fine = f.1;
        molform = m.value;
        molform_once = m.once;
        formula = m.formula;
        formula_said = m.said;
        formula_fine_lem = m.fine;
        atoms_numbered = sym (says_numbers) ∙ x.next;
        atoms_held_lem = omega (arith, leb-true (0 + length (atom_rows b)) 256 (sym (says_room) ∙ x.room));
        atoms_there = some_there (length (atom_rows b)) (not-true (eqb (length (atom_rows b)) 0) p.1);
        rows_listed = λ l. sym (says_listed l x.ordered_labels) ∙ each_listed k lines x.listed l;
        rows_apart = λ l. not-true (pairs (clash l) (list_rows l b)) (sym (says_apart l) ∙ each_apart_lem k lines x.apart l);
        rows_held = λ l. leb-true (length (kept (meets l) [] (list_rows l b))) (most l) (sym (says_held l) ∙ each_held k lines x.held l);
        required = p.0;
        totals = λ i. sym (ap (total i) (says_formula x.ordered_labels ∙ molform_entries k b m)) ∙ agree_every _ _ c2.0 i ∙ ap (λ (as' : List Atom). total i (entries_of as')) (says_atoms);
        xyz_listed = sym (says_xyz_named x.ordered_labels) ∙ x.xyz_named;
        xyz_ascending = not-true (pairs (not_above k) (xyz_rows b)) (sym says_xyz_rising ∙ x.xyz_rising);
        xyz_together = sym (last_partly k lines (14 ∷ 15 ∷ 16 ∷ [])) ∙ not-true (partly (afters k start lines).seen (14 ∷ 15 ∷ 16 ∷ [])) c3.0;
        xyz_bounded = sym (says_bounded x.ordered_labels) ∙ not-true (exceeds (afters k start lines).geometry) c3.1;
        yes_once = once_rows (named (labels lines) 17) (yes_rows b) yes_absent (sym says_first ∙ x.yes_first) (sym says_there ∙ cy.0);
        yes_alone = none_beside (yes_rows b) (list_rows Centres b) (list_rows Pairs b) (sym says_twice ∙ not-true (handed_twice z.body) ct.0);
        end_there = e;
        end_last = sym (blank_is k lines) ∙ x.closed;
      }
    where
      some_there : (n : ℕ) → eqb n 0 ≡ false → 0 < n
      some_there zero e = torn true refl e
      some_there (suc n) e = omega arith

  pub tests_kept : Obeys k b → Tests k start lines
  tests_kept y =
      let ord : along k (placed k) start lines ≡ true = placed_ordered k lines ∙ not_of_false _ y.labels_ordered in
      let cl : along k closed_at start lines ≡ true = blank_is k lines ∙ y.end_last in
      let m : Molform k b = record { value = y.molform; once = y.molform_once; formula = y.formula; said = y.formula_said; fine = y.formula_fine_lem } in
      let fo : (afters k start lines).formula ≡ entries_as k (Some y.formula) = says_formula ord ∙ molform_entries k b m in
      let at : (afters k start lines).body.atoms ≡ map (atom_of k) (atom_rows b) = says_atoms in
      let ag : agree (afters k start lines).formula (entries_of (afters k start lines).body.atoms) ≡ true =
      every_agree _ _ (λ i. ap (total i) fo ∙ y.totals i ∙ sym (ap (λ (as' : List Atom). total i (entries_of as')) at)) in
      let pr : present (afters k start lines) ≡ true =
      says_present ∙ and_both _ _ y.required (not_of_false (eqb (length (atom_rows b)) 0) (ne_eqb (length (atom_rows b)) 0 (λ e. omega (arith, y.atoms_there, e)))) in
      let oc : (once_only false (yes_rows b) ≡ true) × ((not (named (labels lines) 17) || not (is_nil (yes_rows b))) ≡ true) = rows_once (named (labels lines) 17) (yes_rows b) y.yes_once in
      let th : yes_there (afters k start lines) ≡ true = says_there ∙ oc.1 in
      let tw : not (handed_twice (afters k start lines).body) ≡ true = not_of_false _ (says_twice ∙ beside_none (named (labels lines) 17) _ _ _ y.yes_once y.yes_alone) in
      let tg : together (afters k start lines) ≡ true = not_of_false _ (last_partly k lines (14 ∷ 15 ∷ 16 ∷ []) ∙ y.xyz_together) in
      let bd : not (exceeds (afters k start lines).geometry) ≡ true = not_of_false _ (says_bounded ord ∙ y.xyz_bounded) in
      record {
        fine = along_all k (all allowed) start lines ∙ y.allowed_bytes;
        titled = titled_back k lines y.title_first_lem;
        parted = parted_is k lines ∙ not_of_false _ y.labels_parted;
        ordered_labels = ord;
        closed = cl;
        own = fine_is k lines ∙ asked_is k b ∙ and_both _ _ (molform_passes k b m) y.lines_fine;
        next = says_numbers ∙ y.atoms_numbered;
        room = says_room ∙ le-leb (0 + length (atom_rows b)) 256 (omega (arith, y.atoms_held_lem));
        listed = every_listed k lines (λ l. says_listed l ord ∙ y.rows_listed l);
        apart = every_apart k lines (λ l. says_apart l ∙ not_of_false _ (y.rows_apart l));
        held = every_held k lines (λ l. says_held l ∙ le-leb _ (most l) (y.rows_held l));
        yes_first = says_first ∙ oc.0;
        xyz_named = says_xyz_named ord ∙ y.xyz_listed;
        xyz_rising = says_xyz_rising ∙ not_of_false _ y.xyz_ascending;
        end = (end_is k start lines (start_over k lines) cl y.end_there).0 ∙ and_both _ _ pr (and_both _ _ th (and_both _ _ tw (and_both _ _ ag (and_both _ _ tg bd))));
      }

  pub end_reached : Obeys k b → over (afters k start lines).running ≡ true
  end_reached y = (end_is k start lines (start_over k lines) (tests_kept y).closed y.end_there).1

  pub all_kept : Obeys k b → along k (keeps k) start lines ≡ true
  all_kept y = all_tests k start lines (tests_kept y)

  block_iff : (good (read_block (strict k) b) ≡ true) exactly_when Obeys k b
  block_iff = (to, back)
    where
      to : good (read_block (strict k) b) ≡ true → Obeys k b
      to h =
          let p : (not (ltb 32768 (length b)) ≡ true) × ((along k (keeps k) start lines && over (afters k start lines).running) ≡ true) = and_parts _ _ (sym (block_good k b) ∙ h) in
          let q : (along k (keeps k) start lines ≡ true) × (over (afters k start lines).running ≡ true) = and_parts _ _ p.1 in
          obeys (ltb-false 32768 (length b) (not-true (ltb 32768 (length b)) p.0)) (each_test k start lines q.0) q.1

      back : Obeys k b → good (read_block (strict k) b) ≡ true
      back y =
          block_good k b
          ∙ and_both _ _ (not_of_false (ltb 32768 (length b)) (le-ltb 32768 (length b) y.short))
          (and_both _ _ (all_kept y) (end_reached y))

  -- ACCEPTED EXACTLY WHEN
  number_good : (l : Lent) (r : Reading) → ((n p : ℕ) → r ≡ Unread n p → 0 < n) → ((read_into l r).number ≡ 0) exactly_when (good r ≡ true)
  number_good l (Read s spans p) f = (λ e. refl, λ e. refl)
  number_good l (Unread n p) f = (λ e. absurd (omega (arith, f n p refl, e)), λ e. torn false e refl)

  pub accepted_iff : (l : Lent) → short l ≡ false → ((read_result k b l).number ≡ 0) exactly_when Obeys k b
  accepted_iff l h =
      let q : read_result k b l ≡ read_into l (read_block (strict k) b) = long_read k b l h in
      let g : ((read_into l (read_block (strict k) b)).number ≡ 0) exactly_when (good (read_block (strict k) b) ≡ true) = number_good l (read_block (strict k) b) (block_refuses (strict k) b) in
      (λ e. block_iff.0 (g.0 (sym (ap (λ (r : ReadResult). r.number) q) ∙ e)), λ y. ap (λ (r : ReadResult). r.number) q ∙ g.1 (block_iff.1 y))

-- the neon block obeys, the block with `2 Ne` does not
pub neon_obeys : Obeys 103 (bytes neon) × (Obeys 103 (bytes wrong_neon) → ⊥)
unfolding computing
neon_obeys = ((block_iff 103 (bytes neon)).0 refl, λ y. torn false ((block_iff 103 (bytes wrong_neon)).1 y) refl)
