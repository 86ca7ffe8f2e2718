-- The way back of demand 2, document 01: the written form of a well-formed structure and of three fine texts, if it fits, is read as that structure with those
-- texts. Put together from the records one after another. Assumes nothing.
use Prim.Native.Nat.{ℕ, zero, suc, ◌+◌, ◌≤◌, ◌<◌}
use mathlib.Core.Path.{◌≡◌, refl, sym, ap, ◌∙◌, subst}
use mathlib.Core.Bool.{Bool, true, false, not, ◌||◌}
use mathlib.Core.List.{List, [], ◌∷◌, ◌++◌, map, append_assoc, reverse, append-nil}
use native.Mathlib.Omega.{arith}
use native.Mathlib.Nat.{add-zero}
use lib.ListN.{length, length-append}
use lib.Dec.{leb}
use borrow.Author.Tests.{leb-true, le-ltb, not-true}
use Rattle.lists.specs.Lists.{is_nil, all, any, concat, flat}
use Rattle.lists.proofs.Bools.{and_parts}
use Rattle.lists.proofs.ListLaws.{all_parts, same_none, any_hit}
use Rattle.lists.proofs.SortLaws.{perm_length}
use Rattle.lists.proofs.FoldLaws.{reverse_perm}
use Rattle.format.specs.Bytes.{Bytes, bytes, within, cut, strip}
use Rattle.format.specs.Labels.{ListOf, Bonds, Charges, Radicals, Centres, Pairs, Holds, Text, BlockId, Formula, Atoms, Label, misplaced}
use Rattle.format.specs.Coordinates.{no_geometry}
use Rattle.format.specs.Structure.{Atom, entries_of, Structure, rows_of, lists, atom_ok, rows_ok, well_formed, handed_twice, Isotope, groups, isotope_of, total, Entry, same_isotope, entry}
use Rattle.format.specs.Reading.{Rules, strict, State, Prose, prose, over, lacks, read_lines, start, Accepted, finished, Span, span_of, Read, reading_of, read_block}
use Rattle.format.specs.Table.{text_fine, text_at, text_ok}
use Rattle.format.specs.Writing.{formula_before, print_formula, valued, print_record, print_id, print_atoms, print_rows, records, canonical, print_yes, fragments}
use Rattle.format.proofs.ByteLaws.{within_true}
use Rattle.format.proofs.RowLaws.{FineAtom, atom_fine_lem}
use Rattle.format.proofs.TotalLaws.{every_agree, gathered_total, entries_bare, isotope_refl, entries_implied, total_some, entries_counted}
use Rattle.format.proofs.Computing.{computing}
use Rattle.format.specs.Rows.{Row}
use Rattle.format.specs.Formula.{formula_shape}
use Rattle.demands.specs.WayBack.{ReadBack}
use Rattle.demands.specs.Accepted.{entries_as}
use Rattle.demands.proofs.WayBackLines.{state_of, Through, through_nil, through_to}
use Rattle.demands.proofs.WayBackLabels.{title_label, version_label, origin_label, owner_label, id_label, formula_label, atoms_label, free, yes_label, end_label}
use Rattle.demands.proofs.WayBackTexts.{spanned, span_is, Stands, span_at_lem, span_ok_lem}
use Rattle.demands.proofs.WayBackRows.{sorted_back}
use Rattle.demands.proofs.WayBackAtoms.{atoms_label_lem, atoms_through}
use Rattle.demands.proofs.WayBackFormula.{gathered, formula_through, formula_told, some_fragment}
use Rattle.demands.proofs.WayBackRecords.{blank_with, three_texts, begin, start_is, title_through, version_through, origin_through, owner_through, id_through}
use Rattle.demands.proofs.WayBackLists.{FineRows, rows_fine, Stage, AcceptedAs, end_stage, bare_of, turned, list_labels, lists_stage, turned_to, yes_stage}
use Rattle.demands.proofs.Groups.{FewOf, Linked, groups_few, linked, totals_together}

-- WHAT A WELL-FORMED STRUCTURE KEEPS
pub record Fine (k : ℕ) (s : Structure) : Type 0 where
  pub low : 1 ≤ length s.atoms
  pub high : length s.atoms ≤ 256
  pub atoms : all (atom_ok k) s.atoms ≡ true
  pub rows : (l : ListOf) → FineRows l (length s.atoms) (rows_of l s)
  pub id : s.id ≤ 999999
  pub once : handed_twice s ≡ false

each_list : (p : ListOf → Bool) → all p lists ≡ true → (l : ListOf) → p l ≡ true
unfolding lists
each_list p h =
    let a = all_parts p Bonds (Charges ∷ Radicals ∷ Centres ∷ Pairs ∷ []) h in
    let b = all_parts p Charges (Radicals ∷ Centres ∷ Pairs ∷ []) a.1 in
    let c = all_parts p Radicals (Centres ∷ Pairs ∷ []) b.1 in
    let d = all_parts p Centres (Pairs ∷ []) c.1 in
    let e = all_parts p Pairs [] d.1 in
    pick a.0 b.0 c.0 d.0 e.0
  where
    pick : p Bonds ≡ true → p Charges ≡ true → p Radicals ≡ true → p Centres ≡ true → p Pairs ≡ true → (l : ListOf) → p l ≡ true
    pick a b c d e Bonds = a
    pick a b c d e Charges = b
    pick a b c d e Radicals = c
    pick a b c d e Centres = d
    pick a b c d e Pairs = e

pub fine_structure : (k : ℕ) (s : Structure) → well_formed k s ≡ true → Fine k s
unfolding well_formed
fine_structure k s h =
    let n : ℕ = length s.atoms in
    let p = and_parts (within 1 256 n) _ h in
    let q = and_parts (all (atom_ok k) s.atoms) _ p.1 in
    let r = and_parts (all (rows_ok n s) lists) _ q.1 in
    let t = and_parts (leb s.id 999999) (not (handed_twice s)) r.1 in
    record {
      low = (within_true 1 256 n p.0).0;
      high = (within_true 1 256 n p.0).1;
      atoms = q.0;
      rows = λ l. rows_fine n s l (each_list (rows_ok n s) r.0 l);
      id = leb-true s.id 999999 t.0;
      once = not-true (handed_twice s) t.1;
    }

-- BLOCK_ID, left out where it is 0: what is seen and what runs behind it
abbrev four_seen : List Label
four_seen = owner_label ∷ origin_label ∷ version_label ∷ title_label ∷ []

abbrev id_seen : ℕ → List Label
id_seen zero = four_seen
id_seen (suc n) = id_label ∷ four_seen

abbrev id_runs : ℕ → Holds
id_runs zero = Text 2
id_runs (suc n) = BlockId

id_free : misplaced four_seen id_label ≡ false
unfolding computing
id_free = refl

id_passed : (u : Rules) (at : ℕ) (texts : List Prose) (n : ℕ) → n ≤ 999999 →
    Through u (state_of at four_seen (Text 2) texts [] (blank_with 0)) (print_id n) (state_of (at + length (print_id n)) (id_seen n) (id_runs n) texts [] (blank_with n))
unfolding print_record
id_passed u at texts zero h =
    through_to u (state_of at four_seen (Text 2) texts [] (blank_with 0)) _ _ [] (ap (λ (k : ℕ). state_of k four_seen (Text 2) texts [] (blank_with 0)) (sym (add-zero at))) (through_nil u _)
id_passed u at texts (suc n) h = id_through u at four_seen (Text 2) [] (blank_with 0) refl refl texts n (omega arith) id_free

-- the labels in order behind those before the atoms
id_seen_lem : (n : ℕ) → is_nil (id_seen n) ≡ false
id_seen_lem zero = refl
id_seen_lem (suc n) = refl

id_runs_lem : (n : ℕ) → over (id_runs n) ≡ false
id_runs_lem zero = refl
id_runs_lem (suc n) = refl

formula_free : (n : ℕ) → misplaced (id_seen n) formula_label ≡ false
unfolding computing
formula_free zero = refl
formula_free (suc n) = refl

atoms_free : (n : ℕ) → misplaced (formula_label ∷ id_seen n) atoms_label ≡ false
unfolding computing
atoms_free zero = refl
atoms_free (suc n) = refl

lists_free : (n : ℕ) → all (free (atoms_label ∷ formula_label ∷ id_seen n)) list_labels ≡ true
unfolding computing
lists_free zero = refl
lists_free (suc n) = refl

all_had : (n : ℕ) → any (lacks (atoms_label ∷ formula_label ∷ id_seen n)) (2 ∷ 3 ∷ 4 ∷ 5 ∷ []) ≡ false
unfolding computing
all_had zero = refl
all_had (suc n) = refl

all_spare : (n : ℕ) → all (lacks (atoms_label ∷ formula_label ∷ id_seen n)) (14 ∷ 15 ∷ 16 ∷ []) ≡ true
unfolding computing
all_spare zero = refl
all_spare (suc n) = refl

no_yes : (n : ℕ) → (lacks (atoms_label ∷ formula_label ∷ id_seen n) 17 || false) ≡ true
unfolding computing
no_yes zero = refl
no_yes (suc n) = refl

version_free : misplaced (title_label ∷ []) version_label ≡ false
unfolding computing
version_free = refl

origin_free : misplaced (version_label ∷ title_label ∷ []) origin_label ≡ false
unfolding computing
origin_free = refl

owner_free : misplaced (origin_label ∷ version_label ∷ title_label ∷ []) owner_label ≡ false
unfolding computing
owner_free = refl

-- where there is an atom there is an element
first_element : (k : ℕ) (atoms : List Atom) → 1 ≤ length atoms → all (atom_ok k) atoms ≡ true → 1 ≤ k
first_element k [] n h = absurd (omega arith)
first_element k (a ∷ rest) n h = let F : FineAtom k a = atom_fine_lem k a (all_parts (atom_ok k) a rest h).0 in omega (arith, F.low, F.high)

-- the first atom's kind has a total
abbrev kind_of : List Atom → Isotope
kind_of [] = isotope_of 0 0
kind_of (a ∷ rest) = a.kind

some_total : (atoms : List Atom) → 1 ≤ length atoms → 0 < total (kind_of atoms) (entries_of atoms)
some_total [] h = absurd (omega (arith, h))
some_total (a ∷ rest) h = total_some a.kind (entries_of (a ∷ rest)) (entries_counted (a ∷ rest)) (by a.hydrogens refl)
  where
    by : (n : ℕ) → a.hydrogens ≡ n → any (λ (e : Entry). same_isotope a.kind e.kind) (entries_of (a ∷ rest)) ≡ true
    by zero e = ap (any (λ (x : Entry). same_isotope a.kind x.kind)) (entries_bare a rest e) ∙ any_hit (λ (x : Entry). same_isotope a.kind x.kind) (entry a.kind 1) (entries_of rest) (isotope_refl a.kind)
    by (suc m) e =
        ap (any (λ (x : Entry). same_isotope a.kind x.kind)) (entries_implied a rest m e)
        ∙ any_hit (λ (x : Entry). same_isotope a.kind x.kind) (entry a.kind 1) (entry (isotope_of 1 0) (suc m) ∷ entries_of rest) (isotope_refl a.kind)

few_less : (p : Atom → Bool) (n m : ℕ) → n ≤ m → (gs : List (List Atom)) → FewOf p n gs → FewOf p m gs
few_less p n m h [] q = tt
few_less p n m h (g ∷ gs) q = ((q.0.0, omega (arith, q.0.1, h)), few_less p n m h gs q.1)

-- THE GROUPS, and their totals over all fragments
module _ (k : ℕ) (s : Structure) (ok : Fine k s) where
  s_linked : Linked (length s.atoms) s.bonds
  unfolding rows_of
  s_linked = linked (length s.atoms) s.bonds (ok.rows Bonds).fine

  groups_fine : FewOf (atom_ok k) 256 (groups s)
  groups_fine = few_less (atom_ok k) (length s.atoms) 256 ok.high (groups s) (groups_few (atom_ok k) s ok.atoms)

  pub all_totals : (i : Isotope) → total i (flat gathered (groups s)) ≡ total i (entries_of s.atoms)
  all_totals = totals_together s s_linked gathered (λ i g. gathered_total formula_before (entries_of g) i)

  abbrev first_kind : Isotope
  first_kind = kind_of s.atoms

  first_there : 0 < total first_kind (flat gathered (groups s))
  first_there = subst (λ (n : ℕ). 0 < n) (sym (all_totals first_kind)) (some_total s.atoms ok.low)

  elements : 1 ≤ k
  elements = first_element k s.atoms ok.low ok.atoms

  pub written_formula : k ≤ 103 → entries_as k (formula_shape (strip (valued (print_formula (fragments s))))) ≡ flat gathered (groups s)
  unfolding fragments
  written_formula most = formula_told k most elements (groups s) groups_fine (some_fragment k most elements (groups s) groups_fine first_kind first_there)

-- THE WHOLE FORM
module _ (k : ℕ) (most : k ≤ 103) (s : Structure) (ok : Fine k s) (t0 t1 t2 : Bytes) (f0 : text_fine t0 ≡ true) (f1 : text_fine t1 ≡ true) (f2 : text_fine t2 ≡ true) where
  abbrev u : Rules
  u = strict k

  abbrev title : Bytes
  title = bytes "##TITLE=" ++ valued t0

  abbrev version : Bytes
  version = bytes "##JCAMP-CS=" ++ valued (bytes "3.7")

  abbrev origin : Bytes
  origin = bytes "##ORIGIN=" ++ valued t1

  abbrev owner : Bytes
  owner = bytes "##OWNER=" ++ valued t2

  abbrev formula : Bytes
  formula = bytes "##MOLFORM=" ++ valued (print_formula (fragments s))

  abbrev label_line : Bytes
  label_line = bytes "##ATOMLIST=" ++ valued []

  -- what stands behind the texts, behind the atoms
  abbrev ended : Bytes
  ended = (bytes "##END=" ++ valued []) ++ []

  abbrev yes_on_lem : Bytes
  yes_on_lem = print_yes s.handed ++ ended

  abbrev lists_on : Bytes
  lists_on = flat (λ l. print_rows l (rows_of l s)) lists ++ yes_on_lem

  abbrev texts_on : Bytes
  texts_on = print_id s.id ++ (formula ++ (label_line ++ (print_atoms 1 s.atoms ++ lists_on)))

  abbrev form : Bytes
  form = title ++ (version ++ (origin ++ (owner ++ texts_on)))

  form_is : canonical s (t0 ∷ t1 ∷ t2 ∷ []) ≡ form
  unfolding canonical records concat print_record
  form_is = refl

  -- the places of the records, and the texts as they are read
  abbrev origin_at : ℕ
  origin_at = 0 + length title + length version

  abbrev owner_at : ℕ
  owner_at = origin_at + length origin

  abbrev behind_texts : ℕ
  behind_texts = owner_at + length owner

  abbrev texts : List Prose
  texts = three_texts (prose (0 + length (bytes "##TITLE=")) (valued t0)) (prose (origin_at + length (bytes "##ORIGIN=")) (valued t1)) (prose (owner_at + length (bytes "##OWNER=")) (valued t2))

  texts_read : read_lines u begin (cut form) ≡ read_lines u (state_of behind_texts four_seen (Text 2) texts [] (blank_with 0)) (cut texts_on)
  texts_read =
      let a : Prose = prose (0 + length (bytes "##TITLE=")) (valued t0) in
      let b : Prose = prose (origin_at + length (bytes "##ORIGIN=")) (valued t1) in
      title_through u t0 f0 (version ++ (origin ++ (owner ++ texts_on)))
      ∙ version_through u (0 + length title) (title_label ∷ []) (Text 0) [] (blank_with 0) refl refl (three_texts a (prose 0 []) (prose 0 [])) version_free (origin ++ (owner ++ texts_on))
      ∙ origin_through u origin_at (version_label ∷ title_label ∷ []) _ [] (blank_with 0) refl refl a (prose 0 []) (prose 0 []) t1 f1 origin_free (owner ++ texts_on)
      ∙ owner_through u owner_at (origin_label ∷ version_label ∷ title_label ∷ []) (Text 1) [] (blank_with 0) refl refl a b (prose 0 []) t2 f2 owner_free texts_on

  abbrev formula_at_lem : ℕ
  formula_at_lem = behind_texts + length (print_id s.id)

  abbrev atoms_at_lem : ℕ
  atoms_at_lem = formula_at_lem + length formula + length label_line

  abbrev seen_all : List Label
  seen_all = atoms_label ∷ formula_label ∷ id_seen s.id

  atoms_read : read_lines u begin (cut form) ≡ read_lines u (state_of (atoms_at_lem + length (print_atoms 1 s.atoms)) seen_all Atoms texts (flat gathered (groups s)) (bare_of s.atoms s.id)) (cut lists_on)
  unfolding fragments
  atoms_read =
      let n : ℕ = s.id in
      texts_read
      ∙ id_passed u behind_texts texts n ok.id (formula ++ (label_line ++ (print_atoms 1 s.atoms ++ lists_on)))
      ∙ formula_through u formula_at_lem (id_seen n) (id_runs n) texts [] (blank_with n) (groups s) most (elements k s ok) (groups_fine k s ok) (first_kind k s ok) (first_there k s ok) (id_seen_lem n) (formula_free n) (id_runs_lem n) (label_line ++ (print_atoms 1 s.atoms ++ lists_on))
      ∙ atoms_label_lem u (formula_at_lem + length formula) (formula_label ∷ id_seen n) Formula texts (flat gathered (groups s)) (blank_with n) refl (atoms_free n) refl (print_atoms 1 s.atoms ++ lists_on)
      ∙ atoms_through u most seen_all refl texts (flat gathered (groups s)) (blank_with n) s.atoms [] atoms_at_lem 1 refl (omega (arith, ok.high)) ok.atoms lists_on

  handed_on : (y : Bool) → Stage u begin form texts (flat gathered (groups s)) (turned_to false s) (yes_label ∷ end_label ∷ []) (print_yes y ++ ended) → Stage u begin form texts (flat gathered (groups s)) (turned_to y s) (end_label ∷ []) ended
  handed_on true g = yes_stage u begin form texts (flat gathered (groups s)) (turned_to false s) ended g refl
  handed_on false g = record { at = g.at; seen = g.seen; running = g.running; begun = g.begun; runs = g.runs; clear = (all_parts (free g.seen) yes_label (end_label ∷ []) g.clear).1; had = g.had; spare = g.spare; given = g.given; reads = g.reads }

  none_turned : (rs : List Row) → is_nil (reverse rs) ≡ is_nil rs
  none_turned rs = same_none (reverse rs) rs (perm_length (reverse_perm rs []) ∙ ap length (append-nil rs))

  once_turned : handed_twice (turned s) ≡ false
  unfolding handed_twice
  once_turned = rw (none_turned s.centres, none_turned s.pairs) ok.once

  accepted : AcceptedAs u begin form texts (flat gathered (groups s)) (turned s)
  accepted =
      let g : Stage u begin form texts (flat gathered (groups s)) (bare_of s.atoms s.id) list_labels lists_on =
      record {
        at = atoms_at_lem + length (print_atoms 1 s.atoms);
        seen = seen_all;
        running = Atoms;
        begun = refl;
        runs = refl;
        clear = lists_free s.id;
        had = all_had s.id;
        spare = all_spare s.id;
        given = no_yes s.id;
        reads = atoms_read;
      } in
      end_stage u begin form texts (flat gathered (groups s)) (turned s) (handed_on s.handed (lists_stage u begin form texts (flat gathered (groups s)) s (omega (arith, ok.high)) ok.rows yes_on_lem g)) once_turned ok.low (every_agree (flat gathered (groups s)) (entries_of s.atoms) (all_totals k s ok))

  -- THE SPANS
  abbrev spans : List Span
  spans = spanned (0 + length (bytes "##TITLE=")) t0 ∷ spanned (origin_at + length (bytes "##ORIGIN=")) t1 ∷ spanned (owner_at + length (bytes "##OWNER=")) t2 ∷ []

  spans_are : map span_of texts ≡ spans
  spans_are = rw (span_is (0 + length (bytes "##TITLE=")) t0 f0, span_is (origin_at + length (bytes "##ORIGIN=")) t1 f1, span_is (owner_at + length (bytes "##OWNER=")) t2 f2) refl

  title_stands : Stands form (0 + length (bytes "##TITLE=")) t0
  title_stands = record { before = bytes "##TITLE="; behind = version ++ (origin ++ (owner ++ texts_on)); is = append_assoc (bytes "##TITLE=") (valued t0) _; place = omega arith }

  origin_stands : Stands form (origin_at + length (bytes "##ORIGIN=")) t1
  origin_stands = record {
    before = (title ++ version) ++ bytes "##ORIGIN=";
    behind = owner ++ texts_on;
    is =
        sym (append_assoc title version (origin ++ (owner ++ texts_on))) ∙ ap (λ (r : Bytes). (title ++ version) ++ r) (append_assoc (bytes "##ORIGIN=") (valued t1) (owner ++ texts_on))
        ∙ sym (append_assoc (title ++ version) (bytes "##ORIGIN=") _);
    place = omega (arith, length-append (title ++ version) (bytes "##ORIGIN="), length-append title version);
  }

  owner_stands : Stands form (owner_at + length (bytes "##OWNER=")) t2
  owner_stands = record {
    before = ((title ++ version) ++ origin) ++ bytes "##OWNER=";
    behind = texts_on;
    is =
        sym (append_assoc title version (origin ++ (owner ++ texts_on))) ∙ sym (append_assoc (title ++ version) origin (owner ++ texts_on))
        ∙ ap (λ (r : Bytes). ((title ++ version) ++ origin) ++ r) (append_assoc (bytes "##OWNER=") (valued t2) texts_on) ∙ sym (append_assoc ((title ++ version) ++ origin) (bytes "##OWNER=") _);
    place = omega (arith, length-append ((title ++ version) ++ origin) (bytes "##OWNER="), length-append (title ++ version) origin, length-append title version);
  }

  texts_back : map (text_at form) spans ≡ t0 ∷ t1 ∷ t2 ∷ []
  texts_back = rw (span_at_lem title_stands, span_at_lem origin_stands, span_at_lem owner_stands) refl

  texts_sound : all (text_ok form) spans ≡ true
  unfolding all
  texts_sound = rw (span_ok_lem title_stands f0, span_ok_lem origin_stands f1, span_ok_lem owner_stands f2) refl

  -- THE STRUCTURE: each list sorted back
  structure_back : finished (turned s) ≡ s
  unfolding finished rows_of
  structure_back =
      rw (
        sorted_back s.bonds (ok.rows Bonds).ascending,
        sorted_back s.charges (ok.rows Charges).ascending,
        sorted_back s.radicals (ok.rows Radicals).ascending,
        sorted_back s.centres (ok.rows Centres).ascending,
        sorted_back s.pairs (ok.rows Pairs).ascending,
      ) refl

  form_read : length form ≤ 32768 → read_block u form ≡ Read s spans no_geometry
  unfolding read_block
  form_read fits =
      let x : AcceptedAs u begin form texts (flat gathered (groups s)) (turned s) = accepted in
      let e : read_lines u start (cut form) ≡ Accepted x.last = ap (λ (st : State). read_lines u st (cut form)) start_is ∙ x.reads in
      rw (le-ltb 32768 (length form) fits, read_block) (ap reading_of e ∙ ap (λ (b : Structure). Read (finished b) (map span_of x.last.texts) x.last.geometry) x.body_is ∙ ap (λ (l : List Prose). Read (finished (turned s)) (map span_of l) x.last.geometry) x.texts_are ∙ ap (Read (finished (turned s)) (map span_of texts)) x.geometry_is
      ∙ ap (λ (b : Structure). Read b (map span_of texts) no_geometry) structure_back ∙ ap (λ (l : List Span). Read s l no_geometry) spans_are)

  pub form_back : length (canonical s (t0 ∷ t1 ∷ t2 ∷ [])) ≤ 32768 → ReadBack k s (t0 ∷ t1 ∷ t2 ∷ [])
  form_back fits = record {
    title = spanned (0 + length (bytes "##TITLE=")) t0;
    origin = spanned (origin_at + length (bytes "##ORIGIN=")) t1;
    owner = spanned (owner_at + length (bytes "##OWNER=")) t2;
    reads = ap (read_block u) form_is ∙ form_read (omega (arith, ap length form_is));
    same_texts = ap (λ (b : Bytes). map (text_at b) spans) form_is ∙ texts_back;
    sound_texts = ap (λ (b : Bytes). all (text_ok b) spans) form_is ∙ texts_sound;
  }

-- THE WAY BACK
pub way_back : (k : ℕ) (s : Structure) (t0 t1 t2 : Bytes) → k ≤ 103 → well_formed k s ≡ true → all text_fine (t0 ∷ t1 ∷ t2 ∷ []) ≡ true → length (canonical s (t0 ∷ t1 ∷ t2 ∷ [])) ≤ 32768 →
    ReadBack k s (t0 ∷ t1 ∷ t2 ∷ [])
way_back k s t0 t1 t2 most ok fine fits =
    let a = all_parts text_fine t0 (t1 ∷ t2 ∷ []) fine in
    let b = all_parts text_fine t1 (t2 ∷ []) a.1 in
    let c = all_parts text_fine t2 [] b.1 in
    form_back k most s (fine_structure k s ok) t0 t1 t2 a.0 b.0 c.0 fits
