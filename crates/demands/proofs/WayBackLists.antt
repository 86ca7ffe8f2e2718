-- The way back, from the atoms on: the five lists in their order and END, whichever of the lists are left out. Serves document 01, demand 2. Assumes nothing.
use Prim.Native.Nat.{ℕ, ◌+◌, ◌≤◌, ◌<◌}
use mathlib.Core.Path.{◌≡◌, refl, ap, ◌∙◌}
use mathlib.Core.Bool.{Bool, true, false, not, ◌||◌}
use mathlib.Core.List.{List, [], ◌∷◌, ◌++◌, reverse}
use lib.ListN.{length}
use lib.Dec.{leb}
use borrow.Author.Tests.{leb-true, not-true}
use Rattle.lists.specs.Lists.{is_nil, all, any, pairs, flat}
use Rattle.lists.specs.Order.{ascends}
use Rattle.lists.proofs.Bools.{and_parts, or_right}
use Rattle.lists.proofs.ListLaws.{all_parts}
use Rattle.lists.proofs.PartLaws.{flat_nil, flat_behind}
use Rattle.format.specs.Bytes.{Bytes, bytes, cut}
use Rattle.format.specs.Labels.{ListOf, Bonds, Charges, Radicals, Centres, Pairs, Holds, Handedness, End, Label, label, misplaced}
use Rattle.format.specs.Rows.{Row}
use Rattle.format.specs.Coordinates.{no_geometry}
use Rattle.format.specs.Structure.{Atom, Entry, entries_of, agree, Structure, rows_of, handed_twice, lists, most, meets, row_before, row_ok, rows_ok}
use Rattle.format.specs.Reading.{Rules, State, Prose, over, lacks, with_yes, with_rows, Accepted, read_lines}
use Rattle.format.specs.Writing.{valued, print_record, print_yes, print_rows}
use Rattle.format.proofs.CutLaws.{cut_nil}
use Rattle.format.proofs.ReadingLaws.{read_end}
use Rattle.demands.proofs.WayBackLines.{state_of}
use Rattle.demands.proofs.WayBackLabels.{label_of, yes_label, end_label, free, follows, free_more, had_more, spare_more, lacks_other}
use Rattle.demands.proofs.WayBackRows.{seen_with, runs_with, seen_begun, runs_open, seen_free, seen_had, seen_yes, seen_spare, list_through}
use Rattle.demands.proofs.WayBackRecords.{yes_through, end_through}

-- WHAT A LIST OF A WELL-FORMED STRUCTURE KEEPS
pub record FineRows (l : ListOf) (n : ℕ) (rs : List Row) : Type 0 where
  pub few : length rs ≤ most l
  pub fine : all (row_ok l n) rs ≡ true
  pub ascending : ascends row_before rs ≡ true
  pub apart : pairs (meets l) rs ≡ false

pub rows_fine : (n : ℕ) (s : Structure) (l : ListOf) → rows_ok n s l ≡ true → FineRows l n (rows_of l s)
unfolding rows_ok
rows_fine n s l h =
    let rs : List Row = rows_of l s in
    let p = and_parts (leb (length rs) (most l)) _ h in
    let q = and_parts (all (row_ok l n) rs) _ p.1 in
    let r = and_parts (ascends row_before rs) (not (pairs (meets l) rs)) q.1 in
    record { few = leb-true (length rs) (most l) p.0; fine = q.0; ascending = r.0; apart = not-true (pairs (meets l) rs) r.1 }

-- A STAGE of reading a block: the labels to come are in order, those that must stand have been seen, and so many bytes are left
pub record Stage (u : Rules) (first : State) (block : Bytes) (texts : List Prose) (f : List Entry) (s : Structure) (xs : List Label) (left : Bytes) : Type 0 where
  pub at : ℕ
  pub seen : List Label
  pub running : Holds
  pub begun : is_nil seen ≡ false
  pub runs : over running ≡ false
  pub clear : all (free seen) xs ≡ true
  pub had : any (lacks seen) (2 ∷ 3 ∷ 4 ∷ 5 ∷ []) ≡ false
  pub spare : all (lacks seen) (14 ∷ 15 ∷ 16 ∷ []) ≡ true
  pub given : (lacks seen 17 || s.handed) ≡ true
  pub reads : read_lines u first (cut block) ≡ read_lines u (state_of at seen running texts f s) (cut left)

rows_handed : (l : ListOf) (rs : List Row) (s : Structure) → (with_rows l rs s).handed ≡ s.handed
unfolding with_rows
rows_handed Bonds rs s = refl
rows_handed Charges rs s = refl
rows_handed Radicals rs s = refl
rows_handed Centres rs s = refl
rows_handed Pairs rs s = refl

module _ (u : Rules) (first : State) (block : Bytes) (texts : List Prose) (f : List Entry) where
  -- one list more
  pub list_stage : (l : ListOf) (rs : List Row) (s : Structure) (n : ℕ) (xs : List Label) (left : Bytes) → Stage u first block texts f s (label_of l ∷ xs) (print_rows l rs ++ left) →
      all (follows (label_of l)) xs ≡ true → n < 1000000 → length s.atoms ≡ n → rows_of l s ≡ [] → FineRows l n rs → Stage u first block texts f (with_rows l (reverse rs) s) xs left
  list_stage l rs s n xs left g after small count held fine =
      let c : (free g.seen (label_of l) ≡ true) × (all (free g.seen) xs ≡ true) = all_parts (free g.seen) (label_of l) xs g.clear in
      record {
        at = g.at + length (print_rows l rs);
        seen = seen_with l rs g.seen;
        running = runs_with l rs g.running;
        begun = seen_begun l rs g.seen g.begun;
        runs = runs_open l rs g.running g.runs;
        clear = seen_free l rs g.seen xs after c.1;
        had = seen_had l rs g.seen (2 ∷ 3 ∷ 4 ∷ 5 ∷ []) g.had;
        spare = seen_spare l rs g.seen g.spare;
        given = ap (λ (t : Bool). t || (with_rows l (reverse rs) s).handed) (seen_yes l rs g.seen) ∙ ap (λ (t : Bool). lacks g.seen 17 || t) (rows_handed l (reverse rs) s) ∙ g.given;
        reads = g.reads ∙ list_through u l g.at g.seen g.running texts f s g.begun g.runs c.0 rs n small count held fine.fine fine.apart fine.few left;
      }

  -- behind these END's tests
  end_spare : (seen : List Label) → all (lacks seen) (14 ∷ 15 ∷ 16 ∷ []) ≡ true → all (lacks (end_label ∷ seen)) (14 ∷ 15 ∷ 16 ∷ []) ≡ true
  unfolding label all
  end_spare seen h = spare_more end_label seen (14 ∷ 15 ∷ 16 ∷ []) refl h

  end_other : (seen : List Label) → lacks (end_label ∷ seen) 17 ≡ lacks seen 17
  unfolding label
  end_other seen = lacks_other end_label seen 17 refl

  -- the YES, if it stands
  pub yes_stage : (s : Structure) (left : Bytes) → Stage u first block texts f s (yes_label ∷ end_label ∷ []) (print_yes true ++ left) → s.handed ≡ false → Stage u first block texts f (with_yes s) (end_label ∷ []) left
  unfolding label all print_record
  yes_stage s left g e =
      let c : (free g.seen yes_label ≡ true) × (all (free g.seen) (end_label ∷ []) ≡ true) = all_parts (free g.seen) yes_label (end_label ∷ []) g.clear in
      record {
        at = g.at + length (bytes "##STEREOMOLECULE=" ++ valued (bytes "YES"));
        seen = yes_label ∷ g.seen;
        running = Handedness;
        begun = refl;
        runs = refl;
        clear = free_more yes_label g.seen (end_label ∷ []) refl c.1;
        had = had_more yes_label g.seen (2 ∷ 3 ∷ 4 ∷ 5 ∷ []) g.had;
        spare = spare_more yes_label g.seen (14 ∷ 15 ∷ 16 ∷ []) refl g.spare;
        given = or_right (lacks (yes_label ∷ g.seen) 17) true refl;
        reads = g.reads ∙ yes_through u g.at g.seen g.running f s g.begun g.runs texts (not-true (misplaced g.seen yes_label) c.0) e left;
      }

  -- END: the reading is accepted
  pub record AcceptedAs (s : Structure) : Type 0 where
    pub last : State
    pub reads : read_lines u first (cut block) ≡ Accepted last
    pub texts_are : last.texts ≡ texts
    pub body_is : last.body ≡ s
    pub geometry_is : last.geometry ≡ no_geometry

  pub end_stage : (s : Structure) → Stage u first block texts f s (end_label ∷ []) ((bytes "##END=" ++ valued []) ++ []) → handed_twice s ≡ false → 0 < length s.atoms → agree f (entries_of s.atoms) ≡ true → AcceptedAs s
  end_stage s g once filled agrees =
      let c : (free g.seen end_label ≡ true) × (all (free g.seen) [] ≡ true) = all_parts (free g.seen) end_label [] g.clear in
      let last : State = state_of (g.at + length (bytes "##END=" ++ valued [])) (end_label ∷ g.seen) End texts f s in
      record {
        last = last;
        reads =
            g.reads
            ∙ end_through u g.at g.seen g.running f s g.begun g.runs texts (not-true (misplaced g.seen end_label) c.0) (had_more end_label g.seen (2 ∷ 3 ∷ 4 ∷ 5 ∷ []) g.had) (end_spare g.seen g.spare) (ap (λ (t : Bool). t || s.handed) (end_other g.seen) ∙ g.given) once filled agrees []
            ∙ ap (read_lines u last) cut_nil ∙ read_end u last;
        texts_are = refl;
        body_is = refl;
        geometry_is = refl;
      }

-- THE FIVE LISTS, all empty before
abbrev pub bare_of : List Atom → ℕ → Structure
bare_of atoms n = record { atoms = atoms; bonds = []; charges = []; radicals = []; centres = []; pairs = []; id = n; handed = false }

-- every list latest first, before the YES or with it
abbrev pub turned_to : Bool → Structure → Structure
turned_to y s = record { atoms = s.atoms; bonds = reverse s.bonds; charges = reverse s.charges; radicals = reverse s.radicals; centres = reverse s.centres; pairs = reverse s.pairs; id = s.id; handed = y }

abbrev pub turned : Structure → Structure
turned s = turned_to s.handed s

abbrev pub list_labels : List Label
list_labels = label_of Bonds ∷ label_of Charges ∷ label_of Radicals ∷ label_of Centres ∷ label_of Pairs ∷ yes_label ∷ end_label ∷ []

-- what each list gives, one by one
pub lists_flat : {A : Type 0} (p : ListOf → List A) (left : List A) → flat p lists ++ left ≡ p Bonds ++ (p Charges ++ (p Radicals ++ (p Centres ++ (p Pairs ++ left))))
unfolding lists
lists_flat {A = A} p left =
    flat_behind p Bonds (Charges ∷ Radicals ∷ Centres ∷ Pairs ∷ []) left
    ∙ ap (λ (r : List A). p Bonds ++ r) (flat_behind p Charges (Radicals ∷ Centres ∷ Pairs ∷ []) left
    ∙ ap (λ (r : List A). p Charges ++ r) (flat_behind p Radicals (Centres ∷ Pairs ∷ []) left
    ∙ ap (λ (r : List A). p Radicals ++ r) (flat_behind p Centres (Pairs ∷ []) left
    ∙ ap (λ (r : List A). p Centres ++ r) (flat_behind p Pairs [] left
    ∙ ap (λ (r : List A). p Pairs ++ (r ++ left)) (flat_nil p)))))

module _ (u : Rules) (first : State) (block : Bytes) (texts : List Prose) (f : List Entry) (s : Structure) (small : length s.atoms < 1000000)
    (ok : (l : ListOf) → FineRows l (length s.atoms) (rows_of l s)) where
  pub lists_stage : (left : Bytes) → Stage u first block texts f (bare_of s.atoms s.id) list_labels (flat (λ l. print_rows l (rows_of l s)) lists ++ left) → Stage u first block texts f (turned_to false s) (yes_label ∷ end_label ∷ []) left
  unfolding rows_of with_rows label all
  lists_stage left g =
      let n : ℕ = length s.atoms in
      let step = list_stage u first block texts f in
      let g0 : Stage u first block texts f (bare_of s.atoms s.id) list_labels (print_rows Bonds s.bonds ++ (print_rows Charges s.charges ++ (print_rows Radicals s.radicals ++ (print_rows Centres s.centres ++ (print_rows Pairs s.pairs ++ left))))) =
      rw (lists_flat (λ l. print_rows l (rows_of l s)) left) at g in
      let g1 = step Bonds s.bonds _ n _ _ g0 refl small refl refl (ok Bonds) in
      let g2 = step Charges s.charges _ n _ _ g1 refl small refl refl (ok Charges) in
      let g3 = step Radicals s.radicals _ n _ _ g2 refl small refl refl (ok Radicals) in
      let g4 = step Centres s.centres _ n _ _ g3 refl small refl refl (ok Centres) in
      step Pairs s.pairs _ n _ _ g4 refl small refl refl (ok Pairs)
