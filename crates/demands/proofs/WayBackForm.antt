-- A form as a block of a transfer file: in any block that is accepted no known label stands twice, so only a form's first line is a TITLE line and only its last
-- an END line. Serves document 01, demands 2 and 3. Assumes nothing.
use Prim.Native.Nat.{ℕ, zero, suc, ◌<◌}
use Prim.Native.String.{String}
use mathlib.Core.Path.{◌≡◌, refl, sym, ap, ◌∙◌}
use mathlib.Core.Bool.{Bool, true, false, not, ◌&&◌}
use mathlib.Core.List.{List, [], ◌∷◌, ◌++◌}
use native.Mathlib.Omega.{arith}
use lib.ListN.{length, get_or, take, drop}
use lib.Dec.{eqb, ltb}
use borrow.Author.Tests.{eqb-true, not-false}
use Rattle.lists.specs.Lists.{is_nil, all, any, concat, flat}
use Rattle.lists.proofs.Bools.{torn, or_left, eqb_symm}
use Rattle.lists.proofs.ListLaws.{all_parts, any_nil, any_neither, any_parts, any_hit, any_or, any_append_parts}
use Rattle.lists.proofs.PartLaws.{concat_nil, concat_cons, concat_snoc, flat_nil, flat_cons}
use Rattle.format.specs.Bytes.{Bytes, bytes, allowed, cut, line_len, whole_from, whole}
use Rattle.format.specs.Labels.{ListOf, Label, misplaced, Line, Plain, Unparted, Labelled, line_of, has_code, title_line, end_line}
use Rattle.format.specs.Rows.{Row}
use Rattle.format.specs.Coordinates.{Geometry}
use Rattle.format.specs.Structure.{Atom, Structure, rows_of, lists}
use Rattle.format.specs.Writing.{digits, line, atom_words, print_atoms, row_words, print_formula, valued, print_record, print_id, list_label, print_rows, print_yes, records, canonical, fragments}
use Rattle.format.specs.Reading.{Rules, State, Go, if◌stop◌else◌, past, noted, lacks, line_turn, line_step, Outcome, Accepted, Refused, read_lines, start, Span, Read, Unread, reading_of, read_block}
use Rattle.format.proofs.Computing.{computing}
use Rattle.format.proofs.CutLaws.{cut_first, cut_append}
use Rattle.format.proofs.RowLines.{body, line_is}
use Rattle.format.proofs.TextLaws.{whole_snoc, valued_whole}
use Rattle.format.proofs.LeadLaws.{stop_go}
use Rattle.format.proofs.ReadingLaws.{Went, further, started, step_went, Goes, accepted_by}
use Rattle.demands.specs.WayBack.{OneBlock}
use Rattle.demands.proofs.WayBackLabels.{noted_known, lacks_more}

-- A KNOWN LABEL ONCE
seen_twice : (seen : List Label) (x : Label) (c : ℕ) → lacks seen c ≡ false → eqb c x.code ≡ true → misplaced seen x ≡ true
unfolding lacks misplaced
seen_twice seen x c h e =
    let n : c ≡ x.code = eqb-true c x.code e in
    let p : any (λ (y : Label). eqb y.code c) seen ≡ true = not-false (any (λ (y : Label). eqb y.code c) seen) h in
    any_or (λ (y : Label). eqb y.code x.code) (λ (y : Label). ltb x.high y.low) seen
    ∙ or_left (any (λ (y : Label). eqb y.code x.code) seen) _ (ap (λ (k : ℕ). any (λ (y : Label). eqb y.code k) seen) (sym n) ∙ p)

seen_now : (x : Label) (seen : List Label) (c : ℕ) → eqb c x.code ≡ true → lacks (x ∷ seen) c ≡ false
unfolding lacks
seen_now x seen c e = ap not (any_hit (λ (y : Label). eqb y.code c) x seen (eqb_symm x.code c ∙ e))

module _ (u : Rules) (st : State) (l : Bytes) (next : State) (goes : line_step u st l ≡ Go next) where
  -- a label line that goes on stands in order
  label_placed : (x : Label) (v : Bytes) → line_of l ≡ Labelled x v → misplaced st.seen x ≡ false
  unfolding line_step line_turn
  label_placed x v e = by (not (all allowed l)) (is_nil st.seen && not (title_line l)) (rw e at goes)
    where
      by : (m o : Bool) → (if m stop 3 else if o stop 4 else line_turn u st l (Labelled x v)) ≡ Go next → misplaced st.seen x ≡ false
      by true o h = stop_go 3 next h
      by false true h = stop_go 4 next h
      by false false h = in_order_lem (misplaced st.seen x) refl h
        where
          in_order_lem : (t : Bool) → misplaced st.seen x ≡ t → line_turn u st l (Labelled x v) ≡ Go next → misplaced st.seen x ≡ false
          in_order_lem true q k = stop_go 6 next (rw q at k)
          in_order_lem false q k = q

  module _ (c : ℕ) where
    not_again : lacks st.seen c ≡ false → has_code c (line_of l) ≡ false
    not_again h = by (line_of l) refl
      where
        by : (t : Line) → line_of l ≡ t → has_code c t ≡ false
        by Plain e = refl
        by Unparted e = refl
        by (Labelled x v) e = other (eqb c x.code) refl
          where
            other : (t : Bool) → eqb c x.code ≡ t → eqb c x.code ≡ false
            other true q = torn (misplaced st.seen x) (seen_twice st.seen x c h q) (label_placed x v e)
            other false q = q

    still_seen : lacks st.seen c ≡ false → lacks next.seen c ≡ false
    still_seen h = by (step_went u st l next goes)
      where
        by : Went u st l next → lacks next.seen c ≡ false
        by (further e k) = ap (λ (s : List Label). lacks s c) k.seen ∙ h
        by (started x v e o k) = more (eqb x.code 0) refl
          where
            more : (t : Bool) → eqb x.code 0 ≡ t → lacks next.seen c ≡ false
            more true q = ap (λ (s : List Label). lacks s c) (k.seen ∙ rw (q, noted) refl) ∙ h
            more false q = ap (λ (s : List Label). lacks s c) (k.seen ∙ noted_known x.code x st.seen q) ∙ lacks_more x st.seen c h

    now_seen : eqb c 0 ≡ false → has_code c (line_of l) ≡ true → lacks next.seen c ≡ false
    now_seen n h = by (step_went u st l next goes)
      where
        by : Went u st l next → lacks next.seen c ≡ false
        by (further e k) = torn (has_code c (line_of l)) h (ap (has_code c) e)
        by (started x v e o k) =
            let q : eqb c x.code ≡ true = sym (ap (has_code c) e) ∙ h in
            let m : eqb x.code 0 ≡ false = ap (λ (i : ℕ). eqb i 0) (sym (eqb-true c x.code q)) ∙ n in
            ap (λ (s : List Label). lacks s c) (k.seen ∙ noted_known x.code x st.seen m) ∙ seen_now x st.seen c q

-- of lines that all go on, none has a label that has been seen; before a line with a label none has it
module _ (u : Rules) (c : ℕ) where
  abbrev coded : Bytes → Bool
  coded l = has_code c (line_of l)

  pub none_again : (ls : List Bytes) (st last : State) → Goes u st ls last → lacks st.seen c ≡ false → any coded ls ≡ false
  none_again [] st last g h = any_nil coded
  none_again (l ∷ ls) st last g h = any_neither coded l ls (not_again u st l g.0 g.1 c h) (none_again ls (past l g.0) last g.2 (still_seen u st l g.0 g.1 c h))

  pub none_before : eqb c 0 ≡ false → (ls : List Bytes) (e : Bytes) (st last : State) → Goes u st (ls ++ (e ∷ [])) last → coded e ≡ true → any coded ls ≡ false
  none_before n [] e st last g h = any_nil coded
  none_before n (l ∷ ls) e st last g h = by (coded l) refl (none_before n ls e (past l g.0) last g.2 h)
    where
      by : (t : Bool) → coded l ≡ t → any coded ls ≡ false → any coded (l ∷ ls) ≡ false
      by true q ih =
          let k : any coded (ls ++ (e ∷ [])) ≡ false = none_again (ls ++ (e ∷ [])) (past l g.0) last g.2 (now_seen u st l g.0 g.1 c n q) in
          torn (coded e) h (any_parts coded e [] (any_append_parts coded ls (e ∷ []) k).1).0
      by false q ih = any_neither coded l ls q ih

-- WHAT IS ACCEPTED: all its lines go, and the first is a TITLE line
pub block_goes : (u : Rules) (b : Bytes) (s : Structure) (spans : List Span) (p : Geometry) → read_block u b ≡ Read s spans p → (last : State) × Goes u start (cut b) last
unfolding read_block
block_goes u b s spans p h = by (ltb 32768 (length b)) (read_lines u start (cut b)) refl h
  where
    by : (long : Bool) (o : Outcome) → read_lines u start (cut b) ≡ o → elim long [ true ↦ Unread 2 0 | false ↦ reading_of o ] ≡ Read s spans p → (last : State) × Goes u start (cut b) last
    by true o e h = let z : ◌≡◌ {A = ℕ} 0 1 = cc in absurd (omega arith)
    by false (Accepted last) e h = (last, (accepted_by u (cut b) start last e).goes)
    by false (Refused n q) e h = let z : ◌≡◌ {A = ℕ} 0 1 = cc in absurd (omega arith)

first_title : (u : Rules) (l : Bytes) (next : State) → line_step u start l ≡ Go next → title_line l ≡ true
unfolding line_step start
first_title u l next h = by (not (all allowed l)) (title_line l) refl h
  where
    by : (m t : Bool) → title_line l ≡ t → (if m stop 3 else if not t stop 4 else line_turn u start l (line_of l)) ≡ Go next → title_line l ≡ true
    by true t e k = stop_go 3 next k
    by false true e k = e
    by false false e k = stop_go 4 next k

end_is : end_line (bytes "##END=\n") ≡ true
unfolding computing
end_is = refl

-- WHOLE: each record of a form ends in a line feed
whole_append : (e : Bool) (a b : Bytes) → whole_from e a ≡ true → whole b ≡ true → whole_from e (a ++ b) ≡ true
unfolding whole_from
whole_append e [] b h k = ap (λ (t : Bool). whole_from t b) h ∙ k
whole_append e (x ∷ a) b h k = whole_append (eqb x 10) a b h k

whole_nil : whole [] ≡ true
unfolding whole_from
whole_nil = refl

whole_flat : {A : Type 0} (f : A → Bytes) → ((x : A) → whole (f x) ≡ true) → (xs : List A) → whole (flat f xs) ≡ true
whole_flat f h [] = ap whole (flat_nil f) ∙ whole_nil
whole_flat f h (x ∷ xs) = ap whole (flat_cons f x xs) ∙ whole_append true (f x) (flat f xs) (h x) (whole_flat f h xs)

whole_concat : (ls : List Bytes) → all whole ls ≡ true → whole (concat ls) ≡ true
whole_concat [] h = ap whole concat_nil ∙ whole_nil
whole_concat (l ∷ ls) h = let p : (whole l ≡ true) × (all whole ls ≡ true) = all_parts whole l ls h in ap whole (concat_cons l ls) ∙ whole_append true l (concat ls) p.0 (whole_concat ls p.1)

line_whole : (ws : List Bytes) → whole (line ws) ≡ true
line_whole ws = ap whole (line_is ws) ∙ whole_snoc (body ws) true

record_whole : (l : String) (v : Bytes) → whole (print_record l v) ≡ true
unfolding print_record
record_whole l v = valued_whole (bytes l) v true

id_whole : (n : ℕ) → whole (print_id n) ≡ true
id_whole zero = whole_nil
id_whole (suc n) = record_whole "##BLOCK_ID=" (digits (suc n))

atoms_whole : (n : ℕ) (atoms : List Atom) → whole (print_atoms n atoms) ≡ true
unfolding print_atoms
atoms_whole n [] = whole_nil
atoms_whole n (a ∷ rest) = whole_append true (line (atom_words n a)) (print_atoms (suc n) rest) (line_whole (atom_words n a)) (atoms_whole (suc n) rest)

rows_whole : (l : ListOf) (rs : List Row) → whole (print_rows l rs) ≡ true
unfolding print_rows
rows_whole l [] = whole_nil
rows_whole l (r ∷ rs) = whole_append true (print_record (list_label l) []) _ (record_whole (list_label l) []) (whole_flat (λ (x : Row). line (row_words l x)) (λ x. line_whole (row_words l x)) (r ∷ rs))

yes_whole : (y : Bool) → whole (print_yes y) ≡ true
yes_whole true = record_whole "##STEREOMOLECULE=" (bytes "YES")
yes_whole false = whole_nil

-- THE LINES OF A FORM
module _ (s : Structure) (texts : List Bytes) where
  -- all records but END
  abbrev front : List Bytes
  front =
      print_record "##TITLE=" (get_or texts 0 [])
      ∷ print_record "##JCAMP-CS=" (bytes "3.7")
      ∷ print_record "##ORIGIN=" (get_or texts 1 [])
      ∷ print_record "##OWNER=" (get_or texts 2 [])
      ∷ print_id s.id
      ∷ print_record "##MOLFORM=" (print_formula (fragments s))
      ∷ print_record "##ATOMLIST=" []
      ∷ print_atoms 1 s.atoms
      ∷ flat (λ l. print_rows l (rows_of l s)) lists
      ∷ print_yes s.handed
      ∷ []

  front_whole : all whole front ≡ true
  unfolding all
  front_whole =
      rw (
        record_whole "##TITLE=" (get_or texts 0 []),
        record_whole "##JCAMP-CS=" (bytes "3.7"),
        record_whole "##ORIGIN=" (get_or texts 1 []),
        record_whole "##OWNER=" (get_or texts 2 []),
        id_whole s.id,
        record_whole "##MOLFORM=" (print_formula (fragments s)),
        record_whole "##ATOMLIST=" [],
        atoms_whole 1 s.atoms,
        whole_flat (λ (l : ListOf). print_rows l (rows_of l s)) (λ l. rows_whole l (rows_of l s)) lists,
        yes_whole s.handed,
      ) refl

  form_parts : canonical s texts ≡ concat front ++ bytes "##END=\n"
  unfolding canonical records print_record valued bytes
  form_parts = concat_snoc front (print_record "##END=" [])

  end_cut : cut (bytes "##END=\n") ≡ bytes "##END=\n" ∷ []
  unfolding computing
  end_cut = refl

  form_cut : cut (canonical s texts) ≡ cut (concat front) ++ (bytes "##END=\n" ∷ [])
  form_cut = ap cut form_parts ∙ cut_append (concat front) (bytes "##END=\n") (whole_concat front front_whole) ∙ ap (λ (r : List Bytes). cut (concat front) ++ r) end_cut

  front_some : 0 < length (concat front)
  unfolding concat print_record bytes
  front_some = omega arith

  pub form_lines : (u : Rules) (x : Structure) (spans : List Span) (p : Geometry) → read_block u (canonical s texts) ≡ Read x spans p → OneBlock (canonical s texts)
  unfolding title_line end_line
  form_lines u x spans p h =
      let c = cut_first (concat front) front_some in
      let l : Bytes = take (line_len (concat front)) (concat front) in
      let ls : List Bytes = cut (drop (line_len (concat front)) (concat front)) in
      let e : Bytes = bytes "##END=\n" in
      let lines : cut (canonical s texts) ≡ l ∷ (ls ++ (e ∷ [])) = form_cut ∙ ap (λ (r : List Bytes). r ++ (e ∷ [])) c in
      let g = block_goes u (canonical s texts) x spans p h in
      let goes : Goes u start (l ∷ (ls ++ (e ∷ []))) g.0 = rw lines at g.1 in
      let title : title_line l ≡ true = first_title u l goes.0 goes.1 in
      record {
        first = l;
        middle = ls;
        last = e;
        lines = lines;
        title_first_lem = title;
        title_once = none_again u 1 (ls ++ (e ∷ [])) (past l goes.0) g.0 goes.2 (now_seen u start l goes.0 goes.1 1 refl title);
        end_last = end_is;
        end_once = none_before u 13 refl (l ∷ ls) e start g.0 goes end_is;
      }
