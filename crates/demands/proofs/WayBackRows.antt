-- The way back, the five lists: a list's label and its printed rows are read as those rows, latest first, and sorted back to the list. Stated once, over the list
-- l. Serves document 01, demand 2 ("Row rules shared by several lists are proved once"). Assumes nothing.
use Prim.Native.Nat.{ℕ, ◌+◌, ◌≤◌, ◌<◌}
use mathlib.Core.Path.{◌≡◌, refl, sym, ap, ◌∙◌}
use mathlib.Core.Bool.{Bool, true, false, not, ◌||◌}
use Rattle.std.specs.declared.option.Option.TheVariants.{Some}
use mathlib.Core.List.{List, [], ◌∷◌, ◌++◌, append-nil, reverse, reverse_aux}
use native.Mathlib.Omega.{arith}
use native.Mathlib.Nat.{add-zero}
use lib.ListN.{length, length-append}
use lib.Dec.{eqb, ltb}
use borrow.Author.Tests.{eqb-true, lt-leb, not-true}
use Rattle.lists.specs.Lists.{is_nil, all, any, pairs, flat}
use Rattle.lists.specs.Order.{sort, ascends, level}
use Rattle.lists.proofs.Bools.{torn, never, ltb_same}
use Rattle.lists.proofs.ListLaws.{all_nil, all_parts, any_parts, any_imply}
use Rattle.lists.proofs.PairLaws.{pairs_parts, pairs_within, cross, cross_nil, cross_cons}
use Rattle.lists.proofs.LexLaws.{ltb_strict}
use Rattle.lists.proofs.FoldLaws.{reverse_perm}
use Rattle.lists.proofs.SortLaws.{sort_alone, sort_back, ascends_apart}
use Rattle.format.specs.Bytes.{Bytes, bytes, allowed, fields, strip, within, cut}
use Rattle.format.specs.Labels.{ListOf, Bonds, Charges, Radicals, Centres, Pairs, Holds, Rows, Label, misplaced, label}
use Rattle.format.specs.Rows.{Row, row, row_shape}
use Rattle.format.specs.Structure.{Entry, Structure, rows_of, most, ranged, meets, clash, row_before, row_ok}
use Rattle.format.specs.Reading.{Rules, State, Turn, Go, if◌stop◌else◌, Prose, over, with_rows, ordered, join_turn, row_turn, unless_blank, row_line, lacks, value_turn, further_turn, line_step, read_lines}
use Rattle.format.specs.Writing.{line, row_words, valued, print_record, list_label, print_rows}
use Rattle.format.proofs.CutLaws.{feedless, full}
use Rattle.format.proofs.FieldLaws.{inline, strip_value, value_none}
use Rattle.format.proofs.TextLaws.{valued_allowed}
use Rattle.format.proofs.RowLines.{RowLine}
use Rattle.format.proofs.RowLaws.{FineRow, row_fine_lem, shape_back, printed_row, row_some}
use Rattle.format.proofs.OrderLaws.{row_strict, meets_symm, clash_none}
use Rattle.demands.proofs.WayBackLines.{state_of, Through, through_nil, through_both, through_to, through_line, plain_step, record_full}
use Rattle.demands.proofs.WayBackLabels.{label_of, list_written, list_holds, list_known, label_value, free, follows, free_more, had_more, spare_more, lacks_other}

-- A STRUCTURE WITH OTHER ROWS in a list
pub with_atoms_lem : (l : ListOf) (rs : List Row) (s : Structure) → (with_rows l rs s).atoms ≡ s.atoms
unfolding with_rows
with_atoms_lem Bonds rs s = refl
with_atoms_lem Charges rs s = refl
with_atoms_lem Radicals rs s = refl
with_atoms_lem Centres rs s = refl
with_atoms_lem Pairs rs s = refl

pub with_own : (l : ListOf) (rs : List Row) (s : Structure) → rows_of l (with_rows l rs s) ≡ rs
unfolding with_rows rows_of
with_own Bonds rs s = refl
with_own Charges rs s = refl
with_own Radicals rs s = refl
with_own Centres rs s = refl
with_own Pairs rs s = refl

pub with_twice : (l : ListOf) (rs qs : List Row) (s : Structure) → with_rows l rs (with_rows l qs s) ≡ with_rows l rs s
unfolding with_rows
with_twice Bonds rs qs s = refl
with_twice Charges rs qs s = refl
with_twice Radicals rs qs s = refl
with_twice Centres rs qs s = refl
with_twice Pairs rs qs s = refl

with_itself : (l : ListOf) (s : Structure) → with_rows l (rows_of l s) s ≡ s
unfolding with_rows rows_of
with_itself Bonds s = refl
with_itself Charges s = refl
with_itself Radicals s = refl
with_itself Centres s = refl
with_itself Pairs s = refl

pub with_same : (l : ListOf) (rs : List Row) (s : Structure) → rows_of l s ≡ rs → with_rows l rs s ≡ s
with_same l rs s e = ap (λ (r : List Row). with_rows l r s) (sym e) ∙ with_itself l s

-- A ROW THAT IS TAKEN
ascending_once : (ns : List ℕ) → ascends ltb ns ≡ true → pairs eqb ns ≡ false
ascending_once ns h = pairs_within (level ltb) eqb apart ns (ascends_apart ltb ltb_strict ns h)
  where
    apart : (x y : ℕ) → level ltb x y ≡ false → eqb x y ≡ false
    apart x y q = never (eqb x y) (λ e. torn (level ltb x y) (level_at x y (eqb-true x y e)) q)
      where
        level_at : (x y : ℕ) → x ≡ y → level ltb x y ≡ true
        level_at x y e = ap (λ (z : ℕ). level ltb x z) (sym e) ∙ ap (λ (t : Bool). not (t || t)) (ltb_same x)

pub unless_some : (st : State) (fs : List Bytes) (t : Turn) → 0 < length fs → unless_blank st fs t ≡ t
unless_some st [] t h = absurd (omega arith)
unless_some st (f ∷ fs) t h = refl

-- tests that all pass
pub three_pass : (a b c : Bool) (x y z : ℕ) (t : Turn) → a ≡ false → b ≡ false → c ≡ false → (if a stop x else if b stop y else if c stop z else t) ≡ t
three_pass a b c x y z t p q r = rw (p, q, r) refl

module _ (l : ListOf) (at : ℕ) (seen : List Label) (texts : List Prose) (f : List Entry) (s : Structure) (n : ℕ) (acc : List Row) (count : length s.atoms ≡ n) (held : rows_of l s ≡ acc)
    (r : Row) (ok : row_ok l n r ≡ true) (new : any (meets l r) acc ≡ false) (room : length acc < most l) where
  abbrev here : State
  here = state_of at seen (Rows l) texts f s

  abbrev after : State
  after = state_of at seen (Rows l) texts f (with_rows l (r ∷ acc) s)

  join_new : join_turn l here acc r ≡ Go after
  unfolding join_turn
  join_new = rw (any_imply (meets l r) (clash l r) (clash_none l r) acc new, new, lt-leb (most l) (length acc) room) refl

  row_taken : row_turn l here (Some r) ≡ Go after
  unfolding row_turn
  row_taken =
      let F : FineRow l n r = row_fine_lem l n r ok in
      let a : not (ranged l r.value) ≡ false = ap not F.value in
      let b : not (all (within 1 (length s.atoms)) r.atoms) ≡ false = ap not (ap (λ (k : ℕ). all (within 1 k) r.atoms) count ∙ F.listed) in
      let o : ordered r ≡ r = ap (λ (ns : List ℕ). row ns r.value r.group) (sort_alone ltb r.atoms F.ascending) in
      three_pass (not (ranged l r.value)) (not (all (within 1 (length s.atoms)) r.atoms)) (pairs eqb r.atoms) 10 11 13 (join_turn l here (rows_of l s) (ordered r)) a b (ascending_once r.atoms F.ascending)
      ∙ ap (λ (rs : List Row). join_turn l here rs (ordered r)) held ∙ ap (join_turn l here acc) o ∙ join_new

  pub row_step_lem : (u : Rules) → n < 1000000 → is_nil seen ≡ false → line_step u here (line (row_words l r)) ≡ Go after
  unfolding further_turn row_line
  row_step_lem u small begun =
      let R : RowLine (row_words l r) (line (row_words l r)) = printed_row n r l ok in
      plain_step u here (line (row_words l r)) R.fine begun R.plain
      ∙ ap (λ (fs : List Bytes). unless_blank here fs (row_turn l here (row_shape l fs))) R.read
      ∙ unless_some here (row_words l r) (row_turn l here (row_shape l (row_words l r))) (row_some n r l)
      ∙ ap (row_turn l here) (shape_back n small r l ok) ∙ row_taken

-- THE ROWS of a list, one after another
abbrev pub row_line_of : ListOf → Row → Bytes
row_line_of l x = line (row_words l x)

module _ (u : Rules) (l : ListOf) (seen : List Label) (begun : is_nil seen ≡ false) (texts : List Prose) (f : List Entry) (n : ℕ) (small : n < 1000000) where
  abbrev among : ℕ → Structure → State
  among at s = state_of at seen (Rows l) texts f s

  same_state : (r : Bytes) (st : State) (at to : ℕ) (s t : Structure) → at ≡ to → s ≡ t → Through u st r (among at s) → Through u st r (among to t)
  same_state r st at to s t p q go rest = go rest ∙ ap (λ (k : ℕ). read_lines u (among k s) (cut rest)) p ∙ ap (λ (x : Structure). read_lines u (among to x) (cut rest)) q

  pub rows_through : (xs acc : List Row) (at : ℕ) (s : Structure) → length s.atoms ≡ n → rows_of l s ≡ acc → all (row_ok l n) xs ≡ true → cross (meets l) xs acc ≡ false →
      pairs (meets l) xs ≡ false → length acc + length xs ≤ most l →
      Through u (among at s) (flat (row_line_of l) xs) (among (at + length (flat (row_line_of l) xs)) (with_rows l (reverse_aux xs acc) s))
  unfolding flat
  rows_through [] acc at s count held ok c p room =
      same_state [] (among at s) at (at + 0) s (with_rows l acc s) (sym (add-zero at)) (sym (with_same l acc s held)) (through_nil u (among at s))
  rows_through (x ∷ xs) acc at s count held ok c p room =
      let k : (row_ok l n x ≡ true) × (all (row_ok l n) xs ≡ true) = all_parts (row_ok l n) x xs ok in
      let d : (any (meets l x) acc ≡ false) × (cross (meets l) xs acc ≡ false) = any_parts (λ y. any (meets l y) acc) x xs c in
      let q : (any (meets l x) xs ≡ false) × (pairs (meets l) xs ≡ false) = pairs_parts (meets l) x xs p in
      let s' : Structure = with_rows l (x ∷ acc) s in
      let v : Bytes = row_line_of l x in
      let w : Bytes = flat (row_line_of l) xs in
      let e : cross (meets l) xs (x ∷ acc) ≡ false = cross_cons (meets l) (meets_symm l) xs x acc ∙ rw q.0 d.1 in
      let one : Through u (among at s) v (among (at + length v) s') =
      through_line u (among at s) (among at s') v (printed_row n x l k.0).one (row_step_lem l at seen texts f s n acc count held x k.0 d.0 (omega arith) u small begun) in
      let more : Through u (among (at + length v) s') w (among (at + length v + length w) (with_rows l (reverse_aux xs (x ∷ acc)) s')) =
      rows_through xs (x ∷ acc) (at + length v) s' (ap length (with_atoms_lem l (x ∷ acc) s) ∙ count) (with_own l (x ∷ acc) s) k.1 e q.1 (omega arith) in
      same_state (v ++ w) (among at s) (at + length v + length w) (at + length (v ++ w)) _ _ (omega (arith, length-append v w)) (with_twice l (reverse_aux xs (x ∷ acc)) (x ∷ acc) s)
      (through_both u (among at s) (among (at + length v) s') _ v w one more)

-- A WHOLE LIST, left out where it is empty: what is seen and what runs behind it
abbrev pub seen_with : ListOf → List Row → List Label → List Label
seen_with l [] seen = seen
seen_with l (r ∷ rs) seen = label_of l ∷ seen

abbrev pub runs_with : ListOf → List Row → Holds → Holds
runs_with l [] running = running
runs_with l (r ∷ rs) running = Rows l

list_other : (l : ListOf) → eqb (label_of l).code 17 ≡ false
unfolding label
list_other Bonds = refl
list_other Charges = refl
list_other Radicals = refl
list_other Centres = refl
list_other Pairs = refl

list_spare : (l : ListOf) → all (λ c. not (eqb (label_of l).code c)) (14 ∷ 15 ∷ 16 ∷ []) ≡ true
unfolding label all
list_spare Bonds = refl
list_spare Charges = refl
list_spare Radicals = refl
list_spare Centres = refl
list_spare Pairs = refl

module _ (l : ListOf) where
  pub seen_begun : (rs : List Row) (seen : List Label) → is_nil seen ≡ false → is_nil (seen_with l rs seen) ≡ false
  seen_begun [] seen h = h
  seen_begun (r ∷ rs) seen h = refl

  pub runs_open : (rs : List Row) (running : Holds) → over running ≡ false → over (runs_with l rs running) ≡ false
  runs_open [] running h = h
  runs_open (r ∷ rs) running h = refl

  pub seen_free : (rs : List Row) (seen xs : List Label) → all (follows (label_of l)) xs ≡ true → all (free seen) xs ≡ true → all (free (seen_with l rs seen)) xs ≡ true
  seen_free [] seen xs h k = k
  seen_free (r ∷ rs) seen xs h k = free_more (label_of l) seen xs h k

  pub seen_had : (rs : List Row) (seen : List Label) (cs : List ℕ) → any (lacks seen) cs ≡ false → any (lacks (seen_with l rs seen)) cs ≡ false
  seen_had [] seen cs h = h
  seen_had (r ∷ rs) seen cs h = had_more (label_of l) seen cs h

  pub seen_yes : (rs : List Row) (seen : List Label) → lacks (seen_with l rs seen) 17 ≡ lacks seen 17
  seen_yes [] seen = refl
  seen_yes (r ∷ rs) seen = lacks_other (label_of l) seen 17 (list_other l)

  pub seen_spare : (rs : List Row) (seen : List Label) → all (lacks seen) (14 ∷ 15 ∷ 16 ∷ []) ≡ true → all (lacks (seen_with l rs seen)) (14 ∷ 15 ∷ 16 ∷ []) ≡ true
  seen_spare [] seen h = h
  seen_spare (r ∷ rs) seen h = spare_more (label_of l) seen (14 ∷ 15 ∷ 16 ∷ []) (list_spare l) h

pub nothing_more_lem : fields (strip (valued [])) ≡ []
nothing_more_lem = ap fields (strip_value [] (all_nil inline)) ∙ value_none

-- a label line without value goes on, for the lists and for the atoms
pub no_value : (st : State) (t : List Bytes → Turn) → unless_blank st (fields (strip (valued []))) (t (fields (strip (valued [])))) ≡ Go st
no_value st t = ap (λ (fs : List Bytes). unless_blank st fs (t fs)) nothing_more_lem

pub bare_full : (h : Bytes) → feedless h ≡ true → full (h ++ valued []) ≡ true
bare_full h f = record_full h [] f (all_nil inline)

pub bare_fine : all allowed (valued []) ≡ true
bare_fine = valued_allowed [] (all_nil allowed)

module _ (u : Rules) (l : ListOf) (at : ℕ) (seen : List Label) (running : Holds) (texts : List Prose) (f : List Entry) (s : Structure) (begun : is_nil seen ≡ false) (runs : over running ≡ false)
    (next : free seen (label_of l) ≡ true) where
  list_label_lem : line_step u (state_of at seen running texts f s) (bytes (list_label l) ++ valued []) ≡ Go (state_of at (label_of l ∷ seen) (Rows l) texts f s)
  unfolding value_turn row_line
  list_label_lem =
      let st : State = state_of at (label_of l ∷ seen) (Rows l) texts f s in
      label_value u (state_of at seen running texts f s) (bytes (list_label l)) (label_of l) (list_written l) begun (not-true (misplaced seen (label_of l)) next) runs (Rows l) (list_holds l) (list_known l) (valued []) bare_fine
      ∙ no_value st (λ (fs : List Bytes). row_turn l st (row_shape l fs))

  pub list_through : (rs : List Row) (n : ℕ) → n < 1000000 → length s.atoms ≡ n → rows_of l s ≡ [] → all (row_ok l n) rs ≡ true → pairs (meets l) rs ≡ false → length rs ≤ most l →
      Through u (state_of at seen running texts f s) (print_rows l rs) (state_of (at + length (print_rows l rs)) (seen_with l rs seen) (runs_with l rs running) texts f (with_rows l (reverse rs) s))
  unfolding print_rows print_record
  list_through [] n small count held ok p room =
      through_to u (state_of at seen running texts f s) (state_of at seen running texts f s) (state_of (at + 0) seen running texts f (with_rows l [] s)) []
      (ap (λ (k : ℕ). state_of k seen running texts f s) (sym (add-zero at)) ∙ ap (state_of (at + 0) seen running texts f) (sym (with_same l [] s held)))
      (through_nil u (state_of at seen running texts f s))
  list_through (r ∷ rs) n small count held ok p room =
      let h : Bytes = bytes (list_label l) ++ valued [] in
      let w : Bytes = flat (row_line_of l) (r ∷ rs) in
      let mid : State = state_of (at + length h) (label_of l ∷ seen) (Rows l) texts f s in
      let full_line : full h ≡ true = bare_full (bytes (list_label l)) (list_written l).one in
      let one : Through u (state_of at seen running texts f s) h mid = through_line u (state_of at seen running texts f s) (state_of at (label_of l ∷ seen) (Rows l) texts f s) h full_line list_label_lem in
      let more : Through u mid w (state_of (at + length h + length w) (label_of l ∷ seen) (Rows l) texts f (with_rows l (reverse (r ∷ rs)) s)) =
      rows_through u l (label_of l ∷ seen) refl texts f n small (r ∷ rs) [] (at + length h) s count held ok (cross_nil (meets l) (r ∷ rs)) p (omega arith) in
      let e : at + length h + length w ≡ at + length (h ++ w) = omega (arith, length-append h w) in
      through_to u (state_of at seen running texts f s) _ _ (h ++ w) (ap (λ (k : ℕ). state_of k (label_of l ∷ seen) (Rows l) texts f (with_rows l (reverse (r ∷ rs)) s)) e)
      (through_both u (state_of at seen running texts f s) mid _ h w one more)

-- latest first, sorted back to the list
pub sorted_back : (rs : List Row) → ascends row_before rs ≡ true → sort row_before (reverse rs) ≡ rs
sorted_back rs h = sort_back row_before row_strict (reverse_perm rs []) (ap (ascends row_before) (append-nil rs) ∙ h) ∙ append-nil rs
