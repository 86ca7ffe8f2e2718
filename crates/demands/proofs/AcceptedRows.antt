-- What every row passes, in the state that the rows before it leave, says of all rows: the atoms are numbered and held, and in each list no two rows clash and
-- no more are kept than it holds. The third stage of "accepted exactly when"; document 01, "Rows". Assumes nothing.
use Prim.Native.Nat.{ℕ, suc, ◌+◌, ◌≤◌}
use mathlib.Core.Path.{◌≡◌, refl, sym, ap, ◌∙◌, subst}
use mathlib.Core.Bool.{Bool, true, false, not, ◌&&◌, ◌||◌}
use Rattle.std.specs.declared.option.Option.{Option}
use Rattle.std.specs.declared.option.Option.TheVariants.{None, Some}
use mathlib.Core.List.{List, [], ◌∷◌, ◌++◌, map, append-nil, append_assoc, map-append}
use native.Mathlib.Nat.{add-zero}
use native.Mathlib.Omega.{arith}
use lib.ListN.{length, length-append, length-map}
use lib.Dec.{leb}
use borrow.Author.Tests.{leb-true, leb-false, le-leb, lt-leb}
use Rattle.lists.specs.Lists.{all, any, pairs, flat}
use Rattle.lists.specs.Folding.{Taken, on, halt, kept, take_rows, verdict}
use Rattle.lists.proofs.Bools.{and_parts, and_both}
use Rattle.lists.proofs.ListLaws.{all_nil, all_one, all_same}
use Rattle.lists.proofs.PartLaws.{flat_nil, flat_one, flat_append, all_map}
use Rattle.lists.proofs.FoldLaws.{kept_nil, kept_again, kept_new, take_nil, take_bad, take_again, take_new}
use Rattle.format.specs.Bytes.{Bytes, fields, strip}
use Rattle.format.specs.Labels.{ListOf, Holds, Text, Version, Formula, BlockId, Atoms, Rows, Xyz, Handedness, End, Skipped, Line, Plain, Unparted, Labelled, line_of}
use Rattle.format.specs.Rows.{Row, AtomRow, atom_shape, row_shape}
use Rattle.format.specs.Structure.{Atom, rows_of, most, meets, clash}
use Rattle.format.specs.Reading.{State, atom_count, ordered}
use Rattle.format.proofs.OrderLaws.{rows_accept}
use Rattle.demands.specs.Accepted.{Told, Value, Further, told_as, runs_on, told, listed, row_on, numbered, atom_of}
use Rattle.demands.proofs.AcceptedHolds.{holds_each}
use Rattle.demands.proofs.AcceptedContents.{same_list_lem, list_same, atom_in, atom_on, same_list, row_in, row_of}
use Rattle.demands.proofs.AcceptedAfter.{after, afters}
use Rattle.demands.proofs.AcceptedSteps.{along, passing, row_passes, atom_passes, list_passes, on_line, next_atom, room_at}
use Rattle.demands.proofs.AcceptedState.{after_running, after_atoms, after_rows}

-- ONE LINE HAS AT MOST ONE ROW
few_listed : {A : Type 0} (o : Option A) → length (listed o) ≤ 1
few_listed None = omega arith
few_listed (Some a) = omega arith

pub few_on : {A : Type 0} (shape : List Bytes → Option A) (fs : List Bytes) → length (row_on shape fs) ≤ 1
few_on shape [] = omega arith
few_on shape (f ∷ fs) = few_listed (shape (f ∷ fs))

pub few_told : {A : Type 0} (f : Told → List A) → ((t : Told) → length (f t) ≤ 1) → (h : Holds) (l : Bytes) (line : Line) → length (flat f (told_as h l line)) ≤ 1
few_told f few h l Plain = subst (λ (rs : List _). length rs ≤ 1) (sym (flat_one f (Further h l))) (few (Further h l))
few_told f few h l Unparted = subst (λ (rs : List _). length rs ≤ 1) (sym (flat_nil f)) (omega arith)
few_told f few h l (Labelled x v) = subst (λ (rs : List _). length rs ≤ 1) (sym (flat_one f (Value x.holds v))) (few (Value x.holds v))

few_atom : (h : Holds) (l : Bytes) → length (atom_in h l) ≤ 1
few_atom h l = holds_each (λ (rs : List AtomRow). length rs ≤ 1) [] [] [] (row_on atom_shape (fields (strip l))) (λ m. []) (omega arith) (omega arith) (omega arith) (few_on atom_shape (fields (strip l))) (λ m. omega arith) h

few_atoms : (t : Told) → length (atom_on t) ≤ 1
few_atoms (Value h v) = few_atom h v
few_atoms (Further h l) = few_atom h l

few_row : (l : ListOf) (h : Holds) (b : Bytes) → length (row_in l h b) ≤ 1
few_row l h b =
    holds_each (λ (rs : List Row). length rs ≤ 1) [] [] [] [] (λ m. elim (same_list l m) [ true ↦ map ordered (row_on (row_shape m) (fields (strip b))) | false ↦ [] ]) (omega arith) (omega arith) (omega arith) (omega arith)
    (λ m. by m (same_list l m)) h
  where
    by : (m : ListOf) (s : Bool) → length {A = Row} (elim s as (λ (t : Bool). List Row) [ true ↦ map ordered (row_on (row_shape m) (fields (strip b))) | false ↦ [] ]) ≤ 1
    by m true = subst (λ (n : ℕ). n ≤ 1) (sym (length-map (row_on (row_shape m) (fields (strip b))) ordered)) (few_on (row_shape m) (fields (strip b)))
    by m false = omega arith

few_rows : (l : ListOf) (t : Told) → length (row_of l t) ≤ 1
few_rows l (Value h v) = few_row l h v
few_rows l (Further h b) = few_row l h b

-- A TEST OF THE ROW ON A LINE, IF IT HAS ONE
pub row_all : {A : Type 0} (shape : List Bytes → Option A) (test : A → Bool) (fs : List Bytes) → row_passes shape test fs ≡ all test (row_on shape fs)
row_all shape test [] = sym (all_nil test)
row_all shape test (f ∷ fs) = by (shape (f ∷ fs))
  where
    by : (o : Option _) → passing test o ≡ all test (listed o)
    by None = sym (all_nil test)
    by (Some a) = sym (all_one test a)

atom_all : (test : AtomRow → Bool) (h : Holds) (l : Bytes) → atom_passes test h l ≡ all test (atom_in h l)
atom_all test (Text i) l = sym (all_nil test)
atom_all test Version l = sym (all_nil test)
atom_all test Formula l = sym (all_nil test)
atom_all test BlockId l = sym (all_nil test)
atom_all test Atoms l = row_all atom_shape test (fields (strip l))
atom_all test (Rows m) l = sym (all_nil test)
atom_all test (Xyz x) l = sym (all_nil test)
atom_all test Handedness l = sym (all_nil test)
atom_all test End l = sym (all_nil test)
atom_all test Skipped l = sym (all_nil test)

abbrev pub atoms_at : State → Bytes → List AtomRow
atoms_at st l = flat atom_on (told_as st.running l (line_of l))

abbrev pub atom_test : (State → AtomRow → Bool) → State → Bytes → Bool
atom_test test st l = on_line (atom_passes (test st)) (atom_passes (test st)) st.running l (line_of l)

atoms_line : (test : AtomRow → Bool) (h : Holds) (l : Bytes) (line : Line) → on_line (atom_passes test) (atom_passes test) h l line ≡ all test (flat atom_on (told_as h l line))
atoms_line test h l Plain = atom_all test h l ∙ ap (all test) (sym (flat_one atom_on (Further h l)))
atoms_line test h l Unparted = sym (all_nil test) ∙ ap (all test) (sym (flat_nil atom_on))
atoms_line test h l (Labelled x v) = atom_all test x.holds v ∙ ap (all test) (sym (flat_one atom_on (Value x.holds v)))

-- what the lines tell, the first apart
module _ {A : Type 0} (f : Told → List A) where
  pub told_cons : (h : Holds) (l : Bytes) (ls : List Bytes) → flat f (told h (l ∷ ls)) ≡ flat f (told_as h l (line_of l)) ++ flat f (told (runs_on h (line_of l)) ls)
  unfolding told
  told_cons h l ls = flat_append f (told_as h l (line_of l)) (told (runs_on h (line_of l)) ls)

  pub told_nil : (h : Holds) → flat f (told h []) ≡ []
  unfolding told
  told_nil h = flat_nil f

module _ (k : ℕ) where
  pub told_after : {A : Type 0} (f : Told → List A) (st : State) (l : Bytes) (ls : List Bytes) → flat f (told st.running (l ∷ ls)) ≡ flat f (told_as st.running l (line_of l)) ++ flat f (told (after k st l).running ls)
  told_after f st l ls = told_cons f st.running l ls ∙ ap (λ (h : Holds). flat f (told_as st.running l (line_of l)) ++ flat f (told h ls)) (sym (after_running k st l))

  pub count_after : (st : State) (l : Bytes) → atom_count (after k st l) ≡ atom_count st + length (atoms_at st l)
  count_after st l =
      ap length (after_atoms k st l) ∙ length-append st.body.atoms (map (atom_of k) (atoms_at st l)) ∙ ap (λ (n : ℕ). atom_count st + n) (length-map (atoms_at st l) (atom_of k))

  -- THE ATOMS
  pub numbers_are : (st : State) (ls : List Bytes) → along k (atom_test next_atom) st ls ≡ numbered (suc (atom_count st)) (flat atom_on (told st.running ls))
  unfolding along numbered
  numbers_are st [] = ap (numbered (suc (atom_count st))) (sym (told_nil atom_on st.running))
  numbers_are st (l ∷ ls) =
      ap (λ (t : Bool). t && along k (atom_test next_atom) (after k st l) ls) (atoms_line (next_atom st) st.running l (line_of l))
      ∙ ap (λ (t : Bool). all (next_atom st) (atoms_at st l) && t) (numbers_are (after k st l) ls)
      ∙ by (atoms_at st l) (few_told atom_on few_atoms st.running l (line_of l)) (count_after st l)
      ∙ ap (numbered (suc (atom_count st))) (sym (told_after atom_on st l ls))
    where
      by : (rs : List AtomRow) → length rs ≤ 1 → atom_count (after k st l) ≡ atom_count st + length rs
          → (all (next_atom st) rs && numbered (suc (atom_count (after k st l))) (flat atom_on (told (after k st l).running ls))) ≡ numbered (suc (atom_count st)) (rs ++ flat atom_on (told (after k st l).running ls))
      by [] few c = rw (all_nil (next_atom st), c, add-zero (atom_count st))
      by (r ∷ []) few c = let q : atom_count (after k st l) ≡ suc (atom_count st) = omega (arith, c) in rw (all_one (next_atom st) r, q)
      by (r ∷ s ∷ rs) few c = absurd (omega arith)

  pub atoms_roomy : (st : State) (ls : List Bytes) → atom_count st ≤ 256 → along k (atom_test room_at) st ls ≡ leb (atom_count st + length (flat atom_on (told st.running ls))) 256
  unfolding along
  atoms_roomy st [] h = sym (le-leb (atom_count st + length (flat atom_on (told st.running []))) 256 (omega (arith, h, ap length (told_nil atom_on st.running))))
  atoms_roomy st (l ∷ ls) h =
      ap (λ (t : Bool). t && along k (atom_test room_at) (after k st l) ls) (atoms_line (room_at st) st.running l (line_of l))
      ∙ by (atoms_at st l) (few_told atom_on few_atoms st.running l (line_of l)) (count_after st l) (atoms_roomy (after k st l) ls)
      ∙ ap (λ (rs : List AtomRow). leb (atom_count st + length rs) 256) (sym (told_after atom_on st l ls))
    where
      by : (rs : List AtomRow) → length rs ≤ 1 → atom_count (after k st l) ≡ atom_count st + length rs
          → (atom_count (after k st l) ≤ 256 → along k (atom_test room_at) (after k st l) ls ≡ leb (atom_count (after k st l) + length (flat atom_on (told (after k st l).running ls))) 256)
          → (all (room_at st) rs && along k (atom_test room_at) (after k st l) ls) ≡ leb (atom_count st + length (rs ++ flat atom_on (told (after k st l).running ls))) 256
      by [] few c ih = ap (λ (t : Bool). t && along k (atom_test room_at) (after k st l) ls) (all_nil (room_at st)) ∙ ih (omega (arith, c, h)) ∙ ap (λ (n : ℕ). leb (n + length (flat atom_on (told (after k st l).running ls))) 256) (c ∙ add-zero (atom_count st))
      by (r ∷ []) few c ih = full (leb 256 (atom_count st)) refl
        where
          full : (b : Bool) → leb 256 (atom_count st) ≡ b → (all (room_at st) (r ∷ []) && along k (atom_test room_at) (after k st l) ls) ≡ leb (atom_count st + length (r ∷ flat atom_on (told (after k st l).running ls))) 256
          full true e = rw (all_one (room_at st) r, e) (sym (lt-leb (atom_count st + length (r ∷ flat atom_on (told (after k st l).running ls))) 256 (omega (arith, leb-true 256 (atom_count st) e))))
          full false e =
              let q : atom_count (after k st l) + length (flat atom_on (told (after k st l).running ls)) ≡ atom_count st + length (r ∷ flat atom_on (told (after k st l).running ls)) = omega (arith, c) in
              rw (all_one (room_at st) r, e) (ih (omega (arith, c, leb-false 256 (atom_count st) e)) ∙ ap (λ (n : ℕ). leb n 256) q)
      by (r ∷ s ∷ rs) few c ih = absurd (omega arith)

  pub afters_atoms : (st : State) (ls : List Bytes) → (afters k st ls).body.atoms ≡ st.body.atoms ++ map (atom_of k) (flat atom_on (told st.running ls))
  unfolding afters
  afters_atoms st [] = sym (append-nil st.body.atoms) ∙ ap (λ (rs : List AtomRow). st.body.atoms ++ map (atom_of k) rs) (sym (told_nil atom_on st.running))
  afters_atoms st (l ∷ ls) =
      afters_atoms (after k st l) ls ∙ ap (λ (as' : List Atom). as' ++ map (atom_of k) (flat atom_on (told (after k st l).running ls))) (after_atoms k st l)
      ∙ append_assoc st.body.atoms (map (atom_of k) (atoms_at st l)) _
      ∙ ap (λ (as' : List Atom). st.body.atoms ++ as') (sym (map-append (atom_of k) (atoms_at st l) (flat atom_on (told (after k st l).running ls))))
      ∙ ap (λ (rs : List AtomRow). st.body.atoms ++ map (atom_of k) rs) (sym (told_after atom_on st l ls))

  -- TESTS ALONG THE LINES, one from another, and one from those of all lists
  pub along_same : (p q : State → Bytes → Bool) → ((st : State) (b : Bytes) → p st b ≡ q st b) → (st : State) (ls : List Bytes) → along k p st ls ≡ along k q st ls
  unfolding along
  along_same p q f st [] = refl
  along_same p q f st (l ∷ ls) = ap (λ (t : Bool). t && along k p (after k st l) ls) (f st l) ∙ ap (λ (t : Bool). q st l && t) (along_same p q f (after k st l) ls)

  pub along_imply : (p q : State → Bytes → Bool) → ((st : State) (b : Bytes) → p st b ≡ true → q st b ≡ true) → (st : State) (ls : List Bytes) → along k p st ls ≡ true → along k q st ls ≡ true
  unfolding along
  along_imply p q f st [] h = refl
  along_imply p q f st (l ∷ ls) h =
      let x : (p st l ≡ true) × (along k p (after k st l) ls ≡ true) = and_parts (p st l) _ h in and_both (q st l) _ (f st l x.0) (along_imply p q f (after k st l) ls x.1)

  pub along_every : (q : ListOf → State → Bytes → Bool) (p : State → Bytes → Bool) → ((st : State) (b : Bytes) → ((l : ListOf) → q l st b ≡ true) → p st b ≡ true)
      → (st : State) (ls : List Bytes) → ((l : ListOf) → along k (q l) st ls ≡ true) → along k p st ls ≡ true
  unfolding along
  along_every q p f st [] h = refl
  along_every q p f st (b ∷ ls) h =
      and_both (p st b) _ (f st b (λ l. (and_parts (q l st b) (along k (q l) (after k st b) ls) (h l)).0)) (along_every q p f (after k st b) ls (λ l. (and_parts (q l st b) (along k (q l) (after k st b) ls) (h l)).1))

-- A TEST OF THE ROW OF A LIST, the row as written or with its atoms in order, is that test in every list
module _ (test own : ListOf → Row → Bool) (order : (l : ListOf) (r : Row) → test l r ≡ own l (ordered r)) where
  rows_all : (m : ListOf) (fs : List Bytes) → row_passes (row_shape m) (test m) fs ≡ all (own m) (map ordered (row_on (row_shape m) fs))
  rows_all m fs = row_all (row_shape m) (test m) fs ∙ all_same (test m) (λ r. own m (ordered r)) (order m) (row_on (row_shape m) fs) ∙ sym (all_map (own m) ordered (row_on (row_shape m) fs))

  row_here : (m : ListOf) (b : Bytes) → row_in m (Rows m) b ≡ map ordered (row_on (row_shape m) (fields (strip b)))
  row_here m b = ap (λ (s : Bool). elim s as (λ (t : Bool). List Row) [ true ↦ map ordered (row_on (row_shape m) (fields (strip b))) | false ↦ [] ]) (list_same m)

  list_each : (l : ListOf) (h : Holds) (b : Bytes) → list_passes test h b ≡ true → all (own l) (row_in l h b) ≡ true
  list_each l (Text i) b e = all_nil (own l)
  list_each l Version b e = all_nil (own l)
  list_each l Formula b e = all_nil (own l)
  list_each l BlockId b e = all_nil (own l)
  list_each l Atoms b e = all_nil (own l)
  list_each l (Rows m) b e = by (same_list l m) refl
    where
      by : (s : Bool) → same_list l m ≡ s → all (own l) (elim s as (λ (t : Bool). List Row) [ true ↦ map ordered (row_on (row_shape m) (fields (strip b))) | false ↦ [] ]) ≡ true
      by true f = ap (λ (n : ListOf). all (own n) (map ordered (row_on (row_shape m) (fields (strip b))))) (same_list_lem l m f) ∙ sym (rows_all m (fields (strip b))) ∙ e
      by false f = all_nil (own l)
  list_each l (Xyz x) b e = all_nil (own l)
  list_each l Handedness b e = all_nil (own l)
  list_each l End b e = all_nil (own l)
  list_each l Skipped b e = all_nil (own l)

  list_every : (h : Holds) (b : Bytes) → ((l : ListOf) → all (own l) (row_in l h b) ≡ true) → list_passes test h b ≡ true
  list_every (Text i) b f = refl
  list_every Version b f = refl
  list_every Formula b f = refl
  list_every BlockId b f = refl
  list_every Atoms b f = refl
  list_every (Rows m) b f = rows_all m (fields (strip b)) ∙ ap (all (own m)) (sym (row_here m b)) ∙ f m
  list_every (Xyz x) b f = refl
  list_every Handedness b f = refl
  list_every End b f = refl
  list_every Skipped b f = refl

  pub line_each : (l : ListOf) (h : Holds) (b : Bytes) (line : Line) → on_line (list_passes test) (list_passes test) h b line ≡ true → all (own l) (flat (row_of l) (told_as h b line)) ≡ true
  line_each l h b Plain e = ap (all (own l)) (flat_one (row_of l) (Further h b)) ∙ list_each l h b e
  line_each l h b Unparted e = ap (all (own l)) (flat_nil (row_of l)) ∙ all_nil (own l)
  line_each l h b (Labelled x v) e = ap (all (own l)) (flat_one (row_of l) (Value x.holds v)) ∙ list_each l x.holds v e

  pub line_every : (h : Holds) (b : Bytes) (line : Line) → ((l : ListOf) → all (own l) (flat (row_of l) (told_as h b line)) ≡ true) → on_line (list_passes test) (list_passes test) h b line ≡ true
  line_every h b Plain f = list_every h b (λ l. ap (all (own l)) (sym (flat_one (row_of l) (Further h b))) ∙ f l)
  line_every h b Unparted f = refl
  line_every h b (Labelled x v) f = list_every x.holds v (λ l. ap (all (own l)) (sym (flat_one (row_of l) (Value x.holds v))) ∙ f l)

-- ONE LIST
module _ (k : ℕ) (l : ListOf) where
  abbrev pub rows_at : State → Bytes → List Row
  rows_at st b = flat (row_of l) (told_as st.running b (line_of b))

  abbrev pub row_test : (State → Row → Bool) → State → Bytes → Bool
  row_test test st b = all (test st) (rows_at st b)

  few_here : (st : State) (b : Bytes) → length (rows_at st b) ≤ 1
  few_here st b = few_told (row_of l) (few_rows l) st.running b (line_of b)

  abbrev pub free_row : State → Row → Bool
  free_row st r = not (any (clash l r) (rows_of l st.body))

  abbrev pub held_row : State → Row → Bool
  held_row st r = any (meets l r) (rows_of l st.body) || not (leb (most l) (length (rows_of l st.body)))

  -- no clash with a row before is no clash of two: rows taken one after another
  abbrev onward : Taken Row → Bool
  onward (on rs) = true
  onward halt = false

  abbrev never : Row → Bool
  never r = false

  abbrev taking : List Row → List Row → Bool
  taking rows xs = onward (take_rows never (clash l) (meets l) rows xs)

  rows_taken : (st : State) (ls : List Bytes) → along k (row_test free_row) st ls ≡ taking (rows_of l st.body) (flat (row_of l) (told st.running ls))
  unfolding along
  rows_taken st [] = ap onward (sym (take_nil never (clash l) (meets l) (rows_of l st.body))) ∙ ap (taking (rows_of l st.body)) (sym (told_nil (row_of l) st.running))
  rows_taken st (b ∷ ls) =
      ap (λ (t : Bool). row_test free_row st b && t) (rows_taken (after k st b) ls)
      ∙ by (rows_at st b) (few_here st b) (after_rows l k st b)
      ∙ ap (taking (rows_of l st.body)) (sym (told_after k (row_of l) st b ls))
    where
      by : (rs : List Row) → length rs ≤ 1 → rows_of l (after k st b).body ≡ kept (meets l) (rows_of l st.body) rs
          → (all (free_row st) rs && taking (rows_of l (after k st b).body) (flat (row_of l) (told (after k st b).running ls))) ≡ taking (rows_of l st.body) (rs ++ flat (row_of l) (told (after k st b).running ls))
      by [] few c = rw (all_nil (free_row st), c, kept_nil (meets l) (rows_of l st.body))
      by (r ∷ []) few c = free (any (clash l r) (rows_of l st.body)) (any (meets l r) (rows_of l st.body)) refl refl
        where
          rows : List Row
          rows = rows_of l st.body

          rest : List Row
          rest = flat (row_of l) (told (after k st b).running ls)

          free : (x a : Bool) → any (clash l r) rows ≡ x → any (meets l r) rows ≡ a → (all (free_row st) (r ∷ []) && taking (rows_of l (after k st b).body) rest) ≡ taking rows (r ∷ rest)
          free true a e f = rw (all_one (free_row st) r, e) (ap onward (sym (take_bad never (clash l) (meets l) rows r rest e)))
          free false true e f =
              ap (λ (t : Bool). t && taking (rows_of l (after k st b).body) rest) (all_one (free_row st) r ∙ ap not e)
              ∙ ap (λ (qs : List Row). taking qs rest) (c ∙ kept_again (meets l) rows r [] f ∙ kept_nil (meets l) rows) ∙ ap onward (sym (take_again never (clash l) (meets l) rows r rest e f))
          free false false e f =
              ap (λ (t : Bool). t && taking (rows_of l (after k st b).body) rest) (all_one (free_row st) r ∙ ap not e)
              ∙ ap (λ (qs : List Row). taking qs rest) (c ∙ kept_new (meets l) rows r [] f ∙ kept_nil (meets l) (r ∷ rows)) ∙ ap onward (sym (take_new never (clash l) (meets l) rows r rest e f))
      by (r ∷ s ∷ rs) few c = absurd (omega arith)

  nothing : (xs : List Row) → any never xs ≡ false
  unfolding any
  nothing [] = refl
  nothing (x ∷ xs) = nothing xs

  onward_verdict : (b : Bool) (rows : List Row) → onward (verdict b rows) ≡ not b
  onward_verdict true rows = refl
  onward_verdict false rows = refl

  pub rows_free : (st : State) (ls : List Bytes) → rows_of l st.body ≡ [] → along k (row_test free_row) st ls ≡ not (pairs (clash l) (flat (row_of l) (told st.running ls)))
  rows_free st ls e =
      rows_taken st ls ∙ ap (λ (rows : List Row). taking rows (flat (row_of l) (told st.running ls))) e ∙ ap onward (rows_accept l never (flat (row_of l) (told st.running ls)))
      ∙ onward_verdict (any never (flat (row_of l) (told st.running ls)) || pairs (clash l) (flat (row_of l) (told st.running ls))) _
      ∙ ap (λ (t : Bool). not (t || pairs (clash l) (flat (row_of l) (told st.running ls)))) (nothing (flat (row_of l) (told st.running ls)))

  -- THE LIMIT, repeats not counted
  pub kept_more : (rows xs : List Row) → length rows ≤ length (kept (meets l) rows xs)
  kept_more rows [] = omega (arith, ap length (kept_nil (meets l) rows))
  kept_more rows (x ∷ xs) = by (any (meets l x) rows) refl (kept_more rows xs) (kept_more (x ∷ rows) xs)
    where
      by : (a : Bool) → any (meets l x) rows ≡ a → length rows ≤ length (kept (meets l) rows xs) → length (x ∷ rows) ≤ length (kept (meets l) (x ∷ rows) xs) → length rows ≤ length (kept (meets l) rows (x ∷ xs))
      by true e p q = omega (arith, ap length (kept_again (meets l) rows x xs e), p)
      by false e p q = omega (arith, ap length (kept_new (meets l) rows x xs e), q)

  pub rows_held : (st : State) (ls : List Bytes) → length (rows_of l st.body) ≤ most l
      → along k (row_test held_row) st ls ≡ leb (length (kept (meets l) (rows_of l st.body) (flat (row_of l) (told st.running ls)))) (most l)
  unfolding along
  rows_held st [] h =
      sym (le-leb (length (rows_of l st.body)) (most l) h)
      ∙ ap (λ (rs : List Row). leb (length rs) (most l)) (sym (ap (kept (meets l) (rows_of l st.body)) (told_nil (row_of l) st.running) ∙ kept_nil (meets l) (rows_of l st.body)))
  rows_held st (b ∷ ls) h =
      by (rows_at st b) (few_here st b) (after_rows l k st b) (rows_held (after k st b) ls)
      ∙ ap (λ (rs : List Row). leb (length (kept (meets l) (rows_of l st.body) rs)) (most l)) (sym (told_after k (row_of l) st b ls))
    where
      rows : List Row
      rows = rows_of l st.body

      rest : List Row
      rest = flat (row_of l) (told (after k st b).running ls)

      by : (rs : List Row) → length rs ≤ 1 → rows_of l (after k st b).body ≡ kept (meets l) rows rs
          → (length (rows_of l (after k st b).body) ≤ most l → along k (row_test held_row) (after k st b) ls ≡ leb (length (kept (meets l) (rows_of l (after k st b).body) rest)) (most l))
          → (all (held_row st) rs && along k (row_test held_row) (after k st b) ls) ≡ leb (length (kept (meets l) rows (rs ++ rest))) (most l)
      by [] few c ih =
          let q : rows_of l (after k st b).body ≡ rows = c ∙ kept_nil (meets l) rows in
          ap (λ (t : Bool). t && along k (row_test held_row) (after k st b) ls) (all_nil (held_row st)) ∙ ih (subst (λ (qs : List Row). length qs ≤ most l) (sym q) h)
          ∙ ap (λ (qs : List Row). leb (length (kept (meets l) qs rest)) (most l)) q
      by (r ∷ []) few c ih = held (any (meets l r) rows) (leb (most l) (length rows)) refl refl
        where
          held : (a f : Bool) → any (meets l r) rows ≡ a → leb (most l) (length rows) ≡ f → (all (held_row st) (r ∷ []) && along k (row_test held_row) (after k st b) ls) ≡ leb (length (kept (meets l) rows (r ∷ rest))) (most l)
          held true f e g =
              let q : rows_of l (after k st b).body ≡ rows = c ∙ kept_again (meets l) rows r [] e ∙ kept_nil (meets l) rows in
              ap (λ (t : Bool). t && along k (row_test held_row) (after k st b) ls) (all_one (held_row st) r ∙ ap (λ (t : Bool). t || not (leb (most l) (length rows))) e)
              ∙ ih (subst (λ (qs : List Row). length qs ≤ most l) (sym q) h) ∙ ap (λ (qs : List Row). leb (length (kept (meets l) qs rest)) (most l)) q
              ∙ ap (λ (qs : List Row). leb (length qs) (most l)) (sym (kept_again (meets l) rows r rest e))
          held false true e g =
              let p : all (held_row st) (r ∷ []) ≡ false = all_one (held_row st) r ∙ rw (e, g) in
              ap (λ (t : Bool). t && along k (row_test held_row) (after k st b) ls) p
              ∙ sym (lt-leb (length (kept (meets l) rows (r ∷ rest))) (most l) (omega (arith, leb-true (most l) (length rows) g, kept_more (r ∷ rows) rest, ap length (kept_new (meets l) rows r rest e))))
          held false false e g =
              let q : rows_of l (after k st b).body ≡ r ∷ rows = c ∙ kept_new (meets l) rows r [] e ∙ kept_nil (meets l) (r ∷ rows) in
              let p : all (held_row st) (r ∷ []) ≡ true = all_one (held_row st) r ∙ rw (e, g) in
              ap (λ (t : Bool). t && along k (row_test held_row) (after k st b) ls) p
              ∙ ih (subst (λ (qs : List Row). length qs ≤ most l) (sym q) (leb-false (most l) (length rows) g)) ∙ ap (λ (qs : List Row). leb (length (kept (meets l) qs rest)) (most l)) q
              ∙ ap (λ (qs : List Row). leb (length qs) (most l)) (sym (kept_new (meets l) rows r rest e))
      by (r ∷ s ∷ rs) few c ih = absurd (omega arith)

  -- WHAT IS KEPT after all lines
  kept_append : (rows xs ys : List Row) → kept (meets l) rows (xs ++ ys) ≡ kept (meets l) (kept (meets l) rows xs) ys
  kept_append rows [] ys = ap (λ (qs : List Row). kept (meets l) qs ys) (sym (kept_nil (meets l) rows))
  kept_append rows (x ∷ xs) ys = by (any (meets l x) rows) refl (kept_append rows xs ys) (kept_append (x ∷ rows) xs ys)
    where
      by : (a : Bool) → any (meets l x) rows ≡ a → kept (meets l) rows (xs ++ ys) ≡ kept (meets l) (kept (meets l) rows xs) ys → kept (meets l) (x ∷ rows) (xs ++ ys) ≡ kept (meets l) (kept (meets l) (x ∷ rows) xs) ys
          → kept (meets l) rows (x ∷ (xs ++ ys)) ≡ kept (meets l) (kept (meets l) rows (x ∷ xs)) ys
      by true e p q = kept_again (meets l) rows x (xs ++ ys) e ∙ p ∙ ap (λ (qs : List Row). kept (meets l) qs ys) (sym (kept_again (meets l) rows x xs e))
      by false e p q = kept_new (meets l) rows x (xs ++ ys) e ∙ q ∙ ap (λ (qs : List Row). kept (meets l) qs ys) (sym (kept_new (meets l) rows x xs e))

  pub afters_rows : (st : State) (ls : List Bytes) → rows_of l (afters k st ls).body ≡ kept (meets l) (rows_of l st.body) (flat (row_of l) (told st.running ls))
  unfolding afters
  afters_rows st [] = sym (ap (kept (meets l) (rows_of l st.body)) (told_nil (row_of l) st.running) ∙ kept_nil (meets l) (rows_of l st.body))
  afters_rows st (b ∷ ls) =
      afters_rows (after k st b) ls ∙ ap (λ (qs : List Row). kept (meets l) qs (flat (row_of l) (told (after k st b).running ls))) (after_rows l k st b)
      ∙ sym (kept_append (rows_of l st.body) (rows_at st b) (flat (row_of l) (told (after k st b).running ls)))
      ∙ ap (kept (meets l) (rows_of l st.body)) (sym (told_after k (row_of l) st b ls))
