-- A line of ATOMLIST: no field, the row's refusal, or its values, and of these a refusal 10 to 14 in the order of the tests, or one atom more behind those listed.
-- Document 01, "Rows", ATOMLIST, "Refusal numbers". Assumes nothing.
use Prim.Native.Nat.{ℕ, suc, ◌+◌, ◌*◌, ◌≤◌, ◌<◌}
use mathlib.Core.Path.{◌≡◌, refl, sym, ap, ◌∙◌, subst}
use mathlib.Core.Bool.{true, false, ◌&&◌}
use Rattle.std.specs.declared.option.Option.TheVariants.{None, Some}
use mathlib.Core.List.{List, [], ◌∷◌, ◌++◌}
use native.Mathlib.Numerals.{add-one}
use native.Mathlib.Omega.{arith}
use lib.ListN.{length, length-append}
use lib.Dec.{eqb, leb}
use lib.Seq.{sets}
use borrow.Author.Tests.{le-leb, lt-leb, eq-eqb, ne_eqb}
use Rattle.lists.specs.Lists.{is_nil, filled, flat}
use Rattle.lists.proofs.Bools.{torn, and_both, and_left_false, and_right_false}
use Rattle.lists.proofs.ListLaws.{nil_is}
use Rattle.lists.proofs.PartLaws.{flat_snoc}
use Rattle.lists.proofs.RegionLaws.{flat_length, filled_sets}
use Rattle.format.specs.Bytes.{Bytes, fields}
use Rattle.format.specs.Rows.{Sym, AtomRow, atom_shape}
use Rattle.format.specs.Structure.{Isotope, Atom, isotope, unknown, mass_ok}
use Rattle.symbols.specs.ShownSymbols.{sym_of_mark}
use Rattle.symbols.specs.declared.Mark.{Mark}
use Rattle.rows.specs.Answers.{atom_row_of, ShowsRow}
use Rattle.std.specs.Prelude.{Result, Ok, Err}
use Rattle.format.specs.Refusals.{number_of}
use Rattle.format.specs.declared.refusal.Refusal.{Refusal}
use Rattle.format.specs.declared.refusal.Refusal.TheVariants.{Shape, Range, AtomNumber, Symbol, Full}
use Rattle.elements.specs.Shown.{isotope_shown}
use Rattle.rows.specs.declared.atom.AtomRow.{AtomRow as AtomKept}
use Rattle.elements.specs.declared.Isotope.{Isotope as Answered}
use Rattle.sorted.specs.Steps.{kept, refused, atom_after, atom_step}
use Rattle.sorted.specs.Regions.{kind_cells, kinds_region}
use Rattle.sorted.specs.Shown.{ShowsAfter}
use Rattle.lists.proofs.IndexLaws.{all_every}

-- ONE ATOM MORE in the region
abbrev atom_of : Isotope → ℕ → Atom
atom_of i h = record { kind = i; hydrogens = h }

kinds_more : (listed : List Atom) (a : Atom) → length listed < 256 → sets (kinds_region listed) (3 * length listed) (kind_cells a) ≡ kinds_region (listed ++ (a ∷ []))
unfolding kinds_region
kinds_more listed a h =
    let q : length (flat kind_cells listed) ≡ 3 * length listed = flat_length 3 kind_cells (λ x. true) (λ x e. refl) listed (all_every listed) in
    let w : length (kind_cells a) ≡ 3 = refl in
    ap (λ i. sets (filled 0 768 (flat kind_cells listed)) i (kind_cells a)) (sym q)
    ∙ filled_sets 0 768 (flat kind_cells listed) (kind_cells a) (omega (arith, q, w)) ∙ ap (filled 0 768) (sym (flat_snoc kind_cells listed a))

-- THE TABLE of a line's tests
module _ (k : ℕ) (listed : List Atom) where
  atom_nil : atom_step k listed [] ≡ kept listed
  unfolding atom_step
  atom_nil = refl

  atom_some : (fs : List Bytes) → is_nil fs ≡ false → atom_step k listed fs ≡ atom_after k listed (atom_shape fs)
  unfolding atom_step
  atom_some [] e = torn true refl e
  atom_some (f ∷ fs) e = refl

  -- "9 no shape of a row", 10 out of range, 11 another number than the next, 12 an unknown symbol, 14 one atom too many
  atom_9 : atom_after k listed None ≡ refused 9
  unfolding atom_after
  atom_9 = refl

  module _ (r : AtomRow) where
    atom_10 : (mass_ok r.symbol && leb r.hydrogens 15) ≡ false → atom_after k listed (Some r) ≡ refused 10
    unfolding atom_after
    atom_10 a = rw (a)

    module _ (a : (mass_ok r.symbol && leb r.hydrogens 15) ≡ true) where
      atom_11 : eqb r.number (suc (length listed)) ≡ false → atom_after k listed (Some r) ≡ refused 11
      unfolding atom_after
      atom_11 b = rw (a, b)

      module _ (b : eqb r.number (suc (length listed)) ≡ true) where
        atom_12 : unknown k r.symbol ≡ true → atom_after k listed (Some r) ≡ refused 12
        unfolding atom_after
        atom_12 c = rw (a, b, c)

        atom_14 : unknown k r.symbol ≡ false → leb 256 (length listed) ≡ true → atom_after k listed (Some r) ≡ refused 14
        unfolding atom_after
        atom_14 c d = rw (a, b, c, d)

        atom_joins : unknown k r.symbol ≡ false → leb 256 (length listed) ≡ false → atom_after k listed (Some r) ≡ kept (listed ++ (atom_of (isotope k r.symbol) r.hydrogens ∷ []))
        unfolding atom_after
        atom_joins c d = rw (a, b, c, d)

-- WHETHER A SYMBOL IS KNOWN, from the isotope in code
module _ (k : ℕ) (x : Sym) (i : Answered) (j : isotope_shown i ≡ isotope k x) where
  unknown_zero : i.element ≡ 0 → unknown k x ≡ true
  unfolding unknown
  unknown_zero e = ap (λ (y : Isotope). eqb y.element 0) (sym j) ∙ eq-eqb i.element 0 e

  known_other : (i.element ≡ 0 → ⊥) → unknown k x ≡ false
  unfolding unknown
  known_other e = ap (λ (y : Isotope). eqb y.element 0) (sym j) ∙ ne_eqb i.element 0 e

-- WHAT EACH ANSWER SHOWS of an atom whose values are in hand, n its number, m its symbol, h its hydrogens
abbrev row_of : (n : ℕ) → Mark → (h : ℕ) → AtomRow
row_of n m h = record { number = n; symbol = sym_of_mark m; hydrogens = h }

abbrev pub AtomJoins : (k count n : ℕ) (m : Mark) (h : ℕ) (before after : List ℕ) → Result ℕ Refusal → Type 0
AtomJoins k count n m h before after a = (listed : List Atom) → length listed ≡ count → before ≡ kinds_region listed → ShowsAfter kinds_region after a (atom_after k listed (Some (row_of n m h)))

module _ (k count n : ℕ) (m : Mark) (h : ℕ) (t u : List ℕ) where
  pub mass_10 : mass_ok (sym_of_mark m) ≡ false → AtomJoins k count n m h t u (Err Range)
  mass_10 a listed len lent = rw (atom_10 k listed (row_of n m h) (and_left_false (mass_ok (sym_of_mark m)) (leb h 15) a)) refl

  pub hydrogens_10 : 15 < h → AtomJoins k count n m h t u (Err Range)
  hydrogens_10 a listed len lent = rw (atom_10 k listed (row_of n m h) (and_right_false (mass_ok (sym_of_mark m)) (leb h 15) (lt-leb h 15 a))) refl

  module _ (a : mass_ok (sym_of_mark m) ≡ true) (b : h ≤ 15) where
    fine : (mass_ok (sym_of_mark m) && leb h 15) ≡ true
    fine = and_both (mass_ok (sym_of_mark m)) (leb h 15) a (le-leb h 15 b)

    pub shows_11 : (n ≡ count + 1 → ⊥) → AtomJoins k count n m h t u (Err AtomNumber)
    shows_11 c listed len lent = rw (atom_11 k listed (row_of n m h) fine (ne_eqb n (suc (length listed)) (λ q. c (q ∙ ap suc len ∙ sym (add-one count))))) refl

    module _ (c : n ≡ count + 1) (i : Answered) (j : isotope_shown i ≡ isotope k (sym_of_mark m)) where
      next : (listed : List Atom) → length listed ≡ count → eqb n (suc (length listed)) ≡ true
      next listed len = eq-eqb n (suc (length listed)) (c ∙ add-one count ∙ ap suc (sym len))

      pub shows_12 : i.element ≡ 0 → AtomJoins k count n m h t u (Err Symbol)
      shows_12 d listed len lent = rw (atom_12 k listed (row_of n m h) fine (next listed len) (unknown_zero k (sym_of_mark m) i j d)) refl

      module _ (d : i.element ≡ 0 → ⊥) where
        pub shows_14 : 256 ≤ count → AtomJoins k count n m h t u (Err Full)
        shows_14 f listed len lent = rw (atom_14 k listed (row_of n m h) fine (next listed len) (known_other k (sym_of_mark m) i j d) (le-leb 256 (length listed) (omega arith))) refl

        pub shows_joined : count < 256 → u ≡ sets t (3 * count) (i.element ∷ i.mass ∷ h ∷ []) → AtomJoins k count n m h t u (Ok (count + 1))
        shows_joined f p listed len lent =
            let new : Atom = atom_of (isotope k (sym_of_mark m)) h in
            let q : count + 1 ≡ length (listed ++ (new ∷ [])) = omega (arith, length-append listed (new ∷ [])) in
            let cells : List ℕ = kind_cells (atom_of (isotope_shown i) h) in
            rw (atom_joins k listed (row_of n m h) fine (next listed len) (known_other k (sym_of_mark m) i j d) (lt-leb 256 (length listed) (omega arith))) (
              ap Ok q,
              p ∙ ap (λ (l : List ℕ). sets l (3 * count) cells) lent ∙ ap (λ (z : ℕ). sets (kinds_region listed) (3 * z) cells) (sym len)
                  ∙ kinds_more listed (atom_of (isotope_shown i) h) (omega arith) ∙ ap (λ (y : Isotope). kinds_region (listed ++ (atom_of y h ∷ []))) j,
            )

-- WHAT A LINE'S ANSWER SHOWS
abbrev pub AtomShows : (k count : ℕ) (line : List ℕ) (before after : List ℕ) → Result ℕ Refusal → Type 0
AtomShows k count line before after y = (listed : List Atom) → length listed ≡ count → before ≡ kinds_region listed → ShowsAfter kinds_region after y (atom_step k listed (fields line))

module _ (k count : ℕ) (line : List ℕ) (t : List ℕ) where
  pub shows_bare : is_nil (fields line) ≡ true → AtomShows k count line t t (Ok count)
  shows_bare e listed len lent = rw (ap (atom_step k listed) (nil_is (fields line) e) ∙ atom_nil k listed) (ap Ok (sym len), lent)

  module _ (x : is_nil (fields line) ≡ false) (r : Result AtomKept Refusal) (s : ShowsRow atom_row_of (atom_shape (fields line)) r) (u : List ℕ) (y : Result ℕ Refusal) where
    pub shows_unshaped : (e : Refusal) → r ≡ Err e → y ≡ Err e → AtomShows k count line t u y
    shows_unshaped e q o listed len lent =
        let w : (atom_shape (fields line) ≡ None) × (e ≡ Shape) = subst (ShowsRow atom_row_of (atom_shape (fields line))) q s in
        rw (o, atom_some k listed (fields line) x ∙ ap (atom_after k listed) w.0 ∙ atom_9 k listed) (ap number_of w.1)

    pub shows_values : (a : AtomKept) → r ≡ Ok a → AtomJoins k count a.number a.mark a.hydrogens t u y → AtomShows k count line t u y
    shows_values a q j listed len lent =
        let w : atom_shape (fields line) ≡ Some (atom_row_of a) = subst (ShowsRow atom_row_of (atom_shape (fields line))) q s in
        rw (atom_some k listed (fields line) x ∙ ap (atom_after k listed) w) (j listed len lent)
