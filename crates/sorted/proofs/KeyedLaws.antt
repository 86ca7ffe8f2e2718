-- A line of BONDLIST, STEREOCENTER or STEREOPAIR, what the three share: a row whose values are in hand is refused 11 or 13, or joins its list with the lower atom
-- first; a line without fields leaves the list. Document 01, "Rows", "Refusal numbers". Assumes nothing.
use Prim.Native.Nat.{ℕ, ◌+◌, ◌*◌, ◌≤◌, ◌<◌}
use mathlib.Core.Path.{◌≡◌, refl, sym, ap, ◌∙◌, subst}
use mathlib.Core.Bool.{Bool, true, false, ◌&&◌}
use Rattle.std.specs.declared.option.Option.TheVariants.{None, Some}
use mathlib.Core.List.{List, [], ◌∷◌}
use native.Mathlib.Omega.{arith}
use lib.Dec.{eqb, ltb, leb}
use borrow.Author.Tests.{eqb-true, leb-true, ltb-true, le-leb, lt-leb, eq-eqb, ne_eqb, lt-ltb, le-ltb}
use mir.Syntax.{w32}
use mir.Val.{Fits as FitsIn}
use Rattle.lists.specs.Lists.{is_nil, all, any, pairs}
use Rattle.lists.specs.Order.{insert, sort}
use Rattle.lists.proofs.Bools.{torn, and_parts, and_both, and_left_false, and_right_false}
use Rattle.lists.proofs.ListLaws.{nil_is, all_nil, all_both, all_out, all_in}
use Rattle.lists.proofs.SortLaws.{insert_here, insert_past}
use Rattle.format.specs.Bytes.{Bytes, within, fields}
use Rattle.format.specs.Labels.{ListOf, Bonds, Charges, Radicals, Centres, Pairs}
use Rattle.format.specs.Rows.{Row, row_shape}
use Rattle.format.specs.Structure.{ranged}
use Rattle.format.specs.Reading.{ordered}
use Rattle.fields.specs.NextFields.{NextField}
use Rattle.fields.specs.declared.Field.{Field}
use Rattle.std.specs.Prelude.{Result, Ok, Err, min, max}
use Rattle.format.specs.Refusals.{number_of}
use Rattle.format.specs.declared.refusal.Refusal.{Refusal}
use Rattle.format.specs.declared.refusal.Refusal.TheVariants.{AtomNumber, Clash}
use Rattle.lists.proofs.PairLaws.{pairs_one}
use Rattle.lists.proofs.LexLaws.{Sides, less, equal, greater, sides}
use Rattle.sorted.specs.Steps.{kept, refused, join_after, row_after, row_step}
use Rattle.sorted.specs.Regions.{key_from, payload_of}
use Rattle.sorted.specs.Keyed.{keyed, region_fits, in_order, key_given, key_answer, atoms_in, ShowsKeyedRow, JoinShows, RowShows, StepShows}
use Rattle.sorted.specs.declared.kinds.KeyedRow.{KeyedRow}
use Rattle.sorted.proofs.ShapeLaws.{row_shaped, bond_ranged, centre_ranged, pair_ranged}
use Rattle.sorted.proofs.FitLaws.{ordered_fits}

-- "values out of their letters" cannot occur
keyed_ranged : (l : ListOf) (fs : List Bytes) (r : Row) → keyed l ≡ true → row_shape l fs ≡ Some r → ranged l r.value ≡ true
keyed_ranged Bonds fs r k e = bond_ranged fs r e
keyed_ranged Charges fs r k e = torn false k refl
keyed_ranged Radicals fs r k e = torn false k refl
keyed_ranged Centres fs r k e = centre_ranged fs r e
keyed_ranged Pairs fs r k e = pair_ranged fs r e

-- THE TABLE of a row's tests, its value in range
module _ (l : ListOf) (n : ℕ) (rs : List Row) (r : Row) (v : ranged l r.value ≡ true) where
  row_unlisted : all (within 1 n) r.atoms ≡ false → row_after l n rs (Some r) ≡ refused 11
  unfolding row_after
  row_unlisted a = rw (v, a)

  row_itself : all (within 1 n) r.atoms ≡ true → pairs eqb r.atoms ≡ true → row_after l n rs (Some r) ≡ refused 13
  unfolding row_after
  row_itself a b = rw (v, a, b)

  row_joins : all (within 1 n) r.atoms ≡ true → pairs eqb r.atoms ≡ false → row_after l n rs (Some r) ≡ join_after l rs (ordered r)
  unfolding row_after
  row_joins a b = rw (v, a, b)

-- WHAT EACH ANSWER SHOWS of a row
module _ (l : ListOf) (k : keyed l ≡ true) (ns : List ℕ) (payload n count : ℕ) (t u : List ℕ) where
  -- its atoms have no key
  pub shows_unkeyed : (r : Result ℕ Refusal) (e : Refusal) (y : Result ℕ Refusal) → r ≡ key_answer n ns → r ≡ Err e → y ≡ Err e → RowShows l ns payload n count t u y
  shows_unkeyed r e y x z o = rw o (go (all (within 1 n) ns) (pairs eqb ns) refl refl (sym z ∙ x))
    where
      go : (a b : Bool) → all (within 1 n) ns ≡ a → pairs eqb ns ≡ b → Err e ≡ key_given a b (key_from (sort ltb ns)) → RowShows l ns payload n count t u (Err e)
      go false b p q z fs rs row s ns≡ po len fi lent =
          let w : e ≡ AtomNumber = cc in
          rw (row_unlisted l n rs row (keyed_ranged l fs row k s) (ap (all (within 1 n)) ns≡ ∙ p)) (ap number_of w)
      go true true p q z fs rs row s ns≡ po len fi lent =
          let w : e ≡ Clash = cc in
          rw (row_itself l n rs row (keyed_ranged l fs row k s) (ap (all (within 1 n)) ns≡ ∙ p) (ap (pairs eqb) ns≡ ∙ q)) (ap number_of w)
      go true false p q z fs rs row s ns≡ po len fi lent = let w : ◌≡◌ {A = ℕ} 0 1 = cc in absurd (omega arith)

  pub shows_keyed : (key : ℕ) (a : Result ℕ Refusal) → n ≤ 256 → all (within 1 n) ns ≡ true → pairs eqb ns ≡ false → key_from (sort ltb ns) ≡ key
      → JoinShows l key payload count t u a → RowShows l ns payload n count t u a
  shows_keyed key a h b c q j fs rs r e ns≡ po len fi lent =
      let b' : all (within 1 n) r.atoms ≡ true = ap (all (within 1 n)) ns≡ ∙ b in
      let c' : pairs eqb r.atoms ≡ false = ap (pairs eqb) ns≡ ∙ c in
      let v : ranged l r.value ≡ true = keyed_ranged l fs r k e in
      rw (row_joins l n rs r v b' c') (j n rs (ordered r) h (ap (λ (ms : List ℕ). key_from (sort ltb ms)) ns≡ ∙ q) po len fi (ordered_fits l n r (row_shaped l fs r e) v b' c') lent)

  -- its atoms have that key
  pub shows_joined : (r : Result ℕ Refusal) (key : ℕ) → r ≡ key_answer n ns → r ≡ Ok key → n ≤ 256 → (a : Result ℕ Refusal) → JoinShows l key payload count t u a → RowShows l ns payload n count t u a
  shows_joined r key x y h a j = go (all (within 1 n) ns) (pairs eqb ns) refl refl (sym y ∙ x)
    where
      go : (b c : Bool) → all (within 1 n) ns ≡ b → pairs eqb ns ≡ c → Ok key ≡ key_given b c (key_from (sort ltb ns)) → RowShows l ns payload n count t u a
      go false c p q z = let w : ◌≡◌ {A = ℕ} 0 1 = cc in absurd (omega arith)
      go true true p q z = let w : ◌≡◌ {A = ℕ} 0 1 = cc in absurd (omega arith)
      go true false p q z = let w : key_from (sort ltb ns) ≡ key = cc in shows_keyed key a h p q w j

-- ONE ATOM OR TWO
module _ (n a : ℕ) where
  pub one_listed : within 1 n a ≡ true → all (within 1 n) (a ∷ []) ≡ true
  one_listed e = all_both (within 1 n) a [] e (all_nil (within 1 n))

  pub one_unlisted : within 1 n a ≡ false → all (within 1 n) (a ∷ []) ≡ false
  one_unlisted e = all_out (within 1 n) a [] e

  pub listed_below : within 1 n a ≡ true → a ≤ n
  unfolding within
  listed_below e = leb-true a n (and_parts (leb 1 a) (leb a n) e).1

  module _ (b : ℕ) where
    pub both_listed : within 1 n a ≡ true → within 1 n b ≡ true → all (within 1 n) (a ∷ b ∷ []) ≡ true
    both_listed e f = all_both (within 1 n) a (b ∷ []) e (all_both (within 1 n) b [] f (all_nil (within 1 n)))

    pub first_unlisted : within 1 n a ≡ false → all (within 1 n) (a ∷ b ∷ []) ≡ false
    first_unlisted e = all_out (within 1 n) a (b ∷ []) e

    pub second_unlisted : within 1 n a ≡ true → within 1 n b ≡ false → all (within 1 n) (a ∷ b ∷ []) ≡ false
    second_unlisted e f = all_in (within 1 n) a (b ∷ []) e ∙ all_out (within 1 n) b [] f

pub pair_equal : (a b : ℕ) → a ≡ b → pairs eqb (a ∷ b ∷ []) ≡ true
unfolding pairs any
pair_equal a b e = rw (eq-eqb a b e) refl

pub pair_apart : (a b : ℕ) → (a ≡ b → ⊥) → pairs eqb (a ∷ b ∷ []) ≡ false
unfolding pairs any
pair_apart a b e = rw (ne_eqb a b e) refl

pub one_key : (a : ℕ) → key_from (sort ltb (a ∷ [])) ≡ 1024 * a
unfolding sort insert
one_key a = omega arith

pub lower_first : (a b : ℕ) → a < b → key_from (sort ltb (a ∷ b ∷ [])) ≡ 1024 * a + b
unfolding sort insert
lower_first a b h = ap key_from (insert_here ltb a b [] (lt-ltb a b h))

pub higher_first : (a b : ℕ) → b ≤ a → key_from (sort ltb (a ∷ b ∷ [])) ≡ 1024 * b + a
unfolding sort insert
higher_first a b h = ap key_from (insert_past ltb a b [] (le-ltb a b h))

-- THE KEY that the code answers
module _ (n a : ℕ) where
  pub key_unlisted : (ns : List ℕ) → within 1 n a ≡ false → Err AtomNumber ≡ key_answer n (a ∷ ns)
  key_unlisted ns e = rw (all_out (within 1 n) a ns e) refl

  pub key_one : within 1 n a ≡ true → Ok (1024 * a) ≡ key_answer n (a ∷ [])
  key_one e = rw (one_listed n a e, pairs_one eqb a, one_key a) refl

  module _ (b : ℕ) (e : within 1 n a ≡ true) where
    pub key_other : within 1 n b ≡ false → Err AtomNumber ≡ key_answer n (a ∷ b ∷ [])
    key_other f = rw (second_unlisted n a b e f) refl

    pub key_itself : within 1 n b ≡ true → a ≡ b → Err Clash ≡ key_answer n (a ∷ b ∷ [])
    key_itself f h = rw (both_listed n a b e f, pair_equal a b h) refl

    pub key_two : within 1 n b ≡ true → (a ≡ b → ⊥) → Ok (1024 * min a b + max a b) ≡ key_answer n (a ∷ b ∷ [])
    key_two f h = rw (both_listed n a b e f, pair_apart a b h) (ap Ok (sym (go (sides a b))))
      where
        go : Sides a b → key_from (sort ltb (a ∷ b ∷ [])) ≡ 1024 * min a b + max a b
        go (less k) = lower_first a b k ∙ omega arith
        go (equal k) = absurd (h k)
        go (greater k) = higher_first a b (omega arith) ∙ omega arith

-- THE TABLE of a line
module _ (l : ListOf) (n : ℕ) (rs : List Row) where
  step_nil : row_step l n rs [] ≡ kept rs
  unfolding row_step
  step_nil = refl

  step_some : (fs : List Bytes) → is_nil fs ≡ false → row_step l n rs fs ≡ row_after l n rs (row_shape l fs)
  unfolding row_step
  step_some [] e = torn true refl e
  step_some (f ∷ fs) e = refl

  row_none : row_after l n rs None ≡ refused 9
  unfolding row_after
  row_none = refl

-- A LINE: no field, no shape, a row
module _ (l : ListOf) (n count : ℕ) (line : List ℕ) (t : List ℕ) where
  pub shows_blank : is_nil (fields line) ≡ true → StepShows l n count line t t (Ok count)
  shows_blank e rs len fi lent = rw (ap (row_step l n rs) (nil_is (fields line) e) ∙ step_nil l n rs) (ap Ok (sym len), lent)

  module _ (x : is_nil (fields line) ≡ false) (r : Result KeyedRow Refusal) (s : ShowsKeyedRow l line r) (u : List ℕ) (y : Result ℕ Refusal) where
    pub shows_unshaped : (e : Refusal) → r ≡ Err e → y ≡ Err e → StepShows l n count line t u y
    shows_unshaped e z o rs len fi lent =
        let q : (row_shape l (fields line) ≡ None) × (number_of e ≡ 9) = subst (λ (w : Result KeyedRow Refusal). ShowsKeyedRow l line w) z s in
        rw (o, step_some l n rs (fields line) x ∙ ap (row_after l n rs) q.0 ∙ row_none l n rs) q.1

    pub shows_row : (k : KeyedRow) → r ≡ Ok k → RowShows l (atoms_in k) k.payload n count t u y → StepShows l n count line t u y
    shows_row k z j rs len fi lent =
        let q : (w : Row) × (row_shape l (fields line) ≡ Some w) × (w.atoms ≡ atoms_in k) × (payload_of w ≡ k.payload) = subst (λ (w : Result KeyedRow Refusal). ShowsKeyedRow l line w) z s in
        rw (step_some l n rs (fields line) x ∙ ap (row_after l n rs) q.1) (j (fields line) rs q.0 q.1 q.2 q.3 len fi lent)

-- WHAT THE CODE'S TESTS TELL
le_ne_lt : (a b : ℕ) → a ≤ b → (a ≡ b → ⊥) → a < b
le_ne_lt a b h e = omega arith

pub bare_is : (line : Bytes) (f : Field) → NextField line 0 f → eqb f.from f.to ≡ is_nil (fields line)
bare_is line f x = go (eqb f.from f.to) refl
  where
    go : (t : Bool) → eqb f.from f.to ≡ t → eqb f.from f.to ≡ is_nil (fields line)
    go true e = e ∙ sym (ap is_nil (x.none (eqb-true f.from f.to e)))
    go false e = e ∙ sym (ap is_nil (x.some (le_ne_lt f.from f.to x.order (λ q. torn (eqb f.from f.to) (eq-eqb f.from f.to q) e))))

module _ (n a : ℕ) where
  pub zero_unlisted : a < 1 → false ≡ within 1 n a
  unfolding within
  zero_unlisted h = sym (and_left_false (leb 1 a) (leb a n) (lt-leb 1 a h))

  pub listed_is : 1 ≤ a → leb a n ≡ within 1 n a
  unfolding within
  listed_is h = rw (le-leb 1 a h) refl

  pub one_fits : n ≤ 256 → within 1 n a ≡ true → FitsIn w32 (1024 * a)
  one_fits h e = record { fits = omega (arith, listed_below n a e) }

  pub two_fits : (b : ℕ) → n ≤ 256 → within 1 n a ≡ true → within 1 n b ≡ true → FitsIn w32 (1024 * a + b)
  two_fits b h e f = record { fits = omega (arith, listed_below n a e, listed_below n b f) }

-- TWO ATOMS IN ORDER
module _ (n a b : ℕ) where
  pub order_unlisted : a < 1 → false ≡ in_order n a b
  order_unlisted h = sym (and_left_false (within 1 n a) _ (sym (zero_unlisted n a h)))

  pub order_wrong : b ≤ a → false ≡ in_order n a b
  order_wrong h = sym (and_right_false (within 1 n a) _ (and_right_false (within 1 n b) (ltb a b) (le-ltb a b h)))

  pub order_is : 1 ≤ a → a < b → leb b n ≡ in_order n a b
  order_is p h = go (leb b n) refl
    where
      go : (t : Bool) → leb b n ≡ t → leb b n ≡ in_order n a b
      go true e = e ∙ sym (and_both (within 1 n a) _ (sym (listed_is n a p) ∙ le-leb a n (omega (arith, leb-true b n e))) (and_both (within 1 n b) (ltb a b) (sym (listed_is n b (omega arith)) ∙ e) (lt-ltb a b h)))
      go false e = e ∙ sym (and_right_false (within 1 n a) _ (and_left_false (within 1 n b) (ltb a b) (sym (listed_is n b (omega arith)) ∙ e)))

  module _ (e : in_order n a b ≡ true) where
    pub order_first : within 1 n a ≡ true
    order_first = (and_parts (within 1 n a) _ e).0

    pub order_second : within 1 n b ≡ true
    order_second = (and_parts (within 1 n b) (ltb a b) (and_parts (within 1 n a) _ e).1).0

    pub order_below : a < b
    order_below = ltb-true a b (and_parts (within 1 n b) (ltb a b) (and_parts (within 1 n a) _ e).1).1

  pub shows_ordered : (payload count : ℕ) (t u : List ℕ) (r : Result ℕ Refusal) → n ≤ 256 → in_order n a b ≡ true → JoinShows Bonds (1024 * a + b) payload count t u r
      → RowShows Bonds (a ∷ b ∷ []) payload n count t u r
  shows_ordered payload count t u r h e j =
      shows_keyed Bonds refl (a ∷ b ∷ []) payload n count t u (1024 * a + b) r h (both_listed n a b (order_first e) (order_second e)) (pair_apart a b (λ q. omega (arith, q, order_below e))) (lower_first a b (order_below e)) j

-- THE REGION THAT IS LENT
module _ (long size count limit atoms : ℕ) where
  pub fits_parts : region_fits long size count limit atoms ≡ true → (long ≡ size) × (count ≤ limit) × (atoms ≤ 256)
  fits_parts e =
      let p = and_parts (eqb long size) (leb count limit && leb atoms 256) e in
      let q = and_parts (leb count limit) (leb atoms 256) p.1 in
      (eqb-true long size p.0, leb-true count limit q.0, leb-true atoms 256 q.1)

  pub fits_not : region_fits long size count limit atoms ≡ false → long ≡ size → count ≤ limit → atoms ≤ 256 → ⊥
  fits_not e l c a =
      torn (region_fits long size count limit atoms) (and_both (eqb long size) (leb count limit && leb atoms 256) (eq-eqb long size l) (and_both (leb count limit) (leb atoms 256) (le-leb count limit c) (le-leb atoms 256 a))) e

  pub fits_length : (long ≡ size → ⊥) → false ≡ region_fits long size count limit atoms
  fits_length h = sym (and_left_false (eqb long size) (leb count limit && leb atoms 256) (ne_eqb long size h))

  pub fits_count : limit < count → false ≡ region_fits long size count limit atoms
  fits_count h = sym (and_right_false (eqb long size) (leb count limit && leb atoms 256) (and_left_false (leb count limit) (leb atoms 256) (lt-leb count limit h)))

  pub fits_atoms : long ≡ size → count ≤ limit → leb atoms 256 ≡ region_fits long size count limit atoms
  fits_atoms l c = rw (eq-eqb long size l, le-leb count limit c) refl
