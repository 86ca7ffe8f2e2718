-- Symbols: a printed symbol is read as itself, a word's place in the list of elements at an index, and each isotope's spelling stands for that isotope. Serves
-- document 01, "Rows" ("A symbol is an upper-case letter and at most one lower-case letter, before it optionally `^` and 1 to 3 digits", "Symbols are those of
-- elements 1 (H) to 103 (Lr)") and "The one written form". Assumes nothing.
use Prim.Native.Nat.{ℕ, zero, suc, ◌+◌, ◌-◌, ◌≤◌, ◌<◌}
use mathlib.Core.Path.{◌≡◌, refl, sym, ap, ◌∙◌}
use mathlib.Core.Bool.{Bool, true, false, not, ◌&&◌, ◌||◌}
use Rattle.std.specs.declared.option.Option.TheVariants.{Some}
use mathlib.Core.List.{List, [], ◌∷◌, ◌++◌}
use native.Mathlib.Omega.{arith}
use native.Mathlib.Numerals.{add-one}
use lib.ListN.{length, get_or, take, drop, drop_of_length-le}
use lib.Seq.{drop-cons, take-append_seam, drop-append_seam}
use lib.Dec.{eqb, ltb}
use borrow.Author.Tests.{ne_eqb, eqb-true, eqb-false, ltb-true, ltb-false, not-true}
use Rattle.lists.specs.Lists.{all, same_by}
use Rattle.lists.proofs.Bools.{and_parts, or_right, or_other, always}
use Rattle.lists.proofs.ListLaws.{all_nil, all_both, all_append_both, span_upto}
use Rattle.lists.proofs.PairLaws.{bytes_equal}
use Rattle.format.specs.Bytes.{Bytes, bytes, within, same, gap, cons_to, fields, blank}
use Rattle.format.specs.Rows.{digit, upper, lower, digits_of, Sym, sym_of, lettered, massed, symbol}
use Rattle.format.specs.Structure.{symbols, place_of, Isotope, isotope_of, letters, heavy, isotope, unknown, mass_ok}
use Rattle.format.specs.Writing.{digits, symbol_of, spelt_by, spelt, print_mass, print_sym}
use Rattle.format.proofs.ByteLaws.{within_is, upper_bounds, lower_bounds, upper_digit}
use Rattle.format.proofs.FieldLaws.{printed}
use Rattle.format.proofs.NumberLaws.{digits_of_back, digits_printed, printed_number}

-- A SYMBOL THAT CAN BE PRINTED: its letters are letters, and a mass stands behind a caret alone
pub record Printable (x : Sym) : Type 0 where
  pub letter : upper x.first ≡ true
  pub second : (eqb x.second 0 || lower x.second) ≡ true
  pub massed : (x.caret || eqb x.mass 0) ≡ true
  pub mass : x.mass < 1000

pub second_lower : (b : ℕ) → (eqb (suc b) 0 || lower (suc b)) ≡ true → lower (suc b) ≡ true
second_lower b e = or_other (eqb (suc b) 0) (lower (suc b)) e (ne_eqb (suc b) 0 (λ q. omega arith))

-- clauses
module _ (c : Bool) (m : ℕ) where
  pub lettered_one : (a : ℕ) → upper a ≡ true → lettered c m (a ∷ []) ≡ Some (sym_of c m a 0)
  unfolding lettered
  lettered_one a e = rw (e, lettered)

  pub lettered_two : (a b : ℕ) → upper a ≡ true → lower b ≡ true → lettered c m (a ∷ b ∷ []) ≡ Some (sym_of c m a b)
  unfolding lettered
  lettered_two a b e f = rw (e, f, lettered)

  pub lettered_back : (a b : ℕ) → upper a ≡ true → (eqb b 0 || lower b) ≡ true → lettered c m (letters (sym_of c m a b)) ≡ Some (sym_of c m a b)
  lettered_back a zero e f = lettered_one a e
  lettered_back a (suc b) e f = lettered_two a (suc b) e (second_lower b f)

pub symbol_plain : (b : ℕ) (w : Bytes) → eqb b 94 ≡ false → symbol (b ∷ w) ≡ lettered false 0 (b ∷ w)
unfolding symbol
symbol_plain b w e = rw (e, symbol)

pub symbol_caret : (w : Bytes) → symbol (94 ∷ w) ≡ massed w
unfolding symbol
symbol_caret w = refl

-- digits, then a letter
pub massed_at : (v : Bytes) (a : ℕ) (w : Bytes) (m : ℕ) → all digit v ≡ true → digit a ≡ false → digits_of 3 v ≡ Some m → massed (v ++ (a ∷ w)) ≡ lettered true m (a ∷ w)
unfolding massed
massed_at v a w m h e q = rw (span_upto digit v a w h e, take-append_seam v (a ∷ w), drop-append_seam v (a ∷ w), q)

symbol_parts : (c : Bool) (m a b : ℕ) → upper a ≡ true → (eqb b 0 || lower b) ≡ true → (c || eqb m 0) ≡ true → m < 1000 → symbol (print_mass c m ++ letters (sym_of c m a b)) ≡ Some (sym_of c m a b)
symbol_parts false m a b u l z h =
    let n : m ≡ 0 = eqb-true m 0 z in
    symbol_plain a _ (ne_eqb a 94 (λ e. omega (arith, (upper_bounds a u).1))) ∙ lettered_back false 0 a b u l ∙ ap (λ (k : ℕ). Some (sym_of false k a b)) (sym n)
symbol_parts true m a b u l z h =
    symbol_caret (digits m ++ letters (sym_of true m a b)) ∙ massed_at (digits m) a _ m (printed_number m).digits (upper_digit a u) (digits_of_back 2 m (omega arith) h) ∙ lettered_back true m a b u l

pub symbol_back : (x : Sym) → Printable x → symbol (print_sym x) ≡ Some x
unfolding print_sym
symbol_back x p = symbol_parts x.caret x.mass x.first x.second p.letter p.second p.massed p.mass

-- PRINTED: never empty, and of printed bytes
pub upper_printed : (b : ℕ) → upper b ≡ true → printed b ≡ true
upper_printed b e = within_is 37 126 b (omega (arith, (upper_bounds b e).0)) (omega (arith, (upper_bounds b e).1))

pub lower_printed : (b : ℕ) → lower b ≡ true → printed b ≡ true
lower_printed b e = within_is 37 126 b (omega (arith, (lower_bounds b e).0)) (omega (arith, (lower_bounds b e).1))

letters_printed : (c : Bool) (m a b : ℕ) → upper a ≡ true → (eqb b 0 || lower b) ≡ true → all printed (letters (sym_of c m a b)) ≡ true
letters_printed c m a zero e f = all_both printed a [] (upper_printed a e) (all_nil printed)
letters_printed c m a (suc b) e f = all_both printed a (suc b ∷ []) (upper_printed a e) (all_both printed (suc b) [] (lower_printed (suc b) (second_lower b f)) (all_nil printed))

mass_printed : (c : Bool) (m : ℕ) → all printed (print_mass c m) ≡ true
mass_printed true m = all_both printed 94 (digits m) (within_is 37 126 94 (omega arith) (omega arith)) (digits_printed m)
mass_printed false m = all_nil printed

pub symbol_printed : (x : Sym) → Printable x → all printed (print_sym x) ≡ true
unfolding print_sym
symbol_printed x p = all_append_both printed (print_mass x.caret x.mass) (letters x) (mass_printed x.caret x.mass) (letters_printed x.caret x.mass x.first x.second p.letter p.second)

pub symbol_some : (x : Sym) → 0 < length (print_sym x)
unfolding print_sym
symbol_some x = go x.caret
  where
    go : (c : Bool) → 0 < length (print_mass c x.mass ++ letters x)
    go true = omega arith
    go false = omega arith

-- THE PLACE OF A WORD among words, clause by clause and at an index
module _ (n : ℕ) (w x : Bytes) (xs : List Bytes) where
  pub place_hit : same w x ≡ true → place_of n w (x ∷ xs) ≡ n
  unfolding place_of
  place_hit e = rw (e, place_of)

  pub place_miss : same w x ≡ false → place_of n w (x ∷ xs) ≡ place_of (suc n) w xs
  unfolding place_of
  place_miss e = rw (e, place_of)

pub place_nil : (n : ℕ) (w : Bytes) → place_of n w [] ≡ 0
unfolding place_of
place_nil n w = refl

module _ (n : ℕ) (w : Bytes) (xs : List Bytes) (i : ℕ) where
  pub place_at_hit : i < length xs → same w (get_or xs i []) ≡ true → place_of n w (drop i xs) ≡ n
  place_at_hit h e = rw (drop-cons xs i [] h) (place_hit n w (get_or xs i []) (drop (suc i) xs) e)

  pub place_at_miss : i < length xs → same w (get_or xs i []) ≡ false → place_of n w (drop i xs) ≡ place_of (n + 1) w (drop (i + 1) xs)
  place_at_miss h e = rw (drop-cons xs i [] h, add-one i, add-one n) (place_miss n w (get_or xs i []) (drop (suc i) xs) e)

  pub place_at_end : length xs ≤ i → place_of n w (drop i xs) ≡ 0
  place_at_end h = ap (place_of n w) (drop_of_length-le xs h) ∙ place_nil n w

-- a place that is none is not below the count
place_low : (n : ℕ) (w : Bytes) (xs : List Bytes) → 0 < place_of n w xs → n ≤ place_of n w xs
place_low n w [] h = absurd (omega (arith, place_nil n w))
place_low n w (x ∷ xs) h = go (same w x) refl (place_low (suc n) w xs)
  where
    go : (t : Bool) → same w x ≡ t → (0 < place_of (suc n) w xs → suc n ≤ place_of (suc n) w xs) → n ≤ place_of n w (x ∷ xs)
    go true e ih = omega (arith, place_hit n w x xs e)
    go false e ih = let q : place_of n w (x ∷ xs) ≡ place_of (suc n) w xs = place_miss n w x xs e in let k : suc n ≤ place_of (suc n) w xs = ih (omega arith) in omega arith

-- of the first k words: the same place, if it is one of them
pub place_take : (n j k : ℕ) (w : Bytes) (xs : List Bytes) → 0 < n → j < k → place_of n w xs ≡ n + j → place_of n w (take k xs) ≡ n + j
place_take n j k w [] p h e = absurd (omega (arith, place_nil n w))
place_take n j zero w (x ∷ xs) p h e = absurd (omega arith)
place_take n j (suc k) w (x ∷ xs) p h e = go (same w x) refl j h e (λ i. place_take (suc n) i k w xs (omega arith))
  where
    go : (t : Bool) → same w x ≡ t → (j : ℕ) → j < suc k → place_of n w (x ∷ xs) ≡ n + j → ((i : ℕ) → i < k → place_of (suc n) w xs ≡ suc n + i → place_of (suc n) w (take k xs) ≡ suc n + i)
        → place_of n w (x ∷ take k xs) ≡ n + j
    go true f j h e ih = place_hit n w x (take k xs) f ∙ sym (place_hit n w x xs f) ∙ e
    go false f zero h e ih =
        let q : place_of n w (x ∷ xs) ≡ place_of (suc n) w xs = place_miss n w x xs f in
        let l : suc n ≤ place_of (suc n) w xs = place_low (suc n) w xs (omega arith) in
        absurd (omega arith)
    go false f (suc j) h e ih =
        let q : place_of n w (x ∷ xs) ≡ place_of (suc n) w xs = place_miss n w x xs f in
        let r : place_of (suc n) w (take k xs) ≡ suc n + j = ih j (omega arith) (omega arith) in
        place_miss n w x (take k xs) f ∙ r ∙ omega arith

-- A RULE OF THE LIST OF SYMBOLS, computed once over all of it, holds at each entry
abbrev holds_from : (ℕ → Bytes → Bool) → ℕ → List Bytes → Bool
holds_from f i [] = true
holds_from f i (x ∷ xs) = f i x && holds_from f (suc i) xs

holds_at : (f : ℕ → Bytes → Bool) (i : ℕ) (xs : List Bytes) → holds_from f i xs ≡ true → (j : ℕ) → j < length xs → f (i + j) (get_or xs j []) ≡ true
holds_at f i [] h j l = absurd (omega arith)
holds_at f i (x ∷ xs) h zero l = let n : i + 0 ≡ i = omega arith in ap (λ (m : ℕ). f m x) n ∙ (and_parts (f i x) (holds_from f (suc i) xs) h).0
holds_at f i (x ∷ xs) h (suc j) l =
    let n : i + suc j ≡ suc i + j = omega arith in
    ap (λ (m : ℕ). f m (get_or xs j [])) n ∙ holds_at f (suc i) xs (and_parts (f i x) (holds_from f (suc i) xs) h).1 j (omega arith)

-- a symbol stands at its own place, is one upper-case and at most one lower-case letter, and is neither D nor T
unfoldable lawful : ℕ → Bytes → Bool
lawful n w =
    eqb (place_of 1 w symbols) n && (same w (letters (sym_of false 0 (get_or w 0 0) (get_or w 1 0))) && (upper (get_or w 0 0) && ((eqb (get_or w 1 0) 0 || lower (get_or w 1 0)) && (not (same w (bytes "D")) && not (same w (bytes "T"))))))

symbols_lawful : holds_from lawful 1 symbols ≡ true
unfolding lawful symbols place_of bytes fields cons_to gap blank within same_by
symbols_lawful = refl

pub symbols_long : length symbols ≡ 103
unfolding symbols bytes fields cons_to gap blank
symbols_long = refl

pub record Element (e : ℕ) : Type 0 where
  pub place : place_of 1 (symbol_of e) symbols ≡ e
  pub letters : symbol_of e ≡ letters (sym_of false 0 (get_or (symbol_of e) 0 0) (get_or (symbol_of e) 1 0))
  pub first : upper (get_or (symbol_of e) 0 0) ≡ true
  pub second : (eqb (get_or (symbol_of e) 1 0) 0 || lower (get_or (symbol_of e) 1 0)) ≡ true
  pub deuterium : same (symbol_of e) (bytes "D") ≡ false
  pub tritium : same (symbol_of e) (bytes "T") ≡ false

lawful_parts : (e : ℕ) → lawful e (symbol_of e) ≡ true → Element e
unfolding lawful
lawful_parts e h =
    let w : Bytes = symbol_of e in
    let p = and_parts (eqb (place_of 1 w symbols) e) _ h in
    let q = and_parts (same w (letters (sym_of false 0 (get_or w 0 0) (get_or w 1 0)))) _ p.1 in
    let r = and_parts (upper (get_or w 0 0)) _ q.1 in
    let s = and_parts (eqb (get_or w 1 0) 0 || lower (get_or w 1 0)) _ r.1 in
    let t = and_parts (not (same w (bytes "D"))) (not (same w (bytes "T"))) s.1 in
    record {
      place = eqb-true (place_of 1 w symbols) e p.0;
      letters = bytes_equal w (letters (sym_of false 0 (get_or w 0 0) (get_or w 1 0))) q.0;
      first = r.0;
      second = s.0;
      deuterium = not-true (same w (bytes "D")) t.0;
      tritium = not-true (same w (bytes "T")) t.1;
    }

pub element : (e : ℕ) → 1 ≤ e → e ≤ 103 → Element e
element e h k =
    let n : 1 + (e - 1) ≡ e = omega arith in
    lawful_parts e (ap (λ (m : ℕ). lawful m (symbol_of e)) (sym n) ∙ holds_at lawful 1 symbols symbols_lawful (e - 1) (omega (arith, symbols_long)))

-- ISOTOPES
module _ (k : ℕ) (x : Sym) where
  pub isotope_deuterium : same (letters x) (bytes "D") ≡ true → isotope k x ≡ heavy x.caret 2
  unfolding isotope
  isotope_deuterium e = rw (e, isotope)

  pub isotope_tritium : same (letters x) (bytes "D") ≡ false → same (letters x) (bytes "T") ≡ true → isotope k x ≡ heavy x.caret 3
  unfolding isotope
  isotope_tritium e f = rw (e, f, isotope)

  pub isotope_other : same (letters x) (bytes "D") ≡ false → same (letters x) (bytes "T") ≡ false → isotope k x ≡ isotope_of (place_of 1 (letters x) (take k symbols)) x.mass
  unfolding isotope
  isotope_other e f = rw (e, f, isotope)

-- how isotope i is spelt: D, T, or by its element's letters
abbrev letters_of : (mass : ℕ) → Bytes → Sym
letters_of m w = sym_of (not (eqb m 0)) m (get_or w 0 0) (get_or w 1 0)

spelt_is : (i : Isotope) (d t : Bool) → (eqb i.element 1 && eqb i.mass 2) ≡ d → (eqb i.element 1 && eqb i.mass 3) ≡ t → spelt i ≡ spelt_by d t i.mass (symbol_of i.element)
unfolding spelt
spelt_is i d t e f = rw (e, f)

hydrogen : (i : Isotope) (m : ℕ) → (eqb i.element 1 && eqb i.mass m) ≡ true → isotope_of 1 m ≡ i
hydrogen i m e =
    let p : (eqb i.element 1 ≡ true) × (eqb i.mass m ≡ true) = and_parts (eqb i.element 1) (eqb i.mass m) e in
    ap (λ (n : ℕ). isotope_of n m) (sym (eqb-true i.element 1 p.0)) ∙ ap (λ (n : ℕ). isotope_of i.element n) (sym (eqb-true i.mass m p.1))

module _ (k : ℕ) (i : Isotope) (h : 1 ≤ i.element) (l : i.element ≤ k) (b : k ≤ 103) where
  own : Element i.element
  own = element i.element h (omega arith)

  other_back : isotope k (letters_of i.mass (symbol_of i.element)) ≡ i
  other_back =
      let w : Bytes = symbol_of i.element in
      let x : Sym = letters_of i.mass w in
      let q : w ≡ letters x = own.letters in
      let n : 1 + (i.element - 1) ≡ i.element = omega arith in
      let r : place_of 1 w (take k symbols) ≡ i.element = place_take 1 (i.element - 1) k w symbols (omega arith) (omega arith) (own.place ∙ sym n) ∙ n in
      isotope_other k x (ap (λ (v : Bytes). same v (bytes "D")) (sym q) ∙ own.deuterium) (ap (λ (v : Bytes). same v (bytes "T")) (sym q) ∙ own.tritium)
      ∙ ap (λ (v : Bytes). isotope_of (place_of 1 v (take k symbols)) i.mass) (sym q) ∙ ap (λ (n : ℕ). isotope_of n i.mass) r

  pub isotope_back : isotope k (spelt i) ≡ i
  unfolding bytes same_by
  isotope_back = go (eqb i.element 1 && eqb i.mass 2) (eqb i.element 1 && eqb i.mass 3) refl refl
    where
      go : (d t : Bool) → (eqb i.element 1 && eqb i.mass 2) ≡ d → (eqb i.element 1 && eqb i.mass 3) ≡ t → isotope k (spelt i) ≡ i
      go true t e f = ap (isotope k) (spelt_is i true t e f) ∙ isotope_deuterium k (sym_of false 0 68 0) refl ∙ hydrogen i 2 e
      go false true e f = ap (isotope k) (spelt_is i false true e f) ∙ isotope_tritium k (sym_of false 0 84 0) refl refl ∙ hydrogen i 3 f
      go false false e f = ap (isotope k) (spelt_is i false false e f) ∙ other_back

  pub known_back : unknown k (spelt i) ≡ false
  unfolding unknown
  known_back = ap (λ (j : Isotope). eqb j.element 0) isotope_back ∙ ne_eqb i.element 0 (λ e. omega arith)

-- a spelt isotope can be printed, and its mass is fine
module _ (i : Isotope) (h : 1 ≤ i.element) (l : i.element ≤ 103) where
  other_printable : i.mass < 1000 → Printable (letters_of i.mass (symbol_of i.element))
  other_printable b = record { letter = (element i.element h l).first; second = (element i.element h l).second; massed = either (eqb i.mass 0); mass = b }
    where
      either : (t : Bool) → (not t || t) ≡ true
      either true = refl
      either false = refl

  pub spelt_printable : i.mass < 1000 → Printable (spelt i)
  unfolding within
  spelt_printable b = go (eqb i.element 1 && eqb i.mass 2) (eqb i.element 1 && eqb i.mass 3) refl refl
    where
      go : (d t : Bool) → (eqb i.element 1 && eqb i.mass 2) ≡ d → (eqb i.element 1 && eqb i.mass 3) ≡ t → Printable (spelt i)
      go true t e f = rw (spelt_is i true t e f) (record { letter = refl; second = refl; massed = refl; mass = omega arith })
      go false true e f = rw (spelt_is i false true e f) (record { letter = refl; second = refl; massed = refl; mass = omega arith })
      go false false e f = rw (spelt_is i false false e f) (other_printable b)

  pub spelt_mass : i.mass ≤ 300 → mass_ok (spelt i) ≡ true
  unfolding mass_ok
  spelt_mass b = go (eqb i.element 1 && eqb i.mass 2) (eqb i.element 1 && eqb i.mass 3) refl refl
    where
      bare : (t : Bool) → eqb i.mass 0 ≡ t → (not (not (eqb i.mass 0)) || within 1 300 i.mass) ≡ true
      bare true e = rw e
      bare false e = or_right (not (not (eqb i.mass 0))) _ (within_is 1 300 i.mass (ltb-true 0 i.mass (always (ltb 0 i.mass) (λ f. eqb-false i.mass 0 e (omega (arith, ltb-false 0 i.mass f))))) b)

      go : (d t : Bool) → (eqb i.element 1 && eqb i.mass 2) ≡ d → (eqb i.element 1 && eqb i.mass 3) ≡ t → mass_ok (spelt i) ≡ true
      go true t e f = rw (spelt_is i true t e f)
      go false true e f = rw (spelt_is i false true e f)
      go false false e f = rw (spelt_is i false false e f) (bare (eqb i.mass 0) refl)
