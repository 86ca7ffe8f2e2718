-- What a taken line says of an element, a mass and a count is in its range: a symbol without `^` has no mass, an element is one of those known. Document 01,
-- "Rows", ATOMLIST and MOLFORM. Assumes nothing.
use Prim.Native.Nat.{ℕ, zero, suc, ◌+◌, ◌-◌, ◌*◌, ◌≤◌, ◌<◌}
use mathlib.Core.Path.{◌≡◌, refl, sym, ap, ◌∙◌}
use mathlib.Core.Bool.{Bool, true, false, ◌&&◌, ◌||◌, not}
use mathlib.Core.Logic.{◌⊎◌, inl, inr}
use Rattle.std.specs.declared.option.Option.{Option}
use Rattle.std.specs.declared.option.Option.TheVariants.{None, Some}
use mathlib.Core.List.{List, [], ◌∷◌, ◌++◌, map}
use native.Mathlib.Omega.{arith}
use lib.ListN.{length, take, drop, length-take}
use lib.Dec.{eqb, ltb, leb}
use borrow.Author.Tests.{eqb-true, eqb-false, le-leb, leb-false, not-false}
use Rattle.lists.specs.Lists.{all, any, span}
use Rattle.lists.proofs.Bools.{and_parts, and_both}
use Rattle.lists.proofs.ListLaws.{all_nil, all_parts, all_both, all_append_both, any_parts}
use Rattle.format.specs.Bytes.{Bytes, bytes, within, same, gap}
use Rattle.format.specs.Rows.{Sym, sym_of, AtomRow, ◌and_then◌, digit, upper, lower, number, digits_of, field, optional, lettered, massed, symbol, atom_shape}
use Rattle.format.specs.Structure.{Isotope, letters, symbols, place_of, heavy, isotope, unknown, mass_ok, Atom, atom_ok, entry}
use Rattle.format.specs.Formula.{Counted, counted, FState, dead, between, at_caret, in_mass, at_one, at_two, at_slash, in_count, Move, still, tells, part, leave, count_or, more, fstep, finish, join, frun, formula_shape}
use Rattle.format.proofs.ByteLaws.{within_true, within_is}
use Rattle.format.proofs.SymbolLaws.{place_hit, place_miss, place_nil, isotope_deuterium, isotope_tritium, isotope_other}
use Rattle.sorted.specs.Steps.{After, kept, if◌breaks◌else◌, atom_after, atom_step}
use Rattle.sorted.proofs.ShapeLaws.{none_some, some_same, through}
use Rattle.sorted.proofs.FitLaws.{kept_same, refused_kept, breaks_kept}
use Rattle.gather.specs.Progress.{entry_fine}

-- A SYMBOL WITHOUT `^` HAS NO MASS
abbrev pub plain : Sym → Bool
plain x = x.caret || eqb x.mass 0

picked_plain : (t : Bool) (y x : Sym) → plain y ≡ true → elim t [ true ↦ Some y | false ↦ None ] ≡ Some x → plain x ≡ true
picked_plain true y x h e = ap (λ (z : Sym). z.caret || eqb z.mass 0) (sym (some_same y x e)) ∙ h
picked_plain false y x h e = none_some x e

lettered_plain : (c : Bool) (m : ℕ) (w : Bytes) (x : Sym) → (c || eqb m 0) ≡ true → lettered c m w ≡ Some x → plain x ≡ true
unfolding lettered
lettered_plain c m [] x h e = none_some x e
lettered_plain c m (a ∷ []) x h e = picked_plain (upper a) (sym_of c m a 0) x h e
lettered_plain c m (a ∷ b ∷ []) x h e = picked_plain (upper a && lower b) (sym_of c m a b) x h e
lettered_plain c m (a ∷ b ∷ d ∷ w) x h e = none_some x e

massed_plain : (w : Bytes) (x : Sym) → massed w ≡ Some x → plain x ≡ true
unfolding massed
massed_plain w x e =
    let f = through (digits_of 3 (take (span digit w) w)) (λ m. lettered true m (drop (span digit w) w)) x e in
    lettered_plain true f.mid (drop (span digit w) w) x refl f.on

pub symbol_plain : (w : Bytes) (x : Sym) → symbol w ≡ Some x → plain x ≡ true
unfolding symbol
symbol_plain [] x e = none_some x e
symbol_plain (b ∷ w) x e = go (eqb b 94) e
  where
    go : (t : Bool) → elim t [ true ↦ massed w | false ↦ lettered false 0 (b ∷ w) ] ≡ Some x → plain x ≡ true
    go true e = massed_plain w x e
    go false e = lettered_plain false 0 (b ∷ w) x refl e

-- THE ELEMENT AND THE MASS
place_high : (n : ℕ) (w : Bytes) (xs : List Bytes) → place_of (suc n) w xs ≤ n + length xs
place_high n w [] = omega (arith, place_nil (suc n) w)
place_high n w (x ∷ xs) = go (same w x) refl (place_high (suc n) w xs)
  where
    go : (t : Bool) → same w x ≡ t → place_of (suc (suc n)) w xs ≤ suc n + length xs → place_of (suc n) w (x ∷ xs) ≤ n + length (x ∷ xs)
    go true e ih = omega (arith, place_hit (suc n) w x xs e)
    go false e ih = omega (arith, place_miss (suc n) w x xs e)

mass_low : (c : Bool) (m : ℕ) → (c || eqb m 0) ≡ true → (not c || within 1 300 m) ≡ true → m ≤ 300
mass_low true m p h = (within_true 1 300 m h).1
mass_low false m p h = let q : m ≡ 0 = eqb-true m 0 p in omega arith

pub record InRange (k : ℕ) (i : Isotope) : Type 0 where
  pub element : i.element ≤ k
  pub mass : i.mass ≤ 300

heavy_low : (k : ℕ) (c : Bool) (m : ℕ) → 1 ≤ k → m ≤ 300 → InRange k (heavy c m)
heavy_low k true m h l = record { element = omega arith; mass = omega arith }
heavy_low k false m h l = record { element = h; mass = l }

module _ (k : ℕ) (x : Sym) (h : 1 ≤ k) (p : plain x ≡ true) (m : mass_ok x ≡ true) where
  isotope_low : InRange k (isotope k x)
  unfolding mass_ok
  isotope_low = go (same (letters x) (bytes "D")) (same (letters x) (bytes "T")) refl refl
    where
      go : (a b : Bool) → same (letters x) (bytes "D") ≡ a → same (letters x) (bytes "T") ≡ b → InRange k (isotope k x)
      go true b d t = rw (isotope_deuterium k x d) (heavy_low k x.caret 2 h (omega arith))
      go false true d t = rw (isotope_tritium k x d t) (heavy_low k x.caret 3 h (omega arith))
      go false false d t =
          rw (isotope_other k x d t) (record { element = omega (arith, place_high 0 (letters x) (take k symbols), length-take k symbols); mass = mass_low x.caret x.mass p m })

  pub kind_fine : unknown k x ≡ false → (within 1 k (isotope k x).element ≡ true) × (leb (isotope k x).mass 300 ≡ true)
  unfolding unknown
  kind_fine u =
      let r = isotope_low in
      let n : (isotope k x).element ≡ 0 → ⊥ = eqb-false (isotope k x).element 0 u in
      (within_is 1 k (isotope k x).element (positive (isotope k x).element n) r.element, le-leb (isotope k x).mass 300 r.mass)
    where
      positive : (e : ℕ) → (e ≡ 0 → ⊥) → 1 ≤ e
      positive zero n = absurd (n refl)
      positive (suc e) n = omega arith

-- AN ATOM'S LINE THAT IS KEPT adds one atom, or none
pub record AtomAdded (k : ℕ) (listed next : List Atom) : Type 0 where
  pub new : Atom
  pub is : next ≡ listed ++ (new ∷ [])
  pub fine : atom_ok k new ≡ true
  pub room : length listed < 256

shape_plain : (fs : List Bytes) (r : AtomRow) → atom_shape fs ≡ Some r → plain r.symbol ≡ true
unfolding atom_shape
shape_plain fs r e =
    let a = through (number (field 0 fs)) (λ n. symbol (field 1 fs) and_then λ x. optional number (drop 2 fs) and_then λ h. Some (record { number = n; symbol = x; hydrogens = h })) r e in
    let b = through (symbol (field 1 fs)) (λ x. optional number (drop 2 fs) and_then λ h. Some (record { number = a.mid; symbol = x; hydrogens = h })) r a.on in
    let c = through (optional number (drop 2 fs)) (λ h. Some (record { number = a.mid; symbol = b.mid; hydrogens = h })) r b.on in
    ap (λ (z : AtomRow). z.symbol.caret || eqb z.symbol.mass 0) (sym (some_same (record { number = a.mid; symbol = b.mid; hydrogens = c.mid }) r c.on)) ∙ symbol_plain (field 1 fs) b.mid b.is

module _ (k : ℕ) (h : 1 ≤ k) (listed next : List Atom) where
  atom_taken : (r : AtomRow) → plain r.symbol ≡ true → atom_after k listed (Some r) ≡ kept next → AtomAdded k listed next
  unfolding atom_after atom_ok
  atom_taken r p e =
      let x : Sym = r.symbol in
      let new : Atom = record { kind = isotope k x; hydrogens = r.hydrogens } in
      let n : After Atom = kept (listed ++ (new ∷ [])) in
      let a = breaks_kept (not (mass_ok x && leb r.hydrogens 15)) 10 (if not (eqb r.number (suc (length listed))) breaks 11 else if unknown k x breaks 12 else if leb 256 (length listed) breaks 14 else n) next e in
      let b = breaks_kept (not (eqb r.number (suc (length listed)))) 11 (if unknown k x breaks 12 else if leb 256 (length listed) breaks 14 else n) next a.1 in
      let c = breaks_kept (unknown k x) 12 (if leb 256 (length listed) breaks 14 else n) next b.1 in
      let d = breaks_kept (leb 256 (length listed)) 14 n next c.1 in
      let m = and_parts (mass_ok x) (leb r.hydrogens 15) (not-false (mass_ok x && leb r.hydrogens 15) a.0) in
      let f = kind_fine k x h p m.0 c.0 in
      record {
        new = new;
        is = sym (kept_same (listed ++ (new ∷ [])) next d.1);
        fine = and_both (within 1 k (isotope k x).element) (leb (isotope k x).mass 300 && leb r.hydrogens 15) f.0 (and_both (leb (isotope k x).mass 300) (leb r.hydrogens 15) f.1 m.1);
        room = leb-false 256 (length listed) d.0;
      }

  pub atom_kept : (fs : List Bytes) → atom_step k listed fs ≡ kept next → (next ≡ listed) ⊎ AtomAdded k listed next
  unfolding atom_step atom_after
  atom_kept [] e = inl (sym (kept_same listed next e))
  atom_kept (f ∷ fs) e = go (atom_shape (f ∷ fs)) refl e
    where
      go : (o : Option AtomRow) → atom_shape (f ∷ fs) ≡ o → atom_after k listed o ≡ kept next → (next ≡ listed) ⊎ AtomAdded k listed next
      go None p q = refused_kept 9 next q
      go (Some r) p q = inr (atom_taken r (shape_plain (f ∷ fs) r p) q)

-- A FORMULA'S SYMBOLS
abbrev plain_one : Counted → Bool
plain_one c = plain c.symbol

abbrev plain_state : FState → Bool
plain_state dead = true
plain_state (between begun) = true
plain_state at_caret = true
plain_state (in_mass n v) = true
plain_state (at_one c m a) = c || eqb m 0
plain_state (at_two x) = plain x
plain_state (at_slash x) = plain x
plain_state (in_count x n v) = plain x

abbrev PlainMove : Move → Type 0
PlainMove m = (all plain_one m.told ≡ true) × (plain_state m.state ≡ true)

chosen : (t : Bool) (m n : Move) → PlainMove m → PlainMove n → PlainMove (elim t [ true ↦ m | false ↦ n ])
chosen true m n p q = p
chosen false m n p q = q

stays : (q : FState) → plain_state q ≡ true → PlainMove (still q)
stays q h = (all_nil plain_one, h)

says : (e : Counted) (q : FState) → plain e.symbol ≡ true → plain_state q ≡ true → PlainMove (tells e q)
says e q p h = (all_both plain_one e [] p (all_nil plain_one), h)

part_plain : (e : Counted) (b : ℕ) → plain e.symbol ≡ true → PlainMove (part e b)
unfolding part
part_plain e b p = chosen (gap b) _ _ (says e (between true) p refl) (chosen (eqb b 42) _ _ (says e (between false) p refl) (stays dead refl))

leave_plain : (e : Counted) (b : ℕ) → plain e.symbol ≡ true → PlainMove (leave e b)
unfolding leave
leave_plain e b p = chosen (upper b) _ _ (says e (at_one false 0 b) p refl) (part_plain e b p)

count_plain : (x : Sym) (b : ℕ) (other : Move) → plain x ≡ true → PlainMove other → PlainMove (count_or x b other)
unfolding count_or
count_plain x b other p o = chosen (digit b) _ _ (stays (in_count x 1 (b - 48)) p) (chosen (eqb b 47) _ _ (stays (at_slash x) p) o)

more_plain : (t : Bool) (q : FState) → plain_state q ≡ true → PlainMove (more t q)
more_plain true q h = stays q h
more_plain false q h = stays dead refl

step_plain : (q : FState) (b : ℕ) → plain_state q ≡ true → PlainMove (fstep q b)
unfolding fstep
step_plain dead b h = stays dead refl
step_plain (between begun) b h =
    chosen (upper b) _ _ (stays (at_one false 0 b) refl)
    (chosen (eqb b 94) _ _ (stays at_caret refl) (chosen (gap b) _ _ (stays (between begun) refl) (chosen (eqb b 42 && begun) _ _ (stays (between false) refl) (stays dead refl))))
step_plain at_caret b h = chosen (digit b) _ _ (stays (in_mass 1 (b - 48)) refl) (stays dead refl)
step_plain (in_mass n v) b h =
    chosen (digit b) _ _ (more_plain (ltb n 3) (in_mass (suc n) (v * 10 + (b - 48))) refl) (chosen (upper b) _ _ (stays (at_one true v b) refl) (stays dead refl))
step_plain (at_one c m a) b h =
    chosen (lower b) _ _ (stays (at_two (sym_of c m a b)) h) (count_plain (sym_of c m a 0) b (part (counted (sym_of c m a 0) 1) b) h (part_plain (counted (sym_of c m a 0) 1) b h))
step_plain (at_two x) b h = count_plain x b (leave (counted x 1) b) h (leave_plain (counted x 1) b h)
step_plain (at_slash x) b h = chosen (digit b) _ _ (stays (in_count x 1 (b - 48)) h) (stays dead refl)
step_plain (in_count x n v) b h = chosen (digit b) _ _ (more_plain (ltb n 6) (in_count x (suc n) (v * 10 + (b - 48))) h) (leave_plain (counted x v) b h)

finish_plain : (q : FState) (cs : List Counted) → plain_state q ≡ true → finish q ≡ Some cs → all plain_one cs ≡ true
finish_plain dead cs h e = none_some cs e
finish_plain (between true) cs h e = ap (all plain_one) (sym (some_same [] cs e)) ∙ all_nil plain_one
finish_plain (between false) cs h e = none_some cs e
finish_plain at_caret cs h e = none_some cs e
finish_plain (in_mass n v) cs h e = none_some cs e
finish_plain (at_one c m a) cs h e = ap (all plain_one) (sym (some_same (counted (sym_of c m a 0) 1 ∷ []) cs e)) ∙ all_both plain_one (counted (sym_of c m a 0) 1) [] h (all_nil plain_one)
finish_plain (at_two x) cs h e = ap (all plain_one) (sym (some_same (counted x 1 ∷ []) cs e)) ∙ all_both plain_one (counted x 1) [] h (all_nil plain_one)
finish_plain (at_slash x) cs h e = none_some cs e
finish_plain (in_count x n v) cs h e = ap (all plain_one) (sym (some_same (counted x v ∷ []) cs e)) ∙ all_both plain_one (counted x v) [] h (all_nil plain_one)

join_plain : (es : List Counted) (o : Option (List Counted)) (cs : List Counted) → join es o ≡ Some cs → all plain_one es ≡ true → ((fs : List Counted) → o ≡ Some fs → all plain_one fs ≡ true) → all plain_one cs ≡ true
join_plain es None cs e h f = none_some cs e
join_plain es (Some fs) cs e h f = ap (all plain_one) (sym (some_same (es ++ fs) cs e)) ∙ all_append_both plain_one es fs h (f fs refl)

run_plain : (q : FState) (s : Bytes) (cs : List Counted) → plain_state q ≡ true → frun q s ≡ Some cs → all plain_one cs ≡ true
unfolding frun
run_plain q [] cs h e = finish_plain q cs h e
run_plain q (b ∷ s) cs h e =
    let m = step_plain q b h in
    join_plain (fstep q b).told (frun (fstep q b).state s) cs e m.0 (λ fs f. run_plain (fstep q b).state s fs m.1 f)

abbrev pub counted_in : Counted → Bool
counted_in c = mass_ok c.symbol && within 1 9999 c.count

entries_fine : (k : ℕ) → 1 ≤ k → (cs : List Counted) → all plain_one cs ≡ true → all counted_in cs ≡ true → any (λ c. unknown k c.symbol) cs ≡ false
    → all (entry_fine k) (map (λ c. entry (isotope k c.symbol) c.count) cs) ≡ true
entries_fine k h [] p m u = all_nil (entry_fine k)
entries_fine k h (c ∷ cs) p m u =
    let p' = all_parts plain_one c cs p in
    let m' = all_parts counted_in c cs m in
    let u' = any_parts (λ c. unknown k c.symbol) c cs u in
    let n = and_parts (mass_ok c.symbol) (within 1 9999 c.count) m'.0 in
    let f = kind_fine k c.symbol h p'.0 n.0 u'.0 in
    all_both (entry_fine k) (entry (isotope k c.symbol) c.count) (map (λ c. entry (isotope k c.symbol) c.count) cs)
    (and_both (within 1 k (isotope k c.symbol).element) (leb (isotope k c.symbol).mass 300 && within 1 9999 c.count) f.0
    (and_both (leb (isotope k c.symbol).mass 300) (within 1 9999 c.count) f.1 n.1)) (entries_fine k h cs p'.1 m'.1 u'.1)

pub formula_fine_lem : (k : ℕ) → 1 ≤ k → (v : Bytes) (cs : List Counted) → formula_shape v ≡ Some cs → all counted_in cs ≡ true → any (λ c. unknown k c.symbol) cs ≡ false
    → all (entry_fine k) (map (λ c. entry (isotope k c.symbol) c.count) cs) ≡ true
unfolding formula_shape
formula_fine_lem k h v cs e m u = entries_fine k h cs (run_plain (between false) v cs refl e) m u
