-- What the shape of a row tells: a row of a list has as many atoms as its list and a group that its list takes, a symbol without `^` has no mass; and a symbol
-- that is known is one of the elements. Document 01, "Rows": "optional group `0`, A to Z or a to z (absent means 0)", "mass 1 to 300". Assumes nothing.
use Prim.Native.Nat.{ℕ, zero, suc, ◌+◌, ◌≤◌}
use Prim.Native.String.{String}
use mathlib.Core.Path.{◌≡◌, refl, sym, ap, ◌∙◌}
use mathlib.Core.Bool.{Bool, true, false, not, ◌&&◌, ◌||◌}
use Rattle.std.specs.declared.option.Option.{Option}
use Rattle.std.specs.declared.option.Option.TheVariants.{None, Some}
use mathlib.Core.List.{List, [], ◌∷◌}
use native.Mathlib.Omega.{arith}
use lib.ListN.{length, take, drop, length-take}
use lib.IntN.{ℤ, pos}
use lib.Dec.{eqb, leb}
use borrow.Author.Tests.{eq-eqb, eqb-false, le-leb, not-true}
use Rattle.lists.proofs.Bools.{torn, and_parts, and_both, or_left, or_right}
use Rattle.format.specs.Bytes.{Bytes, bytes, within, same}
use Rattle.format.specs.Labels.{ListOf, Bonds, Charges, Radicals, Centres, Pairs}
use Rattle.format.specs.Rows.{Sym, sym_of, Row, row, AtomRow, ◌and_then◌, number, numbers, first_numbers, field, optional, nothing_more, upper, lower, group, place_in, marked, spread, signed, natural, row_shape, digits_of, lettered, massed, symbol, atom_shape}
use Rattle.format.specs.Structure.{symbols, place_of, Isotope, isotope_of, letters, heavy, isotope, unknown, mass_ok, arity, group_ok, atom_ok}
use Rattle.format.proofs.ByteLaws.{within_true, within_is}
use Rattle.format.proofs.SymbolLaws.{place_hit, place_miss, place_nil, isotope_deuterium, isotope_tritium, isotope_other}
use Rattle.demands.specs.Accepted.{atom_fine, atom_of}

-- NOTHING OR SOMETHING
pub none_some : {A B : Type 0} (a : A) → None ≡ Some a → B
none_some a e = let z : ◌≡◌ {A = ℕ} 0 1 = cc in absurd (omega arith)

pub some_same : {A : Type 0} (a b : A) → Some a ≡ Some b → a ≡ b
some_same a b e = cc

-- something that a test lets through
tested_same : {A : Type 0} (t : Bool) (a b : A) → elim t as (λ (u : Bool). Option A) [ true ↦ Some a | false ↦ None ] ≡ Some b → a ≡ b
tested_same true a b e = some_same a b e
tested_same false a b e = none_some b e

-- A ROW OF ATOMS AND A LETTER: as many atoms as are asked for, and what its last field says
first_length : (n : ℕ) (fs : List Bytes) (ns : List ℕ) → first_numbers n fs ≡ Some ns → length ns ≡ n
unfolding first_numbers
first_length zero fs ns e = ap length (sym (some_same [] ns e))
first_length (suc n) fs ns e = by (number (field 0 fs)) (first_numbers n (drop 1 fs)) (first_length n (drop 1 fs)) e
  where
    by : (a : Option ℕ) (b : Option (List ℕ)) → ((ms : List ℕ) → b ≡ Some ms → length ms ≡ n) → (a and_then λ x. b and_then λ ms. Some (x ∷ ms)) ≡ Some ns → length ns ≡ suc n
    by None b ih h = none_some ns h
    by (Some x) None ih h = none_some ns h
    by (Some x) (Some ms) ih h = ap length (sym (some_same (x ∷ ms) ns h)) ∙ ap suc (ih ms refl)

record Marked (n : ℕ) (last : Bytes → Option ℕ) (fs : List Bytes) (r : Row) : Type 0 where
  many : length r.atoms ≡ n
  ends : optional last (drop (suc n) fs) ≡ Some r.group

marked_parts : (n from : ℕ) (letters : String) (last : Bytes → Option ℕ) (fs : List Bytes) (r : Row) → marked n from letters last fs ≡ Some r → Marked n last fs r
unfolding marked
marked_parts n from letters last fs r e = by (first_numbers n fs) (place_in from (field n fs) (bytes letters)) (optional last (drop (suc n) fs)) refl refl e
  where
    by : (a : Option (List ℕ)) (b c : Option ℕ) → first_numbers n fs ≡ a → optional last (drop (suc n) fs) ≡ c → (a and_then λ ns. b and_then λ v. c and_then λ g. Some (row ns (pos v) g)) ≡ Some r → Marked n last fs r
    by None b c p q h = none_some r h
    by (Some ns) None c p q h = none_some r h
    by (Some ns) (Some v) None p q h = none_some r h
    by (Some ns) (Some v) (Some g) p q h =
        let t : row ns (pos v) g ≡ r = some_same (row ns (pos v) g) r h in
        record { many = ap (λ (x : Row). length x.atoms) (sym t) ∙ first_length n fs ns p; ends = q ∙ ap (λ (x : Row). Some x.group) t }

-- A ROW OF A VALUE AND ATOMS has no group
spread_group : (value : Bytes → Option ℤ) (fs : List Bytes) (r : Row) → spread value fs ≡ Some r → r.group ≡ 0
unfolding spread
spread_group value fs r e = by (value (field 0 fs)) (numbers (drop 1 fs)) e
  where
    by : (a : Option ℤ) (b : Option (List ℕ)) → (a and_then λ v. b and_then λ ns. Some (row ns v 0)) ≡ Some r → r.group ≡ 0
    by None b h = none_some r h
    by (Some v) None h = none_some r h
    by (Some v) (Some ns) h = ap (λ (x : Row). x.group) (sym (some_same (row ns v 0) r h))

-- GROUPS: the lists that have none, and those that have one
none_more : (fs : List Bytes) (g : ℕ) → optional nothing_more fs ≡ Some g → g ≡ 0
none_more [] g e = sym (some_same 0 g e)
none_more (f ∷ []) g e = none_some g e
none_more (f ∷ h ∷ fs) g e = none_some g e

abbrev lettering : ℕ → Bool
lettering g = eqb g 0 || (upper g || lower g)

zero_fine : (g : ℕ) (other : Bool) → g ≡ 0 → (eqb g 0 || other) ≡ true
zero_fine g other e = or_left (eqb g 0) other (eq-eqb g 0 e)

group_byte : (b g : ℕ) → group (b ∷ []) ≡ Some g → lettering g ≡ true
unfolding group
group_byte b g e = by (eqb b 48) (upper b || lower b) refl e
  where
    by : (t u : Bool) → (upper b || lower b) ≡ u → elim t as (λ (x : Bool). Option ℕ) [ true ↦ Some 0 | false ↦ elim u as (λ (x : Bool). Option ℕ) [ true ↦ Some b | false ↦ None ] ] ≡ Some g → lettering g ≡ true
    by true u q h = zero_fine g (upper g || lower g) (sym (some_same 0 g h))
    by false true q h = or_right (eqb g 0) (upper g || lower g) (ap (λ (c : ℕ). upper c || lower c) (sym (some_same b g h)) ∙ q)
    by false false q h = none_some g h

one_group : (fs : List Bytes) (g : ℕ) → optional group fs ≡ Some g → lettering g ≡ true
unfolding group
one_group [] g e = zero_fine g (upper g || lower g) (sym (some_same 0 g e))
one_group ([] ∷ []) g e = none_some g e
one_group ((b ∷ []) ∷ []) g e = group_byte b g e
one_group ((b ∷ c ∷ w) ∷ []) g e = none_some g e
one_group (f ∷ h ∷ fs) g e = none_some g e

-- A ROW OF EACH LIST
pub record Shaped (l : ListOf) (r : Row) : Type 0 where
  pub grouped : group_ok l r.group ≡ true
  pub many : (eqb (arity l) 0 || eqb (length r.atoms) (arity l)) ≡ true

pub row_shaped : (l : ListOf) (fs : List Bytes) (r : Row) → row_shape l fs ≡ Some r → Shaped l r
unfolding row_shape group_ok arity
row_shaped Bonds fs r e =
    let m : Marked 2 nothing_more fs r = marked_parts 2 1 "SDTQA" nothing_more fs r e in
    record { grouped = zero_fine r.group false (none_more (drop 3 fs) r.group m.ends); many = eq-eqb (length r.atoms) 2 m.many }
row_shaped Charges fs r e = record { grouped = zero_fine r.group false (spread_group signed fs r e); many = refl }
row_shaped Radicals fs r e = record { grouped = zero_fine r.group false (spread_group natural fs r e); many = refl }
row_shaped Centres fs r e =
    let m : Marked 1 group fs r = marked_parts 1 1 "PM" group fs r e in
    record { grouped = one_group (drop 2 fs) r.group m.ends; many = eq-eqb (length r.atoms) 1 m.many }
row_shaped Pairs fs r e =
    let m : Marked 2 group fs r = marked_parts 2 0 "0PM" group fs r e in
    record { grouped = one_group (drop 3 fs) r.group m.ends; many = eq-eqb (length r.atoms) 2 m.many }

-- SYMBOLS: without `^` no mass
abbrev Massless : Sym → Type 0
Massless x = x.caret ≡ false → x.mass ≡ 0

lettered_mass : (c : Bool) (m : ℕ) (w : Bytes) (x : Sym) → lettered c m w ≡ Some x → (c ≡ x.caret) × (m ≡ x.mass)
unfolding lettered
lettered_mass c m [] x e = none_some x e
lettered_mass c m (a ∷ []) x e = let q : sym_of c m a 0 ≡ x = tested_same (upper a) (sym_of c m a 0) x e in (ap (λ (y : Sym). y.caret) q, ap (λ (y : Sym). y.mass) q)
lettered_mass c m (a ∷ b ∷ []) x e = let q : sym_of c m a b ≡ x = tested_same (upper a && lower b) (sym_of c m a b) x e in (ap (λ (y : Sym). y.caret) q, ap (λ (y : Sym). y.mass) q)
lettered_mass c m (a ∷ b ∷ d ∷ w) x e = none_some x e

massed_caret : (o : Option ℕ) (w : Bytes) (x : Sym) → (o and_then λ m. lettered true m w) ≡ Some x → Massless x
massed_caret None w x e = none_some x e
massed_caret (Some m) w x e = λ f. torn x.caret (sym (lettered_mass true m w x e).0) f

symbol_mass : (w : Bytes) (x : Sym) → symbol w ≡ Some x → Massless x
unfolding symbol massed
symbol_mass [] x e = none_some x e
symbol_mass (b ∷ w) x e = by (eqb b 94) e
  where
    by : (t : Bool) → elim t as (λ (u : Bool). Option Sym) [ true ↦ massed w | false ↦ lettered false 0 (b ∷ w) ] ≡ Some x → Massless x
    by true h = massed_caret (digits_of 3 _) _ x h
    by false h = λ f. sym (lettered_mass false 0 (b ∷ w) x h).1

pub atom_massless : (fs : List Bytes) (r : AtomRow) → atom_shape fs ≡ Some r → r.symbol.caret ≡ false → r.symbol.mass ≡ 0
unfolding atom_shape
atom_massless fs r e = by (number (field 0 fs)) (symbol (field 1 fs)) (optional number (drop 2 fs)) refl e
  where
    by : (a : Option ℕ) (b : Option Sym) (c : Option ℕ) → symbol (field 1 fs) ≡ b → (a and_then λ n. b and_then λ x. c and_then λ h. Some (record { number = n; symbol = x; hydrogens = h })) ≡ Some r → Massless r.symbol
    by None b c p q = none_some r q
    by (Some n) None c p q = none_some r q
    by (Some n) (Some x) None p q = none_some r q
    by (Some n) (Some x) (Some h) p q =
        let t : record { number = n; symbol = x; hydrogens = h } ≡ r = some_same _ r q in
        symbol_mass (field 1 fs) r.symbol (p ∙ ap (λ (y : AtomRow). Some y.symbol) t)

mass_low : (x : Sym) → mass_ok x ≡ true → Massless x → x.mass ≤ 300
unfolding mass_ok
mass_low x h f = by x.caret refl h
  where
    by : (c : Bool) → x.caret ≡ c → (not c || within 1 300 x.mass) ≡ true → x.mass ≤ 300
    by true e q = (within_true 1 300 x.mass q).1
    by false e q = omega (arith, f e)

-- A KNOWN SYMBOL is one of the k elements, or D or T, which are the first
place_high : (n : ℕ) (w : Bytes) (xs : List Bytes) → place_of (suc n) w xs ≤ n + length xs
place_high n w [] = omega (arith, place_nil (suc n) w)
place_high n w (x ∷ xs) = by (same w x) refl (place_high (suc n) w xs)
  where
    by : (t : Bool) → same w x ≡ t → place_of (suc (suc n)) w xs ≤ suc n + length xs → place_of (suc n) w (x ∷ xs) ≤ n + length (x ∷ xs)
    by true e ih = omega (arith, place_hit (suc n) w x xs e)
    by false e ih = omega (arith, place_miss (suc n) w x xs e)

module _ (k : ℕ) (one : 1 ≤ k) where
  abbrev Known : Isotope → Type 0
  Known i = eqb i.element 0 ≡ false → (within 1 k i.element ≡ true) × (i.mass ≤ 300)

  heavy_known : (c : Bool) (m : ℕ) → m ≤ 300 → Known (heavy c m)
  heavy_known true m h = λ e. torn true refl e
  heavy_known false m h = λ e. (within_is 1 k 1 (omega arith) one, h)

  place_known : (e m : ℕ) → e ≤ k → m ≤ 300 → Known (isotope_of e m)
  place_known e m h g = λ f. (within_is 1 k e (omega (arith, eqb-false e 0 f)) h, g)

  isotope_known : (x : Sym) → mass_ok x ≡ true → Massless x → Known (isotope k x)
  isotope_known x h f = by (same (letters x) (bytes "D")) (same (letters x) (bytes "T")) refl refl
    where
      by : (d t : Bool) → same (letters x) (bytes "D") ≡ d → same (letters x) (bytes "T") ≡ t → Known (isotope k x)
      by true t p q = rw (isotope_deuterium k x p) (heavy_known x.caret 2 (omega arith))
      by false true p q = rw (isotope_tritium k x p q) (heavy_known x.caret 3 (omega arith))
      by false false p q = rw (isotope_other k x p q) (place_known _ x.mass (omega (arith, place_high 0 (letters x) (take k symbols), length-take k symbols)) (mass_low x h f))

  pub atom_known : (r : AtomRow) → (r.symbol.caret ≡ false → r.symbol.mass ≡ 0) → atom_fine k r ≡ true → atom_ok k (atom_of k r) ≡ true
  unfolding atom_ok unknown
  atom_known r f h =
      let p : ((mass_ok r.symbol && leb r.hydrogens 15) ≡ true) × (not (eqb (isotope k r.symbol).element 0) ≡ true) = and_parts (mass_ok r.symbol && leb r.hydrogens 15) _ h in
      let q : (mass_ok r.symbol ≡ true) × (leb r.hydrogens 15 ≡ true) = and_parts (mass_ok r.symbol) _ p.0 in
      let i : (within 1 k (isotope k r.symbol).element ≡ true) × ((isotope k r.symbol).mass ≤ 300) = isotope_known r.symbol q.0 f (not-true _ p.1) in
      and_both _ _ i.0 (and_both _ _ (le-leb _ 300 i.1) q.1)
