-- The grammar of a formula and its machine agree: the machine gives a list of entries exactly when the grammar says that list of the bytes, and so no bytes say two
-- lists. Serves document 01, "Rows" (MOLFORM). What is left to show is the way from the machine to the rules, byte by byte. Assumes nothing.
use Prim.Native.Nat.{ℕ, suc, ◌+◌, ◌-◌, ◌*◌, ◌<◌}
use mathlib.Core.Path.{◌≡◌, refl, sym, ap, ◌∙◌, subst}
use mathlib.Core.Bool.{Bool, true, false, ◌&&◌, ◌||◌}
use Rattle.std.specs.declared.option.Option.{Option}
use Rattle.std.specs.declared.option.Option.TheVariants.{None, Some}
use Rattle.std.proofs.lemmas.Option.{none-some, same_Some}
use mathlib.Core.List.{List, [], ◌∷◌, ◌++◌, append-nil, append_assoc}
use native.Mathlib.Omega.{arith}
use lib.ListN.{length, length-append}
use lib.Dec.{eqb, ltb}
use borrow.Author.Tests.{eqb-true, ne_eqb, ltb-true, ltb-false}
use Rattle.lists.proofs.Bools.{torn, and_right_false, or_left, or_right}
use Rattle.lists.proofs.ListLaws.{all_nil, all_parts, all_both, all_append_parts, all_append_both}
use Rattle.format.specs.Bytes.{Bytes, within, head_is, gap}
use Rattle.format.specs.Rows.{digit, upper, lower, digits_of, number, Sym, sym_of, symbol}
use Rattle.format.specs.Formula.{Counted, counted, FState, dead, between, at_caret, in_mass, at_one, at_two, at_slash, in_count, still, tells, part, leave, fstep, finish, join, frun, formula_shape}
use Rattle.format.specs.Grammar.{absent, plain, slashed, FragmentSays, entry, blank_before, blank_behind, blank_between, touching, Says, fragment, starred}
use Rattle.format.proofs.ByteLaws.{upper_bounds, upper_digit}
use Rattle.format.proofs.NumberLaws.{digits_of_lem, number_is, value, from_digits, value_append, value_one, value_first}
use Rattle.format.proofs.SymbolLaws.{lettered_one, lettered_two, symbol_plain, symbol_caret, massed_at}
use Rattle.format.proofs.FormulaLaws.{part_gap, part_star, part_dead, leave_upper, leave_part, count_or_slash, count_or_other, between_upper, between_caret, between_gap, between_star, between_dead, caret_digit, caret_dead, slash_digit, slash_dead, mass_digit, mass_long, mass_upper, mass_dead, one_lower, one_other, two_is, count_digit, count_long, count_other, run_nil, run_step, run_goes, run_dead, formula_is}
use Rattle.format.proofs.FormulaBack.{one_digit, two_digit}
use Rattle.format.proofs.GrammarRuns.{Digits, one_ends, says_read}

-- 1 TO SO MANY DIGITS, and the number that they say
said_digits : (most n : ℕ) (w : Bytes) → Digits most n w → digits_of most w ≡ Some n
said_digits most n w d = digits_of_lem most w d.low d.high ∙ from_digits 0 w d.each ∙ ap Some d.is

digits_number : (n : ℕ) (w : Bytes) → Digits 6 n w → number w ≡ Some n
digits_number n w d = number_is w ∙ said_digits 6 n w d

digits_first : (most d : ℕ) → 0 < most → digit d ≡ true → Digits most (d - 48) (d ∷ [])
unfolding value
digits_first most d h e = record { each = all_both digit d [] e (all_nil digit); low = omega arith; high = omega arith; is = value_first d [] }

digits_next : (most n d : ℕ) (w : Bytes) → length w < most → digit d ≡ true → Digits most n w → Digits most (n * 10 + (d - 48)) (w ++ (d ∷ []))
digits_next most n d w h e p =
    let l : length (w ++ (d ∷ [])) ≡ length w + 1 = length-append w (d ∷ []) in
    record {
      each = all_append_both digit w (d ∷ []) p.each (all_both digit d [] e (all_nil digit));
      low = omega arith;
      high = omega arith;
      is = value_append 0 w (d ∷ []) ∙ value_one (value 0 w) d ∙ ap (λ (m : ℕ). m * 10 + (d - 48)) p.is;
    }

upper_caret : (b : ℕ) → upper b ≡ true → eqb b 94 ≡ false
upper_caret b u = ne_eqb b 94 (λ e. omega (arith, (upper_bounds b u).1, e))

-- A BLANK in front of a formula, and a fragment in front of one, with a blank between or touching it
says_before : (b : ℕ) {v : Bytes} {cs : List Counted} → gap b ≡ true → Says v cs → Says (b ∷ v) cs
says_before b g (fragment f) = fragment (blank_before b g f)
says_before b g (starred f s) = starred (blank_before b g f) s

moved : {u v : Bytes} {cs ds : List Counted} → u ≡ v → cs ≡ ds → Says u cs → Says v ds
moved {u} {v} {cs} {ds} p q s = subst (λ (l : List Counted). Says v l) q (subst (λ (w : Bytes). Says w cs) p s)

says_between : (b : ℕ) {v w : Bytes} {cs ds : List Counted} → gap b ≡ true → FragmentSays v cs → Says w ds → Says (v ++ (b ∷ w)) (cs ++ ds)
says_between b g f (fragment h) = fragment (blank_between b g f h)
says_between b {v} {cs = cs} g f (starred {v = u} {w = w} {cs = es} {ds = ds} h s) = moved (append_assoc v (b ∷ u) (42 ∷ w)) (append_assoc cs es ds) (starred (blank_between b g f h) s)

touch : (v : Bytes) (a : ℕ) (w : Bytes) {cs ds : List Counted} → (lower a || digit a) ≡ true → head_is upper w ≡ true → FragmentSays (v ++ (a ∷ [])) cs → FragmentSays w ds → FragmentSays (v ++ (a ∷ w)) (cs ++ ds)
touch v a [] l u f h = torn false u refl
touch v a (b ∷ w) l u f h = touching v a b w l u f h

star_head : (w t : Bytes) → head_is upper (w ++ (42 ∷ t)) ≡ true → head_is upper w ≡ true
unfolding within
star_head [] t h = torn false h refl
star_head (b ∷ w) t h = h

says_touching : (v : Bytes) (a : ℕ) {w : Bytes} {cs ds : List Counted} → (lower a || digit a) ≡ true → FragmentSays (v ++ (a ∷ [])) cs → Says w ds → head_is upper w ≡ true → Says (v ++ (a ∷ w)) (cs ++ ds)
says_touching v a l f (fragment {v = w} h) u = fragment (touch v a w l u f h)
says_touching v a {cs = cs} l f (starred {v = w} {w = t} {cs = es} {ds = ds} h s) u = moved (append_assoc v (a ∷ w) (42 ∷ t)) (append_assoc cs es ds) (starred (touch v a w l (star_head w t u) f h) s)

-- what is said of the bytes behind a state, with those in front of them that led there
abbrev Rest : FState → Bytes → List Counted → Type 0
Rest dead s cs = Unit {0}
Rest (between false) s cs = Says s cs
Rest (between true) s cs = (v : Bytes) (ds : List Counted) (b : ℕ) → gap b ≡ true → FragmentSays v ds → Says (v ++ (b ∷ s)) (ds ++ cs)
Rest at_caret s cs = Says (94 ∷ s) cs
Rest (in_mass n m) s cs = (w : Bytes) → length w ≡ n → Digits 3 m w → Says (94 ∷ (w ++ s)) cs
Rest (at_one c m a) s cs = (v : Bytes) → symbol v ≡ Some (sym_of c m a 0) → ((b : ℕ) → lower b ≡ true → symbol (v ++ (b ∷ [])) ≡ Some (sym_of c m a b)) → Says (v ++ s) cs
Rest (at_two x) s cs = (v : Bytes) (a : ℕ) → lower a ≡ true → symbol (v ++ (a ∷ [])) ≡ Some x → Says ((v ++ (a ∷ [])) ++ s) cs
Rest (at_slash x) s cs = (v : Bytes) → symbol v ≡ Some x → Says (v ++ (47 ∷ s)) cs
Rest (in_count x n m) s cs =
    (p w : Bytes) (a : ℕ) → ((u : Bytes) (k : ℕ) → number u ≡ Some k → FragmentSays (p ++ u) (counted x k ∷ [])) → length (w ++ (a ∷ [])) ≡ n → Digits 6 m (w ++ (a ∷ [])) → Says ((p ++ (w ++ (a ∷ []))) ++ s) cs

abbrev Reads : Bytes → Type 0
Reads s = (q : FState) (cs : List Counted) → frun q s ≡ Some cs → Rest q s cs

-- at the end of the bytes
reads_end : (q : FState) (cs : List Counted) → finish q ≡ Some cs → Rest q [] cs
reads_end dead cs e = tt
reads_end (between false) cs e = absurd (none-some cs e)
reads_end (between true) cs e = λ v ds b g f. moved refl (sym (append-nil ds) ∙ ap (λ (l : List Counted). ds ++ l) (same_Some [] cs e)) (fragment (blank_behind b g f))
reads_end at_caret cs e = absurd (none-some cs e)
reads_end (in_mass n m) cs e = absurd (none-some cs e)
reads_end (at_one c m a) cs e = λ v h k. moved refl (same_Some (counted (sym_of c m a 0) 1 ∷ []) cs e) (fragment (entry v h absent))
reads_end (at_two x) cs e = λ v a l h. moved refl (same_Some (counted x 1 ∷ []) cs e) (fragment (entry (v ++ (a ∷ [])) h absent))
reads_end (at_slash x) cs e = absurd (none-some cs e)
reads_end (in_count x n m) cs e = λ p w a f l d.
    moved (sym (append-nil (p ++ (w ++ (a ∷ []))))) (same_Some (counted x m ∷ []) cs e) (fragment (f (w ++ (a ∷ [])) m (digits_number m (w ++ (a ∷ [])) d)))

-- an entry told at a byte
told_on : (e : Counted) (o : Option (List Counted)) (cs : List Counted) → join (e ∷ []) o ≡ Some cs → (ds : List Counted) × (o ≡ Some ds) × (e ∷ ds ≡ cs)
told_on e None cs h = absurd (none-some cs h)
told_on e (Some ds) cs h = (ds, refl, same_Some (e ∷ ds) cs h)

-- a letter that starts a symbol without mass
letter_first : (a : ℕ) (s : Bytes) (cs : List Counted) → upper a ≡ true → Rest (at_one false 0 a) s cs → Says (a ∷ s) cs
letter_first a s cs u r =
    r (a ∷ []) (symbol_plain a [] (upper_caret a u) ∙ lettered_one false 0 a u) (λ b l. symbol_plain a (b ∷ []) (upper_caret a u) ∙ lettered_two false 0 a b u l)

-- at a byte, by what is said of those behind it
module _ (b : ℕ) (s : Bytes) (ih : Reads s) (q : FState) (cs : List Counted) (h : frun q (b ∷ s) ≡ Some cs) where
  goes : (r : FState) → fstep q b ≡ still r → Rest r s cs
  goes r e = ih r cs (sym (run_goes q r b s e) ∙ h)

  dies : {A : Type 0} → fstep q b ≡ still dead → A
  dies e = absurd (none-some cs (sym (run_dead s) ∙ sym (run_goes q dead b s e) ∙ h))

  tells_on : (e : Counted) (r : FState) → fstep q b ≡ tells e r → (ds : List Counted) × Rest r s ds × (e ∷ ds ≡ cs)
  tells_on e r f = let p : (ds : List Counted) × (frun r s ≡ Some ds) × (e ∷ ds ≡ cs) = told_on e (frun r s) cs (sym (run_step q b s (tells e r) f) ∙ h) in (p.0, ih r p.0 p.1, p.2)

  -- behind an entry
  parts : (e : Counted) (v : Bytes) → FragmentSays v (e ∷ []) → fstep q b ≡ part e b → Says (v ++ (b ∷ s)) cs
  parts e v f p = go (gap b) (eqb b 42) refl refl
    where
      go : (g t : Bool) → gap b ≡ g → eqb b 42 ≡ t → Says (v ++ (b ∷ s)) cs
      go true t g x =
          let r : (ds : List Counted) × Rest (between true) s ds × (e ∷ ds ≡ cs) = tells_on e (between true) (p ∙ part_gap e b g) in
          moved refl r.2 (r.1 v (e ∷ []) b g f)
      go false true g x =
          let r : (ds : List Counted) × Rest (between false) s ds × (e ∷ ds ≡ cs) = tells_on e (between false) (p ∙ part_star e b g x) in
          moved (ap (λ (c : ℕ). v ++ (c ∷ s)) (sym (eqb-true b 42 x))) r.2 (starred f r.1)
      go false false g x = dies (p ∙ part_dead e b g x)

  leaves : (e : Counted) (v : Bytes) (a : ℕ) → (lower a || digit a) ≡ true → FragmentSays (v ++ (a ∷ [])) (e ∷ []) → fstep q b ≡ leave e b → Says ((v ++ (a ∷ [])) ++ (b ∷ s)) cs
  leaves e v a l f p = go (upper b) refl
    where
      go : (t : Bool) → upper b ≡ t → Says ((v ++ (a ∷ [])) ++ (b ∷ s)) cs
      go true u =
          let r : (ds : List Counted) × Rest (at_one false 0 b) s ds × (e ∷ ds ≡ cs) = tells_on e (at_one false 0 b) (p ∙ leave_upper e b u) in
          moved (sym (append_assoc v (a ∷ []) (b ∷ s))) r.2 (says_touching v a l f (letter_first b s r.0 u r.1) u)
      go false u = parts e (v ++ (a ∷ [])) f (p ∙ leave_part e b u)

  -- behind a symbol
  counts : (x : Sym) (v : Bytes) → symbol v ≡ Some x → digit b ≡ true → fstep q b ≡ still (in_count x 1 (b - 48)) → Says (v ++ (b ∷ s)) cs
  counts x v e d f = moved (append_assoc v (b ∷ []) s) refl (goes (in_count x 1 (b - 48)) f v [] b (λ u k n. entry v e (plain n)) refl (digits_first 6 b (omega arith) d))

  slashes : (x : Sym) (v : Bytes) → symbol v ≡ Some x → eqb b 47 ≡ true → fstep q b ≡ still (at_slash x) → Says (v ++ (b ∷ s)) cs
  slashes x v e t f = moved (ap (λ (c : ℕ). v ++ (c ∷ s)) (sym (eqb-true b 47 t))) refl (goes (at_slash x) f v e)

-- between entries
module _ (x : Bool) (b : ℕ) (s : Bytes) (ih : Reads s) (cs : List Counted) (h : frun (between x) (b ∷ s) ≡ Some cs) where
  starts_letter : upper b ≡ true → Says (b ∷ s) cs
  starts_letter u = letter_first b s cs u (goes b s ih (between x) cs h (at_one false 0 b) (between_upper x b u))

  starts_caret : upper b ≡ false → eqb b 94 ≡ true → Says (b ∷ s) cs
  starts_caret u c = moved (ap (λ (a : ℕ). a ∷ s) (sym (eqb-true b 94 c))) refl (goes b s ih (between x) cs h at_caret (between_caret x b u c))

step_start : (b : ℕ) (s : Bytes) → Reads s → (cs : List Counted) → frun (between false) (b ∷ s) ≡ Some cs → Says (b ∷ s) cs
step_start b s ih cs h = go (upper b) (eqb b 94) (gap b) refl refl refl
  where
    go : (t c g : Bool) → upper b ≡ t → eqb b 94 ≡ c → gap b ≡ g → Says (b ∷ s) cs
    go true c g u e f = starts_letter false b s ih cs h u
    go false true g u e f = starts_caret false b s ih cs h u e
    go false false true u e f = says_before b f (goes b s ih (between false) cs h (between false) (between_gap false b u e f))
    go false false false u e f = dies b s ih (between false) cs h (between_dead false b u e f (and_right_false (eqb b 42) false refl))

step_blank : (b : ℕ) (s : Bytes) → Reads s → (cs : List Counted) → frun (between true) (b ∷ s) ≡ Some cs → Rest (between true) (b ∷ s) cs
step_blank b s ih cs h v ds a ga f = go (upper b) (eqb b 94) (gap b) (eqb b 42) refl refl refl refl
  where
    go : (t c g k : Bool) → upper b ≡ t → eqb b 94 ≡ c → gap b ≡ g → eqb b 42 ≡ k → Says (v ++ (a ∷ b ∷ s)) (ds ++ cs)
    go true c g k u e p r = says_between a ga f (starts_letter true b s ih cs h u)
    go false true g k u e p r = says_between a ga f (starts_caret true b s ih cs h u e)
    go false false true k u e p r = moved (append_assoc v (a ∷ []) (b ∷ s)) refl (goes b s ih (between true) cs h (between true) (between_gap true b u e p) (v ++ (a ∷ [])) ds b p (blank_behind a ga f))
    go false false false true u e p r =
        moved (append_assoc v (a ∷ []) (42 ∷ s) ∙ ap (λ (c : ℕ). v ++ (a ∷ c ∷ s)) (sym (eqb-true b 42 r))) refl
        (starred (blank_behind a ga f) (goes b s ih (between true) cs h (between false) (between_star true b u e p (ap (λ (t : Bool). t && true) r))))
    go false false false false u e p r = dies b s ih (between true) cs h (between_dead true b u e p (ap (λ (t : Bool). t && true) r))

-- a mass
step_caret : (b : ℕ) (s : Bytes) → Reads s → (cs : List Counted) → frun at_caret (b ∷ s) ≡ Some cs → Says (94 ∷ b ∷ s) cs
step_caret b s ih cs h = go (digit b) refl
  where
    go : (t : Bool) → digit b ≡ t → Says (94 ∷ b ∷ s) cs
    go true d = goes b s ih at_caret cs h (in_mass 1 (b - 48)) (caret_digit b d) (b ∷ []) refl (digits_first 3 b (omega arith) d)
    go false d = dies b s ih at_caret cs h (caret_dead b d)

step_mass : (n m b : ℕ) (s : Bytes) → Reads s → (cs : List Counted) → frun (in_mass n m) (b ∷ s) ≡ Some cs → Rest (in_mass n m) (b ∷ s) cs
step_mass n m b s ih cs h w l d = go (digit b) (ltb n 3) (upper b) refl refl refl
  where
    symbol_one : upper b ≡ true → symbol (94 ∷ (w ++ (b ∷ []))) ≡ Some (sym_of true m b 0)
    symbol_one u = symbol_caret (w ++ (b ∷ [])) ∙ massed_at w b [] m d.each (upper_digit b u) (said_digits 3 m w d) ∙ lettered_one true m b u

    symbol_two : upper b ≡ true → (c : ℕ) → lower c ≡ true → symbol (94 ∷ ((w ++ (b ∷ [])) ++ (c ∷ []))) ≡ Some (sym_of true m b c)
    symbol_two u c k =
        ap (λ (v : Bytes). symbol (94 ∷ v)) (append_assoc w (b ∷ []) (c ∷ [])) ∙ symbol_caret (w ++ (b ∷ c ∷ []))
        ∙ massed_at w b (c ∷ []) m d.each (upper_digit b u) (said_digits 3 m w d) ∙ lettered_two true m b c u k

    go : (t k u : Bool) → digit b ≡ t → ltb n 3 ≡ k → upper b ≡ u → Says (94 ∷ (w ++ (b ∷ s))) cs
    go true true u e k f =
        let few : n < 3 = ltb-true n 3 k in
        let size : length (w ++ (b ∷ [])) ≡ suc n = length-append w (b ∷ []) ∙ omega (arith, l) in
        moved (ap (λ (v : Bytes). 94 ∷ v) (append_assoc w (b ∷ []) s)) refl
        (goes b s ih (in_mass n m) cs h (in_mass (suc n) (m * 10 + (b - 48))) (mass_digit n m b e few) (w ++ (b ∷ [])) size (digits_next 3 m b w (omega (arith, l, few)) e d))
    go true false u e k f = dies b s ih (in_mass n m) cs h (mass_long n m b e (ltb-false n 3 k))
    go false k true e j f =
        moved (ap (λ (v : Bytes). 94 ∷ v) (append_assoc w (b ∷ []) s)) refl (goes b s ih (in_mass n m) cs h (at_one true m b) (mass_upper n m b e f) (94 ∷ (w ++ (b ∷ []))) (symbol_one f) (symbol_two f))
    go false k false e j f = dies b s ih (in_mass n m) cs h (mass_dead n m b e f)

-- behind one letter, two, `/`, and in a count
step_one : (c : Bool) (m a b : ℕ) (s : Bytes) → Reads s → (cs : List Counted) → frun (at_one c m a) (b ∷ s) ≡ Some cs → Rest (at_one c m a) (b ∷ s) cs
step_one c m a b s ih cs h v e f = go (lower b) (digit b) (eqb b 47) refl refl refl
  where
    go : (t d k : Bool) → lower b ≡ t → digit b ≡ d → eqb b 47 ≡ k → Says (v ++ (b ∷ s)) cs
    go true d k l p r = moved (append_assoc v (b ∷ []) s) refl (goes b s ih (at_one c m a) cs h (at_two (sym_of c m a b)) (one_lower c m a b l) v b l (f b l))
    go false true k l p r = counts b s ih (at_one c m a) cs h (sym_of c m a 0) v e p (one_digit c m a b p)
    go false false true l p r = slashes b s ih (at_one c m a) cs h (sym_of c m a 0) v e r (one_other c m a b l ∙ count_or_slash (sym_of c m a 0) b _ p r)
    go false false false l p r =
        parts b s ih (at_one c m a) cs h (counted (sym_of c m a 0) 1) v (subst (λ (u : Bytes). FragmentSays u (counted (sym_of c m a 0) 1 ∷ [])) (append-nil v) (entry v e absent))
        (one_ends b (record { not_lower = l; not_digit = p; not_slash = r }) c m a)

step_two : (x : Sym) (b : ℕ) (s : Bytes) → Reads s → (cs : List Counted) → frun (at_two x) (b ∷ s) ≡ Some cs → Rest (at_two x) (b ∷ s) cs
step_two x b s ih cs h v a l e = go (digit b) (eqb b 47) refl refl
  where
    go : (d k : Bool) → digit b ≡ d → eqb b 47 ≡ k → Says ((v ++ (a ∷ [])) ++ (b ∷ s)) cs
    go true k p r = counts b s ih (at_two x) cs h x (v ++ (a ∷ [])) e p (two_digit x b p)
    go false true p r = slashes b s ih (at_two x) cs h x (v ++ (a ∷ [])) e r (two_is x b ∙ count_or_slash x b _ p r)
    go false false p r =
        leaves b s ih (at_two x) cs h (counted x 1) v a (or_left (lower a) (digit a) l)
        (subst (λ (u : Bytes). FragmentSays u (counted x 1 ∷ [])) (append-nil (v ++ (a ∷ []))) (entry (v ++ (a ∷ [])) e absent)) (two_is x b ∙ count_or_other x b _ p r)

step_slash : (x : Sym) (b : ℕ) (s : Bytes) → Reads s → (cs : List Counted) → frun (at_slash x) (b ∷ s) ≡ Some cs → Rest (at_slash x) (b ∷ s) cs
step_slash x b s ih cs h v e = go (digit b) refl
  where
    says : (u : Bytes) (k : ℕ) → number u ≡ Some k → FragmentSays ((v ++ (47 ∷ [])) ++ u) (counted x k ∷ [])
    says u k n = subst (λ (w : Bytes). FragmentSays w (counted x k ∷ [])) (sym (append_assoc v (47 ∷ []) u)) (entry v e (slashed n))

    go : (t : Bool) → digit b ≡ t → Says (v ++ (47 ∷ b ∷ s)) cs
    go true d =
        moved (append_assoc (v ++ (47 ∷ [])) (b ∷ []) s ∙ append_assoc v (47 ∷ []) (b ∷ s)) refl
        (goes b s ih (at_slash x) cs h (in_count x 1 (b - 48)) (slash_digit b x d) (v ++ (47 ∷ [])) [] b says refl (digits_first 6 b (omega arith) d))
    go false d = dies b s ih (at_slash x) cs h (slash_dead b x d)

step_count : (x : Sym) (n m b : ℕ) (s : Bytes) → Reads s → (cs : List Counted) → frun (in_count x n m) (b ∷ s) ≡ Some cs → Rest (in_count x n m) (b ∷ s) cs
step_count x n m b s ih cs h p w a f l d = go (digit b) (ltb n 6) refl refl
  where
    last : (lower a || digit a) ≡ true
    last = or_right (lower a) (digit a) (all_parts digit a [] (all_append_parts digit w (a ∷ []) d.each).1).0

    go : (t k : Bool) → digit b ≡ t → ltb n 6 ≡ k → Says ((p ++ (w ++ (a ∷ []))) ++ (b ∷ s)) cs
    go true true e k =
        let few : n < 6 = ltb-true n 6 k in
        let v : Bytes = w ++ (a ∷ []) in
        let size : length (v ++ (b ∷ [])) ≡ suc n = length-append v (b ∷ []) ∙ omega (arith, l) in
        moved (ap (λ (u : Bytes). u ++ s) (sym (append_assoc p v (b ∷ []))) ∙ append_assoc (p ++ v) (b ∷ []) s) refl
        (goes b s ih (in_count x n m) cs h (in_count x (suc n) (m * 10 + (b - 48))) (count_digit x n m b e few) p v b f size (digits_next 6 m b v (omega (arith, l, few)) e d))
    go true false e k = dies b s ih (in_count x n m) cs h (count_long x n m b e (ltb-false n 6 k))
    go false k e j =
        moved (ap (λ (u : Bytes). u ++ (b ∷ s)) (append_assoc p w (a ∷ []))) refl
        (leaves b s ih (in_count x n m) cs h (counted x m) (p ++ w) a last
        (subst (λ (u : Bytes). FragmentSays u (counted x m ∷ [])) (sym (append_assoc p w (a ∷ []))) (f (w ++ (a ∷ [])) m (digits_number m (w ++ (a ∷ [])) d)))
        (count_other x n m b e))

reads : (s : Bytes) → Reads s
reads [] q cs h = reads_end q cs (sym (run_nil q) ∙ h)
reads (b ∷ s) dead cs h = tt
reads (b ∷ s) (between false) cs h = step_start b s (reads s) cs h
reads (b ∷ s) (between true) cs h = step_blank b s (reads s) cs h
reads (b ∷ s) at_caret cs h = step_caret b s (reads s) cs h
reads (b ∷ s) (in_mass n m) cs h = step_mass n m b s (reads s) cs h
reads (b ∷ s) (at_one c m a) cs h = step_one c m a b s (reads s) cs h
reads (b ∷ s) (at_two x) cs h = step_two x b s (reads s) cs h
reads (b ∷ s) (at_slash x) cs h = step_slash x b s (reads s) cs h
reads (b ∷ s) (in_count x n m) cs h = step_count x n m b s (reads s) cs h

pub read_says : (v : Bytes) (cs : List Counted) → formula_shape v ≡ Some cs → Says v cs
read_says v cs e = reads v (between false) cs (sym (formula_is v) ∙ e)

-- BOTH WAYS, and so no bytes say two lists
pub formula_grammar : (v : Bytes) (cs : List Counted) → (formula_shape v ≡ Some cs → Says v cs) × (Says v cs → formula_shape v ≡ Some cs)
formula_grammar v cs = (read_says v cs, says_read)

pub formula_once : (v : Bytes) (cs ds : List Counted) → Says v cs → Says v ds → cs ≡ ds
formula_once v cs ds f g = same_Some cs ds (sym (says_read f) ∙ says_read g)
