-- What the grammar says of bytes the machine reads from them, rule by rule: behind a fragment it has told all its entries, or all but the last. The first half of the
-- agreement of the two; serves document 01, "Rows" (MOLFORM). Assumes nothing.
use Prim.Native.Nat.{ℕ, suc, ◌+◌, ◌-◌, ◌*◌, ◌^◌, ◌≤◌, ◌<◌}
use mathlib.Core.Path.{◌≡◌, refl, sym, ap, ◌∙◌, subst}
use mathlib.Core.Bool.{Bool, true, false, ◌&&◌, ◌||◌}
use Rattle.std.specs.declared.option.Option.{Option}
use Rattle.std.specs.declared.option.Option.TheVariants.{None, Some}
use Rattle.std.proofs.lemmas.Option.{none-some, same_Some}
use mathlib.Core.List.{List, [], ◌∷◌, ◌++◌, append-nil, append_assoc}
use native.Mathlib.Omega.{arith}
use native.Mathlib.Nat.{add-zero}
use lib.ListN.{length, take, drop, take-append-drop}
use lib.Dec.{eqb}
use borrow.Author.Tests.{eqb-true, ne_eqb}
use Rattle.lists.specs.Lists.{all, span}
use Rattle.lists.proofs.Bools.{torn, never, and_parts, or_other}
use Rattle.lists.proofs.ListLaws.{all_nil, all_parts, all_both}
use Rattle.format.specs.Bytes.{Bytes, within, blank, gap}
use Rattle.format.specs.Rows.{◌and_then◌, digit, upper, lower, number_from, digits_of, number, Sym, sym_of, lettered, massed, symbol}
use Rattle.format.specs.Formula.{Counted, counted, FState, between, at_caret, at_one, at_two, at_slash, in_count, Move, still, part, leave, fstep, finish, join, frun, formula_shape}
use Rattle.format.specs.Grammar.{CountSays, absent, plain, slashed, FragmentSays, entry, blank_before, blank_behind, blank_between, touching, Says, fragment, starred}
use Rattle.format.proofs.ByteLaws.{within_low, upper_bounds, digit_upper, upper_digit, upper_lower, lower_upper, gap_small}
use Rattle.format.proofs.NumberLaws.{from_digit, from_other, from_nil, digits_of_lem, digits_of_bound, number_is, value, value_first}
use Rattle.format.proofs.FormulaLaws.{part_gap, part_star, leave_upper, leave_part, count_or_slash, count_or_other, between_upper, between_caret, between_gap, between_star, slash_digit, one_lower, one_other, two_is, count_digit, count_other, join_nil, join_join, run_nil, run_step, run_goes, formula_is}
use Rattle.format.proofs.FormulaBack.{one_digit, two_digit, mass_start}

-- 1 TO SO MANY DIGITS, and the number that they say
pub record Digits (most n : ℕ) (w : Bytes) : Type 0 where
  pub each : all digit w ≡ true
  pub low : 0 < length w
  pub high : length w ≤ most
  pub is : value 0 w ≡ n

from_value : (a : ℕ) (w : Bytes) (n : ℕ) → number_from a w ≡ Some n → (all digit w ≡ true) × (value a w ≡ n)
unfolding value
from_value a [] n e = (all_nil digit, same_Some a n (sym (from_nil a) ∙ e))
from_value a (d ∷ w) n e = go (digit d) refl (from_value (a * 10 + (d - 48)) w n)
  where
    go : (t : Bool) → digit d ≡ t → (number_from (a * 10 + (d - 48)) w ≡ Some n → (all digit w ≡ true) × (value (a * 10 + (d - 48)) w ≡ n)) → (all digit (d ∷ w) ≡ true) × (value (a * 10 + (d - 48)) w ≡ n)
    go true f ih = (all_both digit d w f (ih (sym (from_digit a d w f) ∙ e)).0, (ih (sym (from_digit a d w f) ∙ e)).1)
    go false f ih = absurd (none-some n (sym (from_other a d w f) ∙ e))

digits_said : (most n : ℕ) (w : Bytes) → digits_of most w ≡ Some n → Digits most n w
digits_said most n w e =
    let b : (0 < length w) × (length w ≤ most) × (n < 10 ^ most) = digits_of_bound most n w e in
    let p : (all digit w ≡ true) × (value 0 w ≡ n) = from_value 0 w n (sym (digits_of_lem most w b.0 b.1) ∙ e) in
    record { each = p.0; low = b.0; high = b.1; is = p.1 }

number_digits : (n : ℕ) (w : Bytes) → number w ≡ Some n → Digits 6 n w
number_digits n w e = digits_said 6 n w (sym (number_is w) ∙ e)

-- BYTES THAT END AN ENTRY: no second letter, no digit, no `/`
pub record Ending (b : ℕ) : Type 0 where
  pub not_lower : lower b ≡ false
  pub not_digit : digit b ≡ false
  pub not_slash : eqb b 47 ≡ false

gap_upper : (b : ℕ) → gap b ≡ true → upper b ≡ false
gap_upper b g = within_low 65 90 b (omega (arith, gap_small b g))

gap_caret : (b : ℕ) → gap b ≡ true → eqb b 94 ≡ false
gap_caret b g = ne_eqb b 94 (λ e. omega (arith, gap_small b g, e))

gap_ending : (b : ℕ) → gap b ≡ true → Ending b
gap_ending b g = record {
  not_lower = within_low 97 122 b (omega (arith, gap_small b g));
  not_digit = within_low 48 57 b (omega (arith, gap_small b g));
  not_slash = ne_eqb b 47 (λ e. omega (arith, gap_small b g, e));
}

star_ending : Ending 42
unfolding within
star_ending = record { not_lower = refl; not_digit = refl; not_slash = refl }

upper_ending : (b : ℕ) → upper b ≡ true → Ending b
upper_ending b u = record { not_lower = upper_lower b u; not_digit = upper_digit b u; not_slash = ne_eqb b 47 (λ e. omega (arith, (upper_bounds b u).0, e)) }

module _ (b : ℕ) (o : Ending b) where
  pub one_ends : (c : Bool) (m a : ℕ) → fstep (at_one c m a) b ≡ part (counted (sym_of c m a 0) 1) b
  one_ends c m a = one_other c m a b o.not_lower ∙ count_or_other (sym_of c m a 0) b _ o.not_digit o.not_slash

  two_ends : (x : Sym) → fstep (at_two x) b ≡ leave (counted x 1) b
  two_ends x = two_is x b ∙ count_or_other x b _ o.not_digit o.not_slash

-- `/` behind a symbol
one_slash : (c : Bool) (m a : ℕ) → fstep (at_one c m a) 47 ≡ still (at_slash (sym_of c m a 0))
unfolding within
one_slash c m a = one_other c m a 47 refl ∙ count_or_slash (sym_of c m a 0) 47 _ refl refl

two_slash : (x : Sym) → fstep (at_two x) 47 ≡ still (at_slash x)
unfolding within
two_slash x = two_is x 47 ∙ count_or_slash x 47 _ refl refl

-- WHERE THE MACHINE MAY STOP: behind a blank, one letter, two letters, a count; and the entry that it owes there
data Stop : Type 0 where
  blank_stop : Stop
  one_stop : (caret : Bool) (mass first : ℕ) → Stop
  two_stop : Sym → Stop
  count_stop : Sym → (size value : ℕ) → Stop

abbrev state_of : Stop → FState
state_of blank_stop = between true
state_of (one_stop c m a) = at_one c m a
state_of (two_stop x) = at_two x
state_of (count_stop x n v) = in_count x n v

abbrev owed : Stop → List Counted
owed blank_stop = []
owed (one_stop c m a) = counted (sym_of c m a 0) 1 ∷ []
owed (two_stop x) = counted x 1 ∷ []
owed (count_stop x n v) = counted x v ∷ []

-- whether it stops behind one letter, the last byte then being an upper-case one
abbrev bare : Stop → Bool
bare blank_stop = false
bare (one_stop c m a) = true
bare (two_stop x) = false
bare (count_stop x n v) = false

abbrev ends_upper : (before : Bool) → Bytes → Bool
ends_upper t [] = t
ends_upper t (b ∷ v) = ends_upper (upper b) v

ends_behind : (t : Bool) (v : Bytes) (b : ℕ) (w : Bytes) → ends_upper t (v ++ (b ∷ w)) ≡ ends_upper (upper b) w
ends_behind t [] b w = refl
ends_behind t (a ∷ v) b w = ends_behind (upper a) v b w

-- what it owes it tells at the end, at a blank, at `*`, and at the next letter unless it stops behind one
abbrev paid : Stop → FState → Move
paid q r = record { told = owed q; state = r }

stop_end : (q : Stop) → finish (state_of q) ≡ Some (owed q)
stop_end blank_stop = refl
stop_end (one_stop c m a) = refl
stop_end (two_stop x) = refl
stop_end (count_stop x n v) = refl

stop_gap : (q : Stop) (b : ℕ) → gap b ≡ true → fstep (state_of q) b ≡ paid q (between true)
stop_gap blank_stop b g = between_gap true b (gap_upper b g) (gap_caret b g) g
stop_gap (one_stop c m a) b g = one_ends b (gap_ending b g) c m a ∙ part_gap _ b g
stop_gap (two_stop x) b g = two_ends b (gap_ending b g) x ∙ leave_part _ b (gap_upper b g) ∙ part_gap _ b g
stop_gap (count_stop x n v) b g = count_other x n v b (gap_ending b g).not_digit ∙ leave_part _ b (gap_upper b g) ∙ part_gap _ b g

stop_star : (q : Stop) → fstep (state_of q) 42 ≡ paid q (between false)
unfolding gap blank within
stop_star blank_stop = between_star true 42 refl refl refl refl
stop_star (one_stop c m a) = one_ends 42 star_ending c m a ∙ part_star _ 42 refl refl
stop_star (two_stop x) = two_ends 42 star_ending x ∙ leave_part _ 42 refl ∙ part_star _ 42 refl refl
stop_star (count_stop x n v) = count_other x n v 42 refl ∙ leave_part _ 42 refl ∙ part_star _ 42 refl refl

stop_upper : (q : Stop) (b : ℕ) → bare q ≡ false → upper b ≡ true → fstep (state_of q) b ≡ paid q (at_one false 0 b)
stop_upper blank_stop b f u = between_upper true b u
stop_upper (one_stop c m a) b f u = torn true refl f
stop_upper (two_stop x) b f u = two_ends b (upper_ending b u) x ∙ leave_upper _ b u
stop_upper (count_stop x n v) b f u = count_other x n v b (upper_digit b u) ∙ leave_upper _ b u

-- what a fragment's bytes do to the machine: all entries are told but for what it owes where it stops
record Ran (v : Bytes) (cs : List Counted) : Type 0 where
  told : List Counted
  stop : Stop
  all_told : told ++ owed stop ≡ cs
  ends : bare stop ≡ true → ends_upper false v ≡ true
  runs : (x : Bool) (t : Bytes) → frun (between x) (v ++ t) ≡ join told (frun (state_of stop) t)

ran_end : {v : Bytes} {cs : List Counted} (f : Ran v cs) → frun (between false) v ≡ Some cs
ran_end {v} f = ap (frun (between false)) (sym (append-nil v)) ∙ f.runs false [] ∙ ap (join f.told) (run_nil (state_of f.stop) ∙ stop_end f.stop) ∙ ap Some f.all_told

ran_on : {v : Bytes} {cs : List Counted} (f : Ran v cs) (x : Bool) (b : ℕ) (t : Bytes) (r : FState) → fstep (state_of f.stop) b ≡ paid f.stop r → frun (between x) (v ++ (b ∷ t)) ≡ join cs (frun r t)
ran_on f x b t r e =
    f.runs x (b ∷ t) ∙ ap (join f.told) (run_step (state_of f.stop) b t (paid f.stop r) e) ∙ join_join f.told (owed f.stop) (frun r t)
    ∙ ap (λ (es : List Counted). join es (frun r t)) f.all_told

ran_before : (b : ℕ) {v : Bytes} {cs : List Counted} → gap b ≡ true → Ran v cs → Ran (b ∷ v) cs
ran_before b {v} g f = record {
  told = f.told;
  stop = f.stop;
  all_told = f.all_told;
  ends = λ e. ap (λ (t : Bool). ends_upper t v) (gap_upper b g) ∙ f.ends e;
  runs = λ x t. run_goes (between x) (between x) b (v ++ t) (between_gap x b (gap_upper b g) (gap_caret b g) g) ∙ f.runs x t;
}

ran_behind : (b : ℕ) {v : Bytes} {cs : List Counted} → gap b ≡ true → Ran v cs → Ran (v ++ (b ∷ [])) cs
ran_behind b {v} {cs} g f = record {
  told = cs;
  stop = blank_stop;
  all_told = append-nil cs;
  ends = λ e. torn false e refl;
  runs = λ x t. ap (frun (between x)) (append_assoc v (b ∷ []) t) ∙ ran_on f x b t (between true) (stop_gap f.stop b g);
}

-- two fragments: the second runs on where the first is told
ran_both : {w : Bytes} {ds : List Counted} (u : Bytes) (cs : List Counted) (g : Ran w ds) → ends_upper false u ≡ ends_upper false w
    → ((x : Bool) (t : Bytes) → frun (between x) (u ++ t) ≡ join cs (frun (between true) (w ++ t))) → Ran u (cs ++ ds)
ran_both u cs g e h = record {
  told = cs ++ g.told;
  stop = g.stop;
  all_told = append_assoc cs g.told (owed g.stop) ∙ ap (λ (es : List Counted). cs ++ es) g.all_told;
  ends = λ q. e ∙ g.ends q;
  runs = λ x t. h x t ∙ ap (join cs) (g.runs true t) ∙ join_join cs g.told (frun (state_of g.stop) t);
}

ran_between : (b : ℕ) {v w : Bytes} {cs ds : List Counted} → gap b ≡ true → Ran v cs → Ran w ds → Ran (v ++ (b ∷ w)) (cs ++ ds)
ran_between b {v} {w} {cs} g f h = ran_both (v ++ (b ∷ w)) cs h (ends_behind false v b w ∙ ap (λ (t : Bool). ends_upper t w) (gap_upper b g))
    (λ x t. ap (frun (between x)) (append_assoc v (b ∷ w) t) ∙ ran_on f x b (w ++ t) (between true) (stop_gap f.stop b g))

-- a second letter or a digit is no upper-case one
tail_upper : (a : ℕ) → (lower a || digit a) ≡ true → upper a ≡ false
tail_upper a h = go (lower a) refl
  where
    go : (t : Bool) → lower a ≡ t → upper a ≡ false
    go true e = lower_upper a e
    go false e = digit_upper a (or_other (lower a) (digit a) h e)

ran_touching : (v : Bytes) (a b : ℕ) (w : Bytes) {cs ds : List Counted} → (lower a || digit a) ≡ true → upper b ≡ true → Ran (v ++ (a ∷ [])) cs → Ran (b ∷ w) ds → Ran (v ++ (a ∷ b ∷ w)) (cs ++ ds)
ran_touching v a b w {cs} h u f g = ran_both (v ++ (a ∷ b ∷ w)) cs g (ends_behind false v a (b ∷ w)) (λ x t.
    ap (frun (between x)) (append_assoc v (a ∷ b ∷ w) t ∙ sym (append_assoc v (a ∷ []) (b ∷ (w ++ t))))
    ∙ ran_on f x b (w ++ t) (at_one false 0 b) (stop_upper f.stop b closed u)
    ∙ ap (join cs) (sym (run_goes (between true) (at_one false 0 b) b (w ++ t) (between_upper true b u))))
  where
    closed : bare f.stop ≡ false
    closed = never (bare f.stop) (λ e. torn (upper a) (sym (ends_behind false v a []) ∙ f.ends e) (tail_upper a h))

-- A SYMBOL: the machine stops behind one letter or two, from where a digit or `/` leads into a count
record Spelt (v : Bytes) (x : Sym) : Type 0 where
  stop : Stop
  owes : owed stop ≡ counted x 1 ∷ []
  ends : bare stop ≡ true → ends_upper false v ≡ true
  digits : (d : ℕ) → digit d ≡ true → fstep (state_of stop) d ≡ still (in_count x 1 (d - 48))
  slash : fstep (state_of stop) 47 ≡ still (at_slash x)
  runs : (y : Bool) (t : Bytes) → frun (between y) (v ++ t) ≡ frun (state_of stop) t

-- by what stands before its letters
module _ (p : Bytes) (c : Bool) (m : ℕ) (start : (y : Bool) (a : ℕ) (t : Bytes) → upper a ≡ true → frun (between y) (p ++ (a ∷ t)) ≡ frun (at_one c m a) t) where
  spelt_one : (a : ℕ) → upper a ≡ true → Spelt (p ++ (a ∷ [])) (sym_of c m a 0)
  spelt_one a u = record {
    stop = one_stop c m a;
    owes = refl;
    ends = λ e. ends_behind false p a [] ∙ u;
    digits = one_digit c m a;
    slash = one_slash c m a;
    runs = λ y t. ap (frun (between y)) (append_assoc p (a ∷ []) t) ∙ start y a t u;
  }

  spelt_two : (a b : ℕ) → upper a ≡ true → lower b ≡ true → Spelt (p ++ (a ∷ b ∷ [])) (sym_of c m a b)
  spelt_two a b u l = record {
    stop = two_stop (sym_of c m a b);
    owes = refl;
    ends = λ e. torn false e refl;
    digits = two_digit (sym_of c m a b);
    slash = two_slash (sym_of c m a b);
    runs = λ y t. ap (frun (between y)) (append_assoc p (a ∷ b ∷ []) t) ∙ start y a (b ∷ t) u ∙ run_goes (at_one c m a) (at_two (sym_of c m a b)) b t (one_lower c m a b l);
  }

  spelt_letters : (r : Bytes) (x : Sym) → lettered c m r ≡ Some x → Spelt (p ++ r) x
  unfolding lettered
  spelt_letters [] x e = absurd (none-some x e)
  spelt_letters (a ∷ []) x e = go (upper a) refl e
    where
      go : (t : Bool) → upper a ≡ t → elim t as (λ (s : Bool). Option Sym) [ true ↦ Some (sym_of c m a 0) | false ↦ None ] ≡ Some x → Spelt (p ++ (a ∷ [])) x
      go true u q = subst (λ (z : Sym). Spelt (p ++ (a ∷ [])) z) (same_Some (sym_of c m a 0) x q) (spelt_one a u)
      go false u q = absurd (none-some x q)
  spelt_letters (a ∷ b ∷ []) x e = go (upper a && lower b) refl e
    where
      go : (t : Bool) → (upper a && lower b) ≡ t → elim t as (λ (s : Bool). Option Sym) [ true ↦ Some (sym_of c m a b) | false ↦ None ] ≡ Some x → Spelt (p ++ (a ∷ b ∷ [])) x
      go true u q =
          subst (λ (z : Sym). Spelt (p ++ (a ∷ b ∷ [])) z) (same_Some (sym_of c m a b) x q) (spelt_two a b (and_parts (upper a) (lower b) u).0 (and_parts (upper a) (lower b) u).1)
      go false u q = absurd (none-some x q)
  spelt_letters (a ∷ b ∷ d ∷ w) x e = absurd (none-some x e)

mass_first : (p : Bytes) (m : ℕ) → Digits 3 m p → (y : Bool) (a : ℕ) (t : Bytes) → upper a ≡ true → frun (between y) (94 ∷ (p ++ (a ∷ t))) ≡ frun (at_one true m a) t
unfolding within
mass_first p m d y a t u =
    run_goes (between y) at_caret 94 (p ++ (a ∷ t)) (between_caret y 94 refl refl) ∙ mass_start p a t d.each d.low d.high u ∙ ap (λ (n : ℕ). frun (at_one true n a) t) d.is

spelt_massed : (w : Bytes) (x : Sym) → massed w ≡ Some x → Spelt (94 ∷ w) x
unfolding massed
spelt_massed w x e = go (digits_of 3 (take (span digit w) w)) refl e
  where
    go : (o : Option ℕ) → digits_of 3 (take (span digit w) w) ≡ o → (o and_then λ m. lettered true m (drop (span digit w) w)) ≡ Some x → Spelt (94 ∷ w) x
    go None f q = absurd (none-some x q)
    go (Some m) f q =
        subst (λ (s : Bytes). Spelt (94 ∷ s) x) (take-append-drop (span digit w) w)
        (spelt_letters (94 ∷ take (span digit w) w) true m (mass_first (take (span digit w) w) m (digits_said 3 m (take (span digit w) w) f)) (drop (span digit w) w) x q)

spelt : (v : Bytes) (x : Sym) → symbol v ≡ Some x → Spelt v x
unfolding symbol
spelt [] x e = absurd (none-some x e)
spelt (b ∷ w) x e = go (eqb b 94) refl e
  where
    go : (t : Bool) → eqb b 94 ≡ t → elim t as (λ (s : Bool). Option Sym) [ true ↦ massed w | false ↦ lettered false 0 (b ∷ w) ] ≡ Some x → Spelt (b ∷ w) x
    go true f q = subst (λ (c : ℕ). Spelt (c ∷ w) x) (sym (eqb-true b 94 f)) (spelt_massed w x q)
    go false f q = spelt_letters [] false 0 (λ y a t u. run_goes (between y) (at_one false 0 a) a t (between_upper y a u)) (b ∷ w) x q

-- A COUNT, from any state that a digit leads into it
count_on : (x : Sym) (n v : ℕ) (w t : Bytes) → all digit w ≡ true → n + length w ≤ 6 → frun (in_count x n v) (w ++ t) ≡ frun (in_count x (n + length w) (value v w)) t
unfolding value
count_on x n v [] t h l = ap (λ (k : ℕ). frun (in_count x k v) t) (sym (add-zero n))
count_on x n v (d ∷ w) t h l =
    let q : suc n + length w ≡ n + suc (length w) = omega arith in
    run_goes (in_count x n v) (in_count x (suc n) (v * 10 + (d - 48))) d (w ++ t) (count_digit x n v d (all_parts digit d w h).0 (omega arith))
    ∙ count_on x (suc n) (v * 10 + (d - 48)) w t (all_parts digit d w h).1 (omega arith) ∙ ap (λ (k : ℕ). frun (in_count x k (value (v * 10 + (d - 48)) w)) t) q

count_runs : (q : FState) (x : Sym) → ((d : ℕ) → digit d ≡ true → fstep q d ≡ still (in_count x 1 (d - 48))) → (n : ℕ) (w : Bytes) → Digits 6 n w → (t : Bytes) → frun q (w ++ t) ≡ frun (in_count x (length w) n) t
count_runs q x f n [] d t = absurd (omega (arith, d.low))
count_runs q x f n (a ∷ w) d t =
    let p : (digit a ≡ true) × (all digit w ≡ true) = all_parts digit a w d.each in
    let l : 1 + length w ≡ suc (length w) = omega arith in
    run_goes q (in_count x 1 (a - 48)) a (w ++ t) (f a p.0) ∙ count_on x 1 (a - 48) w t p.1 (omega (arith, d.high))
    ∙ ap (λ (k : ℕ). frun (in_count x k (value (a - 48) w)) t) l ∙ ap (λ (v : ℕ). frun (in_count x (suc (length w)) v) t) (sym (value_first a w) ∙ d.is)

-- AN ENTRY, A FRAGMENT, A FORMULA
ran_entry : (v : Bytes) {w : Bytes} (x : Sym) {n : ℕ} → Spelt v x → CountSays w n → Ran (v ++ w) (counted x n ∷ [])
ran_entry v x s absent = record {
  told = [];
  stop = s.stop;
  all_told = s.owes;
  ends = λ e. ap (ends_upper false) (append-nil v) ∙ s.ends e;
  runs = λ y t. ap (frun (between y)) (append_assoc v [] t) ∙ s.runs y t ∙ sym (join_nil (frun (state_of s.stop) t));
}
ran_entry v x s (plain {w = w} {n = n} e) = record {
  told = [];
  stop = count_stop x (length w) n;
  all_told = refl;
  ends = λ e. torn false e refl;
  runs = λ y t.
      ap (frun (between y)) (append_assoc v w t) ∙ s.runs y (w ++ t) ∙ count_runs (state_of s.stop) x s.digits n w (number_digits n w e) t ∙ sym (join_nil (frun (in_count x (length w) n) t));
}
ran_entry v x s (slashed {w = w} {n = n} e) = record {
  told = [];
  stop = count_stop x (length w) n;
  all_told = refl;
  ends = λ e. torn false e refl;
  runs = λ y t.
      ap (frun (between y)) (append_assoc v (47 ∷ w) t) ∙ s.runs y (47 ∷ (w ++ t)) ∙ run_goes (state_of s.stop) (at_slash x) 47 (w ++ t) s.slash
      ∙ count_runs (at_slash x) x (λ d f. slash_digit d x f) n w (number_digits n w e) t ∙ sym (join_nil (frun (in_count x (length w) n) t));
}

ran : {v : Bytes} {cs : List Counted} → FragmentSays v cs → Ran v cs
ran (entry v {x = x} e c) = ran_entry v x (spelt v x e) c
ran (blank_before b g f) = ran_before b g (ran f)
ran (blank_behind b g f) = ran_behind b g (ran f)
ran (blank_between b g f h) = ran_between b g (ran f) (ran h)
ran (touching v a b w l u f h) = ran_touching v a b w l u (ran f) (ran h)

run_says : {v : Bytes} {cs : List Counted} → Says v cs → frun (between false) v ≡ Some cs
run_says (fragment f) = ran_end (ran f)
run_says (starred {w = w} {cs = cs} f s) = ran_on (ran f) false 42 w (between false) (stop_star (ran f).stop) ∙ ap (join cs) (run_says s)

pub says_read : {v : Bytes} {cs : List Counted} → Says v cs → formula_shape v ≡ Some cs
says_read {v} s = formula_is v ∙ run_says s
