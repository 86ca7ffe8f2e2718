-- The formula's machine: its steps clause by clause, its run at an index for a loop in code, and that a printed formula is read as its entries. Serves document
-- 01, "Rows" (MOLFORM) and "The one written form". For any list of fragments that is not empty. Assumes nothing.
use Prim.Native.Nat.{ℕ, suc, ◌+◌, ◌-◌, ◌*◌, ◌≤◌, ◌<◌}
use mathlib.Core.Path.{◌≡◌, refl, sym, ap, ◌∙◌}
use mathlib.Core.Bool.{Bool, true, false, ◌&&◌}
use Rattle.std.specs.declared.option.Option.{Option}
use Rattle.std.specs.declared.option.Option.TheVariants.{None, Some}
use mathlib.Core.List.{List, [], ◌∷◌, ◌++◌, append_assoc}
use native.Mathlib.Numerals.{add-one}
use lib.ListN.{length, get_or, drop, drop_of_length-le}
use lib.Seq.{drop-cons}
use lib.Dec.{eqb}
use borrow.Author.Tests.{lt-ltb, le-ltb}
use Rattle.format.specs.Bytes.{Bytes, gap}
use Rattle.format.specs.Rows.{digit, upper, lower, Sym, sym_of}
use Rattle.format.specs.Formula.{Counted, counted, FState, dead, between, at_caret, in_mass, at_one, at_two, at_slash, in_count, Move, still, tells, part, leave, count_or, fstep, finish, join, frun, formula_shape}

-- WHAT AN ENTRY ENDS WITH
module _ (e : Counted) (b : ℕ) where
  pub part_gap : gap b ≡ true → part e b ≡ tells e (between true)
  unfolding part
  part_gap g = rw (g, part)

  pub part_star : gap b ≡ false → eqb b 42 ≡ true → part e b ≡ tells e (between false)
  unfolding part
  part_star g s = rw (g, s, part)

  pub part_dead : gap b ≡ false → eqb b 42 ≡ false → part e b ≡ still dead
  unfolding part
  part_dead g s = rw (g, s, part)

  pub leave_upper : upper b ≡ true → leave e b ≡ tells e (at_one false 0 b)
  unfolding leave
  leave_upper u = rw (u, leave)

  pub leave_part : upper b ≡ false → leave e b ≡ part e b
  unfolding leave
  leave_part u = rw (u, leave)

module _ (x : Sym) (b : ℕ) (other : Move) where
  pub count_or_digit : digit b ≡ true → count_or x b other ≡ still (in_count x 1 (b - 48))
  unfolding count_or
  count_or_digit d = rw (d, count_or)

  pub count_or_slash : digit b ≡ false → eqb b 47 ≡ true → count_or x b other ≡ still (at_slash x)
  unfolding count_or
  count_or_slash d s = rw (d, s, count_or)

  pub count_or_other : digit b ≡ false → eqb b 47 ≡ false → count_or x b other ≡ other
  unfolding count_or
  count_or_other d s = rw (d, s, count_or)

-- THE STEPS, state by state
pub dead_stays : (b : ℕ) → fstep dead b ≡ still dead
unfolding fstep
dead_stays b = refl

module _ (begun : Bool) (b : ℕ) where
  pub between_upper : upper b ≡ true → fstep (between begun) b ≡ still (at_one false 0 b)
  unfolding fstep
  between_upper u = rw (u, fstep)

  pub between_caret : upper b ≡ false → eqb b 94 ≡ true → fstep (between begun) b ≡ still at_caret
  unfolding fstep
  between_caret u c = rw (u, c, fstep)

  pub between_gap : upper b ≡ false → eqb b 94 ≡ false → gap b ≡ true → fstep (between begun) b ≡ still (between begun)
  unfolding fstep
  between_gap u c g = rw (u, c, g, fstep)

  pub between_star : upper b ≡ false → eqb b 94 ≡ false → gap b ≡ false → (eqb b 42 && begun) ≡ true → fstep (between begun) b ≡ still (between false)
  unfolding fstep
  between_star u c g s = rw (u, c, g, s, fstep)

  pub between_dead : upper b ≡ false → eqb b 94 ≡ false → gap b ≡ false → (eqb b 42 && begun) ≡ false → fstep (between begun) b ≡ still dead
  unfolding fstep
  between_dead u c g s = rw (u, c, g, s, fstep)

module _ (b : ℕ) where
  pub caret_digit : digit b ≡ true → fstep at_caret b ≡ still (in_mass 1 (b - 48))
  unfolding fstep
  caret_digit d = rw (d, fstep)

  pub caret_dead : digit b ≡ false → fstep at_caret b ≡ still dead
  unfolding fstep
  caret_dead d = rw (d, fstep)

  pub slash_digit : (x : Sym) → digit b ≡ true → fstep (at_slash x) b ≡ still (in_count x 1 (b - 48))
  unfolding fstep
  slash_digit x d = rw (d, fstep)

  pub slash_dead : (x : Sym) → digit b ≡ false → fstep (at_slash x) b ≡ still dead
  unfolding fstep
  slash_dead x d = rw (d, fstep)

module _ (n v b : ℕ) where
  pub mass_digit : digit b ≡ true → n < 3 → fstep (in_mass n v) b ≡ still (in_mass (suc n) (v * 10 + (b - 48)))
  unfolding fstep
  mass_digit d h = rw (d, lt-ltb n 3 h, fstep)

  pub mass_long : digit b ≡ true → 3 ≤ n → fstep (in_mass n v) b ≡ still dead
  unfolding fstep
  mass_long d h = rw (d, le-ltb n 3 h, fstep)

  pub mass_upper : digit b ≡ false → upper b ≡ true → fstep (in_mass n v) b ≡ still (at_one true v b)
  unfolding fstep
  mass_upper d u = rw (d, u, fstep)

  pub mass_dead : digit b ≡ false → upper b ≡ false → fstep (in_mass n v) b ≡ still dead
  unfolding fstep
  mass_dead d u = rw (d, u, fstep)

module _ (c : Bool) (m a b : ℕ) where
  pub one_lower : lower b ≡ true → fstep (at_one c m a) b ≡ still (at_two (sym_of c m a b))
  unfolding fstep
  one_lower l = rw (l, fstep)

  pub one_other : lower b ≡ false → fstep (at_one c m a) b ≡ count_or (sym_of c m a 0) b (part (counted (sym_of c m a 0) 1) b)
  unfolding fstep
  one_other l = rw (l, fstep)

pub two_is : (x : Sym) (b : ℕ) → fstep (at_two x) b ≡ count_or x b (leave (counted x 1) b)
unfolding fstep
two_is x b = refl

module _ (x : Sym) (n v b : ℕ) where
  pub count_digit : digit b ≡ true → n < 6 → fstep (in_count x n v) b ≡ still (in_count x (suc n) (v * 10 + (b - 48)))
  unfolding fstep
  count_digit d h = rw (d, lt-ltb n 6 h, fstep)

  pub count_long : digit b ≡ true → 6 ≤ n → fstep (in_count x n v) b ≡ still dead
  unfolding fstep
  count_long d h = rw (d, le-ltb n 6 h, fstep)

  pub count_other : digit b ≡ false → fstep (in_count x n v) b ≡ leave (counted x v) b
  unfolding fstep
  count_other d = rw (d, fstep)

-- THE RUN, step by step
pub join_none : (es : List Counted) → join es None ≡ None
join_none es = refl

pub join_nil : (r : Option (List Counted)) → join [] r ≡ r
join_nil None = refl
join_nil (Some fs) = refl

pub join_join : (es fs : List Counted) (r : Option (List Counted)) → join es (join fs r) ≡ join (es ++ fs) r
join_join es fs None = refl
join_join es fs (Some gs) = ap Some (sym (append_assoc es fs gs))

pub run_nil : (q : FState) → frun q [] ≡ finish q
unfolding frun
run_nil q = refl

pub run_cons : (q : FState) (b : ℕ) (s : Bytes) → frun q (b ∷ s) ≡ join (fstep q b).told (frun (fstep q b).state s)
unfolding frun
run_cons q b s = refl

pub run_step : (q : FState) (b : ℕ) (s : Bytes) (m : Move) → fstep q b ≡ m → frun q (b ∷ s) ≡ join m.told (frun m.state s)
run_step q b s m e = run_cons q b s ∙ ap (λ (m : Move). join m.told (frun m.state s)) e

pub run_goes : (q r : FState) (b : ℕ) (s : Bytes) → fstep q b ≡ still r → frun q (b ∷ s) ≡ frun r s
run_goes q r b s e = run_step q b s (still r) e ∙ join_nil (frun r s)

pub run_tells : (q r : FState) (x : Counted) (b : ℕ) (s : Bytes) → fstep q b ≡ tells x r → frun q (b ∷ s) ≡ join (x ∷ []) (frun r s)
run_tells q r x b s e = run_step q b s (tells x r) e

pub run_dead : (s : Bytes) → frun dead s ≡ None
run_dead [] = run_nil dead
run_dead (b ∷ s) = run_goes dead dead b s (dead_stays b) ∙ run_dead s

pub formula_is : (s : Bytes) → formula_shape s ≡ frun (between false) s
unfolding formula_shape
formula_is s = refl

-- at an index
module _ (q : FState) (s : Bytes) (i : ℕ) where
  pub run_at : (m : Move) → i < length s → fstep q (get_or s i 0) ≡ m → frun q (drop i s) ≡ join m.told (frun m.state (drop (i + 1) s))
  run_at m h e = rw (drop-cons s i 0 h, add-one i) (run_step q (get_or s i 0) (drop (suc i) s) m e)

  pub run_at_goes : (r : FState) → i < length s → fstep q (get_or s i 0) ≡ still r → frun q (drop i s) ≡ frun r (drop (i + 1) s)
  run_at_goes r h e = run_at (still r) h e ∙ join_nil (frun r (drop (i + 1) s))

  pub run_at_dead : i < length s → fstep q (get_or s i 0) ≡ still dead → frun q (drop i s) ≡ None
  run_at_dead h e = run_at_goes dead h e ∙ run_dead (drop (i + 1) s)

  pub run_at_end : length s ≤ i → frun q (drop i s) ≡ finish q
  run_at_end h = ap (frun q) (drop_of_length-le s h) ∙ run_nil q
