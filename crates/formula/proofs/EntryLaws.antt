-- A quick entry, piece by piece, as a run of the formula's machine: the gaps before it, its letters, its count, the gap behind it. Document 01, "Rows", MOLFORM.
-- Assumes nothing.
use Prim.Native.Nat.{ℕ, zero, suc, ◌+◌, ◌-◌, ◌*◌, ◌^◌, ◌≤◌, ◌<◌}
use mathlib.Core.Path.{◌≡◌, refl, sym, ap, ap₂, ◌∙◌}
use mathlib.Core.List.{[], ◌∷◌}
use lib.Seq.{drop-drop}
use Rattle.lists.specs.Lists.{span}
use Rattle.alphabet.specs.Runs.{RunEnd}
use mathlib.Core.Bool.{Bool, true, false}
use native.Mathlib.Omega.{arith}
use lib.ListN.{length, get_or, drop}
use borrow.Author.Tests.{ne_eqb}
use Rattle.format.specs.Bytes.{Bytes, gap}
use Rattle.format.specs.Rows.{Sym, sym_of, digit, upper, lower}
use Rattle.format.specs.Formula.{counted, FState, between, at_one, at_two, in_count, still, tells, leave, fstep, join, frun}
use Rattle.format.proofs.ByteLaws.{within_low, gap_small, digit_lower}
use Rattle.format.proofs.FormulaLaws.{part_gap, leave_part, count_or_digit, count_or_other, between_upper, between_gap, run_goes, one_lower, one_other, two_is, count_digit, count_other, run_at, run_at_goes}
use Rattle.symbols.specs.ShownSymbols.{sym_of_mark}
use Rattle.symbols.specs.declared.Mark.{Mark}
use Rattle.formula.specs.Entries.{Opens, LettersAre, CountIs, EntryIs}
use Rattle.formula.proofs.StepLaws.{short, digit_more}
use Rattle.formula.specs.declared.entry.Entry.{Entry}

-- A GAP is no letter, no digit, no `/` and no `^`
module _ (b : ℕ) (g : gap b ≡ true) where
  no_upper : upper b ≡ false
  no_upper = within_low 65 90 b (omega (arith, gap_small b g))

  no_lower : lower b ≡ false
  no_lower = within_low 97 122 b (omega (arith, gap_small b g))

  no_digit : digit b ≡ false
  no_digit = within_low 48 57 b (omega (arith, gap_small b g))

  between_passes : (begun : Bool) → fstep (between begun) b ≡ still (between begun)
  between_passes begun = between_gap begun b no_upper (ne_eqb b 94 (λ e. omega (arith, gap_small b g))) g

  -- it ends an entry
  leave_gap : (x : Sym) (n : ℕ) → leave (counted x n) b ≡ tells (counted x n) (between true)
  leave_gap x n = leave_part (counted x n) b no_upper ∙ part_gap (counted x n) b g

  one_gap : (a : ℕ) → fstep (at_one false 0 a) b ≡ tells (counted (sym_of false 0 a 0) 1) (between true)
  one_gap a = one_other false 0 a b no_lower ∙ count_or_other _ b _ no_digit (ne_eqb b 47 (λ e. omega (arith, gap_small b g))) ∙ part_gap _ b g

  two_gap : (x : Sym) → fstep (at_two x) b ≡ tells (counted x 1) (between true)
  two_gap x = two_is x b ∙ count_or_other x b _ no_digit (ne_eqb b 47 (λ e. omega (arith, gap_small b g))) ∙ leave_gap x 1

  count_gap : (x : Sym) (n v : ℕ) → fstep (in_count x n v) b ≡ tells (counted x v) (between true)
  count_gap x n v = count_other x n v b no_digit ∙ leave_gap x v

-- THE GAPS before an entry
pub record PastGaps (s : Bytes) (at to : ℕ) : Type 0 where
  pub low : at ≤ to
  pub is : (begun : Bool) → frun (between begun) (drop at s) ≡ frun (between begun) (drop to s)

gaps_passed : (s : Bytes) (begun : Bool) → frun (between begun) s ≡ frun (between begun) (drop (span gap s) s)
unfolding span
gaps_passed [] begun = refl
gaps_passed (b ∷ s) begun = go (gap b) refl (gaps_passed s begun)
  where
    go : (t : Bool) → gap b ≡ t → frun (between begun) s ≡ frun (between begun) (drop (span gap s) s) → frun (between begun) (b ∷ s) ≡ frun (between begun) (drop (elim t [ true ↦ suc (span gap s) | false ↦ 0 ]) (b ∷ s))
    go true g ih = run_goes (between begun) (between begun) b s (between_passes b g begun) ∙ ih
    go false g ih = refl

pub past_gaps : (s : Bytes) (at to : ℕ) → RunEnd gap s at to → PastGaps s at to
past_gaps s at to r = record {
  low = r.low;
  is = λ begun. gaps_passed (drop at s) begun ∙ ap (frun (between begun)) (drop-drop (span gap (drop at s)) at s ∙ ap (λ (n : ℕ). drop n s) (sym r.is));
}

-- THE LETTERS
abbrev letters_of : (first second : ℕ) → Mark
letters_of a b = record { caret = false; mass = 0; first = a; second = b }

opens_one : (a : ℕ) → Opens (at_one false 0 a) (sym_of false 0 a 0)
opens_one a = record { ends = λ b g. one_gap b g a; counts = λ b d. one_other false 0 a b (digit_lower b d) ∙ count_or_digit _ b _ d }

opens_two : (x : Sym) → Opens (at_two x) x
opens_two x = record { ends = λ b g. two_gap b g x; counts = λ b d. two_is x b ∙ count_or_digit x b _ d }

module _ (s : Bytes) (at a b : ℕ) (room : at + 1 < length s) (first : a ≡ get_or s at 0) (second : b ≡ get_or s (at + 1) 0) (u : upper a ≡ true) (m : Mark) where
  first_run : (begun : Bool) → frun (between begun) (drop at s) ≡ frun (at_one false 0 a) (drop (at + 1) s)
  first_run begun = run_at_goes (between begun) s at (at_one false 0 a) (omega arith) (rw (← first) (between_upper begun a u))

  pub letters_one : m ≡ letters_of a 0 → LettersAre s at m (at + 1)
  letters_one e = rw e (record { low = omega arith; behind = at_one false 0 a; opens = opens_one a; is = first_run })

  pub letters_two : lower b ≡ true → m ≡ letters_of a b → LettersAre s at m (at + 1 + 1)
  letters_two l e =
      let x : Sym = sym_of false 0 a b in
      rw e (record {
        low = omega arith;
        behind = at_two x;
        opens = opens_two x;
        is = λ begun. first_run begun ∙ run_at_goes (at_one false 0 a) s (at + 1) (at_two x) room (rw (← second) (one_lower false 0 a b l));
      })

-- THE COUNT, its digits from `at` to i read, v their number
pub record Counting (s : Bytes) (at i v : ℕ) : Type 0 where
  pub low : at ≤ i
  pub few : i - at ≤ 4
  pub none : i ≡ at → v ≡ 0
  pub small : v < 10 ^ (i - at)
  pub is : at < i → (q : FState) (x : Sym) → Opens q x → frun q (drop at s) ≡ frun (in_count x (i - at) v) (drop i s)

module _ (s : Bytes) (at : ℕ) where
  pub count_starts : Counting s at at 0
  count_starts = let e : at - at ≡ 0 = omega arith in record { low = omega arith; few = omega arith; none = λ z. refl; small = rw e (omega arith); is = λ l. absurd (omega arith) }

  module _ (i v : ℕ) (c : Counting s at i v) where
    pub count_short : (i - at ≡ 4 → ⊥) → v < 100000
    count_short n = short (i - at) v (omega (arith, c.few)) c.small

    module _ (h : i < length s) where
      abbrev byte : ℕ
      byte = get_or s i 0

      count_goes : digit byte ≡ true → i - at < 4 → (m : ℕ) → i - at ≡ m → (q : FState) (x : Sym) → Opens q x → frun q (drop at s) ≡ frun (in_count x (i + 1 - at) (v * 10 + (byte - 48))) (drop (i + 1) s)
      count_goes d k zero z q x o =
          let p : at ≡ i = omega (arith, c.low) in
          let e : i + 1 - at ≡ 1 = omega arith in
          let f : v * 10 + (byte - 48) ≡ byte - 48 = omega (arith, c.none (sym p)) in
          ap (λ (n : ℕ). frun q (drop n s)) p ∙ run_at_goes q s i (in_count x 1 (byte - 48)) h (o.counts byte d) ∙ ap₂ (λ (n w : ℕ). frun (in_count x n w) (drop (i + 1) s)) (sym e) (sym f)
      count_goes d k (suc m) z q x o =
          let e : i + 1 - at ≡ suc (i - at) = omega (arith, c.low) in
          c.is (omega arith) q x o ∙ rw e (run_at_goes (in_count x (i - at) v) s i (in_count x (suc (i - at)) (v * 10 + (byte - 48))) h (count_digit x (i - at) v byte d (omega arith)))

      pub count_more : (i - at ≡ 4 → ⊥) → digit byte ≡ true → Counting s at (i + 1) (v * 10 + (byte - 48))
      count_more k d =
          let e : i + 1 - at ≡ suc (i - at) = omega (arith, c.low) in
          record {
            low = omega (arith, c.low);
            few = omega (arith, c.few);
            none = λ z. absurd (omega (arith, c.low));
            small = rw e (digit_more (i - at) v byte d c.small);
            is = λ l q x o. count_goes d (omega (arith, c.few)) (i - at) refl q x o;
          }

      module _ (g : gap byte ≡ true) (n : ℕ) (bare : i ≡ at → n ≡ 1) (told : (i ≡ at → ⊥) → n ≡ v) where
        count_told : (m : ℕ) → i - at ≡ m → (q : FState) (x : Sym) → Opens q x → frun q (drop at s) ≡ join (counted x n ∷ []) (frun (between true) (drop (i + 1) s))
        count_told zero z q x o =
            let p : at ≡ i = omega (arith, c.low) in
            ap (λ (n : ℕ). frun q (drop n s)) p ∙ run_at q s i (tells (counted x 1) (between true)) h (o.ends byte g) ∙ ap (λ (n : ℕ). join (counted x n ∷ []) (frun (between true) (drop (i + 1) s))) (sym (bare (sym p)))
        count_told (suc m) z q x o =
            c.is (omega arith) q x o
            ∙ run_at (in_count x (i - at) v) s i (tells (counted x v) (between true)) h (count_gap byte g x (i - at) v)
            ∙ ap (λ (n : ℕ). join (counted x n ∷ []) (frun (between true) (drop (i + 1) s))) (sym (told (λ e. omega arith)))

        pub count_ends : CountIs s at n (i + 1)
        count_ends = record { low = omega (arith, c.low); high = omega arith; is = λ q x o. count_told (i - at) refl q x o }

-- THE ENTRY
pub entry_is : (s : Bytes) (at from to next : ℕ) (e : Entry) → PastGaps s at from → LettersAre s from e.mark to → CountIs s to e.count next → EntryIs s at e next
entry_is s at from to next e p l c = record {
  low = omega (arith, p.low, l.low, c.low);
  high = c.high;
  is = λ begun. p.is begun ∙ l.is begun ∙ c.is l.behind (sym_of_mark e.mark) l.opens;
}
