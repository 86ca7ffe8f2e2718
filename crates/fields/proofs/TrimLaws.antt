-- The part of a text that is kept, found from both ends. Serves document 01, "Lines and labels" ("with blanks and line feeds cut from both ends"). Assumes nothing.
use Prim.Native.Nat.{ℕ, zero, suc, ◌+◌, ◌-◌, ◌≤◌, ◌<◌}
use mathlib.Core.Path.{◌≡◌, sym, ap, ◌∙◌}
use native.Mathlib.Nat.{zero-add}
use native.Mathlib.Omega.{arith}
use mathlib.Core.Bool.{true, false}
use lib.ListN.{length, get_or, take, drop, length-drop}
use lib.Seq.{take_all, get_or-drop}
use Rattle.format.specs.Bytes.{Bytes, gap, lead, trim_end, trim}
use Rattle.format.proofs.TextLaws.{lead_is, trim_is, part_none, part_gap, part_ink}
use Rattle.fields.specs.declared.Field.{Field}
use Rattle.alphabet.specs.Runs.{RunEnd}
use Rattle.fields.specs.NextFields.{field_in}
use Rattle.fields.specs.Trims.{Trimmed}

trim_from : (s : Bytes) (a : ℕ) → a ≡ lead s → trim s ≡ trim_end (take (length s - a) (drop a s))
trim_from s a e =
    let q : take (length s - a) (drop a s) ≡ drop a s = take_all (length s - a) (drop a s) (simp length-drop (omega arith)) in
    trim_is s ∙ ap (λ (n : ℕ). trim_end (drop n s)) (sym (lead_is s) ∙ sym e) ∙ ap trim_end (sym q)

module _ (s : Bytes) (r : Field) (from : r.from ≡ lead s) (order : r.from ≤ r.to) (high : r.to ≤ length s) (is : trim s ≡ trim_end (field_in s r)) where
  trims : trim_end (field_in s r) ≡ field_in s r → Trimmed s r
  trims e = record { low = from; order = order; high = high; is = sym (is ∙ e) }

  trims_none : r.to ≤ r.from → Trimmed s r
  trims_none h =
      let z : r.to - r.from ≡ 0 = omega arith in
      trims (part_none s r.from r.to h ∙ sym (ap (λ (n : ℕ). take n (drop r.from s)) z))

-- gaps at the end of a part do not count
cut_gaps : (s : Bytes) (a e n : ℕ) → a ≤ e → e + n ≤ length s → ((k : ℕ) → e ≤ k → k < e + n → gap (get_or s k 0) ≡ true) → trim_end (take (e + n - a) (drop a s)) ≡ trim_end (take (e - a) (drop a s))
cut_gaps s a e zero h k g = let q : e + 0 ≡ e = omega arith in ap (λ i. trim_end (take (i - a) (drop a s))) q
cut_gaps s a e (suc n) h k g =
    let q : e + suc n - 1 ≡ e + n = omega arith in
    part_gap s a (e + suc n) (omega arith) k (ap (λ i. gap (get_or s i 0)) q ∙ g (e + n) (omega arith) (omega arith))
    ∙ ap (λ i. trim_end (take (i - a) (drop a s))) q
    ∙ cut_gaps s a e n h (omega arith) (λ i l m. g i l (omega arith))

-- the part of a text in front of whose place a the gaps stand: what a search from its end finds
module _ (s : Bytes) (a : ℕ) (h : RunEnd gap s 0 a) (t : Bytes) (t_is : t ≡ drop a s) where
  lead_is_here : a ≡ lead s
  lead_is_here = h.is ∙ zero-add _ ∙ sym (lead_is s)

  ends_gap : (e : ℕ) → a ≤ e → e ≤ length s → ((k : ℕ) → e ≤ a + k → k < length t → gap (get_or t k 0) ≡ true) → trim s ≡ trim_end (take (e - a) (drop a s))
  ends_gap e k l g =
      let n : e + (length s - e) ≡ length s = omega arith in
      trim_from s a lead_is_here ∙ ap (λ i. trim_end (take (i - a) (drop a s))) (sym n) ∙ cut_gaps s a e (length s - e) k (omega arith) (λ i m o.
      let j : a + (i - a) ≡ i = omega arith in
      sym (ap gap (ap (λ x. get_or x (i - a) 0) t_is ∙ get_or-drop a s (i - a) 0 ∙ ap (λ x. get_or s x 0) j)) ∙ g (i - a) (omega arith) (omega (arith, ap length t_is, length-drop a s)))

  -- the last that is no gap is found
  pub kept_to : (last : ℕ) → last < length t → gap (get_or t last 0) ≡ false → ((k : ℕ) → last < k → k < length t → gap (get_or t k 0) ≡ true) → Trimmed s (record { from = a; to = a + last + 1 })
  kept_to last l e g =
      let high : a + last + 1 ≤ length s = omega (arith, ap length t_is, length-drop a s) in
      let q : a + last + 1 - 1 ≡ a + last = omega arith in
      let i = ends_gap (a + last + 1) (omega arith) high (λ k m o. g k (omega arith) o) in
      trims s (record { from = a; to = a + last + 1 }) lead_is_here (omega arith) high i
      (part_ink s a (a + last + 1) (omega arith) high (ap (λ x. gap (get_or s x 0)) q ∙ sym (ap gap (ap (λ x. get_or x last 0) t_is ∙ get_or-drop a s last 0)) ∙ e))

  -- there is none
  pub kept_none : ((k : ℕ) → k < length t → gap (get_or t k 0) ≡ true) → Trimmed s (record { from = a; to = a })
  kept_none g = trims_none s (record { from = a; to = a }) lead_is_here (omega arith) (h.high (omega arith)) (ends_gap a (omega arith) (h.high (omega arith)) (λ k m o. g k o)) (omega arith)
