-- The table's first sixteen numbers as they are put there: document 01, "The structure table" ("start and length in the block of title, origin, owner (empty: 0,
-- 0)"; "13 to 15 are 0"); document 02, L4. Assumes nothing.
use Prim.Native.Nat.{ℕ, ◌+◌, ◌-◌, ◌*◌, ◌≤◌, ◌<◌}
use mathlib.Core.Path.{◌≡◌, refl, sym, ap, ◌∙◌}
use mathlib.Core.Bool.{Bool, true, false}
use mathlib.Core.List.{List, [], ◌∷◌}
use native.Mathlib.Omega.{arith}
use lib.ListN.{length, take, drop, replicate, length-drop}
use lib.IntN.{ℤ, pos}
use lib.Seq.{sets, length-take-le}
use mir.Val.{bool_byte}
use Rattle.format.specs.Bytes.{Bytes, lead, trim}
use Rattle.format.specs.Reading.{span_from, span_of}
use Rattle.format.specs.Table.{span_cells, flag, text_place}
use Rattle.fields.specs.Trims.{Trimmed}
use Rattle.fields.specs.declared.Field.{Field}
use Rattle.gather.specs.Progress.{part_of, prose_at, Within}
use Rattle.gather.specs.declared.progress.Progress.{Progress}
use Rattle.filling.specs.Filled.{signed_of, placed}
use Rattle.filling.proofs.FillLaws.{signed_small}
use Rattle.format.proofs.PlaceLaws.{text_place_lem}
use Rattle.header.specs.Header.{counts_out, header_out}

-- TEXTS
span_some : (p : ℕ) (s : Bytes) → 0 < length s → span_cells (span_from p s) ≡ pos p ∷ pos (length s) ∷ []
span_some p [] h = absurd (omega arith)
span_some p (b ∷ s) h = refl

module _ (block : Bytes) (x : Field) (r : Field) (w : Within (length block) x) (h : Trimmed (part_of block x.from x.to) r) where
  kept_length : length (trim (part_of block x.from x.to)) ≡ r.to - r.from
  kept_length =
      let text : Bytes = part_of block x.from x.to in
      ap length (sym h.is) ∙ length-take-le (r.to - r.from) (drop r.from text) (omega (arith, h.order, h.high, length-drop r.from text))

  pub text_empty : r.from ≡ r.to → signed_of 0 ∷ signed_of 0 ∷ [] ≡ span_cells (span_of (prose_at block x))
  unfolding span_of
  text_empty e =
      let q : r.to - r.from ≡ 0 = omega arith in
      let n : trim (part_of block x.from x.to) ≡ [] = sym h.is ∙ ap (λ k. take k (drop r.from (part_of block x.from x.to))) q in
      ap (λ z. z ∷ z ∷ []) (signed_small 0 (omega arith)) ∙ sym (ap (λ s. span_cells (span_from (x.from + lead (part_of block x.from x.to)) s)) n)

  pub text_full : length block ≤ 32768 → (r.from ≡ r.to → ⊥) → signed_of (x.from + r.from) ∷ signed_of (r.to - r.from) ∷ [] ≡ span_cells (span_of (prose_at block x))
  unfolding span_of
  text_full b e =
      let text : Bytes = part_of block x.from x.to in
      let l : length text ≡ x.to - x.from = length-take-le (x.to - x.from) (drop x.from block) (omega (arith, w.order, w.high, length-drop x.from block)) in
      let d : r.from < r.to = omega (arith, h.order) in
      let p : signed_of (x.from + r.from) ≡ pos (x.from + lead text) = signed_small (x.from + r.from) (omega (arith, w.order, w.high, h.order, h.high)) ∙ ap (λ k. pos (x.from + k)) h.low in
      let q : signed_of (r.to - r.from) ≡ pos (length (trim text)) = signed_small (r.to - r.from) (omega (arith, w.order, w.high, h.order, h.high)) ∙ ap pos (sym kept_length) in
      ap (λ z. z ∷ signed_of (r.to - r.from) ∷ []) p ∙ ap (λ z. pos (x.from + lead text) ∷ z ∷ []) q
      ∙ sym (span_some (x.from + lead text) (trim text) (omega (arith, kept_length)))

-- a text's numbers stand where the table's type says
pub text_placed : (t t' vs : List ℤ) (i at : ℕ) → i < 3 → at ≡ text_place i → t' ≡ placed t at vs → t' ≡ placed t (7 + 2 * i) vs
text_placed t t' vs i at h a e = e ∙ ap (λ k. placed t k vs) (a ∙ text_place_lem i h)

-- THE HEADER
-- the number that tells whether the molecule is handed as a whole
flagged : (b : Bool) → signed_of (bool_byte b) ≡ flag b
flagged true = signed_small 1 (omega arith)
flagged false = signed_small 0 (omega arith)

pub handed_placed : (t t' : List ℤ) (b : Bool) (n : ℕ) → n ≡ bool_byte b → t' ≡ placed t 13 (signed_of n ∷ []) → t' ≡ placed t 13 (flag b ∷ [])
handed_placed t t' b n h e = e ∙ ap (λ z. placed t 13 (z ∷ [])) (ap signed_of h ∙ flagged b)

pub header_is : (t t₀ t₁ t₂ t₃ t₄ t₅ : List ℤ) (block : Bytes) (p : Progress) → length t ≡ 16 → t₀ ≡ replicate (length t) (pos 0) → t₁ ≡ placed t₀ 0 (counts_out p)
    → t₂ ≡ placed t₁ 7 (span_cells (span_of (prose_at block p.title))) → t₃ ≡ placed t₂ 9 (span_cells (span_of (prose_at block p.origin)))
    → t₄ ≡ placed t₃ 11 (span_cells (span_of (prose_at block p.owner))) → t₅ ≡ placed t₄ 13 (flag p.handed ∷ []) → t₅ ≡ header_out block p
unfolding placed header_out
header_is t t₀ t₁ t₂ t₃ t₄ t₅ block p h a b c d e f =
    let u : List ℤ = span_cells (span_of (prose_at block p.title)) in
    let v : List ℤ = span_cells (span_of (prose_at block p.origin)) in
    let w : List ℤ = span_cells (span_of (prose_at block p.owner)) in
    f ∙ ap (λ l. sets l 13 (flag p.handed ∷ [])) (e ∙ ap (λ l. sets l 11 w) (d ∙ ap (λ l. sets l 9 v) (c ∙ ap (λ l. sets l 7 u) (b ∙ ap (λ l. sets l 0 (counts_out p)) (a ∙ ap (λ n. replicate n (pos 0)) h)))))
