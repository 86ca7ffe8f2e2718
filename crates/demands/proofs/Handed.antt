-- Number 13 of the table is 1 exactly when the block has its YES, and else 0, after every accepted reading; where it is set in a sound table it is 1, and there are no
-- centres and no pairs. Document 02, L4. Assumes nothing.
use Prim.Native.Nat.{ℕ}
use mathlib.Core.Path.{◌≡◌, refl, sym, ap, ◌∙◌}
use mathlib.Core.Bool.{Bool, true, false, not, ◌&&◌}
use mathlib.Core.List.{List, [], ◌∷◌, ◌++◌}
use native.Mathlib.Omega.{arith}
use lib.ListN.{length, drop, take-append-drop}
use lib.IntN.{ℤ, pos}
use Rattle.lists.specs.Lists.{is_nil, flat, rows_from}
use Rattle.lists.proofs.Bools.{torn}
use Rattle.format.specs.Bytes.{Bytes, cut}
use Rattle.format.specs.Rows.{Row}
use Rattle.format.specs.Structure.{Structure, handed_twice}
use Rattle.format.specs.Reading.{Span}
use Rattle.format.specs.Table.{flag, counts, derived, encode, decode, spans_of, sound, Lent, short, ReadResult, read_result}
use Rattle.demands.specs.Accepted.{only_if, labels, named, Yes, YES, yes_rows, Obeys, ◌exactly_when◌}
use Rattle.demands.specs.ReadAs.{structure_in}
use Rattle.demands.specs.Handed.{number_at, HandedTold, HandedAlone}
use Rattle.demands.proofs.Accepted.{accepted_iff}
use Rattle.demands.proofs.ReadAs.{table_is}
use Rattle.demands.proofs.WayBack.{fine_structure}
use Rattle.demands.proofs.WayBackTables.{Sound, sound_parts}

-- THE NUMBERS of a structure's table, whatever stands beyond
module _ (s : Structure) (a b c : Span) (beyond : List ℤ) where
  abbrev numbers : List ℤ
  numbers = encode s (a ∷ b ∷ c ∷ []) ++ beyond

  numbers_are : (number_at 13 numbers ≡ flag s.handed) × (number_at 4 numbers ≡ pos (length s.centres)) × (number_at 5 numbers ≡ pos (length s.pairs))
  unfolding encode counts derived flat
  numbers_are = (refl, refl, refl)

-- A FLAG of rows that are one YES or none
told_by : (there : Bool) (ys : List Yes) (n : ℤ) → ys ≡ only_if there YES → n ≡ flag (not (is_nil ys)) → ((n ≡ pos 1) exactly_when (ys ≡ YES ∷ [])) × ((ys ≡ YES ∷ [] → ⊥) → n ≡ pos 0)
told_by true ys n e f = ((λ h. e, λ h. f ∙ ap (λ (zs : List Yes). flag (not (is_nil zs))) e), λ h. absurd (h e))
told_by false ys n e f =
    let q : n ≡ pos 0 = f ∙ ap (λ (zs : List Yes). flag (not (is_nil zs))) e in
    ((λ h. absurd (zero_one (sym q ∙ h)), λ h. absurd (none_one (sym e ∙ h))), λ h. q)
  where
    zero_one : pos 0 ≡ pos 1 → ⊥
    zero_one h = let z : ◌≡◌ {A = ℕ} 0 1 = cc in omega arith

    none_one : [] ≡ YES ∷ [] → ⊥
    none_one h = let z : ◌≡◌ {A = ℕ} 0 1 = ap (λ (zs : List Yes). length zs) h in omega arith

pub handed_given : (k : ℕ) (b : Bytes) (l : Lent) → short l ≡ false → (read_result k b l).number ≡ 0 → HandedTold b (read_result k b l).after.table
handed_given k b l wide accepted =
    let y : Obeys k b = (accepted_iff k b l wide).0 accepted in
    let q : number_at 13 (read_result k b l).after.table ≡ flag (not (is_nil (yes_rows b))) =
    ap (λ (r : ReadResult). number_at 13 r.after.table) (table_is k b l wide y) ∙ (numbers_are (structure_in k b) _ _ _ (drop 3856 l.table)).0 in
    let told : ((number_at 13 (read_result k b l).after.table ≡ pos 1) exactly_when (yes_rows b ≡ YES ∷ [])) × ((yes_rows b ≡ YES ∷ [] → ⊥) → number_at 13 (read_result k b l).after.table ≡ pos 0) =
    told_by (named (labels (cut b)) 17) (yes_rows b) _ y.yes_once q in
    record { given = told.0; not_given = told.1 }

-- A SOUND TABLE with 13 set
alone_by : (h : Bool) (n : ℤ) (cs ps : List Row) → n ≡ flag h → (n ≡ pos 0 → ⊥) → (h && not (is_nil cs && is_nil ps)) ≡ false → (n ≡ pos 1) × (cs ≡ []) × (ps ≡ [])
alone_by false n cs ps e set once = absurd (set e)
alone_by true n [] [] e set once = (e, refl, refl)
alone_by true n [] (p ∷ ps) e set once = torn true refl once
alone_by true n (c ∷ cs) ps e set once = torn true refl once

module _ (k : ℕ) (t : List ℤ) (b : Bytes) (ok : sound k t b ≡ true) where
  parts : Sound k t b
  parts = sound_parts k t b ok

  table_as : t ≡ encode (decode t) (spans_of t) ++ drop 3856 t
  table_as = sym (take-append-drop 3856 t) ∙ ap (λ (r : List ℤ). r ++ drop 3856 t) (sym parts.numbers)

  sound_numbers_lem : (number_at 13 t ≡ flag (decode t).handed) × (number_at 4 t ≡ pos (length (decode t).centres)) × (number_at 5 t ≡ pos (length (decode t).pairs))
  unfolding spans_of rows_from
  sound_numbers_lem =
      let q = numbers_are (decode t) _ _ _ (drop 3856 t) in
      (ap (number_at 13) table_as ∙ q.0, ap (number_at 4) table_as ∙ q.1, ap (number_at 5) table_as ∙ q.2)

  pub handed_alone : (number_at 13 t ≡ pos 0 → ⊥) → HandedAlone t
  unfolding handed_twice
  handed_alone set =
      let q : (number_at 13 t ≡ pos 1) × ((decode t).centres ≡ []) × ((decode t).pairs ≡ []) =
      alone_by (decode t).handed (number_at 13 t) (decode t).centres (decode t).pairs sound_numbers_lem.0 set (fine_structure k (decode t) parts.structure).once in
      record {
        one = q.0;
        no_centres = sound_numbers_lem.1 ∙ ap (λ (rs : List Row). pos (length rs)) q.1;
        no_pairs = sound_numbers_lem.2 ∙ ap (λ (rs : List Row). pos (length rs)) q.2;
      }
