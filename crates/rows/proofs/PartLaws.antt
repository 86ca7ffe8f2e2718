-- The parts that rows share: atoms in front, an optional last field, and the fields behind those read: document 01, "Rows". Assumes nothing.
use Prim.Native.Nat.{ℕ, suc, ◌≤◌}
use mathlib.Core.Path.{◌≡◌, refl, sym, ap, ◌∙◌}
use Rattle.std.specs.declared.option.Option.{Option}
use Rattle.std.specs.declared.option.Option.TheVariants.{None, Some}
use mathlib.Core.List.{List, [], ◌∷◌}
use native.Mathlib.Nat.{add-zero}
use native.Mathlib.Numerals.{add-one}
use lib.ListN.{length, drop, get_or}
use lib.Seq.{get_or-drop, drop-drop}
use Rattle.format.specs.Bytes.{Bytes, fields}
use Rattle.format.specs.Rows.{◌and_then◌, number, field, first_numbers}
use Rattle.fields.specs.NextFields.{field_in, NextField}
use Rattle.fields.specs.declared.Field.{Field}
use Rattle.rows.specs.Parts.{Behind, AtomIs, TwoAre}
use Rattle.rows.specs.declared.parts.AtomAt.{AtomAt}

-- THE FIELDS BEHIND the first n of a line
module _ (line : Bytes) (n at : ℕ) (b : Behind line n at) where
  pub first_behind : field 0 (fields (drop at line)) ≡ field n (fields line)
  first_behind =
      ap (λ (fs : List Bytes). get_or fs 0 []) b.rest
      ∙ get_or-drop n (fields line) 0 [] ∙ ap (λ (k : ℕ). get_or (fields line) k []) (add-zero n)

  pub one_behind : (to : ℕ) → fields (drop to line) ≡ drop 1 (fields (drop at line)) → to ≤ length line → Behind line (suc n) to
  one_behind to e h = record { rest = e ∙ ap (drop 1) b.rest ∙ drop-drop 1 n (fields line) ∙ ap (λ (k : ℕ). drop k (fields line)) (add-one n); high = h }

pub behind_atom : (line : Bytes) (a : AtomAt) → AtomIs line 0 a → Behind line 1 a.to
behind_atom line a h = record { rest = h.rest; high = h.high }

-- THE FIELD at a place
module _ (line : Bytes) (at : ℕ) (f : Field) (next : NextField line at f) where
  module _ (n : ℕ) (b : Behind line n at) where
    pub field_behind : field_in line f ≡ field n (fields line)
    field_behind = next.is ∙ first_behind line n at b

    pub behind_next : Behind line (suc n) f.to
    behind_next = one_behind line n at b f.to next.rest (next.high b.high)

-- THE FIRST NUMBERS
pub first_is : (n : ℕ) (fs : List Bytes) (a : Option ℕ) (ns : Option (List ℕ)) → number (field 0 fs) ≡ a → first_numbers n (drop 1 fs) ≡ ns
    → first_numbers (suc n) fs ≡ (a and_then λ a. ns and_then λ ns. Some (a ∷ ns))
unfolding first_numbers
first_is n fs a ns e q = rw (e, q) refl

first_zero : (fs : List Bytes) → first_numbers 0 fs ≡ Some []
unfolding first_numbers
first_zero fs = refl

pub one_is : (fs : List Bytes) (n : ℕ) → number (field 0 fs) ≡ Some n → first_numbers 1 fs ≡ Some (n ∷ [])
one_is fs n e = first_is 0 fs (Some n) (Some []) e (first_zero (drop 1 fs))

pub one_none : (fs : List Bytes) → number (field 0 fs) ≡ None → first_numbers 1 fs ≡ None
one_none fs e = first_is 0 fs None _ e refl

module _ (line : Bytes) where
  pub two_first : number (field 0 (fields line)) ≡ None → first_numbers 2 (fields line) ≡ None
  two_first e = first_is 1 (fields line) None _ e refl

  module _ (a : AtomAt) (h : AtomIs line 0 a) where
    again : (o : Option ℕ) → number (field 0 (fields (drop a.to line))) ≡ o → number (field 0 (drop 1 (fields line))) ≡ o
    again o e = sym (ap (λ (fs : List Bytes). number (field 0 fs)) h.rest) ∙ e

    pub two_second : number (field 0 (fields (drop a.to line))) ≡ None → first_numbers 2 (fields line) ≡ None
    two_second e = first_is 1 (fields line) (Some a.number) None h.is (one_none (drop 1 (fields line)) (again None e))

    pub two_are : (b : AtomAt) → AtomIs line a.to b → TwoAre line (record { first = a.number; second = b.number; to = b.to })
    two_are b k = record {
      are = first_is 1 (fields line) (Some a.number) (Some (b.number ∷ [])) h.is (one_is (drop 1 (fields line)) b.number (again (Some b.number) k.is));
      one = h.small;
      other = k.small;
      behind = one_behind line 1 a.to (behind_atom line a h) b.to k.rest k.high;
    }
