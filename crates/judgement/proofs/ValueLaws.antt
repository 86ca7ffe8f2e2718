-- Values of one field, from a line's first field and from whether anything follows it: document 01, "Rows", JCAMP-CS and BLOCK_ID; document 02, L4, STEREOMOLECULE; and
-- a line without fields is a blank one. Assumes nothing.
use Prim.Native.Nat.{ℕ, ◌-◌, ◌≤◌, ◌<◌}
use mathlib.Core.Path.{◌≡◌, refl, sym, ap, ◌∙◌}
use mathlib.Core.Bool.{Bool, true, false, ◌&&◌, and-true}
use Rattle.std.specs.declared.option.Option.{Option}
use Rattle.std.specs.declared.option.Option.TheVariants.{None, Some}
use mathlib.Core.List.{List, [], ◌∷◌}
use native.Mathlib.Omega.{arith}
use lib.ListN.{length, take, drop, length-drop}
use lib.Seq.{take_all}
use lib.Dec.{eqb}
use borrow.Author.Tests.{eq-eqb, ne_eqb}
use Rattle.lists.specs.Lists.{is_nil, all, same_by}
use Rattle.lists.proofs.Bools.{and_right_false, and_left_false}
use Rattle.lists.proofs.ListLaws.{all_in, all_out}
use Rattle.format.specs.Bytes.{Bytes, bytes, same, gap, fields}
use Rattle.format.specs.Rows.{field, number}
use Rattle.format.specs.Reading.{State, Go, Stop, with_body, with_id, id_value, id_turn, only_field}
use Rattle.format.proofs.FieldLaws.{fields_gap, fields_first}
use Rattle.fields.specs.NextFields.{NextField, field_in}
use Rattle.fields.specs.declared.Field.{Field}
use Rattle.std.specs.Prelude.{IfSome, nat_eq}
use lib.Pointwise.{pointwise}

-- A LINE WITHOUT FIELDS is a blank one
pub fields_blank : (s : Bytes) → is_nil (fields s) ≡ all gap s
unfolding fields all
fields_blank [] = refl
fields_blank (b ∷ s) = go (gap b) refl (fields_blank s)
  where
    go : (t : Bool) → gap b ≡ t → is_nil (fields s) ≡ all gap s → is_nil (fields (b ∷ s)) ≡ all gap (b ∷ s)
    go true e ih = ap is_nil (fields_gap b s e) ∙ ih ∙ sym (all_in gap b s e)
    go false e ih = ap is_nil (fields_first b s e) ∙ sym (all_out gap b s e)

-- what follows a field, as it is lent
pub rest_blank : (line : Bytes) (w : Field) → NextField line 0 w → all gap (take (length line - w.to) (drop w.to line)) ≡ is_nil (drop 1 (fields line))
rest_blank line w n =
    ap (all gap) (take_all (length line - w.to) (drop w.to line) (simp length-drop (omega arith))) ∙ sym (fields_blank (drop w.to line)) ∙ ap is_nil n.rest

-- TWO WORDS compared by the library
pub same_words : (v w : Bytes) → pointwise nat_eq v w ≡ same v w
unfolding same_by
same_words [] [] = refl
same_words [] (b ∷ w) = refl
same_words (a ∷ v) [] = refl
same_words (a ∷ v) (b ∷ w) = ap (λ (r : Bool). eqb a b && r) (same_words v w)

-- one field alone, and it is a word
abbrev pub is_word : Bytes → List Bytes → Bool
is_word v fs = same (field 0 fs) v && is_nil (drop 1 fs)

module _ (v line : Bytes) (w : Field) (n : NextField line 0 w) (same_as : Bool) (e : same_as ≡ same (field_in line w) v) where
  pub only_other : same_as ≡ false → false ≡ is_word v (fields line)
  only_other h = sym (and_left_false (same (field 0 (fields line)) v) (is_nil (drop 1 (fields line))) (ap (λ (z : Bytes). same z v) (sym n.is) ∙ sym e ∙ h))

  pub only_alone : (r : Bool) → same_as ≡ true → r ≡ all gap (take (length line - w.to) (drop w.to line)) → r ≡ is_word v (fields line)
  only_alone r h f = f ∙ rest_blank line w n ∙ sym (ap (λ (b : Bool). b && is_nil (drop 1 (fields line))) (ap (λ (z : Bytes). same z v) (sym n.is) ∙ sym e ∙ h))

-- JCAMP-CS
abbrev pub is_version : List Bytes → Bool
is_version fs = same (field 0 fs) (bytes "3.7") && is_nil (drop 1 fs)

pub version_only : (fs : List Bytes) → is_word (51 ∷ 46 ∷ 55 ∷ []) fs ≡ is_version fs
unfolding bytes
version_only fs = refl

-- STEREOMOLECULE
abbrev pub is_yes : List Bytes → Bool
is_yes fs = same (only_field fs) (bytes "YES")

pub yes_only : (fs : List Bytes) → is_word (89 ∷ 69 ∷ 83 ∷ []) fs ≡ is_yes fs
unfolding bytes same_by
yes_only [] = refl
yes_only (f ∷ []) = and-true (same f (89 ∷ 69 ∷ 83 ∷ []))
yes_only (f ∷ g ∷ fs) = and_right_false (same f (89 ∷ 69 ∷ 83 ∷ [])) false refl

-- BLOCK_ID
module _ (line : Bytes) (w : Field) (n : NextField line 0 w) (r : Option ℕ) (says : r ≡ number (field_in line w)) (small : IfSome r (λ n. n < 1000000)) where
  id_is : (st : State) (k : Option ℕ) → r ≡ k → id_turn st (fields line) ≡ id_value st (is_nil (drop 1 (fields line))) k
  unfolding id_turn
  id_is st k q = ap (id_value st (is_nil (drop 1 (fields line)))) (ap number (sym n.is) ∙ sym says ∙ q)

  pub id_wrong : r ≡ None → (st : State) → id_turn st (fields line) ≡ Stop 9
  id_wrong q st = id_is st None q

  module _ (v : ℕ) (q : r ≡ Some v) (b : Bool) (e : b ≡ all gap (take (length line - w.to) (drop w.to line))) where
    id_alone : (t : Bool) → b ≡ t → (st : State) → id_turn st (fields line) ≡ id_value st t (Some v)
    id_alone t f st = id_is st (Some v) q ∙ ap (λ (a : Bool). id_value st a (Some v)) (sym (rest_blank line w n) ∙ sym e ∙ f)

    pub id_more : b ≡ false → (st : State) → id_turn st (fields line) ≡ Stop 9
    id_more f st = id_alone false f st

    pub id_zero : b ≡ true → v ≡ 0 → (st : State) → id_turn st (fields line) ≡ Stop 10
    id_zero f z st = id_alone true f st ∙ rw (eq-eqb v 0 z, id_value)

    few : IfSome (Some v) (λ n. n < 1000000)
    few = rw q at small

    pub id_taken : b ≡ true → (v ≡ 0 → ⊥) → ((st : State) → id_turn st (fields line) ≡ Go (with_body st (with_id v st.body))) × (v ≤ 999999)
    id_taken f z = (λ st. id_alone true f st ∙ rw (ne_eqb v 0 z, id_value), omega (arith, few))
