-- A line of CHARGE or RADICAL: its shape, what the row's reader answers of it, and what the line's answer shows of the list after it. Document 01, "Rows" (9 and 10, then
-- what the row that joins answers). Assumes nothing.
use Prim.Native.Nat.{ℕ, ◌≤◌, ◌<◌}
use mathlib.Core.Path.{◌≡◌, refl, sym, ap, ◌∙◌, subst}
use mathlib.Core.Bool.{Bool, true, false, not}
use Rattle.std.specs.declared.option.Option.{Option}
use Rattle.std.specs.declared.option.Option.TheVariants.{None, Some}
use mathlib.Core.List.{List, [], ◌∷◌}
use native.Mathlib.Omega.{arith}
use lib.ListN.{length, drop}
use lib.IntN.{ℤ}
use Rattle.lists.specs.Lists.{is_nil, all}
use Rattle.lists.proofs.Bools.{torn}
use Rattle.lists.proofs.ListLaws.{all_nil, all_in, all_parts}
use Rattle.format.specs.Bytes.{Bytes, fields}
use Rattle.format.specs.Labels.{ListOf}
use Rattle.format.specs.Rows.{Row, row, number, numbers, spread, row_shape, ◌and_then◌}
use Rattle.format.specs.Structure.{ranged}
use Rattle.fields.specs.NextFields.{field_in, NextField}
use Rattle.fields.specs.declared.Field.{Field}
use Rattle.sorted.specs.Steps.{After, kept, refused, if◌breaks◌else◌, row_after, row_step}
use Rattle.sorted.specs.Regions.{coded, spread_region}
use Rattle.sorted.specs.Shown.{ShowsAfter}
use lib.Dec.{eqb}
use borrow.Author.Tests.{eqb-false}
use Rattle.std.specs.Prelude.{Result, Ok, Err}
use Rattle.format.specs.Refusals.{number_of}
use Rattle.format.specs.declared.refusal.Refusal.{Refusal}
use Rattle.format.specs.declared.refusal.Refusal.TheVariants.{Shape, Range}
use Rattle.spread.specs.Members.{list_of, value_in, in_range, spread_answer, is_number, member_in, members_in}
use Rattle.spread.specs.declared.SpreadRow.{SpreadRow}
use Rattle.spread.proofs.MemberLaws.{number_member, number_is, wrong_is}

-- THE LINE'S SHAPE
numbers_more : (f : Bytes) (fs : List Bytes) (n : ℕ) (ns : List ℕ) → number f ≡ Some n → numbers fs ≡ Some ns → numbers (f ∷ fs) ≡ Some (n ∷ ns)
unfolding numbers
numbers_more f fs n ns e g = rw (e, g, ◌and_then◌)

numbers_first : (f : Bytes) (fs : List Bytes) → number f ≡ None → numbers (f ∷ fs) ≡ None
unfolding numbers
numbers_first f fs e = rw (e, ◌and_then◌)

numbers_rest : (f : Bytes) (fs : List Bytes) (n : ℕ) → number f ≡ Some n → numbers fs ≡ None → numbers (f ∷ fs) ≡ None
unfolding numbers
numbers_rest f fs n e g = rw (e, g, ◌and_then◌)

numbers_nil : numbers [] ≡ Some []
unfolding numbers
numbers_nil = refl

pub numbers_are : (fs : List Bytes) → all is_number fs ≡ true → numbers fs ≡ Some (members_in fs)
numbers_are [] h = numbers_nil
numbers_are (f ∷ fs) h =
    let p : (is_number f ≡ true) × (all is_number fs ≡ true) = all_parts is_number f fs h in
    go (number f) refl p.0 (numbers_are fs p.1)
  where
    go : (o : Option ℕ) → number f ≡ o → is_number f ≡ true → numbers fs ≡ Some (members_in fs) → numbers (f ∷ fs) ≡ Some (member_in f ∷ members_in fs)
    go None e b ih = torn (is_number f) b (wrong_is f e)
    go (Some n) e b ih = numbers_more f fs n (members_in fs) e ih ∙ ap (λ (m : ℕ). Some (m ∷ members_in fs)) (sym (number_member f n e))

pub numbers_none : (fs : List Bytes) → all is_number fs ≡ false → numbers fs ≡ None
numbers_none [] h = torn (all is_number []) (all_nil is_number) h
numbers_none (f ∷ fs) h = go (number f) refl (numbers_none fs)
  where
    go : (o : Option ℕ) → number f ≡ o → (all is_number fs ≡ false → numbers fs ≡ None) → numbers (f ∷ fs) ≡ None
    go None e ih = numbers_first f fs e
    go (Some n) e ih = numbers_rest f fs n e (ih (sym (all_in is_number f fs (number_is f n e)) ∙ h))

charge_shape : (fs : List Bytes) → row_shape (list_of true) fs ≡ spread (value_in true) fs
unfolding row_shape
charge_shape fs = refl

radical_shape : (fs : List Bytes) → row_shape (list_of false) fs ≡ spread (value_in false) fs
unfolding row_shape
radical_shape fs = refl

module _ (s : Bool) (f : Bytes) (fs : List Bytes) where
  shape_spread : row_shape (list_of s) (f ∷ fs) ≡ spread (value_in s) (f ∷ fs)
  shape_spread = go s
    where
      go : (b : Bool) → row_shape (list_of b) (f ∷ fs) ≡ spread (value_in b) (f ∷ fs)
      go true = charge_shape (f ∷ fs)
      go false = radical_shape (f ∷ fs)

  pub shape_wrong : value_in s f ≡ None → row_shape (list_of s) (f ∷ fs) ≡ None
  unfolding spread
  shape_wrong e = shape_spread ∙ rw (e, ◌and_then◌)

  pub shape_rest : numbers fs ≡ None → row_shape (list_of s) (f ∷ fs) ≡ None
  unfolding spread
  shape_rest g = shape_spread ∙ go (value_in s f)
    where
      go : (o : Option ℤ) → (o and_then λ v. numbers fs and_then λ ns. Some (row ns v 0)) ≡ None
      go None = refl
      go (Some v) = rw (g, ◌and_then◌)

  pub shape_is : (v : ℤ) (ns : List ℕ) → value_in s f ≡ Some v → numbers fs ≡ Some ns → row_shape (list_of s) (f ∷ fs) ≡ Some (row ns v 0)
  unfolding spread
  shape_is v ns e g = shape_spread ∙ rw (e, g, ◌and_then◌)

-- THE LINE
step_nil : (l : ListOf) (n : ℕ) (rs : List Row) → row_step l n rs [] ≡ kept rs
unfolding row_step
step_nil l n rs = refl

step_some : (l : ListOf) (n : ℕ) (rs : List Row) (fs : List Bytes) → is_nil fs ≡ false → row_step l n rs fs ≡ row_after l n rs (row_shape l fs)
unfolding row_step
step_some l n rs [] e = torn true refl e
step_some l n rs (f ∷ fs) e = refl

after_none : (l : ListOf) (n : ℕ) (rs : List Row) → row_after l n rs None ≡ refused 9
unfolding row_after
after_none l n rs = refl

after_beyond : (l : ListOf) (n : ℕ) (rs : List Row) (r : Row) → ranged l r.value ≡ false → row_after l n rs (Some r) ≡ refused 10
unfolding row_after
after_beyond l n rs r e = rw (e, not, if◌breaks◌else◌)

-- WHAT THE ROW'S READER ANSWERS, from its tests: the first field, and the fields behind it
module _ (s : Bool) (line : Bytes) (f : Field) (h : NextField line 0 f) (more : f.from < f.to) where
  abbrev first : Bytes
  first = field_in line f

  abbrev rest : List Bytes
  rest = fields (drop f.to line)

  abbrev asked : Result SpreadRow Refusal
  asked = spread_answer s f.to (row_shape (list_of s) (fields line))

  shape_at : row_shape (list_of s) (fields line) ≡ row_shape (list_of s) (first ∷ rest)
  shape_at = ap (row_shape (list_of s)) (h.some more)

  pub row_wrong : value_in s first ≡ None → Err Shape ≡ asked
  row_wrong e = sym (ap (spread_answer s f.to) (shape_at ∙ shape_wrong s first rest e))

  pub row_unnumbered : all is_number rest ≡ false → Err Shape ≡ asked
  row_unnumbered e = sym (ap (spread_answer s f.to) (shape_at ∙ shape_rest s first rest (numbers_none rest e)))

  pub row_is : (v : ℤ) (fits : Bool) → value_in s first ≡ Some v → all is_number rest ≡ true → ranged (list_of s) v ≡ fits → in_range fits (coded v) f.to ≡ asked
  row_is v fits q n g =
      sym (ap (spread_answer s f.to) (shape_at ∙ shape_is s first rest v (members_in rest) q (numbers_are rest n)) ∙ ap (λ (b : Bool). in_range b (coded v) f.to) g)

  module _ (v w : ℤ) (same : w ≡ v) (q : value_in s first ≡ Some v) (n : all is_number rest ≡ true) where
    pub row_beyond : ranged (list_of s) w ≡ false → Err Range ≡ asked
    row_beyond g = row_is v false q n (ap (ranged (list_of s)) (sym same) ∙ g)

    pub row_values : ranged (list_of s) w ≡ true → (k : ℕ) → k ≡ coded w → Ok (record { code = k; members = f.to }) ≡ asked
    row_values g k e = ap (λ (c : ℕ). Ok (record { code = c; members = f.to })) (e ∙ ap coded same) ∙ row_is v true q n (ap (ranged (list_of s)) (sym same) ∙ g)

none_torn : {X : Type 0} (r : Row) → None ≡ Some r → X
none_torn r e = absurd (let z : ◌≡◌ {A = ℕ} 0 1 = cc in omega arith)

-- A ROW WITH A SHAPE has the members that stand behind its value
shaped_is : (s : Bool) (f : Bytes) (fs : List Bytes) (r : Row) → row_shape (list_of s) (f ∷ fs) ≡ Some r → row_shape (list_of s) (f ∷ fs) ≡ Some (row (members_in fs) r.value 0)
shaped_is s f fs r e = numbered (all is_number fs) refl
  where
    same_value : (v : ℤ) → Some (row (members_in fs) v 0) ≡ Some r → v ≡ r.value
    same_value v q = let w : row (members_in fs) v 0 ≡ r = cc in ap (λ (x : Row). x.value) w

    valued : (o : Option ℤ) → value_in s f ≡ o → numbers fs ≡ Some (members_in fs) → row_shape (list_of s) (f ∷ fs) ≡ Some (row (members_in fs) r.value 0)
    valued None q g = none_torn r (sym (shape_wrong s f fs q) ∙ e)
    valued (Some v) q g =
        let w : row_shape (list_of s) (f ∷ fs) ≡ Some (row (members_in fs) v 0) = shape_is s f fs v (members_in fs) q g in
        w ∙ ap (λ (x : ℤ). Some (row (members_in fs) x 0)) (same_value v (sym w ∙ e))

    numbered : (b : Bool) → all is_number fs ≡ b → row_shape (list_of s) (f ∷ fs) ≡ Some (row (members_in fs) r.value 0)
    numbered true q = valued (value_in s f) refl (numbers_are fs q)
    numbered false q = none_torn r (sym (shape_rest s f fs (numbers_none fs q)) ∙ e)

-- WHAT THE LINE'S ANSWER SHOWS, from the row's: what has a shape or none, o, is refused so, or has those values
refused_after : (s : Bool) (n : ℕ) (rs : List Row) (behind : ℕ) (o : Option Row) (e : Refusal) → Err e ≡ spread_answer s behind o → row_after (list_of s) n rs o ≡ refused (number_of e)
refused_after s n rs behind None e q = let w : e ≡ Shape = cc in after_none (list_of s) n rs ∙ ap (λ x. refused (number_of x)) (sym w)
refused_after s n rs behind (Some r) e q = go (ranged (list_of s) r.value) refl
  where
    go : (b : Bool) → ranged (list_of s) r.value ≡ b → row_after (list_of s) n rs (Some r) ≡ refused (number_of e)
    go true g = let w : ◌≡◌ {A = Result SpreadRow Refusal} (Err e) (Ok _) = q ∙ ap (λ (b : Bool). in_range b (coded r.value) behind) g in let z : ◌≡◌ {A = ℕ} 0 1 = cc in absurd (omega arith)
    go false g =
        let w : ◌≡◌ {A = Result SpreadRow Refusal} (Err e) (Err Range) = q ∙ ap (λ (b : Bool). in_range b (coded r.value) behind) g in
        let z : e ≡ Range = cc in
        after_beyond (list_of s) n rs r g ∙ ap (λ x. refused (number_of x)) (sym z)

-- a row in its range, with that code for its value and its members from that place on
pub record Has (s : Bool) (o : Option Row) (behind : ℕ) (k : SpreadRow) : Type 0 where
  pub found : Row
  pub is : o ≡ Some found
  pub range : ranged (list_of s) found.value ≡ true
  pub coding : coded found.value ≡ k.code
  pub place : k.members ≡ behind

has : (s : Bool) (behind : ℕ) (o : Option Row) (k : SpreadRow) → Ok k ≡ spread_answer s behind o → Has s o behind k
has s behind None k e = let z : ◌≡◌ {A = ℕ} 0 1 = cc in absurd (omega arith)
has s behind (Some r) k e = go (ranged (list_of s) r.value) refl
  where
    go : (b : Bool) → ranged (list_of s) r.value ≡ b → Has s (Some r) behind k
    go false g = let w : ◌≡◌ {A = Result SpreadRow Refusal} (Ok k) (Err Range) = e ∙ ap (λ (b : Bool). in_range b (coded r.value) behind) g in let z : ◌≡◌ {A = ℕ} 0 1 = cc in absurd (omega arith)
    go true g =
        let w : ◌≡◌ {A = Result SpreadRow Refusal} (Ok k) (Ok (record { code = coded r.value; members = behind })) = e ∙ ap (λ (b : Bool). in_range b (coded r.value) behind) g in
        let q : k ≡ record { code = coded r.value; members = behind } = cc in
        record { found = r; is = refl; range = g; coding = sym (ap (λ (x : SpreadRow). x.code) q); place = ap (λ (x : SpreadRow). x.members) q }

module _ (s : Bool) (atoms : ℕ) (rs : List Row) (line : Bytes) (f : Field) (h : NextField line 0 f) where
  abbrev after : After Row
  after = row_step (list_of s) atoms rs (fields line)

  pub shows_blank : (count : ℕ) (t : List ℕ) → f.from ≡ f.to → length rs ≡ count → t ≡ spread_region rs → ShowsAfter spread_region t (Ok count) after
  shows_blank count t e len is =
      let q : after ≡ kept rs = ap (row_step (list_of s) atoms rs) (h.none e) ∙ step_nil (list_of s) atoms rs in
      subst (ShowsAfter spread_region t (Ok count)) (sym q) (ap Ok (sym len), is)

  module _ (more : f.from < f.to) (r : Result SpreadRow Refusal) (a : r ≡ spread_answer s f.to (row_shape (list_of s) (fields line))) where
    after_is : after ≡ row_after (list_of s) atoms rs (row_shape (list_of s) (fields line))
    after_is = step_some (list_of s) atoms rs (fields line) (ap is_nil (h.some more))

    pub shows_refused : (e : Refusal) (u : List ℕ) (y : Result ℕ Refusal) → r ≡ Err e → y ≡ Err e → ShowsAfter spread_region u y after
    shows_refused e u y q o = rw (o, after_is ∙ refused_after s atoms rs f.to (row_shape (list_of s) (fields line)) e (sym q ∙ a)) refl

    pub shows_row : (k : SpreadRow) → r ≡ Ok k → (u : List ℕ) (y : Result ℕ Refusal)
        → ((w : ℤ) → ranged (list_of s) w ≡ true → coded w ≡ k.code → ShowsAfter spread_region u y (row_after (list_of s) atoms rs (Some (row (members_in (fields (drop k.members line))) w 0))))
        → ShowsAfter spread_region u y after
    shows_row k e u y j =
        let q = has s f.to (row_shape (list_of s) (fields line)) k (sym e ∙ a) in
        let w = q.found.value in
        let d : row_shape (list_of s) (fields line) ≡ Some (row (members_in (fields (drop k.members line))) w 0)
        = ap (row_shape (list_of s)) (h.some more) ∙ shaped_is s (field_in line f) (fields (drop f.to line)) q.found (sym (ap (row_shape (list_of s)) (h.some more)) ∙ q.is)
        ∙ ap (λ (i : ℕ). Some (row (members_in (fields (drop i line))) w 0)) (sym q.place) in
        subst (ShowsAfter spread_region u y) (sym (after_is ∙ ap (row_after (list_of s) atoms rs) d)) (j w q.range q.coding)

-- the ends of the first field tell that there is one
pub some_field : (line : Bytes) (f : Field) → NextField line 0 f → eqb f.from f.to ≡ false → f.from < f.to
some_field line f h e = omega (arith, h.order, eqb-false f.from f.to e)
