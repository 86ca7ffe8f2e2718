-- The way back, the labels: each label as it is written is read as the known label, its value being what follows; and which of them stand in order behind which.
-- Serves document 01, demand 2; the labels' order is that of "The one written form". Assumes nothing.
use Prim.Native.Nat.{ℕ, ◌+◌, ◌-◌}
use mathlib.Core.Path.{◌≡◌, refl, ap, ◌∙◌}
use mathlib.Core.Bool.{Bool, true, false, not, ◌||◌}
use mathlib.Core.List.{List, [], ◌∷◌, ◌++◌}
use native.Mathlib.Omega.{arith}
use lib.ListN.{length, length-append}
use lib.Dec.{eqb, ltb}
use borrow.Author.Tests.{not-true}
use Rattle.lists.specs.Lists.{is_nil, all, any}
use Rattle.lists.proofs.Bools.{not_of_false}
use Rattle.lists.proofs.ListLaws.{all_parts, all_both, all_nil, all_append_both, any_neither, any_cons, any_imply, any_miss}
use Rattle.format.specs.Bytes.{Bytes, bytes, allowed}
use Rattle.format.specs.Labels.{ListOf, Bonds, Charges, Radicals, Centres, Pairs, Holds, Text, Version, Formula, BlockId, Atoms, Rows, End, Label, label, misplaced, Labelled, line_of, title_line, Handedness}
use Rattle.format.specs.Reading.{Rules, State, lacks, over, noted, opened, value_turn, line_step}
use Rattle.format.specs.Writing.{list_label}
use Rattle.format.proofs.CutLaws.{feedless}
use Rattle.format.proofs.Computing.{computing}
use Rattle.demands.proofs.WayBackLines.{state_with, label_step}

abbrev pub title_label : Label
title_label = label "TITLE" (Text 0) 1 1 1

abbrev pub version_label : Label
version_label = label "JCAMPCS" Version 2 2 2

abbrev pub origin_label : Label
origin_label = label "ORIGIN" (Text 1) 3 3 3

abbrev pub owner_label : Label
owner_label = label "OWNER" (Text 2) 4 4 4

abbrev pub formula_label : Label
formula_label = label "MOLFORM" Formula 5 5 5

abbrev pub atoms_label : Label
atoms_label = label "ATOMLIST" Atoms 6 6 6

abbrev pub id_label : Label
id_label = label "BLOCKID" BlockId 12 3 9

abbrev pub end_label : Label
end_label = label "END" End 13 10 10

abbrev pub yes_label : Label
yes_label = label "STEREOMOLECULE" Handedness 17 9 9

abbrev pub label_of : ListOf → Label
label_of Bonds = label "BONDLIST" (Rows Bonds) 7 7 7
label_of Charges = label "CHARGE" (Rows Charges) 8 8 8
label_of Radicals = label "RADICAL" (Rows Radicals) 9 9 9
label_of Centres = label "STEREOCENTER" (Rows Centres) 10 9 9
label_of Pairs = label "STEREOPAIR" (Rows Pairs) 11 9 9

-- A LABEL AS IT IS WRITTEN: of allowed bytes, without line feed, and read as the label with what follows
pub record Written (h : Bytes) (x : Label) : Type 0 where
  pub fine : all allowed h ≡ true
  pub one : feedless h ≡ true
  pub read : (v : Bytes) → line_of (h ++ v) ≡ Labelled x v

pub title_written : Written (bytes "##TITLE=") title_label
unfolding computing
title_written = record { fine = refl; one = refl; read = λ v. refl }

pub title_line_lem : (v : Bytes) → title_line (bytes "##TITLE=" ++ v) ≡ true
unfolding computing
title_line_lem v = refl

pub version_written : Written (bytes "##JCAMP-CS=") version_label
unfolding computing
version_written = record { fine = refl; one = refl; read = λ v. refl }

pub origin_written : Written (bytes "##ORIGIN=") origin_label
unfolding computing
origin_written = record { fine = refl; one = refl; read = λ v. refl }

pub owner_written : Written (bytes "##OWNER=") owner_label
unfolding computing
owner_written = record { fine = refl; one = refl; read = λ v. refl }

pub id_written : Written (bytes "##BLOCK_ID=") id_label
unfolding computing
id_written = record { fine = refl; one = refl; read = λ v. refl }

pub formula_written : Written (bytes "##MOLFORM=") formula_label
unfolding computing
formula_written = record { fine = refl; one = refl; read = λ v. refl }

pub atoms_written : Written (bytes "##ATOMLIST=") atoms_label
unfolding computing
atoms_written = record { fine = refl; one = refl; read = λ v. refl }

pub end_written : Written (bytes "##END=") end_label
unfolding computing
end_written = record { fine = refl; one = refl; read = λ v. refl }

pub yes_written : Written (bytes "##STEREOMOLECULE=") yes_label
unfolding computing
yes_written = record { fine = refl; one = refl; read = λ v. refl }

pub list_written : (l : ListOf) → Written (bytes (list_label l)) (label_of l)
unfolding computing
list_written Bonds = record { fine = refl; one = refl; read = λ v. refl }
list_written Charges = record { fine = refl; one = refl; read = λ v. refl }
list_written Radicals = record { fine = refl; one = refl; read = λ v. refl }
list_written Centres = record { fine = refl; one = refl; read = λ v. refl }
list_written Pairs = record { fine = refl; one = refl; read = λ v. refl }

-- what a list's label holds, and that it is known
pub list_holds : (l : ListOf) → (label_of l).holds ≡ Rows l
unfolding label
list_holds Bonds = refl
list_holds Charges = refl
list_holds Radicals = refl
list_holds Centres = refl
list_holds Pairs = refl

pub list_known : (l : ListOf) → eqb (label_of l).code 0 ≡ false
unfolding label
list_known Bonds = refl
list_known Charges = refl
list_known Radicals = refl
list_known Centres = refl
list_known Pairs = refl

-- IN ORDER: labels to come, none of which is misplaced behind those seen
abbrev pub free : List Label → Label → Bool
free seen x = not (misplaced seen x)

-- a label behind another
abbrev pub follows : Label → Label → Bool
follows y x = not (eqb y.code x.code || ltb x.high y.low)

pub free_cons : (y : Label) (seen : List Label) (x : Label) → follows y x ≡ true → free seen x ≡ true → free (y ∷ seen) x ≡ true
unfolding misplaced
free_cons y seen x f g =
    not_of_false _ (any_neither (λ (z : Label). eqb z.code x.code || ltb x.high z.low) y seen (not-true (eqb y.code x.code || ltb x.high y.low) f) (not-true _ g))

pub free_more : (y : Label) (seen xs : List Label) → all (follows y) xs ≡ true → all (free seen) xs ≡ true → all (free (y ∷ seen)) xs ≡ true
free_more y seen [] f g = all_nil (free (y ∷ seen))
free_more y seen (x ∷ xs) f g =
    let p : (follows y x ≡ true) × (all (follows y) xs ≡ true) = all_parts (follows y) x xs f in
    let q : (free seen x ≡ true) × (all (free seen) xs ≡ true) = all_parts (free seen) x xs g in
    all_both (free (y ∷ seen)) x xs (free_cons y seen x p.0 q.0) (free_more y seen xs p.1 q.1)

-- SEEN: a label that has been seen is not lacking, whatever follows
pub lacks_more : (y : Label) (seen : List Label) (c : ℕ) → lacks seen c ≡ false → lacks (y ∷ seen) c ≡ false
unfolding lacks
lacks_more y seen c h = go (eqb y.code c) refl
  where
    go : (t : Bool) → eqb y.code c ≡ t → not (any (λ x. eqb x.code c) (y ∷ seen)) ≡ false
    go true e = rw (any_cons (λ (x : Label). eqb x.code c) y seen, e)
    go false e = rw (any_cons (λ (x : Label). eqb x.code c) y seen, e) h

pub lacks_other : (y : Label) (seen : List Label) (c : ℕ) → eqb y.code c ≡ false → lacks (y ∷ seen) c ≡ lacks seen c
unfolding lacks
lacks_other y seen c h = ap not (any_miss (λ (x : Label). eqb x.code c) y seen h)

pub had_more : (y : Label) (seen : List Label) (cs : List ℕ) → any (lacks seen) cs ≡ false → any (lacks (y ∷ seen)) cs ≡ false
had_more y seen cs h = any_imply (lacks seen) (lacks (y ∷ seen)) (lacks_more y seen) cs h

-- and one that has not been seen is lacking, behind any other
pub spare_more : (y : Label) (seen : List Label) (cs : List ℕ) → all (λ c. not (eqb y.code c)) cs ≡ true → all (lacks seen) cs ≡ true → all (lacks (y ∷ seen)) cs ≡ true
spare_more y seen [] f h = all_nil (lacks (y ∷ seen))
spare_more y seen (c ∷ cs) f h =
    let p : (not (eqb y.code c) ≡ true) × (all (λ d. not (eqb y.code d)) cs ≡ true) = all_parts (λ d. not (eqb y.code d)) c cs f in
    let q : (lacks seen c ≡ true) × (all (lacks seen) cs ≡ true) = all_parts (lacks seen) c cs h in
    all_both (lacks (y ∷ seen)) c cs (lacks_other y seen c (not-true (eqb y.code c) p.0) ∙ q.0) (spare_more y seen cs p.1 q.1)

-- THE STEP of a label line as it is written: its value's turn, the label among the seen
pub noted_known : (c : ℕ) (x : Label) (seen : List Label) → eqb c 0 ≡ false → noted c x seen ≡ x ∷ seen
noted_known c x seen e = rw (e, noted)

module _ (u : Rules) (st : State) (h : Bytes) (x : Label) (w : Written h x) (begun : is_nil st.seen ≡ false) (m : misplaced st.seen x ≡ false) (o : over st.running ≡ false) where
  pub label_value : (held : Holds) → x.holds ≡ held → eqb x.code 0 ≡ false → (v : Bytes) → all allowed v ≡ true →
      line_step u st (h ++ v) ≡ value_turn u held (state_with st.geometry st.at (x ∷ st.seen) held st.texts st.formula st.body) (st.at + length h) v
  label_value held e c v a =
      let n : length (h ++ v) - length v ≡ length h = omega (arith, length-append h v) in
      label_step u st (h ++ v) (all_append_both allowed h v w.fine a) begun x v (w.read v) m o
      ∙ ap (λ (k : ℕ). value_turn u x.holds (opened st x) (st.at + k) v) n
      ∙ ap (λ (l : List Label). value_turn u x.holds (state_with st.geometry st.at l x.holds st.texts st.formula st.body) (st.at + length h) v) (noted_known x.code x st.seen c)
      ∙ ap (λ (k : Holds). value_turn u k (state_with st.geometry st.at (x ∷ st.seen) k st.texts st.formula st.body) (st.at + length h) v) e
