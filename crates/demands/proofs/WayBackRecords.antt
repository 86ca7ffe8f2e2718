-- The way back, the records of one value: the three texts, the version, the block id and END, each read as it is written. Serves document 01, demand 2. Assumes
-- nothing.
use Prim.Native.Nat.{ℕ, suc, ◌+◌, ◌-◌, ◌<◌}
use mathlib.Core.Path.{◌≡◌, refl, ap, ◌∙◌}
use mathlib.Core.Bool.{Bool, true, false, not, ◌&&◌, ◌||◌}
use mathlib.Core.List.{List, [], ◌∷◌, ◌++◌}
use native.Mathlib.Omega.{arith}
use lib.ListN.{length, length-append}
use lib.Dec.{eqb}
use borrow.Author.Tests.{ne_eqb}
use Rattle.lists.specs.Lists.{is_nil, all, any}
use Rattle.lists.proofs.Bools.{or_neither, and_right_false}
use Rattle.lists.proofs.ListLaws.{all_append_both}
use Rattle.format.specs.Bytes.{Bytes, bytes, allowed, fields, strip}
use Rattle.format.specs.Labels.{Holds, Text, Version, BlockId, End, Skipped, Label, label, misplaced, Handedness}
use Rattle.format.specs.Coordinates.{exceeds, no_geometry}
use Rattle.format.specs.Structure.{Entry, entries_of, agree, Structure, handed_twice}
use Rattle.format.specs.Reading.{Rules, State, Prose, prose, Go, over, with_id, id_turn, lacks, end_turn, value_turn, line_step, start, partly, with_body, with_yes, if◌stop◌else◌}
use Rattle.format.specs.Table.{text_fine}
use Rattle.format.specs.Writing.{digits, valued}
use Rattle.format.proofs.FieldLaws.{inline, printed_inline, strip_value, value_back}
use Rattle.format.proofs.NumberLaws.{number_back, printed_number, digits_printed}
use Rattle.format.proofs.TextLaws.{valued_allowed}
use Rattle.format.proofs.ReadingLaws.{step_on, line_value}
use Rattle.format.proofs.Computing.{computing}
use Rattle.demands.proofs.WayBackLines.{state_with, state_of, Through, through_line, record_full, inline_fine}
use Rattle.demands.proofs.WayBackLabels.{title_label, title_written, title_line_lem, version_label, version_written, origin_label, origin_written, owner_label, owner_written, id_label, id_written, end_label, end_written, label_value, yes_label, yes_written}
use Rattle.demands.proofs.WayBackTexts.{text_through, text_first}
use Rattle.demands.proofs.WayBackRows.{three_pass, nothing_more_lem, bare_full, bare_fine}

-- the structure of which nothing but the block id is read
abbrev pub blank_with : ℕ → Structure
blank_with n = record { atoms = []; bonds = []; charges = []; radicals = []; centres = []; pairs = []; id = n; handed = false }

abbrev pub three_texts : (title origin owner : Prose) → List Prose
three_texts a b c = a ∷ b ∷ c ∷ []

-- the state before the first line
abbrev pub begin : State
begin = state_of 0 [] Skipped (three_texts (prose 0 []) (prose 0 []) (prose 0 [])) [] (blank_with 0)

pub start_is : start ≡ begin
unfolding start
start_is = refl

-- no record of the geometry has been seen, and none exceeds
none_partly : (seen : List Label) (cs : List ℕ) → all (lacks seen) cs ≡ true → partly seen cs ≡ false
unfolding partly
none_partly seen cs e = and_right_false (any (lacks seen) cs) _ (ap not e)

nothing_exceeds : exceeds no_geometry ≡ false
unfolding exceeds any
nothing_exceeds = refl

-- TITLE, the first line
none_seen : (x : Label) → misplaced [] x ≡ false
unfolding misplaced any
none_seen x = refl

title_first_lem : (u : Rules) (v : Bytes) → all allowed v ≡ true →
    line_step u begin (bytes "##TITLE=" ++ v) ≡ Go (state_of 0 (title_label ∷ []) (Text 0) (three_texts (prose (0 + length (bytes "##TITLE=")) v) (prose 0 []) (prose 0 [])) [] (blank_with 0))
unfolding label value_turn
title_first_lem u v a =
    let h : Bytes = bytes "##TITLE=" in
    let n : length (h ++ v) - length v ≡ length h = omega (arith, length-append h v) in
    step_on u begin (h ++ v) (all_append_both allowed h v title_written.fine a) (ap not (title_line_lem v))
    ∙ line_value u begin (h ++ v) title_label v (title_written.read v) (none_seen title_label) refl
    ∙ ap (λ (k : ℕ). Go (state_of 0 (title_label ∷ []) (Text 0) (three_texts (prose (0 + k) v) (prose 0 []) (prose 0 [])) [] (blank_with 0))) n

pub title_through : (u : Rules) (t : Bytes) → text_fine t ≡ true →
    Through u begin (bytes "##TITLE=" ++ valued t)
    (state_of (0 + length (bytes "##TITLE=" ++ valued t)) (title_label ∷ []) (Text 0) (three_texts (prose (0 + length (bytes "##TITLE=")) (valued t)) (prose 0 []) (prose 0 [])) [] (blank_with 0))
title_through u t ok =
    text_through u 0 (λ (y : Prose). three_texts y (prose 0 []) (prose 0 [])) (λ y. refl) (λ y z. refl) (title_label ∷ []) refl [] (blank_with 0) begin (bytes "##TITLE=") t title_written.one ok (title_first_lem u)

module _ (u : Rules) (at : ℕ) (seen : List Label) (running : Holds) (f : List Entry) (s : Structure) (begun : is_nil seen ≡ false) (o : over running ≡ false) where
  -- ORIGIN and OWNER
  module _ (a b c : Prose) (t : Bytes) (ok : text_fine t ≡ true) where
    abbrev here : State
    here = state_of at seen running (three_texts a b c) f s

    pub origin_through : misplaced seen origin_label ≡ false →
        Through u here (bytes "##ORIGIN=" ++ valued t) (state_of (at + length (bytes "##ORIGIN=" ++ valued t)) (origin_label ∷ seen) (Text 1) (three_texts a (prose (at + length (bytes "##ORIGIN=")) (valued t)) c) f s)
    unfolding label
    origin_through m =
        text_through u 1 (λ (y : Prose). three_texts a y c) (λ y. refl) (λ y z. refl) (origin_label ∷ seen) refl f s here (bytes "##ORIGIN=") t origin_written.one ok
        (text_first u here (bytes "##ORIGIN=") origin_label 1 (λ (y : Prose). three_texts a y c) origin_written begun m o refl refl (λ z. refl))

    pub owner_through : misplaced seen owner_label ≡ false →
        Through u here (bytes "##OWNER=" ++ valued t) (state_of (at + length (bytes "##OWNER=" ++ valued t)) (owner_label ∷ seen) (Text 2) (three_texts a b (prose (at + length (bytes "##OWNER=")) (valued t))) f s)
    unfolding label
    owner_through m =
        text_through u 2 (λ (y : Prose). three_texts a b y) (λ y. refl) (λ y z. refl) (owner_label ∷ seen) refl f s here (bytes "##OWNER=") t owner_written.one ok
        (text_first u here (bytes "##OWNER=") owner_label 2 (λ (y : Prose). three_texts a b y) owner_written begun m o refl refl (λ z. refl))

  module _ (texts : List Prose) where
    abbrev there : State
    there = state_of at seen running texts f s

    -- JCAMP-CS
    version_value : (st : State) (from : ℕ) → value_turn u Version st from (valued (bytes "3.7")) ≡ Go st
    unfolding computing
    version_value st from = refl

    version_inline : all inline (bytes "3.7") ≡ true
    unfolding computing
    version_inline = refl

    pub version_through : misplaced seen version_label ≡ false →
        Through u there (bytes "##JCAMP-CS=" ++ valued (bytes "3.7")) (state_of (at + length (bytes "##JCAMP-CS=" ++ valued (bytes "3.7"))) (version_label ∷ seen) Version texts f s)
    unfolding label
    version_through m =
        let h : Bytes = bytes "##JCAMP-CS=" in
        let v : Bytes = bytes "3.7" in
        let st : State = state_of at (version_label ∷ seen) Version texts f s in
        through_line u there st (h ++ valued v) (record_full h v version_written.one version_inline)
        (label_value u there h version_label version_written begun m o Version refl refl (valued v) (valued_allowed v (inline_fine v version_inline)) ∙ version_value st (at + length h))

    -- BLOCK_ID
    id_taken : (st : State) (n : ℕ) → suc n < 1000000 → id_turn st (fields (strip (valued (digits (suc n))))) ≡ Go (state_with st.geometry st.at st.seen st.running st.texts st.formula (with_id (suc n) st.body))
    unfolding id_turn
    id_taken st n b =
        let w : Bytes = digits (suc n) in
        ap (id_turn st) (ap fields (strip_value w (printed_inline w (digits_printed (suc n)))) ∙ value_back w (printed_number (suc n)).some (digits_printed (suc n)))
        ∙ rw (number_back (suc n) b, ne_eqb (suc n) 0 (λ q. omega arith)) refl

    pub id_through : (n : ℕ) → suc n < 1000000 → misplaced seen id_label ≡ false →
        Through u there (bytes "##BLOCK_ID=" ++ valued (digits (suc n))) (state_of (at + length (bytes "##BLOCK_ID=" ++ valued (digits (suc n)))) (id_label ∷ seen) BlockId texts f (with_id (suc n) s))
    unfolding label value_turn
    id_through n b m =
        let h : Bytes = bytes "##BLOCK_ID=" in
        let v : Bytes = digits (suc n) in
        let i : all inline v ≡ true = printed_inline v (digits_printed (suc n)) in
        let st : State = state_of at (id_label ∷ seen) BlockId texts f s in
        through_line u there (state_of at (id_label ∷ seen) BlockId texts f (with_id (suc n) s)) (h ++ valued v) (record_full h v id_written.one i)
        (label_value u there h id_label id_written begun m o BlockId refl refl (valued v) (valued_allowed v (inline_fine v i)) ∙ id_taken st n b)

    -- STEREOMOLECULE
    yes_turn_lem : (st : State) (from : ℕ) → st.body.handed ≡ false → value_turn u Handedness st from (valued (bytes "YES")) ≡ Go (with_body st (with_yes st.body))
    unfolding computing
    yes_turn_lem st from e = ap (λ (t : Bool). if t || false stop 9 else Go (with_body st (with_yes st.body))) e

    yes_inline : all inline (bytes "YES") ≡ true
    unfolding computing
    yes_inline = refl

    pub yes_through : misplaced seen yes_label ≡ false → s.handed ≡ false →
        Through u there (bytes "##STEREOMOLECULE=" ++ valued (bytes "YES")) (state_of (at + length (bytes "##STEREOMOLECULE=" ++ valued (bytes "YES"))) (yes_label ∷ seen) Handedness texts f (with_yes s))
    unfolding label
    yes_through m e =
        let h : Bytes = bytes "##STEREOMOLECULE=" in
        let v : Bytes = bytes "YES" in
        through_line u there (state_of at (yes_label ∷ seen) Handedness texts f (with_yes s)) (h ++ valued v) (record_full h v yes_written.one yes_inline)
        (label_value u there h yes_label yes_written begun m o Handedness refl refl (valued v) (valued_allowed v (inline_fine v yes_inline)) ∙ yes_turn_lem (state_of at (yes_label ∷ seen) Handedness texts f s) (at + length h) e)

    -- END
    pub end_through : misplaced seen end_label ≡ false → any (lacks (end_label ∷ seen)) (2 ∷ 3 ∷ 4 ∷ 5 ∷ []) ≡ false → all (lacks (end_label ∷ seen)) (14 ∷ 15 ∷ 16 ∷ []) ≡ true → (lacks (end_label ∷ seen) 17 || s.handed) ≡ true →
        handed_twice s ≡ false → 0 < length s.atoms → agree f (entries_of s.atoms) ≡ true →
        Through u there (bytes "##END=" ++ valued []) (state_of (at + length (bytes "##END=" ++ valued [])) (end_label ∷ seen) End texts f s)
    unfolding label value_turn end_turn
    end_through m l z y w n g =
        let h : Bytes = bytes "##END=" in
        let st : State = state_of at (end_label ∷ seen) End texts f s in
        let a : (any (lacks (end_label ∷ seen)) (2 ∷ 3 ∷ 4 ∷ 5 ∷ []) || eqb (length s.atoms) 0) ≡ false = or_neither (any (lacks (end_label ∷ seen)) (2 ∷ 3 ∷ 4 ∷ 5 ∷ [])) _ l (ne_eqb (length s.atoms) 0 (λ q. omega arith)) in
        through_line u there st (h ++ valued []) (bare_full h end_written.one)
        (label_value u there h end_label end_written begun m o End refl refl (valued []) bare_fine
        ∙ ap (end_turn u st) nothing_more_lem ∙ three_pass _ _ _ 8 9 13 _ a (ap not y) w
        ∙ three_pass _ _ _ 15 41 42 (Go st) (agreed u.totals) (none_partly (end_label ∷ seen) (14 ∷ 15 ∷ 16 ∷ []) z) nothing_exceeds)
      where
        agreed : (t : Bool) → (t && not (agree f (entries_of s.atoms))) ≡ false
        agreed true = ap not g
        agreed false = refl
