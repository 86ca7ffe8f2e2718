-- A label line's turn and a line's step, from what the labels seen, the value's turn and the further line's turn promise: document 01, "Lines and labels" and
-- "Refusal numbers". Assumes nothing.
use Prim.Native.Nat.{ℕ, ◌+◌, ◌-◌, ◌≤◌, ◌<◌}
use mathlib.Core.Path.{◌≡◌, refl, sym, ap, ◌∙◌}
use mathlib.Core.Bool.{Bool, true, false, ◌&&◌, not}
use mathlib.Core.List.{List, [], ◌∷◌}
use native.Mathlib.Omega.{arith}
use lib.ListN.{length, take, drop, length-drop}
use lib.Dec.{eqb, ltb}
use borrow.Author.Tests.{eq-eqb, ne_eqb, ltb-true, not-true}
use borrow.Rule.Slice.PartMut.{put_mid}
use Rattle.lists.specs.Lists.{is_nil, all}
use Rattle.lists.proofs.Bools.{and_parts, eqb_symm}
use Rattle.lists.proofs.ListLaws.{all_parts}
use Rattle.format.specs.Bytes.{Bytes, allowed}
use Rattle.format.specs.Labels.{Bonds, Charges, Radicals, Centres, Pairs, Label, known, misplaced, Labelled, has_code, line_of, title_line}
use Rattle.format.specs.Reading.{Rules, State, if◌stop◌else◌, noted, opened, over, value_turn, further_turn, line_turn, line_step}
use Rattle.format.proofs.ReadingLaws.{step_first, step_on, line_plain, line_unparted}
use Rattle.labels.specs.ShownLines.{by_code, shown_line, ShowsLine}
use Rattle.labels.specs.declared.LineKind.{LineKind}
use Rattle.labels.specs.declared.LineKind.TheVariants as K
use Rattle.sorted.specs.Regions.{seen_from, top_of}
use Rattle.gather.specs.Progress.{part_of, count_of, laid, Bounded, BoundedTurn, FlowingTurn, altered}
use Rattle.gather.specs.Shows.{Shows, ShowsTurn}
use Rattle.gather.specs.declared.progress.Progress.{Progress}
use Rattle.std.specs.declared.result.Result.{Result}
use Rattle.format.specs.declared.refusal.Refused.{Refused}
use Rattle.gather.proofs.LaidLaws.{sized, seen_seated}
use Rattle.gather.proofs.ListLineLaws.{turn_shown}
use Rattle.judgement.specs.Lines.{rules_of, label_turn, begun}
use Rattle.judgement.specs.declared.rules.Rules.{Rules as Given}
use Rattle.format.specs.declared.refusal.Refusal.TheVariants.{BehindEnd, LabelOrder, NoEquals, NoTitle}
use Rattle.judgement.proofs.SeenLaws.{known_told, Noted}
use Rattle.judgement.proofs.LineTurnLaws.{stop_shown, listed_still, counted_as_lem, refused_at}
use Rattle.judgement.proofs.CodeLaws.{over_code}
use Rattle.judgement.proofs.TextTurnLaws.{part_length, part_drop}

-- THE LABEL NOTED
abbrev pub with_label : (code top : ℕ) → Progress → Progress
with_label code top p = altered code top p.title p.origin p.owner p.formula p.atoms p.id p

pub label_bounded : (size code top : ℕ) (p : Progress) → code < 18 → Bounded size p → Bounded size (with_label code top p)
label_bounded size code top p h b = record {
  counted = counted_as_lem p (with_label code top p) b.counted refl refl refl refl refl refl;
  code = h;
  title = b.title;
  origin = b.origin;
  owner = b.owner;
  formula = b.formula;
  id = b.id;
}

module _ (block : Bytes) (at from end code : ℕ) (u : Given) (p : Progress) (t : List ℕ) (b : Bounded (length block) p) (small : code < 18) where
  abbrev pub LabelPromise : Result Progress Refused → List ℕ → Type 0
  LabelPromise r s =
      BoundedTurn (length block) r × FlowingTurn end r
      × ((st : State) → Shows u.last block at p t st → ShowsTurn u.last block at r s (label_turn (rules_of u) st from (by_code code known) (part_of block from end)))

  module _ (w : Bool) (told : (labels : List Label) → take 18 (drop 2946 t) ≡ seen_from 18 0 labels → p.top ≡ top_of labels → w ≡ misplaced labels (by_code code known)) where
    module _ (st : State) (s : Shows u.last block at p t st) where
      label_seen : take 18 (drop 2946 t) ≡ seen_from 18 0 st.seen
      label_seen = ap (λ (l : List ℕ). take 18 (drop 2946 l)) s.holding.scratch ∙ (seen_seated st (sized p st b.counted s.holding.listed)).0

      order_is : (x : Bool) → w ≡ x → misplaced st.seen (by_code code known) ≡ x
      order_is x e = sym (told st.seen label_seen s.top) ∙ e

      over_is : over st.running ≡ eqb p.running 13
      over_is = ap over s.running ∙ over_code p.running b.code

      label_is : (x y : Bool) → w ≡ x → eqb p.running 13 ≡ y
          → label_turn (rules_of u) st from (by_code code known) (part_of block from end) ≡ (if x stop 6 else if y stop 17 else value_turn (rules_of u) (by_code code known).holds (opened st (by_code code known)) from (part_of block from end))
      label_is x y e f =
          ap (λ (z : Bool). if z stop 6 else if over st.running stop 17 else value_turn (rules_of u) (by_code code known).holds (opened st (by_code code known)) from (part_of block from end)) (order_is x e)
          ∙ ap (λ (z : Bool). if x stop 6 else if z stop 17 else value_turn (rules_of u) (by_code code known).holds (opened st (by_code code known)) from (part_of block from end)) (over_is ∙ f)

    pub label_misplaced : w ≡ true → LabelPromise (refused_at LabelOrder at) t
    label_misplaced e = (tt, tt, λ st s. stop_shown u.last block at t LabelOrder _ (label_is st s true (eqb p.running 13) e refl))

    pub label_over : w ≡ false → p.running ≡ 13 → LabelPromise (refused_at BehindEnd at) t
    label_over e f = (tt, tt, λ st s. stop_shown u.last block at t BehindEnd _ (label_is st s false true e (eq-eqb p.running 13 f)))

    module _ (e : w ≡ false) (n : p.running ≡ 13 → ⊥) (cells : List ℕ) (top : ℕ)
        (note : (labels : List Label) → take 18 (drop 2946 t) ≡ seen_from 18 0 labels → p.top ≡ top_of labels → Noted cells top code labels) where
      opened_shown : (st : State) → Shows u.last block at p t st → Shows u.last block at (with_label code top p) (put_mid 2946 18 t cells) (opened st (by_code code known))
      unfolding laid
      opened_shown st s =
          let x : Label = by_code code known in
          let d : Noted cells top code st.seen = note st.seen (label_seen st s) s.top in
          let q : noted code x st.seen ≡ noted x.code x st.seen = ap (λ (c : ℕ). noted c x st.seen) (sym (known_told code small).0) in
          record {
            place = s.place;
            running = refl;
            top = d.1 ∙ ap top_of q;
            holding = record {
              scratch = ap (λ (l : List ℕ). put_mid 2946 18 l cells) s.holding.scratch ∙ ap (put_mid 2946 18 (laid st)) (d.0 ∙ ap (seen_from 18 0) q)
                  ∙ (seen_seated st (sized p st b.counted s.holding.listed)).1 x.holds (noted x.code x st.seen);
              texts = s.holding.texts;
              formula = s.holding.formula;
              formula_fine_lem = s.holding.formula_fine_lem;
              kinds = s.holding.kinds;
              listed = listed_still p (with_label code top p) st.body s.holding.listed refl (λ l. elim l as (λ l. count_of l (with_label code top p) ≡ count_of l p) [ Bonds ↦ refl | Charges ↦ refl | Radicals ↦ refl | Centres ↦ refl | Pairs ↦ refl ]) refl refl;
              geometry = s.holding.geometry;
            };
          }

      pub label_value : (r : Result Progress Refused) (s : List ℕ)
          → BoundedTurn (length block) r × FlowingTurn end r
          × ((st : State) → Shows u.last block at (with_label code top p) (put_mid 2946 18 t cells) st → ShowsTurn u.last block at r s (value_turn (rules_of u) (by_code code known).holds st from (part_of block from end)))
          → LabelPromise r s
      label_value r s q = (
        q.0,
        q.1,
        λ st w. turn_shown u.last block at r s _ _ (label_is st w false false e (ne_eqb p.running 13 n)) (q.2 (opened st (by_code code known)) (opened_shown st w)),
      )

-- THE FIRST LINE: nothing seen, by the top
top_low : (y : Label) (ys : List Label) → all (λ y. ltb 0 y.low) (y ∷ ys) ≡ true → top_of (y ∷ ys) ≡ 0 → ⊥
unfolding top_of
top_low y ys h e = let q : 0 < y.low = ltb-true 0 y.low (all_parts (λ y. ltb 0 y.low) y ys h).0 in omega arith

pub nil_top : (seen : List Label) → all (λ y. ltb 0 y.low) seen ≡ true → is_nil seen ≡ eqb (top_of seen) 0
unfolding top_of
nil_top [] h = refl
nil_top (y ∷ ys) h = sym (ne_eqb (top_of (y ∷ ys)) 0 (top_low y ys h))

-- A LINE'S STEP
line_labelled : (u : Rules) (st : State) (l : Bytes) (x : Label) (value from : ℕ) → line_of l ≡ Labelled x (drop value l) → st.at + (length l - length (drop value l)) ≡ from
    → line_turn u st l (line_of l) ≡ label_turn u st from x (drop value l)
unfolding line_turn
line_labelled u st l x value from e q = ap (line_turn u st l) e ∙ ap (λ (n : ℕ). label_turn u st n x (drop value l)) q

module _ (block : Bytes) (at end : ℕ) (u : Given) (p : Progress) (t : List ℕ) (h : at ≤ end) (l : end ≤ length block) (clean : all allowed (part_of block at end) ≡ true) (r : LineKind) (shows : ShowsLine (part_of block at end) r) where
  abbrev pub StepPromise : Result Progress Refused → List ℕ → Type 0
  StepPromise r s =
      BoundedTurn (length block) r × FlowingTurn end r
      × ((st : State) → Shows u.last block at p t st → begun st ≡ true → ShowsTurn u.last block at r s (line_step (rules_of u) st (part_of block at end)))

  line_is : (k : LineKind) → r ≡ k → line_of (part_of block at end) ≡ shown_line (part_of block at end) k
  line_is k e = sym shows.is ∙ ap (shown_line (part_of block at end)) e

  title_is : (k : LineKind) → r ≡ k → title_line (part_of block at end) ≡ has_code 1 (shown_line (part_of block at end) k)
  unfolding title_line
  title_is k e = ap (has_code 1) (line_is k e)

  seen_nil : (st : State) → Shows u.last block at p t st → begun st ≡ true → is_nil st.seen ≡ eqb p.top 0
  seen_nil st s g = nil_top st.seen g ∙ ap (λ (n : ℕ). eqb n 0) (sym s.top)

  first : (k : LineKind) → r ≡ k → has_code 1 (shown_line (part_of block at end) k) ≡ false → p.top ≡ 0 → StepPromise (refused_at NoTitle at) t
  first k e c z = (
    tt,
    tt,
    λ st s g. stop_shown u.last block at t NoTitle _
        (step_first (rules_of u) st (part_of block at end) clean (seen_nil st s g ∙ eq-eqb p.top 0 z) (title_is k e ∙ c)),
  )

  pub plain_first : r ≡ K.Plain → p.top ≡ 0 → StepPromise (refused_at NoTitle at) t
  plain_first e z = first K.Plain e refl z

  pub unparted_first : r ≡ K.Unparted → p.top ≡ 0 → StepPromise (refused_at NoTitle at) t
  unparted_first e z = first K.Unparted e refl z

  later : (st : State) → Shows u.last block at p t st → begun st ≡ true → (eqb p.top 0 && not (title_line (part_of block at end))) ≡ false → line_step (rules_of u) st (part_of block at end) ≡ line_turn (rules_of u) st (part_of block at end) (line_of (part_of block at end))
  later st s g q = step_on (rules_of u) st (part_of block at end) clean (ap (λ (x : Bool). x && not (title_line (part_of block at end))) (seen_nil st s g) ∙ q)

  begun_later : (p.top ≡ 0 → ⊥) → (eqb p.top 0 && not (title_line (part_of block at end))) ≡ false
  begun_later z = ap (λ (x : Bool). x && not (title_line (part_of block at end))) (ne_eqb p.top 0 z)

  pub unparted_step : r ≡ K.Unparted → (p.top ≡ 0 → ⊥) → StepPromise (refused_at NoEquals at) t
  unparted_step e z = (
    tt,
    tt,
    λ st s g. stop_shown u.last block at t NoEquals _ (later st s g (begun_later z) ∙ line_unparted (rules_of u) st (part_of block at end) (line_is K.Unparted e)),
  )

  pub plain_step : (a : Result Progress Refused) (s : List ℕ) → r ≡ K.Plain → (p.top ≡ 0 → ⊥)
      → BoundedTurn (length block) a × FlowingTurn end a
      × ((st : State) → Shows u.last block at p t st → ShowsTurn u.last block at a s (further_turn (rules_of u) st.running st (part_of block at end))) → StepPromise a s
  plain_step a s e z q = (
    q.0,
    q.1,
    λ st w g. turn_shown u.last block at a s _ _ (later st w g (begun_later z) ∙ line_plain (rules_of u) st (part_of block at end) (line_is K.Plain e)) (q.2 st w),
  )

  module _ (code value : ℕ) (e : r ≡ K.Labelled code value) where
    title_code : title_line (part_of block at end) ≡ eqb 1 code
    title_code = title_is (K.Labelled code value) e ∙ ap (eqb 1) (known_told code (shows.code code value e)).0

    pub value_low : at + value ≤ end
    value_low = omega (arith, shows.high code value e, part_length block at end h l)

    module _ (late : Bool) (said : late ≡ (eqb p.top 0 && not (eqb code 1))) where
      late_is : (eqb p.top 0 && not (title_line (part_of block at end))) ≡ late
      late_is = ap (λ (x : Bool). eqb p.top 0 && not x) (title_code ∙ eqb_symm 1 code) ∙ sym said

      pub label_first : late ≡ true → StepPromise (refused_at NoTitle at) t
      label_first f =
          let q = and_parts (eqb p.top 0) (not (title_line (part_of block at end))) (late_is ∙ f) in
          (tt, tt, λ st s g. stop_shown u.last block at t NoTitle _ (step_first (rules_of u) st (part_of block at end) clean (seen_nil st s g ∙ q.0) (not-true (title_line (part_of block at end)) q.1)))

      pub label_step : (a : Result Progress Refused) (s : List ℕ) → late ≡ false
          → BoundedTurn (length block) a × FlowingTurn end a
          × ((st : State) → Shows u.last block at p t st → ShowsTurn u.last block at a s (label_turn (rules_of u) st (at + value) (by_code code known) (part_of block (at + value) end))) → StepPromise a s
      label_step a s f q = (
        q.0,
        q.1,
        λ st w g. turn_shown u.last block at a s _ _ (later st w g (late_is ∙ f) ∙ labelled st w) (q.2 st w),
      )
        where
          rest_is : drop value (part_of block at end) ≡ part_of block (at + value) end
          rest_is = part_drop block at end value value_low l

          place_is : (st : State) → Shows u.last block at p t st → st.at + (length (part_of block at end) - length (drop value (part_of block at end))) ≡ at + value
          place_is st w = omega (arith, w.place, length-drop value (part_of block at end), shows.high code value e)

          labelled : (st : State) → Shows u.last block at p t st
              → line_turn (rules_of u) st (part_of block at end) (line_of (part_of block at end)) ≡ label_turn (rules_of u) st (at + value) (by_code code known) (part_of block (at + value) end)
          labelled st w = line_labelled (rules_of u) st (part_of block at end) (by_code code known) value (at + value) (line_is (K.Labelled code value) e) (place_is st w) ∙ ap (label_turn (rules_of u) st (at + value) (by_code code known)) rest_is
