-- A value on its label line and a further line, by the record that runs, from what each record's function promises: document 01, "Lines and labels". Assumes nothing.
use Prim.Native.Nat.{ℕ, zero, suc, ◌+◌, ◌-◌, ◌≤◌, ◌<◌}
use mathlib.Core.Path.{◌≡◌, refl, sym, ap, ◌∙◌}
use mathlib.Core.Bool.{false}
use mathlib.Core.List.{List, [], ◌++◌}
use mathlib.Core.Logic.{◌⊎◌, inl, inr}
use native.Mathlib.Omega.{arith}
use lib.ListN.{length, get_or}
use borrow.Author.Tests.{ne_eqb}
use Rattle.format.specs.Bytes.{Bytes, fields, strip}
use Rattle.format.specs.Labels.{Holds, label, known, lookup}
use Rattle.format.specs.Formula.{formula_shape}
use Rattle.format.specs.Reading.{Rules, Prose, prose, State, with_text, extended, version_turn, id_turn, formula_turn, blank_or, end_turn, xyz_line, xyz_value, xyz_further, yes_line, value_turn, further_turn}
use Rattle.format.specs.Reading.{Go as going, Turn as Turned}
use Rattle.lines.specs.Cuts.{Uncommented}
use Rattle.labels.specs.ShownLines.{by_code}
use Rattle.geometry.specs.LineNoted.{record_of}
use Rattle.gather.specs.Progress.{part_of, prose_at, Within, Bounded, BoundedTurn, Flowing, FlowingTurn}
use Rattle.gather.specs.Shows.{Shows, ShowsTurn}
use Rattle.gather.specs.ListLine.{list_line, Gathers}
use Rattle.fields.specs.declared.Field.{Field}
use Rattle.gather.specs.declared.progress.Progress.{Progress}
use Rattle.std.specs.declared.result.Result.{Result}
use Rattle.format.specs.declared.refusal.Refused.{Refused}
use Rattle.std.specs.declared.result.Result.TheVariants.{Ok}
use Rattle.gather.proofs.ListLineLaws.{turn_shown}
use Rattle.judgement.specs.Lines.{rules_of, KeptTurn, SameRunning, text_put}
use Rattle.judgement.specs.declared.rules.Rules.{Rules as Given}
use Rattle.judgement.proofs.LineTurnLaws.{go_shown}
use Rattle.judgement.proofs.TextTurnLaws.{strip_part, part_join, kept_bounded, counted_bounded, kept_running, counted_running, silent, flowing_silent, part_from, TextPromise, title_promise, origin_promise, owner_promise}

-- THE LISTS' CODES
-- what a line of a list at its place promises, by the code of the record that runs
abbrev pub ListPromise : (at k : ℕ) → Progress → List ℕ → Result Progress Refused → List ℕ → List Bytes → Type 0
ListPromise at k p t r s fs = Gathers p.running k at fs p t s r

-- the codes 3 and 4 as the code tests them
three_or_four : (n : ℕ) → 3 ≤ n → n < 5 → (n ≡ 3) ⊎ (n ≡ 4)
three_or_four zero h k = absurd (omega arith)
three_or_four (suc zero) h k = absurd (omega arith)
three_or_four (suc (suc zero)) h k = absurd (omega arith)
three_or_four (suc (suc (suc zero))) h k = inl refl
three_or_four (suc (suc (suc (suc zero)))) h k = inr refl
three_or_four (suc (suc (suc (suc (suc n))))) h k = absurd (omega arith)

six_silent : (n : ℕ) → 6 ≤ n → silent n ≡ false
six_silent n h = rw (ne_eqb n 1 (λ e. omega arith), ne_eqb n 3 (λ e. omega arith), ne_eqb n 4 (λ e. omega arith))

value_as_list : (u : Rules) (n from : ℕ) (v : Bytes) (st : State) → 6 ≤ n → n ≤ 11 → value_turn u (by_code n known).holds st from v ≡ list_line n u.elements st (fields (strip v))
unfolding by_code known label value_turn
value_as_list u zero from v st a z = absurd (omega arith)
value_as_list u (suc zero) from v st a z = absurd (omega arith)
value_as_list u (suc (suc zero)) from v st a z = absurd (omega arith)
value_as_list u (suc (suc (suc zero))) from v st a z = absurd (omega arith)
value_as_list u (suc (suc (suc (suc zero)))) from v st a z = absurd (omega arith)
value_as_list u (suc (suc (suc (suc (suc zero))))) from v st a z = absurd (omega arith)
value_as_list u (suc (suc (suc (suc (suc (suc zero)))))) from v st a z = refl
value_as_list u (suc (suc (suc (suc (suc (suc (suc zero))))))) from v st a z = refl
value_as_list u (suc (suc (suc (suc (suc (suc (suc (suc zero)))))))) from v st a z = refl
value_as_list u (suc (suc (suc (suc (suc (suc (suc (suc (suc zero))))))))) from v st a z = refl
value_as_list u (suc (suc (suc (suc (suc (suc (suc (suc (suc (suc zero)))))))))) from v st a z = refl
value_as_list u (suc (suc (suc (suc (suc (suc (suc (suc (suc (suc (suc zero))))))))))) from v st a z = refl
value_as_list u (suc (suc (suc (suc (suc (suc (suc (suc (suc (suc (suc (suc n)))))))))))) from v st a z = absurd (omega arith)

further_as_list : (u : Rules) (n : ℕ) (v : Bytes) (st : State) → 6 ≤ n → n ≤ 11 → further_turn u (by_code n known).holds st v ≡ list_line n u.elements st (fields (strip v))
unfolding by_code known label further_turn
further_as_list u zero v st a z = absurd (omega arith)
further_as_list u (suc zero) v st a z = absurd (omega arith)
further_as_list u (suc (suc zero)) v st a z = absurd (omega arith)
further_as_list u (suc (suc (suc zero))) v st a z = absurd (omega arith)
further_as_list u (suc (suc (suc (suc zero)))) v st a z = absurd (omega arith)
further_as_list u (suc (suc (suc (suc (suc zero))))) v st a z = absurd (omega arith)
further_as_list u (suc (suc (suc (suc (suc (suc zero)))))) v st a z = refl
further_as_list u (suc (suc (suc (suc (suc (suc (suc zero))))))) v st a z = refl
further_as_list u (suc (suc (suc (suc (suc (suc (suc (suc zero)))))))) v st a z = refl
further_as_list u (suc (suc (suc (suc (suc (suc (suc (suc (suc zero))))))))) v st a z = refl
further_as_list u (suc (suc (suc (suc (suc (suc (suc (suc (suc (suc zero)))))))))) v st a z = refl
further_as_list u (suc (suc (suc (suc (suc (suc (suc (suc (suc (suc (suc zero))))))))))) v st a z = refl
further_as_list u (suc (suc (suc (suc (suc (suc (suc (suc (suc (suc (suc (suc n)))))))))))) v st a z = absurd (omega arith)

-- THE GEOMETRY'S CODES
abbrev pub GeometryPromise : (at : ℕ) → Progress → List ℕ → Result Progress Refused → List ℕ → List Bytes → Type 0
GeometryPromise at p t r s fs =
    KeptTurn p r × ((k : ℕ) (block : Bytes) (st : State) → Shows k block at p t st → ShowsTurn k block at r s (xyz_value (record_of p.running) st fs))

geometry_value : (u : Rules) (i from : ℕ) (v : Bytes) (st : State) → i ≤ 2 → value_turn u (by_code (14 + i) known).holds st from v ≡ xyz_value (record_of (14 + i)) st (fields (strip v))
unfolding by_code known label value_turn
geometry_value u zero from v st h = refl
geometry_value u (suc zero) from v st h = refl
geometry_value u (suc (suc zero)) from v st h = refl
geometry_value u (suc (suc (suc i))) from v st h = absurd (omega arith)

value_as_geometry : (u : Rules) (n from : ℕ) (v : Bytes) (st : State) → 14 ≤ n → n ≤ 16 → value_turn u (by_code n known).holds st from v ≡ xyz_value (record_of n) st (fields (strip v))
value_as_geometry u n from v st a z =
    let e : n ≡ 14 + (n - 14) = omega arith in
    ap (λ (m : ℕ). value_turn u (by_code m known).holds st from v) e ∙ geometry_value u (n - 14) from v st (omega arith) ∙ ap (λ (m : ℕ). xyz_value (record_of m) st (fields (strip v))) (sym e)

-- STEREOMOLECULE: what its line promises, on the label line and behind it
abbrev pub YesPromise : (at : ℕ) → Progress → Result Progress Refused → List Bytes → Type 0
YesPromise at p r fs =
    ((size : ℕ) → Bounded size p → BoundedTurn size r) × SameRunning p r
    × ((k : ℕ) (whole : Bytes) (s : List ℕ) (st : State) → Shows k whole at p s st → ShowsTurn k whole at r s (yes_line st fs))

-- A VALUE ON ITS LABEL LINE
module _ (block : Bytes) (at from end : ℕ) (u : Given) (p : Progress) (t : List ℕ) (b : Bounded (length block) p) (h : from ≤ end) (l : end ≤ length block) where
  abbrev pub ValuePromise : Result Progress Refused → List ℕ → Type 0
  ValuePromise r s =
      BoundedTurn (length block) r × FlowingTurn end r
      × ((st : State) → Shows u.last block at p t st → ShowsTurn u.last block at r s (value_turn (rules_of u) (by_code p.running known).holds st from (part_of block from end)))

  value_at : (c : ℕ) → p.running ≡ c → (st : State) → value_turn (rules_of u) (by_code p.running known).holds st from (part_of block from end) ≡ value_turn (rules_of u) (by_code c known).holds st from (part_of block from end)
  value_at c e st = ap (λ (n : ℕ). value_turn (rules_of u) (by_code n known).holds st from (part_of block from end)) e

  pub value_skipped : p.running ≡ 0 → ValuePromise (Ok p) t
  unfolding by_code known label lookup value_turn
  value_skipped e = (b, flowing_silent end p (Ok p) refl (ap silent e), λ st s. go_shown u.last block at p t st _ (value_at 0 e st) s)

  value_text : (r : Result Progress Refused) (i : ℕ) → TextPromise block end p t r (part_from from end) i
      → ((st : State) → value_turn (rules_of u) (by_code p.running known).holds st from (part_of block from end) ≡ going (with_text st i (prose from (part_of block from end)))) → ValuePromise r t
  value_text r i q e = (q.0, q.1, λ st s. turn_shown u.last block at r t _ _ (e st) (q.2 u.last at st s))

  value_title : (r : Result Progress Refused) → r ≡ Ok (text_put p.running (part_from from end) p) → p.running ≡ 1 → ValuePromise r t
  unfolding by_code known label value_turn
  value_title r q e = value_text r 0 (title_promise block from end p t b h l r q e) (λ st. value_at 1 e st)

  value_origin : (r : Result Progress Refused) → r ≡ Ok (text_put p.running (part_from from end) p) → p.running ≡ 3 → ValuePromise r t
  unfolding by_code known label value_turn
  value_origin r q e = value_text r 1 (origin_promise block from end p t b h l r q e) (λ st. value_at 3 e st)

  value_owner : (r : Result Progress Refused) → r ≡ Ok (text_put p.running (part_from from end) p) → p.running ≡ 4 → ValuePromise r t
  unfolding by_code known label value_turn
  value_owner r q e = value_text r 2 (owner_promise block from end p t b h l r q e) (λ st. value_at 4 e st)

  pub value_prose : (r : Result Progress Refused) → r ≡ Ok (text_put p.running (part_from from end) p) → (p.running ≡ 1) ⊎ ((3 ≤ p.running) × (p.running < 5)) → ValuePromise r t
  value_prose r q (inl e) = value_title r q e
  value_prose r q (inr h) = by (three_or_four p.running h.0 h.1)
    where
      by : (p.running ≡ 3) ⊎ (p.running ≡ 4) → ValuePromise r t
      by (inl e) = value_origin r q e
      by (inr e) = value_owner r q e

  module _ (m : ℕ) (c : Uncommented (part_of block from end) m) (r : Result Progress Refused) where
    stripped : (F : Bytes → Turned) → F (strip (part_of block from end)) ≡ F (part_of block from (from + m))
    stripped F = ap F (strip_part block from end m h l c)

    pub value_version : p.running ≡ 2
        → KeptTurn p r × ((k : ℕ) (whole : Bytes) (s : List ℕ) (st : State) → Shows k whole at p s st → ShowsTurn k whole at r s (version_turn st (fields (part_of block from (from + m))))) → ValuePromise r t
    unfolding by_code known label value_turn
    value_version e q = (
      kept_bounded (length block) p r q.0 b,
      flowing_silent end p r (kept_running p r q.0) (ap silent e),
      λ st s. turn_shown u.last block at r t _ _ (value_at 2 e st ∙ stripped (λ v. version_turn st (fields v))) (q.1 u.last block t st s),
    )

    pub value_formula : p.running ≡ 5
        → BoundedTurn (length block) r × SameRunning p r × ((s : List ℕ) (st : State) → Shows u.last block at p s st → ShowsTurn u.last block at r s (formula_turn u.last st (formula_shape (part_of block from (from + m))))) → ValuePromise r t
    unfolding by_code known label value_turn
    value_formula e q = (
      q.0,
      flowing_silent end p r q.1 (ap silent e),
      λ st s. turn_shown u.last block at r t _ _ (value_at 5 e st ∙ stripped (λ v. formula_turn u.last st (formula_shape v))) (q.2 t st s),
    )

    pub value_id : p.running ≡ 12
        → ((size : ℕ) → Bounded size p → BoundedTurn size r) × SameRunning p r
        × ((k : ℕ) (whole : Bytes) (s : List ℕ) (st : State) → Shows k whole at p s st → ShowsTurn k whole at r s (id_turn st (fields (part_of block from (from + m))))) → ValuePromise r t
    unfolding by_code known label value_turn
    value_id e q = (
      q.0 (length block) b,
      flowing_silent end p r q.1 (ap silent e),
      λ st s. turn_shown u.last block at r t _ _ (value_at 12 e st ∙ stripped (λ v. id_turn st (fields v))) (q.2 u.last block t st s),
    )

    pub value_end : p.running ≡ 13
        → KeptTurn p r × ((st : State) → Shows u.last block at p t st → ShowsTurn u.last block at r t (end_turn (rules_of u) st (fields (part_of block from (from + m))))) → ValuePromise r t
    unfolding by_code known label value_turn
    value_end e q = (
      kept_bounded (length block) p r q.0 b,
      flowing_silent end p r (kept_running p r q.0) (ap silent e),
      λ st s. turn_shown u.last block at r t _ _ (value_at 13 e st ∙ stripped (λ v. end_turn (rules_of u) st (fields v))) (q.1 st s),
    )

    pub value_yes : p.running ≡ 17 → YesPromise at p r (fields (part_of block from (from + m))) → ValuePromise r t
    unfolding by_code known label value_turn
    value_yes e q = (
      q.0 (length block) b,
      flowing_silent end p r q.1 (ap silent e),
      λ st s. turn_shown u.last block at r t _ _ (value_at 17 e st ∙ stripped (λ v. yes_line st (fields v))) (q.2 u.last block t st s),
    )

    pub value_geometry : (s : List ℕ) → (14 ≤ p.running) × (p.running ≤ 16) → GeometryPromise at p t r s (fields (part_of block from (from + m))) → ValuePromise r s
    value_geometry s code q = (
      kept_bounded (length block) p r q.0 b,
      flowing_silent end p r (kept_running p r q.0) (six_silent p.running (omega (arith, code.0))),
      λ st v. turn_shown u.last block at r s _ _
          (value_as_geometry (rules_of u) p.running from (part_of block from end) st code.0 code.1 ∙ stripped (λ x. xyz_value (record_of p.running) st (fields x))) (q.1 u.last block st v),
    )

    pub value_list : (s : List ℕ) → (6 ≤ p.running) × (p.running ≤ 11) → 1 ≤ u.last
        → ListPromise at u.last p t r s (fields (part_of block from (from + m)))
        → ValuePromise r s
    value_list s code one q =
        let w = q b.counted one code.0 code.1 in (
          counted_bounded (length block) p r w.0 b,
          flowing_silent end p r (counted_running p r w.0) (six_silent p.running code.0),
          λ st v. turn_shown u.last block at r s _ _
              (value_as_list (rules_of u) p.running from (part_of block from end) st code.0 code.1 ∙ stripped (λ x. list_line p.running u.last st (fields x))) (w.1 block st v),
        )

-- A FURTHER LINE OF THE RECORD
module _ (block : Bytes) (at end : ℕ) (u : Given) (p : Progress) (t : List ℕ) (b : Bounded (length block) p) (f : Flowing at p) (h : at ≤ end) (l : end ≤ length block) where
  abbrev pub FurtherPromise : Result Progress Refused → List ℕ → Type 0
  FurtherPromise r s =
      BoundedTurn (length block) r × FlowingTurn end r
      × ((st : State) → Shows u.last block at p t st → ShowsTurn u.last block at r s (further_turn (rules_of u) st.running st (part_of block at end)))

  further_at : (c : ℕ) → p.running ≡ c → (st : State) → Shows u.last block at p t st → further_turn (rules_of u) st.running st (part_of block at end) ≡ further_turn (rules_of u) (by_code c known).holds st (part_of block at end)
  further_at c e st s = ap (λ (x : Holds). further_turn (rules_of u) x st (part_of block at end)) (s.running ∙ ap (λ (n : ℕ). (by_code n known).holds) e)

  pub further_skipped : p.running ≡ 0 → FurtherPromise (Ok p) t
  unfolding by_code known label lookup further_turn
  further_skipped e = (b, flowing_silent end p (Ok p) refl (ap silent e), λ st s. go_shown u.last block at p t st _ (further_at 0 e st s) s)

  -- the text so far and the line behind it
  more_text : (x : Field) (y : Prose) → Within (length block) x → x.to ≡ at → y ≡ prose_at block x → extended y (part_of block at end) ≡ prose_at block (part_from x.from end)
  more_text x y w e q =
      ap (λ (z : Prose). extended z (part_of block at end)) q
      ∙ ap (λ (n : ℕ). prose x.from (part_of block x.from n ++ part_of block at end)) e ∙ ap (prose x.from) (part_join block x.from at end (rw (sym e) w.order) h)

  further_text : (r : Result Progress Refused) (i : ℕ) (x : Field) → TextPromise block end p t r (part_from x.from end) i → Within (length block) x → x.to ≡ at
      → ((st : State) → Shows u.last block at p t st → get_or st.texts i (prose 0 []) ≡ prose_at block x)
      → ((st : State) → Shows u.last block at p t st → further_turn (rules_of u) st.running st (part_of block at end) ≡ going (with_text st i (extended (get_or st.texts i (prose 0 [])) (part_of block at end))))
      → FurtherPromise r t
  further_text r i x q w e g d =
      (q.0, q.1, λ st s. turn_shown u.last block at r t _ _ (d st s ∙ ap (λ (y : Prose). going (with_text st i y)) (more_text x (get_or st.texts i (prose 0 [])) w e (g st s))) (q.2 u.last at st s))

  from_low : (x : Field) → Within (length block) x → x.to ≡ at → x.from ≤ end
  from_low x w e = omega (arith, w.order)

  pub further_title : (r : Result Progress Refused) → r ≡ Ok (text_put p.running (part_from p.title.from end) p) → p.running ≡ 1 → FurtherPromise r t
  unfolding by_code known label further_turn
  further_title r q e =
      further_text r 0 p.title (title_promise block p.title.from end p t b (from_low p.title b.title (f.title e)) l r q e) b.title (f.title e)
      (λ st s. ap (λ (ts : List Prose). get_or ts 0 (prose 0 [])) s.holding.texts) (λ st s. further_at 1 e st s)

  pub further_origin : (r : Result Progress Refused) → r ≡ Ok (text_put p.running (part_from p.origin.from end) p) → p.running ≡ 3 → FurtherPromise r t
  unfolding by_code known label further_turn
  further_origin r q e =
      further_text r 1 p.origin (origin_promise block p.origin.from end p t b (from_low p.origin b.origin (f.origin e)) l r q e) b.origin (f.origin e)
      (λ st s. ap (λ (ts : List Prose). get_or ts 1 (prose 0 [])) s.holding.texts) (λ st s. further_at 3 e st s)

  pub further_owner : (r : Result Progress Refused) → r ≡ Ok (text_put p.running (part_from p.owner.from end) p) → p.running ≡ 4 → FurtherPromise r t
  unfolding by_code known label further_turn
  further_owner r q e =
      further_text r 2 p.owner (owner_promise block p.owner.from end p t b (from_low p.owner b.owner (f.owner e)) l r q e) b.owner (f.owner e)
      (λ st s. ap (λ (ts : List Prose). get_or ts 2 (prose 0 [])) s.holding.texts) (λ st s. further_at 4 e st s)

  abbrev pub BlankPromise : Result Progress Refused → ℕ → Bytes → Type 0
  BlankPromise r n v = KeptTurn p r × ((k : ℕ) (whole : Bytes) (s : List ℕ) (st : State) → Shows k whole at p s st → ShowsTurn k whole at r s (blank_or n st v))

  pub further_over : (r : Result Progress Refused) → p.running ≡ 13 → BlankPromise r 17 (part_of block at end) → FurtherPromise r t
  unfolding by_code known label further_turn
  further_over r e q = (
    kept_bounded (length block) p r q.0 b,
    flowing_silent end p r (kept_running p r q.0) (ap silent e),
    λ st s. turn_shown u.last block at r t _ _ (further_at 13 e st s) (q.1 u.last block t st s),
  )

  module _ (m : ℕ) (c : Uncommented (part_of block at end) m) (r : Result Progress Refused) where
    further_blank : silent p.running ≡ false → ((st : State) → Shows u.last block at p t st → further_turn (rules_of u) st.running st (part_of block at end) ≡ blank_or 9 st (strip (part_of block at end)))
        → BlankPromise r 9 (part_of block at (at + m)) → FurtherPromise r t
    further_blank n d q = (
      kept_bounded (length block) p r q.0 b,
      flowing_silent end p r (kept_running p r q.0) n,
      λ st s. turn_shown u.last block at r t _ _ (d st s ∙ ap (blank_or 9 st) (strip_part block at end m h l c)) (q.1 u.last block t st s),
    )

    pub further_single : (p.running ≡ 2) ⊎ ((p.running ≡ 5) ⊎ ((p.running ≡ 12) ⊎ ((p.running ≡ 14) ⊎ (p.running ≡ 15)))) → BlankPromise r 9 (part_of block at (at + m)) → FurtherPromise r t
    unfolding by_code known label further_turn xyz_further
    further_single (inl e) q = further_blank (ap silent e) (λ st s. further_at 2 e st s) q
    further_single (inr (inl e)) q = further_blank (ap silent e) (λ st s. further_at 5 e st s) q
    further_single (inr (inr (inl e))) q = further_blank (ap silent e) (λ st s. further_at 12 e st s) q
    further_single (inr (inr (inr (inl e)))) q = further_blank (ap silent e) (λ st s. further_at 14 e st s) q
    further_single (inr (inr (inr (inr e)))) q = further_blank (ap silent e) (λ st s. further_at 15 e st s) q

    pub further_rows : (s : List ℕ) → p.running ≡ 16 → GeometryPromise at p t r s (fields (part_of block at (at + m))) → FurtherPromise r s
    unfolding by_code known label further_turn xyz_further xyz_value
    further_rows s e q = (
      kept_bounded (length block) p r q.0 b,
      flowing_silent end p r (kept_running p r q.0) (ap silent e),
      λ st v. turn_shown u.last block at r s _ _
          (further_at 16 e st v ∙ ap (λ (x : Bytes). xyz_line st (fields x)) (strip_part block at end m h l c) ∙ ap (λ (n : ℕ). xyz_value (record_of n) st (fields (part_of block at (at + m)))) (sym e)) (q.1 u.last block st v),
    )

    pub further_yes : p.running ≡ 17 → YesPromise at p r (fields (part_of block at (at + m))) → FurtherPromise r t
    unfolding by_code known label further_turn
    further_yes e q = (
      q.0 (length block) b,
      flowing_silent end p r q.1 (ap silent e),
      λ st s. turn_shown u.last block at r t _ _ (further_at 17 e st s ∙ ap (λ (x : Bytes). yes_line st (fields x)) (strip_part block at end m h l c)) (q.2 u.last block t st s),
    )

    pub further_list : (s : List ℕ) → (6 ≤ p.running) × (p.running ≤ 11) → 1 ≤ u.last
        → ListPromise at u.last p t r s (fields (part_of block at (at + m)))
        → FurtherPromise r s
    further_list s code one q =
        let w = q b.counted one code.0 code.1 in (
          counted_bounded (length block) p r w.0 b,
          flowing_silent end p r (counted_running p r w.0) (six_silent p.running code.0),
          λ st v. turn_shown u.last block at r s _ _
              (further_at p.running refl st v ∙ further_as_list (rules_of u) p.running (part_of block at end) st code.0 code.1
              ∙ ap (λ (x : Bytes). list_line p.running u.last st (fields x)) (strip_part block at end m h l c)) (w.1 block st v),
        )
