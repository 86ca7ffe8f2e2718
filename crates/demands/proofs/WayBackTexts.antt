-- The way back, texts: a printed text is read as it was printed, and its span is where it stands. Once for the three texts, over the place i of the text among
-- them. Serves document 01, demand 2, and "The structure table" ("start and length in the block of title, origin, owner (empty: 0, 0)"). Assumes nothing.
use Prim.Native.Nat.{ℕ, suc, ◌+◌}
use mathlib.Core.Path.{◌≡◌, refl, sym, ap, ◌∙◌}
use mathlib.Core.Bool.{true, false}
use mathlib.Core.List.{List, [], ◌∷◌, ◌++◌, append_assoc, append-nil}
use native.Mathlib.Omega.{arith}
use native.Mathlib.Nat.{add-zero}
use lib.ListN.{length, get_or, set, take, drop, length-append}
use lib.Seq.{take-append_seam, drop-append_seam}
use lib.Dec.{eqb}
use borrow.Author.Tests.{le-leb}
use Rattle.lists.specs.Lists.{is_nil, all, concat}
use Rattle.lists.proofs.Bools.{and_both}
use Rattle.lists.proofs.ListLaws.{all_parts, all_append_parts}
use Rattle.lists.proofs.PartLaws.{concat_nil, concat_cons, concat_length, all_concat}
use Rattle.format.specs.Bytes.{Bytes, allowed, cut, is_label, lead, trim}
use Rattle.format.specs.Labels.{Text, Label, misplaced}
use Rattle.format.specs.Structure.{Entry, Structure}
use Rattle.format.specs.Reading.{Rules, State, Prose, prose, Go, over, extended, value_turn, further_turn, line_step, read_lines, Span, span_from, span_of}
use Rattle.format.specs.Table.{text_fine, text_at, span_ok, text_ok}
use Rattle.format.specs.Writing.{valued}
use Rattle.format.proofs.CutLaws.{feedless}
use Rattle.format.proofs.FieldLaws.{valued_is}
use Rattle.format.proofs.TextLaws.{Unlabelled, TextLines, text_back, text_fine_lem, FineText, valued_allowed, trim_valued, lead_valued}
use Rattle.format.proofs.ReadingLaws.{read_go}
use Rattle.demands.proofs.WayBackLines.{state_with, state_of, Through, plain_step}
use Rattle.demands.proofs.WayBackLabels.{Written, label_value}

-- A TEXT THAT RUNS: `put` is the three texts with this one among them
module _ (u : Rules) (i : ℕ) (put : Prose → List Prose) (got : (y : Prose) → get_or (put y) i (prose 0 []) ≡ y) (sets : (y z : Prose) → set (put y) i z ≡ put z)
    (seen : List Label) (begun : is_nil seen ≡ false) (f : List Entry) (s : Structure) where
  abbrev running : ℕ → Prose → State
  running at y = state_of at seen (Text i) (put y) f s

  text_step : (at p : ℕ) (b l : Bytes) → all allowed l ≡ true → is_label l ≡ false → line_step u (running at (prose p b)) l ≡ Go (running at (prose p (b ++ l)))
  unfolding further_turn
  text_step at p b l a e =
      plain_step u (running at (prose p b)) l a begun e
      ∙ ap (λ (y : Prose). Go (state_of at seen (Text i) (set (put (prose p b)) i (extended y l)) f s)) (got (prose p b))
      ∙ ap (λ (t : List Prose). Go (state_of at seen (Text i) t f s)) (sets (prose p b) (prose p (b ++ l)))

  same_text : (ms : List Bytes) (at to p : ℕ) (b c : Bytes) → at ≡ to → b ≡ c → read_lines u (running at (prose p b)) ms ≡ read_lines u (running to (prose p c)) ms
  same_text ms at to p b c e q =
      ap (λ (n : ℕ). read_lines u (running n (prose p b)) ms) e ∙ ap (λ (r : Bytes). read_lines u (running to (prose p r)) ms) q

  text_run : (ls ms : List Bytes) (at p : ℕ) (b : Bytes) → Unlabelled ls → all (all allowed) ls ≡ true →
      read_lines u (running at (prose p b)) (ls ++ ms) ≡ read_lines u (running (at + length (concat ls)) (prose p (b ++ concat ls))) ms
  text_run [] ms at p b w a =
      same_text ms at (at + length {A = ℕ} (concat [])) p b (b ++ concat []) (sym (ap (λ (r : Bytes). at + length r) concat_nil ∙ add-zero at)) (sym (ap (λ (r : Bytes). b ++ r) concat_nil ∙ append-nil b))
  text_run (l ∷ ls) ms at p b w a =
      let q : (all allowed l ≡ true) × (all (all allowed) ls ≡ true) = all_parts (all allowed) l ls a in
      read_go u (running at (prose p b)) (running at (prose p (b ++ l))) l (ls ++ ms) (text_step at p b l q.0 w.0)
      ∙ text_run ls ms (at + length l) p (b ++ l) w.1 q.1
      ∙ same_text ms (at + length l + length (concat ls)) (at + length (concat (l ∷ ls))) p ((b ++ l) ++ concat ls) (b ++ concat (l ∷ ls))
      (omega (arith, concat_length l ls)) (append_assoc b l (concat ls) ∙ ap (λ (r : Bytes). b ++ r) (sym (concat_cons l ls)))

  -- the whole record, from a state in which its label line starts the text
  pub text_through : (st : State) (h t : Bytes) → feedless h ≡ true → text_fine t ≡ true →
      ((v : Bytes) → all allowed v ≡ true → line_step u st (h ++ v) ≡ Go (running st.at (prose (st.at + length h) v))) →
      Through u st (h ++ valued t) (running (st.at + length (h ++ valued t)) (prose (st.at + length h) (valued t)))
  text_through st h t one ok first rest =
      let F : FineText t = text_fine_lem t ok in
      let x : TextLines h t rest = text_back h t rest one F.trimmed F.plain in
      let A : all allowed (valued t) ≡ true = valued_allowed t F.fine in
      let B : (all allowed x.first ≡ true) × (all allowed (concat x.later) ≡ true) = all_append_parts allowed x.first (concat x.later) (ap (all allowed) x.body ∙ A) in
      let at : ℕ = st.at in
      ap (read_lines u st) x.lines
      ∙ read_go u st (running at (prose (at + length h) x.first)) (h ++ x.first) (x.later ++ cut rest) (first x.first B.0)
      ∙ text_run x.later (cut rest) (at + length (h ++ x.first)) (at + length h) x.first x.plain (sym (all_concat allowed x.later) ∙ B.1)
      ∙ same_text (cut rest) (at + length (h ++ x.first) + length (concat x.later)) (at + length (h ++ valued t)) (at + length h) (x.first ++ concat x.later) (valued t)
      (omega (arith, length-append h x.first, length-append h (valued t), ap length x.body, length-append x.first (concat x.later))) x.body

-- THE LABEL LINE OF A TEXT behind other records
pub text_first : (u : Rules) (st : State) (h : Bytes) (x : Label) (i : ℕ) (put : Prose → List Prose) → Written h x → is_nil st.seen ≡ false → misplaced st.seen x ≡ false →
    over st.running ≡ false → x.holds ≡ Text i → eqb x.code 0 ≡ false → ((z : Prose) → set st.texts i z ≡ put z) → (v : Bytes) → all allowed v ≡ true →
    line_step u st (h ++ v) ≡ Go (state_with st.geometry st.at (x ∷ st.seen) (Text i) (put (prose (st.at + length h) v)) st.formula st.body)
unfolding value_turn
text_first u st h x i put w b m o e c puts v a =
    label_value u st h x w b m o (Text i) e c v a
    ∙ ap (λ (t : List Prose). Go (state_with st.geometry st.at (x ∷ st.seen) (Text i) t st.formula st.body)) (puts (prose (st.at + length h) v))

-- THE SPAN: where the text stands in the block
abbrev pub spanned : (place : ℕ) → Bytes → Span
spanned p t = span_from (p + 1) t

pub span_is : (p : ℕ) (t : Bytes) → text_fine t ≡ true → span_of (prose p (valued t)) ≡ spanned p t
unfolding span_of
span_is p [] ok = ap (span_from (p + lead (valued []))) (trim_valued [] (text_fine_lem [] ok).trimmed)
span_is p (b ∷ t) ok =
    let w : trim (b ∷ t) ≡ b ∷ t = (text_fine_lem (b ∷ t) ok).trimmed in
    ap (span_from (p + lead (valued (b ∷ t)))) (trim_valued (b ∷ t) w) ∙ ap (λ (n : ℕ). span_from (p + n) (b ∷ t)) (lead_valued b t w)

-- behind `before`, a text is printed and more follows: its span gives it back
pub span_back : (before t rest : Bytes) → text_at (before ++ (valued t ++ rest)) (spanned (length before) t) ≡ t
unfolding text_at
span_back before [] rest = refl
span_back before (b ∷ t) rest =
    let q : before ++ (valued (b ∷ t) ++ rest) ≡ (before ++ (32 ∷ [])) ++ ((b ∷ t) ++ ((10 ∷ []) ++ rest)) =
    ap (λ (r : Bytes). before ++ (r ++ rest)) (valued_is (b ∷ t) (omega arith)) ∙ ap (λ (r : Bytes). before ++ (32 ∷ r)) (append_assoc (b ∷ t) (10 ∷ []) rest) ∙ sym (append_assoc before (32 ∷ []) _) in
    let n : length before + 1 ≡ length (before ++ (32 ∷ [])) = omega (arith, length-append before (32 ∷ [])) in
    ap (λ (r : Bytes). take (suc (length t)) (drop (length before + 1) r)) q
    ∙ ap (λ (m : ℕ). take (suc (length t)) (drop m ((before ++ (32 ∷ [])) ++ ((b ∷ t) ++ ((10 ∷ []) ++ rest))))) n
    ∙ ap (take (suc (length t))) (drop-append_seam (before ++ (32 ∷ [])) ((b ∷ t) ++ ((10 ∷ []) ++ rest)))
    ∙ take-append_seam (b ∷ t) ((10 ∷ []) ++ rest)

-- a text that is printed in a block from a place on
pub record Stands (block : Bytes) (p : ℕ) (t : Bytes) : Type 0 where
  pub before : Bytes
  pub behind : Bytes
  pub is : block ≡ before ++ (valued t ++ behind)
  pub place : p ≡ length before

module _ {block : Bytes} {p : ℕ} {t : Bytes} (x : Stands block p t) where
  pub span_at_lem : text_at block (spanned p t) ≡ t
  span_at_lem =
      ap (λ (m : ℕ). text_at block (spanned m t)) x.place ∙ ap (λ (b : Bytes). text_at b (spanned (length x.before) t)) x.is ∙ span_back x.before t x.behind

  -- and a sound table may have it
  pub span_ok_lem : text_fine t ≡ true → text_ok block (spanned p t) ≡ true
  unfolding text_ok
  span_ok_lem fine = and_both (span_ok (spanned p t).place (spanned p t).size block) _ (within_block t x.is) (ap text_fine span_at_lem ∙ fine)
    where
      within_block : (v : Bytes) → block ≡ x.before ++ (valued v ++ x.behind) → span_ok (spanned p v).place (spanned p v).size block ≡ true
      within_block [] e = refl
      within_block (c ∷ v) e =
          le-leb (p + 1 + suc (length v)) (length block)
          (omega (arith, x.place, ap length e, length-append x.before (valued (c ∷ v) ++ x.behind), length-append (valued (c ∷ v)) x.behind, ap length (valued_is (c ∷ v) (omega arith)), length-append (c ∷ v) (10 ∷ [])))
