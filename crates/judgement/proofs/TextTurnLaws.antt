-- A text's turn, and what the turns of all records have of it: parts of a block, what an answer keeps, the text that runs, and the codes that are a text's, a list's or
-- neither. Document 01, "Lines and labels". Assumes nothing.
use Prim.Native.Nat.{ℕ, ◌+◌, ◌-◌, ◌≤◌}
use mathlib.Core.Path.{◌≡◌, refl, sym, ap, ◌∙◌}
use mathlib.Core.Bool.{Bool, false, ◌||◌}
use mathlib.Core.List.{List, [], ◌∷◌, ◌++◌}
use native.Mathlib.Omega.{arith}
use lib.ListN.{length, take, drop, set, length-drop}
use lib.Seq.{length-take-le, take-take, take-add, drop-drop, drop_at}
use lib.Dec.{eqb}
use borrow.Author.Tests.{eq-eqb}
use Rattle.lists.proofs.Bools.{torn, or_left, or_right}
use Rattle.format.specs.Bytes.{Bytes, strip}
use Rattle.format.specs.Labels.{Bonds, Charges, Radicals, Centres, Pairs}
use Rattle.format.specs.Reading.{Prose, State, with_text}
use Rattle.format.specs.Reading.{Go as going}
use Rattle.lines.specs.Cuts.{Uncommented}
use Rattle.gather.specs.Progress.{part_of, prose_at, count_of, laid, Within, CountedTurn, Bounded, BoundedTurn, Flowing, FlowingTurn}
use Rattle.gather.specs.Shows.{Shows, ShowsTurn}
use Rattle.fields.specs.declared.Field.{Field}
use Rattle.gather.specs.declared.progress.Progress.{Progress}
use Rattle.std.specs.declared.result.Result.{Result}
use Rattle.format.specs.declared.refusal.Refused.{Refused}
use Rattle.std.specs.declared.result.Result.TheVariants.{Ok, Err}
use Rattle.judgement.specs.Lines.{KeptTurn, SameRunning, with_texts, text_put}
use Rattle.judgement.proofs.LineTurnLaws.{listed_still, counted_as_lem, text_title, text_origin, text_owner}

-- PARTS OF A BLOCK
module _ (block : Bytes) where
  pub part_length : (from to : ℕ) → from ≤ to → to ≤ length block → length (part_of block from to) ≡ to - from
  part_length from to h k = length-take-le (to - from) (drop from block) (simp length-drop (omega arith))

  pub comment_within : (from to r : ℕ) → from ≤ to → to ≤ length block → Uncommented (part_of block from to) r → from + r ≤ to
  comment_within from to r h k u = omega (arith, u.high, part_length from to h k)

  pub strip_part : (from to r : ℕ) → from ≤ to → to ≤ length block → Uncommented (part_of block from to) r → strip (part_of block from to) ≡ part_of block from (from + r)
  strip_part from to r h k u =
      let q : r ≡ from + r - from = omega arith in
      u.part ∙ take-take r (to - from) (drop from block) (omega (arith, u.high, part_length from to h k)) ∙ ap (λ (n : ℕ). take n (drop from block)) q

  pub part_join : (from at to : ℕ) → from ≤ at → at ≤ to → part_of block from at ++ part_of block at to ≡ part_of block from to
  part_join from at to h k =
      let q : at ≡ from + (at - from) = omega arith in
      let s : at - from + (to - at) ≡ to - from = omega arith in
      ap (λ (n : ℕ). part_of block from at ++ take (to - at) (drop n block)) q ∙ ap (λ (l : Bytes). part_of block from at ++ take (to - at) l) (sym (drop-drop (at - from) from block))
      ∙ sym (take-add (at - from) (to - at) (drop from block)) ∙ ap (λ (n : ℕ). take n (drop from block)) s

  pub part_drop : (at to v : ℕ) → at + v ≤ to → to ≤ length block → drop v (part_of block at to) ≡ part_of block (at + v) to
  part_drop at to v h k =
      let q : to - at ≡ v + (to - (at + v)) = omega arith in
      ap (λ (n : ℕ). drop v (take n (drop at block))) q ∙ ap (drop v) (take-add v (to - (at + v)) (drop at block))
      ∙ drop_at (take v (drop at block)) (take (to - (at + v)) (drop v (drop at block))) v (length-take-le v (drop at block) (simp length-drop (omega arith)))
      ∙ ap (take (to - (at + v))) (drop-drop v at block)

-- WHAT AN ANSWER KEEPS
pub kept_bounded : (size : ℕ) (p : Progress) (r : Result Progress Refused) → KeptTurn p r → Bounded size p → BoundedTurn size r
kept_bounded size p (Ok q) e b = rw e b
kept_bounded size p (Err x) e b = tt

pub counted_bounded : (size : ℕ) (p : Progress) (r : Result Progress Refused) → CountedTurn p r → Bounded size p → BoundedTurn size r
counted_bounded size p (Ok q) e b = record {
  counted = e.0;
  code = rw (ap (λ (x : Progress). x.running) e.1) b.code;
  title = rw (ap (λ (x : Progress). x.title) e.1) b.title;
  origin = rw (ap (λ (x : Progress). x.origin) e.1) b.origin;
  owner = rw (ap (λ (x : Progress). x.owner) e.1) b.owner;
  formula = rw (ap (λ (x : Progress). x.formula) e.1) b.formula;
  id = rw (ap (λ (x : Progress). x.id) e.1) b.id;
}
counted_bounded size p (Err x) e b = tt

pub kept_running : (p : Progress) (r : Result Progress Refused) → KeptTurn p r → SameRunning p r
kept_running p (Ok q) e = ap (λ (x : Progress). x.running) e
kept_running p (Err x) e = tt

pub counted_running : (p : Progress) (r : Result Progress Refused) → CountedTurn p r → SameRunning p r
counted_running p (Ok q) e = ap (λ (x : Progress). x.running) e.1
counted_running p (Err x) e = tt

-- no text runs
abbrev pub silent : ℕ → Bool
silent n = eqb n 1 || (eqb n 3 || eqb n 4)

pub flowing_silent : (at : ℕ) (p : Progress) (r : Result Progress Refused) → SameRunning p r → silent p.running ≡ false → FlowingTurn at r
flowing_silent at p (Ok q) e s = record {
  title = λ f. torn (silent p.running) (or_left (eqb p.running 1) (eqb p.running 3 || eqb p.running 4) (eq-eqb p.running 1 (sym e ∙ f))) s;
  origin = λ f. torn (silent p.running) (or_right (eqb p.running 1) (eqb p.running 3 || eqb p.running 4) (or_left (eqb p.running 3) (eqb p.running 4) (eq-eqb p.running 3 (sym e ∙ f)))) s;
  owner = λ f. torn (silent p.running) (or_right (eqb p.running 1) (eqb p.running 3 || eqb p.running 4) (or_right (eqb p.running 3) (eqb p.running 4) (eq-eqb p.running 4 (sym e ∙ f)))) s;
}
flowing_silent at p (Err x) e s = tt

-- THE RUNNING TEXT
texts_shown : (k : ℕ) (block : Bytes) (at : ℕ) (p : Progress) (t : List ℕ) (st : State) (x y z : Field) (texts : List Prose) → Shows k block at p t st → texts ≡ prose_at block x ∷ prose_at block y ∷ prose_at block z ∷ []
    → Shows k block at (with_texts x y z p) t (record { at = st.at; seen = st.seen; running = st.running; texts = texts; formula = st.formula; geometry = st.geometry; body = st.body })
unfolding laid
texts_shown k block at p t st x y z texts h e = record {
  place = h.place;
  running = h.running;
  top = h.top;
  holding = record {
    scratch = h.holding.scratch;
    texts = e;
    formula = h.holding.formula;
    formula_fine_lem = h.holding.formula_fine_lem;
    kinds = h.holding.kinds;
    listed = listed_still p (with_texts x y z p) st.body h.holding.listed refl (λ l. elim l as (λ l. count_of l (with_texts x y z p) ≡ count_of l p) [ Bonds ↦ refl | Charges ↦ refl | Radicals ↦ refl | Centres ↦ refl | Pairs ↦ refl ]) refl refl;
    geometry = h.holding.geometry;
  };
}

texts_bounded : (size : ℕ) (p : Progress) (x y z : Field) → Bounded size p → Within size x → Within size y → Within size z → Bounded size (with_texts x y z p)
texts_bounded size p x y z b i j k = record {
  counted = counted_as_lem p (with_texts x y z p) b.counted refl refl refl refl refl refl;
  code = b.code;
  title = i;
  origin = j;
  owner = k;
  formula = b.formula;
  id = b.id;
}

abbrev pub part_from : (from to : ℕ) → Field
part_from from to = record { from = from; to = to }

-- what a text's answer comes to: bounded, flowing, and shown with the text put in its place
abbrev pub TextPromise : (block : Bytes) (end : ℕ) (p : Progress) (t : List ℕ) (r : Result Progress Refused) (x : Field) (i : ℕ) → Type 0
TextPromise block end p t r x i =
    BoundedTurn (length block) r × FlowingTurn end r × ((k at : ℕ) (st : State) → Shows k block at p t st → ShowsTurn k block at r t (going (with_text st i (prose_at block x))))

module _ (block : Bytes) (from end : ℕ) (p : Progress) (t : List ℕ) (b : Bounded (length block) p) (h : from ≤ end) (l : end ≤ length block) (r : Result Progress Refused) (e : r ≡ Ok (text_put p.running (part_from from end) p)) where
  x_within : Within (length block) (part_from from end)
  x_within = record { order = h; high = l }

  flowing_text : (x y z : Field) → (p.running ≡ 1 → x.to ≡ end) → (p.running ≡ 3 → y.to ≡ end) → (p.running ≡ 4 → z.to ≡ end) → Flowing end (with_texts x y z p)
  flowing_text x y z f g i = record { title = f; origin = g; owner = i }

  pub title_promise : p.running ≡ 1 → TextPromise block end p t r (part_from from end) 0
  title_promise c =
      let q : Progress = with_texts (part_from from end) p.origin p.owner p in
      rw (e ∙ ap Ok (text_title p.running (part_from from end) p c)) (
        texts_bounded (length block) p (part_from from end) p.origin p.owner b x_within b.origin b.owner,
        flowing_text (part_from from end) p.origin p.owner (λ f. refl) (λ f. absurd (omega arith)) (λ f. absurd (omega arith)),
        λ k at st s. texts_shown k block at p t st (part_from from end) p.origin p.owner _ s (ap (λ (ts : List Prose). set ts 0 (prose_at block (part_from from end))) s.holding.texts),
      )

  pub origin_promise : p.running ≡ 3 → TextPromise block end p t r (part_from from end) 1
  origin_promise c =
      rw (e ∙ ap Ok (text_origin p.running (part_from from end) p (λ f. omega arith) c)) (
        texts_bounded (length block) p p.title (part_from from end) p.owner b b.title x_within b.owner,
        flowing_text p.title (part_from from end) p.owner (λ f. absurd (omega arith)) (λ f. refl) (λ f. absurd (omega arith)),
        λ k at st s. texts_shown k block at p t st p.title (part_from from end) p.owner _ s (ap (λ (ts : List Prose). set ts 1 (prose_at block (part_from from end))) s.holding.texts),
      )

  pub owner_promise : p.running ≡ 4 → TextPromise block end p t r (part_from from end) 2
  owner_promise c =
      rw (e ∙ ap Ok (text_owner p.running (part_from from end) p (λ f. omega arith) (λ f. omega arith))) (
        texts_bounded (length block) p p.title p.origin (part_from from end) b b.title b.origin x_within,
        flowing_text p.title p.origin (part_from from end) (λ f. absurd (omega arith)) (λ f. absurd (omega arith)) (λ f. refl),
        λ k at st s. texts_shown k block at p t st p.title p.origin (part_from from end) _ s (ap (λ (ts : List Prose). set ts 2 (prose_at block (part_from from end))) s.holding.texts),
      )
