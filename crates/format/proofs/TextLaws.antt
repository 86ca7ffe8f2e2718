-- Trimming, clause by clause, at an index and where its bytes stand; and a printed text: behind its label it is one label line and lines that are none, and its
-- bytes, trimmed, are the text. Serves document 01, "Lines and labels" ("with blanks and line feeds cut from both ends, the inside kept byte for byte") and "The
-- one written form". Assumes nothing.
use Prim.Native.Nat.{ℕ, zero, suc, ◌+◌, ◌-◌, ◌≤◌, ◌<◌}
use mathlib.Core.Path.{◌≡◌, refl, sym, ap, ◌∙◌}
use mathlib.Core.Bool.{Bool, true, false, not, ◌&&◌}
use mathlib.Core.List.{List, [], ◌∷◌, ◌++◌, append_assoc}
use native.Mathlib.Omega.{arith}
use native.Mathlib.Numerals.{add-one}
use lib.ListN.{length, take, drop, get_or, length-drop}
use lib.Seq.{take-suc, drop-nil, get_or-drop}
use lib.Dec.{eqb}
use Rattle.lists.specs.Lists.{all, span, concat}
use borrow.Author.Tests.{not-true}
use Rattle.lists.proofs.Bools.{and_parts, and_right_false}
use Rattle.lists.proofs.ListLaws.{span_nil, in_cons, out_cons, all_parts, all_nil, all_both, all_append_both}
use Rattle.lists.proofs.PairLaws.{bytes_equal}
use Rattle.format.specs.Bytes.{Bytes, same, gap, allowed, cons_to, cut, line_len, whole_from, whole, lead, keep, trim_end, trim, hash, is_label, unlabelled}
use Rattle.format.specs.Table.{text_fine}
use Rattle.format.specs.Writing.{valued}
use Rattle.lists.proofs.PartLaws.{concat_cons}
use Rattle.format.proofs.CutLaws.{feedless, not_feed, concat_cut, cut_hit, cut_miss, cut_nil, cut_first, cut_append, cons_to_cons}
use Rattle.format.proofs.ByteLaws.{space_gap, feed_gap, allowed_gap, unlabelled_cons}

-- LEAD AND TRIM, clause by clause
pub lead_is : (s : Bytes) → lead s ≡ span gap s
unfolding lead
lead_is s = refl

pub trim_is : (s : Bytes) → trim s ≡ trim_end (drop (span gap s) s)
unfolding trim lead
trim_is s = refl

pub lead_ink : (b : ℕ) (s : Bytes) → gap b ≡ false → lead (b ∷ s) ≡ 0
lead_ink b s e = lead_is (b ∷ s) ∙ out_cons gap b s e

pub lead_gap : (b : ℕ) (s : Bytes) → gap b ≡ true → lead (b ∷ s) ≡ suc (lead s)
unfolding lead
lead_gap b s e = in_cons gap b s e

pub keep_gap : (b : ℕ) → gap b ≡ true → keep b [] ≡ []
unfolding keep
keep_gap b e = rw (e, keep)

pub keep_ink : (b : ℕ) (s : Bytes) → gap b ≡ false → keep b s ≡ b ∷ s
unfolding keep
keep_ink b [] e = rw (e, keep)
keep_ink b (c ∷ s) e = refl

pub keep_more : (b c : ℕ) (s : Bytes) → keep b (c ∷ s) ≡ b ∷ c ∷ s
unfolding keep
keep_more b c s = refl

pub end_cons : (b : ℕ) (s : Bytes) → trim_end (b ∷ s) ≡ keep b (trim_end s)
unfolding trim_end
end_cons b s = refl

pub end_nil : trim_end [] ≡ []
unfolding trim_end
end_nil = refl

pub trim_nil : trim [] ≡ []
trim_nil = trim_is [] ∙ ap trim_end (drop-nil (span gap [])) ∙ end_nil

-- a gap in front, ink in front, a gap behind, ink behind
pub trim_front : (b : ℕ) (s : Bytes) → gap b ≡ true → trim (b ∷ s) ≡ trim s
trim_front b s e = trim_is (b ∷ s) ∙ ap (λ (n : ℕ). trim_end (drop n (b ∷ s))) (in_cons gap b s e) ∙ sym (trim_is s)

pub trim_ink : (b : ℕ) (s : Bytes) → gap b ≡ false → trim (b ∷ s) ≡ trim_end (b ∷ s)
trim_ink b s e = trim_is (b ∷ s) ∙ ap (λ (n : ℕ). trim_end (drop n (b ∷ s))) (out_cons gap b s e)

pub end_snoc : (s : Bytes) (g : ℕ) → gap g ≡ true → trim_end (s ++ (g ∷ [])) ≡ trim_end s
unfolding trim_end
end_snoc [] g e = keep_gap g e
end_snoc (b ∷ s) g e = ap (keep b) (end_snoc s g e)

pub end_stays : (s : Bytes) (c : ℕ) → gap c ≡ false → trim_end (s ++ (c ∷ [])) ≡ s ++ (c ∷ [])
unfolding trim_end
end_stays [] c e = keep_ink c [] e
end_stays (b ∷ s) c e = ap (keep b) (end_stays s c e) ∙ kept s
  where
    kept : (s : Bytes) → keep b (s ++ (c ∷ [])) ≡ b ∷ (s ++ (c ∷ []))
    kept [] = keep_more b c []
    kept (d ∷ s) = keep_more b d (s ++ (c ∷ []))

pub trim_back : (s : Bytes) (g : ℕ) → gap g ≡ true → trim (s ++ (g ∷ [])) ≡ trim s
trim_back [] g e = trim_front g [] e
trim_back (b ∷ s) g e = go (gap b) refl (trim_back s g e)
  where
    go : (t : Bool) → gap b ≡ t → trim (s ++ (g ∷ [])) ≡ trim s → trim (b ∷ (s ++ (g ∷ []))) ≡ trim (b ∷ s)
    go true f ih = trim_front b (s ++ (g ∷ [])) f ∙ ih ∙ sym (trim_front b s f)
    go false f ih = trim_ink b (s ++ (g ∷ [])) f ∙ end_snoc (b ∷ s) g e ∙ sym (trim_ink b s f)

-- from the end on, at an index: the loop goes back over gaps
module _ (s : Bytes) (e : ℕ) (h : e < length s) where
  pub end_at_gap : gap (get_or s e 0) ≡ true → trim_end (take (e + 1) s) ≡ trim_end (take e s)
  end_at_gap g = rw (add-one e, take-suc s e 0 h) (end_snoc (take e s) (get_or s e 0) g)

  pub end_at_ink : gap (get_or s e 0) ≡ false → trim_end (take (e + 1) s) ≡ take (e + 1) s
  end_at_ink g = rw (add-one e, take-suc s e 0 h) (end_stays (take e s) (get_or s e 0) g)

-- the same in the part from a to e
module _ (s : Bytes) (a e : ℕ) where
  part_at : a < e → e ≤ length s → get_or (drop a s) (e - 1 - a) 0 ≡ get_or s (e - 1) 0
  part_at h k = let n : a + (e - 1 - a) ≡ e - 1 = omega arith in get_or-drop a s (e - 1 - a) 0 ∙ ap (λ (i : ℕ). get_or s i 0) n

  part_size : a < e → e ≤ length s → e - 1 - a < length (drop a s)
  part_size h k = omega (arith, length-drop a s)

  pub part_gap : a < e → e ≤ length s → gap (get_or s (e - 1) 0) ≡ true → trim_end (take (e - a) (drop a s)) ≡ trim_end (take (e - 1 - a) (drop a s))
  part_gap h k g =
      let n : e - a ≡ e - 1 - a + 1 = omega arith in
      ap (λ (i : ℕ). trim_end (take i (drop a s))) n ∙ end_at_gap (drop a s) (e - 1 - a) (part_size h k) (ap gap (part_at h k) ∙ g)

  pub part_ink : a < e → e ≤ length s → gap (get_or s (e - 1) 0) ≡ false → trim_end (take (e - a) (drop a s)) ≡ take (e - a) (drop a s)
  part_ink h k g =
      let n : e - 1 - a + 1 ≡ e - a = omega arith in
      let q : trim_end (take (e - 1 - a + 1) (drop a s)) ≡ take (e - 1 - a + 1) (drop a s) = end_at_ink (drop a s) (e - 1 - a) (part_size h k) (ap gap (part_at h k) ∙ g) in
      rw n at q

  pub part_none : e ≤ a → trim_end (take (e - a) (drop a s)) ≡ []
  part_none h = let n : e - a ≡ 0 = omega arith in ap (λ (i : ℕ). trim_end (take i (drop a s))) n ∙ end_nil

-- THE LAST BYTE of a list that is not empty
abbrev pub last_of : ℕ → Bytes → ℕ
last_of d [] = d
last_of d (b ∷ s) = last_of b s

pub last_at : (b : ℕ) (s : Bytes) → last_of b s ≡ get_or (b ∷ s) (length s) 0
last_at b [] = refl
last_at b (c ∷ s) = last_at c s

front : (b : ℕ) (s : Bytes) → (x : Bytes) × (b ∷ s ≡ x ++ (last_of b s ∷ [])) × (length x ≡ length s)
front b [] = ([], refl, refl)
front b (c ∷ s) = let f : (x : Bytes) × (c ∷ s ≡ x ++ (last_of c s ∷ [])) × (length x ≡ length s) = front c s in (b ∷ f.0, ap (λ (r : Bytes). b ∷ r) f.1, ap suc f.2)

-- trimmed: by the first and the last byte
end_ink : (b : ℕ) (s : Bytes) → gap (last_of b s) ≡ false → trim_end (b ∷ s) ≡ b ∷ s
unfolding trim_end
end_ink b [] e = keep_ink b [] e
end_ink b (c ∷ s) e = ap (keep b) (end_ink c s e) ∙ keep_more b c s

pub trim_alone : (b : ℕ) (s : Bytes) → gap b ≡ false → gap (last_of b s) ≡ false → trim (b ∷ s) ≡ b ∷ s
trim_alone b s e f = trim_ink b s e ∙ end_ink b s f

-- WHERE THE TRIMMED BYTES STAND
keep_take : (b : ℕ) (r s : Bytes) → r ≡ take (length r) s → keep b r ≡ take (length (keep b r)) (b ∷ s)
keep_take b [] s h = go (gap b) refl
  where
    go : (t : Bool) → gap b ≡ t → keep b [] ≡ take (length (keep b [])) (b ∷ s)
    go true e = rw (keep_gap b e)
    go false e = rw (keep_ink b [] e)
keep_take b (c ∷ r) s h = rw (keep_more b c r) (ap (λ (l : Bytes). b ∷ l) h)

pub end_take : (s : Bytes) → trim_end s ≡ take (length (trim_end s)) s
unfolding trim_end
end_take [] = refl
end_take (b ∷ s) = keep_take b (trim_end s) s (end_take s)

pub trim_span : (s : Bytes) → trim s ≡ take (length (trim s)) (drop (lead s) s)
unfolding trim
trim_span s = end_take (drop (lead s) s)

keep_le : (b : ℕ) (r : Bytes) → length (keep b r) ≤ suc (length r)
keep_le b [] = go (gap b) refl
  where
    go : (t : Bool) → gap b ≡ t → length (keep b []) ≤ 1
    go true e = rw (keep_gap b e) (omega arith)
    go false e = rw (keep_ink b [] e) (omega arith)
keep_le b (c ∷ r) = rw (keep_more b c r) (omega arith)

pub end_le : (s : Bytes) → length (trim_end s) ≤ length s
unfolding trim_end
end_le [] = omega arith
end_le (b ∷ s) = omega (arith, keep_le b (trim_end s), end_le s)

-- the trimmed bytes end where the text does, or before
pub trim_fits : (s : Bytes) → length (trim s) ≤ length s - lead s
unfolding trim
trim_fits s = omega (arith, end_le (drop (lead s) s), length-drop (lead s) s)

pub trim_le : (s : Bytes) → length (trim s) ≤ length s
trim_le s = omega (arith, trim_fits s)

-- a trimmed text starts and ends with ink
pub trimmed_first : (b : ℕ) (s : Bytes) → trim (b ∷ s) ≡ b ∷ s → gap b ≡ false
trimmed_first b s h = go (gap b) refl
  where
    go : (t : Bool) → gap b ≡ t → gap b ≡ false
    go true e = absurd (omega (arith, trim_le s, ap length (sym (trim_front b s e) ∙ h)))
    go false e = e

pub trimmed_last : (b : ℕ) (s : Bytes) → trim (b ∷ s) ≡ b ∷ s → gap (last_of b s) ≡ false
trimmed_last b s h = go (gap (last_of b s)) refl (front b s)
  where
    go : (t : Bool) → gap (last_of b s) ≡ t → (x : Bytes) × (b ∷ s ≡ x ++ (last_of b s ∷ [])) × (length x ≡ length s) → gap (last_of b s) ≡ false
    go true e f =
        let q : trim f.0 ≡ b ∷ s = sym (trim_back f.0 (last_of b s) e) ∙ ap trim (sym f.1) ∙ h in
        absurd (omega (arith, trim_le f.0, ap length q, f.2))
    go false e f = e

-- trimming again changes nothing
pub trim_lead : (s : Bytes) → trim s ≡ s → lead s ≡ 0
trim_lead [] h = lead_is [] ∙ span_nil gap
trim_lead (b ∷ s) h = lead_ink b s (trimmed_first b s h)

-- LABEL LINES inside a text
abbrev pub Unlabelled : List Bytes → Type 0
Unlabelled [] = Unit {0}
Unlabelled (l ∷ ls) = (is_label l ≡ false) × Unlabelled ls

-- of the lines all but the first
abbrev pub Later : List Bytes → Type 0
Later [] = Unit {0}
Later (l ∷ ls) = Unlabelled ls

label_take : (s : Bytes) (n : ℕ) → is_label s ≡ false → is_label (take n s) ≡ false
label_take s zero h = refl
label_take [] (suc n) h = refl
label_take (b ∷ []) (suc zero) h = h
label_take (b ∷ []) (suc (suc n)) h = h
label_take (b ∷ c ∷ s) (suc zero) h = and_right_false (hash b) false refl
label_take (b ∷ c ∷ s) (suc (suc n)) h = h

-- the first line is no label line where the list starts with none
first_plain : (s : Bytes) → is_label s ≡ false → (ls : List Bytes) → cut s ≡ ls → Later ls → Unlabelled ls
first_plain s h [] e w = tt
first_plain [] h (l ∷ ls) e w = let z : ◌≡◌ {A = ℕ} 0 1 = cc (cut_nil) in absurd (omega arith)
first_plain (b ∷ s) h (l ∷ ls) e w =
    let f : cut (b ∷ s) ≡ take (line_len (b ∷ s)) (b ∷ s) ∷ cut (drop (line_len (b ∷ s)) (b ∷ s)) = cut_first (b ∷ s) (omega arith) in
    let g : l ≡ take (line_len (b ∷ s)) (b ∷ s) = cc in
    (ap is_label g ∙ label_take (b ∷ s) (line_len (b ∷ s)) h, w)

later_cons_to : (b : ℕ) (ls : List Bytes) → Later ls → Later (cons_to b ls)
unfolding cons_to
later_cons_to b [] w = tt
later_cons_to b (l ∷ ls) w = w

pub unlabelled_parts : (b : ℕ) (s : Bytes) → unlabelled (b ∷ s) ≡ true → ((eqb b 10 && is_label s) ≡ false) × (unlabelled s ≡ true)
unlabelled_parts b s h =
    let p : (not (eqb b 10 && is_label s) ≡ true) × (unlabelled s ≡ true) = and_parts (not (eqb b 10 && is_label s)) (unlabelled s) (sym (unlabelled_cons b s) ∙ h) in
    (not-true (eqb b 10 && is_label s) p.0, p.1)

pub later_plain : (s : Bytes) → unlabelled s ≡ true → Later (cut s)
later_plain [] h = rw cut_nil tt
later_plain (b ∷ s) h = go (eqb b 10) refl (unlabelled_parts b s h) (later_plain s)
  where
    go : (t : Bool) → eqb b 10 ≡ t → ((eqb b 10 && is_label s) ≡ false) × (unlabelled s ≡ true) → (unlabelled s ≡ true → Later (cut s)) → Later (cut (b ∷ s))
    go true e p ih = rw (cut_hit b s e) (first_plain s (sym (ap (λ (t : Bool). t && is_label s) e) ∙ p.0) (cut s) refl (ih p.1))
    go false e p ih = rw (cut_miss b s e) (later_cons_to b (cut s) (ih p.1))

-- a line feed behind adds none
label_snoc : (s : Bytes) → is_label (s ++ (10 ∷ [])) ≡ is_label s
label_snoc [] = refl
label_snoc (b ∷ []) = refl
label_snoc (b ∷ c ∷ s) = refl

pub unlabelled_snoc : (s : Bytes) → unlabelled (s ++ (10 ∷ [])) ≡ unlabelled s
unfolding unlabelled
unlabelled_snoc [] = refl
unlabelled_snoc (b ∷ s) = rw (label_snoc s, unlabelled_snoc s)

-- a list without line feed in front of lines
pub cut_behind : (h s l : Bytes) (ls : List Bytes) → feedless h ≡ true → cut s ≡ l ∷ ls → cut (h ++ s) ≡ (h ++ l) ∷ ls
cut_behind [] s l ls f e = e
cut_behind (b ∷ h) s l ls f e =
    let p : (not_feed b ≡ true) × (feedless h ≡ true) = all_parts not_feed b h f in
    cut_miss b (h ++ s) (not-true (eqb b 10) p.0) ∙ ap (cons_to b) (cut_behind h s l ls p.1 e) ∙ cons_to_cons b (h ++ l) ls

pub whole_snoc : (s : Bytes) (t : Bool) → whole_from t (s ++ (10 ∷ [])) ≡ true
unfolding whole_from
whole_snoc [] t = refl
whole_snoc (b ∷ s) t = whole_snoc s (eqb b 10)

-- THE RECORD: a label h (from ## to =), the text printed as a value, and whatever lines follow
pub record TextLines (h t rest : Bytes) : Type 0 where
  pub first : Bytes
  pub later : List Bytes
  pub lines : cut ((h ++ valued t) ++ rest) ≡ ((h ++ first) ∷ later) ++ cut rest
  pub plain : Unlabelled later
  pub body : first ++ concat later ≡ valued t
  pub value : trim (first ++ concat later) ≡ t

-- a body that is not empty, ends in 10, has no label line inside, and trims to the text
module _ (h t body rest : Bytes) (n : 0 < length body) (w : whole (h ++ body) ≡ true) (u : unlabelled body ≡ true) (f : feedless h ≡ true) where
  first_cut : cut body ≡ take (line_len body) body ∷ cut (drop (line_len body) body)
  first_cut = cut_first body n

  body_lines : cut ((h ++ body) ++ rest) ≡ ((h ++ take (line_len body) body) ∷ cut (drop (line_len body) body)) ++ cut rest
  body_lines = cut_append (h ++ body) rest w ∙ ap (λ (r : List Bytes). r ++ cut rest) (cut_behind h body _ _ f first_cut)

  body_plain : Unlabelled (cut (drop (line_len body) body))
  body_plain = rw first_cut at (later_plain body u)

  body_joined : take (line_len body) body ++ concat (cut (drop (line_len body) body)) ≡ body
  body_joined = sym (concat_cons (take (line_len body) body) (cut (drop (line_len body) body))) ∙ ap concat (sym first_cut) ∙ concat_cut body

  text_lines : body ≡ valued t → trim body ≡ t → TextLines h t rest
  text_lines e v = record {
    first = take (line_len body) body;
    later = cut (drop (line_len body) body);
    lines = ap (λ (r : Bytes). cut ((h ++ r) ++ rest)) (sym e) ∙ body_lines;
    plain = body_plain;
    body = body_joined ∙ e;
    value = ap trim body_joined ∙ v;
  }

-- a printed value trims to the text, and its lines are no label lines where those of the text are none
pub trim_valued : (t : Bytes) → trim t ≡ t → trim (valued t) ≡ t
unfolding valued
trim_valued [] w = trim_front 10 [] feed_gap ∙ w
trim_valued (b ∷ t) w = trim_front 32 ((b ∷ t) ++ (10 ∷ [])) space_gap ∙ trim_back (b ∷ t) 10 feed_gap ∙ w

pub lead_valued : (b : ℕ) (t : Bytes) → trim (b ∷ t) ≡ b ∷ t → lead (valued (b ∷ t)) ≡ 1
unfolding valued
lead_valued b t w = lead_gap 32 (b ∷ (t ++ (10 ∷ []))) space_gap ∙ ap suc (lead_ink b (t ++ (10 ∷ [])) (trimmed_first b t w))

unlabelled_valued : (t : Bytes) → unlabelled t ≡ true → unlabelled (valued t) ≡ true
unfolding valued
unlabelled_valued [] u = unlabelled_snoc [] ∙ u
unlabelled_valued (b ∷ t) u = unlabelled_cons 32 ((b ∷ t) ++ (10 ∷ [])) ∙ unlabelled_snoc (b ∷ t) ∙ u

pub valued_whole : (h t : Bytes) (e : Bool) → whole_from e (h ++ valued t) ≡ true
unfolding valued
valued_whole h [] e = whole_snoc h e
valued_whole h (b ∷ t) e = ap (whole_from e) (sym (append_assoc h (32 ∷ b ∷ t) (10 ∷ []))) ∙ whole_snoc (h ++ (32 ∷ b ∷ t)) e

valued_some : (t : Bytes) → 0 < length (valued t)
unfolding valued
valued_some [] = omega arith
valued_some (b ∷ t) = omega arith

pub text_back : (h t rest : Bytes) → feedless h ≡ true → trim t ≡ t → unlabelled t ≡ true → TextLines h t rest
text_back h t rest f w u = text_lines h t (valued t) rest (valued_some t) (valued_whole h t true) (unlabelled_valued t u) f refl (trim_valued t w)

-- WHAT A FINE TEXT SAYS
pub record FineText (t : Bytes) : Type 0 where
  pub trimmed : trim t ≡ t
  pub fine : all allowed t ≡ true
  pub plain : unlabelled t ≡ true

pub text_fine_lem : (t : Bytes) → text_fine t ≡ true → FineText t
unfolding text_fine
text_fine_lem t h =
    let p = and_parts (same (trim t) t) _ h in
    let q = and_parts (all allowed t) (unlabelled t) p.1 in
    record { trimmed = bytes_equal (trim t) t p.0; fine = q.0; plain = q.1 }

pub valued_allowed : (t : Bytes) → all allowed t ≡ true → all allowed (valued t) ≡ true
unfolding valued
valued_allowed [] h = all_both allowed 10 [] (allowed_gap 10 feed_gap) h
valued_allowed (b ∷ t) h = all_both allowed 32 ((b ∷ t) ++ (10 ∷ [])) (allowed_gap 32 space_gap) (all_append_both allowed (b ∷ t) (10 ∷ []) h (all_both allowed 10 [] (allowed_gap 10 feed_gap) (all_nil allowed)))

-- where each byte passes a test, each line's bytes do
cons_to_all : (p : ℕ → Bool) (b : ℕ) (ls : List Bytes) → p b ≡ true → all (all p) ls ≡ true → all (all p) (cons_to b ls) ≡ true
unfolding cons_to
cons_to_all p b [] e h = all_both (all p) (b ∷ []) [] (all_both p b [] e (all_nil p)) h
cons_to_all p b (l ∷ ls) e h = let q : (all p l ≡ true) × (all (all p) ls ≡ true) = all_parts (all p) l ls h in all_both (all p) (b ∷ l) ls (all_both p b l e q.0) q.1

pub cut_all : (p : ℕ → Bool) (s : Bytes) → all p s ≡ true → all (all p) (cut s) ≡ true
cut_all p [] h = ap (all (all p)) cut_nil ∙ all_nil (all p)
cut_all p (b ∷ s) h = go (eqb b 10) refl (all_parts p b s h).0 (cut_all p s (all_parts p b s h).1)
  where
    go : (t : Bool) → eqb b 10 ≡ t → p b ≡ true → all (all p) (cut s) ≡ true → all (all p) (cut (b ∷ s)) ≡ true
    go true e f ih = ap (all (all p)) (cut_hit b s e) ∙ all_both (all p) (b ∷ []) (cut s) (all_both p b [] f (all_nil p)) ih
    go false e f ih = ap (all (all p)) (cut_miss b s e) ∙ cons_to_all p b (cut s) f ih
