-- The texts of an accepted block, as their spans have them, are fine: they stand within the block, are trimmed, have only allowed bytes, and no line of them but
-- the first starts with `##`. Document 01, "The structure table" ("start and length in the block of title, origin, owner (empty: 0, 0)") and "Refusal numbers"
-- ("a text out of bounds, untrimmed, with a byte not allowed, or with `##` right after a line feed"). Assumes nothing.
use Prim.Native.Nat.{ℕ, suc, ◌+◌, ◌-◌}
use mathlib.Core.Path.{◌≡◌, refl, sym, ap, ◌∙◌}
use mathlib.Core.Bool.{Bool, true, false, not, ◌&&◌, ◌||◌}
use mathlib.Core.List.{List, [], ◌∷◌, ◌++◌, map, append_assoc, append-nil}
use native.Mathlib.Omega.{arith}
use lib.ListN.{length, take, drop, length-append, take-append-drop}
use lib.Seq.{length-take-le}
use lib.Dec.{eqb}
use borrow.Author.Tests.{eqb-true, le-leb}
use Rattle.lists.specs.Lists.{is_nil, all, concat}
use Rattle.lists.proofs.Bools.{torn, and_parts, and_both, and_left_false, and_right_false, or_left, or_right, not_of_false}
use Rattle.lists.proofs.ListLaws.{all_append_parts, span_le}
use Rattle.lists.proofs.PartLaws.{concat_cons, all_concat}
use Rattle.lists.proofs.PairLaws.{bytes_same}
use Rattle.lists.proofs.RegionLaws.{region_is}
use Rattle.format.specs.Bytes.{Bytes, gap, allowed, cons_to, cut, lead, keep, trim_end, trim, head_is, hash, is_label, unlabelled}
use Rattle.format.specs.Labels.{Parts, NoEquals, Parted, longer, parts, parts_line, Line, Plain, line_of}
use Rattle.format.specs.Reading.{Prose, prose, span_from, span_of}
use Rattle.format.specs.Table.{text_fine, text_at, span_ok, text_ok}
use Rattle.format.specs.Walking.{until_label, value_of}
use Rattle.format.proofs.ByteLaws.{unlabelled_cons, parts_hit, parts_miss}
use Rattle.format.proofs.CutLaws.{full, cut_hit, cut_miss, concat_cut}
use Rattle.format.proofs.TextLaws.{keep_gap, keep_ink, keep_more, end_cons, end_nil, trim_nil, trim_front, trim_ink, lead_is, trim_span, unlabelled_parts}
use Rattle.demands.specs.ReadAs.{starts_text, text_from, spans_in}

-- LABEL LINES inside bytes: a front of bytes that start with no label starts with none
label_front : (x y : Bytes) → is_label (x ++ y) ≡ false → is_label x ≡ false
label_front [] y h = refl
label_front (b ∷ []) y h = and_right_false (hash b) false refl
label_front (b ∷ c ∷ x) y h = h

unlabelled_both : (b : ℕ) (s : Bytes) → (eqb b 10 && is_label s) ≡ false → unlabelled s ≡ true → unlabelled (b ∷ s) ≡ true
unlabelled_both b s h k = unlabelled_cons b s ∙ and_both (not (eqb b 10 && is_label s)) (unlabelled s) (not_of_false _ h) k

feed_front : (t : Bool) (x y : Bytes) → (t && is_label (x ++ y)) ≡ false → (t && is_label x) ≡ false
feed_front true x y h = label_front x y h
feed_front false x y h = refl

unlabelled_front : (x y : Bytes) → unlabelled (x ++ y) ≡ true → unlabelled x ≡ true
unfolding unlabelled
unlabelled_front [] y h = refl
unlabelled_front (b ∷ x) y h =
    let p : ((eqb b 10 && is_label (x ++ y)) ≡ false) × (unlabelled (x ++ y) ≡ true) = unlabelled_parts b (x ++ y) h in
    unlabelled_both b x (feed_front (eqb b 10) x y p.0) (unlabelled_front x y p.1)

unlabelled_behind : (x y : Bytes) → unlabelled (x ++ y) ≡ true → unlabelled y ≡ true
unlabelled_behind [] y h = h
unlabelled_behind (b ∷ x) y h = unlabelled_behind x y (unlabelled_parts b (x ++ y) h).1

-- TRIMMED BYTES: trimming again changes nothing, and they stand in the bytes behind those that are cut in front
keep_twice : (b : ℕ) (r : Bytes) → trim_end r ≡ r → trim_end (keep b r) ≡ keep b r
keep_twice b [] h = by (gap b) refl
  where
    by : (t : Bool) → gap b ≡ t → trim_end (keep b []) ≡ keep b []
    by true e = ap trim_end (keep_gap b e) ∙ end_nil ∙ sym (keep_gap b e)
    by false e = ap trim_end (keep_ink b [] e) ∙ end_cons b [] ∙ ap (keep b) end_nil
keep_twice b (c ∷ r) h = ap trim_end (keep_more b c r) ∙ end_cons b (c ∷ r) ∙ ap (keep b) h

end_twice : (s : Bytes) → trim_end (trim_end s) ≡ trim_end s
end_twice [] = ap trim_end end_nil
end_twice (b ∷ s) = ap trim_end (end_cons b s) ∙ keep_twice b (trim_end s) (end_twice s) ∙ sym (end_cons b s)

trim_twice : (s : Bytes) → trim (trim s) ≡ trim s
trim_twice [] = ap trim trim_nil
trim_twice (b ∷ s) = by (gap b) refl (trim_twice s)
  where
    by : (t : Bool) → gap b ≡ t → trim (trim s) ≡ trim s → trim (trim (b ∷ s)) ≡ trim (b ∷ s)
    by true e ih = ap trim (trim_front b s e) ∙ ih ∙ sym (trim_front b s e)
    by false e ih =
        let q : trim (b ∷ s) ≡ b ∷ trim_end s = trim_ink b s e ∙ end_cons b s ∙ keep_ink b (trim_end s) e in
        ap trim q ∙ trim_ink b (trim_end s) e ∙ end_cons b (trim_end s) ∙ ap (keep b) (end_twice s) ∙ keep_ink b (trim_end s) e ∙ sym q

record Trimmed (s : Bytes) : Type 0 where
  front : Bytes
  back : Bytes
  is : s ≡ front ++ (trim s ++ back)
  cut_off : length front ≡ lead s

trimmed : (s : Bytes) → Trimmed s
trimmed s =
    let n : ℕ = length (trim s) in
    let d : Bytes = drop (lead s) s in
    let q : d ≡ trim s ++ drop n d = sym (take-append-drop n d) ∙ ap (λ (x : Bytes). x ++ drop n d) (sym (trim_span s)) in
    record {
      front = take (lead s) s;
      back = drop n d;
      is = sym (take-append-drop (lead s) s) ∙ ap (λ (x : Bytes). take (lead s) s ++ x) q;
      cut_off = length-take-le (lead s) s (omega (arith, lead_is s, span_le gap s));
    }

-- A LINE: a line feed stands at its end alone; a line with another behind it ends in one
unfoldable lone : Bytes → Bool
lone [] = true
lone (b ∷ s) = (not (eqb b 10) || is_nil s) && lone s

lone_parts : (b : ℕ) (s : Bytes) → lone (b ∷ s) ≡ true → ((not (eqb b 10) || is_nil s) ≡ true) × (lone s ≡ true)
unfolding lone
lone_parts b s h = and_parts (not (eqb b 10) || is_nil s) (lone s) h

lone_one : (b : ℕ) → lone (b ∷ []) ≡ true
unfolding lone
lone_one b = and_both _ true (or_right (not (eqb b 10)) true refl) refl

lone_more : (b : ℕ) (s : Bytes) → eqb b 10 ≡ false → lone s ≡ true → lone (b ∷ s) ≡ true
unfolding lone
lone_more b s e h = and_both _ (lone s) (or_left (not (eqb b 10)) (is_nil s) (not_of_false _ e)) h

lone_behind : (x y : Bytes) → lone (x ++ y) ≡ true → lone y ≡ true
lone_behind [] y h = h
lone_behind (b ∷ x) y h = lone_behind x y (lone_parts b (x ++ y) h).1

-- no label starts inside a line, nor behind it where what follows starts with none
lone_unlabelled : (v u : Bytes) → lone v ≡ true → is_label u ≡ false → unlabelled u ≡ true → unlabelled (v ++ u) ≡ true
lone_unlabelled [] u h e f = f
lone_unlabelled (b ∷ []) u h e f = unlabelled_both b u (and_right_false (eqb b 10) (is_label u) e) f
lone_unlabelled (b ∷ c ∷ v) u h e f =
    let p : ((not (eqb b 10) || false) ≡ true) × (lone (c ∷ v) ≡ true) = lone_parts b (c ∷ v) h in
    unlabelled_both b ((c ∷ v) ++ u) (and_left_false (eqb b 10) _ (no_feed (eqb b 10) p.0)) (lone_unlabelled (c ∷ v) u p.1 e f)
  where
    no_feed : (t : Bool) → (not t || false) ≡ true → t ≡ false
    no_feed true g = torn false g refl
    no_feed false g = refl

full_label : (l u : Bytes) → full l ≡ true → is_label l ≡ false → is_label (l ++ u) ≡ false
unfolding full
full_label [] u h e = torn false h refl
full_label (b ∷ []) u h e = by (eqb b 10) refl h
  where
    by : (t : Bool) → eqb b 10 ≡ t → elim t as (λ (x : Bool). Bool) [ true ↦ true | false ↦ false ] ≡ true → (hash b && head_is hash u) ≡ false
    by true f g = and_left_false (hash b) (head_is hash u) (ap hash (eqb-true b 10 f))
    by false f g = torn false g refl
full_label (b ∷ c ∷ l) u h e = e

abbrev Ends : Bytes → List Bytes → Type 0
Ends l [] = Unit {0}
Ends l (m ∷ ls) = full l ≡ true

abbrev Lined : List Bytes → Type 0
Lined [] = Unit {0}
Lined (l ∷ ls) = (lone l ≡ true) × Ends l ls × Lined ls

full_feed : (b : ℕ) (ls : List Bytes) → eqb b 10 ≡ true → Ends (b ∷ []) ls
unfolding full
full_feed b [] e = tt
full_feed b (m ∷ ls) e = rw (e, full)

full_more : (b : ℕ) (l : Bytes) (ls : List Bytes) → eqb b 10 ≡ false → Ends l ls → Ends (b ∷ l) ls
unfolding full
full_more b l [] e h = tt
full_more b l (m ∷ ls) e h = rw (e, full) h

cons_to_lined : (b : ℕ) (ls : List Bytes) → eqb b 10 ≡ false → Lined ls → Lined (cons_to b ls)
unfolding cons_to
cons_to_lined b [] e h = (lone_one b, tt, tt)
cons_to_lined b (l ∷ ls) e h = (lone_more b l e h.0, full_more b l ls e h.1, h.2)

cut_lined : (s : Bytes) → Lined (cut s)
unfolding cut
cut_lined [] = tt
cut_lined (b ∷ s) = by (eqb b 10) refl (cut_lined s)
  where
    by : (t : Bool) → eqb b 10 ≡ t → Lined (cut s) → Lined (cut (b ∷ s))
    by true e h = rw (cut_hit b s e) (lone_one b, full_feed b (cut s) e, h)
    by false e h = rw (cut_miss b s e) (cons_to_lined b (cut s) e h)

-- THE FURTHER LINES of a text: a front of the lines that follow, with no label line
record FurtherLines (ls : List Bytes) : Type 0 where
  rest : Bytes
  is : concat ls ≡ until_label ls ++ rest
  starts : is_label (until_label ls) ≡ false
  plain : unlabelled (until_label ls) ≡ true

further_none : (ls : List Bytes) → until_label ls ≡ [] → FurtherLines ls
unfolding unlabelled
further_none ls e = record { rest = concat ls; is = ap (λ (x : Bytes). x ++ concat ls) (sym e); starts = ap is_label e; plain = ap unlabelled e }

further_lines : (ls : List Bytes) → Lined ls → FurtherLines ls
unfolding until_label
further_lines [] h = further_none [] refl
further_lines (l ∷ ls) h = by (is_label l) refl (further_lines ls h.2)
  where
    starts_none : (ms : List Bytes) → Ends l ms → is_label l ≡ false → is_label (l ++ until_label ms) ≡ false
    starts_none [] g e = ap is_label (append-nil l) ∙ e
    starts_none (m ∷ ms) g e = full_label l (until_label (m ∷ ms)) g e

    by : (t : Bool) → is_label l ≡ t → FurtherLines ls → FurtherLines (l ∷ ls)
    by true e f = further_none (l ∷ ls) (rw (e, until_label))
    by false e f =
        let q : until_label (l ∷ ls) ≡ l ++ until_label ls = rw (e, until_label) in
        record {
          rest = f.rest;
          is = concat_cons l ls ∙ ap (λ (x : Bytes). l ++ x) f.is ∙ sym (append_assoc l (until_label ls) f.rest) ∙ ap (λ (x : Bytes). x ++ f.rest) (sym q);
          starts = ap is_label q ∙ starts_none ls h.1 e;
          plain = ap unlabelled q ∙ lone_unlabelled l (until_label ls) h.0 f.starts f.plain;
        }

-- THE VALUE on a label line is the line's end
value_longer : (b : ℕ) (p : Parts) → value_of (parts_line (longer b p)) ≡ value_of (parts_line p)
value_longer b NoEquals = refl
value_longer b (Parted n v) = refl

parts_end : (s : Bytes) → (h : Bytes) × (s ≡ h ++ value_of (parts_line (parts s)))
unfolding parts
parts_end [] = ([], refl)
parts_end (b ∷ s) = by (eqb b 61) refl (parts_end s)
  where
    by : (t : Bool) → eqb b 61 ≡ t → ((h : Bytes) × (s ≡ h ++ value_of (parts_line (parts s)))) → (h : Bytes) × (b ∷ s ≡ h ++ value_of (parts_line (parts (b ∷ s))))
    by true e ih = (b ∷ [], ap (λ (p : Parts). b ∷ value_of (parts_line p)) (sym (parts_hit b s e)))
    by false e ih =
        let q : value_of (parts_line (parts (b ∷ s))) ≡ value_of (parts_line (parts s)) = ap (λ (p : Parts). value_of (parts_line p)) (parts_miss b s e) ∙ value_longer b (parts s) in
        (b ∷ ih.0, ap (λ (x : Bytes). b ∷ x) ih.1 ∙ ap (λ (x : Bytes). b ∷ (ih.0 ++ x)) (sym q))

line_end : (l : Bytes) → (h : Bytes) × (l ≡ h ++ value_of (line_of l))
unfolding line_of
line_end l = by (is_label l) (parts_end (drop 2 l))
  where
    by : (t : Bool) → ((h : Bytes) × (drop 2 l ≡ h ++ value_of (parts_line (parts (drop 2 l)))))
        → (h : Bytes) × (l ≡ h ++ value_of (elim t as (λ (u : Bool). Line) [ true ↦ parts_line (parts (drop 2 l)) | false ↦ Plain ]))
    by true p = (take 2 l ++ p.0, sym (take-append-drop 2 l) ∙ ap (λ (x : Bytes). take 2 l ++ x) p.1 ∙ sym (append_assoc (take 2 l) p.0 _))
    by false p = (l, sym (append-nil l))

-- A TEXT IN ITS BLOCK: its bytes stand there from its place on, and no label line stands among them
record StandsIn (b : Bytes) (t : Prose) : Type 0 where
  before : Bytes
  behind : Bytes
  is : b ≡ before ++ (t.body ++ behind)
  place : t.place ≡ length before
  plain : unlabelled t.body ≡ true

stands_none : (b : Bytes) → StandsIn b (prose 0 [])
unfolding unlabelled
stands_none b = record { before = []; behind = b; is = refl; place = refl; plain = refl }

-- from its label line on: the value there and the further lines
stands_here : (b pre l : Bytes) (at : ℕ) (ls : List Bytes) → b ≡ pre ++ (l ++ concat ls) → at ≡ length pre → lone l ≡ true → FurtherLines ls
    → StandsIn b (prose (at + (length l - length (value_of (line_of l)))) (value_of (line_of l) ++ until_label ls))
stands_here b pre l at ls e n h f =
    let v : Bytes = value_of (line_of l) in
    let u : Bytes = until_label ls in
    let p : (x : Bytes) × (l ≡ x ++ v) = line_end l in
    record {
      before = pre ++ p.0;
      behind = f.rest;
      is =
          e ∙ ap (λ (x : Bytes). pre ++ (l ++ x)) f.is ∙ ap (λ (x : Bytes). pre ++ (x ++ (u ++ f.rest))) p.1
          ∙ ap (λ (x : Bytes). pre ++ x) (append_assoc p.0 v (u ++ f.rest)) ∙ sym (append_assoc pre p.0 (v ++ (u ++ f.rest)))
          ∙ ap (λ (x : Bytes). (pre ++ p.0) ++ x) (sym (append_assoc v u f.rest));
      place = omega (arith, n, length-append pre p.0, length-append p.0 v, ap length p.1);
      plain = lone_unlabelled v u (lone_behind p.0 v (sym (ap lone p.1) ∙ h)) f.starts f.plain;
    }

stands : (b : Bytes) (i : ℕ) (pre : Bytes) (at : ℕ) (ls : List Bytes) → b ≡ pre ++ concat ls → at ≡ length pre → Lined ls → StandsIn b (text_from i at ls)
unfolding text_from
stands b i pre at [] e n h = stands_none b
stands b i pre at (l ∷ ls) e n h =
    let q : b ≡ pre ++ (l ++ concat ls) = e ∙ ap (λ (x : Bytes). pre ++ x) (concat_cons l ls) in
    by (starts_text i (line_of l)) (stands_here b pre l at ls q n h.0 (further_lines ls h.2))
    (stands b i (pre ++ l) (at + length l) ls (q ∙ sym (append_assoc pre l (concat ls))) (omega (arith, n, length-append pre l)) h.2)
  where
    by : (t : Bool) → StandsIn b (prose (at + (length l - length (value_of (line_of l)))) (value_of (line_of l) ++ until_label ls)) → StandsIn b (text_from i (at + length l) ls)
        → StandsIn b (elim t as (λ (u : Bool). Prose) [
          | true ↦ prose (at + (length l - length (value_of (line_of l)))) (value_of (line_of l) ++ until_label ls)
          | false ↦ text_from i (at + length l) ls
        ])
    by true here later = here
    by false here later = later

-- ITS SPAN
span_text : (b pre x post : Bytes) (p : ℕ) → b ≡ pre ++ (x ++ post) → p ≡ length pre → text_at b (span_from p x) ≡ x
unfolding text_at
span_text b pre [] post p e n = refl
span_text b pre (c ∷ x) post p e n = ap (λ (y : Bytes). take (suc (length x)) (drop p y)) e ∙ region_is pre (c ∷ x) post p (suc (length x)) (sym n) refl

span_within : (b pre x post : Bytes) (p : ℕ) → b ≡ pre ++ (x ++ post) → p ≡ length pre → span_ok (span_from p x).place (span_from p x).size b ≡ true
span_within b pre [] post p e n = refl
span_within b pre (c ∷ x) post p e n = le-leb (p + suc (length x)) (length b) (omega (arith, n, ap length e, length-append pre ((c ∷ x) ++ post), length-append (c ∷ x) post))

module _ (b : Bytes) (fine : all allowed b ≡ true) (t : Prose) (s : StandsIn b t) where
  part : Trimmed t.body
  part = trimmed t.body

  abbrev content : Bytes
  content = trim t.body

  abbrev ahead : Bytes
  ahead = s.before ++ part.front

  block_is : b ≡ ahead ++ (content ++ (part.back ++ s.behind))
  block_is =
      s.is ∙ ap (λ (x : Bytes). s.before ++ (x ++ s.behind)) part.is
      ∙ ap (λ (x : Bytes). s.before ++ x) (append_assoc part.front (content ++ part.back) s.behind ∙ ap (λ (x : Bytes). part.front ++ x) (append_assoc content part.back s.behind))
      ∙ sym (append_assoc s.before part.front (content ++ (part.back ++ s.behind)))

  place_is : t.place + lead t.body ≡ length ahead
  place_is = omega (arith, s.place, part.cut_off, length-append s.before part.front)

  content_fine : text_fine content ≡ true
  unfolding text_fine
  content_fine =
      and_both _ _ (bytes_same (trim content) content (trim_twice t.body))
      (and_both _ _ (all_append_parts allowed content _ (all_append_parts allowed ahead _ (sym (ap (all allowed) block_is) ∙ fine)).1).0
      (unlabelled_front content part.back (unlabelled_behind part.front (content ++ part.back) (sym (ap unlabelled part.is) ∙ s.plain))))

  text_is : text_at b (span_of t) ≡ content
  unfolding span_of
  text_is = span_text b ahead content (part.back ++ s.behind) (t.place + lead t.body) block_is place_is

  span_fine : text_fine (text_at b (span_of t)) ≡ true
  span_fine = ap text_fine text_is ∙ content_fine

  span_fits : span_ok (span_of t).place (span_of t).size b ≡ true
  unfolding span_of
  span_fits = span_within b ahead content (part.back ++ s.behind) (t.place + lead t.body) block_is place_is

  span_ok_lem : text_ok b (span_of t) ≡ true
  unfolding text_ok
  span_ok_lem = and_both (span_ok (span_of t).place (span_of t).size b) _ span_fits span_fine

-- THE THREE TEXTS of a block with allowed bytes
module _ (b : Bytes) (fine : all (all allowed) (cut b) ≡ true) where
  bytes_fine : all allowed b ≡ true
  bytes_fine = ap (all allowed) (sym (concat_cut b)) ∙ all_concat allowed (cut b) ∙ fine

  stands_in : (i : ℕ) → StandsIn b (text_from i 0 (cut b))
  stands_in i = stands b i [] 0 (cut b) (sym (concat_cut b)) refl (cut_lined b)

  pub texts_fine : all text_fine (map (text_at b) (spans_in b)) ≡ true
  unfolding all
  texts_fine =
      and_both _ _ (span_fine b bytes_fine _ (stands_in 0)) (and_both _ _ (span_fine b bytes_fine _ (stands_in 1)) (and_both _ _ (span_fine b bytes_fine _ (stands_in 2)) refl))

  pub texts_ok : all (text_ok b) (spans_in b) ≡ true
  unfolding all
  texts_ok =
      and_both _ _ (span_ok_lem b bytes_fine _ (stands_in 0)) (and_both _ _ (span_ok_lem b bytes_fine _ (stands_in 1)) (and_both _ _ (span_ok_lem b bytes_fine _ (stands_in 2)) refl))
