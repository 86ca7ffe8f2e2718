-- The name to show, as the code comes to it: document 01, "The name to show is a part of the block, its title, or the caller's stand-in bytes where the title is
-- empty or the first line is no TITLE line." Assumes nothing.
use Prim.Native.Nat.{ℕ, ◌+◌, ◌-◌, ◌≤◌, ◌<◌}
use mathlib.Core.Path.{◌≡◌, refl, sym, ap, ap₂, ◌∙◌}
use mathlib.Core.Bool.{Bool, true, false}
use mathlib.Core.List.{List, [], ◌∷◌, ◌++◌}
use native.Mathlib.Omega.{arith}
use lib.ListN.{length, take, drop, length-append, length-drop, take-append-drop, drop_of_length-le}
use lib.Dec.{ltb}
use lib.Seq.{take-nil, length-take-le, drop-append-le, drop-drop}
use borrow.Author.Tests.{ltb-true, ltb-false}
use Rattle.lists.specs.Lists.{concat}
use Rattle.lists.proofs.Bools.{torn}
use Rattle.lists.proofs.PartLaws.{concat_cons, concat_length, take_past, slice_before}
use Rattle.format.specs.Bytes.{Bytes, trim, lead, is_label, cut, line_len}
use Rattle.format.specs.Labels.{line_of, title_line}
use Rattle.format.specs.Walking.{until_label, value_of, title_of, or_else, name_of}
use Rattle.format.proofs.CutLaws.{cut_nil, cut_at, concat_cut, line_len_le}
use Rattle.format.proofs.WalkLaws.{plain_no_title}
use Rattle.fields.specs.declared.Field.{Field}
use Rattle.fields.specs.NextFields.{field_in}
use Rattle.fields.specs.Trims.{Trimmed}
use Rattle.transfer.specs.Texts.{text_to, TextEnd, ValueAt, title_start, Titled, Named}

-- WHERE A TEXT ENDS: at the first label line
module _ (l : Bytes) (ls : List Bytes) where
  until_label_lem : is_label l ≡ true → until_label (l ∷ ls) ≡ []
  unfolding until_label
  until_label_lem e = rw (e, until_label)

  until_plain : is_label l ≡ false → until_label (l ∷ ls) ≡ l ++ until_label ls
  unfolding until_label
  until_plain e = rw (e, until_label)

until_nil : until_label [] ≡ []
unfolding until_label
until_nil = refl

module _ (s : Bytes) (at : ℕ) where
  module _ (e : ℕ) (h : at < length s) (q : e ≡ at + line_len (drop at s)) where
    lines_are : cut (drop at s) ≡ take (e - at) (drop at s) ∷ cut (drop e s)
    lines_are =
        let n : line_len (drop at s) ≡ e - at = omega arith in
        cut_at s at h ∙ ap (λ (k : ℕ). take k (drop at s) ∷ cut (drop (at + line_len (drop at s)) s)) n ∙ ap (λ (k : ℕ). take (e - at) (drop at s) ∷ cut (drop k s)) (sym q)

-- a text is the bytes up to where it ends
until_take : (ls : List Bytes) → until_label ls ≡ take (length (until_label ls)) (concat ls)
until_take [] = until_nil ∙ sym (ap (λ (n : ℕ). take n (concat [])) (ap length until_nil))
until_take (l ∷ ls) = by (is_label l) refl (until_take ls)
  where
    by : (t : Bool) → is_label l ≡ t → until_label ls ≡ take (length (until_label ls)) (concat ls) → until_label (l ∷ ls) ≡ take (length (until_label (l ∷ ls))) (concat (l ∷ ls))
    by true e ih = rw (until_label_lem l ls e)
    by false e ih =
        let n : ℕ = length (until_label ls) in
        let k : length l + n - length l ≡ n = omega arith in
        let q : take (length l + n) (l ++ concat ls) ≡ l ++ take n (concat ls) = take_past (length l + n) l (concat ls) (omega arith) ∙ ap (λ (i : ℕ). l ++ take i (concat ls)) k in
        rw (until_plain l ls e, length-append l (until_label ls), concat_cons l ls, q) (ap (λ (r : Bytes). l ++ r) ih)

pub text_take : (s : Bytes) → take (length (until_label (cut s))) s ≡ until_label (cut s)
text_take s = sym (until_take (cut s) ∙ ap (take (length (until_label (cut s)))) (concat_cut s))

text_le : (ls : List Bytes) → length (until_label ls) ≤ length (concat ls)
text_le [] = omega (arith, ap length until_nil)
text_le (l ∷ ls) = by (is_label l) refl (text_le ls)
  where
    by : (t : Bool) → is_label l ≡ t → length (until_label ls) ≤ length (concat ls) → length (until_label (l ∷ ls)) ≤ length (concat (l ∷ ls))
    by true e ih = omega (arith, ap length (until_label_lem l ls e))
    by false e ih = omega (arith, ap length (until_plain l ls e), length-append l (until_label ls), concat_length l ls)

pub text_ends : (s : Bytes) (at r : ℕ) → r ≡ text_to at (cut (drop at s)) → TextEnd s at r
unfolding text_to
text_ends s at r e = record {
  is = e;
  low = omega arith;
  high = λ h. omega (arith, text_le (cut (drop at s)), ap length (concat_cut (drop at s)), length-drop at s);
}

-- a part of a line and what stands behind the line
pub slice_join : (b : Bytes) (from e to : ℕ) → from ≤ e → e ≤ to → e ≤ length b → take (to - from) (drop from b) ≡ drop from (take e b) ++ take (to - e) (drop e b)
slice_join b from e to h k l =
    let n : length (take e b) ≡ e = length-take-le e b l in
    let m : length (drop from (take e b)) ≡ e - from = length-drop from (take e b) ∙ ap (λ (i : ℕ). i - from) n in
    let r : to - from - length (drop from (take e b)) ≡ to - e = omega arith in
    ap (λ (x : Bytes). take (to - from) (drop from x)) (sym (take-append-drop e b))
    ∙ ap (take (to - from)) (drop-append-le from (take e b) (drop e b) (omega arith))
    ∙ take_past (to - from) (drop from (take e b)) (drop e b) (omega arith)
    ∙ ap (λ (i : ℕ). drop from (take e b) ++ take i (drop e b)) r

-- THE TITLE
abbrev pub part : (from to : ℕ) → Field
part a b = record { from = a; to = b }

module _ (b : Bytes) (e : ℕ) (q : e ≡ 0 + line_len (drop 0 b)) where
  lines_first : 0 < length b → cut b ≡ take e b ∷ cut (drop e b)
  lines_first h = let z : e - 0 ≡ e = omega arith in lines_are b 0 e h q ∙ ap (λ (n : ℕ). take n b ∷ cut (drop e b)) z

  -- "the first line is no TITLE line"
  pub title_other : title_line (take e b) ≡ false → Titled b (part 0 0)
  title_other t = by (ltb 0 (length b)) refl
    where
      by : (more : Bool) → ltb 0 (length b) ≡ more → Titled b (part 0 0)
      by true m =
          let f : cut b ≡ take e b ∷ cut (drop e b) = lines_first (ltb-true 0 (length b) m) in
          record { is = rw (f, t); start = rw (f, t); order = omega arith; high = omega arith }
      by false m =
          let f : cut b ≡ [] = ap cut (drop_of_length-le b {i = 0} (ltb-false 0 (length b) m)) ∙ cut_nil in
          record { is = rw f; start = rw f; order = omega arith; high = omega arith }

  module _ (t : title_line (take e b) ≡ true) where
    some_line : 0 < length b
    some_line = by b t
      where
        by : (s : Bytes) → title_line (take e s) ≡ true → 0 < length s
        by [] f = torn (title_line (take e [])) f (plain_no_title (take e []) (ap is_label (take-nil e)))
        by (x ∷ s) f = omega arith

    module _ (from to : ℕ) (v : ValueAt (take e b) from) (x : TextEnd b e to) where
      end_high : e ≤ length b
      end_high = omega (arith, line_len_le b)

      line_size : length (take e b) ≡ e
      line_size = length-take-le e b end_high

      from_high : from ≤ e
      from_high = omega (arith, v.high, line_size)

      text_is : take (to - from) (drop from b) ≡ value_of (line_of (take e b)) ++ until_label (cut (drop e b))
      unfolding text_to
      text_is =
          let m : to - e ≡ length (until_label (cut (drop e b))) = omega (arith, x.is) in
          let u : take (to - e) (drop e b) ≡ until_label (cut (drop e b)) = ap (λ (i : ℕ). take i (drop e b)) m ∙ text_take (drop e b) in
          slice_join b from e to from_high x.low end_high ∙ ap (λ (r : Bytes). r ++ take (to - e) (drop e b)) v.is ∙ ap (λ (r : Bytes). value_of (line_of (take e b)) ++ r) u

      from_is : from ≡ length (take e b) - length (value_of (line_of (take e b)))
      from_is = omega (arith, v.high, ap length (sym v.is), length-drop from (take e b))

      module _ (kept : Field) (k : Trimmed (take (to - from) (drop from b)) kept) where
        text_high : length (take (to - from) (drop from b)) ≤ length b - from
        text_high = omega (arith, ap length (take-append-drop (to - from) (drop from b)), length-append (take (to - from) (drop from b)) (drop (to - from) (drop from b)), length-drop from b)

        kept_is : field_in b (part (from + kept.from) (from + kept.to)) ≡ trim (take (to - from) (drop from b))
        kept_is =
            let n : from + kept.to - (from + kept.from) ≡ kept.to - kept.from = omega arith in
            ap (λ (i : ℕ). take i (drop (from + kept.from) b)) n
            ∙ ap (take (kept.to - kept.from)) (sym (drop-drop kept.from from b))
            ∙ ap (λ (r : Bytes). take (kept.to - kept.from) (drop kept.from r)) (sym (take-append-drop (to - from) (drop from b)))
            ∙ slice_before (kept.to - kept.from) kept.from (take (to - from) (drop from b)) _ (omega (arith, k.order, k.high))
            ∙ k.is

        pub title_kept : Titled b (part (from + kept.from) (from + kept.to))
        title_kept =
            let f : cut b ≡ take e b ∷ cut (drop e b) = lines_first some_line in
            record {
              is = rw (f, t) (kept_is ∙ ap trim text_is);
              start = rw (f, t) (ap₂ (λ (i j : ℕ). i + j) from_is (k.low ∙ ap lead text_is));
              order = omega (arith, k.order);
              high = omega (arith, k.high, text_high, from_high, end_high);
            }

-- THE NAME, from the title's part
pub or_some : (t w : Bytes) → 0 < length t → or_else t w ≡ t
or_some [] w h = absurd (omega arith)
or_some (x ∷ t) w h = refl

module _ (b w : Bytes) (r : Field) (k : Titled b r) where
  pub title_size : length (title_of (cut b)) ≡ r.to - r.from
  title_size = ap length (sym k.is) ∙ length-take-le (r.to - r.from) (drop r.from b) (omega (arith, k.order, k.high, length-drop r.from b))

  -- the part that the definitions name is the title
  part_is : take (length (title_of (cut b))) (drop (title_start (cut b)) b) ≡ title_of (cut b)
  part_is = ap₂ (λ (i j : ℕ). take i (drop j b)) title_size (sym k.start) ∙ k.is

  named : (n : Bytes) → n ≡ or_else (title_of (cut b)) w → Named b w n
  unfolding name_of
  named n e = record { is = e; part = e ∙ ap (λ (t : Bytes). or_else t w) (sym part_is) }

  -- "where the title is empty"
  pub name_empty : r.from ≡ r.to → Named b w w
  name_empty f =
      let n : r.to - r.from ≡ 0 = omega arith in
      let p : [] ≡ title_of (cut b) = ap (λ (i : ℕ). take i (drop r.from b)) (sym n) ∙ k.is in
      named w (ap (λ (t : Bytes). or_else t w) p)

  pub name_shown : (r.from ≡ r.to → ⊥) → Named b w (field_in b r)
  name_shown f = named (field_in b r) (k.is ∙ sym (or_some (title_of (cut b)) w (omega (arith, title_size, k.order))))
