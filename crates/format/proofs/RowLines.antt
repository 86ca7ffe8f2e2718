-- A printed row as a line: with one space between them its words are one full line, no label line, of allowed bytes, without comment, and its fields are the
-- words. Serves document 01, "The one written form" ("One line feed a line, one space between fields"). Assumes nothing.
use Prim.Native.Nat.{◌<◌}
use mathlib.Core.Path.{◌≡◌, refl, sym, ap, ◌∙◌}
use mathlib.Core.Bool.{true, false}
use mathlib.Core.List.{List, [], ◌∷◌, ◌++◌, append_assoc}
use native.Mathlib.Omega.{arith}
use lib.ListN.{length}
use lib.Dec.{eqb}
use borrow.Author.Tests.{not-true}
use Rattle.lists.specs.Lists.{all}
use Rattle.lists.proofs.Bools.{and_left_false}
use Rattle.lists.proofs.ListLaws.{all_nil, all_both, all_append_both, all_parts, all_imply}
use Rattle.format.specs.Bytes.{Bytes, head_is, allowed, fields, strip, hash, is_label}
use Rattle.format.specs.Writing.{behind, line}
use Rattle.format.proofs.CutLaws.{feedless, not_feed, full}
use Rattle.format.proofs.ByteLaws.{feed_gap, allowed_gap}
use Rattle.format.proofs.FieldLaws.{printed, printed_hash, Words, row_back, inline, inline_allowed, inline_feed, printed_inline, strip_line}

-- A PRINTED LINE: what stands before its line feed
unfoldable pub gapped : List Bytes → Bytes
gapped [] = []
gapped (w ∷ ws) = 32 ∷ (w ++ gapped ws)

unfoldable pub body : List Bytes → Bytes
body [] = []
body (w ∷ ws) = w ++ gapped ws

behind_is : (ws : List Bytes) → behind ws ≡ gapped ws ++ (10 ∷ [])
unfolding behind gapped
behind_is [] = refl
behind_is (w ∷ ws) = ap (λ (r : Bytes). 32 ∷ (w ++ r)) (behind_is ws) ∙ ap (λ (r : Bytes). 32 ∷ r) (sym (append_assoc w (gapped ws) (10 ∷ [])))

pub line_is : (ws : List Bytes) → line ws ≡ body ws ++ (10 ∷ [])
unfolding line body
line_is [] = refl
line_is (w ∷ ws) = ap (λ (r : Bytes). w ++ r) (behind_is ws) ∙ sym (append_assoc w (gapped ws) (10 ∷ []))

gapped_inline : (ws : List Bytes) → Words ws → all inline (gapped ws) ≡ true
unfolding gapped
gapped_inline [] h = all_nil inline
gapped_inline (w ∷ ws) h = all_both inline 32 (w ++ gapped ws) refl (all_append_both inline w (gapped ws) (printed_inline w h.1) (gapped_inline ws h.2))

pub body_inline : (ws : List Bytes) → Words ws → all inline (body ws) ≡ true
unfolding body
body_inline [] h = all_nil inline
body_inline (w ∷ ws) h = all_append_both inline w (gapped ws) (printed_inline w h.1) (gapped_inline ws h.2)

pub inline_feedless : (s : Bytes) → all inline s ≡ true → feedless s ≡ true
inline_feedless s h = all_imply inline not_feed inline_feed s h

-- a list without line feed, and one
pub full_snoc : (s : Bytes) → feedless s ≡ true → full (s ++ (10 ∷ [])) ≡ true
unfolding full
full_snoc [] h = refl
full_snoc (b ∷ s) h = let p : (not_feed b ≡ true) × (feedless s ≡ true) = all_parts not_feed b s h in rw (not-true (eqb b 10) p.0, full) (full_snoc s p.1)

pub line_allowed : (s : Bytes) → all inline s ≡ true → all allowed (s ++ (10 ∷ [])) ≡ true
line_allowed s h = all_append_both allowed s (10 ∷ []) (all_imply inline allowed inline_allowed s h) (all_both allowed 10 [] (allowed_gap 10 feed_gap) (all_nil allowed))

plain_first : (w s : Bytes) → 0 < length w → all printed w ≡ true → is_label (w ++ s) ≡ false
plain_first [] s n h = absurd (omega arith)
plain_first (b ∷ w) s n h = and_left_false (hash b) (head_is hash (w ++ s)) (printed_hash b (all_parts printed b w h).0)

pub record RowLine (ws : List Bytes) (l : Bytes) : Type 0 where
  pub one : full l ≡ true
  pub plain : is_label l ≡ false
  pub fine : all allowed l ≡ true
  pub kept : strip l ≡ l
  pub read : fields (strip l) ≡ ws

line_plain : (ws : List Bytes) → Words ws → is_label (line ws) ≡ false
unfolding line
line_plain [] h = refl
line_plain (w ∷ ws) h = plain_first w (behind ws) h.0 h.1

pub row_line_lem : (ws : List Bytes) → Words ws → RowLine ws (line ws)
row_line_lem ws h =
    let i : all inline (body ws) ≡ true = body_inline ws h in
    let k : strip (line ws) ≡ line ws = ap strip (line_is ws) ∙ strip_line (body ws) i ∙ sym (line_is ws) in
    record {
      one = ap full (line_is ws) ∙ full_snoc (body ws) (inline_feedless (body ws) i);
      plain = line_plain ws h;
      fine = ap (all allowed) (line_is ws) ∙ line_allowed (body ws) i;
      kept = k;
      read = ap fields k ∙ row_back ws h;
    }
