-- A line whose label starts with a letter that neither TITLE nor END starts with is neither of the two, nor is a line that does not start with `#`. Serves
-- document 01, "Walking a transfer file". Assumes nothing.
use Prim.Native.Nat.{ℕ, ◌-◌, ◌≤◌}
use mathlib.Core.Path.{◌≡◌, refl}
use mathlib.Core.Bool.{Bool, true, false, ◌&&◌, ◌||◌, not}
use mathlib.Core.List.{List, [], ◌∷◌}
use native.Mathlib.Omega.{arith}
use lib.ListN.{take}
use lib.Dec.{eqb}
use borrow.Author.Tests.{eqb-true, eqb-false, ne_eqb, not-true, not-false}
use Rattle.lists.specs.Lists.{all, any, same_by}
use Rattle.lists.proofs.Bools.{torn, not_of_false, and_parts, and_both, and_left_false, and_right_false}
use Rattle.lists.proofs.ListLaws.{any_parts}
use Rattle.format.specs.Bytes.{Bytes, bytes, within, is_in, head_is, same, hash, is_label, line_len}
use Rattle.format.specs.Labels.{Skipped, Label, label, known, lookup, Parts, NoEquals, Parted, parts, raise, normal, line_of, title_line, end_line}
use Rattle.format.specs.Rows.{upper, lower}
use Rattle.format.proofs.ByteLaws.{within_true, normal_keep, raise_lower, raise_other}
use Rattle.format.proofs.CutLaws.{len_hit, len_miss}
use Rattle.format.proofs.WalkLaws.{plain_no_title, plain_no_end}
use Rattle.transfer.specs.Skipping.{foreign, turning, starts}

hash_no_feed : (b : ℕ) → hash b ≡ true → eqb b 10 ≡ false
hash_no_feed b e = ne_eqb b 10 (λ x. omega (arith, x, eqb-true b 35 e))

feed_no_hash : (b : ℕ) → eqb b 10 ≡ true → hash b ≡ false
feed_no_hash b e = ne_eqb b 35 (λ x. omega (arith, x, eqb-true b 10 e))

-- WHAT IS LOOKED UP passes a test that each label passes which has another name
module _ (p : Label → Bool) (n : Bytes) (None : p (label "" Skipped 0 0 10) ≡ true) where
  lookup_other : (xs : List Label) → all (λ x. p x || not (same n x.name)) xs ≡ true → p (lookup n xs) ≡ true
  unfolding lookup all
  lookup_other [] h = None
  lookup_other (x ∷ xs) h = by (p x) (same n x.name) refl refl h (lookup_other xs)
    where
      by : (a b : Bool) → p x ≡ a → same n x.name ≡ b → ((a || not b) && all (λ y. p y || not (same n y.name)) xs) ≡ true
          → (all (λ y. p y || not (same n y.name)) xs ≡ true → p (lookup n xs) ≡ true) → p (lookup n (x ∷ xs)) ≡ true
      by true true e f h ih = rw (f, lookup) e
      by a false e f h ih = rw (f, lookup) (ih (and_parts (a || true) _ h).1)
      by false true e f h ih = torn false h refl

-- A FOREIGN LETTER: neither a line feed nor `=` nor one that is dropped, and raised it is neither T nor E
pub record Foreign (c : ℕ) : Type 0 where
  pub feed : eqb c 10 ≡ false
  pub equals : eqb c 61 ≡ false
  pub kept : is_in c (32 ∷ 45 ∷ 47 ∷ 95 ∷ []) ≡ false
  pub title : eqb (raise c) 84 ≡ false
  pub end : eqb (raise c) 69 ≡ false

turning_zero : turning 0 ≡ true
unfolding turning foreign within
turning_zero = refl

turning_not : (c : ℕ) → turning c ≡ false → foreign c ≡ true
unfolding turning
turning_not c e = not-false (foreign c) e

-- a letter, and none of the four
no_four : (c : ℕ) → not (is_in c (84 ∷ 116 ∷ 69 ∷ 101 ∷ [])) ≡ true → (c ≡ 84 → ⊥) × (c ≡ 116 → ⊥) × (c ≡ 69 → ⊥) × (c ≡ 101 → ⊥)
no_four c e =
    let f : is_in c (84 ∷ 116 ∷ 69 ∷ 101 ∷ []) ≡ false = not-true _ e in
    let p : (eqb c 84 ≡ false) × (is_in c (116 ∷ 69 ∷ 101 ∷ []) ≡ false) = any_parts (eqb c) 84 (116 ∷ 69 ∷ 101 ∷ []) f in
    let q : (eqb c 116 ≡ false) × (is_in c (69 ∷ 101 ∷ []) ≡ false) = any_parts (eqb c) 116 (69 ∷ 101 ∷ []) p.1 in
    let r : (eqb c 69 ≡ false) × (is_in c (101 ∷ []) ≡ false) = any_parts (eqb c) 69 (101 ∷ []) q.1 in
    (eqb-false c 84 p.0, eqb-false c 116 q.0, eqb-false c 69 r.0, eqb-false c 101 (any_parts (eqb c) 101 [] r.1).0)

none_dropped : (c : ℕ) → (c ≡ 32 → ⊥) → (c ≡ 45 → ⊥) → (c ≡ 47 → ⊥) → (c ≡ 95 → ⊥) → is_in c (32 ∷ 45 ∷ 47 ∷ 95 ∷ []) ≡ false
unfolding any
none_dropped c h i j k = rw (ne_eqb c 32 h, ne_eqb c 45 i, ne_eqb c 47 j, ne_eqb c 95 k)

foreign_is : (c : ℕ) → foreign c ≡ true → Foreign c
unfolding foreign
foreign_is c e = by (lower c) refl (and_parts (upper c || lower c) (not (is_in c (84 ∷ 116 ∷ 69 ∷ 101 ∷ []))) e).0 (no_four c (and_parts (upper c || lower c) (not (is_in c (84 ∷ 116 ∷ 69 ∷ 101 ∷ []))) e).1)
  where
    by : (l : Bool) → lower c ≡ l → (upper c || l) ≡ true → (c ≡ 84 → ⊥) × (c ≡ 116 → ⊥) × (c ≡ 69 → ⊥) × (c ≡ 101 → ⊥) → Foreign c
    by true p h d =
        let b : (97 ≤ c) × (c ≤ 122) = within_true 97 122 c p in
        record {
          feed = ne_eqb c 10 (λ x. omega (arith, x, b.0));
          equals = ne_eqb c 61 (λ x. omega (arith, x, b.0));
          kept = none_dropped c (λ x. omega (arith, x, b.0)) (λ x. omega (arith, x, b.0)) (λ x. omega (arith, x, b.0)) (λ x. omega (arith, x, b.0));
          title = rw (raise_lower c p) (ne_eqb (c - 32) 84 (λ x. d.1 (omega (arith, x, b.0))));
          end = rw (raise_lower c p) (ne_eqb (c - 32) 69 (λ x. d.3 (omega (arith, x, b.0))));
        }
    by false p h d =
        let b : (65 ≤ c) × (c ≤ 90) = within_true 65 90 c (or_left (upper c) h) in
        record {
          feed = ne_eqb c 10 (λ x. omega (arith, x, b.0));
          equals = ne_eqb c 61 (λ x. omega (arith, x, b.0));
          kept = none_dropped c (λ x. omega (arith, x, b.0)) (λ x. omega (arith, x, b.0)) (λ x. omega (arith, x, b.0)) (λ x. omega (arith, x, b.1));
          title = rw (raise_other c p) (ne_eqb c 84 d.0);
          end = rw (raise_other c p) (ne_eqb c 69 d.2);
        }
      where
        or_left : (u : Bool) → (u || false) ≡ true → u ≡ true
        or_left true f = refl
        or_left false f = f

-- NEITHER, from what the label is looked up by
-- a word that starts with another letter is not such a name
head_apart : (x y : ℕ) (n m : Bytes) → eqb x y ≡ false → same (x ∷ n) (y ∷ m) ≡ false
unfolding same_by
head_apart x y n m e = and_left_false (eqb x y) (same n m) e

neither_looked : (x : ℕ) (n : Bytes) → eqb x 84 ≡ false → eqb x 69 ≡ false → (eqb 1 (lookup (x ∷ n) known).code ≡ false) × (eqb 13 (lookup (x ∷ n) known).code ≡ false)
unfolding known all label bytes
neither_looked x n t e =
    let p = not_of_false _ (head_apart x 84 n (73 ∷ 84 ∷ 76 ∷ 69 ∷ []) t) in
    let q = not_of_false _ (head_apart x 69 n (78 ∷ 68 ∷ []) e) in (
      not-true _ (lookup_other (λ l. not (eqb 1 l.code)) (x ∷ n) refl known (and_both _ true p refl)),
      not-true _ (lookup_other (λ l. not (eqb 13 l.code)) (x ∷ n) refl known (and_both _ true q refl)),
    )

-- THE LINE: one that starts with no `#` is no label line
pub no_label : (s : Bytes) → head_is hash s ≡ false → is_label (take (line_len s) s) ≡ false
unfolding line_len
no_label [] e = refl
no_label (b ∷ s) e = by (eqb b 10) refl
  where
    by : (t : Bool) → eqb b 10 ≡ t → is_label (take (line_len (b ∷ s)) (b ∷ s)) ≡ false
    by true f = rw (len_hit b s f) (and_left_false (hash b) _ e)
    by false f = rw (len_miss b s f) (and_left_false (hash b) _ e)

abbrev Neither : Bytes → Type 0
Neither l = (title_line l ≡ false) × (end_line l ≡ false)

plain_neither : (l : Bytes) → is_label l ≡ false → Neither l
plain_neither l e = (plain_no_title l e, plain_no_end l e)

-- a label whose first letter is foreign
label_neither : (b x c : ℕ) (w : Bytes) → Foreign c → Neither (b ∷ x ∷ c ∷ w)
unfolding title_line end_line line_of parts
label_neither b x c w f = by (is_label (b ∷ x ∷ c ∷ w)) refl
  where
    parted : (p : Parts) → parts w ≡ p → is_label (b ∷ x ∷ c ∷ w) ≡ true → Neither (b ∷ x ∷ c ∷ w)
    parted NoEquals q e = (rw (e, f.equals, q, line_of, parts), rw (e, f.equals, q, line_of, parts))
    parted (Parted n v) q e =
        let k : normal (c ∷ n) ≡ raise c ∷ normal n = normal_keep c n f.kept in
        let m = neither_looked (raise c) (normal n) f.title f.end in
        (rw (e, f.equals, q, k, line_of, parts) m.0, rw (e, f.equals, q, k, line_of, parts) m.1)

    by : (t : Bool) → is_label (b ∷ x ∷ c ∷ w) ≡ t → Neither (b ∷ x ∷ c ∷ w)
    by true e = parted (parts w) refl e
    by false e = plain_neither (b ∷ x ∷ c ∷ w) e

-- and the first line of bytes that are not looked at
pub no_turn : (s : Bytes) → starts turning s ≡ false → Neither (take (line_len s) s)
unfolding starts
no_turn [] e = plain_neither _ (no_label [] refl)
no_turn (b ∷ s) e = by (hash b) refl s e
  where
    by : (h : Bool) → hash b ≡ h → (s : Bytes) → starts turning (b ∷ s) ≡ false → Neither (take (line_len (b ∷ s)) (b ∷ s))
    by false f s e = plain_neither _ (no_label (b ∷ s) f)
    by true f [] e = torn true refl (rw (f, turning_zero) at e)
    by true f (x ∷ []) e = torn true refl (rw (f, turning_zero) at e)
    by true f (x ∷ c ∷ r) e = third (eqb x 10) refl (foreign_is c (turning_not c (rw f at e)))
      where
        third : (t : Bool) → eqb x 10 ≡ t → Foreign c → Neither (take (line_len (b ∷ x ∷ c ∷ r)) (b ∷ x ∷ c ∷ r))
        third true g k = rw (len_miss b (x ∷ c ∷ r) (hash_no_feed b f), len_hit x (c ∷ r) g) (plain_neither (b ∷ x ∷ []) (and_right_false (hash b) (hash x) (feed_no_hash x g)))
        third false g k = rw (len_miss b (x ∷ c ∷ r) (hash_no_feed b f), len_miss x (c ∷ r) g, len_miss c r k.feed) (label_neither b x c (take (line_len r) r) k)
