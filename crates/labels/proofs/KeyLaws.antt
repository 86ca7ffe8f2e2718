-- A known label is told by its key: the key of a label as it stands is the key of its normalised name, two names with one key that is not the strange one are the
-- same, and so `lookup` goes by the key. Serves document 01, "Lines and labels", and document 02, L4 (STEREOMOLECULE). Assumes nothing.
use Prim.Native.Nat.{ℕ, zero, suc, ◌+◌, ◌-◌, ◌*◌, ◌/◌, ◌%◌, ◌≤◌, ◌<◌}
use mathlib.Core.Path.{◌≡◌, refl, sym, ap, ◌∙◌}
use mathlib.Core.Bool.{Bool, true, false}
use mathlib.Core.Logic.{◌⊎◌, inl, inr}
use mathlib.Core.List.{List, [], ◌∷◌, ◌++◌, append-nil}
use native.Mathlib.Nat.{add_comm}
use native.Mathlib.Omega.{arith}
use lib.ListN.{length}
use lib.Seq.{append_snoc}
use lib.Dec.{eqb, ltb}
use borrow.Author.Tests.{eq-eqb, ne_eqb, eqb-true, eqb-false, lt-ltb, le-ltb, ltb-true, ltb-false}
use Rattle.lists.specs.Lists.{any}
use Rattle.lists.proofs.Bools.{both_ways}
use Rattle.lists.proofs.PairLaws.{bytes_equal, bytes_same}
use Rattle.format.specs.Bytes.{Bytes, bytes, within, same}
use Rattle.format.specs.Rows.{upper, lower}
use Rattle.format.specs.Labels.{Label, label, normal, known, lookup}
use Rattle.format.proofs.ByteLaws.{upper_bounds, lower_bounds, within_is, upper_lower, passed, normal_drop, normal_keep, raise_lower, raise_other}
use Rattle.labels.specs.Keys.{strange, twelve_letters, thirteen_letters, fourteen_letters, longer, grown, next_key, key_of, keys, place_of_key}
use Rattle.labels.specs.ShownLines.{by_code}

-- CLAUSES
module _ (key letter : ℕ) where
  pub longer_thirteen : key ≡ twelve_letters → letter ≡ 12 → longer key letter ≡ thirteen_letters
  unfolding longer
  longer_thirteen h k = rw (eq-eqb _ _ h, eq-eqb _ _ k, longer)

  pub longer_not_thirteen : key ≡ twelve_letters → (letter ≡ 12 → ⊥) → longer key letter ≡ strange
  unfolding longer
  longer_not_thirteen h k = rw (eq-eqb _ _ h, ne_eqb _ _ k, longer)

  pub longer_fourteen : (key ≡ twelve_letters → ⊥) → key ≡ thirteen_letters → letter ≡ 5 → longer key letter ≡ fourteen_letters
  unfolding longer
  longer_fourteen g h k = rw (ne_eqb _ _ g, eq-eqb _ _ h, eq-eqb _ _ k, longer)

  pub longer_not_fourteen : (key ≡ twelve_letters → ⊥) → key ≡ thirteen_letters → (letter ≡ 5 → ⊥) → longer key letter ≡ strange
  unfolding longer
  longer_not_fourteen g h k = rw (ne_eqb _ _ g, eq-eqb _ _ h, ne_eqb _ _ k, longer)

  pub longer_none : (key ≡ twelve_letters → ⊥) → (key ≡ thirteen_letters → ⊥) → longer key letter ≡ strange
  unfolding longer
  longer_none g h = rw (ne_eqb _ _ g, ne_eqb _ _ h, longer)

  pub grown_more : key < 36028797018963968 → grown key letter ≡ key * 32 + letter
  unfolding grown
  grown_more h = rw (lt-ltb _ _ h, grown)

  pub grown_longer : 36028797018963968 ≤ key → grown key letter ≡ longer key letter
  unfolding grown
  grown_longer h = rw (le-ltb _ _ h, grown)

module _ (key b : ℕ) where
  pub next_upper : upper b ≡ true → next_key key b ≡ grown key (b - 64)
  unfolding next_key
  next_upper e = rw (e, next_key)

  pub next_lower : upper b ≡ false → lower b ≡ true → next_key key b ≡ grown key (b - 96)
  unfolding next_key
  next_lower e f = rw (e, f, next_key)

  pub next_dropped : upper b ≡ false → lower b ≡ false → passed b ≡ true → next_key key b ≡ key
  unfolding next_key
  next_dropped e f g = rw (e, f, g, next_key)

  pub next_strange : upper b ≡ false → lower b ≡ false → passed b ≡ false → next_key key b ≡ strange
  unfolding next_key
  next_strange e f g = rw (e, f, g, next_key)

module _ (n key k : ℕ) (ks : List ℕ) where
  place_hit : eqb key k ≡ true → place_of_key n key (k ∷ ks) ≡ n
  unfolding place_of_key
  place_hit e = rw (e, place_of_key)

  place_miss : eqb key k ≡ false → place_of_key n key (k ∷ ks) ≡ place_of_key (suc n) key ks
  unfolding place_of_key
  place_miss e = rw (e, place_of_key)

-- THE KEY OF A NORMALISED NAME
unfoldable name_step : (key b : ℕ) → ℕ
name_step key b = elim (upper b) [ true ↦ grown key (b - 64) | false ↦ strange ]

unfoldable name_key : (key : ℕ) → Bytes → ℕ
name_key key [] = key
name_key key (b ∷ n) = name_key (name_step key b) n

step_upper : (key b : ℕ) → upper b ≡ true → name_step key b ≡ grown key (b - 64)
unfolding name_step
step_upper key b e = rw (e, name_step)

step_strange : (key b : ℕ) → upper b ≡ false → name_step key b ≡ strange
unfolding name_step
step_strange key b e = rw (e, name_step)

name_cons : (key b : ℕ) (n : Bytes) → name_key key (b ∷ n) ≡ name_key (name_step key b) n
unfolding name_key
name_cons key b n = refl

-- a letter is not dropped
kept : (b : ℕ) → (b ≡ 32 → ⊥) → (b ≡ 45 → ⊥) → (b ≡ 47 → ⊥) → (b ≡ 95 → ⊥) → passed b ≡ false
unfolding any
kept b h i j k = rw (ne_eqb b 32 h, ne_eqb b 45 i, ne_eqb b 47 j, ne_eqb b 95 k)

step_normal : (key b : ℕ) (s : Bytes) → name_key key (normal (b ∷ s)) ≡ name_key (next_key key b) (normal s)
step_normal key b s = go (upper b) (lower b) (passed b) refl refl refl
  where
    go : (u l d : Bool) → upper b ≡ u → lower b ≡ l → passed b ≡ d → name_key key (normal (b ∷ s)) ≡ name_key (next_key key b) (normal s)
    go true l d e f g =
        let h : (65 ≤ b) × (b ≤ 90) = upper_bounds b e in
        let k : passed b ≡ false = kept b (λ q. omega arith) (λ q. omega arith) (λ q. omega arith) (λ q. omega arith) in
        rw (normal_keep b s k, raise_other b (upper_lower b e), name_cons, step_upper key b e, next_upper key b e)
    go false true d e f g =
        let h : (97 ≤ b) × (b ≤ 122) = lower_bounds b f in
        let k : passed b ≡ false = kept b (λ q. omega arith) (λ q. omega arith) (λ q. omega arith) (λ q. omega arith) in
        let u : upper (b - 32) ≡ true = within_is 65 90 (b - 32) (omega arith) (omega arith) in
        let z : b - 32 - 64 ≡ b - 96 = omega arith in
        rw (normal_keep b s k, raise_lower b f, name_cons, step_upper key (b - 32) u, next_lower key b e f, z)
    go false false true e f g = rw (normal_drop b s g, next_dropped key b e f g)
    go false false false e f g = rw (normal_keep b s g, raise_other b f, name_cons, step_strange key b e, next_strange key b e f g)

-- the key of a label as it stands is that of its name
key_name : (key : ℕ) (s : Bytes) → key_of key s ≡ name_key key (normal s)
unfolding key_of name_key normal
key_name key [] = refl
key_name key (b ∷ s) = key_name (next_key key b) s ∙ sym (step_normal key b s)

-- NAMES WITH ONE KEY ARE THE SAME
step_stays : (b : ℕ) → name_step strange b ≡ strange
step_stays b = go (upper b) refl
  where
    go : (u : Bool) → upper b ≡ u → name_step strange b ≡ strange
    go true e = step_upper strange b e ∙ grown_longer strange (b - 64) (omega arith) ∙ longer_none strange (b - 64) (λ q. omega arith) (λ q. omega arith)
    go false e = step_strange strange b e

strange_stays : (n : Bytes) → name_key strange n ≡ strange
unfolding name_key
strange_stays [] = refl
strange_stays (b ∷ n) = ap (λ (k : ℕ). name_key k n) (step_stays b) ∙ strange_stays n

-- the key without its last letter, and that letter
unfoldable before : (key : ℕ) → ℕ
before key = elim (eqb key fourteen_letters) [ true ↦ thirteen_letters | false ↦ elim (eqb key thirteen_letters) [ true ↦ twelve_letters | false ↦ key / 32 ] ]

unfoldable latest : (key : ℕ) → ℕ
latest key = elim (eqb key fourteen_letters) [ true ↦ 5 | false ↦ elim (eqb key thirteen_letters) [ true ↦ 12 | false ↦ key % 32 ] ]

before_short : (key : ℕ) → key < strange → before key ≡ key / 32
unfolding before
before_short key h = rw (ne_eqb key fourteen_letters (λ q. omega arith), ne_eqb key thirteen_letters (λ q. omega arith), before)

latest_short : (key : ℕ) → key < strange → latest key ≡ key % 32
unfolding latest
latest_short key h = rw (ne_eqb key fourteen_letters (λ q. omega arith), ne_eqb key thirteen_letters (λ q. omega arith), latest)

-- the name that a key spells, of at most as many letters
unfoldable spell : ℕ → (key : ℕ) → Bytes
spell zero key = []
spell (suc f) key = elim (eqb key 0) [ true ↦ [] | false ↦ spell f (before key) ++ ((64 + latest key) ∷ []) ]

spell_nothing : (f : ℕ) → spell f 0 ≡ []
unfolding spell
spell_nothing zero = refl
spell_nothing (suc f) = refl

spell_more : (f key : ℕ) → 0 < key → spell (suc f) key ≡ spell f (before key) ++ ((64 + latest key) ∷ [])
unfolding spell
spell_more f key h = rw (ne_eqb key 0 (λ q. omega arith), spell)

-- a key that is another and the letter b behind it
abbrev Ends : (key b next : ℕ) → Type 0
Ends key b next = (0 < next) × (before next ≡ key) × (64 + latest next ≡ b)

spell_ends : (f key b next : ℕ) → Ends key b next → spell (suc f) next ≡ spell f key ++ (b ∷ [])
spell_ends f key b next e = rw (spell_more f next e.0, e.1, e.2)

-- a step that does not make the key strange is a letter more: of at most twelve, or one of the last two of the longer label
module _ (key b : ℕ) (u : upper b ≡ true) where
  more_ends : key < 36028797018963968 → Ends key b (key * 32 + (b - 64))
  more_ends h =
      let i : (65 ≤ b) × (b ≤ 90) = upper_bounds b u in
      let s : key * 32 + (b - 64) < strange = omega arith in
      let p : (key * 32 + (b - 64)) / 32 ≡ key = omega arith in
      let q : 64 + (key * 32 + (b - 64)) % 32 ≡ b = omega arith in
      (omega arith, before_short _ s ∙ p, ap (λ (n : ℕ). 64 + n) (latest_short _ s) ∙ q)

  thirteen_ends : key ≡ twelve_letters → b - 64 ≡ 12 → Ends key b thirteen_letters
  unfolding before latest
  thirteen_ends h k = (omega arith, sym h, omega arith)

  fourteen_ends : key ≡ thirteen_letters → b - 64 ≡ 5 → Ends key b fourteen_letters
  unfolding before latest
  fourteen_ends h k = (omega arith, sym h, omega arith)

  longer_ends : (longer key (b - 64) ≡ strange → ⊥) → Ends key b (longer key (b - 64))
  longer_ends h = go (eqb key twelve_letters) (eqb key thirteen_letters) (eqb (b - 64) 12) (eqb (b - 64) 5) refl refl refl refl
    where
      go : (t f l e : Bool) → eqb key twelve_letters ≡ t → eqb key thirteen_letters ≡ f → eqb (b - 64) 12 ≡ l → eqb (b - 64) 5 ≡ e → Ends key b (longer key (b - 64))
      go true f true e p q r s = rw (longer_thirteen key (b - 64) (eqb-true _ _ p) (eqb-true _ _ r)) (thirteen_ends (eqb-true _ _ p) (eqb-true _ _ r))
      go true f false e p q r s = absurd (h (longer_not_thirteen key (b - 64) (eqb-true _ _ p) (eqb-false _ _ r)))
      go false true l true p q r s = rw (longer_fourteen key (b - 64) (eqb-false _ _ p) (eqb-true _ _ q) (eqb-true _ _ s)) (fourteen_ends (eqb-true _ _ q) (eqb-true _ _ s))
      go false true l false p q r s = absurd (h (longer_not_fourteen key (b - 64) (eqb-false _ _ p) (eqb-true _ _ q) (eqb-false _ _ s)))
      go false false l e p q r s = absurd (h (longer_none key (b - 64) (eqb-false _ _ p) (eqb-false _ _ q)))

step_ends : (key b : ℕ) → (name_step key b ≡ strange → ⊥) → Ends key b (name_step key b)
step_ends key b h = go (upper b) (ltb key 36028797018963968) refl refl
  where
    go : (u l : Bool) → upper b ≡ u → ltb key 36028797018963968 ≡ l → Ends key b (name_step key b)
    go true true e f = rw (step_upper key b e ∙ grown_more key (b - 64) (ltb-true _ _ f)) (more_ends key b e (ltb-true _ _ f))
    go true false e f =
        let p : name_step key b ≡ longer key (b - 64) = step_upper key b e ∙ grown_longer key (b - 64) (ltb-false _ _ f) in
        rw p (longer_ends key b e (λ q. h (p ∙ q)))
    go false l e f = absurd (h (step_strange key b e))

spell_name : (n : Bytes) (f key : ℕ) → (name_key key n ≡ strange → ⊥) → spell (f + length n) (name_key key n) ≡ spell f key ++ n
unfolding name_key
spell_name [] f key h = let z : f + 0 ≡ f = omega arith in rw z (sym (append-nil (spell f key)))
spell_name (b ∷ n) f key h =
    let l : Ends key b (name_step key b) = step_ends key b (λ q. h (ap (λ (k : ℕ). name_key k n) q ∙ strange_stays n)) in
    let z : f + suc (length n) ≡ suc f + length n = omega arith in
    rw z (spell_name n (suc f) (name_step key b) h) ∙ ap (λ (w : Bytes). w ++ n) (spell_ends f key b (name_step key b) l) ∙ append_snoc (spell f key) b n

one_name : (n m : Bytes) → (name_key 0 m ≡ strange → ⊥) → name_key 0 n ≡ name_key 0 m → n ≡ m
one_name n m h e =
    let p : spell (length m + length n) (name_key 0 n) ≡ n = spell_name n (length m) 0 (λ q. h (sym e ∙ q)) ∙ ap (λ (w : Bytes). w ++ n) (spell_nothing (length m)) in
    let q : spell (length n + length m) (name_key 0 m) ≡ m = spell_name m (length n) 0 h ∙ ap (λ (w : Bytes). w ++ m) (spell_nothing (length n)) in
    sym p ∙ ap (spell (length m + length n)) e ∙ ap (λ (f : ℕ). spell f (name_key 0 m)) (add_comm (length m) (length n)) ∙ q

same_key : (n m : Bytes) → (name_key 0 m ≡ strange → ⊥) → same n m ≡ eqb (name_key 0 n) (name_key 0 m)
same_key n m h =
    both_ways (same n m) (eqb (name_key 0 n) (name_key 0 m)) (λ e. eq-eqb _ _ (ap (name_key 0) (bytes_equal n m e))) (λ e. bytes_same n m (one_name n m h (eqb-true _ _ e)))

-- LOOKING UP BY THE KEY
-- labels whose codes count from n, and the keys of their names
abbrev Keyed : ℕ → List Label → List ℕ → Type 0
Keyed n [] [] = Unit {0}
Keyed n [] (k ∷ ks) = ⊥
Keyed n (x ∷ xs) [] = ⊥
Keyed n (x ∷ xs) (k ∷ ks) = (x.code ≡ n) × (name_key 0 x.name ≡ k) × (eqb k strange ≡ false) × Keyed (suc n) xs ks

place_low : (n key : ℕ) (ks : List ℕ) → (place_of_key n key ks ≡ 0) ⊎ (n ≤ place_of_key n key ks)
unfolding place_of_key
place_low n key [] = inl refl
place_low n key (k ∷ ks) = go (eqb key k) refl (place_low (suc n) key ks)
  where
    go : (t : Bool) → eqb key k ≡ t → (place_of_key (suc n) key ks ≡ 0) ⊎ (suc n ≤ place_of_key (suc n) key ks) → (place_of_key n key (k ∷ ks) ≡ 0) ⊎ (n ≤ place_of_key n key (k ∷ ks))
    go true e h = inr (omega (arith, place_hit n key k ks e))
    go false e (inl h) = inl (place_miss n key k ks e ∙ h)
    go false e (inr h) = inr (omega (arith, place_miss n key k ks e))

module _ (x : Label) (xs : List Label) where
  pub code_hit : (c : ℕ) → eqb c x.code ≡ true → by_code c (x ∷ xs) ≡ x
  unfolding by_code
  code_hit c e = rw (e, by_code)

  pub code_miss : (c : ℕ) → eqb c x.code ≡ false → by_code c (x ∷ xs) ≡ by_code c xs
  unfolding by_code
  code_miss c e = rw (e, by_code)

  look_hit : (n : Bytes) → same n x.name ≡ true → lookup n (x ∷ xs) ≡ x
  unfolding lookup
  look_hit n e = rw (e, lookup)

  look_miss : (n : Bytes) → same n x.name ≡ false → lookup n (x ∷ xs) ≡ lookup n xs
  unfolding lookup
  look_miss n e = rw (e, lookup)

-- a place counted from behind n is not n
unlike : (c n code : ℕ) → 0 < n → code ≡ n → (c ≡ 0) ⊎ (suc n ≤ c) → eqb c code ≡ false
unlike c n code p e (inl h) = ne_eqb c code (λ q. omega arith)
unlike c n code p e (inr h) = ne_eqb c code (λ q. omega arith)

look_key : (n : ℕ) (xs : List Label) (ks : List ℕ) (w : Bytes) → 0 < n → Keyed n xs ks → lookup w xs ≡ by_code (place_of_key n (name_key 0 w) ks) xs
unfolding lookup by_code place_of_key
look_key n [] [] w p h = refl
look_key n [] (k ∷ ks) w p h = absurd h
look_key n (x ∷ xs) [] w p h = absurd h
look_key n (x ∷ xs) (k ∷ ks) w p h = go (eqb (name_key 0 w) k) refl (look_key (suc n) xs ks w (omega arith) h.3)
  where
    go : (t : Bool) → eqb (name_key 0 w) k ≡ t → lookup w xs ≡ by_code (place_of_key (suc n) (name_key 0 w) ks) xs → lookup w (x ∷ xs) ≡ by_code (place_of_key n (name_key 0 w) (k ∷ ks)) (x ∷ xs)
    go true e ih =
        look_hit x xs w (same_key w x.name (λ q. eqb-false k strange h.2 (sym h.1 ∙ q)) ∙ ap (eqb (name_key 0 w)) h.1 ∙ e)
        ∙ sym (ap (λ (c : ℕ). by_code c (x ∷ xs)) (place_hit n (name_key 0 w) k ks e) ∙ code_hit x xs n (eq-eqb n x.code (sym h.0)))
    go false e ih =
        look_miss x xs w (same_key w x.name (λ q. eqb-false k strange h.2 (sym h.1 ∙ q)) ∙ ap (eqb (name_key 0 w)) h.1 ∙ e)
        ∙ ih
        ∙ sym (ap (λ (c : ℕ). by_code c (x ∷ xs)) (place_miss n (name_key 0 w) k ks e) ∙ code_miss x xs (place_of_key (suc n) (name_key 0 w) ks) (unlike _ n x.code p h.0 (place_low (suc n) (name_key 0 w) ks)))

known_keyed : Keyed 1 known keys
unfolding bytes within known label keys name_key name_step grown longer
known_keyed = (refl, refl, refl, (refl, refl, refl, (refl, refl, refl, (refl, refl, refl, (refl, refl, refl, (refl, refl, refl, (refl, refl, refl, (refl, refl, refl, (refl, refl, refl, (refl, refl, refl, (refl, refl, refl, (refl, refl, refl, (refl, refl, refl, (refl, refl, refl, (refl, refl, refl, (refl, refl, refl, (refl, refl, refl, tt)))))))))))))))))

-- the rule: a label is looked up by its key
pub lookup_key : (s : Bytes) → lookup (normal s) known ≡ by_code (place_of_key 1 (key_of 0 s) keys) known
lookup_key s = look_key 1 known keys (normal s) (omega arith) known_keyed ∙ ap (λ (k : ℕ). by_code (place_of_key 1 k keys) known) (sym (key_name 0 s))
