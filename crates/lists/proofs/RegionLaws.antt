-- Rows of one width in a region of a table: what is put there row after row is taken out again, row i stands at i widths, and a table made of parts has each
-- part at the sum of the lengths before it. Over any row, cell and width. Serves document 01, "The structure table". Assumes nothing.
use Prim.Native.Nat.{ℕ, zero, suc, ◌+◌, ◌-◌, ◌*◌, ◌≤◌, ◌<◌}
use mathlib.Core.Path.{◌≡◌, refl, sym, ap, ◌∙◌}
use mathlib.Core.Bool.{Bool, true}
use mathlib.Core.List.{List, [], ◌∷◌, ◌++◌, map, append_assoc}
use native.Mathlib.Nat.{mul-suc, mul-zero}
use native.Mathlib.Omega.{arith}
use lib.ListN.{length, get_or, take, drop, replicate, length-append, length-replicate, length-drop, take-append-drop, replicate-append-replicate, get_or-append}
use lib.Seq.{length-take-le, drop_at, take_at, drop-drop, take-append-add, drop-append-add, get_or-append-add, sets, sets-eq}
use Rattle.lists.specs.Lists.{all, filled, flat, rows_from}
use Rattle.lists.proofs.ListLaws.{all_parts}
use Rattle.lists.proofs.PartLaws.{flat_nil, flat_cons, flat_behind, filled_is, filled_length, filled_take}

module _ {A B : Type 0} (w : ℕ) (row : List B → A) where
  -- ROWS OF A TABLE
  pub rows_zero : (t : List B) → rows_from w row 0 t ≡ []
  unfolding rows_from
  rows_zero t = refl

  pub rows_suc : (n : ℕ) (t : List B) → rows_from w row (suc n) t ≡ row t ∷ rows_from w row n (drop w t)
  unfolding rows_from
  rows_suc n t = refl

  pub rows_length : (n : ℕ) (t : List B) → length (rows_from w row n t) ≡ n
  rows_length zero t = ap length (rows_zero t)
  rows_length (suc n) t = ap length (rows_suc n t) ∙ ap suc (rows_length n (drop w t))

  -- row i stands at i widths
  pub rows_at : (d : A) (n : ℕ) (t : List B) (i : ℕ) → i < n → get_or (rows_from w row n t) i d ≡ row (drop (w * i) t)
  rows_at d zero t i h = absurd (omega arith)
  rows_at d (suc n) t zero h = ap (λ (l : List A). get_or l 0 d) (rows_suc n t) ∙ ap (λ (k : ℕ). row (drop k t)) (sym (mul-zero w))
  rows_at d (suc n) t (suc i) h =
      let q : w + w * i ≡ w * suc i = omega (arith, mul-suc w i) in
      ap (λ (l : List A). get_or l (suc i) d) (rows_suc n t) ∙ rows_at d n (drop w t) i (omega arith) ∙ ap row (drop-drop (w * i) w t ∙ ap (λ (k : ℕ). drop k t) q)

  pub rows_append : (m n : ℕ) (t : List B) → rows_from w row (m + n) t ≡ rows_from w row m t ++ rows_from w row n (drop (w * m) t)
  rows_append zero n t =
      let q : 0 + n ≡ n = omega arith in
      ap (λ (k : ℕ). rows_from w row k t) q ∙ sym (rw (rows_zero t, mul-zero w))
  rows_append (suc m) n t =
      let q : suc m + n ≡ suc (m + n) = omega arith in
      let r : w + w * m ≡ w * suc m = omega (arith, mul-suc w m) in
      ap (λ (k : ℕ). rows_from w row k t) q ∙ rows_suc (m + n) t
      ∙ ap (λ (l : List A). row t ∷ l) (rows_append m n (drop w t) ∙ ap (λ (l : List B). rows_from w row m (drop w t) ++ rows_from w row n l) (drop-drop (w * m) w t ∙ ap (λ (k : ℕ). drop k t) r))
      ∙ ap (λ (l : List A). l ++ rows_from w row n (drop (w * suc m) t)) (sym (rows_suc m t))

  pub rows_snoc : (n : ℕ) (t : List B) → rows_from w row (n + 1) t ≡ rows_from w row n t ++ (row (drop (w * n) t) ∷ [])
  rows_snoc n t = rows_append n 1 t ∙ ap (λ (l : List A). rows_from w row n t ++ l) (rows_suc 0 (drop (w * n) t) ∙ ap (λ (l : List A). row (drop (w * n) t) ∷ l) (rows_zero (drop w (drop (w * n) t))))

  -- a row that looks at its own cells only: what stands behind the rows does not matter
  pub rows_local : ((s z : List B) → length s ≡ w → row (s ++ z) ≡ row s) → (n : ℕ) (s z : List B) → length s ≡ w * n → rows_from w row n (s ++ z) ≡ rows_from w row n s
  rows_local f zero s z h = rows_zero (s ++ z) ∙ sym (rows_zero s)
  rows_local f (suc n) s z h =
      let a : List B = take w s in
      let b : List B = drop w s in
      let k : length s ≡ w * n + w = h ∙ mul-suc w n in
      let la : length a ≡ w = length-take-le w s (omega arith) in
      let lb : length b ≡ w * n = length-drop w s ∙ omega arith in
      let e : s ++ z ≡ a ++ (b ++ z) = ap (λ (l : List B). l ++ z) (sym (take-append-drop w s)) ∙ append_assoc a b z in
      let one : row (s ++ z) ≡ row s = ap row e ∙ f a (b ++ z) la ∙ sym (f a b la) ∙ ap row (take-append-drop w s) in
      let two : drop w (s ++ z) ≡ b ++ z = ap (drop w) e ∙ drop_at a (b ++ z) w la in
      rows_suc n (s ++ z) ∙ rw (one, two, rows_local f n b z lb) (sym (rows_suc n s))

pub rows_map : {A B C : Type 0} (w : ℕ) (row : List B → A) (f : A → C) (n : ℕ) (t : List B) → map f (rows_from w row n t) ≡ rows_from w (λ s. f (row s)) n t
unfolding rows_from
rows_map w row f zero t = refl
rows_map w row f (suc n) t = ap (λ l. f (row t) ∷ l) (rows_map w row f n (drop w t))

-- ROWS PUT IN: `fine` is what a row must pass to have w cells
module _ {A B : Type 0} (w : ℕ) (cells : A → List B) (fine : A → Bool) (wide : (x : A) → fine x ≡ true → length (cells x) ≡ w) where
  pub flat_length : (xs : List A) → all fine xs ≡ true → length (flat cells xs) ≡ w * length xs
  flat_length [] h = ap length (flat_nil cells) ∙ sym (mul-zero w)
  flat_length (x ∷ xs) h =
      let p : (fine x ≡ true) × (all fine xs ≡ true) = all_parts fine x xs h in
      ap length (flat_cons cells x xs) ∙ omega (arith, length-append (cells x) (flat cells xs), wide x p.0, flat_length xs p.1, mul-suc w (length xs))

  pub flat_drop : (n : ℕ) (xs : List A) (z : List B) → n ≤ length xs → all fine xs ≡ true → drop (w * n) (flat cells xs ++ z) ≡ flat cells (drop n xs) ++ z
  flat_drop zero xs z k h = ap (λ (m : ℕ). drop m (flat cells xs ++ z)) (mul-zero w)
  flat_drop (suc n) [] z k h = absurd (omega arith)
  flat_drop (suc n) (x ∷ xs) z k h =
      let p : (fine x ≡ true) × (all fine xs ≡ true) = all_parts fine x xs h in
      let q : w * suc n ≡ length (cells x) + w * n = omega (arith, wide x p.0, mul-suc w n) in
      ap (drop (w * suc n)) (flat_behind cells x xs z) ∙ ap (λ (m : ℕ). drop m (cells x ++ (flat cells xs ++ z))) q ∙ drop-append-add (cells x) (flat cells xs ++ z) (w * n) ∙ flat_drop n xs z (omega arith) p.1

  pub flat_take : (n : ℕ) (xs : List A) (z : List B) → n ≤ length xs → all fine xs ≡ true → take (w * n) (flat cells xs ++ z) ≡ flat cells (take n xs)
  flat_take zero xs z k h = ap (λ (m : ℕ). take m (flat cells xs ++ z)) (mul-zero w) ∙ sym (flat_nil cells)
  flat_take (suc n) [] z k h = absurd (omega arith)
  flat_take (suc n) (x ∷ xs) z k h =
      let p : (fine x ≡ true) × (all fine xs ≡ true) = all_parts fine x xs h in
      let q : w * suc n ≡ length (cells x) + w * n = omega (arith, wide x p.0, mul-suc w n) in
      ap (take (w * suc n)) (flat_behind cells x xs z) ∙ ap (λ (m : ℕ). take m (cells x ++ (flat cells xs ++ z))) q ∙ take-append-add (cells x) (flat cells xs ++ z) (w * n)
      ∙ ap (λ (l : List B). cells x ++ l) (flat_take n xs z (omega arith) p.1) ∙ sym (flat_cons cells x (take n xs))

  -- cell j of row i
  pub flat_cell : (d : B) (e : A) (xs : List A) (z : List B) (i j : ℕ) → i < length xs → j < w → all fine xs ≡ true → get_or (flat cells xs ++ z) (w * i + j) d ≡ get_or (cells (get_or xs i e)) j d
  flat_cell d e [] z i j h k f = absurd (omega arith)
  flat_cell d e (x ∷ xs) z zero j h k f =
      let p : (fine x ≡ true) × (all fine xs ≡ true) = all_parts fine x xs f in
      let q : w * 0 + j ≡ j = omega (arith, mul-zero w) in
      ap (λ (l : List B). get_or l (w * 0 + j) d) (flat_behind cells x xs z) ∙ ap (λ (m : ℕ). get_or (cells x ++ (flat cells xs ++ z)) m d) q ∙ get_or-append (cells x) (flat cells xs ++ z) d j (omega (arith, wide x p.0))
  flat_cell d e (x ∷ xs) z (suc i) j h k f =
      let p : (fine x ≡ true) × (all fine xs ≡ true) = all_parts fine x xs f in
      let q : w * suc i + j ≡ length (cells x) + (w * i + j) = omega (arith, wide x p.0, mul-suc w i) in
      ap (λ (l : List B). get_or l (w * suc i + j) d) (flat_behind cells x xs z) ∙ ap (λ (m : ℕ). get_or (cells x ++ (flat cells xs ++ z)) m d) q
      ∙ get_or-append-add (cells x) (flat cells xs ++ z) (w * i + j) d ∙ flat_cell d e xs z i j (omega arith) k p.1

  -- and taken out again
  module _ (row : List B → A) (back : (x : A) (z : List B) → fine x ≡ true → row (cells x ++ z) ≡ x) where
    pub rows_back : (xs : List A) (z : List B) → all fine xs ≡ true → rows_from w row (length xs) (flat cells xs ++ z) ≡ xs
    rows_back [] z h = rows_zero w row (flat cells [] ++ z)
    rows_back (x ∷ xs) z h =
        let p : (fine x ≡ true) × (all fine xs ≡ true) = all_parts fine x xs h in
        rows_suc w row (length xs) (flat cells (x ∷ xs) ++ z)
        ∙ rw (flat_behind cells x xs z, back x (flat cells xs ++ z) p.0, drop_at (cells x) (flat cells xs ++ z) w (wide x p.0), rows_back xs z p.1)

    pub filled_back : (d : B) (n : ℕ) (xs : List A) (z : List B) → all fine xs ≡ true → rows_from w row (length xs) (filled d n (flat cells xs) ++ z) ≡ xs
    filled_back d n xs z h =
        let r : List B = replicate (n - length (flat cells xs)) d in
        ap (λ (l : List B). rows_from w row (length xs) (l ++ z)) (filled_is d n (flat cells xs))
        ∙ ap (rows_from w row (length xs)) (append_assoc (flat cells xs) r z) ∙ rows_back xs (r ++ z) h

-- A TABLE MADE OF PARTS
module _ {A : Type 0} (a b c : List A) (from size : ℕ) (p : length a ≡ from) (q : length b ≡ size) where
  pub region_is : take size (drop from (a ++ (b ++ c))) ≡ b
  region_is = ap (take size) (drop_at a (b ++ c) from p) ∙ take_at b c size q

  pub region_behind : drop (from + size) (a ++ (b ++ c)) ≡ c
  region_behind = sym (drop-drop size from (a ++ (b ++ c))) ∙ ap (drop size) (drop_at a (b ++ c) from p) ∙ drop_at b c size q

  -- another part in its place
  pub region_put : (b' : List A) → take from (a ++ (b ++ c)) ++ (b' ++ drop size (drop from (a ++ (b ++ c)))) ≡ a ++ (b' ++ c)
  region_put b' = rw (take_at a (b ++ c) from p, drop_at a (b ++ c) from p, drop_at b c size q)

  pub region_cell : (d : A) (i : ℕ) → i < size → get_or (a ++ (b ++ c)) (from + i) d ≡ get_or b i d
  region_cell d i h =
      ap (λ (n : ℕ). get_or (a ++ (b ++ c)) (n + i) d) (sym p) ∙ get_or-append-add a (b ++ c) i d ∙ get_or-append b c d i (omega arith)

pub drop_replicate : {A : Type 0} (z : A) (m n : ℕ) → drop m (replicate (m + n) z) ≡ replicate n z
drop_replicate z m n =
    ap (drop m) (sym (replicate-append-replicate m n z)) ∙ drop_at (replicate m z) (replicate n z) m (length-replicate m z)

-- A REGION FILLED UP: more cells behind those that are there
module _ {A : Type 0} (z : A) (n : ℕ) (l m : List A) (h : length l + length m ≤ n) where
  pub filled_more : take (length l) (filled z n l) ++ (m ++ drop (length l + length m) (filled z n l)) ≡ filled z n (l ++ m)
  filled_more =
      let k : n - length l ≡ length m + (n - length (l ++ m)) = omega (arith, length-append l m) in
      let e : drop (length l + length m) (filled z n l) ≡ replicate (n - length (l ++ m)) z =
      ap (drop (length l + length m)) (filled_is z n l) ∙ drop-append-add l (replicate (n - length l) z) (length m) ∙ ap (λ (r : ℕ). drop (length m) (replicate r z)) k ∙ drop_replicate z (length m) (n - length (l ++ m)) in
      rw (filled_take z n l, e) (sym (append_assoc l m (replicate (n - length (l ++ m)) z)) ∙ sym (filled_is z n (l ++ m)))

  pub filled_sets : sets (filled z n l) (length l) m ≡ filled z n (l ++ m)
  filled_sets =
      sets-eq m (filled z n l) (length l) (omega (arith, filled_length z n l (omega arith)))
      ∙ append_assoc (take (length l) (filled z n l)) m (drop (length l + length m) (filled z n l)) ∙ filled_more
