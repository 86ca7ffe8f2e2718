-- Rows taken one after another are accepted if and only if each passes its own test and no two clash; what is kept is the first of each that are the same,
-- latest first. One law for the five lists of document 01, "Rows", over any clash that is symmetric and in which rows that are the same agree. Assumes nothing.
use Prim.Native.Nat.{ℕ, ◌+◌, ◌≤◌}
use mathlib.Core.Path.{◌≡◌, refl, sym, ap, ◌∙◌}
use mathlib.Core.Bool.{Bool, true, false, ◌||◌}
use mathlib.Core.List.{List, [], ◌∷◌, ◌++◌, reverse, reverse_aux}
use native.Mathlib.Omega.{arith}
use lib.ListN.{length}
use Rattle.lists.specs.Lists.{all, any, pairs}
use Rattle.lists.specs.Order.{Perm, chained}
use Rattle.lists.specs.Folding.{on, halt, verdict, kept, take_rows}
use Rattle.lists.proofs.Bools.{torn, or_parts, or_right}
use Rattle.lists.proofs.ListLaws.{all_parts, all_both, any_nil, any_hit, any_miss, any_later, any_parts, any_neither, any_imply}
use Rattle.lists.proofs.PairLaws.{pairs_nil, pairs_parts, pairs_neither, cross, cross_nil, cross_cons}
use Rattle.lists.proofs.SortLaws.{perm_refl, perm_sym, perm_middle}

module _ {A : Type 0} where
  -- A VERDICT that goes on, or halts
  pub verdict_on : (b : Bool) (rows next : List A) → verdict b rows ≡ on next → (b ≡ false) × (rows ≡ next)
  verdict_on true rows next e = absurd (let z : ◌≡◌ {A = ℕ} 0 1 = cc in omega arith)
  verdict_on false rows next e = (refl, cc)

  pub verdict_halt : (b : Bool) (rows : List A) → verdict b rows ≡ halt → b ≡ true
  verdict_halt true rows e = refl
  verdict_halt false rows e = absurd (let z : ◌≡◌ {A = ℕ} 0 1 = cc in omega arith)

  -- WHAT IS KEPT
  module _ (same : A → A → Bool) where
    pub kept_nil : (rows : List A) → kept same rows [] ≡ rows
    unfolding kept
    kept_nil rows = refl

    pub kept_again : (rows : List A) (x : A) (xs : List A) → any (same x) rows ≡ true → kept same rows (x ∷ xs) ≡ kept same rows xs
    unfolding kept
    kept_again rows x xs e = rw (e, kept)

    pub kept_new : (rows : List A) (x : A) (xs : List A) → any (same x) rows ≡ false → kept same rows (x ∷ xs) ≡ kept same (x ∷ rows) xs
    unfolding kept
    kept_new rows x xs e = rw (e, kept)

    -- what holds of no rows, and of one row more that is not the same as one of them, holds of what is kept
    pub kept_holds : (P : List A → Type 0) → ((rows : List A) (x : A) → any (same x) rows ≡ false → P rows → P (x ∷ rows)) → (rows xs : List A) → P rows → P (kept same rows xs)
    kept_holds P f rows [] h = rw (kept_nil rows) h
    kept_holds P f rows (x ∷ xs) h = go (any (same x) rows) refl (λ (l : List A) k. kept_holds P f l xs k)
      where
        go : (t : Bool) → any (same x) rows ≡ t → ((l : List A) → P l → P (kept same l xs)) → P (kept same rows (x ∷ xs))
        go true e ih = rw (kept_again rows x xs e) (ih rows h)
        go false e ih = rw (kept_new rows x xs e) (ih (x ∷ rows) (f rows x e h))

    -- no two that are kept are the same
    pub kept_apart : (xs : List A) → pairs same (kept same [] xs) ≡ false
    kept_apart xs = kept_holds (λ (l : List A). pairs same l ≡ false) (λ rows x e h. pairs_neither same x rows e h) [] xs (pairs_nil same)

    pub kept_all : (p : A → Bool) (rows xs : List A) → all p rows ≡ true → all p xs ≡ true → all p (kept same rows xs) ≡ true
    kept_all p rows [] h k = ap (all p) (kept_nil rows) ∙ h
    kept_all p rows (x ∷ xs) h k = go (any (same x) rows) refl (λ (l : List A) a. kept_all p l xs a (all_parts p x xs k).1)
      where
        go : (t : Bool) → any (same x) rows ≡ t → ((l : List A) → all p l ≡ true → all p (kept same l xs) ≡ true) → all p (kept same rows (x ∷ xs)) ≡ true
        go true e ih = ap (all p) (kept_again rows x xs e) ∙ ih rows h
        go false e ih = ap (all p) (kept_new rows x xs e) ∙ ih (x ∷ rows) (all_both p x rows (all_parts p x xs k).0 h)

    pub kept_any : (p : A → Bool) (rows xs : List A) → any p rows ≡ false → any p xs ≡ false → any p (kept same rows xs) ≡ false
    kept_any p rows [] h k = ap (any p) (kept_nil rows) ∙ h
    kept_any p rows (x ∷ xs) h k = go (any (same x) rows) refl (λ (l : List A) a. kept_any p l xs a (any_parts p x xs k).1)
      where
        go : (t : Bool) → any (same x) rows ≡ t → ((l : List A) → any p l ≡ false → any p (kept same l xs) ≡ false) → any p (kept same rows (x ∷ xs)) ≡ false
        go true e ih = ap (any p) (kept_again rows x xs e) ∙ ih rows h
        go false e ih = ap (any p) (kept_new rows x xs e) ∙ ih (x ∷ rows) (any_neither p x rows (any_parts p x xs k).0 h)

    pub kept_length : (rows xs : List A) → length (kept same rows xs) ≤ length rows + length xs
    kept_length rows [] = omega (arith, ap length (kept_nil rows))
    kept_length rows (x ∷ xs) = go (any (same x) rows) refl (λ (l : List A). kept_length l xs)
      where
        go : (t : Bool) → any (same x) rows ≡ t → ((l : List A) → length (kept same l xs) ≤ length l + length xs) → length (kept same rows (x ∷ xs)) ≤ length rows + length (x ∷ xs)
        go true e ih = omega (arith, ap length (kept_again rows x xs e), ih rows)
        go false e ih = omega (arith, ap length (kept_new rows x xs e), ih (x ∷ rows))

    -- of rows that do not stand in a symmetric relation, those kept do not
    module _ (r : A → A → Bool) (symm : (x y : A) → r x y ≡ r y x) where
      kept_free : (rows xs : List A) → pairs r rows ≡ false → cross r xs rows ≡ false → pairs r xs ≡ false → pairs r (kept same rows xs) ≡ false
      kept_free rows [] h c k = ap (pairs r) (kept_nil rows) ∙ h
      kept_free rows (x ∷ xs) h c k =
          let p : (any (r x) rows ≡ false) × (cross r xs rows ≡ false) = any_parts (λ y. any (r y) rows) x xs c in
          let q : (any (r x) xs ≡ false) × (pairs r xs ≡ false) = pairs_parts r x xs k in
          go (any (same x) rows) refl (kept_free rows xs h p.1 q.1) (kept_free (x ∷ rows) xs (pairs_neither r x rows p.0 h) (cross_cons r symm xs x rows ∙ rw q.0 p.1) q.1)
        where
          go : (t : Bool) → any (same x) rows ≡ t → pairs r (kept same rows xs) ≡ false → pairs r (kept same (x ∷ rows) xs) ≡ false → pairs r (kept same rows (x ∷ xs)) ≡ false
          go true e f g = ap (pairs r) (kept_again rows x xs e) ∙ f
          go false e f g = ap (pairs r) (kept_new rows x xs e) ∙ g

      pub kept_pairs : (xs : List A) → pairs r xs ≡ false → pairs r (kept same [] xs) ≡ false
      kept_pairs xs h = kept_free [] xs (pairs_nil r) (cross_nil r xs) h

    -- rows of which no two stand in a relation that holds wherever they are the same are all kept
    module _ (r : A → A → Bool) (symm : (x y : A) → r x y ≡ r y x) (within : (x y : A) → r x y ≡ false → same x y ≡ false) where
      pub kept_every : (rows xs : List A) → cross r xs rows ≡ false → pairs r xs ≡ false → kept same rows xs ≡ reverse_aux xs rows
      kept_every rows [] h k = kept_nil rows
      kept_every rows (x ∷ xs) h k =
          let p : (any (r x) rows ≡ false) × (cross r xs rows ≡ false) = any_parts (λ y. any (r y) rows) x xs h in
          let q : (any (r x) xs ≡ false) × (pairs r xs ≡ false) = pairs_parts r x xs k in
          kept_new rows x xs (any_imply (r x) (same x) (within x) rows p.0) ∙ kept_every (x ∷ rows) xs (cross_cons r symm xs x rows ∙ rw q.0 p.1) q.1

      pub kept_whole : (xs : List A) → pairs r xs ≡ false → kept same [] xs ≡ reverse xs
      kept_whole xs h = kept_every [] xs (cross_nil r xs) h

  pub reverse_perm : (xs rows : List A) → Perm (reverse_aux xs rows) (xs ++ rows)
  reverse_perm [] rows = perm_refl rows
  reverse_perm (x ∷ xs) rows = chained (reverse_perm xs (x ∷ rows)) (perm_sym (perm_middle x xs rows))

  -- TAKING, clause by clause
  module _ (own : A → Bool) (clash same : A → A → Bool) where
    pub take_nil : (rows : List A) → take_rows own clash same rows [] ≡ on rows
    unfolding take_rows
    take_nil rows = refl

    pub take_bad : (rows : List A) (x : A) (xs : List A) → (own x || any (clash x) rows) ≡ true → take_rows own clash same rows (x ∷ xs) ≡ halt
    unfolding take_rows
    take_bad rows x xs e = rw (e, take_rows)

    pub take_again : (rows : List A) (x : A) (xs : List A) → (own x || any (clash x) rows) ≡ false → any (same x) rows ≡ true → take_rows own clash same rows (x ∷ xs) ≡ take_rows own clash same rows xs
    unfolding take_rows
    take_again rows x xs e f = rw (e, f, take_rows)

    pub take_new : (rows : List A) (x : A) (xs : List A) → (own x || any (clash x) rows) ≡ false → any (same x) rows ≡ false → take_rows own clash same rows (x ∷ xs) ≡ take_rows own clash same (x ∷ rows) xs
    unfolding take_rows
    take_new rows x xs e f = rw (e, f, take_rows)

    -- rows in front of others
    pub takes_on : (rows xs ys next : List A) → take_rows own clash same rows xs ≡ on next → take_rows own clash same rows (xs ++ ys) ≡ take_rows own clash same next ys
    takes_on rows [] ys next h = let q : rows ≡ next = (verdict_on false rows next (sym (take_nil rows) ∙ h)).1 in ap (λ (l : List A). take_rows own clash same l ys) q
    takes_on rows (x ∷ xs) ys next h = go (own x || any (clash x) rows) (any (same x) rows) refl refl (λ (l : List A) k. takes_on l xs ys next k)
      where
        go : (b a : Bool) → (own x || any (clash x) rows) ≡ b → any (same x) rows ≡ a
            → ((l : List A) → take_rows own clash same l xs ≡ on next → take_rows own clash same l (xs ++ ys) ≡ take_rows own clash same next ys)
            → take_rows own clash same rows (x ∷ (xs ++ ys)) ≡ take_rows own clash same next ys
        go true a e f ih = torn true refl (verdict_on true rows next (sym (take_bad rows x xs e) ∙ h)).0
        go false true e f ih = take_again rows x (xs ++ ys) e f ∙ ih rows (sym (take_again rows x xs e f) ∙ h)
        go false false e f ih = take_new rows x (xs ++ ys) e f ∙ ih (x ∷ rows) (sym (take_new rows x xs e f) ∙ h)

    pub takes_halt : (rows xs ys : List A) → take_rows own clash same rows xs ≡ halt → take_rows own clash same rows (xs ++ ys) ≡ halt
    takes_halt rows [] ys h = torn false (verdict_halt false rows (sym (take_nil rows) ∙ h)) refl
    takes_halt rows (x ∷ xs) ys h = go (own x || any (clash x) rows) (any (same x) rows) refl refl (λ (l : List A) k. takes_halt l xs ys k)
      where
        go : (b a : Bool) → (own x || any (clash x) rows) ≡ b → any (same x) rows ≡ a
            → ((l : List A) → take_rows own clash same l xs ≡ halt → take_rows own clash same l (xs ++ ys) ≡ halt) → take_rows own clash same rows (x ∷ (xs ++ ys)) ≡ halt
        go true a e f ih = take_bad rows x (xs ++ ys) e
        go false true e f ih = take_again rows x (xs ++ ys) e f ∙ ih rows (sym (take_again rows x xs e f) ∙ h)
        go false false e f ih = take_new rows x (xs ++ ys) e f ∙ ih (x ∷ rows) (sym (take_new rows x xs e f) ∙ h)

    fault_hit : (o c f g h k : Bool) → (o || c) ≡ true → ((o || f) || ((c || g) || (h || k))) ≡ true
    fault_hit true c f g h k e = refl
    fault_hit false true true g h k e = refl
    fault_hit false true false g h k e = refl
    fault_hit false false f g h k e = torn false e refl

    fault_miss : (o c f g h k : Bool) → (o || c) ≡ false → ((o || f) || ((c || g) || (h || k))) ≡ (f || ((h || g) || k))
    fault_miss true c f g h k e = torn true refl e
    fault_miss false true f g h k e = torn true refl e
    fault_miss false false true g h k e = refl
    fault_miss false false false true true k e = refl
    fault_miss false false false true false k e = refl
    fault_miss false false false false true k e = refl
    fault_miss false false false false false k e = refl

    -- what speaks against rows after others: one of them by itself, one with the others, two of them
    abbrev pub fault : List A → List A → Bool
    fault rows xs = any own xs || (cross clash xs rows || pairs clash xs)

    fault_cons : (rows : List A) (x : A) (xs : List A) → fault rows (x ∷ xs) ≡ ((own x || any own xs) || ((any (clash x) rows || cross clash xs rows) || (any (clash x) xs || pairs clash xs)))
    unfolding any pairs
    fault_cons rows x xs = refl

    module _ (symm : (x y : A) → clash x y ≡ clash y x) (alike : (x y z : A) → same x y ≡ true → clash x y ≡ false → clash x z ≡ true → clash y z ≡ true) where
      -- what clashes with a repeat clashes with the row it repeats
      hit : (x z : A) (rows : List A) → any (same x) rows ≡ true → any (clash x) rows ≡ false → clash x z ≡ true → any (clash z) rows ≡ true
      hit x z [] h f k = torn (any (same x) []) h (any_nil (same x))
      hit x z (r ∷ rs) h f k = go (same x r) refl (hit x z rs)
        where
          go : (t : Bool) → same x r ≡ t → (any (same x) rs ≡ true → any (clash x) rs ≡ false → clash x z ≡ true → any (clash z) rs ≡ true) → any (clash z) (r ∷ rs) ≡ true
          go true e ih = any_hit (clash z) r rs (symm z r ∙ alike x r z e (any_parts (clash x) r rs f).0 k)
          go false e ih = any_later (clash z) r rs (ih (sym (any_miss (same x) r rs e) ∙ h) (any_parts (clash x) r rs f).1 k)

      -- so that a repeat adds no clash
      again_cross : (x : A) (rows : List A) → any (same x) rows ≡ true → any (clash x) rows ≡ false → (xs : List A) → (any (clash x) xs || cross clash xs rows) ≡ cross clash xs rows
      unfolding any
      again_cross x rows h f [] = refl
      again_cross x rows h f (z ∷ zs) = go (clash x z) refl (again_cross x rows h f zs)
        where
          mid : (a b c : Bool) → (a || c) ≡ c → (a || (b || c)) ≡ (b || c)
          mid false b c i = refl
          mid true true c i = refl
          mid true false c i = i

          go : (t : Bool) → clash x z ≡ t → (any (clash x) zs || cross clash zs rows) ≡ cross clash zs rows
              → ((clash x z || any (clash x) zs) || (any (clash z) rows || cross clash zs rows)) ≡ (any (clash z) rows || cross clash zs rows)
          go true e ih = rw (e, hit x z rows h f e)
          go false e ih = rw e (mid (any (clash x) zs) (any (clash z) rows) (cross clash zs rows) ih)

      pub takes : (rows xs : List A) → take_rows own clash same rows xs ≡ verdict (fault rows xs) (kept same rows xs)
      takes rows [] = take_nil rows ∙ rw (any_nil own, any_nil (λ (x : A). any (clash x) rows), pairs_nil clash, kept_nil same rows)
      takes rows (x ∷ xs) = go (own x || any (clash x) rows) (any (same x) rows) refl refl (λ (l : List A). takes l xs)
        where
          go : (b a : Bool) → (own x || any (clash x) rows) ≡ b → any (same x) rows ≡ a → ((l : List A) → take_rows own clash same l xs ≡ verdict (fault l xs) (kept same l xs))
              → take_rows own clash same rows (x ∷ xs) ≡ verdict (fault rows (x ∷ xs)) (kept same rows (x ∷ xs))
          go true a e f ih =
              take_bad rows x xs e
              ∙ ap (λ (t : Bool). verdict t (kept same rows (x ∷ xs))) (sym (fault_cons rows x xs ∙ fault_hit (own x) (any (clash x) rows) (any own xs) (cross clash xs rows) (any (clash x) xs) (pairs clash xs) e))
          go false true e f ih =
              let q : fault rows (x ∷ xs) ≡ fault rows xs =
              fault_cons rows x xs ∙ fault_miss (own x) (any (clash x) rows) (any own xs) (cross clash xs rows) (any (clash x) xs) (pairs clash xs) e
              ∙ ap (λ (t : Bool). any own xs || (t || pairs clash xs)) (again_cross x rows f (or_parts (own x) (any (clash x) rows) e).1 xs) in
              take_again rows x xs e f ∙ ih rows ∙ rw (q, kept_again same rows x xs f)
          go false false e f ih =
              let q : fault rows (x ∷ xs) ≡ fault (x ∷ rows) xs =
              fault_cons rows x xs ∙ fault_miss (own x) (any (clash x) rows) (any own xs) (cross clash xs rows) (any (clash x) xs) (pairs clash xs) e
              ∙ ap (λ (t : Bool). any own xs || (t || pairs clash xs)) (sym (cross_cons clash symm xs x rows)) in
              take_new rows x xs e f ∙ ih (x ∷ rows) ∙ rw (q, kept_new same rows x xs f)

      -- ACCEPTED IF AND ONLY IF
      pub accepts : (xs : List A) → take_rows own clash same [] xs ≡ verdict (any own xs || pairs clash xs) (kept same [] xs)
      accepts xs = takes [] xs ∙ rw (cross_nil clash xs)

      pub accepted : (xs next : List A) → take_rows own clash same [] xs ≡ on next → (any own xs ≡ false) × (pairs clash xs ≡ false) × (kept same [] xs ≡ next)
      accepted xs next h =
          let q : ((any own xs || pairs clash xs) ≡ false) × (kept same [] xs ≡ next) = verdict_on _ _ next (sym (accepts xs) ∙ h) in
          let p : (any own xs ≡ false) × (pairs clash xs ≡ false) = or_parts (any own xs) (pairs clash xs) q.0 in
          (p.0, p.1, q.1)

      -- where no two are the same, all are kept
      pub accepts_every : ((x y : A) → same x y ≡ same y x) → (xs : List A) → pairs same xs ≡ false → take_rows own clash same [] xs ≡ verdict (any own xs || pairs clash xs) (reverse xs)
      accepts_every even xs h = accepts xs ∙ ap (verdict (any own xs || pairs clash xs)) (kept_whole same same even (λ x y e. e) xs h)

    -- lists in which a repeat would be a clash
    pub accepts_plain : ((x y : A) → clash x y ≡ clash y x) → ((x y : A) → clash x y ≡ false → same x y ≡ false)
        → (xs : List A) → take_rows own clash same [] xs ≡ verdict (any own xs || pairs clash xs) (reverse xs)
    accepts_plain symm within xs = accepts symm (λ x y z e f k. torn (same x y) e (within x y f)) xs ∙ go (pairs clash xs) refl
      where
        go : (t : Bool) → pairs clash xs ≡ t → verdict (any own xs || pairs clash xs) (kept same [] xs) ≡ verdict (any own xs || pairs clash xs) (reverse xs)
        go true e = let q : (any own xs || pairs clash xs) ≡ true = or_right (any own xs) (pairs clash xs) e in rw q
        go false e = ap (verdict (any own xs || pairs clash xs)) (kept_whole same clash symm within xs e)
