-- Words of one byte: its place among some letters, and the group that it names. Serves document 01, "Rows". Assumes nothing.
use Prim.Native.Nat.{ℕ, suc, ◌+◌, ◌≤◌, ◌<◌}
use mathlib.Core.Path.{◌≡◌, refl, sym, ap, ◌∙◌}
use mathlib.Core.Bool.{Bool, true, false, ◌&&◌, ◌||◌}
use Rattle.std.specs.declared.option.Option.TheVariants.{None, Some}
use mathlib.Core.List.{[], ◌∷◌}
use native.Mathlib.Omega.{arith}
use lib.ListN.{length, get_or, drop, drop_of_length-le}
use lib.Seq.{drop-cons}
use native.Mathlib.Numerals.{add-one}
use lib.Dec.{eqb}
use borrow.Author.Tests.{eq-eqb, ne_eqb}
use Rattle.lists.specs.Lists.{any, same_by}
use Rattle.std.specs.Prelude.{IfSome}
use Rattle.std.specs.Bool.{then_some}
use Rattle.lists.proofs.Bools.{and_left_false, or_other}
use Rattle.format.proofs.ByteLaws.{upper_bounds, lower_bounds}
use Rattle.lists.proofs.ListLaws.{any_parts}
use Rattle.lists.proofs.PairLaws.{same_differ, same_cons}
use Rattle.format.specs.Bytes.{Bytes, bytes, same, is_in}
use Rattle.format.specs.Rows.{upper, lower, group, place_in}

pub one_byte : (w : Bytes) (b : ℕ) → length w ≡ 1 → get_or w 0 0 ≡ b → w ≡ b ∷ []
one_byte [] b h e = absurd (omega arith)
one_byte (a ∷ []) b h e = ap (λ (n : ℕ). n ∷ []) e
one_byte (a ∷ c ∷ w) b h e = absurd (omega arith)

-- AMONG LETTERS
place_past : (n l : ℕ) (w ls : Bytes) → same w (l ∷ []) ≡ false → place_in n w (l ∷ ls) ≡ place_in (suc n) w ls
unfolding place_in
place_past n l w ls e = rw (e, place_in)

place_none : (n : ℕ) (w ls : Bytes) → (length w ≡ 1 → ⊥) → place_in n w ls ≡ None
unfolding place_in
place_none n w [] h = refl
place_none n w (l ∷ ls) h = place_past n l w ls (same_differ eqb w (l ∷ []) h) ∙ place_none (suc n) w ls h

same_self : (b : ℕ) → same (b ∷ []) (b ∷ []) ≡ true
unfolding same_by
same_self b = same_cons eqb b b [] [] ∙ ap (λ (t : Bool). t && true) (eq-eqb b b refl)

place_hit : (n l : ℕ) (ls : Bytes) → place_in n (l ∷ []) (l ∷ ls) ≡ Some n
unfolding place_in
place_hit n l ls = rw (same_self l, place_in)

module _ (n : ℕ) (w ls : Bytes) where
  pub place_long : (length w ≡ 1 → ⊥) → None ≡ place_in n w ls
  place_long h = sym (place_none n w ls h)

-- ONE LETTER AFTER THE OTHER, from the i-th on
module _ (n i : ℕ) (w ls : Bytes) where
  pub place_over : length ls ≤ i → place_in (n + i) w (drop i ls) ≡ None
  unfolding place_in
  place_over h = ap (place_in (n + i) w) (drop_of_length-le ls h)

  module _ (h : length w ≡ 1) (l : i < length ls) where
    at_letter : drop i ls ≡ get_or ls i 0 ∷ drop (i + 1) ls
    at_letter = drop-cons ls i 0 l ∙ ap (λ (k : ℕ). get_or ls i 0 ∷ drop k ls) (sym (add-one i))

    pub place_here : get_or ls i 0 ≡ get_or w 0 0 → place_in (n + i) w (drop i ls) ≡ Some (n + i)
    place_here e =
        ap (place_in (n + i) w) at_letter ∙ ap (λ (v : Bytes). place_in (n + i) v (get_or ls i 0 ∷ drop (i + 1) ls)) (one_byte w (get_or ls i 0) h (sym e))
        ∙ place_hit (n + i) (get_or ls i 0) (drop (i + 1) ls)

    other_letter : (b : ℕ) → (b ≡ get_or w 0 0 → ⊥) → same w (b ∷ []) ≡ false
    other_letter b e =
        ap (λ (v : Bytes). same v (b ∷ [])) (one_byte w (get_or w 0 0) h refl) ∙ same_cons eqb (get_or w 0 0) b [] []
        ∙ and_left_false (eqb (get_or w 0 0) b) (same [] []) (ne_eqb (get_or w 0 0) b (λ q. e (sym q)))

    pub place_on : (get_or ls i 0 ≡ get_or w 0 0 → ⊥) → place_in (n + i) w (drop i ls) ≡ place_in (n + (i + 1)) w (drop (i + 1) ls)
    place_on e =
        ap (place_in (n + i) w) at_letter ∙ place_past (n + i) (get_or ls i 0) w (drop (i + 1) ls) (other_letter (get_or ls i 0) e)
        ∙ ap (λ (k : ℕ). place_in k w (drop (i + 1) ls)) (omega arith)

-- GROUPS
group_one : (b : ℕ) → (b ≡ 48 → ⊥) → (upper b || lower b) ≡ true → group (b ∷ []) ≡ Some b
unfolding group
group_one b h e = rw (ne_eqb b 48 h, e, group)

group_other : (b : ℕ) → (b ≡ 48 → ⊥) → (upper b || lower b) ≡ false → group (b ∷ []) ≡ None
unfolding group
group_other b h e = rw (ne_eqb b 48 h, e, group)

pub group_long : (w : Bytes) → (length w ≡ 1 → ⊥) → None ≡ group w
unfolding group
group_long [] h = refl
group_long (b ∷ []) h = absurd (h refl)
group_long (b ∷ c ∷ w) h = refl

module _ (w : Bytes) (h : length w ≡ 1) where
  pub group_zero : get_or w 0 0 ≡ 48 → Some 0 ≡ group w
  unfolding group
  group_zero e = sym (ap group (one_byte w 48 h e))

  module _ (t : Bool) (e : t ≡ (upper (get_or w 0 0) || lower (get_or w 0 0))) where
    pub group_letter : (get_or w 0 0 ≡ 48 → ⊥) → then_some t (get_or w 0 0) ≡ group w
    group_letter z = go t e ∙ sym (ap group (one_byte w (get_or w 0 0) h refl))
      where
        go : (t : Bool) → t ≡ (upper (get_or w 0 0) || lower (get_or w 0 0)) → then_some t (get_or w 0 0) ≡ group (get_or w 0 0 ∷ [])
        go true e = sym (group_one (get_or w 0 0) z (sym e))
        go false e = sym (group_other (get_or w 0 0) z (sym e))

    pub group_small : IfSome (then_some t (get_or w 0 0)) (λ n. n < 123)
    group_small = go t e
      where
        go : (t : Bool) → t ≡ (upper (get_or w 0 0) || lower (get_or w 0 0)) → IfSome (then_some t (get_or w 0 0)) (λ n. n < 123)
        go true e = by_upper (upper (get_or w 0 0)) refl
          where
            by_upper : (u : Bool) → upper (get_or w 0 0) ≡ u → get_or w 0 0 < 123
            by_upper true u = omega (arith, upper_bounds _ u)
            by_upper false u = omega (arith, lower_bounds _ (or_other (upper (get_or w 0 0)) (lower (get_or w 0 0)) (sym e) u))
        go false e = tt
