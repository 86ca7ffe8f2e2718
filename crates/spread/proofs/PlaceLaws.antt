-- Where a row stands that a test tells, counted from the last (as rows came) or from the first (as they are sorted): tests that tell the same row of one list tell the
-- same row of any permutation of it. A charge or radical row is told by an atom, or by having none. Document 01, "The structure table". Assumes nothing.
use Prim.Native.Nat.{ℕ, zero, suc, ◌+◌, ◌-◌, ◌≤◌, ◌<◌}
use mathlib.Core.Path.{◌≡◌, refl, sym, ap, ◌∙◌}
use mathlib.Core.Bool.{Bool, true, false, ◌&&◌}
use Rattle.std.specs.declared.option.Option.{Option}
use Rattle.std.specs.declared.option.Option.TheVariants.{None, Some}
use mathlib.Core.List.{List, [], ◌∷◌, ◌++◌, map}
use native.Mathlib.Omega.{arith}
use lib.ListN.{length, get_or, length-append}
use lib.Seq.{get_or_at, get_or-take, take-append_seam}
use lib.Dec.{eqb}
use borrow.Author.Tests.{eqb-true}
use Rattle.lists.specs.Lists.{is_nil, any, pairs}
use Rattle.lists.proofs.Bools.{torn, and_both, and_left_false, and_right_false, eqb_same, never}
use Rattle.lists.proofs.ListLaws.{any_nil, any_hit, any_miss, any_later, any_parts, any_same}
use Rattle.lists.proofs.PairLaws.{pairs_parts}
use Rattle.format.specs.Bytes.{is_in}
use Rattle.format.specs.Rows.{Row}
use Rattle.format.specs.Table.{row_with}
use Rattle.sorted.specs.Regions.{member_of, coded, arrived, void_of}

-- whether a row has the atom, and whether it has none
abbrev pub has : ℕ → Row → Bool
has n r = is_in n r.atoms

abbrev pub void : Row → Bool
void r = is_nil r.atoms

-- what tells a row: an atom of it, or that it has none
abbrev pub tells : Option ℕ → Row → Bool
tells None r = void r
tells (Some n) r = has n r

module _ (p : Row → Bool) where
  -- the number of the row that the test tells: counted from the last row, from the first; 0 where there is none
  unfoldable pub back_of : List Row → ℕ
  back_of [] = 0
  back_of (r ∷ rs) = elim (p r) [ true ↦ suc (length rs) | false ↦ back_of rs ]

  unfoldable pub front_of : ℕ → List Row → ℕ
  front_of from [] = 0
  front_of from (r ∷ rs) = elim (p r) [ true ↦ from | false ↦ front_of (suc from) rs ]

  pub back_nil : back_of [] ≡ 0
  unfolding back_of
  back_nil = refl

  pub back_in : (r : Row) (rs : List Row) → p r ≡ true → back_of (r ∷ rs) ≡ suc (length rs)
  unfolding back_of
  back_in r rs e = rw (e, back_of)

  pub back_out : (r : Row) (rs : List Row) → p r ≡ false → back_of (r ∷ rs) ≡ back_of rs
  unfolding back_of
  back_out r rs e = rw (e, back_of)

  pub front_nil : (from : ℕ) → front_of from [] ≡ 0
  unfolding front_of
  front_nil from = refl

  pub front_in : (from : ℕ) (r : Row) (rs : List Row) → p r ≡ true → front_of from (r ∷ rs) ≡ from
  unfolding front_of
  front_in from r rs e = rw (e, front_of)

  pub front_out : (from : ℕ) (r : Row) (rs : List Row) → p r ≡ false → front_of from (r ∷ rs) ≡ front_of (suc from) rs
  unfolding front_of
  front_out from r rs e = rw (e, front_of)

  -- NONE, and one
  pub back_none : (rs : List Row) → any p rs ≡ false → back_of rs ≡ 0
  back_none [] h = back_nil
  back_none (r ∷ rs) h = let q : (p r ≡ false) × (any p rs ≡ false) = any_parts p r rs h in back_out r rs q.0 ∙ back_none rs q.1

  pub front_none : (from : ℕ) (rs : List Row) → any p rs ≡ false → front_of from rs ≡ 0
  front_none from [] h = front_nil from
  front_none from (r ∷ rs) h = let q : (p r ≡ false) × (any p rs ≡ false) = any_parts p r rs h in front_out from r rs q.0 ∙ front_none (suc from) rs q.1

  pub back_some : (rs : List Row) → any p rs ≡ true → (1 ≤ back_of rs) × (back_of rs ≤ length rs)
  back_some [] h = torn (any p []) h (any_nil p)
  back_some (r ∷ rs) h = go (p r) refl (back_some rs)
    where
      go : (t : Bool) → p r ≡ t → (any p rs ≡ true → (1 ≤ back_of rs) × (back_of rs ≤ length rs)) → (1 ≤ back_of (r ∷ rs)) × (back_of (r ∷ rs) ≤ suc (length rs))
      go true e ih = (omega (arith, back_in r rs e), omega (arith, back_in r rs e))
      go false e ih = let q = ih (sym (any_miss p r rs e) ∙ h) in (omega (arith, back_out r rs e, q.0), omega (arith, back_out r rs e, q.1))

  pub front_some : (from : ℕ) (rs : List Row) → any p rs ≡ true → (from ≤ front_of from rs) × (front_of from rs < from + length rs)
  front_some from [] h = torn (any p []) h (any_nil p)
  front_some from (r ∷ rs) h = go (p r) refl (front_some (suc from) rs)
    where
      go : (t : Bool) → p r ≡ t → (any p rs ≡ true → (suc from ≤ front_of (suc from) rs) × (front_of (suc from) rs < suc from + length rs))
          → (from ≤ front_of from (r ∷ rs)) × (front_of from (r ∷ rs) < from + suc (length rs))
      go true e ih = (omega (arith, front_in from r rs e), omega (arith, front_in from r rs e))
      go false e ih = let q = ih (sym (any_miss p r rs e) ∙ h) in (omega (arith, front_out from r rs e, q.0), omega (arith, front_out from r rs e, q.1))

  -- where a row that the test tells is the only one
  abbrev pub alone : List Row → Bool
  alone rs = pairs (λ r q. p r && p q) rs

  pub alone_in : (r : Row) (rs : List Row) → alone (r ∷ rs) ≡ false → p r ≡ true → any p rs ≡ false
  alone_in r rs h e = sym (any_same (λ q. p r && p q) p (λ q. ap (λ (b : Bool). b && p q) e) rs) ∙ (pairs_parts (λ x q. p x && p q) r rs h).0

  alone_rest : (r : Row) (rs : List Row) → alone (r ∷ rs) ≡ false → alone rs ≡ false
  alone_rest r rs h = (pairs_parts (λ x q. p x && p q) r rs h).1

  pub any_at : (d : Row) (rs : List Row) (j : ℕ) → j < length rs → p (get_or rs j d) ≡ true → any p rs ≡ true
  any_at d [] j h e = absurd (omega arith)
  any_at d (r ∷ rs) zero h e = any_hit p r rs e
  any_at d (r ∷ rs) (suc j) h e = any_later p r rs (any_at d rs j (omega arith) e)

  pub back_at : (d : Row) (rs : List Row) (j : ℕ) → alone rs ≡ false → j < length rs → p (get_or rs j d) ≡ true → back_of rs ≡ length rs - j
  back_at d [] j a h e = absurd (omega arith)
  back_at d (r ∷ rs) zero a h e = back_in r rs e ∙ omega arith
  back_at d (r ∷ rs) (suc j) a h e =
      back_out r rs (never (p r) (λ g. apart_at_lem g)) ∙ back_at d rs j (alone_rest r rs a) (omega arith) e ∙ omega arith
    where
      apart_at_lem : p r ≡ true → ⊥
      apart_at_lem g = torn (any p rs) (any_at d rs j (omega arith) e) (alone_in r rs a g)

  pub front_at : (from : ℕ) (d : Row) (rs : List Row) (j : ℕ) → alone rs ≡ false → j < length rs → p (get_or rs j d) ≡ true → front_of from rs ≡ from + j
  front_at from d [] j a h e = absurd (omega arith)
  front_at from d (r ∷ rs) zero a h e = front_in from r rs e ∙ omega arith
  front_at from d (r ∷ rs) (suc j) a h e =
      front_out from r rs (never (p r) (λ g. apart_at_lem g)) ∙ front_at (suc from) d rs j (alone_rest r rs a) (omega arith) e ∙ omega arith
    where
      apart_at_lem : p r ≡ true → ⊥
      apart_at_lem g = torn (any p rs) (any_at d rs j (omega arith) e) (alone_in r rs a g)

-- TWO TESTS that tell one row
module _ (p q : Row → Bool) where
  pub back_both : (rs : List Row) → any p rs ≡ true → back_of p rs ≡ back_of q rs → any (λ r. p r && q r) rs ≡ true
  back_both [] h e = torn (any p []) h (any_nil p)
  back_both (r ∷ rs) h e = go (p r) (q r) refl refl (back_both rs)
    where
      go : (t u : Bool) → p r ≡ t → q r ≡ u → (any p rs ≡ true → back_of p rs ≡ back_of q rs → any (λ x. p x && q x) rs ≡ true) → any (λ x. p x && q x) (r ∷ rs) ≡ true
      go true true f g ih = any_hit (λ x. p x && q x) r rs (and_both (p r) (q r) f g)
      go true false f g ih = absurd (far (any q rs) refl)
        where
          far : (t : Bool) → any q rs ≡ t → ⊥
          far true a = omega (arith, back_in p r rs f, e, back_out q r rs g, (back_some q rs a).1)
          far false a = omega (arith, back_in p r rs f, e, back_out q r rs g, back_none q rs a)
      go false true f g ih = absurd (omega (arith, back_out p r rs f, e, back_in q r rs g, (back_some p rs (sym (any_miss p r rs f) ∙ h)).1))
      go false false f g ih =
          any_later (λ x. p x && q x) r rs (ih (sym (any_miss p r rs f) ∙ h) (sym (back_out p r rs f) ∙ e ∙ back_out q r rs g))

  pub front_both : (from : ℕ) (rs : List Row) → 1 ≤ from → any p rs ≡ true → front_of p from rs ≡ front_of q from rs → any (λ r. p r && q r) rs ≡ true
  front_both from [] o h e = torn (any p []) h (any_nil p)
  front_both from (r ∷ rs) o h e = go (p r) (q r) refl refl (front_both (suc from) rs (omega arith))
    where
      far : any q rs ≡ true → suc from ≤ front_of q (suc from) rs
      far a = (front_some q (suc from) rs a).0

      go : (t u : Bool) → p r ≡ t → q r ≡ u → (any p rs ≡ true → front_of p (suc from) rs ≡ front_of q (suc from) rs → any (λ x. p x && q x) rs ≡ true)
          → any (λ x. p x && q x) (r ∷ rs) ≡ true
      go true true f g ih = any_hit (λ x. p x && q x) r rs (and_both (p r) (q r) f g)
      go true false f g ih = absurd (out (any q rs) refl)
        where
          out : (t : Bool) → any q rs ≡ t → ⊥
          out true a = omega (arith, front_in p from r rs f, e, front_out q from r rs g, (front_some q (suc from) rs a).0)
          out false a = omega (arith, front_in p from r rs f, e, front_out q from r rs g, front_none q (suc from) rs a)
      go false true f g ih = absurd (omega (arith, front_out p from r rs f, e, front_in q from r rs g, (front_some p (suc from) rs (sym (any_miss p r rs f) ∙ h)).0))
      go false false f g ih =
          any_later (λ x. p x && q x) r rs (ih (sym (any_miss p r rs f) ∙ h) (sym (front_out p from r rs f) ∙ e ∙ front_out q from r rs g))

  pub any_left : (rs : List Row) → any (λ r. p r && q r) rs ≡ true → any p rs ≡ true
  any_left [] h = torn (any (λ r. p r && q r) []) h (any_nil (λ r. p r && q r))
  any_left (x ∷ xs) h = go (p x) refl (any_left xs)
    where
      go : (t : Bool) → p x ≡ t → (any (λ r. p r && q r) xs ≡ true → any p xs ≡ true) → any p (x ∷ xs) ≡ true
      go true e ih = any_hit p x xs e
      go false e ih = any_later p x xs (ih (sym (any_miss (λ r. p r && q r) x xs (and_left_false (p x) (q x) e)) ∙ h))

  pub any_right : (rs : List Row) → any (λ r. p r && q r) rs ≡ true → any q rs ≡ true
  any_right [] h = torn (any (λ r. p r && q r) []) h (any_nil (λ r. p r && q r))
  any_right (x ∷ xs) h = go (q x) refl (any_right xs)
    where
      go : (t : Bool) → q x ≡ t → (any (λ r. p r && q r) xs ≡ true → any q xs ≡ true) → any q (x ∷ xs) ≡ true
      go true e ih = any_hit q x xs e
      go false e ih = any_later q x xs (ih (sym (any_miss (λ r. p r && q r) x xs (and_right_false (p x) (q x) e)) ∙ h))

  pub back_same : (rs : List Row) → alone p rs ≡ false → alone q rs ≡ false → any (λ r. p r && q r) rs ≡ true → back_of p rs ≡ back_of q rs
  back_same [] a b h = back_nil p ∙ sym (back_nil q)
  back_same (r ∷ rs) a b h = go (p r) (q r) refl refl (back_same rs (alone_rest p r rs a) (alone_rest q r rs b))
    where
      go : (t u : Bool) → p r ≡ t → q r ≡ u → (any (λ x. p x && q x) rs ≡ true → back_of p rs ≡ back_of q rs) → back_of p (r ∷ rs) ≡ back_of q (r ∷ rs)
      go true true f g ih = back_in p r rs f ∙ sym (back_in q r rs g)
      go true false f g ih = torn (any p rs) (any_left rs (sym (any_miss (λ x. p x && q x) r rs (and_right_false (p r) (q r) g)) ∙ h)) (alone_in p r rs a f)
      go false true f g ih = torn (any q rs) (any_right rs (sym (any_miss (λ x. p x && q x) r rs (and_left_false (p r) (q r) f)) ∙ h)) (alone_in q r rs b g)
      go false false f g ih =
          back_out p r rs f ∙ ih (sym (any_miss (λ x. p x && q x) r rs (and_left_false (p r) (q r) f)) ∙ h) ∙ sym (back_out q r rs g)

  pub front_same : (from : ℕ) (rs : List Row) → alone p rs ≡ false → alone q rs ≡ false → any (λ r. p r && q r) rs ≡ true → front_of p from rs ≡ front_of q from rs
  front_same from [] a b h = front_nil p from ∙ sym (front_nil q from)
  front_same from (r ∷ rs) a b h = go (p r) (q r) refl refl (front_same (suc from) rs (alone_rest p r rs a) (alone_rest q r rs b))
    where
      go : (t u : Bool) → p r ≡ t → q r ≡ u → (any (λ x. p x && q x) rs ≡ true → front_of p (suc from) rs ≡ front_of q (suc from) rs) → front_of p from (r ∷ rs) ≡ front_of q from (r ∷ rs)
      go true true f g ih = front_in p from r rs f ∙ sym (front_in q from r rs g)
      go true false f g ih = torn (any p rs) (any_left rs (sym (any_miss (λ x. p x && q x) r rs (and_right_false (p r) (q r) g)) ∙ h)) (alone_in p r rs a f)
      go false true f g ih = torn (any q rs) (any_right rs (sym (any_miss (λ x. p x && q x) r rs (and_left_false (p r) (q r) f)) ∙ h)) (alone_in q r rs b g)
      go false false f g ih =
          front_out p from r rs f ∙ ih (sym (any_miss (λ x. p x && q x) r rs (and_left_false (p r) (q r) f)) ∙ h) ∙ sym (front_out q from r rs g)

pub get_d_front : (xs ys : List ℕ) (i : ℕ) → i < length xs → get_or (xs ++ ys) i 0 ≡ get_or xs i 0
get_d_front xs ys i h = sym (get_or-take (length xs) (xs ++ ys) i 0 h) ∙ ap (λ (l : List ℕ). get_or l i 0) (take-append_seam xs ys)

-- THE VALUES, as the rows came
pub arrived_length : (rs : List Row) → length (arrived rs) ≡ length rs
unfolding arrived
arrived_length [] = refl
arrived_length (r ∷ rs) = length-append (arrived rs) (coded r.value ∷ []) ∙ omega (arith, arrived_length rs)

pub arrived_more : (r : Row) (rs : List Row) → arrived (r ∷ rs) ≡ arrived rs ++ (coded r.value ∷ [])
unfolding arrived
arrived_more r rs = refl

-- THE VALUE of the row that a test tells
abbrev pub code_of : Row → ℕ
code_of r = coded r.value

module _ (p : Row → Bool) where
  pub back_value : (rs : List Row) → any p rs ≡ true → any (λ r. p r && eqb (code_of r) (get_or (arrived rs) (back_of p rs - 1) 0)) rs ≡ true
  back_value [] h = torn (any p []) h (any_nil p)
  back_value (r ∷ rs) h = go (p r) refl (back_value rs)
    where
      last : get_or (arrived rs ++ (code_of r ∷ [])) (length rs) 0 ≡ code_of r
      last = get_or_at (arrived rs) (code_of r) [] 0 (length rs) (arrived_length rs)

      front : (i : ℕ) → i < length rs → get_or (arrived rs ++ (code_of r ∷ [])) i 0 ≡ get_or (arrived rs) i 0
      front i g = get_d_front (arrived rs) (code_of r ∷ []) i (omega (arith, arrived_length rs))

      here : p r ≡ true → get_or (arrived (r ∷ rs)) (back_of p (r ∷ rs) - 1) 0 ≡ code_of r
      here e =
          let k : back_of p (r ∷ rs) - 1 ≡ length rs = omega (arith, back_in p r rs e) in
          ap (λ (l : List ℕ). get_or l (back_of p (r ∷ rs) - 1) 0) (arrived_more r rs) ∙ ap (λ (i : ℕ). get_or (arrived rs ++ (code_of r ∷ [])) i 0) k ∙ last

      there : p r ≡ false → any p rs ≡ true → get_or (arrived (r ∷ rs)) (back_of p (r ∷ rs) - 1) 0 ≡ get_or (arrived rs) (back_of p rs - 1) 0
      there e a =
          let k : back_of p (r ∷ rs) - 1 ≡ back_of p rs - 1 = omega (arith, back_out p r rs e) in
          ap (λ (l : List ℕ). get_or l (back_of p (r ∷ rs) - 1) 0) (arrived_more r rs) ∙ ap (λ (i : ℕ). get_or (arrived rs ++ (code_of r ∷ [])) i 0) k
          ∙ front (back_of p rs - 1) (omega (arith, (back_some p rs a).0, (back_some p rs a).1))

      go : (t : Bool) → p r ≡ t → (any p rs ≡ true → any (λ x. p x && eqb (code_of x) (get_or (arrived rs) (back_of p rs - 1) 0)) rs ≡ true)
          → any (λ x. p x && eqb (code_of x) (get_or (arrived (r ∷ rs)) (back_of p (r ∷ rs) - 1) 0)) (r ∷ rs) ≡ true
      go true e ih =
          any_hit (λ x. p x && eqb (code_of x) (get_or (arrived (r ∷ rs)) (back_of p (r ∷ rs) - 1) 0)) r rs
          (and_both (p r) (eqb (code_of r) (get_or (arrived (r ∷ rs)) (back_of p (r ∷ rs) - 1) 0)) e (ap (eqb (code_of r)) (here e) ∙ eqb_same (code_of r)))
      go false e ih =
          let a : any p rs ≡ true = sym (any_miss p r rs e) ∙ h in
          any_later (λ x. p x && eqb (code_of x) (get_or (arrived (r ∷ rs)) (back_of p (r ∷ rs) - 1) 0)) r rs
          (any_same (λ x. p x && eqb (code_of x) (get_or (arrived (r ∷ rs)) (back_of p (r ∷ rs) - 1) 0)) (λ x. p x && eqb (code_of x) (get_or (arrived rs) (back_of p rs - 1) 0))
          (λ x. ap (λ (v : ℕ). p x && eqb (code_of x) v) (there e a)) rs ∙ ih a)

  pub front_value : (from v : ℕ) (rs : List Row) → alone p rs ≡ false → any (λ r. p r && eqb (code_of r) v) rs ≡ true → get_or (map code_of rs) (front_of p from rs - from) 0 ≡ v
  front_value from v [] a h = torn (any (λ r. p r && eqb (code_of r) v) []) h (any_nil (λ r. p r && eqb (code_of r) v))
  front_value from v (r ∷ rs) a h = go (p r) refl (front_value (suc from) v rs (alone_rest p r rs a))
    where
      go : (t : Bool) → p r ≡ t → (any (λ x. p x && eqb (code_of x) v) rs ≡ true → get_or (map code_of rs) (front_of p (suc from) rs - suc from) 0 ≡ v)
          → get_or (code_of r ∷ map code_of rs) (front_of p from (r ∷ rs) - from) 0 ≡ v
      go true e ih =
          let k : front_of p from (r ∷ rs) - from ≡ 0 = omega (arith, front_in p from r rs e) in
          ap (λ (i : ℕ). get_or (code_of r ∷ map code_of rs) i 0) k ∙ eqb-true (code_of r) v (value (eqb (code_of r) v) refl)
        where
          value : (t : Bool) → eqb (code_of r) v ≡ t → eqb (code_of r) v ≡ true
          value true f = f
          value false f =
              torn (any p rs) (any_left p (λ x. eqb (code_of x) v) rs (sym (any_miss (λ x. p x && eqb (code_of x) v) r rs (and_right_false (p r) (eqb (code_of r) v) f)) ∙ h)) (alone_in p r rs a e)
      go false e ih =
          let b : any (λ x. p x && eqb (code_of x) v) rs ≡ true = sym (any_miss (λ x. p x && eqb (code_of x) v) r rs (and_left_false (p r) (eqb (code_of r) v) e)) ∙ h in
          let k : front_of p from (r ∷ rs) - from ≡ suc (front_of p (suc from) rs - suc from)
          = omega (arith, front_out p from r rs e, (front_some p (suc from) rs (any_left p (λ x. eqb (code_of x) v) rs b)).0) in
          ap (λ (i : ℕ). get_or (code_of r ∷ map code_of rs) i 0) k ∙ ih b

-- WHAT TELLS A ROW OF THE LIST
pub member_back : (n : ℕ) (rs : List Row) → member_of n rs ≡ back_of (has n) rs
unfolding member_of back_of
member_back n [] = refl
member_back n (r ∷ rs) = ap (λ (k : ℕ). elim (has n r) [ true ↦ suc (length rs) | false ↦ k ]) (member_back n rs)

pub void_back : (rs : List Row) → void_of rs ≡ back_of void rs
unfolding void_of back_of
void_back [] = refl
void_back (r ∷ rs) = ap (λ (k : ℕ). elim (void r) [ true ↦ suc (length rs) | false ↦ k ]) (void_back rs)

pub with_front : (from n : ℕ) (rs : List Row) → row_with from n rs ≡ front_of (has n) from rs
unfolding row_with front_of
with_front from n [] = refl
with_front from n (r ∷ rs) = ap (λ (k : ℕ). elim (has n r) [ true ↦ from | false ↦ k ]) (with_front (suc from) n rs)
