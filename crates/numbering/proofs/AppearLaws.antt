-- Charge or radical rows in order, looked at atom by atom: the rows appear in their order, each at its lowest atom, and the row without atoms is the last. "Charge and
-- radical rows ascend by lowest atom, the row without atoms last" (document 01, "The structure table"). Assumes nothing.
use Prim.Native.Nat.{ℕ, suc, ◌+◌, ◌≤◌, ◌<◌}
use mathlib.Core.Path.{◌≡◌, refl, sym, ap, ◌∙◌}
use mathlib.Core.Bool.{Bool, true, false, ◌&&◌}
use mathlib.Core.Logic.{◌⊎◌, inl, inr}
use Rattle.std.specs.declared.option.Option.{Option}
use Rattle.std.specs.declared.option.Option.TheVariants.{None, Some}
use mathlib.Core.List.{List, [], ◌∷◌}
use native.Mathlib.Omega.{arith}
use lib.ListN.{length}
use lib.Dec.{eqb, ltb}
use borrow.Author.Tests.{eqb-true, ltb-true}
use Rattle.lists.specs.Lists.{is_nil, all, any, pairs}
use Rattle.lists.specs.Order.{ascends}
use Rattle.lists.proofs.Bools.{torn, never, and_parts, or_right, eqb_same}
use Rattle.lists.proofs.ListLaws.{nil_is, all_parts, any_nil, any_hit, any_miss, any_parts, any_later}
use Rattle.lists.proofs.PairLaws.{pairs_parts, pairs_within}
use Rattle.lists.proofs.LexLaws.{ltb_strict}
use Rattle.lists.proofs.SortLaws.{ascends_first, ascends_parts}
use Rattle.format.specs.Bytes.{is_in}
use Rattle.format.specs.Rows.{Row}
use Rattle.format.specs.Structure.{meets, overlap, atoms_before, row_before}
use Rattle.format.proofs.OrderLaws.{row_strict, overlap_order, overlap_self}
use Rattle.spread.specs.Members.{list_of}
use Rattle.spread.proofs.SpreadLaws.{meets_spread}
use Rattle.spread.proofs.PlaceLaws.{has, void, tells, front_of, front_in, front_out, front_none, front_some, alone, alone_in}

-- A MEMBER OF A LIST passes a test: one does, and each that all do
pub any_member : (p : ℕ → Bool) (n : ℕ) (ns : List ℕ) → is_in n ns ≡ true → p n ≡ true → any p ns ≡ true
any_member p n [] h e = torn (any (eqb n) []) h (any_nil (eqb n))
any_member p n (m ∷ ms) h e = go (eqb n m) refl (any_member p n ms)
  where
    go : (t : Bool) → eqb n m ≡ t → (is_in n ms ≡ true → p n ≡ true → any p ms ≡ true) → any p (m ∷ ms) ≡ true
    go true f ih = any_hit p m ms (ap p (sym (eqb-true n m f)) ∙ e)
    go false f ih = any_later p m ms (ih (sym (any_miss (eqb n) m ms f) ∙ h) e)

pub all_member : (p : ℕ → Bool) (n : ℕ) (ns : List ℕ) → is_in n ns ≡ true → all p ns ≡ true → p n ≡ true
all_member p n [] h a = torn (any (eqb n) []) h (any_nil (eqb n))
all_member p n (m ∷ ms) h a = go (eqb n m) refl (all_member p n ms)
  where
    go : (t : Bool) → eqb n m ≡ t → (is_in n ms ≡ true → all p ms ≡ true → p n ≡ true) → p n ≡ true
    go true f ih = ap p (eqb-true n m f) ∙ (all_parts p m ms a).0
    go false f ih = ih (sym (any_miss (eqb n) m ms f) ∙ h) (all_parts p m ms a).1

-- WHAT TELLS A ROW tells one alone, where no two rows meet
overlap_common : (n : ℕ) (ns ms : List ℕ) → is_in n ns ≡ true → is_in n ms ≡ true → overlap ns ms ≡ true
unfolding overlap
overlap_common n ns ms h g = or_right (is_nil ns && is_nil ms) (any (λ m. is_in m ms) ns) (any_member (λ m. is_in m ms) n ns h g)

overlap_voids : (ns ms : List ℕ) → is_nil ns ≡ true → is_nil ms ≡ true → overlap ns ms ≡ true
overlap_voids ns ms h g = ap (λ (l : List ℕ). overlap l ms) (nil_is ns h ∙ sym (nil_is ms g)) ∙ overlap_self ms

tells_meet : (s : Bool) (p : Option ℕ) (r q : Row) → tells p r ≡ true → tells p q ≡ true → meets (list_of s) r q ≡ true
tells_meet s None r q h g = meets_spread s r q ∙ overlap_voids r.atoms q.atoms h g
tells_meet s (Some n) r q h g = meets_spread s r q ∙ overlap_common n r.atoms q.atoms h g

pub tells_alone : (s : Bool) (p : Option ℕ) (rs : List Row) → pairs (meets (list_of s)) rs ≡ false → alone (tells p) rs ≡ false
tells_alone s p rs h = pairs_within (meets (list_of s)) (λ r q. tells p r && tells p q) each rs h
  where
    each : (r q : Row) → meets (list_of s) r q ≡ false → (tells p r && tells p q) ≡ false
    each r q e = never (tells p r && tells p q) (λ b. torn (meets (list_of s) r q) (tells_meet s p r q (and_parts (tells p r) (tells p q) b).0 (and_parts (tells p r) (tells p q) b).1) e)

-- A ROW BEFORE ANOTHER has an atom below each of the other's
pub record Earlier (r : Row) (m : ℕ) : Type 0 where
  pub atom : ℕ
  pub mine : has atom r ≡ true
  pub less : atom < m

lowest : (m n : ℕ) (ns : List ℕ) → ascends ltb (n ∷ ns) ≡ true → is_in m (n ∷ ns) ≡ true → n ≤ m
lowest m n ns a h = go (eqb m n) refl
  where
    go : (t : Bool) → eqb m n ≡ t → n ≤ m
    go true e = omega (arith, eqb-true m n e)
    go false e = omega (arith, ltb-true n m (all_member (ltb n) m ns (sym (any_miss (eqb m) n ns e) ∙ h) (ascends_first ltb ltb_strict n ns a)))

pub earlier : (s : Bool) (r q : Row) (m : ℕ) → row_before r q ≡ true → meets (list_of s) r q ≡ false → ascends ltb q.atoms ≡ true → has m q ≡ true → Earlier r m
earlier s r q m b e a h = go r.atoms q.atoms refl b (sym (meets_spread s r q) ∙ e) a h
  where
    go : (ns ms : List ℕ) → r.atoms ≡ ns → atoms_before ns ms ≡ true → overlap ns ms ≡ false → ascends ltb ms ≡ true → is_in m ms ≡ true → Earlier r m
    go [] ms f u v w x = torn false u refl
    go (n ∷ ns) [] f u v w x = torn (any (eqb m) []) x (any_nil (eqb m))
    go (n ∷ ns) (k ∷ ms) f u v w x = record {
      atom = n;
      mine = ap (is_in n) f ∙ any_hit (eqb n) n ns (eqb_same n);
      less = omega (arith, ltb-true n k (sym (overlap_order n k ns ms v) ∙ u), lowest m k ms w x);
    }

abbrev pub rising : Row → Bool
rising r = ascends ltb r.atoms

pub earlier_rows : (s : Bool) (r : Row) (m : ℕ) (rs : List Row) → all (row_before r) rs ≡ true → any (meets (list_of s) r) rs ≡ false → all rising rs ≡ true → any (has m) rs ≡ true → Earlier r m
earlier_rows s r m [] b e a h = torn (any (has m) []) h (any_nil (has m))
earlier_rows s r m (q ∷ rs) b e a h =
    let b' : (row_before r q ≡ true) × (all (row_before r) rs ≡ true) = all_parts (row_before r) q rs b in
    let e' : (meets (list_of s) r q ≡ false) × (any (meets (list_of s) r) rs ≡ false) = any_parts (meets (list_of s) r) q rs e in
    let a' : (rising q ≡ true) × (all rising rs ≡ true) = all_parts rising q rs a in
    go (has m q) refl b'.0 e'.0 a'.0 (earlier_rows s r m rs b'.1 e'.1 a'.1)
  where
    go : (t : Bool) → has m q ≡ t → row_before r q ≡ true → meets (list_of s) r q ≡ false → rising q ≡ true → (any (has m) rs ≡ true → Earlier r m) → Earlier r m
    go true f u v w ih = earlier s r q m u v w f
    go false f u v w ih = ih (sym (any_miss (has m) q rs f) ∙ h)

-- ROWS IN ORDER
pub record InOrder (s : Bool) (rs : List Row) : Type 0 where
  pub ascend : ascends row_before rs ≡ true
  pub unmet : pairs (meets (list_of s)) rs ≡ false
  pub rise : all rising rs ≡ true

pub order_rest : (s : Bool) (r : Row) (rs : List Row) → InOrder s (r ∷ rs) → InOrder s rs
order_rest s r rs h = record { ascend = (ascends_parts row_before r rs h.ascend).1; unmet = (pairs_parts (meets (list_of s)) r rs h.unmet).1; rise = (all_parts rising r rs h.rise).1 }

-- the row that an atom not met before stands in: its number is the next one
pub record Appears (from : ℕ) (rs : List Row) (n : ℕ) : Type 0 where
  pub above : (m : ℕ) → m < n → front_of (has m) from rs < front_of (has n) from rs
  pub tight : (front_of (has n) from rs ≡ from) ⊎ ((m : ℕ) × (m < n) × (suc (front_of (has m) from rs) ≡ front_of (has n) from rs))

abbrev pub Unmet : (from : ℕ) (rs : List Row) (n : ℕ) → Type 0
Unmet from rs n = (m : ℕ) → m < n → front_of (has m) from rs ≡ front_of (has n) from rs → ⊥

module _ (s : Bool) (from : ℕ) (r : Row) (rs : List Row) (h : InOrder s (r ∷ rs)) (n : ℕ) (one : 1 ≤ from) where
  out : (m : ℕ) → has m r ≡ true → any (has m) rs ≡ false
  out m e = alone_in (has m) r rs (tells_alone s (Some m) (r ∷ rs) h.unmet) e

  before : (m : ℕ) → any (has m) rs ≡ true → Earlier r m
  before m e = earlier_rows s r m rs (ascends_first row_before row_strict r rs h.ascend) (pairs_parts (meets (list_of s)) r rs h.unmet).0 (all_parts rising r rs h.rise).1 e

  -- an atom of the first row
  module _ (mine : has n r ≡ true) (new : Unmet from (r ∷ rs) n) where
    no_earlier : (a : ℕ) → has a r ≡ true → a < n → ⊥
    no_earlier a e l = new a l (front_in (has a) from r rs e ∙ sym (front_in (has n) from r rs mine))

    appears_first : Appears from (r ∷ rs) n
    appears_first = record { above = up; tight = inl (front_in (has n) from r rs mine) }
      where
        later : (m : ℕ) → m < n → has m r ≡ false → (t : Bool) → any (has m) rs ≡ t → front_of (has m) from (r ∷ rs) < front_of (has n) from (r ∷ rs)
        later m l e true f = let a = before m f in absurd (no_earlier a.atom a.mine (omega (arith, a.less)))
        later m l e false f = omega (arith, front_none (has m) from (r ∷ rs) (any_miss (has m) r rs e ∙ f), front_in (has n) from r rs mine)

        go : (m : ℕ) → m < n → (t : Bool) → has m r ≡ t → front_of (has m) from (r ∷ rs) < front_of (has n) from (r ∷ rs)
        go m l true e = absurd (no_earlier m e l)
        go m l false e = later m l e (any (has m) rs) refl

        up : (m : ℕ) → m < n → front_of (has m) from (r ∷ rs) < front_of (has n) from (r ∷ rs)
        up m l = go m l (has m r) refl

  -- and of a later one
  module _ (other : has n r ≡ false) (there : any (has n) rs ≡ true) (new : Unmet from (r ∷ rs) n) where
    high : suc from ≤ front_of (has n) (suc from) rs
    high = (front_some (has n) (suc from) rs there).0

    is : front_of (has n) from (r ∷ rs) ≡ front_of (has n) (suc from) rs
    is = front_out (has n) from r rs other

    new_rest : Unmet (suc from) rs n
    new_rest m l e = go (has m r) refl
      where
        go : (t : Bool) → has m r ≡ t → ⊥
        go true f = omega (arith, front_none (has m) (suc from) rs (out m f), e, high)
        go false f = new m l (front_out (has m) from r rs f ∙ e ∙ sym is)

    appears_later : Appears (suc from) rs n → Appears from (r ∷ rs) n
    appears_later ih = record { above = λ m l. up m l (has m r) refl; tight = close ih.tight }
      where
        up : (m : ℕ) → m < n → (t : Bool) → has m r ≡ t → front_of (has m) from (r ∷ rs) < front_of (has n) from (r ∷ rs)
        up m l true e = omega (arith, front_in (has m) from r rs e, is, high)
        up m l false e = omega (arith, front_out (has m) from r rs e, is, ih.above m l)

        near : (m : ℕ) → m < n → suc (front_of (has m) (suc from) rs) ≡ front_of (has n) (suc from) rs → (t : Bool) → has m r ≡ t
            → (front_of (has n) from (r ∷ rs) ≡ from) ⊎ ((k : ℕ) × (k < n) × (suc (front_of (has k) from (r ∷ rs)) ≡ front_of (has n) from (r ∷ rs)))
        near m l e true f = absurd (omega (arith, front_none (has m) (suc from) rs (out m f), e, high))
        near m l e false f = inr (m, l, ap suc (front_out (has m) from r rs f) ∙ e ∙ sym is)

        close : (front_of (has n) (suc from) rs ≡ suc from) ⊎ ((m : ℕ) × (m < n) × (suc (front_of (has m) (suc from) rs) ≡ front_of (has n) (suc from) rs))
            → (front_of (has n) from (r ∷ rs) ≡ from) ⊎ ((m : ℕ) × (m < n) × (suc (front_of (has m) from (r ∷ rs)) ≡ front_of (has n) from (r ∷ rs)))
        close (inl e) = let a = before n there in inr (a.atom, a.less, ap suc (front_in (has a.atom) from r rs a.mine) ∙ sym e ∙ sym is)
        close (inr x) = near x.0 x.1 x.2 (has x.0 r) refl

pub appears : (s : Bool) (from : ℕ) (rs : List Row) → 1 ≤ from → InOrder s rs → (n : ℕ) → any (has n) rs ≡ true → Unmet from rs n → Appears from rs n
appears s from [] one h n e new = torn (any (has n) []) e (any_nil (has n))
appears s from (r ∷ rs) one h n e new = go (has n r) refl (appears s (suc from) rs (omega arith) (order_rest s r rs h) n)
  where
    go : (t : Bool) → has n r ≡ t → (any (has n) rs ≡ true → Unmet (suc from) rs n → Appears (suc from) rs n) → Appears from (r ∷ rs) n
    go true f ih = appears_first s from r rs h n one f new
    go false f ih =
        let a : any (has n) rs ≡ true = sym (any_miss (has n) r rs f) ∙ e in
        appears_later s from r rs h n one f a new (ih a (new_rest s from r rs h n one f a new))

-- THE ROW WITHOUT ATOMS is the last
pub void_last : (s : Bool) (from : ℕ) (rs : List Row) → InOrder s rs → any void rs ≡ true → suc (front_of void from rs) ≡ from + length rs
void_last s from [] h e = torn (any void []) e (any_nil void)
void_last s from (r ∷ rs) h e = go (void r) refl (void_last s (suc from) rs (order_rest s r rs h))
  where
    no_more : (xs : List Row) → void r ≡ true → all (row_before r) xs ≡ true → length xs ≡ 0
    no_more [] f a = refl
    no_more (x ∷ xs) f a = torn (row_before r x) (all_parts (row_before r) x xs a).0 (ap (λ (ns : List ℕ). atoms_before ns x.atoms) (nil_is r.atoms f))

    go : (t : Bool) → void r ≡ t → (any void rs ≡ true → suc (front_of void (suc from) rs) ≡ suc from + length rs) → suc (front_of void from (r ∷ rs)) ≡ from + suc (length rs)
    go true f ih = omega (arith, front_in void from r rs f, no_more rs f (ascends_first row_before row_strict r rs h.ascend))
    go false f ih = omega (arith, front_out void from r rs f, ih (sym (any_miss void r rs f) ∙ e))
