-- Totals: two lists of entries agree if and only if every element and mass has the same total in both, though only those that stand there are compared; neither
-- order nor gathering changes a total. Serves document 01: "for every element and mass, the formula's total .. equals the atoms listed". Assumes nothing.
use Prim.Native.Nat.{ℕ, zero, suc, ◌+◌, ◌<◌}
use mathlib.Core.Path.{◌≡◌, refl, sym, ap, ◌∙◌}
use mathlib.Core.Bool.{Bool, true, false, ◌||◌}
use mathlib.Core.List.{List, [], ◌∷◌, ◌++◌, map}
use native.Mathlib.Omega.{arith}
use lib.Dec.{eqb, ltb}
use borrow.Author.Tests.{eq-eqb, eqb-true, ltb-true, lt-ltb}
use Rattle.lists.specs.Lists.{share, all, any, pairs}
use Rattle.lists.specs.Order.{Perm, empty, keeping, swapped, chained, sort}
use Rattle.lists.proofs.Bools.{torn, and_parts, eqb_same, eqb_symm}
use Rattle.lists.proofs.ListLaws.{all_nil, all_parts, all_both, any_nil, any_cons, any_hit, any_miss, any_parts, any_same}
use Rattle.lists.proofs.PairLaws.{pairs_nil, pairs_parts, pairs_neither}
use Rattle.lists.proofs.SortLaws.{any_perm, pairs_perm, sort_perm}
use Rattle.format.specs.Structure.{Isotope, isotope_of, Atom, Entry, entry, entries_of, same_isotope, total, kinds, agree}

-- AN ISOTOPE is its element and mass
pub isotope_is : (i j : Isotope) → same_isotope i j ≡ true → i ≡ j
unfolding same_isotope
isotope_is i j h =
    let p : (eqb i.element j.element ≡ true) × (eqb i.mass j.mass ≡ true) = and_parts (eqb i.element j.element) (eqb i.mass j.mass) h in
    ap (λ (e : ℕ). isotope_of e i.mass) (eqb-true i.element j.element p.0) ∙ ap (isotope_of j.element) (eqb-true i.mass j.mass p.1)

pub isotope_refl : (i : Isotope) → same_isotope i i ≡ true
unfolding same_isotope
isotope_refl i = rw (eqb_same i.element, eqb_same i.mass)

pub isotope_same : (i j : Isotope) → i ≡ j → same_isotope i j ≡ true
isotope_same i j e = ap (same_isotope i) (sym e) ∙ isotope_refl i

pub isotope_symm : (i j : Isotope) → same_isotope i j ≡ same_isotope j i
unfolding same_isotope
isotope_symm i j = rw (eqb_symm i.element j.element, eqb_symm i.mass j.mass)

pub isotope_trans : (i j k : Isotope) → same_isotope i j ≡ true → same_isotope i k ≡ same_isotope j k
isotope_trans i j k h = ap (λ (x : Isotope). same_isotope x k) (isotope_is i j h)

-- TOTALS, clause by clause
module _ (i : Isotope) where
  pub total_nil : total i [] ≡ 0
  unfolding total
  total_nil = refl

  pub total_hit : (e : Entry) (es : List Entry) → same_isotope i e.kind ≡ true → total i (e ∷ es) ≡ e.count + total i es
  unfolding total
  total_hit e es h = rw (h, total)

  pub total_miss : (e : Entry) (es : List Entry) → same_isotope i e.kind ≡ false → total i (e ∷ es) ≡ total i es
  unfolding total
  total_miss e es h = rw (h, total)

-- what an entry adds to a total
pub total_cons : (i : Isotope) (e : Entry) (es : List Entry) → total i (e ∷ es) ≡ share (same_isotope i e.kind) e.count + total i es
total_cons i e es = go (same_isotope i e.kind) refl
  where
    go : (t : Bool) → same_isotope i e.kind ≡ t → total i (e ∷ es) ≡ share (same_isotope i e.kind) e.count + total i es
    go true h = total_hit i e es h ∙ ap (λ (t : Bool). share t e.count + total i es) (sym h)
    go false h = total_miss i e es h ∙ omega (arith, ap (λ (t : Bool). share t e.count) h)

pub total_append : (i : Isotope) (es fs : List Entry) → total i (es ++ fs) ≡ total i es + total i fs
total_append i [] fs = omega (arith, total_nil i)
total_append i (e ∷ es) fs = omega (arith, total_cons i e (es ++ fs), total_cons i e es, total_append i es fs)

pub total_perm : (i : Isotope) {es fs : List Entry} → Perm es fs → total i es ≡ total i fs
total_perm i empty = refl
total_perm i (keeping {xs = xs} {ys = ys} e h) = omega (arith, total_cons i e xs, total_cons i e ys, total_perm i h)
total_perm i (swapped e f es) = omega (arith, total_cons i e (f ∷ es), total_cons i f es, total_cons i f (e ∷ es), total_cons i e es)
total_perm i (chained h k) = total_perm i h ∙ total_perm i k

-- KINDS: each that stands there, once
pub kinds_nil : kinds [] ≡ []
unfolding kinds
kinds_nil = refl

module _ (e : Entry) (es : List Entry) where
  pub kinds_again : any (same_isotope e.kind) (kinds es) ≡ true → kinds (e ∷ es) ≡ kinds es
  unfolding kinds
  kinds_again h = rw (h, kinds)

  pub kinds_new : any (same_isotope e.kind) (kinds es) ≡ false → kinds (e ∷ es) ≡ e.kind ∷ kinds es
  unfolding kinds
  kinds_new h = rw (h, kinds)

pub kinds_once : (es : List Entry) → pairs same_isotope (kinds es) ≡ false
kinds_once [] = ap (pairs same_isotope) kinds_nil ∙ pairs_nil same_isotope
kinds_once (e ∷ es) = go (any (same_isotope e.kind) (kinds es)) refl (kinds_once es)
  where
    go : (t : Bool) → any (same_isotope e.kind) (kinds es) ≡ t → pairs same_isotope (kinds es) ≡ false → pairs same_isotope (kinds (e ∷ es)) ≡ false
    go true h ih = ap (pairs same_isotope) (kinds_again e es h) ∙ ih
    go false h ih = ap (pairs same_isotope) (kinds_new e es h) ∙ pairs_neither same_isotope e.kind (kinds es) h ih

-- an isotope is among the kinds if and only if it is one entry's
pub kinds_any : (i : Isotope) (es : List Entry) → any (same_isotope i) (kinds es) ≡ any (λ (e : Entry). same_isotope i e.kind) es
kinds_any i [] = ap (any (same_isotope i)) kinds_nil ∙ any_nil (same_isotope i) ∙ sym (any_nil (λ (e : Entry). same_isotope i e.kind))
kinds_any i (e ∷ es) = go (any (same_isotope e.kind) (kinds es)) refl (kinds_any i es)
  where
    here : Entry → Bool
    here f = same_isotope i f.kind

    -- a kind that is there already adds nothing
    mid : (t : Bool) → same_isotope i e.kind ≡ t → any (same_isotope e.kind) (kinds es) ≡ true → (same_isotope i e.kind || any (same_isotope i) (kinds es)) ≡ any (same_isotope i) (kinds es)
    mid true q h = ap (λ (t : Bool). t || any (same_isotope i) (kinds es)) q ∙ sym (any_same (same_isotope i) (same_isotope e.kind) (λ k. isotope_trans i e.kind k q) (kinds es) ∙ h)
    mid false q h = ap (λ (t : Bool). t || any (same_isotope i) (kinds es)) q

    go : (t : Bool) → any (same_isotope e.kind) (kinds es) ≡ t → any (same_isotope i) (kinds es) ≡ any here es → any (same_isotope i) (kinds (e ∷ es)) ≡ any here (e ∷ es)
    go true h ih = ap (any (same_isotope i)) (kinds_again e es h) ∙ sym (mid (same_isotope i e.kind) refl h) ∙ ap (λ (t : Bool). same_isotope i e.kind || t) ih ∙ sym (any_cons here e es)
    go false h ih = ap (any (same_isotope i)) (kinds_new e es h) ∙ any_cons (same_isotope i) e.kind (kinds es) ∙ ap (λ (t : Bool). same_isotope i e.kind || t) ih ∙ sym (any_cons here e es)

absent : (i : Isotope) (es : List Entry) → any (λ (e : Entry). same_isotope i e.kind) es ≡ false → total i es ≡ 0
absent i [] h = total_nil i
absent i (e ∷ es) h =
    let p : (same_isotope i e.kind ≡ false) × (any (λ (f : Entry). same_isotope i f.kind) es ≡ false) = any_parts (λ (f : Entry). same_isotope i f.kind) e es h in
    total_miss i e es p.0 ∙ absent i es p.1

-- one that stands nowhere has total 0
pub total_absent : (i : Isotope) (es : List Entry) → any (same_isotope i) (kinds es) ≡ false → total i es ≡ 0
total_absent i es h = absent i es (sym (kinds_any i es) ∙ h)

-- one that stands there has a total of at least 1 where every count is
pub total_some : (i : Isotope) (es : List Entry) → all (λ (e : Entry). ltb 0 e.count) es ≡ true → any (λ (e : Entry). same_isotope i e.kind) es ≡ true → 0 < total i es
total_some i [] h k = torn (any (λ (e : Entry). same_isotope i e.kind) []) k (any_nil (λ (e : Entry). same_isotope i e.kind))
total_some i (e ∷ es) h k = go (same_isotope i e.kind) refl (total_some i es)
  where
    Some : Entry → Bool
    Some f = ltb 0 f.count

    here : Entry → Bool
    here f = same_isotope i f.kind

    go : (t : Bool) → same_isotope i e.kind ≡ t → (all Some es ≡ true → any here es ≡ true → 0 < total i es) → 0 < total i (e ∷ es)
    go true q ih = let n : 0 < e.count = ltb-true 0 e.count (all_parts Some e es h).0 in omega (arith, total_hit i e es q)
    go false q ih = omega (arith, total_miss i e es q, ih (all_parts Some e es h).1 (sym (any_miss here e es q) ∙ k))

-- AGREEING
agree_at : (i : Isotope) (ks : List Isotope) (es fs : List Entry) → all (λ j. eqb (total j es) (total j fs)) ks ≡ true → any (same_isotope i) ks ≡ true → total i es ≡ total i fs
agree_at i [] es fs h k = torn (any (same_isotope i) []) k (any_nil (same_isotope i))
agree_at i (j ∷ ks) es fs h k = go (same_isotope i j) refl (agree_at i ks es fs)
  where
    equal : Isotope → Bool
    equal x = eqb (total x es) (total x fs)

    go : (t : Bool) → same_isotope i j ≡ t → (all equal ks ≡ true → any (same_isotope i) ks ≡ true → total i es ≡ total i fs) → total i es ≡ total i fs
    go true q ih = rw (isotope_is i j q) (eqb-true (total j es) (total j fs) (all_parts equal j ks h).0)
    go false q ih = ih (all_parts equal j ks h).1 (sym (any_miss (same_isotope i) j ks q) ∙ k)

pub agree_every : (es fs : List Entry) → agree es fs ≡ true → (i : Isotope) → total i es ≡ total i fs
unfolding agree
agree_every es fs h i = go (any (same_isotope i) (kinds (es ++ fs))) refl
  where
    go : (t : Bool) → any (same_isotope i) (kinds (es ++ fs)) ≡ t → total i es ≡ total i fs
    go true k = agree_at i (kinds (es ++ fs)) es fs h k
    go false k = omega (arith, total_append i es fs, total_absent i (es ++ fs) k)

every_at : (ks : List Isotope) (es fs : List Entry) → ((i : Isotope) → total i es ≡ total i fs) → all (λ i. eqb (total i es) (total i fs)) ks ≡ true
every_at [] es fs h = all_nil (λ (i : Isotope). eqb (total i es) (total i fs))
every_at (i ∷ ks) es fs h = all_both (λ (i : Isotope). eqb (total i es) (total i fs)) i ks (eq-eqb (total i es) (total i fs) (h i)) (every_at ks es fs h)

pub every_agree : (es fs : List Entry) → ((i : Isotope) → total i es ≡ total i fs) → agree es fs ≡ true
unfolding agree
every_agree es fs h = every_at (kinds (es ++ fs)) es fs h

-- GATHERED: one entry for each of some isotopes, no two of them the same
module _ (count : Isotope → ℕ) where
  pub total_each : (i : Isotope) (ks : List Isotope) → pairs same_isotope ks ≡ false → total i (map (λ j. entry j (count j)) ks) ≡ share (any (same_isotope i) ks) (count i)
  total_each i [] d = total_nil i ∙ sym (ap (λ (t : Bool). share t (count i)) (any_nil (same_isotope i)))
  total_each i (k ∷ ks) d = go (same_isotope i k) refl (total_each i ks (pairs_parts same_isotope k ks d).1)
    where
      each : List Isotope → List Entry
      each l = map (λ j. entry j (count j)) l

      go : (t : Bool) → same_isotope i k ≡ t → total i (each ks) ≡ share (any (same_isotope i) ks) (count i) → total i (each (k ∷ ks)) ≡ share (any (same_isotope i) (k ∷ ks)) (count i)
      go true q ih =
          let None : any (same_isotope i) ks ≡ false = any_same (same_isotope i) (same_isotope k) (λ j. isotope_trans i k j q) ks ∙ (pairs_parts same_isotope k ks d).0 in
          let same : count k ≡ count i = ap count (sym (isotope_is i k q)) in
          let zero' : total i (each ks) ≡ 0 = ih ∙ ap (λ (t : Bool). share t (count i)) None in
          let one : share (any (same_isotope i) (k ∷ ks)) (count i) ≡ count i = ap (λ (t : Bool). share t (count i)) (any_hit (same_isotope i) k ks q) in
          total_hit i (entry k (count k)) (each ks) q ∙ omega arith
      go false q ih = total_miss i (entry k (count k)) (each ks) q ∙ ih ∙ sym (ap (λ (t : Bool). share t (count i)) (any_miss (same_isotope i) k ks q))

-- entries gathered by kind, in any order, agree with the entries
pub gathered_total : (before : Isotope → Isotope → Bool) (es : List Entry) (i : Isotope) → total i (map (λ j. entry j (total j es)) (sort before (kinds es))) ≡ total i es
gathered_total before es i =
    total_each (λ j. total j es) i (sort before (kinds es)) (pairs_perm same_isotope isotope_symm (sort_perm before (kinds es)) ∙ kinds_once es)
    ∙ ap (λ (t : Bool). share t (total i es)) (any_perm (same_isotope i) (sort_perm before (kinds es))) ∙ go (any (same_isotope i) (kinds es)) refl
  where
    go : (t : Bool) → any (same_isotope i) (kinds es) ≡ t → share (any (same_isotope i) (kinds es)) (total i es) ≡ total i es
    go true h = ap (λ (t : Bool). share t (total i es)) h
    go false h = ap (λ (t : Bool). share t (total i es)) h ∙ sym (total_absent i es h)

pub gathered_agree : (before : Isotope → Isotope → Bool) (es : List Entry) → agree (map (λ j. entry j (total j es)) (sort before (kinds es))) es ≡ true
gathered_agree before es = every_agree (map (λ j. entry j (total j es)) (sort before (kinds es))) es (gathered_total before es)

-- THE ATOMS as entries
module _ (a : Atom) (rest : List Atom) where
  pub entries_bare : a.hydrogens ≡ 0 → entries_of (a ∷ rest) ≡ entry a.kind 1 ∷ entries_of rest
  unfolding entries_of
  entries_bare e = rw (e, entries_of)

  pub entries_implied : (h : ℕ) → a.hydrogens ≡ suc h → entries_of (a ∷ rest) ≡ entry a.kind 1 ∷ entry (isotope_of 1 0) (suc h) ∷ entries_of rest
  unfolding entries_of
  entries_implied h e = rw (e, entries_of)

pub entries_append : (rest more : List Atom) → entries_of (rest ++ more) ≡ entries_of rest ++ entries_of more
unfolding entries_of
entries_append [] more = refl
entries_append (a ∷ rest) more = go a.hydrogens refl (entries_append rest more)
  where
    go : (n : ℕ) → a.hydrogens ≡ n → entries_of (rest ++ more) ≡ entries_of rest ++ entries_of more → entries_of (a ∷ (rest ++ more)) ≡ entries_of (a ∷ rest) ++ entries_of more
    go zero e ih = rw (entries_bare a (rest ++ more) e, entries_bare a rest e, ih)
    go (suc h) e ih = rw (entries_implied a (rest ++ more) h e, entries_implied a rest h e, ih)

-- every entry counts at least 1
pub entries_counted : (rest : List Atom) → all (λ (e : Entry). ltb 0 e.count) (entries_of rest) ≡ true
unfolding entries_of all
entries_counted [] = refl
entries_counted (a ∷ rest) = go a.hydrogens refl (entries_counted rest)
  where
    go : (n : ℕ) → a.hydrogens ≡ n → all (λ (e : Entry). ltb 0 e.count) (entries_of rest) ≡ true → all (λ (e : Entry). ltb 0 e.count) (entries_of (a ∷ rest)) ≡ true
    go zero e ih = rw (entries_bare a rest e) ih
    go (suc h) e ih = rw (entries_implied a rest h e, lt-ltb 0 (suc h) (omega arith)) ih
