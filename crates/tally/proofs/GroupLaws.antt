-- The keys of groups one after another: they ascend, and a key is there exactly where its group has it. Document 02, L1. Over plain lists. Assumes nothing.
use Prim.Native.Nat.{ℕ, zero, suc, ◌+◌, ◌*◌, ◌≤◌, ◌<◌}
use mathlib.Core.Path.{◌≡◌, refl, sym, ap, ap₂, ◌∙◌}
use mathlib.Core.Bool.{Bool, true, false, ◌||◌, or-false}
use mathlib.Core.List.{List, [], ◌∷◌, ◌++◌, map, map-append, map-map}
use native.Mathlib.Omega.{arith}
use lib.ListN.{length, get_or}
use lib.Dec.{eqb, ltb, leb}
use borrow.Author.Tests.{ltb-true, lt-ltb, leb-true, le-leb, eq-eqb, ne_eqb}
use Rattle.lists.specs.Lists.{all, any}
use Rattle.lists.specs.Order.{leads, ascends, sort}
use Rattle.lists.proofs.ListLaws.{all_nil, all_parts, all_both, all_imply, all_append_both, any_nil, any_neither, any_append, any_same}
use Rattle.lists.proofs.PartLaws.{any_map, flat_nil, flat_cons}
use Rattle.lists.proofs.IndexLaws.{map_on}
use Rattle.lists.proofs.LexLaws.{Sides, less, equal, greater, sides}
use Rattle.lists.proofs.SortLaws.{ascends_nil, ascends_parts, ascends_both}
use Rattle.format.specs.Structure.{Isotope, isotope_of, Atom, entries_of, total, kinds}
use Rattle.tally.specs.Ranks.{key_of}
use Rattle.tally.specs.declared.entries.Entry.{Entry as Tallied}
use Rattle.tally.specs.Gathering.{in_formula, in_group, group_keys, group_counts, sum_of}

-- LISTS OF KEYS, each in its group
abbrev pub joined_keys : (first : ℕ) → List (List ℕ) → List ℕ
joined_keys j [] = []
joined_keys j (ks ∷ kss) = map (in_group j) ks ++ joined_keys (suc j) kss

abbrev pub Fit : List ℕ → Type 0
Fit ks = (ascends ltb ks ≡ true) × (all (λ k. ltb k 65536) ks ≡ true)

abbrev pub AllFit : List (List ℕ) → Type 0
AllFit [] = Unit {0}
AllFit (ks ∷ kss) = Fit ks × AllFit kss

-- BOUNDS
from_low : (j : ℕ) (ks : List ℕ) → all (leb (65536 * j)) (map (in_group j) ks) ≡ true
from_low j [] = all_nil (leb (65536 * j))
from_low j (k ∷ ks) = all_both (leb (65536 * j)) (in_group j k) (map (in_group j) ks) (le-leb (65536 * j) (in_group j k) (omega arith)) (from_low j ks)

to_high : (j : ℕ) (ks : List ℕ) → all (λ k. ltb k 65536) ks ≡ true → all (λ k. ltb k (65536 * suc j)) (map (in_group j) ks) ≡ true
to_high j [] h = all_nil (λ k. ltb k (65536 * suc j))
to_high j (k ∷ ks) h =
    let p = all_parts (λ x. ltb x 65536) k ks h in
    all_both (λ x. ltb x (65536 * suc j)) (in_group j k) (map (in_group j) ks) (lt-ltb (in_group j k) (65536 * suc j) (omega (arith, ltb-true k 65536 p.0))) (to_high j ks p.1)

joined_low : (j : ℕ) (kss : List (List ℕ)) → all (leb (65536 * j)) (joined_keys j kss) ≡ true
joined_low j [] = all_nil (leb (65536 * j))
joined_low j (ks ∷ kss) =
    all_append_both (leb (65536 * j)) (map (in_group j) ks) (joined_keys (suc j) kss) (from_low j ks)
    (all_imply (leb (65536 * suc j)) (leb (65536 * j)) (λ x e. le-leb (65536 * j) x (omega (arith, leb-true (65536 * suc j) x e))) (joined_keys (suc j) kss) (joined_low (suc j) kss))

-- THEY ASCEND
shift_leads : (j k : ℕ) (ks : List ℕ) → leads ltb k ks ≡ true → leads ltb (in_group j k) (map (in_group j) ks) ≡ true
shift_leads j k [] h = refl
shift_leads j k (l ∷ ks) h = lt-ltb (in_group j k) (in_group j l) (omega (arith, ltb-true k l h))

shift_ascends : (j : ℕ) (ks : List ℕ) → ascends ltb ks ≡ true → ascends ltb (map (in_group j) ks) ≡ true
shift_ascends j [] h = ascends_nil ltb
shift_ascends j (k ∷ ks) h = let p = ascends_parts ltb k ks h in ascends_both ltb (in_group j k) (map (in_group j) ks) (shift_leads j k ks p.0) (shift_ascends j ks p.1)

one_then : (b x : ℕ) (ys : List ℕ) → ltb x b ≡ true → all (leb b) ys ≡ true → leads ltb x ys ≡ true
one_then b x [] h k = refl
one_then b x (y ∷ ys) h k = lt-ltb x y (omega (arith, ltb-true x b h, leb-true b y (all_parts (leb b) y ys k).0))

then_ascends : (b : ℕ) (xs ys : List ℕ) → ascends ltb xs ≡ true → ascends ltb ys ≡ true → all (λ x. ltb x b) xs ≡ true → all (leb b) ys ≡ true → ascends ltb (xs ++ ys) ≡ true
then_ascends b [] ys a c h k = c
then_ascends b (x ∷ []) ys a c h k = ascends_both ltb x ys (one_then b x ys (all_parts (λ z. ltb z b) x [] h).0 k) c
then_ascends b (x ∷ y ∷ xs) ys a c h k =
    ascends_both ltb x (y ∷ (xs ++ ys)) (ascends_parts ltb x (y ∷ xs) a).0 (then_ascends b (y ∷ xs) ys (ascends_parts ltb x (y ∷ xs) a).1 c (all_parts (λ z. ltb z b) x (y ∷ xs) h).1 k)

pub joined_ascends : (j : ℕ) (kss : List (List ℕ)) → AllFit kss → ascends ltb (joined_keys j kss) ≡ true
joined_ascends j [] h = ascends_nil ltb
joined_ascends j (ks ∷ kss) h =
    then_ascends (65536 * suc j) (map (in_group j) ks) (joined_keys (suc j) kss) (shift_ascends j ks h.0.0) (joined_ascends (suc j) kss h.1) (to_high j ks h.0.1) (joined_low (suc j) kss)

-- WHICH ARE THERE
none_above : (b x : ℕ) (ys : List ℕ) → x < b → all (leb b) ys ≡ true → any (eqb x) ys ≡ false
none_above b x [] h k = any_nil (eqb x)
none_above b x (y ∷ ys) h k =
    let p = all_parts (leb b) y ys k in
    any_neither (eqb x) y ys (ne_eqb x y (λ e. omega (arith, e, leb-true b y p.0))) (none_above b x ys h p.1)

none_below : (b x : ℕ) (ys : List ℕ) → b ≤ x → all (λ y. ltb y b) ys ≡ true → any (eqb x) ys ≡ false
none_below b x [] h k = any_nil (eqb x)
none_below b x (y ∷ ys) h k =
    let p = all_parts (λ z. ltb z b) y ys k in
    any_neither (eqb x) y ys (ne_eqb x y (λ e. omega (arith, e, ltb-true y b p.0))) (none_below b x ys h p.1)

eqb_in : (j κ k : ℕ) → eqb (in_group j κ) (in_group j k) ≡ eqb κ k
eqb_in j κ k = go (sides κ k)
  where
    go : Sides κ k → eqb (in_group j κ) (in_group j k) ≡ eqb κ k
    go (less h) = ne_eqb (in_group j κ) (in_group j k) (omega arith) ∙ sym (ne_eqb κ k (omega arith))
    go (equal h) = eq-eqb (in_group j κ) (in_group j k) (omega arith) ∙ sym (eq-eqb κ k h)
    go (greater h) = ne_eqb (in_group j κ) (in_group j k) (omega arith) ∙ sym (ne_eqb κ k (omega arith))

pub joined_there : (j d κ : ℕ) → κ < 65536 → (kss : List (List ℕ)) → AllFit kss → any (eqb (in_group (j + d) κ)) (joined_keys j kss) ≡ any (eqb κ) (get_or kss d [])
joined_there j d κ s [] h = any_nil (eqb (in_group (j + d) κ)) ∙ sym (any_nil (eqb κ))
joined_there j zero κ s (ks ∷ kss) h =
    let q : j + 0 ≡ j = omega arith in
    ap (λ (i : ℕ). any (eqb (in_group i κ)) (joined_keys j (ks ∷ kss))) q ∙ any_append (eqb (in_group j κ)) (map (in_group j) ks) (joined_keys (suc j) kss)
    ∙ ap₂ ◌||◌ (any_map (eqb (in_group j κ)) (in_group j) ks ∙ any_same (λ k. eqb (in_group j κ) (in_group j k)) (eqb κ) (eqb_in j κ) ks)
    (none_above (65536 * suc j) (in_group j κ) (joined_keys (suc j) kss) (omega arith) (joined_low (suc j) kss))
    ∙ or-false (any (eqb κ) ks)
joined_there j (suc d) κ s (ks ∷ kss) h =
    let q : j + suc d ≡ suc j + d = omega arith in
    ap (λ (i : ℕ). any (eqb (in_group i κ)) (joined_keys j (ks ∷ kss))) q ∙ any_append (eqb (in_group (suc j + d) κ)) (map (in_group j) ks) (joined_keys (suc j) kss)
    ∙ ap (λ (b : Bool). b || any (eqb (in_group (suc j + d) κ)) (joined_keys (suc j) kss)) (none_below (65536 * suc j) (in_group (suc j + d) κ) (map (in_group j) ks) (omega arith) (to_high j ks h.0.1))
    ∙ joined_there (suc j) d κ s kss h.1

-- THE GROUPS' KEYS are such
abbrev pub keys_of : List (List Atom) → List (List ℕ)
keys_of gs = map (λ g. map key_of (in_formula g)) gs

none_in : map key_of (in_formula []) ≡ []
unfolding in_formula entries_of kinds sort
none_in = refl

pub keys_at : (gs : List (List Atom)) (m : ℕ) → map key_of (in_formula (get_or gs m [])) ≡ get_or (keys_of gs) m []
keys_at [] m = none_in
keys_at (g ∷ gs) zero = refl
keys_at (g ∷ gs) (suc m) = keys_at gs m

pub keys_joined : (j : ℕ) (gs : List (List Atom)) → group_keys j gs ≡ joined_keys j (keys_of gs)
unfolding group_keys
keys_joined j [] = refl
keys_joined j (g ∷ gs) = ap₂ (λ (x y : List ℕ). x ++ y) (sym (map-map (in_group j) key_of (in_formula g))) (keys_joined (suc j) gs)

-- THEIR COUNTS, where each key's sum is its kind's total in the group
abbrev pub no_isotope : Isotope
no_isotope = isotope_of 0 0

pub counts_are : (es : List Tallied) (j : ℕ) (gs : List (List Atom))
    → ((d i : ℕ) → d < length gs → i < length (in_formula (get_or gs d [])) → sum_of (in_group (j + d) (key_of (get_or (in_formula (get_or gs d [])) i no_isotope))) es ≡ total (get_or (in_formula (get_or gs d [])) i no_isotope) (entries_of (get_or gs d [])))
    → map (λ k. sum_of k es) (group_keys j gs) ≡ group_counts gs
unfolding group_keys group_counts
counts_are es j [] h = sym (flat_nil (λ g. map (λ i. total i (entries_of g)) (in_formula g)))
counts_are es j (g ∷ gs) h =
    let z : j + 0 ≡ j = omega arith in
    map-append (λ k. sum_of k es) (map (λ i. in_group j (key_of i)) (in_formula g)) (group_keys (suc j) gs)
    ∙ ap₂ (λ (x y : List ℕ). x ++ y)
    (map-map (λ k. sum_of k es) (λ i. in_group j (key_of i)) (in_formula g)
    ∙ map_on (λ i. sum_of (in_group j (key_of i)) es) (λ i. total i (entries_of g)) no_isotope (in_formula g)
    (λ i b. ap (λ (m : ℕ). sum_of (in_group m (key_of (get_or (in_formula g) i no_isotope))) es) (sym z) ∙ h 0 i (omega arith) b))
    (counts_are es (suc j) gs (λ d i b c. let q : suc j + d ≡ j + suc d = omega arith in ap (λ (m : ℕ). sum_of (in_group m (key_of (get_or (in_formula (get_or gs d [])) i no_isotope))) es) q ∙ h (suc d) i (omega arith) c))
    ∙ sym (flat_cons (λ g. map (λ i. total i (entries_of g)) (in_formula g)) g gs)
