-- A charge or radical row as it joins its list: what the tests of the code answer is what the definitions say of the row, and the region after it shows the list after it.
-- Document 01, "Rows" (11, 13, 14 in this order). Assumes nothing.
use Prim.Native.Nat.{ℕ, suc, ◌+◌, ◌≤◌, ◌<◌}
use mathlib.Core.Path.{◌≡◌, refl, sym, ap, ◌∙◌, subst}
use mathlib.Core.Bool.{Bool, true, false, not, ◌||◌}
use Rattle.std.specs.declared.option.Option.TheVariants.{Some}
use mathlib.Core.List.{List, [], ◌∷◌, ◌++◌, append-nil, reverse_aux}
use native.Mathlib.Omega.{arith}
use lib.ListN.{length, set}
use lib.IntN.{ℤ}
use lib.Seq.{set-append_left}
use lib.Dec.{eqb, ltb, leb}
use borrow.Author.Tests.{leb-false, le-leb, lt-leb}
use Rattle.lists.specs.Lists.{is_nil, all, any, pairs, filled}
use Rattle.lists.specs.Order.{sort}
use Rattle.lists.proofs.Bools.{torn}
use Rattle.lists.proofs.ListLaws.{nil_length, all_imply, any_same}
use Rattle.lists.proofs.PairLaws.{pairs_nil}
use Rattle.lists.proofs.PartLaws.{filled_length}
use Rattle.lists.proofs.RegionLaws.{filled_sets}
use Rattle.lists.proofs.SortLaws.{sort_nil, sort_any, sort_length, any_perm}
use Rattle.lists.proofs.FoldLaws.{reverse_perm}
use Rattle.format.specs.Bytes.{within}
use Rattle.format.specs.Rows.{Row, row}
use Rattle.format.specs.Structure.{most, ranged, meets, clash}
use Rattle.format.proofs.ByteLaws.{within_is, within_true}
use Rattle.sorted.specs.Steps.{After, kept, refused, if◌breaks◌else◌, joined_as, join_after, row_after}
use Rattle.sorted.specs.Regions.{members_from, coded, arrived, void_of, spread_region}
use Rattle.sorted.specs.Shown.{ShowsAfter}
use Rattle.std.specs.Prelude.{Ok, Err}
use Rattle.format.specs.declared.refusal.Refusal.TheVariants.{AtomNumber, Clash, Full}
use Rattle.spread.specs.Members.{list_of, claimed, ShowsClaim}
use Rattle.spread.proofs.PlaceLaws.{arrived_length, arrived_more}
use Rattle.spread.proofs.MemberLaws.{claimed_some}
use Rattle.spread.proofs.SpreadLaws.{clash_spread, most_spread, members_length, region_is, unless, halfway, claimed_void, claimed_members}

-- there is room for one row more where the list is not full
pub room : (count : ℕ) → leb 64 count ≡ false → count + 1 ≤ 64
room count e = omega (arith, leb-false 64 count e)

-- THE CLAIM of a row as it stands on its line
unsorted : (ns : List ℕ) (p : ℕ → Bool) → any p (reverse_aux ns []) ≡ any p (sort ltb ns)
unsorted ns p = any_perm p (reverse_perm ns []) ∙ ap (any p) (append-nil ns) ∙ sym (sort_any ltb p ns)

sort_some : (n : ℕ) (ns : List ℕ) → is_nil (sort ltb (n ∷ ns)) ≡ false
sort_some n ns = go (is_nil (sort ltb (n ∷ ns))) refl
  where
    go : (t : Bool) → is_nil (sort ltb (n ∷ ns)) ≡ t → is_nil (sort ltb (n ∷ ns)) ≡ false
    go true e = absurd (omega (arith, nil_length (sort ltb (n ∷ ns)) e, sort_length ltb (n ∷ ns)))
    go false e = e

pub listed_within : (atoms : ℕ) (ns : List ℕ) → atoms ≤ 256 → all (within 1 atoms) ns ≡ true → all (within 1 256) ns ≡ true
listed_within atoms ns h g = all_imply (within 1 atoms) (within 1 256) (λ n e. within_is 1 256 n (within_true 1 atoms n e).0 (omega (arith, (within_true 1 atoms n e).1))) ns g

pub claimed_is : (s : Bool) (v : ℤ) (ns : List ℕ) (rs : List Row) → length rs ≤ 64 → all (within 1 256) ns ≡ true
    → claimed (suc (length rs)) ns (spread_region rs) ≡ unless (pairs eqb ns || any (meets (list_of s) (row (sort ltb ns) v 0)) rs) (halfway (row (sort ltb ns) v 0) rs)
claimed_is s v [] rs few h =
    claimed_void rs few s v ∙ sym (ap (λ (b : Bool). unless (b || any (meets (list_of s) (row (sort ltb []) v 0)) rs) (halfway (row (sort ltb []) v 0) rs)) (pairs_nil eqb)
    ∙ ap (λ (ms : List ℕ). unless (any (meets (list_of s) (row ms v 0)) rs) (halfway (row ms v 0) rs)) (sort_nil ltb))
claimed_is s v (n ∷ ns) rs few h =
    claimed_some (suc (length rs)) n ns (spread_region rs)
    ∙ claimed_members rs few s v (n ∷ ns) (sort ltb (n ∷ ns)) (sort_some n ns) (λ m. unsorted (n ∷ ns) (eqb m)) (λ p. sym (sort_any ltb p (n ∷ ns))) h

-- the value behind the values that are there
set_behind : (xs ys : List ℕ) (i a : ℕ) → set (xs ++ ys) (length xs + i) a ≡ xs ++ set ys i a
set_behind [] ys i a = let e : 0 + i ≡ i = omega arith in ap (λ (j : ℕ). set ys j a) e
set_behind (x ∷ xs) ys i a =
    let e : suc (length xs) + i ≡ suc (length xs + i) = omega arith in
    ap (λ (j : ℕ). set (x ∷ (xs ++ ys)) j a) e ∙ ap (λ (l : List ℕ). x ∷ l) (set_behind xs ys i a)

pub value_set : (r : Row) (rs : List Row) → length rs < 64 → set (halfway r rs) (256 + length rs) (coded r.value) ≡ spread_region (r ∷ rs)
value_set r rs few =
    let values : List ℕ = filled 0 64 (arrived rs) in
    let last : List ℕ = void_of (r ∷ rs) ∷ [] in
    let front : List ℕ = members_from 256 1 (r ∷ rs) in
    let at : 256 + length rs ≡ length front + length (arrived rs) = omega (arith, members_length 256 1 (r ∷ rs), arrived_length rs) in
    let room : length (arrived rs) < length values = omega (arith, arrived_length rs, filled_length 0 64 (arrived rs) (omega (arith, arrived_length rs))) in
    ap (λ (i : ℕ). set (front ++ (values ++ last)) i (coded r.value)) at ∙ set_behind front (values ++ last) (length (arrived rs)) (coded r.value)
    ∙ ap (λ (l : List ℕ). front ++ l) (set-append_left values last (length (arrived rs)) (coded r.value) room
    ∙ ap (λ (l : List ℕ). l ++ last) (filled_sets 0 64 (arrived rs) (coded r.value ∷ []) (omega (arith, arrived_length rs)) ∙ ap (filled 0 64) (sym (arrived_more r rs))))
    ∙ sym (region_is (r ∷ rs))

-- THE ROW'S TESTS in turn
row_listed : (a b : Bool) (x : After Row) → a ≡ true → b ≡ true → (if not a breaks 10 else if not b breaks 11 else x) ≡ x
row_listed true true x e f = refl
row_listed true false x e f = torn false f refl
row_listed false b x e f = torn false e refl

row_unlisted : (a b : Bool) (x : After Row) → a ≡ true → b ≡ false → (if not a breaks 10 else if not b breaks 11 else x) ≡ refused 11
row_unlisted true true x e f = torn true refl f
row_unlisted true false x e f = refl
row_unlisted false b x e f = torn false e refl

row_joined : (own bad full : Bool) (rs : List Row) (r : Row)
    → (if own breaks 13 else if bad breaks 13 else joined_as bad full rs r) ≡ (if own || bad breaks 13 else if full breaks 14 else kept (r ∷ rs))
row_joined true bad full rs r = refl
row_joined false true full rs r = refl
row_joined false false true rs r = refl
row_joined false false false rs r = refl

module _ (s : Bool) (v : ℤ) (atoms : ℕ) (ns : List ℕ) (rs : List Row) (range : ranged (list_of s) v ≡ true) where
  abbrev added : Row
  added = row (sort ltb ns) v 0

  -- whether an atom stands twice: in the row, or in it and an earlier one; or a second row has no atoms
  abbrev twice : Bool
  twice = pairs eqb ns || any (meets (list_of s) added) rs

  abbrev answer : After Row
  answer = row_after (list_of s) atoms rs (Some (row ns v 0))

  after_unlisted : all (within 1 atoms) ns ≡ false → answer ≡ refused 11
  unfolding row_after
  after_unlisted h = row_unlisted (ranged (list_of s) v) (all (within 1 atoms) ns) (if pairs eqb ns breaks 13 else join_after (list_of s) rs added) range h

  after_listed : all (within 1 atoms) ns ≡ true → answer ≡ (if twice breaks 13 else if leb 64 (length rs) breaks 14 else kept (added ∷ rs))
  unfolding row_after join_after
  after_listed h =
      row_listed (ranged (list_of s) v) (all (within 1 atoms) ns) (if pairs eqb ns breaks 13 else join_after (list_of s) rs added) range h
      ∙ ap (λ (b : Bool). if pairs eqb ns breaks 13 else if b breaks 13 else joined_as (any (meets (list_of s) added) rs) (leb (most (list_of s)) (length rs)) rs added)
      (any_same (clash (list_of s) added) (meets (list_of s) added) (clash_spread s added) rs)
      ∙ ap (λ (m : ℕ). if pairs eqb ns breaks 13 else if any (meets (list_of s) added) rs breaks 13 else joined_as (any (meets (list_of s) added) rs) (leb m (length rs)) rs added) (most_spread s)
      ∙ row_joined (pairs eqb ns) (any (meets (list_of s) added) rs) (leb 64 (length rs)) rs added

  pub shows_11 : (u : List ℕ) → all (within 1 atoms) ns ≡ false → ShowsAfter spread_region u (Err AtomNumber) answer
  shows_11 u h = subst (ShowsAfter spread_region u (Err AtomNumber)) (sym (after_unlisted h)) refl

  module _ (count : ℕ) (t t' : List ℕ) (len : length rs ≡ count) (few : count ≤ 64) (is : t ≡ spread_region rs) (low : atoms ≤ 256) (listed : all (within 1 atoms) ns ≡ true) where
    claim_is : claimed (count + 1) ns t ≡ unless twice (halfway added rs)
    claim_is =
        let q : count + 1 ≡ suc (length rs) = omega (arith, len) in
        ap (λ (k : ℕ). claimed k ns t) q ∙ ap (claimed (suc (length rs)) ns) is ∙ claimed_is s v ns rs (omega (arith, len)) (listed_within atoms ns low listed)

    told : (b r : Bool) → r ≡ b → ShowsClaim r t' (claimed (count + 1) ns t) → ShowsClaim b t' (unless twice (halfway added rs))
    told b r e h = subst (ShowsClaim b t') claim_is (subst (λ (a : Bool). ShowsClaim a t' (claimed (count + 1) ns t)) e h)

    pub shows_13 : (u : List ℕ) (r : Bool) → r ≡ false → ShowsClaim r t' (claimed (count + 1) ns t) → ShowsAfter spread_region u (Err Clash) answer
    shows_13 u r f h = go twice refl (told false r f h)
      where
        go : (b : Bool) → twice ≡ b → ShowsClaim false t' (unless b (halfway added rs)) → ShowsAfter spread_region u (Err Clash) answer
        go true e g = subst (ShowsAfter spread_region u (Err Clash)) (sym (after_listed listed ∙ ap (λ (b : Bool). if b breaks 13 else if leb 64 (length rs) breaks 14 else kept (added ∷ rs)) e)) refl
        go false e g = torn false g.0 refl

    -- a row that may join
    free : (r : Bool) → r ≡ true → ShowsClaim r t' (claimed (count + 1) ns t) → (t' ≡ halfway added rs) × (answer ≡ (if leb 64 (length rs) breaks 14 else kept (added ∷ rs)))
    free r f h = go twice refl (told true r f h)
      where
        go : (b : Bool) → twice ≡ b → ShowsClaim true t' (unless b (halfway added rs)) → (t' ≡ halfway added rs) × (answer ≡ (if leb 64 (length rs) breaks 14 else kept (added ∷ rs)))
        go true e g = torn true refl g
        go false e g = (g.1, after_listed listed ∙ ap (λ (b : Bool). if b breaks 13 else if leb 64 (length rs) breaks 14 else kept (added ∷ rs)) e)

    pub shows_14 : (u : List ℕ) (r : Bool) → r ≡ true → ShowsClaim r t' (claimed (count + 1) ns t) → 64 ≤ count → ShowsAfter spread_region u (Err Full) answer
    shows_14 u r f h full =
        let q : answer ≡ refused 14 = (free r f h).1 ∙ ap (λ (b : Bool). if b breaks 14 else kept (added ∷ rs)) (le-leb 64 (length rs) (omega (arith, len))) in
        subst (ShowsAfter spread_region u (Err Full)) (sym q) refl

    pub shows_kept : (code : ℕ) → coded v ≡ code → (r : Bool) → r ≡ true → ShowsClaim r t' (claimed (count + 1) ns t) → count < 64 → ShowsAfter spread_region (set t' (256 + count) code) (Ok (count + 1)) answer
    shows_kept code e r f h room =
        let q : answer ≡ kept (added ∷ rs) = (free r f h).1 ∙ ap (λ (b : Bool). if b breaks 14 else kept (added ∷ rs)) (lt-leb 64 (length rs) (omega (arith, len))) in
        let n : count + 1 ≡ suc (length rs) = omega (arith, len) in
        let z : set t' (256 + count) code ≡ spread_region (added ∷ rs)
        = ap (λ (l : List ℕ). set l (256 + count) code) (free r f h).0 ∙ ap (λ (i : ℕ). set (halfway added rs) (256 + i) code) (sym len)
        ∙ ap (set (halfway added rs) (256 + length rs)) (sym e) ∙ value_set added rs (omega (arith, len)) in
        subst (ShowsAfter spread_region (set t' (256 + count) code) (Ok (count + 1))) (sym q) (ap Ok n, z)
