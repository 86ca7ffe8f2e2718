-- The region of a charge or radical list: a row whose members have no row yet takes its number in their cells, and its value behind the values there, and what stands
-- in the region is then the list with that row; where a member has a row, or two members are one, the row clashes. Document 01, "Rows". Assumes nothing.
use Prim.Native.Nat.{ℕ, zero, suc, ◌+◌, ◌-◌, ◌≤◌, ◌<◌}
use mathlib.Core.Path.{◌≡◌, refl, sym, ap, ◌∙◌}
use mathlib.Core.Bool.{Bool, true, false, ◌||◌, and-true, or-false}
use Rattle.std.specs.declared.option.Option.{Option}
use Rattle.std.specs.declared.option.Option.TheVariants.{None, Some}
use mathlib.Core.List.{List, [], ◌∷◌, ◌++◌, append_assoc, reverse_aux}
use native.Mathlib.Omega.{arith}
use lib.ListN.{length, get_or, set, length-set, length-append}
use lib.IntN.{ℤ}
use lib.Seq.{ext_get_or, get_or-set_same, get_or-set_other, set-append_left, set_at, get_or_at}
use lib.Dec.{eqb}
use borrow.Author.Tests.{eqb-true, eqb-false, ne_eqb}
use Rattle.lists.specs.Lists.{is_nil, all, any, pairs, filled}
use Rattle.lists.proofs.Bools.{torn, eqb_same, eqb_symm, or_right, or_neither}
use Rattle.lists.proofs.ListLaws.{all_parts, any_nil, any_cons, any_hit, any_miss, any_same, any_or}
use Rattle.lists.proofs.PairLaws.{pairs_nil, pairs_cons}
use Rattle.lists.proofs.PartLaws.{filled_length}
use Rattle.format.specs.Bytes.{within, is_in}
use Rattle.format.specs.Rows.{Row, row}
use Rattle.format.specs.Structure.{most, meets, repeats, clash, overlap}
use Rattle.format.proofs.ByteLaws.{within_true}
use Rattle.sorted.specs.Regions.{member_of, members_from, arrived, void_of, spread_region}
use Rattle.spread.specs.Members.{list_of, claims, claimed}
use Rattle.spread.proofs.MemberLaws.{claims_nil, claims_free, claims_taken, void_free, void_taken}
use Rattle.spread.proofs.PlaceLaws.{has, void, get_d_front, back_in, back_out, back_none, back_some, member_back, void_back, arrived_length}

-- THE NUMBER OF AN ATOM'S ROW: 0 where none has it
module _ (n : ℕ) where
  pub member_in_lem : (r : Row) (rs : List Row) → has n r ≡ true → member_of n (r ∷ rs) ≡ suc (length rs)
  member_in_lem r rs e = member_back n (r ∷ rs) ∙ back_in (has n) r rs e

  pub member_out : (r : Row) (rs : List Row) → has n r ≡ false → member_of n (r ∷ rs) ≡ member_of n rs
  member_out r rs e = member_back n (r ∷ rs) ∙ back_out (has n) r rs e ∙ sym (member_back n rs)

  pub member_none : (rs : List Row) → any (has n) rs ≡ false → member_of n rs ≡ 0
  member_none rs h = member_back n rs ∙ back_none (has n) rs h

  pub member_some : (rs : List Row) → any (has n) rs ≡ true → member_of n rs ≡ 0 → ⊥
  member_some rs h z = omega (arith, (back_some (has n) rs h).0, member_back n rs, z)

  -- it hangs on the members alone
  pub member_same : (r q : Row) (rs : List Row) → has n r ≡ has n q → member_of n (r ∷ rs) ≡ member_of n (q ∷ rs)
  member_same r q rs h = go (has n q) refl
    where
      go : (t : Bool) → has n q ≡ t → member_of n (r ∷ rs) ≡ member_of n (q ∷ rs)
      go true e = member_in_lem r rs (h ∙ e) ∙ sym (member_in_lem q rs e)
      go false e = member_out r rs (h ∙ e) ∙ sym (member_out q rs e)

-- THE CELLS OF THE ATOMS
pub members_zero : (n : ℕ) (rs : List Row) → members_from 0 n rs ≡ []
unfolding members_from
members_zero n rs = refl

pub members_suc : (k n : ℕ) (rs : List Row) → members_from (suc k) n rs ≡ member_of n rs ∷ members_from k (suc n) rs
unfolding members_from
members_suc k n rs = refl

pub members_length : (k n : ℕ) (rs : List Row) → length (members_from k n rs) ≡ k
unfolding members_from
members_length zero n rs = refl
members_length (suc k) n rs = ap suc (members_length k (suc n) rs)

pub members_at_lem : (k n : ℕ) (rs : List Row) (i : ℕ) → i < k → get_or (members_from k n rs) i 0 ≡ member_of (n + i) rs
unfolding members_from
members_at_lem zero n rs i h = absurd (omega arith)
members_at_lem (suc k) n rs zero h = let e : n ≡ n + 0 = omega arith in ap (λ (m : ℕ). member_of m rs) e
members_at_lem (suc k) n rs (suc i) h = let e : suc n + i ≡ n + suc i = omega arith in members_at_lem k (suc n) rs i (omega arith) ∙ ap (λ (m : ℕ). member_of m rs) e

pub members_same : (k n : ℕ) (r q : Row) (rs : List Row) → ((m : ℕ) → has m r ≡ has m q) → members_from k n (r ∷ rs) ≡ members_from k n (q ∷ rs)
unfolding members_from
members_same zero n r q rs h = refl
members_same (suc k) n r q rs h = rw (member_same n r q rs (h n)) (ap (λ (l : List ℕ). member_of n (q ∷ rs) ∷ l) (members_same k (suc n) r q rs h))

-- a row without members changes none
pub members_void : (k n : ℕ) (v : ℤ) (rs : List Row) → members_from k n (row [] v 0 ∷ rs) ≡ members_from k n rs
unfolding members_from
members_void zero n v rs = refl
members_void (suc k) n v rs = rw (member_out n (row [] v 0) rs (any_nil (eqb n))) (ap (λ (l : List ℕ). member_of n rs ∷ l) (members_void k (suc n) v rs))

-- one member more
pub members_set : (k n i : ℕ) (ps : List ℕ) (v : ℤ) (rs : List Row) → i < k → set (members_from k n (row ps v 0 ∷ rs)) i (suc (length rs)) ≡ members_from k n (row ((n + i) ∷ ps) v 0 ∷ rs)
members_set k n i ps v rs h =
    ext_get_or 0 (set (members_from k n old) i (suc (length rs))) (members_from k n new) (length-set (members_from k n old) i (suc (length rs)) ∙ members_length k n old ∙ sym (members_length k n new)) each
  where
    old : List Row
    old = row ps v 0 ∷ rs

    new : List Row
    new = row ((n + i) ∷ ps) v 0 ∷ rs

    here : (j : ℕ) → j < k → (t : Bool) → eqb j i ≡ t → get_or (set (members_from k n old) i (suc (length rs))) j 0 ≡ member_of (n + j) new
    here j g true e =
        ap (λ (m : ℕ). get_or (set (members_from k n old) i (suc (length rs))) m 0) (eqb-true j i e)
        ∙ get_or-set_same (members_from k n old) i (suc (length rs)) 0 (omega (arith, members_length k n old))
        ∙ sym (ap (λ (m : ℕ). member_of (n + m) new) (eqb-true j i e) ∙ member_in_lem (n + i) (row ((n + i) ∷ ps) v 0) rs (any_hit (eqb (n + i)) (n + i) ps (eqb_same (n + i))))
    here j g false e =
        get_or-set_other (members_from k n old) i j (suc (length rs)) 0 (eqb-false j i e) ∙ members_at_lem k n old j g
        ∙ member_same (n + j) (row ps v 0) (row ((n + i) ∷ ps) v 0) rs (sym (any_miss (eqb (n + j)) (n + i) ps (ne_eqb (n + j) (n + i) (λ q. eqb-false j i e (omega (arith, q))))))

    each : (j : ℕ) → j < length (set (members_from k n old) i (suc (length rs))) → get_or (set (members_from k n old) i (suc (length rs))) j 0 ≡ get_or (members_from k n new) j 0
    each j g =
        let b : j < k = omega (arith, g, length-set (members_from k n old) i (suc (length rs)), members_length k n old) in
        here j b (eqb j i) refl ∙ sym (members_at_lem k n new j b)

-- A ROW'S CLAIM: nothing where it clashes
abbrev pub unless : Bool → List ℕ → Option (List ℕ)
unless true t = None
unless false t = Some t

module _ (v : ℤ) (rs : List Row) (z : List ℕ) where
  -- the members' cells where some members have come before
  abbrev begun : List ℕ → List ℕ
  begun ps = members_from 256 1 (row ps v 0 ∷ rs) ++ z

  abbrev gone : List ℕ → ℕ → Bool
  gone ps n = any (has n) (row ps v 0 ∷ rs)

  begun_at : (ps : List ℕ) (n : ℕ) → 1 ≤ n → n ≤ 256 → get_or (begun ps) (n - 1) 0 ≡ member_of n (row ps v 0 ∷ rs)
  begun_at ps n h g =
      let e : 1 + (n - 1) ≡ n = omega arith in
      let l = members_length 256 1 (row ps v 0 ∷ rs) in
      get_d_front (members_from 256 1 (row ps v 0 ∷ rs)) z (n - 1) (omega (arith, l)) ∙ members_at_lem 256 1 (row ps v 0 ∷ rs) (n - 1) (omega arith) ∙ ap (λ (m : ℕ). member_of m (row ps v 0 ∷ rs)) e

  begun_set : (ps : List ℕ) (n : ℕ) → 1 ≤ n → n ≤ 256 → set (begun ps) (n - 1) (suc (length rs)) ≡ begun (n ∷ ps)
  begun_set ps n h g =
      let e : 1 + (n - 1) ≡ n = omega arith in
      set-append_left (members_from 256 1 (row ps v 0 ∷ rs)) z (n - 1) (suc (length rs)) (omega (arith, members_length 256 1 (row ps v 0 ∷ rs)))
      ∙ ap (λ (l : List ℕ). l ++ z) (members_set 256 1 (n - 1) ps v rs (omega arith)) ∙ ap (λ (m : ℕ). begun (m ∷ ps)) e

  -- a member that came before is one that the others may meet
  gone_more : (n : ℕ) (ps ns : List ℕ) → any (gone (n ∷ ps)) ns ≡ (any (eqb n) ns || any (gone ps) ns)
  gone_more n ps ns = any_same (gone (n ∷ ps)) (λ m. eqb n m || gone ps m) each ns ∙ any_or (eqb n) (gone ps) ns
    where
      three : (a b c : Bool) → ((a || b) || c) ≡ (a || (b || c))
      three true b c = refl
      three false b c = refl

      each : (m : ℕ) → gone (n ∷ ps) m ≡ (eqb n m || gone ps m)
      each m =
          any_cons (has m) (row (n ∷ ps) v 0) rs ∙ ap (λ (b : Bool). b || any (has m) rs) (any_cons (eqb m) n ps ∙ ap (λ (b : Bool). b || is_in m ps) (eqb_symm m n))
          ∙ three (eqb n m) (is_in m ps) (any (has m) rs) ∙ ap (λ (b : Bool). eqb n m || b) (sym (any_cons (has m) (row ps v 0) rs))

  clash_more : (n : ℕ) (ps ns : List ℕ) → gone ps n ≡ false → (pairs eqb (n ∷ ns) || any (gone ps) (n ∷ ns)) ≡ (pairs eqb ns || any (gone (n ∷ ps)) ns)
  clash_more n ps ns e =
      ap (λ (b : Bool). pairs eqb (n ∷ ns) || b) (any_miss (gone ps) n ns e) ∙ ap (λ (b : Bool). b || any (gone ps) ns) (pairs_cons eqb n ns)
      ∙ four (any (eqb n) ns) (pairs eqb ns) (any (gone ps) ns) ∙ ap (λ (b : Bool). pairs eqb ns || b) (sym (gone_more n ps ns))
    where
      four : (a b c : Bool) → ((a || b) || c) ≡ (b || (a || c))
      four true true c = refl
      four true false c = refl
      four false b c = refl

  pub claims_are : (ns ps : List ℕ) → all (within 1 256) ns ≡ true
      → claims (suc (length rs)) ns (begun ps) ≡ unless (pairs eqb ns || any (gone ps) ns) (begun (reverse_aux ns ps))
  claims_are [] ps h =
      let q : (pairs eqb [] || any (gone ps) []) ≡ false = or_neither (pairs eqb []) (any (gone ps) []) (pairs_nil eqb) (any_nil (gone ps)) in
      claims_nil (suc (length rs)) (begun ps) ∙ sym (ap (λ (b : Bool). unless b (begun ps)) q)
  claims_are (n ∷ ns) ps h =
      let p : (within 1 256 n ≡ true) × (all (within 1 256) ns ≡ true) = all_parts (within 1 256) n ns h in
      let b : (1 ≤ n) × (n ≤ 256) = within_true 1 256 n p.0 in
      go (gone ps n) refl b.0 b.1 (claims_are ns (n ∷ ps) p.1)
    where
      go : (t : Bool) → gone ps n ≡ t → 1 ≤ n → n ≤ 256
          → claims (suc (length rs)) ns (begun (n ∷ ps)) ≡ unless (pairs eqb ns || any (gone (n ∷ ps)) ns) (begun (reverse_aux ns (n ∷ ps)))
          → claims (suc (length rs)) (n ∷ ns) (begun ps) ≡ unless (pairs eqb (n ∷ ns) || any (gone ps) (n ∷ ns)) (begun (reverse_aux ns (n ∷ ps)))
      go true e f g ih =
          claims_taken (suc (length rs)) n ns (begun ps) (λ q. member_some n (row ps v 0 ∷ rs) e (sym (begun_at ps n f g) ∙ q))
          ∙ sym (ap (λ (t : Bool). unless t (begun (reverse_aux ns (n ∷ ps)))) (or_right (pairs eqb (n ∷ ns)) (any (gone ps) (n ∷ ns)) (any_hit (gone ps) n ns e)))
      go false e f g ih =
          claims_free (suc (length rs)) n ns (begun ps) (begun_at ps n f g ∙ member_none n (row ps v 0 ∷ rs) e)
          ∙ ap (claims (suc (length rs)) ns) (begun_set ps n f g) ∙ ih ∙ sym (ap (λ (t : Bool). unless t (begun (reverse_aux ns (n ∷ ps)))) (clash_more n ps ns e))

-- ROWS THAT MEET
pub meets_spread : (s : Bool) (r q : Row) → meets (list_of s) r q ≡ overlap r.atoms q.atoms
unfolding meets
meets_spread true r q = refl
meets_spread false r q = refl

pub clash_spread : (s : Bool) (r q : Row) → clash (list_of s) r q ≡ meets (list_of s) r q
unfolding clash repeats
clash_spread true r q = and-true (meets (list_of true) r q)
clash_spread false r q = and-true (meets (list_of false) r q)

pub most_spread : (s : Bool) → most (list_of s) ≡ 64
unfolding most
most_spread true = refl
most_spread false = refl

pub overlap_some : (ns ms : List ℕ) → is_nil ns ≡ false → overlap ns ms ≡ any (λ n. is_in n ms) ns
unfolding overlap
overlap_some [] ms e = torn true refl e
overlap_some (n ∷ ns) ms e = refl

pub overlap_void : (ms : List ℕ) → overlap [] ms ≡ is_nil ms
unfolding overlap
overlap_void ms = ap (λ (b : Bool). is_nil ms || b) (any_nil (λ n. is_in n ms)) ∙ or-false (is_nil ms)

-- a row without atoms meets the row without atoms
pub meets_void : (s : Bool) (v : ℤ) (rs : List Row) → any (meets (list_of s) (row [] v 0)) rs ≡ any void rs
meets_void s v rs = any_same (meets (list_of s) (row [] v 0)) void (λ q. meets_spread s (row [] v 0) q ∙ overlap_void q.atoms) rs

-- some tests over one list, some over another: in either order
pub any_exchange : {A B : Type 0} (p : A → B → Bool) (xs : List A) (ys : List B) → any (λ y. any (λ x. p x y) xs) ys ≡ any (λ x. any (p x) ys) xs
any_exchange p [] ys = none_of ys
  where
    none_of : (zs : List _) → any (λ y. any (λ x. p x y) []) zs ≡ any (λ x. any (p x) ys) []
    none_of [] = any_nil (λ y. any (λ x. p x y) []) ∙ sym (any_nil (λ x. any (p x) ys))
    none_of (z ∷ zs) = any_miss (λ y. any (λ x. p x y) []) z zs (any_nil (λ x. p x z)) ∙ none_of zs
any_exchange p (x ∷ xs) ys =
    any_same (λ y. any (λ w. p w y) (x ∷ xs)) (λ y. p x y || any (λ w. p w y) xs) (λ y. any_cons (λ w. p w y) x xs) ys ∙ any_or (p x) (λ y. any (λ w. p w y) xs) ys
    ∙ ap (λ (b : Bool). any (p x) ys || b) (any_exchange p xs ys) ∙ sym (any_cons (λ w. any (p w) ys) x xs)

-- a row with atoms meets the rows that have one of them
pub meets_some : (s : Bool) (ns : List ℕ) (v : ℤ) (rs : List Row) → is_nil ns ≡ false → any (meets (list_of s) (row ns v 0)) rs ≡ any (λ n. any (has n) rs) ns
meets_some s ns v rs e =
    any_same (meets (list_of s) (row ns v 0)) (λ q. any (λ n. has n q) ns) (λ q. meets_spread s (row ns v 0) q ∙ overlap_some ns q.atoms e) rs ∙ any_exchange has ns rs

-- THE ROW WITHOUT ATOMS
pub void_in : (r : Row) (rs : List Row) → void r ≡ true → void_of (r ∷ rs) ≡ suc (length rs)
void_in r rs e = void_back (r ∷ rs) ∙ back_in void r rs e

pub void_out : (r : Row) (rs : List Row) → void r ≡ false → void_of (r ∷ rs) ≡ void_of rs
void_out r rs e = void_back (r ∷ rs) ∙ back_out void r rs e ∙ sym (void_back rs)

pub void_none : (rs : List Row) → any void rs ≡ false → void_of rs ≡ 0
void_none rs h = void_back rs ∙ back_none void rs h

pub void_some : (rs : List Row) → any void rs ≡ true → void_of rs ≡ 0 → ⊥
void_some rs h z = omega (arith, (back_some void rs h).0, void_back rs, z)

-- the region where a row's number is taken and its value is not yet there
abbrev pub halfway : Row → List Row → List ℕ
halfway r rs = members_from 256 1 (r ∷ rs) ++ (filled 0 64 (arrived rs) ++ (void_of (r ∷ rs) ∷ []))

pub region_is : (rs : List Row) → spread_region rs ≡ members_from 256 1 rs ++ (filled 0 64 (arrived rs) ++ (void_of rs ∷ []))
unfolding spread_region
region_is rs = refl

module _ (rs : List Row) (few : length rs ≤ 64) where
  values_length : length (filled 0 64 (arrived rs)) ≡ 64
  values_length = filled_length 0 64 (arrived rs) (omega (arith, arrived_length rs))

  front_length : (qs : List Row) → length (members_from 256 1 qs ++ filled 0 64 (arrived rs)) ≡ 320
  front_length qs = length-append (members_from 256 1 qs) (filled 0 64 (arrived rs)) ∙ omega (arith, members_length 256 1 qs, values_length)

  pub last_cell : get_or (spread_region rs) 320 0 ≡ void_of rs
  last_cell =
      ap (λ (l : List ℕ). get_or l 320 0) (region_is rs ∙ sym (append_assoc (members_from 256 1 rs) (filled 0 64 (arrived rs)) (void_of rs ∷ [])))
      ∙ get_or_at (members_from 256 1 rs ++ filled 0 64 (arrived rs)) (void_of rs) [] 0 320 (front_length rs)

  last_set : (v : ℤ) → set (spread_region rs) 320 (suc (length rs)) ≡ halfway (row [] v 0) rs
  last_set v =
      ap (λ (l : List ℕ). set l 320 (suc (length rs))) (region_is rs ∙ sym (append_assoc (members_from 256 1 rs) (filled 0 64 (arrived rs)) (void_of rs ∷ [])))
      ∙ set_at (members_from 256 1 rs ++ filled 0 64 (arrived rs)) (void_of rs) [] (suc (length rs)) 320 (front_length rs)
      ∙ append_assoc (members_from 256 1 rs) (filled 0 64 (arrived rs)) (suc (length rs) ∷ [])
      ∙ ap (λ (l : List ℕ). l ++ (filled 0 64 (arrived rs) ++ (suc (length rs) ∷ []))) (sym (members_void 256 1 v rs))
      ∙ ap (λ (n : ℕ). members_from 256 1 (row [] v 0 ∷ rs) ++ (filled 0 64 (arrived rs) ++ (n ∷ []))) (sym (void_in (row [] v 0) rs refl))

  -- the claim of a row without atoms
  pub claimed_void : (s : Bool) (v : ℤ) → claimed (suc (length rs)) [] (spread_region rs) ≡ unless (any (meets (list_of s) (row [] v 0)) rs) (halfway (row [] v 0) rs)
  claimed_void s v = go (any void rs) refl ∙ sym (ap (λ (b : Bool). unless b (halfway (row [] v 0) rs)) (meets_void s v rs))
    where
      go : (t : Bool) → any void rs ≡ t → claimed (suc (length rs)) [] (spread_region rs) ≡ unless (any void rs) (halfway (row [] v 0) rs)
      go true e = void_taken (suc (length rs)) (spread_region rs) (λ q. void_some rs e (sym last_cell ∙ q)) ∙ sym (ap (λ (b : Bool). unless b (halfway (row [] v 0) rs)) e)
      go false e =
          void_free (suc (length rs)) (spread_region rs) (last_cell ∙ void_none rs e) ∙ ap (λ (t : List ℕ). Some t) (last_set v)
          ∙ sym (ap (λ (b : Bool). unless b (halfway (row [] v 0) rs)) e)

  -- and of one with atoms, whatever order they are in
  module _ (s : Bool) (v : ℤ) (ns ms : List ℕ) (ink : is_nil ms ≡ false) (alike : (n : ℕ) → is_in n (reverse_aux ns []) ≡ is_in n ms) (tests : (p : ℕ → Bool) → any p ns ≡ any p ms) where
    gone_none : (n : ℕ) → any (has n) (row [] v 0 ∷ rs) ≡ any (has n) rs
    gone_none n = any_miss (has n) (row [] v 0) rs (any_nil (eqb n))

    clash_is : (pairs eqb ns || any (λ n. any (has n) (row [] v 0 ∷ rs)) ns) ≡ (pairs eqb ns || any (meets (list_of s) (row ms v 0)) rs)
    clash_is =
        ap (λ (b : Bool). pairs eqb ns || b)
        (any_same (λ n. any (has n) (row [] v 0 ∷ rs)) (λ n. any (has n) rs) gone_none ns ∙ tests (λ n. any (has n) rs) ∙ sym (meets_some s ms v rs ink))

    pub claimed_members : all (within 1 256) ns ≡ true → claims (suc (length rs)) ns (spread_region rs) ≡ unless (pairs eqb ns || any (meets (list_of s) (row ms v 0)) rs) (halfway (row ms v 0) rs)
    claimed_members h =
        let z : List ℕ = filled 0 64 (arrived rs) ++ (void_of rs ∷ []) in
        let one : spread_region rs ≡ members_from 256 1 (row [] v 0 ∷ rs) ++ z = region_is rs ∙ ap (λ (l : List ℕ). l ++ z) (sym (members_void 256 1 v rs)) in
        let two : members_from 256 1 (row (reverse_aux ns []) v 0 ∷ rs) ++ z ≡ halfway (row ms v 0) rs =
        ap (λ (l : List ℕ). l ++ z) (members_same 256 1 (row (reverse_aux ns []) v 0) (row ms v 0) rs alike)
        ∙ ap (λ (n : ℕ). members_from 256 1 (row ms v 0 ∷ rs) ++ (filled 0 64 (arrived rs) ++ (n ∷ []))) (sym (void_out (row ms v 0) rs ink)) in
        ap (claims (suc (length rs)) ns) one ∙ claims_are v rs z ns [] h
        ∙ ap (λ (b : Bool). unless b (members_from 256 1 (row (reverse_aux ns []) v 0 ∷ rs) ++ z)) clash_is
        ∙ ap (unless (pairs eqb ns || any (meets (list_of s) (row ms v 0)) rs)) two
