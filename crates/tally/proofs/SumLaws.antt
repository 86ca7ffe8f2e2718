-- Sums of entries by key: put together, and those of a table's atoms by their labels, which are those of each group by itself. Document 02, L1; document 01: "with
-- implied hydrogens counted as hydrogen without mass". Assumes nothing.
use Prim.Native.Nat.{ℕ, zero, suc, ◌+◌, ◌*◌, ◌≤◌, ◌<◌}
use mathlib.Core.Path.{◌≡◌, refl, sym, ap, ◌∙◌}
use mathlib.Core.Bool.{Bool, true, false, ◌&&◌}
use mathlib.Core.List.{List, [], ◌∷◌, ◌++◌, map, map-append}
use native.Mathlib.Omega.{arith}
use lib.ListN.{length, get_or, take}
use lib.Seq.{length-take-le}
use lib.IntN.{ℤ}
use lib.Dec.{eqb, ltb}
use borrow.Author.Tests.{lt-ltb, ltb-true, eq-eqb, ne_eqb, eqb-true, eqb-false}
use Rattle.lists.specs.Lists.{share, all, any}
use Rattle.lists.proofs.ListLaws.{all_parts, any_nil, any_hit, any_miss}
use Rattle.lists.proofs.IndexLaws.{map_length}
use Rattle.lists.proofs.LexLaws.{Sides, less, equal, greater, sides}
use Rattle.format.specs.Structure.{isotope_of, Atom, Entry, entries_of, group_of}
use Rattle.format.proofs.TotalLaws.{entries_bare, entries_implied, entries_append}
use Rattle.tally.specs.Ranks.{key_of}
use Rattle.tally.specs.declared.entries.Entry.{Entry as Tallied}
use Rattle.tally.specs.Gathering.{in_group, tallied, keyed, sum_of, atoms_in, atom_in}
use Rattle.tally.proofs.RankLaws.{hydrogen_rank}
use Rattle.tally.proofs.AtomLaws.{atoms_long, atoms_snoc}
use Rattle.tally.proofs.ShowLaws.{sum_nil, sum_hit, sum_miss}

-- a kind's entry by its key alone
abbrev pub plain : List Entry → List Tallied
plain es = map (λ e. tallied (key_of e.kind) e.count) es

-- SUMS of entries put together
module _ (k : ℕ) where
  pub sum_cons : (e : Tallied) (es : List Tallied) → sum_of k (e ∷ es) ≡ share (keyed k e) e.count + sum_of k es
  sum_cons e es = go (keyed k e) refl
    where
      go : (t : Bool) → keyed k e ≡ t → sum_of k (e ∷ es) ≡ share (keyed k e) e.count + sum_of k es
      go true h = sum_hit k e es h ∙ ap (λ (t : Bool). share t e.count + sum_of k es) (sym h)
      go false h = sum_miss k e es h ∙ omega (arith, ap (λ (t : Bool). share t e.count) h)

  sum_append : (es fs : List Tallied) → sum_of k (es ++ fs) ≡ sum_of k es + sum_of k fs
  sum_append [] fs = omega (arith, sum_nil k)
  sum_append (e ∷ es) fs = omega (arith, sum_cons e (es ++ fs), sum_cons e es, sum_append es fs)

  -- where every entry counts, the keys that are there are those with a sum
  pub keys_summed : (es : List Tallied) → all (λ (e : Tallied). ltb 0 e.count) es ≡ true → any (keyed k) es ≡ ltb 0 (sum_of k es)
  keys_summed [] h = any_nil (keyed k) ∙ sym (ap (ltb 0) (sum_nil k))
  keys_summed (e ∷ es) h = let p = all_parts (λ (f : Tallied). ltb 0 f.count) e es h in go (keyed k e) refl p.0 (keys_summed es p.1)
    where
      go : (t : Bool) → keyed k e ≡ t → ltb 0 e.count ≡ true → any (keyed k) es ≡ ltb 0 (sum_of k es) → any (keyed k) (e ∷ es) ≡ ltb 0 (sum_of k (e ∷ es))
      go true q c ih = let n : 0 < e.count = ltb-true 0 e.count c in any_hit (keyed k) e es q ∙ sym (lt-ltb 0 (sum_of k (e ∷ es)) (omega (arith, sum_hit k e es q)))
      go false q c ih = any_miss (keyed k) e es q ∙ ih ∙ ap (ltb 0) (sym (sum_miss k e es q))

  -- one atom's entries
  pub sum_atom : (a : Atom) → sum_of k (plain (entries_of (a ∷ []))) ≡ share (eqb k (key_of a.kind)) 1 + share (eqb k (key_of (isotope_of 1 0))) a.hydrogens
  unfolding entries_of
  sum_atom a = go a.hydrogens refl
    where
      None : (b : Bool) → share b 0 ≡ 0
      None true = refl
      None false = refl

      go : (n : ℕ) → a.hydrogens ≡ n → sum_of k (plain (entries_of (a ∷ []))) ≡ share (eqb k (key_of a.kind)) 1 + share (eqb k (key_of (isotope_of 1 0))) a.hydrogens
      go zero e =
          ap (λ (es : List Entry). sum_of k (plain es)) (entries_bare a [] e) ∙ sum_cons (tallied (key_of a.kind) 1) []
          ∙ omega (arith, sum_nil k, ap (share (eqb k (key_of (isotope_of 1 0)))) e, None (eqb k (key_of (isotope_of 1 0))))
      go (suc n) e =
          ap (λ (es : List Entry). sum_of k (plain es)) (entries_implied a [] n e) ∙ sum_cons (tallied (key_of a.kind) 1) (tallied (key_of (isotope_of 1 0)) (suc n) ∷ [])
          ∙ omega (arith, sum_cons (tallied (key_of (isotope_of 1 0)) (suc n)) [], sum_nil k, ap (share (eqb k (key_of (isotope_of 1 0)))) e)

  pub sum_more : (rest more : List Atom) → sum_of k (plain (entries_of (rest ++ more))) ≡ sum_of k (plain (entries_of rest)) + sum_of k (plain (entries_of more))
  sum_more rest more =
      ap (λ (es : List Entry). sum_of k (plain es)) (entries_append rest more) ∙ ap (sum_of k) (map-append (λ e. tallied (key_of e.kind) e.count) (entries_of rest) (entries_of more))
      ∙ sum_append (plain (entries_of rest)) (plain (entries_of more))

-- ONE KEY IN ONE GROUP
module _ (b d : ℕ) (p : b < 65536) (q : d < 65536) (a c : ℕ) where
  pub group_same : eqb (in_group a b) (in_group c d) ≡ (eqb a c && eqb b d)
  group_same = go (sides a c) (sides b d)
    where
      go : Sides a c → Sides b d → eqb (in_group a b) (in_group c d) ≡ (eqb a c && eqb b d)
      go (less h) s = rw (ne_eqb a c (omega arith)) (ne_eqb (in_group a b) (in_group c d) (omega arith))
      go (greater h) s = rw (ne_eqb a c (omega arith)) (ne_eqb (in_group a b) (in_group c d) (omega arith))
      go (equal h) (less k) = rw (eq-eqb a c h, ne_eqb b d (omega arith)) (ne_eqb (in_group a b) (in_group c d) (omega arith))
      go (equal h) (equal k) = rw (eq-eqb a c h, eq-eqb b d k) (eq-eqb (in_group a b) (in_group c d) (omega arith))
      go (equal h) (greater k) = rw (eq-eqb a c h, ne_eqb b d (omega arith)) (ne_eqb (in_group a b) (in_group c d) (omega arith))

-- HOW MANY OF A KEY the first n atoms count by their labels
unfoldable pub sum_at : List ℤ → (labels : List ℕ) → (n key : ℕ) → ℕ
sum_at t ls zero k = 0
sum_at t ls (suc n) k =
    (share (eqb k (in_group (get_or ls n 0) (key_of (atom_in t n).kind))) 1 + share (eqb k (in_group (get_or ls n 0) 1024)) (atom_in t n).hydrogens) + sum_at t ls n k

take_more : (n : ℕ) (ls : List ℕ) → n < length ls → take (suc n) ls ≡ take n ls ++ (get_or ls n 0 ∷ [])
take_more n [] h = absurd (omega arith)
take_more zero (l ∷ ls) h = refl
take_more (suc n) (l ∷ ls) h = ap (λ (r : List ℕ). l ∷ r) (take_more n ls (omega arith))

-- a group with one atom more
groups_more : (i l : ℕ) (ls : List ℕ) (a : Atom) (rest : List Atom) → length ls ≡ length rest → group_of i (ls ++ (l ∷ [])) (rest ++ (a ∷ [])) ≡ group_of i ls rest ++ group_of i (l ∷ []) (a ∷ [])
unfolding group_of
groups_more i l [] a [] e = refl
groups_more i l [] a (b ∷ rest) e = absurd (omega (arith, e))
groups_more i l (m ∷ ls) a [] e = absurd (omega (arith, e))
groups_more i l (m ∷ ls) a (b ∷ rest) e = by (eqb i m) refl (groups_more i l ls a rest (omega (arith, e)))
  where
    by : (t : Bool) → eqb i m ≡ t → group_of i (ls ++ (l ∷ [])) (rest ++ (a ∷ [])) ≡ group_of i ls rest ++ group_of i (l ∷ []) (a ∷ [])
        → group_of i (m ∷ (ls ++ (l ∷ []))) (b ∷ (rest ++ (a ∷ []))) ≡ group_of i (m ∷ ls) (b ∷ rest) ++ group_of i (l ∷ []) (a ∷ [])
    by true q ih = rw (q, group_of) (ap (λ (xs : List Atom). b ∷ xs) ih)
    by false q ih = rw (q, group_of) ih

group_hit : (i l : ℕ) (a : Atom) → eqb i l ≡ true → group_of i (l ∷ []) (a ∷ []) ≡ a ∷ []
unfolding group_of
group_hit i l a e = rw (e, group_of)

group_miss : (i l : ℕ) (a : Atom) → eqb i l ≡ false → group_of i (l ∷ []) (a ∷ []) ≡ []
unfolding group_of
group_miss i l a e = rw (e, group_of)

next_same : (a b : ℕ) (t : Bool) → eqb a b ≡ t → eqb (suc a) (suc b) ≡ t
next_same a b true e = eq-eqb (suc a) (suc b) (ap suc (eqb-true a b e))
next_same a b false e = ne_eqb (suc a) (suc b) (λ q. eqb-false a b e (omega arith))

-- AND THOSE ARE EACH GROUP'S OWN
module _ (t : List ℤ) (ls : List ℕ) (m κ : ℕ) (small : κ < 65536) where
  here : (b : Bool) (l x n : ℕ) → x < 65536 → eqb m l ≡ b → share (eqb (in_group m κ) (in_group l x)) n ≡ share b (share (eqb κ x) n)
  here true l x n h e = ap (λ (c : Bool). share c n) (group_same κ x small h m l ∙ ap (λ (c : Bool). c && eqb κ x) e)
  here false l x n h e = ap (λ (c : Bool). share c n) (group_same κ x small h m l ∙ ap (λ (c : Bool). c && eqb κ x) e)

  hydrogens_key : key_of (isotope_of 1 0) ≡ 1024
  unfolding key_of
  hydrogens_key = ap (λ (n : ℕ). 512 * n + 0) hydrogen_rank

  abbrev in_own : (n : ℕ) → List Atom
  in_own n = group_of (suc m) (map suc (take n ls)) (atoms_in t n)

  own_more : (n : ℕ) → n < length ls → in_own (suc n) ≡ in_own n ++ group_of (suc m) (suc (get_or ls n 0) ∷ []) (atom_in t n ∷ [])
  own_more n h =
      let q : map suc (take (suc n) ls) ≡ map suc (take n ls) ++ (suc (get_or ls n 0) ∷ []) = ap (map suc) (take_more n ls h) ∙ map-append suc (take n ls) (get_or ls n 0 ∷ []) in
      ap (λ (xs : List ℕ). group_of (suc m) xs (atoms_in t (suc n))) q ∙ ap (group_of (suc m) (map suc (take n ls) ++ (suc (get_or ls n 0) ∷ []))) (atoms_snoc t n)
      ∙ groups_more (suc m) (suc (get_or ls n 0)) (map suc (take n ls)) (atom_in t n) (atoms_in t n)
      (map_length suc (take n ls) ∙ length-take-le n ls (omega arith) ∙ sym (atoms_long t n))

  one_more_lem : (n : ℕ) → key_of (atom_in t n).kind < 65536 → (b : Bool) → eqb m (get_or ls n 0) ≡ b → sum_of κ (plain (entries_of (group_of (suc m) (suc (get_or ls n 0) ∷ []) (atom_in t n ∷ []))))
      ≡ share b (share (eqb κ (key_of (atom_in t n).kind)) 1) + share b (share (eqb κ 1024) (atom_in t n).hydrogens)
  unfolding entries_of
  one_more_lem n f true e =
      ap (λ (xs : List Atom). sum_of κ (plain (entries_of xs))) (group_hit (suc m) (suc (get_or ls n 0)) (atom_in t n) (next_same m (get_or ls n 0) true e)) ∙ sum_atom κ (atom_in t n)
      ∙ ap (λ (x : ℕ). share (eqb κ (key_of (atom_in t n).kind)) 1 + share (eqb κ x) (atom_in t n).hydrogens) hydrogens_key
  one_more_lem n f false e = ap (λ (xs : List Atom). sum_of κ (plain (entries_of xs))) (group_miss (suc m) (suc (get_or ls n 0)) (atom_in t n) (next_same m (get_or ls n 0) false e)) ∙ sum_nil κ

  pub group_sum : (n : ℕ) → n ≤ length ls → ((i : ℕ) → i < n → key_of (atom_in t i).kind < 65536) → sum_at t ls n (in_group m κ) ≡ sum_of κ (plain (entries_of (in_own n)))
  unfolding sum_at group_of entries_of
  group_sum zero h f = sym (sum_nil κ)
  group_sum (suc n) h f =
      let b : Bool = eqb m (get_or ls n 0) in
      let k : key_of (atom_in t n).kind < 65536 = f n (omega arith) in
      omega (
        arith,
        here b (get_or ls n 0) (key_of (atom_in t n).kind) 1 k refl,
        here b (get_or ls n 0) 1024 (atom_in t n).hydrogens (omega arith) refl,
        group_sum n (omega arith) (λ i g. f i (omega arith)),
        ap (λ (xs : List Atom). sum_of κ (plain (entries_of xs))) (own_more n (omega arith)),
        sum_more κ (in_own n) (group_of (suc m) (suc (get_or ls n 0) ∷ []) (atom_in t n ∷ [])),
        one_more_lem n k b refl,
      )
