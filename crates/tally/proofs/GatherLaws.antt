-- The pass over the atoms: what the regions show of the first atoms, a group left, one atom more, and in the end the formula's entries group by group. Document 01, "The
-- one written form", and document 02, L1. Assumes nothing.
use Prim.Native.Nat.{ℕ, zero, suc, ◌+◌, ◌-◌, ◌*◌, ◌/◌, ◌%◌, ◌≤◌, ◌<◌}
use mathlib.Core.Path.{◌≡◌, refl, sym, ap, ap₂, ◌∙◌, subst}
use mathlib.Core.Bool.{Bool, true, false}
use mathlib.Core.List.{List, [], ◌∷◌, map}
use native.Mathlib.Numerals.{add-one}
use native.Mathlib.Omega.{arith}
use lib.ListN.{length, get_or, take, drop, set, get_or-eq_default}
use lib.Seq.{length-take-le, take_all}
use lib.IntN.{ℤ}
use lib.Dec.{eqb, ltb}
use borrow.Author.Tests.{lt-ltb, ltb-true, ltb-false, eqb-true, eqb-false, eq-eqb, ne_eqb}
use Rattle.std.specs.Prelude.{Some, None}
use Rattle.lists.specs.Lists.{share, all, any, count_up}
use Rattle.lists.proofs.ListLaws.{all_nil, all_parts, all_both, all_at, all_imply}
use Rattle.lists.proofs.PartLaws.{all_map}
use Rattle.lists.proofs.IndexLaws.{map_length, map_at, count_long, count_at_lem}
use Rattle.format.specs.Structure.{Isotope, Atom, entries_of, total, group_of, groups_by, atom_ok}
use Rattle.format.specs.Table.{count_at, decode}
use Rattle.format.proofs.TotalLaws.{entries_counted}
use Rattle.tally.specs.Ranks.{key_of, key_if, fine}
use Rattle.tally.specs.declared.entries.Entry.{Entry as Tallied}
use Rattle.tally.specs.Gathering.{in_formula, in_group, group_keys, group_counts, keys_in, counts_in, Gathered, Gathers, atoms_in, GathersAtoms, tallied, sum_of, Shows, TallyShows, KeysAscend, PlaceOf, AddShows, atom_no, atom_in, closed, CloseShows}
use Rattle.tally.proofs.KeyLaws.{atom_fine_lem, key_if_lem, key_high}
use Rattle.tally.proofs.ShowLaws.{sum_nil, shows_none, shows_long, shows_count}
use Rattle.tally.proofs.AddLaws.{keys_up}
use Rattle.tally.proofs.AtomLaws.{atoms_long, atom_at_lem, atoms_to, atoms_are, part_atoms, entries_fine}
use Rattle.tally.proofs.SumLaws.{plain, sum_cons, keys_summed, sum_at, group_sum}
use Rattle.tally.proofs.FormulaLaws.{ascending_same, sum_total, formula_fine_lem, formula_ascends, formula_there}
use Rattle.tally.proofs.GroupLaws.{joined_keys, AllFit, joined_ascends, joined_there, keys_of, keys_at, keys_joined, no_isotope, counts_are}

-- so many atoms of a table's part t in by their labels, h implied hydrogens of the group that runs not yet counted: the tally k shows the others
pub record Passed (t : List ℤ) (ls : List ℕ) (i room group h : ℕ) (k : List Tallied) : Type 0 where
  pub few : length k ≤ room
  pub small : h ≤ 15 * i
  pub most : (x : ℕ) → sum_at t ls i x ≤ 16 * i
  pub entries : List Tallied
  pub counted : all (λ (e : Tallied). ltb 0 e.count) entries ≡ true
  pub shows : TallyShows entries k
  pub sums : (x : ℕ) → share (eqb x (in_group group 1024)) h + sum_of x entries ≡ sum_at t ls i x

share_none : (b : Bool) → share b 0 ≡ 0
share_none true = refl
share_none false = refl

share_sum : (b : Bool) (m n : ℕ) → share b (m + n) ≡ share b m + share b n
share_sum true m n = refl
share_sum false m n = refl

share_most : (b : Bool) (n : ℕ) → share b n ≤ n
share_most true n = omega arith
share_most false n = omega arith

pub passed_none : (t : List ℤ) (ls : List ℕ) → Passed t ls 0 (2 * 0 - 1) 0 0 []
unfolding sum_at
passed_none t ls = record {
  few = omega arith;
  small = omega arith;
  most = λ x. omega arith;
  entries = [];
  counted = all_nil (λ (e : Tallied). ltb 0 e.count);
  shows = shows_none;
  sums = λ x. omega (arith, share_none (eqb x (in_group 0 1024)), sum_nil x);
}

module _ (t : List ℤ) (ls : List ℕ) (i room group h : ℕ) (k : List Tallied) (p : Passed t ls i room group h k) where
  pub passed_up : KeysAscend k
  passed_up = keys_up p.entries k p.shows

  -- no count passes what the atoms that are in can count
  pub passed_small : (place : ℕ) → get_or (counts_in k) place 0 ≤ 16 * i
  passed_small place = by (ltb place (length (keys_in k))) refl
    where
      x : ℕ
      x = get_or (keys_in k) place 0

      by : (b : Bool) → ltb place (length (keys_in k)) ≡ b → get_or (counts_in k) place 0 ≤ 16 * i
      by true e = omega (arith, shows_count p.entries (keys_in k) (counts_in k) p.shows place (ltb-true place _ e), p.sums x, p.most x)
      by false e = let z : get_or (counts_in k) place 0 ≡ 0 = get_or-eq_default (counts_in k) 0 (omega (arith, ltb-false place _ e, shows_long p.entries (keys_in k) (counts_in k) p.shows)) in omega arith

  -- room for more
  pub passed_roomy : (room' : ℕ) → room ≤ room' → Passed t ls i room' group h k
  passed_roomy room' q = record { few = omega (arith, p.few, q); small = p.small; most = p.most; entries = p.entries; counted = p.counted; shows = p.shows; sums = p.sums }

  -- the group ends; before the first atom there is nothing to count
  module _ (next : ℕ) (k' : List Tallied) (q : room ≡ 2 * i - 1) (few : length k' ≤ length k + 1) (same : h ≡ 0 → k' ≡ k) (s : CloseShows group h k k') where
    room_left : (j : ℕ) → i ≡ j → length k' ≤ 2 * j
    room_left zero e = omega (arith, p.few, ap length (same (omega (arith, p.small, e))), q, e)
    room_left (suc j) e = omega (arith, p.few, few, q, e)

    abbrev Next : Type 0
    Next = Passed t ls i (2 * i) next 0 k'

    with_entries : (es : List Tallied) → closed group h p.entries ≡ es → all (λ (e : Tallied). ltb 0 e.count) es ≡ true → ((x : ℕ) → sum_of x es ≡ share (eqb x (in_group group 1024)) h + sum_of x p.entries) → Next
    with_entries es e n f = record {
      few = room_left i refl;
      small = omega arith;
      most = p.most;
      entries = es;
      counted = n;
      shows = subst (λ (xs : List Tallied). TallyShows xs k') e (s p.entries p.shows);
      sums = λ x. ap (λ (m : ℕ). m + sum_of x es) (share_none (eqb x (in_group next 1024))) ∙ omega (arith, f x, p.sums x);
    }

    pub passed_closed : Next
    unfolding closed
    passed_closed = by (eqb h 0) refl
      where
        some : (n : ℕ) → (n ≡ 0 → ⊥) → 0 < n
        some zero g = absurd (g refl)
        some (suc n) g = omega arith

        by : (b : Bool) → eqb h 0 ≡ b → Next
        by true e =
            with_entries p.entries (rw (e, closed)) p.counted
            (λ x. sym (ap (λ (m : ℕ). m + sum_of x p.entries) (ap (share (eqb x (in_group group 1024))) (eqb-true h 0 e) ∙ share_none (eqb x (in_group group 1024))) ∙ omega arith))
        by false e =
            with_entries (tallied (in_group group 1024) h ∷ p.entries) (rw (e, closed))
            (all_both (λ (a : Tallied). ltb 0 a.count) (tallied (in_group group 1024) h) p.entries (lt-ltb 0 h (some h (eqb-false h 0 e))) p.counted)
            (λ x. sum_cons x (tallied (in_group group 1024) h) p.entries)

  -- one atom more, of the group that runs
  pub passed_one : (own place more key : ℕ) (k' : List Tallied) → room ≡ 2 * i → group ≡ get_or ls i 0 → key_of (atom_in t i).kind ≡ own → more ≡ (atom_in t i).hydrogens → more ≤ 15
      → key ≡ in_group group own → PlaceOf key k place → length k' ≤ length k + 1 → AddShows place key 1 k k' → Passed t ls (i + 1) (2 * (i + 1) - 1) group (h + more) k'
  unfolding sum_at
  passed_one own place more key k' q g e' m f kk w l s =
      let v : (x : ℕ) → sum_at t ls (i + 1) x ≡ (share (eqb x key) 1 + share (eqb x (in_group group 1024)) more) + sum_at t ls i x =
      λ x. ap (λ (j : ℕ). sum_at t ls j x) (add-one i)
      ∙ ap₂ (λ (y o : ℕ). (share (eqb x (in_group y o)) 1 + share (eqb x (in_group y 1024)) (atom_in t i).hydrogens) + sum_at t ls i x) (sym g) e'
      ∙ ap₂ (λ (y o : ℕ). (share (eqb x y) 1 + share (eqb x (in_group group 1024)) o) + sum_at t ls i x) (sym kk) (sym m) in
      record {
        few = omega (arith, p.few, l, q);
        small = omega (arith, p.small, f);
        most = λ x. omega (arith, v x, p.most x, share_most (eqb x key) 1, share_most (eqb x (in_group group 1024)) more, f);
        entries = tallied key 1 ∷ p.entries;
        counted = all_both (λ (a : Tallied). ltb 0 a.count) (tallied key 1) p.entries refl p.counted;
        shows = s p.entries (tallied key 1) refl refl w p.shows;
        sums = λ x. omega (arith, p.sums x, v x, share_sum (eqb x (in_group group 1024)) h more, sum_cons x (tallied key 1) p.entries);
      }

-- A GROUP CLOSED, as the code does it
module _ (group h : ℕ) (k : List Tallied) where
  pub closed_none : h ≡ 0 → CloseShows group h k k
  unfolding closed
  closed_none e es s = subst (λ (xs : List Tallied). TallyShows xs k) (sym (rw (eq-eqb h 0 e, closed))) s

  pub closed_added : (h ≡ 0 → ⊥) → (key place : ℕ) (k' : List Tallied) → key ≡ in_group group 1024 → (KeysAscend k → PlaceOf key k place) → AddShows place key h k k' → CloseShows group h k k'
  unfolding closed
  closed_added m key place k' e w f es s =
      let q : closed group h es ≡ tallied (in_group group 1024) h ∷ es = rw (ne_eqb h 0 m, closed) in
      subst (λ (xs : List Tallied). TallyShows xs k') (sym q) (f es (tallied (in_group group 1024) h) (sym e) refl (w (keys_up es k s)) s)

-- AN ATOM THAT NO SOUND TABLE HAS
module _ (t : List ℤ) (ls : List ℕ) (i : ℕ) (k : List Tallied) (b : i < length ls) where
  there : all (atom_ok 103) (atoms_in t (length ls)) ≡ true → atom_ok 103 (atom_in t i) ≡ true
  there h = atom_at_lem (atom_ok 103) t (length ls) i h b

  pub no_kind : None ≡ key_if (atom_in t i).kind → GathersAtoms t ls k
  no_kind e h lab =
      let f : fine (atom_in t i).kind ≡ true = (atom_fine_lem (atom_in t i) (there h)).0 in
      let w : Some (key_of (atom_in t i).kind) ≡ None = sym (key_if_lem (atom_in t i).kind f) ∙ sym e in cc

  pub no_hydrogens : (more : ℕ) → more ≡ (atom_in t i).hydrogens → 15 < more → GathersAtoms t ls k
  no_hydrogens more e z h lab = absurd (omega (arith, (atom_fine_lem (atom_in t i) (there h)).1, e, z))

-- A GROUP'S atoms are the table's; none is in a group that no label names
pub group_all : (p : Atom → Bool) (i : ℕ) (xs : List ℕ) (atoms : List Atom) → all p atoms ≡ true → all p (group_of i xs atoms) ≡ true
unfolding group_of
group_all p i [] atoms h = all_nil p
group_all p i (x ∷ xs) [] h = all_nil p
group_all p i (x ∷ xs) (a ∷ atoms) h = let q = all_parts p a atoms h in by (eqb i x) refl q.0 (group_all p i xs atoms q.1)
  where
    by : (b : Bool) → eqb i x ≡ b → p a ≡ true → all p (group_of i xs atoms) ≡ true → all p (group_of i (x ∷ xs) (a ∷ atoms)) ≡ true
    by true e own ih = rw (e, group_of) (all_both p a (group_of i xs atoms) own ih)
    by false e own ih = rw (e, group_of) ih

pub groups_all : (p : Atom → Bool) (xs is : List ℕ) (atoms : List Atom) → all p atoms ≡ true → all (all p) (map (λ i. group_of i xs atoms) is) ≡ true
groups_all p xs [] atoms h = all_nil (all p)
groups_all p xs (i ∷ is) atoms h = all_both (all p) (group_of i xs atoms) (map (λ j. group_of j xs atoms) is) (group_all p i xs atoms h) (groups_all p xs is atoms h)

-- a bound on all numbers of a list still holds where one that keeps it is put among them
pub low_set : (b : ℕ) (l : List ℕ) → ((j : ℕ) → get_or l j 0 ≤ b) → (i a : ℕ) → a ≤ b → (j : ℕ) → get_or (set l i a) j 0 ≤ b
low_set b [] h i a k j = h j
low_set b (x ∷ xs) h zero a k zero = k
low_set b (x ∷ xs) h zero a k (suc j) = h (suc j)
low_set b (x ∷ xs) h (suc i) a k zero = h zero
low_set b (x ∷ xs) h (suc i) a k (suc j) = low_set b xs (λ m. h (suc m)) i a k j

group_none : (n m : ℕ) → n ≤ m → (ls : List ℕ) (atoms : List Atom) → all (λ l. ltb l n) ls ≡ true → group_of (suc m) (map suc ls) atoms ≡ []
unfolding group_of
group_none n m h [] atoms f = refl
group_none n m h (l ∷ ls) [] f = refl
group_none n m h (l ∷ ls) (a ∷ atoms) f =
    let q = all_parts (λ x. ltb x n) l ls f in
    let e : eqb (suc m) (suc l) ≡ false = ne_eqb (suc m) (suc l) (λ z. omega (arith, z, h, ltb-true l n q.0)) in
    rw (e, group_of) (group_none n m h ls atoms q.1)

-- THE FORMULA'S ENTRIES, group by group
module _ (t : List ℤ) (labels : List ℕ) (n : ℕ) (ok : all (atom_ok 103) (atoms_in t n) ≡ true) (enough : n ≤ length labels) (named : all (λ l. ltb l n) (take n labels) ≡ true) where
  abbrev marks : List ℕ
  marks = map suc (take n labels)

  abbrev own : ℕ → List Atom
  own i = group_of i marks (atoms_in t n)

  abbrev gs : List (List Atom)
  gs = map own (count_up 1 n)

  groups_long : length gs ≡ n
  groups_long = map_length own (count_up 1 n) ∙ count_long 1 n

  fine_own : (i : ℕ) → all (λ e. fine e.kind) (entries_of (own i)) ≡ true
  fine_own i = entries_fine (own i) (group_all (atom_ok 103) i marks (atoms_in t n) ok)

  all_fit : (xs : List ℕ) → AllFit (keys_of (map own xs))
  unfolding in_formula
  all_fit [] = tt
  all_fit (x ∷ xs) = (
    (
      formula_ascends (entries_of (own x)) (fine_own x),
      all_map (λ k. ltb k 65536) key_of (in_formula (own x)) ∙ all_imply fine (λ i. ltb (key_of i) 65536) (λ i f. lt-ltb (key_of i) 65536 (key_high i f)) (in_formula (own x)) (formula_fine_lem (entries_of (own x)) (fine_own x)),
    ),
    all_fit xs,
  )

  own_at : (m : ℕ) → own (suc m) ≡ get_or gs m []
  own_at m = by (ltb m n) refl
    where
      by : (b : Bool) → ltb m n ≡ b → own (suc m) ≡ get_or gs m []
      by true e =
          let h : m < n = ltb-true m n e in
          sym (map_at own [] 0 (count_up 1 n) m (omega (arith, h, count_long 1 n)) ∙ ap own (count_at_lem 1 n m h ∙ omega arith))
      by false e =
          let h : n ≤ m = ltb-false m n e in
          group_none n m h (take n labels) (atoms_in t n) named ∙ sym (get_or-eq_default gs [] (omega (arith, h, groups_long)))

  key_fine : (i : ℕ) → i < n → key_of (atom_in t i).kind < 65536
  key_fine i h = key_high (atom_in t i).kind (atom_fine_lem (atom_in t i) (atom_at_lem (atom_ok 103) t n i ok h)).0

  sum_own : (m κ : ℕ) → κ < 65536 → sum_at t labels n (in_group m κ) ≡ sum_of κ (plain (entries_of (get_or gs m [])))
  sum_own m κ h = group_sum t labels m κ h n enough key_fine ∙ ap (λ (atoms : List Atom). sum_of κ (plain (entries_of atoms))) (own_at m)

  module _ (es : List Tallied) (counted : all (λ (e : Tallied). ltb 0 e.count) es ≡ true) (sums : (x : ℕ) → sum_of x es ≡ sum_at t labels n x) (ks cs : List ℕ) (s : Shows es ks cs) where
    there_in : (m κ : ℕ) → κ < 65536 → any (eqb (in_group m κ)) ks ≡ any (eqb (in_group m κ)) (joined_keys 0 (keys_of gs))
    unfolding in_formula
    there_in m κ h =
        let g : List Atom = get_or gs m [] in
        s.there (in_group m κ) ∙ keys_summed (in_group m κ) es counted ∙ ap (ltb 0) (sums (in_group m κ) ∙ sum_own m κ h)
        ∙ sym (keys_summed κ (plain (entries_of g)) (all_map (λ (e : Tallied). ltb 0 e.count) (λ e. tallied (key_of e.kind) e.count) (entries_of g) ∙ entries_counted g))
        ∙ sym (formula_there (entries_of g) (ap (λ (atoms : List Atom). all (λ e. fine e.kind) (entries_of atoms)) (sym (own_at m)) ∙ fine_own (suc m)) κ)
        ∙ ap (any (eqb κ)) (keys_at gs m) ∙ sym (joined_there 0 m κ h (keys_of gs) (all_fit (count_up 1 n))) ∙ ap (λ (j : ℕ). any (eqb (in_group j κ)) (joined_keys 0 (keys_of gs))) first
      where
        first : 0 + m ≡ m
        first = omega arith

    keys_are : ks ≡ group_keys 0 gs
    keys_are = ascending_same ks (joined_keys 0 (keys_of gs)) s.up (joined_ascends 0 (keys_of gs) (all_fit (count_up 1 n))) each ∙ sym (keys_joined 0 gs)
      where
        each : (k : ℕ) → any (eqb k) ks ≡ any (eqb k) (joined_keys 0 (keys_of gs))
        each k =
            let q : in_group (k / 65536) (k % 65536) ≡ k = omega arith in
            subst (λ (x : ℕ). any (eqb x) ks ≡ any (eqb x) (joined_keys 0 (keys_of gs))) q (there_in (k / 65536) (k % 65536) (omega arith))

    total_own : (d i : ℕ) → d < length gs → i < length (in_formula (get_or gs d [])) → sum_of (in_group (0 + d) (key_of (get_or (in_formula (get_or gs d [])) i no_isotope))) es ≡ total (get_or (in_formula (get_or gs d [])) i no_isotope) (entries_of (get_or gs d []))
    unfolding in_formula
    total_own d i b c =
        let g : List Atom = get_or gs d [] in
        let x : Isotope = get_or (in_formula g) i no_isotope in
        let f : all (λ e. fine e.kind) (entries_of g) ≡ true = ap (λ (atoms : List Atom). all (λ e. fine e.kind) (entries_of atoms)) (sym (own_at d)) ∙ fine_own (suc d) in
        let own_fine : fine x ≡ true = all_at fine no_isotope (in_formula g) i (formula_fine_lem (entries_of g) f) c in
        let z : 0 + d ≡ d = omega arith in
        ap (λ (j : ℕ). sum_of (in_group j (key_of x)) es) z ∙ sums (in_group d (key_of x)) ∙ sum_own d (key_of x) (key_high x own_fine) ∙ sum_total x own_fine (entries_of g) f

    counts_own : cs ≡ group_counts gs
    counts_own = s.sums ∙ ap (map (λ k. sum_of k es)) keys_are ∙ counts_are es 0 gs total_own

-- what is left in the end
pub gathered : (t : List ℤ) (ls : List ℕ) (i room group : ℕ) (k : List Tallied) → i ≡ length ls → Passed t ls i room group 0 k → GathersAtoms t ls k
gathered t ls i room group k q passed ok lab =
    let n : ℕ = length ls in
    let p : Passed t ls n room group 0 k = subst (λ (j : ℕ). Passed t ls j room group 0 k) q passed in
    let whole : take n ls ≡ ls = take_all n ls (omega arith) in
    let named : all (λ l. ltb l n) (take n ls) ≡ true = ap (all (λ l. ltb l n)) whole ∙ lab in
    let sums : (x : ℕ) → sum_of x p.entries ≡ sum_at t ls n x = λ x. omega (arith, p.sums x, share_none (eqb x (in_group group 1024))) in
    let same : groups_by (map suc ls) (atoms_in t n) ≡ map (λ i. group_of i (map suc (take n ls)) (atoms_in t n)) (count_up 1 n) =
    ap (λ (m : ℕ). map (λ i. group_of i (map suc ls) (atoms_in t n)) (count_up 1 m)) (atoms_long t n) ∙ ap (λ (xs : List ℕ). map (λ i. group_of i (map suc xs) (atoms_in t n)) (count_up 1 n)) (sym whole) in
    record {
      sorted = keys_are t ls n ok (omega arith) named p.entries p.counted sums (keys_in k) (counts_in k) p.shows ∙ ap (group_keys 0) (sym same);
      totals = counts_own t ls n ok (omega arith) named p.entries p.counted sums (keys_in k) (counts_in k) p.shows ∙ ap group_counts (sym same);
    }

-- OF A TABLE: a part of it whose atoms by index are the table's, and as many labels
pub of_table : (t a : List ℤ) (labels : List ℕ) (n m : ℕ) (k : List Tallied) → (n ≡ count_at t 0 256) × (n ≤ 256) → ((i : ℕ) → i < 256 → atom_in a i ≡ atom_no t i) → m ≡ n → n ≤ length labels → GathersAtoms a (take m labels) k → Gathers t labels k
of_table t a labels n m k q same f enough g ok lab =
    let e : (decode t).atoms ≡ atoms_in a n = atoms_are t ∙ ap (atoms_to t) (sym q.0) ∙ part_atoms t a n q.1 same in
    let size : length (decode t).atoms ≡ n = ap length e ∙ atoms_long a n in
    let own : length (take m labels) ≡ n = length-take-le m labels (omega (arith, f, enough)) ∙ f in
    let atoms : atoms_in a (length (take m labels)) ≡ (decode t).atoms = ap (atoms_in a) own ∙ sym e in
    let named : all (λ l. ltb l (length (take m labels))) (take m labels) ≡ true =
    subst (λ (j : ℕ). all (λ l. ltb l j) (take m labels) ≡ true) (size ∙ sym own) (subst (λ (j : ℕ). all (λ l. ltb l (length (decode t).atoms)) (take j labels) ≡ true) (size ∙ sym f) lab.named) in
    let fine_atoms : all (atom_ok 103) (atoms_in a (length (take m labels))) ≡ true = ap (all (atom_ok 103)) atoms ∙ ok in
    subst (λ (gs : List (List Atom)). Gathered gs k)
    (ap (groups_by (map suc (take m labels))) atoms ∙ ap (λ (j : ℕ). groups_by (map suc (take j labels)) (decode t).atoms) (f ∙ sym size))
    (g fine_atoms named)

-- too few labels
pub no_labels : (t : List ℤ) (labels : List ℕ) (n : ℕ) (k : List Tallied) → n ≡ count_at t 0 256 → length labels < n → Gathers t labels k
no_labels t labels n k q h ok lab =
    let e : (decode t).atoms ≡ atoms_to t n = atoms_are t ∙ ap (atoms_to t) (sym q) in
    absurd (omega (arith, h, lab.enough, ap length e ∙ atoms_long (drop 16 t) n))
