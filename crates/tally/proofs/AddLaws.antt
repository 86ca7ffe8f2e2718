-- One entry more in a tally, as src/entries.rt puts it: raised where its key stands at the place, else put in there. Assumes nothing.
use Prim.Native.Nat.{ℕ, suc, ◌+◌, ◌-◌, ◌≤◌, ◌<◌}
use mathlib.Core.Path.{◌≡◌, sym, ap, ap₂, ◌∙◌, subst}
use mathlib.Core.Bool.{Bool, true, false, ◌&&◌}
use mathlib.Core.List.{List, ◌∷◌, ◌++◌, map-append}
use native.Mathlib.Omega.{arith}
use lib.ListN.{length, get_or, set, take, drop, length-append, length-drop}
use lib.Seq.{get_or-take, length-take-le, take-take, take_at, drop_at, drop-drop, take-set-lt, set_split}
use borrow.Rule.Slice.PartMut.{put_mid}
use Rattle.std.proofs.Math.Seq.{map-set_same}
use Rattle.std.proofs.lemmas.List.{drop-take, length-take, map-set}
use Rattle.std.proofs.lemmas.Slice.{take-put_mid}
use lib.Dec.{eqb, ltb}
use borrow.Author.Tests.{eqb-true, ltb-true, lt-ltb, eq-eqb}
use Rattle.lists.proofs.Bools.{torn, and_parts, and_both}
use Rattle.lists.proofs.PartLaws.{map_take, map_drop}
use Rattle.lists.proofs.IndexLaws.{map_length, map_at}
use Rattle.lists.proofs.LexLaws.{Sides, less, equal, greater, sides}
use Rattle.tally.specs.declared.entries.Entry.{Entry as Tallied}
use Rattle.tally.specs.Gathering.{keys_in, counts_in, tallied, TallyShows, KeysAscend, AddShows}
use Rattle.tally.proofs.ShowLaws.{shows_up, shows_raised, shows_put}

abbrev key_in : Tallied → ℕ
key_in e = e.key

abbrev count_in : Tallied → ℕ
count_in e = e.count

abbrev nothing : Tallied
nothing = tallied 0 0

-- keys that show entries ascend
pub keys_up : (es t : List Tallied) → TallyShows es t → KeysAscend t
keys_up es t s i j a b = shows_up es (keys_in t) (counts_in t) s i j a (omega (arith, b, map_length key_in t))

-- whether the key stands at the place
pub stands : (t : List Tallied) (place key : ℕ) (b : Bool) → b ≡ (ltb place (length t) && eqb (get_or (keys_in t) place 0) key) → b ≡ true → (place < length t) × (get_or (keys_in t) place 0 ≡ key)
stands t place key b e h =
    let q = and_parts (ltb place (length t)) (eqb (get_or (keys_in t) place 0) key) (sym e ∙ h) in
    (ltb-true place (length t) q.0, eqb-true (get_or (keys_in t) place 0) key q.1)

module _ (t : List Tallied) (place key more : ℕ) (b : Bool) (st : b ≡ (ltb place (length t) && eqb (get_or (keys_in t) place 0) key)) where
  -- raised: the entry at the place has its key still, and counts so many more
  pub add_raised : b ≡ true → (e' : Tallied) → e'.key ≡ (get_or t place nothing).key → e'.count ≡ (get_or t place nothing).count + more → AddShows place key more t (set t place e')
  add_raised h e' u v es e a m w s =
      let p : place < length t = (stands t place key b st h).0 in
      let q : get_or (keys_in t) place 0 ≡ key = (stands t place key b st h).1 in
      let ks : keys_in (set t place e') ≡ keys_in t = map-set_same key_in t place e' nothing u in
      let cs : counts_in (set t place e') ≡ set (counts_in t) place (get_or (counts_in t) place 0 + e.count) =
      map-set count_in t place e' ∙ ap (set (counts_in t) place) (v ∙ ap₂ (λ (n k : ℕ). n + k) (sym (map_at count_in 0 nothing t place p)) (sym m)) in
      rw (ks, cs) (shows_raised es (keys_in t) (counts_in t) s e place (omega (arith, p, map_length key_in t)) (q ∙ sym a))

  -- put in
  not_there : b ≡ false → place < length t → get_or (keys_in t) place 0 ≡ key → ⊥
  not_there h p q =
      torn (ltb place (length t) && eqb (get_or (keys_in t) place 0) key) (and_both (ltb place (length t)) (eqb (get_or (keys_in t) place 0) key) (lt-ltb place (length t) p) (eq-eqb (get_or (keys_in t) place 0) key q)) (sym st ∙ h)

  pub add_put : b ≡ false → place ≤ length t → AddShows place key more t (take place t ++ (tallied key more ∷ drop place t))
  add_put o p es e a m w s =
      let ks : keys_in (take place t ++ (tallied key more ∷ drop place t)) ≡ take place (keys_in t) ++ (e.key ∷ drop place (keys_in t)) =
      map-append key_in (take place t) (tallied key more ∷ drop place t)
      ∙ ap₂ (λ (x y : List ℕ). x ++ (key ∷ y)) (map_take key_in place t) (map_drop key_in place t) ∙ ap (λ (n : ℕ). take place (keys_in t) ++ (n ∷ drop place (keys_in t))) (sym a) in
      let cs : counts_in (take place t ++ (tallied key more ∷ drop place t)) ≡ take place (counts_in t) ++ (e.count ∷ drop place (counts_in t)) =
      map-append count_in (take place t) (tallied key more ∷ drop place t)
      ∙ ap₂ (λ (x y : List ℕ). x ++ (more ∷ y)) (map_take count_in place t) (map_drop count_in place t) ∙ ap (λ (n : ℕ). take place (counts_in t) ++ (n ∷ drop place (counts_in t))) (sym m) in
      rw (ks, cs)
      (shows_put es (keys_in t) (counts_in t) s e place (omega (arith, p, map_length key_in t)) (λ i h. omega (arith, w.lower i h, a))
      (λ i h j. omega (arith, higher i h (omega (arith, j, map_length key_in t)), a)))
    where
      higher : (i : ℕ) → place ≤ i → i < length t → key < get_or (keys_in t) i 0
      higher i h j = go (sides place i)
        where
          first : place < length t → key < get_or (keys_in t) place 0
          first z = other (sides key (get_or (keys_in t) place 0)) z
            where
              other : Sides key (get_or (keys_in t) place 0) → place < length t → key < get_or (keys_in t) place 0
              other (less d) z = d
              other (equal d) z = absurd (not_there o z (sym d))
              other (greater d) z = absurd (omega (arith, w.others place (omega arith) z))

          go : Sides place i → key < get_or (keys_in t) i 0
          go (less d) = omega (arith, first (omega arith), keys_up es t s place i d j)
          go (equal d) = subst (λ (z : ℕ). key < get_or (keys_in t) z 0) d (first (omega arith))
          go (greater d) = absurd (omega arith)

-- raised, where the tally is the front of its room
pub raised_at : (room : List Tallied) (count : ℕ) (t : List Tallied) (place key more : ℕ) → take count room ≡ t → (b : Bool) → b ≡ (ltb place (length t) && eqb (get_or (keys_in t) place 0) key) → b ≡ true
    → AddShows place key more t (take count (set room place (tallied (get_or room place nothing).key ((get_or room place nothing).count + more))))
raised_at room count t place key more is b st h =
    let p : place < length t = (stands t place key b st h).0 in
    let in_it : place < count = omega (arith, p, ap length is, length-take count room) in
    let q : get_or t place nothing ≡ get_or room place nothing = ap (λ (l : List Tallied). get_or l place nothing) (sym is) ∙ get_or-take count room place nothing in_it in
    let e' : Tallied = tallied (get_or room place nothing).key ((get_or room place nothing).count + more) in
    rw (take-set-lt count room place e' in_it, is) (add_raised t place key more b st h e' (ap key_in (sym q)) (ap (λ (x : Tallied). x.count + more) (sym q)))
