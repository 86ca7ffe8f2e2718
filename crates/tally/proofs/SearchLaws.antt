-- The place of a key in a tally: where it stands, behind all, or where the library's search parts the keys that are lower from the others. Serves the search in
-- src/entries.rt. Assumes nothing.
use Prim.Native.Nat.{ℕ, ◌-◌, ◌≤◌, ◌<◌}
use mathlib.Core.Path.{◌≡◌, sym, ap, ◌∙◌}
use mathlib.Core.Bool.{Bool, true, false}
use mathlib.Core.List.{List}
use native.Mathlib.Omega.{arith}
use lib.Dec.{ltb}
use lib.ListN.{length, get_or}
use borrow.Author.Tests.{ltb-true, ltb-false, lt-ltb}
use Rattle.std.proofs.Common.{Bor, Option, Some, None, IsTrue}
use Rattle.std.specs.Option.{MatchOption}
use Rattle.std.specs.Slice.{IsGetResult}
use Rattle.std.specs.List.Sorted.{IsPartitionPoint, IsPartitionedBy}
use Rattle.lists.proofs.IndexLaws.{map_at}
use Rattle.lists.proofs.LexLaws.{Sides, less, equal, greater, sides}
use Rattle.tally.specs.declared.entries.Entry.{Entry as Tallied}
use Rattle.tally.specs.Gathering.{tallied, keys_in, KeysAscend, PlaceOf}

module _ (t : List Tallied) (key : ℕ) where
  key_at : (i : ℕ) (d : Tallied) → i < length t → get_or (keys_in t) i 0 ≡ (get_or t i d).key
  key_at i d h = map_at (λ (e : Tallied). e.key) 0 d t i h

  module _ (up : KeysAscend t) where
    -- keys up to one that is lower, keys from one on that is not
    all_lower : (m : ℕ) → m < length t → get_or (keys_in t) m 0 < key → (i : ℕ) → i ≤ m → get_or (keys_in t) i 0 < key
    all_lower m k h i j = go (sides i m)
      where
        go : Sides i m → get_or (keys_in t) i 0 < key
        go (less a) = omega (arith, up i m a k)
        go (equal a) = rw a h
        go (greater a) = absurd (omega arith)

    all_others : (m : ℕ) → key ≤ get_or (keys_in t) m 0 → (i : ℕ) → m ≤ i → i < length t → key ≤ get_or (keys_in t) i 0
    all_others m h i j k = go (sides m i)
      where
        go : Sides m i → key ≤ get_or (keys_in t) i 0
        go (less a) = omega (arith, up m i a k)
        go (equal a) = rw (sym a) h
        go (greater a) = absurd (omega arith)

    -- behind the last, if there is one
    pub behind_last : (0 < length t → get_or (keys_in t) (length t - 1) 0 < key) → PlaceOf key t (length t)
    behind_last h = record { lower = λ i k. all_lower (length t - 1) (omega arith) (h (omega arith)) i (omega arith); others = λ i j k. absurd (omega arith) }

    pub parted : IsPartitionedBy (λ (e : Tallied). ltb e.key key) t
    parted i j d a b h = lt-ltb _ key (omega (arith, key_at i d (omega arith), all_lower j b (omega (arith, key_at j d b, ltb-true _ key h)) i a))

  -- the last, if it is lower
  pub last_lower : (o : Option (Bor Tallied)) (r : Bool) → IsGetResult t 0 (length t - 1) o → MatchOption o (IsTrue r) (λ x. r ≡ ltb x.now.key key) → r ≡ true → 0 < length t → get_or (keys_in t) (length t - 1) 0 < key
  last_lower None r i m e h = absurd (omega (arith, h, ltb-false 0 (length t) (sym i.0)))
  last_lower (Some x) r i m e h = omega (arith, key_at (length t - 1) x.now (omega arith), ap (λ (y : Tallied). y.key) i.1, ltb-true x.now.key key (sym m ∙ e))

  -- where the search ends
  pub parted_at : (place : ℕ) → place ≤ length t → IsPartitionPoint (λ (e : Tallied). ltb e.key key ≡ true) (λ (e : Tallied). ltb e.key key ≡ false) t place → PlaceOf key t place
  parted_at place b p = record {
    lower = λ i h. omega (arith, key_at i (tallied 0 0) (omega arith), ltb-true _ key (p.0 i (tallied 0 0) (omega arith) h));
    others = λ i h k. omega (arith, key_at i (tallied 0 0) k, ltb-false _ key (p.1 i (tallied 0 0) h k));
  }
