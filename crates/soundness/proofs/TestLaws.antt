-- How the code's tests make up the definitions': a test that fails ends a row of tests, one that passes hands on to the next; and the turns of the loops over numbers and
-- over records. Assumes nothing.
use Prim.Native.Nat.{ℕ, zero, suc, ◌+◌, ◌-◌, ◌*◌, ◌≤◌, ◌<◌, ◌^◌}
use mathlib.Core.Path.{◌≡◌, refl, sym, ap, ◌∙◌}
use mathlib.Core.Bool.{Bool, true, false, not, ◌&&◌, ◌||◌, and-true, and_assoc}
use mathlib.Core.List.{List, ◌∷◌}
use native.Mathlib.Omega.{arith}
use native.Mathlib.Numerals.{add-one}
use lib.ListN.{length, get_or, take, drop, length-drop, drop_of_length-le}
use lib.Seq.{drop-cons, drop-drop, get_or-drop, take_all}
use lib.IntN.{ℤ, pos, negsuc, nat_abs}
use lib.Bits.{bit_or, or_add_and, and_le_r}
use lib.Dec.{eqb, leb, ltb}
use lib.Signed.{mag, lt_z, le_z}
use mir.Facts.{to_z-of_z, of_z-to_z, to_z_pos, Fits-or, Fits-of_z}
use mir.Syntax.{w32}
use mir.Val.{Fits, to_z, of_z}
use borrow.Author.Rules.{sfits_of}
use borrow.Author.Tests.{eqb-true, eqb-false, ne_eqb, le-ltb}
use Rattle.lists.specs.Lists.{all, rows_from}
use Rattle.lists.specs.Order.{ascends}
use Rattle.lists.proofs.Bools.{never}
use Rattle.lists.proofs.ListLaws.{all_cons, all_end}
use Rattle.lists.proofs.RegionLaws.{rows_length, rows_at}
use Rattle.lists.proofs.SortLaws.{ascends_cons, ascends_one}
use Rattle.format.specs.Bytes.{within}
use Rattle.format.specs.Structure.{ranging}
use Rattle.format.specs.Table.{cell}
use Rattle.cells.specs.Signs.{negative}
use Rattle.soundness.specs.Sounding.{number_at, unused, group_fine, mark_fine, pair_key, atoms_key, record_key, records_fine, value_fine}
use Rattle.soundness.proofs.SplitLaws.{ranged_of, ranging_pos, zero_is}

-- THE DEFINITIONS, as the code tests them
group_is : (g : Bool) (z : ℤ) → group_fine g z ≡ (not g || group_fine true z)
unfolding group_fine
group_is true z = refl
group_is false z = refl

pub mark_is : (s : List ℤ) (members low high : ℕ) (grouped : Bool) →
    mark_fine low high grouped (drop members s) ≡ (ranging low high (number_at s members) && (not grouped || group_fine true (number_at s (members + 1))))
unfolding mark_fine
mark_is s members low high grouped =
    let q : members + 0 ≡ members = omega arith in
    rw (get_or-drop members s 0 (pos 0), get_or-drop members s 1 (pos 0), q) (ap (λ (b : Bool). ranging low high (number_at s members) && b) (group_is grouped (number_at s (members + 1))))

-- a charge's value, a radical's
pub value_signed : (v : ℤ) → value_fine true v ≡ (leb 1 (nat_abs v) && leb (nat_abs v) 99)
unfolding value_fine within
value_signed v = refl

pub value_plain : (v : ℤ) → value_fine false v ≡ (le_z (pos 1) v && le_z v (pos 15))
unfolding value_fine ranging within
value_plain (pos n) = refl
value_plain (negsuc n) = refl

-- KEYS: an atom that is listed is a small number
pub listed_small : (low n : ℕ) (z : ℤ) → ranging low n z ≡ true → nat_abs z ≤ n
listed_small low n z e = (ranged_of low n z e).high_is

module _ (n : ℕ) (s : List ℤ) where
  pub key_out : (paired : Bool) → ranging 1 n (number_at s 0) ≡ false → atoms_key paired n s ≡ 0
  unfolding atoms_key
  key_out true e = rw e
  key_out false e = rw e

  module _ (e : ranging 1 n (number_at s 0) ≡ true) where
    pub key_one : atoms_key false n s ≡ 1024 * cell s 0
    unfolding atoms_key
    key_one = rw e

    pub key_astray : ranging (cell s 0 + 1) n (number_at s 1) ≡ false → atoms_key true n s ≡ 0
    unfolding atoms_key pair_key
    key_astray f = rw (e, (rw add-one at f))

    pub key_two : ranging (cell s 0 + 1) n (number_at s 1) ≡ true → atoms_key true n s ≡ 1024 * cell s 0 + cell s 1
    unfolding atoms_key pair_key
    key_two f = rw (e, (rw add-one at f))

module _ (members low high : ℕ) (grouped : Bool) (n : ℕ) (s : List ℤ) where
  pub record_out : mark_fine low high grouped (drop members s) ≡ false → record_key members low high grouped n s ≡ 0
  unfolding record_key
  record_out e = rw e

  pub record_in : mark_fine low high grouped (drop members s) ≡ true → record_key members low high grouped n s ≡ atoms_key (ltb 1 members) n s
  unfolding record_key
  record_in e = rw e

pub records_is : (t : List ℤ) (base members low high : ℕ) (grouped : Bool) (w n rows : ℕ) →
    records_fine members low high grouped w n rows (drop base t) ≡ ascends ltb (0 ∷ rows_from w (record_key members low high grouped n) rows (drop base t))
unfolding records_fine
records_is t base members low high grouped w n rows = refl

below : (z : ℤ) → negative z ≡ lt_z z (pos 0)
unfolding negative
below (pos n) = sym (le-ltb n 0 (omega arith))
below (negsuc n) = refl

-- A SIGNED NUMBER OF 32 BITS is 0 if its bits are; the bits of two laid over each other are 0 if those of both are
bits_zero : (z : ℤ) → mag z < 2 ^ 31 → of_z w32 z ≡ 0 → ranging 0 0 z ≡ true
bits_zero z b e = ap (ranging 0 0) (sym (to_z-of_z {w = w32} (sfits_of b)) ∙ ap (to_z w32) e ∙ to_z_pos w32 (omega arith)) ∙ ranging_pos 0 0 0 (omega arith) (omega arith)

bits_some : (z : ℤ) → (of_z w32 z ≡ 0 → ⊥) → ranging 0 0 z ≡ false
bits_some z h = never (ranging 0 0 z) (λ e. h (ap (of_z w32) (zero_is z e)))

pub bits_are : (z : ℤ) → mag z < 2 ^ 31 → eqb (of_z w32 z) 0 ≡ ranging 0 0 z
bits_are z b = go (eqb (of_z w32 z) 0) refl
  where
    go : (t : Bool) → eqb (of_z w32 z) 0 ≡ t → t ≡ ranging 0 0 z
    go true e = sym (bits_zero z b (eqb-true (of_z w32 z) 0 e))
    go false e = sym (bits_some z (eqb-false (of_z w32 z) 0 e))

-- a signed number that the machine keeps has its bits
pub bits_of : (k : ℕ) → Fits w32 k → eqb (of_z w32 (to_z w32 k)) 0 ≡ eqb k 0
bits_of k f = ap (λ n. eqb n 0) (of_z-to_z {w = w32} f)

pub or_zero_lem : (a b : ℕ) → eqb (bit_or a b) 0 ≡ (eqb a 0 && eqb b 0)
or_zero_lem zero b = refl
or_zero_lem (suc a) b = ne_eqb (bit_or (suc a) b) 0 (λ e. omega (arith, or_add_and (suc a) b, and_le_r (suc a) b, e)) ∙ rw (ne_eqb (suc a) 0 (λ e. omega arith))

-- THE LOOPS over numbers
module _ (s : List ℤ) (i : ℕ) where
  module _ (p : ℤ → Bool) where
    pub numbers_turn : i < length s → all p (drop i s) ≡ (p (number_at s i) && all p (drop (i + 1) s))
    numbers_turn h = ap (all p) (drop-cons s i (pos 0) h) ∙ all_cons p (number_at s i) (drop (suc i) s) ∙ rw add-one

    pub numbers_end : length s ≤ i → all p (drop i s) ≡ true
    numbers_end h = all_end p s i h

  pub signs_turn : i < length s → all (λ z. not (negative z)) (drop i s) ≡ (not (lt_z (number_at s i) (pos 0)) && all (λ z. not (negative z)) (drop (i + 1) s))
  signs_turn h = numbers_turn (λ z. not (negative z)) h ∙ ap (λ (b : Bool). not b && all (λ z. not (negative z)) (drop (i + 1) s)) (below (number_at s i))

  pub unused_whole : unused s ≡ all (ranging 0 0) s
  unfolding unused
  unused_whole = refl

  -- the numbers so far, and the rest
  pub zeros_turn : i < length s → (any : ℕ) → mag (number_at s i) < 2 ^ 31 →
      (eqb any 0 && all (ranging 0 0) (drop i s)) ≡ (eqb (bit_or any (of_z w32 (number_at s i))) 0 && all (ranging 0 0) (drop (i + 1) s))
  zeros_turn h any b =
      let z : ℤ = number_at s i in
      let rest : Bool = all (ranging 0 0) (drop (i + 1) s) in
      let q : all (ranging 0 0) (drop i s) ≡ (ranging 0 0 z && rest) = ap (all (ranging 0 0)) (drop-cons s i (pos 0) h) ∙ all_cons (ranging 0 0) z (drop (suc i) s) ∙ rw add-one in
      let e : eqb (bit_or any (of_z w32 z)) 0 ≡ (eqb any 0 && ranging 0 0 z) = or_zero_lem any (of_z w32 z) ∙ ap (λ (t : Bool). eqb any 0 && t) (bits_are z b) in
      ap (λ (t : Bool). eqb any 0 && t) q ∙ sym (and_assoc (eqb any 0) (ranging 0 0 z) rest) ∙ ap (λ (t : Bool). t && rest) (sym e)

  -- the same as the machine keeps them, in a signed number
  pub zeros_kept : i < length s → (any : ℕ) → Fits w32 any → mag (number_at s i) < 2 ^ 31 →
      (eqb (of_z w32 (to_z w32 any)) 0 && all (ranging 0 0) (drop i s)) ≡ (eqb (of_z w32 (to_z w32 (bit_or any (of_z w32 (number_at s i))))) 0 && all (ranging 0 0) (drop (i + 1) s))
  zeros_kept h any f b =
      let turn : Fits w32 (bit_or any (of_z w32 (number_at s i))) = Fits-or f (Fits-of_z {z = number_at s i} (sfits_of b)) in
      ap (λ (t : Bool). t && all (ranging 0 0) (drop i s)) (bits_of any f) ∙ zeros_turn h any b
      ∙ ap (λ (t : Bool). t && all (ranging 0 0) (drop (i + 1) s)) (sym (bits_of (bit_or any (of_z w32 (number_at s i))) turn))

  pub zeros_end : length s ≤ i → (fine : Bool) → (fine && all (ranging 0 0) (drop i s)) ≡ fine
  zeros_end h fine = ap (λ (b : Bool). fine && b) (all_end (ranging 0 0) s i h) ∙ and-true fine

-- THE LOOPS over records: each passes a test. What is lent of the table is all from the record on.
module _ (t : List ℤ) (long : length t ≡ 3856) (base w n i : ℕ) (h : i < n) (p : ℕ) (q : p ≡ base + w * i) where
  lent_is : take (3856 - p) (drop p t) ≡ drop p t
  lent_is = take_all (3856 - p) (drop p t) (omega (arith, length-drop p t))

  row_at : {A : Type 0} (d : A) (row : List ℤ → A) → get_or (rows_from w row n (drop base t)) i d ≡ row (take (3856 - p) (drop p t))
  row_at d row = rows_at w row d n (drop base t) i h ∙ ap row (drop-drop (w * i) base t ∙ ap (λ (k : ℕ). drop k t) (sym q) ∙ sym lent_is)

  next_row : {A : Type 0} (d : A) (row : List ℤ → A) →
      drop i (rows_from w row n (drop base t)) ≡ row (take (3856 - p) (drop p t)) ∷ drop (i + 1) (rows_from w row n (drop base t))
  next_row d row = drop-cons (rows_from w row n (drop base t)) i d (omega (arith, rows_length w row n (drop base t))) ∙ rw (row_at d row, add-one)

  pub rows_turn : (test : List ℤ → Bool) →
      all (λ b. b) (drop i (rows_from w test n (drop base t))) ≡ (test (take (3856 - p) (drop p t)) && all (λ b. b) (drop (i + 1) (rows_from w test n (drop base t))))
  rows_turn test = ap (all (λ b. b)) (next_row false test) ∙ all_cons (λ b. b) (test (take (3856 - p) (drop p t))) (drop (i + 1) (rows_from w test n (drop base t)))

  -- keys that ascend
  pub keys_turn : (key : List ℤ → ℕ) (last : ℕ) →
      ascends ltb (last ∷ drop i (rows_from w key n (drop base t))) ≡ (ltb last (key (take (3856 - p) (drop p t))) && ascends ltb (key (take (3856 - p) (drop p t)) ∷ drop (i + 1) (rows_from w key n (drop base t))))
  keys_turn key last =
      let k : ℕ = key (take (3856 - p) (drop p t)) in
      ap (λ (l : List ℕ). ascends ltb (last ∷ l)) (next_row 0 key) ∙ ascends_cons ltb last (k ∷ drop (i + 1) (rows_from w key n (drop base t)))

module _ (t : List ℤ) (base w n i : ℕ) (h : n ≤ i) where
  pub rows_end : (test : List ℤ → Bool) → all (λ b. b) (drop i (rows_from w test n (drop base t))) ≡ true
  rows_end test = all_end (λ b. b) (rows_from w test n (drop base t)) i (omega (arith, rows_length w test n (drop base t)))

  pub keys_end : (key : List ℤ → ℕ) (last : ℕ) → ascends ltb (last ∷ drop i (rows_from w key n (drop base t))) ≡ true
  keys_end key last =
      let k : List ℕ = rows_from w key n (drop base t) in
      ap (λ (l : List ℕ). ascends ltb (last ∷ l)) (drop_of_length-le k {i = i} (omega (arith, rows_length w key n (drop base t)))) ∙ ascends_one ltb last
