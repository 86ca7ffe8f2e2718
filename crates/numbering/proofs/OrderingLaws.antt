-- The passes at END over a charge or radical region: what the numbering of its atoms and the values put through it come to. Document 01, "The structure table".
-- Assumes nothing.
use Prim.Native.Nat.{ℕ, zero, suc, ◌+◌, ◌-◌, ◌≤◌, ◌<◌}
use mathlib.Core.Path.{◌≡◌, refl, sym, ap, ◌∙◌, subst}
use mathlib.Core.Bool.{Bool, not}
use mathlib.Core.List.{List, [], ◌∷◌, ◌++◌}
use native.Mathlib.Omega.{arith}
use lib.ListN.{drop_of_length-le, length, take, drop, get_or, set}
use lib.Seq.{drop-cons, take-append-le, drop_at}
use lib.Dec.{eqb, leb}
use borrow.Author.Tests.{ne_eqb, le-leb}
use Rattle.lists.specs.Lists.{filled}
use Rattle.lists.specs.Order.{sort}
use Rattle.lists.proofs.Bools.{and_both}
use Rattle.lists.proofs.PartLaws.{filled_length, filled_take}
use Rattle.format.specs.Rows.{Row}
use Rattle.format.specs.Structure.{row_before}
use Rattle.format.specs.Table.{row_with}
use Rattle.sorted.specs.Regions.{Fits, member_of, members_from, void_of, arrived, spread_region}
use Rattle.spread.specs.Members.{list_of}
use Rattle.spread.proofs.PlaceLaws.{get_d_front, arrived_length}
use Rattle.spread.proofs.SpreadLaws.{members_zero, members_suc, members_at_lem, members_length, region_is, last_cell}
use Rattle.numbering.specs.Numbering.{is_new, next_after, order_after, numbered, with_void, Renumbered, put_at, through}
use Rattle.numbering.proofs.NumberingLaws.{numbered_cons, numbered_nil}
use Rattle.numbering.proofs.RenumberLaws.{renumbered}

-- THE NUMBERING at an index
module _ (ks : List ℕ) where
  pub numbered_step : (i next next' : ℕ) (order order' : List ℕ) → i < length ks → next' ≡ next_after (is_new (get_or ks i 0) order) next
      → order' ≡ order_after (is_new (get_or ks i 0) order) (get_or ks i 0) next order → numbered next (drop i ks) order ≡ numbered next' (drop (i + 1) ks) order'
  numbered_step i next next' order order' h e f =
      let k : suc i ≡ i + 1 = omega arith in
      ap (λ (l : List ℕ). numbered next l order) (drop-cons ks i 0 h ∙ ap (λ (n : ℕ). get_or ks i 0 ∷ drop n ks) k) ∙ numbered_cons next (get_or ks i 0) (drop (i + 1) ks) order
      ∙ ap (λ (n : ℕ). numbered n (drop (i + 1) ks) (order_after (is_new (get_or ks i 0) order) (get_or ks i 0) next order)) (sym e) ∙ ap (numbered next' (drop (i + 1) ks)) (sym f)

  pub numbered_end : (i next : ℕ) (order : List ℕ) → length ks ≤ i → numbered next (drop i ks) order ≡ order
  numbered_end i next order h = ap (λ (l : List ℕ). numbered next l order) (drop_of_length-le ks h) ∙ numbered_nil next order

-- WHAT STANDS IN A REGION
take_members : (a k n : ℕ) (rs : List Row) → a ≤ k → take a (members_from k n rs) ≡ members_from a n rs
take_members zero k n rs h = sym (members_zero n rs)
take_members (suc a) zero n rs h = absurd (omega arith)
take_members (suc a) (suc k) n rs h =
    ap (take (suc a)) (members_suc k n rs) ∙ ap (λ (l : List ℕ). member_of n rs ∷ l) (take_members a k (suc n) rs (omega arith)) ∙ sym (members_suc a n rs)

region_members : (atoms : ℕ) (rs : List Row) → atoms ≤ 256 → take atoms (spread_region rs) ≡ members_from atoms 1 rs
region_members atoms rs h =
    ap (take atoms) (region_is rs) ∙ take-append-le atoms (members_from 256 1 rs) (filled 0 64 (arrived rs) ++ (void_of rs ∷ [])) (omega (arith, members_length 256 1 rs))
    ∙ take_members atoms 256 1 rs h

pub region_values : (rs : List Row) → length rs ≤ 64 → take (length rs) (drop 256 (spread_region rs)) ≡ arrived rs
region_values rs h =
    let few : length (arrived rs) ≤ 64 = omega (arith, arrived_length rs) in
    ap (λ (l : List ℕ). take (length rs) (drop 256 l)) (region_is rs)
    ∙ ap (take (length rs)) (drop_at (members_from 256 1 rs) (filled 0 64 (arrived rs) ++ (void_of rs ∷ [])) 256 (members_length 256 1 rs))
    ∙ take-append-le (length rs) (filled 0 64 (arrived rs)) (void_of rs ∷ []) (omega (arith, filled_length 0 64 (arrived rs) few))
    ∙ ap (λ (n : ℕ). take n (filled 0 64 (arrived rs))) (sym (arrived_length rs)) ∙ filled_take 0 64 (arrived rs)

-- the whole pass
pub order_is : (region order order' order'' : List ℕ) (atoms rows : ℕ) → numbered 1 (take atoms region) order ≡ order' → order'' ≡ with_void (get_or region 320 0) rows order' → atoms ≤ 256 → rows ≤ 64
    → (s : Bool) (rs : List Row) → length rs ≡ rows → Fits (list_of s) atoms rs → region ≡ spread_region rs → order ≡ filled 0 65 [] → Renumbered rs order''
order_is region order order' order'' atoms rows e f low few s rs len fit is blank =
    let a : length rs ≤ 64 = omega (arith, len) in
    let v : get_or region 320 0 ≡ void_of rs = ap (λ (l : List ℕ). get_or l 320 0) is ∙ last_cell rs a in
    let m : order' ≡ numbered 1 (members_from atoms 1 rs) (filled 0 65 [])
    = sym e ∙ ap (λ (l : List ℕ). numbered 1 (take atoms l) order) is ∙ ap (λ (l : List ℕ). numbered 1 l order) (region_members atoms rs low) ∙ ap (numbered 1 (members_from atoms 1 rs)) blank in
    let q : with_void (void_of rs) (length rs) (numbered 1 (members_from atoms 1 rs) (filled 0 65 [])) ≡ order''
    = sym (f ∙ ap (λ (n : ℕ). with_void n rows order') v ∙ ap (λ (n : ℕ). with_void (void_of rs) n order') (sym len) ∙ ap (with_void (void_of rs) (length rs)) m) in
    subst (Renumbered rs) q (renumbered s atoms rs fit a)

-- A VALUE PUT to its place
module _ (p v : ℕ) (t : List ℕ) where
  pub put_is : (p ≡ 0 → ⊥) → p ≤ length t → set t (p - 1) v ≡ put_at p v t
  unfolding put_at
  put_is e h = sym (ap (λ (b : Bool). order_after b (p - 1) v t) (and_both (not (eqb p 0)) (leb p (length t)) (ap not (ne_eqb p 0 e)) (le-leb p (length t) h)))

-- ALL VALUES, at an index
pub through_nil : (order : List ℕ) (i : ℕ) (t : List ℕ) → through order i [] t ≡ t
unfolding through
through_nil order i t = refl

pub through_cons : (order : List ℕ) (i v : ℕ) (vs t : List ℕ) → through order i (v ∷ vs) t ≡ through order (suc i) vs (put_at (get_or order (suc i) 0) v t)
unfolding through
through_cons order i v vs t = refl

module _ (region order : List ℕ) (rows : ℕ) (fits : 256 + rows ≤ length region) where
  pub through_step : (i : ℕ) (t t' : List ℕ) → i < rows → t' ≡ put_at (get_or order (i + 1) 0) (get_or region (256 + i) 0) t
      → through order i (take (rows - i) (drop (256 + i) region)) t ≡ through order (i + 1) (take (rows - (i + 1)) (drop (256 + (i + 1)) region)) t'
  through_step i t t' h e =
      let a : rows - i ≡ suc (rows - (i + 1)) = omega arith in
      let b : suc (256 + i) ≡ 256 + (i + 1) = omega arith in
      let k : suc i ≡ i + 1 = omega arith in
      ap (λ (n : ℕ). through order i (take n (drop (256 + i) region)) t) a
      ∙ ap (λ (l : List ℕ). through order i (take (suc (rows - (i + 1))) l) t) (drop-cons region (256 + i) 0 (omega (arith, fits)))
      ∙ through_cons order i (get_or region (256 + i) 0) (take (rows - (i + 1)) (drop (suc (256 + i)) region)) t
      ∙ ap (λ (n : ℕ). through order (suc i) (take (rows - (i + 1)) (drop n region)) (put_at (get_or order (suc i) 0) (get_or region (256 + i) 0) t)) b
      ∙ ap (λ (n : ℕ). through order n (take (rows - (i + 1)) (drop (256 + (i + 1)) region)) (put_at (get_or order n 0) (get_or region (256 + i) 0) t)) k
      ∙ ap (through order (i + 1) (take (rows - (i + 1)) (drop (256 + (i + 1)) region))) (sym e)

  pub through_end : (i : ℕ) (t : List ℕ) → rows ≤ i → through order i (take (rows - i) (drop (256 + i) region)) t ≡ t
  through_end i t h = let e : rows - i ≡ 0 = omega arith in ap (λ (n : ℕ). through order i (take n (drop (256 + i) region)) t) e ∙ through_nil order i t

-- the cell of an atom, through the order: the number of the atom's row in the sorted list
pub cell_number : (rs : List Row) (order : List ℕ) → Renumbered rs order → (i : ℕ) → i < 256 → get_or order (get_or (spread_region rs) i 0) 0 ≡ row_with 1 (suc i) (sort row_before rs)
cell_number rs order R i h =
    let l = members_length 256 1 rs in
    let e : 1 + i ≡ suc i = omega arith in
    ap (λ (k : ℕ). get_or order k 0) (ap (λ (t : List ℕ). get_or t i 0) (region_is rs) ∙ get_d_front (members_from 256 1 rs) (filled 0 64 (arrived rs) ++ (void_of rs ∷ [])) i (omega (arith, l))
    ∙ members_at_lem 256 1 rs i h ∙ ap (λ (n : ℕ). member_of n rs) e) ∙ R.members (suc i)
