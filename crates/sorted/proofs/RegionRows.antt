-- The sorted rows of a list in their region, row by row: what stands at an index, keys that ascend, and the region with one row more. Document 01, "Bonds,
-- centres and pairs ascend by their atoms." Assumes nothing.
use Prim.Native.Nat.{ℕ, ◌+◌, ◌-◌, ◌*◌, ◌≤◌, ◌<◌}
use mathlib.Core.Path.{◌≡◌, refl, sym, ap, ◌∙◌}
use mathlib.Core.Bool.{true, not}
use mathlib.Core.List.{List, [], ◌∷◌, ◌++◌, append_assoc}
use native.Mathlib.Omega.{arith}
use native.Mathlib.Nat.{add-zero}
use lib.ListN.{length, get_or, take, drop, replicate, length-append, length-drop, take-append-drop}
use lib.Seq.{length-take-le}
use lib.IntN.{pos}
use lib.Dec.{eqb, ltb}
use borrow.Author.Tests.{ltb-true}
use Rattle.lists.specs.Lists.{span, flat, filled}
use Rattle.lists.specs.Order.{insert, sort}
use Rattle.lists.proofs.ListLaws.{all_at}
use Rattle.lists.proofs.PartLaws.{flat_behind, flat_append, filled_is}
use Rattle.lists.proofs.RegionLaws.{flat_length, flat_cell, drop_replicate}
use Rattle.lists.proofs.SortLaws.{insert_place, sort_step, sort_length, sort_all, sort_ascends}
use Rattle.format.specs.Labels.{ListOf}
use Rattle.format.specs.Rows.{Row, row}
use Rattle.format.specs.Structure.{most, meets, row_before, row_ok}
use Rattle.format.proofs.OrderLaws.{row_strict, rows_apart}
use Rattle.sorted.specs.Regions.{key_of, payload_of, keyed_cells, keyed_region, Fits}
use Rattle.sorted.specs.Keyed.{keyed, key_at, KeysAscend, with_row}
use Rattle.lists.proofs.IndexLaws.{ascends_at, all_every}
use Rattle.sorted.proofs.KeyLaws.{before_key, meets_key}
use Rattle.sorted.proofs.GapLaws.{row_between}

abbrev pub no_row : Row
no_row = row [] (pos 0) 0

-- the row at an index of the sorted list
abbrev pub sorted_at : List Row → ℕ → Row
sorted_at rs i = get_or (sort row_before rs) i no_row

-- ANY ROWS, two cells each, and the zeros behind them
unused : (m : ℕ) → List Row → List ℕ
unused m ss = replicate (m - length (flat keyed_cells ss)) 0

zeros_less : (a b m : ℕ) → b ≡ a + 2 → b ≤ m → drop 2 (replicate {A = ℕ} (m - a) 0) ≡ replicate (m - b) 0
zeros_less a b m e h =
    let q : m - a ≡ 2 + (m - b) = omega arith in
    ap (λ (n : ℕ). drop 2 (replicate n 0)) q ∙ drop_replicate 0 2 (m - b)

module _ (ss : List Row) where
  cells_length : length (flat keyed_cells ss) ≡ 2 * length ss
  cells_length = flat_length 2 keyed_cells (λ x. true) (λ x e. refl) ss (all_every ss)

  cells_split : (p : ℕ) → flat keyed_cells ss ≡ flat keyed_cells (take p ss) ++ flat keyed_cells (drop p ss)
  cells_split p = ap (flat keyed_cells) (sym (take-append-drop p ss)) ∙ flat_append keyed_cells (take p ss) (drop p ss)

  module _ (m : ℕ) where
    cells_at : (i j : ℕ) → i < length ss → j < 2 → get_or (filled 0 m (flat keyed_cells ss)) (2 * i + j) 0 ≡ get_or (keyed_cells (get_or ss i no_row)) j 0
    cells_at i j h k =
        ap (λ (t : List ℕ). get_or t (2 * i + j) 0) (filled_is 0 m (flat keyed_cells ss))
        ∙ flat_cell 2 keyed_cells (λ x. true) (λ x e. refl) 0 no_row ss (replicate (m - length (flat keyed_cells ss)) 0) i j h k (all_every ss)

    cells_parts : (p : ℕ) → filled 0 m (flat keyed_cells ss) ≡ flat keyed_cells (take p ss) ++ (flat keyed_cells (drop p ss) ++ unused m ss)
    unfolding unused
    cells_parts p =
        filled_is 0 m (flat keyed_cells ss) ∙ ap (λ (t : List ℕ). t ++ unused m ss) (cells_split p)
        ∙ append_assoc (flat keyed_cells (take p ss)) (flat keyed_cells (drop p ss)) (unused m ss)

-- the region with a row more
module _ (m : ℕ) (ss : List Row) (p : ℕ) (r : Row) (h : p ≤ length ss) (room : 2 * length ss + 2 ≤ m) where
  more_length : length (take p ss ++ (r ∷ drop p ss)) ≡ length ss + 1
  more_length = omega (arith, length-append (take p ss) (r ∷ drop p ss), length-take-le p ss h, length-drop p ss)

  unused_less : drop 2 (unused m ss) ≡ unused m (take p ss ++ (r ∷ drop p ss))
  unfolding unused
  unused_less =
      zeros_less (length (flat keyed_cells ss)) (length (flat keyed_cells (take p ss ++ (r ∷ drop p ss)))) m
      (omega (arith, cells_length ss, cells_length (take p ss ++ (r ∷ drop p ss)), more_length)) (omega (arith, cells_length (take p ss ++ (r ∷ drop p ss)), more_length))

  more_parts : filled 0 m (flat keyed_cells (take p ss ++ (r ∷ drop p ss))) ≡ flat keyed_cells (take p ss) ++ (key_of r ∷ payload_of r ∷ (flat keyed_cells (drop p ss) ++ drop 2 (unused m ss)))
  unfolding unused
  more_parts =
      filled_is 0 m (flat keyed_cells (take p ss ++ (r ∷ drop p ss)))
      ∙ ap (λ (t : List ℕ). t ++ unused m (take p ss ++ (r ∷ drop p ss))) (flat_append keyed_cells (take p ss) (r ∷ drop p ss))
      ∙ append_assoc (flat keyed_cells (take p ss)) (flat keyed_cells (r ∷ drop p ss)) (unused m (take p ss ++ (r ∷ drop p ss)))
      ∙ ap (λ (t : List ℕ). flat keyed_cells (take p ss) ++ t) (flat_behind keyed_cells r (drop p ss) (unused m (take p ss ++ (r ∷ drop p ss))))
      ∙ ap (λ (t : List ℕ). flat keyed_cells (take p ss) ++ (key_of r ∷ payload_of r ∷ (flat keyed_cells (drop p ss) ++ t))) (sym unused_less)

  pub cells_more : with_row (filled 0 m (flat keyed_cells ss)) p (length ss) (key_of r) (payload_of r) ≡ filled 0 m (flat keyed_cells (take p ss ++ (r ∷ drop p ss)))
  cells_more =
      ap (λ (t : List ℕ). with_row t p (length ss) (key_of r) (payload_of r)) (cells_parts ss m p)
      ∙ row_between (flat keyed_cells (take p ss)) (flat keyed_cells (drop p ss)) (unused m ss) p (length ss) (key_of r) (payload_of r)
      (omega (arith, cells_length (take p ss), length-take-le p ss h)) (ap length (sym (cells_split ss p)) ∙ cells_length ss)
      ∙ sym more_parts

-- THE ROWS OF A LIST in its region
module _ (l : ListOf) (k : keyed l ≡ true) (n : ℕ) (h : n < 1024) (rs : List Row) (f : Fits l n rs) where
  module _ (i : ℕ) (b : i < length rs) where
    in_sorted : i < length (sort row_before rs)
    in_sorted = omega (arith, sort_length row_before rs)

    pub fine_at : row_ok l n (sorted_at rs i) ≡ true
    fine_at = all_at (row_ok l n) no_row (sort row_before rs) i (sort_all row_before (row_ok l n) rs ∙ f.each) in_sorted

    pub key_at_lem : key_at (keyed_region l rs) i ≡ key_of (sorted_at rs i)
    unfolding keyed_region
    key_at_lem = ap (λ (j : ℕ). get_or (keyed_region l rs) j 0) (sym (add-zero (2 * i))) ∙ cells_at (sort row_before rs) (2 * most l) i 0 in_sorted (omega arith)

    pub payload_at : get_or (keyed_region l rs) (2 * i + 1) 0 ≡ payload_of (sorted_at rs i)
    unfolding keyed_region
    payload_at = cells_at (sort row_before rs) (2 * most l) i 1 in_sorted (omega arith)

  pub keys_ascend : KeysAscend (length rs) (keyed_region l rs)
  keys_ascend i j a b =
      let e : row_before (sorted_at rs i) (sorted_at rs j) ≡ true =
      ascends_at row_before row_strict no_row (sort row_before rs) i j (sort_ascends row_before row_strict rs (rows_apart l rs f.apart)) a (in_sorted j b) in
      let q : key_of (sorted_at rs i) < key_of (sorted_at rs j) = ltb-true (key_of (sorted_at rs i)) (key_of (sorted_at rs j)) (sym (before_key l k n h (sorted_at rs i) (sorted_at rs j) (fine_at i (omega arith)) (fine_at j b)) ∙ e) in
      omega (arith, q, key_at_lem i (omega arith), key_at_lem j b)

  module _ (r : Row) (o : row_ok l n r ≡ true) (i : ℕ) (b : i < length rs) where
    pub meets_at : meets l r (sorted_at rs i) ≡ eqb (key_of r) (key_at (keyed_region l rs) i)
    meets_at = meets_key l k n h r (sorted_at rs i) o (fine_at i b) ∙ ap (eqb (key_of r)) (sym (key_at_lem i b))

    pub before_at : row_before r (sorted_at rs i) ≡ ltb (key_of r) (key_at (keyed_region l rs) i)
    before_at = before_key l k n h r (sorted_at rs i) o (fine_at i b) ∙ ap (ltb (key_of r)) (sym (key_at_lem i b))

-- one row more, at the place where it is inserted
pub region_more : (l : ListOf) (rs : List Row) (r : Row) (p : ℕ) → p ≤ length rs → length rs < most l → span (λ y. not (row_before r y)) (sort row_before rs) ≡ p
    → with_row (keyed_region l rs) p (length rs) (key_of r) (payload_of r) ≡ keyed_region l (r ∷ rs)
unfolding keyed_region
region_more l rs r p h room e =
    let ss : List Row = sort row_before rs in
    let q : length rs ≡ length (sort row_before rs) = sym (sort_length row_before rs) in
    ap (λ (c : ℕ). with_row (filled 0 (2 * most l) (flat keyed_cells ss)) p c (key_of r) (payload_of r)) q
    ∙ cells_more (2 * most l) (sort row_before rs) p r (omega (arith, q)) (omega (arith, q))
    ∙ ap (λ (xs : List Row). filled 0 (2 * most l) (flat keyed_cells xs)) (placed ∙ sym (sort_step row_before r rs))
  where
    placed : take p (sort row_before rs) ++ (r ∷ drop p (sort row_before rs)) ≡ insert row_before r (sort row_before rs)
    placed = ap (λ (j : ℕ). take j (sort row_before rs) ++ (r ∷ drop j (sort row_before rs))) (sym e) ∙ sym (insert_place row_before r (sort row_before rs))
