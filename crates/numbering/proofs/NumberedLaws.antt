-- What the renumbering says of each row: its number and its value. Serves document 01, "The structure table". Assumes nothing.
use Prim.Native.Nat.{ℕ, zero, suc, ◌-◌, ◌<◌}
use mathlib.Core.Path.{◌≡◌, refl, ap, ◌∙◌}
use mathlib.Core.List.{List, [], ◌∷◌, map}
use native.Mathlib.Omega.{arith}
use lib.ListN.{length, get_or, replicate, get_or-append, length-map}
use lib.IntN.{pos}
use Rattle.lists.specs.Lists.{filled}
use Rattle.lists.specs.Order.{sort}
use Rattle.lists.proofs.PartLaws.{filled_is}
use Rattle.lists.proofs.SortLaws.{sort_length}
use Rattle.format.specs.Rows.{Row, row}
use Rattle.format.specs.Structure.{row_before}
use Rattle.sorted.specs.Regions.{coded}
use Rattle.numbering.specs.Numbering.{Renumbered}
use Rattle.numbering.specs.Renumbers.{Renumbers}

cell_map : {A : Type 0} (f : A → ℕ) (d : A) (xs : List A) (i : ℕ) → i < length xs → get_or (map f xs) i 0 ≡ f (get_or xs i d)
cell_map f d [] i h = absurd (omega arith)
cell_map f d (x ∷ xs) zero h = refl
cell_map f d (x ∷ xs) (suc i) h = cell_map f d xs i (omega arith)

pub renumbers : (rs : List Row) (order values : List ℕ) → Renumbered rs order → values ≡ filled 0 64 (map (λ r. coded r.value) (sort row_before rs)) → Renumbers rs order values
renumbers rs order values f e = record {
  number = λ n l h. f.members n;
  value = λ i h.
      let ss : List Row = sort row_before rs in
      let vs : List ℕ = map (λ r. coded r.value) ss in
      let k : i < length ss = omega (arith, sort_length row_before rs) in
      ap (λ t. get_or t i 0) (e ∙ filled_is 0 64 vs) ∙ get_or-append vs (replicate (64 - length vs) 0) 0 i (omega (arith, length-map ss (λ r. coded r.value)))
      ∙ cell_map (λ r. coded r.value) (row [] (pos 0) 0) ss i k;
}
