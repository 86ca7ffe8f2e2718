-- Rows taken one after another, each tested by itself (`own`) and against those before it: one that clashes with an earlier row refuses, one that is the
-- `same` as an earlier row is dropped, any other is kept, the latest first. Over any three tests. Knows nothing of the format. Assumes nothing.
use Rattle.std.specs.Prelude.{Bool, true, false, ◌||◌, List, [], ◌∷◌}
use Rattle.lists.specs.Lists.{any}

pub data Taken (A : Type 0) : Type 0 where
  on : List A → Taken A
  halt : Taken A

module _ {A : Type 0} where
  abbrev pub verdict : Bool → List A → Taken A
  verdict true rows = halt
  verdict false rows = on rows

  -- by whether the row is refused, and whether it repeats an earlier one
  abbrev pub taken : (bad again : Bool) → List A → A → Taken A
  taken true again rows x = halt
  taken false true rows x = on rows
  taken false false rows x = on (x ∷ rows)

  -- the rows that are kept, the latest first, after some
  unfoldable pub kept : (same : A → A → Bool) → List A → List A → List A
  kept same rows [] = rows
  kept same rows (x ∷ xs) = elim (any (same x) rows) [ true ↦ kept same rows xs | false ↦ kept same (x ∷ rows) xs ]

  module _ (own : A → Bool) (clash same : A → A → Bool) where
    unfoldable pub take_rows : List A → List A → Taken A
    take_rows rows [] = on rows
    take_rows rows (x ∷ xs) = elim (taken (own x || any (clash x) rows) (any (same x) rows) rows x) [ on next ↦ take_rows next xs | halt ↦ halt ]
