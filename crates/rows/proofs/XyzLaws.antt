-- A row of XYZ from its four fields, and a signed number 1,000,000 above it: document 02, L2, "Rows are an atom and three signed numbers of 1 to 6 digits". Assumes
-- nothing.
use Prim.Native.Nat.{ℕ, zero, suc, ◌+◌, ◌-◌, ◌≤◌, ◌<◌}
use mathlib.Core.Path.{◌≡◌, refl, sym, ap, ◌∙◌}
use mathlib.Core.Bool.{Bool, true, false, cond}
use Rattle.std.specs.declared.option.Option.{Option}
use Rattle.std.specs.declared.option.Option.TheVariants.{None, Some}
use mathlib.Core.List.{List, [], ◌∷◌}
use native.Mathlib.Omega.{arith}
use borrow.Author.Tests.{lt-ltb, le-ltb, le-leb, leb-true, ltb-true, ltb-false}
use lib.Dec.{ltb}
use lib.ListN.{drop}
use lib.IntN.{ℤ, pos, negsuc, neg_ℤ}
use Rattle.lists.specs.Lists.{is_nil}
use Rattle.lists.proofs.ListLaws.{all_nil, all_both, all_parts}
use Rattle.format.specs.Bytes.{Bytes, fields}
use Rattle.format.specs.Rows.{◌and_then◌, number, signed, field, optional, nothing_more}
use Rattle.format.specs.Coordinates.{XyzRow, xyz_shape}
use Rattle.rows.specs.Parts.{Behind, AtomIs, RaisedIs}
use Rattle.rows.specs.Raised.{raised, lowered, six_digits, row_small}
use Rattle.rows.specs.declared.parts.AtomAt.{AtomAt}
use Rattle.rows.specs.declared.xyz.RaisedAt.{RaisedAt}
use Rattle.rows.proofs.PartLaws.{first_behind, one_behind, behind_atom}
use Rattle.rows.proofs.ShapeLaws.{end_or_none, at_end_is}

-- RAISED AND LOWERED
pub lowered_low : (n : ℕ) → n < 1000000 → lowered n ≡ negsuc (999999 - n)
lowered_low n h = let q : 1000000 - suc n ≡ 999999 - n = omega arith in rw (lt-ltb n 1000000 h, cond) (ap negsuc q)

pub lowered_high : (n : ℕ) → 1000000 ≤ n → lowered n ≡ pos (n - 1000000)
lowered_high n h = rw (le-ltb n 1000000 h, cond)

pub lowered_raised : (v : ℤ) → six_digits v ≡ true → lowered (raised v) ≡ v
lowered_raised (pos n) h = let q : 1000000 + n - 1000000 ≡ n = omega arith in lowered_high (1000000 + n) (omega arith) ∙ ap pos q
lowered_raised (negsuc n) h =
    let b = leb-true (suc n) 999999 h in
    let q : 999999 - (999999 - n) ≡ n = omega arith in
    lowered_low (999999 - n) (omega arith) ∙ ap negsuc q

pub raised_lowered : (n : ℕ) → raised (lowered n) ≡ n
raised_lowered n = go (ltb n 1000000) refl
  where
    go : (t : Bool) → ltb n 1000000 ≡ t → raised (lowered n) ≡ n
    go true e = ap raised (lowered_low n (ltb-true n 1000000 e)) ∙ omega (arith, ltb-true n 1000000 e)
    go false e = ap raised (lowered_high n (ltb-false n 1000000 e)) ∙ omega (arith, ltb-false n 1000000 e)

pub raised_plus : (n : ℕ) → n < 1000000 → (raised (pos n) ≡ 1000000 + n) × (six_digits (pos n) ≡ true)
raised_plus n h = (refl, le-leb n 999999 (omega arith))

pub raised_minus : (n : ℕ) → n < 1000000 → (raised (neg_ℤ (pos n)) ≡ 1000000 - n) × (six_digits (neg_ℤ (pos n)) ≡ true)
raised_minus zero h = (refl, refl)
raised_minus (suc n) h = (omega arith, le-leb (suc n) 999999 (omega arith))

pub rows_small : (a : ℕ) (x y z : ℤ) → six_digits x ≡ true → six_digits y ≡ true → six_digits z ≡ true → row_small (record { atom = a; x = x; y = y; z = z }) ≡ true
rows_small a x y z e f g = all_both six_digits x (y ∷ z ∷ []) e (all_both six_digits y (z ∷ []) f (all_both six_digits z [] g (all_nil six_digits)))

pub three_small : (r : XyzRow) → row_small r ≡ true → (six_digits r.x ≡ true) × (six_digits r.y ≡ true) × (six_digits r.z ≡ true)
three_small r h =
    let p = all_parts six_digits r.x (r.y ∷ r.z ∷ []) h in
    let q = all_parts six_digits r.y (r.z ∷ []) p.1 in
    (p.0, q.0, (all_parts six_digits r.z [] q.1).0)

-- THE ROW, field by field
xyz_is : (fs : List Bytes) (n : ℕ) (x y z : Option ℤ) (g : Option ℕ) → number (field 0 fs) ≡ Some n → signed (field 1 fs) ≡ x → signed (field 2 fs) ≡ y → signed (field 3 fs) ≡ z
    → optional nothing_more (drop 4 fs) ≡ g
    → (x and_then λ x. y and_then λ y. z and_then λ z. g and_then λ m. Some (record { atom = n; x = x; y = y; z = z })) ≡ xyz_shape fs
unfolding xyz_shape
xyz_is fs n x y z g a p q r s = sym (rw (a, p, q, r, s) refl)

module _ (line : Bytes) (a : AtomAt) (h : AtomIs line 0 a) where
  field_is : (k at : ℕ) → Behind line k at → (o : Option ℤ) → signed (field 0 (fields (drop at line))) ≡ o → signed (field k (fields line)) ≡ o
  field_is k at b o e = sym (ap signed (first_behind line k at b)) ∙ e

  abbrev after_atom : Behind line 1 a.to
  after_atom = behind_atom line a h

  pub no_x : signed (field 0 (fields (drop a.to line))) ≡ None → None ≡ xyz_shape (fields line)
  no_x e = xyz_is (fields line) a.number None _ _ _ h.is (field_is 1 a.to after_atom None e) refl refl refl

  module _ (x : RaisedAt) (u : RaisedIs line a.to x) where
    x_is : signed (field 1 (fields line)) ≡ Some (lowered x.number)
    x_is = field_is 1 a.to after_atom (Some (lowered x.number)) u.is

    abbrev after_x : Behind line 2 x.to
    after_x = one_behind line 1 a.to after_atom x.to u.rest u.high

    pub no_y : signed (field 0 (fields (drop x.to line))) ≡ None → None ≡ xyz_shape (fields line)
    no_y e = xyz_is (fields line) a.number (Some (lowered x.number)) None _ _ h.is x_is (field_is 2 x.to after_x None e) refl refl

    module _ (y : RaisedAt) (v : RaisedIs line x.to y) where
      y_is : signed (field 2 (fields line)) ≡ Some (lowered y.number)
      y_is = field_is 2 x.to after_x (Some (lowered y.number)) v.is

      abbrev after_y : Behind line 3 y.to
      after_y = one_behind line 2 x.to after_x y.to v.rest v.high

      pub no_z : signed (field 0 (fields (drop y.to line))) ≡ None → None ≡ xyz_shape (fields line)
      no_z e = xyz_is (fields line) a.number (Some (lowered x.number)) (Some (lowered y.number)) None _ h.is x_is y_is (field_is 3 y.to after_y None e) refl

      -- at the row's end, or before a field too many
      pub row_is : (z : RaisedAt) → RaisedIs line y.to z → (t : Bool) → t ≡ is_nil (fields (drop z.to line))
          → (end_or_none t and_then λ m. Some (record { atom = a.number; x = lowered x.number; y = lowered y.number; z = lowered z.number })) ≡ xyz_shape (fields line)
      row_is z w t e =
          xyz_is (fields line) a.number (Some (lowered x.number)) (Some (lowered y.number)) (Some (lowered z.number)) (end_or_none t) h.is x_is y_is
          (field_is 3 y.to after_y (Some (lowered z.number)) w.is)
          (sym (at_end_is (drop 4 (fields line)) t (e ∙ ap is_nil (one_behind line 3 y.to after_y z.to w.rest w.high).rest)))
