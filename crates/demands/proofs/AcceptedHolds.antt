-- A choice by what a record holds: what each of some records has, and what all the others have; so that a law of all ten kinds of record is said of those few. Serves
-- "accepted exactly when". Assumes nothing.
use mathlib.Core.Path.{◌≡◌, refl, sym, ap, ◌∙◌, subst}
use mathlib.Core.Bool.{Bool, false}
use Rattle.format.specs.Labels.{ListOf, XyzOf, MaxXyz, XyzFactor, XyzRows, Holds, Text, Version, Formula, BlockId, Atoms, Rows, Xyz, Handedness, End, Skipped}

-- BY WHAT A RECORD HOLDS, with what all the others have: the formula, the id, the atoms, a list; or a part of the geometry
module _ {A : Type 0} where
  abbrev pub by_holds : (rest formula id atoms : A) → (ListOf → A) → Holds → A
  by_holds z f n a r (Text i) = z
  by_holds z f n a r Version = z
  by_holds z f n a r Formula = f
  by_holds z f n a r BlockId = n
  by_holds z f n a r Atoms = a
  by_holds z f n a r (Rows l) = r l
  by_holds z f n a r (Xyz x) = z
  by_holds z f n a r Handedness = z
  by_holds z f n a r End = z
  by_holds z f n a r Skipped = z

  abbrev pub by_geometry : (rest : A) → (XyzOf → A) → Holds → A
  by_geometry z f (Text i) = z
  by_geometry z f Version = z
  by_geometry z f Formula = z
  by_geometry z f BlockId = z
  by_geometry z f Atoms = z
  by_geometry z f (Rows l) = z
  by_geometry z f (Xyz x) = f x
  by_geometry z f Handedness = z
  by_geometry z f End = z
  by_geometry z f Skipped = z

  abbrev pub by_yes : (rest yes : A) → Holds → A
  by_yes z y (Text i) = z
  by_yes z y Version = z
  by_yes z y Formula = z
  by_yes z y BlockId = z
  by_yes z y Atoms = z
  by_yes z y (Rows l) = z
  by_yes z y (Xyz x) = z
  by_yes z y Handedness = y
  by_yes z y End = z
  by_yes z y Skipped = z

  abbrev pub by_xyz : (greatest factor rows : A) → XyzOf → A
  by_xyz m f r MaxXyz = m
  by_xyz m f r XyzFactor = f
  by_xyz m f r XyzRows = r

  -- what each of them has, that of any record has
  module _ (P : A → Type 0) where
    pub holds_each : (z f n a : A) (r : ListOf → A) → P z → P f → P n → P a → ((l : ListOf) → P (r l)) → (h : Holds) → P (by_holds z f n a r h)
    holds_each z f n a r pz pf pn pa pr (Text i) = pz
    holds_each z f n a r pz pf pn pa pr Version = pz
    holds_each z f n a r pz pf pn pa pr Formula = pf
    holds_each z f n a r pz pf pn pa pr BlockId = pn
    holds_each z f n a r pz pf pn pa pr Atoms = pa
    holds_each z f n a r pz pf pn pa pr (Rows l) = pr l
    holds_each z f n a r pz pf pn pa pr (Xyz x) = pz
    holds_each z f n a r pz pf pn pa pr Handedness = pz
    holds_each z f n a r pz pf pn pa pr End = pz
    holds_each z f n a r pz pf pn pa pr Skipped = pz

-- a record is one of the geometry's three, or it has what all the others have
geometry_view : (P : Holds → Type 0) → ((h : Holds) → ((A : Type 0) (z : A) (f : XyzOf → A) → by_geometry z f h ≡ z) → P h) → ((x : XyzOf) → P (Xyz x)) → (h : Holds) → P h
geometry_view P rest own (Text i) = rest (Text i) (λ A z f. refl)
geometry_view P rest own Version = rest Version (λ A z f. refl)
geometry_view P rest own Formula = rest Formula (λ A z f. refl)
geometry_view P rest own BlockId = rest BlockId (λ A z f. refl)
geometry_view P rest own Atoms = rest Atoms (λ A z f. refl)
geometry_view P rest own (Rows l) = rest (Rows l) (λ A z f. refl)
geometry_view P rest own (Xyz x) = own x
geometry_view P rest own Handedness = rest Handedness (λ A z f. refl)
geometry_view P rest own End = rest End (λ A z f. refl)
geometry_view P rest own Skipped = rest Skipped (λ A z f. refl)

-- a record is that of the YES, or it has what all the others have
pub yes_view : (P : Holds → Type 0) → ((h : Holds) → ((A : Type 0) (z y : A) → by_yes z y h ≡ z) → P h) → P Handedness → (h : Holds) → P h
yes_view P rest own (Text i) = rest (Text i) (λ A z y. refl)
yes_view P rest own Version = rest Version (λ A z y. refl)
yes_view P rest own Formula = rest Formula (λ A z y. refl)
yes_view P rest own BlockId = rest BlockId (λ A z y. refl)
yes_view P rest own Atoms = rest Atoms (λ A z y. refl)
yes_view P rest own (Rows l) = rest (Rows l) (λ A z y. refl)
yes_view P rest own (Xyz x) = rest (Xyz x) (λ A z y. refl)
yes_view P rest own Handedness = own
yes_view P rest own End = rest End (λ A z y. refl)
yes_view P rest own Skipped = rest Skipped (λ A z y. refl)

module _ {A : Type 0} (z : A) (f : XyzOf → A) where
  pub geometry_each : (P : A → Type 0) → P z → ((x : XyzOf) → P (f x)) → (h : Holds) → P (by_geometry z f h)
  geometry_each P pz pf = geometry_view (λ h. P (by_geometry z f h)) (λ h q. subst P (sym (q A z f)) pz) pf

  pub geometry_same : (y : A) (g : XyzOf → A) → z ≡ y → ((x : XyzOf) → f x ≡ g x) → (h : Holds) → by_geometry z f h ≡ by_geometry y g h
  geometry_same y g e p = geometry_view (λ h. by_geometry z f h ≡ by_geometry y g h) (λ h q. q A z f ∙ e ∙ sym (q A y g)) p

  pub geometry_map : {B : Type 0} (m : A → B) (h : Holds) → m (by_geometry z f h) ≡ by_geometry (m z) (λ x. m (f x)) h
  geometry_map {B = B} m = geometry_view (λ h. m (by_geometry z f h) ≡ by_geometry (m z) (λ x. m (f x)) h) (λ h q. ap m (q A z f) ∙ sym (q B (m z) (λ x. m (f x)))) (λ x. refl)

  pub geometry_quiet : (held : XyzOf → Bool) → ((x : XyzOf) → held x ≡ false → f x ≡ z) → (h : Holds) → by_geometry false held h ≡ false → by_geometry z f h ≡ z
  geometry_quiet held p = geometry_view (λ h. by_geometry false held h ≡ false → by_geometry z f h ≡ z) (λ h q e. q A z f) p
