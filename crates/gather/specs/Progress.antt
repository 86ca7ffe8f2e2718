-- What the reader's progress and scratch hold of a state: document 01, "Lines and labels", "Rows". Assumes nothing.
use Rattle.std.specs.Prelude.{ℕ, ◌-◌, ◌≤◌, ◌<◌, ◌≡◌, Bool, true, false, ◌&&◌, List, [], ◌∷◌, ◌++◌, map, length, take, drop, eqb, leb, Result, IfOk}
use Rattle.std.specs.declared.option.Option.{Option}
use Rattle.std.specs.declared.option.Option.TheVariants.{None, Some}
use Rattle.lists.specs.Lists.{all}
use Rattle.format.specs.Bytes.{Bytes, within}
use Rattle.format.specs.Labels.{ListOf, Bonds, Charges, Radicals, Centres, Pairs}
use Rattle.format.specs.Formula.{Counted as Told, formula_shape}
use Rattle.format.specs.Structure.{Structure, Entry, entry, isotope, atom_ok, rows_of}
use Rattle.format.specs.Reading.{Prose, prose, State}
use Rattle.format.specs.declared.refusal.Refused.{Refused}
use Rattle.sorted.specs.Regions.{kinds_region, spread_region, keyed_region, seen_from, Fits}
use Rattle.sorted.specs.GeometryRegion.{geometry_region, GeometryFine}
use Rattle.fields.specs.declared.Field.{Field}
use Rattle.gather.specs.declared.progress.Progress.{Progress}

-- a part of the block
abbrev pub part_of : Bytes → (from to : ℕ) → Bytes
part_of block from to = take (to - from) (drop from block)

-- a text record as it stands in the block; one that was not read has no bytes, from place 0 to 0
abbrev pub prose_at : Bytes → Field → Prose
prose_at block x = prose x.from (part_of block x.from x.to)

-- the formula's entries, from the part of its line that is no comment
abbrev pub entries_from : (k : ℕ) → Option (List Told) → List Entry
entries_from k None = []
entries_from k (Some cs) = map (λ c. entry (isotope k c.symbol) c.count) cs

abbrev pub formula_at : (k : ℕ) → Bytes → Field → List Entry
formula_at k block x = entries_from k (formula_shape (part_of block x.from x.to))

abbrev pub count_of : ListOf → Progress → ℕ
count_of Bonds p = p.bonds
count_of Charges p = p.charges
count_of Radicals p = p.radicals
count_of Centres p = p.centres
count_of Pairs p = p.pairs

-- The scratch of a state: the atoms from 0 on, charges from 768, radicals from 1,089, bonds from 1,410, centres from 2,434, pairs from 2,690, labels seen from
-- 2,946, the geometry from 2,964 to 2,972
unfoldable pub laid : State → List ℕ
laid st =
    kinds_region st.body.atoms
    ++ (spread_region st.body.charges
    ++ (spread_region st.body.radicals
    ++ (keyed_region Bonds st.body.bonds
    ++ (keyed_region Centres st.body.centres
    ++ (keyed_region Pairs st.body.pairs
    ++ (seen_from 18 0 st.seen ++ geometry_region st.geometry))))))

-- What holds of the numbers alone: each count within its limit
pub record Counted (p : Progress) : Type 0 where
  pub atoms : p.atoms ≤ 256
  pub bonds : p.bonds ≤ 512
  pub charges : p.charges ≤ 64
  pub radicals : p.radicals ≤ 64
  pub centres : p.centres ≤ 128
  pub pairs : p.pairs ≤ 128

-- a part lies in a block of so many bytes
pub record Within (size : ℕ) (x : Field) : Type 0 where
  pub order : x.from ≤ x.to
  pub high : x.to ≤ size

-- and each part within the block
pub record Bounded (size : ℕ) (p : Progress) : Type 0 where
  pub counted : Counted p
  pub code : p.running < 18
  pub title : Within size p.title
  pub origin : Within size p.origin
  pub owner : Within size p.owner
  pub formula : Within size p.formula
  pub id : p.id ≤ 999999

-- A text that runs reaches up to the line at `at`
pub record Flowing (at : ℕ) (p : Progress) : Type 0 where
  pub title : p.running ≡ 1 → p.title.to ≡ at
  pub origin : p.running ≡ 3 → p.origin.to ≡ at
  pub owner : p.running ≡ 4 → p.owner.to ≡ at

abbrev pub FlowingTurn : (at : ℕ) → Result Progress Refused → Type 0
FlowingTurn at r = IfOk r (Flowing at)

-- p with the counts of q: what a list's line leaves
abbrev pub recounted : (p q : Progress) → Progress
recounted p q = record {
  running = p.running;
  top = p.top;
  title = p.title;
  origin = p.origin;
  owner = p.owner;
  formula = p.formula;
  atoms = q.atoms;
  bonds = q.bonds;
  charges = q.charges;
  radicals = q.radicals;
  centres = q.centres;
  pairs = q.pairs;
  id = p.id;
  handed = p.handed;
}

-- the same counts of rows, all else as given
abbrev pub altered : (running top : ℕ) (title origin owner formula : Field) (atoms id : ℕ) → Progress → Progress
altered running top title origin owner formula atoms id p = record {
  running = running;
  top = top;
  title = title;
  origin = origin;
  owner = owner;
  formula = formula;
  atoms = atoms;
  bonds = p.bonds;
  charges = p.charges;
  radicals = p.radicals;
  centres = p.centres;
  pairs = p.pairs;
  id = id;
  handed = p.handed;
}

-- p with another count of the list whose label has the code
abbrev pub count_for : (code own c old : ℕ) → ℕ
count_for code own c old = elim (eqb code own) [ true ↦ c | false ↦ old ]

abbrev pub with_count : (code c : ℕ) → Progress → Progress
with_count code c p = record {
  running = p.running;
  top = p.top;
  title = p.title;
  origin = p.origin;
  owner = p.owner;
  formula = p.formula;
  atoms = count_for code 6 c p.atoms;
  bonds = count_for code 7 c p.bonds;
  charges = count_for code 8 c p.charges;
  radicals = count_for code 9 c p.radicals;
  centres = count_for code 10 c p.centres;
  pairs = count_for code 11 c p.pairs;
  id = p.id;
  handed = p.handed;
}

abbrev pub CountedTurn : Progress → Result Progress Refused → Type 0
CountedTurn p r = IfOk r (λ q. Counted q × (q ≡ recounted p q))

abbrev pub BoundedTurn : (size : ℕ) → Result Progress Refused → Type 0
BoundedTurn size r = IfOk r (Bounded size)

-- The structure so far: how many atoms and rows it has, and what its rows keep
pub record Listed (p : Progress) (s : Structure) : Type 0 where
  pub atoms : length s.atoms ≡ p.atoms
  pub counts : (l : ListOf) → length (rows_of l s) ≡ count_of l p
  pub fits : (l : ListOf) → Fits l p.atoms (rows_of l s)
  pub id : s.id ≡ p.id
  pub handed : s.handed ≡ p.handed

-- an entry of a formula whose line was taken: a known element, mass and count in range
abbrev pub entry_fine : (k : ℕ) → Entry → Bool
entry_fine k e = within 1 k e.kind.element && (leb e.kind.mass 300 && within 1 9999 e.count)

-- What stands in progress and scratch of a state, k elements known: the texts, the formula, the structure, the labels seen, the geometry
pub record Holding (k : ℕ) (block : Bytes) (p : Progress) (t : List ℕ) (st : State) : Type 0 where
  pub scratch : t ≡ laid st
  pub texts : st.texts ≡ prose_at block p.title ∷ prose_at block p.origin ∷ prose_at block p.owner ∷ []
  pub formula : st.formula ≡ formula_at k block p.formula
  pub formula_fine_lem : all (entry_fine k) st.formula ≡ true
  pub kinds : all (atom_ok k) st.body.atoms ≡ true
  pub listed : Listed p st.body
  pub geometry : GeometryFine p.atoms st.geometry
