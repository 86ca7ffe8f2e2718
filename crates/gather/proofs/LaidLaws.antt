-- The scratch as its eight regions: where each stands, and the scratch with one of them replaced is that of the state with that list replaced. Serves document
-- 01, "Rows". Assumes nothing.
use Prim.Native.Nat.{ℕ, zero, suc, ◌+◌, ◌*◌, ◌≤◌}
use mathlib.Core.Path.{◌≡◌, refl, sym, ap, ◌∙◌}
use mathlib.Core.Bool.{true}
use mathlib.Core.List.{List, [], ◌∷◌, ◌++◌, append-nil, append_assoc}
use native.Mathlib.Omega.{arith}
use lib.ListN.{length, take, drop, length-append}
use lib.Seq.{take_at, drop_at, take-append-add, drop-append-add}
use borrow.Rule.Slice.PartMut.{put_mid}
use Rattle.lists.specs.Lists.{flat, filled}
use Rattle.lists.specs.Order.{sort}
use Rattle.lists.proofs.IndexLaws.{all_every}
use Rattle.lists.proofs.PartLaws.{filled_length}
use Rattle.lists.proofs.RegionLaws.{flat_length}
use Rattle.lists.proofs.SortLaws.{sort_length}
use Rattle.format.specs.Labels.{ListOf, Bonds, Charges, Radicals, Centres, Pairs, Label, Holds}
use Rattle.format.specs.Rows.{Row}
use Rattle.format.specs.Structure.{Atom, rows_of, most, row_before}
use Rattle.format.specs.Coordinates.{Geometry}
use Rattle.format.specs.Reading.{State, with_body, with_atoms, with_rows, with_geometry}
use Rattle.sorted.specs.Regions.{kind_cells, kinds_region, members_from, arrived, void_of, spread_region, keyed_cells, keyed_region, seen_from}
use Rattle.sorted.specs.GeometryRegion.{geometry_region}
use Rattle.sorted.proofs.GeometryLaws.{region_nine}
use Rattle.gather.specs.Progress.{laid, Counted, Listed, count_of}
use Rattle.gather.specs.declared.progress.Progress.{Progress}
use Rattle.spread.proofs.PlaceLaws.{arrived_length}
use Rattle.spread.proofs.SpreadLaws.{members_length}

-- A REGION'S SEAT: what stands there, and what the whole is with another list there
pub record Seated (t : List ℕ) (from size : ℕ) (region : List ℕ) (put : List ℕ → List ℕ) : Type 0 where
  pub part : take size (drop from t) ≡ region
  pub placed : (r : List ℕ) → put_mid from size t r ≡ put r

seated_here : (b c : List ℕ) (size : ℕ) → length b ≡ size → Seated (b ++ c) 0 size b (λ x. x ++ c)
seated_here b c size h = record { part = take_at b c size h; placed = λ r. ap (λ (l : List ℕ). r ++ l) (drop_at b c size h) }

seated_alone : (b : List ℕ) (size : ℕ) → length b ≡ size → Seated b 0 size b (λ x. x)
seated_alone b size h =
    record {
      part = ap (take size) (sym (append-nil b)) ∙ take_at b [] size h;
      placed = λ r. ap (λ (l : List ℕ). r ++ drop size l) (sym (append-nil b)) ∙ ap (λ (l : List ℕ). r ++ l) (drop_at b [] size h) ∙ append-nil r;
    }

seated_past : (a s : List ℕ) (n from size : ℕ) (b : List ℕ) (put : List ℕ → List ℕ) → length a ≡ n → Seated s from size b put → Seated (a ++ s) (n + from) size b (λ x. a ++ put x)
seated_past a s n from size b put h f = record {
  part = ap (take size) (dropped n h) ∙ f.part;
  placed = λ r. ap (λ (l : List ℕ). take (n + from) (a ++ s) ++ (r ++ drop size l)) (dropped n h) ∙ ap (λ (l : List ℕ). l ++ (r ++ drop size (drop from s))) (taken n h)
      ∙ append_assoc a (take from s) (r ++ drop size (drop from s)) ∙ ap (λ (l : List ℕ). a ++ l) (f.placed r);
}
  where
    dropped : (m : ℕ) → length a ≡ m → drop (m + from) (a ++ s) ≡ drop from s
    dropped m e = ap (λ (k : ℕ). drop (k + from) (a ++ s)) (sym e) ∙ drop-append-add a s from

    taken : (m : ℕ) → length a ≡ m → take (m + from) (a ++ s) ≡ a ++ take from s
    taken m e = ap (λ (k : ℕ). take (k + from) (a ++ s)) (sym e) ∙ take-append-add a s from

-- eight regions one after another
abbrev pub eight : (a c r b s p l g : List ℕ) → List ℕ
eight a c r b s p l g = a ++ (c ++ (r ++ (b ++ (s ++ (p ++ (l ++ g))))))

module _ (a c r b s p l g : List ℕ) (la : length a ≡ 768) (lc : length c ≡ 321) (lr : length r ≡ 321) (lb : length b ≡ 1024) (ls : length s ≡ 256) (lp : length p ≡ 256) (ll : length l ≡ 18) (lg : length g ≡ 9) where
  seat_a : Seated (eight a c r b s p l g) 0 768 a (λ x. eight x c r b s p l g)
  seat_a = seated_here a (c ++ (r ++ (b ++ (s ++ (p ++ (l ++ g)))))) 768 la

  seat_c : Seated (eight a c r b s p l g) 768 321 c (λ x. eight a x r b s p l g)
  seat_c = seated_past a (c ++ (r ++ (b ++ (s ++ (p ++ (l ++ g)))))) 768 0 321 c (λ x. x ++ (r ++ (b ++ (s ++ (p ++ (l ++ g)))))) la (seated_here c (r ++ (b ++ (s ++ (p ++ (l ++ g))))) 321 lc)

  past_c : (from size : ℕ) (region : List ℕ) (put : List ℕ → List ℕ) → Seated (r ++ (b ++ (s ++ (p ++ (l ++ g))))) from size region put → Seated (eight a c r b s p l g) (768 + (321 + from)) size region (λ x. a ++ (c ++ put x))
  past_c from size region put f =
      seated_past a (c ++ (r ++ (b ++ (s ++ (p ++ (l ++ g)))))) 768 (321 + from) size region (λ x. c ++ put x) la (seated_past c (r ++ (b ++ (s ++ (p ++ (l ++ g))))) 321 from size region put lc f)

  seat_r : Seated (eight a c r b s p l g) 1089 321 r (λ x. eight a c x b s p l g)
  seat_r = past_c 0 321 r (λ x. x ++ (b ++ (s ++ (p ++ (l ++ g))))) (seated_here r (b ++ (s ++ (p ++ (l ++ g)))) 321 lr)

  past_b : (from size : ℕ) (region : List ℕ) (put : List ℕ → List ℕ) → Seated (s ++ (p ++ (l ++ g))) from size region put → Seated (eight a c r b s p l g) (768 + (321 + (321 + (1024 + from)))) size region (λ x. a ++ (c ++ (r ++ (b ++ put x))))
  past_b from size region put f =
      past_c (321 + (1024 + from)) size region (λ x. r ++ (b ++ put x))
      (seated_past r (b ++ (s ++ (p ++ (l ++ g)))) 321 (1024 + from) size region (λ x. b ++ put x) lr (seated_past b (s ++ (p ++ (l ++ g))) 1024 from size region put lb f))

  seat_b : Seated (eight a c r b s p l g) 1410 1024 b (λ x. eight a c r x s p l g)
  seat_b = past_c 321 1024 b (λ x. r ++ (x ++ (s ++ (p ++ (l ++ g))))) (seated_past r (b ++ (s ++ (p ++ (l ++ g)))) 321 0 1024 b (λ x. x ++ (s ++ (p ++ (l ++ g)))) lr (seated_here b (s ++ (p ++ (l ++ g))) 1024 lb))

  seat_s : Seated (eight a c r b s p l g) 2434 256 s (λ x. eight a c r b x p l g)
  seat_s = past_b 0 256 s (λ x. x ++ (p ++ (l ++ g))) (seated_here s (p ++ (l ++ g)) 256 ls)

  seat_p : Seated (eight a c r b s p l g) 2690 256 p (λ x. eight a c r b s x l g)
  seat_p = past_b 256 256 p (λ x. s ++ (x ++ (l ++ g))) (seated_past s (p ++ (l ++ g)) 256 0 256 p (λ x. x ++ (l ++ g)) ls (seated_here p (l ++ g) 256 lp))

  seat_l : Seated (eight a c r b s p l g) 2946 18 l (λ x. eight a c r b s p x g)
  seat_l = past_b 512 18 l (λ x. s ++ (p ++ (x ++ g))) (seated_past s (p ++ (l ++ g)) 256 256 18 l (λ x. p ++ (x ++ g)) ls (seated_past p (l ++ g) 256 0 18 l (λ x. x ++ g) lp (seated_here l g 18 ll)))

  seat_g : Seated (eight a c r b s p l g) 2964 9 g (λ x. eight a c r b s p l x)
  seat_g =
      past_b 530 9 g (λ x. s ++ (p ++ (l ++ x)))
      (seated_past s (p ++ (l ++ g)) 256 274 9 g (λ x. p ++ (l ++ x)) ls (seated_past p (l ++ g) 256 18 9 g (λ x. l ++ x) lp (seated_past l g 18 0 9 g (λ x. x) ll (seated_alone g 9 lg))))

-- HOW LONG EACH REGION IS
rows_long : {A : Type 0} (w most : ℕ) (cells : A → List ℕ) (xs : List A) → ((x : A) → length (cells x) ≡ w) → w * length xs ≤ most → length (filled 0 most (flat cells xs)) ≡ most
rows_long w most cells xs wide h = filled_length 0 most (flat cells xs) (omega (arith, flat_length w cells (λ x. true) (λ x e. wide x) xs (all_every xs)))

pub kinds_long : (listed : List Atom) → length listed ≤ 256 → length (kinds_region listed) ≡ 768
unfolding kinds_region
kinds_long listed h = rows_long 3 768 kind_cells listed (λ x. refl) (omega arith)

pub spread_long : (rs : List Row) → length rs ≤ 64 → length (spread_region rs) ≡ 321
unfolding spread_region
spread_long rs h =
    length-append (members_from 256 1 rs) (filled 0 64 (arrived rs) ++ (void_of rs ∷ []))
    ∙ omega (arith, members_length 256 1 rs, length-append (filled 0 64 (arrived rs)) (void_of rs ∷ []), filled_length 0 64 (arrived rs) (omega (arith, arrived_length rs)))

pub keyed_long : (l : ListOf) (rs : List Row) → length rs ≤ most l → length (keyed_region l rs) ≡ 2 * most l
unfolding keyed_region
keyed_long l rs h = rows_long 2 (2 * most l) keyed_cells (sort row_before rs) (λ x. refl) (omega (arith, sort_length row_before rs))

-- EACH LIST WITHIN ITS LIMIT
pub record Sized (st : State) : Type 0 where
  pub atoms : length st.body.atoms ≤ 256
  pub rows : (l : ListOf) → length (rows_of l st.body) ≤ most l

pub within_most : (p : Progress) → Counted p → (l : ListOf) → count_of l p ≤ most l
unfolding most
within_most p c Bonds = c.bonds
within_most p c Charges = c.charges
within_most p c Radicals = c.radicals
within_most p c Centres = c.centres
within_most p c Pairs = c.pairs

pub sized : (p : Progress) (st : State) → Counted p → Listed p st.body → Sized st
sized p st c h = record { atoms = omega (arith, h.atoms, c.atoms); rows = λ l. omega (arith, h.counts l, within_most p c l) }

-- WHERE EACH LIST STANDS, and how its rows are shown there
abbrev pub from_of : ListOf → ℕ
from_of Bonds = 1410
from_of Charges = 768
from_of Radicals = 1089
from_of Centres = 2434
from_of Pairs = 2690

abbrev pub size_of : ListOf → ℕ
size_of Bonds = 1024
size_of Charges = 321
size_of Radicals = 321
size_of Centres = 256
size_of Pairs = 256

abbrev pub shown_as : ListOf → List Row → List ℕ
shown_as Bonds rs = keyed_region Bonds rs
shown_as Charges rs = spread_region rs
shown_as Radicals rs = spread_region rs
shown_as Centres rs = keyed_region Centres rs
shown_as Pairs rs = keyed_region Pairs rs

-- the state with other rows in a list, with other atoms, with other labels seen
abbrev pub rows_put : ListOf → State → List Row → State
rows_put l st rs = with_body st (with_rows l rs st.body)

abbrev pub atoms_put : State → List Atom → State
atoms_put st listed = with_body st (with_atoms listed st.body)

abbrev pub seen_put : State → Holds → List Label → State
seen_put st h seen = record { at = st.at; seen = seen; running = h; texts = st.texts; formula = st.formula; geometry = st.geometry; body = st.body }

seen_length : (k c : ℕ) (seen : List Label) → length (seen_from k c seen) ≡ k
unfolding seen_from
seen_length zero c seen = refl
seen_length (suc k) c seen = ap suc (seen_length k (suc c) seen)

module _ (st : State) (z : Sized st) where
  shown_long : (l : ListOf) → length (shown_as l (rows_of l st.body)) ≡ size_of l
  unfolding rows_of most
  shown_long Bonds = keyed_long Bonds st.body.bonds (z.rows Bonds)
  shown_long Charges = spread_long st.body.charges (z.rows Charges)
  shown_long Radicals = spread_long st.body.radicals (z.rows Radicals)
  shown_long Centres = keyed_long Centres st.body.centres (z.rows Centres)
  shown_long Pairs = keyed_long Pairs st.body.pairs (z.rows Pairs)

  -- any fact of the eight regions, from their lengths
  by_eight : (F : (a c r b s p l g : List ℕ) → Type 0) → ((a c r b s p l g : List ℕ) → length a ≡ 768 → length c ≡ 321 → length r ≡ 321 → length b ≡ 1024 → length s ≡ 256 → length p ≡ 256 → length l ≡ 18 → length g ≡ 9 → F a c r b s p l g)
      → F (kinds_region st.body.atoms) (spread_region st.body.charges) (spread_region st.body.radicals) (keyed_region Bonds st.body.bonds) (keyed_region Centres st.body.centres)
      (keyed_region Pairs st.body.pairs) (seen_from 18 0 st.seen) (geometry_region st.geometry)
  unfolding rows_of
  by_eight F f =
      f (kinds_region st.body.atoms) (spread_region st.body.charges) (spread_region st.body.radicals) (keyed_region Bonds st.body.bonds) (keyed_region Centres st.body.centres)
      (keyed_region Pairs st.body.pairs) (seen_from 18 0 st.seen) (geometry_region st.geometry) (kinds_long st.body.atoms z.atoms) (shown_long Charges) (shown_long Radicals) (shown_long Bonds) (shown_long Centres)
      (shown_long Pairs) (seen_length 18 0 st.seen) (region_nine st.geometry)

  pub list_seated : (l : ListOf) → (take (size_of l) (drop (from_of l) (laid st)) ≡ shown_as l (rows_of l st.body)) × ((rs : List Row) → put_mid (from_of l) (size_of l) (laid st) (shown_as l rs) ≡ laid (rows_put l st rs))
  unfolding laid rows_of with_rows
  list_seated Bonds = let f = by_eight (λ a c r b s p l g. Seated (eight a c r b s p l g) 1410 1024 b (λ x. eight a c r x s p l g)) seat_b in (f.part, λ rs. f.placed (shown_as Bonds rs))
  list_seated Charges = let f = by_eight (λ a c r b s p l g. Seated (eight a c r b s p l g) 768 321 c (λ x. eight a x r b s p l g)) seat_c in (f.part, λ rs. f.placed (shown_as Charges rs))
  list_seated Radicals = let f = by_eight (λ a c r b s p l g. Seated (eight a c r b s p l g) 1089 321 r (λ x. eight a c x b s p l g)) seat_r in (f.part, λ rs. f.placed (shown_as Radicals rs))
  list_seated Centres = let f = by_eight (λ a c r b s p l g. Seated (eight a c r b s p l g) 2434 256 s (λ x. eight a c r b x p l g)) seat_s in (f.part, λ rs. f.placed (shown_as Centres rs))
  list_seated Pairs = let f = by_eight (λ a c r b s p l g. Seated (eight a c r b s p l g) 2690 256 p (λ x. eight a c r b s x l g)) seat_p in (f.part, λ rs. f.placed (shown_as Pairs rs))

  pub atoms_seated : (take 768 (drop 0 (laid st)) ≡ kinds_region st.body.atoms) × ((listed : List Atom) → put_mid 0 768 (laid st) (kinds_region listed) ≡ laid (atoms_put st listed))
  unfolding laid
  atoms_seated = let f = by_eight (λ a c r b s p l g. Seated (eight a c r b s p l g) 0 768 a (λ x. eight x c r b s p l g)) seat_a in (f.part, λ listed. f.placed (kinds_region listed))

  pub seen_seated : (take 18 (drop 2946 (laid st)) ≡ seen_from 18 0 st.seen) × ((h : Holds) (seen : List Label) → put_mid 2946 18 (laid st) (seen_from 18 0 seen) ≡ laid (seen_put st h seen))
  unfolding laid
  seen_seated = let f = by_eight (λ a c r b s p l g. Seated (eight a c r b s p l g) 2946 18 l (λ x. eight a c r b s p x g)) seat_l in (f.part, λ h seen. f.placed (seen_from 18 0 seen))

  pub geometry_seated : (take 9 (drop 2964 (laid st)) ≡ geometry_region st.geometry) × ((g : Geometry) → put_mid 2964 9 (laid st) (geometry_region g) ≡ laid (with_geometry st g))
  unfolding laid
  geometry_seated = let f = by_eight (λ a c r b s p l g. Seated (eight a c r b s p l g) 2964 9 g (λ x. eight a c r b s p l x)) seat_g in (f.part, λ g. f.placed (geometry_region g))
