-- The table put together from its regions, each lent in turn, and that it is the structure's: document 01, "The structure table". Assumes nothing.
use Prim.Native.Nat.{ℕ, ◌+◌, ◌≤◌}
use mathlib.Core.Path.{◌≡◌, refl, sym, ap, ◌∙◌}
use mathlib.Core.Bool.{true, false}
use mathlib.Core.List.{List, [], ◌∷◌, ◌++◌, map, append_assoc, append-nil}
use native.Mathlib.Omega.{arith}
use lib.ListN.{length, take, drop, length-append, length-drop, length-replicate, drop_of_length-le}
use lib.IntN.{ℤ, pos}
use lib.Seq.{take_at, drop_at, drop-drop, length-take-le}
use borrow.Rule.Slice.PartMut.{put_mid}
use Rattle.lists.specs.Lists.{flat, filled}
use Rattle.lists.proofs.PartLaws.{filled_nil, filled_length}
use Rattle.lists.proofs.SortLaws.{sort_length}
use Rattle.format.specs.Bytes.{Bytes}
use Rattle.format.specs.Labels.{ListOf, Bonds, Charges, Radicals, Centres, Pairs}
use Rattle.format.specs.Structure.{Structure, rows_of, lists, row_before}
use Rattle.format.specs.Reading.{State, finished, span_of}
use Rattle.format.specs.Table.{atom_cells, rows_part, counts, span_cells, flag, derived, encode}
use Rattle.sorted.specs.Regions.{kinds_region}
use Rattle.gather.specs.Progress.{prose_at, Counted, Bounded, Listed, Holding}
use Rattle.gather.specs.declared.progress.Progress.{Progress}
use Rattle.gather.proofs.LaidLaws.{Sized, sized, from_of, size_of, shown_as, list_seated, atoms_seated}
use Rattle.numbering.specs.Renumbers.{Renumbers, Renumbering}
use Rattle.filling.specs.Filled.{bond_out, centre_out, pair_out, copied, value_out, atom_out, gathered, atoms_out}
use Rattle.filling.proofs.FillLaws.{signed_small, copied_length}
use Rattle.filling.proofs.AtomLaws.{gathered_length}
use Rattle.filling.proofs.AtomPartLaws.{atoms_part_lem, charges_part, radicals_part}
use Rattle.filling.proofs.RecordLaws.{bonds_part, centres_part, pairs_part}
use Rattle.header.specs.Header.{counts_out, header_out}
use Rattle.publish.specs.Published.{spread_out, marked_out, rows_out, table_out}

-- PARTS ONE BEHIND THE OTHER, the rest of t behind them
module _ (t : List ℤ) where
  next_part : (d y : List ℤ) (a n : ℕ) → length d ≡ a → put_mid a n (d ++ drop a t) y ≡ d ++ (y ++ drop (a + n) t)
  next_part d y a n h =
      ap (λ l. l ++ (y ++ drop n (drop a (d ++ drop a t)))) (take_at d (drop a t) a h)
      ∙ ap (λ l. d ++ (y ++ l)) (ap (drop n) (drop_at d (drop a t) a h) ∙ drop-drop n a t)

  pub two_parts : (x y : List ℤ) (a n : ℕ) → length x ≡ a → length t ≡ a + n → put_mid a n (x ++ drop a t) y ≡ x ++ y
  two_parts x y a n h k =
      next_part x y a n h ∙ ap (λ l. x ++ (y ++ l)) (drop_of_length-le t {i = a + n} (omega arith)) ∙ ap (λ l. x ++ l) (append-nil y)

  pub three_parts : (x y z : List ℤ) (a n m : ℕ) → length x ≡ a → length y ≡ n → put_mid (a + n) m (put_mid a n (x ++ drop a t) y) z ≡ x ++ (y ++ (z ++ drop (a + n + m) t))
  three_parts x y z a n m h k =
      ap (λ l. put_mid (a + n) m l z) (next_part x y a n h ∙ sym (append_assoc x y (drop (a + n) t)))
      ∙ next_part (x ++ y) z (a + n) m (length-append x y ∙ omega arith) ∙ append_assoc x y (z ++ drop (a + n + m) t)

  pub three_whole : (x y z : List ℤ) (a n m : ℕ) → length x ≡ a → length y ≡ n → length t ≡ a + n + m → put_mid (a + n) m (put_mid a n (x ++ drop a t) y) z ≡ x ++ (y ++ z)
  three_whole x y z a n m h k e =
      three_parts x y z a n m h k ∙ ap (λ l. x ++ (y ++ (z ++ l))) (drop_of_length-le t {i = a + n + m} (omega arith)) ∙ ap (λ l. x ++ (y ++ l)) (append-nil z)

-- THE ROWS' REGIONS
module _ (p : Progress) (c : Counted p) where
  charges_long : (cs : List ℕ) → length (copied 1 value_out 64 p.charges cs) ≡ 64
  charges_long cs = copied_length 1 1 value_out (λ s. refl) 64 cs p.charges (copied 1 value_out 64 p.charges cs) (omega (arith, c.charges)) refl

  radicals_long : (rs : List ℕ) → length (copied 1 value_out 64 p.radicals rs) ≡ 64
  radicals_long rs = copied_length 1 1 value_out (λ s. refl) 64 rs p.radicals (copied 1 value_out 64 p.radicals rs) (omega (arith, c.radicals)) refl

  centres_long : (t : List ℕ) → length (copied 2 centre_out 384 p.centres t) ≡ 384
  centres_long t = copied_length 2 3 centre_out (λ s. refl) 384 t p.centres (copied 2 centre_out 384 p.centres t) (omega (arith, c.centres)) refl

  pairs_long : (t : List ℕ) → length (copied 2 pair_out 512 p.pairs t) ≡ 512
  pairs_long t = copied_length 2 4 pair_out (λ s. refl) 512 t p.pairs (copied 2 pair_out 512 p.pairs t) (omega (arith, c.pairs)) refl

  bonds_long : (t : List ℕ) → length (copied 2 bond_out 1536 p.bonds t) ≡ 1536
  bonds_long t = copied_length 2 3 bond_out (λ s. refl) 1536 t p.bonds (copied 2 bond_out 1536 p.bonds t) (omega (arith, c.bonds)) refl

  pub spread_whole : (t x y : List ℤ) (cs rs : List ℕ) → length t ≡ 128 → x ≡ copied 1 value_out 64 p.charges cs → y ≡ copied 1 value_out 64 p.radicals rs
      → put_mid 64 64 (x ++ drop 64 t) y ≡ spread_out p cs rs
  unfolding spread_out
  spread_whole t x y cs rs h e f = two_parts t x y 64 64 (ap length e ∙ charges_long cs) h ∙ ap (λ l. l ++ y) e ∙ ap (λ l. copied 1 value_out 64 p.charges cs ++ l) f

  pub marked_whole : (t x y : List ℤ) (s : List ℕ) → length t ≡ 896 → x ≡ copied 2 centre_out 384 p.centres (take 256 (drop 2434 s)) → y ≡ copied 2 pair_out 512 p.pairs (take 256 (drop 2690 s))
      → put_mid 384 512 (x ++ drop 384 t) y ≡ marked_out p s
  unfolding marked_out
  marked_whole t x y s h e f =
      two_parts t x y 384 512 (ap length e ∙ centres_long (take 256 (drop 2434 s))) h ∙ ap (λ l. l ++ y) e ∙ ap (λ l. copied 2 centre_out 384 p.centres (take 256 (drop 2434 s)) ++ l) f

  spread_long : (cs rs : List ℕ) → length (spread_out p cs rs) ≡ 128
  unfolding spread_out
  spread_long cs rs = length-append (copied 1 value_out 64 p.charges cs) (copied 1 value_out 64 p.radicals rs) ∙ omega (arith, charges_long cs, radicals_long rs)

  pub rows_whole : (t x y z : List ℤ) (s cs rs : List ℕ) → length t ≡ 2560 → x ≡ copied 2 bond_out 1536 p.bonds (take 1024 (drop 1410 s)) → y ≡ spread_out p cs rs → z ≡ marked_out p s
      → put_mid 1664 896 (put_mid 1536 128 (x ++ drop 1536 t) y) z ≡ rows_out p s cs rs
  unfolding rows_out
  rows_whole t x y z s cs rs h e f g =
      three_whole t x y z 1536 128 896 (ap length e ∙ bonds_long (take 1024 (drop 1410 s))) (ap length f ∙ spread_long cs rs) h
      ∙ ap (λ l. l ++ (y ++ z)) e ∙ ap (λ l. copied 2 bond_out 1536 p.bonds (take 1024 (drop 1410 s)) ++ (l ++ z)) f
      ∙ ap (λ l. copied 2 bond_out 1536 p.bonds (take 1024 (drop 1410 s)) ++ (spread_out p cs rs ++ l)) g

  header_long : (block : Bytes) → length (header_out block p) ≡ 16
  unfolding header_out
  header_long block = refl

  atoms_long : (ks cs co rs ro : List ℕ) → length (atoms_out ks cs co rs ro p.atoms) ≡ 1280
  unfolding atoms_out
  atoms_long ks cs co rs ro =
      filled_length (pos 0) 1280 (gathered (atom_out ks cs co rs ro) p.atoms) (omega (arith, gathered_length 5 (atom_out ks cs co rs ro) (λ i. refl) p.atoms, c.atoms))

  -- THE TABLE
  pub table_whole : (t x y z : List ℤ) (block : Bytes) (s co cs ro rs : List ℕ) → x ≡ header_out block p
      → y ≡ atoms_out (take 768 s) (take 321 (drop 768 s)) co (take 321 (drop 1089 s)) ro p.atoms → z ≡ rows_out p s cs rs
      → put_mid 1296 2560 (put_mid 16 1280 (x ++ drop 16 t) y) z ≡ table_out block p s co cs ro rs ++ drop 3856 t
  unfolding table_out
  table_whole t x y z block s co cs ro rs e f g =
      let a : List ℤ = atoms_out (take 768 s) (take 321 (drop 768 s)) co (take 321 (drop 1089 s)) ro p.atoms in
      three_parts t x y z 16 1280 2560 (ap length e ∙ header_long block) (ap length f ∙ atoms_long (take 768 s) (take 321 (drop 768 s)) co (take 321 (drop 1089 s)) ro)
      ∙ ap (λ l. l ++ (y ++ (z ++ drop 3856 t))) e ∙ ap (λ l. header_out block p ++ (l ++ (z ++ drop 3856 t))) f ∙ ap (λ l. header_out block p ++ (a ++ (l ++ drop 3856 t))) g
      ∙ ap (λ l. header_out block p ++ l) (sym (append_assoc a (rows_out p s cs rs) (drop 3856 t))) ∙ sym (append_assoc (header_out block p) (a ++ rows_out p s cs rs) (drop 3856 t))

-- WHAT IT HOLDS is the structure's encoding
counts_are : (p : Progress) (s : Structure) → Counted p → p.id ≤ 999999 → Listed p s → counts_out p ≡ map pos (counts (finished s))
unfolding counts finished rows_of
counts_are p s c i l =
    rw (
      signed_small p.atoms (omega (arith, c.atoms)),
      signed_small p.bonds (omega (arith, c.bonds)),
      signed_small p.charges (omega (arith, c.charges)),
      signed_small p.radicals (omega (arith, c.radicals)),
      signed_small p.centres (omega (arith, c.centres)),
      signed_small p.pairs (omega (arith, c.pairs)),
      signed_small p.id (omega arith),
      sort_length row_before s.bonds,
      sort_length row_before s.charges,
      sort_length row_before s.radicals,
      sort_length row_before s.centres,
      sort_length row_before s.pairs,
      l.atoms,
      l.counts Bonds,
      l.counts Charges,
      l.counts Radicals,
      l.counts Centres,
      l.counts Pairs,
      l.id,
    )

handed_is : (p : Progress) (s : Structure) → Listed p s → (finished s).handed ≡ p.handed
unfolding finished
handed_is p s l = l.handed

header_is : (block : Bytes) (p : Progress) (s : Structure) (rest : List ℤ) → counts_out p ≡ map pos (counts s) → s.handed ≡ p.handed
    → header_out block p ++ rest
    ≡ map pos (counts s) ++ (flat span_cells (map span_of (prose_at block p.title ∷ prose_at block p.origin ∷ prose_at block p.owner ∷ [])) ++ (derived s ++ rest))
unfolding header_out derived flat counts
header_is block p s rest e f =
    ap (λ l. l ++ (span_cells (span_of (prose_at block p.title)) ++ (span_cells (span_of (prose_at block p.origin)) ++ (span_cells (span_of (prose_at block p.owner)) ++ (flag p.handed ∷ pos 0 ∷ pos 0 ∷ rest))))) e
    ∙ ap (λ y. map pos (counts s) ++ (flat span_cells (map span_of (prose_at block p.title ∷ prose_at block p.origin ∷ prose_at block p.owner ∷ [])) ++ (flag y ∷ pos 0 ∷ pos 0 ∷ rest))) (sym f)

rows_are : (s : Structure) → rows_part s Bonds ++ ((rows_part s Charges ++ rows_part s Radicals) ++ (rows_part s Centres ++ rows_part s Pairs)) ≡ flat (rows_part s) lists
unfolding flat lists
rows_are s =
    ap (λ l. rows_part s Bonds ++ l)
    (append_assoc (rows_part s Charges) (rows_part s Radicals) (rows_part s Centres ++ rows_part s Pairs)
    ∙ ap (λ l. rows_part s Charges ++ (rows_part s Radicals ++ (rows_part s Centres ++ l))) (sym (append-nil (rows_part s Pairs))))

module _ (k : ℕ) (b : k ≤ 103) (block : Bytes) (size : ℕ) (p : Progress) (t : List ℕ) (st : State) (w : Bounded size p) (h : Holding k block p t st) where
  held : Sized st
  held = sized p st w.counted h.listed

  -- each list's region
  pub at_list : (l : ListOf) → take (size_of l) (drop (from_of l) t) ≡ shown_as l (rows_of l st.body)
  at_list l = ap (λ u. take (size_of l) (drop (from_of l) u)) h.scratch ∙ (list_seated st held l).0

  at_kinds : take 768 t ≡ kinds_region st.body.atoms
  at_kinds = ap (λ u. take 768 (drop 0 u)) h.scratch ∙ (atoms_seated st held).0

  rows_out_lem : (co cs ro rs : List ℕ) → Renumbers st.body.charges co cs → Renumbers st.body.radicals ro rs → rows_out p t cs rs ≡ flat (rows_part (finished st.body)) lists
  unfolding rows_out spread_out marked_out rows_of
  rows_out_lem co cs ro rs f g =
      let n : p.atoms ≤ 256 = w.counted.atoms in
      let s : Structure = st.body in
      rw (
        at_list Bonds,
        at_list Centres,
        at_list Pairs,
        ← h.listed.counts Bonds,
        ← h.listed.counts Charges,
        ← h.listed.counts Radicals,
        ← h.listed.counts Centres,
        ← h.listed.counts Pairs,
        bonds_part p.atoms n s (h.listed.fits Bonds),
        charges_part p.atoms s co cs f (h.listed.fits Charges),
        radicals_part p.atoms s ro rs g (h.listed.fits Radicals),
        centres_part p.atoms n s (h.listed.fits Centres),
        pairs_part p.atoms n s (h.listed.fits Pairs),
      )
      (rows_are (finished s))

  atoms_out_lem : (co cs ro rs : List ℕ) → Renumbers st.body.charges co cs → Renumbers st.body.radicals ro rs
      → atoms_out (take 768 t) (take 321 (drop 768 t)) co (take 321 (drop 1089 t)) ro p.atoms
      ≡ filled (pos 0) 1280 (atom_cells 1 (finished st.body).charges (finished st.body).radicals (finished st.body).atoms)
  unfolding rows_of
  atoms_out_lem co cs ro rs f g =
      let s : Structure = st.body in
      rw (at_kinds, at_list Charges, at_list Radicals, ← h.listed.atoms)
      (atoms_part_lem k b s co cs ro rs f g held.atoms (omega (arith, h.listed.counts Charges, w.counted.charges)) (omega (arith, h.listed.counts Radicals, w.counted.radicals)) h.kinds)

  pub published : (co cs ro rs : List ℕ) → Renumbers st.body.charges co cs → Renumbers st.body.radicals ro rs
      → table_out block p t co cs ro rs ≡ encode (finished st.body) (map span_of st.texts)
  unfolding table_out encode
  published co cs ro rs f g =
      let s : Structure = finished st.body in
      let rest : List ℤ = filled (pos 0) 1280 (atom_cells 1 s.charges s.radicals s.atoms) ++ flat (rows_part s) lists in
      ap (λ l. header_out block p ++ (l ++ rows_out p t cs rs)) (atoms_out_lem co cs ro rs f g)
      ∙ ap (λ l. header_out block p ++ (filled (pos 0) 1280 (atom_cells 1 s.charges s.radicals s.atoms) ++ l)) (rows_out_lem co cs ro rs f g)
      ∙ header_is block p s rest (counts_are p st.body w.counted w.id h.listed) (handed_is p st.body h.listed)
      ∙ ap (λ x. map pos (counts s) ++ (flat span_cells (map span_of x) ++ (derived s ++ rest))) (sym h.texts)

-- RENUMBERED: what a renumbering is lent has its length
lent_long : (from : ℕ) (t : List ℕ) → length t ≡ 2973 → from + 321 ≤ 2973 → length (take 321 (drop from t)) ≡ 321
lent_long from t h k = length-take-le 321 (drop from t) (simp length-drop (omega arith))

blank_long : (n : ℕ) (t : List ℕ) → t ≡ filled 0 n [] → length t ≡ n
blank_long n t e = ap length (e ∙ filled_nil 0 n) ∙ length-replicate {A = ℕ} n 0

-- rows numbered from nothing
pub from_nothing : {t : List ℕ} {atoms n : ℕ} {order₀ values₀ order values : List ℕ} → order₀ ≡ filled 0 65 [] → values₀ ≡ filled 0 64 []
    → Renumbering t atoms n order₀ values₀ order values → Renumbering t atoms n (filled 0 65 []) (filled 0 64 []) order values
from_nothing e f h long few most u v s rs k g r p q = h long few most (ap length e ∙ u) (ap length f ∙ v) s rs k g r e f

pub publishes : (table table' : List ℤ) (block : Bytes) (size : ℕ) (p : Progress) (t co cs ro rs : List ℕ) → length t ≡ 2973 → Bounded size p
    → Renumbering (take 321 (drop 768 t)) p.atoms p.charges (filled 0 65 []) (filled 0 64 []) co cs → Renumbering (take 321 (drop 1089 t)) p.atoms p.radicals (filled 0 65 []) (filled 0 64 []) ro rs
    → table' ≡ table_out block p t co cs ro rs ++ drop 3856 table → (k : ℕ) (st : State) → Holding k block p t st → k ≤ 103
    → table' ≡ encode (finished st.body) (map span_of st.texts) ++ drop 3856 table
unfolding rows_of
publishes table table' block size p t co cs ro rs long w f g e k st h b =
    let c = w.counted in
    let u : length (filled 0 65 []) ≡ 65 = blank_long 65 (filled 0 65 []) refl in
    let v : length (filled 0 64 []) ≡ 64 = blank_long 64 (filled 0 64 []) refl in
    e ∙ ap (λ l. l ++ drop 3856 table)
    (published k b block size p t st w h co cs ro rs (f (lent_long 768 t long (omega arith)) c.atoms c.charges u v true st.body.charges (h.listed.counts Charges) (h.listed.fits Charges) (at_list k b block size p t st w h Charges) refl refl)
    (g (lent_long 1089 t long (omega arith)) c.atoms c.radicals u v false st.body.radicals (h.listed.counts Radicals) (h.listed.fits Radicals) (at_list k b block size p t st w h Radicals) refl refl))
