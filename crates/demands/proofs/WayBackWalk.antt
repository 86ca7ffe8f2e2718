-- A form in a transfer file: the written form of a well-formed structure and of three fine texts is one block by itself. Serves document 01, demand 3 over demand
-- 2's tables. Assumes nothing.
use Prim.Native.Nat.{ℕ, ◌+◌, ◌≤◌}
use mathlib.Core.Path.{◌≡◌, ap, ◌∙◌}
use mathlib.Core.Bool.{true, false}
use mathlib.Core.List.{List, [], ◌∷◌, ◌++◌}
use native.Mathlib.Omega.{arith}
use lib.ListN.{length}
use Rattle.lists.specs.Lists.{all, any, concat}
use Rattle.lists.proofs.ListLaws.{any_parts}
use Rattle.lists.proofs.PartLaws.{concat_nil, concat_length}
use Rattle.format.specs.Bytes.{Bytes}
use Rattle.format.specs.Labels.{title_line, end_line}
use Rattle.format.specs.Coordinates.{no_geometry}
use Rattle.format.specs.Structure.{Structure, well_formed}
use Rattle.format.specs.Reading.{strict}
use Rattle.format.specs.Table.{text_fine}
use Rattle.format.specs.Walking.{block, piece, outside, in_block, run, pieces}
use Rattle.format.specs.Writing.{canonical}
use Rattle.format.proofs.CutLaws.{concat_cut}
use Rattle.demands.specs.WayBack.{ReadBack, OneBlock}
use Rattle.demands.proofs.WayBack.{way_back}
use Rattle.demands.proofs.WayBackForm.{form_lines}

-- lines of a block up to its END line
block_run : (from at : ℕ) (ls : List Bytes) (e : Bytes) → any title_line (ls ++ (e ∷ [])) ≡ false → any end_line ls ≡ false → end_line e ≡ true →
    run (in_block from) at (ls ++ (e ∷ [])) ≡ piece block from (at + length (concat (ls ++ (e ∷ [])))) ∷ []
unfolding run
block_run from at [] e t n h =
    let q : at + length e ≡ at + length (concat (e ∷ [])) = omega (arith, concat_length e [], ap length (concat_nil {A = ℕ})) in
    rw ((any_parts title_line e [] t).0, h) (ap (λ (to : ℕ). piece block from to ∷ []) q)
block_run from at (l ∷ ls) e t n h =
    let p : (title_line l ≡ false) × (any title_line (ls ++ (e ∷ [])) ≡ false) = any_parts title_line l (ls ++ (e ∷ [])) t in
    let m : (end_line l ≡ false) × (any end_line ls ≡ false) = any_parts end_line l ls n in
    let q : at + length l + length (concat (ls ++ (e ∷ []))) ≡ at + length (concat (l ∷ (ls ++ (e ∷ [])))) = omega (arith, concat_length l (ls ++ (e ∷ []))) in
    rw (p.0, m.0) (block_run from (at + length l) ls e p.1 m.1 h ∙ ap (λ (to : ℕ). piece block from to ∷ []) q)

pub one_piece : (form : Bytes) → OneBlock form → pieces form ≡ piece block 0 (length form) ∷ []
unfolding pieces run
one_piece form x =
    let ls : List Bytes = x.middle ++ (x.last ∷ []) in
    let q : 0 + length x.first + length (concat ls) ≡ length form = omega (arith, concat_length x.first ls, ap (λ (r : List Bytes). length (concat r)) x.lines, ap length (concat_cut form)) in
    ap (run outside 0) x.lines
    ∙ rw x.title_first_lem (block_run 0 (0 + length x.first) x.middle x.last x.title_once (any_parts end_line x.first x.middle x.end_once).1 x.end_last
    ∙ ap (λ (to : ℕ). piece block 0 to ∷ []) q)

module _ (k : ℕ) (s : Structure) (t0 t1 t2 : Bytes) (most : k ≤ 103) (ok : well_formed k s ≡ true) (fine : all text_fine (t0 ∷ t1 ∷ t2 ∷ []) ≡ true)
    (fits : length (canonical s (t0 ∷ t1 ∷ t2 ∷ [])) ≤ 32768) where
  pub canonical_lines : OneBlock (canonical s (t0 ∷ t1 ∷ t2 ∷ []))
  canonical_lines =
      let R : ReadBack k s (t0 ∷ t1 ∷ t2 ∷ []) = way_back k s t0 t1 t2 most ok fine fits in
      form_lines s (t0 ∷ t1 ∷ t2 ∷ []) (strict k) s (R.title ∷ R.origin ∷ R.owner ∷ []) no_geometry R.reads

  pub canonical_piece : pieces (canonical s (t0 ∷ t1 ∷ t2 ∷ [])) ≡ piece block 0 (length (canonical s (t0 ∷ t1 ∷ t2 ∷ []))) ∷ []
  canonical_piece = one_piece (canonical s (t0 ∷ t1 ∷ t2 ∷ [])) canonical_lines
