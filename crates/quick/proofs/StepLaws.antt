-- A quick row's line in the reading: it is judged as a row of the list that runs, or of XYZ, and by nothing else. Document 01, "Refusal numbers". Assumes nothing.
use Prim.Native.Nat.{ℕ}
use mathlib.Core.Path.{◌≡◌, ap, ◌∙◌}
use mathlib.Core.Bool.{false, not}
use Rattle.lists.specs.Lists.{is_nil}
use Rattle.lists.proofs.Bools.{and_left_false}
use Rattle.format.specs.Bytes.{Bytes, fields}
use Rattle.format.specs.Labels.{ListOf, XyzRows, Holds, Atoms, Rows, Xyz, title_line}
use Rattle.format.specs.Reading.{Rules, State, atom_line, row_line, xyz_line, xyz_further, further_turn, line_step}
use Rattle.format.proofs.ReadingLaws.{step_on, line_plain}
use Rattle.quick.specs.Quick.{line_at, OneLine}

module _ (u : Rules) (st : State) (block : Bytes) (at next : ℕ) (h : OneLine block at next) (seen : is_nil st.seen ≡ false) where
  abbrev line : Bytes
  line = line_at block at next

  further : line_step u st line ≡ further_turn u st.running st line
  further = step_on u st line h.fine (and_left_false (is_nil st.seen) (not (title_line line)) seen) ∙ line_plain u st line h.plain

  pub row_step_lem : (l : ListOf) → st.running ≡ Rows l → line_step u st line ≡ row_line l st (fields line)
  unfolding further_turn
  row_step_lem l e = further ∙ ap (λ (r : Holds). further_turn u r st line) e ∙ ap (λ (s : Bytes). row_line l st (fields s)) h.kept

  pub atom_step_lem : st.running ≡ Atoms → line_step u st line ≡ atom_line u.elements st (fields line)
  unfolding further_turn
  atom_step_lem e = further ∙ ap (λ (r : Holds). further_turn u r st line) e ∙ ap (λ (s : Bytes). atom_line u.elements st (fields s)) h.kept

  pub xyz_step : st.running ≡ Xyz XyzRows → line_step u st line ≡ xyz_line st (fields line)
  unfolding further_turn xyz_further
  xyz_step e = further ∙ ap (λ (r : Holds). further_turn u r st line) e ∙ ap (λ (s : Bytes). xyz_line st (fields s)) h.kept
