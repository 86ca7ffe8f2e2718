-- The way back, line by line: what it is to read through some bytes to a state, one after another, and the steps of a label line, of a further line and of a
-- record of one line. Serves document 01, demand 2 ("the way back"). Assumes nothing.
use Prim.Native.Nat.{ℕ, ◌+◌, ◌-◌}
use mathlib.Core.Path.{◌≡◌, refl, sym, ap, ◌∙◌}
use mathlib.Core.Bool.{true, false}
use mathlib.Core.List.{List, [], ◌∷◌, ◌++◌, append_assoc}
use lib.ListN.{length}
use Rattle.lists.specs.Lists.{is_nil, all}
use Rattle.lists.proofs.Bools.{and_left_false}
use Rattle.lists.proofs.ListLaws.{all_append_both, all_imply, all_both}
use Rattle.format.specs.Bytes.{Bytes, allowed, cut, is_label}
use Rattle.format.specs.Labels.{Holds, Label, misplaced, Plain, Labelled, line_of}
use Rattle.format.specs.Coordinates.{Geometry, no_geometry}
use Rattle.format.specs.Structure.{Entry, Structure}
use Rattle.format.specs.Writing.{valued}
use Rattle.format.specs.Reading.{Rules, State, Prose, Go, past, over, opened, value_turn, further_turn, line_step, read_lines}
use Rattle.format.proofs.CutLaws.{feedless, full, cut_line}
use Rattle.format.proofs.FieldLaws.{inline, inline_allowed}
use Rattle.format.proofs.RowLines.{full_snoc, inline_feedless}
use Rattle.format.proofs.ReadingLaws.{step_on, line_plain, line_value, read_go}

-- a state by its parts; a form has no geometry
abbrev pub state_with : Geometry → (at : ℕ) → (seen : List Label) → Holds → List Prose → List Entry → Structure → State
state_with p at seen running texts formula body = record { at = at; seen = seen; running = running; texts = texts; formula = formula; geometry = p; body = body }

abbrev pub state_of : (at : ℕ) → (seen : List Label) → Holds → List Prose → List Entry → Structure → State
state_of at seen running texts formula body = state_with no_geometry at seen running texts formula body

-- reading some bytes brings one state to another, whatever follows them
abbrev pub Through : Rules → State → Bytes → State → Type 0
Through u st r next = (rest : Bytes) → read_lines u st (cut (r ++ rest)) ≡ read_lines u next (cut rest)

-- no label line
pub no_label : (s : Bytes) → is_label s ≡ false → line_of s ≡ Plain
unfolding line_of
no_label s f = rw (f, line_of)

module _ (u : Rules) where
  pub through_nil : (st : State) → Through u st [] st
  through_nil st rest = refl

  pub through_both : (a b c : State) (r s : Bytes) → Through u a r b → Through u b s c → Through u a (r ++ s) c
  through_both a b c r s p q rest = ap (λ (t : Bytes). read_lines u a (cut t)) (append_assoc r s rest) ∙ p (s ++ rest) ∙ q rest

  pub through_to : (st a b : State) (r : Bytes) → a ≡ b → Through u st r a → Through u st r b
  through_to st a b r e go rest = go rest ∙ ap (λ (x : State). read_lines u x (cut rest)) e

  pub through_line : (st next : State) (l : Bytes) → full l ≡ true → line_step u st l ≡ Go next → Through u st l (past l next)
  through_line st next l f e rest = ap (read_lines u st) (cut_line l rest f) ∙ read_go u st next l (cut rest) e

  module _ (st : State) (l : Bytes) (fine : all allowed l ≡ true) (begun : is_nil st.seen ≡ false) where
    -- a label line that stands in order
    pub label_step : (x : Label) (v : Bytes) → line_of l ≡ Labelled x v → misplaced st.seen x ≡ false → over st.running ≡ false →
        line_step u st l ≡ value_turn u x.holds (opened st x) (st.at + (length l - length v)) v
    label_step x v e m o = step_on u st l fine (and_left_false (is_nil st.seen) _ begun) ∙ line_value u st l x v e m o

    -- a further line of the record that runs
    pub plain_step : is_label l ≡ false → line_step u st l ≡ further_turn u st.running st l
    plain_step e = step_on u st l fine (and_left_false (is_nil st.seen) _ begun) ∙ line_plain u st l (no_label l e)

-- A RECORD OF ONE LINE: a label without line feed, and a value of bytes of a printed line
module _ (h v : Bytes) where
  pub record_full : feedless h ≡ true → all inline v ≡ true → full (h ++ valued v) ≡ true
  unfolding valued
  record_full f i = go v i
    where
      go : (w : Bytes) → all inline w ≡ true → full (h ++ valued w) ≡ true
      go [] j = full_snoc h f
      go (b ∷ w) j = ap full (sym (append_assoc h (32 ∷ b ∷ w) (10 ∷ []))) ∙ full_snoc (h ++ (32 ∷ b ∷ w)) (all_append_both _ h (32 ∷ b ∷ w) f (inline_feedless (32 ∷ b ∷ w) (all_both inline 32 (b ∷ w) refl j)))

pub inline_fine : (v : Bytes) → all inline v ≡ true → all allowed v ≡ true
inline_fine v i = all_imply inline allowed inline_allowed v i
