-- What the functions of one line promise: what a reading goes by, a text's part, a label line's turn. Document 01, "Lines and labels"
-- and "Rows". Assumes nothing.
use Rattle.std.specs.Prelude.{ℕ, ◌≤◌, ◌≡◌, Bool, true, false, ◌&&◌, not, [], ◌∷◌, eqb, ltb, Result, IfOk}
use Rattle.lists.specs.Lists.{all}
use Rattle.format.specs.Bytes.{Bytes}
use Rattle.format.specs.Labels.{Label, misplaced}
use Rattle.format.specs.Coordinates.{exceeds}
use Rattle.format.specs.Structure.{entries_of, agree}
use Rattle.format.specs.Reading.{Rules, State, Turn, Go, if◌stop◌else◌, over, opened, partly, value_turn}
use Rattle.gather.specs.Progress.{altered}
use Rattle.fields.specs.declared.Field.{Field}
use Rattle.gather.specs.declared.progress.Progress.{Progress}
use Rattle.format.specs.declared.refusal.Refused.{Refused}
use Rattle.judgement.specs.declared.rules.Rules.{Rules as Given}

abbrev pub rules_of : Given → Rules
rules_of u = record { elements = u.last; totals = u.totals }

-- how many elements may be known: D and T are the first one, and no symbol follows the last
pub record Ruled (u : Given) : Type 0 where
  pub low : 1 ≤ u.last
  pub high : u.last ≤ 103

-- an answer that leaves the progress as it is, or leaves the record that runs
abbrev pub KeptTurn : Progress → Result Progress Refused → Type 0
KeptTurn p r = IfOk r (λ q. q ≡ p)

abbrev pub SameRunning : Progress → Result Progress Refused → Type 0
SameRunning p r = IfOk r (λ q. q.running ≡ p.running)

abbrev pub with_texts : (title origin owner : Field) → Progress → Progress
with_texts title origin owner p = altered p.running p.top title origin owner p.formula p.atoms p.id p

-- the running text is the part x: the title where the code is 1, the origin where it is 3, else the owner
unfoldable pub text_put : (code : ℕ) → Field → Progress → Progress
text_put c x p =
    elim (eqb c 1) [
      | true ↦ with_texts x p.origin p.owner p
      | false ↦ elim (eqb c 3) [ true ↦ with_texts p.title x p.owner p | false ↦ with_texts p.title p.origin x p ]
    ]

-- a label line's turn, its value from `from` on
abbrev pub label_turn : Rules → State → (from : ℕ) → Label → Bytes → Turn
label_turn u st from x v = if misplaced st.seen x stop 6 else if over st.running stop 17 else value_turn u x.holds (opened st x) from v

-- the last tests of END: 41 "one or two of the three labels present without the rest", 42 "a value above MAX_XYZ"
abbrev pub geometry_end : State → Turn
geometry_end st = if partly st.seen (14 ∷ 15 ∷ 16 ∷ []) stop 41 else if exceeds st.geometry stop 42 else Go st

-- and 15 "formula and atoms differ" before them
abbrev pub totals_end : Rules → State → Turn
totals_end u st = if u.totals && not (agree st.formula (entries_of st.body.atoms)) stop 15 else geometry_end st

-- each label seen has an interval that begins above 0, as every known one has
abbrev pub begun : State → Bool
begun st = all (λ y. ltb 0 y.low) st.seen
