-- What a block's judgement says: the reading of its lines as the definitions read them. Document 01, "Refusal numbers". Assumes nothing.
use Rattle.std.specs.Prelude.{Bool, ◌≡◌, false, List, [], ℕ, length, ℤ, Result, Ok, Err, eqb, true}
use Rattle.lists.specs.Lists.{filled}
use Rattle.format.specs.Bytes.{Bytes, cut}
use Rattle.format.specs.Reading.{State, Accepted, Refused, read_lines, start}
use Rattle.coordinates.specs.KeptRows.{Stored}
use Rattle.gather.specs.Progress.{Bounded, Holding}
use Rattle.gather.specs.declared.progress.Progress.{Progress}
use Rattle.judgement.specs.Lines.{rules_of, Ruled}
use Rattle.judgement.specs.declared.rules.Rules.{Rules as Given}
use Rattle.format.specs.Refusals.{number_of}
use Rattle.format.specs.declared.refusal.Refusal.TheVariants.{Unlent, NoTitle, NoEnd}
use Rattle.format.specs.declared.refusal.Refused.{Refused as Told}

-- the block is accepted in a state, which stands in progress and scratch, its rows of XYZ in the store
pub record Stands (u : Given) (block : Bytes) (p : Progress) (t : List ℕ) (store : List ℤ) : Type 0 where
  pub state : State
  pub is : read_lines (rules_of u) start (cut block) ≡ Accepted state
  pub holding : Holding u.last block p t state
  pub bounded : Bounded (length block) p
  pub stored : Stored store state.geometry.rows

abbrev pub ShowsJudged : Given → Bytes → List ℕ → List ℤ → Result Progress Told → Type 0
ShowsJudged u block t store (Ok p) = Stands u block p t store
ShowsJudged u block t store (Err e) = read_lines (rules_of u) start (cut block) ≡ Refused (number_of e.refusal) e.place

-- what a reading lends: a scratch of the length, and as many elements known as may be
pub record ReadingLent (u : Given) (t : List ℕ) : Type 0 where
  pub long : length t ≡ 2973
  pub ruled : Ruled u

-- What a judgement promises, by the scratch and the store before and after it. Of what no reading lends: number 0 at place 0, and both as they were. Of a scratch of
-- zeros: the reading of the block's lines. Of a scratch of the length that holds other numbers: the lengths alone.
pub record Judges (u : Given) (block : Bytes) (before after : List ℕ) (store₀ store : List ℤ) (r : Result Progress Told) : Type 0 where
  pub long : length after ≡ length before
  pub stores : length store ≡ length store₀
  pub unlent : (ReadingLent u before → ⊥) → (r ≡ Err (record { refusal = Unlent; place = 0 })) × (after ≡ before) × (store ≡ store₀)
  pub shows : Ruled u → before ≡ filled 0 2973 [] → ShowsJudged u block after store r

-- what is known before the first line
abbrev pub unread_yet : Progress
unread_yet = record {
  running = 0;
  top = 0;
  title = record { from = 0; to = 0 };
  origin = record { from = 0; to = 0 };
  owner = record { from = 0; to = 0 };
  formula = record { from = 0; to = 0 };
  atoms = 0;
  bonds = 0;
  charges = 0;
  radicals = 0;
  centres = 0;
  pairs = 0;
  id = 0;
  handed = false;
}

-- where a block ends, at a place: accepted where END runs; "no END line", "or the block is empty"
abbrev pub end_by : (over unseen : Bool) → Progress → (at : ℕ) → Result Progress Told
end_by true unseen p at = Ok p
end_by false true p at = Err (record { refusal = NoTitle; place = 0 })
end_by false false p at = Err (record { refusal = NoEnd; place = at })

abbrev pub judged_end : Progress → (at : ℕ) → Result Progress Told
judged_end p at = end_by (eqb p.running 13) (eqb p.top 0) p at
