-- The refusal of a formula, as Reading's formula_turn tests it: document 01, "Rows", MOLFORM; "Refusal numbers": 9, 10, 12, "the lowest number" decides.
-- Assumes nothing.
use Rattle.std.specs.Prelude.{ℕ, Bool, true, false, ◌&&◌, List, Result, Ok, Err, nat_lt, if◌then◌else◌}
use Rattle.std.specs.declared.option.Option.{Option}
use Rattle.std.specs.declared.option.Option.TheVariants.{None, Some}
use Rattle.lists.specs.Lists.{all, any}
use Rattle.format.specs.Bytes.{within}
use Rattle.format.specs.Formula.{Counted}
use Rattle.format.specs.Structure.{unknown, mass_ok}
use Rattle.format.specs.Reading.{Turn, Stop}
use Rattle.format.specs.Refusals.{number_of}
use Rattle.format.specs.declared.refusal.Refusal.{Refusal}
use Rattle.format.specs.declared.refusal.Refusal.TheVariants.{Shape, Range, Symbol}

abbrev pub Verdict : Type 0
Verdict = Result (Unit {0}) Refusal

-- by whether each entry's numbers are in their ranges, and whether a symbol is unknown
abbrev pub verdict_of : (fits odd : Bool) → Verdict
verdict_of false odd = Err Range
verdict_of true true = Err Symbol
verdict_of true false = Ok tt

unfoldable pub entries_verdict : (k : ℕ) → List Counted → Verdict
entries_verdict k cs = verdict_of (all (λ c. mass_ok c.symbol && within 1 9999 c.count) cs) (any (λ c. unknown k c.symbol) cs)

abbrev pub formula_verdict : (k : ℕ) → Option (List Counted) → Verdict
formula_verdict k None = Err Shape
formula_verdict k (Some cs) = entries_verdict k cs

-- the lower of two refusals
abbrev pub lower : Refusal → Refusal → Refusal
lower a b = if nat_lt (number_of b) (number_of a) then b else a

abbrev pub lowest : Verdict → Verdict → Verdict
lowest (Ok u) r = r
lowest (Err a) (Ok u) = Err a
lowest (Err a) (Err b) = Err (lower a b)

-- the refusal of what was told so far, w, and of what a run still tells
abbrev pub refusal_with : (k : ℕ) (w : Verdict) → Option (List Counted) → Verdict
refusal_with k w r = lowest w (formula_verdict k r)

-- the turn of a line by its refusal
abbrev pub turn_of : Verdict → Turn → Turn
turn_of (Ok u) t = t
turn_of (Err e) t = Stop (number_of e)
