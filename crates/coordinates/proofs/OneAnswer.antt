-- The promise of `position` allows one answer: document 01, "that two allowed answers are equal is proved". Assumes nothing.
use mathlib.Core.Path.{◌≡◌, refl, sym, ap, ◌∙◌}
use Rattle.std.specs.declared.option.Option.{Option}
use Rattle.std.specs.declared.option.Option.TheVariants.{None, Some}
use Rattle.format.specs.Coordinates.{Position, At, NotGiven}
use Rattle.coordinates.specs.ShownPositions.{shown_position}
use Rattle.coordinates.specs.declared.Point.{Point}

-- the answer that shows a position
abbrev answer_of : Position → Option Point
answer_of (At x y z) = Some (record { x = x; y = y; z = z })
answer_of NotGiven = None

back : (r : Option Point) → answer_of (shown_position r) ≡ r
back (Some p) = refl
back None = refl

pub one_position : (r q : Option Point) → shown_position r ≡ shown_position q → r ≡ q
one_position r q e = sym (back r) ∙ ap answer_of e ∙ back q
