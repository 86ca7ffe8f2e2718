-- The cases and worked examples of document 01, and those of document 02, L2 and L4, computed from the definitions. Assumes nothing.
use mathlib.Core.Path.{◌≡◌, refl}
use Rattle.std.specs.declared.option.Option.TheVariants.{Some}
use mathlib.Core.List.{[], ◌∷◌, ◌++◌, map}
use lib.ListN.{replicate}
use Rattle.format.specs.Bytes.{bytes}
use Rattle.format.specs.Table.{lent, noughts, ample, read_answer, read_result}
use Rattle.format.specs.Writing.{write_result}
use Rattle.format.specs.Walking.{answers, block, stray, piece, Found, Finished, NotWalked, walk_at, name_of, check_of}
use Rattle.demands.specs.Cases.{judged}
use Rattle.demands.specs.Starred.{starred}
use Rattle.demands.specs.Neighbours.{neighbours}
use Rattle.demands.specs.Placings.{placings}
use Rattle.demands.specs.Handings.{handings}
use Rattle.demands.specs.Examples.{formic_input, formic_written, formic_table, placed_neon, placed_positions, cyclooctene_input, cyclooctene_written, cyclooctene_table, hydrate_input, hydrate_written, hydrate_table, neon, example_file, printed_all, example_lines}
use Rattle.format.proofs.Computing.{computing}

pub starred_hold : map judged starred ≡ map (λ c. c.answer) starred
unfolding computing judged starred
starred_hold = refl

pub neighbours_hold : map judged neighbours ≡ map (λ c. c.answer) neighbours
unfolding computing judged neighbours
neighbours_hold = refl

pub placings_hold : map judged placings ≡ map (λ c. c.answer) placings
unfolding computing judged placings
placings_hold = refl

pub handings_hold : map judged handings ≡ map (λ c. c.answer) handings
unfolding computing judged handings
handings_hold = refl

-- formic acid is read to its table, and that table is written as document 01 has it; two bytes beyond stay
pub formic_read : read_result 103 (bytes formic_input) ample ≡ read_answer 0 0 (lent formic_table (noughts 1024))
unfolding computing formic_table
formic_read = refl

pub formic_written_lem : write_result 103 formic_table (bytes formic_input) (replicate 158 7) ≡ record { number = 0; count = 156; buffer = bytes formic_written ++ (7 ∷ 7 ∷ []) }
unfolding computing formic_table
formic_written_lem = refl

-- the positions of a block, number for number
pub placed_read : (read_result 103 (bytes placed_neon) ample).after.positions ≡ placed_positions
unfolding computing placed_positions
placed_read = refl

-- the ring that is handed as a whole, in the same way
pub cyclooctene_read : read_result 103 (bytes cyclooctene_input) ample ≡ read_answer 0 0 (lent cyclooctene_table (noughts 1024))
unfolding computing cyclooctene_table
cyclooctene_read = refl

pub cyclooctene_written_lem : write_result 103 cyclooctene_table (bytes cyclooctene_input) (replicate 294 7) ≡ record { number = 0; count = 292; buffer = bytes cyclooctene_written ++ (7 ∷ 7 ∷ []) }
unfolding computing cyclooctene_table
cyclooctene_written_lem = refl

-- the hydrate, in the same way
pub hydrate_read : read_result 103 (bytes hydrate_input) ample ≡ read_answer 0 0 (lent hydrate_table (noughts 1024))
unfolding computing hydrate_table
hydrate_read = refl

pub hydrate_written_lem : write_result 103 hydrate_table (bytes hydrate_input) (replicate 236 7) ≡ record { number = 0; count = 234; buffer = bytes hydrate_written ++ (7 ∷ 7 ∷ []) }
unfolding computing hydrate_table
hydrate_written_lem = refl

-- the walk's example: its four lines, and single steps
pub example_walked : printed_all (answers 103 example_file) ≡ Some example_lines
unfolding computing example_file
example_walked = refl

pub example_steps :
    (walk_at example_file 0 ≡ Found (piece block 0 88))
    × (walk_at example_file 88 ≡ Found (piece stray 88 93))
    × (walk_at example_file 2 ≡ Found (piece stray 2 93))
    × (walk_at example_file 192 ≡ Finished)
    × (walk_at example_file 193 ≡ NotWalked 32)
unfolding computing example_file
example_steps = (refl, refl, refl, refl, refl)

pub example_names :
    (name_of (bytes neon) [] ≡ bytes "a")
    × (name_of (bytes "##TITLE=\n") (bytes "x") ≡ bytes "x")
    × (name_of (bytes "##TITLE=\n foo \n bar\n##X") [] ≡ bytes "foo \n bar")
    × (name_of (bytes "##END=\n") (bytes "x") ≡ bytes "x")
unfolding computing
example_names = (refl, refl, refl, refl)

pub example_checks : (check_of 103 (bytes neon) ≡ 0) × (check_of 103 [] ≡ 17179869184)
unfolding computing
example_checks = (refl, refl)
