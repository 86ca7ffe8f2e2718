-- Each promise of the C door allows one answer, and one pair of tables or one buffer behind it: document 01, "that two allowed answers are equal is proved". Each is an equation to
-- a definition, so two that keep it are equal. Assumes nothing.
use Prim.Native.Nat.{ℕ}
use mathlib.Core.Path.{◌≡◌, sym, ◌∙◌}
use mathlib.Core.List.{List}
use lib.IntN.{ℤ}
use Rattle.format.specs.Bytes.{Bytes}
use Rattle.format.specs.Table.{Lent, read_result}
use Rattle.format.specs.Walking.{walk_at, packed_result, check_of}
use Rattle.format.specs.Writing.{write_result}
use Rattle.host.specs.Packed.{packed_walk, packed_title, packed_written}

module _ (r q : ℕ) where
  pub check_once : (block : Bytes) → r ≡ check_of 103 block → q ≡ check_of 103 block → r ≡ q
  check_once block e f = e ∙ sym f

  pub walk_once : (file : Bytes) (place : ℕ) → r ≡ packed_walk (walk_at file place) → q ≡ packed_walk (walk_at file place) → r ≡ q
  walk_once file place e f = e ∙ sym f

  pub name_once : (block : Bytes) → r ≡ packed_title block → q ≡ packed_title block → r ≡ q
  name_once block e f = e ∙ sym f

  -- an answer with the two tables behind it, and another
  pub read_once : (block : Bytes) (before later after : Lent)
      → (r ≡ packed_result (read_result 103 block before)) × (later ≡ (read_result 103 block before).after)
      → (q ≡ packed_result (read_result 103 block before)) × (after ≡ (read_result 103 block before).after)
      → (r ≡ q) × (later ≡ after)
  read_once block before later after e f = (e.0 ∙ sym f.0, e.1 ∙ sym f.1)

  -- an answer with the buffer behind it, and another
  pub write_once : (table : List ℤ) (texts buffer later after : Bytes)
      → (r ≡ packed_written (write_result 103 table texts buffer)) × (later ≡ (write_result 103 table texts buffer).buffer)
      → (q ≡ packed_written (write_result 103 table texts buffer)) × (after ≡ (write_result 103 table texts buffer).buffer)
      → (r ≡ q) × (later ≡ after)
  write_once table texts buffer later after e f = (e.0 ∙ sym f.0, e.1 ∙ sym f.1)
