-- `form::records::put_span` meets its contract. Assumes nothing.
use native.Mathlib.Omega.{arith}
use Rattle.format.proofs.PlaceLaws.{text_small}
use Rattle.form.proofs.records.put_span.Goals as goal

pub overflow_add-place : goal.overflow_add-place
overflow_add-place c = omega (arith, text_small _ _ c.text-place.ensures)
