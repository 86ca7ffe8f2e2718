-- The writing packed: each answer is one case. Assumes nothing.
use native.Mathlib.Omega.{arith}
use Rattle.host.proofs.PackLaws.{count_packed, refusal_packed, written_buffer}
use Rattle.host.proofs.galebonnet_write.Goals as goal

pub returns-in-Ok : goal.returns-in-Ok
returns-in-Ok c = record {
  answer = count_packed _ _ _ c.write.ensures _ c.in-Ok.is;
  written = written_buffer _ _ _ _ c.write.ensures c.in-Ok.is;
}

pub returns-in-Err : goal.returns-in-Err
returns-in-Err c = record {
  answer = omega (arith, c.packed.ensures, c.number.ensures, refusal_packed _ _ _ c.write.ensures _ c.in-Err.is);
  written = written_buffer _ _ _ _ c.write.ensures c.in-Err.is;
}
