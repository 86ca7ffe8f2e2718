-- The reading packed: each answer is one case. Assumes nothing.
use native.Mathlib.Omega.{arith}
use Rattle.reader.proofs.PlacedLaws.{place_fits}
use Rattle.host.proofs.PackLaws.{read_packed, refused_packed, read_tables}
use Rattle.host.proofs.galebonnet_read.Goals as goal

pub packed-requires : goal.packed-requires
packed-requires c = omega (arith, place_fits _ _ _ _ _ _ c.read.ensures.result c.in-Err.is)

pub returns-in-Ok : goal.returns-in-Ok
returns-in-Ok c = record {
  answer = read_packed _ _ _ _ c.read.ensures.result c.in-Ok.is;
  filled = read_tables _ _ _ _ c.read.ensures.result c.in-Ok.is;
}

pub returns-in-Err : goal.returns-in-Err
returns-in-Err c = record {
  answer = refused_packed _ _ _ c.read.ensures.result _ c.in-Err.is _ _ c.packed.ensures c.number.ensures;
  filled = read_tables _ _ _ _ c.read.ensures.result c.in-Err.is;
}
