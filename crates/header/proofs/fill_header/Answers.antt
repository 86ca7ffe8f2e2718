-- `header::fill_header` meets its contract. Assumes nothing.
use native.Mathlib.Omega.{arith}
use lib.ListN.{length}
use Rattle.gather.specs.Progress.{Bounded}
use Rattle.filling.proofs.FillLaws.{filled_where}
use Rattle.format.proofs.PlaceLaws.{text_place_lem}
use Rattle.header.proofs.HeaderLaws.{header_is, handed_placed, text_placed}
use Rattle.header.proofs.fill_header.Goals as goal

pub put_text-requires : goal.put_text-requires
put_text-requires c =
    let told : Bounded (length c.args.block.now) c.args.p = c.if-not-is_bounded.ensures in
    (omega (arith, text_place_lem 0 (omega arith)), told.title, omega arith)

pub put_text-requires-2 : goal.put_text-requires-2
put_text-requires-2 c =
    let told : Bounded (length c.args.block.now) c.args.p = c.if-not-is_bounded.ensures in
    (omega (arith, text_place_lem 1 (omega arith)), told.origin, omega arith)

pub put_text-requires-3 : goal.put_text-requires-3
put_text-requires-3 c =
    let told : Bounded (length c.args.block.now) c.args.p = c.if-not-is_bounded.ensures in
    (omega (arith, text_place_lem 2 (omega arith)), told.owner, omega arith)

pub returns : goal.returns
returns c =
    let told : Bounded (length c.args.block.now) c.args.p = c.if-not-is_bounded.ensures in
    let x = c.args in
    filled_where _ _ _ _ (omega arith, omega arith, told) (header_is x.part.now _ _ _ _ _ _ x.block.now x.p (omega arith) (c.fill.ensures.after (λ y h. h)) c.put_counts.ensures (text_placed _ _ _ 0 _ (omega arith) c.text.ensures c.put_text.ensures) (text_placed _ _ _ 1 _ (omega arith) c.text-2.ensures c.put_text-2.ensures) (text_placed _ _ _ 2 _ (omega arith) c.text-3.ensures c.put_text-3.ensures) (handed_placed _ _ _ _ c.from.ensures c.put.ensures))
