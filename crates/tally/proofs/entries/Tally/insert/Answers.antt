-- `tally::entries::Tally::insert` meets its contract. Assumes nothing.
use Prim.Native.Nat.{◌+◌, ◌≤◌}
use mathlib.Core.Path.{◌≡◌, ap, ◌∙◌}
use mathlib.Core.List.{◌∷◌, ◌++◌}
use native.Mathlib.Omega.{arith}
use lib.ListN.{length, take, drop, set}
use lib.Seq.{length-take-le}
use Rattle.std.proofs.Common.{rules}
use Rattle.tally.proofs.GapLaws.{put_in}
use Rattle.tally.proofs.entries.Tally.insert.Goals as goal

pub returns : goal.returns
returns c =
    let t = c.self.inside in
    let long : length t.entries ≡ 512 = search rules in
    let few : t.count ≤ 512 = c.self.invariant in
    let size : length (take t.count t.entries) ≡ t.count = length-take-le t.count t.entries (omega arith) in
    let same = ap length c.self.view_is in
    ap (λ l. take (t.count + 1) (set l c.args.place c.args.entry)) c.open_gap.ensures
    ∙ put_in t.entries c.args.place t.count c.args.entry (omega (arith, c.requires.0)) (omega (arith, c.requires.1))
    ∙ ap (λ l. take c.args.place l ++ (c.args.entry ∷ drop c.args.place l)) c.self.view_is
