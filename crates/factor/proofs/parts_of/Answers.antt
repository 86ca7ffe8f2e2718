-- `factor::parts_of` meets its contract. Assumes nothing.
use Prim.Native.Nat.{suc, ◌+◌}
use mathlib.Core.Path.{◌≡◌, sym, ap, ◌∙◌}
use native.Mathlib.Omega.{arith}
use native.Mathlib.Numerals.{add-one}
use lib.ListN.{take, drop, length, length-drop, drop_of_length-le}
use lib.Seq.{take_all}
use Rattle.lists.specs.Lists.{span}
use Rattle.std.specs.Prelude.{unwrap_or}
use Rattle.format.specs.Coordinates.{unpointed}
use Rattle.std.proofs.Common.{rules}
use Rattle.std.proofs.lemmas.Iterator.{YieldsList-from_slice}
use Rattle.std.proofs.lemmas.Iterator.Search.{position_from_yields_List}
use Rattle.factor.proofs.PartLaws.{pointed, place_is}
use Rattle.factor.proofs.parts_of.Goals.{After-position}
use Rattle.factor.proofs.parts_of.Goals as goal

placed : (c : After-position) → unwrap_or c.position.result (length c.args.word.now) ≡ span unpointed c.args.word.now
placed c = place_is _ _ (position_from_yields_List pointed _ _ _ c.position.ensures.ran (YieldsList-from_slice c.args.word.now cc) (λ x b q k. search rules))

pub returns-in-Some-clause-front : goal.returns-in-Some-clause-front
returns-in-Some-clause-front c =
    let p = sym (ap (λ o. unwrap_or o (length c.args.word.now)) c.in-Some.is) ∙ placed (goal.at.returns-in-Some-clause-front c).After-position in
    ap (λ n. take n c.args.word.now) p

pub returns-in-Some-clause-behind : goal.returns-in-Some-clause-behind
returns-in-Some-clause-behind c =
    let p = sym (ap (λ o. unwrap_or o (length c.args.word.now)) c.in-Some.is) ∙ placed (goal.at.returns-in-Some-clause-behind c).After-position in
    take_all _ (drop (c.in-Some.point + 1) c.args.word.now) (simp length-drop (omega arith)) ∙ ap (λ n. drop n c.args.word.now) (add-one c.in-Some.point ∙ ap suc p)

pub returns-in-None-clause-front : goal.returns-in-None-clause-front
returns-in-None-clause-front c =
    let p = sym (ap (λ o. unwrap_or o (length c.args.word.now)) c.in-None.is) ∙ placed (goal.at.returns-in-None-clause-front c).After-position in
    sym (ap (λ n. take n c.args.word.now) (sym p) ∙ take_all (length c.args.word.now) c.args.word.now (omega arith))

pub returns-in-None-clause-behind : goal.returns-in-None-clause-behind
returns-in-None-clause-behind c =
    let p = sym (ap (λ o. unwrap_or o (length c.args.word.now)) c.in-None.is) ∙ placed (goal.at.returns-in-None-clause-behind c).After-position in
    sym (drop_of_length-le c.args.word.now {i = suc (span unpointed c.args.word.now)} (omega (arith, p)))
