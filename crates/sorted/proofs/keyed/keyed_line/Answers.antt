-- `sorted::keyed::keyed_line` meets its contract. Assumes nothing.
use Rattle.std.proofs.Common.{◌*◌, length, rules}
use native.Mathlib.Omega.{arith}
use mathlib.Core.Path.{sym, ◌∙◌}
use Rattle.sorted.proofs.HandedLaws.{handed_within, handed_shows}
use Rattle.sorted.proofs.KeyedLaws.{fits_parts}
use Rattle.sorted.proofs.keyed.keyed_line.Goals as goal

pub returns : goal.returns
returns g c =
    let a = c.line_joined.ensures in
    let f = fits_parts (length c.args.region.now) (2 * c.MOST.result) c.args.count c.MOST-2.result c.args.atoms (sym c.region_fits.ensures ∙ c.if-not-region_fits.false) in (
      a.0,
      λ long few atoms. (handed_within c.args.place _ _ _ _ c.map_err.ensures.cases a.1, λ rs len fi lent. handed_shows _ _ _ _ _ _ _ c.map_err.ensures.cases (λ e f k. search rules) (a.2 rs len fi lent)),
      λ other. absurd (other (omega (arith, f.0, c.MOST.ensures)) (omega (arith, f.1, c.MOST-2.ensures)) f.2),
    )
