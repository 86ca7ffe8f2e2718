-- `spread::spread_line` meets its contract. Assumes nothing.
use Rattle.std.proofs.Common.{length, rules}
use mathlib.Core.Path.{sym, ◌∙◌}
use Rattle.sorted.proofs.HandedLaws.{handed_within, handed_shows}
use Rattle.sorted.proofs.KeyedLaws.{fits_parts}
use Rattle.spread.proofs.spread_line.Goals as goal

pub returns : goal.returns
returns c =
    let a = c.line_joined.ensures in
    let f = fits_parts (length c.args.region.now) 321 c.args.count 64 c.args.atoms (sym c.region_fits.ensures ∙ c.if-not-region_fits.false) in (
      a.0 ∙ sym f.0,
      λ long few atoms. (handed_within c.args.place _ _ _ _ c.map_err.ensures.cases a.1, λ rs len fits is. handed_shows _ _ _ _ _ _ _ c.map_err.ensures.cases (λ e f k. search rules) (a.2 rs len fits is)),
      λ other. absurd (other f.0 f.1 f.2),
    )
