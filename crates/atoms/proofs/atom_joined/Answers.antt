-- `atoms::atom_joined` meets its contract. Assumes nothing.
use mathlib.Core.Path.{refl, sym, ◌∙◌}
use native.Mathlib.Omega.{arith}
use Rattle.atoms.proofs.AtomLineLaws.{mass_10, hydrogens_10, shows_11, shows_12, shows_14, shows_joined}
use Rattle.atoms.proofs.atom_joined.Goals as goal
use Rattle.atoms.proofs.atom_joined.Goals.{then-not-mass_fits-via-then-not-mass_fits, then-not-mass_fits-via-else-not-mass_fits+then-row-gt15}

pub returns-then-not-mass_fits : goal.returns-then-not-mass_fits
returns-then-not-mass_fits c =
    let a = c.args.row in (
      refl,
      tt,
      elim c.then-not-mass_fits.branch [
        | then-not-mass_fits-via-then-not-mass_fits w ↦ mass_10 _ _ a.number a.mark a.hydrogens _ _ (sym c.mass_fits.ensures ∙ w.if-not-mass_fits.true)
        | then-not-mass_fits-via-else-not-mass_fits+then-row-gt15 w ↦ hydrogens_10 _ _ a.number a.mark a.hydrogens _ _ w.if-row-gt15.true
      ],
    )

pub returns-then-row-next : goal.returns-then-row-next
returns-then-row-next c = let a = c.args.row in (refl, tt, shows_11 _ _ a.number a.mark a.hydrogens _ _ (sym c.mass_fits.ensures ∙ c.if-not-mass_fits.false) c.if-row-gt15.false c.if-row-next.true)

pub returns-then-isotope-eq0 : goal.returns-then-isotope-eq0
returns-then-isotope-eq0 c =
    let a = c.args.row in
    (refl, tt, shows_12 _ _ a.number a.mark a.hydrogens _ _ (sym c.mass_fits.ensures ∙ c.if-not-mass_fits.false) c.if-row-gt15.false c.if-row-next.false _ c.isotope_of-isotope.ensures c.if-isotope-eq0.true)

pub returns-then-atoms-ge-ATOMS : goal.returns-then-atoms-ge-ATOMS
returns-then-atoms-ge-ATOMS c =
    let a = c.args.row in
    (refl, tt, shows_14 _ _ a.number a.mark a.hydrogens _ _ (sym c.mass_fits.ensures ∙ c.if-not-mass_fits.false) c.if-row-gt15.false c.if-row-next.false _ c.isotope_of-isotope.ensures c.if-isotope-eq0.false c.if-atoms-ge-ATOMS.true)

pub returns : goal.returns
returns c =
    let a = c.args.row in
    let p = c.put_atom.ensures in (
      p.0,
      omega (arith, c.if-atoms-ge-ATOMS.false),
      shows_joined _ _ a.number a.mark a.hydrogens _ _ (sym c.mass_fits.ensures ∙ c.if-not-mass_fits.false) c.if-row-gt15.false c.if-row-next.false _ c.isotope_of-isotope.ensures c.if-isotope-eq0.false
          c.if-atoms-ge-ATOMS.false (p.1 c.requires.0 c.if-atoms-ge-ATOMS.false),
    )
