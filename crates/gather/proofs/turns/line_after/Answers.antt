-- `gather::turns::line_after` meets its contract. Assumes nothing.
use borrow.Author.Rules.{rules}
use Rattle.format.specs.Bytes.{fields}
use Rattle.format.specs.Labels.{Bonds, Charges, Radicals, Centres, Pairs}
use Rattle.gather.proofs.ListLineLaws.{own_code, own_last}
use Rattle.gather.proofs.TurnLaws.{atoms_gather, rows_gather}
use Rattle.gather.proofs.turns.line_after.Goals as goal

pub returns-in-6 : goal.returns-in-6
returns-in-6 c = atoms_gather c.args.code c.args.last c.args.place (fields c.args.line.now) c.args.p c.args.scratch.now c.atom_line.new.region c.atom_line.result (own_code c.args.code 6 c.args.p c.in-6.is) (c.atom_line.ensures.0, λ w h. c.atom_line.ensures.1 w h.atoms, λ other. c.atom_line.ensures.2 (λ w few. other w few few)) (search rules)

pub returns-in-7 : goal.returns-in-7
returns-in-7 c = rows_gather Bonds c.args.code c.args.last c.args.place (fields c.args.line.now) c.args.p c.args.scratch.now c.bond_line.new.region c.bond_line.result (own_code c.args.code 7 c.args.p c.in-7.is) (c.bond_line.ensures.0, λ w h. c.bond_line.ensures.1 w h.bonds h.atoms, c.bond_line.ensures.2) (search rules)

pub returns-in-8 : goal.returns-in-8
returns-in-8 c = rows_gather Charges c.args.code c.args.last c.args.place (fields c.args.line.now) c.args.p c.args.scratch.now c.spread_line.new.region c.spread_line.result (own_code c.args.code 8 c.args.p c.in-8.is) (c.spread_line.ensures.0, λ w h. c.spread_line.ensures.1 w h.charges h.atoms, c.spread_line.ensures.2) (search rules)

pub returns-in-9 : goal.returns-in-9
returns-in-9 c = rows_gather Radicals c.args.code c.args.last c.args.place (fields c.args.line.now) c.args.p c.args.scratch.now c.spread_line-in-9.new.region c.spread_line-in-9.result (own_code c.args.code 9 c.args.p c.in-9.is) (c.spread_line-in-9.ensures.0, λ w h. c.spread_line-in-9.ensures.1 w h.radicals h.atoms, c.spread_line-in-9.ensures.2) (search rules)

pub returns-in-10 : goal.returns-in-10
returns-in-10 c = rows_gather Centres c.args.code c.args.last c.args.place (fields c.args.line.now) c.args.p c.args.scratch.now c.centre_line.new.region c.centre_line.result (own_code c.args.code 10 c.args.p c.in-10.is) (c.centre_line.ensures.0, λ w h. c.centre_line.ensures.1 w h.centres h.atoms, c.centre_line.ensures.2) (search rules)

pub returns-in_default : goal.returns-in_default
returns-in_default c = rows_gather Pairs c.args.code c.args.last c.args.place (fields c.args.line.now) c.args.p c.args.scratch.now c.pair_line.new.region c.pair_line.result (own_last c.args.code c.args.p c.in_default.in_default-own.rest) (c.pair_line.ensures.0, λ w h. c.pair_line.ensures.1 w h.pairs h.atoms, c.pair_line.ensures.2) (search rules)
