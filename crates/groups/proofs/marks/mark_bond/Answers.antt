-- `groups::marks::mark_bond` meets its contract. Assumes nothing.
use Prim.Native.Nat.{◌+◌}
use native.Mathlib.Omega.{arith}
use lib.ListN.{get_or}
use lib.IntN.{pos}
use Rattle.std.proofs.Common.{rules}
use Rattle.groups.proofs.MarkLaws.{kind_low, kind_weak, second_low, second_some, second_beyond, second_in, ones_set}
use Rattle.groups.proofs.marks.mark_bond.Goals as goal

pub returns-then-number-lt1 : goal.returns-then-number-lt1
returns-then-number-lt1 c =
    let s = get_or c.args.rows.now (c.args.place + 1) (pos 0) in
    let k = get_or c.args.rows.now (c.args.place + 2) (pos 0) in
    (kind_low s k c.args.marks.now (search rules) c.if-number-lt1.true, omega arith)

pub returns-then-kind-gt-LAST_JOINING : goal.returns-then-kind-gt-LAST_JOINING
returns-then-kind-gt-LAST_JOINING c =
    let s = get_or c.args.rows.now (c.args.place + 1) (pos 0) in
    let k = get_or c.args.rows.now (c.args.place + 2) (pos 0) in
    (kind_weak s k c.args.marks.now (search rules) c.if-number-lt1.false c.if-kind-gt-LAST_JOINING.true, omega arith)

pub returns-then-second-lt2 : goal.returns-then-second-lt2
returns-then-second-lt2 c =
    let s = get_or c.args.rows.now (c.args.place + 1) (pos 0) in
    let k = get_or c.args.rows.now (c.args.place + 2) (pos 0) in
    (second_low s k c.args.marks.now (search rules) c.if-number-lt1.false c.if-kind-gt-LAST_JOINING.false (search rules) c.if-second-lt2.true, omega arith)

pub returns-then-marks-higher : goal.returns-then-marks-higher
returns-then-marks-higher c =
    let s = get_or c.args.rows.now (c.args.place + 1) (pos 0) in
    let k = get_or c.args.rows.now (c.args.place + 2) (pos 0) in
    (second_beyond s k c.args.marks.now (search rules) c.if-number-lt1.false c.if-kind-gt-LAST_JOINING.false (search rules) c.if-second-lt2.false c.if-marks-higher.true, omega arith)

pub returns : goal.returns
returns c =
    let s = get_or c.args.rows.now (c.args.place + 1) (pos 0) in
    let k = get_or c.args.rows.now (c.args.place + 2) (pos 0) in
    let some = second_some s k c.args.marks.now (search rules) c.if-number-lt1.false c.if-kind-gt-LAST_JOINING.false (search rules) c.if-second-lt2.false in
    (second_in s k c.args.marks.now (search rules) c.if-number-lt1.false c.if-kind-gt-LAST_JOINING.false (search rules) c.if-second-lt2.false c.if-marks-higher.false, ones_set c.args.marks.now _ (omega (arith, some, c.if-marks-higher.false)))
