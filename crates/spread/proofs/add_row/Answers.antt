-- `spread::add_row` meets its contract. Assumes nothing.
use native.Mathlib.Omega.{arith}
use mathlib.Core.Path.{sym, ◌∙◌}
use lib.ListN.{length-set}
use Rattle.format.specs.Bytes.{within}
use Rattle.std.proofs.Common.{rules}
use Rattle.spread.proofs.MemberLaws.{passes_listed}
use Rattle.spread.proofs.SpreadRowLaws.{listed_within, shows_11, shows_13, shows_14, shows_kept}
use Rattle.spread.proofs.add_row.Goals as goal

pub returns-then-not-all_members : goal.returns-then-not-all_members
returns-then-not-all_members c =
    let listed = sym (passes_listed _ _) ∙ sym (c.all_members.ensures (within 1 c.args.atoms) (λ n b k. search rules)) ∙ c.if-not-all_members.true in
    (c.requires.0, tt, λ s v rs range code len is. shows_11 s v _ _ rs range _ listed)

pub claim-requires : goal.claim-requires
claim-requires c =
    let listed = sym (passes_listed _ _) ∙ sym (c.all_members.ensures (within 1 c.args.atoms) (λ n b k. search rules)) ∙ c.if-not-all_members.false in
    (c.requires.0, c.requires.1, listed_within _ _ c.requires.3 listed)

pub returns-then-not-claim : goal.returns-then-not-claim
returns-then-not-claim c =
    let listed = sym (passes_listed _ _) ∙ sym (c.all_members.ensures (within 1 c.args.atoms) (λ n b k. search rules)) ∙ c.if-not-all_members.false in
    (c.claim.ensures.0, tt, λ s v rs range code len is. shows_13 s v _ _ rs range _ _ _ len c.requires.2 is c.requires.3 listed _ _ c.if-not-claim.true c.claim.ensures.1)

pub returns-then-count-ge-CHARGES : goal.returns-then-count-ge-CHARGES
returns-then-count-ge-CHARGES c =
    let listed = sym (passes_listed _ _) ∙ sym (c.all_members.ensures (within 1 c.args.atoms) (λ n b k. search rules)) ∙ c.if-not-all_members.false in
    (c.claim.ensures.0, tt, λ s v rs range code len is. shows_14 s v _ _ rs range _ _ _ len c.requires.2 is c.requires.3 listed _ _ c.if-not-claim.false c.claim.ensures.1 c.if-count-ge-CHARGES.true)

pub returns : goal.returns
returns c =
    let listed = sym (passes_listed _ _) ∙ sym (c.all_members.ensures (within 1 c.args.atoms) (λ n b k. search rules)) ∙ c.if-not-all_members.false in
    (simp length-set c.claim.ensures.0, omega (arith, c.if-count-ge-CHARGES.false), λ s v rs range code len is. shows_kept s v _ _ rs range _ _ _ len c.requires.2 is c.requires.3 listed _ code _ c.if-not-claim.false c.claim.ensures.1 c.if-count-ge-CHARGES.false)
