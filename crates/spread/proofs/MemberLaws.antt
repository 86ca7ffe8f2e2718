-- The fields of a charge or radical row as the code meets them: the first one's value in or out of its range, and member after member, each a number, an atom that is
-- listed, one without a row. Serves the line of CHARGE and RADICAL (document 01, "Rows"). Assumes nothing.
use Prim.Native.Nat.{ℕ, ◌-◌, ◌≤◌, ◌<◌}
use mathlib.Core.Path.{◌≡◌, refl, sym, ap, ◌∙◌, subst}
use mathlib.Core.Bool.{Bool, true, false}
use Rattle.std.specs.declared.option.Option.{Option}
use Rattle.std.specs.declared.option.Option.TheVariants.{None, Some}
use mathlib.Core.List.{List, [], ◌∷◌}
use native.Mathlib.Omega.{arith}
use lib.ListN.{length, drop, get_or, set}
use lib.IntN.{ℤ, pos, negsuc, nat_abs}
use borrow.Author.Tests.{eq-eqb, ne_eqb}
use Rattle.lists.specs.Lists.{all}
use Rattle.lists.proofs.Bools.{torn}
use Rattle.lists.proofs.ListLaws.{all_nil, all_in, all_out, all_parts}
use Rattle.format.specs.Bytes.{Bytes, within, fields}
use Rattle.format.specs.Rows.{number}
use Rattle.format.specs.Structure.{ranged, ranging}
use Rattle.format.proofs.ByteLaws.{within_low, within_true}
use Rattle.std.specs.Prelude.{IfSome, Result, Ok, Err, ok_or}
use mir.Facts.{to_z-of_z}
use mir.Syntax.{w32}
use mir.Val.{SFits, to_z, of_z}
use Rattle.format.specs.declared.refusal.Refusal.{Refusal}
use Rattle.spread.specs.Members.{list_of, some_passes, or_zero, passes, is_number, member_in, members_in, NumberAt, ShowsMember, claims, claimed, ShowsClaim}
use Rattle.spread.specs.declared.Member.{Member}

-- THE VALUE of a row in its range is small; a small number is itself in the machine
ranging_high : (v : ℤ) → ranging 1 15 v ≡ true → nat_abs v ≤ 99
unfolding ranging
ranging_high (pos n) e = omega (arith, (within_true 1 15 n e).1)
ranging_high (negsuc n) e = torn false e refl

pub ranged_high : (s : Bool) (v : ℤ) → ranged (list_of s) v ≡ true → nat_abs v ≤ 99
unfolding ranged
ranged_high true v e = (within_true 1 99 (nat_abs v) e).1
ranged_high false v e = ranging_high v e

sfits_small : (v : ℤ) → nat_abs v < 1000000 → SFits w32 v
sfits_small (pos n) h = record { sfits = omega (arith, h) }
sfits_small (negsuc n) h = record { sfits = omega (arith, h) }

pub machine_small : (o : Option ℤ) (v : ℤ) → o ≡ Some v → IfSome o (λ z. nat_abs z < 1000000) → to_z w32 (of_z w32 v) ≡ v
machine_small o v e h = to_z-of_z {w = w32} (sfits_small v (subst (λ (q : Option ℤ). IfSome q (λ z. nat_abs z < 1000000)) e h))

-- an option as a result
pub some_from_ok : {T E : Type 0} (o : Option T) (x : E) (r : Result T E) (v : T) → r ≡ ok_or o x → r ≡ Ok v → o ≡ Some v
some_from_ok None x r v a b = let q : ◌≡◌ {A = Result _ _} (Err x) (Ok v) = sym a ∙ b in let z : ◌≡◌ {A = ℕ} 0 1 = cc in absurd (omega arith)
some_from_ok (Some w) x r v a b = let q : ◌≡◌ {A = Result _ _} (Ok w) (Ok v) = sym a ∙ b in let z : w ≡ v = cc in ap Some z

pub none_from_err : {T E : Type 0} (o : Option T) (x e : E) (r : Result T E) → r ≡ ok_or o x → r ≡ Err e → (o ≡ None) × (e ≡ x)
none_from_err None x e r a b = let q : ◌≡◌ {A = Result _ _} (Err x) (Err e) = sym a ∙ b in let z : x ≡ e = cc in (refl, sym z)
none_from_err (Some w) x e r a b = let q : ◌≡◌ {A = Result _ _} (Ok w) (Err e) = sym a ∙ b in let z : ◌≡◌ {A = ℕ} 0 1 = cc in absurd (omega arith)

-- WHAT THE ANSWER ON A MEMBER SAYS, by which it is
module _ (line : Bytes) (at : ℕ) (r : Result (Option Member) Refusal) where
  pub met_none : (o : Option Member) → ShowsMember line at r → r ≡ Ok o → o ≡ None → fields (drop at line) ≡ []
  met_none o h e q = subst (ShowsMember line at) (e ∙ ap Ok q) h

  pub met_some : (o : Option Member) (m : Member) → ShowsMember line at r → r ≡ Ok o → o ≡ Some m → NumberAt line at m.number m.to
  met_some o m h e q = subst (ShowsMember line at) (e ∙ ap Ok q) h

  pub met_wrong : (e : Refusal) → ShowsMember line at r → r ≡ Err e → (w : Bytes) × (ws : List Bytes) × (fields (drop at line) ≡ w ∷ ws) × (number w ≡ None)
  met_wrong e h q = subst (ShowsMember line at) q h

-- A FIELD that is a number, and one that is none
module _ (f : Bytes) where
  pub number_member : (n : ℕ) → number f ≡ Some n → member_in f ≡ n
  unfolding member_in
  number_member n e = ap or_zero e

  pub number_is : (n : ℕ) → number f ≡ Some n → is_number f ≡ true
  number_is n e = ap (some_passes (λ n. true)) e

  pub wrong_member : number f ≡ None → member_in f ≡ 0
  unfolding member_in
  wrong_member e = ap or_zero e

  pub wrong_is : number f ≡ None → is_number f ≡ false
  wrong_is e = ap (some_passes (λ n. true)) e

-- EACH FIELD PASSES A TEST
module _ (p : ℕ → Bool) (line : Bytes) (at : ℕ) where
  pub passes_none : fields (drop at line) ≡ [] → all (passes p) (fields (drop at line)) ≡ true
  passes_none e = ap (all (passes p)) e ∙ all_nil (passes p)

  pub passes_wrong : (w : Bytes) (ws : List Bytes) → fields (drop at line) ≡ w ∷ ws → number w ≡ None → all (passes p) (fields (drop at line)) ≡ false
  passes_wrong w ws e g = ap (all (passes p)) e ∙ all_out (passes p) w ws (ap (some_passes p) g)

  module _ (n to : ℕ) (h : NumberAt line at n to) where
    pub passes_step : p n ≡ true → all (passes p) (fields (drop at line)) ≡ all (passes p) (fields (drop to line))
    passes_step e = ap (all (passes p)) h.first ∙ all_in (passes p) h.word (fields (drop to line)) (ap (some_passes p) h.is ∙ e)

    pub passes_failed : p n ≡ false → all (passes p) (fields (drop at line)) ≡ false
    passes_failed e = ap (all (passes p)) h.first ∙ all_out (passes p) h.word (fields (drop to line)) (ap (some_passes p) h.is ∙ e)

-- a field that is no number is read as 0, which passes no test that a listed atom passes
pub passes_listed : (atoms : ℕ) (fs : List Bytes) → all (passes (within 1 atoms)) fs ≡ all (within 1 atoms) (members_in fs)
passes_listed atoms [] = all_nil (passes (within 1 atoms)) ∙ sym (all_nil (within 1 atoms))
passes_listed atoms (f ∷ fs) = go (number f) refl (passes_listed atoms fs)
  where
    told : (n : ℕ) (b : Bool) → number f ≡ Some n → within 1 atoms n ≡ b → all (passes (within 1 atoms)) fs ≡ all (within 1 atoms) (members_in fs)
        → all (passes (within 1 atoms)) (f ∷ fs) ≡ all (within 1 atoms) (member_in f ∷ members_in fs)
    told n true e g ih =
        all_in (passes (within 1 atoms)) f fs (ap (some_passes (within 1 atoms)) e ∙ g) ∙ ih
        ∙ sym (all_in (within 1 atoms) (member_in f) (members_in fs) (ap (within 1 atoms) (number_member f n e) ∙ g))
    told n false e g ih =
        all_out (passes (within 1 atoms)) f fs (ap (some_passes (within 1 atoms)) e ∙ g)
        ∙ sym (all_out (within 1 atoms) (member_in f) (members_in fs) (ap (within 1 atoms) (number_member f n e) ∙ g))

    go : (o : Option ℕ) → number f ≡ o → all (passes (within 1 atoms)) fs ≡ all (within 1 atoms) (members_in fs)
        → all (passes (within 1 atoms)) (f ∷ fs) ≡ all (within 1 atoms) (member_in f ∷ members_in fs)
    go None e ih =
        all_out (passes (within 1 atoms)) f fs (ap (some_passes (within 1 atoms)) e)
        ∙ sym (all_out (within 1 atoms) (member_in f) (members_in fs) (ap (within 1 atoms) (wrong_member f e) ∙ within_low 1 atoms 0 (omega arith)))
    go (Some n) e ih = told n (within 1 atoms n) e refl ih

-- EACH MEMBER LISTED
module _ (line : Bytes) (at atoms : ℕ) where
  listed_wrong : (w : Bytes) (ws : List Bytes) → fields (drop at line) ≡ w ∷ ws → number w ≡ None → all (within 1 atoms) (members_in (fields (drop at line))) ≡ false
  listed_wrong w ws e g = sym (passes_listed atoms (fields (drop at line))) ∙ passes_wrong (within 1 atoms) line at w ws e g

  -- a field that is no number is no member of a row whose members are listed
  pub listed_right : {A : Type 0} (r : Result (Option Member) Refusal) (e : Refusal) → ShowsMember line at r → r ≡ Err e → all (within 1 atoms) (members_in (fields (drop at line))) ≡ true → A
  listed_right r e h q g =
      let m = met_wrong line at r e h q in
      torn (all (within 1 atoms) (members_in (fields (drop at line)))) g (listed_wrong m.0 m.1 m.2 m.3)

  -- a member of a row whose members are listed, and the rest of them
  pub listed_parts : (n to : ℕ) → NumberAt line at n to → all (within 1 atoms) (members_in (fields (drop at line))) ≡ true
      → (1 ≤ n) × (n ≤ atoms) × (all (within 1 atoms) (members_in (fields (drop to line))) ≡ true)
  listed_parts n to h g =
      let q : (within 1 atoms n ≡ true) × (all (within 1 atoms) (members_in (fields (drop to line))) ≡ true)
      = all_parts (within 1 atoms) n (members_in (fields (drop to line)))
      (sym (ap (λ (fs : List Bytes). all (within 1 atoms) (members_in fs)) h.first ∙ ap (λ (m : ℕ). all (within 1 atoms) (m ∷ members_in (fields (drop to line)))) (number_member h.word n h.is)) ∙ g) in
      ((within_true 1 atoms n q.0).0, (within_true 1 atoms n q.0).1, q.1)

-- the cell of a listed member is in the region
pub member_place : (line : Bytes) (at n to : ℕ) → NumberAt line at n to → all (within 1 256) (members_in (fields (drop at line))) ≡ true → (t : List ℕ) → length t ≡ 321 → n - 1 < length t
member_place line at n to h g t e = omega (arith, (listed_parts line at 256 n to h g).0, (listed_parts line at 256 n to h g).1, e)

-- THE CLAIM, clause by clause
module _ (k : ℕ) where
  pub claims_nil : (t : List ℕ) → claims k [] t ≡ Some t
  unfolding claims
  claims_nil t = refl

  pub claims_free : (n : ℕ) (ns t : List ℕ) → get_or t (n - 1) 0 ≡ 0 → claims k (n ∷ ns) t ≡ claims k ns (set t (n - 1) k)
  unfolding claims
  claims_free n ns t e = rw (eq-eqb _ _ e, claims)

  pub claims_taken : (n : ℕ) (ns t : List ℕ) → (get_or t (n - 1) 0 ≡ 0 → ⊥) → claims k (n ∷ ns) t ≡ None
  unfolding claims
  claims_taken n ns t e = rw (ne_eqb _ _ e, claims)

  pub void_free : (t : List ℕ) → get_or t 320 0 ≡ 0 → claimed k [] t ≡ Some (set t 320 k)
  unfolding claimed
  void_free t e = rw (eq-eqb _ _ e, claimed)

  pub void_taken : (t : List ℕ) → (get_or t 320 0 ≡ 0 → ⊥) → claimed k [] t ≡ None
  unfolding claimed
  void_taken t e = rw (ne_eqb _ _ e, claimed)

  pub claimed_some : (n : ℕ) (ns t : List ℕ) → claimed k (n ∷ ns) t ≡ claims k (n ∷ ns) t
  unfolding claimed
  claimed_some n ns t = refl

pub shows_some : (t u : List ℕ) (o : Option (List ℕ)) → o ≡ Some u → t ≡ u → ShowsClaim true t o
shows_some t u o e h = subst (ShowsClaim true t) (sym e) (refl, h)

pub shows_none : (t : List ℕ) (o : Option (List ℕ)) → o ≡ None → ShowsClaim false t o
shows_none t o e = subst (ShowsClaim false t) (sym e) refl

-- A PASS OVER THE MEMBERS: what the claim of all comes to at the next one
module _ (line : Bytes) (at k : ℕ) (t : List ℕ) where
  pub claim_nil : fields (drop at line) ≡ [] → claims k (members_in (fields (drop at line))) t ≡ Some t
  claim_nil e = ap (λ (fs : List Bytes). claims k (members_in fs) t) e ∙ claims_nil k t

  module _ (n to : ℕ) (h : NumberAt line at n to) where
    claim_is : claims k (members_in (fields (drop at line))) t ≡ claims k (n ∷ members_in (fields (drop to line))) t
    claim_is =
        ap (λ (fs : List Bytes). claims k (members_in fs) t) h.first
        ∙ ap (λ (m : ℕ). claims k (m ∷ members_in (fields (drop to line))) t) (number_member h.word n h.is)

    pub claim_taken : (get_or t (n - 1) 0 ≡ 0 → ⊥) → claims k (members_in (fields (drop at line))) t ≡ None
    claim_taken e = claim_is ∙ claims_taken k n (members_in (fields (drop to line))) t e

    pub claim_free : get_or t (n - 1) 0 ≡ 0 → claims k (members_in (fields (drop at line))) t ≡ claims k (members_in (fields (drop to line))) (set t (n - 1) k)
    claim_free e = claim_is ∙ claims_free k n (members_in (fields (drop to line))) t e

    -- a row with a member: the claim of a row is that of its members
    pub claimed_is : claimed k (members_in (fields (drop at line))) t ≡ claims k (members_in (fields (drop at line))) t
    claimed_is =
        ap (λ (fs : List Bytes). claimed k (members_in fs) t) h.first ∙ claimed_some k (member_in h.word) (members_in (fields (drop to line))) t
        ∙ sym (ap (λ (fs : List Bytes). claims k (members_in fs) t) h.first)

  pub claimed_same : (n to : ℕ) → NumberAt line at n to → (b : Bool) (u : List ℕ)
      → ShowsClaim b u (claims k (members_in (fields (drop at line))) t) → ShowsClaim b u (claimed k (members_in (fields (drop at line))) t)
  claimed_same n to h b u g = subst (ShowsClaim b u) (sym (claimed_is n to h)) g

  pub claimed_none : fields (drop at line) ≡ [] → claimed k (members_in (fields (drop at line))) t ≡ claimed k [] t
  claimed_none e = ap (λ (fs : List Bytes). claimed k (members_in fs) t) e
