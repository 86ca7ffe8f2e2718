-- The turns of a value on its label line and of a blank line, from what the code's answers say: document 01, "Rows" and "Refusal numbers". Assumes nothing.
use Prim.Native.Nat.{ℕ, zero, suc, ◌≤◌}
use mathlib.Core.Path.{◌≡◌, refl, sym, ap, ◌∙◌}
use mathlib.Core.Bool.{Bool, true, false, not}
use Rattle.std.specs.declared.option.Option.{Option}
use Rattle.std.specs.declared.option.Option.TheVariants.{None, Some}
use mathlib.Core.List.{List}
use native.Mathlib.Omega.{arith}
use lib.ListN.{length}
use borrow.Author.Tests.{eq-eqb, ne_eqb}
use Rattle.lists.specs.Lists.{all, any}
use Rattle.format.specs.Bytes.{Bytes, gap}
use Rattle.format.specs.Labels.{ListOf, Bonds, Charges, Radicals, Centres, Pairs}
use Rattle.format.specs.Formula.{Counted as Told, formula_shape}
use Rattle.format.specs.Structure.{Structure, rows_of, unknown}
use Rattle.format.specs.Reading.{State, if◌stop◌else◌, with_body, with_id, with_formula, version_turn, id_turn, formula_turn, blank_or}
use Rattle.format.specs.Reading.{Go as going, Stop as stopping, Turn as Turned}
use Rattle.molform.specs.Verdicts.{Verdict, verdict_of, entries_verdict, formula_verdict, turn_of}
use Rattle.molform.specs.Totals.{formula_entries}
use Rattle.molform.proofs.VerdictLaws.{formula_turn_lem}
use Rattle.sorted.specs.Regions.{Fits}
use Rattle.gather.specs.Progress.{part_of, count_of, entries_from, laid, Counted, Bounded, Listed, entry_fine, altered}
use Rattle.gather.specs.Shows.{Shows, ShowsTurn}
use Rattle.fields.specs.declared.Field.{Field}
use Rattle.gather.specs.declared.progress.Progress.{Progress}
use Rattle.std.specs.declared.result.Result.{Result}
use Rattle.std.specs.declared.result.Result.TheVariants.{Ok, Err}
use Rattle.format.specs.Refusals.{number_of}
use Rattle.format.specs.declared.refusal.Refusal.{Refusal}
use Rattle.format.specs.declared.refusal.Refused.{Refused}
use Rattle.gather.proofs.KindLaws.{counted_in, formula_fine_lem}
use Rattle.judgement.specs.Lines.{with_texts, text_put}
use Rattle.judgement.specs.Values.{ShowsId}
use Rattle.judgement.proofs.ValueLaws.{is_version}

-- AN ANSWER SHOWS a turn that goes on, or one that stops
pub go_shown : (k : ℕ) (block : Bytes) (at : ℕ) (q : Progress) (t : List ℕ) (next : State) (turned : Turned) → turned ≡ going next → Shows k block at q t next → ShowsTurn k block at (Ok q) t turned
go_shown k block at q t next turned e h = rw e h

abbrev pub refused_at : Refusal → (at : ℕ) → Result Progress Refused
refused_at e at = Err (record { refusal = e; place = at })

pub stop_shown : (k : ℕ) (block : Bytes) (at : ℕ) (t : List ℕ) (e : Refusal) (turned : Turned) → turned ≡ stopping (number_of e) → ShowsTurn k block at (refused_at e at) t turned
stop_shown k block at t e turned h = rw h (refl, refl)

-- the same of a refusal that is told to be it
pub stop_told : (k : ℕ) (block : Bytes) (at : ℕ) (t : List ℕ) (e : Refusal) (x : Refused) → x ≡ record { refusal = e; place = at } → (turned : Turned) → turned ≡ stopping (number_of e) → ShowsTurn k block at (Err x) t turned
stop_told k block at t e x q turned h = rw q (stop_shown k block at t e turned h)

-- JCAMP-CS
module _ (st : State) (fs : List Bytes) (b : Bool) (e : b ≡ is_version fs) where
  pub version_good : b ≡ true → version_turn st fs ≡ going st
  unfolding version_turn
  version_good h = ap (λ (t : Bool). if not t stop 7 else going st) (sym e ∙ h)

  pub version_bad : b ≡ false → version_turn st fs ≡ stopping 7
  unfolding version_turn
  version_bad h = ap (λ (t : Bool). if not t stop 7 else going st) (sym e ∙ h)

-- A LINE WHERE NOTHING MAY STAND
module _ (n : ℕ) (st : State) (l : Bytes) (b : Bool) (e : b ≡ all gap l) where
  pub blank_good : b ≡ true → blank_or n st l ≡ going st
  unfolding blank_or
  blank_good h = ap (λ (t : Bool). if not t stop n else going st) (sym e ∙ h)

  pub blank_bad : b ≡ false → blank_or n st l ≡ stopping n
  unfolding blank_or
  blank_bad h = ap (λ (t : Bool). if not t stop n else going st) (sym e ∙ h)

-- BLOCK_ID
abbrev pub with_number : ℕ → Progress → Progress
with_number n p = altered p.running p.top p.title p.origin p.owner p.formula p.atoms n p

pub counted_as_lem : (p q : Progress) → Counted p → q.atoms ≡ p.atoms → q.bonds ≡ p.bonds → q.charges ≡ p.charges → q.radicals ≡ p.radicals → q.centres ≡ p.centres → q.pairs ≡ p.pairs → Counted q
counted_as_lem p q h a b c r s t = record { atoms = rw a h.atoms; bonds = rw b h.bonds; charges = rw c h.charges; radicals = rw r h.radicals; centres = rw s h.centres; pairs = rw t h.pairs }

-- the lists and their counts stay where only the block's id and whether it is handed may change
abbrev marked : (id : ℕ) (handed : Bool) → Structure → Structure
marked n y s = record { atoms = s.atoms; bonds = s.bonds; charges = s.charges; radicals = s.radicals; centres = s.centres; pairs = s.pairs; id = n; handed = y }

pub listed_as : (p q : Progress) (n : ℕ) (y : Bool) (s : Structure) → Listed p s → q.atoms ≡ p.atoms → ((l : ListOf) → count_of l q ≡ count_of l p) → n ≡ q.id → y ≡ q.handed → Listed q (marked n y s)
unfolding rows_of
listed_as p q n y s h a e i j =
    let f : (l : ListOf) → Fits l q.atoms (rows_of l s) = λ l. rw a (h.fits l) in
    let g : (l : ListOf) → length (rows_of l s) ≡ count_of l q = λ l. h.counts l ∙ sym (e l) in
    record {
      atoms = h.atoms ∙ sym a;
      counts = λ l. elim l as (λ l. length (rows_of l (marked n y s)) ≡ count_of l q) [ Bonds ↦ g Bonds | Charges ↦ g Charges | Radicals ↦ g Radicals | Centres ↦ g Centres | Pairs ↦ g Pairs ];
      fits = λ l. elim l as (λ l. Fits l q.atoms (rows_of l (marked n y s))) [ Bonds ↦ f Bonds | Charges ↦ f Charges | Radicals ↦ f Radicals | Centres ↦ f Centres | Pairs ↦ f Pairs ];
      id = i;
      handed = j;
    }

-- and they stay where neither changes
pub listed_still : (p q : Progress) (s : Structure) → Listed p s → q.atoms ≡ p.atoms → ((l : ListOf) → count_of l q ≡ count_of l p) → q.id ≡ p.id → q.handed ≡ p.handed → Listed q s
listed_still p q s h a e i j = listed_as p q s.id s.handed s h a e (h.id ∙ sym i) (h.handed ∙ sym j)

module _ (fs : List Bytes) (r : Result ℕ Refusal) (s : ShowsId fs r) where
  pub id_good_lem : (n : ℕ) → r ≡ Ok n → ((st : State) → id_turn st fs ≡ going (with_body st (with_id n st.body))) × (n ≤ 999999)
  id_good_lem n e = rw e at s

  pub id_bad : (a : Refusal) → r ≡ Err a → (st : State) → id_turn st fs ≡ stopping (number_of a)
  id_bad a e = rw e at s

pub id_bounded : (n size : ℕ) (p : Progress) → n ≤ 999999 → Bounded size p → Bounded size (with_number n p)
id_bounded n size p k h = record {
  counted = counted_as_lem p (with_number n p) h.counted refl refl refl refl refl refl;
  code = h.code;
  title = h.title;
  origin = h.origin;
  owner = h.owner;
  formula = h.formula;
  id = k;
}

pub id_shown : (n : ℕ) (k : ℕ) (block : Bytes) (at : ℕ) (p : Progress) (t : List ℕ) (st : State) → Shows k block at p t st → Shows k block at (with_number n p) t (with_body st (with_id n st.body))
unfolding laid
id_shown n k block at p t st h = record {
  place = h.place;
  running = h.running;
  top = h.top;
  holding = record {
    scratch = h.holding.scratch;
    texts = h.holding.texts;
    formula = h.holding.formula;
    formula_fine_lem = h.holding.formula_fine_lem;
    kinds = h.holding.kinds;
    listed = listed_as p (with_number n p) n st.body.handed st.body h.holding.listed refl (λ l. elim l as (λ l. count_of l (with_number n p) ≡ count_of l p) [ Bonds ↦ refl | Charges ↦ refl | Radicals ↦ refl | Centres ↦ refl | Pairs ↦ refl ]) refl h.holding.listed.handed;
    geometry = h.holding.geometry;
  };
}

-- MOLFORM
err-ne-ok : (e : Refusal) (u : Unit {0}) → ◌≡◌ {A = Verdict} (Err e) (Ok u) → ⊥
err-ne-ok e u q = let z : ◌≡◌ {A = ℕ} 0 1 = cc in omega arith

abbrev pub with_part : Field → Progress → Progress
with_part x p = altered p.running p.top p.title p.origin p.owner x p.atoms p.id p

pub formula_refused : (k : ℕ) (st : State) (o : Option (List Told)) (r : Verdict) (e : Refusal) → r ≡ formula_verdict k o → r ≡ Err e → formula_turn k st o ≡ stopping (number_of e)
formula_refused k st o r e q h = formula_turn_lem k st o ∙ ap (λ (m : Verdict). turn_of m (going (with_formula st (formula_entries k o)))) (sym q ∙ h)

entries_same : (k : ℕ) (o : Option (List Told)) → formula_entries k o ≡ entries_from k o
entries_same k None = refl
entries_same k (Some cs) = refl

pub formula_taken : (k : ℕ) (st : State) (o : Option (List Told)) (r : Verdict) → r ≡ formula_verdict k o → r ≡ Ok tt → formula_turn k st o ≡ going (with_formula st (entries_from k o))
formula_taken k st o r e h =
    formula_turn_lem k st o ∙ ap (λ (m : Verdict). turn_of m (going (with_formula st (formula_entries k o)))) (sym e ∙ h) ∙ ap (λ es. going (with_formula st es)) (entries_same k o)

verdict_parts : (f o : Bool) → verdict_of f o ≡ Ok tt → (f ≡ true) × (o ≡ false)
verdict_parts false o e = absurd (err-ne-ok _ _ e)
verdict_parts true true e = absurd (err-ne-ok _ _ e)
verdict_parts true false e = (refl, refl)

taken_fine : (k : ℕ) (v : Bytes) (o : Option (List Told)) → 1 ≤ k → formula_shape v ≡ o → formula_verdict k o ≡ Ok tt → all (entry_fine k) (entries_from k o) ≡ true
unfolding entries_verdict
taken_fine k v None h e f = absurd (err-ne-ok _ _ f)
taken_fine k v (Some cs) h e f = let g = verdict_parts (all counted_in cs) (any (λ c. unknown k c.symbol) cs) f in formula_fine_lem k h v cs e g.0 g.1

pub formula_shown : (k : ℕ) (block : Bytes) (at from to : ℕ) (r : Verdict) (p : Progress) (t : List ℕ) (st : State) → 1 ≤ k → r ≡ formula_verdict k (formula_shape (part_of block from to)) → r ≡ Ok tt → Shows k block at p t st
    → Shows k block at (with_part (record { from = from; to = to }) p) t (with_formula st (entries_from k (formula_shape (part_of block from to))))
unfolding laid
formula_shown k block at from to r p t st low e z h = record {
  place = h.place;
  running = h.running;
  top = h.top;
  holding = record {
    scratch = h.holding.scratch;
    texts = h.holding.texts;
    formula = refl;
    formula_fine_lem = taken_fine k (part_of block from to) (formula_shape (part_of block from to)) low refl (sym e ∙ z);
    kinds = h.holding.kinds;
    listed = listed_still p (with_part (record { from = from; to = to }) p) st.body h.holding.listed refl (λ l. elim l as (λ l. count_of l (with_part (record { from = from; to = to }) p) ≡ count_of l p) [ Bonds ↦ refl | Charges ↦ refl | Radicals ↦ refl | Centres ↦ refl | Pairs ↦ refl ]) refl refl;
    geometry = h.holding.geometry;
  };
}

pub formula_bounded : (size from to : ℕ) (p : Progress) → from ≤ to → to ≤ size → Bounded size p → Bounded size (with_part (record { from = from; to = to }) p)
formula_bounded size from to p a b h = record {
  counted = counted_as_lem p (with_part (record { from = from; to = to }) p) h.counted refl refl refl refl refl refl;
  code = h.code;
  title = h.title;
  origin = h.origin;
  owner = h.owner;
  formula = record { order = a; high = b };
  id = h.id;
}

-- THE RUNNING TEXT
module _ (c : ℕ) (x : Field) (p : Progress) where
  pub text_title : c ≡ 1 → text_put c x p ≡ with_texts x p.origin p.owner p
  unfolding text_put
  text_title e = rw (eq-eqb c 1 e, text_put)

  pub text_origin : (c ≡ 1 → ⊥) → c ≡ 3 → text_put c x p ≡ with_texts p.title x p.owner p
  unfolding text_put
  text_origin a e = rw (ne_eqb c 1 a, eq-eqb c 3 e, text_put)

  pub text_owner : (c ≡ 1 → ⊥) → (c ≡ 3 → ⊥) → text_put c x p ≡ with_texts p.title p.origin x p
  unfolding text_put
  text_owner a b = rw (ne_eqb c 1 a, ne_eqb c 3 b, text_put)
