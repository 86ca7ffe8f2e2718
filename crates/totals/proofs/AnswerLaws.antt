-- The formula's entries taken one by one from what is left: the answer for the rest of the value is the answer for the whole, and the answer for the whole is
-- whether formula and atoms agree. Serves document 01, "At END, for every element and mass, the formula's total .. equals the atoms listed". Assumes nothing.
use Prim.Native.Nat.{ℕ, ◌+◌, ◌-◌, ◌≤◌, ◌<◌}
use mathlib.Core.Path.{◌≡◌, refl, sym, ap, ◌∙◌, subst}
use mathlib.Core.Bool.{Bool, true, false, ◌&&◌}
use Rattle.std.specs.declared.option.Option.{Option}
use Rattle.std.specs.declared.option.Option.TheVariants.{None, Some}
use mathlib.Core.List.{List, [], ◌∷◌}
use native.Mathlib.Numerals.{add-one}
use native.Mathlib.Omega.{arith}
use lib.ListN.{length, get_or, take, drop}
use lib.Seq.{drop-cons, take_all}
use lib.Dec.{leb}
use Rattle.lists.specs.Lists.{all}
use Rattle.lists.proofs.Bools.{and_parts, and_both, never}
use Rattle.lists.proofs.ListLaws.{all_parts, all_imply}
use Rattle.format.specs.Bytes.{Bytes, within}
use Rattle.format.specs.Rows.{Sym}
use Rattle.format.specs.Formula.{Counted as Told, counted, between, finish, join, frun, formula_shape}
use Rattle.format.specs.Structure.{Isotope, isotope, Atom, atom_ok, Entry, entry, entries_of, total, agree}
use Rattle.format.proofs.ByteLaws.{within_true, within_is}
use Rattle.format.proofs.FormulaLaws.{run_at_end, formula_is, join_nil}
use Rattle.format.proofs.TotalLaws.{total_nil, total_append, agree_every, every_agree, entries_append}
use Rattle.formula.specs.Machine.{state_shown, entry_shown, told_shown, Sized, Stepped}
use Rattle.formula.specs.Entries.{EntryIs}
use Rattle.formula.specs.declared.State.{State}
use Rattle.formula.specs.declared.State.TheVariants.{Between}
use Rattle.formula.specs.declared.Move.{Move as Step}
use Rattle.formula.specs.declared.entry.Entry.{Entry as Read}
use Rattle.std.specs.Bool.{then_some}
use Rattle.std.specs.Option.{option_map}
use Rattle.formula.proofs.RunLaws.{step_run}
use Rattle.sorted.specs.Regions.{kinds_region}
use Rattle.gather.specs.Progress.{entries_from, entry_fine}
use Rattle.totals.specs.Left.{Takes, Took, Counts, Tallied, Says, Answers, Answered}
use Rattle.totals.specs.Taking.{TookTold, TookByte, Owing, TookLead}
use Rattle.totals.proofs.LeftLaws.{total_own}
use Rattle.totals.proofs.TallyLaws.{atom_total}

-- ONE ENTRY MORE
one_more_lem : (i : Isotope) (e : Entry) (es : List Entry) → total i (e ∷ es) ≡ total i (e ∷ []) + total i es
one_more_lem i e es = total_append i (e ∷ []) es

pub says_more : (left next : Isotope → ℕ) (e : Entry) (es : List Entry) → Takes left next e true → (r : Bool) → Says r (Counts next es) → Says r (Counts left (e ∷ es))
says_more left next e es t true f = λ i. omega (arith, t i, f i, one_more_lem i e es)
says_more left next e es t false f = λ g. f (λ i. omega (arith, t i, g i, one_more_lem i e es))

pub says_short : (left : Isotope → ℕ) (e : Entry) (es : List Entry) → left e.kind < e.count → Says false (Counts left (e ∷ es))
says_short left e es h = λ g. omega (arith, g e.kind, one_more_lem e.kind e es, total_own e.kind e.count)

-- of an entry that is in its ranges
abbrev TakesFine : (k : ℕ) → (left next : Isotope → ℕ) → Entry → Bool → Type 0
TakesFine k left next e r = entry_fine k e ≡ true → Took left next e r

-- what is left of a value, from a place
rest_cons : (s : Bytes) (i : ℕ) → i < length s → drop i s ≡ get_or s i 0 ∷ drop (i + 1) s
rest_cons s i h = drop-cons s i 0 h ∙ ap (λ (n : ℕ). get_or s i 0 ∷ drop n s) (sym (add-one i))

module _ (k : ℕ) (x : Sym) (n : ℕ) where
  answers_more : (left next : Isotope → ℕ) → TakesFine k left next (entry (isotope k x) n) true → (o : Option (List Told)) (r : Bool) → Answers k next o r → Answers k left (join (counted x n ∷ []) o) r
  answers_more left next t None r f = f
  answers_more left next t (Some cs) r f = λ fine.
      let e : Entry = entry (isotope k x) n in
      let es : List Entry = entries_from k (Some cs) in
      let p : (entry_fine k e ≡ true) × (all (entry_fine k) es ≡ true) = all_parts (entry_fine k) e es fine in
      says_more left next e es (t p.0).is r (f p.1)

  answers_short : (left next : Isotope → ℕ) → TakesFine k left next (entry (isotope k x) n) false → (o : Option (List Told)) → Answers k left (join (counted x n ∷ []) o) false
  answers_short left next t None = refl
  answers_short left next t (Some cs) = λ fine.
      let e : Entry = entry (isotope k x) n in
      let es : List Entry = entries_from k (Some cs) in
      says_short left e es (t (all_parts (entry_fine k) e es fine).0).is

  -- a known element is one that can be looked up
  fine_element : k ≤ 103 → entry_fine k (entry (isotope k x) n) ≡ true → (isotope k x).element ≤ 103
  fine_element h f =
      let i : Isotope = isotope k x in
      let p : (within 1 k i.element ≡ true) × ((leb i.mass 300 && within 1 9999 n) ≡ true) = and_parts (within 1 k i.element) (leb i.mass 300 && within 1 9999 n) f in
      omega (arith, (within_true 1 k i.element p.0).1)

  entry_taken : (left next : Isotope → ℕ) (i : Isotope) (r : Bool) → k ≤ 103 → i ≡ isotope k x → (i.element ≤ 103 → Took left next (entry i n) r) → TakesFine k left next (entry (isotope k x) n) r
  entry_taken left next i r h e t fine = rw (← e) (t (rw e (fine_element h fine)))

  pub entry_told : (left next : Isotope → ℕ) (i : Isotope) (r : Bool) → k ≤ 103 → i ≡ isotope k x → (i.element ≤ 103 → Took left next (entry i n) r) → TookTold k left next (counted x n ∷ []) r
  entry_told left next i true h e t = record { is = λ o r f. answers_more left next (entry_taken left next i true h e t) o r f }
  entry_told left next i false h e t = record { is = λ o. answers_short left next (entry_taken left next i false h e t) o }

pub none_told : (k : ℕ) (left : Isotope → ℕ) → TookTold k left left [] true
none_told k left = record { is = λ o r f. rw (join_nil o) f }

-- A BYTE, by what the code's step answered
pub byte_took : (k b : ℕ) (left next : Isotope → ℕ) (q : State) (m : Step) (t : Bool) → (Sized q → Stepped (state_shown q) b m) → TookTold k left next (told_shown m.told) t → Sized q → TookByte k left next q b (then_some t m.state)
byte_took k b left next q m true h u fine = record { is = ((h fine).sized, λ s r f. rw (step_run q b m (h fine) s) (u.is (frun (state_shown m.state) s) r f)) }
byte_took k b left next q m false h u fine = record { is = λ s. rw (step_run q b m (h fine) s) (u.is (frun (state_shown m.state) s)) }

-- THE END, by what the code's end answered
module _ (k : ℕ) (left : Isotope → ℕ) (q : State) (o : Option (Option Read)) (is : option_map told_shown o ≡ finish (state_shown q)) where
  ended : (p : Option (Option Read)) → o ≡ p → (r : Bool) → Answers k left (option_map told_shown p) r → Answered k left (finish (state_shown q)) r
  ended p e r f = subst (λ (x : Option (List Told)). Answered k left x r) (ap (option_map told_shown) (sym e) ∙ is) (record { is = f })

  pub end_shapeless : o ≡ None → Answered k left (finish (state_shown q)) false
  end_shapeless e = ended None e false refl

  module _ (told : Option Read) (e : o ≡ Some told) (next : Isotope → ℕ) where
    whole : join (told_shown told) (Some []) ≡ Some (told_shown told)
    whole = go told
      where
        go : (p : Option Read) → join (told_shown p) (Some []) ≡ Some (told_shown p)
        go None = refl
        go (Some x) = refl

    pub end_taken : TookTold k left next (told_shown told) true → (r : Bool) → Says r (Counts next []) → Answered k left (finish (state_shown q)) r
    end_taken u r f = ended (Some told) e r (subst (λ (x : Option (List Told)). Answers k left x r) whole (u.is (Some []) r (λ fine. f)))

    pub end_short : TookTold k left next (told_shown told) false → Answered k left (finish (state_shown q)) false
    end_short u = ended (Some told) e false (subst (λ (x : Option (List Told)). Answers k left x false) whole (u.is (Some [])))

-- THE WHOLE VALUE, from a place on
module _ (k : ℕ) (old left next : Isotope → ℕ) (whole : Option (List Told)) (s : Bytes) (q : State) (i : ℕ) (g : Owing k old left whole s q i) where
  pub owing_goes : i < length s → (to : State) → TookByte k left next q (get_or s i 0) (Some to) → Owing k old next whole s to (i + 1)
  owing_goes h to u = record { is = λ r f. g.is r (rw (rest_cons s i h) (u.is.1 (drop (i + 1) s) r f)) }

  pub owing_short : i < length s → TookByte k left next q (get_or s i 0) None → Answered k old whole false
  owing_short h u = record { is = g.is false (rw (rest_cons s i h) (u.is (drop (i + 1) s))) }

  pub owing_ends : length s ≤ i → (r : Bool) → Answered k left (finish (state_shown q)) r → Answered k old whole r
  owing_ends h r f = record { is = g.is r (rw (run_at_end (state_shown q) s i h) f.is) }

-- THE QUICK ENTRIES that the value starts with
pub lead_starts : (k : ℕ) (left : Isotope → ℕ) (s : Bytes) → Owing k left left (formula_shape s) s (Between false) 0
lead_starts k left s = record { is = λ r f. rw (formula_is s) f }

module _ (k : ℕ) (old left next : Isotope → ℕ) (s : Bytes) (begun : Bool) (at : ℕ) (g : Owing k old left (formula_shape s) s (Between begun) at) (x : Read) (to : ℕ) (h : EntryIs s at x to) where
  pub lead_goes : TookTold k left next (entry_shown x ∷ []) true → Owing k old next (formula_shape s) s (Between true) to
  lead_goes u = record { is = λ r f. g.is r (rw (h.is begun) (u.is (frun (between true) (drop to s)) r f)) }

  pub lead_short : TookTold k left next (entry_shown x ∷ []) false → TookLead k old next s None
  lead_short u = record { is = g.is false (rw (h.is begun) (u.is (frun (between true) (drop to s)))) }

-- AGREEING: some atoms are listed, so that a value without shape does not agree
pub none_agrees : (listed : List Atom) → 0 < length listed → agree [] (entries_of listed) ≡ false
none_agrees [] h = absurd (omega arith)
none_agrees (a ∷ rest) h = never (agree [] (entries_of (a ∷ rest))) (λ e.
    omega (
      arith,
      agree_every [] (entries_of (a ∷ rest)) e a.kind,
      total_nil a.kind,
      ap (total a.kind) (entries_append (a ∷ []) rest) ∙ total_append a.kind (entries_of (a ∷ [])) (entries_of rest),
      atom_total a.kind a,
      total_own a.kind 1,
    ))

pub answers_agree : (k : ℕ) (left : Isotope → ℕ) (listed : List Atom) → 0 < length listed → Counts left (entries_of listed) → (o : Option (List Told)) (r : Bool) → Answers k left o r →
    all (entry_fine k) (entries_from k o) ≡ true → r ≡ agree (entries_from k o) (entries_of listed)
answers_agree k left listed h c None r f fine = f ∙ sym (none_agrees listed h)
answers_agree k left listed h c (Some cs) true f fine = sym (every_agree (entries_from k (Some cs)) (entries_of listed) (λ i. sym (f fine i) ∙ c i))
answers_agree k left listed h c (Some cs) false f fine =
    sym (never (agree (entries_from k (Some cs)) (entries_of listed)) (λ e. f fine (λ i. c i ∙ sym (agree_every (entries_from k (Some cs)) (entries_of listed) e i))))

-- atoms of fewer elements
pub atoms_wider : (k : ℕ) (listed : List Atom) → k ≤ 103 → all (atom_ok k) listed ≡ true → all (atom_ok 103) listed ≡ true
unfolding atom_ok
atoms_wider k listed h = all_imply (atom_ok k) (atom_ok 103) wider listed
  where
    wider : (a : Atom) → atom_ok k a ≡ true → atom_ok 103 a ≡ true
    wider a f =
        let rest : Bool = leb a.kind.mass 300 && leb a.hydrogens 15 in
        let p : (within 1 k a.kind.element ≡ true) × (rest ≡ true) = and_parts (within 1 k a.kind.element) rest f in
        let q : (1 ≤ a.kind.element) × (a.kind.element ≤ k) = within_true 1 k a.kind.element p.0 in
        and_both (within 1 103 a.kind.element) rest (within_is 1 103 a.kind.element q.0 (omega (arith, q.1))) p.1

-- the answer for atoms that were tallied
pub tallied_agree : (k : ℕ) (t : List ℕ) (atoms : ℕ) (left : Isotope → ℕ) (o : Option (List Told)) (r : Bool) → k ≤ 103 → 0 < atoms → Tallied t atoms atoms left → Answered k left o r → (listed : List Atom) →
    length listed ≡ atoms → t ≡ kinds_region listed → all (atom_ok k) listed ≡ true → all (entry_fine k) (entries_from k o) ≡ true → r ≡ agree (entries_from k o) (entries_of listed)
tallied_agree k t atoms left o r h some' d f listed l e ok fine =
    let whole : take atoms listed ≡ listed = take_all atoms listed (omega arith) in
    let c : Counts left (entries_of listed) = λ i. d listed l e (atoms_wider k listed h ok) i ∙ ap (λ (x : List Atom). total i (entries_of x)) whole in
    answers_agree k left listed (omega arith) c o r f.is fine
