-- END's turn, from what the code's answers say: document 01, "Refusal numbers" (8, 9, 15); document 02, L4 (9 and 13) and L2 (41 and 42, behind 15). Assumes nothing.
use Prim.Native.Nat.{ℕ, zero, suc, ◌≤◌, ◌<◌}
use mathlib.Core.Path.{◌≡◌, refl, sym, ap, ◌∙◌}
use mathlib.Core.Bool.{Bool, true, false, ◌&&◌, ◌||◌, not}
use mathlib.Core.List.{List, [], ◌∷◌}
use native.Mathlib.Omega.{arith}
use lib.ListN.{length, take, drop}
use lib.Seq.{length-take-le}
use lib.Dec.{eqb}
use borrow.Author.Tests.{eq-eqb, ne_eqb}
use Rattle.lists.specs.Lists.{is_nil, all, any}
use Rattle.format.specs.Bytes.{Bytes}
use Rattle.format.specs.Labels.{Label}
use Rattle.format.specs.Structure.{Atom, atom_ok, handed_twice, entries_of, agree}
use Rattle.format.specs.Reading.{State, if◌stop◌else◌, atom_count, lacks, end_turn}
use Rattle.format.specs.Reading.{Stop as stopping, Turn as Turned}
use Rattle.sorted.specs.Regions.{kinds_region, seen_from}
use Rattle.gather.specs.Progress.{formula_at, Counted, entry_fine}
use Rattle.gather.specs.Shows.{Shows}
use Rattle.gather.specs.declared.progress.Progress.{Progress}
use Rattle.gather.proofs.LaidLaws.{sized, atoms_seated, seen_seated}
use Rattle.judgement.specs.Lines.{rules_of, geometry_end, totals_end}
use Rattle.judgement.specs.declared.rules.Rules.{Rules as Given}
use Rattle.judgement.proofs.YesTurnLaws.{twice, twice_is}

pub some_of : (n : ℕ) → (n ≡ 0 → ⊥) → 0 < n
some_of zero h = absurd (h refl)
some_of (suc n) h = omega arith

module _ (u : Given) (block : Bytes) (at : ℕ) (p : Progress) (t : List ℕ) (st : State) (c : Counted p) (h : Shows u.last block at p t st) where
  -- 15, and what is behind it
  pub totals_untested : u.totals ≡ false → totals_end (rules_of u) st ≡ geometry_end st
  totals_untested g = ap (λ (x : Bool). if x && not (agree st.formula (entries_of st.body.atoms)) stop 15 else geometry_end st) g

  module _ (same : Bool) (agreed : same ≡ agree st.formula (entries_of st.body.atoms)) (g : u.totals ≡ true) where
    totals_are : (s : Bool) → same ≡ s → totals_end (rules_of u) st ≡ (if not s stop 15 else geometry_end st)
    totals_are s q =
        ap (λ (x : Bool). if x && not (agree st.formula (entries_of st.body.atoms)) stop 15 else geometry_end st) g ∙ ap (λ (x : Bool). if not x stop 15 else geometry_end st) (sym agreed ∙ q)

    pub totals_differ : same ≡ false → totals_end (rules_of u) st ≡ stopping 15
    totals_differ q = totals_are false q

    pub totals_agree : same ≡ true → totals_end (rules_of u) st ≡ geometry_end st
    totals_agree q = totals_are true q

  -- what the totals' function promises, said of this state
  pub totals_told : length t ≡ 2973 → 0 < p.atoms → u.last ≤ 103 → (same : Bool)
      → ((listed : List Atom) → length (take 768 (drop 0 t)) ≡ 768 → 0 < p.atoms → p.atoms ≤ 256 → u.last ≤ 103 → length listed ≡ p.atoms → take 768 (drop 0 t) ≡ kinds_region listed → all (atom_ok u.last) listed ≡ true → all (entry_fine u.last) (formula_at u.last block p.formula) ≡ true
      → same ≡ agree (formula_at u.last block p.formula) (entries_of listed)) → same ≡ agree st.formula (entries_of st.body.atoms)
  totals_told long more most same f =
      let w = h.holding in
      f st.body.atoms (length-take-le 768 t (omega (arith, long))) more c.atoms most w.listed.atoms (ap (λ (s : List ℕ). take 768 (drop 0 s)) w.scratch ∙ (atoms_seated st (sized p st c w.listed)).0) w.kinds (rw (sym w.formula) w.formula_fine_lem)
      ∙ ap (λ es. agree es (entries_of st.body.atoms)) (sym w.formula)

  -- 8, 9 and 13 before them
  seen_part : take 18 (drop 2946 t) ≡ seen_from 18 0 st.seen
  seen_part = ap (λ (s : List ℕ). take 18 (drop 2946 s)) h.holding.scratch ∙ (seen_seated st (sized p st c h.holding.listed)).0

  -- a test of the labels seen, as the code's cells tell it
  abbrev SeenTold : (List Label → Bool) → Bool → Type 0
  SeenTold test b = (labels : List Label) → take 18 (drop 2946 t) ≡ seen_from 18 0 labels → b ≡ test labels

  abbrev Lacking : List Label → Bool
  Lacking labels = any (lacks labels) (2 ∷ 3 ∷ 4 ∷ 5 ∷ [])

  abbrev Unanswered : List Label → Bool
  Unanswered labels = not (lacks labels 17 || p.handed)

  seen_is : (test : List Label → Bool) (b x : Bool) → SeenTold test b → b ≡ x → test st.seen ≡ x
  seen_is test b x told e = sym (told st.seen seen_part) ∙ e

  none_listed : (p.atoms ≡ 0 → ⊥) → eqb (atom_count st) 0 ≡ false
  none_listed n = ne_eqb (atom_count st) 0 (λ e. n (sym h.holding.listed.atoms ∙ e))

  module _ (fs : List Bytes) where
    abbrev ended : (a b f y w : Bool) → Turned
    ended a b f y w = if a || b stop 8 else if not f || y stop 9 else if w stop 13 else totals_end (rules_of u) st

    end_is : (a b f y w : Bool) → Lacking st.seen ≡ a → eqb (atom_count st) 0 ≡ b → is_nil fs ≡ f → Unanswered st.seen ≡ y → twice p ≡ w → end_turn (rules_of u) st fs ≡ ended a b f y w
    unfolding end_turn
    end_is a b f y w i j k l m =
        ap (λ (x : Bool). ended x (eqb (atom_count st) 0) (is_nil fs) (not (lacks st.seen 17 || st.body.handed)) (handed_twice st.body)) i
        ∙ ap (λ (x : Bool). ended a x (is_nil fs) (not (lacks st.seen 17 || st.body.handed)) (handed_twice st.body)) j
        ∙ ap (λ (x : Bool). ended a b x (not (lacks st.seen 17 || st.body.handed)) (handed_twice st.body)) k
        ∙ ap (λ (x : Bool). ended a b f x (handed_twice st.body)) (ap (λ (x : Bool). not (lacks st.seen 17 || x)) h.holding.listed.handed ∙ l)
        ∙ ap (λ (x : Bool). ended a b f y x) (twice_is p st.body h.holding.listed ∙ m)

    module _ (lack : Bool) (told : SeenTold Lacking lack) where
      pub end_lacking : lack ≡ true → end_turn (rules_of u) st fs ≡ stopping 8
      end_lacking e = end_is true (eqb (atom_count st) 0) (is_nil fs) _ _ (seen_is Lacking lack true told e) refl refl refl refl

      module _ (e : lack ≡ false) where
        pub end_atomless : p.atoms ≡ 0 → end_turn (rules_of u) st fs ≡ stopping 8
        end_atomless z = end_is false true (is_nil fs) _ _ (seen_is Lacking lack false told e) (eq-eqb (atom_count st) 0 (h.holding.listed.atoms ∙ z)) refl refl refl

        module _ (n : p.atoms ≡ 0 → ⊥) where
          pub end_valued : is_nil fs ≡ false → end_turn (rules_of u) st fs ≡ stopping 9
          end_valued f = end_is false false false _ _ (seen_is Lacking lack false told e) (none_listed n) f refl refl

          module _ (f : is_nil fs ≡ true) (lone : Bool) (answer : SeenTold Unanswered lone) where
            pub end_unanswered : lone ≡ true → end_turn (rules_of u) st fs ≡ stopping 9
            end_unanswered g = end_is false false true true _ (seen_is Lacking lack false told e) (none_listed n) f (seen_is Unanswered lone true answer g) refl

            module _ (g : lone ≡ false) (both : Bool) (said : both ≡ twice p) where
              pub end_twice : both ≡ true → end_turn (rules_of u) st fs ≡ stopping 13
              end_twice i = end_is false false true false true (seen_is Lacking lack false told e) (none_listed n) f (seen_is Unanswered lone false answer g) (sym said ∙ i)

              pub end_later : both ≡ false → end_turn (rules_of u) st fs ≡ totals_end (rules_of u) st
              end_later i = end_is false false true false false (seen_is Lacking lack false told e) (none_listed n) f (seen_is Unanswered lone false answer g) (sym said ∙ i)
