-- A line of a list, by its label's code: document 01, "Rows". Assumes nothing.
use Prim.Native.Nat.{ℕ, ◌≤◌}
use mathlib.Core.Path.{◌≡◌, refl, sym, ap, ◌∙◌}
use mathlib.Core.List.{List}
use native.Mathlib.Omega.{arith}
use borrow.Author.Tests.{ne_eqb}
use Rattle.format.specs.Bytes.{Bytes}
use Rattle.format.specs.Labels.{ListOf, Bonds, Charges, Radicals, Centres, Pairs, label, known}
use Rattle.format.specs.Reading.{State, atom_line, row_line}
use Rattle.format.specs.Reading.{Turn as Turned}
use Rattle.labels.specs.ShownLines.{by_code}
use Rattle.sorted.specs.Shown.{LineUntouched}
use Rattle.std.specs.Prelude.{Result, Ok, Err}
use Rattle.format.specs.declared.refusal.Refused.{Refused}
use Rattle.format.specs.declared.refusal.Refusal.TheVariants.{Unlent}
use Rattle.gather.specs.Progress.{count_for, with_count}
use Rattle.gather.specs.Shows.{ShowsTurn}
use Rattle.gather.specs.ListLine.{list_line, turn_of, Gathers, of_list, own_rows, own_most, TurnUntouched}
use Rattle.gather.specs.declared.progress.Progress.{Progress}

-- what an answer shows of one turn, it shows of an equal one
pub turn_shown : (k : ℕ) (block : Bytes) (at : ℕ) (r : Result Progress Refused) (t : List ℕ) (turned other : Turned) → turned ≡ other → ShowsTurn k block at r t other → ShowsTurn k block at r t turned
turn_shown k block at r t turned other e h = rw e h

-- A LINE OF A LIST, by its label's code
abbrev pub code_of : ListOf → ℕ
code_of Bonds = 7
code_of Charges = 8
code_of Radicals = 9
code_of Centres = 10
code_of Pairs = 11

module _ (k : ℕ) (st : State) (fs : List Bytes) where
  pub list_atoms : list_line 6 k st fs ≡ atom_line k st fs
  unfolding by_code known label
  list_atoms = refl

  pub list_rows_lem : (l : ListOf) → list_line (code_of l) k st fs ≡ row_line l st fs
  unfolding by_code known label
  list_rows_lem Bonds = refl
  list_rows_lem Charges = refl
  list_rows_lem Radicals = refl
  list_rows_lem Centres = refl
  list_rows_lem Pairs = refl

-- the last of a match over the lists' codes
abbrev pub NoOther : ℕ → Type 0
NoOther code = ((((Unit {0} × (code ≡ 6 → ⊥)) × (code ≡ 7 → ⊥)) × (code ≡ 8 → ⊥)) × (code ≡ 9 → ⊥)) × (code ≡ 10 → ⊥)

pub last_code : (code : ℕ) → NoOther code → 6 ≤ code → code ≤ 11 → code ≡ 11
last_code code rest six eleven = omega (arith, rest.0.0.0.0.1, rest.0.0.0.1, rest.0.0.1, rest.0.1, rest.1)

other_count : (code own c old : ℕ) → (code ≡ own → ⊥) → count_for code own c old ≡ old
other_count code own c old n = rw (ne_eqb code own n, count_for) refl

last_of : (code atoms bonds charges radicals centres pairs : ℕ) → NoOther code → of_list code atoms bonds charges radicals centres pairs ≡ pairs
last_of code atoms bonds charges radicals centres pairs rest =
    other_count code 6 atoms _ rest.0.0.0.0.1 ∙ other_count code 7 bonds _ rest.0.0.0.1 ∙ other_count code 8 charges _ rest.0.0.1 ∙ other_count code 9 radicals _ rest.0.1
    ∙ other_count code 10 centres pairs rest.1

-- the code is that of a list with so many rows, of which it holds so many
pub record Own (code own count limit : ℕ) (p : Progress) : Type 0 where
  pub is : 6 ≤ code → code ≤ 11 → code ≡ own
  pub rows : own_rows code p ≡ count
  pub most : own_most code ≡ limit

pub own_code : (code own : ℕ) (p : Progress) → code ≡ own → Own code own (own_rows own p) (own_most own) p
own_code code own p e = record { is = λ six eleven. e; rows = ap (λ (n : ℕ). own_rows n p) e; most = ap own_most e }

pub own_last : (code : ℕ) (p : Progress) → NoOther code → Own code 11 p.pairs 128 p
own_last code p rest = record {
  is = last_code code rest;
  rows = last_of code p.atoms p.bonds p.charges p.radicals p.centres p.pairs rest;
  most = last_of code 256 512 64 64 128 128 rest;
}

-- the count put under a code that is a list's own
pub count_as : (code own c : ℕ) (p : Progress) → code ≡ own → with_count own c p ≡ with_count code c p
count_as code own c p e = ap (λ (n : ℕ). with_count n c p) (sym e)

-- what the list's own line promises, so does the turn that is made of its answer
pub turn_gathers : (code k place : ℕ) (fs : List Bytes) (p : Progress) (before after : List ℕ) (answer : Result ℕ Refused) (r : Result Progress Refused) → (6 ≤ code → code ≤ 11 → r ≡ turn_of code p answer)
    → Gathers code k place fs p before after (turn_of code p answer) → Gathers code k place fs p before after r
turn_gathers code k place fs p before after answer r is told c low six eleven = rw (is six eleven) (told c low six eleven)

-- rows that are kept were lent, and a refusal of what was not is handed on
abbrev unlent : (place : ℕ) → Refused
unlent place = record { refusal = Unlent; place = place }

pub kept_untouched : (place c : ℕ) (before after : List ℕ) (answer : Result ℕ Refused) (r : Result Progress Refused) → answer ≡ Ok c → LineUntouched place before after answer → TurnUntouched place before after r
kept_untouched place c before after answer r e w = let q : ◌≡◌ {A = Result ℕ Refused} (Ok c) (Err (unlent place)) = sym e ∙ w.0 in let z : ◌≡◌ {A = ℕ} 0 1 = cc in absurd (omega arith)

pub stop_untouched : (place : ℕ) (e : Refused) (before after : List ℕ) (answer : Result ℕ Refused) (r : Result Progress Refused) → answer ≡ Err e → r ≡ Err e → LineUntouched place before after answer
    → TurnUntouched place before after r
stop_untouched place e before after answer r a b w =
    let q : ◌≡◌ {A = Result ℕ Refused} (Err e) (Err (unlent place)) = sym a ∙ w.0 in
    let z : e ≡ unlent place = cc in
    (b ∙ ap Err z, w.1)
