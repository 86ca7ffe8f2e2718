-- THE GRAMMAR OF A FORMULA: which bytes say which entries, a sentence a rule: document 01, "Rows", MOLFORM; the paper's section on MOLFORM. The machine of Formula
-- reads bytes one by one; that it gives a list of entries exactly when these rules say it, and that no bytes say two lists, is proved. Assumes nothing.
use Rattle.std.specs.Prelude.{ℕ, ◌≡◌, true, ◌||◌, List, [], ◌∷◌, ◌++◌}
use Rattle.std.specs.declared.option.Option.TheVariants.{Some}
use Rattle.format.specs.Bytes.{Bytes, gap}
use Rattle.format.specs.Rows.{Sym, digit, upper, lower, number, symbol}
use Rattle.format.specs.Formula.{Counted, counted}

-- A COUNT: "an optional count 1 to 9,999 (1 to 6 digits, `/` before them optional)"; no count is 1. Its range is judged apart, like a mass's.
pub data CountSays : Bytes → ℕ → Type 0 where
  absent : CountSays [] 1
  plain : {w : Bytes} {n : ℕ} → number w ≡ Some n → CountSays w n
  slashed : {w : Bytes} {n : ℕ} → number w ≡ Some n → CountSays (47 ∷ w) n

-- A FRAGMENT: one entry or more, "Order is free."
pub data FragmentSays : Bytes → List Counted → Type 0 where
  -- "entries of a symbol and an optional count": one entry is a fragment; its symbol is spelt as an atom's
  entry : (v : Bytes) {w : Bytes} {x : Sym} {n : ℕ} → symbol v ≡ Some x → CountSays w n → FragmentSays (v ++ w) (counted x n ∷ [])
  -- blanks may stand in front of a fragment, behind it, and between two, which then are one
  blank_before : (b : ℕ) {v : Bytes} {cs : List Counted} → gap b ≡ true → FragmentSays v cs → FragmentSays (b ∷ v) cs
  blank_behind : (b : ℕ) {v : Bytes} {cs : List Counted} → gap b ≡ true → FragmentSays v cs → FragmentSays (v ++ (b ∷ [])) cs
  blank_between : (b : ℕ) {v w : Bytes} {cs ds : List Counted} → gap b ≡ true → FragmentSays v cs → FragmentSays w ds → FragmentSays (v ++ (b ∷ w)) (cs ++ ds)
  -- "A one-letter symbol without count is followed by a blank, `*` or the end; `^` stands at the start or after a blank or `*`." So one fragment touches the next
  -- only where it ends in a symbol's second letter or in a count's digit, and where the next starts with a letter
  touching : (v : Bytes) (a b : ℕ) (w : Bytes) {cs ds : List Counted} → (lower a || digit a) ≡ true → upper b ≡ true → FragmentSays (v ++ (a ∷ [])) cs → FragmentSays (b ∷ w) ds
      → FragmentSays (v ++ (a ∷ b ∷ w)) (cs ++ ds)

-- A FORMULA, with the entries of all its fragments: "`*` parts two non-empty fragments."
pub data Says : Bytes → List Counted → Type 0 where
  fragment : {v : Bytes} {cs : List Counted} → FragmentSays v cs → Says v cs
  starred : {v w : Bytes} {cs ds : List Counted} → FragmentSays v cs → Says w ds → Says (v ++ (42 ∷ w)) (cs ++ ds)
