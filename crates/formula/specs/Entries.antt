-- What a quick entry's answer promises: document 01, "Rows", MOLFORM. Where it answers an entry, the formula's machine, between entries at `at`, tells that entry and
-- stands between entries at `next`. Where it answers None it promises nothing: the machine judges what stands there. Assumes nothing.
use Rattle.std.specs.Prelude.{ℕ, ◌-◌, ◌≤◌, ◌<◌, ◌≡◌, Bool, true, [], ◌∷◌, length, drop}
use Rattle.format.specs.Bytes.{Bytes, gap}
use Rattle.format.specs.Rows.{Sym, digit}
use Rattle.format.specs.Formula.{counted, FState, between, in_count, still, tells, fstep, join, frun}
use Rattle.symbols.specs.ShownSymbols.{sym_of_mark}
use Rattle.symbols.specs.declared.Mark.{Mark}
use Rattle.formula.specs.declared.entry.Entry.{Entry}
use Rattle.formula.specs.Machine.{entry_shown}

-- a state behind a symbol: a gap ends the entry, a digit starts its count
pub record Opens (q : FState) (x : Sym) : Type 0 where
  pub ends : (b : ℕ) → gap b ≡ true → fstep q b ≡ tells (counted x 1) (between true)
  pub counts : (b : ℕ) → digit b ≡ true → fstep q b ≡ still (in_count x 1 (b - 48))

-- a symbol stands from `at` to `to`
pub record LettersAre (s : Bytes) (at : ℕ) (mark : Mark) (to : ℕ) : Type 0 where
  pub low : at < to
  pub behind : FState
  pub opens : Opens behind (sym_of_mark mark)
  pub is : (begun : Bool) → frun (between begun) (drop at s) ≡ frun behind (drop to s)

-- behind a symbol a count stands at `at`, or none, and a gap before `next`
pub record CountIs (s : Bytes) (at n next : ℕ) : Type 0 where
  pub low : at < next
  pub high : next ≤ length s
  pub is : (q : FState) (x : Sym) → Opens q x → frun q (drop at s) ≡ join (counted x n ∷ []) (frun (between true) (drop next s))

-- an entry stands at `at`, a gap behind it, and what follows starts at `next`
pub record EntryIs (s : Bytes) (at : ℕ) (e : Entry) (next : ℕ) : Type 0 where
  pub low : at < next
  pub high : next ≤ length s
  pub is : (begun : Bool) → frun (between begun) (drop at s) ≡ join (entry_shown e ∷ []) (frun (between true) (drop next s))
