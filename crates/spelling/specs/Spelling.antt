-- A symbol by its letters: document 01, "The one written form". Assumes nothing.
use Rattle.std.specs.Prelude.{ℕ, false, not, get_or, eqb}
use Rattle.format.specs.Bytes.{Bytes}
use Rattle.format.specs.Rows.{Sym, sym_of}
use Rattle.format.specs.Structure.{letters}
use Rattle.format.specs.Writing.{symbol_of}

-- the symbol of an element that is written with its own letters
abbrev pub plain_sym : (element mass : ℕ) → Sym
plain_sym e m = sym_of (not (eqb m 0)) m (get_or (symbol_of e) 0 0) (get_or (symbol_of e) 1 0)

-- one letter, or two
abbrev pub letters_of : (first second : ℕ) → Bytes
letters_of a b = letters (sym_of false 0 a b)
