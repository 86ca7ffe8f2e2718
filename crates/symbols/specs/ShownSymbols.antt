-- What a symbol's answer says: document 01, "Rows". Assumes nothing.
use Rattle.format.specs.Rows.{Sym, sym_of}
use Rattle.symbols.specs.declared.Mark.{Mark}

abbrev pub sym_of_mark : Mark → Sym
sym_of_mark m = sym_of m.caret m.mass m.first m.second
