-- How what progress and scratch hold stands in the structure table: document 01, "The structure table". Assumes nothing.
use Rattle.std.specs.Prelude.{ℕ, List, ◌++◌, take, drop, ℤ}
use Rattle.format.specs.Bytes.{Bytes}
use Rattle.gather.specs.declared.progress.Progress.{Progress}
use Rattle.filling.specs.Filled.{bond_out, centre_out, pair_out, copied, value_out, atoms_out}
use Rattle.header.specs.Header.{header_out}

-- the rows' regions of the table: the values, the centres and pairs, all of them
unfoldable pub spread_out : Progress → (charges radicals : List ℕ) → List ℤ
spread_out p cs rs = copied 1 value_out 64 p.charges cs ++ copied 1 value_out 64 p.radicals rs

unfoldable pub marked_out : Progress → (scratch : List ℕ) → List ℤ
marked_out p t = copied 2 centre_out 384 p.centres (take 256 (drop 2434 t)) ++ copied 2 pair_out 512 p.pairs (take 256 (drop 2690 t))

unfoldable pub rows_out : Progress → (scratch charges radicals : List ℕ) → List ℤ
rows_out p t cs rs = copied 2 bond_out 1536 p.bonds (take 1024 (drop 1410 t)) ++ (spread_out p cs rs ++ marked_out p t)

-- the whole table
unfoldable pub table_out : (block : Bytes) → Progress → (scratch charge-order charges radical-order radicals : List ℕ) → List ℤ
table_out block p t co cs ro rs = header_out block p ++ (atoms_out (take 768 t) (take 321 (drop 768 t)) co (take 321 (drop 1089 t)) ro p.atoms ++ rows_out p t cs rs)
