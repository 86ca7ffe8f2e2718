-- The way back, the atoms: the printed rows of the atoms are read as the atoms, in their order. Serves document 01, demand 2. Assumes nothing.
use Prim.Native.Nat.{ℕ, suc, ◌+◌, ◌≤◌, ◌<◌}
use mathlib.Core.Path.{◌≡◌, refl, sym, ap, ◌∙◌}
use mathlib.Core.Bool.{Bool, true, false, not, ◌&&◌}
use Rattle.std.specs.declared.option.Option.TheVariants.{Some}
use mathlib.Core.List.{List, [], ◌∷◌, ◌++◌, append_assoc, append-nil}
use native.Mathlib.Omega.{arith}
use native.Mathlib.Nat.{add-zero}
use lib.ListN.{length, length-append}
use lib.Dec.{eqb, leb}
use borrow.Author.Tests.{eq-eqb, le-leb, lt-leb}
use Rattle.lists.specs.Lists.{is_nil, all}
use Rattle.lists.proofs.Bools.{and_both}
use Rattle.lists.proofs.ListLaws.{all_parts}
use Rattle.format.specs.Bytes.{Bytes, bytes}
use Rattle.format.specs.Labels.{Holds, Atoms, Label, label, misplaced}
use Rattle.format.specs.Rows.{AtomRow, atom_shape}
use Rattle.format.specs.Structure.{Isotope, unknown, mass_ok, Atom, Entry, Structure, atom_ok}
use Rattle.format.specs.Reading.{Rules, State, Turn, Go, if◌stop◌else◌, Prose, with_atoms, over, atom_turn, unless_blank, atom_line, value_turn, further_turn, line_step}
use Rattle.format.specs.Writing.{spelt, line, atom_words, print_atoms, valued}
use Rattle.format.proofs.SymbolLaws.{isotope_back, known_back, spelt_mass}
use Rattle.format.proofs.RowLines.{RowLine}
use Rattle.format.proofs.RowLaws.{FineAtom, atom_fine_lem, atom_back, printed_atom}
use Rattle.demands.proofs.WayBackLines.{state_of, Through, through_nil, through_both, through_to, through_line, plain_step}
use Rattle.demands.proofs.WayBackLabels.{atoms_label, atoms_written, label_value}
use Rattle.demands.proofs.WayBackRows.{unless_some, no_value, bare_full, bare_fine}

-- tests that all pass
four_pass : (a b c d : Bool) (w x y z : ℕ) (t : Turn) → a ≡ false → b ≡ false → c ≡ false → d ≡ false → (if a stop w else if b stop x else if c stop y else if d stop z else t) ≡ t
four_pass a b c d w x y z t p q r s = rw (p, q, r, s) refl

words_some : (n : ℕ) (a : Atom) → 0 < length (atom_words n a)
unfolding atom_words
words_some n a = omega arith

module _ (u : Rules) (most : u.elements ≤ 103) (seen : List Label) (begun : is_nil seen ≡ false) (texts : List Prose) (f : List Entry) (s : Structure) where
  -- the state behind some atoms
  abbrev behind : ℕ → List Atom → State
  behind at done = state_of at seen Atoms texts f (with_atoms done s)

  module _ (at : ℕ) (done : List Atom) (n : ℕ) (number : n ≡ suc (length done)) (room : length done < 256) (a : Atom) (ok : atom_ok u.elements a ≡ true) where
    abbrev read : AtomRow
    read = record { number = n; symbol = spelt a.kind; hydrogens = a.hydrogens }

    fine : FineAtom u.elements a
    fine = atom_fine_lem u.elements a ok

    atom_taken : atom_turn u.elements (behind at done) (Some read) ≡ Go (behind at (done ++ (a ∷ [])))
    unfolding atom_turn
    atom_taken =
        let k : ℕ = u.elements in
        let m : not (mass_ok (spelt a.kind) && leb a.hydrogens 15) ≡ false =
        ap not (and_both (mass_ok (spelt a.kind)) (leb a.hydrogens 15) (spelt_mass a.kind fine.low (omega (arith, fine.high)) fine.mass) (le-leb a.hydrogens 15 fine.hydrogens)) in
        four_pass (not (mass_ok (spelt a.kind) && leb a.hydrogens 15)) (not (eqb n (suc (length done)))) (unknown k (spelt a.kind)) (leb 256 (length done)) 10 11 12 14 _
        m (ap not (eq-eqb n (suc (length done)) number)) (known_back k a.kind fine.low fine.high most) (lt-leb 256 (length done) room)
        ∙ ap (λ (i : Isotope). Go (behind at (done ++ (record { kind = i; hydrogens = a.hydrogens } ∷ [])))) (isotope_back k a.kind fine.low fine.high most)

    pub atom_step_lem : line_step u (behind at done) (line (atom_words n a)) ≡ Go (behind at (done ++ (a ∷ [])))
    unfolding further_turn atom_line
    atom_step_lem =
        let k : ℕ = u.elements in
        let R : RowLine (atom_words n a) (line (atom_words n a)) = printed_atom k n a most fine in
        plain_step u (behind at done) (line (atom_words n a)) R.fine begun R.plain
        ∙ ap (λ (fs : List Bytes). unless_blank (behind at done) fs (atom_turn k (behind at done) (atom_shape fs))) R.read
        ∙ unless_some (behind at done) (atom_words n a) (atom_turn k (behind at done) (atom_shape (atom_words n a))) (words_some n a)
        ∙ ap (atom_turn k (behind at done)) (atom_back k n a most fine (omega arith)) ∙ atom_taken

  pub atoms_through : (rest done : List Atom) (at n : ℕ) → n ≡ suc (length done) → length done + length rest ≤ 256 → all (atom_ok u.elements) rest ≡ true →
      Through u (behind at done) (print_atoms n rest) (behind (at + length (print_atoms n rest)) (done ++ rest))
  unfolding print_atoms
  atoms_through [] done at n number room ok =
      through_to u (behind at done) (behind at done) (behind (at + 0) (done ++ [])) [] (ap (λ (k : ℕ). behind k done) (sym (add-zero at)) ∙ ap (behind (at + 0)) (sym (append-nil done)))
      (through_nil u (behind at done))
  atoms_through (a ∷ rest) done at n number room ok =
      let p : (atom_ok u.elements a ≡ true) × (all (atom_ok u.elements) rest ≡ true) = all_parts (atom_ok u.elements) a rest ok in
      let v : Bytes = line (atom_words n a) in
      let w : Bytes = print_atoms (suc n) rest in
      let done' : List Atom = done ++ (a ∷ []) in
      let k : length done' ≡ length done + 1 = length-append done (a ∷ []) in
      let one : Through u (behind at done) v (behind (at + length v) done') =
      through_line u (behind at done) (behind at done') v (printed_atom u.elements n a most (atom_fine_lem u.elements a p.0)).one (atom_step_lem at done n number (omega arith) a p.0) in
      let more : Through u (behind (at + length v) done') w (behind (at + length v + length w) (done' ++ rest)) = atoms_through rest done' (at + length v) (suc n) (omega arith) (omega arith) p.1 in
      let e : at + length v + length w ≡ at + length (v ++ w) = omega (arith, length-append v w) in
      through_to u (behind at done) (behind (at + length v + length w) (done' ++ rest)) (behind (at + length (v ++ w)) (done ++ (a ∷ rest))) (v ++ w)
      (ap (λ (m : ℕ). behind m (done' ++ rest)) e ∙ ap (behind (at + length (v ++ w))) (append_assoc done (a ∷ []) rest))
      (through_both u (behind at done) (behind (at + length v) done') (behind (at + length v + length w) (done' ++ rest)) v w one more)

-- THE LABEL of the atoms
pub atoms_label_lem : (u : Rules) (at : ℕ) (seen : List Label) (running : Holds) (texts : List Prose) (f : List Entry) (s : Structure) → is_nil seen ≡ false → misplaced seen atoms_label ≡ false → over running ≡ false →
    Through u (state_of at seen running texts f s) (bytes "##ATOMLIST=" ++ valued []) (state_of (at + length (bytes "##ATOMLIST=" ++ valued [])) (atoms_label ∷ seen) Atoms texts f s)
unfolding label value_turn atom_line
atoms_label_lem u at seen running texts f s begun m o =
    let st : State = state_of at (atoms_label ∷ seen) Atoms texts f s in
    let before : State = state_of at seen running texts f s in
    through_line u before st (bytes "##ATOMLIST=" ++ valued []) (bare_full (bytes "##ATOMLIST=") atoms_written.one)
    (label_value u before (bytes "##ATOMLIST=") atoms_label atoms_written begun m o Atoms refl refl (valued []) bare_fine ∙ no_value st (λ (fs : List Bytes). atom_turn u.elements st (atom_shape fs)))
