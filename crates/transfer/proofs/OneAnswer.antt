-- Each promise allows one answer: document 01, "that two allowed answers are equal is proved". The result of a walk tells the code's answer and the definitions';
-- a title's part is told by its start and its length. Assumes nothing.
use Prim.Native.Nat.{ℕ}
use mathlib.Core.Path.{◌≡◌, refl, sym, ap, ap₂, ◌∙◌}
use mathlib.Core.List.{[]}
use native.Mathlib.Omega.{arith}
use Rattle.format.specs.Bytes.{Bytes}
use Rattle.format.specs.Walking as walking
use Rattle.format.specs.Walking.{What, a_piece, the_end, a_refusal, WalkResult, walk_result, walk_at}
use Rattle.fields.specs.declared.Field.{Field}
use Rattle.std.specs.Prelude.{Option, Some, None, Result, Ok, Err}
use Rattle.format.specs.declared.refusal.Refusal.{Refusal}
use Rattle.format.proofs.RefusalLaws.{number_once}
use Rattle.transfer.specs.declared.walks.PieceKind.{PieceKind}
use Rattle.transfer.specs.declared.walks.PieceKind.TheVariants as K
use Rattle.transfer.specs.declared.walks.Piece.{Piece}
use Rattle.transfer.specs.Shown.{kind_of, shown}
use Rattle.transfer.specs.Texts.{Titled}
use Rattle.transfer.proofs.NameLaws.{part, title_size}

-- THE WALK: what a result says of the definitions' answer
abbrev walked_by : What → WalkResult → walking.Walked
walked_by (a_piece k) r = walking.Found (walking.piece k r.start r.end)
walked_by the_end r = walking.Finished
walked_by a_refusal r = walking.NotWalked r.number

abbrev pub walked_of : WalkResult → walking.Walked
walked_of r = walked_by r.what r

walked_back : (w : walking.Walked) → walked_of (walk_result w) ≡ w
walked_back (walking.Found p) = refl
walked_back walking.Finished = refl
walked_back (walking.NotWalked n) = refl

abbrev Walked : Type 0
Walked = Result (Option Piece) Refusal

-- what tells two kinds of answers apart, and the kind of a piece
abbrev sort_of : What → ℕ
sort_of (a_piece k) = 0
sort_of the_end = 1
sort_of a_refusal = 2

abbrev kind_in : What → walking.Kind
kind_in (a_piece k) = k
kind_in the_end = walking.block
kind_in a_refusal = walking.block

abbrev told_kind : walking.Kind → PieceKind
told_kind walking.block = K.Block
told_kind walking.stray = K.Stray

kind_back : (k : PieceKind) → told_kind (kind_of k) ≡ k
kind_back K.Block = refl
kind_back K.Stray = refl

-- answers with one result are equal
shown_once : (r q : Walked) → shown r ≡ shown q → r ≡ q
unfolding shown
shown_once (Ok (Some p)) (Ok (Some q)) e =
    let k : p.kind ≡ q.kind = sym (kind_back p.kind) ∙ ap (λ (x : WalkResult). told_kind (kind_in x.what)) e ∙ kind_back q.kind in
    λ i. Ok (Some (record { kind = k i; from = (ap (λ (x : WalkResult). x.start) e) i; to = (ap (λ (x : WalkResult). x.end) e) i }))
shown_once (Ok (Some p)) (Ok None) e = absurd (omega (arith, ap (λ (x : WalkResult). sort_of x.what) e))
shown_once (Ok (Some p)) (Err y) e = absurd (omega (arith, ap (λ (x : WalkResult). sort_of x.what) e))
shown_once (Ok None) (Ok (Some q)) e = absurd (omega (arith, ap (λ (x : WalkResult). sort_of x.what) e))
shown_once (Ok None) (Ok None) e = refl
shown_once (Ok None) (Err y) e = absurd (omega (arith, ap (λ (x : WalkResult). sort_of x.what) e))
shown_once (Err x) (Ok (Some q)) e = absurd (omega (arith, ap (λ (x : WalkResult). sort_of x.what) e))
shown_once (Err x) (Ok None) e = absurd (omega (arith, ap (λ (x : WalkResult). sort_of x.what) e))
shown_once (Err x) (Err y) e = ap (λ (z : Refusal). Err z) (number_once x y (ap (λ (r : WalkResult). r.number) e))

module _ (s : Bytes) (place : ℕ) (r : Walked) (h : shown r ≡ walk_result (walk_at s place)) where
  pub one_answer : (q : Walked) → shown q ≡ walk_result (walk_at s place) → r ≡ q
  one_answer q k = shown_once r q (h ∙ sym k)

  -- the definitions' answer, from what the code's is
  pub walk_told : (k : Walked) → r ≡ k → walked_of (shown k) ≡ walk_at s place
  walk_told k e = ap (λ (x : Walked). walked_of (shown x)) (sym e) ∙ ap walked_of h ∙ walked_back (walk_at s place)

-- THE TITLE
pub title_once : (b : Bytes) (r q : Field) → Titled b r → Titled b q → r ≡ q
title_once b r q k l =
    let m : r.from ≡ q.from = k.start ∙ sym l.start in
    let n : r.to ≡ q.to = omega (arith, title_size b [] r k, title_size b [] q l, k.order, l.order) in
    ap₂ part m n
