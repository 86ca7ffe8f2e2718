-- Half a unit: how far `round` moves a fraction of whole numbers, and what that says of a quotient of two whole numbers. Knows nothing of the format but `Near`. Assumes nothing.
use Prim.Native.Nat.{ℕ, suc, ◌+◌, ◌-◌, ◌*◌, ◌/◌, ◌%◌, ◌^◌, ◌≤◌, ◌<◌, compare, Ordering}
use mathlib.Core.Path.{◌≡◌, refl, sym, ap, ap₂, ◌∙◌, subst}
use mathlib.Core.Logic.{◌⊎◌, inl, inr}
use mathlib.Core.Bool.{Bool, true, false, not, cond}
use native.Mathlib.Omega.{arith}
use native.Mathlib.Nat.{le_trans, le_of_eq, lt_of_le_of_lt, lt_of_lt_of_le, mul_assoc, mul_comm, mul_left_comm, mul_right_comm, mul-one, one-mul, zero-mul, add-mul, suc-mul, mul-le-mul_left, mul-le-mul_right, le_of_mul-le-mul_right, mul-pos, mod-lt, div-add-mod', le-div_iff_mul-le, eq-zero-or-pos, lt_irrefl}
use borrow.Author.Tests.{ne_eqb}
use lib.Arith.{lt_of_le-ne}
use lib.Dec.{T, is_le, compare_is_eq, eqb, leb→le, nleb→lt, eqb→eq, eqb_refl, le→leb, lt→ltb, lit<, lit≤}
use lib.Pow.{pow-add, pow_pos}
use lib.IntN.{ℤ, pos, negsuc, nat_abs}
use lib.Ieee.{Float, nan, inf, fin, Format, binary64, low, emax, up, down, size, nearest, round, div, unlike, of_int, in_float, neg}
use lib.Ieee.Back.{round_whole}
use lib.Ieee.Digits.{size_reaches}
use lib.Ieee.Exact.{HasValue, units_val, round_exact}
use lib.Ieee.Fits.{round_is, down_pos}
use lib.Ieee.Nearest.{closest}
use lib.Ieee.Scale.{normal_of_fraction, round_same}
use Rattle.format.specs.Coordinates.{Near, minus_of}

-- ---- what `compare` says (lib.Ieee.Nearest has it, and keeps it to itself)
abbrev Cmp : Ordering → ℕ → ℕ → Type 0
Cmp Ordering.lt a b = a < b
Cmp Ordering.eq a b = a ≡ b
Cmp Ordering.gt a b = b < a

cmp : (a b : ℕ) → Cmp (compare a b) a b
cmp a b = go (compare a b) (leb→le a b) (nleb→lt a b) (eqb→eq a b) (λ (e : a ≡ b). subst (λ (x : ℕ). T (eqb a x)) e (eqb_refl a))
  where
    go : (o : Ordering) → (T (is_le o) → a ≤ b) → (T (not (is_le o)) → b < a) → (T (compare_is_eq o) → a ≡ b) → (a ≡ b → T (compare_is_eq o)) → Cmp o a b
    go Ordering.lt h k e n = lt_of_le-ne (h tt) n
    go Ordering.eq h k e n = e tt
    go Ordering.gt h k e n = k tt

-- ---- a whole number that is nearest to n / u lies within half of u
abbrev Half : ℕ → ℕ → ℕ → Type 0
Half c n u = (2 * (c * u) ≤ 2 * n + u) × (2 * n ≤ 2 * (c * u) + u)

pub half : (n u : ℕ) → 0 < u → Half (closest n u) n u
half n u U = go (compare (n % u * 2) u) (cmp (n % u * 2) u)
  where
    go : (o : Ordering) → Cmp o (n % u * 2) u → Half (nearest (n / u) o) n u
    go Ordering.lt h = let d = div-add-mod' n u in (omega arith, omega arith)
    go Ordering.eq h =
        let d = div-add-mod' n u in
        let w = n / u in
        let e = add-mul w (w % 2) u in
        let t : w % 2 * u ≤ 1 * u = mul-le-mul_right u (omega arith) in
        let o = one-mul u in
        (omega arith, omega arith)
    go Ordering.gt h =
        let d = div-add-mod' n u in
        let r = mod-lt n U in
        let e = suc-mul (n / u) u in
        (omega arith, omega arith)

-- ---- in units of the format's smallest value: 2 ^ k units are dropped of a quotient with 53 digits or more before that
near_units : (n q k : ℕ) → 0 < q → 2 ^ 52 * (q * 2 ^ k) ≤ n
    → (2 ^ 53 * (closest n (q * 2 ^ k) * 2 ^ k * q) ≤ 2 ^ 53 * n + n) × (2 ^ 53 * n ≤ 2 ^ 53 * (closest n (q * 2 ^ k) * 2 ^ k * q) + n)
near_units n q k Q h =
    let u = q * 2 ^ k in
    let c = closest n u in
    let e : c * u ≡ c * 2 ^ k * q = sym (mul_assoc c q (2 ^ k)) ∙ mul_right_comm c q (2 ^ k) in
    let b = half n u (mul-pos Q (pow_pos k)) in
    (omega arith, omega arith)

-- ---- the same of the fraction num / den that G units of 1 / L are
cross : (num den p q G L : ℕ) → 0 < L → num * L ≡ G * den → 2 ^ 53 * (G * q) ≤ 2 ^ 53 * (p * L) + p * L → 2 ^ 53 * (p * L) ≤ 2 ^ 53 * (G * q) + p * L
    → (2 ^ 53 * (num * q) ≤ 2 ^ 53 * (p * den) + p * den) × (2 ^ 53 * (p * den) ≤ 2 ^ 53 * (num * q) + p * den)
cross num den p q G L pL h a b =
    let e₁ : num * q * L ≡ G * q * den = mul_right_comm num q L ∙ ap (λ (x : ℕ). x * q) h ∙ mul_right_comm G den q in
    let e₂ : p * den * L ≡ p * L * den = mul_right_comm p den L in
    let a' = mul-le-mul_right den a in
    let b' = mul-le-mul_right den b in
    let m₁ = mul_assoc (2 ^ 53) (G * q) den in
    let m₂ = add-mul (2 ^ 53 * (p * L)) (p * L) den in
    let m₃ = mul_assoc (2 ^ 53) (p * L) den in
    let m₄ = mul_assoc (2 ^ 53) (num * q) L in
    let m₅ = add-mul (2 ^ 53 * (p * den)) (p * den) L in
    let m₆ = mul_assoc (2 ^ 53) (p * den) L in
    let m₇ = add-mul (2 ^ 53 * (G * q)) (p * L) den in
    let m₈ = add-mul (2 ^ 53 * (num * q)) (p * den) L in
    (le_of_mul-le-mul_right {k = L} (omega arith) pL, le_of_mul-le-mul_right {k = L} (omega arith) pL)

-- a value G / L, near in that sense, is near
near_of : (s : Bool) (p q G L : ℕ) (x : Float) → 0 < L → HasValue x s G L → 2 ^ 53 * (G * q) ≤ 2 ^ 53 * (p * L) + p * L → 2 ^ 53 * (p * L) ≤ 2 ^ 53 * (G * q) + p * L
    → Near s p q x
near_of s p q G L nan pL v a b = absurd v
near_of s p q G L (inf t) pL v a b = absurd v
near_of s p q G L (fin t m e) pL v a b =
    let c = cross (m * up e) (down e) p q G L pL v.1 a b in
    record { sign = v.0; not_above_lem = c.0; not_below = c.1 }

-- ---- the rounded quotient of two whole numbers
zero_case : (s : Bool) (q : ℕ) → 0 < q → Near s 0 q (round binary64 s 0 q)
zero_case s q Q = near_of s 0 q 0 q (round binary64 s 0 q) Q (round_exact binary64 s 0 q 0 0 Q (lit< tt) (lit< tt) (zeros q)) (simp (zero-mul) (omega arith)) (simp (zero-mul) (omega arith))
  where
    zeros : (q : ℕ) → 0 * 2 ^ low binary64 ≡ 0 * 2 ^ 0 * q
    zeros q = sym (zero-mul q)

-- omega takes no number of more than 38 digits, so what it has to show is said of any L
start : (p q L : ℕ) → 0 < p → q ≤ 2 ^ 53 → 2 ^ 105 ≤ L → 2 ^ 52 * q ≤ p * L
start p q L P h l = let g : 1 * L ≤ p * L = mul-le-mul_right L P in let o = one-mul L in omega arith

top_digit : (z : ℕ) → 53 ≤ z → 52 + (z - 53) < z
top_digit z h = omega arith

twice : (G q N : ℕ) → 0 < q → 2 ^ 53 * (G * q) ≤ 2 ^ 53 * N + N → G ≤ 2 * N
twice G q N Q b = let g : G * 1 ≤ G * q = mul-le-mul_left G Q in let o = mul-one G in omega arith

bounded : (G p q L : ℕ) → 0 < q → p ≤ 2 ^ 53 → 2 ^ 53 * (G * q) ≤ 2 ^ 53 * (p * L) + p * L → G ≤ 2 ^ 54 * L
bounded G p q L Q h b = le_trans (twice G q (p * L) Q b) (le_trans (mul-le-mul_left 2 (mul-le-mul_right L h)) (le_of_eq (sym (mul_assoc 2 (2 ^ 53) L))))

pos_case : (s : Bool) (p q : ℕ) → 0 < p → p ≤ 2 ^ 53 → 0 < q → q ≤ 2 ^ 53 → Near s p q (round binary64 s p q)
pos_case s p q P p53 Q q53 =
    let L = 2 ^ low binary64 in
    let n = p * L in
    let z = size (n / q) in
    let k = z - 53 in
    let c = closest n (q * 2 ^ k) in
    let all : 53 ≤ z = normal_of_fraction binary64 p q Q (start p q L P q53 (lit≤ tt)) in
    let r : 2 ^ (52 + k) ≤ n / q = size_reaches (n / q) (52 + k) (top_digit z all) in
    let e : 2 ^ (52 + k) * q ≡ 2 ^ 52 * (q * 2 ^ k) = ap (λ (x : ℕ). x * q) (pow-add 2 52 k) ∙ mul_assoc (2 ^ 52) (2 ^ k) q ∙ ap (λ (x : ℕ). 2 ^ 52 * x) (mul_comm (2 ^ k) q) in
    let d : 2 ^ 52 * (q * 2 ^ k) ≤ n = le_trans (le_of_eq (sym e)) ((le-div_iff_mul-le Q).0 r) in
    let b = near_units n q k Q d in
    let under : c * 2 ^ k < 2 ^ (low binary64 + suc (emax binary64)) = lt_of_le_of_lt (bounded (c * 2 ^ k) p q L Q p53 b.0) (lit< tt) in
    let v : HasValue (round binary64 s p q) s (c * 2 ^ k) L =
    subst (λ (x : Float). HasValue x s (c * 2 ^ k) L) (sym (round_is binary64 s p q)) (units_val binary64 s c k under) in
    near_of s p q (c * 2 ^ k) L (round binary64 s p q) (pow_pos (low binary64)) v b.0 b.1

pub near : (s : Bool) (p q : ℕ) → p ≤ 2 ^ 53 → 0 < q → q ≤ 2 ^ 53 → Near s p q (round binary64 s p q)
near s p q p53 Q q53 = go (eq-zero-or-pos p)
  where
    go : (p ≡ 0) ⊎ (0 < p) → Near s p q (round binary64 s p q)
    go (inl e) = subst (λ (x : ℕ). Near s x q (round binary64 s x q)) (sym e) (zero_case s q Q)
    go (inr P) = pos_case s p q P p53 Q q53

-- ---- the machine's division of two floats that are whole numbers
like : (s : Bool) → unlike s false ≡ s
like true = refl
like false = refl

div_fin : (f : Format) (s : Bool) (m : ℕ) (e : ℤ) (t : Bool) (n : ℕ) (d : ℤ) (v : Bool) (p q : ℕ) → 0 < q → HasValue (fin s m e) v p 1 → HasValue (fin t n d) false q 1
    → div f (fin s m e) (fin t n d) ≡ round f v p q
unfolding div
div_fin f s m e t n d v p q Q hx hy =
    let x : m * up e ≡ p * down e = sym (mul-one (m * up e)) ∙ hx.1 in
    let y : n * up d ≡ q * down d = sym (mul-one (n * up d)) ∙ hy.1 in
    let ne : eqb n 0 ≡ false = ne_eqb n 0 (λ z. lt_irrefl 0 (lt_of_lt_of_le (mul-pos Q (down_pos d)) (le_of_eq (sym y ∙ ap (λ (w : ℕ). w * up d) z ∙ zero-mul (up d))))) in
    let N : 0 < n * up d * down e = subst (λ (w : ℕ). 0 < w * down e) (sym y) (mul-pos (mul-pos Q (down_pos d)) (down_pos e)) in
    ap (λ (b : Bool). cond b (cond (eqb m 0) nan (inf (unlike s t))) (round f (unlike s t) (m * up e * down d) (n * up d * down e))) ne
    ∙ ap₂ (λ (a b : Bool). round f (unlike a b) (m * up e * down d) (n * up d * down e)) hx.0 hy.0
    ∙ ap (λ (b : Bool). round f b (m * up e * down d) (n * up d * down e)) (like v)
    ∙ round_same f v (m * up e * down d) (n * up d * down e) p q N Q (rw (x, y) (simp (mul_assoc, mul_comm, mul_left_comm)))

-- for whole numbers in floats, of which the first may be negative
pub div_at : (f : Format) (x y : Float) (v : Bool) (p q : ℕ) → 0 < q → HasValue x v p 1 → HasValue y false q 1 → div f x y ≡ round f v p q
div_at f nan y v p q Q hx hy = absurd hx
div_at f (inf s) y v p q Q hx hy = absurd hx
div_at f (fin s m e) nan v p q Q hx hy = absurd hy
div_at f (fin s m e) (inf t) v p q Q hx hy = absurd hy
div_at f (fin s m e) (fin t n d) v p q Q hx hy = div_fin f s m e t n d v p q Q hx hy

whole_value : (z : ℤ) → nat_abs z ≤ 2 ^ 53 → HasValue (of_int binary64 z) (minus_of z) (nat_abs z) 1
unfolding of_int
whole_value (pos n) h = round_whole binary64 false n h
whole_value (negsuc n) h = round_whole binary64 true (suc n) h

pub quotient_near : (z : ℤ) (q : ℕ) → nat_abs z ≤ 2 ^ 53 → 0 < q → q ≤ 2 ^ 53 → Near (minus_of z) (nat_abs z) q (div binary64 (of_int binary64 z) (of_int binary64 (pos q)))
quotient_near z q hz Q hq =
    subst (λ (x : Float). Near (minus_of z) (nat_abs z) q x)
    (sym (div_at binary64 (of_int binary64 z) (of_int binary64 (pos q)) (minus_of z) (nat_abs z) q Q (whole_value z hz) (whole_value (pos q) hq)))
    (near (minus_of z) (nat_abs z) q hz Q hq)

pub exact_int : (z : ℤ) → nat_abs z ≤ 2 ^ 53 → T (in_float binary64 z)
unfolding in_float
exact_int (pos n) h = le→leb n (2 ^ 53) h
exact_int (negsuc n) h = lt→ltb n (2 ^ 53) h

pub exact : (n : ℕ) → n ≤ 2 ^ 53 → T (in_float binary64 (pos n))
unfolding in_float
exact n h = le→leb n (2 ^ 53) h

-- the other sign
pub near_neg : (p q : ℕ) (x : Float) → Near false p q x → Near true p q (neg x)
unfolding neg
near_neg p q nan h = absurd h.sign
near_neg p q (inf t) h = absurd h.sign
near_neg p q (fin t m e) h = record { sign = ap not h.sign; not_above_lem = h.not_above_lem; not_below = h.not_below }
