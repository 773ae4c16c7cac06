-- Newton's steps on magnitudes. With g for 65,536 (1 + b), the numbers x and y are grown to u = x g / 65,536 and v = y g / 65,536, rounded down; a step adds
-- at most (2 ^ 32 - u u - v v) g / 2 ^ 33 to g. Such a step never goes far past length 1: q (3 - q) (3 - q) is at most 4 where q is at most 1. So g
-- stays below a bound, and no product leaves 32 bits. Assumes nothing.
use mathlib.Core.Path.{◌≡◌, sym, subst}
use mathlib.Core.Logic.{⊎_elim}
use Prim.Native.Nat.{ℕ, suc, ◌+◌, ◌-◌, ◌*◌, ◌/◌, ◌^◌, ◌≤◌, ◌<◌}
use native.Mathlib.Omega.{arith}
use native.Mathlib.Nat.{mul-le-mul, mul-le-mul_left, mul-le-mul_right}
use Rattle.int.proofs.Ints.{split}

-- ---- squares
pub root_lt : (p k b : ℕ) → p * p ≤ b → b < k * k → p < k
root_lt p k b f g = ⊎_elim (λ l. l) (λ l. absurd (omega (arith, mul-le-mul l l, f, g))) (split p k)

-- 4 a b is at most the square of a + b
ordered_mean : (a b : ℕ) → a ≤ b → 4 * (a * b) ≤ (a + b) * (a + b)
ordered_mean a b l = let e : b ≡ a + (b - a) = omega arith in subst (λ (c : ℕ). 4 * (a * c) ≤ (a + c) * (a + c)) (sym e) (omega arith)

pub mean : (a b : ℕ) → 4 * (a * b) ≤ (a + b) * (a + b)
mean a b = ⊎_elim (λ l. ordered_mean a b (omega (arith, l))) (λ l. omega (arith, ordered_mean b a l)) (split a b)

-- ---- the bound on squared lengths: 2 ^ 32 (2 ^ 32 + 7 · 65,536)
abbrev pub bound : ℕ
bound = 2 ^ 32 * (2 ^ 32 + 7 * 65536)

-- q (3 - q) (3 - q) is at most 4, with q for Q / m and 1 - q for D / m
cube : (Q D m : ℕ) → Q + D ≡ m → Q * ((2 * m + D) * (2 * m + D)) ≤ 4 * (m * (m * m))
cube Q D m e = subst (λ (k : ℕ). Q * ((2 * k + D) * (2 * k + D)) ≤ 4 * (k * (k * k))) e (omega arith)

-- ---- one step
module _ (x g z D : ℕ) (some : 2 ^ 33 * z ≤ D * g) where
  grown_by : 2 ^ 33 * (x * (g + z)) ≤ x * g * (2 ^ 33 + D)
  grown_by = omega (arith, mul-le-mul_left x some)

  -- in terms of what x was grown to
  pub part_le : (u : ℕ) → u ≡ x * g / 65536 → 131072 * (x * (g + z)) ≤ suc u * (2 ^ 33 + D)
  part_le u e =
      let a : x * g ≤ 65536 * suc u = omega (arith, e) in
      let b : x * g * (2 ^ 33 + D) ≤ 65536 * suc u * (2 ^ 33 + D) = mul-le-mul_right (2 ^ 33 + D) a in
      omega (arith, grown_by, b)

module _ (u v D : ℕ) (e : u * u + v * v + D ≡ 2 ^ 32) (l : 2 * D ≤ 2 ^ 32) where
  abbrev E : ℕ
  E = 2 ^ 33 + D

  u_le : u ≤ 65536
  u_le = omega (arith, root_lt u 65537 (2 ^ 32) (omega (arith, e)) (omega arith))

  v_le : v ≤ 65536
  v_le = omega (arith, root_lt v 65537 (2 ^ 32) (omega (arith, e)) (omega arith))

  E-le : 2 * E ≤ 5 * 2 ^ 32
  E-le = omega (arith, l)

  -- both parts, one larger than they are
  both_le : (suc u * suc u + suc v * suc v) * (E * E) ≤ 4 * 2 ^ 32 * bound
  both_le =
      let c : (u * u + v * v) * (E * E) ≤ 4 * (2 ^ 32 * (2 ^ 32 * 2 ^ 32)) = cube (u * u + v * v) D (2 ^ 32) e in
      let s : 4 * (E * E) ≤ 25 * (2 ^ 32 * 2 ^ 32) = omega (arith, mul-le-mul E-le E-le) in
      let w : 2 * u + 2 * v + 2 ≤ 262146 = omega (arith, u_le, v_le) in
      let t : (2 * u + 2 * v + 2) * (E * E) ≤ 262146 * (E * E) = mul-le-mul_right (E * E) w in
      omega (arith, c, s, t)

  pub step_le : (a b : ℕ) → 131072 * a ≤ suc u * E → 131072 * b ≤ suc v * E → a * a + b * b ≤ bound
  step_le a b f h =
      let p : 131072 * a * (131072 * a) ≤ suc u * E * (suc u * E) = mul-le-mul f f in
      let q : 131072 * b * (131072 * b) ≤ suc v * E * (suc v * E) = mul-le-mul h h in
      omega (arith, p, q, both_le)

-- ---- what is kept: numbers near length 1 grown to a squared length of at most the bound
-- the numbers: neither above 4/3, and the length at least 5/8 of what is estimated as 1
abbrev pub Near : ℕ → ℕ → Type 0
Near x y = (x ≤ 87381) × ((y ≤ 87381) × (1342111344 ≤ x * x + y * y))

abbrev pub Held : ℕ → ℕ → ℕ → Type 0
Held x y g = (43691 ≤ g) × (x * g * (x * g) + y * g * (y * g) ≤ bound)

module _ (x y g : ℕ) (near : Near x y) (held : Held x y g) where
  pub x_part : x * g < 65536 * 65540
  x_part = root_lt (x * g) (65536 * 65540) bound (omega (arith, held.1)) (omega arith)

  pub y_part : y * g < 65536 * 65540
  y_part = root_lt (y * g) (65536 * 65540) bound (omega (arith, held.1)) (omega arith)

  pub g_lt : g < 117300
  g_lt =
      let m : 1342111344 * (g * g) ≤ (x * x + y * y) * (g * g) = mul-le-mul_right (g * g) near.1.1 in
      root_lt g 117300 (bound / 1342111344) (omega (arith, m, held.1)) (omega arith)

  pub squares_le : (u v : ℕ) → u ≡ x * g / 65536 → v ≡ y * g / 65536 → u * u + v * v ≤ 2 ^ 32 + 7 * 65536
  squares_le u v eu ev =
      let p : 65536 * u * (65536 * u) ≤ x * g * (x * g) = mul-le-mul (omega (arith, eu)) (omega (arith, eu)) in
      let q : 65536 * v * (65536 * v) ≤ y * g * (y * g) = mul-le-mul (omega (arith, ev)) (omega (arith, ev)) in
      omega (arith, p, q, held.1)

-- ---- no product leaves 32 bits
module _ (x g : ℕ) (part : x * g < 65536 * 65540) (most : x ≤ 87381) (least : 43691 ≤ g) (below : g < 117300) where
  pub over_lt : (k : ℕ) → k + 65536 ≡ g → x * k < 2 ^ 31
  over_lt k e =
      let w : x * g ≡ x * (k + 65536) = subst (λ (h : ℕ). x * h ≡ x * (k + 65536)) e (omega arith) in
      ⊎_elim
      (λ l. let i : x ≤ 39322 = omega (arith, l) in let j : k ≤ 51764 = omega (arith, e, below) in omega (arith, mul-le-mul i j))
      (λ l. omega (arith, w, part, l))
      (split x 39322)

  pub under_lt : (k : ℕ) → k + g ≡ 65536 → x * k < 2 ^ 31
  under_lt k e = let j : k ≤ 21845 = omega (arith, e, least) in omega (arith, mul-le-mul most j)
