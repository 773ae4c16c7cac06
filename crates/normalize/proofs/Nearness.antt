-- Where Newton's steps start: two numbers that are not 0, moved until the estimate of their length is from 5/8 to 4/3 of 65,536, and the guess that
-- length gives. The steps of proofs/Settles.antt hold from there. Assumes nothing.
use mathlib.Core.Path.{◌≡◌, refl, sym, ap, ◌∙◌, subst}
use mathlib.Core.Logic.{⊎_elim}
use Prim.Native.Nat.{ℕ, suc, ◌+◌, ◌-◌, ◌*◌, ◌/◌, ◌%◌, ◌^◌, ◌≤◌, ◌<◌}
use native.Mathlib.Omega.{arith}
use native.Mathlib.Nat.{mul-le-mul, mul-le-mul_left, mul-le-mul_right, div-add-mod', mod-lt}
use borrow.Author.Tests.{le-leb, lt-leb}
use lib.Count.{leading_top}
use lib.IntN.{pos, negsuc, sub_ℕ}
use lib.Pow.{pow-add, pow_mono, pow_pos}
use Rattle.int.proofs.Ints.{split, sub_lo, sub_hi, sub_pos}
use Rattle.int.proofs.Wraps.{wrap_id}
use Rattle.int.specs.Word.{wrap32, sub32}
use Rattle.normalize.specs.Unit.{estimate, zeros, past, shifted, near_length, start_at, start_by, start_of}
use Rattle.normalize.specs.declared.Start.{Start}
use Rattle.normalize.proofs.Newton.{Near, Held, mean}
use Rattle.normalize.proofs.Seen.{first_larger, second_larger, anew, moved_down, estimate_le}
use Rattle.normalize.proofs.Settles.{wrap_of}

-- ---- what an estimate says of two numbers
abbrev Estimated : ℕ → ℕ → ℕ → Type 0
Estimated x y n = (x ≤ n) × ((y ≤ n) × ((x * x + y * y ≤ suc n * suc n) × ((2 * n - 2) * (2 * n - 2) ≤ 5 * (x * x + y * y))))

-- of the larger number and the other, with half of that rounded down, and no more than 1 more
in_order : (h m n : ℕ) → m ≤ h → h + m / 2 ≤ n → n ≤ suc (h + m / 2) → Estimated h m n
in_order h m n l f g =
    let p : m * m ≤ h * m = mul-le-mul_right m l in
    let q : 2 * h + m ≤ 2 * n + 1 = omega (arith, f) in
    let r : 2 * n - 2 ≤ 2 * h + m = omega (arith, g) in
    (omega (arith, f), (omega (arith, f, l), (omega (arith, p, mul-le-mul q q), omega (arith, mean h (2 * m), mul-le-mul r r))))

turned : (x y n : ℕ) → Estimated x y n → Estimated y x n
turned x y n e = (e.1.0, (e.0, (omega (arith, e.1.1.0), omega (arith, e.1.1.1))))

exactly : (x y : ℕ) → Estimated x y (estimate x y)
exactly x y = ⊎_elim
    (λ l. subst (Estimated x y) (first_larger x y l) (in_order x y (x + y / 2) (omega (arith, l)) (omega arith) (omega arith)))
    (λ l. subst (Estimated x y) (second_larger x y l) (turned y x (y + x / 2) (in_order y x (y + x / 2) l (omega arith) (omega arith))))
    (split y x)

-- numbers and estimate over w, each rounded down
over_in_order : (a c w : ℕ) → 0 < w → c ≤ a → Estimated (a / w) (c / w) ((a + c / 2) / w)
over_in_order a c w some l =
    let h = a / w in let r = a % w in let m = c / w in let t = c % w in let f = m / 2 in let e = m % 2 in
    let n = (a + c / 2) / w in let d = (a + c / 2) % w in
    let ea : h * w + r ≡ a = div-add-mod' a w in
    let ec : m * w + t ≡ c = div-add-mod' c w in
    let en : n * w + d ≡ a + c / 2 = div-add-mod' (a + c / 2) w in
    let lr : r < w = mod-lt a some in
    let lt : t < w = mod-lt c some in
    let ld : d < w = mod-lt (a + c / 2) some in
    let em : m * w ≡ 2 * (f * w) + e * w = subst (λ (k : ℕ). k * w ≡ 2 * (f * w) + e * w) (div-add-mod' m 2) (omega arith) in
    let le : e * w ≤ 1 * w = mul-le-mul_right w (omega arith) in
    let order : m ≤ h = ⊎_elim (λ k. absurd (omega (arith, mul-le-mul_right w k, ea, ec, lr, l))) (λ k. k) (split h m) in
    let low : h + f ≤ n = ⊎_elim (λ k. absurd (omega (arith, mul-le-mul_right w k, ea, ec, en, em, ld))) (λ k. k) (split n (h + f)) in
    let high : n ≤ suc (h + f) = ⊎_elim (λ k. absurd (omega (arith, mul-le-mul_right w k, ea, ec, en, em, le, lr, lt))) (λ k. k) (split (suc (h + f)) n) in
    in_order h m n order low high

over : (a c w : ℕ) → 0 < w → Estimated (a / w) (c / w) (estimate a c / w)
over a c w some = ⊎_elim
    (λ l. subst (λ (k : ℕ). Estimated (a / w) (c / w) (k / w)) (first_larger a c l) (over_in_order a c w some (omega (arith, l))))
    (λ l. subst (λ (k : ℕ). Estimated (a / w) (c / w) (k / w)) (second_larger a c l) (turned (c / w) (a / w) ((c + a / 2) / w) (over_in_order c a w some l)))
    (split c a)

-- ---- an estimate from 5/8 to 4/3 lets the steps begin
module _ (x y n : ℕ) (least : 40960 ≤ n) (most : n ≤ 87381) (e : Estimated x y n) where
  pub near_of : Near x y
  near_of =
      let q : 81918 ≤ 2 * n - 2 = omega (arith, least) in
      (omega (arith, e.0, most), (omega (arith, e.1.0, most), omega (arith, e.1.1.1, mul-le-mul q q)))

  pub held_of : Held x y (131072 - n)
  held_of =
      let g = 131072 - n in
      let s : g + n ≡ 131072 = omega (arith, most) in
      let m : 4 * (g * n) ≤ 131072 * 131072 = subst (λ (k : ℕ). 4 * (g * n) ≤ k * k) s (mean g n) in
      let p : suc n * g ≤ 2 ^ 32 + 2 ^ 17 = omega (arith, m, s) in
      let q : (x * x + y * y) * (g * g) ≤ suc n * suc n * (g * g) = mul-le-mul_right (g * g) e.1.1.0 in
      (omega (arith, s, most), omega (arith, q, mul-le-mul p p))

-- ---- numbers times K
-- twice the estimate, with the half that is rounded off
abbrev Doubled : ℕ → ℕ → ℕ → Type 0
Doubled a c t = (2 * estimate a c ≤ t) × ((t ≤ 2 * estimate a c + 1) × ((3 ≤ t) × (2 ≤ estimate a c → 5 ≤ t)))

doubled_in_order : (h m : ℕ) → 0 < m → m ≤ h → (2 * (h + m / 2) ≤ 2 * h + m) × ((2 * h + m ≤ 2 * (h + m / 2) + 1) × ((3 ≤ 2 * h + m) × (2 ≤ h + m / 2 → 5 ≤ 2 * h + m)))
doubled_in_order h m some l = (omega arith, (omega arith, (omega (arith, some, l), (λ e. omega (arith, some, l, e)))))

-- K times a number's estimate, with the half, is the estimate of K times the numbers, with theirs
times_in_order : (h m K : ℕ) → 0 < K → m ≤ h → (m * K ≤ h * K) × ((K * (h + m / 2) ≤ h * K + m * K / 2) × ((h * K + m * K / 2 < K * suc (h + m / 2)) × (K * (2 * h + m) ≤ 2 * (h * K + m * K / 2) + 1)))
times_in_order h m K some l =
    let f = m / 2 in let e = m % 2 in
    let em : m * K ≡ 2 * (f * K) + e * K = subst (λ (k : ℕ). k * K ≡ 2 * (f * K) + e * K) (div-add-mod' m 2) (omega arith) in
    let le : e * K ≤ 1 * K = mul-le-mul_right K (omega arith) in
    (mul-le-mul_right K l, (omega (arith, em), (omega (arith, em, le, some), omega arith)))

-- both at once: the estimates of two numbers and of K times them
record Times (a c K : ℕ) : Type 0 where
  t : ℕ
  doubled : Doubled a c t
  least : K * estimate a c ≤ estimate (a * K) (c * K)
  most : estimate (a * K) (c * K) < K * suc (estimate a c)
  full : K * t ≤ 2 * estimate (a * K) (c * K) + 1

module _ (a c K : ℕ) (some-a : 0 < a) (some-c : 0 < c) (some : 0 < K) where
  first : c < a → Times a c K
  first l =
      let e = first_larger a c l in
      let d = first_larger (a * K) (c * K) (omega (arith, mul-le-mul_right K l, some)) in
      let w = doubled_in_order a c some-c (omega (arith, l)) in
      let m = times_in_order a c K some (omega (arith, l)) in
      record { t = 2 * a + c; doubled = (omega (arith, w.0, e), (omega (arith, w.1.0, e), (w.1.1.0, (λ k. w.1.1.1 (omega (arith, k, e)))))); least = subst (λ (n : ℕ). K * n ≤ estimate (a * K) (c * K)) e (omega (arith, d, m.1.0)); most = subst (λ (n : ℕ). estimate (a * K) (c * K) < K * suc n) e (omega (arith, d, m.1.1.0)); full = omega (arith, d, m.1.1.1) }

  second : a ≤ c → Times a c K
  second l =
      let e = second_larger a c l in
      let d = second_larger (a * K) (c * K) (mul-le-mul_right K l) in
      let w = doubled_in_order c a some-a l in
      let m = times_in_order c a K some l in
      record { t = 2 * c + a; doubled = (omega (arith, w.0, e), (omega (arith, w.1.0, e), (w.1.1.0, (λ k. w.1.1.1 (omega (arith, k, e)))))); least = subst (λ (n : ℕ). K * n ≤ estimate (a * K) (c * K)) e (omega (arith, d, m.1.0)); most = subst (λ (n : ℕ). estimate (a * K) (c * K) < K * suc n) e (omega (arith, d, m.1.1.0)); full = omega (arith, d, m.1.1.1) }

  times : Times a c K
  times = ⊎_elim first second (split c a)

-- ---- K is a power of two, up to 2 ^ 15
at_last : (k l n t : ℕ) → 12 ≤ k → k ≤ 15 → 43691 ≤ 2 ^ k * suc l → 2 ^ k * l ≤ n → 2 ^ k * t ≤ 2 * n + 1 → 3 ≤ t → (2 ≤ l → 5 ≤ t) → 40960 ≤ n
at_last k l n t f g p q r d m = ⊎_elim
    (λ h. let e : k ≡ 12 = omega (arith, f, h) in by 12 e (λ p' q' r'. omega (arith, p', q')))
    (λ h. ⊎_elim
    (λ i. let e : k ≡ 13 = omega (arith, h, i) in by 13 e (λ p' q' r'. omega (arith, p', q')))
    (λ i. ⊎_elim
    (λ j. let e : k ≡ 14 = omega (arith, i, j) in by 14 e (λ p' q' r'. let two : 2 ≤ l = omega (arith, p') in omega (arith, m two, r')))
    (λ j. let e : k ≡ 15 = omega (arith, g, j) in by 15 e (λ p' q' r'. omega (arith, d, r')))
    (split k 15))
    (split k 14))
    (split k 13) where
      by : (i : ℕ) → k ≡ i → (43691 ≤ 2 ^ i * suc l → 2 ^ i * l ≤ n → 2 ^ i * t ≤ 2 * n + 1 → 40960 ≤ n) → 40960 ≤ n
      by i e go = go (subst (λ (j : ℕ). 43691 ≤ 2 ^ j * suc l) e p) (subst (λ (j : ℕ). 2 ^ j * l ≤ n) e q) (subst (λ (j : ℕ). 2 ^ j * t ≤ 2 * n + 1) e r)

not_too_short : (k l n t : ℕ) → k ≤ 15 → 43691 ≤ 2 ^ k * suc l → 2 ^ k * l ≤ n → 2 ^ k * t ≤ 2 * n + 1 → 3 ≤ t → (2 ≤ l → 5 ≤ t) → 40960 ≤ n
not_too_short k l n t g p q r d m = ⊎_elim
    (λ h. let i : k ≤ 11 = omega (arith, h) in omega (arith, pow_mono i, p, q))
    (λ h. at_last k l n t h g p q r d m)
    (split k 12)

-- ---- how far the estimate's highest bit stands from the top
module _ (l : ℕ) (some : 0 < l) (fits : l < 2 ^ 32) where
  abbrev W : ℕ
  W = 2 ^ zeros l

  zeros_le : zeros l ≤ 31
  unfolding zeros
  zeros_le = let top = leading_top 32 l some fits in omega (arith, top.1)

  at_top : 2 ^ 31 ≤ W * l
  unfolding zeros
  at_top =
      let top = leading_top 32 l some fits in
      let e : zeros l + top.0 ≡ 31 = omega (arith, top.1) in
      let w : W * 2 ^ top.0 ≡ 2 ^ 31 = sym (pow-add 2 (zeros l) top.0) ∙ ap (λ (i : ℕ). 2 ^ i) e in
      omega (arith, w, mul-le-mul_left W top.2)

  below_top : W * suc l ≤ 2 ^ 32
  unfolding zeros
  below_top =
      let top = leading_top 32 l some fits in
      let w : W * 2 ^ suc top.0 ≡ 2 ^ 32 = sym (pow-add 2 (zeros l) (suc top.0)) ∙ ap (λ (i : ℕ). 2 ^ i) top.1 in
      omega (arith, w, mul-le-mul_left W top.3)

  abbrev third : ℕ
  third = 0xAAAAAAAA / W

  below_third : l < third → W * suc l ≤ 0xAAAAAAAA
  below_third h = omega (arith, div-add-mod' 0xAAAAAAAA W, mul-le-mul_left W h)

  from_third : third ≤ l → 0xAAAAAAAA < W * suc l
  from_third h =
      let r : 0xAAAAAAAA % W < W = mod-lt 0xAAAAAAAA (pow_pos (zeros l)) in
      omega (arith, div-add-mod' 0xAAAAAAAA W, r, mul-le-mul_left W h)

  -- W as a product with K: above place 15 or 16, and below it
  higher : (p k : ℕ) → k + p ≡ zeros l → 2 ^ k * 2 ^ p ≡ W
  higher p k e = sym (pow-add 2 k p) ∙ ap (λ (i : ℕ). 2 ^ i) e

  lower : (p k : ℕ) → k + zeros l ≡ p → 2 ^ k * W ≡ 2 ^ p
  lower p k e = sym (pow-add 2 k (zeros l)) ∙ ap (λ (i : ℕ). 2 ^ i) e

-- ---- the numbers moved, and their length
record Moved (up down l a c : ℕ) : Type 0 where
  x : ℕ
  y : ℕ
  n : ℕ
  x_is : shifted up down a ≡ x
  y_is : shifted up down c ≡ y
  n_is : near_length up down l x y ≡ n
  least : 40960 ≤ n
  most : n ≤ 87381
  estimated : Estimated x y n

shifted_up : (k n : ℕ) → shifted k 0 n ≡ n * 2 ^ k
unfolding shifted
shifted_up k n = omega arith

shifted_down : (k n : ℕ) → shifted 0 k n ≡ n / 2 ^ k
unfolding shifted
shifted_down k n = let e : n * 1 ≡ n = omega arith in ap (λ (i : ℕ). i / 2 ^ k) e

between : (l K q p : ℕ) → 0 < K → q * K ≤ l → l < suc p * K → (q ≤ l / K) × (l / K ≤ p)
between l K q p some f g =
    let n = l / K in let d : n * K + l % K ≡ l = div-add-mod' l K in let r : l % K < K = mod-lt l some in
    (⊎_elim (λ h. absurd (omega (arith, mul-le-mul_right K h, d, r, f))) (λ h. h) (split n q), ⊎_elim (λ h. absurd (omega (arith, mul-le-mul_right K h, d, g))) (λ h. h) (split p n))

module _ (a c : ℕ) (some-a : 0 < a) (some-c : 0 < c) (le-a : a ≤ 2 ^ 31) (le-c : c ≤ 2 ^ 31) where
  abbrev l : ℕ
  l = estimate a c

  some : 0 < l
  some = omega (arith, some-a, (exactly a c).0)

  fits : l < 2 ^ 32
  fits = omega (arith, estimate_le a c (2 ^ 31) le-a le-c)

  abbrev n_up : ℕ → ℕ
  n_up k = estimate (a * 2 ^ k) (c * 2 ^ k)

  up_by : (k : ℕ) → 0 < k → 40960 ≤ n_up k → n_up k ≤ 87381 → Moved k 0 l a c
  up_by k h f g = record { x = a * 2 ^ k; y = c * 2 ^ k; n = n_up k; x_is = shifted_up k a; y_is = shifted_up k c; n_is = sym (anew k 0 l (a * 2 ^ k) (c * 2 ^ k) h); least = f; most = g; estimated = exactly (a * 2 ^ k) (c * 2 ^ k) }

  down_by : (k : ℕ) → 40960 * 2 ^ k ≤ l → l < 87382 * 2 ^ k → Moved 0 k l a c
  down_by k f g = let b = between l (2 ^ k) 40960 87381 (pow_pos k) f g in
      record { x = a / 2 ^ k; y = c / 2 ^ k; n = l / 2 ^ k; x_is = shifted_down k a; y_is = shifted_down k c; n_is = sym (moved_down 0 k l (a / 2 ^ k) (c / 2 ^ k) (omega arith)) ∙ shifted_down k l; least = b.0; most = b.1; estimated = over a c (2 ^ k) (pow_pos k) }

  -- an estimate below 2/3 of its highest bit's double goes to place 16, any other to place 15
  up_15 : (k : ℕ) → 0 < k → k + 15 ≡ zeros l → l < third l some fits → Moved k 0 l a c
  up_15 k h e t =
      let m = times a c (2 ^ k) some-a some-c (pow_pos k) in
      let w = higher l some fits 15 k e in
      let i : 2 ^ k * 2 ^ 15 * l ≡ 2 ^ zeros l * l = ap (λ (j : ℕ). j * l) w in
      let j : 2 ^ k * 2 ^ 15 * suc l ≡ 2 ^ zeros l * suc l = ap (λ (j : ℕ). j * suc l) w in
      up_by k h (omega (arith, i, at_top l some fits, m.least)) (omega (arith, j, below_third l some fits t, m.most))

  up_16 : (k : ℕ) → 0 < k → k + 16 ≡ zeros l → third l some fits ≤ l → Moved k 0 l a c
  up_16 k h e t =
      let m = times a c (2 ^ k) some-a some-c (pow_pos k) in
      let w = higher l some fits 16 k e in
      let j : 2 ^ k * 2 ^ 16 * suc l ≡ 2 ^ zeros l * suc l = ap (λ (j : ℕ). j * suc l) w in
      let few : k ≤ 15 = omega (arith, e, zeros_le l some fits) in
      up_by k h (not_too_short k l (n_up k) m.t few (omega (arith, j, from_third l some fits t)) m.least m.full m.doubled.1.1.0 m.doubled.1.1.1) (omega (arith, j, below_top l some fits, m.most))

  down_15 : (k : ℕ) → k + zeros l ≡ 15 → l < third l some fits → Moved 0 k l a c
  down_15 k e t =
      let w = lower l some fits 15 k e in
      let i : 2 ^ k * 2 ^ zeros l * l ≡ 2 ^ 15 * l = ap (λ (j : ℕ). j * l) w in
      let j : 2 ^ k * 2 ^ zeros l * suc l ≡ 2 ^ 15 * suc l = ap (λ (j : ℕ). j * suc l) w in
      down_by k (omega (arith, i, mul-le-mul_left (2 ^ k) (at_top l some fits))) (omega (arith, j, mul-le-mul_left (2 ^ k) (below_third l some fits t), pow_pos k))

  down_16 : (k : ℕ) → k + zeros l ≡ 16 → third l some fits ≤ l → Moved 0 k l a c
  down_16 k e t =
      let w = lower l some fits 16 k e in
      let j : 2 ^ k * 2 ^ zeros l * suc l ≡ 2 ^ 16 * suc l = ap (λ (j : ℕ). j * suc l) w in
      down_by k (omega (arith, j, mul-le-mul_left (2 ^ k) (from_third l some fits t), pow_pos k)) (omega (arith, j, mul-le-mul_left (2 ^ k) (below_top l some fits), pow_pos k))

  moved_by_lem : (p : ℕ) → ((k : ℕ) → 0 < k → k + p ≡ zeros l → Moved k 0 l a c) → ((k : ℕ) → k + zeros l ≡ p → Moved 0 k l a c) → Moved (zeros l - p) (p - zeros l) l a c
  moved_by_lem p up down = ⊎_elim
      (λ h. let e : p - zeros l ≡ 0 = omega (arith, h) in subst (λ (d : ℕ). Moved (zeros l - p) d l a c) (sym e) (up (zeros l - p) (omega (arith, h)) (omega (arith, h))))
      (λ h. let e : zeros l - p ≡ 0 = omega (arith, h) in subst (λ (u : ℕ). Moved u (p - zeros l) l a c) (sym e) (down (p - zeros l) (omega (arith, h))))
      (split p (zeros l))

  moved : Moved (zeros l - past (zeros l) l) (past (zeros l) l - zeros l) l a c
  unfolding past
  moved = ⊎_elim
      (λ h. rw (lt-leb (third l some fits) l h) (moved_by_lem 15 (λ k i e. up_15 k i e h) (λ k e. down_15 k e h)))
      (λ h. rw (le-leb (third l some fits) l h) (moved_by_lem 16 (λ k i e. up_16 k i e h) (λ k e. down_16 k e h)))
      (split l (third l some fits))

-- ---- and the start
guess_is : (n : ℕ) → n ≤ 87381 → sub32 (pos 65536) (pos n) ≡ sub_ℕ (131072 - n) 65536
unfolding sub32
guess_is n h = ap wrap32 (sub_pos 65536 n) ∙ ⊎_elim
    (λ l. ap wrap32 (sub_lo 65536 n l) ∙ wrap_id (negsuc (n - suc 65536)) (record { sfits = omega (arith, h) }) ∙ ap negsuc (omega (arith, l, h)) ∙ sym (sub_lo (131072 - n) 65536 (omega (arith, l, h))))
    (λ l. ap wrap32 (sub_hi 65536 n l) ∙ wrap_of (65536 - n) (omega arith) ∙ ap pos (omega (arith, l, h)) ∙ sym (sub_hi (131072 - n) 65536 (omega (arith, l, h))))
    (split 65536 n)

-- where the steps start: near numbers, and a g that is held
abbrev pub Started : Start → Type 0
Started s = (x : ℕ) × ((y : ℕ) × ((g : ℕ) × (Near x y × (Held x y g × Path Start s (record { x = pos x; y = pos y; b = sub_ℕ g 65536 })))))

start_is : (up down l a c : ℕ) → Moved up down l a c → Started (start_at up down l a c)
unfolding start_at
start_is up down l a c m =
    let e = m.estimated in
    let small-x : m.x < 2 ^ 31 = omega (arith, e.0, m.most) in
    let small-y : m.y < 2 ^ 31 = omega (arith, e.1.0, m.most) in
    let small_n : m.n < 2 ^ 31 = omega (arith, m.most) in (
      m.x,
      (
        m.y,
        (
          131072 - m.n,
          (
            near_of m.x m.y m.n m.least m.most e,
            (
              held_of m.x m.y m.n m.least m.most e,
              rw (m.x_is, m.y_is, m.n_is, wrap_of m.x small-x, wrap_of m.y small-y, wrap_of m.n small_n, guess_is m.n m.most) refl,
            ),
          ),
        ),
      ),
    )

pub starts : (a c : ℕ) → 0 < a → 0 < c → a ≤ 2 ^ 31 → c ≤ 2 ^ 31 → Started (start_of a c)
unfolding start_of start_by
starts a c f g h i = start_is _ _ (estimate a c) a c (moved a c f g h i)
