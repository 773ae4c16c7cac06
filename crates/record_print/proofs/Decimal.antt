-- What the decimal digits of a number are: one digit below 10, else those of its tenth and its last one; and how many there are. Assumes nothing.
use mathlib.Core.Bool.{Bool, cond, false, true}
use mathlib.Core.List.{List, [], ◌++◌, ◌∷◌}
use mathlib.Core.Path.{◌∙◌, ◌≡◌, ap, refl, sym}
use Prim.Native.Nat.{◌+◌, ◌*◌, ◌/◌, ◌%◌, ◌^◌, ◌<◌, ◌≤◌, suc, zero, ℕ}
use native.Mathlib.Omega.{arith}
use borrow.Author.Tests.{le-ltb, lt-ltb, ltb-false, ltb-true}
use lib.Dec.{ltb}
use lib.ListN.{length, length-append}
use Rattle.std.proofs.lemmas.Fmt.{decimal_by_steps}
use Rattle.std.specs.Fmt.{decimal as library's}
use Rattle.record_print.specs.Text.{decimal, digits_by, last_digit}

-- ---- steps enough are as good as more
below_ten : (steps n : ℕ) → n < 10 → digits_by steps n ≡ last_digit n ∷ []
below_ten zero n h = refl
below_ten (suc steps) n h = ap (λ (t : Bool). cond t (last_digit n ∷ []) (digits_by steps (n / 10) ++ (last_digit n ∷ []))) (lt-ltb n 10 h)

from_ten : (steps n : ℕ) → 10 ≤ n → digits_by (suc steps) n ≡ digits_by steps (n / 10) ++ (last_digit n ∷ [])
from_ten steps n h = ap (λ (t : Bool). cond t (last_digit n ∷ []) (digits_by steps (n / 10) ++ (last_digit n ∷ []))) (le-ltb n 10 h)

enough : (a b n : ℕ) → n ≤ a → n ≤ b → digits_by a n ≡ digits_by b n
enough zero b n h g = sym (below_ten b n (omega arith))
enough (suc a) zero n h g = below_ten (suc a) n (omega arith)
enough (suc a) (suc b) n h g = ap (λ (l : List ℕ). cond (ltb n 10) (last_digit n ∷ []) (l ++ (last_digit n ∷ []))) (enough a b (n / 10) (omega arith) (omega arith))

-- ---- the digits
pub one_digit : (n : ℕ) → n < 10 → decimal n ≡ last_digit n ∷ []
unfolding decimal
one_digit n h = below_ten n n h

pub more_digits : (n : ℕ) → 10 ≤ n → decimal n ≡ decimal (n / 10) ++ (last_digit n ∷ [])
unfolding decimal
more_digits zero h = absurd (omega arith)
more_digits (suc n) h = from_ten n (suc n) h ∙ ap (λ (l : List ℕ). l ++ (last_digit (suc n) ∷ [])) (enough n (suc n / 10) (suc n / 10) (omega arith) (omega arith))

-- ---- how many there are
pub one_long : (n : ℕ) → n < 10 → length (decimal n) ≡ 1
one_long n h = ap length (one_digit n h)

pub one_longer : (n : ℕ) → 10 ≤ n → length (decimal n) ≡ length (decimal (n / 10)) + 1
one_longer n h = ap length (more_digits n h) ∙ length-append (decimal (n / 10)) (last_digit n ∷ [])

-- the least number with more than suc k digits
abbrev pub tens : ℕ → ℕ
tens zero = 10
tens (suc k) = 10 * tens k

pub digits_most : (k n : ℕ) → n < tens k → length (decimal n) ≤ suc k
digits_most zero n h = omega (arith, one_long n h)
digits_most (suc k) n h = by_test (ltb n 10) refl (digits_most k (n / 10) (omega arith))
  where
    by_test : (t : Bool) → ltb n 10 ≡ t → length (decimal (n / 10)) ≤ suc k → length (decimal n) ≤ suc (suc k)
    by_test true e m = omega (arith, one_long n (ltb-true n 10 e))
    by_test false e m = omega (arith, one_longer n (ltb-false n 10 e))

-- ---- the library's digits are these
pub as_library : (n : ℕ) → n < 2 ^ 64 → library's n ≡ decimal n
as_library n h = decimal_by_steps
    (λ m ds. ds ≡ decimal m)
    (λ m l. let e : m ≡ m % 10 = omega arith in ap (λ (d : ℕ). (48 + d) ∷ []) e ∙ sym (one_digit m l))
    (λ m ds l e. ap (λ (t : List ℕ). t ++ (last_digit m ∷ [])) e ∙ sym (more_digits m l))
    n h
