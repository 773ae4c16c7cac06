-- Pieces of a text put one behind the other. Assumes nothing.
use mathlib.Core.Bool.{Bool, cond, false, true}
use mathlib.Core.List.{List, [], ◌++◌, ◌∷◌}
use mathlib.Core.Path.{◌∙◌, ◌≡◌, ap, ap₂, refl}
use Prim.Native.Nat.{◌+◌, suc, ℕ}
use native.Mathlib.Omega.{arith}
use lib.ListN.{length, length-append, set}
use lib.IntN.{ℤ, nat_abs, negsuc, pos}
use lib.Seq.{sets}
use lib.Signed.{non_neg}
use Rattle.record_print.specs.Steps.{Put}
use Rattle.record_print.specs.Text.{decimal, signed_decimal}

pub sets_join : (l : List ℕ) (at : ℕ) (us vs : List ℕ) → sets (sets l at us) (at + length us) vs ≡ sets l at (us ++ vs)
sets_join l at [] vs = let e : at + 0 ≡ at = omega arith in ap (λ (k : ℕ). sets l k vs) e
sets_join l at (u ∷ us) vs =
    let e : at + suc (length us) ≡ suc at + length us = omega arith in
    ap (λ (k : ℕ). sets (sets (set l at u) (suc at) us) k vs) e ∙ sets_join (set l at u) (suc at) us vs

-- a piece behind a piece
pub put_join : {s t : List ℕ} {at mid next : ℕ} {b c d : List ℕ} → Put s at mid b c → Put t mid next c d → Put (s ++ t) at next b d
put_join {s} {t} {at} {mid} {next} {b} {c} {d} p q =
    record {
      behind = omega (arith, p.behind, q.behind, length-append s t);
      there = q.there ∙ ap₂ (λ (l : List ℕ) (k : ℕ). sets l k t) p.there p.behind ∙ sets_join b at s t;
    }

-- a byte behind a piece
pub put_byte : {s : List ℕ} {at mid : ℕ} {b c : List ℕ} (e : ℕ) → Put s at mid b c → Put (s ++ (e ∷ [])) at (mid + 1) b (set c mid e)
put_byte e p = put_join p (record { behind = refl; there = refl })

-- ---- a sign before them
by_sign : (z : ℤ) → signed_decimal z ≡ cond (non_neg z) (decimal (nat_abs z)) (45 ∷ decimal (nat_abs z))
by_sign (pos n) = refl
by_sign (negsuc n) = refl

pub no_sign : {z y : ℤ} {t : Bool} {m : ℕ} → y ≡ z → t ≡ non_neg y → t ≡ true → m ≡ nat_abs y → signed_decimal z ≡ decimal m
no_sign {z} b t e m = by_sign z ∙ cc

pub a_sign : {z y : ℤ} {t : Bool} {m : ℕ} → y ≡ z → t ≡ non_neg y → t ≡ false → m ≡ nat_abs y → signed_decimal z ≡ 45 ∷ decimal m
a_sign {z} b t e m = by_sign z ∙ cc
