-- A list that is loaded to the front of another, by what the calls ensure. Assumes nothing.
use mathlib.Core.List.{List, ◌++◌}
use mathlib.Core.Path.{◌∙◌, ◌≡◌, ap, ap₂, sym}
use Prim.Native.Nat.{◌≤◌, ℕ}
use native.Mathlib.Omega.{arith}
use lib.ListN.{drop, length, take}
use lib.Seq.{length-take-le}
use Rattle.record_layout.specs.Order.{count_of, list_in, list_place}
use Rattle.record_layout.specs.declared.Layout.{Layout}
use Rattle.words.specs.Lists.{part}

-- so many as are lent
pub lent : {A : Type 0} (l : Layout) (k : ℕ) (list : List A) {c n : ℕ} → c ≡ count_of l k → n ≡ c → count_of l k ≤ length list → n ≡ length (take n list)
lent l k list {c} {n} ec en h = sym (length-take-le n list (omega (arith, ec, en, h)))

-- what was loaded, and what stands behind it
pub loaded :
    {A : Type 0} (bytes : List ℕ) (l : Layout) (k : ℕ) (read : List ℕ → List A) (list : List A) {c n at : ℕ} {front : List A} → c ≡ count_of l k → n ≡ c → at ≡ list_place l k →
    count_of l k ≤ length list → front ≡ read (part bytes at (length (take n list))) → front ++ drop n list ≡ read (list_in bytes l k) ++ drop (count_of l k) list
loaded bytes l k read list {c} {n} {at} ec en ea h e =
    let m : n ≡ count_of l k = en ∙ ec in
    ap₂ (λ a b. a ++ b) (e ∙ ap₂ (λ p q. read (part bytes p q)) ea (sym (lent l k list ec en h) ∙ m)) (ap (λ q. drop q list) m)
