-- What `open_of` says by its four tests. Assumes nothing.
use Rattle.std.specs.Prelude.{Result, Ok, Err}
use Rattle.record_read.specs.declared.Damage.{Damage}
use mathlib.Core.Bool.{Bool, true, false, cond, ◌&&◌}
use mathlib.Core.List.{List}
use mathlib.Core.Path.{◌∙◌, ◌≡◌, ap, refl, sym}
use Prim.Native.Nat.{ℕ, ◌<◌, ◌≤◌}
use lib.Dec.{leb}
use lib.ListN.{length}
use borrow.Author.Tests.{le-leb, lt-leb}
use Rattle.record_read.specs.Read.{framed, layout_of, open_of, sum_fits, words_fit}
use Rattle.record_layout.specs.Order.{most_bytes}
use Rattle.record_layout.specs.declared.Layout.{Layout}
use Rattle.record_read.specs.declared.Damage.TheVariants.{TooLong, Form, Sum}

pub all_three : {a a' b b' c c' : Bool} → a ≡ a' → b ≡ b' → c ≡ c' → a && b && c ≡ a' && b' && c'
all_three {a} {a'} {b} {b'} {c} {c'} p q r = ap (λ (x : Bool). x && b && c) p ∙ ap (λ (x : Bool). a' && x && c) q ∙ ap (λ (x : Bool). a' && b' && x) r

abbrev verdict : Layout → Bool → Bool → Bool → Bool → Result Layout Damage
verdict l short frame fit sum = cond short (cond (frame && fit) (cond sum (Ok l) (Err Sum)) (Err Form)) (Err TooLong)

module _ (bytes : List ℕ) where
  abbrev fit : Bool
  fit = words_fit bytes (layout_of bytes)

  by_tests : open_of bytes ≡ verdict (layout_of bytes) (leb (length bytes) most_bytes) (framed bytes) fit (sum_fits bytes)
  unfolding open_of
  by_tests = refl

  pub too_long : most_bytes < length bytes → Err TooLong ≡ open_of bytes
  too_long h = sym (by_tests ∙ ap (λ (x : Bool). verdict (layout_of bytes) x (framed bytes) fit (sum_fits bytes)) (lt-leb (length bytes) most_bytes h))

  module _ (h : length bytes ≤ most_bytes) where
    short : open_of bytes ≡ verdict (layout_of bytes) true (framed bytes) fit (sum_fits bytes)
    short = by_tests ∙ ap (λ (x : Bool). verdict (layout_of bytes) x (framed bytes) fit (sum_fits bytes)) (le-leb (length bytes) most_bytes h)

    pub no_frame : framed bytes ≡ false → Err Form ≡ open_of bytes
    no_frame e = sym (short ∙ ap (λ (x : Bool). verdict (layout_of bytes) true x fit (sum_fits bytes)) e)

    module _ (f : framed bytes ≡ true) where
      in_frame : open_of bytes ≡ verdict (layout_of bytes) true true fit (sum_fits bytes)
      in_frame = short ∙ ap (λ (x : Bool). verdict (layout_of bytes) true x fit (sum_fits bytes)) f

      pub no_fit : fit ≡ false → Err Form ≡ open_of bytes
      no_fit e = sym (in_frame ∙ ap (λ (x : Bool). verdict (layout_of bytes) true true x (sum_fits bytes)) e)

      module _ (g : fit ≡ true) where
        fits : open_of bytes ≡ verdict (layout_of bytes) true true true (sum_fits bytes)
        fits = in_frame ∙ ap (λ (x : Bool). verdict (layout_of bytes) true true x (sum_fits bytes)) g

        pub no_sum : sum_fits bytes ≡ false → Err Sum ≡ open_of bytes
        no_sum e = sym (fits ∙ ap (λ (x : Bool). verdict (layout_of bytes) true true true x) e)

        pub whole : sum_fits bytes ≡ true → Ok (layout_of bytes) ≡ open_of bytes
        whole e = sym (fits ∙ ap (λ (x : Bool). verdict (layout_of bytes) true true true x) e)
