-- Whether a carry has room, by the tests. Assumes nothing.
use mathlib.Core.Bool.{Bool, ◌&&◌, false, true}
use mathlib.Core.List.{List}
use mathlib.Core.Path.{◌∙◌, ◌≡◌, ap, refl, sym}
use Prim.Native.Nat.{ℕ, ◌+◌, ◌-◌, ◌<◌, ◌≤◌}
use native.Mathlib.Omega.{arith}
use borrow.Author.Tests.{le-leb, leb-false, leb-true, lt-leb}
use lib.Dec.{leb}
use lib.IntN.{ℤ}
use lib.ListN.{length, take}
use Rattle.graphics.proofs.Laws.{and_left, and_right}
use Rattle.feed_look.specs.Look.{look_of, most_line}
use Rattle.limits.specs.Limits.{most_words}
use Rattle.feed_carry.specs.Carry.{carry_has_room, waits}

module _ (base held words : ℕ) (carry : List ℤ) where
  pub no_carry : length carry < most_line → false ≡ carry_has_room base held words carry
  unfolding carry_has_room
  no_carry h = rw (lt-leb most_line (length carry) h)

  module _ (h : most_line ≤ length carry) where
    pub not_held : length carry < held → false ≡ carry_has_room base held words carry
    unfolding carry_has_room
    not_held a = rw (le-leb most_line (length carry) h, lt-leb held (length carry) a)

    module _ (a : held ≤ length carry) where
      pub no_beginning : false ≡ waits (look_of (take held carry)) → false ≡ carry_has_room base held words carry
      unfolding carry_has_room
      no_beginning b = rw (le-leb most_line (length carry) h, le-leb held (length carry) a, sym b)

      module _ (b : true ≡ waits (look_of (take held carry))) where
        by_words : leb (base + held + words) most_words ≡ carry_has_room base held words carry
        unfolding carry_has_room
        by_words = rw (le-leb most_line (length carry) h, le-leb held (length carry) a, sym b)

        pub too_far : most_words < base + held → false ≡ carry_has_room base held words carry
        too_far d = sym (lt-leb (base + held + words) most_words (omega (arith, d))) ∙ by_words

        by_test : base + held ≤ most_words → (t : Bool) → leb words (most_words - base - held) ≡ t → t ≡ leb (base + held + words) most_words
        by_test d true e = sym (le-leb (base + held + words) most_words (omega (arith, d, leb-true words (most_words - base - held) e)))
        by_test d false e = sym (lt-leb (base + held + words) most_words (omega (arith, d, leb-false words (most_words - base - held) e)))

        pub as_left : base + held ≤ most_words → leb words (most_words - base - held) ≡ carry_has_room base held words carry
        as_left d = by_test d (leb words (most_words - base - held)) refl ∙ by_words

-- what a call that has room was asked
pub record Room (base held words : ℕ) (carry : List ℤ) : Type 0 where
  pub line : most_line ≤ length carry
  pub there : held ≤ length carry
  pub waiting : waits (look_of (take held carry)) ≡ true
  pub within : base + held + words ≤ most_words

pub room : (base held words : ℕ) (carry : List ℤ) → carry_has_room base held words carry ≡ true → Room base held words carry
unfolding carry_has_room
room base held words carry e =
    let a = leb most_line (length carry) in
    let b = leb held (length carry) in
    let d = waits (look_of (take held carry)) in
    let t = leb (base + held + words) most_words in
    let r = and_left (a && b && d) t e in
    let q = and_left (a && b) d r in
    record {
      line = leb-true most_line (length carry) (and_left a b q);
      there = leb-true held (length carry) (and_right a b q);
      waiting = and_right (a && b) d r;
      within = leb-true (base + held + words) most_words (and_right (a && b && d) t e);
    }
