-- A write by its tests: lists that make no zones, a record above its limit, no room, and the record. Assumes nothing.
use mathlib.Core.Bool.{Bool, ◌&&◌, cond, false, true}
use mathlib.Core.List.{List, ◌++◌}
use mathlib.Core.Path.{◌∙◌, ◌≡◌, ap, ap₂, refl, subst, sym}
use Prim.Native.Nat.{◌<◌, ◌≤◌, ◌^◌, ℕ}
use native.Mathlib.Omega.{arith}
use borrow.Author.Tests.{le-leb, lt-leb}
use lib.Dec.{leb}
use lib.ListN.{drop, length}
use Rattle.line.proofs.Alike.{fits_most}
use Rattle.line.specs.Sizes.{world_fits}
use Rattle.record_layout.specs.Order.{record_size}
use Rattle.record_layout.specs.declared.Layout.{Layout}
use Rattle.record_read.specs.Format.{Held, layout_for, record_of}
use Rattle.record_write.specs.Steps.{with_record}
use Rattle.record_write.specs.Written.{can_write, size_for, write_of, wrote}
use Rattle.record_write.proofs.Joined.{Sized, sized, stored_record}

-- what a write leaves, by its three tests
by_tests : (most : ℕ) (h : Held) (bytes : List ℕ) {a b c : Bool} → world_fits h.fixed h.sheet h.world ≡ a → leb (size_for h) most ≡ b → leb (size_for h) (length bytes) ≡ c
    → write_of most h bytes ≡ cond (a && b && c) (wrote (size_for h) (record_of h ++ drop (size_for h) bytes)) (wrote 0 bytes)
unfolding write_of can_write
by_tests most h bytes {a} {b} e f g =
    ap₂ (λ (x y : Bool). cond (x && y && leb (size_for h) (length bytes)) (wrote (size_for h) (record_of h ++ drop (size_for h) bytes)) (wrote 0 bytes)) e f
    ∙ ap (λ (c : Bool). cond (a && b && c) (wrote (size_for h) (record_of h ++ drop (size_for h) bytes)) (wrote 0 bytes)) g

module _ (most : ℕ) (h : Held) (bytes : List ℕ) where
  pub no_zones : world_fits h.fixed h.sheet h.world ≡ false → wrote 0 bytes ≡ write_of most h bytes
  unfolding write_of can_write
  no_zones e = sym (ap (λ (a : Bool). cond (a && leb (size_for h) most && leb (size_for h) (length bytes)) (wrote (size_for h) (record_of h ++ drop (size_for h) bytes)) (wrote 0 bytes)) e)

  module _ (fit : world_fits h.fixed h.sheet h.world ≡ true) (l : Layout) (same : l ≡ layout_for h) (size : ℕ) (e : size ≡ record_size l) where
    size_is : size ≡ size_for h
    size_is = e ∙ ap record_size same

    pub too_long : most < size → wrote 0 bytes ≡ write_of most h bytes
    too_long m = sym (by_tests most h bytes fit (lt-leb (size_for h) most (omega (arith, size_is, m))) refl)

    pub too_short : size ≤ most → length bytes < size → wrote 0 bytes ≡ write_of most h bytes
    too_short m s =
        sym (by_tests most h bytes fit (le-leb (size_for h) most (omega (arith, size_is, m))) (lt-leb (size_for h) (length bytes) (omega (arith, size_is, s))))

    pub written : size ≤ most → size ≤ length bytes → {left : List ℕ} → left ≡ with_record l h bytes → wrote size left ≡ write_of most h bytes
    written m s t =
        let z : wrote size (record_of h ++ drop (record_size l) bytes) ≡ wrote (size_for h) (record_of h ++ drop (size_for h) bytes) =
        ap₂ (λ (n k : ℕ). wrote n (record_of h ++ drop k bytes)) size_is (ap record_size same) in
        ap (wrote size) (t ∙ stored_record h l (subst (Sized h) (sym same) (sized h fit)) same bytes (omega (arith, e, s)))
        ∙ z
        ∙ sym (by_tests most h bytes fit (le-leb (size_for h) most (omega (arith, size_is, m))) (le-leb (size_for h) (length bytes) (omega (arith, size_is, s))))

-- counts that fit are words
pub count_words : (h : Held) → world_fits h.fixed h.sheet h.world ≡ true
    → (length h.world.gx < 2 ^ 32)
    × ((length h.fixed.contours < 2 ^ 32) × ((length h.world.tx < 2 ^ 32) × ((length h.fixed.controls < 2 ^ 32) × (length h.sheet < 2 ^ 32))))
count_words h e =
    let m = fits_most h.fixed h.sheet h.world e in
    (omega (arith, m.points), (omega (arith, m.contours), (omega (arith, m.twilight), (omega (arith, m.controls), omega (arith, m.words)))))
