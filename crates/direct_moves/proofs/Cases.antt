-- What the tests at entry tell, and how each call goes on by what they say, over plain lists: the functions' proofs cite these.
-- Assumes nothing.
use Rattle.std.specs.Prelude.{⊤, Result, Ok}
use Rattle.answer.specs.declared.Refusal.{Refusal}
use mathlib.Core.Path.{◌≡◌, refl, sym, ap, ap₂, ◌∙◌}
use mathlib.Core.Bool.{Bool, true, false, cond, ◌&&◌}
use mathlib.Core.List.{List}
use Prim.Native.Nat.{ℕ}
use lib.Dec.{eqb}
use lib.IntN.{ℤ}
use lib.ListN.{length}
use Rattle.direct_moves.specs.Direct.{entry_by, pairs_fit, zones_fit, outline_fits, shift_after, try_move_original_of, move_after, try_move_point_of, zp2_after, try_move_zp2_of, displaced_after, try_displacement_of}
use Rattle.graphics.specs.State.{usable_state}
use Rattle.graphics.specs.declared.GraphicsState.{GraphicsState}
use Rattle.graphics.specs.declared.ZonePointer.{ZonePointer}
use Rattle.moves.specs.Apply.{both_moved, apply_in}
use Rattle.moves.specs.Displacement.{reference_of}
use Rattle.moves.specs.Move.{move_of, original_move_of, zp2_move_of, is_idle}
use Rattle.moves.specs.declared.Move.{Move}
use Rattle.moves.specs.declared.Reference.{Reference}
use Rattle.zone.proofs.Cases.{pair_length, placed_length, placed_pair}
use Rattle.zone.specs.Sizes.{pair_fits, placed_fits}
use Rattle.graphics.proofs.Laws.{and_left, and_right}

-- ---- the tests, by what their calls ensure
pub pairs_are : (gx gy tx ty : List ℤ) {g t : Bool} → g ≡ pair_fits gx gy → t ≡ pair_fits tx ty → g && t ≡ pairs_fit gx gy tx ty
unfolding pairs_fit
pairs_are gx gy tx ty p q = ap₂ (λ (a b : Bool). a && b) p q

pub zones_are : (gx gy : List ℤ) (gflags : List ℕ) (tx ty : List ℤ) (tflags : List ℕ) {g t : Bool} → g ≡ placed_fits gx gy gflags → t ≡ placed_fits tx ty tflags → g && t ≡ zones_fit gx gy gflags tx ty tflags
unfolding zones_fit
zones_are gx gy gflags tx ty tflags p q = ap₂ (λ (a b : Bool). a && b) p q

pub entry_is : {fits ready f u v : Bool} → fits ≡ f → u ≡ ready → u ≡ v → entry_by f v ≡ entry_by fits ready
entry_is p q e = ap₂ entry_by (sym p) (sym e ∙ q)

-- ---- what the tests tell
entry_done : (fits ready : Bool) → entry_by fits ready ≡ Ok tt → fits ≡ true
entry_done true ready e = refl
entry_done false ready e = cc e

-- what was begun, from the two tests
begun_is : {fits given : Bool} (ready : Bool) {begun h : Result ⊤ Refusal} → given ≡ fits → begun ≡ entry_by given ready → begun ≡ h → h ≡ entry_by fits ready
begun_is ready p q e = sym e ∙ q ∙ ap (λ (b : Bool). entry_by b ready) p

-- where the call goes on, the lists fit
pub begun_fits : {fits given : Bool} (ready : Bool) {begun : Result ⊤ Refusal} → given ≡ fits → begun ≡ entry_by given ready → begun ≡ Ok tt → fits ≡ true
begun_fits {fits} ready p q e = entry_done fits ready (sym (begun_is ready p q e))

pub pairs_lengths : (gx gy tx ty : List ℤ) → pairs_fit gx gy tx ty ≡ true → (length gy ≡ length gx) × (length ty ≡ length tx)
unfolding pairs_fit
pairs_lengths gx gy tx ty e =
    (pair_length gx gy (and_left (pair_fits gx gy) _ e), pair_length tx ty (and_right (pair_fits gx gy) _ e))

pub outline_lengths : (ox oy cx cy : List ℤ) → outline_fits ox oy cx cy ≡ true → (length oy ≡ length ox) × (length cy ≡ length cx)
unfolding outline_fits
outline_lengths ox oy cx cy e =
    let sameAndOriginals = eqb (length ox) (length cx) && pair_fits ox oy in
    let originals : pair_fits ox oy ≡ true = and_right (eqb (length ox) (length cx)) _ (and_left sameAndOriginals _ e) in
    (pair_length ox oy originals, pair_length cx cy (and_right sameAndOriginals _ e))

pub both_outlines_lengths : (gox goy gx gy tox toy tx ty : List ℤ) → outline_fits gox goy gx gy && outline_fits tox toy tx ty ≡ true → (length goy ≡ length gox) × (length gy ≡ length gx) × (length toy ≡ length tox) × (length ty ≡ length tx)
both_outlines_lengths gox goy gx gy tox toy tx ty e =
    let g = outline_lengths gox goy gx gy (and_left (outline_fits gox goy gx gy) _ e) in
    let t = outline_lengths tox toy tx ty (and_right (outline_fits gox goy gx gy) _ e) in
    (g.0, g.1, t.0, t.1)

pub zones_lengths : (gx gy : List ℤ) (gflags : List ℕ) (tx ty : List ℤ) (tflags : List ℕ) → zones_fit gx gy gflags tx ty tflags ≡ true → (length gy ≡ length gx) × (length gflags ≡ length gx) × (length ty ≡ length tx) × (length tflags ≡ length tx)
unfolding zones_fit
zones_lengths gx gy gflags tx ty tflags e =
    let g : placed_fits gx gy gflags ≡ true = and_left (placed_fits gx gy gflags) _ e in
    let t : placed_fits tx ty tflags ≡ true = and_right (placed_fits gx gy gflags) _ e in
    (pair_length gx gy (placed_pair gx gy gflags g), placed_length gx gy gflags g, pair_length tx ty (placed_pair tx ty tflags t), placed_length tx ty tflags t)

-- ---- how each call goes on
module _ (gx gy tx ty : List ℤ) (s : GraphicsState) (zone : ZonePointer) (at : ℕ) (distance : ℤ) {fits : Bool} {begun h : Result ⊤ Refusal} where
  pub original_begun : fits ≡ pairs_fit gx gy tx ty → begun ≡ entry_by fits (usable_state s) → begun ≡ h → shift_after gx gy tx ty zone (original_move_of s.vectors distance) at h ≡ try_move_original_of gx gy tx ty s zone at distance
  unfolding try_move_original_of
  original_begun p q e = ap (shift_after gx gy tx ty zone (original_move_of s.vectors distance) at) (begun_is (usable_state s) p q e)

module _ (gx gy : List ℤ) (gflags : List ℕ) (tx ty : List ℤ) (tflags : List ℕ) (s : GraphicsState) (at : ℕ) {fits : Bool} {begun h : Result ⊤ Refusal} (p : fits ≡ zones_fit gx gy gflags tx ty tflags) (q : begun ≡ entry_by fits (usable_state s)) (e : begun ≡ h) where
  pub point_begun : (zone : ZonePointer) (distance : ℤ) → move_after gx gy gflags tx ty tflags zone (move_of s.vectors s.facts distance) at h ≡ try_move_point_of gx gy gflags tx ty tflags s zone at distance
  unfolding try_move_point_of
  point_begun zone distance = ap (move_after gx gy gflags tx ty tflags zone (move_of s.vectors s.facts distance) at) (begun_is (usable_state s) p q e)

  pub zp2_begun : (dx dy : ℤ) (touches : Bool) {m : Move} → m ≡ zp2_move_of s.vectors s.facts dx dy touches → zp2_after gx gy gflags tx ty tflags s.pointers.zp2 m at h ≡ try_move_zp2_of gx gy gflags tx ty tflags s at dx dy touches
  unfolding try_move_zp2_of
  zp2_begun dx dy touches d =
      ap (λ (m : Move). zp2_after gx gy gflags tx ty tflags s.pointers.zp2 m at h) d
      ∙ ap (zp2_after gx gy gflags tx ty tflags s.pointers.zp2 (zp2_move_of s.vectors s.facts dx dy touches) at) (begun_is (usable_state s) p q e)

module _ (gx gy : List ℤ) (gflags : List ℕ) (tx ty : List ℤ) (tflags : List ℕ) (zone : ZonePointer) (m : Move) (at : ℕ) where
  pub zp2_idle : is_idle m ≡ true → both_moved (Ok tt) gx gy gflags tx ty tflags ≡ zp2_after gx gy gflags tx ty tflags zone m at (Ok tt)
  zp2_idle e = ap (λ (b : Bool). cond b (both_moved (Ok tt) gx gy gflags tx ty tflags) (apply_in m at gx gy gflags tx ty tflags zone)) (sym e)

  pub zp2_busy : is_idle m ≡ false → apply_in m at gx gy gflags tx ty tflags zone ≡ zp2_after gx gy gflags tx ty tflags zone m at (Ok tt)
  zp2_busy e = ap (λ (b : Bool). cond b (both_moved (Ok tt) gx gy gflags tx ty tflags) (apply_in m at gx gy gflags tx ty tflags zone)) (sym e)

module _ (gox goy gx gy tox toy tx ty : List ℤ) (s : GraphicsState) (opcode : ℕ) {g t : Bool} {begun h : Result ⊤ Refusal} where
  pub displacement_begun : g ≡ outline_fits gox goy gx gy → t ≡ outline_fits tox toy tx ty → begun ≡ entry_by (g && t) (usable_state s) → begun ≡ h → {p : Reference} → p ≡ reference_of s opcode → displaced_after gox goy gx gy tox toy tx ty s p h ≡ try_displacement_of gox goy gx gy tox toy tx ty s opcode
  unfolding try_displacement_of
  displacement_begun fg ft q e r =
      ap (λ (p : Reference). displaced_after gox goy gx gy tox toy tx ty s p h) r
      ∙ ap (displaced_after gox goy gx gy tox toy tx ty s (reference_of s opcode)) (begun_is (usable_state s) (ap₂ (λ (a b : Bool). a && b) fg ft) q e)
