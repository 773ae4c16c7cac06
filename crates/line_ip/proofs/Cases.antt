-- What each definition of IP says by the tests that were made and what the calls ensure, over plain values: the functions' proofs cite these. Assumes nothing.
use Rattle.std.specs.Prelude.{⊤, Result, Ok, Err}
use Prim.Native.Nat.{ℕ}
use mathlib.Core.Bool.{Bool, ◌||◌, false, true}
use mathlib.Core.List.{List}
use mathlib.Core.Path.{◌≡◌, ap, ap₂, refl, sym, ◌∙◌}
use lib.IntN.{ℤ, pos}
use Rattle.answer.specs.declared.Refusal.{Refusal}
use Rattle.graphics.specs.State.{is_twilight}
use Rattle.graphics.specs.declared.Facts.{Facts}
use Rattle.graphics.specs.declared.GraphicsState.{GraphicsState}
use Rattle.graphics.specs.declared.Vector.{Vector}
use Rattle.graphics.specs.declared.Vectors.{Vectors}
use Rattle.graphics.specs.declared.ZonePointer.{ZonePointer}
use Rattle.graphics.specs.declared.ZonePointers.{ZonePointers}
use Rattle.int.specs.Word.{eq_z, sub32}
use Rattle.line.specs.Places.{place_in}
use Rattle.line_steps.specs.Loop.{Ended, Zones, each, ended}
use Rattle.math.specs.Fixed.{mul_div}
use Rattle.moves.specs.Apply.{BothMoved, apply_in}
use Rattle.moves.specs.Move.{move_of}
use Rattle.moves.specs.declared.Move.{Move}
use Rattle.projection.specs.Projection.{dual_project_of, project_of}
use Rattle.zone.specs.Zone.{place_of}
use Rattle.line_ip.specs.Ip.{any_twilight, distance_left, outline_place, stretch_of, stretched}
use Rattle.line_ip.specs.Loop.{interpolate_all, interpolate_at, interpolate_by, interpolate_from, let_pass, place_at, zones_after}
use Rattle.line_ip.specs.declared.Stretch.{Stretch}

-- ---- the original outline
pub any_is : (p : ZonePointers) {a b c : Bool} → a ≡ is_twilight p.zp0 → b ≡ is_twilight p.zp1 → c ≡ is_twilight p.zp2 → a || b || c ≡ any_twilight p
unfolding any_twilight
any_is p e f g = rw (e, f, g) refl

module _ (gux guy gox goy tox toy : List ℤ) (zone : ZonePointer) (at : ℕ) {twilight : Bool} {place : Vector} where
  pub of_original : twilight ≡ true → place ≡ place_in at gox goy tox toy zone → place ≡ outline_place twilight gux guy gox goy tox toy zone at
  unfolding outline_place
  of_original h e = rw h e

  pub of_unscaled : twilight ≡ false → place ≡ place_of gux guy at → place ≡ outline_place twilight gux guy gox goy tox toy zone at
  unfolding outline_place
  of_unscaled h e = rw h e

-- ---- the stretch
pub stretch_is : (v : Vectors) (original farOriginal current farCurrent : Vector) {was is : ℤ} → was ≡ dual_project_of v farOriginal original → is ≡ project_of v farCurrent current
    → record { original = original; current = current; was = was; is = is } ≡ stretch_of v original farOriginal current farCurrent
unfolding stretch_of
stretch_is v original farOriginal current farCurrent e f = ap₂ (λ (was is : ℤ). record { original = original; current = current; was = was; is = is }) e f

-- numbers with a mark being as they are read back
module _ (was is d : ℤ) {was' is' d' : ℤ} (ew : was' ≡ was) (ei : is' ≡ is) (ed : d' ≡ d) {none : Bool} (en : none ≡ eq_z d' (pos 0)) where
  pub none_stretched : none ≡ true → pos 0 ≡ stretched was is d
  unfolding stretched
  none_stretched h = let k : eq_z d (pos 0) ≡ true = ap (λ (z : ℤ). eq_z z (pos 0)) (sym ed) ∙ sym en ∙ h in rw k refl

  module _ {same : Bool} (es : same ≡ eq_z was' (pos 0)) (h : none ≡ false) where
    pub kept_as_was : same ≡ true → d' ≡ stretched was is d
    unfolding stretched
    kept_as_was j =
        let k : eq_z d (pos 0) ≡ false = ap (λ (z : ℤ). eq_z z (pos 0)) (sym ed) ∙ sym en ∙ h in
        let l : eq_z was (pos 0) ≡ true = ap (λ (z : ℤ). eq_z z (pos 0)) (sym ew) ∙ sym es ∙ j in
        rw (k, l) ed

    pub in_ratio : {r : ℤ} → same ≡ false → r ≡ mul_div d' is' was' → r ≡ stretched was is d
    unfolding stretched
    in_ratio j e =
        let k : eq_z d (pos 0) ≡ false = ap (λ (z : ℤ). eq_z z (pos 0)) (sym ed) ∙ sym en ∙ h in
        let l : eq_z was (pos 0) ≡ false = ap (λ (z : ℤ). eq_z z (pos 0)) (sym ew) ∙ sym es ∙ j in
        rw (k, l) (rw (← ew, ← ei, ← ed) e)

pub left_is : (v : Vectors) (t : Stretch) (outline place : Vector) {was is d wanted there r : ℤ} → was ≡ t.was → is ≡ t.is → d ≡ dual_project_of v outline t.original
    → wanted ≡ stretched was is d → there ≡ project_of v place t.current → r ≡ sub32 wanted there → r ≡ distance_left v t outline place
unfolding distance_left
left_is v t outline place ew ei ed e f g = g ∙ rw (e, ew, ei, ed, f) refl

-- ---- a point
pub refused_by : (pedantic : Bool) (why : Refusal) → pedantic ≡ true → Err why ≡ let_pass pedantic why
unfolding let_pass
refused_by pedantic why h = rw h refl

pub let_by : (pedantic : Bool) (why : Refusal) → pedantic ≡ false → (Ok tt) ≡ let_pass pedantic why
unfolding let_pass
let_by pedantic why h = rw h refl

module _ (v : Vectors) (facts : Facts) (zone : ZonePointer) (outline : ℕ → Vector) (t : Stretch) (at : ℕ) (z : Zones) {g : Result Vector Refusal} (e : g ≡ place_at z zone at) where
  by_fetched : {h : Result Vector Refusal} {r : Ended Zones} → g ≡ h → r ≡ interpolate_by v facts zone outline t at z h → r ≡ interpolate_at v facts zone outline t at z
  by_fetched q p = p ∙ ap (interpolate_by v facts zone outline t at z) (sym q ∙ e)

  pub point_passed : {why : Refusal} {call : Result ⊤ Refusal} → g ≡ Err why → call ≡ let_pass facts.pedantic why → ended call z ≡ interpolate_at v facts zone outline t at z
  unfolding interpolate_by
  point_passed q p = by_fetched q (ap (λ (call : Result ⊤ Refusal). ended call z) p)

  pub point_moved : {place lay : Vector} {d : ℤ} {m : Move} {b : BothMoved} → g ≡ Ok place → lay ≡ outline at → d ≡ distance_left v t lay place
      → m ≡ move_of v facts d
      → b ≡ apply_in m at z.glyph.xs z.glyph.ys z.glyph.flags z.twilight.xs z.twilight.ys z.twilight.flags zone
      → zones_after b ≡ interpolate_at v facts zone outline t at z
  unfolding interpolate_by
  point_moved {place = place} q l d m b =
      by_fetched q
      (ap zones_after b
      ∙ ap (λ (n : Move). zones_after (apply_in n at z.glyph.xs z.glyph.ys z.glyph.flags z.twilight.xs z.twilight.ys z.twilight.flags zone))
      (m ∙ ap (move_of v facts) (d ∙ ap (λ (lay : Vector). distance_left v t lay place) l)))

-- ---- the line
module _ (s : GraphicsState) (outline : ZonePointer → ℕ → Vector) (operands : List ℤ) (z : Zones) {g : Result Vector Refusal} (e : g ≡ place_at z s.pointers.zp0 s.references.rp1) where
  pub near_out : {why : Refusal} {call : Result ⊤ Refusal} → g ≡ Err why → call ≡ let_pass s.facts.pedantic why → ended call z ≡ interpolate_all s outline operands z
  unfolding interpolate_from
  near_out q p =
      ap (λ (call : Result ⊤ Refusal). ended call z) p
      ∙ ap (λ (g : Result Vector Refusal). interpolate_from s outline operands z g (place_at z s.pointers.zp1 s.references.rp2)) (sym q ∙ e)

  module _ {current : Vector} (q : g ≡ Ok current) {h : Result Vector Refusal} (f : h ≡ place_at z s.pointers.zp1 s.references.rp2) where
    by_both : {k : Result Vector Refusal} {r : Ended Zones} → h ≡ k → r ≡ interpolate_from s outline operands z (Ok current) k → r ≡ interpolate_all s outline operands z
    by_both o p =
        p ∙ ap (interpolate_from s outline operands z (Ok current)) (sym o ∙ f)
        ∙ ap (λ (g : Result Vector Refusal). interpolate_from s outline operands z g (place_at z s.pointers.zp1 s.references.rp2)) (sym q ∙ e)

    pub far_out : {why : Refusal} {call : Result ⊤ Refusal} → h ≡ Err why → call ≡ let_pass s.facts.pedantic why → ended call z ≡ interpolate_all s outline operands z
    unfolding interpolate_from
    far_out o p = by_both o (ap (λ (call : Result ⊤ Refusal). ended call z) p)

    pub both_there : {farCurrent original farOriginal : Vector} {t : Stretch} {r : Ended Zones} → h ≡ Ok farCurrent
        → original ≡ outline s.pointers.zp0 s.references.rp1 → farOriginal ≡ outline s.pointers.zp1 s.references.rp2
        → t ≡ stretch_of s.vectors original farOriginal current farCurrent
        → r ≡ each (interpolate_at s.vectors s.facts s.pointers.zp2 (outline s.pointers.zp2) t) s.loop_counter operands z → r ≡ interpolate_all s outline operands z
    unfolding interpolate_from
    both_there {farCurrent = farCurrent} o a b c d =
        by_both o
        (d
        ∙ ap (λ (t : Stretch). each (interpolate_at s.vectors s.facts s.pointers.zp2 (outline s.pointers.zp2) t) s.loop_counter operands z)
        (c ∙ ap₂ (λ (original farOriginal : Vector). stretch_of s.vectors original farOriginal current farCurrent) a b))
