-- The lines that turn a vector, in each of their cases, over plain values and a plain world. Assumes nothing.
use Rattle.std.specs.Prelude.{Result, Ok, Err}
use Prim.Native.Nat.{ℕ, ◌≤◌, ◌<◌}
use mathlib.Core.Bool.{Bool, true, false, true≢false, ◌&&◌, ◌||◌}
use mathlib.Core.List.{List, [], ◌∷◌}
use mathlib.Core.Path.{◌≡◌, refl, sym, ◌∙◌}
use native.Mathlib.Omega.{arith}
use borrow.Author.Tests.{eq-eqb, le-ltb, leb-false, lt-leb, lt-ltb, ne_eqb}
use lib.Dec.{leb, ltb}
use lib.IntN.{ℤ, pos}
use lib.ListN.{get_or, length}
use Rattle.answer.specs.declared.Refusal.TheVariants.{Missing}
use Rattle.answer.specs.declared.Refusal.{Refusal}
use Rattle.graphics.specs.State.{measured_along, moved_along, with_vectors, x_axis}
use Rattle.graphics.specs.declared.GraphicsState.{GraphicsState}
use Rattle.graphics.specs.declared.Vector.{Vector}
use Rattle.graphics.specs.declared.ZonePointer.{ZonePointer}
use Rattle.int.specs.Word.{eq_z, neg32, sub32}
use Rattle.line.specs.Line.{done_with, refused_with}
use Rattle.line.specs.Operands.{index_at, is_odd}
use Rattle.line.specs.Places.{fetch_in}
use Rattle.line.specs.World.{Fixed, World}
use Rattle.line.specs.declared.Stepped.{Stepped}
use Rattle.line_measure.specs.Measure.{original_or}
use Rattle.line_steps.specs.Steps.{by_fetched, done_in, in_state, into, point_or, refused_in, two}
use Rattle.normalize.specs.Unit.{unit_of}
use Rattle.line_vectors.specs.Steps.{dual_by, is_along, line_by, line_found, settled_by}
use Rattle.line_vectors.specs.Vectors.{along_at, dual_at, followed, from_stack, line_vector, short, stack_at, to_dual_line_of, to_line_of, turn_of, vector_by, vector_of}

-- ---- the vector of two places; a primed value is what is read back
module _ (p q : Vector) {px qx py qy a a' b b' : ℤ} {m n : Bool} (epx : px ≡ p.x) (eqx : qx ≡ q.x) (epy : py ≡ p.y) (eqy : qy ≡ q.y) (ea' : a' ≡ a) (ea : a ≡ sub32 px qx) (eb' : b' ≡ b) (eb : b ≡ sub32 py qy) (em : m ≡ eq_z a' (pos 0)) (en : n ≡ eq_z b' (pos 0)) where
  same : (m && n) ≡ (eq_z (sub32 p.x q.x) (pos 0) && eq_z (sub32 p.y q.y) (pos 0))
  same = rw (em, en, ea', ea, eb', eb, epx, eqx, epy, eqy) refl

  pub one_place : (across : Bool) {r : Vector} → (m && n) ≡ true → r ≡ x_axis → r ≡ line_vector across p q
  unfolding line_vector
  one_place across e er = let t = sym same ∙ e in rw (t, er) refl

  pub across_it : {across : Bool} {c c' : ℤ} {r : Vector} → (m && n) ≡ false → across ≡ true → c' ≡ c → c ≡ neg32 b' → r ≡ unit_of c' a' → r ≡ line_vector across p q
  unfolding line_vector
  across_it e d ec' ec er = let t = sym same ∙ e in rw (t, d, er, ec', ec, ea', ea, eb', eb, epx, eqx, epy, eqy) refl

  pub along_it : {across : Bool} {r : Vector} → (m && n) ≡ false → across ≡ false → r ≡ unit_of a' b' → r ≡ line_vector across p q
  unfolding line_vector
  along_it e d er = let t = sym same ∙ e in rw (t, d, er, ea', ea, eb', eb, epx, eqx, epy, eqy) refl

-- ---- two places, the first first
module _ (across : Bool) {first : Result Vector Refusal} where
  pub first_out : (second : Result Vector Refusal) {why : Refusal} → first ≡ Err why → Err why ≡ line_by across first second
  unfolding line_by
  first_out second e = rw e refl

  pub second_out : {second : Result Vector Refusal} {p : Vector} {why : Refusal} → first ≡ Ok p → second ≡ Err why → Err why ≡ line_by across first second
  unfolding line_by
  second_out e d = rw (e, d) refl

  pub both_there : {second : Result Vector Refusal} {p q r : Vector} → first ≡ Ok p → second ≡ Ok q → r ≡ line_vector across p q → Ok r ≡ line_by across first second
  unfolding line_by
  both_there e d er = rw (e, d, er) refl

module _ (s : GraphicsState) (op : ℕ) {found : Result Vector Refusal} {r : Stepped} where
  pub found_out : {why : Refusal} → found ≡ Err why → r ≡ refused_with s why → r ≡ settled_by s op found
  unfolding settled_by
  found_out e er = rw (e, er) refl

  pub found_there : {v : Vector} {t : GraphicsState} → found ≡ Ok v → t ≡ along_at s op v → r ≡ done_with t → r ≡ settled_by s op found
  unfolding settled_by
  found_there e et er = rw (e, er, et) refl

module _ (s : GraphicsState) {old : Result Vector Refusal} {r : Stepped} where
  pub old_out : (now : Result Vector Refusal) {why : Refusal} → old ≡ Err why → r ≡ refused_with s why → r ≡ dual_by s old now
  unfolding dual_by
  old_out now e er = rw (e, er) refl

  pub now_out : {now : Result Vector Refusal} {dual : Vector} {why : Refusal} → old ≡ Ok dual → now ≡ Err why → r ≡ refused_with s why → r ≡ dual_by s old now
  unfolding dual_by
  now_out e d er = rw (e, d, er) refl

  pub dual_there : {now : Result Vector Refusal} {dual v : Vector} {t : GraphicsState} → old ≡ Ok dual → now ≡ Ok v → t ≡ dual_at s dual v → r ≡ done_with t → r ≡ dual_by s old now
  unfolding dual_by
  dual_there e d et er = rw (e, d, er, et) refl

-- ---- from the stack
module _ (kept : Vector) {x x' y y' : ℤ} {m n : Bool} (ex : x' ≡ x) (ey : y' ≡ y) (em : m ≡ eq_z x' (pos 0)) (en : n ≡ eq_z y' (pos 0)) where
  tested : (m && n) ≡ (eq_z x (pos 0) && eq_z y (pos 0))
  tested = rw (em, en, ex, ey) refl

  pub kept_so : (m && n) ≡ true → kept ≡ from_stack kept x y
  unfolding from_stack
  kept_so e = let t = sym tested ∙ e in rw t refl

  pub turned_so : {r : Vector} → (m && n) ≡ false → r ≡ unit_of x' y' → r ≡ from_stack kept x y
  unfolding from_stack
  turned_so e er = let t = sym tested ∙ e in rw (t, er, ex, ey) refl

-- SPVFS, SFVFS and SFVTPV; a primed value is what is read back
module _ (s : GraphicsState) (op : ℕ) {r : Stepped} where
  pub follows : (operands : List ℤ) {t : GraphicsState} → op ≡ 0x0E → t ≡ followed s → r ≡ done_with t → r ≡ vector_by s op operands
  unfolding vector_by
  follows operands e et er = rw (eq-eqb op 0x0E e, er, et) refl

  module _ (n : op ≡ 0x0E → ⊥) where
    pub too_few : (operands : List ℤ) → length operands < 2 → r ≡ refused_with s Missing → r ≡ vector_by s op operands
    unfolding vector_by
    too_few [] h er = rw (ne_eqb op 0x0E n) er
    too_few (a ∷ []) h er = rw (ne_eqb op 0x0E n) er
    too_few (a ∷ b ∷ more) h er = absurd (omega arith)

    by_numbers : (operands : List ℤ) → 2 ≤ length operands → r ≡ done_with (stack_at s op (short (get_or operands 1 (pos 0))) (short (get_or operands 0 (pos 0)))) → r ≡ vector_by s op operands
    unfolding vector_by
    by_numbers [] h er = absurd (omega arith)
    by_numbers (a ∷ []) h er = absurd (omega arith)
    by_numbers (a ∷ b ∷ more) h er = rw (ne_eqb op 0x0E n) er

    module _ (operands : List ℤ) (h : 2 ≤ length operands) {x x' y y' : ℤ} (ex' : x' ≡ x) (ex : x ≡ short (get_or operands 1 (pos 0))) (ey' : y' ≡ y) (ey : y ≡ short (get_or operands 0 (pos 0))) {v : Vector} {t : GraphicsState} where
      pub sets_projection : op ≡ 0x0A → v ≡ from_stack s.vectors.projection x' y' → t ≡ with_vectors s (measured_along s.vectors v) → r ≡ done_with t → r ≡ vector_by s op operands
      unfolding stack_at
      sets_projection e ev et er = by_numbers operands h (rw (eq-eqb op 0x0A e, er, et, ev, ex', ey', ex, ey) refl)

      pub sets_freedom : (op ≡ 0x0A → ⊥) → v ≡ from_stack s.vectors.freedom x' y' → t ≡ with_vectors s (moved_along s.vectors v) → r ≡ done_with t → r ≡ vector_by s op operands
      unfolding stack_at
      sets_freedom e ev et er = by_numbers operands h (rw (ne_eqb op 0x0A e, er, et, ev, ex', ey', ex, ey) refl)

-- ---- the vector that a line finds
module _ (across : Bool) (operands : List ℤ) (zp1 zp2 : ZonePointer) (gx gy tx ty : List ℤ) where
  pub line_short : length operands < 2 → Err Missing ≡ line_found across operands zp1 zp2 gx gy tx ty
  unfolding line_found
  line_short h = rw (lt-ltb (length operands) 2 h) refl

  pub line_there :
      {second first : ℕ} {p q r : Result Vector Refusal} → 2 ≤ length operands → second ≡ index_at operands 0 → first ≡ index_at operands 1 → p ≡ fetch_in first gx gy tx ty zp1 →
      q ≡ fetch_in second gx gy tx ty zp2 → r ≡ line_by across p q → r ≡ line_found across operands zp1 zp2 gx gy tx ty
  unfolding line_found
  line_there h i j ep eq er = rw (le-ltb (length operands) 2 h, er, ep, eq, i, j) refl

-- ---- the lines
along_is :
    (across : Bool) (op : ℕ) (w : World) (g h : Result Vector Refusal) → into w (settled_by w.state op (line_by across g h))
    ≡ by_fetched (refused_in w) (λ (p : Vector). by_fetched (refused_in w) (λ (q : Vector). done_in (in_state w (along_at w.state op (line_vector across p q)))) h) g
unfolding settled_by line_by
along_is across op w (Err why) h = refl
along_is across op w (Ok p) (Err why) = refl
along_is across op w (Ok p) (Ok q) = refl

dual_is :
    (across : Bool) (w : World) (i j g h : Result Vector Refusal) → into w (dual_by w.state (line_by across i j) (line_by across g h))
    ≡ by_fetched (refused_in w) (λ (k : Vector). by_fetched (refused_in w) (λ (l : Vector). by_fetched (refused_in w) (λ (p : Vector). by_fetched (refused_in w) (λ (q : Vector). done_in (in_state w (dual_at w.state (line_vector across k l) (line_vector across p q)))) h) g) j) i
unfolding dual_by line_by
dual_is across w (Err why) j g h = refl
dual_is across w (Ok k) (Err why) g h = refl
dual_is across w (Ok k) (Ok l) (Err why) h = refl
dual_is across w (Ok k) (Ok l) (Ok p) (Err why) = refl
dual_is across w (Ok k) (Ok l) (Ok p) (Ok q) = refl

two_or_more : (a b : ℤ) (more : List ℤ) → ltb (length (a ∷ b ∷ more)) 2 ≡ false
two_or_more a b more = le-ltb (length (a ∷ b ∷ more)) 2 (omega arith)

-- what a line finds among the points where they are now, and among the original ones
abbrev now_in : ℕ → List ℤ → World → Result Vector Refusal
now_in op operands w = line_found (is_odd op) operands w.state.pointers.zp1 w.state.pointers.zp2 w.gx w.gy w.tx w.ty

abbrev old_in : Fixed → ℕ → List ℤ → World → Result Vector Refusal
old_in f op operands w = line_found (is_odd op) operands w.state.pointers.zp1 w.state.pointers.zp2 f.gox f.goy w.tox w.toy

module _ (f : Fixed) (op : ℕ) (w : World) where
  -- SPVTL, SFVTL
  is_line : (operands : List ℤ) → into w (settled_by w.state op (now_in op operands w)) ≡ to_line_of f op operands w
  unfolding to_line_of two point_or line_found settled_by
  is_line [] = refl
  is_line (a ∷ []) = refl
  is_line (a ∷ b ∷ more) = rw (two_or_more a b more) (along_is (is_odd op) op w _ _)

  -- SDPVTL
  is_dual : (operands : List ℤ) → into w (dual_by w.state (old_in f op operands w) (now_in op operands w)) ≡ to_dual_line_of f op operands w
  unfolding to_dual_line_of two point_or original_or line_found dual_by
  is_dual [] = refl
  is_dual (a ∷ []) = refl
  is_dual (a ∷ b ∷ more) = rw (two_or_more a b more) (dual_is (is_odd op) w _ _ _ _)

or_left : (a b : Bool) → (a || b) ≡ false → a ≡ false
or_left true b e = e
or_left false b e = refl

or_right : (a b : Bool) → (a || b) ≡ false → b ≡ false
or_right true b e = absurd (true≢false e)
or_right false b e = e

or_first : (a b : Bool) → (a || b) ≡ true → b ≡ false → a ≡ true
or_first true b e d = refl
or_first false b e d = sym d ∙ e

module _ (f : Fixed) (op : ℕ) (operands : List ℤ) (w : World) where
  pub turned_none : {r : Stepped} → is_along op ≡ false → r ≡ vector_by w.state op operands → into w r ≡ turn_of f op operands w
  unfolding turn_of vector_of
  turned_none a er = rw (er, lt-ltb op 0x86 (leb-false 0x86 op (or_right (ltb op 0x0A) (leb 0x86 op) a)), or_left (ltb op 0x0A) (leb 0x86 op) a) refl

  module _ {across : Bool} {zp1 zp2 : ZonePointer} {now : Result Vector Refusal} (a : is_along op ≡ true) (ea : across ≡ is_odd op) (e1 : zp1 ≡ w.state.pointers.zp1) (e2 : zp2 ≡ w.state.pointers.zp2) (en : now ≡ line_found across operands zp1 zp2 w.gx w.gy w.tx w.ty) where
    found_now : now ≡ now_in op operands w
    found_now = rw (en, ea, e1, e2) refl

    pub turned_one : {r : Stepped} → op < 0x86 → r ≡ settled_by w.state op now → into w r ≡ turn_of f op operands w
    unfolding turn_of
    turned_one k er = rw (er, found_now, lt-ltb op 0x86 k, or_first (ltb op 0x0A) (leb 0x86 op) a (lt-leb 0x86 op k)) (is_line f op w operands)

    pub turned_both :
        {old : Result Vector Refusal} {r : Stepped} → 0x86 ≤ op → old ≡ line_found across operands zp1 zp2 f.gox f.goy w.tox w.toy → r ≡ dual_by w.state old now →
        into w r ≡ turn_of f op operands w
    unfolding turn_of
    turned_both h eo er = rw (er, found_now, eo, ea, e1, e2, le-ltb op 0x86 h) (is_dual f op w operands)
