-- GC[original] (0x46, 0x47) and MD[fitted] (0x49, 0x4A), which push what they measure: OpenType's GC and MD, and FreeType 2.13.3, ttinterp.c (Ins_GC, Ins_MD). GC pops a point of zp2
-- and pushes how far it lies from the origin, now or in the original outline; MD pops a point of zp1, then one of zp0, and pushes how far the second lies from the
-- first, where the opcode is odd now, else in the original outline. Refusals: a missing operand; then a point outside where the state is pedantic, and else 0 is
-- pushed; MD looks at zp0's point first. The Rust decides that a pedantic MD between two points of the original glyph refuses none: one outside is (0, 0), where
-- FreeType refuses it. Assumes nothing.
use Rattle.std.specs.Prelude.{ℕ, ◌&&◌, ◌||◌, cond, List, ltb, ℤ, pos, length}
use Rattle.answer.specs.declared.Refusal.{Refusal}
use Rattle.graphics.specs.State.{is_twilight, with_push}
use Rattle.graphics.specs.declared.Vector.{Vector}
use Rattle.graphics.specs.declared.ZonePointer.{ZonePointer}
use Rattle.int.specs.Word.{index_of}
use Rattle.projection.specs.Projection.{dual_project_of, project_of}
use Rattle.line.specs.Operands.{is_odd}
use Rattle.line.specs.Places.{fetch_in}
use Rattle.line.specs.World.{Fixed, Lined, World}
use Rattle.line_distance.specs.Outline.{outline_in}
use Rattle.line_steps.specs.Numbers.{from_origin, origin}
use Rattle.line_steps.specs.Steps.{by_fetched, done_in, in_state, one, point_or, refused_in, two}

-- ---- a value pushed
abbrev pub pushes : ℤ → World → Lined
pushes value w = done_in (in_state w (with_push value w.state))

-- refused if pedantic, else 0 is pushed
unfoldable pub zero_or : World → Refusal → Lined
zero_or w why = cond w.state.facts.pedantic (refused_in w why) (pushes (pos 0) w)

-- ---- a point of the original outline, or what the line does without
unfoldable pub original_or : Fixed → ZonePointer → ℕ → World → (Refusal → Lined) → (Vector → Lined) → Lined
original_or f zone at w out rest = by_fetched out rest (fetch_in at f.gox f.goy w.tox w.toy zone)

-- ---- GC
unfoldable pub gc_of : Fixed → ℕ → List ℤ → World → Lined
gc_of f opcode operands w =
    one operands w λ point.
    let zone = w.state.pointers.zp2 in
    let at = index_of point in
    cond (is_odd opcode)
    (original_or f zone at w (zero_or w) λ place. pushes (dual_project_of w.state.vectors place origin) w)
    (point_or zone at w (zero_or w) λ place. pushes (from_origin w.state.vectors place) w)

-- ---- MD
-- in the original outline: between two points of the glyph none is refused
unfoldable pub md_original : Fixed → ℕ → ℕ → World → Lined
md_original f a b w =
    let p = w.state.pointers.zp0 in
    let q = w.state.pointers.zp1 in
    let measured = pushes (outline_in f w p a q b) w in
    cond (is_twilight p || is_twilight q)
    (original_or f p a w (zero_or w) λ _. original_or f q b w (zero_or w) λ _. measured)
    (cond (w.state.facts.pedantic || (ltb a (length f.gux) && ltb b (length f.gux))) measured (pushes (pos 0) w))

unfoldable pub md_of : Fixed → ℕ → List ℤ → World → Lined
md_of f opcode operands w =
    two operands w λ from to.
    let s = w.state in
    let a = index_of to in
    let b = index_of from in
    cond (is_odd opcode)
    (point_or s.pointers.zp0 a w (zero_or w) λ here.
    point_or s.pointers.zp1 b w (zero_or w) λ there.
    pushes (project_of s.vectors here there) w)
    (md_original f a b w)
