-- IP[] (0x39): brings each point of zp2 to where it lay between rp1 of zp0 and rp2 of zp1 in the original outline. Pops as many points as the loop
-- counter says, which is 1 afterwards. OpenType's IP, and FreeType 2.13.3, ttinterp.c (Ins_IP), on words that wrap. Refusals, the counter being 1
-- already: rp1, then rp2, then at each point a missing operand, the point; points and references only where the state is pedantic. Where it isn't, a
-- reference outside ends the line and takes no operand, as the Rust decides, which looks at both; Ins_IP goes on without rp2, and counts the operands
-- first. A point outside is passed over by both. Assumes nothing.
use Rattle.std.specs.Prelude.{ℕ, Bool, ◌||◌, cond, List, ℤ, pos}
use Rattle.graphics.specs.State.{is_twilight, with_loop_counter}
use Rattle.graphics.specs.declared.Vector.{Vector}
use Rattle.graphics.specs.declared.Vectors.{Vectors}
use Rattle.graphics.specs.declared.ZonePointer.{ZonePointer}
use Rattle.graphics.specs.declared.ZonePointers.{ZonePointers}
use Rattle.int.specs.Word.{eq_z, index_of, sub32}
use Rattle.line.specs.Places.{place_in}
use Rattle.line.specs.World.{Fixed, Lined, World}
use Rattle.line_steps.specs.Steps.{done_in, each_in, in_state, move_in, passed_over, point_or}
use Rattle.math.specs.Fixed.{mul_div}
use Rattle.projection.specs.Projection.{dual_project_of, project_of}
use Rattle.zone.specs.Zone.{place_of}
use Rattle.line_ip.specs.declared.Stretch.{Stretch}

-- ---- where a point lay in the original outline
-- twilight has no unscaled points
unfoldable pub any_twilight : ZonePointers → Bool
any_twilight p = is_twilight p.zp0 || is_twilight p.zp1 || is_twilight p.zp2

-- unscaled where no pointer is at twilight: only the ratio of two distances counts, so nothing is scaled
unfoldable pub outline_place : Bool → List ℤ → List ℤ → List ℤ → List ℤ → List ℤ → List ℤ → ZonePointer → ℕ → Vector
outline_place twilight gux guy gox goy tox toy zone at = cond twilight (place_in at gox goy tox toy zone) (place_of gux guy at)

-- in what a run holds
abbrev pub outline_in : Fixed → World → ZonePointer → ℕ → Vector
outline_in f w = outline_place (any_twilight w.state.pointers) f.gux f.guy f.gox f.goy w.tox w.toy

-- ---- the stretch from rp1 to rp2
-- where rp1 lay and where it is, and how far rp2 lay and lies from it: as it was along the dual vector, as it is along the projection vector
unfoldable pub stretch_of : Vectors → Vector → Vector → Vector → Vector → Stretch
stretch_of v original farOriginal current farCurrent =
    record { original = original; current = current; was = dual_project_of v farOriginal original; is = project_of v farCurrent current }

-- a distance of the original outline in the ratio of the two; as it was where rp1 and rp2 lay in one place
unfoldable pub stretched : ℤ → ℤ → ℤ → ℤ
stretched was is d = cond (eq_z d (pos 0)) (pos 0) (cond (eq_z was (pos 0)) d (mul_div d is was))

-- from the distance to rp1 that there is to the one that is wanted
unfoldable pub distance_left : Vectors → Stretch → Vector → Vector → ℤ
distance_left v t outline place = sub32 (stretched t.was t.is (dual_project_of v outline t.original)) (project_of v place t.current)

-- ---- the line
-- one point, by where the points of zp2 lay
unfoldable pub interpolate : (ℕ → Vector) → Stretch → ℤ → World → Lined
interpolate outline t point w =
    let s = w.state in
    let zone = s.pointers.zp2 in
    let at = index_of point in
    point_or zone at w (passed_over w) λ place.
    move_in zone (distance_left s.vectors t (outline at) place) at w done_in

-- the stretch is measured once, before the first point is moved, which may be rp1 or rp2
unfoldable pub ip_of : Fixed → ℕ → List ℤ → World → Lined
ip_of f opcode operands w =
    let s = w.state in
    let zp0 = s.pointers.zp0 in
    let zp1 = s.pointers.zp1 in
    let rp1 = s.references.rp1 in
    let rp2 = s.references.rp2 in
    let outline = outline_in f w in
    let once = in_state w (with_loop_counter s 1) in
    point_or zp0 rp1 once (passed_over once) λ current.
    point_or zp1 rp2 once (passed_over once) λ farCurrent.
    let t = stretch_of s.vectors (outline zp0 rp1) (outline zp1 rp2) current farCurrent in
    each_in (interpolate (outline s.pointers.zp2) t) s.loop_counter operands once
