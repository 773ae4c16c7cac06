-- How far the reference point was moved, along the freedom vector: FreeType 2.13.3, ttinterp.c (Compute_Point_Displacement), on words that
-- wrap. The Rust decides what a reference point outside its zone answers: FreeType gives up without an error where it is not pedantic,
-- zone.rs always refuses. Assumes nothing.
use Rattle.answer.specs.declared.Refusal.{Refusal}
use Rattle.std.specs.Prelude.{ℕ, Bool, true, false, cond, List, eqb, ℤ, Result, Ok, Err}
use Rattle.std.specs.Int.Bits.{bit_and}
use Rattle.math.specs.Fixed.{mul_div}
use Rattle.graphics.specs.declared.Vector.{Vector}
use Rattle.graphics.specs.declared.Vectors.{Vectors}
use Rattle.graphics.specs.declared.ZonePointer.{ZonePointer}
use Rattle.graphics.specs.declared.ZonePointer.TheVariants.{Twilight, Glyph}
use Rattle.graphics.specs.declared.GraphicsState.{GraphicsState}
use Rattle.projection.specs.Projection.{fdotp_of, project_of}
use Rattle.zone.specs.Zone.{fetch_of}
use Rattle.moves.specs.declared.Reference.{Reference}
use Rattle.moves.specs.declared.Displacement.{Displacement}

-- an odd opcode: rp1 in zp0; an even one: rp2 in zp1
unfoldable pub reference_of : GraphicsState → ℕ → Reference
reference_of s opcode =
    cond (eqb (bit_and opcode 1) 0)
    (record { zone = s.pointers.zp1; at = s.references.rp2 })
    (record { zone = s.pointers.zp0; at = s.references.rp1 })

-- the distance from original to current, scaled by fdotp to each component
abbrev pub scaled_to : Vectors → ℤ → Vector
scaled_to v d = record { x = mul_div d v.freedom.x (fdotp_of v); y = mul_div d v.freedom.y (fdotp_of v) }

unfoldable pub displacement_of : Vectors → Vector → Vector → Vector
displacement_of v current original = scaled_to v (project_of v current original)

abbrev pub displacement : Reference → Vector → Displacement
displacement p d = record { zone = p.zone; at = p.at; dx = d.x; dy = d.y }

-- the current place is read first, then the original one
abbrev pub displaced_by : Vectors → Reference → Vector → Result Vector Refusal → Result Displacement Refusal
displaced_by v p current (Ok original) = Ok (displacement p (displacement_of v current original))
displaced_by v p current (Err why) = Err why

abbrev pub displaced_from : Vectors → Reference → Result Vector Refusal → Result Vector Refusal → Result Displacement Refusal
displaced_from v p original (Ok current) = displaced_by v p current original
displaced_from v p original (Err why) = Err why

unfoldable pub displaced_at : Vectors → Reference → List ℤ → List ℤ → List ℤ → List ℤ → Result Displacement Refusal
displaced_at v p ox oy cx cy = displaced_from v p (fetch_of ox oy p.at) (fetch_of cx cy p.at)

-- in the zone that the reference names
unfoldable pub displaced_in : Vectors → Reference → List ℤ → List ℤ → List ℤ → List ℤ → List ℤ → List ℤ → List ℤ → List ℤ → ZonePointer → Result Displacement Refusal
displaced_in v p gox goy gx gy tox toy tx ty Glyph = displaced_at v p gox goy gx gy
displaced_in v p gox goy gx gy tox toy tx ty Twilight = displaced_at v p tox toy tx ty
