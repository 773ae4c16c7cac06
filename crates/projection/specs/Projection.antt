-- What is worked out from the vectors: FreeType 2.13.3, ttinterp.c (Compute_Funcs, Project, Dual_Project, Project_x, Project_y), on words that
-- wrap. FreeType works fdotp out in a C long and docs/src at 32 bits: they agree wherever no component lies outside -16,384..16,384
-- (`fdotp_exact` of proofs/Laws.antt), and every entry refuses the rest. Distances wrap at 32 bits as document 01 says. Assumes nothing.
use Rattle.answer.specs.declared.Refusal.{Refusal}
use Rattle.std.specs.Prelude.{◌^◌, Bool, cond, ℤ, pos, Result, Ok, Err}
use Rattle.std.specs.Int.Signed.{lt_z, shr_z}
use Rattle.int.specs.Word.{add32, sub32, abs32, mul32, eq_z}
use Rattle.math.specs.Fixed.{dot_fix14}
use Rattle.answer.specs.declared.Refusal.TheVariants.{State}
use Rattle.flags.specs.declared.CoordAxis.{CoordAxis}
use Rattle.flags.specs.declared.CoordAxis.TheVariants.{Both, X, Y}
use Rattle.graphics.specs.State.{unit, usable_state}
use Rattle.graphics.specs.declared.Vector.{Vector}
use Rattle.graphics.specs.declared.Vectors.{Vectors}
use Rattle.graphics.specs.declared.GraphicsState.{GraphicsState}
use Rattle.projection.specs.declared.Derived.{Derived}

-- ---- Compute_Funcs
-- the axis that a vector lies on; x first
unfoldable pub axis_of : Vector → CoordAxis
axis_of v = cond (eq_z v.x unit) X (cond (eq_z v.y unit) Y Both)

-- fdotp of the projection vector p and the freedom vector f as it comes, rounded down
unfoldable pub raw_fdotp : Vector → Vector → ℤ
raw_fdotp p f =
    cond (eq_z f.x unit) p.x
    (cond (eq_z f.y unit) p.y
    (shr_z (add32 (mul32 p.x f.x) (mul32 p.y f.y)) (2 ^ 14)))

-- 1 in place of an fdotp that is too small to divide by
unfoldable pub not_small : ℤ → ℤ
not_small raw = cond (lt_z (abs32 raw) (pos 0x400)) unit raw

-- the axis that points move along, by fdotp as it comes
unfoldable pub freedom_axis_by : Vector → ℤ → CoordAxis
freedom_axis_by f raw = cond (eq_z raw unit) (axis_of f) Both

abbrev pub fdotp_of : Vectors → ℤ
fdotp_of v = not_small (raw_fdotp v.projection v.freedom)

abbrev pub freedom_axis_of : Vectors → CoordAxis
freedom_axis_of v = freedom_axis_by v.freedom (raw_fdotp v.projection v.freedom)

abbrev pub derived_of : Vectors → Derived
derived_of v = record { projection_axis = axis_of v.projection; dual_axis = axis_of v.dual; freedom_axis = freedom_axis_of v; fdotp = fdotp_of v }

-- ---- Project, Dual_Project, Project_x, Project_y
abbrev pub along_by : Vector → ℤ → ℤ → CoordAxis → ℤ
along_by v dx dy X = dx
along_by v dx dy Y = dy
along_by v dx dy Both = dot_fix14 dx dy v.x v.y

-- how far a lies from b along v
unfoldable pub along_of : Vector → Vector → Vector → ℤ
along_of v a b = along_by v (sub32 a.x b.x) (sub32 a.y b.y) (axis_of v)

abbrev pub project_of : Vectors → Vector → Vector → ℤ
project_of v a b = along_of v.projection a b

-- scaled and unscaled alike
abbrev pub dual_project_of : Vectors → Vector → Vector → ℤ
dual_project_of v a b = along_of v.dual a b

-- ---- the direct calls: an unusable state is refused before anything is measured
abbrev pub measured_by : Bool → ℤ → Result ℤ Refusal
measured_by usable d = cond usable (Ok d) (Err State)

abbrev pub deduced_by : Bool → Derived → Result Derived Refusal
deduced_by usable d = cond usable (Ok d) (Err State)

abbrev pub measured_of : GraphicsState → ℤ → Result ℤ Refusal
measured_of s d = measured_by (usable_state s) d

abbrev pub deduced_of : GraphicsState → Result Derived Refusal
deduced_of s = deduced_by (usable_state s) (derived_of s.vectors)

-- what they say
