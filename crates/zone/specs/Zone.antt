-- One zone's points and flags: OpenType, "Instructing TrueType Glyphs" (zones, touched and untouched points, on-curve points), and FreeType
-- 2.13.3, ttinterp.c (BOUNDS, FT_CURVE_TAG_TOUCH_X and _Y, Ins_FLIPPT, Ins_FLIPRGON, Ins_FLIPRGOFF), on lists that share one length. The Rust
-- decides what an access outside answers: zone.rs gives an error with the index, and (0, 0) for an unscaled point. The flag byte and the
-- answers' numbers are document 01's. Assumes nothing.
use Rattle.std.specs.Prelude.{ℕ, ◌-◌, Bool, true, false, ◌&&◌, cond, List, ◌++◌, map, ltb, leb, ℤ, pos, length, take, drop, get_or, set, ⊤, Result, Ok, Err}
use Rattle.std.specs.Int.Bits.{bit_or, bit_xor}
use Rattle.answer.specs.declared.Refusal.{Refusal}
use Rattle.answer.specs.declared.Refusal.TheVariants.{Point, Range}
use Rattle.graphics.specs.declared.Vector.{Vector}
use Rattle.flags.specs.Flag.{has_any, cleared, touch_bits}
use Rattle.flags.specs.declared.CoordAxis.{CoordAxis}

-- ---- reads
-- a point's place; (0, 0) outside
abbrev pub place_of : List ℤ → List ℤ → ℕ → Vector
place_of xs ys at = record { x = get_or xs at (pos 0); y = get_or ys at (pos 0) }

unfoldable pub fetch_of : List ℤ → List ℤ → ℕ → Result Vector Refusal
fetch_of xs ys at = cond (ltb at (length xs)) (Ok (place_of xs ys at)) (Err (Point at))

-- ---- flags
-- what a call over the flags leaves: what it says, and the flags
pub record Marked : Type 0 where
  pub call : Result ⊤ Refusal
  pub flags : List ℕ

abbrev pub marked : Result ⊤ Refusal → List ℕ → Marked
marked call flags = record { call = call; flags = flags }

-- one flag put through f; outside none
abbrev pub change_at : (ℕ → ℕ) → List ℕ → ℕ → List ℕ
change_at f flags at = set flags at (f (get_or flags at 0))

-- the same, refused outside
unfoldable pub marked_at : (ℕ → ℕ) → List ℕ → ℕ → Marked
marked_at f flags at = cond (ltb at (length flags)) (marked (Ok tt) (change_at f flags at)) (marked (Err (Point at)) flags)

-- bits of one flag set
abbrev pub or_at : List ℕ → ℕ → ℕ → List ℕ
or_at flags at mask = change_at (λ (flag : ℕ). bit_or flag mask) flags at

abbrev pub touch_of : List ℕ → ℕ → CoordAxis → Marked
touch_of flags at axis = marked_at (λ (flag : ℕ). bit_or flag (touch_bits axis)) flags at

abbrev pub untouch_of : List ℕ → ℕ → CoordAxis → Marked
untouch_of flags at axis = marked_at (λ (flag : ℕ). cleared flag (touch_bits axis)) flags at

abbrev pub flip_of : List ℕ → ℕ → Marked
flip_of flags at = marked_at (λ (flag : ℕ). bit_xor flag 1) flags at

unfoldable pub touched_of : List ℕ → ℕ → CoordAxis → Result Bool Refusal
touched_of flags at axis = cond (ltb at (length flags)) (Ok (has_any (get_or flags at 0) (touch_bits axis))) (Err (Point at))

-- ---- a range
abbrev pub on_curve : Bool → ℕ → ℕ
on_curve true flag = bit_or flag 1
on_curve false flag = cleared flag 1

-- the list with the part from a up to e put through f
unfoldable pub over_part : {A : Type 0} → (List A → List A) → ℕ → ℕ → List A → List A
over_part f a e l = take a l ++ (f (take (e - a) (drop a l)) ++ drop e l)

unfoldable pub set_on_curve_of : List ℕ → ℕ → ℕ → Bool → Marked
set_on_curve_of flags start end on =
    cond (leb start end && leb end (length flags))
    (marked (Ok tt) (over_part (map (on_curve on)) start end flags))
    (marked (Err (Range start)) flags)

-- ---- what a direct call says
