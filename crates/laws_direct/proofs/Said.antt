-- What each direct call says, for every input: document 01, "Direct calls test in the order 2, 3, then 7 or 11, with place and lines 0; rounding by
-- Super45 with period 0 is 3 there too", and document 02, K8: a call that is given contours tests their ends (14) after 2. Each law names a call's tests in
-- their order; the first that fails decides, and 0 says that none does. What a call returns where it is done is the `Ok` of its result. Assumes nothing.
use Rattle.std.specs.Prelude.{⊤, Result, Ok, Err}
use Rattle.answer.specs.declared.Refusal.{Refusal}
use Prim.Native.Nat.{ℕ}
use mathlib.Core.Bool.{Bool, true, false, ◌&&◌, ◌||◌, cond}
use mathlib.Core.List.{List, [], ◌∷◌}
use mathlib.Core.Path.{◌≡◌, refl}
use borrow.Author.Tests.{eqb-true}
use lib.Dec.{eqb, leb, ltb}
use lib.IntN.{ℤ}
use lib.ListN.{length}
use Rattle.answer.specs.Answer.{Said, said_of}
use Rattle.answer.specs.declared.Refusal.TheVariants.{Point, Sizes, State}
use Rattle.contour_ends.specs.Ends.{ends_rise}
use Rattle.flags.specs.declared.Axis.{Axis}
use Rattle.flags.specs.declared.CoordAxis.{CoordAxis}
use Rattle.round.specs.Round.{rounded_of, usable}
use Rattle.round.specs.declared.RoundState.{RoundState}
use Rattle.graphics.specs.State.{usable_state}
use Rattle.graphics.specs.declared.GraphicsState.{GraphicsState}
use Rattle.graphics.specs.declared.Vector.{Vector}
use Rattle.graphics.specs.declared.Vectors.{Vectors}
use Rattle.graphics.specs.declared.ZonePointer.{ZonePointer}
use Rattle.graphics.specs.declared.ZonePointer.TheVariants.{Glyph, Twilight}
use Rattle.graphics.proofs.Laws.{and_left, and_right}
use Rattle.projection.specs.Projection.{deduced_of, dual_project_of, measured_of, project_of}
use Rattle.direct_zone.specs.Direct.{try_fetch_of, try_flip_of, try_set_on_curve_of, try_touch_of, try_touched_of, try_unscaled_of, try_untouch_of}
use Rattle.zone.specs.Sizes.{flags_fit, pair_fits}
use Rattle.zone.specs.Zone.{Marked, fetch_of, marked_at, place_of, set_on_curve_of, touched_of}
use Rattle.moves.specs.Apply.{BothMoved, Moved, Shifted, apply_in, apply_of, shift_in, shift_of}
use Rattle.moves.specs.Displacement.{displaced_at, displaced_from, displaced_in, reference_of}
use Rattle.moves.specs.Move.{is_idle, move_of, original_move_of, zp2_move_of}
use Rattle.moves.specs.declared.Move.{Move}
use Rattle.moves.specs.declared.Reference.{Reference}
use Rattle.direct_moves.specs.Direct.{displaced_after, entry_by, move_after, outline_fits, pairs_fit, shift_after, try_displacement_of, try_move_original_of, try_move_point_of, try_move_zp2_of, zones_fit, zp2_after}
use Rattle.iup.specs.Iup.{Swept, sizes_fit, tried_of}
use Rattle.laws_direct.proofs.Tests.{sizes, ends, state, point, range, says, in_order, of_zone}

-- what is said of what a test chooses
by_test : {A : Type 0} (said : A → Said) (holds : Bool) {yes no : A} {done refused : Said}
    → said yes ≡ done → said no ≡ refused → said (cond holds yes no) ≡ cond holds done refused
by_test said true p q = p
by_test said false p q = q

-- ---- reads of one zone
module _ (xs ys : List ℤ) (at : ℕ) where
  fetched : said_of (fetch_of xs ys at) ≡ in_order (point at (ltb at (length xs)) ∷ [])
  unfolding fetch_of
  fetched = by_test said_of (ltb at (length xs)) refl refl

  pub try_fetch : said_of (try_fetch_of xs ys at) ≡ in_order (sizes (pair_fits xs ys) ∷ point at (ltb at (length xs)) ∷ [])
  try_fetch = by_test said_of (pair_fits xs ys) fetched refl

  pub try_unscaled : said_of (try_unscaled_of xs ys at) ≡ in_order (sizes (pair_fits xs ys) ∷ [])
  try_unscaled = by_test said_of (pair_fits xs ys) refl refl

-- ---- flags of one zone
abbrev said_of_marked : Marked → Said
said_of_marked m = said_of m.call

module _ (flags : List ℕ) (at : ℕ) where
  marked : (f : ℕ → ℕ) → said_of_marked (marked_at f flags at) ≡ in_order (point at (ltb at (length flags)) ∷ [])
  unfolding marked_at
  marked f = by_test said_of_marked (ltb at (length flags)) refl refl

  pub try_flip_on_curve : said_of (try_flip_of flags at).call ≡ in_order (sizes (flags_fit flags) ∷ point at (ltb at (length flags)) ∷ [])
  try_flip_on_curve = by_test said_of_marked (flags_fit flags) (marked _) refl

  module _ (axis : CoordAxis) where
    pub try_touch : said_of (try_touch_of flags at axis).call ≡ in_order (sizes (flags_fit flags) ∷ point at (ltb at (length flags)) ∷ [])
    try_touch = by_test said_of_marked (flags_fit flags) (marked _) refl

    pub try_untouch : said_of (try_untouch_of flags at axis).call ≡ in_order (sizes (flags_fit flags) ∷ point at (ltb at (length flags)) ∷ [])
    try_untouch = by_test said_of_marked (flags_fit flags) (marked _) refl

    touched : said_of (touched_of flags at axis) ≡ in_order (point at (ltb at (length flags)) ∷ [])
    unfolding touched_of
    touched = by_test said_of (ltb at (length flags)) refl refl

    pub try_is_touched : said_of (try_touched_of flags at axis) ≡ in_order (sizes (flags_fit flags) ∷ point at (ltb at (length flags)) ∷ [])
    try_is_touched = by_test said_of (flags_fit flags) touched refl

module _ (flags : List ℕ) (start end : ℕ) (on : Bool) where
  set_on_curve : said_of_marked (set_on_curve_of flags start end on) ≡ in_order (range start (leb start end && leb end (length flags)) ∷ [])
  unfolding set_on_curve_of
  set_on_curve = by_test said_of_marked (leb start end && leb end (length flags)) refl refl

  -- by itself, so that nothing rests on the one above, which an impostor breaks
  pub try_set_on_curve :
      said_of (try_set_on_curve_of flags start end on).call
      ≡ in_order (sizes (flags_fit flags) ∷ range start (leb start end && leb end (length flags)) ∷ [])
  unfolding set_on_curve_of
  try_set_on_curve = by_test said_of_marked (flags_fit flags) (by_test said_of_marked (leb start end && leb end (length flags)) refl refl) refl

-- ---- what takes a state and no list
pub try_round : (s : RoundState) (d : ℤ) → said_of (rounded_of s d) ≡ in_order (state (usable s) ∷ [])
try_round s d = by_test said_of (usable s) refl refl

module _ (s : GraphicsState) where
  pub try_derive : said_of (deduced_of s) ≡ in_order (state (usable_state s) ∷ [])
  try_derive = by_test said_of (usable_state s) refl refl

  measured : (d : ℤ) → said_of (measured_of s d) ≡ in_order (state (usable_state s) ∷ [])
  measured d = by_test said_of (usable_state s) refl refl

  module _ (a b : Vector) where
    pub try_project : said_of (measured_of s (project_of s.vectors a b)) ≡ in_order (state (usable_state s) ∷ [])
    try_project = measured (project_of s.vectors a b)

    pub try_dual_project : said_of (measured_of s (dual_project_of s.vectors a b)) ≡ in_order (state (usable_state s) ∷ [])
    try_dual_project = measured (dual_project_of s.vectors a b)

    -- scaled and unscaled alike
    pub try_dual_project_unscaled : said_of (measured_of s (dual_project_of s.vectors a b)) ≡ in_order (state (usable_state s) ∷ [])
    try_dual_project_unscaled = try_dual_project

-- ---- what takes a state and both zones
-- the tests at entry, and then what is told where both hold
at_entry : (said : Result ⊤ Refusal → Said) (fit usable : Bool) {told : Said} → said (Err Sizes) ≡ says 2 0 → said (Err State) ≡ says 3 0
    → (fit ≡ true → said (Ok tt) ≡ told) → said (entry_by fit usable) ≡ cond fit (cond usable told (says 3 0)) (says 2 0)
at_entry said true true unfit unusable begun = begun refl
at_entry said true false unfit unusable begun = unusable
at_entry said false usable unfit unusable begun = unfit

-- what does nothing looks at no point
unless_idle : {A : Type 0} (said : A → Said) (idle is_there : Bool) (refused : Said) {stays moves : A} {done : Said}
    → said stays ≡ done → said moves ≡ cond is_there done refused → said (cond idle stays moves) ≡ cond (idle || is_there) done refused
unless_idle said true is_there refused p q = p
unless_idle said false is_there refused p q = q

shifted : (m : Move) (at : ℕ) (gx gy tx ty : List ℤ) (zone : ZonePointer)
    → said_of (shift_in m at gx gy tx ty zone).call ≡ in_order (point at (ltb at (length (of_zone zone gx tx))) ∷ [])
unfolding shift_in shift_of
shifted m at gx gy tx ty Glyph = by_test (λ (s : Shifted). said_of s.call) (ltb at (length gx)) refl refl
shifted m at gx gy tx ty Twilight = by_test (λ (s : Shifted). said_of s.call) (ltb at (length tx)) refl refl

pub try_move_original : (gx gy tx ty : List ℤ) (s : GraphicsState) (zone : ZonePointer) (at : ℕ) (distance : ℤ)
    → said_of (try_move_original_of gx gy tx ty s zone at distance).call
    ≡ in_order (sizes (pairs_fit gx gy tx ty) ∷ state (usable_state s) ∷ point at (ltb at (length (of_zone zone gx tx))) ∷ [])
unfolding try_move_original_of
try_move_original gx gy tx ty s zone at distance = let m = original_move_of s.vectors distance in
    at_entry (λ (c : Result ⊤ Refusal). said_of (shift_after gx gy tx ty zone m at c).call) (pairs_fit gx gy tx ty) (usable_state s) refl refl
    (λ fit. shifted m at gx gy tx ty zone)

module _ (gx gy : List ℤ) (gflags : List ℕ) (tx ty : List ℤ) (tflags : List ℕ) (s : GraphicsState) where
  moved : (m : Move) (at : ℕ) (zone : ZonePointer)
      → said_of (apply_in m at gx gy gflags tx ty tflags zone).call ≡ in_order (point at (ltb at (length (of_zone zone gx tx))) ∷ [])
  unfolding apply_in apply_of
  moved m at Glyph = by_test (λ (a : Moved). said_of a.call) (ltb at (length gx)) refl refl
  moved m at Twilight = by_test (λ (a : Moved). said_of a.call) (ltb at (length tx)) refl refl

  pub try_move_point : (zone : ZonePointer) (at : ℕ) (distance : ℤ)
      → said_of (try_move_point_of gx gy gflags tx ty tflags s zone at distance).call
      ≡ in_order (sizes (zones_fit gx gy gflags tx ty tflags) ∷ state (usable_state s) ∷ point at (ltb at (length (of_zone zone gx tx))) ∷ [])
  unfolding try_move_point_of
  try_move_point zone at distance = let m = move_of s.vectors s.facts distance in
      at_entry (λ (c : Result ⊤ Refusal). said_of (move_after gx gy gflags tx ty tflags zone m at c).call) (zones_fit gx gy gflags tx ty tflags) (usable_state s) refl refl
      (λ fit. moved m at zone)

  -- a move that does nothing looks at no point
  pub try_move_zp2_point : (at : ℕ) (dx dy : ℤ) (touches : Bool)
      → said_of (try_move_zp2_of gx gy gflags tx ty tflags s at dx dy touches).call
      ≡ in_order (sizes (zones_fit gx gy gflags tx ty tflags) ∷ state (usable_state s)
      ∷ point at (is_idle (zp2_move_of s.vectors s.facts dx dy touches) || ltb at (length (of_zone s.pointers.zp2 gx tx))) ∷ [])
  unfolding try_move_zp2_of
  try_move_zp2_point at dx dy touches = let m = zp2_move_of s.vectors s.facts dx dy touches in
      at_entry (λ (c : Result ⊤ Refusal). said_of (zp2_after gx gy gflags tx ty tflags s.pointers.zp2 m at c).call) (zones_fit gx gy gflags tx ty tflags) (usable_state s) refl refl
      (λ fit. unless_idle (λ (b : BothMoved). said_of b.call) (is_idle m) (ltb at (length (of_zone s.pointers.zp2 gx tx))) (says 7 at) refl (moved m at s.pointers.zp2))

module _ (v : Vectors) (p : Reference) where
  -- both places are read at one index
  measured_from : (original current : Vector) (is_there : Bool)
      → said_of
      (displaced_from v p (cond is_there (Ok original) (Err (Point p.at))) (cond is_there (Ok current) (Err (Point p.at))))
      ≡ in_order (point p.at is_there ∷ [])
  measured_from original current true = refl
  measured_from original current false = refl

  displaced : (ox oy cx cy : List ℤ) → outline_fits ox oy cx cy ≡ true
      → said_of (displaced_at v p ox oy cx cy) ≡ in_order (point p.at (ltb p.at (length cx)) ∷ [])
  unfolding displaced_at fetch_of outline_fits
  displaced ox oy cx cy fit =
      let same : length ox ≡ length cx = eqb-true _ _ (and_left (eqb (length ox) (length cx)) _ (and_left (eqb (length ox) (length cx) && pair_fits ox oy) _ fit)) in
      rw same (measured_from (place_of ox oy p.at) (place_of cx cy p.at) (ltb p.at (length cx)))

module _ (gox goy gx gy tox toy tx ty : List ℤ) where
  displaced_in_lem : (v : Vectors) (p : Reference) (zone : ZonePointer) → outline_fits gox goy gx gy && outline_fits tox toy tx ty ≡ true
      → said_of (displaced_in v p gox goy gx gy tox toy tx ty zone) ≡ in_order (point p.at (ltb p.at (length (of_zone zone gx tx))) ∷ [])
  unfolding displaced_in
  displaced_in_lem v p Glyph fit = displaced v p gox goy gx gy (and_left (outline_fits gox goy gx gy) _ fit)
  displaced_in_lem v p Twilight fit = displaced v p tox toy tx ty (and_right (outline_fits gox goy gx gy) _ fit)

  pub try_point_displacement : (s : GraphicsState) (opcode : ℕ)
      → said_of (try_displacement_of gox goy gx gy tox toy tx ty s opcode)
      ≡ in_order (sizes (outline_fits gox goy gx gy && outline_fits tox toy tx ty) ∷ state (usable_state s)
      ∷ point (reference_of s opcode).at (ltb (reference_of s opcode).at (length (of_zone (reference_of s opcode).zone gx tx))) ∷ [])
  unfolding try_displacement_of
  try_point_displacement s opcode = let p = reference_of s opcode in
      at_entry (λ (c : Result ⊤ Refusal). said_of (displaced_after gox goy gx gy tox toy tx ty s p c)) (outline_fits gox goy gx gy && outline_fits tox toy tx ty) (usable_state s) refl refl
      (displaced_in_lem s.vectors p p.zone)

-- ---- IUP
module _ (axis : Axis) (flags contours : List ℕ) (unscaled original current : List ℤ) where
  pub try_iup : said_of (tried_of axis flags contours unscaled original current).answer
      ≡ in_order (sizes (sizes_fit (length flags) (length contours) (length unscaled) (length original) (length current))
      ∷ ends (ends_rise (length current) contours) ∷ [])
  unfolding tried_of
  try_iup = let said : Swept → Said = λ w. said_of w.answer in
      by_test said (sizes_fit (length flags) (length contours) (length unscaled) (length original) (length current)) (by_test said (ends_rise (length current) contours) refl refl) refl
