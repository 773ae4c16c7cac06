-- What the definitions of IUP leave alone: the number of coordinates, every touched point, every point outside the contours; and a contour's
-- result is its own points' alone. Each goes contour by contour; that the ends rise is asked by what lies outside alone. Assumes nothing.
use mathlib.Core.Path.{◌≡◌, refl, sym, ap, ◌∙◌}
use mathlib.Core.Bool.{Bool, true, false}
use mathlib.Core.List.{List, [], ◌∷◌, ◌++◌, map}
use Prim.Native.Nat.{ℕ, zero, suc, ◌+◌, ◌-◌, ◌≤◌, ◌<◌}
use native.Mathlib.Omega.{arith}
use native.Mathlib.Numerals.{add-one}
use lib.IntN.{ℤ, pos}
use lib.ListN.{length, take, drop, get_or, length-drop, take-append-drop}
use lib.Seq.{take_at, drop_at, length-take-le, drop-drop}
use Rattle.contour_ends.proofs.Rising.{in_order}
use Rattle.contour_ends.specs.Ends.{rising_from}
use Rattle.iup.proofs.Fill.{get_d_map}
use Rattle.iup.proofs.Points.{Shown, shown, map_drop}
use Rattle.iup.specs.Contour.{Point, offset, between, touched_places, head_or, last_of, spread, shifted_by, current_of, by_touched, contour_of, points_of}
use Rattle.iup.specs.Iup.{walk_of, reached, iup_of}
use Rattle.iup.specs.declared.Place.{Place}
use Rattle.flags.specs.Axis.{touch_bit}
use Rattle.flags.specs.Flag.{has_any}
use Rattle.flags.specs.declared.Axis.{Axis}

-- as many coordinates as points, and each touched point's is its own
pub data Keeps : List Point → List ℤ → Type 0 where
  none : Keeps [] []
  also : {p : Point} {ps : List Point} {x : ℤ} {l : List ℤ} → (p.touched ≡ true → x ≡ p.place.current) → Keeps ps l → Keeps (p ∷ ps) (x ∷ l)

pub keeps_length : {ps : List Point} {l : List ℤ} → Keeps ps l → length l ≡ length ps
keeps_length none = refl
keeps_length (also f k) = ap suc (keeps_length k)

pub keeps_at : {ps : List Point} {l : List ℤ} → Keeps ps l → (i : ℕ) (d : Point) → i < length ps → (get_or ps i d).touched ≡ true → get_or l i (pos 0) ≡ (get_or ps i d).place.current
keeps_at none i d h t = absurd (omega arith)
keeps_at (also f k) zero d h t = f t
keeps_at (also f k) (suc i) d h t = keeps_at k i d (omega arith) t

keeps_append : {ps qs : List Point} {l m : List ℤ} → Keeps ps l → Keeps qs m → Keeps (ps ++ qs) (l ++ m)
keeps_append none k = k
keeps_append (also f j) k = also f (keeps_append j k)

keeps_current : (ps : List Point) → Keeps ps (current_of ps)
keeps_current [] = none
keeps_current (p ∷ ps) = also (λ t. refl) (keeps_current ps)

shifted_kept : (d : ℤ) (p : Point) → p.touched ≡ true → shifted_by d p ≡ p.place.current
shifted_kept d p t = rw t

keeps_shifted : (d : ℤ) (ps : List Point) → Keeps ps (map (shifted_by d) ps)
keeps_shifted d [] = none
keeps_shifted d (p ∷ ps) = also (shifted_kept d p) (keeps_shifted d ps)

keeps_spread_by : (before first : Place) (p : Point) (ps : List Point) (b : Bool) → p.touched ≡ b → ((q : Place) → Keeps ps (spread q first ps)) → Keeps (p ∷ ps) (spread before first (p ∷ ps))
unfolding spread
keeps_spread_by before first p ps true t k = rw t (also (λ e. refl) (k p.place))
keeps_spread_by before first p ps false t k = rw t (also {p = record { place = p.place; touched = false }} {x = between before (head_or first (touched_places ps)) p.place} (λ e. cc e) (k before))

keeps_spread : (before first : Place) (ps : List Point) → Keeps ps (spread before first ps)
unfolding spread
keeps_spread before first [] = none
keeps_spread before first (p ∷ ps) = keeps_spread_by before first p ps p.touched refl (λ q. keeps_spread q first ps)

keeps_by : (ps : List Point) (ts : List Place) → Keeps ps (by_touched ps ts)
keeps_by ps [] = keeps_current ps
keeps_by ps (t ∷ []) = keeps_shifted (offset t) ps
keeps_by ps (t ∷ (u ∷ us)) = keeps_spread (last_of u us) t ps

pub keeps_contour : (ps : List Point) → Keeps ps (contour_of ps)
unfolding contour_of
keeps_contour ps = keeps_by ps (touched_places ps)

pub keeps_walk : (at : ℕ) (ends : List ℕ) (ps : List Point) → Keeps ps (walk_of at ends ps)
unfolding walk_of
keeps_walk at [] ps = keeps_current ps
keeps_walk at (end ∷ ends) ps =
    let k = suc end - at in
    let j : Keeps (take k ps ++ drop k ps) (contour_of (take k ps) ++ walk_of (suc end) ends (drop k ps)) = keeps_append (keeps_contour (take k ps)) (keeps_walk (suc end) ends (drop k ps)) in
    rw (take-append-drop k ps) at j

-- ---- one contour
-- the first contour's points come out by themselves, and the others go on as if they stood alone
module _ (at end : ℕ) (ends : List ℕ) (ps : List Point) (h : suc end - at ≤ length ps) where
  abbrev k : ℕ
  k = suc end - at

  size : length (contour_of (take k ps)) ≡ k
  size = keeps_length (keeps_contour (take k ps)) ∙ length-take-le k ps h

  pub walk_head : take k (walk_of at (end ∷ ends) ps) ≡ contour_of (take k ps)
  unfolding walk_of
  walk_head = take_at (contour_of (take k ps)) (walk_of (suc end) ends (drop k ps)) k size

  pub walk_tail : drop k (walk_of at (end ∷ ends) ps) ≡ walk_of (suc end) ends (drop k ps)
  unfolding walk_of
  walk_tail = drop_at (contour_of (take k ps)) (walk_of (suc end) ends (drop k ps)) k size

-- ---- outside
-- the first end of ends that rise, and the others
pub first_end : (at n end : ℕ) (ends : List ℕ) → rising_from at n (end ∷ ends) ≡ true → (at < suc end) × (suc end ≤ n) × (rising_from (suc end) n ends ≡ true)
first_end at n end ends r =
    let (a, b, s) = in_order at n (end ∷ ends) 0 (omega arith) refl r in
    (omega (arith, a), omega (arith, b), ap (λ (i : ℕ). rising_from i n ends) (sym (add-one end)) ∙ s)

pub reached_le : (n at : ℕ) (ends : List ℕ) → rising_from at n ends ≡ true → at ≤ n → (at ≤ reached at ends) × (reached at ends ≤ n)
unfolding reached
reached_le n at [] r h = (omega arith, h)
reached_le n at (end ∷ ends) r h =
    let (a, b, s) = first_end at n end ends r in
    let (c, d) = reached_le n (suc end) ends s b in
    (omega (arith, a, c), d)

outside_none : (at : ℕ) (ps : List Point) → drop (at - at) (walk_of at [] ps) ≡ current_of (drop (at - at) ps)
unfolding walk_of
outside_none at ps = map_drop (λ p. p.place.current) (at - at) ps

-- the points from where the walk ends keep their coordinates
pub outside : (n at : ℕ) (ends : List ℕ) (ps : List Point) → rising_from at n ends ≡ true → n - at ≤ length ps → drop (reached at ends - at) (walk_of at ends ps) ≡ current_of (drop (reached at ends - at) ps)
unfolding reached
outside n at [] ps r l = outside_none at ps
outside n at (end ∷ ends) ps r l =
    let (a, b, s) = first_end at n end ends r in
    let e = suc end in
    let z = reached e ends in
    let w : (e ≤ z) × (z ≤ n) = reached_le n e ends s b in
    let d : z - at ≡ (e - at) + (z - e) = omega (arith, w.0, a) in
    rw d
    (sym (drop-drop (z - e) (e - at) (walk_of at (end ∷ ends) ps))
    ∙ ap (drop (z - e)) (walk_tail at end ends ps (omega (arith, b)))
    ∙ outside n e ends (drop (e - at) ps) s (omega (arith, length-drop (e - at) ps))
    ∙ ap current_of (drop-drop (z - e) (e - at) ps))

-- ---- the call
module _ (axis : Axis) (fs es : List ℕ) (us os cs : List ℤ) (a : length us ≡ length cs) (b : length os ≡ length cs) (c : length fs ≡ length cs) where
  abbrev ps : List Point
  ps = points_of (touch_bit axis) fs us os cs

  s : Shown (touch_bit axis) fs us os cs ps
  s = shown (touch_bit axis) fs us os cs a b c

  pub keeps_iup : Keeps ps (iup_of axis fs es us os cs)
  unfolding iup_of
  keeps_iup = keeps_walk 0 es ps

  pub iup_length : length (iup_of axis fs es us os cs) ≡ length cs
  iup_length = keeps_length keeps_iup ∙ sym s.size

  -- a touched point never moves
  pub iup_touched : (i : ℕ) → i < length cs → has_any (get_or fs i 0) (touch_bit axis) ≡ true → get_or (iup_of axis fs es us os cs) i (pos 0) ≡ get_or cs i (pos 0)
  iup_touched i h t =
      let d : Point = record { place = record { unscaled = pos 0; original = pos 0; current = pos 0 }; touched = true } in
      let n : i < length ps = omega (arith, s.size) in
      let m : (get_or ps i d).touched ≡ true =
      sym (get_d_map (λ p. p.touched) ps i d true n) ∙ ap (λ (l : List Bool). get_or l i true) (sym s.flags) ∙ get_d_map (λ f. has_any f (touch_bit axis)) fs i 0 true (omega arith) ∙ t in
      keeps_at keeps_iup i d n m ∙ sym (get_d_map (λ p. p.place.current) ps i d (pos 0) n) ∙ ap (λ (l : List ℤ). get_or l i (pos 0)) (sym s.current)
