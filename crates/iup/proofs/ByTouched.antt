-- A contour by its touched points: the code's two searches say how many there are, and which is the first and which the last.
-- Assumes nothing.
use mathlib.Core.Path.{◌≡◌, refl, sym, ap, ap₂, ◌∙◌}
use mathlib.Core.Bool.{Bool, true, false}
use mathlib.Core.List.{List, [], ◌∷◌, ◌++◌, map, append_assoc, append-nil, map-append}
use Prim.Native.Nat.{ℕ, zero, suc, ◌+◌, ◌-◌, ◌≤◌, ◌<◌}
use native.Mathlib.Omega.{arith}
use lib.IntN.{ℤ}
use lib.ListN.{length, take, drop, get_or, length-drop, length-map, drop_of_length-le, take-append-drop}
use lib.Seq.{drop-cons, take_all, take-length, take-append-add, drop-append-add, length-take-le, drop-drop, drop-length}
use borrow.Rule.Slice.PartMut.{put_mid}
use Rattle.int.specs.Word.{add32}
use Rattle.iup.proofs.Points.{touch_of, Shown, map_take, map_drop}
use Rattle.iup.proofs.Spread.{front, head_place, front_le, from_touched, touched_cut}
use Rattle.iup.proofs.Turn.{read_place, front_is, sizes}
use Rattle.iup.specs.Contour.{Point, offset, touched_places, last_of, spread, shifted_by, current_of, by_touched, contour_of}
use Rattle.iup.specs.Parts.{marks, ahead, up_to_last, place_at}
use Rattle.iup.specs.declared.Place.{Place}
use Rattle.flags.specs.Flag.{has_any}

-- ---- untouched points
front_clear_by : (p : Point) (ps : List Point) (t : Bool) → p.touched ≡ t → touched_places (take (front ps) ps) ≡ [] → touched_places (take (front (p ∷ ps)) (p ∷ ps)) ≡ []
unfolding touched_places
front_clear_by p ps true t e = rw t
front_clear_by p ps false t e = rw t e

front_clear : (ps : List Point) → touched_places (take (front ps) ps) ≡ []
unfolding touched_places
front_clear [] = refl
front_clear (p ∷ ps) = front_clear_by p ps p.touched refl (front_clear ps)

abbrev pub shift_all : ℤ → List ℤ → List ℤ
shift_all d l = map (λ x. add32 x d) l

shift_by : (d : ℤ) (p : Point) (ps : List Point) (t : Bool) → p.touched ≡ t → touched_places (p ∷ ps) ≡ [] → (touched_places ps ≡ [] → map (shifted_by d) ps ≡ shift_all d (current_of ps)) → map (shifted_by d) (p ∷ ps) ≡ shift_all d (current_of (p ∷ ps))
unfolding touched_places
shift_by d p ps true t e f = absurd (let w : length (p.place ∷ touched_places ps) ≡ 0 = ap length (rw t at e) in omega arith)
shift_by d p ps false t e f = rw t (ap (λ (l : List ℤ). add32 p.place.current d ∷ l) (f (rw t at e)))

-- untouched points all move
shift_clear : (d : ℤ) (ps : List Point) → touched_places ps ≡ [] → map (shifted_by d) ps ≡ shift_all d (current_of ps)
shift_clear d [] e = refl
shift_clear d (p ∷ ps) e = shift_by d p ps p.touched refl e (shift_clear d ps)

-- ---- the point behind the untouched ones in front is touched
hit_by : (p : Point) (ps : List Point) (t : Bool) → p.touched ≡ t → ((d : Point) (ds : List Point) → drop (front ps) ps ≡ d ∷ ds → d.touched ≡ true) → (d : Point) (ds : List Point) → drop (front (p ∷ ps)) (p ∷ ps) ≡ d ∷ ds → d.touched ≡ true
hit_by p ps true t f d ds e =
    let g : ◌≡◌ {A = List Point} (record { place = p.place; touched = true } ∷ ps) (d ∷ ds) = rw t at e in
    let h : ◌≡◌ {A = Point} (record { place = p.place; touched = true }) d = cc in
    ap (λ (x : Point). x.touched) (sym h)
hit_by p ps false t f d ds e = f d ds (rw t at e)

hit : (ps : List Point) (d : Point) (ds : List Point) → drop (front ps) ps ≡ d ∷ ds → d.touched ≡ true
hit [] d ds e = absurd (let w : 0 ≡ length (d ∷ ds) = ap length e in omega arith)
hit (p ∷ ps) d ds e = hit_by p ps p.touched refl (hit ps) d ds e

-- ---- the last touched point
abbrev reach : List Point → ℕ
reach ps = up_to_last (touch_of ps)

-- p stands in front of ps, and is touched; a point of ps is touched or not, and others are behind it or not
last_by :
    (other : Place) (p q : Point) (ps : List Point) (t : Bool) (k : ℕ) →
    q.touched ≡ t →
    reach ps ≡ k →
    ((x : Point) → last_of x.place (touched_places ps) ≡ head_place other (drop (reach ps) (x ∷ ps))) →
    last_of p.place (touched_places (q ∷ ps)) ≡ head_place other (drop (reach (q ∷ ps)) (p ∷ (q ∷ ps)))
unfolding touched_places
last_by other p q ps true zero t r f = let g = f q in rw (t, r) (rw r at g)
last_by other p q ps true (suc k) t r f = let g = f q in rw (t, r) (rw r at g)
last_by other p q ps false zero t r f = let g = f p in rw (t, r) (rw r at g)
last_by other p q ps false (suc k) t r f = let g = f p in rw (t, r) (rw r at g)

last_is : (other : Place) (ps : List Point) (p : Point) → last_of p.place (touched_places ps) ≡ head_place other (drop (reach ps) (p ∷ ps))
unfolding touched_places
last_is other [] p = refl
last_is other (q ∷ ps) p = last_by other p q ps q.touched (reach ps) refl refl (last_is other ps)

clear_by : (p : Point) (ps : List Point) (t : Bool) (k : ℕ) → p.touched ≡ t → reach ps ≡ k → reach (p ∷ ps) ≡ 0 → (reach ps ≡ 0 → touched_places ps ≡ []) → touched_places (p ∷ ps) ≡ []
unfolding touched_places
clear_by p ps true zero t r e f = absurd (let z : ◌≡◌ {A = ℕ} 1 0 = rw (t, r) at e in omega arith)
clear_by p ps true (suc k) t r e f = absurd (let z : ◌≡◌ {A = ℕ} (suc (suc k)) 0 = rw (t, r) at e in omega arith)
clear_by p ps false zero t r e f = rw t (f r)
clear_by p ps false (suc k) t r e f = absurd (let z : ◌≡◌ {A = ℕ} (suc (suc k)) 0 = rw (t, r) at e in omega arith)

-- none is touched where the search finds none
clear : (ps : List Point) → reach ps ≡ 0 → touched_places ps ≡ []
unfolding touched_places
clear [] e = refl
clear (p ∷ ps) e = clear_by p ps p.touched (reach ps) refl refl e (clear ps)

found_by : (p : Point) (ps : List Point) (t : Bool) → p.touched ≡ t → touched_places (p ∷ ps) ≡ [] → (touched_places ps ≡ [] → reach ps ≡ 0) → reach (p ∷ ps) ≡ 0
unfolding touched_places
found_by p ps true t e f = absurd (let w : length (p.place ∷ touched_places ps) ≡ 0 = ap length (rw t at e) in omega arith)
found_by p ps false t e f = rw (t, f (rw t at e))

unreached : (ps : List Point) → touched_places ps ≡ [] → reach ps ≡ 0
unreached [] e = refl
unreached (p ∷ ps) e = found_by p ps p.touched refl e (unreached ps)

-- ---- the three cases of a contour
more_by : (ps : List Point) (t : Place) (us : List Place) → (us ≡ [] → ⊥) → by_touched ps (t ∷ us) ≡ spread (last_of t us) t ps
more_by ps t [] f = absurd (f refl)
more_by ps t (u ∷ us) f = refl

-- a part up to the end
to_end : (f : List ℤ → List ℤ) (a : ℕ) (l : List ℤ) → put_mid a (length l - a) l (f (take (length l - a) (drop a l))) ≡ take a l ++ f (drop a l)
to_end f a l =
    ap (λ (m : ℕ). put_mid a m l (f (take m (drop a l)))) (sym (length-drop a l))
    ∙ ap₂ (λ (x y : List ℤ). take a l ++ (f x ++ y)) (take-length (drop a l)) (drop-length (drop a l))
    ∙ ap (λ (x : List ℤ). take a l ++ x) (append-nil (f (drop a l)))

module _ {mask : ℕ} {fs : List ℕ} {us os cs : List ℤ} {ps : List Point} (s : Shown mask fs us os cs ps) {at : ℕ} (n : at ≡ 0 + ahead (marks mask fs)) where
  is_front : at ≡ front ps
  is_front = n ∙ omega (arith, front_is s 0)

  pub none : length fs ≤ at → cs ≡ contour_of ps
  unfolding contour_of
  none h =
      let e : drop (front ps) ps ≡ [] = drop_of_length-le ps {i = front ps} (omega (arith, sizes s, is_front)) in
      s.current ∙ ap (by_touched ps) (sym (touched_cut ps ∙ ap from_touched e))

  -- the first touched point is p, and qs follow it
  module _ {first : Place} {more : ℕ} (q : first ≡ place_at us os cs at first) (m : more ≡ up_to_last (marks mask (take (length fs - (at + 1)) (drop (at + 1) fs)))) (p : Point) (qs : List Point) (e : drop at ps ≡ p ∷ qs) where
    same_at : (i : ℕ) → drop i cs ≡ current_of (drop i ps)
    same_at i = ap (drop i) s.current ∙ map_drop (λ x. x.place.current) i ps

    place_is : (i : ℕ) (other : Place) → place_at us os cs i other ≡ head_place other (drop i ps)
    place_is i other = ap₂ (λ (x y : List ℤ). place_at x y cs i other) s.unscaled s.original ∙ read_place ps cs i other (same_at i) s.size

    first_is : first ≡ p.place
    first_is = q ∙ place_is at first ∙ ap (head_place first) e

    behind_is : drop (at + 1) ps ≡ qs
    behind_is = sym (drop-drop 1 at ps) ∙ ap (drop 1) e

    touched_are : touched_places ps ≡ p.place ∷ touched_places qs
    touched_are = touched_cut ps ∙ ap (λ (i : ℕ). from_touched (drop i ps)) (sym is_front) ∙ ap from_touched e

    more_is : more ≡ reach qs
    more_is =
        m
        ∙ ap (λ (l : List ℕ). up_to_last (marks mask l)) (take_all (length fs - (at + 1)) (drop (at + 1) fs) (omega (arith, length-drop (at + 1) fs)))
        ∙ ap up_to_last (sym (map_drop (λ f. has_any f mask) (at + 1) fs) ∙ ap (drop (at + 1)) s.flags ∙ map_drop (λ x. x.touched) (at + 1) ps ∙ ap touch_of behind_is)

    -- more than one
    several_of : {last : Place} → (more ≡ 0 → ⊥) → last ≡ place_at us os cs (at + more) first → spread last first ps ≡ contour_of ps
    unfolding contour_of
    several_of {last} h z =
        let l : last ≡ last_of p.place (touched_places qs) =
        z
        ∙ place_is (at + more) first
        ∙ ap (head_place first) (sym (drop-drop more at ps) ∙ ap₂ (λ (i : ℕ) (x : List Point). drop i x) more_is e)
        ∙ sym (last_is first qs p) in
        ap₂ (λ (x y : Place). spread x y ps) l first_is
        ∙ sym (more_by ps p.place (touched_places qs) (λ g. h (more_is ∙ unreached qs g)))
        ∙ ap (by_touched ps) (sym touched_are)

    -- exactly one
    module _ {d : ℤ} (z : d ≡ offset first) (h : more ≡ 0) where
      abbrev xs : List ℤ
      xs = shift_all d (current_of (take at ps))

      size_xs : length xs ≡ at
      size_xs =
          length-map (current_of (take at ps)) (λ x. add32 x d)
          ∙ length-map (take at ps) (λ x. x.place.current)
          ∙ length-take-le at ps (omega (arith, front_le ps, is_front))

      whole_is : contour_of ps ≡ xs ++ (p.place.current ∷ shift_all d (current_of qs))
      unfolding contour_of
      whole_is =
          let t : p.touched ≡ true = hit ps p qs (ap (λ (i : ℕ). drop i ps) (sym is_front) ∙ e) in
          let y : shifted_by d p ≡ p.place.current = rw t in
          ap (by_touched ps) (touched_are ∙ ap (λ (l : List Place). p.place ∷ l) (clear qs (sym more_is ∙ h)))
          ∙ ap (λ (x : ℤ). map (shifted_by x) ps) (sym (z ∙ ap offset first_is))
          ∙ ap (map (shifted_by d)) (sym (take-append-drop at ps) ∙ ap (λ (l : List Point). take at ps ++ l) e)
          ∙ map-append (shifted_by d) (take at ps) (p ∷ qs)
          ∙ ap₂ (λ (a b : List ℤ). a ++ b)
          (shift_clear d (take at ps) (ap (λ (i : ℕ). touched_places (take i ps)) is_front ∙ front_clear ps))
          (ap₂ (λ (x : ℤ) (l : List ℤ). x ∷ l) y (shift_clear d qs (clear qs (sym more_is ∙ h))))

      one_of :
          {l l' : List ℤ} →
          l ≡ shift_all d (take at cs) ++ drop at cs →
          l' ≡ put_mid (at + 1) (length l - (at + 1)) l (shift_all d (take (length l - (at + 1)) (drop (at + 1) l))) →
          l' ≡ contour_of ps
      one_of {l} {l'} f g =
          let w : l ≡ xs ++ (p.place.current ∷ current_of qs) =
          f
          ∙ ap₂ (λ (a b : List ℤ). shift_all d a ++ b) (ap (take at) s.current ∙ map_take (λ x. x.place.current) at ps) (same_at at ∙ ap current_of e) in
          let a : take (at + 1) l ≡ xs ++ (p.place.current ∷ []) = ap₂ (λ (i : ℕ) (x : List ℤ). take (i + 1) x) (sym size_xs) w ∙ take-append-add xs (p.place.current ∷ current_of qs) 1 in
          let b : drop (at + 1) l ≡ current_of qs = ap₂ (λ (i : ℕ) (x : List ℤ). drop (i + 1) x) (sym size_xs) w ∙ drop-append-add xs (p.place.current ∷ current_of qs) 1 in
          g
          ∙ to_end (shift_all d) (at + 1) l
          ∙ ap₂ (λ (x y : List ℤ). x ++ shift_all d y) a b
          ∙ append_assoc xs (p.place.current ∷ []) (shift_all d (current_of qs))
          ∙ sym whole_is

  module _ {first : Place} {more : ℕ} (q : first ≡ place_at us os cs at first) (m : more ≡ up_to_last (marks mask (take (length fs - (at + 1)) (drop (at + 1) fs)))) (h : at < length fs) where
    abbrev dummy : Point
    dummy = record { place = first; touched = true }

    cut : drop at ps ≡ get_or ps at dummy ∷ drop (suc at) ps
    cut = drop-cons ps at dummy (omega (arith, sizes s))

    pub several : {last : Place} → (more ≡ 0 → ⊥) → last ≡ place_at us os cs (at + more) first → spread last first ps ≡ contour_of ps
    several = several_of q m (get_or ps at dummy) (drop (suc at) ps) cut

    pub one :
        {d : ℤ} {l l' : List ℤ} →
        d ≡ offset first →
        more ≡ 0 →
        l ≡ shift_all d (take at cs) ++ drop at cs →
        l' ≡ put_mid (at + 1) (length l - (at + 1)) l (shift_all d (take (length l - (at + 1)) (drop (at + 1) l))) →
        l' ≡ contour_of ps
    one z g = one_of q m (get_or ps at dummy) (drop (suc at) ps) cut z g
