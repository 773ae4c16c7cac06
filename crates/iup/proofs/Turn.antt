-- A turn of the loop over the stretches, from what its calls ensure of the four lists. Assumes nothing.
use mathlib.Core.Path.{◌≡◌, refl, sym, ap, ap₂, ◌∙◌}
use mathlib.Core.List.{List, [], ◌∷◌, ◌++◌, map, append-nil}
use Prim.Native.Nat.{ℕ, zero, suc, ◌+◌, ◌-◌, ◌≤◌, ◌<◌}
use native.Mathlib.Omega.{arith}
use borrow.Author.Tests.{lt-ltb, le-ltb}
use lib.IntN.{ℤ, pos}
use lib.ListN.{length, take, drop, get_or, length-drop, length-map, drop_of_length-le}
use lib.Seq.{take_all, drop-drop}
use borrow.Rule.Slice.PartMut.{put_mid, Post-is}
use Rattle.iup.proofs.Points.{unscaled_of, original_of, Shown, map_take, map_drop}
use Rattle.iup.proofs.Spread.{both_is, front, head_place, ahead_is, go_between, Spreading, step}
use Rattle.iup.specs.Contour.{Point, touched_places, head_or, spread, current_of}
use Rattle.iup.specs.Parts.{marks, ahead, place_at, by_references, both}
use Rattle.iup.specs.declared.Place.{Place}
use Rattle.flags.specs.Flag.{has_any}

get_d_head : {A : Type 0} (i : ℕ) (l : List A) (d : A) → get_or l i d ≡ get_or (drop i l) 0 d
get_d_head zero l d = refl
get_d_head (suc i) [] d = refl
get_d_head (suc i) (x ∷ l) d = get_d_head i l d

pub same_place : (p : Place) {u o c : ℤ} → u ≡ p.unscaled → o ≡ p.original → c ≡ p.current → ◌≡◌ {A = Place} (record { unscaled = u; original = o; current = c }) p
same_place p e f g = rw (e, f, g)

-- the place that is read at i
module _ (ps : List Point) (l : List ℤ) (i : ℕ) (other : Place) (same : drop i l ≡ current_of (drop i ps)) (size : length l ≡ length ps) where
  read_u : (f : Point → ℤ) (us : List ℤ) → drop i us ≡ map f (drop i ps) → (d : Point) (ds : List Point) → drop i ps ≡ d ∷ ds → get_or us i (pos 0) ≡ f d
  read_u f us e d ds g = get_d_head i us (pos 0) ∙ ap (λ (t : List ℤ). get_or t 0 (pos 0)) (e ∙ ap (map f) g)

  by_rest : (ds : List Point) → drop i ps ≡ ds → place_at (unscaled_of ps) (original_of ps) l i other ≡ head_place other ds
  unfolding place_at
  by_rest [] e = rw (le-ltb i (length l) (omega (arith, size, length-drop i ps, ap length e)))
  by_rest (d ∷ ds) e =
      rw (lt-ltb i (length l) (omega (arith, size, length-drop i ps, ap length e)))
      (same_place d.place
      (read_u (λ p. p.place.unscaled) (unscaled_of ps) (map_drop (λ p. p.place.unscaled) i ps) d ds e)
      (read_u (λ p. p.place.original) (original_of ps) (map_drop (λ p. p.place.original) i ps) d ds e)
      (read_u (λ p. p.place.current) l same d ds e))

  pub read_place : place_at (unscaled_of ps) (original_of ps) l i other ≡ head_place other (drop i ps)
  read_place = by_rest (drop i ps) refl

-- the part of a field of the points is the field of the part
pub map_part : {B : Type 0} (f : Point → B) (k at : ℕ) (ps : List Point) → take k (drop at (map f ps)) ≡ map f (take k (drop at ps))
map_part f k at ps = ap (take k) (map_drop f at ps) ∙ map_take f k (drop at ps)

module _ {mask : ℕ} {fs : List ℕ} {us os cs : List ℤ} {ps : List Point} (s : Shown mask fs us os cs ps) where
  pub front_is : (at : ℕ) → ahead (marks mask (drop at fs)) ≡ front (drop at ps)
  front_is at = ap ahead (sym (map_drop (λ f. has_any f mask) at fs) ∙ ap (drop at) s.flags ∙ map_drop (λ p. p.touched) at ps)

  pub sizes : length fs ≡ length ps
  sizes = sym (length-map fs (λ f. has_any f mask)) ∙ ap length s.flags ∙ length-map ps (λ p. p.touched)

  module _ {first before : Place} {r l : List ℤ} {at next : ℕ} (v : Spreading first ps r l before at) (h : at < length fs) (n : next ≡ at + ahead (marks mask (drop at fs))) where
    is_next : next ≡ at + front (drop at ps)
    is_next = n ∙ ap (λ (k : ℕ). at + k) (front_is at)

    stay : drop next l ≡ current_of (drop next ps)
    stay =
        ap (λ (j : ℕ). drop j l) is_next
        ∙ sym (drop-drop (front (drop at ps)) at l)
        ∙ ap (drop (front (drop at ps))) v.same
        ∙ map_drop (λ p. p.place.current) (front (drop at ps)) (drop at ps)
        ∙ ap current_of (drop-drop (front (drop at ps)) at ps ∙ ap (λ (j : ℕ). drop j ps) (sym is_next))

    is_after : {after : Place} → after ≡ place_at us os l next first → after ≡ head_or first (touched_places (drop at ps))
    is_after a =
        a
        ∙ ap₂ (λ (x y : List ℤ). place_at x y l next first) s.unscaled s.original
        ∙ read_place ps l next first stay v.size
        ∙ ap (head_place first) (ap (λ (j : ℕ). drop j ps) is_next ∙ sym (drop-drop (front (drop at ps)) at ps))
        ∙ sym (ahead_is first (drop at ps))

    pub turned :
        {after : Place} {l' ys : List ℤ} →
        after ≡ place_at us os l next first →
        ys ≡ both (by_references before after) (take (next - at) (drop at us)) (take (next - at) (drop at os)) →
        l' ≡ put_mid at (next - at) l ys →
        length l' ≡ length l →
        Spreading first ps r l' after (next + 1)
    turned {after} {l'} {ys} a y e g =
        let k : ℕ = front (drop at ps) in
        let d : next - at ≡ k = omega (arith, is_next) in
        let u : take (next - at) (drop at us) ≡ unscaled_of (take k (drop at ps)) = ap₂ (λ (j : ℕ) (t : List ℤ). take j (drop at t)) d s.unscaled ∙ map_part (λ p. p.place.unscaled) k at ps in
        let o : take (next - at) (drop at os) ≡ original_of (take k (drop at ps)) = ap₂ (λ (j : ℕ) (t : List ℤ). take j (drop at t)) d s.original ∙ map_part (λ p. p.place.original) k at ps in
        let z : ys ≡ go_between before (head_or first (touched_places (drop at ps))) (take k (drop at ps)) =
        y ∙ ap₂ (both (by_references before after)) u o ∙ both_is before after (take k (drop at ps)) ∙ ap (λ (b : Place). go_between before b (take k (drop at ps))) (is_after a) in
        let w : l' ≡ take at l ++ (go_between before (head_or first (touched_places (drop at ps))) (take k (drop at ps)) ++ drop (at + k) l) =
        e ∙ ap₂ (λ (x t : List ℤ). take at l ++ (x ++ t)) z (Post-is at next l (omega (arith, is_next)) ∙ ap (λ (j : ℕ). drop j l) is_next) in
        rw (is_after a, is_next) (step v (omega (arith, sizes, h)) w (g ∙ v.size))

pub finished : {first : Place} {ps : List Point} {r l : List ℤ} {before : Place} {at : ℕ} → Spreading first ps r l before at → length ps ≤ at → l ≡ r
unfolding spread
finished {first} {ps} {r} {l} {before} {at} v h =
    sym (append-nil l)
    ∙ ap₂ (λ (x : List ℤ) (q : List Point). x ++ spread before first q) (sym (take_all at l (omega (arith, v.size)))) (sym (drop_of_length-le ps {i = at} h))
    ∙ v.done
