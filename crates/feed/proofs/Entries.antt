-- A call by its tests, over plain values. Assumes nothing.
use Rattle.std.specs.Prelude.{⊤, Result, Ok, Err}
use mathlib.Core.Bool.{Bool, ◌&&◌, cond, false, true, true≢false}
use mathlib.Core.List.{List, []}
use mathlib.Core.Path.{◌∙◌, ◌≡◌, ap, ap₂, refl, sym}
use Prim.Native.Nat.{ℕ, ◌-◌, ◌≤◌}
use native.Mathlib.Omega.{arith}
use borrow.Author.Tests.{eq-eqb, leb-false, leb-true, ne_eqb}
use lib.Dec.{eqb, leb}
use lib.IntN.{ℤ}
use lib.ListN.{drop, drop_of_length-le, length, take}
use Rattle.answer.specs.declared.Refusal.{Refusal}
use Rattle.answer.specs.declared.Refusal.TheVariants.{Line}
use Rattle.contour_ends.specs.Ends.{ends_rise}
use Rattle.graphics.specs.State.{usable_state}
use Rattle.line.specs.Sizes.{world_fits}
use Rattle.line.specs.World.{Fixed, Sound, World}
use Rattle.line.proofs.Alike.{fits_alike}
use Rattle.replay.specs.Run.{entry_of}
use Rattle.feed_look.proofs.Counts.{all_of}
use Rattle.feed_carry.specs.Carry.{carry_has_room, said_is_open}
use Rattle.feed_carry.specs.Steps.{fed}
use Rattle.feed_carry.specs.declared.Fed.{Fed}
use Rattle.feed_carry.specs.declared.Said.{Said}
use Rattle.feed_carry.specs.declared.Said.TheVariants.{Ended, Refused}
use Rattle.feed.specs.Feed.{Feeding, Left, begun, end_of, ended_on_entry, entered_feed, fed_all, fed_on_entry, feed_of, handed, stops, unchanged}
use Rattle.feed.proofs.Calls.{left_of}

-- ---- the words of a piece from a place on
pub words_from : (piece : List ℤ) (at start : ℕ) → (start ≤ length piece) × ((at ≤ length piece → start ≡ at) × (length piece ≤ at → start ≡ length piece))
    → take (length piece - start) (drop start piece) ≡ drop at piece
words_from piece at start h = all_of piece start ∙ by (leb at (length piece)) refl
  where
    by : (t : Bool) → leb at (length piece) ≡ t → drop start piece ≡ drop at piece
    by true e = ap (λ (n : ℕ). drop n piece) (h.1.0 (leb-true at (length piece) e))
    by false e =
        let l : length piece ≤ at = omega (arith, leb-false at (length piece) e) in
        let s : length piece ≤ start = omega (arith, h.1.1 l) in
        drop_of_length-le piece s ∙ sym (drop_of_length-le piece l)

-- ---- the tests as they were made
pub entry_is : (f : Fixed) (c : Fed) (carry words : List ℤ) (w : World) {sized roomy rising usable : Bool} {begins : Result ⊤ Refusal} → begins ≡ entry_of (sized && roomy) rising usable true
    → sized ≡ world_fits f words w → roomy ≡ carry_has_room c.base c.held (length words) carry → rising ≡ ends_rise (length w.gx) f.contours → usable ≡ usable_state w.state
    → begins ≡ entered_feed f c carry words w
entry_is f c carry words w {sized} {roomy} {rising} {usable} e p r q u =
    e ∙ ap₂ (λ (a b : Bool). entry_of (a && b) rising usable true) p r
    ∙ ap₂ (λ (a b : Bool). entry_of (world_fits f words w && carry_has_room c.base c.held (length words) carry) a b true) q u

-- ---- a call by its entry
module _ (f : Fixed) (c : Fed) (carry : List ℤ) (w : World) where
  pub feed_closed : (words : List ℤ) → said_is_open c.said ≡ false → unchanged c carry w ≡ feed_of f c carry words w
  unfolding feed_of
  feed_closed words o = rw o

  pub end_closed : said_is_open c.said ≡ false → unchanged c carry w ≡ end_of f c carry w
  unfolding end_of
  end_closed o = rw o

  -- what was said at the entry, and no line
  at_entry : (s : Said) {d : Fed} → d ≡ fed s c.base 0 0 w.state → left_of d carry w ≡ handed carry (stops s (begun c carry w))
  at_entry s e = ap (λ (x : Fed). left_of x carry w) e

  module _ (o : said_is_open c.said ≡ true) where
    module _ (words : List ℤ) {begins : Result ⊤ Refusal} (e : begins ≡ entered_feed f c carry words w) where
      pub feed_refused : {d : Fed} {why : Refusal} → begins ≡ Err why → d ≡ fed (Refused why) c.base 0 0 w.state → left_of d carry w ≡ feed_of f c carry words w
      unfolding feed_of fed_on_entry
      feed_refused {d} {why} t k = rw o (at_entry (Refused why) k ∙ ap (λ (x : Result ⊤ Refusal). handed carry (fed_on_entry f (begun c carry w) words x)) (sym t ∙ e))

      pub feed_entered : begins ≡ Ok tt → handed carry (fed_all f (begun c carry w) words) ≡ feed_of f c carry words w
      unfolding feed_of fed_on_entry
      feed_entered t = rw o (ap (λ (x : Result ⊤ Refusal). handed carry (fed_on_entry f (begun c carry w) words x)) (sym t ∙ e))

    module _ {begins : Result ⊤ Refusal} (e : begins ≡ entered_feed f c carry [] w) where
      pub end_refused : {d : Fed} {why : Refusal} → begins ≡ Err why → d ≡ fed (Refused why) c.base 0 0 w.state → left_of d carry w ≡ end_of f c carry w
      unfolding end_of ended_on_entry
      end_refused {d} {why} t k = rw o (at_entry (Refused why) k ∙ ap (λ (x : Result ⊤ Refusal). handed carry (ended_on_entry (begun c carry w) c.held x)) (sym t ∙ e))

      pub end_whole : {d : Fed} → begins ≡ Ok tt → c.held ≡ 0 → d ≡ fed Ended c.base 0 0 w.state → left_of d carry w ≡ end_of f c carry w
      unfolding end_of ended_on_entry
      end_whole t h k =
          rw o (at_entry Ended k ∙ ap (λ (b : Bool). handed carry (stops (cond b Ended (Refused Line)) (begun c carry w))) (sym (eq-eqb c.held 0 h)) ∙ ap (λ (x : Result ⊤ Refusal). handed carry (ended_on_entry (begun c carry w) c.held x)) (sym t ∙ e))

      pub end_unfinished : {d : Fed} → begins ≡ Ok tt → (c.held ≡ 0 → ⊥) → d ≡ fed (Refused Line) c.base 0 0 w.state → left_of d carry w ≡ end_of f c carry w
      unfolding end_of ended_on_entry
      end_unfinished t h k =
          rw o (at_entry (Refused Line) k ∙ ap (λ (b : Bool). handed carry (stops (cond b Ended (Refused Line)) (begun c carry w))) (sym (ne_eqb c.held 0 h)) ∙ ap (λ (x : Result ⊤ Refusal). handed carry (ended_on_entry (begun c carry w) c.held x)) (sym t ∙ e))

-- ---- what a call that is entered was asked
abbrev is_done : Result ⊤ Refusal → Bool
is_done (Ok tt) = true
is_done (Err why) = false

not_done : {why : Refusal} → ◌≡◌ {A = Result ⊤ Refusal} (Err why) (Ok tt) → ⊥
not_done e = true≢false (sym (ap is_done e))

all_passed : (a b d t : Bool) → entry_of (a && b) d t true ≡ Ok tt → (a ≡ true) × (b ≡ true) × (d ≡ true)
unfolding entry_of
all_passed true true true true e = (refl, refl, refl)
all_passed true true true false e = absurd (not_done e)
all_passed true true false t e = absurd (not_done e)
all_passed true false d t e = absurd (not_done e)
all_passed false b d t e = absurd (not_done e)

pub entered_by : (f : Fixed) (c : Fed) (carry words : List ℤ) (w : World) {begins : Result ⊤ Refusal} → begins ≡ entered_feed f c carry words w → begins ≡ Ok tt
    → Sound f w × (carry_has_room c.base c.held (length words) carry ≡ true)
entered_by f c carry words w e t =
    let p = all_passed (world_fits f words w) (carry_has_room c.base c.held (length words) carry) (ends_rise (length w.gx) f.contours) (usable_state w.state) (sym e ∙ t) in
    ((fits_alike f words w p.0, p.2), p.1)
