-- The cutting theorem: any cutting of a sheet, ended by the last call, comes to what one run over the whole comes to. Each call is entered where the
-- run is, because lines keep what the entry tests; the feed of the pieces is then the feed of the whole, and that is the run. Assumes nothing.
use Rattle.std.specs.Prelude.{⊤, Result, Ok, Err}
use mathlib.Core.Bool.{Bool, cond, false, true, ◌&&◌}
use mathlib.Core.List.{List, [], ◌++◌, ◌∷◌}
use mathlib.Core.Path.{◌∙◌, ◌≡◌, ap, ap₂, refl, subst, sym}
use Prim.Native.Nat.{ℕ, ◌+◌, ◌≤◌}
use native.Mathlib.Omega.{arith}
use borrow.Table.Steps.{cases}
use borrow.Author.Tests.{le-leb}
use lib.Dec.{eqb, leb}
use lib.IntN.{ℤ}
use lib.ListN.{length, length-append, take}
use lib.Seq.{length-take-le}
use Rattle.answer.specs.declared.Refusal.{Refusal}
use Rattle.answer.specs.declared.Refusal.TheVariants.{Line}
use Rattle.contour_ends.specs.Ends.{ends_rise}
use Rattle.feed.proofs.Words.{cut, stays}
use Rattle.feed.specs.Feed.{Feeding, Left, begun, entered_feed, fed_all, going, handed}
use Rattle.feed_carry.specs.Carry.{carry_has_room, said_is_open}
use Rattle.feed_carry.specs.declared.Said.{Said}
use Rattle.feed_carry.specs.declared.Said.TheVariants.{Ended, Long, Open, Refused}
use Rattle.feed_look.specs.Look.{most_line}
use Rattle.graphics.specs.State.{usable_state}
use Rattle.laws_run.proofs.Left.{Left as LeftOf}
use Rattle.laws_run.proofs.Keeps.{all_left, still_fits, still_rising}
use Rattle.limits.specs.Limits.{most_control_values, most_words}
use Rattle.line.specs.Sizes.{fits, world_fits}
use Rattle.line.specs.World.{Fixed, World}
use Rattle.replay.proofs.Entry.{entered_by, entered_sound, not_entered, run_entered}
use Rattle.replay.specs.Run.{entered, entry_of, run_of}
use Rattle.zone.specs.Sizes.{glyph_fits, twilight_fits}
use Rattle.laws_feed.specs.Cutting.{ending, ending_of, ending_of_run, fed_end, fed_piece, fed_pieces, fed_through, given, joined, reads_short, short_on_entry, started}
use Rattle.laws_feed.proofs.Calls.{Room, end_entered, end_refused, end_repeats, fed_entered, fed_refused, has_room, held_in, open_said, piece_repeats, repeats, reread, same_length, stopped}
use Rattle.laws_feed.proofs.Kept.{Sane, few_wait, is_open, not_open, nothing_waits, fed_unnumbered, pushes, unnumbered}
use Rattle.laws_feed.proofs.Run.{close_by, closes, from}
use Rattle.laws_feed.proofs.Start.{Fine, at_start}

-- ---- the entry: that of the empty sheet
fits_less : (f : Fixed) (sheet : List ℤ) (w : World) → length sheet ≤ most_words → world_fits f sheet w ≡ world_fits f [] w
unfolding fits
fits_less f sheet w h =
    ap (λ (t : Bool). glyph_fits f.gux f.guy f.gox f.goy w.gx w.gy w.gflags f.contours && twilight_fits w.tox w.toy w.tx w.ty w.tflags
    && leb (length f.controls) most_control_values && t)
    (le-leb (length sheet) most_words h)

entry_of_run : (f : Fixed) (sheet : List ℤ) (w : World) → length sheet ≤ most_words → entered f sheet 0 w ≡ entered f [] 0 w
entry_of_run f sheet w h =
    ap₂ (λ (s t : Bool). entry_of s (ends_rise (length w.gx) f.contours) (usable_state w.state) t) (fits_less f sheet w h) (le-leb 0 (length sheet) (omega arith))

and_true : (t : Bool) → t && true ≡ t
and_true true = refl
and_true false = refl

sized_call : (f : Fixed) (l : Left) (words : List ℤ) → Room l.base l.held (length words) l.carry
    → world_fits f words l.world && carry_has_room l.base l.held (length words) l.carry ≡ world_fits f [] l.world
sized_call f l words r =
    ap₂ ◌&&◌ (fits_less f words l.world (omega (arith, r.within))) (has_room l.base l.held (length words) l.carry r) ∙ and_true (world_fits f [] l.world)

entry_of_call : (f : Fixed) (l : Left) (words : List ℤ) → Room l.base l.held (length words) l.carry
    → entered_feed f (given l) l.carry words l.world ≡ entered f [] 0 l.world
entry_of_call f l words r =
    ap (λ (s : Bool). entry_of s (ends_rise (length l.world.gx) f.contours) (usable_state l.world.state) true) (sized_call f l words r)

-- it is passed again after lines
entered_still : (f : Fixed) (w v : World) → LeftOf w v → entered f [] 0 w ≡ Ok tt → entered f [] 0 v ≡ Ok tt
unfolding entry_of
entered_still f w v k e =
    let p = entered_by f [] 0 w e in
    rw (still_fits f [] w v k ∙ p.sized, still_rising f w v k ∙ p.rising, k.usable p.usable)

-- ---- between calls
open_is : (said : Said) → said_is_open said ≡ true → said ≡ Open
unfolding said_is_open
open_is Open e = refl
open_is Ended e = not_open Ended refl e
open_is Long e = not_open Long refl e
open_is (Refused why) e = not_open (Refused why) refl e

module _ (f : Fixed) (w : World) (n : ℕ) (l : Left) (fine : Fine w n l) where
  room : said_is_open l.said ≡ true → (words : List ℤ) → n + length words ≤ most_words → Room l.base l.held (length words) l.carry
  room o words h =
      let p = fine.sane.place o in
      let q = length-take-le l.held l.carry fine.inside in
      record { long = fine.long; inside = fine.inside; waiting = fine.sane.waiting; within = omega (arith, p, q, h) }

  begun_is : said_is_open l.said ≡ true → begun (given l) l.carry l.world ≡ held_in l
  begun_is o =
      ap (λ (s : Said). record { said = s; base = l.base; lines = 0; pending = take l.held l.carry; world = l.world }) (sym (open_is l.said o))

  module _ (passed : entered f [] 0 w ≡ Ok tt) where
    call_entered : said_is_open l.said ≡ true → (words : List ℤ) → n + length words ≤ most_words → entered_feed f (given l) l.carry words l.world ≡ Ok tt
    call_entered o words h = entry_of_call f l words (room o words h) ∙ entered_still f w l.world fine.sane.kept passed

    record Piece (piece : List ℤ) (m : Left) : Type 0 where
      is : held_in m ≡ unnumbered (fed_all f (held_in l) piece)
      next : Fine w (n + length piece) m

    taken : (piece : List ℤ) → n + length piece ≤ most_words → Piece piece (handed l.carry (fed_all f (held_in l) piece))
    taken piece h =
        let g = fed_all f (held_in l) piece in
        let s = (pushes f w (entered_sound f [] 0 w refl passed).0 n (held_in l) piece fine.sane).sane in
        let few = few_wait g.pending s.waiting in
        let same = same_length g.pending l.carry (omega (arith, few, fine.long)) in
        let s' : Sane w (n + length piece) (unnumbered g) = record { waiting = s.waiting; kept = s.kept; place = s.place; most = s.most; idle = s.idle } in
        record {
          is = reread l.carry g;
          next = record {
            sane = subst (Sane w (n + length piece)) (sym (reread l.carry g)) s';
            long = omega (arith, same, fine.long);
            inside = omega (arith, same, few, fine.long);
          };
        }

    piece_open : (piece : List ℤ) → n + length piece ≤ most_words → said_is_open l.said ≡ true → Piece piece (fed_piece f l piece)
    piece_open piece h o =
        subst (Piece piece)
        (sym (fed_entered f (given l) l.carry piece l.world o (call_entered o piece h) ∙ ap (λ (g : Feeding). handed l.carry (fed_all f g piece)) (begun_is o)))
        (taken piece h)

    piece_over : (piece : List ℤ) → said_is_open l.said ≡ false → Piece piece (fed_piece f l piece)
    piece_over piece e =
        let s = fine.sane in
        subst (Piece piece) (sym (piece_repeats f l e piece))
        (record {
          is = ap unnumbered (sym (stays f (held_in l) piece e));
          next = record {
            sane = record { waiting = s.waiting; kept = s.kept; place = not_open l.said e; most = omega (arith, s.most); idle = s.idle };
            long = fine.long;
            inside = fine.inside;
          };
        })

    one_piece : (piece : List ℤ) → n + length piece ≤ most_words → Piece piece (fed_piece f l piece)
    one_piece piece h = cases (said_is_open l.said) (piece_open piece h) (piece_over piece)

    -- the end
    close_open : said_is_open l.said ≡ true → closes (held_in l) ≡ ending (cond (eqb l.held 0) Ended (Refused Line)) l.base l.world
    unfolding close_by
    close_open o =
        ap (close_by (held_in l)) (open_is l.said o)
        ∙ ap (λ (i : ℕ). ending (cond (eqb i 0) Ended (Refused Line)) l.base l.world) (length-take-le l.held l.carry fine.inside)

    close_over : (said : Said) → said_is_open said ≡ false → close_by (held_in l) said ≡ ending said l.base l.world
    unfolding close_by said_is_open
    close_over Open e = is_open Open refl e
    close_over Ended e = refl
    close_over Long e = refl
    close_over (Refused why) e = refl

    end_closes : n ≤ most_words → ending_of (fed_end f l) ≡ closes (held_in l)
    end_closes h =
        cases (said_is_open l.said)
        (λ o. ap ending_of (end_entered f (given l) l.carry l.world o (call_entered o [] (omega (arith, h)))) ∙ sym (close_open o))
        (λ e. ap ending_of (end_repeats f l e) ∙ sym (close_over l.said e))

-- ---- all pieces: their feed is that of the whole
record Through (f : Fixed) (w : World) (n : ℕ) (l : Left) (words : List ℤ) (m : Left) : Type 0 where
  is : held_in m ≡ unnumbered (fed_all f (held_in l) words)
  next : Fine w (n + length words) m

all_pieces : (f : Fixed) (w : World) → entered f [] 0 w ≡ Ok tt → (n : ℕ) (l : Left) → Fine w n l → (pieces : List (List ℤ)) → n + length (joined pieces) ≤ most_words
    → Through f w n l (joined pieces) (fed_through f l pieces)
all_pieces f w e n l fine [] h =
    let z : n ≡ n + 0 = omega arith in
    record { is = refl; next = subst (λ (i : ℕ). Fine w i l) z fine }
all_pieces f w e n l fine (piece ∷ pieces) h =
    let long = length-append piece (joined pieces) in
    let one = one_piece f w n l fine e piece (omega (arith, h, long)) in
    let m = fed_piece f l piece in
    let all = all_pieces f w e (n + length piece) m one.next pieces (omega (arith, h, long)) in
    let g = fed_all f (held_in l) piece in
    let z : n + length piece + length (joined pieces) ≡ n + length (piece ++ joined pieces) = omega (arith, long) in
    record {
      is = all.is ∙ ap (λ (x : Feeding). unnumbered (fed_all f x (joined pieces))) one.is ∙ sym (fed_unnumbered f g (joined pieces))
          ∙ ap unnumbered (sym (cut f (held_in l) piece (joined pieces)));
      next = subst (λ (i : ℕ). Fine w i (fed_through f m pieces)) z all.next;
    }

close_unnumbered : (g : Feeding) (said : Said) → close_by (unnumbered g) said ≡ close_by g said
unfolding close_by
close_unnumbered g Open = refl
close_unnumbered g Ended = refl
close_unnumbered g Long = refl
close_unnumbered g (Refused why) = refl

module _ (f : Fixed) (carry : List ℤ) (w : World) (long : most_line ≤ length carry) (pieces : List (List ℤ)) (within : length (joined pieces) ≤ most_words) where
  through : entered f [] 0 w ≡ Ok tt → Through f w 0 (started carry w) (joined pieces) (fed_through f (started carry w) pieces)
  through e = all_pieces f w e 0 (started carry w) (at_start carry w long) pieces (omega (arith, within))

  fed_whole : entered f [] 0 w ≡ Ok tt → ending_of (fed_pieces f (started carry w) pieces) ≡ closes (fed_all f (going 0 0 [] w) (joined pieces))
  fed_whole e =
      let t = through e in
      let g = fed_all f (going 0 0 [] w) (joined pieces) in
      end_closes f w (0 + length (joined pieces)) (fed_through f (started carry w) pieces) t.next e (omega (arith, within)) ∙ ap closes t.is ∙ close_unnumbered g g.said

  first_room : (words : List ℤ) → length words ≤ most_words → Room 0 0 (length words) carry
  first_room words h = record { long = long; inside = omega arith; waiting = nothing_waits; within = omega (arith, h) }

-- refused at its entry (2, 14 or 3), by the first call, at place 0 and with nothing changed, as the run is; every later call repeats it
pub refused_at_entry : (f : Fixed) (carry : List ℤ) (w : World) (long : most_line ≤ length carry) (pieces : List (List ℤ)) → length (joined pieces) ≤ most_words → {why : Refusal}
    → entered f [] 0 w ≡ Err why → ending_of (fed_pieces f (started carry w) pieces) ≡ ending (Refused why) 0 w
unfolding said_is_open
refused_at_entry f carry w long [] h e =
    ap ending_of (end_refused f (given (started carry w)) carry w open_said (entry_of_call f (started carry w) [] (first_room f carry w long [] h [] (omega arith)) ∙ e))
refused_at_entry f carry w long (piece ∷ pieces) h {why} e =
    let l = started carry w in
    let small : length piece ≤ most_words = omega (arith, h, length-append piece (joined pieces)) in
    let r = fed_refused f (given l) carry piece w open_said (entry_of_call f l piece (first_room f carry w long (piece ∷ pieces) h piece small) ∙ e) in
    ap (λ (m : Left). ending_of (fed_end f (fed_through f m pieces))) r
    ∙ ap ending_of (repeats f (stopped (Refused why) (given l) carry w) pieces refl)

-- THE CUTTING THEOREM. Under every edition of the rules (a `Fixed` names one), from every world, with a carry that has room for a line, every cutting of
-- a sheet that is no longer than a sheet may be ends as one run over the whole with a budget of at least its length does, if no count word that the run
-- reads is above 4,096: the same answer, place, points, flags and state.
module _ (f : Fixed) (carry : List ℤ) (w : World) (long : most_line ≤ length carry) (pieces : List (List ℤ)) (within : length (joined pieces) ≤ most_words) where
  whole_by_lem : (budget : ℕ) → length (joined pieces) ≤ budget → (call : Result ⊤ Refusal) → entered f (joined pieces) 0 w ≡ call → short_on_entry f (joined pieces) budget w call ≡ true
      → ending_of (fed_pieces f (started carry w) pieces) ≡ ending_of_run (run_of f (joined pieces) budget 0 w)
  unfolding short_on_entry
  whole_by_lem budget enough (Ok tt) e s =
      fed_whole f carry w long pieces within (sym (entry_of_run f (joined pieces) w within) ∙ e)
      ∙ from f (joined pieces) within budget 0 0 0 w enough s
      ∙ ap ending_of_run (run_entered f (joined pieces) budget 0 w refl e)
  whole_by_lem budget enough (Err why) e s =
      refused_at_entry f carry w long pieces within (sym (entry_of_run f (joined pieces) w within) ∙ e)
      ∙ ap ending_of_run (not_entered f (joined pieces) budget 0 w refl e)

  pub whole : (budget : ℕ) → length (joined pieces) ≤ budget → reads_short f (joined pieces) budget w ≡ true
      → ending_of (fed_pieces f (started carry w) pieces) ≡ ending_of_run (run_of f (joined pieces) budget 0 w)
  whole budget enough s = whole_by_lem budget enough (entered f (joined pieces) 0 w) refl s

  -- two cuttings of the same words end alike, also where a line is too long (18), and with another carry
  cutting_by : (carry' : List ℤ) → most_line ≤ length carry' → (pieces' : List (List ℤ)) → joined pieces' ≡ joined pieces → (call : Result ⊤ Refusal) → entered f [] 0 w ≡ call
      → ending_of (fed_pieces f (started carry w) pieces) ≡ ending_of (fed_pieces f (started carry' w) pieces')
  cutting_by carry' long' pieces' same (Ok tt) e =
      fed_whole f carry w long pieces within e
      ∙ ap (λ (l : List ℤ). closes (fed_all f (going 0 0 [] w) l)) (sym same)
      ∙ sym (fed_whole f carry' w long' pieces' (omega (arith, ap length same, within)) e)
  cutting_by carry' long' pieces' same (Err why) e =
      refused_at_entry f carry w long pieces within e ∙ sym (refused_at_entry f carry' w long' pieces' (omega (arith, ap length same, within)) e)

  pub any_cutting : (carry' : List ℤ) → most_line ≤ length carry' → (pieces' : List (List ℤ)) → joined pieces' ≡ joined pieces
      → ending_of (fed_pieces f (started carry w) pieces) ≡ ending_of (fed_pieces f (started carry' w) pieces')
  any_cutting carry' long' pieces' same = cutting_by carry' long' pieces' same (entered f [] 0 w) refl

  -- and before the end, where the run is entered: what is said, the place, the words that wait and the world depend on the words that came alone
  pub any_cutting_so_far : entered f (joined pieces) 0 w ≡ Ok tt → (carry' : List ℤ) → most_line ≤ length carry' → (pieces' : List (List ℤ)) → joined pieces' ≡ joined pieces
      → held_in (fed_through f (started carry w) pieces) ≡ held_in (fed_through f (started carry' w) pieces')
  any_cutting_so_far passed carry' long' pieces' same =
      let e = sym (entry_of_run f (joined pieces) w within) ∙ passed in
      (through f carry w long pieces within e).is
      ∙ ap (λ (l : List ℤ). unnumbered (fed_all f (going 0 0 [] w) l)) (sym same)
      ∙ sym (through f carry' w long' pieces' (omega (arith, ap length same, within)) e).is
