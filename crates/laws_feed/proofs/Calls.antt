-- Each call by itself: what it tests, what it leaves where it is refused, what it keeps, and that a feed which has ended repeats itself. Assumes
-- nothing.
use Rattle.std.specs.Prelude.{⊤, Result, Ok, Err}
use mathlib.Core.Bool.{Bool, cond, false, true, true≢false, ◌&&◌}
use mathlib.Core.List.{List, [], ◌++◌, ◌∷◌}
use mathlib.Core.Path.{◌∙◌, ◌≡◌, ap, refl, subst, sym}
use Prim.Native.Nat.{ℕ, ◌+◌, ◌<◌, ◌≤◌}
use native.Mathlib.Omega.{arith}
use borrow.Table.Steps.{cases}
use borrow.Author.Tests.{le-leb, leb-true, lt-leb, ne_eqb}
use lib.Dec.{eqb, leb}
use lib.IntN.{ℤ}
use lib.ListN.{drop, length, length-append, length-drop, take}
use lib.Seq.{drop-append_seam, length-take-le, take-append_seam}
use Rattle.answer.specs.declared.Refusal.{Refusal}
use Rattle.answer.specs.declared.Refusal.TheVariants.{Line, Sizes}
use Rattle.contour_ends.specs.Ends.{ends_rise}
use Rattle.feed.specs.Feed.{Feeding, Left, begun, end_of, ended_on_entry, entered_feed, fed_all, fed_on_entry, feed_of, handed, left}
use Rattle.feed_carry.specs.Carry.{carry_has_room, said_is_open, waits}
use Rattle.feed_carry.specs.declared.Fed.{Fed}
use Rattle.feed_carry.specs.declared.Said.{Said}
use Rattle.feed_carry.specs.declared.Said.TheVariants.{Ended, Open, Refused}
use Rattle.feed_look.specs.Look.{look_of, most_line}
use Rattle.graphics.specs.State.{usable_state}
use Rattle.laws_run.proofs.Keeps.{all_left}
use Rattle.limits.specs.Limits.{most_words}
use Rattle.line.proofs.Alike.{fits_alike}
use Rattle.line.specs.Sizes.{world_fits}
use Rattle.line.specs.World.{Fixed, World}
use Rattle.replay.specs.Run.{entry_of}
use Rattle.laws_feed.specs.Cutting.{fed_end, fed_piece, fed_pieces, fed_through, given, started}
use Rattle.laws_feed.proofs.Kept.{EndOf, Pushed, Sane, few_wait, goes_on, is_open, is_ended, none_of, not_open, pushes, unnumbered}
use Rattle.laws_feed.proofs.Held.{Held}

pub open_said : said_is_open Open ≡ true
unfolding said_is_open
open_said = refl

-- ---- what was handed back is read again
-- the feed that a Left stands for, no line finished yet
abbrev pub held_in : Left → Feeding
held_in l = record { said = l.said; base = l.base; lines = 0; pending = take l.held l.carry; world = l.world }

pub given_back : (c : Fed) (carry gx gy : List ℤ) (gflags : List ℕ) (tox toy tx ty : List ℤ) (tflags : List ℕ)
    → given (left c carry gx gy gflags tox toy tx ty tflags) ≡ c
given_back c carry gx gy gflags tox toy tx ty tflags = refl

pub reread : (carry : List ℤ) (g : Feeding) → held_in (handed carry g) ≡ unnumbered g
reread carry g =
    ap (λ (p : List ℤ). record { said = g.said; base = g.base; lines = 0; pending = p; world = g.world })
    (take-append_seam g.pending (drop (length g.pending) carry))

-- ---- after a refusal or the end
module _ (f : Fixed) (l : Left) (e : said_is_open l.said ≡ false) where
  pub piece_repeats : (piece : List ℤ) → fed_piece f l piece ≡ l
  unfolding feed_of
  piece_repeats piece = rw e

  pub end_repeats : fed_end f l ≡ l
  unfolding end_of
  end_repeats = rw e

pub all_repeat : (f : Fixed) (l : Left) (pieces : List (List ℤ)) → said_is_open l.said ≡ false → fed_through f l pieces ≡ l
all_repeat f l [] e = refl
all_repeat f l (piece ∷ pieces) e = ap (λ (m : Left). fed_through f m pieces) (piece_repeats f l e piece) ∙ all_repeat f l pieces e

pub repeats : (f : Fixed) (l : Left) (pieces : List (List ℤ)) → said_is_open l.said ≡ false → fed_pieces f l pieces ≡ l
repeats f l pieces e = ap (fed_end f) (all_repeat f l pieces e) ∙ end_repeats f l e

-- ---- a call by its tests
-- refused at its entry, or ended: the place is that of the next line, and nothing is changed
abbrev pub stopped : Said → Fed → List ℤ → World → Left
stopped said c carry w = record { said = said; base = c.base; held = 0; lines = 0; carry = carry; world = w }

module _ (f : Fixed) (c : Fed) (carry words : List ℤ) (w : World) (o : said_is_open c.said ≡ true) where
  pub fed_entered : entered_feed f c carry words w ≡ Ok tt → feed_of f c carry words w ≡ handed carry (fed_all f (begun c carry w) words)
  unfolding feed_of fed_on_entry
  fed_entered e = rw (o, e)

  pub fed_refused : {why : Refusal} → entered_feed f c carry words w ≡ Err why → feed_of f c carry words w ≡ stopped (Refused why) c carry w
  unfolding feed_of fed_on_entry
  fed_refused e = rw (o, e)

module _ (f : Fixed) (c : Fed) (carry : List ℤ) (w : World) (o : said_is_open c.said ≡ true) where
  pub end_entered : entered_feed f c carry [] w ≡ Ok tt → end_of f c carry w ≡ stopped (cond (eqb c.held 0) Ended (Refused Line)) c carry w
  unfolding end_of ended_on_entry
  end_entered e = rw (o, e)

  pub end_refused : {why : Refusal} → entered_feed f c carry [] w ≡ Err why → end_of f c carry w ≡ stopped (Refused why) c carry w
  unfolding end_of ended_on_entry
  end_refused e = rw (o, e)

  -- at the end an unfinished line is refused at its place
  pub unfinished : entered_feed f c carry [] w ≡ Ok tt → 0 < c.held → end_of f c carry w ≡ stopped (Refused Line) c carry w
  unfinished e h = end_entered e ∙ ap (λ (t : Bool). stopped (cond t Ended (Refused Line)) c carry w) (ne_eqb c.held 0 (λ z. omega (arith, h, z)))

-- ---- the sheet limit: the piece that passes it isn't taken
no_and : (t : Bool) → t && false ≡ false
no_and true = refl
no_and false = refl

pub no_room : (base held words : ℕ) (carry : List ℤ) → most_words < base + held + words → carry_has_room base held words carry ≡ false
unfolding carry_has_room
no_room base held words carry h = rw (lt-leb (base + held + words) most_words h) (no_and (leb most_line (length carry) && leb held (length carry) && waits (look_of (take held carry))))

no_sizes : (sized rising usable : Bool) {room : Bool} → room ≡ false → entry_of (sized && room) rising usable true ≡ Err Sizes
unfolding entry_of
no_sizes sized rising usable e = rw (e, no_and sized)

module _ (f : Fixed) (c : Fed) (carry words : List ℤ) (w : World) (o : said_is_open c.said ≡ true) where
  -- a carry that is too short, or that doesn't hold the beginning of a line, and too many words: 2
  pub not_taken : carry_has_room c.base c.held (length words) carry ≡ false → feed_of f c carry words w ≡ stopped (Refused Sizes) c carry w
  not_taken e =
      fed_refused f c carry words w o (no_sizes (world_fits f words w) (ends_rise (length w.gx) f.contours) (usable_state w.state) e)

-- ---- what the tests tell
pub both : (a b : Bool) → a && b ≡ true → (a ≡ true) × (b ≡ true)
both true true e = (refl, refl)
both true false e = absurd (true≢false (sym e))
both false b e = absurd (true≢false (sym e))

abbrev is_done : Result ⊤ Refusal → Bool
is_done (Ok tt) = true
is_done (Err why) = false

sizes_passed : (sized rising usable starts : Bool) → entry_of sized rising usable starts ≡ Ok tt → sized ≡ true
unfolding entry_of
sizes_passed true rising usable starts e = refl
sizes_passed false rising usable starts e = absurd (true≢false (sym (ap is_done e)))

pub record Room (base held words : ℕ) (carry : List ℤ) : Type 0 where
  pub long : most_line ≤ length carry
  pub inside : held ≤ length carry
  pub waiting : waits (look_of (take held carry)) ≡ true
  pub within : base + held + words ≤ most_words

room_is : (base held words : ℕ) (carry : List ℤ) → carry_has_room base held words carry ≡ true → Room base held words carry
unfolding carry_has_room
room_is base held words carry e =
    let p = both _ (leb (base + held + words) most_words) e in
    let q = both _ (waits (look_of (take held carry))) p.0 in
    let r = both (leb most_line (length carry)) (leb held (length carry)) q.0 in
    record {
      long = leb-true most_line (length carry) r.0;
      inside = leb-true held (length carry) r.1;
      waiting = q.1;
      within = leb-true (base + held + words) most_words p.1;
    }

pub has_room : (base held words : ℕ) (carry : List ℤ) → Room base held words carry → carry_has_room base held words carry ≡ true
unfolding carry_has_room
has_room base held words carry r =
    rw (le-leb most_line (length carry) r.long, le-leb held (length carry) r.inside, r.waiting, le-leb (base + held + words) most_words r.within)

-- ---- the carry
pub same_length : (p carry : List ℤ) → length p ≤ length carry → length (p ++ drop (length p) carry) ≡ length carry
same_length p carry h = omega (arith, h, length-append p (drop (length p) carry), length-drop (length p) carry)

-- after a call: it stands at the carry's front and is the last words that came, and behind it nothing has changed. The place and what is held are never
-- beyond the words that came, and while the feed is open they are all of them
pub record Bounded (c : Fed) (carry words : List ℤ) (l : Left) : Type 0 where
  pub holds : Held carry l
  pub last : EndOf (take l.held l.carry) (take c.held carry ++ words)
  pub behind : drop l.held l.carry ≡ drop l.held carry
  pub most : l.base + l.held ≤ c.base + c.held + length words
  pub all : said_is_open l.said ≡ true → l.base + l.held ≡ c.base + c.held + length words

bounded_none : (c : Fed) (carry words : List ℤ) (why : Refusal) (w : World) → Bounded c carry words (stopped (Refused why) c carry w)
unfolding said_is_open
bounded_none c carry words why w =
    record {
      holds = record { few = omega arith; inside = omega arith; same = refl };
      last = none_of (take c.held carry ++ words);
      behind = refl;
      most = omega arith;
      all = not_open (Refused why) refl;
    }

bounded_some : (c : Fed) (carry words : List ℤ) (w : World) (g : Feeding) → most_line ≤ length carry
    → Pushed w (c.base + c.held + length words) (take c.held carry ++ words) g → Bounded c carry words (handed carry g)
bounded_some c carry words w g h after =
    let p = g.pending in
    let few = few_wait p after.sane.waiting in
    let same = same_length p carry (omega (arith, few, h)) in
    record {
      holds = record { few = few; inside = omega (arith, same, few, h); same = same };
      last = subst (λ (z : List ℤ). EndOf z (take c.held carry ++ words)) (sym (take-append_seam p (drop (length p) carry))) after.last;
      behind = drop-append_seam p (drop (length p) carry);
      most = after.sane.most;
      all = after.sane.place;
    }

fed_bounded : (f : Fixed) (c : Fed) (carry words : List ℤ) (w : World) (call : Result ⊤ Refusal) → entered_feed f c carry words w ≡ call
    → said_is_open c.said ≡ true → Bounded c carry words (feed_of f c carry words w)
fed_bounded f c carry words w (Ok tt) e o =
    let sized = both (world_fits f words w) (carry_has_room c.base c.held (length words) carry) (sizes_passed _ _ _ _ e) in
    let room = room_is c.base c.held (length words) carry sized.1 in
    let n : c.base + length (take c.held carry) ≡ c.base + c.held = ap (λ (i : ℕ). c.base + i) (length-take-le c.held carry room.inside) in
    let sane : Sane w (c.base + c.held) (begun c carry w) =
    record { waiting = room.waiting; kept = all_left w; place = λ _. n; most = omega (arith, n); idle = is_open Open open_said } in
    let after = pushes f w (fits_alike f words w sized.0) (c.base + c.held) (begun c carry w) words sane in
    subst (Bounded c carry words) (sym (fed_entered f c carry words w o e)) (bounded_some c carry words w (fed_all f (begun c carry w) words) room.long after)
fed_bounded f c carry words w (Err why) e o =
    subst (Bounded c carry words) (sym (fed_refused f c carry words w o e)) (bounded_none c carry words why w)

pub carry_bounded : (f : Fixed) (c : Fed) (carry words : List ℤ) (w : World) → said_is_open c.said ≡ true → Bounded c carry words (feed_of f c carry words w)
carry_bounded f c carry words w o = fed_bounded f c carry words w (entered_feed f c carry words w) refl o

-- the last call holds nothing, and changes no list
pub record EndIs (c : Fed) (carry : List ℤ) (w : World) (l : Left) : Type 0 where
  pub said : Said
  pub is : l ≡ stopped said c carry w

ended_by : (f : Fixed) (c : Fed) (carry : List ℤ) (w : World) (call : Result ⊤ Refusal) → entered_feed f c carry [] w ≡ call → said_is_open c.said ≡ true → EndIs c carry w (end_of f c carry w)
ended_by f c carry w (Ok tt) e o = record { said = cond (eqb c.held 0) Ended (Refused Line); is = end_entered f c carry w o e }
ended_by f c carry w (Err why) e o = record { said = Refused why; is = end_refused f c carry w o e }

pub end_changes_nothing : (f : Fixed) (c : Fed) (carry : List ℤ) (w : World) → said_is_open c.said ≡ true → EndIs c carry w (end_of f c carry w)
end_changes_nothing f c carry w o = ended_by f c carry w (entered_feed f c carry [] w) refl o

-- ---- whatever the pieces
one_held : (f : Fixed) (carry : List ℤ) (l : Left) (piece : List ℤ) → Held carry l → Held carry (fed_piece f l piece)
one_held f carry l piece h =
    cases (said_is_open l.said)
    (λ o. let b = (carry_bounded f (given l) l.carry piece l.world o).holds in record { few = b.few; inside = b.inside; same = b.same ∙ h.same })
    (λ e. subst (Held carry) (sym (piece_repeats f l e piece)) h)

pieces_held : (f : Fixed) (carry : List ℤ) (l : Left) (pieces : List (List ℤ)) → Held carry l → Held carry (fed_through f l pieces)
pieces_held f carry l [] h = h
pieces_held f carry l (piece ∷ pieces) h = pieces_held f carry (fed_piece f l piece) pieces (one_held f carry l piece h)

pub always_bounded : (f : Fixed) (carry : List ℤ) (w : World) (pieces : List (List ℤ)) → Held carry (fed_through f (started carry w) pieces)
always_bounded f carry w pieces = pieces_held f carry (started carry w) pieces (record { few = omega arith; inside = omega arith; same = refl })

-- ---- a call with words is never the end: 0 is said by the last call alone
fed_goes_on : (f : Fixed) (c : Fed) (carry words : List ℤ) (w : World) (call : Result ⊤ Refusal) → entered_feed f c carry words w ≡ call → said_is_open c.said ≡ true
    → is_ended (feed_of f c carry words w).said ≡ false
unfolding is_ended
fed_goes_on f c carry words w (Ok tt) e o = ap (λ (l : Left). is_ended l.said) (fed_entered f c carry words w o e) ∙ goes_on f (begun c carry w) words refl
fed_goes_on f c carry words w (Err why) e o = ap (λ (l : Left). is_ended l.said) (fed_refused f c carry words w o e)

pub only_the_end_ends : (f : Fixed) (c : Fed) (carry words : List ℤ) (w : World) → said_is_open c.said ≡ true → is_ended (feed_of f c carry words w).said ≡ false
only_the_end_ends f c carry words w o = fed_goes_on f c carry words w (entered_feed f c carry words w) refl o
