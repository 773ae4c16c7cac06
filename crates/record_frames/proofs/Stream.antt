-- A stream of frames: answers one after the other are the answers of all, a frame is read as it was made, and what is kept of a record answers for it.
-- Assumes nothing.
use Rattle.std.specs.Prelude.{Err}
use mathlib.Core.Bool.{Bool, false, true}
use mathlib.Core.List.{List, [], ◌++◌, ◌∷◌, append_assoc, append-nil}
use mathlib.Core.Path.{◌∙◌, ◌≡◌, ap, refl, sym}
use Prim.Native.Nat.{◌+◌, ◌<◌, ◌≤◌, ◌^◌, min, ℕ}
use native.Mathlib.Nat.{min-eq_left, min-eq_right}
use native.Mathlib.Omega.{arith}
use borrow.Author.Tests.{le-leb, leb-false, leb-true, lt-leb}
use lib.Dec.{leb}
use lib.ListN.{drop, length, length-append, take}
use lib.Seq.{length-take-le, take-append_seam, take_at, take-length}
use Rattle.words.specs.Words.{word_at}
use Rattle.words.proofs.Back.{word_back}
use Rattle.rules.specs.declared.Rules.{Rules}
use Rattle.record_layout.specs.Order.{most_bytes}
use Rattle.record_read.specs.Read.{Read, open_of, read_as, read_of}
use Rattle.record_read.specs.Read.Read.{Refused}
use Rattle.record_read.specs.declared.Damage.TheVariants.{TooLong}
use Rattle.record_replay.specs.Shelf.{on_read, shelf_within}
use Rattle.record_print.specs.Print.{blank, print_of, room, text_of}
use Rattle.record_frames.specs.Frames.{Put, answers_of, framed, record_room}

-- ---- one after the other
pub answers_one_more : (rules : Rules) (rs : List (List ℕ)) (r : List ℕ) → answers_of rules (rs ++ (r ∷ [])) ≡ answers_of rules rs ++ framed (print_of rules r)
answers_one_more rules [] r = append-nil (framed (print_of rules r))
answers_one_more rules (q ∷ rs) r =
    ap (λ (l : List ℕ). framed (print_of rules q) ++ l) (answers_one_more rules rs r)
    ∙ sym (append_assoc (framed (print_of rules q)) (answers_of rules rs) (framed (print_of rules r)))

-- behind the answers of some records `answer_frame` puts the next one's: what then stands there are the answers of all
pub answered_next : (rules : Rules) (rs : List (List ℕ)) (r : List ℕ) {at next : ℕ} {before after : List ℕ} → at ≤ length before → take at before ≡ answers_of rules rs
    → Put (framed (print_of rules r)) at next before after → take next after ≡ answers_of rules (rs ++ (r ∷ []))
answered_next rules rs r {at} {next} {before} {after} h e p =
    let frame : List ℕ = framed (print_of rules r) in
    let long : length (take at before ++ frame) ≡ next = omega (arith, length-append (take at before) frame, length-take-le at before h, p.behind) in
    ap (take next) p.there
    ∙ take_at (take at before ++ frame) (drop next before) next long
    ∙ ap (λ (l : List ℕ). l ++ frame) e
    ∙ sym (answers_one_more rules rs r)

-- ---- a frame is read as it was made, whatever stands behind it
pub frame_read : (text rest : List ℕ) → length text < 2 ^ 32 → (word_at (framed text ++ rest) 0 ≡ length text) × (take (length text) (drop 4 (framed text ++ rest)) ≡ text)
unfolding framed
frame_read text rest h =
    let some : 4 ≤ length (framed text ++ rest) = omega arith in
    (rw (le-leb 4 (length (framed text ++ rest)) some) (word_back (length text) h), take-append_seam text rest)

-- ---- what is kept of a record
too_long : (bytes : List ℕ) → most_bytes < length bytes → read_of bytes ≡ Refused 17
unfolding open_of
too_long bytes h =
    let refused : open_of bytes ≡ Err TooLong = rw (lt-leb (length bytes) most_bytes h) refl in
    ap (read_as bytes) refused

-- the bytes that are kept of a record answer as all of it: of one that is too long they are too long
pub cut_alike : (rules : Rules) (bytes : List ℕ) → print_of rules (take (min (length bytes) record_room) bytes) ≡ print_of rules bytes
unfolding print_of shelf_within
cut_alike rules bytes = by_length (leb (length bytes) most_bytes) refl
  where
    by_length : (t : Bool) → leb (length bytes) most_bytes ≡ t → print_of rules (take (min (length bytes) record_room) bytes) ≡ print_of rules bytes
    by_length true e =
        let few : length bytes ≤ record_room = omega (arith, leb-true (length bytes) most_bytes e) in
        ap (λ (n : ℕ). print_of rules (take n bytes)) (min-eq_left few) ∙ ap (print_of rules) (take-length bytes)
    by_length false e =
        let many : most_bytes < length bytes = leb-false (length bytes) most_bytes e in
        let all : record_room ≤ length bytes = omega (arith, many) in
        let kept : List ℕ = take record_room bytes in
        let still : most_bytes < length kept = omega (arith, length-take-le record_room bytes all) in
        ap (λ (n : ℕ). print_of rules (take n bytes)) (min-eq_right all)
        ∙ ap (λ (r : Read). text_of (on_read rules room blank r)) (too_long kept still ∙ sym (too_long bytes many))
