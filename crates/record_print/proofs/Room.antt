-- No record's text is longer than the room for it. Assumes nothing.
use Rattle.std.specs.Prelude.{Result, Ok, Err}
use Rattle.record_read.specs.declared.Damage.{Damage}
use mathlib.Core.Bool.{Bool, false, true}
use mathlib.Core.List.{List, [], ◌++◌, ◌∷◌}
use mathlib.Core.Path.{◌∙◌, ◌≡◌, ap, refl, subst, sym}
use Prim.Native.Nat.{◌*◌, ◌+◌, ◌-◌, ◌≤◌, ◌<◌, ◌^◌, suc, zero, ℕ}
use native.Mathlib.Omega.{arith}
use borrow.Author.Tests.{ltb-false, ltb-true}
use lib.Dec.{ltb}
use lib.IntN.{negsuc, pos}
use lib.ListN.{drop, length, length-append}
use lib.Seq.{length-sets, length-take-le, sets-eq}
use mir.Val.{sel}
use Rattle.int.specs.Word.{of_bits}
use Rattle.words.specs.Lists.{flag_of, flags_of, numbers_of, part, word}
use Rattle.record_layout.specs.Order.{list_place}
use Rattle.record_layout.specs.declared.Layout.{Layout}
use Rattle.record_read.proofs.Editions.{kept_some}
use Rattle.record_read.proofs.Whole.{layout_is, layout_kept, sound}
use Rattle.record_read.specs.Read.{layout_of, open_of, read_as, trailer_word}
use Rattle.record_run.specs.After.{Shelved, shelved}
use Rattle.record_run.specs.declared.Replayed.{Replayed}
use Rattle.rules.specs.declared.Rules.{Rules}
use Rattle.record_replay.specs.Shelf.{on_read, shelf_within}
use Rattle.record_print.specs.Print.{Front, answer_line, blank, glyph_lines, point_line, point_lines, print_of, room, text_of}
use Rattle.record_print.specs.Steps.{Put, ended_by}
use Rattle.record_print.specs.Text.{decimal, signed_decimal}
use Rattle.record_print.proofs.Decimal.{digits_most}
use Rattle.record_print.proofs.Lines.{four_long, three_long}
use Rattle.record_print.proofs.Puts.{put_join}

-- ---- a number
one_more : (t : List ℕ) (e : ℕ) → length (ended_by t e) ≡ length t + 1
one_more t e = length-append t (e ∷ [])

signed_most : (w : ℕ) → length (signed_decimal (of_bits w)) ≤ 11
signed_most w = by_sign (ltb w (2 ^ 31)) refl
  where
    by_sign : (t : Bool) → ltb w (2 ^ 31) ≡ t → length (signed_decimal (sel t (pos w) (negsuc (2 ^ 32 - suc w)))) ≤ 11
    by_sign true e = omega (arith, digits_most 9 w (omega (arith, ltb-true w (2 ^ 31) e)))
    by_sign false e = omega (arith, digits_most 9 (suc (2 ^ 32 - suc w)) (omega (arith, ltb-false w (2 ^ 31) e)))

-- ---- a line
point_most : (a b c : ℕ) → length (point_line (of_bits a) (of_bits b) (flag_of c)) ≤ 28
point_most a b c =
    let x = signed_decimal (of_bits a) in
    let y = signed_decimal (of_bits b) in
    let f = decimal (flag_of c) in
    omega (arith, three_long x y f, one_more x 32, one_more y 32, one_more f 10, signed_most a, signed_most b, digits_most 2 (flag_of c) (omega arith))

pub answer_most : (r : Replayed) → r.number < 2 ^ 32 → r.place < 2 ^ 64 → r.lines < 2 ^ 64 → r.detail < 2 ^ 64 → length (answer_line r) ≤ 74
answer_most r a b c d =
    let n = decimal r.number in
    let p = decimal r.place in
    let l = decimal r.lines in
    let t = decimal r.detail in
    omega (
      arith,
      four_long n p l t,
      one_more n 32,
      one_more p 32,
      one_more l 32,
      one_more t 10,
      digits_most 9 r.number (omega arith),
      digits_most 19 r.place (omega arith),
      digits_most 19 r.lines (omega arith),
      digits_most 19 r.detail (omega arith),
    )

-- ---- the points
lines_most : (out : List ℕ) (a b c n : ℕ) → length (point_lines (numbers_of (part out a n)) (numbers_of (part out b n)) (flags_of (part out c n))) ≤ 28 * n
lines_most out a b c zero = omega arith
lines_most out a b c (suc n) =
    let first = point_line (of_bits (word out a)) (of_bits (word out b)) (flag_of (word out c)) in
    let rest = point_lines (numbers_of (part out (suc a) n)) (numbers_of (part out (suc b) n)) (flags_of (part out (suc c) n)) in
    omega (arith, length-append first rest, point_most (word out a) (word out b) (word out c), lines_most out (suc a) (suc b) (suc c) n)

pub glyph_most : (out : List ℕ) (l : Layout) → length (glyph_lines out l) ≤ 28 * l.points
glyph_most out l = lines_most out (list_place l 4) (list_place l 5) (list_place l 6) l.points

-- a point takes seven words of a record, which has 6,110 for its lists
pub few_points : (rules : Rules) (most : ℕ) (bytes out : List ℕ) → (shelf_within rules most bytes out).said.layout.points ≤ 872
unfolding shelf_within on_read
few_points rules most bytes out = by_verdict (open_of bytes) refl
  where
    by_verdict : (o : Result Layout Damage) → open_of bytes ≡ o → (on_read rules most out (read_as bytes o)).said.layout.points ≤ 872
    by_verdict (Ok l) e =
        let s = sound bytes l e in
        let m = layout_of bytes in
        let few : m.points ≤ 872 = omega (arith, s.adds_up, s.size_is, kept_some (trailer_word bytes 5) s.kept_is) in
        subst (λ (n : ℕ). n ≤ 872) (ap (λ (k : Layout). k.points) (layout_is bytes l e) ∙ sym (ap (λ (k : Layout). k.points) (layout_kept bytes l))) few
    by_verdict (Err why) e = omega arith

-- ---- the text
-- TEXT_ROOM
abbrev pub text_room : ℕ
text_room = 24576

-- the answer's line and the points' are the whole of a text
pub text_put : (r : Replayed) (out t : List ℕ) {n m : ℕ} {l₀ l₁ l₂ : List ℕ} → answer_line r ++ glyph_lines out r.layout ≡ t → r.layout.points ≤ 872
    → Put (answer_line r) 0 n l₀ l₁ → Put (glyph_lines out r.layout) n m l₁ l₂ → length (answer_line r) ≤ 74 → length l₀ ≡ text_room
    → (m ≡ length t) × (Front m l₂ × (l₂ ≡ t ++ drop m l₀))
text_put r out t {n} {m} {l₀} {l₁} {l₂} same few p q a h =
    let whole : Put t 0 m l₀ l₂ = subst (λ (s : List ℕ). Put s 0 m l₀ l₂) same (put_join p q) in
    let long : m ≡ length t = omega (arith, whole.behind) in
    let roomy : m ≤ text_room = omega (arith, long, ap length same, length-append (answer_line r) (glyph_lines out r.layout), few, glyph_most out r.layout, a) in
    let within : m ≤ length l₂ = omega (arith, roomy, h, ap length whole.there, length-sets l₀ 0 t) in (
      long,
      ((within, sym (length-take-le m l₂ within)), whole.there ∙ sets-eq t l₀ 0 (omega (arith, long, roomy, h)) ∙ ap (λ (k : ℕ). t ++ drop k l₀) (sym whole.behind)),
    )

module _ (rules : Rules) (bytes : List ℕ) {r : Replayed} {out : List ℕ} (e : shelved r out ≡ shelf_within rules room bytes blank) where
  few : r.layout.points ≤ 872
  few = subst (λ (s : Shelved). s.said.layout.points ≤ 872) (sym e) (few_points rules room bytes blank)

  pub lines_few : length (glyph_lines out r.layout) ≤ 24416
  lines_few = omega (arith, few, glyph_most out r.layout)

  pub printed : {n m : ℕ} {l₀ l₁ l₂ : List ℕ} → Put (answer_line r) 0 n l₀ l₁ → Put (glyph_lines out r.layout) n m l₁ l₂ → length (answer_line r) ≤ 74 → length l₀ ≡ text_room
      → (m ≡ length (print_of rules bytes)) × (Front m l₂ × (l₂ ≡ print_of rules bytes ++ drop m l₀))
  unfolding print_of text_of
  printed p q a t = text_put r out (print_of rules bytes) (ap text_of e) few p q a t
