-- The answer's line and the outline are the whole text, and there is room for them. Assumes nothing.
use Rattle.std.specs.Prelude.{Result, Ok, Err}
use Rattle.record_read.specs.declared.Damage.{Damage}
use mathlib.Core.Bool.{Bool, cond, true, false}
use mathlib.Core.List.{List, [], ◌++◌, append-nil}
use mathlib.Core.Path.{◌∙◌, ◌≡◌, ap, refl, subst, sym}
use Prim.Native.Nat.{ℕ, ◌+◌, ◌≤◌, ◌<◌}
use native.Mathlib.Omega.{arith}
use borrow.Author.Tests.{le-leb, lt-leb}
use lib.Dec.{leb}
use lib.ListN.{drop, length, length-append}
use lib.Seq.{length-sets, length-take-le, sets-eq}
use Rattle.int.specs.Word.{of_bits}
use Rattle.record_layout.specs.Order.{list_place}
use Rattle.record_layout.specs.declared.Layout.{Layout}
use Rattle.record_print.proofs.Puts.{put_join}
use Rattle.record_print.proofs.Room.{few_points as points_few}
use Rattle.record_print.specs.Print.{Front, answer_line, blank, room}
use Rattle.record_print.specs.Steps.{Put}
use Rattle.record_read.proofs.Whole.{layout_kept}
use Rattle.record_read.specs.Read.{open_of, read_as}
use Rattle.record_replay.proofs.Cases.{within}
use Rattle.record_replay.specs.Shelf.{on_read, shelf_within}
use Rattle.record_run.specs.After.{Shelved, shelved}
use Rattle.record_run.specs.declared.Replayed.{Replayed}
use Rattle.rules.specs.declared.Rules.{Rules}
use Rattle.words.proofs.Parts.{mapped_length}
use Rattle.outline_print.specs.Lines.{glyph_text}
use Rattle.outline_print.specs.Print.{glyph_in, outline_of, text_of}
use Rattle.outline_print.proofs.Room.{glyph_most}

-- no list has more words than a record has between its state and its trailer
contours_few : (rules : Rules) (most : ℕ) (bytes out : List ℕ) → (shelf_within rules most bytes out).said.layout.contours ≤ 6110
unfolding shelf_within on_read
contours_few rules most bytes out = by_verdict (open_of bytes) refl
  where
    by_verdict : (o : Result Layout Damage) → open_of bytes ≡ o → (on_read rules most out (read_as bytes o)).said.layout.contours ≤ 6110
    by_verdict (Ok l) e = subst (λ (n : ℕ). n ≤ 6110) (sym (ap (λ (k : Layout). k.contours) (layout_kept bytes l))) (within bytes l e).1.0
    by_verdict (Err why) e = omega arith

module _ (rules : Rules) (bytes : List ℕ) {r : Replayed} {out : List ℕ} (e : shelved r out ≡ shelf_within rules room bytes blank) where
  pub few_points : r.layout.points ≤ 872
  few_points = subst (λ (s : Shelved). s.said.layout.points ≤ 872) (sym e) (points_few rules room bytes blank)

  pub few_contours : r.layout.contours ≤ 6110
  few_contours = subst (λ (s : Shelved). s.said.layout.contours ≤ 6110) (sym e) (contours_few rules room bytes blank)

  pub short_outline : length (glyph_text (glyph_in out r.layout)) ≤ 183190
  short_outline =
      let n = mapped_length of_bits out (list_place r.layout 4) r.layout.points in
      glyph_most (glyph_in out r.layout) (subst (λ (k : ℕ). k ≤ 872) (sym n) few_points)

  -- a text of two pieces that is put at the front
  module _ (rest : List ℕ) (is : text_of (shelved r out) ≡ answer_line r ++ rest) (small : length rest ≤ 183190) where
    whole_is : answer_line r ++ rest ≡ outline_of rules bytes
    unfolding outline_of
    whole_is = sym is ∙ ap text_of e

    pub front : {m : ℕ} {l₀ l : List ℕ} → Put (answer_line r ++ rest) 0 m l₀ l → length (answer_line r) ≤ 74 → length l₀ ≡ 183296
        → (m ≡ length (outline_of rules bytes)) × (Front m l × (l ≡ outline_of rules bytes ++ drop m l₀))
    front {m} {l₀} {l} p a t =
        let whole : Put (outline_of rules bytes) 0 m l₀ l = subst (λ (s : List ℕ). Put s 0 m l₀ l) whole_is p in
        let long : m ≡ length (outline_of rules bytes) = omega (arith, whole.behind) in
        let roomy : m ≤ 183296 = omega (arith, long, ap length whole_is, length-append (answer_line r) rest) in
        let inside : m ≤ length l = omega (arith, roomy, t, ap length whole.there, length-sets l₀ 0 (outline_of rules bytes)) in (
          long,
          ((inside, sym (length-take-le m l inside)), whole.there ∙ sets-eq (outline_of rules bytes) l₀ 0 (omega (arith, long, roomy, t)) ∙ ap (λ (k : ℕ). outline_of rules bytes ++ drop k l₀) (sym whole.behind)),
        )

  pub printed : {n m : ℕ} {l₀ l₁ l₂ : List ℕ} → r.number ≤ 1 → Put (answer_line r) 0 n l₀ l₁ → Put (glyph_text (glyph_in out r.layout)) n m l₁ l₂ → length (answer_line r) ≤ 74 → length l₀ ≡ 183296
      → (m ≡ length (outline_of rules bytes)) × (Front m l₂ × (l₂ ≡ outline_of rules bytes ++ drop m l₀))
  unfolding text_of
  printed h p q a t =
      front (glyph_text (glyph_in out r.layout)) (ap (λ (b : Bool). answer_line r ++ cond b (glyph_text (glyph_in out r.layout)) []) (le-leb r.number 1 h)) short_outline (put_join p q) a t

  pub printed_refused : {n : ℕ} {l₀ l₁ : List ℕ} → 1 < r.number → Put (answer_line r) 0 n l₀ l₁ → length (answer_line r) ≤ 74 → length l₀ ≡ 183296
      → (n ≡ length (outline_of rules bytes)) × (Front n l₁ × (l₁ ≡ outline_of rules bytes ++ drop n l₀))
  unfolding text_of
  printed_refused {n} {l₀} {l₁} h p a t =
      front [] (ap (λ (b : Bool). answer_line r ++ cond b (glyph_text (glyph_in out r.layout)) []) (lt-leb r.number 1 h)) (omega arith)
      (subst (λ (s : List ℕ). Put s 0 n l₀ l₁) (sym (append-nil (answer_line r))) p) a t
