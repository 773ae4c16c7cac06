-- A line as its numbers, each with the byte behind it, and the points' lines one behind the other. Assumes nothing.
use mathlib.Core.List.{List, [], ◌++◌, ◌∷◌, append_assoc}
use mathlib.Core.Path.{◌∙◌, ◌≡◌, ap, ap₂, refl, sym}
use Prim.Native.Nat.{◌+◌, ◌≤◌, ◌<◌, ℕ}
use native.Mathlib.Omega.{arith}
use lib.IntN.{ℤ}
use lib.ListN.{length, length-append}
use lib.Seq.{length-sets, sets}
use Rattle.int.specs.Word.{of_bits}
use Rattle.words.proofs.Parts.{left, left_all, left_next, left_none}
use Rattle.words.specs.Lists.{flag_of, flags_of, numbers_of, word}
use Rattle.record_layout.specs.Order.{list_place}
use Rattle.record_layout.specs.declared.Layout.{Layout}
use Rattle.record_run.specs.declared.Replayed.{Replayed}
use Rattle.record_print.specs.Print.{answer_line, glyph_lines, point_line, point_lines}
use Rattle.record_print.specs.Steps.{Put, ended_by}
use Rattle.record_print.specs.Text.{decimal, line, signed_decimal}
use Rattle.record_print.proofs.Puts.{sets_join}

-- ---- a line in pieces
pub three_pieces : (a b c : List ℕ) → ended_by a 32 ++ (ended_by b 32 ++ ended_by c 10) ≡ line (a ∷ b ∷ c ∷ [])
three_pieces a b c = append_assoc a (32 ∷ []) (ended_by b 32 ++ ended_by c 10) ∙ ap (λ (l : List ℕ). a ++ (32 ∷ l)) (append_assoc b (32 ∷ []) (ended_by c 10))

pub four_pieces : (a b c d : List ℕ) → ended_by a 32 ++ (ended_by b 32 ++ (ended_by c 32 ++ ended_by d 10)) ≡ line (a ∷ b ∷ c ∷ d ∷ [])
four_pieces a b c d = append_assoc a (32 ∷ []) (ended_by b 32 ++ (ended_by c 32 ++ ended_by d 10)) ∙ ap (λ (l : List ℕ). a ++ (32 ∷ l)) (three_pieces b c d)

pub three_long : (a b c : List ℕ) → length (line (a ∷ b ∷ c ∷ [])) ≡ length (ended_by a 32) + (length (ended_by b 32) + length (ended_by c 10))
three_long a b c =
    ap length (sym (three_pieces a b c))
    ∙ length-append (ended_by a 32) (ended_by b 32 ++ ended_by c 10)
    ∙ ap (λ (n : ℕ). length (ended_by a 32) + n) (length-append (ended_by b 32) (ended_by c 10))

pub four_long : (a b c d : List ℕ) → length (line (a ∷ b ∷ c ∷ d ∷ [])) ≡ length (ended_by a 32) + (length (ended_by b 32) + (length (ended_by c 32) + length (ended_by d 10)))
four_long a b c d =
    ap length (sym (four_pieces a b c d))
    ∙ length-append (ended_by a 32) (ended_by b 32 ++ (ended_by c 32 ++ ended_by d 10))
    ∙ ap (λ (n : ℕ). length (ended_by a 32) + n)
    (length-append (ended_by b 32) (ended_by c 32 ++ ended_by d 10) ∙ ap (λ (n : ℕ). length (ended_by b 32) + n) (length-append (ended_by c 32) (ended_by d 10)))

-- ---- points, from the i-th on
abbrev pub next_line : List ℕ → Layout → ℕ → List ℕ
next_line out l i = point_line (of_bits (word out (list_place l 4 + i))) (of_bits (word out (list_place l 5 + i))) (flag_of (word out (list_place l 6 + i)))

unfoldable pub lines_left : List ℕ → Layout → ℕ → List ℕ
lines_left out l i =
    point_lines (numbers_of (left out (list_place l 4) l.points i)) (numbers_of (left out (list_place l 5) l.points i)) (flags_of (left out (list_place l 6) l.points i))

module _ (out : List ℕ) (l : Layout) where
  abbrev lines : List ℕ → List ℕ → List ℕ → List ℕ
  lines xs ys fs = point_lines (numbers_of xs) (numbers_of ys) (flags_of fs)

  same_lines : {xs xs' ys ys' fs fs' : List ℕ} → xs ≡ xs' → ys ≡ ys' → fs ≡ fs' → lines xs ys fs ≡ lines xs' ys' fs'
  same_lines {xs} {xs'} {ys} {ys'} {fs} {fs'} e g h = ap₂ (λ (a b : List ℕ). lines a b fs) e g ∙ ap (lines xs' ys') h

  pub all_left : glyph_lines out l ≡ lines_left out l 0
  unfolding lines_left
  all_left = same_lines (left_all out (list_place l 4) l.points) (left_all out (list_place l 5) l.points) (left_all out (list_place l 6) l.points)

  pub next_left : (i : ℕ) → i < l.points → lines_left out l i ≡ next_line out l i ++ lines_left out l (i + 1)
  unfolding lines_left
  next_left i h = same_lines (left_next out (list_place l 4) l.points i h) (left_next out (list_place l 5) l.points i h) (left_next out (list_place l 6) l.points i h)

  pub none_left : (i : ℕ) → l.points ≤ i → lines_left out l i ≡ []
  unfolding lines_left
  none_left i h = same_lines (left_none out (list_place l 4) l.points i h) (left_none out (list_place l 5) l.points i h) (left_none out (list_place l 6) l.points i h)

-- ---- pieces put so far, and what is left of the text
pub record Printing (all rest : List ℕ) (start at : ℕ) (l₀ l : List ℕ) : Type 0 where
  pub whole : sets l at rest ≡ sets l₀ start all
  pub long : at + length rest ≡ start + length all
  pub size : length l ≡ length l₀

pub print_start : {all rest : List ℕ} (start : ℕ) (l : List ℕ) → all ≡ rest → Printing all rest start start l l
print_start start l e = record { whole = ap (sets l start) (sym e); long = ap (λ (t : List ℕ). start + length t) (sym e); size = refl }

-- there is room for the next piece
pub print_room : {all rest : List ℕ} {start at : ℕ} {l₀ l : List ℕ} (piece more : List ℕ) → Printing all rest start at l₀ l → rest ≡ piece ++ more → start + length all ≤ length l₀ → at + length piece ≤ length l
print_room piece more v e h = omega (arith, v.long, v.size, ap length e, length-append piece more)

pub print_turn : {all rest more piece : List ℕ} {start at next : ℕ} {l₀ l m : List ℕ} → Printing all rest start at l₀ l → rest ≡ piece ++ more → Put piece at next l m → Printing all more start next l₀ m
print_turn {all} {rest} {more} {piece} {start} {at} {next} {l₀} {l} {m} v e p =
    record {
      whole =
          ap₂ (λ (k : List ℕ) (j : ℕ). sets k j more) p.there p.behind
          ∙ sets_join l at piece more
          ∙ ap (sets l at) (sym e)
          ∙ v.whole;
      long = omega (arith, v.long, p.behind, ap length e, length-append piece more);
      size = ap length p.there ∙ length-sets l at piece ∙ v.size;
    }

pub print_end : {all rest : List ℕ} {start at : ℕ} {l₀ l : List ℕ} → Printing all rest start at l₀ l → rest ≡ [] → Put all start at l₀ l
print_end {all} {rest} {start} {at} {l₀} {l} v e =
    record { behind = omega (arith, v.long, ap length e); there = ap (sets l at) (sym e) ∙ v.whole }
