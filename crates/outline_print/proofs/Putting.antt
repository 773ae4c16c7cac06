-- A loop that puts a text piece by piece: what is left to put, put where the loop stands, makes the whole. Assumes nothing.
use Rattle.std.specs.Prelude.{Option, Some, None}
use mathlib.Core.List.{List, [], ◌∷◌, ◌++◌}
use mathlib.Core.Path.{◌≡◌, refl, sym, ap, ◌∙◌, subst}
use Prim.Native.Nat.{ℕ, zero, suc, ◌+◌, ◌*◌, ◌/◌, ◌%◌, ◌^◌, ◌≤◌, ◌<◌}
use native.Mathlib.Numerals.{add-one}
use native.Mathlib.Omega.{arith}
use mathlib.Core.Bool.{Bool, true, false, cond, ◌&&◌}
use lib.IntN.{ℤ, pos, negsuc, nat_abs}
use lib.Signed.{mag, non_neg}
use mir.Syntax.{w32, w64}
use mir.Val.{SFits, to_z, of_z}
use mir.ValLaws.{to_z-of_z}
use Rattle.int.proofs.Words.{back32, back64}
use Rattle.int.proofs.Wraps.{wrap_id}
use Rattle.int.specs.Word.{wrap32}
use Rattle.outline_numbers.proofs.Near.{near_small}
use Rattle.outline_numbers.specs.Drawing.{near}
use Rattle.outline_numbers.specs.declared.Stroke.{Stroke}
use Rattle.outline_numbers.specs.declared.Stroke.TheVariants.{Move, Line, Curve, Close}
use lib.ListN.{length, length-append, length-set, set}
use borrow.Author.Tests.{eq-eqb, ne_eqb}
use lib.Seq.{sets, length-sets}
use Rattle.record_print.proofs.Puts.{sets_join}
use Rattle.record_print.specs.Steps.{Put}
use Rattle.outline_print.specs.Lines.{box_line, ended, extent_in, fraction, place_text, places_text, pointed, size_text, stroke_line, tail_by, tail_of}
use Rattle.outline_print.specs.declared.Frame.{Frame}

pub record Putting (whole : List ℕ) (at : ℕ) (before now : List ℕ) (next : ℕ) (rest : List ℕ) : Type 0 where
  pub there : sets now next rest ≡ sets before at whole
  pub behind : next + length rest ≡ at + length whole
  pub size : length now ≡ length before
  pub room : at + length whole ≤ length before

pub put_start : (whole : List ℕ) (at : ℕ) (l : List ℕ) → at + length whole ≤ length l → Putting whole at l l at whole
put_start whole at l h = record { there = refl; behind = refl; size = refl; room = h }

module _ {whole : List ℕ} {at : ℕ} {l₀ l : List ℕ} {next : ℕ} {rest : List ℕ} (p : Putting whole at l₀ l next rest) where
  -- a byte
  pub put_one : {b : ℕ} {more : List ℕ} → rest ≡ b ∷ more → Putting whole at l₀ (set l next b) (next + 1) more
  put_one {b} {more} e = record {
    there = ap (λ (k : ℕ). sets (set l next b) k more) (add-one next) ∙ ap (sets l next) (sym e) ∙ p.there;
    behind = omega (arith, p.behind, ap length e);
    size = length-set l next b ∙ p.size;
    room = p.room;
  }

  pub one_fits : {b : ℕ} {more : List ℕ} → rest ≡ b ∷ more → next < length l
  one_fits e = omega (arith, p.behind, p.room, p.size, ap length e)

  -- a piece
  pub put_piece : {piece more : List ℕ} {then : ℕ} {l' : List ℕ} → rest ≡ piece ++ more → Put piece next then l l' → Putting whole at l₀ l' then more
  put_piece {piece} {more} {then} {l'} e q = record {
    there =
        ap (λ (m : List ℕ). sets m then more) q.there
        ∙ ap (λ (k : ℕ). sets (sets l next piece) k more) q.behind
        ∙ sets_join l next piece more
        ∙ ap (sets l next) (sym e)
        ∙ p.there;
    behind = omega (arith, p.behind, q.behind, ap length e, length-append piece more);
    size = ap length q.there ∙ length-sets l next piece ∙ p.size;
    room = p.room;
  }

  pub piece_fits : (piece more : List ℕ) → rest ≡ piece ++ more → next + length piece ≤ length l
  piece_fits piece more e = omega (arith, p.behind, p.room, p.size, ap length e, length-append piece more)

  -- nothing is left
  pub put_end : rest ≡ [] → Put whole at next l₀ l
  put_end e = record { behind = omega (arith, p.behind, ap length e); there = ap (λ (r : List ℕ). sets l next r) (sym e) ∙ p.there }

-- ---- the digits behind the point
pub tail_none : (n : ℕ) {r : ℕ} → r ≡ 0 → tail_by n r ≡ []
tail_none zero e = refl
tail_none (suc n) e = rw (eq-eqb _ 0 e)

pub tail_more : (n r : ℕ) → (r ≡ 0 → ⊥) → tail_by (suc n) r ≡ (48 + r * 10 / 128) ∷ tail_by n (r * 10 % 128)
tail_more n r h = rw (ne_eqb r 0 h)

pub pointed_none : {r : ℕ} → r ≡ 0 → pointed r ≡ []
unfolding pointed
pointed_none e = rw (eq-eqb _ 0 e)

pub pointed_some : (r : ℕ) → (r ≡ 0 → ⊥) → pointed r ≡ 46 ∷ tail_of r
unfolding pointed
pointed_some r h = rw (ne_eqb r 0 h)

pub put_nothing : (at : ℕ) (l : List ℕ) {t : List ℕ} → t ≡ [] → Put t at at l l
put_nothing at l {t} e = subst (λ (s : List ℕ). Put s at at l l) (sym e) (record { behind = omega arith; there = refl })

-- ---- a sign before a number
by_sign : (z : ℤ) → fraction z ≡ cond (non_neg z) (size_text (nat_abs z)) (45 ∷ size_text (nat_abs z))
unfolding fraction
by_sign (pos n) = refl
by_sign (negsuc n) = refl

pub no_sign : {z y : ℤ} {t : Bool} {m : ℕ} → y ≡ z → t ≡ non_neg y → t ≡ true → m ≡ nat_abs y → fraction z ≡ size_text m
no_sign {z} b t e m = by_sign z ∙ cc

pub a_sign : {z y : ℤ} {t : Bool} {m : ℕ} → y ≡ z → t ≡ non_neg y → t ≡ false → m ≡ nat_abs y → fraction z ≡ 45 ∷ size_text m
a_sign {z} b t e m = by_sign z ∙ cc

near_fits : (z : ℤ) → near z ≡ true → SFits w32 z
near_fits (pos n) h = record { sfits = omega (arith, near_small (pos n) h) }
near_fits (negsuc n) h = record { sfits = omega (arith, near_small (negsuc n) h) }

-- the low word of a number that is near is the number
pub low_read : (z : ℤ) {x : ℤ} → near z ≡ true → SFits w64 z → mag x < 2 ^ 31 → x ≡ wrap32 (to_z w64 (of_z w64 z)) → to_z w32 (of_z w32 x) ≡ z
low_read z {x} n f h e = back32 x h ∙ e ∙ ap wrap32 (to_z-of_z w64 z f) ∙ wrap_id z (near_fits z n)

-- ---- how long the lines are
pub place_long : (x y : ℤ) → length (place_text x y) ≡ length (ended (fraction x) 32) + length (ended (fraction y) 10)
unfolding place_text
place_long x y = length-append (ended (fraction x) 32) (ended (fraction y) 10)

pub move_long : {d : Stroke} {x y : ℤ} → d ≡ Move x y → length (stroke_line d) ≡ 5 + length (place_text x y)
unfolding stroke_line
move_long {d} {x} {y} e = ap (λ (s : Stroke). length (stroke_line s)) e ∙ length-append (109 ∷ 111 ∷ 118 ∷ 101 ∷ 32 ∷ []) (place_text x y)

pub line_long : {d : Stroke} {x y : ℤ} → d ≡ Line x y → length (stroke_line d) ≡ 5 + length (place_text x y)
unfolding stroke_line
line_long {d} {x} {y} e = ap (λ (s : Stroke). length (stroke_line s)) e ∙ length-append (108 ∷ 105 ∷ 110 ∷ 101 ∷ 32 ∷ []) (place_text x y)

pub curve_long : {d : Stroke} {cx cy x y : ℤ} → d ≡ Curve cx cy x y → length (stroke_line d) ≡ 6 + length (places_text cx cy x y)
unfolding stroke_line
curve_long {d} {cx} {cy} {x} {y} e = ap (λ (s : Stroke). length (stroke_line s)) e ∙ length-append (99 ∷ 117 ∷ 114 ∷ 118 ∷ 101 ∷ 32 ∷ []) (places_text cx cy x y)

pub places_long : (a b x y : ℤ) → length (places_text a b x y) ≡ length (ended (fraction a) 32) + (length (ended (fraction b) 32) + length (place_text x y))
unfolding places_text
places_long a b x y =
    length-append (ended (fraction a) 32) (ended (fraction b) 32 ++ place_text x y)
    ∙ ap (λ (n : ℕ). length (ended (fraction a) 32) + n) (length-append (ended (fraction b) 32) (place_text x y))

pub close_long : {d : Stroke} → d ≡ Close → length (stroke_line d) ≡ 6
unfolding stroke_line
close_long e = ap (λ (s : Stroke). length (stroke_line s)) e

pub around_long : {f : Option Frame} {e : Frame} → f ≡ Some e → length (box_line (extent_in f)) ≡ 4 + length (places_text e.left e.bottom e.right e.top)
unfolding box_line
around_long {f} {e} h = ap (λ (g : Option Frame). length (box_line (extent_in g))) h ∙ length-append (98 ∷ 111 ∷ 120 ∷ 32 ∷ []) (places_text e.left e.bottom e.right e.top)

pub none_long : {f : Option Frame} → f ≡ None → length (box_line (extent_in f)) ≡ 9
unfolding box_line
none_long h = ap (λ (g : Option Frame). length (box_line (extent_in g))) h

-- ---- numbers as they are read back
abbrev pub again : ℤ → ℤ
again z = to_z w64 (of_z w64 z)

pub number_back : (z : ℤ) → mag z < 2 ^ 63 → fraction (again z) ≡ fraction z
number_back z f = ap fraction (back64 z f)

pub place_back : (x y : ℤ) → mag x < 2 ^ 63 → mag y < 2 ^ 63 → place_text (again x) (again y) ≡ place_text x y
place_back x y f g = let a = back64 x f in let b = back64 y g in λ i. place_text (a i) (b i)

pub places_back : (a b x y : ℤ) → mag a < 2 ^ 63 → mag b < 2 ^ 63 → mag x < 2 ^ 63 → mag y < 2 ^ 63 → places_text (again a) (again b) (again x) (again y) ≡ places_text a b x y
places_back a b x y e f g h = let p = back64 a e in let q = back64 b f in let r = back64 x g in let s = back64 y h in λ i. places_text (p i) (q i) (r i) (s i)

pub near_back : (x y : ℤ) → mag x < 2 ^ 63 → mag y < 2 ^ 63 → near x && near y ≡ true → near (again x) && near (again y) ≡ true
near_back x y f g e = let a = back64 x f in let b = back64 y g in (λ i. near (a i) && near (b i)) ∙ e

pub nears_back : (a b x y : ℤ) → mag a < 2 ^ 63 → mag b < 2 ^ 63 → mag x < 2 ^ 63 → mag y < 2 ^ 63 → near a && near b && near x && near y ≡ true
    → near (again a) && near (again b) && near (again x) && near (again y) ≡ true
nears_back a b x y e f g h k = let p = back64 a e in let q = back64 b f in let r = back64 x g in let s = back64 y h in (λ i. near (p i) && near (q i) && near (r i) && near (s i)) ∙ k
