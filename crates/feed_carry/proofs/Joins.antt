-- Words that came, behind those that wait. Assumes nothing.
use mathlib.Core.Bool.{Bool, false, true}
use mathlib.Core.List.{List, [], ◌++◌}
use mathlib.Core.Path.{◌∙◌, ◌≡◌, ap, ap₂, refl, subst, sym}
use Prim.Native.Nat.{ℕ, ◌+◌, ◌-◌, ◌<◌, ◌≤◌, min}
use native.Mathlib.Omega.{arith}
use borrow.Author.Tests.{leb-false, leb-true}
use lib.Dec.{leb}
use lib.IntN.{ℤ}
use lib.ListN.{drop, length, length-append, length-take, take, take-append-drop}
use lib.Seq.{length-take-le, take_all, take-append-add, take_at}
use Rattle.feed_look.specs.Look.{look_of, most_line}
use Rattle.feed_look.specs.Steps.{Put, whole_by}
use Rattle.feed_look.specs.declared.Seen.{Seen}
use Rattle.feed_look.specs.declared.Seen.TheVariants.{Bad, Waits, Whole}
use Rattle.feed_look.specs.declared.Seen.TheVariants.{Long as LongLine}
use Rattle.feed_look.proofs.Looks.{few, grown, is_waits}
use Rattle.answer.specs.declared.Refusal.TheVariants.{Line}
use Rattle.graphics.specs.declared.GraphicsState.{GraphicsState}
use Rattle.feed_carry.specs.Carry.{waits}
use Rattle.feed_carry.specs.Steps.{fed, kept, rest_by}
use Rattle.feed_carry.specs.declared.Fed.{Fed}
use Rattle.feed_carry.specs.declared.Said.TheVariants.{Long, Open, Refused}

-- ---- the front of words is seen as all of them, where it is as long as a line may be
pub as_waits : (s : Seen) → is_waits s ≡ waits s
unfolding is_waits waits
as_waits Waits = refl
as_waits Bad = refl
as_waits LongLine = refl
as_waits (Whole n) = refl

by_waits : (q : List ℤ) → most_line ≤ length q → (t : Bool) → is_waits (look_of (take most_line q)) ≡ t → look_of (take most_line q) ≡ look_of q
by_waits q h true e = let n = few (take most_line q) e in absurd (omega (arith, n, length-take-le most_line q h))
by_waits q h false e = sym (grown (take most_line q) (drop most_line q) e) ∙ ap look_of (take-append-drop most_line q)

by_length : (q : List ℤ) (t : Bool) → leb (length q) most_line ≡ t → look_of (take most_line q) ≡ look_of q
by_length q true e = ap look_of (take_all most_line q (leb-true (length q) most_line e))
by_length q false e = let h = leb-false (length q) most_line e in by_waits q (omega (arith, h)) (is_waits (look_of (take most_line q))) refl

pub look_front : (q : List ℤ) → look_of (take most_line q) ≡ look_of q
look_front q = by_length q (leb (length q) most_line) refl

pub waits_short : (q : List ℤ) → look_of q ≡ Waits → length q < most_line
unfolding is_waits
waits_short q e = few q (ap is_waits e)

-- ---- two lists put one behind the other
pub joined : (p l : List ℤ) {n r : ℕ} {a b d : List ℤ} → Put p 0 n a b → Put l n r b d → (take r d ≡ p ++ l) × (r ≡ length (p ++ l))
joined p l {n} {r} {a} {b} {d} x y =
    let m : length p ≡ n = omega (arith, x.behind) in
    let front : take n b ≡ p = ap (take n) x.there ∙ take_at p (drop n a) n m in
    let all : d ≡ (p ++ l) ++ drop r b = y.there ∙ ap (λ (z : List ℤ). z ++ l ++ drop r b) front in
    let k : r ≡ length (p ++ l) = omega (arith, y.behind, x.behind, length-append p l) in
    (ap (take r) all ∙ take_at (p ++ l) (drop r b) r (sym k), k)

-- as many of the second as a line may have
module _ (held : ℕ) (p l : List ℤ) (e : length p ≡ held) (h : held ≤ most_line) where
  pub whole_front : length l < most_line - held → p ++ l ≡ take most_line (p ++ l)
  whole_front s = sym (take_all most_line (p ++ l) (omega (arith, s, e, h, length-append p l)))

  pub part_front : p ++ take (most_line - held) l ≡ take most_line (p ++ l)
  part_front =
      let m : length p + (most_line - held) ≡ most_line = omega (arith, e, h) in
      sym (take-append-add p l (most_line - held)) ∙ ap (λ (n : ℕ). take n (p ++ l)) m

pub joined_front : {j q : List ℤ} {r : ℕ} (d : List ℤ) → (take r d ≡ j) × (r ≡ length j) → j ≡ q → (take r d ≡ q) × (r ≡ length q)
joined_front d x e = (x.0 ∙ e, x.1 ∙ ap length e)

-- ---- words put away, by what was seen
module _ (base held lines : ℕ) (s : GraphicsState) (words carry : List ℤ) {d : Fed} {seen : Seen} where
  pub rest_waits : {r : ℕ} {carry' : List ℤ} → seen ≡ Waits → d ≡ fed Open base r lines s → Put words held r carry carry'
      → kept d carry' ≡ rest_by base held lines s words carry seen
  unfolding rest_by
  rest_waits t e x =
      ap₂ kept e x.there
      ∙ ap (λ (n : ℕ). kept (fed Open base n lines s) (take held carry ++ words ++ drop n carry)) x.behind
      ∙ sym (ap (rest_by base held lines s words carry) t)

  pub rest_bad : seen ≡ Bad → d ≡ fed (Refused Line) base 0 lines s → kept d carry ≡ rest_by base held lines s words carry seen
  unfolding rest_by
  rest_bad t e = ap (λ (c : Fed). kept c carry) e ∙ sym (ap (rest_by base held lines s words carry) t)

  pub rest_long : seen ≡ LongLine → d ≡ fed Long base 0 lines s → kept d carry ≡ rest_by base held lines s words carry seen
  unfolding rest_by
  rest_long t e = ap (λ (c : Fed). kept c carry) e ∙ sym (ap (rest_by base held lines s words carry) t)

  pub rest_whole : {n : ℕ} → seen ≡ Whole n → d ≡ fed Open base 0 lines s → kept d carry ≡ rest_by base held lines s words carry seen
  unfolding rest_by
  rest_whole t e = ap (λ (c : Fed). kept c carry) e ∙ sym (ap (rest_by base held lines s words carry) t)

-- ---- what is brought together is no longer than a line
pub joined_fits : (q : List ℤ) (r : ℕ) → r ≡ length (take most_line q) → r ≤ most_line
joined_fits q r e = let b : length (take most_line q) ≡ min most_line (length q) = length-take most_line q in omega (arith, e, b)
