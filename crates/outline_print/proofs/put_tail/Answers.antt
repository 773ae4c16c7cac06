-- `outline_print::put_tail` meets its contract: the digits that are left make the whole. Assumes nothing.
use mathlib.Core.Path.{◌≡◌, refl, sym, ap, ◌∙◌}
use Prim.Native.Nat.{ℕ, zero, suc, ◌-◌, ◌*◌, ◌/◌, ◌%◌, ◌≤◌, ◌+◌}
use mathlib.Core.List.{[], ◌∷◌}
use native.Mathlib.Omega.{arith}
use Rattle.outline_print.specs.Lines.{tail_by, tail_of}
use Rattle.outline_print.proofs.Putting.{put_start, put_one, one_fits, put_end, tail_none, tail_more}
use Rattle.outline_print.proofs.put_tail.Goals as goal

-- the next digit, of a rest that is not 0
next_digit : (left more rest : ℕ) → left ≡ suc more → (rest ≡ 0 → ⊥) → tail_by left rest ≡ (48 + rest * 10 / 128) ∷ tail_by more (rest * 10 % 128)
next_digit left more rest e k = ap (λ (n : ℕ). tail_by n rest) e ∙ tail_more more rest k

pub loop-init : goal.loop-init
unfolding tail_of
loop-init c = let a = c.args in (c.requires.r_bound, put_start (tail_of a.r) a.at a.text.now c.requires.r_in_bounds)

pub returns-then-rest-eq0 : goal.returns-then-rest-eq0
returns-then-rest-eq0 c = put_end c.loop.invariant.1 (tail_none (7 - c.loop.counter) c.if-rest-eq0.true)

pub overflow_mul-rest : goal.overflow_mul-rest
overflow_mul-rest c = omega (arith, c.loop.invariant.0)

pub digit_of-requires : goal.digit_of-requires
digit_of-requires c = omega (arith, c.loop.invariant.0)

pub bounds-text-next : goal.bounds-text-next
bounds-text-next c = one_fits c.loop.invariant.1 (next_digit (7 - c.loop.counter) (7 - (c.loop.counter + 1)) c.loop.rest (omega arith) c.if-rest-eq0.false)

pub overflow_mul-rest-in-loop : goal.overflow_mul-rest-in-loop
overflow_mul-rest-in-loop c = omega (arith, c.loop.invariant.0)

pub overflow_add-next : goal.overflow_add-next
overflow_add-next c = let h = one_fits c.loop.invariant.1 (next_digit (7 - c.loop.counter) (7 - (c.loop.counter + 1)) c.loop.rest (omega arith) c.if-rest-eq0.false) in
    omega (arith, h, c.loop.invariant.1.size, c.well_formed)

pub loop-preserved : goal.loop-preserved
loop-preserved c = (
  omega arith,
  put_one c.loop.invariant.1 (next_digit (7 - c.loop.counter) (7 - (c.loop.counter + 1)) c.loop.rest (omega arith) c.if-rest-eq0.false ∙ ap (λ (b : ℕ). b ∷ tail_by (7 - (c.loop.counter + 1)) (c.loop.rest * 10 % 128)) (sym c.digit_of.ensures)),
)

pub returns : goal.returns
returns c = let l = c.loop in
    put_end l.invariant.1 (none_left (7 - l.counter) l.rest (omega arith))
  where
    none_left : (left rest : ℕ) → left ≤ 0 → tail_by left rest ≡ []
    none_left zero rest h = refl
    none_left (suc left) rest h = absurd (omega arith)
