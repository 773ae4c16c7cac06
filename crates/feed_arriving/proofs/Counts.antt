-- A feed finishes no more lines than it takes words: the place of the next line counts them. Assumes nothing.
use Rattle.std.specs.Prelude.{⊤, Result, Ok, Err}
use Rattle.answer.specs.declared.Refusal.{Refusal}
use mathlib.Core.Bool.{Bool, cond, true}
use mathlib.Core.List.{List, [], ◌++◌, ◌∷◌}
use mathlib.Core.Path.{◌≡◌, ap, refl, subst, sym}
use Prim.Native.Nat.{◌+◌, ◌≤◌, ℕ}
use native.Mathlib.Omega.{arith}
use lib.IntN.{ℤ}
use lib.ListN.{length, length-append}
use Rattle.line.specs.World.{Fixed, World}
use Rattle.run_step.specs.Step.{step_of}
use Rattle.feed_look.specs.Look.{look_of}
use Rattle.feed_look.specs.declared.Seen.{Seen}
use Rattle.feed_look.specs.declared.Seen.TheVariants.{Bad, Waits, Whole}
use Rattle.feed_look.specs.declared.Seen.TheVariants.{Long as LongLine}
use Rattle.feed_carry.specs.Carry.{said_is_open}
use Rattle.feed_carry.specs.declared.Fed.{Fed}
use Rattle.feed_carry.specs.declared.Said.{Said}
use Rattle.feed_carry.specs.declared.Said.TheVariants.{Ended, Long, Open, Refused}
use Rattle.feed.specs.Feed.{Feeding, Left, after_call, begun, entered_feed, fed_all, fed_on_entry, feed_of, going, handed, on_seen, push_by, unchanged}

-- from one feeding to a later one no more lines were finished than words were taken
abbrev Few : Feeding → Feeding → Type 0
Few g g' = g'.lines + g.base ≤ g.lines + g'.base

call_few : (g : Feeding) (w : World) (call : Result ⊤ Refusal) → 1 ≤ length g.pending → Few g (after_call g w call)
unfolding after_call
call_few g w (Ok tt) h = omega (arith, h)
call_few g w (Err why) h = omega arith

seen_few : (f : Fixed) (g : Feeding) (seen : Seen) → 1 ≤ length g.pending → Few g (on_seen f g seen)
unfolding on_seen
seen_few f g Waits h = omega arith
seen_few f g Bad h = omega arith
seen_few f g LongLine h = omega arith
seen_few f g (Whole n) h = call_few g (step_of f g.pending 0 g.world).world (step_of f g.pending 0 g.world).call h

push_few : (f : Fixed) (g : Feeding) (x : ℤ) (said : Said) → Few g (push_by f g x said)
unfolding push_by
push_few f g x Open =
    let words = g.pending ++ (x ∷ []) in
    seen_few f (going g.base g.lines words g.world) (look_of words) (omega (arith, length-append g.pending (x ∷ [])))
push_few f g x Ended = omega arith
push_few f g x Long = omega arith
push_few f g x (Refused why) = omega arith

all_few : (f : Fixed) (g : Feeding) (words : List ℤ) → Few g (fed_all f g words)
all_few f g [] = omega arith
all_few f g (x ∷ words) =
    let g' = push_by f g x g.said in
    omega (arith, push_few f g x g.said, all_few f g' words)

entry_few : (f : Fixed) (g : Feeding) (words : List ℤ) (call : Result ⊤ Refusal) → Few g (fed_on_entry f g words call)
unfolding fed_on_entry
entry_few f g words (Ok tt) = all_few f g words
entry_few f g words (Err why) = omega arith

-- of a call
pub lines_few : (f : Fixed) (c : Fed) (carry words : List ℤ) (w : World) → said_is_open c.said ≡ true → (feed_of f c carry words w).lines + c.base ≤ (feed_of f c carry words w).base
unfolding feed_of
lines_few f c carry words w o =
    let g = begun c carry w in
    let fed = handed carry (fed_on_entry f g words (entered_feed f c carry words w)) in
    let e : fed ≡ cond (said_is_open c.said) fed (unchanged c carry w) = sym (ap (λ (b : Bool). cond b fed (unchanged c carry w)) o) in
    subst (λ (l : Left). l.lines + c.base ≤ l.base) e (omega (arith, entry_few f g words (entered_feed f c carry words w)))
