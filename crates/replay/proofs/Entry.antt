-- The entry, over plain values: by whether its tests were passed, and what each tells where they were. Assumes nothing.
use Rattle.std.specs.Prelude.{⊤, Result, Ok, Err}
use mathlib.Core.Bool.{Bool, false, true, true≢false}
use mathlib.Core.List.{List}
use Prim.Native.Nat.{ℕ, ◌≤◌}
use mathlib.Core.Path.{◌∙◌, ◌≡◌, ap, ap₂, refl, sym}
use borrow.Author.Tests.{leb-true}
use lib.Dec.{leb}
use lib.ListN.{length}
use lib.IntN.{ℤ}
use Rattle.contour_ends.specs.Ends.{ends_rise}
use Rattle.line.specs.World.{Fixed, Sound, World}
use Rattle.line.specs.Sizes.{world_fits}
use Rattle.line.proofs.Alike.{fits_alike}
use Rattle.answer.specs.declared.Refusal.{Refusal}
use Rattle.graphics.specs.State.{usable_state}
use Rattle.run_lines.specs.declared.Answer.TheVariants.{Refused}
use Rattle.run_lines.specs.Onward.{ends, replay_of}
use Rattle.replay.specs.Run.{entered, entry_of, on_entry, run_of}

-- ---- the tests as they were made
pub entry_is : (f : Fixed) (sheet : List ℤ) (start : ℕ) (w : World) {sized rising usable : Bool} {begun : Result ⊤ Refusal} → begun ≡ entry_of sized rising usable (leb start (length sheet))
    → sized ≡ world_fits f sheet w → rising ≡ ends_rise (length w.gx) f.contours → usable ≡ usable_state w.state → begun ≡ entered f sheet start w
entry_is f sheet start w {usable = usable} e p q r =
    e
    ∙ ap₂ (λ (a b : Bool). entry_of a b usable (leb start (length sheet))) p q
    ∙ ap (λ (c : Bool). entry_of (world_fits f sheet w) (ends_rise (length w.gx) f.contours) c (leb start (length sheet))) r

-- ---- a run by its entry
module _ (f : Fixed) (sheet : List ℤ) (b start : ℕ) (w : World) {begun : Result ⊤ Refusal} (e : begun ≡ entered f sheet start w) where
  pub not_entered : {why : Refusal} → begun ≡ Err why → ends (Refused why) 0 start w ≡ run_of f sheet b start w
  unfolding run_of on_entry
  not_entered told = sym (ap (on_entry f sheet b start w) (sym e ∙ told))

  pub run_entered : begun ≡ Ok tt → replay_of f sheet b 0 start w ≡ run_of f sheet b start w
  unfolding run_of on_entry
  run_entered told = sym (ap (on_entry f sheet b start w) (sym e ∙ told))

-- ---- what a run that is entered was asked
pub record Entered (f : Fixed) (sheet : List ℤ) (start : ℕ) (w : World) : Type 0 where
  pub sized : world_fits f sheet w ≡ true
  pub rising : ends_rise (length w.gx) f.contours ≡ true
  pub usable : usable_state w.state ≡ true
  pub starts : start ≤ length sheet

abbrev is_done : Result ⊤ Refusal → Bool
is_done (Ok tt) = true
is_done (Err why) = false

not_done : {why : Refusal} → ◌≡◌ {A = Result ⊤ Refusal} (Err why) (Ok tt) → ⊥
not_done e = true≢false (sym (ap is_done e))

all_passed : (sized rising usable starts : Bool) → entry_of sized rising usable starts ≡ Ok tt → (sized ≡ true) × (rising ≡ true) × (usable ≡ true) × (starts ≡ true)
unfolding entry_of
all_passed true true true true e = (refl, refl, refl, refl)
all_passed true true true false e = absurd (not_done e)
all_passed true true false starts e = absurd (not_done e)
all_passed true false usable starts e = absurd (not_done e)
all_passed false rising usable starts e = absurd (not_done e)

pub entered_by : (f : Fixed) (sheet : List ℤ) (start : ℕ) (w : World) → entered f sheet start w ≡ Ok tt → Entered f sheet start w
entered_by f sheet start w e =
    let p = all_passed (world_fits f sheet w) (ends_rise (length w.gx) f.contours) (usable_state w.state) (leb start (length sheet)) e in
    record { sized = p.0; rising = p.1; usable = p.2; starts = leb-true start (length sheet) p.3 }

-- its lists are sound
pub entered_sound : (f : Fixed) (sheet : List ℤ) (start : ℕ) (w : World) {begun : Result ⊤ Refusal} → begun ≡ entered f sheet start w → begun ≡ Ok tt → Sound f w
entered_sound f sheet start w e told = let p = entered_by f sheet start w (sym e ∙ told) in (fits_alike f sheet w p.sized, p.rising)
