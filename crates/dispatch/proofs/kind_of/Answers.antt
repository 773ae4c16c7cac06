-- `dispatch::kind_of` meets its contract: the table computes at a number or two, and an opcode between the numbers matched sets the state. Assumes nothing.
use Prim.Native.Nat.{ℕ, ◌≤◌, ◌<◌}
use mathlib.Core.Bool.{Bool, false, true}
use mathlib.Core.List.{List, [], ◌∷◌}
use mathlib.Core.Logic.{◌⊎◌, inl, inr}
use mathlib.Core.Path.{◌≡◌, refl}
use native.Mathlib.Omega.{arith}
use borrow.Author.Tests.{le-ltb, lt-ltb, ltb-false, ltb-true}
use lib.Dec.{ltb}
use lib.IntN.{ℤ}
use Rattle.line.specs.World.{Fixed, World}
use Rattle.line_set.specs.Setters.{set_of}
use Rattle.line_vectors.specs.Vectors.{to_dual_line_of, to_line_of, turn_of, vector_of}
use Rattle.opcodes.proofs.Rows.{Above, Covered, NoneOf, at_none, at_number, at_range}
use Rattle.opcodes.specs.Table.{rows}
use Rattle.dispatch.specs.Steps.{Does, Named}
use Rattle.dispatch.proofs.kind_of.Goals as goal

-- ---- the numbers matched, the last first, and the ranges
abbrev numbers : List ℕ
numbers = 0x80 ∷ 0x1A ∷ 0x0E ∷ 0x39 ∷ 0x29 ∷ 0x27 ∷ 0x0F ∷ []

abbrev ranges : List (ℕ × ℕ)
ranges =
    (0x06, 0x0B)
    ∷ (0x1D, 0x1F)
    ∷ (0x2E, 0x3C)
    ∷ (0x3E, 0x3F)
    ∷ (0x46, 0x47)
    ∷ (0x49, 0x4A)
    ∷ (0x4D, 0x4E)
    ∷ (0x80, 0x82)
    ∷ (0x86, 0x87)
    ∷ (0xC0, 0xFF)
    ∷ []

-- row by row: it sets the state, or it is matched
covered : Covered numbers ranges rows
covered =
    (inl refl, (inr refl, (inr refl, (inr refl, (inr refl, (inl refl, (inl refl, (inr refl, (inr refl, (inr refl, (inr refl, (inr refl, (inr refl, (inr refl, (inr refl, (inr refl, (inr refl, (inr refl, (inr refl, (inr refl, (inl refl, (inr refl, (inr refl, (inr refl, (inr refl, (inl refl, (inl refl, (inl refl, (inr refl, (inr refl, (inr refl, (inr refl, (inr refl, tt)))))))))))))))))))))))))))))))))

-- the opcodes of single points, as the `match` has them
abbrev Single : ℕ → Type 0
Single opcode = (opcode ≡ 0x27) ⊎ ((opcode ≡ 0x29) ⊎ (opcode ≡ 0x39))

abbrev Rest : ℕ → Type 0
Rest opcode = ((((Unit {0} × (opcode ≡ 0x0F → ⊥)) × (Single opcode → ⊥)) × (opcode ≡ 0x0E → ⊥)) × (opcode ≡ 0x1A → ⊥)) × (opcode ≡ 0x80 → ⊥)

sets : (opcode : ℕ) → Rest opcode → Above 0 ranges opcode → Does opcode set_of
sets opcode rest gap f operands w =
    let single = rest.0.0.0.1 in
    let points : NoneOf (0x39 ∷ 0x29 ∷ 0x27 ∷ 0x0F ∷ []) opcode = (((rest.0.0.0.0, λ e. single (inl e)), λ e. single (inr (inl e))), λ e. single (inr (inr e))) in
    let none : NoneOf numbers opcode = (((points, rest.0.0.1), rest.0.1), rest.1) in
    at_none f opcode operands w numbers ranges covered refl none gap refl

from_0 : (opcode : ℕ) → 0 ≤ opcode
from_0 opcode = omega arith

-- FLIPPT's number is matched before the range that it stands in, and IP's before MSIRP's
is_fliprg : (opcode : ℕ) → 0x80 ≤ opcode → (opcode ≡ 0x80 → ⊥) → 0x81 ≤ opcode
is_fliprg opcode h d = omega arith

past_ip : (opcode : ℕ) → 0x39 ≤ opcode → (opcode ≡ 0x39 → ⊥) → 0x3A ≤ opcode
past_ip opcode h d = omega arith

-- ---- the lines that turn a vector
module _ (f : Fixed) (opcode : ℕ) (operands : List ℤ) (w : World) where
  turns_along : opcode < 0x0A → turn_of f opcode operands w ≡ to_line_of f opcode operands w
  unfolding turn_of
  turns_along h = rw (lt-ltb opcode 0x86 (omega arith), lt-ltb opcode 0x0A h) refl

  turns_so : 0x0A ≤ opcode → opcode < 0x86 → turn_of f opcode operands w ≡ vector_of f opcode operands w
  unfolding turn_of
  turns_so h k = rw (lt-ltb opcode 0x86 k, le-ltb opcode 0x0A h) refl

  turns_both : 0x86 ≤ opcode → turn_of f opcode operands w ≡ to_dual_line_of f opcode operands w
  unfolding turn_of
  turns_both h = rw (le-ltb opcode 0x86 h) refl

follows : (opcode : ℕ) → opcode ≡ 0x0E → Does opcode turn_of
follows opcode e f operands w = at_number f opcode operands w 0x0E e (turns_so f opcode operands w (omega arith) (omega arith))

turns : (along : Bool) (opcode : ℕ) → ltb opcode 0x0A ≡ along → 0x06 ≤ opcode → opcode < 0x0C → Does opcode turn_of
turns true opcode e h k f operands w = let l = ltb-true opcode 0x0A e in at_range f opcode operands w 0x06 0x09 h l refl (turns_along f opcode operands w l)
turns false opcode e h k f operands w = let l = ltb-false opcode 0x0A e in
    at_range f opcode operands w 0x0A 0x0B l k refl (turns_so f opcode operands w l (omega arith))

pub returns-in-15 : goal.returns-in-15
unfolding Named
returns-in-15 c = λ f operands w. at_number f _ operands w 0x0F c.in-15.is refl

pub returns-in-39 : goal.returns-in-39
unfolding Named
returns-in-39 c = c.in-39.is

pub returns-in-128 : goal.returns-in-128
unfolding Named
returns-in-128 c = λ f operands w. at_number f _ operands w 0x80 c.in-128.is refl

pub returns-in-48 : goal.returns-in-48
unfolding Named
returns-in-48 c = λ f operands w. at_range f _ operands w 0x30 0x31 c.in-48.if-opcode-lt48-own.false c.in-48.if-opcode-lt50-own.true refl refl

pub returns-in-50-to-56 : goal.returns-in-50-to-56
unfolding Named
returns-in-50-to-56 c = (c.in-50-to-56.if-opcode-lt50-own.false, c.in-50-to-56.if-opcode-lt57-own.true)

pub returns-in-129 : goal.returns-in-129
unfolding Named
returns-in-129 c = λ f operands w. at_range f _ operands w 0x81 0x82 (is_fliprg c.args.opcode c.in-129.if-opcode-lt128-own.false c.in-129.in_default-own.rest.1) c.in-129.if-opcode-lt131-own.true refl refl

pub returns-in-70 : goal.returns-in-70
unfolding Named
returns-in-70 c = inl (c.in-70.if-opcode-lt70-own.false, c.in-70.if-opcode-lt72-own.true)

pub returns-in-70-2 : goal.returns-in-70-2
unfolding Named
returns-in-70-2 c = inr (inl (c.in-70.if-opcode-lt73-own.false, c.in-70.if-opcode-lt75-own.true))

pub returns-in-70-3 : goal.returns-in-70-3
unfolding Named
returns-in-70-3 c = inr (inr (c.in-70.if-opcode-lt192-own.false, c.in-70.if-opcode-lt256-own.true))

pub returns-in-46 : goal.returns-in-46
unfolding Named
returns-in-46 c = inl (c.in-46.if-opcode-lt46-own.false, c.in-46.if-opcode-lt48-own.true)

pub returns-in-46-2 : goal.returns-in-46-2
unfolding Named
returns-in-46-2 c = inr (inl (past_ip c.args.opcode c.in-46.if-opcode-lt57-own.false (λ e. c.in-46.in_default-own.rest.0.0.0.1 (inr (inr e))), c.in-46.if-opcode-lt61-own.true))

pub returns-in-46-3 : goal.returns-in-46-3
unfolding Named
returns-in-46-3 c = inr (inr (c.in-46.if-opcode-lt62-own.false, c.in-46.if-opcode-lt64-own.true))

pub returns-in_default : goal.returns-in_default
unfolding Named
returns-in_default c = sets c.args.opcode c.in_default.in_default-own.rest (inl (from_0 _, c.in_default.if-opcode-lt6-own.true))

pub returns-in_default-2 : goal.returns-in_default-2
unfolding Named
returns-in_default-2 c = sets c.args.opcode c.in_default.in_default-own.rest (inr (inl (c.in_default.if-opcode-lt12-own.false, c.in_default.if-opcode-lt29-own.true)))

pub returns-in_default-3 : goal.returns-in_default-3
unfolding Named
returns-in_default-3 c = sets c.args.opcode c.in_default.in_default-own.rest (inr (inr (inl (c.in_default.if-opcode-lt32-own.false, c.in_default.if-opcode-lt46-own.true))))

pub returns-in_default-4 : goal.returns-in_default-4
unfolding Named
returns-in_default-4 c = sets c.args.opcode c.in_default.in_default-own.rest (inr (inr (inr (inl (c.in_default.if-opcode-lt61-own.false, c.in_default.if-opcode-lt62-own.true)))))

pub returns-in_default-5 : goal.returns-in_default-5
unfolding Named
returns-in_default-5 c = sets c.args.opcode c.in_default.in_default-own.rest (inr (inr (inr (inr (inl (c.in_default.if-opcode-lt64-own.false, c.in_default.if-opcode-lt70-own.true))))))

pub returns-in_default-6 : goal.returns-in_default-6
unfolding Named
returns-in_default-6 c = sets c.args.opcode c.in_default.in_default-own.rest (inr (inr (inr (inr (inr (inl (c.in_default.if-opcode-lt72-own.false, c.in_default.if-opcode-lt73-own.true)))))))

pub returns-in_default-7 : goal.returns-in_default-7
unfolding Named
returns-in_default-7 c = sets c.args.opcode c.in_default.in_default-own.rest (inr (inr (inr (inr (inr (inr (inl (c.in_default.if-opcode-lt75-own.false, c.in_default.if-opcode-lt77-own.true))))))))

pub returns-in_default-8 : goal.returns-in_default-8
unfolding Named
returns-in_default-8 c = sets c.args.opcode c.in_default.in_default-own.rest (inr (inr (inr (inr (inr (inr (inr (inl (c.in_default.if-opcode-lt79-own.false, c.in_default.if-opcode-lt128-own.true)))))))))

pub returns-in_default-9 : goal.returns-in_default-9
unfolding Named
returns-in_default-9 c = sets c.args.opcode c.in_default.in_default-own.rest (inr (inr (inr (inr (inr (inr (inr (inr (inl (c.in_default.if-opcode-lt131-own.false, c.in_default.if-opcode-lt134-own.true))))))))))

pub returns-in_default-10 : goal.returns-in_default-10
unfolding Named
returns-in_default-10 c = sets c.args.opcode c.in_default.in_default-own.rest (inr (inr (inr (inr (inr (inr (inr (inr (inr (inl (c.in_default.if-opcode-lt136-own.false, c.in_default.if-opcode-lt192-own.true)))))))))))

pub returns-in_default-11 : goal.returns-in_default-11
unfolding Named
returns-in_default-11 c = sets c.args.opcode c.in_default.in_default-own.rest (inr (inr (inr (inr (inr (inr (inr (inr (inr (inr c.in_default.if-opcode-lt256-own.false))))))))))

pub returns-in-26 : goal.returns-in-26
unfolding Named
returns-in-26 c = λ f operands w. at_number f _ operands w 0x1A c.in-26.in-26-own.keys4 refl

pub returns-in-26-2 : goal.returns-in-26-2
unfolding Named
returns-in-26-2 c = λ f operands w. at_range f _ operands w 0x1D 0x1F c.in-26.if-opcode-lt29-own.false c.in-26.if-opcode-lt32-own.true refl refl

pub returns-in-26-3 : goal.returns-in-26-3
unfolding Named
returns-in-26-3 c = λ f operands w. at_range f _ operands w 0x4D 0x4E c.in-26.if-opcode-lt77-own.false c.in-26.if-opcode-lt79-own.true refl refl

pub returns-in-6-to-11 : goal.returns-in-6-to-11
unfolding Named
returns-in-6-to-11 c = follows c.args.opcode c.in-6-to-11.in-6-to-11-own.keys3

pub returns-in-6-to-11-2 : goal.returns-in-6-to-11-2
unfolding Named
returns-in-6-to-11-2 c = turns _ c.args.opcode refl c.in-6-to-11.if-opcode-lt6-own.false c.in-6-to-11.if-opcode-lt12-own.true

pub returns-in-6-to-11-3 : goal.returns-in-6-to-11-3
unfolding Named
returns-in-6-to-11-3 c = λ f operands w. at_range f _ operands w 0x86 0x87 c.in-6-to-11.if-opcode-lt134-own.false c.in-6-to-11.if-opcode-lt136-own.true refl (turns_both f _ operands w c.in-6-to-11.if-opcode-lt134-own.false)
