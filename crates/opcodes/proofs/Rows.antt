-- The line of an opcode, for a `match` over numbers and ranges. At a number the table is computed; an opcode that is none of them, where they have the opcodes of
-- every row that does more than set the state, sets the state. Assumes nothing.
use Prim.Native.Nat.{ℕ, suc, ◌≤◌, ◌<◌}
use mathlib.Core.Bool.{Bool, ◌&&◌, ◌||◌, cond, false, true, true≢false}
use mathlib.Core.List.{List, [], ◌∷◌}
use mathlib.Core.Logic.{◌⊎◌, inl, inr}
use mathlib.Core.Path.{◌≡◌, ap, refl, sym, ◌∙◌}
use native.Mathlib.Nat.{le_of_suc-le-suc}
use native.Mathlib.Omega.{arith}
use borrow.Author.Tests.{le-leb, leb-true, ltb-true}
use lib.Dec.{leb, ltb}
use lib.IntN.{ℤ}
use Rattle.graphics.proofs.Laws.{and_left, and_right}
use Rattle.int.proofs.Tests.{either}
use Rattle.line_set.specs.Setters.{set_of}
use Rattle.line.specs.World.{Fixed, Lined, World}
use Rattle.opcodes.specs.Table.{Line, Row, has, line_of, row_in, row_of, rows}

-- ---- at a number, or in a range within one row
-- the row that has a range's first number has its last too, and the rows before it stand below
abbrev pub InOne : List Row → ℕ → ℕ → Bool
InOne [] first last = false
InOne (r ∷ more) first last = cond (has r first) (leb last r.last) (ltb r.last first && InOne more first last)

-- a number of the range
module _ (opcode first last : ℕ) (h : first ≤ opcode) (k : opcode ≤ last) where
  has_too : (r : Row) → has r first ≡ true → leb last r.last ≡ true → has r opcode ≡ true
  has_too r e t =
      let low = leb-true r.first first (and_left (leb r.first first) (leb first r.last) e) in
      let high = leb-true last r.last t in
      rw (le-leb r.first opcode (omega arith), le-leb opcode r.last (omega arith))

  passes : (r : Row) → ltb r.last first ≡ true → has r opcode ≡ true → ⊥
  passes r t e =
      let below = ltb-true r.last first t in
      let high = leb-true opcode r.last (and_right (leb r.first opcode) (leb opcode r.last) e) in
      omega arith

  by_tests : (r p q : Row) (rest a b : Bool) → has r first ≡ a → has r opcode ≡ b → cond a (leb last r.last) (ltb r.last first && rest) ≡ true → (rest ≡ true → p ≡ q)
      → cond b r p ≡ cond a r q
  by_tests r p q rest true true e d t same = refl
  by_tests r p q rest true false e d t same = absurd (true≢false (sym (has_too r e t) ∙ d))
  by_tests r p q rest false true e d t same = absurd (passes r (and_left (ltb r.last first) rest t) d)
  by_tests r p q rest false false e d t same = same (and_right (ltb r.last first) rest t)

  same_row : (rs : List Row) → InOne rs first last ≡ true → row_in rs opcode ≡ row_in rs first
  same_row [] t = refl
  same_row (r ∷ more) t =
      by_tests r (row_in more opcode) (row_in more first) (InOne more first last) (has r first) (has r opcode) refl refl t (same_row more)

module _ (f : Fixed) (opcode : ℕ) (operands : List ℤ) (w : World) {r : Lined} where
  by_line : (line : Line) → (row_in rows opcode).line ≡ line → r ≡ line f opcode operands w → r ≡ line_of f opcode operands w
  unfolding line_of row_of
  by_line line e q = q ∙ sym (ap (λ (l : Line). l f opcode operands w) e)

  pub at_number : (n : ℕ) → opcode ≡ n → r ≡ (row_in rows n).line f opcode operands w → r ≡ line_of f opcode operands w
  at_number n e = by_line (row_in rows n).line (ap (λ (m : ℕ). (row_in rows m).line) e)

  pub at_range : (first last : ℕ) → first ≤ opcode → opcode < suc last → InOne rows first last ≡ true → r ≡ (row_in rows first).line f opcode operands w
      → r ≡ line_of f opcode operands w
  at_range first last h k t =
      by_line (row_in rows first).line (ap (λ (row : Row). row.line) (same_row opcode first last h (le_of_suc-le-suc k) rows t))

-- ---- at none of them
-- the numbers, the last first, as a `match` says it
abbrev pub NoneOf : List ℕ → ℕ → Type 0
NoneOf [] opcode = Unit
NoneOf (n ∷ before) opcode = NoneOf before opcode × (opcode ≡ n → ⊥)

-- from `low` up, and between the ranges or above them
abbrev pub Above : ℕ → List (ℕ × ℕ) → ℕ → Type 0
Above low [] opcode = low ≤ opcode
Above low (range ∷ more) opcode = ((low ≤ opcode) × (opcode < range.0)) ⊎ Above (suc range.1) more opcode

abbrev ones : List ℕ → List (ℕ × ℕ)
ones [] = []
ones (n ∷ before) = (n, n) ∷ ones before

-- the ranges go up
abbrev rising : ℕ → List (ℕ × ℕ) → Bool
rising low [] = true
rising low (range ∷ more) = leb low range.0 && (leb range.0 range.1 && rising (suc range.1) more)

-- a range has all opcodes of a row
abbrev within : Row → List (ℕ × ℕ) → Bool
within r [] = false
within r (range ∷ more) = (leb range.0 r.first && leb r.last range.1) || within r more

-- each row sets the state, or has its opcodes among the numbers or ranges
abbrev pub Covered : List ℕ → List (ℕ × ℕ) → List Row → Type 0
Covered numbers ranges [] = Unit
Covered numbers ranges (r ∷ more) = ((r.line ≡ set_of) ⊎ (within r (ones numbers) || within r ranges ≡ true)) × Covered numbers ranges more

either_test : (t u : Bool) → (t ≡ true → ⊥) → (u ≡ true → ⊥) → t || u ≡ true → ⊥
either_test true u p q e = p refl
either_test false u p q e = q e

module _ (opcode : ℕ) where
  abbrev Outside : List (ℕ × ℕ) → Type 0
  Outside [] = Unit
  Outside (range ∷ more) = (range.0 ≤ opcode → opcode ≤ range.1 → ⊥) × Outside more

  of_numbers : (numbers : List ℕ) → NoneOf numbers opcode → Outside (ones numbers)
  of_numbers [] none = tt
  of_numbers (n ∷ before) none = (λ h k. let e : opcode ≡ n = omega arith in none.1 e, of_numbers before none.0)

  module _ (low : ℕ) (range : ℕ × ℕ) (more : List (ℕ × ℕ)) (up : rising low (range ∷ more) ≡ true) where
    starts : low ≤ range.0
    starts = leb-true low range.0 (and_left (leb low range.0) _ up)

    ends : range.0 ≤ range.1
    ends = leb-true range.0 range.1 (and_left (leb range.0 range.1) _ (and_right (leb low range.0) _ up))

    rest : rising (suc range.1) more ≡ true
    rest = and_right (leb range.0 range.1) _ (and_right (leb low range.0) _ up)

  below : (low : ℕ) (ranges : List (ℕ × ℕ)) → rising low ranges ≡ true → opcode < low → Outside ranges
  below low [] up h = tt
  below low (range ∷ more) up h =
      let a = starts low range more up in
      let b = ends low range more up in
      (λ p q. omega arith, below (suc range.1) more (rest low range more up) (omega arith))

  at_least : (low : ℕ) (ranges : List (ℕ × ℕ)) → rising low ranges ≡ true → Above low ranges opcode → low ≤ opcode
  at_least low [] up g = g
  at_least low (range ∷ more) up (inl g) = g.0
  at_least low (range ∷ more) up (inr g) =
      let a = starts low range more up in
      let b = ends low range more up in
      let c = at_least (suc range.1) more (rest low range more up) g in
      omega arith

  of_ranges : (low : ℕ) (ranges : List (ℕ × ℕ)) → rising low ranges ≡ true → Above low ranges opcode → Outside ranges
  of_ranges low [] up g = tt
  of_ranges low (range ∷ more) up (inl g) =
      let b = ends low range more up in
      let k : opcode < range.0 = g.1 in
      (λ p q. omega arith, below (suc range.1) more (rest low range more up) (omega arith))
  of_ranges low (range ∷ more) up (inr g) =
      let c = at_least (suc range.1) more (rest low range more up) g in
      (λ p q. omega arith, of_ranges (suc range.1) more (rest low range more up) g)

  not_within : (r : Row) (ranges : List (ℕ × ℕ)) → Outside ranges → r.first ≤ opcode → opcode ≤ r.last → within r ranges ≡ true → ⊥
  not_within r [] out h k t = let z : ◌≡◌ {A = ℕ} 0 1 = cc in omega arith
  not_within r (range ∷ more) out h k t =
      let starts = leb range.0 r.first in
      let ends = leb r.last range.1 in
      either_test (starts && ends) (within r more)
      (λ both.
      let a = leb-true range.0 r.first (and_left starts ends both) in
      let b = leb-true r.last range.1 (and_right starts ends both) in
      out.0 (omega arith) (omega arith))
      (not_within r more out.1 h k)
      t

  module _ (numbers : List ℕ) (ranges : List (ℕ × ℕ)) (not-one : Outside (ones numbers)) (not_in : Outside ranges) where
    passed : (r p : Row) → within r (ones numbers) || within r ranges ≡ true → p.line ≡ set_of → (a b : Bool) → leb r.first opcode ≡ a → leb opcode r.last ≡ b
        → (cond (a && b) r p).line ≡ set_of
    passed r p t e true true h k =
        let low = leb-true r.first opcode h in
        let high = leb-true opcode r.last k in
        absurd (either_test (within r (ones numbers)) (within r ranges) (not_within r (ones numbers) not-one low high) (not_within r ranges not_in low high) t)
    passed r p t e true false h k = e
    passed r p t e false b h k = e

    set_in : (rs : List Row) → Covered numbers ranges rs → (row_in rs opcode).line ≡ set_of
    set_in [] covered = refl
    set_in (r ∷ more) (inl e, covered) = either (λ (row : Row). row.line ≡ set_of) (has r opcode) e (set_in more covered)
    set_in (r ∷ more) (inr t, covered) = passed r (row_in more opcode) t (set_in more covered) (leb r.first opcode) (leb opcode r.last) refl refl

module _ (f : Fixed) (opcode : ℕ) (operands : List ℤ) (w : World) {r : Lined} where
  pub at_none : (numbers : List ℕ) (ranges : List (ℕ × ℕ)) → Covered numbers ranges rows → rising 0 ranges ≡ true → NoneOf numbers opcode → Above 0 ranges opcode
      → r ≡ set_of f opcode operands w → r ≡ line_of f opcode operands w
  at_none numbers ranges covered up none gap =
      by_line f opcode operands w set_of (set_in opcode numbers ranges (of_numbers opcode numbers none) (of_ranges opcode 0 ranges up gap) rows covered)
