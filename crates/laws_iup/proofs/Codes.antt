-- The lines of IUP and of the setters, by their codes: each leaves glyphs that agree but for one contour so, and each leaves the points after the last contour. Assumes nothing.
use mathlib.Core.Bool.{Bool, ◌||◌, false, true, true≢false}
use mathlib.Core.List.{List, [], ◌∷◌}
use mathlib.Core.Path.{◌≡◌, refl, subst, sym}
use Prim.Native.Nat.{ℕ, ◌<◌}
use borrow.Author.Tests.{eqb-true}
use lib.Dec.{eqb}
use lib.IntN.{ℤ}
use lib.ListN.{length}
use Rattle.graphics.specs.declared.GraphicsState.{GraphicsState}
use Rattle.line.specs.declared.Stepped.{Stepped}
use Rattle.line.specs.World.{Fixed, Sound, World}
use Rattle.line_iup.specs.Iup.{iup_line_of}
use Rattle.line_set.specs.Setters.{set_by, set_of}
use Rattle.line_sizes.specs.Sizes.{measure_by, sizes_of}
use Rattle.line_steps.specs.Steps.{into}
use Rattle.line_vectors.specs.Vectors.{vector_by, vector_of}
use Rattle.opcodes.specs.Table.{Line, line_of, row_of}
use Rattle.laws_iup.specs.Agree.{FixedAgreeBut, LinesAgreeBut, WorldRestStays, WorldsAgreeBut}
use Rattle.laws_iup.specs.Sheets.{is_one_of, iup_and_setters}
use Rattle.laws_iup.proofs.Line.{in_state_agrees, iup_line_agrees, iup_line_rest}

-- ---- codes one by one
data Each (P : ℕ → Type 0) : List ℕ → Type 0 where
  none : Each P []
  ◌▸◌ : {code : ℕ} {codes : List ℕ} → P code → Each P codes → Each P (code ∷ codes)

infixr 5 ◌▸◌
-- this code, or one of the others
here_or : (P : ℕ → Type 0) (op code : ℕ) (t more : Bool) → eqb op code ≡ t → P code → (more ≡ true → P op) → t || more ≡ true → P op
here_or P op code true more is p on e = subst P (sym (eqb-true op code is)) p
here_or P op code false more is p on e = on e

of_one : (P : ℕ → Type 0) (codes : List ℕ) → Each P codes → (op : ℕ) → is_one_of codes op ≡ true → P op
of_one P [] none op e = absurd (true≢false (sym e))
of_one P (code ∷ codes) (p ▸ ps) op e = here_or P op code (eqb op code) (is_one_of codes op) refl p (of_one P codes ps op) e

-- what holds of each kind of line
module _ (P : ℕ → Line → Type 0) (i : (op : ℕ) → P op iup_line_of) (s : (op : ℕ) → P op set_of) (m : (op : ℕ) → P op sizes_of) (v : (op : ℕ) → P op vector_of) where
  each : Each (λ op. P op (row_of op).line) iup_and_setters
  unfolding row_of
  each =
      i _ ▸ i _
      ▸ s _ ▸ s _ ▸ s _ ▸ s _ ▸ s _ ▸ s _ ▸ v _ ▸ v _ ▸ v _
      ▸ s _ ▸ s _ ▸ s _ ▸ s _ ▸ s _ ▸ s _ ▸ s _ ▸ s _ ▸ s _ ▸ s _
      ▸ m _ ▸ m _ ▸ m _ ▸ m _
      ▸ s _ ▸ m _ ▸ m _ ▸ s _ ▸ s _ ▸ s _ ▸ s _ ▸ s _
      ▸ none

  by_code : (op : ℕ) → is_one_of iup_and_setters op ≡ true → P op (row_of op).line
  by_code = of_one (λ op. P op (row_of op).line) iup_and_setters each

-- ---- two glyphs
module _ (k : ℕ) (f g : Fixed) (h : k < length f.contours) (d : FixedAgreeBut k f g) where
  abbrev Agrees : ℕ → Line → Type 0
  Agrees op line = (operands : List ℤ) (w v : World) → Sound f w → WorldsAgreeBut f.contours k w v → LinesAgreeBut f.contours k (line f op operands w) (line g op operands v)

  -- what is lent no list
  into_agrees : (r : GraphicsState → Stepped) (w v : World) → WorldsAgreeBut f.contours k w v → LinesAgreeBut f.contours k (into w (r w.state)) (into v (r v.state))
  into_agrees r w v e =
      subst (λ (s : GraphicsState). LinesAgreeBut f.contours k (into w (r w.state)) (into v (r s))) e.state
      (record { call = refl; worlds = in_state_agrees f.contours k w v (r w.state).state e })

  set_agrees : (op : ℕ) → Agrees op set_of
  unfolding set_of
  set_agrees op operands w v sound e = into_agrees (λ (s : GraphicsState). set_by s op operands) w v e

  size_agrees : (op : ℕ) → Agrees op sizes_of
  unfolding sizes_of
  size_agrees op operands w v sound e = into_agrees (λ (s : GraphicsState). measure_by s op operands) w v e

  vector_agrees : (op : ℕ) → Agrees op vector_of
  unfolding vector_of
  vector_agrees op operands w v sound e = into_agrees (λ (s : GraphicsState). vector_by s op operands) w v e

  pub line_agrees : (op : ℕ) → is_one_of iup_and_setters op ≡ true → Agrees op line_of
  unfolding line_of
  line_agrees op e = by_code Agrees (λ o operands. iup_line_agrees k f g h d operands o) set_agrees size_agrees vector_agrees op e

-- ---- one glyph
module _ (f : Fixed) where
  abbrev Stays : ℕ → Line → Type 0
  Stays op line = (operands : List ℤ) (w : World) → Sound f w → WorldRestStays f.contours w (line f op operands w).world

  set_rest : (op : ℕ) → Stays op set_of
  unfolding set_of
  set_rest op operands w sound = record { gx = λ i h. refl; gy = λ i h. refl; gflags = refl }

  size_rest : (op : ℕ) → Stays op sizes_of
  unfolding sizes_of
  size_rest op operands w sound = record { gx = λ i h. refl; gy = λ i h. refl; gflags = refl }

  vector_rest : (op : ℕ) → Stays op vector_of
  unfolding vector_of
  vector_rest op operands w sound = record { gx = λ i h. refl; gy = λ i h. refl; gflags = refl }

  pub line_rest : (op : ℕ) → is_one_of iup_and_setters op ≡ true → Stays op line_of
  unfolding line_of
  line_rest op e = by_code Stays (λ o operands. iup_line_rest f operands o) set_rest size_rest vector_rest op e
