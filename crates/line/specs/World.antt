-- What a run holds: document 01, "What the replayer holds". `World` is what lines change, `Fixed` what they only read; a glyph's originals are among
-- the latter. Assumes nothing.
use Rattle.answer.specs.declared.Refusal.{Refusal}
use Rattle.std.specs.Prelude.{ℕ, List, true, ◌≡◌, ℤ, length, ⊤, Result}
use Rattle.contour_ends.specs.Ends.{ends_rise}
use Rattle.graphics.specs.declared.GraphicsState.{GraphicsState}
use Rattle.rules.specs.declared.Rules.{Rules}
use Rattle.line.specs.declared.Stepped.{Stepped}

-- the rules by their name, the control values, the glyph's unscaled and original points, and its contours' ends
pub record Fixed : Type 0 where
  pub rules : Rules
  pub controls : List ℤ
  pub gux : List ℤ
  pub guy : List ℤ
  pub gox : List ℤ
  pub goy : List ℤ
  pub contours : List ℕ

abbrev pub fixed : Rules → List ℤ → List ℤ → List ℤ → List ℤ → List ℤ → List ℕ → Fixed
fixed rules controls gux guy gox goy contours = record { rules = rules; controls = controls; gux = gux; guy = guy; gox = gox; goy = goy; contours = contours }

-- the same under other rules
abbrev pub under : Rules → Fixed → Fixed
under rules f = fixed rules f.controls f.gux f.guy f.gox f.goy f.contours

-- the state, the glyph's current points and flags, and the twilight zone
pub record World : Type 0 where
  pub state : GraphicsState
  pub gx : List ℤ
  pub gy : List ℤ
  pub gflags : List ℕ
  pub tox : List ℤ
  pub toy : List ℤ
  pub tx : List ℤ
  pub ty : List ℤ
  pub tflags : List ℕ

abbrev pub world : GraphicsState → List ℤ → List ℤ → List ℕ → List ℤ → List ℤ → List ℤ → List ℤ → List ℕ → World
world state gx gy gflags tox toy tx ty tflags =
    record { state = state; gx = gx; gy = gy; gflags = gflags; tox = tox; toy = toy; tx = tx; ty = ty; tflags = tflags }

-- each zone's lists share one length
abbrev pub Alike : Fixed → World → Type 0
Alike f w =
    (length f.gux ≡ length w.gx)
    × (length f.guy ≡ length w.gx)
    × (length f.gox ≡ length w.gx)
    × (length f.goy ≡ length w.gx)
    × (length w.gy ≡ length w.gx)
    × (length w.gflags ≡ length w.gx)
    × (length w.toy ≡ length w.tox)
    × (length w.ty ≡ length w.tx)
    × (length w.tflags ≡ length w.tx)
    × (length w.tox ≡ length w.tx)

-- and its contours' ends rise below the number of points: what a run's entry tests of the lists, and every line may rely on
abbrev pub Sound : Fixed → World → Type 0
Sound f w = Alike f w × (ends_rise (length w.gx) f.contours ≡ true)

-- what a line comes to, and the world after it
pub record Lined : Type 0 where
  pub call : Result ⊤ Refusal
  pub world : World

abbrev pub lined : Stepped → List ℤ → List ℤ → List ℕ → List ℤ → List ℤ → List ℤ → List ℤ → List ℕ → Lined
lined r gx gy gflags tox toy tx ty tflags = record { call = r.call; world = world r.state gx gy gflags tox toy tx ty tflags }
