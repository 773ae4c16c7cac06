-- What a call leaves that has a state's words, part by part: a run from C, or a piece. Assumes nothing.
use Rattle.std.specs.Prelude.{ℕ, List, ℤ}

-- the number that is returned, and what every list that can change holds afterwards
pub record Left : Type 0 where
  pub number : ℕ
  pub state : List ℕ
  pub answer : List ℕ
  pub gx : List ℤ
  pub gy : List ℤ
  pub gflags : List ℕ
  pub tox : List ℤ
  pub toy : List ℤ
  pub tx : List ℤ
  pub ty : List ℤ
  pub tflags : List ℕ

abbrev pub left : ℕ → List ℕ → List ℕ → List ℤ → List ℤ → List ℕ → List ℤ → List ℤ → List ℤ → List ℤ → List ℕ → Left
left number state answer gx gy gflags tox toy tx ty tflags =
    record { number = number; state = state; answer = answer; gx = gx; gy = gy; gflags = gflags; tox = tox; toy = toy; tx = tx; ty = ty; tflags = tflags }

-- a word out of its range
abbrev pub bad_word : ℕ
bad_word = 16

-- a call that is refused: no list changes but the answer
abbrev pub refused_call : List ℕ → List ℕ → List ℤ → List ℤ → List ℕ → List ℤ → List ℤ → List ℤ → List ℤ → List ℕ → Left
refused_call words answer gx gy gflags tox toy tx ty tflags = left bad_word words answer gx gy gflags tox toy tx ty tflags
