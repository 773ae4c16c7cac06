-- The sizes that answer 2 is about: document 01, "Sizes". Assumes nothing.
use Rattle.std.specs.Prelude.{ℕ, Bool, ◌&&◌, List, leb, ℤ, length}
use Rattle.limits.specs.Limits.{most_control_values, most_words}
use Rattle.zone.specs.Sizes.{glyph_fits, twilight_fits}
use Rattle.line.specs.World.{Fixed, World}

-- every list of a zone of one length, and no size above its limit
unfoldable pub fits : Fixed → List ℤ → List ℤ → List ℤ → List ℕ → List ℤ → List ℤ → List ℤ → List ℤ → List ℕ → Bool
fits f sheet gx gy gflags tox toy tx ty tflags =
    glyph_fits f.gux f.guy f.gox f.goy gx gy gflags f.contours
    && twilight_fits tox toy tx ty tflags
    && leb (length f.controls) most_control_values
    && leb (length sheet) most_words

abbrev pub world_fits : Fixed → List ℤ → World → Bool
world_fits f sheet w = fits f sheet w.gx w.gy w.gflags w.tox w.toy w.tx w.ty w.tflags
