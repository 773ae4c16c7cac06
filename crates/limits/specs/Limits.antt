-- The largest sizes: document 01, "What the replayer holds", as document 02, K6, has them. Assumes nothing.
use Rattle.std.specs.Prelude.{ℕ}

abbrev pub most_points : ℕ
most_points = 65535

abbrev pub most_contours : ℕ
most_contours = 65535

abbrev pub most_control_values : ℕ
most_control_values = 16384

-- words of a sheet
abbrev pub most_words : ℕ
most_words = 262144
