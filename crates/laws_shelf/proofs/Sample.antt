-- Document 01's whole run as a record: what the laws ask of a record is met by one, and its replay leaves another. Assumes nothing.
use mathlib.Core.Bool.{false}
use mathlib.Core.Path.{◌∙◌, ◌≡◌, ap, refl, sym}
use Prim.Native.Nat.{◌<◌, ℕ}
use native.Mathlib.Omega.{arith}
use lib.IntN.{pos}
use mir.Facts.{sfits_lit}
use Rattle.rules.specs.declared.Rules.TheVariants.{FreeType}
use Rattle.graphics.specs.State.{x_axis, y_axis}
use Rattle.line.specs.Sizes.{fits}
use Rattle.line.specs.World.{World}
use Rattle.zone.specs.Sizes.{glyph_fits, pair_fits, placed_fits, twilight_fits}
use Rattle.run_lines.specs.Onward.{Ran}
use Rattle.laws_run.proofs.Budget.{finished_runs}
use Rattle.laws_run.proofs.Numbers.{at_first, flags, glyph, heights, holding, numbers, state_with, three, whole, zeros}
use Rattle.record_read.specs.Format.{Held, held, record_of}
use Rattle.record_read.specs.Read.{read_of}
use Rattle.record_read.specs.Read.Read.{Kept}
use Rattle.laws_record.proofs.Keepable.{Keepable}
use Rattle.laws_record.proofs.Round.{kept_as_written, record_bytes, record_long}
use Rattle.words.proofs.Widths.{Below, Numbers, no_word, one_word}
use Rattle.record_run.specs.After.{after}
use Rattle.record_replay.specs.Shelf.{shelf_of}

-- ---- the record
abbrev pub sample : Held
sample = held glyph whole (at_first (state_with x_axis 0 0 0 false))

zeros_fit : Numbers zeros
zeros_fit = one_word (sfits_lit tt) (one_word (sfits_lit tt) (one_word (sfits_lit tt) no_word))

heights_fit : Numbers heights
heights_fit = one_word (sfits_lit tt) (one_word (sfits_lit tt) (one_word (sfits_lit tt) no_word))

sheet_fits : Numbers whole
sheet_fits =
    one_word (sfits_lit tt) (one_word (sfits_lit tt) (one_word (sfits_lit tt) (one_word (sfits_lit tt)
    (one_word (sfits_lit tt) (one_word (sfits_lit tt) (one_word (sfits_lit tt) no_word))))))

flags_fit : Below 256 (flags 1 1 1)
flags_fit = let one : 1 < 256 = omega arith in one_word one (one_word one (one_word one no_word))

pub sample_keepable : Keepable sample
unfolding fits glyph_fits twilight_fits pair_fits placed_fits
sample_keepable = record {
  rules = refl;
  sizes = refl;
  short = omega arith;
  widths = record {
    fixed = record { controls = no_word; gux = zeros_fit; guy = heights_fit; gox = zeros_fit; goy = heights_fit; contours = one_word {w = 2} (omega arith) no_word };
    sheet = sheet_fits;
    world = record {
      state = record {
        signed = record {
          vectors = ((sfits_lit tt, sfits_lit tt), (sfits_lit tt, sfits_lit tt), (sfits_lit tt, sfits_lit tt));
          round = (sfits_lit tt, sfits_lit tt, sfits_lit tt);
          measures = record { cut_in = sfits_lit tt; minimum_distance = sfits_lit tt; single_width = sfits_lit tt; single_width_cut_in = sfits_lit tt; scale = sfits_lit tt };
          last_pushed = sfits_lit tt;
        };
        loop = omega arith;
        rp0 = omega arith;
        rp1 = omega arith;
        rp2 = omega arith;
        wrapped = omega arith;
        pushes = omega arith;
      };
      gx = zeros_fit;
      gy = heights_fit;
      gflags = flags_fit;
      tox = no_word;
      toy = no_word;
      tx = no_word;
      ty = no_word;
      tflags = no_word;
    };
  };
}

-- it reads back as written
pub sample_reads : read_of (record_of sample) ≡ Kept sample
sample_reads = kept_as_written sample sample_keepable

-- ---- its replay
-- with the budget of its seven words the run is that of three lines
pub sample_after : (after FreeType sample).world ≡ holding (state_with y_axis 0 0 0 false) (three (pos 64) (pos 124) (pos 154)) (flags 5 1 1)
sample_after =
    let run = numbers.run_3 in
    ap (λ (r : Ran). r.world) (finished_runs glyph whole 3 4 0 (at_first (state_with x_axis 0 0 0 false)) (ap (λ (r : Ran). r.answer) run) ∙ run)
