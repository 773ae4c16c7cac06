-- What is read can be held by a record of the newest edition, where that has 24 KiB at most: `read_keepable` holds of every byte string that `read_of`
-- keeps. Assumes nothing.
use Rattle.std.specs.Prelude.{Result, Ok, Err}
use Rattle.record_read.specs.declared.Damage.{Damage}
use mathlib.Core.List.{List, [], ◌∷◌}
use mathlib.Core.Path.{◌≡◌, subst, ap, sym}
use Prim.Native.Nat.{◌%◌, ◌*◌, ◌+◌, ◌<◌, ◌≤◌, ◌^◌, ℕ}
use native.Mathlib.Omega.{arith}
use mir.Facts.{sfits_to_z}
use mir.Syntax.{w32}
use mir.Val.{SFits}
use lib.ListN.{get_or}
use Rattle.rules.specs.declared.Rules.TheVariants.{FreeType}
use Rattle.int.specs.Word.{of_bits}
use Rattle.state_words.specs.Words.{state_of}
use Rattle.words.specs.Lists.{ends_of, flags_of, numbers_of, part}
use Rattle.words.proofs.Back.{Bytes, Words, part_fits}
use Rattle.words.proofs.Back.Words.{more, none}
use Rattle.record_layout.specs.Order.{list_place, most_bytes, record_size}
use Rattle.record_layout.specs.declared.Layout.{Layout}
use Rattle.record_read.specs.Format.{Held, layout_for}
use Rattle.record_read.specs.Read.{held_in, open_of, read_as, read_of, state_in}
use Rattle.record_read.specs.Read.Read.{Kept}
use Rattle.laws_record.proofs.Keepable.{Keepable}
use Rattle.laws_record.proofs.States.{state_words_lem}
use Rattle.laws_record.proofs.Values.{words_at}
use Rattle.laws_record.proofs.Verdict.{whence}
use Rattle.laws_record.proofs.Whence.{refused_or_kept}
use Rattle.words.proofs.Widths.{Below, Numbers, no_word, one_word}
use Rattle.record_read.proofs.Widths.{FixedInWidth, HeldInWidth, InWidth, StateInWidth}

-- ---- words of 32 bits, read as numbers, flags, ends and a state
number_fits : (w : ℕ) → w < 2 ^ 32 → SFits w32 (of_bits w)
number_fits w h = sfits_to_z {w = w32} (record { fits = h })

numbers_fit : {ws : List ℕ} → Words ws → Numbers (numbers_of ws)
numbers_fit none = no_word
numbers_fit (more {w} h f) = one_word (number_fits w h) (numbers_fit f)

flag_fits : (w : ℕ) → w % 256 < 256
flag_fits w = omega arith

flags_fit : (ws : List ℕ) → Below 256 (flags_of ws)
flags_fit [] = no_word
flags_fit (w ∷ ws) = one_word (flag_fits w) (flags_fit ws)

end_fits : (w : ℕ) → w % 65536 < 65536
end_fits w = omega arith

ends_fit : (ws : List ℕ) → Below 65536 (ends_of ws)
ends_fit [] = no_word
ends_fit (w ∷ ws) = one_word (end_fits w) (ends_fit ws)

long_fits : (low high : ℕ) → low < 2 ^ 32 → high < 2 ^ 32 → low + high * 2 ^ 32 < 2 ^ 64
long_fits low high f g = omega arith

module _ (ws : List ℕ) (f : Words ws) where
  at : (k : ℕ) → SFits w32 (of_bits (get_or ws k 0))
  at k = number_fits (get_or ws k 0) (words_at ws k f)

  long : (low high : ℕ) → get_or ws low 0 + get_or ws high 0 * 2 ^ 32 < 2 ^ 64
  long low high = long_fits (get_or ws low 0) (get_or ws high 0) (words_at ws low f) (words_at ws high f)

  state_fits : StateInWidth (state_of ws)
  unfolding state_of
  state_fits = record {
    signed = record { vectors = ((at 0, at 1), (at 2, at 3), (at 4, at 5)); round = (at 7, at 8, at 9); measures = record { cut_in = at 25; minimum_distance = at 27; single_width = at 28; single_width_cut_in = at 29; scale = at 31 }; last_pushed = at 32 };
    loop = words_at ws 16 f;
    rp0 = long 10 11;
    rp1 = long 12 13;
    rp2 = long 14 15;
    wrapped = words_at ws 26 f;
    pushes = words_at ws 33 f;
  }

-- ---- what lies in bytes is within its width, wherever it lies
module _ (bytes : List ℕ) (f : Bytes bytes) (l : Layout) where
  numbers : (first count : ℕ) → Numbers (numbers_of (part bytes first count))
  numbers first count = numbers_fit (part_fits bytes first count f)

  fixed_fits : FixedInWidth (held_in bytes l).fixed
  fixed_fits = record {
    controls = numbers (list_place l 13) l.controls;
    gux = numbers (list_place l 0) l.points;
    guy = numbers (list_place l 1) l.points;
    gox = numbers (list_place l 2) l.points;
    goy = numbers (list_place l 3) l.points;
    contours = ends_fit (part bytes (list_place l 7) l.contours);
  }

  world_fits : InWidth (held_in bytes l).world
  world_fits = record {
    state = state_fits (state_in bytes) (state_words_lem bytes f);
    gx = numbers (list_place l 4) l.points;
    gy = numbers (list_place l 5) l.points;
    gflags = flags_fit (part bytes (list_place l 6) l.points);
    tox = numbers (list_place l 8) l.twilight;
    toy = numbers (list_place l 9) l.twilight;
    tx = numbers (list_place l 10) l.twilight;
    ty = numbers (list_place l 11) l.twilight;
    tflags = flags_fit (part bytes (list_place l 12) l.twilight);
  }

  held_fits : HeldInWidth (held_in bytes l)
  held_fits = record { fixed = fixed_fits; sheet = numbers (list_place l 14) l.words; world = world_fits }

-- ---- over every byte string
by_verdict : (bytes : List ℕ) → Bytes bytes → (o : Result Layout Damage) (h : Held) → read_as bytes o ≡ Kept h → HeldInWidth h
by_verdict bytes f (Ok l) h e = let g : held_in bytes l ≡ h = cc e in subst HeldInWidth g (held_fits bytes f l)
by_verdict bytes f (Err why) h e = absurd (refused_or_kept e)

-- what is read has each value within its width
pub read_widths : (bytes : List ℕ) → Bytes bytes → (h : Held) → read_of bytes ≡ Kept h → HeldInWidth h
read_widths bytes f h e = by_verdict bytes f (open_of bytes) h e

-- and no rules but those that every record is read under
rules_read : (bytes : List ℕ) (o : Result Layout Damage) (h : Held) → read_as bytes o ≡ Kept h → h.fixed.rules ≡ FreeType
rules_read bytes (Ok l) h e = let g : held_in bytes l ≡ h = cc e in ap (λ (k : Held). k.fixed.rules) (sym g)
rules_read bytes (Err why) h e = absurd (refused_or_kept e)

-- and can be held by a record, where the newest edition has room for it
pub read_keepable : (bytes : List ℕ) → Bytes bytes → (h : Held) → read_of bytes ≡ Kept h → record_size (layout_for h) ≤ most_bytes → Keepable h
read_keepable bytes f h e short = record { rules = rules_read bytes (open_of bytes) h e; sizes = (whence bytes h e).fit; short = short; widths = read_widths bytes f h e }
