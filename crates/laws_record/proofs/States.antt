-- The words of a state are a state, and each is one of 32 bits. Assumes nothing.
use mathlib.Core.Bool.{Bool, false, true}
use mathlib.Core.List.{List}
use mathlib.Core.Path.{◌≡◌, refl}
use Prim.Native.Nat.{◌%◌, ◌/◌, ◌<◌, ◌^◌, suc, zero, ℕ}
use native.Mathlib.Omega.{arith}
use borrow.Author.Tests.{leb-true}
use lib.Dec.{leb}
use lib.IntN.{ℤ}
use lib.ListN.{drop}
use mir.Facts.{Fits-of_z, sfits_lit}
use mir.Syntax.{w32}
use mir.Val.{SFits}
use Rattle.graphics.specs.State.{fresh_state}
use Rattle.graphics.specs.declared.GraphicsState.{GraphicsState}
use Rattle.graphics.specs.declared.ZonePointer.{ZonePointer}
use Rattle.graphics.specs.declared.ZonePointer.TheVariants.{Glyph, Twilight}
use Rattle.int.specs.Word.{bits_of}
use Rattle.round.specs.declared.RoundMode.{RoundMode}
use Rattle.round.specs.declared.RoundMode.TheVariants.{DoubleGrid, DownToGrid, Grid, HalfGrid, Off, Super, Super45, UpToGrid}
use Rattle.state_words.specs.Words.{fact_word, is_state, mode_word, state_words, zone_word}
use Rattle.words.proofs.Back.{Bytes, Words, part_fits}
use Rattle.words.proofs.Back.Words.{more, none}
use Rattle.record_read.specs.Read.{kept_in, state_in}
use Rattle.record_read.proofs.Widths.{StateInWidth}
use Rattle.laws_record.proofs.Lies.{words_join}
use Rattle.laws_record.proofs.Whence.{both}

mode_fits : (m : RoundMode) → leb (mode_word m) 7 ≡ true
mode_fits Grid = refl
mode_fits HalfGrid = refl
mode_fits DoubleGrid = refl
mode_fits DownToGrid = refl
mode_fits UpToGrid = refl
mode_fits Off = refl
mode_fits Super = refl
mode_fits Super45 = refl

zone_fits : (z : ZonePointer) → leb (zone_word z) 1 ≡ true
zone_fits Twilight = refl
zone_fits Glyph = refl

fact_fits : (x : Bool) → leb (fact_word x) 1 ≡ true
fact_fits true = refl
fact_fits false = refl

-- the words of a state are one
pub state_is : (s : GraphicsState) → is_state (state_words s) ≡ true
unfolding is_state state_words
state_is s =
    let p = s.pointers in
    let f = s.facts in
    both
    (both (mode_fits s.round.mode)
    (both (zone_fits p.zp0) (both (zone_fits p.zp1) (both (zone_fits p.zp2)
    (both (fact_fits f.backward_compatibility) (both (fact_fits f.pedantic) (both (fact_fits f.native_clear_type_x) (both (fact_fits f.did_iup_x) (both (fact_fits f.did_iup_y) refl)))))))))
    (fact_fits s.measures.auto_flip)

-- ---- every word of a state is one of 32 bits
mode_small : (m : RoundMode) → mode_word m < 2 ^ 32
mode_small m = let h = leb-true (mode_word m) 7 (mode_fits m) in omega (arith, h)

zone_small : (z : ZonePointer) → zone_word z < 2 ^ 32
zone_small z = let h = leb-true (zone_word z) 1 (zone_fits z) in omega (arith, h)

fact_small : (x : Bool) → fact_word x < 2 ^ 32
fact_small x = let h = leb-true (fact_word x) 1 (fact_fits x) in omega (arith, h)

bits_small : {z : ℤ} → SFits w32 z → bits_of z < 2 ^ 32
bits_small f = (Fits-of_z f).fits

pub low_small : (n : ℕ) → n % 2 ^ 32 < 2 ^ 32
low_small n = omega arith

high_small : (n : ℕ) → n < 2 ^ 64 → n / 2 ^ 32 < 2 ^ 32
high_small n h = omega arith

pub state_words_fit : (s : GraphicsState) → StateInWidth s → Words (state_words s)
unfolding state_words
state_words_fit s k =
    let n = k.signed in
    let v = n.vectors in
    let r = n.round in
    let m = n.measures in
    let p = s.pointers in
    let f = s.facts in
    let q = s.references in
    more (bits_small v.0.0) (more (bits_small v.0.1) (more (bits_small v.1.0) (more (bits_small v.1.1) (more (bits_small v.2.0) (more (bits_small v.2.1)
    (more (mode_small s.round.mode) (more (bits_small r.0) (more (bits_small r.1) (more (bits_small r.2)
    (more (low_small q.rp0) (more (high_small q.rp0 k.rp0) (more (low_small q.rp1) (more (high_small q.rp1 k.rp1) (more (low_small q.rp2) (more (high_small q.rp2 k.rp2)
    (more k.loop
    (more (zone_small p.zp0) (more (zone_small p.zp1) (more (zone_small p.zp2)
    (more (fact_small f.backward_compatibility) (more (fact_small f.pedantic) (more (fact_small f.native_clear_type_x) (more (fact_small f.did_iup_x) (more (fact_small f.did_iup_y)
    (more (bits_small m.cut_in) (more k.wrapped
    (more (bits_small m.minimum_distance) (more (bits_small m.single_width) (more (bits_small m.single_width_cut_in) (more (fact_small s.measures.auto_flip) (more (bits_small m.scale)
    (more (bits_small n.last_pushed) (more k.pushes none)))))))))))))))))))))))))))))))))

-- ---- the fresh state's among them
fresh_fits : StateInWidth fresh_state
fresh_fits = record {
  signed = record {
    vectors = ((sfits_lit tt, sfits_lit tt), (sfits_lit tt, sfits_lit tt), (sfits_lit tt, sfits_lit tt));
    round = (sfits_lit tt, sfits_lit tt, sfits_lit tt);
    measures = record { cut_in = sfits_lit tt; minimum_distance = sfits_lit tt; single_width = sfits_lit tt; single_width_cut_in = sfits_lit tt; scale = sfits_lit tt };
    last_pushed = sfits_lit tt;
  };
  loop = omega arith;
  rp0 = omega arith;
  rp1 = omega arith;
  rp2 = omega arith;
  wrapped = omega arith;
  pushes = omega arith;
}

pub fresh_words : Words (state_words fresh_state)
fresh_words = state_words_fit fresh_state fresh_fits

-- ---- the words of the state that a record has, completed
drop_words : (k : ℕ) {ws : List ℕ} → Words ws → Words (drop k ws)
drop_words zero f = f
drop_words (suc k) none = none
drop_words (suc k) (more h f) = drop_words k f

pub state_words_lem : (bytes : List ℕ) → Bytes bytes → Words (state_in bytes)
state_words_lem bytes f = words_join (part_fits bytes 0 (kept_in bytes) f) (drop_words (kept_in bytes) fresh_words)
