-- What each definition of specs/Read.antt comes to by what the calls ensure, over plain values: the functions' proofs cite these, so that no tactic has
-- to look at what is known at a place in the code. Assumes nothing.
use mathlib.Core.Path.{◌≡◌, refl}
use mathlib.Core.Bool.{Bool, ◌&&◌}
use mathlib.Core.List.{List}
use Prim.Native.Nat.{ℕ, ◌+◌, ◌-◌, ◌*◌}
use lib.Dec.{eqb, leb, ltb}
use Rattle.record_layout.specs.Order.{at_trailer, count_of, list_in, list_place, trailer_size}
use Rattle.record_layout.specs.declared.Layout.{Layout}
use Rattle.limits.specs.Limits.{most_contours, most_control_values, most_points, most_words}
use Rattle.state_words.specs.Words.{is_state}
use Rattle.words.specs.Lists.{all_at_most, part, word, wrapping_sum}
use Rattle.record_read.specs.Read.{counts_fit, state_in, sum_fits, trailer_fits, trailer_word, word_count, words_fit}

pub trailer_read : (bytes : List ℕ) (k : ℕ) {n a r : ℕ} → n ≡ word_count bytes → a ≡ n - trailer_size → r ≡ word bytes (a + k) → r ≡ trailer_word bytes k
trailer_read bytes k en ea er = rw (er, ea, en) refl

pub counts_seen :
    (l : Layout) {p c t k w : ℕ} {pf cf tf kf wf : Bool} → p ≡ l.points → c ≡ l.contours → t ≡ l.twilight → k ≡ l.controls → w ≡ l.words →
    pf ≡ leb p most_points → cf ≡ leb c most_contours → tf ≡ leb t most_points → kf ≡ leb k most_control_values → wf ≡ leb w most_words → pf && cf && tf && kf && wf ≡ counts_fit l
counts_seen l ep ec et ek ew pf cf tf kf wf = rw (pf, cf, tf, kf, wf, ep, ec, et, ek, ew) refl

pub sum_seen : (bytes : List ℕ) (l : Layout) {a n : ℕ} → a ≡ at_trailer l → n ≡ word_count bytes → eqb (a + trailer_size) n ≡ eqb (at_trailer l + trailer_size) (word_count bytes)
sum_seen bytes l ea en = rw (ea, en) refl

pub back_seen : (bytes : List ℕ) (l : Layout) {t w a : ℕ} → t ≡ trailer_word bytes 6 → w ≡ t → a ≡ at_trailer l → eqb w (a * 4) ≡ eqb (trailer_word bytes 6) (at_trailer l * 4)
back_seen bytes l et ew ea = rw (ew, et, ea) refl

pub trailer_seen :
    (bytes : List ℕ) (l : Layout) {u b : Bool} → u ≡ eqb (at_trailer l + trailer_size) (word_count bytes) → b ≡ eqb (trailer_word bytes 6) (at_trailer l * 4) →
    u && ltb 0 l.state && b ≡ trailer_fits bytes l
trailer_seen bytes l eu eb = rw (eu, eb) refl

pub list_seen :
    (bytes : List ℕ) (l : Layout) (k most : ℕ) {at n c : ℕ} {f : Bool} → at ≡ list_place l k → c ≡ count_of l k → n ≡ c → f ≡ all_at_most most (part bytes at n) →
    f ≡ all_at_most most (list_in bytes l k)
list_seen bytes l k most ea ec en ef = rw (ef, en, ec, ea) refl

pub words_seen :
    (bytes : List ℕ) (l : Layout) {s f e t : Bool} → s ≡ is_state (state_in bytes) → f ≡ all_at_most 255 (list_in bytes l 6) →
    e ≡ all_at_most 65535 (list_in bytes l 7) → t ≡ all_at_most 255 (list_in bytes l 12) → s && f && e && t ≡ words_fit bytes l
words_seen bytes l es ef ee et = rw (es, ef, ee, et) refl

pub total_seen :
    (bytes : List ℕ) {n a s t : ℕ} → n ≡ word_count bytes → a ≡ n - 1 → s ≡ wrapping_sum (part bytes 0 a) → t ≡ trailer_word bytes 7 → eqb s t ≡ sum_fits bytes
total_seen bytes en ea es et = rw (es, ea, en, et) refl
