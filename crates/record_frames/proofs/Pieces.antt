-- Pieces put one behind the other over bytes. Assumes nothing.
use mathlib.Core.List.{List, ◌++◌, append_assoc}
use mathlib.Core.Path.{◌∙◌, ◌≡◌, ap, ap₂, subst, sym}
use Prim.Native.Nat.{◌+◌, ◌≤◌, ℕ}
use native.Mathlib.Omega.{arith}
use lib.ListN.{drop, length, length-append, take}
use lib.Seq.{drop-append-add, drop-drop, length-take-le, take_at}
use Rattle.words.specs.Lists.{bytes_of_word}
use Rattle.record_frames.specs.Frames.{Put, framed}

-- ---- a piece behind a piece
pub put_join : {s t : List ℕ} {at mid next : ℕ} {b c d : List ℕ} → at ≤ length b → Put s at mid b c → Put t mid next c d → Put (s ++ t) at next b d
put_join {s} {t} {at} {mid} {next} {b} {c} {d} h p q =
    let front : List ℕ = take at b ++ s in
    let long : length front ≡ mid = omega (arith, length-append (take at b) s, length-take-le at b h, p.behind) in
    let kept : take mid c ≡ front = ap (take mid) p.there ∙ take_at front (drop mid b) mid long in
    let on : next ≡ length front + length t = omega (arith, q.behind, long) in
    let rest : drop next c ≡ drop next b =
    ap₂ drop on p.there
    ∙ drop-append-add front (drop mid b) (length t)
    ∙ drop-drop (length t) mid b
    ∙ ap (λ (k : ℕ). drop k b) (sym q.behind) in
    record {
      behind = omega (arith, p.behind, q.behind, length-append s t);
      there = q.there ∙ ap₂ (λ (x y : List ℕ). x ++ t ++ y) kept rest ∙ ap (λ (x : List ℕ). x ++ drop next b) (append_assoc (take at b) s t);
    }

-- ---- a frame
-- the front of what a print leaves is the print
pub front : (text rest : List ℕ) {size : ℕ} {l : List ℕ} → size ≡ length text → l ≡ text ++ rest → take size l ≡ text
front text rest {size} {l} n e = ap (take size) e ∙ take_at text rest size (sym n)

pub frame_put : (text : List ℕ) {size at mid next : ℕ} {piece b c d : List ℕ} → at ≤ length b → size ≡ length text → piece ≡ text → Put (bytes_of_word size) at mid b c → Put piece mid next c d → Put (framed text) at next b d
unfolding framed
frame_put text {size} {at} {mid} {next} {piece} {b} {c} {d} h n e p q =
    put_join h (subst (λ (k : ℕ). Put (bytes_of_word k) at mid b c) n p) (subst (λ (s : List ℕ). Put s mid next c d) e q)
