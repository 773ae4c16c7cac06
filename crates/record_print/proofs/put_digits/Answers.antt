-- `record_print::put_digits` meets its contract: the library's digits are the number's, and they end where as many as the number has do. Assumes nothing.
use mathlib.Core.List.{List, ◌++◌, append_assoc}
use mathlib.Core.Path.{◌≡◌, ap, sym, ◌∙◌}
use Prim.Native.Nat.{ℕ, ◌+◌}
use native.Mathlib.Omega.{arith}
use lib.ListN.{drop, length, take, take-append-drop}
use Rattle.std.proofs.lemmas.List.Edits.{sets-eq}
use Rattle.std.specs.Fmt.{decimal as library's}
use Rattle.record_print.proofs.Decimal.{as_library}
use Rattle.record_print.specs.Text.{decimal}
use Rattle.record_print.proofs.put_digits.Goals as goal

pub write_digits-requires : goal.write_digits-requires
write_digits-requires c =
    let e : library's c.args.n ≡ decimal c.args.n = as_library c.args.n c.ranges.n.fits in
    (omega (arith, ap length e, c.count_digits.ensures), omega (arith, c.count_digits.ensures, c.requires))

pub returns : goal.returns
returns c =
    let d = decimal c.args.n in let l = c.args.text.now in let at = c.args.at in let new = c.write_digits.new.buf in
    let e : library's c.args.n ≡ d = as_library c.args.n c.ranges.n.fits in
    let count : c.count_digits.result ≡ length d = c.count_digits.ensures in
    let start : c.write_digits.result ≡ at = omega (arith, ap length e, count, c.write_digits.ensures.start) in
    let before : take at new ≡ take at l = ap (λ (k : ℕ). take k new) (sym start) ∙ c.write_digits.ensures.before ∙ ap (λ (k : ℕ). take k l) start in
    let behind : drop at new ≡ d ++ drop (at + length d) l =
    ap (λ (k : ℕ). drop k new) (sym start) ∙ c.write_digits.ensures.written
    ∙ ap (λ (t : List ℕ). t ++ drop (at + c.count_digits.result) l) e
    ∙ ap (λ (k : ℕ). d ++ drop (at + k) l) count in
    record {
      behind = ap (λ (k : ℕ). at + k) count;
      there =
          sym (take-append-drop at new)
          ∙ ap (λ (t : List ℕ). t ++ drop at new) before
          ∙ ap (λ (t : List ℕ). take at l ++ t) behind
          ∙ sym (append_assoc (take at l) d (drop (at + length d) l))
          ∙ sym (sets-eq d l at (omega (arith, c.requires)));
    }
