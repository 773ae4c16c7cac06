-- `outline_print::put_word` meets its contract: the word was copied to its place. Assumes nothing.
use mathlib.Core.List.{List, ◌++◌, append_assoc}
use mathlib.Core.Path.{ap, refl, sym, ◌∙◌}
use Prim.Native.Nat.{ℕ, ◌+◌, ◌-◌}
use native.Mathlib.Omega.{arith}
use borrow.Rule.Slice.PartMut.{put_mid, Post-is}
use lib.ListN.{drop, length, take}
use Rattle.std.proofs.lemmas.List.Edits.{sets-eq}
use Rattle.outline_print.proofs.put_word.Goals as goal

pub returns : goal.returns
returns c = let w = c.args.word.now in let l = c.args.text.now in let at = c.args.at in let next = at + length w in
    record {
      behind = refl;
      there =
          ap (put_mid at (next - at) l) c.copy_from_slice.ensures.after
          ∙ ap (λ (t : List ℕ). take at l ++ (w ++ t)) (Post-is at next l (omega arith))
          ∙ sym (append_assoc (take at l) w (drop next l))
          ∙ sym (sets-eq w l at c.requires);
    }
