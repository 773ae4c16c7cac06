-- `record_frames::answer_frame` meets its contract: what is framed is the print. Assumes nothing.
use mathlib.Core.List.{List}
use mathlib.Core.Path.{subst}
use Prim.Native.Nat.{ℕ}
use Rattle.record_print.specs.Print.{print_of}
use Rattle.record_frames.specs.Frames.{Put, framed}
use Rattle.record_frames.proofs.Pieces.{front}
use Rattle.record_frames.proofs.answer_frame.Goals as goal

pub returns : goal.returns
returns c =
    let text = print_of c.args.rules c.args.bytes.now in record { put = subst (λ (t : List ℕ). Put (framed t) c.args.at c.put_frame.result c.args.out.now c.put_frame.new.out) (front text _ c.print-size.ensures.value c.print-size.ensures.text_after) c.put_frame.ensures.put; upper_bound = c.put_frame.ensures.upper_bound }
