-- `normalize::start_of` meets its contract: it is what its calls ensure, put together. Assumes nothing.
use native.Mathlib.Omega.{arith}
use Prim.Native.Nat.{◌^◌}
use Rattle.normalize.proofs.Seen.{start_of_lem, estimate_le, past_ge}
use Rattle.normalize.proofs.start_of.Goals as goal

pub zeros_of-zeros-requires : goal.zeros_of-zeros-requires
zeros_of-zeros-requires c = let s = c in omega (arith, c.estimate_of-len.ensures, estimate_le s.args.x s.args.y (2 ^ 31) s.requires.0 s.requires.1)

pub start_at-requires : goal.start_at-requires
start_at-requires c = let u = c in let p = u in let z = p in let l = z in let s = l in
    let len-le = estimate_le s.args.x s.args.y (2 ^ 31) s.requires.0 s.requires.1 in
    (omega (arith, u.saturating_sub-up.ensures, z.zeros_of-zeros.ensures.1, past_ge z.zeros_of-zeros.result l.estimate_of-len.result, p.past_of-past.ensures.0), (omega (arith, c.saturating_sub-down.ensures, p.past_of-past.ensures.1), (omega (arith, l.estimate_of-len.ensures, len-le), (omega (arith, s.requires.0), omega (arith, s.requires.1)))))

pub returns : goal.returns
returns c = let d = c in let u = d in let p = u in let z = p in let l = z in let s = l in
    start_of_lem s.args.x s.args.y l.estimate_of-len.ensures z.zeros_of-zeros.ensures.0 p.past_of-past.ensures.0 u.saturating_sub-up.ensures c.saturating_sub-down.ensures c.start_at.ensures
