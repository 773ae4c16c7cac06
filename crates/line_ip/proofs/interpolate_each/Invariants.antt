-- `line_ip::interpolate_each` meets its contract. The invariant: what is left to do from k on is the whole (`Left`). Assumes nothing.
use Rattle.line_ip.specs.Ip.{outline_place}
use Rattle.line_ip.specs.Loop.{interpolate_at}
use Rattle.line_steps.proofs.Walk.{Left}
use Rattle.line_steps.specs.Loop.{zones}
use Rattle.line_ip.proofs.interpolate_each.Given as goal

abbrev pub invariant-loop-k : goal.invariant-loop-k
invariant-loop-k l = Left (interpolate_at l.v l.facts l.zone (outline_place l.twilight l.gux l.guy l.gox l.goy l.tox l.toy l.zone) l.t) l.count l.operands (zones l.initial.gx l.initial.gy l.initial.gflags l.initial.tx l.initial.ty l.initial.tflags) l.k (zones l.gx l.gy l.gflags l.tx l.ty l.tflags)
