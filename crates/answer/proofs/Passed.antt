-- What `?` hands on is the refusal that it met. Assumes nothing.
use Rattle.std.specs.Prelude.{Err, IsErrAnd, Ok, Result}
use mathlib.Core.Path.{◌≡◌, ap}
use Rattle.answer.specs.declared.Refusal.{Refusal}

pub passed_on : {T : Type 0} (said : Result T Refusal) {why : Refusal} → IsErrAnd said (λ (it : Refusal). it ≡ why) → said ≡ Err why
passed_on (Ok given) h = absurd h
passed_on (Err it) h = ap Err h
