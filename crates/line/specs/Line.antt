-- What a line comes to: document 01, "A sheet and its lines". Assumes nothing.
use Rattle.std.specs.Prelude.{Ok, Err}
use Rattle.answer.specs.declared.Refusal.{Refusal}
use Rattle.graphics.specs.declared.GraphicsState.{GraphicsState}
use Rattle.line.specs.declared.Stepped.{Stepped}

abbrev pub done_with : GraphicsState → Stepped
done_with s = record { call = Ok tt; state = s }

abbrev pub refused_with : GraphicsState → Refusal → Stepped
refused_with s why = record { call = Err why; state = s }
