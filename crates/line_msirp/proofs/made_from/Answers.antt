-- `line_msirp::made_from` meets its contract: by the rules. Assumes nothing.
use mathlib.Core.Path.{ap, sym, ◌∙◌}
use Rattle.line.specs.Places.{place_in}
use Rattle.rules.specs.declared.Rules.{Rules}
use Rattle.zone.specs.Zone.{place_of}
use Rattle.line_msirp.specs.Msirp.{made_from}
use Rattle.line_msirp.proofs.made_from.Goals as goal

pub returns-in-Skrifa : goal.returns-in-Skrifa
returns-in-Skrifa c = let a = c.args in
    c.place_at.ensures
    ∙ sym (ap (λ (r : Rules). made_from r (place_of a.tox.now a.toy.now a.at) (place_in a.reference a.gox.now a.goy.now a.tox.now a.toy.now a.other)) c.in-Skrifa.is)

pub returns-in-FreeType : goal.returns-in-FreeType
returns-in-FreeType c = let a = c.args in
    c.place_in.ensures
    ∙ sym (ap (λ (r : Rules). made_from r (place_of a.tox.now a.toy.now a.at) (place_in a.reference a.gox.now a.goy.now a.tox.now a.toy.now a.other)) c.in-FreeType.is)
