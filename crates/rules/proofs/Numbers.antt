-- Each rules' number and name are its own: read back they are the same rules. Assumes nothing.
use Rattle.std.specs.Prelude.{Some}
use mathlib.Core.Path.{◌≡◌, refl}
use Rattle.rules.specs.Rules.{by_name, by_number, name_of_rules, number_of_rules, same_bytes}
use Rattle.rules.specs.declared.Rules.TheVariants.{FreeType, Skrifa}
use Rattle.rules.specs.declared.Rules.{Rules}

pub number_read_back : (rules : Rules) → by_number (number_of_rules rules) ≡ Some rules
unfolding by_number
number_read_back Skrifa = refl
number_read_back FreeType = refl

pub name_read_back : (rules : Rules) → by_name (name_of_rules rules) ≡ Some rules
unfolding by_name same_bytes
name_read_back Skrifa = refl
name_read_back FreeType = refl
