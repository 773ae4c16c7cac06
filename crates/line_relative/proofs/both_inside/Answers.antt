-- `line_relative::both_inside` meets its contract: by the two tests. Assumes nothing.
use Rattle.line_relative.proofs.Both.{both_in, first_out, second_out}
use Rattle.line_relative.proofs.both_inside.Goals as goal

pub returns-then-firsts-i : goal.returns-then-firsts-i
returns-then-firsts-i c = let a = c.args in
    first_out a.first a.firsts a.second a.seconds c.if-firsts-i.true

pub returns-then-seconds-j : goal.returns-then-seconds-j
returns-then-seconds-j c = let a = c.args in
    second_out a.first a.firsts a.second a.seconds c.if-firsts-i.false c.if-seconds-j.true

pub returns : goal.returns
returns c = let a = c.args in
    both_in a.first a.firsts a.second a.seconds c.if-firsts-i.false c.if-seconds-j.false
