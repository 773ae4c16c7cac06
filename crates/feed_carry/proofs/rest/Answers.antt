-- `feed_carry::rest` meets its contract, by what was seen. Assumes nothing.
use Rattle.feed_carry.proofs.Joins.{rest_bad, rest_long, rest_waits, rest_whole}
use Rattle.feed_carry.proofs.rest.Goals as goal

pub append-requires : goal.append-requires
append-requires c = c.requires c.in-Waits.is

pub returns-in-Waits : goal.returns-in-Waits
returns-in-Waits c = let a = c.args in
    rest_waits a.base a.held a.lines a.s a.words.now a.carry.now c.in-Waits.is c.waiting.ensures c.append.ensures

pub returns-in-Bad : goal.returns-in-Bad
returns-in-Bad c = let a = c.args in rest_bad a.base a.held a.lines a.s a.words.now a.carry.now c.in-Bad.is c.stopped.ensures

pub returns-in-Long : goal.returns-in-Long
returns-in-Long c = let a = c.args in rest_long a.base a.held a.lines a.s a.words.now a.carry.now c.in-Long.is c.stopped-in-Long.ensures

pub returns-in-Whole : goal.returns-in-Whole
returns-in-Whole c = let a = c.args in rest_whole a.base a.held a.lines a.s a.words.now a.carry.now c.in-Whole.is c.waiting-in-Whole.ensures
