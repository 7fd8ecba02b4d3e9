-- The pins in 01's order.
-- Assumes nothing.
use borrow.Author.Tests.{ne_eqb}
use Rattle.records.specs.Command.{by_pins}
use Rattle.records.proofs.by_pins.Goals as goal

pub returns-in-0 : goal.returns-in-0
unfolding by_pins
returns-in-0 c = rw c.in-0.is

pub returns-in-1 : goal.returns-in-1
unfolding by_pins
returns-in-1 c = rw c.in-1.is

pub returns-in-2 : goal.returns-in-2
unfolding by_pins
returns-in-2 c = rw c.in-2.is

pub returns-in-3 : goal.returns-in-3
unfolding by_pins
returns-in-3 c = rw c.in-3.is

pub returns-in-4 : goal.returns-in-4
unfolding by_pins
returns-in-4 c = rw c.in-4.is

pub returns-in-5 : goal.returns-in-5
unfolding by_pins
returns-in-5 c = rw c.in-5.is

pub returns-in-6 : goal.returns-in-6
unfolding by_pins
returns-in-6 c = rw c.in-6.is

pub returns-in-7 : goal.returns-in-7
unfolding by_pins
returns-in-7 c = rw c.in-7.is

pub returns-in_default : goal.returns-in_default
unfolding by_pins
returns-in_default c = rw (ne_eqb _ _ c.in_default.in_default-own.rest.0.0.0.0.0.0.0.1, ne_eqb _ _ c.in_default.in_default-own.rest.0.0.0.0.0.0.1, ne_eqb _ _ c.in_default.in_default-own.rest.0.0.0.0.0.1, ne_eqb _ _ c.in_default.in_default-own.rest.0.0.0.0.1, ne_eqb _ _ c.in_default.in_default-own.rest.0.0.0.1, ne_eqb _ _ c.in_default.in_default-own.rest.0.0.1, ne_eqb _ _ c.in_default.in_default-own.rest.0.1, ne_eqb _ _ c.in_default.in_default-own.rest.1)
