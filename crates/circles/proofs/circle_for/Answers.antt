-- Each table of the code is the one that its decimals round to, which antt computes.
use Rattle.std.proofs.Common.{refl}
use lib.Ieee.{of_bits, round}
use Rattle.circles.specs.Circles.{circle, entries8, entries16, entries32, entries64, entries128}
use Rattle.circles.proofs.Circles.{unit_circle}
use Rattle.circles.proofs.circle_for.Goals as goal

pub returns-then-radius : goal.returns-then-radius
unfolding circle entries8 entries16 of_bits round
returns-then-radius c = record { table = simp c.if-radius.true refl; stands = unit_circle c.args.radius }

pub returns-then-radius-2 : goal.returns-then-radius-2
unfolding circle entries16 of_bits round
returns-then-radius-2 c = record { table = simp (c.if-radius.false, c.if-radius-2.true) refl; stands = unit_circle c.args.radius }

pub returns-then-radius-3 : goal.returns-then-radius-3
unfolding circle entries32 entries64 entries128 of_bits round
returns-then-radius-3 c = record { table = simp (c.if-radius.false, c.if-radius-2.false, c.if-radius-3.true) refl; stands = unit_circle c.args.radius }

pub returns-then-radius-4 : goal.returns-then-radius-4
unfolding circle entries64 entries128 of_bits round
returns-then-radius-4 c = record { table = simp (c.if-radius.false, c.if-radius-2.false, c.if-radius-3.false, c.if-radius-4.true) refl; stands = unit_circle c.args.radius }

pub returns-else-radius-4 : goal.returns-else-radius-4
unfolding circle entries128 of_bits round
returns-else-radius-4 c = record { table = simp (c.if-radius.false, c.if-radius-2.false, c.if-radius-3.false, c.if-radius-4.false) refl; stands = unit_circle c.args.radius }
