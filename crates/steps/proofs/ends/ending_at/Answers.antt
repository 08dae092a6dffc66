-- `ending_at` meets its contract, number by number.
use Rattle.std.proofs.Common.{arith, rules}
use borrow.Author.Tests.{ne_eqb}
use Rattle.steps.specs.GateTable.{row_at}
use Rattle.steps.specs.Ended.{stop_place}
use Rattle.steps.specs.Ends.{ending_for}
use Rattle.steps.proofs.ends.ending_at.Goals as goal

pub returns-in_default : goal.returns-in_default
unfolding ending_for stop_place row_at
returns-in_default c = rw c.in_default.is c.stays.ensures

pub returns-in-4 : goal.returns-in-4
unfolding ending_for stop_place
returns-in-4 c = rw (c.in-Err.is, ← c.place.ensures, ← c.number_at.ensures, c.in-4.is) (search rules)

pub returns-in-5 : goal.returns-in-5
unfolding ending_for stop_place
returns-in-5 c = rw (c.in-Err.is, ← c.place.ensures, ← c.number_at.ensures, c.in-5.is) (search rules)

pub returns-in-6 : goal.returns-in-6
unfolding ending_for stop_place
returns-in-6 c = rw (c.in-Err.is, ← c.place.ensures, ← c.number_at.ensures, c.in-6.is) (search rules)

pub returns-in-7 : goal.returns-in-7
unfolding ending_for stop_place
returns-in-7 c = rw (c.in-Err.is, ← c.place.ensures, ← c.number_at.ensures, c.in-7.is) (search rules)

pub returns-in-8 : goal.returns-in-8
unfolding ending_for stop_place
returns-in-8 c = rw (c.in-Err.is, ← c.place.ensures, ← c.number_at.ensures, c.in-8.is) (search rules)

pub returns-in-9 : goal.returns-in-9
unfolding ending_for stop_place
returns-in-9 c = rw (c.in-Err.is, ← c.place.ensures, ← c.number_at.ensures, c.in-9.is) (search rules)

pub returns-in-10 : goal.returns-in-10
unfolding ending_for stop_place
returns-in-10 c = rw (c.in-Err.is, ← c.place.ensures, ← c.number_at.ensures, c.in-10.is) (search rules)

pub returns-in-11 : goal.returns-in-11
unfolding ending_for stop_place
returns-in-11 c = rw (c.in-Err.is, ← c.place.ensures, ← c.number_at.ensures, c.in-11.is) (search rules)

pub returns-in-13 : goal.returns-in-13
unfolding ending_for stop_place
returns-in-13 c = rw (c.in-Err.is, ← c.place.ensures, ← c.number_at.ensures, c.in-13.is) (search rules)

pub returns-in-14 : goal.returns-in-14
unfolding ending_for stop_place
returns-in-14 c = rw (c.in-Err.is, ← c.place.ensures, ← c.number_at.ensures, c.in-14.is) (search rules)

pub returns-in-15 : goal.returns-in-15
unfolding ending_for stop_place
returns-in-15 c = rw (c.in-Err.is, ← c.place.ensures, ← c.number_at.ensures, c.in-15.is) (search rules)

pub returns-in-16 : goal.returns-in-16
unfolding ending_for stop_place
returns-in-16 c = rw (c.in-Err.is, ← c.place.ensures, ← c.number_at.ensures, c.in-16.is) (search rules)

pub returns-in-17 : goal.returns-in-17
unfolding ending_for stop_place
returns-in-17 c = rw (c.in-Err.is, ← c.place.ensures, ← c.number_at.ensures, c.in-17.is) (search rules)

pub returns-in_default-number_at : goal.returns-in_default-number_at
unfolding ending_for stop_place
returns-in_default-number_at c =
    let number = c.number_at.result in
    rw (
      c.in-Err.is,
      ← c.place.ensures,
      ← c.number_at.ensures,
      ne_eqb number 4 (omega arith),
      ne_eqb number 5 (omega arith),
      ne_eqb number 6 (omega arith),
      ne_eqb number 7 (omega arith),
      ne_eqb number 8 (omega arith),
      ne_eqb number 9 (omega arith),
      ne_eqb number 10 (omega arith),
      ne_eqb number 11 (omega arith),
      ne_eqb number 13 (omega arith),
      ne_eqb number 14 (omega arith),
      ne_eqb number 15 (omega arith),
      ne_eqb number 16 (omega arith),
      ne_eqb number 17 (omega arith),
    ) c.stays-in_default-number_at.ensures
