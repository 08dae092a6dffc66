-- `put_number` meets its contract: the digits still to put, before those that stand, are always the whole number's.
use Rattle.std.proofs.Common.{◌≡◌, ◌-◌, ◌≤◌, length, drop}
use Rattle.rules.specs.Script.{decimal}
use Rattle.script.specs.Print.{digits, in_decimal, room}
use Rattle.script.proofs.print.Text.put_number.Given as goal

abbrev pub invariant-loop-k : goal.invariant-loop-k
invariant-loop-k l =
    (length l.self.bytes ≡ room) × (l.k ≡ l.self.start) × (l.at - digits ≤ l.k) × (l.k ≤ l.at)
    × (decimal (l.k - (l.at - digits)) l.left (drop l.k l.self.bytes) ≡ in_decimal l.n (drop l.at l.initial.self.bytes))
