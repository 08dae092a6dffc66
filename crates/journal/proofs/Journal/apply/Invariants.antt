-- `Journal::apply` meets its contract. The invariant: the puts so far are applied.
use Rattle.std.proofs.Common.{◌≡◌, map, take}
use Rattle.rules.specs.Puts.{apply_all}
use Rattle.journal.specs.Journal.{meant}
use Rattle.journal.proofs.Journal.apply.Given as goal

abbrev pub invariant-loop-put : goal.invariant-loop-put
invariant-loop-put l = l.t ≡ apply_all (map meant (take l.put-index l.put-items)) l.fn.s
