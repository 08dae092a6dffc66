-- `index_changes` meets its contract. The invariant: what is noted so far are the changes of the writes passed.
use Rattle.std.proofs.Common.{◌≡◌, ◌≤◌, length}
use Rattle.records.specs.Limits.{write_limit}
use Rattle.fields.specs.Lent.{at_places, flags_at_places}
use Rattle.commit.specs.Plan.Moves.{moves_of, changes_to}
use Rattle.commit.proofs.plan.moves.index_changes.Given as goal

abbrev pub invariant-loop-w : goal.invariant-loop-w
invariant-loop-w l = length l.writes ≤ write_limit → l.m ≡ moves_of (changes_to (at_places l.s.key) (flags_at_places l.s.has) l.writes l.w-index)
