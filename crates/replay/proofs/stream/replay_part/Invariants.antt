-- `replay_part` is safe and ends: each turn takes a byte at least, since there is room for an answer.
use Rattle.std.proofs.Common.{length}
use Rattle.replay.proofs.stream.replay_part.Given as goal

abbrev pub decreases-loop-rest : goal.decreases-loop-rest
decreases-loop-rest g l = length l.rest
