-- `push_abort` meets its contract: the frees, then one put.
use Rattle.std.proofs.Common.{arith}
use Rattle.records.specs.Limits.{places}
use Rattle.rules.specs.Puts.{put_free}
use Rattle.journal.specs.Adds.{adds_then}
use Rattle.journal.specs.AtMarks.{placed_whole}
use Rattle.journal.proofs.at_marks.push_abort.Goals as goal

pub returns : goal.returns
returns c = adds_then (rw (placed_whole put_free places c.args.own.now (omega arith)) at c.push_frees.ensures) c.push.ensures
