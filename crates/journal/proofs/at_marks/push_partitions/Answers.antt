-- `push_partitions` meets its contract: none is left out.
use Rattle.std.proofs.Common.{rules, arith, ℕ}
use Rattle.rules.specs.Puts.{put_partition}
use Rattle.records.specs.Limits.{partitions}
use Rattle.journal.specs.AtMarks.{placed_whole}
use Rattle.journal.proofs.at_marks.push_partitions.Goals as goal

pub returns : goal.returns
returns c =
    let at = λ (i : ℕ). put_partition i c.args.t.0 in
    rw (placed_whole at partitions c.args.marks.now (omega arith)) at (c.push_marked.ensures at (λ i p l q. search rules))
