-- `looked` meets its contract.
use Rattle.calls.specs.LookupAnswer.{looked_is}
use Rattle.calls.proofs.lookup.looked.Goals as goal

pub returns : goal.returns
returns c =
    looked_is _ _ _ c.stamp_of-t.ensures c.record_stamp-q.ensures
    c.index_conflict-conflict.ensures c.with_reads-y.ensures c.with_index_reads.ensures
