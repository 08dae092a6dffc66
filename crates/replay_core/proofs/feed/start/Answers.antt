-- `start` meets its contract.
use Rattle.std.proofs.Common.{replicate}
use Rattle.records.specs.Limits.{place_limit}
use Rattle.rules.specs.Replay.{start}
use Rattle.replay_core.specs.Feed.{first}
use Rattle.replay_core.proofs.feed.start.Goals as goal

pub returns : goal.returns
unfolding first start
returns c =
    λ i.
    record {
      desk = record {
        store = c.fresh.ensures i;
        txs = replicate place_limit (c.zero.ensures i);
        plan = c.none.ensures i;
      };
      held = c.none-2.ensures i;
      lines = 0;
    }
