-- `leave` meets its contract: the live numbers are the first so many.
use mathlib.Core.Path.{◌∙◌}
use Rattle.packed.specs.Remove.{live_first, live_within}
use Rattle.packed.proofs.leave.Goals as goal

pub strip-requires : goal.strip-requires
strip-requires c = rw c.live-m.ensures (live_within c.args.x.now)

pub returns : goal.returns
returns c =
    c.strip.ensures.at
    ∙ rw (c.live-m.ensures, live_first c.args.x.now)
