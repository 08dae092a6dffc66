-- `recovered` meets its contract: each part is as its function makes it.
use native.Mathlib.Omega.{arith}
use Rattle.recovery.specs.Together.{whole}
use Rattle.recovery.proofs.recovered.Goals as goal

pub returns : goal.returns
returns c =
    whole c.args.s.now (omega arith) (omega arith)
    c.trim_heads-heads.ensures
    c.walk_all.ensures
    c.rebuild-posting_count.ensures
    c.clear_heads.ensures
    c.keep-2.ensures c.keep.ensures c.keep-3.ensures c.keep-4.ensures c.keep-5.ensures
