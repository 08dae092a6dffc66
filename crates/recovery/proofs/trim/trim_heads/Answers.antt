-- `trim_heads` meets its contract: each head is trimmed.
use native.Mathlib.Omega.{arith}
use borrow.Author.Rules.{rules}
use Rattle.rules.specs.Admitted.{finished}
use Rattle.rules.specs.Recovery.{trim_head}
use Rattle.records.specs.Limits.{rows}
use Rattle.recovery.specs.Trim.{mapped}
use Rattle.recovery.proofs.trim.trim_heads.Goals as goal

pub returns : goal.returns
returns c =
    let S = c.args.s.now in
    mapped _ (trim_head (finished S.active S.doomed) S.xmin S.next) _ (λ x y q k. search rules) rows 0 S.heads c.map.result
    (omega arith) c.map.ensures.items.long c.map.ensures.items.each
