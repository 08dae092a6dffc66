-- `rebuild` meets its contract: the array holds the postings of the rows that are behind the loop.
use mathlib.Core.Path.{refl, sym, ◌∙◌}
use mathlib.Core.Bool.{false}
use native.Mathlib.Omega.{arith}
use Rattle.records.specs.Limits.{places}
use Rattle.fields.specs.Lent.{lent_at}
use Rattle.recovery.specs.Rebuild.{rebuild_start, rebuild_end, rebuild_none, rebuild_put}
use Rattle.recovery.proofs.rebuild.rebuild.Goals as goal

pub loop-r-init : goal.loop-r-init
loop-r-init c = rebuild_start c.args.s.now.key c.args.s.now.has c.args.heads.now

pub loop-r-preserved-then-at : goal.loop-r-preserved-then-at
loop-r-preserved-then-at c =
    let S = c.args.s.now in
    rebuild_put S.key S.has c.args.heads.now c.loop-r.x c.loop-r.n c.loop-r.r c.place-i.result
    (omega arith) (omega arith) c.place-i.ensures c.loop-r.invariant _
    (sym (lent_at places S.has false (omega arith) refl c.at.ensures) ∙ c.if-at.true)
    (lent_at places S.key 0 (omega arith) refl c.at-k.ensures) c.insert-n.ensures

pub loop-r-preserved : goal.loop-r-preserved
loop-r-preserved c =
    let S = c.args.s.now in
    rebuild_none S.key S.has c.args.heads.now c.loop-r.x c.loop-r.n c.loop-r.r c.place-i.result
    (omega arith) (omega arith) c.place-i.ensures c.loop-r.invariant
    (sym (lent_at places S.has false (omega arith) refl c.at.ensures) ∙ c.if-at.false)

pub returns : goal.returns
returns c = rebuild_end c.args.s.now.key c.args.s.now.has c.args.heads.now c.loop-r.r (omega arith) c.loop-r.invariant
