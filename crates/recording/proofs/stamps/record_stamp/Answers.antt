-- `record_stamp` meets its contract: by whether the stripe was read before.
use mathlib.Core.Path.{◌≡◌, sym, ap, ◌∙◌}
use native.Mathlib.Omega.{arith}
use Rattle.std.proofs.Common.{rules}
use Rattle.std.proofs.lemmas.Iterator.{YieldsList-from_slice}
use Rattle.std.proofs.lemmas.Iterator.Search.{any_from_yields_List}
use Rattle.records.specs.Zero.{no_index_read}
use Rattle.rules.specs.Lists.{any}
use Rattle.rules.specs.Transaction.{index_reads_of}
use Rattle.recording.specs.StampList.{of_stripe, index_read_list, stamp_before, stamp_new}
use Rattle.recording.proofs.stamps.record_stamp.Goals.{After-any}
use Rattle.recording.proofs.stamps.record_stamp.Goals as goal

-- an index read of the stripe is among them
stripe_before : (c : After-any) → c.any.result ≡ any (of_stripe c.args.stripe) (index_reads_of c.args.x.now)
stripe_before c =
    any_from_yields_List (of_stripe c.args.stripe) _ _ _ c.any.ensures.ran
    (YieldsList-from_slice (index_reads_of c.args.x.now) (c.iter.ensures.rest ∙ c.first_of.ensures)) (λ e b q k. search rules)

pub push-requires : goal.push-requires
push-requires c = (omega arith, omega (arith, c.first-l.ensures.few))

pub returns-then-not-any : goal.returns-then-not-any
returns-then-not-any c =
    let m = index_reads_of c.args.x.now in
    c.push.ensures no_index_read m c.first-l.ensures.first
    ∙ ap index_read_list (sym (stamp_new c.args.stripe c.args.stamp.0 m _ (stripe_before (goal.at.returns-then-not-any c).After-any) c.if-not-any.true))

pub returns-else-not-any : goal.returns-else-not-any
returns-else-not-any c =
    let m = index_reads_of c.args.x.now in
    c.first-l.ensures.first
    ∙ ap index_read_list (sym (stamp_before c.args.stripe c.args.stamp.0 m _ (stripe_before (goal.at.returns-else-not-any c).After-any) c.if-not-any.false))
