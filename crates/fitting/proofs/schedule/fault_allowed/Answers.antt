-- `fault_allowed` meets its contract, by the law of the masks.
use Rattle.std.proofs.Common.{rules}
use Rattle.fitting.specs.Allowed.{allowed_by}
use Rattle.fitting.proofs.schedule.fault_allowed.Goals as goal

pub returns-then-f-eq0 : goal.returns-then-f-eq0
returns-then-f-eq0 c = let law = allowed_by c.args.f.now _ _ (search rules) c.allowed_at-mask.ensures c.bit_of.ensures in search rules

pub returns-then-mask-eq1 : goal.returns-then-mask-eq1
returns-then-mask-eq1 c = let law = allowed_by c.args.f.now _ _ (search rules) c.allowed_at-mask.ensures c.bit_of.ensures in search rules

pub returns-else-mask-eq1 : goal.returns-else-mask-eq1
returns-else-mask-eq1 c = let law = allowed_by c.args.f.now _ _ (search rules) c.allowed_at-mask.ensures c.bit_of.ensures in search rules

pub returns-else-mask-bit_of-eq1 : goal.returns-else-mask-bit_of-eq1
returns-else-mask-bit_of-eq1 c = let law = allowed_by c.args.f.now _ _ (search rules) c.allowed_at-mask.ensures c.bit_of.ensures in search rules
