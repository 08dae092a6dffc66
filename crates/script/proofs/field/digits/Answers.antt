-- `digits` meets its contract: what is left to read, after the number so far, is always the whole.
use Rattle.std.proofs.Common.{◌≡◌, ◌+◌, ◌-◌, ◌*◌, slice_index_or, sym, ◌∙◌, arith}
use Rattle.script.specs.FieldLaws.{digits_end, digits_other, digits_more}
use Rattle.script.proofs.field.digits.Goals as goal

pub returns-in_err-checked_mul-in-48-to-57 : goal.returns-in_err-checked_mul-in-48-to-57
returns-in_err-checked_mul-in-48-to-57 c =
    let l = c.loop-b in
    c.from_residual.ensures
    ∙ sym (digits_other c.args.s.now l.v l.b-index (omega arith) (λ lo hi fits. c.in_err-checked_mul-in-48-to-57.ensures (omega arith)))
    ∙ l.invariant

pub returns-in_err-v-in-48-to-57 : goal.returns-in_err-v-in-48-to-57
returns-in_err-v-in-48-to-57 c =
    let l = c.loop-b in
    let m = c.in_ok-checked_mul-in-48-to-57.ensures in
    c.from_residual-in_err-v-in-48-to-57.ensures
    ∙ sym (digits_other c.args.s.now l.v l.b-index (omega arith) (λ lo hi fits. c.in_err-v-in-48-to-57.ensures (omega (arith, m.1))))
    ∙ l.invariant

pub returns-in_default : goal.returns-in_default
returns-in_default c =
    sym (digits_other c.args.s.now c.loop-b.v c.loop-b.b-index (omega arith) (λ lo hi fits. omega arith)) ∙ c.loop-b.invariant

pub returns-in_default-2 : goal.returns-in_default-2
returns-in_default-2 c =
    sym (digits_other c.args.s.now c.loop-b.v c.loop-b.b-index (omega arith) (λ lo hi fits. omega arith)) ∙ c.loop-b.invariant

pub loop-b-preserved : goal.loop-b-preserved
loop-b-preserved c =
    let l = c.loop-b in
    let m = c.in_ok-checked_mul-in-48-to-57.ensures in
    let a = c.in_ok-v-in-48-to-57.ensures in
    let e : l.v * 10 + (slice_index_or c.args.s.now l.b-index 0 - 48) ≡ c.in_ok-v-in-48-to-57.v = omega (arith, m.1, a.1) in
    let d = digits_more c.args.s.now l.v l.b-index (omega arith) (omega arith) (omega arith) (omega (arith, m.1, a.0)) in
    sym (rw e at d) ∙ l.invariant

pub returns : goal.returns
returns c = sym (digits_end c.args.s.now c.loop-b.v c.loop-b.b-index (omega arith)) ∙ c.loop-b.invariant
