-- `put_number` meets its contract: the digits still to put, before those that stand, are always the whole number's.
use Rattle.std.proofs.Common.{◌≡◌, ◌-◌, refl, sym, ◌∙◌, arith, rules}
use Rattle.script.specs.Print.{digits, in_decimal}
use Rattle.script.specs.PrintLaws.{digits_last, digits_more}
use Rattle.script.proofs.print.Text.put_number.Goals as goal

pub loop-k-init : goal.loop-k-init
unfolding in_decimal
loop-k-init c =
    let at = c.args.self.now.start in
    let e : at - (at - digits) ≡ digits = omega arith in
    (search rules, refl, omega arith, omega arith, rw e)

pub returns-then-left-lt10 : goal.returns-then-left-lt10
returns-then-left-lt10 c =
    let l = c.loop-k in
    record {
      full = search rules;
      many = omega arith;
      inside = omega arith;
      text =
          sym (digits_last l.self.bytes (c.args.self.now.start - digits) l.k l.left (omega arith) (omega arith) (omega arith))
          ∙ l.invariant.4;
    }

pub loop-k-preserved : goal.loop-k-preserved
loop-k-preserved c =
    let l = c.loop-k in (
      search rules,
      refl,
      omega arith,
      omega arith,
      sym (digits_more l.self.bytes (c.args.self.now.start - digits) l.k l.left (omega arith) (omega arith) (omega arith))
          ∙ l.invariant.4,
    )
