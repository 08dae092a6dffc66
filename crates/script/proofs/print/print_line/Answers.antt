-- `print_line` meets its contract: each part stands before those already put.
use Rattle.std.proofs.Common.{arith}
use Rattle.script.specs.Print.{third_of, more_of}
use Rattle.script.specs.PrintLaws.{line_text}
use Rattle.script.proofs.print.print_line.Goals as goal

pub returns : goal.returns
returns c =
    let a = c.args in
    record {
      full = c.put_field-2.ensures.full;
      inside = omega arith;
      text =
          rw (
            c.put_field-2.ensures.text,
            c.put_field.ensures.text,
            c.put_third.ensures.text,
            c.put_more.ensures.text,
            c.put_byte.ensures.text,
            c.empty-text.ensures.1,
          )
          (line_text a.line a.number (third_of a.t) (more_of a.m));
    }
