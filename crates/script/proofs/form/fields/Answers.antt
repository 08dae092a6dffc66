-- `fields` meets its contract: one field after the other is cut off, and a fourth makes the line bad.
use mathlib.Core.Path.{sym}
use native.Mathlib.Omega.{arith}
use lib.ListN.{take}
use Rattle.script.specs.Split.{after, split_first, split_last, form_long}
use Rattle.script.proofs.form.fields.Goals as goal

pub returns-then-a-s : goal.returns-then-a-s
returns-then-a-s c = rw (split_last 9 c.args.s.now c.up_to-a.ensures.0 c.if-a-s.true) c.one_field.ensures

pub returns-then-b-t : goal.returns-then-b-t
returns-then-b-t c =
    let s = c.args.s.now in
    rw (
      split_first 9 s c.up_to-a.ensures.0 (omega arith),
      split_last 9 (after s c.up_to-a.result) c.up_to-b.ensures.0 c.if-b-t.true,
    ) c.two_fields.ensures

pub returns-then-up_to-u : goal.returns-then-up_to-u
returns-then-up_to-u c =
    let s = c.args.s.now in
    let t = after s c.up_to-a.result in
    let u = after t c.up_to-b.result in
    rw (
      split_first 9 s c.up_to-a.ensures.0 (omega arith),
      split_first 9 t c.up_to-b.ensures.0 (omega arith),
      split_last 9 u c.up_to.ensures.0 c.if-up_to-u.true,
    ) c.three_fields.ensures

pub returns : goal.returns
returns c =
    let d = c.up_to in
    let b = c.up_to-b in
    let a = c.up_to-a in
    let x = c.args in
    let s = x.s.now in
    let t = after s a.result in
    let u = after t b.result in
    rw (split_first 9 s a.ensures.0 (omega arith), split_first 9 t b.ensures.0 (omega arith), split_first 9 u d.ensures.0 (omega arith))
    (sym (form_long x.c (take a.result s) (take b.result t) (take d.result u) (after u d.result)))
