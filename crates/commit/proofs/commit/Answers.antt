-- `commit` meets its contract: refused before the steps, or what the steps answer.
use Rattle.std.proofs.Common.{refl}
use Rattle.admit.specs.Admission.{refused_is, done_is}
use Rattle.commit.specs.Tried.{tried_fit, tried_done, tried_refused}
use Rattle.commit.proofs.commit.Goals as goal

pub returns-in-Err : goal.returns-in-Err
returns-in-Err c =
    let a = c.args in
    let why = refused_is _ _ c.in-Err.ensures.answer in
    tried_refused a.s a.x a.logged a.plan a.cut c.schedule_fit.ensures why.0 why.1 c.unchanged.ensures

pub returns : goal.returns
returns c =
    let a = c.args in
    let done = done_is _ _ c.in_default.ensures.answer in
    let planned = c.schedule_fit.ensures in
    let fits = tried_fit a.s a.x a.logged a.plan a.cut planned refl done in
    tried_done a.s a.x a.logged a.plan a.cut planned refl done (c.run.ensures c.admitted_marked.ensures.marks fits)
