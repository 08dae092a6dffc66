-- `at` meets its contract: a lent array is as long as its type says.
use Rattle.std.proofs.Common.{rules, ◌≡◌, length}
use Rattle.fields.specs.Lent.{array_same}
use Rattle.fields.proofs.lent.at.Goals as goal

pub returns : goal.returns
returns g c =
    let long : length c.args.x.now ≡ g.row.N = search rules in
    rw (array_same g.row.N c.args.none c.args.x.now long) (search rules)
