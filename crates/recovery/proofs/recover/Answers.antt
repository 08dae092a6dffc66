-- `recover` meets its contract.
use Rattle.recovery.specs.Together.{mended, refused}
use Rattle.recovery.proofs.recover.Goals as goal

pub returns-then-repairable : goal.returns-then-repairable
returns-then-repairable c = mended c.args.s _ c.repairable.ensures _ c.if-repairable.true c.recovered-store.ensures

pub returns : goal.returns
returns c = refused c.args.s _ c.repairable.ensures c.if-repairable.false
