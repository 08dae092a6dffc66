-- `Gate::place` meets its contract: the gates are numbered in their order.
use Rattle.std.proofs.Common.{refl}
use denote.Enum.Declared.{tag_of}
use Rattle.steps.specs.contracts.gate.Gate.{the_type}
use Rattle.steps.specs.Places.{place_numbered}
use Rattle.steps.proofs.gate.Gate.place.Goals as goal

pub returns : goal.returns
returns c =
    place_numbered (tag_of the_type) refl refl refl refl refl refl refl refl refl refl refl refl refl refl refl refl refl refl refl refl refl
    refl refl refl refl refl refl c.args.self
