-- `value` meets its contract: - first, then what `number` answers.
use Rattle.std.proofs.Common.{◌≡◌, sym, ◌∙◌, option_map, rules}
use Rattle.rules.specs.Types.{Key}
use Rattle.script.specs.FieldLaws.{value_absent, value_key}
use Rattle.script.proofs.field.value.Goals as goal

pub returns-then-is_byte : goal.returns-then-is_byte
returns-then-is_byte c = value_absent _ (sym c.if-is_byte.ensures)

pub returns : goal.returns
returns c =
    let m : c.map.result ≡ option_map (λ n. Key n) c.number.result = search rules in
    (rw c.number.ensures at m) ∙ value_key _ (sym c.if-is_byte.ensures)
