-- "The record is zero unless 0", place by place.
use Rattle.std.proofs.Common.{eq-eqb, ne_eqb}
use Rattle.rules.specs.Types.{Tx, Refusal}
use Rattle.rules.specs.Numbers.{number_of}
use Rattle.rules.specs.Answer.{record_of}
use Rattle.statements.specs.Table.{Recorded}
use Rattle.sentences.specs.CallsSay.{zero_record, names_finals}

-- whatever is answered
pub recorded : (why : Refusal) (x : Tx) → Recorded (number_of why) x (record_of why x)
unfolding record_of
recorded why x = record {
  committed = λ e few. rw (eq-eqb (number_of why) 0 e) (names_finals x few);
  refused = λ ne. rw (ne_eqb (number_of why) 0 ne) zero_record;
}
