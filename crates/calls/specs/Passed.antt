-- What was refused where a call's tests answer no error.
use Rattle.std.specs.Prelude.{◌≡◌, refl, true, Ok}
use Rattle.basic_laws.specs.Cases.{clash}
use Rattle.basic_laws.specs.Refusals.{Case, done, seven, plain, case_of}
use Rattle.rules.specs.Types.{Refusal, Done}
use Rattle.rules.specs.Numbers.{is_done}
use Rattle.admit.specs.Admission.{as_result, done_is}

done_same : {w : Refusal} → Case w → is_done w ≡ true → Done ≡ w
done_same done d = refl
done_same (seven c f) d = clash d refl
done_same (plain n m) d = clash d n

pub passed : (u : Unit {0}) (w : Refusal) → Ok u ≡ as_result w → Done ≡ w
passed u w e = done_same (case_of w) (done_is u w e)
