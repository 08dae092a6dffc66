-- "Every commit answer but 1 and 18 leaves no guard held."
use Rattle.std.specs.Prelude.{◌≡◌, refl, true, not, ◌&&◌, eqb}
use Rattle.std.proofs.Common.{ne_eqb}
use Rattle.basic_laws.specs.Cases.{by, and_true}
use Rattle.rules.specs.Lists.{all_zero, memb}
use Rattle.rules.specs.Types.{Store}
use Rattle.rules.specs.Store.{active_txids}
use Rattle.rules.specs.Admitted.{resting}
use Rattle.rules.specs.Fit.{fit}
use Rattle.rules.specs.Faults.{schedule_fit}
use Rattle.rules.specs.Numbers.{number_of}
use Rattle.rules.specs.Answer.{commit}
use Rattle.run_laws.specs.GuardPuts.{all_zero_law, guards_zero}
use Rattle.run_laws.specs.FirstRows.{row_1, row_2, row_3}
use Rattle.run_laws.specs.Released.{guards_released}
use Rattle.statements.specs.Words.{Admitted}
use Rattle.statements.specs.NumbersSeen.{Unguarded, NoGuardHeld}

free : (T : Store) → (all_zero T.stripe_guards ≡ true) × (all_zero T.partition_guards ≡ true) → Unguarded T
free T z = record { stripes = λ i. all_zero_law T.stripe_guards i z.0; partitions = λ i. all_zero_law T.partition_guards i z.1 }

pub no_guard_held : NoGuardHeld
no_guard_held S x logged plan cut one eighteen =
    by (resting S)
    (λ r. by (fit S x && schedule_fit plan)
    (λ f. by (memb x.txid.0 (active_txids S.active))
    (λ m. let g = and_true (fit S x) (schedule_fit plan) f in
    let ok : Admitted S x plan = record { rests = r; fits = g.0; planned = g.1; active = m } in
    free _ (guards_released S x logged plan cut ok (λ n. not (eqb n 18)) refl (rw (ne_eqb (number_of (commit S x logged plan cut).refusal) 18 eighteen))))
    (λ m. rw (row_3 S x logged plan cut r f m) (free S (guards_zero S r))))
    (λ f. rw (row_2 S x logged plan cut r f) (free S (guards_zero S r))))
    (λ r. absurd (one (rw (row_1 S x logged plan cut r))))
