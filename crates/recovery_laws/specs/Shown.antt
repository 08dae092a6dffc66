-- What a row shows: demand 3 compares it before a commit, at each cut of it, and after recovery.
use Rattle.std.specs.Prelude.{◌≡◌, List, ℕ, ◌<◌, length}
use Rattle.rules.specs.Types.{Store}
use Rattle.rules.specs.Chains.{walk}
use Rattle.rules.specs.Admitted.{finished}
use Rattle.basic_laws.specs.Chained.{chained_from}
use Rattle.statements.specs.Sized.{Sized}
use Rattle.admitted_laws.specs.Repairable.{Mends, marks}
use Rattle.statements.specs.Words.{shown_in, shown}

-- it is the value on the row's chain
pub shown_is : (S : Store) (L : ℕ → List ℕ) → Sized S → Mends S L → (r : ℕ) → r < length S.heads
    → shown S r ≡ shown_in S.xmin S.key S.has (finished S.active S.doomed) (L r)
unfolding shown
shown_is S L z M r lt = rw (chained_from S.heads S.next (walk S.heads S.next).seen L (marks S L z M) r lt)
