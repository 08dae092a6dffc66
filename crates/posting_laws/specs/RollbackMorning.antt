-- The laws' premises are met: morning d of document 01, where txid 2 writes key 51 over key 35 in row 3.
use Rattle.std.specs.Prelude.{◌≡◌, refl, false, [], ◌∷◌, ℕ}
use Rattle.records.specs.Zero.{fresh, no_faults}
use Rattle.rules.specs.Types.{Store, Written, Key, Uncut}
use Rattle.rules.specs.Store.{posting, postings_of}
use Rattle.rules.specs.Calls.{begin, write}
use Rattle.rules.specs.Changes.{changes, destinations, sources}
use Rattle.rules.specs.Answer.{commit}
use Rattle.rules.specs.Computing.{computing}
use Rattle.posting_laws.specs.Undone.{Ready}

unfoldable pub wrote : Store → ℕ → Written
wrote S k = write (begin S).store (begin S).tx 3 (Key k)

unfoldable pub committed : Written → Store
committed w = (commit w.store w.tx false no_faults Uncut).store

unfoldable pub second : Written
second = wrote (committed (wrote fresh 35)) 51

pub ready : Ready second.store second.tx
unfolding wrote committed second computing
ready = record {
  rests = refl;
  healthy = refl;
  fits = refl;
  agreed = refl;
  sized = record {
    heads = refl;
    xmin = refl;
    xmax = refl;
    next = refl;
    key = refl;
    has = refl;
    locked = refl;
    owner = refl;
    postings = refl;
    stripe_guards = refl;
    partition_guards = refl;
    stamps = refl;
    active = refl;
  };
}

-- one posting in, one out; and what is left
pub one_each : let S = second.store in
    (postings_of S ≡ posting 35 3 ∷ [])
    × (destinations (changes S second.tx) ≡ posting 51 3 ∷ [])
    × (sources (changes S second.tx) ≡ posting 35 3 ∷ [])
    × (postings_of (committed second) ≡ posting 51 3 ∷ [])
unfolding wrote committed second computing
one_each = (refl, refl, refl, refl)
