-- Source 002's witnesses, on stores that the calls reach: a row created with key 42, moved from 42 to 77, and deleted.
use Rattle.std.specs.Prelude.{◌≡◌, refl, false, List, [], ◌∷◌, ℕ, get_or}
use Rattle.records.specs.Zero.{fresh, no_faults}
use Rattle.rules.specs.Types.{Store, Tx, Value, Absent, Key, Written, Uncut}
use Rattle.rules.specs.Store.{posting, postings_of, value_at}
use Rattle.rules.specs.Numbers.{number_of}
use Rattle.rules.specs.Calls.{begin, write}
use Rattle.rules.specs.Changes.{changes}
use Rattle.rules.specs.Answer.{commit}
use Rattle.rules.specs.Computing.{computing}
use Rattle.rules.specs.Tests.{write_base_conflict}
use Rattle.posting_laws.specs.Undone.{Ready}
use Rattle.demands.specs.Exhibits.{Meets, meets}

-- begin, and row 3 written
unfoldable pub wrote : Store → Value → Written
wrote S v = write (begin S).store (begin S).tx 3 v

-- .. and committed
unfoldable pub after : Written → Store
after w = (commit w.store w.tx false no_faults Uncut).store

unfoldable pub created : Written
created = wrote fresh (Key 42)

unfoldable pub moved : Written
moved = wrote (after created) (Key 77)

unfoldable pub deleted : Written
deleted = wrote (after created) Absent

-- a commit that is past its tests, with one change of row 3, that succeeds and leaves these postings
pub record Witness (w : Written) (old new : Value) (left : List ℕ) : Type 0 where
  pub planned : Ready w.store w.tx
  pub change : changes w.store w.tx ≡ record { row = 3; before = old; after = new } ∷ []
  pub commits : number_of (commit w.store w.tx false no_faults Uncut).refusal ≡ 0
  pub postings : postings_of (after w) ≡ left

-- past its tests, from what there is to compute
ready_by : {S : Store} {x : Tx} → Meets S x → S.poisoned ≡ false → write_base_conflict S x ≡ false → Ready S x
ready_by m h b = record { rests = m.ok.rests; healthy = h; fits = m.ok.fits; agreed = b; sized = m.sized }

pub create : Witness created Absent (Key 42) (posting 42 3 ∷ [])
unfolding wrote after created computing
create = record {
  planned = ready_by (meets created.store created.tx refl refl refl refl refl refl) refl refl;
  change = refl;
  commits = refl;
  postings = refl;
}

pub move : Witness moved (Key 42) (Key 77) (posting 77 3 ∷ [])
unfolding wrote after created moved computing
move = record {
  planned = ready_by (meets moved.store moved.tx refl refl refl refl refl refl) refl refl;
  change = refl;
  commits = refl;
  postings = refl;
}

pub delete : Witness deleted (Key 42) Absent []
unfolding wrote after created deleted computing
delete = record {
  planned = ready_by (meets deleted.store deleted.tx refl refl refl refl refl refl) refl refl;
  change = refl;
  commits = refl;
  postings = refl;
}

-- the executable witness of publication: in what `move` commits, the head, the base's mark, the new version's next, and both values
pub move_rows : let S = after moved in
    (get_or S.heads 3 0 ≡ 2)
    × (get_or S.xmax 1 0 ≡ 2)
    × (get_or S.next 2 0 ≡ 1)
    × (value_at S.key S.has 1 ≡ Key 42)
    × (value_at S.key S.has 2 ≡ Key 77)
unfolding wrote after created moved computing
move_rows = (refl, refl, refl, refl, refl)
