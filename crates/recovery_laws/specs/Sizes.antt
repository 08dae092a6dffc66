-- A put leaves the arrays' lengths.
use Rattle.std.specs.Prelude.{◌≡◌, Bool, true, false, cond, ◌||◌, List, [], ◌∷◌, ℕ, length, set}
use Rattle.std.proofs.Common.{◌∙◌, length-set}
use Rattle.records.specs.Limits.{posting_limit, active_limit}
use Rattle.rules.specs.Lists.{pad}
use Rattle.rules.specs.Types.{Store}
use Rattle.rules.specs.Store.{postings_of, active_txids}
use Rattle.rules.specs.Puts.{Put, k_stripe, k_partition, k_insert, k_remove, k_xmax, k_head, k_free, k_drop, k_stamp}
use Rattle.rules.specs.Puts.{k_enter, k_xmin, k_next, k_key, k_lock, is, sets, raises, posts, enters, apply, apply_all}
use Rattle.basic_laws.specs.LaidOut.{pad_length}
use Rattle.statements.specs.Sized.{Sized}

set_if {ℓ} : {A : Type ℓ} (b : Bool) (l : List A) (i : ℕ) (a : A) {n : ℕ} → length l ≡ n → length (cond b (set l i a) l) ≡ n
set_if true l i a e = length-set l i a ∙ e
set_if false l i a e = e

pad_if : (b : Bool) (n : ℕ) (m l : List ℕ) → length l ≡ n → length (cond b (pad n 0 m) l) ≡ n
pad_if true n m l e = pad_length n 0 m
pad_if false n m l e = e

-- one put
pub sized_apply : (p : Put) (S : Store) → Sized S → Sized (apply p S)
sized_apply p S z = record {
  heads = set_if (is p k_head) S.heads p.at p.val z.heads;
  xmin = set_if (is p k_free) (sets p k_xmin S.xmin) p.at 0 (set_if (is p k_xmin) S.xmin p.at p.val z.xmin);
  xmax = set_if (is p k_free) (sets p k_xmax S.xmax) p.at 0 (set_if (is p k_xmax) S.xmax p.at p.val z.xmax);
  next = set_if (is p k_free) (sets p k_next S.next) p.at 0 (set_if (is p k_next) S.next p.at p.val z.next);
  key = set_if (is p k_free) (sets p k_key S.key) p.at 0 (set_if (is p k_key) S.key p.at p.val z.key);
  has = set_if (is p k_free) (raises p k_key S.has) p.at false (set_if (is p k_key) S.has p.at true z.has);
  locked = set_if (is p k_free) (raises p k_lock S.locked) p.at false (set_if (is p k_lock) S.locked p.at true z.locked);
  owner = set_if (is p k_free) (sets p k_lock S.owner) p.at 0 (set_if (is p k_lock) S.owner p.at p.val z.owner);
  postings = pad_if (is p k_insert || is p k_remove) posting_limit (posts p (postings_of S)) S.postings z.postings;
  stripe_guards = set_if (is p k_stripe) S.stripe_guards p.at p.val z.stripe_guards;
  partition_guards = set_if (is p k_partition) S.partition_guards p.at p.val z.partition_guards;
  stamps = set_if (is p k_stamp) S.stamps p.at p.val z.stamps;
  active = pad_if (is p k_drop || is p k_enter) active_limit (enters p (active_txids S.active)) S.active z.active;
}

-- and all
pub sized_all : (ps : List Put) (S : Store) → Sized S → Sized (apply_all ps S)
sized_all [] S z = z
sized_all (p ∷ ps) S z = sized_all ps (apply p S) (sized_apply p S z)
