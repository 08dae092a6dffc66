-- Changes of the store: "A store is one guard, posting, xmax, head, slot, active-list, stamp or poison change." Every call changes the
-- store by puts alone.
use Rattle.std.specs.Prelude.{Bool, true, false, not, cond, ◌&&◌, ◌||◌, List, [], ◌∷◌, ◌++◌, map, ℕ, length, get_or, set, eqb}
use Rattle.records.specs.Limits.{posting_limit, active_limit}
use Rattle.rules.specs.Lists.{into, without, those, pad}
use Rattle.rules.specs.Types.{Store, Value, Absent, Key}
use Rattle.rules.specs.Store.{used_slots, postings_of, active_txids}
use Rattle.rules.specs.Chains.{walk, on}

-- the kinds: 1 to 11 are the counted stores of a commit, 12 to 17 the changes of begin, write and row lock, which nothing counts
abbrev pub k_stripe : ℕ
k_stripe = 1

abbrev pub k_partition : ℕ
k_partition = 2

abbrev pub k_insert : ℕ
k_insert = 3

abbrev pub k_remove : ℕ
k_remove = 4

abbrev pub k_xmax : ℕ
k_xmax = 5

abbrev pub k_head : ℕ
k_head = 6

abbrev pub k_free : ℕ
k_free = 7

abbrev pub k_drop : ℕ
k_drop = 8

abbrev pub k_stamp : ℕ
k_stamp = 9

abbrev pub k_poison : ℕ
k_poison = 10

abbrev pub k_doom : ℕ
k_doom = 11

abbrev pub k_enter : ℕ
k_enter = 12

abbrev pub k_clock : ℕ
k_clock = 13

abbrev pub k_xmin : ℕ
k_xmin = 14

abbrev pub k_next : ℕ
k_next = 15

abbrev pub k_key : ℕ
k_key = 16

abbrev pub k_lock : ℕ
k_lock = 17

-- no kind is higher
abbrev pub last_kind : ℕ
last_kind = k_lock

-- a kind of change, the place and the number put there
pub record Put : Type 0 where
  pub kind : ℕ
  pub at : ℕ
  pub val : ℕ

abbrev pub put : ℕ → ℕ → ℕ → Put
put k p v = record { kind = k; at = p; val = v }

abbrev pub put_stripe : ℕ → ℕ → Put
put_stripe i t = put k_stripe i t

abbrev pub put_partition : ℕ → ℕ → Put
put_partition i t = put k_partition i t

abbrev pub put_insert : ℕ → Put
put_insert c = put k_insert 0 c

abbrev pub put_remove : ℕ → Put
put_remove c = put k_remove 0 c

abbrev pub put_xmax : ℕ → ℕ → Put
put_xmax p t = put k_xmax p t

abbrev pub put_head : ℕ → ℕ → Put
put_head r p = put k_head r p

abbrev pub put_free : ℕ → Put
put_free p = put k_free p 0

abbrev pub put_drop : ℕ → Put
put_drop t = put k_drop 0 t

abbrev pub put_stamp : ℕ → ℕ → Put
put_stamp i t = put k_stamp i t

abbrev pub put_poison : Put
put_poison = put k_poison 0 0

-- "A poison store, doom included"
abbrev pub put_doom : ℕ → Put
put_doom t = put k_doom 0 t

abbrev pub put_enter : ℕ → Put
put_enter t = put k_enter 0 t

abbrev pub put_clock : ℕ → Put
put_clock t = put k_clock 0 t

abbrev pub put_xmin : ℕ → ℕ → Put
put_xmin p t = put k_xmin p t

abbrev pub put_next : ℕ → ℕ → Put
put_next p q = put k_next p q

abbrev pub put_key : ℕ → ℕ → Put
put_key p k = put k_key p k

abbrev pub put_lock : ℕ → ℕ → Put
put_lock p t = put k_lock p t

module _ (p : Put) where
  abbrev pub is : ℕ → Bool
  is k = eqb p.kind k

  -- an array after a put: its number set by a put of kind k; its flag raised; its place cleared by a free
  abbrev pub sets : ℕ → List ℕ → List ℕ
  sets k l = cond (is k) (set l p.at p.val) l

  abbrev pub raises : ℕ → List Bool → List Bool
  raises k l = cond (is k) (set l p.at true) l

  abbrev pub frees {ℓ} : {A : Type ℓ} → A → List A → List A
  frees z l = cond (is k_free) (set l p.at z) l

  abbrev pub posts : List ℕ → List ℕ
  posts l = cond (is k_insert) (into p.val l) (without p.val l)

  abbrev pub enters : List ℕ → List ℕ
  enters l = cond (is k_enter) (l ++ p.val ∷ []) (without p.val l)

-- one put, field by field
abbrev pub apply : Put → Store → Store
apply p S = record {
  heads = sets p k_head S.heads;
  xmin = frees p 0 (sets p k_xmin S.xmin);
  xmax = frees p 0 (sets p k_xmax S.xmax);
  next = frees p 0 (sets p k_next S.next);
  key = frees p 0 (sets p k_key S.key);
  has = frees p false (raises p k_key S.has);
  locked = frees p false (raises p k_lock S.locked);
  owner = frees p 0 (sets p k_lock S.owner);
  postings = cond (is p k_insert || is p k_remove) (pad posting_limit 0 (posts p (postings_of S))) S.postings;
  posting_count = cond (is p k_insert || is p k_remove) (length (posts p (postings_of S))) S.posting_count;
  stripe_guards = sets p k_stripe S.stripe_guards;
  partition_guards = sets p k_partition S.partition_guards;
  stamps = sets p k_stamp S.stamps;
  active = cond (is p k_drop || is p k_enter) (pad active_limit 0 (enters p (active_txids S.active))) S.active;
  clock = cond (is p k_clock) p.val S.clock;
  poisoned = is p k_poison || (is p k_doom || S.poisoned);
  doomed = cond (is p k_doom) p.val S.doomed;
  bound = S.bound;
}

abbrev pub apply_all : List Put → Store → Store
apply_all [] S = S
apply_all (p ∷ ps) S = apply_all ps (apply p S)

-- a free slot p taken for a version of t over the base q
abbrev pub take_slot : ℕ → ℕ → ℕ → Value → List Put
take_slot p t q Absent = put_xmin p t ∷ put_next p q ∷ []
take_slot p t q (Key k) = put_xmin p t ∷ put_next p q ∷ put_key p k ∷ []

-- "every off-chain slot of the txid", rising
unfoldable pub own_slots : List ℕ → List ℕ → List ℕ → ℕ → List ℕ
own_slots heads next xmin t =
    let seen = (walk heads next).seen in
    those (λ p. eqb (get_or xmin p 0) t && not (on seen p)) (used_slots xmin)

-- "Abort frees, rising, every off-chain slot of the txid, then drops it from the active list"
unfoldable pub abort_puts : Store → ℕ → List Put
abort_puts S t = map put_free (own_slots S.heads S.next S.xmin t) ++ put_drop t ∷ []
