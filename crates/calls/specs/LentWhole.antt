-- The fields of a store passed by value, lent: each array holds what its list does, since it has its type's length.
use Rattle.std.specs.Prelude.{◌≡◌, false}
use Rattle.records.specs.Limits.{rows, places, posting_limit, stripes, active_limit}
use Rattle.rules.specs.Types.{Store}
use Rattle.statements.specs.Sized.{Sized}
use Rattle.fields.specs.Lent.{array_same, at_rows, at_places, flags_at_places, at_active, at_postings, at_stripes}

module _ (S : Store) (z : Sized S) where
  pub heads_whole : at_rows S.heads ≡ S.heads
  heads_whole = array_same rows 0 S.heads z.heads

  pub xmin_whole : at_places S.xmin ≡ S.xmin
  xmin_whole = array_same places 0 S.xmin z.xmin

  pub next_whole : at_places S.next ≡ S.next
  next_whole = array_same places 0 S.next z.next

  pub key_whole : at_places S.key ≡ S.key
  key_whole = array_same places 0 S.key z.key

  pub has_whole : flags_at_places S.has ≡ S.has
  has_whole = array_same places false S.has z.has

  pub locked_whole : flags_at_places S.locked ≡ S.locked
  locked_whole = array_same places false S.locked z.locked

  pub owner_whole : at_places S.owner ≡ S.owner
  owner_whole = array_same places 0 S.owner z.owner

  pub postings_whole : at_postings S.postings ≡ S.postings
  postings_whole = array_same posting_limit 0 S.postings z.postings

  pub stamps_whole : at_stripes S.stamps ≡ S.stamps
  stamps_whole = array_same stripes 0 S.stamps z.stamps

  pub active_whole : at_active S.active ≡ S.active
  active_whole = array_same active_limit 0 S.active z.active
