-- The journal: what its puts mean. As contracts see it, it is the list of what its puts mean.
pub use Rattle.records.specs.Limits.{put_limit}
use Rattle.rules.specs.Puts.{Put, put_stripe, put_partition, put_insert, put_remove, put_xmax, put_head, put_free, put_drop, put_stamp}
use Rattle.rules.specs.Puts.{put_poison, put_doom, put_enter, put_clock, put_xmin, put_next, put_key, put_lock}
pub use Rattle.journal.specs.declared.Put.{Put as Planned}
pub use Rattle.journal.specs.declared.Put.TheVariants.{Stripe, Partition, Insert, Remove, Xmax, Head, Free, Drop, Stamp, Poison, Doom, Enter, Clock}
pub use Rattle.journal.specs.declared.Put.TheVariants.{Xmin, Next, Key, Lock}

-- the kind, the place and the number of each case
abbrev pub meant : Planned → Put
meant (Stripe i t) = put_stripe i t.0
meant (Partition i t) = put_partition i t.0
meant (Insert c) = put_insert c
meant (Remove c) = put_remove c
meant (Xmax p t) = put_xmax p.0 t.0
meant (Head r p) = put_head r.0 p.0
meant (Free p) = put_free p.0
meant (Drop t) = put_drop t.0
meant (Stamp i t) = put_stamp i t.0
meant Poison = put_poison
meant (Doom t) = put_doom t.0
meant (Enter t) = put_enter t.0
meant (Clock t) = put_clock t
meant (Xmin p t) = put_xmin p.0 t.0
meant (Next p q) = put_next p.0 q.0
meant (Key p k) = put_key p.0 k
meant (Lock p t) = put_lock p.0 t.0
