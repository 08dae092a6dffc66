-- What a call that changes the store in place answers beside the store.
use Rattle.rules.specs.Types.{Reply, Written, Answer}
use Rattle.inplace.specs.declared.Told.{Told}
use Rattle.inplace.specs.declared.Wrote.{Wrote}
use Rattle.inplace.specs.declared.Committed.{Committed}

-- begin, row lock and abort: the number with its fate, and the transaction
abbrev pub told : Reply → Told
told a = record { refusal = a.refusal; tx = a.tx }

-- write: also the slot
abbrev pub wrote : Written → Wrote
wrote a = record { refusal = a.refusal; slot = a.slot; tx = a.tx }

-- commit: also the record, the events and the number of stores
abbrev pub committed : Answer → Committed
committed a = record { refusal = a.refusal; «record» = a.«record»; tx = a.tx; events = a.events; stores = a.stores }
