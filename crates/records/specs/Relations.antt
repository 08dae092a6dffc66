-- The relations between limits that code and proofs rest on, each computed here: limits that break one fail here. Behind it, who needs it
-- (or that nothing does any more).
use Rattle.std.specs.Prelude.{suc, ◌+◌, ◌*◌, ◌^◌, ◌≤◌, ◌<◌}
use Rattle.std.proofs.Common.{arith}
use Rattle.records.specs.Limits.{rows, places, posting_limit, stripes, partitions, write_limit, index_read_limit, key_end, clock_end}
use Rattle.records.specs.Limits.{place_limit, place_digits, digits32, digits64, put_limit, place_base}

-- a posting for each row, and one more for each write until the old ones are removed (posting_laws Undone: step 15 always has room)
pub writes_posted : rows + write_limit ≤ posting_limit
writes_posted = omega arith

-- a posting for each row (posting_laws Exact, Rebuilt; recovery_laws Recovering; recovery Rebuild)
pub rows_posted : rows ≤ posting_limit
rows_posted = omega (arith, writes_posted)

-- "the stripe's stamp once per stripe" always has room (call_laws LookupLaws)
pub stripes_read : stripes ≤ index_read_limit
stripes_read = omega arith

-- what is divided by (posting_laws Pair, call_laws LookupLaws)
pub rows_some : 0 < rows
rows_some = omega arith

pub stripes_some : 0 < stripes
stripes_some = omega arith

-- a slot pointer has 32 bits (casts of the code, each shown by computing: journal `push_frees`, visibility `lowest_free`, `own_marks`; no proof names it)
pub slots_narrow : places ≤ key_end
slots_narrow = omega arith

-- a posting has 64 bits (products of the code, shown by computing too)
pub postings_wide : key_end * rows ≤ suc clock_end
postings_wide = omega arith

-- the kind and place of a put in one word have 64 bits (nothing any more: the journal packed its puts so, and now has them as they are)
pub words_wide : key_end * place_base ≤ suc clock_end
words_wide = omega arith

-- every place of a store's arrays is below the base of that packing (nothing any more)
pub rows_placed : rows ≤ place_base
rows_placed = omega arith

pub slots_placed : places ≤ place_base
slots_placed = omega arith

pub stripes_placed : stripes ≤ place_base
stripes_placed = omega arith

pub partitions_placed : partitions ≤ place_base
partitions_placed = omega arith

-- the journal holds every run: one to the last stamp, and one whose callback fails, which is rolled back and aborted (commit Room, Planned, Ends)
pub run_puts : stripes + partitions + write_limit + write_limit + (write_limit + write_limit) + places + 1 + (stripes + 1) + (stripes + partitions) ≤ put_limit
run_puts = omega arith

pub undo_puts : stripes + partitions + write_limit + (1 + (suc write_limit + (suc places + (stripes + partitions)))) ≤ put_limit
undo_puts = omega arith

-- and the three puts of a call (calls BeginAnswer, WriteAnswer, LockAnswer)
pub call_puts : 3 ≤ put_limit
call_puts = omega arith

-- a place, a number of 32 bits and one of 64 bits can be written (sentences ReplaySays, replay_core Long)
pub place_written : place_limit ≤ 10 ^ place_digits
place_written = omega arith

pub narrow_written : key_end ≤ 10 ^ digits32
narrow_written = omega arith

pub wide_written : clock_end < 10 ^ digits64
wide_written = omega arith
