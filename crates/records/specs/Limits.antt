-- The limits of "Store and transaction". Every other definition and every law names them. (src/lib.rt names the same limits for the
-- arrays; the contracts of `Store::fresh`, `Tx::zero` and `Schedule::none` tie the two together.)
use Rattle.std.specs.Prelude.{List, ℕ, suc, ◌+◌, replicate}

-- row ids, from 0; raised by document 02, wish 5
abbrev pub rows : ℕ
rows = 128

-- slots, from 1; raised by the same
abbrev pub slots : ℕ
slots = 512

-- slot p stands at place p, and place 0 is no slot
abbrev pub places : ℕ
places = suc slots

-- postings; raised by the same
abbrev pub posting_limit : ℕ
posting_limit = 256

-- "Key k has stripe k mod 16; row id r has partition r mod 16."
abbrev pub stripes : ℕ
stripes = 16

abbrev pub partitions : ℕ
partitions = 16

-- "Active txids: at most 16"; and so in a snapshot
abbrev pub active_limit : ℕ
active_limit = 16

-- "At most 16 writes, 32 reads, 16 index reads, .. 4 savepoints."
abbrev pub write_limit : ℕ
write_limit = 16

abbrev pub read_limit : ℕ
read_limit = 32

abbrev pub index_read_limit : ℕ
index_read_limit = 16

abbrev pub savepoint_limit : ℕ
savepoint_limit = 4

-- "The table of 24 steps"; one fault more is never fit
abbrev pub step_count : ℕ
step_count = 24

abbrev pub fault_limit : ℕ
fault_limit = suc step_count

-- "a 32-bit key"; "A 64-bit clock"
abbrev pub key_end : ℕ
key_end = 4294967296

abbrev pub clock_end : ℕ
clock_end = 18446744073709551615

-- "Our key is a minute of the year, so 527,039 is the last in a leap year": document 02, wish 7
abbrev pub last_minute : ℕ
last_minute = 527039

-- "Replay": "place 0 to 15"
abbrev pub place_limit : ℕ
place_limit = 16

-- the digits that every place, every number of 32 bits and every number of 64 bits can be written with
abbrev pub place_digits : ℕ
place_digits = 2

abbrev pub digits32 : ℕ
digits32 = 10

abbrev pub digits64 : ℕ
digits64 = 20

-- the puts of the longest run: guards taken, insertions, removals, marks and heads, slots freed, the drop, stamps, a poison, guards released
abbrev pub put_limit : ℕ
put_limit = stripes + partitions + write_limit + write_limit + (write_limit + write_limit) + places + 1 + (stripes + 1) + (stripes + partitions)

-- more than any place of a store's arrays
abbrev pub place_base : ℕ
place_base = rows + places + stripes + partitions

-- no slot marked; shut, since a goal would show all its zeros
unfoldable pub no_marks : List ℕ
no_marks = replicate places 0
