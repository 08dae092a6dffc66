-- The active list is packed as the postings are: its txids read back, and the array they are read from.
use Rattle.std.specs.Prelude.{◌≡◌, true, List, ℕ, ◌≤◌, length}
use Rattle.records.specs.Limits.{active_limit}
use Rattle.rules.specs.Lists.{rising, pad}
use Rattle.rules.specs.Store.{active_txids}
use Rattle.basic_laws.specs.Rising.{rising_past}
use Rattle.basic_laws.specs.LaidOut.{before_pad}

-- "Active txids: at most 16, rising, zero after them": from 1 on, so that none is 0
pub active_of : (l : List ℕ) → length l ≤ active_limit → rising 1 l ≡ true → active_txids (pad active_limit 0 l) ≡ l
active_of l short up = before_pad active_limit l short (rising_past 0 l up)
