-- Document 02, wish 7, computed: the last minute is taken and the next one refused; a store that holds the next one, on a chain or off it, is refused.
use Rattle.std.specs.Prelude.{◌≡◌, refl, false, List, [], ◌∷◌, ◌++◌, ℕ, suc, replicate}
use Rattle.records.specs.Limits.{rows, write_limit, last_minute}
use Rattle.records.specs.Zero.{no_faults}
use Rattle.rules.specs.Types.{Store, Tx, Uncut, Absent, Key}
use Rattle.rules.specs.Store.{posting}
use Rattle.rules.specs.Numbers.{number_of}
use Rattle.rules.specs.Puts.{put_insert, put_remove, put_key, apply_all}
use Rattle.rules.specs.Calls.{begin, read, write, lookup, row_lock, abort}
use Rattle.rules.specs.Recovery.{recover}
use Rattle.rules.specs.Answer.{commit}
use Rattle.rules.specs.Replay.{line_b, line_w, line_l, line_c}
use Rattle.rules.specs.Computing.{computing}
use Rattle.mornings.specs.Mornings.{morning, written, done}
use Rattle.demands.specs.Struck.{again}
use Rattle.demands.specs.Exhibits.{store_of, tx_of, last_number, no_slot}

-- write and lookup of the last minute, and of the next; the order 23, 25, 31, 26
pub minutes_asked :
    last_number (line_b 0 ∷ line_w 0 3 (Key last_minute) ∷ [])
    ∷ last_number (line_b 0 ∷ line_l 0 last_minute ∷ [])
    ∷ last_number (line_b 0 ∷ line_w 0 3 (Key (suc last_minute)) ∷ [])
    ∷ last_number (line_b 0 ∷ line_l 0 (suc last_minute) ∷ [])
    ∷ last_number (line_b 0 ∷ line_w 0 rows (Key (suc last_minute)) ∷ [])
    ∷ last_number (line_b 0 ∷ replicate write_limit (line_w 0 3 (Key 35)) ++ line_w 0 3 (Key (suc last_minute)) ∷ [])
    ∷ number_of (write (begin no_slot).store (begin no_slot).tx 3 (Key (suc last_minute))).refusal
    ∷ number_of (write (begin no_slot).store (begin no_slot).tx 3 (Key last_minute)).refusal
    ∷ []
    ≡ 0 ∷ 0 ∷ 31 ∷ 31 ∷ 23 ∷ 25 ∷ 31 ∷ 26 ∷ []
unfolding morning computing
minutes_asked = refl

-- a key k of row 3: its head's, with its posting; an older version's, behind the head; that of an open transaction's version, off every chain
abbrev at_head : ℕ → Store
at_head k = apply_all (put_key 1 k ∷ put_remove (posting 35 3) ∷ put_insert (posting k 3) ∷ []) (store_of (done ++ line_b 0 ∷ []))

abbrev behind : ℕ → Store
behind k = apply_all (put_key 1 k ∷ []) (store_of (again ++ line_c 0 false Uncut ∷ line_b 0 ∷ []))

abbrev off_chain : ℕ → Store
off_chain k = apply_all (put_key 1 k ∷ []) (store_of written)

-- what each call answers there: begin, read, write, lookup, row lock, abort, commit, recovery
abbrev answers : Store → Tx → List ℕ
answers S x =
    number_of (begin S).refusal
    ∷ number_of (read S x 3).refusal
    ∷ number_of (write S x 3 Absent).refusal
    ∷ number_of (lookup S x 35).refusal
    ∷ number_of (row_lock S x 3).refusal
    ∷ number_of (abort S x).refusal
    ∷ number_of (commit S x false no_faults Uncut).refusal
    ∷ number_of (recover S).refusal
    ∷ []

abbrev one_or_twenty : List ℕ
one_or_twenty = 1 ∷ 1 ∷ 1 ∷ 1 ∷ 1 ∷ 1 ∷ 1 ∷ 20 ∷ []

-- the last minute is taken (a row that nobody committed has no head to lock), the next one refused, wherever it stands
pub minutes_held :
    (answers (at_head last_minute) (tx_of (done ++ line_b 0 ∷ [])) ≡ replicate 8 0)
    × (answers (at_head (suc last_minute)) (tx_of (done ++ line_b 0 ∷ [])) ≡ one_or_twenty)
    × (answers (behind last_minute) (tx_of (again ++ line_c 0 false Uncut ∷ line_b 0 ∷ [])) ≡ replicate 8 0)
    × (answers (behind (suc last_minute)) (tx_of (again ++ line_c 0 false Uncut ∷ line_b 0 ∷ [])) ≡ one_or_twenty)
    × (answers (off_chain last_minute) (tx_of written) ≡ 0 ∷ 0 ∷ 0 ∷ 0 ∷ 28 ∷ 0 ∷ 0 ∷ 0 ∷ [])
    × (answers (off_chain (suc last_minute)) (tx_of written) ≡ one_or_twenty)
unfolding morning again done written computing
minutes_held = (refl, refl, refl, refl, refl, refl)
