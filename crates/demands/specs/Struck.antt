-- What a fault or a cut leaves: short histories with their answers, one computed table.
use Rattle.std.specs.Prelude.{◌≡◌, refl, true, false, List, [], ◌∷◌, ◌++◌, map, ℕ}
use Rattle.rules.specs.Lists.{flat, in_order}
use Rattle.rules.specs.Types.{Value, Key, Uncut, After, Cause, BusyGuard, IndexReadAt, RowLockAt, SerializationAt, WriteBaseAt}
use Rattle.records.specs.Zero.{empty_store}
use Rattle.rules.specs.Transaction.{with_reads}
use Rattle.rules.specs.Faults.{F, B, P, X, Q}
use Rattle.rules.specs.Numbers.{cause}
use Rattle.rules.specs.Replay.{Line, line_b, line_r, line_w, line_l, line_k, line_c, line_f, line_v}
use Rattle.rules.specs.Replay.{num, dash, Out, says, Desk, desk_of, start, tx_at, laid, replay_from}
use Rattle.rules.specs.Computing.{computing}
use Rattle.mornings.specs.Mornings.{morning, written, done}

-- a line and what it answers
pub record Said : Type 0 where
  pub line : Line
  pub out : Out

-- a line that answers n, and t after it
abbrev pub on : Line → ℕ → ℕ → Said
on l n t = record { line = l; out = says n (num t) }

abbrev pub fault : ℕ → ℕ → ℕ → Said
fault n c k = on (line_f n c k) 0 0

-- place 0 commits and answers n: unlogged, logged, unlogged with a cut at k
abbrev pub unlogged : ℕ → ℕ → Said
unlogged n stores = on (line_c 0 false Uncut) n stores

abbrev pub logged : ℕ → ℕ → Said
logged n stores = on (line_c 0 true Uncut) n stores

-- place 0 commits, unlogged, and is answered 7 with this cause
abbrev pub stopped : Cause → ℕ → Said
stopped c stores = record { line = line_c 0 false Uncut; out = record { number = 7; third = num stores; more = cause c } }

abbrev pub cut_at : ℕ → ℕ → ℕ → Said
cut_at k n stores = on (line_c 0 false (After k)) n stores

-- a new transaction, of txid t, finds a key in row 3, or none
abbrev pub finds : ℕ → ℕ → List Said
finds t k = on (line_b 0) 0 t ∷ on (line_r 0 3) 0 k ∷ []

abbrev pub finds_none : ℕ → List Said
finds_none t = on (line_b 0) 0 t ∷ record { line = line_r 0 3; out = says 0 dash } ∷ []

-- the store is poisoned, so that begin is refused; recovery mends it
abbrev pub poisoned : List Said
poisoned = on (line_b 1) 9 0 ∷ on line_v 0 0 ∷ []

-- how a history begins, and its lines with their answers
pub record History : Type 0 where
  pub from : Desk
  pub told : List Said

abbrev pub after : List Line → List Said → History
after ls t = record { from = (morning start ls).desk; told = t }

abbrev pub heard : History → List Out
heard h = replay_from h.from (map (λ s. s.line) h.told)

abbrev pub expected : History → List Out
expected h = map (λ s. s.out) h.told

-- row 3 holds 35, and txid 2 writes 51 over it; or 36 and then 51; or txid 3 commits 52 before it does
unfoldable pub again : List Line
again = done ++ line_b 0 ∷ line_w 0 3 (Key 51) ∷ []

unfoldable pub twice : List Line
twice = done ++ line_b 0 ∷ line_w 0 3 (Key 36) ∷ line_w 0 3 (Key 51) ∷ []

unfoldable pub beaten : List Line
beaten = again ++ line_b 1 ∷ line_w 1 3 (Key 52) ∷ line_c 1 false Uncut ∷ []

-- txid 2 looks 35 up; meanwhile txid 3 writes a row and commits
unfoldable pub looked_up : ℕ → Value → List Line
looked_up r v = done ++ line_b 0 ∷ line_l 0 35 ∷ line_b 1 ∷ line_w 1 r v ∷ line_c 1 false Uncut ∷ []

-- txid 2 wrote, and txid 3 locks the row
unfoldable pub locked_out : List Line
locked_out = again ++ line_b 1 ∷ line_k 1 3 ∷ []

-- a transaction that read slot 1 when its xmin was 9, which it no longer is (forged: in a replay recovery alone frees a slot that was on a
-- chain, and it ends every transaction)
unfoldable pub reused : Desk
reused =
    let d = (morning start (done ++ line_b 0 ∷ [])).desk in
    laid d d.store 0 (with_reads (record { row = record { 0 = 3 }; ptr = record { 0 = 1 }; xmin = record { 0 = 9 } } ∷ []) (tx_at d 0))

unfoldable pub bound : Desk
bound = (morning (desk_of (empty_store true)) written).desk

-- by the number that the commit answers
unfoldable pub histories : List History
histories =
    -- 0: committed, also where the flush fails and where the cut comes after the last store
    after again (unlogged 0 10 ∷ finds 3 51)
    ∷ after again (fault 20 F 0 ∷ unlogged 0 10 ∷ finds 3 51)
    ∷ after again (cut_at 10 0 10 ∷ finds 3 51)
    -- 1, 3, 18: after a cut guards are held until recovery, and then the other's txid is no longer active
    ∷ after (written ++ line_b 1 ∷ []) (cut_at 4 18 4 ∷ on (line_c 1 false Uncut) 1 0 ∷ on line_v 0 0 ∷ on (line_c 1 false Uncut) 3 0 ∷ finds_none 3)
    ∷ after done (unlogged 3 0 ∷ finds 2 35)
    -- 18: before and after the store that finishes the transaction, and before the last
    ∷ after again (cut_at 6 18 6 ∷ on line_v 0 0 ∷ finds 3 35)
    ∷ after again (cut_at 7 18 7 ∷ on line_v 0 0 ∷ finds 3 51)
    ∷ after again (cut_at 9 18 9 ∷ on line_v 0 0 ∷ finds 3 51)
    -- 2: a letter that the step lacks, a k that it does not take, two faults at one step; each is used up
    ∷ after again (fault 3 B 0 ∷ unlogged 2 0 ∷ fault 3 F 1 ∷ unlogged 2 0 ∷ fault 3 F 0 ∷ fault 3 F 0 ∷ unlogged 2 0 ∷ unlogged 0 10 ∷ [])
    -- 4: nothing is changed, and the commit works after it
    ∷ after again (fault 3 F 0 ∷ unlogged 4 0 ∷ fault 8 F 0 ∷ unlogged 4 2 ∷ fault 13 F 0 ∷ unlogged 4 4 ∷ unlogged 0 10 ∷ [])
    -- 5, 6: aborted; where the abort fails 5 becomes 19, and 6 stays
    ∷ after again (fault 5 F 0 ∷ logged 5 2 ∷ finds 3 35)
    ∷ after again (fault 5 F 0 ∷ fault 23 F 0 ∷ logged 19 1 ∷ poisoned ++ finds 3 35)
    ∷ after again (fault 6 P 0 ∷ logged 6 2 ∷ finds 3 35)
    ∷ after again (fault 6 P 0 ∷ fault 23 F 0 ∷ logged 6 1 ∷ poisoned ++ finds 3 35)
    -- 7: busy; a base that is not the head, also where the abort fails; another's lock; a row and a stripe looked up; a changed xmin
    ∷ after again (fault 7 B 0 ∷ stopped BusyGuard 2 ∷ finds 3 35)
    ∷ after beaten (stopped (WriteBaseAt 0) 6 ∷ finds 4 52)
    ∷ after beaten (fault 23 F 0 ∷ stopped (WriteBaseAt 0) 5 ∷ poisoned ++ finds 4 52)
    ∷ after locked_out (stopped (RowLockAt 0) 6 ∷ finds 4 35)
    ∷ after (looked_up 3 (Key 35)) (stopped (SerializationAt 0) 5 ∷ [])
    ∷ after (looked_up 4 (Key 35)) (stopped (IndexReadAt 1) 5 ∷ [])
    ∷ record { from = reused; told = stopped (SerializationAt 0) 3 ∷ [] }
    -- 8: durably bound, unless logged
    ∷ record { from = bound; told = unlogged 8 4 ∷ logged 0 8 ∷ finds 2 35 }
    -- 9: aborted, the store as good as before; where the abort fails it becomes 19
    ∷ after again (fault 10 F 0 ∷ unlogged 9 6 ∷ finds 3 35)
    ∷ after again (fault 10 F 0 ∷ fault 23 F 0 ∷ unlogged 19 5 ∷ poisoned ++ finds 3 35)
    -- 10: undone, so that a lookup and the commit work after it; where the rollback fails recovery rebuilds the postings
    ∷ after again (fault 15 F 1 ∷ unlogged 10 6 ∷ on (line_l 0 51) 0 1 ∷ unlogged 0 10 ∷ finds 3 51)
    ∷ after again (fault 15 F 1 ∷ fault 24 F 0 ∷ unlogged 10 6 ∷ poisoned ++ finds 3 35 ++ on (line_l 0 51) 0 0 ∷ [])
    -- 11, 12: rolled back and aborted; where the rollback fails 11 becomes 19, and 12 stays; X and Q poison
    ∷ after again (fault 16 F 0 ∷ logged 11 8 ∷ finds 3 35 ++ on (line_l 0 51) 0 0 ∷ [])
    ∷ after again (fault 16 F 0 ∷ fault 24 F 0 ∷ logged 19 8 ∷ poisoned ++ finds 3 35 ++ on (line_l 0 51) 0 0 ∷ [])
    ∷ after again (fault 16 X 0 ∷ logged 11 9 ∷ poisoned ++ finds 3 35)
    ∷ after again (fault 16 P 0 ∷ logged 12 8 ∷ finds 3 35)
    ∷ after again (fault 16 P 0 ∷ fault 24 F 0 ∷ logged 12 8 ∷ poisoned ++ finds 3 35)
    ∷ after again (fault 16 Q 0 ∷ logged 12 9 ∷ poisoned ++ finds 3 35)
    -- 13: open in a poisoned store; committed again it is aborted
    ∷ after again (fault 17 F 0 ∷ unlogged 13 6 ∷ unlogged 9 6 ∷ poisoned ++ finds 3 35)
    -- 14: none of its stores, one or all are made: undone, also where there was no row, and where the finish fails too
    ∷ after again (fault 18 F 0 ∷ unlogged 14 8 ∷ poisoned ++ finds 3 35)
    ∷ after again (fault 18 F 1 ∷ unlogged 14 9 ∷ poisoned ++ finds 3 35)
    ∷ after again (fault 18 F 9 ∷ unlogged 14 10 ∷ poisoned ++ finds 3 35)
    ∷ after written (fault 18 F 9 ∷ unlogged 14 8 ∷ poisoned ++ finds_none 2)
    ∷ after again (fault 18 F 9 ∷ fault 21 F 0 ∷ unlogged 14 9 ∷ poisoned ++ finds 3 35)
    -- 15, 16: undone
    ∷ after twice (fault 19 F 0 ∷ unlogged 15 10 ∷ poisoned ++ finds 3 35)
    ∷ after twice (fault 19 F 9 ∷ unlogged 15 11 ∷ poisoned ++ finds 3 35)
    ∷ after again (fault 21 F 0 ∷ unlogged 16 9 ∷ poisoned ++ finds 3 35)
    -- 17: stands
    ∷ after again (fault 22 F 0 ∷ unlogged 17 10 ∷ poisoned ++ finds 3 51)
    ∷ after again (fault 22 F 9 ∷ unlogged 17 11 ∷ poisoned ++ finds 3 51)
    ∷ []

-- each history answers what it is told with
pub struck : map heard histories ≡ map expected histories
unfolding morning written done again twice beaten looked_up locked_out reused bound histories computing
struck = refl

-- 0 to 19, the numbers that a commit can answer, are all among the answers
pub all_answered : in_order (flat (λ h. map (λ o. o.number) (expected h)) histories)
    ≡ 0 ∷ 1 ∷ 2 ∷ 3 ∷ 4 ∷ 5 ∷ 6 ∷ 7 ∷ 8 ∷ 9 ∷ 10 ∷ 11 ∷ 12 ∷ 13 ∷ 14 ∷ 15 ∷ 16 ∷ 17 ∷ 18 ∷ 19 ∷ []
unfolding histories
all_answered = refl
