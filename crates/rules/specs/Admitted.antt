-- "Admitted stores": repairable and resting.
use Rattle.std.specs.Prelude.{Bool, true, false, not, cond, ◌&&◌, ◌||◌, List, [], ◌∷◌, ℕ, suc, get_or, eqb, ltb, leb}
use Rattle.records.specs.Limits.{slots, places}
use Rattle.rules.specs.Lists.{all, every, each_or, memb, same, all_zero, is_zero, nonzero, into}
use Rattle.rules.specs.Types.{Store}
use Rattle.rules.specs.Store.{used_slots, slots_in_form, posting, postings_of, postings_in_form, active_in_form}
use Rattle.rules.specs.Chains.{chain_from, walk, on}

-- "Unfinished" means active or doomed. Finished is neither; 0, no txid, counts as finished.
unfoldable pub finished : List ℕ → ℕ → ℕ → Bool
finished act doomed t = eqb t 0 || (not (memb t act) && not (eqb t doomed))

-- finished versions, the first with xmax v: "each xmax is the xmin of the version before it"
abbrev pub tail_ok : List ℕ → List ℕ → (ℕ → Bool) → ℕ → List ℕ → Bool
tail_ok xmin xmax fin v [] = true
tail_ok xmin xmax fin v (p ∷ l) = fin (get_or xmin p 0) && (eqb (get_or xmax p 0) v && tail_ok xmin xmax fin (get_or xmin p 0) l)

-- behind an unfinished version of t: "the first finished version's xmax is 0 or .. the xmin of an unfinished version ahead"
abbrev pub next_ok : List ℕ → List ℕ → (ℕ → Bool) → ℕ → List ℕ → Bool
next_ok xmin xmax fin t [] = true
next_ok xmin xmax fin t (p ∷ l) = (eqb (get_or xmax p 0) 0 || eqb (get_or xmax p 0) t) && tail_ok xmin xmax fin (get_or xmax p 0) (p ∷ l)

-- "only a chain's first version may have an unfinished xmin, with xmax 0"; a finished first one's xmax is "0 or an unfinished txid"
abbrev pub chain_ok : List ℕ → List ℕ → (ℕ → Bool) → List ℕ → Bool
chain_ok xmin xmax fin [] = true
chain_ok xmin xmax fin (p ∷ l) =
    cond (fin (get_or xmin p 0))
    ((eqb (get_or xmax p 0) 0 || not (fin (get_or xmax p 0))) && tail_ok xmin xmax fin (get_or xmax p 0) (p ∷ l))
    (eqb (get_or xmax p 0) 0 && next_ok xmin xmax fin (get_or xmin p 0) l)

-- "a used slot off every chain has an unfinished xmin, xmax 0, next at most" the last slot
abbrev pub off_ok : List ℕ → List ℕ → List ℕ → (ℕ → Bool) → List ℕ → ℕ → Bool
off_ok xmin xmax next fin seen p =
    on seen p || (not (fin (get_or xmin p 0)) && (eqb (get_or xmax p 0) 0 && leb (get_or next p 0) slots))

-- "Repairable: clock at least 1; slots and active list in their form; active txids and used xmins from 1 to below the clock, doomed below it;
-- chains lead through used slots, reach none twice and end at 0; .."
unfoldable pub repairable : Store → Bool
repairable S =
    let fin = finished S.active S.doomed in
    let w = walk S.heads S.next in
    every (
    leb 1 S.clock
    ∷ slots_in_form S
    ∷ active_in_form S.active S.clock
    ∷ all (λ t. ltb t S.clock) S.xmin
    ∷ ltb S.doomed S.clock
    ∷ w.ok
    ∷ each_or is_zero nonzero w.seen S.xmin
    ∷ all (λ h. chain_ok S.xmin S.xmax fin (chain_from places S.next h)) S.heads
    ∷ all (off_ok S.xmin S.xmax S.next fin w.seen) (used_slots S.xmin)
    ∷ [])

-- "(key, row) of each head with a value", rising; heads from row r on
abbrev pub head_postings : List ℕ → List Bool → ℕ → List ℕ → List ℕ
head_postings key has r [] = []
head_postings key has r (h ∷ hs) =
    let l = head_postings key has (suc r) hs in
    cond (get_or has h false) (into (posting (get_or key h 0) r) l) l

-- "any unfinished txid found as a chain's xmin or xmax is the doomed one"
abbrev pub rests_at : List ℕ → List ℕ → (ℕ → Bool) → ℕ → List ℕ → ℕ → Bool
rests_at xmin xmax fin doomed seen p =
    not (on seen p) || ((fin (get_or xmin p 0) || eqb (get_or xmin p 0) doomed) && (fin (get_or xmax p 0) || eqb (get_or xmax p 0) doomed))

-- "Resting (admitted): repairable, no guard held, postings in their form; any unfinished txid ..; if not poisoned, doomed is 0 and the
-- postings are exactly (key, row) of each head with a value."
unfoldable pub resting : Store → Bool
resting S =
    let seen = (walk S.heads S.next).seen in
    every (
    repairable S
    ∷ all_zero S.stripe_guards
    ∷ all_zero S.partition_guards
    ∷ postings_in_form S
    ∷ all (rests_at S.xmin S.xmax (finished S.active S.doomed) S.doomed seen) (used_slots S.xmin)
    ∷ (S.poisoned || (eqb S.doomed 0 && same (postings_of S) (head_postings S.key S.has 0 S.heads)))
    ∷ [])
