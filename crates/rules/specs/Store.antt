-- "Store and transaction": the store's slots, postings and active list, read from its arrays, and their form.
use Rattle.std.specs.Prelude.{Bool, true, false, not, cond, List, [], ◌∷◌, ℕ, ◌+◌, ◌*◌, ◌/◌, ◌%◌, length, get_or, take, drop, eqb, ltb, leb}
use Rattle.records.specs.Limits.{rows, posting_limit, stripes, partitions, key_end, last_minute}
use Rattle.rules.specs.Lists.{all, every, each_or, nonzero_from, all_zero, is_zero, nonzero, before_zero, rising}
use Rattle.rules.specs.Types.{Store, Value, Absent, Key}

-- "A used slot has xmin, ..": by their form a slot is used where its xmin is not 0
abbrev pub used : List ℕ → ℕ → Bool
used xmin p = nonzero (get_or xmin p 0)

-- the used slots, rising
abbrev pub used_slots : List ℕ → List ℕ
used_slots xmin = nonzero_from 0 xmin

-- "a value (a 32-bit key, or none)"; pointer 0 and free slots have none
abbrev pub value_at : List ℕ → List Bool → ℕ → Value
value_at key has p = cond (get_or has p false) (Key (get_or key p 0)) Absent

abbrev pub same_value : Value → Value → Bool
same_value Absent Absent = true
same_value Absent (Key k) = false
same_value (Key j) Absent = false
same_value (Key j) (Key k) = eqb j k

-- the version at p carries key k
abbrev pub carries : List ℕ → List Bool → ℕ → ℕ → Bool
carries key has p k = same_value (value_at key has p) (Key k)

-- document 02, wish 7: "Our key is a minute of the year, so 527,039 is the last": "a larger key"
abbrev pub impossible : Value → Bool
impossible Absent = false
impossible (Key k) = ltb last_minute k

-- "A free slot is all zero; an absent key is stored as 0." Place 0 is free. "A store holding [a larger key] in any used slot is not repairable"
unfoldable pub slots_in_form : Store → Bool
slots_in_form S = every (
    not (used S.xmin 0)
    ∷ each_or nonzero is_zero S.xmin S.xmax
    ∷ each_or nonzero is_zero S.xmin S.next
    ∷ each_or nonzero not S.xmin S.has
    ∷ each_or nonzero not S.xmin S.locked
    ∷ each_or nonzero is_zero S.xmin S.owner
    ∷ each_or (λ b. b) is_zero S.has S.key
    ∷ each_or is_zero (λ k. leb k last_minute) S.xmin S.key
    ∷ [])

-- "A posting is (key, row)": one number, so that the order of postings is that of numbers
abbrev pub posting : ℕ → ℕ → ℕ
posting k r = k * rows + r

abbrev pub key_of : ℕ → ℕ
key_of c = c / rows

abbrev pub row_of : ℕ → ℕ
row_of c = c % rows

unfoldable pub postings_of : Store → List ℕ
postings_of S = take S.posting_count S.postings

-- "kept rising, packed, unique, at most" the limit; the keys are of 32 bits
unfoldable pub postings_in_form : Store → Bool
postings_in_form S = every (
    leb S.posting_count posting_limit
    ∷ rising 0 (postings_of S)
    ∷ all (λ c. ltb c (posting key_end 0)) (postings_of S)
    ∷ all_zero (drop S.posting_count S.postings)
    ∷ [])

-- "Key k has stripe k mod 16; row id r has partition r mod 16."
abbrev pub stripe_of : ℕ → ℕ
stripe_of k = k % stripes

abbrev pub partition_of : ℕ → ℕ
partition_of r = r % partitions

-- "Active txids: at most 16, rising, zero after them"; "from 1 to below the clock"
abbrev pub active_txids : List ℕ → List ℕ
active_txids act = before_zero act

unfoldable pub active_in_form : List ℕ → ℕ → Bool
active_in_form act clock = every (
    rising 1 (active_txids act) ∷ all (λ t. ltb t clock) (active_txids act) ∷ all_zero (drop (length (active_txids act)) act) ∷ [])
