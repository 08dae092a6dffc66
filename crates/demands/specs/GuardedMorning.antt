-- A morning computed at the paper's stripes and partitions: which guards are held after some of a commit's stores, and which stripes are stamped.
use Rattle.std.specs.Prelude.{◌≡◌, refl, false, List, [], ◌∷◌, ◌++◌, map, ℕ, get_or}
use Rattle.rules.specs.Lists.{flat, nonzero_from}
use Rattle.rules.specs.Types.{Uncut, After, Key}
use Rattle.rules.specs.Replay.{Line, line_b, line_r, line_w, line_l, line_c, start}
use Rattle.rules.specs.Computing.{computing}
use Rattle.mornings.specs.Mornings.{morning}

-- keys 35 in row 3 and 7 in row 20 committed; then txid 2 looks for key 40, reads row 20 and writes key 36 to row 3
unfoldable pub looked : List Line
looked =
    line_b 0 ∷ line_w 0 3 (Key 35) ∷ line_w 0 20 (Key 7) ∷ line_c 0 false Uncut
    ∷ line_b 0 ∷ line_l 0 40 ∷ line_r 0 20 ∷ line_w 0 3 (Key 36) ∷ []

-- the guards that are held after n stores of its commit: stripes, partitions
unfoldable pub held_after : ℕ → List (List ℕ)
held_after n =
    let T = (morning start (looked ++ line_c 0 false (After n) ∷ [])).desk.store in
    nonzero_from 0 T.stripe_guards ∷ nonzero_from 0 T.partition_guards ∷ []

-- stripes 3 and 4 of the changed keys and 8 of the index read, partition 3 of the written row and 4 of the read one; 17 stores in all
pub guards_shown : flat held_after (0 ∷ 1 ∷ 2 ∷ 3 ∷ 4 ∷ 5 ∷ 12 ∷ 13 ∷ 14 ∷ 15 ∷ 16 ∷ 17 ∷ [])
    ≡ [] ∷ []
    ∷ (3 ∷ []) ∷ []
    ∷ (3 ∷ 4 ∷ []) ∷ []
    ∷ (3 ∷ 4 ∷ 8 ∷ []) ∷ []
    ∷ (3 ∷ 4 ∷ 8 ∷ []) ∷ (3 ∷ [])
    ∷ (3 ∷ 4 ∷ 8 ∷ []) ∷ (3 ∷ 4 ∷ [])
    ∷ (3 ∷ 4 ∷ 8 ∷ []) ∷ (3 ∷ 4 ∷ [])
    ∷ (3 ∷ 4 ∷ 8 ∷ []) ∷ (4 ∷ [])
    ∷ (3 ∷ 4 ∷ 8 ∷ []) ∷ []
    ∷ (4 ∷ 8 ∷ []) ∷ []
    ∷ (8 ∷ []) ∷ []
    ∷ [] ∷ []
    ∷ []
unfolding looked held_after morning computing
guards_shown = refl

-- the stamps of stripes 3, 4, 7 and 8 afterwards, and cut before each of the two stamps
pub stamps_shown : map (λ c. map (λ i. get_or (morning start (looked ++ line_c 0 false c ∷ [])).desk.store.stamps i 0) (3 ∷ 4 ∷ 7 ∷ 8 ∷ []))
    (Uncut ∷ After 10 ∷ After 11 ∷ [])
    ≡ (2 ∷ 2 ∷ 1 ∷ 0 ∷ []) ∷ (1 ∷ 0 ∷ 1 ∷ 0 ∷ []) ∷ (2 ∷ 0 ∷ 1 ∷ 0 ∷ []) ∷ []
unfolding looked morning computing
stamps_shown = refl
