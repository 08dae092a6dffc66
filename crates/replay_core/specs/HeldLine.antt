-- One byte more of a line, where there is room and where there is none.
use Rattle.std.specs.Prelude.{◌≡◌, ℕ, min, ltb, ◌+◌, ◌<◌, ◌≤◌, List, [], ◌∷◌, ◌++◌, length, take, slice_set}
use Rattle.std.proofs.Common.{sym, ◌∙◌, add-one, arith, length-append, length-take, take_all, take-suc-set}
use Rattle.std.proofs.lemmas.List.{take-append-le}
use borrow.Author.Tests.{ltb-true, ltb-false}
use Rattle.basic_laws.specs.Cases.{by}
use Rattle.replay_core.specs.Feed.{held_room}

module _ (bytes : List ℕ) (n b : ℕ) (long : length bytes ≡ held_room) where
  pub held_full : held_room ≤ n → take n bytes ≡ take held_room (take n bytes ++ b ∷ [])
  held_full h = rw (take_all n bytes (omega arith)) (sym (take-append-le held_room bytes (b ∷ []) (omega arith) ∙ take_all held_room bytes (omega arith)))

  pub held_room_law : n < held_room → take (n + 1) (slice_set bytes n b) ≡ take held_room (take n bytes ++ b ∷ [])
  held_room_law h =
      rw (add-one, take-suc-set bytes n b (omega arith))
      (sym (take_all held_room (take n bytes ++ b ∷ []) (omega (arith, length-append (take n bytes) (b ∷ []), length-take n bytes))))

-- the count is never above the room, whatever it is
pub held_min : (bytes : List ℕ) (n : ℕ) {k : ℕ} → length bytes ≡ held_room → k ≡ min n held_room → take k bytes ≡ take n bytes
held_min bytes n {k} long e =
    by (ltb n held_room)
    (λ t. let z : k ≡ n = omega (arith, e, ltb-true _ _ t) in rw z)
    (λ t. rw (take_all k bytes (omega (arith, e, ltb-false _ _ t)), take_all n bytes (omega (arith, ltb-false _ _ t))))
