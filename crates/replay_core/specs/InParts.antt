-- However a script is cut into parts, the answers are those of the whole script.
use Rattle.std.specs.Prelude.{◌≡◌, ℕ, zero, suc, ◌+◌, ◌^◌, ◌<◌, true, false, List, [], ◌∷◌, ◌++◌, map, length, take, ◌==◌, nat_eq, refl}
use Rattle.std.proofs.Common.{sym, ap, ◌∙◌, append_assoc, append-nil, arith, eqb-true, ne_eqb}
use Rattle.std.proofs.lemmas.Bool.{eqb-false}
use Rattle.rules.specs.Lists.{memb, flat}
use Rattle.basic_laws.specs.Cases.{by, or_false, or_neither}
use Rattle.rules.specs.Replay.{Line, Out, Desk, start, turn, replay_from, replay}
use Rattle.rules.specs.Script.{Bytes, split, lines_in, line_of, parse, write, replay_text}
use Rattle.script.specs.PrintLaws.{write_one}
use Rattle.sentences.specs.ScriptSays.{lines_fed, lines_last}
use Rattle.replay_core.specs.Feed.{Reading, held_room, next_line, line_end, with_byte, fed_byte, fed, ended, fed_all, first}
use Rattle.replay_core.specs.FeedLaws.{fed_append}
use Rattle.replay_core.specs.Long.{held_enough}

-- one byte more, no line feed either
no_feed_more : (w : Bytes) (b : ℕ) → memb 10 w ≡ false → (b == 10) ≡ false → memb 10 (w ++ b ∷ []) ≡ false
no_feed_more [] b e t = or_neither (10 == b) false (ne_eqb 10 b (λ z. eqb-false b 10 t (sym z))) refl
no_feed_more (c ∷ w) b e t = let d = or_false (10 == c) (memb 10 w) e in or_neither (10 == c) _ d.0 (no_feed_more w b d.1 t)

-- what is held of a longer line
held_more : (k : ℕ) (w : Bytes) (b : ℕ) → take k (take k w ++ b ∷ []) ≡ take k (w ++ b ∷ [])
held_more zero w b = refl
held_more (suc k) [] b = refl
held_more (suc k) (x ∷ w) b = ap (λ r. x ∷ r) (held_more k w b)

-- the definitions' reading and writing, shut: a goal would show all their steps
unfoldable read : Bytes → Line
read w = line_of (split 9 w)

unfoldable written : ℕ → List Out → Bytes
written n os = write n os

written_one : (n : ℕ) (o : Out) (os : List Out) → written n (o ∷ os) ≡ written n (o ∷ []) ++ written (suc n) os
unfolding written
written_one n o os = write_one n o os

abbrev at : Desk → Bytes → ℕ → Reading
at d w n = record { desk = d; held = take held_room w; lines = n }

module _ (d : Desk) (w : Bytes) (n : ℕ) (few : n + 1 < 2 ^ 64) where
  next : next_line n ≡ suc n
  next = omega arith

  line_answers : (line_end (at d w n)).answers ≡ written (suc n) ((turn (read w) d).out ∷ [])
  unfolding line_end read written
  line_answers = λ i. write (next i) ((turn (held_enough w i) d).out ∷ [])

  line_state : (line_end (at d w n)).state ≡ at (turn (read w) d).desk [] (suc n)
  unfolding line_end read
  line_state = λ i. record { desk = (turn (held_enough w i) d).desk; held = []; lines = next i }

-- a byte is fed
module _ (b : ℕ) (bs : Bytes) (s : Reading) where
  fed_feed : nat_eq b 10 ≡ true
      → fed (b ∷ bs) s ≡ record { state = (fed bs (line_end s).state).state; answers = (line_end s).answers ++ (fed bs (line_end s).state).answers }
  unfolding fed fed_byte
  fed_feed t = rw t

  fed_byte_law : nat_eq b 10 ≡ false → fed (b ∷ bs) s ≡ fed bs (with_byte b s)
  unfolding fed fed_byte
  fed_byte_law t = rw t

with_more : (b : ℕ) (d : Desk) (w : Bytes) (n : ℕ) → with_byte b (at d w n) ≡ at d (w ++ b ∷ []) n
unfolding with_byte
with_more b d w n = λ i. record { desk = d; held = held_more held_room w b i; lines = n }

-- the answers to what is left, from a line under way on
abbrev left : Bytes → Reading → Bytes
left bs s = (fed bs s).answers ++ ended (fed bs s).state

abbrev Answered : Bytes → Bytes → Desk → ℕ → Type 0
Answered bs w d n = left bs (at d w n) ≡ written (suc n) (replay_from d (map read (lines_in (w ++ bs))))

module _ (b : ℕ) (bs w : Bytes) (d : Desk) (n : ℕ) (e : memb 10 w ≡ false) where
  after_feed : nat_eq b 10 ≡ true → n + length (lines_in (w ++ b ∷ bs)) < 2 ^ 64
      → (n + 1 + length (lines_in bs) < 2 ^ 64 → Answered bs [] (turn (read w) d).desk (suc n)) → Answered (b ∷ bs) w d n
  after_feed t l k =
      let z : lines_in (w ++ b ∷ bs) ≡ w ∷ lines_in bs = rw (eqb-true b 10 t) (lines_fed w bs e) in
      let c : n + 1 + length (lines_in bs) < 2 ^ 64 = omega (arith, ap length z) in
      let o = (turn (read w) d).out in
      let os = replay_from (turn (read w) d).desk (map read (lines_in bs)) in
      rw (fed_feed b bs (at d w n) t, line_state d w n (omega arith), line_answers d w n (omega arith), z)
      (append_assoc (written (suc n) (o ∷ [])) _ _ ∙ ap (λ r. written (suc n) (o ∷ []) ++ r) (k c) ∙ sym (written_one (suc n) o os))

  after_byte : nat_eq b 10 ≡ false → Answered bs (w ++ b ∷ []) d n → Answered (b ∷ bs) w d n
  after_byte t k = rw (fed_byte_law b bs (at d w n) t, with_more b d w n) (rw (append_assoc w (b ∷ []) bs) at k)

-- the end of the script
at_end : (b : ℕ) (w : Bytes) (d : Desk) (n : ℕ) → ended (at d (b ∷ w) n) ≡ (line_end (at d (b ∷ w) n)).answers
unfolding ended
at_end b w d n = rw (ne_eqb (length (take held_room (b ∷ w))) 0 (λ z. omega arith))

answered_none : (d : Desk) (n : ℕ) → Answered [] [] d n
unfolding fed ended written
answered_none d n = refl

answered_last : (b : ℕ) (w : Bytes) (d : Desk) (n : ℕ) → memb 10 (b ∷ w) ≡ false → n + length (lines_in ((b ∷ w) ++ [])) < 2 ^ 64 → Answered [] (b ∷ w) d n
unfolding fed
answered_last b w d n e l =
    let z : lines_in ((b ∷ w) ++ []) ≡ (b ∷ w) ∷ [] = rw (append-nil w) (lines_last b w e) in
    at_end b w d n ∙ line_answers d (b ∷ w) n (omega (arith, ap length z)) ∙ ap (λ ls. written (suc n) (replay_from d (map read ls))) (sym z)

answered : (bs w : Bytes) (d : Desk) (n : ℕ) → memb 10 w ≡ false → n + length (lines_in (w ++ bs)) < 2 ^ 64 → Answered bs w d n
answered [] [] d n e l = answered_none d n
answered [] (b ∷ w) d n e l = answered_last b w d n e l
answered (b ∷ bs) w d n e l =
    by (b == 10)
    (λ t. after_feed b bs w d n e t l (λ c. answered bs [] (turn (read w) d).desk (suc n) refl (omega arith)))
    (λ t. after_byte b bs w d n e t (answered bs (w ++ b ∷ []) d n (no_feed_more w b e t) (rw (append_assoc w (b ∷ []) bs) l)))

-- parts fed one after the other are one
one_part : (ps : List Bytes) (s : Reading) → fed_all ps s ≡ left (flat (λ p. p) ps) s
unfolding fed
one_part [] s = refl
one_part (p ∷ ps) s =
    let q = fed p s in
    rw (fed_append p (flat (λ p. p) ps) s)
    (ap (λ r. q.answers ++ r) (one_part ps q.state) ∙ sym (append_assoc q.answers _ _))

-- the answers to the parts of a script, one after the other, are those of the script; line numbers have 64 bits
pub in_parts : (ps : List Bytes) → length (lines_in (flat (λ p. p) ps)) < 2 ^ 64 → fed_all ps first ≡ replay_text (flat (λ p. p) ps)
unfolding replay_text replay parse first read written
in_parts ps l = one_part ps first ∙ answered (flat (λ p. p) ps) [] start 0 refl (omega arith)
