-- The room is enough: an answer line has at most answer_room bytes, and there are at most as many lines as line feeds and one.
use Rattle.std.specs.Prelude.{◌≡◌, ℕ, zero, suc, ◌+◌, ◌*◌, ◌/◌, ◌%◌, ◌^◌, ◌<◌, ◌≤◌, List, [], ◌∷◌}
use Rattle.std.specs.Prelude.{◌++◌, length, take, drop, ◌==◌, ◌≢◌, nat_lt, nat_le, slice_index, min, refl}
use Rattle.std.proofs.Common.{sym, append-nil, add-one, arith, length-append, drop_of_length-le, count_by}
use Rattle.std.proofs.Math.Seq.{drop-cons}
use Rattle.std.proofs.lemmas.List.Recursion.{is_count_by}
use borrow.Author.Tests.{eq-eqb, ne_eqb, leb-true, leb-false, ltb-true, ltb-false}
use Rattle.records.specs.Limits.{digits64}
use Rattle.basic_laws.specs.Cases.{by}
use Rattle.rules.specs.Numbers.{More, nothing, cause, test_named, place_named}
use Rattle.rules.specs.Replay.{Third, num, dash, Out, turn}
use Rattle.rules.specs.Script.{Bytes, on_first, split, line_of, lines_in, decimal, third, more, write, replay_text}
use Rattle.script.specs.Print.{cause_room}
use Rattle.script.specs.PrintLaws.{digit_last, digit_more}
use Rattle.replay_core.specs.Feed.{Reading, answer_room, next_line, line_end, fed_byte, fed, ended, first}
use Rattle.replay_core.specs.InParts.{in_parts}
use Rattle.replay_core.specs.Room.{line_feeds, room_for, most, room_in}

-- a number has at most as many digits as are asked for
digits_short : (f n : ℕ) (rest : Bytes) → length (decimal f n rest) ≤ f + length rest
digits_short zero n rest = omega arith
digits_short (suc f) n rest =
    by (nat_lt n 10)
    (λ t. rw (digit_last (suc f) n rest (omega arith) (ltb-true _ _ t)) (omega arith))
    (λ t. rw (digit_more (suc f) f n rest refl (ltb-false _ _ t)) (omega (arith, digits_short f (n / 10) ((48 + n % 10) ∷ rest))))

third_short : (t : Third) (rest : Bytes) → length (third t rest) ≤ digits64 + length rest
third_short (num n) rest = digits_short digits64 n rest
third_short dash rest = omega arith

more_short : (m : More) (rest : Bytes) → length (more m rest) ≤ cause_room + length rest
more_short nothing rest = omega arith
more_short (cause c) rest =
    let place = decimal digits64 (place_named c) rest in
    omega (arith, digits_short digits64 (place_named c) rest, digits_short digits64 (test_named c) (9 ∷ place))

pub answer_short : (n : ℕ) (o : Out) → length (write n (o ∷ [])) ≤ answer_room
answer_short n o =
    let feed : Bytes = 10 ∷ [] in
    let end = more o.more feed in
    let a = third o.third end in
    let b = decimal digits64 o.number (9 ∷ a) in
    omega (
      arith,
      more_short o.more feed,
      third_short o.third end,
      digits_short digits64 o.number (9 ∷ a),
      digits_short digits64 n (9 ∷ b),
    )

line_short : (s : Reading) → length (line_end s).answers ≤ answer_room
unfolding line_end
line_short s = let t = turn (line_of (split 9 s.held)) s.desk in answer_short (next_line s.lines) t.out

ended_short : (s : Reading) → length (ended s) ≤ answer_room
unfolding ended
ended_short s = by (length s.held == 0) (λ t. rw t (omega arith)) (λ t. rw t (line_short s))

-- at most answer_room bytes for each line feed
pub fed_short : (bs : Bytes) (s : Reading) → length (fed bs s).answers ≤ line_feeds bs * answer_room
unfolding fed fed_byte line_feeds
fed_short [] s = omega arith
fed_short (b ∷ bs) s =
    by (b == 10)
    (λ t. rw t (omega (arith, length-append (line_end s).answers (fed bs (line_end s).state).answers, line_short s, fed_short bs (line_end s).state)))
    (λ t. rw t (fed_short bs _))

on_first_law : (b k : ℕ) (r : List Bytes) → length r ≤ k + 1 → length (on_first b r) ≤ k + 1
on_first_law b k [] h = omega arith
on_first_law b k (w ∷ ws) h = h

few_lines : (s : Bytes) → length (lines_in s) ≤ line_feeds s + 1
unfolding line_feeds
few_lines [] = omega arith
few_lines (b ∷ bs) = by (b == 10) (λ t. rw t (omega (arith, few_lines bs))) (λ t. rw t (on_first_law b (line_feeds bs) (lines_in bs) (few_lines bs)))

-- the whole script fed at once, and its end
pub whole : (s : Bytes) → line_feeds s + 1 < 2 ^ 64 → (fed s first).answers ++ ended (fed s first).state ≡ replay_text s
whole s h = rw (append-nil s) at (in_parts (s ∷ []) (rw (append-nil s) (omega (arith, few_lines s))))

-- no script has more answers than the room holds
pub room_holds : (s : Bytes) → line_feeds s + 1 < 2 ^ 64 → length (replay_text s) ≤ room_for s
room_holds s h =
    let q = fed s first in
    rw (sym (whole s h)) (omega (arith, length-append q.answers (ended q.state), fed_short s first, ended_short q.state))

-- line feeds counted from the front
module _ (s : Bytes) (i : ℕ) where
  pub feeds_yes : i < length s → slice_index s i ≡ 10 → line_feeds (drop i s) ≡ suc (line_feeds (drop (i + 1) s))
  unfolding line_feeds
  feeds_yes h e = rw (add-one i, drop-cons s i 0 h, eq-eqb _ _ e)

  pub feeds_no : i < length s → (slice_index s i ≢ 10) → line_feeds (drop i s) ≡ line_feeds (drop (i + 1) s)
  unfolding line_feeds
  feeds_no h e = rw (add-one i, drop-cons s i 0 h, ne_eqb _ _ e)

  pub feeds_end : length s ≤ i → line_feeds (drop i s) ≡ 0
  unfolding line_feeds
  feeds_end h = rw (drop_of_length-le s {i = i} h)

-- as the library counts them
pub feeds_count : (s : Bytes) → line_feeds s ≡ count_by (λ b. b == 10) s
unfolding line_feeds
feeds_count s = is_count_by line_feeds (λ b. b == 10) refl (λ b bs. by (b == 10) (λ t. rw t (omega arith)) (λ t. rw t)) s

-- the first bytes have no more of them
pub feeds_taken : (n : ℕ) (s : Bytes) → line_feeds (take n s) ≤ line_feeds s
unfolding line_feeds
feeds_taken zero s = omega arith
feeds_taken (suc n) [] = omega arith
feeds_taken (suc n) (b ∷ s) = by (b == 10) (λ t. rw t (omega (arith, feeds_taken n s))) (λ t. rw t (feeds_taken n s))

-- the room as a number of 64 bits
pub room_clipped : (s : Bytes) → min (room_for s) most ≡ room_in s
unfolding room_in
room_clipped s =
    by (nat_le (room_for s) most) (λ t. rw t (omega (arith, leb-true _ _ t))) (λ t. rw t (omega (arith, leb-false _ _ t)))
