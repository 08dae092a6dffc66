-- A replay into a buffer: too short a one, and one with the room.
use Rattle.std.specs.Prelude.{◌≡◌, ℕ, ◌+◌, ◌-◌, ◌^◌, ◌<◌, ◌≤◌, ◌++◌, length, take, drop, refl}
use Rattle.std.proofs.Common.{sym, ap, ◌∙◌, arith, take-append-drop, length-append, length-take, length-drop, drop-drop}
use Rattle.std.proofs.Math.Seq.{take-length, take-append-add, drop-append-add}
use Rattle.std.proofs.lemmas.List.{take-append-le, drop-append-le}
use borrow.Author.Tests.{le-leb, lt-leb}
use Rattle.rules.specs.Script.{Bytes, replay_text}
use Rattle.replay_core.specs.declared.feed.Fed.{Fed}
use Rattle.replay_core.specs.Feed.{Reading, answer_room, fed, first, reading, Feeds, ended_in, Finishes}
use Rattle.replay_core.specs.Put.{alike_on}
use Rattle.replay_core.specs.Room.{room_for, answers_in, Replayed}
use Rattle.replay_core.specs.RoomLaws.{fed_short, feeds_taken, whole}

pub into_short : (s out : Bytes) → length out < room_for s → Replayed s out out 0
unfolding answers_in
into_short s out h = record { inside = omega arith; answers = rw (lt-leb _ _ h); rest = refl }

-- fed at once into a buffer with the room, then ended behind the answers
module _ (s out mid : Bytes) {a : Reading} {f : Fed} (few : length mid < 2 ^ 63) (enough : room_for s ≤ length mid) (new : a ≡ first)
    (g : Feeds a s out mid f) where
  left_over : f.count + answer_room ≤ length mid
  left_over =
      let t = take f.taken s in
      omega (arith, enough, g.fits.many, ap length g.answers, fed_short t a, feeds_taken f.taken s)

  -- so all of the script is taken
  all_taken : fed (take f.taken s) a ≡ fed s first
  all_taken = rw (g.all left_over, take-length s, new)

  abbrev behind : Bytes
  behind = take (length mid - f.count) (drop f.count mid)

  abbrev post : Bytes
  post = drop (length mid - f.count) (drop f.count mid)

  module _ (end : Bytes) (k : ℕ) (long : length end ≡ length behind) (z : Finishes (reading f.replay) behind end k) where
    far : length end ≡ length mid - f.count
    far = omega (arith, long, length-take (length mid - f.count) (drop f.count mid), length-drop f.count mid)

    front : length (take f.count mid) ≡ f.count
    front = sym g.fits.many

    laid : length (take f.count mid ++ (end ++ post)) ≡ length mid
    laid =
        omega (
          arith,
          far,
          front,
          left_over,
          length-append (take f.count mid) (end ++ post),
          length-append end post,
          length-drop (length mid - f.count) (drop f.count mid),
          length-drop f.count mid,
        )

    text : take f.count mid ++ take k end ≡ replay_text s
    unfolding ended_in
    text = rw (g.answers, z.answers, le-leb answer_room (length end) (omega (arith, far, left_over)), g.state, all_taken) (whole s (omega (arith, enough)))

    as_it_was : drop (f.count + k) (take f.count mid ++ (end ++ post)) ≡ drop (f.count + k) out
    as_it_was =
        (rw front at (drop-append-add (take f.count mid) (end ++ post) k))
        ∙ drop-append-le k end post z.fits.there
        ∙ ap (λ l. l ++ post) z.rest
        ∙ sym (drop-append-le k behind post (omega (arith, long, z.fits.there)))
        ∙ ap (drop k) (take-append-drop (length mid - f.count) (drop f.count mid))
        ∙ drop-drop k f.count mid
        ∙ alike_on mid out {n = f.count} {m = f.count + k} (omega arith) g.rest

    pub into_room : Replayed s out (take f.count mid ++ (end ++ post)) (f.count + k)
    unfolding answers_in
    into_room =
        let both : take (f.count + k) (take f.count mid ++ (end ++ post)) ≡ take f.count mid ++ take k end =
        (rw front at (take-append-add (take f.count mid) (end ++ post) k)) ∙ rw (take-append-le k end post z.fits.there) in
        record { inside = omega (arith, laid, far, left_over, z.fits.there); answers = both ∙ text ∙ rw (laid, le-leb _ _ enough); rest = as_it_was }
