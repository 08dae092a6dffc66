-- How a part is fed byte by byte.
use Rattle.std.specs.Prelude.{◌≡◌, ℕ, zero, suc, ◌+◌, ◌<◌, ◌≤◌, List, [], ◌∷◌, ◌++◌, length, take}
use Rattle.std.specs.Prelude.{drop, ◌==◌, ◌≢◌, nat_le, slice_index, slice_index_or, slice_set}
use Rattle.std.proofs.Math.Path.{refl, subst}
use Rattle.std.proofs.Common.{sym, ap, ◌∙◌, arith, length-take-le}
use mathlib.Core.List.{append_assoc, append-nil}
use Rattle.std.proofs.Math.Numerals.{add-one}
use Rattle.std.proofs.Math.Seq.{take-suc}
use borrow.Author.Tests.{eq-eqb, ne_eqb, eqb-true, eqb-false, le-leb, lt-leb}
use Rattle.basic_laws.specs.Cases.{by}
use Rattle.rules.specs.Types.{Tx}
use Rattle.rules.specs.Replay.{Line, Desk, tx_at, turn}
use Rattle.rules.specs.Script.{Bytes, split, line_of, write}
use Rattle.replay_core.specs.declared.turn.Desk as code
use Rattle.replay_core.specs.declared.turn.Told.{Told}
use Rattle.replay_core.specs.declared.feed.Fed.{Fed}
use Rattle.replay_core.specs.Turn.{place_in, at_first, single, told, turned, joined, turn_alone}
use Rattle.replay_core.specs.Put.{Puts, alike_on}
use Rattle.replay_core.specs.Feed.{Reading, held_room, next_line, line_end, with_byte, fed_byte, fed}
use Rattle.replay_core.specs.Feed.{ended, ended_in, answer_room, reading, Counted, Feeds, Finishes}

-- two parts are one
pub fed_append : (a b : Bytes) (s : Reading)
    → fed (a ++ b) s ≡ record { state = (fed b (fed a s).state).state; answers = (fed a s).answers ++ (fed b (fed a s).state).answers }
unfolding fed
fed_append [] b s = refl
fed_append (x ∷ a) b s =
    let t = (fed_byte x s).state in
    rw (fed_append a b t, append_assoc (fed_byte x s).answers (fed a t).answers (fed b (fed a t).state).answers)

-- within a list it does not matter what a place beyond its end would give
pub within : {A : Type 0} (l : List A) (i : ℕ) (y z : A) → i < length l → slice_index_or l i y ≡ slice_index_or l i z
within [] i y z h = absurd (omega arith)
within (x ∷ l) zero y z h = refl
within (x ∷ l) (suc i) y z h = within l i y z (omega arith)

-- the line under way, turned at its place
module _ (d : Desk) (w : Bytes) (n : ℕ) {l : Line} {p m : ℕ} {x : Tx} (c : code.Desk) (t : Told) (e : l ≡ line_of (split 9 w)) (at : p ≡ place_in l)
    (its : x ≡ tx_at d p) (f : turned c t ≡ turn (at_first l) (single d.store x d.plan)) (next : m ≡ next_line n) where
  the_turn : joined d p (turned c t) ≡ turn (line_of (split 9 w)) d
  the_turn =
      ap (λ q. joined d q (turned c t)) at
      ∙ ap (joined d (place_in l)) (rw (its, at) at f)
      ∙ sym (turn_alone l d)
      ∙ ap (λ q. turn q d) e

  pub end_state : {none : Bytes} → none ≡ []
      → record { desk = record { store = c.store; txs = slice_set d.txs p c.tx; plan = c.plan }; held = none; lines = m }
      ≡ (line_end (record { desk = d; held = w; lines = n })).state
  unfolding line_end
  end_state z = λ i. record { desk = (the_turn i).desk; held = z i; lines = next i }

  pub end_puts : {out after : Bytes} {k r : ℕ} → Puts out k (write m (told t ∷ [])) after r
      → Puts out k (line_end (record { desk = d; held = w; lines = n })).answers after r
  unfolding line_end
  end_puts {out} {after} {k} {r} put = subst (λ (text : Bytes). Puts out k text after r) (λ i. write (next i) ((the_turn i).out ∷ [])) put

-- the first i bytes of a part are fed, each with room for an answer, and the first n bytes of out are their answers
pub record Goes (s : Reading) (part out after : Bytes) (i n : ℕ) (now : Reading) : Type 0 where
  pub state : now ≡ (fed (take i part) s).state
  pub answers : take n after ≡ (fed (take i part) s).answers
  pub rest : drop n after ≡ drop n out
  pub room : (j : ℕ) → j < i → length (fed (take j part) s).answers + answer_room ≤ length out

pub goes_none : (s : Reading) (part out : Bytes) → Goes s part out out 0 0 s
unfolding fed
goes_none s part out = record { state = refl; answers = refl; rest = refl; room = λ j h. absurd (omega arith) }

-- one byte more, with room for its answer
module _ (s : Reading) (part : Bytes) (i : ℕ) (h : i < length part) where
  one_more : fed (take (i + 1) part) s ≡ record {
    state = (fed_byte (slice_index part i) (fed (take i part) s).state).state;
    answers = (fed (take i part) s).answers ++ (fed_byte (slice_index part i) (fed (take i part) s).state).answers;
  }
  unfolding fed
  one_more =
      rw (
        add-one,
        take-suc part i 0 h,
        fed_append (take i part) (slice_index part i ∷ []) s,
        append-nil (fed_byte (slice_index part i) (fed (take i part) s).state).answers,
      )

  module _ (out : Bytes) {after : Bytes} {n : ℕ} {now : Reading} (g : Goes s part out after i n now) (long : length after ≡ length out)
      (room : n + answer_room ≤ length after) where
    more_room : (j : ℕ) → j < i + 1 → length (fed (take j part) s).answers + answer_room ≤ length out
    more_room j k =
        by (j == i)
        (λ t. rw (eqb-true j i t) (omega (arith, ap length g.answers, length-take-le n after (omega arith))))
        (λ t. g.room j (omega (arith, eqb-false j i t)))

    -- a line ends
    pub goes_line : {last : Bytes} {r : ℕ} {new : Reading} → slice_index part i ≡ 10 → new ≡ (line_end now).state → Puts after n (line_end now).answers last r
        → Goes s part out last (i + 1) r new
    unfolding fed_byte
    goes_line b st put =
        let q = one_more in
        record {
          state = rw (q, eq-eqb _ _ b, ← g.state) st;
          answers = rw (q, eq-eqb _ _ b, ← g.state, ← g.answers) put.are;
          rest = put.rest ∙ alike_on after out put.more g.rest;
          room = more_room;
        }

    -- any other byte goes onto it
    pub goes_byte : {new : Reading} → (slice_index part i ≢ 10) → new ≡ with_byte (slice_index part i) now → Goes s part out after (i + 1) n new
    unfolding fed_byte
    goes_byte e st =
        let q = one_more in
        record {
          state = rw (q, ne_eqb _ _ e, ← g.state) st;
          answers = rw (q, ne_eqb _ _ e, append-nil (fed (take i part) s).answers) g.answers;
          rest = g.rest;
          room = more_room;
        }

-- any other byte, as the line under way takes it
pub held_more : (s : Reading) (b : ℕ) {more : Bytes} → more ≡ take held_room (s.held ++ b ∷ [])
    → record { desk = s.desk; held = more; lines = s.lines } ≡ with_byte b s
unfolding with_byte
held_more s b e = λ j. record { desk = s.desk; held = e j; lines = s.lines }

pub counted : {n : ℕ} {out : Bytes} → n ≤ length out → Counted n out
counted {n} {out} h = record { there = h; many = sym (length-take-le n out h) }

-- where the loop ends
pub feeds : {s : Reading} {part out after : Bytes} (f : Fed) → f.taken ≤ length part → f.count ≤ length after → length after ≡ length out
    → Goes s part out after f.taken f.count (reading f.replay) → (f.count + answer_room ≤ length after → f.taken ≡ length part)
    → Feeds s part out after f
feeds f w h long g all =
    record { within = w; fits = counted h; state = g.state; answers = g.answers; rest = g.rest; room = λ i k. rw long (g.room i k); all = all }

-- with room for an answer a byte is taken
pub takes_some : {s : Reading} {part out after : Bytes} {f : Fed} → Feeds s part out after f → 0 < length part → answer_room ≤ length after → 0 < f.taken
unfolding fed
takes_some {s} {part} {f = f} F some room =
    by (f.taken == 0)
    (λ t. let z = eqb-true f.taken 0 t in
    omega (arith, F.all (omega (arith, F.fits.many, ap length F.answers, ap (λ n. length (fed (take n part) s).answers) z)), z))
    (λ t. omega (arith, eqb-false f.taken 0 t))

-- the end of a script: nothing is left, or a last line is
ended_none : (s : Reading) → length s.held ≡ 0 → [] ≡ ended s
unfolding ended
ended_none s e = rw (eq-eqb _ _ e)

ended_some : (s : Reading) → (length s.held ≢ 0) → (line_end s).answers ≡ ended s
unfolding ended
ended_some s some = rw (ne_eqb _ _ some)

module _ (s : Reading) (out : Bytes) where
  pub finish_none : length s.held ≡ 0 → Finishes s out out 0
  unfolding ended_in
  finish_none e = record { fits = counted (omega arith); answers = by (nat_le answer_room (length out)) (λ t. rw t (ended_none s e)) (λ t. rw t); rest = refl }

  pub finish_short : length out < answer_room → Finishes s out out 0
  unfolding ended_in
  finish_short h = record { fits = counted (omega arith); answers = rw (lt-leb _ _ h); rest = refl }

  pub finish_line : (after : Bytes) (n : ℕ) → (length s.held ≢ 0) → answer_room ≤ length out → Puts out 0 (line_end s).answers after n
      → Finishes s out after n
  unfolding ended_in
  finish_line after n some room put =
      record {
        fits = counted (omega (arith, put.long, put.few));
        answers = rw (put.long, le-leb _ _ room) (put.are ∙ ended_some s some);
        rest = put.rest;
      }
