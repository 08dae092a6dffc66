-- Bytes put behind the first n of an array.
use Rattle.std.specs.Prelude.{◌≡◌, refl, replicate, zero, suc, ℕ, ◌+◌, ◌-◌, ◌≤◌, List, [], ◌∷◌, ◌++◌, length, take, drop}
use Rattle.std.proofs.Common.{sym, ap, arith, drop-drop, length-append, length-take-le, length-drop}
use borrow.Rule.Slice.PartMut.{put_mid}
use Rattle.std.proofs.lemmas.Slice.{take-put_mid, drop-put_mid}
use Rattle.rules.specs.Lists.{pad}
use Rattle.rules.specs.Script.{Bytes}
use Rattle.replay_core.specs.Feed.{answer_room}

pub record Puts (out : List ℕ) (n : ℕ) (text : List ℕ) (after : List ℕ) (r : ℕ) : Type 0 where
  pub long : length after ≡ length out
  pub more : n ≤ r
  pub few : r ≤ n + answer_room
  pub are : take r after ≡ take n out ++ text
  pub rest : drop r after ≡ drop r out

-- lists that are alike from some place on are alike from any later one on
pub alike_on : (a b : List ℕ) {n m : ℕ} → n ≤ m → drop n a ≡ drop n b → drop m a ≡ drop m b
alike_on a b {n} {m} h e =
    let k = m - n in
    let z : n + k ≡ m = omega arith in
    rw (sym z, sym (drop-drop k n a), sym (drop-drop k n b)) (ap (drop k) e)

-- a text copied behind the first n bytes
pub copied : (out text ys : Bytes) (n : ℕ) {j k : ℕ} → ys ≡ text → length text ≡ k → j ≡ k → n + k ≤ length out → k ≤ answer_room
    → Puts out n text (put_mid n j out ys) (n + k)
copied out text ys n {j} {k} e long span room few =
    rw e (record {
      long =
          omega (
            arith,
            length-append (take n out) (text ++ drop j (drop n out)),
            length-append text (drop j (drop n out)),
            length-take-le n out (omega arith),
            length-drop j (drop n out),
            length-drop n out,
          );
      more = omega arith;
      few = omega arith;
      are = take-put_mid n j out text (n + k) (omega arith) (omega arith);
      rest = drop-put_mid n j out text (n + k) (omega arith) (omega arith) (omega arith);
    })

-- a list laid out in an array of n places, the rest of which is z
pub laid_out : {A : Type 0} (n : ℕ) (z : A) (m : List A) → length m ≤ n → m ++ drop (length m) (replicate n z) ≡ pad n z m
laid_out zero z [] h = refl
laid_out zero z (x ∷ m) h = absurd (omega arith)
laid_out (suc n) z [] h = ap (λ l. z ∷ l) (laid_out n z [] (omega arith))
laid_out (suc n) z (x ∷ m) h = ap (λ l. x ∷ l) (laid_out n z m (omega arith))
