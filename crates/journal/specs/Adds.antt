-- Puts added to a journal, one block after the other, whatever it held before.
use Rattle.std.specs.Prelude.{◌≡◌, List, [], ◌∷◌, ◌++◌, ℕ, ◌+◌, ◌-◌, ◌<◌, ◌≤◌, length, take}
use Rattle.std.proofs.Common.{sym, ap, ◌∙◌, append_assoc, append-nil, arith, zero, suc, length-append, length-take, take_all}
use Rattle.std.proofs.Math.Seq.{take-nil}
use Rattle.rules.specs.Puts.{Put}
use Rattle.journal.specs.Journal.{put_limit}

-- a journal j with these puts behind it, as many of them as there is room for
unfoldable pub filled : List Put → List Put → List Put
filled j ps = j ++ take (put_limit - length j) ps

pub record Adds (j ps after : List Put) : Type 0 where
  pub are : after ≡ filled j ps

-- the puts that a full journal leaves out
take_then : (n : ℕ) (ps qs : List Put) → take n (ps ++ qs) ≡ take n ps ++ take (n - length ps) qs
take_then n [] qs = let z : n - 0 ≡ n = omega arith in rw (z, take-nil {A = Put} n)
take_then zero (p ∷ ps) qs = let z : 0 - length (p ∷ ps) ≡ 0 = omega arith in rw z
take_then (suc n) (p ∷ ps) qs = let z : suc n - length (p ∷ ps) ≡ n - length ps = omega arith in rw (z, take_then n ps qs)

pub adds_none : (j : List Put) → Adds j [] j
unfolding filled
adds_none j = record { are = rw (take-nil {A = Put} (put_limit - length j)) (sym (append-nil j)) }

pub adds_then : {j j' after ps qs : List Put} → Adds j ps j' → Adds j' qs after → Adds j (ps ++ qs) after
unfolding filled
adds_then {j} {j'} {after} {ps} {qs} a b =
    let n = put_limit - length j in
    let long : length j' ≡ length j + length (take n ps) = ap length a.are ∙ length-append j (take n ps) in
    let some = length-take n ps in
    let rest : take (put_limit - length j') qs ≡ take (n - length ps) qs = ap (λ (k : ℕ). take k qs) (omega arith) in
    record { are = b.are ∙ rw (rest, a.are, take_then n ps qs) (append_assoc j (take n ps) (take (n - length ps) qs)) }

-- all that a journal holds that was empty
pub adds_all : {after ps : List Put} → Adds [] ps after → length ps ≤ put_limit → after ≡ ps
unfolding filled
adds_all {after} {ps} a l = a.are ∙ take_all put_limit ps l

-- one put more where there is room, and where there is none
pub adds_full : {j ps : List Put} → put_limit ≤ length j → Adds j ps j
unfolding filled
adds_full {j} {ps} l = let z : put_limit - length j ≡ 0 = omega arith in record { are = rw z (sym (append-nil j)) }

pub adds_room : {j after : List Put} {p : Put} → length j < put_limit → after ≡ j ++ p ∷ [] → Adds j (p ∷ []) after
unfolding filled
adds_room {j} {after} {p} l e =
    record { are = e ∙ ap (λ (ps : List Put). j ++ ps) (sym (take_all (put_limit - length j) (p ∷ []) (omega arith))) }
