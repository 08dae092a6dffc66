-- Parts between tabs, and lines, cut off one after the other.
use Rattle.std.specs.Prelude.{◌≡◌, refl, cond, List, [], ◌∷◌, ℕ, suc, ◌+◌, ◌-◌, ◌<◌, ◌≤◌, eqb, ltb, length, get_or, take, drop}
use Rattle.std.proofs.Common.{sym, ◌∙◌, add-one, arith, length-drop, take_all, length-take-le, unwrap_or, position, ◌==◌}
use Rattle.std.specs.List.{position_or_len}
use Rattle.std.proofs.lemmas.List.Recursion.{is_position_or_len}
use borrow.Author.Tests.{ltb-true, ltb-false}
use Rattle.basic_laws.specs.Cases.{by}
use Rattle.rules.specs.Replay.{line_bad}
use Rattle.rules.specs.Script.{Bytes, on_first, split, form, line_of}

-- how many bytes stand before the first c
unfoldable pub up_to : ℕ → Bytes → ℕ
up_to c [] = 0
up_to c (b ∷ bs) = let r = suc (up_to c bs) in cond (eqb b c) 0 r

-- what follows the byte at a, as code takes it
abbrev pub after : Bytes → ℕ → Bytes
after s a = take (length s - (a + 1)) (drop (a + 1) s)

-- no more than there are
pub up_to_fits : (c : ℕ) (s : Bytes) → up_to c s ≤ length s
unfolding up_to
up_to_fits c [] = omega arith
up_to_fits c (b ∷ s) = by (eqb b c) (λ e. rw e (omega arith)) (λ e. rw e (omega (arith, up_to_fits c s)))

-- the place of the first c, or the length
pub up_to_place : (c : ℕ) (s : Bytes) → unwrap_or (position (λ b. b == c) s) (length s) ≡ up_to c s
unfolding up_to
up_to_place c s =
    let e : up_to c s ≡ position_or_len (λ b. b == c) s =
    is_position_or_len (up_to c) (λ b. b == c) refl (λ b bs. by (eqb b c) (λ t. rw t) (λ t. rw t (omega arith))) s in
    by (ltb (position_or_len (λ b. b == c) s) (length s))
    (λ l. rw (l, e))
    (λ l. rw (l, e) (omega (arith, up_to_fits c s, e, ltb-false)))

-- the part that code takes is the whole rest
after_drop : (s : Bytes) (a : ℕ) → after s a ≡ drop (suc a) s
after_drop s a = rw add-one (take_all (length s - suc a) (drop (suc a) s) (simp length-drop (omega arith)))

-- without a c all is one part; at the first c a part is cut off
split_all : (c : ℕ) (s : Bytes) → up_to c s ≡ length s → split c s ≡ s ∷ []
unfolding up_to
split_all c [] e = refl
split_all c (b ∷ s) e =
    by (eqb b c)
    (λ t. absurd (omega (arith, rw t at e)))
    (λ t. rw (t, split_all c s (omega (arith, rw t at e))))

split_cut : (c : ℕ) (s : Bytes) → up_to c s < length s → split c s ≡ take (up_to c s) s ∷ split c (drop (suc (up_to c s)) s)
unfolding up_to
split_cut c [] h = absurd (omega arith)
split_cut c (b ∷ s) h = by (eqb b c) (λ t. rw t) (λ t. rw (t, split_cut c s (omega (arith, rw t at h))))

-- the same for a number that was counted
pub split_last : (c : ℕ) (s : Bytes) {a : ℕ} → a ≡ up_to c s → a ≡ length s → split c s ≡ s ∷ []
split_last c s e l = split_all c s (sym e ∙ l)

pub split_first : (c : ℕ) (s : Bytes) {a : ℕ} → a ≡ up_to c s → a < length s → split c s ≡ take a s ∷ split c (after s a)
split_first c s {a} e h = rw (after_drop s a, e) (split_cut c s (omega arith))

-- a fourth field after the letter makes the line bad
first_some : (c b : ℕ) (p q r : Bytes) (ws : List Bytes) → form c (p ∷ q ∷ r ∷ on_first b ws) ≡ line_bad
first_some c b p q r [] = refl
first_some c b p q r (w ∷ ws) = refl

pub form_long : (c : ℕ) (p q r s : Bytes) → form c (p ∷ q ∷ r ∷ split 9 s) ≡ line_bad
form_long c p q r [] = refl
form_long c p q r (b ∷ s) = by (eqb b 9) (λ t. rw t) (λ t. rw t (first_some c b p q r (split 9 s)))

-- the letter is a first field of one byte
pub letter_alone : (s : Bytes) {a : ℕ} → a ≡ up_to 9 s → a ≡ 1 → length s ≡ 1 → line_of (split 9 s) ≡ form (get_or s 0 0) []
letter_alone [] e o l = absurd (omega arith)
letter_alone (b ∷ []) e o l = rw (split_last 9 (b ∷ []) e o)
letter_alone (b ∷ c ∷ s) e o l = absurd (omega arith)

pub letter_first : (s : Bytes) {a : ℕ} → a ≡ up_to 9 s → a ≡ 1 → 1 < length s → line_of (split 9 s) ≡ form (get_or s 0 0) (split 9 (after s 1))
letter_first [] e o l = absurd (omega arith)
letter_first (b ∷ s) e o l = rw (split_first 9 (b ∷ s) (sym o ∙ e) l)

not_one : (w : Bytes) (ws : List Bytes) → (length w ≡ 1 → ⊥) → line_of (w ∷ ws) ≡ line_bad
not_one [] ws n = refl
not_one (b ∷ []) ws n = absurd (n refl)
not_one (b ∷ c ∷ w) ws n = refl

pub no_letter : (s : Bytes) {a : ℕ} → a ≡ up_to 9 s → (a ≡ 1 → ⊥) → line_of (split 9 s) ≡ line_bad
no_letter s {a} e n =
    by (ltb a (length s))
    (λ l. rw (split_first 9 s e (ltb-true _ _ l)) (not_one (take a s) (split 9 (after s a)) (λ o. n (sym (length-take-le a s (omega (arith, ltb-true))) ∙ o))))
    (λ l. let h : a ≡ length s = omega (arith, up_to_fits 9 s, ltb-false) in rw (split_last 9 s e h) (not_one s [] (λ o. n (h ∙ o))))
