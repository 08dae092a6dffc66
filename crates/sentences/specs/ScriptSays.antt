-- "Replay": which bytes are a line of which form, and which lines a script has.
use Rattle.std.specs.Prelude.{◌≡◌, refl, Bool, true, false, not, ◌&&◌, List, [], ◌∷◌, ◌++◌, map, ◌↔◌}
use Rattle.std.specs.Prelude.{◌⊎◌, ℕ, ◌+◌, ◌-◌, ◌*◌, ◌^◌, ◌<◌, ◌≤◌, eqb, ltb, leb, length, get_or, drop}
use Rattle.std.proofs.Common.{sym, ap, subst, ◌∙◌, inl, inr, pow-suc, arith, ltb-true, leb-true, eqb-true, lt-ltb, le-leb, ne_eqb}
use Rattle.std.proofs.lemmas.Bool.{eqb-false, not-true}
use Rattle.records.specs.Limits.{key_end, place_limit}
use Rattle.rules.specs.Lists.{all, memb}
use Rattle.rules.specs.Types.{Value, Absent, Key, Uncut, After}
use Rattle.rules.specs.Replay.{Line, line_b, line_r, line_w, line_l, line_k, line_a, line_c, line_f, line_v, line_bad}
use Rattle.rules.specs.Script.{on_first, split, lines_in, is_digit, value_of, is_number, number, place, is, value, mode, letter, form, line_of, parse}
use Rattle.basic_laws.specs.Cases.{by, clash, and_true, or_false, or_neither}
use Rattle.basic_laws.specs.Members.{all_at, at_all, mem_at}
use Rattle.statements.specs.ReplayWords.{Bytes, worth, Decimal, Number, Place, KeyOr, Mode, Letter, tabbed, IsForm, Means, LinesOf, Each, IsScript}

-- NUMBERS

-- digits read from the left are worth their powers of ten
value_worth : (v : ℕ) (w : Bytes) → value_of v w ≡ v * 10 ^ length w + worth w
value_worth v [] = omega arith
value_worth v (b ∷ w) = value_worth (v * 10 + (b - 48)) w ∙ rw (pow-suc 10 (length w)) (omega arith)

worth_value : (w : Bytes) → value_of 0 w ≡ worth w
worth_value w = value_worth 0 w ∙ omega arith

digit_says : (b : ℕ) → (is_digit b ≡ true) ↔ ((48 ≤ b) × (b ≤ 57))
digit_says b = (
  λ d. let t = and_true (leb 48 b) (leb b 57) d in (leb-true 48 b t.0, leb-true b 57 t.1),
  λ d. rw (le-leb 48 b d.0, le-leb b 57 d.1),
)

all_digits : (w : Bytes) → ((j : ℕ) → j < length w → (48 ≤ get_or w j 0) × (get_or w j 0 ≤ 57)) → all is_digit w ≡ true
all_digits w h = at_all is_digit w 0 (λ j l. (digit_says (get_or w j 0)).1 (h j l))

digits_all : (w : Bytes) → all is_digit w ≡ true → (j : ℕ) → j < length w → (48 ≤ get_or w j 0) × (get_or w j 0 ≤ 57)
digits_all w a j l = (digit_says (get_or w j 0)).0 (all_at is_digit w a j 0 l)

-- "Numbers are decimal, without leading zeros, at most 32 bits."
is_number_law : (w : Bytes) → is_number w ≡ true → Number (value_of 0 w) w
is_number_law [] e = clash {b = false} e refl
is_number_law (b ∷ []) e =
    let d = (digit_says b).0 e in (
      record {
        some = omega arith;
        digits = digits_all (b ∷ []) (rw e);
        unpadded = λ z. refl;
        value = sym (worth_value (b ∷ []));
      },
      omega arith,
    )
is_number_law (b ∷ c ∷ w) e =
    let t = and_true (all is_digit (b ∷ c ∷ w) && not (eqb b 48)) (ltb (value_of 0 (b ∷ c ∷ w)) key_end) e in
    let u = and_true (all is_digit (b ∷ c ∷ w)) (not (eqb b 48)) t.0 in (
      record {
        some = omega arith;
        digits = digits_all (b ∷ c ∷ w) u.0;
        unpadded = λ z. absurd (eqb-false b 48 (not-true _ u.1) z);
        value = sym (worth_value (b ∷ c ∷ w));
      },
      ltb-true _ _ t.1,
    )

number_is : (n : ℕ) (w : Bytes) → Number n w → (is_number w ≡ true) × (value_of 0 w ≡ n)
number_is n [] h = absurd (omega (arith, h.0.some))
number_is n (b ∷ []) h = ((digit_says b).1 (h.0.digits 0 (omega arith)), worth_value (b ∷ []) ∙ h.0.value)
number_is n (b ∷ c ∷ w) h =
    let v : value_of 0 (b ∷ c ∷ w) ≡ n = worth_value (b ∷ c ∷ w) ∙ h.0.value in
    let z : b ≡ 48 → ⊥ = λ z. omega (arith, h.0.unpadded z) in
    (rw (all_digits (b ∷ c ∷ w) h.0.digits, ne_eqb b 48 z, lt-ltb (value_of 0 (b ∷ c ∷ w)) key_end (omega (arith, h.1))), v)

-- FIELDS

-- a field that has to be a number, a place, a value, a mode, a letter: it is one, and the line goes on with it, or the line is bad
is_byte : (b : ℕ) (w : Bytes) → is b w ≡ true → w ≡ b ∷ []
is_byte b [] e = clash {b = false} e refl
is_byte b (c ∷ []) e = rw (eqb-true c b e)
is_byte b (c ∷ d ∷ w) e = clash {b = false} e refl

module _ (l : Line) {A : Type 0} where
  number_out : (w : Bytes) (f : ℕ → Line) → number w f ≡ l → ((n : ℕ) → Number n w → f n ≡ l → A ⊎ (l ≡ line_bad)) → A ⊎ (l ≡ line_bad)
  number_out w f e k = by (is_number w) (λ t. k (value_of 0 w) (is_number_law w t) (rw t at e)) (λ t. inr (sym (rw t at e)))

  place_out : (w : Bytes) (f : ℕ → Line) → place w f ≡ l → ((i : ℕ) → Place i w → f i ≡ l → A ⊎ (l ≡ line_bad)) → A ⊎ (l ≡ line_bad)
  place_out w f e k =
      by (is_number w && ltb (value_of 0 w) place_limit)
      (λ t. let d = and_true (is_number w) (ltb (value_of 0 w) place_limit) t in
      k (value_of 0 w) ((is_number_law w d.0).0, ltb-true (value_of 0 w) place_limit d.1) (rw t at e))
      (λ t. inr (sym (rw t at e)))

  value_out : (w : Bytes) (f : Value → Line) → value w f ≡ l → ((v : Value) → KeyOr v w → f v ≡ l → A ⊎ (l ≡ line_bad)) → A ⊎ (l ≡ line_bad)
  value_out w f e k =
      by (is 45 w)
      (λ t. k Absent (is_byte 45 w t) (rw t at e))
      (λ t. number_out w (λ n. f (Key n)) (rw t at e) (λ n h g. k (Key n) h g))

  mode_out : (w : Bytes) (f : Bool → Line) → mode w f ≡ l → ((m : Bool) → Mode m w → f m ≡ l → A ⊎ (l ≡ line_bad)) → A ⊎ (l ≡ line_bad)
  mode_out w f e k =
      by (is 117 w)
      (λ t. k false (is_byte 117 w t) (rw t at e))
      (λ t. by (is 108 w) (λ u. k true (is_byte 108 w u) (rw (t, u) at e)) (λ u. inr (sym (rw (t, u) at e))))

  letter_out : (w : Bytes) (f : ℕ → Line) → letter w f ≡ l → ((b : ℕ) → Letter b w → f b ≡ l → A ⊎ (l ≡ line_bad)) → A ⊎ (l ≡ line_bad)
  letter_out [] f e k = inr (sym e)
  letter_out (b ∷ []) f e k =
      by (leb 65 b && leb b 90)
      (λ t. let d = and_true (leb 65 b) (leb b 90) t in k b (refl, leb-true _ _ d.0, leb-true _ _ d.1) (rw t at e))
      (λ t. inr (sym (rw t at e)))
  letter_out (b ∷ c ∷ w) f e k = inr (sym e)

-- the way back
number_back : (n : ℕ) (w : Bytes) (f : ℕ → Line) → Number n w → number w f ≡ f n
number_back n w f h = let r = number_is n w h in rw (r.0, r.1)

place_back : (i : ℕ) (w : Bytes) (f : ℕ → Line) → Place i w → place w f ≡ f i
place_back i w f h =
    let r = number_is i w (h.0, omega (arith, h.1)) in
    rw (r.0, r.1, lt-ltb i place_limit (omega (arith, h.1)))

no_dash : (n : ℕ) (w : Bytes) → Decimal n w → is 45 w ≡ false
no_dash n [] h = refl
no_dash n (b ∷ []) h = ne_eqb b 45 (λ z. omega (arith, h.digits 0 (omega arith)))
no_dash n (b ∷ c ∷ w) h = refl

value_back : (v : Value) (w : Bytes) (f : Value → Line) → KeyOr v w → value w f ≡ f v
value_back Absent w f h = rw h
value_back (Key k) w f h = rw (no_dash k w h.0) (number_back k w (λ n. f (Key n)) h)

mode_back : (m : Bool) (w : Bytes) (f : Bool → Line) → Mode m w → mode w f ≡ f m
mode_back false w f h = rw h
mode_back true w f h = rw h

letter_back : (b : ℕ) (w : Bytes) (f : ℕ → Line) → Letter b w → letter w f ≡ f b
letter_back b w f h = rw (h.0, le-leb 65 b h.1, le-leb b 90 h.2)

-- TABS

-- what was split, each part after a tab
first_after : (b : ℕ) (ws : List Bytes) (bs : Bytes) → tabbed ws ≡ 9 ∷ bs → tabbed (on_first b ws) ≡ 9 ∷ b ∷ bs
first_after b [] bs e = absurd (omega (arith, ap length e))
first_after b (w ∷ ws) bs e = ap (λ r. 9 ∷ b ∷ r) (ap (drop 1) e)

tabbed_split : (w : Bytes) → tabbed (split 9 w) ≡ 9 ∷ w
tabbed_split [] = refl
tabbed_split (b ∷ w) =
    by (eqb b 9)
    (λ t. rw t (ap (λ r. 9 ∷ r) (tabbed_split w) ∙ ap (λ c. 9 ∷ c ∷ w) (sym (eqb-true b 9 t))))
    (λ t. rw t (first_after b (split 9 w) w (tabbed_split w)))

-- and back, where no part has a tab in it
abbrev NoTabs : List Bytes → Type 0
NoTabs [] = Unit
NoTabs (w ∷ ws) = (memb 9 w ≡ false) × NoTabs ws

pub split_on : (p s : Bytes) (ws : List Bytes) → memb 9 p ≡ false → split 9 s ≡ [] ∷ ws → split 9 (p ++ s) ≡ p ∷ ws
split_on [] s ws n e = e
split_on (b ∷ p) s ws n e =
    let d = or_false (eqb 9 b) (memb 9 p) n in
    rw (ne_eqb b 9 (λ z. eqb-false 9 b d.0 (sym z)), split_on p s ws d.1 e)

split_tabbed : (p : Bytes) (ws : List Bytes) → NoTabs (p ∷ ws) → split 9 (p ++ tabbed ws) ≡ p ∷ ws
split_tabbed p [] h = split_on p [] [] h.0 refl
split_tabbed p (w ∷ ws) h = split_on p (tabbed (w ∷ ws)) (w ∷ ws) h.0 (ap (λ r. [] ∷ r) (split_tabbed w ws h.1))

decimal_tab : (n : ℕ) (w : Bytes) → Decimal n w → memb 9 w ≡ false
decimal_tab n w h = by (memb 9 w) (λ t. let m = mem_at w 9 t in absurd (omega (arith, h.digits m.0 m.1, m.2))) (λ t. t)

value_tab : (v : Value) (w : Bytes) → KeyOr v w → memb 9 w ≡ false
value_tab Absent w h = rw h
value_tab (Key k) w h = decimal_tab k w h.0

mode_tab : (m : Bool) (w : Bytes) → Mode m w → memb 9 w ≡ false
mode_tab false w h = rw h
mode_tab true w h = rw h

letter_tab : (b : ℕ) (w : Bytes) → Letter b w → memb 9 w ≡ false
letter_tab b w h = rw (h.0, ne_eqb 9 b (λ z. omega (arith, h.1)))

-- LINES

-- a line of a form is read as that line
module _ (w : Bytes) where
  -- the letter c and the fields after it are what the line is taken apart into
  taken : (c : ℕ) (ws : List Bytes) → w ≡ c ∷ tabbed ws → NoTabs ((c ∷ []) ∷ ws) → line_of (split 9 w) ≡ form c ws
  taken c ws e h = ap (λ v. line_of (split 9 v)) e ∙ ap line_of (split_tabbed (c ∷ []) ws h)

  form_read : (l : Line) → IsForm l w → line_of (split 9 w) ≡ l
  form_read (line_b i) h = taken 66 (h.0 ∷ []) h.1 (refl, (decimal_tab i _ h.2.0, tt)) ∙ place_back i _ line_b h.2
  form_read (line_r i r) h =
      taken 82 (h.0 ∷ h.1 ∷ []) h.2 (refl, (decimal_tab i _ h.3.0, (decimal_tab r _ h.4.0, tt)))
      ∙ place_back i _ (λ i. number h.1 (line_r i)) h.3 ∙ number_back r _ (line_r i) h.4
  form_read (line_w i r v) h =
      taken 87 (h.0 ∷ h.1 ∷ h.2 ∷ []) h.3 (refl, (decimal_tab i _ h.4.0, (decimal_tab r _ h.5.0, (value_tab v _ h.6, tt))))
      ∙ place_back i _ (λ i. number h.1 (λ n. value h.2 (line_w i n))) h.4
      ∙ number_back r _ (λ n. value h.2 (line_w i n)) h.5
      ∙ value_back v _ (line_w i r) h.6
  form_read (line_l i k) h =
      taken 76 (h.0 ∷ h.1 ∷ []) h.2 (refl, (decimal_tab i _ h.3.0, (decimal_tab k _ h.4.0, tt)))
      ∙ place_back i _ (λ i. number h.1 (line_l i)) h.3 ∙ number_back k _ (line_l i) h.4
  form_read (line_k i r) h =
      taken 75 (h.0 ∷ h.1 ∷ []) h.2 (refl, (decimal_tab i _ h.3.0, (decimal_tab r _ h.4.0, tt)))
      ∙ place_back i _ (λ i. number h.1 (line_k i)) h.3 ∙ number_back r _ (line_k i) h.4
  form_read (line_a i) h = taken 65 (h.0 ∷ []) h.1 (refl, (decimal_tab i _ h.2.0, tt)) ∙ place_back i _ line_a h.2
  form_read (line_c i m Uncut) h =
      taken 67 (h.0 ∷ h.1 ∷ []) h.2 (refl, (decimal_tab i _ h.3.0, (mode_tab m _ h.4, tt)))
      ∙ place_back i _ (λ i. mode h.1 (λ m. line_c i m Uncut)) h.3 ∙ mode_back m _ (λ m. line_c i m Uncut) h.4
  form_read (line_c i m (After n)) h =
      taken 67 (h.0 ∷ h.1 ∷ h.2 ∷ []) h.3 (refl, (decimal_tab i _ h.4.0, (mode_tab m _ h.5, (decimal_tab n _ h.6.0, tt))))
      ∙ place_back i _ (λ i. mode h.1 (λ m. number h.2 (λ n. line_c i m (After n)))) h.4
      ∙ mode_back m _ (λ m. number h.2 (λ n. line_c i m (After n))) h.5
      ∙ number_back n _ (λ n. line_c i m (After n)) h.6
  form_read (line_f n b k) h =
      taken 70 (h.0 ∷ h.1 ∷ h.2 ∷ []) h.3 (refl, (decimal_tab n _ h.4.0, (letter_tab b _ h.5, (decimal_tab k _ h.6.0, tt))))
      ∙ number_back n _ (λ n. letter h.1 (λ b. number h.2 (line_f n b))) h.4
      ∙ letter_back b _ (λ b. number h.2 (line_f n b)) h.5
      ∙ number_back k _ (line_f n b) h.6
  form_read line_v h = rw h
  form_read line_bad h = absurd h

-- a line that is read is of that line's form, or it is bad: by the number of its fields
module _ (w : Bytes) (l : Line) where
  abbrev Read : Type 0
  Read = IsForm l w ⊎ (l ≡ line_bad)

  found : {m : Line} → m ≡ l → IsForm m w → Read
  found g h = inl (subst (λ m. IsForm m w) g h)

  module _ (c : ℕ) where
    -- the letter is b
    led : (b : ℕ) {r : Bytes} → w ≡ c ∷ r → eqb c b ≡ true → w ≡ b ∷ r
    led b {r} e t = e ∙ ap (λ x. x ∷ r) (eqb-true c b t)

    no_field : w ≡ c ∷ [] → form c [] ≡ l → Read
    no_field s e = by (eqb c 86) (λ t. found {m = line_v} (rw t at e) (led 86 s t)) (λ t. inr (sym (rw t at e)))

    one_field : (p : Bytes) → w ≡ c ∷ tabbed (p ∷ []) → form c (p ∷ []) ≡ l → Read
    one_field p s e =
        by (eqb c 66) (λ t. place_out l p line_b (rw t at e) λ i h g. found {m = line_b i} g (p, led 66 s t, h))
        (λ t. by (eqb c 65) (λ u. place_out l p line_a (rw (t, u) at e) λ i h g. found {m = line_a i} g (p, led 65 s u, h))
        (λ u. inr (sym (rw (t, u) at e))))

    two_fields : (p q : Bytes) → w ≡ c ∷ tabbed (p ∷ q ∷ []) → form c (p ∷ q ∷ []) ≡ l → Read
    two_fields p q s e =
        by (eqb c 82)
        (λ t. place_out l p (λ i. number q (line_r i)) (rw t at e) λ i h g.
        number_out l q (line_r i) g λ n j d. found {m = line_r i n} d (p, q, led 82 s t, h, j))
        (λ t. by (eqb c 76)
        (λ u. place_out l p (λ i. number q (line_l i)) (rw (t, u) at e) λ i h g.
        number_out l q (line_l i) g λ n j d. found {m = line_l i n} d (p, q, led 76 s u, h, j))
        (λ u. by (eqb c 75)
        (λ v. place_out l p (λ i. number q (line_k i)) (rw (t, u, v) at e) λ i h g.
        number_out l q (line_k i) g λ n j d. found {m = line_k i n} d (p, q, led 75 s v, h, j))
        (λ v. by (eqb c 67)
        (λ z. place_out l p (λ i. mode q (λ m. line_c i m Uncut)) (rw (t, u, v, z) at e) λ i h g.
        mode_out l q (λ m. line_c i m Uncut) g λ m j d. found {m = line_c i m Uncut} d (p, q, led 67 s z, h, j))
        (λ z. inr (sym (rw (t, u, v, z) at e))))))

    three_fields : (p q r : Bytes) → w ≡ c ∷ tabbed (p ∷ q ∷ r ∷ []) → form c (p ∷ q ∷ r ∷ []) ≡ l → Read
    three_fields p q r s e =
        by (eqb c 87)
        (λ t. place_out l p (λ i. number q (λ n. value r (line_w i n))) (rw t at e) λ i h g.
        number_out l q (λ n. value r (line_w i n)) g λ n j d.
        value_out l r (line_w i n) d λ v o f. found {m = line_w i n v} f (p, q, r, led 87 s t, h, j, o))
        (λ t. by (eqb c 67)
        (λ u. place_out l p (λ i. mode q (λ m. number r (λ n. line_c i m (After n)))) (rw (t, u) at e) λ i h g.
        mode_out l q (λ m. number r (λ n. line_c i m (After n))) g λ m j d.
        number_out l r (λ n. line_c i m (After n)) d λ n o f. found {m = line_c i m (After n)} f (p, q, r, led 67 s u, h, j, o))
        (λ u. by (eqb c 70)
        (λ v. number_out l p (λ n. letter q (λ b. number r (line_f n b))) (rw (t, u, v) at e) λ n h g.
        letter_out l q (λ b. number r (line_f n b)) g λ b j d.
        number_out l r (line_f n b) d λ k o f. found {m = line_f n b k} f (p, q, r, led 70 s v, h, j, o))
        (λ v. inr (sym (rw (t, u, v) at e)))))

  read_form : (ws : List Bytes) → tabbed ws ≡ 9 ∷ w → line_of ws ≡ l → Read
  read_form [] s e = inr (sym e)
  read_form ([] ∷ ws) s e = inr (sym e)
  read_form ((c ∷ []) ∷ []) s e = no_field c (sym (ap (drop 1) s)) e
  read_form ((c ∷ []) ∷ p ∷ []) s e = one_field c p (sym (ap (drop 1) s)) e
  read_form ((c ∷ []) ∷ p ∷ q ∷ []) s e = two_fields c p q (sym (ap (drop 1) s)) e
  read_form ((c ∷ []) ∷ p ∷ q ∷ r ∷ []) s e = three_fields c p q r (sym (ap (drop 1) s)) e
  read_form ((c ∷ []) ∷ p ∷ q ∷ r ∷ t ∷ ws) s e = inr (sym e)
  read_form ((c ∷ d ∷ v) ∷ ws) s e = inr (sym e)

-- each line's bytes mean one line, the one that is read: of a form, or bad exactly if they are of none
pub line_says : (w : Bytes) (l : Line) → (line_of (split 9 w) ≡ l) ↔ Means l w
line_says w l = (
  λ e. elim (read_form w l (split 9 w) (tabbed_split w) e) [
    | inl h ↦ inl h
    | inr b ↦ inr (b, λ m h. subst (λ k. IsForm k w) (sym (form_read w m h) ∙ e ∙ b) h)
  ],
  λ h. elim h [
    | inl f ↦ form_read w l f
    | inr n ↦ elim (read_form w (line_of (split 9 w)) (split 9 w) (tabbed_split w) refl) [
      | inl f ↦ absurd (n.1 (line_of (split 9 w)) f)
      | inr b ↦ b ∙ sym n.0
    ]
  ],
)

-- SCRIPTS

-- a line before its feed, and a last line
pub lines_fed : (w bs : Bytes) → memb 10 w ≡ false → lines_in (w ++ 10 ∷ bs) ≡ w ∷ lines_in bs
lines_fed [] bs n = refl
lines_fed (b ∷ w) bs n =
    let d = or_false (eqb 10 b) (memb 10 w) n in
    rw (ne_eqb b 10 (λ z. eqb-false 10 b d.0 (sym z)), lines_fed w bs d.1)

pub lines_last : (b : ℕ) (w : Bytes) → memb 10 (b ∷ w) ≡ false → lines_in (b ∷ w) ≡ (b ∷ w) ∷ []
lines_last b [] n = let d = or_false (eqb 10 b) false n in rw (ne_eqb b 10 (λ z. eqb-false 10 b d.0 (sym z)))
lines_last b (c ∷ w) n =
    let d = or_false (eqb 10 b) (memb 10 (c ∷ w)) n in
    rw (ne_eqb b 10 (λ z. eqb-false 10 b d.0 (sym z)), lines_last c w d.1)

-- what is taken apart are the script's lines
first_line : (b : ℕ) (bs : Bytes) (ws : List Bytes) → eqb b 10 ≡ false → LinesOf bs ws → LinesOf (b ∷ bs) (on_first b ws)
first_line b bs [] t h = (or_neither (eqb 10 b) false (ne_eqb 10 b (λ z. eqb-false b 10 t (sym z))) refl, inr (ap (λ r. b ∷ r) h, omega arith, refl))
first_line b bs (w ∷ ws) t h = (
  or_neither (eqb 10 b) (memb 10 w) (ne_eqb 10 b (λ z. eqb-false b 10 t (sym z))) h.0,
  elim h.1 [
    | inl f ↦ inl (f.0, ap (λ r. b ∷ r) f.1, f.2)
    | inr f ↦ inr (ap (λ r. b ∷ r) f.0, omega arith, f.2)
  ],
)

are_lines : (bs : Bytes) → LinesOf bs (lines_in bs)
are_lines [] = refl
are_lines (b ∷ bs) =
    by (eqb b 10)
    (λ t. rw t (refl, inl (bs, ap (λ c. c ∷ bs) (eqb-true b 10 t), are_lines bs)))
    (λ t. rw t (first_line b bs (lines_in bs) t (are_lines bs)))

lines_are : (bs : Bytes) (ws : List Bytes) → LinesOf bs ws → lines_in bs ≡ ws
lines_are bs [] h = rw h
lines_are bs (w ∷ ws) h = elim h.1 [
  | inl f ↦ ap lines_in f.1 ∙ lines_fed w f.0 h.0 ∙ ap (λ r. w ∷ r) (lines_are f.0 ws f.2)
  | inr f ↦ ap lines_in f.0 ∙ last w f.1 h.0 ∙ ap (λ r. w ∷ r) (sym f.2)
]
  where
    last : (w : Bytes) → 0 < length w → memb 10 w ≡ false → lines_in w ≡ w ∷ []
    last [] s n = absurd (omega arith)
    last (b ∷ w) s n = lines_last b w n

-- each line as it is read
each_read : (ws : List Bytes) → Each (map (λ w. line_of (split 9 w)) ws) ws
each_read [] = tt
each_read (w ∷ ws) = ((line_says w (line_of (split 9 w))).0 refl, each_read ws)

read_each : (ls : List Line) (ws : List Bytes) → Each ls ws → map (λ w. line_of (split 9 w)) ws ≡ ls
read_each [] [] h = refl
read_each [] (w ∷ ws) h = absurd h
read_each (l ∷ ls) [] h = absurd h
read_each (l ∷ ls) (w ∷ ws) h = λ i. (line_says w l).1 h.0 i ∷ read_each ls ws h.1 i

-- "Tab-separated lines": every script means one list of lines, the one that is read
pub script_says : (bs : Bytes) (ls : List Line) → (parse bs ≡ ls) ↔ IsScript ls bs
unfolding parse
script_says bs ls = (
  λ e. subst (λ ls. IsScript ls bs) e (lines_in bs, are_lines bs, each_read (lines_in bs)),
  λ h. ap (map (λ w. line_of (split 9 w))) (lines_are bs h.0 h.1) ∙ read_each ls h.0 h.2,
)
