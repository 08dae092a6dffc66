-- Postings that rise, are told by the heads and are as many as the heads with a value are exactly those of the heads.
use Rattle.std.specs.Prelude.{◌≡◌, refl, Bool, true, false, cond, ◌&&◌, ◌||◌, List, [], ◌∷◌, ℕ, suc, ◌+◌, ◌-◌, ◌<◌, ◌≤◌, length, get_or, eqb, ltb, leb}
use Rattle.std.proofs.Common.{sym, ap, ◌∙◌, arith, eq-eqb, ne_eqb, eqb-true, ltb-true, ltb-false, lt-ltb, le-ltb, le-leb}
use Rattle.std.proofs.Math.Bool.{and-false as and_no, or-false as or_no}
use Rattle.std.proofs.lemmas.Bool.{eqb-false}
use Rattle.records.specs.Limits.{rows}
use Rattle.rules.specs.Lists.{all, those, memb, same, rising, into}
use Rattle.basic_laws.specs.Cases.{by, clash, iff, or_true, and_true, and_both, mem_here, mem_there}
use Rattle.basic_laws.specs.Members.{all_mem, mem_all}
use Rattle.basic_laws.specs.Rising.{rising_from, mem_into, length_into, same_equal, equal_same}
use Rattle.basic_laws.specs.HeadPostings.{heads_rising}
use Rattle.rules.specs.Store.{posting, key_of, row_of}
use Rattle.rules.specs.Admitted.{head_postings}

-- a rising list whose members another rising list has is no longer, and is that list if it is as long
abbrev Within : List ℕ → List ℕ → Type 0
Within a b = (length a ≤ length b) × (length a ≡ length b → a ≡ b)

module _ (lo x y : ℕ) (a b : List ℕ) (p : rising lo (x ∷ a) ≡ true) (q : rising lo (y ∷ b) ≡ true)
    (s : (c : ℕ) → memb c (x ∷ a) ≡ true → memb c (y ∷ b) ≡ true) where
  rest : rising (suc x) a ≡ true
  rest = (and_true (leb lo x) (rising (suc x) a) p).1

  -- past the first of the other list, its members are the other's
  beyond : (c : ℕ) → memb c (x ∷ a) ≡ true → y < c → memb c b ≡ true
  beyond c m h = or_true (eqb c y) (memb c b) (s c m) (λ e. let d = eqb-true c y e in absurd (omega arith)) (λ e. e)

  -- the two start alike
  alike : x ≡ y → (rising (suc x) b ≡ true → ((c : ℕ) → memb c a ≡ true → memb c b ≡ true) → Within a b) → Within (x ∷ a) (y ∷ b)
  alike e h =
      let w = h (rw e (and_true (leb lo y) (rising (suc y) b) q).1)
      (λ c m. let d = rising_from (suc x) a c rest m in beyond c (mem_there c x a m) (omega arith)) in
      (omega arith, λ l. rw e (ap (λ (t : List ℕ). y ∷ t) (w.1 (omega arith))))

  -- the other starts lower
  lower : (x ≡ y → ⊥) → (rising (suc y) (x ∷ a) ≡ true → rising (suc y) b ≡ true → ((c : ℕ) → memb c (x ∷ a) ≡ true → memb c b ≡ true) → Within (x ∷ a) b)
      → Within (x ∷ a) (y ∷ b)
  lower n h =
      let rest' = (and_true (leb lo y) (rising (suc y) b) q).1 in
      let in' : memb x b ≡ true = or_true (eqb x y) (memb x b) (s x (mem_here x a)) (λ e. absurd (n (eqb-true x y e))) (λ e. e) in
      let up : suc y ≤ x = rising_from (suc y) b x rest' in' in
      let rises : rising (suc y) (x ∷ a) ≡ true = and_both (leb (suc y) x) (rising (suc x) a) (le-leb (suc y) x up) rest in
      let w = h rises rest' (λ c m. let d = rising_from (suc y) (x ∷ a) c rises m in beyond c m (omega arith)) in
      (omega arith, λ l. absurd (omega arith))

pub rising_within : (lo : ℕ) (a b : List ℕ) → rising lo a ≡ true → rising lo b ≡ true → ((c : ℕ) → memb c a ≡ true → memb c b ≡ true) → Within a b
rising_within lo [] [] p q s = (omega arith, λ e. refl)
rising_within lo (x ∷ a) [] p q s = clash {b = false} (s x (mem_here x a)) refl
rising_within lo [] (y ∷ b) p q s = (omega arith, λ e. absurd (omega arith))
rising_within lo (x ∷ a) (y ∷ b) p q s =
    by
    (eqb x y)
    (λ e. alike lo x y a b p q s (eqb-true x y e) (λ r. rising_within (suc x) a b (rest lo x y a b p q s) r))
    (λ e. lower lo x y a b p q s (eqb-false x y e) (rising_within (suc y) (x ∷ a) b))

-- the postings of the heads from row r on
module _ (key : List ℕ) (has : List Bool) where
  abbrev valued_head : ℕ → Bool
  valued_head h = get_or has h false

  -- a head that has the posting's key
  abbrev tells : ℕ → ℕ → Bool
  tells c h = valued_head h && eqb (get_or key h 0) (key_of c)

  -- the posting of one row, or of another
  one_row : (c k r : ℕ) → r < rows → eqb c (posting k r) ≡ (eqb (row_of c) r && eqb k (key_of c))
  one_row c k r h =
      iff
      (eqb c (posting k r))
      (eqb (row_of c) r && eqb k (key_of c))
      (λ e. let d = eqb-true c (posting k r) e in
      and_both (eqb (row_of c) r) (eqb k (key_of c)) (eq-eqb (row_of c) r (omega arith)) (eq-eqb k (key_of c) (omega arith)))
      (λ e.
      let d = eqb-true (row_of c) r (and_true (eqb (row_of c) r) (eqb k (key_of c)) e).0 in
      let f = eqb-true k (key_of c) (and_true (eqb (row_of c) r) (eqb k (key_of c)) e).1 in
      eq-eqb c (posting k r) (omega arith))

  -- a head's posting beside those of the later rows
  beside : (c r h : ℕ) (l : List ℕ) (v : Bool) → r < rows
      → memb c (cond v (into (posting (get_or key h 0) r) l) l) ≡ ((v && (eqb (row_of c) r && eqb (get_or key h 0) (key_of c))) || memb c l)
  beside c r h l true b = mem_into (posting (get_or key h 0) r) l c ∙ ap (λ x. x || memb c l) (one_row c (get_or key h 0) r b)
  beside c r h l false b = refl

  -- a posting is among them if its row's head tells it
  pub heads_tell : (c r : ℕ) (hs : List ℕ) → r + length hs ≤ rows → row_of c < r + length hs
      → memb c (head_postings key has r hs) ≡ cond (ltb (row_of c) r) false (tells c (get_or hs (row_of c - r) 0))
  heads_tell c r [] b k = rw (lt-ltb (row_of c) r (omega arith))
  heads_tell c r (h ∷ hs) b k =
      let first = beside c r h (head_postings key has (suc r) hs) (valued_head h) (omega arith) in
      let later = heads_tell c (suc r) hs (omega arith) (omega arith) in
      by
      (ltb (row_of c) r)
      (λ e.
      let d = ltb-true (row_of c) r e in
      rw (first, later, lt-ltb (row_of c) (suc r) (omega arith), ne_eqb (row_of c) r (omega arith), e, and_no, or_no))
      (λ e.
      let d = ltb-false (row_of c) r e in
      by
      (eqb (row_of c) r)
      (λ f.
      let g = eqb-true (row_of c) r f in
      let z : row_of c - r ≡ 0 = omega arith in
      rw (first, later, lt-ltb (row_of c) (suc r) (omega arith), f, e, z, or_no))
      (λ f.
      let g = eqb-false (row_of c) r f in
      let z : row_of c - r ≡ suc (row_of c - suc r) = omega arith in
      rw (first, later, le-ltb (row_of c) (suc r) (omega arith), f, e, z, and_no)))

  -- they are as many as the heads with a value
  pub heads_count : (r : ℕ) (hs : List ℕ) → r + length hs ≤ rows → length (head_postings key has r hs) ≡ length (those valued_head hs)
  heads_count r [] b = refl
  heads_count r (h ∷ hs) b =
      let x = posting (get_or key h 0) r in
      let later = heads_count (suc r) hs (omega arith) in
      let row : row_of x ≡ r = omega arith in
      let free : memb x (head_postings key has (suc r) hs) ≡ false =
      rw (lt-ltb (row_of x) (suc r) (omega arith)) at (heads_tell x (suc r) hs (omega arith) (omega arith)) in
      by (valued_head h) (λ e. rw (e, length_into x (head_postings key has (suc r) hs) free, later)) (λ e. rw (e, later))

  -- a posting is one of the heads' if its row's head tells it
  module _ (heads : List ℕ) (long : length heads ≡ rows) where
    told_memb : (c : ℕ) → memb c (head_postings key has 0 heads) ≡ tells c (get_or heads (row_of c) 0)
    told_memb c =
        let b : row_of c < rows = omega arith in
        let z : row_of c - 0 ≡ row_of c = omega arith in
        rw (le-ltb (row_of c) 0 (omega arith), z) at (heads_tell c 0 heads (omega arith) (omega arith))

    -- rising postings that are told, and as many as the heads with a value, are the heads'
    pub told_same : (ps : List ℕ) → rising 0 ps ≡ true
        → (all (λ c. tells c (get_or heads (row_of c) 0)) ps && eqb (length ps) (length (those valued_head heads))) ≡ same ps (head_postings key has 0 heads)
    told_same ps r =
        let hs = head_postings key has 0 heads in
        let f : ℕ → Bool = λ c. tells c (get_or heads (row_of c) 0) in
        let count : length hs ≡ length (those valued_head heads) = heads_count 0 heads (omega arith) in
        iff
        (all f ps && eqb (length ps) (length (those valued_head heads)))
        (same ps hs)
        (λ e.
        let told = and_true (all f ps) (eqb (length ps) (length (those valued_head heads))) e in
        let many = eqb-true (length ps) (length (those valued_head heads)) told.1 in
        let w = rising_within 0 ps hs r (heads_rising key has 0 heads) (λ c m. told_memb c ∙ all_mem f ps told.0 c m) in
        equal_same ps hs (w.1 (omega arith)))
        (λ e.
        let q = same_equal ps hs e in
        and_both
        (all f ps)
        (eqb (length ps) (length (those valued_head heads)))
        (mem_all f ps (λ c m. sym (told_memb c) ∙ (rw q at m)))
        (eq-eqb (length ps) (length (those valued_head heads)) (ap length q ∙ count)))
