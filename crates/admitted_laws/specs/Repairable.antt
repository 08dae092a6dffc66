-- "Repairable", in words of lists and numbers: the test holds exactly where these sentences do.
use Rattle.std.specs.Prelude.{◌≡◌, Bool, true, false, not, ◌&&◌, List, ℕ, ◌≤◌, ◌<◌, length, get_or, eqb, ltb, leb}
use Rattle.std.proofs.Common.{sym, ◌∙◌, arith, eqb-true, eq-eqb, ne_eqb, ltb-true, ltb-false, lt-ltb, leb-true, le-leb}
use Rattle.std.proofs.lemmas.List.{length-replicate}
use Rattle.std.proofs.Math.ListN.{get_or-eq_default}
use Rattle.std.proofs.lemmas.Bool.{eqb-false, not-true}
use Rattle.records.specs.Limits.{slots, places, last_minute, no_marks}
use Rattle.rules.specs.Lists.{all, memb, each_or, is_zero, nonzero}
use Rattle.rules.specs.Types.{Store}
use Rattle.rules.specs.Store.{used, used_slots, value_at, active_txids, active_in_form, slots_in_form}
use Rattle.rules.specs.Chains.{chain_from, walk, on}
use Rattle.rules.specs.Admitted.{finished, chain_ok, off_ok, repairable}
use Rattle.basic_laws.specs.Cases.{by, clash, or_true, or_left, or_right, and_true, every_each, cons_every, every_none}
use Rattle.basic_laws.specs.Members.{all_at, at_all, each_or_law, or_each, all_mem, mem_all, all_nonzero, nonzero_all}
use Rattle.basic_laws.specs.Chain.{chain_below}
use Rattle.basic_laws.specs.Sound.{walk_is, rows_sound}
use Rattle.basic_laws.specs.Chained.{Chains, Chained, walk_sound, walk_complete, chained_from}
use Rattle.basic_laws.specs.Check.{Good, chain_ok_law, ok_chain}
use Rattle.statements.specs.Sized.{Sized}
use Rattle.statements.specs.StoreWords.{stored_key}
use Rattle.basic_laws.specs.TestParts.{slots_parts, parts_slots, repairable_parts, parts_repairable}
use Rattle.basic_laws.specs.Places.{blank_at, at_blank, zero_from, from_zero, Rising, rising_is, is_rising}

-- "A free slot is all zero" (and so is its key, by `absent`)
pub record Free (xmax next : List ℕ) (has locked : List Bool) (owner : List ℕ) (p : ℕ) : Type 0 where
  pub unmarked : get_or xmax p 0 ≡ 0
  pub unlinked : get_or next p 0 ≡ 0
  pub empty : get_or has p false ≡ false
  pub unlocked : get_or locked p false ≡ false
  pub unowned : get_or owner p 0 ≡ 0

-- slots in their form: place 0 is no slot; a free slot is all zero; "an absent key is stored as 0"; no used slot holds a key over the last minute
pub record SlotForm (xmin xmax next key : List ℕ) (has locked : List Bool) (owner : List ℕ) : Type 0 where
  pub first : get_or xmin 0 0 ≡ 0
  pub free : (p : ℕ) → get_or xmin p 0 ≡ 0 → Free xmax next has locked owner p
  pub absent : (p : ℕ) → get_or has p false ≡ false → get_or key p 0 ≡ 0
  pub minute : (p : ℕ) → 0 < get_or xmin p 0 → get_or key p 0 ≤ last_minute

-- "Active txids: .. rising, zero after them"; "from 1 to below the clock"
pub record ActiveForm (act : List ℕ) (clock : ℕ) : Type 0 where
  pub climb : Rising 1 (active_txids act)
  pub past : (t : ℕ) → memb t (active_txids act) ≡ true → t < clock
  pub after : (i : ℕ) → length (active_txids act) ≤ i → get_or act i 0 ≡ 0

-- p is on no chain
abbrev pub Off : List ℕ → (ℕ → List ℕ) → ℕ → Type 0
Off heads L p = (r : ℕ) → r < length heads → memb p (L r) ≡ false

-- "a used slot off every chain has an unfinished xmin, xmax 0, next at most" the last slot
pub record OffForm (xmin xmax next : List ℕ) (f : ℕ → Bool) (p : ℕ) : Type 0 where
  pub unfinished : f (get_or xmin p 0) ≡ false
  pub unmarked : get_or xmax p 0 ≡ 0
  pub within : get_or next p 0 ≤ slots

-- L gives each row's chain: "chains lead through used slots, reach none twice and end at 0"; the rules on xmin and xmax; slots off every chain
pub record Stands (heads xmin xmax next : List ℕ) (f : ℕ → Bool) (L : ℕ → List ℕ) : Type 0 where
  pub chains : Chains heads next L
  pub led : (r x : ℕ) → r < length heads → memb x (L r) ≡ true → 0 < get_or xmin x 0
  pub versions : (r : ℕ) → r < length heads → Good xmin xmax f (L r)
  pub off : (p : ℕ) → 0 < get_or xmin p 0 → Off heads L p → OffForm xmin xmax next f p

-- a repairable store whose row r has the chain L r: "clock at least 1; slots and active list in their form; active txids and used xmins from 1 to
-- below the clock, doomed below it; chains .."
pub record Mends (S : Store) (L : ℕ → List ℕ) : Type 0 where
  pub started : 1 ≤ S.clock
  pub slots : SlotForm S.xmin S.xmax S.next S.key S.has S.locked S.owner
  pub listed : ActiveForm S.active S.clock
  pub below : (p : ℕ) → get_or S.xmin p 0 < S.clock
  pub doom : S.doomed < S.clock
  pub stands : Stands S.heads S.xmin S.xmax S.next (finished S.active S.doomed) L

-- a blank place, as the tests say it
is_zero_law : (n : ℕ) → is_zero n ≡ true → n ≡ 0
is_zero_law n h = eqb-true n 0 h

is_none : (b : Bool) → not b ≡ true → b ≡ false
is_none b h = not-true b h

none_is : (b : Bool) → b ≡ false → not b ≡ true
none_is b h = rw h

zero_is : (n : ℕ) → n ≡ 0 → is_zero n ≡ true
zero_is n h = eq-eqb n 0 h

zero_free : (n : ℕ) → n ≡ 0 → nonzero n ≡ false
zero_free n e = rw e

free_zero : (n : ℕ) → nonzero n ≡ false → n ≡ 0
free_zero n e = omega (arith, ltb-false 0 n e)

-- slots in their form, from the test and back
form_slots : (S : Store) → slots_in_form S ≡ true → SlotForm S.xmin S.xmax S.next S.key S.has S.locked S.owner
form_slots S h =
    let P = slots_parts S h in
    record {
      first = free_zero (get_or S.xmin 0 0) (not-true (used S.xmin 0) P.first);
      free = λ p z. let n = zero_free (get_or S.xmin p 0) z in record {
        unmarked = blank_at nonzero is_zero 0 0 is_zero_law S.xmin S.xmax P.xmax p n;
        unlinked = blank_at nonzero is_zero 0 0 is_zero_law S.xmin S.next P.next p n;
        empty = blank_at nonzero not 0 false is_none S.xmin S.has P.has p n;
        unlocked = blank_at nonzero not 0 false is_none S.xmin S.locked P.locked p n;
        unowned = blank_at nonzero is_zero 0 0 is_zero_law S.xmin S.owner P.owner p n;
      };
      absent = λ p n. blank_at (λ b. b) is_zero false 0 is_zero_law S.has S.key P.key p n;
      minute = λ p u. by (ltb p (length S.key))
          (λ e. leb-true (get_or S.key p 0) last_minute (each_or_law is_zero (λ k. leb k last_minute) S.xmin S.key 0 0 P.minutes p
          (ltb-true p (length S.key) e) (ne_eqb (get_or S.xmin p 0) 0 (λ z. omega (arith, z)))))
          (λ e. rw (get_or-eq_default S.key 0 (ltb-false p (length S.key) e)) (omega arith));
    }

pub slots_form : (S : Store) → Sized S → SlotForm S.xmin S.xmax S.next S.key S.has S.locked S.owner → slots_in_form S ≡ true
slots_form S z F =
    let free : (p : ℕ) → nonzero (get_or S.xmin p 0) ≡ false → Free S.xmax S.next S.has S.locked S.owner p =
    λ p n. F.free p (free_zero (get_or S.xmin p 0) n) in
    parts_slots S (record {
      first = rw F.first;
      xmax = at_blank nonzero is_zero 0 0 zero_is S.xmin S.xmax (z.xmax ∙ sym z.xmin) (λ p n. (free p n).unmarked);
      next = at_blank nonzero is_zero 0 0 zero_is S.xmin S.next (z.next ∙ sym z.xmin) (λ p n. (free p n).unlinked);
      has = at_blank nonzero not 0 false none_is S.xmin S.has (z.has ∙ sym z.xmin) (λ p n. (free p n).empty);
      locked = at_blank nonzero not 0 false none_is S.xmin S.locked (z.locked ∙ sym z.xmin) (λ p n. (free p n).unlocked);
      owner = at_blank nonzero is_zero 0 0 zero_is S.xmin S.owner (z.owner ∙ sym z.xmin) (λ p n. (free p n).unowned);
      key = at_blank (λ b. b) is_zero false 0 zero_is S.has S.key (z.key ∙ sym z.has) (λ p n. F.absent p n);
      minutes = or_each is_zero (λ k. leb k last_minute) S.xmin S.key 0 0 (omega (arith, z.key, z.xmin))
          (λ p lt n. le-leb (get_or S.key p 0) last_minute (F.minute p (omega (arith, eqb-false (get_or S.xmin p 0) 0 n))));
    })

-- so every value is a minute of the year or none
pub value_minute : {xmin xmax next key : List ℕ} {has locked : List Bool} {owner : List ℕ} → SlotForm xmin xmax next key has locked owner
    → (p : ℕ) → stored_key (value_at key has p) ≤ last_minute
value_minute {xmin} {key = key} {has} F p = by (get_or has p false)
    (λ e. rw e (by (eqb (get_or xmin p 0) 0)
    (λ z. clash e (F.free p (eqb-true (get_or xmin p 0) 0 z)).empty)
    (λ n. F.minute p (omega (arith, eqb-false (get_or xmin p 0) 0 n)))))
    (λ e. rw e (omega arith))

-- the active list in its form, from the test and back
form_active : (act : List ℕ) (clock : ℕ) → active_in_form act clock ≡ true → ActiveForm act clock
unfolding active_in_form
form_active act clock h =
    let l = active_txids act in
    let p = every_each _ h in
    record {
      climb = rising_is 1 l p.0;
      past = λ t m. ltb-true t clock (all_mem (λ u. ltb u clock) l p.1.0 t m);
      after = zero_from (length l) act p.1.1.0;
    }

active_form : (act : List ℕ) (clock : ℕ) → ActiveForm act clock → active_in_form act clock ≡ true
unfolding active_in_form
active_form act clock A =
    let l = active_txids act in
    cons_every _ _ (is_rising 1 l A.climb)
    (cons_every _ _ (mem_all (λ u. ltb u clock) l (λ t m. lt-ltb t clock (A.past t m))) (cons_every _ _ (from_zero (length l) act A.after) every_none))

-- the marks of the walk, and the chains
module _ (heads xmin xmax next : List ℕ) (f : ℕ → Bool) (L : ℕ → List ℕ) (C : Chained heads next (walk heads next).seen L)
    (same : length next ≡ length xmin) where
  abbrev seen : List ℕ
  seen = (walk heads next).seen

  marked_below : (r x : ℕ) → r < length heads → memb x (L r) ≡ true → x < length xmin
  marked_below r x lt m = omega (arith, (chain_below next (get_or heads r 0) (L r) x (C.stand.chain r lt) m).1)

  form_stands : each_or is_zero nonzero seen xmin ≡ true → all (λ h. chain_ok xmin xmax f (chain_from places next h)) heads ≡ true
      → all (off_ok xmin xmax next f seen) (used_slots xmin) ≡ true → Stands heads xmin xmax next f L
  form_stands led versions off = record {
    chains = C.stand;
    led =
        λ r x lt m. ltb-true 0 (get_or xmin x 0)
        (each_or_law is_zero nonzero seen xmin 0 0 led x (marked_below r x lt m) (not-true (is_zero (get_or seen x 0)) (C.marked r x lt m)));
    versions =
        λ r lt. chain_ok_law xmin xmax f (L r)
        (rw (chained_from heads next seen L C r lt) at (all_at (λ h. chain_ok xmin xmax f (chain_from places next h)) heads versions r 0 lt));
    off =
        λ p u o. or_true (on seen p) (not (f (get_or xmin p 0)) && (eqb (get_or xmax p 0) 0 && leb (get_or next p 0) slots))
        (all_nonzero (off_ok xmin xmax next f seen) xmin off p u)
        (λ e. let g = C.found p e in clash g.2 (o g.0 g.1))
        (λ e. let a = and_true (not (f (get_or xmin p 0))) (eqb (get_or xmax p 0) 0 && leb (get_or next p 0) slots) e in
        let b = and_true (eqb (get_or xmax p 0) 0) (leb (get_or next p 0) slots) a.1 in
        record {
          unfinished = not-true (f (get_or xmin p 0)) a.0;
          unmarked = eqb-true (get_or xmax p 0) 0 b.0;
          within = leb-true (get_or next p 0) slots b.1;
        });
  }

  module _ (T : Stands heads xmin xmax next f L) where
    stands_led : length seen ≡ length xmin → each_or is_zero nonzero seen xmin ≡ true
    stands_led e =
        or_each is_zero nonzero seen xmin 0 0 (omega arith) (λ p lt n. let g = C.found p (rw n) in lt-ltb 0 (get_or xmin p 0) (T.led g.0 p g.1 g.2))

    stands_versions : all (λ h. chain_ok xmin xmax f (chain_from places next h)) heads ≡ true
    stands_versions =
        at_all (λ h. chain_ok xmin xmax f (chain_from places next h)) heads 0
        (λ r lt. rw (chained_from heads next seen L C r lt) (ok_chain xmin xmax f (L r) (T.versions r lt)))

    stands_off : all (off_ok xmin xmax next f seen) (used_slots xmin) ≡ true
    stands_off = nonzero_all (off_ok xmin xmax next f seen) xmin (λ p u. by (on seen p)
        (λ e. or_left (on seen p) (not (f (get_or xmin p 0)) && (eqb (get_or xmax p 0) 0 && leb (get_or next p 0) slots)) e)
        (λ e. let o = T.off p u (λ r lt. by (memb p (L r)) (λ m. clash (C.marked r p lt m) e) (λ m. m)) in
        or_right (on seen p) (not (f (get_or xmin p 0)) && (eqb (get_or xmax p 0) 0 && leb (get_or next p 0) slots))
        (rw (o.unfinished, eq-eqb (get_or xmax p 0) 0 o.unmarked, le-leb (get_or next p 0) slots o.within))))

-- a mark for every place
none_long : length no_marks ≡ places
unfolding no_marks
none_long = length-replicate {A = ℕ} places 0

marks_long : (heads next : List ℕ) → length next ≡ places → (walk heads next).ok ≡ true → length (walk heads next).seen ≡ places
unfolding walk
marks_long heads next e ok = (rows_sound next heads no_marks (walk heads next).seen e none_long (walk_is (walk heads next) true ok)).1.long ∙ none_long

-- the walk marks the chains of a store that mends
pub marks : (S : Store) (L : ℕ → List ℕ) → Sized S → Mends S L → Chained S.heads S.next (walk S.heads S.next).seen L
marks S L z M = (walk_complete S.heads S.next L z.next M.stands.chains).1

-- from the test to the sentences
pub mends : (S : Store) → Sized S → repairable S ≡ true → (L : ℕ → List ℕ) × Mends S L
mends S z h =
    let P = repairable_parts S h in
    let W = walk_sound S.heads S.next z.next P.walked in (
      W.0,
      record {
        started = leb-true 1 S.clock P.started;
        slots = form_slots S P.slots;
        listed = form_active S.active S.clock P.listed;
        below = λ p. by (ltb p (length S.xmin))
            (λ e. ltb-true (get_or S.xmin p 0) S.clock (all_at (λ t. ltb t S.clock) S.xmin P.below p 0 (ltb-true p (length S.xmin) e)))
            (λ e. rw (get_or-eq_default S.xmin 0 (ltb-false p (length S.xmin) e)) (omega (arith, leb-true 1 S.clock P.started)));
        doom = ltb-true S.doomed S.clock P.doom;
        stands =
            form_stands S.heads S.xmin S.xmax S.next (finished S.active S.doomed) W.0 W.1 (z.next ∙ sym z.xmin) P.led
            P.versions P.off;
      },
    )

-- and back
pub mended : (S : Store) (L : ℕ → List ℕ) → Sized S → Mends S L → repairable S ≡ true
mended S L z M =
    let f = finished S.active S.doomed in
    let W = walk_complete S.heads S.next L z.next M.stands.chains in
    parts_repairable S (record {
      started = le-leb 1 S.clock M.started;
      slots = slots_form S z M.slots;
      listed = active_form S.active S.clock M.listed;
      below = at_all (λ t. ltb t S.clock) S.xmin 0 (λ p lt. lt-ltb (get_or S.xmin p 0) S.clock (M.below p));
      doom = lt-ltb S.doomed S.clock M.doom;
      walked = W.0;
      led =
          stands_led S.heads S.xmin S.xmax S.next f L W.1 (z.next ∙ sym z.xmin) M.stands
          (marks_long S.heads S.next z.next W.0 ∙ sym z.xmin);
      versions = stands_versions S.heads S.xmin S.xmax S.next f L W.1 (z.next ∙ sym z.xmin) M.stands;
      off = stands_off S.heads S.xmin S.xmax S.next f L W.1 (z.next ∙ sym z.xmin) M.stands;
    })
