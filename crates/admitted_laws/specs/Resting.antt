-- "Resting", in words of lists and numbers: the test holds exactly where these sentences do.
use Rattle.std.specs.Prelude.{◌≡◌, refl, Bool, true, false, not, ◌&&◌, ◌||◌, List, ℕ, ◌≤◌, ◌<◌, length, get_or, eqb, ltb}
use Rattle.std.proofs.Common.{eqb-true, eq-eqb, ltb-true, lt-ltb, leb-true, le-leb}
use Rattle.std.proofs.lemmas.Bool.{not-true}
use Rattle.records.specs.Limits.{posting_limit, key_end}
use Rattle.rules.specs.Lists.{all, memb}
use Rattle.rules.specs.Types.{Store}
use Rattle.rules.specs.Store.{used_slots, posting, postings_of, postings_in_form}
use Rattle.rules.specs.Chains.{walk, on}
use Rattle.rules.specs.Admitted.{finished, head_postings, rests_at, resting}
use Rattle.basic_laws.specs.Cases.{by, clash, or_true, or_right, and_true, every_each, cons_every, every_none}
use Rattle.posting_laws.specs.RestingPostings.{settles_settled, settled_settles}
use Rattle.basic_laws.specs.Members.{all_mem, mem_all, all_nonzero, nonzero_all}
use Rattle.statements.specs.Sized.{Sized}
use Rattle.basic_laws.specs.TestParts.{resting_parts, parts_resting}
use Rattle.basic_laws.specs.Places.{zero_at, at_zero, zero_from, from_zero, Rising, rising_is, is_rising}
use Rattle.admitted_laws.specs.Repairable.{Mends, mends, mended, marks}

-- postings "kept rising, packed, unique, at most" the limit; the keys are of 32 bits
pub record PostingForm (S : Store) : Type 0 where
  pub few : S.posting_count ≤ posting_limit
  pub climb : Rising 0 (postings_of S)
  pub keys : (c : ℕ) → memb c (postings_of S) ≡ true → c < posting key_end 0
  pub after : (i : ℕ) → S.posting_count ≤ i → get_or S.postings i 0 ≡ 0

-- a resting store whose row r has the chain L r: "repairable, no guard held, postings in their form; any unfinished txid found as a chain's xmin
-- or xmax is the doomed one; if not poisoned, doomed is 0 and the postings are exactly (key, row) of each head with a value"
pub record Rests (S : Store) (L : ℕ → List ℕ) : Type 0 where
  pub mends : Mends S L
  pub stripes : (i : ℕ) → get_or S.stripe_guards i 0 ≡ 0
  pub partitions : (i : ℕ) → get_or S.partition_guards i 0 ≡ 0
  pub posted : PostingForm S
  pub created : (r x : ℕ) → r < length S.heads → memb x (L r) ≡ true → finished S.active S.doomed (get_or S.xmin x 0) ≡ false
      → get_or S.xmin x 0 ≡ S.doomed
  pub ended : (r x : ℕ) → r < length S.heads → memb x (L r) ≡ true → finished S.active S.doomed (get_or S.xmax x 0) ≡ false
      → get_or S.xmax x 0 ≡ S.doomed
  pub undoomed : S.poisoned ≡ false → S.doomed ≡ 0
  pub exact : S.poisoned ≡ false → postings_of S ≡ head_postings S.key S.has 0 S.heads

-- postings in their form, from the test and back
pub form_postings : (S : Store) → postings_in_form S ≡ true → PostingForm S
unfolding postings_in_form
form_postings S h =
    let p = every_each _ h in
    record {
      few = leb-true S.posting_count posting_limit p.0;
      climb = rising_is 0 (postings_of S) p.1.0;
      keys = λ c m. ltb-true c (posting key_end 0) (all_mem (λ c. ltb c (posting key_end 0)) (postings_of S) p.1.1.0 c m);
      after = zero_from S.posting_count S.postings p.1.1.1.0;
    }

postings_form_law : (S : Store) → PostingForm S → postings_in_form S ≡ true
unfolding postings_in_form
postings_form_law S P =
    cons_every _ _ (le-leb S.posting_count posting_limit P.few)
    (cons_every _ _ (is_rising 0 (postings_of S) P.climb)
    (cons_every _ _ (mem_all (λ c. ltb c (posting key_end 0)) (postings_of S) (λ c m. lt-ltb c (posting key_end 0) (P.keys c m)))
    (cons_every _ _ (from_zero S.posting_count S.postings P.after) every_none)))

-- a txid that is finished, or is the doomed one
either : (b : Bool) (v d : ℕ) → (b || eqb v d) ≡ true → b ≡ false → v ≡ d
either b v d h n = or_true b (eqb v d) h (λ e. clash e n) (λ e. eqb-true v d e)

or_doomed : (b : Bool) (v d : ℕ) → (b ≡ false → v ≡ d) → (b || eqb v d) ≡ true
or_doomed true v d h = refl
or_doomed false v d h = eq-eqb v d (h refl)

-- from the test to the sentences
pub rests : (S : Store) → Sized S → resting S ≡ true → (L : ℕ → List ℕ) × Rests S L
rests S z h =
    let P = resting_parts S h in
    let M = mends S z P.mendable in
    let L = M.0 in
    let C = marks S L z M.1 in
    let f = finished S.active S.doomed in
    let s = (walk S.heads S.next).seen in
    let at : (r x : ℕ) → r < length S.heads → memb x (L r) ≡ true
    → ((f (get_or S.xmin x 0) || eqb (get_or S.xmin x 0) S.doomed) ≡ true) × ((f (get_or S.xmax x 0) || eqb (get_or S.xmax x 0) S.doomed) ≡ true)
    = λ r x lt m. and_true (f (get_or S.xmin x 0) || eqb (get_or S.xmin x 0) S.doomed) (f (get_or S.xmax x 0) || eqb (get_or S.xmax x 0) S.doomed)
    (or_true (not (on s x))
    ((f (get_or S.xmin x 0) || eqb (get_or S.xmin x 0) S.doomed) && (f (get_or S.xmax x 0) || eqb (get_or S.xmax x 0) S.doomed))
    (all_nonzero (rests_at S.xmin S.xmax f S.doomed s) S.xmin P.rests x (M.1.stands.led r x lt m))
    (λ e. clash (C.marked r x lt m) (not-true (on s x) e)) (λ e. e)) in
    let well = settles_settled S P.healthy in (
      L,
      record {
        mends = M.1;
        stripes = zero_at S.stripe_guards P.stripes;
        partitions = zero_at S.partition_guards P.partitions;
        posted = form_postings S P.posted;
        created = λ r x lt m n. either (f (get_or S.xmin x 0)) (get_or S.xmin x 0) S.doomed (at r x lt m).0 n;
        ended = λ r x lt m n. either (f (get_or S.xmax x 0)) (get_or S.xmax x 0) S.doomed (at r x lt m).1 n;
        undoomed = λ n. (well n).0;
        exact = λ n. (well n).1;
      },
    )

-- any unfinished txid found as a chain's xmin or xmax is `who`; in a resting store it is the doomed one
pub record Sole (heads xmin xmax : List ℕ) (f : ℕ → Bool) (L : ℕ → List ℕ) (who : ℕ) : Type 0 where
  pub created : (r x : ℕ) → r < length heads → memb x (L r) ≡ true → f (get_or xmin x 0) ≡ false → get_or xmin x 0 ≡ who
  pub ended : (r x : ℕ) → r < length heads → memb x (L r) ≡ true → f (get_or xmax x 0) ≡ false → get_or xmax x 0 ≡ who

-- so it is at rest
pub rests_sole : (S : Store) (L : ℕ → List ℕ) → Rests S L → Sole S.heads S.xmin S.xmax (finished S.active S.doomed) L S.doomed
rests_sole S L R = record { created = R.created; ended = R.ended }

-- the test of every slot on a chain
pub sole_rests : (S : Store) (L : ℕ → List ℕ) → Sized S → Mends S L → Sole S.heads S.xmin S.xmax (finished S.active S.doomed) L S.doomed
    → all (rests_at S.xmin S.xmax (finished S.active S.doomed) S.doomed (walk S.heads S.next).seen) (used_slots S.xmin) ≡ true
sole_rests S L z M N =
    let C = marks S L z M in
    let f = finished S.active S.doomed in
    let s = (walk S.heads S.next).seen in
    nonzero_all (rests_at S.xmin S.xmax f S.doomed s) S.xmin (λ p u. by (on s p)
    (λ e. let g = C.found p e in
    or_right (not (on s p))
    ((f (get_or S.xmin p 0) || eqb (get_or S.xmin p 0) S.doomed) && (f (get_or S.xmax p 0) || eqb (get_or S.xmax p 0) S.doomed))
    (rw (
      or_doomed (f (get_or S.xmin p 0)) (get_or S.xmin p 0) S.doomed (N.created g.0 p g.1 g.2),
      or_doomed (f (get_or S.xmax p 0)) (get_or S.xmax p 0) S.doomed (N.ended g.0 p g.1 g.2),
    )))
    (λ e. rw e))

-- and back
pub rested : (S : Store) (L : ℕ → List ℕ) → Sized S → Rests S L → resting S ≡ true
rested S L z R = parts_resting S (record {
  mendable = mended S L z R.mends;
  stripes = at_zero S.stripe_guards R.stripes;
  partitions = at_zero S.partition_guards R.partitions;
  posted = postings_form_law S R.posted;
  rests = sole_rests S L z R.mends (rests_sole S L R);
  healthy = settled_settles S (λ e. (R.undoomed e, R.exact e));
})
