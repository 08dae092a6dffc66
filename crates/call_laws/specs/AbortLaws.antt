-- Abort: the slots it frees, what it leaves alone, and that the store still rests.
use Rattle.std.specs.Prelude.{◌≡◌, refl, true, false, List, [], ◌∷◌, map, ℕ, ◌<◌, length, get_or}
use Rattle.std.proofs.Common.{sym, ◌∙◌, arith}
use Rattle.records.specs.Limits.{active_limit}
use Rattle.records.specs.Setters.{relisted}
use Rattle.rules.specs.Lists.{memb, without}
use Rattle.rules.specs.Types.{Store, Tx}
use Rattle.rules.specs.Store.{active_txids}
use Rattle.rules.specs.Admitted.{resting}
use Rattle.rules.specs.Numbers.{number_of}
use Rattle.rules.specs.Puts.{put_free, put_drop, apply_all, own_slots, abort_puts}
use Rattle.rules.specs.Calls.{abort}
use Rattle.basic_laws.specs.Cases.{by, clash}
use Rattle.run_laws.specs.GuardPuts.{apply_all_append, set_all_else, set_all_here}
use Rattle.run_laws.specs.FreedSlots.{freed, freed_is}
use Rattle.run_laws.specs.OwnSlots.{own_parts}
use Rattle.statements.specs.Sized.{Sized}
use Rattle.recovery_laws.specs.Unfinished.{dropped, drop_other, dropped_are, dropped_gone, dropped_form}
use Rattle.recovery_laws.specs.Carried.{listed_rest}
use Rattle.recovery_laws.specs.OwnFreed.{frees_rest}
use Rattle.recovery_laws.specs.Start.{own_idle, own_mine, steady}
use Rattle.recovery_laws.specs.Sizes.{sized_all}
use Rattle.admitted_laws.specs.Resting.{Rests, rests, rested}
use Rattle.sentences.specs.Refusals.{abort_accepted}
use Rattle.call_laws.specs.Passed.{abort_passed}
use Rattle.basic_laws.specs.LaidOut.{pad_length}
use Rattle.basic_laws.specs.Placed.{get_d_any}
use Rattle.statements.specs.StoreWords.{Blank, SameSlot}
use Rattle.statements.specs.CallWords.{Aborts}
use Rattle.sentences.specs.CallsSay.{only_txid_law}

-- the store with slots freed and another active list
abbrev pub emptied : List ℕ → List ℕ → Store → Store
emptied ps act S = relisted act S.clock (freed ps S)

-- the txid's off-chain slots
abbrev pub own_of : Store → ℕ → List ℕ
own_of S t = own_slots S.heads S.next S.xmin t

-- abort's stores leave that store: its own slots freed, the txid dropped
pub aborted_is : (S : Store) (t : ℕ) → apply_all (abort_puts S t) S ≡ emptied (own_of S t) (dropped S.active t) S
unfolding abort_puts
aborted_is S t = apply_all_append (map put_free (own_of S t)) (put_drop t ∷ []) S ∙ rw (freed_is (own_of S t) S)

-- a freed slot is all zero, any other as it was
pub wiped_all : (ps act : List ℕ) (S : Store) (p : ℕ) → memb p ps ≡ true → Blank (emptied ps act S) p
wiped_all ps act S p m = record {
  xmin = set_all_here 0 ps S.xmin p m;
  xmax = set_all_here 0 ps S.xmax p m;
  next = set_all_here 0 ps S.next p m;
  key = set_all_here 0 ps S.key p m;
  has = set_all_here false ps S.has p m;
  locked = set_all_here false ps S.locked p m;
  owner = set_all_here 0 ps S.owner p m;
}

wiped_none : (ps act : List ℕ) (S : Store) (p : ℕ) → memb p ps ≡ false → SameSlot S (emptied ps act S) p
wiped_none ps act S p n = record {
  xmin = set_all_else 0 ps S.xmin 0 p n;
  xmax = set_all_else 0 ps S.xmax 0 p n;
  next = set_all_else 0 ps S.next 0 p n;
  key = set_all_else 0 ps S.key 0 p n;
  has = set_all_else false ps S.has false p n;
  locked = set_all_else false ps S.locked false p n;
  owner = set_all_else 0 ps S.owner 0 p n;
}

module _ (S : Store) (L : ℕ → List ℕ) (z : Sized S) (R : Rests S L) (t : ℕ) (a : memb t (active_txids S.active) ≡ true) where
  abbrev own : List ℕ
  own = own_of S t

  -- the store that abort leaves
  abbrev T : Store
  T = emptied own (dropped S.active t) S

  -- no slot on a chain is among them, and none of another txid
  chain_out : (r x : ℕ) → r < length S.heads → memb x (L r) ≡ true → memb x own ≡ false
  chain_out r x lt m = by (memb x own) (λ k. clash m ((own_idle S L z R t a x k).0 r lt)) (λ k. k)

  else_out : (x : ℕ) → (get_or S.xmin x 0 ≡ t → ⊥) → memb x own ≡ false
  else_out x n = by (memb x own) (λ k. absurd (n (own_parts S.heads S.next S.xmin t x k).mine)) (λ k. k)

  -- the store rests with the same chains: its own slots are freed, then the txid is dropped
  abort_rests : Rests T L
  abort_rests =
      let D = emptied own S.active S in
      let Q : Rests D L = rw (freed_is own S) at (frees_rest own S L (λ p m. (own_idle S L z R t a p m).0) R) in
      listed_rest D L (dropped S.active t) S.clock (record {
        form = dropped_form S.active S.clock R.mends.listed z.active t;
        later = omega arith;
        creator = λ r x lt m. steady S L z R t a (get_or D.xmin x 0) (Q.created r x lt m);
        ender = λ r x lt m. steady S L z R t a (get_or D.xmax x 0) (Q.ended r x lt m);
        off = λ p u o. drop_other S.active S.clock R.mends.listed z.active t S.doomed (get_or D.xmin p 0) (λ e. by (memb p own)
            (λ m. omega (arith, u, set_all_here 0 own S.xmin p m))
            (λ n. clash (own_mine S L z R t a p o (sym (set_all_else 0 own S.xmin 0 p n) ∙ e)) n));
      }) Q

-- an accepted abort does so
pub abort_aborts : (S : Store) (x : Tx) (L : ℕ → List ℕ) → Sized S → Rests S L → number_of (abort S x).refusal ≡ 0 → Aborts S x L (abort S x)
abort_aborts S x L z R h =
    let l = abort_passed S x h in
    let t = x.txid.0 in
    let o = own_of S t in
    let act = dropped S.active t in
    rw (abort_accepted S x h, aborted_is S t) (record {
      freed = λ p e off. wiped_all o act S p (own_mine S L z R t l.active p off e);
      others = λ p n. wiped_none o act S p (else_out S L z R t l.active p n);
      chained = λ r p lt m. wiped_none o act S p (chain_out S L z R t l.active r p lt m);
      gone = dropped_gone S.active S.clock R.mends.listed z.active t;
      listed = dropped_are S.active S.clock R.mends.listed z.active t;
      after = record {
        long = pad_length {A = ℕ} active_limit 0 (without t (active_txids S.active));
        zero = λ d i le lt. get_d_any act i d 0 (omega (arith, pad_length {A = ℕ} active_limit 0 (without t (active_txids S.active))))
            ∙ (dropped_form S.active S.clock R.mends.listed z.active t).after i le;
      };
      heads = refl;
      postings = refl;
      posting_count = refl;
      stripe_guards = refl;
      partition_guards = refl;
      stamps = refl;
      clock = refl;
      poisoned = refl;
      doomed = refl;
      bound = refl;
      tx = only_txid_law t;
    })

-- and the store rests with the chains it has
pub abort_chains : (S : Store) (x : Tx) (L : ℕ → List ℕ) → Sized S → number_of (abort S x).refusal ≡ 0 → Rests S L → Rests (abort S x).store L
abort_chains S x L z h R =
    let l = abort_passed S x h in
    rw (abort_accepted S x h, aborted_is S x.txid.0) (abort_rests S L z R x.txid.0 l.active)

-- so it is resting by the test, and of the same sizes
pub abort_keeps : (S : Store) (x : Tx) → Sized S → number_of (abort S x).refusal ≡ 0 → Sized (abort S x).store × (resting (abort S x).store ≡ true)
abort_keeps S x z h =
    let l = abort_passed S x h in
    let R = rests S z l.rests in
    let t = x.txid.0 in
    let Z : Sized (emptied (own_of S t) (dropped S.active t) S) = rw (aborted_is S t) at (sized_all (abort_puts S t) S z) in
    rw (abort_accepted S x h, aborted_is S t) (Z, rested (emptied (own_of S t) (dropped S.active t) S) R.0 Z (abort_rests S R.0 z R.1 t l.active))
