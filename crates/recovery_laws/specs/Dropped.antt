-- The txid dropped from the active list, and doomed.
use Rattle.std.specs.Prelude.{◌≡◌, refl, true, false, List, [], ℕ, ◌<◌, get_or}
use Rattle.std.proofs.Common.{◌∙◌, arith}
use Rattle.std.proofs.Math.Path.{fun_ext}
use Rattle.records.specs.Limits.{active_limit}
use Rattle.rules.specs.Lists.{memb, without}
use Rattle.rules.specs.Types.{Store, Value}
use Rattle.rules.specs.Store.{active_txids}
use Rattle.rules.specs.Admitted.{finished}
use Rattle.rules.specs.Puts.{put_drop, put_doom, apply}
use Rattle.basic_laws.specs.Cases.{clash}
use Rattle.basic_laws.specs.LaidOut.{pad_length}
use Rattle.admitted_laws.specs.Repairable.{Mends, Stands}
use Rattle.recovery_laws.specs.Unfinished.{dropped, active_in, doom_same, drop_other, drop_doomed, dropped_form}
use Rattle.recovery_laws.specs.Live.{Long, Lives, Due}

module _ (t : ℕ) where
  -- the lengths stay
  long_drop : (X : Store) → Long X → Long (apply (put_drop t) X)
  long_drop X Z = record { heads = Z.heads; xmax = Z.xmax; next = Z.next; active = pad_length active_limit 0 (without t (active_txids X.active)) }

  -- a store that stands with t finished is repairable without it
  mends_drop : (X : Store) (L : ℕ → List ℕ) → Long X → Mends X L
      → Stands X.heads X.xmin X.xmax X.next (finished (dropped X.active t) X.doomed) L → Mends (apply (put_drop t) X) L
  mends_drop X L Z M T = record {
    started = M.started;
    slots = M.slots;
    listed = dropped_form X.active X.clock M.listed Z.active t;
    below = M.below;
    doom = M.doom;
    stands = T;
  }

  -- dropped when it is due: the rows show the new values
  pub due_dropped : (old new : ℕ → Value) (act : List ℕ) (doom who : ℕ) (X : Store) → Due t old new act doom who [] X
      → Lives new (dropped act t) doom doom (apply (put_drop t) X)
  due_dropped old new act doom who X D =
      let K = D.live in
      let M = K.mends in (
        D.L,
        record {
          long = long_drop X K.long;
          mends = mends_drop X D.L K.long M (record {
            chains = M.stands.chains;
            led = M.stands.led;
            versions = rw (K.act_is, K.doom_is) D.good;
            off = λ p u o. let O = M.stands.off p u o in record {
              unfinished =
                  drop_other X.active X.clock M.listed K.long.active t X.doomed (get_or X.xmin p 0)
                  (λ e. clash {b = false} (D.mine p o e) refl)
                  ∙ O.unfinished;
              unmarked = O.unmarked;
              within = O.within;
            };
          });
          act_is = rw K.act_is;
          doom_is = K.doom_is;
          sole = D.sole;
          shows = D.shows;
        },
      )

  -- dropped when it is doomed: nothing else changes
  module _ (pos : 0 < t) (act : List ℕ) (on : memb t (active_txids act) ≡ true) (old : ℕ → Value) where
    pub doomed_dropped : (X : Store) → Lives old act t t X → Lives old (dropped act t) t t (apply (put_drop t) X)
    doomed_dropped X (L, K) =
        let M = K.mends in
        let e : finished (dropped act t) t ≡ finished act t = fun_ext (λ u.
        drop_doomed act X.clock (rw K.act_is at M.listed) (rw K.act_is at K.long.active) t u (λ z. omega arith) (active_in t act on)) in (
          L,
          record {
            long = long_drop X K.long;
            mends = mends_drop X L K.long M (rw (K.act_is, K.doom_is, e) (rw (K.act_is, K.doom_is) at M.stands));
            act_is = rw K.act_is;
            doom_is = K.doom_is;
            sole = rw e K.sole;
            shows = rw e K.shows;
          },
        )

    -- doomed while active: a poisoned store, and else nothing changes
    pub lives_doomed : (X : Store) → Lives old act 0 t X → Lives old act t t (apply (put_doom t) X)
    lives_doomed X (L, K) =
        let M = K.mends in
        let e : finished act t ≡ finished act 0 = fun_ext (λ u. doom_same act t u (active_in t act on)) in (
          L,
          record {
            long = record { heads = K.long.heads; xmax = K.long.xmax; next = K.long.next; active = K.long.active };
            mends = record {
              started = M.started;
              slots = M.slots;
              listed = M.listed;
              below = M.below;
              doom = M.listed.past t (rw K.act_is on);
              stands = rw (K.act_is, e) (rw (K.act_is, K.doom_is) at M.stands);
            };
            act_is = K.act_is;
            doom_is = refl;
            sole = rw e K.sole;
            shows = rw e K.shows;
          },
        )
