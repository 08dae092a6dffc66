-- A commit cut after any number of its stores, and then recovered.
use Rattle.std.specs.Prelude.{◌≡◌, refl, Bool, true, ℕ, length, get_or, take, ltb}
use Rattle.std.proofs.Math.Path.{ap}
use Rattle.std.proofs.Common.{◌∙◌, arith, ltb-true, ltb-false, lt-ltb}
use Rattle.std.proofs.Math.Seq.{take_all}
use Rattle.records.specs.Limits.{key_end}
use Rattle.rules.specs.Types.{Store, Tx, Schedule, After, Done}
use Rattle.rules.specs.Admitted.{repairable}
use Rattle.rules.specs.Puts.{apply_all}
use Rattle.rules.specs.Commit.{run_of}
use Rattle.rules.specs.Answer.{uncut, cut_off, commit}
use Rattle.rules.specs.Recovery.{recovered, recover}
use Rattle.basic_laws.specs.Cases.{by}
use Rattle.run_laws.specs.OnlyKinds.{only_take}
use Rattle.statements.specs.Words.{Admitted}
use Rattle.statements.specs.Sized.{Keyed}
use Rattle.run_laws.specs.FirstRows.{admitted}
use Rattle.basic_laws.specs.AllOf.{all_get}
use Rattle.basic_laws.specs.Members.{at_all}
use Rattle.recovery_laws.specs.EveryStore.{counted, run_counted, keys_kept}

-- a repairable store is recovered
pub recover_done : (S : Store) → repairable S ≡ true → recover S ≡ record { refusal = Done; store = recovered S }
unfolding recover
recover_done S h = rw h

module _ (S : Store) (x : Tx) (logged : Bool) (plan : Schedule) where
  -- the store that a commit cut after n stores leaves
  abbrev pub cut_store : ℕ → Store
  cut_store n = (commit S x logged plan (After n)).store

  -- the first n stores are made, or all where there are no more
  pub cut_store_law : Admitted S x plan → (n : ℕ) → cut_store n ≡ apply_all (take n (run_of S x logged plan).puts) S
  unfolding uncut cut_off
  cut_store_law ok n = ap (λ a. a.store) (admitted S x logged plan (After n) ok) ∙ by (ltb n (length (run_of S x logged plan).puts))
      (λ e. rw e)
      (λ e. rw (e, take_all n (run_of S x logged plan).puts (ltb-false n (length (run_of S x logged plan).puts) e)))

  -- no key is made on the way
  pub keyed_run : Keyed S → (n : ℕ) → Keyed (apply_all (take n (run_of S x logged plan).puts) S)
  keyed_run k n =
      let ps = take n (run_of S x logged plan).puts in
      at_all (λ c. ltb c key_end) (apply_all ps S).key 0 (λ p lt. lt-ltb (get_or (apply_all ps S).key p 0) key_end
      (omega (
        arith,
        ltb-true (get_or S.key p 0) key_end (all_get (λ c. ltb c key_end) S.key p 0 k refl),
        keys_kept ps S (only_take counted n (run_of S x logged plan).puts (run_counted S x logged plan)) p,
      )))
