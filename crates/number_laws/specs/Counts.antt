-- How many stores each row of "Numbers seen" makes, in the paper's letters, and so every commit.
use Rattle.std.specs.Prelude.{◌≡◌, Bool, true, false, cond, List, [], ◌∷◌, ◌++◌, map, reverse, ℕ, ◌+◌, ◌*◌, min}
use Rattle.std.proofs.Math.Path.{refl, ap}
use Rattle.std.proofs.Common.{◌∙◌, arith, length-take}
use Rattle.std.proofs.Math.ListN.{length, length-append, length-map}
use Rattle.std.proofs.lemmas.List.{length-reverse}
use Rattle.basic_laws.specs.Cases.{by}
use Rattle.rules.specs.Types.{Store, Tx, Schedule, Answer, Uncut}
use Rattle.rules.specs.Transaction.{finals}
use Rattle.rules.specs.Faults.{X, Q}
use Rattle.rules.specs.Puts.{Put, put_remove, abort_puts}
use Rattle.rules.specs.Changes.{index_guards, partition_guards, insertions, removals, publication, recycling, stamping}
use Rattle.rules.specs.Commit.{fails, count}
use Rattle.rules.specs.Answer.{uncut, commit}
use Rattle.statements.specs.Words.{Admitted}
use Rattle.statements.specs.Table.{Row, first_row}
use Rattle.statements.specs.NumbersSeen.{takes, lets_go, takes_index, lets_index_go, frees, poisons_unless}
use Rattle.statements.specs.NumbersSeen.{poisons, finishes, takes_out, first_of, some, whole, struck_by}
use Rattle.statements.specs.NumbersSeen.{step_rows, done_row}
use Rattle.statements.specs.CountWords.{g, q, i, r, f, b, n, s, a, p, d, k, both, step_counts, clean_count, beside, Counted}
use Rattle.sentences.specs.RunSays.{run_says}
use Rattle.run_laws.specs.FirstRows.{publish_length, admitted}

-- rows and their numbers side by side
record Along (ws : List Row) (cs : List ℕ) : Type 0 where
  all : map (λ w. length w.makes) ws ≡ cs
  first : (d : Row) → length (first_row ws d).makes ≡ beside ws cs (length d.makes)

over : Along [] []
over = record { all = refl; first = λ d. refl }

next : {w : Row} {ws : List Row} {c : ℕ} {cs : List ℕ} → length w.makes ≡ c → Along ws cs → Along (w ∷ ws) (c ∷ cs)
next {w} e h = record { all = rw (e, h.all); first = λ d. by w.when (λ o. rw o e) (λ o. rw o (h.first d)) }

module _ (S : Store) (x : Tx) (logged : Bool) (plan : Schedule) where
  -- the letters of the lists
  of_g : (t : ℕ) → length (index_guards S x t) ≡ g S x logged plan
  unfolding index_guards
  of_g t = simp length-map

  of_q : (t : ℕ) → length (partition_guards x t) ≡ q S x logged plan
  unfolding partition_guards
  of_q t = simp length-map

  of_i : length (insertions S x) ≡ i S x logged plan
  unfolding insertions
  of_i = simp length-map

  of_r : length (removals S x) ≡ r S x logged plan
  unfolding removals
  of_r = simp length-map

  of_fb : length (publication x) ≡ f S x logged plan + b S x logged plan
  unfolding publication
  of_fb = publish_length x.txid.0 (finals x)

  of_n : length (recycling S x) ≡ n S x logged plan
  unfolding recycling
  of_n = simp length-map

  of_s : length (stamping S x) ≡ s S x logged plan
  unfolding stamping
  of_s = simp length-map

  of_a : length (frees S x logged plan) ≡ a S x logged plan + 1
  unfolding abort_puts
  of_a = simp (length-append, length-map)

  of_p : (c : Bool) → length (poisons_unless S x logged plan c) ≡ cond c 0 1
  of_p true = refl
  of_p false = refl

  once : (c : Bool) → length (cond c (poisons S x logged plan) []) + length (poisons_unless S x logged plan c) ≡ 1
  once true = refl
  once false = refl

  of_d : length (finishes S x logged plan) ≡ d S x logged plan
  of_d = by (fails S x logged plan 21) (λ e. rw e) (λ e. rw e)

  of_out : (made : List ℕ) → length (takes_out S x logged plan made) ≡ length made
  of_out made = length-map (reverse made) put_remove ∙ length-reverse made

  of_k : (step : ℕ) (ps : List Put) (m : ℕ) → length ps ≡ m → length (first_of S x logged plan step ps) ≡ k S x logged plan step m
  of_k step ps m e = length-take (count S x logged plan step) ps ∙ ap (min (count S x logged plan step)) e

  -- the guards, taken and let go, with the index guards' alone
  abbrev t : ℕ
  t = x.txid.0

  stay8 : length (takes_index S x logged plan ++ lets_index_go S x logged plan) ≡ 2 * g S x logged plan
  stay8 = simp length-append (omega (arith, of_g t, of_g 0))

  unaborted8 : length (takes_index S x logged plan ++ (lets_index_go S x logged plan ++ poisons_unless S x logged plan S.poisoned))
      ≡ 2 * g S x logged plan + p S x logged plan
  unaborted8 = simp length-append (omega (arith, of_g t, of_g 0, of_p S.poisoned))

  aborted8 : length (takes_index S x logged plan ++ (lets_index_go S x logged plan ++ frees S x logged plan)) ≡ 2 * g S x logged plan + a S x logged plan + 1
  aborted8 = simp length-append (omega (arith, of_g t, of_g 0, of_a))

  stay : length (takes S x logged plan ++ lets_go S x logged plan) ≡ both S x logged plan
  stay = simp length-append (omega (arith, of_g t, of_g 0, of_q t, of_q 0))

  unaborted : length (takes S x logged plan ++ (lets_go S x logged plan ++ poisons_unless S x logged plan S.poisoned))
      ≡ both S x logged plan + p S x logged plan
  unaborted = simp length-append (omega (arith, of_g t, of_g 0, of_q t, of_q 0, of_p S.poisoned))

  aborted : length (takes S x logged plan ++ (lets_go S x logged plan ++ frees S x logged plan)) ≡ both S x logged plan + a S x logged plan + 1
  aborted = simp length-append (omega (arith, of_g t, of_g 0, of_q t, of_q 0, of_a))

  -- the first k of a rollback
  of_24 : (ds : List ℕ) (m : ℕ) → length ds ≡ m → length (first_of S x logged plan 24 (takes_out S x logged plan ds)) ≡ k S x logged plan 24 m
  of_24 ds m e = of_k 24 (takes_out S x logged plan ds) m (of_out ds ∙ e)

  of_some : length (some S x logged plan) ≡ k S x logged plan 15 (i S x logged plan)
  of_some = length-take (count S x logged plan 15) (whole S x logged plan)

  -- one number after the other
  step_counts_law : Along (step_rows S x logged plan) (step_counts S x logged plan)
  unfolding step_rows step_counts
  step_counts_law =
      let i15 = of_k 15 (insertions S x) (i S x logged plan) of_i in
      let n24 = of_24 (whole S x logged plan) (i S x logged plan) refl in
      let m24 = of_24 (some S x logged plan) (k S x logged plan 15 (i S x logged plan)) of_some in
      let out = of_out (whole S x logged plan) in
      let r17 = of_k 17 (removals S x) (r S x logged plan) of_r in
      let fb18 = of_k 18 (publication x) (f S x logged plan + b S x logged plan) of_fb in
      let n19 = of_k 19 (recycling S x) (n S x logged plan) of_n in
      let s22 = of_k 22 (stamping S x) (s S x logged plan) of_s in
      let off = of_p S.poisoned in
      next refl (next refl (next off (next of_a (next off (next of_a (next off (next of_a (next refl (next off (next of_a (next stay8 (
      next unaborted8 (next aborted8 (next stay (next stay (next unaborted (next aborted (next stay (next unaborted (next aborted (next stay (
      next unaborted (next aborted (next stay (next unaborted (next aborted (next stay (next unaborted (next aborted (
      next (simp length-append (omega (arith, of_g t, of_g 0, of_q t, of_q 0, i15, m24))) (
      next (simp length-append (omega (arith, of_g t, of_g 0, of_q t, of_q 0, i15, of_out (some S x logged plan), of_some))) (
      next (simp length-append (omega (arith, of_g t, of_g 0, of_q t, of_q 0, of_i, n24, once (struck_by S x logged plan 16 Q)))) (
      next (simp length-append (omega (arith, of_g t, of_g 0, of_q t, of_q 0, of_i, n24, once (struck_by S x logged plan 16 Q), of_a))) (
      next (simp length-append (omega (arith, of_g t, of_g 0, of_q t, of_q 0, of_i, out, once (struck_by S x logged plan 16 Q)))) (
      next (simp length-append (omega (arith, of_g t, of_g 0, of_q t, of_q 0, of_i, out, of_a))) (
      next (simp length-append (omega (arith, of_g t, of_g 0, of_q t, of_q 0, of_i, out, of_a))) (
      next (simp length-append (omega (arith, of_g t, of_g 0, of_q t, of_q 0, of_i, n24, once (struck_by S x logged plan 16 X)))) (
      next (simp length-append (omega (arith, of_g t, of_g 0, of_q t, of_q 0, of_i, n24, once (struck_by S x logged plan 16 X), of_a))) (
      next (simp length-append (omega (arith, of_g t, of_g 0, of_q t, of_q 0, of_i, out, once (struck_by S x logged plan 16 X)))) (
      next (simp length-append (omega (arith, of_g t, of_g 0, of_q t, of_q 0, of_i, out, of_a))) (
      next (simp length-append (omega (arith, of_g t, of_g 0, of_q t, of_q 0, of_i, out, of_a))) (
      next (simp length-append (omega (arith, of_g t, of_g 0, of_q t, of_q 0, of_i, r17))) (
      next (simp length-append (omega (arith, of_g t, of_g 0, of_q t, of_q 0, of_i, of_r, fb18, of_d))) (
      next (simp length-append (omega (arith, of_g t, of_g 0, of_q t, of_q 0, of_i, of_r, of_fb, n19, of_d))) (
      next (simp length-append (omega (arith, of_g t, of_g 0, of_q t, of_q 0, of_i, of_r, of_fb, of_n))) (
      next (simp length-append (omega (arith, of_g t, of_g 0, of_q t, of_q 0, of_i, of_r, of_fb, of_n, s22)))
      over))))))))))))))))))))))))))))))))))))))))))))))

  clean_count_law : length (done_row S x logged plan).makes ≡ clean_count S x logged plan
  clean_count_law = simp length-append (omega (arith, of_g t, of_g 0, of_q t, of_q 0, of_i, of_r, of_fb, of_n, of_s))

  -- each row makes as many stores as the letters beside it say
  pub counted : Counted S x logged plan
  counted = (step_counts_law.all, clean_count_law)

  -- and so does every commit that comes to the steps and isn't cut
  pub commit_counted : Admitted S x plan
      → (commit S x logged plan Uncut).stores ≡ beside (step_rows S x logged plan) (step_counts S x logged plan) (clean_count S x logged plan)
  unfolding uncut
  commit_counted ok =
      ap (λ (a : Answer). a.stores) (admitted S x logged plan Uncut ok) ∙ ap length (run_says S x logged plan).makes
      ∙ step_counts_law.first (done_row S x logged plan) ∙ ap (beside (step_rows S x logged plan) (step_counts S x logged plan)) clean_count_law
