-- Tests on numbers, from the facts that the code finds.
use Rattle.std.specs.Prelude.{◌≡◌, true, false, not, ℕ, eqb}
use Rattle.std.proofs.Common.{arith, eq-eqb, ne_eqb, lt-ltb, le-ltb}
use Rattle.rules.specs.Lists.{is_zero, nonzero}

module _ {n : ℕ} where
  pub zero_yes : n ≡ 0 → is_zero n ≡ true
  zero_yes e = eq-eqb n 0 e

  pub zero_no : (n ≡ 0 → ⊥) → is_zero n ≡ false
  zero_no e = ne_eqb n 0 e

  pub nonzero_yes : (n ≡ 0 → ⊥) → nonzero n ≡ true
  nonzero_yes e = lt-ltb 0 n (omega arith)

  pub nonzero_no : n ≡ 0 → nonzero n ≡ false
  nonzero_no e = le-ltb 0 n (omega arith)

module _ {m n : ℕ} where
  pub differ_yes : (m ≡ n → ⊥) → not (eqb m n) ≡ true
  differ_yes e = rw (ne_eqb m n e)

  pub differ_no : m ≡ n → not (eqb m n) ≡ false
  differ_no e = rw (eq-eqb m n e)
