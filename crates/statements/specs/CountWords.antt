-- How many stores a commit makes, for each row of "Numbers seen": "A clean commit makes 2g + 2q + i + r + f + b + n + 1 + s stores: stripes guarded,
-- partitions, insertions, removals, final writes, those with a base, recycled slots, stamped stripes." What a refused commit makes, in the same letters.
use Rattle.std.specs.Prelude.{◌≡◌, Bool, not, cond, List, [], ◌∷◌, map, ℕ, ◌+◌, ◌*◌, min, length, eqb}
use Rattle.rules.specs.Lists.{those}
use Rattle.rules.specs.Types.{Store, Tx, Schedule}
use Rattle.rules.specs.Transaction.{finals}
use Rattle.rules.specs.Puts.{own_slots}
use Rattle.rules.specs.Changes.{changes, destinations, sources, changed_stripes, guarded_stripes, guarded_partitions, recycled}
use Rattle.rules.specs.Commit.{fails, count}
use Rattle.statements.specs.Table.{Row}
use Rattle.statements.specs.NumbersSeen.{step_rows, done_row}

module _ (S : Store) (x : Tx) (logged : Bool) (plan : Schedule) where
  -- the paper's letters
  abbrev pub g : ℕ
  g = length (guarded_stripes (changes S x) x)

  abbrev pub q : ℕ
  q = length (guarded_partitions x)

  abbrev pub i : ℕ
  i = length (destinations (changes S x))

  abbrev pub r : ℕ
  r = length (sources (changes S x))

  abbrev pub f : ℕ
  f = length (finals x)

  abbrev pub b : ℕ
  b = length (those (λ w. not (eqb w.base.0 0)) (finals x))

  abbrev pub n : ℕ
  n = length (recycled S x)

  abbrev pub s : ℕ
  s = length (changed_stripes (changes S x))

  -- a frees and one drop are an abort's stores; p is a poison, of which a poisoned store needs none; d the drop of 14 and 15, unless 21 fails
  abbrev pub a : ℕ
  a = length (own_slots S.heads S.next S.xmin x.txid.0)

  abbrev pub p : ℕ
  p = cond S.poisoned 0 1

  abbrev pub d : ℕ
  d = cond (fails S x logged plan 21) 0 1

  -- "k after k stores clipped to the step's number": the fault's k, or all m if that is fewer
  abbrev pub k : ℕ → ℕ → ℕ
  k step m = min (count S x logged plan step) m

  -- the guards, taken and let go
  abbrev pub both : ℕ
  both = 2 * g + 2 * q

  -- F at 11 to 14; a test's yes: the abort failed, the abort done
  abbrev pub test : List ℕ → List ℕ
  test more = both ∷ (both + p) ∷ (both + a + 1) ∷ more

  -- 16: rollback and abort failed, the rollback, the abort, neither but poisoned at once, neither
  abbrev pub call : List ℕ → List ℕ
  call more =
      (both + i + k 24 i + 1)
      ∷ (both + i + k 24 i + 1 + a + 1)
      ∷ (both + i + i + 1)
      ∷ (both + i + 1 + i + a + 1)
      ∷ (both + i + i + a + 1)
      ∷ more

  -- one number for each row of `step_rows`, in its order
  unfoldable pub step_counts : List ℕ
  step_counts =
      0
      ∷ 0
      ∷ p  -- 5
      ∷ (a + 1)
      ∷ p  -- 6
      ∷ (a + 1)
      ∷ p
      ∷ (a + 1)
      ∷ 0  -- 7
      ∷ p
      ∷ (a + 1)
      ∷ (2 * g)  -- 8
      ∷ (2 * g + p)
      ∷ (2 * g + a + 1)
      ∷ both  -- 9
      ∷ both
      ∷ (both + p)  -- 10
      ∷ (both + a + 1)
      ∷ test (test (test (test (
      (both + k 15 i + k 24 (k 15 i) + 1)  -- 15
      ∷ (both + k 15 i + k 15 i)
      ∷ call (call (
      (both + i + k 17 r + 1)
      ∷ (both + i + r + k 18 (f + b) + 1 + d)
      ∷ (both + i + r + f + b + k 19 n + 1 + d)
      ∷ (both + i + r + f + b + n + 1)  -- 21
      ∷ (both + i + r + f + b + n + 1 + k 22 s + 1)
      ∷ []))))))

  abbrev pub clean_count : ℕ
  clean_count = 2 * g + 2 * q + i + r + f + b + n + 1 + s

-- the number beside the first row that applies, d if none does
abbrev pub beside : List Row → List ℕ → ℕ → ℕ
beside [] cs d = d
beside (w ∷ ws) [] d = d
beside (w ∷ ws) (c ∷ cs) d = cond w.when c (beside ws cs d)

-- each row makes as many stores as stand beside it
abbrev pub Counted : Store → Tx → Bool → Schedule → Type 0
Counted S x logged plan =
    (map (λ w. length w.makes) (step_rows S x logged plan) ≡ step_counts S x logged plan)
    × (length (done_row S x logged plan).makes ≡ clean_count S x logged plan)
