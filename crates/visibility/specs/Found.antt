-- What read and write find for a row, from the fields of the store that they read.
use Rattle.std.specs.Prelude.{◌≡◌, refl, cond, List, ℕ, eqb}
use Rattle.rules.specs.Types.{Store, Tx}
use Rattle.rules.specs.Transaction.{last_own, writes_of}
use Rattle.rules.specs.Calls.{visible_version, read_ptr, base_of}

module _ (heads next xmin : List ℕ) (x : Tx) (r : ℕ) where
  unfoldable pub read_ptr_of : ℕ
  read_ptr_of = let own = (last_own r (writes_of x)).new.0 in cond (eqb own 0) (visible_version heads next xmin x r) own

  unfoldable pub base_of_row : ℕ
  base_of_row = let own = last_own r (writes_of x) in cond (eqb own.new.0 0) (visible_version heads next xmin x r) own.base.0

-- they are the definitions' on the whole store
pub read_ptr_law : (S : Store) (x : Tx) (r : ℕ) → read_ptr S x r ≡ read_ptr_of S.heads S.next S.xmin x r
unfolding read_ptr read_ptr_of
read_ptr_law S x r = refl

pub base_of_law : (S : Store) (x : Tx) (r : ℕ) → base_of S x r ≡ base_of_row S.heads S.next S.xmin x r
unfolding base_of base_of_row
base_of_law S x r = refl
