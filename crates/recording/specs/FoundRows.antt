-- The rows that a lookup finds, as code holds them.
use Rattle.std.specs.Prelude.{◌≡◌, refl, Bool, true, false, List, [], ◌∷◌, ◌++◌, map, ℕ, ◌+◌, ◌≤◌}
use Rattle.std.proofs.Math.Path.{sym}
use Rattle.std.proofs.Common.{ap, ◌∙◌, append-nil, arith, length-append}
use Rattle.std.proofs.Math.ListN.{length}
use Rattle.std.proofs.lemmas.List.{length-map}
use Rattle.std.proofs.Math.Seq.{append_snoc}
use Rattle.records.specs.Limits.{rows}
use Rattle.rules.specs.Types.{Tx, RowId}
use Rattle.rules.specs.Store.{carries}
use Rattle.rules.specs.Calls.{as_row}
use Rattle.visibility.specs.Found.{read_ptr_of}
use Rattle.recording.specs.LookupTurns.{matching_of}
use Rattle.recording.specs.declared.laid.Laid.{Laid}
use Rattle.recording.specs.Laid.{laid}

abbrev pub RowList : Type 0
RowList = Laid RowId rows

-- rows laid out in an array
unfoldable pub row_list : List ℕ → RowList
row_list l = laid rows (as_row 0) (map as_row l)

map_snoc : (l : List ℕ) (r : ℕ) → map as_row (l ++ r ∷ []) ≡ map as_row l ++ as_row r ∷ []
map_snoc [] r = refl
map_snoc (x ∷ l) r = ap (λ (k : List RowId). as_row x ∷ k) (map_snoc l r)

-- the rows found so far, `done`, and those from here on, `rest`, are all that match
pub record Finding (found : RowList) (r : ℕ) (rest whole : List ℕ) : Type 0 where
  pub done : List ℕ
  pub few : length done ≤ r
  pub held : found ≡ row_list done
  pub all : done ++ rest ≡ whole

pub none_found : (rest whole : List ℕ) → rest ≡ whole → Finding (row_list []) 0 rest whole
none_found rest whole e = record { done = []; few = omega arith; held = refl; all = e }

module _ (found : RowList) (r : ℕ) (rest whole : List ℕ) (f : Finding found r rest whole) where
  -- no more than the rows passed
  pub found_few : found.count ≤ r
  unfolding row_list laid
  found_few = let c : found.count ≡ length (map as_row f.done) = ap (λ (q : RowList). q.count) f.held in omega (arith, length-map f.done as_row, f.few)

  -- one row more, which does not match
  pub not_found : (more : List ℕ) → rest ≡ more → Finding found (r + 1) more whole
  not_found more e = record { done = f.done; few = omega (arith, f.few); held = f.held; all = rw e at f.all }

  -- one that does
  pub found_one : (more : List ℕ) {next : RowList} → rest ≡ r ∷ more
      → ((z : RowId) (m : List RowId) → found ≡ laid rows z m → next ≡ laid rows z (m ++ as_row r ∷ [])) → Finding next (r + 1) more whole
  unfolding row_list
  found_one more e pushed = record {
    done = f.done ++ r ∷ [];
    few = omega (arith, f.few, length-append f.done (r ∷ []));
    held = pushed (as_row 0) (map as_row f.done) f.held ∙ ap (laid rows (as_row 0)) (sym (map_snoc f.done r));
    all = append_snoc f.done r more ∙ (rw e at f.all);
  }

  -- none left
  pub all_found : rest ≡ [] → found ≡ row_list whole
  all_found e = f.held ∙ ap row_list (sym (append-nil f.done) ∙ (rw e at f.all))

-- a candidate more: it matches if its read value is the key
module _ (heads next xmin key : List ℕ) (has : List Bool) (x : Tx) (k : ℕ) (rs : List ℕ) where
  pub matches_none : rs ≡ [] → matching_of heads next xmin key has x k rs ≡ []
  unfolding matching_of
  matches_none e = rw e

  module _ (r p : ℕ) (rest : List ℕ) (next_row : rs ≡ r ∷ rest) (read : p ≡ read_ptr_of heads next xmin x r) (b : Bool) (test : b ≡ carries key has p k) where
    pub matches_yes : b ≡ true → matching_of heads next xmin key has x k rs ≡ r ∷ matching_of heads next xmin key has x k rest
    unfolding matching_of
    matches_yes e = rw (next_row, ← read, ← test, e)

    pub matches_not : b ≡ false → matching_of heads next xmin key has x k rs ≡ matching_of heads next xmin key has x k rest
    unfolding matching_of
    matches_not e = rw (next_row, ← read, ← test, e)
