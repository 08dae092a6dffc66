-- What a commit changes in the index, laid out in arrays: the postings that go in, those that go out, the changed stripes marked.
use Rattle.std.specs.Prelude.{◌≡◌, Bool, true, false, ℕ, ◌+◌, ◌%◌, ◌<◌, ◌≤◌, take, replicate}
use Rattle.std.proofs.Math.Path.{refl, ap}
use Rattle.std.proofs.Common.{sym, ◌∙◌, arith, take_all}
use Rattle.std.proofs.Math.Bool.{not}
use mathlib.Core.List.{List, [], ◌∷◌, ◌++◌, map, append_assoc, append-nil}
use Rattle.std.proofs.Math.Numerals.{add-one}
use Rattle.std.proofs.Math.ListN.{length, get_or, length-append, length-take, length-map, get_or-map}
use Rattle.std.proofs.Math.Seq.{take-suc}
use Rattle.records.specs.Limits.{rows, stripes, write_limit}
use Rattle.records.specs.Zero.{no_write}
use Rattle.rules.specs.Lists.{those, flat}
use Rattle.basic_laws.specs.Cases.{by}
use Rattle.rules.specs.Types.{Write, Value, Absent, Key}
use Rattle.rules.specs.Store.{value_at, same_value}
use Rattle.rules.specs.Changes.{Change, change_of, index_changes, posting_in, destinations, sources, stripes_in}
use Rattle.commit.specs.declared.plan.moves.Moves.{Moves}
use Rattle.fields.specs.Few.{those_few}
use Rattle.fields.specs.Marks.{mark_all, mark_append}
use Rattle.commit.specs.Plan.Plain.{low}

-- no stripe is marked; shut, since a goal would show all its flags
unfoldable pub no_stripes : List Bool
no_stripes = replicate stripes false

-- the stripes of a change, and those of all changes marked
abbrev pub stripes_of : Change → List ℕ
stripes_of c = stripes_in c.before ++ stripes_in c.after

unfoldable pub changed_marks : List Change → List Bool
changed_marks cs = mark_all (flat stripes_of cs) no_stripes

unfoldable pub moves_of : List Change → Moves
moves_of cs = record { into = destinations cs; out = sources cs; stripes = changed_marks cs }

abbrev pub change : ℕ → Value → Value → Change
change r b a = record { row = r; before = b; after = a }

flat_append {ℓ κ} : {A : Type ℓ} {B : Type κ} (f : A → List B) (l : List A) (x : A) → flat f (l ++ x ∷ []) ≡ flat f l ++ f x
flat_append f [] x = append-nil (f x)
flat_append f (y ∷ l) x = rw (flat_append f l x) (sym (append_assoc (f y) (flat f l) (f x)))

-- a change has at most one posting on a side
one_posting : (r : ℕ) (v : Value) → length (posting_in r v) ≤ 1
one_posting r Absent = omega arith
one_posting r (Key k) = omega arith

few_postings : (f : Change → List ℕ) → ((c : Change) → length (f c) ≤ 1) → (cs : List Change) → length (flat f cs) ≤ length cs
few_postings f h [] = omega arith
few_postings f h (c ∷ cs) = omega (arith, length-append (f c) (flat f cs), h c, few_postings f h cs)

pub destinations_few : (cs : List Change) → length (destinations cs) ≤ length cs
unfolding destinations
destinations_few cs = few_postings _ (λ c. one_posting c.row c.after) cs

pub sources_few : (cs : List Change) → length (sources cs) ≤ length cs
unfolding sources
sources_few cs = few_postings _ (λ c. one_posting c.row c.before) cs

-- one change more
module _ (k : Moves) (c : Change) (cs : List Change) (is : k ≡ moves_of cs) (room : length cs < write_limit) where
  pub change_more : {a b : List ℕ} {s t : List Bool}
      → (length k.into < write_limit → a ≡ k.into ++ posting_in c.row c.after) → (length k.out < write_limit → b ≡ k.out ++ posting_in c.row c.before)
      → s ≡ mark_all (stripes_in c.before) k.stripes → t ≡ mark_all (stripes_in c.after) s
      → ◌≡◌ {A = Moves} (record { into = a; out = b; stripes = t }) (moves_of (cs ++ c ∷ []))
  unfolding moves_of destinations sources changed_marks
  change_more {a} {b} {s} {t} f g p q =
      let into : k.into ≡ destinations cs = ap (λ m. m.into) is in
      let out : k.out ≡ sources cs = ap (λ m. m.out) is in
      let i : a ≡ destinations (cs ++ c ∷ []) =
      f (rw into (omega (arith, destinations_few cs))) ∙ rw into (sym (flat_append _ cs c)) in
      let o : b ≡ sources (cs ++ c ∷ []) = g (rw out (omega (arith, sources_few cs))) ∙ rw out (sym (flat_append _ cs c)) in
      let st : k.stripes ≡ changed_marks cs = ap (λ m. m.stripes) is in
      let m : t ≡ changed_marks (cs ++ c ∷ []) = rw (q, p, st, flat_append stripes_of cs c, mark_append (flat stripes_of cs) (stripes_of c) no_stripes)
      (sym (mark_append (stripes_in c.before) (stripes_in c.after) (changed_marks cs))) in
      λ n. record { into = i n; out = o n; stripes = m n }

-- the changes of the first writes
those_append {ℓ} : {A : Type ℓ} (f : A → Bool) (l : List A) (x : A) → those f (l ++ x ∷ []) ≡ those f l ++ those f (x ∷ [])
those_append f [] x = refl
those_append f (y ∷ l) x = by (f y) (λ e. rw (e, those_append f l x)) (λ e. rw (e, those_append f l x))

map_append {ℓ κ} : {A : Type ℓ} {B : Type κ} (f : A → B) (l : List A) (x : A) → map f (l ++ x ∷ []) ≡ map f l ++ f x ∷ []
map_append f [] x = refl
map_append {B = B} f (y ∷ l) x = ap (λ (r : List B). f y ∷ r) (map_append f l x)

pub changes_few : (key : List ℕ) (has : List Bool) (ws : List Write) → length (index_changes key has ws) ≤ length ws
unfolding index_changes
changes_few key has ws = omega (arith, those_few (λ c. not (same_value c.before c.after)) (map (change_of key has) ws), length-map ws (change_of key has))

module _ (key : List ℕ) (has : List Bool) (ws : List Write) where
  unfoldable pub changes_to : ℕ → List Change
  changes_to i = index_changes key has (take i (map low ws))

  pub changes_none : changes_to 0 ≡ []
  unfolding changes_to index_changes
  changes_none = refl

  pub changes_to_few : (i : ℕ) → length (changes_to i) ≤ i
  unfolding changes_to
  changes_to_few i = omega (arith, changes_few key has (take i (map low ws)), length-take i (map low ws))

  -- the next write: it changes a value, or not
  module _ (i : ℕ) (lt : i < length ws) (b a : Value) (base : b ≡ value_at key has (get_or ws i no_write).base.0)
      (new : a ≡ value_at key has (get_or ws i no_write).new.0) where
    next : changes_to (i + 1) ≡ changes_to i ++ those (λ c. not (same_value c.before c.after)) (change ((get_or ws i no_write).row.0 % rows) b a ∷ [])
    unfolding changes_to index_changes
    next =
        let long = length-map ws low in
        rw (
          add-one,
          take-suc (map low ws) i no_write (omega arith),
          get_or-map low ws i no_write,
          map_append (change_of key has) (take i (map low ws)) (low (get_or ws i no_write)),
          those_append (λ c. not (same_value c.before c.after)) (map (change_of key has) (take i (map low ws)))
              (change_of key has (low (get_or ws i no_write))),
          base,
          new,
        )

    pub next_same : same_value b a ≡ true → changes_to (i + 1) ≡ changes_to i
    next_same e = next ∙ rw e (append-nil (changes_to i))

    pub next_new : same_value b a ≡ false → changes_to (i + 1) ≡ changes_to i ++ change ((get_or ws i no_write).row.0 % rows) b a ∷ []
    next_new e = next ∙ rw e

  -- all of them
  pub changes_all : (i : ℕ) → length ws ≤ i → changes_to i ≡ index_changes key has (map low ws)
  unfolding changes_to
  changes_all i h = let long = length-map ws low in rw (take_all i (map low ws) (omega arith))
