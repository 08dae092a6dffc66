-- The last own write of a row, from the last write back.
use Rattle.std.specs.Prelude.{◌≡◌, refl, cond, List, [], ◌∷◌, ℕ, eqb, reverse}
use Rattle.std.specs.List.{fold}
use Rattle.std.proofs.Common.{ap, ◌∙◌}
use Rattle.std.proofs.lemmas.List.{reverse-append}
use Rattle.std.proofs.lemmas.List.Sums.{fold_push}
use Rattle.records.specs.Zero.{no_write}
use Rattle.rules.specs.Types.{Write}
use Rattle.rules.specs.Transaction.{last_own}

-- the last own write as a fold, from the last write to the first: an earlier one counts only as long as no later one has a slot
abbrev pub own_before : ℕ → Write → Write → Write
own_before r own w = cond (eqb own.new.0 0) (cond (eqb w.row.0 r) w no_write) own

pub own_folded : (r : ℕ) (ws : List Write) → fold (own_before r) no_write (reverse ws) ≡ last_own r ws
own_folded r [] = refl
own_folded r (w ∷ ws) =
    ap (fold (own_before r) no_write) (reverse-append (w ∷ []) ws) ∙ fold_push (own_before r) no_write (reverse ws) w ∙ rw (own_folded r ws)
