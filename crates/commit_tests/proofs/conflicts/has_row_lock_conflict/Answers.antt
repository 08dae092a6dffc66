-- `has_row_lock_conflict` meets its contract: the first write whose head is locked by another, or how many there are.
use Rattle.std.proofs.Common.{◌≡◌, ◌∙◌, sym, arith, rules, get_or, take, length}
use Rattle.std.proofs.lemmas.List.{length-take}
use Rattle.std.proofs.lemmas.Iterator.{YieldsList-from_slice, YieldsList-from_take}
use Rattle.std.proofs.lemmas.Iterator.Search.{position_from_yields_List}
use Rattle.records.specs.Limits.{write_limit}
use Rattle.fields.specs.Locks.{locked_of, locked_of_law}
use Rattle.fields.specs.Lent.{at_rows, at_places, flags_at_places, at_active}
use Rattle.rules.specs.Tests.{head_locked, row_lock_conflict, row_lock_place}
use Rattle.commit_tests.specs.Conflicts.{first_place, no_place}
use Rattle.commit_tests.proofs.conflicts.has_row_lock_conflict.Goals as goal

pub returns-in-Some : goal.returns-in-Some
unfolding row_lock_conflict row_lock_place
returns-in-Some c =
    let s = c.args.s.now in
    let x = c.args.x.now in
    λ S h l o a.
    first_place (head_locked S x) (take x.write_count x.writes)
    (sym c.in-Some.is ∙ position_from_yields_List (head_locked S x) _ _ _ c.position-locked.ensures.ran
    (YieldsList-from_take x.write_count (YieldsList-from_slice x.writes (cc)) (cc))
    (λ w b q k.
    let z : (q ≡ _) × (b ≡ locked_of (flags_at_places s.locked) (at_places s.owner) (at_active s.active) x.txid.0 (get_or (at_rows s.heads) w.now.row.0 0)) =
    search rules in
    (z.0, z.1 ∙ rw (h, locked_of_law, l, o, a)))) (omega arith)

pub returns-in-None : goal.returns-in-None
unfolding row_lock_conflict row_lock_place
returns-in-None c =
    let s = c.args.s.now in
    let x = c.args.x.now in
    let long : length x.writes ≡ write_limit = search rules in
    λ S h l o a.
    no_place (head_locked S x) (take x.write_count x.writes)
    (sym c.in-None.is ∙ position_from_yields_List (head_locked S x) _ _ _ c.position-locked.ensures.ran
    (YieldsList-from_take x.write_count (YieldsList-from_slice x.writes (cc)) (cc))
    (λ w b q k.
    let z : (q ≡ _) × (b ≡ locked_of (flags_at_places s.locked) (at_places s.owner) (at_active s.active) x.txid.0 (get_or (at_rows s.heads) w.now.row.0 0)) =
    search rules in
    (z.0, z.1 ∙ rw (h, locked_of_law, l, o, a))))
    (c.clipped.ensures ∙ sym (rw long at (length-take x.write_count x.writes)))
