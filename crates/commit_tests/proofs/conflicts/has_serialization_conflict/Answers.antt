-- `has_serialization_conflict` meets its contract: the first read that conflicts, or how many there are.
use Rattle.std.proofs.Common.{◌≡◌, ◌∙◌, sym, arith, rules, take, length}
use Rattle.std.proofs.lemmas.List.{length-take}
use Rattle.std.proofs.lemmas.Iterator.{YieldsList-from_slice, YieldsList-from_take}
use Rattle.std.proofs.lemmas.Iterator.Search.{position_from_yields_List}
use Rattle.records.specs.Limits.{active_limit, read_limit}
use Rattle.fields.specs.Lent.{at_rows, at_places, at_active, array_same}
use Rattle.rules.specs.Tests.{read_conflict, serialization_conflict, serialization_place}
use Rattle.commit_tests.specs.Conflicts.{first_place, no_place, read_conflict_of, read_conflict_of_law}
use Rattle.commit_tests.proofs.conflicts.has_serialization_conflict.Goals as goal

pub returns-in-Some : goal.returns-in-Some
unfolding serialization_conflict serialization_place
returns-in-Some c =
    let s = c.args.s.now in
    let x = c.args.x.now in
    let long : length x.snapshot ≡ active_limit = search rules in
    λ S h m n.
    first_place (read_conflict S x) (take x.read_count x.reads)
    (sym c.in-Some.is ∙ position_from_yields_List (read_conflict S x) _ _ _ c.position-conflicts.ensures.ran
    (YieldsList-from_take x.read_count (YieldsList-from_slice x.reads (cc)) (cc))
    (λ e b q k.
    let z : (q ≡ _) × (b ≡ read_conflict_of (at_rows s.heads) (at_places s.xmin) (at_places s.xmax)
    (take x.snapshot_count (at_active x.snapshot)) x.txid.0 x.snapshot_xmax.0 e.now) =
    search rules in
    (z.0, z.1 ∙ rw (array_same active_limit 0 x.snapshot long) (read_conflict_of_law S x e.now h m n)))) (omega arith)

pub returns-in-None : goal.returns-in-None
unfolding serialization_conflict serialization_place
returns-in-None c =
    let s = c.args.s.now in
    let x = c.args.x.now in
    let long : length x.snapshot ≡ active_limit = search rules in
    let full : length x.reads ≡ read_limit = search rules in
    λ S h m n.
    no_place (read_conflict S x) (take x.read_count x.reads)
    (sym c.in-None.is ∙ position_from_yields_List (read_conflict S x) _ _ _ c.position-conflicts.ensures.ran
    (YieldsList-from_take x.read_count (YieldsList-from_slice x.reads (cc)) (cc))
    (λ e b q k.
    let z : (q ≡ _) × (b ≡ read_conflict_of (at_rows s.heads) (at_places s.xmin) (at_places s.xmax)
    (take x.snapshot_count (at_active x.snapshot)) x.txid.0 x.snapshot_xmax.0 e.now) =
    search rules in
    (z.0, z.1 ∙ rw (array_same active_limit 0 x.snapshot long) (read_conflict_of_law S x e.now h m n))))
    (c.clipped.ensures ∙ sym (rw full at (length-take x.read_count x.reads)))
