-- Recycling and abort spare every head.
use Rattle.std.specs.Prelude.{◌≡◌, true, false, List, [], ◌∷◌, ℕ, zero, suc, length, get_or, set, eqb}
use Rattle.std.proofs.Common.{◌∙◌, eqb-true}
use Rattle.std.proofs.lemmas.Bool.{eqb-false, not-true}
use Rattle.records.specs.Limits.{places}
use Rattle.rules.specs.Types.{Store, Tx, Write}
use Rattle.basic_laws.specs.Cases.{by, and_false, or_true, or_false, or_left, or_right}
use Rattle.rules.specs.Lists.{memb}
use Rattle.rules.specs.Store.{used}
use Rattle.rules.specs.Transaction.{finals}
use Rattle.rules.specs.Chains.{walk, on}
use Rattle.rules.specs.Admitted.{resting}
use Rattle.rules.specs.Puts.{own_slots}
use Rattle.rules.specs.Changes.{recycled}
use Rattle.basic_laws.specs.Members.{mem_at}
use Rattle.basic_laws.specs.Chain.{chain_head}
use Rattle.basic_laws.specs.Chained.{walk_sound}
use Rattle.statements.specs.Sized.{Sized}
use Rattle.basic_laws.specs.TestParts.{slots_parts}
use Rattle.run_laws.specs.PublishedChains.{new_heads, new_pointers}
use Rattle.run_laws.specs.OwnSlots.{own_is, recycled_is}
use Rattle.posting_laws.specs.RestingPostings.{mendable}

-- a head is on a chain, by the marks of a walk that ends
pub head_seen : (heads next : List ℕ) (h : ℕ) → length next ≡ places → (walk heads next).ok ≡ true → (h ≡ 0 → ⊥) → memb h heads ≡ true
    → on (walk heads next).seen h ≡ true
head_seen heads next h long ok n m =
    let c = walk_sound heads next long ok in
    let r = mem_at heads h m in
    c.1.marked r.0 h r.1 (chain_head next h (c.0 r.0) (rw r.2 at (c.1.stand.chain r.0 r.1)) n)

-- a head after publication is a new slot or was a head
set_member : (hs : List ℕ) (q n h : ℕ) → eqb h n ≡ false → memb h (set hs q n) ≡ true → memb h hs ≡ true
set_member [] q n h d m = m
set_member (y ∷ hs) zero n h d m = or_right (eqb h y) (memb h hs) (rw d at m)
set_member (y ∷ hs) (suc q) n h d m =
    or_true (eqb h y) (memb h (set hs q n)) m (λ e. or_left (eqb h y) (memb h hs) e) (λ e. or_right (eqb h y) (memb h hs) (set_member hs q n h d e))

new_heads_member : (ws : List Write) (hs : List ℕ) (h : ℕ) → memb h (new_pointers ws) ≡ false → memb h (new_heads ws hs) ≡ true → memb h hs ≡ true
new_heads_member [] hs h d m = m
new_heads_member (w ∷ ws) hs h d m =
    let o = or_false (eqb h w.new.0) (memb h (new_pointers ws)) d in
    set_member hs w.row.0 w.new.0 h o.0 (new_heads_member ws (set hs w.row.0 w.new.0) h o.1 m)

-- "off-chain": no head of a resting store is among a txid's own slots
pub head_not_own : (S : Store) (t : ℕ) → Sized S → resting S ≡ true → (h : ℕ) → memb h S.heads ≡ true
    → memb h (own_slots S.heads S.next S.xmin t) ≡ false
head_not_own S t sized rests h m =
    let r = mendable S rests in
    own_is S.heads S.next S.xmin t h
    ∙ by (eqb h 0)
    (λ e. rw (eqb-true h 0 e, not-true (used S.xmin 0) (slots_parts S r.slots).first))
    (λ e. rw (head_seen S.heads S.next h sized.next r.walked (eqb-false h 0 e) m, and_false (eqb (get_or S.xmin h 0) t))
    (and_false (used S.xmin h)))

-- what is recycled is no head after publication
pub spared : (S : Store) (x : Tx) → Sized S → resting S ≡ true → (h : ℕ) → memb h (new_heads (finals x) S.heads) ≡ true → memb h (recycled S x) ≡ false
spared S x sized rests h m =
    recycled_is S x h
    ∙ by (memb h (new_pointers (finals x)))
    (λ e. rw e (and_false (memb h (own_slots S.heads S.next S.xmin x.txid.0))))
    (λ e. rw (e, head_not_own S x.txid.0 sized rests h (new_heads_member (finals x) S.heads h e m)))
