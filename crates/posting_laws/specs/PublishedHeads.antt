-- Publication: each final write's row has its new slot as head, and keys and postings stay.
use Rattle.std.specs.Prelude.{◌≡◌, refl, true, not, List, [], ◌∷◌, ℕ, length, get_or, set, eqb, ltb}
use Rattle.std.proofs.Common.{◌∙◌, arith, length-set, get_or-set_same, get_or-set_other, eqb-true, ltb-true}
use Rattle.std.proofs.lemmas.Bool.{eqb-false, not-true}
use Rattle.rules.specs.Types.{Write}
use Rattle.basic_laws.specs.Cases.{by, and_true}
use Rattle.rules.specs.Lists.{all, memb}
use Rattle.run_laws.specs.PublishedChains.{new_heads}
use Rattle.basic_laws.specs.Rising.{unique}
use Rattle.posting_laws.specs.Written.{rows_of, pick, pick_none}

-- a written row's head is its write's new slot, another's the one it was
pub new_heads_at : (n : ℕ) (ws : List Write) (hs : List ℕ) (r : ℕ) → length hs ≡ n → all (λ w. ltb w.row.0 n) ws ≡ true → unique (rows_of ws) ≡ true
    → get_or (new_heads ws hs) r 0 ≡ pick (λ w. w.new.0) (get_or hs r 0) r ws
new_heads_at n [] hs r long b u = refl
new_heads_at n (w ∷ ws) hs r long b u =
    let q = w.row.0 in
    let a = and_true (ltb q n) (all (λ w. ltb w.row.0 n) ws) b in
    let c = and_true (not (memb q (rows_of ws))) (unique (rows_of ws)) u in
    let rest = new_heads_at n ws (set hs q w.new.0) r (length-set hs q w.new.0 ∙ long) a.1 c.1 in
    by (eqb r q)
    (λ e. rest
    ∙ pick_none (λ w. w.new.0) (get_or (set hs q w.new.0) r 0) r ws (rw (eqb-true r q e) (not-true (memb q (rows_of ws)) c.0))
    ∙ rw (e, eqb-true r q e) (get_or-set_same hs q w.new.0 0 (omega (arith, ltb-true q n a.0))))
    (λ e. rest ∙ rw (e, get_or-set_other hs q r w.new.0 0 (eqb-false r q e)))
