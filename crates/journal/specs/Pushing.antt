-- Blocks of puts as code pushes them: what is pushed so far and what is left make the block.
use Rattle.std.specs.Prelude.{◌≡◌, refl, List, [], ◌∷◌, ◌++◌}
use Rattle.std.proofs.Common.{sym, ap, ◌∙◌, append_assoc, append-nil}
use Rattle.rules.specs.Puts.{Put}
use Rattle.journal.specs.Adds.{Adds, adds_none, adds_then}

-- a journal that began as j₀ has some of a block pushed; `left` of it is to come
pub record Pushing (j₀ block left j : List Put) : Type 0 where
  pub done : List Put
  pub adds : Adds j₀ done j
  pub whole : done ++ left ≡ block

pub pushing_start : (j block : List Put) → Pushing j block block j
pushing_start j block = record { done = []; adds = adds_none j; whole = refl }

pub pushing_end : {j₀ j block left : List Put} → Pushing j₀ block left j → left ≡ [] → Adds j₀ block j
pushing_end {j₀} {j} {block} {left} p e =
    let w = sym (append-nil p.done) ∙ ap (λ (l : List Put). p.done ++ l) (sym e) ∙ p.whole in
    rw w at p.adds

-- a block inside the block, or one put
pub pushing_more : {j₀ j after block : List Put} (ps : List Put) {left : List Put} → Pushing j₀ block (ps ++ left) j → Adds j ps after
    → Pushing j₀ block left after
pushing_more ps {left} h a =
    record { done = h.done ++ ps; adds = adds_then h.adds a; whole = append_assoc h.done ps left ∙ h.whole }

pub pushing_next : {j₀ j after block : List Put} {p : Put} {left : List Put} → Pushing j₀ block (p ∷ left) j → Adds j (p ∷ []) after
    → Pushing j₀ block left after
pushing_next {p = p} h a = pushing_more (p ∷ []) h a
