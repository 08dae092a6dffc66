-- Puts that leave the postings exactly the heads'.
use Rattle.std.specs.Prelude.{◌≡◌, refl, Bool, true, false, List, [], ◌∷◌, map, ℕ, suc, get_or}
use Rattle.std.proofs.Common.{sym, ◌∙◌}
use Rattle.rules.specs.Types.{Store}
use Rattle.basic_laws.specs.Cases.{mem_here, mem_there}
use Rattle.rules.specs.Lists.{memb}
use Rattle.rules.specs.Admitted.{head_postings}
use Rattle.rules.specs.Puts.{Put, k_insert, k_remove, k_head, k_free, k_key, put_free, apply_all}
use Rattle.run_laws.specs.OnlyKinds.{only, heads_kept, key_kept, has_kept}
use Rattle.run_laws.specs.GuardPuts.{set_all, set_all_else}
use Rattle.rules.specs.Store.{postings_of}
use Rattle.run_laws.specs.FreedSlots.{freed_is}
use Rattle.posting_laws.specs.RestingPostings.{Exact}
use Rattle.posting_laws.specs.Exact.{postings_kept}

-- puts that touch neither postings nor heads nor keys
pub exact_kept : (ks : List ℕ) → memb k_insert ks ≡ false → memb k_remove ks ≡ false → memb k_head ks ≡ false → memb k_free ks ≡ false → memb k_key ks ≡ false
    → (ps : List Put) (T : Store) → only ks ps ≡ true → Exact T → Exact (apply_all ps T)
exact_kept ks i r h f k ps T o e =
    rw (postings_kept ks i r ps T o, key_kept ks f k ps T o, has_kept ks f k ps T o, heads_kept ks h ps T o) e

-- the heads' postings go by the heads' slots alone
pub heads_same : (key key' : List ℕ) (has has' : List Bool) (r : ℕ) (hs : List ℕ)
    → ((h : ℕ) → memb h hs ≡ true → (get_or has' h false ≡ get_or has h false) × (get_or key' h 0 ≡ get_or key h 0))
    → head_postings key' has' r hs ≡ head_postings key has r hs
heads_same key key' has has' r [] e = refl
heads_same key key' has has' r (h ∷ hs) e =
    let a = e h (mem_here h hs) in
    rw (a.0, a.1, heads_same key key' has has' (suc r) hs (λ q m. e q (mem_there q h hs m)))

-- slots freed that are no heads
pub exact_freed : (qs : List ℕ) (T : Store) → ((h : ℕ) → memb h T.heads ≡ true → memb h qs ≡ false) → Exact T → Exact (apply_all (map put_free qs) T)
unfolding postings_of
exact_freed qs T n e =
    rw (freed_is qs T) (e ∙ sym (heads_same T.key (set_all T.key qs 0) T.has (set_all T.has qs false) 0 T.heads
    (λ h m. (set_all_else false qs T.has false h (n h m), set_all_else 0 qs T.key 0 h (n h m)))))
