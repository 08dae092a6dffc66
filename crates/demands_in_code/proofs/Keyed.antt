-- The keys of a store that is passed by value have 32 bits, as its type says.
use denote.Laws.{Is}
use denote.Struct.Laws as LL
use borrow.Author.Rules.{elem_Fits}
use mir.Syntax.{w32}
use Rattle.rules.specs.Types.{Store}
use Rattle.statements.specs.Sized.{Keyed}
use Rattle.records.specs.contracts.Store as T
use Rattle.records.proofs.Store.TheLaws as T'
use Rattle.demands_in_code.specs.Demands.{all_keys}

pub keyed : (s : Store) → Is T.the_row s (LL.vals T.the_type T'.the_laws s) → Keyed s
keyed s g = all_keys s.key (λ i. (elem_Fits w32 w32 s.key _ i g.1.1.1.1.1.1.0.1.1 tt).fits)
