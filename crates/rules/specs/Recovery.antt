-- Recovery, the last sentences of "Other calls".
use Rattle.std.specs.Prelude.{Bool, false, cond, List, [], ◌∷◌, map, ℕ, length, get_or, set, replicate, eqb}
use Rattle.records.specs.Limits.{stripes, partitions, posting_limit, active_limit, places}
use Rattle.rules.specs.Lists.{keep, pad}
use Rattle.rules.specs.Types.{Store, Mended, Open, Done, NotRepairable}
use Rattle.rules.specs.Chains.{walk}
use Rattle.rules.specs.Admitted.{finished, head_postings, repairable}

-- "it removes an unfinished first version"
abbrev pub trim_head : (ℕ → Bool) → List ℕ → List ℕ → ℕ → ℕ
trim_head fin xmin next h = cond (eqb h 0) 0 (cond (fin (get_or xmin h 0)) h (get_or next h 0))

-- "sets an unfinished head xmax to 0"
abbrev pub clear : (ℕ → Bool) → List ℕ → List ℕ → List ℕ
clear fin [] xmax = xmax
clear fin (h ∷ hs) xmax = clear fin hs (cond (fin (get_or xmax h 0)) xmax (set xmax h 0))

-- "frees off-chain slots, rebuilds postings, clears guards, row locks, active list, poison and doom. Clock, stamps and durably bound stay."
unfoldable pub recovered : Store → Store
recovered S =
    let fin = finished S.active S.doomed in
    let hs = map (trim_head fin S.xmin S.next) S.heads in
    let seen = (walk hs S.next).seen in
    let found = head_postings S.key S.has 0 hs in
    record {
      heads = hs;
      xmin = keep 0 seen S.xmin;
      xmax = keep 0 seen (clear fin hs S.xmax);
      next = keep 0 seen S.next;
      key = keep 0 seen S.key;
      has = keep false seen S.has;
      locked = replicate places false;
      owner = replicate places 0;
      postings = pad posting_limit 0 found;
      posting_count = length found;
      stripe_guards = replicate stripes 0;
      partition_guards = replicate partitions 0;
      stamps = S.stamps;
      active = replicate active_limit 0;
      clock = S.clock;
      poisoned = false;
      doomed = 0;
      bound = S.bound;
    }

-- "Recovery takes any repairable store"; "20 .. not repairable .. unchanged"
unfoldable pub recover : Store → Mended
recover S = cond (repairable S) (record { refusal = Done; store = recovered S }) (record { refusal = NotRepairable Open; store = S })
