-- `postings_rise` meets its contract: what is left from the present place on decides as the whole does.
use mathlib.Core.Path.{◌≡◌}
use Prim.Native.Nat.{suc}
use lib.ListN.{take}
use Rattle.fields.specs.Climb.{climb}
use Rattle.resting.specs.PostingForm.{keyed, rise_left}
use Rattle.resting.proofs.postings.postings_rise.Given as goal

abbrev pub invariant-loop-c : goal.invariant-loop-c
invariant-loop-c l = rise_left l.least l.c-items l.c-index ≡ climb suc keyed 0 (take l.s.posting_count l.s.postings)
