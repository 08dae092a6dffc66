-- What the declared lines mean: for each case, the line of document 01's definitions.
use Rattle.rules.specs.Replay.{line_b, line_r, line_w, line_l, line_k, line_a, line_c, line_f, line_v, line_bad}
use Rattle.rules.specs.Replay as replay
use Rattle.script.specs.declared.Line.{Line}
use Rattle.script.specs.declared.Line.TheVariants.{Begin, Read, Write, Lookup, Lock, Abort, Commit, Fault, Recover, Bad}

abbrev pub meaning : Line → replay.Line
meaning (Begin i) = line_b i
meaning (Read i r) = line_r i r.0
meaning (Write i r v) = line_w i r.0 v
meaning (Lookup i k) = line_l i k
meaning (Lock i r) = line_k i r.0
meaning (Abort i) = line_a i
meaning (Commit i logged cut) = line_c i logged cut
meaning (Fault f) = line_f f.step f.letter f.k
meaning Recover = line_v
meaning Bad = line_bad
