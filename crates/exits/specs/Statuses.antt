-- The statuses that programs end with, and what two runs come to.
use Rattle.std.specs.Prelude.{ℕ}
use Rattle.exits.specs.declared.Exit.{Exit}
use Rattle.exits.specs.declared.Exit.TheVariants.{Answered, Missing, Unread}

-- 141 is a shell's status for a program whose reader stopped reading
abbrev pub status_of : Exit → ℕ
status_of Answered = 0
status_of Missing = 1
status_of Unread = 141

-- one run after another: what is missing of the first stays missing
abbrev pub both : Exit → Exit → Exit
both Answered next = next
both Missing next = Missing
both Unread next = Unread
