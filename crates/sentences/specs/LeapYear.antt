-- Document 02, wish 7, computed at the paper's last-minute: the minutes of a leap year, from 0 on.
use Rattle.std.specs.Prelude.{◌≡◌, refl, suc, ◌*◌}
use Rattle.records.specs.Limits.{last_minute}

-- "527,039 is the last in a leap year": 366 days of 24 hours of 60 minutes
pub leap_year : suc last_minute ≡ 366 * 24 * 60
leap_year = refl
