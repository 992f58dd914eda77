-- A civil date and time as one number.
use Rattle.std.specs.Prelude.{ℕ, ℤ, pos, ◌+ℤ◌, ◌*ℤ◌, ◌+◌, ◌*◌, ◌/◌}
use Rattle.jiff.specs.declared.civil.datetimes.DateTime.{DateTime}

-- the year in front of two digits each of month, day, hour, minute and second, and of three of the millisecond
abbrev pub civil_number : DateTime → ℤ
civil_number at =
    (at.date.year *ℤ pos 10_000_000_000_000)
    +ℤ pos (at.date.month * 100_000_000_000 + at.date.day * 1_000_000_000 + at.time.hour * 10_000_000 + at.time.minute * 100_000 + at.time.second * 1_000 + at.time.subsec_nanosecond / 1_000_000)
