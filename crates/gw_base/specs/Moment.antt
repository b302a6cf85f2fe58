-- Moments are seconds since 1970-01-01T00:00:00Z, and each has its civil date and time in UTC.
-- The last is the beginning of the year 9999. The calendar is that of `jiff`: the proleptic Gregorian one, where a day
-- is counted through the lengths of the years and months before it.
use Rattle.std.specs.Prelude.{◌≡◌, ℕ, suc, zero, ◌+◌, ◌-◌, ◌*◌, ◌/◌, ◌%◌, ◌<◌, ◌==◌, nat_lt, min, true, false, ℤ, pos, negsuc, ◌+ℤ◌, ◌*ℤ◌, ◌≤ℤ◌, List, [], ◌∷◌, ◌++◌}
use Rattle.jiff_core.specs.Calendar.{IsCivilDate, days_from_civil, days_in_month}
use Rattle.gw_base.specs.declared.moment.Civil.{Civil}
use Rattle.gw_base.specs.Digits.{digits}

-- the last moment, 9999-01-01T00:00:00Z
abbrev pub last_moment : ℕ
last_moment = 253370764800

-- a moment lies from 1970-01-01T00:00:00Z to 9999-01-01T00:00:00Z
abbrev pub IsMoment : ℤ → Type 0
IsMoment now = (pos 0 ≤ℤ now) × (now ≤ℤ pos last_moment)

-- a number of seconds taken into the range of moments
abbrev pub moment_of : ℤ → ℕ
moment_of (pos seconds) = min seconds last_moment
moment_of (negsuc _) = 0

-- the calendar has the day, and the day has the time
pub record IsCivil (civil : Civil) : Type 0 where
  pub date : IsCivilDate (pos civil.year) civil.month civil.day
  pub hour : civil.hour < 24
  pub minute : civil.minute < 60
  pub second : civil.second < 60

-- how many seconds after 1970-01-01T00:00:00Z it is
abbrev pub seconds_of : Civil → ℤ
seconds_of civil =
    days_from_civil (pos civil.year) civil.month civil.day *ℤ pos 86400
    +ℤ pos (civil.hour * 3600 + civil.minute * 60 + civil.second)

-- `YYYY-MM-DDTHH:MM:SSZ`
unfoldable pub civil_text : Civil → List ℕ
civil_text civil =
    digits 4 civil.year ++ (0x2D ∷ digits 2 civil.month ++ (0x2D ∷ digits 2 civil.day
    ++ (0x54 ∷ digits 2 civil.hour ++ (0x3A ∷ digits 2 civil.minute ++ (0x3A ∷ digits 2 civil.second ++ 0x5A ∷ [])))))

-- the text is that of the civil date and time at which so many seconds have passed
abbrev pub IsStamp : ℕ → List ℕ → Type 0
IsStamp moment text =
    (civil : Civil) × IsCivil civil × (seconds_of civil ≡ pos moment) × (text ≡ civil_text civil)

-- a day of the calendar
pub record Day : Type 0 where
  pub year : ℕ
  pub month : ℕ
  pub day : ℕ

-- the day that lies `days` after the first of the month: whole months are taken off while one fits,
-- `most` at most
unfoldable pub day_after : ℕ → ℕ → ℕ → ℕ → Day
day_after zero year month days = record { year = year; month = month; day = days + 1 }
day_after (suc most) year month days =
    elim (nat_lt days (days_in_month (pos year) month)) [
      | true ↦ record { year = year; month = month; day = days + 1 }
      | false ↦ elim (month == 12) [
        | true ↦ day_after most (year + 1) 1 (days - days_in_month (pos year) month)
        | false ↦ day_after most year (month + 1) (days - days_in_month (pos year) month)
      ]
    ]

-- the day that lies so many days after 1970-01-01; 105,000 months reach beyond the year 9999
unfoldable pub day_at : ℕ → Day
day_at days = day_after 105000 1970 1 days

-- the civil date and time at a moment
abbrev pub civil_at : ℕ → Civil
civil_at moment = record {
  year = (day_at (moment / 86400)).year;
  month = (day_at (moment / 86400)).month;
  day = (day_at (moment / 86400)).day;
  hour = moment % 86400 / 3600;
  minute = moment % 3600 / 60;
  second = moment % 60;
}

-- the text of a number of seconds, taken into the range of moments
unfoldable pub stamp_of : ℤ → List ℕ
stamp_of now = civil_text (civil_at (moment_of now))
