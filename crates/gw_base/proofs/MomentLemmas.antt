-- The civil date and time of a moment.
use Rattle.std.proofs.Common.{◌≡◌, ℕ, suc, zero, ◌+◌, ◌-◌, ◌*◌, ◌/◌, ◌%◌, ◌<◌, ◌≤◌, ◌==◌, nat_lt, min, get_or, ◌∷◌, ◌++◌, [], true, false, ℤ, pos, negsuc, ◌*ℤ◌, List, arith, sym, subst, All, length, length-append, ◌∙◌, ap, refl}
use Rattle.std.proofs.lemmas.Bool.{eqb-true, eqb-false, ltb-true, ltb-false}
use Rattle.std.proofs.lemmas.Int.{by_lt_z}
use Rattle.std.proofs.lemmas.List.Elements.{All-append, All-cons, All-nil, All-push}
use Rattle.jiff_core.specs.Calendar.{IsCivilDate, IsYear, day_count, days_from_civil, days_in_month}
use Rattle.jiff_core.specs.declared.civil.datetime.DateTime.{DateTime}
use Rattle.jiff_core.proofs.CalendarLemmas.{day_count-next_month, day_count-next_year, day_count-last_of_year, day_count-later_year, day_count-day_of_year, day_count-day, day_count-end, day_count-epoch, days_in_month_bounds, days_from_civil-day_count}
use Rattle.jiff_core.proofs.DateLemmas.{epoch_day_injective}
use Rattle.jiff_core.proofs.DateTimeLemmas.{civil_nanos-civil_seconds, civil_nanos_injective, time_nanos_injective}
use Rattle.jiff_core.specs.DateTime.{civil_nanos, civil_seconds}
use Rattle.jiff_core.proofs.SignedLemmas.{signed_arith}
use Rattle.gw_base.specs.Digits.{digits}
use Rattle.gw_base.specs.Ident.{IsPrintable}
use Rattle.gw_base.specs.inner.DateTime.{IsDateTimeOf}
use Rattle.gw_base.specs.declared.moment.Civil.{Civil}
use Rattle.gw_base.specs.Moment.{Day, IsCivil, IsStamp, civil_at, civil_text, day_after, day_at, last_moment, moment_of, seconds_of, stamp_of}

-- a day of the calendar, and how many days it lies after the first of a month
pub record IsDayAfter (year month days : ℕ) (found : Day) : Type 0 where
  pub low : 1 ≤ found.month
  pub high : found.month ≤ 12
  pub first : 1 ≤ found.day
  pub last : found.day ≤ days_in_month (pos found.year) found.month
  pub count : day_count (pos found.year) found.month found.day ≡ day_count (pos year) month 1 + days

-- a day within the month
here : (year month days : ℕ) → 1 ≤ month → month ≤ 12 → days < days_in_month (pos year) month
    → IsDayAfter year month days (record { year = year; month = month; day = days + 1 })
here year month days low high within = record {
  low = low;
  high = high;
  first = omega arith;
  last = omega arith;
  count = omega (arith, day_count-day (pos year) month 1 (days + 1) (omega arith) (omega arith));
}

-- a day after the next month's first lies as many days further after this one's
after_month : (year month days : ℕ) (found : Day) → 1 ≤ month → days_in_month (pos year) month ≤ days
    → IsDayAfter year (month + 1) (days - days_in_month (pos year) month) found → IsDayAfter year month days found
after_month year month days found low long h = record {
  low = h.low;
  high = h.high;
  first = h.first;
  last = h.last;
  count = omega (arith, h.count, day_count-next_month (pos year) month low);
}

after_december : (year days : ℕ) (found : Day) → days_in_month (pos year) 12 ≤ days
    → IsDayAfter (year + 1) 1 (days - days_in_month (pos year) 12) found → IsDayAfter year 12 days found
after_december year days found long h = record {
  low = h.low;
  high = h.high;
  first = h.first;
  last = h.last;
  count =
      let next = day_count-next_year (pos year) (pos (year + 1)) (omega (arith, signed_arith)) (omega (arith, signed_arith)) in
      let last = day_count-last_of_year (pos year) in
      let day = day_count-day (pos year) 12 31 1 (omega arith) (omega arith) in
      omega (arith, h.count, next, last, day);
}

december : (year month days : ℕ) (found : Day) → month ≡ 12 → days_in_month (pos year) month ≤ days
    → IsDayAfter (year + 1) 1 (days - days_in_month (pos year) month) found → IsDayAfter year month days found
december year month days found e =
    let P : ℕ → Type 0 = λ m. days_in_month (pos year) m ≤ days
    → IsDayAfter (year + 1) 1 (days - days_in_month (pos year) m) found → IsDayAfter year m days found in
    subst P (sym e) (after_december year days found)

-- whole months taken off lead to the day
pub day_after-is : (most year month days : ℕ) → 1 ≤ month → month ≤ 12 → days < 28 * (most + 1)
    → IsDayAfter year month days (day_after most year month days)
unfolding day_after
day_after-is zero year month days low high few =
    here year month days low high (omega (arith, days_in_month_bounds (pos year) month))
day_after-is (suc most) year month days low high few =
    let bounds = days_in_month_bounds (pos year) month in
    let rest = days - days_in_month (pos year) month in
    let fits : nat_lt days (days_in_month (pos year) month) ≡ true → days < days_in_month (pos year) month = λ e. ltb-true _ _ e in
    let long : nat_lt days (days_in_month (pos year) month) ≡ false → days_in_month (pos year) month ≤ days = λ e. ltb-false _ _ e in
    elim (nat_lt days (days_in_month (pos year) month)) as (λ b. nat_lt days (days_in_month (pos year) month) ≡ b
    → IsDayAfter year month days (elim b [
      | true ↦ record { year = year; month = month; day = days + 1 }
      | false ↦ elim (month == 12) [ true ↦ day_after most (year + 1) 1 rest | false ↦ day_after most year (month + 1) rest ]
    ])) [
      | true ↦ λ e. here year month days low high (fits e)
      | false ↦ λ e. elim (month == 12) as (λ b. (month == 12) ≡ b
          → IsDayAfter year month days (elim b [ true ↦ day_after most (year + 1) 1 rest | false ↦ day_after most year (month + 1) rest ])) [
            | true ↦ λ f. december year month days _ (eqb-true _ _ f) (long e)
                (day_after-is most (year + 1) 1 rest (omega arith) (omega arith) (omega (arith, bounds, long e)))
            | false ↦ λ f. after_month year month days _ low (long e)
                (day_after-is most year (month + 1) rest (omega arith) (omega (arith, eqb-false month 12 f)) (omega (arith, bounds, long e)))
          ] refl
    ] refl

-- a day up to the last moment's is one of the calendar
day_is : (days : ℕ) (found : Day) → days ≤ 2932532 → IsDayAfter 1970 1 days found
    → IsCivilDate (pos found.year) found.month found.day
    × (days_from_civil (pos found.year) found.month found.day ≡ pos days)
day_is days found few h =
    let count : day_count (pos found.year) found.month found.day ≡ 4_371_953 + days = omega (arith, h.count, day_count-epoch) in
    let ninth = day_count-next_year (pos 9999) (pos 10000) (omega (arith, signed_arith)) (omega (arith, signed_arith)) in
    let day = day_count-day_of_year (pos found.year) found.month found.day h.first in
    let known : found.year ≤ 9999 = by_lt_z (pos 9999) (pos found.year)
    (λ lt. absurd (omega (arith, day_count-later_year (pos 9999) (pos found.year) (omega (arith, signed_arith)) lt, ninth, day_count-end, day, count, h.first)))
    (λ le. omega (arith, signed_arith)) in
    let year : IsYear (pos found.year) = omega (arith, signed_arith) in (
      (year, (h.low, h.high), (h.first, h.last)),
      omega (arith, signed_arith, days_from_civil-day_count (pos found.year) found.month found.day, count),
    )

-- hours, minutes and seconds make up the seconds of a day
clock : (seconds : ℕ) → seconds / 86400 * 86400 + (seconds % 86400 / 3600 * 3600 + seconds % 3600 / 60 * 60 + seconds % 60) ≡ seconds
clock seconds = omega arith

-- the civil date and time at a moment are those after so many seconds
pub civil_at-is : (moment : ℕ) → moment ≤ last_moment → IsCivil (civil_at moment) × (seconds_of (civil_at moment) ≡ pos moment)
unfolding day_at
civil_at-is moment h =
    let days = moment / 86400 in
    let few : days ≤ 2932532 = omega arith in
    let day = day_is days (day_at days) few (day_after-is 105000 1970 1 days (omega arith) (omega arith) (omega arith)) in (
      record { date = day.0; hour = omega arith; minute = omega arith; second = omega arith },
      omega (arith, signed_arith, day.1, clock moment),
    )

-- the value of `jiff` with these parts
abbrev plain : (civil : Civil) → IsCivil civil → DateTime
plain civil h = record {
  date = record {
    year = pos civil.year;
    month = civil.month;
    day = civil.day;
    year_in = h.date.0;
    month_in = h.date.1;
    day_in = h.date.2;
  };
  time = record {
    hour = civil.hour;
    minute = civil.minute;
    second = civil.second;
    subsec_nanosecond = 0;
    hour_in = h.hour;
    minute_in = h.minute;
    second_in = h.second;
    subsec_in = omega arith;
  };
}

plain-seconds : (civil : Civil) (h : IsCivil civil) → civil_nanos (plain civil h) ≡ seconds_of civil *ℤ pos 1_000_000_000
unfolding civil_seconds
plain-seconds civil h =
    let e : civil_seconds (plain civil h) ≡ seconds_of civil = refl in
    omega (arith, signed_arith, civil_nanos-civil_seconds (plain civil h), e)

-- the parts of a value of `jiff` that counts the same nanoseconds
pub date_time_parts : (civil : Civil) (h : IsCivil civil) (date_time : DateTime) → civil_nanos date_time ≡ seconds_of civil *ℤ pos 1_000_000_000
    → IsDateTimeOf civil date_time
date_time_parts civil h date_time e =
    let same = civil_nanos_injective date_time (plain civil h) (e ∙ sym (plain-seconds civil h)) in
    let date = epoch_day_injective date_time.date (plain civil h).date same.0 in
    let time = time_nanos_injective date_time.time (plain civil h).time same.1 in
    record { year = date.0; month = date.1; day = date.2; hour = time.0; minute = time.1; second = time.2 }

-- civil dates and times that differ have different seconds
pub seconds_of-injective : (a b : Civil) → IsCivil a → IsCivil b → seconds_of a ≡ seconds_of b → civil_text a ≡ civil_text b
unfolding civil_text
seconds_of-injective a b h k e =
    let shows = date_time_parts a h (plain b k) (plain-seconds b k ∙ ap (λ z. z *ℤ pos 1_000_000_000) (sym e)) in
    let year : b.year ≡ a.year = omega (arith, signed_arith, shows.year) in
    rw (year, shows.month, shows.day, shows.hour, shows.minute, shows.second) refl

-- a text of a moment is its stamp
pub stamp_of-only : (moment : ℕ) → moment ≤ last_moment → (text : List ℕ) → IsStamp moment text → text ≡ stamp_of (pos moment)
unfolding stamp_of
stamp_of-only moment h text (civil, is, seconds, e) =
    let same_moment : min moment last_moment ≡ moment = omega arith in
    let own = civil_at-is moment h in
    e ∙ seconds_of-injective civil (civil_at moment) is own.0 (seconds ∙ sym own.1)
    ∙ ap (λ m. civil_text (civil_at m)) (sym same_moment)

-- a number taken into the range is a moment, and a moment stays
pub moment_of_bound : (now : ℤ) → moment_of now ≤ last_moment
moment_of_bound (pos seconds) = omega arith
moment_of_bound (negsuc _) = omega arith

-- the four digits of a year are two and two
year_digits : (year : ℕ) → digits 2 (year / 100) ++ digits 2 (year % 100) ≡ digits 4 year
year_digits year =
    let thousands : year / 100 / 10 % 10 ≡ year / 10 / 10 / 10 % 10 = omega arith in
    let hundreds : year / 100 % 10 ≡ year / 10 / 10 % 10 = omega arith in
    let tens : year % 100 / 10 % 10 ≡ year / 10 % 10 = omega arith in
    let ones : year % 100 % 10 ≡ year % 10 = omega arith in
    cc

-- a list of two is made of its elements
two_of : (pair : List ℕ) (number : ℕ) → pair ≡ digits 2 number → get_or pair 0 0 ∷ get_or pair 1 0 ∷ [] ≡ digits 2 number
two_of pair number e = rw e refl

-- the parts in digits, put together
pub civil_text-parts : (civil : Civil) (c y m d h n s : List ℕ) → c ≡ digits 2 (civil.year / 100) → y ≡ digits 2 (civil.year % 100)
    → m ≡ digits 2 civil.month → d ≡ digits 2 civil.day → h ≡ digits 2 civil.hour → n ≡ digits 2 civil.minute → s ≡ digits 2 civil.second
    → get_or c 0 0 ∷ get_or c 1 0 ∷ get_or y 0 0 ∷ get_or y 1 0 ∷ 45 ∷ get_or m 0 0 ∷ get_or m 1 0 ∷ 45 ∷ get_or d 0 0 ∷ get_or d 1 0 ∷ 84
    ∷ get_or h 0 0 ∷ get_or h 1 0 ∷ 58 ∷ get_or n 0 0 ∷ get_or n 1 0 ∷ 58 ∷ get_or s 0 0 ∷ get_or s 1 0 ∷ 90 ∷ [] ≡ civil_text civil
unfolding civil_text
civil_text-parts civil c y m d h n s ec ey em ed eh en es =
    rw (ec, ey, em, ed, eh, en, es) (ap (λ year. year ++ (0x2D ∷ digits 2 civil.month ++ (0x2D ∷ digits 2 civil.day
    ++ (0x54 ∷ digits 2 civil.hour ++ (0x3A ∷ digits 2 civil.minute ++ (0x3A ∷ digits 2 civil.second ++ 0x5A ∷ [])))))) (year_digits civil.year))

-- each part has at most two digits, and the year four
pub civil_bounds : (civil : Civil) → IsCivil civil → (civil.year < 10000) × (civil.month < 100) × (civil.day < 100)
civil_bounds civil h =
    (omega (arith, signed_arith, h.date.0), omega (arith, h.date.1), omega (arith, h.date.2, days_in_month_bounds (pos civil.year) civil.month))

-- so many printable bytes
record IsPlain (count : ℕ) (text : List ℕ) : Type 0 where
  count_is : length text ≡ count
  printable : All IsPrintable text

digits-plain : (count value : ℕ) → IsPlain count (digits count value)
digits-plain zero value = record { count_is = refl; printable = All-nil IsPrintable }
digits-plain (suc count) value =
    let h = digits-plain count (value / 10) in
    let e = length-append (digits count (value / 10)) ((48 + value % 10) ∷ []) in
    let p : IsPrintable (48 + value % 10) = (omega arith, omega arith) in
    record {
      count_is = omega (arith, e, h.count_is);
      printable = All-push IsPrintable (digits count (value / 10)) (48 + value % 10) h.printable p;
    }

-- digits and a printable byte after them, before a printable text
plain_part : (count value byte : ℕ) {n : ℕ} {text : List ℕ} → IsPrintable byte → IsPlain n text
    → IsPlain (count + (n + 1)) (digits count value ++ (byte ∷ text))
plain_part count value byte {n} {text} here h =
    let d = digits-plain count value in
    record {
      count_is = omega (arith, length-append (digits count value) (byte ∷ text), d.count_is, h.count_is);
      printable =
          All-append IsPrintable (digits count value) (byte ∷ text) d.printable (All-cons IsPrintable byte text here h.printable);
    }

civil_text-plain : (civil : Civil) → IsPlain 20 (civil_text civil)
unfolding civil_text
civil_text-plain civil =
    let empty : IsPlain 0 [] = record { count_is = refl; printable = All-nil IsPrintable } in
    plain_part 4 civil.year 0x2D (omega arith, omega arith)
    (plain_part 2 civil.month 0x2D (omega arith, omega arith)
    (plain_part 2 civil.day 0x54 (omega arith, omega arith)
    (plain_part 2 civil.hour 0x3A (omega arith, omega arith)
    (plain_part 2 civil.minute 0x3A (omega arith, omega arith)
    (plain_part 2 civil.second 0x5A (omega arith, omega arith) empty)))))

-- a stamp is 20 printable bytes
pub stamp_of-plain : (now : ℤ) → (length (stamp_of now) ≡ 20) × All IsPrintable (stamp_of now)
unfolding stamp_of
stamp_of-plain now =
    let h = civil_text-plain (civil_at (moment_of now)) in
    (h.count_is, h.printable)
