-- The value of `jiff` that a civil date and time has.
use Rattle.std.specs.Prelude.{◌≡◌, pos}
use Rattle.jiff_core.specs.declared.civil.datetime.DateTime.{DateTime}
use Rattle.gw_base.specs.declared.moment.Civil.{Civil}

-- the value of `jiff` has these parts, and no fraction of a second
pub record IsDateTimeOf (civil : Civil) (date_time : DateTime) : Type 0 where
  pub year : date_time.date.year ≡ pos civil.year
  pub month : date_time.date.month ≡ civil.month
  pub day : date_time.date.day ≡ civil.day
  pub hour : date_time.time.hour ≡ civil.hour
  pub minute : date_time.time.minute ≡ civil.minute
  pub second : date_time.time.second ≡ civil.second
