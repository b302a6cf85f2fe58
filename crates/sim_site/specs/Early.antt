-- Inner: lines that take effect before the first run.
use Rattle.std.specs.Prelude.{Bool, false}
use Rattle.gw_script.specs.site.Playing.{is_early}
use Rattle.gw_script.specs.site.ScriptLine.{PlayedLine, At, Poll, Fail, Power, ForgetPower}

-- a fail line that takes effect before the first run, where no line that polls comes before it
abbrev pub is_early_line : PlayedLine → Bool
is_early_line (At now) = false
is_early_line (Poll event) = false
is_early_line (Fail failing) = is_early failing
is_early_line (Power calls kind) = false
is_early_line ForgetPower = false
