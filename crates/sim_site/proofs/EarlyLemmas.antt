-- The lines that take effect before the first run, and those that are left.
use Rattle.std.proofs.Common.{◌≡◌, ℕ, zero, suc, ◌<◌, List, [], ◌∷◌, length, drop, refl, arith, true, false}
use Rattle.std.specs.List.{list_all}
use Rattle.std.specs.Prelude.{Bool, ◌&&◌, if◌then◌else◌}
use Rattle.gw_script.specs.Decode.{is_empty}
use Rattle.gw_script.specs.site.Playing.{early_lines, is_early}
use Rattle.gw_script.specs.site.ScriptLine.{Failing, PlayedLine, Fail}
use Rattle.sim_script.specs.Values.{failing_value, lines_value, script_line_value}
use Rattle.sim_script.specs.declared.line.ScriptLine.{ScriptLine}
use Rattle.sim_script.specs.declared.line.ScriptLine.TheVariants.{At as ReadAt, Poll as ReadPoll, Fail as ReadFail, Power as ReadPower, ForgetPower as ReadForgetPower}
use Rattle.sim_site.specs.Early.{is_early_line}

by_test : (test rest : Bool) (failing : Failing) (lines : List PlayedLine) → rest ≡ is_empty lines → (test && rest) ≡ is_empty (if test then lines else Fail failing ∷ lines)
by_test true rest failing lines e = e
by_test false rest failing lines e = refl

-- none is left where each takes effect before the first run
pub early_all : (lines : List ScriptLine) → list_all (λ line. is_early_line (script_line_value line)) lines ≡ is_empty (early_lines (lines_value lines))
early_all [] = refl
early_all (ReadAt moment ∷ lines) = refl
early_all (ReadPoll event ∷ lines) = refl
early_all (ReadFail failing ∷ lines) = by_test (is_early (failing_value failing)) (list_all (λ line. is_early_line (script_line_value line)) lines) (failing_value failing) (early_lines (lines_value lines)) (early_all lines)
early_all (ReadPower calls kind ∷ lines) = refl
early_all (ReadForgetPower ∷ lines) = refl

-- before the end some line is left
pub some_left : (lines : List ScriptLine) (n : ℕ) → n < length lines → is_empty (lines_value (drop n lines)) ≡ false
some_left [] n lt = absurd (omega (arith, lt))
some_left (line ∷ lines) zero lt = refl
some_left (line ∷ lines) (suc n) lt = some_left lines n (omega (arith, lt))
