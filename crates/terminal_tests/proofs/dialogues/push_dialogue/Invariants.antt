-- What the loop of `push_dialogue` keeps, and why it ends.
use Rattle.std.proofs.Common.{◌≡◌}
use Rattle.zvt_talk.specs.Talk.{talk_goes_on}
use Rattle.terminal_tests.proofs.dialogues.push_dialogue.Given as goal

-- whether messages are still taken is known
abbrev pub invariant-loop-step : goal.invariant-loop-step
invariant-loop-step l = talk_goes_on l.talk ≡ l.goes_on
