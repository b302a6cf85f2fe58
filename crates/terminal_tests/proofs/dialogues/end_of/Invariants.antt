-- What the loop of `end_of` keeps, and why it ends.
use Rattle.std.proofs.Common.{◌≡◌, true}
use Rattle.zvt_talk.specs.Talk.{talk_goes_on}
use Rattle.terminal_tests.proofs.dialogues.end_of.Given as goal

abbrev pub invariant-loop-message : goal.invariant-loop-message
invariant-loop-message l = talk_goes_on l.talk ≡ true
