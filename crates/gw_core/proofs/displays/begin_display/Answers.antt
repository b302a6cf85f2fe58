-- Proof of the contract of `begin_display`.
use Rattle.std.proofs.lemmas.Int.{to_z-of_z}
use Rattle.gw_base.specs.Moment.{moment_of}
use Rattle.gw_core.specs.IsRow.{known_with}
use Rattle.gw_core.proofs.DisplayLemmas.{display-begins}
use Rattle.gw_core.proofs.displays.begin_display.Goals as goal

pub ask-act-requires-clause-moment : goal.ask-act-requires-clause-moment
ask-act-requires-clause-moment c = simp (to_z-of_z, c.ranges.now) c.requires.moment

pub returns-clause-row : goal.returns-clause-row
returns-clause-row c = λ setup kept core.
    display-begins (known_with setup kept core (moment_of c.args.now)) c.args.pt c.args.till c.args.header.now c.args.outputs.now c.args.terminal.now c.ask-act.new.terminal c.last_number-last.result c.in-Some.command c.args.results c.ask-act.result
    c.last_number-last.ensures c.in-Some.ensures c.requires.prepared (simp (to_z-of_z, c.ranges.now) at c.ask-act.ensures.asked) c.ask-act.ensures.act
