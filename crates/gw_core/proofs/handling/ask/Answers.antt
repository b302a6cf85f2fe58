-- Proof of the contract of `ask`.
use Rattle.std.proofs.Common.{refl}
use Rattle.std.proofs.lemmas.Int.{to_z-of_z}
use Rattle.gw_core.proofs.HandlingLemmas.{dialogue-begins}
use Rattle.gw_core.proofs.handling.ask.Goals as goal

pub start-requires : goal.start-requires
start-requires c = record {
  not_stop = c.requires.not_stop;
  moment = simp (to_z-of_z, c.ranges.now) c.requires.moment;
}

pub returns-clause-asked : goal.returns-clause-asked
returns-clause-asked c =
    rw (dialogue-begins c.args.terminal.now.pt c.args.command c.args.now c.start.result c.requires.not_stop c.requires.moment (simp (to_z-of_z, c.ranges.now) at c.start.ensures.talk), c.one_more-terminal.ensures) refl
