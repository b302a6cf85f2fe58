-- Proof of the contract of `take`.
use Rattle.std.proofs.lemmas.Int.{to_z-of_z}
use Rattle.zvt_msg.specs.Message.{value_of}
use Rattle.gw_base.specs.Moment.{moment_of}
use Rattle.gw_core.proofs.HandlingLemmas.{taken}
use Rattle.gw_core.proofs.handling.take.Goals as goal

pub returns-clause-taken : goal.returns-clause-taken
returns-clause-taken c =
    taken c.args.terminal.now (value_of c.args.message.now) (value_of c.taken_as-handed.result) (moment_of c.args.now) c.hear.new.talk c.awaited_after-terminal.result c.taken_as-handed.ensures (simp (to_z-of_z, c.ranges.now) at c.hear.ensures.next) c.awaited_after-terminal.ensures

pub hear-requires-clause-moment : goal.hear-requires-clause-moment
hear-requires-clause-moment c = simp (to_z-of_z, c.ranges.now) c.requires.moment
