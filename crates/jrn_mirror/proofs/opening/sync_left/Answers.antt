-- Proof of the contract of `sync_left`.
use Rattle.std.proofs.lemmas.Bool.{or_parts}
use Rattle.jrn_mirror.proofs.OpensLemmas.{ends-synced, ends-gone}
use Rattle.jrn_mirror.proofs.opening.sync_left.Goals as goal

pub returns-then-first-second : goal.returns-then-first-second
returns-then-first-second g c = ends-synced (g.P.Pair.observed c.args.pair.now) (g.P.Pair.observed c.sync_there.new.pair) c.args.first c.args.second c.sync_there.result.0 c.sync_there.result.1 c.if-first-second.true c.requires.copied c.sync_there.ensures.stay c.sync_there.ensures.gone c.sync_there.ensures.turns

pub returns-else-first-second : goal.returns-else-first-second
returns-else-first-second g c = let p = or_parts c.args.first c.args.second c.if-first-second.false in rw (p.0, p.1) (ends-gone (g.P.Pair.observed c.args.pair.now))
