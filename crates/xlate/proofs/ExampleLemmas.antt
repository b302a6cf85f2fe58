-- The moment of the examples.
use Rattle.std.proofs.Common.{pos, arith}
use Rattle.std.proofs.lemmas.Int.{ints}
use Rattle.gw_base.specs.Moment.{IsMoment}

-- 2025-03-07T10:11:04Z is a moment
pub example_moment : IsMoment (pos 1741342264)
example_moment = (omega (arith, ints), omega (arith, ints))
