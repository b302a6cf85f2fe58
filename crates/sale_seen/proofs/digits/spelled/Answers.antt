-- Proof of the contract of `spelled`.
use Rattle.sale_seen.proofs.MoneyLemmas.{read_whole, too_long}
use Rattle.sale_seen.proofs.digits.spelled.Goals as goal

pub returns-in-None : goal.returns-in-None
returns-in-None c =
    too_long c.loop-byte.value c.loop-byte.byte-index c.args.text.now c.loop-byte-test.true c.loop-byte.invariant c.in-None.ensures

pub returns : goal.returns
returns c =
    read_whole c.loop-byte.value c.loop-byte.byte-index c.args.text.now c.loop-byte-test.false c.loop-byte.invariant
