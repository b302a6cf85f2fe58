-- Proof of the contract of `slot_in`.
use Rattle.std.proofs.Common.{arith}
use Rattle.gw_ledger.proofs.NamedLemmas.{no_slot}
use Rattle.gw_ledger.proofs.transaction.slot_in.Goals as goal

pub returns-then-text-lt-SLOT_OFFSET : goal.returns-then-text-lt-SLOT_OFFSET
returns-then-text-lt-SLOT_OFFSET c = λ slot lt e. absurd (no_slot c.args.text.now slot (omega (arith, c.if-text-lt-SLOT_OFFSET.true)) lt e)
