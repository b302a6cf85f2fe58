-- Proof of the contract of `printable_str`.
use Rattle.gw_run.proofs.TextLemmas.{printable_utf8}
use Rattle.gw_run.proofs.text.printable_str.Goals as goal

pub from_utf8_unchecked-requires : goal.from_utf8_unchecked-requires
from_utf8_unchecked-requires c = printable_utf8 c.args.bytes.now c.requires
