-- Proof of the contract of `plain_str`.
use Rattle.json_text.proofs.ContentLemmas.{plain_utf8}
use Rattle.json_text.proofs.content.plain_str.Goals as goal

pub from_utf8_unchecked-requires : goal.from_utf8_unchecked-requires
from_utf8_unchecked-requires c = plain_utf8 c.args.bytes.now c.requires
