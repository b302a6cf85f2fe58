-- Proof of the contract of `read_string`.
use Rattle.json_text.proofs.TokenLemmas.{plain_copied}
use Rattle.json_text.proofs.tokens.read_string.Goals as goal

pub returns-then-bytes-end-eq34-clause-read : goal.returns-then-bytes-end-eq34-clause-read
returns-then-bytes-end-eq34-clause-read c =
    plain_copied c.args.bytes.now c.args.offset.now c.plain_len.result _ c.requires c.plain_len.ensures.within c.plain_len.ensures.plain c.in_ok-of_plain.ensures
