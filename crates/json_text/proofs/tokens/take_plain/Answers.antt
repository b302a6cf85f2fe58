-- Proof of the contract of `take_plain`.
use Rattle.std.proofs.Common.{◌≡◌, ◌+◌, ◌-◌, ◌++◌, take, drop, string_bytes, rules}
use Rattle.json_text.proofs.TokenLemmas.{plain_appended}
use Rattle.json_text.proofs.tokens.take_plain.Goals as goal

pub returns-clause-read : goal.returns-clause-read
returns-clause-read c =
    let grown : string_bytes c.push_str.new.self ≡ string_bytes c.args.text.now ++ take (c.args.offset.now + c.plain_len-len.result - c.args.offset.now) (drop c.args.offset.now c.args.bytes.now) = search rules in
    plain_appended c.args.bytes.now c.args.offset.now c.plain_len-len.result _ _ c.requires c.plain_len-len.ensures.within c.plain_len-len.ensures.plain grown
