-- Proof of the contract of `pass_colon`.
use Rattle.json_text.specs.inner.ReaderStates.{colon}
use Rattle.json_text.specs.declared.fault.FaultKind.TheVariants as kinds
use Rattle.json_text.proofs.ProgressLemmas.{refused_at, handed_on}
use Rattle.json_text.proofs.TokenLemmas.{colon_between}
use Rattle.json_text.proofs.NestingLemmas.{colon_open, colon_passes, no_colon}
use Rattle.json_text.proofs.tokens.pass_colon.Goals as goal

pub returns-in_err-byte-clause-refused : goal.returns-in_err-byte-clause-refused
returns-in_err-byte-clause-refused c =
    handed_on _ c.from_residual.result _ c.from_residual.ensures.1 (record { refuses = λ done k st d h. c.in_err-byte.ensures.refused.refuses (colon done k) st (colon_between done k d) (colon_open done k st) h })

pub returns-then-byte-ne58-clause-refused : goal.returns-then-byte-ne58-clause-refused
returns-then-byte-ne58-clause-refused c =
    let t = c.in_ok-byte.ensures.token in
    record { refuses = λ done k st d h. refused_at c.args.bytes.now _ c.peek_token.new.offset kinds.NotJson c.not_json.ensures (no_colon c.args.bytes.now c.peek_token.new.offset _ done k st t.begins.there t.begins.byte t.not_space c.if-byte-ne58.true (t.skips.comes (colon done k) st (colon_between done k d) h)) }

pub returns-clause-read : goal.returns-clause-read
returns-clause-read c =
    let t = c.in_ok-byte.ensures.token in
    record { comes = λ done k st d h. colon_passes c.args.bytes.now c.peek_token.new.offset _ done k st t.begins.there t.begins.byte c.if-byte-ne58.false d (t.skips.comes (colon done k) st (colon_between done k d) h) }
