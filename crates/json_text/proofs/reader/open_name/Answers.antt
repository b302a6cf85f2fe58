-- Proof of the contract of `open_name`.
use Rattle.json_text.specs.inner.ReaderStates.{name}
use Rattle.json_text.specs.declared.fault.FaultKind.TheVariants as kinds
use Rattle.json_text.proofs.ProgressLemmas.{refused_at, handed_on}
use Rattle.json_text.proofs.TokenLemmas.{name_between}
use Rattle.json_text.proofs.NestingLemmas.{name_open, name_opens, no_name}
use Rattle.json_text.proofs.reader.open_name.Goals as goal

pub returns-in_err-peek_token-clause-refused : goal.returns-in_err-peek_token-clause-refused
returns-in_err-peek_token-clause-refused c =
    handed_on _ c.from_residual.result _ c.from_residual.ensures.1 (record { refuses = λ done st d h. c.in_err-peek_token.ensures.refused.refuses (name done) st (name_between done d) (name_open done st) h })

pub returns-then-branch-ne34-clause-refused : goal.returns-then-branch-ne34-clause-refused
returns-then-branch-ne34-clause-refused c =
    let t = c.in_ok-peek_token.ensures.token in
    record { refuses = λ done st d h. refused_at c.args.bytes.now _ c.peek_token.new.offset kinds.NotJson c.not_json.ensures (no_name c.args.bytes.now c.peek_token.new.offset _ done st t.begins.there t.begins.byte t.not_space c.if-branch-ne34.true (t.skips.comes (name done) st (name_between done d) h)) }

pub returns-clause-read : goal.returns-clause-read
returns-clause-read c =
    let t = c.in_ok-peek_token.ensures.token in
    record { comes = λ done st d h. name_opens c.args.bytes.now c.peek_token.new.offset _ done st t.begins.there t.begins.byte c.if-branch-ne34.false d (t.skips.comes (name done) st (name_between done d) h) }
