-- Proof of the contract of `peek_token`.
use Rattle.std.proofs.Common.{arith}
use Rattle.json_text.specs.declared.fault.FaultKind.TheVariants as kinds
use Rattle.json_text.proofs.ProgressLemmas.{refused_at, refuse_end}
use Rattle.json_text.proofs.tokens.peek_token.Goals as goal

pub returns-else-offset-bytes-clause-refused : goal.returns-else-offset-bytes-clause-refused
returns-else-offset-bytes-clause-refused c = record {
  refuses = λ p st i o h. refused_at c.args.bytes.now _ c.skip_white.new.offset kinds.NotJson c.not_json.ensures (refuse_end c.args.bytes.now c.skip_white.new.offset p st (omega (arith, c.if-offset-bytes.false)) (c.skip_white.ensures.stays.comes p st i h) o);
}
