-- Proof of the contract of `read_number`.
use Rattle.json_text.specs.declared.fault.FaultKind.TheVariants as kinds
use Rattle.json_text.proofs.ProgressLemmas.{refused_at}
use Rattle.json_text.proofs.TokenLemmas.{number_refused, number_taken, number_plain}
use Rattle.json_text.proofs.tokens.read_number.Goals as goal

pub returns-then-not-is_whole-clause-refused : goal.returns-then-not-is_whole-clause-refused
returns-then-not-is_whole-clause-refused c = record {
  refuses = λ st h. refused_at c.args.bytes.now _ _ kinds.NotJson c.not_json.ensures
      (number_refused c.args.bytes.now c.args.offset.now c.number_len-len.result.0 c.args.begun c.number_len-len.result.1 st c.requires.there c.requires.begins c.number_len-len.ensures.within c.number_len-len.ensures.leads c.number_len-len.ensures.ends c.if-not-is_whole.ensures h);
}

pub of_plain-requires : goal.of_plain-requires
of_plain-requires c = number_plain c.args.bytes.now c.args.offset.now c.number_len-len.result.0 _ c.requires.there c.requires.begins c.number_len-len.ensures.plain

pub returns-clause-read : goal.returns-clause-read
returns-clause-read c = record {
  comes = λ st h. number_taken c.args.bytes.now c.args.offset.now c.number_len-len.result.0 c.args.begun c.number_len-len.result.1 c.in_ok-of_plain.field-0 st c.requires.there c.requires.begins c.number_len-len.ensures.within c.number_len-len.ensures.leads c.number_len-len.ensures.ends c.if-not-is_whole.ensures c.in_ok-of_plain.ensures h;
}
