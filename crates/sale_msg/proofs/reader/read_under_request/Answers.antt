-- Proof of the contract of `read_under_request`.
use Rattle.std.proofs.Common.{inr}
use Rattle.json_text.specs.ValueOf.{value_of}
use Rattle.sale_msg.specs.declared.table.Envelope.TheVariants as envelopes
use Rattle.sale_msg.proofs.MessageLemmas.{kind_is_notification}
use Rattle.sale_msg.proofs.reader.read_under_request.Goals as goal

pub returns-in_default : goal.returns-in_default
returns-in_default c =
    λ message headed. (
      envelopes.Request,
      value_of c.args.body.now,
      c.args.header.now,
      record {
        under = headed.0;
        header_is = headed.1;
        silent = inr (kind_is_notification (value_of c.args.body.now) c.args.header.now headed.1 c.in_default.not-Request);
      },
    )
