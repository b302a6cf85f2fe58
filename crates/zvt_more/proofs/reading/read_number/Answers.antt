-- Proof of the contract of `read_number`.
use Rattle.std.proofs.Common.{ℕ, ◌^◌, ◌<◌, subst, ◌∙◌}
use Rattle.std.specs.Prelude.{IfSome}
use Rattle.zvt_bmp.proofs.DigitLemmas.{digits_value, digits_bound}
use Rattle.zvt_msg.proofs.CommandLemmas.{number_with}
use Rattle.zvt_more.proofs.reading.read_number.Goals as goal

pub returns-clause-number : goal.returns-clause-number
returns-clause-number c =
    c.ok.ensures.value ∙ digits_value c.args.bytes.now c.bcd_read.result c.bcd_read.ensures ∙ number_with c.args.count c.args.bytes.now c.if-bytes-count.false

pub returns-clause-bound : goal.returns-clause-bound
returns-clause-bound c =
    subst (λ (n : ℕ). IfSome c.ok.result (λ number. number < 100 ^ n)) c.if-bytes-count.false (rw c.ok.ensures.value (digits_bound c.args.bytes.now c.bcd_read.result c.bcd_read.ensures))
