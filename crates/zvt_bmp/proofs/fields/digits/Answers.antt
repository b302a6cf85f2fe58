-- Proof of the contract of `digits`.
use Rattle.zvt_bmp.proofs.DigitLemmas.{digits_value, digits_bound}
use Rattle.zvt_bmp.proofs.fields.digits.Goals as goal

pub returns-clause-bound : goal.returns-clause-bound
returns-clause-bound c = rw c.ok.ensures.value (digits_bound c.args.bytes.now c.bcd_read.result c.bcd_read.ensures)

pub returns-clause-value : goal.returns-clause-value
returns-clause-value c = rw c.ok.ensures.value (digits_value c.args.bytes.now c.bcd_read.result c.bcd_read.ensures)
