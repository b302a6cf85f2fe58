-- Proof of the contract of `read_option`.
use Rattle.std.proofs.Common.{◌+◌}
use Rattle.jrn_record.proofs.FieldLemmas.{option_none}
use Rattle.jrn_record.proofs.body_fields.read_option.Goals as goal

pub returns-in-Err-read_zeros : goal.returns-in-Err-read_zeros
returns-in-Err-read_zeros g c =
    (c.in-Err-read_zeros.ensures.0, option_none c.args.what g.row.N (g.row.N + 1) _ c.in-Reversal.is (λ e. c.in-Err-read_zeros.ensures.1 (record {}) tt e))
