-- Proof of the contract of `law_log_text`.
use Rattle.std.proofs.Common.{refl, arith}
use Rattle.std.specs.Fmt.{digits}
use Rattle.hex.specs.Hex.{encode_with}
use Rattle.gw_script.proofs.LogTextLemmas.{text-of-frame, text-of-bytes}
use Rattle.gw_script.proofs.law_log_text.Goals as goal

pub returns-clause-framed : goal.returns-clause-framed
returns-clause-framed c = text-of-frame

pub returns-clause-other : goal.returns-clause-other
returns-clause-other c = text-of-bytes

pub returns-clause-printable : goal.returns-clause-printable
unfolding digits
returns-clause-printable c = record { printable = record { is_message = (omega arith, omega arith); printable = ((omega arith, omega arith), ((omega arith, omega arith), tt)) }; text_is = refl }

pub returns-clause-incomplete : goal.returns-clause-incomplete
unfolding encode_with
returns-clause-incomplete c = refl
