-- Proof of the contract of `number_in`.
use Rattle.std.proofs.Common.{◌∙◌, sym, ap, subst, arith}
use Rattle.std.specs.Fmt.{decimal}
use Rattle.std.specs.Result.{result_ok}
use Rattle.std.specs.Str.{IsUtf8}
use Rattle.std.proofs.lemmas.Fmt.{IsAscii-decimal, parse-decimal}
use Rattle.std.proofs.lemmas.Str.{IsUtf8-from_ascii}
use Rattle.gw_ledger.proofs.transaction.number_in.Goals as goal

pub returns-in-Ok : goal.returns-in-Ok
returns-in-Ok c = λ value lt e.
    c.ok.ensures.value
    ∙ ap result_ok (parse-decimal 32 value c.in-Ok.text.now c.from_str_radix.result lt (omega arith) (c.in-Ok.ensures.cases.0 ∙ e) c.from_str_radix.ensures.value)

pub returns-in-Err : goal.returns-in-Err
returns-in-Err c = λ value lt e.
    absurd (c.in-Err.ensures.cases.0 (subst IsUtf8 (sym e) (IsUtf8-from_ascii (decimal value) (IsAscii-decimal value (omega arith)))))
