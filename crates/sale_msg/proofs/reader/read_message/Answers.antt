-- Proof of the contract of `read_message`.
use Rattle.std.proofs.Common.{Result, Err, subst, sym}
use Rattle.json_text.specs.ValueOf.{value_of}
use Rattle.sale_values.specs.declared.fault.SaleFault.{SaleFault}
use Rattle.sale_values.specs.declared.request.Incoming.{Incoming}
use Rattle.sale_msg.specs.Grammar.{IsSaleFault, IsTillMessage, RefusesTree}
use Rattle.sale_msg.specs.declared.error.MessageError.{MessageError}
use Rattle.sale_msg.specs.declared.error.MessageError.TheVariants as errors
use Rattle.sale_msg.proofs.MessageLemmas.{ok_part, err_part}
use Rattle.sale_msg.proofs.UniqueLemmas.{result_message, result_fault}
use Rattle.sale_msg.proofs.reader.read_message.Goals as goal

pub returns-in-Ok : goal.returns-in-Ok
returns-in-Ok c =
    let m = value_of c.args.tree.now in
    let outcome = c.read_headed.ensures m c.in-Ok.ensures.ok in
    record {
      ok = ok_part c.read_headed.result (IsTillMessage m) (RefusesTree m) outcome;
      err = err_part c.read_headed.result (IsTillMessage m) (RefusesTree m) outcome;
      every = result_message m c.read_headed.result outcome;
      each = result_fault m c.read_headed.result outcome;
    }

pub returns-in-Err : goal.returns-in-Err
returns-in-Err c =
    let m = value_of c.args.tree.now in
    let reported = c.in-Err.ensures.err in
    let P : SaleFault → Type 0 = λ f. IsSaleFault m f in
    let fault : IsSaleFault m c.in-Err.fault = subst P (sym reported.2) reported.1 in
    let outcome : Result Incoming MessageError = Err (errors.Fault c.in-Err.fault) in
    record { ok = tt; err = fault; every = result_message m outcome fault; each = result_fault m outcome fault }
