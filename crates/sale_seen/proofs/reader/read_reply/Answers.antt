-- Proof of the contract of `read_reply`.
use Rattle.std.proofs.Common.{Err, Result, subst, sym}
use Rattle.json_text.specs.ValueOf.{value_of}
use Rattle.sale_values.specs.declared.fault.SaleFault.{SaleFault}
use Rattle.sale_values.specs.declared.fault.SaleFault.TheVariants as faults
use Rattle.sale_seen.specs.Fault.{IsReplyFault}
use Rattle.sale_seen.specs.declared.reply.ReplySeen.{ReplySeen}
use Rattle.sale_seen.proofs.UniqueLemmas.{result_every, result_fault, result_ok}
use Rattle.sale_seen.proofs.reader.read_reply.Goals as goal

pub returns-in-Ok : goal.returns-in-Ok
returns-in-Ok c =
    let m = value_of c.args.tree.now in
    let r = c.read_body.result in
    let outcome = c.read_body.ensures m c.in-Ok.headed.envelope c.in-Ok.ensures.ok in
    record {
      ok = result_ok m r outcome;
      every = result_every m r outcome;
      no_header = λ path. result_fault m r outcome (faults.NoHeader path);
      missing = λ header path. result_fault m r outcome (faults.Missing header path);
      wrong = λ header path. result_fault m r outcome (faults.Wrong header path);
      unserved = λ header. (result_fault m r outcome (faults.Unserved header)).0;
    }

pub returns-in-Err : goal.returns-in-Err
returns-in-Err c =
    let m = value_of c.args.tree.now in
    let r : Result ReplySeen SaleFault = Err c.in-Err.fault in
    let lacks = c.in-Err.ensures.err in
    let outcome = subst (IsReplyFault m) (sym lacks.2) lacks.1 in
    record {
      ok = tt;
      every = result_every m r outcome;
      no_header = λ path. result_fault m r outcome (faults.NoHeader path);
      missing = λ header path. result_fault m r outcome (faults.Missing header path);
      wrong = λ header path. result_fault m r outcome (faults.Wrong header path);
      unserved = λ header. (result_fault m r outcome (faults.Unserved header)).0;
    }
