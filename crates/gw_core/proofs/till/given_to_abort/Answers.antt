-- Proof of the contract of `given_to_abort`.
use Rattle.std.proofs.Common.{◌≡◌, Bool, ◌||◌, List, ap, sym, ◌∙◌, subst}
use Rattle.std.specs.Prelude.{is_some, Option, None}
use Rattle.std.proofs.lemmas.Int.{to_z-of_z}
use Rattle.jrn_record.specs.declared.records.Record.{Record}
use Rattle.sale_values.specs.Key.{key_of}
use Rattle.gw_owes.specs.Core.{Wait}
use Rattle.gw_owes.specs.Days.{named_serves_day}
use Rattle.gw_owes.specs.Diagnosis.{named_terminal}
use Rattle.gw_owes.specs.KeptReplies.{is_open_key}
use Rattle.gw_owes.specs.Requests.{abort_items, abort_reply}
use Rattle.gw_owes.specs.Waits.{waiting_with}
use Rattle.gw_core.specs.ReplyOf.{AreSameReplies}
use Rattle.gw_core.proofs.StopLemmas.{given-queue, given-stop, no-day-served, none-known, none-mapped, open-alone, served-of, stop-not-begun}
use Rattle.gw_core.proofs.till.given_to_abort.Goals as goal

pub returns-in-Some : goal.returns-in-Some
returns-in-Some c = λ known kept core moment.
    given-queue known c.args.core.now c.args.header c.args.reference c.key-key.result c.in-Some.pt core c.key-key.ensures c.in-Some.ensures

pub returns-in-Some-serving_terminal : goal.returns-in-Some-serving_terminal
returns-in-Some-serving_terminal c = λ known kept core moment.
    given-stop known c.args.ledger.now.records c.args.core.now c.args.header c.args.reference c.key-key.result c.in-Some-serving_terminal.pt kept core c.key-key.ensures (none-mapped (waiting_with c.key-key.result c.args.core.now.waits) c.in_default.ensures) c.in-Some-serving_terminal.ensures

pub returns-in-None : goal.returns-in-None
returns-in-None c = λ known kept core moment.
    let key = key_of c.args.header c.args.reference in
    let served = served-of known c.args.ledger.now.records c.args.core.now c.args.header c.args.reference c.key-key.result _ kept core c.key-key.ensures c.in-None.ensures in
    let none : waiting_with key known.core.waits ≡ None =
    none-known known c.args.core.now c.args.header c.args.reference c.key-key.result core c.key-key.ensures (none-mapped (waiting_with c.key-key.result c.args.core.now.waits) c.in_default.ensures) in
    record {
      reply = rw c.replied.ensures.reply
          (subst (λ (records : List Record). AreSameReplies c.abort_reply.result (abort_reply (is_open_key records c.args.header c.args.reference || (named_serves_day key (named_terminal known.core key.poi) || is_some (waiting_with key known.core.waits))) known c.args.header)) (sym kept)
          (subst (λ (waiting : Option Wait). AreSameReplies c.abort_reply.result (abort_reply (is_open_key c.args.ledger.now.records c.args.header c.args.reference || (named_serves_day key (named_terminal known.core key.poi) || is_some waiting)) known c.args.header)) (sym none)
          (subst (λ (is_open : Bool). AreSameReplies c.abort_reply.result (abort_reply is_open known c.args.header))
          (sym (open-alone (is_open_key c.args.ledger.now.records c.args.header c.args.reference) (named_serves_day key (named_terminal known.core key.poi)) (no-day-served known.kept key (named_terminal known.core key.poi) served)))
          (c.abort_reply.ensures known (rw (to_z-of_z, c.ranges.now) moment)))));
      begun = λ till. ap (abort_items known till c.args.header c.args.reference) none ∙ stop-not-begun known till c.args.header c.args.reference (named_terminal known.core key.poi) served
          ∙ sym (c.replied.ensures.none till);
      prepared = c.replied.ensures.prepared;
    }
