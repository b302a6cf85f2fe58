-- Proof of the contract of `service`.
use Rattle.std.proofs.Common.{◌≡◌, sym, ◌∙◌, ap}
use Rattle.std.specs.Prelude.{Some, None}
use Rattle.gw_owes.specs.Diagnosis.{named_terminal}
use Rattle.gw_owes.specs.KeptReplies.{found_for}
use Rattle.gw_core.specs.ReplyOf.{result_by}
use Rattle.gw_core.proofs.NamedLemmas.{named-is, named-there, none-named, one-named, there-within}
use Rattle.gw_core.proofs.StepLemmas.{begins-given, by-found, refused-given, waits-given}
use Rattle.gw_core.proofs.steps.service.Goals as goal

pub terminal-terminal-requires : goal.terminal-terminal-requires
terminal-terminal-requires c =
    let one = one-named (named_terminal c.args.core.now c.args.header.poi) c.in-Some-named.pt c.in-Some-named.ensures in
    record { there = there-within c.args.core.now.terminals c.in-Some-named.pt one.0 (named-there c.args.core.now c.args.header.poi c.in-Some-named.pt one.0 one.1) }

pub returns-in-Some : goal.returns-in-Some
returns-in-Some c = λ known at.
    let named = named_terminal c.args.core.now c.args.header.poi in
    let there : found_for known.kept c.args.header ≡ Some c.in-Some.found = rw at.kept_is (sym c.in-Some.ensures.found) in
    record {
      reply = by-found known c.args.header c.args.request c.in-Some.found named c.recorded_reply.result there (c.recorded_reply.ensures known named at.kept_is there);
      begun = λ till. c.law_on_record.ensures.nothing known till c.args.header c.args.request named c.in-Some.found there;
      prepared = tt;
    }

pub returns-in-None : goal.returns-in-None
returns-in-None c = λ known at.
    let named = named_terminal c.args.core.now c.args.header.poi in
    refused-given known c.args.header c.args.request named c.refused_unnamed-condition.result c.refused.result (rw at.kept_is (sym c.in_default.ensures.found))
    (ap (result_by known c.args.header c.args.request None) (none-named named c.in-None.ensures) ∙ c.refused_unnamed-condition.ensures known at.core_is at.kept_is) c.refused.ensures

pub returns-in-Begins : goal.returns-in-Begins
returns-in-Begins c = λ known at.
    begins-given known c.args.header c.args.request (named_terminal c.args.core.now c.args.header.poi) c.in-Some-named.pt c.terminal-terminal.result.now (rw at.kept_is (sym c.in_default.ensures.found))
    (named-is c.args.core.now c.args.header.poi c.in-Some-named.pt c.terminal-terminal.result.now c.in-Some-named.ensures c.terminal-terminal.ensures) (c.in-Begins.ensures known at)

pub returns-in-Waits : goal.returns-in-Waits
returns-in-Waits c = λ known at.
    waits-given known c.args.header c.args.request (named_terminal c.args.core.now c.args.header.poi) c.in-Some-named.pt c.terminal-terminal.result.now (rw at.kept_is (sym c.in_default.ensures.found))
    (named-is c.args.core.now c.args.header.poi c.in-Some-named.pt c.terminal-terminal.result.now c.in-Some-named.ensures c.terminal-terminal.ensures) (c.in-Waits.ensures known at)

pub returns-in-Refused : goal.returns-in-Refused
returns-in-Refused c = λ known at.
    refused-given known c.args.header c.args.request (named_terminal c.args.core.now c.args.header.poi) c.in-Refused.condition c.refused-in-Refused.result (rw at.kept_is (sym c.in_default.ensures.found))
    (ap (result_by known c.args.header c.args.request None) (named-is c.args.core.now c.args.header.poi c.in-Some-named.pt c.terminal-terminal.result.now c.in-Some-named.ensures c.terminal-terminal.ensures) ∙ c.in-Refused.ensures known at) c.refused-in-Refused.ensures
