-- Proof of the contract of `session`.
use Rattle.std.proofs.Common.{ap, sym, ◌∙◌}
use Rattle.std.specs.Prelude.{Bool, if◌then◌else◌}
use Rattle.gw_base.specs.declared.condition.Condition.TheVariants.{UnavailableDevice, UnavailableService}
use Rattle.gw_owes.specs.Core.{Core as CoreValue}
use Rattle.gw_owes.specs.Diagnosis.{named_terminal}
use Rattle.gw_owes.specs.SessionRows.{session_result}
use Rattle.gw_owes.specs.Sessions.{is_one_too_many}
use Rattle.gw_owes.specs.Steps.{Begins, Fails}
use Rattle.gw_core.proofs.NamedLemmas.{none-named, one-named}
use Rattle.gw_core.proofs.SessionLemmas.{session-begun, session-refused}
use Rattle.gw_core.proofs.sessions.session.Goals as goal

pub returns-in-None : goal.returns-in-None
returns-in-None c = λ known is.
    let named = named_terminal c.args.core.now c.args.header.poi in
    session-refused known c.args.header c.args.request named UnavailableDevice c.refused.result
    (ap (session_result known c.args.header c.args.request) (none-named named c.in-None.ensures)) c.refused.ensures

pub returns-then-is_one_too_many : goal.returns-then-is_one_too_many
returns-then-is_one_too_many c = λ known is.
    let named = named_terminal c.args.core.now c.args.header.poi in
    let one = one-named named c.in-Some.pt c.in-Some.ensures in
    session-refused known c.args.header c.args.request named UnavailableService c.refused-then-is_one_too_many.result
    (ap (session_result known c.args.header c.args.request) one.1
    ∙ ap (λ (core : CoreValue). if is_one_too_many core c.args.header c.args.request then Fails UnavailableService else Begins) is
    ∙ ap (λ (b : Bool). if b then Fails UnavailableService else Begins) (sym c.is_one_too_many.ensures ∙ c.if-is_one_too_many.true))
    c.refused-then-is_one_too_many.ensures

pub returns-else-is_one_too_many : goal.returns-else-is_one_too_many
returns-else-is_one_too_many c = λ known is.
    let named = named_terminal c.args.core.now c.args.header.poi in
    let one = one-named named c.in-Some.pt c.in-Some.ensures in
    session-begun known c.args.header c.args.request named c.in-Some.pt one.0 c.requires one.1
    (ap (session_result known c.args.header c.args.request) one.1
    ∙ ap (λ (core : CoreValue). if is_one_too_many core c.args.header c.args.request then Fails UnavailableService else Begins) is
    ∙ ap (λ (b : Bool). if b then Fails UnavailableService else Begins) (sym c.is_one_too_many.ensures ∙ c.if-is_one_too_many.false))
