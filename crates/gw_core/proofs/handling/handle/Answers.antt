-- Proof of the contract of `handle`.
use Rattle.std.proofs.Common.{◌≡◌, ℤ, w64, true, sym, ◌∙◌, subst, ap, refl}
use Rattle.std.specs.Prelude.{IfSome, Option}
use Rattle.std.proofs.lemmas.Int.{to_z-of_z}
use Rattle.zvt_msg.specs.Message.{value_of}
use Rattle.gw_base.specs.Moment.{moment_of}
use Rattle.gw_base.specs.Setup.{IsPt}
use Rattle.gw_owes.specs.declared.terminal.Terminal.{Terminal}
use Rattle.gw_owes.specs.Links.{is_linked}
use Rattle.gw_owes.specs.DeviceRequests.{device_request_in, next_device_number}
use Rattle.gw_owes.specs.Handling.{consequence, handle_message}
use Rattle.gw_owes.specs.Terminals.{with_terminal}
use Rattle.gw_core.specs.declared.act.Act.{Act}
use Rattle.gw_core.specs.DeviceActs.{IsDeviceAct}
use Rattle.gw_core.specs.IsRow.{IsRow, IsWantedAt, known_with}
use Rattle.gw_core.proofs.HandlingLemmas.{taken-on-record, unlinked-stays, foreign-stays, followed, requested, same-number}
use Rattle.gw_core.proofs.handling.handle.Goals as goal

pub follow-requires-clause-records : goal.follow-requires-clause-records
follow-requires-clause-records c =
    taken-on-record c.args.ledger.now.records c.args.terminal.now c.take-heard.new.terminal (value_of c.args.message.now) _ c.requires.order.records c.take-heard.ensures.taken

pub follow-requires-clause-numbers : goal.follow-requires-clause-numbers
follow-requires-clause-numbers c = c.take-heard.ensures.numbers c.requires.order.read

pub returns-then-not-is_linked-clause-row : goal.returns-then-not-is_linked-clause-row
returns-then-not-is_linked-clause-row c = λ setup core found number_is.
    let known = known_with setup c.args.ledger.now.records core (moment_of c.args.now) in
    rw c.none.ensures
    (same-number c.args.ledger.now.records _ core c.args.pt c.args.number.now c.args.terminal.now _ number_is
    (unlinked-stays known c.args.pt c.args.terminal.now (handle_message known c.args.pt c.args.terminal.now (value_of c.args.message.now)) c.is_linked.result c.is_linked.ensures c.if-not-is_linked.true found))

pub returns-then-not-is_taken-clause-row : goal.returns-then-not-is_taken-clause-row
returns-then-not-is_taken-clause-row c = λ setup core found number_is.
    rw c.none-then-not-is_taken.ensures
    (same-number c.args.ledger.now.records _ core c.args.pt c.args.number.now c.args.terminal.now _ number_is
    (foreign-stays (known_with setup c.args.ledger.now.records core (moment_of c.args.now)) c.args.pt c.args.terminal.now (value_of c.args.message.now) c.is_taken.result c.is_taken.ensures c.if-not-is_taken.true found))

pub returns-in-Some-clause-row : goal.returns-in-Some-clause-row
returns-in-Some-clause-row c = λ setup core found number_is.
    let known = known_with setup c.args.ledger.now.records core (moment_of c.args.now) in
    requested known c.args.pt c.args.terminal.now c.take-heard.new.terminal (value_of c.args.message.now) c.take-heard.result c.in-Some.act c.next_device_number.result
    (sym c.is_linked.ensures ∙ c.if-not-is_linked.false) (sym c.is_taken.ensures ∙ c.if-not-is_taken.false)
    (simp (to_z-of_z, c.ranges.now) at c.take-heard.ensures.taken) c.take-heard.ensures.meaning
    (subst (λ (act : Option Act). IsDeviceAct c.take-heard.new.terminal.asker (device_request_in known c.take-heard.new.terminal.standing c.take-heard.result (value_of c.args.message.now)) act) c.in-Some.is
    (c.device_request-request.ensures.request known refl number_is))
    (c.next_device_number.ensures.next ∙ ap next_device_number (sym number_is))

pub returns-in-Some-clause-wanted : goal.returns-in-Some-clause-wanted
returns-in-Some-clause-wanted c = subst (λ (act : Option Act). IfSome act (IsWantedAt c.args.pt)) c.in-Some.is (c.device_request-request.ensures.wanted c.args.pt)

pub returns-clause-row : goal.returns-clause-row
returns-clause-row c = λ setup core found number_is.
    let known = known_with setup c.args.ledger.now.records core (moment_of c.args.now) in
    same-number c.args.ledger.now.records _ core c.args.pt c.args.number.now c.follow.new.terminal c.follow.result number_is
    (followed known c.args.pt c.args.terminal.now c.take-heard.new.terminal c.follow.new.terminal (value_of c.args.message.now) c.take-heard.result
    c.follow.result (sym c.is_linked.ensures ∙ c.if-not-is_linked.false) (sym c.is_taken.ensures ∙ c.if-not-is_taken.false)
    (simp (to_z-of_z, c.ranges.now) at c.take-heard.ensures.taken) c.take-heard.ensures.meaning
    (subst (λ (act : Option Act). IsDeviceAct c.take-heard.new.terminal.asker (device_request_in known c.take-heard.new.terminal.standing c.take-heard.result (value_of c.args.message.now)) act) c.in_default.is
    (c.device_request-request.ensures.request known refl number_is))
    (subst (λ (now : ℤ). IsRow c.args.ledger.now.records
    (consequence (known_with setup c.args.ledger.now.records core (moment_of now)) c.args.pt c.take-heard.new.terminal c.take-heard.result c.take-heard.new.terminal.standing)
    (with_terminal core c.args.pt c.follow.new.terminal) c.follow.result) (to_z-of_z w64 c.args.now c.ranges.now) (c.follow.ensures.row setup core)))

pub take-heard-requires-clause-moment : goal.take-heard-requires-clause-moment
take-heard-requires-clause-moment c = simp (to_z-of_z, c.ranges.now) c.requires.moment

pub follow-requires-clause-moment : goal.follow-requires-clause-moment
follow-requires-clause-moment c = simp (to_z-of_z, c.ranges.now) c.requires.moment

pub follow-requires-clause-linked : goal.follow-requires-clause-linked
follow-requires-clause-linked c =
    subst (λ (t : Terminal). is_linked t.standing ≡ true) (sym c.take-heard.ensures.taken) (sym c.is_linked.ensures ∙ c.if-not-is_linked.false)

pub follow-requires-clause-settings : goal.follow-requires-clause-settings
follow-requires-clause-settings c = subst (λ (t : Terminal). IsPt t.pt) (sym c.take-heard.ensures.taken) c.requires.settings

pub returns-in-Some-clause-settings : goal.returns-in-Some-clause-settings
returns-in-Some-clause-settings c = ap (λ (t : Terminal). t.pt) c.take-heard.ensures.taken

pub returns-clause-settings : goal.returns-clause-settings
returns-clause-settings c = c.follow.ensures.settings ∙ ap (λ (t : Terminal). t.pt) c.take-heard.ensures.taken
