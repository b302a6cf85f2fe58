-- Proof of the contract of `at_terminal`.
use Rattle.std.proofs.Common.{refl}
use Rattle.gw_core.proofs.steps.at_terminal.Goals as goal

pub returns-then-is_pending_again : goal.returns-then-is_pending_again
returns-then-is_pending_again c = λ known at.
    let again = c.if-is_pending_again.ensures known at.core_is at.kept_is c.args.pt in
    rw (← again) refl

pub returns-then-is_pending_key : goal.returns-then-is_pending_key
returns-then-is_pending_key c = λ known at.
    let again = c.if-is_pending_again.ensures known at.core_is at.kept_is c.args.pt in
    let pending = c.if-is_pending_key.ensures c.args.pt in
    rw (← again, at.core_is, ← pending) refl

pub returns-then-is_logged_out : goal.returns-then-is_logged_out
returns-then-is_logged_out c = λ known at.
    let again = c.if-is_pending_again.ensures known at.core_is at.kept_is c.args.pt in
    let pending = c.if-is_pending_key.ensures c.args.pt in
    rw (← again, at.core_is, ← pending, ← c.if-is_logged_out.ensures) refl

pub returns-then-is_unserved : goal.returns-then-is_unserved
returns-then-is_unserved c = λ known at.
    let again = c.if-is_pending_again.ensures known at.core_is at.kept_is c.args.pt in
    let pending = c.if-is_pending_key.ensures c.args.pt in
    rw (← again, at.core_is, ← pending, ← c.if-is_logged_out.ensures, ← c.if-is_unserved.ensures) refl

pub returns-then-asks_other_currency : goal.returns-then-asks_other_currency
returns-then-asks_other_currency c = λ known at.
    let again = c.if-is_pending_again.ensures known at.core_is at.kept_is c.args.pt in
    let pending = c.if-is_pending_key.ensures c.args.pt in
    let other = c.if-asks_other_currency.ensures c.args.pt in
    rw (← again, at.core_is, ← pending, ← c.if-is_logged_out.ensures, ← c.if-is_unserved.ensures, ← other) refl

pub returns-then-names_none : goal.returns-then-names_none
returns-then-names_none c = λ known at.
    let again = c.if-is_pending_again.ensures known at.core_is at.kept_is c.args.pt in
    let pending = c.if-is_pending_key.ensures c.args.pt in
    let other = c.if-asks_other_currency.ensures c.args.pt in
    rw (← again, at.core_is, ← pending, ← c.if-is_logged_out.ensures, ← c.if-is_unserved.ensures, ← other, at.kept_is, ← c.if-names_none.ensures) refl

pub returns-then-names_irreversible : goal.returns-then-names_irreversible
returns-then-names_irreversible c = λ known at.
    let again = c.if-is_pending_again.ensures known at.core_is at.kept_is c.args.pt in
    let pending = c.if-is_pending_key.ensures c.args.pt in
    let other = c.if-asks_other_currency.ensures c.args.pt in
    rw (← again, at.core_is, ← pending, ← c.if-is_logged_out.ensures, ← c.if-is_unserved.ensures, ← other, at.kept_is, ← c.if-names_none.ensures, ← c.if-names_irreversible.ensures) refl

pub returns-then-lacks_number : goal.returns-then-lacks_number
returns-then-lacks_number c = λ known at.
    let again = c.if-is_pending_again.ensures known at.core_is at.kept_is c.args.pt in
    let pending = c.if-is_pending_key.ensures c.args.pt in
    let other = c.if-asks_other_currency.ensures c.args.pt in
    let used = c.if-lacks_number.ensures c.args.pt in
    rw (← again, at.core_is, ← pending, ← c.if-is_logged_out.ensures, ← c.if-is_unserved.ensures, ← other, at.kept_is, ← c.if-names_none.ensures, ← c.if-names_irreversible.ensures, ← used) refl

pub returns-then-lacks_room : goal.returns-then-lacks_room
returns-then-lacks_room c = λ known at.
    let again = c.if-is_pending_again.ensures known at.core_is at.kept_is c.args.pt in
    let pending = c.if-is_pending_key.ensures c.args.pt in
    let other = c.if-asks_other_currency.ensures c.args.pt in
    let used = c.if-lacks_number.ensures c.args.pt in
    rw (← again, at.core_is, ← pending, ← c.if-is_logged_out.ensures, ← c.if-is_unserved.ensures, ← other, at.kept_is, ← c.if-names_none.ensures, ← c.if-names_irreversible.ensures, ← used, at.slots_is, ← c.if-lacks_room.ensures) refl

pub returns-then-asks_settling : goal.returns-then-asks_settling
returns-then-asks_settling c = λ known at.
    let again = c.if-is_pending_again.ensures known at.core_is at.kept_is c.args.pt in
    let pending = c.if-is_pending_key.ensures c.args.pt in
    let other = c.if-asks_other_currency.ensures c.args.pt in
    let used = c.if-lacks_number.ensures c.args.pt in
    rw (← again, at.core_is, ← pending, ← c.if-is_logged_out.ensures, ← c.if-is_unserved.ensures, ← other, at.kept_is, ← c.if-names_none.ensures, ← c.if-names_irreversible.ensures, ← used, at.slots_is, ← c.if-lacks_room.ensures, ← c.if-asks_settling.ensures) refl

pub returns-then-is_out_of_service : goal.returns-then-is_out_of_service
returns-then-is_out_of_service c = λ known at.
    let again = c.if-is_pending_again.ensures known at.core_is at.kept_is c.args.pt in
    let pending = c.if-is_pending_key.ensures c.args.pt in
    let other = c.if-asks_other_currency.ensures c.args.pt in
    let used = c.if-lacks_number.ensures c.args.pt in
    rw (← again, at.core_is, ← pending, ← c.if-is_logged_out.ensures, ← c.if-is_unserved.ensures, ← other, at.kept_is, ← c.if-names_none.ensures, ← c.if-names_irreversible.ensures, ← used, at.slots_is, ← c.if-lacks_room.ensures, ← c.if-asks_settling.ensures, ← c.if-is_out_of_service.ensures) refl

pub returns-then-is_ready : goal.returns-then-is_ready
returns-then-is_ready c = λ known at.
    let again = c.if-is_pending_again.ensures known at.core_is at.kept_is c.args.pt in
    let pending = c.if-is_pending_key.ensures c.args.pt in
    let other = c.if-asks_other_currency.ensures c.args.pt in
    let used = c.if-lacks_number.ensures c.args.pt in
    rw (← again, at.core_is, ← pending, ← c.if-is_logged_out.ensures, ← c.if-is_unserved.ensures, ← other, at.kept_is, ← c.if-names_none.ensures, ← c.if-names_irreversible.ensures, ← used, at.slots_is, ← c.if-lacks_room.ensures, ← c.if-asks_settling.ensures, ← c.if-is_out_of_service.ensures, ← c.if-is_ready.ensures) refl

pub returns-then-is_queue_full : goal.returns-then-is_queue_full
returns-then-is_queue_full c = λ known at.
    let again = c.if-is_pending_again.ensures known at.core_is at.kept_is c.args.pt in
    let pending = c.if-is_pending_key.ensures c.args.pt in
    let other = c.if-asks_other_currency.ensures c.args.pt in
    let used = c.if-lacks_number.ensures c.args.pt in
    rw (← again, at.core_is, ← pending, ← c.if-is_logged_out.ensures, ← c.if-is_unserved.ensures, ← other, at.kept_is, ← c.if-names_none.ensures, ← c.if-names_irreversible.ensures, ← used, at.slots_is, ← c.if-lacks_room.ensures, ← c.if-asks_settling.ensures, ← c.if-is_out_of_service.ensures, ← c.if-is_ready.ensures, at.line_is, ← c.if-is_queue_full.ensures) refl

pub returns : goal.returns
returns c = λ known at.
    let again = c.if-is_pending_again.ensures known at.core_is at.kept_is c.args.pt in
    let pending = c.if-is_pending_key.ensures c.args.pt in
    let other = c.if-asks_other_currency.ensures c.args.pt in
    let used = c.if-lacks_number.ensures c.args.pt in
    rw (← again, at.core_is, ← pending, ← c.if-is_logged_out.ensures, ← c.if-is_unserved.ensures, ← other, at.kept_is, ← c.if-names_none.ensures, ← c.if-names_irreversible.ensures, ← used, at.slots_is, ← c.if-lacks_room.ensures, ← c.if-asks_settling.ensures, ← c.if-is_out_of_service.ensures, ← c.if-is_ready.ensures, at.line_is, ← c.if-is_queue_full.ensures) refl
