-- Proof of the contract of `follow`.
use Rattle.std.proofs.Common.{◌≡◌}
use Rattle.std.proofs.lemmas.Int.{to_z-of_z}
use Rattle.gw_owes.specs.declared.terminal.Service.TheVariants.{Transaction, EndOfDay}
use Rattle.gw_core.proofs.handling.follow.Goals as goal

pub returns-in-Registering-clause-row : goal.returns-in-Registering-clause-row
returns-in-Registering-clause-row c = λ setup core. rw c.in-Registering.is (simp (to_z-of_z, c.ranges.now) at (c.registering.ensures.row setup c.args.ledger.now.records core))

pub returns-in-Enquiring-clause-row : goal.returns-in-Enquiring-clause-row
returns-in-Enquiring-clause-row c = λ setup core. rw c.in-Enquiring.is (simp (to_z-of_z, c.ranges.now) at (c.enquiring.ensures.row setup core))

pub returns-in-Serving-Transaction-default-clause-row : goal.returns-in-Serving-Transaction-default-clause-row
returns-in-Serving-Transaction-default-clause-row c = λ setup core.
    let served : c.in-Serving-Transaction-default.service ≡ Transaction c.in-Serving-Transaction-default.slot = rw c.in-Serving-Transaction-default.is at c.in-Serving-Transaction-default.service-is in
    rw (c.in-Serving-Transaction-default.is, served) (simp (to_z-of_z, c.ranges.now) at (c.serving_transaction.ensures.row setup core))

pub returns-in-Serving-EndOfDay-default-clause-row : goal.returns-in-Serving-EndOfDay-default-clause-row
returns-in-Serving-EndOfDay-default-clause-row c = λ setup core.
    let served : c.in-Serving-EndOfDay-default.service ≡ EndOfDay c.in-Serving-EndOfDay-default.header c.in-Serving-EndOfDay-default.service-1 = rw c.in-Serving-EndOfDay-default.is at c.in-Serving-EndOfDay-default.service-is in
    rw (c.in-Serving-EndOfDay-default.is, served) (simp (to_z-of_z, c.ranges.now) at (c.serving_day.ensures.row setup core))

pub registering-requires-clause-moment : goal.registering-requires-clause-moment
registering-requires-clause-moment c = simp (to_z-of_z, c.ranges.now) c.requires.moment

pub enquiring-requires-clause-moment : goal.enquiring-requires-clause-moment
enquiring-requires-clause-moment c = simp (to_z-of_z, c.ranges.now) c.requires.moment

pub serving_transaction-requires-clause-moment : goal.serving_transaction-requires-clause-moment
serving_transaction-requires-clause-moment c = simp (to_z-of_z, c.ranges.now) c.requires.moment

pub serving_transaction-requires-clause-open : goal.serving_transaction-requires-clause-open
serving_transaction-requires-clause-open c =
    let served : c.in-Serving-Transaction-default.service ≡ Transaction c.in-Serving-Transaction-default.slot = rw c.in-Serving-Transaction-default.is at c.in-Serving-Transaction-default.service-is in
    rw (c.in-Serving-Transaction-default.is, served) at c.requires.records

pub serving_day-requires-clause-moment : goal.serving_day-requires-clause-moment
serving_day-requires-clause-moment c = simp (to_z-of_z, c.ranges.now) c.requires.moment
