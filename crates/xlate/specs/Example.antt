-- Closed examples: commands, conditions, the replies to a day's keys, texts and displays, and the premises of the laws.
use Rattle.std.specs.Prelude.{◌≡◌, ℕ, true, false, List, [], ◌∷◌, replicate, map, Option, Some, None, option_map, option_and_then, refl, codes, pos}
use Rattle.std.specs.Fmt.{digits}
use Rattle.std.specs.Str.{chars}
use Rattle.gw_base.specs.Bcd.{IsBcd}
use Rattle.gw_base.specs.declared.condition.Condition.TheVariants.{Aborted, Cancel, InsertedCard, InvalidCard, NotAllowed, Refusal, UnavailableService}
use Rattle.gw_base.specs.declared.currency.Currency.TheVariants.{Eur}
use Rattle.gw_base.specs.declared.figures.Money.{Money}
use Rattle.gw_base.specs.declared.key.Key.{Key}
use Rattle.gw_base.specs.declared.setup.Pt.{Pt}
use Rattle.gw_base.specs.Transaction.{AreTransactionNumbers, transaction_text}
use Rattle.jrn_record.specs.Limits.{IsIntent}
use Rattle.jrn_record.specs.declared.records.Deal.TheVariants as deals
use Rattle.jrn_record.specs.declared.records.How.{How}
use Rattle.jrn_record.specs.declared.records.How.TheVariants as hows
use Rattle.jrn_record.specs.declared.records.Intent.{Intent as TheIntent}
use Rattle.jrn_record.specs.declared.records.Outcome.{Outcome as TheOutcome}
use Rattle.jrn_record.specs.declared.records.Settled.{Settled as TheSettled}
use Rattle.jrn_record.specs.declared.records.Record.{Record}
use Rattle.jrn_record.specs.declared.records.Record.TheVariants.{Intent, Outcome, Settled}
use Rattle.gw_ledger.specs.declared.entry.Entry.{Entry as TheEntry}
use Rattle.gw_ledger.specs.declared.entry.Found.TheVariants.{Entry}
use Rattle.gw_ledger.specs.Fold.{Fit, found_of}
use Rattle.gw_ledger.specs.History.{history}
use Rattle.gw_ledger.specs.Transaction.{text_of}
use Rattle.sale_values.specs.declared.names.Period.TheVariants.{SaleReconciliation, AcquirerReconciliation}
use Rattle.sale_values.specs.declared.request.Output.{Output}
use Rattle.sale_reply.specs.declared.reply.PoiMark.{PoiMark}
use Rattle.sale_reply.specs.declared.reply.Told.TheVariants.{PaymentApproved, PaymentDeclined, ReversalApproved, ReversalDeclined, Reconciled}
use Rattle.zvt_msg.specs.CommandCanonical.{canonical_command}
use Rattle.xlate.specs.Ask.{HasItsOriginal, IsOriginalWithinLimits, ask}
use Rattle.xlate.specs.Codes.{condition_of_code}
use Rattle.xlate.specs.Display.{show, show_lines}
use Rattle.xlate.specs.Reply.{result_body_of}
use Rattle.xlate.specs.Text.{IsApprovedBy}

-- a payment of 10.99 euros by till `S1` at terminal `T1`
abbrev payment : TheIntent
payment = record {
  what = deals.Payment;
  sale = codes "S1";
  poi = codes "T1";
  service = codes "1";
  transaction = Some (codes "27908");
  stamp = Some (codes "2025-03-07T10:11:04+00:00");
  amount = 1099;
  currency = Eur;
  before = 0;
  original = None;
  moment = pos 1741342264;
}

-- one of 5.00 euros after it
abbrev second_payment : TheIntent
second_payment = record payment { service = codes "2"; amount = 500; before = 123 }

-- a reversal of the first, after both
abbrev reversal : TheIntent
reversal = record payment { what = deals.Reversal; service = codes "3"; transaction = None; stamp = None; before = 124; original = Some 0 }

-- an approval of the Intent in this slot: its trace number, its receipt number and its minor units
abbrev approval : ℕ → ℕ → ℕ → ℕ → TheOutcome
approval slot trace receipt units = record {
  approved = true;
  slot = slot;
  number = trace;
  receipt = receipt;
  amount = units;
  condition = None;
  moment = pos 1741342264;
}

-- an approval of so many minor units of the first payment
abbrev pub paid : ℕ → TheOutcome
paid units = approval 0 123 17 units

-- a decline of the Intent in this slot, because the request was aborted
abbrev pub decline : ℕ → TheOutcome
decline slot = record { approved = false; slot = slot; number = 0; receipt = 0; amount = 0; condition = Some Aborted; moment = pos 1741342264 }

-- the entry of the first payment with this Outcome
abbrev pub entry : TheOutcome → TheEntry
entry outcome = record { slot = 0; intent = payment; result = Some outcome }

-- the entry of the first payment before it has an Outcome
abbrev unresolved : TheEntry
unresolved = record { slot = 0; intent = payment; result = None }

-- a reconciliation of terminal `T1`
abbrev reconciliation : How → List ℕ → TheSettled
reconciliation how service = record { how = how; sale = codes "S1"; poi = codes "T1"; service = service; currency = Eur; moment = pos 1741342264 }

-- the records of a day: 10.99 and 5.00 are approved, the first is reversed, and a reconciliation of each type follows
abbrev day : List Record
day =
    Intent payment ∷ Outcome (paid 1099)
    ∷ Intent second_payment ∷ Outcome (approval 2 124 18 500)
    ∷ Intent reversal ∷ Outcome (approval 4 125 19 1099)
    ∷ Settled (reconciliation hows.Sale (codes "4")) ∷ Settled (reconciliation hows.Acquirer (codes "5")) ∷ []

-- the records of another: the first payment is approved, and its reversal is declined
abbrev other_day : List Record
other_day = Intent payment ∷ Outcome (paid 1099) ∷ Intent (record reversal { before = 123 }) ∷ Outcome (decline 2) ∷ []

-- each of the records may come after those before it
pub days_fit : Fit [] day × Fit [] other_day
unfolding history
days_fit = ((refl, (refl, (refl, (refl, (refl, (refl, (refl, (refl, tt)))))))), (refl, (refl, (refl, (refl, tt)))))

-- the key of till `S1` at terminal `T1` with this ServiceID
abbrev key : List ℕ → Key
key service = record { sale = codes "S1"; poi = codes "T1"; service = service }

-- terminal `T1`, with password 123456
abbrev terminal : Pt
terminal = record {
  poi = codes "T1";
  address = [];
  password = 0x12 ∷ 0x34 ∷ 0x56 ∷ [];
  currency = Eur;
  config = 186;
  none = 131;
  answer = 5;
  command = 180;
}

-- ---- commands

-- a payment asks for its amount in its currency
pub payment_asked : canonical_command (ask payment None terminal)
    ≡ 0x06 ∷ 0x01 ∷ 0x0A ∷ 0x04 ∷ 0x00 ∷ 0x00 ∷ 0x00 ∷ 0x00 ∷ 0x10 ∷ 0x99 ∷ 0x49 ∷ 0x09 ∷ 0x78 ∷ []
payment_asked = refl

-- a reversal asks for the receipt of its original
pub reversal_asked : canonical_command (ask reversal (Some (entry (paid 1099))) terminal)
    ≡ 0x06 ∷ 0x30 ∷ 0x06 ∷ 0x12 ∷ 0x34 ∷ 0x56 ∷ 0x87 ∷ 0x00 ∷ 0x17 ∷ []
reversal_asked = refl

-- both have their originals, and lie within the limits, with the password
pub record ExampleCommands : Type 0 where
  pub payment_within : IsIntent payment
  pub payment_original : HasItsOriginal payment.what payment.original None × IsOriginalWithinLimits None
  pub reversal_within : IsIntent reversal
  pub reversal_original : HasItsOriginal reversal.what reversal.original (Some (entry (paid 1099)))
  pub original_within : IsOriginalWithinLimits (Some (entry (paid 1099)))
  pub password : IsBcd terminal.password

-- ---- codes

-- each code with a condition of its own, and codes beside them
pub conditions : map (λ result_code. condition_of_code result_code false) (0x6C ∷ 0x78 ∷ 0x83 ∷ 0x6F ∷ 0xB4 ∷ 0xB5 ∷ 0xDC ∷ 0x00 ∷ 0x6B ∷ 0x6D ∷ 0xFF ∷ [])
    ≡ Cancel ∷ InvalidCard ∷ UnavailableService ∷ NotAllowed ∷ NotAllowed ∷ NotAllowed ∷ InsertedCard ∷ Refusal ∷ Refusal ∷ Refusal ∷ Refusal ∷ []
conditions = refl

-- an abort after a stop was sent is `Aborted`; no other code changes by it
pub stopped_conditions : map (λ result_code. condition_of_code result_code true) (0x6C ∷ 0x78 ∷ 0x6B ∷ []) ≡ Aborted ∷ InvalidCard ∷ Refusal ∷ []
stopped_conditions = refl

-- ---- replies

-- the numbers of an entry, and the moment of its Outcome
abbrev mark : ℕ → ℕ → ℕ → PoiMark
mark trace receipt slot = record { number = trace; receipt = receipt; slot = slot; moment = pos 1741342264 }

-- so many minor units of euros
abbrev euros : ℕ → Money
euros units = record { minor = units; currency = Eur }

-- the result body of each key of the day: approvals have their amounts, the first reconciliation the totals, the second none
pub bodies_of_day : map (λ service. option_and_then result_body_of (found_of day (key service)))
    (codes "1" ∷ codes "2" ∷ codes "3" ∷ codes "4" ∷ codes "5" ∷ codes "6" ∷ [])
    ≡ Some (PaymentApproved (codes "27908") (codes "2025-03-07T10:11:04+00:00") (mark 123 17 0) 1099 (euros 1099))
    ∷ Some (PaymentApproved (codes "27908") (codes "2025-03-07T10:11:04+00:00") (mark 124 18 2) 500 (euros 500))
    ∷ Some (ReversalApproved (mark 125 19 4) (euros 1099))
    ∷ Some (Reconciled SaleReconciliation Eur (2, 1599) (1, 1099))
    ∷ Some (Reconciled AcquirerReconciliation Eur (0, 0) (0, 0))
    ∷ None ∷ []
unfolding history
bodies_of_day = refl

-- the body of a declined reversal has its reason
pub bodies_of_other_day : option_and_then result_body_of (found_of other_day (key (codes "3"))) ≡ Some (ReversalDeclined (mark 0 0 2) Aborted)
unfolding history
bodies_of_other_day = refl

-- that of a declined payment has its reason too, and the till's texts
pub body_of_decline : result_body_of (Entry (entry (decline 0)))
    ≡ Some (PaymentDeclined (codes "27908") (codes "2025-03-07T10:11:04+00:00") (mark 0 0 0) Aborted)
body_of_decline = refl

-- an open entry has no result body, and no text
pub no_body_of_open : result_body_of (Entry unresolved) ≡ None
no_body_of_open = refl

pub no_text_of_open : text_of unresolved ≡ None
no_text_of_open = refl

-- the texts of an approval and of a decline
pub texts_named : map (λ outcome. text_of (entry outcome)) (paid 1099 ∷ decline 0 ∷ []) ≡ Some (codes "000123-0017-0") ∷ Some (codes "000000-0000-0") ∷ []
unfolding transaction_text digits
texts_named = refl

-- two approved entries with one text: their numbers and slots are the same
pub record ExampleTexts : Type 0 where
  pub first : IsApprovedBy (entry (paid 1099)) (paid 1099)
  pub second : IsApprovedBy (entry (paid 900)) (paid 900)
  pub text_of_both : text_of (entry (paid 1099)) ≡ text_of (entry (paid 900))

-- the greatest numbers lie within the limits under which one text has one transaction, and their text has all of their digits
pub record ExampleNumbers : Type 0 where
  pub within : AreTransactionNumbers 999999 9999 4294967295
  pub text : transaction_text 999999 9999 4294967295 ≡ codes "999999-9999-4294967295"

-- ---- displays

-- an output for this device with these texts
abbrev output : List ℕ → Option (List (List ℕ)) → Output
output device texts = record { device = device; qualify = codes "Display"; required = true; texts = texts }

-- the first output for the customer's display is displayed
pub first_displayed : show (output (codes "CashierDisplay") None ∷ output (codes "CustomerDisplay") (Some (codes "Hallo" ∷ []))
    ∷ output (codes "CustomerDisplay") None ∷ [])
    ≡ Some (show_lines (codes "Hallo" ∷ []))
unfolding chars
first_displayed = refl

-- and its command has these bytes
pub display_bytes : option_map canonical_command (show (output (codes "CustomerDisplay") (Some (codes "Hallo" ∷ [])) ∷ []))
    ≡ Some (0x06 ∷ 0xE0 ∷ 0x0A ∷ 0xF0 ∷ 0x05 ∷ 0xF1 ∷ 0xF0 ∷ 0xF5 ∷ codes "Hallo")
unfolding chars
display_bytes = refl

-- no output for the customer's display: no command; one without texts: no lines
pub none_displayed : show (output (codes "CashierDisplay") None ∷ []) ≡ None
none_displayed = refl

pub no_line_displayed : show (output (codes "CustomerDisplay") None ∷ []) ≡ Some (show_lines [])
no_line_displayed = refl

-- of nine texts of 41 characters, eight lines of 40 are displayed; a letter of two bytes is one character
pub long_texts_displayed : show (output (codes "CustomerDisplay") (Some (replicate 9 (0xC3 ∷ 0xA4 ∷ replicate 40 0x41))) ∷ [])
    ≡ Some (show_lines (replicate 8 (0x84 ∷ replicate 39 0x41)))
unfolding chars
long_texts_displayed = refl
