-- Closed examples of reconciliations: what is settled, what tills get while an end of day is served and after it, and a payment that is settled.
use Rattle.std.specs.Prelude.{◌≡◌, ℕ, pos, true, List, [], ◌∷◌, ◌++◌, Some, None, codes}
use Rattle.gw_base.specs.declared.condition.Condition.{Condition}
use Rattle.gw_base.specs.declared.condition.Condition.TheVariants.{Busy, InProgress, NotAllowed, UnavailableDevice, UnavailableService, Cancel}
use Rattle.gw_base.specs.declared.currency.Currency.TheVariants.{Eur}
use Rattle.gw_base.specs.declared.key.Key.{Key}
use Rattle.gw_site.specs.Outside.{is_connected}
use Rattle.sale_values.specs.declared.header.Header.{Header}
use Rattle.sale_values.specs.declared.names.Period.{Period}
use Rattle.sale_values.specs.declared.names.Period.TheVariants.{SaleReconciliation, AcquirerSynchronisation, AcquirerReconciliation, PreviousReconciliation}
use Rattle.sale_values.specs.declared.request.SaleRequest.TheVariants as requests
use Rattle.sale_reply.specs.declared.reply.Told.TheVariants.{Reconciled}
use Rattle.zvt_apdu.specs.Grammar.{ApduValue}
use Rattle.zvt_msg.specs.declared.command.Command.TheVariants as commands
use Rattle.zvt_talk.specs.declared.meaning.Heard.{Heard}
use Rattle.zvt_talk.specs.declared.meaning.Heard.TheVariants as heard
use Rattle.jrn_record.specs.declared.records.Deal.TheVariants as deals
use Rattle.jrn_record.specs.declared.records.How.{How}
use Rattle.jrn_record.specs.declared.records.How.TheVariants as hows
use Rattle.jrn_record.specs.declared.records.Record.TheVariants.{Intent, Outcome, Settled}
use Rattle.jrn_record.specs.declared.records.Settled.{Settled as TheSettled}
use Rattle.gw_ledger.specs.declared.entry.Entry.{Entry as TheEntry}
use Rattle.gw_ledger.specs.Example.{day}
use Rattle.gw_ledger.specs.Fold.{AreFolded}
use Rattle.gw_ledger.specs.Keys.{settled_key}
use Rattle.gw_ledger.specs.Laws.{IsSettledAfter}
use Rattle.gw_ledger.specs.Premises.{day_closed, day_settled}
use Rattle.gw_ledger.specs.Slots.{ended_at}
use Rattle.xlate.specs.Reply.{period_of}
use Rattle.gw_owes.specs.declared.terminal.Service.TheVariants.{Transaction, EndOfDay}
use Rattle.gw_owes.specs.declared.terminal.Standing.{Standing}
use Rattle.gw_owes.specs.declared.terminal.Standing.TheVariants.{Unlinked, Registering, Ready, Serving, Aside}
use Rattle.gw_owes.specs.declared.terminal.Terminal.{Terminal}
use Rattle.gw_owes.specs.Calls.{OwedCall, Ask, SendTill, SendPt, CutPt, keep_calls, records_kept, sending_bytes}
use Rattle.gw_owes.specs.DayLaws.{PassesUpToStanding, ServesDayOf, reply_with_totals}
use Rattle.gw_owes.specs.Diagnosis.{named_terminal}
use Rattle.gw_owes.specs.Items.{Serve}
use Rattle.gw_owes.specs.KeptReplies.{own_key}
use Rattle.gw_owes.specs.Links.{LinkIsLost}
use Rattle.gw_owes.specs.PaymentExample.{Since, ComesTo, acknowledged_once, approved_reply, approved_with_amount, begun_calls, paid_at, since_asked, since_begun, since_linked, since_payment, since_sent, since_status, payment_failure, till_header, two_tills}
use Rattle.owes_examples.specs.PaymentExample.{ready_terminal}
use Rattle.gw_owes.specs.PaymentLaws.{MeansServed}
use Rattle.gw_owes.specs.Reply.{ReplyValue, Finished}
use Rattle.gw_owes.specs.Replies.{header_of_reply, failure_reply}
use Rattle.owes_examples.specs.ReversalExample.{paid_text, payment_records, reversal_ask_of, reversal_failure, reversal_intent_kept, since_kept, since_paid, since_reversal}
use Rattle.gw_owes.specs.Requests.{request_reply}
use Rattle.gw_owes.specs.Reversals.{original_of}
use Rattle.gw_owes.specs.Row.{Known}
use Rattle.gw_owes.specs.Rows.{row_of}
use Rattle.owes_examples.specs.StepExample.{day_known, period_header}
use Rattle.gw_owes.specs.TerminalExample.{ack, completion, abort, approved_status, one_pt}
use Rattle.gw_owes.specs.Terminals.{terminal_at}

-- ---- what a till asks

-- the header of a Reconciliation of till `S1` with this ServiceID
abbrev pub settling_header : List ℕ → Header
settling_header service = till_header (codes "Reconciliation") service

-- this till asks for a reconciliation of this type, under this ServiceID
abbrev pub since_period : ℕ → Period → List ℕ → Since → Since
since_period till period service since = since_asked till (settling_header service) (requests.Reconciliation period) since

-- for one of its own
abbrev pub since_sale : List ℕ → Since → Since
since_sale service since = since_period 1 SaleReconciliation service since

-- for an end of day
abbrev pub since_day : List ℕ → Since → Since
since_day service since = since_period 1 AcquirerReconciliation service since

-- ---- what it gets

-- the Settled under this ServiceID
abbrev pub settled_under : How → List ℕ → TheSettled
settled_under how service = record { how = how; sale = codes "S1"; poi = codes "T1"; service = service; currency = Eur; moment = pos paid_at }

-- the Success, with so many payments of so many minor units in all, and no reversals
abbrev pub paid_totals : How → List ℕ → ℕ → ℕ → ReplyValue
paid_totals how service payments units = Finished (header_of_reply (settling_header service)) (Reconciled (period_of how) Eur (payments, units) (0, 0))

-- the Settled is kept in this slot, and then till 1 gets these totals
abbrev pub settles_with : How → ℕ → List ℕ → ℕ → ℕ → List OwedCall
settles_with how slot service payments units = keep_calls slot (Settled (settled_under how service)) ++ SendTill 1 (paid_totals how service payments units) ∷ []

-- this till gets a Failure
abbrev pub fails_under : ℕ → List ℕ → Condition → List OwedCall
fails_under till service condition = SendTill till (failure_reply (settling_header service) condition) ∷ []

-- ---- a till's own

-- The payment of 10.99 is settled at once, in each standing of its terminal; one more of the till's own has no totals, and the first one again gets its own. The two other types aren't served.
pub record ExampleSales : Type 0 where
  pub ready : ComesTo (since_sale (codes "3") since_paid) (settles_with hows.Sale 2 (codes "3") 1 1099) (Ready 123)
  pub unlinked : ComesTo (since_sale (codes "3") (since_kept payment_records (Unlinked None))) (settles_with hows.Sale 2 (codes "3") 1 1099) (Unlinked None)
  pub registering : ComesTo (since_sale (codes "3") (since_kept payment_records Registering)) (settles_with hows.Sale 2 (codes "3") 1 1099) Registering
  pub aside : ComesTo (since_sale (codes "3") (since_kept payment_records (Aside 123 50))) (settles_with hows.Sale 2 (codes "3") 1 1099) (Aside 123 50)
  pub serving : ComesTo (since_sale (codes "3") (since_begun 0)) (begun_calls 0 ++ settles_with hows.Sale 1 (codes "3") 0 0) (Serving (Transaction 0) 0)
  pub twice : ComesTo (since_sale (codes "4") (since_sale (codes "3") since_paid)) (settles_with hows.Sale 2 (codes "3") 1 1099 ++ settles_with hows.Sale 3 (codes "4") 0 0) (Ready 123)
  pub again :
      ComesTo (since_sale (codes "3") (since_sale (codes "4") (since_sale (codes "3") since_paid)))
      (settles_with hows.Sale 2 (codes "3") 1 1099 ++ settles_with hows.Sale 3 (codes "4") 0 0 ++ SendTill 1 (paid_totals hows.Sale (codes "3") 1 1099) ∷ []) (Ready 123)
  pub synchronisation : ComesTo (since_period 1 AcquirerSynchronisation (codes "3") since_paid) (fails_under 1 (codes "3") UnavailableService) (Ready 123)
  pub previous : ComesTo (since_period 1 PreviousReconciliation (codes "3") since_paid) (fails_under 1 (codes "3") UnavailableService) (Ready 123)

-- ---- an end of day

-- till 1 asks for it under ServiceID 3
abbrev pub since_day_asked : Since
since_day_asked = since_day (codes "3") since_paid

-- the terminal is asked
abbrev pub day_asked : List OwedCall
day_asked = SendPt 0 (Ask (commands.EndOfDay one_pt.password)) ∷ []

-- it serves the end of day then
abbrev pub serving_day_asked : Standing
serving_day_asked = Serving (EndOfDay (settling_header (codes "3")) AcquirerReconciliation) 123

-- it is done
abbrev pub since_day_done : Since
since_day_done = since_sent completion (since_sent ack since_day_asked)

-- what is owed until then
abbrev pub day_done_calls : List OwedCall
day_done_calls = day_asked ++ acknowledged_once ++ settles_with hows.Acquirer 2 (codes "3") 1 1099

-- The terminal is asked with `06 50`. Once it is done the payment is settled; where it declines, or its end is unclear, or its link is lost, nothing is kept. A terminal that isn't linked, and one that is busy, begin none.
pub record ExampleDays : Type 0 where
  pub begins : ComesTo since_day_asked day_asked serving_day_asked
  pub command : sending_bytes (Ask (commands.EndOfDay one_pt.password)) ≡ 0x06 ∷ 0x50 ∷ 0x03 ∷ 0x12 ∷ 0x34 ∷ 0x56 ∷ []
  pub done : ComesTo since_day_done day_done_calls (Ready 123)
  pub declined : ComesTo (since_sent (abort 0x6C) (since_sent ack since_day_asked)) (day_asked ++ acknowledged_once ++ fails_under 1 (codes "3") Cancel) (Ready 123)
  pub unclear : ComesTo (since_sent (0x06 ∷ 0x1E ∷ 0x00 ∷ []) (since_sent ack since_day_asked)) (day_asked ++ acknowledged_once ++ CutPt 0 ∷ []) (Unlinked (Some 1741342269))
  pub lost : ComesTo (since_linked LinkIsLost since_day_asked) (day_asked ++ fails_under 1 (codes "3") UnavailableDevice) (Unlinked (Some 1741342269))
  pub unlinked : ComesTo (since_day (codes "3") (since_kept payment_records (Unlinked None))) (fails_under 1 (codes "3") UnavailableDevice) (Unlinked None)
  pub busy : ComesTo (since_day (codes "3") (since_begun 0)) (begun_calls 0 ++ fails_under 1 (codes "3") Busy) (Serving (Transaction 0) 0)

-- While it is served, the same request of another till is in progress, and another one under its ServiceID isn't allowed, nor is a payment; a TransactionStatus says that it is in progress. Afterwards the same request gets its totals again, also where a till's own came between.
pub record ExampleDayAgain : Type 0 where
  pub in_progress : ComesTo (since_period 2 AcquirerReconciliation (codes "3") since_day_asked) (day_asked ++ fails_under 2 (codes "3") InProgress) serving_day_asked
  pub other_type : ComesTo (since_period 2 SaleReconciliation (codes "3") since_day_asked) (day_asked ++ fails_under 2 (codes "3") NotAllowed) serving_day_asked
  pub payment : ComesTo (since_payment 2 (codes "3") 500 since_day_asked) (day_asked ++ SendTill 2 (payment_failure (codes "3") NotAllowed) ∷ []) serving_day_asked
  pub status : ComesTo (since_status 2 (codes "3") since_day_asked) (day_asked ++ SendTill 2 (failure_reply (till_header (codes "TransactionStatus") (codes "3")) InProgress) ∷ []) serving_day_asked
  pub again : ComesTo (since_period 2 AcquirerReconciliation (codes "3") since_day_done) (day_done_calls ++ SendTill 2 (paid_totals hows.Acquirer (codes "3") 1 1099) ∷ []) (Ready 123)
  pub later :
      ComesTo (since_period 2 AcquirerReconciliation (codes "3") (since_sale (codes "4") since_day_done))
      (day_done_calls ++ settles_with hows.Sale 3 (codes "4") 0 0 ++ SendTill 2 (paid_totals hows.Acquirer (codes "3") 1 1099) ∷ []) (Ready 123)
  pub other_after : ComesTo (since_period 2 SaleReconciliation (codes "3") since_day_done) (day_done_calls ++ fails_under 2 (codes "3") NotAllowed) (Ready 123)

-- the text names this slot's payment at `T1`
pub record IsOriginal (known : Known) (text : List ℕ) (slot : ℕ) : Type 0 where
  pub original : TheEntry
  pub original_is : original_of known.kept (codes "T1") (reversal_ask_of text None) ≡ Some original
  pub slot_is : original.slot ≡ slot
  pub what : original.intent.what ≡ deals.Payment
  pub poi : original.intent.poi ≡ codes "T1"

-- a payment can't be reversed any more once it is settled, by an end of day or by a till
pub record ExampleSettledPayment : Type 0 where
  pub by_day : ComesTo (since_reversal (codes "5") paid_text None since_day_done) (day_done_calls ++ SendTill 1 (reversal_failure (codes "5") NotAllowed) ∷ []) (Ready 123)
  pub by_till :
      ComesTo (since_reversal (codes "5") paid_text None (since_sale (codes "3") since_paid)) (settles_with hows.Sale 2 (codes "3") 1 1099 ++ SendTill 1 (reversal_failure (codes "5") NotAllowed) ∷ []) (Ready 123)
  pub named : IsOriginal since_day_done.known paid_text 0
  pub ended : ended_at since_day_done.known.kept 0 ≡ Some 1
  pub after : IsSettledAfter since_day_done.known.kept (codes "T1") 1

-- ---- between a beginning and its end

-- a till's own is settled while the end of day is served, which then is done
abbrev pub since_beside_day : Since
since_beside_day = since_sent completion (since_sale (codes "4") (since_sent ack since_day_asked))

-- the till's own takes the payment into its totals, and the end of day, whose Settled comes after it, has none
abbrev pub beside_day_calls : List OwedCall
beside_day_calls = day_asked ++ settles_with hows.Sale 2 (codes "4") 1 1099 ++ acknowledged_once ++ settles_with hows.Acquirer 3 (codes "3") 0 0

-- a payment is begun before a Settled, and approved after it
abbrev pub since_across : Since
since_across = since_sent completion (since_sent approved_status (since_sent ack (since_sale (codes "3") (since_begun 0))))

-- the Settled has no totals, and then the Outcome of the payment is kept
abbrev pub across_calls : List OwedCall
across_calls =
    begun_calls 0 ++ settles_with hows.Sale 1 (codes "3") 0 0 ++ acknowledged_once ++ acknowledged_once ++ keep_calls 2 (Outcome (approved_with_amount 1099)) ++ SendTill 1 (approved_reply 1099) ∷ []

-- Two Settleds are kept of the one payment, the second without totals, also where it is asked for again. What is approved after a Settled is counted in the next one, and can still be reversed until then.
pub record ExampleBetween : Type 0 where
  pub beside : ComesTo since_beside_day beside_day_calls (Ready 123)
  pub again : ComesTo (since_period 2 AcquirerReconciliation (codes "3") since_beside_day) (beside_day_calls ++ SendTill 2 (paid_totals hows.Acquirer (codes "3") 0 0) ∷ []) (Ready 123)
  pub across : ComesTo since_across across_calls (Ready 123)
  pub counted : ComesTo (since_sale (codes "4") since_across) (across_calls ++ settles_with hows.Sale 3 (codes "4") 1 1099) (Ready 123)
  pub reversible :
      ComesTo (since_reversal (codes "2") paid_text None since_across)
      (across_calls ++ keep_calls 3 (Intent reversal_intent_kept) ++ SendPt 0 (Ask (commands.Reverse one_pt.password 17)) ∷ []) (Serving (Transaction 3) 123)

-- ---- premises

-- the terminal that is ready with trace number 123
abbrev pub paid_terminal : Terminal
paid_terminal = record ready_terminal { standing = Ready 123 }

-- the key with ServiceID 3
abbrev pub third_key : Key
third_key = record { sale = codes "S1"; poi = codes "T1"; service = codes "3" }

-- the terminal that serves the end of day sends a message that means this
pub record MeansOfDay (apdu : ApduValue) (meant : Heard) : Type 0 where
  pub terminal : Terminal
  pub means : MeansServed (since_sent ack since_day_asked).known 0 apdu terminal (EndOfDay (settling_header (codes "3")) AcquirerReconciliation) 123 meant

-- a Reconciliation of till 1 may begin at its terminal; this serves the end of day of its key then, and is done, declines it, or ends it unclearly
pub record ExampleDayPremises : Type 0 where
  pub there : is_connected two_tills 1 ≡ true
  pub named : named_terminal since_paid.known.core (codes "T1") ≡ Some (record { number = 0; terminal = paid_terminal })
  pub found : terminal_at since_paid.known 0 ≡ Some paid_terminal
  pub may : PassesUpToStanding since_paid.known (settling_header (codes "3")) (record { number = 0; terminal = paid_terminal })
  pub serves : ServesDayOf since_day_asked.known third_key
  pub done : MeansOfDay (record { class = 0x06; instr = 0x0F; body = [] }) heard.Done
  pub declined : MeansOfDay (record { class = 0x06; instr = 0x1E; body = 0x6C ∷ [] }) (heard.Declined 0x6C None)
  pub unclear : MeansOfDay (record { class = 0x06; instr = 0x1E; body = [] }) heard.Unclear
  pub keeps : records_kept (row_of two_tills since_paid.known (Serve 0 1 (settling_header (codes "3")) (requests.Reconciliation SaleReconciliation))).calls ≡ Settled (settled_under hows.Sale (codes "3")) ∷ []

-- the day of the records' own examples, after which a till's own was settled: its records may come one after the other, and the same request gets its Success again
pub record ExampleSettledDay : Type 0 where
  pub kept_is : day_closed ≡ day ++ Settled day_settled ∷ []
  pub folded : AreFolded day_closed
  pub own : own_key (period_header (codes "4")) ≡ Some (settled_key day_settled)
  pub again : request_reply (day_known day_closed (Ready 125)) (period_header (codes "4")) (requests.Reconciliation SaleReconciliation) ≡ Some (reply_with_totals day day_settled)
