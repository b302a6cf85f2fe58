-- Closed examples of transcripts, message by message: a terminal that becomes ready, and then serves payments, each of which ends in another way, one that waited, a reversal, a payment that is to stop, ends of day and displays.
use Rattle.std.specs.Prelude.{◌≡◌, ℕ, pos, true, List, [], ◌∷◌, ◌++◌, Option, Some, None, codes, slice_get}
use Rattle.std.specs.Option.{option_map}
use Rattle.gw_base.specs.declared.condition.Condition.TheVariants.{UnavailableDevice}
use Rattle.sale_values.specs.declared.header.Header.{Header}
use Rattle.sale_values.specs.declared.names.Period.TheVariants.{AcquirerReconciliation}
use Rattle.sale_values.specs.declared.request.Output.{Output}
use Rattle.sale_values.specs.declared.request.PaymentAsk.{PaymentAsk}
use Rattle.sale_values.specs.declared.request.SaleRequest.TheVariants as requests
use Rattle.zvt_msg.specs.declared.command.Command.TheVariants.{Authorise, Reverse, EndOfDay, Stop}
use Rattle.zvt_msg.specs.Message.{Ack, Nack, Intermediate, Status, Completion, Abort}
use Rattle.xlate.specs.Display.{show_lines}
use Rattle.gw_owes.specs.declared.terminal.Service.TheVariants as services
use Rattle.gw_owes.specs.declared.terminal.Standing.{Standing}
use Rattle.gw_owes.specs.declared.terminal.Standing.TheVariants.{Unlinked, Enquiring, Ready, Serving, Aside}
use Rattle.gw_owes.specs.declared.terminal.Terminal.{Terminal}
use Rattle.gw_owes.specs.Core.{Wait, Core}
use Rattle.gw_owes.specs.Replies.{refused_results}
use Rattle.gw_owes.specs.Items.{Handle, Serve, NextWaiting}
use Rattle.gw_owes.specs.Row.{Known}
use Rattle.gw_owes.specs.Terminals.{registration}
use Rattle.gw_owes.specs.Links.{LinkIsMade}
use Rattle.gw_owes.specs.Handling.{enquiry_command}
use Rattle.gw_owes.specs.TerminalExample.{one_pt, setup_with, header_for}
use Rattle.gw_owes.specs.Transcript.{Carried, Commanded, Took, Wished, awaited_by, talk_by, some_day, some_display, standing_by, StepAt, HandlesItem, ChangesLink, ChangesWaits, FollowsTranscript, core_along, transcript_along, known_new}

-- ---- what happens

-- an APDU of the terminal with this class, instruction and data is handled at this moment
abbrev pub handles : ℕ → ℕ → ℕ → List ℕ → StepAt
handles moment class instruction apdu_data = record { moment = moment; step = HandlesItem (Handle 0 (record { class = class; instr = instruction; body = apdu_data })) }

-- the terminal acknowledges a command
abbrev pub acknowledges : ℕ → StepAt
acknowledges moment = handles moment 0x80 0x00 []

-- it completes one
abbrev pub completes : ℕ → StepAt
completes moment = handles moment 0x06 0x0F []

-- it aborts one with the code for no transaction
abbrev pub aborts : ℕ → StepAt
aborts moment = handles moment 0x06 0x1E (0x83 ∷ [])

-- the link is made, and the registration is acknowledged and done
abbrev pub steps_to_registered : List StepAt
steps_to_registered = record { moment = 0; step = ChangesLink 0 LinkIsMade } ∷ acknowledges 1 ∷ completes 2 ∷ []

-- so then is the enquiry, which reports no transaction
abbrev pub steps_to_ready : List StepAt
steps_to_ready = steps_to_registered ++ acknowledges 3 ∷ aborts 4 ∷ []

-- after that the enquiry is aborted before it is acknowledged, which is unclear: the connection is cut
abbrev pub steps_to_cut : List StepAt
steps_to_cut = steps_to_registered ++ aborts 3 ∷ []

-- the data of a Status with this result code, the trace number 0 to 9999 of these two bytes, 10.99 and the receipt number 17
abbrev pub status_data : ℕ → ℕ → ℕ → List ℕ
status_data result_code hundreds units =
    0x27 ∷ result_code ∷ 0x04 ∷ 0x00 ∷ 0x00 ∷ 0x00 ∷ 0x00 ∷ 0x10 ∷ 0x99 ∷ 0x0B ∷ 0x00 ∷ hundreds ∷ units ∷ 0x87 ∷ 0x00 ∷ 0x17 ∷ []

-- it sends that Status
abbrev pub reports : ℕ → ℕ → ℕ → ℕ → StepAt
reports moment result_code hundreds units = handles moment 0x04 0x0F (status_data result_code hundreds units)

-- it refuses a command with the code 6C
abbrev pub refuses : ℕ → StepAt
refuses moment = handles moment 0x84 0x6C []

-- a payment of 10.99
abbrev pub payment_of_10_99 : PaymentAsk
payment_of_10_99 = record { transaction = codes "9"; stamp = codes "2026-01-01T00:00:00Z"; currency = codes "EUR"; amount = 1099; kind = None }

-- till 3 asks for it with this ServiceID, and the terminal begins to serve it
abbrev pub begins_service : ℕ → List ℕ → StepAt
begins_service moment service =
    record { moment = moment; step = HandlesItem (Serve 0 3 (record (header_for (codes "Payment") (codes "T1")) { service = Some service }) (requests.Payment payment_of_10_99)) }

-- till 3 asks under ServiceID 2 for the reversal of the transaction 000123-0017-0, and the terminal begins to serve it
abbrev pub begins_reversal : ℕ → StepAt
begins_reversal moment = record {
  moment = moment;
  step =
      HandlesItem
      (Serve 0 3 (record (header_for (codes "Reversal") (codes "T1")) { service = Some (codes "2") })
      (requests.Reversal (record { transaction = codes "000123-0017-0"; amount = None })));
}

-- till 3 aborts the request with this ServiceID, and the terminal is to stop it
abbrev pub aborts_service : ℕ → List ℕ → StepAt
aborts_service moment service = record {
  moment = moment;
  step = HandlesItem (Serve 0 3 (header_for (codes "Abort") (codes "T1")) (requests.Abort (record { service = service; sale = None; poi = None })));
}

-- the header of a request for an end of day with this ServiceID
abbrev pub day_request_header : List ℕ → Header
day_request_header service = record (header_for (codes "Reconciliation") (codes "T1")) { service = Some service }

-- till 3 asks for an end of day with this ServiceID, and the terminal begins to serve it
abbrev pub begins_day_at : ℕ → List ℕ → StepAt
begins_day_at moment service =
    record { moment = moment; step = HandlesItem (Serve 0 3 (day_request_header service) (requests.Reconciliation AcquirerReconciliation)) }

-- it sends an intermediate status
abbrev pub notes : ℕ → StepAt
notes moment = handles moment 0x04 0xFF (0x0A ∷ [])

-- an output for the customer's display
abbrev pub hello_output : Output
hello_output = record { device = codes "CustomerDisplay"; qualify = codes "Display"; required = true; texts = Some (codes "Hello" ∷ []) }

-- till 3 asks for a Display of it, and the terminal begins to show it
abbrev pub begins_display_at : ℕ → StepAt
begins_display_at moment = record { moment = moment; step = HandlesItem (Serve 0 3 (header_for (codes "Display") (codes "T1")) (requests.Display (hello_output ∷ []))) }

-- ---- where it leads to

-- the first payment is begun
abbrev pub steps_to_serving : List StepAt
steps_to_serving = steps_to_ready ++ begins_service 5 (codes "1") ∷ []

-- it is acknowledged, and approved with the trace number 123
abbrev pub steps_to_approved : List StepAt
steps_to_approved = steps_to_serving ++ acknowledges 6 ∷ reports 7 0x00 0x01 0x23 ∷ completes 8 ∷ []

-- the second payment is begun
abbrev pub steps_to_serving_again : List StepAt
steps_to_serving_again = steps_to_approved ++ begins_service 9 (codes "2") ∷ []

-- the second payment, of till 4, which waits for the terminal
abbrev pub waiting_payment : Wait
waiting_payment = record {
  key = record { sale = (header_for (codes "Payment") (codes "T1")).sale; poi = codes "T1"; service = codes "2" };
  pt = 0;
  till = 4;
  deadline = pos 60;
  header = record (header_for (codes "Payment") (codes "T1")) { service = Some (codes "2") };
  request = requests.Payment payment_of_10_99;
}

-- it waits while the first one is served, and is begun once that is approved
abbrev pub steps_to_next : List StepAt
steps_to_next =
    steps_to_serving
    ++ record { moment = 5; step = ChangesWaits (waiting_payment ∷ []) } ∷ acknowledges 6 ∷ reports 7 0x00 0x01 0x23 ∷ completes 8 ∷ record { moment = 9; step = HandlesItem (NextWaiting 0) } ∷ []

-- it is declined with the code 05, and the greater trace number 200
abbrev pub steps_to_declined : List StepAt
steps_to_declined = steps_to_serving_again ++ acknowledges 10 ∷ reports 11 0x05 0x02 0x00 ∷ completes 12 ∷ []

-- the third one is refused at once
abbrev pub steps_to_refused : List StepAt
steps_to_refused = steps_to_declined ++ begins_service 13 (codes "3") ∷ refuses 14 ∷ []

-- the fourth one is approved with the trace number 150, which isn't above that before
abbrev pub steps_to_aside : List StepAt
steps_to_aside = steps_to_refused ++ begins_service 15 (codes "4") ∷ acknowledges 16 ∷ reports 17 0x00 0x01 0x50 ∷ completes 18 ∷ []

-- the first one is acknowledged and completed without a Status, which is unclear: the connection is cut
abbrev pub steps_to_unclear : List StepAt
steps_to_unclear = steps_to_serving ++ acknowledges 6 ∷ completes 7 ∷ []

-- the payment that was approved is reversed
abbrev pub steps_to_reversing : List StepAt
steps_to_reversing = steps_to_approved ++ begins_reversal 9 ∷ []

-- it is acknowledged, and approved with the trace number 124
abbrev pub steps_to_reversed : List StepAt
steps_to_reversed = steps_to_reversing ++ acknowledges 10 ∷ reports 11 0x00 0x01 0x24 ∷ completes 12 ∷ []

-- the first payment is aborted before it is acknowledged
abbrev pub steps_to_wished : List StepAt
steps_to_wished = steps_to_serving ++ aborts_service 6 (codes "1") ∷ []

-- once it is acknowledged it is aborted again; then it is approved all the same, before its stop is acknowledged or refused
abbrev pub steps_to_unacknowledged : List StepAt
steps_to_unacknowledged = steps_to_wished ++ acknowledges 7 ∷ aborts_service 8 (codes "1") ∷ reports 9 0x00 0x01 0x23 ∷ completes 10 ∷ []

-- the second payment is begun
abbrev pub steps_to_late : List StepAt
steps_to_late = steps_to_unacknowledged ++ begins_service 11 (codes "2") ∷ []

-- a refusal comes, which may be that of the stop: that is unclear, and the connection is cut
abbrev pub steps_to_late_cut : List StepAt
steps_to_late_cut = steps_to_late ++ refuses 12 ∷ []

-- an end of day is begun
abbrev pub steps_to_day : List StepAt
steps_to_day = steps_to_ready ++ begins_day_at 5 (codes "1") ∷ []

-- it is acknowledged, shows an intermediate status, is aborted, and is done all the same, before its stop is acknowledged or refused
abbrev pub steps_to_day_done : List StepAt
steps_to_day_done = steps_to_day ++ acknowledges 6 ∷ notes 7 ∷ aborts_service 8 (codes "1") ∷ completes 9 ∷ []

-- a display is begun
abbrev pub steps_to_display : List StepAt
steps_to_display = steps_to_day_done ++ begins_display_at 10 ∷ []

-- an Ack comes, with which it is done
abbrev pub steps_to_displayed : List StepAt
steps_to_displayed = steps_to_display ++ acknowledges 11 ∷ []

-- an end of day is refused at once, and so is a display
abbrev pub steps_to_day_refused : List StepAt
steps_to_day_refused = steps_to_ready ++ begins_day_at 5 (codes "1") ∷ refuses 6 ∷ begins_display_at 7 ∷ refuses 8 ∷ []

-- what is known as the run of the one terminal begins
abbrev pub one_known : Known
one_known = known_new (setup_with (one_pt ∷ [])) []

-- what is remembered after these steps of its run
abbrev pub core_after_steps : List StepAt → Core
core_after_steps steps = core_along one_known steps

-- the standing of the terminal then
abbrev pub standing_after_steps : List StepAt → Option Standing
standing_after_steps steps = option_map (λ (terminal : Terminal). terminal.standing) (slice_get (core_after_steps steps).terminals 0)

-- its transcript then
abbrev pub transcript_after_steps : List StepAt → List Carried
transcript_after_steps steps = transcript_along 0 one_known [] steps

-- ---- the transcripts

-- the transcript once the registration is done, the newest first
abbrev pub registered_transcript : List Carried
registered_transcript = Commanded (enquiry_command one_pt) 2 ∷ Took Completion 2 0 ∷ Took Ack 1 0 ∷ Commanded (registration one_pt) 0 ∷ []

-- the transcript of the terminal that is ready
abbrev pub ready_transcript : List Carried
ready_transcript = Took (Abort (Some 0x83)) 4 0 ∷ Took Ack 3 0 ∷ registered_transcript

-- that of the one that serves the first payment: 10.99 in the currency 978 was asked for
abbrev pub serving_transcript : List Carried
serving_transcript = Commanded (Authorise 1099 978) 5 ∷ ready_transcript

-- a Status with this result code and this trace number is taken
abbrev pub took_status : ℕ → ℕ → ℕ → ℕ → Carried
took_status result_code trace moment least =
    Took (Status (record { result = Some result_code; amount = Some 1099; trace = Some trace; receipt = Some 17; currency = None; tail = 16 })) moment least

-- that of the one whose payment was approved
abbrev pub approved_transcript : List Carried
approved_transcript = Took Completion 8 0 ∷ took_status 0x00 123 7 0 ∷ Took Ack 6 0 ∷ serving_transcript

-- that of the one that serves the second payment
abbrev pub serving_again_transcript : List Carried
serving_again_transcript = Commanded (Authorise 1099 978) 9 ∷ approved_transcript

-- that of the one whose second payment was declined
abbrev pub declined_transcript : List Carried
declined_transcript = Took Completion 12 123 ∷ took_status 0x05 200 11 123 ∷ Took Ack 10 123 ∷ serving_again_transcript

-- that of the one that has refused the third payment; the third Intent has the last trace number, 200
abbrev pub refused_transcript : List Carried
refused_transcript = Took (Nack 0x6C) 14 200 ∷ Commanded (Authorise 1099 978) 13 ∷ declined_transcript

-- that of the one that is set aside with the fourth payment
abbrev pub aside_transcript : List Carried
aside_transcript = Took Completion 18 200 ∷ took_status 0x00 150 17 200 ∷ Took Ack 16 200 ∷ Commanded (Authorise 1099 978) 15 ∷ refused_transcript

-- that of the one that reverses the payment, by its receipt number
abbrev pub reversing_transcript : List Carried
reversing_transcript = Commanded (Reverse one_pt.password 17) 9 ∷ approved_transcript

-- that of the one whose reversal was approved
abbrev pub reversed_transcript : List Carried
reversed_transcript = Took Completion 12 123 ∷ took_status 0x00 124 11 123 ∷ Took Ack 10 123 ∷ reversing_transcript

-- that of the one of which a stop is wished
abbrev pub wished_transcript : List Carried
wished_transcript = Wished ∷ serving_transcript

-- that of the one that was asked to stop, and has approved all the same
abbrev pub unacknowledged_transcript : List Carried
unacknowledged_transcript = Took Completion 10 0 ∷ took_status 0x00 123 9 0 ∷ Wished ∷ Commanded Stop 7 ∷ Took Ack 7 0 ∷ wished_transcript

-- that of the one that serves the second payment then
abbrev pub late_transcript : List Carried
late_transcript = Commanded (Authorise 1099 978) 11 ∷ unacknowledged_transcript

-- that of the one that serves the end of day
abbrev pub day_transcript : List Carried
day_transcript = Commanded (EndOfDay one_pt.password) 5 ∷ ready_transcript

-- that of the one that was asked to stop it, and is done all the same
abbrev pub day_done_transcript : List Carried
day_done_transcript = Took Completion 9 0 ∷ Commanded Stop 8 ∷ Wished ∷ Took (Intermediate 0x0A) 7 0 ∷ Took Ack 6 0 ∷ day_transcript

-- that of the one that shows the output then
abbrev pub display_transcript : List Carried
display_transcript = Commanded (show_lines (codes "Hello" ∷ [])) 10 ∷ day_done_transcript

-- that of the one that has shown it
abbrev pub displayed_transcript : List Carried
displayed_transcript = Took Ack 11 0 ∷ display_transcript

-- that of the one that has refused both
abbrev pub day_refused_transcript : List Carried
day_refused_transcript = Took (Nack 0x6C) 8 0 ∷ Commanded (show_lines (codes "Hello" ∷ [])) 7 ∷ Took (Nack 0x6C) 6 0 ∷ day_transcript

-- ---- the examples

-- the transcripts on the way to ready, and what they say: an enquiry with its Ack awaited, and then a terminal that is ready with 0, without a dialogue; and the one after a cut
pub record ExampleReadyTranscript : Type 0 where
  pub registered : transcript_after_steps steps_to_registered ≡ registered_transcript
  pub registered_awaits : awaited_by registered_transcript ≡ 1
  pub registered_standing : standing_by one_pt registered_transcript ≡ Some Enquiring
  pub registered_follows : FollowsTranscript 0 registered_transcript (core_after_steps steps_to_registered)
  pub ready : transcript_after_steps steps_to_ready ≡ ready_transcript
  pub ready_awaits : awaited_by ready_transcript ≡ 0
  pub ready_talk : talk_by one_pt ready_transcript ≡ None
  pub ready_standing : standing_by one_pt ready_transcript ≡ Some (Ready 0)
  pub ready_follows : FollowsTranscript 0 ready_transcript (core_after_steps steps_to_ready)
  pub cut : transcript_after_steps steps_to_cut ≡ []
  pub cut_follows : FollowsTranscript 0 [] (core_after_steps steps_to_cut)

-- the transcript after steps, which end in this standing: it says the same but for the slot or the request of what is served, and the moment at which the terminal is linked again
pub record EndsWithTranscript (steps : List StepAt) (transcript : List Carried) (carried standing : Standing) : Type 0 where
  pub transcript_is : transcript_after_steps steps ≡ transcript
  pub carried_is : standing_by one_pt transcript ≡ Some carried
  pub standing_is : standing_after_steps steps ≡ Some standing
  pub follows : FollowsTranscript 0 transcript (core_after_steps steps)

-- the transcripts of four payments: the first is approved, the second is declined with a greater trace number, the third is refused without one, and the fourth is approved with one that isn't greater; and of a payment whose end is unclear
pub record ExamplePaymentTranscript : Type 0 where
  pub serving : EndsWithTranscript steps_to_serving serving_transcript (Serving (services.Transaction 0) 0) (Serving (services.Transaction 0) 0)
  pub serving_awaits : awaited_by serving_transcript ≡ 1
  pub approved : EndsWithTranscript steps_to_approved approved_transcript (Ready 123) (Ready 123)
  pub approved_talk : talk_by one_pt approved_transcript ≡ None
  pub serving_again : EndsWithTranscript steps_to_serving_again serving_again_transcript (Serving (services.Transaction 0) 123) (Serving (services.Transaction 2) 123)
  pub declined : EndsWithTranscript steps_to_declined declined_transcript (Ready 200) (Ready 200)
  pub refused : EndsWithTranscript steps_to_refused refused_transcript (Ready 200) (Ready 200)
  pub aside : EndsWithTranscript steps_to_aside aside_transcript (Aside 200 150) (Aside 200 150)
  pub unclear : EndsWithTranscript steps_to_unclear [] (Unlinked None) (Unlinked (Some 12))

-- the transcript of a payment that waited while another was served: it is that of one that is begun at once, with the trace number of the one before it, and it waits no longer
pub record ExampleWaitingTranscript : Type 0 where
  pub begun : EndsWithTranscript steps_to_next serving_again_transcript (Serving (services.Transaction 0) 123) (Serving (services.Transaction 2) 123)
  pub none_left : (core_after_steps steps_to_next).waits ≡ []

-- the transcripts of a reversal, which is approved
pub record ExampleReversalTranscript : Type 0 where
  pub reversing : EndsWithTranscript steps_to_reversing reversing_transcript (Serving (services.Transaction 0) 123) (Serving (services.Transaction 2) 123)
  pub reversed : EndsWithTranscript steps_to_reversed reversed_transcript (Ready 124) (Ready 124)

-- the transcripts of a payment of which a stop is wished twice, and sent once; of its Ack or Nack, which is awaited beside that of the next payment; and of a refusal that may be it
pub record ExampleStopTranscript : Type 0 where
  pub wished : EndsWithTranscript steps_to_wished wished_transcript (Serving (services.Transaction 0) 0) (Serving (services.Transaction 0) 0)
  pub wished_awaits : awaited_by wished_transcript ≡ 1
  pub unacknowledged : EndsWithTranscript steps_to_unacknowledged unacknowledged_transcript (Ready 123) (Ready 123)
  pub unacknowledged_awaits : awaited_by unacknowledged_transcript ≡ 1
  pub late : EndsWithTranscript steps_to_late late_transcript (Serving (services.Transaction 0) 123) (Serving (services.Transaction 2) 123)
  pub late_awaits : awaited_by late_transcript ≡ 2
  pub cut : EndsWithTranscript steps_to_late_cut [] (Unlinked None) (Unlinked (Some 17))

-- the transcripts of an end of day that is to stop and is done all the same; of a display after it, which is done with the next Ack, while another is still awaited; and of an end of day and a display that are refused
pub record ExampleDayTranscript : Type 0 where
  pub day : EndsWithTranscript steps_to_day day_transcript (Serving some_day 0) (Serving (services.EndOfDay (day_request_header (codes "1")) AcquirerReconciliation) 0)
  pub day_awaits : awaited_by day_transcript ≡ 1
  pub day_done : EndsWithTranscript steps_to_day_done day_done_transcript (Ready 0) (Ready 0)
  pub day_done_awaits : awaited_by day_done_transcript ≡ 1
  pub display : EndsWithTranscript steps_to_display display_transcript (Serving some_display 0) (Serving (services.Display (header_for (codes "Display") (codes "T1")) (refused_results UnavailableDevice (hello_output ∷ []))) 0)
  pub display_awaits : awaited_by display_transcript ≡ 2
  pub displayed : EndsWithTranscript steps_to_displayed displayed_transcript (Ready 0) (Ready 0)
  pub displayed_awaits : awaited_by displayed_transcript ≡ 1
  pub refused : EndsWithTranscript steps_to_day_refused day_refused_transcript (Ready 0) (Ready 0)
  pub refused_awaits : awaited_by day_refused_transcript ≡ 0

-- the examples
pub record ExampleTranscript : Type 0 where
  pub ready : ExampleReadyTranscript
  pub payments : ExamplePaymentTranscript
  pub waiting : ExampleWaitingTranscript
  pub reversal : ExampleReversalTranscript
  pub stop : ExampleStopTranscript
  pub days : ExampleDayTranscript
