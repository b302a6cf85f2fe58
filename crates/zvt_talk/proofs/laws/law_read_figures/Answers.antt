-- Proof of the contract of `law_read_figures`.
use Rattle.std.proofs.Common.{[], Some, refl, arith}
use Rattle.zvt_bmp.specs.Decode.{decode_status, decode_status_within, decode_status_field, decode_field_value}
use Rattle.zvt_msg.specs.MessageDecode.{decode_pt_message}
use Rattle.zvt_talk.proofs.LimitLemmas.{declined_trace, fit_record, read_fit, trace_within}
use Rattle.zvt_talk.specs.Came.{messages}
use Rattle.zvt_talk.specs.Example.{declined_status_data, greatest_status_data}
use Rattle.zvt_talk.proofs.laws.law_read_figures.Goals as goal

pub returns-clause-fit : goal.returns-clause-fit
returns-clause-fit c = read_fit c.law_read_fits.ensures.numbers

pub returns-clause-approved : goal.returns-clause-approved
returns-clause-approved c = λ dialogue came message figures read is.
    let all = read_fit c.law_read_fits.ensures.numbers (messages came) read in
    fit_record figures (c.law_figures.ensures.approved dialogue came message figures all is) (c.law_figures.ensures.some dialogue came message figures is)

pub returns-clause-reported : goal.returns-clause-reported
returns-clause-reported c = λ dialogue came message trace figures result_code read is.
    let all = read_fit c.law_read_fits.ensures.numbers (messages came) read in
    fit_record figures (c.law_figures.ensures.reported dialogue came message trace figures result_code all is) (c.law_figures.ensures.reported_some dialogue came message trace figures result_code is)

pub returns-clause-reported_trace : goal.returns-clause-reported_trace
returns-clause-reported_trace c = λ dialogue came message trace approved result_code read is.
    let all = read_fit c.law_read_fits.ensures.numbers (messages came) read in
    trace_within trace (c.law_figures.ensures.reported_trace dialogue came message trace approved result_code all is)

pub returns-clause-declined_trace : goal.returns-clause-declined_trace
returns-clause-declined_trace c = λ dialogue came message result_code trace read is.
    let all = read_fit c.law_read_fits.ensures.numbers (messages came) read in
    trace_within trace (declined_trace dialogue.dialogue_kind came message result_code trace all
    (λ known. ((c.law_declined.ensures.transaction dialogue came message result_code (Some trace) known).0 is).1)
    (λ known. (c.law_declined.ensures.service dialogue came message result_code (Some trace) known).0 is)
    (λ known. ((c.law_declined.ensures.other dialogue came message result_code (Some trace) known).0 is).1))

pub returns-clause-example : goal.returns-clause-example
unfolding decode_pt_message decode_status decode_status_within decode_status_field decode_field_value
returns-clause-example c = record {
  status = refl;
  read = ((record { class = 0x80; instr = 0x00; body = [] }, refl), ((record { class = 0x04; instr = 0x0F; body = greatest_status_data }, refl), tt));
  approved = refl;
  fit = record { first_trace = omega arith; trace = omega arith; receipt = omega arith; amount = (omega arith, omega arith) };
  declined_read = ((record { class = 0x80; instr = 0x00; body = [] }, refl), ((record { class = 0x04; instr = 0x0F; body = declined_status_data }, refl), tt));
  declined = refl;
}
