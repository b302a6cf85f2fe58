-- Proof of the contract of `law_terminal_row_examples`.
use Rattle.owes_examples.proofs.ExampleLemmas.{becomes-ready, reports-last, registration-fails, enquiry-fails, link-fails, silence, stray-messages, foreign-command, outside, failed-send, unlinked, aside, stop, late-stop, compared-reports, many-terminals, diagnosis, end-of-day, day-lost, day-stopped, display, display-lost, outputs, lost-serving}
use Rattle.owes_examples.proofs.law_terminal_row_examples.Goals as goal

pub returns-clause-becomes_ready : goal.returns-clause-becomes_ready
returns-clause-becomes_ready c = becomes-ready

pub returns-clause-reports_last : goal.returns-clause-reports_last
returns-clause-reports_last c = reports-last

pub returns-clause-registration : goal.returns-clause-registration
returns-clause-registration c = registration-fails

pub returns-clause-enquiry : goal.returns-clause-enquiry
returns-clause-enquiry c = enquiry-fails

pub returns-clause-link : goal.returns-clause-link
returns-clause-link c = link-fails

pub returns-clause-silence : goal.returns-clause-silence
returns-clause-silence c = silence

pub returns-clause-stray : goal.returns-clause-stray
returns-clause-stray c = stray-messages

pub returns-clause-foreign : goal.returns-clause-foreign
returns-clause-foreign c = foreign-command

pub returns-clause-outside : goal.returns-clause-outside
returns-clause-outside c = outside

pub returns-clause-failed_send : goal.returns-clause-failed_send
returns-clause-failed_send c = failed-send

pub returns-clause-unlinked : goal.returns-clause-unlinked
returns-clause-unlinked c = unlinked

pub returns-clause-aside : goal.returns-clause-aside
returns-clause-aside c = aside

pub returns-clause-stop : goal.returns-clause-stop
returns-clause-stop c = stop

pub returns-clause-late_stop : goal.returns-clause-late_stop
returns-clause-late_stop c = late-stop

pub returns-clause-reports : goal.returns-clause-reports
returns-clause-reports c = compared-reports

pub returns-clause-many : goal.returns-clause-many
returns-clause-many c = many-terminals

pub returns-clause-diagnosis : goal.returns-clause-diagnosis
returns-clause-diagnosis c = diagnosis

pub returns-clause-end_of_day : goal.returns-clause-end_of_day
returns-clause-end_of_day c = end-of-day

pub returns-clause-day_lost : goal.returns-clause-day_lost
returns-clause-day_lost c = day-lost

pub returns-clause-day_stopped : goal.returns-clause-day_stopped
returns-clause-day_stopped c = day-stopped

pub returns-clause-display : goal.returns-clause-display
returns-clause-display c = display

pub returns-clause-display_lost : goal.returns-clause-display_lost
returns-clause-display_lost c = display-lost

pub returns-clause-outputs : goal.returns-clause-outputs
returns-clause-outputs c = outputs

pub returns-clause-lost_serving : goal.returns-clause-lost_serving
returns-clause-lost_serving c = lost-serving
