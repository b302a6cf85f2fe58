-- Proof of the contract of `law_record_examples`.
use Rattle.owes_examples.proofs.AskedTextLemmas.{fourth-aborted-read, fourth-read, second-reversed-read}
use Rattle.owes_examples.proofs.RecordExampleLemmas.{RecordFacts, intent-is-kept, key-stays-open, outcome-is-kept, request-begins, reversal-is-kept, settled-is-kept, stop-keeps-nothing}
use Rattle.owes_examples.proofs.law_record_examples.Goals as goal

facts : (c : goal.After-law_examples) → RecordFacts
facts c = record {
  rows = c.law_records.ensures.rows;
  cuts = c.law_records.ensures.cuts;
  links = c.law_records.ensures.links;
  items = c.law_records.ensures.items;
  ready = c.law_examples.ensures.payment;
  opened = c.law_examples.ensures.outcome;
  reconciled = c.law_examples.ensures.reconciliation;
  read = fourth-read;
  reversed = second-reversed-read;
  aborted = fourth-aborted-read;
}

pub returns-clause-begins : goal.returns-clause-begins
returns-clause-begins c = request-begins (facts c)

pub returns-clause-intent : goal.returns-clause-intent
returns-clause-intent c = intent-is-kept (facts c)

pub returns-clause-outcome : goal.returns-clause-outcome
returns-clause-outcome c = outcome-is-kept (facts c)

pub returns-clause-open_key : goal.returns-clause-open_key
returns-clause-open_key c = key-stays-open (facts c)

pub returns-clause-reversal : goal.returns-clause-reversal
returns-clause-reversal c = reversal-is-kept (facts c)

pub returns-clause-stop : goal.returns-clause-stop
returns-clause-stop c = stop-keeps-nothing (facts c)

pub returns-clause-settled : goal.returns-clause-settled
returns-clause-settled c = settled-is-kept (facts c)
