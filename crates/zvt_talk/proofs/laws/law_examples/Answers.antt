-- The example dialogues, by computing.
use Rattle.std.proofs.Common.{refl, arith}
use Rattle.zvt_talk.specs.Example.{greatest_status}
use Rattle.zvt_talk.proofs.laws.law_examples.Goals as goal

pub returns-clause-begun : goal.returns-clause-begun
returns-clause-begun c = record { without_stop_wished = refl; with_stop_wished = refl; display = refl }

pub returns-clause-goes_on : goal.returns-clause-goes_on
returns-clause-goes_on c = record { note = refl; line = refl; block = refl; status = refl; too_early = refl }

pub returns-clause-deadline : goal.returns-clause-deadline
returns-clause-deadline c = record { command = refl; message = refl; other = refl; stop_wished = refl; later = refl }

pub returns-clause-figures : goal.returns-clause-figures
returns-clause-figures c = record {
  read = (tt, (record { amount = omega arith; trace = omega arith; receipt = omega arith }, tt));
  approved = refl;
  reported = refl;
  fit = record { trace = omega arith; receipt = omega arith; amount = omega arith };
  some = record { trace = omega arith; amount = omega arith };
}

pub returns-clause-reports : goal.returns-clause-reports
returns-clause-reports c = record {
  last = record {
    completion = refl;
    status = greatest_status;
    last = refl;
    its_code = refl;
    its_trace = refl;
    reported = (refl, record { trace = refl; receipt = refl; amount = refl; first_trace = omega arith; some_amount = omega arith });
  };
  declined = refl;
  none = record {
    begun = λ e. cc;
    abort = refl;
    configured = refl;
    no_status = refl;
    not_zero = λ e. omega (arith, e);
    no_trace = refl;
    no_figures = refl;
  };
  none_reported = refl;
  other_code = refl;
}

pub returns-clause-steps : goal.returns-clause-steps
returns-clause-steps c = record {
  talk = refl;
  goes_on = refl;
  means_for_talk = refl;
  means = refl;
  next = refl;
  after_all = refl;
  ended = refl;
  stays = refl;
}
