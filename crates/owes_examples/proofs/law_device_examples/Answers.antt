-- Proof of the contract of `law_device_examples`.
use Rattle.owes_examples.proofs.DeviceExampleLemmas.{along-run, device-requests, no-requests}
use Rattle.owes_examples.proofs.law_device_examples.Goals as goal

pub returns-clause-requests : goal.returns-clause-requests
returns-clause-requests c = device-requests

pub returns-clause-none : goal.returns-clause-none
returns-clause-none c = no-requests

pub returns-clause-along : goal.returns-clause-along
returns-clause-along c = along-run
