-- Proof of the contract of `law_played`.
use Rattle.gw_owes.proofs.RecordLemmas.{LedgerLaws}
use Rattle.gw_rules.proofs.RecordRowLemmas.{OrderLaws}
use Rattle.gw_played.proofs.DayExampleLemmas.{played-days}
use Rattle.gw_played.proofs.PlayedExampleLemmas.{played-examples}
use Rattle.gw_played.proofs.PlayedLemmas.{played-agrees, played-is-honest}
use Rattle.gw_played.proofs.Playing.{PeerLaws}
use Rattle.gw_played.proofs.ReversalExampleLemmas.{played-reversals}
use Rattle.gw_played.proofs.law_played.Goals as goal

-- the laws of what a row keeps
order_laws : (c : goal.After-law_commands-2) → OrderLaws
order_laws c = record { new = c.law_records.ensures.new; rows = c.law_records.ensures.rows; cuts = c.law_records.ensures.cuts; links = c.law_records.ensures.links; items = c.law_records.ensures.items; gone = c.law_records.ensures.gone; queues = c.law_records.ensures.queues; overdue = c.law_records.ensures.overdue; next = c.law_waits.ensures.order; waits = c.law_waits.ensures.keeps }

-- the ledger's laws
ledger_laws : (c : goal.After-law_commands-2) → LedgerLaws
ledger_laws c = record {
  newest = c.law_next.ensures.newest;
  open_slots = c.law_open.ensures.slot;
  count = c.law_open.ensures.count;
  within = c.law_within.ensures;
  named = c.law_named.ensures.entry;
  payment = c.law_fits.ensures.payment;
  reversal = c.law_fits.ensures.reversal;
  outcome = c.law_fits.ensures.outcome;
  settled = c.law_fits.ensures.settled;
}

-- the laws of commands, messages and dialogues
peer_laws : (c : goal.After-law_commands-2) → PeerLaws
peer_laws c = record {
  all = record {
    stream = record { whole = c.law_decode_apdus.ensures.whole; incomplete = c.law_decode_apdus.ensures.incomplete; too_long = c.law_decode_apdus.ensures.too_long };
    read = record { written = c.law_read_again.ensures.messages; read = c.law_decode_pt_message.ensures.computes };
    digits = λ apdu command e. ((c.law_commands.ensures.canonical apdu command).0 ((c.law_commands.ensures.read apdu command).0 e)).0;
    ended = c.law_ends.ensures.ended;
  };
  written = c.law_read_again.ensures.commands;
  decoded = c.law_commands.ensures.read;
  asked = c.law_commands-2.ensures;
  means = c.law_talk_steps.ensures.means;
  next = c.law_talk_steps.ensures.next;
  stop_wished = c.law_talk_steps.ensures.stop_wished;
  ends_nothing = c.law_ends.ensures.stop_wished;
  ledger = ledger_laws c;
}

pub returns-clause-honest : goal.returns-clause-honest
returns-clause-honest c = played-is-honest (order_laws c) (peer_laws c)

pub returns-clause-agrees : goal.returns-clause-agrees
returns-clause-agrees c = played-agrees c.law_headline.ensures.headline (returns-clause-honest c)

pub returns-clause-examples : goal.returns-clause-examples
returns-clause-examples c = played-examples

pub returns-clause-reversals : goal.returns-clause-reversals
returns-clause-reversals c = played-reversals

pub returns-clause-days : goal.returns-clause-days
returns-clause-days c = played-days
