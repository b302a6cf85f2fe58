-- Proof of the contract of `law_transcript`.
use Rattle.std.proofs.Common.{◌∙◌, ap, not}
use Rattle.gw_owes.proofs.AwaitedLemmas.{rows-await, links-await, steps-await, unstopped-is-handed, awaited-of-stops}
use Rattle.gw_owes.proofs.TranscriptExampleLemmas.{example-transcript}
use Rattle.gw_owes.proofs.TranscriptLemmas.{new-follows, rows-follow, links-begin, steps-follow}
use Rattle.gw_owes.proofs.terminal_laws.law_transcript.Goals as goal

pub returns-clause-new : goal.returns-clause-new
returns-clause-new c = new-follows

pub returns-clause-rows : goal.returns-clause-rows
returns-clause-rows c = rows-follow (record {
  goes_on = λ dialogue came. c.law_ends.ensures.goes_on dialogue came ∙ ap not (c.law_ends.ensures.ended dialogue came);
  means = c.law_talk_steps.ensures.means;
  next = c.law_talk_steps.ensures.next;
  stop_wished = c.law_talk_steps.ensures.stop_wished;
  stays = c.law_talk_steps.ensures.ended;
  by_message = c.law_ends.ensures.by_message;
  kinds = c.law_ends.ensures.dialogue_kinds;
})

pub returns-clause-links : goal.returns-clause-links
returns-clause-links c = links-begin

pub returns-clause-steps : goal.returns-clause-steps
returns-clause-steps c = steps-follow (record {
  goes_on = λ dialogue came. c.law_ends.ensures.goes_on dialogue came ∙ ap not (c.law_ends.ensures.ended dialogue came);
  means = c.law_talk_steps.ensures.means;
  next = c.law_talk_steps.ensures.next;
  stop_wished = c.law_talk_steps.ensures.stop_wished;
  stays = c.law_talk_steps.ensures.ended;
  by_message = c.law_ends.ensures.by_message;
  kinds = c.law_ends.ensures.dialogue_kinds;
})

pub returns-clause-example : goal.returns-clause-example
returns-clause-example c = example-transcript

pub returns-clause-awaits_rows : goal.returns-clause-awaits_rows
returns-clause-awaits_rows c = rows-await (record {
  goes_on = λ dialogue came. c.law_ends.ensures.goes_on dialogue came ∙ ap not (c.law_ends.ensures.ended dialogue came);
  means = c.law_talk_steps.ensures.means;
  next = c.law_talk_steps.ensures.next;
  stop_wished = c.law_talk_steps.ensures.stop_wished;
  stays = c.law_talk_steps.ensures.ended;
  by_message = c.law_ends.ensures.by_message;
  kinds = c.law_ends.ensures.dialogue_kinds;
})

pub returns-clause-awaits_links : goal.returns-clause-awaits_links
returns-clause-awaits_links c = links-await

pub returns-clause-awaits_steps : goal.returns-clause-awaits_steps
returns-clause-awaits_steps c = steps-await (record {
  goes_on = λ dialogue came. c.law_ends.ensures.goes_on dialogue came ∙ ap not (c.law_ends.ensures.ended dialogue came);
  means = c.law_talk_steps.ensures.means;
  next = c.law_talk_steps.ensures.next;
  stop_wished = c.law_talk_steps.ensures.stop_wished;
  stays = c.law_talk_steps.ensures.ended;
  by_message = c.law_ends.ensures.by_message;
  kinds = c.law_ends.ensures.dialogue_kinds;
})

pub returns-clause-unstopped : goal.returns-clause-unstopped
returns-clause-unstopped c = unstopped-is-handed (record {
  goes_on = λ dialogue came. c.law_ends.ensures.goes_on dialogue came ∙ ap not (c.law_ends.ensures.ended dialogue came);
  means = c.law_talk_steps.ensures.means;
  next = c.law_talk_steps.ensures.next;
  stop_wished = c.law_talk_steps.ensures.stop_wished;
  stays = c.law_talk_steps.ensures.ended;
  by_message = c.law_ends.ensures.by_message;
  kinds = c.law_ends.ensures.dialogue_kinds;
})

pub returns-clause-awaits_example : goal.returns-clause-awaits_example
returns-clause-awaits_example c = awaited-of-stops
