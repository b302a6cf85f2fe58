-- The examples.
use Rattle.book_examples.proofs.CourseLemmas.{lost-has-past, paid-has-past, refused-has-past}
use Rattle.book_examples.proofs.DayExampleLemmas.{settled-agrees, settled-has-past}
use Rattle.book_examples.proofs.DisagreeLemmas.{disordered-books, entries-of-one-key, keyless-disagrees, later-entry-disagrees, links-end, not-found-disagrees, other-content-agrees, other-key-disagrees, other-repeat-disagrees, other-terminal-books, outside-disagrees, progress-disagrees, repeat-agrees, reported-books, same-content-disagrees, twice-disagrees, unaccepted-disagrees, unbooked-disagrees, uncaused-books, unreported-may-be-open, unresolved-disagrees, untrue-books, waiting-is-in-progress}
use Rattle.book_examples.proofs.ExampleLemmas.{asked-has-past, lost-agrees, paid-agrees, refused-agrees}
use Rattle.book_examples.proofs.KindExampleLemmas.{kinds-of-commands}
use Rattle.book_examples.proofs.QueuedExampleLemmas.{day-is-in-progress, queued-agrees, queued-has-past, taken-out-disagrees}
use Rattle.book_examples.proofs.law_examples.Goals as goal

pub returns-clause-asked : goal.returns-clause-asked
returns-clause-asked c = asked-has-past

pub returns-clause-paid : goal.returns-clause-paid
returns-clause-paid c = paid-has-past

pub returns-clause-paid_agrees : goal.returns-clause-paid_agrees
returns-clause-paid_agrees c = paid-agrees

pub returns-clause-declined : goal.returns-clause-declined
returns-clause-declined c = refused-has-past

pub returns-clause-declined_agrees : goal.returns-clause-declined_agrees
returns-clause-declined_agrees c = refused-agrees

pub returns-clause-lost : goal.returns-clause-lost
returns-clause-lost c = lost-has-past

pub returns-clause-lost_agrees : goal.returns-clause-lost_agrees
returns-clause-lost_agrees c = lost-agrees

pub returns-clause-day : goal.returns-clause-day
returns-clause-day c = settled-has-past

pub returns-clause-day_agrees : goal.returns-clause-day_agrees
returns-clause-day_agrees c = settled-agrees

pub returns-clause-queued : goal.returns-clause-queued
returns-clause-queued c = queued-has-past

pub returns-clause-queued_agrees : goal.returns-clause-queued_agrees
returns-clause-queued_agrees c = queued-agrees

pub returns-clause-twice : goal.returns-clause-twice
returns-clause-twice c = twice-disagrees

pub returns-clause-one_key : goal.returns-clause-one_key
returns-clause-one_key c = entries-of-one-key

pub returns-clause-keyless : goal.returns-clause-keyless
returns-clause-keyless c = keyless-disagrees

pub returns-clause-unbooked : goal.returns-clause-unbooked
returns-clause-unbooked c = unbooked-disagrees

pub returns-clause-later : goal.returns-clause-later
returns-clause-later c = later-entry-disagrees

pub returns-clause-progress : goal.returns-clause-progress
returns-clause-progress c = progress-disagrees

pub returns-clause-unaccepted : goal.returns-clause-unaccepted
returns-clause-unaccepted c = unaccepted-disagrees

pub returns-clause-same_content : goal.returns-clause-same_content
returns-clause-same_content c = same-content-disagrees

pub returns-clause-other_content : goal.returns-clause-other_content
returns-clause-other_content c = other-content-agrees

pub returns-clause-other_key : goal.returns-clause-other_key
returns-clause-other_key c = other-key-disagrees

pub returns-clause-not_found : goal.returns-clause-not_found
returns-clause-not_found c = not-found-disagrees

pub returns-clause-repeat : goal.returns-clause-repeat
returns-clause-repeat c = repeat-agrees

pub returns-clause-other_repeat : goal.returns-clause-other_repeat
returns-clause-other_repeat c = other-repeat-disagrees

pub returns-clause-outside : goal.returns-clause-outside
returns-clause-outside c = outside-disagrees

pub returns-clause-unresolved : goal.returns-clause-unresolved
returns-clause-unresolved c = unresolved-disagrees

pub returns-clause-waiting : goal.returns-clause-waiting
returns-clause-waiting c = waiting-is-in-progress

pub returns-clause-taken_out : goal.returns-clause-taken_out
returns-clause-taken_out c = taken-out-disagrees

pub returns-clause-day_progress : goal.returns-clause-day_progress
returns-clause-day_progress c = day-is-in-progress

pub returns-clause-unreported : goal.returns-clause-unreported
returns-clause-unreported c = unreported-may-be-open

pub returns-clause-links_end : goal.returns-clause-links_end
returns-clause-links_end c = links-end

pub returns-clause-uncaused_books : goal.returns-clause-uncaused_books
returns-clause-uncaused_books c = uncaused-books

pub returns-clause-disordered_books : goal.returns-clause-disordered_books
returns-clause-disordered_books c = disordered-books

pub returns-clause-untrue_books : goal.returns-clause-untrue_books
returns-clause-untrue_books c = untrue-books

pub returns-clause-reported_books : goal.returns-clause-reported_books
returns-clause-reported_books c = reported-books

pub returns-clause-other_books : goal.returns-clause-other_books
returns-clause-other_books c = other-terminal-books

pub returns-clause-kinds : goal.returns-clause-kinds
returns-clause-kinds c = kinds-of-commands
