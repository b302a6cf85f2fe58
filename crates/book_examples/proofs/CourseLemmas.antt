-- The courses of the examples are lawful, and lean.
use Rattle.std.proofs.Common.{[], ◌∷◌, ◌++◌, refl, sym}
use Rattle.std.specs.Prelude.{pos}
use Rattle.gw_site.specs.declared.turn.Turn.TheVariants.{Polled}
use Rattle.zvt_apdu.specs.DecodeStream.{decode_apdus, decode_apdus_within}
use Rattle.zvt_msg.specs.MessageDecode.{decode_pt_message}
use Rattle.gw_ledger.specs.History.{history}
use Rattle.gw_rules.specs.Lawful.{IsCourse}
use Rattle.gw_rules.specs.View.{Make, view_from, at_first}
use Rattle.gw_books.specs.Example.{payment_text, asked_course, paid_moves, paid_course, refused_course}
use Rattle.gw_books.proofs.CourseLemmas.{lean-course, paying-lawful, payment-chunk, refused-lean}
use Rattle.gw_books.proofs.ExampleLemmas.{refused-past}
use Rattle.gw_books.proofs.PaymentTextLemmas.{payment-reads}
use Rattle.book_examples.specs.Example.{progress_reply, lost_moves, lost_course, PaidHasPast, RefusedHasPast, LostHasPast}
use Rattle.book_examples.proofs.ExampleLemmas.{paid-past, lost-past}

losing-lawful : IsCourse (view_from at_first asked_course) (lost_moves ++ Make (Polled (pos 7)) ∷ [])
unfolding decode_apdus decode_apdus_within decode_pt_message history payment_text
losing-lawful = (record { running = refl; calls = refl; items = refl }, (record { polled = refl; connected_is = refl }, (record { idle = record { round = refl; calls = refl }; first = refl }, (record { idle = record { round = refl; calls = refl }; first = refl }, (record { idle = record { round = refl; calls = refl }; first = refl }, (record { running = refl; calls = refl; items = refl }, ((record { polled = refl; connected_is = refl }, payment-chunk), (record { idle = record { round = refl; calls = refl }; waits = refl; bytes = payment_text; message = refl; reads = payment-reads }, (record { idle = record { round = refl; calls = refl }; first = refl }, ((progress_reply, refl, refl), (record { idle = record { round = refl; calls = refl }; first = refl }, (record { idle = record { round = refl; calls = refl }; first = refl }, (record { running = refl; calls = refl; items = refl }, tt)))))))))))))

pub paid-has-past : PaidHasPast
paid-has-past = record { moves = paid_course; lean = lean-course (paid_moves ++ Make (Polled (pos 6)) ∷ []) paying-lawful refl; past_is = sym paid-past }

pub refused-has-past : RefusedHasPast
refused-has-past = record { moves = refused_course; lean = refused-lean; past_is = sym refused-past }

pub lost-has-past : LostHasPast
lost-has-past = record { moves = lost_course; lean = lean-course (lost_moves ++ Make (Polled (pos 7)) ∷ []) losing-lawful refl; past_is = sym lost-past }
