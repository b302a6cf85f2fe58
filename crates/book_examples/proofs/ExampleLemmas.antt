-- The examples: what has happened, and the books that are honest and agree.
use Rattle.std.proofs.Common.{◌≡◌, true, List, [], ◌∷◌, refl}
use Rattle.std.specs.Fmt.{digits}
use Rattle.std.specs.List.{list_all}
use Rattle.gw_base.specs.Transaction.{transaction_text}
use Rattle.gw_base.specs.declared.condition.Condition.TheVariants.{InProgress}
use Rattle.json_text.specs.Tree.{Tree}
use Rattle.zvt_apdu.specs.DecodeStream.{decode_apdus, decode_apdus_within}
use Rattle.zvt_bmp.specs.Decode.{decode_field_value, decode_status_field, decode_status_within, decode_status}
use Rattle.zvt_msg.specs.MessageDecode.{decode_pt_message}
use Rattle.sale_values.specs.Money.{money_text}
use Rattle.sale_msg.specs.Path.{tree_at}
use Rattle.sale_reply.specs.Reply.{message_tree, header_tree, result_tree, sale_data, poi_data, payment_result, approved_body, result_body}
use Rattle.sale_reply.specs.declared.reply.SaleReply.TheVariants as reply
use Rattle.gw_ledger.specs.History.{history}
use Rattle.gw_owes.specs.Reply.{reply_value_tree}
use Rattle.gw_owes.specs.Replies.{header_of_reply, failure}
use Rattle.gw_books.specs.Agrees.{success_agrees, refusal_agrees, unaccepted_agrees, not_found_agrees, in_progress_agrees, EachSaid, Agrees}
use Rattle.gw_books.specs.Books.{BookedEntry, Honest}
use Rattle.gw_books.specs.Example.{payment_text, paying_header, paid_reply, sent_success, paid_course, paid_past, paid_entry, refusal_reply, sent_refusal, refused_past}
use Rattle.gw_books.specs.Past.{SentReply, Past, past_of}
use Rattle.gw_books.specs.Said.{all_said, IsFramed}
use Rattle.gw_books.proofs.ExampleLemmas.{Agreement, each-agrees, header-within, success-framed, refusal-framed}
use Rattle.gw_books.proofs.MessageLemmas.{reply-framed}
use Rattle.book_examples.specs.Example.{progress_reply, sent_progress, lost_course, lost_past, later_entry, AskedHasPast, PaidAgrees, RefusedAgrees, LostAgrees}

-- ---- what has happened

pub asked-has-past : AskedHasPast
unfolding decode_apdus decode_apdus_within decode_pt_message history payment_text
asked-has-past = refl

pub paid-past : past_of paid_course ≡ paid_past
unfolding decode_apdus decode_apdus_within decode_pt_message decode_status decode_status_within decode_status_field decode_field_value history payment_text
paid-past = refl

pub lost-past : past_of lost_course ≡ lost_past
unfolding decode_apdus decode_apdus_within decode_pt_message history payment_text
lost-past = refl

-- ---- what is sent

pub progress-framed : IsFramed sent_progress.bytes (reply_value_tree progress_reply)
progress-framed = reply-framed progress_reply (reply.Plain (header_of_reply paying_header) (failure InProgress)) refl (header-within, tt)

-- ---- honest, and agrees

-- one reply is the only one, and what it says agrees
only-says : (agrees : Agreement) (past : Past) (book : List BookedEntry) (sent : SentReply) (message : Tree) → past.replies ≡ sent ∷ [] → IsFramed sent.bytes message → list_all (agrees past book sent) (all_said message) ≡ true → EachSaid agrees past book
only-says agrees past book sent message e framed passes = each-agrees agrees past book (sent ∷ []) e (record { message = message; framed = framed; passes = passes }, tt)

paid-honest : Honest paid_past (paid_entry ∷ [])
paid-honest = record { caused = refl; linked = refl; ordered = refl; numbered = refl; true_ends = refl }

paid-book-agrees : Agrees paid_past (paid_entry ∷ [])
unfolding history message_tree header_tree result_tree sale_data poi_data payment_result approved_body result_body transaction_text money_text digits tree_at
paid-book-agrees = record {
  keyed = refl;
  sent_once = refl;
  booked_once = refl;
  success = only-says success_agrees paid_past (paid_entry ∷ []) sent_success (reply_value_tree paid_reply) refl success-framed refl;
  refusal = only-says refusal_agrees paid_past (paid_entry ∷ []) sent_success (reply_value_tree paid_reply) refl success-framed refl;
  unaccepted = only-says unaccepted_agrees paid_past (paid_entry ∷ []) sent_success (reply_value_tree paid_reply) refl success-framed refl;
  not_found = only-says not_found_agrees paid_past (paid_entry ∷ []) sent_success (reply_value_tree paid_reply) refl success-framed refl;
  in_progress = only-says in_progress_agrees paid_past (paid_entry ∷ []) sent_success (reply_value_tree paid_reply) refl success-framed refl;
  resolved = refl;
  inside = refl;
}

refused-honest : Honest refused_past []
refused-honest = record { caused = refl; linked = refl; ordered = refl; numbered = refl; true_ends = refl }

refused-book-agrees : Agrees refused_past []
unfolding history message_tree header_tree result_tree sale_data poi_data result_body transaction_text digits tree_at
refused-book-agrees = record {
  keyed = refl;
  sent_once = refl;
  booked_once = refl;
  success = only-says success_agrees refused_past [] sent_refusal (reply_value_tree refusal_reply) refl refusal-framed refl;
  refusal = only-says refusal_agrees refused_past [] sent_refusal (reply_value_tree refusal_reply) refl refusal-framed refl;
  unaccepted = only-says unaccepted_agrees refused_past [] sent_refusal (reply_value_tree refusal_reply) refl refusal-framed refl;
  not_found = only-says not_found_agrees refused_past [] sent_refusal (reply_value_tree refusal_reply) refl refusal-framed refl;
  in_progress = only-says in_progress_agrees refused_past [] sent_refusal (reply_value_tree refusal_reply) refl refusal-framed refl;
  resolved = refl;
  inside = refl;
}

lost-honest : Honest lost_past []
lost-honest = record { caused = refl; linked = refl; ordered = refl; numbered = refl; true_ends = refl }

lost-book-agrees : Agrees lost_past []
unfolding history message_tree header_tree result_tree tree_at
lost-book-agrees = record {
  keyed = refl;
  sent_once = refl;
  booked_once = refl;
  success = only-says success_agrees lost_past [] sent_progress (reply_value_tree progress_reply) refl progress-framed refl;
  refusal = only-says refusal_agrees lost_past [] sent_progress (reply_value_tree progress_reply) refl progress-framed refl;
  unaccepted = only-says unaccepted_agrees lost_past [] sent_progress (reply_value_tree progress_reply) refl progress-framed refl;
  not_found = only-says not_found_agrees lost_past [] sent_progress (reply_value_tree progress_reply) refl progress-framed refl;
  in_progress = only-says in_progress_agrees lost_past [] sent_progress (reply_value_tree progress_reply) refl progress-framed refl;
  resolved = refl;
  inside = refl;
}

later-honest : Honest lost_past (later_entry ∷ [])
later-honest = record { caused = refl; linked = refl; ordered = refl; numbered = refl; true_ends = refl }

later-book-agrees : Agrees lost_past (later_entry ∷ [])
unfolding history message_tree header_tree result_tree tree_at
later-book-agrees = record {
  keyed = refl;
  sent_once = refl;
  booked_once = refl;
  success = only-says success_agrees lost_past (later_entry ∷ []) sent_progress (reply_value_tree progress_reply) refl progress-framed refl;
  refusal = only-says refusal_agrees lost_past (later_entry ∷ []) sent_progress (reply_value_tree progress_reply) refl progress-framed refl;
  unaccepted = only-says unaccepted_agrees lost_past (later_entry ∷ []) sent_progress (reply_value_tree progress_reply) refl progress-framed refl;
  not_found = only-says not_found_agrees lost_past (later_entry ∷ []) sent_progress (reply_value_tree progress_reply) refl progress-framed refl;
  in_progress = only-says in_progress_agrees lost_past (later_entry ∷ []) sent_progress (reply_value_tree progress_reply) refl progress-framed refl;
  resolved = refl;
  inside = refl;
}

pub paid-agrees : PaidAgrees
paid-agrees = record { honest = paid-honest; agrees = paid-book-agrees }

pub refused-agrees : RefusedAgrees
refused-agrees = record { honest = refused-honest; agrees = refused-book-agrees }

pub lost-agrees : LostAgrees
lost-agrees = record { unbooked = record { honest = lost-honest; agrees = lost-book-agrees }; booked = record { honest = later-honest; agrees = later-book-agrees } }
