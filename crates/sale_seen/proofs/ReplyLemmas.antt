-- What a till is expected to read of a written reply is read.
use Rattle.std.proofs.Common.{◌≡◌, ◌≢◌, ℕ, List, Option, Some, None, refl, ap, subst, ◌∙◌, codes, true, bytes_eq}
use Rattle.std.specs.Option.{option_and_then}
use Rattle.gw_base.specs.declared.condition.Condition.{Condition}
use Rattle.json_text.specs.Tree.{Tree}
use Rattle.sale_values.specs.declared.header.Header.{Header}
use Rattle.sale_msg.specs.Path.{tree_at}
use Rattle.sale_msg.specs.declared.table.Envelope.TheVariants as envelopes
use Rattle.sale_reply.specs.Limits.{IsHeaderWithinLimits, IsToldWithinLimits, IsWithinLimits}
use Rattle.sale_reply.specs.Names.{result_of}
use Rattle.sale_reply.specs.Reply.{diagnosis_body, display_body, plain_body, print_body, response_tree, status_body, result_body, tree_of, verdict_tree}
use Rattle.sale_reply.specs.declared.reply.ReplyResult.{ReplyResult}
use Rattle.sale_reply.specs.declared.reply.ReplyResult.TheVariants as results
use Rattle.sale_reply.specs.declared.reply.SaleReply.{SaleReply}
use Rattle.sale_reply.specs.declared.reply.SaleReply.TheVariants as reply
use Rattle.sale_reply.specs.declared.reply.Shown.{Shown}
use Rattle.sale_reply.specs.declared.reply.Told.{Told}
use Rattle.sale_seen.specs.Fault.{LacksResult, result_path}
use Rattle.sale_seen.specs.ReplyMembers.{OutcomeValue, amount_text_in, outcome_in, outcome_of, repeated_in, transaction_in}
use Rattle.sale_seen.specs.Grammar.{ReadsReply, ReadReply}
use Rattle.sale_seen.specs.Expected.{IsReadable, Suits, expected_condition, display_header_of, expected_outcome, expected_plain, expected_result, expected_reply}
use Rattle.sale_seen.proofs.BodyLemmas.{HasOutcome, HasResult, IsAlone, alone_amount, alone_transaction, diagnosis_alone, diagnosis_shows, finds_units, finds_transaction, units_fit, plain_alone, plain_shows, print_alone, print_shows, status_repeats, status_shows, body_outcome, body_shows, transaction_fits}
use Rattle.sale_seen.proofs.HeaderLemmas.{bodied, headed, object_of_reply}
use Rattle.sale_seen.proofs.NameLemmas.{not_eq}

-- a reply that has a result alone
plain_reply : (header : Header) (body : Tree) (condition : Option Condition) → IsHeaderWithinLimits header → IsReadable header
    → HasResult body (result_of condition) condition → IsAlone body → ReadsReply (response_tree header body) (expected_plain header condition)
plain_reply header body condition h r shows own = (
  envelopes.Response,
  object_of_reply header body,
  header,
  body,
  record {
    headed = headed header body h r;
    body_is = bodied header body;
    category = refl;
    result = shows.result;
    condition = shows.condition;
    transaction = finds_transaction (option_and_then transaction_in (outcome_in header.category body)) None
        (alone_transaction header.category body own) tt;
    minor = finds_units (option_and_then amount_text_in (outcome_in header.category body)) None
        (alone_amount header.category body own) tt;
  },
)

-- a reply with an outcome, in its own body or in the one that it repeats
outcome_reply : (header : Header) (body : Tree) (within : OutcomeValue) (result : ReplyResult) (condition : Option Condition) (told : Told)
    → IsHeaderWithinLimits header → IsReadable header → HasResult body result condition → outcome_in header.category body ≡ Some within
    → HasOutcome within told → IsToldWithinLimits told → ReadsReply (response_tree header body) (expected_outcome header result condition within.category told)
outcome_reply header body within result condition told h r shows found has fits = (
  envelopes.Response,
  object_of_reply header body,
  header,
  body,
  record {
    headed = headed header body h r;
    body_is = bodied header body;
    category = refl;
    result = shows.result;
    condition = shows.condition;
    transaction = finds_transaction (option_and_then transaction_in (outcome_in header.category body)) _
        (ap (option_and_then transaction_in) found ∙ has.transaction) (transaction_fits within.category told fits);
    minor = finds_units (option_and_then amount_text_in (outcome_in header.category body)) _
        (ap (option_and_then amount_text_in) found ∙ has.amount_text) (units_fit within.category told fits);
  },
)

-- the outcome is in the own body
own_outcome : (category : List ℕ) (body : Tree) → category ≢ codes "TransactionStatus" → outcome_in category body ≡ Some (outcome_of category body)
own_outcome category body other = rw (not_eq category (codes "TransactionStatus") other) refl

-- the outcome is in the body that a status repeats
repeated_outcome : (category : List ℕ) (body : Tree) (within : OutcomeValue) → category ≡ codes "TransactionStatus" → repeated_in body ≡ Some within
    → outcome_in category body ≡ Some within
repeated_outcome category body within same found =
    let test : bytes_eq category (codes "TransactionStatus") ≡ true = ap (λ c. bytes_eq c (codes "TransactionStatus")) same in
    rw test found

one_reply : (message : Tree) (a b : ReadReply) → Some a ≡ Some b → ReadsReply message a → ReadsReply message b
one_reply message a b e h = let same : a ≡ b = cc in subst (ReadsReply message) same h

no_reply : (message : Tree) (seen : ReadReply) → None ≡ Some seen → ReadsReply message seen
no_reply message seen e = let nothing : Option ReadReply = None in let f : nothing ≡ Some seen = e in absurd cc

pub reply_again : (r : SaleReply) (seen : ReadReply) → IsWithinLimits r → Suits r → expected_reply r ≡ Some seen → ReadsReply (tree_of r) seen
reply_again (reply.Plain header verdict) seen w s e =
    let body = plain_body (verdict_tree verdict) in
    one_reply (response_tree header body) (expected_plain header verdict.condition) seen e
    (plain_reply header body verdict.condition w.0 s
    (plain_shows verdict.condition verdict.path) (plain_alone (verdict_tree verdict)))
reply_again (reply.Told header told) seen w s e =
    let body = result_body told in
    one_reply (response_tree header body) (expected_outcome header (expected_result told) (expected_condition told) header.category told) seen e
    (outcome_reply header body (outcome_of header.category body) (expected_result told) (expected_condition told) told w.0 s.0 (body_shows told)
    (own_outcome header.category body s.1) (body_outcome header.category told) w.1)
reply_again (reply.Status header repeated told) seen w s e =
    let within = result_body told in
    let body = status_body repeated within in
    let outcome = outcome_of repeated.category within in
    one_reply (response_tree header body) (expected_outcome header results.Success None repeated.category told) seen e
    (outcome_reply header body outcome results.Success None told w.0 s.0 (status_shows repeated within)
    (repeated_outcome header.category body outcome s.1 (status_repeats repeated within)) (body_outcome repeated.category told) w.2)
reply_again (reply.Diagnosis header status) seen w s e =
    let body = diagnosis_body status in
    one_reply (response_tree header body) (expected_plain header None) seen e
    (plain_reply header body None w s (diagnosis_shows status) (diagnosis_alone status))
reply_again (reply.Display header outputs) seen w s e = no_reply (tree_of (reply.Display header outputs)) seen e
reply_again (reply.Print header qualifier verdict) seen w s e =
    let body = print_body qualifier verdict in
    one_reply (response_tree header body) (expected_plain header verdict.condition) seen e
    (plain_reply header body verdict.condition w.0 s (print_shows qualifier verdict) (print_alone qualifier verdict))
reply_again (reply.DisplayRequest header code) seen w s e = absurd s
reply_again (reply.PrintRequest header lines) seen w s e = absurd s
reply_again (reply.Reject sale poi moment detail) seen w s e = absurd s

-- ---- the reply to a Display

no_result : (outputs : List Shown) → option_and_then (tree_at (codes "Response.Result")) (Some (display_body outputs)) ≡ None
unfolding tree_at display_body
no_result outputs = refl

lacks_result : (header : Header) (outputs : List Shown) → IsHeaderWithinLimits header → IsReadable header
    → LacksResult (response_tree header (display_body outputs)) header (result_path header.category)
lacks_result header outputs h r =
    let body = display_body outputs in (
      envelopes.Response,
      object_of_reply header body,
      record {
        headed = headed header body h r;
        absent = ap (option_and_then (tree_at (codes "Response.Result"))) (bodied header body) ∙ no_result outputs;
        path_is = refl;
      },
    )

-- what is said of the header of a Display is said of the header that it is
along : (message : Tree) (a b : Header) → Some a ≡ Some b → LacksResult message a (result_path a.category) → LacksResult message b (result_path b.category)
along message a b e h =
    let same : a ≡ b = cc in
    let P : Header → Type 0 = λ header. LacksResult message header (result_path header.category) in
    subst P same h

none_lacks : (message : Tree) (header : Header) → None ≡ Some header → LacksResult message header (result_path header.category)
none_lacks message header e = let nothing : Option Header = None in let f : nothing ≡ Some header = e in absurd cc

pub display_lacks : (r : SaleReply) (header : Header) → IsWithinLimits r → Suits r → display_header_of r ≡ Some header
    → LacksResult (tree_of r) header (result_path header.category)
display_lacks (reply.Plain own verdict) header w s e = none_lacks (tree_of (reply.Plain own verdict)) header e
display_lacks (reply.Told own told) header w s e = none_lacks (tree_of (reply.Told own told)) header e
display_lacks (reply.Status own repeated told) header w s e = none_lacks (tree_of (reply.Status own repeated told)) header e
display_lacks (reply.Diagnosis own status) header w s e = none_lacks (tree_of (reply.Diagnosis own status)) header e
display_lacks (reply.Display own outputs) header w s e =
    along (tree_of (reply.Display own outputs)) own header e (lacks_result own outputs w.0 s)
display_lacks (reply.Print own qualifier verdict) header w s e = none_lacks (tree_of (reply.Print own qualifier verdict)) header e
display_lacks (reply.DisplayRequest own code) header w s e = absurd s
display_lacks (reply.PrintRequest own lines) header w s e = absurd s
display_lacks (reply.Reject sale poi moment detail) header w s e = absurd s
