-- What a till may rely on to which the end of a payment or a reversal was said.
use Rattle.std.proofs.Common.{◌≡◌, ◌∙◌, ℕ, Bool, true, false, List, [], ◌∷◌, ◌++◌, zero, suc, ◌+◌, length, take, drop, refl, sym, ap, subst, inl, inr, arith, leb-true}
use Rattle.std.proofs.lemmas.Bool.{and_from, and_parts, false_from_ne_true}
use Rattle.std.proofs.lemmas.List.Elements.{All-head, All-tail}
use Rattle.std.specs.Prelude.{nat_le, ◌&&◌, ◌||◌, not, bytes_eq, if◌then◌else◌, All, slice_get, codes, Some, option_to_list, Option, None}
use Rattle.std.specs.Fmt.{digits}
use Rattle.std.specs.List.{list_any, list_all}
use Rattle.gw_base.specs.Transaction.{transaction_text}
use Rattle.gw_site.specs.declared.turn.Turn.{Turn}
use Rattle.gw_site.specs.declared.turn.Turn.TheVariants.{Start, OpenFailed, Polled, Opened, HeardTill, Closed, HeardPt, Lost, Stopped, Linked, LinkFailed, SentTill, SentPt, CutTill, CutPt, Wrote, Synced, DiskFailed, Crash}
use Rattle.json_text.specs.Tree.{Tree}
use Rattle.sale_values.specs.Money.{money_text}
use Rattle.gw_ledger.specs.Keys.{is_key, slot_of}
use Rattle.gw_owes.specs.Reply.{reply_value_bytes, reply_value_tree}
use Rattle.gw_rules.specs.Lawful.{turns_of}
use Rattle.gw_rules.specs.Scene.{Scene}
use Rattle.gw_rules.specs.Stage.{is_round}
use Rattle.gw_rules.specs.View.{View, Move, Begin, Read, Make, after, at_first}
use Rattle.gw_books.specs.Kinds.{BookedKind, kind_of_command}
use Rattle.gw_books.specs.Past.{SentReply, Past, no_past, waiting_keys, with_turn, past_after, past_from, past_of, numbering_of_number, with_sent_bytes}
use Rattle.gw_books.specs.Books.{BookedEntry, Honest}
use Rattle.gw_books.specs.Said.{Said, all_said, IsFramed}
use Rattle.gw_books.specs.Agrees.{EachSaid, entry_key, is_transaction, is_success, is_failure, is_approved_entry, is_entry_said, is_of_category, names_entry, success_agrees, refusal_agrees}
use Rattle.gw_books.specs.Headline.{HasPast, HonestAgrees}
use Rattle.gw_books.specs.Example.{paid_reply, paid_course, paid_past, paid_entry, refusal_reply, refused_course, refused_past}
use Rattle.gw_books.specs.TillLaws.{IsSaidTo, IsBooked, SuccessIsBooked, RefusedIsNeverCharged, paid_said, PaidIsSaid, refused_said, declined_entry, RefusedIsSaid}
use Rattle.gw_books.proofs.ListLemmas.{In, all-in, any-in, any-from, bytes-are}
use Rattle.gw_books.proofs.SaidLemmas.{each-reply-says}
use Rattle.gw_books.proofs.ExampleLemmas.{success-framed, refusal-framed}

-- ---- lists

-- what is at a place of a list is in it
pub at-in : {A : Type 0} (list : List A) (at : ℕ) (x : A) → slice_get list at ≡ Some x → In x list
at-in [] at x e = cc
at-in (y ∷ list) zero x e = let same : x ≡ y = cc in inl same
at-in (y ∷ list) (suc at) x e = inr (at-in list at x e)

-- what is in a list is at a place of it
pub in-at : {A : Type 0} (list : List A) (x : A) → In x list → (at : ℕ) × (slice_get list at ≡ Some x)
in-at [] x within = absurd within
in-at (y ∷ list) x (inl same) = (zero, ap Some (sym same))
in-at (y ∷ list) x (inr within) = let found = in-at list x within in (suc found.0, found.1)

-- what holds of all in a list holds of each
all-holds : {A : Type 0} (P : A → Type 0) (list : List A) → All P list → (x : A) → In x list → P x
all-holds P [] all x within = absurd within
all-holds P (y ∷ list) all x (inl same) = subst P (sym same) (All-head P y list all)
all-holds P (y ∷ list) all x (inr within) = all-holds P list (All-tail P y list all) x within

-- ---- replies

-- each turn leaves the replies that were sent
turn-keeps : (scene : Scene) (past : Past) (turn : Turn) (reply : SentReply) → In reply past.replies → In reply (with_turn scene past turn).replies
turn-keeps scene past (Start setup) reply within = within
turn-keeps scene past OpenFailed reply within = within
turn-keeps scene past (Polled now) reply within = within
turn-keeps scene past (Opened till) reply within = within
turn-keeps scene past (HeardTill till bytes) reply within = within
turn-keeps scene past (Closed till) reply within = within
turn-keeps scene past (HeardPt pt bytes) reply within = within
turn-keeps scene past (Lost pt) reply within = within
turn-keeps scene past Stopped reply within = within
turn-keeps scene past (Linked pt) reply within = within
turn-keeps scene past (LinkFailed pt) reply within = within
turn-keeps scene past (SentTill till bytes sent) reply within = inr within
turn-keeps scene past (SentPt pt bytes sent) reply within = by (kind_of_command bytes)
  where
    by : (found : Option BookedKind) → In reply (with_sent_bytes scene (numbering_of_number scene pt) bytes past found).replies
    by None = within
    by (Some kind) = within
turn-keeps scene past (CutTill till) reply within = within
turn-keeps scene past (CutPt pt) reply within = within
turn-keeps scene past (Wrote offset bytes) reply within = by (is_round scene.stage)
  where
    by : (b : Bool) → In reply (if b then record past { deeds = past.occasion ∷ past.deeds } else past).replies
    by true = within
    by false = within
turn-keeps scene past Synced reply within = within
turn-keeps scene past DiskFailed reply within = within
turn-keeps scene past (Crash file) reply within = within

-- so does each move
move-keeps : (v : View) (past : Past) (move : Move) (reply : SentReply) → In reply past.replies → In reply (past_after v past move).replies
move-keeps v past Begin reply within = within
move-keeps v past (Read as_read) reply within = within
move-keeps v past (Make turn) reply within = turn-keeps v.scene past turn reply within

-- and so do more moves
moves-keep : (v : View) (past : Past) (moves : List Move) (reply : SentReply) → In reply past.replies → In reply (past_from v past moves).replies
moves-keep v past [] reply within = within
moves-keep v past (move ∷ moves) reply within = moves-keep (after v move) (past_after v past move) moves reply (move-keeps v past move reply within)

-- a reply with these bytes was sent at this place
record IsSent (past : Past) (place : ℕ) (bytes : List ℕ) : Type 0 where
  pub reply : SentReply
  pub within : In reply past.replies
  pub placed : reply.place ≡ place
  pub bytes_are : reply.bytes ≡ bytes

-- a reply that is sent in a turn of the moves is one of the replies after them
sent-within : (v : View) (past : Past) (moves : List Move) (before rest : List Turn) (till : ℕ) (bytes : List ℕ) (sent : Bool)
    → turns_of moves ≡ before ++ SentTill till bytes sent ∷ rest → IsSent (past_from v past moves) (past.place + length before) bytes
sent-within v past [] [] rest till bytes sent e = cc
sent-within v past [] (turn ∷ before) rest till bytes sent e = cc
sent-within v past (Begin ∷ moves) before rest till bytes sent e = sent-within (after v Begin) (past_after v past Begin) moves before rest till bytes sent e
sent-within v past (Read as_read ∷ moves) before rest till bytes sent e = sent-within (after v (Read as_read)) (past_after v past (Read as_read)) moves before rest till bytes sent e
sent-within v past (Make turn ∷ moves) [] rest till bytes sent e =
    let same : turn ≡ SentTill till bytes sent = cc in
    let sending : Move = Make (SentTill till bytes sent) in
    let now = past_after v past sending in
    let reply : SentReply = record { place = past.place; bytes = bytes; occasion = past.occasion; kept = v.scene.kept; waiting = waiting_keys v.scene.core } in
    let is : IsSent (past_from (after v sending) now moves) (past.place + 0) bytes = record { reply = reply; within = moves-keep (after v sending) now moves reply (inl refl); placed = omega arith; bytes_are = refl } in
    subst (λ one. IsSent (past_from (after v (Make one)) (past_after v past (Make one)) moves) (past.place + 0) bytes) (sym same) is
sent-within v past (Make turn ∷ moves) (first ∷ before) rest till bytes sent e =
    let tail : turns_of moves ≡ before ++ SentTill till bytes sent ∷ rest = cc in
    let is : IsSent (past_from v past (Make turn ∷ moves)) ((past.place + 1) + length before) bytes = sent-within (after v (Make turn)) (past_after v past (Make turn)) moves before rest till bytes sent tail in
    let same : (past.place + 1) + length before ≡ past.place + suc (length before) = omega arith in
    subst (λ place. IsSent (past_from v past (Make turn ∷ moves)) place bytes) same is

-- what is said to a till is said in a reply of the past, with the frame of its message
said-sent : (log : List Turn) (past : Past) (till : ℕ) (said : Said) → HasPast log past → (is_said : IsSaidTo log till said) → IsSent past (length is_said.before) is_said.bytes
said-sent log past till said has is_said =
    let e : turns_of has.moves ≡ is_said.before ++ SentTill till is_said.bytes is_said.sent ∷ is_said.after = has.lean.turns_are ∙ is_said.log_is in
    let place : 0 + length is_said.before ≡ length is_said.before = omega arith in
    subst (λ one. IsSent one (length is_said.before) is_said.bytes) (sym has.past_is) (subst (λ n. IsSent (past_of has.moves) n is_said.bytes) place (sent-within at_first no_past has.moves is_said.before is_said.after till is_said.bytes is_said.sent e))

-- a reply of the past that says what is said to a till, and agrees
record SaysAlike (agrees : Past → List BookedEntry → SentReply → Said → Bool) (past : Past) (book : List BookedEntry) (place : ℕ) (said : Said) : Type 0 where
  pub reply : SentReply
  pub placed : reply.place ≡ place
  pub agrees_said : agrees past book reply said ≡ true

-- what each reply says agrees, and so does what is said to a till
said-agrees : (agrees : Past → List BookedEntry → SentReply → Said → Bool) (log : List Turn) (past : Past) (book : List BookedEntry) (till : ℕ) (said : Said)
    → HasPast log past → (is_said : IsSaidTo log till said) → EachSaid agrees past book → SaysAlike agrees past book (length is_said.before) said
said-agrees agrees log past book till said has is_said each =
    let is = said-sent log past till said has is_said in
    let P = λ (reply : SentReply). (message : Tree) → IsFramed reply.bytes message → list_all (agrees past book reply) (all_said message) ≡ true in
    let framed : IsFramed is.reply.bytes is_said.message = subst (λ bytes. IsFramed bytes is_said.message) (sym is.bytes_are) is_said.framed in
    let passes = all-holds P past.replies each is.reply is.within is_said.message framed in
    record { reply = is.reply; placed = is.placed; agrees_said = all-in (agrees past book is.reply) (all_said is_said.message) passes said (at-in (all_said is_said.message) is_said.at said is_said.says) }

-- ---- a success

-- where it is so, the rest of an agreement holds
pub so-agrees : (test other : Bool) → test ≡ true → (not test || other) ≡ true → other ≡ true
so-agrees true other t e = e
so-agrees false other t e = absurd (cc)

-- the entry of a success
entry-booked : (past : Past) (book : List BookedEntry) (before : List Turn) (reply : SentReply) (said : Said) (entry : BookedEntry) → reply.place ≡ length before → In entry book → is_entry_said past reply said entry ≡ true → IsBooked past book before said
entry-booked past book before reply said entry placed within e =
    let whole = and_parts (is_approved_entry past said.key entry) (is_of_category said entry && (nat_le entry.place reply.place && (names_entry reply.kept said.key said.transaction entry && bytes_eq said.amount (money_text entry.amount)))) e in
    let parts = and_parts (is_of_category said entry) (nat_le entry.place reply.place && (names_entry reply.kept said.key said.transaction entry && bytes_eq said.amount (money_text entry.amount))) whole.1 in
    let approval = and_parts entry.approved (is_key said.key (entry_key past entry)) whole.0 in
    let timely = and_parts (nat_le entry.place reply.place) (names_entry reply.kept said.key said.transaction entry && bytes_eq said.amount (money_text entry.amount)) parts.1 in
    let numbers = and_parts (names_entry reply.kept said.key said.transaction entry) (bytes_eq said.amount (money_text entry.amount)) timely.1 in
    let early = leb-true entry.place reply.place timely.0 in
    let named = any-in (λ slot. bytes_eq said.transaction (transaction_text entry.number entry.receipt slot)) (option_to_list (slot_of reply.kept said.key)) numbers.0 in
    let found = in-at book entry within in
    record {
      at = found.0;
      entry = entry;
      found = found.1;
      key_is = approval.1;
      approved = approval.0;
      category = parts.0;
      placed = omega (arith, early, placed);
      amount = bytes-are said.amount (money_text entry.amount) numbers.1;
      slot = named.0;
      transaction = bytes-are said.transaction (transaction_text entry.number entry.receipt named.0) named.2;
    }

pub success-is-booked : HonestAgrees → SuccessIsBooked
success-is-booked agrees log past book till said has honest is_said transaction success =
    let is = said-agrees success_agrees log past book till said has is_said (agrees log past book has honest).success in
    let some = so-agrees (is_transaction said && is_success said) (list_any (is_entry_said past is.reply said) book) (and_from (is_transaction said) (is_success said) transaction success) is.agrees_said in
    let one = any-in (is_entry_said past is.reply said) book some in
    entry-booked past book is_said.before is.reply said one.0 is.placed one.1 one.2

-- ---- a refusal

-- where no entry of a key is approved, this one isn't
never-approved : (past : Past) (book : List BookedEntry) (said : Said) (entry : BookedEntry) → In entry book → not (list_any (is_approved_entry past said.key) book) ≡ true
    → is_key said.key (entry_key past entry) ≡ true → entry.approved ≡ true → ⊥
never-approved past book said entry within none key approved =
    let some = any-from (is_approved_entry past said.key) book entry within (and_from entry.approved (is_key said.key (entry_key past entry)) approved key) in
    let clash : not true ≡ true = subst (λ b. not b ≡ true) some none in
    absurd (cc)

-- a failure is no success
failure-apart : (said : Said) → is_failure said ≡ true → not (is_success said) ≡ true
failure-apart said failure = ap (λ name. not (bytes_eq name (codes "Success") || bytes_eq name (codes "Partial"))) (bytes-are said.result (codes "Failure") failure)

pub refused-is-never-charged : HonestAgrees → RefusedIsNeverCharged
refused-is-never-charged agrees log past book till said has honest is_said transaction failure mark at entry found key =
    let is = said-agrees refusal_agrees log past book till said has is_said (agrees log past book has honest).refusal in
    let refused = and_from (is_transaction said) (not (is_success said) && said.has_poi_data) transaction (and_from (not (is_success said)) said.has_poi_data (failure-apart said failure) mark) in
    let none = so-agrees (is_transaction said && (not (is_success said) && said.has_poi_data)) (not (list_any (is_approved_entry past said.key) book)) refused is.agrees_said in
    false_from_ne_true entry.approved (never-approved past book said entry (at-in book at entry found) none key)

-- ---- examples

paid-reply-says : IsSaidTo (turns_of paid_course) 1 paid_said
unfolding digits transaction_text money_text
paid-reply-says = record {
  before = take 31 (turns_of paid_course);
  after = drop 32 (turns_of paid_course);
  bytes = reply_value_bytes paid_reply;
  sent = true;
  log_is = refl;
  message = reply_value_tree paid_reply;
  framed = success-framed;
  at = 0;
  says = ap (λ (list : List Said). slice_get list 0) (each-reply-says paid_reply);
}

paid-booked : IsBooked paid_past (paid_entry ∷ []) (take 31 (turns_of paid_course)) paid_said
unfolding digits transaction_text money_text
paid-booked = record { at = 0; entry = paid_entry; found = refl; key_is = refl; approved = refl; category = refl; placed = omega arith; amount = refl; slot = 0; transaction = refl }

pub paid-is-said : PaidIsSaid
unfolding paid-reply-says
paid-is-said = record { is_said = paid-reply-says; transaction = refl; success = refl; booked = paid-booked }

refused-reply-says : IsSaidTo (turns_of refused_course) 1 refused_said
unfolding digits transaction_text
refused-reply-says = record {
  before = take 30 (turns_of refused_course);
  after = drop 31 (turns_of refused_course);
  bytes = reply_value_bytes refusal_reply;
  sent = true;
  log_is = refl;
  message = reply_value_tree refusal_reply;
  framed = refusal-framed;
  at = 0;
  says = ap (λ (list : List Said). slice_get list 0) (each-reply-says refusal_reply);
}

declined-honest : Honest refused_past (declined_entry ∷ [])
declined-honest = record { caused = refl; linked = refl; ordered = refl; numbered = refl; true_ends = refl }

pub refused-is-said : RefusedIsSaid
refused-is-said = record { is_said = refused-reply-says; transaction = refl; failure = refl; mark = refl; honest = declined-honest; key_is = refl }
