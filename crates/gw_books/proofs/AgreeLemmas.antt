-- What holds at the end gives agreement.
use Rattle.std.proofs.Common.{◌≡◌, ◌∙◌, ℕ, zero, suc, Bool, true, false, List, [], ◌∷◌, refl, sym, ap, subst, inl, inr, arith, le-leb, eqb-true, eq-eqb, leb-true}
use Rattle.std.proofs.lemmas.Bool.{and_from, and_parts, false_from_ne_true, not_from_false}
use Rattle.std.proofs.lemmas.List.Elements.{All-from_recursion}
use Rattle.std.proofs.lemmas.Option.{same_Some}
use Rattle.std.specs.Prelude.{◌==◌, nat_lt, nat_le, ◌&&◌, ◌||◌, not, if◌then◌else◌, is_some, bytes_eq, codes, All, Some, option_to_list, option_and_then}
use Rattle.std.specs.List.{AllByRecursion, list_any, list_all}
use Rattle.gw_base.specs.Transaction.{transaction_text}
use Rattle.gw_base.specs.declared.key.Key.{Key}
use Rattle.json_text.specs.Tree.{Tree}
use Rattle.sale_values.specs.Money.{money_text}
use Rattle.jrn_record.specs.declared.records.Deal.{Deal}
use Rattle.jrn_record.specs.declared.records.Deal.TheVariants.{Payment, Reversal}
use Rattle.jrn_record.specs.declared.records.Intent.{Intent as TheIntent}
use Rattle.jrn_record.specs.declared.records.Record.{Record}
use Rattle.gw_ledger.specs.Fold.{AreFolded}
use Rattle.gw_ledger.specs.Keys.{intent_key, is_key, slot_of}
use Rattle.gw_ledger.specs.Slots.{intent_at}
use Rattle.xlate.specs.Reply.{deal_category}
use Rattle.gw_owes.proofs.RecordLemmas.{LedgerLaws, intent-stays}
use Rattle.gw_books.specs.Kinds.{BookedKind, BookedCompletion, BookedPayment, BookedRefund, BookedReservation, BookedReversal, is_kind, kind_number, booked_kind_of}
use Rattle.gw_books.specs.Past.{Numbering, is_numbering, SentCommand, SentReply, Past}
use Rattle.gw_books.specs.Books.{BookedEntry, is_cause, is_caused, is_caused_by, have_one_cause, comes_before, is_ordered}
use Rattle.gw_books.specs.Said.{Said, all_said, IsFramed}
use Rattle.gw_books.specs.Agrees.{EachSaid, entry_key, key_at_place, is_transaction, is_success, is_approved_entry, is_entry_said, is_of_category, names_entry, success_agrees, refusal_agrees, unaccepted_agrees, not_found_agrees, in_progress_agrees}
use Rattle.gw_books.proofs.Holding.{AreFalling, AreKeyed, BearsOut, HasApprovedEntry, HoldsAgrees, IsApprovalTrue, IsDeclineTrue, IsFirstOf, IsSaidTrue, IsSentTrue, SaysSuccess}
use Rattle.gw_books.proofs.KeyedLemmas.{AreApart, apart-distinct, caused-for, is-key-is, is-key-itself, key-sent, sent-below, sent-same}
use Rattle.gw_books.proofs.RecordMoreLemmas.{own-slot}
use Rattle.gw_books.proofs.ListLemmas.{In, all-in, all-from, any-in, any-from, none-from, bytes-itself}
use Rattle.gw_books.proofs.BookLemmas.{numbering-are}

-- ---- commands

sent-apart : (place : ℕ) (commands : List SentCommand) → AreFalling place commands
    → ((one other : SentCommand) (key : Key) → In one commands → In other commands → one.key ≡ Some key → other.key ≡ Some key → one ≡ other) → AreApart (λ (command : SentCommand). command.key) commands
sent-apart place [] falling once = tt
sent-apart place (command ∷ commands) falling once = (
  λ other within key e f.
      let h = sent-below command.place commands falling.1 other within in
      let g : command.place ≡ other.place = ap (λ (one : SentCommand). one.place) (once command other key (inl refl) (inr within) e f) in
      omega (arith, h, g),
  sent-apart command.place commands falling.1 (λ one other key first second. once one other key (inr first) (inr second)),
)

-- ---- entries

-- kinds that pass for equal are
kind-of-number : ℕ → BookedKind
kind-of-number zero = BookedPayment
kind-of-number (suc zero) = BookedReversal
kind-of-number (suc (suc zero)) = BookedRefund
kind-of-number (suc (suc (suc zero))) = BookedReservation
kind-of-number (suc (suc (suc (suc n)))) = BookedCompletion

kind-numbered : (kind : BookedKind) → kind-of-number (kind_number kind) ≡ kind
unfolding kind-of-number
kind-numbered BookedPayment = refl
kind-numbered BookedReversal = refl
kind-numbered BookedRefund = refl
kind-numbered BookedReservation = refl
kind-numbered BookedCompletion = refl

one-kind : (one other : BookedKind) → is_kind one other ≡ true → one ≡ other
one-kind one other e = sym (kind-numbered one) ∙ ap kind-of-number (eqb-true (kind_number one) (kind_number other) e) ∙ kind-numbered other

-- equal kinds pass for equal
pub same-kind : (one other : BookedKind) → one ≡ other → is_kind one other ≡ true
same-kind one other same = eq-eqb (kind_number one) (kind_number other) (ap kind_number same)

-- an entry whose cause was sent is of the command's numbering and of its kind
caused-as : (past : Past) (entry : BookedEntry) (command : SentCommand) → AreFalling past.place past.commands → In command past.commands → entry.cause ≡ Some command.place
    → is_caused past entry entry.cause ≡ true → (command.numbering ≡ entry.numbering) × (entry.kind ≡ command.kind)
caused-as past entry command falling within e caused =
    let f = subst (λ cause. is_caused past entry cause ≡ true) e caused in
    by (nat_le past.place command.place) refl (and_parts (nat_lt command.place entry.place) _ f).1
  where
    by : (b : Bool) → nat_le past.place command.place ≡ b → (b || list_any (is_cause entry command.place) past.commands) ≡ true → (command.numbering ≡ entry.numbering) × (entry.kind ≡ command.kind)
    by true t g =
        let h = sent-below past.place past.commands falling command within in
        let k = leb-true past.place command.place t in
        absurd (omega (arith, h, k))
    by false t g =
        let some = any-in (is_cause entry command.place) past.commands g in
        let p = and_parts (some.0.place == command.place) (some.0.whole && (is_numbering some.0.numbering entry.numbering && _)) some.2 in
        let q = and_parts some.0.whole (is_numbering some.0.numbering entry.numbering && _) p.1 in
        let r = and_parts (is_numbering some.0.numbering entry.numbering) _ q.1 in
        let same = sent-same past.place past.commands falling some.0 command some.1 within (eqb-true some.0.place command.place p.0) in
        (ap (λ (one : SentCommand). one.numbering) (sym same) ∙ numbering-are some.0.numbering entry.numbering r.0, sym (one-kind some.0.kind entry.kind r.1) ∙ ap (λ (one : SentCommand). one.kind) same)

pub caused-numbering : (past : Past) (entry : BookedEntry) (command : SentCommand) → AreFalling past.place past.commands → In command past.commands → entry.cause ≡ Some command.place
    → is_caused past entry entry.cause ≡ true → command.numbering ≡ entry.numbering
caused-numbering past entry command falling within e caused = (caused-as past entry command falling within e caused).0

-- a command that was sent for the key of an Intent is of the kind that the Intent asks for
pub command-kind : LedgerLaws → (kept : List Record) → AreFolded kept → (place : ℕ) (commands : List SentCommand) → AreKeyed kept place commands → (command : SentCommand) → In command commands
    → (slot : ℕ) (intent : TheIntent) → intent_at kept slot ≡ Some intent → command.key ≡ Some (intent_key intent) → command.kind ≡ booked_kind_of intent.what
command-kind laws kept folded place commands keyed command within slot intent intent_is key_is =
    let own = keyed.accepted command within in
    let asked = own.asked in
    let key : intent_key asked.intent ≡ intent_key intent = asked.own ∙ same_Some own.key (intent_key intent) (sym own.key_is ∙ key_is) in
    let slots : asked.slot ≡ slot =
    same_Some asked.slot slot (sym (own-slot laws kept asked.slot asked.intent folded asked.intent_is) ∙ ap (slot_of kept) key ∙ own-slot laws kept slot intent folded intent_is) in
    let one : asked.intent ≡ intent = same_Some asked.intent intent (sym asked.intent_is ∙ ap (intent_at kept) slots ∙ intent_is) in
    asked.kind_is ∙ ap (λ (i : TheIntent). booked_kind_of i.what) one

-- and so is the entry that it caused
pub entry-kind : LedgerLaws → (kept : List Record) → AreFolded kept → (past : Past) → AreKeyed kept past.place past.commands → (entry : BookedEntry) → is_caused past entry entry.cause ≡ true
    → (command : SentCommand) → In command past.commands → entry.cause ≡ Some command.place → (slot : ℕ) (intent : TheIntent) → intent_at kept slot ≡ Some intent → command.key ≡ Some (intent_key intent)
    → entry.kind ≡ booked_kind_of intent.what
entry-kind laws kept folded past keyed entry caused command within cause_is slot intent intent_is key_is =
    (caused-as past entry command keyed.falling within cause_is caused).1 ∙ command-kind laws kept folded past.place past.commands keyed command within slot intent intent_is key_is

-- entries of one cause have it
one-cause : (one other : BookedEntry) (place : ℕ) → one.cause ≡ Some place → other.cause ≡ Some place → have_one_cause one other ≡ true
one-cause one other place e f =
    ap (λ cause. list_any (λ p. is_caused_by p other) (option_to_list cause)) e
    ∙ (ap (λ cause. list_any (λ c. c == place) (option_to_list cause) || false) f
    ∙ ap (λ b. (b || false) || false) (eq-eqb place place refl))

-- an entry that comes before another of its terminal has another cause
no-cause : (one other : BookedEntry) → one.numbering.poi ≡ other.numbering.poi → comes_before one other ≡ true → have_one_cause one other ≡ true → ⊥
no-cause one other same e f =
    let s : bytes_eq one.numbering.poi other.numbering.poi ≡ true = subst (λ poi. bytes_eq one.numbering.poi poi ≡ true) same (bytes-itself one.numbering.poi) in
    let g = subst (λ b. (not b || (nat_le one.place other.place && ((not (is_numbering one.numbering other.numbering) || nat_lt one.number other.number) && not (have_one_cause one other)))) ≡ true) s e in
    let p = and_parts (nat_le one.place other.place) _ g in
    let q = and_parts (not (is_numbering one.numbering other.numbering) || nat_lt one.number other.number) _ p.1 in
    let c : not true ≡ true = subst (λ b. not b ≡ true) f q.1 in
    absurd (cc)

-- no two entries have one key
two-booked : (kept : List Record) (past : Past) → AreKeyed kept past.place past.commands → (one other : BookedEntry) (key : Key)
    → is_caused past one one.cause ≡ true → is_caused past other other.cause ≡ true → comes_before one other ≡ true → entry_key past one ≡ Some key → entry_key past other ≡ Some key → ⊥
two-booked kept past keyed one other key first second before e f =
    let a = caused-for past one key e in
    let b = caused-for past other key f in
    let same : a.command ≡ b.command = keyed.once a.command b.command key a.sent b.sent a.key_is b.key_is in
    let cause : other.cause ≡ Some a.command.place = b.cause_is ∙ ap (λ (command : SentCommand). Some command.place) (sym same) in
    let first_is = caused-numbering past one a.command keyed.falling a.sent a.cause_is first in
    let second_is = caused-numbering past other a.command keyed.falling a.sent cause second in
    no-cause one other (ap (λ (numbering : Numbering). numbering.poi) (sym first_is ∙ second_is)) before (one-cause one other a.command.place a.cause_is cause)

pub booked-apart : (kept : List Record) (past : Past) → AreKeyed kept past.place past.commands → (book : List BookedEntry) → list_all (λ (entry : BookedEntry). is_caused past entry entry.cause) book ≡ true
    → is_ordered book ≡ true → AreApart (entry_key past) book
booked-apart kept past keyed [] caused ordered = tt
booked-apart kept past keyed (entry ∷ book) caused ordered =
    let p = and_parts (is_caused past entry entry.cause) (list_all (λ (one : BookedEntry). is_caused past one one.cause) book) caused in
    let q = and_parts (list_all (comes_before entry) book) (is_ordered book) ordered in (
      λ other within key. two-booked kept past keyed entry other key p.0 (all-in (λ (one : BookedEntry). is_caused past one one.cause) book p.1 other within) (all-in (comes_before entry) book q.0 other within),
      booked-apart kept past keyed book p.1 q.1,
    )

-- ---- replies

-- what holds of each in a list holds of all
all-of : {A : Type 0} (P : A → Type 0) (list : List A) → ((x : A) → In x list → P x) → All P list
all-of {A} P list each = All-from_recursion P list (by-recursion list each)
  where
    by-recursion : (list : List A) → ((x : A) → In x list → P x) → AllByRecursion P list
    by-recursion [] each = tt
    by-recursion (x ∷ list) each = (each x (inl refl), by-recursion list (λ y within. each y (inr within)))

each-said : (agrees : Past → List BookedEntry → SentReply → Said → Bool) (past : Past) (book : List BookedEntry)
    → ((reply : SentReply) → In reply past.replies → IsSentTrue past.commands book reply → (said : Said) → IsSaidTrue reply.kept reply.waiting reply.occasion said → agrees past book reply said ≡ true)
    → ((reply : SentReply) → In reply past.replies → IsSentTrue past.commands book reply) → EachSaid agrees past book
each-said agrees past book each true-replies =
    all-of (λ (reply : SentReply). (message : Tree) → IsFramed reply.bytes message → list_all (agrees past book reply) (all_said message) ≡ true) past.replies (λ reply within message framed.
    let sent = true-replies reply within in
    all-from (agrees past book reply) (all_said message) (λ said says. each reply within sent said (sent.says message framed said says)))

-- where a test implies something, it fails or that holds
unless : (test other : Bool) → (test ≡ true → other ≡ true) → (not test || other) ≡ true
unless true other holds = holds refl
unless false other holds = refl

-- ---- a success

-- an approved entry of a command is one of the command's key
pub approved-for : (past : Past) → AreFalling past.place past.commands → (command : SentCommand) → In command past.commands → (key : Key) → command.key ≡ Some key → (entry : BookedEntry) → entry.cause ≡ Some command.place
    → entry.approved ≡ true → is_approved_entry past key entry ≡ true
approved-for past falling command sent key key_is entry caused approved =
    let own : entry_key past entry ≡ Some key = ap (option_and_then (key_at_place past.commands)) caused ∙ (key-sent past.place past.commands falling command sent ∙ key_is) in
    and_from entry.approved (is_key key (entry_key past entry)) approved (is-key-itself key (entry_key past entry) own)

-- what is booked as it was asked is of the category that is said
of-category : (what : Deal) (kind : BookedKind) (category : List ℕ) → category ≡ deal_category what → kind ≡ booked_kind_of what → is_kind (if bytes_eq category (codes "Reversal") then BookedReversal else BookedPayment) kind ≡ true
of-category Payment kind category c r = rw (c, r) refl
of-category Reversal kind category c r = rw (c, r) refl

-- the entry that bears a success out is the one that is said
entry-said : (past : Past) (book : List BookedEntry) (reply : SentReply) (said : Said) → AreFalling past.place past.commands → (command : SentCommand) → In command past.commands
    → (says : SaysSuccess reply.kept said) → command.key ≡ Some (intent_key says.says.intent) → (has : HasApprovedEntry book reply.place command says.says.outcome)
    → (let entry = has.entry in entry.kind ≡ booked_kind_of says.says.intent.what) → is_entry_said past reply said has.entry ≡ true
entry-said past book reply said falling command sent says key has kind =
    let entry = has.entry in
    let outcome = says.says.outcome in
    let approved : is_approved_entry past said.key entry ≡ true = approved-for past falling command sent said.key (key ∙ ap Some (sym says.says.key_is)) entry has.caused has.approved in
    let text : said.transaction ≡ transaction_text entry.number entry.receipt outcome.slot =
    says.transaction_is ∙ (ap (λ n. transaction_text n outcome.receipt outcome.slot) (sym has.number) ∙ ap (λ n. transaction_text entry.number n outcome.slot) (sym has.receipt)) in
    let names : names_entry reply.kept said.key said.transaction entry ≡ true =
    ap (λ slot. list_any (λ s. bytes_eq said.transaction (transaction_text entry.number entry.receipt s)) (option_to_list slot)) says.slot_is
    ∙ ap (λ b. b || false) (subst (λ t. bytes_eq said.transaction t ≡ true) text (bytes-itself said.transaction)) in
    let units : said.amount ≡ money_text entry.amount = says.amount_is ∙ ap money_text (sym has.amount) in
    let amount : bytes_eq said.amount (money_text entry.amount) ≡ true = subst (λ t. bytes_eq said.amount t ≡ true) units (bytes-itself said.amount) in
    and_from (is_approved_entry past said.key entry) _ approved
    (and_from (is_of_category said entry) _ (of-category says.says.intent.what entry.kind said.category says.says.category_is kind)
    (and_from (nat_le entry.place reply.place) _ (le-leb entry.place reply.place has.placed)
    (and_from (names_entry reply.kept said.key said.transaction entry) (bytes_eq said.amount (money_text entry.amount)) names amount)))

success-said : LedgerLaws → (kept : List Record) → AreFolded kept → (past : Past) (book : List BookedEntry) → AreKeyed kept past.place past.commands
    → list_all (λ (entry : BookedEntry). is_caused past entry entry.cause) book ≡ true → ((reply : SentReply) → In reply past.replies → IsFirstOf reply.kept kept) → (reply : SentReply) → In reply past.replies → IsSentTrue past.commands book reply → (said : Said) → IsSaidTrue reply.kept reply.waiting reply.occasion said → success_agrees past book reply said ≡ true
success-said laws kept folded past book keyed caused replied reply within sent said truth =
    unless (is_transaction said && is_success said) (list_any (is_entry_said past reply said) book) (λ t.
    let says = truth.success t in
    let is : IsApprovalTrue past.commands book reply.place (intent_key says.says.intent) says.says.outcome =
    subst (λ b. BearsOut b past.commands book reply.place (intent_key says.says.intent) says.says.outcome) says.says.approved_is
    (sent.outcomes says.says.at says.says.outcome says.says.intent says.says.found says.says.intent_is) in
    let first = replied reply within in
    let there : intent_at kept says.says.outcome.slot ≡ Some says.says.intent =
    subst (λ records. intent_at records says.says.outcome.slot ≡ Some says.says.intent) (sym first.1) (intent-stays reply.kept first.0 says.says.outcome.slot says.says.intent says.says.intent_is) in
    let booked = all-in (λ (entry : BookedEntry). is_caused past entry entry.cause) book caused is.booked.entry is.booked.within in
    let kind = entry-kind laws kept folded past keyed is.booked.entry booked is.command is.sent is.booked.caused says.says.outcome.slot says.says.intent there is.key_is in
    any-from (is_entry_said past reply said) book is.booked.entry is.booked.within (entry-said past book reply said keyed.falling is.command is.sent says is.key_is is.booked kind))

-- ---- a refusal

-- where no entry of the commands for a key is approved, none is for it
not-approved : (past : Past) (book : List BookedEntry) (key : Key) → IsDeclineTrue past.commands book key → (entry : BookedEntry) → In entry book → is_approved_entry past key entry ≡ true → ⊥
not-approved past book key none entry within e =
    let p = and_parts entry.approved (is_key key (entry_key past entry)) e in
    let a = caused-for past entry key (is-key-is key (entry_key past entry) p.1) in
    let f : entry.approved ≡ false = none a.command a.sent a.key_is entry within a.cause_is in
    let clash : true ≡ false = sym p.0 ∙ f in
    absurd (cc)

pub none-approved : (past : Past) (book : List BookedEntry) (key : Key) → IsDeclineTrue past.commands book key → not (list_any (is_approved_entry past key) book) ≡ true
none-approved past book key none =
    not_from_false (list_any (is_approved_entry past key) book)
    (none-from (is_approved_entry past key) book (λ entry within. false_from_ne_true (is_approved_entry past key entry) (not-approved past book key none entry within)))

refusal-said : (past : Past) (book : List BookedEntry) → (reply : SentReply) → In reply past.replies → IsSentTrue past.commands book reply → (said : Said) → IsSaidTrue reply.kept reply.waiting reply.occasion said → refusal_agrees past book reply said ≡ true
refusal-said past book reply within sent said truth =
    unless (is_transaction said && (not (is_success said) && said.has_poi_data)) (not (list_any (is_approved_entry past said.key) book)) (λ t.
    let says = truth.refusal t in
    let none : IsDeclineTrue past.commands book (intent_key says.intent) =
    subst (λ b. BearsOut b past.commands book reply.place (intent_key says.intent) says.outcome) says.approved_is (sent.outcomes says.at says.outcome says.intent says.found says.intent_is) in
    none-approved past book said.key (subst (IsDeclineTrue past.commands book) (sym says.key_is) none))

-- ---- agreement

pub holds-agrees : LedgerLaws → HoldsAgrees
holds-agrees laws v past book folded holds honest = record {
  keyed = all-from (λ (command : SentCommand). is_some command.key) past.commands (λ command within. ap is_some (holds.commands.accepted command within).key_is);
  sent_once = apart-distinct (λ (command : SentCommand). command.key) past.commands (sent-apart past.place past.commands holds.commands.falling holds.commands.once);
  booked_once = apart-distinct (entry_key past) book (booked-apart v.scene.kept past holds.commands book honest.caused honest.ordered);
  success = each-said success_agrees past book (success-said laws v.scene.kept folded past book holds.commands honest.caused holds.replied) holds.replies;
  refusal = each-said refusal_agrees past book (refusal-said past book) holds.replies;
  unaccepted = each-said unaccepted_agrees past book (λ reply within sent said truth. truth.unaccepted) holds.replies;
  not_found = each-said not_found_agrees past book (λ reply within sent said truth. truth.not_found) holds.replies;
  in_progress = each-said in_progress_agrees past book (λ reply within sent said truth. truth.in_progress) holds.replies;
  resolved = holds.polls;
  inside = holds.deeds;
}
