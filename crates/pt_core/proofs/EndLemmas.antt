-- What ends a dialogue with a played terminal is true of its book.
use Rattle.std.proofs.Common.{◌≡◌, ℕ, ℤ, Bool, true, false, cond, eqb, leb, List, [], ◌∷◌, ◌++◌, Option, None, Some, refl, sym, ap, subst, ◌∙◌, append_assoc, inl, inr}
use Rattle.std.specs.Prelude.{◌⊎◌, ◌&&◌}
use Rattle.std.specs.List.{filter_map, last_or, list_any}
use Rattle.std.proofs.lemmas.List.Elements.{filter_map-append}
use Rattle.gw_bytes.specs.Bytes.{IsPrefix}
use Rattle.zvt_bmp.specs.declared.fields.Fields.{Fields}
use Rattle.zvt_msg.specs.declared.command.Command.{Command}
use Rattle.zvt_msg.specs.declared.command.Command.TheVariants as command
use Rattle.zvt_msg.specs.Message.{MessageValue, Ack, Nack, Intermediate, Line, Block, Status, Completion, Abort, Other}
use Rattle.zvt_talk.specs.declared.dialogue_kind.DialogueKind.{DialogueKind}
use Rattle.zvt_talk.specs.declared.dialogue_kind.DialogueKind.TheVariants.{Registration, Enquiry, Payment, Reversal, EndOfDay, Display}
use Rattle.zvt_talk.specs.declared.meaning.Heard.{Heard}
use Rattle.zvt_talk.specs.declared.meaning.Heard.TheVariants as heard
use Rattle.zvt_talk.specs.Dialogue.{Dialogue, dialogue_kind_of}
use Rattle.zvt_talk.specs.Came.{Came, Message, StopWished, status_fields_of, has_ended, has_result, is_asked, is_stop_wished, messages, taken_message}
use Rattle.zvt_talk.specs.Table.{meaning_when_asked, meaning_when_begun, approved_with, enquiry_approved}
use Rattle.zvt_talk.specs.Laws.{IsTransaction}
use Rattle.zvt_talk.specs.Talk.{meaning, end_from, end_of, is_end}
use Rattle.pt_core.specs.declared.book.BookEntry.{BookEntry}
use Rattle.pt_core.specs.declared.play.Play.{Play}
use Rattle.pt_core.specs.declared.play.Play.TheVariants as play
use Rattle.pt_core.specs.declared.reaction.Reaction.{Reaction}
use Rattle.pt_core.specs.declared.reaction.Reaction.TheVariants as reaction
use Rattle.pt_core.specs.Book.{is_full, last_book_entry, last_payment, next_entry}
use Rattle.pt_core.specs.Table.{at_command, by_command, cuts, enquiry, entries_of, messages_of, payment, reversal, status_of_entry}
use Rattle.pt_core.specs.Ends.{IsReported, IsTrueEnd, entry_figures}

-- ---- the messages of a reaction as they are read

-- the status of an entry, with a tail at this offset
abbrev pub read_status : ℕ → BookEntry → Fields
read_status tail entry = record (status_of_entry entry) { tail = tail }

-- the messages of a reaction, whose statuses have their tail at this offset
abbrev pub read_messages : ℕ → Reaction → List MessageValue
read_messages tail reaction.Silent = []
read_messages tail reaction.Acknowledged = Ack ∷ []
read_messages tail reaction.Refused = Nack 0x83 ∷ []
read_messages tail reaction.Completed = Ack ∷ Completion ∷ []
read_messages tail (reaction.Approved entry) = Ack ∷ Status (read_status tail entry) ∷ Completion ∷ []
read_messages tail (reaction.Reported entry) = Ack ∷ Status (read_status tail entry) ∷ Completion ∷ []
read_messages tail (reaction.Aborted result_code) = Ack ∷ Abort (Some result_code) ∷ []
read_messages tail (reaction.Booked entry) = Ack ∷ []
read_messages tail reaction.Dropped = []

-- without a tail they are those that are written
pub same_messages : (done : Reaction) → read_messages 0 done ≡ messages_of done
same_messages reaction.Silent = refl
same_messages reaction.Acknowledged = refl
same_messages reaction.Refused = refl
same_messages reaction.Completed = refl
same_messages (reaction.Approved entry) = refl
same_messages (reaction.Reported entry) = refl
same_messages (reaction.Aborted result_code) = refl
same_messages (reaction.Booked entry) = refl
same_messages reaction.Dropped = refl

-- ---- the message that ends a dialogue

record EndsAt (dialogue : Dialogue) (came : List Came) (end : Heard) : Type 0 where
  before : List Came
  message : MessageValue
  at : ℤ
  following : List Came
  parts : came ≡ before ++ Message message at ∷ following
  ends : is_end (meaning dialogue before message) ≡ true
  is : meaning dialogue before message ≡ end

pub some_is : (a b : Heard) → (let o : Option Heard = Some a in o) ≡ Some b → a ≡ b
some_is a b e = cc

ends_choice : (dialogue : Dialogue) (before rest : List Came) (message : MessageValue) (at : ℤ) (end : Heard) (is : Bool)
    → is_end (meaning dialogue before message) ≡ is
    → cond is (Some (meaning dialogue before message)) (end_from dialogue (before ++ Message message at ∷ []) rest) ≡ Some end
    → (end_from dialogue (before ++ Message message at ∷ []) rest ≡ Some end → EndsAt dialogue ((before ++ Message message at ∷ []) ++ rest) end)
    → EndsAt dialogue (before ++ Message message at ∷ rest) end
ends_choice dialogue before rest message at end true is e later =
    record { before = before; message = message; at = at; following = rest; parts = refl; ends = is; is = some_is _ end e }
ends_choice dialogue before rest message at end false is e later =
    let Ends : List Came → Type 0 = λ c. EndsAt dialogue c end in
    subst Ends (append_assoc before (Message message at ∷ []) rest) (later e)

ends_at : (dialogue : Dialogue) (before rest : List Came) (end : Heard) → end_from dialogue before rest ≡ Some end → EndsAt dialogue (before ++ rest) end
ends_at dialogue before [] end e = absurd cc
ends_at dialogue before (StopWished ∷ rest) end e =
    let Ends : List Came → Type 0 = λ c. EndsAt dialogue c end in
    subst Ends (append_assoc before (StopWished ∷ []) rest) (ends_at dialogue (before ++ StopWished ∷ []) rest end e)
ends_at dialogue before (Message message at ∷ rest) end e =
    ends_choice dialogue before rest message at end (is_end (meaning dialogue before message)) refl e (ends_at dialogue (before ++ Message message at ∷ []) rest end)

-- ---- what a message means, by the messages before it alone

abbrev dialogue_meaning : DialogueKind → ℕ → Bool → List MessageValue → MessageValue → Heard
dialogue_meaning dialogue_kind none stop_wished taken message =
    cond (is_asked taken) (meaning_when_asked dialogue_kind stop_wished message)
    (meaning_when_begun dialogue_kind none (record { last = last_or None (filter_map status_fields_of taken); approved = list_any (λ status. has_result 0 status.result) (filter_map status_fields_of taken) }) message)

-- an end is none that the message Other brings
other_never : (dialogue_kind : DialogueKind) (none : ℕ) (stop_wished : Bool) (taken : List MessageValue) → is_end (dialogue_meaning dialogue_kind none stop_wished taken Other) ≡ true → ⊥
other_never dialogue_kind none stop_wished [] e = cc
other_never dialogue_kind none stop_wished (first ∷ taken) e = cc

pub taken_first : (message : MessageValue) (at : ℤ) (following : List Came) → (message ≡ Other → ⊥) → messages (Message message at ∷ following) ≡ message ∷ messages following
taken_first Ack at following apart = refl
taken_first (Nack error_code) at following apart = refl
taken_first (Intermediate intermediate_status) at following apart = refl
taken_first (Line text) at following apart = refl
taken_first (Block objects) at following apart = refl
taken_first (Status fields) at following apart = refl
taken_first Completion at following apart = refl
taken_first (Abort result_code) at following apart = refl
taken_first Other at following apart = absurd (apart refl)

-- ---- where a message is among few

at_one : (before : List MessageValue) (message : MessageValue) (following : List MessageValue) (a : MessageValue) → before ++ message ∷ following ≡ a ∷ [] → (before ≡ []) × (message ≡ a)
at_one [] message following a e = (refl, cc)
at_one (x ∷ []) message following a e = absurd cc
at_one (x ∷ y ∷ before) message following a e = absurd cc

at_two : (before : List MessageValue) (message : MessageValue) (following : List MessageValue) (a b : MessageValue) → before ++ message ∷ following ≡ a ∷ b ∷ []
    → ((before ≡ []) × (message ≡ a)) ⊎ ((before ≡ a ∷ []) × (message ≡ b))
at_two [] message following a b e = inl (refl, cc)
at_two (x ∷ []) message following a b e = inr (cc, cc)
at_two (x ∷ y ∷ []) message following a b e = absurd cc
at_two (x ∷ y ∷ z ∷ before) message following a b e = absurd cc

at_three : (before : List MessageValue) (message : MessageValue) (following : List MessageValue) (a b c : MessageValue) → before ++ message ∷ following ≡ a ∷ b ∷ c ∷ []
    → ((before ≡ []) × (message ≡ a)) ⊎ (((before ≡ a ∷ []) × (message ≡ b)) ⊎ ((before ≡ a ∷ b ∷ []) × (message ≡ c)))
at_three [] message following a b c e = inl (refl, cc)
at_three (x ∷ []) message following a b c e = inr (inl (cc, cc))
at_three (x ∷ y ∷ []) message following a b c e = inr (inr (cc, cc))
at_three (x ∷ y ∷ z ∷ []) message following a b c e = absurd cc
at_three (x ∷ y ∷ z ∷ w ∷ before) message following a b c e = absurd cc

-- ---- what is true of each

-- where the message ends the dialogue, that is true
abbrev EndsTruly : DialogueKind → ℕ → Bool → List BookEntry → List BookEntry → List MessageValue → MessageValue → Type 0
EndsTruly dialogue_kind none stop_wished book entries taken message = is_end (dialogue_meaning dialogue_kind none stop_wished taken message) ≡ true → IsTrueEnd book entries (dialogue_meaning dialogue_kind none stop_wished taken message)

ends_along : (dialogue_kind : DialogueKind) (none : ℕ) (stop_wished : Bool) (book entries : List BookEntry) {taken earlier : List MessageValue} {message here : MessageValue}
    → taken ≡ earlier → message ≡ here → EndsTruly dialogue_kind none stop_wished book entries earlier here → EndsTruly dialogue_kind none stop_wished book entries taken message
ends_along dialogue_kind none stop_wished book entries {taken} {earlier} {message} {here} before is holds =
    let P : List MessageValue → Type 0 = λ t. EndsTruly dialogue_kind none stop_wished book entries t message in
    let Q : MessageValue → Type 0 = λ m. EndsTruly dialogue_kind none stop_wished book entries earlier m in
    subst P (sym before) (subst Q (sym is) holds)

-- each message of these
abbrev AllEndTruly : DialogueKind → ℕ → Bool → List BookEntry → List BookEntry → List MessageValue → Type 0
AllEndTruly dialogue_kind none stop_wished book entries sent = (before : List MessageValue) (message : MessageValue) (following : List MessageValue)
    → before ++ message ∷ following ≡ sent → EndsTruly dialogue_kind none stop_wished book entries before message

none_ends : (dialogue_kind : DialogueKind) (none : ℕ) (stop_wished : Bool) (book entries : List BookEntry) → AllEndTruly dialogue_kind none stop_wished book entries []
none_ends dialogue_kind none stop_wished book entries [] message following e = absurd cc
none_ends dialogue_kind none stop_wished book entries (x ∷ before) message following e = absurd cc

one_ends : (dialogue_kind : DialogueKind) (none : ℕ) (stop_wished : Bool) (book entries : List BookEntry) (a : MessageValue)
    → EndsTruly dialogue_kind none stop_wished book entries [] a → AllEndTruly dialogue_kind none stop_wished book entries (a ∷ [])
one_ends dialogue_kind none stop_wished book entries a first before message following e =
    let found = at_one before message following a e in ends_along dialogue_kind none stop_wished book entries found.0 found.1 first

two_end : (dialogue_kind : DialogueKind) (none : ℕ) (stop_wished : Bool) (book entries : List BookEntry) (a b : MessageValue)
    → EndsTruly dialogue_kind none stop_wished book entries [] a → EndsTruly dialogue_kind none stop_wished book entries (a ∷ []) b → AllEndTruly dialogue_kind none stop_wished book entries (a ∷ b ∷ [])
two_end dialogue_kind none stop_wished book entries a b first second before message following e =
    elim (at_two before message following a b e) [
      | inl found ↦ ends_along dialogue_kind none stop_wished book entries found.0 found.1 first
      | inr found ↦ ends_along dialogue_kind none stop_wished book entries found.0 found.1 second
    ]

three_end : (dialogue_kind : DialogueKind) (none : ℕ) (stop_wished : Bool) (book entries : List BookEntry) (a b c : MessageValue)
    → EndsTruly dialogue_kind none stop_wished book entries [] a → EndsTruly dialogue_kind none stop_wished book entries (a ∷ []) b → EndsTruly dialogue_kind none stop_wished book entries (a ∷ b ∷ []) c
    → AllEndTruly dialogue_kind none stop_wished book entries (a ∷ b ∷ c ∷ [])
three_end dialogue_kind none stop_wished book entries a b c first second third before message following e =
    elim (at_three before message following a b c e) [
      | inl found ↦ ends_along dialogue_kind none stop_wished book entries found.0 found.1 first
      | inr later ↦ elim later [
        | inl found ↦ ends_along dialogue_kind none stop_wished book entries found.0 found.1 second
        | inr found ↦ ends_along dialogue_kind none stop_wished book entries found.0 found.1 third
      ]
    ]

-- ---- a payment or a reversal

declines : (zero_code : Bool) (result_code : ℕ) (book : List BookEntry) → IsTrueEnd book [] (cond zero_code heard.Unclear (heard.Declined result_code None))
declines true result_code book = tt
declines false result_code book = (refl, refl)

approves : (full : Bool) (entry : BookEntry) (book : List BookEntry) → IsTrueEnd book (entry ∷ []) (approved_with (cond full (Some (entry_figures entry)) None))
approves true entry book = (entry, refl, refl)
approves false entry book = tt

reports : (full : Bool) (entry : BookEntry) (book entries : List BookEntry) → last_book_entry book ≡ Some entry → IsTrueEnd book entries (enquiry_approved entry.number (cond full (Some (entry_figures entry)) None))
reports true entry book entries last =
    let P : Option BookEntry → Type 0 = λ o. IsReported o entry.number (Some (entry_figures entry)) in subst P (sym last) (refl, refl)
reports false entry book entries last = tt

reports_none : (zero_code same : Bool) (result_code : ℕ) (book entries : List BookEntry) → last_book_entry book ≡ None → IsTrueEnd book entries (cond zero_code heard.Unclear (cond same (heard.Told 0 None result_code) heard.Unclear))
reports_none true same result_code book entries last = tt
reports_none false true result_code book entries last =
    let P : Option BookEntry → Type 0 = λ o. IsReported o 0 None in subst P (sym last) (refl, refl)
reports_none false false result_code book entries last = tt

abort_ends : (dialogue_kind : DialogueKind) → IsTransaction dialogue_kind → (none : ℕ) (stop_wished : Bool) (book : List BookEntry) (result_code : ℕ) → AllEndTruly dialogue_kind none stop_wished book [] (Ack ∷ Abort (Some result_code) ∷ [])
abort_ends Registration is none stop_wished book result_code = absurd is
abort_ends Enquiry is none stop_wished book result_code = absurd is
abort_ends Payment is none stop_wished book result_code = two_end Payment none stop_wished book [] Ack (Abort (Some result_code)) (λ _. tt) (λ _. declines (eqb result_code 0) result_code book)
abort_ends Reversal is none stop_wished book result_code = two_end Reversal none stop_wished book [] Ack (Abort (Some result_code)) (λ _. tt) (λ _. declines (eqb result_code 0) result_code book)
abort_ends EndOfDay is none stop_wished book result_code = absurd is
abort_ends Display is none stop_wished book result_code = absurd is

approval_ends : (dialogue_kind : DialogueKind) → IsTransaction dialogue_kind → (none : ℕ) (stop_wished : Bool) (book : List BookEntry) (tail : ℕ) (entry : BookEntry) → AllEndTruly dialogue_kind none stop_wished book (entry ∷ []) (Ack ∷ Status (read_status tail entry) ∷ Completion ∷ [])
approval_ends Registration is none stop_wished book tail entry = absurd is
approval_ends Enquiry is none stop_wished book tail entry = absurd is
approval_ends Payment is none stop_wished book tail entry = three_end Payment none stop_wished book (entry ∷ []) Ack (Status (read_status tail entry)) Completion (λ _. tt) (λ _. tt) (λ _. approves (leb 1 entry.number && leb 1 entry.amount) entry book)
approval_ends Reversal is none stop_wished book tail entry = three_end Reversal none stop_wished book (entry ∷ []) Ack (Status (read_status tail entry)) Completion (λ _. tt) (λ _. tt) (λ _. approves (leb 1 entry.number && leb 1 entry.amount) entry book)
approval_ends EndOfDay is none stop_wished book tail entry = absurd is
approval_ends Display is none stop_wished book tail entry = absurd is

-- ---- each command

-- what is done at a command ends truly
abbrev Truly : ℕ → DialogueKind → ℕ → Bool → List BookEntry → Reaction → Type 0
Truly tail dialogue_kind none stop_wished book done = AllEndTruly dialogue_kind none stop_wished book (entries_of done) (read_messages tail done)

payment_truly : (tail : ℕ) (full : Bool) (chosen : Play) (none : ℕ) (stop_wished : Bool) (book : List BookEntry) (amount : ℕ) → Truly tail Payment none stop_wished book (cond full (reaction.Aborted 0x83) (payment chosen book amount))
payment_truly tail true chosen none stop_wished book amount = abort_ends Payment tt none stop_wished book 0x83
payment_truly tail false play.Approve none stop_wished book amount = approval_ends Payment tt none stop_wished book tail (next_entry book amount false)
payment_truly tail false (play.Decline result_code) none stop_wished book amount = abort_ends Payment tt none stop_wished book result_code
payment_truly tail false play.CutAfterBook none stop_wished book amount = one_ends Payment none stop_wished book (next_entry book amount false ∷ []) Ack (λ _. tt)
payment_truly tail false play.DropAtOnce none stop_wished book amount = none_ends Payment none stop_wished book []

reversal_truly : (tail : ℕ) (full : Bool) (found : Option BookEntry) (none : ℕ) (stop_wished : Bool) (book : List BookEntry) → Truly tail Reversal none stop_wished book (cond full (reaction.Aborted 0x83) (reversal found book))
reversal_truly tail true found none stop_wished book = abort_ends Reversal tt none stop_wished book 0x83
reversal_truly tail false None none stop_wished book = abort_ends Reversal tt none stop_wished book 0xB4
reversal_truly tail false (Some paid) none stop_wished book = approval_ends Reversal tt none stop_wished book tail (next_entry book paid.amount true)

enquiry_truly : (tail : ℕ) (last : Option BookEntry) (none own : ℕ) (stop_wished : Bool) (book : List BookEntry) → last_book_entry book ≡ last → Truly tail Enquiry none stop_wished book (enquiry own last)
enquiry_truly tail None none own stop_wished book is = two_end Enquiry none stop_wished book [] Ack (Abort (Some own)) (λ _. tt) (λ _. reports_none (eqb own 0) (eqb own none) own book [] is)
enquiry_truly tail (Some entry) none own stop_wished book is = three_end Enquiry none stop_wished book [] Ack (Status (read_status tail entry)) Completion (λ _. tt) (λ _. tt) (λ _. reports (leb 1 entry.number && leb 1 entry.amount) entry book [] is)

same_dialogue_kind : (a b : DialogueKind) → (let o : Option DialogueKind = Some a in o) ≡ Some b → a ≡ b
same_dialogue_kind a b e = cc

no_dialogue_kind : (b : DialogueKind) → (let o : Option DialogueKind = None in o) ≡ Some b → ⊥
no_dialogue_kind b e = cc

command_truly : (tail own : ℕ) (chosen : Play) (book : List BookEntry) (asked : Command) (which : DialogueKind) (none : ℕ) (stop_wished : Bool) → dialogue_kind_of asked ≡ Some which → Truly tail which none stop_wished book (at_command own chosen book asked)
command_truly tail own chosen book (command.Register password config currency) which none stop_wished e =
    let P : DialogueKind → Type 0 = λ k. Truly tail k none stop_wished book reaction.Completed in
    subst P (same_dialogue_kind Registration which e) (two_end Registration none stop_wished book [] Ack Completion (λ _. tt) (λ _. refl))
command_truly tail own chosen book (command.Authorise amount currency) which none stop_wished e =
    let P : DialogueKind → Type 0 = λ k. Truly tail k none stop_wished book (at_command own chosen book (command.Authorise amount currency)) in
    subst P (same_dialogue_kind Payment which e) (payment_truly tail (is_full book) chosen none stop_wished book amount)
command_truly tail own chosen book (command.Enquire password) which none stop_wished e =
    let P : DialogueKind → Type 0 = λ k. Truly tail k none stop_wished book (at_command own chosen book (command.Enquire password)) in
    subst P (same_dialogue_kind Enquiry which e) (enquiry_truly tail (last_book_entry book) none own stop_wished book refl)
command_truly tail own chosen book (command.Reverse password receipt) which none stop_wished e =
    let P : DialogueKind → Type 0 = λ k. Truly tail k none stop_wished book (at_command own chosen book (command.Reverse password receipt)) in
    subst P (same_dialogue_kind Reversal which e) (reversal_truly tail (is_full book) (last_payment receipt book) none stop_wished book)
command_truly tail own chosen book (command.EndOfDay password) which none stop_wished e =
    let P : DialogueKind → Type 0 = λ k. Truly tail k none stop_wished book reaction.Completed in
    subst P (same_dialogue_kind EndOfDay which e) (two_end EndOfDay none stop_wished book [] Ack Completion (λ _. tt) (λ _. refl))
command_truly tail own chosen book command.Stop which none stop_wished e = absurd (no_dialogue_kind which e)
command_truly tail own chosen book (command.Show display_lines) which none stop_wished e =
    let P : DialogueKind → Type 0 = λ k. Truly tail k none stop_wished book reaction.Acknowledged in
    subst P (same_dialogue_kind Display which e) (one_ends Display none stop_wished book [] Ack (λ _. refl))

-- ---- any dialogue

pub true_end : (tail own : ℕ) (chosen : Play) (book : List BookEntry) (class : ℕ) (asked : Option Command) (command : Command) (dialogue : Dialogue) (came : List Came) (end : Heard)
    → asked ≡ Some command → dialogue_kind_of command ≡ Some dialogue.dialogue_kind → IsPrefix (messages came) (read_messages tail (by_command own chosen book class asked))
    → end_of dialogue came ≡ Some end → IsTrueEnd book (entries_of (by_command own chosen book class asked)) end
true_end tail own chosen book class asked command dialogue came end spells which first e =
    let done = at_command own chosen book command in
    let P : Option Command → Type 0 = λ o. IsPrefix (messages came) (read_messages tail (by_command own chosen book class o)) in
    let Q : Option Command → Type 0 = λ o. IsTrueEnd book (entries_of (by_command own chosen book class o)) end in
    let heard_first : IsPrefix (messages came) (read_messages tail done) = subst P spells first in
    let found = ends_at dialogue [] came end e in
    let stop_wished = is_stop_wished found.before in
    let apart : found.message ≡ Other → ⊥ = λ other.
    let R : MessageValue → Type 0 = λ m. is_end (dialogue_meaning dialogue.dialogue_kind dialogue.none stop_wished (messages found.before) m) ≡ true in
    other_never dialogue.dialogue_kind dialogue.none stop_wished (messages found.before) (subst R other found.ends) in
    let all : messages came ≡ messages found.before ++ (found.message ∷ messages found.following) =
    ap messages found.parts ∙ filter_map-append taken_message found.before (Message found.message found.at ∷ found.following)
    ∙ ap (λ (t : List MessageValue). messages found.before ++ t) (taken_first found.message found.at found.following apart) in
    let sequence : messages found.before ++ (found.message ∷ (messages found.following ++ heard_first.0)) ≡ read_messages tail done =
    sym (heard_first.1 ∙ ap (λ (t : List MessageValue). t ++ heard_first.0) all ∙ append_assoc (messages found.before) (found.message ∷ messages found.following) heard_first.0) in
    let truly = command_truly tail own chosen book command dialogue.dialogue_kind dialogue.none stop_wished which (messages found.before) found.message (messages found.following ++ heard_first.0) sequence found.ends in
    let S : Heard → Type 0 = λ h. IsTrueEnd book (entries_of done) h in
    subst Q (sym spells) (subst S found.is truly)

-- ---- after a whole reaction the dialogue has ended

whole_payment : (full : Bool) (chosen : Play) (tail : ℕ) (book : List BookEntry) (amount : ℕ) → (let done = cond full (reaction.Aborted 0x83) (payment chosen book amount) in cuts done ≡ false → has_ended Payment (read_messages tail done) ≡ true)
whole_payment true chosen tail book amount goes_on = refl
whole_payment false play.Approve tail book amount goes_on = refl
whole_payment false (play.Decline result_code) tail book amount goes_on = refl
whole_payment false play.CutAfterBook tail book amount goes_on = absurd cc
whole_payment false play.DropAtOnce tail book amount goes_on = absurd cc

whole_reversal : (full : Bool) (found : Option BookEntry) (tail : ℕ) (book : List BookEntry) → has_ended Reversal (read_messages tail (cond full (reaction.Aborted 0x83) (reversal found book))) ≡ true
whole_reversal true found tail book = refl
whole_reversal false None tail book = refl
whole_reversal false (Some paid) tail book = refl

whole_enquiry : (last : Option BookEntry) (tail own : ℕ) → has_ended Enquiry (read_messages tail (enquiry own last)) ≡ true
whole_enquiry None tail own = refl
whole_enquiry (Some entry) tail own = refl

pub whole_reaction : (tail own : ℕ) (chosen : Play) (book : List BookEntry) (asked : Command) (which : DialogueKind) → dialogue_kind_of asked ≡ Some which
    → cuts (at_command own chosen book asked) ≡ false → has_ended which (read_messages tail (at_command own chosen book asked)) ≡ true
whole_reaction tail own chosen book (command.Register password config currency) which e goes_on =
    let P : DialogueKind → Type 0 = λ k. has_ended k (Ack ∷ Completion ∷ []) ≡ true in
    subst P (same_dialogue_kind Registration which e) refl
whole_reaction tail own chosen book (command.Authorise amount currency) which e goes_on =
    let P : DialogueKind → Type 0 = λ k. has_ended k (read_messages tail (at_command own chosen book (command.Authorise amount currency))) ≡ true in
    subst P (same_dialogue_kind Payment which e) (whole_payment (is_full book) chosen tail book amount goes_on)
whole_reaction tail own chosen book (command.Enquire password) which e goes_on =
    let P : DialogueKind → Type 0 = λ k. has_ended k (read_messages tail (at_command own chosen book (command.Enquire password))) ≡ true in
    subst P (same_dialogue_kind Enquiry which e) (whole_enquiry (last_book_entry book) tail own)
whole_reaction tail own chosen book (command.Reverse password receipt) which e goes_on =
    let P : DialogueKind → Type 0 = λ k. has_ended k (read_messages tail (at_command own chosen book (command.Reverse password receipt))) ≡ true in
    subst P (same_dialogue_kind Reversal which e) (whole_reversal (is_full book) (last_payment receipt book) tail book)
whole_reaction tail own chosen book (command.EndOfDay password) which e goes_on =
    let P : DialogueKind → Type 0 = λ k. has_ended k (Ack ∷ Completion ∷ []) ≡ true in
    subst P (same_dialogue_kind EndOfDay which e) refl
whole_reaction tail own chosen book command.Stop which e goes_on = absurd (no_dialogue_kind which e)
whole_reaction tail own chosen book (command.Show display_lines) which e goes_on =
    let P : DialogueKind → Type 0 = λ k. has_ended k (Ack ∷ []) ≡ true in
    subst P (same_dialogue_kind Display which e) refl

-- ---- an end stays the end

stays_choice : (dialogue : Dialogue) (before rest more : List Came) (message : MessageValue) (at : ℤ) (end : Heard) (is : Bool)
    → (end_from dialogue (before ++ Message message at ∷ []) rest ≡ Some end → end_from dialogue (before ++ Message message at ∷ []) (rest ++ more) ≡ Some end)
    → cond is (Some (meaning dialogue before message)) (end_from dialogue (before ++ Message message at ∷ []) rest) ≡ Some end
    → cond is (Some (meaning dialogue before message)) (end_from dialogue (before ++ Message message at ∷ []) (rest ++ more)) ≡ Some end
stays_choice dialogue before rest more message at end true later e = e
stays_choice dialogue before rest more message at end false later e = later e

pub end_stays : (dialogue : Dialogue) (before rest more : List Came) (end : Heard) → end_from dialogue before rest ≡ Some end → end_from dialogue before (rest ++ more) ≡ Some end
end_stays dialogue before [] more end e = absurd cc
end_stays dialogue before (StopWished ∷ rest) more end e = end_stays dialogue (before ++ StopWished ∷ []) rest more end e
end_stays dialogue before (Message message at ∷ rest) more end e =
    stays_choice dialogue before rest more message at end (is_end (meaning dialogue before message)) (end_stays dialogue (before ++ Message message at ∷ []) rest more end) e
