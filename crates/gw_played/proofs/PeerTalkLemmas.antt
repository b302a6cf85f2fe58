-- What a played terminal says in a dialogue: each message goes on with it, or is the last one and ends it truly.
use Rattle.std.proofs.Common.{◌≡◌, ℕ, ℤ, Bool, true, false, cond, eqb, leb, List, [], ◌∷◌, ◌++◌, refl, sym, ap, subst, ◌∙◌, append_assoc, append-nil, inl, inr}
use Rattle.std.specs.Prelude.{◌⊎◌, ◌&&◌, not, is_some, pos, Option, None, Some}
use Rattle.std.specs.List.{filter_map, last_or, list_any}
use Rattle.std.proofs.lemmas.List.Elements.{filter_map-append}
use Rattle.gw_base.specs.declared.figures.Figures.{Figures}
use Rattle.zvt_apdu.specs.Grammar.{ApduValue}
use Rattle.zvt_msg.specs.declared.command.Command.{Command}
use Rattle.zvt_msg.specs.declared.command.Command.TheVariants as command
use Rattle.zvt_msg.specs.CommandDecode.{decode_command}
use Rattle.zvt_msg.specs.Message.{MessageValue, Ack, Status, Completion, Abort}
use Rattle.zvt_talk.specs.declared.dialogue_kind.DialogueKind.{DialogueKind}
use Rattle.zvt_talk.specs.declared.dialogue_kind.DialogueKind.TheVariants.{Registration, Enquiry, Payment, Reversal, EndOfDay, Display}
use Rattle.zvt_talk.specs.declared.meaning.Heard.{Heard}
use Rattle.zvt_talk.specs.declared.meaning.Heard.TheVariants as heard
use Rattle.zvt_talk.specs.Dialogue.{Dialogue, dialogue_kind_of}
use Rattle.zvt_talk.specs.Came.{Came, Message, StopWished, status_fields_of, has_result, is_asked, is_begun, is_stop_sent, is_stop_wished, is_taken, messages, taken_message}
use Rattle.zvt_talk.specs.Laws.{IsEndOf}
use Rattle.zvt_talk.specs.Table.{meaning_when_asked, meaning_when_begun, approved_with, enquiry_approved}
use Rattle.zvt_talk.specs.declared.phase.Phase.TheVariants.{Asked, Begun, Ended}
use Rattle.zvt_talk.specs.declared.statuses.Statuses.{Statuses}
use Rattle.zvt_talk.specs.Talk.{end_from, end_of, is_end, is_open_phase, meaning, statuses_of, talk_after, talk_goes_on}
use Rattle.zvt_talk.specs.TalkSteps.{meaning_for_talk, next_talk}
use Rattle.pt_core.specs.declared.book.BookEntry.{BookEntry}
use Rattle.pt_core.specs.declared.play.Play.{Play}
use Rattle.pt_core.specs.declared.play.Play.TheVariants as play
use Rattle.pt_core.specs.Book.{is_full, last_book_entry, last_payment, next_entry}
use Rattle.pt_core.specs.Ends.{IsTrueEnd, entry_figures}
use Rattle.pt_core.specs.History.{Setting, book_of, play_left, reaction_after}
use Rattle.pt_core.specs.Table.{at_command, by_command, cuts, enquiry, entries_of, payment, reversal}
use Rattle.pt_core.proofs.EndLemmas.{read_messages, read_status, true_end}
use Rattle.gw_owes.specs.Handling.{taken_as}
use Rattle.gw_played.proofs.Playing.{PeerLaws}

-- ---- what a message means, by the messages before it alone

-- and by whether a stop is wished
abbrev pub meaning_after : DialogueKind → ℕ → Bool → List MessageValue → MessageValue → Heard
meaning_after dialogue_kind none wished taken message =
    cond (is_asked taken) (meaning_when_asked dialogue_kind wished message)
    (meaning_when_begun dialogue_kind none (record { last = last_or None (filter_map status_fields_of taken); approved = list_any (λ status. has_result 0 status.result) (filter_map status_fields_of taken) }) message)

-- the dialogue goes on, and nothing follows but a stop
abbrev pub GoesOn : Heard → Type 0
GoesOn (heard.Begun stop) = Unit {0}
GoesOn (heard.Note intermediate_status) = ⊥
GoesOn heard.Line = ⊥
GoesOn heard.Block = ⊥
GoesOn heard.Seen = Unit {0}
GoesOn (heard.Approved figures) = ⊥
GoesOn heard.Done = ⊥
GoesOn (heard.Told trace approved result_code) = ⊥
GoesOn (heard.Declined result_code trace) = ⊥
GoesOn heard.Unclear = ⊥
GoesOn heard.Stray = ⊥

-- what goes on isn't an end
pub on-unended : (meant : Heard) → GoesOn meant → is_end meant ≡ false
on-unended (heard.Begun stop) on = refl
on-unended (heard.Note intermediate_status) on = refl
on-unended heard.Line on = refl
on-unended heard.Block on = refl
on-unended heard.Seen on = refl
on-unended (heard.Approved figures) on = absurd on
on-unended heard.Done on = absurd on
on-unended (heard.Told trace approved result_code) on = absurd on
on-unended (heard.Declined result_code trace) on = absurd on
on-unended heard.Unclear on = absurd on
on-unended heard.Stray on = refl

-- an end that a played terminal may bring in a dialogue of this kind
abbrev pub MayEnd : DialogueKind → Heard → Type 0
MayEnd dialogue_kind meant = IsEndOf dialogue_kind meant × (is_end meant ≡ true)

-- what a message means in a dialogue in which these came before it and these come after it, before the connection is cut or not, and whether a stop is wished or not
record Means (dialogue_kind : DialogueKind) (none : ℕ) (cut : Bool) (taken : List MessageValue) (message : MessageValue) (left : List MessageValue) : Type 0 where
  taken_is : is_taken message ≡ true
  same : (awaited : ℕ) → taken_as awaited message ≡ message
  then : (wished : Bool) → GoesOn (meaning_after dialogue_kind none wished taken message) ⊎ (MayEnd dialogue_kind (meaning_after dialogue_kind none wished taken message) × (left ≡ []) × (cut ≡ false))

-- ---- where a message is among few

-- so it is of each message of these
abbrev EachSays : DialogueKind → ℕ → Bool → List MessageValue → Type 0
EachSays dialogue_kind none cut sent = (taken : List MessageValue) (message : MessageValue) (left : List MessageValue) → taken ++ message ∷ left ≡ sent → Means dialogue_kind none cut taken message left

module _ (dialogue_kind : DialogueKind) (none : ℕ) (cut : Bool) where
  says-along : {taken before left after : List MessageValue} {message here : MessageValue} → taken ≡ before → message ≡ here → left ≡ after → Means dialogue_kind none cut before here after → Means dialogue_kind none cut taken message left
  says-along {taken} {before} {left} {after} {message} {here} first second third it =
      let P : List MessageValue → Type 0 = λ l. Means dialogue_kind none cut taken message l in
      let Q : MessageValue → Type 0 = λ m. Means dialogue_kind none cut taken m after in
      let R : List MessageValue → Type 0 = λ t. Means dialogue_kind none cut t here after in
      subst P (sym third) (subst Q (sym second) (subst R (sym first) it))

  no-one : EachSays dialogue_kind none cut []
  no-one [] message left e = absurd cc
  no-one (x ∷ taken) message left e = absurd cc

  each-one : (a : MessageValue) → Means dialogue_kind none cut [] a [] → EachSays dialogue_kind none cut (a ∷ [])
  each-one a first [] message left e = let second : message ≡ a = cc in let third : left ≡ [] = cc in says-along refl second third first
  each-one a first (x ∷ []) message left e = absurd cc
  each-one a first (x ∷ y ∷ taken) message left e = absurd cc

  each-two : (a b : MessageValue) → Means dialogue_kind none cut [] a (b ∷ []) → Means dialogue_kind none cut (a ∷ []) b [] → EachSays dialogue_kind none cut (a ∷ b ∷ [])
  each-two a b first second [] message left e = let here : message ≡ a = cc in let rest : left ≡ b ∷ [] = cc in says-along refl here rest first
  each-two a b first second (x ∷ []) message left e = let came : x ∷ [] ≡ a ∷ [] = cc in let here : message ≡ b = cc in let rest : left ≡ [] = cc in says-along came here rest second
  each-two a b first second (x ∷ y ∷ []) message left e = absurd cc
  each-two a b first second (x ∷ y ∷ z ∷ taken) message left e = absurd cc

  each-three : (a b c : MessageValue) → Means dialogue_kind none cut [] a (b ∷ c ∷ []) → Means dialogue_kind none cut (a ∷ []) b (c ∷ []) → Means dialogue_kind none cut (a ∷ b ∷ []) c []
      → EachSays dialogue_kind none cut (a ∷ b ∷ c ∷ [])
  each-three a b c first second third [] message left e = let here : message ≡ a = cc in let rest : left ≡ b ∷ c ∷ [] = cc in says-along refl here rest first
  each-three a b c first second third (x ∷ []) message left e = let came : x ∷ [] ≡ a ∷ [] = cc in let here : message ≡ b = cc in let rest : left ≡ c ∷ [] = cc in says-along came here rest second
  each-three a b c first second third (x ∷ y ∷ []) message left e = let came : x ∷ y ∷ [] ≡ a ∷ b ∷ [] = cc in let here : message ≡ c = cc in let rest : left ≡ [] = cc in says-along came here rest third
  each-three a b c first second third (x ∷ y ∷ z ∷ []) message left e = absurd cc
  each-three a b c first second third (x ∷ y ∷ z ∷ w ∷ taken) message left e = absurd cc

-- ---- each reaction to a command

-- an end of a payment or a reversal
payment-code : (zero_code : Bool) (result_code : ℕ) → MayEnd Payment (cond zero_code heard.Unclear (heard.Declined result_code None))
payment-code true result_code = (tt, refl)
payment-code false result_code = (tt, refl)

payment-figures : (full : Bool) (figures : Figures) → MayEnd Payment (approved_with (cond full (Some figures) None))
payment-figures true figures = (tt, refl)
payment-figures false figures = (tt, refl)

-- an end of an enquiry
enquiry-code : (zero_code same : Bool) (result_code : ℕ) → MayEnd Enquiry (cond zero_code heard.Unclear (cond same (heard.Told 0 None result_code) heard.Unclear))
enquiry-code true same result_code = (tt, refl)
enquiry-code false true result_code = (tt, refl)
enquiry-code false false result_code = (tt, refl)

enquiry-figures : (full : Bool) (trace : ℕ) (figures : Figures) → MayEnd Enquiry (enquiry_approved trace (cond full (Some figures) None))
enquiry-figures true trace figures = (tt, refl)
enquiry-figures false trace figures = (tt, refl)

-- an end of day
day-says : (none : ℕ) → EachSays EndOfDay none false (Ack ∷ Completion ∷ [])
day-says none = each-two EndOfDay none false Ack Completion
    (record { taken_is = refl; same = λ awaited. refl; then = λ wished. inl tt })
    (record { taken_is = refl; same = λ awaited. refl; then = λ wished. inr ((tt, refl), refl, refl) })

-- a display, which is done with its acknowledgement
display-says : (none : ℕ) → EachSays Display none false (Ack ∷ [])
display-says none = each-one Display none false Ack (record { taken_is = refl; same = λ awaited. refl; then = λ wished. inr ((tt, refl), refl, refl) })

-- a registration
registers-says : (none : ℕ) → EachSays Registration none false (Ack ∷ Completion ∷ [])
registers-says none = each-two Registration none false Ack Completion
    (record { taken_is = refl; same = λ awaited. refl; then = λ wished. inl tt })
    (record { taken_is = refl; same = λ awaited. refl; then = λ wished. inr ((tt, refl), refl, refl) })

-- a payment that is aborted
payment-aborted : (none result_code : ℕ) → EachSays Payment none false (Ack ∷ Abort (Some result_code) ∷ [])
payment-aborted none result_code = each-two Payment none false Ack (Abort (Some result_code))
    (record { taken_is = refl; same = λ awaited. refl; then = λ wished. inl tt })
    (record { taken_is = refl; same = λ awaited. refl; then = λ wished. inr (payment-code (eqb result_code 0) result_code, refl, refl) })

payment-approved : (none : ℕ) (entry : BookEntry) → EachSays Payment none false (Ack ∷ Status (read_status 16 entry) ∷ Completion ∷ [])
payment-approved none entry = each-three Payment none false Ack (Status (read_status 16 entry)) Completion
    (record { taken_is = refl; same = λ awaited. refl; then = λ wished. inl tt })
    (record { taken_is = refl; same = λ awaited. refl; then = λ wished. inl tt })
    (record { taken_is = refl; same = λ awaited. refl; then = λ wished. inr (payment-figures (leb 1 entry.number && leb 1 entry.amount) (entry_figures entry), refl, refl) })

payment-says : (full : Bool) (chosen : Play) (none : ℕ) (book : List BookEntry) (amount : ℕ)
    → (let done = cond full (payment (play.Decline 0x83) book amount) (payment chosen book amount) in EachSays Payment none (cuts done) (read_messages 16 done))
payment-says true chosen none book amount = payment-aborted none 0x83
payment-says false play.Approve none book amount = payment-approved none (next_entry book amount false)
payment-says false (play.Decline result_code) none book amount = payment-aborted none result_code
payment-says false play.CutAfterBook none book amount = each-one Payment none true Ack (record { taken_is = refl; same = λ awaited. refl; then = λ wished. inl tt })
payment-says false play.DropAtOnce none book amount = no-one Payment none true

-- a reversal
reversal-aborted : (none result_code : ℕ) → EachSays Reversal none false (Ack ∷ Abort (Some result_code) ∷ [])
reversal-aborted none result_code = each-two Reversal none false Ack (Abort (Some result_code))
    (record { taken_is = refl; same = λ awaited. refl; then = λ wished. inl tt })
    (record { taken_is = refl; same = λ awaited. refl; then = λ wished. inr (payment-code (eqb result_code 0) result_code, refl, refl) })

reversal-says : (full : Bool) (found : Option BookEntry) (none : ℕ) (book : List BookEntry) → (let done = cond full (enquiry 0x83 None) (reversal found book) in EachSays Reversal none (cuts done) (read_messages 16 done))
reversal-says true found none book = reversal-aborted none 0x83
reversal-says false None none book = reversal-aborted none 0xB4
reversal-says false (Some paid) none book =
    let entry : BookEntry = next_entry book paid.amount true in
    each-three Reversal none false Ack (Status (read_status 16 entry)) Completion
    (record { taken_is = refl; same = λ awaited. refl; then = λ wished. inl tt })
    (record { taken_is = refl; same = λ awaited. refl; then = λ wished. inl tt })
    (record { taken_is = refl; same = λ awaited. refl; then = λ wished. inr (payment-figures (leb 1 entry.number && leb 1 entry.amount) (entry_figures entry), refl, refl) })

enquiry-says : (last : Option BookEntry) (none own : ℕ) → EachSays Enquiry none (cuts (enquiry own last)) (read_messages 16 (enquiry own last))
enquiry-says None none own = each-two Enquiry none false Ack (Abort (Some own))
    (record { taken_is = refl; same = λ awaited. refl; then = λ wished. inl tt })
    (record { taken_is = refl; same = λ awaited. refl; then = λ wished. inr (enquiry-code (eqb own 0) (eqb own none) own, refl, refl) })
enquiry-says (Some entry) none own = each-three Enquiry none false Ack (Status (read_status 16 entry)) Completion
    (record { taken_is = refl; same = λ awaited. refl; then = λ wished. inl tt })
    (record { taken_is = refl; same = λ awaited. refl; then = λ wished. inl tt })
    (record { taken_is = refl; same = λ awaited. refl; then = λ wished. inr (enquiry-figures (leb 1 entry.number && leb 1 entry.amount) entry.number (entry_figures entry), refl, refl) })

-- the command is one with which a dialogue begins: each but a stop
abbrev pub IsAsked : Command → Type 0
IsAsked (command.Register password config currency) = Unit {0}
IsAsked (command.Authorise amount currency) = Unit {0}
IsAsked (command.Enquire password) = Unit {0}
IsAsked (command.Reverse password receipt) = Unit {0}
IsAsked (command.EndOfDay password) = Unit {0}
IsAsked command.Stop = ⊥
IsAsked (command.Show display_lines) = Unit {0}

-- what begins a dialogue is such a command
pub kind-asked : (asked : Command) (dialogue_kind : DialogueKind) → dialogue_kind_of asked ≡ Some dialogue_kind → IsAsked asked
kind-asked (command.Register password config currency) dialogue_kind is = tt
kind-asked (command.Authorise amount currency) dialogue_kind is = tt
kind-asked (command.Enquire password) dialogue_kind is = tt
kind-asked (command.Reverse password receipt) dialogue_kind is = tt
kind-asked (command.EndOfDay password) dialogue_kind is = tt
kind-asked command.Stop dialogue_kind is = absurd cc
kind-asked (command.Show display_lines) dialogue_kind is = tt

pub same-kind : (a b : DialogueKind) → (let o : Option DialogueKind = Some a in o) ≡ Some b → a ≡ b
same-kind a b e = cc

command-says : (none own : ℕ) (chosen : Play) (book : List BookEntry) (asked : Command) (which : DialogueKind) → IsAsked asked → dialogue_kind_of asked ≡ Some which
    → EachSays which none (cuts (at_command own chosen book asked)) (read_messages 16 (at_command own chosen book asked))
command-says none own chosen book (command.Register password config currency) which is e =
    let P : DialogueKind → Type 0 = λ k. EachSays k none false (Ack ∷ Completion ∷ []) in
    subst P (same-kind Registration which e) (registers-says none)
command-says none own chosen book (command.Authorise amount currency) which is e =
    let done = at_command own chosen book (command.Authorise amount currency) in
    let P : DialogueKind → Type 0 = λ k. EachSays k none (cuts done) (read_messages 16 done) in
    subst P (same-kind Payment which e) (payment-says (is_full book) chosen none book amount)
command-says none own chosen book (command.Enquire password) which is e =
    let done = at_command own chosen book (command.Enquire password) in
    let P : DialogueKind → Type 0 = λ k. EachSays k none (cuts done) (read_messages 16 done) in
    subst P (same-kind Enquiry which e) (enquiry-says (last_book_entry book) none own)
command-says none own chosen book (command.Reverse password receipt) which is e =
    let done = at_command own chosen book (command.Reverse password receipt) in
    let P : DialogueKind → Type 0 = λ k. EachSays k none (cuts done) (read_messages 16 done) in
    subst P (same-kind Reversal which e) (reversal-says (is_full book) (last_payment receipt book) none book)
command-says none own chosen book (command.EndOfDay password) which is e =
    let P : DialogueKind → Type 0 = λ k. EachSays k none false (Ack ∷ Completion ∷ []) in
    subst P (same-kind EndOfDay which e) (day-says none)
command-says none own chosen book command.Stop which is e = absurd is
command-says none own chosen book (command.Show display_lines) which is e =
    let P : DialogueKind → Type 0 = λ k. EachSays k none false (Ack ∷ []) in
    subst P (same-kind Display which e) (display-says none)

-- ---- more that came

-- what this message means, where the dialogue went on until it, is the end or not
one-more : (dialogue : Dialogue) (before rest : List Came) (message : MessageValue) (at : ℤ) → end_from dialogue before rest ≡ None
    → end_from dialogue before (rest ++ Message message at ∷ []) ≡ cond (is_end (meaning dialogue (before ++ rest) message)) (Some (meaning dialogue (before ++ rest) message)) None
one-more dialogue before [] message at e =
    ap (λ (c : List Came). cond (is_end (meaning dialogue c message)) (Some (meaning dialogue c message)) None) (sym (append-nil before))
one-more dialogue before (StopWished ∷ rest) message at e =
    one-more dialogue (before ++ StopWished ∷ []) rest message at e
    ∙ ap (λ (c : List Came). cond (is_end (meaning dialogue c message)) (Some (meaning dialogue c message)) None) (append_assoc before (StopWished ∷ []) rest)
one-more dialogue before (Message first when ∷ rest) message at e =
    by-test (is_end (meaning dialogue before first)) e (one-more dialogue (before ++ Message first when ∷ []) rest message at)
    ∙ ap (λ (c : List Came). cond (is_end (meaning dialogue c message)) (Some (meaning dialogue c message)) None) (append_assoc before (Message first when ∷ []) rest)
  where
    by-test : (b : Bool) → cond b (Some (meaning dialogue before first)) (end_from dialogue (before ++ Message first when ∷ []) rest) ≡ None
        → (end_from dialogue (before ++ Message first when ∷ []) rest ≡ None
        → end_from dialogue (before ++ Message first when ∷ []) (rest ++ Message message at ∷ [])
        ≡ cond (is_end (meaning dialogue ((before ++ Message first when ∷ []) ++ rest) message)) (Some (meaning dialogue ((before ++ Message first when ∷ []) ++ rest) message)) None)
        → cond b (Some (meaning dialogue before first)) (end_from dialogue (before ++ Message first when ∷ []) (rest ++ Message message at ∷ []))
        ≡ cond (is_end (meaning dialogue ((before ++ Message first when ∷ []) ++ rest) message)) (Some (meaning dialogue ((before ++ Message first when ∷ []) ++ rest) message)) None
    by-test true e later = absurd cc
    by-test false e later = later e

-- the messages with one more that is taken
messages-more : (came : List Came) (message : MessageValue) (at : ℤ) → is_taken message ≡ true → messages (came ++ Message message at ∷ []) ≡ messages came ++ message ∷ []
messages-more came message at is = filter_map-append taken_message came (Message message at ∷ []) ∙ ap (λ (l : List MessageValue). messages came ++ l) one
  where
    one : messages (Message message at ∷ []) ≡ message ∷ []
    one = rw is refl

-- a stop that is wished is no message
pub messages-wished : (came : List Came) → messages (came ++ StopWished ∷ []) ≡ messages came
messages-wished came = filter_map-append taken_message came (StopWished ∷ []) ∙ append-nil (messages came)

-- ---- a message of a dialogue that goes on

is-open : (asked begun stop sent : Bool) (said : Statuses) → (not asked && not begun) ≡ false → is_open_phase (cond asked (Asked stop) (cond begun (Begun sent said) (Ended sent))) ≡ true
is-open true begun stop sent said e = refl
is-open false true stop sent said e = refl
is-open false false stop sent said e = absurd cc

-- a dialogue that has no end goes on
open-talk : PeerLaws → (dialogue : Dialogue) (came : List Came) → end_of dialogue came ≡ None → talk_goes_on (talk_after dialogue came) ≡ true
open-talk laws dialogue came e =
    is-open (is_asked (messages came)) (is_begun dialogue.dialogue_kind (messages came)) (is_stop_wished came) (is_stop_sent dialogue.dialogue_kind came) (statuses_of came)
    (laws.all.ended dialogue came ∙ ap (λ (o : Option Heard). is_some o) e)

-- the dialogue goes on with the message
pub record StaysOpen (dialogue : Dialogue) (came : List Came) (message : MessageValue) : Type 0 where
  pub on : GoesOn (meaning dialogue came message)
  pub goes_on : (at : ℤ) → end_of dialogue (came ++ Message message at ∷ []) ≡ None

-- the message is the last one of the reaction, and ends the dialogue truly
pub record EndsHere (setting : Setting) (before : List ApduValue) (apdu : ApduValue) (dialogue : Dialogue) (came : List Came) (message : MessageValue) (left : List MessageValue) : Type 0 where
  pub ends : MayEnd dialogue.dialogue_kind (meaning dialogue came message)
  pub none_left : left ≡ []
  pub uncut : cuts (reaction_after setting before apdu) ≡ false
  pub true_of : IsTrueEnd (book_of setting before) (entries_of (reaction_after setting before apdu)) (meaning dialogue came message)

-- what a message of a played terminal does to a dialogue
pub record Spoken (setting : Setting) (before : List ApduValue) (apdu : ApduValue) (dialogue : Dialogue) (came : List Came) (message : MessageValue) (left : List MessageValue) : Type 0 where
  pub taken_is : is_taken message ≡ true
  pub same : (awaited : ℕ) → taken_as awaited message ≡ message
  pub means : meaning_for_talk (talk_after dialogue came) message ≡ meaning dialogue came message
  pub next : (at : ℤ) → next_talk (talk_after dialogue came) message at ≡ talk_after dialogue (came ++ Message message at ∷ [])
  pub whole : (at : ℤ) → messages (came ++ Message message at ∷ []) ++ left ≡ read_messages 16 (reaction_after setting before apdu)
  pub then : StaysOpen dialogue came message ⊎ EndsHere setting before apdu dialogue came message left

-- the first message that is left is taken by the dialogue
pub spoken : PeerLaws → (setting : Setting) (before : List ApduValue) (apdu : ApduValue) (command : Command) (dialogue : Dialogue) (came : List Came) (message : MessageValue) (left : List MessageValue)
    → IsAsked command → decode_command apdu ≡ Some command → dialogue_kind_of command ≡ Some dialogue.dialogue_kind → end_of dialogue came ≡ None
    → messages came ++ message ∷ left ≡ read_messages 16 (reaction_after setting before apdu) → Spoken setting before apdu dialogue came message left
spoken laws setting before apdu command dialogue came message left asked spells begins goes_on whole =
    record {
      taken_is = said.taken_is;
      same = said.same;
      means = laws.means dialogue came message opened;
      next = λ at. laws.next dialogue came message at opened;
      whole = λ at. more at;
      then = by-then (said.then (is_stop_wished came));
    }
  where
    opened : talk_goes_on (talk_after dialogue came) ≡ true
    opened = open-talk laws dialogue came goes_on

    said : Means dialogue.dialogue_kind dialogue.none (cuts (reaction_after setting before apdu)) (messages came) message left
    said =
        let P : Option Command → Type 0 = λ o. EachSays dialogue.dialogue_kind dialogue.none (cuts (by_command setting.none (play_left setting.plays before) (book_of setting before) apdu.class o))
        (read_messages 16 (by_command setting.none (play_left setting.plays before) (book_of setting before) apdu.class o)) in
        subst P (sym spells) (command-says dialogue.none setting.none (play_left setting.plays before) (book_of setting before) command dialogue.dialogue_kind asked begins) (messages came) message left whole

    more : (at : ℤ) → messages (came ++ Message message at ∷ []) ++ left ≡ read_messages 16 (reaction_after setting before apdu)
    more at =
        ap (λ (l : List MessageValue). l ++ left) (messages-more came message at said.taken_is)
        ∙ append_assoc (messages came) (message ∷ []) left
        ∙ whole

    ending : (at : ℤ) (b : Bool) → is_end (meaning dialogue came message) ≡ b → end_of dialogue (came ++ Message message at ∷ []) ≡ cond b (Some (meaning dialogue came message)) None
    ending at b is = one-more dialogue [] came message at goes_on ∙ ap (λ (x : Bool). cond x (Some (meaning dialogue came message)) None) is

    by-then : GoesOn (meaning dialogue came message) ⊎ (MayEnd dialogue.dialogue_kind (meaning dialogue came message) × (left ≡ []) × (cuts (reaction_after setting before apdu) ≡ false))
        → StaysOpen dialogue came message ⊎ EndsHere setting before apdu dialogue came message left
    by-then (inl on) = inl (record { on = on; goes_on = λ at. ending at false (on-unended (meaning dialogue came message) on) })
    by-then (inr (ends, none_left, uncut)) =
        inr (record {
          ends = ends;
          none_left = none_left;
          uncut = uncut;
          true_of = true_end 16 setting.none (play_left setting.plays before) (book_of setting before) apdu.class (decode_command apdu) command dialogue (came ++ Message message (pos 0) ∷ []) (meaning dialogue came message)
              spells begins (left, sym (more (pos 0))) (ending (pos 0) true ends.1);
        })
