-- What is handled was heard: an APDU's data are bytes, and no more than there may be; so its message prints no more than a till may be sent.
use Rattle.std.proofs.Common.{◌≡◌, ◌≤◌, ◌<◌, ◌∙◌, ℕ, List, [], ◌∷◌, ◌++◌, length, Some, None, Option, Ok, Err, refl, sym, ap, subst, arith, append-nil, append_assoc, inl}
use Rattle.std.specs.Prelude.{Result, sum_by, unwrap_or}
use Rattle.gw_bytes.specs.Bytes.{AreBytes}
use Rattle.gw_site.specs.Outside.{Outside, heard_on, outside_of}
use Rattle.gw_site.specs.declared.turn.Turn.{Turn}
use Rattle.gw_site.specs.declared.turn.Turn.TheVariants.{HeardPt}
use Rattle.zvt_apdu.specs.Grammar.{ApduValue, longest_apdu_data}
use Rattle.zvt_apdu.specs.Stream.{BeginsWithApdus}
use Rattle.zvt_msg.specs.Message.{MessageValue, Intermediate}
use Rattle.zvt_msg.specs.MessageDecode.{block_or_fault, control_field_of, decode_pt_message, decode_pt_message_by, first_byte_of, status_or_fault}
use Rattle.zvt_msg.specs.MessageGrammar.{ControlField}
use Rattle.zvt_msg.specs.PrintedLines.{printed_lines}
use Rattle.zvt_msg.proofs.PrintedLinesLemmas.{decoded_printed}
use Rattle.gw_owes.specs.Items.{RoundItem, Crowded, Message, Asked, Unframed, Gone, Greet, Handle, Serve, Queue, NextWaiting, Oversized, LinkLost, Late, Overdue, Due}
use Rattle.gw_owes.specs.ReadAs.{ReadAs}
use Rattle.gw_rules.specs.CutCauses.{HasSaidApdu}
use Rattle.gw_rules.specs.Lawful.{Allowed, IsLawful, Stands}
use Rattle.gw_rules.specs.View.{View, Begin, Read, after, at_first, view_from}
use Rattle.gw_rules.proofs.CourseLemmas.{stands-more}
use Rattle.gw_rules.proofs.CutCauseLemmas.{AreBrought, HasCauses, IsBrought, moves-causes}
use Rattle.gw_rules.proofs.HeardLemmas.{bytes-append, heard-bytes, stands-bytes}
use Rattle.gw_rules.proofs.LinkedLemmas.{first-agrees}
use Rattle.gw_rules.proofs.SplitLemmas.{SplitAt, split-log, split-outside, split-stands}

-- ---- an APDU

-- its data are bytes, and no more than there may be
pub record IsHandled (apdu : ApduValue) : Type 0 where
  pub size : length apdu.body ≤ longest_apdu_data
  pub bytes : AreBytes apdu.body

-- so it is of an APDU that is to be handled
abbrev pub IsItemHandled : RoundItem → Type 0
IsItemHandled (Crowded till) = Unit {0}
IsItemHandled (Message till bytes) = Unit {0}
IsItemHandled (Asked till as_read) = Unit {0}
IsItemHandled (Unframed till) = Unit {0}
IsItemHandled (Gone till) = Unit {0}
IsItemHandled (Greet number apdu) = Unit {0}
IsItemHandled (Handle number apdu) = IsHandled apdu
IsItemHandled (Serve number till header request) = Unit {0}
IsItemHandled (Queue number till header request) = Unit {0}
IsItemHandled (NextWaiting number) = Unit {0}
IsItemHandled (Oversized number) = Unit {0}
IsItemHandled (LinkLost number) = Unit {0}
IsItemHandled (Late number) = Unit {0}
IsItemHandled (Overdue key) = Unit {0}
IsItemHandled (Due number) = Unit {0}

-- ---- it was heard

bytes-first : (first second : List ℕ) → AreBytes (first ++ second) → AreBytes first
bytes-first [] second all = tt
bytes-first (byte ∷ first) second all = (all.0, bytes-first first second all.1)

bytes-second : (first second : List ℕ) → AreBytes (first ++ second) → AreBytes second
bytes-second [] second all = all
bytes-second (byte ∷ first) second all = bytes-second first second all.1

-- each of the APDUs that bytes begin with
spelled-handled : (bytes : List ℕ) (earlier : List ApduValue) (apdu : ApduValue) (later : List ApduValue) (rest : List ℕ) → AreBytes bytes → BeginsWithApdus bytes (earlier ++ apdu ∷ later) rest → IsHandled apdu
spelled-handled bytes [] apdu later rest all begins =
    let first = begins.1 in
    let spells = first.1 in
    let prefix : AreBytes first.0 = bytes-first first.0 begins.0 (subst AreBytes first.2 all) in
    let after_header : AreBytes (spells.length_bytes ++ apdu.body) = (subst AreBytes spells.whole prefix).1.1 in
    record { size = spells.within; bytes = bytes-second spells.length_bytes apdu.body after_header }
spelled-handled bytes (one ∷ earlier) apdu later rest all begins =
    let first = begins.1 in
    spelled-handled begins.0 earlier apdu later rest (bytes-second first.0 begins.0 (subst AreBytes first.2 all)) begins.2

-- an APDU that a terminal has said
said-handled : (log : List Turn) (v : View) (pt : ℕ) (apdu : ApduValue) → Stands log v → HasSaidApdu log pt apdu → IsHandled apdu
said-handled log v pt apdu s heard =
    let round = heard.said in
    let lawful : IsLawful (round.before ++ HeardPt pt round.chunk ∷ round.inside) = subst IsLawful round.log_is (v, s) in
    let x : SplitAt at_first round.before (HeardPt pt round.chunk) round.inside = split-log round.before (HeardPt pt round.chunk) round.inside lawful in
    let then : View = view_from at_first x.first in
    let outside : then.scene.outside ≡ outside_of round.before = split-outside round.before (HeardPt pt round.chunk) round.inside x in
    let before : List ℕ = heard_on (outside_of round.before).links pt in
    let old : AreBytes before =
    subst (λ (o : Outside). AreBytes (heard_on o.links pt)) outside
    (heard-bytes then.scene.outside.links pt (stands-bytes round.before then (split-stands round.before (HeardPt pt round.chunk) round.inside x)).links) in
    let said = round.said in
    spelled-handled (before ++ round.chunk) (said.before ++ heard.earlier) apdu heard.later heard.left (bytes-append before round.chunk old x.allowed.1.bytes)
    (subst (λ (apdus : List ApduValue). BeginsWithApdus (before ++ round.chunk) apdus heard.left) (sym (append_assoc said.before heard.earlier (apdu ∷ heard.later))) said.all.splits)

-- ---- along a course

pub first-stands : Stands [] at_first
first-stands = record { course = []; log_is = refl; lawful = tt; view_is = refl }

-- it goes on as an item begins, and as a message is read
pub stands-begun : (log : List Turn) (v : View) → Stands log v → Allowed v Begin → Stands log (after v Begin)
stands-begun log v s ok = subst (λ (l : List Turn). Stands l (after v Begin)) (append-nil log) (stands-more log v (Begin ∷ []) s (ok, tt))

pub stands-read : (log : List Turn) (v : View) (as_read : ReadAs) → Stands log v → Allowed v (Read as_read) → Stands log (after v (Read as_read))
stands-read log v as_read s ok = subst (λ (l : List Turn). Stands l (after v (Read as_read))) (append-nil log) (stands-more log v (Read as_read ∷ []) s (ok, tt))

-- the items of a lawful log's view were brought by it
brought : (log : List Turn) (v : View) → Stands log v → AreBrought log v.items
brought log v s =
    (subst (HasCauses log) s.view_is
    (subst (λ (l : List Turn). HasCauses l (view_from at_first s.course)) s.log_is (moves-causes [] at_first s.course first-stands first-agrees (record { items = tt; calls = inl refl }) s.lawful))).items

item-handled : (log : List Turn) (v : View) (item : RoundItem) → Stands log v → IsBrought log item → IsItemHandled item
item-handled log v (Crowded till) s by = tt
item-handled log v (Message till bytes) s by = tt
item-handled log v (Asked till as_read) s by = tt
item-handled log v (Unframed till) s by = tt
item-handled log v (Gone till) s by = tt
item-handled log v (Greet number apdu) s by = tt
item-handled log v (Handle number apdu) s by = said-handled log v number apdu s by
item-handled log v (Serve number till header request) s by = tt
item-handled log v (Queue number till header request) s by = tt
item-handled log v (NextWaiting number) s by = tt
item-handled log v (Oversized number) s by = tt
item-handled log v (LinkLost number) s by = tt
item-handled log v (Late number) s by = tt
item-handled log v (Overdue key) s by = tt
item-handled log v (Due number) s by = tt

-- so it is of the item that comes first
pub first-handled : (log : List Turn) (v : View) (item : RoundItem) (rest : List RoundItem) → Stands log v → v.items ≡ item ∷ rest → IsItemHandled item
first-handled log v item rest s is = item-handled log v item s (subst (AreBrought log) is (brought log v s)).0

-- ---- its message

-- what a message prints lies within the limits of a till's message, and its intermediate status is a byte
pub record IsMessageSmall (message : MessageValue) : Type 0 where
  pub few : length (printed_lines message) ≤ 400
  pub size : sum_by (λ line. length line) (printed_lines message) ≤ 12000
  pub code : (status : ℕ) → message ≡ Intermediate status → status < 256

first-byte : (bytes : List ℕ) → AreBytes bytes → unwrap_or (first_byte_of bytes) 0 < 256
first-byte [] all = omega arith
first-byte (byte ∷ bytes) all = all.0

-- an intermediate status is the first byte of the data, or 0
note-byte : (apdu : ApduValue) (field : Option ControlField) (status : ℕ) → AreBytes apdu.body → decode_pt_message_by field apdu ≡ Ok (Intermediate status) → status < 256
note-byte apdu None status all is = absurd cc
note-byte apdu (Some ControlField.Ack) status all is = absurd cc
note-byte apdu (Some ControlField.Nack) status all is = absurd cc
note-byte apdu (Some ControlField.Intermediate) status all is = let same : unwrap_or (first_byte_of apdu.body) 0 ≡ status = cc in subst (λ (n : ℕ). n < 256) same (first-byte apdu.body all)
note-byte apdu (Some ControlField.Line) status all is = absurd cc
note-byte apdu (Some ControlField.Block) status all is = by-objects _ is
  where
    by-objects : (objects : Result (List ℕ) _) → block_or_fault objects ≡ Ok (Intermediate status) → status < 256
    by-objects (Ok found) same = absurd cc
    by-objects (Err fault) same = absurd cc
note-byte apdu (Some ControlField.Status) status all is = by-fields _ is
  where
    by-fields : (fields : Result _ _) → status_or_fault fields ≡ Ok (Intermediate status) → status < 256
    by-fields (Ok found) same = absurd cc
    by-fields (Err fault) same = absurd cc
note-byte apdu (Some ControlField.Completion) status all is = absurd cc
note-byte apdu (Some ControlField.Abort) status all is = absurd cc

pub message-small : (apdu : ApduValue) (message : MessageValue) → IsHandled apdu → decode_pt_message apdu ≡ Ok message → IsMessageSmall message
unfolding decode_pt_message
message-small apdu message handled is =
    let printed = decoded_printed apdu message handled.size is in
    record {
      few = printed.0;
      size = printed.1;
      code = λ status same. note-byte apdu (control_field_of apdu.class apdu.instr) status handled.bytes (is ∙ ap Ok same);
    }
