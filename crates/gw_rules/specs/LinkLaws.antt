-- Laws of lawful logs on terminals: which are linked, what is sent to them, and when they are cut.
use Rattle.std.specs.Prelude.{◌≡◌, ◌⊎◌, ◌≤◌, ℕ, ◌+◌, ℤ, Bool, true, false, List, [], ◌∷◌, ◌++◌, slice_get, Some, Err}
use Rattle.gw_base.specs.Moment.{moment_of}
use Rattle.gw_base.specs.declared.setup.Pt.{Pt}
use Rattle.gw_base.specs.declared.setup.Setup.{Setup}
use Rattle.gw_bytes.specs.Bytes.{IsPrefix}
use Rattle.gw_site.specs.Outside.{Outside, is_connected, heard_on, outside_of}
use Rattle.gw_site.specs.Sorts.{IsQuiet, AreOfRound, is_between}
use Rattle.gw_site.specs.declared.turn.Turn.{Turn}
use Rattle.gw_site.specs.declared.turn.Turn.TheVariants.{Start, Polled, HeardPt, Lost, Linked, LinkFailed, SentPt, CutPt}
use Rattle.zvt_apdu.specs.Grammar.{ApduValue, BeginsTooLongApdu}
use Rattle.zvt_apdu.specs.Stream.{SpellsApdus}
use Rattle.zvt_msg.specs.CommandCanonical.{canonical_command}
use Rattle.zvt_msg.specs.MessageDecode.{decode_pt_message}
use Rattle.zvt_msg.specs.declared.fault.PtFault.{PtFault}
use Rattle.gw_owes.specs.Handling.{enquiry_command}
use Rattle.gw_owes.specs.Terminals.{registration}
use Rattle.gw_rules.specs.Lawful.{IsLawful}

-- ---- links

-- the terminal is linked after this log
abbrev pub is_linked_after : List Turn → ℕ → Bool
is_linked_after log pt = is_connected (outside_of log).links pt

-- a terminal is sent something, or cut, only while it is linked, and linked only while it isn't
pub record UsesLinks (log : List Turn) (pt : ℕ) : Type 0 where
  pub sent : (bytes : List ℕ) → IsLawful (log ++ SentPt pt bytes true ∷ []) → is_linked_after log pt ≡ true
  pub unsent : (bytes : List ℕ) → IsLawful (log ++ SentPt pt bytes false ∷ []) → is_linked_after log pt ≡ true
  pub cut : IsLawful (log ++ CutPt pt ∷ []) → is_linked_after log pt ≡ true
  pub linked : IsLawful (log ++ Linked pt ∷ []) → is_linked_after log pt ≡ false
  pub link_failed : IsLawful (log ++ LinkFailed pt ∷ []) → is_linked_after log pt ≡ false

-- after each log
abbrev pub EachUsesLinks : Type 0
EachUsesLinks = (log : List Turn) (pt : ℕ) → UsesLinks log pt

-- ---- registrations

-- the turn sends the terminal these bytes, or fails to with a prefix of them
abbrev pub IsSentTo : ℕ → List ℕ → Turn → Type 0
IsSentTo pt bytes turn = (turn ≡ SentPt pt bytes true) ⊎ ((taken : List ℕ) × IsPrefix taken bytes × (turn ≡ SentPt pt taken false))

-- the turn sends the terminal its registration, by the setup
abbrev pub IsRegistered : Setup → ℕ → Turn → Type 0
IsRegistered setup pt turn = (settings : Pt) × (slice_get setup.terminals pt ≡ Some settings) × IsSentTo pt (canonical_command (registration settings)) turn

-- in a lawful log, the next turn after the one that links a terminal sends it its registration, unless the run ends there
abbrev pub LinkedRegisters : Type 0
LinkedRegisters =
    (before run rest : List Turn) (setup : Setup) (pt : ℕ) (turn : Turn) → IsLawful (before ++ Start setup ∷ (run ++ Linked pt ∷ turn ∷ rest)) → IsQuiet run → is_between turn ≡ false
    → IsRegistered setup pt turn

-- ---- cuts

-- the terminal is cut in these turns
abbrev pub IsPtCutIn : ℕ → List Turn → Type 0
IsPtCutIn pt turns = (first : List Turn) × (rest : List Turn) × (turns ≡ first ++ CutPt pt ∷ rest)

-- the terminal has newly said these APDUs with this chunk, and then this rest
pub record HasSaid (o : Outside) (pt : ℕ) (chunk : List ℕ) (new : List ApduValue) (left : List ℕ) : Type 0 where
  pub before : List ApduValue
  pub rest : List ℕ
  pub spelled : SpellsApdus (heard_on o.links pt) before rest
  pub all : SpellsApdus (heard_on o.links pt ++ chunk) (before ++ new) left

-- one of these APDUs is no message of a terminal
abbrev pub HasOutside : List ApduValue → Type 0
HasOutside apdus = (first : List ApduValue) × (apdu : ApduValue) × (rest : List ApduValue) × (fault : PtFault) × (apdus ≡ first ++ apdu ∷ rest) × (decode_pt_message apdu ≡ Err fault)

-- in a lawful log, after bytes of a terminal with which it says an APDU outside the grammar, or begins one above the limit, it is cut before the next poll
abbrev pub OutsideCuts : Type 0
OutsideCuts =
    (before inside rest : List Turn) (pt : ℕ) (chunk : List ℕ) (now : ℤ) (new : List ApduValue) (left : List ℕ) → IsLawful (before ++ HeardPt pt chunk ∷ (inside ++ Polled now ∷ rest)) → AreOfRound inside
    → HasSaid (outside_of before) pt chunk new left → HasOutside new ⊎ ((length : ℕ) × BeginsTooLongApdu left length) → IsPtCutIn pt inside

-- ---- terminals that are due

-- the turn ends the terminal's link, or says that none could be made
abbrev pub EndsLink : ℕ → Turn → Type 0
EndsLink pt turn = (turn ≡ Lost pt) ⊎ ((turn ≡ CutPt pt) ⊎ (turn ≡ LinkFailed pt))

-- none of these turns does
abbrev pub EndsNone : ℕ → List Turn → Type 0
EndsNone pt [] = Unit {0}
EndsNone pt (turn ∷ turns) = (EndsLink pt turn → ⊥) × EndsNone pt turns

-- in this run, begun after this log, five seconds have passed at this moment since the last time that the terminal's link ended or couldn't be made, where there was one
abbrev pub HasRested : List Turn → List Turn → ℕ → ℕ → Type 0
HasRested before run pt moment = (first rest : List Turn) (turn : Turn) → run ≡ first ++ turn ∷ rest → EndsLink pt turn → EndsNone pt rest → (outside_of (before ++ first)).moment + 5 ≤ moment

-- in these turns the terminal is linked, or can't be
abbrev pub IsTriedIn : ℕ → List Turn → Type 0
IsTriedIn pt turns = (first : List Turn) × (turn : Turn) × (rest : List Turn) × (turns ≡ first ++ turn ∷ rest) × ((turn ≡ Linked pt) ⊎ (turn ≡ LinkFailed pt))

-- in a lawful log, a terminal that isn't linked as a poll comes is linked before the next one, or can't be, where five seconds have passed since its link ended or couldn't be made
abbrev pub DueIsTried : Type 0
DueIsTried =
    (before run inside rest : List Turn) (setup : Setup) (settings : Pt) (pt : ℕ) (now later : ℤ) → IsLawful (before ++ Start setup ∷ (run ++ Polled now ∷ (inside ++ Polled later ∷ rest))) → IsQuiet run → AreOfRound inside
    → slice_get setup.terminals pt ≡ Some settings → is_linked_after (before ++ Start setup ∷ run) pt ≡ false → HasRested (before ++ Start setup ∷ []) run pt (moment_of now) → IsTriedIn pt inside

-- in a lawful log, a terminal is linked, or can't be, only where five seconds have passed since its link ended or couldn't be made
abbrev pub TriedOnceRested : Type 0
TriedOnceRested =
    (before run rest : List Turn) (setup : Setup) (pt : ℕ) (turn : Turn) → IsLawful (before ++ Start setup ∷ (run ++ turn ∷ rest)) → IsQuiet run → (turn ≡ Linked pt) ⊎ (turn ≡ LinkFailed pt)
    → HasRested (before ++ Start setup ∷ []) run pt (outside_of (before ++ Start setup ∷ run)).moment

-- ---- terminals that are silent

-- the turn brings bytes of the terminal, or says that its link was lost
abbrev pub IsOfTerminal : ℕ → Turn → Type 0
IsOfTerminal pt turn = ((bytes : List ℕ) × (turn ≡ HeardPt pt bytes)) ⊎ (turn ≡ Lost pt)

-- none of these turns does
abbrev pub BringNothing : ℕ → List Turn → Type 0
BringNothing pt [] = Unit {0}
BringNothing pt (turn ∷ turns) = (IsOfTerminal pt turn → ⊥) × BringNothing pt turns

-- in these turns of a run nothing is heard of the terminal, and its link doesn't end
pub record IsSilentIn (pt : ℕ) (turns : List Turn) : Type 0 where
  pub quiet : IsQuiet turns
  pub unheard : BringNothing pt turns
  pub lasts : EndsNone pt turns

-- ---- enquiries

-- the APDU `80 00 00`, an Ack, with which each side acknowledges
abbrev pub ack_bytes : List ℕ
ack_bytes = 0x80 ∷ 0x00 ∷ 0x00 ∷ []

-- the APDU `06 0F 00`, a Completion, with which a terminal says that a command is done
abbrev pub completion_bytes : List ℕ
completion_bytes = 0x06 ∷ 0x0F ∷ 0x00 ∷ []

-- the turns of a run in which a terminal is linked and then says nothing but that it acknowledges its registration
abbrev pub acknowledged_turns : List Turn → ℕ → List Turn → List Turn → List Turn
acknowledged_turns run pt first second = run ++ Linked pt ∷ (first ++ HeardPt pt ack_bytes ∷ second)

-- the first of these turns acknowledges what the terminal has said, and the second, where that was sent, enquires it of its last transaction, by its settings
pub record IsEnquired (settings : Pt) (pt : ℕ) (turn next : Turn) : Type 0 where
  pub acknowledged : IsSentTo pt ack_bytes turn
  pub enquired : turn ≡ SentPt pt ack_bytes true → IsSentTo pt (canonical_command (enquiry_command settings)) next

-- in a lawful log, after a terminal that has acknowledged its registration says that it is done, the next two turns acknowledge that and enquire the terminal, unless the run ends there or the acknowledgement can't be sent
abbrev pub EnquiryFollowsRegistration : Type 0
EnquiryFollowsRegistration =
    (before run first second rest : List Turn) (setup : Setup) (settings : Pt) (pt : ℕ) (turn next : Turn) → IsLawful (before ++ Start setup ∷ (acknowledged_turns run pt first second ++ HeardPt pt completion_bytes ∷ turn ∷ next ∷ rest)) → IsQuiet run
    → IsSilentIn pt first → IsSilentIn pt second → slice_get setup.terminals pt ≡ Some settings → is_between turn ≡ false → is_between next ≡ false → IsEnquired settings pt turn next

-- in a lawful log, a terminal that has acknowledged its registration, and of which nothing was heard since, is cut before the next poll once a poll brings nothing of it and comes as many seconds later as its settings give it from one message to the next
abbrev pub UnfinishedRegistrationIsCut : Type 0
UnfinishedRegistrationIsCut =
    (before run first second inside rest : List Turn) (setup : Setup) (settings : Pt) (pt : ℕ) (now later : ℤ) → IsLawful (before ++ Start setup ∷ (acknowledged_turns run pt first second ++ Polled now ∷ (inside ++ Polled later ∷ rest))) → IsQuiet run
    → IsSilentIn pt first → IsSilentIn pt second → AreOfRound inside → BringNothing pt inside → slice_get setup.terminals pt ≡ Some settings
    → (outside_of (before ++ Start setup ∷ (run ++ Linked pt ∷ first))).moment + settings.command ≤ moment_of now → IsPtCutIn pt inside

-- the turns of a run in which it has then said that it is done, and was enquired
abbrev pub enquired_turns : List Turn → Pt → ℕ → List Turn → List Turn → List Turn → List Turn
enquired_turns run settings pt first second third =
    acknowledged_turns run pt first second ++ HeardPt pt completion_bytes ∷ SentPt pt ack_bytes true ∷ SentPt pt (canonical_command (enquiry_command settings)) true ∷ third

-- in a lawful log, a terminal of which nothing was heard since it was enquired is cut before the next poll once a poll brings nothing of it and comes as many seconds later as its settings give it to acknowledge a command
abbrev pub SilentEnquiryIsCut : Type 0
SilentEnquiryIsCut =
    (before run first second third inside rest : List Turn) (setup : Setup) (settings : Pt) (pt : ℕ) (now later : ℤ) → IsLawful (before ++ Start setup ∷ (enquired_turns run settings pt first second third ++ Polled now ∷ (inside ++ Polled later ∷ rest)))
    → IsQuiet run → IsSilentIn pt first → IsSilentIn pt second → IsSilentIn pt third → AreOfRound inside → BringNothing pt inside → slice_get setup.terminals pt ≡ Some settings
    → (outside_of (before ++ Start setup ∷ acknowledged_turns run pt first second)).moment + settings.answer ≤ moment_of now → IsPtCutIn pt inside
