-- What holds of played terminals depends on the items to come only by the APDUs that they handle; and what a row leaves that brings no end holds along the course.
use Rattle.std.proofs.Common.{◌≡◌, ℕ, Bool, true, false, List, [], ◌∷◌, ◌++◌, refl, sym, subst}
use Rattle.std.proofs.lemmas.Bool.{or_parts}
use Rattle.std.specs.Prelude.{◌⊎◌, slice_get, Option, Some, None}
use Rattle.std.specs.List.{list_any}
use Rattle.gw_base.specs.declared.setup.Pt.{Pt}
use Rattle.gw_site.specs.Outside.{Outside, is_connected, heard_on}
use Rattle.zvt_apdu.specs.DecodeStream.{decode_apdus}
use Rattle.zvt_apdu.specs.Grammar.{ApduValue}
use Rattle.zvt_msg.specs.declared.command.Command.{Command}
use Rattle.zvt_msg.specs.Message.{MessageValue}
use Rattle.zvt_talk.specs.declared.dialogue_kind.DialogueKind.{DialogueKind}
use Rattle.zvt_talk.specs.declared.dialogue_kind.DialogueKind.TheVariants.{EndOfDay as EndOfDayDialogue, Display as DisplayDialogue}
use Rattle.zvt_talk.specs.Talk.{TalkFacts}
use Rattle.pt_core.specs.Exchange.{heard_on_link}
use Rattle.pt_core.specs.History.{Setting}
use Rattle.gw_owes.specs.declared.terminal.Service.TheVariants.{Transaction, EndOfDay, Display}
use Rattle.gw_owes.specs.declared.terminal.Standing.{Standing}
use Rattle.gw_owes.specs.declared.terminal.Standing.TheVariants.{Unlinked, Registering, Enquiring, Ready, Serving, Aside}
use Rattle.gw_owes.specs.declared.terminal.Terminal.{Terminal}
use Rattle.gw_owes.specs.Calls.{OwedCall}
use Rattle.gw_owes.specs.Core.{Core}
use Rattle.gw_owes.specs.Deadlines.{is_due_by}
use Rattle.gw_owes.specs.Items.{RoundItem}
use Rattle.gw_owes.specs.Links.{is_linked}
use Rattle.gw_owes.specs.Row.{Row}
use Rattle.gw_rules.specs.Scene.{Scene}
use Rattle.gw_rules.specs.TranscriptLaws.{cut_owed}
use Rattle.gw_books.specs.Past.{SentCommand, Past}
use Rattle.gw_books.proofs.Holding.{charge_owed, is_handle}
use Rattle.gw_played.specs.Played.{PlacedExchange, exchanges_in}
use Rattle.gw_played.proofs.Playing.{pending, AreMessages, IsLeft, IsQuiet, IsTalking, IsTransacting, IsServing, IsPeerIn, IsPeer, WasLinked, ask_owed, link_owed, brings_charge, ChargeNone}

-- ---- items that handle the same of a terminal

module _ (setting : Setting) (exchanges : List PlacedExchange) (number : ℕ) (items others : List RoundItem) (same : pending number items ≡ pending number others) where
  pub left-same : (left : List MessageValue) → IsLeft setting exchanges number items left → IsLeft setting exchanges number others left
  left-same left l = record {
    unheard = l.unheard;
    stream = l.stream;
    are = subst (λ (apdus : List ApduValue). AreMessages (apdus ++ (decode_apdus ((decode_apdus (heard_on_link (exchanges_in exchanges))).rest ++ l.unheard)).apdus) left) same l.are;
  }

  pub quiet-same : IsQuiet setting exchanges number items → IsQuiet setting exchanges number others
  quiet-same q = record { none_left = left-same [] q.none_left; uncut = q.uncut; waits = q.waits }

  pub talking-same : (talk : Option TalkFacts) (command : Command) → IsTalking setting exchanges number items talk command → IsTalking setting exchanges number others talk command
  talking-same talk command t = record {
    apdu = t.apdu;
    before = t.before;
    spells = t.spells;
    book_is = t.book_is;
    dialogue = t.dialogue;
    begins = t.begins;
    came = t.came;
    talk_is = t.talk_is;
    goes_on = t.goes_on;
    left = t.left;
    is_left = left-same t.left t.is_left;
    whole = t.whole;
    uncut = t.uncut;
    waits = t.waits;
  }

  pub transacting-same : (poi : List ℕ) (sent : List SentCommand) (talk : Option TalkFacts) → IsTransacting setting poi exchanges number items sent talk → IsTransacting setting poi exchanges number others sent talk
  unfolding talking-same
  transacting-same poi sent talk p = record { command = p.command; charging = p.charging; talking = talking-same talk p.command p.talking; last = p.last }

  pub serving-same : (talk : Option TalkFacts) (dialogue_kind : DialogueKind) → IsServing setting exchanges number items talk dialogue_kind → IsServing setting exchanges number others talk dialogue_kind
  unfolding talking-same
  serving-same talk dialogue_kind s = record { command = s.command; kind_is = s.kind_is; talking = talking-same talk s.command s.talking }

  -- so a terminal's dialogue is as far
  pub peer-in-same : (poi : List ℕ) (sent : List SentCommand) (talk : Option TalkFacts) (standing : Standing) → IsPeerIn setting poi exchanges number items sent talk standing → IsPeerIn setting poi exchanges number others sent talk standing
  peer-in-same poi sent talk (Unlinked due) is = tt
  peer-in-same poi sent talk Registering is = (is.0, is.1, is.2, talking-same talk _ is.3)
  peer-in-same poi sent talk Enquiring is = (is.0, talking-same talk _ is.1)
  peer-in-same poi sent talk (Ready last) is = quiet-same is
  peer-in-same poi sent talk (Serving (Transaction slot) last) is = transacting-same poi sent talk is
  peer-in-same poi sent talk (Serving (EndOfDay header period) last) is = serving-same talk EndOfDayDialogue is
  peer-in-same poi sent talk (Serving (Display header results) last) is = serving-same talk DisplayDialogue is
  peer-in-same poi sent talk (Aside before reported) is = quiet-same is

-- ---- items that lead to no command that charges

-- so do those after the first
pub later-charge-none : (item : RoundItem) (rest : List RoundItem) → ChargeNone (item ∷ rest) → ChargeNone rest
later-charge-none item rest none = (none.0, (or_parts (brings_charge none.0 item) (list_any (brings_charge none.0) rest) none.1).1)

-- ---- what a row leaves

-- what holds of one terminal, with these items to come and these calls owed
pub record TerminalPlays (settings : List ℕ → Setting) (exchanges : List ℕ → List PlacedExchange) (outside : Outside) (past : Past) (items : List RoundItem) (calls : List OwedCall) (number : ℕ) (terminal : Terminal) : Type 0 where
  pub peer : is_linked terminal.standing ≡ true → cut_owed number calls ≡ false → IsPeer (ask_owed number calls) (settings terminal.pt.poi) (exchanges terminal.pt.poi) number items past.commands calls terminal
  pub unlinked : (due : Option ℕ) → terminal.standing ≡ Unlinked due → (terminal.talk ≡ None) × ((pending number items ≡ []) ⊎ (is_due_by outside.moment due ≡ false))
  pub heard : is_connected outside.links number ≡ true → heard_on_link (exchanges_in (exchanges terminal.pt.poi)) ≡ heard_on outside.links number
  pub made : is_linked terminal.standing ≡ true → WasLinked past.links terminal.pt.poi

-- what a row leaves that brings no end, before the rest of the items
pub record RowPlays (settings : List ℕ → Setting) (exchanges : List ℕ → List PlacedExchange) (outside : Outside) (past : Past) (rest : List RoundItem) (row : Row) : Type 0 where
  pub each : (number : ℕ) (terminal : Terminal) → slice_get row.core.terminals number ≡ Some terminal → TerminalPlays settings exchanges outside past (row.items ++ rest) row.calls number terminal
  pub linking : (number : ℕ) → link_owed number row.calls ≡ true → pending number (row.items ++ rest) ≡ []
  -- it brings nothing that a terminal has said
  pub handles : list_any is_handle (row.items ++ rest) ≡ true → list_any is_handle rest ≡ true
  pub uncharged : list_any is_handle (row.items ++ rest) ≡ true → (number : ℕ) → charge_owed number row.calls ≡ false
  pub served : list_any is_handle (row.items ++ rest) ≡ true → ChargeNone (row.items ++ rest)

-- what an item begins with that handles nothing which a terminal has said
pub record PlaysBetween (settings : List ℕ → Setting) (exchanges : List ℕ → List PlacedExchange) (scene : Scene) (past : Past) (item : RoundItem) (rest : List RoundItem) : Type 0 where
  pub each : (number : ℕ) (terminal : Terminal) → slice_get scene.core.terminals number ≡ Some terminal → TerminalPlays settings exchanges scene.outside past rest [] number terminal
  pub served : list_any is_handle rest ≡ true → ChargeNone (item ∷ rest)

-- ---- one terminal

-- the terminal was there before, as it is but for its asker
pub record WasSo (before : Core) (number : ℕ) (terminal : Terminal) : Type 0 where
  pub old : Terminal
  pub found : slice_get before.terminals number ≡ Some old
  pub pt_is : old.pt ≡ terminal.pt
  pub standing_is : old.standing ≡ terminal.standing
  pub talk_is : old.talk ≡ terminal.talk

module _ (settings : List ℕ → Setting) (exchanges : List ℕ → List PlacedExchange) (outside : Outside) (past : Past) (items others : List RoundItem) (calls : List OwedCall) (number : ℕ) where
  -- what holds of a terminal goes by its settings, its standing and its talk
  abbrev Holds : Pt → Standing → Option TalkFacts → Type 0
  Holds pt standing talk =
      (is_linked standing ≡ true → IsPeerIn (settings pt.poi) pt.poi (exchanges pt.poi) number items past.commands talk standing)
      × ((due : Option ℕ) → standing ≡ Unlinked due → (talk ≡ None) × ((pending number items ≡ []) ⊎ (is_due_by outside.moment due ≡ false)))
      × (is_connected outside.links number ≡ true → heard_on_link (exchanges_in (exchanges pt.poi)) ≡ heard_on outside.links number)
      × (is_linked standing ≡ true → WasLinked past.links pt.poi)

  holds-of : (terminal : Terminal) → TerminalPlays settings exchanges outside past items [] number terminal → Holds terminal.pt terminal.standing terminal.talk
  holds-of terminal t = (λ linked. t.peer linked refl, t.unlinked, t.heard, t.made)

  holds-as : (old terminal : Terminal) → old.pt ≡ terminal.pt → old.standing ≡ terminal.standing → old.talk ≡ terminal.talk → Holds old.pt old.standing old.talk → Holds terminal.pt terminal.standing terminal.talk
  holds-as old terminal pt_is standing_is talk_is h =
      subst (λ (pt : Pt). Holds pt terminal.standing terminal.talk) pt_is (subst (λ (standing : Standing). Holds old.pt standing terminal.talk) standing_is (subst (λ (talk : Option TalkFacts). Holds old.pt old.standing talk) talk_is h))

  -- a terminal that is asked for nothing stays as far as it was
  pub terminal-stays : (old terminal : Terminal) → old.pt ≡ terminal.pt → old.standing ≡ terminal.standing → old.talk ≡ terminal.talk → pending number items ≡ pending number others → ask_owed number calls ≡ false
      → TerminalPlays settings exchanges outside past items [] number old → TerminalPlays settings exchanges outside past others calls number terminal
  terminal-stays old terminal pt_is standing_is talk_is same none t = record {
    peer = λ linked uncut.
        subst (λ (asked : Bool). IsPeer asked (settings terminal.pt.poi) (exchanges terminal.pt.poi) number others past.commands calls terminal) (sym none)
        (peer-in-same (settings terminal.pt.poi) (exchanges terminal.pt.poi) number items others same terminal.pt.poi past.commands terminal.talk terminal.standing (h.0 linked));
    unlinked = λ due is. (let u = h.1 due is in (u.0, subst (λ (apdus : List ApduValue). (apdus ≡ []) ⊎ (is_due_by outside.moment due ≡ false)) same u.1));
    heard = h.2;
    made = h.3;
  }
    where
      h : Holds terminal.pt terminal.standing terminal.talk
      h = holds-as old terminal pt_is standing_is talk_is (holds-of old t)
