-- What a request of a till leaves where it begins at a terminal: the terminal is about to be asked, or is as far as it was, with a stop that is wished or not.
use Rattle.std.proofs.Common.{◌≡◌, ◌≢◌, ◌≤◌, ◌∙◌, ℕ, Bool, true, false, List, [], ◌∷◌, length, refl, sym, ap, subst, arith, inl, inr, eqb-true}
use Rattle.std.proofs.lemmas.List.{length-map, length-take}
use Rattle.std.specs.Prelude.{◌||◌, ◌==◌, ◌&&◌, pos, is_some, map, take, Option, Some, None, option_map}
use Rattle.std.specs.List.{list_any}
use Rattle.std.specs.Str.{chars}
use Rattle.arrayvec.specs.ArrayVec.{ArrayVec}
use Rattle.gw_base.specs.Setup.{IsPt}
use Rattle.gw_base.specs.Text437.{byte_of}
use Rattle.gw_base.specs.declared.setup.Pt.{Pt}
use Rattle.gw_base.specs.declared.setup.Setup.{Setup}
use Rattle.gw_site.specs.Outside.{heard_on, is_connected}
use Rattle.sale_values.specs.declared.header.Header.{Header}
use Rattle.sale_values.specs.declared.request.Output.{Output}
use Rattle.sale_values.specs.declared.request.SaleRequest.{SaleRequest}
use Rattle.zvt_msg.specs.CommandGrammar.{AreShortLines, HasCommandDigits, HasCommandSizes}
use Rattle.zvt_msg.specs.declared.command.Command.{Command}
use Rattle.zvt_msg.specs.declared.command.Command.TheVariants as commands
use Rattle.zvt_talk.specs.declared.dialogue_kind.DialogueKind.{DialogueKind}
use Rattle.zvt_talk.specs.declared.dialogue_kind.DialogueKind.TheVariants.{Payment, Reversal, EndOfDay as EndOfDayDialogue, Display as DisplayDialogue}
use Rattle.zvt_talk.specs.Dialogue.{Dialogue, dialogue_kind_of}
use Rattle.zvt_talk.specs.Talk.{TalkFacts, talk_after}
use Rattle.zvt_talk.specs.TalkSteps.{talk_after_stop_wished}
use Rattle.jrn_record.specs.declared.records.Deal.{Deal}
use Rattle.jrn_record.specs.declared.records.Deal.TheVariants as deals
use Rattle.jrn_record.specs.declared.records.How.TheVariants as hows
use Rattle.jrn_record.specs.declared.records.Record.{Record}
use Rattle.xlate.specs.Ask.{ask, ask_for}
use Rattle.xlate.specs.Display.{customer_output, display_line, display_lines, show, show_lines}
use Rattle.pt_core.specs.Exchange.{heard_on_link}
use Rattle.pt_core.specs.History.{Setting}
use Rattle.gw_ledger.proofs.TieLemmas.{eqb_same}
use Rattle.jrn_record.specs.declared.records.Settled.{Settled as TheSettled}
use Rattle.gw_ledger.specs.declared.entry.Entry.{Entry as TheEntry}
use Rattle.jrn_record.specs.declared.records.Intent.{Intent as TheIntent}
use Rattle.gw_owes.specs.declared.terminal.Service.{Service}
use Rattle.gw_owes.specs.declared.terminal.Service.TheVariants.{Transaction, EndOfDay, Display}
use Rattle.gw_owes.specs.declared.terminal.Standing.{Standing}
use Rattle.gw_owes.specs.declared.terminal.Standing.TheVariants.{Ready, Serving}
use Rattle.gw_owes.specs.declared.terminal.Terminal.{Terminal}
use Rattle.gw_owes.specs.AbortLaws.{IsStoppable}
use Rattle.gw_owes.specs.Awaited.{one_more_awaited}
use Rattle.gw_owes.specs.Calls.{Ask, OwedCall, SendTill, SendPt}
use Rattle.gw_owes.specs.Displays.{asked_to_show}
use Rattle.gw_owes.specs.Items.{RoundItem, Serve}
use Rattle.gw_owes.specs.Links.{is_linked}
use Rattle.gw_owes.specs.Payments.{Asking, asked_for, beginning_row}
use Rattle.gw_owes.specs.Reconciliations.{asked_for_day, day_command, reply_to_settled, settle_calls, settled_of}
use Rattle.gw_owes.specs.RecordLaws.{IsInOrder}
use Rattle.gw_owes.specs.Row.{Row}
use Rattle.gw_owes.specs.Sessions.{pairs_after}
use Rattle.gw_owes.specs.SessionRows.{success_reply}
use Rattle.gw_owes.specs.Stops.{wishing}
use Rattle.gw_owes.specs.Terminals.{talk_of_command, terminal_at, terminal_becomes, reply_calls_to}
use Rattle.gw_owes.proofs.BeginLemmas.{IsAskedAnew, begins-anew}
use Rattle.gw_owes.proofs.PaymentLemmas.{StopsAt, ShowsAt, each-served}
use Rattle.gw_owes.proofs.SetLemmas.{same-some}
use Rattle.gw_rules.specs.Scene.{Scene, known_in}
use Rattle.gw_rules.proofs.StageLemmas.{no-true}
use Rattle.gw_books.specs.Past.{Past}
use Rattle.gw_books.proofs.FrameRowLemmas.{each-in-place}
use Rattle.gw_books.proofs.Holding.{charges, is_handle}
use Rattle.gw_books.proofs.ListLemmas.{In}
use Rattle.gw_played.specs.Played.{PlacedExchange, exchanges_in}
use Rattle.gw_played.proofs.HandlePlaysLemmas.{pt-within}
use Rattle.gw_played.proofs.ItemPlaysLemmas.{IsPlain, none-plain, replies-plain, replies-link-none, same-so, so-plays, still-plays, quiet-plays, nothing-plays, item-plays}
use Rattle.gw_played.proofs.PeerFrameLemmas.{TerminalPlays, RowPlays, PlaysBetween}
use Rattle.gw_played.proofs.Playing.{IsQuiet, IsPeerIn, IsToBeAsked, IsPeer, BeginsStanding, WasLinked, begins_dialogue, ask_owed, link_owed, ChargeNone, PeerLaws, PlaysItem}
use Rattle.gw_played.proofs.TakenMessageLemmas.{wished-serving, wished-transacting}

-- ---- what shows outputs can be written

-- a line has at most 40 characters
short-line : (text : List ℕ) → length (display_line text) ≤ 40
short-line text =
    let whole = length-map (take 40 (chars text)) byte_of in
    let least = length-take 40 (chars text) in
    omega (arith, whole, least)

abbrev line_of : List ℕ → ArrayVec ℕ
line_of line = record { items = line }

short-lines : (texts : List (List ℕ)) → AreShortLines (map line_of (map display_line texts))
short-lines [] = tt
short-lines (text ∷ texts) = (short-line text, short-lines texts)

-- and there are at most eight
few-lines : (texts : List (List ℕ)) → length (map line_of (map display_line (take 8 texts))) ≤ 8
few-lines texts =
    let first = length-map (map display_line (take 8 texts)) line_of in
    let second = length-map (take 8 texts) display_line in
    let least = length-take 8 texts in
    omega (arith, first, second, least)

lines-sized : (texts : Option (List (List ℕ))) → HasCommandSizes (show_lines (display_lines texts))
lines-sized None = (omega arith, tt)
lines-sized (Some texts) = (few-lines texts, short-lines (take 8 texts))

-- a command that begins a display, and can be written
record CanBeShown (command : Command) : Type 0 where
  digits : HasCommandDigits command
  sizes : HasCommandSizes command
  kind_is : dialogue_kind_of command ≡ Some DisplayDialogue

can-be-shown : (outputs : List Output) (command : Command) → show outputs ≡ Some command → CanBeShown command
can-be-shown outputs command is = of-output (customer_output outputs) is
  where
    of-output : (found : Option Output) → option_map (λ (output : Output). show_lines (display_lines output.texts)) found ≡ Some command → CanBeShown command
    of-output None is = absurd cc
    of-output (Some output) is = subst CanBeShown (same-some (show_lines (display_lines output.texts)) command is) (record { digits = tt; sizes = lines-sized output.texts; kind_is = refl })

-- ---- what is asked

-- a command that may charge a card begins a dialogue, and can be written
record CanBeAsked (pt : Pt) (asked : Command) (moment : ℕ) : Type 0 where
  charging : charges asked ≡ true
  sizes : HasCommandSizes asked
  dialogue : Dialogue
  begins : dialogue_kind_of asked ≡ Some dialogue.dialogue_kind
  talk_is : talk_of_command pt asked moment ≡ Some (talk_after dialogue [])

-- so is what asks for an Intent
can-be-asked : (what : Deal) (intent : TheIntent) (original : Option TheEntry) (pt : Pt) (moment : ℕ) → IsPt pt → CanBeAsked pt (ask_for what intent original pt.password) moment
can-be-asked deals.Payment intent original pt moment within = record {
  charging = refl;
  sizes = tt;
  dialogue = record { dialogue_kind = Payment; none = pt.none; acknowledge_time = pt.answer; command_time = pt.command; sent = pos moment };
  begins = refl;
  talk_is = refl;
}
can-be-asked deals.Reversal intent original pt moment within = record {
  charging = refl;
  sizes = within.password.0;
  dialogue = record { dialogue_kind = Reversal; none = pt.none; acknowledge_time = pt.answer; command_time = pt.command; sent = pos moment };
  begins = refl;
  talk_is = refl;
}

-- such a command alone asks the terminal of this number
ask-alone : (begins test : Bool) → begins ≡ true → ((test && begins) || false) ≡ test
ask-alone true true is = refl
ask-alone true false is = refl
ask-alone false test is = no-true is

-- the dialogue of this kind that a command begins at this moment
abbrev dialogue-begun : Pt → DialogueKind → ℕ → Dialogue
dialogue-begun pt kind moment = record { dialogue_kind = kind; none = pt.none; acknowledge_time = pt.answer; command_time = pt.command; sent = pos moment }

talk-begun : (pt : Pt) (command : Command) (kind : DialogueKind) (moment : ℕ) → dialogue_kind_of command ≡ Some kind → talk_of_command pt command moment ≡ Some (talk_after (dialogue-begun pt kind moment) [])
talk-begun pt command kind moment is = ap (λ (found : Option DialogueKind). option_map (λ (dialogue : Dialogue). talk_after dialogue []) (option_map (λ (one : DialogueKind). dialogue-begun pt one moment) found)) is

module _ (laws : PeerLaws) (settings : List ℕ → Setting) (exchanges : List ℕ → List PlacedExchange) (scene : Scene) (setup : Setup) (past : Past) (item : RoundItem) (rest : List RoundItem) (pt till : ℕ) (header : Header) (request : SaleRequest)
    (between : PlaysBetween settings exchanges scene past item rest) (order : IsInOrder (known_in scene setup)) (alone : list_any is_handle rest ≡ false) where
  -- a command is about to be asked, so that no later item handles what a terminal has said
  handles-none : {A : Type 0} → list_any is_handle rest ≡ true → A
  handles-none handles = no-true (sym alone ∙ handles)

  -- ---- a command is asked

  -- a terminal that was ready is about to be asked, and no other is
  record BeginsAsking (terminal new : Terminal) (calls : List OwedCall) : Type 0 where
    found : terminal_at (known_in scene setup) pt ≡ Some terminal
    last : ℕ
    standing_is : terminal.standing ≡ Ready last
    same : terminal.pt ≡ new.pt
    linked : is_linked new.standing ≡ true
    command : Command
    owed : In (SendPt pt (Ask command)) calls
    digits : HasCommandDigits command
    sizes : HasCommandSizes command
    of_standing : BeginsStanding new.standing command
    dialogue : Dialogue
    begins : dialogue_kind_of command ≡ Some dialogue.dialogue_kind
    talk_is : new.talk ≡ Some (talk_after dialogue [])
    asks : (number : ℕ) → ask_owed number calls ≡ (pt == number)
    links_none : (number : ℕ) → link_owed number calls ≡ false

  module _ (terminal new : Terminal) (calls : List OwedCall) (b : BeginsAsking terminal new calls) where
    -- it was quiet
    was-quiet : IsQuiet (settings terminal.pt.poi) (exchanges terminal.pt.poi) pt rest
    was-quiet =
        subst (IsPeerIn (settings terminal.pt.poi) terminal.pt.poi (exchanges terminal.pt.poi) pt rest past.commands terminal.talk) b.standing_is
        ((between.each pt terminal b.found).peer (ap is_linked b.standing_is) refl)

    to-be-asked : IsToBeAsked (settings new.pt.poi) (exchanges new.pt.poi) pt rest calls new
    to-be-asked = record {
      quiet = subst (λ (of : Pt). IsQuiet (settings of.poi) (exchanges of.poi) pt rest) b.same was-quiet;
      command = b.command;
      owed = b.owed;
      digits = b.digits;
      sizes = b.sizes;
      of_standing = b.of_standing;
      dialogue = b.dialogue;
      begins = b.begins;
      talk_is = b.talk_is;
    }

    -- its command is owed, and no other terminal's
    asked-here : ask_owed pt calls ≡ true
    asked-here = b.asks pt ∙ eqb_same pt

    asked-elsewhere : (number : ℕ) → number ≢ pt → ask_owed number calls ≡ false
    asked-elsewhere number apart = b.asks number ∙ by (pt == number) refl
      where
        by : (test : Bool) → (pt == number) ≡ test → test ≡ false
        by true e = absurd (apart (sym (eqb-true pt number e)))
        by false e = refl

    asking-plays : RowPlays settings exchanges scene.outside past rest (terminal_becomes (known_in scene setup) pt new calls)
    asking-plays = record {
      each = each-in-place (λ number one. TerminalPlays settings exchanges scene.outside past rest calls number one) scene.core pt new
          (λ number one apart there. so-plays settings exchanges scene past item rest between rest calls number one (same-so scene.core number one there) refl (asked-elsewhere number apart))
          (record {
            peer = λ linked uncut. subst (λ (asked : Bool). IsPeer asked (settings new.pt.poi) (exchanges new.pt.poi) pt rest past.commands calls new) (sym asked-here) to-be-asked;
            unlinked = λ due is. no-true (sym (ap is_linked is) ∙ b.linked);
            heard = subst (λ (of : Pt). is_connected scene.outside.links pt ≡ true → heard_on_link (exchanges_in (exchanges of.poi)) ≡ heard_on scene.outside.links pt) b.same (between.each pt terminal b.found).heard;
            made = λ linked. subst (λ (of : Pt). WasLinked past.links of.poi) b.same ((between.each pt terminal b.found).made (ap is_linked b.standing_is));
          });
      linking = λ number links. no-true (sym (b.links_none number) ∙ links);
      handles = λ handles. handles;
      uncharged = λ handles. handles-none handles;
      served = λ handles. handles-none handles;
    }

  -- a payment or a reversal begins
  pub begins-plays : (terminal : Terminal) (last : ℕ) (asking : Asking) → terminal_at (known_in scene setup) pt ≡ Some terminal → terminal.standing ≡ Ready last → IsAskedAnew (known_in scene setup) header terminal last asking
      → RowPlays settings exchanges scene.outside past rest (beginning_row (known_in scene setup) pt till terminal last asking.intent asking.original)
  begins-plays terminal last asking found standing_is anew =
      let row : Row = beginning_row (known_in scene setup) pt till terminal last asking.intent asking.original in
      let within : IsPt terminal.pt = pt-within (known_in scene setup) pt terminal order found in
      let can : CanBeAsked terminal.pt (ask asking.intent asking.original terminal.pt) scene.outside.moment = can-be-asked asking.intent.what asking.intent asking.original terminal.pt scene.outside.moment within in
      asking-plays terminal (asked_for (known_in scene setup) till terminal last asking.intent asking.original) row.calls (record {
        found = found;
        last = last;
        standing_is = standing_is;
        same = refl;
        linked = refl;
        command = ask asking.intent asking.original terminal.pt;
        owed = inr (inr (inr (inr (inl refl))));
        digits = laws.asked asking.intent asking.original terminal.pt anew.within anew.original_within within.password.1;
        sizes = can.sizes;
        of_standing = can.charging;
        dialogue = can.dialogue;
        begins = can.begins;
        talk_is = can.talk_is;
        asks = λ number. ask-alone (begins_dialogue (ask asking.intent asking.original terminal.pt)) (pt == number) (ap is_some can.begins);
        links_none = λ number. refl;
      })

  -- an end of day begins
  pub day-plays : (terminal : Terminal) (last : ℕ) → terminal_at (known_in scene setup) pt ≡ Some terminal → terminal.standing ≡ Ready last
      → RowPlays settings exchanges scene.outside past rest (terminal_becomes (known_in scene setup) pt (asked_for_day (known_in scene setup) till terminal last header) (SendPt pt (Ask (day_command terminal.pt)) ∷ []))
  day-plays terminal last found standing_is =
      let within : IsPt terminal.pt = pt-within (known_in scene setup) pt terminal order found in
      asking-plays terminal (asked_for_day (known_in scene setup) till terminal last header) (SendPt pt (Ask (day_command terminal.pt)) ∷ []) (record {
        found = found;
        last = last;
        standing_is = standing_is;
        same = refl;
        linked = refl;
        command = day_command terminal.pt;
        owed = inl refl;
        digits = within.password.1;
        sizes = within.password.0;
        of_standing = refl;
        dialogue = dialogue-begun terminal.pt EndOfDayDialogue scene.outside.moment;
        begins = refl;
        talk_is = refl;
        asks = λ number. ask-alone true (pt == number) refl;
        links_none = λ number. refl;
      })

  -- a display begins
  shown-plays : (terminal : Terminal) (last : ℕ) (outputs : List Output) (command : Command) → ShowsAt (known_in scene setup) pt header request terminal last outputs command
      → RowPlays settings exchanges scene.outside past rest (terminal_becomes (known_in scene setup) pt (asked_to_show (known_in scene setup) till terminal last header outputs command) (SendPt pt (Ask command) ∷ []))
  shown-plays terminal last outputs command at =
      let can : CanBeShown command = can-be-shown outputs command at.shown_is in
      asking-plays terminal (asked_to_show (known_in scene setup) till terminal last header outputs command) (SendPt pt (Ask command) ∷ []) (record {
        found = at.found;
        last = last;
        standing_is = at.standing_is;
        same = refl;
        linked = refl;
        command = command;
        owed = inl refl;
        digits = can.digits;
        sizes = can.sizes;
        of_standing = can.kind_is;
        dialogue = dialogue-begun terminal.pt DisplayDialogue scene.outside.moment;
        begins = can.kind_is;
        talk_is = talk-begun terminal.pt command DisplayDialogue scene.outside.moment can.kind_is;
        asks = λ number. ask-alone (begins_dialogue command) (pt == number) (ap is_some can.kind_is);
        links_none = λ number. refl;
      })

  -- ---- a stop that is wished

  -- the terminal that is to stop what it serves is as far as it was, once that is wished, whatever is awaited of it
  module _ (terminal new : Terminal) (talk : TalkFacts) (at : StopsAt (known_in scene setup) pt header request terminal talk) (pt_is : terminal.pt ≡ new.pt) (standing_is : terminal.standing ≡ new.standing) (talk_is : Some (talk_after_stop_wished talk) ≡ new.talk)
      (calls : List OwedCall) (plain : IsPlain calls) (none : (number : ℕ) → link_owed number calls ≡ false) where
    abbrev Peer : Pt → Option TalkFacts → Standing → Type 0
    Peer of runs standing = IsPeerIn (settings of.poi) of.poi (exchanges of.poi) pt rest past.commands runs standing

    linked-is : is_linked terminal.standing ≡ true
    linked-is = ap is_linked at.standing_is

    wished : Peer terminal.pt (Some (talk_after_stop_wished talk)) terminal.standing
    wished =
        subst (Peer terminal.pt (Some (talk_after_stop_wished talk))) (sym at.standing_is)
        (of-service at.service at.stoppable
        (subst (λ (runs : Option TalkFacts). Peer terminal.pt runs (Serving at.service at.last)) at.talk_is
        (subst (Peer terminal.pt terminal.talk) at.standing_is ((between.each pt terminal at.found).peer linked-is refl))))
      where
        of-service : (service : Service) → IsStoppable service → Peer terminal.pt (Some talk) (Serving service at.last) → Peer terminal.pt (Some (talk_after_stop_wished talk)) (Serving service at.last)
        of-service (Transaction slot) stoppable peer = wished-transacting laws (settings terminal.pt.poi) (exchanges terminal.pt.poi) pt rest talk terminal.pt.poi past.commands peer
        of-service (EndOfDay day period) stoppable peer = wished-serving laws (settings terminal.pt.poi) (exchanges terminal.pt.poi) pt rest talk EndOfDayDialogue peer
        of-service (Display display results) stoppable peer = absurd stoppable

    peer-now : Peer new.pt new.talk new.standing
    peer-now =
        subst (λ (of : Pt). Peer of new.talk new.standing) pt_is
        (subst (λ (runs : Option TalkFacts). Peer terminal.pt runs new.standing) talk_is (subst (Peer terminal.pt (Some (talk_after_stop_wished talk))) standing_is wished))

    linked-now : is_linked new.standing ≡ true
    linked-now = ap is_linked (sym standing_is) ∙ linked-is

    wished-plays : RowPlays settings exchanges scene.outside past rest (terminal_becomes (known_in scene setup) pt new calls)
    wished-plays = record {
      each = each-in-place (λ number one. TerminalPlays settings exchanges scene.outside past rest calls number one) scene.core pt new
          (λ number one apart there. so-plays settings exchanges scene past item rest between rest calls number one (same-so scene.core number one there) refl (plain.asks_none number))
          (record {
            peer = λ linked uncut. subst (λ (asked : Bool). IsPeer asked (settings new.pt.poi) (exchanges new.pt.poi) pt rest past.commands calls new) (sym (plain.asks_none pt)) peer-now;
            unlinked = λ due is. no-true (sym (ap is_linked is) ∙ linked-now);
            heard = subst (λ (of : Pt). is_connected scene.outside.links pt ≡ true → heard_on_link (exchanges_in (exchanges of.poi)) ≡ heard_on scene.outside.links pt) pt_is (between.each pt terminal at.found).heard;
            made = λ linked. subst (λ (of : Pt). WasLinked past.links of.poi) pt_is ((between.each pt terminal at.found).made linked-is);
          });
      linking = λ number links. no-true (sym (none number) ∙ links);
      handles = λ handles. handles;
      uncharged = λ handles number. plain.charges_none number;
      served = λ handles. handles-none handles;
    }

-- a stop asks nothing, and charges nothing
stop-plain : (pt : ℕ) → IsPlain (SendPt pt (Ask commands.Stop) ∷ [])
stop-plain pt = record { asks_none = λ number. neither (pt == number); charges_none = λ number. neither (pt == number) }
  where
    neither : (b : Bool) → ((b && false) || false) ≡ false
    neither true = refl
    neither false = refl

-- what is settled asks nothing, and charges nothing
settled-plain : (kept : List Record) (asker : Option ℕ) (settled : TheSettled) → IsPlain (settle_calls kept asker settled)
settled-plain kept asker settled =
    let plain : IsPlain (reply_calls_to asker (reply_to_settled kept settled)) = replies-plain asker (reply_to_settled kept settled) in
    record { asks_none = plain.asks_none; charges_none = plain.charges_none }

-- where a till's request begins at a terminal, nothing that a terminal has said is still to be handled
serves-alone : (pt till : ℕ) (header : Header) (request : SaleRequest) (rest : List RoundItem) → (list_any is_handle rest ≡ true → ChargeNone (Serve pt till header request ∷ rest)) → list_any is_handle rest ≡ false
serves-alone pt till header request rest served = by_test (list_any is_handle rest) refl
  where
    by_test : (test : Bool) → list_any is_handle rest ≡ test → test ≡ false
    by_test true e = no-true (sym (served e).1)
    by_test false e = refl

pub serve-plays : (laws : PeerLaws) (pt till : ℕ) (header : Header) (request : SaleRequest) → PlaysItem (Serve pt till header request)
serve-plays laws pt till header request = item-plays (Serve pt till header request) refl (λ scene past. refl) (λ settings exchanges scene setup past rest between order read.
    each-served (λ (row : Row). RowPlays settings exchanges scene.outside past rest row) (known_in scene setup) pt till header request (record {
      none = nothing-plays settings exchanges scene past (Serve pt till header request) rest between;
      begins = λ terminal last asking at. begins-plays laws settings exchanges scene setup past (Serve pt till header request) rest pt till header request between order (serves-alone pt till header request rest between.served) terminal last asking at.found at.standing_is
          (begins-anew laws.ledger (known_in scene setup) order pt till header request terminal last asking read at);
      sent = λ terminal talk at may. wished-plays laws settings exchanges scene setup past (Serve pt till header request) rest pt till header request between order (serves-alone pt till header request rest between.served) terminal (record (wishing terminal talk) { awaited = one_more_awaited terminal.awaited }) talk at refl refl refl
          (SendPt pt (Ask commands.Stop) ∷ []) (stop-plain pt) (λ number. refl);
      wished = λ terminal talk at may. wished-plays laws settings exchanges scene setup past (Serve pt till header request) rest pt till header request between order (serves-alone pt till header request rest between.served) terminal (wishing terminal talk) talk at refl refl refl [] none-plain (λ number. refl);
      session = λ session. still-plays settings exchanges scene past (Serve pt till header request) rest between (record scene.core { logged_out = pairs_after scene.core header request }) (SendTill till (success_reply header) ∷ [])
          (same-so scene.core) (replies-plain (Some till) (Some (success_reply header))) (λ number links. no-true links);
      settles = λ terminal at.
          let settled : TheSettled = settled_of hows.Sale header terminal.pt.currency scene.outside.moment in
          quiet-plays settings exchanges scene past (Serve pt till header request) rest between (settle_calls scene.kept (Some till) settled) (settled-plain scene.kept (Some till) settled)
          (λ number. replies-link-none (Some till) (reply_to_settled scene.kept settled) number);
      day = λ terminal last at. day-plays laws settings exchanges scene setup past (Serve pt till header request) rest pt till header request between order (serves-alone pt till header request rest between.served) terminal last at.found at.standing_is;
      displays = λ terminal last outputs command at. shown-plays laws settings exchanges scene setup past (Serve pt till header request) rest pt till header request between order (serves-alone pt till header request rest between.served) terminal last outputs command at;
    }))
