-- What a request leaves that a terminal serves: the beginning of a payment or a reversal, a stop, or a Login or a Logout that succeeds.
use Rattle.std.proofs.Common.{◌≡◌, ◌∙◌, ◌+◌, ℕ, eqb, Bool, true, false, ◌<◌, List, [], ◌∷◌, ◌++◌, length, Option, None, Some, refl, sym, ap, subst, arith, inl, inr, append-nil}
use Rattle.std.specs.Prelude.{◌&&◌, ◌||◌, codes, IfSome, option_and_then, option_map}
use Rattle.std.proofs.lemmas.List.{length-append}
use Rattle.std.proofs.lemmas.Option.{same_Some}
use Rattle.gw_base.specs.declared.condition.Condition.TheVariants.{UnavailableDevice}
use Rattle.gw_base.specs.declared.key.Key.{Key}
use Rattle.sale_values.specs.declared.header.Header.{Header}
use Rattle.sale_values.specs.declared.names.Period.{Period}
use Rattle.sale_values.specs.declared.names.Period.TheVariants.{AcquirerReconciliation, SaleReconciliation}
use Rattle.sale_values.specs.declared.request.Output.{Output}
use Rattle.sale_values.specs.declared.request.SaleRequest.{SaleRequest}
use Rattle.sale_values.specs.declared.request.SaleRequest.TheVariants as requests
use Rattle.sale_msg.specs.declared.table.Envelope.TheVariants as envelopes
use Rattle.zvt_msg.specs.declared.command.Command.{Command}
use Rattle.zvt_msg.specs.declared.command.Command.TheVariants as commands
use Rattle.jrn_record.specs.Limits.{IsSettled}
use Rattle.jrn_record.specs.declared.records.Deal.{Deal}
use Rattle.jrn_record.specs.declared.records.Deal.TheVariants as deals
use Rattle.jrn_record.specs.declared.records.Intent.{Intent as TheIntent}
use Rattle.jrn_record.specs.declared.records.Record.{Record}
use Rattle.jrn_record.specs.declared.records.How.TheVariants as hows
use Rattle.jrn_record.specs.declared.records.Record.TheVariants.{Intent, Settled}
use Rattle.jrn_record.specs.declared.records.Settled.{Settled as TheSettled}
use Rattle.gw_ledger.specs.declared.entry.Entry.{Entry as TheEntry}
use Rattle.gw_ledger.specs.Fold.{found_of}
use Rattle.gw_ledger.specs.Keys.{intent_key}
use Rattle.gw_ledger.specs.Slots.{as_intent}
use Rattle.gw_ledger.proofs.TieLemmas.{eqb_same}
use Rattle.xlate.specs.Ask.{ask_for}
use Rattle.xlate.specs.Display.{customer_output, display_lines, show, show_lines}
use Rattle.gw_owes.specs.declared.terminal.Terminal.{Terminal}
use Rattle.gw_owes.specs.Awaited.{one_more_awaited}
use Rattle.gw_owes.specs.Calls.{Ask, SendPt}
use Rattle.gw_owes.specs.Core.{Core}
use Rattle.gw_owes.specs.Displays.{asked_to_show}
use Rattle.gw_owes.specs.Items.{Serve}
use Rattle.gw_owes.specs.Payments.{Asking, asked_for, beginning_row}
use Rattle.gw_owes.specs.ReadAs.{Request}
use Rattle.gw_owes.specs.Reconciliations.{asked_for_day, day_command, reply_to_settled, settled_of}
use Rattle.gw_owes.specs.RecordLaws.{AreResultsWithinLimits, IsReadFromTill, IsReadItem, IsReadRequest, KeepsInOrder}
use Rattle.gw_owes.specs.Replies.{refused_results}
use Rattle.gw_owes.specs.Reply.{ReplyValue}
use Rattle.gw_owes.specs.Row.{Known, Row}
use Rattle.gw_owes.specs.Serving.{staying, stops}
use Rattle.gw_owes.specs.SessionRows.{success_reply}
use Rattle.gw_owes.specs.Stops.{wishing}
use Rattle.gw_owes.specs.Terminals.{terminal_at, terminal_becomes, with_terminal}
use Rattle.gw_owes.proofs.BeginLemmas.{IsAskedAnew, begins-anew, refused-within, serve-keeps}
use Rattle.gw_owes.proofs.KeepingLemmas.{RowKeeps}
use Rattle.gw_owes.proofs.LimitLemmas.{reconciliation-within, settled-within}
use Rattle.gw_owes.proofs.PaymentLemmas.{SettlesAt, each-served, settled_row}
use Rattle.gw_owes.proofs.ReadLimitLemmas.{header-read}
use Rattle.gw_owes.proofs.RecordLemmas.{LedgerLaws, last-there}
use Rattle.gw_owes.proofs.SetLemmas.{new-is-there}
use Rattle.gw_books.specs.Agrees.{is_accepted}
use Rattle.gw_books.specs.Books.{BookedEntry}
use Rattle.gw_books.specs.Past.{OfRequest, MadeLink, Past, SentCommand, waiting_keys}
use Rattle.gw_books.proofs.FrameRowLemmas.{link-stays, serving-frame, repliable-stay}
use Rattle.gw_books.proofs.Holding.{HoldsAfterRow, HoldsBetween, IsRepliable, IsCommandSound, IsHeaderBeside, IsLinkSound, IsServingSound, IsToBeAsked, IsToBeAskedFor, IsUnsent, begun_past, charge_owed, charges}
use Rattle.gw_books.proofs.ListLemmas.{In}
use Rattle.gw_books.proofs.Numbering.{RowHolds}
use Rattle.gw_books.proofs.QuietRowLemmas.{nothing-holds, quiet-holds, session-quiet, stopped-quiet}
use Rattle.gw_books.proofs.RecordMoreLemmas.{outcomes-and-intent, outcomes-and-settled, resolved-more, unknown-accepted}
use Rattle.gw_books.proofs.ReplyLimitLemmas.{success-within}
use Rattle.gw_books.proofs.ReplyTruthLemmas.{kind-is, reply-true-more}
use Rattle.gw_books.proofs.RowPartsLemmas.{from-set, grows-none, grows-one, onto-same, onto-set, parts-hold}
use Rattle.gw_books.proofs.ServedReplyLemmas.{replies-sound, settled-sound}
use Rattle.gw_books.proofs.StepTruthLemmas.{session-true}

-- ---- what is asked

-- a payment and a reversal may charge a card
pub asked-charges : (what : Deal) (intent : TheIntent) (original : Option TheEntry) (password : List ℕ) → charges (ask_for what intent original password) ≡ true
asked-charges deals.Payment intent original password = refl
asked-charges deals.Reversal intent original password = refl

-- each is sound for an Intent that is to be asked
asked-sound : (records : List Record) (core : Core) (sent : List SentCommand) (number : ℕ) (what : Deal) (intent : TheIntent) (original : Option TheEntry) (password : List ℕ) → IsToBeAskedFor what records core sent number
    → IsCommandSound records core sent number (ask_for what intent original password)
asked-sound records core sent number deals.Payment intent original password asked = asked
asked-sound records core sent number deals.Reversal intent original password asked = asked

-- no command was sent for a key that is unknown
pub key-unsent : (known : Known) (past : Past) (book : List BookedEntry) → HoldsBetween known past book → (key : Key) → found_of known.kept key ≡ None → IsUnsent past.commands key
key-unsent known past book between key unknown command sent key_is =
    let own = between.commands.accepted command sent in
    let same : own.key ≡ key = same_Some own.key key (sym own.key_is ∙ key_is) in
    let accepted = own.accepted in
    let refused = unknown-accepted known.kept key unknown in
    let clash : true ≡ false = sym accepted ∙ ap (λ (k : Key). is_accepted known.kept k) same ∙ refused in
    absurd cc

-- ---- the beginning

module _ (laws : LedgerLaws) (known : Known) (past : Past) (book : List BookedEntry) (between : HoldsBetween known past book) (number till : ℕ) (header : Header) (request : SaleRequest) (terminal : Terminal) (last : ℕ) (asking : Asking)
    (found : terminal_at known number ≡ Some terminal) (anew : IsAskedAnew known header terminal last asking) where
  -- the past as the item has begun
  abbrev begun : Past
  begun = record past { occasion = OfRequest header request }

  abbrev intent : TheIntent
  intent = asking.intent

  abbrev new : Terminal
  new = asked_for known till terminal last intent asking.original

  abbrev row : Row
  row = beginning_row known number till terminal last intent asking.original

  -- the records with its Intent
  abbrev records : List Record
  records = known.kept ++ Intent intent ∷ []

  abbrev to-be-asked : IsToBeAsked records row.core past.commands number
  to-be-asked = record {
    terminal = new;
    found = new-is-there known.core.terminals number terminal new found;
    slot = length known.kept;
    last = last;
    standing_is = refl;
    intent = intent;
    intent_is = ap (option_and_then as_intent) (last-there known.kept (Intent intent));
    unsent = key-unsent known past book between (intent_key intent) anew.unknown;
  }

  -- the command to its terminal is owed
  charged : charge_owed number row.calls ≡ true
  charged = by-number (eqb number number) (eqb_same number) (charges (ask_for intent.what intent asking.original terminal.pt.password)) (asked-charges intent.what intent asking.original terminal.pt.password)
    where
      by-number : (b : Bool) → b ≡ true → (c : Bool) → c ≡ true → ((b && c) || false) ≡ true
      by-number true is true charging = refl
      by-number true is false charging = absurd cc
      by-number false is c charging = absurd cc

  link-sound : (link : MadeLink) → In link past.lasting → IsLinkSound records row.core row.calls begun link
  link-sound link within =
      let rest = between.links link within in
      let before = rest.records_before in
      let more : length records ≡ length known.kept + 1 = length-append known.kept (Intent intent ∷ []) in
      record {
        of_terminal = link-stays known.core number terminal new found refl link rest.of_terminal;
        before = rest.before;
        records_before = omega (arith, before, more);
        resolved = λ reported. inr (resolved-more laws known.kept (Intent intent) link rest.records_before (rest.resolved reported));
      }

  pub begins-holds : HoldsAfterRow known begun book row
  begins-holds = record {
    outcomes = outcomes-and-intent past.commands book past.place known.kept intent between.in_order.folded between.outcomes;
    calls = (tt, (tt, (tt, (tt, (asked-sound records row.core past.commands number intent.what intent asking.original terminal.pt.password (to-be-asked, refl), tt)))));
    serving = serving-frame known number new (Intent intent ∷ []) past.commands row.calls between.in_order between.serving (λ uncharged uncut. let clash : true ≡ false = sym charged ∙ uncharged in absurd cc);
    repliable = repliable-stay known.core number new between.repliable tt;
    inside = λ deed. refl;
    handles_none = refl;
    links = link-sound;
  }

-- ---- a reconciliation and a display

-- what is shown charges nothing
pub show-free : (outputs : List Output) (command : Command) → show outputs ≡ Some command → charges command ≡ false
show-free outputs command = by-output (customer_output outputs)
  where
    by-output : (output : Option Output) → option_map (λ (one : Output). show_lines (display_lines one.texts)) output ≡ Some command → charges command ≡ false
    by-output None is = absurd cc
    by-output (Some output) is = subst (λ (c : Command). charges c ≡ false) (same_Some (show_lines (display_lines output.texts)) command is) refl

-- a command that charges nothing may be sent
free-sound : (records : List Record) (core : Core) (sent : List SentCommand) (number : ℕ) (command : Command) → charges command ≡ false → IsCommandSound records core sent number command
free-sound records core sent number (commands.Register password config_byte currency) free = tt
free-sound records core sent number (commands.Authorise amount currency) free = absurd cc
free-sound records core sent number (commands.Reverse password receipt) free = absurd cc
free-sound records core sent number (commands.EndOfDay password) free = tt
free-sound records core sent number (commands.Enquire password) free = tt
free-sound records core sent number commands.Stop free = tt
free-sound records core sent number (commands.Show lines) free = tt

-- the header of a reconciliation that was read
pub day-beside : (header : Header) (period : Period) → IsReadFromTill (Request header (requests.Reconciliation period)) → IsHeaderBeside header
day-beside header period read =
    let message = read.1 in
    let is = message.read in
    record { within = header-read envelopes.Request is.0 header is.1.request_of.header_is; apart = kind-is header (codes "Reconciliation") (sym is.1.category) refl }

-- that of a Display, and its results as it begins
pub display-beside : (header : Header) (outputs : List Output) → IsReadFromTill (Request header (requests.Display outputs)) → IsHeaderBeside header × IfSome (refused_results UnavailableDevice outputs) AreResultsWithinLimits
display-beside header outputs read =
    let message = read.1 in
    let is = message.read in (
      record { within = header-read envelopes.Request is.0 header is.1.request_of.header_is; apart = kind-is header (codes "Display") (sym is.1.category) refl },
      refused-within is.0 UnavailableDevice outputs is.1.members is.1.asks,
    )

module _ (laws : LedgerLaws) (known : Known) (past : Past) (book : List BookedEntry) (between : HoldsBetween known past book) (number till : ℕ) (header : Header) (request : SaleRequest) where
  -- the row leaves what holds, with the past as the item has begun
  abbrev Leaves : Row → Type 0
  Leaves row = HoldsAfterRow known (record past { occasion = OfRequest header request }) book row

  -- the terminal serves what is no payment and no reversal
  pub beside-leaves : (terminal new : Terminal) (command : Command) → terminal_at known number ≡ Some terminal → new.pt ≡ terminal.pt → charges command ≡ false → IsRepliable new.standing
      → IsServingSound known.kept past.commands new.pt.poi new.standing → Leaves (terminal_becomes known number new (SendPt number (Ask command) ∷ []))
  beside-leaves terminal new command found same free repliable serves = parts-hold known past book (OfRequest header request) [] (terminal_becomes known number new (SendPt number (Ask command) ∷ [])) known.kept between (record {
    records_are = append-nil known.kept;
    grows = grows-none known.kept past.commands;
    outcomes = between.outcomes;
    calls = (free-sound known.kept (with_terminal known.core number new) past.commands number command free, tt);
    from = from-set known number new known.kept past.commands (SendPt number (Ask command) ∷ []) (record { repliable = repliable; serving = λ uncharged uncut. serves });
    onto = onto-set known number terminal new found same;
    inside = λ deed. refl;
    no_items = refl;
    reported = λ link it any. absurd cc;
  })

  -- a slot is left for what is kept
  settled-slot : (settled : TheSettled) (core : Core) → KeepsInOrder known (Settled settled ∷ []) core → length known.kept < known.setup.slots
  settled-slot settled core keeps =
      let room = keeps.room in
      let more : length (known.kept ++ Settled settled ∷ []) ≡ length known.kept + 1 = length-append known.kept (Settled settled ∷ []) in
      omega (arith, room, more)

  -- a reconciliation of the till's own is settled
  settles-leaves : (terminal : Terminal) → IsReadItem known.setup (Serve number till header request) → SettlesAt known number header request terminal → RowKeeps known number (settled_row known till header terminal)
      → Leaves (settled_row known till header terminal)
  settles-leaves terminal read at keeps =
      let settled : TheSettled = settled_of hows.Sale header terminal.pt.currency known.moment in
      let records : List Record = known.kept ++ Settled settled ∷ [] in
      let read-as : IsReadRequest known.setup number header (requests.Reconciliation SaleReconciliation) = subst (IsReadRequest known.setup number header) at.request_is read in
      let within : IsSettled settled = settled-within hows.Sale header terminal.pt.currency known.moment (reconciliation-within header SaleReconciliation read-as.read) between.in_order.moment in
      let slot : length known.kept < known.setup.slots = settled-slot settled known.core (keeps.uncut refl) in
      let reply : Option ReplyValue = reply_to_settled known.kept settled in
      parts-hold known past book (OfRequest header request) [] (settled_row known till header terminal) records between (record {
        records_are = refl;
        grows = grows-one laws known.kept (Settled settled) past.commands;
        outcomes = outcomes-and-settled past.commands book past.place known.kept settled between.in_order.folded between.outcomes;
        calls = (
          tt,
          (
            tt,
            (
              tt,
              (
                tt,
                replies-sound records known.core past.commands (OfRequest header request) (Some till) reply
                    (λ own replied. settled-sound known records (waiting_keys known.core) (OfRequest header request) settled own between.in_order within slot replied),
              ),
            ),
          ),
        );
        from = λ other one found. inl found;
        onto = λ other one found. onto-same known.core other one found;
        inside = λ deed. refl;
        no_items = refl;
        reported = λ link it any. absurd cc;
      })

-- ---- the row

-- a request that a terminal serves holds
pub serve-holds : (laws : LedgerLaws) (number till : ℕ) (header : Header) (request : SaleRequest) → RowHolds (Serve number till header request)
serve-holds laws number till header request scene tills known past book same between numbered linked read honest =
    each-served (λ (row : Row). RowKeeps known number row → HoldsAfterRow known (begun_past scene past (Serve number till header request)) book row) known number till header request (record {
      none = λ keeps. nothing-holds known past book (OfRequest header request) between;
      begins = λ terminal last asking at keeps.
          begins-holds laws known past book between number till header request terminal last asking at.found (begins-anew laws known between.in_order number till header request terminal last asking read at);
      sent = λ terminal talk at may keeps.
          quiet-holds known past book (OfRequest header request) (stops known number (wishing terminal talk)) between
          (stopped-quiet known number header request terminal talk (one_more_awaited terminal.awaited) (SendPt number (Ask commands.Stop) ∷ []) at refl refl) (tt, tt);
      wished = λ terminal talk at may keeps.
          quiet-holds known past book (OfRequest header request) (staying known number (wishing terminal talk)) between (stopped-quiet known number header request terminal talk terminal.awaited [] at refl refl) tt;
      session = λ session keeps. quiet-holds known past book (OfRequest header request) _ between (session-quiet known till header request) (
        record {
          within = success-within header request read.read;
          says = reply-true-more known.kept _ (OfRequest header request) (success_reply header) (session-true known.kept header request session.session_is read.read);
        },
        tt,
      );
      settles = λ terminal at keeps. settles-leaves laws known past book between number till header request terminal read at keeps;
      day = λ terminal last at keeps.
          let read-as : IsReadRequest known.setup number header (requests.Reconciliation AcquirerReconciliation) = subst (IsReadRequest known.setup number header) at.request_is read in
          beside-leaves laws known past book between number till header request terminal (asked_for_day known till terminal last header) (day_command terminal.pt) at.found refl refl
          (day-beside header AcquirerReconciliation read-as.read) tt;
      displays = λ terminal last outputs command at keeps.
          let read-as : IsReadRequest known.setup number header (requests.Display outputs) = subst (IsReadRequest known.setup number header) at.request_is read in
          beside-leaves laws known past book between number till header request terminal (asked_to_show known till terminal last header outputs command) command at.found refl (show-free outputs command at.shown_is)
          (display-beside header outputs read-as.read) tt;
    }) (serve-keeps laws known between.in_order number till header request read)
