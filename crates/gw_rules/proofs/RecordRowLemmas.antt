-- The records fold at each moment of a log along which they are kept, and a row keeps what is known in order.
use Rattle.std.proofs.Common.{◌≡◌, ◌≢◌, ◌≤◌, ℕ, ◌+◌, ◌*◌, Bool, true, false, List, [], ◌∷◌, ◌++◌, length, refl, sym, ◌∙◌, ap, subst, arith, inl, inr, append_assoc, append-nil}
use Rattle.std.proofs.lemmas.List.Elements.{All-nil, All-cons, All-head, All-tail, All-append}
use Rattle.std.specs.Prelude.{nat_lt, nat_le, if◌then◌else◌, IsTrue, All, map, slice_get, Option, Some, None, option_to_list}
use Rattle.std.specs.List.{flat_map}
use Rattle.gw_base.specs.declared.setup.Setup.{Setup}
use Rattle.gw_site.specs.Outside.{Connection, is_connected, outside_of}
use Rattle.gw_site.specs.declared.turn.Turn.{Turn}
use Rattle.sale_frame.specs.Decode.{DecodedFrames}
use Rattle.zvt_apdu.specs.Decode.{decode_apdu}
use Rattle.zvt_apdu.specs.DecodeStream.{DecodedApdus}
use Rattle.zvt_apdu.specs.Grammar.{ApduValue}
use Rattle.jrn_record.specs.Limits.{IsRecord}
use Rattle.jrn_record.specs.declared.records.Record.{Record}
use Rattle.gw_ledger.specs.Fold.{fits, Fit, AreFolded}
use Rattle.gw_ledger.specs.Sums.{open_count_of}
use Rattle.gw_owes.specs.Calls.{OwedCall, SendTill, SendPt, LinkPt, WriteBody, WriteGate, WriteFirstGate, Sync, write_turn, records_kept, CutTill as OwedCutTill, CutPt as OwedCutPt}
use Rattle.gw_owes.specs.Core.{Core, Wait}
use Rattle.gw_owes.specs.Days.{days_served}
use Rattle.gw_owes.specs.Events.{till_opened_items, has_bad_length, decoded_items, is_oversized, apdu_items, decoded_apdu_items, for_each_terminal, waits_by_deadline, items_due}
use Rattle.gw_owes.specs.Items.{RoundItem, Crowded, Message, Asked, Unframed, Gone, Greet, Handle, Serve, Queue, NextWaiting, Oversized, LinkLost, Late, Overdue, Due}
use Rattle.gw_owes.specs.ReadAs.{ReadAs, IsReadAs}
use Rattle.gw_owes.specs.RecordLaws.{IsTerminalInOrder, IsReadItem, HasRoom, IsNumbered, IsInOrder, NewCoreIsInOrder, EachRowKeepsInOrder, EachCutKeepsInOrder, EachLinkKeepsInOrder, EachRowBringsReadItems, EachTillGoneLeavesDays, EachQueueKeepsInOrder, EachOverdueKeepsInOrder, KeepsInOrder}
use Rattle.gw_owes.specs.Reply.{ReplyValue}
use Rattle.gw_owes.specs.Requests.{reply_to, begun_by}
use Rattle.gw_owes.specs.Row.{Known, Row, owing}
use Rattle.gw_owes.specs.Rows.{asked_row, row_of}
use Rattle.gw_owes.specs.TerminalLaws.{owes_cut}
use Rattle.gw_owes.specs.TerminalRows.{terminal_of, terminal_row}
use Rattle.gw_owes.specs.Terminals.{forgets_till, core_without, reply_calls_to, registers, unlinks, link_made, link_lost}
use Rattle.gw_owes.specs.WaitingLaws.{AreWaitsInOrder, EachNextKeepsInOrder, EachRowKeepsWaits}
use Rattle.gw_owes.specs.WaitingRows.{next_waiting_row, overdue_row, queue_row}
use Rattle.gw_owes.specs.declared.terminal.Terminal.{Terminal}
use Rattle.gw_owes.proofs.HandlingLemmas.{by-where, each-terminal}
use Rattle.gw_owes.proofs.SetLemmas.{same-some}
use Rattle.gw_rules.specs.JournalFiles.{spare_disk}
use Rattle.gw_rules.specs.KeptLaws.{AreInSequence}
use Rattle.gw_rules.specs.Lawful.{first_call, first_message}
use Rattle.gw_rules.specs.LedgerRules.{ledger_rules}
use Rattle.gw_rules.specs.RecordOrder.{records_coming, FoldAtOnce}
use Rattle.gw_rules.specs.Scene.{Scene, records_of, known_in, row_in, link_made_at, link_lost_at}
use Rattle.gw_rules.specs.TranscriptLaws.{cuts_terminal, cut_owed}
use Rattle.gw_rules.specs.View.{View, later, read_first}
use Rattle.gw_rules.proofs.KeptFileLemmas.{owned, in-order-first}
use Rattle.gw_rules.proofs.KeptPhaseLemmas.{Body, BodySync, FirstGate, FirstSync, GateSync, Holds, LastSync, Mid, OpenGate, Phase}
use Rattle.gw_rules.proofs.KeptTurnLemmas.{no-more}
use Rattle.gw_rules.proofs.LedgerRuleLemmas.{folded-in-order}
use Rattle.gw_rules.proofs.StageLemmas.{no-true}
use Rattle.gw_rules.proofs.TranscriptLogLemmas.{AreCallsOf, own-owed, rows-of, image-there, there-image}

-- the laws of what a row keeps
pub record OrderLaws : Type 0 where
  pub new : NewCoreIsInOrder
  pub rows : EachRowKeepsInOrder
  pub cuts : EachCutKeepsInOrder
  pub links : EachLinkKeepsInOrder
  pub items : EachRowBringsReadItems
  pub gone : EachTillGoneLeavesDays
  pub queues : EachQueueKeepsInOrder
  pub overdue : EachOverdueKeepsInOrder
  pub next : EachNextKeepsInOrder
  pub waits : EachRowKeepsWaits

-- ---- records

-- calls that spare the disk keep none
pub spares-none : (calls : List OwedCall) → spare_disk calls ≡ true → records_kept calls ≡ []
spares-none [] e = refl
spares-none (SendTill till reply ∷ calls) e = spares-none calls e
spares-none (SendPt pt sending ∷ calls) e = spares-none calls e
spares-none (OwedCutTill till ∷ calls) e = spares-none calls e
spares-none (OwedCutPt pt ∷ calls) e = spares-none calls e
spares-none (LinkPt pt ∷ calls) e = spares-none calls e
spares-none (WriteBody slot the_record ∷ calls) e = no-true e
spares-none (WriteGate slot the_record ∷ calls) e = no-true e
spares-none (WriteFirstGate ∷ calls) e = no-true e
spares-none (Sync ∷ calls) e = no-true e

-- where no call on the disk is owed and no record is in flight, none comes
pub coming-kept : (v : View) → spare_disk v.calls ≡ true → v.scene.flight ≡ None → records_coming v ≡ v.scene.kept
coming-kept v spares none = ap (λ l. records_of v.scene ++ l) (spares-none v.calls spares) ∙ append-nil (records_of v.scene) ∙ no-more v.scene.kept v.scene.flight none

-- a call that keeps none leaves the later ones
pub later-none : (calls : List OwedCall) → records_kept calls ≡ [] → records_kept (later calls) ≡ []
later-none [] e = e
later-none (SendTill till reply ∷ calls) e = e
later-none (SendPt pt sending ∷ calls) e = e
later-none (OwedCutTill till ∷ calls) e = e
later-none (OwedCutPt pt ∷ calls) e = e
later-none (LinkPt pt ∷ calls) e = e
later-none (WriteBody slot the_record ∷ calls) e = e
later-none (WriteGate slot the_record ∷ calls) e = absurd (let n : the_record ∷ records_kept calls ≡ [] = e in cc)
later-none (WriteFirstGate ∷ calls) e = e
later-none (Sync ∷ calls) e = e

-- a write cuts no terminal
pub writes-cut-none : (pt : ℕ) (call : OwedCall) (turn : Turn) → write_turn call ≡ Some turn → cuts_terminal pt call ≡ false
writes-cut-none pt (SendTill till reply) turn e = refl
writes-cut-none pt (SendPt number sending) turn e = refl
writes-cut-none pt (OwedCutTill till) turn e = refl
writes-cut-none pt (OwedCutPt number) turn e = absurd (let n : None ≡ Some turn = e in cc)
writes-cut-none pt (LinkPt number) turn e = refl
writes-cut-none pt (WriteBody slot the_record) turn e = refl
writes-cut-none pt (WriteGate slot the_record) turn e = refl
writes-cut-none pt WriteFirstGate turn e = refl
writes-cut-none pt Sync turn e = refl

pub last-within : (records : List Record) (the_record : Record) → All IsRecord (records ++ the_record ∷ []) → IsRecord the_record
last-within [] the_record all = All-head IsRecord the_record [] all
last-within (first ∷ records) the_record all = last-within records the_record (All-tail IsRecord first (records ++ the_record ∷ []) all)

pub last-fits : (before records : List Record) (the_record : Record) → Fit before (records ++ the_record ∷ []) → IsTrue (fits (before ++ records) the_record)
last-fits before [] the_record fit = subst (λ l. IsTrue (fits l the_record)) (sym (append-nil before)) fit.0
last-fits before (first ∷ records) the_record fit = subst (λ l. IsTrue (fits l the_record)) (append_assoc before (first ∷ []) records) (last-fits (before ++ first ∷ []) records the_record fit.1)

-- the first call and those after it
pub first-later : (calls : List OwedCall) (call : OwedCall) → first_call calls ≡ Some call → calls ≡ call ∷ later calls
first-later [] call e = absurd (let n : None ≡ Some call = e in cc)
first-later (first ∷ calls) call e = let same : first ≡ call = (let n : Some first ≡ Some call = e in cc) in ap (λ c. c ∷ calls) same

-- ---- they fold

module _ (log : List Turn) (v : View) (h : Holds (owned ledger_rules) log v) where
  file-folds : AreFolded (records_of v.scene)
  file-folds = folded-in-order (records_of v.scene) h.facts.in_order

  none-coming : records_kept v.calls ≡ [] → AreFolded (records_coming v)
  none-coming none = subst AreFolded (sym (ap (λ l. records_of v.scene ++ l) none ∙ append-nil (records_of v.scene))) file-folds

  appending-folds : (the_record : Record) → v.scene.flight ≡ None → records_kept v.calls ≡ the_record ∷ [] → AreInSequence ledger_rules [] (v.scene.kept ++ the_record ∷ []) → AreFolded (records_coming v)
  appending-folds the_record none keeps all =
      subst AreFolded (sym (ap (λ l. records_of v.scene ++ l) keeps ∙ ap (λ l. l ++ the_record ∷ []) (no-more v.scene.kept v.scene.flight none))) (folded-in-order (v.scene.kept ++ the_record ∷ []) all)

  phase-folds : Phase (owned ledger_rules) log v.scene.kept v.scene.flight v.calls v.scene.stage → AreFolded (records_coming v)
  phase-folds (inl c) = none-coming (ap records_kept c.calls_are)
  phase-folds (inr (inl r)) = none-coming (spares-none v.calls r.spares)
  phase-folds (inr (inr m)) = by_step m.0
    where
      by_step : Mid (owned ledger_rules) log v.scene.kept v.scene.flight v.calls → AreFolded (records_coming v)
      by_step (FirstSync e) = none-coming (ap records_kept e ∙ by_size (nat_le (length (outside_of log).file) 1))
        where
          by_size : (small : Bool) → records_kept (Sync ∷ (if small then WriteFirstGate ∷ Sync ∷ [] else [])) ≡ []
          by_size true = refl
          by_size false = refl
      by_step (FirstGate g) = none-coming (ap records_kept g.calls_are)
      by_step (GateSync g) = none-coming (ap records_kept g.calls_are)
      by_step (Body a) = appending-folds a.the_record a.flight_is (ap records_kept a.calls_are ∙ ap (λ l. a.the_record ∷ l) (spares-none a.more a.spares)) a.in_order
      by_step (BodySync a) = appending-folds a.the_record a.flight_is (ap records_kept a.calls_are ∙ ap (λ l. a.the_record ∷ l) (spares-none a.more a.spares)) a.in_order
      by_step (OpenGate a) = appending-folds a.the_record a.flight_is (ap records_kept a.calls_are ∙ ap (λ l. a.the_record ∷ l) (spares-none a.more a.spares)) a.in_order
      by_step (LastSync a) = none-coming (ap records_kept a.calls_are ∙ spares-none a.more a.spares)

  pub kept-folds : AreFolded v.scene.kept
  kept-folds = folded-in-order v.scene.kept (in-order-first ledger_rules [] v.scene.kept (option_to_list v.scene.flight) h.facts.in_order)

  pub folds-at-once : FoldAtOnce v
  folds-at-once = record { kept = kept-folds; file = file-folds; coming = phase-folds h.phase }

-- ---- items that were read

module _ (setup : Setup) where
  read-where : (test : Bool) (item : RoundItem) → (IsReadItem setup) item → All (IsReadItem setup) (if test then item ∷ [] else [])
  read-where true item read = All-cons (IsReadItem setup) item [] read (All-nil (IsReadItem setup))
  read-where false item read = All-nil (IsReadItem setup)

  read-each : (number : ℕ) (item : ℕ → RoundItem) (terminals : List Terminal) → ((n : ℕ) → (IsReadItem setup) (item n)) → All (IsReadItem setup) (for_each_terminal number item terminals)
  read-each number item [] each = All-nil (IsReadItem setup)
  read-each number item (terminal ∷ terminals) each = All-cons (IsReadItem setup) (item number) (for_each_terminal (number + 1) item terminals) (each number) (read-each (number + 1) item terminals each)

  read-overdue : (waits : List Wait) → All (IsReadItem setup) (map (λ (wait : Wait). Overdue wait.key) waits)
  read-overdue [] = All-nil (IsReadItem setup)
  read-overdue (wait ∷ waits) = All-cons (IsReadItem setup) (Overdue wait.key) (map (λ (wait : Wait). Overdue wait.key) waits) tt (read-overdue waits)

  pub read-due : (core : Core) → All (IsReadItem setup) (items_due core)
  read-due core =
      All-append (IsReadItem setup) (for_each_terminal 0 Late core.terminals) (map (λ (wait : Wait). Overdue wait.key) (waits_by_deadline core.waits) ++ for_each_terminal 0 Due core.terminals) (read-each 0 Late core.terminals (λ n. tt))
      (All-append (IsReadItem setup) (map (λ (wait : Wait). Overdue wait.key) (waits_by_deadline core.waits)) (for_each_terminal 0 Due core.terminals) (read-overdue (waits_by_deadline core.waits)) (read-each 0 Due core.terminals (λ n. tt)))

  read-messages : (till : ℕ) (payloads : List (List ℕ)) → All (IsReadItem setup) (map (Message till) payloads)
  read-messages till [] = All-nil (IsReadItem setup)
  read-messages till (payload ∷ payloads) = All-cons (IsReadItem setup) (Message till payload) (map (Message till) payloads) tt (read-messages till payloads)

  pub read-till : (till : ℕ) (decoded : DecodedFrames) → All (IsReadItem setup) (decoded_items till decoded)
  read-till till decoded = All-append (IsReadItem setup) (map (Message till) decoded.payloads) _ (read-messages till decoded.payloads) (read-where (has_bad_length decoded.rest) (Unframed till) tt)

  read-apdus : (pt : ℕ) (apdus : List ApduValue) → All (IsReadItem setup) (flat_map (apdu_items pt) apdus)
  read-apdus pt [] = All-nil (IsReadItem setup)
  read-apdus pt (apdu ∷ apdus) =
      let rest : List RoundItem = flat_map (apdu_items pt) apdus in
      All-cons (IsReadItem setup) (Greet pt apdu) (Handle pt apdu ∷ NextWaiting pt ∷ rest) tt (All-cons (IsReadItem setup) (Handle pt apdu) (NextWaiting pt ∷ rest) tt (All-cons (IsReadItem setup) (NextWaiting pt) rest tt (read-apdus pt apdus)))

  pub read-pt : (pt : ℕ) (decoded : DecodedApdus) → All (IsReadItem setup) (decoded_apdu_items pt decoded)
  read-pt pt decoded = All-append (IsReadItem setup) (flat_map (apdu_items pt) decoded.apdus) _ (read-apdus pt decoded.apdus) (read-where (is_oversized (decode_apdu decoded.rest)) (Oversized pt) tt)

  pub read-opened : (till : ℕ) (tills : List Connection) → All (IsReadItem setup) (till_opened_items till tills)
  read-opened till tills = by_test (nat_lt (length tills) 64)
    where
      by_test : (test : Bool) → All (IsReadItem setup) (if test then [] else Crowded till ∷ [])
      by_test true = All-nil (IsReadItem setup)
      by_test false = All-cons (IsReadItem setup) (Crowded till) [] tt (All-nil (IsReadItem setup))

  -- a message that is read was read from its bytes
  pub first-read : (as_read : ReadAs) (items : List RoundItem) (bytes : List ℕ) → first_message items ≡ Some bytes → IsReadAs bytes as_read → All (IsReadItem setup) items → All (IsReadItem setup) (read_first as_read items)
  first-read as_read [] bytes first reads all = all
  first-read as_read (Crowded till ∷ items) bytes first reads all = all
  first-read as_read (Message till other ∷ items) bytes first reads all = All-cons (IsReadItem setup) (Asked till as_read) items (bytes, reads) (All-tail (IsReadItem setup) (Message till other) items all)
  first-read as_read (Asked till other ∷ items) bytes first reads all = all
  first-read as_read (Unframed till ∷ items) bytes first reads all = all
  first-read as_read (Gone till ∷ items) bytes first reads all = all
  first-read as_read (Greet pt apdu ∷ items) bytes first reads all = all
  first-read as_read (Handle pt apdu ∷ items) bytes first reads all = all
  first-read as_read (Serve pt till header request ∷ items) bytes first reads all = all
  first-read as_read (Queue pt till header request ∷ items) bytes first reads all = all
  first-read as_read (NextWaiting pt ∷ items) bytes first reads all = all
  first-read as_read (Oversized pt ∷ items) bytes first reads all = all
  first-read as_read (LinkLost pt ∷ items) bytes first reads all = all
  first-read as_read (Late pt ∷ items) bytes first reads all = all
  first-read as_read (Overdue key ∷ items) bytes first reads all = all
  first-read as_read (Due pt ∷ items) bytes first reads all = all

-- ---- rows

-- the row brings no item
abbrev BringsNone : Row → Type 0
BringsNone row = row.items ≡ []

pub made-brings-none : (scene : Scene) (pt : ℕ) → BringsNone (link_made_at scene pt)
made-brings-none scene pt = by_setup scene.setup
  where
    by_setup : (setup : Option Setup) → BringsNone (row_in scene (λ known. link_made known pt) setup)
    by_setup None = refl
    by_setup (Some setup) = each-terminal BringsNone (known_in scene setup) pt (registers (known_in scene setup) pt) refl (λ terminal found. refl)

pub lost-brings-none : (scene : Scene) (pt : ℕ) → BringsNone (link_lost_at scene pt)
lost-brings-none scene pt = by_setup scene.setup
  where
    by_setup : (setup : Option Setup) → BringsNone (row_in scene (λ known. link_lost known pt) setup)
    by_setup None = refl
    by_setup (Some setup) = each-terminal BringsNone (known_in scene setup) pt (unlinks (known_in scene setup) pt) refl (λ terminal found. refl)

-- what a row leaves in order: the records with those that it keeps
pub record LeavesInOrder (known : Known) (row : Row) : Type 0 where
  pub folded : AreFolded (known.kept ++ records_kept row.calls)
  pub room : HasRoom known.setup.slots (known.kept ++ records_kept row.calls) row.core
  pub numbered : IsNumbered row.core
  pub terminals : (pt : ℕ) (terminal : Terminal) → slice_get row.core.terminals pt ≡ Some terminal → cut_owed pt row.calls ≡ false → IsTerminalInOrder (known.kept ++ records_kept row.calls) terminal

-- a row that keeps no record
keeping-none : (known : Known) (row : Row) → IsInOrder known → records_kept row.calls ≡ [] → HasRoom known.setup.slots known.kept row.core → IsNumbered row.core → ((pt : ℕ) (terminal : Terminal) → slice_get row.core.terminals pt ≡ Some terminal → cut_owed pt row.calls ≡ false → IsTerminalInOrder known.kept terminal)
    → LeavesInOrder known row
keeping-none known row i none room numbered each =
    let same : known.kept ++ records_kept row.calls ≡ known.kept = ap (λ l. known.kept ++ l) none ∙ append-nil known.kept in
    record {
      folded = subst AreFolded (sym same) i.folded;
      room = subst (λ l. HasRoom known.setup.slots l row.core) (sym same) room;
      numbered = numbered;
      terminals = λ pt terminal found no_cut. subst (λ l. IsTerminalInOrder l terminal) (sym same) (each pt terminal found no_cut);
    }

-- and changes nothing
owing-in-order : (known : Known) (calls : List OwedCall) (items : List RoundItem) → IsInOrder known → records_kept calls ≡ [] → LeavesInOrder known (record { core = known.core; calls = calls; items = items })
owing-in-order known calls items i none = keeping-none known (record { core = known.core; calls = calls; items = items }) i none i.room i.numbered (λ pt terminal found no_cut. i.terminals pt terminal found)

reply-keeps-none : (till : ℕ) (known : Known) (as_read : ReadAs) → records_kept (reply_calls_to (Some till) (reply_to known as_read)) ≡ []
reply-keeps-none till known as_read = by_reply (reply_to known as_read)
  where
    by_reply : (reply : Option ReplyValue) → records_kept (reply_calls_to (Some till) reply) ≡ []
    by_reply None = refl
    by_reply (Some reply) = refl

asked-in-order : (known : Known) (till : ℕ) (as_read : ReadAs) → IsInOrder known → LeavesInOrder known (asked_row known till as_read)
asked-in-order known till as_read i = owing-in-order known (reply_calls_to (Some till) (reply_to known as_read)) (begun_by known till as_read) i (reply-keeps-none till known as_read)

-- a till that is gone is forgotten, and no more
pub forgotten-in-order : (kept : List Record) (till : ℕ) (core : Core) (pt : ℕ) (terminal : Terminal) → slice_get (core_without core till).terminals pt ≡ Some terminal
    → ((before : Terminal) → slice_get core.terminals pt ≡ Some before → IsTerminalInOrder kept before) → IsTerminalInOrder kept terminal
forgotten-in-order kept till core pt terminal found each =
    let there = image-there (forgets_till till) core.terminals pt terminal found in
    let old : Terminal = there.0 in
    let same : forgets_till till old ≡ terminal = same-some (forgets_till till old) terminal (sym (there-image (forgets_till till) core.terminals pt old there.1) ∙ found) in
    let h : IsTerminalInOrder kept old = each old there.1 in
    let new : IsTerminalInOrder kept (forgets_till till old) = record { records = h.records; read = h.read } in
    subst (IsTerminalInOrder kept) same new

-- the row of an item of a terminal
terminal-in-order : OrderLaws → (known : Known) (item : RoundItem) (number : ℕ) → ((next : ℕ) → item ≢ NextWaiting next) → terminal_of item ≡ Some number → AreCallsOf (Some number) (terminal_row known item).calls → IsInOrder known → IsReadItem known.setup item → LeavesInOrder known (terminal_row known item)
terminal-in-order laws known item number other is of i read = by_cut (owes_cut (terminal_row known item).calls) refl
  where
    by_cut : (test : Bool) → owes_cut (terminal_row known item).calls ≡ test → LeavesInOrder known (terminal_row known item)
    by_cut true cuts =
        let k = laws.cuts known item number is i cuts in
        keeping-none known (terminal_row known item) i k.none_kept k.room k.numbered
        (λ pt terminal found no_cut. k.others pt terminal (λ same. no-true (sym no_cut ∙ ap (λ n. cut_owed n (terminal_row known item).calls) same ∙ (own-owed number known.moment (terminal_row known item).calls of).1 ∙ cuts)) found)
    by_cut false e =
        let k = laws.rows known item other i read e in
        record { folded = k.folded; room = k.room; numbered = k.numbered; terminals = λ pt terminal found no_cut. k.terminals pt terminal found }

keeps-in-order : (known : Known) (row : Row) → KeepsInOrder known (records_kept row.calls) row.core → LeavesInOrder known row
keeps-in-order known row k = record { folded = k.folded; room = k.room; numbered = k.numbered; terminals = λ pt terminal found no_cut. k.terminals pt terminal found }

-- with fewer requests that wait as many slots are enough
gone-room : (days before waits more : ℕ) (records keys slots : ℕ) → days ≡ before → waits ≤ more → records + (keys + (before + 2 * more)) ≤ slots → records + (keys + (days + 2 * waits)) ≤ slots
gone-room days before waits more records keys slots same fewer room = omega arith

pub rows-in-order : OrderLaws → (tills : List Connection) (known : Known) (item : RoundItem) → IsInOrder known → AreWaitsInOrder known → IsReadItem known.setup item → LeavesInOrder known (row_of tills known item)
rows-in-order laws tills known (Crowded till) i w read = owing-in-order known (OwedCutTill till ∷ []) [] i refl
rows-in-order laws tills known (Message till bytes) i w read = owing-in-order known [] [] i refl
rows-in-order laws tills known (Asked till as_read) i w read =
    by-where (LeavesInOrder known) known (asked_row known till as_read) (is_connected tills till) (owing-in-order known [] [] i refl) (λ there. asked-in-order known till as_read i)
rows-in-order laws tills known (Unframed till) i w read =
    by-where (LeavesInOrder known) known (owing known (OwedCutTill till ∷ [])) (is_connected tills till) (owing-in-order known [] [] i refl) (λ there. owing-in-order known (OwedCutTill till ∷ []) [] i refl)
rows-in-order laws tills known (Gone till) i w read =
    keeping-none known (row_of tills known (Gone till)) i refl
    (gone-room (days_served (core_without known.core till).terminals) (days_served known.core.terminals) (length (core_without known.core till).waits) (length known.core.waits) (length known.kept) (open_count_of known.kept) known.setup.slots (laws.gone known.core till).0 (laws.gone known.core till).1 i.room)
    i.numbered (λ pt terminal found no_cut. forgotten-in-order known.kept till known.core pt terminal found (i.terminals pt))
rows-in-order laws tills known (Greet number apdu) i w read = terminal-in-order laws known (Greet number apdu) number (λ next e. cc) refl (rows-of tills known (Greet number apdu)) i read
rows-in-order laws tills known (Handle number apdu) i w read = terminal-in-order laws known (Handle number apdu) number (λ next e. cc) refl (rows-of tills known (Handle number apdu)) i read
rows-in-order laws tills known (Serve number till header request) i w read = terminal-in-order laws known (Serve number till header request) number (λ next e. cc) refl (rows-of tills known (Serve number till header request)) i read
rows-in-order laws tills known (Queue number till header request) i w read = keeps-in-order known (queue_row known number till header request) (laws.queues known number till header request i)
rows-in-order laws tills known (NextWaiting number) i w read = keeps-in-order known (next_waiting_row known number) (laws.next known number i w)
rows-in-order laws tills known (Oversized number) i w read = terminal-in-order laws known (Oversized number) number (λ next e. cc) refl (rows-of tills known (Oversized number)) i read
rows-in-order laws tills known (LinkLost number) i w read = terminal-in-order laws known (LinkLost number) number (λ next e. cc) refl (rows-of tills known (LinkLost number)) i read
rows-in-order laws tills known (Late number) i w read = terminal-in-order laws known (Late number) number (λ next e. cc) refl (rows-of tills known (Late number)) i read
rows-in-order laws tills known (Overdue key) i w read = keeps-in-order known (overdue_row known key) (laws.overdue known key i)
rows-in-order laws tills known (Due number) i w read = terminal-in-order laws known (Due number) number (λ next e. cc) refl (rows-of tills known (Due number)) i read
