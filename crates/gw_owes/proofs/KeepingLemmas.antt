-- What is known stays in order with one more record, and with a terminal that becomes another.
use Rattle.std.proofs.Common.{◌≡◌, ◌≢◌, ◌∙◌, ℕ, zero, suc, ◌+◌, ◌≤◌, Bool, true, false, List, [], ◌∷◌, ◌++◌, eqb, length, refl, sym, ap, subst, arith}
use Rattle.std.specs.Prelude.{All, if◌then◌else◌, map, set, slice_get, Option, Some, None, option_and_then, pos}
use Rattle.std.specs.Option.{option_map}
use Rattle.std.proofs.lemmas.Bool.{eqb-false}
use Rattle.std.proofs.lemmas.List.{append-nil, length-append}
use Rattle.std.proofs.lemmas.List.Elements.{All-head, All-tail}
use Rattle.std.proofs.lemmas.Option.{same_Some}
use Rattle.gw_base.specs.declared.key.Key.{Key}
use Rattle.gw_base.specs.Setup.{HaveDistinctPois}
use Rattle.gw_base.specs.declared.setup.Pt.{Pt}
use Rattle.sale_values.specs.declared.header.Header.{Header}
use Rattle.zvt_msg.specs.declared.command.Command.{Command}
use Rattle.zvt_talk.specs.Dialogue.{Dialogue, dialogue_of}
use Rattle.zvt_talk.specs.Talk.{talk_after}
use Rattle.jrn_record.specs.Limits.{IsRecord}
use Rattle.jrn_record.specs.declared.records.Record.{Record}
use Rattle.jrn_record.specs.declared.records.Record.TheVariants.{Intent, Outcome, Settled}
use Rattle.gw_ledger.specs.Accounts.{is_poi, poi_of}
use Rattle.gw_ledger.specs.Fold.{AreFolded, fits}
use Rattle.gw_ledger.specs.History.{same_text}
use Rattle.gw_ledger.specs.Keys.{intent_key, is_key, record_key, settled_key}
use Rattle.gw_ledger.specs.Slots.{entry_at}
use Rattle.gw_ledger.specs.Sums.{open_count_of, open_with}
use Rattle.gw_owes.specs.declared.terminal.Service.TheVariants.{Transaction, EndOfDay, Display}
use Rattle.gw_owes.specs.declared.terminal.Standing.{Standing}
use Rattle.gw_owes.specs.declared.terminal.Standing.TheVariants.{Unlinked, Registering, Enquiring, Ready, Serving, Aside}
use Rattle.gw_owes.specs.declared.terminal.Terminal.{Terminal}
use Rattle.gw_owes.specs.Calls.{OwedCall, CutPt, keep_calls, records_kept}
use Rattle.gw_owes.specs.Core.{Core}
use Rattle.gw_owes.specs.Days.{day_served, days_served}
use Rattle.gw_owes.specs.DeviceRequests.{greatest_device_number, requests_device}
use Rattle.gw_owes.specs.KeptReplies.{own_key}
use Rattle.gw_owes.specs.Links.{cutting}
use Rattle.gw_owes.specs.RecordLaws.{AreTerminalsInOrder, AreOfSetup, AreOthersInOrder, AreRecordsOf, CutKeepsInOrder, HasNoneOpen, HasRoom, IsInOrder, IsNumbered, IsTalkRead, IsTerminalInOrder, KeepsInOrder}
use Rattle.gw_owes.specs.Reply.{ReplyValue}
use Rattle.gw_owes.specs.Row.{Known, Row, owing, owing_nothing}
use Rattle.gw_owes.specs.Serving.{staying}
use Rattle.gw_owes.specs.TerminalLaws.{owes_cut, settings_of}
use Rattle.gw_owes.specs.Waits.{slots_reserved}
use Rattle.gw_owes.specs.Terminals.{talk_of_command, terminal_at, terminal_becomes, with_terminal, reply_calls_to}
use Rattle.gw_owes.proofs.DayLemmas.{days-no-more, days_in}
use Rattle.gw_owes.proofs.RecordLemmas.{LeavesTerminal, LedgerLaws, apart-keys, apart-texts, count-more, entry-of-open, folded-more, none-open, open-parts, other-leaves, same-text-itself, still-unknown}
use Rattle.gw_owes.proofs.SetLemmas.{others-stay}

-- ---- terminals of a list

-- what holds of every other element, and of the new one, holds of all
with-new : {A : Type 0} (P : A → Type 0) (all : List A) (at : ℕ) (new : A) → ((number : ℕ) (one : A) → number ≢ at → slice_get all number ≡ Some one → P one) → P new
    → (number : ℕ) (one : A) → slice_get (set all at new) number ≡ Some one → P one
with-new P [] at new others holds number one found = absurd cc
with-new P (first ∷ rest) zero new others holds zero one found = subst P (same_Some new one found) holds
with-new P (first ∷ rest) zero new others holds (suc number) one found = others (suc number) one (λ e. omega arith) found
with-new P (first ∷ rest) (suc at) new others holds zero one found = others zero one (λ e. omega arith) found
with-new P (first ∷ rest) (suc at) new others holds (suc number) one found = with-new P rest at new (λ n o apart f. others (suc n) o (λ e. apart (omega arith)) f) holds number one found

-- what holds of all holds of each
all-there : {A : Type 0} (P : A → Type 0) (all : List A) (at : ℕ) (one : A) → All P all → slice_get all at ≡ Some one → P one
all-there P [] at one each found = absurd cc
all-there P (first ∷ rest) zero one each found = subst P (same_Some first one found) (All-head P first rest each)
all-there P (first ∷ rest) (suc at) one each found = all-there P rest at one (All-tail P first rest each) found

-- the settings of a terminal
pub setting-there : (terminals : List Terminal) (at : ℕ) (terminal : Terminal) → slice_get terminals at ≡ Some terminal → slice_get (map (λ (t : Terminal). t.pt) terminals) at ≡ Some terminal.pt
setting-there [] at terminal found = absurd cc
setting-there (first ∷ rest) zero terminal found = ap (λ (t : Terminal). Some t.pt) (same_Some first terminal found)
setting-there (first ∷ rest) (suc at) terminal found = setting-there rest at terminal found

-- two of them have two POIIDs
two-pois : (pts : List Pt) (at other : ℕ) (one two : Pt) → HaveDistinctPois pts → at ≢ other → slice_get pts at ≡ Some one → slice_get pts other ≡ Some two → one.poi ≢ two.poi
two-pois [] at other one two distinct apart here there = absurd cc
two-pois (first ∷ rest) zero zero one two distinct apart here there = absurd (apart refl)
two-pois (first ∷ rest) zero (suc other) one two distinct apart here there =
    λ same. all-there (λ (pt : Pt). first.poi ≢ pt.poi) rest other two distinct.0 there (ap (λ (pt : Pt). pt.poi) (same_Some first one here) ∙ same)
two-pois (first ∷ rest) (suc at) zero one two distinct apart here there =
    λ same. all-there (λ (pt : Pt). first.poi ≢ pt.poi) rest at one distinct.0 here (ap (λ (pt : Pt). pt.poi) (same_Some first two there) ∙ sym same)
two-pois (first ∷ rest) (suc at) (suc other) one two distinct apart here there = two-pois rest at other one two distinct.1 (λ e. apart (ap suc e)) here there

-- so have two terminals of a setup
pub apart-pois : (known : Known) (number other : ℕ) (one two : Terminal) → AreOfSetup known.core known.setup → other ≢ number → terminal_at known number ≡ Some one → terminal_at known other ≡ Some two → is_poi two.pt.poi (Some one.pt.poi) ≡ false
apart-pois known number other one two of_setup apart here there =
    apart-texts two.pt.poi one.pt.poi (two-pois (settings_of known.core) other number two.pt one.pt (subst HaveDistinctPois (sym of_setup.settings) of_setup.within.distinct) apart
    (setting-there known.core.terminals other two there) (setting-there known.core.terminals number one here))

-- ---- a dialogue that begins

-- nothing was reported in it
pub command-read : (pt : Pt) (command : Command) (moment : ℕ) → IsTalkRead (talk_of_command pt command moment)
command-read pt command moment = by-dialogue (dialogue_of command pt.none pt.answer pt.command (pos moment))
  where
    by-dialogue : (begun : Option Dialogue) → IsTalkRead (option_map (λ dialogue. talk_after dialogue []) begun)
    by-dialogue None = tt
    by-dialogue (Some dialogue) = tt

-- ---- one more record

-- the key of a request is one of its terminal
pub own-key-poi : (header : Header) (key : Key) → own_key header ≡ Some key → key.poi ≡ header.poi
own-key-poi header key is = by-service header.service is
  where
    by-service : (service : Option (List ℕ)) → option_map (λ (s : List ℕ). record { sale = header.sale; poi = header.poi; service = s }) service ≡ Some key → key.poi ≡ header.poi
    by-service None none = absurd cc
    by-service (Some service) same = ap (λ (k : Key). k.poi) (sym (same_Some (record { sale = header.sale; poi = header.poi; service = service }) key same))

-- another terminal's record has another key
key-apart : (kept : List Record) (next : Record) (key : Key) → is_poi key.poi (poi_of kept next) ≡ false → is_key key (record_key next) ≡ false
key-apart kept (Intent intent) key apart = apart-keys key (intent_key intent) (λ same. let is : same_text key.poi intent.poi ≡ true = ap (λ (k : Key). same_text k.poi intent.poi) same ∙ same-text-itself intent.poi in absurd cc)
key-apart kept (Outcome outcome) key apart = refl
key-apart kept (Settled settled) key apart = apart-keys key (settled_key settled) (λ same. let is : same_text key.poi settled.poi ≡ true = ap (λ (k : Key). same_text k.poi settled.poi) same ∙ same-text-itself settled.poi in absurd cc)

-- the record hasn't the key of the end of day that a terminal of this standing serves
abbrev pub LeavesDay : Standing → Record → Type 0
LeavesDay standing next = (header : Header) (key : Key) → day_served standing ≡ Some header → own_key header ≡ Some key → is_key key (record_key next) ≡ false

module _ (laws : LedgerLaws) (kept : List Record) (next : Record) (poi : List ℕ) (folded : AreFolded kept) (leaves : LeavesTerminal kept next poi) where
  -- none of the terminal's keys is open still
  pub rests-still : (last : ℕ) → HasNoneOpen kept poi last → HasNoneOpen (kept ++ next ∷ []) poi last
  rests-still last has = record {
    none_open = ap (option_and_then (entry_at (kept ++ next ∷ []))) (leaves.slot_stays ∙ none-open laws kept folded poi has.none_open);
    not_below = subst (λ (n : ℕ). n ≤ last) (sym leaves.number_stays) has.not_below;
    within = has.within;
  }

  -- what the records have of a terminal stays
  pub records-stay : (standing : Standing) → LeavesDay standing next → AreRecordsOf kept poi standing → AreRecordsOf (kept ++ next ∷ []) poi standing
  records-stay (Unlinked due) day has = tt
  records-stay Registering day has = tt
  records-stay Enquiring day has = tt
  records-stay (Ready last) day has = rests-still last has
  records-stay (Serving (Transaction slot) last) day has = record {
    intent = has.intent;
    is_open = entry-of-open (kept ++ next ∷ []) poi slot has.intent (leaves.open_stays slot has.intent (open-parts laws kept folded poi slot has.intent has.is_open));
    before = has.before;
    not_below = subst (λ (n : ℕ). n ≤ last) (sym leaves.number_stays) has.not_below;
  }
  records-stay (Serving (EndOfDay header period) last) day has = record {
    rests = rests-still last has.rests;
    heading = has.heading;
    names = has.names;
    period_is = has.period_is;
    key = has.key;
    key_is = has.key_is;
    unknown = still-unknown laws kept next folded has.key (day header has.key refl has.key_is) has.unknown;
  }
  records-stay (Serving (Display header results) last) day has = record { rests = rests-still last has.rests; heading = has.heading; results_within = has.results_within }
  records-stay (Aside before reported) day has = tt

-- where an end of day is served it is one of the terminal
day-names : (kept : List Record) (poi : List ℕ) (standing : Standing) (header : Header) → AreRecordsOf kept poi standing → day_served standing ≡ Some header → header.poi ≡ poi
day-names kept poi (Unlinked due) header has day = absurd cc
day-names kept poi Registering header has day = absurd cc
day-names kept poi Enquiring header has day = absurd cc
day-names kept poi (Ready last) header has day = absurd cc
day-names kept poi (Serving (Transaction slot) last) header has day = absurd cc
day-names kept poi (Serving (EndOfDay served period) last) header has day = ap (λ (h : Header). h.poi) (sym (same_Some served header day)) ∙ has.names
day-names kept poi (Serving (Display served results) last) header has day = absurd cc
day-names kept poi (Aside before reported) header has day = absurd cc

-- another terminal's record leaves it
pub other-leaves-day : (kept : List Record) (next : Record) (poi : List ℕ) (standing : Standing) → is_poi poi (poi_of kept next) ≡ false → AreRecordsOf kept poi standing → LeavesDay standing next
other-leaves-day kept next poi standing apart has header key day key_is =
    key-apart kept next key (ap (λ (p : List ℕ). is_poi p (poi_of kept next)) (own-key-poi header key key_is ∙ day-names kept poi standing header has day) ∙ apart)

-- ---- rows

-- a row keeps what is known in order where it cuts nothing, leaves the others in order where it does, and brings no items
pub record RowKeeps (known : Known) (number : ℕ) (row : Row) : Type 0 where
  pub uncut : owes_cut row.calls ≡ false → KeepsInOrder known (records_kept row.calls) row.core
  pub cut : owes_cut row.calls ≡ true → CutKeepsInOrder known number row
  pub no_items : row.items ≡ []

-- calls that keep nothing and cut nothing
pub record KeepNothing (calls : List OwedCall) : Type 0 where
  pub no_records : records_kept calls ≡ []
  pub no_cut : owes_cut calls ≡ false

pub no-calls : KeepNothing []
no-calls = record { no_records = refl; no_cut = refl }

-- so does a reply
pub replies-keep-nothing : (asker : Option ℕ) (reply : Option ReplyValue) → KeepNothing (reply_calls_to asker reply)
replies-keep-nothing None reply = record { no_records = refl; no_cut = refl }
replies-keep-nothing (Some till) None = record { no_records = refl; no_cut = refl }
replies-keep-nothing (Some till) (Some reply) = record { no_records = refl; no_cut = refl }

-- room is left where no more slots are reserved
pub same-room : (known : Known) → IsInOrder known → (core : Core) → slots_reserved core ≤ slots_reserved known.core → HasRoom known.setup.slots known.kept core
same-room known order core reserved = let room = order.room in omega (arith, room, reserved)

-- no more are where no more ends of day are served, and no more wait
pub no-more-reserved : (old new : Core) → days_served new.terminals ≤ days_served old.terminals → length new.waits ≤ length old.waits → slots_reserved new ≤ slots_reserved old
no-more-reserved old new days waits = omega (arith, days, waits)

module _ (known : Known) (order : IsInOrder known) (number : ℕ) where
  -- no record is kept
  pub none-kept : (core : Core) → HasRoom known.setup.slots known.kept core → IsNumbered core → AreTerminalsInOrder known.kept core → KeepsInOrder known [] core
  none-kept core room numbered terminals = record {
    few = omega arith;
    folded = subst AreFolded (sym (append-nil known.kept)) order.folded;
    room = subst (λ (kept : List Record). HasRoom known.setup.slots kept core) (sym (append-nil known.kept)) room;
    numbered = numbered;
    terminals = subst (λ (kept : List Record). AreTerminalsInOrder kept core) (sym (append-nil known.kept)) terminals;
  }

  -- what is remembered stays in order, and the calls keep nothing
  pub in-order-keeps : (row : Row) → KeepNothing row.calls → HasRoom known.setup.slots known.kept row.core → IsNumbered row.core → AreTerminalsInOrder known.kept row.core → row.items ≡ [] → RowKeeps known number row
  in-order-keeps row nothing room numbered terminals no_items = record {
    uncut = λ uncut. subst (λ (kept : List Record). KeepsInOrder known kept row.core) (sym nothing.no_records) (none-kept row.core room numbered terminals);
    cut = λ cut. let no : owes_cut row.calls ≡ false = nothing.no_cut in absurd cc;
    no_items = no_items;
  }

  -- nothing is owed
  pub nothing-keeps : RowKeeps known number (owing_nothing known)
  nothing-keeps = in-order-keeps (owing_nothing known) no-calls order.room order.numbered order.terminals refl

  -- the terminal becomes one that is in order, and room is left
  pub begins-with : (new : Terminal) (calls : List OwedCall) → KeepNothing calls → HasRoom known.setup.slots known.kept (with_terminal known.core number new) → IsTerminalInOrder known.kept new
      → RowKeeps known number (terminal_becomes known number new calls)
  begins-with new calls nothing room in_order =
      in-order-keeps (terminal_becomes known number new calls) nothing room order.numbered
      (with-new (IsTerminalInOrder known.kept) known.core.terminals number new (λ other terminal apart found. order.terminals other terminal found) in_order) refl

  -- so it is where it begins no end of day
  pub becomes-keeps : (old new : Terminal) (calls : List OwedCall) → terminal_at known number ≡ Some old → KeepNothing calls → days_in new.standing ≤ days_in old.standing → IsTerminalInOrder known.kept new
      → RowKeeps known number (terminal_becomes known number new calls)
  becomes-keeps old new calls here nothing days in_order =
      begins-with new calls nothing (same-room known order (with_terminal known.core number new) (no-more-reserved known.core (with_terminal known.core number new) (days-no-more known.core.terminals number old new here days) (omega arith))) in_order

  -- the terminal's connection is cut, whatever it becomes, unless it is an end of day that begins
  pub breaking-keeps : (old new : Terminal) → terminal_at known number ≡ Some old → days_in new.standing ≤ days_in old.standing → RowKeeps known number (terminal_becomes known number new (CutPt number ∷ []))
  breaking-keeps old new here days = record {
    uncut = λ uncut. absurd cc;
    cut = λ cut. record {
      none_kept = refl;
      room = same-room known order (with_terminal known.core number new) (no-more-reserved known.core (with_terminal known.core number new) (days-no-more known.core.terminals number old new here days) (omega arith));
      numbered = order.numbered;
      others = λ other terminal apart found. order.terminals other terminal (sym (others-stay known.core.terminals number other new apart) ∙ found);
    };
    no_items = refl;
  }

  -- so it is, and the terminal stays
  pub cutting-keeps : RowKeeps known number (cutting known number)
  cutting-keeps = record {
    uncut = λ uncut. absurd cc;
    cut = λ cut. record { none_kept = refl; room = order.room; numbered = order.numbered; others = λ other terminal apart found. order.terminals other terminal found };
    no_items = refl;
  }

  -- a device request that is owed leaves the terminal as it is where nothing follows
  pub device-keeps : (new : Terminal) (till : ℕ) (request : ReplyValue) → RowKeeps known number (staying known number new) → RowKeeps known number (requests_device known number new till request)
  device-keeps new till request stays =
      let was : KeepsInOrder known [] (with_terminal known.core number new) = stays.uncut refl in
      record {
        uncut = λ uncut. record { few = was.few; folded = was.folded; room = was.room; numbered = next-numbered greatest_device_number known.core.device_requests order.numbered; terminals = was.terminals };
        cut = λ cut. absurd cc;
        no_items = refl;
      }
    where
      next-numbered : (greatest n : ℕ) → n ≤ greatest → (if eqb n greatest then 0 else n + 1) ≤ greatest
      next-numbered greatest n least = by-test (eqb n greatest) refl
        where
          by-test : (b : Bool) → eqb n greatest ≡ b → (if b then 0 else n + 1) ≤ greatest
          by-test true same = omega arith
          by-test false apart = let ne : n ≢ greatest = eqb-false n greatest apart in omega (arith, least, ne)

  module _ (laws : LedgerLaws) (next : Record) (within : IsRecord next) (fitting : fits known.kept next ≡ true) where
    -- one record is kept, with which all terminals are in order
    pub one-kept : (core : Core) → length known.kept + 1 + (open_with next (open_count_of known.kept) + slots_reserved core) ≤ known.setup.slots → IsNumbered core → AreTerminalsInOrder (known.kept ++ next ∷ []) core
        → KeepsInOrder known (next ∷ []) core
    one-kept core room numbered terminals = record {
      few = omega arith;
      folded = folded-more known.kept next order.folded within fitting;
      room =
          let more : length (known.kept ++ next ∷ []) ≡ length known.kept + 1 = length-append known.kept (next ∷ []) in
          subst (λ (n : ℕ). length (known.kept ++ next ∷ []) + (n + slots_reserved core) ≤ known.setup.slots) (sym (count-more laws known.kept next))
          (subst (λ (n : ℕ). n + (open_with next (open_count_of known.kept) + slots_reserved core) ≤ known.setup.slots) (sym more) room);
      numbered = numbered;
      terminals = terminals;
    }

    -- one record of the terminal is kept, with which it is in order
    pub record-keeps : (old new : Terminal) (tail : List OwedCall) → KeepNothing tail → terminal_at known number ≡ Some old
        → length known.kept + 1 + (open_with next (open_count_of known.kept) + slots_reserved (with_terminal known.core number new)) ≤ known.setup.slots → poi_of known.kept next ≡ Some old.pt.poi → IsTerminalInOrder (known.kept ++ next ∷ []) new
        → RowKeeps known number (terminal_becomes known number new (keep_calls (length known.kept) next ++ tail))
    record-keeps old new tail nothing here room its_poi in_order = record {
      uncut = λ uncut. subst (λ (rest : List Record). KeepsInOrder known (next ∷ rest) (with_terminal known.core number new)) (sym nothing.no_records)
          (one-kept (with_terminal known.core number new) room order.numbered (with-new (IsTerminalInOrder (known.kept ++ next ∷ [])) known.core.terminals number new others in_order));
      cut = λ cut. let no : owes_cut tail ≡ false = nothing.no_cut in absurd cc;
      no_items = refl;
    }
      where
        others : (other : ℕ) (terminal : Terminal) → other ≢ number → slice_get known.core.terminals other ≡ Some terminal → IsTerminalInOrder (known.kept ++ next ∷ []) terminal
        others other terminal apart found =
            let was = order.terminals other terminal found in
            let poi : is_poi terminal.pt.poi (poi_of known.kept next) ≡ false = ap (is_poi terminal.pt.poi) its_poi ∙ apart-pois known number other old terminal order.of_setup apart here found in
            record {
              records = records-stay laws known.kept next terminal.pt.poi order.folded (other-leaves laws known.kept next terminal.pt.poi order.folded poi) terminal.standing
                  (other-leaves-day known.kept next terminal.pt.poi terminal.standing poi was.records) was.records;
              read = was.read;
            }

    -- one record is kept, and no terminal becomes another; it leaves each that there is
    pub owing-keeps : (tail : List OwedCall) → KeepNothing tail → length known.kept + 1 + (open_with next (open_count_of known.kept) + slots_reserved known.core) ≤ known.setup.slots
        → ((other : ℕ) (terminal : Terminal) → slice_get known.core.terminals other ≡ Some terminal → LeavesTerminal known.kept next terminal.pt.poi × LeavesDay terminal.standing next)
        → RowKeeps known number (owing known (keep_calls (length known.kept) next ++ tail))
    owing-keeps tail nothing room each = record {
      uncut = λ uncut. subst (λ (rest : List Record). KeepsInOrder known (next ∷ rest) known.core) (sym nothing.no_records) (one-kept known.core room order.numbered all);
      cut = λ cut. let no : owes_cut tail ≡ false = nothing.no_cut in absurd cc;
      no_items = refl;
    }
      where
        all : AreTerminalsInOrder (known.kept ++ next ∷ []) known.core
        all other terminal found =
            let was = order.terminals other terminal found in
            let left = each other terminal found in
            record { records = records-stay laws known.kept next terminal.pt.poi order.folded left.0 terminal.standing left.1 was.records; read = was.read }

-- ---- links

-- a terminal in order takes its place beside others that are
pub others-with : (kept : List Record) (core : Core) (number : ℕ) (new : Terminal) → AreOthersInOrder number kept core → IsTerminalInOrder kept new → AreTerminalsInOrder kept (with_terminal core number new)
others-with kept core number new others in_order = with-new (IsTerminalInOrder kept) core.terminals number new others in_order
