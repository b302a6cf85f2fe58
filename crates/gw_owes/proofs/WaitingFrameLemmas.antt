-- What waits stays in order where the terminals keep their settings, begin no end of day under its key, and no record with its key is kept.
use Rattle.std.proofs.Common.{◌≡◌, ◌≢◌, ◌∙◌, ℕ, zero, suc, ◌+◌, Bool, true, false, eqb, List, [], ◌∷◌, ◌++◌, length, not, refl, sym, ap, subst, arith}
use Rattle.std.specs.Prelude.{All, bytes_eq, filter, if◌then◌else◌, map, set, slice_get, Option, Some, None}
use Rattle.std.proofs.lemmas.Bool.{eqb-true, eqb-false}
use Rattle.std.proofs.lemmas.List.{append-nil}
use Rattle.std.proofs.lemmas.List.Elements.{All-head, All-tail}
use Rattle.std.proofs.lemmas.Option.{same_Some}
use Rattle.std.proofs.lemmas.Slice.Eq.{bytes_eq-Decides}
use Rattle.gw_base.specs.Currency.{currency_letters}
use Rattle.gw_base.specs.declared.key.Key.{Key}
use Rattle.gw_base.specs.declared.setup.Pt.{Pt}
use Rattle.gw_base.specs.declared.setup.Setup.{Setup}
use Rattle.gw_base.specs.Setup.{HaveDistinctPois}
use Rattle.sale_values.specs.declared.request.SaleRequest.{SaleRequest}
use Rattle.sale_values.specs.declared.request.SaleRequest.TheVariants as requests
use Rattle.jrn_record.specs.declared.records.Record.{Record}
use Rattle.gw_ledger.specs.Fold.{AreFolded, found_of}
use Rattle.gw_ledger.specs.Keys.{is_key, record_key}
use Rattle.gw_owes.specs.declared.terminal.Standing.TheVariants.{Registering}
use Rattle.gw_owes.specs.declared.terminal.Terminal.{Terminal}
use Rattle.gw_owes.specs.Calls.{OwedCall, records_kept}
use Rattle.gw_owes.specs.Core.{Core, Wait}
use Rattle.gw_owes.specs.Days.{is_day_served, named_serves_day, serves_day}
use Rattle.gw_owes.specs.Diagnosis.{NamedTerminal, named_from, named_terminal}
use Rattle.gw_owes.specs.Items.{Queue}
use Rattle.gw_owes.specs.Links.{LinkIsMade, LinkHasFailed, LinkIsLost}
use Rattle.gw_owes.specs.RecordLaws.{AreOfSetup, IsReadItem}
use Rattle.gw_owes.specs.Row.{Known, Row, owing_nothing}
use Rattle.gw_owes.specs.Steps.{asks_other_currency}
use Rattle.gw_owes.specs.TerminalLaws.{settings_of}
use Rattle.gw_owes.specs.Terminals.{after_command, core_without, forgets_till, link_lost, link_made, of_terminal, registers, registration, terminal_at, terminal_becomes, unlinked_terminal, unlinks, with_terminal}
use Rattle.gw_owes.specs.WaitingLaws.{AreWaitsInOrder, EachGoneKeepsWaits, EachLinkKeepsWaits, EachMomentKeepsWaits, IsWaitInOrder, NewCoreHasNoneWaiting}
use Rattle.gw_owes.specs.Waits.{queue_of}
use Rattle.gw_owes.proofs.RecordLemmas.{LedgerLaws, still-unknown}
use Rattle.gw_owes.proofs.SetLemmas.{new-is-there, others-stay, same-stays}
use Rattle.gw_owes.proofs.WaitingListLemmas.{left-there, once-left, queue-left}

-- ---- the terminal that a POIID names

-- it is there
pub record IsNamedThere (from : ℕ) (poi : List ℕ) (terminals : List Terminal) (named : NamedTerminal) : Type 0 where
  pub at : ℕ
  pub number_is : named.number ≡ from + at
  pub there : slice_get terminals at ≡ Some named.terminal
  pub poi_is : named.terminal.pt.poi ≡ poi

named-from-there : (from : ℕ) (poi : List ℕ) (terminals : List Terminal) (named : NamedTerminal) → named_from from poi terminals ≡ Some named → IsNamedThere from poi terminals named
named-from-there from poi [] named is = absurd cc
named-from-there from poi (terminal ∷ terminals) named is = by-test (named-from-there (from + 1) poi terminals named) (bytes_eq terminal.pt.poi poi) refl is
  where
    by-test : (named_from (from + 1) poi terminals ≡ Some named → IsNamedThere (from + 1) poi terminals named) → (b : Bool) → bytes_eq terminal.pt.poi poi ≡ b
        → (if b then Some (record { number = from; terminal = terminal }) else named_from (from + 1) poi terminals) ≡ Some named → IsNamedThere from poi (terminal ∷ terminals) named
    by-test later true same here =
        let is_it : record { number = from; terminal = terminal } ≡ named = same_Some (record { number = from; terminal = terminal }) named here in
        record {
          at = 0;
          number_is = sym (ap (λ (n : NamedTerminal). n.number) is_it) ∙ omega arith;
          there = ap (λ (n : NamedTerminal). Some n.terminal) is_it;
          poi_is = ap (λ (n : NamedTerminal). n.terminal.pt.poi) (sym is_it) ∙ (bytes_eq-Decides terminal.pt.poi poi).0 same;
        }
    by-test later false apart rest =
        let more = later rest in
        let number_is = more.number_is in
        record { at = suc more.at; number_is = omega arith; there = more.there; poi_is = more.poi_is }

pub named-there : (core : Core) (poi : List ℕ) (named : NamedTerminal) → named_terminal core poi ≡ Some named → slice_get core.terminals named.number ≡ Some named.terminal
named-there core poi named is =
    let found = named-from-there 0 poi core.terminals named is in
    let number_is = found.number_is in
    let at : found.at ≡ named.number = omega arith in
    subst (λ (n : ℕ). slice_get core.terminals n ≡ Some named.terminal) at found.there

-- with the same settings the same one is named
pub record IsNamedStill (from : ℕ) (poi : List ℕ) (terminals : List Terminal) (named : NamedTerminal) : Type 0 where
  pub terminal : Terminal
  pub is : named_from from poi terminals ≡ Some (record { number = named.number; terminal = terminal })
  pub settings : terminal.pt ≡ named.terminal.pt

abbrev settings_in : List Terminal → List Pt
settings_in terminals = map (λ (t : Terminal). t.pt) terminals

named-from-still : (from : ℕ) (poi : List ℕ) (old new : List Terminal) (named : NamedTerminal) → settings_in new ≡ settings_in old → named_from from poi old ≡ Some named → IsNamedStill from poi new named
named-from-still from poi [] new named same is = absurd cc
named-from-still from poi (one ∷ old) [] named same is = absurd (let none : [] ≡ one.pt ∷ settings_in old = same in cc)
named-from-still from poi (one ∷ old) (other ∷ new) named same is =
    let head : other.pt ≡ one.pt = (let both : other.pt ∷ settings_in new ≡ one.pt ∷ settings_in old = same in cc) in
    let tail : settings_in new ≡ settings_in old = (let both : other.pt ∷ settings_in new ≡ one.pt ∷ settings_in old = same in cc) in
    by-test head (named-from-still (from + 1) poi old new named tail) (bytes_eq one.pt.poi poi) refl is
  where
    by-test : other.pt ≡ one.pt → (named_from (from + 1) poi old ≡ Some named → IsNamedStill (from + 1) poi new named) → (b : Bool) → bytes_eq one.pt.poi poi ≡ b
        → (if b then Some (record { number = from; terminal = one }) else named_from (from + 1) poi old) ≡ Some named → IsNamedStill from poi (other ∷ new) named
    by-test head later true here some =
        let is_it : record { number = from; terminal = one } ≡ named = same_Some (record { number = from; terminal = one }) named some in
        record {
          terminal = other;
          is = ap (λ (pt : Pt). if bytes_eq pt.poi poi then Some (record { number = from; terminal = other }) else named_from (from + 1) poi new) head
              ∙ ap (λ (b : Bool). if b then Some (record { number = from; terminal = other }) else named_from (from + 1) poi new) here
              ∙ ap (λ (n : NamedTerminal). Some (record { number = n.number; terminal = other })) is_it;
          settings = head ∙ ap (λ (n : NamedTerminal). n.terminal.pt) is_it;
        }
    by-test head later false apart rest =
        let more = later rest in
        record {
          terminal = more.terminal;
          is = ap (λ (pt : Pt). if bytes_eq pt.poi poi then Some (record { number = from; terminal = other }) else named_from (from + 1) poi new) head
              ∙ ap (λ (b : Bool). if b then Some (record { number = from; terminal = other }) else named_from (from + 1) poi new) apart
              ∙ more.is;
          settings = more.settings;
        }

pub named-still : (old new : Core) (poi : List ℕ) (named : NamedTerminal) → settings_of new ≡ settings_of old → named_terminal old poi ≡ Some named → IsNamedStill 0 poi new.terminals named
named-still old new poi named same is = named-from-still 0 poi old.terminals new.terminals named same is

-- what holds of all holds of each
each-has : {A : Type 0} (P : A → Type 0) (all : List A) (at : ℕ) (one : A) → All P all → slice_get all at ≡ Some one → P one
each-has P [] at one each found = absurd cc
each-has P (first ∷ rest) zero one each found = subst P (same_Some first one found) (All-head P first rest each)
each-has P (first ∷ rest) (suc at) one each found = each-has P rest at one (All-tail P first rest each) found

pub its-settings : (terminals : List Terminal) (at : ℕ) (terminal : Terminal) → slice_get terminals at ≡ Some terminal → slice_get (settings_in terminals) at ≡ Some terminal.pt
its-settings [] at terminal found = absurd cc
its-settings (first ∷ rest) zero terminal found = ap (λ (t : Terminal). Some t.pt) (same_Some first terminal found)
its-settings (first ∷ rest) (suc at) terminal found = its-settings rest at terminal found

-- where no two terminals have one POIID, the one that has it is named
others-apart : (pts : List Pt) (poi : List ℕ) (at : ℕ) (pt : Pt) → HaveDistinctPois (pt ∷ pts) → (other : Pt) → slice_get pts at ≡ Some other → other.poi ≡ poi → bytes_eq pt.poi poi ≡ false
others-apart pts poi at pt distinct other found poi_is = by-test (bytes_eq pt.poi poi) refl
  where
    by-test : (b : Bool) → bytes_eq pt.poi poi ≡ b → bytes_eq pt.poi poi ≡ false
    by-test false is = is
    by-test true is = absurd (each-has (λ (p : Pt). pt.poi ≢ p.poi) pts at other distinct.0 found ((bytes_eq-Decides pt.poi poi).0 is ∙ sym poi_is))

named-from-is : (from : ℕ) (poi : List ℕ) (terminals : List Terminal) (at : ℕ) (terminal : Terminal) → HaveDistinctPois (settings_in terminals) → slice_get terminals at ≡ Some terminal → terminal.pt.poi ≡ poi
    → named_from from poi terminals ≡ Some (record { number = from + at; terminal = terminal })
named-from-is from poi [] at terminal distinct found poi_is = absurd cc
named-from-is from poi (first ∷ rest) zero terminal distinct found poi_is =
    let same : first ≡ terminal = same_Some first terminal found in
    let here : bytes_eq first.pt.poi poi ≡ true = (bytes_eq-Decides first.pt.poi poi).1 (ap (λ (t : Terminal). t.pt.poi) same ∙ poi_is) in
    ap (λ (b : Bool). if b then Some (record { number = from; terminal = first }) else named_from (from + 1) poi rest) here
    ∙ ap (λ (t : Terminal). Some (record { number = from; terminal = t })) same ∙ ap (λ (n : ℕ). Some (record { number = n; terminal = terminal })) (omega arith)
named-from-is from poi (first ∷ rest) (suc at) terminal distinct found poi_is =
    let apart : bytes_eq first.pt.poi poi ≡ false = others-apart (settings_in rest) poi at first.pt distinct terminal.pt (its-settings rest at terminal found) poi_is in
    ap (λ (b : Bool). if b then Some (record { number = from; terminal = first }) else named_from (from + 1) poi rest) apart
    ∙ named-from-is (from + 1) poi rest at terminal distinct.1 found poi_is ∙ ap (λ (n : ℕ). Some (record { number = n; terminal = terminal })) (omega arith)

pub named-is : (known : Known) (number : ℕ) (terminal : Terminal) (poi : List ℕ) → AreOfSetup known.core known.setup → terminal_at known number ≡ Some terminal → terminal.pt.poi ≡ poi
    → named_terminal known.core poi ≡ Some (record { number = number; terminal = terminal })
named-is known number terminal poi of_setup found poi_is =
    named-from-is 0 poi known.core.terminals number terminal (subst HaveDistinctPois (sym of_setup.settings) of_setup.within.distinct) found poi_is ∙ ap (λ (n : ℕ). Some (record { number = n; terminal = terminal })) (omega arith)

-- ---- one that waits

currency-same : (request : SaleRequest) (number : ℕ) (one other : Terminal) → one.pt ≡ other.pt
    → asks_other_currency request (Some (record { number = number; terminal = one })) ≡ asks_other_currency request (Some (record { number = number; terminal = other }))
currency-same requests.Login number one other same = refl
currency-same requests.Logout number one other same = refl
currency-same (requests.Payment ask) number one other same = ap (λ (pt : Pt). not (bytes_eq ask.currency (currency_letters pt.currency))) same
currency-same (requests.Reversal ask) number one other same = refl
currency-same (requests.Abort reference) number one other same = refl
currency-same (requests.Status reference) number one other same = refl
currency-same (requests.Reconciliation period) number one other same = refl
currency-same (requests.Display outputs) number one other same = refl
currency-same (requests.Print qualifier) number one other same = refl
currency-same requests.Diagnosis number one other same = refl

-- it stays in order with the same settings, where its key stays unknown and isn't that of an end of day that is served
pub carried-wait : (known other : Known) (wait : Wait) → other.setup ≡ known.setup → settings_of other.core ≡ settings_of known.core → found_of other.kept wait.key ≡ None → is_day_served other.core wait.key ≡ false
    → IsWaitInOrder known wait → IsWaitInOrder other wait
carried-wait known other wait setup settings unknown no_day was =
    let named = named-still known.core other.core wait.key.poi (record { number = wait.pt; terminal = was.terminal }) settings was.named in
    record {
      key = was.key;
      unknown = unknown;
      no_day = no_day;
      terminal = named.terminal;
      named = named.is;
      may = was.may;
      currency = currency-same wait.request wait.pt named.terminal was.terminal named.settings ∙ was.currency;
      read = subst (λ (s : Setup). IsReadItem s (Queue wait.pt wait.till wait.header wait.request)) (sym setup) was.read;
    }

-- the terminal for which it waits serves no end of day of its key
pub day-before : (known : Known) (wait : Wait) (was : IsWaitInOrder known wait) → serves_day wait.key was.terminal.standing ≡ false
day-before known wait was = sym (ap (named_serves_day wait.key) was.named) ∙ was.no_day

-- so it is of another core where it is of its terminal there
pub no-day-still : (known : Known) (core : Core) (wait : Wait) → settings_of core ≡ settings_of known.core → IsWaitInOrder known wait
    → ((terminal : Terminal) → slice_get core.terminals wait.pt ≡ Some terminal → serves_day wait.key terminal.standing ≡ false) → is_day_served core wait.key ≡ false
no-day-still known core wait settings was each =
    let named = named-still known.core core wait.key.poi (record { number = wait.pt; terminal = was.terminal }) settings was.named in
    ap (named_serves_day wait.key) named.is ∙ each named.terminal (named-there core wait.key.poi (record { number = wait.pt; terminal = named.terminal }) named.is)

-- ---- all that wait

-- those that are left are in order where each of them is
pub carried-waits : (known other : Known) (test : Wait → Bool) → other.setup ≡ known.setup → other.core.waits ≡ filter test known.core.waits
    → ((at : ℕ) (wait : Wait) → slice_get known.core.waits at ≡ Some wait → test wait ≡ true → IsWaitInOrder known wait → IsWaitInOrder other wait) → AreWaitsInOrder known → AreWaitsInOrder other
carried-waits known other test setup waits still were = record {
  each = λ at wait found.
      let left = left-there test known.core.waits at wait (sym (ap (λ (all : List Wait). slice_get all at) waits) ∙ found) in
      still left.place wait left.there left.passes (were.each left.place wait left.there);
  once = λ one two first second here there same.
      once-left test known.core.waits were.once one two first second (sym (ap (λ (all : List Wait). slice_get all one) waits) ∙ here) (sym (ap (λ (all : List Wait). slice_get all two) waits) ∙ there) same;
  few = λ number.
      let fewer = queue-left number test known.core.waits in
      let few = were.few number in
      let length_is : length (queue_of number other.core.waits) ≡ length (queue_of number (filter test known.core.waits)) = ap (λ (all : List Wait). length (queue_of number all)) waits in
      let line_is : other.setup.line ≡ known.setup.line = ap (λ (s : Setup). s.line) setup in
      omega (arith, fewer, few, length_is, line_is);
}

-- so it is where all are left
pub carried-same : (known other : Known) → other.setup ≡ known.setup → other.core.waits ≡ known.core.waits
    → ((at : ℕ) (wait : Wait) → slice_get known.core.waits at ≡ Some wait → IsWaitInOrder known wait → IsWaitInOrder other wait) → AreWaitsInOrder known → AreWaitsInOrder other
carried-same known other setup waits still were = record {
  each = λ at wait found. let there = sym (ap (λ (all : List Wait). slice_get all at) waits) ∙ found in still at wait there (were.each at wait there);
  once = λ one two first second here there same.
      were.once one two first second (sym (ap (λ (all : List Wait). slice_get all one) waits) ∙ here) (sym (ap (λ (all : List Wait). slice_get all two) waits) ∙ there) same;
  few = λ number.
      let few = were.few number in
      let length_is : length (queue_of number other.core.waits) ≡ length (queue_of number known.core.waits) = ap (λ (all : List Wait). length (queue_of number all)) waits in
      let line_is : other.setup.line ≡ known.setup.line = ap (λ (s : Setup). s.line) setup in
      omega (arith, few, length_is, line_is);
}

-- ---- rows

-- what is known once a row was left, with the records that it keeps
abbrev pub known_after : Known → Row → Known
known_after known row = record known { core = row.core; kept = known.kept ++ records_kept row.calls }

-- one that waits stays unknown, and no end of day of its key is served
pub record LeavesWait (known : Known) (row : Row) (wait : Wait) : Type 0 where
  pub unknown : found_of (known.kept ++ records_kept row.calls) wait.key ≡ None
  pub no_day : is_day_served row.core wait.key ≡ false

-- a row leaves those that wait as they are
pub record LeavesWaits (known : Known) (row : Row) : Type 0 where
  pub waits : row.core.waits ≡ known.core.waits
  pub settings : settings_of row.core ≡ settings_of known.core
  pub each : (at : ℕ) (wait : Wait) → slice_get known.core.waits at ≡ Some wait → IsWaitInOrder known wait → LeavesWait known row wait

-- then they stay in order
pub left-in-order : (known : Known) (row : Row) → LeavesWaits known row → AreWaitsInOrder known → AreWaitsInOrder (known_after known row)
left-in-order known row leaves were =
    carried-same known (known_after known row) refl leaves.waits
    (λ at wait there was. let left = leaves.each at wait there was in carried-wait known (known_after known row) wait refl leaves.settings left.unknown left.no_day was) were

-- calls that add no record with this key
pub record AddNothing (known : Known) (calls : List OwedCall) (key : Key) : Type 0 where
  pub stays : found_of known.kept key ≡ None → found_of (known.kept ++ records_kept calls) key ≡ None

pub no-records-add : (known : Known) (calls : List OwedCall) (key : Key) → records_kept calls ≡ [] → AddNothing known calls key
no-records-add known calls key none = record {
  stays = λ unknown. subst (λ (records : List Record). found_of (known.kept ++ records) key ≡ None) (sym none) (subst (λ (kept : List Record). found_of kept key ≡ None) (sym (append-nil known.kept)) unknown);
}

pub one-record-adds : (laws : LedgerLaws) (known : Known) (next : Record) (calls : List OwedCall) (key : Key) → AreFolded known.kept → records_kept calls ≡ next ∷ [] → is_key key (record_key next) ≡ false → AddNothing known calls key
one-record-adds laws known next calls key folded one apart = record {
  stays = λ unknown. subst (λ (records : List Record). found_of (known.kept ++ records) key ≡ None) (sym one) (still-unknown laws known.kept next folded key apart unknown);
}

-- a row that leaves what is remembered and keeps nothing
pub same-leaves : (known : Known) (row : Row) → row.core.waits ≡ known.core.waits → row.core.terminals ≡ known.core.terminals → records_kept row.calls ≡ [] → LeavesWaits known row
same-leaves known row waits terminals none = record {
  waits = waits;
  settings = ap settings_in terminals;
  each = λ at wait there was. record {
    unknown = (no-records-add known row.calls wait.key none).stays was.unknown;
    no_day = ap (λ (all : List Terminal). named_serves_day wait.key (named_from 0 wait.key.poi all)) terminals ∙ was.no_day;
  };
}

pub nothing-leaves : (known : Known) → LeavesWaits known (owing_nothing known)
nothing-leaves known = same-leaves known (owing_nothing known) refl refl refl

-- the terminal of this number becomes another with its settings, that begins no end of day under the key of one that waits
pub becomes-leaves : (known : Known) (number : ℕ) (old new : Terminal) (calls : List OwedCall) → terminal_at known number ≡ Some old → new.pt ≡ old.pt
    → ((at : ℕ) (wait : Wait) → slice_get known.core.waits at ≡ Some wait → IsWaitInOrder known wait → AddNothing known calls wait.key)
    → ((at : ℕ) (wait : Wait) → slice_get known.core.waits at ≡ Some wait → IsWaitInOrder known wait → serves_day wait.key old.standing ≡ false → serves_day wait.key new.standing ≡ false)
    → LeavesWaits known (terminal_becomes known number new calls)
becomes-leaves known number old new calls here same adds days = record {
  waits = refl;
  settings = settings;
  each = λ at wait there was. record { unknown = (adds at wait there was).stays was.unknown; no_day = no-day-still known (with_terminal known.core number new) wait settings was (stands at wait there was) };
}
  where
    settings : settings_of (with_terminal known.core number new) ≡ settings_of known.core
    settings = same-stays (λ (t : Terminal). t.pt) known.core.terminals number old new here same

    stands : (at : ℕ) (wait : Wait) → slice_get known.core.waits at ≡ Some wait → (was : IsWaitInOrder known wait) → (terminal : Terminal) → slice_get (set known.core.terminals number new) wait.pt ≡ Some terminal
        → serves_day wait.key terminal.standing ≡ false
    stands at wait there was terminal found = by-number (eqb wait.pt number) refl
      where
        before : slice_get known.core.terminals wait.pt ≡ Some was.terminal
        before = named-there known.core wait.key.poi (record { number = wait.pt; terminal = was.terminal }) was.named

        by-number : (b : Bool) → eqb wait.pt number ≡ b → serves_day wait.key terminal.standing ≡ false
        by-number true is =
            let number_is : wait.pt ≡ number = eqb-true wait.pt number is in
            let old_is : was.terminal ≡ old = same_Some was.terminal old (sym before ∙ ap (λ (n : ℕ). slice_get known.core.terminals n) number_is ∙ here) in
            let new_is : new ≡ terminal = same_Some new terminal (sym (new-is-there known.core.terminals number old new here) ∙ ap (λ (n : ℕ). slice_get (set known.core.terminals number new) n) (sym number_is) ∙ found) in
            subst (λ (t : Terminal). serves_day wait.key t.standing ≡ false) new_is
            (days at wait there was (subst (λ (t : Terminal). serves_day wait.key t.standing ≡ false) old_is (day-before known wait was)))
        by-number false apart =
            let same_one : was.terminal ≡ terminal = same_Some was.terminal terminal (sym before ∙ sym (others-stay known.core.terminals number wait.pt new (eqb-false wait.pt number apart)) ∙ found) in
            subst (λ (t : Terminal). serves_day wait.key t.standing ≡ false) same_one (day-before known wait was)

-- ---- links, tills that are gone, and moments

lost-leaves : (known : Known) (number : ℕ) → LeavesWaits known (record { core = (link_lost known number).core; calls = []; items = [] })
lost-leaves known number = by-found (terminal_at known number) refl
  where
    by-found : (found : Option Terminal) → terminal_at known number ≡ found → LeavesWaits known (record { core = (of_terminal known (unlinks known number) found).core; calls = []; items = [] })
    by-found None none = nothing-leaves known
    by-found (Some terminal) is =
        becomes-leaves known number terminal (unlinked_terminal terminal known.moment) [] is refl (λ at wait there was. no-records-add known [] wait.key refl) (λ at wait there was no. refl)

made-leaves : (known : Known) (number : ℕ) → LeavesWaits known (record { core = (link_made known number).core; calls = []; items = [] })
made-leaves known number = by-found (terminal_at known number) refl
  where
    by-found : (found : Option Terminal) → terminal_at known number ≡ found → LeavesWaits known (record { core = (of_terminal known (registers known number) found).core; calls = []; items = [] })
    by-found None none = nothing-leaves known
    by-found (Some terminal) is =
        becomes-leaves known number terminal (after_command (record terminal { awaited = 0 }) (registration terminal.pt) Registering known.moment) [] is refl (λ at wait there was. no-records-add known [] wait.key refl) (λ at wait there was no. refl)

-- with no record it stays in order
quietly : (known : Known) (core : Core) → LeavesWaits known (record { core = core; calls = []; items = [] }) → AreWaitsInOrder known → AreWaitsInOrder (record known { core = core })
quietly known core leaves were =
    carried-same known (record known { core = core }) refl leaves.waits (λ at wait there was. carried-wait known (record known { core = core }) wait refl leaves.settings was.unknown (leaves.each at wait there was).no_day was) were

pub links-keep-waits : EachLinkKeepsWaits
links-keep-waits known number LinkIsMade were = quietly known (link_made known number).core (made-leaves known number) were
links-keep-waits known number LinkHasFailed were = quietly known (link_lost known number).core (lost-leaves known number) were
links-keep-waits known number LinkIsLost were = quietly known (link_lost known number).core (lost-leaves known number) were

forgotten-settings : (till : ℕ) (terminals : List Terminal) → settings_in (map (forgets_till till) terminals) ≡ settings_in terminals
forgotten-settings till [] = refl
forgotten-settings till (first ∷ rest) = ap (λ (pts : List Pt). first.pt ∷ pts) (forgotten-settings till rest)

forgotten-day : (till : ℕ) (key : Key) (number : ℕ) (terminals : List Terminal) → named_serves_day key (named_from number key.poi (map (forgets_till till) terminals)) ≡ named_serves_day key (named_from number key.poi terminals)
forgotten-day till key number [] = refl
forgotten-day till key number (first ∷ rest) = by-test (bytes_eq first.pt.poi key.poi) (forgotten-day till key (number + 1) rest)
  where
    by-test : (b : Bool) → named_serves_day key (named_from (number + 1) key.poi (map (forgets_till till) rest)) ≡ named_serves_day key (named_from (number + 1) key.poi rest)
        → named_serves_day key (if b then Some (record { number = number; terminal = forgets_till till first }) else named_from (number + 1) key.poi (map (forgets_till till) rest))
        ≡ named_serves_day key (if b then Some (record { number = number; terminal = first }) else named_from (number + 1) key.poi rest)
    by-test true later = refl
    by-test false later = later

pub gone-keeps-waits : EachGoneKeepsWaits
gone-keeps-waits known till were =
    carried-waits known (record known { core = core_without known.core till }) (λ (wait : Wait). not (eqb wait.till till)) refl refl
    (λ at wait there passes was. carried-wait known (record known { core = core_without known.core till }) wait refl (forgotten-settings till known.core.terminals) was.unknown (forgotten-day till wait.key 0 known.core.terminals ∙ was.no_day) was) were

pub moments-keep-waits : EachMomentKeepsWaits
moments-keep-waits known moment were = carried-same known (record known { moment = moment }) refl refl (λ at wait there was. carried-wait known (record known { moment = moment }) wait refl refl was.unknown was.no_day was) were

pub new-has-none-waiting : NewCoreHasNoneWaiting
new-has-none-waiting setup kept moment = record {
  each = λ at wait found. absurd cc;
  once = λ one other first second here there same. absurd cc;
  few = λ number. omega arith;
}
