-- The stop of what a terminal serves: at which terminal it begins, and what a wish of it leaves and owes.
use Rattle.std.proofs.Common.{◌≡◌, ℕ, Bool, true, false, ◌&&◌, ◌||◌, List, [], ◌∷◌, is_some, not, refl, sym, ◌∙◌, ap, subst}
use Rattle.std.specs.Prelude.{slice_get, Option, Some, None, option_map, if◌then◌else◌}
use Rattle.gw_base.specs.declared.key.Key.{Key}
use Rattle.jrn_record.specs.declared.records.Outcome.{Outcome}
use Rattle.jrn_record.specs.declared.records.Record.{Record}
use Rattle.gw_ledger.specs.Fold.{found_of}
use Rattle.gw_ledger.specs.declared.entry.Found.{Found}
use Rattle.gw_ledger.specs.declared.entry.Found.TheVariants.{Entry, Closed}
use Rattle.sale_values.specs.Key.{key_of}
use Rattle.sale_values.specs.declared.header.Header.{Header}
use Rattle.sale_values.specs.declared.request.Reference.{Reference}
use Rattle.sale_values.specs.declared.request.SaleRequest.TheVariants as requests
use Rattle.xlate.specs.Reply.{result_body_of}
use Rattle.std.proofs.lemmas.Option.{same_Some}
use Rattle.gw_owes.specs.Core.{Core as CoreValue, Wait}
use Rattle.gw_owes.specs.Days.{is_day_served, named_serves_day, serves_day}
use Rattle.gw_owes.specs.Diagnosis.{NamedTerminal, named_terminal}
use Rattle.gw_owes.specs.Items.{Serve, Queue}
use Rattle.gw_owes.specs.KeptReplies.{is_open_found}
use Rattle.gw_owes.specs.declared.terminal.Standing.{Standing}
use Rattle.gw_owes.specs.ReadAs.{Request}
use Rattle.gw_owes.specs.Requests.{abort_items, abort_reply}
use Rattle.gw_owes.specs.Waits.{waiting_with}
use Rattle.gw_core.specs.ReplyOf.{AreSameReplies, IsGivenFor, IsServedBy}
use Rattle.gw_core.specs.declared.till.Given.TheVariants as given
use Rattle.zvt_talk.specs.Talk.{TalkFacts}
use Rattle.zvt_talk.specs.TalkSteps.{talk_after_stop_wished}
use Rattle.gw_owes.specs.Row.{Known, Row, owing_nothing}
use Rattle.gw_owes.specs.Serving.{staying, stops}
use Rattle.gw_owes.specs.Stops.{serves_any, serves_entry, serves_key, stop_items_at, wishes_stop, wishing}
use Rattle.gw_owes.specs.Terminals.{with_terminal}
use Rattle.gw_owes.specs.declared.terminal.Terminal.{Terminal}
use Rattle.gw_core.specs.Beginning.{sends_stop}
use Rattle.gw_core.specs.IsRow.{IsRow, alone}
use Rattle.gw_core.proofs.HandlingLemmas.{unchanged}

-- the terminal that is named is the one of the key, where it serves that
pub serves-there : (kept : List Record) (key : Key) (named : Option NamedTerminal) (pt : ℕ) (terminal : Terminal) → named ≡ Some (record { number = pt; terminal = terminal }) → serves_key kept key terminal ≡ true → IsServedBy kept key named (Some pt)
serves-there kept key named pt terminal is serves = subst (λ (n : Option NamedTerminal). IsServedBy kept key n (Some pt)) (sym is) (refl, serves)

-- and there is none where it doesn't
pub serves-none : (kept : List Record) (key : Key) (named : Option NamedTerminal) (pt : ℕ) (terminal : Terminal) → named ≡ Some (record { number = pt; terminal = terminal }) → serves_key kept key terminal ≡ false → IsServedBy kept key named None
serves-none kept key named pt terminal is serves = subst (λ (n : Option NamedTerminal). IsServedBy kept key n None) (sym is) serves

-- so it is of what is known, where the code has found it
pub served-of : (known : Known) (kept : List Record) (core : CoreValue) (header : Header) (reference : Reference) (key : Key) (pt : Option ℕ) → known.kept ≡ kept → known.core ≡ core → key ≡ key_of header reference
    → IsServedBy kept key (named_terminal core key.poi) pt → IsServedBy known.kept (key_of header reference) (named_terminal known.core (key_of header reference).poi) pt
served-of known kept core header reference key pt kept_is core_is key_is served =
    subst (λ (records : List Record). IsServedBy records (key_of header reference) (named_terminal known.core (key_of header reference).poi) pt) (sym kept_is)
    (subst (λ (c : CoreValue). IsServedBy kept (key_of header reference) (named_terminal c (key_of header reference).poi) pt) (sym core_is)
    (subst (λ (k : Key). IsServedBy kept k (named_terminal core k.poi) pt) key_is served))

-- what an Abort begins is the stop at the terminal that serves its key
pub stop-begun : (known : Known) (till : ℕ) (header : Header) (reference : Reference) (named : Option NamedTerminal) (pt : ℕ) → IsServedBy known.kept (key_of header reference) named (Some pt)
    → stop_items_at known till header reference named ≡ Serve pt till header (requests.Abort reference) ∷ []
stop-begun known till header reference None pt served = absurd served
stop-begun known till header reference (Some named) pt served =
    ap (λ (test : Bool). if test then Serve named.number till header (requests.Abort reference) ∷ [] else []) served.1
    ∙ ap (λ (number : ℕ). Serve number till header (requests.Abort reference) ∷ []) served.0

-- and nothing where none does
pub stop-not-begun : (known : Known) (till : ℕ) (header : Header) (reference : Reference) (named : Option NamedTerminal) → IsServedBy known.kept (key_of header reference) named None → stop_items_at known till header reference named ≡ []
stop-not-begun known till header reference None served = refl
stop-not-begun known till header reference (Some named) served = ap (λ (test : Bool). if test then Serve named.number till header (requests.Abort reference) ∷ [] else []) served

-- a key that is served is open, or is that of an end of day, so that the Abort gets no reply
found-open : (standing : Standing) (found : Option Found) → serves_any standing found ≡ true → is_open_found found ≡ true
found-open standing None serves = absurd cc
found-open standing (Some (Entry entry)) serves = by-result entry.result serves
  where
    by-result : (result : Option Outcome) → (not (is_some result) && serves_entry entry standing) ≡ true → not (is_some (result_body_of (Entry (record entry { result = result })))) ≡ true
    by-result None serves = refl
    by-result (Some outcome) serves = absurd cc
found-open standing (Some (Closed closed)) serves = absurd cc

found-or-day : (any is_day : Bool) (standing : Standing) (found : Option Found) → serves_any standing found ≡ any → (any || is_day) ≡ true → (is_open_found found || is_day) ≡ true
found-or-day true is_day standing found any_is serves = ap (λ (b : Bool). b || is_day) (found-open standing found any_is)
found-or-day false true standing found any_is serves = or-true (is_open_found found)
  where
    or-true : (b : Bool) → (b || true) ≡ true
    or-true true = refl
    or-true false = refl
found-or-day false false standing found any_is serves = absurd cc

pub served-open : (kept : List Record) (key : Key) (named : Option NamedTerminal) (pt : ℕ) → IsServedBy kept key named (Some pt) → (is_open_found (found_of kept key) || named_serves_day key named) ≡ true
served-open kept key None pt served = absurd served
served-open kept key (Some named) pt served =
    found-or-day (serves_any named.terminal.standing (found_of kept key)) (serves_day key named.terminal.standing) named.terminal.standing (found_of kept key) refl served.1

-- where no terminal serves the key, none serves an end of day of it
no-day : (any is_day : Bool) → (any || is_day) ≡ false → is_day ≡ false
no-day true is_day none = absurd cc
no-day false is_day none = none

pub no-day-served : (kept : List Record) (key : Key) (named : Option NamedTerminal) → IsServedBy kept key named None → named_serves_day key named ≡ false
no-day-served kept key None served = refl
no-day-served kept key (Some named) served = no-day (serves_any named.terminal.standing (found_of kept key)) (serves_day key named.terminal.standing) served

-- so that the reply to an Abort of it is that of an open key or of another
pub open-alone : (is_open is_day : Bool) → is_day ≡ false → (is_open || (is_day || false)) ≡ is_open
open-alone true is_day none = refl
open-alone false is_day none = ap (λ (b : Bool). b || false) none

-- where nothing waits under the key as the code has it, nothing does as it is known
pub none-known : (known : Known) (core : CoreValue) (header : Header) (reference : Reference) (key : Key) → known.core ≡ core → key ≡ key_of header reference → waiting_with key core.waits ≡ None → waiting_with (key_of header reference) known.core.waits ≡ None
none-known known core header reference key core_is key_is none =
    subst (λ (k : Key). waiting_with k known.core.waits ≡ None) key_is (subst (λ (c : CoreValue). waiting_with key c.waits ≡ None) (sym core_is) none)

-- there is nothing where nothing of it is
pub none-mapped : (waiting : Option Wait) → None ≡ option_map (λ (wait : Wait). wait.pt) waiting → waiting ≡ None
none-mapped None is = refl
none-mapped (Some wait) is = absurd cc

-- so an Abort of a key that a terminal serves is given to that, where the key doesn't wait
pub given-stop : (known : Known) (kept : List Record) (core : CoreValue) (header : Header) (reference : Reference) (key : Key) (pt : ℕ) → known.kept ≡ kept → known.core ≡ core → key ≡ key_of header reference
    → waiting_with key core.waits ≡ None → IsServedBy kept key (named_terminal core key.poi) (Some pt) → IsGivenFor known (Request header (requests.Abort reference)) (given.Begins pt header (requests.Abort reference) None)
given-stop known kept core header reference key pt kept_is core_is key_is none served =
    let own : IsServedBy known.kept (key_of header reference) (named_terminal known.core (key_of header reference).poi) (Some pt) =
    served-of known kept core header reference key (Some pt) kept_is core_is key_is served in
    record {
      reply = subst (λ (test : Bool). AreSameReplies None (abort_reply test known header))
          (sym (still-true (is_open_found (found_of known.kept (key_of header reference))) (named_serves_day (key_of header reference) (named_terminal known.core (key_of header reference).poi)) (is_some (waiting_with (key_of header reference) known.core.waits))
          (served-open known.kept (key_of header reference) (named_terminal known.core (key_of header reference).poi) pt own))) tt;
      begun = λ till. ap (abort_items known till header reference) (none-known known core header reference key core_is key_is none) ∙ stop-begun known till header reference (named_terminal known.core (key_of header reference).poi) pt own;
      prepared = tt;
    }
  where
    still-true : (a b c : Bool) → (a || b) ≡ true → (a || (b || c)) ≡ true
    still-true true b c is = refl
    still-true false true c is = refl
    still-true false false c is = absurd cc

-- one of a key that waits is given to those that wait
pub given-queue : (known : Known) (core : CoreValue) (header : Header) (reference : Reference) (key : Key) (pt : ℕ) → known.core ≡ core → key ≡ key_of header reference
    → Some pt ≡ option_map (λ (wait : Wait). wait.pt) (waiting_with key core.waits) → IsGivenFor known (Request header (requests.Abort reference)) (given.Queues pt header (requests.Abort reference))
given-queue known core header reference key pt core_is key_is there =
    let own : Some pt ≡ option_map (λ (wait : Wait). wait.pt) (waiting_with (key_of header reference) known.core.waits) =
    subst (λ (k : Key). Some pt ≡ option_map (λ (wait : Wait). wait.pt) (waiting_with k known.core.waits)) key_is
    (subst (λ (c : CoreValue). Some pt ≡ option_map (λ (wait : Wait). wait.pt) (waiting_with key c.waits)) (sym core_is) there) in
    by-wait (waiting_with (key_of header reference) known.core.waits) refl own
  where
    last-true : (a b : Bool) → (a || (b || true)) ≡ true
    last-true true b = refl
    last-true false true = refl
    last-true false false = refl

    by-wait : (waiting : Option Wait) → waiting_with (key_of header reference) known.core.waits ≡ waiting → Some pt ≡ option_map (λ (wait : Wait). wait.pt) waiting
        → IsGivenFor known (Request header (requests.Abort reference)) (given.Queues pt header (requests.Abort reference))
    by-wait None is own = absurd cc
    by-wait (Some wait) is own =
        let pt_is : pt ≡ wait.pt = same_Some pt wait.pt own in
        record {
          reply = subst (λ (waiting : Option Wait). AreSameReplies None (abort_reply (is_open_found (found_of known.kept (key_of header reference)) || (is_day_served known.core (key_of header reference) || is_some waiting)) known header)) (sym is)
              (subst (λ (test : Bool). AreSameReplies None (abort_reply test known header)) (sym (last-true (is_open_found (found_of known.kept (key_of header reference))) (is_day_served known.core (key_of header reference)))) tt);
          begun = λ till. ap (abort_items known till header reference) is ∙ ap (λ (n : ℕ). Queue n till header (requests.Abort reference) ∷ []) (sym pt_is);
          prepared = tt;
        }

-- ---- the wish

-- the terminal whose dialogue is this one
abbrev pub with_talk : Terminal → Option TalkFacts → Terminal
with_talk terminal talk = record terminal { talk = talk }

-- where a stop is sent now, the row of the wish is that of the stop
pub wish-sent : (known : Known) (pt : ℕ) (terminal : Terminal) (talk after : Option TalkFacts) (sent : Bool) → sent ≡ sends_stop talk → sent ≡ true → after ≡ option_map talk_after_stop_wished talk
    → stops known pt (with_talk terminal after) ≡ wishes_stop known pt terminal talk
wish-sent known pt terminal None after sent sent_is is after_is = absurd cc
wish-sent known pt terminal (Some talk) after sent sent_is is after_is =
    ap (λ (t : Option TalkFacts). stops known pt (with_talk terminal t)) after_is
    ∙ sym (ap (λ (b : Bool). if b then stops known pt (wishing terminal talk) else staying known pt (wishing terminal talk)) (sym sent_is ∙ is))

-- and where it isn't, nothing is owed
pub wish-kept : (known : Known) (pt : ℕ) (terminal : Terminal) (talk after : Option TalkFacts) (sent : Bool) → slice_get known.core.terminals pt ≡ Some (with_talk terminal talk) → sent ≡ sends_stop talk → sent ≡ false
    → after ≡ option_map talk_after_stop_wished talk → IsRow known.kept (wishes_stop known pt terminal talk) (with_terminal known.core pt (with_talk terminal after)) (alone None)
wish-kept known pt terminal None after sent found sent_is is after_is =
    subst (λ (t : Option TalkFacts). IsRow known.kept (owing_nothing known) (with_terminal known.core pt (with_talk terminal t)) (alone None)) (sym after_is) (unchanged known pt (with_talk terminal None) found)
wish-kept known pt terminal (Some talk) after sent found sent_is is after_is =
    let row_is : wishes_stop known pt terminal (Some talk) ≡ staying known pt (with_talk terminal after) =
    ap (λ (b : Bool). if b then stops known pt (wishing terminal talk) else staying known pt (wishing terminal talk)) (sym sent_is ∙ is)
    ∙ sym (ap (λ (t : Option TalkFacts). staying known pt (with_talk terminal t)) after_is) in
    subst (λ (row : Row). IsRow known.kept row (with_terminal known.core pt (with_talk terminal after)) (alone None)) (sym row_is) (record { core_is = refl; calls_are = refl; items_are = refl })
