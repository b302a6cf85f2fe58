-- In a round of a lawful log each request that has waited for too long is still to be looked at, in the order of the deadlines.
use Rattle.std.proofs.Common.{◌≡◌, ◌⊎◌, inl, inr, ◌≤◌, ◌+◌, ℕ, pos, List, [], ◌∷◌, ◌++◌, length, refl, sym, ◌∙◌, ap, subst, append-nil, arith, Bool, true, false, Option, Some, None}
use Rattle.std.specs.Prelude.{int_lt, nat_lt, map, filter, not, is_some, option_and_then, if◌then◌else◌}
use Rattle.std.specs.List.{flat_map}
use Rattle.std.proofs.lemmas.Bool.{or_parts}
use Rattle.std.proofs.lemmas.Bool.Decides.{nat_tests}
use Rattle.gw_base.specs.Setup.{IsSetup}
use Rattle.gw_base.specs.declared.condition.Condition.TheVariants.{Aborted}
use Rattle.gw_base.specs.declared.key.Key.{Key}
use Rattle.gw_base.specs.declared.setup.Setup.{Setup}
use Rattle.gw_ledger.specs.Keys.{same_key}
use Rattle.sale_values.specs.Key.{key_of}
use Rattle.sale_values.specs.declared.header.Header.{Header}
use Rattle.sale_values.specs.declared.request.SaleRequest.{SaleRequest}
use Rattle.sale_values.specs.declared.request.SaleRequest.TheVariants as requests
use Rattle.zvt_apdu.specs.Grammar.{ApduValue}
use Rattle.sale_frame.specs.Decode.{DecodedFrames, decode_after, decode_frames}
use Rattle.zvt_apdu.specs.Decode.{decode_apdu}
use Rattle.zvt_apdu.specs.DecodeStream.{DecodedApdus, decode_apdus}
use Rattle.gw_site.specs.Observed.{Observed}
use Rattle.gw_site.specs.Outside.{Connection, heard_on, is_connected}
use Rattle.gw_site.specs.declared.turn.Turn.{Turn}
use Rattle.gw_site.specs.declared.turn.Turn.TheVariants.{Start, OpenFailed, Polled, Opened, HeardTill, Closed, HeardPt, Lost, Stopped, Linked, LinkFailed, SentTill, SentPt, CutTill as TillCut, CutPt, Wrote, Synced, DiskFailed, Crash}
use Rattle.gw_owes.specs.declared.terminal.Terminal.{Terminal}
use Rattle.gw_owes.specs.Calls.{OwedCall, CutTill}
use Rattle.gw_owes.specs.Core.{Core, Wait}
use Rattle.gw_owes.specs.Diagnosis.{NamedTerminal, named_terminal}
use Rattle.gw_owes.specs.Events.{apdu_items, decoded_apdu_items, decoded_items, for_each_terminal, has_bad_length, is_oversized, items_due, pt_bytes_items, till_bytes_items, till_opened_items, waits_by_deadline}
use Rattle.gw_owes.specs.Items.{RoundItem, Crowded, Message, Asked, Unframed, Gone, Greet, Handle, Serve, Queue, NextWaiting, Oversized, LinkLost, Late, Overdue, Due}
use Rattle.gw_owes.specs.Links.{LinkEvent, LinkIsMade, LinkHasFailed, LinkIsLost, link_row}
use Rattle.gw_owes.specs.PaymentLaws.{is_asked_item}
use Rattle.gw_owes.specs.ReadAs.{ReadAs, Request, Silent, NoMessage, NoJson}
use Rattle.gw_owes.specs.Requests.{abort_items, begun_by}
use Rattle.gw_owes.specs.Row.{Known, Row, owing, owing_where}
use Rattle.gw_owes.specs.Rows.{row_of, asked_row}
use Rattle.gw_owes.specs.Steps.{StepResult, KeptReply, Fails, Begins, Waits, items_of_result}
use Rattle.gw_owes.specs.Stops.{stop_items_at}
use Rattle.gw_owes.specs.Terminals.{registers, unlinks}
use Rattle.gw_owes.specs.WaitingRows.{is_overdue, of_waiting, overdue_row, taken_out, wait_of}
use Rattle.gw_owes.specs.Waits.{waiting_for, waiting_with}
use Rattle.gw_owes.proofs.AskedLemmas.{only-asked-begins}
use Rattle.gw_owes.proofs.HandlingLemmas.{by-where, each-terminal}
use Rattle.gw_owes.proofs.NextLemmas.{JoinsAt, each-next, each-overdue, each-queued}
use Rattle.gw_owes.proofs.PaymentLemmas.{waits-steps}
use Rattle.gw_owes.proofs.RecordLemmas.{same-key-is}
use Rattle.gw_owes.proofs.TerminalLemmas.{link-leaves-waits, row-leaves-waits}
use Rattle.gw_rules.specs.Lawful.{Allowed, AllowedTurn, IsCourse, Stands, may_begin}
use Rattle.gw_rules.specs.Scene.{Scene, known_in, row_at, row_in}
use Rattle.gw_rules.specs.Stage.{Stage, Resting, Opening, Looking, AtPoll, Handling, Over, Broken, busy, is_round, is_running, stage_synced, stage_wrote}
use Rattle.gw_rules.specs.Triple.{Triple}
use Rattle.gw_rules.specs.View.{View, Move, Begin, Read, Make, after, after_turn, at_first, begin, by_row, called, later, read_first, view_from}
use Rattle.gw_dispatch.specs.Overdue.{overdue_keys}
use Rattle.gw_dispatch.proofs.DueLemmas.{AreKeysApart, AreSomeOf, HasNoKey, IsAmong, among-with, apart-by-deadline, apart-more, apart-some, kept-some, overdue-among, overdue-more, overdue-some, overdue_of, some-kept, tie, with-among, with-none}

-- ---- the keys of items

pub keys-append : (items more : List RoundItem) → overdue_keys (items ++ more) ≡ overdue_keys items ++ overdue_keys more
keys-append [] more = refl
keys-append (Crowded till ∷ items) more = keys-append items more
keys-append (Message till bytes ∷ items) more = keys-append items more
keys-append (Asked till as_read ∷ items) more = keys-append items more
keys-append (Unframed till ∷ items) more = keys-append items more
keys-append (Gone till ∷ items) more = keys-append items more
keys-append (Greet number apdu ∷ items) more = keys-append items more
keys-append (Handle number apdu ∷ items) more = keys-append items more
keys-append (Serve number till header request ∷ items) more = keys-append items more
keys-append (Queue number till header request ∷ items) more = keys-append items more
keys-append (NextWaiting number ∷ items) more = keys-append items more
keys-append (Oversized number ∷ items) more = keys-append items more
keys-append (LinkLost number ∷ items) more = keys-append items more
keys-append (Late number ∷ items) more = keys-append items more
keys-append (Overdue key ∷ items) more = ap (λ keys. key ∷ keys) (keys-append items more)
keys-append (Due number ∷ items) more = keys-append items more

-- items without such keys, before others
keys-after : (items more : List RoundItem) → overdue_keys items ≡ [] → overdue_keys (items ++ more) ≡ overdue_keys more
keys-after items more none = keys-append items more ∙ ap (λ keys. keys ++ overdue_keys more) none

abbrev pub keys_of : List Wait → List Key
keys_of waits = map (λ (wait : Wait). wait.key) waits

keys-waits : (waits : List Wait) → overdue_keys (map (λ (wait : Wait). Overdue wait.key) waits) ≡ keys_of waits
keys-waits [] = refl
keys-waits (wait ∷ waits) = ap (λ keys. wait.key ∷ keys) (keys-waits waits)

keys-late : (number : ℕ) (terminals : List Terminal) → overdue_keys (for_each_terminal number Late terminals) ≡ []
keys-late number [] = refl
keys-late number (terminal ∷ terminals) = keys-late (number + 1) terminals

keys-due : (number : ℕ) (terminals : List Terminal) → overdue_keys (for_each_terminal number Due terminals) ≡ []
keys-due number [] = refl
keys-due number (terminal ∷ terminals) = keys-due (number + 1) terminals

keys-of-due : (core : Core) → overdue_keys (items_due core) ≡ keys_of (waits_by_deadline core.waits)
keys-of-due core =
    keys-after (for_each_terminal 0 Late core.terminals) _ (keys-late 0 core.terminals) ∙ keys-append (map (λ (wait : Wait). Overdue wait.key) (waits_by_deadline core.waits)) (for_each_terminal 0 Due core.terminals)
    ∙ ap (λ keys. overdue_keys (map (λ (wait : Wait). Overdue wait.key) (waits_by_deadline core.waits)) ++ keys) (keys-due 0 core.terminals) ∙ no-more (overdue_keys (map (λ (wait : Wait). Overdue wait.key) (waits_by_deadline core.waits)))
    ∙ keys-waits (waits_by_deadline core.waits)
  where
    no-more : (keys : List Key) → keys ++ [] ≡ keys
    no-more keys = append-nil keys

keys-messages : (till : ℕ) (payloads : List (List ℕ)) → overdue_keys (map (Message till) payloads) ≡ []
keys-messages till [] = refl
keys-messages till (payload ∷ payloads) = keys-messages till payloads

keys-where : (test : Bool) (item : RoundItem) → overdue_keys (item ∷ []) ≡ [] → overdue_keys (if test then item ∷ [] else []) ≡ []
keys-where true item none = none
keys-where false item none = refl

keys-apdus : (number : ℕ) (apdus : List ApduValue) → overdue_keys (flat_map (apdu_items number) apdus) ≡ []
keys-apdus number [] = refl
keys-apdus number (apdu ∷ apdus) = keys-apdus number apdus

keys-decoded : (till : ℕ) (decoded : DecodedFrames) → overdue_keys (decoded_items till decoded) ≡ []
keys-decoded till decoded =
    keys-after (map (Message till) decoded.payloads) (if has_bad_length decoded.rest then Unframed till ∷ [] else []) (keys-messages till decoded.payloads) ∙ keys-where (has_bad_length decoded.rest) (Unframed till) refl

keys-decoded-apdus : (number : ℕ) (decoded : DecodedApdus) → overdue_keys (decoded_apdu_items number decoded) ≡ []
keys-decoded-apdus number decoded =
    keys-after (flat_map (apdu_items number) decoded.apdus) (if is_oversized (decode_apdu decoded.rest) then Oversized number ∷ [] else []) (keys-apdus number decoded.apdus) ∙ keys-where (is_oversized (decode_apdu decoded.rest)) (Oversized number) refl

keys-till-bytes : (till : ℕ) (heard chunk : List ℕ) → overdue_keys (till_bytes_items till heard chunk) ≡ []
keys-till-bytes till heard chunk = keys-decoded till (decode_after (decode_frames heard).rest chunk)

keys-pt-bytes : (number : ℕ) (heard chunk : List ℕ) → overdue_keys (pt_bytes_items number heard chunk) ≡ []
keys-pt-bytes number heard chunk = keys-decoded-apdus number (decode_apdus ((decode_apdus heard).rest ++ chunk))

keys-opened : (till : ℕ) (tills : List Connection) → overdue_keys (till_opened_items till tills) ≡ []
keys-opened till tills = by_test (nat_lt (length tills) 64)
  where
    by_test : (test : Bool) → overdue_keys (if test then [] else Crowded till ∷ []) ≡ []
    by_test true = refl
    by_test false = refl

keys-read : (as_read : ReadAs) (items : List RoundItem) → overdue_keys (read_first as_read items) ≡ overdue_keys items
keys-read as_read [] = refl
keys-read as_read (Crowded till ∷ items) = refl
keys-read as_read (Message till bytes ∷ items) = refl
keys-read as_read (Asked till other ∷ items) = refl
keys-read as_read (Unframed till ∷ items) = refl
keys-read as_read (Gone till ∷ items) = refl
keys-read as_read (Greet number apdu ∷ items) = refl
keys-read as_read (Handle number apdu ∷ items) = refl
keys-read as_read (Serve number till header request ∷ items) = refl
keys-read as_read (Queue number till header request ∷ items) = refl
keys-read as_read (NextWaiting number ∷ items) = refl
keys-read as_read (Oversized number ∷ items) = refl
keys-read as_read (LinkLost number ∷ items) = refl
keys-read as_read (Late number ∷ items) = refl
keys-read as_read (Overdue key ∷ items) = refl
keys-read as_read (Due number ∷ items) = refl

-- ---- what a row brings

keys-result : (till : ℕ) (header : Header) (request : SaleRequest) (named : Option NamedTerminal) (result : StepResult) → overdue_keys (items_of_result till header request named result) ≡ []
keys-result till header request None result = refl
keys-result till header request (Some named) KeptReply = refl
keys-result till header request (Some named) (Fails condition) = refl
keys-result till header request (Some named) Begins = refl
keys-result till header request (Some named) Waits = refl

keys-begun : (known : Known) (till : ℕ) (as_read : ReadAs) → overdue_keys (begun_by known till as_read) ≡ []
keys-begun known till (Request header requests.Login) = keys-result till header requests.Login (named_terminal known.core header.poi) _
keys-begun known till (Request header requests.Logout) = keys-result till header requests.Logout (named_terminal known.core header.poi) _
keys-begun known till (Request header (requests.Payment ask)) = keys-result till header (requests.Payment ask) (named_terminal known.core header.poi) _
keys-begun known till (Request header (requests.Reversal ask)) = keys-result till header (requests.Reversal ask) (named_terminal known.core header.poi) _
keys-begun known till (Request header (requests.Abort reference)) = by_waiting (waiting_with (key_of header reference) known.core.waits)
  where
    by_named : (named : Option NamedTerminal) → overdue_keys (stop_items_at known till header reference named) ≡ []
    by_named None = refl
    by_named (Some named) = keys-where _ (Serve named.number till header (requests.Abort reference)) refl

    by_waiting : (found : Option Wait) → overdue_keys (abort_items known till header reference found) ≡ []
    by_waiting None = by_named (named_terminal known.core (key_of header reference).poi)
    by_waiting (Some wait) = refl
keys-begun known till (Request header (requests.Status reference)) = refl
keys-begun known till (Request header (requests.Reconciliation period)) = keys-result till header (requests.Reconciliation period) (named_terminal known.core header.poi) _
keys-begun known till (Request header (requests.Display outputs)) = keys-result till header (requests.Display outputs) (named_terminal known.core header.poi) _
keys-begun known till (Request header (requests.Print qualifier)) = refl
keys-begun known till (Request header requests.Diagnosis) = refl
keys-begun known till Silent = refl
keys-begun known till (NoMessage fault) = refl
keys-begun known till (NoJson fault) = refl

other-keys : (tills : List Connection) (known : Known) (item : RoundItem) → is_asked_item item ≡ false → overdue_keys (row_of tills known item).items ≡ []
other-keys tills known item other = elim (only-asked-begins tills known item other) [ inl none ↦ ap overdue_keys none | inr looks ↦ ap overdue_keys looks.items_are ]

row-keys : (tills : List Connection) (known : Known) (item : RoundItem) → overdue_keys (row_of tills known item).items ≡ []
row-keys tills known (Crowded till) = refl
row-keys tills known (Message till bytes) = refl
row-keys tills known (Asked till as_read) = by-where (λ (row : Row). overdue_keys row.items ≡ []) known (asked_row known till as_read) (is_connected tills till) refl (λ there. keys-begun known till as_read)
row-keys tills known (Unframed till) = other-keys tills known (Unframed till) refl
row-keys tills known (Gone till) = refl
row-keys tills known (Greet number apdu) = other-keys tills known (Greet number apdu) refl
row-keys tills known (Handle number apdu) = other-keys tills known (Handle number apdu) refl
row-keys tills known (Serve number till header request) = other-keys tills known (Serve number till header request) refl
row-keys tills known (Queue number till header request) = other-keys tills known (Queue number till header request) refl
row-keys tills known (NextWaiting number) = other-keys tills known (NextWaiting number) refl
row-keys tills known (Oversized number) = other-keys tills known (Oversized number) refl
row-keys tills known (LinkLost number) = other-keys tills known (LinkLost number) refl
row-keys tills known (Late number) = other-keys tills known (Late number) refl
row-keys tills known (Overdue key) = other-keys tills known (Overdue key) refl
row-keys tills known (Due number) = other-keys tills known (Due number) refl

-- ---- what becomes of those that wait

-- they are the same, or some of them, or one more that is early and whose key none has
abbrev BecomeSo : ℕ → List Wait → List Wait → Type 0
BecomeSo moment old new =
    (new ≡ old) ⊎ (((keep : Wait → Bool) × (new ≡ filter keep old)) ⊎ ((wait : Wait) × (new ≡ old ++ wait ∷ []) × (is_overdue moment wait ≡ false) × HasNoKey wait.key old))

early : (moment wait : ℕ) → 1 ≤ wait → not (int_lt (pos moment) (pos (moment + wait))) ≡ false
early moment wait some = ap not (let h : nat_lt moment (moment + wait) ≡ true = grind (arith, nat_tests) in h)

joins-so : (known : Known) (number till : ℕ) (header : Header) (request : SaleRequest) (terminal : Terminal) (key : Key) → 1 ≤ known.setup.wait → JoinsAt known number header request terminal key →
    BecomeSo known.moment known.core.waits (known.core.waits ++ wait_of known number till header request key ∷ [])
joins-so known number till header request terminal key some at =
    let steps = waits-steps known header request (Some (record { number = number; terminal = terminal })) at.waits_is in
    let unknown : is_some (waiting_for known.core header) ≡ false = (or_parts _ _ steps.not_pending).1 in
    let none : is_some (waiting_with key known.core.waits) ≡ false = subst (λ k. is_some (option_and_then (λ key. waiting_with key known.core.waits) k) ≡ false) at.key_is unknown in
    inr (inr (wait_of known number till header request key, refl, early known.moment known.setup.wait some, with-none key known.core.waits none))

row-so : (tills : List Connection) (known : Known) (item : RoundItem) → 1 ≤ known.setup.wait → BecomeSo known.moment known.core.waits (row_of tills known item).core.waits
row-so tills known (Crowded till) some = inl refl
row-so tills known (Message till bytes) some = inl refl
row-so tills known (Asked till as_read) some = inl (by-where (λ (row : Row). row.core.waits ≡ known.core.waits) known (asked_row known till as_read) (is_connected tills till) refl (λ there. refl))
row-so tills known (Unframed till) some = inl (by-where (λ (row : Row). row.core.waits ≡ known.core.waits) known (owing known (CutTill till ∷ [])) (is_connected tills till) refl (λ there. refl))
row-so tills known (Gone till) some = inr (inl (_, refl))
row-so tills known (Greet number apdu) some = inl (row-leaves-waits known (Greet number apdu) refl)
row-so tills known (Handle number apdu) some = inl (row-leaves-waits known (Handle number apdu) refl)
row-so tills known (Serve number till header request) some = inl (row-leaves-waits known (Serve number till header request) refl)
row-so tills known (Queue number till header request) some =
    each-queued (λ (row : Row). BecomeSo known.moment known.core.waits row.core.waits) known number till header request (record {
      none = inl refl;
      joins = λ terminal key at. joins-so known number till header request terminal key some at;
      taken = λ wait at. inr (inl (_, refl));
    })
row-so tills known (NextWaiting number) some =
    each-next (λ (row : Row). BecomeSo known.moment known.core.waits row.core.waits) known number (record {
      none = inl refl;
      refused = λ terminal last wait condition first why. inr (inl (_, refl));
      begins = λ terminal last wait asking at. inr (inl (_, refl));
      day = λ terminal last wait at. inr (inl (_, refl));
      left = λ terminal last wait first. inr (inl (_, refl));
    })
row-so tills known (Oversized number) some = inl (row-leaves-waits known (Oversized number) refl)
row-so tills known (LinkLost number) some = inl (row-leaves-waits known (LinkLost number) refl)
row-so tills known (Late number) some = inl (row-leaves-waits known (Late number) refl)
row-so tills known (Overdue key) some =
    each-overdue (λ (row : Row). BecomeSo known.moment known.core.waits row.core.waits) known key (record { none = inl refl; taken = λ wait found overdue. inr (inl (_, refl)) })
row-so tills known (Due number) some = inl (row-leaves-waits known (Due number) refl)

-- ---- views

-- a run goes on
abbrev is_live : Stage → Bool
is_live Resting = false
is_live (Opening refused) = true
is_live (Looking refused) = true
is_live AtPoll = true
is_live Handling = true
is_live Over = false
is_live Broken = false

-- in a run no two requests wait under one key, and those that have waited for too long are still to be looked at, by their deadlines, among others
pub record IsCovered (v : View) : Type 0 where
  pub setup : Setup
  pub setup_is : v.scene.setup ≡ Some setup
  pub within : IsSetup setup
  pub apart : AreKeysApart v.scene.core.waits
  pub left : List Wait
  pub keys : overdue_keys v.items ≡ keys_of left
  pub left_apart : AreKeysApart left
  pub some : AreSomeOf (overdue_of v.scene.outside.moment v.scene.core.waits) left

-- the same keys are still to come, and what waits has become so
covered-on : (v w : View) → IsCovered v → w.scene.setup ≡ v.scene.setup → w.scene.outside.moment ≡ v.scene.outside.moment → overdue_keys w.items ≡ overdue_keys v.items → BecomeSo v.scene.outside.moment v.scene.core.waits w.scene.core.waits → IsCovered w
covered-on v w c setup moment keys so = record {
  setup = c.setup;
  setup_is = setup ∙ c.setup_is;
  within = c.within;
  apart = elim so [
    | inl same ↦ subst AreKeysApart (sym same) c.apart
    | inr other ↦ elim other [
      | inl kept ↦ subst AreKeysApart (sym kept.1) (apart-some kept.0 v.scene.core.waits c.apart)
      | inr more ↦ subst AreKeysApart (sym more.1) (apart-more v.scene.core.waits more.0 c.apart more.3)
    ]
  ];
  left = c.left;
  keys = keys ∙ c.keys;
  left_apart = c.left_apart;
  some = subst (λ m. AreSomeOf (overdue_of m w.scene.core.waits) c.left) (sym moment) (elim so [
    | inl same ↦ subst (λ l. AreSomeOf (overdue_of v.scene.outside.moment l) c.left) (sym same) c.some
    | inr other ↦ elim other [
      | inl kept ↦ subst (λ l. AreSomeOf l c.left) (sym (ap (overdue_of v.scene.outside.moment) kept.1 ∙ overdue-some v.scene.outside.moment kept.0 v.scene.core.waits)) (some-kept kept.0 (overdue_of v.scene.outside.moment v.scene.core.waits) c.left c.some)
      | inr more ↦ subst (λ l. AreSomeOf l c.left) (sym (ap (overdue_of v.scene.outside.moment) more.1 ∙ overdue-more v.scene.outside.moment v.scene.core.waits more.0 more.2)) c.some
    ]
  ]);
}

-- an event has come, and then may be due what waits
covered-event : (v w : View) (items : List RoundItem) → IsCovered v → w.scene.setup ≡ v.scene.setup → w.scene.core ≡ v.scene.core → w.items ≡ items ++ items_due v.scene.core → overdue_keys items ≡ [] → IsCovered w
covered-event v w items c setup core items_are none = record {
  setup = c.setup;
  setup_is = setup ∙ c.setup_is;
  within = c.within;
  apart = subst (λ (k : Core). AreKeysApart k.waits) (sym core) c.apart;
  left = waits_by_deadline v.scene.core.waits;
  keys = ap overdue_keys items_are ∙ keys-after items (items_due v.scene.core) none ∙ keys-of-due v.scene.core;
  left_apart = apart-by-deadline v.scene.core.waits c.apart;
  some = subst (λ (k : Core). AreSomeOf (overdue_of w.scene.outside.moment k.waits) (waits_by_deadline v.scene.core.waits)) (sym core) (kept-some (is_overdue w.scene.outside.moment) (waits_by_deadline v.scene.core.waits));
}

-- ---- items

same-one : (first key : Key) (rest keys : List Key) → first ∷ rest ≡ key ∷ keys → (first ≡ key) × (rest ≡ keys)
same-one first key rest keys e = (cc, cc)

-- one whose key has come up waits no longer where it has waited for too long
looked-at : (moment : ℕ) (known : Known) (key : Key) (wait : Wait) (left : List Wait) → known.moment ≡ moment → AreKeysApart known.core.waits → wait.key ≡ key → AreSomeOf (overdue_of moment known.core.waits) (wait ∷ left) →
    AreSomeOf (overdue_of moment (overdue_row known key).core.waits) left
looked-at moment known key wait left now apart key_is some = by_found (waiting_with key known.core.waits) refl
  where
    waits : List Wait
    waits = known.core.waits

    -- where none that has waited for too long has the key
    passes : ((w : Wait) → waiting_with key waits ≡ Some w → is_overdue moment w ≡ false) → AreSomeOf (overdue_of moment waits) left
    passes none = elim some [
      | inl later ↦ later
      | inr first ↦
          let there = overdue-among moment wait waits (subst (IsAmong wait) (sym first.1) (inl refl)) in
          let found : waiting_with key waits ≡ Some wait = subst (λ k. waiting_with k waits ≡ Some wait) key_is (among-with wait waits apart there.0) in
          absurd (let h : true ≡ false = sym there.1 ∙ none wait found in cc)
    ]

    takes : AreSomeOf (overdue_of moment (filter (λ (w : Wait). not (same_key key w.key)) waits)) left
    takes =
        let keep : Wait → Bool = λ (w : Wait). not (same_key key w.key) in
        subst (λ l. AreSomeOf l left) (sym (overdue-some moment keep waits)) (elim some [
          | inl later ↦ some-kept keep (overdue_of moment waits) left later
          | inr first ↦
              let gone : keep wait ≡ false = ap not (ap (same_key key) key_is ∙ tie key) in
              subst (λ l. AreSomeOf l left) (sym (ap (filter keep) first.1 ∙ rw gone refl)) (some-kept keep first.0 left first.2)
        ])

    by_overdue : (w : Wait) → waiting_with key waits ≡ Some w → (overdue : Bool) → is_overdue known.moment w ≡ overdue → AreSomeOf (overdue_of moment (owing_where overdue known (taken_out known Aborted w)).core.waits) left
    by_overdue w found true e =
        let same : w.key ≡ key = sym (same-key-is key w.key (with-among key waits w found).1) in
        subst (λ k. AreSomeOf (overdue_of moment (filter (λ (w : Wait). not (same_key k w.key)) waits)) left) (sym same) takes
    by_overdue w found false e = passes (λ other is. let one : Some w ≡ Some other = sym found ∙ is in let same : w ≡ other = cc in subst (λ m. is_overdue m other ≡ false) now (ap (is_overdue known.moment) (sym same) ∙ e))

    by_found : (found : Option Wait) → waiting_with key waits ≡ found → AreSomeOf (overdue_of moment (of_waiting known (λ wait. owing_where (is_overdue known.moment wait) known (taken_out known Aborted wait)) found).core.waits) left
    by_found None e = passes (λ w is. absurd (let h : None ≡ Some w = sym e ∙ is in cc))
    by_found (Some w) e = by_overdue w e (is_overdue known.moment w) refl

-- ---- moves

module _ (scene : Scene) (items : List RoundItem) (item : RoundItem) (setup : Setup) (setup_is : scene.setup ≡ Some setup) (within : IsSetup setup) where
  row-at-is : row_at scene item ≡ row_of scene.outside.tills (known_in scene setup) item
  row-at-is = ap (row_in scene (λ known. row_of scene.outside.tills known item)) setup_is

  begin-keys : overdue_keys ((row_at scene item).items ++ items) ≡ overdue_keys items
  begin-keys = keys-after (row_at scene item).items items (ap (λ (row : Row). overdue_keys row.items) row-at-is ∙ row-keys scene.outside.tills (known_in scene setup) item)

  begin-so : BecomeSo scene.outside.moment scene.core.waits (row_at scene item).core.waits
  begin-so = subst (λ (row : Row). BecomeSo scene.outside.moment scene.core.waits row.core.waits) (sym row-at-is) (row-so scene.outside.tills (known_in scene setup) item within.wait.0)

-- an item that looks for no request has begun
abbrev view_at : Scene → List OwedCall → List RoundItem → View
view_at scene calls items = record { scene = scene; calls = calls; items = items }

begin-other : (scene : Scene) (calls : List OwedCall) (item : RoundItem) (items : List RoundItem) → IsCovered (view_at scene calls (item ∷ items)) → overdue_keys (item ∷ items) ≡ overdue_keys items → IsCovered (begin scene (item ∷ items))
begin-other scene calls item items c none =
    covered-on (view_at scene calls (item ∷ items)) (begin scene (item ∷ items)) c refl refl (begin-keys scene items item c.setup c.setup_is c.within ∙ sym none) (begin-so scene items item c.setup c.setup_is c.within)

begin-overdue : (scene : Scene) (calls : List OwedCall) (key : Key) (items : List RoundItem) → IsCovered (view_at scene calls (Overdue key ∷ items)) → IsCovered (begin scene (Overdue key ∷ items))
begin-overdue scene calls key items c = by_left c.left c.keys c.left_apart c.some
  where
    again : IsCovered (view_at (record scene { stage = busy scene.stage; core = (row_at scene (Overdue key)).core }) [] (Overdue key ∷ items))
    again = covered-on (view_at scene calls (Overdue key ∷ items)) (view_at (record scene { stage = busy scene.stage; core = (row_at scene (Overdue key)).core }) [] (Overdue key ∷ items)) c refl refl refl (begin-so scene items (Overdue key) c.setup c.setup_is c.within)

    by_left : (left : List Wait) → key ∷ overdue_keys items ≡ keys_of left → AreKeysApart left → AreSomeOf (overdue_of scene.outside.moment scene.core.waits) left → IsCovered (begin scene (Overdue key ∷ items))
    by_left [] keys apart some = absurd (let h : key ∷ overdue_keys items ≡ [] = keys in cc)
    by_left (wait ∷ left) keys apart some =
        let same = same-one key wait.key (overdue_keys items) (keys_of left) keys in
        record {
          setup = c.setup;
          setup_is = c.setup_is;
          within = c.within;
          apart = again.apart;
          left = left;
          keys = begin-keys scene items (Overdue key) c.setup c.setup_is c.within ∙ same.1;
          left_apart = apart.1;
          some = subst (λ (row : Row). AreSomeOf (overdue_of scene.outside.moment row.core.waits) left) (sym (row-at-is scene items (Overdue key) c.setup c.setup_is c.within))
              (looked-at scene.outside.moment (known_in scene c.setup) key wait left refl c.apart (sym same.0) some);
        }

begin-covered : (scene : Scene) (calls : List OwedCall) (items : List RoundItem) → may_begin scene items ≡ true → IsCovered (view_at scene calls items) → IsCovered (begin scene items)
begin-covered scene calls [] may c = absurd (let h : false ≡ true = may in cc)
begin-covered scene calls (Crowded till ∷ items) may c = begin-other scene calls (Crowded till) items c refl
begin-covered scene calls (Message till bytes ∷ items) may c = begin-other scene calls (Message till bytes) items c refl
begin-covered scene calls (Asked till as_read ∷ items) may c = begin-other scene calls (Asked till as_read) items c refl
begin-covered scene calls (Unframed till ∷ items) may c = begin-other scene calls (Unframed till) items c refl
begin-covered scene calls (Gone till ∷ items) may c = begin-other scene calls (Gone till) items c refl
begin-covered scene calls (Greet number apdu ∷ items) may c = begin-other scene calls (Greet number apdu) items c refl
begin-covered scene calls (Handle number apdu ∷ items) may c = begin-other scene calls (Handle number apdu) items c refl
begin-covered scene calls (Serve number till header request ∷ items) may c = begin-other scene calls (Serve number till header request) items c refl
begin-covered scene calls (Queue number till header request ∷ items) may c = begin-other scene calls (Queue number till header request) items c refl
begin-covered scene calls (NextWaiting number ∷ items) may c = begin-other scene calls (NextWaiting number) items c refl
begin-covered scene calls (Oversized number ∷ items) may c = begin-other scene calls (Oversized number) items c refl
begin-covered scene calls (LinkLost number ∷ items) may c = begin-other scene calls (LinkLost number) items c refl
begin-covered scene calls (Late number ∷ items) may c = begin-other scene calls (Late number) items c refl
begin-covered scene calls (Overdue key ∷ items) may c = begin-overdue scene calls key items c
begin-covered scene calls (Due number ∷ items) may c = begin-other scene calls (Due number) items c refl

-- a link's row brings no item
link-keys : (known : Known) (number : ℕ) (event : LinkEvent) → overdue_keys (link_row known number event).items ≡ []
link-keys known number LinkIsMade = each-terminal (λ (row : Row). overdue_keys row.items ≡ []) known number (registers known number) refl (λ terminal found. refl)
link-keys known number LinkHasFailed = each-terminal (λ (row : Row). overdue_keys row.items ≡ []) known number (unlinks known number) refl (λ terminal found. refl)
link-keys known number LinkIsLost = each-terminal (λ (row : Row). overdue_keys row.items ≡ []) known number (unlinks known number) refl (λ terminal found. refl)

link-covered : (v : View) (scene : Scene) (calls : List OwedCall) (pt : ℕ) (event : LinkEvent) → IsCovered v → scene.setup ≡ v.scene.setup → scene.outside.moment ≡ v.scene.outside.moment →
    IsCovered (by_row v scene (row_in v.scene (λ known. link_row known pt event) v.scene.setup) calls)
link-covered v scene calls pt event c setup moment =
    let row_is : row_in v.scene (λ known. link_row known pt event) v.scene.setup ≡ link_row (known_in v.scene c.setup) pt event = ap (row_in v.scene (λ known. link_row known pt event)) c.setup_is in
    covered-on v (by_row v scene (row_in v.scene (λ known. link_row known pt event) v.scene.setup) calls) c setup moment
    (keys-after (row_in v.scene (λ known. link_row known pt event) v.scene.setup).items v.items (ap (λ (row : Row). overdue_keys row.items) row_is ∙ link-keys (known_in v.scene c.setup) pt event))
    (inl (ap (λ (row : Row). row.core.waits) row_is ∙ link-leaves-waits (known_in v.scene c.setup) pt event))

busy-live : (s : Stage) → is_live (busy s) ≡ true → is_live s ≡ true
busy-live Resting h = h
busy-live (Opening refused) h = h
busy-live (Looking refused) h = h
busy-live AtPoll h = h
busy-live Handling h = h
busy-live Over h = h
busy-live Broken h = h

wrote-live : (s : Stage) → is_live (stage_wrote s) ≡ true → is_live s ≡ true
wrote-live Resting h = h
wrote-live (Opening refused) h = h
wrote-live (Looking refused) h = h
wrote-live AtPoll h = h
wrote-live Handling h = h
wrote-live Over h = h
wrote-live Broken h = h

synced-live : (s : Stage) → is_live (stage_synced s) ≡ true → is_live s ≡ true
synced-live Resting h = h
synced-live (Opening refused) h = h
synced-live (Looking refused) h = h
synced-live AtPoll h = h
synced-live Handling h = h
synced-live Over h = h
synced-live Broken h = h

running-live : (s : Stage) → is_running s ≡ true → is_live s ≡ true
running-live Resting h = h
running-live (Opening refused) h = refl
running-live (Looking refused) h = refl
running-live AtPoll h = refl
running-live Handling h = refl
running-live Over h = h
running-live Broken h = h

pub round-live : (s : Stage) → is_round s ≡ true → is_live s ≡ true
round-live Resting h = h
round-live (Opening refused) h = refl
round-live (Looking refused) h = refl
round-live AtPoll h = h
round-live Handling h = h
round-live Over h = h
round-live Broken h = h

-- where a run goes on it is so
abbrev pub CoveredAt : View → Type 0
CoveredAt v = is_live v.scene.stage ≡ true → IsCovered v

turn-covered : (v : View) (turn : Turn) → AllowedTurn v turn → CoveredAt v → CoveredAt (after_turn v turn)
turn-covered v (Start setup) allowed covered live = record { setup = setup; setup_is = refl; within = allowed.1; apart = tt; left = []; keys = refl; left_apart = tt; some = refl }
turn-covered v OpenFailed allowed covered live = absurd (let h : false ≡ true = live in cc)
turn-covered v (Polled now) allowed covered live = covered-event v (after_turn v (Polled now)) [] (covered (running-live v.scene.stage allowed.running)) refl refl refl refl
turn-covered v (Opened till) allowed covered live =
    covered-event v (after_turn v (Opened till)) (till_opened_items till v.scene.outside.tills) (covered (ap is_live allowed.0)) refl refl refl (keys-opened till v.scene.outside.tills)
turn-covered v (HeardTill till bytes) allowed covered live =
    covered-event v (after_turn v (HeardTill till bytes)) (till_bytes_items till (heard_on v.scene.outside.tills till) bytes) (covered (ap is_live allowed.0.polled)) refl refl refl (keys-till-bytes till (heard_on v.scene.outside.tills till) bytes)
turn-covered v (Closed till) allowed covered live = covered-event v (after_turn v (Closed till)) (Gone till ∷ []) (covered (ap is_live allowed.polled)) refl refl refl refl
turn-covered v (HeardPt pt bytes) allowed covered live =
    covered-event v (after_turn v (HeardPt pt bytes)) (pt_bytes_items pt (heard_on v.scene.outside.links pt) bytes) (covered (ap is_live allowed.0.polled)) refl refl refl (keys-pt-bytes pt (heard_on v.scene.outside.links pt) bytes)
turn-covered v (Lost pt) allowed covered live = covered-event v (after_turn v (Lost pt)) (LinkLost pt ∷ []) (covered (ap is_live allowed.polled)) refl refl refl refl
turn-covered v Stopped allowed covered live = absurd (let h : false ≡ true = live in cc)
turn-covered v (Linked pt) allowed covered live = link-covered v (called v.scene (Linked pt)) (later v.calls) pt LinkIsMade (covered (busy-live v.scene.stage live)) refl refl
turn-covered v (LinkFailed pt) allowed covered live = link-covered v (called v.scene (LinkFailed pt)) [] pt LinkIsLost (covered (busy-live v.scene.stage live)) refl refl
turn-covered v (SentTill till bytes true) allowed covered live = covered-on v (after_turn v (SentTill till bytes true)) (covered (busy-live v.scene.stage live)) refl refl refl (inl refl)
turn-covered v (SentTill till bytes false) allowed covered live = covered-on v (after_turn v (SentTill till bytes false)) (covered (busy-live v.scene.stage live)) refl refl refl (inl refl)
turn-covered v (SentPt pt bytes true) allowed covered live = covered-on v (after_turn v (SentPt pt bytes true)) (covered (busy-live v.scene.stage live)) refl refl refl (inl refl)
turn-covered v (SentPt pt bytes false) allowed covered live = covered-on v (after_turn v (SentPt pt bytes false)) (covered (busy-live v.scene.stage live)) refl refl refl (inl refl)
turn-covered v (TillCut till) allowed covered live = covered-on v (after_turn v (TillCut till)) (covered (busy-live v.scene.stage live)) refl refl refl (inr (inl (_, refl)))
turn-covered v (CutPt pt) allowed covered live = link-covered v (called v.scene (CutPt pt)) (later v.calls) pt LinkIsLost (covered (busy-live v.scene.stage live)) refl refl
turn-covered v (Wrote offset bytes) allowed covered live = covered-on v (after_turn v (Wrote offset bytes)) (covered (wrote-live v.scene.stage live)) refl refl refl (inl refl)
turn-covered v Synced allowed covered live = covered-on v (after_turn v Synced) (covered (synced-live v.scene.stage live)) refl refl refl (inl refl)
turn-covered v DiskFailed allowed covered live = absurd (let h : false ≡ true = live in cc)
turn-covered v (Crash file) allowed covered live = absurd (let h : false ≡ true = live in cc)

move-covered : (v : View) (move : Move) → Allowed v move → CoveredAt v → CoveredAt (after v move)
move-covered v Begin allowed covered live = begin-covered v.scene v.calls v.items allowed.first (covered (round-live v.scene.stage allowed.idle.round))
move-covered v (Read as_read) allowed covered live = covered-on v (after v (Read as_read)) (covered (round-live v.scene.stage allowed.idle.round)) refl refl (keys-read as_read v.items) (inl refl)
move-covered v (Make turn) allowed covered live = turn-covered v turn allowed covered live

covered-from : (v : View) (moves : List Move) → IsCourse v moves → CoveredAt v → CoveredAt (view_from v moves)
covered-from v [] course covered = covered
covered-from v (move ∷ moves) course covered = covered-from (after v move) moves course.1 (move-covered v move course.0 covered)

-- so it is at the view of a lawful log
pub covered-stands : (log : List Turn) (v : View) → Stands log v → CoveredAt v
covered-stands log v stands = subst CoveredAt stands.view_is (covered-from at_first stands.course stands.lawful (λ live. absurd (let h : false ≡ true = live in cc)))

-- and may be used wherever a log is observed
pub triple-covered : (a b : Observed) (P Q : View → Type 0) → Triple a b (λ v. P v × CoveredAt v) Q → Triple a b P Q
triple-covered a b P Q k = record {
  observed = λ before v e stands p. k.observed before v e stands (λ lit. (p lit, covered-stands before v stands));
  unobserved = k.unobserved;
  stays = k.stays;
  still = k.still;
  rests = k.rests;
  origin = k.origin;
}
