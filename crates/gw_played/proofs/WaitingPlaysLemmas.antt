-- What a request that waits leaves: every terminal is as far as it was, or one is about to be asked, all of whose messages were handled.
use Rattle.std.proofs.Common.{◌≡◌, ℕ, Bool, true, false, List, [], ◌∷◌, ◌++◌, refl, sym, ap, subst, eqb-true}
use Rattle.std.proofs.lemmas.Bool.{or_parts}
use Rattle.std.specs.Prelude.{◌==◌, not, if◌then◌else◌, slice_get, Option, Some, None}
use Rattle.std.specs.List.{list_any}
use Rattle.gw_base.specs.declared.condition.Condition.{Condition}
use Rattle.gw_base.specs.declared.condition.Condition.TheVariants.{Aborted}
use Rattle.gw_base.specs.declared.key.Key.{Key}
use Rattle.gw_base.specs.declared.setup.Setup.{Setup}
use Rattle.sale_values.specs.declared.header.Header.{Header}
use Rattle.sale_values.specs.declared.request.SaleRequest.{SaleRequest}
use Rattle.zvt_apdu.specs.Grammar.{ApduValue}
use Rattle.pt_core.specs.History.{Setting}
use Rattle.gw_owes.specs.declared.terminal.Standing.TheVariants.{Ready}
use Rattle.gw_owes.specs.declared.terminal.Terminal.{Terminal}
use Rattle.gw_owes.specs.Core.{Wait}
use Rattle.gw_owes.specs.Items.{RoundItem, Crowded, Message as MessageItem, Asked, Unframed, Gone, Greet, Handle, Serve, Queue, NextWaiting, Oversized, LinkLost, Late, Overdue, Due}
use Rattle.gw_owes.specs.Links.{is_linked}
use Rattle.gw_owes.specs.RecordLaws.{IsInOrder}
use Rattle.gw_owes.specs.Replies.{failure_reply}
use Rattle.gw_owes.specs.Row.{Row}
use Rattle.gw_owes.specs.WaitingLaws.{AreWaitsInOrder}
use Rattle.gw_owes.specs.WaitingRows.{next_waiting_row, refusal_calls, taken_out, wait_of}
use Rattle.gw_owes.specs.Waits.{core_with_wait, core_without_wait, first_waiting, queue_of, waiting_with}
use Rattle.gw_owes.proofs.NextLemmas.{each-next, each-overdue, each-queued}
use Rattle.gw_owes.proofs.NextOrderLemmas.{begun-anew, without-in-order}
use Rattle.gw_rules.specs.Scene.{Scene, known_in, row_at}
use Rattle.gw_rules.specs.View.{Begin, after}
use Rattle.gw_rules.proofs.KeptPhaseLemmas.{round-runs}
use Rattle.gw_rules.proofs.LinkedLemmas.{round-setup}
use Rattle.gw_rules.proofs.RecordOrderLemmas.{between-items, row-is, waits-between-items}
use Rattle.gw_rules.proofs.StageLemmas.{no-true, not-false}
use Rattle.gw_books.specs.Past.{Past, ends_of, occasion_waiting, past_after}
use Rattle.gw_books.proofs.Holding.{is_handle}
use Rattle.gw_played.specs.Played.{PlacedExchange}
use Rattle.gw_played.proofs.ItemPlaysLemmas.{IsPlain, none-plain, replies-plain, same-so, so-plays, still-plays, nothing-plays, item-plays, plays-between, row-plays}
use Rattle.gw_played.proofs.PeerFrameLemmas.{RowPlays, PlaysBetween}
use Rattle.gw_played.proofs.Playing.{AreMessages, ChargeNone, IsPeerIn, IsQuiet, PeerLaws, Plays, PlaysItem, brings_charge, pending}
use Rattle.gw_played.proofs.ServePlaysLemmas.{begins-plays, day-plays}

-- what waits ends no dialogue
ends-waiting : (scene : Scene) (past : Past) (wait : Option Wait) → ends_of scene past (occasion_waiting wait) ≡ []
ends-waiting scene past None = refl
ends-waiting scene past (Some wait) = refl

-- ---- a terminal that is ready

-- nothing is left of what it has said
none-said : (apdus more : List ApduValue) → AreMessages (apdus ++ more) [] → apdus ≡ []
none-said [] more are = refl
none-said (apdu ∷ apdus) more are = absurd are

-- where nothing that this terminal has said is still to be handled, and no item leads to a command that charges, nothing said is
none-handled : (one : ℕ) (items : List RoundItem) → list_any (brings_charge one) items ≡ false → pending one items ≡ [] → list_any is_handle items ≡ false
none-handled one [] none said = refl
none-handled one (Crowded till ∷ items) none said = none-handled one items none said
none-handled one (MessageItem till bytes ∷ items) none said = no-true (sym none)
none-handled one (Asked till as_read ∷ items) none said = no-true (sym none)
none-handled one (Unframed till ∷ items) none said = none-handled one items none said
none-handled one (Gone till ∷ items) none said = none-handled one items none said
none-handled one (Greet pt apdu ∷ items) none said = none-handled one items none said
none-handled one (Handle pt apdu ∷ items) none said = by_test (pt == one) (or_parts (brings_charge one (Handle pt apdu)) (list_any (brings_charge one) items) none).0 said
  where
    by_test : (test : Bool) → not test ≡ false → (if test then apdu ∷ pending one items else pending one items) ≡ [] → true ≡ false
    by_test true own left = absurd cc
    by_test false own left = own
none-handled one (Serve pt till header request ∷ items) none said = no-true (sym none)
none-handled one (Queue pt till header request ∷ items) none said = none-handled one items none said
none-handled one (NextWaiting pt ∷ items) none said = none-handled one items (or_parts (brings_charge one (NextWaiting pt)) (list_any (brings_charge one) items) none).1 said
none-handled one (Oversized pt ∷ items) none said = none-handled one items none said
none-handled one (LinkLost pt ∷ items) none said = none-handled one items none said
none-handled one (Late pt ∷ items) none said = none-handled one items none said
none-handled one (Overdue key ∷ items) none said = none-handled one items none said
none-handled one (Due pt ∷ items) none said = none-handled one items none said

-- ---- what a row leaves

module _ (settings : List ℕ → Setting) (exchanges : List ℕ → List PlacedExchange) (scene : Scene) (setup : Setup) (past : Past) (item : RoundItem) (rest : List RoundItem) (between : PlaysBetween settings exchanges scene past item rest) where
  abbrev Leaves : Row → Type 0
  Leaves row = RowPlays settings exchanges scene.outside past rest row

  -- one waits no longer, and its till gets a Failure
  taken-plays : (condition : Condition) (wait : Wait) → Leaves (taken_out (known_in scene setup) condition wait)
  taken-plays condition wait =
      still-plays settings exchanges scene past item rest between (core_without_wait scene.core wait.key) (refusal_calls wait condition) (same-so scene.core)
      (replies-plain (Some wait.till) (Some (failure_reply wait.header condition))) (λ number links. no-true links)

-- what is known once one waits no longer
abbrev scene-without : Scene → Wait → Scene
scene-without scene wait = record scene { core = core_without_wait scene.core wait.key }

module _ (laws : PeerLaws) (settings : List ℕ → Setting) (exchanges : List ℕ → List PlacedExchange) (scene : Scene) (setup : Setup) (past : Past) (rest : List RoundItem) (pt : ℕ)
    (between : PlaysBetween settings exchanges scene past (NextWaiting pt) rest) (order : IsInOrder (known_in scene setup)) (waits : AreWaitsInOrder (known_in scene setup)) where
  -- where it is ready, nothing that a terminal has said is still to be handled
  ready-alone : (terminal : Terminal) (last : ℕ) → slice_get scene.core.terminals pt ≡ Some terminal → terminal.standing ≡ Ready last → list_any is_handle rest ≡ false
  ready-alone terminal last found standing_is = by_test (list_any is_handle rest) refl
    where
      quiet : IsQuiet (settings terminal.pt.poi) (exchanges terminal.pt.poi) pt rest
      quiet =
          subst (IsPeerIn (settings terminal.pt.poi) terminal.pt.poi (exchanges terminal.pt.poi) pt rest past.commands terminal.talk) standing_is
          ((between.each pt terminal found).peer (ap is_linked standing_is) refl)

      said : pending pt rest ≡ []
      said = none-said (pending pt rest) _ quiet.none_left.are

      of_one : ChargeNone (NextWaiting pt ∷ rest) → list_any is_handle rest ≡ false
      of_one none =
          let parts = or_parts (brings_charge none.0 (NextWaiting pt)) (list_any (brings_charge none.0) rest) none.1 in
          none-handled none.0 rest parts.1 (subst (λ (n : ℕ). pending n rest ≡ []) (eqb-true pt none.0 (not-false (pt == none.0) parts.0)) said)

      by_test : (test : Bool) → list_any is_handle rest ≡ test → list_any is_handle rest ≡ false
      by_test true handles = of_one (between.served handles)
      by_test false none = none

  -- the first is refused, and the next is looked at
  refused-plays : (condition : Condition) (wait : Wait) → RowPlays settings exchanges scene.outside past rest (record (taken_out (known_in scene setup) condition wait) { items = NextWaiting pt ∷ [] })
  refused-plays condition wait =
      let plain : IsPlain (refusal_calls wait condition) = replies-plain (Some wait.till) (Some (failure_reply wait.header condition)) in
      record {
        each = λ number terminal found.
            so-plays settings exchanges scene past (NextWaiting pt) rest between (NextWaiting pt ∷ rest) (refusal_calls wait condition) number terminal (same-so scene.core number terminal found) refl (plain.asks_none number);
        linking = λ number links. no-true links;
        handles = λ handles. handles;
        uncharged = λ handles number. plain.charges_none number;
        served = between.served;
      }

  -- so much holds once it waits no longer
  without-between : (wait : Wait) → PlaysBetween settings exchanges (scene-without scene wait) past (NextWaiting pt) rest
  without-between wait = record { each = between.each; served = between.served }

  next-plays : RowPlays settings exchanges scene.outside past rest (next_waiting_row (known_in scene setup) pt)
  next-plays = each-next (λ (row : Row). RowPlays settings exchanges scene.outside past rest row) (known_in scene setup) pt (record {
    none = nothing-plays settings exchanges scene past (NextWaiting pt) rest between;
    refused = λ terminal last wait condition first is. refused-plays condition wait;
    begins = λ terminal last wait asking at.
        begins-plays laws settings exchanges (scene-without scene wait) setup past (NextWaiting pt) rest pt wait.till wait.header wait.request (without-between wait) (without-in-order (known_in scene setup) wait order)
        (ready-alone terminal last at.first.found at.first.standing_is) terminal last asking at.first.found at.first.standing_is (begun-anew laws.ledger (known_in scene setup) order waits pt terminal last wait asking at);
    day = λ terminal last wait at.
        day-plays laws settings exchanges (scene-without scene wait) setup past (NextWaiting pt) rest pt wait.till wait.header wait.request (without-between wait) (without-in-order (known_in scene setup) wait order)
        (ready-alone terminal last at.first.found at.first.standing_is) terminal last at.first.found at.first.standing_is;
    left = λ terminal last wait first.
        still-plays settings exchanges scene past (NextWaiting pt) rest between (core_without_wait scene.core wait.key) [] (same-so scene.core) none-plain (λ number links. no-true links);
  })

-- ---- each item of what waits

pub queue-plays : (pt till : ℕ) (header : Header) (request : SaleRequest) → PlaysItem (Queue pt till header request)
queue-plays pt till header request = item-plays (Queue pt till header request) refl (λ scene past. refl) (λ settings exchanges scene setup past rest between order read.
    each-queued (λ (row : Row). RowPlays settings exchanges scene.outside past rest row) (known_in scene setup) pt till header request (record {
      none = nothing-plays settings exchanges scene past (Queue pt till header request) rest between;
      joins = λ terminal key at.
          still-plays settings exchanges scene past (Queue pt till header request) rest between (core_with_wait scene.core (wait_of (known_in scene setup) pt till header request key)) [] (same-so scene.core) none-plain (λ number links. no-true links);
      taken = λ wait at. taken-plays settings exchanges scene setup past (Queue pt till header request) rest between Aborted wait;
    }))

pub overdue-plays : (key : Key) → PlaysItem (Overdue key)
overdue-plays key = item-plays (Overdue key) refl (λ scene past. ends-waiting scene past (waiting_with key scene.core.waits)) (λ settings exchanges scene setup past rest between order read.
    each-overdue (λ (row : Row). RowPlays settings exchanges scene.outside past rest row) (known_in scene setup) key (record {
      none = nothing-plays settings exchanges scene past (Overdue key) rest between;
      taken = λ wait found overdue. taken-plays settings exchanges scene setup past (Overdue key) rest between Aborted wait;
    }))

pub next-waiting-plays : (laws : PeerLaws) (pt : ℕ) → PlaysItem (NextWaiting pt)
next-waiting-plays laws pt settings log v past exchanges rest o next b e p =
    let k = round-setup v o.agrees.run b.idle.round in
    let between = plays-between settings v past exchanges (NextWaiting pt) rest refl b e p in
    let row = next-plays laws settings exchanges v.scene k.setup past rest pt between (between-items log v o k (round-runs v.scene.stage b.idle.round) b.idle.calls)
    (waits-between-items log v o k (round-runs v.scene.stage b.idle.round) b.idle.calls) in
    subst (λ (items : List RoundItem). Plays settings (after (record v { items = items }) Begin) (past_after (record v { items = items }) past Begin) exchanges) (sym e)
    (row-plays settings v past exchanges (NextWaiting pt) rest (row_at v.scene (NextWaiting pt)) refl (ends-waiting v.scene past (first_waiting (queue_of pt v.scene.core.waits))) e p
    (subst (RowPlays settings exchanges v.scene.outside past rest) (sym (row-is v.scene k (NextWaiting pt))) row))
