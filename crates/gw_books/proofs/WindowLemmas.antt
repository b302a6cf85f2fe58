-- The kept records match an honest book: what is approved in an Intent's window is of its own command.
use Rattle.std.proofs.Common.{◌≡◌, ◌∙◌, ◌⊎◌, ◌≤◌, ◌<◌, ◌+◌, ℕ, zero, suc, Bool, true, false, List, [], ◌∷◌, refl, sym, ap, subst, inl, inr, arith}
use Rattle.std.proofs.lemmas.Bool.{and_parts, cases_lt, ltb-true}
use Rattle.std.proofs.lemmas.Option.{same_Some}
use Rattle.std.specs.Prelude.{nat_lt, Option, Some, None, option_and_then, option_to_list, slice_get}
use Rattle.std.specs.List.{list_all}
use Rattle.jrn_record.specs.declared.records.Intent.{Intent as TheIntent}
use Rattle.jrn_record.specs.declared.records.Outcome.{Outcome as TheOutcome}
use Rattle.jrn_record.specs.declared.records.Record.{Record}
use Rattle.gw_ledger.specs.Fold.{AreFolded}
use Rattle.gw_ledger.specs.Keys.{intent_key, slot_of}
use Rattle.gw_ledger.specs.Slots.{intent_at}
use Rattle.gw_owes.specs.Calls.{records_kept}
use Rattle.gw_owes.proofs.RecordLemmas.{LedgerLaws}
use Rattle.gw_rules.specs.Scene.{records_of}
use Rattle.gw_rules.specs.View.{at_first, view_from}
use Rattle.gw_rules.proofs.RecordRowLemmas.{OrderLaws}
use Rattle.gw_books.specs.Kinds.{booked_kind_of}
use Rattle.gw_books.specs.Past.{Numbering, is_numbering, numbering_of, Past, past_of}
use Rattle.gw_books.specs.Books.{BookedEntry, Honest, comes_before, is_caused, is_ordered}
use Rattle.gw_books.specs.Agrees.{entry_key, key_at_place}
use Rattle.gw_books.specs.ReversalLaws.{kept_after}
use Rattle.gw_books.specs.WindowLaws.{HonestMatches, MatchesByKey}
use Rattle.gw_books.specs.Windows.{HasItsEntry, IsApprovedInWindow, IsNextIntent, Matches, is_caused_before}
use Rattle.gw_books.proofs.AgreeLemmas.{booked-apart, caused-numbering, entry-kind, same-kind}
use Rattle.gw_books.proofs.BookLemmas.{after-cause, earlier-lower, numbered-within, numbering-are, numbering-itself, of-log, one-poi, precedes}
use Rattle.gw_books.proofs.HeadlineLemmas.{HoldsNumbered, holds-along, lean-folds}
use Rattle.gw_books.proofs.Holding.{AreKeyed, AreOutcomesTrue, BearsOut}
use Rattle.gw_books.proofs.KeyedLemmas.{key-sent, sent-same}
use Rattle.gw_books.proofs.ListLemmas.{In, all-in}
use Rattle.gw_books.proofs.Numbering.{AreIntentsNumbered, HasEntryBeforeAll, IsEntryFrom, IsForKey, IsOfSent}
use Rattle.gw_books.proofs.RecordMoreLemmas.{outcomes-of-first, own-slot}
use Rattle.gw_books.proofs.ReversedOnceLemmas.{apart-one}
use Rattle.gw_books.proofs.TillLemmas.{at-in, in-at}

-- ---- the next Intent

-- there is a next Intent of this numbering, at this slot or before
pub record HasNext (records : List Record) (slot : ℕ) (numbering : Numbering) (at : ℕ) : Type 0 where
  pub next : ℕ
  pub intent : TheIntent
  pub is : IsNextIntent records slot numbering next intent
  pub until : next ≤ at

-- the slot has no Intent of this numbering
abbrev HasNone : List Record → Numbering → ℕ → Type 0
HasNone records numbering at = (other : TheIntent) → intent_at records at ≡ Some other → numbering_of other ≡ numbering → ⊥

-- it is found from one slot on, in so many steps
search-next : (records : List Record) (slot : ℕ) (numbering : Numbering) (at : ℕ) (intent : TheIntent) → intent_at records at ≡ Some intent → numbering_of intent ≡ numbering → (steps from : ℕ) → slot < from → from ≤ at → at ≤ from + steps
    → ((between : ℕ) (other : TheIntent) → slot < between → between < from → intent_at records between ≡ Some other → numbering_of other ≡ numbering → ⊥) → HasNext records slot numbering at
search-next records slot numbering at intent there mine zero from after until enough none =
    let here : from ≡ at = omega (arith, until, enough) in
    record { next = from; intent = intent; is = record { intent_is = ap (intent_at records) here ∙ there; numbering_is = mine; later = after; first = none }; until = until }
search-next records slot numbering at intent there mine (suc steps) from after until enough none =
    by-intent (λ apart. search-next records slot numbering at intent there mine steps (from + 1) (omega (arith, after)) (beyond apart) (omega (arith, enough)) (more apart)) (intent_at records from) refl
  where
    beyond : HasNone records numbering from → from + 1 ≤ at
    beyond apart = elim (cases_lt from at) [
      | inl before ↦ omega (arith, before)
      | inr last ↦ let here : from ≡ at = omega (arith, last, until) in absurd (apart intent (ap (intent_at records) here ∙ there) mine)
    ]

    more : HasNone records numbering from → (between : ℕ) (other : TheIntent) → slot < between → between < from + 1 → intent_at records between ≡ Some other → numbering_of other ≡ numbering → ⊥
    more apart between other follows until is same = elim (cases_lt between from) [
      | inl before ↦ none between other follows before is same
      | inr last ↦ let here : from ≡ between = omega (arith, last, until) in apart other (ap (intent_at records) here ∙ is) same
    ]

    by-numbering : (HasNone records numbering from → HasNext records slot numbering at) → (other : TheIntent) → intent_at records from ≡ Some other → (b : Bool) → is_numbering (numbering_of other) numbering ≡ b → HasNext records slot numbering at
    by-numbering next other is true same =
        record { next = from; intent = other; is = record { intent_is = is; numbering_is = numbering-are (numbering_of other) numbering same; later = after; first = none }; until = until }
    by-numbering next other is false apart = next (λ one there_is same.
        let one_is : other ≡ one = same_Some other one (sym is ∙ there_is) in
        let clash : true ≡ false = sym (ap (λ (i : TheIntent). is_numbering (numbering_of i) numbering) one_is ∙ ap (λ (n : Numbering). is_numbering n numbering) same ∙ numbering-itself numbering) ∙ apart in
        absurd cc)

    by-intent : (HasNone records numbering from → HasNext records slot numbering at) → (found : Option TheIntent) → intent_at records from ≡ found → HasNext records slot numbering at
    by-intent next None is = next (λ other there_is same. let clash : None ≡ Some other = sym is ∙ there_is in absurd cc)
    by-intent next (Some other) is = by-numbering next other is (is_numbering (numbering_of other) numbering) refl

-- before each later Intent of a numbering, or at it, there is a next one
next-before : (records : List Record) (slot : ℕ) (numbering : Numbering) (at : ℕ) (intent : TheIntent) → slot < at → intent_at records at ≡ Some intent → numbering_of intent ≡ numbering → HasNext records slot numbering at
next-before records slot numbering at intent later there mine =
    search-next records slot numbering at intent there mine at (slot + 1) (omega arith) (omega (arith, later)) (omega arith) (λ between other follows until is same. absurd (omega (arith, follows, until)))

-- ---- numbers rise along a book

rises-along : (book : List BookedEntry) → is_ordered book ≡ true → (at to : ℕ) (one other : BookedEntry) → at < to → slice_get book at ≡ Some one → slice_get book to ≡ Some other → one.numbering ≡ other.numbering → one.number < other.number
rises-along [] ordered at to one other earlier found also same = absurd cc
rises-along (entry ∷ book) ordered zero zero one other earlier found also same = absurd (omega (arith, earlier))
rises-along (entry ∷ book) ordered zero (suc to) one other earlier found also same =
    let first = (and_parts (list_all (comes_before entry) book) (is_ordered book) ordered).0 in
    (precedes one other (one-poi one other same) (subst (λ (e : BookedEntry). comes_before e other ≡ true) (same_Some entry one found) (all-in (comes_before entry) book first other (at-in book to other also)))).number same
rises-along (entry ∷ book) ordered (suc at) zero one other earlier found also same = absurd (omega (arith, earlier))
rises-along (entry ∷ book) ordered (suc at) (suc to) one other earlier found also same =
    rises-along book (and_parts (list_all (comes_before entry) book) (is_ordered book) ordered).1 at to one other (omega (arith, earlier)) found also same

-- ---- the windows

module _ (laws : LedgerLaws) (records : List Record) (folded : AreFolded records) (past : Past) (book : List BookedEntry) (honest : Honest past book) (keyed : AreKeyed records past.place past.commands)
    (intents : AreIntentsNumbered book past.commands past.place records) (outcomes : AreOutcomesTrue past.commands book past.place records) (sent : (entry : BookedEntry) → In entry book → IsOfSent past.commands entry) where
  -- an entry of a command for the key of an Intent, or for that of a later one of its terminal, has a greater number than the one before it
  above-before : (slot : ℕ) (intent : TheIntent) → intent_at records slot ≡ Some intent → (entry : BookedEntry) → In entry book → entry.numbering ≡ numbering_of intent → IsEntryFrom past.commands records intent.poi slot entry → intent.before < entry.number
  above-before slot intent there entry within same from = by (intents slot intent there).base
    where
      by : (intent.before ≡ 0) ⊎ HasEntryBeforeAll book past.commands records (numbering_of intent) past.place slot intent.before → intent.before < entry.number
      by (inl none) = let least = numbered-within past book honest entry within in omega (arith, least, none)
      by (inr has) =
          let base = has.numbered in
          let early = has.earlier from.command from.sent from.since in
          let after = after-cause past book honest entry within from.command.place from.caused in
          let lower = earlier-lower book honest.ordered base.entry entry base.within within (base.numbering_is ∙ sym same) (omega (arith, early, after)) in
          let is = base.number_is in
          omega (arith, lower, is)

  -- an approved entry of a command for a key hasn't a greater number than the one before a later Intent of the terminal
  not-above-later : (slot : ℕ) (intent : TheIntent) → intent_at records slot ≡ Some intent → (entry : BookedEntry) → In entry book → entry.numbering ≡ numbering_of intent → entry.approved ≡ true → IsForKey past.commands (intent_key intent) entry
      → (later : ℕ) (other : TheIntent) → intent_at records later ≡ Some other → numbering_of other ≡ numbering_of intent → slot < later → entry.number ≤ other.before
  not-above-later slot intent there entry within same approved own later other there_later mine follows = elim ((intents later other there_later).lower entry within (same ∙ sym mine) (sent entry within) approved) [
    | inl low ↦ low
    | inr from ↦
        let place : own.command.place ≡ from.command.place = same_Some own.command.place from.command.place (sym own.caused ∙ from.caused) in
        let one = sent-same past.place past.commands keyed.falling own.command from.command own.sent from.sent place in
        let keys : intent_key intent ≡ intent_key from.since.intent = same_Some (intent_key intent) (intent_key from.since.intent) (sym own.key_is ∙ ap (λ command. command.key) one ∙ from.since.key_is) in
        let slots : slot ≡ from.since.at =
        same_Some slot from.since.at (sym (own-slot laws records slot intent folded there) ∙ ap (slot_of records) keys ∙ own-slot laws records from.since.at from.since.intent folded from.since.intent_is) in
        let start = from.since.from in
        absurd (omega (arith, slots, start, follows))
  ]

  -- what is approved in a window is of the Intent's own command
  its-own : (slot : ℕ) (intent : TheIntent) → intent_at records slot ≡ Some intent → (entry : BookedEntry) → In entry book → IsApprovedInWindow records slot intent entry → IsForKey past.commands (intent_key intent) entry
  its-own slot intent there entry within is = elim ((intents slot intent there).lower entry within is.numbering_is (sent entry within) is.approved) [
    | inl low ↦ let above = is.inside.above in absurd (omega (arith, low, above))
    | inr from ↦ elim (cases_lt slot from.since.at) [
      | inl later ↦ absurd (of-later from later)
      | inr not_later ↦
          let start = from.since.from in
          let here : from.since.at ≡ slot = omega (arith, not_later, start) in
          let same : from.since.intent ≡ intent = same_Some from.since.intent intent (sym from.since.intent_is ∙ ap (intent_at records) here ∙ there) in
          record { command = from.command; sent = from.sent; key_is = from.since.key_is ∙ ap (λ (i : TheIntent). Some (intent_key i)) same; caused = from.caused }
    ]
  ]
    where
      -- the Intent of its command is of its numbering
      from-numbering : (from : IsEntryFrom past.commands records intent.poi slot entry) → numbering_of from.since.intent ≡ entry.numbering
      from-numbering from =
          sym ((intents from.since.at from.since.intent from.since.intent_is).sent_to from.command from.sent from.since.key_is)
          ∙ caused-numbering past entry from.command keyed.falling from.sent from.caused (all-in (λ (one : BookedEntry). is_caused past one one.cause) book honest.caused entry within)

      -- that of a later one is above the window's end
      of-later : (from : IsEntryFrom past.commands records intent.poi slot entry) → slot < from.since.at → ⊥
      of-later from later =
          let one : numbering_of from.since.intent ≡ numbering_of intent = from-numbering from ∙ is.numbering_is in
          let next = next-before records slot (numbering_of intent) from.since.at from.since.intent later from.since.intent_is one in
          let above = above-before next.next next.intent next.is.intent_is entry within (is.numbering_is ∙ sym next.is.numbering_is) (record {
            command = from.command;
            sent = from.sent;
            since = record { at = from.since.at; intent = from.since.intent; from = next.until; intent_is = from.since.intent_is; poi_is = from.since.poi_is ∙ sym (ap (λ (n : Numbering). n.poi) next.is.numbering_is); key_is = from.since.key_is };
            caused = from.caused;
          }) in
          let below = is.inside.within next.next next.intent next.is in
          omega (arith, above, below)

  -- it has the Intent's key
  key-of : (slot : ℕ) (intent : TheIntent) → intent_at records slot ≡ Some intent → (entry : BookedEntry) → In entry book → IsApprovedInWindow records slot intent entry → entry_key past entry ≡ Some (intent_key intent)
  key-of slot intent there entry within is =
      let own = its-own slot intent there entry within is in
      ap (option_and_then (key_at_place past.commands)) own.caused ∙ (key-sent past.place past.commands keyed.falling own.command own.sent ∙ own.key_is)

  once-in-window : (slot : ℕ) (intent : TheIntent) (at to : ℕ) (one other : BookedEntry) → intent_at records slot ≡ Some intent → slice_get book at ≡ Some one → slice_get book to ≡ Some other → IsApprovedInWindow records slot intent one
      → IsApprovedInWindow records slot intent other → at ≡ to
  once-in-window slot intent at to one other there found also here this =
      apart-one (entry_key past) book (booked-apart records past keyed book honest.caused honest.ordered) at to one other (intent_key intent) found also (key-of slot intent there one (at-in book at one found) here)
      (key-of slot intent there other (at-in book to other also) this)

  approved-in-window : (outcome : TheOutcome) (intent : TheIntent) → intent_at records outcome.slot ≡ Some intent → BearsOut true past.commands book past.place (intent_key intent) outcome → HasItsEntry records book intent outcome
  approved-in-window outcome intent there borne = record {
    at = found.0;
    entry = entry;
    found = found.1;
    in_window = record { numbering_is = same; approved = borne.booked.approved; inside = record { above = above; within = λ next other is. not-above-later outcome.slot intent there entry within same borne.booked.approved own next other is.intent_is is.numbering_is is.later } };
    kind = same-kind (booked_kind_of intent.what) entry.kind (sym (entry-kind laws records folded past keyed entry caused borne.command borne.sent borne.booked.caused outcome.slot intent there borne.key_is));
    number = borne.booked.number;
    receipt = borne.booked.receipt;
    amount = borne.booked.amount;
  }
    where
      entry : BookedEntry
      entry = borne.booked.entry

      within : In entry book
      within = borne.booked.within

      found : (at : ℕ) × (slice_get book at ≡ Some entry)
      found = in-at book entry within

      caused : is_caused past entry entry.cause ≡ true
      caused = all-in (λ (one : BookedEntry). is_caused past one one.cause) book honest.caused entry within

      same : entry.numbering ≡ numbering_of intent
      same = sym (caused-numbering past entry borne.command keyed.falling borne.sent borne.booked.caused caused) ∙ (intents outcome.slot intent there).sent_to borne.command borne.sent borne.key_is

      own : IsForKey past.commands (intent_key intent) entry
      own = record { command = borne.command; sent = borne.sent; key_is = borne.key_is; caused = borne.booked.caused }

      above : intent.before < entry.number
      above = above-before outcome.slot intent there entry within same (record {
        command = borne.command;
        sent = borne.sent;
        since = record { at = outcome.slot; intent = intent; from = omega arith; intent_is = there; poi_is = refl; key_is = borne.key_is };
        caused = borne.booked.caused;
      })

  none-in-window : (outcome : TheOutcome) (intent : TheIntent) → intent_at records outcome.slot ≡ Some intent → BearsOut false past.commands book past.place (intent_key intent) outcome → (entry : BookedEntry) → In entry book
      → IsApprovedInWindow records outcome.slot intent entry → ⊥
  none-in-window outcome intent there none entry within is =
      let own = its-own outcome.slot intent there entry within is in
      let clash : true ≡ false = sym is.approved ∙ none own.command own.sent own.key_is entry within own.caused in
      cc

  all-match : Matches records book
  all-match = record {
    folded = folded;
    rises = rises-along book honest.ordered;
    once = once-in-window;
    approved = λ at outcome intent found there is. approved-in-window outcome intent there (subst (λ (b : Bool). BearsOut b past.commands book past.place (intent_key intent) outcome) is (outcomes at outcome intent found there));
    declined = λ at outcome intent found there is to entry also inside.
        none-in-window outcome intent there (subst (λ (b : Bool). BearsOut b past.commands book past.place (intent_key intent) outcome) is (outcomes at outcome intent found there)) entry (at-in book to entry also) inside;
  }

  match-by-key : MatchesByKey past records book
  match-by-key = record { matches = all-match; owned = λ slot intent at entry there found inside. key-of slot intent there entry (at-in book at entry found) inside }

-- ---- along a lawful log

pub honest-matches : OrderLaws → LedgerLaws → HonestMatches
honest-matches orders laws log moves book lean honest ends =
    match-by-key laws (kept_after moves) (lean-folds orders log moves lean) past book honest both.holds.commands both.numbers.kept.intents outcomes (λ entry within. of-log past book honest entry within (early entry within))
  where
    past : Past
    past = past_of moves

    both : HoldsNumbered (view_from at_first moves) past book
    both = holds-along orders laws book moves lean.lawful honest

    outcomes : AreOutcomesTrue past.commands book past.place (kept_after moves)
    outcomes =
        let scene = (view_from at_first moves).scene in
        outcomes-of-first past.commands book past.place scene.kept (option_to_list scene.flight)
        (outcomes-of-first past.commands book past.place (records_of scene) (records_kept (view_from at_first moves).calls) both.holds.outcomes)

    early : (entry : BookedEntry) → In entry book → (place : ℕ) → entry.cause ≡ Some place → place < past.place
    early entry within place is =
        let all = subst (λ (cause : Option ℕ). list_all (λ (one : ℕ). nat_lt one past.place) (option_to_list cause) ≡ true) is (all-in (is_caused_before past.place) book ends entry within) in
        ltb-true place past.place (and_parts (nat_lt place past.place) true all).0
