-- What holds after a row, by what it leaves of the terminals and of the records.
use Rattle.std.proofs.Common.{◌≡◌, ◌⊎◌, ◌≤◌, ◌∙◌, ℕ, zero, suc, ◌+◌, Bool, true, false, ◌||◌, eqb, List, [], ◌∷◌, ◌++◌, length, inl, inr, refl, sym, ap, subst, arith, length-append}
use Rattle.std.specs.Prelude.{set, slice_get, Some}
use Rattle.std.specs.List.{list_any}
use Rattle.std.proofs.lemmas.Bool.{eqb-false, eqb-true}
use Rattle.std.proofs.lemmas.Option.{same_Some}
use Rattle.gw_base.specs.declared.setup.Pt.{Pt}
use Rattle.jrn_record.specs.declared.records.Record.{Record}
use Rattle.gw_owes.specs.declared.terminal.Standing.{Standing}
use Rattle.gw_owes.specs.declared.terminal.Terminal.{Terminal}
use Rattle.gw_owes.specs.Calls.{OwedCall}
use Rattle.gw_owes.specs.Core.{Core}
use Rattle.gw_owes.specs.RecordLaws.{AreRecordsOf}
use Rattle.gw_owes.specs.Row.{Known, Row}
use Rattle.gw_owes.specs.Terminals.{with_terminal}
use Rattle.gw_owes.proofs.RecordLemmas.{LedgerLaws}
use Rattle.gw_owes.proofs.SetLemmas.{new-is-there, others-stay}
use Rattle.gw_rules.specs.TranscriptLaws.{cut_owed}
use Rattle.gw_books.specs.Agrees.{is_inside}
use Rattle.gw_books.specs.Books.{BookedEntry}
use Rattle.gw_books.specs.Past.{Occasion, SentCommand, MadeLink, HeardEnd, Past}
use Rattle.gw_books.proofs.Holding.{AreCallsSound, AreOutcomesTrue, HoldsAfterRow, HoldsBetween, IsLinkAtRest, IsLinkSound, IsOfTerminal, IsResolvedOn, IsServingSound, IsRepliable, charge_owed, deed_owed, is_handle, is_report_after, records_after}
use Rattle.gw_books.proofs.RecordMoreLemmas.{resolved-more, served-intent, serving-more}

-- ---- records

-- these records leave what is resolved and what is served of those before
pub record Grows (kept records : List Record) (commands : List SentCommand) : Type 0 where
  pub longer : length kept ≤ length records
  pub resolved : (link : MadeLink) → link.records ≤ length kept → IsResolvedOn kept link → IsResolvedOn records link
  pub served : (poi : List ℕ) (standing : Standing) → AreRecordsOf kept poi standing → IsServingSound kept commands poi standing → IsServingSound records commands poi standing

-- none more
pub grows-none : (kept : List Record) (commands : List SentCommand) → Grows kept kept commands
grows-none kept commands = record { longer = omega arith; resolved = λ link before is. is; served = λ poi standing has is. is }

-- one more
pub grows-one : (laws : LedgerLaws) (kept : List Record) (next : Record) (commands : List SentCommand) → Grows kept (kept ++ next ∷ []) commands
grows-one laws kept next commands = record {
  longer = let more : length (kept ++ next ∷ []) ≡ length kept + 1 = length-append kept (next ∷ []) in omega arith;
  resolved = λ link before is. resolved-more laws kept next link before is;
  served = λ poi standing has is. serving-more kept (next ∷ []) commands poi standing (served-intent kept poi standing has) is;
}

-- ---- a row

-- what is served at the terminal of this number is sound, unless its command is still owed, or its cut
pub record IsServedSound (records : List Record) (commands : List SentCommand) (calls : List OwedCall) (number : ℕ) (terminal : Terminal) : Type 0 where
  pub repliable : IsRepliable terminal.standing
  pub serving : charge_owed number calls ≡ false → cut_owed number calls ≡ false → IsServingSound records commands terminal.pt.poi terminal.standing

-- a terminal of this number has these settings
pub record HasSettings (core : Core) (number : ℕ) (pt : Pt) : Type 0 where
  pub terminal : Terminal
  pub found : slice_get core.terminals number ≡ Some terminal
  pub same : terminal.pt ≡ pt

-- what a row leaves and owes, where what its item is about and the ends that it brings are these
pub record RowParts (known : Known) (past : Past) (book : List BookedEntry) (occasion : Occasion) (ends : List HeardEnd) (row : Row) (records : List Record) : Type 0 where
  pub records_are : records_after known row ≡ records
  pub grows : Grows known.kept records past.commands
  pub outcomes : AreOutcomesTrue past.commands book past.place records
  pub calls : AreCallsSound records row.core past.commands occasion row.calls
  -- each terminal was there, or what it serves is sound
  pub from : (number : ℕ) (terminal : Terminal) → slice_get row.core.terminals number ≡ Some terminal
      → (slice_get known.core.terminals number ≡ Some terminal) ⊎ IsServedSound records past.commands row.calls number terminal
  -- each that was there has its settings
  pub onto : (number : ℕ) (terminal : Terminal) → slice_get known.core.terminals number ≡ Some terminal → HasSettings row.core number terminal.pt
  pub inside : deed_owed row.calls ≡ true → is_inside occasion ≡ true
  pub no_items : row.items ≡ []
  -- after a report that it brings, the link is resolved, or its cut is owed
  pub reported : (link : MadeLink) (it : IsOfTerminal known.core link) → list_any (is_report_after link) ends ≡ true → (cut_owed (IsOfTerminal.number it) row.calls ≡ true) ⊎ IsResolvedOn records link

any-of-both : {A : Type 0} (test : A → Bool) (one other : List A) → list_any test (one ++ other) ≡ true → (list_any test one ≡ true) ⊎ (list_any test other ≡ true)
any-of-both test [] other any = inr any
any-of-both test (x ∷ one) other any = by-test (test x) refl (any-of-both test one other) any
  where
    by-test : (b : Bool) → test x ≡ b → (list_any test (one ++ other) ≡ true → (list_any test one ≡ true) ⊎ (list_any test other ≡ true)) → (b || list_any test (one ++ other)) ≡ true
        → ((test x || list_any test one) ≡ true) ⊎ (list_any test other ≡ true)
    by-test true is more passes = inl (ap (λ (b : Bool). b || list_any test one) is)
    by-test false is more passes = elim (more passes) [
      | inl here ↦ inl (ap (λ (b : Bool). b || list_any test one) is ∙ here)
      | inr there ↦ inr there
    ]

-- such a row holds
pub parts-hold : (known : Known) (past : Past) (book : List BookedEntry) (occasion : Occasion) (ends : List HeardEnd) (row : Row) (records : List Record) → HoldsBetween known past book
    → RowParts known past book occasion ends row records → HoldsAfterRow known (record past { occasion = occasion; ends = ends ++ past.ends }) book row
parts-hold known past book occasion ends row records holds parts = record {
  outcomes = subst (λ (r : List Record). AreOutcomesTrue past.commands book past.place r) (sym parts.records_are) parts.outcomes;
  calls = subst (λ (r : List Record). AreCallsSound r row.core past.commands occasion row.calls) (sym parts.records_are) parts.calls;
  serving = λ number terminal found uncharged uncut.
      subst (λ (r : List Record). IsServingSound r past.commands terminal.pt.poi terminal.standing) (sym parts.records_are) (serves number terminal found uncharged uncut);
  repliable = repliable;
  inside = parts.inside;
  handles_none = ap (list_any is_handle) parts.no_items;
  links = λ link there. subst (λ (r : List Record). IsLinkSound r row.core row.calls (record past { occasion = occasion; ends = ends ++ past.ends }) link) (sym parts.records_are) (link-sound link (holds.links link there));
}
  where
    serves : (number : ℕ) (terminal : Terminal) → slice_get row.core.terminals number ≡ Some terminal → charge_owed number row.calls ≡ false → cut_owed number row.calls ≡ false
        → IsServingSound records past.commands terminal.pt.poi terminal.standing
    serves number terminal found uncharged uncut = elim (parts.from number terminal found) [
      | inl was ↦ parts.grows.served terminal.pt.poi terminal.standing (holds.in_order.terminals number terminal was).records (holds.serving number terminal was)
      | inr new ↦ new.serving uncharged uncut
    ]

    repliable : (number : ℕ) (terminal : Terminal) → slice_get row.core.terminals number ≡ Some terminal → IsRepliable terminal.standing
    repliable number terminal found = elim (parts.from number terminal found) [
      | inl was ↦ holds.repliable number terminal was
      | inr new ↦ new.repliable
    ]

    link-sound : (link : MadeLink) → IsLinkAtRest known.kept known.core past link → IsLinkSound records row.core row.calls (record past { occasion = occasion; ends = ends ++ past.ends }) link
    link-sound link rest =
        let it = rest.of_terminal in
        let stays = parts.onto it.number it.terminal it.found in
        let longer : length known.kept ≤ length records = parts.grows.longer in
        let before : link.records ≤ length known.kept = rest.records_before in
        record {
          of_terminal = record { number = it.number; terminal = stays.terminal; found = stays.found; poi_is = ap (λ (pt : Pt). pt.poi) stays.same ∙ it.poi_is };
          before = rest.before;
          records_before = omega arith;
          resolved = λ any. elim (any-of-both (is_report_after link) ends past.ends any) [
            | inl here ↦ parts.reported link it here
            | inr there ↦ inr (parts.grows.resolved link before (rest.resolved there))
          ];
        }

-- ---- a terminal that becomes another

-- one of a list of which one is replaced is another one, or the new one
set-either : {A : Type 0} (all : List A) (at : ℕ) (new : A) (number : ℕ) (one : A) → slice_get (set all at new) number ≡ Some one → (slice_get all number ≡ Some one) ⊎ ((number ≡ at) × (one ≡ new))
set-either [] at new number one found = absurd cc
set-either (first ∷ rest) zero new zero one found = inr (refl, sym (same_Some new one found))
set-either (first ∷ rest) zero new (suc number) one found = inl found
set-either (first ∷ rest) (suc at) new zero one found = inl found
set-either (first ∷ rest) (suc at) new (suc number) one found = elim (set-either rest at new number one found) [
  | inl there ↦ inl there
  | inr here ↦ inr (ap suc here.0, here.1)
]

-- each terminal was there, or is the new one
pub from-set : (known : Known) (number : ℕ) (new : Terminal) (records : List Record) (commands : List SentCommand) (calls : List OwedCall) → IsServedSound records commands calls number new
    → (other : ℕ) (terminal : Terminal) → slice_get (with_terminal known.core number new).terminals other ≡ Some terminal
    → (slice_get known.core.terminals other ≡ Some terminal) ⊎ IsServedSound records commands calls other terminal
from-set known number new records commands calls sound other terminal found = elim (set-either known.core.terminals number new other terminal found) [
  | inl there ↦ inl there
  | inr here ↦ inr (subst (λ (t : Terminal). IsServedSound records commands calls other t) (sym here.1) (subst (λ (n : ℕ). IsServedSound records commands calls n new) (sym here.0) sound))
]

-- each that was there has its settings
pub onto-set : (known : Known) (number : ℕ) (old new : Terminal) → slice_get known.core.terminals number ≡ Some old → new.pt ≡ old.pt
    → (other : ℕ) (terminal : Terminal) → slice_get known.core.terminals other ≡ Some terminal → HasSettings (with_terminal known.core number new) other terminal.pt
onto-set known number old new here same other terminal found = by-test (eqb other number) refl
  where
    by-test : (b : Bool) → eqb other number ≡ b → HasSettings (with_terminal known.core number new) other terminal.pt
    by-test true is =
        let at : other ≡ number = eqb-true other number is in
        let was : old ≡ terminal = same_Some old terminal (sym here ∙ ap (slice_get known.core.terminals) (sym at) ∙ found) in
        record {
          terminal = new;
          found = ap (slice_get (set known.core.terminals number new)) at ∙ new-is-there known.core.terminals number old new here;
          same = same ∙ ap (λ (t : Terminal). t.pt) was;
        }
    by-test false is = record { terminal = terminal; found = others-stay known.core.terminals number other new (eqb-false other number is) ∙ found; same = refl }

-- each that was there is there
pub onto-same : (core : Core) (number : ℕ) (terminal : Terminal) → slice_get core.terminals number ≡ Some terminal → HasSettings core number terminal.pt
onto-same core number terminal found = record { terminal = terminal; found = found; same = refl }
