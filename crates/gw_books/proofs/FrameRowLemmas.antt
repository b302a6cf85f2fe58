-- What a row leaves of the terminals, where it sets one of them to another with the same settings.
use Rattle.std.proofs.Common.{◌≡◌, ◌≢◌, ◌∙◌, ℕ, zero, suc, eqb, Bool, true, false, List, [], ◌∷◌, ◌++◌, Some, slice_get, refl, sym, ap, subst, arith}
use Rattle.std.specs.Prelude.{if◌then◌else◌, set}
use Rattle.std.proofs.lemmas.Bool.{eqb-true, eqb-false}
use Rattle.std.proofs.lemmas.Option.{same_Some}
use Rattle.jrn_record.specs.declared.records.Record.{Record}
use Rattle.gw_owes.specs.declared.terminal.Terminal.{Terminal}
use Rattle.gw_owes.specs.Calls.{OwedCall}
use Rattle.gw_owes.specs.Core.{Core}
use Rattle.gw_owes.specs.RecordLaws.{IsInOrder}
use Rattle.gw_owes.specs.Row.{Known}
use Rattle.gw_owes.specs.Terminals.{with_terminal}
use Rattle.gw_owes.proofs.SetLemmas.{new-is-there, others-stay}
use Rattle.gw_rules.specs.TranscriptLaws.{cut_owed}
use Rattle.gw_books.specs.Past.{SentCommand, MadeLink}
use Rattle.gw_books.proofs.Holding.{IsOfTerminal, IsServingSound, IsRepliable, AreRepliable, charge_owed}
use Rattle.gw_books.proofs.RecordMoreLemmas.{served-intent, serving-more}

-- what holds of every other element at its place, and of the new one at its own, holds of each
each-set : {A : Type 0} (P : ℕ → A → Type 0) (all : List A) (at : ℕ) (new : A) → ((number : ℕ) (one : A) → number ≢ at → slice_get all number ≡ Some one → P number one) → P at new
    → (number : ℕ) (one : A) → slice_get (set all at new) number ≡ Some one → P number one
each-set P [] at new others holds number one found = absurd cc
each-set P (first ∷ rest) zero new others holds zero one found = subst (P zero) (same_Some new one found) holds
each-set P (first ∷ rest) zero new others holds (suc number) one found = others (suc number) one (λ e. omega arith) found
each-set P (first ∷ rest) (suc at) new others holds zero one found = others zero one (λ e. omega arith) found
each-set P (first ∷ rest) (suc at) new others holds (suc number) one found =
    each-set (λ (n : ℕ). P (suc n)) rest at new (λ n o apart there. others (suc n) o (λ e. apart (omega arith)) there) holds number one found

-- so it is of terminals
pub each-in-place : (P : ℕ → Terminal → Type 0) (core : Core) (number : ℕ) (new : Terminal) → ((other : ℕ) (terminal : Terminal) → other ≢ number → slice_get core.terminals other ≡ Some terminal → P other terminal) → P number new
    → (other : ℕ) (terminal : Terminal) → slice_get (with_terminal core number new).terminals other ≡ Some terminal → P other terminal
each-in-place P core number new others holds other terminal found = each-set P core.terminals number new others holds other terminal found

-- each terminal still serves a payment or a reversal
pub repliable-stay : (core : Core) (number : ℕ) (new : Terminal) → AreRepliable core → IsRepliable new.standing → AreRepliable (with_terminal core number new)
repliable-stay core number new serve serves = each-in-place (λ other terminal. IsRepliable terminal.standing) core number new (λ other terminal apart found. serve other terminal found) serves

module _ (core : Core) (number : ℕ) (old new : Terminal) (here : slice_get core.terminals number ≡ Some old) (same : new.pt ≡ old.pt) (link : MadeLink) (owner : IsOfTerminal core link) where
  abbrev in-its-place : Bool → Terminal
  in-its-place b = if b then new else owner.terminal

  still-found : (b : Bool) → eqb owner.number number ≡ b → slice_get (with_terminal core number new).terminals owner.number ≡ Some (in-its-place b)
  still-found true is = ap (slice_get (set core.terminals number new)) (eqb-true owner.number number is) ∙ new-is-there core.terminals number old new here
  still-found false is = others-stay core.terminals number owner.number new (eqb-false owner.number number is) ∙ owner.found

  still-poi : (b : Bool) → eqb owner.number number ≡ b → (in-its-place b).pt.poi ≡ link.numbering.poi
  still-poi true is =
      let it : old ≡ owner.terminal = same_Some old owner.terminal (sym here ∙ ap (slice_get core.terminals) (sym (eqb-true owner.number number is)) ∙ owner.found) in
      ap (λ pt. pt.poi) same ∙ ap (λ (t : Terminal). t.pt.poi) it ∙ owner.poi_is
  still-poi false is = owner.poi_is

  -- a link stays that of its terminal, of the same number
  pub link-stays : IsOfTerminal (with_terminal core number new) link
  link-stays = record {
    number = owner.number;
    terminal = in-its-place (eqb owner.number number);
    found = still-found (eqb owner.number number) refl;
    poi_is = still-poi (eqb owner.number number) refl;
  }

-- the last commands to the terminals that serve stay those of what they serve, with more records, where it is so of the new one
pub serving-frame : (known : Known) (number : ℕ) (new : Terminal) (more : List Record) (commands : List SentCommand) (calls : List OwedCall) → IsInOrder known
    → ((other : ℕ) (terminal : Terminal) → slice_get known.core.terminals other ≡ Some terminal → IsServingSound known.kept commands terminal.pt.poi terminal.standing)
    → (charge_owed number calls ≡ false → cut_owed number calls ≡ false → IsServingSound (known.kept ++ more) commands new.pt.poi new.standing)
    → (other : ℕ) (terminal : Terminal) → slice_get (with_terminal known.core number new).terminals other ≡ Some terminal
    → charge_owed other calls ≡ false → cut_owed other calls ≡ false → IsServingSound (known.kept ++ more) commands terminal.pt.poi terminal.standing
serving-frame known number new more commands calls order were its_own =
    each-in-place (λ other terminal. charge_owed other calls ≡ false → cut_owed other calls ≡ false → IsServingSound (known.kept ++ more) commands terminal.pt.poi terminal.standing) known.core number new others its_own
  where
    others : (other : ℕ) (terminal : Terminal) → other ≢ number → slice_get known.core.terminals other ≡ Some terminal
        → charge_owed other calls ≡ false → cut_owed other calls ≡ false → IsServingSound (known.kept ++ more) commands terminal.pt.poi terminal.standing
    others other terminal apart found uncharged uncut =
        serving-more known.kept more commands terminal.pt.poi terminal.standing (served-intent known.kept terminal.pt.poi terminal.standing (order.terminals other terminal found).records) (were other terminal found)
