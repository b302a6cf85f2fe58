-- What the terminals' readers hold beside what was heard on their links.
use Rattle.std.proofs.Common.{◌≡◌, ℕ, zero, suc, ◌<◌, List, [], ◌∷◌, length, get_or, refl, sym, ◌∙◌, ap, arith}
use Rattle.std.specs.Prelude.{◌≢◌, if◌then◌else◌, Bool, true, false, IfSome, Some, slice_get}
use Rattle.std.proofs.lemmas.Option.{slice_get-get_or, get_or_from_slice_get}
use Rattle.gw_site.specs.Outside.{Outside, is_connected, heard_on}
use Rattle.zvt_apdu.specs.Decode.{DecodedApdu, decode_apdu}
use Rattle.zvt_apdu.specs.DecodeStream.{decode_apdus}
use Rattle.gw_owes.specs.declared.terminal.Terminal.{Terminal}
use Rattle.gw_owes.specs.Core.{Core}
use Rattle.gw_owes.specs.Links.{is_linked}
use Rattle.gw_dispatch.specs.MidRound.{is_linked_in, AreLinked, AllHear, AreHeard}
use Rattle.gw_dispatch.proofs.ApduLemmas.{rest-waiting}

-- whether the terminal is linked, as the code asks
pub linked-is : (terminals : List Terminal) (pt : ℕ) (linked : Bool) → pt < length terminals → IfSome (slice_get terminals pt) (λ (terminal : Terminal). linked ≡ is_linked terminal.standing) → is_linked_in (slice_get terminals pt) ≡ linked
linked-is [] pt linked inside asked = absurd (omega arith)
linked-is (terminal ∷ terminals) zero linked inside asked = sym asked
linked-is (terminal ∷ terminals) (suc pt) linked inside asked = linked-is terminals pt linked (omega arith) asked

-- one that is linked is there
pub linked-there : (terminals : List Terminal) (pt : ℕ) → is_linked_in (slice_get terminals pt) ≡ true → pt < length terminals
linked-there [] pt linked = absurd (let h : false ≡ true = linked in cc)
linked-there (terminal ∷ terminals) zero linked = omega arith
linked-there (terminal ∷ terminals) (suc pt) linked = omega (arith, linked-there terminals pt linked)

-- each reader holds less than an APDU
abbrev pub AllWait : List (List ℕ) → Type 0
AllWait readers = (number : ℕ) (bytes : List ℕ) → slice_get readers number ≡ Some bytes → decode_apdu bytes ≡ DecodedApdu.Incomplete

-- each reader but this one holds the rest after what was heard
abbrev pub OthersFit : ℕ → List (List ℕ) → (ℕ → List ℕ) → Type 0
OthersFit but readers heard = (number : ℕ) (bytes : List ℕ) → number ≢ but → slice_get readers number ≡ Some bytes → (decode_apdus (heard number)).rest ≡ bytes

-- each reader holds it
abbrev pub Fit : List (List ℕ) → (ℕ → List ℕ) → Type 0
Fit readers heard = (number : ℕ) (bytes : List ℕ) → slice_get readers number ≡ Some bytes → (decode_apdus (heard number)).rest ≡ bytes

-- what was heard on each link; of a terminal that isn't linked, what its reader holds
abbrev pub heard_by : List (List ℕ) → Outside → ℕ → List ℕ
heard_by readers o number = if is_connected o.links number then heard_on o.links number else get_or readers number []

pub are-heard : (readers : List (List ℕ)) (o : Outside) → AreHeard (heard_by readers o) o
are-heard readers o number there = rw there refl

pub same-bytes : (one other : List ℕ) → Some one ≡ Some other → one ≡ other
same-bytes one other e = cc

pub fit-heard : (readers : List (List ℕ)) (o : Outside) → AllWait readers → AllHear readers o → Fit readers (heard_by readers o)
fit-heard readers o waits hear number bytes found = by_link (is_connected o.links number) refl
  where
    by_link : (link : Bool) → is_connected o.links number ≡ link → (decode_apdus (heard_by readers o number)).rest ≡ bytes
    by_link true there = rw there (same-bytes _ bytes (sym (hear number there) ∙ found))
    by_link false none = rw none (ap (λ (b : List ℕ). (decode_apdus b).rest) (get_or_from_slice_get readers number bytes [] found) ∙ rest-waiting bytes (waits number bytes found))

-- what the reader of a terminal holds that is linked
pub hears-at : (readers : List (List ℕ)) (heard : ℕ → List ℕ) (core : Core) (o : Outside) (number : ℕ) → length readers ≡ length core.terminals → AreLinked core o → AreHeard heard o →
    ((bytes : List ℕ) → slice_get readers number ≡ Some bytes → (decode_apdus (heard number)).rest ≡ bytes) → is_connected o.links number ≡ true → slice_get readers number ≡ Some (decode_apdus (heard_on o.links number)).rest
hears-at readers heard core o number count linked all fits there =
    let inside : number < length readers = omega (arith, count, linked-there core.terminals number (sym (linked number) ∙ there)) in
    let found : slice_get readers number ≡ Some (get_or readers number []) = slice_get-get_or readers number [] inside in
    found ∙ ap Some (sym (fits (get_or readers number []) found) ∙ sym (ap (λ (b : List ℕ). (decode_apdus b).rest) (all number there)))
