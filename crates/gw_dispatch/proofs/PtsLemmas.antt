-- The terminals of a run: their links, what their readers hold, and their items.
use Rattle.std.proofs.Common.{◌≡◌, ℕ, zero, suc, ◌+◌, ◌-◌, ◌<◌, ◌≤◌, List, [], ◌∷◌, ◌++◌, length, set, refl, sym, ◌∙◌, ap, subst, arith, append_assoc, inl, inr}
use Rattle.std.specs.Prelude.{ℤ, ◌==◌, if◌then◌else◌, Bool, true, false, OnOk, Option, Some, None, Result, Ok, Err, slice_get, replicate}
use Rattle.std.specs.List.{flat_map}
use Rattle.std.proofs.lemmas.Bool.{cases_eq, eq-eqb, ne_eqb, eqb-true, eqb-false}
use Rattle.std.proofs.lemmas.List.{length-set, length-replicate}
use Rattle.gw_base.specs.declared.setup.Setup.{Setup}
use Rattle.gw_site.specs.Observed.{Observed}
use Rattle.gw_site.specs.Outside.{Outside, outside_after, is_connected, heard_on, hears, without}
use Rattle.gw_site.specs.declared.turn.Turn.TheVariants.{HeardPt, Lost}
use Rattle.jrn_record.specs.declared.records.Record.{Record}
use Rattle.zvt_apdu.specs.Grammar.{ApduValue}
use Rattle.zvt_apdu.specs.Decode.{DecodedApdu, decode_apdu}
use Rattle.zvt_apdu.specs.DecodeStream.{decode_apdus}
use Rattle.gw_owes.specs.declared.terminal.Standing.{Standing}
use Rattle.gw_owes.specs.declared.terminal.Standing.TheVariants.{Unlinked, Registering, Enquiring, Ready, Serving, Aside}
use Rattle.gw_owes.specs.declared.terminal.Terminal.{Terminal}
use Rattle.gw_owes.specs.Calls.{LinkPt, OwedCall}
use Rattle.gw_owes.specs.Core.{Core, new_core}
use Rattle.gw_owes.specs.Deadlines.{is_due}
use Rattle.gw_owes.specs.Dialogues.{AllHaveDialogues}
use Rattle.gw_owes.specs.Events.{apdu_items, is_oversized}
use Rattle.gw_owes.specs.Items.{RoundItem, Greet, Handle, NextWaiting, Oversized, LinkLost, Due}
use Rattle.gw_owes.specs.Links.{is_linked, LinkIsLost, link_row}
use Rattle.gw_owes.specs.Row.{Known, owing, owing_nothing, owing_where}
use Rattle.gw_owes.specs.TerminalLaws.{ChangesTerminalAlone, IsOwedNothing}
use Rattle.gw_owes.specs.Terminals.{terminal_at, of_terminal}
use Rattle.gw_owes.proofs.DialogueLemmas.{new-has}
use Rattle.gw_owes.proofs.SetLemmas.{others-stay}
use Rattle.gw_owes.proofs.TerminalLemmas.{unlinked-owes-nothing, absent-owes-nothing, link-changes-alone}
use Rattle.gw_rules.specs.Stage.{Broken}
use Rattle.gw_rules.specs.Triple.{Triple}
use Rattle.gw_rules.specs.View.{View, at_first}
use Rattle.gw_rules.proofs.TripleLemmas.{triple-refl, triple-then, triple-after, triple-before, triple-frame, triple-some}
use Rattle.gw_core.specs.IsRow.{IsRow, alone}
use Rattle.gw_core.specs.declared.act.Act.{Act}
use Rattle.gw_dispatch.specs.Apdus.{items_held, IsRest}
use Rattle.gw_dispatch.specs.RunState.{ForgetsAny, IsWell, UnlessBroken}
use Rattle.gw_dispatch.specs.MidRound.{is_linked_in, AreLinked, AllHear, AreHeard, AreReady, HeldRound, MidRound, BeforePt, BeforePtChunk, BeforePtClosed, each_terminal}
use Rattle.gw_dispatch.specs.Round.{InRound, HoldsTills, Pending, known_at}
use Rattle.gw_dispatch.specs.declared.run_state.RunState.{RunState}
use Rattle.gw_dispatch.specs.declared.tills.Till.{Till}
use Rattle.gw_dispatch.proofs.ApduLemmas.{items-apdu, items-oversized, items-waiting, rest-chunk, rest-waiting}
use Rattle.gw_dispatch.proofs.EngineLemmas.{begin-first, pass}
use Rattle.gw_dispatch.proofs.FitLemmas.{AllWait, Fit, OthersFit, are-heard, fit-heard, heard_by, hears-at, same-bytes}
use Rattle.gw_dispatch.proofs.HeardLemmas.{cut-there, cut-others, cut-heard, hears-there, hears-here, hears-others}
use Rattle.gw_dispatch.proofs.LinkLemmas.{lost-is-unlinked}
use Rattle.gw_dispatch.proofs.PerformLemmas.{IsRowOf, link-alone, link-has, others-have, row-becomes, unlinked-next}
use Rattle.gw_dispatch.proofs.SendLemmas.{sent-count, sent-dialogues}

-- ---- what is remembered of a terminal

-- as a run begins each reader is empty
empty-there : (count number : ℕ) (bytes : List ℕ) → slice_get (replicate count []) number ≡ Some bytes → decode_apdu bytes ≡ DecodedApdu.Incomplete
empty-there zero number bytes found = absurd cc
empty-there (suc count) zero bytes found =
    let same : [] ≡ bytes = cc in
    ap decode_apdu (sym same)
empty-there (suc count) (suc number) bytes found = empty-there count number bytes found

pub new-ready : (setup : Setup) (core : Core) (readers : List (List ℕ)) (count : ℕ) → core ≡ new_core setup → count ≡ length core.terminals → readers ≡ replicate count [] → AreReady core readers
new-ready setup core readers count is counted empty = record {
  dialogues = subst AllHaveDialogues (sym is) (new-has setup);
  count = ap length empty ∙ length-replicate {A = List ℕ} count [] ∙ counted;
  waits = λ number bytes found. empty-there count number bytes (ap (λ (list : List (List ℕ)). slice_get list number) (sym empty) ∙ found);
}

-- ---- rounds that are held

-- an outside is wanted where the site is dark
no_outside : Outside
no_outside = at_first.scene.outside

-- what makes no call keeps what is held beside the items
pub pass-held : (s : Observed) (setup : Setup) (core : Core) (kept : List Record) (tills : List Till) (polls : ℕ) (now : ℤ) (Also : Outside → Type 0) (old new : List RoundItem) →
    ((o : Outside) → Triple s s (InRound (known_at setup core kept now) polls o old) (InRound (known_at setup core kept now) polls o new)) →
    Triple s s (MidRound setup core kept tills polls now Also [] old) (MidRound setup core kept tills polls now Also [] new)
pass-held s setup core kept tills polls now Also old new k =
    triple-before s s _ (λ v. (o : Outside) × (InRound (known_at setup core kept now) polls o old v × Facts o)) _ (λ v p. (p.outside, (p.round, (p.tills_are, (p.linked, p.also)))))
    (triple-some s s (λ (o : Outside) v. InRound (known_at setup core kept now) polls o old v × Facts o) _ no_outside
    (λ o. triple-after s s _ _ _ (triple-frame s s _ _ (Facts o) (k o)) (λ v q. record { outside = o; round = q.0; tills_are = q.1.0; linked = q.1.1.0; also = q.1.1.1 })))
  where
    Facts : Outside → Type 0
    Facts o = HoldsTills tills o × (AreLinked core o × Also o)

-- ---- items that are passed

-- the items of what a terminal sends that isn't linked owe nothing
module _ (s : Observed) (known : Known) (polls : ℕ) (o : Outside) (pt : ℕ) (unlinked : is_linked_in (terminal_at known pt) ≡ false) where
  owed-nothing : (apdu : ApduValue) → IsOwedNothing known pt apdu
  owed-nothing apdu = by_terminal (terminal_at known pt) refl unlinked
    where
      by_standing : (terminal : Terminal) (standing : Standing) → terminal_at known pt ≡ Some terminal → terminal.standing ≡ standing → is_linked standing ≡ false → IsOwedNothing known pt apdu
      by_standing terminal (Unlinked due) found e none = unlinked-owes-nothing known pt terminal due apdu found e
      by_standing terminal Registering found e none = absurd (let h : true ≡ false = none in cc)
      by_standing terminal Enquiring found e none = absurd (let h : true ≡ false = none in cc)
      by_standing terminal (Ready last) found e none = absurd (let h : true ≡ false = none in cc)
      by_standing terminal (Serving service last) found e none = absurd (let h : true ≡ false = none in cc)
      by_standing terminal (Aside before reported) found e none = absurd (let h : true ≡ false = none in cc)

      by_terminal : (found : Option Terminal) → terminal_at known pt ≡ found → is_linked_in found ≡ false → IsOwedNothing known pt apdu
      by_terminal None e none = absent-owes-nothing known pt apdu e
      by_terminal (Some terminal) e none = by_standing terminal terminal.standing e refl none

  pass-apdu : (apdu : ApduValue) (items : List RoundItem) → Triple s s (InRound known polls o (apdu_items pt apdu ++ items)) (InRound known polls o items)
  pass-apdu apdu items =
      triple-then s s s _ _ _ (pass s known polls o (Greet pt apdu) (Handle pt apdu ∷ NextWaiting pt ∷ items) (record { begins = λ scene e. refl; row = (owed-nothing apdu).greeted }))
      (triple-then s s s _ _ _ (pass s known polls o (Handle pt apdu) (NextWaiting pt ∷ items) (record { begins = λ scene e. refl; row = (owed-nothing apdu).handled }))
      (pass s known polls o (NextWaiting pt) items (record { begins = λ scene e. refl; row = unlinked-next known pt unlinked })))

  pass-each : (apdus : List ApduValue) (items : List RoundItem) → Triple s s (InRound known polls o (flat_map (apdu_items pt) apdus ++ items)) (InRound known polls o items)
  pass-each [] items = triple-refl s _
  pass-each (apdu ∷ apdus) items = triple-then s s s _ _ _ (pass-apdu apdu (flat_map (apdu_items pt) apdus ++ items)) (pass-each apdus items)

  pass-oversized : (test : Bool) (items : List RoundItem) → Triple s s (InRound known polls o ((if test then Oversized pt ∷ [] else []) ++ items)) (InRound known polls o items)
  pass-oversized true items = pass s known polls o (Oversized pt) items (record { begins = λ scene e. refl; row = (owed-nothing (record { class = 0; instr = 0; body = [] })).oversized })
  pass-oversized false items = triple-refl s _

  pub pass-apdus : (bytes : List ℕ) (items : List RoundItem) → Triple s s (InRound known polls o (items_held pt bytes ++ items)) (InRound known polls o items)
  pass-apdus bytes items =
      let decoded = decode_apdus bytes in
      let last : List RoundItem = if is_oversized (decode_apdu decoded.rest) then Oversized pt ∷ [] else [] in
      triple-before s s _ _ _ (λ v p. subst (λ list. InRound known polls o list v) (append_assoc (flat_map (apdu_items pt) decoded.apdus) last items) p)
      (triple-then s s s _ _ _ (pass-each decoded.apdus (last ++ items)) (pass-oversized (is_oversized (decode_apdu decoded.rest)) items))

-- a terminal that is linked isn't due
due-linked : (known : Known) (pt : ℕ) (found : Option Terminal) → is_linked_in found ≡ true →
    of_terminal known (λ terminal. owing_where (is_due known.moment terminal.standing) known (owing known (LinkPt pt ∷ []))) found ≡ owing_nothing known
due-linked known pt None linked = refl
due-linked known pt (Some terminal) linked = by_standing terminal.standing linked
  where
    by_standing : (standing : Standing) → is_linked standing ≡ true → owing_where (is_due known.moment standing) known (owing known (LinkPt pt ∷ [])) ≡ owing_nothing known
    by_standing (Unlinked due) linked = absurd (let h : false ≡ true = linked in cc)
    by_standing Registering linked = refl
    by_standing Enquiring linked = refl
    by_standing (Ready last) linked = refl
    by_standing (Serving service last) linked = refl
    by_standing (Aside before reported) linked = refl

pub pass-linked : (s : Observed) (setup : Setup) (core : Core) (kept : List Record) (tills : List Till) (polls : ℕ) (now : ℤ) (Also : Outside → Type 0) (pt : ℕ) (items : List RoundItem) → is_linked_in (slice_get core.terminals pt) ≡ true →
    Triple s s (MidRound setup core kept tills polls now Also [] (Due pt ∷ items)) (MidRound setup core kept tills polls now Also [] items)
pass-linked s setup core kept tills polls now Also pt items linked = pass-held s setup core kept tills polls now Also (Due pt ∷ items) items
    (λ o. pass s (known_at setup core kept now) polls o (Due pt) items (record { begins = λ scene e. refl; row = due-linked (known_at setup core kept now) pt (slice_get core.terminals pt) linked }))

-- ---- steps of a reader

-- what handles a terminal's items, whatever items come after them
abbrev pub Handles : Observed → Observed → RunState → RunState → List Till → List Till → ℤ → List RoundItem → Type 0
Handles a b old new tills left now done = (setup : Setup) (polls : ℕ) (heard : ℕ → List ℕ) (items : List RoundItem) →
    Triple a b (HeldRound setup old tills polls now (AreHeard heard) [] (done ++ items)) (HeldRound setup new left polls now (AreHeard heard) [] items)

-- the items of an APDU come first, whatever they lead to
pub apdu-first : (a b : Observed) (old : RunState) (tills : List Till) (now : ℤ) (pt : ℕ) (bytes rest : List ℕ) (apdu : ApduValue) → decode_apdu bytes ≡ DecodedApdu.Whole apdu rest → (setup : Setup) (polls : ℕ) (heard : ℕ → List ℕ) (items : List RoundItem) (Q : View → Type 0) →
    Triple a b (HeldRound setup old tills polls now (AreHeard heard) [] (apdu_items pt apdu ++ (items_held pt rest ++ items))) Q → Triple a b (HeldRound setup old tills polls now (AreHeard heard) [] (items_held pt bytes ++ items)) Q
apdu-first a b old tills now pt bytes rest apdu e setup polls heard items Q k =
    subst (λ (list : List RoundItem). Triple a b (HeldRound setup old tills polls now (AreHeard heard) [] (list ++ items)) Q) (sym (items-apdu pt bytes apdu rest e)) k

-- an APDU was handled, and more may be
pub apdu-handled : (a b : Observed) (old new : RunState) (tills left : List Till) (now : ℤ) (pt : ℕ) (bytes rest : List ℕ) (apdu : ApduValue) → decode_apdu bytes ≡ DecodedApdu.Whole apdu rest → Handles a b old new tills left now (apdu_items pt apdu) →
    (setup : Setup) (polls : ℕ) (heard : ℕ → List ℕ) (items : List RoundItem) → Triple a b (HeldRound setup old tills polls now (AreHeard heard) [] (items_held pt bytes ++ items)) (HeldRound setup new left polls now (AreHeard heard) [] (items_held pt rest ++ items))
apdu-handled a b old new tills left now pt bytes rest apdu e k setup polls heard items = apdu-first a b old tills now pt bytes rest apdu e setup polls heard items _ (k setup polls heard (items_held pt rest ++ items))

-- by an APDU the terminal was cut, and the rest is passed
pub apdu-cut : (a b : Observed) (old new : RunState) (tills left : List Till) (now : ℤ) (pt : ℕ) (bytes rest : List ℕ) (apdu : ApduValue) → decode_apdu bytes ≡ DecodedApdu.Whole apdu rest → is_linked_in (slice_get new.core.terminals pt) ≡ false →
    Handles a b old new tills left now (apdu_items pt apdu) → Handles a b old new tills left now (items_held pt bytes)
apdu-cut a b old new tills left now pt bytes rest apdu e unlinked k setup polls heard items = triple-then a b b _ _ _ (apdu-handled a b old new tills left now pt bytes rest apdu e k setup polls heard items)
    (pass-held b setup new.core new.records.ledger.records left polls now (AreHeard heard) (items_held pt rest ++ items) items (λ o. pass-apdus b (known_at setup new.core new.records.ledger.records now) polls o pt unlinked rest items))

-- bytes that begin an APDU above the limit were handled
pub oversized-cut : (a b : Observed) (old new : RunState) (tills left : List Till) (now : ℤ) (pt : ℕ) (bytes : List ℕ) (n : ℕ) → decode_apdu bytes ≡ DecodedApdu.TooLong n → Handles a b old new tills left now (Oversized pt ∷ []) → Handles a b old new tills left now (items_held pt bytes)
oversized-cut a b old new tills left now pt bytes n e k = subst (Handles a b old new tills left now) (sym (items-oversized pt bytes n e)) k

-- less than an APDU waits
pub apdu-waits : (s : Observed) (state : RunState) (tills : List Till) (now : ℤ) (pt : ℕ) (bytes : List ℕ) → decode_apdu bytes ≡ DecodedApdu.Incomplete → Handles s s state state tills tills now (items_held pt bytes)
apdu-waits s state tills now pt bytes e = subst (Handles s s state state tills tills now) (sym (items-waiting pt bytes e)) (λ setup polls heard items. triple-refl s _)

-- ---- what the readers hold

-- what is done whatever was heard
pub over-heard : (a b : Observed) (setup : Setup) (core new : Core) (kept : List Record) (tills left : List Till) (polls : ℕ) (now : ℤ) (readers : List (List ℕ)) (calls : List OwedCall) (old items : List RoundItem) → AllWait readers → length readers ≡ length new.terminals →
    ((heard : ℕ → List ℕ) → Triple a b (MidRound setup core kept tills polls now (AreHeard heard) calls old) (MidRound setup new kept left polls now (AreHeard heard) [] items)) →
    Triple a b (MidRound setup core kept tills polls now (AllHear readers) calls old) (MidRound setup new kept left polls now (AllHear readers) [] items)
over-heard a b setup core new kept tills left polls now readers calls old items waits count k =
    triple-before a b _ (λ v. (heard : ℕ → List ℕ) × (MidRound setup core kept tills polls now (AreHeard heard) calls old v × Fit readers heard)) _ first
    (triple-some a b (λ (heard : ℕ → List ℕ) v. MidRound setup core kept tills polls now (AreHeard heard) calls old v × Fit readers heard) _ (λ number. [])
    (λ heard. triple-after a b _ _ _ (triple-frame a b _ _ (Fit readers heard) (k heard)) (λ v q. last heard v q.0 q.1)))
  where
    first : (v : View) → MidRound setup core kept tills polls now (AllHear readers) calls old v → (heard : ℕ → List ℕ) × (MidRound setup core kept tills polls now (AreHeard heard) calls old v × Fit readers heard)
    first v p = (
      heard_by readers p.outside,
      (record { outside = p.outside; round = p.round; tills_are = p.tills_are; linked = p.linked; also = are-heard readers p.outside }, fit-heard readers p.outside waits p.also),
    )

    last : (heard : ℕ → List ℕ) (v : View) → MidRound setup new kept left polls now (AreHeard heard) [] items v → Fit readers heard → MidRound setup new kept left polls now (AllHear readers) [] items v
    last heard v q fits = record {
      outside = q.outside;
      round = q.round;
      tills_are = q.tills_are;
      linked = q.linked;
      also = λ number there. hears-at readers heard new q.outside number count q.linked q.also (fits number) there;
    }

-- ---- a reader that is emptied

-- on the link of this terminal nothing was heard yet
abbrev cleared : ℕ → (ℕ → List ℕ) → ℕ → List ℕ
cleared pt heard number = if number == pt then [] else heard number

cleared-none : (pt : ℕ) (heard : ℕ → List ℕ) → cleared pt heard pt ≡ []
cleared-none pt heard = rw (eq-eqb pt pt refl) refl

cleared-heard : (pt : ℕ) (heard : ℕ → List ℕ) (o : Outside) → is_connected o.links pt ≡ false → AreHeard heard o → AreHeard (cleared pt heard) o
cleared-heard pt heard o none all number there = by_test (number == pt) refl
  where
    by_test : (test : Bool) → (number == pt) ≡ test → heard_on o.links number ≡ cleared pt heard number
    by_test true t = absurd (let h : false ≡ true = sym none ∙ sym (ap (is_connected o.links) (eqb-true number pt t)) ∙ there in cc)
    by_test false t = rw t (all number there)

set-there : (all : List (List ℕ)) (at : ℕ) (new found : List ℕ) → slice_get (set all at new) at ≡ Some found → new ≡ found
set-there [] at new found e = absurd cc
set-there (first ∷ rest) zero new found e = same-bytes new found e
set-there (first ∷ rest) (suc at) new found e = set-there rest at new found e

cleared-fit : (pt : ℕ) (readers : List (List ℕ)) (heard : ℕ → List ℕ) → Fit readers heard → Fit (set readers pt []) (cleared pt heard)
cleared-fit pt readers heard fits number bytes found = by_test (number == pt) refl
  where
    by_test : (test : Bool) → (number == pt) ≡ test → (decode_apdus (cleared pt heard number)).rest ≡ bytes
    by_test true t = rw t (rest-waiting [] refl ∙ set-there readers pt [] bytes (ap (slice_get (set readers pt [])) (sym (eqb-true number pt t)) ∙ found))
    by_test false t = rw t (fits number bytes (sym (others-stay readers pt number [] (eqb-false number pt t)) ∙ found))

-- a reader that holds less than an APDU in place of another
pub set-waits : (readers : List (List ℕ)) (pt : ℕ) (new : List ℕ) → decode_apdu new ≡ DecodedApdu.Incomplete → AllWait readers → AllWait (set readers pt new)
set-waits readers pt new waits all number bytes found =
    elim (cases_eq number pt) [
      | inl e ↦ subst (λ b. decode_apdu b ≡ DecodedApdu.Incomplete) (set-there readers pt new bytes (ap (slice_get (set readers pt new)) (sym e) ∙ found)) waits
      | inr other ↦ all number bytes (sym (others-stay readers pt number new other) ∙ found)
    ]

-- the reader of a terminal that isn't linked is emptied, and then a link may be made
pub over-cleared : (a b : Observed) (setup : Setup) (core new : Core) (kept : List Record) (tills left : List Till) (polls : ℕ) (now : ℤ) (readers : List (List ℕ)) (pt : ℕ) (old items : List RoundItem) → AllWait readers → length readers ≡ length new.terminals →
    is_linked_in (slice_get core.terminals pt) ≡ false →
    ((heard : ℕ → List ℕ) → heard pt ≡ [] → Triple a b (MidRound setup core kept tills polls now (AreHeard heard) [] old) (MidRound setup new kept left polls now (AreHeard heard) [] items)) →
    Triple a b (MidRound setup core kept tills polls now (AllHear readers) [] old) (MidRound setup new kept left polls now (AllHear (set readers pt [])) [] items)
over-cleared a b setup core new kept tills left polls now readers pt old items waits count unlinked k =
    triple-before a b _ (λ v. (heard : ℕ → List ℕ) × (MidRound setup core kept tills polls now (AreHeard (cleared pt heard)) [] old v × Fit readers heard)) _ first
    (triple-some a b (λ (heard : ℕ → List ℕ) v. MidRound setup core kept tills polls now (AreHeard (cleared pt heard)) [] old v × Fit readers heard) _ (λ number. [])
    (λ heard. triple-after a b _ _ _ (triple-frame a b _ _ (Fit readers heard) (k (cleared pt heard) (cleared-none pt heard))) (λ v q. last heard v q.0 q.1)))
  where
    first : (v : View) → MidRound setup core kept tills polls now (AllHear readers) [] old v → (heard : ℕ → List ℕ) × (MidRound setup core kept tills polls now (AreHeard (cleared pt heard)) [] old v × Fit readers heard)
    first v p = (
      heard_by readers p.outside,
      (
        record {
          outside = p.outside;
          round = p.round;
          tills_are = p.tills_are;
          linked = p.linked;
          also = cleared-heard pt (heard_by readers p.outside) p.outside (p.linked pt ∙ unlinked) (are-heard readers p.outside);
        },
        fit-heard readers p.outside waits p.also,
      ),
    )

    last : (heard : ℕ → List ℕ) (v : View) → MidRound setup new kept left polls now (AreHeard (cleared pt heard)) [] items v → Fit readers heard → MidRound setup new kept left polls now (AllHear (set readers pt [])) [] items v
    last heard v q fits = record {
      outside = q.outside;
      round = q.round;
      tills_are = q.tills_are;
      linked = q.linked;
      also = λ number there. hears-at (set readers pt []) (cleared pt heard) new q.outside number (length-set readers pt [] ∙ count) q.linked q.also (cleared-fit pt readers heard fits number) there;
    }

-- ---- a chunk

-- what was heard once a terminal has sent a chunk more
abbrev heard_with : List (List ℕ) → Outside → ℕ → List ℕ → ℕ → List ℕ
heard_with readers before pt chunk number = if number == pt then heard_on before.links pt ++ chunk else heard_by readers before number

with-heard : (readers : List (List ℕ)) (before : Outside) (pt : ℕ) (chunk : List ℕ) → is_connected before.links pt ≡ true → AreHeard (heard_with readers before pt chunk) (outside_after before (HeardPt pt chunk))
with-heard readers before pt chunk here number there = by_test (number == pt) refl
  where
    by_test : (test : Bool) → (number == pt) ≡ test → heard_on (hears before.links pt chunk) number ≡ heard_with readers before pt chunk number
    by_test true t = rw t (ap (heard_on (hears before.links pt chunk)) (eqb-true number pt t) ∙ hears-here before.links pt chunk here)
    by_test false t = rw t (hears-others before.links pt number chunk (eqb-false number pt t) ∙ are-heard readers before number (sym (hears-there before.links pt number chunk) ∙ there))

-- each other reader fits, and this one's bytes and the chunk have the rest of what was heard
record FitsChunk (readers : List (List ℕ)) (pt : ℕ) (bytes : List ℕ) (heard : ℕ → List ℕ) : Type 0 where
  others : OthersFit pt readers heard
  here : (decode_apdus (heard pt)).rest ≡ (decode_apdus bytes).rest

fits-chunk : (readers : List (List ℕ)) (before : Outside) (pt : ℕ) (reader chunk : List ℕ) → AllWait readers → AllHear readers before → reader ≡ (decode_apdus (heard_on before.links pt)).rest →
    FitsChunk readers pt (reader ++ chunk) (heard_with readers before pt chunk)
fits-chunk readers before pt reader chunk waits hear same = record {
  others = λ number bytes other found. rw (ne_eqb number pt other) (fit-heard readers before waits hear number bytes found);
  here = rw (eq-eqb pt pt refl) (rest-chunk (heard_on before.links pt) chunk ∙ ap (λ (b : List ℕ). (decode_apdus (b ++ chunk)).rest) (sym same));
}

-- what is done of a chunk, whatever was heard, and what it leads to
chunk-leads : (a b : Observed) (setup : Setup) (old : RunState) (tills : List Till) (polls : ℕ) (now : ℤ) (readers : List (List ℕ)) (pt : ℕ) (reader chunk : List ℕ) (items : List RoundItem) (R : (ℕ → List ℕ) → View → Type 0) (Q : View → Type 0) → AllWait readers →
    slice_get readers pt ≡ Some reader → ((heard : ℕ → List ℕ) → Triple a b (HeldRound setup old tills polls now (AreHeard heard) [] (items_held pt (reader ++ chunk) ++ items)) (R heard)) →
    ((heard : ℕ → List ℕ) (v : View) → R heard v → FitsChunk readers pt (reader ++ chunk) heard → Q v) →
    Triple a b (BeforePtChunk setup old.core old.records.ledger.records readers tills polls now pt chunk items) Q
chunk-leads a b setup old tills polls now readers pt reader chunk items R Q waits state k into =
    triple-before a b _ (λ v. (heard : ℕ → List ℕ) × (HeldRound setup old tills polls now (AreHeard heard) [] (items_held pt (reader ++ chunk) ++ items) v × FitsChunk readers pt (reader ++ chunk) heard)) Q first
    (triple-some a b (λ (heard : ℕ → List ℕ) v. HeldRound setup old tills polls now (AreHeard heard) [] (items_held pt (reader ++ chunk) ++ items) v × FitsChunk readers pt (reader ++ chunk) heard) Q (λ number. [])
    (λ heard. triple-after a b _ _ _ (triple-frame a b _ _ (FitsChunk readers pt (reader ++ chunk) heard) (k heard)) (λ v q. into heard v q.0 q.1)))
  where
    first : (v : View) → BeforePtChunk setup old.core old.records.ledger.records readers tills polls now pt chunk items v → (heard : ℕ → List ℕ) × (HeldRound setup old tills polls now (AreHeard heard) [] (items_held pt (reader ++ chunk) ++ items) v × FitsChunk readers pt (reader ++ chunk) heard)
    first v (before, h, round) =
        let same : reader ≡ (decode_apdus (heard_on before.links pt)).rest = same-bytes reader _ (sym state ∙ h.hear pt h.connected) in (
          heard_with readers before pt chunk,
          (
            record {
              outside = outside_after before (HeardPt pt chunk);
              round = subst (λ (b : List ℕ). InRound (known_at setup old.core old.records.ledger.records now) polls (outside_after before (HeardPt pt chunk)) (items_held pt (b ++ chunk) ++ items) v) (sym same) round;
              tills_are = record { tills_are = h.tills_are.tills_are; below = h.tills_are.below };
              linked = λ number. hears-there before.links pt number chunk ∙ h.linked number;
              also = with-heard readers before pt chunk h.connected;
            },
            fits-chunk readers before pt reader chunk waits h.hear same,
          ),
        )

-- a chunk was handled, or a call on the disk has failed
pub over-chunk : {T E : Type 0} (a b : Observed) (setup : Setup) (old new : RunState) (tills kept : List Till) (polls : ℕ) (now : ℤ) (readers : List (List ℕ)) (pt : ℕ) (reader chunk left : List ℕ) (items : List RoundItem) (r : Result T E) → AllWait readers → length readers ≡ length new.core.terminals →
    slice_get readers pt ≡ Some reader → OnOk r (IsRest new.core pt (reader ++ chunk) left) →
    ((heard : ℕ → List ℕ) → Triple a b (HeldRound setup old tills polls now (AreHeard heard) [] (items_held pt (reader ++ chunk) ++ items)) (UnlessBroken r (λ done. HeldRound setup new kept polls now (AreHeard heard) [] items))) →
    Triple a b (BeforePtChunk setup old.core old.records.ledger.records readers tills polls now pt chunk items) (UnlessBroken r (λ done. HeldRound setup new kept polls now (AllHear (set readers pt left)) [] items))
over-chunk a b setup old new tills kept polls now readers pt reader chunk left items (Err failed) waits count state rest k =
    chunk-leads a b setup old tills polls now readers pt reader chunk items (λ heard v. v.scene.stage ≡ Broken) (λ v. v.scene.stage ≡ Broken) waits state k (λ heard v broken fits. broken)
over-chunk a b setup old new tills kept polls now readers pt reader chunk left items (Ok done) waits count state rest k =
    chunk-leads a b setup old tills polls now readers pt reader chunk items (λ heard. HeldRound setup new kept polls now (AreHeard heard) [] items) (HeldRound setup new kept polls now (AllHear (set readers pt left)) [] items) waits state k last
  where
    last : (heard : ℕ → List ℕ) (v : View) → HeldRound setup new kept polls now (AreHeard heard) [] items v → FitsChunk readers pt (reader ++ chunk) heard → HeldRound setup new kept polls now (AllHear (set readers pt left)) [] items v
    last heard v q fits = record { outside = q.outside; round = q.round; tills_are = q.tills_are; linked = q.linked; also = hear }
      where
        hear : AllHear (set readers pt left) q.outside
        hear number there =
            hears-at (set readers pt left) heard new.core q.outside number (length-set readers pt left ∙ count) q.linked q.also
            (λ bytes found.
            elim (cases_eq number pt) [
              | inl e ↦
                  let linked : is_linked_in (slice_get new.core.terminals pt) ≡ true = sym (q.linked pt) ∙ ap (is_connected q.outside.links) (sym e) ∙ there in
                  ap (λ n. (decode_apdus (heard n)).rest) e ∙ fits.here ∙ sym (rest.rest linked) ∙ set-there readers pt left bytes (ap (slice_get (set readers pt left)) (sym e) ∙ found)
              | inr other ↦ fits.others number bytes other (sym (others-stay readers pt number left other) ∙ found)
            ])
            there

-- once a chunk is handled each terminal has its dialogue, and a reader that holds less than an APDU
pub chunk-ready : {T E : Type 0} (r : Result T E) (new : RunState) (observed : Observed) (old : Core) (readers : List (List ℕ)) (pt : ℕ) (bytes left : List ℕ) → AreReady old readers → length new.core.terminals ≡ length old.terminals → OnOk r (IsRest new.core pt bytes left) → OnOk r (IsWell new observed) →
    OnOk r (AreReady new.core (set readers pt left))
chunk-ready (Err failed) new observed old readers pt bytes left ready count rest well = tt
chunk-ready (Ok done) new observed old readers pt bytes left ready count rest well = record {
  dialogues = well.order.dialogues;
  count = length-set readers pt left ∙ ready.count ∙ sym count;
  waits = set-waits readers pt left rest.waits ready.waits;
}

-- ---- a link that is lost

-- the links are those that are remembered once one is lost
lost-links : (known : Known) (pt : ℕ) (o : Outside) → AreLinked known.core o → AreLinked (link_row known pt LinkIsLost).core (outside_after o (Lost pt))
lost-links known pt o linked number =
    elim (cases_eq number pt) [
      | inl e ↦
          ap (is_connected (without o.links pt)) e ∙ cut-there o.links pt ∙ sym (lost-is-unlinked known pt) ∙ ap (λ n. is_linked_in (slice_get (link_row known pt LinkIsLost).core.terminals n)) (sym e)
      | inr other ↦ cut-others o.links pt number other ∙ linked number ∙ ap is_linked_in (sym ((link-changes-alone known pt LinkIsLost).others number other))
    ]

lost-hear : (readers : List (List ℕ)) (pt : ℕ) (o : Outside) → AllHear readers o → AllHear readers (outside_after o (Lost pt))
lost-hear readers pt o hear number there =
    elim (cases_eq number pt) [
      | inl e ↦ absurd (let h : false ≡ true = sym (cut-there o.links pt) ∙ sym (ap (is_connected (without o.links pt)) e) ∙ there in cc)
      | inr other ↦
          hear number (sym (cut-others o.links pt number other) ∙ there) ∙ ap (λ (b : List ℕ). Some (decode_apdus b).rest) (sym (cut-heard o.links pt number other))
    ]

-- a terminal has closed its connection, by which its link is lost
pub lost-handled : (s : Observed) (setup : Setup) (core new : Core) (kept : List Record) (tills : List Till) (polls : ℕ) (now : ℤ) (readers : List (List ℕ)) (pt : ℕ) (items : List RoundItem) (wanted : Option Act) → IsRow kept (link_row (known_at setup core kept now) pt LinkIsLost) new (alone wanted) →
    Triple s s (BeforePtClosed setup core kept readers tills polls now pt items) (MidRound setup new kept tills polls now (AllHear readers) (link_row (known_at setup core kept now) pt LinkIsLost).calls items)
lost-handled s setup core new kept tills polls now readers pt items wanted is =
    triple-before s s _ (λ v. (before : Outside) × (InRound knows polls (after before) (LinkLost pt ∷ items) v × BeforePt core readers tills pt before)) _ (λ v p. (p.0, (p.2, p.1)))
    (triple-some s s (λ (before : Outside) v. InRound knows polls (after before) (LinkLost pt ∷ items) v × BeforePt core readers tills pt before) _ no_outside
    (λ before. triple-after s s _ _ _ (triple-frame s s _ _ (BeforePt core readers tills pt before) (begin-first s knows polls (after before) (LinkLost pt) items new owed (record {
      begins = λ scene e. refl;
      row = row-becomes kept (link_row knows pt LinkIsLost) new wanted is;
    })))
    (λ v q. last before v q.0 q.1)))
  where
    knows : Known
    knows = known_at setup core kept now

    owed : List OwedCall
    owed = (link_row knows pt LinkIsLost).calls

    after : Outside → Outside
    after before = outside_after before (Lost pt)

    last : (before : Outside) (v : View) → Pending (known_at setup new kept now) polls (after before) owed items v → BeforePt core readers tills pt before → MidRound setup new kept tills polls now (AllHear readers) owed items v
    last before v q h = record {
      outside = after before;
      round = q;
      tills_are = record { tills_are = h.tills_are.tills_are; below = h.tills_are.below };
      linked = subst (λ core. AreLinked core (after before)) (sym is.core_is) (lost-links knows pt before h.linked);
      also = lost-hear readers pt before h.hear;
    }

-- what is ready stays so when a link is lost, and a till is sent the reply that is owed then
pub lost-ready : (core mid new : Core) (moment pt : ℕ) (wanted : Option Act) (readers : List (List ℕ)) → IsRowOf core moment (λ known. link_row known pt LinkIsLost) mid wanted → ForgetsAny mid new → AreReady core readers → AreReady new readers
lost-ready core mid new moment pt wanted readers is forgets ready =
    let alone : ChangesTerminalAlone pt core mid = link-alone core mid moment pt LinkIsLost wanted is in
    record {
      dialogues = sent-dialogues mid new forgets (link-has core mid moment pt LinkIsLost wanted (others-have core pt ready.dialogues) is);
      count = ready.count ∙ sym (sent-count mid new forgets ∙ alone.count);
      waits = ready.waits;
    }

-- ---- an item for each terminal

pub each-first : (number count : ℕ) (item : ℕ → RoundItem) → number < count → each_terminal number (count - number) item ≡ item number ∷ each_terminal (number + 1) (count - (number + 1)) item
each-first number count item more =
    let e : count - number ≡ suc (count - (number + 1)) = omega arith in
    ap (λ n. each_terminal number n item) e

pub each-end : (number count : ℕ) (item : ℕ → RoundItem) → count ≤ number → each_terminal number (count - number) item ≡ []
each-end number count item all =
    let e : count - number ≡ zero = omega arith in
    ap (λ n. each_terminal number n item) e

-- the item of one terminal was handled, and those of the next come
pub each-step : (a b : Observed) (core new : Core) (tills left : List Till) (now : ℤ) (Also Next : Outside → Type 0) (item : ℕ → RoundItem) (number count : ℕ) → number < count →
    ((setup : Setup) (kept : List Record) (polls : ℕ) (items : List RoundItem) → Triple a b (MidRound setup core kept tills polls now Also [] (item number ∷ items)) (MidRound setup new kept left polls now Next [] items)) →
    (setup : Setup) (kept : List Record) (polls : ℕ) (items : List RoundItem) →
    Triple a b (MidRound setup core kept tills polls now Also [] (each_terminal number (count - number) item ++ items)) (MidRound setup new kept left polls now Next [] (each_terminal (number + 1) (count - (number + 1)) item ++ items))
each-step a b core new tills left now Also Next item number count more k setup kept polls items =
    let rest : List RoundItem = each_terminal (number + 1) (count - (number + 1)) item in
    subst (λ (list : List RoundItem). Triple a b (MidRound setup core kept tills polls now Also [] (list ++ items)) (MidRound setup new kept left polls now Next [] (rest ++ items))) (sym (each-first number count item more))
    (k setup kept polls (rest ++ items))

-- that of the last was handled
pub each-last : (a b : Observed) (P : View → Type 0) (setup : Setup) (core : Core) (kept : List Record) (tills : List Till) (polls : ℕ) (now : ℤ) (Also : Outside → Type 0) (item : ℕ → RoundItem) (number count : ℕ) (items : List RoundItem) → count ≤ number →
    Triple a b P (MidRound setup core kept tills polls now Also [] (each_terminal number (count - number) item ++ items)) → Triple a b P (MidRound setup core kept tills polls now Also [] items)
each-last a b P setup core kept tills polls now Also item number count items all k =
    subst (λ (list : List RoundItem). Triple a b P (MidRound setup core kept tills polls now Also [] (list ++ items))) (each-end number count item all) k
