-- Requests that have waited for too long: the first of them is the first whose key owes anything, and where there is none all keys are passed.
use Rattle.std.proofs.Common.{◌≡◌, ◌⊎◌, ◌<◌, ◌≤◌, ◌+◌, zero, suc, inl, inr, ℕ, ℤ, List, [], ◌∷◌, ◌++◌, length, refl, sym, ◌∙◌, ap, subst, append-nil, arith, Bool, true, false, Option, Some, None}
use Rattle.std.specs.Prelude.{filter, not, is_some}
use Rattle.gw_base.specs.Moment.{moment_of}
use Rattle.gw_base.specs.declared.condition.Condition.TheVariants.{Aborted}
use Rattle.gw_base.specs.declared.key.Key.{Key}
use Rattle.gw_base.specs.declared.setup.Setup.{Setup}
use Rattle.gw_ledger.specs.Keys.{same_key}
use Rattle.gw_site.specs.Observed.{Observed}
use Rattle.gw_site.specs.Outside.{Outside}
use Rattle.jrn_record.specs.declared.records.Record.{Record}
use Rattle.gw_owes.specs.Calls.{OwedCall}
use Rattle.gw_owes.specs.Core.{Core, Wait}
use Rattle.gw_owes.specs.Days.{days_served}
use Rattle.gw_owes.specs.Dialogues.{AllHaveDialogues}
use Rattle.gw_owes.specs.Items.{RoundItem, Due, Overdue}
use Rattle.gw_owes.specs.RecordLaws.{AreTerminalsInOrder}
use Rattle.gw_owes.specs.Row.{Known, Row, owing_nothing, owing_where}
use Rattle.gw_owes.specs.TerminalLaws.{settings_of}
use Rattle.gw_owes.specs.WaitingLaws.{AreWaitsInOrder}
use Rattle.gw_owes.specs.WaitingRows.{is_overdue, of_waiting, overdue_row, refusal_calls, taken_out}
use Rattle.gw_owes.specs.Waits.{core_without_wait, first_waiting, waiting_with}
use Rattle.gw_owes.proofs.WaitingOrderLemmas.{without-keeps}
use Rattle.gw_rules.specs.Triple.{Triple}
use Rattle.gw_rules.specs.View.{View, at_first}
use Rattle.gw_rules.proofs.TripleLemmas.{triple-after, triple-before, triple-frame, triple-refl, triple-some, triple-then}
use Rattle.gw_core.specs.IsRow.{AreCallsWith, IsActs, IsRow, alone, known_with}
use Rattle.gw_core.specs.Queues.{first_overdue_row}
use Rattle.gw_core.specs.declared.act.Act.{Act}
use Rattle.gw_dispatch.specs.MidRound.{AllHear, AreHeard, AreLinked, MidRound, each_terminal, overdue_items}
use Rattle.gw_dispatch.specs.Overdue.{AfterOverdue, MayBeOverdue, overdue_keys}
use Rattle.gw_dispatch.specs.Round.{HoldsTills, InRound, known_at}
use Rattle.gw_dispatch.specs.RunState.{StaysInOrder}
use Rattle.gw_dispatch.specs.Wanted.{is_none_or_reply}
use Rattle.gw_dispatch.specs.declared.tills.Till.{Till}
use Rattle.gw_dispatch.proofs.CoverLemmas.{CoveredAt, IsCovered, keys-append, keys_of, round-live, triple-covered}
use Rattle.gw_dispatch.proofs.DueLemmas.{AreKeysApart, AreSomeOf, IsAmong, among-overdue, among-with, other-key, overdue-among, fewer-some, overdue_of, some-among, tie, with-among}
use Rattle.gw_dispatch.proofs.EngineLemmas.{pass, triple-known}
use Rattle.gw_dispatch.proofs.FitLemmas.{AllWait, Fit, are-heard, fit-heard, heard_by, hears-at}
use Rattle.gw_dispatch.proofs.HandleLemmas.{any_setup}
use Rattle.gw_dispatch.proofs.PerformLemmas.{MakesCall, replies_only, some-calls, wanted-reply}
use Rattle.gw_dispatch.proofs.StepLemmas.{begin-held}

-- ---- keys

keys-of-overdue : (keys : List Key) → overdue_keys (overdue_items keys) ≡ keys
keys-of-overdue [] = refl
keys-of-overdue (key ∷ keys) = ap (λ k. key ∷ k) (keys-of-overdue keys)

keys-first : (keys : List Key) (items : List RoundItem) → overdue_keys items ≡ [] → overdue_keys (overdue_items keys ++ items) ≡ keys
keys-first keys items none = keys-append (overdue_items keys) items ∙ ap (λ more. overdue_keys (overdue_items keys) ++ more) none ∙ append-nil (overdue_keys (overdue_items keys)) ∙ keys-of-overdue keys

-- the links look for none
pub due-keys : (number count : ℕ) → overdue_keys (each_terminal number count Due) ≡ []
due-keys number zero = refl
due-keys number (suc count) = due-keys (number + 1) count

-- ---- what is still to be looked at

-- these keys are, and so is the key of each that has waited for too long
record Looks (core : Core) (moment : ℕ) (keys : List Key) : Type 0 where
  apart : AreKeysApart core.waits
  left : List Wait
  keys_are : keys ≡ keys_of left
  left_apart : AreKeysApart left
  some : AreSomeOf (overdue_of moment core.waits) left

looks-at : (setup : Setup) (core : Core) (kept : List Record) (tills : List Till) (polls : ℕ) (now : ℤ) (Also : Outside → Type 0) (keys : List Key) (items : List RoundItem) (v : View) → overdue_keys items ≡ [] →
    MidRound setup core kept tills polls now Also [] (overdue_items keys ++ items) v → CoveredAt v → Looks core (moment_of now) keys
looks-at setup core kept tills polls now Also keys items v none h covered =
    let scene = h.round.0 in
    let f = h.round.2 in
    let c : IsCovered (record { scene = scene; calls = []; items = overdue_items keys ++ items }) = subst CoveredAt h.round.1 covered (round-live scene.stage f.round) in
    let core_is : scene.core ≡ core = ap (λ (k : Known). k.core) f.known_is in
    let moment_is : scene.outside.moment ≡ moment_of now = ap (λ (k : Known). k.moment) f.known_is in
    record {
      apart = subst (λ (k : Core). AreKeysApart k.waits) core_is c.apart;
      left = c.left;
      keys_are = sym (keys-first keys items none) ∙ c.keys;
      left_apart = c.left_apart;
      some = subst (λ (k : Core). AreSomeOf (overdue_of (moment_of now) k.waits) c.left) core_is (subst (λ m. AreSomeOf (overdue_of m scene.core.waits) c.left) moment_is c.some);
    }

-- ---- keys that owe nothing

-- none that has waited for too long waits under this key
abbrev OwesNone : Known → Key → Type 0
OwesNone known key = (wait : Wait) → waiting_with key known.core.waits ≡ Some wait → is_overdue known.moment wait ≡ false

none-row : (known : Known) (key : Key) → OwesNone known key → overdue_row known key ≡ owing_nothing known
none-row known key none = by_found (waiting_with key known.core.waits) refl
  where
    by_found : (found : Option Wait) → waiting_with key known.core.waits ≡ found → of_waiting known (λ wait. owing_where (is_overdue known.moment wait) known (taken_out known Aborted wait)) found ≡ owing_nothing known
    by_found None e = refl
    by_found (Some wait) e = rw (none wait e) refl

module _ (s : Observed) (known : Known) (polls : ℕ) (o : Outside) (items : List RoundItem) where
  pass-one : (key : Key) (rest : List RoundItem) → OwesNone known key → Triple s s (InRound known polls o (Overdue key ∷ rest)) (InRound known polls o rest)
  pass-one key rest none = pass s known polls o (Overdue key) rest (record { begins = λ scene e. refl; row = none-row known key none })

  -- none has waited for too long
  pass-all : (keys : List Key) → ((wait : Wait) → IsAmong wait known.core.waits → is_overdue known.moment wait ≡ false) → Triple s s (InRound known polls o (overdue_items keys ++ items)) (InRound known polls o items)
  pass-all [] none = triple-refl s _
  pass-all (key ∷ keys) none =
      triple-then s s s _ _ _ (pass-one key (overdue_items keys ++ items) (λ wait found. none wait (with-among key known.core.waits wait found).0)) (pass-all keys none)

  -- the first that has is come to
  first-comes : (left more : List Wait) (first : Wait) → overdue_of known.moment known.core.waits ≡ first ∷ more → AreKeysApart left → AreSomeOf (overdue_of known.moment known.core.waits) left →
      Triple s s (InRound known polls o (overdue_items (keys_of left) ++ items)) (λ v. (rest : List Key) × InRound known polls o (Overdue first.key ∷ (overdue_items rest ++ items)) v)
  first-comes [] more first due apart some = absurd (let h : first ∷ more ≡ [] = sym due ∙ some in cc)
  first-comes (wait ∷ left) more first due apart (inl later) =
      triple-then s s s _ _ _ (pass-one wait.key (overdue_items (keys_of left) ++ items) early) (first-comes left more first due apart.1 later)
    where
      early : OwesNone known wait.key
      early other found = by_test (is_overdue known.moment other) refl
        where
          by_test : (test : Bool) → is_overdue known.moment other ≡ test → is_overdue known.moment other ≡ false
          by_test false e = e
          by_test true e =
              let there = with-among wait.key known.core.waits other found in
              let differs : same_key wait.key other.key ≡ false = other-key wait.key other left apart.0 (some-among other (overdue_of known.moment known.core.waits) left later (among-overdue known.moment other known.core.waits there.0 e)) in
              absurd (let h : true ≡ false = sym there.1 ∙ differs in cc)
  first-comes (wait ∷ left) more first due apart (inr (others, is, later)) =
      let e : first ∷ more ≡ wait ∷ others = sym due ∙ is in
      let same : first ≡ wait = cc in
      triple-after s s _ _ _ (triple-refl s _) (λ v p. (keys_of left, subst (λ (w : Wait). InRound known polls o (Overdue w.key ∷ (overdue_items (keys_of left) ++ items)) v) (sym same) p))

-- ---- what is held

-- what is held beside the items
abbrev Beside : Core → List Till → (Outside → Type 0) → Outside → Type 0
Beside core tills Also o = HoldsTills tills o × (AreLinked core o × Also o)

module _ (s : Observed) (setup : Setup) (core : Core) (kept : List Record) (tills : List Till) (polls : ℕ) (now : ℤ) (Also : Outside → Type 0) (items : List RoundItem) (none : overdue_keys items ≡ []) where
  abbrev knows : Known
  knows = known_at setup core kept now

  -- what becomes of the items keeps what is held
  held-on : (old : List RoundItem) (Q : Outside → View → Type 0) → ((o : Outside) → Triple s s (InRound knows polls o old) (Q o)) →
      Triple s s (MidRound setup core kept tills polls now Also [] old) (λ v. (o : Outside) × (Q o v × Beside core tills Also o))
  held-on old Q k =
      triple-before s s _ (λ v. (o : Outside) × (InRound knows polls o old v × Beside core tills Also o)) _ (λ v p. (p.outside, (p.round, (p.tills_are, (p.linked, p.also)))))
      (triple-some s s (λ (o : Outside) v. InRound knows polls o old v × Beside core tills Also o) _ at_first.scene.outside
      (λ o. triple-after s s _ _ _ (triple-frame s s _ _ (Beside core tills Also o) (k o)) (λ v q. (o, q))))

  -- none has waited for too long
  pub none-refused : overdue_of (moment_of now) core.waits ≡ [] → Triple s s (MayBeOverdue setup core kept tills polls now Also items) (MidRound setup core kept tills polls now Also [] items)
  none-refused due =
      triple-some s s (λ keys v. MidRound setup core kept tills polls now Also [] (overdue_items keys ++ items) v) _ []
      (λ keys. triple-after s s _ _ _ (held-on (overdue_items keys ++ items) (λ o v. InRound knows polls o items v) (λ o. pass-all s knows polls o items keys early))
      (λ v q. record { outside = q.0; round = q.1.0; tills_are = q.1.1.0; linked = q.1.1.1.0; also = q.1.1.1.1 }))
    where
      early : (wait : Wait) → IsAmong wait core.waits → is_overdue (moment_of now) wait ≡ false
      early wait there = by_test (is_overdue (moment_of now) wait) refl
        where
          by_test : (test : Bool) → is_overdue (moment_of now) wait ≡ test → is_overdue (moment_of now) wait ≡ false
          by_test false e = e
          by_test true e = absurd (subst (IsAmong wait) due (among-overdue (moment_of now) wait core.waits there e))

  -- the first that has is come to
  come-to : (first : Wait) (more : List Wait) → overdue_of (moment_of now) core.waits ≡ first ∷ more →
      Triple s s (MayBeOverdue setup core kept tills polls now Also items) (λ v. (rest : List Key) × MidRound setup core kept tills polls now Also [] (Overdue first.key ∷ (overdue_items rest ++ items)) v)
  come-to first more due =
      triple-covered s s _ _ (triple-before s s _ (λ v. (keys : List Key) × (MidRound setup core kept tills polls now Also [] (overdue_items keys ++ items) v × Looks core (moment_of now) keys)) _
      (λ v p. (p.0.0, (p.0.1, looks-at setup core kept tills polls now Also p.0.0 items v none p.0.1 p.1)))
      (triple-some s s (λ keys v. MidRound setup core kept tills polls now Also [] (overdue_items keys ++ items) v × Looks core (moment_of now) keys) _ []
      (λ keys. triple-known s (Looks core (moment_of now) keys) (MidRound setup core kept tills polls now Also [] (overdue_items keys ++ items)) _ (at keys))))
    where
      at : (keys : List Key) → Looks core (moment_of now) keys → Triple s s (MidRound setup core kept tills polls now Also [] (overdue_items keys ++ items)) (λ v. (rest : List Key) × MidRound setup core kept tills polls now Also [] (Overdue first.key ∷ (overdue_items rest ++ items)) v)
      at keys looks =
          subst (λ k. Triple s s (MidRound setup core kept tills polls now Also [] (overdue_items k ++ items)) (λ v. (rest : List Key) × MidRound setup core kept tills polls now Also [] (Overdue first.key ∷ (overdue_items rest ++ items)) v)) (sym looks.keys_are)
          (triple-after s s _ _ _ (held-on (overdue_items (keys_of looks.left) ++ items) (λ o v. (rest : List Key) × InRound knows polls o (Overdue first.key ∷ (overdue_items rest ++ items)) v)
          (λ o. first-comes s knows polls o items looks.left more first due looks.left_apart looks.some))
          (λ v q. (q.1.0.0, record { outside = q.0; round = q.1.0.1; tills_are = q.1.1.0; linked = q.1.1.1.0; also = q.1.1.1.1 })))

  -- it is one of those that wait, under its key
  first-with : (first : Wait) (more : List Wait) → overdue_of (moment_of now) core.waits ≡ first ∷ more → AreKeysApart core.waits → (waiting_with first.key core.waits ≡ Some first) × (is_overdue (moment_of now) first ≡ true)
  first-with first more due apart =
      let there = overdue-among (moment_of now) first core.waits (subst (IsAmong first) (sym due) (inl refl)) in
      (among-with first core.waits apart there.0, there.1)

  -- its refusal is owed
  pub first-begins : (first : Wait) (more : List Wait) → overdue_of (moment_of now) core.waits ≡ first ∷ more →
      Triple s s (MayBeOverdue setup core kept tills polls now Also items) (λ v. (rest : List Key) × MidRound setup (core_without_wait core first.key) kept tills polls now Also (refusal_calls first Aborted) (overdue_items rest ++ items) v)
  first-begins first more due =
      triple-covered s s _ _ (triple-before s s _ (λ v. MayBeOverdue setup core kept tills polls now Also items v × AreKeysApart core.waits) _
      (λ v p. (p.0, (looks-at setup core kept tills polls now Also p.0.0 items v none p.0.1 p.1).apart))
      (triple-known s (AreKeysApart core.waits) (MayBeOverdue setup core kept tills polls now Also items) _ (λ apart.
      triple-then s s s _ _ _ (come-to first more due)
      (triple-some s s (λ rest v. MidRound setup core kept tills polls now Also [] (Overdue first.key ∷ (overdue_items rest ++ items)) v) _ []
      (λ rest. triple-after s s _ _ _ (begin-held setup kept tills polls now Also s core (core_without_wait core first.key) (Overdue first.key) (refusal_calls first Aborted) (overdue_items rest ++ items) (record {
        begins = λ scene items. refl;
        row = λ connections. let w = first-with first more due apart in rw (w.0, w.1) refl;
        links = λ number. refl;
      })) (λ v q. (rest, q)))))))

-- ---- one is refused

-- what the core has remembered by the first that has waited for too long
abbrev pub RefusesFirst : Core → ℕ → Core → Option Act → Type 0
RefusesFirst old moment new wanted = (setup : Setup) (kept : List Record) → IsRow kept (first_overdue_row (known_with setup kept old moment)) new (alone wanted)

by-first : (known : Known) (found : List Wait) → overdue_of known.moment known.core.waits ≡ found → first_overdue_row known ≡ of_waiting known (taken_out known Aborted) (first_waiting found)
by-first known found is = ap (λ l. of_waiting known (taken_out known Aborted) (first_waiting l)) is

none-wanted : (slot : ℕ) (wanted : Option Act) → IsActs slot (alone wanted) [] → wanted ≡ None
none-wanted slot None calls = refl
none-wanted slot (Some one) calls = absurd (some-calls slot one calls)

some-wanted : (slot : ℕ) (wanted : Option Act) (call : OwedCall) → IsActs slot (alone wanted) (call ∷ []) → is_some wanted ≡ true
some-wanted slot None call calls = absurd (let h : call ∷ [] ≡ [] = calls in cc)
some-wanted slot (Some one) call calls = refl

pub refused-first : (a b : Observed) (core mid new : Core) (tills left : List Till) (now : ℤ) (wanted : Option Act) (some : Bool) → some ≡ is_some wanted → RefusesFirst core (moment_of now) mid wanted → MakesCall a b mid new tills left now wanted →
    (setup : Setup) (kept : List Record) (polls : ℕ) (heard : ℕ → List ℕ) (items : List RoundItem) → overdue_keys items ≡ [] → Triple a b (MayBeOverdue setup core kept tills polls now (AreHeard heard) items) (AfterOverdue some setup new kept left polls now (AreHeard heard) items)
refused-first a b core mid new tills left now wanted some value is makes setup kept polls heard items none = by_due (overdue_of (moment_of now) core.waits) refl
  where
    known : Known
    known = known_with setup kept core (moment_of now)

    by_due : (due : List Wait) → overdue_of (moment_of now) core.waits ≡ due → Triple a b (MayBeOverdue setup core kept tills polls now (AreHeard heard) items) (AfterOverdue some setup new kept left polls now (AreHeard heard) items)
    by_due [] e =
        let r : IsRow kept (owing_nothing known) mid (alone wanted) = subst (λ row. IsRow kept row mid (alone wanted)) (by-first known [] e) (is setup kept) in
        let quiet : wanted ≡ None = none-wanted (length kept) wanted r.calls_are in
        subst (λ some. Triple a b (MayBeOverdue setup core kept tills polls now (AreHeard heard) items) (AfterOverdue some setup new kept left polls now (AreHeard heard) items)) (sym (value ∙ ap is_some quiet))
        (triple-then a a b _ _ _ (none-refused a setup core kept tills polls now (AreHeard heard) items none e)
        (subst (λ (c : Core). Triple a b (MidRound setup c kept tills polls now (AreHeard heard) [] items) (MidRound setup new kept left polls now (AreHeard heard) [] items)) r.core_is (makes [] (subst (λ w. AreCallsWith [] w []) (sym quiet) refl) setup kept polls heard items)))
    by_due (first ∷ more) e =
        let r : IsRow kept (taken_out known Aborted first) mid (alone wanted) = subst (λ row. IsRow kept row mid (alone wanted)) (by-first known (first ∷ more) e) (is setup kept) in
        subst (λ some. Triple a b (MayBeOverdue setup core kept tills polls now (AreHeard heard) items) (AfterOverdue some setup new kept left polls now (AreHeard heard) items)) (sym (value ∙ some-wanted (length kept) wanted _ r.calls_are))
        (triple-then a a b _ _ _ (first-begins a setup core kept tills polls now (AreHeard heard) items none first more e)
        (triple-some a b (λ rest v. MidRound setup (core_without_wait core first.key) kept tills polls now (AreHeard heard) (refusal_calls first Aborted) (overdue_items rest ++ items) v) _ []
        (λ rest. triple-after a b _ _ _
        (subst (λ (c : Core). Triple a b (MidRound setup c kept tills polls now (AreHeard heard) (refusal_calls first Aborted) (overdue_items rest ++ items)) (MidRound setup new kept left polls now (AreHeard heard) [] (overdue_items rest ++ items))) r.core_is
        (makes (refusal_calls first Aborted) r.calls_are setup kept polls heard (overdue_items rest ++ items)))
        (λ v q. (rest, q)))))

-- ---- what is remembered then

pub fewer-without : (key : Key) (wait : Wait) (waits : List Wait) → IsAmong wait waits → same_key key wait.key ≡ true → length (filter (λ (w : Wait). not (same_key key w.key)) waits) < length waits
fewer-without key wait [] there same = absurd there
fewer-without key wait (first ∷ rest) (inl is) same =
    let gone : not (same_key key first.key) ≡ false = ap not (ap (λ (w : Wait). same_key key w.key) is ∙ same) in
    rw gone (omega (arith, fewer-some (λ (w : Wait). not (same_key key w.key)) rest))
fewer-without key wait (first ∷ rest) (inr there) same = by_test (fewer-without key wait rest there same) (not (same_key key first.key)) refl
  where
    by_test : length (filter (λ (w : Wait). not (same_key key w.key)) rest) < length rest → (b : Bool) → not (same_key key first.key) ≡ b → length (filter (λ (w : Wait). not (same_key key w.key)) (first ∷ rest)) < length (first ∷ rest)
    by_test h true e = rw e (omega (arith, h))
    by_test h false e = rw e (omega (arith, h))

first-among : (list : List Wait) (wait : Wait) → first_waiting list ≡ Some wait → IsAmong wait list
first-among [] wait is = absurd (let h : None ≡ Some wait = is in cc)
first-among (first ∷ rest) wait is =
    let h : Some first ≡ Some wait = is in
    let same : first ≡ wait = cc in
    inl same

each-first : (P : Row → Type 0) (known : Known) → P (owing_nothing known) → ((wait : Wait) → IsAmong wait known.core.waits → P (taken_out known Aborted wait)) → P (first_overdue_row known)
each-first P known none some = by_found (first_waiting (overdue_of known.moment known.core.waits)) refl
  where
    by_found : (found : Option Wait) → first_waiting (overdue_of known.moment known.core.waits) ≡ found → P (of_waiting known (taken_out known Aborted) found)
    by_found None e = none
    by_found (Some wait) e = some wait (overdue-among known.moment wait known.core.waits (first-among (overdue_of known.moment known.core.waits) wait e)).0

module _ (old new : Core) (moment : ℕ) (wanted : Option Act) (is : RefusesFirst old moment new wanted) where
  abbrev any : Known
  any = known_with any_setup [] old moment

  -- what holds of the row's core in each case holds of the core
  of-first : (P : Core → Type 0) → P old → ((wait : Wait) → IsAmong wait old.waits → P (core_without_wait old wait.key)) → P new
  of-first P none some = let r = is any_setup [] in subst P (sym r.core_is) (each-first (λ (row : Row). P row.core) any none some)

  pub overdue-reply : is_none_or_reply wanted ≡ true
  overdue-reply = let r = is any_setup [] in wanted-reply wanted (first_overdue_row any).calls (each-first (λ (row : Row). replies_only row.calls ≡ true) any refl (λ wait there. refl)) r.calls_are

  pub overdue-count : length new.terminals ≡ length old.terminals
  overdue-count = of-first (λ (c : Core). length c.terminals ≡ length old.terminals) refl (λ wait there. refl)

  pub overdue-has : AllHaveDialogues old → AllHaveDialogues new
  overdue-has all = of-first AllHaveDialogues all (λ wait there. all)

  pub overdue-stays : StaysInOrder old new
  overdue-stays = record {
    settings = of-first (λ (c : Core). settings_of c ≡ settings_of old) refl (λ wait there. refl);
    days = of-first (λ (c : Core). days_served c.terminals ≤ days_served old.terminals) (omega arith) (λ wait there. omega arith);
    waits = record {
      few = of-first (λ (c : Core). length c.waits ≤ length old.waits) (omega arith) (λ wait there. fewer-some (λ (w : Wait). not (same_key wait.key w.key)) old.waits);
      order = λ setup kept moment_then order. of-first (λ (c : Core). AreWaitsInOrder (known_with setup kept c moment_then)) order (λ wait there. without-keeps (known_with setup kept old moment_then) wait order);
    };
    device_requests = of-first (λ (c : Core). c.device_requests ≡ old.device_requests) refl (λ wait there. refl);
    order = λ kept order. of-first (AreTerminalsInOrder kept) order (λ wait there. order);
  }

  pub overdue-less : (then : Core) → is_some wanted ≡ true → StaysInOrder new then → length then.waits < length old.waits
  overdue-less then some stays =
      let r = is any_setup [] in
      elim (each-first (λ (row : Row). (length row.core.waits < length old.waits) ⊎ (row.calls ≡ [])) any (inr refl) (λ wait there. inl (fewer-without wait.key wait old.waits there (tie wait.key)))) [
        | inl less ↦
            let fewer : length new.waits < length old.waits = subst (λ (c : Core). length c.waits < length old.waits) (sym r.core_is) less in
            omega (arith, fewer, stays.waits.few)
        | inr quiet ↦
            let none : wanted ≡ None = none-wanted 0 wanted (subst (λ calls. IsActs 0 (alone wanted) calls) quiet r.calls_are) in
            absurd (let h : false ≡ true = sym (ap is_some none) ∙ some in cc)
      ]

-- ---- whatever was heard

-- what refuses the first that has waited for too long
abbrev pub Refuses : Observed → Observed → Core → Core → List Till → List Till → ℤ → Bool → Type 0
Refuses a b core new tills left now some = (setup : Setup) (kept : List Record) (polls : ℕ) (heard : ℕ → List ℕ) (items : List RoundItem) → overdue_keys items ≡ [] →
    Triple a b (MayBeOverdue setup core kept tills polls now (AreHeard heard) items) (AfterOverdue some setup new kept left polls now (AreHeard heard) items)

module _ (a b : Observed) (core new : Core) (tills left : List Till) (now : ℤ) (some : Bool) (readers : List (List ℕ)) (waits : AllWait readers) (count : length readers ≡ length new.terminals) (refuses : Refuses a b core new tills left now some)
    (setup : Setup) (kept : List Record) (polls : ℕ) (items : List RoundItem) (none : overdue_keys items ≡ []) where
  to-heard : (old : List RoundItem) (v : View) (p : MidRound setup core kept tills polls now (AllHear readers) [] old v) → MidRound setup core kept tills polls now (AreHeard (heard_by readers p.outside)) [] old v
  to-heard old v p = record { outside = p.outside; round = p.round; tills_are = p.tills_are; linked = p.linked; also = are-heard readers p.outside }

  from-heard : (rest : List RoundItem) (heard : ℕ → List ℕ) (v : View) → Fit readers heard → MidRound setup new kept left polls now (AreHeard heard) [] rest v → MidRound setup new kept left polls now (AllHear readers) [] rest v
  from-heard rest heard v fits q = record {
    outside = q.outside;
    round = q.round;
    tills_are = q.tills_are;
    linked = q.linked;
    also = λ number there. hears-at readers heard new q.outside number count q.linked q.also (fits number) there;
  }

  after-heard : (heard : ℕ → List ℕ) (v : View) → Fit readers heard → (looks : Bool) → AfterOverdue looks setup new kept left polls now (AreHeard heard) items v → AfterOverdue looks setup new kept left polls now (AllHear readers) items v
  after-heard heard v fits true (keys, q) = (keys, from-heard (overdue_items keys ++ items) heard v fits q)
  after-heard heard v fits false q = from-heard items heard v fits q

  over-overdue : Triple a b (MayBeOverdue setup core kept tills polls now (AllHear readers) items) (AfterOverdue some setup new kept left polls now (AllHear readers) items)
  over-overdue =
      triple-before a b _ (λ v. (heard : ℕ → List ℕ) × (MayBeOverdue setup core kept tills polls now (AreHeard heard) items v × Fit readers heard)) _
      (λ v p. (heard_by readers p.1.outside, ((p.0, to-heard (overdue_items p.0 ++ items) v p.1), fit-heard readers p.1.outside waits p.1.also)))
      (triple-some a b (λ (heard : ℕ → List ℕ) v. MayBeOverdue setup core kept tills polls now (AreHeard heard) items v × Fit readers heard) _ (λ number. [])
      (λ heard. triple-after a b _ _ _ (triple-frame a b _ _ (Fit readers heard) (refuses setup kept polls heard items none)) (λ v q. after-heard heard v q.1 some q.0)))

  -- one was refused, and more may be
  pub overdue-again : some ≡ true → Triple a b (MayBeOverdue setup core kept tills polls now (AllHear readers) items) (MayBeOverdue setup new kept left polls now (AllHear readers) items)
  overdue-again looks = subst (λ looks. Triple a b (MayBeOverdue setup core kept tills polls now (AllHear readers) items) (AfterOverdue looks setup new kept left polls now (AllHear readers) items)) looks over-overdue

  -- none was
  pub overdue-over : some ≡ false → Triple a b (MayBeOverdue setup core kept tills polls now (AllHear readers) items) (MidRound setup new kept left polls now (AllHear readers) [] items)
  overdue-over looks = subst (λ looks. Triple a b (MayBeOverdue setup core kept tills polls now (AllHear readers) items) (AfterOverdue looks setup new kept left polls now (AllHear readers) items)) looks over-overdue
