-- A till that opens while 64 others are there is cut before the next poll.
use Rattle.std.proofs.Common.{◌≡◌, ℕ, List, [], ◌∷◌, ◌++◌, refl, sym, ◌∙◌, ap, subst, true, false, inl, inr}
use Rattle.std.specs.Prelude.{Bool, ℤ, ◌≤◌, ◌==◌, length}
use Rattle.std.proofs.lemmas.Bool.{eq-eqb, le-ltb}
use Rattle.gw_site.specs.Outside.{Connection, Outside, is_connected, new_connection, outside_after, outside_from}
use Rattle.gw_site.specs.Sorts.{AreOfRound}
use Rattle.gw_site.specs.declared.turn.Turn.{Turn}
use Rattle.gw_site.specs.declared.turn.Turn.TheVariants.{Polled, Opened}
use Rattle.gw_owes.specs.Events.{till_opened_items, items_due}
use Rattle.gw_owes.specs.Items.{Crowded}
use Rattle.gw_rules.specs.Laws.{IsCutIn, CrowdedCuts}
use Rattle.gw_rules.specs.Lawful.{AllowedTurn, IsCourse, turns_of}
use Rattle.gw_rules.specs.View.{View, Move, Begin, Read, Make, after, after_turn, at_first}
use Rattle.gw_rules.proofs.CourseLemmas.{begin-outside, after-outside}
use Rattle.gw_rules.proofs.CutLemmas.{IsAmong, has-before, Holds, cut-before-poll}
use Rattle.gw_rules.proofs.SetupLemmas.{IsInRun, first-run, begin-run, read-run, turn-run, polled-setup}

-- a till that has opened is there
connected-new : (connections : List Connection) (number : ℕ) → is_connected (connections ++ new_connection number ∷ []) number ≡ true
connected-new [] number = rw (eq-eqb number number refl) refl
connected-new (connection ∷ connections) number = by_test (connection.number == number) refl (connected-new connections number)
  where
    by_test : (test : Bool) → (connection.number == number) ≡ test → is_connected (connections ++ new_connection number ∷ []) number ≡ true → is_connected (connection ∷ (connections ++ new_connection number ∷ [])) number ≡ true
    by_test true t h = rw t refl
    by_test false t h = rw t h

-- a till that is one too many brings an item that says so
crowd-brings : (till : ℕ) (connections : List Connection) → 64 ≤ length connections → IsAmong (Crowded till) (till_opened_items till connections)
crowd-brings till connections many = ([], [], rw (le-ltb (length connections) 64 many) refl)

opened-holds : (till : ℕ) (v : View) → IsInRun v → AllowedTurn v (Opened till) → 64 ≤ length v.scene.outside.tills → Holds till (after_turn v (Opened till))
opened-holds till v run ok many =
    let tills : List Connection = v.scene.outside.tills in
    let known = polled-setup v run ok.0 in
    inl (record {
      stage = refl;
      run = (known.setup, known.setup_is);
      there = connected-new tills till;
      owed = inl (Crowded till, inr refl, has-before (Crowded till) (till_opened_items till tills) (items_due v.scene.core) (crowd-brings till tills many));
    })

-- 64 tills or more are there
abbrev IsCrowded : Outside → Type 0
IsCrowded o = 64 ≤ length o.tills

to-opened : (till : ℕ) (now : ℤ) (inside rest : List Turn) (v : View) (moves : List Move) (before : List Turn)
    → IsInRun v → IsCourse v moves → turns_of moves ≡ before ++ Opened till ∷ (inside ++ Polled now ∷ rest) → AreOfRound inside
    → IsCrowded (outside_from v.scene.outside before) → IsCutIn till inside
to-opened till now inside rest v [] [] run c e a many = absurd (let n : [] ≡ Opened till ∷ (inside ++ Polled now ∷ rest) = e in cc)
to-opened till now inside rest v [] (turn ∷ before) run c e a many = absurd (let n : [] ≡ turn ∷ (before ++ Opened till ∷ (inside ++ Polled now ∷ rest)) = e in cc)
to-opened till now inside rest v (Begin ∷ moves) before run c e a many =
    to-opened till now inside rest (after v Begin) moves before (begin-run v run c.0.idle.round) c.1 e a
    (subst (λ (o : Outside). IsCrowded (outside_from o before)) (sym (begin-outside v.scene v.items)) many)
to-opened till now inside rest v (Read as_read ∷ moves) before run c e a many =
    to-opened till now inside rest (after v (Read as_read)) moves before (read-run v as_read run c.0.idle.round) c.1 e a many
to-opened till now inside rest v (Make turn ∷ moves) [] run c e a many =
    let heads : turn ≡ Opened till = (let n : turn ∷ turns_of moves ≡ Opened till ∷ (inside ++ Polled now ∷ rest) = e in cc) in
    let tails : turns_of moves ≡ inside ++ Polled now ∷ rest = (let n : turn ∷ turns_of moves ≡ Opened till ∷ (inside ++ Polled now ∷ rest) = e in cc) in
    let course : IsCourse (after_turn v (Opened till)) moves = subst (λ t. IsCourse (after_turn v t) moves) heads c.1 in
    cut-before-poll till now rest (after_turn v (Opened till)) moves inside (opened-holds till v run (subst (AllowedTurn v) heads c.0) many) course tails a
to-opened till now inside rest v (Make turn ∷ moves) (other ∷ before) run c e a many =
    let heads : turn ≡ other = (let n : turn ∷ turns_of moves ≡ other ∷ (before ++ Opened till ∷ (inside ++ Polled now ∷ rest)) = e in cc) in
    let tails : turns_of moves ≡ before ++ Opened till ∷ (inside ++ Polled now ∷ rest) = (let n : turn ∷ turns_of moves ≡ other ∷ (before ++ Opened till ∷ (inside ++ Polled now ∷ rest)) = e in cc) in
    to-opened till now inside rest (after_turn v turn) moves before (turn-run v turn run c.0) c.1 tails a
    (subst (λ (o : Outside). IsCrowded (outside_from o before)) (sym (after-outside v turn ∙ ap (outside_after v.scene.outside) heads)) many)

pub crowded-cuts : CrowdedCuts
crowded-cuts before inside rest till now (v, s) a many = to-opened till now inside rest at_first s.course before first-run s.lawful s.log_is a many
