-- What is known of a scene in a round, and items that begin.
use Rattle.std.proofs.Common.{◌≡◌, ℕ, List, [], ◌∷◌, ◌++◌, refl, sym, ◌∙◌, ap, subst, append_assoc}
use Rattle.std.specs.Prelude.{map, Some, ◌==◌, if◌then◌else◌, Bool, true, false}
use Rattle.gw_site.specs.Outside.{Outside, Connection, outside_after, is_connected, without}
use Rattle.gw_site.specs.declared.turn.Turn.{Turn}
use Rattle.gw_site.specs.declared.turn.Turn.TheVariants.{SentTill, CutTill as TillCut}
use Rattle.gw_site.specs.Observed.{Observed}
use Rattle.sale_frame.specs.Decode.{DecodedFrames}
use Rattle.gw_owes.specs.Calls.{OwedCall, CutTill}
use Rattle.gw_owes.specs.Core.{Core}
use Rattle.gw_owes.specs.Events.{decoded_items, has_bad_length}
use Rattle.gw_owes.specs.Items.{RoundItem, Message, Unframed}
use Rattle.gw_owes.specs.Row.{Known, becoming, owing, owing_where}
use Rattle.gw_owes.specs.Rows.{row_of}
use Rattle.gw_owes.specs.Terminals.{core_without}
use Rattle.gw_rules.specs.Scene.{Scene, row_in, row_at}
use Rattle.gw_rules.specs.Stage.{Stage, Resting, Opening, Looking, AtPoll, Handling, Over, Broken, is_round, busy}
use Rattle.gw_rules.specs.View.{View, called, begun, at_first, at_item, till_cut}
use Rattle.gw_rules.specs.Lawful.{IsIdle, Stands, may_begin}
use Rattle.gw_rules.specs.Triple.{Extends, Triple, Owing}
use Rattle.gw_rules.proofs.TripleLemmas.{triple-refl, triple-then, triple-after, triple-before, triple-some, begin-triple}
use Rattle.gw_dispatch.specs.Round.{IsIn, InRound, Pending, with_core}

-- what is known once this till is gone
abbrev pub known_without : Known → ℕ → Known
known_without known till = with_core known (core_without known.core till)

-- ---- facts that are known where the site isn't dark

known-observed : (s : Observed) (A : Type 0) (P Q : View → Type 0) → (A → Triple s s P Q) → (d : Bool) → s.dark ≡ d → (before : List Turn) (v : View) → s.log ≡ Some before → Stands before v → (s.dark ≡ false → P v × A) → Extends s before v s Q
known-observed s A P Q k false d before v e stands p = (k (p d).1).observed before v e stands (λ lit. (p lit).0)
known-observed s A P Q k true d before v e stands p = (triple-refl s Q).observed before v e stands (λ f. absurd (let h : true ≡ false = sym d ∙ f in cc))

-- what is kept without a call where a fact holds
pub triple-known : (s : Observed) (A : Type 0) (P Q : View → Type 0) → (A → Triple s s P Q) → Triple s s (λ v. P v × A) Q
triple-known s A P Q k = record {
  observed = λ before v e stands p. known-observed s A P Q k s.dark refl before v e stands p;
  unobserved = λ e. e;
  stays = λ e. e;
  still = λ e. refl;
  rests = λ e later k. (later, k, λ more. refl);
  origin = refl;
}

-- ---- what is known of a scene in a round

pub round-busy : (s : Stage) → is_round s ≡ true → is_round (busy s) ≡ true
round-busy Resting r = r
round-busy (Opening refused) r = r
round-busy (Looking refused) r = r
round-busy AtPoll r = refl
round-busy Handling r = refl
round-busy Over r = r
round-busy Broken r = r

-- once an item has begun, by which this is remembered
pub begun-in : (known : Known) (polls : ℕ) (o : Outside) (core : Core) (scene : Scene) → IsIn known polls o scene → IsIn (with_core known core) polls o (record scene { stage = busy scene.stage; core = core })
begun-in known polls o core scene f = record {
  setup_is = f.setup_is;
  known_is = ap (λ k. with_core k core) f.known_is;
  flight = f.flight;
  round = round-busy scene.stage f.round;
  polls_are = f.polls_are;
  outside_is = f.outside_is;
}

-- once a message was read
pub read-in : (known : Known) (polls : ℕ) (o : Outside) (scene : Scene) → IsIn known polls o scene → IsIn known polls o (at_item scene)
read-in known polls o scene f = record { setup_is = f.setup_is; known_is = f.known_is; flight = f.flight; round = round-busy scene.stage f.round; polls_are = f.polls_are; outside_is = f.outside_is }

-- once a reply was sent
pub sent-in : (known : Known) (polls : ℕ) (o : Outside) (till : ℕ) (bytes : List ℕ) (sent : Bool) (scene : Scene) → IsIn known polls o scene → IsIn known polls o (called scene (SentTill till bytes sent))
sent-in known polls o till bytes sent scene f = record { setup_is = f.setup_is; known_is = f.known_is; flight = f.flight; round = round-busy scene.stage f.round; polls_are = f.polls_are; outside_is = f.outside_is }

-- once a till was cut
pub cut-in : (known : Known) (polls : ℕ) (o : Outside) (till : ℕ) (scene : Scene) → IsIn known polls o scene → IsIn (known_without known till) polls (outside_after o (TillCut till)) (till_cut scene till)
cut-in known polls o till scene f = record {
  setup_is = f.setup_is;
  known_is = ap (λ k. known_without k till) f.known_is;
  flight = f.flight;
  round = round-busy scene.stage f.round;
  polls_are = f.polls_are;
  outside_is = ap (λ p. outside_after p (TillCut till)) f.outside_is;
}

-- the till is there
abbrev pub IsHere : Outside → ℕ → Type 0
IsHere o till = is_connected o.tills till ≡ true

-- ---- items that begin

-- the row of an item in a scene of which this is known
pub row-known : (known : Known) (polls : ℕ) (o : Outside) (scene : Scene) (item : RoundItem) → IsIn known polls o scene → row_at scene item ≡ row_of o.tills known item
row-known known polls o scene item f =
    ap (λ setup. row_in scene (λ k. row_of scene.outside.tills k item) setup) f.setup_is ∙ ap (λ k. row_of scene.outside.tills k item) f.known_is ∙ ap (λ (p : Outside). row_of p.tills known item) f.outside_is

-- the item begins in this outside, and by it this is remembered and owed
pub record BeginsBy (known : Known) (o : Outside) (item : RoundItem) (items : List RoundItem) (core : Core) (calls : List OwedCall) : Type 0 where
  pub begins : (scene : Scene) → scene.outside ≡ o → may_begin scene (item ∷ items) ≡ true
  pub row : row_of o.tills known item ≡ becoming core calls

-- for some scene of which this is known
pub some-scene : (a b : Observed) (known : Known) (polls : ℕ) (o : Outside) (calls : List OwedCall) (items : List RoundItem) (Q : View → Type 0) →
    ((scene : Scene) → Triple a b (λ v. Owing scene calls items v × IsIn known polls o scene) Q) → Triple a b (Pending known polls o calls items) Q
some-scene a b known polls o calls items Q k =
    triple-before a b (Pending known polls o calls items) (λ v. (scene : Scene) × (Owing scene calls items v × IsIn known polls o scene)) _ (λ v p. (p.0, (p.1, p.2)))
    (triple-some a b (λ scene v. Owing scene calls items v × IsIn known polls o scene) Q at_first.scene k)

-- the first item begins
pub begin-first : (s : Observed) (known : Known) (polls : ℕ) (o : Outside) (item : RoundItem) (items : List RoundItem) (core : Core) (calls : List OwedCall) → BeginsBy known o item items core calls →
    Triple s s (InRound known polls o (item ∷ items)) (Pending (with_core known core) polls o calls items)
begin-first s known polls o item items core calls begins = some-scene s s known polls o [] (item ∷ items) (Pending (with_core known core) polls o calls items) (λ scene.
    triple-known s (IsIn known polls o scene) (Owing scene [] (item ∷ items)) _ (λ f.
    triple-after s s _ _ _ (begin-triple s scene item items f.round (begins.begins scene f.outside_is))
    (λ v q. (record scene { stage = busy scene.stage; core = core }, q ∙ ap (λ row. begun scene row items) (row-known known polls o scene item f ∙ begins.row), begun-in known polls o core scene f))))

-- the first item begins, and owes nothing
pub pass : (s : Observed) (known : Known) (polls : ℕ) (o : Outside) (item : RoundItem) (items : List RoundItem) → BeginsBy known o item items known.core [] →
    Triple s s (InRound known polls o (item ∷ items)) (InRound known polls o items)
pass s known polls o item items begins = begin-first s known polls o item items known.core [] begins

-- ---- a till that is gone

pub without-closed : (connections : List Connection) (number : ℕ) → is_connected (without connections number) number ≡ false
without-closed [] number = refl
without-closed (connection ∷ connections) number = by_test (connection.number == number) refl (without-closed connections number)
  where
    by_test : (test : Bool) → (connection.number == number) ≡ test → is_connected (without connections number) number ≡ false → is_connected (without (connection ∷ connections) number) number ≡ false
    by_test true e h = rw e h
    by_test false e h = rw (e, e) h

-- the items of a till that is gone owe nothing
module _ (known : Known) (polls : ℕ) (o : Outside) (till : ℕ) (closed : is_connected o.tills till ≡ false) (s : Observed) where
  pass-payloads : (payloads : List (List ℕ)) (items : List RoundItem) → Triple s s (InRound known polls o (map (Message till) payloads ++ items)) (InRound known polls o items)
  pass-payloads [] items = triple-refl s _
  pass-payloads (message ∷ payloads) items = triple-then s s s _ _ _
      (pass s known polls o (Message till message) (map (Message till) payloads ++ items) (record { begins = λ scene e. rw (e, closed) refl; row = refl }))
      (pass-payloads payloads items)

  pass-unframed : (items : List RoundItem) (test : Bool) → Triple s s (InRound known polls o ((if test then Unframed till ∷ [] else []) ++ items)) (InRound known polls o items)
  pass-unframed items true = pass s known polls o (Unframed till) items (record { begins = λ scene e. refl; row = ap (λ there. owing_where there known (owing known (CutTill till ∷ []))) closed })
  pass-unframed items false = triple-refl s _

  pub pass-all : (reading : DecodedFrames) (items : List RoundItem) → Triple s s (InRound known polls o (decoded_items till reading ++ items)) (InRound known polls o items)
  pass-all reading items =
      let last : List RoundItem = if has_bad_length reading.rest then Unframed till ∷ [] else [] in
      triple-before s s _ _ _ (λ v p. subst (λ list. InRound known polls o list v) (append_assoc (map (Message till) reading.payloads) last items) p)
      (triple-then s s s _ _ _ (pass-payloads reading.payloads (last ++ items)) (pass-unframed items (has_bad_length reading.rest)))

-- ---- no call is owed

-- in a round in which no call is owed
pub round-idle : (known : Known) (polls : ℕ) (o : Outside) (items : List RoundItem) (v : View) → InRound known polls o items v → IsIdle v
round-idle known polls o items v (scene, is, f) = subst IsIdle (sym is) (record { round = f.round; calls = refl })
