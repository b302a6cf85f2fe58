-- When a terminal that isn't linked is due: five seconds after its link ended, or couldn't be made, in this run.
use Rattle.std.proofs.Common.{◌≡◌, ◌≢◌, ℕ, List, [], ◌∷◌, ◌++◌, refl, sym, ◌∙◌, ap, subst, true, false, inl, inr, append_assoc, append-nil, eqb-true}
use Rattle.std.proofs.lemmas.Bool.{and_parts, eq-eqb}
use Rattle.std.specs.Prelude.{Bool, ℤ, ◌⊎◌, ◌+◌, ◌==◌, ◌&&◌, not, Option, Some, None}
use Rattle.gw_base.specs.declared.setup.Setup.{Setup}
use Rattle.gw_site.specs.Outside.{Outside, outside_after, outside_from}
use Rattle.gw_site.specs.Sorts.{IsQuiet, is_between, is_sort_of_round, sort_of}
use Rattle.gw_site.specs.declared.turn.Turn.{Turn}
use Rattle.gw_site.specs.declared.turn.Turn.TheVariants.{Start, OpenFailed, Polled, Opened, HeardTill, Closed, HeardPt, Lost, Stopped, Linked, LinkFailed, SentTill, SentPt, CutTill, CutPt, Wrote, Synced, DiskFailed, Crash}
use Rattle.gw_site.proofs.OutsideLemmas.{outside_from-append}
use Rattle.gw_owes.specs.Calls.{LinkPt, CutPt as OwedCutPt}
use Rattle.gw_owes.specs.Core.{new_core}
use Rattle.gw_owes.specs.Items.{RoundItem, LinkLost}
use Rattle.gw_owes.specs.ReadAs.{ReadAs}
use Rattle.gw_rules.specs.Lawful.{AllowedTurn, Begins, IsRead, IsCourse, turns_of}
use Rattle.gw_rules.specs.LinkLaws.{EndsLink, EndsNone}
use Rattle.gw_rules.specs.Scene.{link_lost_at}
use Rattle.gw_rules.specs.View.{View, Move, Begin, Read, Make, after, after_turn, view_from}
use Rattle.gw_rules.proofs.CourseLemmas.{after-outside, begin-outside}
use Rattle.gw_rules.proofs.LinkStateLemmas.{LinkState, Absent, On, Off, Odd, state_in, state_then}
use Rattle.gw_rules.proofs.LinkedLemmas.{Agrees, is_on, Settled, Losing, OrLost, IsOfLink, lose_none, begin-agrees, begin-state-settled, begin-state-losing, by-number, call-setup, lost-at-turns, made-at-turns, losing-round, move-agrees, new-state, polled-settled, read-losing, read-settled, round-setup, settled-turn, turn-state}
use Rattle.gw_rules.proofs.RoundLemmas.{turn-moment}
use Rattle.gw_rules.proofs.StageLemmas.{no-true, not-true}

-- ---- turns that end a link

abbrev is_end : ℕ → Turn → Bool
is_end pt (Start setup) = false
is_end pt OpenFailed = false
is_end pt (Polled now) = false
is_end pt (Opened till) = false
is_end pt (HeardTill till bytes) = false
is_end pt (Closed till) = false
is_end pt (HeardPt other bytes) = false
is_end pt (Lost other) = other == pt
is_end pt Stopped = false
is_end pt (Linked other) = false
is_end pt (LinkFailed other) = other == pt
is_end pt (SentTill till bytes sent) = false
is_end pt (SentPt other bytes sent) = false
is_end pt (CutTill till) = false
is_end pt (CutPt other) = other == pt
is_end pt (Wrote offset bytes) = false
is_end pt Synced = false
is_end pt DiskFailed = false
is_end pt (Crash file) = false

end-is : (pt : ℕ) (turn : Turn) → is_end pt turn ≡ true → EndsLink pt turn
end-is pt (Start setup) e = no-true e
end-is pt OpenFailed e = no-true e
end-is pt (Polled now) e = no-true e
end-is pt (Opened till) e = no-true e
end-is pt (HeardTill till bytes) e = no-true e
end-is pt (Closed till) e = no-true e
end-is pt (HeardPt other bytes) e = no-true e
end-is pt (Lost other) e = inl (ap Lost (eqb-true other pt e))
end-is pt Stopped e = no-true e
end-is pt (Linked other) e = no-true e
end-is pt (LinkFailed other) e = inr (inr (ap LinkFailed (eqb-true other pt e)))
end-is pt (SentTill till bytes sent) e = no-true e
end-is pt (SentPt other bytes sent) e = no-true e
end-is pt (CutTill till) e = no-true e
end-is pt (CutPt other) e = inr (inl (ap CutPt (eqb-true other pt e)))
end-is pt (Wrote offset bytes) e = no-true e
end-is pt Synced e = no-true e
end-is pt DiskFailed e = no-true e
end-is pt (Crash file) e = no-true e

end-tests : (pt : ℕ) (turn : Turn) → EndsLink pt turn → is_end pt turn ≡ true
end-tests pt turn (inl lost) = ap (is_end pt) lost ∙ eq-eqb pt pt refl
end-tests pt turn (inr (inl cut)) = ap (is_end pt) cut ∙ eq-eqb pt pt refl
end-tests pt turn (inr (inr failed)) = ap (is_end pt) failed ∙ eq-eqb pt pt refl

-- these turns end no link of the terminal
abbrev pub link_lasts : ℕ → List Turn → Bool
link_lasts pt [] = true
link_lasts pt (turn ∷ turns) = not (is_end pt turn) && link_lasts pt turns

pub lasts-tested : (pt : ℕ) (turns : List Turn) → link_lasts pt turns ≡ true → EndsNone pt turns
lasts-tested pt [] e = tt
lasts-tested pt (turn ∷ turns) e =
    let p = and_parts (not (is_end pt turn)) (link_lasts pt turns) e in
    ((λ ends. no-true (sym (not-true (is_end pt turn) p.0) ∙ end-tests pt turn ends)), lasts-tested pt turns p.1)

-- the turn ends the terminal's link, or doesn't
by-end : {A : Type 0} (pt : ℕ) (turn : Turn) → (EndsLink pt turn → A) → ((EndsLink pt turn → ⊥) → A) → A
by-end {A} pt turn is_one is_none = by_test (is_end pt turn) refl
  where
    by_test : (test : Bool) → is_end pt turn ≡ test → A
    by_test true e = is_one (end-is pt turn e)
    by_test false e = is_none (λ ends. no-true (sym e ∙ end-tests pt turn ends))

none-more : (pt : ℕ) (turns : List Turn) (turn : Turn) → EndsNone pt turns → (EndsLink pt turn → ⊥) → EndsNone pt (turns ++ turn ∷ [])
none-more pt [] turn h not = (not, tt)
none-more pt (first ∷ turns) turn h not = (h.0, none-more pt turns turn h.1 not)

-- where none ends it, no turn among them does
pub none-split : {A : Type 0} (pt : ℕ) (turns first : List Turn) (turn : Turn) (rest : List Turn) → EndsNone pt turns → turns ≡ first ++ turn ∷ rest → EndsLink pt turn → A
none-split pt [] [] turn rest h e ends = absurd (let n : [] ≡ turn ∷ rest = e in cc)
none-split pt [] (x ∷ first) turn rest h e ends = absurd (let n : [] ≡ x ∷ (first ++ turn ∷ rest) = e in cc)
none-split pt (one ∷ turns) [] turn rest h e ends =
    let heads : turn ≡ one = (let n : one ∷ turns ≡ turn ∷ rest = e in cc) in
    absurd (h.0 (subst (EndsLink pt) heads ends))
none-split pt (one ∷ turns) (x ∷ first) turn rest h e ends =
    let tails : turns ≡ first ++ turn ∷ rest = (let n : one ∷ turns ≡ x ∷ (first ++ turn ∷ rest) = e in cc) in
    none-split pt turns first turn rest h.1 tails ends

-- the last turn that ends it is one
pub same-last : (pt : ℕ) (one : List Turn) (end : Turn) (rest other : List Turn) (last : Turn) (more : List Turn) → one ++ end ∷ rest ≡ other ++ last ∷ more → EndsLink pt end → EndsNone pt rest → EndsLink pt last → EndsNone pt more → one ≡ other
same-last pt [] end rest [] last more e ends none ends_too none_too = refl
same-last pt [] end rest (x ∷ other) last more e ends none ends_too none_too =
    let tails : rest ≡ other ++ last ∷ more = (let n : end ∷ rest ≡ x ∷ (other ++ last ∷ more) = e in cc) in
    none-split pt rest other last more none tails ends_too
same-last pt (x ∷ one) end rest [] last more e ends none ends_too none_too =
    let tails : more ≡ one ++ end ∷ rest = (let n : x ∷ (one ++ end ∷ rest) ≡ last ∷ more = e in cc) in
    none-split pt more one end rest none_too tails ends
same-last pt (x ∷ one) end rest (y ∷ other) last more e ends none ends_too none_too =
    let heads : x ≡ y = (let n : x ∷ (one ++ end ∷ rest) ≡ y ∷ (other ++ last ∷ more) = e in cc) in
    let tails : one ++ end ∷ rest ≡ other ++ last ∷ more = (let n : x ∷ (one ++ end ∷ rest) ≡ y ∷ (other ++ last ∷ more) = e in cc) in
    ap (λ t. t ∷ one) heads ∙ ap (λ l. y ∷ l) (same-last pt one end rest other last more tails ends none ends_too none_too)

-- ---- when it is due

-- the terminal's link has ended last in these turns so that it is due then, five seconds after
abbrev pub HasEnded : Outside → List Turn → ℕ → ℕ → Type 0
HasEnded o turns pt due = (first : List Turn) × (turn : Turn) × (rest : List Turn) × (turns ≡ first ++ turn ∷ rest) × EndsLink pt turn × EndsNone pt rest × (due ≡ (outside_from o first).moment + 5)

ended-more : (o : Outside) (turns : List Turn) (turn : Turn) (pt due : ℕ) → (EndsLink pt turn → ⊥) → HasEnded o turns pt due → HasEnded o (turns ++ turn ∷ []) pt due
ended-more o turns turn pt due not (first, ended, rest, e, ends, none, is) =
    (first, ended, rest ++ turn ∷ [], ap (λ l. l ++ turn ∷ []) e ∙ append_assoc first (ended ∷ rest) (turn ∷ []), ends, none-more pt rest turn none not, is)

-- it ends with the last turn
ended-now : (o : Outside) (turns : List Turn) (turn : Turn) (pt due : ℕ) → EndsLink pt turn → due ≡ (outside_from o turns).moment + 5 → HasEnded o (turns ++ turn ∷ []) pt due
ended-now o turns turn pt due ends is = (turns, turn, [], refl, ends, tt, is)

-- from this outside on these turns were made; each terminal that isn't linked is due at once where its link never ended, and else five seconds after it did last
pub record Rests (o : Outside) (turns : List Turn) (v : View) : Type 0 where
  pub outside_is : v.scene.outside ≡ outside_from o turns
  pub never : (pt : ℕ) → state_in v.scene.core pt ≡ Off None → EndsNone pt turns
  pub states : (pt due : ℕ) → state_in v.scene.core pt ≡ Off (Some due) → HasEnded o turns pt due
  pub losing : (l : Losing v) → HasEnded o turns l.pt (v.scene.outside.moment + 5)

settled-losing : {A : Type 0} (v : View) → Settled v → Losing v → A
settled-losing v s l = no-true (sym (ap lose_none l.items_are) ∙ s.none)

-- the state after a link has ended says the moment
pub then-due : (moment due : ℕ) (old : LinkState) → state_then (Off (Some (moment + 5))) old ≡ Off (Some due) → due ≡ moment + 5
then-due moment due Absent e = absurd (let n : Absent ≡ Off (Some due) = e in cc)
then-due moment due On e = let n : Off (Some (moment + 5)) ≡ Off (Some due) = e in cc
then-due moment due (Off before) e = let n : Off (Some (moment + 5)) ≡ Off (Some due) = e in cc
then-due moment due Odd e = let n : Off (Some (moment + 5)) ≡ Off (Some due) = e in cc

pub then-none : {A : Type 0} (due : ℕ) (old : LinkState) → state_then (Off (Some due)) old ≡ Off None → A
then-none due Absent e = absurd (let n : Absent ≡ Off None = e in cc)
then-none due On e = absurd (let n : Off (Some due) ≡ Off None = e in cc)
then-none due (Off before) e = absurd (let n : Off (Some due) ≡ Off None = e in cc)
then-none due Odd e = absurd (let n : Off (Some due) ≡ Off None = e in cc)

pub then-on : {A : Type 0} (due : Option ℕ) (old : LinkState) → state_then On old ≡ Off due → A
then-on due Absent e = absurd (let n : Absent ≡ Off due = e in cc)
then-on due On e = absurd (let n : On ≡ Off due = e in cc)
then-on due (Off before) e = absurd (let n : On ≡ Off due = e in cc)
then-on due Odd e = absurd (let n : On ≡ Off due = e in cc)

-- ---- items

begin-rests : (o : Outside) (turns : List Turn) (v : View) → Agrees v → Rests o turns v → Begins v → Rests o turns (after v Begin)
begin-rests o turns v a r b = record {
  outside_is = begin-outside v.scene v.items ∙ r.outside_is;
  never = λ pt is. never_by pt is a.links;
  states = λ pt due is. by_links pt due is a.links;
  losing = λ l. settled-losing (after v Begin) (begin-agrees v a b).1 l;
}
  where
    never_by : (pt : ℕ) → state_in (after v Begin).scene.core pt ≡ Off None → Settled v ⊎ Losing v → EndsNone pt turns
    never_by pt is (inl s) = r.never pt (sym (begin-state-settled v a.run s b pt) ∙ is)
    never_by pt is (inr l) = by-number pt l.pt own other
      where
        own : l.pt ≡ pt → EndsNone pt turns
        own same =
            let known = round-setup v a.run b.idle.round in
            let t = lost-at-turns v.scene l.pt known.setup known.setup_is in
            let begun : state_in (after v Begin).scene.core l.pt ≡ Off None = subst (λ n. state_in (after v Begin).scene.core n ≡ Off None) (sym same) is in
            let lost : state_in (link_lost_at v.scene l.pt).core l.pt ≡ Off None = subst (λ i. state_in (after (record v { items = i }) Begin).scene.core l.pt ≡ Off None) l.items_are begun in
            then-none (v.scene.outside.moment + 5) (state_in v.scene.core l.pt) (sym t.own ∙ lost)

        other : pt ≢ l.pt → EndsNone pt turns
        other differs = r.never pt (sym (begin-state-losing v a.run l b pt differs) ∙ is)

    by_links : (pt due : ℕ) → state_in (after v Begin).scene.core pt ≡ Off (Some due) → Settled v ⊎ Losing v → HasEnded o turns pt due
    by_links pt due is (inl s) = r.states pt due (sym (begin-state-settled v a.run s b pt) ∙ is)
    by_links pt due is (inr l) = by-number pt l.pt own other
      where
        own : l.pt ≡ pt → HasEnded o turns pt due
        own same =
            let known = round-setup v a.run b.idle.round in
            let t = lost-at-turns v.scene l.pt known.setup known.setup_is in
            let begun : state_in (after v Begin).scene.core l.pt ≡ Off (Some due) = subst (λ n. state_in (after v Begin).scene.core n ≡ Off (Some due)) (sym same) is in
            let lost : state_in (link_lost_at v.scene l.pt).core l.pt ≡ Off (Some due) = subst (λ i. state_in (after (record v { items = i }) Begin).scene.core l.pt ≡ Off (Some due)) l.items_are begun in
            let at = then-due v.scene.outside.moment due (state_in v.scene.core l.pt) (sym t.own ∙ lost) in
            subst (λ n. HasEnded o turns n due) same (subst (HasEnded o turns l.pt) (sym at) (r.losing l))

        other : pt ≢ l.pt → HasEnded o turns pt due
        other differs = r.states pt due (sym (begin-state-losing v a.run l b pt differs) ∙ is)

read-rests : (o : Outside) (turns : List Turn) (v : View) (as_read : ReadAs) → Agrees v → Rests o turns v → IsRead v as_read → Rests o turns (after v (Read as_read))
read-rests o turns v as_read a r read = by_links a.links
  where
    by_links : Settled v ⊎ Losing v → Rests o turns (after v (Read as_read))
    by_links (inr l) = read-losing v as_read l read
    by_links (inl s) = record { outside_is = r.outside_is; never = r.never; states = r.states; losing = λ l. settled-losing (after v (Read as_read)) (read-settled v as_read s) l }

-- ---- turns

-- a turn of the terminal's link never leaves it due at once
link-never : {A : Type 0} (v : View) (turn : Turn) (pt : ℕ) → Agrees v → AllowedTurn v turn → IsOfLink pt turn → state_in (after_turn v turn).scene.core pt ≡ Off None → A
link-never v turn pt a ok (inl linked) is =
    let next : AllowedTurn v (Linked pt) = subst (AllowedTurn v) linked ok in
    let k = call-setup v (LinkPt pt) a.run next in
    let t = made-at-turns v.scene pt k.setup k.setup_is in
    then-on None (state_in v.scene.core pt) (sym t.own ∙ subst (λ t. state_in (after_turn v t).scene.core pt ≡ Off None) linked is)
link-never v turn pt a ok (inr (inl failed)) is =
    let next : AllowedTurn v (LinkFailed pt) = subst (AllowedTurn v) failed ok in
    let k = call-setup v (LinkPt pt) a.run next in
    let t = lost-at-turns v.scene pt k.setup k.setup_is in
    then-none (v.scene.outside.moment + 5) (state_in v.scene.core pt) (sym t.own ∙ subst (λ t. state_in (after_turn v t).scene.core pt ≡ Off None) failed is)
link-never v turn pt a ok (inr (inr cut)) is =
    let next : AllowedTurn v (CutPt pt) = subst (AllowedTurn v) cut ok in
    let k = call-setup v (OwedCutPt pt) a.run next in
    let t = lost-at-turns v.scene pt k.setup k.setup_is in
    then-none (v.scene.outside.moment + 5) (state_in v.scene.core pt) (sym t.own ∙ subst (λ t. state_in (after_turn v t).scene.core pt ≡ Off None) cut is)

-- a terminal whose link is lost was linked
lost-linked : {A : Type 0} (v : View) (turn : Turn) (pt : ℕ) (due : Option ℕ) → Settled v → AllowedTurn v turn → turn ≡ Lost pt → state_in (after_turn v turn).scene.core pt ≡ Off due → A
lost-linked v turn pt due s ok lost is =
    let allowed : AllowedTurn v (Lost pt) = subst (AllowedTurn v) lost ok in
    let off : state_in v.scene.core pt ≡ Off due = subst (λ t. state_in (after_turn v t).scene.core pt ≡ Off due) lost is in
    no-true (sym (s.linked pt ∙ ap is_on off) ∙ allowed.connected_is)

-- a turn of the terminal's link makes it linked, or ends its link
link-ended : (o : Outside) (turns : List Turn) (v : View) (turn : Turn) (pt due : ℕ) → Agrees v → Rests o turns v → AllowedTurn v turn → IsOfLink pt turn → state_in (after_turn v turn).scene.core pt ≡ Off (Some due) → HasEnded o (turns ++ turn ∷ []) pt due
link-ended o turns v turn pt due a r ok (inl linked) is =
    let next : AllowedTurn v (Linked pt) = subst (AllowedTurn v) linked ok in
    let k = call-setup v (LinkPt pt) a.run next in
    let t = made-at-turns v.scene pt k.setup k.setup_is in
    then-on (Some due) (state_in v.scene.core pt) (sym t.own ∙ subst (λ t. state_in (after_turn v t).scene.core pt ≡ Off (Some due)) linked is)
link-ended o turns v turn pt due a r ok (inr (inl failed)) is =
    let next : AllowedTurn v (LinkFailed pt) = subst (AllowedTurn v) failed ok in
    let k = call-setup v (LinkPt pt) a.run next in
    let t = lost-at-turns v.scene pt k.setup k.setup_is in
    let at = then-due v.scene.outside.moment due (state_in v.scene.core pt) (sym t.own ∙ subst (λ t. state_in (after_turn v t).scene.core pt ≡ Off (Some due)) failed is) in
    ended-now o turns turn pt due (inr (inr failed)) (at ∙ ap (λ (o : Outside). o.moment + 5) r.outside_is)
link-ended o turns v turn pt due a r ok (inr (inr cut)) is =
    let next : AllowedTurn v (CutPt pt) = subst (AllowedTurn v) cut ok in
    let k = call-setup v (OwedCutPt pt) a.run next in
    let t = lost-at-turns v.scene pt k.setup k.setup_is in
    let at = then-due v.scene.outside.moment due (state_in v.scene.core pt) (sym t.own ∙ subst (λ t. state_in (after_turn v t).scene.core pt ≡ Off (Some due)) cut is) in
    ended-now o turns turn pt due (inr (inl cut)) (at ∙ ap (λ (o : Outside). o.moment + 5) r.outside_is)

same-lost : (v : View) (pt : ℕ) (l : Losing (after_turn v (Lost pt))) → l.pt ≡ pt
same-lost v pt l = first-lost pt l.pt _ l.rest l.items_are
  where
    first-lost : (one other : ℕ) (items rest : List RoundItem) → LinkLost one ∷ items ≡ LinkLost other ∷ rest → other ≡ one
    first-lost one other items rest e = cc

turn-outside : (o : Outside) (turns : List Turn) (v : View) (turn : Turn) → Rests o turns v → (after_turn v turn).scene.outside ≡ outside_from o (turns ++ turn ∷ [])
turn-outside o turns v turn r = after-outside v turn ∙ ap (λ o. outside_after o turn) r.outside_is ∙ sym (outside_from-append o turns (turn ∷ []))

round-rests : (o : Outside) (turns : List Turn) (v : View) (turn : Turn) → Agrees v → Rests o turns v → AllowedTurn v turn → is_sort_of_round (sort_of turn) ≡ true → Rests o (turns ++ turn ∷ []) (after_turn v turn)
round-rests o turns v turn a r ok e = by_links a.links
  where
    never : Settled v → (pt : ℕ) → state_in (after_turn v turn).scene.core pt ≡ Off None → EndsNone pt (turns ++ turn ∷ [])
    never s pt is = by-end pt turn ends not
      where
        ends : EndsLink pt turn → EndsNone pt (turns ++ turn ∷ [])
        ends (inl lost) = lost-linked v turn pt None s ok lost is
        ends (inr (inl cut)) = link-never v turn pt a ok (inr (inr cut)) is
        ends (inr (inr failed)) = link-never v turn pt a ok (inr (inl failed)) is

        not : (EndsLink pt turn → ⊥) → EndsNone pt (turns ++ turn ∷ [])
        not never_ends = by_state (turn-state v turn pt a.run ok e)
          where
            by_state : IsOfLink pt turn ⊎ (state_in (after_turn v turn).scene.core pt ≡ state_in v.scene.core pt) → EndsNone pt (turns ++ turn ∷ [])
            by_state (inl of_link) = link-never v turn pt a ok of_link is
            by_state (inr same) = none-more pt turns turn (r.never pt (sym same ∙ is)) never_ends

    states : Settled v → (pt due : ℕ) → state_in (after_turn v turn).scene.core pt ≡ Off (Some due) → HasEnded o (turns ++ turn ∷ []) pt due
    states s pt due is = by-end pt turn ends not
      where
        ends : EndsLink pt turn → HasEnded o (turns ++ turn ∷ []) pt due
        ends (inl lost) = lost-linked v turn pt (Some due) s ok lost is
        ends (inr (inl cut)) = link-ended o turns v turn pt due a r ok (inr (inr cut)) is
        ends (inr (inr failed)) = link-ended o turns v turn pt due a r ok (inr (inl failed)) is

        not : (EndsLink pt turn → ⊥) → HasEnded o (turns ++ turn ∷ []) pt due
        not never_ends = by_state (turn-state v turn pt a.run ok e)
          where
            by_state : IsOfLink pt turn ⊎ (state_in (after_turn v turn).scene.core pt ≡ state_in v.scene.core pt) → HasEnded o (turns ++ turn ∷ []) pt due
            by_state (inl of_link) = link-ended o turns v turn pt due a r ok of_link is
            by_state (inr same) = ended-more o turns turn pt due never_ends (r.states pt due (sym same ∙ is))

    by_turn : Settled (after_turn v turn) ⊎ OrLost v turn → (l : Losing (after_turn v turn)) → HasEnded o (turns ++ turn ∷ []) l.pt ((after_turn v turn).scene.outside.moment + 5)
    by_turn (inl s) l = settled-losing (after_turn v turn) s l
    by_turn (inr (pt, lost, other, same)) l =
        let of_lost : (w : View) → w ≡ after_turn v (Lost pt) → (l : Losing w) → l.pt ≡ pt = λ w is. subst (λ (u : View). (l : Losing u) → l.pt ≡ pt) (sym is) (same-lost v pt) in
        let number : l.pt ≡ pt = of_lost (after_turn v turn) (ap (after_turn v) lost) l in
        ended-now o turns turn l.pt ((after_turn v turn).scene.outside.moment + 5) (inl (lost ∙ ap Lost (sym number)))
        (ap (λ n. n + 5) (ap (λ (o : Outside). o.moment) (after-outside v turn) ∙ turn-moment v.scene.outside turn e ∙ ap (λ (o : Outside). o.moment) r.outside_is))

    by_links : Settled v ⊎ Losing v → Rests o (turns ++ turn ∷ []) (after_turn v turn)
    by_links (inr l) = losing-round v turn l ok e
    by_links (inl s) = record { outside_is = turn-outside o turns v turn r; never = never s; states = states s; losing = by_turn (settled-turn v turn a.run a.ends s ok) }

poll-rests : (o : Outside) (turns : List Turn) (v : View) (now : ℤ) → Agrees v → Rests o turns v → AllowedTurn v (Polled now) → Rests o (turns ++ Polled now ∷ []) (after_turn v (Polled now))
poll-rests o turns v now a r ok =
    let s = polled-settled v a ok.items in
    record {
      outside_is = turn-outside o turns v (Polled now) r;
      never = λ pt is. none-more pt turns (Polled now) (r.never pt is) (no_end pt);
      states = λ pt due is. ended-more o turns (Polled now) pt due (no_end pt) (r.states pt due is);
      losing = λ l. by_turn (settled-turn v (Polled now) a.run a.ends s ok) l;
    }
  where
    no_end : (pt : ℕ) → EndsLink pt (Polled now) → ⊥
    no_end pt ends = no-true (end-tests pt (Polled now) ends)

    by_turn : Settled (after_turn v (Polled now)) ⊎ OrLost v (Polled now) → (l : Losing (after_turn v (Polled now))) → HasEnded o (turns ++ Polled now ∷ []) l.pt ((after_turn v (Polled now)).scene.outside.moment + 5)
    by_turn (inl s) l = settled-losing (after_turn v (Polled now)) s l
    by_turn (inr (pt, lost, other, same)) l = absurd (let n : Polled now ≡ Lost pt = lost in cc)

turn-rests : (o : Outside) (turns : List Turn) (v : View) (turn : Turn) → Agrees v → Rests o turns v → AllowedTurn v turn → is_between turn ≡ false → Rests o (turns ++ turn ∷ []) (after_turn v turn)
turn-rests o turns v (Start setup) a r ok e = absurd (let n : true ≡ false = e in cc)
turn-rests o turns v OpenFailed a r ok e = absurd (let n : true ≡ false = e in cc)
turn-rests o turns v (Polled now) a r ok e = poll-rests o turns v now a r ok
turn-rests o turns v (Opened till) a r ok e = round-rests o turns v (Opened till) a r ok refl
turn-rests o turns v (HeardTill till bytes) a r ok e = round-rests o turns v (HeardTill till bytes) a r ok refl
turn-rests o turns v (Closed till) a r ok e = round-rests o turns v (Closed till) a r ok refl
turn-rests o turns v (HeardPt pt bytes) a r ok e = round-rests o turns v (HeardPt pt bytes) a r ok refl
turn-rests o turns v (Lost pt) a r ok e = round-rests o turns v (Lost pt) a r ok refl
turn-rests o turns v Stopped a r ok e = round-rests o turns v Stopped a r ok refl
turn-rests o turns v (Linked pt) a r ok e = round-rests o turns v (Linked pt) a r ok refl
turn-rests o turns v (LinkFailed pt) a r ok e = round-rests o turns v (LinkFailed pt) a r ok refl
turn-rests o turns v (SentTill till bytes sent) a r ok e = round-rests o turns v (SentTill till bytes sent) a r ok refl
turn-rests o turns v (SentPt pt bytes sent) a r ok e = round-rests o turns v (SentPt pt bytes sent) a r ok refl
turn-rests o turns v (CutTill till) a r ok e = round-rests o turns v (CutTill till) a r ok refl
turn-rests o turns v (CutPt pt) a r ok e = round-rests o turns v (CutPt pt) a r ok refl
turn-rests o turns v (Wrote offset bytes) a r ok e = round-rests o turns v (Wrote offset bytes) a r ok refl
turn-rests o turns v Synced a r ok e = round-rests o turns v Synced a r ok refl
turn-rests o turns v DiskFailed a r ok e = round-rests o turns v DiskFailed a r ok refl
turn-rests o turns v (Crash file) a r ok e = absurd (let n : true ≡ false = e in cc)

-- ---- along a run

pub start-rests : (v : View) (setup : Setup) → Rests (after_turn v (Start setup)).scene.outside [] (after_turn v (Start setup))
start-rests v setup = record {
  outside_is = refl;
  never = λ pt is. tt;
  states = λ pt due is. by_state pt due is (new-state setup.terminals pt);
  losing = λ l. absurd (let n : [] ≡ LinkLost l.pt ∷ l.rest = l.items_are in cc);
}
  where
    by_state : (pt due : ℕ) → state_in (new_core setup) pt ≡ Off (Some due) → (state_in (new_core setup) pt ≡ Absent) ⊎ (state_in (new_core setup) pt ≡ Off None) → HasEnded (after_turn v (Start setup)).scene.outside [] pt due
    by_state pt due is (inl absent) = absurd (let n : Absent ≡ Off (Some due) = sym absent ∙ is in cc)
    by_state pt due is (inr none) = absurd (let n : Off None ≡ Off (Some due) = sym none ∙ is in cc)

pub moves-rest : (o : Outside) (turns : List Turn) (v : View) (moves : List Move) → Agrees v → Rests o turns v → IsCourse v moves → IsQuiet (turns_of moves) → Rests o (turns ++ turns_of moves) (view_from v moves)
moves-rest o turns v [] a r c q = subst (λ l. Rests o l v) (sym (append-nil turns)) r
moves-rest o turns v (Begin ∷ moves) a r c q = moves-rest o turns (after v Begin) moves (move-agrees v Begin a c.0) (begin-rests o turns v a r c.0) c.1 q
moves-rest o turns v (Read as_read ∷ moves) a r c q = moves-rest o turns (after v (Read as_read)) moves (move-agrees v (Read as_read) a c.0) (read-rests o turns v as_read a r c.0) c.1 q
moves-rest o turns v (Make turn ∷ moves) a r c q =
    let rest = moves-rest o (turns ++ turn ∷ []) (after_turn v turn) moves (move-agrees v (Make turn) a c.0) (turn-rests o turns v turn a r c.0 q.0) c.1 q.1 in
    subst (λ l. Rests o l (view_from (after_turn v turn) moves)) (append_assoc turns (turn ∷ []) (turns_of moves)) rest
