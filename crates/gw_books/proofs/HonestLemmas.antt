-- A book that is honest for a past is honest for the past before.
use Rattle.std.proofs.Common.{◌≡◌, ℕ, Bool, true, false, List, [], ◌∷◌, ◌++◌, refl, sym, subst, inl, inr, arith, le-leb, leb-true, eqb-true}
use Rattle.std.proofs.lemmas.Bool.{and_from, and_parts, or_left, or_right}
use Rattle.std.specs.Prelude.{◌⊎◌, ◌≤◌, ◌+◌, ◌==◌, nat_lt, nat_le, ◌||◌, if◌then◌else◌, Option, Some, None, option_to_list}
use Rattle.std.specs.List.{list_any, list_all}
use Rattle.gw_site.specs.declared.turn.Turn.{Turn}
use Rattle.gw_site.specs.declared.turn.Turn.TheVariants.{Start, OpenFailed, Polled, Opened, HeardTill, Closed, HeardPt, Lost, Stopped, Linked, LinkFailed, SentTill, SentPt, CutTill, CutPt, Wrote, Synced, DiskFailed, Crash}
use Rattle.gw_rules.specs.Scene.{Scene}
use Rattle.gw_rules.specs.Stage.{is_round}
use Rattle.gw_rules.specs.View.{View, Move, Begin, Read, Make, after}
use Rattle.gw_books.specs.Kinds.{BookedKind, kind_of_command}
use Rattle.gw_books.specs.Past.{SentCommand, MadeLink, HeardEnd, Past, first_occasion, ends_of, with_sent_command, with_turn, past_after, past_from, numbering_of_number, with_sent_bytes}
use Rattle.gw_books.specs.Books.{BookedEntry, Honest, is_caused, is_cause, is_of_its_link, leaves_entry, is_true}
use Rattle.gw_books.proofs.Holding.{HonestBefore}
use Rattle.gw_books.proofs.ListLemmas.{In, all-in, all-from, any-in, any-from, in-second}

-- ---- a past that has grown

-- a later past has the links and the ends of this one, and no command that is older and not in this one
pub record Grows (past later : Past) : Type 0 where
  pub place : past.place ≤ later.place
  pub commands : (command : SentCommand) → In command later.commands → In command past.commands ⊎ (past.place ≤ command.place)
  pub links : (link : MadeLink) → In link past.links → In link later.links
  pub ends : (end : HeardEnd) → In end past.ends → In end later.ends

-- an entry that has its command later has it now
caused-before : (past later : Past) (entry : BookedEntry) → Grows past later → (cause : Option ℕ) → is_caused later entry cause ≡ true → is_caused past entry cause ≡ true
caused-before past later entry grows None e = e
caused-before past later entry grows (Some place) e =
    let p = and_parts (nat_lt place entry.place) (nat_le later.place place || list_any (is_cause entry place) later.commands) e in
    and_from (nat_lt place entry.place) (nat_le past.place place || list_any (is_cause entry place) past.commands) p.0 (by (nat_le later.place place) refl p.1)
  where
    late : past.place ≤ place → (nat_le past.place place || list_any (is_cause entry place) past.commands) ≡ true
    late h = or_left (nat_le past.place place) (list_any (is_cause entry place) past.commands) (le-leb past.place place h)

    found : (command : SentCommand) → is_cause entry place command ≡ true → In command past.commands ⊎ (past.place ≤ command.place) → (nat_le past.place place || list_any (is_cause entry place) past.commands) ≡ true
    found command f (inl within) = or_right (nat_le past.place place) (list_any (is_cause entry place) past.commands) (any-from (is_cause entry place) past.commands command within f)
    found command f (inr h) = late (subst (λ n. past.place ≤ n) (eqb-true command.place place (and_parts (command.place == place) _ f).0) h)

    by : (b : Bool) → nat_le later.place place ≡ b → (b || list_any (is_cause entry place) later.commands) ≡ true → (nat_le past.place place || list_any (is_cause entry place) past.commands) ≡ true
    by true t f = let h = leb-true later.place place t in late (omega (arith, h, grows.place))
    by false t f = let some = any-in (is_cause entry place) later.commands f in found some.0 some.2 (grows.commands some.0 some.1)

-- an entry that is of its link later is so now
linked-before : (past later : Past) (entry : BookedEntry) → Grows past later → (cause : Option ℕ)
    → list_all (λ place. list_all (leaves_entry entry place) later.links) (option_to_list cause) ≡ true → list_all (λ place. list_all (leaves_entry entry place) past.links) (option_to_list cause) ≡ true
linked-before past later entry grows None e = refl
linked-before past later entry grows (Some place) e =
    let all = (and_parts (list_all (leaves_entry entry place) later.links) true e).0 in
    and_from (list_all (leaves_entry entry place) past.links) true
    (all-from (leaves_entry entry place) past.links (λ link within. all-in (leaves_entry entry place) later.links all link (grows.links link within))) refl

-- a book that is honest later is honest now
pub honest-grown : (past later : Past) (book : List BookedEntry) → Grows past later → Honest later book → Honest past book
honest-grown past later book grows honest = record {
  caused = all-from (λ (entry : BookedEntry). is_caused past entry entry.cause) book
      (λ entry within. caused-before past later entry grows entry.cause (all-in (λ (one : BookedEntry). is_caused later one one.cause) book honest.caused entry within));
  linked = all-from (is_of_its_link past) book (λ entry within. linked-before past later entry grows entry.cause (all-in (is_of_its_link later) book honest.linked entry within));
  ordered = honest.ordered;
  numbered = honest.numbered;
  true_ends = all-from (λ (end : HeardEnd). is_true book end end.ending) past.ends
      (λ end within. all-in (λ (one : HeardEnd). is_true book one one.ending) later.ends honest.true_ends end (grows.ends end within));
}

-- ---- moves

-- the place after one more turn
abbrev one_more : Past → Past → Past
one_more past later = record later { place = past.place + 1 }

-- a past has grown where its commands, links and ends are as they were
as-it-was : (past later : Past) → past.place ≤ later.place → later.commands ≡ past.commands → later.links ≡ past.links → later.ends ≡ past.ends → Grows past later
as-it-was past later place commands links ends = record {
  place = place;
  commands = λ command within. inl (subst (In command) commands within);
  links = λ link within. subst (In link) (sym links) within;
  ends = λ end within. subst (In end) (sym ends) within;
}

turn-grows : (scene : Scene) (past : Past) (turn : Turn) → Grows past (one_more past (with_turn scene past turn))
turn-grows scene past (Start setup) = as-it-was past (one_more past (with_turn scene past (Start setup))) (omega arith) refl refl refl
turn-grows scene past OpenFailed = as-it-was past (one_more past (with_turn scene past OpenFailed)) (omega arith) refl refl refl
turn-grows scene past (Polled now) = as-it-was past (one_more past (with_turn scene past (Polled now))) (omega arith) refl refl refl
turn-grows scene past (Opened till) = as-it-was past (one_more past (with_turn scene past (Opened till))) (omega arith) refl refl refl
turn-grows scene past (HeardTill till bytes) = as-it-was past (one_more past (with_turn scene past (HeardTill till bytes))) (omega arith) refl refl refl
turn-grows scene past (Closed till) = as-it-was past (one_more past (with_turn scene past (Closed till))) (omega arith) refl refl refl
turn-grows scene past (HeardPt pt bytes) = as-it-was past (one_more past (with_turn scene past (HeardPt pt bytes))) (omega arith) refl refl refl
turn-grows scene past (Lost pt) = as-it-was past (one_more past (with_turn scene past (Lost pt))) (omega arith) refl refl refl
turn-grows scene past Stopped = as-it-was past (one_more past (with_turn scene past Stopped)) (omega arith) refl refl refl
turn-grows scene past (Linked pt) = record { place = omega arith; commands = λ command within. inl within; links = λ link within. inr within; ends = λ end within. within }
turn-grows scene past (LinkFailed pt) = as-it-was past (one_more past (with_turn scene past (LinkFailed pt))) (omega arith) refl refl refl
turn-grows scene past (SentTill till bytes sent) = as-it-was past (one_more past (with_turn scene past (SentTill till bytes sent))) (omega arith) refl refl refl
turn-grows scene past (SentPt pt bytes sent) = by (kind_of_command bytes)
  where
    command-sent : (kind : BookedKind) (command : SentCommand) → In command (with_sent_command scene (numbering_of_number scene pt) bytes past kind).commands → In command past.commands ⊎ (past.place ≤ command.place)
    command-sent kind command (inl same) = inr (subst (λ (one : SentCommand). past.place ≤ one.place) (sym same) (omega arith))
    command-sent kind command (inr within) = inl within

    by : (found : Option BookedKind) → Grows past (one_more past (with_sent_bytes scene (numbering_of_number scene pt) bytes past found))
    by (Some kind) = record { place = omega arith; commands = command-sent kind; links = λ link within. within; ends = λ end within. within }
    by None = as-it-was past (one_more past past) (omega arith) refl refl refl
turn-grows scene past (CutTill till) = as-it-was past (one_more past (with_turn scene past (CutTill till))) (omega arith) refl refl refl
turn-grows scene past (CutPt pt) = as-it-was past (one_more past (with_turn scene past (CutPt pt))) (omega arith) refl refl refl
turn-grows scene past (Wrote offset bytes) = by (is_round scene.stage)
  where
    by : (b : Bool) → Grows past (one_more past (if b then record past { deeds = past.occasion ∷ past.deeds } else past))
    by true = as-it-was past (one_more past (record past { deeds = past.occasion ∷ past.deeds })) (omega arith) refl refl refl
    by false = as-it-was past (one_more past past) (omega arith) refl refl refl
turn-grows scene past Synced = as-it-was past (one_more past (with_turn scene past Synced)) (omega arith) refl refl refl
turn-grows scene past DiskFailed = as-it-was past (one_more past (with_turn scene past DiskFailed)) (omega arith) refl refl refl
turn-grows scene past (Crash file) = as-it-was past (one_more past (with_turn scene past (Crash file))) (omega arith) refl refl refl

-- each move lets a past grow
pub move-grows : (v : View) (past : Past) (move : Move) → Grows past (past_after v past move)
move-grows v past Begin = record {
  place = omega arith;
  commands = λ command within. inl within;
  links = λ link within. within;
  ends = λ end within. in-second end (ends_of v.scene past (first_occasion v.scene.core v.items)) past.ends within;
}
move-grows v past (Read as_read) = as-it-was past past (omega arith) refl refl refl
move-grows v past (Make turn) = turn-grows v.scene past turn

pub honest-before : HonestBefore
honest-before v past move book honest = honest-grown past (past_after v past move) book (move-grows v past move) honest

-- ---- courses

-- a book that is honest after moves was honest before them
pub honest-back : (v : View) (past : Past) (moves : List Move) (book : List BookedEntry) → Honest (past_from v past moves) book → Honest past book
honest-back v past [] book honest = honest
honest-back v past (move ∷ moves) book honest = honest-before v past move book (honest-back (after v move) (past_after v past move) moves book honest)

-- a book that is honest after moves was honest after the first of them
pub honest-first : (v : View) (past : Past) (first more : List Move) (book : List BookedEntry) → Honest (past_from v past (first ++ more)) book → Honest (past_from v past first) book
honest-first v past [] more book honest = honest-back v past more book honest
honest-first v past (move ∷ first) more book honest = honest-first (after v move) (past_after v past move) first more book honest
