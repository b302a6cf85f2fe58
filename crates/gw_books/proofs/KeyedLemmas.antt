-- Keys that are one, commands by their places, and the command that an entry's key comes from.
use Rattle.std.proofs.Common.{◌≡◌, ◌∙◌, ℕ, ◌<◌, true, List, [], ◌∷◌, map, refl, sym, ap, subst, inl, inr, arith, eqb-true, eq-eqb, ne_eqb}
use Rattle.std.proofs.lemmas.Bool.{and_from, cond-true, cond-false, false_from_ne_true, not_from_false}
use Rattle.std.proofs.lemmas.Cmp.{tied_itself}
use Rattle.std.specs.Ordering.{is_eq}
use Rattle.std.specs.Prelude.{◌==◌, not, find, Option, Some, None, option_to_list, option_and_then}
use Rattle.std.specs.List.{list_any, list_all}
use Rattle.gw_base.specs.Key.{key_cmp}
use Rattle.gw_base.specs.declared.key.Key.{Key}
use Rattle.gw_base.proofs.KeyLemmas.{key_cmp-ties}
use Rattle.gw_ledger.specs.Keys.{is_key, same_key}
use Rattle.gw_ledger.proofs.KeyTableLemmas.{key_total}
use Rattle.gw_ledger.proofs.TieLemmas.{is_equal}
use Rattle.gw_books.specs.Past.{SentCommand, Past}
use Rattle.gw_books.specs.Books.{BookedEntry}
use Rattle.gw_books.specs.Agrees.{key_at_place, entry_key, are_distinct_keys}
use Rattle.gw_books.proofs.Holding.{AreFalling}
use Rattle.gw_books.proofs.ListLemmas.{In, any-in, found-in}

-- ---- keys

-- keys that pass for the same are
pub keys-are : (key other : Key) → same_key key other ≡ true → key ≡ other
keys-are key other e = (key_cmp-ties key other).0 (is_equal (key_cmp key other) e)

-- a key passes for the same as itself
pub key-itself : (key : Key) → same_key key key ≡ true
key-itself key = ap is_eq (tied_itself key_total key)

pub is-key-is : (key : Key) (own : Option Key) → is_key key own ≡ true → own ≡ Some key
is-key-is key None e = cc
is-key-is key (Some other) e = ap Some (sym (keys-are key other e))

pub is-key-itself : (key : Key) (own : Option Key) → own ≡ Some key → is_key key own ≡ true
is-key-itself key own same = ap (is_key key) same ∙ key-itself key

-- ---- distinct keys

-- what comes from a list comes from one in it
from-one : {A B : Type 0} (f : A → B) (list : List A) (y : B) → In y (map f list) → (x : A) × In x list × (y ≡ f x)
from-one f [] y within = absurd within
from-one f (x ∷ list) y (inl same) = (x, inl refl, same)
from-one f (x ∷ list) y (inr within) = let found = from-one f list y within in (found.0, inr found.1, found.2)

-- no two of them have one key
abbrev pub AreApart : {A : Type 0} → (A → Option Key) → List A → Type 0
AreApart f [] = Unit {0}
AreApart {A} f (x ∷ list) = ((y : A) → In y list → (key : Key) → f x ≡ Some key → f y ≡ Some key → ⊥) × AreApart f list

pub apart-distinct : {A : Type 0} (f : A → Option Key) (list : List A) → AreApart f list → are_distinct_keys (map f list) ≡ true
apart-distinct f [] apart = refl
apart-distinct {A} f (x ∷ list) apart =
    and_from (list_all (λ key. not (list_any (is_key key) (map f list))) (option_to_list (f x))) (are_distinct_keys (map f list)) (by (f x) refl) (apart-distinct f list apart.1)
  where
    none : (key : Key) → f x ≡ Some key → list_any (is_key key) (map f list) ≡ true → ⊥
    none key e g =
        let own = any-in (is_key key) (map f list) g in
        let found = from-one f list own.0 own.1 in
        apart.0 found.0 found.1 key e (sym found.2 ∙ is-key-is key own.0 own.2)

    by : (key : Option Key) → f x ≡ key → list_all (λ key. not (list_any (is_key key) (map f list))) (option_to_list key) ≡ true
    by None e = refl
    by (Some key) e =
        and_from (not (list_any (is_key key) (map f list))) true (not_from_false (list_any (is_key key) (map f list)) (false_from_ne_true (list_any (is_key key) (map f list)) (none key e))) refl

-- ---- commands by their places

-- a command was sent before the place from which they fall
pub sent-below : (place : ℕ) (commands : List SentCommand) → AreFalling place commands → (command : SentCommand) → In command commands → command.place < place
sent-below place [] falling command within = absurd within
sent-below place (first ∷ commands) falling command (inl same) = subst (λ (one : SentCommand). one.place < place) (sym same) falling.0
sent-below place (first ∷ commands) falling command (inr within) =
    let h = sent-below first.place commands falling.1 command within in
    let g = falling.0 in
    omega (arith, h, g)

-- commands that were sent at one place are one
pub sent-same : (place : ℕ) (commands : List SentCommand) → AreFalling place commands → (one other : SentCommand) → In one commands → In other commands → one.place ≡ other.place → one ≡ other
sent-same place [] falling one other first second e = absurd first
sent-same place (command ∷ commands) falling one other (inl same) (inl also) e = same ∙ sym also
sent-same place (command ∷ commands) falling one other (inl same) (inr within) e =
    let h = sent-below command.place commands falling.1 other within in
    let g : one.place ≡ command.place = ap (λ (c : SentCommand). c.place) same in
    absurd (omega (arith, h, g, e))
sent-same place (command ∷ commands) falling one other (inr within) (inl same) e =
    let h = sent-below command.place commands falling.1 one within in
    let g : other.place ≡ command.place = ap (λ (c : SentCommand). c.place) same in
    absurd (omega (arith, h, g, e))
sent-same place (command ∷ commands) falling one other (inr first) (inr second) e = sent-same command.place commands falling.1 one other first second e

-- a command that was sent is the one that is found at its place
pub sent-found : (place : ℕ) (commands : List SentCommand) → AreFalling place commands → (command : SentCommand) → In command commands → find (λ (one : SentCommand). one.place == command.place) commands ≡ Some command
sent-found place [] falling command within = absurd within
sent-found place (first ∷ commands) falling command (inl same) =
    let g : first.place ≡ command.place = ap (λ (c : SentCommand). c.place) (sym same) in
    cond-true (first.place == command.place) (Some first) (find (λ (one : SentCommand). one.place == command.place) commands) (eq-eqb first.place command.place g) ∙ ap Some (sym same)
sent-found place (first ∷ commands) falling command (inr within) =
    let h = sent-below first.place commands falling.1 command within in
    cond-false (first.place == command.place) (Some first) (find (λ (one : SentCommand). one.place == command.place) commands) (ne_eqb first.place command.place (λ e. omega (arith, h, e)))
    ∙ sent-found first.place commands falling.1 command within

-- the key of the command that was sent at a place
pub key-sent : (place : ℕ) (commands : List SentCommand) → AreFalling place commands → (command : SentCommand) → In command commands → key_at_place commands command.place ≡ command.key
key-sent place commands falling command within = ap (option_and_then (λ (one : SentCommand). one.key)) (sent-found place commands falling command within)

-- ---- the key of an entry

-- the entry's cause is a command that was sent for the key
pub record IsCausedFor (past : Past) (entry : BookedEntry) (key : Key) : Type 0 where
  pub command : SentCommand
  pub sent : In command past.commands
  pub key_is : command.key ≡ Some key
  pub cause_is : entry.cause ≡ Some command.place

-- an entry with a key has its command
pub caused-for : (past : Past) (entry : BookedEntry) (key : Key) → entry_key past entry ≡ Some key → IsCausedFor past entry key
caused-for past entry key e = by_cause entry.cause refl e
  where
    by_command : (place : ℕ) → entry.cause ≡ Some place → (found : Option SentCommand) → find (λ (one : SentCommand). one.place == place) past.commands ≡ found
        → option_and_then (λ (one : SentCommand). one.key) found ≡ Some key → IsCausedFor past entry key
    by_command place c None f g = cc
    by_command place c (Some command) f g =
        let p = found-in (λ (one : SentCommand). one.place == place) past.commands command f in
        record { command = command; sent = p.0; key_is = g; cause_is = c ∙ ap Some (sym (eqb-true command.place place p.1)) }

    by_cause : (cause : Option ℕ) → entry.cause ≡ cause → option_and_then (key_at_place past.commands) cause ≡ Some key → IsCausedFor past entry key
    by_cause None c f = cc
    by_cause (Some place) c f = by_command place c (find (λ (one : SentCommand). one.place == place) past.commands) refl f
