-- The key of a request that waits, or of an end of day that is served, is one of those that wait.
use Rattle.std.proofs.Common.{◌≡◌, ℕ, ◌+◌, Bool, true, false, List, [], ◌∷◌, ◌++◌, refl, sym, subst, inl, inr}
use Rattle.std.specs.Prelude.{◌||◌, map, bytes_eq, is_some, if◌then◌else◌, Option, Some, None}
use Rattle.std.specs.List.{flat_map, list_any}
use Rattle.std.specs.Option.{option_and_then, option_to_list}
use Rattle.gw_base.specs.declared.key.Key.{Key}
use Rattle.sale_values.specs.declared.header.Header.{Header}
use Rattle.jrn_record.specs.declared.records.Record.{Record}
use Rattle.gw_ledger.specs.Keys.{is_key, same_key}
use Rattle.gw_owes.specs.declared.terminal.Terminal.{Terminal}
use Rattle.gw_owes.specs.Core.{Core, Wait}
use Rattle.gw_owes.specs.Days.{day_served, has_key, is_day_served, named_serves_day}
use Rattle.gw_owes.specs.Diagnosis.{named_from}
use Rattle.gw_owes.specs.KeptReplies.{own_key}
use Rattle.gw_owes.specs.Waits.{is_pending, waiting_with}
use Rattle.gw_books.specs.Past.{Occasion, day_key_of, waiting_keys}
use Rattle.gw_books.specs.Said.{Said}
use Rattle.gw_books.proofs.Holding.{IsSaidTrue}
use Rattle.gw_books.proofs.ListLemmas.{In, any-from, any-in, in-first, in-second}

-- the key of the end of day that this terminal serves
day-of : (key : Key) (served : Option Header) → has_key key served ≡ true → list_any (same_key key) (option_to_list (option_and_then own_key served)) ≡ true
day-of key None serves = absurd cc
day-of key (Some header) serves = by-key (own_key header) serves
  where
    by-key : (own : Option Key) → is_key key own ≡ true → list_any (same_key key) (option_to_list own) ≡ true
    by-key None is = absurd cc
    by-key (Some other) is = rw is refl

-- some of the first list pass, or of the second
first-passes : (key : Key) (first second : List Key) → list_any (same_key key) first ≡ true → list_any (same_key key) (first ++ second) ≡ true
first-passes key first second some = let one = any-in (same_key key) first some in any-from (same_key key) (first ++ second) one.0 (in-first one.0 first second one.1) one.2

second-passes : (key : Key) (first second : List Key) → list_any (same_key key) second ≡ true → list_any (same_key key) (first ++ second) ≡ true
second-passes key first second some = let one = any-in (same_key key) second some in any-from (same_key key) (first ++ second) one.0 (in-second one.0 first second one.1) one.2

-- where the terminal that is named serves the end of day of this key
named-waits : (key : Key) (number : ℕ) (poi : List ℕ) (terminals : List Terminal) → named_serves_day key (named_from number poi terminals) ≡ true
    → list_any (same_key key) (flat_map (λ (terminal : Terminal). option_to_list (day_key_of terminal)) terminals) ≡ true
named-waits key number poi [] serves = absurd cc
named-waits key number poi (terminal ∷ terminals) serves = by-test (bytes_eq terminal.pt.poi poi) serves (named-waits key (number + 1) poi terminals)
  where
    by-test : (b : Bool) → named_serves_day key (if b then Some (record { number = number; terminal = terminal }) else named_from (number + 1) poi terminals) ≡ true
        → (named_serves_day key (named_from (number + 1) poi terminals) ≡ true → list_any (same_key key) (flat_map (λ (one : Terminal). option_to_list (day_key_of one)) terminals) ≡ true)
        → list_any (same_key key) (option_to_list (day_key_of terminal) ++ flat_map (λ (one : Terminal). option_to_list (day_key_of one)) terminals) ≡ true
    by-test true here more = first-passes key (option_to_list (day_key_of terminal)) (flat_map (λ (one : Terminal). option_to_list (day_key_of one)) terminals) (day-of key (day_served terminal.standing) here)
    by-test false there more = second-passes key (option_to_list (day_key_of terminal)) (flat_map (λ (one : Terminal). option_to_list (day_key_of one)) terminals) (more there)

-- so the key of an end of day that is served waits
pub day-waits : (core : Core) (key : Key) → is_day_served core key ≡ true → list_any (same_key key) (waiting_keys core) ≡ true
day-waits core key serves = second-passes key (map (λ (wait : Wait). wait.key) core.waits) (flat_map (λ (terminal : Terminal). option_to_list (day_key_of terminal)) core.terminals) (named-waits key 0 key.poi core.terminals serves)

-- a key under which something waits is that of one that does
any-waiting : (key : Key) (waits : List Wait) → is_some (waiting_with key waits) ≡ true → list_any (same_key key) (map (λ (wait : Wait). wait.key) waits) ≡ true
any-waiting key [] is = absurd cc
any-waiting key (wait ∷ waits) is = by-first (same_key key wait.key) (any-waiting key waits) is
  where
    by-first : (first : Bool) → (is_some (waiting_with key waits) ≡ true → list_any (same_key key) (map (λ (one : Wait). one.key) waits) ≡ true) → is_some (if first then Some wait else waiting_with key waits) ≡ true
        → (first || list_any (same_key key) (map (λ (one : Wait). one.key) waits)) ≡ true
    by-first true later found = refl
    by-first false later found = later found

pub waiting-waits : (core : Core) (key : Key) → is_some (waiting_with key core.waits) ≡ true → list_any (same_key key) (waiting_keys core) ≡ true
waiting-waits core key is = first-passes key (map (λ (wait : Wait). wait.key) core.waits) (flat_map (λ (terminal : Terminal). option_to_list (day_key_of terminal)) core.terminals) (any-waiting key core.waits is)

-- so is a key that is pending
pub pending-waits : (core : Core) (key : Key) → is_pending core key ≡ true → list_any (same_key key) (waiting_keys core) ≡ true
pending-waits core key is = by-day (is_day_served core key) refl is
  where
    by-day : (day : Bool) → is_day_served core key ≡ day → (day || is_some (waiting_with key core.waits)) ≡ true → list_any (same_key key) (waiting_keys core) ≡ true
    by-day true serves e = day-waits core key serves
    by-day false serves e = waiting-waits core key e

-- what alone is said is true
pub single-true : (records : List Record) (waiting : List Key) (occasion : Occasion) (one said : Said) → IsSaidTrue records waiting occasion one → In said (one ∷ []) → IsSaidTrue records waiting occasion said
single-true records waiting occasion one said holds (inl same) = subst (IsSaidTrue records waiting occasion) (sym same) holds
single-true records waiting occasion one said holds (inr none) = absurd none
