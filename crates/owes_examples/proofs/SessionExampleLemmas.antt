-- The examples of Login and Logout are computed; of 1,024 pairs what is long is proved of any number.
use Rattle.std.proofs.Common.{◌≡◌, ℕ, zero, suc, ◌≤◌, true, false, length, refl, sym, ap, subst, arith}
use Rattle.std.proofs.lemmas.Slice.Eq.{bytes_eq-Decides}
use Rattle.std.specs.Prelude.{codes}
use Rattle.std.specs.Str.{chars}
use Rattle.gw_ledger.specs.History.{history}
use Rattle.sale_values.specs.declared.request.SaleRequest.TheVariants as requests
use Rattle.zvt_apdu.specs.DecodeStream.{decode_apdus, decode_apdus_within}
use Rattle.zvt_msg.specs.MessageDecode.{decode_pt_message}
use Rattle.gw_owes.specs.PaymentExample.{two_tills}
use Rattle.owes_examples.specs.SessionExample.{ExampleLogoutBesideDay, ExampleManyPairs, ExampleOtherPairs, ExampleSessionAlong, ExampleSessionPremises, ExampleSessions, ExampleUnderLogout, known_full, logout_header, many_pairs, ready_named}
use Rattle.gw_owes.specs.SessionLaws.{IsOneTooMany}
use Rattle.gw_owes.specs.Sessions.{has_pair, most_logged_out}
use Rattle.gw_owes.proofs.SessionLemmas.{each-session-is-replied}

pub sessions : ExampleSessions
unfolding history
sessions = record {
  logout = record { calls_are = refl; standing_is = refl };
  refused = record { calls_are = refl; standing_is = refl };
  login = record { calls_are = refl; standing_is = refl };
  begun = record { calls_are = refl; standing_is = refl };
  twice = record { calls_are = refl; standing_is = refl };
  none_before = record { calls_are = refl; standing_is = refl };
  again = record { calls_are = refl; standing_is = refl };
}

pub other-pairs : ExampleOtherPairs
unfolding history
other-pairs = record {
  same_pair = record { calls_are = refl; standing_is = refl };
  other_sale = record { calls_are = refl; standing_is = refl };
  other_poi = record { calls_are = refl; standing_is = refl };
  other_sale_login = record { calls_are = refl; standing_is = refl };
  other_poi_login = record { calls_are = refl; standing_is = refl };
  unknown_logout = record { calls_are = refl; standing_is = refl };
  unknown_login = record { calls_are = refl; standing_is = refl };
}

-- there are so many
length-many : (n : ℕ) → length (many_pairs n) ≡ n
length-many zero = refl
length-many (suc n) = ap suc (length-many n)

-- `S1` is none of them
none-many : (n : ℕ) → has_pair (many_pairs n) (codes "S1") (codes "T1") ≡ false
none-many zero = refl
none-many (suc n) = none-many n

too-many : IsOneTooMany known_full.core logout_header requests.Logout
too-many = record { logout = refl; new_pair = none-many 1024; full = subst (λ (n : ℕ). most_logged_out ≤ n) (sym (length-many 1024)) (omega arith) }

pub many : ExampleManyPairs
unfolding history
many =
    let replied = each-session-is-replied two_tills known_full 1 logout_header requests.Logout refl refl in
    record {
      one_more = too-many;
      refused = replied.too_many ready_named refl too-many;
      again = record { items_are = refl; no_reply = refl };
      stays = refl;
      login = record { items_are = refl; no_reply = refl };
      payment = record { reply = refl; none_more = refl };
    }

pub under-logout : ExampleUnderLogout
unfolding chars history
under-logout = record {
  repeated = record { calls_are = refl; standing_is = refl };
  in_progress = record { calls_are = refl; standing_is = refl };
  other_content = record { calls_are = refl; standing_is = refl };
  other_type = record { calls_are = refl; standing_is = refl };
  unlinked = record { calls_are = refl; standing_is = refl };
  reversal = record { calls_are = refl; standing_is = refl };
  reconciliation = record { calls_are = refl; standing_is = refl };
  end_of_day = record { calls_are = refl; standing_is = refl };
  diagnosis = record { calls_are = refl; standing_is = refl };
  display = record { calls_are = refl; standing_is = refl };
}

pub logout-beside-day : ExampleLogoutBesideDay
unfolding decode_apdus decode_apdus_within decode_pt_message history
logout-beside-day = record {
  again = record { calls_are = refl; standing_is = refl };
  own_type = record { calls_are = refl; standing_is = refl };
  as_payment = record { calls_are = refl; standing_is = refl };
  other_service = record { calls_are = refl; standing_is = refl };
  stopped = record { calls_are = refl; standing_is = refl };
}

pub session-along : ExampleSessionAlong
session-along = record {
  at_first = record { is_out = refl; last = refl };
  once = record { is_out = refl; last = refl };
  logged_in = record { is_out = refl; last = refl };
  logged_out_again = record { is_out = refl; last = refl };
}

contradicts : false ≡ true → ⊥
contradicts e = cc

pub session-premises : ExampleSessionPremises
unfolding history
session-premises = record {
  there = refl;
  session = refl;
  named = refl;
  found = refl;
  few = λ one. let full : most_logged_out ≤ 0 = one.full in absurd (omega (arith, full));
  payment = record { steps = refl; unknown = refl; named = ready_named; named_is = refl; not_pending = refl; logged_out = refl };
  apart = λ sale poi. contradicts ((bytes_eq-Decides (codes "S2") (codes "S1")).1 sale);
  other_item = refl;
}
