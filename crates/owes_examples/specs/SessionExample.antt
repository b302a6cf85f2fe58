-- Closed examples of Login and Logout: what tills get, and who is logged out.
use Rattle.std.specs.Prelude.{◌≡◌, ℕ, zero, suc, ◌+◌, ◌/◌, ◌%◌, Bool, true, false, List, [], ◌∷◌, ◌++◌, Some, None, codes}
use Rattle.gw_base.specs.declared.condition.Condition.TheVariants as conditions
use Rattle.gw_base.specs.declared.setup.Pt.{Pt}
use Rattle.gw_site.specs.Outside.{is_connected}
use Rattle.sale_values.specs.declared.header.Header.{Header}
use Rattle.sale_values.specs.declared.names.Period.TheVariants.{SaleReconciliation, AcquirerReconciliation}
use Rattle.sale_values.specs.declared.request.SaleRequest.TheVariants as requests
use Rattle.sale_reply.specs.declared.reply.GlobalStatus.TheVariants as status
use Rattle.xlate.specs.Display.{show_lines}
use Rattle.gw_owes.specs.declared.terminal.LoggedOut.{LoggedOut}
use Rattle.gw_owes.specs.declared.terminal.Service.TheVariants.{Transaction, EndOfDay, Display}
use Rattle.gw_owes.specs.declared.terminal.Standing.TheVariants.{Ready, Serving, Unlinked}
use Rattle.gw_owes.specs.declared.terminal.Terminal.{Terminal}
use Rattle.owes_examples.specs.AbortExample.{header_to_show, since_abort, since_display, stopped_once}
use Rattle.gw_owes.specs.Calls.{Ask, OwedCall, SendPt, SendTill}
use Rattle.gw_owes.specs.Core.{no_core, new_terminal}
use Rattle.gw_owes.specs.Diagnosis.{NamedTerminal, named_terminal}
use Rattle.gw_owes.specs.Items.{Asked, Due, Serve}
use Rattle.gw_owes.specs.Links.{LinkIsMade, LinkIsLost}
use Rattle.gw_owes.specs.PaymentExample.{Since, ComesTo, approved_reply, ask_of, begun_calls, payment_failure, since_asked, since_begun, since_linked, since_payment, since_ready, since_sent, till_header, two_tills}
use Rattle.owes_examples.specs.PaymentExample.{header_of_day, ready_terminal, since_day_begun}
use Rattle.gw_owes.specs.PaymentLaws.{BeginsThere}
use Rattle.gw_owes.specs.ReadAs.{Request}
use Rattle.gw_owes.specs.Reply.{ReplyValue, Diagnosis}
use Rattle.gw_owes.specs.Replies.{header_of_reply, failure_reply}
use Rattle.owes_examples.specs.ReversalExample.{paid_text, reversal_failure, since_paid, since_reversal}
use Rattle.gw_owes.specs.Row.{Known}
use Rattle.gw_owes.specs.Rows.{row_of}
use Rattle.gw_owes.specs.SessionLaws.{IsOneTooMany, FailsAlone, IsOfLoggedOut, last_logs_out, serves_session}
use Rattle.gw_owes.specs.SessionRows.{success_reply}
use Rattle.gw_owes.specs.Sessions.{is_logged_out, is_session}
use Rattle.gw_owes.specs.TerminalExample.{ack, one_pt, setup_with}
use Rattle.gw_owes.specs.Terminals.{terminal_at}
use Rattle.gw_owes.specs.Transcript.{HandlesItem, ChangesLink, StepAt, core_along, known_new}

-- ---- what a till asks

-- the header of a Login or a Logout of this SaleID at this POIID, by category
abbrev pub session_header : List ℕ → List ℕ → List ℕ → Header
session_header category sale poi = record (till_header category (codes "7")) { sale = sale; poi = poi }

-- after till 1 asks for a Logout of this SaleID at this POIID
abbrev pub since_logout_of : List ℕ → List ℕ → Since → Since
since_logout_of sale poi since = since_asked 1 (session_header (codes "Logout") sale poi) requests.Logout since

-- and for a Login
abbrev pub since_login_of : List ℕ → List ℕ → Since → Since
since_login_of sale poi since = since_asked 1 (session_header (codes "Login") sale poi) requests.Login since

-- the header of a Logout of SaleID `S1` at POIID `T1`
abbrev pub logout_header : Header
logout_header = session_header (codes "Logout") (codes "S1") (codes "T1")

-- after till 1 asks for it
abbrev pub since_logout : Since → Since
since_logout since = since_logout_of (codes "S1") (codes "T1") since

-- and for a Login of them
abbrev pub since_login : Since → Since
since_login since = since_login_of (codes "S1") (codes "T1") since

-- the Success that the Logout gets
abbrev pub logout_success : OwedCall
logout_success = SendTill 1 (success_reply logout_header)

-- and the Login
abbrev pub login_success : OwedCall
login_success = SendTill 1 (success_reply (session_header (codes "Login") (codes "S1") (codes "T1")))

-- after till 1 asks for a payment of 10.99 of SaleID `S1` at POIID `T1`, with ServiceID 1
abbrev pub since_asking : Since → Since
since_asking since = since_payment 1 (codes "1") 1099 since

-- the Failure that it gets where they are logged out
abbrev pub logged_out_failure : OwedCall
logged_out_failure = SendTill 1 (payment_failure (codes "1") conditions.LoggedOut)

-- what is known, with nothing owed yet
abbrev pub since_then : Since → Since
since_then since = record since { calls = [] }

-- ---- what comes of it

-- after a Logout a payment fails, and after a Login it is begun, also where a Logout came twice before it, or none
pub record ExampleSessions : Type 0 where
  pub logout : ComesTo (since_logout (since_ready 0)) (logout_success ∷ []) (Ready 0)
  pub refused : ComesTo (since_asking (since_logout (since_ready 0))) (logout_success ∷ logged_out_failure ∷ []) (Ready 0)
  pub login : ComesTo (since_login (since_asking (since_logout (since_ready 0)))) (logout_success ∷ logged_out_failure ∷ login_success ∷ []) (Ready 0)
  pub begun : ComesTo (since_asking (since_login (since_logout (since_ready 0)))) (logout_success ∷ login_success ∷ begun_calls 0) (Serving (Transaction 0) 0)
  pub twice : ComesTo (since_asking (since_login (since_logout (since_logout (since_ready 0))))) (logout_success ∷ logout_success ∷ login_success ∷ begun_calls 0) (Serving (Transaction 0) 0)
  pub none_before : ComesTo (since_asking (since_login (since_ready 0))) (login_success ∷ begun_calls 0) (Serving (Transaction 0) 0)
  pub again : ComesTo (since_asking (since_logout (since_login (since_ready 0)))) (login_success ∷ logout_success ∷ logged_out_failure ∷ []) (Ready 0)

-- ---- other pairs

-- a second terminal, `T2`
abbrev pub second_pt : Pt
second_pt = record one_pt { poi = codes "T2" }

-- this terminal is ready
abbrev pub terminal_ready : Pt → Terminal
terminal_ready pt = record (new_terminal pt) { standing = Ready 0 }

-- a gateway with both, which are ready
abbrev pub since_both : Since
since_both = record {
  known = record (since_ready 0).known { setup = setup_with (one_pt ∷ second_pt ∷ []); core = record no_core { terminals = terminal_ready one_pt ∷ terminal_ready second_pt ∷ [] } };
  calls = [];
}

-- the Logout of another SaleID at the same POIID, and of the same SaleID at another, leaves a till as it was, and so does another's Login; at a POIID that isn't configured both fail
pub record ExampleOtherPairs : Type 0 where
  pub same_pair : ComesTo (since_asking (since_then (since_logout since_both))) (logged_out_failure ∷ []) (Ready 0)
  pub other_sale : ComesTo (since_asking (since_then (since_logout_of (codes "S2") (codes "T1") since_both))) (begun_calls 0) (Serving (Transaction 0) 0)
  pub other_poi : ComesTo (since_asking (since_then (since_logout_of (codes "S1") (codes "T2") since_both))) (begun_calls 0) (Serving (Transaction 0) 0)
  pub other_sale_login : ComesTo (since_asking (since_then (since_login_of (codes "S2") (codes "T1") (since_logout since_both)))) (logged_out_failure ∷ []) (Ready 0)
  pub other_poi_login : ComesTo (since_asking (since_then (since_login_of (codes "S1") (codes "T2") (since_logout since_both)))) (logged_out_failure ∷ []) (Ready 0)
  pub unknown_logout :
      ComesTo (since_logout_of (codes "S1") (codes "T3") since_both) (SendTill 1 (failure_reply (session_header (codes "Logout") (codes "S1") (codes "T3")) conditions.UnavailableDevice) ∷ []) (Ready 0)
  pub unknown_login :
      ComesTo (since_login_of (codes "S1") (codes "T3") since_both) (SendTill 1 (failure_reply (session_header (codes "Login") (codes "S1") (codes "T3")) conditions.UnavailableDevice) ∷ []) (Ready 0)

-- ---- as many pairs as may be

-- so many pairs at POIID `T1`: the SaleIDs are `#` and two characters, from `0` to `O`
abbrev pub many_pairs : ℕ → List LoggedOut
many_pairs zero = []
many_pairs (suc n) = record { sale = 0x23 ∷ (n / 32 + 48) ∷ (n % 32 + 48) ∷ []; poi = codes "T1" } ∷ many_pairs n

-- what is known while these are logged out
abbrev pub known_full : Known
known_full = record (since_ready 122).known { core = record (since_ready 122).known.core { logged_out = many_pairs 1024 } }

-- a Logout of one of them
abbrev pub known_header : Header
known_header = session_header (codes "Logout") (codes "#OO") (codes "T1")

-- one more fails, one of them succeeds again and changes nothing, and a Login is served; the payment of one of them fails
pub record ExampleManyPairs : Type 0 where
  pub one_more : IsOneTooMany known_full.core logout_header requests.Logout
  pub refused : FailsAlone 1 logout_header conditions.UnavailableService (row_of two_tills known_full (Asked 1 (Request logout_header requests.Logout)))
  pub again : BeginsThere 1 known_header requests.Logout 0 (row_of two_tills known_full (Asked 1 (Request known_header requests.Logout)))
  pub stays : (row_of two_tills known_full (Serve 0 1 known_header requests.Logout)).core.logged_out ≡ many_pairs 1024
  pub login : BeginsThere 1 logout_header requests.Login 0 (row_of two_tills known_full (Asked 1 (Request logout_header requests.Login)))
  pub payment :
      FailsAlone 1 (record (till_header (codes "Payment") (codes "1")) { sale = codes "#OO" }) conditions.LoggedOut
      (row_of two_tills known_full (Asked 1 (Request (record (till_header (codes "Payment") (codes "1")) { sale = codes "#OO" }) (requests.Payment (ask_of 1099)))))

-- ---- a till that is logged out

-- after till 1 asks for a payment of 10.99 of another type
abbrev pub since_refund : Since → Since
since_refund since = since_asked 1 (till_header (codes "Payment") (codes "1")) (requests.Payment (record (ask_of 1099) { kind = Some (codes "Refund") })) since

-- a repeat gets its kept reply, one that is open is in progress, and other content isn't allowed; a type that isn't served, a terminal that isn't linked, a reversal and reconciliations all fail with `LoggedOut`; a Diagnosis has its status, and a Display begins
pub record ExampleUnderLogout : Type 0 where
  pub repeated : ComesTo (since_asking (since_logout since_paid)) (logout_success ∷ SendTill 1 (approved_reply 1099) ∷ []) (Ready 123)
  pub in_progress : ComesTo (since_asking (since_logout (since_begun 0))) (begun_calls 0 ++ logout_success ∷ SendTill 1 (payment_failure (codes "1") conditions.InProgress) ∷ []) (Serving (Transaction 0) 0)
  pub other_content : ComesTo (since_payment 1 (codes "1") 500 (since_then (since_logout since_paid))) (SendTill 1 (payment_failure (codes "1") conditions.NotAllowed) ∷ []) (Ready 123)
  pub other_type : ComesTo (since_refund (since_then (since_logout (since_ready 0)))) (logged_out_failure ∷ []) (Ready 0)
  pub unlinked : ComesTo (since_asking (since_then (since_linked LinkIsLost (since_logout (since_ready 0))))) (logged_out_failure ∷ []) (Unlinked (Some 1741342269))
  pub reversal : ComesTo (since_reversal (codes "2") paid_text None (since_then (since_logout since_paid))) (SendTill 1 (reversal_failure (codes "2") conditions.LoggedOut) ∷ []) (Ready 123)
  pub reconciliation :
      ComesTo (since_asked 1 (till_header (codes "Reconciliation") (codes "2")) (requests.Reconciliation SaleReconciliation) (since_then (since_logout since_paid)))
      (SendTill 1 (failure_reply (till_header (codes "Reconciliation") (codes "2")) conditions.LoggedOut) ∷ []) (Ready 123)
  pub end_of_day :
      ComesTo (since_asked 1 (till_header (codes "Reconciliation") (codes "2")) (requests.Reconciliation AcquirerReconciliation) (since_then (since_logout since_paid)))
      (SendTill 1 (failure_reply (till_header (codes "Reconciliation") (codes "2")) conditions.LoggedOut) ∷ []) (Ready 123)
  pub diagnosis :
      ComesTo (since_asked 1 (till_header (codes "Diagnosis") (codes "2")) requests.Diagnosis (since_then (since_logout since_paid)))
      (SendTill 1 (Diagnosis (header_of_reply (till_header (codes "Diagnosis") (codes "2"))) status.Ready) ∷ []) (Ready 123)
  pub display : ComesTo (since_display (since_then (since_logout (since_ready 122)))) (SendPt 0 (Ask (show_lines (codes "HELLO" ∷ []))) ∷ []) (Serving (Display header_to_show None) 122)

-- what is known once the till is logged out while the end of day with ServiceID 1 is served, with nothing owed yet
abbrev pub since_logout_beside_day : Since
since_logout_beside_day = since_then (since_logout since_day_begun)

-- this comes of what a till asks then: a Failure for this reason, and the end of day is served as before
abbrev pub FailsUnderLogout : Since → ReplyValue → Type 0
FailsUnderLogout since reply = ComesTo since (SendTill 1 reply ∷ []) (Serving (EndOfDay header_of_day AcquirerReconciliation) 122)

-- An end of day that is served is in progress for a till that is logged out too, and its key isn't allowed for anything else; another key fails with `LoggedOut`. It may be aborted.
pub record ExampleLogoutBesideDay : Type 0 where
  pub again : FailsUnderLogout (since_asked 1 header_of_day (requests.Reconciliation AcquirerReconciliation) since_logout_beside_day) (failure_reply header_of_day conditions.InProgress)
  pub own_type : FailsUnderLogout (since_asked 1 header_of_day (requests.Reconciliation SaleReconciliation) since_logout_beside_day) (failure_reply header_of_day conditions.NotAllowed)
  pub as_payment : FailsUnderLogout (since_asking since_logout_beside_day) (payment_failure (codes "1") conditions.NotAllowed)
  pub other_service : FailsUnderLogout (since_payment 1 (codes "2") 1099 since_logout_beside_day) (payment_failure (codes "2") conditions.LoggedOut)
  pub stopped : ComesTo (since_abort (codes "1") (since_then (since_sent ack since_logout_beside_day))) stopped_once (Serving (EndOfDay header_of_day AcquirerReconciliation) 122)

-- ---- along a run

-- the Logout is served at this moment
abbrev pub logs_out_at : ℕ → StepAt
logs_out_at moment = record { moment = moment; step = HandlesItem (Serve 0 1 logout_header requests.Logout) }

-- and the Login
abbrev pub logs_in_at : ℕ → StepAt
logs_in_at moment = record { moment = moment; step = HandlesItem (Serve 0 1 (session_header (codes "Login") (codes "S1") (codes "T1")) requests.Login) }

-- the terminal is linked at this moment
abbrev pub links_at : ℕ → StepAt
links_at moment = record { moment = moment; step = ChangesLink 0 LinkIsMade }

-- these steps leave `S1` logged out at `T1`, or not, as the last of them say
pub record LeavesLoggedOut (steps : List StepAt) (out : Bool) : Type 0 where
  pub is_out : is_logged_out (core_along (known_new (setup_with (one_pt ∷ [])) []) steps) (codes "S1") (codes "T1") ≡ out
  pub last : last_logs_out (codes "S1") (codes "T1") (known_new (setup_with (one_pt ∷ [])) []) false steps ≡ out

-- nobody is logged out as a run begins; then the last Logout or Login decides, whatever becomes of the link
pub record ExampleSessionAlong : Type 0 where
  pub at_first : LeavesLoggedOut [] false
  pub once : LeavesLoggedOut (logs_out_at 1 ∷ links_at 2 ∷ []) true
  pub logged_in : LeavesLoggedOut (logs_out_at 1 ∷ links_at 2 ∷ logs_out_at 3 ∷ logs_in_at 4 ∷ []) false
  pub logged_out_again : LeavesLoggedOut (logs_out_at 1 ∷ logs_in_at 2 ∷ logs_out_at 3 ∷ []) true

-- ---- premises

-- the terminal, named
abbrev pub ready_named : NamedTerminal
ready_named = record { number = 0; terminal = ready_terminal }

-- till 1 is there, and its Logout is served; after it its payment is of a till that is logged out; another SaleID is another pair; and what is due at a terminal is no Login or Logout
pub record ExampleSessionPremises : Type 0 where
  pub there : is_connected two_tills 1 ≡ true
  pub session : is_session requests.Logout ≡ true
  pub named : named_terminal (since_ready 122).known.core (codes "T1") ≡ Some ready_named
  pub found : terminal_at (since_ready 122).known 0 ≡ Some ready_terminal
  pub few : IsOneTooMany (since_ready 122).known.core logout_header requests.Logout → ⊥
  pub payment : IsOfLoggedOut (since_then (since_logout (since_ready 122))).known (till_header (codes "Payment") (codes "1")) (requests.Payment (ask_of 1099))
  pub apart : codes "S2" ≡ logout_header.sale → codes "T1" ≡ logout_header.poi → ⊥
  pub other_item : serves_session (Due 0) ≡ false
