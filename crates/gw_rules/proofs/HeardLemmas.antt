-- What was heard in a lawful log is bytes, and what newly heard bytes bring.
use Rattle.std.proofs.Common.{◌≡◌, ℕ, List, [], ◌∷◌, ◌++◌, refl, sym, subst, true, false}
use Rattle.std.specs.Prelude.{Bool, ◌==◌}
use Rattle.gw_bytes.specs.Bytes.{AreBytes}
use Rattle.gw_site.specs.Outside.{Connection, Outside, without, hears, heard_on, new_connection, outside_after, outside_of}
use Rattle.gw_site.specs.declared.turn.Turn.{Turn}
use Rattle.gw_site.specs.declared.turn.Turn.TheVariants.{Start, OpenFailed, Polled, Opened, HeardTill, Closed, HeardPt, Lost, Stopped, Linked, LinkFailed, SentTill, SentPt, CutTill, CutPt, Wrote, Synced, DiskFailed, Crash}
use Rattle.sale_frame.specs.Grammar.{Frames}
use Rattle.gw_owes.specs.Events.{till_bytes_items, pt_bytes_items}
use Rattle.zvt_apdu.specs.Stream.{SpellsApdus}
use Rattle.gw_owes.proofs.ApduLemmas.{pt-bytes-give}
use Rattle.gw_owes.proofs.FrameLemmas.{till-bytes-give}
use Rattle.gw_rules.specs.Laws.{HeardAreBytes, EachHeardIsBytes, TillBytesBring, PtBytesBring}
use Rattle.gw_rules.specs.Lawful.{AllowedTurn, IsCourse, Stands}
use Rattle.gw_rules.specs.View.{View, Move, Begin, Read, Make, after, after_turn, view_from, at_first}
use Rattle.gw_rules.proofs.CourseLemmas.{begin-outside, after-outside, stands-outside}

-- what was heard on each of these connections is bytes
abbrev pub HaveBytes : List Connection → Type 0
HaveBytes [] = Unit {0}
HaveBytes (connection ∷ connections) = AreBytes connection.heard × HaveBytes connections

-- what was heard of the tills and the terminals is bytes
pub record HeardBytes (o : Outside) : Type 0 where
  pub tills : HaveBytes o.tills
  pub links : HaveBytes o.links

pub bytes-append : (bytes more : List ℕ) → AreBytes bytes → AreBytes more → AreBytes (bytes ++ more)
bytes-append [] more h k = k
bytes-append (byte ∷ bytes) more h k = (h.0, bytes-append bytes more h.1 k)

have-hears : (connections : List Connection) (number : ℕ) (bytes : List ℕ) → HaveBytes connections → AreBytes bytes → HaveBytes (hears connections number bytes)
have-hears [] number bytes h b = tt
have-hears (connection ∷ connections) number bytes h b = by_test (connection.number == number) refl (have-hears connections number bytes h.1 b)
  where
    by_test : (test : Bool) → (connection.number == number) ≡ test → HaveBytes (hears connections number bytes) → HaveBytes (hears (connection ∷ connections) number bytes)
    by_test true t more = rw t (bytes-append connection.heard bytes h.0 b, h.1)
    by_test false t more = rw t (h.0, more)

have-without : (connections : List Connection) (number : ℕ) → HaveBytes connections → HaveBytes (without connections number)
have-without [] number h = tt
have-without (connection ∷ connections) number h = by_test (connection.number == number) refl (have-without connections number h.1)
  where
    by_test : (test : Bool) → (connection.number == number) ≡ test → HaveBytes (without connections number) → HaveBytes (without (connection ∷ connections) number)
    by_test true t more = rw t more
    by_test false t more = rw t (h.0, more)

have-new : (connections : List Connection) (number : ℕ) → HaveBytes connections → HaveBytes (connections ++ new_connection number ∷ [])
have-new [] number h = (tt, tt)
have-new (connection ∷ connections) number h = (h.0, have-new connections number h.1)

pub heard-bytes : (connections : List Connection) (number : ℕ) → HaveBytes connections → AreBytes (heard_on connections number)
heard-bytes [] number h = tt
heard-bytes (connection ∷ connections) number h = by_test (connection.number == number) refl (heard-bytes connections number h.1)
  where
    by_test : (test : Bool) → (connection.number == number) ≡ test → AreBytes (heard_on connections number) → AreBytes (heard_on (connection ∷ connections) number)
    by_test true t more = rw t h.0
    by_test false t more = rw t more

-- along a lawful log

turn-outside : (v : View) (turn : Turn) → HeardBytes v.scene.outside → AllowedTurn v turn → HeardBytes (outside_after v.scene.outside turn)
turn-outside v (Start setup) h ok = record { tills = tt; links = tt }
turn-outside v OpenFailed h ok = record { tills = tt; links = tt }
turn-outside v (Polled now) h ok = record { tills = h.tills; links = h.links }
turn-outside v (Opened till) h ok = record { tills = have-new v.scene.outside.tills till h.tills; links = h.links }
turn-outside v (HeardTill till bytes) h ok = record { tills = have-hears v.scene.outside.tills till bytes h.tills ok.1.bytes; links = h.links }
turn-outside v (Closed till) h ok = record { tills = have-without v.scene.outside.tills till h.tills; links = h.links }
turn-outside v (HeardPt pt bytes) h ok = record { tills = h.tills; links = have-hears v.scene.outside.links pt bytes h.links ok.1.bytes }
turn-outside v (Lost pt) h ok = record { tills = h.tills; links = have-without v.scene.outside.links pt h.links }
turn-outside v Stopped h ok = h
turn-outside v (Linked pt) h ok = record { tills = h.tills; links = have-new (without v.scene.outside.links pt) pt (have-without v.scene.outside.links pt h.links) }
turn-outside v (LinkFailed pt) h ok = h
turn-outside v (SentTill till bytes sent) h ok = h
turn-outside v (SentPt pt bytes sent) h ok = h
turn-outside v (CutTill till) h ok = record { tills = have-without v.scene.outside.tills till h.tills; links = h.links }
turn-outside v (CutPt pt) h ok = record { tills = h.tills; links = have-without v.scene.outside.links pt h.links }
turn-outside v (Wrote offset bytes) h ok = record { tills = h.tills; links = h.links }
turn-outside v Synced h ok = record { tills = h.tills; links = h.links }
turn-outside v DiskFailed h ok = h
turn-outside v (Crash file) h ok = record { tills = tt; links = tt }

pub turn-bytes : (v : View) (turn : Turn) → HeardBytes v.scene.outside → AllowedTurn v turn → HeardBytes (after_turn v turn).scene.outside
turn-bytes v turn h ok = subst HeardBytes (sym (after-outside v turn)) (turn-outside v turn h ok)

pub begin-bytes : (v : View) → HeardBytes v.scene.outside → HeardBytes (after v Begin).scene.outside
begin-bytes v h = subst HeardBytes (sym (begin-outside v.scene v.items)) h

course-bytes : (v : View) (moves : List Move) → HeardBytes v.scene.outside → IsCourse v moves → HeardBytes (view_from v moves).scene.outside
course-bytes v [] h c = h
course-bytes v (Begin ∷ moves) h c = course-bytes (after v Begin) moves (begin-bytes v h) c.1
course-bytes v (Read as_read ∷ moves) h c = course-bytes (after v (Read as_read)) moves h c.1
course-bytes v (Make turn ∷ moves) h c = course-bytes (after_turn v turn) moves (turn-bytes v turn h c.0) c.1

pub first-bytes : HeardBytes at_first.scene.outside
first-bytes = record { tills = tt; links = tt }

pub stands-bytes : (log : List Turn) (v : View) → Stands log v → HeardBytes v.scene.outside
stands-bytes log v s = subst (λ (w : View). HeardBytes w.scene.outside) s.view_is (course-bytes at_first s.course first-bytes s.lawful)

pub till-bytes-bring : TillBytesBring
till-bytes-bring log v till chunk before all rest left s ok old new =
    let e : outside_of log ≡ v.scene.outside = sym (stands-outside log v s) in
    let heard : List ℕ = heard_on v.scene.outside.tills till in
    let small : AreBytes (heard ++ chunk) = bytes-append heard chunk (heard-bytes v.scene.outside.tills till (stands-bytes log v s).tills) ok.1.bytes in
    record {
      items = till_bytes_items till heard chunk;
      are = till-bytes-give till heard chunk before all rest left small (subst (λ (o : Outside). Frames (heard_on o.tills till) before rest) e old) (subst (λ (o : Outside). Frames (heard_on o.tills till ++ chunk) all left) e new);
      calls_are = refl;
      items_are = refl;
    }

pub pt-bytes-bring : PtBytesBring
pt-bytes-bring log v pt chunk before all rest left s ok old new =
    let e : outside_of log ≡ v.scene.outside = sym (stands-outside log v s) in
    let heard : List ℕ = heard_on v.scene.outside.links pt in
    let small : AreBytes (heard ++ chunk) = bytes-append heard chunk (heard-bytes v.scene.outside.links pt (stands-bytes log v s).links) ok.1.bytes in
    record {
      items = pt_bytes_items pt heard chunk;
      are = pt-bytes-give pt heard chunk before all rest left small (subst (λ (o : Outside). SpellsApdus (heard_on o.links pt) before rest) e old) (subst (λ (o : Outside). SpellsApdus (heard_on o.links pt ++ chunk) all left) e new);
      calls_are = refl;
      items_are = refl;
    }

pub each-heard-is-bytes : EachHeardIsBytes
each-heard-is-bytes log (v, s) =
    let h = stands-bytes log v s in
    subst HeardAreBytes (stands-outside log v s) (record { tills = λ till. heard-bytes v.scene.outside.tills till h.tills; links = λ pt. heard-bytes v.scene.outside.links pt h.links })
