-- How calls go on from a place of the script.
use Rattle.std.proofs.Common.{◌≡◌, ℕ, List, [], ◌∷◌, refl, sym, ◌∙◌, ap, true, false}
use Rattle.std.specs.Prelude.{Bool, ◌-◌, nat_le, not, if◌then◌else◌, Option, Some, None, is_some}
use Rattle.gw_base.specs.declared.setup.Setup.{Setup}
use Rattle.gw_site.specs.Outside.{Outside}
use Rattle.gw_site.specs.declared.turn.Turn.TheVariants.{Start, OpenFailed, Linked, LinkFailed, Wrote, Synced, DiskFailed}
use Rattle.gw_site.specs.Steps.{LengthCall, LinkCall, OpenCall, ReadCall, SendPtCall, SendTillCall, SyncCall, WriteCall}
use Rattle.gw_script.specs.site.Hazards.{Armed, Hazard, is_failing, links_without, sends_without, sent_of, takes_most}
use Rattle.gw_script.specs.site.Peers.{peers_after_bytes, peers_after_link}
use Rattle.sim_site.specs.Peering.{peers_by_link}
use Rattle.gw_script.specs.site.Playing.{Length, Play, Read, Sync, Write, counted, is_off, one_call_less, powered, send_failed_pt, send_failed_till, sent_to_pt}
use Rattle.gw_script.specs.site.Calls.{place_after, play_from}
use Rattle.sim_site.proofs.HazardLemmas.{none_failing, none_without}

pub open_moves : (o : Outside) (p : Play) (setup : Setup) → counted (record p { hazard = record p.hazard { fail_open = false } }) ≡ place_after o p (OpenCall setup)
open_moves o p setup = by_test p.hazard.fail_open refl
  where
    by_test : (test : Bool) → p.hazard.fail_open ≡ test → counted (record p { hazard = record p.hazard { fail_open = false } }) ≡ play_from o Sync p (if test then OpenFailed ∷ [] else Start setup ∷ [])
    by_test true e = refl
    by_test false e = ap (λ b. counted (record p { hazard = record p.hazard { fail_open = b } })) (sym e)

pub till_moves : (o : Outside) (p : Play) (till : ℕ) (bytes : List ℕ) → counted (record p { hazard = record p.hazard { fail_tills = sends_without p.hazard.fail_tills till } }) ≡ place_after o p (SendTillCall till bytes)
till_moves o p till bytes = by_most (takes_most p.hazard.fail_tills till) refl
  where
    by_most : (most : Option ℕ) → takes_most p.hazard.fail_tills till ≡ most → counted (record p { hazard = record p.hazard { fail_tills = sends_without p.hazard.fail_tills till } }) ≡ send_failed_till till (not (is_some most)) p
    by_most (Some most) e = refl
    by_most None e = ap (λ s. counted (record p { hazard = record p.hazard { fail_tills = s } })) (none_without p.hazard.fail_tills till e)

-- those that the send takes are heard
pub pt_moves : (o : Outside) (p : Play) (pt : ℕ) (bytes : List ℕ) →
    counted (record p { hazard = record p.hazard { fail_pts = sends_without p.hazard.fail_pts pt }; peers = peers_after_bytes pt (sent_of (takes_most p.hazard.fail_pts pt) bytes) p.peers }) ≡ place_after o p (SendPtCall pt bytes)
pt_moves o p pt bytes = by_most (takes_most p.hazard.fail_pts pt) refl
  where
    q : Play
    q = sent_to_pt pt (sent_of (takes_most p.hazard.fail_pts pt) bytes) p

    by_most : (most : Option ℕ) → takes_most p.hazard.fail_pts pt ≡ most → counted (record q { hazard = record p.hazard { fail_pts = sends_without p.hazard.fail_pts pt } }) ≡ send_failed_pt pt (not (is_some most)) q
    by_most (Some most) e = refl
    by_most None e = ap (λ s. counted (record q { hazard = record p.hazard { fail_pts = s } })) (none_without p.hazard.fail_pts pt e)

pub link_moves : (o : Outside) (p : Play) (pt : ℕ) → counted (record p { hazard = record p.hazard { fail_links = links_without p.hazard.fail_links pt }; peers = peers_by_link (is_failing p.hazard.fail_links pt) pt p.peers }) ≡ place_after o p (LinkCall pt)
link_moves o p pt = by_test (is_failing p.hazard.fail_links pt) refl
  where
    by_test : (test : Bool) → is_failing p.hazard.fail_links pt ≡ test →
        counted (record p { hazard = record p.hazard { fail_links = links_without p.hazard.fail_links pt }; peers = peers_by_link test pt p.peers }) ≡ play_from o Sync p (if test then LinkFailed pt ∷ [] else Linked pt ∷ [])
    by_test true e = refl
    by_test false e = ap (λ l. counted (record p { hazard = record p.hazard { fail_links = l }; peers = peers_after_link pt p.peers })) (none_failing p.hazard.fail_links pt e)

pub length_moves : (o : Outside) (p : Play) → record p { hazard = record p.hazard { fail_length = false } } ≡ place_after o p LengthCall
length_moves o p = by_test p.hazard.fail_length refl
  where
    by_test : (test : Bool) → p.hazard.fail_length ≡ test → record p { hazard = record p.hazard { fail_length = false } } ≡ play_from o Length p (if test then DiskFailed ∷ [] else [])
    by_test true e = refl
    by_test false e = ap (λ b. record p { hazard = record p.hazard { fail_length = b } }) (sym e)

pub read_moves : (o : Outside) (p : Play) (offset size : ℕ) → record p { hazard = record p.hazard { fail_read = false } } ≡ place_after o p (ReadCall offset size)
read_moves o p offset size = by_test p.hazard.fail_read refl
  where
    by_test : (test : Bool) → p.hazard.fail_read ≡ test → record p { hazard = record p.hazard { fail_read = false } } ≡ play_from o Read p (if test then DiskFailed ∷ [] else [])
    by_test true e = refl
    by_test false e = ap (λ b. record p { hazard = record p.hazard { fail_read = b } }) (sym e)

pub sync_moves : (o : Outside) (p : Play) → counted (record p { hazard = record p.hazard { fail_sync = false } }) ≡ place_after o p SyncCall
sync_moves o p = by_test p.hazard.fail_sync refl
  where
    by_test : (test : Bool) → p.hazard.fail_sync ≡ test → counted (record p { hazard = record p.hazard { fail_sync = false } }) ≡ play_from o Sync p (if test then DiskFailed ∷ [] else Synced ∷ [])
    by_test true e = refl
    by_test false e = ap (λ b. counted (record p { hazard = record p.hazard { fail_sync = b } })) (sym e)

-- that a failure of the disk comes next has no part in counting
counted_calm : (armed : Option Armed) (p : Play) (b : Bool) → record (one_call_less armed (record p { failing = b })) { failing = false } ≡ one_call_less armed (record p { failing = false })
counted_calm None p b = refl
counted_calm (Some armed) p b = by_test (nat_le armed.calls 1)
  where
    by_test : (test : Bool) → record (if test then is_off armed.kind (record p { failing = b }) else powered (armed.calls - 1) armed.kind (record p { failing = b })) { failing = false }
        ≡ (if test then is_off armed.kind (record p { failing = false }) else powered (armed.calls - 1) armed.kind (record p { failing = false }))
    by_test true = refl
    by_test false = refl

pub write_moves : (o : Outside) (p : Play) (offset : ℕ) (bytes : List ℕ) → p.failing ≡ false → counted (record p { hazard = record p.hazard { fail_write = false } }) ≡ place_after o p (WriteCall offset bytes)
write_moves o p offset bytes calm = by_test p.hazard.fail_write refl
  where
    h : Hazard
    h = record p.hazard { fail_write = false }

    by_test : (test : Bool) → p.hazard.fail_write ≡ test → counted (record p { hazard = h }) ≡ play_from o Write p (if test then Wrote offset bytes ∷ DiskFailed ∷ [] else Wrote offset bytes ∷ [])
    by_test true e = ap (λ b. counted (record p { hazard = h; failing = b })) calm ∙ sym (counted_calm h.power (record p { hazard = h }) p.hazard.fail_write)
    by_test false e = ap (λ b. counted (record p { hazard = h; failing = b })) (calm ∙ sym e)
