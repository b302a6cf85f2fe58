-- Inner: what is wanted of a terminal.
use Rattle.std.specs.Prelude.{◌≡◌, ℕ, Bool, true, false, List, [], ◌∷◌, Option, Some, None}
use Rattle.gw_site.specs.Outside.{Connection}
use Rattle.gw_owes.specs.Calls.{OwedCall, Ask, Acknowledge, Refuse, SendTill, SendPt, CutTill, CutPt, LinkPt, WriteBody, WriteGate, WriteFirstGate, Sync}
use Rattle.gw_owes.specs.Greeting.{outside_row}
use Rattle.gw_owes.specs.Items.{RoundItem}
use Rattle.gw_owes.specs.Row.{Known}
use Rattle.gw_owes.specs.Rows.{row_of}
use Rattle.gw_core.specs.declared.act.Act.{Act}
use Rattle.gw_core.specs.declared.act.Act.TheVariants as act
use Rattle.gw_rules.specs.Lawful.{may_begin}
use Rattle.gw_rules.specs.Scene.{Scene}

-- a till is sent a reply or a device request
abbrev pub is_reply : Act → Bool
is_reply (act.SendPt pt command) = false
is_reply (act.Ack pt) = false
is_reply (act.Refuse pt) = false
is_reply (act.CutPt pt) = false
is_reply (act.Link pt) = false
is_reply (act.SendTill till given) = true
is_reply (act.Print till header printed) = true

-- nothing is wanted, or a till is sent a reply
abbrev pub is_none_or_reply : Option Act → Bool
is_none_or_reply None = true
is_none_or_reply (Some wanted) = is_reply wanted

-- the call of an act of a terminal; a reply has none here, since its value is that of what is owed
abbrev pub act_calls : Act → List OwedCall
act_calls (act.SendPt pt command) = SendPt pt (Ask command) ∷ []
act_calls (act.Ack pt) = SendPt pt Acknowledge ∷ []
act_calls (act.Refuse pt) = SendPt pt Refuse ∷ []
act_calls (act.CutPt pt) = CutPt pt ∷ []
act_calls (act.Link pt) = LinkPt pt ∷ []
act_calls (act.SendTill till given) = []
act_calls (act.Print till header printed) = []

-- so it is, where anything is wanted
abbrev pub calls_wanted : Option Act → List OwedCall
calls_wanted None = []
calls_wanted (Some wanted) = act_calls wanted

-- a terminal is connected by one of these calls
abbrev pub owes_link : List OwedCall → Bool
owes_link [] = false
owes_link (SendTill till reply ∷ calls) = owes_link calls
owes_link (SendPt number sending ∷ calls) = owes_link calls
owes_link (CutTill till ∷ calls) = owes_link calls
owes_link (CutPt number ∷ calls) = owes_link calls
owes_link (LinkPt number ∷ calls) = true
owes_link (WriteBody slot the_record ∷ calls) = owes_link calls
owes_link (WriteGate slot the_record ∷ calls) = owes_link calls
owes_link (WriteFirstGate ∷ calls) = owes_link calls
owes_link (Sync ∷ calls) = owes_link calls

-- the item may begin whatever the scene, and cuts this terminal where it is linked
pub record IsOutside (pt : ℕ) (item : RoundItem) : Type 0 where
  pub begins : (scene : Scene) (items : List RoundItem) → may_begin scene (item ∷ items) ≡ true
  pub row : (tills : List Connection) (known : Known) → row_of tills known item ≡ outside_row known pt
