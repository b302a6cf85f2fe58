-- What lies within the limits: outputs, one after the other, and the header of an event.
use Rattle.std.proofs.Common.{◌≡◌, ℕ, ◌+◌, ◌<◌, ◌≤◌, List, [], length, get_or, take, sym, subst, codes, lit≤}
use Rattle.std.specs.Prelude.{All}
use Rattle.std.proofs.lemmas.List.{take_all, take_more}
use Rattle.std.proofs.lemmas.List.Elements.{All-nil, All-cons, All-push}
use Rattle.gw_base.specs.Ident.{IsIdent, IsPrintable}
use Rattle.sale_reply.specs.declared.reply.Shown.{Shown}
use Rattle.sale_reply.specs.Limits.{IsHeaderWithinLimits, IsShownWithinLimits}
use Rattle.sale_reply.specs.Reply.{event_header}

abbrev AllShown : List Shown → Type 0
AllShown outputs = All IsShownWithinLimits outputs

pub all_more : (xs : List Shown) (i : ℕ) (x : Shown) → i < length xs → x ≡ get_or xs i x → All IsShownWithinLimits (take i xs) → IsShownWithinLimits x → All IsShownWithinLimits (take (i + 1) xs)
all_more xs i x inside is before here =
    let next : IsShownWithinLimits (get_or xs i x) = subst IsShownWithinLimits is here in
    subst AllShown (sym (take_more xs i x inside)) (All-push IsShownWithinLimits (take i xs) (get_or xs i x) before next)

pub all_within : (xs : List Shown) (i : ℕ) → length xs ≤ i → All IsShownWithinLimits (take i xs) → All IsShownWithinLimits xs
all_within xs i all before = subst AllShown (take_all i xs all) before

event_ident : IsIdent 40 (codes "Event")
event_ident = (
  lit≤ tt,
  lit≤ tt,
  All-cons IsPrintable 0x45 (codes "vent") (lit≤ tt, lit≤ tt)
      (All-cons IsPrintable 0x76 (codes "ent") (lit≤ tt, lit≤ tt)
      (All-cons IsPrintable 0x65 (codes "nt") (lit≤ tt, lit≤ tt)
      (All-cons IsPrintable 0x6E (codes "t") (lit≤ tt, lit≤ tt)
      (All-cons IsPrintable 0x74 [] (lit≤ tt, lit≤ tt) (All-nil IsPrintable))))),
)

pub event_header_within : (sale poi : List ℕ) → IsIdent 40 sale → IsIdent 40 poi → IsHeaderWithinLimits (event_header sale poi)
event_header_within sale poi s p = record { category = event_ident; service = tt; device = tt; sale = s; poi = p }
