-- Turns that lead from one place of a script to another, one after the other.
use Rattle.std.proofs.Common.{List, [], ◌∷◌, ◌++◌, refl, sym, ap, subst, arith, length-take}
use Rattle.std.specs.Prelude.{Some, None}
use Rattle.gw_site.specs.Outside.{Outside, outside_after, outside_from, nothing_yet}
use Rattle.gw_site.specs.declared.turn.Turn.{Turn}
use Rattle.gw_script.specs.site.Laws.{PlaysOn, PrefixesPlay, SendsTakeTheirs}
use Rattle.gw_script.specs.site.Playing.{DiskCall, Fits, Leads, Play, begins, play_after}

-- one turn more
pub leads_more : (o : Outside) (p : Play) (turns : List Turn) (q : Play) (call : DiskCall) (turn : Turn) → Leads o p turns q → Fits (outside_from o turns) call q turn
    → Leads o p (turns ++ turn ∷ []) (play_after (outside_from o turns) call q turn)
leads_more o p [] q call turn same fits = (call, subst (λ x. Fits o call x turn) (sym same) fits, ap (λ x. play_after o call x turn) same)
leads_more o p (first ∷ turns) q call turn (c, f, rest) fits = (c, f, leads_more (outside_after o first) (play_after o c p first) turns q call turn rest fits)

-- a prefix leads somewhere
pub leads_part : (o : Outside) (p : Play) (before after : List Turn) (q : Play) → Leads o p (before ++ after) q → (middle : Play) × Leads o p before middle
leads_part o p [] after q leads = (p, refl)
leads_part o p (first ∷ before) after q (c, f, rest) =
    let (middle, leads) = leads_part (outside_after o first) (play_after o c p first) before after q rest in
    (middle, (c, f, leads))

pub prefixes-play : PrefixesPlay
prefixes-play lines before after (play, leads) = leads_part nothing_yet (begins lines) before after play leads

pub plays-on : PlaysOn
plays-on lines log play call turn leads fits = leads_more nothing_yet (begins lines) log play call turn leads fits

pub sends-take-theirs : SendsTakeTheirs
sends-take-theirs None bytes = tt
sends-take-theirs (Some most) bytes = omega (arith, length-take most bytes)
