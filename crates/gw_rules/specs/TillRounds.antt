-- What a till has said with the bytes that began a round.
use Rattle.std.specs.Prelude.{◌≡◌, ℕ, List, ◌∷◌, ◌++◌}
use Rattle.sale_frame.specs.Grammar.{Frames}
use Rattle.gw_site.specs.Outside.{heard_on, outside_of}
use Rattle.gw_site.specs.Sorts.{AreOfRound}
use Rattle.gw_site.specs.declared.turn.Turn.{Turn}
use Rattle.gw_site.specs.declared.turn.Turn.TheVariants.{HeardTill}
use Rattle.gw_owes.specs.ReadAs.{ReadAs, IsReadAs}

-- the log ends in a round that bytes of the till began, with which it newly said a frame with this payload, among others
pub record HasSaidMessage (log : List Turn) (till : ℕ) (payload : List ℕ) : Type 0 where
  pub before : List Turn
  pub chunk : List ℕ
  pub inside : List Turn
  pub log_is : log ≡ before ++ HeardTill till chunk ∷ inside
  pub round : AreOfRound inside
  pub said : List (List ℕ)
  pub rest : List ℕ
  pub spelled : Frames (heard_on (outside_of before).tills till) said rest
  pub earlier : List (List ℕ)
  pub later : List (List ℕ)
  pub left : List ℕ
  pub all : Frames (heard_on (outside_of before).tills till ++ chunk) (said ++ (earlier ++ payload ∷ later)) left

-- which is read as this
pub record HasAsked (log : List Turn) (till : ℕ) (as_read : ReadAs) : Type 0 where
  pub payload : List ℕ
  pub said : HasSaidMessage log till payload
  pub reads : IsReadAs payload as_read
