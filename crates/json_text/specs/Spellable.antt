-- Which trees have a text.
use Rattle.std.specs.Prelude.{ℕ, suc, ◌<◌}
use Rattle.std.specs.Str.{IsUtf8}
use Rattle.json_text.specs.Tree.{Tree, null, boolean, number, string, array, object, Elements, no_elements, element, Members, no_members, member, names}
use Rattle.json_text.specs.Number.{IsNumberText}
use Rattle.json_text.specs.Grammar.{AreDistinct, profile}

abbrev mutual
  -- inside d open arrays and objects: its numbers are numbers, its strings and names UTF-8, the names of each object
  -- differ, and no more arrays and objects are open at once than may be
  pub IsSpellableAt : ℕ → Tree → Type 0
  IsSpellableAt d null = Unit {0}
  IsSpellableAt d (boolean b) = Unit {0}
  IsSpellableAt d (number text) = IsNumberText text
  IsSpellableAt d (string text) = IsUtf8 text
  IsSpellableAt d (array xs) = (d < profile.limit) × AreSpellable (suc d) xs
  IsSpellableAt d (object ms) = (d < profile.limit) × AreDistinct (names ms) × HaveSpellable (suc d) ms

  -- each element is
  pub AreSpellable : ℕ → Elements → Type 0
  AreSpellable d no_elements = Unit {0}
  AreSpellable d (element x rest) = IsSpellableAt d x × AreSpellable d rest

  -- each member has a name and a value that are
  pub HaveSpellable : ℕ → Members → Type 0
  HaveSpellable d no_members = Unit {0}
  HaveSpellable d (member name x rest) = IsUtf8 name × IsSpellableAt d x × HaveSpellable d rest

-- a tree that a text can spell
abbrev pub IsSpellable : Tree → Type 0
IsSpellable v = IsSpellableAt 0 v
