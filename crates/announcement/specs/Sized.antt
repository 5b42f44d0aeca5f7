-- What the declared type holds an entry of our list to: a premise of the laws that read an entry back.
use Rattle.std.specs.Prelude.{◌^◌, ◌<◌, List, [], ◌∷◌}
use Rattle.announcement.specs.declared.OwnLocator.{OwnLocator}

-- the numbers of an entry are of their widths
pub record Sized (e : OwnLocator) : Type 0 where
  pub high : e.address.high < 2 ^ 64
  pub low : e.address.low < 2 ^ 64
  pub lifetime : e.lifetime < 2 ^ 32
  pub kind : e.kind < 2 ^ 8
  pub traffic : e.traffic < 2 ^ 8

-- those of every entry
unfoldable pub AllSized : List OwnLocator → Type 0
AllSized [] = Unit {0}
AllSized (e ∷ es) = Sized e × AllSized es
