-- Our list as its reader lists it: "Reading what we wrote gives back the list."
use Rattle.std.specs.Prelude.{ℕ, ◌≤◌, cond, List, [], ◌∷◌, eqb}
use Rattle.locator.specs.Locators.{spi_type}
use Rattle.locator.specs.declared.ListedLocator.{ListedLocator}
use Rattle.announcement.specs.declared.OwnLocator.{OwnLocator}

-- an entry as it is listed: one of type 1 with the new SPI, others with 0
abbrev pub as_listed : (spi : ℕ) → OwnLocator → ListedLocator
as_listed spi e = record {
  address = e.address;
  lifetime = e.lifetime;
  spi = cond (eqb e.kind spi_type) spi 0;
  traffic = e.traffic;
  kind = e.kind;
  preferred = e.preferred;
}

-- every entry is of a known type: 0 or 1
unfoldable pub AllKnown : List OwnLocator → Type 0
AllKnown [] = Unit {0}
AllKnown (e ∷ es) = (e.kind ≤ 1) × AllKnown es
