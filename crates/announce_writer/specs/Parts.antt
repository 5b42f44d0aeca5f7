-- Parts of LOCATOR_SET that are written by a call of their own: cited by private functions alone.
use Rattle.std.specs.Prelude.{ℕ, ◌+◌, ◌-◌, List, ◌∷◌, replicate}
use Rattle.octets.specs.Written.{bytes_of}
use Rattle.parameter.specs.Parameters.{takes}
use Rattle.parameter.specs.Written.{head_size}
use Rattle.locator_set.specs.Sets.{mark}
use Rattle.announcement.specs.declared.OwnLocator.{OwnLocator}
use Rattle.announcement.specs.Written.{units_of}

-- "traffic type .., locator type, length in 4-byte units, 7 reserved bits and P, lifetime 32 bits": what stands before an entry's SPI and address
abbrev pub entry_head : OwnLocator → List ℕ
entry_head e = e.traffic ∷ e.kind ∷ units_of e.kind ∷ mark e.preferred ∷ bytes_of 4 e.lifetime

-- the padding of a parameter with so many bytes
abbrev pub padding : (size : ℕ) → List ℕ
padding size = replicate (takes size - (head_size + size)) 0
