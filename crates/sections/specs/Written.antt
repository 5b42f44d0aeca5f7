-- A record as it is written.
use Rattle.std.specs.Prelude.{ℕ, List, ◌++◌, length}
use Rattle.octets.specs.Written.{bytes_of}
use Rattle.sections.specs.Records.{count_size}

-- a section: its count, and its bytes
unfoldable pub section_bytes : List ℕ → List ℕ
section_bytes bytes = bytes_of count_size (length bytes) ++ bytes

-- a record: its three sections
unfoldable pub record_bytes : (numbers body nonces : List ℕ) → List ℕ
record_bytes numbers body nonces = section_bytes numbers ++ (section_bytes body ++ section_bytes nonces)
