-- "Header (RFC 7401), 40 bytes".
use Rattle.std.specs.Prelude.{ℕ, ◌+◌, ◌*◌, ◌/◌, ◌%◌, Bool, ◌&&◌, List, eqb, leb, length, get_or}

-- the header's bytes, which the first parameter follows
abbrev pub header_size : ℕ
header_size = 40

-- "next header 59": none follows
abbrev pub no_next_header : ℕ
no_next_header = 59

-- "16 (UPDATE)"
abbrev pub update : ℕ
update = 16

-- the version of HIP, in byte 3
abbrev pub hip_version : ℕ
hip_version = 2

-- 40 bytes or more; "next header 59; header length h with (h + 1) × 8 equal to the packet's length; byte 2 equal to 16 (UPDATE);
-- byte 3 with high four bits 2 and low bit 1". The checksum, the controls and the HITs are not judged
abbrev pub header_holds : List ℕ → Bool
header_holds s =
    leb header_size (length s)
    && (eqb (get_or s 0 0) no_next_header
    && (eqb ((get_or s 1 0 + 1) * 8) (length s) && (eqb (get_or s 2 0) update && (eqb (get_or s 3 0 / 16) hip_version && eqb (get_or s 3 0 % 2) 1))))
