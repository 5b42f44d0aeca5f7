-- The bytes of packets, by the definitions that write parameters.
use Rattle.std.specs.Prelude.{ℕ, ◌+◌, ◌-◌, ◌/◌, List, ◌∷◌, ◌++◌, length, replicate}
use Rattle.octets.specs.Written.{bytes_of, joined}
use Rattle.address.specs.declared.Address.{Address}
use Rattle.parameter.specs.Types.{esp_info, locator_set, seq, echo_response_signed, nonce_size}
use Rattle.parameter.specs.Written.{parameter_bytes}
use Rattle.frame.specs.Header.{header_size, no_next_header, update}

-- a header and what follows it; its byte 3 has "high four bits 2 and low bit 1", and its checksum, controls and HITs are zero
abbrev pub packet_of : (rest : List ℕ) → List ℕ
packet_of rest = no_next_header ∷ ((header_size + length rest) / 8 - 1) ∷ update ∷ 0x21 ∷ replicate (header_size - 4) 0 ++ rest

-- ESP_INFO: "reserved 16 bits, KEYMAT Index 16, OLD SPI 32, NEW SPI 32"
abbrev pub esp : (keymat old new : ℕ) → List ℕ
esp keymat old new = parameter_bytes esp_info (bytes_of 2 0 ++ (bytes_of 2 keymat ++ (bytes_of 4 old ++ bytes_of 4 new)))

-- SEQ: the Update ID
abbrev pub id_of : (id : ℕ) → List ℕ
id_of id = parameter_bytes seq (bytes_of 4 id)

-- ECHO_RESPONSE_SIGNED with 8 nonce bytes
abbrev pub echo : (nonce : ℕ) → List ℕ
echo nonce = parameter_bytes echo_response_signed (bytes_of nonce_size nonce)

-- the address 2001:db8::n
abbrev pub address : (n : ℕ) → Address
address n = record { high = 0x20010db800000000; low = n }

-- its 16 bytes
abbrev pub address_bytes : (n : ℕ) → List ℕ
address_bytes n = bytes_of 8 (address n).high ++ bytes_of 8 (address n).low

-- a locator of type 0, with P or without it (1 or 0), of address n
abbrev pub locator : (traffic p lifetime n : ℕ) → List ℕ
locator traffic p lifetime n = traffic ∷ 0 ∷ 4 ∷ p ∷ bytes_of 4 lifetime ++ address_bytes n

-- a locator of type 1, with this SPI, for both kinds of traffic and 60 seconds, without P, of address n
abbrev pub bound : (spi n : ℕ) → List ℕ
bound spi n = 0 ∷ 1 ∷ 5 ∷ 0 ∷ bytes_of 4 60 ++ (bytes_of 4 spi ++ address_bytes n)

-- LOCATOR_SET of these locators
abbrev pub set_of : (locators : List (List ℕ)) → List ℕ
set_of locators = parameter_bytes locator_set (joined locators)

-- the KEYMAT Index of every Move below
abbrev pub keymat_index : ℕ
keymat_index = 513

-- the parameters of a Move before its echo response
abbrev pub move_parts : (old new id : ℕ) → (locators : List (List ℕ)) → List ℕ
move_parts old new id locators = esp keymat_index old new ++ (set_of locators ++ id_of id)

-- a Move
abbrev pub move_of : (old new id : ℕ) → (locators : List (List ℕ)) → List ℕ
move_of old new id locators = packet_of (move_parts old new id locators)

-- a Move that echoes a nonce
abbrev pub echoing_move : (old new id : ℕ) → (locators : List (List ℕ)) → (nonce : ℕ) → List ℕ
echoing_move old new id locators nonce = packet_of (move_parts old new id locators ++ echo nonce)

-- a Reply
abbrev pub reply_of : (nonce : ℕ) → List ℕ
reply_of nonce = packet_of (echo nonce)
