-- A reply is written part by part: each law takes the buffers that the calls leave one after another. Assumes nothing.
use Prim.Native.Nat.{ℕ, zero, suc, ◌+◌, ◌*◌, ◌/◌, ◌%◌, ◌≤◌, ◌<◌}
use mathlib.Core.Path.{◌≡◌, refl, sym, ap, ◌∙◌}
use mathlib.Core.List.{List, [], ◌∷◌, ◌++◌, append_assoc, append-nil}
use lib.ListN.{length, get_or, length-append}
use native.Mathlib.Numerals.{add-one}
use native.Mathlib.Omega.{arith}
use Rattle.octets.specs.Written.{bytes_of}
use Rattle.octets.proofs.Sizes.{bytes_length}
use Rattle.parameter.specs.Types.{esp_info, seq, ack, echo_request_signed}
use Rattle.parameter.specs.Written.{parameter_bytes}
use Rattle.writer.specs.Writes.{written_at}
use Rattle.writer.proofs.Writes.{written_beyond, written_more, written_first, parts_written}
use Rattle.reply_form.specs.Replies.{esp_info_with, esp_info_bytes, seq_bytes, ack_bytes, echo_request_bytes, check_bytes, checks_bytes, overwritten}
use Rattle.reply_form.proofs.Sizes.{number_length, esp_info_length_lem, check_length, checks_length}

-- a part that does not fit is not written
pub part_beyond : (at size : ℕ) (x b : List ℕ) → length x ≡ size → length b < at + size → b ≡ written_at at x b
part_beyond at size x b e h = written_beyond at x b (omega arith)

-- a parameter's type and length
abbrev pub head_bytes : (kind len : ℕ) → List ℕ
head_bytes kind len = bytes_of 2 kind ++ bytes_of 2 len

pub head_length : (kind len : ℕ) → length (head_bytes kind len) ≡ 4
head_length kind len = simp (length-append, bytes_length)

pub head_written : (kind len at : ℕ) (b b1 b2 : List ℕ) → at + 4 ≤ length b → b1 ≡ written_at at (bytes_of 2 kind) b
    → b2 ≡ written_at (at + 2) (bytes_of 2 len) b1 → b2 ≡ written_at at (head_bytes kind len) b
unfolding bytes_of
head_written kind len at b b1 b2 h p1 p2 = parts_written at (bytes_of 2 kind) (bytes_of 2 len ∷ []) (head_bytes kind len) b b2 refl h (rw (p2, p1))

-- SEQ or ACK
pub number_written : (kind value at : ℕ) (b b1 b2 : List ℕ) → at + 8 ≤ length b → b1 ≡ written_at at (head_bytes kind 4) b
    → b2 ≡ written_at (at + 4) (bytes_of 4 value) b1 → b2 ≡ written_at at (parameter_bytes kind (bytes_of 4 value)) b
unfolding parameter_bytes bytes_of
number_written kind value at b b1 b2 h p1 p2 =
    parts_written at (head_bytes kind 4) (bytes_of 4 value ∷ []) (parameter_bytes kind (bytes_of 4 value)) b b2 refl h (rw (p2, p1))

pub esp_info_written : (keymat old new at : ℕ) (b b1 b2 b3 b4 b5 : List ℕ) → at + 16 ≤ length b → b1 ≡ written_at at (head_bytes esp_info 12) b
    → b2 ≡ written_at (at + 4) (bytes_of 2 0) b1 → b3 ≡ written_at (at + 6) (bytes_of 2 keymat) b2 → b4 ≡ written_at (at + 8) (bytes_of 4 old) b3
    → b5 ≡ written_at (at + 12) (bytes_of 4 new) b4 → b5 ≡ written_at at (esp_info_with keymat old new) b
unfolding parameter_bytes bytes_of
esp_info_written keymat old new at b b1 b2 b3 b4 b5 h p1 p2 p3 p4 p5 =
    parts_written at (head_bytes esp_info 12) (bytes_of 2 0 ∷ bytes_of 2 keymat ∷ bytes_of 4 old ∷ bytes_of 4 new ∷ []) (esp_info_with keymat old new) b b5 refl h
    (rw (p5, p4, p3, p2, p1))

pub echo_request_written : (nonce at : ℕ) (b b1 b2 b3 : List ℕ) → at + 16 ≤ length b → b1 ≡ written_at at (head_bytes echo_request_signed 8) b
    → b2 ≡ written_at (at + 4) (bytes_of 8 nonce) b1 → b3 ≡ written_at (at + 12) (bytes_of 4 0) b2 → b3 ≡ written_at at (echo_request_bytes nonce) b
unfolding parameter_bytes bytes_of
echo_request_written nonce at b b1 b2 b3 h p1 p2 p3 =
    parts_written at (head_bytes echo_request_signed 8) (bytes_of 8 nonce ∷ bytes_of 4 0 ∷ []) (echo_request_bytes nonce) b b3 refl h (rw (p3, p2, p1))

pub check_written : (inbound peer id nonce at : ℕ) (b b1 b2 b3 b4 : List ℕ) → at + 48 ≤ length b → b1 ≡ written_at at (esp_info_bytes inbound) b
    → b2 ≡ written_at (at + 16) (seq_bytes id) b1 → b3 ≡ written_at (at + 24) (ack_bytes peer) b2
    → b4 ≡ written_at (at + 32) (echo_request_bytes nonce) b3 → b4 ≡ written_at at (check_bytes inbound peer id nonce) b
check_written inbound peer id nonce at b b1 b2 b3 b4 h p1 p2 p3 p4 =
    let size = check_length inbound peer id nonce in
    parts_written at (esp_info_bytes inbound) (seq_bytes id ∷ ack_bytes peer ∷ echo_request_bytes nonce ∷ []) (check_bytes inbound peer id nonce) b b4
    (rw (append-nil (echo_request_bytes nonce)))
    (omega arith)
    (p4 ∙ rw (p3, p2, p1, esp_info_length_lem 0 inbound inbound, number_length seq id, number_length ack peer))

-- four bytes hold a number's low 32 bits
low_bytes : (n : ℕ) → bytes_of 4 (n % 4294967296) ≡ bytes_of 4 n
unfolding bytes_of
low_bytes n =
    let a : n % 4294967296 / 16777216 % 256 ≡ n / 16777216 % 256 = omega arith in
    let b : n % 4294967296 / 65536 % 256 ≡ n / 65536 % 256 = omega arith in
    let c : n % 4294967296 / 256 % 256 ≡ n / 256 % 256 = omega arith in
    let d : n % 4294967296 / 1 % 256 ≡ n / 1 % 256 = omega arith in
    rw (a, b, c, d)

module _ (inbound peer next : ℕ) (nonces : List ℕ) where
  checks_more : (j k at : ℕ) → at ≡ j + k → checks_bytes inbound peer next nonces j (suc k)
      ≡ checks_bytes inbound peer next nonces j k ++ check_bytes inbound peer (next + at) (get_or nonces at 0)
  unfolding checks_bytes
  checks_more j zero at e =
      let z : at ≡ j = omega arith in
      rw z (append-nil (check_bytes inbound peer (next + j) (get_or nonces j 0)))
  checks_more j (suc k) at e =
      let z : at ≡ (j + 1) + k = omega arith in
      let here = check_bytes inbound peer (next + j) (get_or nonces j 0) in
      ap (λ (l : List ℕ). here ++ l) (checks_more (j + 1) k at z)
      ∙ sym (append_assoc here (checks_bytes inbound peer next nonces (j + 1) k) (check_bytes inbound peer (next + at) (get_or nonces at 0)))

  -- before the first check nothing is written
  pub checks_none : (b : List ℕ) → b ≡ written_at 0 (checks_bytes inbound peer next nonces 0 0) b
  unfolding checks_bytes
  checks_none b = sym (written_first [] b (omega arith))

  -- check k after those before it
  pub checks_next : (id nonce k : ℕ) (b b1 b2 : List ℕ) → 48 * (k + 1) ≤ length b → id ≡ (next + k) % 4294967296 → nonce ≡ get_or nonces k 0
      → b1 ≡ written_at 0 (checks_bytes inbound peer next nonces 0 k) b → b2 ≡ written_at (48 * k) (check_bytes inbound peer id nonce) b1
      → b2 ≡ written_at 0 (checks_bytes inbound peer next nonces 0 (k + 1)) b
  checks_next id nonce k b b1 b2 h i n p q =
      let done = checks_bytes inbound peer next nonces 0 k in
      let ld : length done ≡ 48 * k = checks_length inbound peer next nonces 0 k in
      let lc : length (check_bytes inbound peer id nonce) ≡ 48 = check_length inbound peer id nonce in
      let own : bytes_of 4 id ≡ bytes_of 4 (next + k) = rw i (low_bytes (next + k)) in
      let same : check_bytes inbound peer id nonce ≡ check_bytes inbound peer (next + k) (get_or nonces k 0) = rw (own, n) in
      let z : k ≡ 0 + k = omega arith in
      written_more 0 (48 * k) done (check_bytes inbound peer id nonce) b b1 b2 (omega arith) (omega arith) p q
      ∙ ap (λ (c : List ℕ). written_at 0 (done ++ c) b) same
      ∙ ap (λ (l : List ℕ). written_at 0 l b) (sym (checks_more 0 k k z))
      ∙ ap (λ (m : ℕ). written_at 0 (checks_bytes inbound peer next nonces 0 m) b) (sym (add-one k))

  -- all of them
  pub checks_written : (count k : ℕ) (b b1 : List ℕ) → 48 * count ≤ length b → k ≡ count
      → b1 ≡ written_at 0 (checks_bytes inbound peer next nonces 0 k) b → b1 ≡ overwritten (checks_bytes inbound peer next nonces 0 count) b
  checks_written count k b b1 h e p =
      let l = checks_length inbound peer next nonces 0 count in
      p ∙ ap (λ (m : ℕ). written_at 0 (checks_bytes inbound peer next nonces 0 m) b) e
      ∙ written_first (checks_bytes inbound peer next nonces 0 count) b (omega arith)
