-- The answer to a Check is written part by part: each law takes the buffers that the calls leave one after another. Assumes nothing.
use Prim.Native.Nat.{ℕ, zero, suc, ◌+◌, ◌-◌, ◌≤◌}
use mathlib.Core.Path.{◌≡◌, refl, sym, ap, ◌∙◌}
use mathlib.Core.List.{List, [], ◌∷◌, ◌++◌, append_assoc, append-nil}
use lib.ListN.{length, replicate, take, length-append}
use native.Mathlib.Omega.{arith}
use Rattle.octets.specs.Written.{bytes_of}
use Rattle.octets.proofs.Sizes.{bytes_length}
use Rattle.parameter.specs.Types.{echo_response_signed}
use Rattle.parameter.specs.Parameters.{takes}
use Rattle.parameter.specs.Written.{parameter_bytes, head_size}
use Rattle.parameter.proofs.Sizes.{parameter_length}
use Rattle.writer.specs.Writes.{written_at}
use Rattle.writer.proofs.Writes.{written_more, written_first, parts_written}
use Rattle.reply_form.specs.Replies.{ack_bytes, echo_response_bytes, response_bytes, fitted, overwritten}
use Rattle.reply_form.proofs.Sizes.{ack_length, response_length}
use Rattle.reply_form.proofs.Fitted.{fitted_whole}
use Rattle.update.specs.Refusals.{reply_room, opaque_limit}

-- eight zeros
abbrev pub eight_zeros : List ℕ
eight_zeros = replicate 8 0

zeros_first : (n m : ℕ) → n ≤ m → take {A = ℕ} n (replicate m 0) ≡ replicate n 0
zeros_first zero m h = refl
zeros_first (suc n) zero h = absurd (omega arith)
zeros_first (suc n) (suc m) h = ap (λ (l : List ℕ). 0 ∷ l) (zeros_first n m (omega arith))

-- ECHO_RESPONSE_SIGNED: type and length, the opaque bytes, and the padding
pub echo_response_written : (opaque : List ℕ) (at n place : ℕ) (b b1 b2 b3 : List ℕ) → length opaque ≤ opaque_limit →
    at + takes (length opaque) ≤ length b → n ≡ takes (length opaque) - head_size - length opaque → place ≡ at + head_size + length opaque →
    b1 ≡ written_at at (bytes_of 2 echo_response_signed ++ bytes_of 2 (length opaque)) b → b2 ≡ written_at (at + head_size) opaque b1 →
    b3 ≡ written_at place (take n eight_zeros) b2 → b3 ≡ written_at at (echo_response_bytes opaque) b
unfolding parameter_bytes
echo_response_written opaque at n place b b1 b2 b3 few room e there p1 p2 p3 =
    let head : List ℕ = bytes_of 2 echo_response_signed ++ bytes_of 2 (length opaque) in
    let size : length head ≡ head_size = simp (length-append, bytes_length) in
    let less : n ≤ 8 = omega arith in
    let same : n ≡ takes (length opaque) - (head_size + length opaque) = omega arith in
    let padding : take n eight_zeros ≡ replicate (takes (length opaque) - (head_size + length opaque)) 0 = zeros_first n 8 less ∙ ap (λ (k : ℕ). replicate k 0) same in
    let whole : head ++ (opaque ++ (take n eight_zeros ++ [])) ≡ echo_response_bytes opaque = rw padding (simp (append_assoc, append-nil)) in
    let fits : at + length (echo_response_bytes opaque) ≤ length b = omega (arith, parameter_length echo_response_signed opaque) in
    let second : at + length head ≡ at + head_size = omega arith in
    let third : at + (length head + length opaque) ≡ place = omega arith in
    parts_written at head (opaque ∷ take n eight_zeros ∷ []) (echo_response_bytes opaque) b b3 whole fits
    (p3 ∙ ap (λ (s : List ℕ). written_at place (take n eight_zeros) s) (p2 ∙ ap (λ (s : List ℕ). written_at (at + head_size) opaque s) p1) ∙ rw (second, third))

-- the ACK, and the echo response after it
pub response_written : (id : ℕ) (opaque : List ℕ) (b b1 b2 : List ℕ) → length opaque ≤ opaque_limit → reply_room ≤ length b →
    b1 ≡ overwritten (fitted (length b) (ack_bytes id)) b → b2 ≡ written_at 8 (echo_response_bytes opaque) b1 → b2 ≡ overwritten (response_bytes id opaque) b
unfolding response_bytes
response_written id opaque b b1 b2 few room p q =
    let short = ack_length id in
    let size = response_length id opaque in
    let total = length-append (ack_bytes id) (echo_response_bytes opaque) in
    let acked : b1 ≡ written_at 0 (ack_bytes id) b =
    p ∙ ap (λ (r : List ℕ). overwritten r b) (fitted_whole (length b) (ack_bytes id) (omega arith)) ∙ sym (written_first (ack_bytes id) b (omega arith)) in
    written_more 0 8 (ack_bytes id) (echo_response_bytes opaque) b b1 b2 (omega arith) (omega (arith, parameter_length echo_response_signed opaque)) acked q
    ∙ written_first (ack_bytes id ++ echo_response_bytes opaque) b (omega (arith, parameter_length echo_response_signed opaque))
