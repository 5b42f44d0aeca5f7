-- A parameter that stands anywhere in bytes is read there as it was written, whatever its padding. Assumes nothing.
use Prim.Native.Nat.{ℕ, ◌+◌, ◌-◌, ◌^◌, ◌<◌}
use mathlib.Core.Path.{◌≡◌, refl, ap, ◌∙◌}
use mathlib.Core.List.{List, [], ◌++◌, append_assoc}
use lib.ListN.{length, take, drop, replicate, length-append, length-replicate}
use lib.Seq.{take_at, drop_at}
use native.Mathlib.Omega.{arith}
use Rattle.octets.specs.Numbers.{number_at}
use Rattle.octets.specs.Written.{bytes_of}
use Rattle.octets.proofs.Sizes.{bytes_length}
use Rattle.octets.proofs.ReadBack.{number_read}
use Rattle.parameter.specs.declared.Parameter.{Parameter}
use Rattle.parameter.specs.Parameters.{takes, parameter_at}
use Rattle.parameter.specs.Written.{head_size, parameter_bytes}
use Rattle.round_trip.specs.Wire.{WireParameter, wire_bytes, Whole}

-- a parameter as it is read at a place
abbrev pub placed_at : (at : ℕ) → WireParameter → Parameter
placed_at at p = record { kind = p.kind; len = length p.body; body = at + head_size; next = at + takes (length p.body) }

pub wire_length : (p : WireParameter) → Whole p → length (wire_bytes p) ≡ takes (length p.body)
unfolding wire_bytes
wire_length p w = simp (length-append, bytes_length) (omega (arith, w.padding))

-- s holds the parameter at `at`, with these bytes before it and after it
pub record Stands (s : List ℕ) (at : ℕ) (p : WireParameter) : Type 0 where
  pub before : List ℕ
  pub after : List ℕ
  pub bytes : s ≡ before ++ (wire_bytes p ++ after)
  pub place : at ≡ length before

module _ (s : List ℕ) (at : ℕ) (p : WireParameter) (h : Stands s at p) where
  -- a number that is written so many bytes after the parameter's start
  number_in : (w n : ℕ) (front back : List ℕ) → wire_bytes p ≡ front ++ (bytes_of w n ++ back) → n < 256 ^ w → number_at s (at + length front) w ≡ n
  number_in w n front back e small =
      let parts : s ≡ (h.before ++ front) ++ (bytes_of w n ++ (back ++ h.after)) = h.bytes ∙ rw e (simp append_assoc) in
      let there : at + length front ≡ length (h.before ++ front) = rw (length-append h.before front, h.place) in
      rw (parts, there) (number_read w n (h.before ++ front) (back ++ h.after) small)

  -- type and length
  abbrev head : List ℕ
  head = bytes_of 2 p.kind ++ bytes_of 2 (length p.body)

  type_read : Whole p → number_at s at 2 ≡ p.kind
  unfolding wire_bytes
  type_read w = let z : at + 0 ≡ at = omega arith in rw z at (number_in 2 p.kind [] _ refl w.type)

  length_read : Whole p → number_at s (at + 2) 2 ≡ length p.body
  unfolding wire_bytes
  length_read w = rw (bytes_length 2 p.kind) at (number_in 2 (length p.body) (bytes_of 2 p.kind) (p.body ++ p.padding) refl w.len)

  -- the whole of it
  pub parameter_read : Whole p → parameter_at s at ≡ placed_at at p
  parameter_read w = rw (type_read w, length_read w)

  -- a number in its L bytes
  pub field_read : (w n : ℕ) (front back : List ℕ) → p.body ≡ front ++ (bytes_of w n ++ back) → n < 256 ^ w → number_at s (at + head_size + length front) w ≡ n
  unfolding wire_bytes
  field_read w n front back e small =
      let parts : wire_bytes p ≡ (head ++ front) ++ (bytes_of w n ++ (back ++ p.padding)) =
      ap (λ (l : List ℕ). bytes_of 2 p.kind ++ (bytes_of 2 (length p.body) ++ (l ++ p.padding))) e ∙ simp append_assoc in
      let size : length (head ++ front) ≡ head_size + length front = simp (length-append, bytes_length) in
      let there : at + length (head ++ front) ≡ at + head_size + length front = omega arith in
      rw there at (number_in w n (head ++ front) (back ++ p.padding) parts small)

  -- its L bytes
  pub body_read : take (length p.body) (drop (at + head_size) s) ≡ p.body
  unfolding wire_bytes
  body_read =
      let parts : s ≡ (h.before ++ head) ++ (p.body ++ (p.padding ++ h.after)) = h.bytes ∙ simp append_assoc in
      let there : length (h.before ++ head) ≡ at + head_size = rw h.place (simp (length-append, bytes_length)) in
      rw (parts, drop_at (h.before ++ head) (p.body ++ (p.padding ++ h.after)) (at + head_size) there)
      (take_at p.body (p.padding ++ h.after) (length p.body) refl)

-- ---- what we write: "Padding and reserved bits .. are zero when written."
abbrev pub written : (kind : ℕ) → (body : List ℕ) → WireParameter
written kind body = record { kind = kind; body = body; padding = replicate (takes (length body) - (head_size + length body)) 0 }

pub written_bytes : (kind : ℕ) (body : List ℕ) → parameter_bytes kind body ≡ wire_bytes (written kind body)
unfolding parameter_bytes wire_bytes
written_bytes kind body = refl

pub written_whole : (kind : ℕ) (body : List ℕ) → kind < 2 ^ 16 → length body < 2 ^ 16 → Whole (written kind body)
written_whole kind body t l = record { type = t; len = l; padding = simp length-replicate (omega arith) }
