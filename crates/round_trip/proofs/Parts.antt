-- What is read of bytes, written again, is the bytes: numbers, and the first parameter of a type. Assumes nothing.
use Prim.Native.Nat.{ℕ, zero, suc, ◌+◌, ◌-◌, ◌^◌, ◌<◌, ◌≤◌}
use mathlib.Core.Path.{◌≡◌, refl, sym, ap, ◌∙◌}
use mathlib.Core.Bool.{Bool, true, false, cond}
use mathlib.Core.List.{List, [], ◌∷◌, ◌++◌}
use lib.Dec.{leb, ltb}
use lib.ListN.{length, get_or, take, drop, replicate, length-take, length-drop, get_or-eq_default}
use lib.Seq.{take-add, drop-drop, get_or-take, get_or-drop}
use native.Mathlib.Omega.{arith}
use native.Mathlib.Nat.{pow-succ'}
use borrow.Author.Tests.{ltb-true, ltb-false}
use Rattle.octets.specs.Numbers.{big_endian, number_at}
use Rattle.octets.specs.Written.{bytes_of, Octets}
use Rattle.octets.proofs.ReadBack.{number_written}
use Rattle.parameter.specs.Parameters.{takes, parameter_at, wrong}
use Rattle.parameter.specs.Written.{head_size, parameter_bytes}
use Rattle.frame.specs.declared.Occurrence.{Occurrence}
use Rattle.frame.specs.Parameters.{parameters}
use Rattle.frame.specs.Survey.{never, occurs, refusal3}
use Rattle.frame.proofs.Within.{packet_keeps}
use Rattle.round_trip.specs.Each.{Each}
use Rattle.round_trip.specs.Written.{whole_of, padding_of}

-- ---- bytes
-- a part of bytes is bytes
pub octets_part : (s : List ℕ) (at n : ℕ) → Octets s → Octets (take n (drop at s))
octets_part s at n o i = go (ltb i n) refl
  where
    go : (b : Bool) → ltb i n ≡ b → get_or (take n (drop at s)) i 0 < 256
    go true e = rw (get_or-take n (drop at s) i 0 (ltb-true i n e), get_or-drop at s i 0) (o (at + i))
    go false e =
        let short : length (take n (drop at s)) ≤ i = rw (length-take n (drop at s)) (omega (arith, ltb-false i n e)) in
        rw (get_or-eq_default (take n (drop at s)) 0 short) (omega arith)

-- a number of w bytes is below 256 ^ w
big_small : (s : List ℕ) (at w : ℕ) → Octets s → big_endian s at w < 256 ^ w
big_small s at zero o = let z : 256 ^ 0 ≡ 1 = refl in omega arith
big_small s at (suc zero) o = let z : 256 ^ 1 ≡ 256 = refl in omega (arith, o at)
big_small s at (suc (suc w)) o =
    omega (arith, pow-succ' 256 (suc w), big_small s at (suc w) o, o (at + suc w))

pub number_small : (s : List ℕ) (at w : ℕ) → Octets s → number_at s at w < 256 ^ w
number_small s at w o = go (leb (at + w) (length s))
  where
    go : (b : Bool) → cond b (big_endian s at w) 0 < 256 ^ w
    go true = big_small s at w o
    go false = omega (arith, big_small s at w o)

-- the bytes from a place on: the first n of them, and the others
pub part_split : (s : List ℕ) (at n k : ℕ) → take (n + k) (drop at s) ≡ take n (drop at s) ++ take k (drop (at + n) s)
part_split s at n k = take-add n k (drop at s) ∙ ap (λ (l : List ℕ). take n (drop at s) ++ take k l) (drop-drop n at s)

-- a number, and what follows it
pub number_first : (s : List ℕ) (at w k : ℕ) → Octets s → at + w ≤ length s
    → take (w + k) (drop at s) ≡ bytes_of w (number_at s at w) ++ take k (drop (at + w) s)
number_first s at w k o h = part_split s at w k ∙ ap (λ (l : List ℕ). l ++ take k (drop (at + w) s)) (sym (number_written s at w o h))

-- ---- a parameter
-- s holds the head of a parameter of the type before its L bytes, and its padding after them
pub record Held (s : List ℕ) (type : ℕ) (seen : Occurrence) : Type 0 where
  pub behind : head_size ≤ seen.body
  pub kind : number_at s (seen.body - head_size) 2 ≡ type
  pub len : number_at s (seen.body - head_size + 2) 2 ≡ seen.len
  pub within : seen.body - head_size + takes seen.len ≤ length s

-- in a packet that refusal 3 does not refuse, the first parameter of a type that occurs
pub first_held : (s : List ℕ) (type : ℕ) → refusal3 s ≡ false → ((occurs type never (parameters s)).times ≡ 0 → ⊥)
    → Held s type (occurs type never (parameters s))
first_held s type h =
    packet_keeps s type (λ (seen : Occurrence). (seen.times ≡ 0 → ⊥) → Held s type seen) first
    (λ seen t h u. let k = h t in record { behind = k.behind; kind = k.kind; len = k.len; within = k.within }) (λ t. absurd (t refl)) h
  where
    first : (at : ℕ) → (parameter_at s at).next ≤ length s → wrong (parameter_at s at) ≡ false → (parameter_at s at).kind ≡ type
        → (◌≡◌ {A = ℕ} 1 0 → ⊥) → Held s type (record { times = 1; body = (parameter_at s at).body; len = (parameter_at s at).len })
    first at n w e t =
        let start : at + head_size - head_size ≡ at = omega arith in
        record { behind = omega arith; kind = rw start e; len = rw start; within = rw start n }

-- bytes that are all zero
zeros : (l : List ℕ) → Each (λ (byte : ℕ). byte ≡ 0) l → l ≡ replicate (length l) 0
unfolding Each
zeros [] e = refl
zeros (x ∷ xs) e = rw e.0 (ap (λ (l : List ℕ). 0 ∷ l) (zeros xs e.1))

module _ (s : List ℕ) (type : ℕ) (seen : Occurrence) (o : Octets s) (h : Held s type seen) where
  -- its L bytes
  abbrev pub body_of : List ℕ
  body_of = take seen.len (drop seen.body s)

  abbrev spare : ℕ
  spare = takes seen.len - (head_size + seen.len)

  -- "type (2 bytes), length L (2 bytes), L bytes, padding"
  whole_parts : whole_of s seen ≡ bytes_of 2 type ++ (bytes_of 2 seen.len ++ (body_of ++ padding_of s seen))
  whole_parts =
      let start : ℕ = seen.body - head_size in
      let size : takes seen.len ≡ 2 + (2 + (seen.len + spare)) = omega arith in
      let room : start + 4 ≤ length s = omega (arith, h.within) in
      let body : start + 2 + 2 ≡ seen.body = omega (arith, h.behind) in
      ap (λ (n : ℕ). take n (drop start s)) size
      ∙ number_first s start 2 (2 + (seen.len + spare)) o (omega arith)
      ∙ ap (λ (l : List ℕ). bytes_of 2 (number_at s start 2) ++ l) (number_first s (start + 2) 2 (seen.len + spare) o (omega arith))
      ∙ rw (h.kind, h.len, body, part_split s seen.body seen.len spare)

  pub body_length : length body_of ≡ seen.len
  body_length = rw (length-take seen.len (drop seen.body s), length-drop seen.body s) (omega (arith, h.within, h.behind))

  padding_length : length (padding_of s seen) ≡ spare
  padding_length = rw (length-take spare (drop (seen.body + seen.len) s), length-drop (seen.body + seen.len) s) (omega (arith, h.within, h.behind))

  -- a parameter that is padded with zeros is as we write it
  pub whole_written : Each (λ (byte : ℕ). byte ≡ 0) (padding_of s seen) → whole_of s seen ≡ parameter_bytes type body_of
  unfolding parameter_bytes
  whole_written z =
      let padded : padding_of s seen ≡ replicate spare 0 = zeros (padding_of s seen) z ∙ ap (λ (n : ℕ). replicate n 0) padding_length in
      whole_parts ∙ rw (padded, body_length)
