-- Refusals 3 and 4 do not refuse a header and whole parameters whose types do not fall and may be received, with the lengths that they must have.
-- Assumes nothing.
use Prim.Native.Nat.{ℕ, ◌+◌, ◌≤◌}
use mathlib.Core.Path.{◌≡◌, refl, sym, ap, ◌∙◌}
use mathlib.Core.Bool.{Bool, true, false, cond, ◌||◌}
use mathlib.Core.List.{List, [], ◌∷◌, ◌++◌}
use lib.Dec.{eqb}
use lib.ListN.{length, length-append}
use native.Mathlib.Omega.{arith}
use borrow.Author.Tests.{le-ltb, eqb-true}
use Rattle.boolean.proofs.Laws.{apart}
use Rattle.std.specs.List.{list_any}
use Rattle.parameter.specs.Types.{host_id, hip_mac, hip_signature, refused_type, wrong_length}
use Rattle.parameter.specs.Parameters.{takes}
use Rattle.parameter.specs.Written.{head_size}
use Rattle.frame.specs.Header.{header_size, header_holds}
use Rattle.frame.specs.Parameters.{parameters, falls, ill_formed}
use Rattle.frame.proofs.Formed.{ill_first}
use Rattle.frame.specs.declared.Occurrence.{Occurrence}
use Rattle.frame.specs.Survey.{again, counted, refused, occurs, refusal3, refusal4}
use Rattle.round_trip.specs.Each.{Each}
use Rattle.round_trip.specs.Wire.{WireParameter, wires_bytes, Whole, following, Tail}
use Rattle.round_trip.proofs.Wire.{placed_at}
use Rattle.round_trip.proofs.Runs.{EachStands, placed, wires_length, packet_stands, packet_parameters}

-- a parameter that refusals 3 and 4 let follow one of type `last`
pub record Passes (last : ℕ) (p : WireParameter) : Type 0 where
  pub whole : Whole p
  pub after : last ≤ p.kind
  pub right : wrong_length p.kind (length p.body) ≡ false
  pub known : refused_type p.kind ≡ false

-- each of them may follow the one before it, the first one of type `last`
unfoldable pub Formed : (last : ℕ) → List WireParameter → Type 0
Formed last [] = Unit {0}
Formed last (p ∷ ps) = Passes last p × Formed p.kind ps

pub formed_whole : (last : ℕ) (ps : List WireParameter) → Formed last ps → Each Whole ps
unfolding Formed Each
formed_whole last [] f = tt
formed_whole last (p ∷ ps) f = (f.0.whole, formed_whole p.kind ps f.1)

-- refusal 3 does not refuse them where they lie within s
none_ill : (s : List ℕ) (at last : ℕ) (ps : List WireParameter) → at + length (wires_bytes ps) ≤ length s → Formed last ps
    → ill_formed s last (placed at ps) ≡ false
unfolding Formed placed falls
none_ill s at last [] h f = refl
none_ill s at last (p ∷ ps) h f =
    let next : ℕ = at + takes (length p.body) in
    let size = wires_length p ps f.0.whole in
    ill_first s last (placed_at at p) (placed next ps)
    ∙ rw (le-ltb (length s) next (omega arith), f.0.right, le-ltb p.kind last f.0.after) (none_ill s next p.kind ps (omega arith) f.1)

-- nor does refusal 4
none_refused : (at last : ℕ) (ps : List WireParameter) → Formed last ps → list_any refused (placed at ps) ≡ false
unfolding Formed placed
none_refused at last [] f = refl
none_refused at last (p ∷ ps) f = rw f.0.known (none_refused (at + takes (length p.body)) p.kind ps f.1)

module _ (header : List ℕ) (ps : List WireParameter) (long : length header ≡ header_size) (formed : Formed 0 ps) where
  -- the packet
  abbrev pub packet_of : List ℕ
  packet_of = header ++ wires_bytes ps

  pub formed_stands : EachStands packet_of header_size ps
  formed_stands = packet_stands header ps long (formed_whole 0 ps formed)

  pub formed_parameters : parameters packet_of ≡ placed header_size ps
  formed_parameters = packet_parameters header ps long (formed_whole 0 ps formed)

  pub not_refused3 : header_holds packet_of ≡ true → refusal3 packet_of ≡ false
  not_refused3 rule =
      let room : header_size + length (wires_bytes ps) ≤ length packet_of = omega (arith, length-append header (wires_bytes ps)) in
      rw (rule, formed_parameters) (none_ill packet_of header_size 0 ps room formed)

  pub not_refused4 : refusal4 packet_of ≡ false
  not_refused4 = rw formed_parameters (none_refused header_size 0 ps formed)

-- ---- the parameters that may follow
-- each is one of the three
one_of : (P : ℕ → Type 0) (kind : ℕ) → P host_id → P hip_mac → P hip_signature → list_any (eqb kind) following ≡ true → P kind
one_of P kind x y z h = go (eqb kind host_id) (eqb kind hip_mac) (eqb kind hip_signature) refl refl refl h
  where
    go : (b c d : Bool) → eqb kind host_id ≡ b → eqb kind hip_mac ≡ c → eqb kind hip_signature ≡ d → (b || (c || (d || false))) ≡ true → P kind
    go true c d e f g h = rw (eqb-true kind host_id e) x
    go false true d e f g h = rw (eqb-true kind hip_mac f) y
    go false false true e f g h = rw (eqb-true kind hip_signature g) z
    go false false false e f g h = apart (sym h)

-- refusals 3 and 4 let them follow
pub tail_formed : (last : ℕ) (ps : List WireParameter) → Tail last ps → Formed last ps
unfolding Tail Formed wrong_length refused_type
tail_formed last [] t = tt
tail_formed last (p ∷ ps) t =
    let len : ℕ = length p.body in (
      record {
        whole = t.0.whole;
        after = t.0.after;
        right = one_of (λ (kind : ℕ). wrong_length kind len ≡ false) p.kind refl refl refl t.0.type;
        known = one_of (λ (kind : ℕ). refused_type kind ≡ false) p.kind refl refl refl t.0.type;
      },
      tail_formed p.kind ps t.1,
    )

-- and a survey steps over them, since it looks for other types
abbrev pub Other : (type : ℕ) → Type 0
Other type = (eqb host_id type ≡ false) × (eqb hip_mac type ≡ false) × (eqb hip_signature type ≡ false)

tail_unseen : (type : ℕ) (seen : Occurrence) (at last : ℕ) (tail : List WireParameter) → Other type → Tail last tail → occurs type seen (placed at tail) ≡ seen
unfolding Tail placed occurs
tail_unseen type seen at last [] o t = refl
tail_unseen type seen at last (p ∷ ps) o t =
    let next : ℕ = at + takes (length p.body) in
    ap (λ (b : Bool). occurs type (cond b (again seen (at + head_size) (length p.body)) seen) (placed next ps))
    (one_of (λ (kind : ℕ). eqb kind type ≡ false) p.kind o.0 o.1 o.2 t.0.type)
    ∙ tail_unseen type seen next p.kind ps o t.1

pub tail_stepped : (type : ℕ) (seen : Occurrence) (at last : ℕ) (ps tail : List WireParameter) → Other type → Tail last tail
    → occurs type seen (placed at (ps ++ tail)) ≡ occurs type seen (placed at ps)
unfolding placed occurs
tail_stepped type seen at last [] tail o t = tail_unseen type seen at last tail o t
tail_stepped type seen at last (p ∷ ps) tail o t =
    let len : ℕ = length p.body in
    tail_stepped type (counted type seen p.kind (at + head_size) len) (at + takes len) last ps tail o t
