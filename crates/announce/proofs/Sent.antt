-- An announcement that fits is written whole, and takes so many bytes. Assumes nothing.
use Prim.Native.Nat.{ℕ, ◌+◌, ◌≤◌}
use mathlib.Core.Path.{◌≡◌, refl, ◌∙◌}
use mathlib.Core.List.{List, ◌++◌}
use lib.ListN.{length}
use native.Mathlib.Omega.{arith}
use Rattle.parameter.specs.Types.{locator_set, seq}
use Rattle.parameter.proofs.Sizes.{parameter_length}
use Rattle.writer.specs.Writes.{written_at}
use Rattle.writer.proofs.Writes.{written_first}
use Rattle.reply_form.specs.Replies.{esp_info_with, seq_bytes, overwritten}
use Rattle.reply_form.proofs.Sizes.{number_length, esp_info_length_lem}
use Rattle.association.specs.declared.Association.{Association}
use Rattle.announcement.specs.declared.OwnLocator.{OwnLocator}
use Rattle.announcement.specs.Written.{set_body, locator_set_bytes, announcement_bytes}
use Rattle.announcement.proofs.Sizes.{announcement_length}
use Rattle.announce_writer.proofs.Parts.{three_written}

module _ (a : Association) (es : List OwnLocator) (inbound keymat : ℕ) where
  -- the announcement takes those of its three parameters
  pub announcement_taken : (size : ℕ) → size ≡ length (locator_set_bytes inbound es) → 16 + size + 8 ≡ length (announcement_bytes a es inbound keymat)
  announcement_taken size s = omega (arith, parameter_length locator_set (set_body inbound es), announcement_length a es inbound keymat)

  -- they stand one after another, and SEQ ends where the announcement does
  pub announcement_written : (size place : ℕ) (b b1 b2 b3 : List ℕ) → size ≡ length (announcement_bytes a es inbound keymat) → size ≤ length b
      → place + 8 ≡ size → b1 ≡ written_at 0 (esp_info_with keymat a.inbound inbound) b → b2 ≡ written_at 16 (locator_set_bytes inbound es) b1
      → b3 ≡ written_at place (seq_bytes a.next) b2 → b3 ≡ overwritten (announcement_bytes a es inbound keymat) b
  unfolding announcement_bytes
  announcement_written size place b b1 b2 b3 s h q p1 p2 p3 =
      let info : List ℕ = esp_info_with keymat a.inbound inbound in
      let locators : List ℕ = locator_set_bytes inbound es in
      let own : List ℕ = seq_bytes a.next in
      let li : length info ≡ 16 = esp_info_length_lem keymat a.inbound inbound in
      let lo : length own ≡ 8 = number_length seq a.next in
      let all : 16 + length locators + 8 ≡ length (info ++ (locators ++ own)) = announcement_taken (length locators) refl in
      three_written 0 16 place info locators own b b1 b2 b3 (omega arith) (omega arith) (omega arith) p1 p2 p3
      ∙ written_first (info ++ (locators ++ own)) b (omega arith)
