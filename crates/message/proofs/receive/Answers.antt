-- `message::receive` meets its contract: a Reply writes nothing, and what `handle` tries for itself is passed. Assumes nothing.
use Rattle.std.proofs.Common.{sym, ap, ◌∙◌, ◌≡◌}
use Rattle.std.specs.Prelude.{Ok}
use Rattle.packet.specs.declared.Message.TheVariants.{Move, Reply}
use Rattle.reply_form.specs.Replies.{overwritten}
use Rattle.update.specs.Messages.{Handled, answer_of}
use Rattle.message.proofs.Ends.{reply_unwritten, Lent, read_reply, read_move}
use Rattle.message.proofs.receive.Goals as goal

pub returns-in-Ok-Reply-clause-buffer_after : goal.returns-in-Ok-Reply-clause-buffer_after
returns-in-Ok-Reply-clause-buffer_after c =
    let a = c.args in
    let given : Lent = record { association = a.a; packet = a.packet.now; authentic = a.authentic; nonces = a.nonces; buffer = a.buffer.now } in
    let e : c.read_packet.result ≡ Ok (Reply c.in-Ok-Reply.echo) = cc in
    reply_unwritten a.a c.in-Ok-Reply.echo a.buffer.now
    ∙ ap (λ (h : Handled). overwritten h.reply a.buffer.now)
    (read_reply given _ (record {
      sound = sym c.is_bad_association.ensures ∙ c.if-is_bad_association.false;
      room = sym c.is_short_buffer.ensures ∙ c.if-is_short_buffer.false;
      marked = sym c.is_not_authentic.ensures ∙ c.if-is_not_authentic.false;
      read = c.read_packet.ensures;
    }) _ e)

pub returns-in-Ok-Move : goal.returns-in-Ok-Move
returns-in-Ok-Move c =
    let a = c.args in
    let given : Lent = record { association = a.a; packet = a.packet.now; authentic = a.authentic; nonces = a.nonces; buffer = a.buffer.now } in
    let e : c.read_packet.result ≡ Ok (Move c.in-Ok-Move.m c.in-Ok-Move.set) = cc in
    let goes =
    read_move given _ (record {
      sound = sym c.is_bad_association.ensures ∙ c.if-is_bad_association.false;
      room = sym c.is_short_buffer.ensures ∙ c.if-is_short_buffer.false;
      marked = sym c.is_not_authentic.ensures ∙ c.if-is_not_authentic.false;
      read = c.read_packet.ensures;
    }) _ _ e in
    record {
      value = rw c.listed.ensures at c.handle_move.ensures.value ∙ ap answer_of goes;
      buffer_after = rw c.listed.ensures at c.handle_move.ensures.buffer_after ∙ ap (λ (h : Handled). overwritten h.reply a.buffer.now) goes;
    }
