-- What the test of a Reply leads to, by the definition, and what a refusal's test is. Assumes nothing.
use mathlib.Core.Path.{◌≡◌, sym, ◌∙◌}
use mathlib.Core.Bool.{Bool, true, false}
use Rattle.packet.specs.declared.EchoResponse.{EchoResponse}
use Rattle.readdress.specs.Echoes.{refusal8}
use Rattle.association.specs.declared.Association.{Association}
use Rattle.update.specs.Messages.{refused, replied, handle_reply}

-- what a refusal's test is, by what the code found
pub found : {b t v : Bool} → b ≡ t → b ≡ v → t ≡ v
found e f = sym e ∙ f

module _ (a : Association) (echo : EchoResponse) where
  pub reply_stops_8 : refusal8 echo a.slots ≡ true → refused 8 a ≡ handle_reply a echo
  unfolding handle_reply
  reply_stops_8 p = rw p

  pub reply_goes : refusal8 echo a.slots ≡ false → replied a echo ≡ handle_reply a echo
  unfolding handle_reply
  reply_goes p = rw p
