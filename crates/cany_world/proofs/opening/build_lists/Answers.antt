use Rattle.std.proofs.Common.{[], List, map, ap, ◌∙◌}
use Rattle.cany_base.specs.declared.message.SendAsk.{SendAsk}
use Rattle.cany_model.specs.Rules.Messages.{message_key, messages_of}
use Rattle.cany_world.proofs.opening.build_lists.Goals as goal

pub returns-clause-actions : goal.returns-clause-actions
returns-clause-actions c = c.in_ok-actions.ensures ∙ ap (λ r. record { items = []; room = r }) c.actions_room.ensures

pub returns-clause-keys : goal.returns-clause-keys
returns-clause-keys c = c.in_ok-keys.ensures ∙ ap (λ (s : List SendAsk). map message_key (messages_of s)) c.sends.ensures
