use Rattle.std.proofs.Common.{◌≡◌, ◌∙◌, List, ℕ, [], ap, map, sym, subst}
use Rattle.std.specs.Prelude.{option_map}
use Rattle.std.proofs.lemmas.Result.{IfOk-weaker}
use Rattle.cany_check.specs.declared.account.record.MessageRecord.{MessageRecord}
use Rattle.cany_check.specs.Accounts.Account.{LogParts, running}
use Rattle.cany_check.specs.Accounts.AccountFields.{log_parts}
use Rattle.cany_check.specs.Deciding.NodeOrder.{AreAt}
use Rattle.cany_check.specs.Deciding.OneOrder.{by_from}
use Rattle.cany_check.specs.Deciding.Reference.{first_clash, parting_at}
use Rattle.cany_check.proofs.Accounts.PlacesFacts.{numbered_messages}
use Rattle.cany_check.proofs.Deciding.ReferenceFacts.{parting_is}
use Rattle.cany_check.proofs.deciders.order.parting.Goals as goal

-- the places are those of the correct nodes, in whatever list their logs stand
as_read : (all logs other : List LogParts) (places read : List ℕ) → logs ≡ all → other ≡ all → read ≡ places → AreAt logs places (by_from (running logs)) → AreAt other read (by_from (running all))
as_read all logs other places read is other_is read_is are =
    subst (λ (l : List ℕ). AreAt other l (by_from (running all))) (sym read_is)
    (subst (λ (l : List LogParts). AreAt l places (by_from (running all))) (sym other_is) (subst (λ (l : List LogParts). AreAt l places (by_from (running l))) is are))

pub first_parting-requires : goal.first_parting-requires
first_parting-requires c =
    let a = c.args.account.now in
    record {
      numbered = numbered_messages a c.messages.ensures.orderly c.messages.result.now c.messages.ensures.messages;
      places = (
        by_from (running a.logs),
        as_read a.logs (map log_parts c.logs.result.now) (map log_parts c.logs-2.result.now) c.in_ok-order.order.items c.as_slice.result.now c.logs.ensures.logs c.logs-2.ensures.logs
            c.as_slice.ensures.value c.in_ok-order.ensures,
      );
    }

pub returns : goal.returns
returns c =
    let a = c.args.account.now in
    let are = as_read a.logs (map log_parts c.logs.result.now) (map log_parts c.logs-2.result.now) c.in_ok-order.order.items c.as_slice.result.now c.logs.ensures.logs c.logs-2.ensures.logs
    c.as_slice.ensures.value c.in_ok-order.ensures in
    IfOk-weaker c.first_parting.result _ _ (λ found h.
    h ∙ ap (λ (l : List MessageRecord). option_map parting_at (first_clash l [] (by_from (running a.logs)))) c.messages.ensures.messages ∙ parting_is a)
    (c.first_parting.ensures (by_from (running a.logs)) are)
