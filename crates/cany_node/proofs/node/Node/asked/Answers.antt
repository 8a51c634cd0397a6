use Rattle.std.specs.List.{list_any}
use Rattle.std.proofs.Common.{◌&&◌, not, nat_lt, length, take, ap, ◌∙◌, sym, subst}
use Rattle.cany_model.specs.Rules.Backlog.{asked, backlog}
use Rattle.cany_model.specs.Rules.Sends.{is_sent_at_once}
use Rattle.cany_totcan.specs.Totcan.{IsTotcanOf, has_seq}
use Rattle.cany_node.specs.Node.{NodeParts, IsNodeOf}
use Rattle.cany_node.proofs.BacklogFacts.{asked_else, asked_then, none_asked}
use Rattle.cany_node.proofs.node.Node.asked.Goals as goal

pub returns-then-asked-clause-sends : goal.returns-then-asked-clause-sends
returns-then-asked-clause-sends c = λ scenario past is m stands named origin.
    let kept = subst (IsNodeOf scenario past) (sym c.self.view_is) is in
    asked_then scenario c.args.self.now.node past is.totcan.backlog.are_own m stands origin c.asked.result
    (c.asked.ensures.sends scenario c.self.inside.node _ kept.agenda m stands (origin ∙ sym (ap (λ (v : NodeParts). v.node) c.self.view_is)) (ap (λ k. k.seq) named)
    ∙ ap (λ n. is_sent_at_once m.service && nat_lt m.slot n && not (nat_lt m.slot c.self.inside.from)) kept.read
    ∙ ap (λ n. is_sent_at_once m.service && nat_lt m.slot (length past) && not (nat_lt m.slot n)) kept.from)
    c.if-asked.true

pub returns-then-asked-clause-no_message : goal.returns-then-asked-clause-no_message
returns-then-asked-clause-no_message c = λ scenario past is none.
    let kept = subst (IsNodeOf scenario past) (sym c.self.view_is) is in
    let here = sym c.get-2.ensures.value ∙ sym c.if-get.true ∙ c.get.ensures.value in
    c.asked.ensures.no_message scenario c.self.inside.node _ kept.agenda
    (λ m stands origin seq. none m stands (λ k. record { origin = (origin ∙ here) k; seq = seq k }) (origin ∙ ap (λ (v : NodeParts). v.node) c.self.view_is))

pub returns-else-asked-clause-sends : goal.returns-else-asked-clause-sends
returns-else-asked-clause-sends c = λ scenario past is m stands named origin.
    let kept = subst (IsNodeOf scenario past) (sym c.self.view_is) is in
    let node = ap (λ (v : NodeParts). v.node) c.self.view_is in
    let here = sym c.get.ensures.value ∙ c.if-get.true ∙ c.get-2.ensures.value in
    let ours =
    subst (λ i. IsTotcanOf scenario i past (backlog scenario c.self.inside.node past) (asked scenario c.self.inside.node past) c.self.inside.totcan) (sym kept.totcan.limits.node) kept.totcan in
    asked_else scenario c.args.self.now.node past is.totcan.backlog.are_own m stands origin c.asked.result c.asked-else-asked.result
    (c.asked.ensures.sends scenario c.self.inside.node _ kept.agenda m stands (origin ∙ sym node) (ap (λ k. k.seq) named)
    ∙ ap (λ n. is_sent_at_once m.service && nat_lt m.slot n && not (nat_lt m.slot c.self.inside.from)) kept.read
    ∙ ap (λ n. is_sent_at_once m.service && nat_lt m.slot (length past) && not (nat_lt m.slot n)) kept.from)
    c.if-asked.false
    (c.asked-else-asked.ensures.own scenario past _ _ ours (here ∙ sym kept.totcan.limits.node)
    ∙ ap (λ i. list_any (has_seq c.args.msg.seq) (take (asked scenario i past) (backlog scenario i past))) node
    ∙ ap (λ n. list_any (has_seq n) (take (asked scenario c.args.self.now.node past) (backlog scenario c.args.self.now.node past))) (sym (ap (λ k. k.seq) named)))

pub returns-else-asked-clause-no_message : goal.returns-else-asked-clause-no_message
returns-else-asked-clause-no_message c = λ scenario past is none.
    let kept = subst (IsNodeOf scenario past) (sym c.self.view_is) is in
    let node = ap (λ (v : NodeParts). v.node) c.self.view_is in
    let here = sym c.get.ensures.value ∙ c.if-get.true ∙ c.get-2.ensures.value in
    let ours =
    subst (λ i. IsTotcanOf scenario i past (backlog scenario c.self.inside.node past) (asked scenario c.self.inside.node past) c.self.inside.totcan) (sym kept.totcan.limits.node) kept.totcan in
    none_asked scenario c.args.self.now.node past is.totcan.backlog.are_own c.args.msg none (here ∙ node) c.asked-else-asked.result
    (c.asked-else-asked.ensures.own scenario past _ _ ours (here ∙ sym kept.totcan.limits.node)
    ∙ ap (λ i. list_any (has_seq c.args.msg.seq) (take (asked scenario i past) (backlog scenario i past))) node)
