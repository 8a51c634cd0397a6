use Rattle.std.proofs.Common.{◌||◌, ◌≡◌, false, true, Bool, refl, ap, ◌∙◌, sym, subst}
use Rattle.cany_model.specs.Rules.Relcan.{has_timer_ahead}
use Rattle.cany_model.specs.Rules.Totcan.{has_closing_ahead}
use Rattle.cany_node.specs.Node.{NodeParts, IsNodeOf}
use Rattle.cany_node.proofs.OwnNode.{relcan_now, totcan_now}
use Rattle.cany_node.proofs.node.Node.ahead.Goals as goal

-- of the protocols RELCAN and TOTCAN alone have something ahead
closing_ahead : (rel tot : Bool) → tot ≡ true → tot ≡ (rel || (tot || false))
closing_ahead true tot h = h
closing_ahead false true h = refl
closing_ahead false false h = refl

timer_ahead : (rel tot : Bool) → tot ≡ false → rel ≡ (rel || (tot || false))
timer_ahead true tot h = refl
timer_ahead false true h = sym h
timer_ahead false false h = refl

pub returns-then-ahead-clause-message : goal.returns-then-ahead-clause-message
returns-then-ahead-clause-message c = λ scenario past is m stands named.
    let kept = subst (IsNodeOf scenario past) (sym c.self.view_is) is in
    let i = c.args.self.now.node in
    let ours = totcan_now scenario past _ kept in
    let closing = c.ahead.ensures.message scenario past _ _ m ours stands named in
    closing ∙ closing_ahead (has_timer_ahead scenario m i past) (has_closing_ahead scenario m i past) (sym closing ∙ c.if-ahead.true)

pub returns-then-ahead-clause-no_message : goal.returns-then-ahead-clause-no_message
returns-then-ahead-clause-no_message c = λ scenario past is none.
    let kept = subst (IsNodeOf scenario past) (sym c.self.view_is) is in
    let ours = totcan_now scenario past _ kept in
    c.ahead.ensures.no_message scenario past _ _ ours none

pub returns-else-ahead-clause-message : goal.returns-else-ahead-clause-message
returns-else-ahead-clause-message c = λ scenario past is m stands named.
    let kept = subst (IsNodeOf scenario past) (sym c.self.view_is) is in
    let i = c.args.self.now.node in
    let ours = totcan_now scenario past _ kept in
    let his = relcan_now scenario past _ kept in
    let closing = c.ahead.ensures.message scenario past _ _ m ours stands named in
    c.ahead-else-ahead.ensures.message scenario past m his stands named
    ∙ ap (λ k. has_timer_ahead scenario m k past) (kept.relcan.limits.node ∙ ap (λ (v : NodeParts). v.node) c.self.view_is)
    ∙ timer_ahead (has_timer_ahead scenario m i past) (has_closing_ahead scenario m i past) (sym closing ∙ c.if-ahead.false)

pub returns-else-ahead-clause-no_message : goal.returns-else-ahead-clause-no_message
returns-else-ahead-clause-no_message c = λ scenario past is none.
    let kept = subst (IsNodeOf scenario past) (sym c.self.view_is) is in
    let his = relcan_now scenario past _ kept in
    c.ahead-else-ahead.ensures.no_message scenario past his none
