use Rattle.std.proofs.Common.{◌≡◌, ◌+◌, ◌∷◌, ◌++◌, [], true, false, arith, ap, sym, ◌∙◌, append-nil}
use Rattle.cany_media.proofs.TextFacts.{is_nil, next_listed, nodes_below, nodes_more, not_nil, set_none, set_some, some_text}
use Rattle.cany_media.proofs.medium_lines.put_set.Goals as goal
use Rattle.cany_media.proofs.medium_lines.put_set.Goals.{then-has+in_ok-put_next, else-has}

pub loop-number-preserved : goal.loop-number-preserved
loop-number-preserved c =
    let nodes = c.args.nodes in
    let n = c.loop-number.number in
    let old = c.args.text.now.items in
    elim c.if-has.branch [
      | then-has+in_ok-put_next w ↦
          let more : nodes_below nodes (n + 1) ≡ nodes_below nodes n ++ n ∷ [] = nodes_more nodes n true (sym c.has.ensures ∙ w.if-has.true) in
          record {
            text = ap (λ t. t.items) w.text-is
                ∙ next_listed old c.loop-number.text.items w.put_next.new.text.items (nodes_below nodes n) n c.loop-number.is_first
                c.loop-number.invariant.text c.loop-number.invariant.first w.in_ok-put_next.ensures
                ∙ ap (λ ns. old ++ some_text ns) (sym more);
            first = w.is_first-is ∙ not_nil (nodes_below nodes n) n ∙ ap is_nil (sym more);
          }
      | else-has w ↦
          let more : nodes_below nodes (n + 1) ≡ nodes_below nodes n = nodes_more nodes n false (sym c.has.ensures ∙ w.if-has.false) ∙ append-nil (nodes_below nodes n) in
          record {
            text = ap (λ t. t.items) w.text-is ∙ c.loop-number.invariant.text ∙ ap (λ ns. old ++ some_text ns) (sym more);
            first = w.is_first-is ∙ c.loop-number.invariant.first ∙ ap is_nil (sym more);
          }
    ]

pub returns-in_ok-put : goal.returns-in_ok-put
returns-in_ok-put c =
    let all : c.loop-number.number ≡ 64 = omega arith in
    let nil : is_nil (nodes_below c.args.nodes 64) ≡ true = ap (λ n. is_nil (nodes_below c.args.nodes n)) (sym all) ∙ sym c.loop-number.invariant.first ∙ c.if-is_first.true in
    c.in_ok-put.ensures ∙ rw (c.loop-number.invariant.text, all) (set_none c.args.text.now.items c.args.nodes nil)

pub returns-else-is_first : goal.returns-else-is_first
returns-else-is_first c =
    let all : c.loop-number.number ≡ 64 = omega arith in
    let some : is_nil (nodes_below c.args.nodes 64) ≡ false = ap (λ n. is_nil (nodes_below c.args.nodes n)) (sym all) ∙ sym c.loop-number.invariant.first ∙ c.if-is_first.false in
    c.loop-number.invariant.text ∙ rw all (set_some c.args.text.now.items c.args.nodes some)
