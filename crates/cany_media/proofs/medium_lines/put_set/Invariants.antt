use Rattle.std.proofs.Common.{◌≡◌, ◌++◌}
use Rattle.cany_media.proofs.TextFacts.{is_nil, nodes_below, some_text}
use Rattle.cany_media.proofs.medium_lines.put_set.Given as goal

-- the numbers of the nodes so far
abbrev pub invariant-loop-number : goal.invariant-loop-number
invariant-loop-number l = record {
  text : l.text.items ≡ l.fn.text.items ++ some_text (nodes_below l.nodes l.number);
  first : l.is_first ≡ is_nil (nodes_below l.nodes l.number);
}
