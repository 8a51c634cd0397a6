-- What a value stands for once nodes are admitted.
use Rattle.std.specs.Prelude.{nat_lt}
use Rattle.std.proofs.Common.{◌≡◌, ℕ, ◌<◌, ◌&&◌, not, if◌then◌else◌, List, length, get_or, ap, sym, ◌∙◌, arith}
use Rattle.cany_base.specs.declared.notice.NoticeKind.{NoticeKind}
use Rattle.cany_base.specs.Limits.{most_nodes}
use Rattle.cany_base.specs.Nodes.{Nodes, has, minus}
use Rattle.cany_base.specs.Scenario.{ScenarioParts}
use Rattle.cany_base.proofs.NodesFacts.{has-those_where}
use Rattle.cany_base.proofs.ParamsFacts.{few_nodes}
use Rattle.cany_model.specs.Rules.Knowledge.{Knowledge, after_admitting}
use Rattle.cany_life.specs.Life.{IsLifeOf, LifeParts}

module _ (scenario : ScenarioParts) (i : ℕ) (past : List NoticeKind) (knowledge : Knowledge) (v : LifeParts) (newly : Nodes) (slot : ℕ)
    (h : IsLifeOf scenario i past knowledge v) where
  pub admitted : (failed : Nodes) (shown : List ℕ) (last : ℕ) → failed ≡ minus v.failed newly → length shown ≡ most_nodes
      → ((r : ℕ) → r < most_nodes → get_or shown r 0 ≡ (if has newly r then slot else get_or v.shown r 0))
      → last ≡ (if has newly i then slot else v.last)
      → IsLifeOf scenario i past (after_admitting i slot newly knowledge) (record v { failed = failed; shown = shown; last = last })
  admitted failed shown last fewer nodes same latest = record {
    limits = h.limits;
    failed = λ r.
        ap (λ s. has s r) fewer
        ∙ has-those_where (λ q. has v.failed q && not (has newly q)) r
        ∙ ap (λ b. nat_lt r most_nodes && (b && not (has newly r))) (h.failed r)
        ∙ sym (has-those_where (λ q. has knowledge.failed q && not (has newly q)) r);
    signs = h.signs;
    copies = h.copies;
    lives = record {
      nodes = nodes;
      are_shown = λ r below.
          same r (omega (arith, below, few_nodes scenario.params h.limits.legal.in_range))
          ∙ ap (λ n. if has newly r then slot else n) (h.lives.are_shown r below);
      is_last = latest ∙ ap (λ n. if has newly i then slot else n) h.lives.is_last;
      are_sent = h.lives.are_sent;
      few = h.lives.few;
    };
  }
