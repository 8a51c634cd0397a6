-- Sets of messages: which are there, and that there is a place for each message of a scenario.
use Rattle.std.proofs.Common.{◌≡◌, ℕ, zero, suc, ◌+◌, ◌<◌, ◌≤◌, max, inl, inr, if◌then◌else◌, false, List, count_by, get_or, length, replicate, refl, ap, ◌∙◌, arith}
use Rattle.std.proofs.lemmas.Bool.{cases_eq, cases_lt, ne_eqb}
use Rattle.std.proofs.lemmas.List.{get_or-replicate, get_or_past, length-replicate}
use Rattle.cany_base.specs.declared.message.SendAsk.{SendAsk}
use Rattle.cany_base.specs.declared.message.Service.TheVariants as service
use Rattle.cany_base.specs.Nodes.{Nodes, has, nobody}
use Rattle.cany_base.specs.Scenario.{ScenarioParts}
use Rattle.cany_base.proofs.NodesFacts.{has_none}
use Rattle.cany_message.proofs.NumberFacts.{some_send}
use Rattle.cany_model.specs.Bus.Frames.{Identity}
use Rattle.cany_model.specs.Rules.Messages.{IsOfMessage, is_from}
use Rattle.cany_model.specs.Rules.Rooms.{sends_by}
use Rattle.cany_totcan.specs.MessageSet.{MessageSetParts, has_message, most_of_one, numbers_of}
use Rattle.cany_totcan.proofs.OwnFacts.{seq_below}

-- ---- no message

-- there is none of a number that has no place
pub none_past : (v : MessageSetParts) (seq origin : ℕ) → length v.origins ≤ seq → has_message v seq origin ≡ false
none_past v seq origin past = ap (λ nodes. has nodes origin) (get_or_past v.origins seq nobody past) ∙ has_none origin

nobody_at : (n seq : ℕ) → get_or (replicate n nobody) seq nobody ≡ nobody
nobody_at n seq = elim (cases_lt seq n) [
  | inl within ↦ get_or-replicate n seq nobody nobody within
  | inr past ↦ get_or_past (replicate n nobody) seq nobody (omega (arith, past, length-replicate {A = Nodes} n nobody))
]

pub has_no_message : (n : ℕ) (v : MessageSetParts) → v.origins ≡ replicate n nobody → (seq origin : ℕ) → has_message v seq origin ≡ false
has_no_message n v is seq origin =
    ap (λ (origins : List Nodes). has (get_or origins seq nobody) origin) is ∙ ap (λ nodes. has nodes origin) (nobody_at n seq) ∙ has_none origin

-- ---- the numbers of messages

pub most_of_none : (sends : List SendAsk) → 0 ≡ most_of_one sends 0
unfolding most_of_one
most_of_none sends = refl

pub most_of_more : (sends : List SendAsk) (nodes : ℕ) → most_of_one sends (nodes + 1) ≡ max (count_by (is_from nodes) sends) (most_of_one sends nodes)
unfolding most_of_one
most_of_more sends nodes =
    let next : nodes + 1 ≡ suc nodes = omega arith in
    ap (most_of_one sends) next

-- each of these nodes has at most so many
most_above : (sends : List SendAsk) (nodes i : ℕ) → i < nodes → count_by (is_from i) sends ≤ most_of_one sends nodes
unfolding most_of_one
most_above sends zero i within = omega (arith, within)
most_above sends (suc nodes) i within = elim (cases_eq i nodes) [
  | inl last ↦ omega (arith, ap (λ n. count_by (is_from n) sends) last)
  | inr other ↦ omega (arith, most_above sends nodes i (omega (arith, within, other)))
]

pub below_numbers : (scenario : ScenarioParts) (x : Identity) → IsOfMessage scenario service.Tot x → x.node < scenario.params.nodes → x.number < numbers_of scenario
below_numbers scenario x is near =
    let some : 0 < sends_by scenario service.Tot = some_send scenario service.Tot x is in
    let most = most_of_one scenario.sends scenario.params.nodes in
    let whole : numbers_of scenario ≡ most =
    ap (λ b. if b then 0 else most) (ne_eqb (sends_by scenario service.Tot) 0 (λ none. omega (arith, some, none))) in
    omega (arith, whole, seq_below scenario is.message is.stands, most_above scenario.sends scenario.params.nodes is.message.origin (omega (arith, is.origin, near)), is.number)
