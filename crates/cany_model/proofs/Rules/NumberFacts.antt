-- The numbers of the frames of a legal scenario: each is below what every format has room for, and
-- each node is one of the bus.
use Rattle.std.proofs.Common.{◌≡◌, ℕ, suc, ◌+◌, ◌*◌, ◌/◌, ◌<◌, ◌≤◌, inl, inr, List, [], ◌∷◌, length, All, Contains, refl, ap, subst, arith}
use Rattle.std.proofs.Math.Nat.{div-lt_iff_lt-mul, mul-le-mul_left}
use Rattle.std.proofs.lemmas.Nat.{le-div}
use Rattle.std.proofs.lemmas.List.Elements.{All-head, All-tail}
use Rattle.std.proofs.lemmas.List.Sums.{count_by-le-length}
use Rattle.cany_base.specs.declared.class.Class.{Class}
use Rattle.cany_base.specs.declared.class.Class.TheVariants as class
use Rattle.cany_base.specs.declared.message.SendAsk.{SendAsk}
use Rattle.cany_base.specs.declared.message.Service.{Service}
use Rattle.cany_base.specs.declared.message.Service.TheVariants.{Ed, Rel, Tot}
use Rattle.cany_base.specs.Cycles.{cycle_of}
use Rattle.cany_base.specs.Frame.{FrameParts}
use Rattle.cany_base.specs.Limits.{most_numbers, most_sends, most_slots}
use Rattle.cany_base.specs.Params.{Parameters}
use Rattle.cany_base.specs.Scenario.{ScenarioParts, IsLegalScenario, IsSendOf}
use Rattle.cany_base.proofs.ParamsFacts.{few_slots}
use Rattle.cany_model.specs.Bus.Frames.{Identity, identity_of}
use Rattle.cany_model.specs.Rules.Knowledge.{FailureSign, fda_frame}
use Rattle.cany_model.specs.Rules.Messages.{IsOfMessage, Message, is_from, messages_after, messages_of}
use Rattle.cany_model.specs.Rules.Notices.{BelongsTo, IsDataOf, NamesNode}
use Rattle.cany_model.proofs.Among.{Among, Among-from_Contains}

-- ---- messages

-- the numbers of a message, below these bounds
pub record IsBelow (few slots nodes : ℕ) (m : Message) : Type 0 where
  pub seq : m.seq < few
  pub slot : m.slot < slots
  pub origin : m.origin < nodes

sends_below : (p : Parameters) (earlier sends : List SendAsk) (m : Message) → All (IsSendOf p) sends → Among (λ k. k ≡ m) (messages_after earlier sends)
    → IsBelow (length earlier + length sends) p.slots p.nodes m
unfolding messages_after
sends_below p earlier [] m all h = absurd h
sends_below p earlier (send ∷ sends) m all (inl e) =
    let here : IsSendOf p send = All-head (IsSendOf p) send sends all in
    let few : length earlier + length (send ∷ sends) ≡ length earlier + suc (length sends) = refl in
    subst (IsBelow (length earlier + length (send ∷ sends)) p.slots p.nodes) e
    (record { seq = omega (arith, count_by-le-length (is_from send.node) earlier); slot = here.0; origin = here.1 })
sends_below p earlier (send ∷ sends) m all (inr h) =
    let rest = sends_below p (send ∷ earlier) sends m (All-tail (IsSendOf p) send sends all) h in
    record { seq = omega (arith, rest.seq); slot = rest.slot; origin = rest.origin }

pub message_below : (scenario : ScenarioParts) (m : Message) → IsLegalScenario scenario → Contains (messages_of scenario.sends) m
    → IsBelow most_sends scenario.params.slots scenario.params.nodes m
message_below scenario m legal stands =
    let all = sends_below scenario.params [] scenario.sends m legal.sends (Among-from_Contains (messages_of scenario.sends) m stands) in
    record { seq = omega (arith, all.seq, legal.few_sends); slot = all.slot; origin = all.origin }

-- ---- frames

-- the number is below what every format has room for, and the node is one of the bus
pub record IsSmall (scenario : ScenarioParts) (x : Identity) : Type 0 where
  pub number : x.number < most_numbers
  pub node : x.node < scenario.params.nodes

-- what names a frame of a message
pub message_is_small : (scenario : ScenarioParts) (by : Service) (x : Identity) → IsLegalScenario scenario → IsOfMessage scenario by x → IsSmall scenario x
message_is_small scenario by x legal m =
    let range = message_below scenario m.message legal m.stands in
    record { number = omega (arith, range.seq, m.number); node = omega (arith, range.origin, m.origin) }

-- the number of so many intervals in a run, where an interval has 17 slots at least
intervals_few : (slot slots interval number : ℕ) → slot < slots → slots ≤ most_slots → 17 ≤ interval → number ≤ slot / interval → number < most_numbers
intervals_few slot slots interval number h few long n =
    let some : 0 < interval = omega (arith, long) in
    let more : most_numbers * 17 ≤ most_numbers * interval = mul-le-mul_left most_numbers long in
    let below : slot / interval < most_numbers = (div-lt_iff_lt-mul some).1 (omega (arith, h, few, more)) in
    omega (arith, below, n)

-- the bound of a legal scenario has 17 slots at least, and so have its cycle and its interval of
-- life signs
pub bound_long : (scenario : ScenarioParts) → IsLegalScenario scenario → 17 ≤ scenario.params.bound
bound_long scenario legal =
    let nodes : 2 ≤ scenario.params.nodes = legal.in_range.nodes.0 in
    let square : 3 * scenario.params.nodes * 2 ≤ 3 * scenario.params.nodes * scenario.params.nodes = mul-le-mul_left (3 * scenario.params.nodes) nodes in
    omega (arith, nodes, square, legal.formulas.bound)

node_is_small : (scenario : ScenarioParts) (interval slot : ℕ) (f : FrameParts) → IsLegalScenario scenario → slot < scenario.params.slots → 17 ≤ interval
    → NamesNode scenario interval slot f → IsSmall scenario (identity_of f)
node_is_small scenario interval slot f legal within long h = record {
  number = intervals_few slot scenario.params.slots interval f.number within (few_slots scenario.params legal.in_range) long h.number;
  node = h.node;
}

-- a frame that a node of the scenario can have read in a slot of the run
pub belongs_small : (scenario : ScenarioParts) (slot : ℕ) (f : FrameParts) → IsLegalScenario scenario → slot < scenario.params.slots → BelongsTo scenario slot f.class f
    → IsSmall scenario (identity_of f)
belongs_small scenario slot f legal within h = by_class f.class h
  where
    bound : 17 ≤ scenario.params.bound
    bound = bound_long scenario legal

    cycle : 17 ≤ scenario.params.cycle
    cycle = omega (arith, bound, legal.formulas.cycle)

    life : 17 ≤ scenario.params.life
    life = omega (arith, bound, legal.formulas.life)

    of_data : (by : Service) → IsDataOf scenario by f → IsSmall scenario (identity_of f)
    of_data by d =
        let number : d.message.seq ≡ f.number = ap (λ (g : FrameParts). g.number) d.frame in
        let origin : d.message.origin ≡ f.node = ap (λ (g : FrameParts). g.node) d.frame in
        message_is_small scenario by (identity_of f) legal
        (record { message = d.message; stands = d.stands; sent_by = d.sent_by; number = number; origin = origin })

    by_class : (c : Class) → BelongsTo scenario slot c f → IsSmall scenario (identity_of f)
    by_class class.Accept m = message_is_small scenario Tot (identity_of f) legal m
    by_class class.Rha n = node_is_small scenario scenario.params.cycle slot f legal within cycle n
    by_class class.Els n =
        node_is_small scenario scenario.params.life slot f legal within life
        (record { node = n.node; number = le-div f.number slot scenario.params.life (omega (arith, life)) n.passed })
    by_class class.Fda n = node_is_small scenario scenario.params.cycle slot f legal within cycle n
    by_class class.Join n = node_is_small scenario scenario.params.cycle slot f legal within cycle n
    by_class class.Leave n = node_is_small scenario scenario.params.cycle slot f legal within cycle n
    by_class class.Confirm m = message_is_small scenario Rel (identity_of f) legal m
    by_class class.Tot d = of_data Tot d
    by_class class.Rel d = of_data Rel d
    by_class class.Ed d = of_data Ed d

-- frames can have the number of each cycle of the run
pub cycle_small : (scenario : ScenarioParts) → IsLegalScenario scenario → (slot : ℕ) → slot < scenario.params.slots
    → cycle_of scenario.params slot < most_numbers
cycle_small scenario legal slot within =
    let sign : FailureSign = record { node = 0; cycle = cycle_of scenario.params slot } in
    (belongs_small scenario slot (fda_frame sign) legal within (record { node = omega (arith, legal.in_range.nodes.0); number = omega arith })).number
