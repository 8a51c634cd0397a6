-- What the exchange of vectors does in a turn, and the vector that a node has after it.
use Rattle.std.proofs.Common.{◌≡◌, ℕ, ◌%◌, ◌==◌, ◌&&◌, ◌<◌, ◌++◌, inl, inr, true, false, if◌then◌else◌, List, [], ◌∷◌, length, Option, Some, None, nat_lt, nat_le, refl, ap, ◌∙◌, arith}
use Rattle.std.specs.List.{AllByRecursion}
use Rattle.std.proofs.lemmas.Bool.{and_parts, both_ways, cond-false, cond-true, cond_both, eqb-true, false_from_ne_true, ltb-true}
use Rattle.cany_base.specs.declared.class.Class.TheVariants as class
use Rattle.cany_base.specs.declared.format.Format.{Format}
use Rattle.cany_base.specs.declared.notice.NoticeKind.{NoticeKind}
use Rattle.cany_base.specs.declared.notice.NoticeKind.TheVariants.{Idle, Got, Sent, Bad}
use Rattle.cany_base.specs.Frame.{FrameParts}
use Rattle.cany_base.specs.Nodes.{Nodes, has}
use Rattle.cany_base.specs.Params.{Parameters}
use Rattle.cany_base.specs.Payload.{vector_of}
use Rattle.cany_base.specs.Scenario.{ScenarioParts}
use Rattle.cany_base.proofs.NodesFacts.{has_none}
use Rattle.cany_model.specs.Bus.Frames.{same_class}
use Rattle.cany_model.specs.Rules.Effect.{Effect, Ask, Withdraw}
use Rattle.cany_model.specs.Rules.Membership.{exchange_effects, vectors}
use Rattle.cany_model.specs.Rules.KnowledgeOf.{after_installing, start_in, knowledge_of}
use Rattle.cany_model.specs.Rules.Knowledge.{Knowledge, knowledge_at_first}
use Rattle.cany_model.specs.Rules.Vectors.{after_exchange, brought, end_effects, ended, exchange_at, is_covered, is_new, met, met_with, rha_frame, rha_of, start_effects, vector_effects, vector_in}
use Rattle.cany_base.specs.Cycles.{cycle_of, is_end, is_exchange, is_start}
use Rattle.cany_model.specs.Rules.Views.{start_of, start_vector}
use Rattle.cany_model.proofs.Among.{Each-append}
use Rattle.cany_model.proofs.Bus.Identities.{same_class-true}
use Rattle.cany_model.proofs.Rules.IdleBeforeTakingPart.{IsBegun, begun_before}
use Rattle.cany_model.proofs.Rules.Services.NoDelivery.{undelivering_is_lawful}
use Rattle.cany_model.proofs.Rules.ProtocolFacts.{IsExchanged, IsFounded, IsLawful, IsTaken, exchanges, settles}
use Rattle.cany_model.proofs.Rules.Site.KnowledgeFacts.{begun_knowledge, outside, outside_installs}
use Rattle.cany_model.proofs.Rules.Site.KnowledgeSteps.{vector_after}

-- ---- a membership cycle

pub start_cycle : (p : Parameters) (slot : ℕ) → is_start p slot ≡ true → 0 < cycle_of p slot
start_cycle p slot h = ltb-true 0 (cycle_of p slot) (and_parts (slot % p.cycle == 0) (nat_lt 0 (cycle_of p slot)) h).1

pub exchange_cycle : (p : Parameters) (slot : ℕ) → is_exchange p slot ≡ true → 0 < cycle_of p slot
exchange_cycle p slot h =
    ltb-true 0 (cycle_of p slot) (and_parts (nat_lt 0 (slot % p.cycle) && nat_le (slot % p.cycle) p.bound) (nat_lt 0 (cycle_of p slot)) h).1

pub end_cycle : (p : Parameters) (slot : ℕ) → is_end p slot ≡ true → 0 < cycle_of p slot
end_cycle p slot h = ltb-true 0 (cycle_of p slot) (and_parts (slot % p.cycle == p.bound) (nat_lt 0 (cycle_of p slot)) h).1

-- vectors are exchanged only after the start
pub exchange_no_start : (p : Parameters) (slot : ℕ) → is_exchange p slot ≡ true → is_start p slot ≡ false
exchange_no_start p slot h = false_from_ne_true (is_start p slot) (λ start.
    let later = and_parts (nat_lt 0 (slot % p.cycle) && nat_le (slot % p.cycle) p.bound) (nat_lt 0 (cycle_of p slot)) h in
    let some : 0 < slot % p.cycle =
    ltb-true 0 (slot % p.cycle) (and_parts (nat_lt 0 (slot % p.cycle)) (nat_le (slot % p.cycle) p.bound) later.0).0 in
    let none : slot % p.cycle ≡ 0 = eqb-true (slot % p.cycle) 0 (and_parts (slot % p.cycle == 0) (nat_lt 0 (cycle_of p slot)) start).0 in
    omega (arith, some, none))

-- a notice brings a vector only while vectors are exchanged
pub brought_exchanged : (p : Parameters) (slot : ℕ) (e : NoticeKind) (w : Nodes) → brought p slot e ≡ Some w → is_exchange p slot ≡ true
unfolding brought
brought_exchanged p slot Idle w h = cc
brought_exchanged p slot Bad w h = cc
brought_exchanged p slot (Sent f) w h = cc
brought_exchanged p slot (Got f) w h =
    cond_both (is_exchange p slot) (vector_in p.format (cycle_of p slot) f) None (λ o. o ≡ Some w → is_exchange p slot ≡ true)
    (λ yes _. yes) (λ no some. cc) h

-- a frame that carries a vector of a cycle is of its class, and tells its number
pub carries_vector : (format : Format) (cycle : ℕ) (f : FrameParts) (w : Nodes) → vector_in format cycle f ≡ Some w
    → (f.class ≡ class.Rha) × (f.number ≡ cycle)
carries_vector format cycle f w h =
    cond_both (same_class f.class class.Rha && f.number == cycle) (vector_of format f.payload) None
    (λ o. o ≡ Some w → (f.class ≡ class.Rha) × (f.number ≡ cycle))
    (λ is _. let parts = and_parts (same_class f.class class.Rha) (f.number == cycle) is in
    (same_class-true f.class class.Rha parts.0, eqb-true f.number cycle parts.1))
    (λ no some. cc) h

-- so such a notice is that of one of the cycle
taken : (scenario : ScenarioParts) (slot : ℕ) (e : NoticeKind) (past : List NoticeKind) (w : Nodes)
    → brought scenario.params slot e ≡ Some w → IsTaken scenario (e ∷ past) slot
unfolding brought
taken scenario slot Idle past w h = cc
taken scenario slot Bad past w h = cc
taken scenario slot (Sent f) past w h = cc
taken scenario slot (Got f) past w h =
    let p : Parameters = scenario.params in
    cond_both (is_exchange p slot) (vector_in p.format (cycle_of p slot) f) None (λ o. o ≡ Some w → IsTaken scenario (Got f ∷ past) slot)
    (λ exchange some.
    let is = carries_vector p.format (cycle_of p slot) f w some in
    record { frame = f; read = inl refl; class = is.0; number = is.1; exchange = exchange })
    (λ no some. cc) h

-- ---- the vector after a turn

-- the vector of a node comes to be what the exchange makes of it, and by nothing else
pub knowledge_vector : (scenario : ScenarioParts) (i : ℕ) (e : NoticeKind) (past : List NoticeKind)
    → (knowledge_of scenario i (e ∷ past)).vector
    ≡ after_exchange scenario.params (length past) e (start_in scenario.params i (length past) e (knowledge_of scenario i past))
    (knowledge_of scenario i past).vector
unfolding knowledge_of
knowledge_vector scenario i e past = vector_after scenario.params i (length past) e (knowledge_of scenario i past)

-- while vectors are exchanged, before the end, it is met with the one that the notice brings
pub vector_met : (scenario : ScenarioParts) (i : ℕ) (e : NoticeKind) (past : List NoticeKind)
    → is_start scenario.params (length past) ≡ false → is_end scenario.params (length past) ≡ false
    → (knowledge_of scenario i (e ∷ past)).vector
    ≡ met scenario.params (knowledge_of scenario i past).vector (brought scenario.params (length past) e)
vector_met scenario i e past start last =
    let p : Parameters = scenario.params in
    let slot : ℕ = length past in
    let st : Knowledge = knowledge_of scenario i past in
    knowledge_vector scenario i e past
    ∙ cond-false (is_start p slot) (start_in p i slot e st) (if is_end p slot then None else met p st.vector (brought p slot e)) start
    ∙ cond-false (is_end p slot) None (met p st.vector (brought p slot e)) last

-- and at the start it is what the node starts with
pub vector_starts : (scenario : ScenarioParts) (i : ℕ) (e : NoticeKind) (past : List NoticeKind)
    → is_start scenario.params (length past) ≡ true
    → (knowledge_of scenario i (e ∷ past)).vector ≡ start_in scenario.params i (length past) e (knowledge_of scenario i past)
vector_starts scenario i e past start =
    let p : Parameters = scenario.params in
    let slot : ℕ = length past in
    let st : Knowledge = knowledge_of scenario i past in
    knowledge_vector scenario i e past
    ∙ cond-true (is_start p slot) (start_in p i slot e st) (if is_end p slot then None else met p st.vector (brought p slot e)) start

-- ---- each effect is founded

names_rha : vectors.names class.Rha ≡ true
unfolding same_class
names_rha = refl

-- the vector that was met, where the notice brings one
met_now : (p : Parameters) (old o : Option Nodes) (w : Nodes) → o ≡ Some w → met p old o ≡ Some (met_with p old w)
unfolding met
met_now p old o w is = ap (met p old) is

-- at a vector that was brought the node may send the one that it has met
met_exchanged : (scenario : ScenarioParts) (i : ℕ) (e : NoticeKind) (past : List NoticeKind) (w : Nodes)
    → brought scenario.params (length past) e ≡ Some w
    → IsExchanged scenario i (e ∷ past) (length past) (met_with scenario.params (knowledge_of scenario i past).vector w)
met_exchanged scenario i e past w is =
    let p : Parameters = scenario.params in
    let during = brought_exchanged p (length past) e w is in
    record {
      now = refl;
      cycle = exchange_cycle p (length past) during;
      during = inr (taken scenario (length past) e past w is);
      vector = λ why. elim why [
        | inl start ↦ absurd (both_ways (is_start p (length past)) (exchange_no_start p (length past) during) start)
        | inr before_end ↦
            vector_met scenario i e past (exchange_no_start p (length past) during) before_end
            ∙ met_now p (knowledge_of scenario i past).vector (brought p (length past) e) w is
      ];
    }

-- at the start of a cycle it may send what it starts with
start_exchanged : (scenario : ScenarioParts) (i : ℕ) (e : NoticeKind) (past : List NoticeKind) (v : Nodes)
    → is_start scenario.params (length past) ≡ true → start_in scenario.params i (length past) e (knowledge_of scenario i past) ≡ Some v
    → IsExchanged scenario i (e ∷ past) (length past) v
start_exchanged scenario i e past v start is = record {
  now = refl;
  cycle = start_cycle scenario.params (length past) start;
  during = inl start;
  vector = λ _. vector_starts scenario i e past start ∙ is;
}

brought_founded : (scenario : ScenarioParts) (i : ℕ) (e : NoticeKind) (past : List NoticeKind) (o : Option Nodes)
    → brought scenario.params (length past) e ≡ o
    → AllByRecursion (IsFounded scenario vectors i (e ∷ past))
    (vector_effects scenario.params scenario.inc i (length past) (e ∷ past) (knowledge_of scenario i past).vector o)
unfolding vector_effects
brought_founded scenario i e past None is = tt
brought_founded scenario i e past (Some w) is =
    let p : Parameters = scenario.params in
    let slot : ℕ = length past in
    let old : Option Nodes = (knowledge_of scenario i past).vector in
    let v : Nodes = met_with p old w in
    let P : List Effect → Type 0 = AllByRecursion (IsFounded scenario vectors i (e ∷ past)) in
    cond_both (is_covered p (cycle_of p slot) i v (e ∷ past)) (Withdraw (rha_of (cycle_of p slot) i) ∷ [])
    (if is_new old v then Ask (rha_frame p.format scenario.inc (cycle_of p slot) i v) ∷ [] else []) P
    (λ _. ((settles slot (refl, inl (brought_exchanged p slot e w is)) refl, names_rha), tt))
    (λ _. cond_both (is_new old v) (Ask (rha_frame p.format scenario.inc (cycle_of p slot) i v) ∷ []) [] P
    (λ _. ((exchanges slot v (met_exchanged scenario i e past w is) refl, names_rha), tt)) (λ _. tt))

given_up_founded : (scenario : ScenarioParts) (i : ℕ) (e : NoticeKind) (past : List NoticeKind) (m : Option Nodes)
    → is_end scenario.params (length past) ≡ true
    → AllByRecursion (IsFounded scenario vectors i (e ∷ past)) (end_effects scenario.params i (length past) m)
unfolding end_effects
given_up_founded scenario i e past None ends = tt
given_up_founded scenario i e past (Some v) ends = ((settles (length past) (refl, inr ends) refl, names_rha), tt)

end_founded : (scenario : ScenarioParts) (i : ℕ) (e : NoticeKind) (past : List NoticeKind) (m : Option Nodes)
    → AllByRecursion (IsFounded scenario vectors i (e ∷ past))
    (end_effects scenario.params i (length past) (ended scenario.params (length past) m))
unfolding end_effects
end_founded scenario i e past m =
    cond_both (is_end scenario.params (length past)) m None
    (λ o. AllByRecursion (IsFounded scenario vectors i (e ∷ past)) (end_effects scenario.params i (length past) o))
    (given_up_founded scenario i e past m) (λ _. tt)

start_founded : (scenario : ScenarioParts) (i : ℕ) (e : NoticeKind) (past : List NoticeKind) (o : Option Nodes)
    → start_in scenario.params i (length past) e (knowledge_of scenario i past) ≡ o
    → AllByRecursion (IsFounded scenario vectors i (e ∷ past)) (start_effects scenario.params scenario.inc i (length past) o)
unfolding start_effects
start_founded scenario i e past None is = tt
start_founded scenario i e past (Some v) is =
    let p : Parameters = scenario.params in
    let slot : ℕ = length past in
    cond_both (is_start p slot) (Ask (rha_frame p.format scenario.inc (cycle_of p slot) i v) ∷ []) []
    (AllByRecursion (IsFounded scenario vectors i (e ∷ past)))
    (λ start. ((exchanges slot v (start_exchanged scenario i e past v start is) refl, names_rha), tt)) (λ _. tt)

vectors_founded : (scenario : ScenarioParts) (i : ℕ) (past : List NoticeKind)
    → AllByRecursion (IsFounded scenario vectors i past) (exchange_effects scenario i past)
unfolding exchange_effects exchange_at
vectors_founded scenario i [] = tt
vectors_founded scenario i (e ∷ past) =
    let p : Parameters = scenario.params in
    let slot : ℕ = length past in
    let st : Knowledge = knowledge_of scenario i past in
    let P : Effect → Type 0 = IsFounded scenario vectors i (e ∷ past) in
    let m : Option Nodes = met p st.vector (brought p slot e) in
    let a : List Effect = vector_effects p scenario.inc i slot (e ∷ past) st.vector (brought p slot e) in
    let b : List Effect = end_effects p i slot (ended p slot m) in
    let c : List Effect = start_effects p scenario.inc i slot (start_in p i slot e st) in
    Each-append P (a ++ b) c
    (Each-append P a b (brought_founded scenario i e past (brought p slot e) refl) (end_founded scenario i e past m))
    (start_founded scenario i e past (start_in p i slot e st) refl)

-- ---- a node that has only begun

-- it starts no cycle with a vector, since it is no member
start_none : (p : Parameters) (i slot : ℕ) → start_in p i slot Idle outside ≡ None
start_none p i slot =
    let now : Knowledge = after_installing p i slot Idle outside in
    let view : has now.members i ≡ false = ap (λ (st : Knowledge). has st.members i) (outside_installs p i slot) ∙ has_none i in
    cond_both (is_start p slot) (start_of i now) None (λ o. o ≡ None)
    (λ _. cond-false (has now.members i) (Some (start_vector now)) None view) (λ _. refl)

-- and it exchanges none
idle_exchange : (p : Parameters) (inc i : ℕ) (past : List NoticeKind) → exchange_at p inc i Idle past None None ≡ []
unfolding exchange_at vector_effects brought met end_effects start_effects
idle_exchange p inc i past =
    cond_both (is_end p (length past)) None None (λ o. end_effects p i (length past) o ++ [] ≡ []) (λ _. refl) (λ _. refl)

vectors_muted : (scenario : ScenarioParts) (i : ℕ) (e : NoticeKind) (past : List NoticeKind) → IsBegun scenario (e ∷ past) → exchange_effects scenario i (e ∷ past) ≡ []
unfolding exchange_effects
vectors_muted scenario i e past begun =
    let p : Parameters = scenario.params in
    ap (λ n. exchange_effects scenario i (n ∷ past)) begun.idle.0
    ∙ ap (λ st. exchange_at p scenario.inc i Idle past st.vector (start_in p i (length past) Idle st))
    (begun_knowledge scenario i past (begun_before scenario e past begun) ∙ ap knowledge_at_first (begun.outside (omega arith)))
    ∙ ap (exchange_at p scenario.inc i Idle past None) (start_none p i (length past))
    ∙ idle_exchange p scenario.inc i past

pub vectors_are_lawful : IsLawful vectors
unfolding exchange_effects
vectors_are_lawful = undelivering_is_lawful vectors (λ by. refl) (λ scenario m i past. refl) (λ scenario i. refl) vectors_muted vectors_founded
