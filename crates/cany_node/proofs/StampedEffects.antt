-- What a turn asks for tells the incarnation, so that stamping it into what the protocols list
-- gives just the turn.
use Rattle.std.proofs.Common.{◌≡◌, ℕ, Bool, true, false, if◌then◌else◌, List, [], ◌∷◌, ◌++◌, length, Option, Some, None, count_by, refl, ap, sym, ◌∙◌, subst, arith, append-nil, append_assoc}
use Rattle.std.specs.List.{AllByRecursion, flat_map}
use Rattle.std.proofs.lemmas.List.{map-append}
use Rattle.cany_base.specs.declared.class.Class.{Class}
use Rattle.cany_base.specs.declared.class.Class.TheVariants as class
use Rattle.cany_base.specs.declared.message.NodeAsk.{NodeAsk}
use Rattle.cany_base.specs.declared.message.Service.{Service}
use Rattle.cany_base.specs.declared.message.Service.TheVariants as service
use Rattle.cany_base.specs.declared.notice.NoticeKind.{NoticeKind}
use Rattle.cany_base.specs.Frame.{FrameParts, data_class, has_incarnation}
use Rattle.cany_base.specs.Nodes.{Nodes, has}
use Rattle.cany_base.specs.Params.{Parameters}
use Rattle.cany_base.specs.Scenario.{ScenarioParts}
use Rattle.cany_model.specs.Rules.Backlog.{backlog_effects, tot_backlog}
use Rattle.cany_model.specs.Rules.Edcan.{edcan, edcan_effects}
use Rattle.cany_model.specs.Rules.Effect.{Effect, Ask, Withdraw, Enter}
use Rattle.cany_model.specs.Rules.Life.{els_frame, failure_effects, failure_signs, is_due, life_effects, life_sign, life_signs_sent}
use Rattle.cany_model.specs.Rules.Membership.{ask_effects, asks_in, exchange_effects, install_effects, views}
use Rattle.cany_model.specs.Rules.Messages.{data_frame}
use Rattle.cany_model.specs.Rules.Protocol.{Protocol}
use Rattle.cany_model.specs.Rules.Relcan.{relcan, relcan_effects}
use Rattle.cany_model.specs.Rules.Sends.{scripted_sends, send_effects}
use Rattle.cany_model.specs.Rules.KnowledgeOf.{start_in, knowledge_of}
use Rattle.cany_model.specs.Rules.Totcan.{totcan, totcan_effects}
use Rattle.cany_model.specs.Rules.Turn.{turn_effects}
use Rattle.cany_model.specs.Rules.Vectors.{brought, end_effects, ended, exchange_at, is_covered, is_new, met, met_with, rha_frame, rha_of, start_effects, vector_effects}
use Rattle.cany_base.specs.Cycles.{cycle_of, is_start}
use Rattle.cany_model.specs.Rules.Views.{ask_frame, join_asked, leave_asked}
use Rattle.cany_model.proofs.Rules.ProtocolFacts.{IsFounded, IsLawful, MayAsk, accepts, confirms, exchanges, is_relayed, lives, originates, relays, requests, signals}
use Rattle.cany_model.proofs.Rules.Services.BacklogFacts.{backlog_is_lawful}
use Rattle.cany_model.proofs.Rules.Services.EdcanFacts.{edcan_is_lawful}
use Rattle.cany_model.proofs.Rules.Site.LifeFacts.{failures_are_lawful}
use Rattle.cany_model.proofs.Rules.Services.RelcanFacts.{relcan_is_lawful}
use Rattle.cany_model.proofs.Rules.Services.SendFacts.{sends_are_lawful}
use Rattle.cany_model.proofs.Rules.Services.TotcanFacts.{totcan_is_lawful}
use Rattle.cany_model.proofs.Rules.Site.ViewFacts.{views_are_lawful}
use Rattle.cany_model.proofs.Among.{count-cons}
use Rattle.cany_model.specs.Rules.Knowledge.{Knowledge}
use Rattle.cany_node.specs.Apply.{NamesAskable, all_stamped, asks_sign}
use Rattle.cany_node.specs.Membership.{exchange_plain, life_plain, membership_effects}
use Rattle.cany_node.specs.Stamping.{stamped_effect, with_incarnation}
use Rattle.cany_node.specs.Turning.{asks_plain, heard_effects, plain_effects, script_effects}

-- ---- frames that tell the incarnation already, or none

plain_same : (inc : ℕ) (f : FrameParts) → has_incarnation f.class ≡ false → with_incarnation inc f ≡ f
plain_same inc f plain = ap (λ stamped. record f { inc = if stamped then inc else f.inc }) plain

own_same : (inc : ℕ) (f : FrameParts) → f.inc ≡ inc → with_incarnation inc f ≡ f
own_same inc f own =
    ap (λ n. record f { inc = if has_incarnation f.class then n else f.inc }) (sym own) ∙ by_class (has_incarnation f.class)
  where
    by_class : (stamped : Bool) → record f { inc = if stamped then f.inc else f.inc } ≡ f
    by_class true = refl
    by_class false = refl

relayed_plain : (c : Class) → is_relayed c ≡ true → has_incarnation c ≡ false
relayed_plain class.Accept h = refl
relayed_plain class.Rha h = sym h
relayed_plain class.Els h = sym h
relayed_plain class.Fda h = refl
relayed_plain class.Join h = sym h
relayed_plain class.Leave h = sym h
relayed_plain class.Confirm h = refl
relayed_plain class.Tot h = refl
relayed_plain class.Rel h = refl
relayed_plain class.Ed h = refl

data_plain : (by : Service) → has_incarnation (data_class by) ≡ false
data_plain service.Ed = refl
data_plain service.Rel = refl
data_plain service.Tot = refl

-- ---- what a protocol asks for

module _ (scenario : ScenarioParts) (i : ℕ) (past : List NoticeKind) where
  asked_same : (f : FrameParts) → MayAsk scenario i past f → with_incarnation scenario.inc f ≡ f
  asked_same f (relays relayed got) = plain_same scenario.inc f (relayed_plain f.class relayed)
  asked_same f (originates m is origin slot late frame) =
      subst (λ g. with_incarnation scenario.inc g ≡ g) frame (plain_same scenario.inc (data_frame m) (data_plain m.service))
  asked_same f (confirms g sent rel own frame) = subst (λ h. with_incarnation scenario.inc h ≡ h) frame refl
  asked_same f (accepts g sent tot own frame) = subst (λ h. with_incarnation scenario.inc h ≡ h) frame refl
  asked_same f (signals sign slot now known frame) = subst (λ h. with_incarnation scenario.inc h ≡ h) frame refl
  asked_same f (lives slot now due frame) = subst (λ h. with_incarnation scenario.inc h ≡ h) frame refl
  asked_same f (exchanges slot v is frame) = subst (λ h. with_incarnation scenario.inc h ≡ h) frame refl
  asked_same f (requests slot c is frame) =
      subst (λ h. with_incarnation scenario.inc h ≡ h) frame (own_same scenario.inc (ask_frame c scenario.inc (cycle_of scenario.params slot) i) refl)

  effect_same : (p : Protocol) (e : Effect) → IsFounded scenario p i past e → stamped_effect scenario.inc e ≡ e
  effect_same p (Ask f) k = ap Ask (asked_same f k.0)
  effect_same p (Withdraw x) k = refl
  effect_same p (Enter entry) k = refl

  effects_same : (p : Protocol) (es : List Effect) → AllByRecursion (IsFounded scenario p i past) es → all_stamped scenario.inc es ≡ es
  effects_same p [] all = refl
  effects_same p (e ∷ es) all = ap (λ x. x ∷ all_stamped scenario.inc es) (effect_same p e all.0) ∙ ap (λ xs. e ∷ xs) (effects_same p es all.1)

  protocol_same : (p : Protocol) → IsLawful p → all_stamped scenario.inc (p.effects scenario i past) ≡ p.effects scenario i past
  protocol_same p lawful = effects_same p (p.effects scenario i past) (lawful.founded scenario i past)

-- ---- what is listed without an incarnation

stamped_append : (inc : ℕ) (xs ys : List Effect) → all_stamped inc (xs ++ ys) ≡ all_stamped inc xs ++ all_stamped inc ys
stamped_append inc xs ys = map-append (stamped_effect inc) xs ys

stamped_if : (inc : ℕ) (b : Bool) (xs ys : List Effect) → all_stamped inc (if b then xs else ys) ≡ (if b then all_stamped inc xs else all_stamped inc ys)
stamped_if inc true xs ys = refl
stamped_if inc false xs ys = refl

module _ (p : Parameters) (inc i slot : ℕ) where
  vector_stamped : (past : List NoticeKind) (old brings : Option Nodes) → all_stamped inc (vector_effects p 0 i slot past old brings) ≡ vector_effects p inc i slot past old brings
  unfolding vector_effects
  vector_stamped past old None = refl
  vector_stamped past old (Some w) =
      let v : Nodes = met_with p old w in
      let settled : List Effect = Withdraw (rha_of (cycle_of p slot) i) ∷ [] in
      let asked : List Effect = if is_new old v then Ask (rha_frame p.format 0 (cycle_of p slot) i v) ∷ [] else [] in
      stamped_if inc (is_covered p (cycle_of p slot) i v past) settled asked
      ∙ ap (λ es. if is_covered p (cycle_of p slot) i v past then settled else es)
      (stamped_if inc (is_new old v) (Ask (rha_frame p.format 0 (cycle_of p slot) i v) ∷ []) [])

  end_stamped : (vector : Option Nodes) → all_stamped inc (end_effects p i slot vector) ≡ end_effects p i slot vector
  unfolding end_effects
  end_stamped None = refl
  end_stamped (Some v) = refl

  start_stamped : (start : Option Nodes) → all_stamped inc (start_effects p 0 i slot start) ≡ start_effects p inc i slot start
  unfolding start_effects
  start_stamped None = refl
  start_stamped (Some v) = stamped_if inc (is_start p slot) (Ask (rha_frame p.format 0 (cycle_of p slot) i v) ∷ []) []

exchange_stamped : (p : Parameters) (inc i : ℕ) (notice : NoticeKind) (before : List NoticeKind) (old start : Option Nodes)
    → all_stamped inc (exchange_at p 0 i notice before old start) ≡ exchange_at p inc i notice before old start
unfolding exchange_at
exchange_stamped p inc i notice before old start =
    let slot : ℕ = length before in
    let a : List Effect = vector_effects p 0 i slot (notice ∷ before) old (brought p slot notice) in
    let b : List Effect = end_effects p i slot (ended p slot (met p old (brought p slot notice))) in
    let c : List Effect = start_effects p 0 i slot start in
    stamped_append inc (a ++ b) c ∙ ap (λ es. es ++ all_stamped inc c) (stamped_append inc a b)
    ∙ ap (λ es. (es ++ all_stamped inc b) ++ all_stamped inc c) (vector_stamped p inc i slot (notice ∷ before) old (brought p slot notice))
    ∙ ap (λ es. (vector_effects p inc i slot (notice ∷ before) old (brought p slot notice) ++ es) ++ all_stamped inc c)
    (end_stamped p inc i slot (ended p slot (met p old (brought p slot notice))))
    ∙ ap (λ es. (vector_effects p inc i slot (notice ∷ before) old (brought p slot notice) ++ b) ++ es) (start_stamped p inc i slot start)

life_stamped : (inc life i slot : ℕ) (st : Knowledge) (sent : ℕ) → all_stamped inc (life_sign life 0 i slot st sent) ≡ life_sign life inc i slot st sent
life_stamped inc life i slot st sent = stamped_if inc (is_due life i slot st) (Ask (els_frame 0 i sent) ∷ []) []

-- each ask of a slot asks for the same frame
each_stamped : (inc : ℕ) (plain stamped : List Effect) → all_stamped inc plain ≡ stamped → (asks : List NodeAsk)
    → all_stamped inc (flat_map (λ ask. plain) asks) ≡ flat_map (λ ask. stamped) asks
each_stamped inc plain stamped same [] = refl
each_stamped inc plain stamped same (ask ∷ asks) =
    stamped_append inc plain (flat_map (λ ask. plain) asks) ∙ ap (λ es. es ++ all_stamped inc (flat_map (λ ask. plain) asks)) same
    ∙ ap (λ es. stamped ++ es) (each_stamped inc plain stamped same asks)

join_stamped : (p : Parameters) (inc i slot : ℕ) (members : Nodes) → all_stamped inc (join_asked p 0 i slot members) ≡ join_asked p inc i slot members
join_stamped p inc i slot members = stamped_if inc (has members i) [] (Ask (ask_frame class.Join 0 (cycle_of p slot) i) ∷ [])

leave_stamped : (p : Parameters) (inc i slot : ℕ) (members : Nodes) → all_stamped inc (leave_asked p 0 i slot members) ≡ leave_asked p inc i slot members
leave_stamped p inc i slot members = stamped_if inc (has members i) (Ask (ask_frame class.Leave 0 (cycle_of p slot) i) ∷ []) []

-- ---- all of a turn

module _ (scenario : ScenarioParts) (i : ℕ) (notice : NoticeKind) (before : List NoticeKind) where
  abbrev past : List NoticeKind
  past = notice ∷ before

  abbrev stamped : List Effect → List Effect
  stamped es = all_stamped scenario.inc es

  vectors_stamped : stamped (exchange_plain scenario i past) ≡ exchange_effects scenario i past
  unfolding exchange_effects
  vectors_stamped =
      exchange_stamped scenario.params scenario.inc i notice before (knowledge_of scenario i before).vector
      (start_in scenario.params i (length before) notice (knowledge_of scenario i before))

  signs_stamped : stamped (life_plain scenario i past) ≡ life_effects scenario i past
  unfolding life_effects
  signs_stamped = life_stamped scenario.inc scenario.params.life i (length before) (knowledge_of scenario i past) (life_signs_sent i past)

  asks_stamped : stamped (asks_plain scenario i past) ≡ ask_effects scenario i past
  unfolding ask_effects
  asks_stamped =
      let p : Parameters = scenario.params in
      let members : Nodes = (knowledge_of scenario i past).members in
      let joins : List NodeAsk = asks_in scenario i (length before) scenario.joins in
      let leaves : List NodeAsk = asks_in scenario i (length before) scenario.leaves in
      stamped_append scenario.inc (flat_map (λ ask. join_asked p 0 i (length before) members) joins) (flat_map (λ ask. leave_asked p 0 i (length before) members) leaves)
      ∙ ap (λ es. es ++ stamped (flat_map (λ ask. leave_asked p 0 i (length before) members) leaves))
      (each_stamped scenario.inc (join_asked p 0 i (length before) members) (join_asked p scenario.inc i (length before) members)
      (join_stamped p scenario.inc i (length before) members) joins)
      ∙ ap (λ es. flat_map (λ ask. join_asked p scenario.inc i (length before) members) joins ++ es)
      (each_stamped scenario.inc (leave_asked p 0 i (length before) members) (leave_asked p scenario.inc i (length before) members)
      (leave_stamped p scenario.inc i (length before) members) leaves)

  same : (p : Protocol) → IsLawful p → stamped (p.effects scenario i past) ≡ p.effects scenario i past
  same p lawful = protocol_same scenario i past p lawful

  two : (xs ys xs' ys' : List Effect) → stamped xs ≡ xs' → stamped ys ≡ ys' → stamped (xs ++ ys) ≡ xs' ++ ys'
  two xs ys xs' ys' first second = stamped_append scenario.inc xs ys ∙ ap (λ es. es ++ stamped ys) first ∙ ap (λ es. xs' ++ es) second

  site_stamped : stamped (membership_effects scenario i past)
      ≡ failure_effects scenario i past ++ (exchange_effects scenario i past ++ (install_effects scenario i past ++ life_effects scenario i past))
  site_stamped =
      two (failure_effects scenario i past) _ (failure_effects scenario i past) _ (same failure_signs failures_are_lawful)
      (two (exchange_plain scenario i past) _ (exchange_effects scenario i past) _ vectors_stamped
      (two (install_effects scenario i past) (life_plain scenario i past) (install_effects scenario i past) (life_effects scenario i past) (same views views_are_lawful) signs_stamped))

  heard_stamped : stamped (heard_effects scenario i past)
      ≡ edcan_effects scenario i past ++ (relcan_effects scenario i past ++ (totcan_effects scenario i past
      ++ (failure_effects scenario i past ++ (exchange_effects scenario i past ++ (install_effects scenario i past ++ life_effects scenario i past)))))
  heard_stamped =
      two (edcan_effects scenario i past) _ (edcan_effects scenario i past) _ (same edcan edcan_is_lawful)
      (two (relcan_effects scenario i past) _ (relcan_effects scenario i past) _ (same relcan relcan_is_lawful)
      (two (totcan_effects scenario i past) (membership_effects scenario i past) (totcan_effects scenario i past) _ (same totcan totcan_is_lawful) site_stamped))

  script_stamped : stamped (script_effects scenario i past) ≡ send_effects scenario i past ++ ask_effects scenario i past
  script_stamped =
      two (send_effects scenario i past) (asks_plain scenario i past) (send_effects scenario i past) (ask_effects scenario i past)
      (same scripted_sends sends_are_lawful) asks_stamped

  -- stamping the incarnation into what is listed gives what the rules say of the turn
  pub turn_stamped : stamped (plain_effects scenario i past) ≡ turn_effects scenario i past
  unfolding turn_effects
  turn_stamped =
      let ed : List Effect = edcan_effects scenario i past in
      let rel : List Effect = relcan_effects scenario i past in
      let tot : List Effect = totcan_effects scenario i past in
      let fail : List Effect = failure_effects scenario i past in
      let vec : List Effect = exchange_effects scenario i past in
      let view : List Effect = install_effects scenario i past in
      let life : List Effect = life_effects scenario i past in
      let send : List Effect = send_effects scenario i past in
      let ask : List Effect = ask_effects scenario i past in
      let next : List Effect = backlog_effects scenario i past in
      two (heard_effects scenario i past) (script_effects scenario i past ++ backlog_effects scenario i past)
      (ed ++ (rel ++ (tot ++ (fail ++ (vec ++ (view ++ life)))))) ((send ++ ask) ++ next) heard_stamped
      (two (script_effects scenario i past) (backlog_effects scenario i past) (send ++ ask) next script_stamped (same tot_backlog backlog_is_lawful))
      ∙ nested ed rel tot fail vec view life send ask next
    where
      nested : (a b c d e f g h j k : List Effect) → (a ++ (b ++ (c ++ (d ++ (e ++ (f ++ g)))))) ++ ((h ++ j) ++ k)
          ≡ a ++ (b ++ (c ++ (d ++ (e ++ (f ++ (g ++ (h ++ (j ++ (k ++ [])))))))))
      nested a b c d e f g h j k =
          append_assoc a (b ++ (c ++ (d ++ (e ++ (f ++ g))))) ((h ++ j) ++ k)
          ∙ ap (λ x. a ++ x) (append_assoc b (c ++ (d ++ (e ++ (f ++ g)))) ((h ++ j) ++ k)
          ∙ ap (λ x. b ++ x) (append_assoc c (d ++ (e ++ (f ++ g))) ((h ++ j) ++ k)
          ∙ ap (λ x. c ++ x) (append_assoc d (e ++ (f ++ g)) ((h ++ j) ++ k)
          ∙ ap (λ x. d ++ x) (append_assoc e (f ++ g) ((h ++ j) ++ k)
          ∙ ap (λ x. e ++ x) (append_assoc f g ((h ++ j) ++ k)
          ∙ ap (λ x. f ++ (g ++ x)) (append_assoc h j k ∙ ap (λ x. h ++ (j ++ x)) (sym (append-nil k))))))))

-- ---- what stamping leaves

-- what is named is the same
pub names_plain : (scenario : ScenarioParts) (i inc : ℕ) (es : List Effect) → AllByRecursion (NamesAskable scenario i) (all_stamped inc es)
    → AllByRecursion (NamesAskable scenario i) es
names_plain scenario i inc [] h = tt
names_plain scenario i inc (Ask f ∷ es) h = (h.0, names_plain scenario i inc es h.1)
names_plain scenario i inc (Withdraw x ∷ es) h = (h.0, names_plain scenario i inc es h.1)
names_plain scenario i inc (Enter entry ∷ es) h = (h.0, names_plain scenario i inc es h.1)

-- and so are the life signs that are asked for
pub signs_plain : (inc : ℕ) (es : List Effect) → count_by asks_sign (all_stamped inc es) ≡ count_by asks_sign es
signs_plain inc [] = refl
signs_plain inc (Ask f ∷ es) = omega (arith, count-cons asks_sign (Ask f) es, count-cons asks_sign (Ask (with_incarnation inc f)) (all_stamped inc es), signs_plain inc es)
signs_plain inc (Withdraw x ∷ es) = omega (arith, count-cons asks_sign (Withdraw x) es, count-cons asks_sign (Withdraw x) (all_stamped inc es), signs_plain inc es)
signs_plain inc (Enter entry ∷ es) = omega (arith, count-cons asks_sign (Enter entry) es, count-cons asks_sign (Enter entry) (all_stamped inc es), signs_plain inc es)
