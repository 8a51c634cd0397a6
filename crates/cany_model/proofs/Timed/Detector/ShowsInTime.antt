-- A member shows life in time: within the life interval of its last life, or its life sign waits,
-- or was sent. So in a quiet state its last life lies no further back than the life interval and
-- the lag. And only the node itself shows its life.
use Rattle.std.proofs.Common.{◌≡◌, ℕ, zero, suc, ◌+◌, ◌<◌, ◌≤◌, ◌⊎◌, ◌||◌, ◌==◌, inl, inr, true, false, List, [], ◌∷◌, length, map, drop, Some, refl, ap, sym, ◌∙◌, subst, arith, length-drop}
use Rattle.std.specs.List.{AllByRecursion, list_any}
use Rattle.std.proofs.lemmas.Bool.{and_from, both_ways, cases_Bool, cases_eq, cond_both, eq-eqb, false≢true, or_cases, or_left, or_parts, or_right}
use Rattle.std.proofs.lemmas.List.{length-map}
use Rattle.std.proofs.lemmas.List.Elements.{All-contains, All-from_recursion}
use Rattle.cany_base.specs.declared.class.Class.{Class}
use Rattle.cany_base.specs.declared.class.Class.TheVariants as class
use Rattle.cany_base.specs.declared.notice.NoticeKind.{NoticeKind}
use Rattle.cany_base.specs.declared.slot_note.SlotNote.{SlotNote}
use Rattle.cany_base.specs.declared.step.Step.{Step}
use Rattle.cany_base.specs.Frame.{FrameParts}
use Rattle.cany_base.specs.Limits.{most_nodes}
use Rattle.cany_base.specs.Nodes.{has}
use Rattle.cany_base.specs.Scenario.{ScenarioParts}
use Rattle.cany_base.proofs.NodesFacts.{has_none}
use Rattle.cany_model.specs.Bus.Frames.{Identity, identity_of, is_of, same_class}
use Rattle.cany_model.specs.Bus.History.{given}
use Rattle.cany_model.specs.Runs.Run.{run}
use Rattle.cany_model.specs.Bus.Slot.{FaultScript, script, slot_note_of}
use Rattle.cany_model.specs.Bus.State.{Incarnation, NodeState, RunState, node_at}
use Rattle.cany_model.specs.Bus.Waiting.{waits}
use Rattle.cany_model.specs.Promises.Quiet.{is_top}
use Rattle.cany_model.specs.Rules.Effect.{Effect, Ask, Withdraw, Enter, waiting_after}
use Rattle.cany_model.specs.Rules.Life.{els_frame, is_due, life_effects, life_signs, life_signs_sent}
use Rattle.cany_model.specs.Rules.Protocol.{Protocol}
use Rattle.cany_model.specs.Rules.KnowledgeOf.{knowledge_of}
use Rattle.cany_model.specs.Rules.Knowledge.{Knowledge, shows_life}
use Rattle.cany_model.specs.Rules.Turn.{scenario_for, turn_effects}
use Rattle.cany_model.proofs.Among.{Among}
use Rattle.cany_model.proofs.Bus.Identities.{same_class_self, same_identity-true}
use Rattle.cany_model.proofs.Bus.Notes.{sender_waits}
use Rattle.cany_model.proofs.Bus.Restarts.{after_restarts-trace}
use Rattle.cany_model.proofs.Runs.Runs.{along_run}
use Rattle.cany_model.proofs.Runs.Steps.{after_slot-trace, after_turn-trace}
use Rattle.cany_model.proofs.Rules.Waits.{Asks, Withdraws, waits-without, waits_after}
use Rattle.cany_model.proofs.Promises.Diffusion.{Lived, past_of}
use Rattle.cany_model.proofs.Promises.EachNode.{EachRunning, IsNew, IsNodes, each_running, nodes_at_first, nodes_kept, waiting_has}
use Rattle.cany_model.proofs.Promises.OwnSlotsAlone.{AllWaitForOwnSlots}
use Rattle.cany_model.proofs.Rules.ProtocolFacts.{IsFounded, MayAsk, MayWithdraw, accepts, answered, closes, confirms, enough, enough_accept, exchanges, is_diffused, is_relayed, lives, originates, relays, requests, settles, signals}
use Rattle.cany_model.proofs.Rules.Protocols.{life_is_one}
use Rattle.cany_model.proofs.Rules.Site.KnowledgeFacts.{begun_knowledge}
use Rattle.cany_model.proofs.Rules.TurnFacts.{turn_effect, turn_has}
use Rattle.cany_model.proofs.Timed.Common.KnowledgeAges.{IsOwnLife, last_by_own, last_comes, last_why}

-- ---- a node shows its own life alone

abbrev pub ShowsOwn : ℕ → FrameParts → Type 0
ShowsOwn i f = shows_life f ≡ true → f.node ≡ i

class_shows : (c : Class) → (same_class c class.Els || same_class c class.Rha || same_class c class.Tot) ≡ true → is_relayed c ≡ false
unfolding same_class
class_shows class.Accept h = absurd (false≢true h)
class_shows class.Rha h = refl
class_shows class.Els h = refl
class_shows class.Fda h = absurd (false≢true h)
class_shows class.Join h = refl
class_shows class.Leave h = refl
class_shows class.Confirm h = refl
class_shows class.Tot h = refl
class_shows class.Rel h = absurd (false≢true h)
class_shows class.Ed h = absurd (false≢true h)

shows_none : (f : FrameParts) (c : Class) → f.class ≡ c → (same_class c class.Els || same_class c class.Rha || same_class c class.Tot) ≡ false
    → shows_life f ≡ true → ⊥
unfolding shows_life
shows_none f c is none h =
    both_ways (same_class c class.Els || same_class c class.Rha || same_class c class.Tot) none
    (subst (λ x. (same_class x class.Els || same_class x class.Rha || same_class x class.Tot) ≡ true) is h)

own_asked : (scenario : ScenarioParts) (i : ℕ) (past : List NoticeKind) (f : FrameParts) → MayAsk scenario i past f → ShowsOwn i f
unfolding shows_life same_class
own_asked scenario i past f (relays relayed got) h = absurd (both_ways (is_relayed f.class) (class_shows f.class h) relayed)
own_asked scenario i past f (originates m is origin read late frame) h = ap (λ (g : FrameParts). g.node) (sym frame) ∙ origin
own_asked scenario i past f (confirms g sent rel own frame) h =
    absurd (shows_none f class.Confirm (ap (λ (x : FrameParts). x.class) (sym frame)) refl h)
own_asked scenario i past f (accepts g sent tot own frame) h =
    absurd (shows_none f class.Accept (ap (λ (x : FrameParts). x.class) (sym frame)) refl h)
own_asked scenario i past f (signals sign slot now known frame) h =
    absurd (shows_none f class.Fda (ap (λ (x : FrameParts). x.class) (sym frame)) refl h)
own_asked scenario i past f (lives slot now due frame) h = ap (λ (g : FrameParts). g.node) (sym frame)
own_asked scenario i past f (exchanges slot v sends frame) h = ap (λ (g : FrameParts). g.node) (sym frame)
own_asked scenario i past f (requests slot c may frame) h = ap (λ (g : FrameParts). g.node) (sym frame)

-- each frame that waits at a node and shows life shows its own
abbrev WaitsOwn : List SlotNote → ℕ → NodeState → Type 0
WaitsOwn trace i node = AllByRecursion (ShowsOwn i) node.waiting

waits_own : (scenario : ScenarioParts) → IsNodes scenario WaitsOwn
waits_own scenario = waiting_has scenario (λ inc i f. ShowsOwn i f) (λ inc i past f may. own_asked (scenario_for scenario inc) i past f may)

-- so life is shown by the node alone that it names
abbrev pub SentOwn : SlotNote → Type 0
SentOwn note = (i : ℕ) (f : FrameParts) → note.frame ≡ Some f → has note.senders i ≡ true → ShowsOwn i f

own_slot : (rules : FaultScript) (s : RunState) → EachRunning WaitsOwn s → SentOwn (slot_note_of rules s)
own_slot rules s all i f frame sender =
    let w = sender_waits rules s f i frame sender in
    All-contains (ShowsOwn i) (node_at s.nodes i).waiting f (All-from_recursion (ShowsOwn i) (node_at s.nodes i).waiting (all i w.0)) w.1

pub sent_own : (scenario : ScenarioParts) (journal : List Step) → AllByRecursion SentOwn (run scenario journal).trace
sent_own scenario journal =
    let kept = nodes_kept scenario WaitsOwn (waits_own scenario) in
    (along_run scenario (λ s. (AllWaitForOwnSlots s × EachRunning WaitsOwn s) × AllByRecursion SentOwn s.trace)
    (nodes_at_first scenario WaitsOwn (waits_own scenario), tt)
    (record {
      slot = λ s o may h. (
        kept.slot s o may h.0,
        subst (AllByRecursion SentOwn) (sym (after_slot-trace (script scenario.rules) s)) (own_slot (script scenario.rules) s h.0.1, h.1),
      );
      restarts = λ s o some h. (kept.restarts s o some h.0, subst (AllByRecursion SentOwn) (sym (after_restarts-trace scenario s)) h.1);
      turn = λ s i o may h. (kept.turn s i o may h.0, subst (AllByRecursion SentOwn) (sym (after_turn-trace scenario i s)) h.1);
    })
    journal).1

-- ---- a life sign that waits

pub record HasSign (waiting : List FrameParts) : Type 0 where
  pub sign : Identity
  pub class : sign.class ≡ class.Els
  pub waits : waits sign waiting ≡ true

-- no turn withdraws one
sign_stays : (scenario : ScenarioParts) (i : ℕ) (past : List NoticeKind) (x : Identity) → x.class ≡ class.Els → MayWithdraw scenario i past x → ⊥
sign_stays scenario i past x els (enough diffused many) = false≢true (sym (ap is_diffused els) ∙ diffused)
sign_stays scenario i past x els (enough_accept f got accept is many) =
    let e : class.Accept ≡ class.Els = sym accept ∙ ap (λ (y : Identity). y.class) is ∙ els in cc
sign_stays scenario i past x els (closes f read tot is closed) =
    let e : class.Accept ≡ class.Els = ap (λ (y : Identity). y.class) is ∙ els in cc
sign_stays scenario i past x els (settles slot may is) = let e : class.Rha ≡ class.Els = ap (λ (y : Identity). y.class) is ∙ els in cc
sign_stays scenario i past x els (answered slot c ask now ends of own is) =
    let e : c ≡ class.Els = ap (λ (y : Identity). y.class) is ∙ els in
    elim of [
      | inl join ↦ let never : class.Join ≡ class.Els = sym join.0 ∙ e in cc
      | inr leave ↦ let never : class.Leave ≡ class.Els = sym leave.0 ∙ e in cc
    ]

turn_keeps_sign : (scenario : ScenarioParts) (i : ℕ) (past : List NoticeKind) (x : Identity) → x.class ≡ class.Els
    → Among (Withdraws x) (turn_effects scenario i past) → ⊥
turn_keeps_sign scenario i past x els h =
    let w = turn_effect (Withdraws x) scenario i past h in
    by_effect w.protocol w.effect w.is w.founded
  where
    by_effect : (p : Protocol) (e : Effect) → Withdraws x e → IsFounded scenario p i past e → ⊥
    by_effect p (Ask f) is founded = is
    by_effect p (Withdraw y) is founded = sign_stays scenario i past x els (subst (MayWithdraw scenario i past) (sym is) founded.0)
    by_effect p (Enter entry) is founded = is

sign_kept : (scenario : ScenarioParts) (i : ℕ) (past : List NoticeKind) (w : List FrameParts) → HasSign w
    → HasSign (waiting_after (turn_effects scenario i past) w)
sign_kept scenario i past w h = elim (waits_after h.sign (turn_effects scenario i past) w (inl h.waits)) [
  | inl gone ↦ absurd (turn_keeps_sign scenario i past h.sign h.class gone)
  | inr still ↦ record { sign = h.sign; class = h.class; waits = still }
]

-- a member asks for it when it is due
sign_due : (scenario : ScenarioParts) (i : ℕ) (e : NoticeKind) (past : List NoticeKind) → has (knowledge_of scenario i (e ∷ past)).members i ≡ true
    → length past ≡ (knowledge_of scenario i (e ∷ past)).last + scenario.params.life
    → Among (Asks (identity_of (els_frame scenario.inc i (life_signs_sent i (e ∷ past))))) (turn_effects scenario i (e ∷ past))
unfolding life_effects
sign_due scenario i e past member due =
    let st : Knowledge = knowledge_of scenario i (e ∷ past) in
    let f : FrameParts = els_frame scenario.inc i (life_signs_sent i (e ∷ past)) in
    let now : is_due scenario.params.life i (length past) st ≡ true =
    and_from (has st.members i) (length past == st.last + scenario.params.life) member (eq-eqb (length past) (st.last + scenario.params.life) due) in
    turn_has (Asks (identity_of f)) scenario i (e ∷ past) life_signs life_is_one
    (cond_both (is_due scenario.params.life i (length past) st) (Ask f ∷ []) [] (λ effects. Among (Asks (identity_of f)) effects)
    (λ _. inl refl) (λ none. absurd (both_ways (is_due scenario.params.life i (length past) st) none now)))

sign_asked : (scenario : ScenarioParts) (i : ℕ) (e : NoticeKind) (past : List NoticeKind) (w : List FrameParts)
    → has (knowledge_of scenario i (e ∷ past)).members i ≡ true → length past ≡ (knowledge_of scenario i (e ∷ past)).last + scenario.params.life
    → HasSign (waiting_after (turn_effects scenario i (e ∷ past)) w)
sign_asked scenario i e past w member due =
    let x : Identity = identity_of (els_frame scenario.inc i (life_signs_sent i (e ∷ past))) in
    elim (waits_after x (turn_effects scenario i (e ∷ past)) w (inr (sign_due scenario i e past member due))) [
      | inl gone ↦ absurd (turn_keeps_sign scenario i (e ∷ past) x refl gone)
      | inr waits ↦ record { sign = x; class = refl; waits = waits }
    ]

-- a slot keeps it waiting, or sends it
sign_slot : (note : SlotNote) (trace : List SlotNote) (i : ℕ) (node after : NodeState) → Lived note trace i node after
    → WaitsOwn trace i node → HasSign node.waiting → HasSign after.waiting ⊎ IsOwnLife i (given i note)
unfolding shows_life
sign_slot note trace i node after l own h = elim l.waiting [
  | inl same ↦ inl (record { sign = h.sign; class = h.class; waits = rw same h.waits })
  | inr (f, sent, rest) ↦ elim (waits-without h.sign (identity_of f) node.waiting h.waits) [
    | inl is ↦
        let els : same_class f.class class.Els ≡ true =
        ap (λ c. same_class c class.Els) (ap (λ (x : Identity). x.class) (sym is) ∙ h.class) ∙ same_class_self class.Els in
        let shows : shows_life f ≡ true =
        or_left (same_class f.class class.Els || same_class f.class class.Rha) (same_class f.class class.Tot)
        (or_left (same_class f.class class.Els) (same_class f.class class.Rha) els) in
        inr (f, sent, shows, All-contains (ShowsOwn i) node.waiting f (All-from_recursion (ShowsOwn i) node.waiting own) (l.sends f sent) shows)
    | inr still ↦ inl (record { sign = h.sign; class = h.class; waits = rw rest still })
  ]
]

-- ---- life that a node has shown, and has not read

-- in a slot that so many older ones precede, or in a later one, the node showed its life
abbrev pub ShownSince : ℕ → ℕ → List SlotNote → Type 0
ShownSince i n [] = ⊥
ShownSince i n (note ∷ trace) = (IsOwnLife i (given i note) × (n ≤ length trace)) ⊎ ShownSince i n trace

since_there : (i n : ℕ) (trace : List SlotNote) → ShownSince i n trace → n < length trace
since_there i n [] h = absurd h
since_there i n (note ∷ trace) (inl now) = omega (arith, now.1)
since_there i n (note ∷ trace) (inr before) = omega (arith, since_there i n trace before)

since_read : (i n unread : ℕ) (trace : List SlotNote) (e : NoticeKind) (past : List NoticeKind) → map (given i) (drop unread trace) ≡ e ∷ past
    → length past ≡ n → ShownSince i n trace → ShownSince i (suc n) trace ⊎ IsOwnLife i e
since_read i n unread [] e past read at h = absurd h
since_read i n zero (note ∷ trace) e past read at (inl now) =
    let same : given i note ≡ e = cc in
    inr (subst (IsOwnLife i) same now.0)
since_read i n zero (note ∷ trace) e past read at (inr before) =
    let size = ap length read in
    absurd (omega (arith, since_there i n trace before, size, length-map trace (given i), at))
since_read i n (suc unread) (note ∷ trace) e past read at (inl now) =
    let size = ap length read in
    inl (inl (now.0, omega (arith, size, at, length-map (drop unread trace) (given i), length-drop unread trace)))
since_read i n (suc unread) (note ∷ trace) e past read at (inr before) = elim (since_read i n unread trace e past read at before) [
  | inl later ↦ inl (inr later)
  | inr now ↦ inr now
]

-- ---- what is kept

-- a running node has read so much within the life interval of its last life, or its life sign
-- waits, or it has shown its life in a slot that it has not read, or it is no member
abbrev pub ShowsInTime : ScenarioParts → ℕ → List SlotNote → List NoticeKind → List FrameParts → Type 0
ShowsInTime scenario i trace past waiting =
    (length past ≤ (knowledge_of scenario i past).last + scenario.params.life)
    ⊎ (HasSign waiting ⊎ (ShownSince i (length past) trace ⊎ (has (knowledge_of scenario i past).members i ≡ false)))

pub record ShowsLife (scenario : ScenarioParts) (trace : List SlotNote) (i : ℕ) (node : NodeState) : Type 0 where
  pub own : AllByRecursion (ShowsOwn i) node.waiting
  pub shows : i < most_nodes → ShowsInTime (scenario_for scenario node.present) i trace (past_of i trace node) node.waiting

shows_new : (scenario : ScenarioParts) (trace : List SlotNote) (i : ℕ) (node : NodeState) → IsNew scenario trace i node
    → ShowsInTime (scenario_for scenario node.present) i trace (past_of i trace node) node.waiting
shows_new scenario trace i node new = by_past (past_of i trace node) refl
  where
    sc : ScenarioParts
    sc = scenario_for scenario node.present

    by_past : (past : List NoticeKind) → past_of i trace node ≡ past → ShowsInTime sc i trace past node.waiting
    by_past [] e = inl (omega arith)
    by_past (notice ∷ past) e =
        let none = new.past.outside (omega (arith, ap length e)) in
        inr (inr (inr (
        ap (λ p. has (knowledge_of sc i p).members i) (sym e)
        ∙ ap (λ (st : Knowledge). has st.members i) (begun_knowledge sc i (past_of i trace node) new.past)
        ∙ ap (λ m. has m i) none ∙ has_none i)))

shows_slot : (scenario : ScenarioParts) (note : SlotNote) (trace : List SlotNote) (i : ℕ) (node after : NodeState) → Lived note trace i node after
    → WaitsOwn trace i node → ShowsInTime scenario i trace (past_of i trace node) node.waiting
    → ShowsInTime scenario i (note ∷ trace) (past_of i trace node) after.waiting
shows_slot scenario note trace i node after l own (inl near) = inl near
shows_slot scenario note trace i node after l own (inr (inl waiting)) = elim (sign_slot note trace i node after l own waiting) [
  | inl still ↦ inr (inl still)
  | inr now ↦ inr (inr (inl (inl (now, omega (arith, length-map (drop node.unread trace) (given i), length-drop node.unread trace)))))
]
shows_slot scenario note trace i node after l own (inr (inr (inl before))) = inr (inr (inl (inr before)))
shows_slot scenario note trace i node after l own (inr (inr (inr outside))) = inr (inr (inr outside))

shows_turn : (scenario : ScenarioParts) (trace : List SlotNote) (i unread : ℕ) (e : NoticeKind) (past : List NoticeKind) (w : List FrameParts)
    → 0 < scenario.params.life → i < most_nodes → map (given i) (drop unread trace) ≡ e ∷ past
    → ShowsInTime scenario i trace past w → ShowsInTime scenario i trace (e ∷ past) (waiting_after (turn_effects scenario i (e ∷ past)) w)
shows_turn scenario trace i unread e past w some few read h = elim (last_why scenario i e past) [
  | inl set ↦ near set.0
  | inr same ↦ elim h [
    | inl before ↦ elim (cases_eq (length past) ((knowledge_of scenario i past).last + scenario.params.life)) [
      | inr other ↦ inl (omega (arith, before, other, same))
      | inl due ↦ elim (cases_Bool (has (knowledge_of scenario i (e ∷ past)).members i)) [
        | inl member ↦ inr (inl (sign_asked scenario i e past w member (omega (arith, due, same))))
        | inr outside ↦ inr (inr (inr outside))
      ]
    ]
    | inr (inl waiting) ↦ inr (inl (sign_kept scenario i (e ∷ past) w waiting))
    | inr (inr (inl since)) ↦ elim (since_read i (length past) unread trace e past read refl since) [
      | inl later ↦ inr (inr (inl later))
      | inr now ↦ near (last_by_own scenario i e past now)
    ]
    | inr (inr (inr outside)) ↦ elim (cases_Bool (has (knowledge_of scenario i (e ∷ past)).members i)) [
      | inl member ↦ near (last_comes scenario i e past few (outside, member))
      | inr still ↦ inr (inr (inr still))
    ]
  ]
]
  where
    near : (knowledge_of scenario i (e ∷ past)).last ≡ length past
        → ShowsInTime scenario i trace (e ∷ past) (waiting_after (turn_effects scenario i (e ∷ past)) w)
    near now = inl (omega (arith, now, some))

shows_kept : (scenario : ScenarioParts) → 0 < scenario.params.life → IsNodes scenario (ShowsLife scenario)
shows_kept scenario some = record {
  new = λ trace i node new. record { own = (waits_own scenario).new trace i node new; shows = λ few. shows_new scenario trace i node new };
  slot = λ note trace i node after same l h. record {
    own = (waits_own scenario).slot note trace i node after same l h.own;
    shows = λ few.
        subst
        (λ (inc : Incarnation). ShowsInTime (scenario_for scenario inc) i (note ∷ trace) (past_of i (note ∷ trace) after) after.waiting)
        (sym same)
        (subst (λ past. ShowsInTime (scenario_for scenario node.present) i (note ∷ trace) past after.waiting) (sym l.past)
        (shows_slot (scenario_for scenario node.present) note trace i node after l h.own (h.shows few)));
  };
  turn = λ trace i node after same t h. record {
    own = (waits_own scenario).turn trace i node after same t h.own;
    shows = λ few.
        let sc : ScenarioParts = scenario_for scenario node.present in
        let waiting : after.waiting ≡ waiting_after (turn_effects sc i (t.notice ∷ past_of i trace node)) node.waiting =
        t.waiting ∙ ap (λ past. waiting_after (turn_effects sc i past) node.waiting) t.past in
        subst (λ (inc : Incarnation). ShowsInTime (scenario_for scenario inc) i trace (past_of i trace after) after.waiting) (sym same)
        (subst (λ past. ShowsInTime sc i trace past after.waiting) (sym t.past)
        (subst (ShowsInTime sc i trace (t.notice ∷ past_of i trace node)) (sym waiting)
        (shows_turn sc trace i after.unread t.notice (past_of i trace node) node.waiting some few t.past (h.shows few))));
  };
}

pub shows_life_in_time : (scenario : ScenarioParts) → 0 < scenario.params.life → (journal : List Step)
    → EachRunning (ShowsLife scenario) (run scenario journal)
shows_life_in_time scenario some journal = each_running scenario (ShowsLife scenario) (shows_kept scenario some) journal

-- ---- where no frame of a class that goes first waits

no_sign : (w : List FrameParts) → list_any (λ f. is_top f.class) w ≡ false → (x : Identity) → x.class ≡ class.Els → waits x w ≡ true → ⊥
no_sign [] none x els h = false≢true h
no_sign (f ∷ w) none x els h = elim (or_cases (is_of x f) (waits x w) h) [
  | inl here ↦
      let top : is_top f.class ≡ true =
      ap (λ (y : Identity). is_top y.class) (sym (same_identity-true x (identity_of f) here))
      ∙ ap is_top els
      ∙ or_right (same_class class.Els class.Accept || same_class class.Els class.Rha) (same_class class.Els class.Els)
      (same_class_self class.Els) in
      both_ways (is_top f.class || list_any (λ g. is_top g.class) w) none (or_left (is_top f.class) (list_any (λ g. is_top g.class) w) top)
  | inr there ↦ no_sign w (or_parts (is_top f.class) (list_any (λ g. is_top g.class) w) none).1 x els there
]

-- there a member that has read all but the lag slots has read its last life within the life
-- interval and the lag, or has shown it since
pub quiet_shows : (scenario : ScenarioParts) (i : ℕ) (trace : List SlotNote) (node : NodeState)
    → ShowsInTime scenario i trace (past_of i trace node) node.waiting → list_any (λ f. is_top f.class) node.waiting ≡ false
    → node.unread ≤ scenario.params.lag → has (knowledge_of scenario i (past_of i trace node)).members i ≡ true
    → (length trace ≤ (knowledge_of scenario i (past_of i trace node)).last + scenario.params.life + scenario.params.lag)
    ⊎ ShownSince i (length (past_of i trace node)) trace
quiet_shows scenario i trace node (inl near) quiet lag member =
    inl (omega (arith, near, lag, length-map (drop node.unread trace) (given i), length-drop node.unread trace))
quiet_shows scenario i trace node (inr (inl waiting)) quiet lag member = absurd (no_sign node.waiting quiet waiting.sign waiting.class waiting.waits)
quiet_shows scenario i trace node (inr (inr (inl since))) quiet lag member = inr since
quiet_shows scenario i trace node (inr (inr (inr outside))) quiet lag member =
    absurd (both_ways (has (knowledge_of scenario i (past_of i trace node)).members i) outside member)
