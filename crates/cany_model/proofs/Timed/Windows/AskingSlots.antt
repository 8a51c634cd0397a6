-- The slots that make a node ask for a frame that accepts, or for a vector: those that bring one,
-- those in which a data frame of TOTCAN was sent with success, and those in which a cycle starts. A
-- window has few of them.
use Rattle.std.specs.Prelude.{slice_index_or}
use Rattle.std.proofs.Common.{◌≡◌, ℕ, zero, suc, ◌+◌, ◌-◌, ◌*◌, ◌/◌, ◌%◌, ◌<◌, ◌≤◌, ◌⊎◌, ◌==◌, ◌&&◌, ◌||◌, inl, inr, Bool, true, false, nat_lt, List, [], ◌∷◌, ◌++◌, Option, Some, None, count_by, drop, length, map, take, refl, ap, sym, ◌∙◌, subst, arith, drop-cons, length-drop}
use Rattle.std.specs.List.{AllByRecursion, list_any, range_with_len}
use Rattle.std.proofs.Math.ListN.{drop_of_length-le}
use Rattle.std.proofs.Math.Nat.{mul-le-mul_left, zero-div}
use Rattle.std.proofs.lemmas.Bool.{and_parts, both_ways, cases_lt, cond_both, false≢true, false_from_ne_true, ltb-true, or_cases, or_left, or_right}
use Rattle.std.proofs.lemmas.List.{length-map}
use Rattle.cany_base.specs.declared.class.Class.TheVariants as class
use Rattle.cany_base.specs.declared.notice.NoticeKind.{NoticeKind}
use Rattle.cany_base.specs.declared.notice.NoticeKind.TheVariants.{Idle, Got, Sent, Bad}
use Rattle.cany_base.specs.declared.rule.Verdict.{Verdict}
use Rattle.cany_base.specs.declared.rule.Verdict.TheVariants.{Clean, Lost, Partial, Silent}
use Rattle.cany_base.specs.declared.slot_note.SlotNote.{SlotNote}
use Rattle.cany_base.specs.declared.step.Step.{Step}
use Rattle.cany_base.specs.Frame.{FrameParts}
use Rattle.cany_base.specs.Limits.{most_nodes}
use Rattle.cany_base.specs.Nodes.{Nodes}
use Rattle.cany_base.specs.Params.{MeetsFormulas, Parameters, top_frames}
use Rattle.cany_base.specs.Scenario.{ScenarioParts}
use Rattle.cany_model.specs.Bus.Frames.{same_class}
use Rattle.cany_model.specs.Bus.History.{given, seen, trace_for}
use Rattle.cany_model.specs.Runs.Incarnations.{incarnations}
use Rattle.cany_model.specs.Runs.Run.{run}
use Rattle.cany_model.specs.Bus.Slot.{carried, is_success}
use Rattle.cany_model.specs.Bus.State.{EndedIncarnation, Incarnation, RunState}
use Rattle.cany_model.specs.Promises.Hypothesis.{IsWithin, any_frame, error_slots, is_error, is_error_slot, is_silent_slot}
use Rattle.cany_model.specs.Promises.Quiet.{HasFewAskingSlots, asks_as, asks_for_first_class, makes_ask, most_asking}
use Rattle.cany_model.specs.Promises.Windows.{HasFew, HasFewAccepts, HasFewTotFrames, HasFewVectors, is_clean_of}
use Rattle.cany_model.specs.Rules.Backlog.{tot_backlog}
use Rattle.cany_model.specs.Rules.Edcan.{edcan}
use Rattle.cany_model.specs.Rules.Effect.{Effect, Ask, Withdraw, Enter}
use Rattle.cany_model.specs.Rules.Life.{failure_signs, life_signs}
use Rattle.cany_model.specs.Rules.Membership.{exchange_effects, scripted_asks, vectors, views}
use Rattle.cany_model.specs.Rules.Protocol.{Protocol}
use Rattle.cany_model.specs.Rules.Relcan.{relcan}
use Rattle.cany_model.specs.Rules.Sends.{scripted_sends}
use Rattle.cany_model.specs.Rules.KnowledgeOf.{start_in, knowledge_of}
use Rattle.cany_model.specs.Rules.Knowledge.{Knowledge}
use Rattle.cany_model.specs.Rules.Totcan.{accept_effects, accept_frame, closing_effects, closing_of, delivered_now, can_be_accepted, message_in, tot_delivery, tot_in, totcan_effects}
use Rattle.cany_model.specs.Rules.Turn.{protocols, scenario_for, turn_effects}
use Rattle.cany_model.specs.Rules.Vectors.{brought, end_effects, ended, exchange_at, met, start_effects, vector_effects, vector_in}
use Rattle.cany_base.specs.Cycles.{cycle_of, is_exchange, is_start}
use Rattle.cany_model.proofs.Among.{Among-from_any, Among-gives, Each-append, Each-flat_map, Each-weaker}
use Rattle.cany_model.proofs.Bus.Carried.{carried_frame, is_carried}
use Rattle.cany_model.proofs.Bus.Identities.{same_class-true, same_class_self}
use Rattle.cany_model.proofs.Bus.Notes.{given-Got, given-Sent, given_idle}
use Rattle.cany_model.proofs.Runs.Runs.{IsOrderly, orderly}
use Rattle.cany_model.proofs.Bus.Seen.{length-seen, trace_for-is}
use Rattle.cany_model.proofs.Bus.States.{no_note, note_at}
use Rattle.cany_model.proofs.Rules.Waits.{AsksOnly}
use Rattle.cany_model.proofs.Rules.Services.BacklogFacts.{backlog_is_lawful}
use Rattle.cany_model.proofs.Rules.IdleBeforeTakingPart.{begun_first}
use Rattle.cany_model.proofs.Rules.Site.CycleFacts.{start_slot}
use Rattle.cany_model.proofs.Rules.Services.EdcanFacts.{edcan_is_lawful}
use Rattle.cany_model.proofs.Rules.IncarnationFacts.{effects_for-is}
use Rattle.cany_model.proofs.Rules.Site.LifeFacts.{failures_are_lawful, life_is_lawful}
use Rattle.cany_model.proofs.Rules.MutedFacts.{turn_muted}
use Rattle.cany_model.proofs.Rules.ProtocolFacts.{IsFounded, IsLawful}
use Rattle.cany_model.proofs.Rules.Services.RelcanFacts.{relcan_is_lawful}
use Rattle.cany_model.proofs.Rules.Services.SendFacts.{sends_are_lawful}
use Rattle.cany_model.proofs.Rules.Site.VectorFacts.{carries_vector}
use Rattle.cany_model.proofs.Rules.Site.ViewFacts.{asks_are_lawful, views_are_lawful}
use Rattle.cany_model.proofs.Timed.Common.Ages.{gave, past}
use Rattle.cany_model.proofs.Timed.Common.Counting.{at_most_1, window_at}
use Rattle.cany_model.proofs.Timed.Common.Pigeonhole.{count_ages, count_either, count_or, count_weaker}
use Rattle.cany_model.proofs.Timed.Common.SeenAges.{IsOfFrame, from_seen}
use Rattle.cany_model.proofs.Timed.Windows.TopFrames.{clean_or_error, is_carried_clean, never_silent, plain_window}

-- ---- one turn

-- the frame accepts a message, or carries a vector
abbrev pub is_first : FrameParts → Bool
is_first f = same_class f.class class.Accept || same_class f.class class.Rha

-- the notice may make a node ask for such a frame: it brings one, or the node has sent a data frame
-- of TOTCAN
abbrev pub is_cause : NoticeKind → Bool
is_cause Idle = false
is_cause (Got f) = is_first f
is_cause (Sent f) = same_class f.class class.Tot
is_cause Bad = false

-- such a frame is asked for only for this reason
abbrev AsksFor : Type 0 → Effect → Type 0
AsksFor R effect = AsksOnly (λ f. is_first f ≡ true → R) effect

abbrev FirstFor : Type 0 → List Effect → Type 0
FirstFor R effects = AllByRecursion (AsksFor R) effects

given_reason : (R : Type 0) → R → (effects : List Effect) → FirstFor R effects
given_reason R r [] = tt
given_reason R r (Ask f ∷ effects) = (λ first. r, given_reason R r effects)
given_reason R r (Withdraw x ∷ effects) = (tt, given_reason R r effects)
given_reason R r (Enter entry ∷ effects) = (tt, given_reason R r effects)

reason_of : (R : Type 0) (effects : List Effect) → FirstFor R effects → list_any asks_for_first_class effects ≡ true → R
reason_of R [] all h = absurd (false≢true h)
reason_of R (e ∷ effects) all h = elim (or_cases (asks_for_first_class e) (list_any asks_for_first_class effects) h) [
  | inl here ↦ of_effect e all.0 here
  | inr later ↦ reason_of R effects all.1 later
]
  where
    of_effect : (e : Effect) → AsksFor R e → asks_for_first_class e ≡ true → R
    of_effect (Ask f) gives first = gives first
    of_effect (Withdraw x) gives first = absurd (false≢true first)
    of_effect (Enter entry) gives first = absurd (false≢true first)

-- a protocol that names neither class asks for no such frame
other_effects : (R : Type 0) (scenario : ScenarioParts) (p : Protocol) → IsLawful p → p.names class.Accept ≡ false → p.names class.Rha ≡ false
    → (i : ℕ) (past : List NoticeKind) → FirstFor R (p.effects scenario i past)
other_effects R scenario p lawful accept rha i past =
    Each-weaker (IsFounded scenario p i past) (AsksFor R) of_effect (p.effects scenario i past)
    (lawful.founded scenario i past)
  where
    not_first : (f : FrameParts) → p.names f.class ≡ true → is_first f ≡ true → R
    not_first f names first = elim (or_cases (same_class f.class class.Accept) (same_class f.class class.Rha) first) [
      | inl is ↦ absurd (false≢true (sym accept ∙ sym (ap p.names (same_class-true f.class class.Accept is)) ∙ names))
      | inr is ↦ absurd (false≢true (sym rha ∙ sym (ap p.names (same_class-true f.class class.Rha is)) ∙ names))
    ]

    of_effect : (e : Effect) → IsFounded scenario p i past e → AsksFor R e
    of_effect (Ask f) founded = not_first f founded.1
    of_effect (Withdraw x) founded = tt
    of_effect (Enter entry) founded = tt

-- ---- TOTCAN: at such a frame, or at the node's own data frame

accept_cause : (p : Parameters) (i : ℕ) (e : NoticeKind) (past : List NoticeKind) → FirstFor (is_cause e ≡ true) (accept_effects p i e past)
unfolding accept_effects
accept_cause p i Idle past = tt
accept_cause p i Bad past = tt
accept_cause p i (Got f) past =
    cond_both (same_class f.class class.Accept && can_be_accepted p.bound (message_in f) past) _ [] (FirstFor (is_first f ≡ true))
    (λ h.
    let accept = (and_parts (same_class f.class class.Accept) (can_be_accepted p.bound (message_in f) past) h).0 in
    given_reason (is_first f ≡ true) (or_left (same_class f.class class.Accept) (same_class f.class class.Rha) accept) _)
    (λ _. tt)
accept_cause p i (Sent f) past =
    cond_both (same_class f.class class.Tot && f.node == i) (Ask (accept_frame f) ∷ []) [] (FirstFor (same_class f.class class.Tot ≡ true))
    (λ h. (λ first. (and_parts (same_class f.class class.Tot) (f.node == i) h).0, tt)) (λ _. tt)

closing_asks : (R : Type 0) (bound : ℕ) (past : List NoticeKind) → FirstFor R (closing_effects bound past)
unfolding closing_effects
closing_asks R bound past = by_frame (tot_in (slice_index_or past bound Idle))
  where
    by_frame : (o : Option FrameParts) → FirstFor R (closing_of bound past o)
    by_frame None = tt
    by_frame (Some f) = cond_both (can_be_accepted bound (message_in f) past) [] _ (FirstFor R) (λ _. tt) (λ _. (tt, tt))

deliveries_ask : (R : Type 0) (slot : ℕ) (frames : List FrameParts) → FirstFor R (map (tot_delivery slot) frames)
deliveries_ask R slot [] = tt
deliveries_ask R slot (f ∷ frames) = (tt, deliveries_ask R slot frames)

totcan_cause : (scenario : ScenarioParts) (i : ℕ) (e : NoticeKind) (past : List NoticeKind)
    → FirstFor (is_cause e ≡ true) (totcan_effects scenario i (e ∷ past))
unfolding totcan_effects
totcan_cause scenario i e past =
    let R : Type 0 = is_cause e ≡ true in
    let P : Effect → Type 0 = AsksFor R in
    let accept : List Effect = accept_effects scenario.params i e past in
    let closing : List Effect = closing_effects scenario.params.bound (e ∷ past) in
    let now : List FrameParts = delivered_now scenario.params i (e ∷ past) in
    Each-append P (accept ++ closing) (map (tot_delivery (length past)) now)
    (Each-append P accept closing (accept_cause scenario.params i e past) (closing_asks R scenario.params.bound (e ∷ past)))
    (deliveries_ask R (length past) now)

-- ---- vectors: at a vector, or where a cycle starts

brought_cause : (p : Parameters) (slot : ℕ) (e : NoticeKind) (w : Nodes) → brought p slot e ≡ Some w → is_cause e ≡ true
unfolding brought
brought_cause p slot Idle w h = absurd (cc)
brought_cause p slot Bad w h = absurd (cc)
brought_cause p slot (Sent f) w h = absurd (cc)
brought_cause p slot (Got f) w h =
    cond_both (is_exchange p slot) (vector_in p.format (cycle_of p slot) f) None (λ o. o ≡ Some w → is_first f ≡ true)
    (λ exchange some.
    let rha = (carries_vector p.format (cycle_of p slot) f w some).0 in
    or_right (same_class f.class class.Accept) (same_class f.class class.Rha) (ap (λ c. same_class c class.Rha) rha ∙ same_class_self class.Rha))
    (λ no some. absurd (cc)) h

-- why a turn asks for such a frame
abbrev pub MayAskFirst : Parameters → NoticeKind → List NoticeKind → Type 0
MayAskFirst p e past = (is_cause e ≡ true) ⊎ (is_start p (length past) ≡ true)

vector_cause : (scenario : ScenarioParts) (i : ℕ) (e : NoticeKind) (past : List NoticeKind) (old o : Option Nodes)
    → brought scenario.params (length past) e ≡ o
    → FirstFor (MayAskFirst scenario.params e past) (vector_effects scenario.params scenario.inc i (length past) (e ∷ past) old o)
unfolding vector_effects
vector_cause scenario i e past old None is = tt
vector_cause scenario i e past old (Some w) is =
    given_reason (MayAskFirst scenario.params e past) (inl (brought_cause scenario.params (length past) e w is)) _

end_asks : (R : Type 0) (p : Parameters) (i slot : ℕ) (o : Option Nodes) → FirstFor R (end_effects p i slot o)
unfolding end_effects
end_asks R p i slot None = tt
end_asks R p i slot (Some v) = (tt, tt)

start_cause : (p : Parameters) (inc i slot : ℕ) (o : Option Nodes) → FirstFor (is_start p slot ≡ true) (start_effects p inc i slot o)
unfolding start_effects
start_cause p inc i slot None = tt
start_cause p inc i slot (Some v) = cond_both (is_start p slot) _ [] (FirstFor (is_start p slot ≡ true)) (λ start. (λ first. start, tt)) (λ _. tt)

weaker_reason : (R S : Type 0) → (R → S) → (effects : List Effect) → FirstFor R effects → FirstFor S effects
weaker_reason R S gives effects all = Each-weaker (AsksFor R) (AsksFor S) of_effect effects all
  where
    of_effect : (e : Effect) → AsksFor R e → AsksFor S e
    of_effect (Ask f) h = λ first. gives (h first)
    of_effect (Withdraw x) h = tt
    of_effect (Enter entry) h = tt

exchange_cause : (scenario : ScenarioParts) (i : ℕ) (e : NoticeKind) (past : List NoticeKind)
    → FirstFor (MayAskFirst scenario.params e past) (exchange_effects scenario i (e ∷ past))
unfolding exchange_effects exchange_at
exchange_cause scenario i e past =
    let p : Parameters = scenario.params in
    let slot : ℕ = length past in
    let st : Knowledge = knowledge_of scenario i past in
    let R : Type 0 = MayAskFirst p e past in
    let start : Option Nodes = start_in p i slot e st in
    let end : Option Nodes = ended p slot (met p st.vector (brought p slot e)) in
    let a : List Effect = vector_effects p scenario.inc i slot (e ∷ past) st.vector (brought p slot e) in
    let b : List Effect = end_effects p i slot end in
    let c : List Effect = start_effects p scenario.inc i slot start in
    Each-append (AsksFor R) (a ++ b) c
    (Each-append (AsksFor R) a b (vector_cause scenario i e past st.vector (brought p slot e) refl) (end_asks R p i slot end))
    (weaker_reason (is_start p slot ≡ true) R (λ starts. inr starts) c (start_cause p scenario.inc i slot start))

-- ---- a whole turn

pub turn_cause : (scenario : ScenarioParts) (i : ℕ) (e : NoticeKind) (past : List NoticeKind)
    → list_any asks_for_first_class (turn_effects scenario i (e ∷ past)) ≡ true → MayAskFirst scenario.params e past
unfolding turn_effects same_class
turn_cause scenario i e past h =
    let R : Type 0 = MayAskFirst scenario.params e past in
    let all : List NoticeKind = e ∷ past in
    reason_of R (turn_effects scenario i all)
    (Each-flat_map (λ p. p.effects scenario i all) (AsksFor R) protocols (
      other_effects R scenario edcan edcan_is_lawful refl refl i all,
      (
        other_effects R scenario relcan relcan_is_lawful refl refl i all,
        (
          weaker_reason (is_cause e ≡ true) R (λ cause. inl cause) (totcan_effects scenario i all) (totcan_cause scenario i e past),
          (
            other_effects R scenario failure_signs failures_are_lawful refl refl i all,
            (
              exchange_cause scenario i e past,
              (
                other_effects R scenario views views_are_lawful refl refl i all,
                (
                  other_effects R scenario life_signs life_is_lawful refl refl i all,
                  (
                    other_effects R scenario scripted_sends sends_are_lawful refl refl i all,
                    (
                      other_effects R scenario scripted_asks asks_are_lawful refl refl i all,
                      (other_effects R scenario tot_backlog backlog_is_lawful refl refl i all, tt),
                    ),
                  ),
                ),
              ),
            ),
          ),
        ),
      ),
    )) h

-- ---- one slot

abbrev sends_or_starts : Parameters → SlotNote → Bool
sends_or_starts p note = is_clean_of class.Tot note || is_start p note.slot

-- the slot may make a node ask for such a frame
unfoldable pub may_make_ask : Parameters → SlotNote → Bool
may_make_ask p note = carried is_first note || sends_or_starts p note

-- a slot without a frame gives no such notice
idle_cause : (i : ℕ) → IsOfFrame (λ note. is_cause (given i note) ≡ true)
idle_cause i note none h = false≢true (sym (ap is_cause (given_idle i note none)) ∙ h)

success_no_error : (note : SlotNote) → is_success note.verdict ≡ true → is_error_slot note ≡ true → ⊥
success_no_error note success error = by_verdict note.verdict success (and_parts (carried any_frame note) (is_error note.verdict) error).1
  where
    by_verdict : (v : Verdict) → is_success v ≡ true → is_error v ≡ true → ⊥
    by_verdict Clean a b = false≢true b
    by_verdict Lost a b = false≢true a
    by_verdict (Partial reject) a b = false≢true a
    by_verdict (Silent reject) a b = false≢true b

-- success that is not Silent is Clean
cause_slot : (p : Parameters) (i : ℕ) (note : SlotNote) → is_silent_slot note ≡ false → is_cause (given i note) ≡ true → may_make_ask p note ≡ true
unfolding may_make_ask
cause_slot p i note plain h = by_notice (given i note) refl h
  where
    by_notice : (e : NoticeKind) → given i note ≡ e → is_cause e ≡ true → (carried is_first note || sends_or_starts p note) ≡ true
    by_notice Idle is cause = absurd (false≢true cause)
    by_notice Bad is cause = absurd (false≢true cause)
    by_notice (Got f) is cause =
        or_left (carried is_first note) (sends_or_starts p note) (is_carried is_first note f (given-Got i note f is).0 cause)
    by_notice (Sent f) is cause =
        let sent = given-Sent i note f is in
        or_right (carried is_first note) (sends_or_starts p note) (elim (clean_or_error note f sent.0 plain) [
          | inl clean ↦ or_left (is_clean_of class.Tot note) (is_start p note.slot) (is_carried_clean class.Tot note f sent.0 cause clean)
          | inr error ↦ absurd (success_no_error note sent.2 error)
        ])

start_asks : (p : Parameters) (note : SlotNote) → is_start p note.slot ≡ true → may_make_ask p note ≡ true
unfolding may_make_ask
start_asks p note start =
    or_right (carried is_first note) (sends_or_starts p note) (or_right (is_clean_of class.Tot note) (is_start p note.slot) start)

-- no cycle starts at slot 0
no_start : (p : Parameters) → is_start p 0 ≡ false
no_start p = false_from_ne_true (is_start p 0) (λ start.
    let later = ltb-true 0 (0 / p.cycle) (and_parts (0 % p.cycle == 0) (nat_lt 0 (0 / p.cycle)) start).1 in
    omega (arith, later, zero-div p.cycle))

pub none_makes_ask : (p : Parameters) → may_make_ask p no_note ≡ false
unfolding may_make_ask
none_makes_ask p = no_start p

-- ---- the slot of an age, as an incarnation sees it

-- whether its turn at the notice of that age asks for such a frame
abbrev asks_seeing : ScenarioParts → ℕ → Incarnation → List SlotNote → ℕ → Bool
asks_seeing scenario i inc trace age = list_any asks_for_first_class (turn_effects (scenario_for scenario inc) i (past i (seen inc trace) age))

-- a turn without a notice asks for nothing
asks_there : (scenario : ScenarioParts) (i : ℕ) (inc : Incarnation) (trace : List SlotNote) (age : ℕ) → asks_seeing scenario i inc trace age ≡ true
    → age < length trace
asks_there scenario i inc trace age h = elim (cases_lt age (length trace)) [
  | inl there ↦ there
  | inr over ↦
      let sc : ScenarioParts = scenario_for scenario inc in
      let short : length (seen inc trace) ≤ age = omega (arith, length-seen inc trace, over) in
      let none : past i (seen inc trace) age ≡ [] = ap (map (given i)) (drop_of_length-le (seen inc trace) short) in
      let mute : turn_effects sc i (past i (seen inc trace) age) ≡ [] = ap (turn_effects sc i) none ∙ turn_muted sc i [] (begun_first sc) in
      absurd (false≢true (sym (ap (list_any asks_for_first_class) mute) ∙ h))
]

-- it asks because of the slot
asks_because : (scenario : ScenarioParts) (i : ℕ) (inc : Incarnation) (trace : List SlotNote) (age : ℕ) → age < length trace
    → is_silent_slot (note_at trace age) ≡ false → (note_at trace age).slot ≡ length trace - 1 - age
    → asks_seeing scenario i inc trace age ≡ true → may_make_ask scenario.params (note_at trace age) ≡ true
asks_because scenario i inc trace age there plain number h =
    let p : Parameters = scenario.params in
    let sc : ScenarioParts = scenario_for scenario inc in
    let before : List NoticeKind = past i (seen inc trace) (suc age) in
    let first : past i (seen inc trace) age ≡ gave i (seen inc trace) age ∷ before =
    ap (map (given i)) (drop-cons (seen inc trace) age no_note (omega (arith, length-seen inc trace, there))) in
    let size : length before ≡ length (seen inc trace) - suc age =
    length-map (drop (suc age) (seen inc trace)) (given i) ∙ length-drop (suc age) (seen inc trace) in
    elim (turn_cause sc i (gave i (seen inc trace) age) before (sym (ap (λ read. list_any asks_for_first_class (turn_effects sc i read)) first) ∙ h)) [
      | inl cause ↦
          cause_slot p i (note_at trace age) plain (from_seen (λ note. is_cause (given i note) ≡ true) (idle_cause i) inc trace age cause).1
      | inr start ↦
          let slot : length before ≡ (note_at trace age).slot = omega (arith, size, length-seen inc trace, number, there) in
          start_asks p (note_at trace age) (subst (λ n. is_start p n ≡ true) slot start)
    ]

asks_as-is : (scenario : ScenarioParts) (s : RunState) (i : ℕ) (inc : Incarnation) (age : ℕ)
    → asks_as scenario s i inc age ≡ asks_seeing scenario i inc s.trace age
unfolding asks_as
asks_as-is scenario s i inc age =
    ap (list_any asks_for_first_class) (effects_for-is scenario inc i (map (given i) (drop age (trace_for inc.number inc s.trace))))
    ∙ ap (λ trace. list_any asks_for_first_class (turn_effects (scenario_for scenario inc) i (map (given i) (drop age trace)))) (trace_for-is inc s.trace)

-- of any incarnation, in a state of a run
pub asking_slot : (scenario : ScenarioParts) (s : RunState) → IsOrderly scenario.params.nodes s → (i : ℕ) (inc : Incarnation) (age : ℕ)
    → is_silent_slot (note_at s.trace age) ≡ false → asks_as scenario s i inc age ≡ true
    → may_make_ask scenario.params (note_at s.trace age) ≡ true
asking_slot scenario s orderly i inc age plain h =
    let asks : asks_seeing scenario i inc s.trace age ≡ true = sym (asks_as-is scenario s i inc age) ∙ h in
    let there = asks_there scenario i inc s.trace age asks in
    asks_because scenario i inc s.trace age there plain (orderly.numbered age there) asks

-- ---- the slots of a window

-- the starts of two cycles lie a cycle apart
starts_apart : (p : Parameters) (a b : ℕ) → is_start p a ≡ true → is_start p b ≡ true → a < b → a + p.cycle ≤ b
starts_apart p a b starts again less =
    apart (cycle_of p a) (cycle_of p b) p.cycle a b (start_slot p a starts) (start_slot p b again) less
  where
    apart : (j k c a b : ℕ) → a ≡ j * c → b ≡ k * c → a < b → a + c ≤ b
    apart j k c a b first second less = elim (cases_lt j k) [
      | inl below ↦
          let step : suc j * c ≤ k * c = grind (arith, mul-le-mul_left c below) in
          let more : suc j * c ≡ j * c + c = grind arith in
          omega (arith, step, more, first, second)
      | inr above ↦
          let step : k * c ≤ j * c = grind (arith, mul-le-mul_left c above) in
          absurd (omega (arith, step, first, second, less))
    ]

-- so a cycle starts in one slot of a window at most
few_starts : (scenario : ScenarioParts) (s : RunState) → IsOrderly scenario.params.nodes s → MeetsFormulas scenario.params
    → HasFew (λ note. is_start scenario.params note.slot) 1 scenario.params s.trace
few_starts scenario s orderly formulas newest =
    let p : Parameters = scenario.params in
    let size : ℕ = p.bound + p.lag in
    let starts : SlotNote → Bool = λ note. is_start p note.slot in
    at_most_1 starts (take size (drop newest s.trace)) (λ a b less now then.
    let q = window_at starts (no_start p) size newest a s.trace now in
    let r = window_at starts (no_start p) size newest b s.trace then in
    let there = start_there s.trace r.0 r.3 in
    let newer = orderly.numbered q.0 (omega (arith, there, q.1, r.1, less)) in
    let older = orderly.numbered r.0 there in
    let apart = starts_apart p (note_at s.trace r.0).slot (note_at s.trace q.0).slot r.3 q.3 (omega (arith, newer, older, there, q.1, r.1, less)) in
    omega (arith, apart, newer, older, there, q.1, r.1, r.2, less, formulas.cycle))
  where
    start_there : (trace : List SlotNote) (age : ℕ) → is_start scenario.params (note_at trace age).slot ≡ true → age < length trace
    start_there [] age h = absurd (both_ways (is_start scenario.params 0) (no_start scenario.params) h)
    start_there (note ∷ trace) zero h = omega arith
    start_there (note ∷ trace) (suc age) h = omega (arith, start_there trace age h)

abbrev is_clean_first : SlotNote → Bool
is_clean_first note = is_clean_of class.Accept note || is_clean_of class.Rha note

ask_cases : (p : Parameters) (note : SlotNote) → is_silent_slot note ≡ false → may_make_ask p note ≡ true
    → (is_error_slot note ≡ true) ⊎ ((is_clean_first note || sends_or_starts p note) ≡ true)
unfolding may_make_ask
ask_cases p note plain h = elim (or_cases (carried is_first note) (sends_or_starts p note) h) [
  | inr other ↦ inr (or_right (is_clean_first note) (sends_or_starts p note) other)
  | inl first ↦
      let f = carried_frame is_first note first in
      let accept : Bool = is_clean_of class.Accept note in
      let rha : Bool = is_clean_of class.Rha note in
      elim (clean_or_error note f.what f.frame plain) [
        | inr error ↦ inl error
        | inl clean ↦ inr (or_left (is_clean_first note) (sends_or_starts p note)
            (elim (or_cases (same_class f.what.class class.Accept) (same_class f.what.class class.Rha) f.passes) [
              | inl is ↦ or_left accept rha (is_carried_clean class.Accept note f.what f.frame is clean)
              | inr is ↦ or_right accept rha (is_carried_clean class.Rha note f.what f.frame is clean)
            ]))
      ]
]

-- few slots of a window may make a node ask
pub few_may_ask : (scenario : ScenarioParts) (s : RunState) → IsOrderly scenario.params.nodes s → MeetsFormulas scenario.params
    → IsWithin scenario.params s.trace → HasFewAccepts scenario.params s.trace → HasFewVectors scenario.params s.trace
    → HasFewTotFrames scenario.params s.trace → HasFew (may_make_ask scenario.params) (most_asking scenario.params) scenario.params s.trace
few_may_ask scenario s orderly formulas within accepts vectors sends newest =
    let p : Parameters = scenario.params in
    let window : List SlotNote = take (p.bound + p.lag) (drop newest s.trace) in
    let plain = plain_window p s.trace within (p.bound + p.lag) newest in
    let starts : SlotNote → Bool = λ note. is_start p note.slot in
    let all = count_either (λ note. is_silent_slot note ≡ false) (may_make_ask p) is_error_slot
    (λ note. is_clean_first note || sends_or_starts p note) (ask_cases p) window plain in
    let four = count_or is_clean_first (sends_or_starts p) window in
    let first = count_or (is_clean_of class.Accept) (is_clean_of class.Rha) window in
    let rest = count_or (is_clean_of class.Tot) starts window in
    sums p.nodes p.errors (count_by (may_make_ask p) window) (error_slots window) (count_by (is_clean_of class.Accept) window)
    (count_by (is_clean_of class.Rha) window) (count_by (is_clean_of class.Tot) window) (count_by starts window)
    (omega (arith, all, four, first, rest)) (within.errors newest) (accepts newest) (vectors newest) (sends newest)
    (few_starts scenario s orderly formulas newest)
  where
    sums : (n errors asks error accept rha tot start : ℕ) → asks ≤ error + ((accept + rha) + (tot + start)) → error ≤ errors → accept ≤ 2 * (n * n)
        → rha ≤ n * n + n → tot ≤ n → start ≤ 1 → asks ≤ top_frames n + errors + n + 1
    sums n errors asks error accept rha tot start all e a r t s =
        let three : 3 * n * n ≡ 3 * (n * n) = grind arith in
        omega (arith, all, e, a, r, t, s, three)

-- ---- every run

-- if an incarnation of one of these nodes asks at the notice of an age, it does so because of that
-- slot
one_asks : (scenario : ScenarioParts) (s : RunState) → IsOrderly scenario.params.nodes s → (age : ℕ) → is_silent_slot (note_at s.trace age) ≡ false
    → (nodes : List ℕ) → list_any (λ i. list_any (λ e. asks_as scenario s i e.incarnation age) (incarnations s i)) nodes ≡ true
    → may_make_ask scenario.params (note_at s.trace age) ≡ true
one_asks scenario s orderly age plain nodes h =
    let asks : ℕ → EndedIncarnation → Bool = λ i e. asks_as scenario s i e.incarnation age in
    let C : Type 0 = may_make_ask scenario.params (note_at s.trace age) ≡ true in
    Among-gives (λ i. list_any (asks i) (incarnations s i) ≡ true) C
    (λ i some. Among-gives (λ e. asks i e ≡ true) C (λ e is. asking_slot scenario s orderly i e.incarnation age plain is) (incarnations s i)
    (Among-from_any (asks i) (incarnations s i) some))
    nodes (Among-from_any (λ i. list_any (asks i) (incarnations s i)) nodes h)

few_asking : (scenario : ScenarioParts) (s : RunState) → IsOrderly scenario.params.nodes s → MeetsFormulas scenario.params
    → IsWithin scenario.params s.trace → HasFewAccepts scenario.params s.trace → HasFewVectors scenario.params s.trace
    → HasFewTotFrames scenario.params s.trace → HasFewAskingSlots scenario s
few_asking scenario s orderly formulas within accepts vectors sends newest =
    let p : Parameters = scenario.params in
    let size : ℕ = p.bound + p.lag in
    let asks = count_weaker (makes_ask scenario s) (λ age. may_make_ask p (note_at s.trace age))
    (λ age. one_asks scenario s orderly age (never_silent p s.trace within age) (range_with_len 0 p.nodes)) (range_with_len newest size) in
    let slots = count_ages (may_make_ask p) no_note (none_makes_ask p) s.trace newest size in
    omega (arith, asks, slots, few_may_ask scenario s orderly formulas within accepts vectors sends newest)

-- few notices of a window make a node ask for a frame that accepts, or for a vector
pub few_asking_slots : (scenario : ScenarioParts) (journal : List Step) → scenario.params.nodes ≤ most_nodes → MeetsFormulas scenario.params
    → IsWithin scenario.params (run scenario journal).trace → HasFewAccepts scenario.params (run scenario journal).trace
    → HasFewVectors scenario.params (run scenario journal).trace → HasFewTotFrames scenario.params (run scenario journal).trace
    → HasFewAskingSlots scenario (run scenario journal)
few_asking_slots scenario journal few = few_asking scenario (run scenario journal) (orderly scenario journal)
