-- The bus carries the frame that confirms a RELCAN message Clean once at most.
use Rattle.std.proofs.Common.{◌≡◌, ℕ, suc, ◌+◌, ◌-◌, ◌<◌, ◌≤◌, ◌==◌, ◌&&◌, inl, inr, Bool, true, false, nat_lt, List, [], ◌∷◌, filter, map, drop, length, count_by, refl, ap, sym, ◌∙◌, subst, arith}
use Rattle.std.specs.List.{list_any}
use Rattle.std.proofs.lemmas.Bool.{and_from, and_parts, both_ways, cases_eq, cases_lt, cond_both, eq-eqb, eqb-true, false_from_ne_true, lt-ltb, ltb-true}
use Rattle.std.proofs.lemmas.List.{drop_more}
use Rattle.cany_base.specs.declared.message.MsgKey.{MsgKey}
use Rattle.cany_base.specs.declared.message.Service.TheVariants.{Rel}
use Rattle.cany_base.specs.declared.notice.NoticeKind.{NoticeKind}
use Rattle.cany_base.specs.declared.slot_note.SlotNote.{SlotNote}
use Rattle.cany_base.specs.declared.step.Step.{Step}
use Rattle.cany_base.specs.Frame.{FrameParts}
use Rattle.cany_base.specs.Limits.{most_nodes}
use Rattle.cany_base.specs.Scenario.{ScenarioParts}
use Rattle.cany_model.specs.Bus.Frames.{Identity, identity_of}
use Rattle.cany_model.specs.Bus.History.{history, is_sent}
use Rattle.cany_model.specs.Bus.Restart.{after_restarts}
use Rattle.cany_model.specs.Bus.Slot.{FaultScript, after_slot}
use Rattle.cany_model.specs.Bus.State.{NodeState, RunState, node_at, reads}
use Rattle.cany_model.specs.Rules.Effect.{Ask}
use Rattle.cany_model.specs.Rules.Messages.{Message, confirm_of_key, data_frame, data_of, messages_of}
use Rattle.cany_model.specs.Rules.Sends.{is_sent_in, send_effects, sendable}
use Rattle.cany_model.specs.Rules.Turn.{scenario_at, turn_effects}
use Rattle.cany_model.specs.Runs.Run.{after_turn, run}
use Rattle.cany_model.proofs.Among.{Among, Among-from_any, Among-weaker, Among-which, Among-from_Contains, any-from_Among, count-drop, count-grows, count-yes, one_if, one_at_most}
use Rattle.cany_model.proofs.Bus.Identities.{same_identity-from}
use Rattle.cany_model.proofs.Bus.Restarts.{after_restarts-trace, restarts_or_stays}
use Rattle.cany_model.proofs.Bus.States.{no_note, note_at}
use Rattle.cany_model.proofs.Rules.Services.MessageKeys.{IsOneOf, same_message}
use Rattle.cany_model.proofs.Rules.Services.SendFacts.{is_sent_in-true, sendable_one}
use Rattle.cany_model.proofs.Runs.Runs.{IsOrderly, history-length}
use Rattle.cany_model.proofs.Runs.Steps.{MayTurn, after_slot-trace, after_slot-unread, after_turn-node, after_turn-other, after_turn-trace, next_notice}
use Rattle.cany_model.proofs.Rules.Waits.{Asks}
use Rattle.cany_model.proofs.Timed.Common.SeenAges.{sends_from}
use Rattle.cany_laws.specs.Carried.{times_clean}
use Rattle.cany_laws.proofs.Frames.CarriedCounts.{sent_by}
use Rattle.cany_laws.proofs.Frames.CarriedRelcan.{confirm_reason, data_reason, not_origin}
use Rattle.cany_laws.proofs.Frames.CarriedSends.{absent_never_sends, by_one_node, never_sent, reads_turn, sent_so_often}
use Rattle.cany_laws.proofs.Waiting.WaitNodes.{slot_reads, turn_reads}
use Rattle.cany_laws.proofs.Waiting.WaitTotals.{one_if_weaker}
use Rattle.cany_model.proofs.Runs.Journals.{reads_restarts}

-- ---- the message of a scripted send

-- the message whose data frame is asked for in the slot
record IsAsked (scenario : ScenarioParts) (i slot : ℕ) (x : Identity) : Type 0 where
  message : Message
  stands : IsOneOf (messages_of scenario.sends) message
  origin : message.origin ≡ i
  at : message.slot ≡ slot
  frame : x ≡ identity_of (data_frame message)

sent_which : (scenario : ScenarioParts) (i slot : ℕ) (x : Identity) (messages : List Message)
    → ((m : Message) → IsOneOf messages m → IsOneOf (messages_of scenario.sends) m)
    → Among (Asks x) (map (λ m. Ask (data_frame m)) (filter (is_sent_in i slot) messages)) → IsAsked scenario i slot x
sent_which scenario i slot x [] are h = absurd h
sent_which scenario i slot x (m ∷ messages) are h =
    cond_both (is_sent_in i slot m) (m ∷ filter (is_sent_in i slot) messages) (filter (is_sent_in i slot) messages)
    (λ kept. Among (Asks x) (map (λ k. Ask (data_frame k)) kept) → IsAsked scenario i slot x)
    (λ sent k. elim k [
      | inl e ↦
          let parts = is_sent_in-true i slot m sent in
          record { message = m; stands = are m (inl refl); origin = parts.origin; at = parts.at; frame = e }
      | inr later ↦ sent_which scenario i slot x messages (λ n is. are n (inr is)) later
    ])
    (λ _ k. sent_which scenario i slot x messages (λ n is. are n (inr is)) k) h

sent_message : (scenario : ScenarioParts) (i : ℕ) (x : Identity) (e : NoticeKind) (past : List NoticeKind)
    → Among (Asks x) (send_effects scenario i (e ∷ past))
    → IsAsked scenario i (length past) x
unfolding send_effects
sent_message scenario i x e past h =
    sent_which scenario i (length past) x (sendable scenario (length past)) (λ m is. (sendable_one scenario (length past) m is).0) h

any_of : {X : Type 0} (p q : X → Bool) (xs : List X) → ((x : X) → p x ≡ true → q x ≡ true) → list_any p xs ≡ true → list_any q xs ≡ true
any_of p q xs f h = any-from_Among q xs (Among-weaker (λ x. p x ≡ true) (λ x. q x ≡ true) f xs (Among-from_any p xs h))

read_so_far : (i : ℕ) (s : RunState) → length (history i s) ≡ reads s i
read_so_far i s = history-length i s

there : (scenario : ScenarioParts) (s : RunState) (i : ℕ) → IsOrderly scenario.params.nodes s → i < scenario.params.nodes → i < length s.nodes
there scenario s i o below = let count = o.count in omega (arith, below, count)

-- ---- the data frame

module _ (scenario : ScenarioParts) (key : MsgKey) where
  abbrev x : Identity
  x = data_of Rel key

  abbrev y : Identity
  y = confirm_of_key key

  -- whether the scripted slot of the message has been read by its origin
  abbrev is_read : RunState → Message → Bool
  is_read s m = (m.origin == key.origin && m.seq == key.seq) && nat_lt m.slot (reads s key.origin)

  abbrev has_begun : RunState → Bool
  has_begun s = list_any (is_read s) (messages_of scenario.sends)

  read_more : (s to : RunState) → reads s key.origin ≤ reads to key.origin → one_if (has_begun s) ≤ one_if (has_begun to)
  read_more s to more =
      one_if_weaker (has_begun s) (has_begun to)
      (any_of (is_read s) (is_read to) (messages_of scenario.sends) (λ m h.
      let parts = and_parts (m.origin == key.origin && m.seq == key.seq) (nat_lt m.slot (reads s key.origin)) h in
      and_from (m.origin == key.origin && m.seq == key.seq) (nat_lt m.slot (reads to key.origin)) parts.0
      (lt-ltb m.slot (reads to key.origin) (omega (arith, more, ltb-true m.slot (reads s key.origin) parts.1)))))

  origin_asks : (s : RunState) → IsOrderly scenario.params.nodes s → MayTurn s key.origin
      → Among (Asks (data_of Rel key)) (turn_effects (scenario_at scenario s key.origin) key.origin (next_notice s key.origin ∷ history key.origin s))
      → one_if (has_begun s) < one_if (has_begun (after_turn scenario key.origin s))
  origin_asks s o may asks = elim (data_reason (scenario_at scenario s key.origin) key.origin x (next_notice s key.origin) (history key.origin s) refl asks) [
    | inr falls ↦
        absurd (both_ways (key.origin == key.origin) (not_origin scenario.params.confirm key.origin x (next_notice s key.origin ∷ history key.origin s) falls)
        (eq-eqb key.origin key.origin refl))
    | inl sent ↦
        let to : RunState = after_turn scenario key.origin s in
        let w = sent_message (scenario_at scenario s key.origin) key.origin x (next_notice s key.origin) (history key.origin s) sent in
        let m : Message = w.message in
        let seq : m.seq ≡ key.seq = sym (ap (λ (z : Identity). z.number) w.frame) in
        let slot : m.slot ≡ reads s key.origin = w.at ∙ read_so_far key.origin s in
        let own = turn_reads scenario s key.origin may (o.unread key.origin) in
        let now : has_begun to ≡ true =
        any-from_Among (is_read to) (messages_of scenario.sends)
        (Among-weaker (λ k. k ≡ m) (λ k. is_read to k ≡ true)
        (λ k same. ap (is_read to) same ∙ and_from (m.origin == key.origin && m.seq == key.seq) (nat_lt m.slot (reads to key.origin))
        (and_from (m.origin == key.origin) (m.seq == key.seq) (eq-eqb m.origin key.origin w.origin) (eq-eqb m.seq key.seq seq))
        (lt-ltb m.slot (reads to key.origin) (omega (arith, slot, own))))
        (messages_of scenario.sends) w.stands) in
        let before : has_begun s ≡ false =
        false_from_ne_true (has_begun s) (λ h.
        let k = Among-which (λ n. is_read s n ≡ true) (messages_of scenario.sends) (Among-from_any (is_read s) (messages_of scenario.sends) h) in
        let parts = and_parts (k.0.origin == key.origin && k.0.seq == key.seq) (nat_lt k.0.slot (reads s key.origin)) k.2 in
        let named = and_parts (k.0.origin == key.origin) (k.0.seq == key.seq) parts.0 in
        let same : k.0 ≡ m =
        same_message scenario.sends k.0 m (Among-from_Contains (messages_of scenario.sends) k.0 k.1) w.stands
        (eqb-true k.0.origin key.origin named.0 ∙ sym w.origin) (eqb-true k.0.seq key.seq named.1 ∙ sym seq) in
        let early = ltb-true k.0.slot (reads s key.origin) parts.1 in
        absurd (omega (arith, early, slot, ap (λ (n : Message). n.slot) same))) in
        omega (arith, ap one_if now, ap one_if before)
  ]

  -- the origin sends it once at most, through all its incarnations
  origin_sends : (journal : List Step) → count_by (sent_by (data_of Rel key) key.origin) (run scenario journal).trace ≤ 1
  origin_sends journal = elim (cases_lt key.origin scenario.params.nodes) [
    | inl below ↦
        let often = sent_so_often scenario x key.origin (λ s. one_if (has_begun s))
        (record {
          slot = λ rules s o.
              let r = slot_reads scenario rules s o key.origin below in read_more s (after_slot rules s) (omega (arith, r));
          restarts = λ s o. read_more s (after_restarts scenario s) (reads_restarts scenario s key.origin);
          turn = λ s j o may. read_more s (after_turn scenario j s) (reads_turn scenario s key.origin j may (o.unread j));
          asks = origin_asks;
        })
        journal in
        omega (arith, often, one_at_most (has_begun (run scenario journal)))
    | inr past ↦ omega (arith, absent_never_sends scenario x key.origin past journal)
  ]

  -- ---- the frame that confirms

  -- how many slots were read in which the origin sent the data frame
  abbrev read_sends : RunState → ℕ
  read_sends s = count_by (sent_by (data_of Rel key) key.origin) (drop (node_at s.nodes key.origin).unread s.trace)

  sends_slot : key.origin < scenario.params.nodes → (rules : FaultScript) (s : RunState) → IsOrderly scenario.params.nodes s
      → read_sends s ≤ read_sends (after_slot rules s)
  sends_slot below rules s o =
      let test : SlotNote → Bool = sent_by (data_of Rel key) key.origin in
      let u : ℕ = (node_at s.nodes key.origin).unread in
      let more : (node_at (after_slot rules s).nodes key.origin).unread ≡ suc u =
      omega (arith, after_slot-unread rules s key.origin (there scenario s key.origin o below)) in
      let same : count_by test (drop (node_at (after_slot rules s).nodes key.origin).unread (after_slot rules s).trace) ≡ count_by test (drop u s.trace) =
      ap (λ n. count_by test (drop n (after_slot rules s).trace)) more ∙ ap (λ t. count_by test (drop (suc u) t)) (after_slot-trace rules s) in
      omega (arith, same)

  sends_restart : (s : RunState) → read_sends s ≤ read_sends (after_restarts scenario s)
  sends_restart s =
      let test : SlotNote → Bool = sent_by (data_of Rel key) key.origin in
      let of : (n : ℕ) → count_by test (drop n (after_restarts scenario s).trace) ≡ count_by test (drop n s.trace) =
      λ n. ap (λ t. count_by test (drop n t)) (after_restarts-trace scenario s) in
      elim (restarts_or_stays scenario s key.origin) [
        | inl new ↦
            let to : RunState = after_restarts scenario s in
            let all : count_by test (drop (node_at to.nodes key.origin).unread to.trace) ≡ count_by test s.trace =
            ap (λ (node : NodeState). count_by test (drop node.unread to.trace)) new.is ∙ of 0 in
            omega (arith, all, count-drop test (node_at s.nodes key.origin).unread s.trace)
        | inr same ↦
            let old = ap (λ (node : NodeState). count_by test (drop node.unread (after_restarts scenario s).trace)) same
            ∙ of (node_at s.nodes key.origin).unread in
            omega (arith, old)
      ]

  -- a turn of the origin reads one slot more
  sends_own : (s : RunState) → IsOrderly scenario.params.nodes s → MayTurn s key.origin
      → read_sends (after_turn scenario key.origin s)
      ≡ count_by (sent_by (data_of Rel key) key.origin)
      (note_at s.trace ((node_at s.nodes key.origin).unread - 1) ∷ drop (node_at s.nodes key.origin).unread s.trace)
  sends_own s o may =
      let test : SlotNote → Bool = sent_by (data_of Rel key) key.origin in
      let u : ℕ = (node_at s.nodes key.origin).unread in
      let some = may.unread in
      let short = o.unread key.origin in
      let to : RunState = after_turn scenario key.origin s in
      let back : u - 1 + 1 ≡ u = omega (arith, some) in
      ap (λ (node : NodeState). count_by test (drop node.unread to.trace)) (after_turn-node scenario key.origin s may short)
      ∙ ap (λ t. count_by test (drop (u - 1) t)) (after_turn-trace scenario key.origin s)
      ∙ ap (count_by test) (drop_more s.trace (u - 1) no_note (omega (arith, some, short)))
      ∙ ap (λ n. count_by test (note_at s.trace (u - 1) ∷ drop n s.trace)) back

  sends_turn : (s : RunState) (j : ℕ) → IsOrderly scenario.params.nodes s → MayTurn s j → read_sends s ≤ read_sends (after_turn scenario j s)
  sends_turn s j o may =
      let test : SlotNote → Bool = sent_by (data_of Rel key) key.origin in
      let u : ℕ = (node_at s.nodes key.origin).unread in
      elim (cases_eq key.origin j) [
        | inl same ↦
            let own = sends_own s o (subst (MayTurn s) (sym same) may) in
            subst (λ k. read_sends s ≤ read_sends (after_turn scenario k s)) same
            (omega (arith, own, count-grows test (note_at s.trace (u - 1)) (drop u s.trace)))
        | inr other ↦
            let old = ap (λ (node : NodeState). count_by test (drop node.unread (after_turn scenario j s).trace))
            (after_turn-other scenario j s key.origin other)
            ∙ ap (λ t. count_by test (drop u t)) (after_turn-trace scenario j s) in
            omega (arith, old)
      ]

  confirm_asks : (s : RunState) → IsOrderly scenario.params.nodes s → MayTurn s key.origin
      → Among (Asks (confirm_of_key key)) (turn_effects (scenario_at scenario s key.origin) key.origin (next_notice s key.origin ∷ history key.origin s))
      → read_sends s < read_sends (after_turn scenario key.origin s)
  confirm_asks s o may asks =
      let test : SlotNote → Bool = sent_by (data_of Rel key) key.origin in
      let node : NodeState = node_at s.nodes key.origin in
      let w = confirm_reason (scenario_at scenario s key.origin) key.origin y (next_notice s key.origin) (history key.origin s) refl asks in
      let f : FrameParts = w.frame in
      let named : data_of Rel key ≡ identity_of f =
      λ k. record { class = sym w.class k; number = (w.confirms k).number; node = (w.confirms k).node } in
      let sees : is_sent x (next_notice s key.origin) ≡ true = ap (is_sent x) w.was ∙ same_identity-from x (identity_of f) named in
      let sent = (sends_from node.present s.trace key.origin (node.unread - 1) x sees).1 in
      omega (arith, sends_own s o may, count-yes test (note_at s.trace (node.unread - 1)) (drop node.unread s.trace) sent)

  confirm_sends : (journal : List Step) → count_by (sent_by (confirm_of_key key) key.origin) (run scenario journal).trace ≤ 1
  confirm_sends journal = elim (cases_lt key.origin scenario.params.nodes) [
    | inr past ↦ omega (arith, absent_never_sends scenario y key.origin past journal)
    | inl below ↦
        let s : RunState = run scenario journal in
        let often = sent_so_often scenario y key.origin read_sends
        (record {
          slot = sends_slot below;
          restarts = λ s o. sends_restart s;
          turn = sends_turn;
          asks = confirm_asks;
        })
        journal in
        omega (arith, often, count-drop (sent_by x key.origin) (node_at s.nodes key.origin).unread s.trace, origin_sends journal)
  ]

  others_never_confirm : (journal : List Step) (i : ℕ) → (i ≡ key.origin → ⊥) → count_by (sent_by (confirm_of_key key) i) (run scenario journal).trace ≡ 0
  others_never_confirm journal i other =
      never_sent scenario y i (λ s o may asks.
      let w = confirm_reason (scenario_at scenario s i) i y (next_notice s i) (history i s) refl asks in
      other (sym w.own ∙ sym (ap (λ (z : Identity). z.node) w.confirms))) journal

  pub confirmed_once : (journal : List Step) → scenario.params.nodes ≤ most_nodes → times_clean (confirm_of_key key) (run scenario journal).trace ≤ 1
  confirmed_once journal few =
      let one = by_one_node scenario few y journal key.origin (others_never_confirm journal) in omega (arith, one, confirm_sends journal)
