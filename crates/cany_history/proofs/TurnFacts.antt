-- A whole turn: what a value stands for after the notice, the end of a cycle and the start of one.
use Rattle.std.proofs.Common.{◌≡◌, ℕ, suc, ◌+◌, ◌*◌, ◌<◌, ◌≤◌, inl, inr, Bool, true, false, if◌then◌else◌, List, ◌∷◌, length, Option, Some, None, IfSome, count_by, option_map, refl, ap, sym, ◌∙◌, subst, arith}
use Rattle.std.specs.List.{AllByRecursion, list_any}
use Rattle.std.proofs.lemmas.Bool.{cases_Bool}
use Rattle.cany_base.specs.declared.notice.Notice.{Notice}
use Rattle.cany_base.specs.declared.notice.NoticeKind.{NoticeKind}
use Rattle.cany_base.specs.Limits.{most_slots}
use Rattle.cany_base.specs.Nodes.{Nodes, AllBelow}
use Rattle.cany_base.specs.Params.{Parameters}
use Rattle.cany_base.specs.Scenario.{ScenarioParts}
use Rattle.cany_base.proofs.ParamsFacts.{few_slots}
use Rattle.cany_model.specs.Rules.Notices.{IsReadableVector}
use Rattle.cany_model.specs.Rules.Vectors.{after_exchange, brought, ended, is_vector_got, is_vector_sent, met, rha_frame}
use Rattle.cany_base.specs.Cycles.{cycle_of, is_end, is_exchange, is_start}
use Rattle.cany_model.proofs.Rules.NumberFacts.{belongs_small}
use Rattle.cany_history.specs.declared.ended.Ended.{Ended}
use Rattle.cany_history.specs.History.{HasNoVector, HistoryParts, IsExchangeOf, IsHistoryOf, IsNextAt, StartsWith}
use Rattle.cany_history.specs.HistorySteps.{IsInRun, after_ending, after_reading, after_starting}
use Rattle.cany_history.proofs.CycleFacts.{exchanged_before, first_slot, has_cycles, no_end, same_cycle}
use Rattle.cany_history.proofs.PastFacts.{early_notice, unread_copies, unread_more, unread_own}
use Rattle.cany_history.proofs.ReadFacts.{IsRead, exchange_after_reading, read_is, value}
use Rattle.cany_history.proofs.MetFacts.{met_with_below}

-- ---- the end and the start of a cycle, whether it is one or not

ended_if : (b : Bool) (v : HistoryParts) → (if b then record v { vector = None } else v) ≡ record v { vector = if b then None else v.vector }
ended_if true v = refl
ended_if false v = refl

started_if : (b : Bool) (start : Option Nodes) (v : HistoryParts)
    → (if b then record v { vector = start; copies = 0; sent = false } else v)
    ≡ record v { vector = if b then start else v.vector; copies = if b then 0 else v.copies; sent = if b then false else v.sent }
started_if true start v = refl
started_if false start v = refl

met_below : (p : Parameters) (own brings : Option Nodes) → IfSome own (AllBelow p.nodes) → IfSome (met p own brings) (AllBelow p.nodes)
unfolding met
met_below p own None below = below
met_below p own (Some got) below = met_with_below p own got below

some_all : (o : Option Nodes) (P : Nodes → Type 0) → ((v : Nodes) → P v) → IfSome o P
some_all None P all = tt
some_all (Some v) P all = all v

ended_below : (n cycle : ℕ) (b : Bool) (x : Option Nodes) → IfSome x (AllBelow n)
    → IfSome (option_map {T = Nodes} {U = Ended} (λ v. record { cycle = cycle; vector = v }) (if b then x else None)) (λ e. AllBelow n e.vector)
ended_below n cycle true None below = tt
ended_below n cycle true (Some v) below = below
ended_below n cycle false x below = tt

-- only the copies and the transmission of a value count in it
pub same_counts : (p : Parameters) (cycle i : ℕ) (past : List NoticeKind) (own : Option Nodes) (v w : HistoryParts)
    → v.copies ≡ w.copies → v.sent ≡ w.sent
    → IsExchangeOf p cycle i past own v → IsExchangeOf p cycle i past own w
same_counts p cycle i past own v w copies sent h = record {
  more = h.more;
  copies = subst (λ n. IfSome own (λ x. n ≡ count_by (is_vector_got p.format cycle x) past)) copies h.copies;
  sent = subst (λ b. IfSome own (λ x. b ≡ list_any (is_vector_sent p.format cycle i x) past)) sent h.sent;
}

-- what stands for a node and a vector stands for its own
pub at_own : (scenario : ScenarioParts) (i : ℕ) (past : List NoticeKind) (own : Option Nodes) (v : HistoryParts)
    → IsHistoryOf scenario i past own v
    → IsHistoryOf scenario v.node past v.vector v
at_own scenario i past own v h =
    subst (λ n. IsHistoryOf scenario n past v.vector v) (sym h.limits.is_node) (subst (λ o. IsHistoryOf scenario i past o v) (sym h.vector) h)

module _ (scenario : ScenarioParts) (i : ℕ) (past : List NoticeKind) (own : Option Nodes) (notice : Notice) (v : HistoryParts)
    (h : IsHistoryOf scenario i past own v) (next : IsNextAt scenario i past own notice) where
  -- the value, part by part
  pub whole : v ≡ value i scenario.params own v.copies v.sent
  whole = λ k. record { node = h.limits.is_node k; params = h.limits.are_params k; vector = h.vector k; copies = v.copies; sent = v.sent }

  -- ---- what the steps of the code rest on

  pub in_run : IsInRun notice.slot v
  in_run =
      let small = belongs_small scenario notice.slot (rha_frame scenario.params.format 0 (cycle_of scenario.params notice.slot) i (record { bits = 0 })) h.limits.legal next.next.within
      (record { node = h.limits.place; number = omega arith }) in
      rw (h.limits.are_params, h.limits.is_node)
      (record { cycle = omega (arith, h.limits.legal.in_range.cycle.0); number = small.number; nodes = h.limits.legal.in_range.nodes.1; place = h.limits.place })

  pub own_below : IfSome v.vector (AllBelow v.params.nodes)
  own_below = rw (h.limits.are_params, h.vector) h.below

  pub few_copies : v.copies < most_slots
  few_copies = omega (arith, h.few, next.next.slot, next.next.within, few_slots scenario.params h.limits.legal.in_range)

  -- ---- after the notice

  module _ (read : HistoryParts) (reads : read ≡ after_reading notice.slot notice.kind v) where
    read_parts : IsRead v.params v.vector (brought v.params notice.slot notice.kind) v read
    read_parts = rw reads (read_is notice.slot notice.kind v)

    pub read_node : read.node ≡ v.node
    read_node = read_parts.node

    pub read_params : read.params ≡ v.params
    read_params = read_parts.params

    pub read_vector : read.vector ≡ met scenario.params own (brought scenario.params notice.slot notice.kind)
    read_vector = read_parts.vector ∙ rw (h.limits.are_params, h.vector) refl

    pub read_run : IsInRun notice.slot read
    read_run = rw (read_node, read_params) (record { cycle = in_run.cycle; number = in_run.number; nodes = in_run.nodes; place = in_run.place })

    pub read_below : IfSome read.vector (AllBelow read.params.nodes)
    read_below = rw (read_params, h.limits.are_params, read_vector) (met_below scenario.params own (brought scenario.params notice.slot notice.kind) h.below)

    -- ---- after the end of a cycle

    module _ (end : HistoryParts) (ends : end ≡ after_ending notice.slot read) where
      end_is : end ≡ record read { vector = if is_end read.params notice.slot then None else read.vector }
      end_is = ends ∙ ended_if (is_end read.params notice.slot) read

      pub end_node : end.node ≡ v.node
      end_node = ap (λ (x : HistoryParts). x.node) end_is ∙ read_node

      pub end_params : end.params ≡ v.params
      end_params = ap (λ (x : HistoryParts). x.params) end_is ∙ read_params

      pub end_run : IsInRun notice.slot end
      end_run = rw (end_node, end_params) (record { cycle = in_run.cycle; number = in_run.number; nodes = in_run.nodes; place = in_run.place })

      pub end_start : (start : Option Nodes) → StartsWith v.params notice.slot start → StartsWith end.params notice.slot start
      end_start start with_start = subst (λ p. StartsWith p notice.slot start) (sym end_params) with_start

      end_vector : end.vector ≡ (if is_end scenario.params notice.slot then None else met scenario.params own (brought scenario.params notice.slot notice.kind))
      end_vector = ap (λ (x : HistoryParts). x.vector) end_is ∙ rw (read_params, h.limits.are_params, read_vector) refl

      -- what the node has at the end of a cycle
      pub ended_is : (result : Option Ended)
          → result ≡ option_map {T = Nodes} {U = Ended} (λ x. record { cycle = cycle_of read.params notice.slot; vector = x }) (ended read.params notice.slot read.vector)
          → result ≡ option_map {T = Nodes} {U = Ended} (λ x. record { cycle = cycle_of scenario.params notice.slot; vector = x })
          (ended scenario.params notice.slot (met scenario.params own (brought scenario.params notice.slot notice.kind)))
      ended_is result is =
          let same : option_map {T = Nodes} {U = Ended} (λ x. record { cycle = cycle_of read.params notice.slot; vector = x }) (ended read.params notice.slot read.vector)
          ≡ option_map {T = Nodes} {U = Ended} (λ x. record { cycle = cycle_of scenario.params notice.slot; vector = x })
          (ended scenario.params notice.slot (met scenario.params own (brought scenario.params notice.slot notice.kind))) = rw (read_params, h.limits.are_params, read_vector) refl in
          is ∙ same

      pub ended_has_below : (result : Option Ended)
          → result ≡ option_map {T = Nodes} {U = Ended} (λ x. record { cycle = cycle_of read.params notice.slot; vector = x }) (ended read.params notice.slot read.vector)
          → IfSome result (λ e. AllBelow v.params.nodes e.vector)
      ended_has_below result is =
          rw (is, read_params, h.limits.are_params, read_vector)
          (ended_below scenario.params.nodes (cycle_of scenario.params notice.slot) (is_end scenario.params notice.slot)
          (met scenario.params own (brought scenario.params notice.slot notice.kind))
          (met_below scenario.params own (brought scenario.params notice.slot notice.kind) h.below))

      -- ---- after the start of one

      module _ (start : Option Nodes) (with_start : StartsWith v.params notice.slot start) (after : HistoryParts) (starts : after ≡ after_starting notice.slot start end) where
        after_is : after ≡ record end {
          vector = if is_start end.params notice.slot then start else end.vector;
          copies = if is_start end.params notice.slot then 0 else end.copies;
          sent = if is_start end.params notice.slot then false else end.sent;
        }
        after_is = starts ∙ started_if (is_start end.params notice.slot) start end

        pub after_node : after.node ≡ v.node
        after_node = ap (λ (x : HistoryParts). x.node) after_is ∙ end_node

        pub after_params : after.params ≡ v.params
        after_params = ap (λ (x : HistoryParts). x.params) after_is ∙ end_params

        after_vector : after.vector ≡ after_exchange scenario.params notice.slot notice.kind start own
        after_vector = ap (λ (x : HistoryParts). x.vector) after_is ∙ rw (end_params, h.limits.are_params, end_vector) refl

        after_copies : after.copies ≡ (if is_start scenario.params notice.slot then 0 else read.copies)
        after_copies = ap (λ (x : HistoryParts). x.copies) after_is ∙ rw (end_params, h.limits.are_params, ap (λ (x : HistoryParts). x.copies) end_is) refl

        after_sent : after.sent ≡ (if is_start scenario.params notice.slot then false else read.sent)
        after_sent = ap (λ (x : HistoryParts). x.sent) after_is ∙ rw (end_params, h.limits.are_params, ap (λ (x : HistoryParts). x.sent) end_is) refl

        after_below : IfSome (after_exchange scenario.params notice.slot notice.kind start own) (AllBelow scenario.params.nodes)
        after_below = elim (cases_Bool (is_start scenario.params notice.slot)) [
          | inl here ↦ rw here (subst (λ (p : Parameters). IfSome start (AllBelow p.nodes)) h.limits.are_params with_start.below)
          | inr none ↦ elim (cases_Bool (is_end scenario.params notice.slot)) [
            | inl end_here ↦ rw (none, end_here) tt
            | inr no_end_here ↦ rw (none, no_end_here) (met_below scenario.params own (brought scenario.params notice.slot notice.kind) h.below)
          ]
        ]

        after_few : after.copies ≤ suc (length past)
        after_few = elim (cases_Bool (is_start scenario.params notice.slot)) [
          | inl here ↦ let none : after.copies ≡ 0 = after_copies ∙ rw here refl in omega (arith, none)
          | inr none ↦
              let kept : after.copies ≡ read.copies = after_copies ∙ rw none refl in
              omega (arith, kept, read_parts.few, h.few)
        ]

        after_unread : (cycle : ℕ) → suc (length past) ≤ cycle * scenario.params.cycle + 1
            → AllByRecursion (HasNoVector scenario.params.format cycle i) (notice.kind ∷ past)
        after_unread cycle early =
            (early_notice scenario.params i notice.slot cycle own notice.kind (omega (arith, next.next.slot, early)) next.vector, h.unread cycle (omega (arith, early)))

        -- vectors are exchanged after the start of a cycle: nothing was read of it
        from_start : is_exchange scenario.params (suc (length past)) ≡ true → is_start scenario.params (length past) ≡ true
            → IsExchangeOf scenario.params (cycle_of scenario.params (suc (length past))) i (notice.kind ∷ past) start after
        from_start exchanged here =
            let cycle : ℕ = cycle_of scenario.params (suc (length past)) in
            let first : length past ≡ cycle * scenario.params.cycle = first_slot scenario.params (has_cycles scenario h.limits.legal) (length past) exchanged here in
            let none : AllByRecursion (HasNoVector scenario.params.format cycle i) (notice.kind ∷ past) = after_unread cycle (omega (arith, first)) in
            let here_too : is_start scenario.params notice.slot ≡ true = rw next.next.slot here in
            let copies : after.copies ≡ 0 = after_copies ∙ rw here_too refl in
            let sent : after.sent ≡ false = after_sent ∙ rw here_too refl in
            record {
              more = unread_more scenario.params.format cycle i start (notice.kind ∷ past) none;
              copies = some_all start _ (λ x. copies ∙ sym (unread_copies scenario.params.format cycle i x (notice.kind ∷ past) none));
              sent = some_all start _ (λ x. sent ∙ sym (unread_own scenario.params.format cycle i x (notice.kind ∷ past) none));
            }

        -- and after another slot in which they are
        from_exchange : is_exchange scenario.params (suc (length past)) ≡ true → is_start scenario.params (length past) ≡ false
            → IsExchangeOf scenario.params (cycle_of scenario.params (suc (length past))) i (notice.kind ∷ past)
            (met scenario.params own (brought scenario.params (length past) notice.kind)) after
        from_exchange exchanged none =
            let cycles = has_cycles scenario h.limits.legal in
            let before = exchanged_before scenario.params cycles (length past) exchanged none in
            let old = same_counts scenario.params (cycle_of scenario.params (length past)) i past own v (value i scenario.params own v.copies v.sent) refl refl (h.exchange before) in
            let readable : IsReadableVector scenario.params i (length past) own notice.kind = rw next.next.slot at next.vector in
            let new = exchange_after_reading scenario.params i (length past) past own v.copies v.sent old before notice.kind readable in
            let reads_it : read ≡ after_reading (length past) notice.kind (value i scenario.params own v.copies v.sent) =
            reads ∙ ap (λ k. after_reading k notice.kind v) next.next.slot ∙ ap (after_reading (length past) notice.kind) whole in
            let none_too : is_start scenario.params notice.slot ≡ false = rw next.next.slot none in
            let copies : after.copies ≡ read.copies = after_copies ∙ rw none_too refl in
            let sent : after.sent ≡ read.sent = after_sent ∙ rw none_too refl in
            let counted = same_counts scenario.params (cycle_of scenario.params (length past)) i (notice.kind ∷ past)
            (met scenario.params own (brought scenario.params (length past) notice.kind))
            (after_reading (length past) notice.kind (value i scenario.params own v.copies v.sent)) after
            (sym (copies ∙ ap (λ (x : HistoryParts). x.copies) reads_it)) (sym (sent ∙ ap (λ (x : HistoryParts). x.sent) reads_it)) new in
            subst (λ k. IsExchangeOf scenario.params k i (notice.kind ∷ past) (met scenario.params own (brought scenario.params (length past) notice.kind)) after)
            (sym (same_cycle scenario.params cycles (length past) exchanged)) counted

        after_exchanging : is_exchange scenario.params (suc (length past)) ≡ true
            → IsExchangeOf scenario.params (cycle_of scenario.params (suc (length past))) i (notice.kind ∷ past)
            (after_exchange scenario.params (length past) notice.kind start own) after
        after_exchanging exchanged = elim (cases_Bool (is_start scenario.params (length past))) [
          | inl here ↦ rw here (from_start exchanged here)
          | inr none ↦
              let no_end_here = no_end scenario.params (has_cycles scenario h.limits.legal) (length past) exchanged in
              rw (none, no_end_here) (from_exchange exchanged none)
        ]

        pub after_stands : IsHistoryOf scenario i (notice.kind ∷ past) (after_exchange scenario.params (length past) notice.kind start own) after
        after_stands = record {
          limits = record {
            legal = h.limits.legal;
            place = h.limits.place;
            is_node = after_node ∙ h.limits.is_node;
            are_params = after_params ∙ h.limits.are_params;
          };
          vector = after_vector ∙ ap (λ k. after_exchange scenario.params k notice.kind start own) next.next.slot;
          below = subst (λ k. IfSome (after_exchange scenario.params k notice.kind start own) (AllBelow scenario.params.nodes)) next.next.slot after_below;
          few = after_few;
          unread = after_unread;
          exchange = after_exchanging;
        }
