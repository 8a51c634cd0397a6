-- The fates in the account of a run are what is promised: a message is open exactly where it is not
-- settled, and apart exactly where the run does not agree on it; a sign is apart exactly where the
-- run does not agree on it.
use Rattle.std.proofs.Common.{◌≡◌, ℕ, ◌<◌, ◌≤◌, ◌↔◌, ◌==◌, ◌&&◌, ◌||◌, Bool, true, false, not, List, [], ◌∷◌, refl, ap, sym, subst, ◌∙◌, arith, ◌⊎◌, inl, inr, Contains}
use Rattle.std.specs.Prelude.{filter, nat_lt, is_none, Option, Some, None}
use Rattle.std.specs.List.{AllByRecursion, flat_map, list_any}
use Rattle.std.specs.Option.{option_map_or, option_or}
use Rattle.std.proofs.lemmas.Bool.{and_from, and_parts, cases_Bool, eq-eqb, eqb-true, false≢true, le-leb, leb-true, ltb-false}
use Rattle.cany_base.specs.declared.log_entry.LogEntry.{LogEntry}
use Rattle.cany_base.specs.declared.log_entry.LogEntry.TheVariants.{Deliver, Failed, View}
use Rattle.cany_base.specs.declared.slot_note.SlotNote.{SlotNote}
use Rattle.cany_base.specs.declared.step.Step.{Step}
use Rattle.cany_base.specs.Limits.{most_nodes}
use Rattle.cany_base.specs.Nodes.{Nodes, nobody, is_nobody}
use Rattle.cany_base.specs.Scenario.{ScenarioParts}
use Rattle.cany_base.proofs.EmptyFacts.{is_nobody-from, is_nobody-true}
use Rattle.cany_model.specs.Bus.Frames.{Identity, is_of}
use Rattle.cany_model.specs.Bus.Slot.{carried}
use Rattle.cany_model.specs.Bus.State.{RunState, node_at}
use Rattle.cany_model.specs.Promises.Entries.{HasDelivered, HasLoggedFailure, is_delivery_of, tells_of}
use Rattle.cany_model.specs.Promises.FirstSlots.{first_carried, first_of_message, first_of_sign}
use Rattle.cany_model.specs.Promises.Safe.{IsAgreedFrom, IsAgreedOn, IsSignAgreedFrom, IsSignAgreedOn, IsSound, WasSent}
use Rattle.cany_model.specs.Promises.Settled.{IsCorrect, IsCorrectFrom, is_ahead, is_awaited, is_settled, nobody_waits_with_sign}
use Rattle.cany_model.specs.Rules.Knowledge.{FailureSign, fda_of}
use Rattle.cany_model.specs.Rules.Log.{log}
use Rattle.cany_model.specs.Rules.Messages.{Message, data_frame, data_id, data_of, frames_of, message_key}
use Rattle.cany_model.specs.Runs.Run.{all_read, run}
use Rattle.cany_model.proofs.Among.{Among, Among-flat_map, Among-from_Contains, Among-from_any, Among-weaker, Contains-from_Among, any-from_Among}
use Rattle.cany_model.proofs.Bus.Carried.{Carries}
use Rattle.cany_model.proofs.Promises.Firsts.{carried_has_first}
use Rattle.cany_model.proofs.Promises.Integrity.{integral}
use Rattle.cany_world.specs.Settled.{is_asked, nodes_ahead, waiting_nodes}
use Rattle.cany_world.proofs.UnsettledFacts.{nobody_has_ahead, nobody_waits}
use Rattle.cany_check.specs.declared.account.record.MessageRecord.{MessageRecord}
use Rattle.cany_check.specs.declared.account.record.SignRecord.{SignRecord}
use Rattle.cany_check.specs.declared.account.record.FirstAndLast.{FirstAndLast}
use Rattle.cany_check.specs.declared.deciders.findings.Fate.{Fate}
use Rattle.cany_check.specs.declared.deciders.findings.Fate.TheVariants.{Apart, Open}
use Rattle.cany_check.specs.Accounts.Account.{AccountParts, LogParts, account_of, first_and_last, is_sign_before, last_carried, logs_of, message_record, running, sign_in, sign_record, signs_told, slots_of}
use Rattle.cany_check.specs.Deciding.Fates.{message_fate, sign_fate, sign_has, sign_lacks}
use Rattle.cany_check.specs.Deciding.Verdict.{is_apart, is_open}
use Rattle.cany_check.specs.Accounts.Words as words
use Rattle.cany_check.specs.Accounts.Words.{correct, delivers, knows, nodes_of, takes_part}
use Rattle.cany_check.proofs.Deciding.CorrectLogs.{IsLogOfCorrect, among_filter, each_correct, each_filter, has_correct, has_running, log_at, unread_fits}
use Rattle.cany_check.proofs.Deciding.Decided.{delivers_from, has_delivered, has_signed, knows_from}
use Rattle.cany_check.proofs.InOrderFacts.{among_ascending}
use Rattle.cany_check.proofs.Deciding.FateFacts.{AreLogsOf, IsApartBy, IsSignApartBy, all_have, apart_by, apart_if, apart_only, fate_of, has_it, not_open, one_has, one_lacks, open_if, open_only, sign_apart_if, sign_apart_only, sign_fate_of}

-- ---- the slots that carried a frame

-- where a first slot did, a last one did
last_some : (x : Identity) (trace : List SlotNote) (first : ℕ) → first_carried x trace ≡ Some first → (last : ℕ) × (last_carried x trace ≡ Some last)
unfolding first_carried last_carried
last_some x [] first h = absurd (cc)
last_some x (note ∷ before) first h = elim (cases_Bool (carried (is_of x) note)) [
  | inl here ↦ (note.slot, rw here refl)
  | inr other ↦
      let rest = last_some x before first (only_before (first_carried x before) (rw other at h)) in
      (rest.0, rw other rest.1)
]
  where
    only_before : (o : Option ℕ) → option_or o None ≡ Some first → o ≡ Some first
    only_before None e = e
    only_before (Some slot) e = e

slots_some : (x : Identity) (trace : List SlotNote) (first : ℕ) → first_carried x trace ≡ Some first → (last : ℕ) × (slots_of x trace ≡ Some (record { first = first; last = last }))
slots_some x trace first h =
    let last = last_some x trace first h in
    (last.0, ap (λ o. first_and_last o (last_carried x trace)) h ∙ ap (λ o. first_and_last (Some first) o) last.1)

slots_none : (x : Identity) (trace : List SlotNote) → first_carried x trace ≡ None → slots_of x trace ≡ None
slots_none x trace h = ap (λ o. first_and_last o (last_carried x trace)) h

-- ---- the order of signs

-- of two signs neither of which is before the other
same_unless_before : (x y : FailureSign) → is_sign_before x y ≡ false → is_sign_before y x ≡ false → x ≡ y
same_unless_before x y not_before not_after =
    let first = or_false (nat_lt x.cycle y.cycle) (x.cycle == y.cycle && nat_lt x.node y.node) not_before in
    let second = or_false (nat_lt y.cycle x.cycle) (y.cycle == x.cycle && nat_lt y.node x.node) not_after in
    let up : y.cycle ≤ x.cycle = ltb-false x.cycle y.cycle first.0 in
    let down : x.cycle ≤ y.cycle = ltb-false y.cycle x.cycle second.0 in
    let cycle : x.cycle ≡ y.cycle = omega (arith, up, down) in
    let higher : y.node ≤ x.node = ltb-false x.node y.node (rw (eq-eqb x.cycle y.cycle cycle) at first.1) in
    let lower : x.node ≤ y.node = ltb-false y.node x.node (rw (eq-eqb y.cycle x.cycle (sym cycle)) at second.1) in
    let node : x.node ≡ y.node = omega (arith, higher, lower) in
    λ k. record { node = node k; cycle = cycle k }
  where
    or_false : (b c : Bool) → (b || c) ≡ false → (b ≡ false) × (c ≡ false)
    or_false true c h = absurd (false≢true (sym h))
    or_false false c h = (refl, h)

-- ---- tests of sets

-- the set is empty exactly where the test fails
decides : (set : Nodes) (b : Bool) → (set ≡ nobody) ↔ (b ≡ false) → is_nobody set ≡ not b
decides set false both = is_nobody-from set (both.1 refl)
decides set true both = elim (cases_Bool (is_nobody set)) [
  | inl none ↦ absurd (false≢true (sym (both.0 (is_nobody-true set none))))
  | inr some ↦ some
]

and_true : (b : Bool) → (b && true) ≡ b
and_true true = refl
and_true false = refl

not_not : (b : Bool) → not (not b) ≡ b
not_not true = refl
not_not false = refl

module _ (scenario : ScenarioParts) (journal : List Step) (few : scenario.params.nodes ≤ most_nodes) where
  abbrev s : RunState
  s = run scenario journal

  abbrev a : AccountParts
  a = account_of scenario s

  -- ---- those that count

  counts_from : (slot : ℕ) → AreLogsOf scenario s (IsCorrectFrom scenario s slot) (filter (takes_part slot) (correct a))
  counts_from slot = record {
    each = each_filter (λ x. (i : ℕ) × IsCorrectFrom scenario s slot i × (x ≡ log_at scenario s i)) (takes_part slot) (correct a) (passing (correct a) (each_correct scenario s (unread_fits scenario journal)));
    there = λ i c. among_filter (λ x. x ≡ log_at scenario s i) (takes_part slot) (correct a)
        (λ x e. ap (takes_part slot) e ∙ le-leb (node_at s.nodes i).present.from slot c.took_part) (has_correct scenario s (unread_fits scenario journal) i c.correct);
  }
    where
      passing : (xs : List LogParts) → AllByRecursion (IsLogOfCorrect scenario s (unread_fits scenario journal)) xs
          → AllByRecursion (λ x. takes_part slot x ≡ true → (i : ℕ) × IsCorrectFrom scenario s slot i × (x ≡ log_at scenario s i)) xs
      passing [] all = tt
      passing (x ∷ xs) all = (
        λ passes. (
          all.0.0,
          record {
            correct = all.0.1;
            took_part = leb-true (node_at s.nodes all.0.0).present.from slot (ap (takes_part slot) (sym all.0.2) ∙ passes);
          },
          all.0.2,
        ),
        passing xs all.1,
      )

  small_from : (slot : ℕ) (i : ℕ) → IsCorrectFrom scenario s slot i → i < most_nodes
  small_from slot i c = omega (arith, c.correct.there, few)

  -- ---- a message

  settled_is : all_read s ≡ true → (m : Message) → words.is_settled (message_record scenario s m) ≡ is_settled scenario s m
  unfolding is_settled
  settled_is read m =
      let asked : Bool = is_asked scenario s m in
      let awaited : Bool = is_awaited (frames_of m) s in
      let ahead : Bool = is_ahead scenario s m in
      let none_waits : Bool = is_nobody (waiting_nodes (frames_of m) s) in
      let none_ahead : Bool = is_nobody (nodes_ahead scenario s m) in
      ap (λ x. x && none_waits && none_ahead) (not_not asked)
      ∙ ap (λ x. asked && x && none_ahead) (decides (waiting_nodes (frames_of m) s) awaited (nobody_waits scenario journal few (frames_of m)))
      ∙ ap (λ x. asked && not awaited && x) (decides (nodes_ahead scenario s m) ahead (nobody_has_ahead scenario journal few m))
      ∙ ap (λ x. x && not ahead) (sym (and_true (asked && not awaited)))
      ∙ ap (λ x. asked && not awaited && x && not ahead) (sym read)

  module _ (read : all_read s ≡ true) (m : Message) where
    abbrev r : MessageRecord
    r = message_record scenario s m

    abbrev since : ℕ
    since = words.since r

    abbrev logs : List LogParts
    logs = filter (takes_part since) (correct a)

    are : AreLogsOf scenario s (IsCorrectFrom scenario s since) logs
    are = counts_from since

    abbrev none_has : Bool
    none_has = is_nobody (nodes_of (filter (delivers r) logs))

    abbrev none_lacks : Bool
    none_lacks = is_nobody (nodes_of (filter (λ x. not (delivers r x)) logs))

    abbrev origin : Bool
    origin = list_any (λ log. log.node == m.origin) logs

    fate_is : message_fate a r ≡ fate_of (is_settled scenario s m) none_has none_lacks origin
    unfolding message_fate
    fate_is = ap (λ b. fate_of b none_has none_lacks origin) (settled_is read m)

    origin_in : IsCorrectFrom scenario s since m.origin → origin ≡ true
    origin_in c =
        any-from_Among (λ log. log.node == m.origin) logs
        (Among-weaker (λ x. x ≡ log_at scenario s m.origin) (λ x. (x.node == m.origin) ≡ true)
        (λ x e. eq-eqb x.node m.origin (ap (λ (y : LogParts). y.node) e)) logs (are.there m.origin c))

    origin_from : origin ≡ true → IsCorrectFrom scenario s since m.origin
    origin_from h = counted logs are.each (Among-from_any (λ log. log.node == m.origin) logs h)
      where
        counted : (xs : List LogParts) → AllByRecursion (λ x. (i : ℕ) × IsCorrectFrom scenario s since i × (x ≡ log_at scenario s i)) xs
            → Among (λ x. (x.node == m.origin) ≡ true) xs → IsCorrectFrom scenario s since m.origin
        counted [] all h' = absurd h'
        counted (x ∷ xs) all (inl here) =
            subst (IsCorrectFrom scenario s since) (sym (ap (λ (y : LogParts). y.node) all.0.2) ∙ eqb-true x.node m.origin here) all.0.1
        counted (x ∷ xs) all (inr later) = counted xs all.1 later

    abbrev Counts : ℕ → Type 0
    Counts = IsCorrectFrom scenario s since

    delivered_by : (i : ℕ) → delivers r (log_at scenario s i) ≡ true → HasDelivered scenario s i m
    delivered_by i h = has_delivered scenario s i m h

    -- where it is not apart: of those that count all have it, if one of them has it or sent it
    all_or_none : (fate_of (is_settled scenario s m) none_has none_lacks origin ≡ Apart → ⊥) → is_settled scenario s m ≡ true
        → (i : ℕ) → Counts i → (i ≡ m.origin) ⊎ HasDelivered scenario s i m → (j : ℕ) → Counts j → HasDelivered scenario s j m
    all_or_none whole settled i c because j d = elim (cases_Bool none_lacks) [
      | inl none ↦ delivered_by j (all_have scenario s Counts logs are (small_from since) (delivers r) none j d)
      | inr some ↦ absurd (whole (apart_if (is_settled scenario s m) none_has none_lacks origin (record { settled_is = settled; lacking = some; having = having because })))
    ]
      where
        having : (i ≡ m.origin) ⊎ HasDelivered scenario s i m → (none_has ≡ false) ⊎ (origin ≡ true)
        having (inl same) = inr (origin_in (subst Counts same c))
        having (inr had) = inl (has_it scenario s Counts logs are (small_from since) (delivers r) i c (delivers_from scenario s i m had))

    -- where it is apart: one that counts has it or sent it, and another lacks it
    record HasParted : Type 0 where
      settled : is_settled scenario s m ≡ true
      i : ℕ
      counts : Counts i
      because : (i ≡ m.origin) ⊎ HasDelivered scenario s i m
      j : ℕ
      counts_too : Counts j
      lacks : HasDelivered scenario s j m → ⊥

    parted : fate_of (is_settled scenario s m) none_has none_lacks origin ≡ Apart → HasParted
    parted h =
        let is : IsApartBy (is_settled scenario s m) none_has none_lacks origin = apart_only (is_settled scenario s m) none_has none_lacks origin h in
        let one = one_lacks scenario s Counts logs are (small_from since) (delivers r) is.lacking in
        let lacks : HasDelivered scenario s one.0 m → ⊥ = λ had. absurd (false≢true (sym one.2 ∙ delivers_from scenario s one.0 m had)) in
        elim is.having [
          | inl some ↦
              let other = one_has scenario s Counts logs are (small_from since) (delivers r) some in
              record { settled = is.settled_is; i = other.0; counts = other.1; because = inr (delivered_by other.0 other.2); j = one.0; counts_too = one.1; lacks = lacks }
          | inr counts ↦
              record { settled = is.settled_is; i = m.origin; counts = origin_from counts; because = inl refl; j = one.0; counts_too = one.1; lacks = lacks }
        ]

    -- one that was never carried no correct node delivered
    never_delivered : first_of_message m s.trace ≡ None → (i : ℕ) → IsCorrect scenario s i → HasDelivered scenario s i m → ⊥
    never_delivered never i c had = by_entry had.entry had.delivers ((integral scenario journal few).sent i c had.entry had.stands)
      where
        by_entry : (entry : LogEntry) → is_delivery_of m entry → IsSound scenario s entry → ⊥
        by_entry (Deliver slot by msg payload) is sound =
            let sent : WasSent s.trace sound.0 slot = sound.5 in
            let key : message_key m ≡ message_key sound.0 = is.0 ∙ sym sound.2 in
            let same : data_id m ≡ data_id sound.0 = λ k. data_of ((is.1 ∙ sym sound.3) k) (key k) in
            carried_has_first (data_id m) s.trace
            (Among-weaker (λ n. n ≡ sent.note) (Carries (data_id m))
            (λ n e. subst (Carries (data_id m)) (sym e) (record { what = data_frame sound.0; frame = sent.frame; identity = same })) s.trace
            (Among-from_Contains s.trace sent.note sent.stands)) never
        by_entry (Failed slot node cycle) is sound = absurd is
        by_entry (View slot number members) is sound = absurd is

    agreed : (fate_of (is_settled scenario s m) none_has none_lacks origin ≡ Apart → ⊥) → IsAgreedOn scenario s m
    agreed whole = by_first (first_of_message m s.trace) refl
      where
        by_first : (o : Option ℕ) → first_of_message m s.trace ≡ o → IsAgreedFrom scenario s m o
        by_first (Some first) is =
            let slots = slots_some (data_id m) s.trace first is in
            let at : since ≡ first = ap (λ o. option_map_or (λ (x : FirstAndLast). x.first) o m.slot) slots.1 in
            subst (λ t. is_settled scenario s m ≡ true → (i : ℕ) → IsCorrectFrom scenario s t i → (i ≡ m.origin) ⊎ HasDelivered scenario s i m
            → (j : ℕ) → IsCorrectFrom scenario s t j → HasDelivered scenario s j m) at (all_or_none whole)
        by_first None never =
            let at : since ≡ m.slot = ap (λ o. option_map_or (λ (x : FirstAndLast). x.first) o m.slot) (slots_none (data_id m) s.trace never) in (
              never_delivered never,
              λ settled c.
                  never_delivered never m.origin c.correct
                  (all_or_none whole settled m.origin (subst (λ t. IsCorrectFrom scenario s t m.origin) (sym at) c) (inl refl) m.origin
                  (subst (λ t. IsCorrectFrom scenario s t m.origin) (sym at) c)),
            )

    disagreed : fate_of (is_settled scenario s m) none_has none_lacks origin ≡ Apart → IsAgreedOn scenario s m → ⊥
    disagreed h agree = by_first (first_of_message m s.trace) refl agree
      where
        p : HasParted
        p = parted h

        by_first : (o : Option ℕ) → first_of_message m s.trace ≡ o → IsAgreedFrom scenario s m o → ⊥
        by_first (Some first) is from =
            let slots = slots_some (data_id m) s.trace first is in
            let at : since ≡ first = ap (λ o. option_map_or (λ (x : FirstAndLast). x.first) o m.slot) slots.1 in
            p.lacks (from p.settled p.i (subst (λ t. IsCorrectFrom scenario s t p.i) at p.counts) p.because p.j (subst (λ t. IsCorrectFrom scenario s t p.j) at p.counts_too))
        by_first None never from =
            let at : since ≡ m.slot = ap (λ o. option_map_or (λ (x : FirstAndLast). x.first) o m.slot) (slots_none (data_id m) s.trace never) in
            elim p.because [
              | inl same ↦ from.1 p.settled (subst (IsCorrectFrom scenario s m.slot) same (subst (λ t. IsCorrectFrom scenario s t p.i) at p.counts))
              | inr had ↦ from.0 p.i p.counts.correct had
            ]

    pub agreed_unless_apart : (message_fate a r ≡ Apart → ⊥) → IsAgreedOn scenario s m
    agreed_unless_apart whole = agreed (λ h. whole (fate_is ∙ h))

    pub apart_where : (message_fate a r ≡ Apart) ↔ (IsAgreedOn scenario s m → ⊥)
    apart_where = (
      λ h. disagreed (sym fate_is ∙ h),
      λ h. elim (cases_Bool (is_apart (fate_of (is_settled scenario s m) none_has none_lacks origin))) [
        | inl apart ↦ fate_is ∙ apart_by (fate_of (is_settled scenario s m) none_has none_lacks origin) apart
        | inr other ↦ absurd (h (agreed (λ e. absurd (false≢true (sym other ∙ ap is_apart e)))))
      ],
    )

    pub open_where : (message_fate a r ≡ Open) ↔ (is_settled scenario s m ≡ false)
    open_where = (
      λ h. open_only (is_settled scenario s m) none_has none_lacks origin (sym fate_is ∙ h),
      λ h. fate_is ∙ open_if (is_settled scenario s m) none_has none_lacks origin h,
    )

  -- ---- a sign

  module _ (read : all_read s ≡ true) (sign : FailureSign) where
    abbrev r' : SignRecord
    r' = sign_record s sign

    abbrev waited : Bool
    waited = not (is_nobody (waiting_nodes (fda_of sign ∷ []) s))

    waited_is : waited ≡ not (nobody_waits_with_sign s sign)
    waited_is = ap not (decides (waiting_nodes (fda_of sign ∷ []) s) (is_awaited (fda_of sign ∷ []) s) (nobody_waits scenario journal few (fda_of sign ∷ [])))

    known_by : (i : ℕ) → knows r' (log_at scenario s i) ≡ true → HasLoggedFailure scenario s i sign
    known_by i h = has_signed scenario s i sign h

    -- the fate, where these are the nodes that count
    module _ (Counts : ℕ → Type 0) (small : (i : ℕ) → Counts i → i < most_nodes) (logs : List LogParts) (are : AreLogsOf scenario s Counts logs) (was_carried : Bool) where
      abbrev none_knows : Bool
      none_knows = is_nobody (nodes_of (filter (knows r') logs))

      abbrev none_lacks_it : Bool
      none_lacks_it = is_nobody (nodes_of (filter (λ x. not (knows r' x)) logs))

      abbrev fate : Fate
      fate = sign_fate_of waited was_carried none_knows none_lacks_it

      knows_all : (fate ≡ Apart → ⊥) → nobody_waits_with_sign s sign ≡ true → (i : ℕ) → Counts i → HasLoggedFailure scenario s i sign → (j : ℕ) → Counts j → HasLoggedFailure scenario s j sign
      knows_all whole nobody' i c had j d = elim (cases_Bool none_lacks_it) [
        | inl none ↦ known_by j (all_have scenario s Counts logs are small (knows r') none j d)
        | inr some ↦ absurd (whole (sign_apart_if waited was_carried none_knows none_lacks_it (record {
          nobody_waits = waited_is ∙ ap not nobody';
          known = has_it scenario s Counts logs are small (knows r') i c (knows_from scenario s i sign had);
          lacking = inl some;
        })))
      ]

      nobody_knows : (fate ≡ Apart → ⊥) → was_carried ≡ false → nobody_waits_with_sign s sign ≡ true → (i : ℕ) → Counts i → HasLoggedFailure scenario s i sign → ⊥
      nobody_knows whole never nobody' i c had =
          whole (sign_apart_if waited was_carried none_knows none_lacks_it (record {
            nobody_waits = waited_is ∙ ap not nobody';
            known = has_it scenario s Counts logs are small (knows r') i c (knows_from scenario s i sign had);
            lacking = inr never;
          }))

      record HasSignParted : Type 0 where
        nobody_waits' : nobody_waits_with_sign s sign ≡ true
        i : ℕ
        counts : Counts i
        had : HasLoggedFailure scenario s i sign
        lacking : ((j : ℕ) × Counts j × (HasLoggedFailure scenario s j sign → ⊥)) ⊎ (was_carried ≡ false)

      sign_parted : fate ≡ Apart → HasSignParted
      sign_parted h =
          let is : IsSignApartBy waited was_carried none_knows none_lacks_it = sign_apart_only waited was_carried none_knows none_lacks_it h in
          let one = one_has scenario s Counts logs are small (knows r') is.known in
          record {
            nobody_waits' = sym (not_not (nobody_waits_with_sign s sign)) ∙ ap not (sym waited_is ∙ is.nobody_waits);
            i = one.0;
            counts = one.1;
            had = known_by one.0 one.2;
            lacking = elim is.lacking [
              | inl some ↦
                  let other = one_lacks scenario s Counts logs are small (knows r') some in
                  inl (other.0, other.1, λ had. absurd (false≢true (sym other.2 ∙ knows_from scenario s other.0 sign had)))
              | inr never ↦ inr never
            ];
          }

    -- all correct nodes count
    all_count : AreLogsOf scenario s (IsCorrect scenario s) (filter (λ log. true) (correct a))
    all_count = record {
      each = each_filter (λ x. (i : ℕ) × IsCorrect scenario s i × (x ≡ log_at scenario s i)) (λ log. true) (correct a) (passing (correct a) (each_correct scenario s (unread_fits scenario journal)));
      there = λ i c. among_filter (λ x. x ≡ log_at scenario s i) (λ log. true) (correct a) (λ x e. refl) (has_correct scenario s (unread_fits scenario journal) i c);
    }
      where
        passing : (xs : List LogParts) → AllByRecursion (IsLogOfCorrect scenario s (unread_fits scenario journal)) xs
            → AllByRecursion (λ x. true ≡ true → (i : ℕ) × IsCorrect scenario s i × (x ≡ log_at scenario s i)) xs
        passing [] all = tt
        passing (x ∷ xs) all = (λ _. all.0, passing xs all.1)

    small_all : (i : ℕ) → IsCorrect scenario s i → i < most_nodes
    small_all i c = omega (arith, c.there, few)

    -- the test of those that count, by the slots that carried the frame
    abbrev counts_by : Option FirstAndLast → LogParts → Bool
    counts_by slots log = option_map_or (λ (x : FirstAndLast). takes_part x.first log) slots true

    abbrev fate_by : Option FirstAndLast → Fate
    fate_by slots =
        sign_fate_of waited (not (is_none slots)) (is_nobody (nodes_of (filter (knows r') (filter (counts_by slots) (correct a)))))
        (is_nobody (nodes_of (filter (λ x. not (knows r' x)) (filter (counts_by slots) (correct a)))))

    sign_fate_is : sign_fate a r' ≡ fate_by (slots_of (fda_of sign) s.trace)
    unfolding sign_fate
    sign_fate_is = refl

    open_is : sign_fate a r' ≡ sign_fate_of waited (not (is_none r'.carried)) (is_nobody (nodes_of (sign_has a r'))) (is_nobody (nodes_of (sign_lacks a r')))
    unfolding sign_fate
    open_is = refl

    pub sign_agreed : (sign_fate a r' ≡ Apart → ⊥) → IsSignAgreedOn scenario s sign
    sign_agreed whole = by_first (first_of_sign sign s.trace) refl
      where
        by_first : (o : Option ℕ) → first_of_sign sign s.trace ≡ o → IsSignAgreedFrom scenario s sign o
        by_first (Some first) is =
            let slots = slots_some (fda_of sign) s.trace first is in
            λ quiet i c had j d.
            knows_all (IsCorrectFrom scenario s first) (small_from first) (filter (takes_part first) (correct a)) (counts_from first) true
            (λ h. whole (sign_fate_is ∙ ap fate_by slots.1 ∙ h)) (and_parts (nobody_waits_with_sign s sign) (all_read s) quiet).0 i c had j d
        by_first None never =
            λ quiet i c had.
            nobody_knows (IsCorrect scenario s) small_all (filter (λ log. true) (correct a)) all_count false
            (λ h. whole (sign_fate_is ∙ ap fate_by (slots_none (fda_of sign) s.trace never) ∙ h)) refl quiet i c had

    sign_disagreed : sign_fate a r' ≡ Apart → IsSignAgreedOn scenario s sign → ⊥
    sign_disagreed h agree = by_first (first_of_sign sign s.trace) refl agree
      where
        by_first : (o : Option ℕ) → first_of_sign sign s.trace ≡ o → IsSignAgreedFrom scenario s sign o → ⊥
        by_first (Some first) is from =
            let slots = slots_some (fda_of sign) s.trace first is in
            let p = sign_parted (IsCorrectFrom scenario s first) (small_from first) (filter (takes_part first) (correct a)) (counts_from first) true
            (ap fate_by (sym slots.1) ∙ sym sign_fate_is ∙ h) in
            elim p.lacking [
              | inl other ↦ other.2 (from (and_from (nobody_waits_with_sign s sign) (all_read s) p.nobody_waits' read) p.i p.counts p.had other.0 other.1)
              | inr never ↦ absurd (false≢true (sym never))
            ]
        by_first None never from =
            let p = sign_parted (IsCorrect scenario s) small_all (filter (λ log. true) (correct a)) all_count false
            (ap fate_by (sym (slots_none (fda_of sign) s.trace never)) ∙ sym sign_fate_is ∙ h) in
            from p.nobody_waits' p.i p.counts p.had

    pub sign_open_where : (sign_fate a r' ≡ Open) ↔ (nobody_waits_with_sign s sign ≡ false)
    sign_open_where = (
      λ h. waited_false (nobody_waits_with_sign s sign) (sym waited_is ∙ open_by waited (not (is_none r'.carried)) (is_nobody (nodes_of (sign_has a r'))) (is_nobody (nodes_of (sign_lacks a r'))) (sym open_is ∙ h)),
      λ h. open_is ∙ by_open waited (not (is_none r'.carried)) (is_nobody (nodes_of (sign_has a r'))) (is_nobody (nodes_of (sign_lacks a r'))) (waited_is ∙ ap not h),
    )
      where
        waited_false : (b : Bool) → not b ≡ true → b ≡ false
        waited_false true e = sym e
        waited_false false e = refl

        open_by : (w c k l : Bool) → sign_fate_of w c k l ≡ Open → w ≡ true
        open_by true c k l e = refl
        open_by false c k l e = absurd (not_open (sign_fate_of false c k l) (closed c k l) e)
          where
            closed : (c k l : Bool) → is_open (sign_fate_of false c k l) ≡ false
            closed true true l = refl
            closed false true l = refl
            closed c false false = refl
            closed true false true = refl
            closed false false true = refl

        by_open : (w c k l : Bool) → w ≡ true → sign_fate_of w c k l ≡ Open
        by_open true c k l e = refl
        by_open false c k l e = absurd (false≢true e)

    pub sign_apart_where : (sign_fate a r' ≡ Apart) ↔ (IsSignAgreedOn scenario s sign → ⊥)
    sign_apart_where = (
      sign_disagreed,
      λ h. elim (cases_Bool (is_apart (sign_fate a r'))) [
        | inl apart ↦ apart_by (sign_fate a r') apart
        | inr other ↦ absurd (h (sign_agreed (λ e. absurd (false≢true (sym other ∙ ap is_apart e)))))
      ],
    )

    -- a sign that no correct node knows is agreed on
    agreed_where_unknown : ((i : ℕ) → IsCorrect scenario s i → HasLoggedFailure scenario s i sign → ⊥) → IsSignAgreedOn scenario s sign
    agreed_where_unknown none = by_first (first_of_sign sign s.trace)
      where
        by_first : (o : Option ℕ) → IsSignAgreedFrom scenario s sign o
        by_first (Some first) = λ quiet i c had. absurd (none i c.correct had)
        by_first None = λ quiet i c had. none i c had

  -- the account has each sign that a correct node knows
  pub signs_are_told : (sign : FailureSign) (i : ℕ) → IsCorrect scenario s i → HasLoggedFailure scenario s i sign → Among (λ x. x ≡ sign) (signs_told (logs_of scenario s))
  signs_are_told sign i c had =
      among_ascending is_sign_before same_unless_before sign (flat_map (λ log. flat_map sign_in log.entries) (running (logs_of scenario s)))
      (Among-flat_map (λ log. flat_map sign_in log.entries) (λ x. x ≡ sign) (running (logs_of scenario s))
      (Among-weaker (λ x. x ≡ log_at scenario s i) (λ x. Among (λ y. y ≡ sign) (flat_map sign_in x.entries))
      (λ x e. subst (λ (l : LogParts). Among (λ y. y ≡ sign) (flat_map sign_in l.entries)) (sym e)
      (Among-flat_map sign_in (λ y. y ≡ sign) (log scenario s i)
      (Among-weaker (λ y. y ≡ had.entry) (λ y. Among (λ z. z ≡ sign) (sign_in y))
      (λ y e'. subst (λ entry. Among (λ z. z ≡ sign) (sign_in entry)) (sym e') (told_in had.entry had.tells)) (log scenario s i)
      (Among-from_Contains (log scenario s i) had.entry had.stands))))
      (running (logs_of scenario s)) (has_running scenario s (unread_fits scenario journal) i c)))
    where
      told_in : (entry : LogEntry) → tells_of sign entry → Among (λ z. z ≡ sign) (sign_in entry)
      told_in (Deliver slot by msg payload) is = absurd is
      told_in (Failed slot node cycle) is = inl (λ k. record { node = is.0 k; cycle = is.1 k })
      told_in (View slot number members) is = absurd is

  pub unlisted_agreed : (sign : FailureSign) → (Contains (signs_told (logs_of scenario s)) sign → ⊥) → all_read s ≡ true → IsSignAgreedOn scenario s sign
  unlisted_agreed sign unlisted read =
      agreed_where_unknown read sign (λ i c had. unlisted (Contains-from_Among (signs_told (logs_of scenario s)) sign (signs_are_told sign i c had)))
