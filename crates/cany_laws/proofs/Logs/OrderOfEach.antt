-- What each incarnation has delivered by TOTCAN is a prefix of the order of the messages that it or
-- a running node has accepted.
use Rattle.std.proofs.Common.{◌≡◌, ℕ, suc, ◌+◌, ◌-◌, ◌<◌, ◌≤◌, inl, inr, Bool, true, List, ◌++◌, length, map, drop, ap, sym, ◌∙◌, subst, arith, Contains, drop-drop}
use Rattle.std.proofs.lemmas.Bool.{and_parts, or_cases, or_left}
use Rattle.std.proofs.lemmas.List.{drop-map, get_or_default, map-append}
use Rattle.cany_base.proofs.ParamsFacts.{few_nodes}
use Rattle.cany_base.specs.declared.message.MsgKey.{MsgKey}
use Rattle.cany_base.specs.declared.slot_note.SlotNote.{SlotNote}
use Rattle.cany_base.specs.declared.step.Step.{Step}
use Rattle.cany_base.specs.Limits.{most_nodes}
use Rattle.cany_base.specs.Scenario.{IsLegalScenario, ScenarioParts}
use Rattle.cany_model.specs.Bus.History.{given, seen}
use Rattle.cany_model.specs.Bus.Slot.{is_clean}
use Rattle.cany_model.specs.Bus.State.{EndedIncarnation, Incarnation, RunState, node_at}
use Rattle.cany_model.specs.Promises.Acceptance.{WasCarriedClean}
use Rattle.cany_model.specs.Promises.Hypothesis.{IsWithin}
use Rattle.cany_model.specs.Promises.Order.{is_accepted_by_some, order_by}
use Rattle.cany_model.specs.Rules.Totcan.{delivered, is_accepted, tot_of_key}
use Rattle.cany_model.specs.Runs.Run.{run}
use Rattle.cany_model.proofs.Bus.Seen.{history-is, length-seen}
use Rattle.cany_model.proofs.Bus.States.{no_note, note_at}
use Rattle.cany_model.proofs.Runs.Runs.{orderly}
use Rattle.cany_model.proofs.Timed.Common.Ages.{Done, carried_there, carries, clean_carried, past}
use Rattle.cany_model.proofs.Timed.Common.SeenAges.{done_from}
use Rattle.cany_model.proofs.Timed.Detector.DetectorLaws.{within_front}
use Rattle.cany_model.proofs.Timed.Guarantees.{slots_are_quiet}
use Rattle.cany_model.proofs.Timed.Order.Accepted.{accepted_done, accepted_on, seen_first}
use Rattle.cany_model.proofs.Timed.Order.Accepts.{acceptance_at}
use Rattle.cany_model.proofs.Timed.Order.DeliveredPrefix.{Reads, delivered_first}
use Rattle.cany_model.proofs.Timed.Order.OneOrder.{Ground, accepted_by_one, ground_of}
use Rattle.cany_model.proofs.Timed.Order.OrderAt.{order_seen}
use Rattle.cany_model.proofs.Timed.Order.OrderLog.{content_in, log_delivers}
use Rattle.cany_model.proofs.Timed.Order.TotCount.{within_silent}
use Rattle.cany_model.proofs.Timed.Order.TotRun.{tot_kept}
use Rattle.cany_laws.specs.Logs.{IsIncarnation, followed_by, past_of}
use Rattle.cany_laws.specs.Order.{EachFollowsOrder, FollowsOrderAs, IsPrefixOf, deliveries_as, is_accepted_by_it_or_some}
use Rattle.cany_laws.proofs.KeptAlongJournal.{stands_later}
use Rattle.cany_laws.proofs.Silences.Lives.{Lived, lived}
use Rattle.cany_laws.proofs.Logs.OrderLists.{order_filter, order_longer, prefix_filter, prefix_more}
use Rattle.cany_laws.proofs.Logs.OrderReading.{accepted_in_time_by_each, sees_late}
use Rattle.cany_laws.proofs.Since.{begins_now}
use Rattle.cany_model.proofs.Timed.Views.StartViews.{front_split}
use Rattle.cany_model.proofs.Timed.Windows.FewVectors.{clean_is}

module _ (scenario : ScenarioParts) (legal : IsLegalScenario scenario) (journal : List Step) (within : IsWithin scenario.params (run scenario journal).trace)
    (i : ℕ) (e : EndedIncarnation) (is : IsIncarnation scenario (run scenario journal) i e) (l : Lived scenario journal i e) where
  abbrev s : RunState
  s = run scenario journal

  -- when it made its last turn
  abbrev then : RunState
  then = run scenario l.front

  abbrev inc : Incarnation
  inc = (node_at (run scenario l.front).nodes i).present

  abbrev u : ℕ
  u = (node_at (run scenario l.front).nodes i).unread

  abbrev T : List SlotNote
  T = seen (node_at (run scenario l.front).nodes i).present (run scenario l.front).trace

  few : scenario.params.nodes ≤ most_nodes
  few = few_nodes scenario.params legal.in_range

  within_then : IsWithin scenario.params (run scenario l.front).trace
  within_then = within_front scenario journal l.front l.rest l.whole within

  ground : Ground scenario (run scenario l.front)
  ground =
      ground_of scenario l.front within_then (tot_kept scenario few l.front (within_silent scenario then.trace within_then))
      (acceptance_at scenario l.front few within_then (slots_are_quiet scenario l.front few legal.formulas legal.members within_then))

  past_is : past_of (run scenario journal) i e ≡ past i T u
  past_is = sym l.past ∙ history-is i then

  -- what a running node has accepted by now it had accepted, once it had read the closing
  shared_accepted : (m : MsgKey) (q v : ℕ) → Done T q m → is_accepted_by_some scenario (run scenario journal) m ≡ true → u ≤ v → v + scenario.params.bound ≤ q
      → is_accepted scenario.params.bound i m (past i T v) ≡ true
  shared_accepted m q v d some from late =
      let seen_done = done_from inc then.trace q m d in
      let note : SlotNote = note_at then.trace q in
      let there : q < length then.trace = carried_there (tot_of_key m) then.trace q (clean_carried (tot_of_key m) note seen_done.1) in
      let c : ℕ = length then.trace - suc q in
      let split = front_split scenario journal l.front l.rest l.whole in
      let number = (orderly scenario l.front).numbered q there in
      let parts = and_parts (carries (tot_of_key m) note) (is_clean note.verdict) seen_done.1 in
      let clean : WasCarriedClean s.trace m c = record {
        note = note;
        stands = subst (λ t. Contains t note) (sym split.1) (stands_later split.0 then.trace note (q, there, get_or_default then.trace q note no_note there));
        here = omega (arith, number, there);
        frame = parts.0;
        clean = clean_is note.verdict parts.1;
      } in
      let since = sees_late scenario legal l.front i note seen_done.0 in
      let next = l.next in
      let accepted = accepted_in_time_by_each scenario legal journal within m c clean some i e (record {
        is = is;
        took_part = omega (arith, since, number, there, ap (λ (x : Incarnation). x.from) l.present);
        read = omega (arith, next, from, late, there);
      }) in
      let w : ℕ = q - scenario.params.bound in
      let n : ℕ = e.next - (c + scenario.params.bound + 1) in
      let dropped : drop n (past_of s i e) ≡ past i T w =
      ap (drop n) past_is ∙ drop-map (given i) n (drop u T)
      ∙ ap (map (given i)) (drop-drop n u T ∙ ap (λ k. drop k T) (omega (arith, next, from, late, there))) in
      accepted_on scenario then.trace inc ground.plain ground.orderly.numbered ground.tot.trace i v w m (omega (arith, late))
      (ap (is_accepted scenario.params.bound i m) (sym dropped) ∙ accepted)

  its_reads : (v : ℕ) → u ≤ v → Reads scenario.params T i v (is_accepted_by_it_or_some scenario (run scenario journal) i e)
  its_reads v from =
      let own : MsgKey → Bool = λ m. is_accepted scenario.params.bound i m (past_of s i e) in
      let some : MsgKey → Bool = is_accepted_by_some scenario s in
      record {
        heard = (ground.tot.nodes i l.running).heard;
        accepted_done = λ m h. accepted_done scenario then.trace inc ground.plain ground.orderly.numbered ground.tot.trace i v m h;
        accepted_test = λ m h. or_left (own m) (some m) (ap (is_accepted scenario.params.bound i m) past_is
            ∙ accepted_on scenario then.trace inc ground.plain ground.orderly.numbered ground.tot.trace i u v m from h);
        test_accepted = λ m q d passes late. elim (or_cases (own m) (some m) passes) [
          | inl its ↦
              ground.accepted m i q v l.running d
              (accepted_by_one scenario then ground i l.running m (ap (is_accepted scenario.params.bound i m) (sym past_is) ∙ its)) from late
          | inr shared ↦ shared_accepted m q v d shared from late
        ];
      }

  whole : IsPrefixOf (deliveries_as scenario (run scenario journal) i e)
      (order_by (is_accepted_by_it_or_some scenario (run scenario journal) i e) e.incarnation.from (run scenario journal).trace)
  whole =
      let test : MsgKey → Bool = is_accepted_by_it_or_some scenario s i e in
      let short = (orderly scenario l.front).unread i in
      let first = seen_first scenario then.trace inc ground.plain ground.orderly.numbered ground.tot.trace in
      let first_part = delivered_first scenario.params T i u test first its_reads (omega (arith, short, length-seen inc then.trace)) in
      let entries : deliveries_as scenario s i e ≡ map content_in (delivered scenario.params i (past i T u)) =
      log_delivers (followed_by scenario e) i (past_of s i e) ∙ ap (λ x. map content_in (delivered scenario.params i x)) past_is in
      let its_order : order_by test e.incarnation.from then.trace ≡ deliveries_as scenario s i e ++ map content_in first_part.0 =
      ap (λ (x : Incarnation). order_by test x.from then.trace) (sym l.present)
      ∙ order_seen test inc (begins_now scenario l.front i).first then.trace
      ∙ ap (map content_in) first_part.1
      ∙ map-append content_in (delivered scenario.params i (past i T u)) first_part.0
      ∙ ap (λ x. x ++ map content_in first_part.0) (sym entries) in
      let split = front_split scenario journal l.front l.rest l.whole in
      let longer = order_longer test e.incarnation.from split.0 then.trace in
      subst (IsPrefixOf (deliveries_as scenario s i e)) (sym (ap (order_by test e.incarnation.from) split.1 ∙ longer.1))
      (prefix_more (deliveries_as scenario s i e) (order_by test e.incarnation.from then.trace) longer.0 (map content_in first_part.0, its_order))

  pub follows_order : FollowsOrderAs scenario (run scenario journal) i e
  follows_order =
      let own : MsgKey → Bool = λ m. is_accepted scenario.params.bound i m (past_of s i e) in
      let some : MsgKey → Bool = is_accepted_by_some scenario s in
      record {
        ordered = subst (IsPrefixOf _) (order_filter own some e.incarnation.from s.trace)
            (prefix_filter (λ c. some c.msg) (deliveries_as scenario s i e) (order_by (is_accepted_by_it_or_some scenario s i e) e.incarnation.from s.trace) whole);
        whole = whole;
      }

pub each_follows_order : (scenario : ScenarioParts) → IsLegalScenario scenario → (journal : List Step) → IsWithin scenario.params (run scenario journal).trace
    → EachFollowsOrder scenario (run scenario journal)
each_follows_order scenario legal journal within i e is = follows_order scenario legal journal within i e is (lived scenario journal i e is)
