-- The vectors, views and acceptances of all incarnations, from those of nodes that run, by a
-- journal in which both have read the same.
use Rattle.std.proofs.Common.{◌≡◌, ℕ, zero, suc, ◌+◌, ◌-◌, ◌*◌, ◌<◌, ◌≤◌, inl, inr, List, [], ◌∷◌, ◌++◌, length, drop, refl, ap, sym, ◌∙◌, subst, arith, length-append}
use Rattle.std.specs.Prelude.{Option, Some, None}
use Rattle.std.proofs.Math.Seq.{drop-append_seam}
use Rattle.std.proofs.lemmas.Bool.{cases_lt}
use Rattle.std.proofs.lemmas.Option.{same_Some}
use Rattle.cany_base.proofs.ParamsFacts.{few_nodes}
use Rattle.cany_base.specs.declared.message.MsgKey.{MsgKey}
use Rattle.cany_base.specs.declared.notice.NoticeKind.{NoticeKind}
use Rattle.cany_base.specs.declared.slot_note.SlotNote.{SlotNote}
use Rattle.cany_base.specs.declared.step.Step.{Step}
use Rattle.cany_base.specs.Nodes.{Nodes}
use Rattle.cany_base.specs.Scenario.{IsLegalScenario, ScenarioParts}
use Rattle.cany_model.specs.Bus.History.{history}
use Rattle.cany_model.specs.Bus.State.{EndedIncarnation, Incarnation, RunState, reads}
use Rattle.cany_model.specs.Promises.Acceptance.{HasReadClosing, WasCarriedClean, accepted_in_time}
use Rattle.cany_model.specs.Promises.Hypothesis.{IsWithin}
use Rattle.cany_model.specs.Promises.OneView.{HasReadEnd, installed, installed_of}
use Rattle.cany_model.specs.Rules.Totcan.{is_accepted}
use Rattle.cany_model.specs.Rules.Turn.{scenario_for}
use Rattle.cany_model.specs.Runs.Run.{run}
use Rattle.cany_model.proofs.Among.{Among, Among-append_cases, Among-from_Contains, Contains-from_Among}
use Rattle.cany_model.proofs.Bus.Seen.{Numbered}
use Rattle.cany_model.proofs.Promises.OwnSlotsAlone.{run_numbered}
use Rattle.cany_model.proofs.Runs.Runs.{history-length, orderly}
use Rattle.cany_model.proofs.Timed.Guarantees.{accepted_by_all_or_none, one_vector_each}
use Rattle.cany_model.proofs.Timed.Views.LoggedViews.{installed_read, view_installed}
use Rattle.cany_model.proofs.Timed.Views.OneVector.{installed_before}
use Rattle.cany_model.proofs.Timed.Windows.QuietSlots.{within_dropped}
use Rattle.cany_model.proofs.Timed.Detector.DetectorLaws.{within_front}
use Rattle.cany_laws.specs.Acceptance.{IsAcceptedByEachOrNone, accepted_in_time_as}
use Rattle.cany_laws.specs.Logs.{IsIncarnation, followed_by, past_of}
use Rattle.cany_laws.specs.Views.{EachHasOneView, EachInstallsOneVector, HasReadEndAs, installed_as}
use Rattle.cany_laws.proofs.Logs.IntegralLogs.{lived_correct}
use Rattle.cany_laws.proofs.Silences.Lives.{Lived, lived}
use Rattle.cany_laws.proofs.Since.{begins}
use Rattle.cany_laws.proofs.SlotRead.{HadRead, both_read}

-- ---- an incarnation

-- it has read as many notices as there are slots below the next one that it would read
pub past_length : (scenario : ScenarioParts) (journal : List Step) (i : ℕ) (e : EndedIncarnation) → Lived scenario journal i e
    → length (past_of (run scenario journal) i e) ≡ e.next
past_length scenario journal i e l = ap length (sym l.past) ∙ history-length i (run scenario l.front) ∙ l.next

-- what it installs is found again later
pub installed_drop : (scenario : ScenarioParts) (i k n : ℕ) (past : List NoticeKind)
    → k * scenario.params.cycle + scenario.params.bound < length past - n → installed_of scenario i k past ≡ installed_of scenario i k (drop n past)
installed_drop scenario i k zero past h = refl
installed_drop scenario i k (suc n) [] h = refl
installed_drop scenario i k (suc n) (e ∷ past) h =
    installed_before scenario i k e past (λ at. omega (arith, at, h)) ∙ installed_drop scenario i k n past (omega (arith, h))

-- ---- by a journal in which it has read just so much

module _ (scenario : ScenarioParts) (legal : IsLegalScenario scenario) (journal : List Step) (within : IsWithin scenario.params (run scenario journal).trace) where
  abbrev s : RunState
  s = run scenario journal

  pub older_within : (older newer : List SlotNote) → s.trace ≡ newer ++ older → IsWithin scenario.params older
  older_within older newer split =
      subst (IsWithin scenario.params) (ap (drop (length newer)) split ∙ drop-append_seam newer older)
      (within_dropped scenario.params s.trace (length newer) within)

  had_installed : (k i : ℕ) (e : EndedIncarnation) (to : List Step) → Lived scenario journal i e
      → k * scenario.params.cycle + scenario.params.bound < e.next
      → HadRead scenario journal to (k * scenario.params.cycle + scenario.params.bound) i e
      → installed scenario (run scenario to) i k ≡ installed_as scenario s i e k
  had_installed k i e to l read h =
      let t : ℕ = k * scenario.params.cycle + scenario.params.bound in
      ap (λ (inc : Incarnation). installed_of (scenario_for scenario inc) i k (history i (run scenario to))) h.present
      ∙ ap (installed_of (followed_by scenario e) i k) h.past
      ∙ sym (installed_drop (followed_by scenario e) i k (e.next - (t + 1)) (past_of s i e) (omega (arith, past_length scenario journal i e l, read)))

  pub each_installs_one : (k : ℕ) → EachInstallsOneVector scenario s k
  each_installs_one k =
      let t : ℕ = k * scenario.params.cycle + scenario.params.bound in
      record {
        alike = λ i j e f he hf.
            let le = lived scenario journal i e he.is in
            let lf = lived scenario journal j f hf.is in
            let b = both_read scenario journal t i j e f he.is hf.is he.read hf.read
            (omega (arith, (begins scenario journal i e le).since, he.took_part)) (omega (arith, (begins scenario journal j f lf).since, hf.took_part)) in
            let ended : (m : ℕ) (x : EndedIncarnation) → HadRead scenario journal b.to t m x → x.incarnation.from ≤ k * scenario.params.cycle
            → HasReadEnd scenario (run scenario b.to) k m =
            λ m x h took. record {
              correct = record { correct = h.correct; took_part = subst (λ (inc : Incarnation). inc.from ≤ k * scenario.params.cycle) (sym h.present) took };
              read = omega (arith, h.read);
            } in
            sym (had_installed k i e b.to le he.read b.one)
            ∙ (one_vector_each scenario legal b.to (older_within (run scenario b.to).trace b.newer b.split) k).alike i j
            (ended i e b.one he.took_part) (ended j f b.other hf.took_part)
            ∙ had_installed k j f b.to lf hf.read b.other;
        late = λ i e is later.
            let l = lived scenario journal i e is in
            ap (installed_of (followed_by scenario e) i k) (sym l.past)
            ∙ ap (λ (inc : Incarnation). installed_of (scenario_for scenario inc) i k (history i (run scenario l.front))) (sym l.present)
            ∙ (one_vector_each scenario legal l.front (within_front scenario journal l.front l.rest l.whole within) k).late i
            (lived_correct scenario journal i e is.there l)
            (subst (λ (inc : Incarnation). k * scenario.params.cycle < inc.from) (sym l.present) later);
      }

  -- a view in its log it has installed, and so it takes part since the cycle starts
  pub view_read : (i : ℕ) (e : EndedIncarnation) → IsIncarnation scenario s i e → (number : ℕ) (v : Nodes) → installed_as scenario s i e number ≡ Some v
      → HasReadEndAs scenario s number i e
  view_read i e is number v h =
      let l = lived scenario journal i e is in
      record {
        is = is;
        took_part = elim (cases_lt (number * scenario.params.cycle) e.incarnation.from) [
          | inl later ↦ absurd (none_some (installed_as scenario s i e number) v ((each_installs_one number).late i e is later) h)
          | inr early ↦ early
        ];
        read = omega (arith, installed_read (followed_by scenario e) i number (past_of s i e) v h, past_length scenario journal i e l);
      }
    where
      none_some : (o : Option Nodes) (v : Nodes) → o ≡ None → o ≡ Some v → ⊥
      none_some o v a b = absurd (cc)

  pub each_has_one_view : EachHasOneView scenario s
  each_has_one_view i j e f ie if' number here there members others le lf =
      let we = (view_installed (followed_by scenario e) i (past_of s i e) here number members le).1 in
      let wf = (view_installed (followed_by scenario f) j (past_of s j f) there number others lf).1 in
      same_Some members others
      (sym we ∙ (each_installs_one number).alike i j e f (view_read i e ie number members we) (view_read j f if' number others wf) ∙ wf)

  -- ---- acceptance

  -- what was carried Clean in an older slot stands in the older trace
  pub clean_older : (newer older : List SlotNote) → Numbered (newer ++ older) → (key : MsgKey) (c : ℕ) → c < length older → WasCarriedClean (newer ++ older) key c
      → WasCarriedClean older key c
  clean_older newer older numbered key c early w = record {
    note = w.note;
    stands = elim (Among-append_cases (λ n. n ≡ w.note) newer older (Among-from_Contains (newer ++ older) w.note w.stands)) [
      | inl new ↦ absurd (omega (arith, early, w.here, newer_slots newer older numbered w.note new))
      | inr old ↦ Contains-from_Among older w.note old
    ];
    here = w.here;
    frame = w.frame;
    clean = w.clean;
  }
    where
      newer_slots : (newer older : List SlotNote) → Numbered (newer ++ older) → (note : SlotNote) → Among (λ n. n ≡ note) newer → length older ≤ note.slot
      newer_slots [] older numbered note h = absurd h
      newer_slots (first ∷ newer) older numbered note (inl e) =
          omega (arith, numbered.0, length-append newer older, ap (λ (n : SlotNote). n.slot) e)
      newer_slots (first ∷ newer) older numbered note (inr h) = newer_slots newer older numbered.1 note h

  pub accepted_by_each : (key : MsgKey) (c : ℕ) → WasCarriedClean s.trace key c → IsAcceptedByEachOrNone scenario s key c
  accepted_by_each key c clean i j e f he hf =
      let t : ℕ = c + scenario.params.bound in
      let le = lived scenario journal i e he.is in
      let lf = lived scenario journal j f hf.is in
      let b = both_read scenario journal t i j e f he.is hf.is he.read hf.read
      (omega (arith, (begins scenario journal i e le).since, he.took_part)) (omega (arith, (begins scenario journal j f lf).since, hf.took_part)) in
      let closing : (m : ℕ) (x : EndedIncarnation) → HadRead scenario journal b.to t m x → x.incarnation.from ≤ c → HasReadClosing scenario (run scenario b.to) c m =
      λ m x h took. record {
        correct = record { correct = h.correct; took_part = subst (λ (inc : Incarnation). inc.from ≤ c) (sym h.present) took };
        read = omega (arith, h.read);
      } in
      let there : WasCarriedClean (run scenario b.to).trace key c =
      clean_older b.newer (run scenario b.to).trace
      (subst Numbered b.split (run_numbered scenario.params.nodes s (orderly scenario journal))) key c (omega (arith, b.size))
      (subst (λ tr. WasCarriedClean tr key c) b.split clean) in
      let alike = (accepted_by_all_or_none scenario b.to (few_nodes scenario.params legal.in_range) legal.formulas legal.members
      (older_within (run scenario b.to).trace b.newer b.split) key c there).alike i j (closing i e b.one he.took_part) (closing j f b.other hf.took_part) in
      sym (had_accepted i e b.to b.one) ∙ alike ∙ had_accepted j f b.to b.other
    where
      had_accepted : (m : ℕ) (x : EndedIncarnation) (to : List Step) → HadRead scenario journal to (c + scenario.params.bound) m x
          → accepted_in_time scenario (run scenario to) key c m ≡ accepted_in_time_as scenario s key c m x
      had_accepted m x to h =
          let none : reads (run scenario to) m - (c + scenario.params.bound + 1) ≡ 0 = omega (arith, h.read) in
          ap (λ n. is_accepted scenario.params.bound m key (drop n (history m (run scenario to)))) none
          ∙ ap (is_accepted scenario.params.bound m key) h.past
