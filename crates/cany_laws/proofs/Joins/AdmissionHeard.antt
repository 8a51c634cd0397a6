-- A JOIN that was carried Clean is got by each incarnation that reads its slot and takes part in
-- it, but for the node that it names.
use Rattle.std.proofs.Common.{◌≡◌, ◌≢◌, ℕ, ◌+◌, ◌-◌, ◌<◌, ◌≤◌, inl, inr, false, List, [], ◌∷◌, ◌++◌, length, map, drop, Some, refl, ap, sym, ◌∙◌, subst, arith, drop-drop, length-append}
use Rattle.std.specs.List.{AllByRecursion}
use Rattle.std.proofs.Math.Seq.{drop-append_seam}
use Rattle.cany_base.specs.declared.class.Class.TheVariants as class
use Rattle.cany_base.specs.declared.notice.NoticeKind.TheVariants.{Got}
use Rattle.cany_base.specs.declared.rule.Verdict.TheVariants.{Clean}
use Rattle.cany_base.specs.declared.slot_note.SlotNote.{SlotNote}
use Rattle.cany_base.specs.declared.step.Step.{Step}
use Rattle.cany_base.specs.Frame.{FrameParts}
use Rattle.cany_base.specs.Limits.{most_nodes}
use Rattle.cany_base.specs.Scenario.{ScenarioParts}
use Rattle.cany_model.specs.Bus.Frames.{same_class}
use Rattle.cany_model.specs.Bus.History.{as_seen, ended_history, given, seen}
use Rattle.cany_model.specs.Bus.Slot.{FaultScript, after_slot, script}
use Rattle.cany_model.specs.Bus.State.{EndedIncarnation, Incarnation, RunState, node_at, opening}
use Rattle.cany_model.specs.Runs.Run.{run}
use Rattle.cany_model.proofs.Among.{Each-second}
use Rattle.cany_model.proofs.Bus.Notes.{given-Sent, sender_waits}
use Rattle.cany_model.proofs.Bus.Restarts.{after_restarts-trace}
use Rattle.cany_model.proofs.Bus.Seen.{carries_other, drop_seen, hidden_not, seen_plain}
use Rattle.cany_model.proofs.Promises.Diffusion.{Heard}
use Rattle.cany_model.proofs.Promises.EachNode.{each_running}
use Rattle.cany_model.proofs.Runs.Journals.{run_none}
use Rattle.cany_model.proofs.Runs.Steps.{after_slot-trace, after_turn-trace}
use Rattle.cany_model.proofs.Timed.Detector.Stopped.{SentItself, own_waits}
use Rattle.cany_model.proofs.Timed.Views.SameView.{end_of}
use Rattle.cany_model.proofs.Timed.Views.StartViews.{front_split}
use Rattle.cany_laws.specs.Logs.{IsIncarnation}
use Rattle.cany_laws.proofs.Members.EqualMembers.{first_read, first_read-more, next_read}
use Rattle.cany_laws.proofs.KeptAlongJournal.{along_pushes, drop-map, pushed}
use Rattle.cany_laws.proofs.Silences.Lives.{Lived, lived}
use Rattle.cany_model.proofs.Timed.Detector.HeardWithin.{heard_kept}

-- ---- who sends, and who hears

-- each frame that shows life, and each JOIN, is sent by the node alone that it names
sent_itself : (scenario : ScenarioParts) → 0 < scenario.params.life → (journal : List Step) → AllByRecursion SentItself (run scenario journal).trace
sent_itself scenario some =
    along_pushes (λ front. AllByRecursion SentItself (run scenario front).trace)
    (subst (λ (s : RunState). AllByRecursion SentItself s.trace) (sym (run_none scenario (opening scenario.params.nodes))) tt) (λ front next before.
    let s : RunState = run scenario front in
    let rules : FaultScript = script scenario.rules in
    elim (pushed scenario front next).is [
      | inl refused ↦ subst (λ (q : RunState). AllByRecursion SentItself q.trace) (sym refused) before
      | inr (inr turn) ↦ subst (AllByRecursion SentItself) (sym (ap (λ (q : RunState). q.trace) turn.2 ∙ after_turn-trace scenario turn.0 s)) before
      | inr (inl slot) ↦
          subst (AllByRecursion SentItself)
          (sym (ap (λ (q : RunState). q.trace) slot.1 ∙ after_restarts-trace scenario (after_slot rules s) ∙ after_slot-trace rules s))
          (λ i f frame sender mine. let w = sender_waits rules s f i frame sender in own_waits scenario some front i w.0 f w.1 mine, before)
    ])

-- ---- what an incarnation reads of a slot

module _ (scenario : ScenarioParts) (journal : List Step) (i : ℕ) (e : EndedIncarnation) (l : Lived scenario journal i e) (newer : List SlotNote)
    (base : List SlotNote) (split : (run scenario journal).trace ≡ newer ++ base) where
  abbrev s : RunState
  s = run scenario journal

  pub read_is : length base ≤ e.next → first_read (length base) s i e ≡ map (given i) (seen e.incarnation base)
  unfolding ended_history
  read_is short =
      let inc : Incarnation = e.incarnation in
      let long : length s.trace ≡ length newer + length base = ap length split ∙ length-append newer base in
      drop-map (e.next - length base) (given i) (drop (length s.trace - e.next) (seen inc s.trace))
      ∙ ap (map (given i))
      (drop-drop (e.next - length base) (length s.trace - e.next) (seen inc s.trace)
      ∙ ap (λ n. drop n (seen inc s.trace)) (omega (arith, long, short, l.short))
      ∙ drop_seen (length newer) inc s.trace
      ∙ ap (λ t. seen inc (drop (length newer) t)) split
      ∙ ap (seen inc) (drop-append_seam newer base))

  -- it has heard the slots that it has read
  pub has_heard : length base ≤ e.next → AllByRecursion (Heard i) (seen e.incarnation base)
  has_heard short =
      let front : RunState = run scenario l.front in
      let way = front_split scenario journal l.front l.rest l.whole in
      let inside : length base ≤ length front.trace = omega (arith, short, l.next) in
      let mid = end_of newer base way.0 front.trace (sym split ∙ way.1) inside in
      let all : AllByRecursion (Heard i) (seen (node_at front.nodes i).present front.trace) =
      each_running scenario (λ trace i node. AllByRecursion (Heard i) trace) (heard_kept scenario) l.front i l.running in
      let same : seen (node_at front.nodes i).present front.trace ≡ seen e.incarnation mid.0 ++ seen e.incarnation base =
      ap (λ (inc : Incarnation). seen inc front.trace) l.present ∙ ap (seen e.incarnation) mid.1 ∙ map_append (as_seen e.incarnation) mid.0 base in
      Each-second (Heard i) (seen e.incarnation mid.0) (seen e.incarnation base) (subst (AllByRecursion (Heard i)) same all)
    where
      map_append : (f : SlotNote → SlotNote) (xs ys : List SlotNote) → map f (xs ++ ys) ≡ map f xs ++ map f ys
      map_append f [] ys = refl
      map_append f (x ∷ xs) ys = ap (λ t. f x ∷ t) (map_append f xs ys)

-- the notice of a slot
pub notice_is : (scenario : ScenarioParts) (journal : List Step) (i : ℕ) (e : EndedIncarnation) (l : Lived scenario journal i e)
    (newer : List SlotNote) (note : SlotNote) (older : List SlotNote) → (run scenario journal).trace ≡ newer ++ (note ∷ older) → length older < e.next
    → next_read (length older) (run scenario journal) i e ≡ given i (as_seen e.incarnation note)
notice_is scenario journal i e l newer note older split read =
    let s : RunState = run scenario journal in
    let one : length older + 1 ≡ length (note ∷ older) = omega arith in
    let both : next_read (length older) s i e ∷ first_read (length older) s i e
    ≡ given i (as_seen e.incarnation note) ∷ map (given i) (seen e.incarnation older) =
    sym (first_read-more scenario journal i (length older) e l read) ∙ ap (λ n. first_read n s i e) one
    ∙ read_is scenario journal i e l newer (note ∷ older) split (omega (arith, read)) in
    cc

-- a JOIN that was carried Clean
pub join_got : (scenario : ScenarioParts) → 0 < scenario.params.life → scenario.params.nodes ≤ most_nodes
    → (journal : List Step) (i r : ℕ) (e : EndedIncarnation)
    → IsIncarnation scenario (run scenario journal) i e → (newer : List SlotNote) (note : SlotNote) (older : List SlotNote)
    → (run scenario journal).trace ≡ newer ++ (note ∷ older) → note.slot ≡ length older → length older < e.next → e.incarnation.from ≤ length older
    → (f : FrameParts) → note.frame ≡ Some f → f.class ≡ class.Join → f.node ≡ r → note.verdict ≡ Clean → r ≢ i
    → next_read (length older) (run scenario journal) i e ≡ Got f
unfolding same_class
join_got scenario some small journal i r e is newer note older split slot read part f frame join asker clean other =
    let l = lived scenario journal i e is in
    let inc : Incarnation = e.incarnation in
    let other_class : same_class f.class class.Rha ≡ false = ap (λ c. same_class c class.Rha) join in
    let plain : as_seen inc note ≡ note = seen_plain inc note (hidden_not inc note (omega (arith, part, slot))
    (carries_other inc.cycle note f frame other_class)) in
    let heard : Heard i note =
    subst (Heard i) plain (has_heard scenario journal i e l newer (note ∷ older) split (omega (arith, read))).0 in
    let own : SentItself note =
    (Each-second SentItself newer (note ∷ older) (subst (AllByRecursion SentItself) split (sent_itself scenario some journal))).0 in
    let few : i < most_nodes = omega (arith, is.there, small) in
    notice_is scenario journal i e l newer note older split read ∙ ap (given i) plain ∙ elim (heard.clean few f frame clean) [
      | inl got ↦ got
      | inr sent ↦ absurd (other (sym asker ∙ own i f frame (given-Sent i note f sent).1 (inr join)))
    ]
