-- The log of each incarnation is integral.
use Rattle.std.proofs.Common.{◌≡◌, ℕ, ◌<◌, ◌≤◌, ◌==◌, ◌⊎◌, inl, inr, Bool, List, [], ◌∷◌, ◌++◌, refl, ap, sym, ◌∙◌, subst, arith, Contains}
use Rattle.std.specs.Prelude.{Option, Some, None, count_by, find}
use Rattle.std.specs.Option.{option_map_or}
use Rattle.std.proofs.lemmas.Bool.{cond_both}
use Rattle.cany_base.specs.Limits.{most_nodes}
use Rattle.cany_base.specs.declared.log_entry.LogEntry.{LogEntry}
use Rattle.cany_base.specs.declared.log_entry.LogEntry.TheVariants.{Deliver, Failed, View}
use Rattle.cany_base.specs.declared.message.MsgKey.{MsgKey}
use Rattle.cany_base.specs.declared.slot_note.SlotNote.{SlotNote}
use Rattle.cany_base.specs.declared.step.Step.{Step}
use Rattle.cany_base.specs.Scenario.{ScenarioParts}
use Rattle.cany_model.specs.Bus.History.{history}
use Rattle.cany_model.specs.Bus.State.{EndedIncarnation, Incarnation, RunState}
use Rattle.cany_model.specs.Promises.Entries.{delivers_key}
use Rattle.cany_model.specs.Promises.Safe.{IsSound}
use Rattle.cany_model.specs.Promises.Settled.{IsCorrect}
use Rattle.cany_model.specs.Rules.Log.{log, log_from}
use Rattle.cany_model.specs.Rules.Turn.{scenario_for}
use Rattle.cany_model.specs.Runs.Incarnations.{incarnation_of, incarnations, log_of}
use Rattle.cany_model.specs.Runs.Run.{run}
use Rattle.cany_model.proofs.Among.{Among, Contains-from_Among, Contains-none}
use Rattle.cany_model.proofs.Promises.Integrity.{integral}
use Rattle.cany_laws.specs.Logs.{EachLogIsIntegral, IsIncarnation, log_as}
use Rattle.cany_laws.proofs.KeptAlongJournal.{stands_later}
use Rattle.cany_laws.proofs.Silences.Lives.{Lived, lived}
use Rattle.cany_model.proofs.Timed.Views.StartViews.{front_split}

-- ---- the incarnation of a number

found_among : {X : Type 0} (p : X → Bool) (x : X) (xs : List X) → find p xs ≡ Some x → Among (λ y. y ≡ x) xs
found_among p x [] h = absurd (cc)
found_among p x (y ∷ ys) h =
    cond_both (p y) (Some y) (find p ys) (λ o. o ≡ Some x → Among (λ z. z ≡ x) (y ∷ ys)) (λ _ e. inl (cc)) (λ _ e. inr (found_among p x ys e)) h

-- the log that a number names is that of an incarnation, or empty
pub log_named : (scenario : ScenarioParts) (s : RunState) (i number : ℕ) → i < scenario.params.nodes
    → (log_of scenario s i number ≡ []) ⊎ ((e : EndedIncarnation) × IsIncarnation scenario s i e × (log_of scenario s i number ≡ log_as scenario s i e))
unfolding incarnation_of
log_named scenario s i number there = by_found (incarnation_of s i number) refl
  where
    by_found : (o : Option EndedIncarnation) → incarnation_of s i number ≡ o
        → (log_of scenario s i number ≡ []) ⊎ ((e : EndedIncarnation) × IsIncarnation scenario s i e × (log_of scenario s i number ≡ log_as scenario s i e))
    by_found None is = inl (ap (λ o. option_map_or (log_as scenario s i) o []) is)
    by_found (Some e) is = inr (
      e,
      record {
        there = there;
        stands = Contains-from_Among (incarnations s i) e (found_among (λ f. f.incarnation.number == number) e (incarnations s i) is);
      },
      ap (λ o. option_map_or (log_as scenario s i) o []) is,
    )

-- ---- an incarnation that ran after a front

pub lived_correct : (scenario : ScenarioParts) (journal : List Step) (i : ℕ) (e : EndedIncarnation) → i < scenario.params.nodes → (l : Lived scenario journal i e)
    → IsCorrect scenario (run scenario l.front) i
lived_correct scenario journal i e there l = record { there = there; running = l.running }

pub lived_log : (scenario : ScenarioParts) (journal : List Step) (i : ℕ) (e : EndedIncarnation) (l : Lived scenario journal i e)
    → log_as scenario (run scenario journal) i e ≡ log scenario (run scenario l.front) i
lived_log scenario journal i e l =
    ap (log_from (scenario_for scenario e.incarnation) i) (sym l.past)
    ∙ ap (λ (inc : Incarnation). log_from (scenario_for scenario inc) i (history i (run scenario l.front))) (sym l.present)

-- ---- integrity

sound_later : (scenario : ScenarioParts) (s later : RunState) (newer : List SlotNote) → later.trace ≡ newer ++ s.trace → (entry : LogEntry)
    → IsSound scenario s entry → IsSound scenario later entry
sound_later scenario s later newer grows (Deliver slot by msg payload) h = (
  h.0,
  h.1,
  h.2,
  h.3,
  h.4,
  record {
    note = h.5.note;
    stands = subst (λ t. Contains t h.5.note) (sym grows) (stands_later newer s.trace h.5.note h.5.stands);
    by_then = h.5.by_then;
    frame = h.5.frame;
    sender = h.5.sender;
  },
)
sound_later scenario s later newer grows (Failed slot node cycle) h = h
sound_later scenario s later newer grows (View slot number members) h = h

module _ (scenario : ScenarioParts) (journal : List Step) (few : scenario.params.nodes ≤ most_nodes) where
  abbrev s : RunState
  s = run scenario journal

  once_as : (i : ℕ) (e : EndedIncarnation) → IsIncarnation scenario s i e → (key : MsgKey) → count_by (delivers_key key) (log_as scenario s i e) ≤ 1
  once_as i e is key =
      let l = lived scenario journal i e is in
      subst (λ entries. count_by (delivers_key key) entries ≤ 1) (sym (lived_log scenario journal i e l))
      ((integral scenario l.front few).once i (lived_correct scenario journal i e is.there l) key)

  pub sent_as : (i : ℕ) (e : EndedIncarnation) → IsIncarnation scenario s i e → (entry : LogEntry) → Contains (log_as scenario s i e) entry → IsSound scenario s entry
  sent_as i e is entry c =
      let l = lived scenario journal i e is in
      let split = front_split scenario journal l.front l.rest l.whole in
      sound_later scenario (run scenario l.front) s split.0 split.1 entry
      ((integral scenario l.front few).sent i (lived_correct scenario journal i e is.there l) entry
      (subst (λ entries. Contains entries entry) (lived_log scenario journal i e l) c))

  pub each_integral : EachLogIsIntegral scenario s
  each_integral = record {
    once = λ i number there key. elim (log_named scenario s i number there) [
      | inl none ↦ subst (λ entries. count_by (delivers_key key) entries ≤ 1) (sym none) (omega arith)
      | inr some ↦ subst (λ entries. count_by (delivers_key key) entries ≤ 1) (sym some.2) (once_as i some.0 some.1 key)
    ];
    sent = λ i number there entry c. elim (log_named scenario s i number there) [
      | inl none ↦ absurd (Contains-none entry (subst (λ entries. Contains entries entry) none c))
      | inr some ↦ sent_as i some.0 some.1 entry (subst (λ entries. Contains entries entry) some.2 c)
    ];
  }
