-- A node of which nobody gets a JOIN asks at nobody, once its earlier asks were answered.
use Rattle.std.proofs.Common.{◌≡◌, ℕ, zero, suc, ◌+◌, ◌<◌, ◌≤◌, ◌⊎◌, ◌==◌, ◌&&◌, inl, inr, false, List, [], ◌∷◌, ◌++◌, length, Contains, refl, ap, sym, ◌∙◌, subst, arith}
use Rattle.std.proofs.lemmas.Bool.{and_from, both_ways, cases_Bool, cases_lt, cond_both, eq-eqb}
use Rattle.cany_base.specs.declared.class.Class.TheVariants as class
use Rattle.cany_base.specs.declared.notice.NoticeKind.{NoticeKind}
use Rattle.cany_base.specs.declared.notice.NoticeKind.TheVariants.{Idle, Got, Sent, Bad}
use Rattle.cany_base.specs.declared.slot_note.SlotNote.{SlotNote}
use Rattle.cany_base.specs.declared.step.Step.{Step}
use Rattle.cany_base.specs.Nodes.{has}
use Rattle.cany_base.specs.Params.{Parameters}
use Rattle.cany_base.specs.Scenario.{ScenarioParts}
use Rattle.cany_model.specs.Bus.Frames.{same_class}
use Rattle.cany_model.specs.Bus.History.{as_seen, given, is_hidden}
use Rattle.cany_model.specs.Bus.State.{EndedIncarnation, Incarnation, RunState}
use Rattle.cany_model.specs.Rules.Knowledge.{Knowledge, after_finding}
use Rattle.cany_model.specs.Rules.KnowledgeOf.{after_asking, knowledge_of}
use Rattle.cany_model.specs.Rules.Views.{after_ask, with_leaver}
use Rattle.cany_model.specs.Runs.Run.{run}
use Rattle.cany_model.proofs.Among.{Contains-cons, Contains-head}
use Rattle.cany_model.proofs.Bus.Seen.{Numbered, early_hidden, seen_idle, seen_plain}
use Rattle.cany_model.proofs.Promises.OwnSlotsAlone.{run_numbered}
use Rattle.cany_model.proofs.Runs.Runs.{orderly}
use Rattle.cany_model.proofs.Timed.Detector.SilentNode.{found_joiners}
use Rattle.cany_laws.specs.Logs.{IsIncarnation, followed_by}
use Rattle.cany_laws.specs.Removal.{NobodyGotJoin, got_join}
use Rattle.cany_laws.proofs.Joins.AdmissionHeard.{notice_is}
use Rattle.cany_laws.proofs.Members.EqualMembers.{first_read, first_read-more, first_read-none, next_read}
use Rattle.cany_laws.proofs.Silences.Lives.{Lived, lived}
use Rattle.cany_laws.proofs.Since.{begins}
use Rattle.cany_model.proofs.Timed.Detector.Removal.{asks_none, joiners_first, leaver_joiners, none_next}
use Rattle.cany_base.specs.Frame.{FrameParts}

-- ---- one turn

no_ask : (r : ℕ) (e : NoticeKind) (st : Knowledge) → got_join r e ≡ false → has st.joiners r ≡ false → has (after_ask e st).joiners r ≡ false
unfolding after_ask
no_ask r Idle st none h = h
no_ask r Bad st none h = h
no_ask r (Sent f) st none h =
    cond_both (same_class f.class class.Leave) (with_leaver f.node st) st (λ s. has s.joiners r ≡ false) (λ _. leaver_joiners r f.node st h) (λ _. h)
no_ask r (Got f) st none h = elim (cases_Bool (same_class f.class class.Join)) [
  | inl join ↦ asks_none r (Got f) st (inr (λ g same own mine.
      let is : f ≡ g = cc in
      both_ways (same_class f.class class.Join && f.node == r) none
      (and_from (same_class f.class class.Join) (f.node == r) join (eq-eqb f.node r (ap (λ (k : FrameParts). k.node) is ∙ mine))))) h
  | inr other ↦
      rw other
      (cond_both (same_class f.class class.Leave) (with_leaver f.node st) st (λ s. has s.joiners r ≡ false) (λ _. leaver_joiners r f.node st h) (λ _. h))
]

pub asks_not : (p : Parameters) (i r slot : ℕ) (e : NoticeKind) (st : Knowledge) → got_join r e ≡ false → has st.joiners r ≡ false
    → has (after_asking p i slot e st).joiners r ≡ false
asks_not p i r slot e st none h = no_ask r e (after_finding p i slot e st) none (ap (λ m. has m r) (found_joiners p i slot e st) ∙ h)

asks_not_after : (scenario : ScenarioParts) (i r : ℕ) (e : NoticeKind) (past : List NoticeKind) → got_join r e ≡ false
    → has (knowledge_of scenario i past).joiners r ≡ false → has (knowledge_of scenario i (e ∷ past)).joiners r ≡ false
asks_not_after scenario i r e past none h =
    none_next scenario i r e past (inl (asks_not scenario.params i r (length past) e (knowledge_of scenario i past) none h))

-- ---- the note of a slot

pub record NoteAt (trace : List SlotNote) (n : ℕ) : Type 0 where
  pub newer : List SlotNote
  pub note : SlotNote
  pub older : List SlotNote
  pub place : trace ≡ newer ++ (note ∷ older)
  pub size : length older ≡ n
  pub stands : Contains trace note
  pub slot : note.slot ≡ n

pub note_of : (trace : List SlotNote) (n : ℕ) → Numbered trace → n < length trace → NoteAt trace n
note_of [] n numbered below = absurd (omega (arith, below))
note_of (note ∷ trace) n numbered below = elim (cases_lt n (length trace)) [
  | inl older ↦
      let w = note_of trace n numbered.1 older in
      record {
        newer = note ∷ w.newer;
        note = w.note;
        older = w.older;
        place = ap (λ t. note ∷ t) w.place;
        size = w.size;
        stands = Contains-cons note w.note trace w.stands;
        slot = w.slot;
      }
  | inr last ↦
      let same : length trace ≡ n = omega (arith, last, below) in
      record { newer = []; note = note; older = trace; place = refl; size = same; stands = Contains-head note trace; slot = numbered.0 ∙ same }
]

-- ---- an incarnation that gets none

module _ (scenario : ScenarioParts) (journal : List Step) (r t until : ℕ) (silent : NobodyGotJoin scenario (run scenario journal) r t until)
    (i : ℕ) (e : EndedIncarnation) (is : IsIncarnation scenario (run scenario journal) i e) where
  abbrev s : RunState
  s = run scenario journal

  l : Lived scenario journal i e
  l = lived scenario journal i e is

  abbrev window : ℕ
  window = scenario.params.cycle + scenario.params.bound

  -- in a slot up to the last, near the first or later, or before it takes part
  pub gets_none : (n : ℕ) → n < e.next → n ≤ until → (t < n + (scenario.params.cycle + scenario.params.bound)) ⊎ (n < e.incarnation.from)
      → got_join r (next_read n (run scenario journal) i e) ≡ false
  gets_none n read before why =
      let inc : Incarnation = e.incarnation in
      let w = note_of s.trace n (run_numbered scenario.params.nodes s (orderly scenario journal)) (omega (arith, read, l.short)) in
      let is_given : next_read n s i e ≡ given i (as_seen inc w.note) =
      ap (λ m. next_read m s i e) (sym w.size) ∙ notice_is scenario journal i e l w.newer w.note w.older w.place (omega (arith, w.size, read)) in
      ap (got_join r) is_given ∙ elim (cases_Bool (is_hidden inc w.note)) [
        | inl hidden ↦ ap (got_join r) (seen_idle i inc w.note hidden)
        | inr plain ↦ ap (λ (m : SlotNote). got_join r (given i m)) (seen_plain inc w.note plain) ∙ elim why [
          | inl near ↦ silent w.note w.stands (omega (arith, near, w.slot)) (omega (arith, before, w.slot)) i
          | inr early ↦ elim (cases_lt 0 inc.number) [
            | inl later ↦ absurd (both_ways (is_hidden inc w.note) plain (early_hidden inc w.note later (omega (arith, early, w.slot))))
            | inr first ↦ absurd (omega (arith, early, (begins scenario journal i e l).first (omega (arith, first))))
          ]
        ]
      ]

  abbrev K : ℕ → Knowledge
  K n = knowledge_of (followed_by scenario e) i (first_read n (run scenario journal) i e)

  -- it asks at no slot since one at which it did not ask
  pub still_none : (m : ℕ) → has (knowledge_of (followed_by scenario e) i (first_read m (run scenario journal) i e)).joiners r ≡ false
      → ((n : ℕ) → m ≤ n → n < e.next → n < until → got_join r (next_read n (run scenario journal) i e) ≡ false)
      → (d : ℕ) → m + d ≤ e.next → m + d ≤ until
      → has (knowledge_of (followed_by scenario e) i (first_read (m + d) (run scenario journal) i e)).joiners r ≡ false
  still_none m first none zero read before =
      let same : m ≡ m + 0 = omega arith in
      subst (λ n. has (K n).joiners r ≡ false) same first
  still_none m first none (suc d) read before =
      let n : ℕ = m + d in
      let one : n + 1 ≡ m + suc d = omega arith in
      subst (λ x. has (K x).joiners r ≡ false) one
      (ap (λ past. has (knowledge_of (followed_by scenario e) i past).joiners r) (first_read-more scenario journal i n e l (omega (arith, read)))
      ∙ asks_not_after (followed_by scenario e) i r (next_read n s i e) (first_read n s i e)
      (none n (omega arith) (omega (arith, read)) (omega (arith, before)))
      (still_none m first none d (omega (arith, read)) (omega (arith, before))))

  pub none_first : has (knowledge_of (followed_by scenario e) i (first_read 0 (run scenario journal) i e)).joiners r ≡ false
  none_first = ap (λ past. has (knowledge_of (followed_by scenario e) i past).joiners r) (first_read-none scenario journal i e l)
      ∙ joiners_first (followed_by scenario e) i r
