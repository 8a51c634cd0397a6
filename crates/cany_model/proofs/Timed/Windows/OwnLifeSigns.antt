-- What a node's own life signs do to the slot of its last life: one that it has read as sent sets
-- it, and nothing sets it back.
use Rattle.std.proofs.Common.{◌≡◌, ℕ, zero, suc, ◌+◌, ◌<◌, ◌≤◌, ◌==◌, inl, inr, Bool, true, ◌||◌, List, [], ◌∷◌, map, length, refl, ap, sym, ◌∙◌, arith}
use Rattle.std.proofs.lemmas.Bool.{and_from, and_parts, cond_both, false≢true, or_left}
use Rattle.std.proofs.lemmas.List.{length-map}
use Rattle.cany_base.specs.declared.class.Class.TheVariants as class
use Rattle.cany_base.specs.declared.notice.NoticeKind.{NoticeKind}
use Rattle.cany_base.specs.declared.notice.NoticeKind.TheVariants.{Idle, Got, Sent, Bad}
use Rattle.cany_base.specs.declared.slot_note.SlotNote.{SlotNote}
use Rattle.cany_base.specs.Scenario.{ScenarioParts}
use Rattle.cany_model.specs.Bus.Frames.{same_class}
use Rattle.cany_model.specs.Bus.History.{given}
use Rattle.cany_model.specs.Rules.Life.{is_own_sign}
use Rattle.cany_model.specs.Rules.KnowledgeOf.{ended_in, knowledge_of}
use Rattle.cany_model.specs.Rules.Knowledge.{Knowledge, after_life, after_hearing, shows_life}
use Rattle.cany_model.proofs.Rules.Site.LifeCounts.{last_cases, last_read}
use Rattle.cany_model.proofs.Rules.Site.KnowledgeSteps.{is_admitted, last_after}
use Rattle.cany_model.proofs.Timed.Common.Ages.{gave, gave_none, past}

-- at this age node i sent its life sign
abbrev pub SendsSign : ℕ → List SlotNote → ℕ → Type 0
SendsSign i trace age = is_own_sign i (gave i trace age) ≡ true

pub sign_there : (i : ℕ) (trace : List SlotNote) (age : ℕ) → SendsSign i trace age → age < length trace
sign_there i [] age h = absurd (false≢true (sym (ap (is_own_sign i) (gave_none i age)) ∙ h))
sign_there i (note ∷ trace) zero h = omega arith
sign_there i (note ∷ trace) (suc age) h = omega (arith, sign_there i trace age h)

-- ---- the slot of the last life

own_heard : (i slot : ℕ) (e : NoticeKind) (st : Knowledge) → is_own_sign i e ≡ true → (after_hearing i slot e st).last ≡ slot
unfolding after_life shows_life
own_heard i slot Idle st h = absurd (false≢true h)
own_heard i slot Bad st h = absurd (false≢true h)
own_heard i slot (Got f) st h = absurd (false≢true h)
own_heard i slot (Sent f) st h =
    let parts = and_parts (same_class f.class class.Els) (f.node == i) h in
    let els : Bool = same_class f.class class.Els || same_class f.class class.Rha in
    let shows : shows_life f ≡ true =
    or_left els (same_class f.class class.Tot) (or_left (same_class f.class class.Els) (same_class f.class class.Rha) parts.0) in
    rw (and_from (shows_life f) (f.node == i) shows parts.1) refl

-- a life sign of its own is in the slot of the turn that reads it
pub last_own : (scenario : ScenarioParts) (i : ℕ) (e : NoticeKind) (before : List NoticeKind) → is_own_sign i e ≡ true
    → (knowledge_of scenario i (e ∷ before)).last ≡ length before
unfolding knowledge_of
last_own scenario i e before own =
    let slot : ℕ = length before in
    let st : Knowledge = knowledge_of scenario i before in
    last_after scenario.params i slot e st
    ∙ cond_both (is_admitted (ended_in scenario.params slot e st) st.members i) slot (after_hearing i slot e st).last (λ n. n ≡ slot)
    (λ _. refl) (λ _. own_heard i slot e st own)

pub last_grows : (scenario : ScenarioParts) (i : ℕ) (e : NoticeKind) (before : List NoticeKind)
    → (knowledge_of scenario i before).last ≤ (knowledge_of scenario i (e ∷ before)).last
last_grows scenario i e before = elim (last_cases scenario i e before) [
  | inl same ↦ omega (arith, same)
  | inr now ↦ omega (arith, now, last_read scenario i before)
]

-- so the last life is no older than any life sign that was read
pub last_since : (scenario : ScenarioParts) (i : ℕ) (trace : List SlotNote) (unread age : ℕ) → unread ≤ age → SendsSign i trace age
    → length trace ≤ (knowledge_of scenario i (past i trace unread)).last + suc age
last_since scenario i [] unread age from h = omega arith
last_since scenario i (note ∷ trace) zero zero from h =
    omega (arith, last_own scenario i (given i note) (map (given i) trace) h, length-map trace (given i))
last_since scenario i (note ∷ trace) zero (suc age) from h =
    omega (arith, last_since scenario i trace 0 age (omega arith) h, last_grows scenario i (given i note) (map (given i) trace))
last_since scenario i (note ∷ trace) (suc unread) zero from h = absurd (omega (arith, from))
last_since scenario i (note ∷ trace) (suc unread) (suc age) from h = omega (arith, last_since scenario i trace unread age (omega (arith, from)) h)
