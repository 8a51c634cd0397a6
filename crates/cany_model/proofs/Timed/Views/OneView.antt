-- Correct nodes whose logs have a view of one number have equal members in it: a view that is
-- logged is the vector that was installed at the end of the cycle of its number.
use Rattle.std.proofs.Common.{◌≡◌, ℕ, ◌+◌, ◌*◌, ◌%◌, ◌<◌, ◌≤◌, ◌==◌, ◌&&◌, inl, inr, Bool, true, false, nat_lt, List, [], ◌∷◌, length, count_by, Option, Some, None, Contains, refl, ap, sym, ◌∙◌, subst, arith}
use Rattle.std.specs.List.{AllByRecursion}
use Rattle.std.proofs.lemmas.Bool.{and_from, and_parts, cases_Bool, cases_lt, cond-false, cond_both, eq-eqb, eqb-true}
use Rattle.std.proofs.lemmas.Nat.{div-add-mod'}
use Rattle.std.proofs.lemmas.Option.{same_Some}
use Rattle.cany_base.specs.Limits.{most_nodes}
use Rattle.cany_base.specs.declared.class.Class.TheVariants as class
use Rattle.cany_base.specs.declared.log_entry.LogEntry.{LogEntry}
use Rattle.cany_base.specs.declared.log_entry.LogEntry.TheVariants.{Deliver, Failed, View}
use Rattle.cany_base.specs.declared.message.NodeAsk.{NodeAsk}
use Rattle.cany_base.specs.declared.notice.NoticeKind.{NoticeKind}
use Rattle.cany_base.specs.declared.step.Step.{Step}
use Rattle.cany_base.specs.Layout.{layout}
use Rattle.cany_base.specs.Nodes.{AllBelow, Nodes, has}
use Rattle.cany_base.specs.Params.{MeetsFormulas, Parameters}
use Rattle.cany_base.specs.Scenario.{ScenarioParts}
use Rattle.cany_model.specs.Bus.History.{history}
use Rattle.cany_model.specs.Runs.Run.{run}
use Rattle.cany_model.specs.Bus.State.{RunState, node_at}
use Rattle.cany_model.specs.Promises.Hypothesis.{IsWithin}
use Rattle.cany_model.specs.Promises.OneView.{HasOneView, HasReadEnd, installed, installed_of}
use Rattle.cany_model.specs.Promises.Quiet.{HasQuietSlots}
use Rattle.cany_model.specs.Promises.Settled.{IsCorrect}
use Rattle.cany_model.specs.Rules.Effect.{Enter, entered}
use Rattle.cany_model.specs.Rules.Life.{failure_signs}
use Rattle.cany_model.specs.Rules.Log.{log, log_from}
use Rattle.cany_model.specs.Rules.Membership.{install_effects, views}
use Rattle.cany_model.specs.Rules.KnowledgeOf.{ended_in, knowledge_of}
use Rattle.cany_model.specs.Rules.Turn.{scenario_at, turn_effects}
use Rattle.cany_base.specs.Cycles.{cycle_of, is_end}
use Rattle.cany_base.proofs.SetFacts.{same_bits}
use Rattle.cany_model.specs.Rules.Views.{view_effects, withdrawn_asks}
use Rattle.cany_model.proofs.Among.{Among, Among-append_cases, Among-from_Contains, Among-from_count, Among-weaker, count-from_Among, count-no}
use Rattle.cany_model.proofs.Runs.Runs.{history-length}
use Rattle.cany_model.proofs.Rules.Site.MembershipEntries.{withdrawn_enter}
use Rattle.cany_model.proofs.Rules.TurnEntries.{IsOfSign, failures_enter, turn_enters}
use Rattle.cany_model.proofs.Timed.Views.OneVector.{installed_before, installed_here, installed_late, one_vector}

-- ---- a view in a turn

module _ (number : ℕ) (members : Nodes) where
  -- whether the entry is a view of this number with these members
  is_this : LogEntry → Bool
  is_this (Deliver slot by msg payload) = false
  is_this (Failed slot node cycle) = false
  is_this (View slot n v) = n == number && v.bits == members.bits

  is_that : (slot : ℕ) (entry : LogEntry) → entry ≡ View slot number members → is_this entry ≡ true
  unfolding is_this
  is_that slot entry e =
      ap is_this e ∙ and_from (number == number) (members.bits == members.bits) (eq-eqb number number refl) (eq-eqb members.bits members.bits refl)

  no_sign : (entries : List LogEntry) → AllByRecursion IsOfSign entries → count_by is_this entries ≡ 0
  unfolding is_this
  no_sign [] h = refl
  no_sign (Deliver slot by msg payload ∷ entries) h = absurd h.0
  no_sign (Failed slot node cycle ∷ entries) h = count-no is_this (Failed slot node cycle) entries refl ∙ no_sign entries h.1
  no_sign (View slot n v ∷ entries) h = absurd h.0

  record IsViewed (p : Parameters) (slot : ℕ) (w : Option Nodes) : Type 0 where
    vector : w ≡ Some members
    cycle : cycle_of p slot ≡ number

  viewed : (p : Parameters) (joins leaves : List NodeAsk) (i slot : ℕ) (w : Option Nodes)
      → 0 < count_by is_this (entered (view_effects p joins leaves i slot w)) → IsViewed p slot w
  unfolding view_effects entered is_this
  viewed p joins leaves i slot None h = absurd (omega (arith, h))
  viewed p joins leaves i slot (Some v) h =
      cond_both (has v i) (Enter (View slot (cycle_of p slot) v) ∷ withdrawn_asks class.Join p i joins) (withdrawn_asks class.Leave p i leaves)
      (λ effects. 0 < count_by is_this (entered effects) → IsViewed p slot (Some v))
      (λ _ some. by_entry (subst (λ rest. 0 < count_by is_this (View slot (cycle_of p slot) v ∷ rest)) (withdrawn_enter class.Join p i joins) some))
      (λ _ some. absurd (none (subst (λ rest. 0 < count_by is_this rest) (withdrawn_enter class.Leave p i leaves) some))) h
    where
      none : 0 < count_by is_this [] → ⊥
      none some = omega (arith, some)

      by_entry : 0 < count_by is_this (View slot (cycle_of p slot) v ∷ []) → IsViewed p slot (Some v)
      by_entry some = elim (Among-from_count is_this (View slot (cycle_of p slot) v ∷ []) some) [
        | inl is ↦
            let parts = and_parts (cycle_of p slot == number) (v.bits == members.bits) is in
            record {
              vector = ap (λ u. Some u) (same_bits v members (eqb-true v.bits members.bits parts.1));
              cycle = eqb-true (cycle_of p slot) number parts.0;
            }
        | inr never ↦ absurd never
      ]

  -- what a turn that logs it installs
  turn_viewed : (scenario : ScenarioParts) (i : ℕ) (e : NoticeKind) (before : List NoticeKind)
      → 0 < count_by is_this (entered (turn_effects scenario i (e ∷ before)))
      → IsViewed scenario.params (length before) (ended_in scenario.params (length before) e (knowledge_of scenario i before))
  unfolding install_effects is_this
  turn_viewed scenario i e before h =
      let counted = turn_enters is_this (λ slot by msg payload. refl) scenario i e before in
      let signs = no_sign (entered (failure_signs.effects scenario i (e ∷ before))) (failures_enter scenario i (e ∷ before)) in
      let some : 0 < count_by is_this (entered (views.effects scenario i (e ∷ before))) = omega (arith, h, counted, signs) in
      viewed scenario.params scenario.joins scenario.leaves i (length before)
      (ended_in scenario.params (length before) e (knowledge_of scenario i before)) some

  -- ---- a view in a log

  record WasInstalled (scenario : ScenarioParts) (i : ℕ) (read : List NoticeKind) : Type 0 where
    until : number * scenario.params.cycle + scenario.params.bound < length read
    vector : installed_of scenario i number read ≡ Some members

  logged_installed : (scenario : ScenarioParts) (i : ℕ) (read : List NoticeKind)
      → Among (λ entry. is_this entry ≡ true) (log_from scenario i read) → WasInstalled scenario i read
  unfolding log_from
  logged_installed scenario i [] h = absurd h
  logged_installed scenario i (e ∷ before) h =
      let p : Parameters = scenario.params in
      elim (Among-append_cases (λ entry. is_this entry ≡ true) (log_from scenario i before) (entered (turn_effects scenario i (e ∷ before))) h) [
        | inl earlier ↦
            let was = logged_installed scenario i before earlier in
            record {
              until = omega (arith, was.until);
              vector = installed_before scenario i number e before (λ at. omega (arith, at, was.until)) ∙ was.vector;
            }
        | inr now ↦
            let v = turn_viewed scenario i e before (count-from_Among is_this (entered (turn_effects scenario i (e ∷ before))) now) in
            let at = ends_there scenario i e before v in
            record { until = omega (arith, at); vector = installed_here scenario i number e before at ∙ v.vector }
      ]
    where
      none_some : None ≡ Some members → ⊥
      none_some e = cc

      ends_there : (scenario : ScenarioParts) (i : ℕ) (e : NoticeKind) (before : List NoticeKind)
          → IsViewed scenario.params (length before) (ended_in scenario.params (length before) e (knowledge_of scenario i before))
          → length before ≡ number * scenario.params.cycle + scenario.params.bound
      ends_there scenario i e before v = elim (cases_Bool (is_end scenario.params (length before))) [
        | inl end ↦
            let p : Parameters = scenario.params in
            let phase : length before % p.cycle ≡ p.bound =
            eqb-true (length before % p.cycle) p.bound
            (and_parts (length before % p.cycle == p.bound) (nat_lt 0 (cycle_of p (length before))) end).0 in
            sym (div-add-mod' (length before) p.cycle) ∙ ap (λ n. n * p.cycle + length before % p.cycle) v.cycle
            ∙ ap (λ q. number * p.cycle + q) phase
        | inr other ↦
            absurd (none_some (sym (cond-false (is_end scenario.params (length before)) _ None other) ∙ v.vector))
      ]

-- ---- every run

-- correct nodes whose logs have a view of one number have equal members in it
pub one_view : (scenario : ScenarioParts) (journal : List Step) → scenario.params.nodes ≤ most_nodes
    → scenario.params.nodes ≤ (layout scenario.params.format).nodes → MeetsFormulas scenario.params
    → AllBelow scenario.params.nodes scenario.members → IsWithin scenario.params (run scenario journal).trace → HasQuietSlots scenario journal
    → HasOneView scenario (run scenario journal)
one_view scenario journal few fits formulas first within slots i j ci cj number here there members others li lj =
    let wi = was i members here li in
    let wj = was j others there lj in
    let alike = (one_vector scenario journal few fits formulas first within slots number).alike i j (ended i ci members wi) (ended j cj others wj) in
    same_Some members others (sym wi.vector ∙ alike ∙ wj.vector)
  where
    s : RunState
    s = run scenario journal

    none_some : (o : Option Nodes) (v : Nodes) → o ≡ None → o ≡ Some v → ⊥
    none_some o v a b = absurd (cc)

    -- a view in its log the node has installed
    was : (n : ℕ) (v : Nodes) (slot : ℕ) → Contains (log scenario s n) (View slot number v)
        → WasInstalled number v (scenario_at scenario s n) n (history n s)
    was n v slot logged =
        logged_installed number v (scenario_at scenario s n) n (history n s)
        (Among-weaker (λ entry. entry ≡ View slot number v) (λ entry. is_this number v entry ≡ true) (is_that number v slot) (log scenario s n)
        (Among-from_Contains (log scenario s n) (View slot number v) logged))

    -- so it takes part since the cycle starts, and has read its end
    ended : (n : ℕ) → IsCorrect scenario s n → (v : Nodes) → WasInstalled number v (scenario_at scenario s n) n (history n s)
        → HasReadEnd scenario s number n
    ended n correct v w = elim (cases_lt (number * scenario.params.cycle) (node_at s.nodes n).present.from) [
      | inl later ↦
          absurd (none_some (installed scenario s n number) v
          (installed_late scenario journal few fits formulas first number n correct later) w.vector)
      | inr early ↦ record {
        correct = record { correct = correct; took_part = early };
        read = omega (arith, w.until, history-length n s);
      }
    ]
