-- In a quiet state the nodes have one vector of the membership cycle, over all that the slots gave
-- them, read or not: what is unread is taken as read, since no turn of it asks for a vector.
use Rattle.std.proofs.Common.{◌≡◌, ◌≢◌, ℕ, zero, suc, ◌+◌, ◌*◌, ◌<◌, ◌≤◌, ◌⊎◌, ◌==◌, ◌||◌, inl, inr, Bool, true, false, List, [], ◌∷◌, length, map, drop, Option, Some, None, Contains, count_by, nat_lt, unwrap_or, refl, ap, sym, ◌∙◌, subst, arith}
use Rattle.std.specs.List.{AllByRecursion, list_any}
use Rattle.std.proofs.lemmas.Bool.{and_from, and_parts, both_ways, cases_Bool, cases_eq, eq-eqb, false_from_ne_true, false≢true, ltb-true, or_parts}
use Rattle.std.proofs.lemmas.List.{length-map}
use Rattle.cany_base.specs.Limits.{most_nodes}
use Rattle.cany_base.specs.declared.class.Class.TheVariants as class
use Rattle.cany_base.specs.declared.format.Format.{Format}
use Rattle.cany_base.specs.declared.notice.NoticeKind.{NoticeKind}
use Rattle.cany_base.specs.declared.notice.NoticeKind.TheVariants.{Idle, Got, Sent, Bad}
use Rattle.cany_base.specs.declared.rule.Verdict.TheVariants.{Clean}
use Rattle.cany_base.specs.declared.slot_note.SlotNote.{SlotNote}
use Rattle.cany_base.specs.Frame.{FrameParts}
use Rattle.cany_base.specs.Layout.{layout}
use Rattle.cany_base.specs.Nodes.{AllBelow, Nodes, has}
use Rattle.cany_base.specs.Params.{Parameters}
use Rattle.cany_base.specs.Scenario.{ScenarioParts}
use Rattle.cany_base.proofs.SetFacts.{same_by_parts}
use Rattle.cany_model.specs.Bus.Frames.{Identity, identity_of, is_of, same_class}
use Rattle.cany_model.specs.Bus.History.{given, is_hidden, seen}
use Rattle.cany_model.specs.Bus.Slot.{carried}
use Rattle.cany_model.specs.Bus.State.{Incarnation}
use Rattle.cany_model.specs.Promises.Hypothesis.{count_together, is_partial, is_partial_slot_of, is_silent_slot, partial_slots}
use Rattle.cany_model.specs.Promises.Quiet.{asks_for_first_class, is_top}
use Rattle.cany_model.specs.Rules.Effect.{Effect, waiting_after}
use Rattle.cany_model.specs.Rules.Notices.{IsPart}
use Rattle.cany_model.specs.Rules.Turn.{scenario_for, turn_effects}
use Rattle.cany_model.specs.Rules.Vectors.{everybody, is_vector_got, met, met_with, rha_of, vector_in}
use Rattle.cany_model.proofs.Among.{Among, Among-drop, Among-from_Contains, Among-from_map, Among-weaker, Among-which, Among-with, Each-of, Each-weaker, any-from_Among, count-grows, count-no, count-yes}
use Rattle.cany_model.proofs.Bus.Carried.{Carries}
use Rattle.cany_model.proofs.Promises.CleanSlots.{Accepts, success_is_clean, verdict_cases, verdict_not_silent}
use Rattle.cany_model.proofs.Bus.Identities.{same_class_self, same_identity-true}
use Rattle.cany_model.proofs.Bus.Notes.{given-Got, given-Sent}
use Rattle.cany_model.proofs.Bus.Seen.{Among-seen, Numbered, hidden_why, seen_plain}
use Rattle.cany_model.proofs.Rules.Site.NoEarlyVectors.{carries_frame}
use Rattle.cany_model.proofs.Promises.Diffusion.{Heard}
use Rattle.cany_model.proofs.Promises.KeptVectors.{vector_at}
use Rattle.cany_model.proofs.Rules.Site.KnowledgeNodes.{IsVectorOfBus}
use Rattle.cany_model.proofs.Rules.Site.VectorFacts.{carries_vector}
use Rattle.cany_model.proofs.Timed.Common.Ages.{gave, past}
use Rattle.cany_model.proofs.Timed.Order.TotRun.{past_next}
use Rattle.cany_model.proofs.Timed.Views.VectorKept.{Covers, HasRead, HasVector, IsOpen, IsSentOf, SentCovers, Untouched, VectorKept, own_frame}
use Rattle.cany_model.proofs.Timed.Views.VectorSets.{just_this, meet_left, meet_right, vector_again}
use Rattle.cany_model.proofs.Timed.Views.VectorSteps.{vector_turn}
use Rattle.cany_model.proofs.Timed.Views.VectorTurns.{turn_exchanges}
use Rattle.cany_model.proofs.Timed.Views.VectorLastEffect.{IsCycle, brings}
use Rattle.cany_model.proofs.Timed.Common.LastEffect.{AsksFor, LastEffect, NoEffect, Asked, Withdrawn, by_last_effect, held, held_after, last_effect, last_effect_asks}

-- ---- nothing waits, and nothing would be asked for

pub none_held : (k r : ℕ) (w : List FrameParts) → list_any (λ f. is_top f.class) w ≡ false → held (rha_of k r) w ≡ []
unfolding same_class
none_held k r [] h = refl
none_held k r (f ∷ w) h =
    let parts = or_parts (is_top f.class) (list_any (λ g. is_top g.class) w) h in
    rw (not_mine (is_of (rha_of k r) f) refl parts.0) (none_held k r w parts.1)
  where
    not_mine : (b : Bool) → is_of (rha_of k r) f ≡ b → is_top f.class ≡ false → is_of (rha_of k r) f ≡ false
    not_mine false e top = e
    not_mine true e top =
        let c : class.Rha ≡ f.class = ap (λ (x : Identity). x.class) (same_identity-true (rha_of k r) (identity_of f) e) in
        absurd (both_ways (is_top f.class) top (sym (ap is_top c)))

-- nor after a turn that asks for none
pub held_unasked : (k r : ℕ) (effects : List Effect) (w : List FrameParts) → list_any asks_for_first_class effects ≡ false → held (rha_of k r) w ≡ []
    → held (rha_of k r) (waiting_after effects w) ≡ []
unfolding same_class
held_unasked k r effects w plain none = held_after (rha_of k r) effects w ∙ by_last (last_effect (rha_of k r) effects) refl
  where
    asks : (f : FrameParts) (e : Effect) → AsksFor (rha_of k r) f e → asks_for_first_class e ≡ true
    asks f e a =
        let c : class.Rha ≡ f.class = ap (λ (x : Identity). x.class) a.1 in
        ap asks_for_first_class a.0 ∙ sym (ap (λ d. same_class d class.Accept || same_class d class.Rha) c)

    by_last : (last : LastEffect) → last_effect (rha_of k r) effects ≡ last → by_last_effect last (held (rha_of k r) w) ≡ []
    by_last NoEffect e = none
    by_last Withdrawn e = refl
    by_last (Asked f) e =
        absurd (both_ways (list_any asks_for_first_class effects) plain (any-from_Among asks_for_first_class effects
        (Among-weaker (AsksFor (rha_of k r) f) (λ e. asks_for_first_class e ≡ true) (asks f) effects (last_effect_asks (rha_of k r) f effects e))))

-- ---- the unread notices, as if they were read

-- what is kept of the vector where the node has read so much, and waits with none of the cycle
pub record Still (scenario : ScenarioParts) (k i : ℕ) (trace : List SlotNote) (read : List NoticeKind) : Type 0 where
  pub waiting : List FrameParts
  pub kept : VectorKept scenario k i trace read waiting
  pub none : held (rha_of k i) waiting ≡ []

module _ (scenario : ScenarioParts) (fits : scenario.params.nodes ≤ (layout scenario.params.format).nodes) (k i : ℕ)
    (c : IsCycle scenario.params k) (trace : List SlotNote)
  where
    read_some : (age : ℕ) → HasRead i trace (past i trace age)
    read_some age P h = Among-drop (λ note. P (given i note)) age trace (Among-from_map (given i) P (drop age trace) h)

    pub still_all : (age : ℕ) → age ≤ length trace
        → ((younger : ℕ) → younger < age → list_any asks_for_first_class (turn_effects scenario i (past i trace younger)) ≡ false)
        → ((younger : ℕ) → IsVectorOfBus scenario.params (vector_at scenario i (past i trace younger)))
        → Still scenario k i trace (past i trace age) → Still scenario k i trace (map (given i) trace)
    still_all zero short plain known h = h
    still_all (suc age) short plain known h =
        let e : NoticeKind = gave i trace age in
        let before : List NoticeKind = past i trace (suc age) in
        let more : past i trace age ≡ e ∷ before = past_next i trace age (omega (arith, short)) in
        let unasked : list_any asks_for_first_class (turn_effects scenario i (e ∷ before)) ≡ false =
        subst (λ read. list_any asks_for_first_class (turn_effects scenario i read) ≡ false) more (plain age (omega arith)) in
        let below : IsVectorOfBus scenario.params (vector_at scenario i (e ∷ before)) =
        subst (λ read. IsVectorOfBus scenario.params (vector_at scenario i read)) more (known age) in
        still_all age (omega (arith, short)) (λ younger y. plain younger (omega (arith, y))) known
        (subst (Still scenario k i trace) (sym more) (record {
          waiting = waiting_after (turn_effects scenario i (e ∷ before)) h.waiting;
          kept = vector_turn scenario fits k i trace c e before (subst (HasRead i trace) more (read_some age)) below h.waiting h.kept;
          none = held_unasked k i (turn_effects scenario i (e ∷ before)) h.waiting unasked h.none;
        }))

-- ---- a vector that was carried Clean

pub record IsCleanVector (format : Format) (k : ℕ) (v : Nodes) (note : SlotNote) : Type 0 where
  pub what : FrameParts
  pub frame : note.frame ≡ Some what
  pub carries : vector_in format k what ≡ Some v
  pub clean : note.verdict ≡ Clean

-- a frame of the cycle's vectors counts with all of them
counts_together : (k : ℕ) (f : FrameParts) → f.class ≡ class.Rha → f.number ≡ k → count_together (rha_of k 0) (identity_of f) ≡ true
unfolding count_together
counts_together k f rha number =
    let own : same_class f.class class.Rha ≡ true = ap (λ c. same_class c class.Rha) rha ∙ same_class_self class.Rha in
    rw (same_class_self class.Rha) (and_from (same_class f.class class.Rha) (k == f.number) own (eq-eqb k f.number (sym number)))

-- the frame that a node got with just this vector
record IsGotWith (format : Format) (k : ℕ) (v : Nodes) (e : NoticeKind) : Type 0 where
  what : FrameParts
  was : e ≡ Got what
  carries : vector_in format k what ≡ Some v

got_with : (format : Format) (k : ℕ) (v : Nodes) (e : NoticeKind) → is_vector_got format k v e ≡ true → IsGotWith format k v e
got_with format k v Idle h = absurd (false≢true h)
got_with format k v Bad h = absurd (false≢true h)
got_with format k v (Sent f) h = absurd (false≢true h)
got_with format k v (Got f) h = record { what = f; was = refl; carries = just_this v (vector_in format k f) h }

module _ (format : Format) (k i : ℕ) (v : Nodes) where
  abbrev is_got_here : SlotNote → Bool
  is_got_here note = is_vector_got format k v (given i note)

  got_clean : (note : SlotNote) → Accepts i note → is_silent_slot note ≡ false → is_got_here note ≡ true
      → IsCleanVector format k v note ⊎ (is_partial_slot_of (rha_of k 0) note ≡ true)
  got_clean note accepts plain h =
      let g = got_with format k v (given i note) h in
      let frame : note.frame ≡ Some g.what = (given-Got i note g.what g.was).0 in
      let carries : Carries (identity_of g.what) note = record { what = g.what; frame = frame; identity = refl } in
      let is = carries_vector format k g.what v g.carries in
      elim (verdict_cases note.verdict i (accepts g.what g.was) (verdict_not_silent (identity_of g.what) note carries plain)) [
        | inl clean ↦ inl (record { what = g.what; frame = frame; carries = g.carries; clean = clean })
        | inr partial ↦ inr (and_from (carried (λ f. count_together (rha_of k 0) (identity_of f)) note) (is_partial note.verdict)
            (rw frame (counts_together k g.what is.0 is.1)) partial)
      ]

  -- each copy that the node got was carried Clean, or by a Partial slot of the cycle
  clean_or_few : (trace : List SlotNote) → AllByRecursion (Accepts i) trace → AllByRecursion (λ note. is_silent_slot note ≡ false) trace
      → Among (IsCleanVector format k v) trace
      ⊎ (count_by (is_vector_got format k v) (map (given i) trace) ≤ partial_slots (rha_of k 0) trace)
  clean_or_few [] accepts plain = inr (omega arith)
  clean_or_few (note ∷ trace) accepts plain =
      let got : NoticeKind → Bool = is_vector_got format k v in
      elim (clean_or_few trace accepts.1 plain.1) [
        | inl clean ↦ inl (inr clean)
        | inr few ↦ elim (cases_Bool (is_got_here note)) [
          | inr other ↦ inr (omega (
            arith,
            few,
            count-no got (given i note) (map (given i) trace) other,
            count-grows (is_partial_slot_of (rha_of k 0)) note trace,
          ))
          | inl here ↦ elim (got_clean note accepts.0 plain.0 here) [
            | inl clean ↦ inl (inl clean)
            | inr partial ↦ inr (omega (
              arith,
              few,
              count-yes got (given i note) (map (given i) trace) here,
              count-yes (is_partial_slot_of (rha_of k 0)) note trace partial,
            ))
          ]
        ]
      ]

-- what is used of the hypothesis
pub record IsPlain (omit k : ℕ) (trace : List SlotNote) : Type 0 where
  pub silent : AllByRecursion (λ note. is_silent_slot note ≡ false) trace
  pub few : partial_slots (rha_of k 0) trace ≤ omit

-- the node's own frame carries its vector
own_carries : (scenario : ScenarioParts) → scenario.params.nodes ≤ (layout scenario.params.format).nodes → (k i : ℕ) (v : Nodes)
    → AllBelow scenario.params.nodes v → vector_in scenario.params.format k (own_frame scenario k i v) ≡ Some v
own_carries scenario fits k i v below =
    rw (same_class_self class.Rha, eq-eqb k k refl)
    (vector_again scenario.params.format v (λ r there. let small = below r there in omega (arith, small, fits)))

module _ (scenario : ScenarioParts) (fits : scenario.params.nodes ≤ (layout scenario.params.format).nodes) (k : ℕ) where
  own_clean : (i : ℕ) (v : Nodes) → AllBelow scenario.params.nodes v → (note : SlotNote) → given i note ≡ Sent (own_frame scenario k i v)
      → is_silent_slot note ≡ false → IsCleanVector scenario.params.format k v note
  own_clean i v below note sent plain =
      let f : FrameParts = own_frame scenario k i v in
      let parts = given-Sent i note f sent in
      let carries : Carries (rha_of k i) note = record { what = f; frame = parts.0; identity = refl } in
      record {
        what = f;
        frame = parts.0;
        carries = own_carries scenario fits k i v below;
        clean = success_is_clean note.verdict parts.2 (verdict_not_silent (rha_of k i) note carries plain);
      }

  -- a vector that does not wait was carried Clean
  vector_clean : (i : ℕ) (trace : List SlotNote) (w : List FrameParts) (v : Nodes) → AllByRecursion (Heard i) trace
      → IsPlain scenario.params.omit k trace → held (rha_of k i) w ≡ [] → HasVector scenario k i trace (map (given i) trace) w v
      → Among (IsCleanVector scenario.params.format k v) trace
  vector_clean i trace w v heard plain none h = elim h.answer [
    | inl waiting ↦ absurd (cons_none (own_frame scenario k i v) (sym waiting ∙ none))
    | inr (inl sent) ↦
        Among-weaker (λ note. (given i note ≡ Sent (own_frame scenario k i v)) × (is_silent_slot note ≡ false))
        (IsCleanVector scenario.params.format k v)
        (λ note both. own_clean i v h.below note both.0 both.1) trace
        (Among-with (λ note. given i note ≡ Sent (own_frame scenario k i v)) (λ note. is_silent_slot note ≡ false) trace plain.silent sent)
    | inr (inr many) ↦
        let accepts : AllByRecursion (Accepts i) trace = Each-weaker (Heard i) (Accepts i) (λ note h. h.accepts) trace heard in
        elim (clean_or_few scenario.params.format k i v trace accepts plain.silent) [
          | inl clean ↦ clean
          | inr few ↦ absurd (omega (arith, many, few, plain.few))
        ]
  ]
    where
      cons_none : (f : FrameParts) → f ∷ [] ≡ [] → ⊥
      cons_none f e = cc

-- ---- each node's vector is part of a vector that was carried Clean

-- vectors of the cycle were carried after its start alone
abbrev pub CarriedLate : Parameters → ℕ → List SlotNote → Type 0
CarriedLate p k [] = Unit {0}
CarriedLate p k (note ∷ trace) =
    ((f : FrameParts) → note.frame ≡ Some f → f.class ≡ class.Rha → f.number ≡ k → k * p.cycle < length trace) × CarriedLate p k trace

abbrev GotVector : Format → ℕ → ℕ → Nodes → SlotNote → Type 0
GotVector format j k v note = (f : FrameParts) × (given j note ≡ Got f) × (vector_in format k f ≡ Some v)

abbrev SentVector : Format → ℕ → ℕ → Nodes → SlotNote → Type 0
SentVector format j k v note = (f : FrameParts) × (given j note ≡ Sent f) × (vector_in format k f ≡ Some v)

-- there is a vector, and it is part of this one
record HasPart (v : Nodes) (o : Option Nodes) : Type 0 where
  own : Nodes
  is : o ≡ Some own
  part : IsPart own v

met_part : (p : Parameters) (v : Nodes) (got old : Option Nodes) → HasPart v old → HasPart v (met p old got)
unfolding met
met_part p v None old h = h
met_part p v (Some w) old h = record {
  own = met_with p old w;
  is = refl;
  part = λ r m. h.part r (meet_left h.own w r (subst (λ o. has (met_with p o w) r ≡ true) h.is m));
}

met_got : (p : Parameters) (v : Nodes) (old : Option Nodes) → HasPart v (met p old (Some v))
unfolding met
met_got p v old = record { own = met_with p old v; is = refl; part = meet_right (unwrap_or old (everybody p)) v }

-- a node that ran got the vector, or sent it
got_or_sent : (format : Format) (j k : ℕ) (v : Nodes) → j < most_nodes → (trace : List SlotNote) → AllByRecursion (Heard j) trace
    → Among (IsCleanVector format k v) trace → Among (GotVector format j k v) trace ⊎ Among (SentVector format j k v) trace
got_or_sent format j k v few [] heard h = absurd h
got_or_sent format j k v few (note ∷ trace) heard (inl now) = elim (heard.0.clean few now.what now.frame now.clean) [
  | inl got ↦ inl (inl (now.what, got, now.carries))
  | inr sent ↦ inr (inl (now.what, sent, now.carries))
]
got_or_sent format j k v few (note ∷ trace) heard (inr before) = elim (got_or_sent format j k v few trace heard.1 before) [
  | inl got ↦ inl (inr got)
  | inr sent ↦ inr (inr sent)
]

module _ (scenario : ScenarioParts) (k j : ℕ) (c : IsCycle scenario.params k) (v : Nodes) where
  abbrev p : Parameters
  p = scenario.params

  abbrev GotIt : SlotNote → Type 0
  GotIt note = GotVector p.format j k v note

  got_after : (note : SlotNote) (trace : List SlotNote) → CarriedLate p k (note ∷ trace) → GotIt note → k * p.cycle < length trace
  got_after note trace late got =
      let is = carries_vector p.format k got.0 v got.2 in
      late.0 got.0 (given-Got j note got.0 got.1).0 is.0 is.1

  got_late : (trace : List SlotNote) → CarriedLate p k trace → Among GotIt trace → k * p.cycle < length trace
  got_late [] late h = absurd h
  got_late (note ∷ trace) late (inl now) = let at = got_after note trace late now in omega (arith, at)
  got_late (note ∷ trace) late (inr before) = let at = got_late trace late.1 before in omega (arith, at)

  -- of what it got while vectors are exchanged
  got_part : (trace : List SlotNote) → CarriedLate p k trace → length trace ≤ k * p.cycle + p.bound → Among GotIt trace
      → HasPart v (vector_at scenario j (map (given j) trace))
  got_part [] late to h = absurd h
  got_part (note ∷ trace) late to (inl now) =
      let before : List NoticeKind = map (given j) trace in
      let size : length before ≡ length trace = length-map trace (given j) in
      let from = got_after note trace late now in
      let met_now = turn_exchanges scenario k j c (given j note) before (omega (arith, from, size)) (omega (arith, to, size)) in
      let brings_it : brings p.format k (given j note) ≡ Some v = ap (brings p.format k) now.1 ∙ now.2 in
      subst (HasPart v) (sym (met_now.vector ∙ ap (met p (vector_at scenario j before)) brings_it)) (met_got p v (vector_at scenario j before))
  got_part (note ∷ trace) late to (inr earlier) =
      let before : List NoticeKind = map (given j) trace in
      let size : length before ≡ length trace = length-map trace (given j) in
      let from = got_late trace late.1 earlier in
      let met_now = turn_exchanges scenario k j c (given j note) before (omega (arith, from, size)) (omega (arith, to, size)) in
      subst (HasPart v) (sym met_now.vector) (met_part p v (brings p.format k (given j note)) (vector_at scenario j before)
      (got_part trace late.1 (omega (arith, to)) earlier))

  -- what it sent for the cycle is its own, and has its vector as a part
  module _ (fits : p.nodes ≤ (layout p.format).nodes) (trace : List SlotNote) (read : List NoticeKind) (w : List FrameParts) where
    mine : (f : FrameParts) → (vector_in p.format k f ≡ Some v) → f.node ≡ j → rha_of k j ≡ identity_of f
    mine f carries own =
        let is = carries_vector p.format k f v carries in
        λ d. record { class = sym is.0 d; number = sym is.1 d; node = sym own d }

    at_note : (P : SlotNote → Type 0) (note : SlotNote) → Contains trace note → P note → Among P trace
    at_note P note there is = Among-weaker (λ n. n ≡ note) P (λ n e. subst P (sym e) is) trace (Among-from_Contains trace note there)

    sent_part : ((r : ℕ) → r ≢ j → Untouched j (rha_of k r) trace w) → (o : Option Nodes) → IsOpen scenario k j trace read w o
        → Among (SentVector p.format j k v) trace → HasPart v o
    sent_part other o h among = by_vector o h
      where
        by_own : (note : SlotNote) → Contains trace note → (s : SentVector p.format j k v note) → (s.0.node ≡ j) ⊎ (s.0.node ≢ j) → (o : Option Nodes)
            → IsOpen scenario k j trace read w o → HasPart v o
        by_own note there s (inr differs) o h =
            let is = carries_vector p.format k s.0 v s.2 in
            let sent : IsSentOf j (rha_of k s.0.node) note = (s.0, s.1, λ d. record { class = sym is.0 d; number = sym is.1 d; node = s.0.node }) in
            absurd ((other s.0.node differs).1 (at_note (IsSentOf j (rha_of k s.0.node)) note there sent))
        by_own note there s (inl own) None h =
            absurd (h.1 (at_note (IsSentOf j (rha_of k j)) note there (s.0, s.1, mine s.0 s.2 own)))
        by_own note there s (inl own) (Some u) h =
            let covers : Covers scenario k j u s.0 =
            Each-of (SentCovers scenario k j u) note trace h.sent (Among-from_Contains trace note there) s.0 s.1 (mine s.0 s.2 own) in
            let carries : Some covers.what ≡ Some v =
            sym (own_carries scenario fits k j covers.what covers.below)
            ∙ ap (vector_in p.format k) (sym covers.frame) ∙ s.2 in
            let same : covers.what ≡ v = cc in
            record { own = u; is = refl; part = subst (IsPart u) same covers.part }

        by_vector : (o : Option Nodes) → IsOpen scenario k j trace read w o → HasPart v o
        by_vector o h =
            let which = Among-which (SentVector p.format j k v) trace among in
            by_own which.0 which.1 which.2 (cases_eq which.2.0.node j) o h

-- ---- one vector

-- what is known in a quiet state of a running node, of the slots as its incarnation sees them
pub record IsSettledNode (scenario : ScenarioParts) (k i : ℕ) (trace : List SlotNote) : Type 0 where
  pub still : Still scenario k i trace (map (given i) trace)
  pub heard : AllByRecursion (Heard i) trace
  pub few : i < most_nodes
  pub plain : IsPlain scenario.params.omit k trace
  pub late : CarriedLate scenario.params k trace
  pub from : k * scenario.params.cycle < length trace
  pub to : length trace ≤ k * scenario.params.cycle + scenario.params.bound

module _ (scenario : ScenarioParts) (fits : scenario.params.nodes ≤ (layout scenario.params.format).nodes) (k i : ℕ)
    (c : IsCycle scenario.params k) (trace : List SlotNote) (n : IsSettledNode scenario k i trace)
  where
    abbrev own_vector : Option Nodes
    own_vector = vector_at scenario i (map (given i) trace)

    open_now : IsOpen scenario k i trace (map (given i) trace) n.still.waiting own_vector
    open_now =
        let size : length (map (given i) trace) ≡ length trace = length-map trace (given i) in
        n.still.kept.during (omega (arith, n.from, size)) (omega (arith, n.to, size))

    -- its vector was carried Clean
    settled_clean : (v : Nodes) → own_vector ≡ Some v → Among (IsCleanVector scenario.params.format k v) trace
    settled_clean v e =
        vector_clean scenario fits k i trace n.still.waiting v n.heard n.plain n.still.none
        (subst (IsOpen scenario k i trace (map (given i) trace) n.still.waiting) e open_now)

    -- and is part of each that was
    settled_part : (v : Nodes) → Among (IsCleanVector scenario.params.format k v) trace → HasPart v own_vector
    settled_part v carried = elim (got_or_sent scenario.params.format i k v n.few trace n.heard carried) [
      | inl got ↦ got_part scenario k i c v trace n.late n.to got
      | inr sent ↦ sent_part scenario k i c v fits trace (map (given i) trace) n.still.waiting n.still.kept.other own_vector open_now sent
    ]

-- ---- what an incarnation sees of it

-- the incarnation sees the vectors of the cycle
pub record SeesCycle (p : Parameters) (k : ℕ) (inc : Incarnation) : Type 0 where
  pub from : inc.from ≤ k * p.cycle
  pub first : 0 < inc.number → inc.cycle ≤ k

vector_plain : (p : Parameters) (k : ℕ) (inc : Incarnation) → SeesCycle p k inc → (note : SlotNote) (f : FrameParts) → note.frame ≡ Some f
    → f.number ≡ k → k * p.cycle < note.slot → is_hidden inc note ≡ false
vector_plain p k inc sees note f frame number late = false_from_ne_true (is_hidden inc note) (λ hidden.
    let why = hidden_why inc note hidden in
    elim why.1 [
      | inl early ↦ omega (arith, early, late, sees.from)
      | inr early ↦
          let is = and_parts (same_class f.class class.Rha) (nat_lt f.number inc.cycle) (sym (carries_frame inc.cycle note f frame) ∙ early) in
          omega (arith, ltb-true f.number inc.cycle is.1, number, sees.first why.0)
    ])

vector_seen : (p : Parameters) (k : ℕ) (inc : Incarnation) → SeesCycle p k inc → (v : Nodes) (trace : List SlotNote) → Numbered trace
    → CarriedLate p k trace → Among (IsCleanVector p.format k v) trace → Among (IsCleanVector p.format k v) (seen inc trace)
vector_seen p k inc sees v [] numbered late h = h
vector_seen p k inc sees v (note ∷ trace) numbered late (inl now) =
    let is = carries_vector p.format k now.what v now.carries in
    let at = late.0 now.what now.frame is.0 is.1 in
    let plain = vector_plain p k inc sees note now.what now.frame is.1 (omega (arith, at, numbered.0)) in
    inl (subst (IsCleanVector p.format k v) (sym (seen_plain inc note plain)) now)
vector_seen p k inc sees v (note ∷ trace) numbered late (inr before) = inr (vector_seen p k inc sees v trace numbered.1 late.1 before)

-- two nodes that see the cycle have one vector
module _ (scenario : ScenarioParts) (fits : scenario.params.nodes ≤ (layout scenario.params.format).nodes) (k : ℕ)
    (c : IsCycle scenario.params k) (trace : List SlotNote) (numbered : Numbered trace) (late : CarriedLate scenario.params k trace)
  where
    abbrev vector_by : ℕ → Incarnation → Option Nodes
    vector_by i inc = vector_at (scenario_for scenario inc) i (map (given i) (seen inc trace))

    abbrev IsSettledAs : ℕ → Incarnation → Type 0
    IsSettledAs i inc = IsSettledNode (scenario_for scenario inc) k i (seen inc trace)

    carried_clean : (i : ℕ) (inc : Incarnation) → IsSettledAs i inc → (v : Nodes) → vector_by i inc ≡ Some v
        → Among (IsCleanVector scenario.params.format k v) trace
    carried_clean i inc n v e =
        Among-seen (IsCleanVector scenario.params.format k v) idle inc trace
        (settled_clean (scenario_for scenario inc) fits k i c (seen inc trace) n v e)
      where
        idle : (note : SlotNote) → note.frame ≡ None → IsCleanVector scenario.params.format k v note → ⊥
        idle note none h = never note.frame none h.frame
          where
            never : (o : Option FrameParts) → o ≡ None → o ≡ Some h.what → ⊥
            never o a b = absurd (cc)

    part_of : (j : ℕ) (inc : Incarnation) → SeesCycle scenario.params k inc → IsSettledAs j inc → (v : Nodes)
        → Among (IsCleanVector scenario.params.format k v) trace → HasPart v (vector_by j inc)
    part_of j inc sees m v h =
        settled_part (scenario_for scenario inc) fits k j c (seen inc trace) m v
        (vector_seen scenario.params k inc sees v trace numbered late h)

    pub one_vector_there : (i j : ℕ) (a b : Incarnation) → SeesCycle scenario.params k a → SeesCycle scenario.params k b
        → IsSettledAs i a → IsSettledAs j b → vector_by i a ≡ vector_by j b
    one_vector_there i j a b sees_a sees_b n m = by_vectors (vector_by i a) refl (vector_by j b) refl
      where
        none_some : (v : Nodes) → None ≡ Some v → ⊥
        none_some v e = cc

        by_vectors : (o : Option Nodes) → vector_by i a ≡ o → (q : Option Nodes) → vector_by j b ≡ q → vector_by i a ≡ vector_by j b
        by_vectors None eo None eq = eo ∙ sym eq
        by_vectors (Some v) eo None eq =
            let h = part_of j b sees_b m v (carried_clean i a n v eo) in
            absurd (none_some h.own (sym eq ∙ h.is))
        by_vectors None eo (Some u) eq =
            let h = part_of i a sees_a n u (carried_clean j b m u eq) in
            absurd (none_some h.own (sym eo ∙ h.is))
        by_vectors (Some v) eo (Some u) eq =
            let there = part_of j b sees_b m v (carried_clean i a n v eo) in
            let here = part_of i a sees_a n u (carried_clean j b m u eq) in
            let some_u : Some there.own ≡ Some u = sym there.is ∙ eq in
            let some_v : Some here.own ≡ Some v = sym here.is ∙ eo in
            let eu : there.own ≡ u = cc in
            let ev : here.own ≡ v = cc in
            let same : v ≡ u = same_by_parts v u (subst (λ x. IsPart x u) ev here.part) (subst (λ x. IsPart x v) eu there.part) in
            eo ∙ ap (λ x. Some x) same ∙ sym eq
