-- What a value stands for once it has heard who shows life in a notice.
use Rattle.std.proofs.Common.{◌≡◌, ℕ, suc, ◌+◌, ◌<◌, ◌==◌, ◌&&◌, Bool, true, false, if◌then◌else◌, inl, inr, List, ◌∷◌, length, set, get_or, refl, ap, subst, sym, ◌∙◌, arith, length-set}
use Rattle.std.proofs.lemmas.Bool.{and_from, cases_Bool, cases_eq, eq-eqb, ne_eqb}
use Rattle.std.proofs.lemmas.List.{get_or-set_other, get_or-set_same}
use Rattle.cany_base.specs.declared.class.Class.TheVariants as class
use Rattle.cany_base.specs.declared.notice.NoticeKind.{NoticeKind}
use Rattle.cany_base.specs.declared.notice.NoticeKind.TheVariants.{Idle, Got, Sent, Bad}
use Rattle.cany_base.specs.Frame.{FrameParts}
use Rattle.cany_base.specs.Limits.{most_nodes}
use Rattle.cany_base.specs.Nodes.{Nodes}
use Rattle.cany_base.specs.Scenario.{ScenarioParts}
use Rattle.cany_base.proofs.ParamsFacts.{few_nodes}
use Rattle.cany_model.specs.Bus.Frames.{same_class}
use Rattle.cany_model.specs.Rules.Life.{is_own_sign, life_signs_sent}
use Rattle.cany_model.specs.Rules.Notices.{HasFewSigns, IsReadable}
use Rattle.cany_model.specs.Rules.Knowledge.{Knowledge, after_life, shows_life, with_members}
use Rattle.cany_model.proofs.Among.{count-no, count-yes}
use Rattle.cany_model.proofs.Rules.NumberFacts.{belongs_small}
use Rattle.cany_life.specs.Life.{IsLifeOf, IsReading, LifeParts}
use Rattle.cany_life.specs.LifeSteps.{heard}

module _ (scenario : ScenarioParts) (i : ℕ) (past : List NoticeKind) (knowledge : Knowledge) (members : Nodes) (v : LifeParts) (h : IsLifeOf scenario i past knowledge v) where
  -- after a notice by which no sign becomes known
  abbrev Reads : NoticeKind → Knowledge → LifeParts → Type 0
  Reads kind st w = IsReading scenario i past (kind ∷ past) st w

  few_more : (kind : NoticeKind) → HasFewSigns scenario i (kind ∷ past) (length past) → HasFewSigns scenario i (kind ∷ past) (length (kind ∷ past))
  few_more kind few =
      let more : length (kind ∷ past) ≡ suc (length past) = refl in
      omega (arith, few, more)

  -- with what it has read of the nodes' lives, and how many signs it has sent
  reads : (kind : NoticeKind) (shown : List ℕ) (by : ℕ → ℕ) (last sent : ℕ) → length shown ≡ most_nodes
      → ((r : ℕ) → r < scenario.params.nodes → get_or shown r 0 ≡ by r) → sent ≡ life_signs_sent i (kind ∷ past) → HasFewSigns scenario i (kind ∷ past) (length past)
      → Reads kind (record (with_members members knowledge) { shown = by; last = last }) (record v { shown = shown; last = last; sent = sent })
  reads kind shown by last sent nodes same count few = record {
    limits = h.limits;
    failed = h.failed;
    signs = h.signs;
    copies = h.copies;
    lives = record { nodes = nodes; are_shown = same; is_last = refl; are_sent = count; few = few_more kind few };
  }

  sent_no : (kind : NoticeKind) → is_own_sign i kind ≡ false → v.sent ≡ life_signs_sent i (kind ∷ past)
  unfolding life_signs_sent
  sent_no kind none = h.lives.are_sent ∙ sym (count-no (is_own_sign i) kind past none)

  sent_yes : (kind : NoticeKind) → is_own_sign i kind ≡ true → v.sent + 1 ≡ life_signs_sent i (kind ∷ past)
  unfolding life_signs_sent
  sent_yes kind own = omega (arith, h.lives.are_sent, count-yes (is_own_sign i) kind past own)

  same_last : record (with_members members knowledge) { last = v.last } ≡ with_members members knowledge
  same_last = ap (λ n. record (with_members members knowledge) { last = n }) h.lives.is_last

  -- nothing is heard
  reads_none : (kind : NoticeKind) → is_own_sign i kind ≡ false → HasFewSigns scenario i (kind ∷ past) (length past) → Reads kind (with_members members knowledge) v
  reads_none kind none few =
      subst (λ st. Reads kind st v) same_last (reads kind v.shown knowledge.shown v.last v.sent h.lives.nodes h.lives.are_shown (sent_no kind none) few)

  -- another node shows life
  shown_now : (f : FrameParts) (slot r : ℕ) → f.node < most_nodes → r < scenario.params.nodes
      → get_or (set v.shown f.node slot) r 0 ≡ (if r == f.node then slot else knowledge.shown r)
  shown_now f slot r near below = elim (cases_eq r f.node) [
    | inl same ↦
        rw (eq-eqb r f.node same)
        (ap (λ n. get_or (set v.shown f.node slot) n 0) same ∙ get_or-set_same v.shown f.node slot 0 (omega (arith, near, h.lives.nodes)))
    | inr apart ↦ rw (ne_eqb r f.node apart) (get_or-set_other v.shown f.node r slot 0 apart ∙ h.lives.are_shown r below)
  ]

  reads_got : (f : FrameParts) (slot : ℕ) → slot ≡ length past → f.node < most_nodes → HasFewSigns scenario i (Got f ∷ past) (length past)
      → Reads (Got f) (after_life i (length past) (Got f) (with_members members knowledge)) (heard slot (Got f) v)
  unfolding after_life heard
  reads_got f slot at near few = elim (cases_Bool (shows_life f)) [
    | inl shows ↦
        rw (shows, at)
        (subst (λ st. Reads (Got f) (record st { shown = λ q. if q == f.node then length past else knowledge.shown q }) (record v { shown = set v.shown f.node (length past) })) same_last
        (reads (Got f) (set v.shown f.node (length past)) (λ q. if q == f.node then length past else knowledge.shown q) v.last v.sent
        (length-set v.shown f.node (length past) ∙ h.lives.nodes) (λ r below. shown_now f (length past) r near below) (sent_no (Got f) refl) few))
    | inr not ↦ rw not (reads_none (Got f) refl few)
  ]

  -- the node reads its own transmission
  sent_own : (f : FrameParts) → (f.node == i) ≡ true → v.sent + (if same_class f.class class.Els then 1 else 0) ≡ life_signs_sent i (Sent f ∷ past)
  sent_own f own = elim (cases_Bool (same_class f.class class.Els)) [
    | inl sign ↦ rw sign (sent_yes (Sent f) (and_from (same_class f.class class.Els) (f.node == i) sign own))
    | inr none ↦ rw none (omega (arith, sent_no (Sent f) (rw none refl)))
  ]

  reads_own : (f : FrameParts) (slot : ℕ) → slot ≡ length past → (f.node == i) ≡ true → HasFewSigns scenario i (Sent f ∷ past) (length past)
      → Reads (Sent f) (after_life i (length past) (Sent f) (with_members members knowledge)) (record v {
        last = if shows_life f then slot else v.last;
        sent = v.sent + (if same_class f.class class.Els then 1 else 0);
      })
  unfolding after_life
  reads_own f slot at own few = elim (cases_Bool (shows_life f)) [
    | inl shows ↦
        rw (shows, own, at)
        (reads (Sent f) v.shown knowledge.shown (length past) (v.sent + (if same_class f.class class.Els then 1 else 0)) h.lives.nodes h.lives.are_shown (sent_own f own) few)
    | inr not ↦
        rw not
        (subst (λ st. Reads (Sent f) st (record v { sent = v.sent + (if same_class f.class class.Els then 1 else 0) })) same_last
        (reads (Sent f) v.shown knowledge.shown v.last (v.sent + (if same_class f.class class.Els then 1 else 0)) h.lives.nodes h.lives.are_shown (sent_own f own) few))
  ]

  not_own : (f : FrameParts) (shows own : Bool) → own ≡ false → (shows && own) ≡ false
  not_own f true own none = none
  not_own f false own none = refl

  reads_sent : (f : FrameParts) (slot : ℕ) → slot ≡ length past → HasFewSigns scenario i (Sent f ∷ past) (length past)
      → Reads (Sent f) (after_life i (length past) (Sent f) (with_members members knowledge)) (heard slot (Sent f) v)
  unfolding heard after_life
  reads_sent f slot at few = elim (cases_Bool (f.node == v.node)) [
    | inl own ↦
        let own_i : (f.node == i) ≡ true = ap (λ n. f.node == n) (sym h.limits.is_node) ∙ own in
        rw own (reads_own f slot at own_i few)
    | inr other ↦
        let other_i : (f.node == i) ≡ false = ap (λ n. f.node == n) (sym h.limits.is_node) ∙ other in
        rw (other, not_own f (shows_life f) (f.node == i) other_i) (reads_none (Sent f) (not_own f (same_class f.class class.Els) (f.node == i) other_i) few)
  ]

  -- any notice
  pub heard_stands : (kind : NoticeKind) (slot : ℕ) → slot ≡ length past → slot < scenario.params.slots → IsReadable scenario slot kind
      → HasFewSigns scenario i (kind ∷ past) slot → Reads kind (after_life i (length past) kind (with_members members knowledge)) (heard slot kind v)
  unfolding after_life heard
  heard_stands Idle slot at within readable few = reads_none Idle refl (rw (← at) few)
  heard_stands Bad slot at within readable few = reads_none Bad refl (rw (← at) few)
  heard_stands (Got f) slot at within readable few =
      let small = belongs_small scenario slot f h.limits.legal within readable in
      reads_got f slot at (omega (arith, small.node, few_nodes scenario.params h.limits.legal.in_range)) (rw (← at) few)
  heard_stands (Sent f) slot at within readable few = reads_sent f slot at (rw (← at) few)
