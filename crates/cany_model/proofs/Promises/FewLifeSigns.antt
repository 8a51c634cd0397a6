-- Of the life signs that a node asks for at most two wait at any moment, where the life interval is
-- longer than the lag.
--
-- Two asks of a node lie more than an interval apart, so when it asks, it has read each of its
-- signs that was sent before its last ask. If none was sent since, it asks for the same sign again.
-- If one of two was, this was the elder, since a node sends the first of its waiting frames; where
-- the node has not read so yet, the younger is what it asks for again, and else it asks for a
-- second one.
use Rattle.std.proofs.Common.{◌≡◌, ℕ, zero, suc, ◌+◌, ◌-◌, ◌<◌, ◌≤◌, ◌⊎◌, inl, inr, true, false, List, [], ◌∷◌, ◌++◌, map, drop, length, count_by, ap, sym, ◌∙◌, subst, arith, length-drop, le_of_suc-le-suc}
use Rattle.std.specs.List.{AllByRecursion}
use Rattle.std.proofs.lemmas.Bool.{cases_Bool, cases_eq}
use Rattle.std.proofs.lemmas.List.{drop-map, length-map}
use Rattle.cany_base.specs.declared.class.Class.TheVariants as class
use Rattle.cany_base.specs.declared.notice.NoticeKind.{NoticeKind}
use Rattle.cany_base.specs.declared.slot_note.SlotNote.{SlotNote}
use Rattle.cany_base.specs.declared.step.Step.{Step}
use Rattle.cany_base.specs.Scenario.{ScenarioParts}
use Rattle.cany_model.specs.Bus.Frames.{identity_of}
use Rattle.cany_model.specs.Bus.History.{given, seen}
use Rattle.cany_model.specs.Runs.Run.{run}
use Rattle.cany_model.specs.Bus.State.{Incarnation, NodeState, node_at, runs}
use Rattle.cany_model.specs.Bus.Waiting.{waits}
use Rattle.cany_model.specs.Rules.Effect.{Effect, waiting_after}
use Rattle.cany_model.specs.Rules.Life.{is_own_sign, life_signs_sent}
use Rattle.cany_model.specs.Rules.KnowledgeOf.{knowledge_of}
use Rattle.cany_model.specs.Rules.Turn.{scenario_for, turn_effects}
use Rattle.cany_model.proofs.Among.{count-cons, count-drop, count-grows}
use Rattle.cany_model.proofs.Rules.Waits.{waits-without}
use Rattle.cany_model.proofs.Runs.Steps.{Each-kept}
use Rattle.cany_model.proofs.Promises.Diffusion.{Lived, Turned, past_of}
use Rattle.cany_model.proofs.Promises.FewLifeSignsRun.{IsNodesWithin, SendsFirst, each_within}
use Rattle.cany_model.proofs.Promises.FewLifeSignsWaiting.{IsOwnSign, greatest_last, left, next_number, own_sign, turn_asks_due, turn_idle, turn_idle_numbers, turn_keeps, turn_more, turn_numbers, turn_partly, turn_replaces}
use Rattle.cany_model.proofs.Promises.SignCounts.{is_els, sent_one}
use Rattle.cany_model.proofs.Rules.Site.LifeCounts.{due_at, due_in, last_cases}
use Rattle.cany_model.proofs.Rules.RoomFacts.{is_in}

-- ---- the signs that a node has sent

-- those of these slots
abbrev signs_in : ℕ → List SlotNote → ℕ
signs_in i trace = life_signs_sent i (map (given i) trace)

fewer_sent : (i n : ℕ) (trace : List SlotNote) → signs_in i (drop n trace) ≤ signs_in i trace
unfolding life_signs_sent
fewer_sent i n trace =
    omega (arith, ap (count_by (is_own_sign i)) (drop-map (given i) n trace), count-drop (is_own_sign i) n (map (given i) trace))

fewer_before : (i a b : ℕ) (trace : List SlotNote) → a ≤ b → signs_in i (drop b trace) ≤ signs_in i (drop a trace)
fewer_before i zero b trace l = fewer_sent i b trace
fewer_before i (suc a) zero trace l = absurd (omega (arith, l))
fewer_before i (suc a) (suc b) [] l = omega arith
fewer_before i (suc a) (suc b) (note ∷ trace) l = fewer_before i a b trace (le_of_suc-le-suc l)

-- ---- what is known of a node

abbrev waiting_signs : NodeState → ℕ
waiting_signs node = count_by is_els node.waiting

-- Two were waiting at the last ask, when so many had been sent and read. The one that was asked for
-- then is the younger, and waits still: two wait, or it alone where the elder was sent since.
record AreTwo (i number : ℕ) (trace : List SlotNote) (node : NodeState) : Type 0 where
  pub count : waiting_signs node + signs_in i trace ≤ number + 2
  pub waits : waits (own_sign i number) node.waiting ≡ true
  pub numbers : AllByRecursion (IsOwnSign i number) node.waiting

-- the slot of the node's own last life
abbrev pub last_life : ScenarioParts → Incarnation → ℕ → List NoticeKind → ℕ
last_life scenario inc i past = (knowledge_of (scenario_for scenario inc) i past).last

-- What holds since the last ask. It was made in the turn of this slot, when no more slots than the
-- lag has had run past it, and so many ran since.
record SinceAsk (scenario : ScenarioParts) (trace : List SlotNote) (i : ℕ) (node : NodeState) : Type 0 where
  pub age : ℕ
  pub slot : ℕ
  pub read : slot < length (past_of i trace node)
  pub ran : length trace ≤ age + slot + 1 + scenario.params.lag
  -- the next is not due before there is a later life
  pub later : (last_life scenario node.present i (past_of i trace node) + scenario.params.life ≤ slot)
      ⊎ (slot < last_life scenario node.present i (past_of i trace node))
  -- one waited at most, with those that were sent since, or two
  pub few : (waiting_signs node + signs_in i trace ≤ signs_in i (drop age trace) + 1) ⊎ AreTwo i (signs_in i (drop age trace)) trace node

-- its waiting signs are its own, of numbers up to that of the signs that it has read as sent
record FewSigns (scenario : ScenarioParts) (trace : List SlotNote) (i : ℕ) (node : NodeState) : Type 0 where
  pub numbers : AllByRecursion (IsOwnSign i (life_signs_sent i (past_of i trace node))) node.waiting
  pub few : (waiting_signs node ≡ 0) ⊎ SinceAsk scenario trace i node

at_most_two : (scenario : ScenarioParts) (trace : List SlotNote) (i : ℕ) (node : NodeState) → FewSigns scenario trace i node → waiting_signs node ≤ 2
at_most_two scenario trace i node h = elim h.few [
  | inl none ↦ omega (arith, none)
  | inr since ↦ elim since.few [
    | inl one ↦ omega (arith, one, fewer_sent i since.age trace)
    | inr two ↦ omega (arith, two.count, fewer_sent i since.age trace)
  ]
]

-- ---- a slot

module _ (scenario : ScenarioParts) (note : SlotNote) (trace : List SlotNote) (i : ℕ) (node after : NodeState) (same : after.present ≡ node.present)
    (l : Lived note trace i node after) (first : SendsFirst note i node) where
  -- one that is sent waits no longer
  slot_counts : waiting_signs after + signs_in i (note ∷ trace) ≤ waiting_signs node + signs_in i trace
  unfolding life_signs_sent
  slot_counts = omega (arith, sent_one note trace i node after l, count-cons (is_own_sign i) (given i note) (map (given i) trace))

  slot_fewer : waiting_signs after ≤ waiting_signs node
  slot_fewer = omega (arith, sent_one note trace i node after l)

  slot_two : (number : ℕ) → AreTwo i number trace node → (waiting_signs after ≡ 0) ⊎ AreTwo i number (note ∷ trace) after
  slot_two number two = elim l.waiting [
    | inl still ↦ inr (record {
      count = omega (arith, two.count, slot_counts);
      waits = rw still two.waits;
      numbers = rw still two.numbers;
    })
    | inr (f, sent, rest) ↦ elim (waits-without (own_sign i number) (identity_of f) node.waiting two.waits) [
      | inl e ↦ inl (ap (count_by is_els) rest ∙ greatest_last i number f node.waiting e (first f sent) two.numbers)
      | inr still ↦ inr (record {
        count = omega (arith, two.count, slot_counts);
        waits = rw rest still;
        numbers = rw l.kept (Each-kept (IsOwnSign i number) (given i note) node.waiting two.numbers);
      })
    ]
  ]

  slot_keeps : SinceAsk scenario trace i node → (waiting_signs after ≡ 0) ⊎ SinceAsk scenario (note ∷ trace) i after
  slot_keeps since =
      let last : last_life scenario after.present i (past_of i (note ∷ trace) after) ≡ last_life scenario node.present i (past_of i trace node) =
      ap (λ (inc : Incarnation). last_life scenario inc i (past_of i (note ∷ trace) after)) same ∙ ap (last_life scenario node.present i) l.past in
      let with : (waiting_signs after + signs_in i (note ∷ trace) ≤ signs_in i (drop since.age trace) + 1)
      ⊎ AreTwo i (signs_in i (drop since.age trace)) (note ∷ trace) after → SinceAsk scenario (note ∷ trace) i after =
      λ few. record {
        age = suc since.age;
        slot = since.slot;
        read = omega (arith, since.read, ap length l.past);
        ran = omega (arith, since.ran);
        later = elim since.later [ inl past ↦ inl (omega (arith, past, last)) | inr ahead ↦ inr (omega (arith, ahead, last)) ];
        few = few;
      } in
      elim since.few [
        | inl one ↦ inr (with (inl (omega (arith, one, slot_counts))))
        | inr two ↦ elim (slot_two (signs_in i (drop since.age trace)) two) [ inl none ↦ inl none | inr still ↦ inr (with (inr still)) ]
      ]

  few_slot : FewSigns scenario trace i node → FewSigns scenario (note ∷ trace) i after
  few_slot h = record {
    numbers = rw (l.past, l.kept) (Each-kept (IsOwnSign i (life_signs_sent i (past_of i trace node))) (given i note) node.waiting h.numbers);
    few = elim h.few [ inl none ↦ inl (omega (arith, none, slot_fewer)) | inr since ↦ slot_keeps since ];
  }

-- ---- a turn

module _ (scenario : ScenarioParts) (trace : List SlotNote) (i : ℕ) (node after : NodeState) (same : after.present ≡ node.present)
    (long : scenario.params.lag < scenario.params.life) (unread : after.unread ≤ scenario.params.lag)
    (t : Turned (turn_effects (scenario_for scenario node.present)) trace i node after) where
  -- the scenario as the incarnation follows it
  abbrev followed : ScenarioParts
  followed = scenario_for scenario node.present

  abbrev past : List NoticeKind
  past = past_of i trace node

  -- the number of the sign that is asked for where it is due
  abbrev number : ℕ
  number = next_number followed i t.notice past node.waiting

  turn_left : after.waiting ≡ left followed i t.notice past node.waiting
  turn_left = t.waiting ∙ ap (λ h. waiting_after (turn_effects followed i h) node.waiting) t.past

  turn_read : length trace - after.unread ≡ suc (length past)
  turn_read = sym (length-drop after.unread trace) ∙ sym (length-map (drop after.unread trace) (given i)) ∙ ap length t.past

  turn_last : last_life scenario after.present i (past_of i trace after) ≡ last_life scenario node.present i (t.notice ∷ past)
  turn_last =
      ap (λ (inc : Incarnation). last_life scenario inc i (past_of i trace after)) same ∙ ap (last_life scenario node.present i) t.past

  -- what it has sent, it has read up to here
  turn_sent : number ≤ signs_in i trace
  turn_sent = omega (arith, ap (life_signs_sent i) t.past, fewer_sent i after.unread trace)

  number_grows : life_signs_sent i past ≤ life_signs_sent i (t.notice ∷ past)
  unfolding life_signs_sent
  number_grows = count-grows (is_own_sign i) t.notice past

  turn_all : AllByRecursion (IsOwnSign i (life_signs_sent i past)) node.waiting → AllByRecursion (IsOwnSign i number) after.waiting
  turn_all h = rw turn_left (turn_numbers followed i t.notice past node.waiting (life_signs_sent i past) number_grows h)

  -- none is due

  idle_keeps : due_in followed i t.notice past ≡ false → SinceAsk scenario trace i node → SinceAsk scenario trace i after
  idle_keeps idle since = record {
    age = since.age;
    slot = since.slot;
    read = omega (arith, since.read, ap length t.past);
    ran = since.ran;
    later = elim (last_cases followed i t.notice past) [
      | inl kept ↦ elim since.later [
        | inl before ↦ inl (omega (arith, before, kept, turn_last))
        | inr ahead ↦ inr (omega (arith, ahead, kept, turn_last))
      ]
      | inr set ↦ inr (omega (arith, since.read, set, turn_last))
    ];
    few = elim since.few [
      | inl one ↦ inl (omega (arith, one, fewer))
      | inr two ↦ inr (record {
        count = omega (arith, two.count, fewer);
        waits = rw turn_left (turn_keeps followed i t.notice past node.waiting (signs_in i (drop since.age trace)) two.waits);
        numbers = rw turn_left (turn_idle_numbers followed i t.notice past node.waiting (signs_in i (drop since.age trace)) idle two.numbers);
      })
    ];
  }
    where
      fewer : waiting_signs after ≤ waiting_signs node
      fewer = omega (arith, ap (count_by is_els) turn_left, turn_idle followed i t.notice past node.waiting idle)

  -- one is due

  -- by now every sign that was sent by the last ask is read
  due_reads : due_in followed i t.notice past ≡ true → (since : SinceAsk scenario trace i node)
      → signs_in i (drop (SinceAsk.age since) trace) ≤ number
  due_reads due since =
      let at = due_at followed i t.notice past due in
      let apart : since.slot + scenario.params.life < length past = elim (last_cases followed i t.notice past) [
        | inl kept ↦ elim since.later [
          | inl before ↦ absurd (omega (arith, before, kept, at, since.read))
          | inr ahead ↦ omega (arith, ahead, kept, at)
        ]
        | inr set ↦ absurd (omega (arith, set, at, long))
      ] in
      let newer : after.unread ≤ since.age = omega (arith, turn_read, since.ran, apart, long) in
      omega (arith, ap (life_signs_sent i) t.past, fewer_before i after.unread since.age trace newer)

  -- so one waits at most, or two where nothing is unread
  due_few : due_in followed i t.notice past ≡ true → (waiting_signs node ≡ 0) ⊎ SinceAsk scenario trace i node
      → (waiting_signs after ≤ 1) ⊎ ((waiting_signs after ≤ 2) × (number ≡ signs_in i trace))
  due_few due few = elim few [
    | inl none ↦ inl (omega (arith, none, more))
    | inr since ↦ elim since.few [
      | inl one ↦ by_one (due_reads due since) one
      | inr two ↦ by_two (signs_in i (drop since.age trace)) (due_reads due since) two
    ]
  ]
    where
      more : waiting_signs after ≤ suc (waiting_signs node)
      more = omega (arith, ap (count_by is_els) turn_left, turn_more followed i t.notice past node.waiting)

      by_one : {sent : ℕ} → sent ≤ number → waiting_signs node + signs_in i trace ≤ sent + 1
          → (waiting_signs after ≤ 1) ⊎ ((waiting_signs after ≤ 2) × (number ≡ signs_in i trace))
      by_one {sent} read one = elim (cases_eq (waiting_signs node) 0) [
        | inl none ↦ inl (omega (arith, none, more))
        | inr some ↦ inr (omega (arith, one, some, more, read, turn_sent), omega (arith, one, some, read, turn_sent))
      ]

      by_two : (sent : ℕ) → sent ≤ number → AreTwo i sent trace node
          → (waiting_signs after ≤ 1) ⊎ ((waiting_signs after ≤ 2) × (number ≡ signs_in i trace))
      by_two sent read two = elim (cases_eq sent number) [
        | inl again ↦
            let there : waits (own_sign i number) node.waiting ≡ true = subst (λ n. waits (own_sign i n) node.waiting ≡ true) again two.waits in
            let no_more : waiting_signs after ≤ waiting_signs node =
            omega (arith, ap (count_by is_els) turn_left, turn_replaces followed i t.notice past node.waiting there) in
            elim (cases_eq number (signs_in i trace)) [
              | inl all ↦ inr (omega (arith, no_more, two.count, again, all), all)
              | inr unread' ↦ inl (omega (arith, no_more, two.count, again, unread', turn_sent))
            ]
        | inr later ↦ by_one {sent = suc sent} (omega (arith, read, later)) (omega (arith, two.count))
      ]

  due_since : due_in followed i t.notice past ≡ true → FewSigns scenario trace i node → SinceAsk scenario trace i after
  due_since due h = record {
    age = 0;
    slot = length past;
    read = omega (arith, ap length t.past);
    ran = omega (arith, turn_read, unread);
    later = inl (omega (arith, due_at followed i t.notice past due, turn_last));
    few = elim (due_few due h.few) [
      | inl one ↦ inl (omega (arith, one))
      | inr (two, all) ↦ inr (record {
        count = omega (arith, two);
        waits = rw turn_left (subst (λ n. waits (own_sign i n) (left followed i t.notice past node.waiting) ≡ true) all
            (turn_asks_due followed i t.notice past node.waiting due));
        numbers = subst (λ n. AllByRecursion (IsOwnSign i n) after.waiting) all (turn_all h.numbers);
      })
    ];
  }

  few_turn : FewSigns scenario trace i node → FewSigns scenario trace i after
  few_turn h = record {
    numbers = rw t.past (turn_all h.numbers);
    few = elim (cases_Bool (due_in followed i t.notice past)) [
      | inl due ↦ inr (due_since due h)
      | inr idle ↦ elim h.few [
        | inl none ↦ inl (omega (arith, none, ap (count_by is_els) turn_left, turn_idle followed i t.notice past node.waiting idle))
        | inr since ↦ inr (idle_keeps idle since)
      ]
    ];
  }

-- ---- every run

few_signs : (scenario : ScenarioParts) → scenario.params.lag < scenario.params.life → IsNodesWithin scenario (FewSigns scenario)
few_signs scenario long = record {
  new = λ trace i node new. record { numbers = rw new.waiting tt; few = inl (ap (count_by is_els) new.waiting) };
  slot = λ note trace i node after same l first h. few_slot scenario note trace i node after same l first h;
  turn = λ trace i node after same unread t h. few_turn scenario trace i node after same long unread t h;
}

-- of the life signs that a running node has asked for, two wait at most
pub few_life_signs : (scenario : ScenarioParts) (journal : List Step) → scenario.params.lag < scenario.params.life → (i : ℕ)
    → runs (node_at (run scenario journal).nodes i) ≡ true → count_by (is_in class.Els) (node_at (run scenario journal).nodes i).waiting ≤ 2
few_life_signs scenario journal long i running =
    let node = node_at (run scenario journal).nodes i in
    at_most_two scenario (seen node.present (run scenario journal).trace) i node
    (each_within scenario (FewSigns scenario) (few_signs scenario long) journal i running)

-- and three at each moment of a turn, which asks for one at most
pub few_in_turn : (scenario : ScenarioParts) (journal : List Step) → scenario.params.lag < scenario.params.life → (i : ℕ)
    → runs (node_at (run scenario journal).nodes i) ≡ true → (own : ScenarioParts) (e : NoticeKind) (past : List NoticeKind)
    → (first rest : List Effect) → turn_effects own i (e ∷ past) ≡ first ++ rest
    → count_by (is_in class.Els) (waiting_after first (node_at (run scenario journal).nodes i).waiting) ≤ 3
few_in_turn scenario journal long i running own e past first rest parts =
    let node = node_at (run scenario journal).nodes i in
    omega (arith, few_life_signs scenario journal long i running, turn_partly own i e past node.waiting first rest parts)
