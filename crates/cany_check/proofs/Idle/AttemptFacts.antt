-- Counts and slots of attempts: the frames that are entered, one more slot, and what they say of
-- the last attempt.
use Rattle.std.proofs.Common.{◌≡◌, ℕ, ◌+◌, ◌^◌, ◌<◌, ◌≤◌, ◌==◌, ◌&&◌, ◌||◌, Bool, true, false, List, [], ◌∷◌, ◌++◌, Option, Some, None, length, reverse, take, get_or, refl, ap, sym, ◌∙◌, arith, inl, inr}
use Rattle.std.specs.Prelude.{if◌then◌else◌, nat_lt}
use Rattle.std.specs.BTreeMap.{BTreeMap, get, is_at}
use Rattle.std.specs.List.{list_any}
use Rattle.std.specs.Option.{option_map_or}
use Rattle.std.proofs.lemmas.Bool.{cases_Bool, cases_lt, eq-eqb, false≢true, le-ltb, lt-ltb}
use Rattle.std.proofs.lemmas.List.{length-reverse, length-take-le, reverse-append, take_all, take_more}
use Rattle.std.proofs.lemmas.List.Folds.{list_any-append}
use Rattle.std.proofs.lemmas.List.Sums.{count_by-le-length}
use Rattle.cany_base.specs.declared.class.Class.{Class}
use Rattle.cany_base.specs.declared.class.Class.TheVariants.{Join, Leave}
use Rattle.cany_base.specs.declared.message.NodeAsk.{NodeAsk}
use Rattle.cany_base.specs.declared.rule.Place.TheVariants.{At, FrameNth}
use Rattle.cany_base.specs.declared.rule.Rule.{Rule}
use Rattle.cany_base.specs.declared.slot_note.SlotNote.{SlotNote}
use Rattle.cany_base.specs.declared.step.Step.{Step}
use Rattle.cany_base.specs.Frame.{FrameParts}
use Rattle.cany_base.specs.Params.{Parameters}
use Rattle.cany_base.specs.Scenario.{ScenarioParts}
use Rattle.cany_model.specs.Bus.Frames.{Identity, identity_of, is_of, same_identity}
use Rattle.cany_model.specs.Bus.Slot.{attempts, carried}
use Rattle.cany_model.specs.Runs.Run.{run}
use Rattle.cany_model.proofs.Among.{count-no, count-yes}
use Rattle.cany_model.proofs.Bus.Identities.{same_identity-true}
use Rattle.cany_model.proofs.Bus.Seen.{Numbered}
use Rattle.cany_model.proofs.Promises.OwnSlotsAlone.{run_numbered}
use Rattle.cany_model.proofs.Runs.Runs.{orderly}
use Rattle.cany_check.specs.declared.unused_entries.attempts.AttemptSlots.{AttemptSlots}
use Rattle.can_fault.specs.declared.identity.Attempt.{Attempt}
use Rattle.can_fault.specs.declared.identity.FrameIdentity.{FrameIdentity}
use Rattle.cany_check.specs.Idle.Attempts.{AreAttempts, AreZero, asked_frame, count_of, is_asked, is_named, is_ruled, raised, slot_of}
use Rattle.can_fault.specs.Identities.{attempt_cmp, attempt_of, frame_identity, identity_cmp}
use Rattle.cany_check.specs.Idle.Unused.{attempt_slot, is_carried_later}
use Rattle.can_fault.specs.Rules.{names_frame}
use Rattle.can_fault.proofs.AttemptFacts.{same_identity_turned}
use Rattle.can_fault.proofs.KeyFacts.{attempt_test, identity_test}
use Rattle.cany_check.proofs.Idle.NamedFacts.{or_none}

-- ---- the frames that are entered

pub fewer_zero : (named less : Identity → Bool) (counts : List (FrameIdentity × ℕ)) → ((x : Identity) → less x ≡ true → named x ≡ true) → AreZero named counts → AreZero less counts
fewer_zero named less counts within zero x h = zero x (within x h)

pub entered : (named : Identity → Bool) (y : Identity) (old new : BTreeMap FrameIdentity ℕ) → AreZero named old.entries
    → ((q : FrameIdentity) → get identity_cmp new q ≡ (if is_at (identity_cmp (frame_identity y)) q then Some 0 else get identity_cmp old q))
    → AreZero (λ x. named x || (same_identity y x || false)) new.entries
entered named y old new zero updates x h =
    updates (frame_identity x) ∙ ap (λ b. if b then Some 0 else count_of old.entries x) (identity_test y x) ∙ elim (cases_Bool (same_identity y x)) [
      | inl same ↦ rw same refl
      | inr other ↦ rw other (zero x (or_none (named x) (rw other at h)))
    ]

pub entered_rule : (named : Identity → Bool) (y : Identity) (nth : ℕ) (rule : Rule) (old new : BTreeMap FrameIdentity ℕ) → rule.place ≡ FrameNth y.class y.number y.node nth → AreZero named old.entries
    → ((q : FrameIdentity) → get identity_cmp new q ≡ (if is_at (identity_cmp (frame_identity y)) q then Some 0 else get identity_cmp old q))
    → AreZero (λ x. named x || is_ruled (rule ∷ []) x) new.entries
entered_rule named y nth rule old new e zero updates =
    fewer_zero (λ x. named x || (same_identity y x || false)) (λ x. named x || is_ruled (rule ∷ []) x) new.entries
    (λ x h. sym (ap (λ p. named x || (names_frame x p || false)) e) ∙ h)
    (entered named y old new zero updates)

pub entered_slot : (named : Identity → Bool) (slot : ℕ) (rule : Rule) (counts : List (FrameIdentity × ℕ)) → rule.place ≡ At slot → AreZero named counts → AreZero (λ x. named x || is_ruled (rule ∷ []) x) counts
entered_slot named slot rule counts e zero =
    fewer_zero named (λ x. named x || is_ruled (rule ∷ []) x) counts
    (λ x h. or_none (named x) (sym (ap (λ p. named x || (names_frame x p || false)) e) ∙ h)) zero

or_assoc : (a b c : Bool) → (a || (b || c)) ≡ ((a || b) || c)
or_assoc true b c = refl
or_assoc false b c = refl

pub rules_more : (named : Identity → Bool) (rules : List Rule) (rule : Rule) (x : Identity) → (named x || is_ruled (rules ++ rule ∷ []) x) ≡ ((named x || is_ruled rules x) || is_ruled (rule ∷ []) x)
rules_more named rules rule x =
    ap (λ b. named x || b) (list_any-append (λ (r : Rule). names_frame x r.place) rules (rule ∷ [])) ∙ or_assoc (named x) (is_ruled rules x) (is_ruled (rule ∷ []) x)

pub asks_more : (named : Identity → Bool) (p : Parameters) (c : Class) (asks : List NodeAsk) (ask : NodeAsk) (x : Identity)
    → (named x || is_asked p c (asks ++ ask ∷ []) x) ≡ ((named x || is_asked p c asks x) || is_asked p c (ask ∷ []) x)
asks_more named p c asks ask x =
    ap (λ b. named x || b) (list_any-append (λ (a : NodeAsk). same_identity (asked_frame p c a) x) asks (ask ∷ [])) ∙ or_assoc (named x) (is_asked p c asks x) (is_asked p c (ask ∷ []) x)

pub rules_next : (named : Identity → Bool) (rules : List Rule) (i : ℕ) (rule : Rule) (counts : List (FrameIdentity × ℕ)) → i < length rules → rule ≡ get_or rules i rule
    → AreZero (λ x. (named x || is_ruled (take i rules) x) || is_ruled (rule ∷ []) x) counts → AreZero (λ x. named x || is_ruled (take (i + 1) rules) x) counts
rules_next named rules i rule counts below at zero =
    let here : take (i + 1) rules ≡ take i rules ++ rule ∷ [] = take_more rules i rule below ∙ ap (λ y. take i rules ++ y ∷ []) (sym at) in
    fewer_zero (λ x. (named x || is_ruled (take i rules) x) || is_ruled (rule ∷ []) x) (λ x. named x || is_ruled (take (i + 1) rules) x) counts
    (λ x h. sym (rules_more named (take i rules) rule x) ∙ ap (λ l. named x || is_ruled l x) (sym here) ∙ h) zero

pub asks_next : (named : Identity → Bool) (p : Parameters) (c : Class) (asks : List NodeAsk) (i : ℕ) (ask : NodeAsk) (counts : List (FrameIdentity × ℕ)) → i < length asks → ask ≡ get_or asks i ask
    → AreZero (λ x. (named x || is_asked p c (take i asks) x) || is_asked p c (ask ∷ []) x) counts → AreZero (λ x. named x || is_asked p c (take (i + 1) asks) x) counts
asks_next named p c asks i ask counts below at zero =
    let here : take (i + 1) asks ≡ take i asks ++ ask ∷ [] = take_more asks i ask below ∙ ap (λ y. take i asks ++ y ∷ []) (sym at) in
    fewer_zero (λ x. (named x || is_asked p c (take i asks) x) || is_asked p c (ask ∷ []) x) (λ x. named x || is_asked p c (take (i + 1) asks) x) counts
    (λ x h. sym (asks_more named p c (take i asks) ask x) ∙ ap (λ l. named x || is_asked p c l x) (sym here) ∙ h) zero

-- all that a scenario names
pub all_entered : (scenario : ScenarioParts) (p : Parameters) (rules : List Rule) (joins leaves : List NodeAsk) (none first second third : List (FrameIdentity × ℕ))
    → p ≡ scenario.params → rules ≡ scenario.rules → joins ≡ scenario.joins → leaves ≡ scenario.leaves
    → ((named : Identity → Bool) → AreZero named none → AreZero (λ x. named x || is_ruled rules x) first)
    → ((named : Identity → Bool) → AreZero named first → AreZero (λ x. named x || is_asked p Join joins x) second)
    → ((named : Identity → Bool) → AreZero named second → AreZero (λ x. named x || is_asked p Leave leaves x) third)
    → AreZero (is_named scenario) third
all_entered scenario p rules joins leaves none first second third params_is rules_is joins_is leaves_is ruled joined left =
    let zero : AreZero (λ x. ((false || is_ruled rules x) || is_asked p Join joins x) || is_asked p Leave leaves x) third =
    left (λ x. (false || is_ruled rules x) || is_asked p Join joins x) (joined (λ x. false || is_ruled rules x) (ruled (λ x. false) (λ x h. absurd (false≢true h)))) in
    λ x h. zero x (rw (params_is, rules_is, joins_is, leaves_is) h)

-- ---- one more slot

pub first_attempts : (named : Identity → Bool) (kept : AttemptSlots) → AreZero named kept.counts.entries → kept.slots.entries ≡ [] → AreAttempts named [] kept
unfolding attempt_slot
first_attempts named kept zero none = record {
  counted = zero;
  placed = λ x h nth. ap (λ slots. slot_of slots x nth) none;
}

grown : (named : Identity → Bool) (trace : List SlotNote) (note : SlotNote) (old new : AttemptSlots) → AreAttempts named trace old
    → ((x : Identity) → named x ≡ true → count_of new.counts.entries x ≡ (if carried (is_of x) note then Some (attempts x trace + 1) else count_of old.counts.entries x))
    → ((x : Identity) → named x ≡ true → (nth : ℕ) → slot_of new.slots.entries x nth ≡ (if carried (is_of x) note && attempts x trace + 1 == nth then Some note.slot else slot_of old.slots.entries x nth))
    → AreAttempts named (note ∷ trace) new
unfolding attempt_slot
grown named trace note old new are counts slots = record {
  counted = λ x h. counts x h ∙ elim (cases_Bool (carried (is_of x) note)) [
    | inl here ↦
        ap (λ b. if b then Some (attempts x trace + 1) else count_of old.counts.entries x) here
        ∙ ap (λ n. Some n) (omega (arith, count-yes (carried (is_of x)) note trace here))
    | inr other ↦
        ap (λ b. if b then Some (attempts x trace + 1) else count_of old.counts.entries x) other
        ∙ are.counted x h ∙ ap (λ n. Some n) (sym (count-no (carried (is_of x)) note trace other))
  ];
  placed = λ x h nth. slots x h nth ∙ ap (λ o. if carried (is_of x) note && attempts x trace + 1 == nth then Some note.slot else o) (are.placed x h nth);
}

pub idle_slot : (named : Identity → Bool) (trace : List SlotNote) (note : SlotNote) (kept : AttemptSlots) → note.frame ≡ None → AreAttempts named trace kept → AreAttempts named (note ∷ trace) kept
idle_slot named trace note kept idle are =
    let unlike : (x : Identity) → carried (is_of x) note ≡ false = λ x. ap (λ o. option_map_or (is_of x) o false) idle in
    grown named trace note kept kept are (λ x h. rw (unlike x) refl) (λ x h nth. rw (unlike x) refl)

carries : (x : Identity) (note : SlotNote) (f : FrameParts) → note.frame ≡ Some f → carried (is_of x) note ≡ same_identity x (identity_of f)
carries x note f e = ap (λ o. option_map_or (is_of x) o false) e

none-some : (n : ℕ) → Some n ≡ None → ⊥
none-some n h = cc

-- of a frame that no entry names
pub unnamed_slot : (named : Identity → Bool) (trace : List SlotNote) (note : SlotNote) (f : FrameParts) (kept : AttemptSlots) → note.frame ≡ Some f → AreAttempts named trace kept
    → None ≡ get identity_cmp kept.counts (frame_identity (identity_of f)) → AreAttempts named (note ∷ trace) kept
unnamed_slot named trace note f kept e are none =
    let y = identity_of f in
    let unlike : (x : Identity) → named x ≡ true → same_identity x y ≡ false =
    λ x h. elim (cases_Bool (same_identity x y)) [
      | inl here ↦
          let is : x ≡ y = same_identity-true x y here in
          absurd (none-some (attempts x trace) (sym (none ∙ ap (count_of kept.counts.entries) (sym is) ∙ are.counted x h)))
      | inr other ↦ other
    ] in
    grown named trace note kept kept are (λ x h. rw (carries x note f e, unlike x h) refl) (λ x h nth. rw (carries x note f e, unlike x h) refl)

raised_once : (n : ℕ) → n + 1 < 2 ^ 64 → raised n ≡ n + 1
raised_once n h = omega (arith, h)

-- of a frame that is kept: its count was this, and is raised
pub named_slot : (named : Identity → Bool) (trace : List SlotNote) (note : SlotNote) (f : FrameParts) (before nth : ℕ) (old new : AttemptSlots) → length trace + 1 < 2 ^ 64 → note.frame ≡ Some f → AreAttempts named trace old
    → Some before ≡ get identity_cmp old.counts (frame_identity (identity_of f)) → nth ≡ raised before
    → ((q : FrameIdentity) → get identity_cmp new.counts q ≡ (if is_at (identity_cmp (frame_identity (identity_of f))) q then Some nth else get identity_cmp old.counts q))
    → ((q : Attempt) → get attempt_cmp new.slots q ≡ (if is_at (attempt_cmp (attempt_of (identity_of f) nth)) q then Some note.slot else get attempt_cmp old.slots q))
    → AreAttempts named (note ∷ trace) new
named_slot named trace note f before nth old new short e are found raise counted placed = grown named trace note old new are counts slots
  where
    y : Identity
    y = identity_of f

    number : (x : Identity) → named x ≡ true → same_identity x y ≡ true → nth ≡ attempts x trace + 1
    number x h here =
        let is : x ≡ y = same_identity-true x y here in
        let same : Some before ≡ Some (attempts x trace) = found ∙ ap (count_of old.counts.entries) (sym is) ∙ are.counted x h in
        let count : before ≡ attempts x trace = cc in
        raise ∙ ap raised count ∙ raised_once (attempts x trace) (omega (arith, short, count_by-le-length (carried (is_of x)) trace))

    counts : (x : Identity) → named x ≡ true → count_of new.counts.entries x ≡ (if carried (is_of x) note then Some (attempts x trace + 1) else count_of old.counts.entries x)
    counts x h = counted (frame_identity x) ∙ rw (identity_test y x, same_identity_turned y x, carries x note f e) (elim (cases_Bool (same_identity x y)) [
      | inl here ↦ rw here (ap (λ n. Some n) (number x h here))
      | inr other ↦ rw other refl
    ])

    slots : (x : Identity) → named x ≡ true → (k : ℕ) → slot_of new.slots.entries x k ≡ (if carried (is_of x) note && attempts x trace + 1 == k then Some note.slot else slot_of old.slots.entries x k)
    slots x h k = placed (attempt_of x k) ∙ rw (attempt_test y x nth k, same_identity_turned y x, carries x note f e) (elim (cases_Bool (same_identity x y)) [
      | inl here ↦ rw (here, number x h here) refl
      | inr other ↦ rw other refl
    ])

-- ---- the last attempt

abbrev carries_later : Identity → ℕ → SlotNote → Bool
carries_later x slot note = nat_lt slot note.slot && carried (is_of x) note

none_later : (x : Identity) (slot : ℕ) (trace : List SlotNote) → Numbered trace → length trace ≤ slot → list_any (carries_later x slot) trace ≡ false
none_later x slot [] numbered past = refl
none_later x slot (note ∷ trace) numbered past =
    rw (le-ltb slot note.slot (omega (arith, numbered.0, past))) (none_later x slot trace numbered.1 (omega (arith, past)))

later_yes : (x : Identity) (slot n : ℕ) (note : SlotNote) (trace : List SlotNote) → Numbered (note ∷ trace) → carried (is_of x) note ≡ true → attempts x trace + 1 ≡ n
    → list_any (carries_later x slot) (note ∷ trace) ≡ option_map_or (λ last. nat_lt slot last) (attempt_slot x n (note ∷ trace)) false
unfolding attempt_slot
later_yes x slot n note trace numbered here e = rw (here, eq-eqb (attempts x trace + 1) n e) (elim (cases_lt slot note.slot) [
  | inl below ↦ rw (lt-ltb slot note.slot below) refl
  | inr past ↦ rw (le-ltb slot note.slot past) (none_later x slot trace numbered.1 (omega (arith, numbered.0, past)))
])

later_no : (x : Identity) (slot n : ℕ) (note : SlotNote) (trace : List SlotNote) → carried (is_of x) note ≡ false
    → list_any (carries_later x slot) trace ≡ option_map_or (λ last. nat_lt slot last) (attempt_slot x n trace) false
    → list_any (carries_later x slot) (note ∷ trace) ≡ option_map_or (λ last. nat_lt slot last) (attempt_slot x n (note ∷ trace)) false
unfolding attempt_slot
later_no x slot n note trace other before = rw other (ap (λ b. b || list_any (carries_later x slot) trace) (and_none (nat_lt slot note.slot)) ∙ before)
  where
    and_none : (b : Bool) → (b && false) ≡ false
    and_none true = refl
    and_none false = refl

-- a later slot than this one carried the frame where the last attempt was later
pub later_is : (x : Identity) (slot : ℕ) (trace : List SlotNote) → Numbered trace
    → list_any (carries_later x slot) trace ≡ option_map_or (λ last. nat_lt slot last) (attempt_slot x (attempts x trace) trace) false
unfolding attempt_slot
later_is x slot [] numbered = refl
later_is x slot (note ∷ trace) numbered = elim (cases_Bool (carried (is_of x) note)) [
  | inl here ↦ later_yes x slot (attempts x (note ∷ trace)) note trace numbered here (omega (arith, count-yes (carried (is_of x)) note trace here))
  | inr other ↦
      later_no x slot (attempts x (note ∷ trace)) note trace other
      (later_is x slot trace numbered.1 ∙ ap (λ n. option_map_or (λ last. nat_lt slot last) (attempt_slot x n trace) false) (sym (count-no (carried (is_of x)) note trace other)))
]

-- an attempt is in a slot that ran
pub attempt_ran : (x : Identity) (nth slot : ℕ) (trace : List SlotNote) → Numbered trace → attempt_slot x nth trace ≡ Some slot → slot < length trace
unfolding attempt_slot
attempt_ran x nth slot [] numbered h = absurd (cc)
attempt_ran x nth slot (note ∷ trace) numbered h = elim (cases_Bool (carried (is_of x) note && attempts x trace + 1 == nth)) [
  | inl here ↦ let is : note.slot ≡ slot = (let some : Some note.slot ≡ Some slot = rw here at h in cc) in omega (arith, is, numbered.0)
  | inr later ↦ let rest : slot < length trace = attempt_ran x nth slot trace numbered.1 (rw later at h) in omega (arith, rest)
]

-- ---- the slots so far

-- one more slot of those so far, newest first
pub slots_more : (slots : List SlotNote) (i : ℕ) (note : SlotNote) → i < length slots → note ≡ get_or slots i note → reverse (take (i + 1) slots) ≡ note ∷ reverse (take i slots)
slots_more slots i note below at =
    ap reverse (take_more slots i note below ∙ ap (λ y. take i slots ++ y ∷ []) (sym at)) ∙ reverse-append (take i slots) (note ∷ [])

pub slots_length : (slots : List SlotNote) (i : ℕ) → i ≤ length slots → length (reverse (take i slots)) ≡ i
slots_length slots i within = length-reverse (take i slots) ∙ length-take-le i slots within

pub slots_all : (slots trace : List SlotNote) (i : ℕ) → length slots ≤ i → reverse slots ≡ trace → reverse (take i slots) ≡ trace
slots_all slots trace i past e = ap reverse (take_all i slots past) ∙ e

-- ---- of a run

pub trace_numbered : (scenario : ScenarioParts) (journal : List Step) → Numbered (run scenario journal).trace
trace_numbered scenario journal = run_numbered scenario.params.nodes (run scenario journal) (orderly scenario journal)

pub carried_later : (scenario : ScenarioParts) (journal : List Step) (c : Class) (ask : NodeAsk) (last answer : Option ℕ) → last ≡ answer
    → (let x = asked_frame scenario.params c ask in let trace = (run scenario journal).trace in last ≡ attempt_slot x (attempts x trace) trace)
    → option_map_or (λ l. nat_lt ask.slot l) answer false ≡ is_carried_later scenario (run scenario journal) c ask
carried_later scenario journal c ask last answer is e =
    ap (λ o. option_map_or (λ l. nat_lt ask.slot l) o false) (sym is ∙ e)
    ∙ sym (later_is (asked_frame scenario.params c ask) ask.slot (run scenario journal).trace (trace_numbered scenario journal))
