-- The TOTCAN deliveries of each incarnation are part of one sequence: the messages in the order of
-- the slots in which their data frames were carried Clean.
use Rattle.std.proofs.Common.{◌≡◌, ℕ, suc, ◌+◌, ◌<◌, ◌≤◌, ◌&&◌, ◌==◌, inl, inr, Bool, true, false, nat_le, if◌then◌else◌, List, [], ◌∷◌, ◌++◌, count_by, Option, Some, None, refl, ap, sym, ◌∙◌, subst, arith, append_assoc}
use Rattle.std.proofs.lemmas.Bool.{and_parts, cases_Bool, cases_lt, cond_both, eqb-true}
use Rattle.std.proofs.lemmas.List.Sums.{sum_by-append}
use Rattle.cany_base.proofs.ParamsFacts.{few_nodes}
use Rattle.cany_base.specs.declared.class.Class.TheVariants as class
use Rattle.cany_base.specs.declared.message.MsgKey.{MsgKey}
use Rattle.cany_base.specs.declared.slot_note.SlotNote.{SlotNote}
use Rattle.cany_base.specs.declared.step.Step.{Step}
use Rattle.cany_base.specs.Frame.{FrameParts}
use Rattle.cany_base.specs.Scenario.{IsLegalScenario, ScenarioParts}
use Rattle.cany_model.specs.Bus.Frames.{same_class}
use Rattle.cany_model.specs.Bus.Slot.{is_clean}
use Rattle.cany_model.specs.Bus.State.{Incarnation, RunState, node_at}
use Rattle.cany_model.specs.Promises.Hypothesis.{IsWithin}
use Rattle.cany_model.specs.Promises.Order.{Content, order_by, ordered_in, is_accepted_by_some, tot_deliveries}
use Rattle.cany_model.specs.Promises.Settled.{IsCorrect}
use Rattle.cany_model.specs.Rules.Log.{log}
use Rattle.cany_model.specs.Rules.Totcan.{message_in}
use Rattle.cany_model.specs.Runs.Run.{run}
use Rattle.cany_model.proofs.Among.{Among, Among-from_count, count-no, count-yes, one_if}
use Rattle.cany_model.proofs.Timed.Guarantees.{ordered}
use Rattle.cany_model.proofs.Timed.Order.OrderAt.{DataFirst, clean_done}
use Rattle.cany_model.proofs.Timed.Order.TotCount.{within_silent}
use Rattle.cany_model.proofs.Timed.Order.TotRun.{tot_kept}
use Rattle.cany_model.proofs.Timed.Common.Ages.{Done, carries_clean, clean_carried}
use Rattle.cany_model.specs.Rules.Totcan.{tot_of_key}
use Rattle.cany_model.proofs.Timed.Detector.DetectorLaws.{within_front}
use Rattle.cany_laws.specs.Logs.{log_as}
use Rattle.cany_laws.specs.Sequence.{HasOneSequence, IsSubsequence, clean_sequence, is_content_of}
use Rattle.cany_laws.proofs.Logs.IntegralLogs.{lived_correct, lived_log}
use Rattle.cany_laws.proofs.Silences.Lives.{lived}
use Rattle.cany_model.proofs.Timed.Views.StartViews.{front_split}

-- ---- parts of lists

part_self : (xs : List Content) → IsSubsequence xs xs
part_self [] = tt
part_self (x ∷ xs) = inl (refl, part_self xs)

part_more : (xs ys zs : List Content) → IsSubsequence xs ys → IsSubsequence xs (ys ++ zs)
part_more [] ys zs h = tt
part_more (x ∷ xs) [] zs h = absurd h
part_more (x ∷ xs) (y ∷ ys) zs (inl h) = inl (h.0, part_more xs ys zs h.1)
part_more (x ∷ xs) (y ∷ ys) zs (inr h) = inr (part_more (x ∷ xs) ys zs h)

-- a front of a part is part
part_front : (xs rest ys : List Content) → IsSubsequence (xs ++ rest) ys → IsSubsequence xs ys
part_front [] rest ys h = tt
part_front (x ∷ xs) rest [] h = absurd h
part_front (x ∷ xs) rest (y ∷ ys) (inl h) = inl (h.0, part_front xs rest ys h.1)
part_front (x ∷ xs) rest (y ∷ ys) (inr h) = inr (part_front (x ∷ xs) rest ys h)

part_skip : (xs us vs : List Content) → IsSubsequence xs vs → IsSubsequence xs (us ++ vs)
part_skip xs [] vs h = h
part_skip [] (a ∷ us) vs h = tt
part_skip (x ∷ xs) (a ∷ us) vs h = inr (part_skip (x ∷ xs) us vs h)

part_both : (xs ys us vs : List Content) → IsSubsequence xs us → IsSubsequence ys vs → IsSubsequence (xs ++ ys) (us ++ vs)
part_both [] ys us vs a b = part_skip ys us vs b
part_both (x ∷ xs) ys [] vs a b = absurd a
part_both (x ∷ xs) ys (y ∷ us) vs (inl h) b = inl (h.0, part_both xs ys us vs h.1 b)
part_both (x ∷ xs) ys (y ∷ us) vs (inr h) b = inr (part_both (x ∷ xs) ys us vs h b)

-- ---- the sequence

part_slot : (test : MsgKey → Bool) (note : SlotNote) (o : Option FrameParts) → IsSubsequence (ordered_in test note o) (ordered_in (λ key. true) note o)
part_slot test note None = tt
part_slot test note (Some f) =
    by_clean (same_class f.class class.Tot && is_clean note.verdict) (test (message_in f))
  where
    one : Content
    one = record { msg = message_in f; payload = f.payload }

    by_clean : (clean passes : Bool) → IsSubsequence (if clean && passes then one ∷ [] else []) (if clean && true then one ∷ [] else [])
    by_clean true true = inl (refl, tt)
    by_clean true false = tt
    by_clean false passes = tt

-- what passes a test is part of all
part_test : (test : MsgKey → Bool) (from : ℕ) (trace : List SlotNote) → IsSubsequence (order_by test from trace) (clean_sequence from trace)
unfolding order_by
part_test test from [] = tt
part_test test from (note ∷ before) =
    part_both (order_by test from before) (if nat_le from note.slot then ordered_in test note note.frame else []) (clean_sequence from before)
    (if nat_le from note.slot then ordered_in (λ key. true) note note.frame else []) (part_test test from before) (by_slot (nat_le from note.slot))
  where
    by_slot : (b : Bool) → IsSubsequence (if b then ordered_in test note note.frame else []) (if b then ordered_in (λ key. true) note note.frame else [])
    by_slot true = part_slot test note note.frame
    by_slot false = tt

-- later slots put their messages behind
sequence_longer : (from : ℕ) (newer older : List SlotNote) → (more : List Content) × (clean_sequence from (newer ++ older) ≡ clean_sequence from older ++ more)
unfolding order_by
sequence_longer from [] older = ([], sym (nil_after (clean_sequence from older)))
  where
    nil_after : (xs : List Content) → xs ++ [] ≡ xs
    nil_after [] = refl
    nil_after (x ∷ xs) = ap (λ l. x ∷ l) (nil_after xs)
sequence_longer from (note ∷ newer) older =
    let rest = sequence_longer from newer older in
    let now : List Content = if nat_le from note.slot then ordered_in (λ key. true) note note.frame else [] in
    (rest.0 ++ now, ap (λ l. l ++ now) rest.1 ∙ append_assoc (clean_sequence from older) rest.0 now)

-- no message stands twice in it, where no data frame is carried again once it was carried Clean
count_append : (key : MsgKey) (a b : List Content) → count_by (is_content_of key) (a ++ b) ≡ count_by (is_content_of key) a + count_by (is_content_of key) b
count_append key a b = sum_by-append (λ c. one_if (is_content_of key c)) a b

named_key : (key : MsgKey) (c : Content) → is_content_of key c ≡ true → c.msg ≡ key
named_key key c h =
    let parts = and_parts (c.msg.origin == key.origin) (c.msg.seq == key.seq) h in
    λ k. record { origin = (eqb-true c.msg.origin key.origin parts.0) k; seq = (eqb-true c.msg.seq key.seq parts.1) k }

slot_done : (key : MsgKey) (note : SlotNote) (o : Option FrameParts) → note.frame ≡ o → 0 < count_by (is_content_of key) (ordered_in (λ k. true) note o)
    → carries_clean (tot_of_key key) note ≡ true
slot_done key note None is h = absurd (omega (arith, h))
slot_done key note (Some f) is h =
    cond_both (same_class f.class class.Tot && is_clean note.verdict && true) (record { msg = message_in f; payload = f.payload } ∷ []) []
    (λ l. 0 < count_by (is_content_of key) l → carries_clean (tot_of_key key) note ≡ true)
    (λ clean some. elim (Among-from_count (is_content_of key) (record { msg = message_in f; payload = f.payload } ∷ []) some) [
      | inl named ↦
          let parts = and_parts (same_class f.class class.Tot) (is_clean note.verdict)
          (and_parts (same_class f.class class.Tot && is_clean note.verdict) true clean).0 in
          ap (λ k. carries_clean (tot_of_key k) note) (sym (named_key key (record { msg = message_in f; payload = f.payload }) named))
          ∙ clean_done note f is parts.0 parts.1
      | inr never ↦ absurd never
    ])
    (λ _ none. absurd (omega (arith, none))) h

slot_once : (key : MsgKey) (note : SlotNote) (o : Option FrameParts) → count_by (is_content_of key) (ordered_in (λ k. true) note o) ≤ 1
slot_once key note None = omega arith
slot_once key note (Some f) =
    let c : Content = record { msg = message_in f; payload = f.payload } in
    cond_both (same_class f.class class.Tot && is_clean note.verdict && true) (c ∷ []) [] (λ l. count_by (is_content_of key) l ≤ 1)
    (λ _. elim (cases_Bool (is_content_of key c)) [
      | inl yes' ↦ omega (arith, count-yes (is_content_of key) c [] yes')
      | inr no' ↦ omega (arith, count-no (is_content_of key) c [] no')
    ]) (λ _. omega arith)

pub sequence_done : (key : MsgKey) (from : ℕ) (trace : List SlotNote) → 0 < count_by (is_content_of key) (clean_sequence from trace) → (q : ℕ) × Done trace q key
unfolding order_by
sequence_done key from [] h = absurd (omega (arith, h))
sequence_done key from (note ∷ before) h = elim (cases_lt 0 (count_by (is_content_of key) (clean_sequence from before))) [
  | inl some ↦ let rest = sequence_done key from before some in (suc rest.0, rest.1)
  | inr none ↦
      let now : List Content = if nat_le from note.slot then ordered_in (λ k. true) note note.frame else [] in
      let here : 0 < count_by (is_content_of key) now = omega (arith, h, none, count_append key (clean_sequence from before) now) in (
        0,
        cond_both (nat_le from note.slot) (ordered_in (λ k. true) note note.frame) [] (λ l. 0 < count_by (is_content_of key) l → carries_clean (tot_of_key key) note ≡ true)
            (λ _ k. slot_done key note note.frame refl k) (λ _ k. absurd (omega (arith, k))) here,
      )
]

sequence_once : (key : MsgKey) (from : ℕ) (trace : List SlotNote) → DataFirst trace → count_by (is_content_of key) (clean_sequence from trace) ≤ 1
unfolding order_by
sequence_once key from [] first = omega arith
sequence_once key from (note ∷ before) first =
    let now : List Content = if nat_le from note.slot then ordered_in (λ k. true) note note.frame else [] in
    let both = count_append key (clean_sequence from before) now in
    let rest = sequence_once key from before (λ p q m less c d. first (suc p) (suc q) m (omega (arith, less)) c d) in
    let one : count_by (is_content_of key) now ≤ 1 =
    cond_both (nat_le from note.slot) (ordered_in (λ k. true) note note.frame) [] (λ l. count_by (is_content_of key) l ≤ 1)
    (λ _. slot_once key note note.frame) (λ _. omega arith) in
    elim (cases_lt 0 (count_by (is_content_of key) now)) [
      | inr none ↦ omega (arith, both, rest, none)
      | inl here ↦ elim (cases_lt 0 (count_by (is_content_of key) (clean_sequence from before))) [
        | inr none ↦ omega (arith, both, one, none)
        | inl some ↦
            let older = sequence_done key from before some in
            let clean : carries_clean (tot_of_key key) note ≡ true =
            cond_both (nat_le from note.slot) (ordered_in (λ k. true) note note.frame) []
            (λ l. 0 < count_by (is_content_of key) l → carries_clean (tot_of_key key) note ≡ true)
            (λ _ k. slot_done key note note.frame refl k) (λ _ k. absurd (omega (arith, k))) here in
            absurd (first 0 (suc older.0) key (omega arith) (clean_carried (tot_of_key key) note clean) older.1)
      ]
    ]

-- ---- each incarnation

-- what a correct node has delivered
pub correct_part : (scenario : ScenarioParts) → IsLegalScenario scenario → (journal : List Step) → IsWithin scenario.params (run scenario journal).trace
    → (i : ℕ) → IsCorrect scenario (run scenario journal) i
    → IsSubsequence (tot_deliveries (log scenario (run scenario journal) i))
    (clean_sequence (node_at (run scenario journal).nodes i).present.from (run scenario journal).trace)
correct_part scenario legal journal within i correct =
    let s : RunState = run scenario journal in
    let from : ℕ = (node_at s.nodes i).present.from in
    let follows = ordered scenario journal (few_nodes scenario.params legal.in_range) legal.formulas legal.members within i correct in
    part_front (tot_deliveries (log scenario s i)) follows.rest (clean_sequence from s.trace)
    (subst (λ xs. IsSubsequence xs (clean_sequence from s.trace)) follows.prefix (part_test (is_accepted_by_some scenario s) from s.trace))

-- an element of a part stands in the whole
pub part_among : (c : Content) (xs ys : List Content) → IsSubsequence xs ys → Among (λ d. d ≡ c) xs → Among (λ d. d ≡ c) ys
part_among c [] ys h a = absurd a
part_among c (x ∷ xs) [] h a = absurd h
part_among c (x ∷ xs) (y ∷ ys) (inl h) (inl here) = inl (sym h.0 ∙ here)
part_among c (x ∷ xs) (y ∷ ys) (inl h) (inr there) = inr (part_among c xs ys h.1 there)
part_among c (x ∷ xs) (y ∷ ys) (inr h) a = inr (part_among c (x ∷ xs) ys h a)

pub one_sequence : (scenario : ScenarioParts) → IsLegalScenario scenario → (journal : List Step) → IsWithin scenario.params (run scenario journal).trace
    → HasOneSequence scenario (run scenario journal)
one_sequence scenario legal journal within = record {
  once = λ key.
      let kept = tot_kept scenario (few_nodes scenario.params legal.in_range) journal (within_silent scenario (run scenario journal).trace within) in
      sequence_once key 0 (run scenario journal).trace (λ p q m less c d. kept.trace.data_first p q m less c d);
  part = λ i e is.
      let l = lived scenario journal i e is in
      let older : RunState = run scenario l.front in
      let split = front_split scenario journal l.front l.rest l.whole in
      let from : ℕ = e.incarnation.from in
      let whole : IsSubsequence (tot_deliveries (log_as scenario (run scenario journal) i e)) (clean_sequence from older.trace) =
      subst (λ l'. IsSubsequence (tot_deliveries l') (clean_sequence from older.trace)) (sym (lived_log scenario journal i e l))
      (subst (λ (inc : Incarnation). IsSubsequence (tot_deliveries (log scenario older i)) (clean_sequence inc.from older.trace)) l.present
      (correct_part scenario legal l.front (within_front scenario journal l.front l.rest l.whole within) i (lived_correct scenario journal i e is.there l))) in
      let longer = sequence_longer from split.0 older.trace in
      subst (IsSubsequence (tot_deliveries (log_as scenario (run scenario journal) i e))) (sym (ap (clean_sequence from) split.1 ∙ longer.1))
      (part_more (tot_deliveries (log_as scenario (run scenario journal) i e)) (clean_sequence from older.trace) longer.0 whole);
}
