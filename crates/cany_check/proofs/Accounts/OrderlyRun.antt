-- The account of a run is in order.
use Rattle.std.proofs.Common.{◌≡◌, ℕ, zero, suc, ◌+◌, ◌<◌, ◌≤◌, ◌&&◌, Bool, true, false, List, [], ◌∷◌, ◌++◌, length, map, refl, ap, ◌∙◌, arith, All}
use Rattle.std.specs.Prelude.{if◌then◌else◌, Option, Some, None, AllPairs}
use Rattle.std.specs.List.{AllByRecursion, flat_map, range_with_len}
use Rattle.std.specs.Option.{option_or}
use Rattle.std.proofs.lemmas.Bool.{ne_eqb}
use Rattle.std.proofs.lemmas.List.{length-map}
use Rattle.std.proofs.lemmas.List.Elements.{All-from_recursion, All-head, All-tail}
use Rattle.std.proofs.lemmas.List.Kept.{AllPairs-cons}
use Rattle.cany_base.specs.declared.message.SendAsk.{SendAsk}
use Rattle.cany_base.specs.declared.slot_note.SlotNote.{SlotNote}
use Rattle.cany_base.specs.declared.step.Step.{Step}
use Rattle.cany_base.specs.Limits.{most_slots}
use Rattle.cany_base.specs.Params.{Parameters}
use Rattle.cany_base.specs.Scenario.{IsLegalScenario, IsSendOf, ScenarioParts}
use Rattle.cany_base.proofs.ParamsFacts.{few_nodes, few_slots}
use Rattle.cany_model.specs.Bus.Frames.{Identity, is_of}
use Rattle.cany_model.specs.Bus.Slot.{carried}
use Rattle.cany_model.specs.Bus.State.{RunState, node_at, runs}
use Rattle.cany_model.specs.Promises.FirstSlots.{first_carried}
use Rattle.cany_model.specs.Rules.Knowledge.{FailureSign, fda_of}
use Rattle.cany_model.specs.Rules.Messages.{Message, data_id, messages_after, messages_of}
use Rattle.cany_model.specs.Runs.Run.{run}
use Rattle.cany_model.proofs.Among.{Each-flat_map, Each-map, Each-weaker}
use Rattle.cany_model.proofs.Bus.Seen.{Numbered}
use Rattle.cany_model.proofs.Promises.OwnSlotsAlone.{run_numbered}
use Rattle.cany_model.proofs.Rules.Services.MessageKeys.{length-messages_of}
use Rattle.cany_model.proofs.Runs.Journals.{trace_short}
use Rattle.cany_model.proofs.Runs.Runs.{orderly}
use Rattle.cany_check.specs.declared.account.record.SignRecord.{SignRecord}
use Rattle.cany_check.specs.Accounts.Account.{LogParts, account_of, first_and_last, first_where, last_carried, log_record, logs_of, logs_of_node, message_record, sends_data, sign_record, signs_told, slots_of}
use Rattle.cany_check.specs.Accounts.Orderly.{AreSmallSlots, IsLogIn, IsMessageIn, IsOrderly, IsSmallSlot, most_slot, sign_named}
use Rattle.cany_check.specs.Accounts.Words.{entry_slot}
use Rattle.cany_check.proofs.Accounts.NumberedFacts.{are_numbered}
use Rattle.cany_check.proofs.Accounts.StartFacts.{entries_early, from_early}

-- ---- slots of the trace

abbrev AreSmallNotes : List SlotNote → Type 0
AreSmallNotes trace = AllByRecursion (λ (note : SlotNote). note.slot < most_slot) trace

small_notes : (trace : List SlotNote) → Numbered trace → length trace ≤ most_slots → AreSmallNotes trace
small_notes [] numbered short = tt
small_notes (note ∷ before) numbered short = (omega (arith, numbered.0, short), small_notes before numbered.1 (omega (arith, short)))

small_or : (o : Option ℕ) (b : Bool) (slot : ℕ) → IsSmallSlot o → slot < most_slot → IsSmallSlot (option_or o (if b then Some slot else None))
small_or (Some first) b slot h small = h
small_or None true slot h small = small
small_or None false slot h small = tt

small_if : (o : Option ℕ) (b : Bool) (slot : ℕ) → IsSmallSlot o → slot < most_slot → IsSmallSlot (if b then Some slot else o)
small_if o true slot h small = small
small_if o false slot h small = h

small_where : (test : SlotNote → Bool) (trace : List SlotNote) → AreSmallNotes trace → IsSmallSlot (first_where test trace)
unfolding first_where
small_where test [] h = tt
small_where test (note ∷ before) h = small_or (first_where test before) (test note) note.slot (small_where test before h.1) h.0

small_first : (x : Identity) (trace : List SlotNote) → AreSmallNotes trace → IsSmallSlot (first_carried x trace)
unfolding first_carried
small_first x [] h = tt
small_first x (note ∷ before) h = small_or (first_carried x before) (carried (is_of x) note) note.slot (small_first x before h.1) h.0

small_last : (x : Identity) (trace : List SlotNote) → AreSmallNotes trace → IsSmallSlot (last_carried x trace)
unfolding last_carried
small_last x [] h = tt
small_last x (note ∷ before) h = small_if (last_carried x before) (carried (is_of x) note) note.slot (small_last x before h.1) h.0

small_both : (first last : Option ℕ) → IsSmallSlot first → IsSmallSlot last → AreSmallSlots (first_and_last first last)
small_both (Some first) (Some last) a b = (a, b)
small_both (Some first) None a b = tt
small_both None last a b = tt

small_slots : (x : Identity) (trace : List SlotNote) → AreSmallNotes trace → AreSmallSlots (slots_of x trace)
small_slots x trace h = small_both (first_carried x trace) (last_carried x trace) (small_first x trace h) (small_last x trace h)

-- ---- ranges

each_within : (P : ℕ → Type 0) (a n : ℕ) → ((i : ℕ) → a ≤ i → i < a + n → P i) → AllByRecursion P (range_with_len a n)
each_within P a zero h = tt
each_within P a (suc n) h = (h a (omega arith) (omega arith), each_within P (a + 1) n (λ i above below. h i (omega (arith, above)) (omega (arith, below))))

-- ---- messages

-- the message is that of a scripted send in the run
record IsOfSend (p : Parameters) (m : Message) : Type 0 where
  slot : m.slot < p.slots
  origin : m.origin < p.nodes

of_sends : (p : Parameters) (earlier sends : List SendAsk) → All (IsSendOf p) sends → AllByRecursion (IsOfSend p) (messages_after earlier sends)
unfolding messages_after
of_sends p earlier [] h = tt
of_sends p earlier (send ∷ sends) h =
    let here = All-head (IsSendOf p) send sends h in
    (record { slot = here.0; origin = here.1 }, of_sends p (send ∷ earlier) sends (All-tail (IsSendOf p) send sends h))

-- ---- logs

-- a log before another: of the same node only the later one runs
abbrev pub StandBefore : LogParts → LogParts → Type 0
StandBefore x y = (x.node ≤ y.node) × (x.node ≡ y.node → x.runs ≡ false)

-- of each two, as a recursion has it
abbrev EachBefore : List LogParts → Type 0
EachBefore [] = Unit {0}
EachBefore (x ∷ xs) = AllByRecursion (StandBefore x) xs × EachBefore xs

each_append : (xs ys : List LogParts) → EachBefore xs → EachBefore ys → AllByRecursion (λ x. AllByRecursion (StandBefore x) ys) xs → EachBefore (xs ++ ys)
each_append [] ys a b h = b
each_append (x ∷ xs) ys a b h = (both (StandBefore x) xs ys a.0 h.0, each_append xs ys a.1 b h.1)
  where
    both : (P : LogParts → Type 0) (us vs : List LogParts) → AllByRecursion P us → AllByRecursion P vs → AllByRecursion P (us ++ vs)
    both P [] vs p q = q
    both P (u ∷ us) vs p q = (p.0, both P us vs p.1 q)

module _ (scenario : ScenarioParts) (s : RunState) where
  earlier_stopped : (i number : ℕ) → number < (node_at s.nodes i).present.number → (log_record scenario s i number).runs ≡ false
  earlier_stopped i number below =
      ap (λ b. runs (node_at s.nodes i) && b) (ne_eqb number (node_at s.nodes i).present.number (λ e. absurd (omega (arith, e, below)))) ∙ and_no (runs (node_at s.nodes i))
    where
      and_no : (b : Bool) → (b && false) ≡ false
      and_no true = refl
      and_no false = refl

  of_node : (i a n : ℕ) → a + n ≤ (node_at s.nodes i).present.number + 1 → EachBefore (map (log_record scenario s i) (range_with_len a n))
  of_node i a zero h = tt
  of_node i a (suc n) h = (
    Each-map (log_record scenario s i) (StandBefore (log_record scenario s i a)) (range_with_len (a + 1) n)
        (each_within (λ number. StandBefore (log_record scenario s i a) (log_record scenario s i number)) (a + 1) n
        (λ number above below. (omega arith, λ same. earlier_stopped i a (omega (arith, above, below, h))))),
    of_node i (a + 1) n (omega (arith, h)),
  )

  -- the logs of a node come before those of a later one
  of_later : (i j : ℕ) → i < j → AllByRecursion (λ x. AllByRecursion (StandBefore x) (logs_of_node scenario s j)) (logs_of_node scenario s i)
  of_later i j later =
      Each-map (log_record scenario s i) (λ x. AllByRecursion (StandBefore x) (logs_of_node scenario s j)) (range_with_len 0 ((node_at s.nodes i).present.number + 1))
      (each_within (λ m. AllByRecursion (StandBefore (log_record scenario s i m)) (logs_of_node scenario s j)) 0 ((node_at s.nodes i).present.number + 1)
      (λ m above below.
      Each-map (log_record scenario s j) (StandBefore (log_record scenario s i m)) (range_with_len 0 ((node_at s.nodes j).present.number + 1))
      (each_within (λ n. StandBefore (log_record scenario s i m) (log_record scenario s j n)) 0 ((node_at s.nodes j).present.number + 1)
      (λ n above' below'. (omega (arith, later), λ same. absurd (omega (arith, same, later)))))))

  of_nodes : (a n : ℕ) → EachBefore (flat_map (logs_of_node scenario s) (range_with_len a n))
  of_nodes a zero = tt
  of_nodes a (suc n) =
      each_append (logs_of_node scenario s a) (flat_map (logs_of_node scenario s) (range_with_len (a + 1) n))
      (of_node a 0 ((node_at s.nodes a).present.number + 1) (omega arith)) (of_nodes (a + 1) n)
      (all_later (logs_of_node scenario s a) (range_with_len (a + 1) n)
      (each_within (λ j. AllByRecursion (λ x. AllByRecursion (StandBefore x) (logs_of_node scenario s j)) (logs_of_node scenario s a)) (a + 1) n
      (λ j above below. of_later a j (omega (arith, above)))))
    where
      all_later : (xs : List LogParts) (js : List ℕ) → AllByRecursion (λ j. AllByRecursion (λ x. AllByRecursion (StandBefore x) (logs_of_node scenario s j)) xs) js
          → AllByRecursion (λ x. AllByRecursion (StandBefore x) (flat_map (logs_of_node scenario s) js)) xs
      all_later [] js h = tt
      all_later (x ∷ xs) js h =
          (Each-flat_map (logs_of_node scenario s) (StandBefore x) js (firsts js h), all_later xs js (rests js h))
        where
          firsts : (ks : List ℕ) → AllByRecursion (λ j. AllByRecursion (λ y. AllByRecursion (StandBefore y) (logs_of_node scenario s j)) (x ∷ xs)) ks
              → AllByRecursion (λ j. AllByRecursion (StandBefore x) (logs_of_node scenario s j)) ks
          firsts [] k = tt
          firsts (j ∷ ks) k = (k.0.0, firsts ks k.1)

          rests : (ks : List ℕ) → AllByRecursion (λ j. AllByRecursion (λ y. AllByRecursion (StandBefore y) (logs_of_node scenario s j)) (x ∷ xs)) ks
              → AllByRecursion (λ j. AllByRecursion (λ y. AllByRecursion (StandBefore y) (logs_of_node scenario s j)) xs) ks
          rests [] k = tt
          rests (j ∷ ks) k = (k.0.1, rests ks k.1)

as_pairs : (R : LogParts → LogParts → Type 0) → ((x y : LogParts) → StandBefore x y → R x y) → (xs : List LogParts) → EachBefore xs → AllPairs R xs
as_pairs R gives [] h = no_pairs
  where
    no_pairs : AllPairs R []
    no_pairs i j d first within = absurd (omega (arith, within))
as_pairs R gives (x ∷ xs) h =
    AllPairs-cons R x xs (All-from_recursion (R x) xs (Each-weaker (StandBefore x) (R x) (gives x) xs h.0)) (as_pairs R gives xs h.1)

-- ---- signs

names_told : (s : RunState) (told : List FailureSign) → map sign_named (map (sign_record s) told) ≡ told
names_told s [] = refl
names_told s (sign ∷ told) = ap (λ l. sign ∷ l) (names_told s told)

-- ---- the account

module _ (scenario : ScenarioParts) (journal : List Step) (legal : IsLegalScenario scenario) where
  abbrev s : RunState
  s = run scenario journal

  short : length s.trace ≤ most_slots
  short = omega (arith, trace_short scenario journal, few_slots scenario.params legal.in_range)

  small : AreSmallNotes s.trace
  small = small_notes s.trace (run_numbered scenario.params.nodes s (orderly scenario journal)) short

  message_in : (m : Message) → IsOfSend scenario.params m → IsMessageIn (account_of scenario s) (message_record scenario s m)
  unfolding account_of
  message_in m h = record {
    origin = h.origin;
    slot = omega (arith, h.slot, few_slots scenario.params legal.in_range);
    sent = small_where (sends_data m) s.trace small;
    carried = small_slots (data_id m) s.trace small;
  }

  log_in : (i number : ℕ) → i < scenario.params.nodes → IsLogIn (account_of scenario s) (log_record scenario s i number)
  unfolding account_of
  log_in i number below = record {
    node = below;
    from = omega (arith, from_early scenario journal i number, short, legal.in_range.bound.1, legal.in_range.lag);
    slots = All-from_recursion (λ entry. entry_slot entry < most_slot) (log_record scenario s i number).entries
        (Each-weaker (λ entry. entry_slot entry < length s.trace) (λ entry. entry_slot entry < most_slot) (λ entry h. omega (arith, h, short))
        (log_record scenario s i number).entries (entries_early scenario s i number));
  }

  logs_in : AllByRecursion (IsLogIn (account_of scenario s)) (logs_of scenario s)
  logs_in =
      Each-flat_map (logs_of_node scenario s) (IsLogIn (account_of scenario s)) (range_with_len 0 scenario.params.nodes)
      (each_within (λ i. AllByRecursion (IsLogIn (account_of scenario s)) (logs_of_node scenario s i)) 0 scenario.params.nodes
      (λ i above below. Each-map (log_record scenario s i) (IsLogIn (account_of scenario s)) (range_with_len 0 ((node_at s.nodes i).present.number + 1))
      (each_within (λ number. IsLogIn (account_of scenario s) (log_record scenario s i number)) 0 ((node_at s.nodes i).present.number + 1)
      (λ number above' below'. log_in i number (omega (arith, below))))))

  carried_small : (told : List FailureSign) → AllByRecursion (λ (r : SignRecord). AreSmallSlots r.carried) (map (sign_record s) told)
  carried_small [] = tt
  carried_small (sign ∷ told) = (small_slots (fda_of sign) s.trace small, carried_small told)

  pub orderly_run : IsOrderly (account_of scenario s)
  unfolding account_of
  orderly_run = record {
    few_nodes = few_nodes scenario.params legal.in_range;
    few = omega (arith, length-map (messages_of scenario.sends) (message_record scenario s), length-messages_of scenario.sends, legal.few_sends);
    numbered = are_numbered (message_record scenario s) (λ m. refl) scenario.sends;
    messages = All-from_recursion (IsMessageIn (account_of scenario s)) (map (message_record scenario s) (messages_of scenario.sends))
        (Each-map (message_record scenario s) (IsMessageIn (account_of scenario s)) (messages_of scenario.sends)
        (Each-weaker (IsOfSend scenario.params) (λ m. IsMessageIn (account_of scenario s) (message_record scenario s m)) message_in (messages_of scenario.sends)
        (of_sends scenario.params [] scenario.sends legal.sends)));
    logs = All-from_recursion (IsLogIn (account_of scenario s)) (logs_of scenario s) logs_in;
    ascending = as_pairs (λ x y. x.node ≤ y.node) (λ x y h. h.0) (logs_of scenario s) (of_nodes scenario s 0 scenario.params.nodes);
    last_runs = as_pairs (λ x y. x.node ≡ y.node → x.runs ≡ false) (λ x y h. h.1) (logs_of scenario s) (of_nodes scenario s 0 scenario.params.nodes);
    signs = names_told s (signs_told (logs_of scenario s));
    carried = All-from_recursion (λ (r : SignRecord). AreSmallSlots r.carried) (map (sign_record s) (signs_told (logs_of scenario s))) (carried_small (signs_told (logs_of scenario s)));
  }
