-- No entry of the account of a run is wrong.
use Rattle.std.proofs.Common.{◌≡◌, ℕ, ◌<◌, ◌≤◌, ◌==◌, ◌&&◌, ◌||◌, Bool, true, false, not, nat_lt, List, [], ◌∷◌, ◌++◌, length, map, refl, ap, sym, subst, ◌∙◌, arith, inl, inr, Contains}
use Rattle.std.specs.Prelude.{count_by, nat_le, if◌then◌else◌, option_map, Option, Some, None}
use Rattle.std.specs.List.{AllByRecursion, list_any}
use Rattle.std.specs.Option.{option_map_or, option_or}
use Rattle.std.proofs.lemmas.Bool.{and_from, cases_Bool, eq-eqb, false≢true, le-leb, le-ltb, lt-leb}
use Rattle.std.proofs.lemmas.List.{append_assoc}
use Rattle.std.proofs.lemmas.Slice.Eq.{bytes_eq-Decides}
use Rattle.std.specs.Str.{bytes_eq}
use Rattle.cany_base.specs.declared.log_entry.LogEntry.{LogEntry}
use Rattle.cany_base.specs.declared.log_entry.LogEntry.TheVariants.{Deliver, Failed, View}
use Rattle.cany_base.specs.declared.message.MsgKey.{MsgKey}
use Rattle.cany_base.specs.declared.message.Service.{Service}
use Rattle.cany_base.specs.declared.slot_note.SlotNote.{SlotNote}
use Rattle.cany_base.specs.declared.step.Step.{Step}
use Rattle.cany_base.specs.Cycles.{cycle_of}
use Rattle.cany_base.specs.Limits.{most_nodes}
use Rattle.cany_base.specs.Nodes.{has}
use Rattle.cany_base.specs.Scenario.{ScenarioParts}
use Rattle.cany_model.specs.Bus.Frames.{same_frame}
use Rattle.cany_model.specs.Bus.Slot.{carried}
use Rattle.cany_model.specs.Bus.State.{RunState}
use Rattle.cany_model.specs.Promises.Entries.{delivers_key}
use Rattle.cany_model.specs.Promises.Safe.{IsIntegral, IsSound, WasSent}
use Rattle.cany_model.specs.Promises.Settled.{IsCorrect}
use Rattle.cany_model.specs.Rules.Log.{log}
use Rattle.cany_model.specs.Rules.Messages.{Message, data_frame, is_service, message_key, messages_of}
use Rattle.cany_model.specs.Runs.Run.{run}
use Rattle.cany_model.proofs.Among.{Among, Among-append_right, Among-from_Contains, Among-map, Among-weaker, Contains-from_Among, any-from_Among, count-from_Among, count-grows, count-yes}
use Rattle.cany_model.proofs.Bus.Identities.{same_frame_self}
use Rattle.cany_model.proofs.Bus.Seen.{Numbered}
use Rattle.cany_model.proofs.Promises.Integrity.{integral}
use Rattle.cany_model.proofs.Promises.OwnSlotsAlone.{run_numbered}
use Rattle.cany_model.proofs.Runs.Runs.{orderly}
use Rattle.cany_check.specs.Accounts.Account.{AccountParts, LogParts, account_of, first_where, message_record, sends_data}
use Rattle.cany_check.specs.Deciding.Integrity.{first_wrong, first_wrong_of, is_wrong, was_sent_by_then, wrong_entry, wrong_in}
use Rattle.cany_check.specs.Accounts.Words.{correct, is_delivery, same_key}
use Rattle.cany_check.proofs.Deciding.CorrectLogs.{IsLogOfCorrect, each_correct, unread_fits}
use Rattle.cany_check.proofs.Deciding.Decided.{is_service-self, same_key-self}

-- ---- the first slot that passes a test

first_below : (test : SlotNote → Bool) (trace : List SlotNote) → Numbered trace → (slot : ℕ) → first_where test trace ≡ Some slot → slot < length trace
unfolding first_where
first_below test [] numbered slot h = absurd (cc)
first_below test (note ∷ before) numbered slot h = by_before (λ t e. first_below test before numbered.1 t e) (first_where test before) refl
  where
    now : (b : Bool) → (if b then Some note.slot else None) ≡ Some slot → note.slot ≡ slot
    now true e = cc
    now false e = absurd (cc)

    by_before : ((t : ℕ) → first_where test before ≡ Some t → t < length before) → (o : Option ℕ) → first_where test before ≡ o → slot < length (note ∷ before)
    by_before ih (Some t) e =
        let some : Some t ≡ Some slot = sym (ap (λ o. option_or o (if test note then Some note.slot else None)) e) ∙ h in
        let same : t ≡ slot = cc in
        omega (arith, ih t e, same)
    by_before ih None e =
        let same = now (test note) (sym (ap (λ o. option_or o (if test note then Some note.slot else None)) e) ∙ h) in
        omega (arith, same, numbered.0)

-- it is not after any that does
pub first_is_early : (test : SlotNote → Bool) (trace : List SlotNote) → Numbered trace → (note : SlotNote) → Among (λ n. n ≡ note) trace → test note ≡ true
    → (slot : ℕ) × (first_where test trace ≡ Some slot) × (slot ≤ note.slot)
unfolding first_where
first_is_early test [] numbered note h passes = absurd h
first_is_early test (newest ∷ before) numbered note (inr earlier) passes =
    let rest = first_is_early test before numbered.1 note earlier passes in
    (rest.0, ap (λ o. option_or o (if test newest then Some newest.slot else None)) rest.1, rest.2)
first_is_early test (newest ∷ before) numbered note (inl here) passes = by_before (first_where test before) refl
  where
    slot_is : newest.slot ≡ note.slot
    slot_is = ap (λ (n : SlotNote). n.slot) here

    passes_here : test newest ≡ true
    passes_here = ap test here ∙ passes

    by_before : (o : Option ℕ) → first_where test before ≡ o
        → (slot : ℕ) × (option_or (first_where test before) (if test newest then Some newest.slot else None) ≡ Some slot) × (slot ≤ note.slot)
    by_before (Some t) e =
        (t, ap (λ o. option_or o (if test newest then Some newest.slot else None)) e, omega (arith, first_below test before numbered.1 t e, numbered.0, slot_is))
    by_before None e =
        (newest.slot, ap (λ o. option_or o (if test newest then Some newest.slot else None)) e ∙ rw passes_here refl, omega (arith, slot_is))

-- ---- one entry

module _ (scenario : ScenarioParts) (journal : List Step) (few : scenario.params.nodes ≤ most_nodes) where
  abbrev s : RunState
  s = run scenario journal

  abbrev a : AccountParts
  a = account_of scenario s

  numbered : Numbered s.trace
  numbered = run_numbered scenario.params.nodes s (orderly scenario journal)

  whole : IsIntegral scenario s
  whole = integral scenario journal few

  -- the message that an entry delivers was sent by then
  sent_message : (m : Message) (slot : ℕ) → WasSent s.trace m slot → option_map_or (λ t. nat_le t slot) (message_record scenario s m).sent false ≡ true
  sent_message m slot sent =
      let carries : carried (same_frame (data_frame m)) sent.note ≡ true = ap (λ o. option_map_or (same_frame (data_frame m)) o false) sent.frame ∙ same_frame_self (data_frame m) in
      let passes : sends_data m sent.note ≡ true = and_from (carried (same_frame (data_frame m)) sent.note) (has sent.note.senders m.origin) carries sent.sender in
      let first = first_is_early (sends_data m) s.trace numbered sent.note (Among-from_Contains s.trace sent.note sent.stands) passes in
      ap (λ o. option_map_or (λ t. nat_le t slot) o false) first.1 ∙ le-leb first.0 slot (omega (arith, first.2, sent.by_then))

  has_message : (slot : ℕ) (by : Service) (msg : MsgKey) (payload : List ℕ) → IsSound scenario s (Deliver slot by msg payload)
      → list_any (was_sent_by_then (Deliver slot by msg payload)) a.messages ≡ true
  unfolding account_of
  has_message slot by msg payload sound =
      let entry : LogEntry = Deliver slot by msg payload in
      let m : Message = sound.0 in
      let same : is_delivery (message_record scenario s m) entry ≡ true =
      and_from (same_key (message_key m) msg && is_service m.service by) (bytes_eq m.payload payload)
      (and_from (same_key (message_key m) msg) (is_service m.service by) (same_key-self (message_key m) msg sound.2)
      (subst (λ x. is_service m.service x ≡ true) sound.3 (is_service-self m.service)))
      ((bytes_eq-Decides m.payload payload).1 sound.4) in
      any-from_Among (was_sent_by_then entry) (map (message_record scenario s) (messages_of scenario.sends))
      (Among-map (message_record scenario s) (λ x. was_sent_by_then entry x ≡ true) (messages_of scenario.sends)
      (Among-weaker (λ x. x ≡ m) (λ x. was_sent_by_then entry (message_record scenario s x) ≡ true)
      (λ x e. ap (λ y. was_sent_by_then entry (message_record scenario s y)) e
      ∙ and_from (is_delivery (message_record scenario s m) entry) (option_map_or (λ t. nat_le t slot) (message_record scenario s m).sent false) same (sent_message m slot sound.5))
      (messages_of scenario.sends) (Among-from_Contains (messages_of scenario.sends) m sound.1)))

  -- an entry that comes after one that passes is one more
  two_pass : (p : LogEntry → Bool) (entry : LogEntry) (earlier rest : List LogEntry) → list_any p earlier ≡ true → p entry ≡ true → 1 < count_by p (earlier ++ entry ∷ rest)
  two_pass p entry [] rest some passes = absurd (false≢true some)
  two_pass p entry (x ∷ earlier) rest some passes = elim (cases_Bool (p x)) [
    | inl here ↦
        let later : 0 < count_by p (earlier ++ entry ∷ rest) =
        count-from_Among p (earlier ++ entry ∷ rest) (Among-append_right (λ y. p y ≡ true) earlier (entry ∷ rest) (inl passes)) in
        omega (arith, count-yes p x (earlier ++ entry ∷ rest) here, later)
    | inr other ↦ omega (arith, count-grows p x (earlier ++ entry ∷ rest), two_pass p entry earlier rest (rw other at some) passes)
  ]

  failure : (slot node cycle : ℕ) → (node < scenario.params.nodes) × (cycle ≤ cycle_of scenario.params slot)
      → (nat_le a.params.nodes node || nat_lt (cycle_of a.params slot) cycle) ≡ false
  unfolding account_of
  failure slot node cycle h = rw (lt-leb scenario.params.nodes node h.0, le-ltb (cycle_of scenario.params slot) cycle h.1) refl

  view : (slot number : ℕ) → number ≡ cycle_of scenario.params slot → not (number == cycle_of a.params slot) ≡ false
  unfolding account_of
  view slot number h = ap not (eq-eqb number (cycle_of scenario.params slot) h)

  module _ (i : ℕ) (c : IsCorrect scenario s i) where
    not_wrong : (earlier : List LogEntry) (entry : LogEntry) (rest : List LogEntry) → log scenario s i ≡ earlier ++ entry ∷ rest → IsSound scenario s entry
        → is_wrong a earlier entry ≡ false
    not_wrong earlier (Deliver slot by msg payload) rest is sound =
        let entry : LogEntry = Deliver slot by msg payload in
        let first : list_any (delivers_key msg) earlier ≡ false = elim (cases_Bool (list_any (delivers_key msg) earlier)) [
          | inl some ↦
              let once : count_by (delivers_key msg) (earlier ++ entry ∷ rest) ≤ 1 = subst (λ l. count_by (delivers_key msg) l ≤ 1) is (whole.once i c msg) in
              absurd (omega (arith, once, two_pass (delivers_key msg) entry earlier rest some (same_key-self msg msg refl)))
          | inr none ↦ none
        ] in
        rw (first, has_message slot by msg payload sound) refl
    not_wrong earlier (Failed slot node cycle) rest is sound = failure slot node cycle sound
    not_wrong earlier (View slot number members) rest is sound = view slot number sound

    none_wrong : (earlier entries : List LogEntry) → log scenario s i ≡ earlier ++ entries → first_wrong a earlier entries ≡ None
    unfolding first_wrong
    none_wrong earlier [] is = refl
    none_wrong earlier (entry ∷ entries) is =
        let stands : Contains (log scenario s i) entry =
        subst (λ l. Contains l entry) (sym is) (Contains-from_Among (earlier ++ entry ∷ entries) entry (Among-append_right (λ y. y ≡ entry) earlier (entry ∷ entries) (inl refl))) in
        rw (not_wrong earlier entry entries is (whole.sent i c entry stands)) (none_wrong (earlier ++ entry ∷ []) entries (is ∙ sym (append_assoc earlier (entry ∷ []) entries)))

  of_logs : (logs : List LogParts) → AllByRecursion (IsLogOfCorrect scenario s (unread_fits scenario journal)) logs → first_wrong_of a logs ≡ None
  unfolding first_wrong_of
  of_logs [] h = refl
  of_logs (x ∷ logs) h =
      let none : first_wrong a [] x.entries ≡ None =
      ap (λ (y : LogParts). first_wrong a [] y.entries) h.0.2 ∙ none_wrong h.0.0 h.0.1 [] (log scenario s h.0.0) refl in
      let here : wrong_in a x ≡ None = ap (λ o. option_map (λ place. record { node = x.node; place = place }) o) none in
      ap (λ o. option_or o (first_wrong_of a logs)) here ∙ of_logs logs h.1

  pub nothing_wrong : wrong_entry a ≡ None
  nothing_wrong = of_logs (correct a) (each_correct scenario s (unread_fits scenario journal))
