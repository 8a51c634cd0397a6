-- Few frames that accept messages, and few data frames of TOTCAN, in a window of bound + lag slots:
-- two for each pair of an origin and a node that accepts, and one of each origin.
use Rattle.std.proofs.Common.{◌≡◌, ℕ, ◌+◌, ◌*◌, ◌<◌, ◌≤◌, ◌⊎◌, ◌&&◌, ◌==◌, inl, inr, Bool, true, false, List, Some, count_by, drop, take, refl, ap, sym, ◌∙◌, subst, arith}
use Rattle.std.proofs.lemmas.Bool.{and_from, and_parts, cases_order, eq-eqb, eqb-true, false≢true}
use Rattle.std.proofs.lemmas.List.Elements.{recursion_from_All}
use Rattle.cany_base.specs.declared.class.Class.{Class}
use Rattle.cany_base.specs.declared.class.Class.TheVariants as class
use Rattle.cany_base.specs.declared.message.MsgKey.{MsgKey}
use Rattle.cany_base.specs.declared.notice.NoticeKind.{NoticeKind}
use Rattle.cany_base.specs.declared.notice.NoticeKind.TheVariants.{Idle, Got, Sent, Bad}
use Rattle.cany_base.specs.declared.slot_note.SlotNote.{SlotNote}
use Rattle.cany_base.specs.declared.step.Step.{Step}
use Rattle.cany_base.specs.Frame.{FrameParts}
use Rattle.cany_base.specs.Limits.{most_nodes}
use Rattle.cany_base.specs.Scenario.{ScenarioParts}
use Rattle.cany_model.specs.Bus.Frames.{Identity, identity_of, same_class}
use Rattle.cany_model.specs.Bus.History.{given}
use Rattle.cany_model.specs.Runs.Run.{run}
use Rattle.cany_model.specs.Bus.Slot.{carried, is_clean}
use Rattle.cany_model.specs.Promises.Hypothesis.{IsWithin, is_silent_slot}
use Rattle.cany_model.specs.Promises.Windows.{HasFewAccepts, HasFewTotFrames, is_clean_of}
use Rattle.cany_model.specs.Rules.Messages.{accept_of_key}
use Rattle.cany_model.specs.Rules.Totcan.{tot_of_key}
use Rattle.cany_model.proofs.Bus.Carried.{carried_frame, is_carried, is_sent-from, is_sent-true}
use Rattle.cany_model.proofs.Bus.Identities.{same_class-true, same_class_self}
use Rattle.cany_model.proofs.Bus.Notes.{given_idle}
use Rattle.cany_model.proofs.Bus.States.{no_note, note_at}
use Rattle.cany_model.proofs.Timed.Common.Ages.{Carried, Clean, Done, Sends, carries, clean_carried, gave}
use Rattle.cany_model.proofs.Timed.Common.Counting.{Passes, at_most_1, at_most_2, cover_window, window_at}
use Rattle.cany_model.proofs.Timed.Order.TotKept.{NoSilent, TraceKept}
use Rattle.cany_model.proofs.Timed.Order.TotRun.{tot_kept}
use Rattle.cany_model.proofs.Timed.Order.TotSlots.{carries-from, carries-true, sent_carried}
use Rattle.cany_model.proofs.Timed.Order.TotTurn.{tot_one}

-- ---- tests

-- the slot carried Clean a frame of this class for a message of the origin
abbrev pub is_clean_from : Class → ℕ → SlotNote → Bool
is_clean_from c origin note = carried (λ f. same_class f.class c && f.node == origin) note && is_clean note.verdict

-- the notice is that the node sent a frame that accepts a message of the origin
abbrev sends_accept : ℕ → NoticeKind → Bool
sends_accept origin Idle = false
sends_accept origin Bad = false
sends_accept origin (Got f) = false
sends_accept origin (Sent f) = same_class f.class class.Accept && f.node == origin

abbrev by_pair : ℕ → ℕ → SlotNote → Bool
by_pair origin i note = sends_accept origin (given i note)

-- the message that this frame carries or accepts, where its origin is known
pub message_at : ℕ → FrameParts → MsgKey
message_at origin f = record { origin = origin; seq = f.number }

accept_is : (f : FrameParts) (origin : ℕ) → same_class f.class class.Accept ≡ true → f.node ≡ origin
    → accept_of_key (message_at origin f) ≡ identity_of f
unfolding message_at
accept_is f origin c n = λ k. record { class = sym (same_class-true f.class class.Accept c) k; number = f.number; node = sym n k }

tot_is : (f : FrameParts) (origin : ℕ) → same_class f.class class.Tot ≡ true → f.node ≡ origin → tot_of_key (message_at origin f) ≡ identity_of f
unfolding message_at
tot_is f origin c n = λ k. record { class = sym (same_class-true f.class class.Tot c) k; number = f.number; node = sym n k }

-- a slot carries one message
pub one_message : (T : List SlotNote) (a : ℕ) (m k : MsgKey) → Done T a m → Done T a k → m ≡ k
one_message T a m k x y =
    let c = carries-true (tot_of_key m) (note_at T a) (clean_carried (tot_of_key m) (note_at T a) x) in
    let d = carries-true (tot_of_key k) (note_at T a) (clean_carried (tot_of_key k) (note_at T a) y) in
    let some : Some c.what ≡ Some d.what = sym c.frame ∙ d.frame in
    let same : c.what ≡ d.what = cc in
    tot_one m k (c.identity ∙ ap identity_of same ∙ sym d.identity)

-- three slots of a window, and for each one that comes before it by no more than the window: these
-- cannot all lie further apart than that
spread : (w x y z a b c : ℕ) → x < a → a ≤ x + w → y < b → b ≤ y + w → z < c → c ≤ z + w → x < y → y < z → z < x + w
    → (a + w < b) ⊎ (b + w < a) → (b + w < c) ⊎ (c + w < b) → (a + w < c) ⊎ (c + w < a) → ⊥
spread w x y z a b c xa ax yb by zc cz xy yz zx (inl p) (inl q) r = omega (arith, xa, ax, yb, by, zc, cz, xy, yz, zx, p, q)
spread w x y z a b c xa ax yb by zc cz xy yz zx (inr p) (inr q) r = omega (arith, xa, ax, yb, by, zc, cz, xy, yz, zx, p, q)
spread w x y z a b c xa ax yb by zc cz xy yz zx (inl p) (inr q) (inl r) = omega (arith, xa, ax, yb, by, zc, cz, xy, yz, zx, p, q, r)
spread w x y z a b c xa ax yb by zc cz xy yz zx (inl p) (inr q) (inr r) = omega (arith, xa, ax, yb, by, zc, cz, xy, yz, zx, p, q, r)
spread w x y z a b c xa ax yb by zc cz xy yz zx (inr p) (inl q) (inl r) = omega (arith, xa, ax, yb, by, zc, cz, xy, yz, zx, p, q, r)
spread w x y z a b c xa ax yb by zc cz xy yz zx (inr p) (inl q) (inr r) = omega (arith, xa, ax, yb, by, zc, cz, xy, yz, zx, p, q, r)

module _ (scenario : ScenarioParts) (T : List SlotNote) (t : TraceKept scenario T) where
  abbrev window : ℕ
  window = scenario.params.bound + scenario.params.lag

  -- ---- frames that accept

  -- node i sent one at this age, and when the data frame of its message was carried Clean
  record PairSend (origin i p : ℕ) : Type 0 where
    m : MsgKey
    from : m.origin ≡ origin
    sends : Sends i T p (accept_of_key m)
    done : ℕ
    is_done : Done T done m
    after : p < done
    by_then : done ≤ p + window

  pair_send : (origin i p : ℕ) → Passes (by_pair origin i) T p → PairSend origin i p
  unfolding message_at
  pair_send origin i p h = by_notice (gave i T p) refl
    where
      by_notice : (e : NoticeKind) → gave i T p ≡ e → PairSend origin i p
      by_notice Idle q = absurd (false≢true (sym (ap (sends_accept origin) q) ∙ h))
      by_notice Bad q = absurd (false≢true (sym (ap (sends_accept origin) q) ∙ h))
      by_notice (Got f) q = absurd (false≢true (sym (ap (sends_accept origin) q) ∙ h))
      by_notice (Sent f) q =
          let parts = and_parts (same_class f.class class.Accept) (f.node == origin) (sym (ap (sends_accept origin) q) ∙ h) in
          let n : f.node ≡ origin = eqb-true f.node origin parts.1 in
          let m : MsgKey = message_at origin f in
          let sends : Sends i T p (accept_of_key m) = is_sent-from (accept_of_key m) f (gave i T p) q (accept_is f origin parts.0 n) in
          let a = t.accept_after p m (sent_carried (accept_of_key m) i (note_at T p) sends).0 in
          record { m = m; from = refl; sends = sends; done = a.0; is_done = a.3; after = a.1; by_then = a.2 }

  pair_apart : (origin i p q : ℕ) → p < q → (a : PairSend origin i p) → (b : PairSend origin i q)
      → (a.done + window < b.done) ⊎ (b.done + window < a.done)
  pair_apart origin i p q l a b = elim (cases_order a.done b.done) [
    | inl same ↦
        let one : a.m ≡ b.m = one_message T a.done a.m b.m a.is_done (subst (λ x. Done T x b.m) (sym same) b.is_done) in
        absurd (t.sent_once i p q a.m l a.sends (subst (λ (k : MsgKey). Sends i T q (accept_of_key k)) (sym one) b.sends))
    | inr (inl less) ↦ inl (t.spaced a.done b.done a.m b.m less a.is_done b.is_done (a.from ∙ sym b.from))
    | inr (inr more) ↦ inr (t.spaced b.done a.done b.m a.m more b.is_done a.is_done (b.from ∙ sym a.from))
  ]

  two_of_pair : (origin i d : ℕ) → count_by (by_pair origin i) (take window (drop d T)) ≤ 2
  two_of_pair origin i d = at_most_2 (by_pair origin i) (take window (drop d T)) (λ p q r l k a b c.
      let x = window_at (by_pair origin i) idle window d p T a in
      let y = window_at (by_pair origin i) idle window d q T b in
      let z = window_at (by_pair origin i) idle window d r T c in
      let xs = pair_send origin i x.0 x.3 in
      let ys = pair_send origin i y.0 y.3 in
      let zs = pair_send origin i z.0 z.3 in
      let first : x.0 < y.0 = omega (arith, x.1, y.1, l) in
      let second : y.0 < z.0 = omega (arith, y.1, z.1, k) in
      let xy = pair_apart origin i x.0 y.0 first xs ys in
      let yz = pair_apart origin i y.0 z.0 second ys zs in
      let xz = pair_apart origin i x.0 z.0 (omega (arith, first, second)) xs zs in
      let near : z.0 < x.0 + window = omega (arith, x.1, z.1, z.2) in
      spread window x.0 y.0 z.0 xs.done ys.done zs.done xs.after xs.by_then ys.after ys.by_then zs.after zs.by_then first second near xy yz xz)
    where
      idle : by_pair origin i no_note ≡ false
      idle = ap (sends_accept origin) (given_idle i no_note refl)

  of_origin : (p : ℕ) → Passes (is_clean_of class.Accept) T p → (o : ℕ) × (o < scenario.params.nodes) × Passes (is_clean_from class.Accept o) T p
  unfolding message_at
  of_origin p h =
      let parts = and_parts (carried (λ f. same_class f.class class.Accept) (note_at T p)) (is_clean (note_at T p).verdict) h in
      let f = carried_frame (λ f. same_class f.class class.Accept) (note_at T p) parts.0 in
      let m : MsgKey = message_at f.what.node f.what in
      let c : Carried T p (accept_of_key m) = carries-from (accept_of_key m) (note_at T p) f.what f.frame (accept_is f.what f.what.node f.passes refl) in
      let a = t.accept_after p m c in
      let passes = is_carried (λ g. same_class g.class class.Accept && g.node == f.what.node) (note_at T p) f.what f.frame
      (and_from (same_class f.what.class class.Accept) (f.what.node == f.what.node) f.passes (eq-eqb f.what.node f.what.node refl)) in (
        f.what.node,
        t.origin_there a.0 m a.3,
        and_from (carried (λ g. same_class g.class class.Accept && g.node == f.what.node) (note_at T p)) (is_clean (note_at T p).verdict) passes parts.1,
      )

  of_pair : (o p : ℕ) → Passes (is_clean_from class.Accept o) T p → (i : ℕ) × (i < scenario.params.nodes) × Passes (by_pair o i) T p
  unfolding message_at
  of_pair o p h =
      let parts = and_parts (carried (λ g. same_class g.class class.Accept && g.node == o) (note_at T p)) (is_clean (note_at T p).verdict) h in
      let f = carried_frame (λ g. same_class g.class class.Accept && g.node == o) (note_at T p) parts.0 in
      let inner = and_parts (same_class f.what.class class.Accept) (f.what.node == o) f.passes in
      let n : f.what.node ≡ o = eqb-true f.what.node o inner.1 in
      let m : MsgKey = message_at o f.what in
      let x : accept_of_key m ≡ identity_of f.what = accept_is f.what o inner.0 n in
      let it = carries-from (accept_of_key m) (note_at T p) f.what f.frame x in
      let clean : Clean T p (accept_of_key m) = and_from (carries (accept_of_key m) (note_at T p)) (is_clean (note_at T p).verdict) it parts.1 in
      let s = t.sender p (accept_of_key m) clean in
      let g = is_sent-true (accept_of_key m) (gave s.0 T p) s.2 in
      let c : same_class g.what.class class.Accept ≡ true =
      subst (λ v. same_class v class.Accept ≡ true) (ap (λ (y : Identity). y.class) g.identity) (same_class_self class.Accept) in
      let k : (g.what.node == o) ≡ true = eq-eqb g.what.node o (sym (ap (λ (y : Identity). y.node) g.identity)) in
      (s.0, s.1, ap (sends_accept o) g.was ∙ and_from (same_class g.what.class class.Accept) (g.what.node == o) c k)

  pub accepts_in : (d : ℕ)
      → count_by (is_clean_of class.Accept) (take (scenario.params.bound + scenario.params.lag) (drop d T))
      ≤ scenario.params.nodes * (scenario.params.nodes * 2)
  accepts_in d =
      cover_window (is_clean_of class.Accept) refl (is_clean_from class.Accept) scenario.params.nodes (scenario.params.nodes * 2) window d T of_origin
      (λ o. cover_window (is_clean_from class.Accept o) refl (by_pair o) scenario.params.nodes 2 window d T (of_pair o) (λ i. two_of_pair o i d))

  -- ---- data frames

  done_of : (o p : ℕ) → Passes (is_clean_from class.Tot o) T p → (m : MsgKey) × (m.origin ≡ o) × Done T p m
  unfolding message_at
  done_of o p h =
      let parts = and_parts (carried (λ g. same_class g.class class.Tot && g.node == o) (note_at T p)) (is_clean (note_at T p).verdict) h in
      let f = carried_frame (λ g. same_class g.class class.Tot && g.node == o) (note_at T p) parts.0 in
      let inner = and_parts (same_class f.what.class class.Tot) (f.what.node == o) f.passes in
      let m : MsgKey = message_at o f.what in
      let x : tot_of_key m ≡ identity_of f.what = tot_is f.what o inner.0 (eqb-true f.what.node o inner.1) in
      let it = carries-from (tot_of_key m) (note_at T p) f.what f.frame x in
      (m, refl, and_from (carries (tot_of_key m) (note_at T p)) (is_clean (note_at T p).verdict) it parts.1)

  of_source : (p : ℕ) → Passes (is_clean_of class.Tot) T p → (o : ℕ) × (o < scenario.params.nodes) × Passes (is_clean_from class.Tot o) T p
  of_source p h =
      let parts = and_parts (carried (λ f. same_class f.class class.Tot) (note_at T p)) (is_clean (note_at T p).verdict) h in
      let f = carried_frame (λ f. same_class f.class class.Tot) (note_at T p) parts.0 in
      let passes : Passes (is_clean_from class.Tot f.what.node) T p =
      and_from (carried (λ g. same_class g.class class.Tot && g.node == f.what.node) (note_at T p)) (is_clean (note_at T p).verdict)
      (is_carried (λ g. same_class g.class class.Tot && g.node == f.what.node) (note_at T p) f.what f.frame
      (and_from (same_class f.what.class class.Tot) (f.what.node == f.what.node) f.passes (eq-eqb f.what.node f.what.node refl))) parts.1 in
      let m = done_of f.what.node p passes in
      (f.what.node, subst (λ x. x < scenario.params.nodes) m.1 (t.origin_there p m.0 m.2), passes)

  one_of_source : (o d : ℕ) → count_by (is_clean_from class.Tot o) (take window (drop d T)) ≤ 1
  one_of_source o d = at_most_1 (is_clean_from class.Tot o) (take window (drop d T)) (λ p q l a b.
      let x = window_at (is_clean_from class.Tot o) refl window d p T a in
      let y = window_at (is_clean_from class.Tot o) refl window d q T b in
      let m = done_of o x.0 x.3 in
      let k = done_of o y.0 y.3 in
      let far = t.spaced x.0 y.0 m.0 k.0 (omega (arith, x.1, y.1, l)) m.2 k.2 (m.1 ∙ sym k.1) in
      omega (arith, far, x.1, y.1, y.2))

  pub data_in : (d : ℕ) → count_by (is_clean_of class.Tot) (take (scenario.params.bound + scenario.params.lag) (drop d T)) ≤ scenario.params.nodes * 1
  data_in d =
      cover_window (is_clean_of class.Tot) refl (is_clean_from class.Tot) scenario.params.nodes 1 window d T of_source (λ o. one_of_source o d)

-- ---- of a trace, and of every run

pub few_accepts_of : (scenario : ScenarioParts) (T : List SlotNote) → TraceKept scenario T → HasFewAccepts scenario.params T
few_accepts_of scenario T t newest =
    let same : scenario.params.nodes * (scenario.params.nodes * 2) ≡ 2 * (scenario.params.nodes * scenario.params.nodes) = grind arith in
    omega (arith, same, accepts_in scenario T t newest)

pub few_tot_frames_of : (scenario : ScenarioParts) (T : List SlotNote) → TraceKept scenario T → HasFewTotFrames scenario.params T
few_tot_frames_of scenario T t newest = omega (arith, data_in scenario T t newest)

pub within_silent : (scenario : ScenarioParts) (T : List SlotNote) → IsWithin scenario.params T → NoSilent T
within_silent scenario T within = recursion_from_All (λ note. is_silent_slot note ≡ false) T within.silent

pub few_accepts : (scenario : ScenarioParts) → scenario.params.nodes ≤ most_nodes → (journal : List Step) → NoSilent (run scenario journal).trace
    → HasFewAccepts scenario.params (run scenario journal).trace
few_accepts scenario few journal plain = few_accepts_of scenario (run scenario journal).trace (tot_kept scenario few journal plain).trace

pub few_tot_frames : (scenario : ScenarioParts) → scenario.params.nodes ≤ most_nodes → (journal : List Step) → NoSilent (run scenario journal).trace
    → HasFewTotFrames scenario.params (run scenario journal).trace
few_tot_frames scenario few journal plain = few_tot_frames_of scenario (run scenario journal).trace (tot_kept scenario few journal plain).trace
