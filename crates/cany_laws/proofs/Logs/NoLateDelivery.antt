-- A turn delivers no message of which nothing is ahead any more, where its notice brings no frame
-- of it.
use Rattle.std.proofs.Common.{◌≡◌, ℕ, zero, suc, ◌+◌, ◌<◌, ◌&&◌, ◌||◌, ◌==◌, inl, inr, Bool, true, false, not, List, [], ◌∷◌, ◌++◌, map, length, take, drop, count_by, Option, Some, None, refl, ap, sym, ◌∙◌, arith}
use Rattle.std.specs.List.{AllByRecursion, list_any}
use Rattle.std.proofs.lemmas.Bool.{and_from, and_parts, both_ways, cases_Bool, cond_both, eq-eqb, false_from_ne_true, false≢true, not_from_false, or_right}
use Rattle.cany_base.specs.declared.class.Class.TheVariants as class
use Rattle.cany_base.specs.declared.log_entry.LogEntry.{LogEntry}
use Rattle.cany_base.specs.declared.log_entry.LogEntry.TheVariants.{Deliver, Failed, View}
use Rattle.cany_base.specs.declared.message.MsgKey.{MsgKey}
use Rattle.cany_base.specs.declared.message.Service.{Service}
use Rattle.cany_base.specs.declared.message.Service.TheVariants.{Ed, Rel, Tot}
use Rattle.cany_base.specs.declared.notice.NoticeKind.{NoticeKind}
use Rattle.cany_base.specs.declared.notice.NoticeKind.TheVariants.{Idle, Got, Sent, Bad}
use Rattle.cany_base.specs.Frame.{FrameParts, data_class}
use Rattle.cany_base.specs.Params.{Parameters}
use Rattle.cany_base.specs.Scenario.{ScenarioParts}
use Rattle.cany_model.specs.Bus.Frames.{identity_of, same_class, same_identity}
use Rattle.cany_model.specs.Bus.History.{has_own, is_got, is_sent}
use Rattle.cany_model.specs.Rules.Backlog.{tot_backlog}
use Rattle.cany_model.specs.Rules.Delivery.{delivery, delivery_effects, is_delivery}
use Rattle.cany_model.specs.Rules.Eager.{eager_effects, has_enough, is_first_copy}
use Rattle.cany_model.specs.Rules.Edcan.{edcan_at, edcan_effects}
use Rattle.cany_model.specs.Rules.Effect.{Effect, Ask, Withdraw, Enter}
use Rattle.cany_model.specs.Rules.Life.{failure_signs, life_signs}
use Rattle.cany_model.specs.Rules.Membership.{scripted_asks, vectors, views}
use Rattle.cany_model.specs.Rules.Messages.{Message, accept_of_key, data_id, is_service, message_key}
use Rattle.cany_model.specs.Rules.Protocol.{Protocol}
use Rattle.cany_model.specs.Rules.Relcan.{confirm_effects, confirm_frame, fall_back_effects, falls_back, fell_back, late_copy_effects, relcan_at, relcan_effects, timer_effects}
use Rattle.cany_model.specs.Rules.Sends.{scripted_sends}
use Rattle.cany_model.specs.Rules.Totcan.{accept_effects, accept_frame, after_place, closing_effects, closing_of, delivered, delivered_now, done, done_from, has_closing_ahead, holds, is_accepted, is_among, is_heard, is_recent, message_in, new_among, tot_delivery, tot_in, tot_of_key, totcan_effects, with_new}
use Rattle.cany_model.specs.Rules.Turn.{protocols, turn_effects}
use Rattle.cany_model.proofs.Among.{Among, Among-append_left, Among-append_right, Among-from_any, Among-weaker, Each-append, Each-flat_map, Each-weaker, count-from_Among}
use Rattle.cany_model.proofs.Bus.Identities.{same_class-true, same_identity-true}
use Rattle.cany_model.proofs.Rules.Services.BacklogFacts.{backlog_is_lawful}
use Rattle.cany_model.proofs.Rules.Services.DoneFacts.{IsNamed, done-with, done_exactly, through_is_clear}
use Rattle.cany_model.proofs.Rules.Site.LifeFacts.{failures_are_lawful, life_is_lawful}
use Rattle.cany_model.proofs.Rules.Services.MessageKeys.{is_service-from}
use Rattle.cany_model.proofs.Rules.Services.PlaceFacts.{Place, place-old}
use Rattle.cany_model.proofs.Rules.ProtocolFacts.{IsFounded, IsLawful}
use Rattle.cany_model.proofs.Rules.Services.SendFacts.{sends_are_lawful}
use Rattle.cany_model.proofs.Rules.Services.TotcanFacts.{all_tot, delivered_brought, done_brought, not_new}
use Rattle.cany_model.proofs.Rules.Site.VectorFacts.{vectors_are_lawful}
use Rattle.cany_model.proofs.Rules.Site.ViewFacts.{asks_are_lawful, views_are_lawful}
use Rattle.cany_laws.proofs.Logs.DoneTurns.{Free, FreeNotice, IsDone, no_got, no_holds, no_sent}
use Rattle.cany_model.proofs.Timed.Order.OneOrder.{clear_old}
use Rattle.cany_model.proofs.Timed.Order.TotBacklog.{tot_id}

-- the entry delivers this message by its own service
abbrev pub DeliversIt : Message → LogEntry → Type 0
DeliversIt m (Deliver slot by msg payload) = (msg ≡ message_key m) × (by ≡ m.service)
DeliversIt m (Failed slot node cycle) = ⊥
DeliversIt m (View slot number members) = ⊥

-- the effect enters no such delivery
abbrev pub EntersNot : Message → Effect → Type 0
EntersNot m (Ask f) = Unit {0}
EntersNot m (Withdraw x) = Unit {0}
EntersNot m (Enter entry) = DeliversIt m entry → ⊥

abbrev EnterNot : Message → List Effect → Type 0
EnterNot m effects = AllByRecursion (EntersNot m) effects

-- ---- protocols that deliver nothing

founded_not : (m : Message) (p : Protocol) (scenario : ScenarioParts) (i : ℕ) (past : List NoticeKind) → ((by : Service) → p.delivers by ≡ true → ⊥)
    → (e : Effect) → IsFounded scenario p i past e → EntersNot m e
founded_not m p scenario i past none (Ask f) h = tt
founded_not m p scenario i past none (Withdraw x) h = tt
founded_not m p scenario i past none (Enter (Deliver slot by msg payload)) h = λ delivers. none by h.serves
founded_not m p scenario i past none (Enter (Failed slot node cycle)) h = λ delivers. delivers
founded_not m p scenario i past none (Enter (View slot number members)) h = λ delivers. delivers

not_of : (m : Message) (p : Protocol) → IsLawful p → ((by : Service) → p.delivers by ≡ true → ⊥) → (scenario : ScenarioParts) (i : ℕ) (past : List NoticeKind)
    → EnterNot m (p.effects scenario i past)
not_of m p lawful none scenario i past =
    Each-weaker (IsFounded scenario p i past) (EntersNot m) (founded_not m p scenario i past none) (p.effects scenario i past) (lawful.founded scenario i past)

never : (by : Service) → false ≡ true → ⊥
never by h = false≢true h

-- ---- delivery at a copy

-- a data frame that is read now, of a class of its own
delivery_not : (m : Message) (by : Service) (i : ℕ) (f : FrameParts) (e : NoticeKind) (before : List NoticeKind) → f.class ≡ data_class by → Free m f
    → EnterNot m (delivery_effects by i f e before)
unfolding delivery_effects
delivery_not m by i f e before class free =
    cond_both (is_delivery i f e before) (Enter (delivery (length before) by f) ∷ []) [] (EnterNot m)
    (λ _. (
      λ h.
          let same : data_id m ≡ identity_of f = λ k. record {
            class = (ap data_class (sym h.1) ∙ sym class) k;
            number = (sym (ap (λ (x : MsgKey). x.seq) h.0)) k;
            node = (sym (ap (λ (x : MsgKey). x.origin) h.0)) k;
          } in
          free (inl same),
      tt,
    )) (λ _. tt)

eager_not : (m : Message) (omit : ℕ) (f : FrameParts) (past : List NoticeKind) → EnterNot m (eager_effects omit f past)
unfolding eager_effects
eager_not m omit f past =
    cond_both (has_enough omit (identity_of f) past) (Withdraw (identity_of f) ∷ []) _ (EnterNot m) (λ _. (tt, tt))
    (λ _. cond_both (is_first_copy (identity_of f) past) (Ask f ∷ []) [] (EnterNot m) (λ _. (tt, tt)) (λ _. tt))

edcan_not : (scenario : ScenarioParts) (m : Message) (i : ℕ) (e : NoticeKind) (before : List NoticeKind) → FreeNotice m e → EnterNot m (edcan_effects scenario i (e ∷ before))
unfolding edcan_effects edcan_at
edcan_not scenario m i Idle before free = tt
edcan_not scenario m i Bad before free = tt
edcan_not scenario m i (Got f) before free =
    cond_both (same_class f.class class.Ed) _ [] (EnterNot m)
    (λ ed. Each-append (EntersNot m) (delivery_effects Ed i f (Got f) before) (eager_effects scenario.params.omit f (Got f ∷ before))
    (delivery_not m Ed i f (Got f) before (same_class-true f.class class.Ed ed) (free f (inl refl))) (eager_not m scenario.params.omit f (Got f ∷ before))) (λ _. tt)
edcan_not scenario m i (Sent f) before free =
    cond_both (same_class f.class class.Ed) _ [] (EnterNot m)
    (λ ed. delivery_not m Ed i f (Sent f) before (same_class-true f.class class.Ed ed) (free f (inr refl))) (λ _. tt)

relcan_notice : (scenario : ScenarioParts) (m : Message) (i : ℕ) (e : NoticeKind) (before : List NoticeKind) → FreeNotice m e
    → EnterNot m (relcan_at scenario.params i e before)
unfolding relcan_at
relcan_notice scenario m i Idle before free = tt
relcan_notice scenario m i Bad before free = tt
relcan_notice scenario m i (Got f) before free =
    cond_both (same_class f.class class.Rel) _ [] (EnterNot m)
    (λ rel. Each-append (EntersNot m) (delivery_effects Rel i f (Got f) before) (late_copy_effects scenario.params i f before)
    (delivery_not m Rel i f (Got f) before (same_class-true f.class class.Rel rel) (free f (inl refl)))
    (cond_both (fell_back scenario.params.confirm i (identity_of f) before && _) (Withdraw (identity_of f) ∷ []) [] (EnterNot m) (λ _. (tt, tt)) (λ _. tt)))
    (λ _. tt)
relcan_notice scenario m i (Sent f) before free =
    cond_both (same_class f.class class.Rel) _ [] (EnterNot m)
    (λ rel. Each-append (EntersNot m) (delivery_effects Rel i f (Sent f) before) (confirm_effects i f)
    (delivery_not m Rel i f (Sent f) before (same_class-true f.class class.Rel rel) (free f (inr refl)))
    (cond_both (f.node == i) (Ask (confirm_frame f) ∷ []) [] (EnterNot m) (λ _. (tt, tt)) (λ _. tt)))
    (λ _. tt)

fall_back_not : (p : Parameters) (m : Message) (i : ℕ) (past : List NoticeKind) (first : NoticeKind) → EnterNot m (fall_back_effects p i past first)
fall_back_not p m i past Idle = tt
fall_back_not p m i past (Sent f) = tt
fall_back_not p m i past Bad = tt
fall_back_not p m i past (Got f) =
    cond_both (falls_back p.confirm i (identity_of f) past && _) (Ask f ∷ []) [] (EnterNot m) (λ _. (tt, tt)) (λ _. tt)

relcan_not : (scenario : ScenarioParts) (m : Message) (i : ℕ) (e : NoticeKind) (before : List NoticeKind) → FreeNotice m e → EnterNot m (relcan_effects scenario i (e ∷ before))
unfolding relcan_effects timer_effects
relcan_not scenario m i e before free =
    Each-append (EntersNot m) (relcan_at scenario.params i e before) (timer_effects scenario.params i (e ∷ before))
    (relcan_notice scenario m i e before free) (fall_back_not scenario.params m i (e ∷ before) _)

-- ---- TOTCAN

-- a message that is closed, and of which nothing comes, is accepted as it was
accepted_on : (m : Message) (bound i : ℕ) (e : NoticeKind) (before : List NoticeKind) → m.service ≡ Tot → FreeNotice m e
    → is_accepted bound i (message_key m) (e ∷ before) ≡ is_accepted bound i (message_key m) before
unfolding is_heard has_own is_accepted
accepted_on m bound i e before tot free =
    let key : MsgKey = message_key m in
    let accept : is_got (accept_of_key key) e ≡ false = no_got m e free (accept_of_key key) (inr (inr (inl refl))) in
    let own : is_sent (tot_of_key key) e ≡ false = no_sent m e free (tot_of_key key) (inl (tot_id m tot)) in
    rw (no_holds m e free tot, accept, own) (or_no (is_heard bound key before) _)
  where
    or_no : (a b : Bool) → ((a || false) || b) ≡ (a || b)
    or_no true b = refl
    or_no false b = refl

-- what is done is delivered
named_again : (key : MsgKey) (f g : FrameParts) → same_identity (identity_of f) (identity_of g) ≡ true → IsNamed key f → IsNamed key g
named_again key f g same named =
    let e = same_identity-true (identity_of f) (identity_of g) same in
    λ k. record {
      origin = (ap (λ x. x.node) (sym e) ∙ ap (λ (n : MsgKey). n.origin) named) k;
      seq = (ap (λ x. x.number) (sym e) ∙ ap (λ (n : MsgKey). n.seq) named) k;
    }

with_new_has : (key : MsgKey) (earlier frames : List FrameParts) → Among (IsNamed key) frames → Among (IsNamed key) (with_new earlier frames)
with_new_has key earlier frames h = by_frames frames h
  where
    by_frames : (fs : List FrameParts) → Among (IsNamed key) fs → Among (IsNamed key) (earlier ++ new_among earlier fs)
    by_frames [] h = absurd h
    by_frames (f ∷ fs) (inl named) = elim (cases_Bool (is_among earlier f)) [
      | inl old ↦
          Among-append_left (IsNamed key) earlier (new_among earlier (f ∷ fs))
          (Among-weaker (λ g. same_identity (identity_of f) (identity_of g) ≡ true) (IsNamed key) (λ g same. named_again key f g same named) earlier
          (Among-from_any (λ g. same_identity (identity_of f) (identity_of g)) earlier old))
      | inr new ↦
          Among-append_right (IsNamed key) earlier (new_among earlier (f ∷ fs))
          (cond_both (not (is_among earlier f)) (f ∷ new_among earlier fs) (new_among earlier fs) (Among (IsNamed key)) (λ _. inl named)
          (λ no. absurd (false≢true (sym no ∙ not_from_false (is_among earlier f) new))))
    ]
    by_frames (f ∷ fs) (inr later) =
        cond_both (not (is_among earlier f)) (f ∷ new_among earlier fs) (new_among earlier fs) (λ kept. Among (IsNamed key) (earlier ++ kept))
        (λ _. put_in earlier (new_among earlier fs) f (by_frames fs later)) (λ _. by_frames fs later)
      where
        put_in : (a b : List FrameParts) (g : FrameParts) → Among (IsNamed key) (a ++ b) → Among (IsNamed key) (a ++ (g ∷ b))
        put_in [] b g h = inr h
        put_in (x ∷ a) b g (inl here) = inl here
        put_in (x ∷ a) b g (inr there) = inr (put_in a b g there)

pub done_is_delivered : (p : Parameters) (i : ℕ) (key : MsgKey) (past : List NoticeKind) → Among (IsNamed key) (done p i past) → Among (IsNamed key) (delivered p i past)
unfolding delivered done_from
done_is_delivered p i key [] h = h
done_is_delivered p i key (e ∷ before) h = with_new_has key (delivered p i before) (done p i (e ∷ before)) h

-- a message that is done after the turn was done before it, where its notice brings no frame of it
-- and it was closed
module _ (p : Parameters) (m : Message) (i : ℕ) (e : NoticeKind) (before : List NoticeKind) (tot : m.service ≡ Tot) (free : FreeNotice m e)
    (closed : is_recent p.bound (message_key m) before ≡ false) where
  abbrev key : MsgKey
  key = message_key m

  older_place : (w : Place key (e ∷ before)) → (age : ℕ) → age ≡ w.age → Place key before
  unfolding is_recent
  older_place w zero at =
      let here : (e ∷ before) ≡ (w.notice ∷ w.older) = ap (λ n. drop n (e ∷ before)) at ∙ w.at in
      let same : e ≡ w.notice = cc in
      absurd (both_ways (holds key e) (no_holds m e free tot) (ap (holds key) same ∙ w.is))
  older_place w (suc age) at = record {
    age = age;
    notice = w.notice;
    older = w.older;
    at = ap (λ n. drop n (e ∷ before)) at ∙ w.at;
    is = w.is;
    newest = false_from_ne_true (list_any (holds key) (take age before)) (λ h.
        both_ways (is_recent w.age key (e ∷ before)) w.newest
        (ap (λ n. list_any (holds key) (take n (e ∷ before))) (sym at) ∙ or_right (holds key e) (list_any (holds key) (take age before)) h));
  }

  was_done : Among (IsNamed key) (done p i (e ∷ before)) → Among (IsNamed key) (done p i before)
  was_done h =
      let d = done-with p i key (e ∷ before) h in
      let w = older_place d.place d.place.age refl in
      let accepted : is_accepted p.bound i key before ≡ true =
      sym (accepted_on m p.bound i e before tot free) ∙ (and_parts (is_accepted p.bound i key (e ∷ before)) _ d.is).0 in
      (done_exactly p i key before w).1
      (and_from (is_accepted p.bound i key before) _ accepted
      (through_is_clear p i before (w.age + 1) w.older ∙ clear_old p i before (w.age + 1) w.older (omega (arith, place-old p.bound key before closed w))))

  none_now : AllByRecursion (λ f. IsNamed key f → ⊥) (delivered_now p i (e ∷ before))
  unfolding delivered_now
  none_now = each_not (new_among (delivered p i before) (done p i (e ∷ before))) (λ f among named. by_count f among named)
    where
      each_not : (fs : List FrameParts) → ((f : FrameParts) → Among (λ g. g ≡ f) fs → IsNamed key f → ⊥) → AllByRecursion (λ f. IsNamed key f → ⊥) fs
      each_not [] h = tt
      each_not (f ∷ fs) h = (h f (inl refl), each_not fs (λ g among. h g (inr among)))

      named_counts : (f : FrameParts) → IsNamed key f → (f.node == key.origin && f.number == key.seq) ≡ true
      named_counts f named =
          and_from (f.node == key.origin) (f.number == key.seq) (eq-eqb f.node key.origin (ap (λ (x : MsgKey). x.origin) named))
          (eq-eqb f.number key.seq (ap (λ (x : MsgKey). x.seq) named))

      some_counted : (fs : List FrameParts) → Among (IsNamed key) fs → 0 < count_by (λ f. f.node == key.origin && f.number == key.seq) fs
      some_counted fs h =
          count-from_Among (λ f. f.node == key.origin && f.number == key.seq) fs
          (Among-weaker (IsNamed key) (λ f. (f.node == key.origin && f.number == key.seq) ≡ true) named_counts fs h)

      in_done : (earlier fs : List FrameParts) (f : FrameParts) → Among (λ g. g ≡ f) (new_among earlier fs) → Among (λ g. g ≡ f) fs
      in_done earlier [] f h = h
      in_done earlier (g ∷ fs) f h =
          cond_both (not (is_among earlier g)) (g ∷ new_among earlier fs) (new_among earlier fs) (λ kept. Among (λ x. x ≡ f) kept → Among (λ x. x ≡ f) (g ∷ fs))
          (λ _ k. elim k [ inl here ↦ inl here | inr there ↦ inr (in_done earlier fs f there) ]) (λ _ k. inr (in_done earlier fs f k)) h

      by_count : (f : FrameParts) → Among (λ g. g ≡ f) (new_among (delivered p i before) (done p i (e ∷ before))) → IsNamed key f → ⊥
      by_count f among named =
          let all : List FrameParts = new_among (delivered p i before) (done p i (e ∷ before)) in
          let named_of : (fs : List FrameParts) → Among (λ g. g ≡ f) fs → Among (IsNamed key) fs =
          λ fs a. Among-weaker (λ g. g ≡ f) (IsNamed key) (λ g same. ap message_in same ∙ named) fs a in
          let was : Among (IsNamed key) (delivered p i before) =
          done_is_delivered p i key before (was_done (named_of (done p i (e ∷ before)) (in_done (delivered p i before) (done p i (e ∷ before)) f among))) in
          let none =
          not_new key (delivered p i before) (all_tot before (delivered p i before) (delivered_brought p i before)) (some_counted (delivered p i before) was)
          (done p i (e ∷ before)) (all_tot (e ∷ before) (done p i (e ∷ before)) (done_brought p i (e ∷ before))) in
          omega (arith, none, some_counted all (named_of all among))

accept_not : (p : Parameters) (m : Message) (i : ℕ) (e : NoticeKind) (before : List NoticeKind) → EnterNot m (accept_effects p i e before)
unfolding accept_effects
accept_not p m i Idle before = tt
accept_not p m i Bad before = tt
accept_not p m i (Got f) before =
    cond_both (same_class f.class class.Accept && _) _ [] (EnterNot m) (λ _. eager_not m p.omit f (after_place (message_in f) (Got f ∷ before))) (λ _. tt)
accept_not p m i (Sent f) before =
    cond_both (same_class f.class class.Tot && f.node == i) (Ask (accept_frame f) ∷ []) [] (EnterNot m) (λ _. (tt, tt)) (λ _. tt)

closing_not : (m : Message) (bound : ℕ) (past : List NoticeKind) (o : Option FrameParts) → EnterNot m (closing_of bound past o)
closing_not m bound past None = tt
closing_not m bound past (Some f) = cond_both (is_recent bound (message_in f) past) [] _ (EnterNot m) (λ _. tt) (λ _. (tt, tt))

deliveries_not : (m : Message) (slot : ℕ) (frames : List FrameParts) → ((f : FrameParts) → Among (λ g. g ≡ f) frames → message_in f ≡ message_key m → m.service ≡ Tot → ⊥)
    → EnterNot m (map (tot_delivery slot) frames)
deliveries_not m slot [] none = tt
deliveries_not m slot (f ∷ frames) none = (λ h. none f (inl refl) h.0 (sym h.1), deliveries_not m slot frames (λ g among. none g (inr among)))

totcan_not : (scenario : ScenarioParts) (m : Message) (i : ℕ) (e : NoticeKind) (before : List NoticeKind) → FreeNotice m e
    → has_closing_ahead scenario m i before ≡ false → EnterNot m (totcan_effects scenario i (e ∷ before))
unfolding totcan_effects closing_effects
totcan_not scenario m i e before free closed =
    let p : Parameters = scenario.params in
    let accept : List Effect = accept_effects p i e before in
    let closing : List Effect = closing_of p.bound (e ∷ before) (tot_in _) in
    let deliveries : List Effect = map (tot_delivery (length before)) (delivered_now p i (e ∷ before)) in
    Each-append (EntersNot m) (accept ++ closing) deliveries
    (Each-append (EntersNot m) accept closing (accept_not p m i e before) (closing_not m p.bound (e ∷ before) (tot_in _)))
    (deliveries_not m (length before) (delivered_now p i (e ∷ before)) (λ f among named tot.
    let old : is_recent p.bound (message_key m) before ≡ false =
    false_from_ne_true (is_recent p.bound (message_key m) before) (λ recent.
    both_ways (has_closing_ahead scenario m i before) closed
    (and_from (is_service m.service Tot) (is_recent p.bound (message_key m) before) (is_service-from m.service Tot tot) recent)) in
    each_of (delivered_now p i (e ∷ before)) (none_now p m i e before tot free old) f among named))
  where
    each_of : (fs : List FrameParts) → AllByRecursion (λ f. IsNamed (message_key m) f → ⊥) fs → (f : FrameParts) → Among (λ g. g ≡ f) fs
        → IsNamed (message_key m) f → ⊥
    each_of [] all f h named = h
    each_of (g ∷ fs) all f (inl here) named = all.0 (ap message_in here ∙ named)
    each_of (g ∷ fs) all f (inr there) named = each_of fs all.1 f there named

-- ---- a whole turn

pub turn_not : (scenario : ScenarioParts) (m : Message) (i : ℕ) (e : NoticeKind) (before : List NoticeKind) → FreeNotice m e → IsDone scenario m i before
    → AllByRecursion (EntersNot m) (turn_effects scenario i (e ∷ before))
unfolding turn_effects
turn_not scenario m i e before free done =
    let past : List NoticeKind = e ∷ before in
    Each-flat_map (λ p. p.effects scenario i past) (EntersNot m) protocols (
      edcan_not scenario m i e before free,
      (
        relcan_not scenario m i e before free,
        (
          totcan_not scenario m i e before free done.closing,
          (
            not_of m failure_signs failures_are_lawful never scenario i past,
            (
              not_of m vectors vectors_are_lawful never scenario i past,
              (
                not_of m views views_are_lawful never scenario i past,
                (
                  not_of m life_signs life_is_lawful never scenario i past,
                  (
                    not_of m scripted_sends sends_are_lawful never scenario i past,
                    (not_of m scripted_asks asks_are_lawful never scenario i past, (not_of m tot_backlog backlog_is_lawful never scenario i past, tt)),
                  ),
                ),
              ),
            ),
          ),
        ),
      ),
    )
