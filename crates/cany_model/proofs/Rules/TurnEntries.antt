-- What a turn enters: failure signs by the rules of failure signs, views by those of views, and
-- deliveries by those of messages.
use Rattle.std.proofs.Common.{◌≡◌, ℕ, ◌+◌, ◌&&◌, Bool, false, cond, if◌then◌else◌, List, [], ◌∷◌, ◌++◌, map, filter, length, count_by, refl, ap, ◌∙◌, arith}
use Rattle.std.specs.List.{AllByRecursion, flat_map}
use Rattle.std.proofs.lemmas.Bool.{cond_both}
use Rattle.std.proofs.lemmas.List.Sums.{sum_by-append}
use Rattle.cany_base.specs.declared.class.Class.TheVariants as class
use Rattle.cany_base.specs.declared.log_entry.LogEntry.{LogEntry}
use Rattle.cany_base.specs.declared.log_entry.LogEntry.TheVariants.{Deliver, Failed, View}
use Rattle.cany_base.specs.declared.message.MsgKey.{MsgKey}
use Rattle.cany_base.specs.declared.message.Service.{Service}
use Rattle.cany_base.specs.declared.message.Service.TheVariants.{Ed, Rel, Tot}
use Rattle.cany_base.specs.declared.notice.NoticeKind.{NoticeKind}
use Rattle.cany_base.specs.declared.notice.NoticeKind.TheVariants.{Idle, Got, Sent, Bad}
use Rattle.cany_base.specs.Frame.{FrameParts, data_class}
use Rattle.cany_base.specs.Scenario.{ScenarioParts}
use Rattle.cany_model.specs.Bus.Frames.{identity_of, same_class}
use Rattle.cany_model.specs.Rules.Backlog.{asked, backlog, backlog_effects, next_after, tot_backlog}
use Rattle.cany_model.specs.Rules.Delivery.{delivery, is_delivery}
use Rattle.cany_model.specs.Rules.Eager.{has_enough}
use Rattle.cany_model.specs.Rules.Edcan.{edcan}
use Rattle.cany_model.specs.Rules.Effect.{Effect, Ask, Withdraw, entered}
use Rattle.cany_model.specs.Rules.Life.{els_frame, failure_effects, failures_at, failure_signs, fda_copy_effects, is_due, life_effects, life_signs, failure_sign_effects, life_signs_sent}
use Rattle.cany_model.specs.Rules.Membership.{scripted_asks, vectors, views}
use Rattle.cany_model.specs.Rules.Protocol.{Protocol}
use Rattle.cany_model.specs.Rules.Relcan.{relcan}
use Rattle.cany_model.specs.Rules.Sends.{is_sent_in, scripted_sends, send_effects, sendable}
use Rattle.cany_model.specs.Rules.KnowledgeOf.{knowledge_of}
use Rattle.cany_model.specs.Rules.Knowledge.{FailureSign, fda_frame, fda_of, found_in, told_in}
use Rattle.cany_model.specs.Rules.Totcan.{delivered_now, totcan}
use Rattle.cany_model.specs.Rules.Turn.{turn_effects}
use Rattle.cany_model.proofs.Among.{Each-append, count-no}
use Rattle.cany_model.proofs.Rules.Services.BacklogFacts.{asks_enter_none as next_enters_none}
use Rattle.cany_model.proofs.Rules.Services.DeliveryFacts.{DeliversAtOnce, EntersNone, entered-append, entered-none, entries_at, entries_with}
use Rattle.cany_model.proofs.Rules.Services.EdcanFacts.{edcan_delivers}
use Rattle.cany_model.proofs.Rules.Site.MembershipEntries.{asks_enter_none, vectors_enter_none}
use Rattle.cany_model.proofs.Rules.Services.RelcanFacts.{relcan_delivers}
use Rattle.cany_model.proofs.Rules.Services.SendFacts.{asks_enter_none as sends_enter_none}
use Rattle.cany_model.proofs.Rules.Services.TotcanFacts.{totcan_enters}

-- ---- deliveries

abbrev IsOfDelivery : LogEntry → Type 0
IsOfDelivery (Deliver slot by msg payload) = Unit {0}
IsOfDelivery (Failed slot node cycle) = ⊥
IsOfDelivery (View slot number members) = ⊥

delivered_with : (by : Service) (i : ℕ) (f : FrameParts) (e : NoticeKind) (before : List NoticeKind)
    → AllByRecursion IsOfDelivery (entries_with by i f e before)
delivered_with by i f e before =
    cond_both (same_class f.class (data_class by)) _ [] (AllByRecursion IsOfDelivery)
    (λ _. cond_both (is_delivery i f e before) (delivery (length before) by f ∷ []) [] (AllByRecursion IsOfDelivery) (λ _. (tt, tt)) (λ _. tt))
    (λ _. tt)

delivered_at : (by : Service) (i : ℕ) (e : NoticeKind) (before : List NoticeKind) → AllByRecursion IsOfDelivery (entries_at by i e before)
delivered_at by i Idle before = tt
delivered_at by i (Got f) before = delivered_with by i f (Got f) before
delivered_at by i (Sent f) before = delivered_with by i f (Sent f) before
delivered_at by i Bad before = tt

all_delivered : (slot : ℕ) (frames : List FrameParts) → AllByRecursion IsOfDelivery (map (delivery slot Tot) frames)
all_delivered slot [] = tt
all_delivered slot (f ∷ frames) = (tt, all_delivered slot frames)

-- ---- signs

pub copy_enters : (omit : ℕ) (e : NoticeKind) (past : List NoticeKind) → AllByRecursion EntersNone (fda_copy_effects omit e past)
unfolding fda_copy_effects
copy_enters omit Idle past = tt
copy_enters omit Bad past = tt
copy_enters omit (Sent f) past = tt
copy_enters omit (Got f) past =
    cond_both (same_class f.class class.Fda && has_enough omit (identity_of f) past) (Withdraw (identity_of f) ∷ []) [] (AllByRecursion EntersNone)
    (λ _. (tt, tt)) (λ _. tt)

pub sign_enters : (omit slot : ℕ) (past : List NoticeKind) (s : FailureSign)
    → entered (failure_sign_effects omit slot past s) ≡ Failed slot s.node s.cycle ∷ []
unfolding failure_sign_effects entered
sign_enters omit slot past s =
    ap (λ rest. Failed slot s.node s.cycle ∷ rest)
    (entered-none (if has_enough omit (fda_of s) past then [] else Ask (fda_frame s) ∷ [])
    (cond_both (has_enough omit (fda_of s) past) [] (Ask (fda_frame s) ∷ []) (AllByRecursion EntersNone) (λ _. tt) (λ _. (tt, tt))))

abbrev pub IsOfSign : LogEntry → Type 0
IsOfSign (Deliver slot by msg payload) = ⊥
IsOfSign (Failed slot node cycle) = Unit {0}
IsOfSign (View slot number members) = ⊥

signs_enter : (omit slot : ℕ) (past : List NoticeKind) (signs : List FailureSign)
    → AllByRecursion IsOfSign (entered (flat_map (failure_sign_effects omit slot past) signs))
unfolding entered
signs_enter omit slot past [] = tt
signs_enter omit slot past (s ∷ signs) =
    rw (entered-append (failure_sign_effects omit slot past s) (flat_map (failure_sign_effects omit slot past) signs), sign_enters omit slot past s)
    (tt, signs_enter omit slot past signs)

pub failures_enter : (scenario : ScenarioParts) (i : ℕ) (past : List NoticeKind)
    → AllByRecursion IsOfSign (entered (failure_signs.effects scenario i past))
unfolding failure_effects failures_at entered
failures_enter scenario i [] = tt
failures_enter scenario i (e ∷ past) =
    let each : FailureSign → List Effect = failure_sign_effects scenario.params.omit (length past) (e ∷ past) in
    let copied : List Effect = fda_copy_effects scenario.params.omit e (e ∷ past) in
    let told_now : List Effect = flat_map each (told_in i (length past) e (knowledge_of scenario i past)) in
    let found_now : List Effect = flat_map each (found_in scenario.params i (length past) e (knowledge_of scenario i past)) in
    let none : entered copied ≡ [] = entered-none copied (copy_enters scenario.params.omit e (e ∷ past)) in
    rw (entered-append (told_now ++ copied) found_now, entered-append told_now copied, none)
    (Each-append IsOfSign (entered told_now ++ []) (entered found_now)
    (Each-append IsOfSign (entered told_now) []
    (signs_enter scenario.params.omit (length past) (e ∷ past) (told_in i (length past) e (knowledge_of scenario i past))) tt)
    (signs_enter scenario.params.omit (length past) (e ∷ past) (found_in scenario.params i (length past) e (knowledge_of scenario i past))))

-- ---- how many of a kind

-- a test that no delivery meets
module _ (is : LogEntry → Bool)
    (never : (slot : ℕ) (by : Service) (msg : MsgKey) (payload : List ℕ) → is (Deliver slot by msg payload) ≡ false) where
  count-append : (first rest : List LogEntry) → count_by is (first ++ rest) ≡ count_by is first + count_by is rest
  count-append first rest = sum_by-append (λ entry. cond (is entry) 1 0) first rest

  none_counted : (entries : List LogEntry) → AllByRecursion IsOfDelivery entries → count_by is entries ≡ 0
  none_counted [] h = refl
  none_counted (Deliver slot by msg payload ∷ entries) h =
      count-no is (Deliver slot by msg payload) entries (never slot by msg payload) ∙ none_counted entries h.1
  none_counted (Failed slot node cycle ∷ entries) h = absurd h.0
  none_counted (View slot number members ∷ entries) h = absurd h.0

  module _ (scenario : ScenarioParts) (i : ℕ) (e : NoticeKind) (before : List NoticeKind) where
    abbrev count_of : Protocol → ℕ
    count_of p = count_by is (entered (p.effects scenario i (e ∷ before)))

    at_once : (p : Protocol) (by : Service) → DeliversAtOnce p by → count_of p ≡ 0
    at_once p by at = ap (count_by is) (at scenario i e before) ∙ none_counted (entries_at by i e before) (delivered_at by i e before)

    totcan_none : count_of totcan ≡ 0
    totcan_none =
        ap (count_by is) (totcan_enters scenario i e before)
        ∙ none_counted (map (delivery (length before) Tot) (delivered_now scenario.params i (e ∷ before)))
        (all_delivered (length before) (delivered_now scenario.params i (e ∷ before)))

    vectors_none : count_of vectors ≡ 0
    vectors_none = ap (count_by is) (vectors_enter_none scenario i (e ∷ before))

    life_none : count_of life_signs ≡ 0
    unfolding life_effects
    life_none =
        ap (count_by is) (entered-none (life_effects scenario i (e ∷ before))
        (cond_both (is_due scenario.params.life i (length before) (knowledge_of scenario i (e ∷ before)))
        (Ask (els_frame scenario.inc i (life_signs_sent i (e ∷ before))) ∷ []) [] (AllByRecursion EntersNone) (λ _. (tt, tt)) (λ _. tt)))

    sends_none : count_of scripted_sends ≡ 0
    unfolding send_effects
    sends_none = ap (count_by is) (sends_enter_none (filter (is_sent_in i (length before)) (sendable scenario (length before))))

    asks_none : count_of scripted_asks ≡ 0
    asks_none = ap (count_by is) (asks_enter_none scenario i (e ∷ before))

    backlog_none : count_of tot_backlog ≡ 0
    unfolding backlog_effects
    backlog_none =
        ap (count_by is) (next_enters_none (next_after scenario.params (e ∷ before) (backlog scenario i (e ∷ before)) (asked scenario i before)))

    abbrev count_all : List Protocol → ℕ
    count_all ps = count_by is (entered (flat_map (λ p. p.effects scenario i (e ∷ before)) ps))

    count_more : (p : Protocol) (ps : List Protocol) → count_all (p ∷ ps) ≡ count_of p + count_all ps
    count_more p ps =
        ap (count_by is) (entered-append (p.effects scenario i (e ∷ before)) (flat_map (λ q. q.effects scenario i (e ∷ before)) ps))
        ∙ count-append (entered (p.effects scenario i (e ∷ before))) (entered (flat_map (λ q. q.effects scenario i (e ∷ before)) ps))

    -- of other entries a turn makes those of failure signs and of views
    pub turn_enters : count_by is (entered (turn_effects scenario i (e ∷ before))) ≡ count_of failure_signs + count_of views
    unfolding turn_effects entered
    turn_enters =
        let last : List Protocol = life_signs ∷ scripted_sends ∷ scripted_asks ∷ tot_backlog ∷ [] in
        let after : List Protocol = vectors ∷ views ∷ last in
        omega (
          arith,
          count_more edcan (relcan ∷ totcan ∷ failure_signs ∷ after),
          count_more relcan (totcan ∷ failure_signs ∷ after),
          count_more totcan (failure_signs ∷ after),
          count_more failure_signs after,
          count_more vectors (views ∷ last),
          count_more views last,
          count_more life_signs (scripted_sends ∷ scripted_asks ∷ tot_backlog ∷ []),
          count_more scripted_sends (scripted_asks ∷ tot_backlog ∷ []),
          count_more scripted_asks (tot_backlog ∷ []),
          count_more tot_backlog [],
          at_once edcan Ed edcan_delivers,
          at_once relcan Rel relcan_delivers,
          totcan_none,
          vectors_none,
          life_none,
          sends_none,
          asks_none,
          backlog_none,
        )
