-- The turn of a frame of TOTCAN or of a life sign, in a slot for which nothing is due: EDCAN,
-- RELCAN, the script and the backlog have nothing to do, so what TOTCAN does and what is done for
-- the site is all of it.
use Rattle.std.proofs.Common.{◌≡◌, ℕ, ◌+◌, ◌||◌, true, false, not, List, [], ◌∷◌, ◌++◌, length, None, refl, ap, sym, ◌∙◌, subst, append-nil, arith}
use Rattle.cany_base.specs.declared.actions.Action.{Action}
use Rattle.cany_base.specs.declared.class.Class.{Class}
use Rattle.cany_base.specs.declared.class.Class.TheVariants as class
use Rattle.cany_base.specs.declared.format.Format.{Format}
use Rattle.cany_base.specs.declared.notice.Notice.{Notice}
use Rattle.cany_base.specs.declared.notice.NoticeKind.{NoticeKind}
use Rattle.cany_base.specs.declared.notice.NoticeKind.TheVariants.{Idle, Got, Sent, Bad}
use Rattle.cany_base.specs.Scenario.{ScenarioParts}
use Rattle.cany_edcan.specs.Edcan.{IsEdcanOf}
use Rattle.cany_model.specs.Bus.Frames.{same_class}
use Rattle.cany_model.specs.Rules.Actions.{actions_of}
use Rattle.cany_model.specs.Rules.Backlog.{ask_for, asked, asked_after, backlog, backlog_effects, next_after, one_more}
use Rattle.cany_model.specs.Rules.Edcan.{edcan_effects}
use Rattle.cany_model.specs.Rules.Effect.{Effect}
use Rattle.cany_model.specs.Rules.Messages.{Message}
use Rattle.cany_model.specs.Rules.Notices.{IsNextNotice}
use Rattle.cany_model.specs.Rules.Relcan.{relcan_effects}
use Rattle.cany_model.specs.Rules.Totcan.{totcan_effects}
use Rattle.cany_relcan.specs.Relcan.{IsRelcanOf, brings_no_relcan}
use Rattle.cany_totcan.specs.Rests as totcan
use Rattle.cany_totcan.specs.Totcan.{IsTotcanOf, TotcanParts}
use Rattle.cany_node.specs.Membership.{IsMembershipOf, IsNextOf, MembershipParts, membership_effects}
use Rattle.cany_node.specs.Node.{IsNodeOf, NodeParts}
use Rattle.cany_node.specs.Resting.{IsIdleUntil, MembershipRests, RelcanRestsUntil, brings_totcan_or_life, is_for_edcan, is_of_totcan_or_life}
use Rattle.cany_node.specs.Turning.{HasScripted, plain_effects, script_effects}
use Rattle.cany_node.proofs.ActSteps.{AlwaysListed}
use Rattle.cany_node.proofs.BacklogWaits.{none_asked_next}
use Rattle.cany_node.proofs.Classes.{of_three}
use Rattle.cany_node.proofs.HeardTurn.{listed_more, same_room}
use Rattle.cany_node.proofs.OwnNode.{edcan_now, relcan_now, totcan_now}
use Rattle.cany_node.proofs.Idle.IdleFacts.{others_in_turn}
use Rattle.cany_node.proofs.Idle.IdleTurn.{OthersRest, agenda_later, asks_later, no_script, same_backlog, tot_rests}
use Rattle.cany_node.proofs.Idle.MembershipRest.{both_none}
use Rattle.cany_node.proofs.TellsNothingOfTheSite.{IsLifeAtMost, life_at_most_bad, life_at_most_got, life_at_most_idle, life_at_most_sent, tells_more}
use Rattle.cany_node.proofs.TellsNothingToRelays.{edcan_none, edcan_still, relcan_none, relcan_still}

-- ---- what EDCAN and RELCAN find in the notice

not_edcan : (c : Class) → is_of_totcan_or_life c ≡ true → same_class c class.Ed ≡ false
unfolding same_class
not_edcan = of_three (λ c. same_class c class.Ed ≡ false) class.Tot class.Accept class.Els refl refl refl

not_relcan : (c : Class) → is_of_totcan_or_life c ≡ true → not (same_class c class.Rel || same_class c class.Confirm) ≡ true
unfolding same_class
not_relcan = of_three (λ c. not (same_class c class.Rel || same_class c class.Confirm) ≡ true) class.Tot class.Accept class.Els refl refl refl

is_no_edcan : (e : NoticeKind) → brings_totcan_or_life e ≡ true → is_for_edcan e ≡ false
is_no_edcan Idle is = refl
is_no_edcan (Got f) is = not_edcan f.class is
is_no_edcan (Sent f) is = not_edcan f.class is
is_no_edcan Bad is = refl

is_no_relcan : (e : NoticeKind) → brings_totcan_or_life e ≡ true → brings_no_relcan e ≡ true
is_no_relcan Idle is = refl
is_no_relcan (Got f) is = not_relcan f.class is
is_no_relcan (Sent f) is = not_relcan f.class is
is_no_relcan Bad is = refl

not_more : (c : Class) → is_of_totcan_or_life c ≡ true → tells_more c ≡ false
unfolding same_class
not_more = of_three (λ c. tells_more c ≡ false) class.Tot class.Accept class.Els refl refl refl

-- and it tells no more of the site than who lives
pub life_at_most : (e : NoticeKind) → brings_totcan_or_life e ≡ true → IsLifeAtMost e
life_at_most Idle is = life_at_most_idle
life_at_most (Got f) is = life_at_most_got f (not_more f.class is)
life_at_most (Sent f) is = life_at_most_sent f (not_more f.class is)
life_at_most Bad is = life_at_most_bad

no_effects : (format : Format) (effects : List Effect) → [] ≡ actions_of format effects → effects ≡ []
no_effects format [] is = refl
no_effects format (effect ∷ effects) is = absurd (cc)

-- ---- the turn

module _ (scenario : ScenarioParts) (past : List NoticeKind) (e : NoticeKind) (v : NodeParts) (stands : IsNodeOf scenario past v) (others : OthersRest scenario past v) where
  abbrev read : List NoticeKind
  read = e ∷ past

  abbrev messages : List Message
  messages = backlog scenario v.node past

  abbrev count : ℕ
  count = asked scenario v.node past

  none_next : next_after scenario.params (e ∷ past) (backlog scenario v.node (e ∷ past)) (asked scenario v.node past) ≡ None
  none_next =
      ap (λ ms. next_after scenario.params read ms count) (same_backlog scenario past v stands others e)
      ∙ none_asked_next scenario v.node past messages count v.totcan e stands.totcan (tot_rests scenario past v stands others).none

  no_next : backlog_effects scenario v.node read ≡ []
  unfolding backlog_effects
  no_next = ap ask_for none_next

  still_asked : asked_after scenario.params read (backlog scenario v.node read) count ≡ count
  still_asked = ap (one_more count) none_next

  alone : edcan_effects scenario v.node (e ∷ past) ≡ [] → relcan_effects scenario v.node (e ∷ past) ≡ []
      → plain_effects scenario v.node (e ∷ past) ≡ totcan_effects scenario v.node (e ∷ past) ++ membership_effects scenario v.node (e ∷ past)
  alone ed rel =
      (λ j. (ed j ++ (rel j ++ (totcan_effects scenario v.node read ++ membership_effects scenario v.node read)))
      ++ both_none (script_effects scenario v.node read) (backlog_effects scenario v.node read) (no_script scenario past v stands others e) no_next j)
      ∙ append-nil (totcan_effects scenario v.node read ++ membership_effects scenario v.node read)

  module _ (t : TotcanParts) (tot : IsTotcanOf scenario v.totcan.node (e ∷ past) (backlog scenario v.node past) (asked scenario v.node past) t) where
    -- the backlog asks for nothing
    none_asked_for : IsTotcanOf scenario t.node (e ∷ past) (backlog scenario v.node (e ∷ past))
        (asked_after scenario.params (e ∷ past) (backlog scenario v.node (e ∷ past)) (asked scenario v.node past)) t
    none_asked_for =
        subst (λ n. IsTotcanOf scenario t.node read (backlog scenario v.node read) n t) (sym still_asked)
        (subst (λ ms. IsTotcanOf scenario t.node read ms count t) (sym (same_backlog scenario past v stands others e))
        (subst (λ n. IsTotcanOf scenario n read messages count t) (sym tot.limits.node) tot))

    scripted_so : (membership : MembershipParts) → IsEdcanOf scenario v.node (e ∷ past) v.edcan → IsRelcanOf scenario v.node (e ∷ past) v.relcan
        → IsMembershipOf scenario v.node (e ∷ past) membership → HasScripted scenario past e (record v { totcan = t; membership = membership })
    scripted_so membership ed rel site =
        let same = same_room scenario v.totcan.node v.totcan.node past read messages count count v.totcan t refl (totcan_now scenario past v stands) tot in
        record {
          edcan = ed;
          relcan = rel;
          totcan = subst (λ ms. IsTotcanOf scenario v.node read ms count t) (sym (same_backlog scenario past v stands others e))
              (subst (λ n. IsTotcanOf scenario n read messages count t) stands.totcan.limits.node tot);
          membership = site;
          agenda = agenda_later scenario v.node (length past) v.agenda stands.agenda others.sends;
          joins = asks_later scenario v.node (length past) scenario.joins v.joins stands.joins others.joins;
          leaves = asks_later scenario v.node (length past) scenario.leaves v.leaves stands.leaves others.leaves;
          room_to_give = omega (arith, same.0, same.1, stands.room_to_give);
        }

-- what TOTCAN lists, and what is listed for the site, is all of the turn
pub totcan_and_life_turn : (notice : Notice) (u v : NodeParts) → v ≡ u → brings_totcan_or_life notice.kind ≡ true → IsIdleUntil (notice.slot + 1) u
    → RelcanRestsUntil (notice.slot + 1) u.relcan → (t : TotcanParts) (membership : MembershipParts) (out tot : List Action) → out ≡ []
    → ((scenario : ScenarioParts) (past : List NoticeKind) (messages : List Message) (count : ℕ) → totcan.Rests scenario v.totcan.node past messages count v.totcan
    → IsTotcanOf scenario v.totcan.node past messages count v.totcan → IsNextNotice scenario past notice → tot ≡ out ++ actions_of scenario.params.format (totcan_effects scenario v.totcan.node (notice.kind ∷ past)))
    → ((scenario : ScenarioParts) (past : List NoticeKind) (messages : List Message) (count : ℕ) → totcan.Rests scenario v.totcan.node past messages count v.totcan
    → IsTotcanOf scenario v.totcan.node past messages count v.totcan → IsNextNotice scenario past notice → IsTotcanOf scenario v.totcan.node (notice.kind ∷ past) messages count t)
    → ((scenario : ScenarioParts) (i : ℕ) (past : List NoticeKind) → IsMembershipOf scenario i past v.membership → MembershipRests scenario i past v.membership
    → IsNextOf scenario i past notice → membership_effects scenario i (notice.kind ∷ past) ≡ [])
    → ((scenario : ScenarioParts) (i : ℕ) (past : List NoticeKind) → IsMembershipOf scenario i past v.membership → MembershipRests scenario i past v.membership
    → IsNextOf scenario i past notice → IsMembershipOf scenario i (notice.kind ∷ past) membership)
    → AlwaysListed notice v (record v { totcan = t; membership = membership }) t tot
totcan_and_life_turn notice u v viewed is idle rests t membership out tot free tot_acts tot_heard site_none site_heard = λ scenario past stands next.
    let e = notice.kind in
    let others =
    others_in_turn scenario past notice (notice.slot + 1) v (subst (IsIdleUntil (notice.slot + 1)) (sym viewed) idle) (omega arith) stands next in
    let no_relcan = is_no_relcan e is in
    let no_edcan = is_no_edcan e is in
    let resting : RelcanRestsUntil (notice.slot + 1) v.relcan = subst (λ (x : NodeParts). RelcanRestsUntil (notice.slot + 1) x.relcan) (sym viewed) rests in
    let of_ed = edcan_now scenario past v stands in
    let of_rel = relcan_now scenario past v stands in
    let of_tot = totcan_now scenario past v stands in
    let ed_none = subst (λ n. edcan_effects scenario n (e ∷ past) ≡ []) stands.edcan.node
    (no_effects scenario.params.format (edcan_effects scenario v.edcan.node (e ∷ past)) (edcan_none notice v.edcan no_edcan scenario past of_ed)) in
    let rel_none = subst (λ n. relcan_effects scenario n (e ∷ past) ≡ []) stands.relcan.limits.node
    (no_effects scenario.params.format (relcan_effects scenario v.relcan.node (e ∷ past))
    (relcan_none notice v.relcan (notice.slot + 1) resting (omega arith) no_relcan scenario past of_rel next.next)) in
    let ed = subst (λ n. IsEdcanOf scenario n (e ∷ past) v.edcan) stands.edcan.node (edcan_still notice v.edcan no_edcan scenario past of_ed) in
    let rel = subst (λ n. IsRelcanOf scenario n (e ∷ past) v.relcan) stands.relcan.limits.node
    (relcan_still notice v.relcan (notice.slot + 1) resting (omega arith) no_relcan scenario past of_rel next.next) in
    let heard = tot_heard scenario past (backlog scenario v.node past) (asked scenario v.node past) others.totcan of_tot next.next in
    let tot_is : tot ≡ out ++ actions_of scenario.params.format (totcan_effects scenario v.node (e ∷ past)) =
    tot_acts scenario past (backlog scenario v.node past) (asked scenario v.node past) others.totcan of_tot next.next
    ∙ ap (λ n. out ++ actions_of scenario.params.format (totcan_effects scenario n (e ∷ past))) stands.totcan.limits.node in
    record {
      same = record { node = refl; inc = refl; from = refl; cycle = refl; log = refl; room = refl };
      scripted = scripted_so scenario past e v stands others t heard membership ed rel
          (site_heard scenario v.node past stands.membership others.membership next);
      listed =
          sym (append-nil tot)
          ∙ sym (ap (λ es. tot ++ actions_of scenario.params.format es) (site_none scenario v.node past stands.membership others.membership next))
          ∙ listed_more scenario out tot (totcan_effects scenario v.node (e ∷ past)) (membership_effects scenario v.node (e ∷ past)) tot_is
          ∙ ap (λ xs. xs ++ actions_of scenario.params.format (totcan_effects scenario v.node (e ∷ past) ++ membership_effects scenario v.node (e ∷ past))) free
          ∙ ap (actions_of scenario.params.format) (sym (alone scenario past e v stands others ed_none rel_none));
      asks = none_asked_for scenario past e v stands others t heard;
    }
