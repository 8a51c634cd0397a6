-- The turn of a notice that nothing but EDCAN and RELCAN hears, in a slot for which nothing else is
-- due: what these two do is all of it.
use Rattle.std.proofs.Common.{◌≡◌, ◌+◌, ◌≤◌, true, false, List, [], ◌∷◌, ◌++◌, refl, ap, sym, ◌∙◌, subst, append-nil, arith}
use Rattle.std.proofs.lemmas.List.{map-append}
use Rattle.can_frame.specs.Classes.{is_of_site}
use Rattle.cany_base.specs.declared.actions.Action.{Action}
use Rattle.cany_base.specs.declared.class.Class.{Class}
use Rattle.cany_base.specs.declared.class.Class.TheVariants as class
use Rattle.cany_base.specs.declared.log_entry.LogEntry.{LogEntry}
use Rattle.cany_base.specs.declared.notice.Notice.{Notice}
use Rattle.cany_base.specs.declared.notice.NoticeKind.{NoticeKind}
use Rattle.cany_base.specs.declared.notice.NoticeKind.TheVariants.{Idle, Got, Sent, Bad}
use Rattle.cany_base.specs.Bounded.{Bounded}
use Rattle.cany_base.specs.Limits.{most_restarts_of_node}
use Rattle.cany_base.specs.Scenario.{ScenarioParts}
use Rattle.can_controller.specs.Controller.{ControllerState}
use Rattle.cany_edcan.specs.Edcan.{EdcanParts, IsEdcanOf}
use Rattle.cany_model.specs.Bus.Frames.{same_class}
use Rattle.cany_model.specs.Rules.Actions.{action_of, actions_of}
use Rattle.cany_model.specs.Rules.Edcan.{edcan_effects}
use Rattle.cany_model.specs.Rules.Effect.{Effect}
use Rattle.cany_model.specs.Rules.Relcan.{relcan_effects}
use Rattle.cany_model.specs.Rules.Notices.{IsNextNotice}
use Rattle.cany_relcan.specs.Relcan.{IsRelcanOf, RelcanParts}
use Rattle.cany_node.specs.Apply.{AreApplied, CanApply}
use Rattle.cany_node.specs.Node.{CanAct, IsNodeOf, NodeParts}
use Rattle.cany_node.specs.Resting.{IsIdleUntil, is_for_edcan, is_for_relays, is_of_relays}
use Rattle.cany_node.specs.Turning.{HasScripted, plain_effects}
use Rattle.cany_node.proofs.ActSteps.{AlwaysListed, listed_apply}
use Rattle.cany_node.proofs.AppliedParts.{can_back}
use Rattle.cany_node.proofs.Classes.{of_three}
use Rattle.cany_node.proofs.FrameTurn.{after_none, later_none, none_asked_for, scripted_with}
use Rattle.cany_node.proofs.OwnNode.{edcan_now, relcan_now}
use Rattle.cany_node.proofs.TellsNothingToRelays.{edcan_none, edcan_still}
use Rattle.cany_node.proofs.Idle.IdleFacts.{others_in_turn}
use Rattle.cany_node.proofs.Idle.IdleTurn.{OthersRest}
use Rattle.cany_node.proofs.TellsNothingOfPlaces.{IsUnplaced, is_of_totcan, unplaced_bad, unplaced_got, unplaced_idle, unplaced_sent}
use Rattle.cany_node.proofs.TellsNothingOfTheSite.{IsUnheard, unheard}

-- ---- what the others find in the notice

not_totcan : (c : Class) → is_of_relays c ≡ true → is_of_totcan c ≡ false
unfolding same_class
not_totcan = of_three (λ c. is_of_totcan c ≡ false) class.Ed class.Rel class.Confirm refl refl refl

not_site : (c : Class) → is_of_relays c ≡ true → is_of_site c ≡ false
not_site = of_three (λ c. is_of_site c ≡ false) class.Ed class.Rel class.Confirm refl refl refl

tells_nothing : (e : NoticeKind) → is_for_relays e ≡ true → IsUnheard e
tells_nothing Idle is = unheard Idle refl
tells_nothing (Got f) is = unheard (Got f) (not_site f.class is)
tells_nothing (Sent f) is = unheard (Sent f) (not_site f.class is)
tells_nothing Bad is = unheard Bad refl

places_nothing : (e : NoticeKind) → is_for_relays e ≡ true → IsUnplaced e
places_nothing Idle is = unplaced_idle
places_nothing (Got f) is = unplaced_got f (not_totcan f.class is)
places_nothing (Sent f) is = unplaced_sent f (not_totcan f.class is)
places_nothing Bad is = unplaced_bad

-- ---- the turn

module _ (scenario : ScenarioParts) (past : List NoticeKind) (e : NoticeKind) (is : is_for_relays e ≡ true) (v : NodeParts)
    (stands : IsNodeOf scenario past v) (others : OthersRest scenario past v) where
  abbrev read : List NoticeKind
  read = e ∷ past

  abbrev relays : List Effect
  relays = edcan_effects scenario v.node read ++ relcan_effects scenario v.node read

  places : IsUnplaced e
  places = places_nothing e is

  site : IsUnheard e
  site = tells_nothing e is

  relays_alone : plain_effects scenario v.node read ≡ edcan_effects scenario v.node read ++ relcan_effects scenario v.node read
  relays_alone =
      (λ j. (edcan_effects scenario v.node read ++ (relcan_effects scenario v.node read ++ later_none scenario past e places site v stands others j))
      ++ after_none scenario past e places site v stands others j)
      ∙ append-nil (edcan_effects scenario v.node read ++ (relcan_effects scenario v.node read ++ []))
      ∙ ap (λ es. edcan_effects scenario v.node read ++ es) (append-nil (relcan_effects scenario v.node read))

  relays_listed : (ed rel : List Action) → ed ≡ actions_of scenario.params.format (edcan_effects scenario v.edcan.node (e ∷ past))
      → rel ≡ actions_of scenario.params.format (relcan_effects scenario v.relcan.node (e ∷ past))
      → ed ++ rel ≡ actions_of scenario.params.format (plain_effects scenario v.node (e ∷ past))
  relays_listed ed rel one two =
      let edcan_listed : ed ≡ actions_of scenario.params.format (edcan_effects scenario v.node read) =
      one ∙ ap (λ n. actions_of scenario.params.format (edcan_effects scenario n read)) stands.edcan.node in
      let relcan_listed : rel ≡ actions_of scenario.params.format (relcan_effects scenario v.node read) =
      two ∙ ap (λ n. actions_of scenario.params.format (relcan_effects scenario n read)) stands.relcan.limits.node in
      (λ j. edcan_listed j ++ relcan_listed j)
      ∙ sym (map-append (action_of scenario.params.format) (edcan_effects scenario v.node read) (relcan_effects scenario v.node read))
      ∙ ap (actions_of scenario.params.format) (sym relays_alone)

  relays_scripted : (edcan : EdcanParts) (relcan : RelcanParts) → IsEdcanOf scenario v.edcan.node (e ∷ past) edcan
      → IsRelcanOf scenario v.relcan.node (e ∷ past) relcan → HasScripted scenario past e (record v { edcan = edcan; relcan = relcan })
  relays_scripted edcan relcan ed rel =
      scripted_with scenario past e places site v stands others edcan relcan
      (subst (λ n. IsEdcanOf scenario n read edcan) stands.edcan.node ed)
      (subst (λ n. IsRelcanOf scenario n read relcan) stands.relcan.limits.node rel)

module _ (notice : Notice) (u v : NodeParts) (viewed : v ≡ u) (is : is_for_relays notice.kind ≡ true) (idle : IsIdleUntil (notice.slot + 1) u)
    (edcan : EdcanParts) (relcan : RelcanParts) (ed rel : List Action)
    (ed_acts : (scenario : ScenarioParts) (past : List NoticeKind) → IsEdcanOf scenario v.edcan.node past v.edcan → IsNextNotice scenario past notice
    → ed ≡ actions_of scenario.params.format (edcan_effects scenario v.edcan.node (notice.kind ∷ past)))
    (ed_heard : (scenario : ScenarioParts) (past : List NoticeKind) → IsEdcanOf scenario v.edcan.node past v.edcan → IsNextNotice scenario past notice
    → IsEdcanOf scenario v.edcan.node (notice.kind ∷ past) edcan)
    (rel_acts : (scenario : ScenarioParts) (past : List NoticeKind) → IsRelcanOf scenario v.relcan.node past v.relcan → IsNextNotice scenario past notice
    → rel ≡ actions_of scenario.params.format (relcan_effects scenario v.relcan.node (notice.kind ∷ past)))
    (rel_heard : (scenario : ScenarioParts) (past : List NoticeKind) → IsRelcanOf scenario v.relcan.node past v.relcan → IsNextNotice scenario past notice
    → IsRelcanOf scenario v.relcan.node (notice.kind ∷ past) relcan) where
  -- what EDCAN and RELCAN list is all of the turn
  pub relay_turn : AlwaysListed notice v (record v { edcan = edcan; relcan = relcan }) v.totcan (ed ++ rel)
  relay_turn = λ scenario past stands next.
      let others =
      others_in_turn scenario past notice (notice.slot + 1) v (subst (IsIdleUntil (notice.slot + 1)) (sym viewed) idle) (omega arith) stands next in
      let of_ed = edcan_now scenario past v stands in
      let of_rel = relcan_now scenario past v stands in
      record {
        same = record { node = refl; inc = refl; from = refl; cycle = refl; log = refl; room = refl };
        scripted =
            relays_scripted scenario past notice.kind is v stands others edcan relcan (ed_heard scenario past of_ed next.next) (rel_heard scenario past of_rel next.next);
        listed =
            relays_listed scenario past notice.kind is v stands others ed rel (ed_acts scenario past of_ed next.next)
            (rel_acts scenario past of_rel next.next);
        asks = none_asked_for scenario past notice.kind (places_nothing notice.kind is) (tells_nothing notice.kind is) v stands others;
      }

  -- and it can be done
  pub relay_apply : (ctl : ControllerState) (out : Bounded Action) → CanAct u notice ctl out → v.inc ≤ most_restarts_of_node
      → CanApply v.inc (ed ++ rel) ctl (record { items = v.log; room = v.room })
  relay_apply ctl out acts number = listed_apply notice u v _ viewed _ (ed ++ rel) ctl out acts relay_turn number

  -- and the second part of it once the first is done
  pub relay_rest : (ctl : ControllerState) (out : Bounded Action) → CanAct u notice ctl out → v.inc ≤ most_restarts_of_node → (after : ControllerState) (log : Bounded LogEntry)
      → AreApplied v.inc ed ctl after (record { items = v.log; room = v.room }) log → CanApply v.inc rel after log
  relay_rest ctl out acts number after log = can_back v.inc ed rel ctl (record { items = v.log; room = v.room }) (relay_apply ctl out acts number) after log

-- where EDCAN does not hear the notice
module _ (notice : Notice) (u v : NodeParts) (viewed : v ≡ u) (is : is_for_relays notice.kind ≡ true) (idle : IsIdleUntil (notice.slot + 1) u)
    (other : is_for_edcan notice.kind ≡ false) (relcan : RelcanParts) (rel : List Action)
    (acts : (scenario : ScenarioParts) (past : List NoticeKind) → IsRelcanOf scenario v.relcan.node past v.relcan → IsNextNotice scenario past notice
    → rel ≡ actions_of scenario.params.format (relcan_effects scenario v.relcan.node (notice.kind ∷ past)))
    (heard : (scenario : ScenarioParts) (past : List NoticeKind) → IsRelcanOf scenario v.relcan.node past v.relcan → IsNextNotice scenario past notice
    → IsRelcanOf scenario v.relcan.node (notice.kind ∷ past) relcan) where
  pub relcan_turn : AlwaysListed notice v (record v { relcan = relcan }) v.totcan rel
  relcan_turn =
      relay_turn notice u v viewed is idle v.edcan relcan [] rel (λ scenario past h next. edcan_none notice v.edcan other scenario past h)
      (λ scenario past h next. edcan_still notice v.edcan other scenario past h) acts heard

  pub relcan_apply : (ctl : ControllerState) (out : Bounded Action) → CanAct u notice ctl out → v.inc ≤ most_restarts_of_node
      → CanApply v.inc rel ctl (record { items = v.log; room = v.room })
  relcan_apply ctl out can number = listed_apply notice u v _ viewed _ rel ctl out can relcan_turn number
