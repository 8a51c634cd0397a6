-- The sign in a notice becomes known, and its copy counts.
use Rattle.std.specs.Prelude.{nat_le}
use Rattle.std.proofs.Common.{◌≡◌, ℕ, ◌+◌, ◌*◌, ◌<◌, ◌≤◌, ◌/◌, ◌&&◌, Bool, true, false, if◌then◌else◌, not, List, [], ◌∷◌, ◌++◌, length, refl, ap, subst, sym, ◌∙◌, arith}
use Rattle.std.specs.List.{AllByRecursion, flat_map}
use Rattle.std.proofs.lemmas.Bool.{cond_both}
use Rattle.std.proofs.lemmas.List.{map-append}
use Rattle.std.proofs.lemmas.Nat.{le-div}
use Rattle.cany_base.specs.declared.actions.Action.{Action}
use Rattle.cany_base.specs.declared.actions.Action.TheVariants as action
use Rattle.cany_base.specs.declared.class.Class.TheVariants as class
use Rattle.cany_base.specs.declared.format.Format.{Format}
use Rattle.cany_base.specs.declared.log_entry.LogEntry.TheVariants.{Failed}
use Rattle.cany_base.specs.declared.notice.Notice.{Notice}
use Rattle.cany_base.specs.declared.notice.NoticeKind.{NoticeKind}
use Rattle.cany_base.specs.declared.notice.NoticeKind.TheVariants.{Idle, Got, Sent, Bad}
use Rattle.cany_base.specs.Frame.{FrameParts}
use Rattle.cany_base.specs.Limits.{most_nodes, most_slots}
use Rattle.cany_base.specs.Params.{Parameters}
use Rattle.cany_base.specs.Scenario.{ScenarioParts, IsLegalScenario}
use Rattle.cany_base.proofs.ParamsFacts.{few_nodes}
use Rattle.cany_diffuse.specs.Eager.{EagerParts, IsLearnt, copies_of}
use Rattle.cany_message.specs.Actions.{withdraw_actions}
use Rattle.cany_message.proofs.DeliveryFacts.{both_actions, no_actions}
use Rattle.cany_message.proofs.HistoryFacts.{identity_is}
use Rattle.cany_message.proofs.NoticeFacts.{got_belongs}
use Rattle.cany_model.specs.Bus.Frames.{identity_of, same_class}
use Rattle.cany_model.specs.Rules.Actions.{action_of, actions_of}
use Rattle.cany_model.specs.Rules.Eager.{has_enough}
use Rattle.cany_model.specs.Rules.Effect.{Ask, Withdraw}
use Rattle.cany_model.specs.Rules.Life.{fda_copy_effects, failure_sign_effects}
use Rattle.cany_model.specs.Rules.Notices.{BelongsTo, IsNextNotice, NamesNode}
use Rattle.cany_model.specs.Rules.Rooms.{cycles}
use Rattle.cany_model.specs.Rules.Knowledge.{FailureSign, Knowledge, fda_frame, fda_of, sign_of, told, with_signs}
use Rattle.cany_model.proofs.Bus.Identities.{same_class-true}
use Rattle.cany_life.specs.Life.{AreCopies, IsReading, IsSignOf, LifeParts, sign_number}
use Rattle.cany_life.specs.LifeSteps.{all_marked, has_enough_of, is_known, known_actions, sign_actions, unknown}
use Rattle.cany_life.proofs.CopyFacts.{copies_bad, copies_got, copies_idle, copies_other, copies_sent}
use Rattle.cany_life.proofs.KnownFacts.{stands_all, stands_counted}

-- the sign of a cycle that has begun is one of the run
pub cycle_of_run : (scenario : ScenarioParts) (slot cycle : ℕ) → IsLegalScenario scenario → slot < scenario.params.slots → cycle ≤ slot / scenario.params.cycle
    → cycle ≤ cycles scenario
cycle_of_run scenario slot cycle legal within upto =
    let some : 0 < scenario.params.cycle = omega (arith, legal.in_range.cycle.0) in
    let whole : slot / scenario.params.cycle * scenario.params.cycle ≤ scenario.params.slots = omega (arith, some, within) in
    omega (arith, le-div (slot / scenario.params.cycle) scenario.params.slots scenario.params.cycle some whole, upto)

-- the frame of a failure sign that is read tells of a sign of the run
pub told_of_run : (scenario : ScenarioParts) (past : List NoticeKind) (notice : Notice) (f : FrameParts) → IsLegalScenario scenario → IsNextNotice scenario past notice
    → notice.kind ≡ Got f → same_class f.class class.Fda ≡ true → IsSignOf scenario (sign_of f)
told_of_run scenario past notice f legal next kind is =
    let named : NamesNode scenario scenario.params.cycle notice.slot f =
    subst (λ k. BelongsTo scenario notice.slot k f) (same_class-true f.class class.Fda is) (got_belongs scenario past notice f next kind) in
    record { node = named.node; cycle = cycle_of_run scenario notice.slot f.number legal next.within named.number }

-- ---- actions

asks_if : (format : Format) (b : Bool) (f : FrameParts) → actions_of format (if b then [] else Ask f ∷ []) ≡ (if b then [] else action.Ask f ∷ [])
asks_if format true f = refl
asks_if format false f = refl

-- what a sign calls for, with enough copies or not
sign_acts : (format : Format) (omit slot : ℕ) (past : List NoticeKind) (sign : FailureSign) (e : Bool) → e ≡ has_enough omit (fda_of sign) past
    → actions_of format (failure_sign_effects omit slot past sign) ≡ sign_actions slot e sign
unfolding failure_sign_effects
sign_acts format omit slot past sign e is =
    ap (λ rest. action.Enter (Failed slot sign.node sign.cycle) ∷ rest)
    (asks_if format (has_enough omit (fda_of sign) past) (fda_frame sign) ∙ ap (λ b. if b then [] else action.Ask (fda_frame sign) ∷ []) (sym is))

pub all_acts : (format : Format) (omit slot : ℕ) (past : List NoticeKind) (e : FailureSign → Bool) (signs : List FailureSign)
    → AllByRecursion (λ sign. e sign ≡ has_enough omit (fda_of sign) past) signs
    → actions_of format (flat_map (failure_sign_effects omit slot past) signs) ≡ flat_map (λ sign. sign_actions slot (e sign) sign) signs
all_acts format omit slot past e [] each = refl
all_acts format omit slot past e (sign ∷ signs) each =
    map-append (action_of format) (failure_sign_effects omit slot past sign) (flat_map (failure_sign_effects omit slot past) signs)
    ∙ ap (λ actions. actions ++ actions_of format (flat_map (failure_sign_effects omit slot past) signs)) (sign_acts format omit slot past sign (e sign) each.0)
    ∙ ap (λ actions. sign_actions slot (e sign) sign ++ actions) (all_acts format omit slot past e signs each.1)

withdraws_if : (format : Format) (b : Bool) (f : FrameParts) → actions_of format (if b then Withdraw (identity_of f) ∷ [] else []) ≡ withdraw_actions format b f
withdraws_if format true f = refl
withdraws_if format false f = refl

-- whether there are enough copies of the frame of a sign, by the table and by what was read
pub enough_of : (scenario : ScenarioParts) (i : ℕ) (counted past : List NoticeKind) (knowledge : Knowledge) (v : LifeParts) (sign : FailureSign)
    → IsReading scenario i counted past knowledge v → sign.node < most_nodes → has_enough_of v sign ≡ has_enough scenario.params.omit (fda_of sign) counted
enough_of scenario i counted past knowledge v sign h near =
    ap (λ (p : Parameters). nat_le (p.omit + 1) (copies_of v.copies (sign_number sign))) h.limits.are_params
    ∙ ap (nat_le (scenario.params.omit + 1)) (h.copies.copies sign near)

-- ---- a copy of the frame of a sign

told_if : (known : Bool) (sign : FailureSign) → (if true && not known then sign ∷ [] else []) ≡ (if known then [] else sign ∷ [])
told_if true sign = refl
told_if false sign = refl

module _ (scenario : ScenarioParts) (i : ℕ) (past : List NoticeKind) (knowledge : Knowledge) (v w : LifeParts) (f : FrameParts)
    (h : IsReading scenario i past (Got f ∷ past) knowledge v) (is : same_class f.class class.Fda ≡ true) (of : IsSignOf scenario (sign_of f)) where
  told_is : told (Got f) knowledge ≡ unknown (sign_of f) v
  unfolding told
  told_is = rw (is, ← h.signs.known (sign_of f) of) (told_if (is_known (sign_of f) v) (sign_of f))

  each_told : AllByRecursion (IsSignOf scenario) (unknown (sign_of f) v)
  each_told = cond_both (is_known (sign_of f) v) [] (sign_of f ∷ []) (AllByRecursion (IsSignOf scenario)) (λ _. tt) (λ _. (of, tt))

  near : f.node < most_nodes
  near = omega (arith, of.node, few_nodes scenario.params h.limits.legal.in_range)

  pub copy_stands : length past < most_slots → IsLearnt (sign_number (sign_of f)) v.copies w.copies → w ≡ all_marked (unknown (sign_of f) v) (record v { copies = w.copies })
      → IsReading scenario i (Got f ∷ past) (Got f ∷ past) (with_signs (told (Got f) knowledge) knowledge) w
  copy_stands short learnt state =
      let counted : AreCopies scenario (Got f ∷ past) w.copies =
      copies_got scenario past f v.copies w.copies (same_class-true f.class class.Fda is) near of short h.copies learnt in
      let more : IsReading scenario i (Got f ∷ past) (Got f ∷ past) knowledge (record v { copies = w.copies }) =
      stands_counted scenario i past (Got f ∷ past) (Got f ∷ past) knowledge v w.copies counted h in
      rw told_is
      (subst (IsReading scenario i (Got f ∷ past) (Got f ∷ past) (with_signs (unknown (sign_of f) v) knowledge)) (sym state)
      (stands_all scenario i (Got f ∷ past) (Got f ∷ past) knowledge (record v { copies = w.copies }) (unknown (sign_of f) v) more each_told))

  pub copy_acts : (slot : ℕ) (before after : List Action) → slot ≡ length past
      → IsReading scenario i (Got f ∷ past) (Got f ∷ past) (with_signs (told (Got f) knowledge) knowledge) w
      → after ≡ (before ++ known_actions slot (has_enough_of w (sign_of f)) (unknown (sign_of f) v)) ++ withdraw_actions v.params.format (has_enough_of w (sign_of f)) f
      → after ≡ before ++ actions_of scenario.params.format
      (flat_map (failure_sign_effects scenario.params.omit (length past) (Got f ∷ past)) (told (Got f) knowledge) ++ fda_copy_effects scenario.params.omit (Got f) (Got f ∷ past))
  unfolding fda_copy_effects
  copy_acts slot before after at stands acts =
      let format : Format = scenario.params.format in
      let omit : ℕ = scenario.params.omit in
      let e : Bool = has_enough_of w (sign_of f) in
      let enough : e ≡ has_enough omit (fda_of (sign_of f)) (Got f ∷ past) = enough_of scenario i (Got f ∷ past) (Got f ∷ past) _ w (sign_of f) stands near in
      let each : AllByRecursion (λ sign. e ≡ has_enough omit (fda_of sign) (Got f ∷ past)) (unknown (sign_of f) v) =
      cond_both (is_known (sign_of f) v) [] (sign_of f ∷ []) (AllByRecursion (λ sign. e ≡ has_enough omit (fda_of sign) (Got f ∷ past))) (λ _. tt) (λ _. (enough, tt)) in
      let known : actions_of format (flat_map (failure_sign_effects omit (length past) (Got f ∷ past)) (told (Got f) knowledge)) ≡ known_actions slot e (unknown (sign_of f) v) =
      ap (λ signs. actions_of format (flat_map (failure_sign_effects omit (length past) (Got f ∷ past)) signs)) told_is
      ∙ all_acts format omit (length past) (Got f ∷ past) (λ _. e) (unknown (sign_of f) v) each
      ∙ ap (λ n. known_actions n e (unknown (sign_of f) v)) (sym at) in
      let enough_now : has_enough omit (identity_of f) (Got f ∷ past) ≡ e =
      ap (λ x. has_enough omit x (Got f ∷ past)) (identity_is class.Fda f (same_class-true f.class class.Fda is)) ∙ sym enough in
      let withdrawn : actions_of format (fda_copy_effects omit (Got f) (Got f ∷ past)) ≡ withdraw_actions v.params.format e f =
      ap (λ b. actions_of format (if b && has_enough omit (identity_of f) (Got f ∷ past) then Withdraw (identity_of f) ∷ [] else [])) is
      ∙ withdraws_if format (has_enough omit (identity_of f) (Got f ∷ past)) f
      ∙ ap (λ b. withdraw_actions format b f) enough_now
      ∙ ap (λ (p : Parameters). withdraw_actions p.format e f) (sym h.limits.are_params) in
      acts
      ∙ both_actions format before (flat_map (failure_sign_effects omit (length past) (Got f ∷ past)) (told (Got f) knowledge)) (fda_copy_effects omit (Got f) (Got f ∷ past)) _ _ known withdrawn

-- ---- a notice that is no such copy

abbrev pub IsNoCopy : NoticeKind → Type 0
IsNoCopy Idle = Unit {0}
IsNoCopy Bad = Unit {0}
IsNoCopy (Got f) = same_class f.class class.Fda ≡ false
IsNoCopy (Sent f) = Unit {0}

none_told : (kind : NoticeKind) (knowledge : Knowledge) → IsNoCopy kind → told kind knowledge ≡ []
unfolding told
none_told Idle knowledge none = refl
none_told Bad knowledge none = refl
none_told (Sent f) knowledge none = refl
none_told (Got f) knowledge none = rw none refl

none_withdrawn : (omit : ℕ) (kind : NoticeKind) (past : List NoticeKind) → IsNoCopy kind → fda_copy_effects omit kind past ≡ []
unfolding fda_copy_effects
none_withdrawn omit Idle past none = refl
none_withdrawn omit Bad past none = refl
none_withdrawn omit (Sent f) past none = refl
none_withdrawn omit (Got f) past none = rw none refl

none_counted : (scenario : ScenarioParts) (kind : NoticeKind) (past : List NoticeKind) (table : EagerParts) → IsNoCopy kind → AreCopies scenario past table
    → AreCopies scenario (kind ∷ past) table
none_counted scenario Idle past table none h = copies_idle scenario past table h
none_counted scenario Bad past table none h = copies_bad scenario past table h
none_counted scenario (Sent f) past table none h = copies_sent scenario past f table h
none_counted scenario (Got f) past table none h = copies_other scenario past f table none h

module _ (scenario : ScenarioParts) (i : ℕ) (past : List NoticeKind) (knowledge : Knowledge) (notice kind : NoticeKind) (is : notice ≡ kind) (none : IsNoCopy kind) where
  no_signs : with_signs [] knowledge ≡ knowledge
  unfolding with_signs
  no_signs = refl

  pub none_stands : (v : LifeParts) → IsReading scenario i past (notice ∷ past) knowledge v
      → IsReading scenario i (notice ∷ past) (notice ∷ past) (with_signs (told notice knowledge) knowledge) v
  none_stands v h =
      let same : with_signs (told notice knowledge) knowledge ≡ knowledge =
      ap (λ k. with_signs (told k knowledge) knowledge) is ∙ ap (λ signs. with_signs signs knowledge) (none_told kind knowledge none) ∙ no_signs in
      let counted : AreCopies scenario (notice ∷ past) v.copies = rw is (none_counted scenario kind past v.copies none h.copies) in
      rw same (stands_counted scenario i past (notice ∷ past) (notice ∷ past) knowledge v v.copies counted h)

  pub none_acts : (slot : ℕ) (before : List Action)
      → before ≡ before ++ actions_of scenario.params.format
      (flat_map (failure_sign_effects scenario.params.omit slot (notice ∷ past)) (told notice knowledge) ++ fda_copy_effects scenario.params.omit notice (notice ∷ past))
  none_acts slot before =
      no_actions scenario.params.format before
      (flat_map (failure_sign_effects scenario.params.omit slot (notice ∷ past)) (told notice knowledge) ++ fda_copy_effects scenario.params.omit notice (notice ∷ past))
      (rw (is, none_told kind knowledge none, none_withdrawn scenario.params.omit kind (kind ∷ past) none) refl)
