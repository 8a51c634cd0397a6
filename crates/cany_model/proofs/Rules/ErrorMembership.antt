-- No rule tells an error from an idle slot: what a node knows of the site, and what it does by
-- that.
use Rattle.std.proofs.Common.{◌≡◌, ℕ, List, [], ◌∷◌, length, Option, Some, None, refl, ap, ◌∙◌}
use Rattle.std.specs.List.{flat_map}
use Rattle.cany_base.specs.declared.notice.NoticeKind.{NoticeKind}
use Rattle.cany_base.specs.declared.notice.NoticeKind.TheVariants.{Idle, Got, Sent, Bad}
use Rattle.cany_base.specs.declared.format.Format.{Format}
use Rattle.cany_base.specs.Nodes.{Nodes}
use Rattle.cany_base.specs.Params.{Parameters}
use Rattle.cany_base.specs.Scenario.{ScenarioParts}
use Rattle.cany_model.specs.Bus.Frames.{identity_of}
use Rattle.cany_model.specs.Rules.Life.{failure_effects, failures_at, fda_copy_effects, is_own_sign, life_effects, failure_sign_effects, life_signs_sent}
use Rattle.cany_model.specs.Rules.Membership.{ask_effects, exchange_effects, install_effects}
use Rattle.cany_model.specs.Rules.Notices.{error_as_idle}
use Rattle.cany_model.specs.Rules.KnowledgeOf.{after_notice, ended_in, start_in, knowledge_of}
use Rattle.cany_model.specs.Rules.Knowledge.{FailureSign, Knowledge, after_life, fda_of, found_in, told, told_in}
use Rattle.cany_model.specs.Rules.Vectors.{brought, exchange_at, is_covered, is_vector_got, is_vector_sent, vector_effects}
use Rattle.cany_model.specs.Rules.Views.{after_ask}
use Rattle.cany_model.proofs.Rules.ErrorCounts.{IsBlind, plain, plain-any, plain-copies, plain-count, plain-length}

-- ---- what a node knows

-- an error changes nothing that an idle slot would not
plain_notice : (p : Parameters) (i slot : ℕ) (e : NoticeKind) (st : Knowledge) → after_notice p i slot (error_as_idle e) st ≡ after_notice p i slot e st
unfolding after_notice after_life told after_ask brought
plain_notice p i slot Idle st = refl
plain_notice p i slot Bad st = refl
plain_notice p i slot (Got f) st = refl
plain_notice p i slot (Sent f) st = refl

pub plain_knowledge : (scenario : ScenarioParts) (i : ℕ) (past : List NoticeKind) → knowledge_of scenario i (plain past) ≡ knowledge_of scenario i past
unfolding knowledge_of
plain_knowledge scenario i [] = refl
plain_knowledge scenario i (e ∷ past) =
    ap (λ n. after_notice scenario.params i n (error_as_idle e) (knowledge_of scenario i (plain past))) (plain-length past)
    ∙ ap (after_notice scenario.params i (length past) (error_as_idle e)) (plain_knowledge scenario i past)
    ∙ plain_notice scenario.params i (length past) e (knowledge_of scenario i past)

-- ---- failure signs

plain_sign : (omit slot : ℕ) (past : List NoticeKind) (sign : FailureSign) → failure_sign_effects omit slot (plain past) sign ≡ failure_sign_effects omit slot past sign
unfolding failure_sign_effects
plain_sign omit slot past sign = rw (plain-copies (fda_of sign) past) refl

plain_signs : (omit slot : ℕ) (past : List NoticeKind) (signs : List FailureSign)
    → flat_map (failure_sign_effects omit slot (plain past)) signs ≡ flat_map (failure_sign_effects omit slot past) signs
plain_signs omit slot past [] = refl
plain_signs omit slot past (sign ∷ signs) = rw (plain_sign omit slot past sign, plain_signs omit slot past signs) refl

plain_fda_copy : (omit : ℕ) (e : NoticeKind) (past : List NoticeKind) → fda_copy_effects omit (error_as_idle e) (plain past) ≡ fda_copy_effects omit e past
unfolding fda_copy_effects
plain_fda_copy omit Idle past = refl
plain_fda_copy omit Bad past = refl
plain_fda_copy omit (Sent f) past = refl
plain_fda_copy omit (Got f) past = rw (plain-copies (identity_of f) past) refl

plain_told : (i slot : ℕ) (e : NoticeKind) (st : Knowledge) → told_in i slot (error_as_idle e) st ≡ told_in i slot e st
unfolding told after_life
plain_told i slot Idle st = refl
plain_told i slot Bad st = refl
plain_told i slot (Got f) st = refl
plain_told i slot (Sent f) st = refl

plain_found : (p : Parameters) (i slot : ℕ) (e : NoticeKind) (st : Knowledge) → found_in p i slot (error_as_idle e) st ≡ found_in p i slot e st
unfolding told after_life
plain_found p i slot Idle st = refl
plain_found p i slot Bad st = refl
plain_found p i slot (Got f) st = refl
plain_found p i slot (Sent f) st = refl

plain_failures_at : (p : Parameters) (i : ℕ) (e : NoticeKind) (past : List NoticeKind) (st : Knowledge)
    → failures_at p i (error_as_idle e) (plain past) st ≡ failures_at p i e past st
unfolding failures_at
plain_failures_at p i e past st =
    rw (
      plain-length past,
      plain_found p i (length past) e st,
      plain_told i (length past) e st,
      plain_signs p.omit (length past) (e ∷ past) (told_in i (length past) e st),
      plain_signs p.omit (length past) (e ∷ past) (found_in p i (length past) e st),
      plain_fda_copy p.omit e (e ∷ past),
    ) refl

pub plain_failures : (scenario : ScenarioParts) (i : ℕ) (past : List NoticeKind) → failure_effects scenario i (plain past) ≡ failure_effects scenario i past
unfolding failure_effects
plain_failures scenario i [] = refl
plain_failures scenario i (e ∷ past) =
    ap (failures_at scenario.params i (error_as_idle e) (plain past)) (plain_knowledge scenario i past)
    ∙ plain_failures_at scenario.params i e past (knowledge_of scenario i past)

-- ---- life signs

blind_own_sign : (i : ℕ) → IsBlind (is_own_sign i)
blind_own_sign i Idle = refl
blind_own_sign i Bad = refl
blind_own_sign i (Got f) = refl
blind_own_sign i (Sent f) = refl

pub plain_signs_sent : (i : ℕ) (past : List NoticeKind) → life_signs_sent i (plain past) ≡ life_signs_sent i past
unfolding life_signs_sent
plain_signs_sent i past = plain-count (is_own_sign i) (blind_own_sign i) past

pub plain_life : (scenario : ScenarioParts) (i : ℕ) (past : List NoticeKind) → life_effects scenario i (plain past) ≡ life_effects scenario i past
unfolding life_effects
plain_life scenario i [] = refl
plain_life scenario i (e ∷ past) = rw (plain-length past, plain_knowledge scenario i (e ∷ past), plain_signs_sent i (e ∷ past)) refl

-- ---- vectors and views

blind_vector_got : (format : Format) (cycle : ℕ) (v : Nodes) → IsBlind (is_vector_got format cycle v)
blind_vector_got format cycle v Idle = refl
blind_vector_got format cycle v Bad = refl
blind_vector_got format cycle v (Got f) = refl
blind_vector_got format cycle v (Sent f) = refl

blind_vector_sent : (format : Format) (cycle i : ℕ) (v : Nodes) → IsBlind (is_vector_sent format cycle i v)
blind_vector_sent format cycle i v Idle = refl
blind_vector_sent format cycle i v Bad = refl
blind_vector_sent format cycle i v (Got f) = refl
blind_vector_sent format cycle i v (Sent f) = refl

plain_covered : (p : Parameters) (cycle i : ℕ) (v : Nodes) (past : List NoticeKind) → is_covered p cycle i v (plain past) ≡ is_covered p cycle i v past
unfolding is_covered
plain_covered p cycle i v past =
    rw (
      plain-any (is_vector_sent p.format cycle i v) (blind_vector_sent p.format cycle i v) past,
      plain-count (is_vector_got p.format cycle v) (blind_vector_got p.format cycle v) past,
    ) refl

plain_vector : (p : Parameters) (inc i slot : ℕ) (past : List NoticeKind) (old w : Option Nodes)
    → vector_effects p inc i slot (plain past) old w ≡ vector_effects p inc i slot past old w
unfolding vector_effects
plain_vector p inc i slot past old None = refl
plain_vector p inc i slot past old (Some w) = rw (plain_covered p _ i _ past) refl

plain_brought : (p : Parameters) (slot : ℕ) (e : NoticeKind) → brought p slot (error_as_idle e) ≡ brought p slot e
unfolding brought
plain_brought p slot Idle = refl
plain_brought p slot Bad = refl
plain_brought p slot (Got f) = refl
plain_brought p slot (Sent f) = refl

plain_exchange_at : (p : Parameters) (inc i : ℕ) (e : NoticeKind) (past : List NoticeKind) (old start : Option Nodes)
    → exchange_at p inc i (error_as_idle e) (plain past) old start ≡ exchange_at p inc i e past old start
unfolding exchange_at
plain_exchange_at p inc i e past old start =
    rw (plain-length past, plain_brought p (length past) e, plain_vector p inc i (length past) (e ∷ past) old (brought p (length past) e)) refl

plain_start : (p : Parameters) (i slot : ℕ) (e : NoticeKind) (st : Knowledge) → start_in p i slot (error_as_idle e) st ≡ start_in p i slot e st
unfolding after_life told after_ask brought
plain_start p i slot Idle st = refl
plain_start p i slot Bad st = refl
plain_start p i slot (Got f) st = refl
plain_start p i slot (Sent f) st = refl

plain_ended : (p : Parameters) (slot : ℕ) (e : NoticeKind) (st : Knowledge) → ended_in p slot (error_as_idle e) st ≡ ended_in p slot e st
plain_ended p slot e st = rw (plain_brought p slot e) refl

pub plain_exchange : (scenario : ScenarioParts) (i : ℕ) (past : List NoticeKind) → exchange_effects scenario i (plain past) ≡ exchange_effects scenario i past
unfolding exchange_effects
plain_exchange scenario i [] = refl
plain_exchange scenario i (e ∷ past) =
    let st : Knowledge = knowledge_of scenario i past in
    rw (plain_knowledge scenario i past, plain-length past, plain_start scenario.params i (length past) e st)
    (plain_exchange_at scenario.params scenario.inc i e past st.vector (start_in scenario.params i (length past) e st))

pub plain_install : (scenario : ScenarioParts) (i : ℕ) (past : List NoticeKind) → install_effects scenario i (plain past) ≡ install_effects scenario i past
unfolding install_effects
plain_install scenario i [] = refl
plain_install scenario i (e ∷ past) =
    rw (plain_knowledge scenario i past, plain-length past, plain_brought scenario.params (length past) e) refl

pub plain_asks : (scenario : ScenarioParts) (i : ℕ) (past : List NoticeKind) → ask_effects scenario i (plain past) ≡ ask_effects scenario i past
unfolding ask_effects
plain_asks scenario i [] = refl
plain_asks scenario i (e ∷ past) = rw (plain-length past, plain_knowledge scenario i (e ∷ past)) refl
