-- Life and failure: a member shows life at intervals, and a node that learns that another one
-- failed tells of it.
use Rattle.std.specs.Prelude.{ℕ, ◌+◌, ◌==◌, ◌&&◌, ◌++◌, Bool, false, if◌then◌else◌, List, [], ◌∷◌, length, count_by}
use Rattle.std.specs.List.{flat_map}
use Rattle.cany_base.specs.declared.class.Class.TheVariants as class
use Rattle.cany_base.specs.declared.log_entry.LogEntry.TheVariants.{Failed}
use Rattle.cany_base.specs.declared.notice.NoticeKind.{NoticeKind}
use Rattle.cany_base.specs.declared.notice.NoticeKind.TheVariants.{Idle, Got, Sent, Bad}
use Rattle.cany_base.specs.Frame.{FrameParts}
use Rattle.cany_base.specs.Nodes.{has}
use Rattle.cany_base.specs.Params.{Parameters}
use Rattle.cany_model.specs.Bus.Frames.{identity_of, same_class}
use Rattle.cany_model.specs.Rules.Eager.{has_enough}
use Rattle.cany_model.specs.Rules.Effect.{Effect, Ask, Withdraw, Enter, TurnRule}
use Rattle.cany_model.specs.Rules.Protocol.{Protocol, no_service}
use Rattle.cany_model.specs.Rules.KnowledgeOf.{knowledge_of}
use Rattle.cany_model.specs.Rules.Knowledge.{FailureSign, Knowledge, fda_frame, fda_of, found_in, told_in}

-- ---- failure signs

-- A sign that becomes known is entered, and its frame is asked for, unless more than omit copies of
-- it were read. So one that silence brought is asked for once, and not again at a copy.
unfoldable pub failure_sign_effects : ℕ → ℕ → List NoticeKind → FailureSign → List Effect
failure_sign_effects omit slot past sign =
    Enter (Failed slot sign.node sign.cycle) ∷ (if has_enough omit (fda_of sign) past then [] else Ask (fda_frame sign) ∷ [])

-- at a copy with more than omit copies read the frame is withdrawn
unfoldable pub fda_copy_effects : ℕ → NoticeKind → List NoticeKind → List Effect
fda_copy_effects omit Idle past = []
fda_copy_effects omit (Got f) past =
    if same_class f.class class.Fda && has_enough omit (identity_of f) past then Withdraw (identity_of f) ∷ [] else []
fda_copy_effects omit (Sent f) past = []
fda_copy_effects omit Bad past = []

-- the sign in the notice, and then those of silence: what was read before it is given, and what the
-- node knew then
unfoldable pub failures_at : Parameters → ℕ → NoticeKind → List NoticeKind → Knowledge → List Effect
failures_at p i notice before known =
    flat_map (failure_sign_effects p.omit (length before) (notice ∷ before)) (told_in i (length before) notice known)
    ++ fda_copy_effects p.omit notice (notice ∷ before)
    ++ flat_map (failure_sign_effects p.omit (length before) (notice ∷ before)) (found_in p i (length before) notice known)

unfoldable pub failure_effects : TurnRule
failure_effects scenario i [] = []
failure_effects scenario i (notice ∷ before) = failures_at scenario.params i notice before (knowledge_of scenario i before)

abbrev pub failure_signs : Protocol
failure_signs = no_service failure_effects (λ c. same_class c class.Fda)

-- ---- life signs

-- the life sign of this number of an incarnation of node i
abbrev pub els_frame : ℕ → ℕ → ℕ → FrameParts
els_frame inc i number = record { class = class.Els; number = number; node = i; inc = inc; payload = [] }

abbrev pub is_own_sign : ℕ → NoticeKind → Bool
is_own_sign i Idle = false
is_own_sign i (Got f) = false
is_own_sign i (Sent f) = same_class f.class class.Els && f.node == i
is_own_sign i Bad = false

-- how many life signs of its own the node has sent, as it has read
unfoldable pub life_signs_sent : ℕ → List NoticeKind → ℕ
life_signs_sent i past = count_by (is_own_sign i) past

-- whether a life sign is due in the slot: the node is a member, and its own last life lies just the
-- life interval back
abbrev pub is_due : ℕ → ℕ → ℕ → Knowledge → Bool
is_due life i slot knowledge = has knowledge.members i && slot == knowledge.last + life

-- A member asks for its next life sign in the very slot in which it is due. A node that is no
-- member then misses it, until its last life is another one.
abbrev pub life_sign : ℕ → ℕ → ℕ → ℕ → Knowledge → ℕ → List Effect
life_sign life inc i slot knowledge sent = if is_due life i slot knowledge then Ask (els_frame inc i sent) ∷ [] else []

unfoldable pub life_effects : TurnRule
life_effects scenario i [] = []
life_effects scenario i (notice ∷ before) =
    life_sign scenario.params.life scenario.inc i (length before) (knowledge_of scenario i (notice ∷ before)) (life_signs_sent i (notice ∷ before))

abbrev pub life_signs : Protocol
life_signs = no_service life_effects (λ c. same_class c class.Els)
