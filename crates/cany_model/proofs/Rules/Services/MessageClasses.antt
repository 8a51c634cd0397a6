-- The classes of the frames of messages: of data, and of what confirms or accepts it.
use Rattle.std.proofs.Common.{◌≡◌, ℕ, ◌||◌, inl, inr, Bool, true, false, List, refl, ap, ◌∙◌}
use Rattle.std.specs.List.{AllByRecursion}
use Rattle.std.proofs.lemmas.Bool.{or_cases}
use Rattle.cany_base.specs.declared.class.Class.{Class}
use Rattle.cany_base.specs.declared.class.Class.TheVariants as class
use Rattle.cany_base.specs.declared.message.Service.{Service}
use Rattle.cany_base.specs.declared.message.Service.TheVariants.{Ed, Rel, Tot}
use Rattle.cany_base.specs.declared.notice.NoticeKind.{NoticeKind}
use Rattle.cany_base.specs.Frame.{FrameParts, data_class}
use Rattle.cany_base.specs.Scenario.{ScenarioParts}
use Rattle.cany_model.specs.Bus.Frames.{same_class}
use Rattle.cany_model.specs.Rules.Effect.{Effect, Ask, Enter, Withdraw}
use Rattle.cany_model.specs.Rules.Protocol.{Protocol}
use Rattle.cany_model.proofs.Among.{Each-weaker}
use Rattle.cany_model.proofs.Bus.Identities.{same_class-true}
use Rattle.cany_model.proofs.Rules.ProtocolFacts.{IsFounded, IsLawful}
use Rattle.cany_model.proofs.Rules.Waits.{AsksOnly}

abbrev pub is_of_message : Class → Bool
is_of_message class.Accept = true
is_of_message class.Confirm = true
is_of_message class.Tot = true
is_of_message class.Rel = true
is_of_message class.Ed = true
is_of_message other = false

pub data_of_message : (by : Service) → is_of_message (data_class by) ≡ true
data_of_message Ed = refl
data_of_message Rel = refl
data_of_message Tot = refl

-- a class is of no message where it is the same as one that is of none
pub same_other : (c d : Class) → is_of_message d ≡ false → same_class c d ≡ true → is_of_message c ≡ false
same_other c d other same = ap is_of_message (same_class-true c d same) ∙ other

-- asks to join and to leave are of no message
pub request_other : (c : Class) → (same_class c class.Join || same_class c class.Leave) ≡ true → is_of_message c ≡ false
request_other c h = elim (or_cases (same_class c class.Join) (same_class c class.Leave) h) [
  | inl join ↦ same_other c class.Join refl join
  | inr leave ↦ same_other c class.Leave refl leave
]

-- ---- a protocol that names no class of a message asks for no frame of one

module _ (P : FrameParts → Type 0) (of_others : (f : FrameParts) → is_of_message f.class ≡ false → P f) (p : Protocol)
    (other : (c : Class) → p.names c ≡ true → is_of_message c ≡ false) (scenario : ScenarioParts) (i : ℕ) (past : List NoticeKind) where
  founded_other : (e : Effect) → IsFounded scenario p i past e → AsksOnly P e
  founded_other (Ask f) h = of_others f (other f.class h.1)
  founded_other (Withdraw x) h = tt
  founded_other (Enter entry) h = tt

  pub others_of : IsLawful p → AllByRecursion (AsksOnly P) (p.effects scenario i past)
  others_of lawful =
      Each-weaker (IsFounded scenario p i past) (AsksOnly P) founded_other (p.effects scenario i past) (lawful.founded scenario i past)
