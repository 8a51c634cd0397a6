-- A protocol that delivers no message.
use Rattle.std.proofs.Common.{◌≡◌, ℕ, false, List, [], ◌∷◌, cond, count_by, refl, sym, ◌∙◌, arith}
use Rattle.std.specs.List.{AllByRecursion}
use Rattle.std.proofs.lemmas.Bool.{false≢true}
use Rattle.std.proofs.lemmas.List.Sums.{sum_by-append}
use Rattle.cany_base.specs.declared.log_entry.LogEntry.{LogEntry}
use Rattle.cany_base.specs.declared.log_entry.LogEntry.TheVariants.{Deliver, Failed, View}
use Rattle.cany_base.specs.declared.message.MsgKey.{MsgKey}
use Rattle.cany_base.specs.declared.message.Service.{Service}
use Rattle.cany_base.specs.declared.notice.NoticeKind.{NoticeKind}
use Rattle.cany_base.specs.Scenario.{ScenarioParts}
use Rattle.cany_model.specs.Promises.Entries.{delivers_key}
use Rattle.cany_model.specs.Rules.Effect.{Effect, Ask, Withdraw, Enter, entered}
use Rattle.cany_model.specs.Rules.Messages.{Message}
use Rattle.cany_model.specs.Rules.Protocol.{Protocol}
use Rattle.cany_model.proofs.Among.{count-no}
use Rattle.cany_model.proofs.Rules.IdleBeforeTakingPart.{IsBegun}
use Rattle.cany_model.proofs.Rules.ProtocolFacts.{IsFounded, IsFoundedEntry, IsLawful, log_by}

abbrev NoDelivery : MsgKey → LogEntry → Type 0
NoDelivery key entry = delivers_key key entry ≡ false

undelivered : (scenario : ScenarioParts) (p : Protocol) → ((by : Service) → p.delivers by ≡ false)
    → (i : ℕ) (past : List NoticeKind) (key : MsgKey) (entry : LogEntry)
    → IsFoundedEntry scenario p i past entry → NoDelivery key entry
undelivered scenario p never i past key (Deliver slot by msg payload) k = absurd (false≢true (sym (never by) ∙ k.serves))
undelivered scenario p never i past key (Failed slot node cycle) k = refl
undelivered scenario p never i past key (View slot number members) k = refl

none_entered : (scenario : ScenarioParts) (p : Protocol) → ((by : Service) → p.delivers by ≡ false) → (i : ℕ) (past : List NoticeKind) (key : MsgKey)
    → (effects : List Effect) → AllByRecursion (IsFounded scenario p i past) effects → count_by (delivers_key key) (entered effects) ≡ 0
unfolding entered
none_entered scenario p never i past key [] h = refl
none_entered scenario p never i past key (Ask f ∷ effects) h = none_entered scenario p never i past key effects h.1
none_entered scenario p never i past key (Withdraw x ∷ effects) h = none_entered scenario p never i past key effects h.1
none_entered scenario p never i past key (Enter entry ∷ effects) h =
    count-no (delivers_key key) entry (entered effects) (undelivered scenario p never i past key entry h.0)
    ∙ none_entered scenario p never i past key effects h.1

-- a protocol that delivers no service enters no delivery
delivers_none : (p : Protocol) → ((by : Service) → p.delivers by ≡ false)
    → ((scenario : ScenarioParts) (i : ℕ) (past : List NoticeKind) → AllByRecursion (IsFounded scenario p i past) (p.effects scenario i past))
    → (scenario : ScenarioParts) (i : ℕ) (key : MsgKey) (past : List NoticeKind) → count_by (delivers_key key) (log_by p scenario i past) ≡ 0
delivers_none p never founded scenario i key [] = refl
delivers_none p never founded scenario i key (e ∷ past) =
    sum_by-append (λ entry. cond (delivers_key key entry) 1 0) (log_by p scenario i past) (entered (p.effects scenario i (e ∷ past)))
    ∙ omega (
      arith,
      delivers_none p never founded scenario i key past,
      none_entered scenario p never i (e ∷ past) key (p.effects scenario i (e ∷ past)) (founded scenario i (e ∷ past)),
    )

-- So it is lawful if it has nothing ahead, does nothing in a turn of a node that has only begun,
-- and has a reason for each effect.
pub undelivering_is_lawful : (p : Protocol) → ((by : Service) → p.delivers by ≡ false)
    → ((scenario : ScenarioParts) (m : Message) (i : ℕ) (past : List NoticeKind) → p.ahead scenario m i past ≡ false)
    → ((scenario : ScenarioParts) (i : ℕ) → p.effects scenario i [] ≡ [])
    → ((scenario : ScenarioParts) (i : ℕ) (e : NoticeKind) (past : List NoticeKind) → IsBegun scenario (e ∷ past) → p.effects scenario i (e ∷ past) ≡ [])
    → ((scenario : ScenarioParts) (i : ℕ) (past : List NoticeKind) → AllByRecursion (IsFounded scenario p i past) (p.effects scenario i past))
    → IsLawful p
undelivering_is_lawful p never nothing_ahead unread muted founded = record {
  muted = λ scenario i past begun. mute scenario i past begun;
  founded = founded;
  ahead_serves = λ scenario m i past h. absurd (false≢true (sym (nothing_ahead scenario m i past) ∙ h));
  once = λ scenario i key past. omega (arith, delivers_none p never founded scenario i key past);
}
  where
    mute : (scenario : ScenarioParts) (i : ℕ) (past : List NoticeKind) → IsBegun scenario past → p.effects scenario i past ≡ []
    mute scenario i [] begun = unread scenario i
    mute scenario i (e ∷ past) begun = muted scenario i e past begun
