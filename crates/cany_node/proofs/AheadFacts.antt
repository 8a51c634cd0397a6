-- What is ahead of a message, by its service.
use Rattle.std.proofs.Common.{◌≡◌, ◌||◌, ℕ, false, true, Bool, List, refl, sym, subst}
use Rattle.cany_base.specs.declared.message.Service.TheVariants.{Ed, Rel, Tot}
use Rattle.cany_base.specs.declared.notice.NoticeKind.{NoticeKind}
use Rattle.cany_base.specs.Scenario.{ScenarioParts}
use Rattle.cany_model.specs.Bus.Frames.{same_class}
use Rattle.cany_model.specs.Rules.Messages.{Message, is_service}
use Rattle.cany_model.specs.Rules.Relcan.{has_timer_ahead}
use Rattle.cany_model.specs.Rules.Totcan.{has_closing_ahead}
use Rattle.cany_model.specs.Rules.Turn.{is_ahead_at}

or_false : (b : Bool) → b ≡ (b || false)
or_false true = refl
or_false false = refl

-- of a message of EDCAN nothing is ahead, of one of RELCAN a timer alone, and of one of TOTCAN a
-- closing alone
module _ (scenario : ScenarioParts) (m : Message) (i : ℕ) (past : List NoticeKind) where
  pub of_edcan : m.service ≡ Ed → false ≡ is_ahead_at scenario m i past
  unfolding is_service same_class
  of_edcan e = subst (λ by. false ≡ is_ahead_at scenario (record m { service = by }) i past) (sym e) refl

  pub of_relcan : m.service ≡ Rel → has_timer_ahead scenario m i past ≡ is_ahead_at scenario m i past
  unfolding is_service same_class
  of_relcan e =
      subst (λ by. has_timer_ahead scenario (record m { service = by }) i past ≡ is_ahead_at scenario (record m { service = by }) i past) (sym e)
      (or_false (has_timer_ahead scenario (record m { service = Rel }) i past))

  pub of_totcan : m.service ≡ Tot → has_closing_ahead scenario m i past ≡ is_ahead_at scenario m i past
  unfolding is_service same_class
  of_totcan e =
      subst (λ by. has_closing_ahead scenario (record m { service = by }) i past ≡ is_ahead_at scenario (record m { service = by }) i past) (sym e)
      (or_false (has_closing_ahead scenario (record m { service = Tot }) i past))
