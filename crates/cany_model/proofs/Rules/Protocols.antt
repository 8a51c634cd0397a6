-- The protocols of a turn, each with what is proved of it: one line for each in each list.
use Rattle.std.proofs.Common.{◌≡◌, ◌≤◌, inl, inr, count_by, refl, arith}
use Rattle.std.specs.List.{AllByRecursion}
use Rattle.cany_base.specs.declared.message.Service.{Service}
use Rattle.cany_base.specs.declared.message.Service.TheVariants.{Ed, Rel, Tot}
use Rattle.cany_model.specs.Bus.Frames.{same_class}
use Rattle.cany_model.specs.Rules.Backlog.{tot_backlog}
use Rattle.cany_model.specs.Rules.Edcan.{edcan}
use Rattle.cany_model.specs.Rules.Life.{failure_signs, life_signs}
use Rattle.cany_model.specs.Rules.Membership.{scripted_asks, vectors, views}
use Rattle.cany_model.specs.Rules.Messages.{is_service}
use Rattle.cany_model.specs.Rules.Protocol.{Protocol}
use Rattle.cany_model.specs.Rules.Relcan.{relcan}
use Rattle.cany_model.specs.Rules.Sends.{scripted_sends}
use Rattle.cany_model.specs.Rules.Totcan.{totcan}
use Rattle.cany_model.specs.Rules.Turn.{protocols}
use Rattle.cany_model.proofs.Among.{Among}
use Rattle.cany_model.proofs.Rules.Services.BacklogFacts.{backlog_is_lawful}
use Rattle.cany_model.proofs.Rules.Services.EdcanFacts.{edcan_is_lawful}
use Rattle.cany_model.proofs.Rules.Site.LifeFacts.{failures_are_lawful, life_is_lawful}
use Rattle.cany_model.proofs.Rules.ProtocolFacts.{IsLawful}
use Rattle.cany_model.proofs.Rules.Services.RelcanFacts.{relcan_is_lawful}
use Rattle.cany_model.proofs.Rules.Services.SendFacts.{sends_are_lawful}
use Rattle.cany_model.proofs.Rules.Services.TotcanFacts.{totcan_is_lawful}
use Rattle.cany_model.proofs.Rules.Site.VectorFacts.{vectors_are_lawful}
use Rattle.cany_model.proofs.Rules.Site.ViewFacts.{asks_are_lawful, views_are_lawful}

pub are_lawful : AllByRecursion IsLawful protocols
are_lawful = (
  edcan_is_lawful,
  (
    relcan_is_lawful,
    (
      totcan_is_lawful,
      (
        failures_are_lawful,
        (
          vectors_are_lawful,
          (
            views_are_lawful,
            (
              life_is_lawful,
              (sends_are_lawful, (asks_are_lawful, (backlog_is_lawful, tt))),
            ),
          ),
        ),
      ),
    ),
  ),
)

-- ---- where each stands

abbrev pub IsProtocol : Protocol → Type 0
IsProtocol p = Among (λ q. q ≡ p) protocols

pub edcan_is_one : IsProtocol edcan
edcan_is_one = inl refl

pub relcan_is_one : IsProtocol relcan
relcan_is_one = inr (inl refl)

pub totcan_is_one : IsProtocol totcan
totcan_is_one = inr (inr (inl refl))

pub failures_are_one : IsProtocol failure_signs
failures_are_one = inr (inr (inr (inl refl)))

pub vectors_are_one : IsProtocol vectors
vectors_are_one = inr (inr (inr (inr (inl refl))))

pub views_are_one : IsProtocol views
views_are_one = inr (inr (inr (inr (inr (inl refl)))))

pub life_is_one : IsProtocol life_signs
life_is_one = inr (inr (inr (inr (inr (inr (inl refl))))))

pub sends_are_one : IsProtocol scripted_sends
sends_are_one = inr (inr (inr (inr (inr (inr (inr (inl refl)))))))

pub asks_are_one : IsProtocol scripted_asks
asks_are_one = inr (inr (inr (inr (inr (inr (inr (inr (inl refl))))))))

pub backlog_is_one : IsProtocol tot_backlog
backlog_is_one = inr (inr (inr (inr (inr (inr (inr (inr (inr (inl refl)))))))))

-- ---- no two deliver the messages of one service

ed_once : count_by (λ p. p.delivers Ed) protocols ≡ 1
unfolding is_service same_class
ed_once = refl

rel_once : count_by (λ p. p.delivers Rel) protocols ≡ 1
unfolding is_service same_class
rel_once = refl

tot_once : count_by (λ p. p.delivers Tot) protocols ≡ 1
unfolding is_service same_class
tot_once = refl

pub one_delivers : (by : Service) → count_by (λ p. p.delivers by) protocols ≤ 1
one_delivers Ed = omega (arith, ed_once)
one_delivers Rel = omega (arith, rel_once)
one_delivers Tot = omega (arith, tot_once)
