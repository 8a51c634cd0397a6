-- A notice is to the counts of a frame that it does not bring as an idle slot.
use Rattle.std.specs.List.{list_any}
use Rattle.std.proofs.Common.{◌≡◌, ◌||◌, false, List, ◌∷◌, refl, ap, sym, ◌∙◌}
use Rattle.cany_base.specs.declared.notice.NoticeKind.{NoticeKind}
use Rattle.cany_base.specs.declared.notice.NoticeKind.TheVariants.{Idle}
use Rattle.cany_model.specs.Bus.Frames.{Identity}
use Rattle.cany_model.specs.Bus.History.{copies, has_own, is_got, is_sent}
use Rattle.cany_model.proofs.Among.{count-no}

module _ (x : Identity) (e : NoticeKind) (past : List NoticeKind) where
  pub copies_unread : is_got x e ≡ false → copies x (e ∷ past) ≡ copies x (Idle ∷ past)
  unfolding copies
  copies_unread none = count-no (is_got x) e past none ∙ sym (count-no (is_got x) Idle past refl)

  pub own_unread : is_sent x e ≡ false → has_own x (e ∷ past) ≡ has_own x (Idle ∷ past)
  unfolding has_own
  own_unread none = ap (λ b. b || list_any (is_sent x) past) none
