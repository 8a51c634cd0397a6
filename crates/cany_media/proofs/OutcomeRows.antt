-- Worked rows of what a slot comes to over the two lines of a bus of three nodes.
use Rattle.std.proofs.Common.{ℕ, zero, suc, ◌≡◌, ◌≤◌, [], ◌∷◌, None, Some, refl, ap, sym, ◌∙◌, subst, arith}
use Rattle.std.proofs.lemmas.Bool.{false≢true}
use Rattle.std.proofs.lemmas.Option.{none-some, same_Some}
use Rattle.cany_base.specs.declared.class.Class.TheVariants.{Ed, Tot}
use Rattle.cany_base.specs.declared.format.Format.TheVariants.{One}
use Rattle.cany_base.specs.Frame.{FrameParts, key_of}
use Rattle.cany_base.specs.Nodes.{Nodes, has}
use Rattle.cany_base.proofs.NodesFacts.{AllBelow-bits}
use Rattle.cany_model.proofs.RowWords.{set}
use Rattle.can_arbiter.specs.Offers.{OfferTable, offer_at}
use Rattle.can_arbiter.specs.Outcome.{AreSenders, IsWinner}
use Rattle.cany_media.specs.declared.line.Line.{Line}
use Rattle.cany_media.specs.declared.line.Line.TheVariants.{Whole, Down, Split}
use Rattle.cany_media.specs.declared.outcome.MediaOutcome.TheVariants.{Idle, Joined, Parted}
use Rattle.cany_media.specs.Lines.{some_node}
use Rattle.cany_media.specs.Outcome.{IsMediaOutcome}

-- node 1 offers a data frame of EDCAN, and node 2 one of TOTCAN, which has the lesser key
abbrev ed : FrameParts
ed = record { class = Ed; number = 0; node = 1; inc = 0; payload = 1 ∷ [] }

abbrev tot : FrameParts
tot = record { class = Tot; number = 0; node = 2; inc = 0; payload = 2 ∷ [] }

abbrev offers : OfferTable
offers = record { format = One; frames = None ∷ Some ed ∷ Some tot ∷ [] }

abbrev no_offers : OfferTable
no_offers = record { format = One; frames = None ∷ None ∷ None ∷ [] }

-- ---- nobody offers

nobody_offers : (node : ℕ) → offer_at no_offers node ≡ None
nobody_offers zero = refl
nobody_offers (suc zero) = refl
nobody_offers (suc (suc zero)) = refl
nobody_offers (suc (suc (suc node))) = refl

-- whether a line is whole or none is
idle_slot : (lines : Line × Line) → IsMediaOutcome no_offers lines 3 Idle
idle_slot lines = nobody_offers

-- ---- the frame of TOTCAN wins

tot_has_least_key : (other : ℕ) (rival : FrameParts) → offer_at offers other ≡ Some rival → key_of One tot ≤ key_of One rival
tot_has_least_key zero rival offered = absurd (none-some rival offered)
tot_has_least_key (suc zero) rival offered = subst (λ f. key_of One tot ≤ key_of One f) (same_Some ed rival offered) (omega arith)
tot_has_least_key (suc (suc zero)) rival offered = subst (λ f. key_of One tot ≤ key_of One f) (same_Some tot rival offered) (omega arith)
tot_has_least_key (suc (suc (suc other))) rival offered = absurd (none-some rival offered)

no_lesser_node : (other : ℕ) (rival : FrameParts) → offer_at offers other ≡ Some rival → key_of One rival ≡ key_of One tot → 2 ≤ other
no_lesser_node zero rival offered same = absurd (none-some rival offered)
no_lesser_node (suc zero) rival offered same =
    let of_ed : key_of One ed ≡ key_of One tot = ap (key_of One) (same_Some ed rival offered) ∙ same in absurd (omega (arith, of_ed))
no_lesser_node (suc (suc other)) rival offered same = omega arith

tot_wins : IsWinner offers tot
tot_wins = record { node = 2; offered = refl; least_key = tot_has_least_key; least_node = no_lesser_node }

node_2_sends : AreSenders offers tot (set 4)
unfolding has
node_2_sends zero = (λ h. absurd (false≢true h), λ e. absurd (none-some tot e))
node_2_sends (suc zero) = (λ h. absurd (false≢true h), λ e. absurd (other_payload (same_Some ed tot e)))
  where
    other_payload : ed ≡ tot → ⊥
    other_payload e = let same : 1 ≡ 2 = ap (λ f. f.node) e in omega (arith, same)
node_2_sends (suc (suc zero)) = (λ h. refl, λ e. refl)
node_2_sends (suc (suc (suc node))) = (λ h. let below = AllBelow-bits 3 (set 4) (omega arith) (suc (suc (suc node))) h in absurd (omega (arith, below)), λ e. absurd (none-some tot e))

-- ---- and is carried as on one bus where a line is whole

joined_over_the_whole_line : IsMediaOutcome offers (Down, Whole) 3 (Joined tot (set 4))
joined_over_the_whole_line = (tot_wins, node_2_sends, refl)

joined_over_a_split_of_all : IsMediaOutcome offers (Split (set 7), Down) 3 (Joined tot (set 4))
unfolding some_node has
joined_over_a_split_of_all = (tot_wins, node_2_sends, refl)

parted_where_both_are_down : IsMediaOutcome offers (Down, Down) 3 (Parted tot (set 4))
parted_where_both_are_down = (tot_wins, node_2_sends, refl)

parted_where_both_are_split : IsMediaOutcome offers (Split (set 1), Split (set 4)) 3 (Parted tot (set 4))
unfolding some_node has
parted_where_both_are_split = (tot_wins, node_2_sends, refl)

-- ---- and no other outcome

not_parted_over_a_whole_line : IsMediaOutcome offers (Down, Whole) 3 (Parted tot (set 4)) → ⊥
not_parted_over_a_whole_line h = false≢true (sym h.2)

not_joined_over_none : IsMediaOutcome offers (Down, Down) 3 (Joined tot (set 4)) → ⊥
not_joined_over_none h = false≢true h.2

not_idle_where_one_offers : (lines : Line × Line) → IsMediaOutcome offers lines 3 Idle → ⊥
not_idle_where_one_offers lines h = none-some ed (sym (h 1))

-- the frame of EDCAN loses
ed_does_not_win : (lines : Line × Line) (senders : Nodes) → IsMediaOutcome offers lines 3 (Joined ed senders) → ⊥
ed_does_not_win lines senders h = let least = h.0.least_key 2 tot refl in omega (arith, least)

-- node 1 does not send the frame of node 2
node_1_does_not_send : (lines : Line × Line) → IsMediaOutcome offers lines 3 (Joined tot (set 6)) → ⊥
unfolding has
node_1_does_not_send lines h = let other : 1 ≡ 2 = ap (λ f. f.node) (same_Some ed tot ((h.1 1).0 refl)) in omega (arith, other)
