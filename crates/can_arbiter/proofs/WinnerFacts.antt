-- Who still sends after the walk has the offer of the least key.
use Rattle.std.proofs.Common.{◌≡◌, ℕ, ◌/◌, ◌^◌, ◌≤◌, Bool, Some, IsTrue, is_some, arith, sym, ◌∙◌, ap}
use Rattle.std.specs.Prelude.{Option}
use Rattle.std.specs.Option.{option_map_or}
use Rattle.cany_base.specs.Frame.{FrameParts, key_of}
use Rattle.can_arbiter.specs.Levels.{levels_of}
use Rattle.can_arbiter.specs.Offers.{OfferTable, does_offer, offer_at, word_at}
use Rattle.can_arbiter.specs.Outcome.{IsWinner}
use Rattle.can_arbiter.specs.Walk.{Leads, IsWalked}
use Rattle.can_arbiter.proofs.OrderFacts.{keys_at_most, levels_same}

-- the walk over the offers is done, and the first of those that still send offers the frame
pub record IsDone (offers : OfferTable) (sending : ℕ → Bool) (first : ℕ) (frame : FrameParts) : Type 0 where
  pub walked : IsWalked (does_offer offers) sending (word_at offers) 0
  pub sends : IsTrue (sending first)
  pub least : (i : ℕ) → IsTrue (sending i) → first ≤ i
  pub offered : offer_at offers first ≡ Some frame

it_offers : (offers : OfferTable) (i : ℕ) (f : FrameParts) → offer_at offers i ≡ Some f → IsTrue (does_offer offers i)
it_offers offers i f offered = ap is_some offered

word_is : (offers : OfferTable) (i : ℕ) (f : FrameParts) → offer_at offers i ≡ Some f → word_at offers i ≡ levels_of offers.format f
word_is offers i f offered = ap (λ (o : Option FrameParts). option_map_or (levels_of offers.format) o 0) offered

whole : (n : ℕ) → n / 2 ^ 0 ≡ n
whole n = omega arith

module _ (offers : OfferTable) (sending : ℕ → Bool) (first : ℕ) (frame : FrameParts) (done : IsDone offers sending first frame) where
  -- a node with an offer of the same key still sends
  pub still_sends : (i : ℕ) (f : FrameParts) → offer_at offers i ≡ Some f → key_of offers.format f ≡ key_of offers.format frame → IsTrue (sending i)
  still_sends i f offered same =
      let leads : Leads (does_offer offers) (word_at offers) 0 first = done.walked.leads first done.sends in
      let equal : word_at offers i ≡ word_at offers first =
      word_is offers i f offered ∙ levels_same offers.format f frame same ∙ sym (word_is offers first frame done.offered) in
      done.walked.stays i (record {
        offers = it_offers offers i f offered;
        least = λ k o. rw equal (leads.least k o);
      })

  pub wins : IsWinner offers frame
  wins = record {
    node = first;
    offered = done.offered;
    least_key = λ other rival offered.
        let leads : Leads (does_offer offers) (word_at offers) 0 first = done.walked.leads first done.sends in
        let word_at_most : word_at offers first / 2 ^ 0 ≤ word_at offers other / 2 ^ 0 = leads.least other (it_offers offers other rival offered) in
        let here : word_at offers first ≡ levels_of offers.format frame = word_is offers first frame done.offered in
        let there : word_at offers other ≡ levels_of offers.format rival = word_is offers other rival offered in
        let at_most : levels_of offers.format frame ≤ levels_of offers.format rival = omega (arith, whole (word_at offers first), whole (word_at offers other)) in
        keys_at_most offers.format frame rival at_most;
    least_node = λ other rival offered same. done.least other (still_sends other rival offered same);
  }
