-- The sends before a place of a script, newest first, and how many of them a node has.
use Rattle.std.proofs.Common.{◌≡◌, ℕ, suc, ◌+◌, ◌<◌, ◌≤◌, List, [], ◌∷◌, ◌++◌, count_by, drop, drop-cons, get_or, length, reverse, take, sym, ap, ◌∙◌, arith, add-one}
use Rattle.std.proofs.Math.Seq.{take-suc}
use Rattle.std.proofs.lemmas.List.{length-reverse, length-take-le, reverse-append}
use Rattle.std.proofs.lemmas.List.Sums.{count_by-le-length}
use Rattle.cany_base.specs.declared.message.SendAsk.{SendAsk}
use Rattle.cany_model.specs.Rules.Messages.{is_from, message_of, messages_after}
use Rattle.cany_base.specs.Limits.{most_nodes}
use Rattle.cany_message.specs.Sequence.{sent_by, HaveCounted}

-- the sends before a place, newest first
abbrev pub before : List SendAsk → ℕ → List SendAsk
before sends i = reverse (take i sends)

module _ (sends : List SendAsk) (i : ℕ) (send : SendAsk) (within : i < length sends) (here : send ≡ get_or sends i send) where
  pub before_next : before sends (i + 1) ≡ send ∷ before sends i
  before_next =
      let longer : take (i + 1) sends ≡ take i sends ++ send ∷ [] = rw add-one (take-suc sends i send within ∙ ap (λ x. take i sends ++ x ∷ []) (sym here)) in
      ap reverse longer ∙ reverse-append (take i sends) (send ∷ [])

  -- the messages from a place on
  pub messages_from : messages_after (before sends i) (drop i sends) ≡ message_of (before sends i) send ∷ messages_after (before sends (i + 1)) (drop (i + 1) sends)
  unfolding messages_after
  messages_from =
      let first : drop i sends ≡ send ∷ drop (i + 1) sends = rw add-one (drop-cons sends i send within ∙ ap (λ x. x ∷ drop (suc i) sends) (sym here)) in
      ap (messages_after (before sends i)) first
      ∙ ap (λ earlier. message_of (before sends i) send ∷ messages_after earlier (drop (i + 1) sends)) (sym before_next)

  pub counted_next : (numbers : List ℕ) → HaveCounted (send ∷ before sends i) numbers → HaveCounted (before sends (i + 1)) numbers
  counted_next numbers counted node small = counted node small ∙ ap (count_by (is_from node)) (sym before_next)

-- a node sends no more than all do
pub counted_few : (sends : List SendAsk) (i : ℕ) (numbers : List ℕ) (node : ℕ) → HaveCounted (before sends i) numbers → node < most_nodes → i ≤ length sends → sent_by numbers node ≤ i
counted_few sends i numbers node counted small within =
    omega (arith, counted node small, count_by-le-length (is_from node) (before sends i), length-reverse (take i sends), length-take-le i sends within)
