-- What the tests of an account decide of a run: that a node has delivered a message, that it knows
-- a sign, and that a set is empty.
use Rattle.std.proofs.Common.{◌≡◌, ℕ, ◌<◌, ◌==◌, ◌&&◌, true, false, nat_lt, List, [], ◌∷◌, refl, ap, sym, subst, ◌∙◌, inl, inr, Contains}
use Rattle.std.specs.List.{list_any}
use Rattle.std.proofs.lemmas.Bool.{and_from, and_parts, cases_Bool, eq-eqb, eqb-true, false≢true, lt-ltb}
use Rattle.std.proofs.lemmas.Slice.Eq.{bytes_eq-Decides}
use Rattle.std.specs.Str.{bytes_eq}
use Rattle.cany_base.specs.declared.log_entry.LogEntry.{LogEntry}
use Rattle.cany_base.specs.declared.log_entry.LogEntry.TheVariants.{Deliver, Failed, View}
use Rattle.cany_base.specs.declared.message.MsgKey.{MsgKey}
use Rattle.cany_base.specs.declared.message.Service.{Service}
use Rattle.cany_base.specs.declared.message.Service.TheVariants as service
use Rattle.cany_base.specs.Limits.{most_nodes}
use Rattle.cany_base.specs.Nodes.{has, is_nobody}
use Rattle.cany_base.specs.Scenario.{ScenarioParts}
use Rattle.cany_base.proofs.NodesFacts.{has-those_where, has_none}
use Rattle.cany_base.proofs.EmptyFacts.{is_nobody-from, is_nobody-true}
use Rattle.cany_model.specs.Bus.Frames.{same_class}
use Rattle.cany_model.specs.Bus.State.{RunState}
use Rattle.cany_model.specs.Promises.Entries.{HasDelivered, HasLoggedFailure, is_delivery_of, tells_of}
use Rattle.cany_model.specs.Rules.Knowledge.{FailureSign}
use Rattle.cany_model.specs.Rules.Log.{log}
use Rattle.cany_model.specs.Rules.Messages.{Message, is_service, message_key}
use Rattle.cany_model.proofs.Among.{Among, Among-from_Contains, Among-from_any, Among-weaker, Among-which, any-from_Among}
use Rattle.cany_check.specs.Accounts.Account.{LogParts, message_record, sign_record}
use Rattle.cany_check.specs.Accounts.Words.{delivers, is_delivery, knows, nodes_of, same_key, tells_sign}
use Rattle.cany_check.proofs.Deciding.CorrectLogs.{log_at}
use Rattle.cany_check.proofs.Deciding.HolderFacts.{no_nodes}

-- ---- keys and services

pub same_key-true : (a b : MsgKey) → same_key a b ≡ true → a ≡ b
same_key-true a b h =
    let parts = and_parts (a.origin == b.origin) (a.seq == b.seq) h in
    λ k. record { origin = (eqb-true a.origin b.origin parts.0) k; seq = (eqb-true a.seq b.seq parts.1) k }

pub same_key-self : (a b : MsgKey) → a ≡ b → same_key a b ≡ true
same_key-self a b e =
    and_from (a.origin == b.origin) (a.seq == b.seq) (eq-eqb a.origin b.origin (ap (λ (x : MsgKey). x.origin) e)) (eq-eqb a.seq b.seq (ap (λ (x : MsgKey). x.seq) e))

pub is_service-true : (a b : Service) → is_service a b ≡ true → a ≡ b
unfolding is_service same_class
is_service-true service.Ed service.Ed h = refl
is_service-true service.Ed service.Rel h = absurd (false≢true h)
is_service-true service.Ed service.Tot h = absurd (false≢true h)
is_service-true service.Rel service.Ed h = absurd (false≢true h)
is_service-true service.Rel service.Rel h = refl
is_service-true service.Rel service.Tot h = absurd (false≢true h)
is_service-true service.Tot service.Ed h = absurd (false≢true h)
is_service-true service.Tot service.Rel h = absurd (false≢true h)
is_service-true service.Tot service.Tot h = refl

pub is_service-self : (a : Service) → is_service a a ≡ true
unfolding is_service same_class
is_service-self service.Ed = refl
is_service-self service.Rel = refl
is_service-self service.Tot = refl

-- ---- deliveries

module _ (scenario : ScenarioParts) (s : RunState) (i : ℕ) (m : Message) where
  entry_delivers : (entry : LogEntry) → is_delivery (message_record scenario s m) entry ≡ true → Contains (log scenario s i) entry → HasDelivered scenario s i m
  entry_delivers (Deliver slot by msg payload) h stands =
      let outer = and_parts (same_key (message_key m) msg && is_service m.service by) (bytes_eq m.payload payload) h in
      let inner = and_parts (same_key (message_key m) msg) (is_service m.service by) outer.0 in
      record {
        entry = Deliver slot by msg payload;
        stands = stands;
        delivers = (same_key-true (message_key m) msg inner.0, is_service-true m.service by inner.1, (bytes_eq-Decides m.payload payload).0 outer.1);
      }
  entry_delivers (Failed slot node cycle) h stands = absurd (false≢true h)
  entry_delivers (View slot number members) h stands = absurd (false≢true h)

  pub has_delivered : delivers (message_record scenario s m) (log_at scenario s i) ≡ true → HasDelivered scenario s i m
  has_delivered h =
      let some = Among-which (λ entry. is_delivery (message_record scenario s m) entry ≡ true) (log scenario s i)
      (Among-from_any (is_delivery (message_record scenario s m)) (log scenario s i) h) in
      entry_delivers some.0 some.2 some.1

  delivery_passes : (entry : LogEntry) (d : HasDelivered scenario s i m) → entry ≡ d.entry → is_delivery (message_record scenario s m) d.entry ≡ true
  delivery_passes entry d e = passes d.entry d.delivers
    where
      passes : (x : LogEntry) → is_delivery_of m x → is_delivery (message_record scenario s m) x ≡ true
      passes (Deliver slot by msg payload) is =
          and_from (same_key (message_key m) msg && is_service m.service by) (bytes_eq m.payload payload)
          (and_from (same_key (message_key m) msg) (is_service m.service by) (same_key-self (message_key m) msg is.0)
          (subst (λ x. is_service m.service x ≡ true) is.1 (is_service-self m.service)))
          ((bytes_eq-Decides m.payload payload).1 is.2)
      passes (Failed slot node cycle) is = absurd is
      passes (View slot number members) is = absurd is

  pub delivers_from : HasDelivered scenario s i m → delivers (message_record scenario s m) (log_at scenario s i) ≡ true
  delivers_from d =
      any-from_Among (is_delivery (message_record scenario s m)) (log scenario s i)
      (Among-weaker (λ entry. entry ≡ d.entry) (λ entry. is_delivery (message_record scenario s m) entry ≡ true)
      (λ entry e. ap (is_delivery (message_record scenario s m)) e ∙ delivery_passes entry d e) (log scenario s i) (Among-from_Contains (log scenario s i) d.entry d.stands))

-- ---- signs

module _ (scenario : ScenarioParts) (s : RunState) (i : ℕ) (sign : FailureSign) where
  entry_tells : (entry : LogEntry) → tells_sign (sign_record s sign) entry ≡ true → Contains (log scenario s i) entry → HasLoggedFailure scenario s i sign
  entry_tells (Deliver slot by msg payload) h stands = absurd (false≢true h)
  entry_tells (Failed slot node cycle) h stands =
      let parts = and_parts (node == sign.node) (cycle == sign.cycle) h in
      record { entry = Failed slot node cycle; stands = stands; tells = (eqb-true node sign.node parts.0, eqb-true cycle sign.cycle parts.1) }
  entry_tells (View slot number members) h stands = absurd (false≢true h)

  pub has_signed : knows (sign_record s sign) (log_at scenario s i) ≡ true → HasLoggedFailure scenario s i sign
  has_signed h =
      let some = Among-which (λ entry. tells_sign (sign_record s sign) entry ≡ true) (log scenario s i)
      (Among-from_any (tells_sign (sign_record s sign)) (log scenario s i) h) in
      entry_tells some.0 some.2 some.1

  telling_passes : (x : LogEntry) → tells_of sign x → tells_sign (sign_record s sign) x ≡ true
  telling_passes (Deliver slot by msg payload) is = absurd is
  telling_passes (Failed slot node cycle) is = and_from (node == sign.node) (cycle == sign.cycle) (eq-eqb node sign.node is.0) (eq-eqb cycle sign.cycle is.1)
  telling_passes (View slot number members) is = absurd is

  pub knows_from : HasLoggedFailure scenario s i sign → knows (sign_record s sign) (log_at scenario s i) ≡ true
  knows_from d =
      any-from_Among (tells_sign (sign_record s sign)) (log scenario s i)
      (Among-weaker (λ entry. entry ≡ d.entry) (λ entry. tells_sign (sign_record s sign) entry ≡ true)
      (λ entry e. ap (tells_sign (sign_record s sign)) e ∙ telling_passes d.entry d.tells) (log scenario s i) (Among-from_Contains (log scenario s i) d.entry d.stands))

-- ---- sets

-- a set with a log of a node that there can be is not empty
has_node : (ys : List LogParts) (y : LogParts) → y.node < most_nodes → Among (λ z. z ≡ y) ys → has (nodes_of ys) y.node ≡ true
unfolding nodes_of
has_node ys y within among =
    has-those_where (λ i. list_any (λ log. log.node == i) ys) y.node
    ∙ and_from (nat_lt y.node most_nodes) (list_any (λ log. log.node == y.node) ys) (lt-ltb y.node most_nodes within)
    (any-from_Among (λ log. log.node == y.node) ys
    (Among-weaker (λ z. z ≡ y) (λ z. (z.node == y.node) ≡ true) (λ z e. eq-eqb z.node y.node (ap (λ (w : LogParts). w.node) e)) ys among))

pub somebody : (logs : List LogParts) (x : LogParts) → x.node < most_nodes → Among (λ y. y ≡ x) logs → is_nobody (nodes_of logs) ≡ false
somebody logs x below there = elim (cases_Bool (is_nobody (nodes_of logs))) [
  | inl none ↦ absurd (false≢true (sym (has_none x.node) ∙ sym (ap (λ set. has set x.node) (is_nobody-true (nodes_of logs) none)) ∙ has_node logs x below there))
  | inr some ↦ some
]

-- one that is not empty has a log
pub some_log : (logs : List LogParts) → is_nobody (nodes_of logs) ≡ false → (x : LogParts) × Among (λ y. y ≡ x) logs
some_log [] h = absurd (false≢true (sym h ∙ is_nobody-from (nodes_of []) no_nodes))
some_log (x ∷ logs) h = (x, inl refl)
