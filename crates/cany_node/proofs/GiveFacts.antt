-- The scripted sends of a slot that join the backlog, one after another.
use Rattle.std.proofs.Common.{◌≡◌, ℕ, ◌+◌, ◌<◌, ◌≤◌, ◌==◌, ◌&&◌, Bool, true, false, cond, inl, inr, List, [], ◌∷◌, ◌++◌, length, filter, map, Contains, refl, ap, sym, subst, ◌∙◌, arith, append_assoc, append-nil, count_by}
use Rattle.std.specs.List.{AllByRecursion}
use Rattle.std.proofs.lemmas.Bool.{cond_both, eq-eqb, false≢true}
use Rattle.std.proofs.lemmas.List.Elements.{filter_agree}
use Rattle.cany_base.specs.declared.message.Service.{Service}
use Rattle.cany_base.specs.declared.message.Service.TheVariants.{Ed, Rel, Tot}
use Rattle.cany_base.specs.declared.notice.NoticeKind.{NoticeKind}
use Rattle.cany_base.specs.Scenario.{ScenarioParts}
use Rattle.cany_model.specs.Rules.Backlog.{joins_in}
use Rattle.cany_model.specs.Rules.Messages.{Message, is_from, is_service, messages_of}
use Rattle.cany_model.specs.Bus.Frames.{same_class}
use Rattle.cany_model.specs.Rules.Sends.{is_sent_at_once, sendable}
use Rattle.cany_model.proofs.Among.{Among, Among-append_right, Contains-from_Among}
use Rattle.cany_model.proofs.Rules.Services.SendFacts.{sendable_one}
use Rattle.cany_totcan.specs.Totcan.{TotcanParts, IsTotcanOf}
use Rattle.cany_node.specs.declared.agenda.Planned.{Planned}
use Rattle.cany_node.specs.Agenda.{AgendaParts, IsAgendaOf, IsRising, is_due, is_for, joined_by, message_from}
use Rattle.cany_node.proofs.AgendaFacts.{filter_both}
use Rattle.cany_node.proofs.MessageLists.{planned_count, planned_within, was_there}
use Rattle.cany_node.proofs.SendFacts.{none_for, turned}

-- whether a send joins the backlog goes by its service
joins_not : (by : Service) → is_sent_at_once by ≡ true → is_service by Tot ≡ false
unfolding is_service same_class
joins_not Ed h = refl
joins_not Rel h = refl
joins_not Tot h = absurd (false≢true h)

pub joins_none : (i : ℕ) (p : Planned) (messages : List Message) (by : Service) → p.service ≡ by → is_sent_at_once by ≡ true → messages ++ joined_by i p ≡ messages
joins_none i p messages by is once =
    ap (λ b. messages ++ cond b (message_from i p ∷ []) []) (ap (λ s. is_service s Tot) is ∙ joins_not by once) ∙ append-nil messages

joins_tot : is_service Tot Tot ≡ true
unfolding is_service same_class
joins_tot = refl

pub joins_one : (i : ℕ) (p : Planned) → p.service ≡ Tot → joined_by i p ≡ message_from i p ∷ []
joins_one i p is = ap (λ b. cond b (message_from i p ∷ []) []) (ap (λ s. is_service s Tot) is ∙ joins_tot)

-- what joins the backlog of these
pub joined : ℕ → List Planned → List Message
joined i [] = []
joined i (p ∷ planned) = joined_by i p ++ joined i planned

joined-more : (i : ℕ) (planned : List Planned) (p : Planned) → joined i (planned ++ p ∷ []) ≡ joined i planned ++ joined_by i p
unfolding joined
joined-more i [] p = append-nil (joined_by i p)
joined-more i (q ∷ planned) p =
    ap (λ ms. joined_by i q ++ ms) (joined-more i planned p) ∙ sym (append_assoc (joined_by i q) (joined i planned) (joined_by i p))

one_joined : (b : Bool) (m : Message) (messages : List Message) → cond b (m ∷ []) [] ++ messages ≡ cond b (m ∷ messages) messages
one_joined true m messages = refl
one_joined false m messages = refl

joined-filter : (i : ℕ) (planned : List Planned) → joined i planned ≡ filter (λ m. is_service m.service Tot) (map (message_from i) planned)
unfolding joined
joined-filter i [] = refl
joined-filter i (p ∷ planned) =
    ap (λ ms. joined_by i p ++ ms) (joined-filter i planned)
    ∙ one_joined (is_service p.service Tot) (message_from i p) (filter (λ m. is_service m.service Tot) (map (message_from i) planned))

-- those of a slot
joined-from_slot : (i slot : ℕ) (planned : List Planned) (messages : List Message) → map (message_from i) planned ≡ filter (is_due i slot) messages
    → joined i planned ≡ filter (joins_in i slot) messages
joined-from_slot i slot planned messages same =
    joined-filter i planned ∙ ap (filter (λ m. is_service m.service Tot)) same
    ∙ filter_both (is_due i slot) (λ m. is_service m.service Tot) messages
    ∙ filter_agree (λ m. is_due i slot m && is_service m.service Tot) (joins_in i slot) (λ m. turned (m.origin == i) (m.slot == slot) (is_service m.service Tot)) messages

-- none joins in a slot for which nothing is planned
pub none_joined : (i slot : ℕ) (messages : List Message) → [] ≡ filter (is_due i slot) messages → filter (joins_in i slot) messages ≡ []
unfolding joined
none_joined i slot messages none = sym (joined-from_slot i slot [] messages none)

-- ---- what is planned for a slot are messages of the scenario

mapped : {X Y : Type 0} (f : X → Y) (x : X) (xs : List X) → Among (λ y. y ≡ x) xs → Among (λ y. y ≡ f x) (map f xs)
mapped f x [] h = absurd h
mapped f x (y ∷ xs) (inl e) = inl (ap f e)
mapped f x (y ∷ xs) (inr h) = inr (mapped f x xs h)

pub due_is_message : (scenario : ScenarioParts) (i slot : ℕ) (a : AgendaParts) → IsAgendaOf scenario i slot a → (s : ℕ) → slot ≤ s → (p : Planned)
    → Among (λ q. q ≡ p) (filter (is_for s) a.left) → Contains (messages_of scenario.sends) (message_from i p)
due_is_message scenario i slot a is s later p h =
    let due : Among (λ m. m ≡ message_from i p) (filter (is_due i s) (sendable scenario s)) =
    subst (λ ms. Among (λ m. m ≡ message_from i p) ms) (is.left s later) (mapped (message_from i) p (filter (is_for s) a.left) h) in
    let there = (was_there (is_due i s) (message_from i p) (sendable scenario s) due).0 in
    Contains-from_Among (messages_of scenario.sends) (message_from i p) (sendable_one scenario s (message_from i p) there).0

kept_here : (p : Planned) (planned : List Planned) → Among (λ q. q ≡ p) (filter (is_for p.slot) (p ∷ planned))
kept_here p planned = rw (eq-eqb p.slot p.slot refl) (inl refl)

kept_later : (s : ℕ) (p q : Planned) (planned : List Planned) → Among (λ x. x ≡ q) (filter (is_for s) planned) → Among (λ x. x ≡ q) (filter (is_for s) (p ∷ planned))
kept_later s p q planned h =
    cond_both (p.slot == s) (p ∷ filter (is_for s) planned) (filter (is_for s) planned) (λ ps. Among (λ x. x ≡ q) ps) (λ _. inr h) (λ _. h)

each_is_message : (scenario : ScenarioParts) (i from : ℕ) (planned : List Planned) → IsRising from planned
    → ((s : ℕ) → from ≤ s → (p : Planned) → Among (λ q. q ≡ p) (filter (is_for s) planned) → Contains (messages_of scenario.sends) (message_from i p))
    → AllByRecursion (λ p. Contains (messages_of scenario.sends) (message_from i p)) planned
unfolding IsRising
each_is_message scenario i from [] up of = tt
each_is_message scenario i from (p ∷ planned) up of = (
  of p.slot up.0 p (kept_here p planned),
  each_is_message scenario i p.slot planned up.1 (λ s late q h. of s (omega (arith, up.0, late)) q (kept_later s p q planned h)),
)

-- each that is still to come is such a message
pub left_is_message : (scenario : ScenarioParts) (i slot : ℕ) (a : AgendaParts) → IsAgendaOf scenario i slot a
    → AllByRecursion (λ p. Contains (messages_of scenario.sends) (message_from i p)) a.left
left_is_message scenario i slot a is =
    each_is_message scenario i slot a.left is.rising (λ s later p h. due_is_message scenario i slot a is s later p h)

-- ---- the loop

-- what was given so far, of what the slot has
pub record KeepsGiving (i slot : ℕ) (old new : AgendaParts) (was now : TotcanParts) : Type 0 where
  pub sofar : List Planned
  pub split : filter (is_for slot) old.left ≡ sofar ++ filter (is_for slot) new.left
  pub gives : (scenario : ScenarioParts) (past : List NoticeKind) (messages : List Message) (count : ℕ) → IsAgendaOf scenario i slot old
      → IsTotcanOf scenario i past messages count was → IsTotcanOf scenario i past (messages ++ joined i sofar) count now
  pub spare : length now.backlog.given + length new.left ≤ now.backlog.room
  pub own : AllByRecursion (λ p. p.seq < length now.backlog.own) new.left
  pub node : now.node ≡ was.node

pub gives-start : (i slot : ℕ) (a : AgendaParts) (t : TotcanParts) → length t.backlog.given + length a.left ≤ t.backlog.room
    → AllByRecursion (λ p. p.seq < length t.backlog.own) a.left → KeepsGiving i slot a a t t
unfolding joined
gives-start i slot a t spare own = record {
  sofar = [];
  split = refl;
  gives = λ scenario past messages count is stands. subst (λ ms. IsTotcanOf scenario i past ms count t) (sym (append-nil messages)) stands;
  spare = spare;
  own = own;
  node = refl;
}

-- what a send does to the value
pub record GivesOne (i : ℕ) (p : Planned) (was now : TotcanParts) : Type 0 where
  pub gives : (scenario : ScenarioParts) (past : List NoticeKind) (messages : List Message) (count : ℕ) → IsTotcanOf scenario i past messages count was
      → Contains (messages_of scenario.sends) (message_from i p) → IsTotcanOf scenario i past (messages ++ joined_by i p) count now
  pub given : length now.backlog.given ≤ length was.backlog.given + 1
  pub spare : now.backlog.room ≡ was.backlog.room
  pub own : length now.backlog.own ≡ length was.backlog.own
  pub node : now.node ≡ was.node

pub gives-more : (i slot : ℕ) (old mid new : AgendaParts) (was between now : TotcanParts) (p : Planned) → KeepsGiving i slot old mid was between
    → mid.left ≡ p ∷ new.left → p.slot ≡ slot → GivesOne i p between now → KeepsGiving i slot old new was now
gives-more i slot old mid new was between now p keeps split at one = record {
  sofar = keeps.sofar ++ p ∷ [];
  split = whole ∙ sym (append_assoc keeps.sofar (p ∷ []) (filter (is_for slot) new.left));
  gives = λ scenario past messages count is stands.
      subst (λ ms. IsTotcanOf scenario i past ms count now)
      (append_assoc messages (joined i keeps.sofar) (joined_by i p) ∙ ap (λ ms. messages ++ ms) (sym (joined-more i keeps.sofar p)))
      (one.gives scenario past (messages ++ joined i keeps.sofar) count (keeps.gives scenario past messages count is stands)
      (due_is_message scenario i slot old is slot (omega arith) p
      (subst (λ ps. Among (λ q. q ≡ p) ps) (sym whole) (Among-append_right (λ q. q ≡ p) keeps.sofar (p ∷ filter (is_for slot) new.left) (inl refl)))));
  spare = omega (arith, keeps.spare, one.given, one.spare, ap length split);
  own = subst (λ n. AllByRecursion (λ q. q.seq < n) new.left) (sym one.own) (subst (AllByRecursion (λ q. q.seq < length between.backlog.own)) split keeps.own).1;
  node = one.node ∙ keeps.node;
}
  where
    whole : filter (is_for slot) old.left ≡ keeps.sofar ++ p ∷ filter (is_for slot) new.left
    whole =
        keeps.split
        ∙ ap (λ ps. keeps.sofar ++ filter (is_for slot) ps) split
        ∙ ap (λ b. keeps.sofar ++ cond b (p ∷ filter (is_for slot) new.left) (filter (is_for slot) new.left)) (eq-eqb p.slot slot at)

-- once no more is for the slot
pub all_given : (scenario : ScenarioParts) (i slot : ℕ) (old new : AgendaParts) (was now : TotcanParts) → KeepsGiving i slot old new was now
    → (IsRising slot old.left → IsRising (slot + 1) new.left) → IsAgendaOf scenario i slot old → (past : List NoticeKind) (messages : List Message) (count : ℕ)
    → IsTotcanOf scenario i past messages count was → IsTotcanOf scenario i past (messages ++ filter (joins_in i slot) (sendable scenario slot)) count now
all_given scenario i slot old new was now keeps later is past messages count stands =
    let none : filter (is_for slot) new.left ≡ [] = none_for slot (slot + 1) new.left (omega arith) (later is.rising) in
    let all : filter (is_for slot) old.left ≡ keeps.sofar = keeps.split ∙ ap (λ ps. keeps.sofar ++ ps) none ∙ append-nil keeps.sofar in
    subst (λ ms. IsTotcanOf scenario i past (messages ++ ms) count now)
    (joined-from_slot i slot keeps.sofar (sendable scenario slot) (ap (map (message_from i)) (sym all) ∙ is.left slot (omega arith)))
    (keeps.gives scenario past messages count is stands)

-- the number of each send is one of the node's messages
pub left_own : (scenario : ScenarioParts) (i slot own : ℕ) (a : AgendaParts) → IsAgendaOf scenario i slot a → own ≡ count_by (is_from i) scenario.sends
    → AllByRecursion (λ p. p.seq < own) a.left
left_own scenario i slot own a is long = each a.left (left_is_message scenario i slot a is)
  where
    each : (planned : List Planned) → AllByRecursion (λ p. Contains (messages_of scenario.sends) (message_from i p)) planned → AllByRecursion (λ p. p.seq < own) planned
    each [] h = tt
    each (p ∷ planned) h = (
      omega (arith, long, planned_within i scenario.sends a.planned is.planned (message_from i p) h.0 refl, planned_count i scenario.sends a.planned is.planned),
      each planned h.1,
    )
