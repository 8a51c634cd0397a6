-- How many frames may wait at a node: of each class at most as many as its room, and so of all
-- fewer than the room.
use Rattle.std.proofs.Common.{◌≡◌, ℕ, zero, suc, ◌++◌, ◌*◌, suc-mul, ◌+◌, ◌<◌, ◌≤◌, ◌&&◌, inl, inr, Bool, true, false, cond, List, [], ◌∷◌, length, count_by, sum_by, refl, ap, sym, ◌∙◌, subst, arith}
use Rattle.std.specs.List.{AllByRecursion}
use Rattle.std.proofs.Math.Nat.{add-mul, mul-add}
use Rattle.std.proofs.lemmas.Bool.{and_from, cases_Bool, cases_eq, cases_lt}
use Rattle.std.proofs.lemmas.List.Sums.{sum_by-append, sum_by-cons, sum_by-le-sum_by}
use Rattle.cany_base.specs.declared.class.Class.{Class}
use Rattle.cany_base.specs.declared.class.Class.TheVariants.{Accept, Rha, Els, Fda, Join, Leave, Confirm, Tot, Rel, Ed}
use Rattle.cany_base.specs.declared.message.NodeAsk.{NodeAsk}
use Rattle.cany_base.specs.declared.message.SendAsk.{SendAsk}
use Rattle.cany_base.specs.declared.message.Service.{Service}
use Rattle.cany_base.specs.declared.message.Service.TheVariants as service
use Rattle.cany_base.specs.Frame.{FrameParts}
use Rattle.cany_base.specs.Scenario.{ScenarioParts}
use Rattle.cany_model.specs.Bus.Frames.{Identity, identity_of, is_of, same_class}
use Rattle.cany_model.specs.Rules.Messages.{IsOfMessage, Message, is_service, message_of, messages_after, messages_of}
use Rattle.cany_model.specs.Rules.Rooms.{IsAskable, IsAskableAs, IsOfAsk, IsOfNode, IsOfVector, cycles, sends_by, waiting_room}
use Rattle.cany_model.specs.Rules.Knowledge.{FailureSign, fda_of, sign_of}
use Rattle.cany_model.specs.Rules.Vectors.{rha_of}
use Rattle.cany_base.specs.Cycles.{cycle_of}
use Rattle.cany_model.specs.Rules.Views.{ask_of}
use Rattle.cany_model.proofs.Among.{Among, Among-append_left, Among-append_right, Among-from_Contains, Among-weaker, Each-weaker, count-cons, count-from_Among, count-no, count-yes, one_if}
use Rattle.cany_model.proofs.Bus.Identities.{same_class-true, same_identity-from}
use Rattle.cany_model.proofs.Rules.Services.MessageKeys.{is_service-from}

-- ---- the rooms of the classes

-- How many frames of a class may wait at a node: one of each message of the service; of each cycle
-- from 0 on the node's own vector, and the failure sign of each node; of life signs two before a
-- turn, which may ask for one more; and one of each scripted ask to join and to leave.
abbrev pub class_room : ScenarioParts → Class → ℕ
class_room scenario Accept = sends_by scenario service.Tot
class_room scenario Rha = cycles scenario + 1
class_room scenario Els = 3
class_room scenario Fda = scenario.params.nodes * (cycles scenario + 1)
class_room scenario Join = length scenario.joins
class_room scenario Leave = length scenario.leaves
class_room scenario Confirm = sends_by scenario service.Rel
class_room scenario Tot = sends_by scenario service.Tot
class_room scenario Rel = sends_by scenario service.Rel
class_room scenario Ed = sends_by scenario service.Ed

-- ---- counting

-- Where each that is counted is hit by one of the others, and each of the others that counts hits
-- one at most and else none, there are at most as many of them.
module _ {X Y : Type 0} (hits : Y → X → Bool) (p : X → Bool) (q : Y → Bool) where
  hits_more : (x : X) (xs : List X) (ys : List Y)
      → sum_by (λ y. count_by (hits y) (x ∷ xs)) ys ≡ count_by (λ y. hits y x) ys + sum_by (λ y. count_by (hits y) xs) ys
  hits_more x xs [] = refl
  hits_more x xs (y ∷ ys) =
      omega (
        arith,
        sum_by-cons (λ z. count_by (hits z) (x ∷ xs)) y ys,
        sum_by-cons (λ z. count_by (hits z) xs) y ys,
        count-cons (λ z. hits z x) y ys,
        count-cons (hits y) x xs,
        hits_more x xs ys,
      )

  covered : (xs : List X) (ys : List Y) → AllByRecursion (λ x. p x ≡ true → Among (λ y. hits y x ≡ true) ys) xs
      → count_by p xs ≤ sum_by (λ y. count_by (hits y) xs) ys
  covered [] ys all = omega arith
  covered (x ∷ xs) ys all = elim (cases_Bool (p x)) [
    | inl counts ↦
        omega (arith, count-yes p x xs counts, count-from_Among (λ y. hits y x) ys (all.0 counts), hits_more x xs ys, covered xs ys all.1)
    | inr other ↦ omega (arith, count-no p x xs other, hits_more x xs ys, covered xs ys all.1)
  ]

  pub pigeonhole : (xs : List X) (ys : List Y) → AllByRecursion (λ x. p x ≡ true → Among (λ y. hits y x ≡ true) ys) xs
      → ((y : Y) → count_by (hits y) xs ≤ cond (q y) 1 0) → count_by p xs ≤ count_by q ys
  pigeonhole xs ys all few =
      omega (arith, covered xs ys all, sum_by-le-sum_by (λ y. count_by (hits y) xs) (λ y. cond (q y) 1 0) ys few)

none_hit : {X : Type 0} (xs : List X) → count_by (λ x. false) xs ≤ 0
none_hit [] = omega arith
none_hit (x ∷ xs) = omega (arith, none_hit xs, count-cons (λ y. false) x xs)

-- ---- sends and messages

-- there are as many messages of a service as sends by it
pub count_messages : (by : Service) (earlier sends : List SendAsk)
    → count_by (λ m. is_service by m.service) (messages_after earlier sends) ≡ count_by (λ send. is_service by send.service) sends
unfolding messages_after
count_messages by earlier [] = refl
count_messages by earlier (send ∷ sends) =
    omega (
      arith,
      count-cons (λ m. is_service by m.service) (message_of earlier send) (messages_after (send ∷ earlier) sends),
      count-cons (λ s. is_service by s.service) send sends,
      count_messages by (send ∷ earlier) sends,
    )

-- ---- failure signs

still_below : (j k : ℕ) → j < suc k → (k ≡ j → ⊥) → j < k
still_below j k h other = elim (cases_lt j k) [ inl less ↦ less | inr past ↦ absurd (other (omega (arith, h, past))) ]

-- those of one node in so many cycles, and of so many nodes
signs_of : ℕ → ℕ → List FailureSign
signs_of r zero = []
signs_of r (suc k) = record { node = r; cycle = k } ∷ signs_of r k

pub signs_below : ℕ → ℕ → List FailureSign
signs_below zero k = []
signs_below (suc n) k = signs_of n k ++ signs_below n k

stands_of : (r j k : ℕ) → j < k → Among (λ sign. sign ≡ record { node = r; cycle = j }) (signs_of r k)
unfolding signs_of
stands_of r j zero below = absurd (omega (arith, below))
stands_of r j (suc k) below = elim (cases_eq k j) [
  | inl e ↦ inl (ap (λ n. record { node = r; cycle = n }) e)
  | inr other ↦ inr (stands_of r j k (still_below j k below other))
]

pub stands_below : (r j n k : ℕ) → r < n → j < k → Among (λ sign. sign ≡ record { node = r; cycle = j }) (signs_below n k)
unfolding signs_below
stands_below r j zero k here below = absurd (omega (arith, here))
stands_below r j (suc n) k here below = elim (cases_eq n r) [
  | inl e ↦ Among-append_left (λ sign. sign ≡ record { node = r; cycle = j }) (signs_of n k) (signs_below n k)
      (subst (λ m. Among (λ sign. sign ≡ record { node = r; cycle = j }) (signs_of m k)) (sym e) (stands_of r j k below))
  | inr other ↦ Among-append_right (λ sign. sign ≡ record { node = r; cycle = j }) (signs_of n k) (signs_below n k)
      (stands_below r j n k (still_below r n here other) below)
]

count_of : (r k : ℕ) → count_by (λ sign. true) (signs_of r k) ≡ k
unfolding signs_of
count_of r zero = refl
count_of r (suc k) = omega (arith, count-cons (λ sign. true) (record { node = r; cycle = k }) (signs_of r k), count_of r k)

pub count_below : (n k : ℕ) → count_by (λ sign. true) (signs_below n k) ≡ n * k
unfolding signs_below
count_below zero k = omega arith
count_below (suc n) k = omega (arith, sum_by-append {X = FailureSign} (λ sign. cond true 1 0) (signs_of n k) (signs_below n k), count_of n k, count_below n k, suc-mul n k)

-- ---- cycles

-- the numbers of so many
cycles_below : ℕ → List ℕ
cycles_below zero = []
cycles_below (suc k) = k ∷ cycles_below k

cycle_stands : (j k : ℕ) → j < k → Among (λ n. n ≡ j) (cycles_below k)
unfolding cycles_below
cycle_stands j zero below = absurd (omega (arith, below))
cycle_stands j (suc k) below = elim (cases_eq k j) [
  | inl e ↦ inl e
  | inr other ↦ inr (cycle_stands j k (still_below j k below other))
]

count_cycles : (k : ℕ) → count_by (λ n. true) (cycles_below k) ≡ k
unfolding cycles_below
count_cycles zero = refl
count_cycles (suc k) = omega (arith, count-cons (λ n. true) k (cycles_below k), count_cycles k)

count_all : {X : Type 0} (xs : List X) → count_by (λ x. true) xs ≡ length xs
count_all [] = refl
count_all (x ∷ xs) = omega (arith, count-cons (λ y. true) x xs, count_all xs)

-- ---- class by class

abbrev pub is_in : Class → FrameParts → Bool
is_in c f = same_class f.class c

-- frames that node i may ask for, no two of one identity: those of each class are at most as many
-- as its room
module _ (scenario : ScenarioParts) (i : ℕ) (w : List FrameParts) (distinct : (x : Identity) → count_by (is_of x) w ≤ 1)
    (all : AllByRecursion (λ f. IsAskable scenario i (identity_of f)) w) where
  -- why a frame of the class may be asked for
  of_class : (c : Class) (f : FrameParts) → IsAskable scenario i (identity_of f) → is_in c f ≡ true → IsAskableAs scenario i (identity_of f) c
  of_class c f h in_class = subst (IsAskableAs scenario i (identity_of f)) (same_class-true f.class c in_class) h

  -- a message hits the frame of the class that is named as it is
  abbrev name : Class → Message → Identity
  name c m = record { class = c; number = m.seq; node = m.origin }

  abbrev names : Class → Service → Message → FrameParts → Bool
  names c by m f = is_service by m.service && is_of (name c m) f

  named : (c : Class) (by : Service) (f : FrameParts) → is_in c f ≡ true → IsOfMessage scenario by (identity_of f)
      → Among (λ m. names c by m f ≡ true) (messages_of scenario.sends)
  named c by f in_class m =
      let class : f.class ≡ c = same_class-true f.class c in_class in
      let same : name c m.message ≡ identity_of f = λ k. record { class = (sym class) k; number = m.number k; node = m.origin k } in
      Among-weaker (λ n. n ≡ m.message) (λ n. names c by n f ≡ true)
      (λ n e. ap (λ k. names c by k f) e
      ∙ and_from (is_service by m.message.service) (is_of (name c m.message) f) (is_service-from by m.message.service (sym m.sent_by))
      (same_identity-from (name c m.message) (identity_of f) same))
      (messages_of scenario.sends) (Among-from_Contains (messages_of scenario.sends) m.message m.stands)

  names_one : (c : Class) (by : Service) (m : Message) → count_by (names c by m) w ≤ cond (is_service by m.service) 1 0
  names_one c by m = elim (is_service by m.service) as (λ b. count_by (λ f. b && is_of (name c m) f) w ≤ cond b 1 0) [
    | true ↦ distinct (name c m)
    | false ↦ none_hit w
  ]

  -- of a class whose frames belong to the messages of a service
  of_messages : (c : Class) (by : Service) → ((x : Identity) → IsAskableAs scenario i x c → IsOfMessage scenario by x)
      → count_by (is_in c) w ≤ sends_by scenario by
  of_messages c by is =
      omega (
        arith,
        pigeonhole (names c by) (is_in c) (λ m. is_service by m.service) w (messages_of scenario.sends)
            (Each-weaker (λ f. IsAskable scenario i (identity_of f)) (λ f. is_in c f ≡ true → Among (λ m. names c by m f ≡ true) (messages_of scenario.sends))
            (λ f h in_class. named c by f in_class (is (identity_of f) (of_class c f h in_class))) w all)
            (names_one c by),
        count_messages by [] scenario.sends,
      )

  told : (f : FrameParts) → is_in Fda f ≡ true → IsOfNode scenario scenario.params.cycle (identity_of f)
      → Among (λ sign. is_of (fda_of sign) f ≡ true) (signs_below scenario.params.nodes (cycles scenario + 1))
  told f in_class h =
      let class : f.class ≡ Fda = same_class-true f.class Fda in_class in
      Among-weaker (λ sign. sign ≡ sign_of f) (λ sign. is_of (fda_of sign) f ≡ true)
      (λ sign e. same_identity-from (fda_of sign) (identity_of f) (λ k. record { class = (sym class) k; number = (e k).cycle; node = (e k).node }))
      (signs_below scenario.params.nodes (cycles scenario + 1))
      (stands_below f.node f.number scenario.params.nodes (cycles scenario + 1) h.node (omega (arith, h.number)))

  of_signs : count_by (is_in Fda) w ≤ scenario.params.nodes * (cycles scenario + 1)
  of_signs =
      omega (
        arith,
        pigeonhole (λ sign f. is_of (fda_of sign) f) (is_in Fda) (λ sign. true) w (signs_below scenario.params.nodes (cycles scenario + 1))
            (Each-weaker (λ f. IsAskable scenario i (identity_of f))
            (λ f. is_in Fda f ≡ true → Among (λ sign. is_of (fda_of sign) f ≡ true) (signs_below scenario.params.nodes (cycles scenario + 1)))
            (λ f h in_class. told f in_class (of_class Fda f h in_class)) w all)
            (λ sign. distinct (fda_of sign)),
        count_below scenario.params.nodes (cycles scenario + 1),
      )

  -- a cycle hits the vector of the node in it
  vector_told : (f : FrameParts) → is_in Rha f ≡ true → IsOfVector scenario i (identity_of f)
      → Among (λ k. is_of (rha_of k i) f ≡ true) (cycles_below (cycles scenario + 1))
  vector_told f in_class h =
      let class : f.class ≡ Rha = same_class-true f.class Rha in_class in
      Among-weaker (λ k. k ≡ f.number) (λ k. is_of (rha_of k i) f ≡ true)
      (λ k e. same_identity-from (rha_of k i) (identity_of f) (λ t. record { class = (sym class) t; number = e t; node = (sym h.node) t }))
      (cycles_below (cycles scenario + 1)) (cycle_stands f.number (cycles scenario + 1) (omega (arith, h.number)))

  of_vectors : count_by (is_in Rha) w ≤ cycles scenario + 1
  of_vectors =
      omega (
        arith,
        pigeonhole (λ k f. is_of (rha_of k i) f) (is_in Rha) (λ k. true) w (cycles_below (cycles scenario + 1))
            (Each-weaker (λ f. IsAskable scenario i (identity_of f))
            (λ f. is_in Rha f ≡ true → Among (λ k. is_of (rha_of k i) f ≡ true) (cycles_below (cycles scenario + 1)))
            (λ f h in_class. vector_told f in_class (of_class Rha f h in_class)) w all)
            (λ k. distinct (rha_of k i)),
        count_cycles (cycles scenario + 1),
      )

  -- a scripted ask hits the frame of the class by which the node makes it
  abbrev asks : Class → NodeAsk → FrameParts → Bool
  asks c ask f = is_of (ask_of c (cycle_of scenario.params ask.slot) i) f

  ask_told : (c : Class) (scripted : List NodeAsk) (f : FrameParts) → is_in c f ≡ true → IsOfAsk scenario scripted i (identity_of f)
      → Among (λ ask. asks c ask f ≡ true) scripted
  ask_told c scripted f in_class h =
      let class : f.class ≡ c = same_class-true f.class c in_class in
      let same : ask_of c (cycle_of scenario.params h.ask.slot) i ≡ identity_of f =
      λ t. record { class = (sym class) t; number = (sym h.number) t; node = (sym h.node) t } in
      Among-weaker (λ ask. ask ≡ h.ask) (λ ask. asks c ask f ≡ true)
      (λ ask e. ap (λ a. asks c a f) e ∙ same_identity-from (ask_of c (cycle_of scenario.params h.ask.slot) i) (identity_of f) same)
      scripted (Among-from_Contains scripted h.ask h.stands)

  of_asks : (c : Class) (scripted : List NodeAsk) → ((x : Identity) → IsAskableAs scenario i x c → IsOfAsk scenario scripted i x)
      → count_by (is_in c) w ≤ length scripted
  of_asks c scripted is =
      omega (
        arith,
        pigeonhole (asks c) (is_in c) (λ ask. true) w scripted
            (Each-weaker (λ f. IsAskable scenario i (identity_of f)) (λ f. is_in c f ≡ true → Among (λ ask. asks c ask f ≡ true) scripted)
            (λ f h in_class. ask_told c scripted f in_class (is (identity_of f) (of_class c f h in_class))) w all)
            (λ ask. distinct (ask_of c (cycle_of scenario.params ask.slot) i)),
        count_all scripted,
      )

  -- the life signs are counted apart
  pub few_of_class : count_by (is_in Els) w ≤ class_room scenario Els → (c : Class) → count_by (is_in c) w ≤ class_room scenario c
  few_of_class signs Accept = of_messages Accept service.Tot (λ x h. h)
  few_of_class signs Rha = of_vectors
  few_of_class signs Els = signs
  few_of_class signs Fda = of_signs
  few_of_class signs Join = of_asks Join scenario.joins (λ x h. h)
  few_of_class signs Leave = of_asks Leave scenario.leaves (λ x h. h)
  few_of_class signs Confirm = of_messages Confirm service.Rel (λ x h. h)
  few_of_class signs Tot = of_messages Tot service.Tot (λ x h. h)
  few_of_class signs Rel = of_messages Rel service.Rel (λ x h. h)
  few_of_class signs Ed = of_messages Ed service.Ed (λ x h. h)

-- ---- the ten classes together

abbrev pub over_classes : (Class → ℕ) → ℕ
over_classes f = f Accept + f Rha + f Els + f Fda + f Join + f Leave + f Confirm + f Tot + f Rel + f Ed

one_class : (c : Class) → over_classes (λ d. one_if (same_class c d)) ≡ 1
unfolding same_class
one_class Accept = refl
one_class Rha = refl
one_class Els = refl
one_class Fda = refl
one_class Join = refl
one_class Leave = refl
one_class Confirm = refl
one_class Tot = refl
one_class Rel = refl
one_class Ed = refl

-- each frame is of one class
pub all_classes : (w : List FrameParts) → length w ≡ over_classes (λ c. count_by (is_in c) w)
all_classes [] = refl
all_classes (f ∷ w) =
    let more : (c : Class) → count_by (is_in c) (f ∷ w) ≡ one_if (same_class f.class c) + count_by (is_in c) w = λ c. count-cons (is_in c) f w in
    omega (arith, more Accept, more Rha, more Els, more Fda, more Join, more Leave, more Confirm, more Tot, more Rel, more Ed, one_class f.class, all_classes w)

one_service : (by : Service) → one_if (is_service service.Tot by) + one_if (is_service service.Rel by) + one_if (is_service service.Ed by) ≡ 1
unfolding is_service same_class
one_service service.Ed = refl
one_service service.Rel = refl
one_service service.Tot = refl

-- each send is by one service
each_service : (sends : List SendAsk)
    → count_by (λ s. is_service service.Tot s.service) sends + count_by (λ s. is_service service.Rel s.service) sends
    + count_by (λ s. is_service service.Ed s.service) sends ≡ length sends
each_service [] = refl
each_service (send ∷ sends) =
    omega (
      arith,
      count-cons (λ s. is_service service.Tot s.service) send sends,
      count-cons (λ s. is_service service.Rel s.service) send sends,
      count-cons (λ s. is_service service.Ed s.service) send sends,
      one_service send.service,
      each_service sends,
    )

-- the rooms of the classes together are less than the room
pub rooms_together : (scenario : ScenarioParts) → over_classes (class_room scenario) < waiting_room scenario
rooms_together scenario =
    let nodes : ℕ = scenario.params.nodes in
    omega (arith, each_service scenario.sends, add-mul nodes 1 (cycles scenario + 2), mul-add nodes (cycles scenario) 2, mul-add nodes (cycles scenario) 1)

-- so are the frames, where the life signs are few
pub few_waiting : (scenario : ScenarioParts) (i : ℕ) (w : List FrameParts) → ((x : Identity) → count_by (is_of x) w ≤ 1)
    → AllByRecursion (λ f. IsAskable scenario i (identity_of f)) w → count_by (is_in Els) w ≤ class_room scenario Els → length w < waiting_room scenario
few_waiting scenario i w distinct all signs =
    let few : (c : Class) → count_by (is_in c) w ≤ class_room scenario c = few_of_class scenario i w distinct all signs in
    omega (arith, all_classes w, few Accept, few Rha, few Els, few Fda, few Join, few Leave, few Confirm, few Tot, few Rel, few Ed, rooms_together scenario)
