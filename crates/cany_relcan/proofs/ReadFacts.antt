-- The value after a notice, before the timer that ends in its turn.
use Rattle.std.specs.Prelude.{min, nat_lt}
use Rattle.std.proofs.Common.{◌≡◌, ℕ, zero, suc, ◌+◌, ◌<◌, ◌≤◌, ◌==◌, ◌&&◌, ◌||◌, Bool, true, false, if◌then◌else◌, not, List, [], ◌∷◌, ◌++◌, length, refl, ap, subst, sym, ◌∙◌, arith, length-append}
use Rattle.std.specs.List.{AllByRecursion}
use Rattle.std.proofs.lemmas.Bool.{and_parts, not-true}
use Rattle.std.proofs.lemmas.Bool.Decides.{nat_tests}
use Rattle.std.proofs.lemmas.List.{append-nil}
use Rattle.cany_base.specs.declared.class.Class.TheVariants as class
use Rattle.cany_base.specs.declared.message.Service.TheVariants as service
use Rattle.cany_base.specs.declared.notice.Notice.{Notice}
use Rattle.cany_base.specs.declared.notice.NoticeKind.{NoticeKind}
use Rattle.cany_base.specs.declared.notice.NoticeKind.TheVariants.{Idle, Got, Sent, Bad}
use Rattle.cany_base.specs.Frame.{FrameParts}
use Rattle.cany_base.specs.Scenario.{ScenarioParts}
use Rattle.cany_base.proofs.ParamsFacts.{few_slots}
use Rattle.cany_diffuse.specs.declared.learnt.Learnt.{Learnt}
use Rattle.cany_diffuse.specs.Eager.{EagerParts, copies_of, is_first_copy, is_held, is_owned, is_there, learnt_of, raised, spare_of, IsPut, IsLearnt, IsOwned}
use Rattle.cany_diffuse.proofs.LearntFacts.{first_copy_is}
use Rattle.cany_base.specs.Limits.{most_nodes}
use Rattle.cany_message.specs.Numbers.{frame_number}
use Rattle.cany_message.proofs.HistoryFacts.{has_copy-counted, identity_is}
use Rattle.cany_message.proofs.TableFacts.{IsOther}
use Rattle.cany_model.specs.Bus.Frames.{identity_of, same_class}
use Rattle.cany_model.specs.Bus.History.{copies, has_own}
use Rattle.cany_model.specs.Rules.Notices.{IsNextNotice, NamesMessage}
use Rattle.cany_model.specs.Rules.Relcan.{has_copy, is_timed}
use Rattle.cany_model.specs.Rules.Rooms.{sends_by}
use Rattle.cany_relcan.specs.declared.timers.Timer.{Timer}
use Rattle.cany_relcan.specs.Relcan.{RelcanParts, HasLimitsOf, IsRelcanOf, AreMarksOf, HasRead, CanRead, data_identity, of_own, of_none}
use Rattle.cany_relcan.specs.RelcanSteps.{holds_own, starts_timer, timers_with, was_delivered}
use Rattle.cany_relcan.specs.Timers.{TimersParts, started_by, started_since}
use Rattle.cany_relcan.proofs.TimerFacts.{started_before, started_by_one}
use Rattle.cany_relcan.proofs.TablesFacts.{tables_confirmed, tables_got, tables_other, tables_sent}

-- ---- what a caller meets

-- a value knows its node
pub at_own_node : (scenario : ScenarioParts) (i : ℕ) (past : List NoticeKind) (v : RelcanParts) → IsRelcanOf scenario i past v → IsRelcanOf scenario v.node past v
at_own_node scenario i past v h = subst (λ n. IsRelcanOf scenario n past v) (sym h.limits.node) h

pub can_read : (scenario : ScenarioParts) (i : ℕ) (past : List NoticeKind) (v : RelcanParts) (notice : Notice) → IsRelcanOf scenario i past v
    → IsNextNotice scenario past notice → CanRead v notice
can_read scenario i past v notice h next = record { scenario = scenario; past = past; stands = at_own_node scenario i past v h; next = next }

-- ---- room

-- a message that was not delivered has no entry yet
new_entry : (v : RelcanParts) (f : FrameParts) → is_there v.copies (frame_number f) ≡ is_held v.copies (frame_number f) → starts_timer v f ≡ true
    → is_there v.copies (frame_number f) ≡ false
new_entry v f there starts = there ∙ not-true (was_delivered v f) (and_parts (not (was_delivered v f)) (not (f.node == v.node)) starts).0

spare_falls : (v : RelcanParts) (f : FrameParts) (new : EagerParts) → IsPut (frame_number f) v.copies new → is_there v.copies (frame_number f) ≡ false
    → spare_of new + 1 ≡ spare_of v.copies
spare_falls v f new put absent = rw absent at (put.spare)

pub room_for_timer : (v : RelcanParts) (f : FrameParts) (new : EagerParts) → is_there v.copies (frame_number f) ≡ is_held v.copies (frame_number f)
    → (0 < spare_of v.copies → length v.timers.running < v.timers.room) → IsPut (frame_number f) v.copies new → starts_timer v f ≡ true → length v.timers.running < v.timers.room
room_for_timer v f new there fit put starts = fit (omega (arith, spare_falls v f new put (new_entry v f there starts)))

-- at most one timer starts in a slot
few_started : (i n : ℕ) (past : List NoticeKind) → length (started_since i n past) ≤ n
unfolding started_since
few_started i zero past = omega arith
few_started i (suc n) [] = omega arith
few_started i (suc n) (notice ∷ before) =
    omega (arith, length-append (started_since i n before) (started_by i notice before), few_started i n before, started_by_one i notice before)

both_less : (n a b room : ℕ) → room ≡ min a b → n < a → n < b → n < room
both_less n a b room is less_a less_b = grind (arith, nat_tests, is, less_a, less_b)

pub one_more_timer : (scenario : ScenarioParts) (i : ℕ) (past : List NoticeKind) (v : RelcanParts) → IsRelcanOf scenario i past v → 0 < spare_of v.copies
    → length v.timers.running < v.timers.room
one_more_timer scenario i past v h some =
    both_less (length v.timers.running) (sends_by scenario service.Rel) (scenario.params.confirm + 1) v.timers.room
    h.limits.timers_room
    (omega (arith, h.limits.timers_few, some))
    (omega (arith, ap (λ (timers : List Timer). length timers) h.timers, few_started i scenario.params.confirm past))

-- the timers that run were started before the slot that is read
pub timers_before : (scenario : ScenarioParts) (i : ℕ) (past : List NoticeKind) (v : RelcanParts) (slot : ℕ) → IsRelcanOf scenario i past v → slot ≡ length past
    → AllByRecursion (λ t. t.first < slot) v.timers.running
timers_before scenario i past v slot h at = rw (h.timers, at) (started_before i scenario.params.confirm past)

timers_fit : (b : Bool) (slot most : ℕ) (f : FrameParts) (v w : RelcanParts) → w.timers ≡ timers_with b slot f v.timers → IsPut (frame_number f) v.copies w.copies
    → (b ≡ true → is_there v.copies (frame_number f) ≡ false) → spare_of v.copies + length v.timers.running ≤ most → spare_of w.copies + length w.timers.running ≤ most
timers_fit true slot most f v w is put absent fit =
    let one : length (v.timers.running ++ record { frame = f; first = slot } ∷ []) ≡ length v.timers.running + 1 = length-append v.timers.running (record { frame = f; first = slot } ∷ []) in
    rw is (omega (arith, fit, one, spare_falls v f w.copies put (absent refl)))
timers_fit false slot most f v w is put absent fit = rw is (omega (arith, fit, put.spare))

same_room : (b : Bool) (slot : ℕ) (f : FrameParts) (timers : TimersParts) → (timers_with b slot f timers).room ≡ timers.room
same_room true slot f timers = refl
same_room false slot f timers = refl

-- ---- which copy is the first

-- a copy is the first that delivers the message, and none before did, where the node does not know
-- the frame as its own
first_is : (got own noted first : Bool) → first ≡ not got → (own ≡ false → noted ≡ false) → (first && not (own && (got || noted))) ≡ not (got || noted)
first_is true own noted first counted none = ap (λ b. b && not (own && true)) counted
first_is false true noted first counted none = ap (λ b. b && not noted) counted
first_is false false noted first counted none = ap (λ b. b && true) counted ∙ ap not (sym (none refl))

-- what is learnt of it, by a value that is the same
pub delivers_is : (u v : RelcanParts) (f : FrameParts) (new : EagerParts) (learnt : Learnt) → u ≡ v
    → learnt ≡ learnt_of u.copies.omit (copies_of new (frame_number f)) (is_owned u.copies (frame_number f))
    → IsLearnt (frame_number f) u.copies new → ((f.node == v.node) ≡ false → is_owned v.copies (frame_number f) ≡ false)
    → (is_first_copy learnt && not (holds_own v f)) ≡ not (was_delivered v f)
delivers_is u v f new learnt same is copy own =
    first_is (nat_lt 0 (copies_of v.copies (frame_number f))) (f.node == v.node) (is_owned v.copies (frame_number f)) (is_first_copy learnt) counted own
  where
    one : (c n : ℕ) → n ≡ raised c → (n == 1) ≡ not (nat_lt 0 c)
    one c n at = grind (arith, nat_tests, at)

    more : copies_of new (frame_number f) ≡ raised (copies_of u.copies (frame_number f))
    more = grind (arith, nat_tests, copy.copies (frame_number f))

    counted : is_first_copy learnt ≡ not (nat_lt 0 (copies_of v.copies (frame_number f)))
    counted =
        ap is_first_copy is ∙ first_copy_is u.copies.omit (copies_of new (frame_number f)) (is_owned u.copies (frame_number f))
        ∙ one (copies_of u.copies (frame_number f)) (copies_of new (frame_number f)) more
        ∙ ap (λ (w : RelcanParts). not (nat_lt 0 (copies_of w.copies (frame_number f)))) same

-- ---- which copy starts a timer

starts_when : (c at own : Bool) → (not (c || (at && own)) && not at) ≡ ((true && not at) && not c)
starts_when c at own = grind (arith, nat_tests)

with_is : (b : Bool) (slot at : ℕ) (f : FrameParts) (timers : TimersParts) → slot ≡ at
    → (timers_with b slot f timers).running ≡ timers.running ++ (if b then record { frame = f; first = at } ∷ [] else [])
with_is true slot at f timers is = rw is refl
with_is false slot at f timers is = sym (append-nil timers.running)

none_started : (i confirm : ℕ) (notice : NoticeKind) (past : List NoticeKind) (running : List Timer) → running ≡ started_since i confirm past → started_by i notice past ≡ []
    → running ≡ started_since i confirm past ++ started_by i notice past
none_started i confirm notice past running is none = rw none (is ∙ sym (append-nil (started_since i confirm past)))

-- a notice that is no copy of a data frame starts none
no_timer : (i : ℕ) (notice : NoticeKind) (past : List NoticeKind) → IsOther class.Rel (of_own i) notice → started_by i notice past ≡ []
no_timer i Idle past other = refl
no_timer i Bad past other = refl
no_timer i (Sent f) past other = refl
no_timer i (Got f) past other = rw other refl

-- ---- a frame of RELCAN

module _ (scenario : ScenarioParts) (i : ℕ) (past : List NoticeKind) (v w : RelcanParts) (f : FrameParts) (h : IsRelcanOf scenario i past v)
    (small : f.node < most_nodes) (named : NamesMessage scenario service.Rel f) where
  starts_is : f.class ≡ class.Rel → same_class f.class class.Rel ≡ true → starts_timer v f ≡ (is_timed i (identity_of f) && not (has_copy (identity_of f) past))
  starts_is rel is =
      (rw (h.tables.data_frames.copies f.number f.node small, h.tables.data_frames.owned f.number f.node small, h.limits.node)
      (starts_when (nat_lt 0 (copies (data_identity f.number f.node) past)) (f.node == i) (has_own (data_identity f.number f.node) past)))
      ∙ ap (λ b. (true && not (f.node == i)) && not b) (sym (has_copy-counted (data_identity f.number f.node) past))
      ∙ ap (λ x. (true && not (f.node == i)) && not (has_copy x past)) (sym (identity_is class.Rel f rel))
      ∙ ap (λ b. (b && not (f.node == i)) && not (has_copy (identity_of f) past)) (sym is)

  -- with other tables
  limits_with : (copies confirms : EagerParts) → spare_of copies + length v.timers.running ≤ sends_by scenario service.Rel
      → HasLimitsOf scenario i (record v { copies = copies; confirms = confirms })
  limits_with copies confirms few = record {
    legal = h.limits.legal;
    node = h.limits.node;
    format = h.limits.format;
    confirm = h.limits.confirm;
    timers_room = h.limits.timers_room;
    timers_few = few;
  }

  -- a copy of a data frame
  pub read_copy : (slot : ℕ) → f.class ≡ class.Rel → same_class f.class class.Rel ≡ true → slot ≡ length past → slot < scenario.params.slots
      → IsLearnt (frame_number f) v.copies w.copies → w ≡ record v { copies = w.copies; timers = timers_with (starts_timer v f) slot f v.timers }
      → HasRead scenario i (Got f) past w
  read_copy slot rel is at within learnt state =
      let timers : w.timers ≡ timers_with (starts_timer v f) slot f v.timers = ap (λ (x : RelcanParts). x.timers) state in
      let fallen : w.fallen ≡ v.fallen = ap (λ (x : RelcanParts). x.fallen) state in
      let confirms = ap (λ (x : RelcanParts). x.confirms) state in
      let there = h.tables.data_frames.there (frame_number f) in
      record {
        limits = record {
          legal = h.limits.legal;
          node = ap (λ (x : RelcanParts). x.node) state ∙ h.limits.node;
          format = ap (λ (x : RelcanParts). x.format) state ∙ h.limits.format;
          confirm = ap (λ (x : RelcanParts). x.confirm) state ∙ h.limits.confirm;
          timers_room = ap (λ (t : TimersParts). t.room) timers ∙ same_room (starts_timer v f) slot f v.timers ∙ h.limits.timers_room;
          timers_few = timers_fit (starts_timer v f) slot (sends_by scenario service.Rel) f v w timers learnt.put (new_entry v f there) h.limits.timers_few;
        };
        tables = rw confirms (tables_got scenario i past v.copies v.confirms h.tables f small named w.copies rel (omega (arith, at, within, few_slots scenario.params h.limits.legal.in_range)) learnt);
        timers =
            ap (λ (t : TimersParts). t.running) timers
            ∙ with_is (starts_timer v f) slot (length past) f v.timers at
            ∙ ap (λ running. running ++ (if starts_timer v f then record { frame = f; first = length past } ∷ [] else [])) h.timers
            ∙ ap (λ b. started_since i scenario.params.confirm past ++ (if b then record { frame = f; first = length past } ∷ [] else [])) (starts_is rel is);
        fallen = subst (AreMarksOf scenario i past) (sym fallen) h.fallen;
      }

  -- a confirmation
  pub read_confirmation : f.class ≡ class.Confirm → same_class f.class class.Rel ≡ false → length past < scenario.params.slots
      → IsLearnt (frame_number f) v.confirms w.confirms → w ≡ record v { confirms = w.confirms } → HasRead scenario i (Got f) past w
  read_confirmation is other within learnt state = subst (HasRead scenario i (Got f) past) (sym state) (record {
    limits = limits_with v.copies w.confirms h.limits.timers_few;
    tables = tables_confirmed scenario i past v.copies v.confirms h.tables f small named w.confirms is (omega (arith, within, few_slots scenario.params h.limits.legal.in_range)) learnt;
    timers = none_started i scenario.params.confirm (Got f) past v.timers.running h.timers (no_timer i (Got f) past other);
    fallen = h.fallen;
  })

  -- the node's own transmission of the data frame of its own message
  pub read_sent : f.class ≡ class.Rel → f.node ≡ i → IsOwned (frame_number f) v.copies w.copies → w ≡ record v { copies = w.copies } → HasRead scenario i (Sent f) past w
  read_sent rel own owned state = subst (HasRead scenario i (Sent f) past) (sym state) (record {
    limits = limits_with w.copies v.confirms (omega (arith, owned.put.spare, h.limits.timers_few));
    tables = tables_sent scenario i past v.copies v.confirms h.tables f small named w.copies rel own owned;
    timers = none_started i scenario.params.confirm (Sent f) past v.timers.running h.timers refl;
    fallen = h.fallen;
  })

-- any other notice
pub read_other : (scenario : ScenarioParts) (i : ℕ) (notice : NoticeKind) (past : List NoticeKind) (v : RelcanParts)
    → IsOther class.Rel (of_own i) notice → IsOther class.Confirm of_none notice → IsRelcanOf scenario i past v → HasRead scenario i notice past v
read_other scenario i notice past v no_data no_confirm h = record {
  limits = h.limits;
  tables = tables_other scenario i past v.copies v.confirms h.tables notice no_data no_confirm;
  timers = none_started i scenario.params.confirm notice past v.timers.running h.timers (no_timer i notice past no_data);
  fallen = h.fallen;
}
