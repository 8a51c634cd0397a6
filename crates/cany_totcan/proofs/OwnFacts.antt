-- The node's own messages: which sequence numbers they have, and what a notice says of one of them.
use Rattle.std.proofs.Common.{◌≡◌, ◌≢◌, ℕ, zero, suc, ◌+◌, ◌<◌, ◌==◌, ◌&&◌, ◌||◌, Bool, true, false, inl, inr, List, [], ◌∷◌, Contains, None, Some, count_by, length, replicate, slice_set, refl, ap, sym, ◌∙◌, subst, arith}
use Rattle.std.proofs.lemmas.Bool.{cases_eq, eq-eqb, or_right}
use Rattle.std.proofs.lemmas.Bool.Decides.{nat_tests}
use Rattle.std.proofs.lemmas.List.{get_or-set_same, get_or-set_other, length-set, length-replicate}
use Rattle.cany_base.specs.declared.class.Class.TheVariants as class
use Rattle.cany_base.specs.declared.message.MsgKey.{MsgKey}
use Rattle.cany_base.specs.declared.message.SendAsk.{SendAsk}
use Rattle.cany_base.specs.declared.message.Service.TheVariants as service
use Rattle.cany_base.specs.declared.notice.NoticeKind.{NoticeKind}
use Rattle.cany_base.specs.declared.notice.NoticeKind.TheVariants.{Idle, Got, Sent, Bad}
use Rattle.cany_base.specs.Frame.{FrameParts}
use Rattle.cany_base.specs.Scenario.{ScenarioParts}
use Rattle.cany_message.proofs.HistoryFacts.{has_own-idle, has_own-more, is_this}
use Rattle.cany_model.specs.Bus.Frames.{Identity, is_of, same_class, same_identity}
use Rattle.cany_model.specs.Bus.History.{has_own, is_sent}
use Rattle.cany_model.specs.Rules.Messages.{Message, data_id, is_from, messages_after, messages_of}
use Rattle.cany_model.specs.Rules.Notices.{BelongsTo, IsDataOf}
use Rattle.cany_model.specs.Rules.Totcan.{holds, tot_of_key}
use Rattle.cany_model.proofs.Among.{Among-from_Contains, Each-weaker, count-cons, count-yes}
use Rattle.cany_model.proofs.Rules.Services.MessageKeys.{IsOneOf}
use Rattle.cany_totcan.specs.declared.backlog.OwnMessage.{OwnMessage}
use Rattle.cany_totcan.specs.Backlog.{BacklogParts, blank, own_at}
use Rattle.cany_totcan.specs.Totcan.{IsBacklogOf, key_of, place_of}

-- ---- sequence numbers

seq_after : (earlier sends : List SendAsk) (m : Message) → IsOneOf (messages_after earlier sends) m
    → m.seq < count_by (is_from m.origin) earlier + count_by (is_from m.origin) sends
unfolding messages_after
seq_after earlier [] m h = absurd h
seq_after earlier (send ∷ sends) m (inl e) =
    let at : count_by (is_from send.node) earlier ≡ m.seq = ap (λ (k : Message). k.seq) e in
    let node : send.node ≡ m.origin = ap (λ (k : Message). k.origin) e in
    let counts : count_by (is_from send.node) earlier ≡ count_by (is_from m.origin) earlier = ap (λ n. count_by (is_from n) earlier) node in
    omega (arith, count-yes (is_from m.origin) send sends (eq-eqb send.node m.origin node))
seq_after earlier (send ∷ sends) m (inr h) =
    omega (arith, seq_after (send ∷ earlier) sends m h, count-cons (is_from m.origin) send earlier, count-cons (is_from m.origin) send sends)

-- the number of a message is below that of the sends of its origin
pub seq_below : (scenario : ScenarioParts) (m : Message) → Contains (messages_of scenario.sends) m → m.seq < count_by (is_from m.origin) scenario.sends
seq_below scenario m stands = omega (arith, seq_after [] scenario.sends m (Among-from_Contains (messages_of scenario.sends) m stands))

-- and so is that of a data frame
pub own_number : (scenario : ScenarioParts) (i : ℕ) (f : FrameParts) → IsDataOf scenario service.Tot f → f.node ≡ i
    → f.number < count_by (is_from i) scenario.sends
own_number scenario i f d own =
    let number : d.message.seq ≡ f.number = ap (λ (g : FrameParts). g.number) d.frame in
    let origin : d.message.origin ≡ i = ap (λ (g : FrameParts). g.node) d.frame ∙ own in
    omega (arith, seq_below scenario d.message d.stands, ap (λ n. count_by (is_from n) scenario.sends) origin)

pub own_number-belongs : (scenario : ScenarioParts) (slot i : ℕ) (f : FrameParts) → f.class ≡ class.Tot → BelongsTo scenario slot f.class f → f.node ≡ i
    → f.number < count_by (is_from i) scenario.sends
own_number-belongs scenario slot i f tot belongs own = own_number scenario i f (subst (λ c. BelongsTo scenario slot c f) tot belongs) own

-- ---- which message of the node a notice brings

-- whether it brings the data frame of a message of the node
abbrev pub brings_own : ℕ → NoticeKind → Bool
brings_own i Idle = false
brings_own i (Got f) = same_class f.class class.Tot && f.node == i
brings_own i (Sent f) = same_class f.class class.Tot && f.node == i
brings_own i Bad = false

-- the notice brings the data frame of the message of node i that has this number, and whether it is
-- the node's own transmission
pub record IsOfOwn (i seq : ℕ) (is_own : Bool) (notice : NoticeKind) : Type 0 where
  pub here : holds (key_of seq i) notice ≡ true
  pub own : is_sent (tot_of_key (key_of seq i)) notice ≡ is_own
  pub others : (s : ℕ) → s ≢ seq → holds (key_of s i) notice ≡ false
  pub none_sent : (s : ℕ) → s ≢ seq → is_sent (tot_of_key (key_of s i)) notice ≡ false

module _ (i : ℕ) (f : FrameParts) (tot : f.class ≡ class.Tot) (own : f.node ≡ i) where
  of_this : is_of (tot_of_key (key_of f.number i)) f ≡ true
  of_this = is_this class.Tot f.number i f tot ∙ grind (arith, nat_tests)

  of_other : (s : ℕ) → s ≢ f.number → is_of (tot_of_key (key_of s i)) f ≡ false
  of_other s apart = is_this class.Tot s i f tot ∙ grind (arith, nat_tests)

  pub got_own : IsOfOwn i f.number false (Got f)
  got_own = record {
    here = ap (λ b. b || false) of_this;
    own = refl;
    others = λ s apart. ap (λ b. b || false) (of_other s apart);
    none_sent = λ s apart. refl;
  }

  pub sent_own : IsOfOwn i f.number true (Sent f)
  sent_own = record { here = of_this; own = of_this; others = of_other; none_sent = of_other }

of_none : (seq i : ℕ) (f : FrameParts) → (same_class f.class class.Tot && f.node == i) ≡ false → is_of (tot_of_key (key_of seq i)) f ≡ false
unfolding same_identity same_class
of_none seq i f none = grind (arith, nat_tests)

holds_none : (seq i : ℕ) (notice : NoticeKind) → brings_own i notice ≡ false → holds (key_of seq i) notice ≡ false
holds_none seq i Idle none = refl
holds_none seq i Bad none = refl
holds_none seq i (Got f) none = ap (λ b. b || false) (of_none seq i f none)
holds_none seq i (Sent f) none = of_none seq i f none

sent_none : (seq i : ℕ) (notice : NoticeKind) → brings_own i notice ≡ false → is_sent (tot_of_key (key_of seq i)) notice ≡ false
sent_none seq i Idle none = refl
sent_none seq i Bad none = refl
sent_none seq i (Got f) none = refl
sent_none seq i (Sent f) none = of_none seq i f none

-- ---- one notice more

-- what `Backlog::note` makes of a message
abbrev pub noted_message : (seq slot : ℕ) → Bool → BacklogParts → OwnMessage
noted_message seq slot is_own v = record (own_at v.own seq) { sent = is_own || (own_at v.own seq).sent; place = Some slot }

-- and of the backlog
abbrev pub noted : (seq slot : ℕ) → Bool → BacklogParts → BacklogParts
noted seq slot is_own v = record v { own = slice_set v.own seq (noted_message seq slot is_own v) }

-- a part of a message after one was replaced
pub field_set : {X : Type 0} (field : OwnMessage → X) (own : List OwnMessage) (seq s : ℕ) (y : OwnMessage) (r : X) → seq < length own
    → (s ≡ seq → field y ≡ r) → (s ≢ seq → field (own_at own s) ≡ r) → field (own_at (slice_set own seq y) s) ≡ r
field_set field own seq s y r within here other = elim (cases_eq s seq) [
  | inl e ↦ ap (λ k. field (own_at (slice_set own seq y) k)) e ∙ ap field (get_or-set_same own seq y blank within) ∙ here e
  | inr apart ↦ ap field (get_or-set_other own seq s y blank apart) ∙ other apart
]

place-here : (key : MsgKey) (notice : NoticeKind) (before : List NoticeKind) → holds key notice ≡ true → place_of key (notice ∷ before) ≡ Some (length before)
unfolding place_of
place-here key notice before is = rw is refl

place-kept : (key : MsgKey) (notice : NoticeKind) (before : List NoticeKind) → holds key notice ≡ false → place_of key (notice ∷ before) ≡ place_of key before
unfolding place_of
place-kept key notice before none = rw none refl

own-kept : (x : Identity) (notice : NoticeKind) (before : List NoticeKind) → is_sent x notice ≡ false → has_own x (notice ∷ before) ≡ has_own x before
own-kept x notice before none = has_own-more x notice before ∙ ap (λ b. b || has_own x before) none

-- it stands for other notices too in which each message of the node is placed and sent as in these
pub backlog_same : (scenario : ScenarioParts) (i : ℕ) (before after : List NoticeKind) (messages : List Message) (count : ℕ) (v : BacklogParts)
    → ((seq : ℕ) → has_own (tot_of_key (key_of seq i)) after ≡ has_own (tot_of_key (key_of seq i)) before)
    → ((seq : ℕ) → place_of (key_of seq i) after ≡ place_of (key_of seq i) before)
    → ((m : Message) → has_own (data_id m) before ≡ true → has_own (data_id m) after ≡ true)
    → IsBacklogOf scenario i before messages count v → IsBacklogOf scenario i after messages count v
backlog_same scenario i before after messages count v sent placed earlier h = record {
  given = h.given;
  are_own = h.are_own;
  asked = h.asked;
  some = h.some;
  room = h.room;
  own = h.own;
  sent = λ seq within. h.sent seq within ∙ sym (sent seq);
  places = λ seq within. h.places seq within ∙ sym (placed seq);
  marks = h.marks;
  earlier = Each-weaker _ _ earlier _ h.earlier;
}

module _ (scenario : ScenarioParts) (i : ℕ) (notice : NoticeKind) (before : List NoticeKind) (messages : List Message) (count : ℕ) (v : BacklogParts)
    (h : IsBacklogOf scenario i before messages count v) where
  -- what was sent stays sent
  earlier-more : (m : Message) → has_own (data_id m) before ≡ true → has_own (data_id m) (notice ∷ before) ≡ true
  earlier-more m sent = has_own-more (data_id m) notice before ∙ or_right (is_sent (data_id m) notice) (has_own (data_id m) before) sent

  -- the notice brings no message of the node
  pub own_other : brings_own i notice ≡ false → IsBacklogOf scenario i (notice ∷ before) messages count v
  own_other none =
      backlog_same scenario i before (notice ∷ before) messages count v (λ seq. own-kept (tot_of_key (key_of seq i)) notice before (sent_none seq i notice none))
      (λ seq. place-kept (key_of seq i) notice before (holds_none seq i notice none)) earlier-more h

  -- the notice brings the data frame of one of them, as `Backlog::note` takes it down
  module _ (seq slot : ℕ) (is_own : Bool) (brings : IsOfOwn i seq is_own notice) (at : slot ≡ length before) (within : seq < length v.own) where
    is_sent-noted : (s : ℕ) → s < length v.own → (own_at (noted seq slot is_own v).own s).sent ≡ has_own (tot_of_key (key_of s i)) (notice ∷ before)
    is_sent-noted s in_range =
        field_set (λ m. m.sent) v.own seq s (noted_message seq slot is_own v) _ within
        (λ here.
        ap (λ b. is_own || b) (h.sent seq within)
        ∙ ap (λ b. b || has_own (tot_of_key (key_of seq i)) before) (sym brings.own)
        ∙ sym (has_own-more (tot_of_key (key_of seq i)) notice before)
        ∙ ap (λ k. has_own (tot_of_key (key_of k i)) (notice ∷ before)) (sym here))
        (λ apart. h.sent s in_range ∙ sym (own-kept (tot_of_key (key_of s i)) notice before (brings.none_sent s apart)))

    place-noted : (s : ℕ) → s < length v.own → (own_at (noted seq slot is_own v).own s).place ≡ place_of (key_of s i) (notice ∷ before)
    place-noted s in_range =
        field_set (λ m. m.place) v.own seq s (noted_message seq slot is_own v) _ within
        (λ here.
        ap (λ n. Some n) at ∙ sym (place-here (key_of seq i) notice before brings.here)
        ∙ ap (λ k. place_of (key_of k i) (notice ∷ before)) (sym here))
        (λ apart. h.places s in_range ∙ sym (place-kept (key_of s i) notice before (brings.others s apart)))

    asked-noted : (s : ℕ) → (own_at (noted seq slot is_own v).own s).asked ≡ (own_at v.own s).asked
    asked-noted s =
        field_set (λ m. m.asked) v.own seq s (noted_message seq slot is_own v) _ within
        (λ here. ap (λ k. (own_at v.own k).asked) (sym here)) (λ apart. refl)

    pub own_noted : IsBacklogOf scenario i (notice ∷ before) messages count (noted seq slot is_own v)
    own_noted =
        let same : length (noted seq slot is_own v).own ≡ length v.own = length-set v.own seq (noted_message seq slot is_own v) in
        record {
          given = h.given;
          are_own = h.are_own;
          asked = h.asked;
          some = h.some;
          room = h.room;
          own = same ∙ h.own;
          sent = λ s in_range. is_sent-noted s (omega arith);
          places = λ s in_range. place-noted s (omega arith);
          marks = λ s. asked-noted s ∙ h.marks s;
          earlier = Each-weaker _ _ earlier-more _ h.earlier;
        }

-- ---- the beginning

own-blank : (n seq : ℕ) → own_at (replicate n blank) seq ≡ blank
own-blank zero seq = refl
own-blank (suc n) zero = refl
own-blank (suc n) (suc seq) = own-blank n seq

place-idle : (key : MsgKey) (n : ℕ) → place_of key (replicate n Idle) ≡ None
unfolding place_of
place-idle key zero = refl
place-idle key (suc n) = place-idle key n

-- what `Backlog::build` gives, also after idle slots
pub backlog_fresh : (scenario : ScenarioParts) (i n : ℕ)
    → IsBacklogOf scenario i (replicate n Idle) [] 0
    (record { given = []; room = count_by (is_from i) scenario.sends; asked = 0; own = replicate (count_by (is_from i) scenario.sends) blank })
backlog_fresh scenario i n =
    let none = own-blank (count_by (is_from i) scenario.sends) in
    record {
      given = refl;
      are_own = tt;
      asked = refl;
      some = omega arith;
      room = refl;
      own = length-replicate (count_by (is_from i) scenario.sends) blank;
      sent = λ s within. ap (λ (m : OwnMessage). m.sent) (none s) ∙ sym (has_own-idle (tot_of_key (key_of s i)) n);
      places = λ s within. ap (λ (m : OwnMessage). m.place) (none s) ∙ sym (place-idle (key_of s i) n);
      marks = λ s. ap (λ (m : OwnMessage). m.asked) (none s);
      earlier = tt;
    }
