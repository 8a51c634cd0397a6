-- When a message is settled, by what the controllers and the nodes have.
use Rattle.std.proofs.Common.{◌≡◌, ℕ, suc, ◌+◌, ◌-◌, ◌<◌, ◌≤◌, ◌&&◌, ◌||◌, Bool, true, false, not, List, [], length, get_or, map, Contains, refl, ap, sym, subst, ◌∙◌, arith}
use Rattle.std.specs.Prelude.{slice_get, option_map, is_none, is_some, IsSomeAnd, Option, None, Some}
use Rattle.std.specs.List.{list_any, list_all, range_with_len}
use Rattle.std.proofs.lemmas.Bool.{true≢false}
use Rattle.std.proofs.lemmas.List.{length-map}
use Rattle.std.proofs.lemmas.Option.{same_Some, slice_get-map, slice_get_read, slice_get_within, get_or_from_slice_get}
use Rattle.cany_base.specs.declared.message.MsgKey.{MsgKey}
use Rattle.cany_base.specs.declared.message.SendAsk.{SendAsk}
use Rattle.cany_base.specs.declared.message.Service.{Service}
use Rattle.cany_base.specs.declared.message.Service.TheVariants as service
use Rattle.cany_base.specs.declared.step.Step.{Step}
use Rattle.cany_base.specs.Frame.{FitsClass, data_class, has_incarnation}
use Rattle.cany_base.specs.Limits.{most_nodes, most_sends}
use Rattle.cany_base.specs.Params.{Parameters}
use Rattle.cany_base.specs.Scenario.{ScenarioParts, IsLegalScenario}
use Rattle.cany_base.specs.declared.notice.NoticeKind.{NoticeKind}
use Rattle.cany_base.proofs.ParamsFacts.{few_nodes}
use Rattle.cany_model.specs.Bus.History.{history}
use Rattle.cany_model.specs.Runs.Run.{all_read, run}
use Rattle.cany_model.specs.Bus.State.{RunState, node_at, runs}
use Rattle.cany_model.specs.Rules.Turn.{has_asked, is_ahead_at, scenario_at}
use Rattle.cany_model.proofs.Bus.Seen.{history-is}
use Rattle.cany_model.specs.Promises.Settled.{came_too_late, is_ahead, is_awaited, is_settled, origin_has_asked}
use Rattle.cany_model.specs.Rules.Messages.{Message, frames_named, frames_of, message_key, message_of, messages_of}
use Rattle.cany_model.proofs.Rules.ErrorFacts.{error_ahead, error_asked}
use Rattle.cany_model.proofs.Rules.Services.MessageKeys.{length-messages_of, message_at}
use Rattle.cany_model.proofs.Rules.NumberFacts.{IsBelow, message_below}
use Rattle.can_controller.specs.Controller.{ControllerState}
use Rattle.cany_node.specs.Node.{NodeParts, IsNodeOf}
use Rattle.cany_world.specs.Incarnations.{IncarnationsParts}
use Rattle.cany_world.specs.Controllers.{HaveFormat, IsSmallKey, awaits, has_read}
use Rattle.cany_world.specs.Kept.{AreControllersOf, AreNodesOf, IsKeptAs, IsKeptAt, IsPresentAt, heard_of, past_of}
use Rattle.cany_world.specs.Resting.{HaveNothingToDo}
use Rattle.cany_world.specs.Settled.{FinishedParts, IsAbout, IsFinished, is_asked, is_finished, is_queued, has_ahead}
use Rattle.cany_world.specs.declared.world.World.TheInside.{Inside}
use Rattle.cany_world.specs.World.{WorldParts, state_of}
use Rattle.cany_world.specs.WorldFields.{IsRun, world_parts}
use Rattle.cany_world.proofs.AlikeFacts.{all_read_same, awaited_same}
use Rattle.cany_world.proofs.PlaceFacts.{found}
use Rattle.cany_world.proofs.NothingToDo.{nobody_waits_where_nothing_to_do}

-- ---- the four parts

settled_is : (scenario : ScenarioParts) (journal : List Step) (m : Message) (asked awaited read ahead : Bool) → asked ≡ is_asked scenario (run scenario journal) m
    → awaited ≡ is_awaited (frames_of m) (run scenario journal) → read ≡ all_read (run scenario journal) → ahead ≡ is_ahead scenario (run scenario journal) m
    → (asked && not awaited && read && not ahead) ≡ is_settled scenario (run scenario journal) m
unfolding is_settled
settled_is scenario journal m asked awaited read ahead a b c d =
    ap (λ x. x && not awaited && read && not ahead) a
    ∙ ap (λ x. is_asked scenario (run scenario journal) m && not x && read && not ahead) b
    ∙ ap (λ x. is_asked scenario (run scenario journal) m && not (is_awaited (frames_of m) (run scenario journal)) && x && not ahead) c
    ∙ ap (λ x. is_asked scenario (run scenario journal) m && not (is_awaited (frames_of m) (run scenario journal)) && all_read (run scenario journal) && not x) d

all_four : (a b c d : Bool) → (a && (b && c) && d) ≡ (a && b && c && d)
all_four true b c d = refl
all_four false b c d = refl

pub settled_by : (scenario : ScenarioParts) (journal : List Step) (m : Message) (service : Service) (key : MsgKey) (controllers : List ControllerState) (nodes : List IncarnationsParts) (asked none_waits ahead : Bool)
    → IsAbout scenario journal m key controllers nodes → m.service ≡ service → asked ≡ is_asked scenario (run scenario journal) m
    → none_waits ≡ (not (list_any (awaits (frames_named service key)) controllers) && list_all has_read controllers) → ahead ≡ is_ahead scenario (run scenario journal) m
    → (asked && none_waits && not ahead) ≡ is_settled scenario (run scenario journal) m
settled_by scenario journal m service key controllers nodes asked none_waits ahead about by asks is has =
    let awaited : Bool = list_any (awaits (frames_named service key)) controllers in
    ap (λ q. asked && q && not ahead) is
    ∙ all_four asked (not awaited) (list_all has_read controllers) (not ahead)
    ∙ settled_is scenario journal m asked awaited (list_all has_read controllers) ahead asks
    (ap (λ k. list_any (awaits (frames_named service k)) controllers) (sym about.key) ∙ ap (λ x. list_any (awaits (frames_named x (message_key m))) controllers) (sym by)
    ∙ sym (awaited_same scenario journal controllers about.controllers (frames_of m)))
    (sym (all_read_same scenario journal controllers about.controllers)) has

-- ---- the data frame

-- it carries any bytes, and tells no incarnation
pub data_fits : (by : Service) → FitsClass (data_class by) []
data_fits service.Ed = tt
data_fits service.Rel = tt
data_fits service.Tot = tt

pub data_plain : (by : Service) → has_incarnation (data_class by) ≡ false
data_plain service.Ed = refl
data_plain service.Rel = refl
data_plain service.Tot = refl

-- ---- at one node

-- the present incarnation and what it has read
module _ (scenario : ScenarioParts) (s : RunState) (i : ℕ) (m : Message) (key : MsgKey) (v : IncarnationsParts) (it : NodeParts)
    (kept : IsKeptAt scenario s.trace i (node_at s.nodes i) v) (at : slice_get v.nodes v.present ≡ Some it) (named : message_key m ≡ key)
    (stands : Contains (messages_of scenario.sends) m) where
  p : IsPresentAt scenario s.trace i (node_at s.nodes i) v
  p = kept.present

  same : kept.present.it ≡ it
  same = let some : Some kept.present.it ≡ Some it = sym kept.present.at ∙ at in cc

  number : it.node ≡ i
  number = ap (λ (x : NodeParts). x.node) (sym same) ∙ kept.present.number

  node_of : IsNodeOf (scenario_at scenario s i) (heard_of i s.trace (node_at s.nodes i)) it
  node_of = subst (IsNodeOf (scenario_at scenario s i) (heard_of i s.trace (node_at s.nodes i))) same kept.present.stands

  -- whether it has something of the message ahead
  pub ahead_is : (c : ControllerState) (ahead : Bool) → IsKeptAs scenario s.trace i (node_at s.nodes i) c → is_none c.stopped ≡ true
      → ((follows : ScenarioParts) (past : List NoticeKind) → IsNodeOf follows past it → (x : Message) → Contains (messages_of follows.sends) x → message_key x ≡ key
      → x.service ≡ m.service → ahead ≡ is_ahead_at follows x it.node past)
      → ahead ≡ has_ahead scenario s m i
  ahead_is c ahead ctl running law =
      let follows : ScenarioParts = scenario_at scenario s i in
      let runs_here : runs (node_at s.nodes i) ≡ true = sym (ap is_none ctl.stopped) ∙ running in
      law follows (heard_of i s.trace (node_at s.nodes i)) node_of m stands named refl
      ∙ ap (λ k. is_ahead_at follows m k (heard_of i s.trace (node_at s.nodes i))) number
      ∙ error_ahead follows m i (past_of i s.trace (node_at s.nodes i))
      ∙ ap (λ past. is_ahead_at follows m i past) (sym (history-is i s))
      ∙ sym (ap (λ b. b && is_ahead_at follows m i (history i s)) runs_here)

  -- whether it has asked for the message as its origin
  pub asked_is : (asked : Bool) → m.origin ≡ i
      → ((follows : ScenarioParts) (past : List NoticeKind) → IsNodeOf follows past it → (x : Message) → Contains (messages_of follows.sends) x → message_key x ≡ key
      → x.origin ≡ it.node → asked ≡ has_asked follows x it.node past)
      → asked ≡ has_asked (scenario_at scenario s i) m i (history i s)
  asked_is asked origin law =
      let follows : ScenarioParts = scenario_at scenario s i in
      law follows (heard_of i s.trace (node_at s.nodes i)) node_of m stands named (origin ∙ sym number)
      ∙ ap (λ k. has_asked follows m k (heard_of i s.trace (node_at s.nodes i))) number
      ∙ error_asked follows m i (past_of i s.trace (node_at s.nodes i))
      ∙ ap (λ past. has_asked follows m i past) (sym (history-is i s))

pub is_running : (o : Option ℕ) (b : Bool) → is_some o ≡ not b → b ≡ true → is_none o ≡ true
is_running None b e h = refl
is_running (Some slot) b e h = absurd (true≢false (rw h at e))

-- the three ways in which the origin is done with its message: it has asked for it, has stopped, or
-- came too late for it
pub done_by_three : (scenario : ScenarioParts) (s : RunState) (m : Message) (key : MsgKey) (c : ControllerState) (v : IncarnationsParts) (it : NodeParts) (asked : Bool)
    → IsKeptAs scenario s.trace m.origin (node_at s.nodes m.origin) c → IsKeptAt scenario s.trace m.origin (node_at s.nodes m.origin) v → slice_get v.nodes v.present ≡ Some it
    → Contains (messages_of scenario.sends) m → message_key m ≡ key
    → ((follows : ScenarioParts) (past : List NoticeKind) → IsNodeOf follows past it → (x : Message) → Contains (messages_of follows.sends) x → message_key x ≡ key
    → x.origin ≡ it.node → asked ≡ has_asked follows x it.node past)
    → (asked || is_some c.stopped || came_too_late s m) ≡ is_asked scenario s m
done_by_three scenario s m key c v it asked ctl kept at stands named law =
    rw (asked_is scenario s m.origin m key v it kept at named stands asked refl law, ctl.stopped)
    (ap (λ x. origin_has_asked scenario s m || x || came_too_late s m) (stopped (node_at s.nodes m.origin).stopped))
  where
    stopped : (o : Option ℕ) → is_some o ≡ not (is_none o)
    stopped None = refl
    stopped (Some slot) = refl

-- ---- what is ahead, at one node after another

-- of the nodes before i none has anything of the message ahead: those from i on decide
abbrev pub IsLeftTo : ℕ → Service → MsgKey → List ControllerState → List IncarnationsParts → Type 0
IsLeftTo i service key controllers nodes =
    (scenario : ScenarioParts) (journal : List Step) (m : Message) → IsAbout scenario journal m key controllers nodes → m.service ≡ service
    → list_any (has_ahead scenario (run scenario journal) m) (range_with_len i (length controllers - i)) ≡ is_ahead scenario (run scenario journal) m

pub left_to_all : (service : Service) (key : MsgKey) (controllers : List ControllerState) (nodes : List IncarnationsParts) → IsLeftTo 0 service key controllers nodes
left_to_all service key controllers nodes scenario journal m about by =
    let all : length controllers - 0 ≡ scenario.params.nodes = omega (arith, about.controllers.whole) in
    ap (λ n. list_any (has_ahead scenario (run scenario journal) m) (range_with_len 0 n)) all

module _ (i : ℕ) (service : Service) (key : MsgKey) (controllers : List ControllerState) (nodes : List IncarnationsParts) (left : IsLeftTo i service key controllers nodes)
    (scenario : ScenarioParts) (journal : List Step) (m : Message) (about : IsAbout scenario journal m key controllers nodes) (by : m.service ≡ service) where
  by_this : i < length controllers
      → (has_ahead scenario (run scenario journal) m i || list_any (has_ahead scenario (run scenario journal) m) (range_with_len (i + 1) (length controllers - (i + 1))))
      ≡ is_ahead scenario (run scenario journal) m
  by_this within =
      let more : length controllers - i ≡ suc (length controllers - (i + 1)) = omega (arith, within) in
      sym (ap (λ n. list_any (has_ahead scenario (run scenario journal) m) (range_with_len i n)) more) ∙ left scenario journal m about by

  pub one_ahead : i < length controllers → has_ahead scenario (run scenario journal) m i ≡ true → true ≡ is_ahead scenario (run scenario journal) m
  one_ahead within here = rw here at by_this within

  pub left_to_next : i < length controllers → has_ahead scenario (run scenario journal) m i ≡ false
      → list_any (has_ahead scenario (run scenario journal) m) (range_with_len (i + 1) (length controllers - (i + 1))) ≡ is_ahead scenario (run scenario journal) m
  left_to_next within none = rw none at by_this within

  pub none_ahead : length controllers ≤ i → false ≡ is_ahead scenario (run scenario journal) m
  none_ahead past =
      let over : length controllers - i ≡ 0 = omega (arith, past) in
      sym (ap (λ n. list_any (has_ahead scenario (run scenario journal) m) (range_with_len i n)) over) ∙ left scenario journal m about by

-- what was found at node i, as it was read
pub ahead_here : (service : Service) (key : MsgKey) (controllers : List ControllerState) (nodes : List IncarnationsParts) (i : ℕ) (c : ControllerState) (v : IncarnationsParts) (ahead : Bool)
    → length controllers ≡ length nodes → i < length controllers → c ≡ get_or controllers i c → v ≡ get_or nodes i v
    → ((scenario : ScenarioParts) (s : RunState) (k : ℕ) (m : Message) → IsKeptAs scenario s.trace k (node_at s.nodes k) c → IsKeptAt scenario s.trace k (node_at s.nodes k) v
    → Contains (messages_of scenario.sends) m → message_key m ≡ key → m.service ≡ service → ahead ≡ has_ahead scenario s m k)
    → (scenario : ScenarioParts) (journal : List Step) (m : Message) → IsAbout scenario journal m key controllers nodes → m.service ≡ service
    → ahead ≡ has_ahead scenario (run scenario journal) m i
ahead_here service key controllers nodes i c v ahead same within row_is kept_is law scenario journal m about by =
    law scenario (run scenario journal) i m (about.controllers.each i c (slice_get_read controllers (length controllers) i c refl within row_is))
    (about.nodes.each i v (slice_get_read nodes (length controllers) i v same within kept_is)) about.stands about.key by

-- ---- the message of a scripted send

pub length-keys : (sends : List SendAsk) (keys : List MsgKey) → keys ≡ map message_key (messages_of sends) → length keys ≡ length sends
length-keys sends keys e = ap (λ (k : List MsgKey). length k) e ∙ length-map (messages_of sends) message_key ∙ length-messages_of sends

-- the message of a send and its key
pub record HasMessage (scenario : ScenarioParts) (index : ℕ) (send : SendAsk) (key : MsgKey) : Type 0 where
  pub message : Message
  pub at : slice_get (messages_of scenario.sends) index ≡ Some message
  pub stands : Contains (messages_of scenario.sends) message
  pub service : message.service ≡ send.service
  pub slot : message.slot ≡ send.slot
  pub named : message_key message ≡ key
  pub node : key.origin < scenario.params.nodes
  pub small : IsSmallKey scenario.params.format key

contains_at : {X : Type 0} (xs : List X) (i : ℕ) (x : X) → slice_get xs i ≡ Some x → Contains xs x
contains_at xs i x at = (i, slice_get_within xs i x at, get_or_from_slice_get xs i x x at)

named_by : (o : Option Message) (key : MsgKey) → option_map message_key o ≡ Some key → IsSomeAnd o (λ m. key ≡ message_key m)
named_by None key at = absurd (cc)
named_by (Some m) key at = sym (same_Some (message_key m) key at)

-- the key at a place is that of the message there
pub key_names : (sends : List SendAsk) (keys keys_read : List MsgKey) (index : ℕ) (key : MsgKey) → keys ≡ map message_key (messages_of sends) → index < length sends
    → keys_read ≡ keys → key ≡ get_or keys_read index key → IsSomeAnd (slice_get (messages_of sends) index) (λ m. key ≡ message_key m)
key_names sends keys keys_read index key are within same is =
    let at : slice_get keys index ≡ Some key = found keys keys_read index index key same refl (omega (arith, within, length-keys sends keys are)) is in
    named_by (slice_get (messages_of sends) index) key (sym (ap (λ (k : List MsgKey). slice_get k index) are ∙ slice_get-map message_key (messages_of sends) index) ∙ at)

pub has_message : (scenario : ScenarioParts) (index : ℕ) (sends_read : List SendAsk) (send : SendAsk) (key : MsgKey) → IsLegalScenario scenario → index < length scenario.sends
    → sends_read ≡ scenario.sends → send ≡ get_or sends_read index send → IsSomeAnd (slice_get (messages_of scenario.sends) index) (λ m. key ≡ message_key m)
    → HasMessage scenario index send key
has_message scenario index sends_read send key legal within same is names = record {
  message = m;
  at = message.1;
  stands = contains_at (messages_of scenario.sends) index m message.1;
  service = refl;
  slot = refl;
  named = sym named;
  node = omega (arith, below.origin, ap (λ (k : MsgKey). k.origin) named);
  small = (omega (arith, below.seq, ap (λ (k : MsgKey). k.seq) named), omega (arith, below.origin, ap (λ (k : MsgKey). k.origin) named, legal.in_range.nodes.1));
}
  where
    at : slice_get scenario.sends index ≡ Some send
    at = found scenario.sends sends_read index index send same refl within is

    message : (before : List SendAsk) × (slice_get (messages_of scenario.sends) index ≡ Some (message_of before send))
    message = message_at [] scenario.sends index send at

    m : Message
    m = message_of message.0 send

    named : key ≡ message_key m
    named = rw message.1 at names

    below : IsBelow most_sends scenario.params.slots scenario.params.nodes m
    below = message_below scenario m legal (contains_at (messages_of scenario.sends) index m message.1)

-- ---- what a world tells of it, whose fields are `u` and which is seen as `w`

pub message_of_send : (u w : WorldParts) → u ≡ w → (index : ℕ) (sends_read : List SendAsk) (send : SendAsk) (key : MsgKey) → IsLegalScenario u.scenario
    → index < length w.scenario.sends → sends_read ≡ u.scenario.sends → send ≡ get_or sends_read index send
    → IsSomeAnd (slice_get (messages_of w.scenario.sends) index) (λ m. key ≡ message_key m) → HasMessage u.scenario index send key
message_of_send u w viewed index sends_read send key legal within same is names =
    has_message u.scenario index sends_read send key legal (subst (λ (x : WorldParts). index < length x.scenario.sends) (sym viewed) within) same is
    (subst (λ (x : WorldParts). IsSomeAnd (slice_get (messages_of x.scenario.sends) index) (λ m. key ≡ message_key m)) (sym viewed) names)

pub told_of_send : (u w : WorldParts) → u ≡ w → (index : ℕ) (send : SendAsk) (key : MsgKey) (Holds : WorldParts → Message → Type 0) (it : HasMessage u.scenario index send key)
    → Holds u it.message → IsSomeAnd (slice_get (messages_of w.scenario.sends) index) (Holds w)
told_of_send u w viewed index send key Holds it holds =
    subst (λ (x : WorldParts). IsSomeAnd (slice_get (messages_of x.scenario.sends) index) (Holds x)) viewed
    (subst (λ (o : Option Message). IsSomeAnd o (Holds u)) (sym it.at) holds)

-- what was read of the controllers and the nodes of a world
module _ (w : Inside) (is : IsRun w) where
  module _ (row : List ControllerState) (same_row : row ≡ w.controllers.items) where
    pub origin_within : (index : ℕ) (send : SendAsk) (key : MsgKey) → HasMessage w.scenario index send key → key.origin < length row
    origin_within index send key it = omega (arith, it.node, ap (λ (t : List ControllerState). length t) same_row, is.stands.controllers.whole)

    pub few_read : length row ≤ most_nodes
    few_read = omega (arith, ap (λ (t : List ControllerState). length t) same_row, is.stands.controllers.whole, few_nodes w.scenario.params is.legal.in_range)

    pub have_format : (params : Parameters) → params ≡ w.scenario.params → HaveFormat params.format row
    have_format params same i x at =
        ap (λ (p : Parameters). p.format)
        ((is.stands.controllers.each i x (subst (λ (t : List ControllerState). slice_get t i ≡ Some x) same_row at)).params ∙ sym same)

    pub controllers_read : AreControllersOf w.scenario (state_of (world_parts w)) row
    controllers_read = subst (AreControllersOf w.scenario (state_of (world_parts w))) (sym same_row) is.stands.controllers

    module _ (kept : List IncarnationsParts) (same_kept : kept ≡ w.nodes.items) where
      pub same_count : length row ≡ length kept
      same_count =
          ap (λ (t : List ControllerState). length t) same_row ∙ is.stands.controllers.whole ∙ sym is.stands.nodes.whole
          ∙ sym (ap (λ (t : List IncarnationsParts). length t) same_kept)

      pub about : (m : Message) (key : MsgKey) → Contains (messages_of w.scenario.sends) m → message_key m ≡ key → IsAbout w.scenario w.journal.items m key row kept
      about m key stands named = record {
        controllers = controllers_read;
        nodes = subst (AreNodesOf w.scenario (state_of (world_parts w))) (sym same_kept) is.stands.nodes;
        stands = stands;
        key = named;
      }

-- ---- of which services nothing more is to come

pub nothing_at_stopped : (scenario : ScenarioParts) (s : RunState) (i : ℕ) (m : Message) (c : ControllerState) → IsKeptAs scenario s.trace i (node_at s.nodes i) c
    → (b : Bool) → is_some c.stopped ≡ not b → b ≡ false → has_ahead scenario s m i ≡ false
nothing_at_stopped scenario s i m c ctl b e h =
    let stops : runs (node_at s.nodes i) ≡ false = sym (ap is_none ctl.stopped) ∙ stopped c.stopped (rw h at e) in
    ap (λ x. x && is_ahead_at (scenario_at scenario s i) m i (history i s)) stops
  where
    stopped : (o : Option ℕ) → is_some o ≡ true → is_none o ≡ false
    stopped None e = absurd (true≢false (sym e))
    stopped (Some slot) e = refl

-- where no running node has anything to do or anything of the message ahead, it is settled as soon
-- as it was asked for
pub settled_where_nothing_to_do : (scenario : ScenarioParts) (journal : List Step) (m : Message) (service : Service) (key : MsgKey) (controllers : List ControllerState) (nodes : List IncarnationsParts)
    → IsAbout scenario journal m key controllers nodes → m.service ≡ service → HaveNothingToDo controllers → is_ahead scenario (run scenario journal) m ≡ false
    → is_settled scenario (run scenario journal) m ≡ is_asked scenario (run scenario journal) m
settled_where_nothing_to_do scenario journal m service key controllers nodes about by nothing none =
    sym (settled_by scenario journal m service key controllers nodes (is_asked scenario (run scenario journal) m) true false about by refl
    (sym (nobody_waits_where_nothing_to_do (frames_named service key) controllers nothing)) (sym none))
    ∙ and_true (is_asked scenario (run scenario journal) m)
  where
    and_true : (b : Bool) → (b && true && true) ≡ b
    and_true true = refl
    and_true false = refl

pub finished_by : {X : Type 0} (f : FinishedParts) (by : Service) → is_finished f by ≡ true → (by ≡ service.Ed → f.ed ≡ true → X) → (by ≡ service.Rel → f.rel ≡ true → X)
    → (by ≡ service.Tot → f.tot ≡ true → X) → X
finished_by f service.Ed is ed rel tot = ed refl is
finished_by f service.Rel is ed rel tot = rel refl is
finished_by f service.Tot is ed rel tot = tot refl is

-- a message of a finished service that is not to be asked for yet is settled
pub not_queued : (scenario : ScenarioParts) (journal : List Step) (index : ℕ) (finished : FinishedParts) (sends_read : List SendAsk) (send : SendAsk) (queued : Bool)
    → index < length scenario.sends → sends_read ≡ scenario.sends → send ≡ get_or sends_read index send → IsFinished scenario (run scenario journal) finished
    → {has : Bool} → has ≡ is_finished finished send.service → has ≡ true
    → IsSomeAnd (slice_get (messages_of scenario.sends) index) (λ m. queued ≡ is_queued scenario (run scenario journal) m)
    → IsSomeAnd (slice_get (messages_of scenario.sends) index) (λ m. not queued ≡ is_settled scenario (run scenario journal) m)
not_queued scenario journal index finished sends_read send queued within same is finish has_is has is_queue =
    subst (λ (o : Option Message). IsSomeAnd o (λ x. not queued ≡ is_settled scenario (run scenario journal) x)) (sym message.1)
    (ap not here ∙ not_not (is_asked scenario (run scenario journal) m)
    ∙ sym (finish m (contains_at (messages_of scenario.sends) index m message.1) (sym has_is ∙ has)))
  where
    message : (before : List SendAsk) × (slice_get (messages_of scenario.sends) index ≡ Some (message_of before send))
    message = message_at [] scenario.sends index send (found scenario.sends sends_read index index send same refl within is)

    m : Message
    m = message_of message.0 send

    here : queued ≡ is_queued scenario (run scenario journal) m
    here = rw message.1 at is_queue

    not_not : (b : Bool) → not (not b) ≡ b
    not_not true = refl
    not_not false = refl
