-- What a node knows of the site from what it has read: who the members are, which nodes have
-- failed, and when each last showed life.
use Rattle.std.specs.Prelude.{ℕ, ◌-◌, ◌==◌, ◌&&◌, ◌||◌, Bool, false, not, nat_le, if◌then◌else◌, List, [], ◌∷◌, filter, map, Option, None}
use Rattle.std.specs.List.{list_any, range_with_len}
use Rattle.cany_base.specs.declared.class.Class.TheVariants as class
use Rattle.cany_base.specs.declared.notice.NoticeKind.{NoticeKind}
use Rattle.cany_base.specs.declared.notice.NoticeKind.TheVariants.{Idle, Got, Sent, Bad}
use Rattle.cany_base.specs.Cycles.{cycle_of}
use Rattle.cany_base.specs.Frame.{FrameParts}
use Rattle.cany_base.specs.Nodes.{Nodes, has, those_where, nobody}
use Rattle.cany_base.specs.Params.{Parameters}
use Rattle.cany_model.specs.Bus.Frames.{Identity, identity_of, same_class}

-- ---- failure signs

-- that a node has failed, as it was found out in a membership cycle, counted from 0
pub record FailureSign : Type 0 where
  pub node : ℕ
  pub cycle : ℕ

abbrev pub same_sign : FailureSign → FailureSign → Bool
same_sign a b = a.node == b.node && a.cycle == b.cycle

-- the frame that tells of a sign, and what names it
abbrev pub fda_frame : FailureSign → FrameParts
fda_frame sign = record { class = class.Fda; number = sign.cycle; node = sign.node; inc = 0; payload = [] }

abbrev pub fda_of : FailureSign → Identity
fda_of sign = identity_of (fda_frame sign)

-- the sign that such a frame tells of
abbrev pub sign_of : FrameParts → FailureSign
sign_of f = record { node = f.node; cycle = f.number }

-- ---- what a node knows

pub record Knowledge : Type 0 where
  -- its view of the site
  pub members : Nodes
  -- the nodes that have failed here, and the signs that are known, the newest first
  pub failed : Nodes
  pub signs : List FailureSign
  -- the slot in which each other node last showed life, and the one of the node's own last life: 0
  -- where there was none
  pub shown : ℕ → ℕ
  pub last : ℕ
  -- the nodes that have asked to join the view, and the members that have asked to leave it
  pub joiners : Nodes
  pub leavers : Nodes
  -- its vector, while vectors are exchanged
  pub vector : Option Nodes

-- before it has read anything
abbrev pub knowledge_at_first : Nodes → Knowledge
knowledge_at_first members = record {
  members = members;
  failed = nobody;
  signs = [];
  shown = λ r. 0;
  last = 0;
  joiners = nobody;
  leavers = nobody;
  vector = None;
}

abbrev pub knows : FailureSign → Knowledge → Bool
knows sign knowledge = list_any (same_sign sign) knowledge.signs

-- with these members
abbrev pub with_members : Nodes → Knowledge → Knowledge
with_members members knowledge = record knowledge { members = members }

-- ---- a node shows life

-- whether the frame shows that the node lives which it names: that node alone sends it
unfoldable pub shows_life : FrameParts → Bool
shows_life f = same_class f.class class.Els || same_class f.class class.Rha || same_class f.class class.Tot

-- whether the notice is that the node got a frame by which node r shows life
abbrev pub hears_life : ℕ → NoticeKind → Bool
hears_life r Idle = false
hears_life r (Got f) = shows_life f && r == f.node
hears_life r (Sent f) = false
hears_life r Bad = false

abbrev pub with_shown : ℕ → ℕ → Knowledge → Knowledge
with_shown r slot knowledge = record knowledge { shown = λ q. if q == r then slot else knowledge.shown q }

-- node i hears another node in the slot, or reads that it was heard itself
unfoldable pub after_life : ℕ → ℕ → NoticeKind → Knowledge → Knowledge
after_life i slot Idle knowledge = knowledge
after_life i slot (Got f) knowledge = if shows_life f then with_shown f.node slot knowledge else knowledge
after_life i slot (Sent f) knowledge = if shows_life f && f.node == i then record knowledge { last = slot } else knowledge
after_life i slot Bad knowledge = knowledge

-- Those newly admitted have not failed, and show life from this slot on: so does node i itself, if
-- it is one of them.
abbrev pub after_admitting : ℕ → ℕ → Nodes → Knowledge → Knowledge
after_admitting i slot newly knowledge = record knowledge {
  failed = those_where (λ r. has knowledge.failed r && not (has newly r));
  shown = λ r. if has newly r then slot else knowledge.shown r;
  last = if has newly i then slot else knowledge.last;
}

-- ---- a sign becomes known

-- It counts in its cycle alone: one that is known already has no effect again, also where the node
-- no longer counts as failed.
abbrev pub with_sign : FailureSign → Knowledge → Knowledge
with_sign sign knowledge =
    record knowledge { failed = those_where (λ r. has knowledge.failed r || r == sign.node); signs = sign ∷ knowledge.signs }

-- one after another
unfoldable pub with_signs : List FailureSign → Knowledge → Knowledge
with_signs [] knowledge = knowledge
with_signs (sign ∷ signs) knowledge = with_signs signs (with_sign sign knowledge)

-- the sign that a notice tells of, where it is not known: it may name the node itself, or one that
-- is no member
unfoldable pub told : NoticeKind → Knowledge → List FailureSign
told Idle knowledge = []
told (Got f) knowledge = if same_class f.class class.Fda && not (knows (sign_of f) knowledge) then sign_of f ∷ [] else []
told (Sent f) knowledge = []
told Bad knowledge = []

-- whether node r is another member that has not failed here, and has shown no life for as many
-- slots as the silence has
abbrev pub has_timed_out : Parameters → ℕ → ℕ → Knowledge → ℕ → Bool
has_timed_out p i slot knowledge r =
    has knowledge.members r && not (r == i) && not (has knowledge.failed r) && nat_le p.silence (slot - knowledge.shown r)

-- the sign by which a node is found to have failed in a slot
abbrev pub sign_in : Parameters → ℕ → ℕ → FailureSign
sign_in p slot r = record { node = r; cycle = cycle_of p slot }

-- the signs that silence brings, where they are not known, by ascending node
unfoldable pub found : Parameters → ℕ → ℕ → Knowledge → List FailureSign
found p i slot knowledge =
    filter (λ sign. not (knows sign knowledge)) (map (sign_in p slot) (filter (has_timed_out p i slot knowledge) (range_with_len 0 p.nodes)))

-- ---- a turn, step by step: what node i knows after each step in the turn of a slot, from what it knew before the turn

-- it hears who shows life
abbrev pub after_hearing : ℕ → ℕ → NoticeKind → Knowledge → Knowledge
after_hearing i slot notice before = after_life i slot notice before

-- it learns the sign that the notice tells of
abbrev pub told_in : ℕ → ℕ → NoticeKind → Knowledge → List FailureSign
told_in i slot notice before = told notice (after_hearing i slot notice before)

abbrev pub after_learning : ℕ → ℕ → NoticeKind → Knowledge → Knowledge
after_learning i slot notice before = with_signs (told_in i slot notice before) (after_hearing i slot notice before)

-- and it finds signs by silence: a node that the notice tells of is not found by it
abbrev pub found_in : Parameters → ℕ → ℕ → NoticeKind → Knowledge → List FailureSign
found_in p i slot notice before = found p i slot (after_learning i slot notice before)

abbrev pub after_finding : Parameters → ℕ → ℕ → NoticeKind → Knowledge → Knowledge
after_finding p i slot notice before = with_signs (found_in p i slot notice before) (after_learning i slot notice before)
