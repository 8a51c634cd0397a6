-- Orders by several tests: parts of the trace, and what passes one of two tests.
use Rattle.std.proofs.Common.{◌≡◌, ℕ, ◌&&◌, ◌||◌, nat_le, Bool, true, false, if◌then◌else◌, List, [], ◌∷◌, ◌++◌, filter, Option, Some, None, refl, ap, sym, ◌∙◌, append-nil, append_assoc}
use Rattle.std.proofs.lemmas.List.Elements.{filter-append}
use Rattle.cany_base.specs.declared.class.Class.TheVariants as class
use Rattle.cany_base.specs.declared.message.MsgKey.{MsgKey}
use Rattle.cany_base.specs.declared.slot_note.SlotNote.{SlotNote}
use Rattle.cany_base.specs.Frame.{FrameParts}
use Rattle.cany_model.specs.Bus.Frames.{same_class}
use Rattle.cany_model.specs.Bus.Slot.{is_clean}
use Rattle.cany_model.specs.Promises.Order.{Content, order_by, ordered_in}
use Rattle.cany_model.specs.Rules.Totcan.{message_in}
use Rattle.cany_laws.specs.Order.{IsPrefixOf}

-- ---- prefixes

pub prefix_more : (first all more : List Content) → IsPrefixOf first all → IsPrefixOf first (all ++ more)
prefix_more first all more h = (h.0 ++ more, ap (λ l. l ++ more) h.1 ∙ append_assoc first h.0 more)

pub prefix_filter : (test : Content → Bool) (first all : List Content) → IsPrefixOf first all → IsPrefixOf (filter test first) (filter test all)
prefix_filter test first all h = (filter test h.0, ap (filter test) h.1 ∙ filter-append test first h.0)

-- later slots put their messages behind
pub order_longer : (test : MsgKey → Bool) (from : ℕ) (newer older : List SlotNote)
    → (more : List Content) × (order_by test from (newer ++ older) ≡ order_by test from older ++ more)
unfolding order_by
order_longer test from [] older = ([], sym (append-nil (order_by test from older)))
order_longer test from (note ∷ newer) older =
    let rest = order_longer test from newer older in
    let now : List Content = if nat_le from note.slot then ordered_in test note note.frame else [] in
    (rest.0 ++ now, ap (λ l. l ++ now) rest.1 ∙ append_assoc (order_by test from older) rest.0 now)

-- ---- one of two tests

-- of those that pass one of two tests those that pass the second
module _ (first second : MsgKey → Bool) where
  abbrev either : MsgKey → Bool
  either key = first key || second key

  slot_filter : (note : SlotNote) (o : Option FrameParts) → filter (λ c. second c.msg) (ordered_in either note o) ≡ ordered_in second note o
  slot_filter note None = refl
  slot_filter note (Some f) =
      by_tests (same_class f.class class.Tot && is_clean note.verdict) (first (message_in f)) (second (message_in f)) refl
    where
      one : Content
      one = record { msg = message_in f; payload = f.payload }

      by_tests : (clean a b : Bool) → second (message_in f) ≡ b
          → filter (λ c. second c.msg) (if clean && (a || b) then one ∷ [] else []) ≡ (if clean && b then one ∷ [] else [])
      by_tests false a b is = refl
      by_tests true true true is = rw is refl
      by_tests true false true is = rw is refl
      by_tests true true false is = rw is refl
      by_tests true false false is = refl

  pub order_filter : (from : ℕ) (trace : List SlotNote) → filter (λ c. second c.msg) (order_by either from trace) ≡ order_by second from trace
  unfolding order_by
  order_filter from [] = refl
  order_filter from (note ∷ before) =
      filter-append (λ c. second c.msg) (order_by either from before) (if nat_le from note.slot then ordered_in either note note.frame else [])
      ∙ ap (λ l. l ++ filter (λ c. second c.msg) (if nat_le from note.slot then ordered_in either note note.frame else [])) (order_filter from before)
      ∙ ap (λ l. order_by second from before ++ l) (by_slot (nat_le from note.slot))
    where
      by_slot : (b : Bool) → filter (λ c. second c.msg) (if b then ordered_in either note note.frame else []) ≡ (if b then ordered_in second note note.frame else [])
      by_slot true = slot_filter note note.frame
      by_slot false = refl
