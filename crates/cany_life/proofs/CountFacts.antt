-- A copy of the frame of a sign: what it calls for, from the copies that are counted then.
use Rattle.std.proofs.Common.{◌≡◌, ℕ, Bool, List, ◌++◌, ap, sym, ◌∙◌}
use Rattle.cany_base.specs.declared.actions.Action.{Action}
use Rattle.cany_base.specs.declared.format.Format.{Format}
use Rattle.cany_base.specs.Frame.{FrameParts}
use Rattle.cany_message.specs.Actions.{withdraw_actions}
use Rattle.cany_model.specs.Rules.Knowledge.{FailureSign}
use Rattle.cany_life.specs.Life.{LifeParts}
use Rattle.cany_life.specs.LifeSteps.{all_marked, has_enough_of, known_actions, unknown}
use Rattle.cany_life.proofs.MarkFacts.{marks_rest}

-- the copy is counted, and then the sign becomes known
module _ (sign : FailureSign) (v x w : LifeParts) (counted : x ≡ record v { copies = x.copies }) (state : w ≡ all_marked (unknown sign x) x) where
  rest : w ≡ record x { failed = w.failed; known = w.known }
  rest = rw state (marks_rest (unknown sign x) x)

  pub same_copies : w.copies ≡ x.copies
  same_copies = ap (λ (y : LifeParts). y.copies) rest

  same_unknown : unknown sign x ≡ unknown sign v
  same_unknown = ap (unknown sign) counted

  pub copy_state : w ≡ all_marked (unknown sign v) (record v { copies = w.copies })
  copy_state =
      state ∙ ap (λ signs. all_marked signs x) same_unknown ∙ ap (all_marked (unknown sign v)) counted
      ∙ ap (λ copies. all_marked (unknown sign v) (record v { copies = copies })) (sym same_copies)

  same_enough : has_enough_of x sign ≡ has_enough_of w sign
  same_enough = sym (ap (λ y. has_enough_of y sign) rest)

  pub copy_actions : (slot : ℕ) (named format : Format) (f : FrameParts) (e : Bool) (before here after : List Action) → after ≡ here ++ withdraw_actions named e f
      → here ≡ before ++ known_actions slot e (unknown sign x) → e ≡ has_enough_of x sign → named ≡ format
      → after ≡ (before ++ known_actions slot (has_enough_of w sign) (unknown sign v)) ++ withdraw_actions format (has_enough_of w sign) f
  copy_actions slot named format f e before here after withdrawn known enough is =
      withdrawn
      ∙ ap (λ actions. actions ++ withdraw_actions named e f) known
      ∙ ap (λ signs. (before ++ known_actions slot e signs) ++ withdraw_actions named e f) same_unknown
      ∙ ap (λ fmt. (before ++ known_actions slot e (unknown sign v)) ++ withdraw_actions fmt e f) is
      ∙ ap (λ b. (before ++ known_actions slot b (unknown sign v)) ++ withdraw_actions format b f) (enough ∙ same_enough)
