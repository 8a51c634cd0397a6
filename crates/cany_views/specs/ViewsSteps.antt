-- What an ask that is heard and a vector that becomes the view do to a value of views, and the
-- actions that a view calls for.
use Rattle.std.specs.Prelude.{ℕ, if◌then◌else◌, List, ◌∷◌, map}
use Rattle.cany_base.specs.declared.actions.Action.{Action}
use Rattle.cany_base.specs.declared.actions.Action.TheVariants.{Enter, Withdraw}
use Rattle.cany_base.specs.declared.class.Class.{Class}
use Rattle.cany_base.specs.declared.class.Class.TheVariants as class
use Rattle.cany_base.specs.declared.format.Format.{Format}
use Rattle.cany_base.specs.declared.log_entry.LogEntry.TheVariants.{View}
use Rattle.cany_base.specs.Nodes.{Nodes, has, meet, minus, with_node}
use Rattle.cany_model.specs.Rules.Actions.{ident_of}
use Rattle.cany_model.specs.Rules.Views.{ask_of}
use Rattle.cany_views.specs.Views.{ViewsParts}

-- ---- asks that are heard

abbrev pub heard_join : ℕ → ViewsParts → ViewsParts
heard_join r v = if has v.members r then v else record v { joiners = with_node r v.joiners }

abbrev pub heard_leave : ℕ → ViewsParts → ViewsParts
heard_leave r v = if has v.members r then record v { leavers = with_node r v.leavers } else v

-- ---- a vector becomes the view

abbrev pub installed : Nodes → ViewsParts → ViewsParts
installed vector v = record v { members = vector; joiners = minus v.joiners vector; leavers = meet v.leavers vector }

-- the frames of a class by which node i may have asked in these cycles wait no longer
abbrev pub withdrawals : Format → Class → ℕ → List ℕ → List Action
withdrawals format class i cycles = map (λ cycle. Withdraw (ident_of format (ask_of class cycle i))) cycles

abbrev pub installed_actions : (slot cycle : ℕ) → Nodes → ViewsParts → List Action
installed_actions slot cycle vector v =
    if has vector v.node then Enter (View slot cycle vector) ∷ withdrawals v.params.format class.Join v.node v.joins
    else withdrawals v.params.format class.Leave v.node v.leaves
