-- Views: correct nodes that hold a view of one number hold the same members.
use Rattle.std.specs.Prelude.{ℕ, ◌==◌, Bool, not, nat_lt, List, [], ◌∷◌, map, filter, filter_map, find, Option, None, option_map}
use Rattle.std.specs.List.{flat_map}
use Rattle.cany_base.specs.declared.log_entry.LogEntry.{LogEntry}
use Rattle.cany_base.specs.declared.log_entry.LogEntry.TheVariants.{Deliver, Failed, View}
use Rattle.cany_base.specs.Nodes.{Nodes}
use Rattle.cany_check.specs.declared.deciders.findings.ViewParting.{ViewParting}
use Rattle.cany_check.specs.Accounts.Account.{AccountParts}
use Rattle.cany_check.specs.InOrder.{ascending}
use Rattle.cany_check.specs.Accounts.Words.{correct}

-- a view that a correct node holds
pub record HeldView : Type 0 where
  pub node : ℕ
  pub number : ℕ
  pub members : Nodes

abbrev pub view_in : ℕ → LogEntry → List HeldView
view_in node (Deliver slot service msg payload) = []
view_in node (Failed slot failed cycle) = []
view_in node (View slot number members) = record { node = node; number = number; members = members } ∷ []

-- by ascending node, and then place
abbrev pub held_views : AccountParts → List HeldView
held_views a = flat_map (λ log. flat_map (view_in log.node) log.entries) (correct a)

abbrev pub views_of_number : AccountParts → ℕ → List HeldView
views_of_number a number = filter (λ v. v.number == number) (held_views a)

-- the numbers of which a correct node holds a view, each once, ascending
abbrev pub view_numbers : AccountParts → List ℕ
view_numbers a = ascending nat_lt (map (λ v. v.number) (held_views a))

abbrev pub same_members : Nodes → Nodes → Bool
same_members v w = v.bits == w.bits

abbrev pub as_parting : HeldView → HeldView → ViewParting
as_parting here there = record { number = here.number; first = here.node; members = here.members; second = there.node; others = there.members }

-- the first view of these, and the first that has other members
abbrev pub parting_in : List HeldView → Option ViewParting
parting_in [] = None
parting_in (v ∷ views) = option_map (as_parting v) (find (λ w. not (same_members v.members w.members)) views)

-- one for each number that is apart, ascending
abbrev pub view_partings : AccountParts → List ViewParting
view_partings a = filter_map (λ number. parting_in (views_of_number a number)) (view_numbers a)
