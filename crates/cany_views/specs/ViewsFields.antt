-- The parts of views as the program keeps them.
use Rattle.cany_views.specs.declared.views.Views.TheInside.{Inside}
use Rattle.cany_views.specs.Views.{ViewsParts}

abbrev pub parts_of : Inside → ViewsParts
parts_of v = record {
  node = v.node;
  params = v.params;
  members = v.members;
  joiners = v.joiners;
  leavers = v.leavers;
  joins = v.joins.items;
  leaves = v.leaves.items;
}
