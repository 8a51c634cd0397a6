-- The parts of life signs and failure signs as the program keeps them.
use Rattle.cany_life.specs.declared.life.Life.TheInside.{Inside}
use Rattle.cany_life.specs.Life.{LifeParts}

abbrev pub parts_of : Inside → LifeParts
parts_of v = record {
  node = v.node;
  params = v.params;
  failed = v.failed;
  known = v.known.items;
  copies = v.copies;
  shown = v.shown;
  last = v.last;
  sent = v.sent;
}
