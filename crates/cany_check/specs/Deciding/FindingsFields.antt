-- What the fields of findings stand for.
use Rattle.cany_check.specs.declared.deciders.judging.Findings.TheInside.{Inside}
use Rattle.cany_check.specs.Deciding.Findings.{FoundParts}

abbrev pub found_parts : Inside → FoundParts
found_parts v = record {
  wrong = v.wrong;
  messages = v.messages.items;
  signs = v.signs.items;
  parting = v.parting;
  numbers = v.views.numbers;
  views = v.views.apart.items;
  accusations = v.accusations.items;
  ed = v.ed;
  rel = v.rel;
  tot = v.tot;
}
