-- The parameters as the program keeps them.
use Rattle.cany_base.specs.declared.params.Params.TheInside.{Inside}
use Rattle.cany_base.specs.Params.{Parameters}

abbrev pub parameters_of : Inside → Parameters
parameters_of p = record {
  format = p.format;
  nodes = p.nodes;
  lag = p.lag;
  omit = p.omit;
  errors = p.errors;
  bound = p.bound;
  cycle = p.cycle;
  life = p.life;
  silence = p.silence;
  confirm = p.confirm;
  slots = p.slots;
}

abbrev pub fields_of : Parameters → Inside
fields_of p = record {
  format = p.format;
  nodes = p.nodes;
  lag = p.lag;
  omit = p.omit;
  errors = p.errors;
  bound = p.bound;
  cycle = p.cycle;
  life = p.life;
  silence = p.silence;
  confirm = p.confirm;
  slots = p.slots;
}
