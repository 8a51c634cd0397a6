use Rattle.std.proofs.Common.{◌≡◌, drop}
use Rattle.cany_text.specs.TextNames.{named}
use Rattle.cany_scenario.proofs.word.find_named.Given as goal

-- those that are left decide
abbrev pub invariant-loop-one : goal.invariant-loop-one
invariant-loop-one g l = named g.T.Named.word l.these l.name ≡ named g.T.Named.word (drop l.one-index l.these) l.name
