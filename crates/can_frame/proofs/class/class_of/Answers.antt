use Rattle.std.specs.Prelude.{Some}
use Rattle.std.proofs.Common.{◌≡◌, ◌∙◌, subst}
use Rattle.can_frame.specs.Classes.{class_in}
use Rattle.can_frame.proofs.ClassFacts.{class_of_frame, class_of_number}
use Rattle.can_frame.proofs.class.class_of.Goals as goal

pub returns-clause-class : goal.returns-clause-class
returns-clause-class c = class_of_number c.args.ident c.class_of_number.result c.class_of_number.ensures.none c.class_of_number.ensures.found

pub returns-clause-of_frame : goal.returns-clause-of_frame
returns-clause-of_frame c = λ format f fits is. returns-clause-class c ∙ subst (λ n. class_in n ≡ Some f.class) is (class_of_frame format f fits)
