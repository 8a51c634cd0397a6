use Rattle.std.proofs.Common.{◌≡◌, ◌<◌, ◌/◌, ◌%◌, ◌^◌, Ok, ap, subst, arith, rules}
use Rattle.cany_base.specs.Frame.{FitsIncarnation, FrameParts}
use Rattle.can_frame.specs.Decoding.{IsFirstFault, IsFrameOf}
use Rattle.can_frame.specs.declared.decoding.FrameFault.TheVariants as fault
use Rattle.can_frame.proofs.DecodingFacts.{made, one_frame}
use Rattle.can_frame.proofs.FaultFacts.{made_fault, refused_fault, refused_frame}
use Rattle.can_frame.proofs.decoding.frame_of.Goals as goal

pub returns-in_default : goal.returns-in_default
returns-in_default c =
    let first : 9 < c.args.ident / 2 ^ 25 = search rules in
    record {
      frame = refused_frame c.args.format c.args.ident c.args.remote c.args.payload fault.Class first;
      fault = refused_fault c.args.format c.args.ident c.args.remote c.args.payload fault.Class first;
    }

pub returns-then-not-has_incarnation : goal.returns-then-not-has_incarnation
returns-then-not-has_incarnation c =
    let first : IsFirstFault c.args.format fault.Pad c.args.ident c.args.remote c.args.payload =
    (c.in-Some.class, c.in-Some.ensures.found, search rules, omega (arith, c.take-inc.ensures)) in
    record {
      frame = refused_frame c.args.format c.args.ident c.args.remote c.args.payload fault.Pad first;
      fault = refused_fault c.args.format c.args.ident c.args.remote c.args.payload fault.Pad first;
    }

pub returns-then-remote-is_remote : goal.returns-then-remote-is_remote
returns-then-remote-is_remote c =
    let told : FitsIncarnation c.in-Some.class (c.args.ident % 2 ^ 4) = grind (arith, c.take-inc.ensures) in
    let first : IsFirstFault c.args.format fault.Kind c.args.ident c.args.remote c.args.payload =
    (c.in-Some.class, c.in-Some.ensures.found, told, search rules) in
    record {
      frame = refused_frame c.args.format c.args.ident c.args.remote c.args.payload fault.Kind first;
      fault = refused_fault c.args.format c.args.ident c.args.remote c.args.payload fault.Kind first;
    }

pub returns-then-not-fits_class : goal.returns-then-not-fits_class
returns-then-not-fits_class c =
    let told : FitsIncarnation c.in-Some.class (c.args.ident % 2 ^ 4) = grind (arith, c.take-inc.ensures) in
    let first : IsFirstFault c.args.format fault.Length c.args.ident c.args.remote c.args.payload =
    (c.in-Some.class, c.in-Some.ensures.found, told, search rules, search rules) in
    record {
      frame = refused_frame c.args.format c.args.ident c.args.remote c.args.payload fault.Length first;
      fault = refused_fault c.args.format c.args.ident c.args.remote c.args.payload fault.Length first;
    }

pub returns : goal.returns
returns c =
    let frame : FrameParts = record {
      class = c.in-Some.class;
      number = c.take_fields-number.result.0;
      node = c.take_fields-number.result.1;
      inc = c.take-inc.result;
      payload = c.args.payload;
    } in
    let told : FitsIncarnation c.in-Some.class c.take-inc.result = grind arith in
    let is_frame : IsFrameOf c.args.format c.args.ident c.args.remote c.args.payload frame =
    made c.args.format c.args.ident c.args.remote frame
    c.in-Some.ensures.found (omega (arith, c.take-inc.ensures)) told (search rules) (search rules)
    (c.take_fields-number.ensures.number, c.take_fields-number.ensures.node) in
    record {
      frame = λ f. (
        (λ e. let same : frame ≡ f = cc in subst (IsFrameOf c.args.format c.args.ident c.args.remote c.args.payload) same is_frame),
        (λ h. ap Ok (one_frame c.args.format c.args.ident c.args.remote c.args.payload frame f is_frame h)),
      );
      fault = made_fault c.args.format c.args.ident c.args.remote c.args.payload frame is_frame;
    }
