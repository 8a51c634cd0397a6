use Rattle.std.proofs.Common.{◌<◌, List, length, ap, sym, ◌∙◌, arith}
use Rattle.std.specs.Prelude.{insert, IsOk}
use Rattle.cany_base.specs.Frame.{FrameParts}
use Rattle.can_controller.specs.Waiting.{IsPlaceOf, IsGapFor, HasRoomFor, identity_number}
use Rattle.can_controller.proofs.KeptFacts.{kept-set, kept-insert, gap_spare, inserted}
use Rattle.can_controller.proofs.OrderFacts.{place_with, gap_with}
use Rattle.can_controller.proofs.waiting.Waiting.ask_among.Goals as goal

pub invariant_of-self : goal.invariant_of-self
invariant_of-self c =
    let at : IsPlaceOf (identity_number c.self.inside.format) (identity_number c.self.inside.format c.args.frame) c.in-Ok.place c.self.inside.frames.items = rw (c.as_slice.ensures.value, c.identity_number-number.ensures.number) at c.in-Ok.ensures.found in
    kept-set c.self.inside.format c.self.inside.frames.items c.self.inside.room _ c.in-Ok.place c.args.frame c.self.invariant c.identity_number-number.ensures.fits at

pub returns-in-Ok : goal.returns-in-Ok
returns-in-Ok c =
    let at : IsPlaceOf (identity_number c.self.inside.format) (identity_number c.self.inside.format c.args.frame) c.in-Ok.place c.self.inside.frames.items = rw (c.as_slice.ensures.value, c.identity_number-number.ensures.number) at c.in-Ok.ensures.found in
    rw (← c.self.view_is)
    (ap (λ (fs : List FrameParts). record { format = c.self.inside.format; frames = fs; room = c.self.inside.room })
    (sym (place_with c.self.inside.format c.args.frame c.self.inside.frames.items c.in-Ok.place c.identity_number-number.ensures.fits c.self.invariant.fit c.self.invariant.ascending at)))

pub invariant_of-self-in-Err : goal.invariant_of-self-in-Err
invariant_of-self-in-Err c =
    let frames : List FrameParts = c.self.inside.frames.items in
    let gap : IsGapFor (identity_number c.self.inside.format) (identity_number c.self.inside.format c.args.frame) c.in-Err.place frames = rw (c.as_slice.ensures.value, c.identity_number-number.ensures.number) at c.in-Err.ensures.absent in
    let has_room : HasRoomFor c.args.frame frames c.self.inside.room = rw (← c.self.view_is) at c.requires.room in
    let spare : length frames < c.self.inside.room = gap_spare c.self.inside.format frames c.self.inside.room c.in-Err.place c.args.frame c.self.invariant.fit c.identity_number-number.ensures.fits has_room gap in
    let succeeds : IsOk c.insert.result = c.insert.ensures.succeeds (omega (arith, spare, c.as_slice.ensures.len, ap length c.as_slice.ensures.value, c.self.invariant.reserved)) in
    rw (c.insert.ensures.items, inserted c.insert.result (insert frames c.in-Err.place c.args.frame) frames succeeds)
    (kept-insert c.self.inside.format frames c.self.inside.room _ _ c.in-Err.place c.args.frame c.self.invariant c.insert.ensures.capacity c.identity_number-number.ensures.fits spare gap)

pub returns-in-Err : goal.returns-in-Err
returns-in-Err c =
    let frames : List FrameParts = c.self.inside.frames.items in
    let gap : IsGapFor (identity_number c.self.inside.format) (identity_number c.self.inside.format c.args.frame) c.in-Err.place frames = rw (c.as_slice.ensures.value, c.identity_number-number.ensures.number) at c.in-Err.ensures.absent in
    let has_room : HasRoomFor c.args.frame frames c.self.inside.room = rw (← c.self.view_is) at c.requires.room in
    let spare : length frames < c.self.inside.room = gap_spare c.self.inside.format frames c.self.inside.room c.in-Err.place c.args.frame c.self.invariant.fit c.identity_number-number.ensures.fits has_room gap in
    let succeeds : IsOk c.insert.result = c.insert.ensures.succeeds (omega (arith, spare, c.as_slice.ensures.len, ap length c.as_slice.ensures.value, c.self.invariant.reserved)) in
    rw (← c.self.view_is)
    (ap (λ (fs : List FrameParts). record { format = c.self.inside.format; frames = fs; room = c.self.inside.room })
    (c.insert.ensures.items ∙ inserted c.insert.result (insert frames c.in-Err.place c.args.frame) frames succeeds
    ∙ sym (gap_with c.self.inside.format c.args.frame frames c.in-Err.place c.identity_number-number.ensures.fits c.self.invariant.fit gap)))
