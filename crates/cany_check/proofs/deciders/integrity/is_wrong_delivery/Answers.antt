use Rattle.std.proofs.Common.{◌≡◌, ◌<◌, ◌∙◌, ◌==◌, ◌||◌, ℕ, true, false, List, ap, get_or, length, not, refl, sym, Option, Some}
use Rattle.std.specs.Prelude.{slice_get}
use Rattle.std.proofs.Math.Bool.{or-true}
use Rattle.std.proofs.lemmas.Bool.{eq-eqb, ne_eqb}
use Rattle.std.proofs.lemmas.Option.{slice_get_read}
use Rattle.cany_base.specs.declared.message.MsgKey.{MsgKey}
use Rattle.cany_check.specs.declared.account.record.MessageRecord.{MessageRecord}
use Rattle.cany_check.specs.Deciding.Integrity.{was_sent_by_then}
use Rattle.cany_check.specs.Accounts.Places.{place_of}
use Rattle.cany_check.proofs.Deciding.MarkFacts.{marked_more, unknown_is_wrong, wrong_is}
use Rattle.cany_check.proofs.deciders.integrity.is_wrong_delivery.Goals as goal
use Rattle.cany_check.proofs.deciders.integrity.is_wrong_delivery.Goals.{then-marks-place-via-then-marks-place, then-marks-place-via-else-marks-place+then-not-was_sent_by_then}

-- the message that has the key, found among the places of the messages
record IsKnown (messages : List MessageRecord) (key : MsgKey) (place : ℕ) (m : MessageRecord) : Type 0 where
  pub found : place_of key messages ≡ Some place
  pub at : slice_get messages place ≡ Some m

known_at : (messages places : List MessageRecord) (key : MsgKey) (o : Option ℕ) (place : ℕ) (m : MessageRecord) → places ≡ messages → o ≡ place_of key places → o ≡ Some place
    → place < length places → m ≡ get_or messages place m → IsKnown messages key place m
known_at messages places key o place m same o_is is within read = record {
  found = ap (place_of key) (sym same) ∙ sym o_is ∙ is;
  at = slice_get_read messages (length messages) place m refl (rw same at within) read;
}

pub returns-then-marks-place-clause-wrong : goal.returns-then-marks-place-clause-wrong
returns-then-marks-place-clause-wrong c = λ earlier marked.
    let m : MessageRecord = c.index-messages-place.result in
    let known = known_at c.args.messages.now c.args.places.now c.args.msg c.find.result c.in-Some.place m c.requires.places c.find.ensures.place c.in-Some.is c.in-Some.ensures.within c.index-messages-place.is in
    let sent = was_sent_by_then c.args.entry.now m in
    let wrong : true ≡ ((get_or c.args.marks.now c.in-Some.place 0 == c.args.number) || not sent) = elim c.then-marks-place.branch [
      | then-marks-place-via-then-marks-place w ↦
          sym (ap (λ b. b || not sent) (eq-eqb (get_or c.args.marks.now c.in-Some.place 0) c.args.number w.if-marks-place.true))
      | then-marks-place-via-else-marks-place+then-not-was_sent_by_then w ↦
          let no : sent ≡ false = sym w.was_sent_by_then.ensures ∙ w.if-not-was_sent_by_then.true in
          sym (ap (λ b. (get_or c.args.marks.now c.in-Some.place 0 == c.args.number) || not b) no ∙ or-true (get_or c.args.marks.now c.in-Some.place 0 == c.args.number))
    ] in
    wrong ∙ wrong_is c.args.messages.now c.requires.numbered c.args.number c.args.entry.now c.args.msg c.requires.key c.in-Some.place m known.found known.at earlier c.args.marks.now marked

pub returns-else-not-was_sent_by_then-clause-wrong : goal.returns-else-not-was_sent_by_then-clause-wrong
returns-else-not-was_sent_by_then-clause-wrong c = λ earlier marked.
    let m : MessageRecord = c.index-messages-place.result in
    let known = known_at c.args.messages.now c.args.places.now c.args.msg c.find.result c.in-Some.place m c.requires.places c.find.ensures.place c.in-Some.is c.in-Some.ensures.within c.index-messages-place.is in
    let unmarked : (get_or c.args.marks.now c.in-Some.place 0 == c.args.number) ≡ false = ne_eqb (get_or c.args.marks.now c.in-Some.place 0) c.args.number c.if-marks-place.false in
    let sent : was_sent_by_then c.args.entry.now m ≡ true = sym c.was_sent_by_then.ensures ∙ c.if-not-was_sent_by_then.false in
    sym (ap (λ b. b || not (was_sent_by_then c.args.entry.now m)) unmarked ∙ ap not sent)
    ∙ wrong_is c.args.messages.now c.requires.numbered c.args.number c.args.entry.now c.args.msg c.requires.key c.in-Some.place m known.found known.at earlier c.args.marks.now marked

pub returns-else-not-was_sent_by_then-clause-marked : goal.returns-else-not-was_sent_by_then-clause-marked
returns-else-not-was_sent_by_then-clause-marked c = λ earlier marked right.
    let m : MessageRecord = c.index-messages-place.result in
    let known = known_at c.args.messages.now c.args.places.now c.args.msg c.find.result c.in-Some.place m c.requires.places c.find.ensures.place c.in-Some.is c.in-Some.ensures.within c.index-messages-place.is in
    marked_more c.args.messages.now c.requires.numbered c.args.number c.args.entry.now c.args.msg c.requires.key c.in-Some.place m known.found known.at earlier c.args.marks.now marked

pub returns-in-None-clause-wrong : goal.returns-in-None-clause-wrong
returns-in-None-clause-wrong c = λ earlier marked.
    unknown_is_wrong c.args.messages.now c.requires.numbered c.args.number c.args.entry.now c.args.msg c.requires.key
    (ap (place_of c.args.msg) (sym c.requires.places) ∙ sym c.find.ensures.place ∙ c.in-None.is) earlier
