-- The next message is the first that was not asked for, where another may be.
use Rattle.std.proofs.Common.{◌<◌, ap, arith, length, subst, sym, ◌∙◌}
use Rattle.std.specs.List.{AllByRecursion}
use Rattle.std.proofs.lemmas.List.{length-set}
use Rattle.cany_base.specs.Bounded.{Bounded}
use Rattle.cany_totcan.specs.declared.backlog.OwnMessage.{OwnMessage}
use Rattle.cany_totcan.specs.Backlog.{with_asked}
use Rattle.cany_totcan.proofs.BacklogFacts.{after_is, given_within, next_is, none_free, none_left}
use Rattle.cany_totcan.proofs.backlog.Backlog.next.Goals.{then-self-len-via-then-self-len, then-self-len-via-else-self-len+then-not-is_free}
use Rattle.cany_totcan.proofs.backlog.Backlog.next.Goals as goal

pub get-was-requires : goal.get-was-requires
get-was-requires c =
    let v = c.self.inside in
    subst (λ n. n < length v.own.items) (sym c.from-place.ensures) (given_within v.given.items _ _ c.get-given.result c.self.invariant.messages c.get-given.ensures)

pub set-requires : goal.set-requires
set-requires c =
    let v = c.self.inside in
    subst (λ n. n < length v.own.items) (sym c.from-place.ensures) (given_within v.given.items _ _ c.get-given.result c.self.invariant.messages c.get-given.ensures)

pub invariant_of-self : goal.invariant_of-self
invariant_of-self c = record {
  messages = subst (λ numbers. AllByRecursion (λ g. g.seq < numbers) c.self.inside.given.items)
      (sym (ap (λ (list : Bounded OwnMessage). length list.items) c.set.ensures ∙ length-set _ _ _)) c.self.invariant.messages;
  some = omega (arith, c.len.ensures.len, c.if-self-len.false);
}

pub returns-then-self-len-clause-next : goal.returns-then-self-len-clause-next
returns-then-self-len-clause-next c = elim c.then-self-len.branch [
  | then-self-len-via-then-self-len w ↦
      sym (none_left c.args.now c.args.spacing _ c.args.self.now c.self.view_is (omega (arith, c.len.ensures.len, w.if-self-len.true)))
  | then-self-len-via-else-self-len+then-not-is_free w ↦
      sym (none_free c.args.now c.args.spacing c.args.self.now (sym w.is_free.ensures ∙ w.if-not-is_free.true))
]

pub returns-then-self-len-clause-after : goal.returns-then-self-len-clause-after
returns-then-self-len-clause-after c = elim c.then-self-len.branch [
  | then-self-len-via-then-self-len w ↦
      ap (with_asked c.args.self.now)
      (sym (none_left c.args.now c.args.spacing _ c.args.self.now c.self.view_is (omega (arith, c.len.ensures.len, w.if-self-len.true))))
  | then-self-len-via-else-self-len+then-not-is_free w ↦
      ap (with_asked c.args.self.now) (sym (none_free c.args.now c.args.spacing c.args.self.now (sym w.is_free.ensures ∙ w.if-not-is_free.true)))
]

pub returns-clause-next : goal.returns-clause-next
returns-clause-next c =
    sym (next_is c.args.now c.args.spacing _ c.args.self.now c.get-given.result c.self.view_is (omega (arith, c.len.ensures.len, c.if-self-len.false))
    (sym c.is_free.ensures ∙ c.if-not-is_free.false) c.get-given.ensures)

pub returns-clause-after : goal.returns-clause-after
returns-clause-after c =
    after_is c.args.now c.args.spacing _ c.args.self.now c.get-given.result c.from-place.result c.get-was.result c.set.new.self.items c.self.view_is
    (next_is c.args.now c.args.spacing _ c.args.self.now c.get-given.result c.self.view_is (omega (arith, c.len.ensures.len, c.if-self-len.false))
    (sym c.is_free.ensures ∙ c.if-not-is_free.false) c.get-given.ensures)
    c.from-place.ensures c.get-was.ensures (ap (λ (list : Bounded OwnMessage). list.items) c.set.ensures)
