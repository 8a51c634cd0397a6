use Rattle.std.proofs.Common.{◌≡◌, ◌+◌, List, length, get_or, refl, ap, sym, subst, ◌∙◌, arith}
use Rattle.std.specs.Prelude.{slice_get, slice_set, None, Some}
use Rattle.std.proofs.lemmas.List.{length-set}
use Rattle.std.proofs.lemmas.Option.{get_or_from_slice_get, slice_get_within}
use Rattle.cany_base.proofs.ParamsFacts.{few_slots}
use Rattle.cany_model.specs.declared.span.Span.{Span}
use Rattle.cany_node.specs.Node.{NodeParts, CanBegin, IsWaiting}
use Rattle.cany_world.specs.Incarnations.{IncarnationsParts, span_until}
use Rattle.cany_world.specs.IncarnationsFields.{incarnations_parts}
use Rattle.cany_world.proofs.NodeFacts.{restarted_by}
use Rattle.cany_world.proofs.PlaceFacts.{one_written, written}
use Rattle.cany_world.proofs.SoundFacts.{still_sound}
use Rattle.cany_world.proofs.incarnations.Incarnations.restart.Goals as goal

pub returns : goal.returns
returns c =
    let nodes : List NodeParts = slice_set c.as_mut_slice-nodes.result.now (c.self.inside.present + 1) c.begin.new.self in
    let once : List Span = slice_set c.as_mut_slice-spans.result.now c.self.inside.present c.span_until.result in
    let spans : List Span = slice_set once (c.self.inside.present + 1) c.span_since.result in
    let node : NodeParts = get_or c.as_mut_slice-nodes.result.now (c.self.inside.present + 1) c.index-nodes-self.result in
    restarted_by c.args.slot c.args.stopped c.args.next c.begin.new.self c.args.self.now (incarnations_parts c.self.inside) c.self.view_is
    (written nodes _ c.self.inside.nodes.len (length-set c.as_mut_slice-nodes.result.now (c.self.inside.present + 1) c.begin.new.self ∙ c.as_mut_slice-nodes.ensures.len)
    ∙ ap (λ (l : List NodeParts). slice_set l (c.self.inside.present + 1) c.begin.new.self) c.as_mut_slice-nodes.ensures.value)
    (λ span here.
    let read : get_or c.as_mut_slice-spans.result.now c.self.inside.present (record { since = 0; stopped = None; read = 0 }) ≡ span =
    ap (λ (l : List Span). get_or l c.self.inside.present (record { since = 0; stopped = None; read = 0 })) c.as_mut_slice-spans.ensures.value
    ∙ get_or_from_slice_get c.self.inside.spans.items c.self.inside.present span (record { since = 0; stopped = None; read = 0 }) here in
    written spans _ c.self.inside.spans.len (length-set once (c.self.inside.present + 1) c.span_since.result
    ∙ length-set c.as_mut_slice-spans.result.now c.self.inside.present c.span_until.result ∙ c.as_mut_slice-spans.ensures.len)
    ∙ ap (λ (l : List Span). slice_set (slice_set l c.self.inside.present c.span_until.result) (c.self.inside.present + 1) c.span_since.result) c.as_mut_slice-spans.ensures.value
    ∙ ap (λ (x : Span). slice_set (slice_set c.self.inside.spans.items c.self.inside.present x) (c.self.inside.present + 1) c.span_since.result)
    (c.span_until.ensures ∙ ap (span_until c.args.stopped c.args.next) read)
    ∙ ap (λ (x : Span). slice_set (slice_set c.self.inside.spans.items c.self.inside.present (span_until c.args.stopped c.args.next span)) (c.self.inside.present + 1) x)
    c.span_since.ensures)
    refl
    (λ it here.
    let same : node ≡ it =
    ap (λ (l : List NodeParts). get_or l (c.self.inside.present + 1) c.index-nodes-self.result) c.as_mut_slice-nodes.ensures.value
    ∙ get_or_from_slice_get c.self.inside.nodes.items (c.self.inside.present + 1) it c.index-nodes-self.result here in
    record {
      node = c.begin.ensures.node ∙ ap (λ (x : NodeParts). x.node) same;
      inc = c.begin.ensures.inc ∙ ap (λ (x : NodeParts). x.inc) same;
      stands = λ scenario inc number from waits.
          c.begin.ensures.stands scenario inc (number ∙ ap (λ (x : NodeParts). x.inc) (sym same)) from (subst (IsWaiting scenario) (sym same) waits);
      cycle = λ scenario waits. c.begin.ensures.cycle scenario (subst (IsWaiting scenario) (sym same) waits);
    })

pub begin-requires : goal.begin-requires
begin-requires c =
    let it = c.requires.it in
    let here : slice_get c.self.inside.nodes.items (c.self.inside.present + 1) ≡ Some it =
    subst (λ (x : IncarnationsParts). slice_get x.nodes (x.present + 1) ≡ Some it) (sym c.self.view_is) c.requires.at in
    let same : get_or c.as_mut_slice-nodes.result.now (c.self.inside.present + 1) c.index-nodes-self.result ≡ it =
    ap (λ (l : List NodeParts). get_or l (c.self.inside.present + 1) c.index-nodes-self.result) c.as_mut_slice-nodes.ensures.value
    ∙ get_or_from_slice_get c.self.inside.nodes.items (c.self.inside.present + 1) it c.index-nodes-self.result here in
    subst (λ (x : NodeParts). CanBegin x c.args.slot) (sym same) c.requires.can

pub overflow_add-self : goal.overflow_add-self
overflow_add-self c = omega (arith, c.self.invariant.within, c.self.invariant.few)

pub overflow_add-slot : goal.overflow_add-slot
overflow_add-slot c = omega (arith, c.requires.can.within, few_slots c.requires.can.scenario.params c.requires.can.waits.legal.in_range)

pub invariant_of-self : goal.invariant_of-self
invariant_of-self c =
    let here : slice_get c.self.inside.nodes.items (c.self.inside.present + 1) ≡ Some c.requires.it =
    subst (λ (x : IncarnationsParts). slice_get x.nodes (x.present + 1) ≡ Some c.requires.it) (sym c.self.view_is) c.requires.at in
    let once : List Span = slice_set c.as_mut_slice-spans.result.now c.self.inside.present c.span_until.result in
    still_sound c.self.inside _ c.self.invariant (slice_get_within c.self.inside.nodes.items (c.self.inside.present + 1) c.requires.it here)
    (ap (λ (l : List NodeParts). length l)
    (one_written c.self.inside.nodes.items c.as_mut_slice-nodes.result.now _ c.self.inside.nodes.len (c.self.inside.present + 1) c.begin.new.self
    c.as_mut_slice-nodes.ensures.value c.as_mut_slice-nodes.ensures.len)
    ∙ length-set c.self.inside.nodes.items (c.self.inside.present + 1) c.begin.new.self)
    (ap (λ (l : List Span). length l)
    (written (slice_set once (c.self.inside.present + 1) c.span_since.result) _ c.self.inside.spans.len
    (length-set once (c.self.inside.present + 1) c.span_since.result ∙ length-set c.as_mut_slice-spans.result.now c.self.inside.present c.span_until.result
    ∙ c.as_mut_slice-spans.ensures.len))
    ∙ length-set once (c.self.inside.present + 1) c.span_since.result ∙ length-set c.as_mut_slice-spans.result.now c.self.inside.present c.span_until.result
    ∙ ap (λ (l : List Span). length l) c.as_mut_slice-spans.ensures.value)
