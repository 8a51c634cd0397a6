use Rattle.std.proofs.Common.{◌≡◌, List, length, map, ◌∙◌, ap, arith}
use Rattle.cany_check.specs.declared.deciders.findings.Told.{Told}
use Rattle.cany_check.specs.Texts.Counts.{counts_of, lengths_of, running_counts}
use Rattle.cany_check.specs.Deciding.Views.{view_partings}
use Rattle.cany_check.proofs.Texts.HeadFacts.{accuracy-put, agreement-put, integrity-put, order-put, signs-put, views-put}
use Rattle.cany_check.proofs.Deciding.JudgedFacts.{sign_fates_told}
use Rattle.cany_check.proofs.text.head.write_part.Goals as goal

pub returns-in-Integrity : goal.returns-in-Integrity
returns-in-Integrity g c =
    let a = c.args.account.now in
    rw (integrity-put a c.judgement-judgement.result c.args.part (c.judgement-judgement.ensures a c.requires) c.in-Integrity.is) c.write_judgement.ensures

pub returns-in-Agreement : goal.returns-in-Agreement
returns-in-Agreement g c =
    let a = c.args.account.now in
    rw (agreement-put a c.judgement-judgement.result c.args.part (c.judgement-judgement.ensures a c.requires) c.in-Agreement.by c.message_counts-counts.result c.in-Agreement.is
    c.message_counts-counts.ensures)
    c.write_fates.ensures

pub returns-in-Order : goal.returns-in-Order
returns-in-Order g c =
    let a = c.args.account.now in
    rw (order-put a c.judgement-judgement.result c.args.part (c.judgement-judgement.ensures a c.requires) c.shortest_and_longest-lengths.result c.in-Order.is
    (c.shortest_and_longest-lengths.ensures ∙ ap (λ l. lengths_of (running_counts l)) c.logs.ensures.logs))
    c.write_counts.ensures

pub returns-in-Views : goal.returns-in-Views
returns-in-Views g c =
    let a = c.args.account.now in
    let apart : c.len.result ≡ length (view_partings a) =
    omega (arith, c.len.ensures, c.views-views.result.now.apart.ok.0, ap length (c.views-views.ensures.apart ∙ c.requires.views)) in
    rw (views-put a c.judgement-judgement.result c.args.part (c.judgement-judgement.ensures a c.requires) _ c.len.result c.in-Views.is
    (c.views-views.ensures.numbers ∙ c.requires.numbers) apart)
    c.write_counts-in-Views.ensures

pub returns-in-Signs : goal.returns-in-Signs
returns-in-Signs g c =
    let a = c.args.account.now in
    rw (signs-put a c.judgement-judgement.result c.args.part (c.judgement-judgement.ensures a c.requires) c.told_counts-counts.result c.in-Signs.is
    (c.told_counts-counts.ensures ∙ (ap (λ (l : List Told). counts_of (map (λ (t : Told). t.fate) l)) (c.signs.ensures ∙ c.requires.signs)
    ∙ ap counts_of (sign_fates_told a))))
    c.write_fates-in-Signs.ensures

pub returns-in-Accuracy : goal.returns-in-Accuracy
returns-in-Accuracy g c =
    let a = c.args.account.now in
    rw (accuracy-put a c.judgement-judgement.result c.args.part (c.judgement-judgement.ensures a c.requires) c.in-Accuracy.is) c.write_judgement-in-Accuracy.ensures
