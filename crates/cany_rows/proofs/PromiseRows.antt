-- Worked rows of the whole promise: a run that keeps all of it, and for each part one that does
-- not.
use Rattle.std.specs.Prelude.{ℕ, ◌+◌, ◌*◌, ◌<◌, ◌≤◌, ◌≡◌, ◌&&◌, Bool, true, List, [], ◌∷◌, Option, Some, None, Ok, map, refl}
use Rattle.std.proofs.Common.{ap, arith, inl, lit<, lit≤, subst, sym}
use Rattle.cany_base.specs.declared.log_entry.LogEntry.{LogEntry}
use Rattle.cany_base.specs.declared.log_entry.LogEntry.TheVariants.{Failed, View}
use Rattle.cany_base.specs.declared.message.Service.{Service}
use Rattle.cany_base.specs.declared.message.Service.TheVariants as service
use Rattle.cany_base.specs.declared.rule.Rule.{Rule}
use Rattle.cany_base.specs.declared.rule.Verdict.TheVariants.{Clean, Lost, Partial, Silent}
use Rattle.cany_base.specs.Nodes.{Nodes}
use Rattle.cany_base.specs.Params.{first_fault}
use Rattle.cany_base.specs.Scenario.{ScenarioParts}
use Rattle.cany_model.specs.declared.breaks.Break.{Break}
use Rattle.cany_model.specs.declared.breaks.BreakKind.TheVariants as kind
use Rattle.cany_model.specs.Runs.Run.{all_read}
use Rattle.cany_model.specs.Bus.State.{RunState, node_at, reads, runs}
use Rattle.cany_model.specs.Promises.Hypothesis.{IsWithin, first_break}
use Rattle.cany_model.specs.Promises.OneView.{HasOneView, HasReadEnd, installed, installed_of}
use Rattle.cany_model.specs.Promises.Order.{HasOneOrder}
use Rattle.cany_model.specs.Promises.FirstSlots.{first_carried}
use Rattle.cany_model.specs.Promises.Safe.{IsAgreedOn, IsSignAgreedOn}
use Rattle.cany_model.specs.Promises.Settled.{nobody_waits_with_sign}
use Rattle.cany_model.specs.Rules.Messages.{Message}
use Rattle.cany_model.specs.Rules.Knowledge.{fda_of}
use Rattle.cany_model.proofs.Promises.BreakFacts.{first_break_exact}
use Rattle.cany_rows.proofs.OrderRows.{content, first_origin, OrderReport, order_report, order_row, silent_to_node_2, two_is_not_one}
use Rattle.cany_rows.proofs.RowWords.{NodeReport, RunReport, Walk, report_in, walk_of, carries, delivers, delivers_rel, delivers_tot, ed, accept, confirm, idle, rel, report, scenario, send, send_rel, send_tot, set, slot_rule, three, tot, running_node, stopped_node, whole_run, report_of, run_of}
use Rattle.cany_rows.proofs.Site.SiteWords.{asks_at, els, fda, join, leave, of_members, rha, short_cycles, sign, site_row, with_asks}

-- ---- a run that keeps the whole promise

-- Three nodes, of which 0 and 1 are members, and the least bound, cycle, life and silence that the
-- formulas allow. Each sends a message, node 2 one more. Node 2 rejects the first frame, and asks
-- to join; node 1 asks to leave, and stops.
unfoldable whole : ScenarioParts
whole =
    with_asks (asks_at 10 2 ∷ []) (asks_at 20 1 ∷ []) (of_members 3 (scenario (three 106 1 1)
    (send_tot 0 0 (1 ∷ []) ∷ send_rel 0 1 (2 ∷ []) ∷ send 0 2 (3 ∷ []) ∷ send_tot 0 2 (4 ∷ []) ∷ [])
    (slot_rule 1 (Partial (set 4)) 0 ∷ slot_rule 22 Clean 2 ∷ [])))

unfoldable promise_row : Unit {0}
unfolding site_row order_row
promise_row = tt

formulas_are_met : first_fault whole.params ≡ Ok tt
unfolding promise_row whole
formulas_are_met = refl

-- whether a node runs at the end of a run, since which slot it takes part, and how many slots it
-- has read
record NodeEnd : Type 0 where
  running : Bool
  from : ℕ
  read : ℕ

abbrev node_end : RunState → ℕ → NodeEnd
node_end s i = record { running = runs (node_at s.nodes i); from = (node_at s.nodes i).present.from; read = reads s i }

-- What is seen of the run, which is computed here once: where it leaves the hypothesis, its report,
-- its order, the vectors of cycle 1, in which slot the sign of the stop of node 1 was first
-- carried, whether nobody waits with it and all is read, and nodes 0 and 2.
record SeenOfWhole : Type 0 where
  broken : Option Break
  report : RunReport
  order : OrderReport
  vectors : List (Option Nodes)
  carried : Option ℕ
  known : Bool
  node_0 : NodeEnd
  node_2 : NodeEnd

abbrev whole_seen_in : Walk → SeenOfWhole
whole_seen_in w =
    let s = w.end in
    record {
      broken = first_break whole.params s.trace;
      report = record (report_in whole w) { journal = [] };
      order = order_report whole s;
      vectors = map (λ i. installed whole s i 1) (0 ∷ 1 ∷ 2 ∷ []);
      carried = first_carried (fda_of (sign 1 1)) s.trace;
      known = nobody_waits_with_sign s (sign 1 1) && all_read s;
      node_0 = node_end s 0;
      node_2 = node_end s 2;
    }

-- All messages are settled, and in the logs of nodes 0 and 2, which are correct. Both tell of the
-- stop of node 1 and have the same view. The order has the messages by TOTCAN, and every node has
-- delivered all of it. Nodes 0 and 2 install one vector at the end of cycle 1, which node 1 has not
-- read.
promise_is_kept :
    (let all = content 0 0 (1 ∷ []) ∷ content 2 1 (4 ∷ []) ∷ [] in
    let signs = Failed 71 1 1 ∷ View 105 1 (set 5) ∷ [] in
    let first : ℕ → LogEntry = λ slot. delivers_tot slot 0 0 (1 ∷ []) in
    let second : ℕ → LogEntry = λ slot. delivers_tot slot 2 1 (4 ∷ []) in
    whole_seen_in (walk_of whole) ≡ record {
      broken = None;
      report = whole_run []
          (carries 1 (tot 0 0 (1 ∷ [])) 1 2 (Partial (set 4)) 0 ∷ carries 2 (tot 0 0 (1 ∷ [])) 1 6 Clean 0 ∷ carries 3 (accept 0 0) 1 6 Clean 0
          ∷ carries 4 (accept 0 0) 6 1 Clean 0 ∷ carries 5 (tot 2 1 (4 ∷ [])) 4 3 Clean 0 ∷ carries 6 (accept 2 1) 4 3 Clean 0
          ∷ carries 7 (accept 2 1) 3 4 Clean 0 ∷ carries 8 (rel 1 0 (2 ∷ [])) 2 5 Clean 0 ∷ carries 9 (confirm 1 0) 2 5 Clean 0
          ∷ carries 10 (ed 2 0 (3 ∷ [])) 4 3 Clean 0 ∷ carries 11 (join 2 0) 4 3 Clean 0 ∷ carries 12 (ed 2 0 (3 ∷ [])) 3 4 Clean 0
          ∷ carries 21 (leave 1 0) 2 5 Clean 0 ∷ idle 22 2 ∷ carries 38 (els 0 0) 1 4 Clean 0
          ∷ carries 71 (rha 0 1 5) 1 4 Clean 0 ∷ carries 72 (rha 2 1 5) 4 1 Clean 0 ∷ carries 73 (fda 1 1) 5 0 Clean 0 ∷ [])
          (running_node 106 (first 2 ∷ second 6 ∷ delivers_rel 8 1 0 (2 ∷ []) ∷ delivers 10 2 0 (3 ∷ []) ∷ signs)
          ∷ stopped_node 22 22 (first 3 ∷ second 6 ∷ delivers_rel 8 1 0 (2 ∷ []) ∷ delivers 10 2 0 (3 ∷ []) ∷ [])
          ∷ running_node 106 (first 3 ∷ second 5 ∷ delivers_rel 8 1 0 (2 ∷ []) ∷ delivers 10 2 0 (3 ∷ []) ∷ signs) ∷ [])
          (true ∷ true ∷ true ∷ true ∷ []);
      order = record {
        order = all;
        nodes = (all, all) ∷ (all, all) ∷ (all, all) ∷ [];
        settled = true ∷ true ∷ true ∷ true ∷ [];
        broken = None;
      };
      vectors = Some (set 5) ∷ None ∷ Some (set 5) ∷ [];
      carried = Some 73;
      known = true;
      node_0 = record { running = true; from = 0; read = 106 };
      node_2 = record { running = true; from = 0; read = 106 };
    })
unfolding promise_row installed_of first_carried whole
promise_is_kept = refl

has_read_end : (sc : ScenarioParts) (s : RunState) (k i from read : ℕ) → i < sc.params.nodes → node_end s i ≡ record { running = true; from = from; read = read }
    → from ≤ k * sc.params.cycle → k * sc.params.cycle + sc.params.bound < read → HasReadEnd sc s k i
has_read_end sc s k i from read there end part late = record {
  correct = record {
    correct = record { there = there; running = ap (λ (e : NodeEnd). e.running) end };
    took_part = subst (λ n. n ≤ k * sc.params.cycle) (sym (ap (λ (e : NodeEnd). e.from) end)) part;
  };
  read = subst (λ n. k * sc.params.cycle + sc.params.bound < n) (sym (ap (λ (e : NodeEnd). e.read) end)) late;
}

-- the premises
premises_are_met :
    (let s = (walk_of whole).end in
    IsWithin whole.params s.trace × HasReadEnd whole s 1 0 × HasReadEnd whole s 1 2
    × ((nobody_waits_with_sign s (sign 1 1) && all_read s) ≡ true) × (first_carried (fda_of (sign 1 1)) s.trace ≡ Some 73))
unfolding whole with_asks of_members scenario three
premises_are_met =
    let s = (walk_of whole).end in (
      (first_break_exact whole.params s.trace).0 (ap (λ (seen : SeenOfWhole). seen.broken) promise_is_kept),
      has_read_end whole s 1 0 0 106 (lit< tt) (ap (λ (seen : SeenOfWhole). seen.node_0) promise_is_kept) (lit≤ tt) (lit< tt),
      has_read_end whole s 1 2 0 106 (lit< tt) (ap (λ (seen : SeenOfWhole). seen.node_2) promise_is_kept) (lit≤ tt) (lit< tt),
      ap (λ (seen : SeenOfWhole). seen.known) promise_is_kept,
      ap (λ (seen : SeenOfWhole). seen.carried) promise_is_kept,
    )

-- ---- agreement fails outside the hypothesis

not_below_0 : {P : Type 0} (k : ℕ) → k < 0 → P
not_below_0 k below = absurd (omega (arith, below))

-- A message by one of the services: its sender is content although node 2 rejects its frame, and no
-- omission is allowed. The formulas are met.
unfoldable silent_by : Service → ScenarioParts
silent_by by = scenario (three 39 0 2) (record { slot = 0; node = 0; service = by; payload = 1 ∷ [] } ∷ []) (slot_rule 1 (Silent (set 4)) 0 ∷ [])

its_formulas_are_met : (by : Service) → first_fault (silent_by by).params ≡ Ok tt
unfolding promise_row silent_by
its_formulas_are_met by = refl

unfoldable silent_run : Service → RunState
silent_run by = run_of (silent_by by)

-- of a run: whether the messages are settled, the logs, and the first break
unfoldable outcome : ScenarioParts → List Bool × List (List LogEntry) × Option Break
unfolding report
outcome sc = let r = report_of sc in (r.settled, map (λ (node : NodeReport). node.log) r.nodes, r.broken)

unfoldable outside_row : Unit {0}
unfolding promise_row silent_by silent_run outcome
outside_row = tt

messages_that_node_2_never_has :
    map (λ by. outcome (silent_by by)) (service.Ed ∷ service.Rel ∷ service.Tot ∷ [])
    ≡ (let broken = Some (record { kind = kind.Silent; slot = 1 }) in
    (true ∷ [], (delivers 1 0 0 (1 ∷ []) ∷ []) ∷ (delivers 1 0 0 (1 ∷ []) ∷ []) ∷ [] ∷ [], broken)
    ∷ (true ∷ [], (delivers_rel 1 0 0 (1 ∷ []) ∷ []) ∷ (delivers_rel 1 0 0 (1 ∷ []) ∷ []) ∷ [] ∷ [], broken)
    ∷ (true ∷ [], (delivers_tot 1 0 0 (1 ∷ []) ∷ []) ∷ (delivers_tot 2 0 0 (1 ∷ []) ∷ []) ∷ [] ∷ [], broken) ∷ [])
unfolding outside_row
messages_that_node_2_never_has = refl

unfoldable message_by : Service → Message
message_by by = record { slot = 0; origin = 0; seq = 0; service = by; payload = 1 ∷ [] }

-- the origin takes part since the first frame, and node 2 too, whose log is empty
agreement_fails : (by : Service) → IsAgreedOn (silent_by by) (silent_run by) (message_by by) → ⊥
unfolding outside_row message_by first_carried
agreement_fails service.Ed agreed =
    let missing = agreed refl 0 (record { correct = record { there = lit< tt; running = refl }; took_part = lit≤ tt }) (inl refl)
    2 (record { correct = record { there = lit< tt; running = refl }; took_part = lit≤ tt }) in
    not_below_0 missing.stands.0 missing.stands.1
agreement_fails service.Rel agreed =
    let missing = agreed refl 0 (record { correct = record { there = lit< tt; running = refl }; took_part = lit≤ tt }) (inl refl)
    2 (record { correct = record { there = lit< tt; running = refl }; took_part = lit≤ tt }) in
    not_below_0 missing.stands.0 missing.stands.1
agreement_fails service.Tot agreed =
    let missing = agreed refl 0 (record { correct = record { there = lit< tt; running = refl }; took_part = lit≤ tt }) (inl refl)
    2 (record { correct = record { there = lit< tt; running = refl }; took_part = lit≤ tt }) in
    not_below_0 missing.stands.0 missing.stands.1

-- ---- one order

-- that of row `silent_omission_breaks_the_order`: node 0 begins with a message that the order does
-- not have
one_order_fails : HasOneOrder silent_to_node_2 (run_of silent_to_node_2) → ⊥
unfolding promise_row silent_to_node_2
one_order_fails follows = two_is_not_one (ap first_origin (follows 0 (record { there = lit< tt; running = refl })).prefix)

-- ---- one view

-- Node 2 asks to leave, and stops: node 1 alone does not hear it. So nodes 0 and 1 start cycle 1
-- with two vectors, in slot 8.
unfoldable leave_at_node_0 : ℕ → List Rule → ScenarioParts
leave_at_node_0 bound rules =
    with_asks [] (asks_at 6 2 ∷ [])
    (of_members 7 (scenario (record (short_cycles 1) { bound = bound; slots = 12 }) [] (slot_rule 7 (Partial (set 2)) 4 ∷ rules)))

-- outside the hypothesis: node 0 is content although node 1 rejects its vector
unfoldable silent_vector : ScenarioParts
silent_vector = leave_at_node_0 3 (slot_rule 9 (Silent (set 2)) 0 ∷ [])

unfoldable view_row : Unit {0}
unfolding outside_row leave_at_node_0 silent_vector
view_row = tt

views_differ :
    outcome silent_vector
    ≡ ([], (View 11 1 (set 3) ∷ []) ∷ (View 11 1 (set 7) ∷ []) ∷ [] ∷ [], Some (record { kind = kind.Silent; slot = 9 }))
unfolding view_row
views_differ = refl

three_is_not_seven : ◌≡◌ {A = ℕ} 3 7 → ⊥
three_is_not_seven same = omega (arith, same)

one_view_fails : HasOneView silent_vector (run_of silent_vector) → ⊥
unfolding view_row
one_view_fails alike =
    three_is_not_seven
    (ap (λ (v : Nodes). v.bits)
    (alike 0 1 (record { there = lit< tt; running = refl }) (record { there = lit< tt; running = refl }) 1 11 11 (set 3) (set 7)
    (0, lit< tt, refl) (0, lit< tt, refl)))

-- within the hypothesis, where a cycle ends before two Lost slots are made up for: no vector of
-- node 0 is carried
bound_too_small_breaks_the_views :
    outcome (leave_at_node_0 2 (slot_rule 9 Lost 0 ∷ slot_rule 10 Lost 0 ∷ []))
    ≡ ([], (View 10 1 (set 3) ∷ []) ∷ (View 10 1 (set 7) ∷ []) ∷ [] ∷ [], None)
unfolding view_row
bound_too_small_breaks_the_views = refl

-- ---- failure signs

-- Node 2 shows life to node 1 alone, and stops. Node 0 finds in slot 8 that it failed, and is
-- content although node 1 rejects its sign.
unfoldable silent_sign : ScenarioParts
silent_sign =
    of_members 7 (scenario (record (three 10 1 2) { cycle = 100; life = 4; silence = 8 }) []
    (slot_rule 7 (Partial (set 1)) 4 ∷ slot_rule 9 (Silent (set 2)) 0 ∷ []))

unfoldable silent_sign_run : RunState
silent_sign_run = run_of silent_sign

signs_differ : outcome silent_sign ≡ ([], (Failed 8 2 0 ∷ []) ∷ [] ∷ [] ∷ [], Some (record { kind = kind.Silent; slot = 9 }))
unfolding view_row silent_sign
signs_differ = refl

sign_agreement_fails : IsSignAgreedOn silent_sign silent_sign_run (sign 2 0) → ⊥
unfolding view_row silent_sign silent_sign_run first_carried
sign_agreement_fails agreed =
    let missing = agreed refl 0 (record { correct = record { there = lit< tt; running = refl }; took_part = lit≤ tt })
    (record { entry = Failed 8 2 0; stands = (0, lit< tt, refl); tells = (refl, refl) })
    1 (record { correct = record { there = lit< tt; running = refl }; took_part = lit≤ tt }) in
    not_below_0 missing.stands.0 missing.stands.1
