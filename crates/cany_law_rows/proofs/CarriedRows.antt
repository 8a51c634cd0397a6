-- Worked rows of how often the bus carries the frames of a TOTCAN message, and that of a failure
-- sign.
use Rattle.std.specs.Prelude.{◌≡◌, ℕ, Bool, false, List, [], ◌∷◌, codes, length, refl}
use Rattle.std.specs.List.{AllByRecursion, list_any}
use Rattle.std.proofs.Common.{ap, arith}
use Rattle.std.proofs.lemmas.Bool.{both_ways, false_from_ne_true, or_right}
use Rattle.std.proofs.lemmas.List.Elements.{All-from_recursion}
use Rattle.cany_base.specs.declared.slot_note.SlotNote.{SlotNote}
use Rattle.cany_base.specs.declared.format.Format.TheVariants.{One}
use Rattle.cany_base.specs.declared.message.Service.TheVariants.{Tot}
use Rattle.cany_base.specs.declared.rule.Verdict.TheVariants.{Clean}
use Rattle.cany_base.specs.declared.step.Step.{Step}
use Rattle.cany_base.specs.Scenario.{ScenarioParts}
use Rattle.cany_model.specs.Bus.State.{RunState}
use Rattle.cany_model.specs.Promises.Hypothesis.{is_silent_slot}
use Rattle.cany_model.proofs.Among.{Contains-head}
use Rattle.cany_model.specs.Rules.Knowledge.{FailureSign, fda_of}
use Rattle.cany_model.specs.Rules.Messages.{accept_of_key}
use Rattle.cany_model.specs.Rules.Totcan.{tot_of_key}
use Rattle.cany_laws.specs.Carried.{CarriesFewOf, CarriesFewOfSign, HasNoSilentSlot, incarnations_of_first, times_clean}
use Rattle.cany_law_rows.proofs.PremiseWords.{asked_of, none_has, run_of}
use Rattle.cany_law_rows.proofs.RowWords.{again, key, row, seen_by, seen_of, send, set, slot_rule, steps, three, two, within}

-- Of two nodes the origin sends the frame that accepts its message in the slot after the data
-- frame, and the other node sends it in the next slot: it is carried as often as there are nodes.
unfoldable accepted_by_both : ScenarioParts
accepted_by_both = two 6 (send Tot 0 0 (1 ∷ []) ∷ []) [] []

-- how often the data frame was carried Clean, and the frame that accepts it, and whether a Silent
-- slot carried a frame
record Frames : Type 0 where
  tot_data : ℕ
  accepts : ℕ
  silent : Bool

abbrev frames_of_it : RunState → Frames
frames_of_it s = record {
  tot_data = times_clean (tot_of_key (key 0 0)) s.trace;
  accepts = times_clean (accept_of_key (key 0 0)) s.trace;
  silent = list_any is_silent_slot s.trace;
}

abbrev once_and : ℕ → Frames
once_and accepts = record { tot_data = 1; accepts = accepts; silent = false }

one_and_two : seen_of frames_of_it accepted_by_both ≡ within (once_and 2)
unfolding row accepted_by_both
one_and_two = refl

seen_by_both : frames_of_it (run_of accepted_by_both) ≡ once_and 2
seen_by_both = asked_of frames_of_it accepted_by_both (within (once_and 2)) one_and_two

no_silent_slot : HasNoSilentSlot (run_of accepted_by_both).trace
no_silent_slot =
    All-from_recursion (λ note. is_silent_slot note ≡ false) (run_of accepted_by_both).trace
    (each_lacks (run_of accepted_by_both).trace (ap (λ (f : Frames). f.silent) seen_by_both))
  where
    each_lacks : (trace : List SlotNote) → list_any is_silent_slot trace ≡ false → AllByRecursion (λ note. is_silent_slot note ≡ false) trace
    each_lacks [] none = tt
    each_lacks (note ∷ trace) none = (
      none_has is_silent_slot (note ∷ trace) none note (Contains-head note trace),
      each_lacks trace (false_from_ne_true (list_any is_silent_slot trace) (λ has.
          both_ways (list_any is_silent_slot (note ∷ trace)) none (or_right (is_silent_slot note) (list_any is_silent_slot trace) has))),
    )

as_often_as_nodes_and_lag : CarriesFewOf accepted_by_both (run_of accepted_by_both) (key 0 0)
unfolding two accepted_by_both
as_often_as_nodes_and_lag =
    let accepts = ap (λ (f : Frames). f.accepts) seen_by_both in
    record {
      tot_data = omega (arith, ap (λ (f : Frames). f.tot_data) seen_by_both);
      accepts_by_nodes = omega (arith, accepts);
      accepts_by_lag = omega (arith, accepts);
      accepts_once = λ none. omega (arith, none);
    }

-- Of three nodes the other two send it in one slot: without a lag it is carried twice, and not
-- three times.
unfoldable accepted_together : ScenarioParts
accepted_together = three 6 (send Tot 0 0 (1 ∷ []) ∷ []) [] []

twice_of_three : seen_of frames_of_it accepted_together ≡ within (once_and 2)
unfolding row accepted_together
twice_of_three = refl

-- Of four nodes at a lag of one slot node 0 sends it in slot 2, node 1 in slot 3, and the other two
-- in slot 4: it is carried `lag` + 2 times, and not four times.
unfoldable accepted_at_lag_1 : ScenarioParts
accepted_at_lag_1 =
    let sc = two 8 (send Tot 0 0 (1 ∷ []) ∷ []) [] [] in
    record sc {
      params = record { format = One; nodes = 4; lag = 1; omit = 1; errors = 2; bound = 122; cycle = 246; life = 123; silence = 247; confirm = 10; slots = 8 };
      members = set 15;
    }

unfoldable its_journal : List Step
its_journal = steps (codes ".0123.0123.01.0123.0123.0123.0123.012323")

three_of_four : seen_by frames_of_it accepted_at_lag_1 its_journal ≡ within (once_and 3)
unfolding row accepted_at_lag_1 its_journal
three_of_four = refl

-- Where `omit` is 0, the origin alone sends it.
unfoldable accepted_alone : ScenarioParts
accepted_alone =
    let sc = two 6 (send Tot 0 0 (1 ∷ []) ∷ []) [] [] in
    record sc { params = record { format = One; nodes = 2; lag = 0; omit = 0; errors = 2; bound = 19; cycle = 38; life = 19; silence = 39; confirm = 10; slots = 6 } }

once_of_two : seen_of frames_of_it accepted_alone ≡ within (once_and 1)
unfolding row accepted_alone
once_of_two = refl

-- Node 1 stops in slot 5 and starts again at the end of slot 6. Node 0 finds it silent, and the new
-- incarnation of node 1 sends the frame of that sign too. It is carried twice, and there have been
-- three incarnations.
unfoldable back_again : ScenarioParts
back_again = two 45 [] (slot_rule 5 Clean 2 ∷ []) (again 6 1 ∷ [])

abbrev its_sign : FailureSign
its_sign = record { node = 1; cycle = 1 }

-- how often its frame was carried Clean, and how many incarnations there have been
record Signed : Type 0 where
  clean : ℕ
  incarnations : ℕ

abbrev frames_of_sign : RunState → Signed
frames_of_sign s = record { clean = times_clean (fda_of its_sign) s.trace; incarnations = incarnations_of_first s 2 }

two_of_three : seen_of frames_of_sign back_again ≡ within (record { clean = 2; incarnations = 3 })
unfolding row back_again incarnations_of_first
two_of_three = refl

as_often_as_incarnations : CarriesFewOfSign back_again (run_of back_again) its_sign
unfolding two back_again
as_often_as_incarnations =
    let seen = asked_of frames_of_sign back_again (within (record { clean = 2; incarnations = 3 })) two_of_three in
    let clean = ap (λ (f : Signed). f.clean) seen in
    let incarnations = ap (λ (f : Signed). f.incarnations) seen in
    record {
      by_incarnations = omega (arith, clean, incarnations);
      by_nodes = λ none. let one : 1 ≡ 0 = ap length none in omega (arith, one);
      by_lag = λ none. let one : 1 ≡ 0 = ap length none in omega (arith, one);
    }
