-- Worked rows of the fault hypothesis, of parameters and of frames.
use Rattle.std.specs.Prelude.{ℕ, ◌≡◌, List, [], ◌∷◌, length, Option, Some, None, refl, map, Ok, Err}
use Rattle.cany_base.specs.declared.class.Class.TheVariants as class
use Rattle.cany_base.specs.declared.format.Format.TheVariants.{One, Two}
use Rattle.cany_base.specs.declared.params.ParamName.TheVariants as param
use Rattle.cany_base.specs.declared.rule.Verdict.{Verdict}
use Rattle.cany_base.specs.declared.rule.Verdict.TheVariants.{Clean, Lost, Partial, Silent}
use Rattle.cany_base.specs.declared.slot_note.SlotNote.{SlotNote}
use Rattle.cany_base.specs.Frame.{FrameParts, identifier_of, key_of}
use Rattle.cany_base.specs.Params.{Parameters, first_fault}
use Rattle.cany_base.specs.Payload.{vector_bytes}
use Rattle.cany_model.specs.declared.breaks.Break.{Break}
use Rattle.cany_model.specs.declared.breaks.BreakKind.TheVariants as kind
use Rattle.cany_model.specs.Promises.Hypothesis.{first_break}
use Rattle.cany_rows.proofs.RowWords.{carries, ed, first_frame, row, set}

-- The hypothesis, on traces of slots that each carried a frame, newest first.

unfoldable each_carried : List (FrameParts × Verdict) → List SlotNote
each_carried [] = []
each_carried (p ∷ before) = carries (length before) p.0 1 0 p.1 0 ∷ each_carried before

-- a window of 3 + 1 slots, of which 2 may err
unfoldable window_4 : Parameters
window_4 = record { format = One; nodes = 3; lag = 1; omit = 1; errors = 2; bound = 3; cycle = 9; life = 9; silence = 9; confirm = 1; slots = 9 }

broken_by : List (FrameParts × Verdict) → Option Break
broken_by slots = first_break window_4 (each_carried slots)

unfoldable rha : ℕ → ℕ → FrameParts
rha cycle node = record { class = class.Rha; number = cycle; node = node; inc = 0; payload = 0 ∷ 0 ∷ 0 ∷ 7 ∷ [] }

unfoldable els : ℕ → ℕ → FrameParts
els number node = record { class = class.Els; number = number; node = node; inc = 0; payload = [] }

unfoldable trace_row : Unit {0}
unfolding row each_carried window_4 broken_by rha els
trace_row = tt

third_error_in_a_window : broken_by ((first_frame, Lost) ∷ (first_frame, Clean) ∷ (first_frame, Lost) ∷ (first_frame, Lost) ∷ []) ≡ Some (record { kind = kind.Errors; slot = 3 })
unfolding trace_row
third_error_in_a_window = refl

third_error_past_the_window : broken_by ((first_frame, Lost) ∷ (first_frame, Clean) ∷ (first_frame, Clean) ∷ (first_frame, Lost) ∷ (first_frame, Lost) ∷ []) ≡ None
unfolding trace_row
third_error_past_the_window = refl

window_shorter_at_the_start : broken_by ((first_frame, Lost) ∷ (first_frame, Lost) ∷ (first_frame, Lost) ∷ []) ≡ Some (record { kind = kind.Errors; slot = 2 })
unfolding trace_row
window_shorter_at_the_start = refl

break_stays_the_first : broken_by ((first_frame, Silent (set 0)) ∷ (first_frame, Clean) ∷ (first_frame, Partial (set 0)) ∷ (first_frame, Clean) ∷ (first_frame, Partial (set 0)) ∷ []) ≡ Some (record { kind = kind.Omit; slot = 2 })
unfolding trace_row
break_stays_the_first = refl

silent_with_an_empty_set : broken_by ((first_frame, Clean) ∷ (first_frame, Silent (set 0)) ∷ []) ≡ Some (record { kind = kind.Silent; slot = 0 })
unfolding trace_row
silent_with_an_empty_set = refl

-- Lost slots do not count for omit, and Silent slots not for errors
lost_is_no_omission : broken_by ((first_frame, Clean) ∷ (first_frame, Lost) ∷ (first_frame, Partial (set 2)) ∷ []) ≡ None
unfolding trace_row
lost_is_no_omission = refl

-- the vectors of one cycle count together, of whichever node; those of two cycles do not, nor do
-- the life signs of two nodes
vectors_of_one_cycle : broken_by ((rha 1 1, Partial (set 1)) ∷ (rha 1 0, Partial (set 2)) ∷ []) ≡ Some (record { kind = kind.Omit; slot = 1 })
unfolding trace_row
vectors_of_one_cycle = refl

vectors_of_two_cycles : broken_by ((rha 2 0, Partial (set 2)) ∷ (rha 1 0, Partial (set 2)) ∷ []) ≡ None
unfolding trace_row
vectors_of_two_cycles = refl

life_signs_of_two_nodes : broken_by ((els 0 1, Partial (set 1)) ∷ (els 0 0, Partial (set 2)) ∷ []) ≡ None
unfolding trace_row
life_signs_of_two_nodes = refl

-- Parameters and frames.

unfoldable four : ℕ → ℕ → ℕ → ℕ → ℕ → Parameters
four bound cycle life silence confirm = record {
  format = One;
  nodes = 4;
  lag = 1;
  omit = 1;
  errors = 2;
  bound = bound;
  cycle = cycle;
  life = life;
  silence = silence;
  confirm = confirm;
  slots = 140;
}

formulas :
    map first_fault (four 122 246 123 247 246 ∷ four 121 245 0 0 999 ∷ four 122 245 0 0 999 ∷ four 122 246 122 0 999 ∷ four 122 246 123 246 999 ∷ four 122 246 123 247 247 ∷ [])
    ≡ Ok tt ∷ Err (record { which = param.Bound; needed = 122 }) ∷ Err (record { which = param.Cycle; needed = 246 })
    ∷ Err (record { which = param.Life; needed = 123 }) ∷ Err (record { which = param.Silence; needed = 247 })
    ∷ Err (record { which = param.Confirm; needed = 246 }) ∷ []
unfolding four
formulas = refl

unfoldable accept_5_of_3 : FrameParts
accept_5_of_3 = record { class = class.Accept; number = 5; node = 3; inc = 0; payload = [] }

identifiers :
    (identifier_of One accept_5_of_3 ∷ key_of One accept_5_of_3 ∷ identifier_of One (ed 1 0 []) ∷ key_of One (ed 1 0 []) ∷ identifier_of One (ed 31 65535 []) ∷ [])
    ≡ 0xa30 ∷ 0x1461 ∷ 0x12000010 ∷ 0x24000020 ∷ 0x13fffff0 ∷ []
unfolding row accept_5_of_3
identifiers = refl

identifiers_of_the_second_format :
    (identifier_of Two accept_5_of_3 ∷ key_of Two accept_5_of_3 ∷ identifier_of Two (ed 63 32767 []) ∷ []) ≡ 0x1430 ∷ 0x2861 ∷ 0x13fffff0 ∷ []
unfolding row accept_5_of_3
identifiers_of_the_second_format = refl

vector_of_three_nodes : vector_bytes One (set 7) ≡ 0 ∷ 0 ∷ 0 ∷ 7 ∷ []
vector_of_three_nodes = refl

vector_of_the_second_format : vector_bytes Two (set 7) ≡ 0 ∷ 0 ∷ 0 ∷ 0 ∷ 0 ∷ 0 ∷ 0 ∷ 7 ∷ []
vector_of_the_second_format = refl
