-- Worked rows of the lines of refusals: one for each fault of a text, and one for each of a
-- journal.
use Rattle.std.specs.Prelude.{◌≡◌, ℕ, pos, negsuc, List, [], ◌∷◌, map, Some, None, refl, codes}
use Rattle.std.specs.Fmt.{digits}
use Rattle.cany_base.specs.declared.params.ParamName.TheVariants as param
use Rattle.cany_model.specs.declared.follow.FollowFault.{FollowFault}
use Rattle.cany_model.specs.declared.follow.FollowFault.TheVariants.{Refused, Unfinished}
use Rattle.cany_model.specs.declared.reply.StepReply.TheVariants.{Lagging, Over, NothingYet, Stopped, NoNode}
use Rattle.cany_text.specs.declared.scenario_fault.KeyName.{KeyName}
use Rattle.cany_text.specs.declared.scenario_fault.KeyName.TheVariants as key
use Rattle.cany_text.specs.declared.scenario_fault.ScenarioFault.{ScenarioFault}
use Rattle.cany_text.specs.declared.scenario_fault.ScenarioFault.TheVariants.{NotText, NotToml, UnknownKey, MissingKey, WrongKind, OutOfRange, TooMany, BadData, BoundTooSmall, RepeatedRule, TooOften, BadJournal, Memory}
use Rattle.cany_text.specs.declared.scenario_fault.TableName.TheVariants as in_table
use Rattle.cany_text.specs.RefusalLines.{scenario_refusal_line, journal_given_line, journal_refusal_line}
use Rattle.cany_text.specs.ReportLines.{line_of}
use Rattle.cany_text.specs.TextNames.{key_name, param_name, table_name}

-- ---- texts

unfoldable lines_for : List ScenarioFault → List (List ℕ)
unfolding scenario_refusal_line line_of digits key_name param_name table_name
lines_for faults = map scenario_refusal_line faults

no_document : lines_for (NotText ∷ NotToml ∷ []) ≡ codes "refused not utf-8\n" ∷ codes "refused not toml\n" ∷ []
unfolding lines_for
no_document = refl

each_table : lines_for
    (map (λ t. UnknownKey t 0) (in_table.Top ∷ in_table.Send ∷ in_table.Fault ∷ in_table.Join ∷ in_table.Leave ∷ in_table.Restart ∷ []))
    ≡ codes "refused unknown key in top 0\n" ∷ codes "refused unknown key in send 0\n" ∷ codes "refused unknown key in fault 0\n"
    ∷ codes "refused unknown key in join 0\n" ∷ codes "refused unknown key in leave 0\n" ∷ codes "refused unknown key in restart 0\n" ∷ []
unfolding lines_for
each_table = refl

-- the keys of the top table, and those that entries have besides
abbrev wrong_kinds : List KeyName → List ScenarioFault
wrong_kinds keys = map (λ name. WrongKind in_table.Fault 19999 name) keys

each_key_of_a_number :
    lines_for (wrong_kinds
    (key.Format ∷ key.Nodes ∷ key.Slots ∷ key.Lag ∷ key.Omit ∷ key.Errors ∷ key.Bound ∷ key.Cycle ∷ key.Life ∷ key.Silence ∷ key.Confirm
    ∷ []))
    ≡ map (λ name. line_of (codes "refused wrong kind" ∷ name ∷ codes "in fault 19999" ∷ []))
    (codes "format" ∷ codes "nodes" ∷ codes "slots" ∷ codes "lag" ∷ codes "omit" ∷ codes "errors" ∷ codes "bound" ∷ codes "cycle"
    ∷ codes "life" ∷ codes "silence"
    ∷ codes "confirm" ∷ [])
unfolding lines_for
each_key_of_a_number = refl

each_key_of_an_array :
    lines_for (wrong_kinds (key.Members ∷ key.Send ∷ key.Fault ∷ key.Join ∷ key.Leave ∷ key.Restart ∷ key.Journal ∷ []))
    ≡ map (λ name. line_of (codes "refused wrong kind" ∷ name ∷ codes "in fault 19999" ∷ []))
    (codes "members" ∷ codes "send" ∷ codes "fault" ∷ codes "join" ∷ codes "leave" ∷ codes "restart" ∷ codes "journal" ∷ [])
unfolding lines_for
each_key_of_an_array = refl

each_key_of_an_entry :
    lines_for (wrong_kinds
    (key.Slot ∷ key.Node ∷ key.Service ∷ key.DataKey ∷ key.Class ∷ key.Number ∷ key.Nth ∷ key.Verdict ∷ key.Reject ∷ key.Stop ∷ []))
    ≡ map (λ name. line_of (codes "refused wrong kind" ∷ name ∷ codes "in fault 19999" ∷ []))
    (codes "slot" ∷ codes "node" ∷ codes "service" ∷ codes "data" ∷ codes "class" ∷ codes "number" ∷ codes "nth" ∷ codes "verdict"
    ∷ codes "reject" ∷ codes "stop" ∷ [])
unfolding lines_for
each_key_of_an_entry = refl

each_fault_of_a_key : lines_for (
    MissingKey in_table.Top 0 key.Nodes ∷ WrongKind in_table.Send 12 key.DataKey ∷ OutOfRange in_table.Restart 3 key.Slot (pos 100000)
    ∷ OutOfRange in_table.Top 0 key.Lag (negsuc 0) ∷ OutOfRange in_table.Top 0 key.Lag (negsuc 9223372036854775807) ∷ [])
    ≡ codes "refused missing key nodes in top 0\n"
    ∷ codes "refused wrong kind data in send 12\n"
    ∷ codes "refused out of range slot in restart 3 value 100000\n"
    ∷ codes "refused out of range lag in top 0 value -1\n"
    ∷ codes "refused out of range lag in top 0 value -9223372036854775808\n" ∷ []
unfolding lines_for
each_fault_of_a_key = refl

each_fault_of_a_part : lines_for (
    TooMany in_table.Fault ∷ BadData 4 ∷ RepeatedRule 2 ∷ TooOften 15 ∷ BadJournal 64 ∷ [])
    ≡ codes "refused too many fault\n"
    ∷ codes "refused bad data in send 4\n"
    ∷ codes "refused repeated rule 2\n"
    ∷ codes "refused too often in restart 15\n"
    ∷ codes "refused bad journal at 64\n" ∷ []
unfolding lines_for
each_fault_of_a_part = refl

each_formula : lines_for
    (map (λ which. BoundTooSmall which 36) (param.Bound ∷ param.Cycle ∷ param.Life ∷ param.Silence ∷ param.Confirm ∷ []))
    ≡ codes "refused bound too small bound needs 36\n" ∷ codes "refused bound too small cycle needs 36\n"
    ∷ codes "refused bound too small life needs 36\n"
    ∷ codes "refused bound too small silence needs 36\n" ∷ codes "refused bound too small confirm needs 36\n" ∷ []
unfolding lines_for
each_formula = refl

-- want of memory is no refusal
no_memory : lines_for (Memory ∷ []) ≡ [] ∷ []
unfolding lines_for
no_memory = refl

-- ---- journals

a_journal_where_none_may_be : journal_given_line ≡ codes "refused journal given to run\n"
unfolding journal_given_line line_of
a_journal_where_none_may_be = refl

unfoldable lines_for_journals : List FollowFault → List (List ℕ)
unfolding journal_refusal_line line_of digits
lines_for_journals faults = map journal_refusal_line faults

each_fault_of_a_journal : lines_for_journals (
    Refused 1 (Lagging 0 2) ∷ Refused 8 (Over 400000) ∷ Refused 4 (NothingYet 1) ∷ Refused 3 (Stopped 0) ∷ Refused 0 (NoNode 63)
    ∷ Unfinished 0 None ∷ Unfinished 5 (Some 39) ∷ [])
    ≡ codes "refused journal step 1 lagging node 0 unread 2\n"
    ∷ codes "refused journal step 8 over slots 400000\n"
    ∷ codes "refused journal step 4 nothing yet now 1\n"
    ∷ codes "refused journal step 3 stopped slot 0\n"
    ∷ codes "refused journal step 0 no node 63\n"
    ∷ codes "refused journal unfinished ran 0\n"
    ∷ codes "refused journal unfinished ran 5 node 39\n" ∷ []
unfolding lines_for_journals
each_fault_of_a_journal = refl
