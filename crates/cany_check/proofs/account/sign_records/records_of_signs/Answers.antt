use Rattle.std.proofs.Common.{◌≡◌, ◌∙◌, ℕ, List, ap, map, subst}
use Rattle.std.specs.Prelude.{IfOk}
use Rattle.std.specs.BTreeMap.{values}
use Rattle.cany_base.specs.declared.slot_note.SlotNote.{SlotNote}
use Rattle.cany_model.specs.Bus.State.{RunState}
use Rattle.cany_model.specs.Rules.Knowledge.{FailureSign}
use Rattle.cany_model.specs.Runs.Run.{run}
use Rattle.cany_check.specs.declared.account.record.SignRecord.{SignRecord}
use Rattle.cany_check.specs.Accounts.Account.{sign_record, signs_told}
use Rattle.cany_check.specs.Accounts.AccountFields.{log_parts}
use Rattle.cany_check.specs.Accounts.Records.{sign_entry}
use Rattle.cany_check.proofs.Accounts.SignTable.{records_told}
use Rattle.cany_check.proofs.Accounts.SignsOfRun.{within_at}
use Rattle.cany_check.proofs.account.sign_records.records_of_signs.Goals as goal

pub table_of-requires : goal.table_of-requires
table_of-requires c = within_at c.args.world.now.scenario c.args.world.now.journal c.requires.legal c.args.logs.now c.requires.logs

pub returns : goal.returns
returns c =
    let s : RunState = run c.args.world.now.scenario c.args.world.now.journal in
    let told : List FailureSign = signs_told (map log_parts c.args.logs.now) in
    let entries : c.go_over_all.new.table.entries ≡ map (sign_entry s s.trace) told =
    c.in_ok-go_over_all.ensures s told c.in_ok-table.ensures ∙ ap (λ (t : List SlotNote). map (sign_entry s t) told) c.trace.ensures.newest_first in
    let records : values c.go_over_all.new.table ≡ map (sign_record s) told = ap (λ (l : List ((ℕ × ℕ) × SignRecord)). map (λ e. e.1) l) entries ∙ records_told s told in
    subst (λ (l : List SignRecord). IfOk c.records_of.result (λ records. records.items ≡ l)) records c.records_of.ensures
