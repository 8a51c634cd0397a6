-- What a worked row is written with, and what a run shows.
use Rattle.std.specs.Prelude.{◌≡◌, ℕ, zero, suc, ◌+◌, ◌-◌, ◌*◌, ◌==◌, Bool, not, ◌||◌, ◌&&◌, nat_lt, if◌then◌else◌, List, [], ◌∷◌, ◌++◌, length, Option, Some, None, is_some, find, map, true, false, refl}
use Rattle.std.specs.List.{range_with_len}
use Rattle.std.proofs.Common.{ap, ◌∙◌, sym, append_assoc}
use Rattle.std.proofs.lemmas.List.{append-nil}
use Rattle.cany_base.specs.declared.class.Class.TheVariants as class
use Rattle.cany_base.specs.declared.format.Format.TheVariants.{One}
use Rattle.cany_base.specs.declared.log_entry.LogEntry.{LogEntry}
use Rattle.cany_base.specs.declared.log_entry.LogEntry.TheVariants.{Deliver}
use Rattle.cany_base.specs.declared.message.SendAsk.{SendAsk}
use Rattle.cany_base.specs.declared.message.Service.TheVariants as service
use Rattle.cany_base.specs.declared.rule.Rule.{Rule}
use Rattle.cany_base.specs.declared.rule.Verdict.{Verdict}
use Rattle.cany_base.specs.declared.rule.Verdict.TheVariants.{Clean}
use Rattle.cany_base.specs.declared.slot_note.SlotNote.{SlotNote}
use Rattle.cany_base.specs.declared.step.Step.{Step}
use Rattle.cany_base.specs.declared.step.Step.TheVariants.{Slot, Turn}
use Rattle.cany_base.specs.Frame.{FrameParts}
use Rattle.cany_base.specs.Nodes.{is_nobody}
use Rattle.cany_base.specs.Params.{Parameters}
use Rattle.cany_base.specs.Scenario.{ScenarioParts}
use Rattle.cany_model.specs.declared.breaks.Break.{Break}
use Rattle.cany_model.specs.declared.breaks.BreakKind.{BreakKind}
use Rattle.cany_model.specs.declared.reply.StepReply.{StepReply}
use Rattle.cany_model.specs.Promises.Hypothesis.{first_break}
use Rattle.cany_model.specs.Rules.Log.{log}
use Rattle.cany_model.specs.Rules.Messages.{messages_of}
use Rattle.cany_model.proofs.RowWords.{run_words, scenario_of, send as send_by}
use Rattle.cany_model.proofs.Runs.Journals.{run_then}
use Rattle.cany_model.specs.Runs.RoundRobin.{round, round_robin, rounds}
use Rattle.cany_model.specs.Runs.Run.{reply, is_done, is_legal_from, has_ended, after_step, run, run_from}
use Rattle.cany_model.specs.Promises.Settled.{is_settled}
use Rattle.cany_model.specs.Bus.State.{RunState, node_at, opening, reads}
pub use Rattle.cany_model.proofs.RowWords.{set}
unfoldable pub use Rattle.cany_model.proofs.RowWords.{frame_rule, slot_rule}

unfoldable pub send : ℕ → ℕ → List ℕ → SendAsk
unfolding send_by
send = send_by service.Ed

unfoldable pub send_rel : ℕ → ℕ → List ℕ → SendAsk
unfolding send_by
send_rel = send_by service.Rel

unfoldable pub send_tot : ℕ → ℕ → List ℕ → SendAsk
unfolding send_by
send_tot = send_by service.Tot

unfoldable pub scenario : Parameters → List SendAsk → List Rule → ScenarioParts
unfolding scenario_of
scenario p sends rules = scenario_of p 0 sends rules []

-- a journal in its alphabet: a dot is a slot, and a digit or a letter is the turn of a node
abbrev pub step_of : ℕ → Step
step_of byte = if byte == 46 then Slot else if nat_lt byte 58 then Turn (byte - 48) else Turn (byte - 87)

unfoldable pub steps : List ℕ → List Step
steps bytes = map step_of bytes

-- the data frame of an EDCAN message
unfoldable pub ed : ℕ → ℕ → List ℕ → FrameParts
ed origin seq payload = record { class = class.Ed; number = seq; node = origin; inc = 0; payload = payload }

-- the data frame of a RELCAN message, and the frame that confirms it
unfoldable pub rel : ℕ → ℕ → List ℕ → FrameParts
rel origin seq payload = record { class = class.Rel; number = seq; node = origin; inc = 0; payload = payload }

unfoldable pub confirm : ℕ → ℕ → FrameParts
confirm origin seq = record { class = class.Confirm; number = seq; node = origin; inc = 0; payload = [] }

-- the data frame of a TOTCAN message, and the frame that accepts it
unfoldable pub tot : ℕ → ℕ → List ℕ → FrameParts
tot origin seq payload = record { class = class.Tot; number = seq; node = origin; inc = 0; payload = payload }

unfoldable pub accept : ℕ → ℕ → FrameParts
accept origin seq = record { class = class.Accept; number = seq; node = origin; inc = 0; payload = [] }

-- a slot that carried a frame: the frame, its senders and takers, the verdict and the stops
unfoldable pub carries : ℕ → FrameParts → ℕ → ℕ → Verdict → ℕ → SlotNote
carries slot f senders takers verdict stops = record { slot = slot; frame = Some f; senders = set senders; takers = set takers; verdict = verdict; stops = set stops }

unfoldable pub idle : ℕ → ℕ → SlotNote
idle slot stops = record { slot = slot; frame = None; senders = set 0; takers = set 0; verdict = Clean; stops = set stops }

unfoldable pub delivers : ℕ → ℕ → ℕ → List ℕ → LogEntry
delivers slot origin seq payload = Deliver slot service.Ed (record { origin = origin; seq = seq }) payload

unfoldable pub delivers_rel : ℕ → ℕ → ℕ → List ℕ → LogEntry
delivers_rel slot origin seq payload = Deliver slot service.Rel (record { origin = origin; seq = seq }) payload

unfoldable pub delivers_tot : ℕ → ℕ → ℕ → List ℕ → LogEntry
delivers_tot slot origin seq payload = Deliver slot service.Tot (record { origin = origin; seq = seq }) payload

-- ---- what a run shows

abbrev pub is_shown : SlotNote → Bool
is_shown note = is_some note.frame || not (is_nobody note.stops)

-- the slots that carried a frame or at whose end a node stopped, oldest first
unfoldable pub shown : List SlotNote → List SlotNote
shown [] = []
shown (note ∷ before) = shown before ++ (if is_shown note then note ∷ [] else [])

pub record NodeReport : Type 0 where
  pub stopped : Option ℕ
  pub read : ℕ
  pub log : List LogEntry

pub record RunReport : Type 0 where
  pub journal : List Step
  pub bus : List SlotNote
  pub broken : Option Break
  pub nodes : List NodeReport
  pub settled : List Bool
  pub legal : Bool
  pub ended : Bool

-- of a run that is legal, has ended and is within the hypothesis
abbrev pub whole_run : List Step → List SlotNote → List NodeReport → List Bool → RunReport
whole_run journal bus nodes settled =
    record { journal = journal; bus = bus; broken = None; nodes = nodes; settled = settled; legal = true; ended = true }

-- the same, but that it leaves the hypothesis in a slot
abbrev pub broken_run : BreakKind → ℕ → List Step → List SlotNote → List NodeReport → List Bool → RunReport
broken_run kind slot journal bus nodes settled =
    record (whole_run journal bus nodes settled) { broken = Some (record { kind = kind; slot = slot }) }

-- of a node that runs, and of one that stopped in a slot
abbrev pub running_node : ℕ → List LogEntry → NodeReport
running_node read log = record { stopped = None; read = read; log = log }

abbrev pub stopped_node : ℕ → ℕ → List LogEntry → NodeReport
stopped_node slot read log = record { stopped = Some slot; read = read; log = log }

abbrev pub node_report : ScenarioParts → RunState → ℕ → NodeReport
node_report sc s i = record { stopped = (node_at s.nodes i).stopped; read = reads s i; log = log sc s i }

-- A journal, the state to which it leads from another, and whether each of its steps is done.
pub record Walk : Type 0 where
  pub journal : List Step
  pub end : RunState
  pub legal : Bool

abbrev pub walk_by : ScenarioParts → RunState → List Step → Walk
walk_by sc s journal = record { journal = journal; end = run_from sc s journal; legal = is_legal_from sc s journal }

-- The rest of a whole journal, where those before it are legal or not: each state is computed once,
-- for where it leads and for whether the next step is done.
unfoldable pub walk : ScenarioParts → RunState → Bool → List Step → List Step → Walk
walk sc s legal whole [] = record { journal = whole; end = s; legal = legal }
walk sc s legal whole (step ∷ rest) = walk sc (after_step sc s step) (legal && is_done (reply sc s step)) whole rest

-- The same of so many rounds after a journal. The round robin journal has the steps of the states
-- to which its rounds lead: these are read off the same states.
unfoldable pub walk_rounds : ScenarioParts → ℕ → RunState → Bool → List Step → Walk
walk_rounds sc zero s legal journal = record { journal = journal; end = s; legal = legal }
walk_rounds sc (suc n) s legal journal =
    let steps = round sc s in
    let w = walk sc s legal (journal ++ steps) steps in
    walk_rounds sc n w.end w.legal w.journal

and_true : (a : Bool) → (a && true) ≡ a
and_true true = refl
and_true false = refl

and_and : (a b c : Bool) → ((a && b) && c) ≡ (a && (b && c))
and_and true b c = refl
and_and false b c = refl

walk_is : (sc : ScenarioParts) (s : RunState) (legal : Bool) (whole rest : List Step)
    → walk sc s legal whole rest ≡ record { journal = whole; end = run_from sc s rest; legal = legal && is_legal_from sc s rest }
unfolding walk run_from is_legal_from
walk_is sc s legal whole [] = λ k. record { journal = whole; end = s; legal = sym (and_true legal) k }
walk_is sc s legal whole (step ∷ rest) =
    let next = after_step sc s step in
    let done = is_done (reply sc s step) in
    walk_is sc next (legal && done) whole rest
    ∙ (λ k. record { journal = whole; end = run_from sc next rest; legal = and_and legal done (is_legal_from sc next rest) k })

legal_both : (sc : ScenarioParts) (s : RunState) (first rest : List Step)
    → (is_legal_from sc s first && is_legal_from sc (run_from sc s first) rest) ≡ is_legal_from sc s (first ++ rest)
unfolding run_from is_legal_from
legal_both sc s [] rest = refl
legal_both sc s (step ∷ first) rest =
    let next = after_step sc s step in
    let done = is_done (reply sc s step) in
    and_and done (is_legal_from sc next first) (is_legal_from sc (run_from sc next first) rest)
    ∙ ap (λ legal. done && legal) (legal_both sc next first rest)

walk_rounds_is : (sc : ScenarioParts) (n : ℕ) (s : RunState) (legal : Bool) (journal : List Step)
    → walk_rounds sc n s legal journal
    ≡ record { journal = journal ++ rounds sc n s; end = run_from sc s (rounds sc n s); legal = legal && is_legal_from sc s (rounds sc n s) }
unfolding walk_rounds rounds run_from is_legal_from
walk_rounds_is sc zero s legal journal = λ k. record { journal = sym (append-nil journal) k; end = s; legal = sym (and_true legal) k }
walk_rounds_is sc (suc n) s legal journal =
    let steps : List Step = round sc s in
    let next : RunState = run_from sc s steps in
    let later : List Step = rounds sc n next in
    ap (λ (w : Walk). walk_rounds sc n w.end w.legal w.journal) (walk_is sc s legal (journal ++ steps) steps)
    ∙ walk_rounds_is sc n next (legal && is_legal_from sc s steps) (journal ++ steps)
    ∙ (λ k. record {
      journal = append_assoc journal steps later k;
      end = sym (run_then sc s steps later) k;
      legal = (and_and legal (is_legal_from sc s steps) (is_legal_from sc next later) ∙ ap (λ b. legal && b) (legal_both sc s steps later)) k;
    })

-- that of a scenario by the round robin journal
unfoldable pub walk_of : ScenarioParts → Walk
unfolding walk_rounds walk
walk_of sc = walk_rounds sc sc.params.slots (opening sc.params.nodes) true []

pub walk_of_is : (sc : ScenarioParts) → walk_of sc ≡ walk_by sc (opening sc.params.nodes) (round_robin sc)
unfolding walk_of
walk_of_is sc = walk_rounds_is sc sc.params.slots (opening sc.params.nodes) true []

-- the run by it
unfoldable pub run_of : ScenarioParts → RunState
unfolding walk_of
run_of sc = (walk_of sc).end

pub run_of_is : (sc : ScenarioParts) → run_of sc ≡ run sc (round_robin sc)
unfolding run_of
run_of_is sc = ap (λ (w : Walk). w.end) (walk_of_is sc)

-- what computes a report is opened here, once for all rows
unfoldable pub report_in : ScenarioParts → Walk → RunReport
unfolding run_words shown
report_in sc w =
    let s = w.end in
    record {
      journal = w.journal;
      bus = shown s.trace;
      broken = first_break sc.params s.trace;
      nodes = map (node_report sc s) (range_with_len 0 sc.params.nodes);
      settled = map (is_settled sc s) (messages_of sc.sends);
      legal = w.legal;
      ended = has_ended sc s;
    }

-- that of a scenario by a journal
unfoldable pub report : ScenarioParts → List Step → RunReport
unfolding report_in walk
report sc journal = report_in sc (walk sc (opening sc.params.nodes) true journal journal)

pub report_is : (sc : ScenarioParts) (journal : List Step) → report sc journal ≡ report_in sc (walk_by sc (opening sc.params.nodes) journal)
unfolding report
report_is sc journal = ap (report_in sc) (walk_is sc (opening sc.params.nodes) true journal journal)

-- by the round robin journal
unfoldable pub report_of : ScenarioParts → RunReport
unfolding report_in walk_of
report_of sc = report_in sc (walk_of sc)

pub report_of_is : (sc : ScenarioParts) → report_of sc ≡ report_in sc (walk_by sc (opening sc.params.nodes) (round_robin sc))
unfolding report_of
report_of_is sc = ap (report_in sc) (walk_of_is sc)

-- the counters and the waiting frames of a node
pub record NodeInside : Type 0 where
  pub transmit : ℕ
  pub receive : ℕ
  pub waiting : List FrameParts

unfoldable pub insides : ScenarioParts → List Step → List NodeInside
unfolding report
insides sc journal = map (λ node. record { transmit = node.transmit; receive = node.receive; waiting = node.waiting }) (run sc journal).nodes

-- what stops a journal: the first step that is not done, or that slots or notices are left at its
-- end
pub data Followed : Type 0 where
  Followed-all : Followed
  Refused : ℕ → StepReply → Followed
  Unfinished : ℕ → Option ℕ → Followed

abbrev pub left_over : ScenarioParts → RunState → Followed
left_over sc s =
    if has_ended sc s then Followed-all
    else Unfinished (length s.trace)
    (find (λ i. not ((node_at s.nodes i).unread == 0) && not (is_some (node_at s.nodes i).stopped)) (range_with_len 0 sc.params.nodes))

unfoldable pub follow_from : ScenarioParts → RunState → ℕ → List Step → Followed
follow_from sc s place [] = left_over sc s
follow_from sc s place (step ∷ journal) =
    if is_done (reply sc s step) then follow_from sc (after_step sc s step) (place + 1) journal else Refused place (reply sc s step)

unfoldable pub follow : ScenarioParts → List Step → Followed
unfolding report follow_from
follow sc journal = follow_from sc (opening sc.params.nodes) 0 journal

-- three nodes at lag 0, with everything else by default
unfoldable pub three : ℕ → ℕ → ℕ → Parameters
three slots omit errors = record {
  format = One;
  nodes = 3;
  lag = 0;
  omit = omit;
  errors = errors;
  bound = 34 + errors;
  cycle = 68 + 2 * errors;
  life = 34 + errors;
  silence = 69 + 2 * errors;
  confirm = 10;
  slots = slots;
}

-- the same at lag 1
unfoldable pub lag_1 : ℕ → ℕ → Parameters
lag_1 slots omit = record { format = One; nodes = 3; lag = 1; omit = omit; errors = 2; bound = 75; cycle = 152; life = 76; silence = 153; confirm = 10; slots = slots }

-- the one message of most rows, sent by node 0 at slot 0, and its frame
abbrev pub one_message : List SendAsk
one_message = send 0 0 (1 ∷ []) ∷ []

abbrev pub first_frame : FrameParts
first_frame = ed 0 0 (1 ∷ [])

-- a RELCAN message instead, and its frames
abbrev pub one_rel : List SendAsk
one_rel = send_rel 0 0 (1 ∷ []) ∷ []

abbrev pub first_rel : FrameParts
first_rel = rel 0 0 (1 ∷ [])

abbrev pub first_confirm : FrameParts
first_confirm = confirm 0 0

-- a TOTCAN message instead, and its frames
abbrev pub one_tot : List SendAsk
one_tot = send_tot 0 0 (1 ∷ []) ∷ []

abbrev pub first_tot : FrameParts
first_tot = tot 0 0 (1 ∷ [])

abbrev pub first_accept : FrameParts
first_accept = accept 0 0

unfoldable pub delivered : ℕ → List LogEntry
delivered slot = delivers slot 0 0 (1 ∷ []) ∷ []

-- opens all that a row is written with
unfoldable pub row : Unit {0}
unfolding report report_of run_of insides follow scenario send send_rel send_tot slot_rule frame_rule steps ed rel confirm tot accept carries idle delivers delivers_rel delivers_tot three delivered
row = tt
