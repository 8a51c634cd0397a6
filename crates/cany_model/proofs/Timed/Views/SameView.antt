-- Running nodes that have read the same slots have one view, in a scenario without restarts, where
-- the vectors that they install are one.
use Rattle.std.proofs.Common.{◌≡◌, ℕ, ◌+◌, ◌-◌, ◌*◌, ◌%◌, ◌<◌, ◌≤◌, ◌==◌, nat_lt, Bool, true, false, List, [], ◌∷◌, ◌++◌, length, map, drop, take, None, refl, ap, sym, ◌∙◌, arith, append_assoc, length-append, length-drop}
use Rattle.std.proofs.lemmas.Bool.{and_parts, eqb-true, ltb-true}
use Rattle.std.proofs.lemmas.List.{drop-append-le, length-map, take-append-drop}
use Rattle.std.proofs.lemmas.Nat.{div-add-mod'}
use Rattle.std.proofs.Math.Seq.{drop-append_seam}
use Rattle.cany_base.specs.declared.slot_note.SlotNote.{SlotNote}
use Rattle.cany_base.specs.Params.{Parameters}
use Rattle.cany_base.specs.Scenario.{ScenarioParts}
use Rattle.cany_model.specs.Bus.History.{given}
use Rattle.cany_model.specs.Bus.State.{RunState, node_at, reads, runs}
use Rattle.cany_model.specs.Promises.OneView.{HasReadEnd, InstallsOneVector, installed, installed_of}
use Rattle.cany_model.specs.Promises.Settled.{IsCorrect}
use Rattle.cany_model.specs.Rules.KnowledgeOf.{knowledge_of}
use Rattle.cany_base.specs.Cycles.{cycle_of, is_end}
use Rattle.cany_model.proofs.Runs.Runs.{IsOrderly}
use Rattle.cany_model.proofs.Bus.States.{runs_within}
use Rattle.cany_model.proofs.Rules.Site.KnowledgeSteps.{members_by}
use Rattle.cany_model.proofs.Timed.Detector.VectorsAgreeOn.{installed_before, installed_now}
use Rattle.cany_model.proofs.Timed.Detector.NoRestarts.{AllOriginal, from_original, installed_all}
use Rattle.cany_model.proofs.Timed.Common.KnowledgeAges.{ended_at, full, members_next}

-- ---- ends of one list

-- of two ends of a list the shorter is an end of the longer
pub end_of : (a b c d : List SlotNote) → a ++ b ≡ c ++ d → length b ≤ length d → (mid : List SlotNote) × (d ≡ mid ++ b)
end_of a b c d e short =
    let fits : length c ≤ length a = omega (arith, length-append a b, length-append c d, ap length e, short) in
    (drop (length c) a, sym (drop-append_seam c d) ∙ ap (drop (length c)) (sym e) ∙ drop-append-le (length c) a b fits)

-- what is left of a trace without its newest notes has each shorter end
pub end_of_rest : (trace newer base : List SlotNote) (n : ℕ) → trace ≡ newer ++ base → length base ≤ length trace - n
    → (mid : List SlotNote) × (drop n trace ≡ mid ++ base)
end_of_rest trace newer base n split short =
    end_of newer base (take n trace) (drop n trace) (sym split ∙ sym (take-append-drop n trace)) (omega (arith, short, length-drop n trace))

-- ---- the vector that is installed

-- what a node installed is found again later
pub installed_there : (scenario : ScenarioParts) (i k : ℕ) (newer : List SlotNote) (note : SlotNote) (older : List SlotNote)
    → length older ≡ k * scenario.params.cycle + scenario.params.bound
    → installed_of scenario i k (map (given i) (newer ++ (note ∷ older))) ≡ ended_at scenario i (given i note) (map (given i) older)
installed_there scenario i k [] note older at =
    installed_now scenario i k (given i note) (map (given i) older) (length-map older (given i) ∙ at)
installed_there scenario i k (first ∷ newer) note older at =
    let long = length-append newer (note ∷ older) in
    let size = length-map (newer ++ (note ∷ older)) (given i) in
    installed_before scenario i k (given i first) (map (given i) (newer ++ (note ∷ older))) (λ e. omega (arith, e, size, long, at))
    ∙ installed_there scenario i k newer note older at

-- ---- where a cycle ends

pub end_place : (p : Parameters) (slot : ℕ) → is_end p slot ≡ true → (0 < cycle_of p slot) × (slot ≡ cycle_of p slot * p.cycle + p.bound)
end_place p slot end =
    let parts = and_parts (slot % p.cycle == p.bound) (nat_lt 0 (cycle_of p slot)) end in
    (ltb-true 0 (cycle_of p slot) parts.1, omega (arith, div-add-mod' slot p.cycle, eqb-true (slot % p.cycle) p.bound parts.0))

-- at a slot at which no cycle ends no vector becomes the view
pub no_ended : (scenario : ScenarioParts) (i : ℕ) (note : SlotNote) (older : List SlotNote) → is_end scenario.params (length older) ≡ false
    → ended_at scenario i (given i note) (map (given i) older) ≡ None
no_ended scenario i note older none =
    let here : is_end scenario.params (length (map (given i) older)) ≡ false = ap (is_end scenario.params) (length-map older (given i)) ∙ none in
    rw here refl

-- ---- one view

-- what node i installs at a slot that it has read
pub read_installed : (scenario : ScenarioParts) (s : RunState) → IsOrderly scenario.params.nodes s → AllOriginal s → (i k : ℕ)
    (newer : List SlotNote) (note : SlotNote) (older : List SlotNote) → s.trace ≡ newer ++ (note ∷ older) → length older < reads s i
    → length older ≡ k * scenario.params.cycle + scenario.params.bound
    → installed scenario s i k ≡ ended_at scenario i (given i note) (map (given i) older)
read_installed scenario s o all i k newer note older split read at =
    let rest = end_of_rest s.trace newer (note ∷ older) (node_at s.nodes i).unread split (omega (arith, read)) in
    installed_all scenario s all i k
    ∙ ap (λ t. installed_of scenario i k (map (given i) t)) rest.1
    ∙ installed_there scenario i k rest.0 note older at

module _ (scenario : ScenarioParts) (s : RunState) (o : IsOrderly scenario.params.nodes s) (all : AllOriginal s)
    (one : (k : ℕ) → InstallsOneVector scenario s k)
  where
    correct : (i : ℕ) → runs (node_at s.nodes i) ≡ true → IsCorrect scenario s i
    correct i running = record { there = omega (arith, runs_within s.nodes i running, o.count); running = running }

    -- the vector that becomes the view in a slot that both have read is one
    same_ended : (i j : ℕ) → runs (node_at s.nodes i) ≡ true → runs (node_at s.nodes j) ≡ true
        → (newer : List SlotNote) (note : SlotNote) (older : List SlotNote) → s.trace ≡ newer ++ (note ∷ older)
        → length older < reads s i → length older < reads s j
        → ended_at scenario i (given i note) (map (given i) older) ≡ ended_at scenario j (given j note) (map (given j) older)
    same_ended i j ri rj newer note older split read_i read_j = by_end (is_end scenario.params (length older)) refl
      where
        by_end : (end : Bool) → is_end scenario.params (length older) ≡ end
            → ended_at scenario i (given i note) (map (given i) older) ≡ ended_at scenario j (given j note) (map (given j) older)
        by_end false none = no_ended scenario i note older none ∙ sym (no_ended scenario j note older none)
        by_end true end =
            let at = end_place scenario.params (length older) end in
            let k : ℕ = cycle_of scenario.params (length older) in
            let has_read : (m : ℕ) → runs (node_at s.nodes m) ≡ true → length older < reads s m → HasReadEnd scenario s k m = λ m rm read. record {
              correct = record { correct = correct m rm; took_part = omega (arith, from_original scenario s all m) };
              read = omega (arith, read, at.1);
            } in
            sym (read_installed scenario s o all i k newer note older split read_i at.1)
            ∙ (one k).alike i j (has_read i ri read_i) (has_read j rj read_j)
            ∙ read_installed scenario s o all j k newer note older split read_j at.1

    -- so the views are one, after each slot that both have read
    pub same_view : (i j : ℕ) → runs (node_at s.nodes i) ≡ true → runs (node_at s.nodes j) ≡ true → (newer base : List SlotNote)
        → s.trace ≡ newer ++ base
        → length base ≤ reads s i → length base ≤ reads s j → (full scenario i base).members ≡ (full scenario j base).members
    unfolding knowledge_of
    same_view i j ri rj newer [] split read_i read_j = refl
    same_view i j ri rj newer (note ∷ older) split read_i read_j =
        let before : (full scenario i older).members ≡ (full scenario j older).members =
        same_view i j ri rj (newer ++ (note ∷ [])) older (split ∙ sym (append_assoc newer (note ∷ []) older))
        (omega (arith, read_i)) (omega (arith, read_j)) in
        members_next scenario i (given i note) (map (given i) older)
        ∙ ap (λ v. members_by v (full scenario i older).members)
        (same_ended i j ri rj newer note older split (omega (arith, read_i)) (omega (arith, read_j)))
        ∙ ap (members_by (ended_at scenario j (given j note) (map (given j) older))) before
        ∙ sym (members_next scenario j (given j note) (map (given j) older))
