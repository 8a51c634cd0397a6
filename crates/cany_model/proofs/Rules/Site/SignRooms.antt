-- How many entries the log of a node has: each failure sign names a node and a cycle of the run,
-- and what is neither a sign nor a view is a delivery.
use Rattle.std.proofs.Common.{◌≡◌, ◌∙◌, ℕ, ◌+◌, ◌-◌, ◌*◌, ◌/◌, ◌<◌, ◌≤◌, ◌==◌, inl, inr, Bool, true, false, List, [], ◌∷◌, length, drop, count_by, refl, ap, subst, arith, div-mul-le_self, eq-eqb, eq-zero-or-pos, le_trans, length-drop}
use Rattle.std.specs.List.{AllByRecursion}
use Rattle.std.proofs.Math.Nat.{div-zero}
use Rattle.std.proofs.lemmas.Bool.{and_from, false≢true}
use Rattle.std.proofs.lemmas.Nat.{le-div}
use Rattle.cany_base.specs.declared.class.Class.TheVariants as class
use Rattle.cany_base.specs.declared.log_entry.LogEntry.{LogEntry}
use Rattle.cany_base.specs.declared.log_entry.LogEntry.TheVariants.{Deliver, Failed, View}
use Rattle.cany_base.specs.declared.notice.NoticeKind.{NoticeKind}
use Rattle.cany_base.specs.declared.notice.NoticeKind.TheVariants.{Got}
use Rattle.cany_base.specs.Frame.{FrameParts}
use Rattle.cany_base.specs.Scenario.{ScenarioParts}
use Rattle.cany_model.specs.Rules.Log.{log_from}
use Rattle.cany_model.specs.Rules.Notices.{BelongsTo, IsReadable, NamesNode}
use Rattle.cany_model.specs.Rules.Protocol.{Protocol}
use Rattle.cany_model.specs.Rules.Rooms.{cycles}
use Rattle.cany_model.specs.Rules.Knowledge.{FailureSign}
use Rattle.cany_model.proofs.Among.{Among, Among-drop, Among-weaker, Each-weaker, count-cons, one_if}
use Rattle.cany_model.proofs.Rules.LogFacts.{log_split, made_by}
use Rattle.cany_model.proofs.Rules.ProtocolFacts.{IsFoundedEntry, IsSignal}
use Rattle.cany_model.proofs.Rules.RoomFacts.{count_below, pigeonhole, signs_below, stands_below}
use Rattle.cany_model.proofs.Rules.Site.SignLog.{is_entry_of, signs_once}

-- ---- each entry of a log

-- what follows from the reason of an entry, each entry of a log has
pub each_made : (P : LogEntry → Type 0) (scenario : ScenarioParts) (i : ℕ) (past : List NoticeKind)
    → ((p : Protocol) (place : ℕ) (entry : LogEntry) → IsFoundedEntry scenario p i (drop place past) entry → P entry)
    → AllByRecursion P (log_from scenario i past)
each_made P scenario i past gives = each_from (log_from scenario i past) one
  where
    each_from : (entries : List LogEntry) → ((e : LogEntry) → Among (λ y. y ≡ e) entries → P e) → AllByRecursion P entries
    each_from [] of = tt
    each_from (e ∷ entries) of = (of e (inl refl), each_from entries (λ d h. of d (inr h)))

    one : (e : LogEntry) → Among (λ y. y ≡ e) (log_from scenario i past) → P e
    one e h =
        let split = log_split (λ y. y ≡ e) scenario i past h in
        let made = made_by (λ y. y ≡ e) scenario split.0 split.1 i past split.2 in
        subst P made.is (gives split.0 made.place made.entry made.founded)

-- ---- what a sign in a log names

-- each notice that was read belongs to the scenario
abbrev pub AreRead : ScenarioParts → List NoticeKind → Type 0
AreRead scenario [] = Unit {0}
AreRead scenario (kind ∷ past) = IsReadable scenario (length past) kind × AreRead scenario past

-- the entry tells of the failure of a node of the bus, in a cycle of the run, if it tells of one
abbrev pub IsOfRun : ScenarioParts → LogEntry → Type 0
IsOfRun scenario (Deliver slot by msg payload) = Unit {0}
IsOfRun scenario (Failed slot node cycle) = (node < scenario.params.nodes) × (cycle ≤ cycles scenario)
IsOfRun scenario (View slot number members) = Unit {0}

-- a later slot lies in no earlier cycle
pub div_grows : (a b k : ℕ) → a ≤ b → a / k ≤ b / k
div_grows a b k l = elim (eq-zero-or-pos k) [
  | inl none ↦ let zero' : a / k ≡ 0 = ap (λ n. a / n) none ∙ div-zero a in omega (arith, zero')
  | inr some ↦ le-div (a / k) b k some (le_trans (div-mul-le_self a k) l)
]

-- the frame of a sign that was read names such a node and such a cycle
copy_names : (scenario : ScenarioParts) (past : List NoticeKind) (f : FrameParts) → AreRead scenario past → length past ≤ scenario.params.slots
    → f.class ≡ class.Fda → Among (λ n. n ≡ Got f) past → (f.node < scenario.params.nodes) × (f.number ≤ cycles scenario)
copy_names scenario [] f read within fda h = absurd h
copy_names scenario (kind ∷ past) f read within fda (inr h) = copy_names scenario past f read.1 (omega (arith, within)) fda h
copy_names scenario (kind ∷ past) f read within fda (inl got) =
    let names : NamesNode scenario scenario.params.cycle (length past) f =
    subst (λ c. BelongsTo scenario (length past) c f) fda (subst (IsReadable scenario (length past)) got read.0) in
    (names.node, omega (arith, names.number, div_grows (length past) scenario.params.slots scenario.params.cycle (omega (arith, within))))

-- and so does a sign that was entered
signal_names : (scenario : ScenarioParts) (i : ℕ) (past : List NoticeKind) (place slot : ℕ) (sign : FailureSign) → AreRead scenario past
    → length past ≤ scenario.params.slots → IsSignal scenario i (drop place past) slot sign
    → (sign.node < scenario.params.nodes) × (sign.cycle ≤ cycles scenario)
signal_names scenario i past place slot sign read within r = elim r.because [
  | inr found ↦
      let rest : length (drop place past) ≡ length past - place = length-drop place past in
      let early : slot ≤ scenario.params.slots = omega (arith, r.now, rest, within) in
      (found.node, omega (arith, found.cycle, div_grows slot scenario.params.slots scenario.params.cycle early))
  | inl told ↦
      let names = copy_names scenario past told.frame read within told.class (Among-drop (λ n. n ≡ Got told.frame) place past told.read) in
      let node : told.frame.node ≡ sign.node = ap (λ (s : FailureSign). s.node) told.tells in
      let cycle : told.frame.number ≡ sign.cycle = ap (λ (s : FailureSign). s.cycle) told.tells in
      (omega (arith, node, names.0), omega (arith, cycle, names.1))
]

entry_names : (scenario : ScenarioParts) (i : ℕ) (past : List NoticeKind) → AreRead scenario past → length past ≤ scenario.params.slots
    → (p : Protocol) (place : ℕ) (entry : LogEntry) → IsFoundedEntry scenario p i (drop place past) entry → IsOfRun scenario entry
entry_names scenario i past read within p place (Deliver slot by msg payload) r = tt
entry_names scenario i past read within p place (Failed slot node cycle) r =
    signal_names scenario i past place slot (record { node = node; cycle = cycle }) read within r
entry_names scenario i past read within p place (View slot number members) r = tt

-- what a node enters of signs names a node of the bus and a cycle of the run
pub signs_of_run : (scenario : ScenarioParts) (i : ℕ) (past : List NoticeKind) → AreRead scenario past → length past ≤ scenario.params.slots
    → AllByRecursion (IsOfRun scenario) (log_from scenario i past)
signs_of_run scenario i past read within = each_made (IsOfRun scenario) scenario i past (entry_names scenario i past read within)

-- ---- how many there are

abbrev pub is_failed : LogEntry → Bool
is_failed (Deliver slot by msg payload) = false
is_failed (Failed slot node cycle) = true
is_failed (View slot number members) = false

-- those of so many nodes, in so many cycles
abbrev signs_in : ScenarioParts → List FailureSign
signs_in scenario = signs_below scenario.params.nodes (cycles scenario + 1)

sign_listed : (scenario : ScenarioParts) (entry : LogEntry) → IsOfRun scenario entry → is_failed entry ≡ true
    → Among (λ sign. is_entry_of sign entry ≡ true) (signs_in scenario)
sign_listed scenario (Deliver slot by msg payload) h failed = absurd (false≢true failed)
sign_listed scenario (View slot number members) h failed = absurd (false≢true failed)
sign_listed scenario (Failed slot node cycle) h failed =
    Among-weaker (λ sign. sign ≡ record { node = node; cycle = cycle }) (λ sign. is_entry_of sign (Failed slot node cycle) ≡ true)
    (λ sign e. ap (λ s. is_entry_of s (Failed slot node cycle)) e
    ∙ and_from (node == node) (cycle == cycle) (eq-eqb node node refl) (eq-eqb cycle cycle refl))
    (signs_in scenario) (stands_below node cycle scenario.params.nodes (cycles scenario + 1) h.0 (omega (arith, h.1)))

-- at most one for each node and each cycle
pub few_signs : (scenario : ScenarioParts) (i : ℕ) (past : List NoticeKind) → AreRead scenario past → length past ≤ scenario.params.slots
    → count_by is_failed (log_from scenario i past) ≤ scenario.params.nodes * (cycles scenario + 1)
few_signs scenario i past read within =
    omega (
      arith,
      pigeonhole (λ sign entry. is_entry_of sign entry) is_failed (λ sign. true) (log_from scenario i past) (signs_in scenario)
          (Each-weaker (IsOfRun scenario) (λ entry. is_failed entry ≡ true → Among (λ sign. is_entry_of sign entry ≡ true) (signs_in scenario))
          (sign_listed scenario) (log_from scenario i past) (signs_of_run scenario i past read within))
          (λ sign. signs_once scenario i past sign),
      count_below scenario.params.nodes (cycles scenario + 1),
    )

-- ---- deliveries, signs and views are all

abbrev pub is_delivered : LogEntry → Bool
is_delivered (Deliver slot by msg payload) = true
is_delivered (Failed slot node cycle) = false
is_delivered (View slot number members) = false

abbrev pub is_view : LogEntry → Bool
is_view (Deliver slot by msg payload) = false
is_view (Failed slot node cycle) = false
is_view (View slot number members) = true

three_kinds : (entries : List LogEntry)
    → length entries ≡ count_by is_delivered entries + count_by is_failed entries + count_by is_view entries
three_kinds [] = refl
three_kinds (entry ∷ entries) =
    omega (
      arith,
      count-cons is_delivered entry entries,
      count-cons is_failed entry entries,
      count-cons is_view entry entries,
      one_kind entry,
      three_kinds entries,
    )
  where
    one_kind : (entry : LogEntry) → one_if (is_delivered entry) + one_if (is_failed entry) + one_if (is_view entry) ≡ 1
    one_kind (Deliver slot by msg payload) = refl
    one_kind (Failed slot node cycle) = refl
    one_kind (View slot number members) = refl

-- an entry of a log is that of a delivery, of a sign or of a view
pub log_parts : (scenario : ScenarioParts) (i : ℕ) (past : List NoticeKind)
    → length (log_from scenario i past)
    ≡ count_by is_delivered (log_from scenario i past) + count_by is_failed (log_from scenario i past) + count_by is_view (log_from scenario i past)
log_parts scenario i past = three_kinds (log_from scenario i past)
