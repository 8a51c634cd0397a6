use Rattle.std.proofs.Common.{◌≡◌, ℕ, List, Some, Result, Ok, Err, IsOkAnd, IsSome, map, string_bytes, refl, sym, subst, rules}
use Rattle.cany_base.specs.Scenario.{ScenarioParts}
use Rattle.cany_command.specs.declared.status.TheConstants.{DONE}
use Rattle.cany_command.specs.Answers.{OfChosen}
use Rattle.cany_command.specs.NoFault.{done_is_no_fault}
use Rattle.cany_command.specs.Refused.{Chosen}
use Rattle.cany_command.proofs.PerformedFacts.{other_words, succeeded, textless, unsucceeded}
use Rattle.cany_text.specs.ScenarioText.{scenario_of}
use Rattle.cany_watch.specs.Top.{AreWatch, choose, watch_command}
use Rattle.cany_watch.specs.WatchWords.{watched_node}
use Rattle.cany_watch.proofs.top.watch_top.Goals as goal

weaker : {A E : Type 0} (o : Result A E) (P Q : A → Type 0) → ((x : A) → P x → Q x) → IsOkAnd o P → IsOkAnd o Q
weaker (Ok x) P Q h p = h x p
weaker (Err e) P Q h p = p

-- success has one status, whichever scenario was run
one_status : (choice : ScenarioParts → Chosen) (bytes : List ℕ) (Fact : ScenarioParts → Type 0) → OfChosen choice bytes Fact
    → OfChosen choice bytes (λ chosen. DONE ≡ DONE)
one_status choice bytes Fact h =
    weaker (scenario_of bytes) (λ scenario. IsOkAnd (choice scenario) Fact) (λ scenario. IsOkAnd (choice scenario) (λ chosen. DONE ≡ DONE))
    (λ scenario. weaker (choice scenario) Fact (λ chosen. DONE ≡ DONE) (λ chosen fact. refl)) h

-- the words name no node
pub returns-in_default : goal.returns-in_default
returns-in_default g c =
    let other : AreWatch (map string_bytes c.args.words.now) → ⊥ = search rules in
    other_words watch_command _ _ _ done_is_no_fault other refl refl

-- there is no text
pub returns-in-Err : goal.returns-in-Err
returns-in-Err g c =
    let said = map string_bytes c.args.words.now in
    let named : watched_node said ≡ Some c.in-Some.node = search rules in
    textless watch_command said _ _ done_is_no_fault c.in-Err.status (subst IsSome (sym named) refl) tt refl
    c.in-Err.ensures.status c.in-Err.ensures.read_fault c.in-Err.ensures.too_long

-- the line of the node is written
pub returns-in-Ok-watch_text : goal.returns-in-Ok-watch_text
returns-in-Ok-watch_text g c =
    let said = map string_bytes c.args.words.now in
    let text = c.in-Ok.text.items in
    let read = c.in-Ok.ensures in
    let made = c.in-Ok-watch_text.ensures in
    let named : watched_node said ≡ Some c.in-Some.node = search rules in
    succeeded watch_command said _ _ done_is_no_fault DONE text (subst IsSome (sym named) refl) refl
    (record { whole = read.whole; end = read.end; within = read.within }) refl (made.done said named) (one_status (choose said) text _ (made.done said named))
    (made.accepted said named)

-- the text or the node is refused, or the line is not written, or not all of it
pub returns-in-Err-watch_text : goal.returns-in-Err-watch_text
returns-in-Err-watch_text g c =
    let said = map string_bytes c.args.words.now in
    let read = c.in-Ok.ensures in
    let made = c.in-Err-watch_text.ensures in
    let named : watched_node said ≡ Some c.in-Some.node = search rules in
    unsucceeded watch_command said _ _ done_is_no_fault c.in-Err-watch_text.status c.in-Ok.text.items (subst IsSome (sym named) refl) refl
    (record { whole = read.whole; end = read.end; within = read.within }) made.other (λ is. made.refused is said named) made.write_fault
    (λ is. made.prefix is said named) made.untouched
