-- The scenario of a storm: its sends and its faults are drawn from the 32-bit words of a generator
-- that the number starts.
use Rattle.std.specs.Prelude.{ℕ, zero, suc, ◌+◌, ◌*◌, ◌%◌, ◌==◌, List, [], ◌∷◌, ◌++◌, None, if◌then◌else◌, slice_index_or}
use Rattle.cany_base.specs.declared.format.Format.TheVariants.{One}
use Rattle.cany_base.specs.declared.message.SendAsk.{SendAsk}
use Rattle.cany_base.specs.declared.message.Service.{Service}
use Rattle.cany_base.specs.declared.message.Service.TheVariants.{Ed, Rel, Tot}
use Rattle.cany_base.specs.declared.rule.Place.TheVariants.{At, FrameNth}
use Rattle.cany_base.specs.declared.rule.Rule.{Rule}
use Rattle.cany_base.specs.declared.rule.Verdict.{Verdict}
use Rattle.cany_base.specs.declared.rule.Verdict.TheVariants.{Clean, Lost, Partial}
use Rattle.cany_base.specs.Frame.{data_class}
use Rattle.cany_base.specs.Params.{Parameters}
use Rattle.cany_base.specs.Scenario.{ScenarioParts}
use Rattle.cany_base.specs.Nodes.{nobody}
use Rattle.cany_model.specs.Rules.Messages.{Message, messages_of}
use Rattle.cany_text.specs.NodesText.{all_nodes, set_of}
use Rattle.rand_pcg.specs.Lcg.{Lcg, increment_of, started}
use Rattle.rand_pcg.specs.Pcg.{multiplier_64, pcg32}

-- ---- draws

-- what is drawn with a generator, and the generator after it
abbrev pub Draw : Type 0 → Type 0
Draw A = Lcg → A × Lcg

-- a draw, and then the next
infixl 10 ◌>>=◌
abbrev pub ◌>>=◌ : {A B : Type 0} → Draw A → (A → Draw B) → Draw B
(draw >>= f) g = f (draw g).0 (draw g).1

-- a value for which nothing is drawn
abbrev pub given : {A : Type 0} → A → Draw A
given x g = (x, g)

-- the generator of the storm of a number, in stream 1
unfoldable pub generator_of : ℕ → Lcg
generator_of number = started 64 multiplier_64 number (increment_of 64 1)

-- the next word
unfoldable pub next_word : Draw ℕ
next_word g = pcg32 g

-- the remainder of the next word
abbrev pub below : ℕ → Draw ℕ
below n = do
  word ← next_word
  given (word % n)

-- the first n of these draws, in order, counted from 0
unfoldable pub in_order : {A : Type 0} → (ℕ → Draw A) → ℕ → Draw (List A)
in_order draw zero = given []
in_order draw (suc n) = do
  before ← in_order draw n
  last ← draw n
  given (before ++ last ∷ [])

-- ---- what is drawn

abbrev pub storm_params : Parameters
storm_params = record {
  format = One;
  nodes = 8;
  lag = 0;
  omit = 2;
  errors = 2;
  bound = 211;
  cycle = 422;
  life = 211;
  silence = 423;
  confirm = 10;
  slots = 20000;
}

abbrev pub service_at : ℕ → Service
service_at n = if n == 0 then Ed else if n == 1 then Rel else Tot

-- the bytes of a payload: how many, and then each
abbrev pub payload_drawn : Draw (List ℕ)
payload_drawn = do
  count ← below 9
  in_order (λ _. below 256) count

-- send i, in one of the first 80 of the 90 slots from 90 i on
unfoldable pub send_drawn : ℕ → Draw SendAsk
send_drawn i = do
  after ← below 80
  node ← below 8
  service ← below 3
  payload ← payload_drawn
  given (record { slot = 90 * i + after; node = node; service = service_at service; payload = payload })

-- how the frame of a rule fares: lost, or rejected by these nodes
abbrev pub verdict_at : ℕ → ℕ → Verdict
verdict_at n reject = if n == 0 then Lost else Partial (record { bits = reject })

-- the rule for the first attempt to carry the data frame of a message
unfoldable pub rule_drawn : Message → Draw Rule
rule_drawn m = do
  verdict ← below 2
  reject ← below 256
  given (record { place = FrameNth (data_class m.service) m.seq m.origin 1; verdict = verdict_at verdict reject; stop = nobody })

-- what stands where there is no message
abbrev pub no_message : Message
no_message = record { slot = 0; origin = 0; seq = 0; service = Ed; payload = [] }

-- the rule for every fifth message
abbrev pub fifth_rule_drawn : List Message → ℕ → Draw Rule
fifth_rule_drawn messages q = rule_drawn (slice_index_or messages (5 * q) no_message)

-- node 7 stops in slot 10000
abbrev pub stop_rule : Rule
stop_rule = record { place = At 10000; verdict = Clean; stop = set_of (7 ∷ []) }

-- ---- the scenario

abbrev pub storm_of : List SendAsk → List Rule → ScenarioParts
storm_of sends rules = record {
  params = storm_params;
  members = all_nodes storm_params;
  sends = sends;
  rules = rules ++ stop_rule ∷ [];
  joins = [];
  leaves = [];
  restarts = [];
  from = 0;
  inc = 0;
  journal = None;
}

-- 200 sends, and then a rule for 40 of them
abbrev pub scenario_drawn : Draw ScenarioParts
scenario_drawn = do
  sends ← in_order send_drawn 200
  rules ← in_order (fifth_rule_drawn (messages_of sends)) 40
  given (storm_of sends rules)

-- the scenario of the storm of a number
unfoldable pub storm_scenario : ℕ → ScenarioParts
storm_scenario number = (scenario_drawn (generator_of number)).0
