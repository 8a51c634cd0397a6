-- The line of a refusal: its fields, parted by one space, and a line feed.
use Rattle.std.specs.Prelude.{ℕ, ℤ, pos, negsuc, suc, List, [], ◌∷◌, ◌++◌, Option, Some, None, codes, decimal}
use Rattle.cany_model.specs.declared.follow.FollowFault.{FollowFault}
use Rattle.cany_model.specs.declared.follow.FollowFault.TheVariants.{Refused, Unfinished}
use Rattle.cany_model.specs.declared.reply.StepReply.{StepReply}
use Rattle.cany_model.specs.declared.reply.StepReply.TheVariants.{Done, Lagging, Over, NothingYet, Stopped, NoNode}
use Rattle.cany_text.specs.declared.scenario_fault.ScenarioFault.{ScenarioFault}
use Rattle.cany_text.specs.declared.scenario_fault.ScenarioFault.TheVariants.{NotText, NotToml, UnknownKey, MissingKey, WrongKind, OutOfRange, TooMany, BadData, BoundTooSmall, RepeatedRule, TooOften, BadJournal, Memory}
use Rattle.cany_text.specs.declared.scenario_fault.TableName.{TableName}
use Rattle.cany_text.specs.ReportLines.{line_of}
use Rattle.cany_text.specs.TextNames.{key_name, param_name, table_name}

-- a number, with a `-` before one below zero
abbrev pub signed_decimal : ℤ → List ℕ
signed_decimal (pos n) = decimal n
signed_decimal (negsuc n) = codes "-" ++ decimal (suc n)

-- where a fault is: the table, and the place of the entry in it
abbrev place_fields : TableName → ℕ → List (List ℕ)
place_fields table place = codes "in" ∷ table_name table ∷ decimal place ∷ []

-- the line of a text that is no scenario, by its first fault; want of memory has no line
unfoldable pub scenario_refusal_line : ScenarioFault → List ℕ
scenario_refusal_line NotText = line_of (codes "refused not utf-8" ∷ [])
scenario_refusal_line NotToml = line_of (codes "refused not toml" ∷ [])
scenario_refusal_line (UnknownKey table place) = line_of (codes "refused unknown key" ∷ place_fields table place)
scenario_refusal_line (MissingKey table place name) = line_of (codes "refused missing key" ∷ key_name name ∷ place_fields table place)
scenario_refusal_line (WrongKind table place name) = line_of (codes "refused wrong kind" ∷ key_name name ∷ place_fields table place)
scenario_refusal_line (OutOfRange table place name value) =
    line_of (codes "refused out of range" ∷ key_name name ∷ place_fields table place ++ codes "value" ∷ signed_decimal value ∷ [])
scenario_refusal_line (TooMany table) = line_of (codes "refused too many" ∷ table_name table ∷ [])
scenario_refusal_line (BadData place) = line_of (codes "refused bad data in send" ∷ decimal place ∷ [])
scenario_refusal_line (BoundTooSmall which needed) =
    line_of (codes "refused bound too small" ∷ param_name which ∷ codes "needs" ∷ decimal needed ∷ [])
scenario_refusal_line (RepeatedRule index) = line_of (codes "refused repeated rule" ∷ decimal index ∷ [])
scenario_refusal_line (TooOften place) = line_of (codes "refused too often in restart" ∷ decimal place ∷ [])
scenario_refusal_line (BadJournal place) = line_of (codes "refused bad journal at" ∷ decimal place ∷ [])
scenario_refusal_line Memory = []

-- the line of a scenario that brings its own journal, where it may bring none
unfoldable pub journal_given_line : List ℕ
journal_given_line = line_of (codes "refused journal given to run" ∷ [])

-- why a step was refused; a step that was done is never refused
abbrev pub reply_fields : StepReply → List (List ℕ)
reply_fields Done = []
reply_fields (Lagging node unread) = codes "lagging node" ∷ decimal node ∷ codes "unread" ∷ decimal unread ∷ []
reply_fields (Over slots) = codes "over slots" ∷ decimal slots ∷ []
reply_fields (NothingYet now) = codes "nothing yet now" ∷ decimal now ∷ []
reply_fields (Stopped slot) = codes "stopped slot" ∷ decimal slot ∷ []
reply_fields (NoNode node) = codes "no node" ∷ decimal node ∷ []

abbrev pub unread_fields : Option ℕ → List (List ℕ)
unread_fields None = []
unread_fields (Some node) = codes "node" ∷ decimal node ∷ []

-- the line of a journal that is refused: the place of its first step that is not done, counted from
-- 0, and why; or how many slots ran by its end, and the least running node with something to read
unfoldable pub journal_refusal_line : FollowFault → List ℕ
journal_refusal_line (Refused place reply) = line_of (codes "refused journal step" ∷ decimal place ∷ reply_fields reply)
journal_refusal_line (Unfinished ran left) = line_of (codes "refused journal unfinished ran" ∷ decimal ran ∷ unread_fields left)
