-- Worked rows of whole texts: members, joins, leaves and restarts, and the defaults of the
-- parameters.
use Rattle.std.specs.Prelude.{◌≡◌, ℕ, pos, List, [], ◌∷◌, None, Ok, Err, refl, codes}
use Rattle.std.specs.Str.{chars, is_utf8}
use Rattle.toml.specs.Data.{Members, no_members}
use Rattle.cany_base.specs.declared.format.Format.TheVariants.{One, Two}
use Rattle.cany_base.specs.Nodes.{Nodes}
use Rattle.cany_base.specs.Params.{default_parameters_of}
use Rattle.cany_text.specs.declared.scenario_fault.KeyName.TheVariants as key
use Rattle.cany_text.specs.declared.scenario_fault.ScenarioFault.TheVariants.{NotText, WrongKind, OutOfRange}
use Rattle.cany_text.specs.declared.scenario_fault.TableName.TheVariants as in_table
use Rattle.cany_text.specs.ScenarioText.{document_of, scenario_of}
use Rattle.cany_text.specs.TomlKeys.{Read}
use Rattle.cany_rows.proofs.RowWords.{three, set}
use Rattle.cany_rows.proofs.Texts.TextWords.{number, numbers, texts, tables, run_in, five_slots, at_node, read, of_ok, text_row}

-- the members of five slots on three nodes, of which the text names these
abbrev members : List ℕ → Read Nodes
members these = of_ok (λ s. s.members) (read (five_slots (numbers (codes "members") these no_members)))

-- an array of one table, for an ask of a node in a slot
abbrev one_ask : List ℕ → ℕ → ℕ → Members → Members
one_ask key slot node others = tables key (at_node slot node no_members ∷ []) others

-- ---- bytes

not_utf_8 : scenario_of (255 ∷ []) ≡ Err NotText
unfolding scenario_of document_of is_utf8 chars
not_utf_8 = refl

-- ---- members

all_are_members_where_the_key_is_absent : of_ok (λ s. s.members) (read (five_slots no_members)) ≡ Ok (set 7)
unfolding text_row
all_are_members_where_the_key_is_absent = refl

a_number_may_stand_twice : members (2 ∷ 0 ∷ 2 ∷ []) ≡ Ok (set 5)
unfolding text_row
a_number_may_stand_twice = refl

nobody_is_a_member : members [] ≡ Ok (set 0)
unfolding text_row
nobody_is_a_member = refl

a_member_off_the_bus : members (0 ∷ 3 ∷ 4 ∷ []) ≡ Err (OutOfRange in_table.Top 0 key.Members (pos 3))
unfolding text_row
a_member_off_the_bus = refl

a_member_of_another_kind : read (five_slots (texts (codes "members") (codes "0" ∷ []) no_members))
    ≡ Err (WrongKind in_table.Top 0 key.Members)
unfolding text_row
a_member_of_another_kind = refl

a_number_alone_is_no_array : read (five_slots (number (codes "members") 0 no_members)) ≡ Err (WrongKind in_table.Top 0 key.Members)
unfolding text_row
a_number_alone_is_no_array = refl

-- ---- joins, leaves and restarts, in a run of more than two cycles

asks_of_a_site :
    read (run_in 1 3 160 (numbers (codes "members") (0 ∷ 1 ∷ [])
    (one_ask (codes "join") 40 2 (one_ask (codes "leave") 159 0 (one_ask (codes "restart") 80 1 no_members)))))
    ≡ Ok (record {
      params = three 160 1 2;
      members = set 3;
      sends = [];
      rules = [];
      joins = record { slot = 40; node = 2 } ∷ [];
      leaves = record { slot = 159; node = 0 } ∷ [];
      restarts = record { slot = 80; node = 1 } ∷ [];
      from = 0;
      inc = 0;
      journal = None;
    })
unfolding text_row
asks_of_a_site = refl

-- each is told by its own table
a_join_past_the_run : read (run_in 1 3 160 (one_ask (codes "join") 160 2 no_members)) ≡ Err (OutOfRange in_table.Join 0 key.Slot (pos 160))
unfolding text_row
a_join_past_the_run = refl

a_leave_past_the_run : read (run_in 1 3 160 (one_ask (codes "leave") 160 2 no_members))
    ≡ Err (OutOfRange in_table.Leave 0 key.Slot (pos 160))
unfolding text_row
a_leave_past_the_run = refl

a_restart_past_the_run : read (run_in 1 3 160 (one_ask (codes "restart") 160 2 no_members))
    ≡ Err (OutOfRange in_table.Restart 0 key.Slot (pos 160))
unfolding text_row
a_restart_past_the_run = refl

-- ---- parameters

-- each default is the least that the formulas allow, from the values before it
defaults_at_lag_1 : of_ok (λ s. s.params) (read (run_in 1 3 5 (number (codes "lag") 1 no_members))) ≡ Ok (record {
  format = One;
  nodes = 3;
  lag = 1;
  omit = 1;
  errors = 2;
  bound = 75;
  cycle = 152;
  life = 76;
  silence = 153;
  confirm = 10;
  slots = 5;
})
unfolding text_row
defaults_at_lag_1 = refl

-- a default follows a value that is given, and is held to no range
defaults_past_the_greatest_value :
    of_ok (λ s. s.params)
    (read (run_in 2 64 400000
    (number (codes "lag") 8 (number (codes "omit") 8 (number (codes "errors") 1000 (number (codes "bound") 1000000 no_members))))))
    ≡ Ok (record {
      format = Two;
      nodes = 64;
      lag = 8;
      omit = 8;
      errors = 1000;
      bound = 1000000;
      cycle = 2000016;
      life = 1000008;
      silence = 2000017;
      confirm = 10;
      slots = 400000;
    })
unfolding text_row
defaults_past_the_greatest_value = refl

the_silence_follows_the_life : of_ok (λ s. s.params.silence) (read (five_slots (number (codes "life") 100 no_members))) ≡ Ok 137
unfolding text_row
the_silence_follows_the_life = refl

-- a timer of RELCAN may be as long as a cycle, also one whose length the text leaves to its default
the_longest_timer : of_ok (λ s. s.params.confirm) (read (five_slots (number (codes "confirm") 72 no_members))) ≡ Ok 72
unfolding text_row
the_longest_timer = refl

-- without other keys they are the parameters by default
parameters_by_default :
    (of_ok (λ s. s.params) (read (run_in 1 3 5 no_members)) ≡ Ok (default_parameters_of One 3 5))
    × (of_ok (λ s. s.params) (read (run_in 2 40 5 no_members)) ≡ Ok (default_parameters_of Two 40 5))
unfolding text_row
parameters_by_default = (refl, refl)
