-- An entry of `send` that has each of its four keys, and no other.
use Rattle.std.proofs.Common.{◌≡◌, ℕ, true, List, [], ◌∷◌, String, Global, string_bytes, refl, sym, ◌∙◌}
use Rattle.std.specs.Str.{bytes_eq}
use Rattle.std.proofs.lemmas.Slice.Eq.{bytes_eq-Decides}
use Rattle.toml.specs.Data.{Members, member}
use Rattle.toml.specs.View.{view, members_view}
use Rattle.toml.specs.declared.value.Value.{Value}
use Rattle.cany_base.specs.Params.{Parameters}
use Rattle.cany_text.specs.declared.scenario_fault.KeyName.TheVariants as key
use Rattle.cany_text.specs.SendsText.{send_from}
use Rattle.cany_text.specs.TextNames.{key_name}
use Rattle.cany_text.specs.TomlKeys.{Entry}
use Rattle.cany_scenario.specs.SendsParts.{four_members, send_of_values}
use Rattle.cany_scenario.specs.declared.sends.SendValues.{SendValues}

-- the first entry, whose key has the bytes of a name
pub first_member : (old rest : List (String Global × Value)) (key : String Global) (value : Value) (shown bytes name : List ℕ)
    → old ≡ (key, value) ∷ rest → shown ≡ string_bytes key → bytes_eq shown bytes ≡ true → bytes ≡ name
    → members_view old ≡ member name (view value) (members_view rest)
first_member old rest key value shown bytes name split is called named =
    let same : string_bytes key ≡ name = sym is ∙ (bytes_eq-Decides shown bytes).0 called ∙ named in
    rw (split, same) refl

-- four members, one after another, and no more
pub all_members : (values : SendValues) (all after_payload after_node after_service : Members) (none : List (String Global × Value))
    → all ≡ member (key_name key.DataKey) (view values.payload.now) after_payload
    → after_payload ≡ member (key_name key.Node) (view values.node.now) after_node
    → after_node ≡ member (key_name key.Service) (view values.service.now) after_service
    → after_service ≡ member (key_name key.Slot) (view values.slot.now) (members_view none) → none ≡ [] → all ≡ four_members values
all_members values all after_payload after_node after_service none first second third fourth end = rw (first, second, third, fourth, end) refl

-- what such an entry stands for
pub send_from-four : (params : Parameters) (entry : Entry) (values : SendValues) → entry.members ≡ four_members values
    → send_of_values params entry values ≡ send_from params entry
unfolding send_from send_of_values key_name
send_from-four params entry values four = rw four refl
