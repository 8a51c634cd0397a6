-- The document of the bytes.
use Rattle.std.proofs.Common.{◌≡◌, ℕ, List, inl, inr, refl}
use Rattle.std.specs.Prelude.{Err}
use Rattle.std.specs.Str.{IsUtf8, is_utf8}
use Rattle.std.proofs.lemmas.Bool.{cases_Bool}
use Rattle.std.proofs.lemmas.Str.{is_utf8-from_IsUtf8, IsUtf8-from_is_utf8}
use Rattle.toml.specs.Parse.{parse_document}
use Rattle.cany_text.specs.declared.scenario_fault.ScenarioFault.TheVariants.{NotText, NotToml}
use Rattle.cany_text.specs.ScenarioText.{document_of}
use Rattle.cany_text.specs.TomlKeys.{or_fault}

-- of a text the document is that of `toml`
pub document_of-text : (bytes : List ℕ) → IsUtf8 bytes → document_of bytes ≡ or_fault NotToml (parse_document bytes)
unfolding document_of
document_of-text bytes text = rw (is_utf8-from_IsUtf8 bytes text) refl

-- and other bytes are none
pub document_of-other : (bytes : List ℕ) → ¬ IsUtf8 bytes → document_of bytes ≡ Err NotText
unfolding document_of
document_of-other bytes other = elim (cases_Bool (is_utf8 bytes)) [
  | inl text ↦ absurd (other (IsUtf8-from_is_utf8 bytes text))
  | inr no_text ↦ rw no_text refl
]
