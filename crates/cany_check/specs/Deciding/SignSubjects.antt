-- The failure signs of an account, as what entries of logs tell of: each under its place.
use Rattle.std.specs.Prelude.{◌≡◌, ◌==◌, ◌&&◌, ℕ, Bool, true, false, List, [], ◌∷◌, slice_get, Option, option_map}
use Rattle.std.specs.List.{AllByRecursion}
use Rattle.std.specs.Option.{option_and_then, option_map_or}
use Rattle.cany_base.specs.declared.log_entry.LogEntry.{LogEntry}
use Rattle.cany_check.specs.declared.account.record.SignRecord.{SignRecord}
use Rattle.cany_check.specs.Accounts.Account.{is_sign_before}
use Rattle.cany_check.specs.Accounts.Orderly.{sign_named}
use Rattle.cany_check.specs.Accounts.Words.{tells_sign}

-- the first slot that carried its frame
abbrev pub sign_since : SignRecord → Option ℕ
sign_since sign = option_map (λ slots. slots.first) sign.carried

-- by ascending cycle, and then node, each once
abbrev pub DoAscend : List SignRecord → Type 0
DoAscend [] = Unit {0}
DoAscend (x ∷ signs) = AllByRecursion (λ y. is_sign_before (sign_named x) (sign_named y) ≡ true) signs × DoAscend signs

-- whether the sign at the place is that of this node and cycle
abbrev pub names_at : List SignRecord → ℕ → (node cycle : ℕ) → Bool
names_at signs place node cycle = option_map_or (λ sign. node == sign.node && cycle == sign.cycle) (slice_get signs place) false

-- whether the entry tells of the sign at the place
abbrev pub tells_at : List SignRecord → ℕ → LogEntry → Bool
tells_at signs place entry = option_map_or (λ sign. tells_sign sign entry) (slice_get signs place) false

-- the slot since which a node has to take part to count for it
abbrev pub sign_since_at : List SignRecord → ℕ → Option ℕ
sign_since_at signs place = option_and_then sign_since (slice_get signs place)
