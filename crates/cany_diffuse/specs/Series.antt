-- The hash of a key.
use Rattle.std.specs.Prelude.{ℕ, ◌+◌, ◌*◌, ◌/◌, ◌%◌, ◌^◌, ◌==◌, if◌then◌else◌, List, length, slice_index}

-- the number of eight bytes, the lowest first
abbrev pub number_of : List ℕ → ℕ
number_of bytes =
    slice_index bytes 0 + slice_index bytes 1 * 2 ^ 8 + slice_index bytes 2 * 2 ^ 16 + slice_index bytes 3 * 2 ^ 24
    + slice_index bytes 4 * 2 ^ 32 + slice_index bytes 5 * 2 ^ 40 + slice_index bytes 6 * 2 ^ 48 + slice_index bytes 7 * 2 ^ 56

-- the key that a hasher holds after a write
abbrev pub key_after : ℕ → List ℕ → ℕ
key_after key bytes = if length bytes == 8 then number_of bytes else key

-- the group of a key, which it shares with the keys beside it, and above it the tag, which tells
-- the keys of a group apart
abbrev pub hash_of : ℕ → ℕ
hash_of key = key / 8 % 2 ^ 24 + key * 0x9e37_79b9_7f4a_7c15 % 2 ^ 64 / 2 ^ 56 * 2 ^ 24
